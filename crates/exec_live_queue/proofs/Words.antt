-- The names that most proofs cite, passed on from one place. Declares nothing.
pub use Rattle.atomic_table.{proofs.Lists.{at_longer, at_set, at_snoc, exchanged, one_turn, set_again, set_else, set_here}, specs.Table.{Act, Allows, Splits, State, Valid, carried_after, homes_after, keeps, opening, rest, step, turned}}
pub use Rattle.exec_live_queue.specs.{Calls.{AfterPush, AfterSteal, AtHand, Empties, Fills, HandsOut, HasKept, HasLooked, HasOverflowed, HasPopped, HasPublished, HasTaken, PushLeaves, fully, handed_after, looked}, Handles.{Owned, Stands}, Live.{AsLogged, FullAt, HomeAt, Homes, Kept, Knows, LiveQueue, opened, weight_of}, Numbers.{BesideClaim, InOrder, Outside, filled, half, head_word, words_of}, Plays.{queue_at, Claims, Found, Overflowed, Popped, Sat, Widened, after_pop, at_head, claimed_view, claims, flows_over, give_all, hand, laid, missed, newcomer, out, overflowed_view, popped_view, pops, pops_last, published_view, publishes, releases, restored_view, restores, returned, room, saw, saw_head, saw_tail, values_of, whole}, Seats.{AtRest, IsSeen, IsThief, MayRelease, Place, Rests, SameSeat}, declared.view.{Own.Own, Stage.{Stage, TheVariants.{Claimed, Idle, Owns, SawHead, SawTail}}, Theft.Theft, View.View}}
pub use Rattle.exec_words.specs.{Queue.{claimed, handed_out, overflowed, popped, published, push_answer, released, restored}, declared.queue.Steal.Steal}
pub use Rattle.std.{proofs.{Common.{Bool, List, [], ap, append_assoc, ap₂, arith, cond, drop-drop, eqb, inl, inr, le-leb, le_refl, length, length-append, length-drop, length-set, lt_of_not-le, map, mod-lt, ne_eqb, refl, replicate, rules, set, subst, suc, sym, take, zero, ℕ, ⊎_elim, ◌%◌, ◌*◌, ◌++◌, ◌+◌, ◌-◌, ◌/◌, ◌<◌, ◌^◌, ◌∙◌, ◌∷◌, ◌≡◌, ◌≢◌, ◌≤◌, ◌⊎◌}, Math.Nat.add-mod_right, lemmas.List.{drop-append-le, drop-take, drop_at, length-replicate, map-append, replicate_more, Sums.{sum_by-append, sum_by-cons, sum_by_push}}}, specs.{List.sum_by, Prelude.{IfSome, None, Option, Some, slice_get, slice_index}}}
unfoldable pub use Rattle.exec_live_queue.specs.Live.{labels}
pub use lib.ListN.{get_elem?, length-map}
pub use mathlib.Core.Logic.{dite}
pub use mathlib.Core.Option.{none, some, some-injective, some-ne-none}
pub use native.Mathlib.Decide.{dec_le, ℕ_discrete}
pub use prog.Atomic.{either}
