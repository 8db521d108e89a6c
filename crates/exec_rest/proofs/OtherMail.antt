-- Steps of the clock, the kernel and the peers send no message and take none; and no message is there in the first state.
use Rattle.std.proofs.{Common.{◌≡◌, ℕ, zero, suc, true, List, [], get_or, set, refl, sym, ap, ◌∙◌, subst, inl, inr, arith}, lemmas.Bool.{true≢false, false≢true}}
use Rattle.exec_words.specs.declared.word.PureWord.{PureWord}
use Rattle.exec_machine.specs.{declared.{config.Configuration.Configuration, state.MailMessage.MailMessage, step.Action.Action}, Callers.is_enabled, Progress.Plan}
use Rattle.exec_moves.specs.{Plays.{Playing, by_action, desk_of, first_desk, first_desks, first_playing}, State.{Desk, inbox_of, no_word, word_of}}
use Rattle.exec_rest.{specs.{Posted.{IsNumbered, IsPosted, IsTold, has_tested, is_early}, Rested.{IsLaidOut, IsRestful}}, proofs.{CallHeeds.set_at, CallMail.numbered_like, First.{awake_first, not_there, of_equal}, Others.{Beside, at_place, beside, is_other, latch_then, signalled_then}}}

-- what such a step leaves of what a worker knows of its mail
record Unread (d d' : Desk) : Type 0 where
  pub processed : d'.processed ≡ d.processed
  pub root : d'.root_ready ≡ d.root_ready
  pub batch : d'.batch ≡ d.batch

same_desk : (d : Desk) → Unread d d
same_desk d = record { processed = refl; root = refl; batch = refl }

module _ (c : Configuration) (x : Playing) where
  -- a completion lands: no other completion stands behind it
  landed_unread : (i k : ℕ) → Unread (desk_of c x k) (get_or (set x.desks i (record (desk_of c x i) { others = 0 })) k (first_desk c k))
  landed_unread = grind (arith, set_at, same_desk)

  unread : (a : Action) → is_other a ≡ true → (k : ℕ) → Unread (desk_of c x k) (desk_of c (by_action c x a).next k)
  unread = grind (arith, landed_unread, same_desk, false≢true)

  unsent : (a : Action) → is_other a ≡ true → (by_action c x a).next.things.inboxes ≡ x.things.inboxes
  unsent = grind arith

module _ (c : Configuration) (x y : Playing) (beside : Beside c x y) (unread : (k : ℕ) → Unread (desk_of c x k) (desk_of c y k)) (unsent : y.things.inboxes ≡ x.things.inboxes) (told : IsPosted c x) where
  box : (i : ℕ) → inbox_of y.things i ≡ inbox_of x.things i
  box i = ap (λ (boxes : List (List MailMessage)). get_or boxes i []) unsent

  numbered : (i : ℕ) → IsNumbered (word_of y.things i).batch (desk_of c y i).processed (inbox_of y.things i)
  numbered i =
      subst (λ n. IsNumbered (word_of y.things i).batch n (inbox_of y.things i)) (sym (unread i).processed)
      (numbered_like (word_of x.things i).batch (word_of y.things i).batch (desk_of c x i).processed (inbox_of x.things i) (inbox_of y.things i)
      (ap (λ (words : List PureWord). (get_or words i no_word).batch) beside.words) (box i) (told.numbered i))

  told_then : (i : ℕ) → IsTold c x i → IsTold c y i
  told_then i (inl latch) = inl (latch_then c x y beside i ∙ latch)
  told_then i (inr h) = inr (signalled_then c x y beside i h)

  stays_posted : IsPosted c y
  stays_posted =
      record {
        numbered = numbered;
        posted = λ i asleep some. told_then i (told.posted i ((beside.workers i).asleep asleep) (λ none. some (box i ∙ none)));
        early = λ i at some. told_then i (told.early i (sym (at_place c x y beside is_early i) ∙ at) (λ none. some (box i ∙ none)));
        tested = grind arith;
      }

pub posted_by_other : (c : Configuration) (x : Playing) → IsLaidOut c x → IsRestful c x → IsPosted c x → (a : Action) → is_other a ≡ true → is_enabled x.world.common a ≡ true → IsPosted c (by_action c x a).next
posted_by_other c x laid held told a other may = stays_posted c x (by_action c x a).next (beside c x laid a other) (unread c x a other) (unsent c x a other) told

-- THE FIRST STATE: no batch was published, none was taken, and no message is there

none_taken : (c : Configuration) (n from i : ℕ) (d : Desk) → d.processed ≡ 0 → (get_or (first_desks c n from) i d).processed ≡ 0
none_taken c zero from i d past = past
none_taken c (suc n) from zero d past = refl
none_taken c (suc n) from (suc i) d past = none_taken c n (suc from) i d past

pub first_posted : (p : Plan) → IsPosted p.config (first_playing p)
first_posted p =
    let n = p.config.workers in
    record {
      numbered = λ i. inl (
        of_equal (λ (w : PureWord). w.batch ≡ 0) n i no_word no_word refl refl ∙ sym (none_taken p.config n 0 i (first_desk p.config i) refl),
        of_equal (λ (ms : List MailMessage). ms ≡ []) n i [] [] refl refl,
      );
      posted = λ i asleep some. absurd (true≢false (sym asleep ∙ awake_first p i));
      early = λ i at some. not_there p is_early refl i at;
      tested = λ i at. not_there p has_tested refl i at;
    }
