-- A worker that sleeps does so until what is due next, also after an event of a worker.
use Rattle.std.{proofs.{Common.{◌≡◌, ◌≢◌, ℕ, ◌<◌, true, false, length, Option, sym, subst, inl, inr, arith}, lemmas.{Bool.{true≢false, cases_eq}, List.get_or-set_same}}, specs.Prelude.◌⊎◌}
use Rattle.exec_machine.specs.{declared.{config.Configuration.Configuration, event.Event.Event}, After.{after, common_after}, Allowed.Allowed, Choice.Choice, Deadlines.{is_after, next_due, rest_until}, Same.same_number, Tests.{is_awake, set_seat}, World.{Common, Own as Books, World, own_of, seat_of}}
use Rattle.exec_rest.proofs.Events.{seats_after}
use Rattle.exec_books.{specs.Booked.IsBooked, proofs.{Own.IsOwn, DuesLists.{HasDue, dues_kept}, DuesAfter.event_dues}}

same_moment : (m n : Option ℕ) → same_number m n ≡ true → m ≡ n
same_moment = grind arith

-- the event that lets it sleep says until when
sleeps_here : (s : Common) (i : ℕ) (until : Option ℕ) → i < length s.seats → until ≡ next_due s i → is_after s.clock until ≡ true → HasDue (set_seat s i (record (seat_of s i) { rest = rest_until until })) i
sleeps_here = grind (arith, get_or-set_same)

own_due : (c : Configuration) (me : Books) (s : Common) (i : ℕ) (e : Event) (choice : Choice) → i < length s.seats → is_awake (seat_of s i).rest ≡ true → Allowed c me s i e choice → HasDue (common_after c me s i e choice) i
own_due = grind (arith, seats_after, true≢false, sleeps_here, same_moment)

pub dues_then : (c : Configuration) (w : World) (i : ℕ) (e : Event) (choice : Choice) → length w.workers ≡ length w.common.seats → i < length w.common.seats → is_awake (seat_of w.common i).rest ≡ true
    → Allowed c (own_of w i) w.common i e choice → IsOwn w.common i e → IsBooked w
    → (j : ℕ) → is_awake (seat_of (after c w i e choice).common j).rest ≡ false
    → let s = (after c w i e choice).common in ((seat_of s j).rest ≡ rest_until (next_due s j)) × (is_after s.clock (next_due s j) ≡ true)
dues_then c w i e choice owns here awake may own held j = by (cases_eq j i)
  where
    late : Common
    late = common_after c (own_of w i) w.common i e choice

    by : (j ≡ i) ⊎ (j ≢ i) → HasDue late j
    by (inl is) = subst (HasDue late) (sym is) (own_due c (own_of w i) w.common i e choice here awake may)
    by (inr apart) = dues_kept j w.common late (event_dues c (own_of w i) w.common i j apart e choice own) (held.dues j)
