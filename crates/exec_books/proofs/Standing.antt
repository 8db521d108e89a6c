-- Each request stands in its lists after an event of a worker, its own and those of others.
use Rattle.std.{proofs.{Common.{◌≡◌, ◌≢◌, ℕ, ◌<◌, ◌≤◌, List, length, arith}, lemmas.{Bool.{cases_eq, cases_lt}, List.{get_or-set_other, get_or-set_same, get_or_append_left, get_or_past, length-set}}}, specs.Prelude.◌⊎◌}
use Rattle.exec_machine.specs.{declared.{config.Configuration.Configuration, event.Event.Event, state.Request.Request}, After.{after, common_after, own_after}, Allowed.Allowed, Choice.Choice, World.{Common, Own as Books, World, own_of, request_of, seat_of}}
use Rattle.exec_books.{specs.{Listed.{IsListed, AreListed}, Booked.IsBooked}, proofs.{Listed.no_listed, Mine.mine_then, Own.IsOwn, Spares.{Spared, new_one, same_worker, spares}}}
use Rattle.exec_rest.proofs.Events.{seats_after}

-- what stays of a request keeps it where it stands
listed_still : {me : Books} {landed : List ℕ} {k : ℕ} {x y : Request} → Spared x y → IsListed me landed k x → IsListed me landed k y
listed_still = grind arith

module _ (c : Configuration) (w : World) (i : ℕ) (e : Event) (choice : Choice) (owns : length w.workers ≡ length w.common.seats) (here : i < length w.common.seats)
    (may : Allowed c (own_of w i) w.common i e choice) (own : IsOwn w.common i e) (held : IsBooked w) where
  abbrev late : World
  late = after c w i e choice

  abbrev then : Common
  then = common_after c (own_of w i) w.common i e choice

  abbrev mine_late : Books
  mine_late = own_after c (own_of w i) w.common i e choice

  -- the own parts of those who were there before
  own_here : own_of late i ≡ mine_late
  own_here = grind (arith, get_or_append_left, length-set, get_or-set_same)

  pub own_apart : (j : ℕ) → j < length w.common.seats → j ≢ i → own_of late j ≡ own_of w j
  own_apart = grind (arith, get_or_append_left, length-set, get_or-set_other)

  -- its own
  listed_here : (k : ℕ) → (request_of then k).worker ≡ i → IsListed (own_of late (request_of then k).worker) (seat_of then (request_of then k).worker).landed k (request_of then k)
  listed_here = grind (arith, mine_then, own_here)

  -- that of another worker
  listed_apart : (k : ℕ) → k < length w.common.requests → ((request_of w.common k).worker ≡ i → ⊥)
      → IsListed (own_of late (request_of then k).worker) (seat_of then (request_of then k).worker).landed k (request_of then k)
  listed_apart = grind (arith, spares, listed_still, seats_after, own_apart)

  -- nobody's
  listed_past : (k : ℕ) → length then.requests ≤ k → IsListed (own_of late (request_of then k).worker) (seat_of then (request_of then k).worker).landed k (request_of then k)
  listed_past = grind (arith, get_or_past, no_listed)

  each_listed : AreListed late
  each_listed k = by (cases_lt k (length w.common.requests)) (cases_eq (request_of w.common k).worker i) (cases_lt k (length then.requests))
    where
      by : (k < length w.common.requests) ⊎ (length w.common.requests ≤ k) → ((request_of w.common k).worker ≡ i) ⊎ ((request_of w.common k).worker ≢ i)
          → (k < length then.requests) ⊎ (length then.requests ≤ k) → IsListed (own_of late (request_of then k).worker) (seat_of then (request_of then k).worker).landed k (request_of then k)
      by = grind (arith, listed_here, same_worker, listed_apart, new_one, listed_past)

pub listed_then : (c : Configuration) (w : World) (i : ℕ) (e : Event) (choice : Choice) → length w.workers ≡ length w.common.seats → i < length w.common.seats
    → Allowed c (own_of w i) w.common i e choice → IsOwn w.common i e → IsBooked w → AreListed (after c w i e choice)
listed_then c w i e choice owns here may own held = each_listed c w i e choice owns here may own held
