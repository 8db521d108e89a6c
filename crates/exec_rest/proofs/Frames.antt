-- What the event of a worker's move leaves of seats and callers, and what the move leaves of the places of all others.
use Rattle.std.{proofs.{Common.{◌≡◌, ◌≢◌, ℕ, zero, suc, ◌<◌, ◌+◌, true, false, List, [], ◌∷◌, ◌++◌, length, Option, refl, ◌∙◌, arith, get_or}, lemmas.List.{get_or_append_left, get_or-set_other, get_or-set_same, length-set}}, specs.Prelude.◌⊎◌}
use Rattle.exec_machine.specs.{declared.{config.Configuration.Configuration, event.Event.{Event, TheVariants.{Dedicated, End, Rouse, Sleep}}}, After.common_after, Choice.Choice, Tests.{has_ended, is_awake}, World.{Common, Own as Books, seat_of}}
use Rattle.exec_moves.specs.{Callback.is_of_pool, Plays.{Playing, by_move, desk_of}, State.{Desk, Moved, Things}}
use Rattle.exec_rest.proofs.{Events.{Seated, callers_after, own_landed, seats_after}, Heeds.landed_after}

module _ (c : Configuration) (me : Books) (s : Common) (i : ℕ) (e : Event) (choice : Choice) where
  abbrev pub then : Common
  then = common_after c me s i e choice

  at : (j : ℕ) → Seated i e j (seat_of s j) (seat_of then j)
  at = seats_after c me s i e choice

  -- who is of the pool stays so, and no other worker is
  pub pool_after : (j : ℕ) → is_of_pool then j ≡ is_of_pool s j
  pool_after j = (at j).pool

  -- only its own end ends a worker
  pub ended_after : (j : ℕ) → has_ended (seat_of then j).phase ≡ true → (has_ended (seat_of s j).phase ≡ true) ⊎ ((j ≡ i) × (e ≡ End))
  ended_after j h = (at j).ended h

  pub landed_same : (j : ℕ) → j ≢ i → (seat_of then j).landed ≡ (seat_of s j).landed
  landed_same j apart = (at j).landed apart

  pub landed_own : (seat_of then i).landed ≡ landed_after s i e
  landed_own = (at i).own refl ∙ own_landed s i e

  -- only its own sleep lets a worker sleep, and who is roused is awake
  pub asleep_after : (j : ℕ) → is_awake (seat_of then j).rest ≡ false → ((is_awake (seat_of s j).rest ≡ false) × (e ≢ Rouse j)) ⊎ ((j ≡ i) × ((until : Option ℕ) × (e ≡ Sleep until)))
  asleep_after j h = (at j).asleep h

  pub callers_same : then.callers ≡ s.callers
  callers_same = callers_after c me s i e choice

-- more elements, which are there the default, change none
more_same : (xs more : List Desk) (d : Desk) (j : ℕ) → ((n : ℕ) → j ≡ length xs + n → get_or more n d ≡ d) → get_or (xs ++ more) j d ≡ get_or xs j d
more_same [] more d j there = there j (omega arith)
more_same (x ∷ xs) more d zero there = refl
more_same (x ∷ xs) more d (suc j) there = more_same xs more d j (λ n is. there n (omega (arith, is)))

module _ (c : Configuration) (x : Playing) (i : ℕ) (m : Moved Things) where
  abbrev pub next : Playing
  next = (by_move c x i m).next

  pub desk_own : i < length x.desks → desk_of c next i ≡ m.desk
  desk_own = grind (arith, get_or_append_left, length-set, get_or-set_same)

  pub desk_other : ((t k : ℕ) → m.event ≡ Dedicated t k → k ≡ length x.desks) → (j : ℕ) → j ≢ i → desk_of c next j ≡ desk_of c x j
  desk_other = grind (arith, more_same, get_or-set_other, length-set)
