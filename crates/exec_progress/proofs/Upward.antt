-- What many places have in common: a turn begins anew, or the worker comes to its wait.
use Rattle.std.{proofs.Common.{◌≡◌, ℕ, suc, ◌+◌, ◌≤◌, ◌<◌, Bool, true, false, not, ◌&&◌, if◌then◌else◌, refl, ap, arith, ◌⊎◌, inl, inr}, specs.Prelude.nat_lt}
use Rattle.exec_machine.specs.{declared.config.Configuration.Configuration, Deadlines.next_due, Ranges.{largest_spin, ring_size}, World.{Common, Own as Books}}
use Rattle.exec_moves.specs.{declared.{handing.AfterLeave.AfterLeave, idling.{InRingWait.InRingWait, InWordWait.InWordWait, Stay.Stay}, place.{AfterService.AfterService, Place.Place}}, Callback.{has_requests, is_full, ring_wait, serve}, Counts.one_if, Load.leaves_for_turn, State.Desk, Wait.{is_near, waits, word_wait}}
use Rattle.exec_progress.{specs.{Effort.is_short, Owed.{quiet_items, signs, signs_on}, Ranks.full_ring}, proofs.Tools.{Now, OwesLess, OwesNoMore, ahead_at, at_most, gates, goes_down, goes_up, into_spin, keeps_turns, left, others_at, rest, spun, taken_up, wanted_at}}

-- the same at another place
abbrev pub put : Now → Place → Now
put b q = record b { d = record b.d { place = q } }

-- A TURN BEGINS ANEW at one of these places
abbrev pub IsTop : Place → Type 0
IsTop q = (q ≡ Place.LeaveSearch AfterLeave.Begin) ⊎ ((q ≡ serve AfterService.Begin) ⊎ (q ≡ Place.BeginTurn))

module _ (c : Configuration) (i : ℕ) where
  pub leaves_is_top : (me : Books) (s : Common) (e : Desk) → IsTop (leaves_for_turn c i me s e)
  leaves_is_top = grind arith

  -- b is the state afterwards, whatever its place
  pub record Anew (a b : Now) : Type 0 where
    pub long_before : is_short a.d.place ≡ false
    pub items_kept : quiet_items b.d ≤ rest c i a
    pub gates_kept : gates c i b ≤ gates c i a
    pub owes : OwesLess c i a (put b Place.BeginTurn)

  pub to_turn : (a b : Now) → Anew a b → (q : Place) → IsTop q → left c i (put b q) < left c i a
  to_turn a b it q (inl is) =
      rw is (goes_up c i a (put b (Place.LeaveSearch AfterLeave.Begin)) (grind (arith, it.long_before, it.items_kept, it.gates_kept, it.owes.turn_paid, it.owes.spins_kept)))
  to_turn a b it q (inr (inl is)) =
      rw is (goes_up c i a (put b (serve AfterService.Begin)) (grind (arith, it.long_before, it.items_kept, it.gates_kept, it.owes.turn_paid, it.owes.spins_kept)))
  to_turn a b it q (inr (inr is)) =
      rw is (goes_up c i a (put b Place.BeginTurn) (grind (arith, it.long_before, it.items_kept, it.gates_kept, it.owes)))

  -- a sure sign is on
  pub for_sure : (a b : Now) → ahead_at c i a ≡ 0 → 1 ≤ wanted_at c i a → 1 ≤ signs_on (signs c i b.me b.s b.d b.x) → OwesLess c i a (put b Place.BeginTurn)
  for_sure a b none some on = taken_up c i a (put b Place.BeginTurn) none some (omega (arith, on))

  -- THE WAIT. b is the state afterwards, whatever its place.
  abbrev pub resting : Now → Now
  resting b = put b (Place.WordWait InWordWait.ArmWord)

  pub record ToWait (a b : Now) : Type 0 where
    pub long_before : is_short a.d.place ≡ false
    pub high : suc full_ring + quiet_items b.d ≤ rest c i a
    pub gates_kept : gates c i b ≤ gates c i a
    pub nothing_ahead : ahead_at c i a ≡ 0
    pub wanted_kept : 1 ≤ wanted_at c i b → 1 ≤ wanted_at c i a
    pub others_kept : others_at c i (resting b) ≤ others_at c i a
    pub spun_kept : spun c i (resting b) + 1 ≤ spun c i a

  -- a place on the way of stage 0, which leads to no other scan
  kept : (a b : Now) → ToWait a b → (q : Place) → ahead_at c i (put b q) ≡ 0 → others_at c i (put b q) ≡ others_at c i (resting b) → spun c i (put b q) ≤ spun c i (resting b) + 1
      → OwesNoMore c i a (put b q)
  kept a b it q none same more =
      keeps_turns c i a (put b q) (grind (arith, it.nothing_ahead, it.wanted_kept, same, it.others_kept, more, it.spun_kept))

  to_ring : (a b : Now) → ToWait a b → (v : Bool) → left c i (put b (if v then Place.RingWait InRingWait.EnterFullRing Stay.Turn else Place.RingWait InRingWait.TestRing Stay.Turn)) < left c i a
  to_ring a b it true =
      goes_down c i a (put b (Place.RingWait InRingWait.EnterFullRing Stay.Turn)) (record {
        long_before = it.long_before;
        long_after = refl;
        less = omega (arith, it.high);
        gates_kept = it.gates_kept;
        owes = kept a b it (Place.RingWait InRingWait.EnterFullRing Stay.Turn) (omega arith) (omega arith) (omega arith);
      })
  to_ring a b it false =
      goes_down c i a (put b (Place.RingWait InRingWait.TestRing Stay.Turn)) (record {
        long_before = it.long_before;
        long_after = refl;
        less = omega (arith, it.high);
        gates_kept = it.gates_kept;
        owes = kept a b it (Place.RingWait InRingWait.TestRing Stay.Turn) (omega arith) (omega arith) (omega arith);
      })

  to_word : (a b : Now) → ToWait a b → (n : ℕ) → n ≤ largest_spin c.spin → (v : Bool)
      → left c i (put b (if v then Place.WordWait (InWordWait.SpinOnBatch n) else Place.WordWait InWordWait.ArmWord)) < left c i a
  to_word a b it n few true =
      let e = put b (Place.WordWait (InWordWait.SpinOnBatch n)) in
      let most = at_most c i e (one_if (nat_lt 0 (wanted_at c i e)) + others_at c i e) (spun c i (resting b)) (λ h. omega arith) (λ h. omega arith) in
      let all = ap (λ k. if nat_lt 0 k then 0 else spun c i a) it.nothing_ahead in
      into_spin c i a e (record {
        long_before = it.long_before;
        long_after = refl;
        less = omega (arith, it.high, few);
        gates_kept = it.gates_kept;
        turns_kept = (kept a b it (Place.WordWait (InWordWait.SpinOnBatch n)) (omega arith) (omega arith) (omega arith)).turns_kept;
        spin_paid = omega (arith, most.1, it.spun_kept, all);
      })
  to_word a b it n few false =
      goes_down c i a (resting b) (record {
        long_before = it.long_before;
        long_after = refl;
        less = omega (arith, it.high);
        gates_kept = it.gates_kept;
        owes = kept a b it (Place.WordWait InWordWait.ArmWord) (omega arith) (omega arith) (omega arith);
      })

  pub to_wait : (a b : Now) → ToWait a b → (s : Common) (e : Desk) → e.spinner.budget ≤ largest_spin c.spin → left c i (put b (waits c i s e)) < left c i a
  to_wait a b it s e few = by (has_requests i s)
    where
      by : (v : Bool) → left c i (put b (if v then ring_wait (ring_size c) Stay.Turn e else word_wait c i s e)) < left c i a
      by true = to_ring a b it (is_full (ring_size c) e)
      by false = to_word a b it e.spinner.budget few (nat_lt 0 e.spinner.budget && not (is_near c e (next_due s i)))
