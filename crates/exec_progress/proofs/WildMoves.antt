-- The wild moves keep pace too: what was stolen is in hand, a search count is held where it is returned, and no spin grows too long.
use Rattle.std.proofs.{Common.{◌≡◌, ℕ, ◌+◌, ◌≤◌, ◌==◌, Bool, true, false, if◌then◌else◌, take, refl, sym, subst, arith, inl, inr}, lemmas.Bool.{false≢true, cases_Bool}}
use Rattle.exec_words.specs.{declared.head.Head.Head, Head.claim_at, Queue.{Queue, head_of, tail_of}, Word.asks_signal}
use Rattle.exec_machine.specs.{declared.config.Configuration.Configuration, Ranges.largest_spin, Tests.is_empty, World.{Common, Own as Books}}
use Rattle.exec_moves.specs.{declared.{handing.{AfterSignal.AfterSignal, InSignal.InSignal as signals}, idling.{InRingWait.{InRingWait, InRingWait as ring}, InScan.InScan, InWordWait.InWordWait, Stay.Stay, InLook.InLook as look}, place.{Place.{Place, Place as at}, InService.InService as step}}, Callback.is_of_pool, Claim.is_ring, Move.{move, move_at}, Parts.after_signal, Pop.same_head, Serve.Ring, State.{Desk, Moved, Things, word_of}, Thing.ring_of, Wait.enter_ring}
use Rattle.exec_credit.{specs.Spins.{IsShort, IsWithin}, proofs.Spins.within_largest}
use Rattle.exec_progress.{specs.{Going.{KnowsTail, has_called_back, is_moving, loads_queues}, Owed.quiet_items, Paced.KeepsPace}, proofs.{PaceParts.{is_wild, Calm, headed, signalled}, PaceMoves.in_place, PacePolls.{Fine, none_left}}}

-- A CLAIM

claims_some : (h : Head) (tail : ℕ) (q : Queue ℕ) → same_head h (head_of q) ≡ true → h.real + 2 ≤ tail → tail ≤ tail_of q → is_empty (take (claim_at h tail) q.values) ≡ false
claims_some = grind arith

-- OF A DESK

module _ (c : Configuration) (pool : Bool) where
  -- with a spinner that is within, at a calm place
  pub calm_pace : (budget : ℕ) → budget ≤ largest_spin c.spin → (e : Desk) → IsWithin c.spin e.spinner → Calm pool budget (quiet_items e == 0) e.place → KeepsPace c pool e
  calm_pace = grind arith

  -- at a place of which nothing but the spin is to be known
  pub off_pace : (e : Desk) → IsWithin c.spin e.spinner → loads_queues e.place ≡ false → is_moving e.place ≡ false → has_called_back e.place ≡ false → IsShort c.spin e.place
      → KeepsPace c pool e
  off_pace = grind arith

  scan_pace : (p : InScan) (e : Desk) → e.place ≡ at.Scan p → IsWithin c.spin e.spinner → (is_moving (at.Scan p) ≡ true → is_empty e.loot ≡ false) → KeepsPace c pool e
  scan_pace = grind arith

  move_if : {T : Type 0} (b : Bool) (m k : Moved T) → (b ≡ true → KeepsPace c pool m.desk) → (b ≡ false → KeepsPace c pool k.desk) → KeepsPace c pool (if b then m else k).desk
  move_if true m k one other = one refl
  move_if false m k one other = other refl

-- OF A MOVE

module _ (c : Configuration) (i : ℕ) (me : Books) (s : Common) (d : Desk) (x : Things) (pace : KeepsPace c (is_of_pool s i) d) where
  abbrev pool : Bool
  pool = is_of_pool s i

  abbrev Keeps : Desk → Type 0
  Keeps e = KeepsPace c pool e

  le : d.spinner.budget ≤ largest_spin c.spin
  le = within_largest c.spin d.spinner.budget pace.budget.none pace.budget.budget

  tame : (e : Desk) → Fine c i me s d x e → Keeps e
  tame e fine = calm_pace c pool d.spinner.budget le e (subst (IsWithin c.spin) (sym fine.0) pace.budget) fine.1

  -- at a wait on the ring
  on_ring : (p : InRingWait) (y : Stay) (e : Desk) → e.place ≡ at.RingWait p y → e.spinner ≡ d.spinner → Keeps e
  on_ring p y e is same = off_pace c pool e (rw same pace.budget) (rw is refl) (rw is refl) (rw is refl) (rw is tt)

  published : (b : Bool) → d.searching ≡ b → Keeps (record d { place = at.Look (if b then look.ReturnLookCount else look.LookAtMirror false) })
  published true h = off_pace c pool _ pace.budget refl refl refl tt
  published false h = off_pace c pool _ pace.budget refl refl refl tt

  some_loot : (p : InScan) → d.place ≡ at.Scan p → is_moving (at.Scan p) ≡ true → is_empty d.loot ≡ false
  some_loot p here h = pace.moves (rw here h)

  in_scan : (p : InScan) → d.place ≡ at.Scan p → is_wild (at.Scan p) ≡ true → KnowsTail c x (at.Scan p) → Keeps (move_at c i me s d x (at.Scan p)).desk
  in_scan = grind (arith, move_if, scan_pace, claims_some, tame, headed, some_loot, false≢true)

  entered : (y : Stay) (r : Ring) (b : Bool) → r.busy ≡ b → Keeps (enter_ring y me d r).desk
  entered y r true h = rw h (on_ring _ y _ refl refl)
  entered y r false h = rw h (on_ring _ y _ refl refl)

  in_ring_wait : (p : InRingWait) (y : Stay) → is_wild (at.RingWait p y) ≡ true → Keeps (move_at c i me s d x (at.RingWait p y)).desk
  in_ring_wait ring.ArmRing y wild = on_ring _ y _ refl refl
  in_ring_wait ring.EnterRing y wild = entered y (ring_of s x i) _ refl
  in_ring_wait ring.SleepOnRing y wild = grind arith
  in_ring_wait _ y wild = absurd (false≢true wild)

  in_word_wait : (p : InWordWait) → d.place ≡ at.WordWait p → is_wild (at.WordWait p) ≡ true → Keeps (move_at c i me s d x (at.WordWait p)).desk
  in_word_wait = grind arith

  signals_on : (b : Bool) (is_ring : Bool) (j : ℕ) (a : AfterSignal) → Keeps (record d { place = if b then at.Signal (signals.Raise is_ring) j a else after_signal c i me s a d })
  signals_on true is_ring j a = off_pace c pool _ pace.budget refl refl refl tt
  signals_on false is_ring j a = tame _ (refl, signalled c i me s d.spinner.budget _ a d (none_left me d))

  -- of a wild one
  pub pace_wild : (p : Place) → d.place ≡ p → KnowsTail c x p → is_wild p ≡ true → Keeps (move_at c i me s d x p).desk
  pace_wild (at.Look look.Publish) here can wild = published d.searching refl
  pace_wild (at.Scan p) here can wild = in_scan p here wild can
  pace_wild (at.RingWait p y) here can wild = in_ring_wait p y wild
  pace_wild (at.WordWait p) here can wild = in_word_wait p here wild
  pace_wild (at.Signal signals.SetLatch j b) here can wild = signals_on (asks_signal (word_of x j)) (is_ring (word_of x j).target) j b
  pace_wild (at.Service (step.Signal j b) v) here can wild = off_pace c pool _ pace.budget refl refl refl tt
  pace_wild _ here can wild = absurd (false≢true wild)

  -- of any
  pub pace_at : KnowsTail c x d.place → Keeps (move c i me s d x).desk
  pace_at can = elim (cases_Bool (is_wild d.place)) [
    | inl wild ↦ pace_wild d.place refl can wild
    | inr off ↦ tame _ (in_place c i me s d x d.place refl pace.loads pace.called_back off)
  ]
