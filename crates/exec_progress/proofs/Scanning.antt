-- The scan: a queue after the other is passed, or some of its values are claimed, moved and published; and a turn begins anew for them.
use Rattle.std.{proofs.{Common.{◌≡◌, ℕ, ◌+◌, ◌-◌, ◌≤◌, ◌<◌, ◌==◌, Bool, true, false, not, ◌&&◌, ◌++◌, List, [], ◌∷◌, if◌then◌else◌, refl, sym, ap, ◌∙◌, arith}, lemmas.{Bool.{and_from, eq-eqb, le-leb, ltb-true, ne_eqb}, List.get_or-set_same}}, specs.Prelude.{nat_lt, take, slice_set}}
use Rattle.exec_words.specs.{declared.head.Head.Head, Generator.stirred, Head.{claim_at, claimed_head, is_spent}, Queue.{Queue, claimed, head_of, published, released, room_of, tail_of}}
use Rattle.exec_machine.specs.{declared.config.Configuration.Configuration, Tests.is_empty, World.{Common, Own as Books}}
use Rattle.exec_moves.specs.{declared.{idling.{InLook.InLook, InScan.InScan, Scan.Scan}, place.Place.Place}, Callback.is_of_pool, Counts.one_if, Load.leaves_for_turn, Pop.same_head, Search.{begun_scan, from_of, half, judge_head, looks_at, past, store_moved}, State.{Desk, Things, no_queue, queue_of, turns}, Thing.{set_queue, with_queue}}
use Rattle.exec_progress.{specs.{Effort.{may_miss, second_scan}, Going.{Falls, FallsAt, IsGoing, seen, stands}, Owed.{can_steal, is_stealable}, Heights.{release_half, their_tail}, Ranks.{is_fresh, passing}}, proofs.{Idling.{FallsTo, chosen, desk_to, height, idles, in_look, in_scan, loads}, Passing.{Within, above, can_at, comes_to_all, empty_is_not, few_are_not, judged, looks, looks_past, misses_more, misses_same, same_parts, second_le}, Tools.{afterwards, before}, Upward.{for_sure, leaves_is_top, to_turn}, Popping.same_again}}

none_behind : (xs ys : List ℕ) → is_empty ys ≡ false → is_empty (xs ++ ys) ≡ false
none_behind [] ys some = some
none_behind (n ∷ xs) ys some = refl

-- with too little room the own queue, which is dry, is claimed
narrow : (q : Queue ℕ) → q.values ≡ [] → is_spent (tail_of q) ≡ false → nat_lt (room_of q) half ≡ true → (q.gap == 0) ≡ false
narrow = grind arith

release_low : (b : Bool) → release_half b ≤ release_half false
release_low true = omega arith
release_low false = omega arith

module _ (c : Configuration) (i : ℕ) (me : Books) (s : Common) (d : Desk) (x : Things) where
  abbrev at : InScan → Place
  at p = Place.Scan p

  abbrev here : InScan → ℕ
  here p = height c i me s d x (stands (at p) d) x (at p)

  dry : (p : InScan) → IsGoing c i (seen (at p) me) s (stands (at p) d) x (at p) → is_stealable (queue_of x i) ≡ false
  dry p it = empty_is_not (queue_of x i) (it.dried (it.pooled refl) refl)

  -- a queue was but loaded
  on : (p : InScan) (j : ℕ) (q : Place) (r n : ℕ) (again : Bool) (calm : is_stealable (queue_of x i) ≡ false) → Within c i s (desk_to c i me s d x q r d.loot d.searching) x calm n again q
      → n + second_scan c again < here p → FallsTo c i me s d x (at p) r d.loot d.searching (set_queue j x (queue_of x j)) q
  on p j q r n again calm to low = loads c i me s d x j (at p) q r (in_scan i s p) to.0 (omega (arith, low, to.1))

  begins_scan : FallsAt c i me s d x (at InScan.LoadScanHead)
  begins_scan it =
      let q = queue_of x i in
      let y = begun_scan c (stirred d.rng) in
      let calm = dry InScan.LoadScanHead it in
      chosen (FallsTo c i me s d x (at InScan.LoadScanHead) (stirred d.rng) d.loot d.searching (set_queue i x q)) (nat_lt (room_of q) half) (Place.Look InLook.Publish) (looks_at c i y)
      (λ h.
      let claimed_one = narrow q (it.dried (it.pooled refl) refl) it.unspent h in
      let others = ne_eqb x.idle.count (one_if d.searching) (λ e. absurd (omega (arith, it.counted, e, ap (λ b. one_if (not b)) claimed_one))) in
      loads c i me s d x i (at InScan.LoadScanHead) (Place.Look InLook.Publish) (stirred d.rng) (in_scan i s InScan.LoadScanHead) (in_look i s InLook.Publish)
      (omega (arith, ap (λ b. second_scan c (b && can_steal x)) others)))
      (λ h. on InScan.LoadScanHead i (looks_at c i y) (stirred d.rng) (above c i s d x calm 0) (may_miss c y true x) calm
      (looks c i s (desk_to c i me s d x (looks_at c i y) (stirred d.rng) d.loot d.searching) x calm y)
      (omega (arith, it.workers, ap (second_scan c) (comes_to_all c x (stirred d.rng) it.workers it.bare))))

  loads_head : (y : Scan) → FallsAt c i me s d x (at (InScan.LoadTheirHead y))
  loads_head y it =
      let calm = dry (InScan.LoadTheirHead y) it in
      let q = judge_head c i y (head_of (queue_of x (from_of c y))) in
      on (InScan.LoadTheirHead y) (from_of c y) q d.rng (their_tail (passing c.workers y.passed) true) (may_miss c y true x) calm (judged c i s (desk_to c i me s d x q d.rng d.loot d.searching) x calm y) (omega arith)

  loads_tail : (y : Scan) (h : Head) → FallsAt c i me s d x (at (InScan.LoadTheirTail y h))
  loads_tail y h it =
      chosen To (nat_lt 256 (tail_of q - h.real)) (at (InScan.LoadTheirHead y)) (if nat_lt (tail_of q - h.real) 2 then looks_at c i (past y) else at (InScan.ClaimHalf y h (tail_of q)))
      (λ much. loads c i me s d x (from_of c y) (at p) (at (InScan.LoadTheirHead y)) d.rng (in_scan i s p) (in_scan i s (InScan.LoadTheirHead y)) (stale (is_fresh x (from_of c y) h) refl much))
      (λ fits. chosen To (nat_lt (tail_of q - h.real) 2) (looks_at c i (past y)) (at (InScan.ClaimHalf y h (tail_of q)))
      (λ few. on p (from_of c y) (looks_at c i (past y)) d.rng (passing c.workers y.passed) (may_miss c y false x) calm
      (looks_past c i s (desk_to c i me s d x (looks_at c i (past y)) d.rng d.loot d.searching) x calm y) (passed (is_fresh x (from_of c y) h) refl few))
      (λ more. loads c i me s d x (from_of c y) (at p) (at (InScan.ClaimHalf y h (tail_of q))) d.rng (in_scan i s p) (in_scan i s (InScan.ClaimHalf y h (tail_of q))) (claims (is_fresh x (from_of c y) h) refl)))
    where
      p : InScan
      p = InScan.LoadTheirTail y h

      q : Queue ℕ
      q = queue_of x (from_of c y)

      calm : is_stealable (queue_of x i) ≡ false
      calm = dry p it

      To : Place → Type 0
      To = FallsTo c i me s d x (at p) d.rng d.loot d.searching (set_queue (from_of c y) x q)

      -- a head with more values than there can be is stale
      stale : (b : Bool) → is_fresh x (from_of c y) h ≡ b → nat_lt 256 (tail_of q - h.real) ≡ true
          → height c i me s d x (desk_to c i me s d x (at (InScan.LoadTheirHead y)) d.rng d.loot d.searching) x (at (InScan.LoadTheirHead y)) < here p
      stale = grind (arith, same_parts, ltb-true, second_le, misses_more)

      passed : (b : Bool) → is_fresh x (from_of c y) h ≡ b → nat_lt (tail_of q - h.real) 2 ≡ true → passing c.workers y.passed + second_scan c (may_miss c y false x) < here p
      passed = grind (arith, same_parts, ltb-true, misses_same, few_are_not)

      claims : (b : Bool) → is_fresh x (from_of c y) h ≡ b
          → height c i me s d x (desk_to c i me s d x (at (InScan.ClaimHalf y h (tail_of q))) d.rng d.loot d.searching) x (at (InScan.ClaimHalf y h (tail_of q))) < here p
      claims true is = rw is (omega arith)
      claims false is = rw is (omega arith)

  -- What is claimed was there to be stolen: the head that was loaded had no claim, and the tail was two past it at least, which it is still.
  claims_half : (y : Scan) (h : Head) (tail : ℕ) → h.gap ≡ 0 → h.real + 2 ≤ tail → tail ≤ tail_of (queue_of x (from_of c y)) → FallsAt c i me s d x (at (InScan.ClaimHalf y h tail))
  claims_half y h tail free some behind it =
      chosen (λ m. Falls c i (seen (at p) me) s (stands (at p) d) x (with_queue (from_of c y) x m)) (same_head h (head_of q))
      (turns (at (InScan.MoveHalf (from_of c y) (claimed_head h (claim_at h tail)))) (record (stands (at p) d) { loot = take (claim_at h tail) q.values }) (claimed q (claim_at h tail)))
      (turns (judge_head c i y (head_of q)) (stands (at p) d) q)
      (λ same. idles c i me s d x (at p) (at (InScan.MoveHalf (from_of c y) (claimed_head h (claim_at h tail)))) d.rng (take (claim_at h tail) q.values) d.searching
      (slice_set x.queues (from_of c y) (claimed q (claim_at h tail))) x.idle (in_scan i s p) (in_scan i s (InScan.MoveHalf (from_of c y) (claimed_head h (claim_at h tail))))
      (rw same (omega arith)) (λ k. omega (arith, ap one_if (stealable same))))
      (λ other. on p (from_of c y) (judge_head c i y (head_of q)) d.rng (their_tail (passing c.workers y.passed) true) (may_miss c y true x) (dry p it)
      (judged c i s (desk_to c i me s d x (judge_head c i y (head_of q)) d.rng d.loot d.searching) x (dry p it) y)
      (rw other (omega (arith, second_le c (may_miss c y true x) (may_miss c y false x) (misses_more c x y)))))
    where
      p : InScan
      p = InScan.ClaimHalf y h tail

      q : Queue ℕ
      q = queue_of x (from_of c y)

      stealable : same_head h (head_of q) ≡ true → can_steal x ≡ true
      stealable same =
          let is = same_parts h (head_of q) same in
          can_at c x (from_of c y) (and_from _ _ (eq-eqb q.gap 0 (sym is.1 ∙ free)) (le-leb 2 (tail_of q - q.real) (omega (arith, is.0, some, behind))))

  releases_half : (from : ℕ) (h : Head) → FallsAt c i me s d x (at (InScan.ReleaseHalf from h))
  releases_half from h it =
      let p = InScan.ReleaseHalf from h in
      let q = queue_of x from in
      chosen (λ m. Falls c i (seen (at p) me) s (stands (at p) d) x (with_queue from x m)) (same_head h (head_of q))
      (turns (at InScan.StoreMoved) (stands (at p) d) (released q)) (turns (at (InScan.ReleaseHalf from (head_of q))) (stands (at p) d) q)
      (λ same. idles c i me s d x (at p) (at InScan.StoreMoved) d.rng d.loot d.searching (slice_set x.queues from (released q)) x.idle (in_scan i s p) (in_scan i s InScan.StoreMoved)
      (rw same (omega arith)) (λ k. omega (arith, ap (λ b. one_if (not b)) (it.moves refl))))
      (λ other. loads c i me s d x from (at p) (at (InScan.ReleaseHalf from (head_of q))) d.rng (in_scan i s p) (in_scan i s (InScan.ReleaseHalf from (head_of q)))
      (rw (other, same_again (head_of q)) (omega arith)))

  -- what was moved stands in the own queue
  stores_moved : FallsAt c i me s d x (at InScan.StoreMoved)
  stores_moved it quiet =
      let p = at InScan.StoreMoved in
      let m = with_queue i x (store_moved c i (seen p me) s (stands p d) (queue_of x i)) in
      let a = before me s d x p in
      let b = afterwards c i me s p m in
      let there : queue_of m.thing i ≡ published (queue_of x i) d.loot = get_or-set_same x.queues i (published (queue_of x i) d.loot) no_queue it.queue_there in
      let some = ap (λ (q : Queue ℕ). is_empty q.values) there ∙ none_behind (queue_of x i).values d.loot (it.moves refl) in
      let is_on : (is_of_pool s i && not (is_empty (queue_of m.thing i).values)) ≡ true = and_from _ _ (it.pooled refl) (ap not some) in
      to_turn c i a b (record {
        long_before = refl;
        items_kept = omega arith;
        gates_kept = omega arith;
        owes = for_sure c i a b (omega arith) (omega (arith, ap (λ v. one_if (not v)) (it.moves refl))) (omega (arith, ap one_if is_on));
      }) (leaves_for_turn c i (seen p me) s (stands p d)) (leaves_is_top c i (seen p me) s (stands p d))

  pub scans : (p : InScan) → FallsAt c i me s d x (Place.Scan p)
  scans InScan.LoadScanHead = begins_scan
  scans (InScan.LoadTheirHead y) = loads_head y
  scans (InScan.LoadTheirTail y h) = loads_tail y h
  scans (InScan.ClaimHalf y h tail) = λ it. claims_half y h tail it.claims.0 it.claims.1 it.claims.2 it
  scans (InScan.MoveHalf from h) = λ it. idles c i me s d x (at (InScan.MoveHalf from h)) (at (InScan.ReleaseHalf from h)) d.rng d.loot d.searching x.queues x.idle
      (in_scan i s (InScan.MoveHalf from h)) (in_scan i s (InScan.ReleaseHalf from h)) (omega (arith, release_low (is_fresh x from h))) (λ k. k)
  scans (InScan.ReleaseHalf from h) = releases_half from h
  scans InScan.StoreMoved = stores_moved
