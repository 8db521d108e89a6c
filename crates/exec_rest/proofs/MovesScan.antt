-- What the moves do as far as waking goes, of a worker of the pool that searches: what comes before a scan, and the scan of the
-- other run queues, out of which it takes values.
use Rattle.std.proofs.Common.{◌≡◌, ℕ, ◌==◌, Bool, true, false, [], take, drop, refl, ap, ◌∙◌, if◌then◌else◌, nat_lt, arith}
use Rattle.exec_words.specs.{declared.head.Head.Head, Generator.stirred, Head.{claim_at, claimed_head}, Queue.{Queue, claimed, head_of, released, room_of, tail_of}}
use Rattle.exec_machine.specs.{declared.config.Configuration.Configuration, World.{Common, Own as Books}}
use Rattle.exec_moves.specs.{declared.{idling.{InLook.InLook as looking, InScan.{InScan as scanning, InScan}, InSearch.InSearch, Scan.Scan}, place.Place.{Place as at, Place}}, Move.{move_search, move_scan}, Pop.same_head, Search.{begun_scan, from_of, half, judge_head, judge_tail, looks_at, past, past_own_queue}, State.{Desk, Things, queue_of, turns}, Thing.with_queue}
use Rattle.exec_rest.proofs.{Asides.{own_queue, same}, Continuing.{calm_light, light_leaves_for_turn}, Heeds.Heeds, Waiting.{calms, either, goes_on, may_go, queue_put, still_empty}, BareMoves.none_dropped}

module _ (c : Configuration) (i : ℕ) where
  -- a worker that scans goes on to scan, or to the look
  abbrev scans_on : Place → Bool
  scans_on q = may_go (at.Scan scanning.LoadScanHead) q

  on_at : (y : Scan) → scans_on (looks_at c i y) ≡ true
  on_at y = either scans_on (nat_lt (past_own_queue c i y).passed c.workers) (at.Scan (scanning.LoadTheirHead (past_own_queue c i y))) (at.Look looking.Publish) refl refl

  on_head : (y : Scan) (h : Head) → scans_on (judge_head c i y h) ≡ true
  on_head y h = either scans_on (h.gap == 0) (at.Scan (scanning.LoadTheirTail y h)) (looks_at c i (past y)) refl (on_at (past y))

  on_tail : (y : Scan) (h : Head) (tail : ℕ) → scans_on (judge_tail c i y h tail) ≡ true
  on_tail = grind arith

module _ (R : Type 0) (c : Configuration) (i : ℕ) (me : Books) (s : Common) (d : Desk) (x : Things) where
  pub search : (p : InSearch) → d.place ≡ at.Search p → Heeds R i s d x (move_search c d x p)
  search = grind arith

  -- a queue, of this worker or another one, of which it may take something
  over : (p : InScan) → d.place ≡ at.Scan p → (q : Place) (e : Desk) (k : ℕ) (v : Queue ℕ) → scans_on c i q ≡ true
      → ((queue_of x k).values ≡ [] → v.values ≡ []) → Heeds R i s d x (with_queue k x (turns q e v))
  over p is q e k v on keeps = goes_on R i s d x _ (at.Scan p) is refl on refl (queue_put i x k v keeps) refl (still_empty i x k v keeps i)

  pub scan : (p : InScan) → d.place ≡ at.Scan p → Heeds R i s d x (move_scan c i me s d x p)
  scan scanning.LoadScanHead is =
      over scanning.LoadScanHead is (if nat_lt (room_of (queue_of x i)) half then at.Look looking.Publish else looks_at c i (begun_scan c (stirred d.rng)))
      (record d { rng = stirred d.rng }) i (queue_of x i)
      (either (scans_on c i) (nat_lt (room_of (queue_of x i)) half) (at.Look looking.Publish) (looks_at c i (begun_scan c (stirred d.rng))) refl (on_at c i (begun_scan c (stirred d.rng)))) (λ h. h)
  scan (scanning.LoadTheirHead y) is =
      let q = queue_of x (from_of c y) in over (scanning.LoadTheirHead y) is (judge_head c i y (head_of q)) d (from_of c y) q (on_head c i y (head_of q)) (λ h. h)
  scan (scanning.LoadTheirTail y h) is =
      let q = queue_of x (from_of c y) in over (scanning.LoadTheirTail y h) is (judge_tail c i y h (tail_of q)) d (from_of c y) q (on_tail c i y h (tail_of q)) (λ h. h)
  scan (scanning.ClaimHalf y h tail) is = by (same_head h (head_of q))
    where
      q : Queue ℕ
      q = queue_of x (from_of c y)

      n : ℕ
      n = claim_at h tail

      moves : Place
      moves = at.Scan (scanning.MoveHalf (from_of c y) (claimed_head h n))

      holds : Desk
      holds = record d { loot = take n q.values }

      by : (b : Bool) → Heeds R i s d x (with_queue (from_of c y) x (if b then turns moves holds (claimed q n) else turns (judge_head c i y (head_of q)) d q))
      by true = over (scanning.ClaimHalf y h tail) is moves holds (from_of c y) (claimed q n) refl (λ none. ap (drop n) none ∙ none_dropped n)
      by false = over (scanning.ClaimHalf y h tail) is (judge_head c i y (head_of q)) d (from_of c y) q (on_head c i y (head_of q)) (λ h. h)
  scan (scanning.MoveHalf from h) is = goes_on R i s d x _ (at.Scan (scanning.MoveHalf from h)) is refl refl refl (same i x) refl (λ h. h)
  scan (scanning.ReleaseHalf from h) is = by (same_head h (head_of q))
    where
      q : Queue ℕ
      q = queue_of x from

      by : (b : Bool) → Heeds R i s d x (with_queue from x (if b then turns (at.Scan scanning.StoreMoved) d (released q) else turns (at.Scan (scanning.ReleaseHalf from (head_of q))) d q))
      by true = over (scanning.ReleaseHalf from h) is (at.Scan scanning.StoreMoved) d from (released q) refl (λ h. h)
      by false = over (scanning.ReleaseHalf from h) is (at.Scan (scanning.ReleaseHalf from (head_of q))) d from q refl (λ h. h)
  -- its own queue takes what it took
  scan scanning.StoreMoved is = calms R i s d x _ (at.Scan scanning.StoreMoved) is refl refl (calm_light _ (light_leaves_for_turn c i me s d)) (own_queue i x _) refl
