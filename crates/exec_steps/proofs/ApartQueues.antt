-- A step of another party leaves the own run queue sound, of which a thief takes values, and lets the tails of others only grow.
use Rattle.std.proofs.{Common.{◌≡◌, ℕ, ◌<◌, ◌≤◌, Bool, true, false, List, [], length, Some, arith, slice_get, if◌then◌else◌, ◌+◌}, lemmas.{List.length-drop, Nat.mod_below}}
use Rattle.exec_words.specs.{Head.is_spent, Queue.{Queue, claimed, released, room_of, tail_of}, declared.head.Head.Head}
use Rattle.exec_task.specs.declared.runnable.Runnable.{Runnable}
use Rattle.exec_machine.specs.declared.config.Configuration.{Configuration}
use Rattle.exec_moves.specs.{Search.from_of, declared.{idling.{InScan.InScan, Scan.Scan}, place.{Place.Place}}}
use Rattle.exec_parts.specs.declared.parts.seat.Seat.{Seat as Chair}
use Rattle.exec_invariants.{specs.{Sound.{Aims, HasQueue, MayClaim}, Spares.Thins}, proofs.SparedRecord.there_within}

-- THE OWN RUN QUEUE, of which a thief takes values, or gives places free

pub held_kept : (q q' : Queue Runnable) → Thins q q' → q'.held ≡ q.held
held_kept = grind arith

pub tail_kept : (q q' : Queue Runnable) → Thins q q' → tail_of q' ≡ tail_of q
tail_kept = grind (arith, length-drop)

more_room : (b : Bool) (x y : ℕ) → x ≤ y → (if b then 0 else x) ≤ (if b then 0 else y)
more_room true x y h = omega arith
more_room false x y h = h

room_claimed : (q : Queue Runnable) (n : ℕ) → n < length q.values → q.gap ≡ 0 → room_of q ≤ room_of (claimed q n)
room_claimed = grind (arith, length-drop, more_room)

room_released : (q : Queue Runnable) → room_of q ≤ room_of (released q)
room_released q = more_room (is_spent (tail_of q)) _ _ (omega arith)

pub room_grows : (q q' : Queue Runnable) → Thins q q' → room_of q ≤ room_of q'
room_grows = grind (arith, room_claimed, room_released)

-- a lone value stays, and an empty queue stays empty
lone_stays : (q q' : Queue Runnable) → Thins q q' → (length q.values ≡ 1) × (q.gap ≡ 0) → (length q'.values ≡ 1) × (q'.gap ≡ 0)
lone_stays = grind arith

empty_stays : (q q' : Queue Runnable) → Thins q q' → q.values ≡ [] → q'.values ≡ []
empty_stays = grind arith

pub queue_apart : (p : Place) (q q' : Queue Runnable) → Thins q q' → HasQueue p q → HasQueue p q'
queue_apart = grind (arith, held_kept, room_grows, tail_kept, lone_stays, empty_stays)

-- OTHER RUN QUEUES, whose tails only grow

claim_apart : (i from : ℕ) (h : Head) (tail : ℕ) (seats seats' : List Chair) → from < length seats
    → ((k : ℕ) (chair chair' : Chair) → slice_get seats k ≡ Some chair → slice_get seats' k ≡ Some chair' → tail_of chair.queue ≤ tail_of chair'.queue)
    → MayClaim i from h tail seats → MayClaim i from h tail seats'
claim_apart i from h tail seats seats' inside tails may =
    let behind : (chair' : Chair) → slice_get seats' from ≡ Some chair' → tail ≤ tail_of chair'.queue = λ chair' there'.
    let old : (chair : Chair) × (slice_get seats from ≡ Some chair) = there_within seats from inside in
    omega (arith, may.behind old.0 old.1, tails from old.0 chair' old.1 there') in
    assumption (behind, may)

-- a scan stays within the pool
scan_within : (c : Configuration) (x : Scan) → x.start < c.workers → from_of c x < c.workers
scan_within c x some = mod_below (x.start + x.passed) c.workers (omega (arith, some))

pub aims_apart : (p : Place) (c : Configuration) (i : ℕ) (seats seats' : List Chair) → length seats ≤ length seats' → c.workers ≤ length seats
    → ((k : ℕ) (chair chair' : Chair) → slice_get seats k ≡ Some chair → slice_get seats' k ≡ Some chair' → tail_of chair.queue ≤ tail_of chair'.queue)
    → Aims p c i seats → Aims p c i seats'
aims_apart (Place.Scan (InScan.ClaimHalf x h tail)) c i seats seats' more many tails aims =
    (claim_apart i (from_of c x) h tail seats seats' (omega (arith, scan_within c x aims.1.0, many)) tails aims.0, aims.1)
aims_apart _ c i seats seats' more many tails aims = grind arith
