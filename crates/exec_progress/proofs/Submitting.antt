-- The middle of a service: deadlines, gates and stagings.
use Rattle.std.{proofs.{Common.{◌≡◌, ℕ, suc, ◌+◌, ◌*◌, ◌<◌, ◌≤◌, Bool, true, false, not, if◌then◌else◌, ◌&&◌, ◌||◌, List, [], ◌∷◌, length, Option, Some, None, refl, ap, arith}, lemmas.{Bool.{true≢false, false≢true, and_left, and_right, and_parts, or_from, lt-leb, le-leb, leb-true}, List.get_or-set_same}}, specs.{Prelude.{nat_lt, nat_le, is_some, slice_get}, List.list_any}}
use Rattle.exec_machine.specs.{declared.{config.Configuration.Configuration, event.Event.TheVariants.{Serve, Busy}}, Ranges.ring_size, Tests.{is_empty, set_seat}, World.{Own as Books, Common, no_seat, seat_of}}
use Rattle.exec_moves.specs.{declared.place.{AfterService.AfterService, InService.InService, Place.Place, Reaping.Reaping, Service.Service}, Callback.{has_requests, is_full, is_of_pool}, Counts.{count_numbered, gates_from, one_if}, Load.{has_submissions, may_stage}, Serve.{Ring, after_staging, enters, first_numbered}, State.{Desk, Moved, Things, WakePoll, does, no_wake_poll, queue_of, taken_in, wake_poll_of, gate_of}, Submit.{Due, due_next, first_due, granted_at, next_gate, one_more, or_else, request_due, stage_next, staging_due, submits as to_gate, try_gate, waits_at, Due.{Expires, Enrols, AtGate, Flushes, Cancels, Stages, Ends}}, Move.move_submit, Thing.{ring_of, set_wake_poll, with_gate, with_ring}}
use Rattle.exec_credit.proofs.{Entering.{due_same, gates_same}, First.deadlines, Rings.{no_first, polled_of, full_of}}
use Rattle.exec_progress.{specs.{Effort.is_short, Going.{Falls, FallsAt, IsGoing, closes_service, seen, stands}, Owed.is_any_due, Heights.submit, Ranks.{below_service, submits as rank_of_submit}}, proofs.{Tools.{Now, afterwards, ahead_at, before, either, gates, goes_down, keeps_turns, left, others_at, pays_want, rest, spun, wanted_at}, Entering.at_most_one}}

-- GATES: one that was next is left behind

numbered_from : {X : Type 0} (test : ℕ → X → Bool) (n : ℕ) (xs : List X) (g : ℕ) → first_numbered test n xs ≡ Some g → n ≤ g
numbered_from test n [] g is = let no : None ≡ Some g = is in absurd (cc)
numbered_from test n (x ∷ xs) g is = by (test n x) is (λ h. numbered_from test (suc n) xs g h)
  where
    by : (b : Bool) → (if b then Some n else first_numbered test (suc n) xs) ≡ Some g → (first_numbered test (suc n) xs ≡ Some g → suc n ≤ g) → n ≤ g
    by true is later = let same : n ≡ g = cc in omega (arith, same)
    by false is later = omega (arith, later is)

one_and : (a b e : Bool) → (a ≡ true → b ≡ true) → one_if (a && e) ≤ one_if (b && e)
one_and false b e h = omega arith
one_and true b e h = rw (h refl) (omega arith)

-- those from a number on
abbrev from_on : {X : Type 0} → (ℕ → Bool) → ℕ → ℕ → X → Bool
from_on waits from = λ f o. nat_le from f && waits f

fewer_from : {X : Type 0} (waits : ℕ → Bool) (from g : ℕ) → from ≤ g → (n : ℕ) (xs : List X) → count_numbered (from_on waits (suc g)) n xs ≤ count_numbered (from_on waits from) n xs
fewer_from waits from g le n [] = omega arith
fewer_from waits from g le n (x ∷ xs) =
    omega (arith, one_and (nat_le (suc g) n) (nat_le from n) (waits n) (λ h. le-leb from n (omega (arith, le, leb-true (suc g) n h))), fewer_from waits from g le (suc n) xs)

fewer_past : {X : Type 0} (waits : ℕ → Bool) (from g n : ℕ) (xs : List X) → first_numbered (from_on waits from) n xs ≡ Some g
    → count_numbered (from_on waits (suc g)) n xs + 1 ≤ count_numbered (from_on waits from) n xs
fewer_past waits from g n [] is = let no : None ≡ Some g = is in absurd (cc)
fewer_past waits from g n (x ∷ xs) is = by (nat_le from n && waits n) refl is (λ h. fewer_past waits from g (suc n) xs h)
  where
    past : n ≤ g → one_if (nat_le (suc g) n && waits n) ≡ 0
    past le = ap (λ b. one_if (b && waits n)) (lt-leb (suc g) n (omega (arith, le)))

    by : (b : Bool) → (nat_le from n && waits n) ≡ b → (if b then Some n else first_numbered (from_on waits from) (suc n) xs) ≡ Some g
        → (first_numbered (from_on waits from) (suc n) xs ≡ Some g → count_numbered (from_on waits (suc g)) (suc n) xs + 1 ≤ count_numbered (from_on waits from) (suc n) xs)
        → one_if (nat_le (suc g) n && waits n) + count_numbered (from_on waits (suc g)) (suc n) xs + 1 ≤ one_if (nat_le from n && waits n) + count_numbered (from_on waits from) (suc n) xs
    by = grind (arith, fewer_from, leb-true, and_parts, numbered_from)

-- BITS OF WHAT IS KNOWN

-- all that is done after the staging is lower than it, and a flush is higher
submit_low : (below : ℕ) (full : Bool) → submit below ≤ rank_of_submit below full
submit_low below true = omega arith
submit_low below false = omega arith

-- the place goes down, and no sign comes up
pub sinks : (c : Configuration) (i : ℕ) (a b : Now) → is_short a.d.place ≡ false → is_short b.d.place ≡ false → rest c i b < rest c i a → gates c i b ≤ gates c i a
    → (1 ≤ ahead_at c i a → 1 ≤ ahead_at c i b) → (1 ≤ wanted_at c i b → 1 ≤ wanted_at c i a) → others_at c i b ≤ others_at c i a → spun c i b ≤ spun c i a → left c i b < left c i a
sinks c i a b long later less gates_kept kept wants others spins =
    goes_down c i a b (record {
      long_before = long;
      long_after = later;
      less = less;
      gates_kept = gates_kept;
      owes = keeps_turns c i a b (record { kept = kept; wanted_kept = λ h. wants; others_kept = λ h. others; spun_kept = λ h. spins });
    })

-- the same where a sign is used up by which something may be wanted
pub uses : (c : Configuration) (i : ℕ) (a b : Now) → is_short a.d.place ≡ false → is_short b.d.place ≡ false → rest c i b < rest c i a → gates c i b ≤ gates c i a
    → (1 ≤ ahead_at c i a → 1 ≤ ahead_at c i b) → others_at c i b + 1 ≤ others_at c i a → spun c i b ≤ spun c i a → left c i b < left c i a
uses c i a b long later less gates_kept kept others spins =
    goes_down c i a b (record {
      long_before = long;
      long_after = later;
      less = less;
      gates_kept = gates_kept;
      owes = pays_want c i a b (record { kept = kept; others_paid = λ h. others; spun_kept = λ h. spins });
    })

-- that a wake was kept for the wake poll pays for its end
flush_taken : (polled : Bool) (w : WakePoll) → 2 * one_if (taken_in polled w).kept + one_if (is_some (taken_in polled w).ended) ≤ 2 * one_if w.kept + one_if (is_some w.ended)
flush_taken = grind arith

module _ (c : Configuration) (i : ℕ) (me : Books) (s : Common) (d : Desk) (x : Things) (defer : Bool) (gate : ℕ) where
  abbrev via : AfterService → Service
  via b = record { defer = defer; back = b }

  abbrev here : AfterService → Place
  here b = Place.Service (InService.Submit gate) (via b)

  abbrev FallsBy : AfterService → Moved Things → Type 0
  FallsBy b m = Falls c i (seen (here b) me) s (stands (here b) d) x m

  abbrev first : AfterService → Now
  first b = before me s d x (here b)

  abbrev later : AfterService → Moved Things → Now
  later b m = afterwards c i me s (here b) m

  -- AT A GATE that isn't free for a request of its own

  abbrev passes_by : AfterService → ℕ → Moved Things
  passes_by b file = with_gate file x (does {T = List ℕ} Serve (to_gate (via b) (suc file) (stands (here b) d)) (gate_of x file))

  looks_on : (file : ℕ) → gates_from i (suc file) s + 1 ≤ gates_from i gate s → (b : AfterService) → closes_service b ≡ false → FallsBy b (passes_by b file)
  looks_on = grind arith

  at_gate : (file : ℕ) → next_gate i gate s ≡ Some file → (b : AfterService) → closes_service b ≡ false
      → FallsBy b (with_gate file x (try_gate i (via b) file s (stands (here b) d) (gate_of x file)))
  at_gate file is b h = by (granted_at i (gate_of x file) s) refl
    where
      by : (o : Option ℕ) → granted_at i (gate_of x file) s ≡ o → FallsBy b (with_gate file x (try_gate i (via b) file s (stands (here b) d) (gate_of x file)))
      by (Some r) some = rw some (λ q. absurd (false≢true q))
      by None none = rw none (looks_on file (fewer_past (λ f. list_any (waits_at i f) s.requests) gate file 0 s.opens is) b h)

  -- THE END OF STAGING, with this desk
  abbrev AllDone : Type 0
  AllDone = (has_submissions c me ≡ false) × (is_any_due i me.sampled s ≡ false) × (i < length x.wake_polls)

  abbrev ends_to : AfterService → InService → Desk → Bool → Moved Things
  ends_to b q e off = with_ring i x (does {T = Ring} Serve (record e { place = Place.Service q (via b); may_put_off = defer; put_off = off }) (ring_of s x i))

  put_back : (w : WakePoll) → i < length x.wake_polls → wake_poll_of (set_wake_poll i x w) i ≡ w
  put_back w there = get_or-set_same x.wake_polls i w no_wake_poll there

  ends_by : AllDone → (polled : Bool) (entries : ℕ) → polled ≡ true → (off : Bool) (b : AfterService) → closes_service b ≡ false
      → FallsBy b (ends_to b InService.EnterLast (record d { polled = polled; entries = entries }) off)
      × FallsBy b (ends_to b (InService.Reap Reaping.Last) (record d { polled = polled; entries = entries }) off)
  ends_by it polled entries on off AfterService.Mail h = grind (arith, and_right, put_back, submit_low, sinks)
  ends_by it polled entries on off AfterService.Begin h = grind (arith, put_back, submit_low, sinks)
  ends_by it polled entries on off AfterService.Finish h = absurd (true≢false h)

  ends_at : AllDone → (polled : Bool) (entries : ℕ) → polled ≡ true → (b : AfterService) → closes_service b ≡ false
      → FallsBy b (with_ring i x (does {T = Ring} Serve (after_staging c i (via b) (seen (here b) me) s (record (stands (here b) d) { polled = polled; entries = entries })) (ring_of s x i)))
  ends_at it polled entries on b h =
      let e = record (stands (here b) d) { polled = polled; entries = entries } in
      let last = enters c i (via b) (seen (here b) me) s e in
      let off = has_requests i s && not last in
      let both = ends_by it polled entries on off b h in
      either c i (seen (here b) me) s (stands (here b) d) x (λ (q : InService). ends_to b q e off) last InService.EnterLast (InService.Reap Reaping.Last) (λ some. both.0) (λ no. both.1)

  ends_staging : AllDone → (is_full (ring_size c) d && (not (is_empty me.cancels) || may_stage c me || not d.polled)) ≡ false → (b : AfterService) → closes_service b ≡ false
      → FallsBy b (move_submit c i (seen (here b) me) s (stands (here b) d) x gate (via b) Ends)
  ends_staging it unflushed b h =
      either c i (seen (here b) me) s (stands (here b) d) x
      (λ (e : Desk). with_ring i x (does {T = Ring} Serve (after_staging c i (via b) (seen (here b) me) s e) (ring_of s x i)))
      (d.polled || is_full (ring_size c) d) (stands (here b) d) (record (one_more (stands (here b) d)) { polled = true })
      (λ stays. ends_at it d.polled d.entries (polled_of d.polled (is_full (ring_size c) d) (not (is_empty me.cancels)) (may_stage c me) stays unflushed) b h)
      (λ polls. ends_at it true (d.entries + 1) refl b h)

  -- A FLUSH: of a ring that is busy, which ends the staging, or of one that takes all in
  abbrev HasRoom : Type 0
  HasRoom = (is_full (ring_size c) d ≡ true) × (nat_lt 0 (ring_size c) ≡ true) × (i < length x.wake_polls)

  abbrev ring_so : Bool → Ring
  ring_so busy = record { busy = busy; landed = (seat_of s i).landed; wakes = wake_poll_of x i }

  abbrev enters_so : Bool → AfterService → Moved Things
  enters_so busy b = with_ring i x (stage_next c i (via b) gate (seen (here b) me) s (stands (here b) d) (ring_so busy) Flushes)

  takes_in : HasRoom → (b : AfterService) → closes_service b ≡ false → FallsBy b (enters_so false b)
  takes_in it AfterService.Mail h quiet =
      let full = ap (rank_of_submit (below_service c.workers AfterService.Mail)) it.0 in
      let room = ap (λ v. rank_of_submit (below_service c.workers AfterService.Mail) (not v)) it.1 in
      let due = ap one_if (due_same i s.clock i s.requests) in
      let due_then = ap one_if (due_same i me.sampled i s.requests) in
      let kept = ap (λ (w : WakePoll). 2 * one_if w.kept + one_if (is_some w.ended)) (put_back (taken_in d.polled (wake_poll_of x i)) it.2) in
      sinks c i (first AfterService.Mail) (later AfterService.Mail (enters_so false AfterService.Mail)) refl refl
      (omega (arith, full, room, gates_same i gate i s, gates_same i 0 i s)) (omega (arith, gates_same i 0 i s))
      (λ k. omega (arith, k, due, due_then)) (λ k. omega (arith, k, due, due_then)) (omega (arith, kept, flush_taken d.polled (wake_poll_of x i))) (omega arith)
  takes_in it AfterService.Begin h quiet =
      let full = ap (rank_of_submit (below_service c.workers AfterService.Begin)) it.0 in
      let room = ap (λ v. rank_of_submit (below_service c.workers AfterService.Begin) (not v)) it.1 in
      let due = ap one_if (due_same i s.clock i s.requests) in
      let due_then = ap one_if (due_same i me.sampled i s.requests) in
      let kept = ap (λ (w : WakePoll). 2 * one_if w.kept + one_if (is_some w.ended)) (put_back (taken_in d.polled (wake_poll_of x i)) it.2) in
      sinks c i (first AfterService.Begin) (later AfterService.Begin (enters_so false AfterService.Begin)) refl refl
      (omega (arith, full, room, gates_same i gate i s, gates_same i 0 i s)) (omega (arith, gates_same i 0 i s))
      (λ k. omega (arith, k, due, due_then)) (λ k. omega (arith, k, due, due_then)) (omega (arith, kept, flush_taken d.polled (wake_poll_of x i))) (omega arith)
  takes_in it AfterService.Finish h quiet = absurd (true≢false h)

  -- the ring is busy no more, and else as it was
  abbrev freed_seat : Common
  freed_seat = set_seat s i (record (seat_of s i) { busy = false })

  freed : i < length s.seats → seat_of freed_seat i ≡ record (seat_of s i) { busy = false }
  freed there = get_or-set_same s.seats i (record (seat_of s i) { busy = false }) no_seat there

  abbrev busy_to : AfterService → InService → Bool → Moved Things
  busy_to b q off = with_ring i x (does {T = Ring} Busy (record (stands (here b) d) { place = Place.Service q (via b); may_put_off = defer; put_off = off }) (ring_so false))

  abbrev BusyFalls : AfterService → InService → Bool → Type 0
  BusyFalls b q off = FallsBy b (busy_to b q off)

  abbrev IsBusy : Type 0
  IsBusy = ((seat_of s i).busy ≡ true) × (i < length s.seats) × (i < length x.wake_polls) × (is_any_due i me.sampled s ≡ false)

  -- what may be submitted then was so before, or is wanted now, which the busy ring pays for
  ends_busy : IsBusy → (off : Bool) (b : AfterService) → closes_service b ≡ false → BusyFalls b InService.EnterLast off × BusyFalls b (InService.Reap Reaping.Last) off
  ends_busy it off b h = by (has_submissions c me) refl b h
    where
      seat : seat_of freed_seat i ≡ record (seat_of s i) { busy = false }
      seat = freed it.1

      own : one_if ((seat_of freed_seat i).pool && not (is_empty (queue_of x i).values)) ≡ one_if (is_of_pool s i && not (is_empty (queue_of x i).values))
      own = ap (λ z. one_if (z.pool && not (is_empty (queue_of x i).values))) seat

      aside : one_if ((seat_of freed_seat i).pool && not (is_empty (queue_of x i).held)) ≡ one_if (is_of_pool s i && not (is_empty (queue_of x i).held))
      aside = ap (λ z. one_if (z.pool && not (is_empty (queue_of x i).held))) seat

      shared : one_if ((seat_of freed_seat i).pool && not (is_empty x.global)) ≡ one_if (is_of_pool s i && not (is_empty x.global))
      shared = ap (λ z. one_if (z.pool && not (is_empty x.global))) seat

      landed : one_if (not (is_empty (seat_of freed_seat i).landed)) ≡ one_if (not (is_empty (seat_of s i).landed))
      landed = ap (λ z. one_if (not (is_empty z.landed))) seat

      idle : one_if (has_submissions c me && not (seat_of s i).busy) ≡ 0
      idle = ap one_if (and_right (has_submissions c me) (not (seat_of s i).busy) (ap not it.0))

      busy : one_if (seat_of s i).busy ≡ 1
      busy = ap one_if it.0

      free : one_if (seat_of freed_seat i).busy ≡ 0
      free = ap (λ z. one_if z.busy) seat

      unpressed : one_if (has_submissions c me && (seat_of freed_seat i).busy) ≡ 0
      unpressed = ap one_if (and_right (has_submissions c me) (seat_of freed_seat i).busy (ap (λ z. z.busy) seat))

      kept : 2 * one_if (wake_poll_of (set_wake_poll i x (wake_poll_of x i)) i).kept + one_if (is_some (wake_poll_of (set_wake_poll i x (wake_poll_of x i)) i).ended)
          ≡ 2 * one_if (wake_poll_of x i).kept + one_if (is_some (wake_poll_of x i).ended)
      kept = ap (λ (w : WakePoll). 2 * one_if w.kept + one_if (is_some w.ended)) (put_back (wake_poll_of x i) it.2)

      undue : one_if (is_any_due i me.sampled s) ≡ 0
      undue = ap one_if it.3

      polled : has_submissions c me ≡ true → one_if (is_full (ring_size c) d && (not d.polled && not (has_submissions c me))) ≡ 0
      polled some = ap one_if (and_right (is_full (ring_size c) d) (not d.polled && not (has_submissions c me)) (and_right (not d.polled) (not (has_submissions c me)) (ap not some)))

      low : (b : AfterService) → submit (below_service c.workers b) ≤ rank_of_submit (below_service c.workers b) (is_full (ring_size c) d)
      low b = submit_low (below_service c.workers b) (is_full (ring_size c) d)

      by : (work : Bool) → has_submissions c me ≡ work → (b : AfterService) → closes_service b ≡ false → BusyFalls b InService.EnterLast off × BusyFalls b (InService.Reap Reaping.Last) off
      by true some AfterService.Mail h = (
        λ quiet. uses c i (first AfterService.Mail) (later AfterService.Mail (busy_to AfterService.Mail InService.EnterLast off))
            refl refl (omega (arith, low AfterService.Mail)) (omega arith) (λ k. omega (arith, k, idle, undue, landed)) (omega (arith, busy, free, unpressed, kept, polled some)) (omega arith),
        λ quiet. uses c i (first AfterService.Mail) (later AfterService.Mail (busy_to AfterService.Mail (InService.Reap Reaping.Last) off))
            refl refl (omega (arith, low AfterService.Mail)) (omega arith) (λ k. omega (arith, k, idle, undue, landed)) (omega (arith, busy, free, unpressed, kept, polled some)) (omega arith),
      )
      by false none AfterService.Mail h =
          let still = ap (λ v. one_if (v && not (seat_of freed_seat i).busy)) none in
          let more = at_most_one (is_full (ring_size c) d && (not d.polled && not (has_submissions c me))) in (
            λ quiet. sinks c i (first AfterService.Mail) (later AfterService.Mail (busy_to AfterService.Mail InService.EnterLast off))
                refl refl (omega (arith, low AfterService.Mail)) (omega arith) (λ k. omega (arith, k, idle, undue, landed))
                (λ k. omega (arith, k, own, aside, shared, landed, still)) (omega (arith, busy, free, unpressed, kept, more)) (omega arith),
            λ quiet. sinks c i (first AfterService.Mail) (later AfterService.Mail (busy_to AfterService.Mail (InService.Reap Reaping.Last) off))
                refl refl (omega (arith, low AfterService.Mail)) (omega arith) (λ k. omega (arith, k, idle, undue, landed))
                (λ k. omega (arith, k, own, aside, shared, landed, still)) (omega (arith, busy, free, unpressed, kept, more)) (omega arith),
          )
      by work is AfterService.Begin h = (
        λ quiet. uses c i (first AfterService.Begin) (later AfterService.Begin (busy_to AfterService.Begin InService.EnterLast off))
            refl refl (omega (arith, low AfterService.Begin)) (omega arith) (λ k. omega (arith, k, idle, own, aside, shared, landed)) (omega (arith, busy, free, kept)) (omega arith),
        λ quiet. uses c i (first AfterService.Begin) (later AfterService.Begin (busy_to AfterService.Begin (InService.Reap Reaping.Last) off))
            refl refl (omega (arith, low AfterService.Begin)) (omega arith) (λ k. omega (arith, k, idle, own, aside, shared, landed)) (omega (arith, busy, free, kept)) (omega arith),
      )
      by work is AfterService.Finish h = absurd (true≢false h)

  flushes : HasRoom → i < length s.seats → is_any_due i me.sampled s ≡ false → (b : AfterService) → closes_service b ≡ false
      → FallsBy b (move_submit c i (seen (here b) me) s (stands (here b) d) x gate (via b) Flushes)
  flushes it there undue b h = by (seat_of s i).busy refl
    where
      by : (busy : Bool) → (seat_of s i).busy ≡ busy → FallsBy b (enters_so busy b)
      by true is =
          let last = enters c i (via b) (seen (here b) me) s (stands (here b) d) in
          let off = has_requests i s && not last in
          let both = ends_busy (is, there, it.2, undue) off b h in
          either c i (seen (here b) me) s (stands (here b) d) x (λ (q : InService). busy_to b q off) last InService.EnterLast (InService.Reap Reaping.Last) (λ some. both.0) (λ no. both.1)
      by false is = takes_in it b h

  -- WHAT IS NEXT

  abbrev DoesNext : AfterService → Due → Type 0
  DoesNext b due = FallsBy b (move_submit c i (seen (here b) me) s (stands (here b) d) x gate (via b) due)

  submits_by : (b : AfterService) → closes_service b ≡ false → IsGoing c i (seen (here b) me) s (stands (here b) d) x (here b)
      → DoesNext b (due_next c i gate (seen (here b) me) s (stands (here b) d))
  submits_by b h it = firsts (first_due c i me s) refl
    where
      requests : is_any_due i me.sampled s ≡ false → slice_get me.unenrolled 0 ≡ None → slice_get me.cancels 0 ≡ None
          → (is_full (ring_size c) d && (not (is_empty me.cancels) || may_stage c me || not d.polled)) ≡ false → DoesNext b (request_due c me)
      requests undue new none unflushed =
          either c i (seen (here b) me) s (stands (here b) d) x (λ (u : Due). move_submit c i (seen (here b) me) s (stands (here b) d) x gate (via b) u)
          (nat_lt me.in_flight (ring_size c)) (or_else (slice_get me.ready 0) Stages Ends) Ends
          (λ room. by (slice_get me.ready 0) refl) (λ full. last (and_right (not (is_empty me.ready)) (nat_lt me.in_flight (ring_size c)) full))
        where
          last : may_stage c me ≡ false → DoesNext b Ends
          last = grind (arith, or_from, no_first, ends_staging)

          by : (o : Option ℕ) → slice_get me.ready 0 ≡ o → DoesNext b (or_else o Stages Ends)
          by (Some r) is = λ q. absurd (false≢true q)
          by None is = last (and_left (not (is_empty me.ready)) (nat_lt me.in_flight (ring_size c)) (no_first me.ready is))

      cancels : is_any_due i me.sampled s ≡ false → slice_get me.unenrolled 0 ≡ None → (is_full (ring_size c) d && (not (is_empty me.cancels) || may_stage c me || not d.polled)) ≡ false
          → (o : Option ℕ) → slice_get me.cancels 0 ≡ o → DoesNext b (or_else o Cancels (request_due c me))
      cancels undue new unflushed (Some r) is = λ q. absurd (false≢true q)
      cancels undue new unflushed None is = requests undue new is unflushed

      stages : is_any_due i me.sampled s ≡ false → slice_get me.unenrolled 0 ≡ None → DoesNext b (staging_due c me d)
      stages undue new =
          either c i (seen (here b) me) s (stands (here b) d) x (λ (u : Due). move_submit c i (seen (here b) me) s (stands (here b) d) x gate (via b) u)
          (is_full (ring_size c) d && (not (is_empty me.cancels) || may_stage c me || not d.polled)) Flushes (or_else (slice_get me.cancels 0) Cancels (request_due c me))
          (λ full. flushes (full_of (is_full (ring_size c) d) (not (is_empty me.cancels) || may_stage c me || not d.polled) full, it.some_ring, it.poll_there) it.seat_there undue b h)
          (λ unflushed. cancels undue new unflushed (slice_get me.cancels 0) refl)

      gates_next : is_any_due i me.sampled s ≡ false → slice_get me.unenrolled 0 ≡ None → (o : Option ℕ) → next_gate i gate s ≡ o → DoesNext b (or_else o AtGate (staging_due c me d))
      gates_next undue new (Some file) is = at_gate file is b h
      gates_next undue new None is = stages undue new

      enrols : is_any_due i me.sampled s ≡ false → (o : Option ℕ) → slice_get me.unenrolled 0 ≡ o → DoesNext b (or_else o Enrols (or_else (next_gate i gate s) AtGate (staging_due c me d)))
      enrols undue (Some r) is = λ q. absurd (false≢true q)
      enrols undue None is = gates_next undue is (next_gate i gate s) refl

      firsts : (o : Option ℕ) → first_due c i me s ≡ o → DoesNext b (or_else o Expires (or_else (slice_get me.unenrolled 0) Enrols (or_else (next_gate i gate s) AtGate (staging_due c me d))))
      firsts (Some r) is = λ q. absurd (false≢true q)
      firsts None is = enrols (deadlines c i me s is) (slice_get me.unenrolled 0) refl

module _ (c : Configuration) (i : ℕ) (me : Books) (s : Common) (d : Desk) (x : Things) where
  pub submits : (gate : ℕ) (v : Service) → FallsAt c i me s d x (Place.Service (InService.Submit gate) v)
  submits gate v it = submits_by c i me s d x v.defer gate v.back it.open_still it
