-- What an enter leaves of the signs and of what is owed, at any place of worker i.
use Rattle.std.{proofs.{Common.{◌≡◌, ℕ, ◌+◌, ◌*◌, ◌≤◌, ◌<◌, Bool, true, false, not, ◌&&◌, ◌||◌, List, [], ◌∷◌, length, get_or, refl, ap, ◌∙◌, arith, ◌⊎◌, inl, inr}, lemmas.List.{get_or-set_same, set-get_or}, Math.Bool.and-true}, specs.Prelude.{nat_lt, nat_le, is_some}}
use Rattle.exec_machine.specs.{declared.{config.Configuration.Configuration, event.Event.TheVariants.{Enter, Busy}}, After.{own_after, common_after}, Choice.Choice.Plain, Ranges.ring_size, Tests.is_empty, World.{Common, Own as Books, Seat, no_seat, seat_of}}
use Rattle.exec_moves.specs.{declared.place.Place.Place, Callback.is_full, Counts.{gates_from, one_if}, Load.has_submissions, Serve.entered, State.{Desk, Things, WakePoll, no_wake_poll, taken_in, wake_poll_of, word_of}, Thing.set_wake_poll}
use Rattle.exec_credit.proofs.Entering.{due_same, gates_same}
use Rattle.exec_progress.{specs.Owed.{calling_back, finds, has_stray, is_before_spin, quiet_items, reaping, sampling, signals_itself, signs, signs_ahead, stage, staging}, proofs.Tools.{KeepsTurns, Now, PaysWant, ahead_at, others_at, spun, wanted_at, or_more}}

pub at_most_one : (b : Bool) → one_if b ≤ 1
at_most_one true = omega arith
at_most_one false = omega arith

-- what counts below a stage counts less further up
pub lower : (m n k : ℕ) (b : Bool) → m ≤ n → one_if (nat_lt n k && b) ≤ one_if (nat_lt m k && b)
lower = grind arith

gated : (g a b : Bool) (m n : ℕ) → one_if a + m ≤ one_if b + n → m ≤ n → one_if (g && a) + m ≤ one_if (g && b) + n
gated true a b m n h k = h
gated false a b m n h k = omega (arith, k)

and_no : (g a b : Bool) → a ≡ false → one_if (g && (a && b)) ≡ 0
and_no true a b h = ap (λ v. one_if (v && b)) h
and_no false a b h = refl

no_and : (a b : Bool) → a ≡ false → one_if (a && b) ≡ 0
no_and a b h = ap (λ v. one_if (v && b)) h

more_sure : (g a b : Bool) → one_if (g && (a && not b)) ≤ one_if (g && a)
more_sure = grind arith

-- THE WAKE POLL that an enter takes in: as it was, or it pays with the wake that was kept for what that makes

pub record IsTaken (v w : WakePoll) : Type 0 where
  pub kept_pays : 2 * one_if v.kept + one_if (is_some v.ended) ≤ 2 * one_if w.kept + one_if (is_some w.ended)
  pub told_pays : (v.told ≡ w.told) ⊎ (1 + 2 * one_if v.kept + one_if (is_some v.ended) ≤ 2 * one_if w.kept + one_if (is_some w.ended))

pub takes_poll : (polled : Bool) (w : WakePoll) → IsTaken (taken_in polled w) w
takes_poll = grind arith

-- each cancel that the kernel takes in is acknowledged
acknowledged : (n : ℕ) (cancels : List ℕ) (told : Bool) → one_if (nat_lt 0 (n + length cancels) || told) ≤ one_if (nat_lt 0 n || told) + one_if (not (is_empty cancels))
acknowledged n [] told = let same : n + 0 ≡ n = omega arith in omega (arith, ap (λ k. one_if (nat_lt 0 k || told)) same)
acknowledged n (r ∷ cancels) told = omega (arith, at_most_one (nat_lt 0 (n + length (r ∷ cancels)) || told))

module _ (c : Configuration) (i : ℕ) (me : Books) (s : Common) (d : Desk) (x : Things) where
  -- before it, and after it at place q: what it took in
  abbrev pub here : Now
  here = record { me = me; s = s; d = d; x = x }

  abbrev pub entered_to : Place → Now
  entered_to q =
      record {
        me = own_after c me s i Enter Plain;
        s = common_after c me s i Enter Plain;
        d = record (entered (length me.untold) d) { place = q };
        x = set_wake_poll i x (taken_in d.polled (wake_poll_of x i));
      }

  -- the ring was busy
  abbrev pub busy_to : Place → Now
  busy_to q =
      record { me = own_after c me s i Busy Plain; s = common_after c me s i Busy Plain; d = record d { place = q }; x = set_wake_poll i x (wake_poll_of x i) }

  -- AN ENTER

  -- all sure signs stay as they are
  pub enter_signs : (q : Place) → let b = entered_to q in signs c i b.me b.s b.d b.x ≡ signs c i me s d x
  enter_signs q = rw (due_same i s.clock i s.requests, due_same i me.sampled i s.requests) refl

  pub enter_ahead : (q : Place) → ahead_at c i (entered_to q) ≡ signs_ahead (stage d.picks q) q (signs c i me s d x)
  enter_ahead q = ap (signs_ahead (stage d.picks q) q) (enter_signs q)

  pub enter_wanted : (q : Place) → wanted_at c i (entered_to q) ≡ wanted_at c i here
  enter_wanted q = rw (due_same i s.clock i s.requests, due_same i me.sampled i s.requests) refl

  -- so do the gates
  pub enter_gates : (q : Place) (from : ℕ) → gates_from i from (entered_to q).s ≡ gates_from i from s
  enter_gates q from = gates_same i from i s

  -- the submission queue is empty
  pub enter_full : (q : Place) → nat_lt 0 (ring_size c) ≡ true → is_full (ring_size c) (entered_to q).d ≡ false
  enter_full q some = ap not some

  -- the wake poll
  pub enter_poll : (q : Place) → i < length x.wake_polls → IsTaken (wake_poll_of (entered_to q).x i) (wake_poll_of x i)
  enter_poll q there = rw (get_or-set_same x.wake_polls i (taken_in d.polled (wake_poll_of x i)) no_wake_poll there) (takes_poll d.polled (wake_poll_of x i))

  -- completions of no operation that come are paid for
  pub enter_strays : (q : Place) → i < length x.wake_polls
      → let v = wake_poll_of (entered_to q).x i in let w = wake_poll_of x i in
      one_if (has_stray (entered_to q).d v) + (2 * one_if v.kept + one_if (is_some v.ended)) ≤ one_if (has_stray d w) + (one_if (not (is_empty me.untold)) + (2 * one_if w.kept + one_if (is_some w.ended)))
  enter_strays q there = by (enter_poll q there).told_pays
    where
      v : WakePoll
      v = wake_poll_of (entered_to q).x i

      w : WakePoll
      w = wake_poll_of x i

      by : (v.told ≡ w.told) ⊎ (1 + 2 * one_if v.kept + one_if (is_some v.ended) ≤ 2 * one_if w.kept + one_if (is_some w.ended))
          → one_if (has_stray (entered_to q).d v) + (2 * one_if v.kept + one_if (is_some v.ended)) ≤ one_if (has_stray d w) + (one_if (not (is_empty me.untold)) + (2 * one_if w.kept + one_if (is_some w.ended)))
      by (inl same) = omega (arith, (enter_poll q there).kept_pays, ap (λ t. one_if (nat_lt 0 (d.others + length me.untold) || t)) same, acknowledged d.others me.untold w.told)
      by (inr paid) = omega (arith, paid, at_most_one (nat_lt 0 (d.others + length me.untold) || v.told))

  -- The latch counts no more there.
  latch_lower : (q : Place) → stage d.picks d.place ≤ stage d.picks q → signals_itself i q ≡ false
      → one_if (nat_lt (stage d.picks q) sampling && (signals_itself i q || (word_of x i).latch)) ≤ one_if (nat_lt (stage d.picks d.place) sampling && (signals_itself i d.place || (word_of x i).latch))
  latch_lower q up still =
      let n = stage d.picks d.place in
      let m = stage d.picks q in
      let latch = (word_of x i).latch in
      omega (arith, ap (λ v. one_if (nat_lt m sampling && (v || latch))) still, lower n m sampling latch up, or_more (nat_lt n sampling) (signals_itself i d.place) latch)

  -- The other signs don't rise, where the turn stands no lower at q.
  pub enter_others : (q : Place) → nat_lt 0 (ring_size c) ≡ true → i < length x.wake_polls → stage d.picks d.place ≤ stage d.picks q → signals_itself i q ≡ false → finds q ≡ false
      → others_at c i (entered_to q) ≤ others_at c i here
  enter_others q some there up still unfound =
      let v = wake_poll_of (entered_to q).x i in
      let w = wake_poll_of x i in
      let n = stage d.picks d.place in
      let m = stage d.picks q in
      let strays = gated (nat_lt n reaping) (has_stray (entered_to q).d v) (has_stray d w) (2 * one_if v.kept + one_if (is_some v.ended)) (one_if (not (is_empty me.untold)) + (2 * one_if w.kept + one_if (is_some w.ended)))
      (enter_strays q there) (omega (arith, (enter_poll q there).kept_pays)) in
      let unpolled = and_no (nat_lt m staging) (is_full (ring_size c) (entered_to q).d) (not d.polled && not (has_submissions c me)) (enter_full q some) in
      omega (
        arith,
        strays,
        lower n m reaping (has_stray (entered_to q).d v) up,
        latch_lower q up still,
        lower n m staging (has_submissions c me && (seat_of s i).busy) up,
        unpolled,
        lower n m calling_back (nat_lt 0 (quiet_items d)) up,
        no_and (finds q) (not ((signs c i me s d x).queue || ((signs c i me s d x).global || (signs c i me s d x).mail))) unfound,
      )

  pub enter_spun : (q : Place) → stage d.picks d.place ≤ stage d.picks q → signals_itself i q ≡ false → one_if (is_before_spin q) ≤ one_if (is_before_spin d.place) → spun c i (entered_to q) ≤ spun c i here
  enter_spun q up still before = omega (arith, latch_lower q up still, before)

  -- A BUSY RING: of the sure signs only that of submissions may come up
  pub busy_seat : i < length s.seats → seat_of (common_after c me s i Busy Plain) i ≡ record (seat_of s i) { busy = false }
  busy_seat there = get_or-set_same s.seats i (record (seat_of s i) { busy = false }) no_seat there

  pub busy_poll : (q : Place) → wake_poll_of (busy_to q).x i ≡ wake_poll_of x i
  busy_poll q = ap (λ ws. get_or ws i no_wake_poll) (set-get_or x.wake_polls i no_wake_poll)

  pub busy_signs : (q : Place) → i < length s.seats → let b = busy_to q in signs c i b.me b.s b.d b.x ≡ record (signs c i me s d x) { submissions = has_submissions c me }
  busy_signs = grind (arith, busy_seat, and-true)

  pub busy_ahead : (q : Place) → i < length s.seats → signs_ahead (stage d.picks q) q (signs c i me s d x) ≤ ahead_at c i (busy_to q)
  busy_ahead q there = omega (arith, ap (signs_ahead (stage d.picks q) q) (busy_signs q there), more_sure (nat_le staging (stage d.picks q)) (has_submissions c me) (seat_of s i).busy)

  -- that it was busy is used up
  pub busy_others : (q : Place) → i < length s.seats → (seat_of s i).busy ≡ true → stage d.picks d.place ≤ stage d.picks q → signals_itself i q ≡ false → finds q ≡ false
      → others_at c i (busy_to q) + 1 ≤ others_at c i here
  busy_others q there is up still unfound =
      let w = wake_poll_of x i in
      let n = stage d.picks d.place in
      let m = stage d.picks q in
      let pressed : one_if (nat_lt m staging && (has_submissions c me && (seat_of (busy_to q).s i).busy)) ≡ 0 = ap (λ (z : Seat). one_if (nat_lt m staging && (has_submissions c me && z.busy))) (busy_seat there) ∙ never (nat_lt m staging) (has_submissions c me) in
      rw (busy_poll q) (omega (
        arith,
        ap (λ (z : Seat). one_if z.busy) (busy_seat there),
        ap one_if is,
        pressed,
        lower n m reaping (has_stray d w) up,
        latch_lower q up still,
        lower n m staging (is_full (ring_size c) d && (not d.polled && not (has_submissions c me))) up,
        lower n m calling_back (nat_lt 0 (quiet_items d)) up,
        no_and (finds q) (not ((signs c i me (busy_to q).s d x).queue || ((signs c i me (busy_to q).s d x).global || (signs c i me s d x).mail))) unfound,
      ))
    where
      never : (g a : Bool) → one_if (g && (a && false)) ≡ 0
      never = grind arith

  pub busy_spun : (q : Place) → stage d.picks d.place ≤ stage d.picks q → signals_itself i q ≡ false → one_if (is_before_spin q) ≤ one_if (is_before_spin d.place) → spun c i (busy_to q) ≤ spun c i here
  busy_spun q up still before = omega (arith, latch_lower q up still, before)

  -- IN ALL, where what was ahead is so at q: after an enter no more turns are owed, nor after one of a busy ring
  pub enter_keeps : (q : Place) → nat_lt 0 (ring_size c) ≡ true → i < length x.wake_polls → stage d.picks d.place ≤ stage d.picks q → signals_itself i q ≡ false → finds q ≡ false
      → one_if (is_before_spin q) ≤ one_if (is_before_spin d.place) → ahead_at c i here ≤ signs_ahead (stage d.picks q) q (signs c i me s d x) → KeepsTurns c i here (entered_to q)
  enter_keeps q some there up still unfound before on =
      grind (arith, on, enter_ahead q, enter_wanted q, enter_others, some, there, up, still, unfound, enter_spun, before)

  pub busy_pays : (q : Place) → i < length s.seats → (seat_of s i).busy ≡ true → stage d.picks d.place ≤ stage d.picks q → signals_itself i q ≡ false → finds q ≡ false
      → one_if (is_before_spin q) ≤ one_if (is_before_spin d.place) → ahead_at c i here ≤ signs_ahead (stage d.picks q) q (signs c i me s d x) → PaysWant c i here (busy_to q)
  busy_pays = grind (arith, busy_ahead, busy_others, busy_spun)
