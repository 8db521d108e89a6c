-- Where the next moment has come, something is due.
use Rattle.std.{proofs.{Common.{◌≡◌, ℕ, ◌+◌, ◌≤◌, Bool, true, false, if◌then◌else◌, ◌==◌, ◌&&◌, ◌||◌, List, [], ◌∷◌, Option, Some, None, refl, ap, arith, inl, inr}, lemmas.Bool.{false≢true, and_from, or_cases, or_left, or_right}}, specs.{Prelude.nat_le, List.list_any}}
use Rattle.exec_machine.specs.{declared.state.{Request.Request, Sleeper.Sleeper}, Deadlines.{earlier, first_timer, first_until, is_due, next_due}, Tests.{is_asleep, is_open}, World.{Common, seat_of}}
use Rattle.exec_moves.specs.{Counts.one_if, Load.has_come}

on : (b : Bool) → b ≡ true → one_if b ≡ 1
on b h = ap one_if h

of_earlier : (clock : ℕ) (a b : Option ℕ) → has_come clock (earlier a b) ≡ true → (has_come clock a || has_come clock b) ≡ true
of_earlier clock None b come = come
of_earlier clock (Some u) None come = or_left (nat_le u clock) false come
of_earlier clock (Some u) (Some m) come = by (nat_le u m) come
  where
    by : (first : Bool) → has_come clock (if first then Some u else Some m) ≡ true → (nat_le u clock || nat_le m clock) ≡ true
    by true come = or_left (nat_le u clock) (nat_le m clock) come
    by false come = or_right (nat_le u clock) (nat_le m clock) come

timer_due : (i clock : ℕ) (r : Request) (timer : Option ℕ) → (r.worker == i) ≡ true → has_come clock timer ≡ true → is_due i clock (record r { timer = timer }) ≡ true
timer_due i clock r None own come = absurd (false≢true come)
timer_due i clock r (Some m) own come = and_from (r.worker == i) (nat_le m clock) own come

timers_due : (i clock : ℕ) (rs : List Request) → has_come clock (first_timer i rs) ≡ true → list_any (is_due i clock) rs ≡ true
timers_due i clock [] come = absurd (false≢true come)
timers_due i clock (r ∷ rs) come = by (r.worker == i) refl (timers_due i clock rs) come
  where
    first : (has_come clock (first_timer i rs) ≡ true → list_any (is_due i clock) rs ≡ true) → (r.worker == i) ≡ true → has_come clock (earlier r.timer (first_timer i rs)) ≡ true → (is_due i clock r || list_any (is_due i clock) rs) ≡ true
    first rest own some = elim (or_cases (has_come clock r.timer) (has_come clock (first_timer i rs)) (of_earlier clock r.timer (first_timer i rs) some)) [
      | inl this ↦ or_left (is_due i clock r) (list_any (is_due i clock) rs) (timer_due i clock r r.timer own this)
      | inr later ↦ or_right (is_due i clock r) (list_any (is_due i clock) rs) (rest later)
    ]

    by : (b : Bool) → (r.worker == i) ≡ b → (has_come clock (first_timer i rs) ≡ true → list_any (is_due i clock) rs ≡ true) → has_come clock (if b then earlier r.timer (first_timer i rs) else first_timer i rs) ≡ true → (is_due i clock r || list_any (is_due i clock) rs) ≡ true
    by true own rest some = first rest own some
    by false other rest some = or_right (is_due i clock r) (list_any (is_due i clock) rs) (rest some)

-- a sleeper of the worker whose moment has come
abbrev has_slept : ℕ → ℕ → Sleeper → Bool
has_slept i clock z = is_asleep i z && nat_le z.until clock

sleepers_due : (i clock : ℕ) (zs : List Sleeper) → has_come clock (first_until i zs) ≡ true → list_any (has_slept i clock) zs ≡ true
sleepers_due i clock [] come = absurd (false≢true come)
sleepers_due i clock (z ∷ zs) come = by (is_asleep i z) refl (sleepers_due i clock zs) come
  where
    first : (has_come clock (first_until i zs) ≡ true → list_any (has_slept i clock) zs ≡ true) → is_asleep i z ≡ true → has_come clock (earlier (Some z.until) (first_until i zs)) ≡ true → (has_slept i clock z || list_any (has_slept i clock) zs) ≡ true
    first rest own some = elim (or_cases (nat_le z.until clock) (has_come clock (first_until i zs)) (of_earlier clock (Some z.until) (first_until i zs) some)) [
      | inl this ↦ or_left (has_slept i clock z) (list_any (has_slept i clock) zs) (and_from (is_asleep i z) (nat_le z.until clock) own this)
      | inr later ↦ or_right (has_slept i clock z) (list_any (has_slept i clock) zs) (rest later)
    ]

    by : (b : Bool) → is_asleep i z ≡ b → (has_come clock (first_until i zs) ≡ true → list_any (has_slept i clock) zs ≡ true) → has_come clock (if b then earlier (Some z.until) (first_until i zs) else first_until i zs) ≡ true → (has_slept i clock z || list_any (has_slept i clock) zs) ≡ true
    by true own rest some = first rest own some
    by false other rest some = or_right (has_slept i clock z) (list_any (has_slept i clock) zs) (rest some)

-- where the next moment has come, a deadline is due or a sleeper
pub due : (i : ℕ) (s : Common) → has_come s.clock (next_due s i) ≡ true → 1 ≤ one_if (list_any (is_due i s.clock) s.requests) + one_if (list_any (has_slept i s.clock) s.sleepers)
due i s come = by (is_open (seat_of s i).phase) come
  where
    timer : has_come s.clock (first_timer i s.requests) ≡ true → 1 ≤ one_if (list_any (is_due i s.clock) s.requests) + one_if (list_any (has_slept i s.clock) s.sleepers)
    timer some = omega (arith, on (list_any (is_due i s.clock) s.requests) (timers_due i s.clock s.requests some))

    sleeper : has_come s.clock (first_until i s.sleepers) ≡ true → 1 ≤ one_if (list_any (is_due i s.clock) s.requests) + one_if (list_any (has_slept i s.clock) s.sleepers)
    sleeper some = omega (arith, on (list_any (has_slept i s.clock) s.sleepers) (sleepers_due i s.clock s.sleepers some))

    by : (b : Bool) → has_come s.clock (if b then earlier (first_timer i s.requests) (first_until i s.sleepers) else first_timer i s.requests) ≡ true
        → 1 ≤ one_if (list_any (is_due i s.clock) s.requests) + one_if (list_any (has_slept i s.clock) s.sleepers)
    by true some = elim (or_cases (has_come s.clock (first_timer i s.requests)) (has_come s.clock (first_until i s.sleepers)) (of_earlier s.clock (first_timer i s.requests) (first_until i s.sleepers) some)) [
      | inl one ↦ timer one
      | inr two ↦ sleeper two
    ]
    by false some = timer some
