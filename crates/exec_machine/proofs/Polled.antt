-- Who polls a task, by its phase.
use Rattle.std.proofs.{Common.{◌≡◌, ℕ, Bool, true, false, ◌==◌, Option, Some, None, refl, sym, ap, arith}, lemmas.Bool.true≢false}
use Rattle.exec_machine.specs.{declared.state.TaskPhase.{TaskPhase, TaskPhase as task}, Tests.is_ready, Tasks.woken_phase, Closing.ends_by_clear}

-- PHASES

abbrev pub is_polled_by : ℕ → TaskPhase → Bool
is_polled_by j (task.Running k) = j == k
is_polled_by j (task.Noted k) = j == k
is_polled_by j _ = false

pub one_poller : (i j : ℕ) (p : TaskPhase) → is_polled_by i p ≡ true → is_polled_by j p ≡ true → i ≡ j
one_poller = grind arith

pub woken_polled : (j : ℕ) (p : TaskPhase) → is_polled_by j p ≡ true → is_polled_by j (woken_phase p) ≡ true
woken_polled = grind arith

pub ready_unpolled : (j : ℕ) (p : TaskPhase) → is_ready p ≡ true → is_polled_by j p ≡ false
ready_unpolled j task.Queued h = refl
ready_unpolled j p h = absurd (true≢false (sym h))

pub cleared_unpolled : (j : ℕ) (p : TaskPhase) → ends_by_clear p ≡ true → is_polled_by j p ≡ false
cleared_unpolled = grind arith

abbrev pub is_nothing : Option ℕ → Bool
is_nothing None = true
is_nothing (Some n) = false

pub none_some : {n : ℕ} → None ≡ Some n → ⊥
none_some h = true≢false (ap is_nothing h)

abbrev pub number_of : Option ℕ → ℕ
number_of None = 0
number_of (Some n) = n

pub some_same : {m n : ℕ} → Some m ≡ Some n → m ≡ n
some_same h = ap number_of h
