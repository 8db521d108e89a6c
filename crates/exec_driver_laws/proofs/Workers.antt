-- The worked examples: drivers that share gates or do not, what operations end with, and where requests are.
use Rattle.std.proofs.Common.{◌≡◌, ◌≢◌, ℕ, zero, suc, ◌≤◌, Bool, true, eqb, Some, refl, sym, ap, arith, []}
use Rattle.exec_driver_laws.{proofs.Words.{sync, here, first, idle, Says, newcomer, Timeout, WaiterKey, false≢true, Waiter, Errno, send_flying, bytes, landed, poll, with_one, no_lists}, specs.{Examples.{workers, held, spoiled, spoiling, no_requests, astray}, Serving.{IsCalls, NoCall, NextCall}, Laws.ShareGates, Sharing.{CallsOne, SetAccount, Other, IsRun, FailsFrom, sets_account_of, key_of}, Lawful.{CompletesLawfully, EndsLawfully}, OwningExamples.{answered, polling}, Waiting.{ArePlaced, AreTimed, AreUnderWay}}}

abbrev alone : Bool → Waiter ℕ ℕ
alone permit = record (newcomer sync here) { permit = permit }

pub not_shared : ShareGates (workers true) held → ⊥
not_shared share =
    let holds : Some (key_of 3 first) ≡ Some (key_of 4 first) = share.holds (key_of 4 first) (alone true) 1 refl refl refl in
    let same : key_of 3 first ≡ key_of 4 first = cc in
    false≢true (sym (ap (λ (k : WaiterKey). eqb k.worker 3) same))

pub says : Says idle
says = record { permitted = grind arith; lists = grind arith; dated = grind arith; lands = tt }

abbrev calling : (n : ℕ) → CallsOne (no_requests n) (no_requests (suc n)) (spoiling n) (spoiling (suc n))
calling zero = record { worker = 0; call = SetAccount (Some 1) spoiled refl refl; says = says; others = λ other apart. refl }
calling (suc n) = record { worker = 0; call = Other refl (λ user_data is. refl) (λ user_data most is was. was) (record { queued = refl; gated = refl; enrolments = refl }) refl; says = says; others = λ other apart. refl }

unset : (k : ℕ) → 1 ≤ k → sets_account_of (calling k).call ≢ Some 1
unset zero past = omega (arith, past)
unset (suc k) past = λ is. cc (is)

abbrev run : IsRun no_requests spoiling
run = record { first = record { count = 2; opens = refl; leaving = λ file. refl; requests = λ worker. refl; rings = λ worker user_data is. refl; says = λ worker. says }; next = calling }

pub spoils : FailsFrom no_requests spoiling 1 7 1 Timeout
spoils = record { run = run; since = omega arith; kept = refl; unset = λ k past soon. unset k past }

pub not_said : Says astray → ⊥
not_said said = false≢true (said.lists.due first refl)

pub one_call : IsCalls 0 idle idle (spoiling 0) (spoiling 1).opens
one_call = record { gates = spoiling 1; opens_after = refl; calls = NextCall idle idle (spoiling 0) (spoiling 1) NoCall (SetAccount (Some 1) spoiled refl refl) says }

pub too_long : EndsLawfully send_flying (landed send_flying 7 (bytes 11)) → ⊥
too_long ends = absurd (false≢true (ends 7 10 refl refl))

pub unlawful : CompletesLawfully (answered (Errno 5000)) → ⊥
unlawful all = absurd (false≢true (all _ refl refl))

pub forgotten : ArePlaced (record (with_one poll 0) { lists = no_lists }) → ⊥
forgotten all = absurd (false≢true (all first))

pub unenrolled : AreTimed (record (with_one poll 0) { lists = no_lists }) → ⊥
unenrolled all = absurd (false≢true (all first))

pub lost : AreUnderWay (polling true []) → ⊥
lost all = let none : 0 ≡ 1 = all first (record (newcomer poll here) { in_flight = true }) refl refl in absurd (omega (arith, none))
