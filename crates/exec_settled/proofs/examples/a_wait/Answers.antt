use Rattle.std.proofs.{Common.{ℕ, ◌<◌, Bool, true, false, Some, refl, ap, subst, arith, inl, inr}, lemmas.{Bool.{true≢false, false≢true}, Option.none-some}}
use Rattle.exec_machine.specs.{declared.state.Waiting.{Waiting, Waiting as waiting}, Same.is_number, Tests.{is_empty, is_settled}, World.Common}
use Rattle.exec_books.specs.Examples.{its_request}
use Rattle.exec_settled.{specs.{Examples.waits_for, Given.{IsSleptBy, IsWaitedFor, WaitsFor}}, proofs.{AwaitedTasks.is_for_thing, TwoAsleep.each}}
use Rattle.exec_settled.proofs.examples.a_wait.Goals as goal

abbrev s : Common
s = (waits_for (record its_request { worker = 1; waiter = Some 1 })).world.common

abbrev number_of : Waiting → ℕ
number_of (waiting.Request k) = k
number_of _ = 0

abbrev is_for_sleeper : Waiting → Bool
is_for_sleeper (waiting.Timer z) = true
is_for_sleeper _ = false

waited : (t k : ℕ) → WaitsFor s t (waiting.Request k) → IsWaitedFor s t k
waited =
    let lt : 0 < 1 = omega (arith) in
    each (λ t. (k : ℕ) → WaitsFor s t (waiting.Request k) → IsWaitedFor s t k)
    (λ k w. absurd (false≢true (ap is_for_thing w.waits)))
    (λ k w. subst (λ k. IsWaitedFor s 1 k) (ap number_of w.waits) (record { there = lt; waiter = refl; observed = refl; takes_mail = refl }))
    (λ t k w. absurd (false≢true (ap is_for_thing w.waits)))

none_slept : (t z : ℕ) → WaitsFor s t (waiting.Timer z) → IsSleptBy s t z
none_slept = each (λ t. (z : ℕ) → WaitsFor s t (waiting.Timer z) → IsSleptBy s t z)
    (λ z w. absurd (false≢true (ap is_for_sleeper w.waits))) (λ z w. absurd (false≢true (ap is_for_sleeper w.waits))) (λ t z w. absurd (false≢true (ap is_for_sleeper w.waits)))

pub returns : goal.returns
returns c =
    record {
      kept = record { requests = waited; sleepers = none_slept };
      of_another = λ it. false≢true (ap (λ o. is_number 1 o) (it.requests 1 0 (record { going = refl; waits = refl })).waiter);
      unheld = λ it. false≢true (it.requests 1 0 (record { going = refl; waits = refl })).observed;
      unsaid = λ it. elim (it.sent 0 refl) [ inl there ↦ false≢true there | inr shut ↦ false≢true shut ];
      in_no_list = λ it. false≢true ((it.listed 0).queued refl);
      off_the_gate = λ it. elim ((it.lined_up 0).waits refl (omega arith)) [ inl stands ↦ false≢true stands | inr joins ↦ true≢false (ap is_settled joins) ];
      of_no_open = λ it. absurd (omega (arith, it.there 0 refl));
      unled = λ it. false≢true (ap is_empty (it.led 0 refl));
      unpermitted = λ it. none-some 0 ((it.lined_up 0).has refl refl refl (omega arith));
    }
