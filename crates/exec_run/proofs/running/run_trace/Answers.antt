use Rattle.std.proofs.Common.{List, ℕ, subst, arith}
use Rattle.exec_run.proofs.{Names.{IsTraceOf, meaning_of, err_from_is_err_and}, Plans.{few_there, few_scripts}, RunLemmas.cause_of}
use Rattle.exec_run.proofs.running.run_trace.Goals as goal

pub returns-in_err-trace-clause-err : goal.returns-in_err-trace-clause-err
returns-in_err-trace-clause-err g c = grind (arith, err_from_is_err_and, cause_of)

pub log_trace-requires-clause-few : goal.log_trace-requires-clause-few
log_trace-requires-clause-few g c =
    let text = c.in_ok-text.text.items in
    let spelled : IsTraceOf text (meaning_of c.in_ok-trace.trace) = subst (λ (x : List ℕ). IsTraceOf x (meaning_of c.in_ok-trace.trace)) c.as_slice.ensures.value c.in_ok-trace.ensures.ok.spelled in
    few_there c.in_ok-trace.trace (few_scripts text (meaning_of c.in_ok-trace.trace) c.in_ok-text.ensures.whole.short spelled)
