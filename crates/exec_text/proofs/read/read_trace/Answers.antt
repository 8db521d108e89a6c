use Rattle.std.proofs.{Common.{◌≡◌, ℕ, List, ◌∙◌, subst}, lemmas.Result.err_from_is_err_and}
use Rattle.exec_text.{specs.Grammar.{IsFirstFault, ScriptsThatCount}, proofs.{Begins.meaning_from, Faults.spelled_trace, Lists.{kept_whole, lists_whole}}}
use Rattle.exec_text.proofs.read.read_trace.Goals as goal

pub returns-in_err-config-clause-unread : goal.returns-in_err-config-clause-unread
returns-in_err-config-clause-unread c =
    let fault = c.in_err-config in
    let p = err_from_is_err_and c.from_residual.result c.from_residual.ensures.1 in
    rw (p.1, p.2) (subst (λ (t : List ℕ). IsFirstFault t fault.field-0.0.number) (c.new-lines.ensures.text) fault.ensures.fault)

pub returns-in_err-tasks-clause-unread : goal.returns-in_err-tasks-clause-unread
returns-in_err-tasks-clause-unread c =
    let fault = c.in_err-tasks in
    let p = err_from_is_err_and c.from_residual-in_err-tasks.result c.from_residual-in_err-tasks.ensures.1 in
    rw (p.1, p.2) (subst (λ (t : List ℕ). IsFirstFault t fault.field-0.0.number) (c.in_ok-config.ensures.text ∙ c.new-lines.ensures.text) fault.ensures.fault)

pub returns-in_err-read_mark-clause-unread : goal.returns-in_err-read_mark-clause-unread
returns-in_err-read_mark-clause-unread c =
    let fault = c.in_err-read_mark in
    let p = err_from_is_err_and c.from_residual-in_err-read_mark.result c.from_residual-in_err-read_mark.ensures.1 in
    rw (p.1, p.2) (subst (λ (t : List ℕ). IsFirstFault t fault.field-0.0.number) (c.in_ok-tasks.ensures.text ∙ c.in_ok-config.ensures.text ∙ c.new-lines.ensures.text) fault.ensures.fault)

pub returns-in_err-kept_steps-clause-unread : goal.returns-in_err-kept_steps-clause-unread
returns-in_err-kept_steps-clause-unread c =
    let fault = c.in_err-kept_steps in
    let p = err_from_is_err_and c.from_residual-in_err-kept_steps.result c.from_residual-in_err-kept_steps.ensures.1 in
    rw (p.1, p.2) (subst (λ (t : List ℕ). IsFirstFault t fault.field-0.0.number) (c.in_ok-read_mark.ensures.text ∙ c.in_ok-tasks.ensures.text ∙ c.in_ok-config.ensures.text ∙ c.new-lines.ensures.text) fault.ensures.fault)

pub returns-in_err-scripts-clause-unread : goal.returns-in_err-scripts-clause-unread
returns-in_err-scripts-clause-unread c =
    let r = c.in_ok-tasks.ensures.ok in
    let s = c.in_ok-kept_steps.ensures.ok in
    let text : c.read_mark.new.lines.text.now ≡ c.args.text.now = c.in_ok-read_mark.ensures.text ∙ c.in_ok-tasks.ensures.text ∙ c.in_ok-config.ensures.text ∙ c.new-lines.ensures.text in
    let counted = subst (λ (t : List ℕ). ScriptsThatCount t c.count_scripts-count.result) (c.in_ok-config.ensures.text ∙ c.new-lines.ensures.text) c.count_scripts-count.ensures in
    let p = err_from_is_err_and c.from_residual-in_err-scripts.result c.from_residual-in_err-scripts.ensures.1 in
    rw (p.1, p.2, c.in_err-scripts.ensures.err)
    (meaning_from c.in_ok-config.config r.scripts r.root s.0, spelled_trace c.args.text.now _ _ _ c.count_scripts-count.result c.in_ok-config.config r.scripts r.root s.0 text counted r.top c.in_ok-read_mark.ensures.ok s.2 s.3 s.1)

pub returns-in_err-root-clause-unread : goal.returns-in_err-root-clause-unread
returns-in_err-root-clause-unread c =
    let r = c.in_ok-tasks.ensures.ok in
    let s = c.in_ok-kept_steps.ensures.ok in
    let text : c.read_mark.new.lines.text.now ≡ c.args.text.now = c.in_ok-read_mark.ensures.text ∙ c.in_ok-tasks.ensures.text ∙ c.in_ok-config.ensures.text ∙ c.new-lines.ensures.text in
    let counted = subst (λ (t : List ℕ). ScriptsThatCount t c.count_scripts-count.result) (c.in_ok-config.ensures.text ∙ c.new-lines.ensures.text) c.count_scripts-count.ensures in
    let p = err_from_is_err_and c.from_residual-in_err-root.result c.from_residual-in_err-root.ensures.1 in
    rw (p.1, p.2, c.in_err-root.ensures.err)
    (meaning_from c.in_ok-config.config r.scripts r.root s.0, spelled_trace c.args.text.now _ _ _ c.count_scripts-count.result c.in_ok-config.config r.scripts r.root s.0 text counted r.top c.in_ok-read_mark.ensures.ok s.2 s.3 s.1)

pub returns-in_err-steps-clause-unread : goal.returns-in_err-steps-clause-unread
returns-in_err-steps-clause-unread c =
    let r = c.in_ok-tasks.ensures.ok in
    let s = c.in_ok-kept_steps.ensures.ok in
    let text : c.read_mark.new.lines.text.now ≡ c.args.text.now = c.in_ok-read_mark.ensures.text ∙ c.in_ok-tasks.ensures.text ∙ c.in_ok-config.ensures.text ∙ c.new-lines.ensures.text in
    let counted = subst (λ (t : List ℕ). ScriptsThatCount t c.count_scripts-count.result) (c.in_ok-config.ensures.text ∙ c.new-lines.ensures.text) c.count_scripts-count.ensures in
    let p = err_from_is_err_and c.from_residual-in_err-steps.result c.from_residual-in_err-steps.ensures.1 in
    rw (p.1, p.2, c.in_err-steps.ensures.err)
    (meaning_from c.in_ok-config.config r.scripts r.root s.0, spelled_trace c.args.text.now _ _ _ c.count_scripts-count.result c.in_ok-config.config r.scripts r.root s.0 text counted r.top c.in_ok-read_mark.ensures.ok s.2 s.3 s.1)

pub returns-clause-ok : goal.returns-clause-ok
returns-clause-ok c =
    let r = c.in_ok-tasks.ensures.ok in
    let s = c.in_ok-kept_steps.ensures.ok in
    let text : c.read_mark.new.lines.text.now ≡ c.args.text.now = c.in_ok-read_mark.ensures.text ∙ c.in_ok-tasks.ensures.text ∙ c.in_ok-config.ensures.text ∙ c.new-lines.ensures.text in
    let counted = subst (λ (t : List ℕ). ScriptsThatCount t c.count_scripts-count.result) (c.in_ok-config.ensures.text ∙ c.new-lines.ensures.text) c.count_scripts-count.ensures in
    rw (lists_whole _ _ r.scripts c.in_ok-scripts.ensures.ok r.keeps_scripts, kept_whole _ _ r.root c.in_ok-root.ensures.ok r.keeps_root, kept_whole _ _ s.0 c.in_ok-steps.ensures.ok s.4)
    (spelled_trace c.args.text.now _ _ _ c.count_scripts-count.result c.in_ok-config.config r.scripts r.root s.0 text counted r.top c.in_ok-read_mark.ensures.ok s.2 s.3 s.1)
