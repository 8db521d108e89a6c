use Rattle.std.proofs.{Common.{◌≡◌, ℕ, Bool, not, ◌&&◌, ap, ◌∙◌, if◌then◌else◌}, lemmas.Bool.and_parts}
use Rattle.exec_outcomes.specs.Outcomes.{Cursor, outcome_next, cursor_next, is_unsupported}
use Rattle.exec_request.{specs.{States.{asks_cancel, as_answer}, Hints.asks_hint, Buffers.moved_of, Syncing.is_syncing, Judging.judged_as, Views.{write_asked, write_cursor, write_hinted}}, proofs.Judging.{judges, hint_left, given_up}}
use Rattle.exec_request.proofs.write_at.WriteAtRequest.on_cqe.Goals as goal

pub returns-clause-judges : goal.returns-clause-judges
returns-clause-judges c =
    let s = c.args.self.now in
    let asked = write_asked s in
    let before = write_cursor s in
    let hinted = write_hinted s in
    let r = judged_as hinted c.args.state c.args.given in
    let t = c.go_on.new.self in
    let next = cursor_next asked before r in
    let by = c.go_on.ensures.cursor (asks_cancel c.args.state) in
    let at : ℕ → Bool → Bool → Cursor = λ m b h. record { moved = m; switched = b; hinted = h } in
    let cache : c.fallback.new.self ≡ given_up (hinted && is_unsupported c.args.given) s.cache =
    c.fallback.ensures.cache ∙ (ap (λ b. given_up (b && is_unsupported c.args.given) t.cache) c.is_hinted-hinted.ensures ∙ ap (λ k. given_up (hinted && is_unsupported c.args.given) k) c.go_on.ensures.cache) in
    let hint : asks_hint c.fallback.new.self ≡ next.hinted = ap asks_hint cache ∙ hint_left s.cache (not (is_syncing s.state)) (is_unsupported c.args.given) in
    judges asked before (at (if is_syncing t.state then 0 else moved_of t.write) (is_syncing t.state) (asks_hint c.fallback.new.self)) r (as_answer c.judge-outcome.result)
    (c.judge-outcome.ensures ∙ ap (λ b. outcome_next asked before (record { result = c.args.given; hinted = hinted; cancelled = b })) c.is_cancelled.ensures)
    (ap (λ m. at m (is_syncing t.state) (asks_hint c.fallback.new.self)) by.0 ∙ (ap (λ b. at next.moved b (asks_hint c.fallback.new.self)) by.1 ∙ ap (at next.moved next.switched) hint))
    (λ h. (and_parts (not (is_syncing s.state)) (asks_hint s.cache) h).1)
