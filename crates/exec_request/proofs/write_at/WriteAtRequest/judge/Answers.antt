use Rattle.std.proofs.Common.{◌≡◌, ℕ, Bool, false, ◌-◌, sym, ◌∙◌, arith, Option, if◌then◌else◌}
use Rattle.exec_outcomes.specs.declared.outcome.{Outcome.Outcome, Kind.TheVariants.Sync}
use Rattle.exec_request.{specs.{Buffers.{length_of, moved_of}, Hints.asks_hint, Judging.judged_alone, Syncing.{write_kind, is_syncing}}, proofs.Left.of_write}
use Rattle.exec_request.proofs.write_at.WriteAtRequest.judge.Goals as goal

pub returns : goal.returns
returns c =
    let s = c.args.self.now in
    let n : ℕ = length_of s.write in
    let m : ℕ = moved_of s.write in
    let h : Bool = asks_hint s.cache in
    let by : Bool → Option Outcome = λ b. if b then judged_alone Sync 1 false c.args.cancelled c.args.given else judged_alone (write_kind s.state) (n - m) h c.args.cancelled c.args.given in
    let syncing : is_syncing s.state ≡ false = sym c.is_syncing.ensures ∙ c.if-is_syncing.false in
    let left : c.remaining_len-left.result ≡ n - m = omega (arith, c.remaining_len-left.ensures) in
    grind (arith, of_write)
