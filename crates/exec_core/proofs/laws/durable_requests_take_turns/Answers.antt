use Rattle.exec_core.proofs.InTurn.{take_turns}
use Rattle.exec_core.proofs.laws.durable_requests_take_turns.Goals as goal

pub returns : goal.returns
returns g c = record {
  turns = λ p core x stands shows. take_turns g.B.Body.left g.B.Scripted.runs g.B.Scripted.holds g.B.Scripted.spot p core x stands shows;
}
