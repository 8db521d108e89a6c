use Rattle.exec_core.proofs.InTurn.{again, again_root, queues_once}
use Rattle.exec_core.proofs.laws.a_task_is_queued_once.Goals as goal

pub returns : goal.returns
returns g c = record {
  once = λ p core x stands shows. queues_once g.B.Body.left g.B.Scripted.runs g.B.Scripted.holds g.B.Scripted.spot p core x stands shows;
  again = λ i t s d it ordinary empty. again i t s d it ordinary empty;
  root = again_root;
}
