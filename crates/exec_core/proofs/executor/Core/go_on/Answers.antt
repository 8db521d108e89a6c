use Rattle.exec_core.proofs.Taking.{calling_within, read_there}
use Rattle.exec_core.proofs.executor.Core.go_on.Goals as goal

pub go_on-requires-clause-sound : goal.go_on-requires-clause-sound
go_on-requires-clause-sound g c =
    let core = c.args.self.now in
    c.requires.stands.together.calls c.args.caller c.index_mut.result.now (read_there core.callers.items c.args.caller c.index_mut.result.now (calling_within core c.args.caller c.requires.enabled) c.index_mut.ensures.value)
