use Rattle.std.{proofs.{Common.length, lemmas.Bool.and_parts}, specs.Prelude.{slice_get, nat_lt}}
use Rattle.exec_core.{specs.Lift.may_call_in, proofs.Taking.{call_within, read_there}}
use Rattle.exec_core.proofs.executor.Core.wake.Goals as goal

pub wake-requires-clause-sound : goal.wake-requires-clause-sound
wake-requires-clause-sound g c =
    let core = c.args.self.now in
    let may = and_parts (may_call_in (slice_get core.callers.items c.args.caller)) (nat_lt c.args.task (length core.shared.tasks.items)) c.requires.enabled in
    c.requires.stands.together.calls c.args.caller c.index_mut.result.now (read_there core.callers.items c.args.caller c.index_mut.result.now (call_within core c.args.caller may.0) c.index_mut.ensures.value)
