use Rattle.std.proofs.Common.{refl, sym, ap, subst, ◌∙◌}
use Rattle.exec_parts.{specs.Scripts.Begins, proofs.Facts.same_Some}
use Rattle.exec_core.proofs.Taking.{spawn_calls, spawn_keeps, call_within, read_there}
use Rattle.exec_core.proofs.executor.Core.spawn.Goals as goal

pub spawn-spawned-requires-clause-sound : goal.spawn-spawned-requires-clause-sound
spawn-spawned-requires-clause-sound g c =
    let core = c.args.self.now in
    let there = read_there core.callers.items c.args.caller c.index_mut.result.now (call_within core c.args.caller c.requires.enabled) c.index_mut.ensures.value in
    c.requires.ready.1.stands.together.calls c.args.caller c.index_mut.result.now there

pub returns-clause-calls : goal.returns-clause-calls
returns-clause-calls g c =
    let core = c.args.self.now in
    let there = read_there core.callers.items c.args.caller c.index_mut.result.now (call_within core c.args.caller c.requires.enabled) c.index_mut.ensures.value in
    let carries = c.requires.ready.2 in
    let same = same_Some carries.0 c.in-Some.body (sym carries.1 ∙ c.in-Some.is) in
    spawn_calls g.B.Body.left g.B.Scripted.spot g.B.Body.name_of c.args.caller c.args.script core _ c.in-Some.body c.index_mut.result.now c.spawn-spawned.new.self c.spawn-spawned.result
    (ap (λ b. g.B.Body.name_of (g.B.Body.left b)) (sym same) ∙ carries.2) (subst (λ b. Begins (g.B.Scripted.spot (g.B.Body.left b)) c.args.script) same carries.3.begins)
    there refl refl c.is_err-self.ensures.value c.requires.ready.1.unspent c.spawn-spawned.ensures.made

pub returns-clause-keeps : goal.returns-clause-keeps
returns-clause-keeps g c =
    spawn_keeps g.B.Body.left g.B.Scripted.runs g.B.Scripted.holds g.B.Scripted.spot g.B.Body.name_of c.args.caller c.args.script c.args.body c.args.self.now _ c.in-Some.body c.index_mut.result.now c.spawn-spawned.new.self c.spawn-spawned.result
    c.in-Some.is c.spawn-spawned.ensures.made c.spawn-spawned.ensures.performs
