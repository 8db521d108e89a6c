use Rattle.std.proofs.Common.{ap, refl, arith}
use Rattle.exec_polling.proofs.{CallAppends.{call_appended, call_fits, call_holds}, Outsiders.{call_count_added, call_count_fits, call_count_returned, call_has_count, call_set_loaded}}
use Rattle.exec_polling.proofs.caller.Caller.push_global.Goals as goal

pub append-requires : goal.append-requires
append-requires g c = grind (arith, call_holds, call_fits)

pub returns-in-Append : goal.returns-in-Append
returns-in-Append g c =
    let here = rw c.in-Append.is at c.requires.here in
    record { steps = call_appended g.B.Body.left g.B.Scripted.spot c.args.self.now c.append.new.self c.args.shared.now (record c.args.shared.now { global = c.append.new.global }) c.append.result c.requires.sound here c.append.ensures.event c.append.ensures.goes (ap (λ q. record c.args.shared.now { global = q }) c.append.ensures.global) }

pub returns-in-LoadGlobalSet : goal.returns-in-LoadGlobalSet
returns-in-LoadGlobalSet g c =
    record { steps = call_set_loaded g.B.Body.left g.B.Scripted.spot c.args.self.now c.load_global_set.new.self c.args.shared.now c.load_global_set.result c.requires.sound (rw c.in-LoadGlobalSet.is at c.requires.here) c.load_global_set.ensures.event c.load_global_set.ensures.goes }

pub add_global_count-requires : goal.add_global_count-requires
add_global_count-requires g c = record { few = call_count_fits c.args.self.now c.args.shared.now c.requires.sound c.requires.whole }

pub returns-in-AddGlobalCount : goal.returns-in-AddGlobalCount
returns-in-AddGlobalCount g c =
    record { steps = call_count_added g.B.Body.left g.B.Scripted.spot c.args.self.now c.add_global_count.new.self c.args.shared.now c.add_global_count.result c.requires.sound c.in-AddGlobalCount.set c.add_global_count.new.idle (rw c.in-AddGlobalCount.is at c.requires.here) c.add_global_count.ensures.event c.add_global_count.ensures.goes c.add_global_count.ensures.idle }

pub return_global_count-requires : goal.return_global_count-requires
return_global_count-requires g c = grind arith

pub returns-in-ReturnGlobalCount : goal.returns-in-ReturnGlobalCount
returns-in-ReturnGlobalCount g c =
    let here = rw c.in-ReturnGlobalCount.is at c.requires.here in
    let some = call_has_count c.args.self.now c.args.shared.now (rw here refl) c.requires.whole in
    record { steps = call_count_returned g.B.Body.left g.B.Scripted.spot c.args.self.now c.return_global_count.new.self c.args.shared.now c.return_global_count.result c.requires.sound c.return_global_count.new.idle here some c.return_global_count.ensures.event c.return_global_count.ensures.goes c.return_global_count.ensures.idle }
