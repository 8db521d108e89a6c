use Rattle.std.proofs.Common.{arith, refl}
use Rattle.exec_moves.specs.declared.{handing.InGlobal.InGlobal, place.Place.Place}
use Rattle.exec_steps.proofs.{CallNext.push_next, Reserving.{global_count_added, global_count_returned, global_set_loaded, global_some}}
use Rattle.exec_invariants.proofs.{Appending.{all_fit, appended}, Counting.count_fits}
use Rattle.exec_steps.proofs.push.push_global.Goals as goal

pub returns-in-LoadGlobalSet : goal.returns-in-LoadGlobalSet
returns-in-LoadGlobalSet g c =
    record { steps = global_set_loaded g.B.Body.left g.B.Scripted.spot c.args.worker.now c.load_global_set.new.worker c.args.shared.now c.load_global_set.result c.args.back (rw c.in-LoadGlobalSet.is at c.requires.sound) (push_next g.B.Body.left g.B.Scripted.spot c.args.back (Place.Global InGlobal.LoadGlobalSet c.args.back) c.args.worker.now c.args.shared.now (rw c.in-LoadGlobalSet.is at c.requires.sound) (record { callbacks = refl; closes = refl; closing = refl; spare = refl; bare = refl; held = λ x h. h; batch = λ ms h. h })) c.load_global_set.ensures.event c.load_global_set.ensures.goes }

pub add_global_count-requires : goal.add_global_count-requires
add_global_count-requires g c = record { few = count_fits c.args.worker.now c.args.shared.now c.requires.whole c.requires.sound.config.few }

pub returns-in-AddGlobalCount : goal.returns-in-AddGlobalCount
returns-in-AddGlobalCount g c = record { steps = global_count_added _ _ _ _ _ _ _ _ _ (rw c.in-AddGlobalCount.is at c.requires.sound) c.add_global_count.ensures.makes c.add_global_count.ensures.goes c.add_global_count.ensures.idle }

pub return_global_count-requires : goal.return_global_count-requires
return_global_count-requires g c = record { holds = global_some c.args.back c.args.worker.now c.args.shared.now (rw c.in-ReturnGlobalCount.is at c.requires.sound) c.requires.whole }

pub returns-in-ReturnGlobalCount : goal.returns-in-ReturnGlobalCount
returns-in-ReturnGlobalCount g c =
    record { steps = global_count_returned g.B.Body.left g.B.Scripted.spot c.args.worker.now c.return_global_count.new.worker c.args.shared.now c.return_global_count.result c.args.back c.return_global_count.new.idle (rw c.in-ReturnGlobalCount.is at c.requires.sound) (push_next g.B.Body.left g.B.Scripted.spot c.args.back (Place.Global InGlobal.ReturnGlobalCount c.args.back) c.args.worker.now c.args.shared.now (rw c.in-ReturnGlobalCount.is at c.requires.sound) (record { callbacks = refl; closes = refl; closing = refl; spare = refl; bare = refl; held = λ x h. h; batch = λ ms h. h })) (global_some c.args.back c.args.worker.now c.args.shared.now (rw c.in-ReturnGlobalCount.is at c.requires.sound) c.requires.whole) c.return_global_count.ensures.event c.return_global_count.ensures.goes c.return_global_count.ensures.idle }

pub append-requires : goal.append-requires
append-requires g c = grind (arith, all_fit)

pub returns-in-Append : goal.returns-in-Append
returns-in-Append g c =
    record { steps = appended g.B.Body.left g.B.Scripted.spot c.args.back c.args.worker.now c.append.new.worker c.args.shared.now c.append.new.shared c.append.result (rw c.in-Append.is at c.requires.sound) c.requires.whole (push_next g.B.Body.left g.B.Scripted.spot c.args.back (Place.Global InGlobal.Append c.args.back) c.args.worker.now c.args.shared.now (rw c.in-Append.is at c.requires.sound) (record { callbacks = refl; closes = refl; closing = refl; spare = refl; bare = refl; held = λ x h. h; batch = λ ms h. h })) c.append.ensures.event c.append.ensures.goes c.append.ensures.global }
