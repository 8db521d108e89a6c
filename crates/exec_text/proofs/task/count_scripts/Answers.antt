use Rattle.std.proofs.Common.{arith}
use Rattle.exec_text.proofs.Tasks.{one_more, count_ended, count_stopped}
use Rattle.exec_text.proofs.task.count_scripts.Goals as goal

pub returns-in_default-words_in : goal.returns-in_default-words_in
returns-in_default-words_in c =
    let l = c.args.lines.now in
    let a = c.loop-line in
    let i = a.invariant in
    count_stopped l.text.now a.ahead.text.now a.ahead.number c.next_said.new.self.number a.count c.in-Some.line.now c.args.config.now i.same_text c.requires.fits i.so_far c.in-Some.ensures.found c.in_default-words_in.ensures.none

pub loop-line-preserved : goal.loop-line-preserved
loop-line-preserved c = grind (arith, one_more)

pub returns : goal.returns
returns c =
    let l = c.args.lines.now in
    let a = c.loop-line in
    let i = a.invariant in
    count_ended l.text.now a.ahead.text.now a.ahead.number c.next_said.new.self.number a.count c.args.config.now i.same_text c.requires.fits i.so_far c.in_default.ensures.none
