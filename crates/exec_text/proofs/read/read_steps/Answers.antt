use Rattle.std.proofs.{Common.{◌∷◌, [], ◌++◌, refl, sym, ◌∙◌}, lemmas.List.{append-nil, Elements.All-push}}
use Rattle.exec_text.{specs.Grammar.{StepFits, StepNames}, proofs.{Begins.All-nil, Faults.{step_wrong, step_right, steps_all}}}
use Rattle.exec_text.proofs.read.read_steps.Goals as goal

pub loop-line-init : goal.loop-line-init
loop-line-init c = record { same_text = refl; so_far = ([], sym (append-nil _), All-nil StepFits, All-nil (StepNames c.args.scripts), c.new-steps.ensures) }

pub returns-in_default-step_of-clause-fault : goal.returns-in_default-step_of-clause-fault
returns-in_default-step_of-clause-fault c =
    let s = c.args.lines.now in
    let l = c.loop-line in
    let i = l.invariant in
    let t = c.requires.top in
    rw c.fault.ensures
    (step_wrong s.text.now l.lines.text.now s.number c.args.scripts l.lines.number c.next_said.new.self.number c.in-Some.line.now t.0 t.1 t.2 i.so_far.0 i.same_text c.requires.counted t.3 i.so_far.2 i.so_far.3 i.so_far.1 c.in-Some.ensures.found c.in_default-step_of.ensures.none)

pub loop-line-preserved : goal.loop-line-preserved
loop-line-preserved c =
    let s = c.args.lines.now in
    let l = c.loop-line in
    let i = l.invariant in
    let so_far = i.so_far in
    let step = c.in-Some-step_of in
    record {
      same_text = c.in-Some.ensures.text ∙ i.same_text;
      so_far = (
        so_far.0 ++ step.step ∷ [],
        step_right s.text.now l.lines.text.now s.number l.lines.number c.next_said.new.self.number c.in-Some.line.now so_far.0 step.step i.same_text so_far.1 c.in-Some.ensures.found step.ensures.found,
        All-push StepFits so_far.0 step.step so_far.2 step.ensures.fits,
        All-push (StepNames c.args.scripts) so_far.0 step.step so_far.3 step.ensures.named,
        c.with-steps.ensures so_far.0 so_far.4,
      );
    }

pub returns-clause-ok : goal.returns-clause-ok
returns-clause-ok c =
    let s = c.args.lines.now in
    let l = c.loop-line in
    let i = l.invariant in
    (i.so_far.0, steps_all s.text.now l.lines.text.now l.lines.number c.next_said.new.self.number _ i.same_text i.so_far.1 c.in_default.ensures.none, i.so_far.2, i.so_far.3, i.so_far.4)
