use Rattle.std.{proofs.Common.{◌≡◌, true, rules}, specs.Prelude.is_none}
use Rattle.exec_waiters.specs.States.{file_of}
use Rattle.exec_driver.{specs.Driving.seen, proofs.{Serving.goes_by, Turns.stage_none, Service.{cancel_entry, request_entry}}}
use Rattle.exec_opens.specs.Opens.{account_in}
use Rattle.exec_driver.proofs.driver.Driver.stage_one.Goals as goal

pub returns-then-is_none : goal.returns-then-is_none
returns-then-is_none g c =
    let none : is_none c.stage_cancel.result ≡ true = search rules in
    let staged = stage_none (seen c.args.self.now) (seen c.stage_cancel.new.self) (seen c.stage.new.self) c.stage_cancel.result c.stage.result (λ w. account_in c.args.opens.now (file_of w.request)) none c.stage_cancel.ensures.first c.stage_cancel.ensures.same c.requires.some c.sound.ensures.sound c.stage.ensures.first c.stage.ensures.staged in
    record {
      going = goes_by _ _ staged.0.eases.keeps;
      done = staged.0.eases.done;
      stages = (request_entry _ _ _ _ c.stage_cancel.result c.stage.result c.requires.room none c.stage_cancel.ensures.first c.stage_cancel.ensures.same c.requires.some c.stage.ensures.first c.stage.ensures.staged, c.sound-then-is_none.ensures.says);
      fewer = staged.1;
    }

pub returns-else-is_none-clause-stages : goal.returns-else-is_none-clause-stages
returns-else-is_none-clause-stages g c =
    (cancel_entry _ _ _ c.stage_cancel.result c.requires.room (search rules) c.stage_cancel.ensures.first c.stage_cancel.ensures.staged, c.sound-else-is_none.ensures.says)
