use Rattle.std.proofs.Common.{arith}
use Rattle.exec_driver.{proofs.{Words.{not-true, and_parts}, Punctual.{settled, put_off}}, specs.{Driving.seen, Service.reached}}
use Rattle.exec_driver.proofs.driver.Driver.service.Goals as goal

pub advance-requires : goal.advance-requires
advance-requires g c = record { settled = settled _ c.sound-2.ensures.sound.ticks (c.reap_all.ensures.serves.going.punctual c.requires.punctual) (c.reap_all.ensures.done.due c.requires.told) }

pub returns-clause-serves : goal.returns-clause-serves
returns-clause-serves g c = grind arith

pub returns-clause-put_off : goal.returns-clause-put_off
returns-clause-put_off g c = grind (arith, put_off, not-true, and_parts)

pub returns-clause-steps : goal.returns-clause-steps
returns-clause-steps g c =
    record {
      says = c.sound.ensures.says;
      reaped = reached (seen c.reap_all.new.self) c.reap_all.new.opens c.reap_all.new.deferred (g.W.Signals.signalled c.reap_all.new.workers);
      reaps = c.reap_all.ensures.reaps;
      quiet = c.reap_all.ensures.quiet;
      says_turned = rw c.advance.ensures.advanced at c.sound-3.ensures.says;
      expired = (seen c.expire_all.new.self, c.expire_all.new.deferred);
      expires = rw c.advance.ensures.advanced at c.expire_all.ensures.expires;
      none_due = c.expire_all.ensures.told;
      enrolled = (seen c.enrol_all.new.self, c.enrol_all.new.deferred);
      enrols = c.enrol_all.ensures.enrols;
      none_unenrolled = c.enrol_all.ensures.enrolled;
      granted = reached (seen c.grant_all.new.self) c.grant_all.new.opens c.grant_all.new.deferred (g.W.Signals.signalled c.grant_all.new.workers);
      grants = c.grant_all.ensures.grants;
      staged = seen c.stage_all.new.self;
      stages = c.stage_all.ensures.stages;
      none_unstaged = c.stage_all.ensures.full;
      none_unless_busy = c.stage_all.ensures.staged;
      worked = seen c.enter_if.new.self;
      says_worked = c.sound-4.ensures.says;
      works = rw c.must_enter-enters.ensures at c.enter_if.ensures.works;
      reaps_again = c.reap_all-2.ensures.reaps;
      quiet_again = c.reap_all-2.ensures.quiet;
      answers = rw c.must_enter-enters.ensures at c.is_put_off.ensures;
    }
