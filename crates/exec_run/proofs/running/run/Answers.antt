use Rattle.std.proofs.Common.{refl, inl}
use Rattle.exec_run.{proofs.RunLemmas.{completed, explained}, specs.declared.complaint.Complaint.TheVariants.{TooLong, Syntax, Config}}
use Rattle.exec_run.proofs.running.run.Goals as goal

pub returns-in-Err-TooLong-clause-explains : goal.returns-in-Err-TooLong-clause-explains
returns-in-Err-TooLong-clause-explains g c =
    let now = rw c.in-Err-TooLong.field-0-is at c.in-Err-TooLong.ensures in
    explained (TooLong c.in-Err-TooLong.count) _ _ _ _ _ _ _ _ _ _ _ _ ((c.in-Some.quiet, c.in-Some.ensures.some), now.err.0, now.err.1.0) now.given now.err.1.1 c.complain-in-Err-TooLong.ensures

pub returns-in-Err-Syntax-clause-explains : goal.returns-in-Err-Syntax-clause-explains
returns-in-Err-Syntax-clause-explains g c =
    let now = rw c.in-Err-Syntax.field-0-is at c.in-Err-Syntax.ensures in
    explained (Syntax c.in-Err-Syntax.line) _ _ _ _ _ _ _ _ _ _ _ _ ((c.in-Some.quiet, c.in-Some.ensures.some), now.err.0, now.err.1.0) now.given now.err.1.1 c.complain-in-Err-Syntax.ensures

pub returns-in-Err-Config-clause-explains : goal.returns-in-Err-Config-clause-explains
returns-in-Err-Config-clause-explains g c =
    let now = rw c.in-Err-Config.field-0-is at c.in-Err-Config.ensures in
    explained (Config c.in-Err-Config.part) _ _ _ _ _ _ _ _ _ _ _ _ ((c.in-Some.quiet, c.in-Some.ensures.some), now.err.0, now.err.1.0) now.given now.err.1.1 c.complain-in-Err-Config.ensures

pub returns-in-Ok-clause-completes : goal.returns-in-Ok-clause-completes
returns-in-Ok-clause-completes g c =
    completed _ _ _ _ _ _ _ _ _ _ (inl (
      refl,
      record { quiet = c.in-Some.quiet; asked = c.in-Some.ensures.some; gave = c.in-Ok.ensures.ok; passes = c.in-Ok.ensures.passes; well = c.in-Ok.ensures.well },
    ))

pub returns-in-Err-TooLong-clause-completes : goal.returns-in-Err-TooLong-clause-completes
returns-in-Err-TooLong-clause-completes g c = completed _ _ _ _ _ _ _ _ _ _ (returns-in-Err-TooLong-clause-explains g c)

pub returns-in-Err-Syntax-clause-completes : goal.returns-in-Err-Syntax-clause-completes
returns-in-Err-Syntax-clause-completes g c = completed _ _ _ _ _ _ _ _ _ _ (returns-in-Err-Syntax-clause-explains g c)

pub returns-in-Err-Config-clause-completes : goal.returns-in-Err-Config-clause-completes
returns-in-Err-Config-clause-completes g c = completed _ _ _ _ _ _ _ _ _ _ (returns-in-Err-Config-clause-explains g c)
