use Rattle.exec_books.proofs.Kept.{booked_then, first_booked}
use Rattle.exec_books.proofs.laws.each_line_keeps_the_books.Goals as goal

pub returns-clause-first : goal.returns-clause-first
returns-clause-first c = first_booked

pub returns-clause-kept : goal.returns-clause-kept
returns-clause-kept c = booked_then
