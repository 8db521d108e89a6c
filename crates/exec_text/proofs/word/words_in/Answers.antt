use Rattle.std.proofs.Common.{refl, length, ap, arith}
use Rattle.exec_text.{specs.Kept.Keeps, proofs.{Words.{line_fields, line_some, line_read, line_unread}, Fields.{told_same, told_other, told_some, told_none}, word.words_in.Goals.{then-ne-via-then-ne, then-ne-via-else-ne+then-is_empty}}}
use Rattle.exec_text.proofs.word.words_in.Goals as goal

pub returns-then-ne-clause-none : goal.returns-then-ne-clause-none
returns-then-ne-clause-none c = λ words l.
    let a = c.args in
    let f = c.first_field in
    elim c.then-ne.branch [
      | then-ne-via-then-ne w ↦ told_other f.result.0.now a.name.now a.name.now c.ne.result c.ne.ensures refl w.if-ne.true (line_fields a.config.now a.scripts a.name.now a.line.now f.result.0.now f.result.1.now words c.requires.name f.ensures l).0
      | then-ne-via-else-ne+then-is_empty w ↦ omega (arith, line_some a.config.now a.scripts a.name.now a.line.now f.result.0.now f.result.1.now words c.requires.name f.ensures l, ap length (told_none f.result.1.now w.is_empty.result w.is_empty.ensures w.if-is_empty.true))
    ]

pub returns-clause-found : goal.returns-clause-found
returns-clause-found c =
    let a = c.args in
    let f = c.first_field in
    line_read a.config.now a.scripts Keeps c.words_of.result a.name.now a.line.now f.result.0.now f.result.1.now f.ensures
    (told_same f.result.0.now a.name.now a.name.now c.ne.result c.ne.ensures refl c.if-ne.false)
    (told_some f.result.1.now c.is_empty.result c.is_empty.ensures c.if-is_empty.false)
    c.words_of.ensures.found

pub returns-clause-none : goal.returns-clause-none
returns-clause-none c = line_unread c.args.config.now c.args.scripts c.words_of.result c.args.name.now c.args.line.now c.first_field.result.0.now c.first_field.result.1.now c.requires.name c.first_field.ensures c.words_of.ensures.none
