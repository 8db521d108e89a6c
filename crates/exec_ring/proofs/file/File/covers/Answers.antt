use Rattle.std.proofs.{Common.{◌≡◌, ◌+◌, ◌-◌, ◌*◌, ◌/◌, ◌<◌, rules, arith}, lemmas.Bool.false≢true}
use Rattle.exec_ring.specs.Files.{HasPage}
use Rattle.exec_ring.proofs.file.File.covers.Goals as goal

pub returns-then-not-contains_key : goal.returns-then-not-contains_key
returns-then-not-contains_key c =
    let number = c.pages.number-counter in
    let k = number * 4096 - c.args.offset in
    let end = c.div_ceil-end.ensures in
    let before = c.pages-test.true in
    let from = c.pages.auto.number-counter in
    let some = c.if-length-eq0.false in
    let place : (c.args.offset + k) / 4096 ≡ number = omega (arith, from) in
    let below : k < c.args.length = omega (arith, from, before, end, some) in
    (λ no. absurd (false≢true no), λ covers. let here : HasPage c.args.self.now number = rw place at (covers k below) in search rules)
