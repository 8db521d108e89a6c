use Rattle.std.proofs.{Common.{◌≡◌, ◌+◌, ◌<◌, ◌%◌, ◌∙◌, ap, sym, length, take, drop, arith}, lemmas.List.length-drop}
use Rattle.exec_bufs.specs.Buffers.{resized}
use Rattle.exec_ring.{specs.Files.{byte_at, byte_in}, proofs.Stretches.{resized-long, resized-cut, resized-none, byte_at-page, values_from-part, values_from-zeros}}
use Rattle.exec_ring.proofs.file.File.bytes_in_page.Goals as goal

pub returns-in-Some-clause-bytes : goal.returns-in-Some-clause-bytes
returns-in-Some-clause-bytes c =
    let f = c.args.self.now in
    let o = c.args.offset in
    let n = c.args.count in
    let page = c.in-Some.page.now in
    let xs = page.bytes.items in
    let full : length xs ≡ 4096 = page.full in
    let long : o % 4096 + n < 4097 = omega (arith, c.requires) in
    let bytes : resized n c.slice.result.now ≡ take n (drop (o % 4096) xs) =
    ap (resized n) c.slice.ensures ∙ resized-cut n (drop (o % 4096) xs) ∙ resized-long n (drop (o % 4096) xs) (omega (arith, length-drop (o % 4096) xs)) in
    bytes ∙ values_from-part (byte_at f) xs o (o % 4096) n (omega arith)
    (λ i below. byte_at-page f o i (omega arith) ∙ ap (λ p. byte_in p (o % 4096 + i)) (sym c.in-Some.ensures.value))

pub returns-in-None-clause-bytes : goal.returns-in-None-clause-bytes
returns-in-None-clause-bytes c =
    let f = c.args.self.now in
    let o = c.args.offset in
    let within : o % 4096 + c.args.count < 4097 = omega (arith, c.requires) in
    resized-none c.args.count ∙ values_from-zeros (byte_at f) o c.args.count
    (λ i below. byte_at-page f o i (omega arith) ∙ ap (λ p. byte_in p (o % 4096 + i)) (sym c.in-None.ensures.value))
