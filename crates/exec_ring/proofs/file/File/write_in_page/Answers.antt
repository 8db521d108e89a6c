use Rattle.std.{proofs.{Common.{◌≡◌, ◌/◌, true, Some, is_some, take, drop, ap, sym, arith}, lemmas.Bool.Decides.nat_tests}, specs.{Ordering.nat_cmp, BTreeMap.get}}
use Rattle.exec_request.specs.Bytes.{window_bytes}
use Rattle.exec_ring.proofs.Stretches.{page_over}
use Rattle.exec_ring.proofs.file.File.write_in_page.Goals as goal

pub returns-in-Some-clause-bytes : goal.returns-in-Some-clause-bytes
returns-in-Some-clause-bytes c =
    let number = c.args.offset / 4096 in
    let page = c.in-Some.page.now in
    let was : get nat_cmp c.args.self.now.pages number ≡ Some page = sym c.in-Some.ensures.value in
    let some : is_some (get nat_cmp c.args.self.now.pages number) ≡ true = ap is_some was in
    let up = (c.get_mut.follows.holds c.write.new.self).3 some in
    page_over c.args.self.now (record { pages = c.get_mut.follows.lender c.write.new.self }) page c.write.new.self c.args.offset
    (take c.args.count (drop c.args.at (window_bytes c.args.request.now)))
    page.full c.write.ensures.inside c.write.ensures.bytes was up.1 (λ m apart. up.2 m (grind (arith, nat_tests, apart)))
