-- The search count over any calls.
use Rattle.std.proofs.{Common.{◌≡◌, ◌+◌, List, [], ◌∷◌, arith}, lemmas.Bool.Decides.nat_tests}
use Rattle.exec_words.specs.IdleRuns.{Change, Tally, Add, after, after_all}

abbrev IsSum : Tally → Type 0
IsSum t = t.count + t.went_out ≡ t.came_in

after_one : (t : Tally) (change : Change) → IsSum t → IsSum (after t change)
after_one t Add is = grind (arith, nat_tests)
after_one t _ is = grind (arith, nat_tests)

pub stays_a_sum : (t : Tally) (changes : List Change) → IsSum t → IsSum (after_all t changes)
stays_a_sum t [] is = is
stays_a_sum t (change ∷ rest) is = stays_a_sum (after t change) rest (after_one t change is)
