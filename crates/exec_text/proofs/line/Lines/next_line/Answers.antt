use Rattle.std.{proofs.{Common.{◌≡◌, ◌≤◌, ◌∷◌, ℕ, List, length, drop, subst, arith}, lemmas.{List.take_rest, Bool.eqb-true}}, specs.Str.Lines.lines}
use Rattle.exec_text.proofs.Said.{no_more, one_more}
use Rattle.exec_text.proofs.line.Lines.next_line.Goals as goal

pub returns-then-is_empty-clause-none : goal.returns-then-is_empty-clause-none
returns-then-is_empty-clause-none c = grind (arith, take_rest, no_more, eqb-true)

pub invariant_of-self : goal.invariant_of-self
invariant_of-self c =
    let s = c.args.self.now in
    let f = c.first_line-length in
    let r = take_rest s.text.now s.from in
    record {
      place = one_more s.text.now s.from s.number f.result.1 f.result.0.now s.place
          (subst (λ (x : List ℕ). lines x ≡ f.result.0.now ∷ lines (drop f.result.1 x)) r f.ensures.first)
          f.ensures.some
          (subst (λ (x : List ℕ). f.result.1 ≤ length x) r f.ensures.within);
    }
