use Rattle.std.proofs.Common.{◌≡◌, List, [], ◌∷◌, None, drop, slice_get, refl, sym, ap, ◌∙◌}
use Rattle.exec_words.specs.Reserved.{Reserved}
use Rattle.exec_task.specs.declared.runnable.Runnable.{Runnable}
use Rattle.exec_parts.specs.declared.parts.worker.Worker.{Worker}
use Rattle.exec_steps.proofs.push.let_loot_go.Goals as goal

first_none : (xs : List Runnable) → None ≡ slice_get xs 0 → drop 1 xs ≡ []
first_none [] is = refl
first_none (x ∷ xs) is = absurd (cc (is))

emptied : (w0 w : Worker) (l : Reserved Runnable) → w ≡ record w0 { loot = record w0.loot { values = w.loot.values } } → l ≡ record w.loot { values = drop 1 w.loot.values } → None ≡ slice_get w.loot.values 0 → record w { loot = l } ≡ record w0 { loot = record w0.loot { values = [] } }
emptied w0 w l kept left none =
    let empty : l ≡ record w.loot { values = [] } = left ∙ ap (λ (xs : List Runnable). record w.loot { values = xs }) (first_none w.loot.values none) in
    let one : record w { loot = l } ≡ record w { loot = record w.loot { values = [] } } = ap (λ (x : Reserved Runnable). record w { loot = x }) empty in
    let two : record w { loot = record w.loot { values = [] } } ≡ record w0 { loot = record w0.loot { values = [] } } = ap (λ (z : Worker). record z { loot = record z.loot { values = [] } }) kept in
    one ∙ two

pub returns : goal.returns
returns c = emptied c.args.worker.now c.loop-runnable.worker c.pop.new.self c.loop-runnable.invariant c.pop.ensures.left (sym c.in_default.is ∙ c.pop.ensures.value)
