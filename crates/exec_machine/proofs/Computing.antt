-- The tests that compute say the same as the types.
use Rattle.std.{proofs.{Common.{◌≡◌, Bool, true, ◌&&◌, List, [], ◌∷◌, refl, sym}, lemmas.Bool.{true≢false, and_parts}}, specs.List.list_all}
use Rattle.exec_machine.specs.{declared.{config.Configuration.Configuration, event.Line.Line}, Choice.Choice, World.World, Tests.AllTrue, Run.{RunsBy, is_run, tests_of_line, after_line}}

pub both_true : {x y : Bool} → x ≡ true → y ≡ true → (x && y) ≡ true
both_true x y = rw (x, y) refl

pub all_true : (tests : List Bool) → list_all (λ test. test) tests ≡ true → AllTrue tests
all_true [] h = tt
all_true (test ∷ tests) h =
    let parts = and_parts test (list_all (λ test. test) tests) h in (parts.0, all_true tests parts.1)

pub tests_true : (tests : List Bool) → AllTrue tests → list_all (λ test. test) tests ≡ true
tests_true [] h = refl
tests_true (test ∷ tests) h = both_true h.0 (tests_true tests h.1)

pub sound : (c : Configuration) (w : World) (lines : List Line) (choices : List Choice) → is_run c w lines choices ≡ true → RunsBy c w lines choices
sound c w [] [] h = tt
sound c w [] (choice ∷ choices) h = absurd (true≢false (sym h))
sound c w (l ∷ ls) [] h = absurd (true≢false (sym h))
sound c w (l ∷ ls) (choice ∷ choices) h =
    let tests = tests_of_line c w l.action l.said choice in
    let next = after_line c w l.action l.said choice in
    let parts = and_parts (list_all (λ test. test) tests) (is_run c next ls choices) h in
    (all_true tests parts.0, sound c next ls choices parts.1)

pub complete : (c : Configuration) (w : World) (lines : List Line) (choices : List Choice) → RunsBy c w lines choices → is_run c w lines choices ≡ true
complete c w [] [] h = refl
complete c w [] (choice ∷ choices) h = absurd h
complete c w (l ∷ ls) [] h = absurd h
complete c w (l ∷ ls) (choice ∷ choices) h =
    both_true (tests_true (tests_of_line c w l.action l.said choice) h.0) (complete c (after_line c w l.action l.said choice) ls choices h.1)
