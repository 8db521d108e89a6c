use Rattle.std.proofs.Common.{◌≡◌, ℕ, List, [], ◌∷◌, ◌∙◌}
use Rattle.exec_machine.specs.declared.config.ScriptWord.{ScriptWord}
use Rattle.exec_text.specs.Reading.{IsSpelled}

-- the numbers as they were given
spelled : (name : List ℕ) (a b d x y z : ℕ) (w : ScriptWord) → x ≡ a → y ≡ b → z ≡ d → IsSpelled name (x ∷ y ∷ z ∷ []) w → IsSpelled name (a ∷ b ∷ d ∷ []) w
spelled name a b d x y z w e f g s = record { named = s.named; counted = (let same : a ∷ b ∷ d ∷ [] ≡ x ∷ y ∷ z ∷ [] = cc in same) ∙ s.counted }
