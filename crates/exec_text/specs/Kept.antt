-- What a list that may be lost stands for.
use Rattle.std.specs.{Prelude.{◌≡◌, List, map}, declared.{alloc.Global.Global, vec.Vec.Vec}}
use Rattle.exec_text.specs.declared.kept.Kept.{Kept, TheVariants.{All, Lost}}

-- it has all of these elements, or they are lost
abbrev pub Keeps : {T : Type 0} → Kept T → List T → Type 0
Keeps (All list) elements = list.items ≡ elements
Keeps Lost elements = Unit {0}

-- the same of lists of lists
abbrev pub KeepsLists : {T : Type 0} → Kept (Vec T Global) → List (List T) → Type 0
KeepsLists (All list) elements = map (λ one. one.items) list.items ≡ elements
KeepsLists Lost elements = Unit {0}
