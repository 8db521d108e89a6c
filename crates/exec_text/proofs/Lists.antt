-- What a list that may be lost stands for, as it grows and where it is whole.
use Rattle.std.{proofs.{Common.{◌≡◌, List, [], ◌∷◌, ◌++◌, refl, sym, ap, ◌∙◌, subst, arith, map, length}, lemmas.List.map_push}, specs.declared.{alloc.Global.Global, vec.Vec.Vec}}
use Rattle.exec_text.specs.{declared.kept.Kept.{Kept as kept, Kept}, Kept.{Keeps, KeepsLists}}

pub kept_whole : {T : Type 0} (it : Kept T) (list : Vec T Global) (all : List T) → it ≡ kept.All list → Keeps it all → list.items ≡ all
kept_whole {T} it list all e h = subst (λ (k : Kept T). Keeps k all) e h

pub lists_whole : {T : Type 0} (it : Kept (Vec T Global)) (list : Vec (Vec T Global) Global) (all : List (List T)) → it ≡ kept.All list → KeepsLists it all → map (λ (one : Vec T Global). one.items) list.items ≡ all
lists_whole {T} it list all e h = subst (λ (k : Kept (Vec T Global)). KeepsLists k all) e h

pub no_lists : {T : Type 0} (it : Kept (Vec T Global)) → Keeps it [] → KeepsLists it []
no_lists {T} (kept.All lists) h = ap (map (λ (one : Vec T Global). one.items)) h
no_lists {T} kept.Lost h = tt

-- one more list: nothing is kept of lists that are lost, since what is kept would be of each length
pub lists_more : {T : Type 0} (it next : Kept (Vec T Global)) (added : Kept T) (last : Vec T Global) (all : List (List T)) (one : List T) → added ≡ kept.All last → ((lists : List (Vec T Global)) → Keeps it lists → Keeps next (lists ++ last ∷ [])) → KeepsLists it all → Keeps added one → KeepsLists next (all ++ one ∷ [])
lists_more {T} it kept.Lost added last all one is more h k = tt
lists_more {T} (kept.All lists) (kept.All longer) added last all one is more h k =
    let items = λ (v : Vec T Global). v.items in
    ap (map items) (more lists.items refl) ∙ map_push items lists.items last ∙ ap (λ (x : List (List T)). x ++ last.items ∷ []) h ∙ ap (λ (x : List T). all ++ x ∷ []) (kept_whole added last one is k)
lists_more {T} kept.Lost (kept.All longer) added last all one is more h k =
    let a : longer.items ≡ last ∷ [] = more [] tt in
    let b : longer.items ≡ last ∷ last ∷ [] = more (last ∷ []) tt in absurd (omega (arith, ap length (sym a ∙ b)))
