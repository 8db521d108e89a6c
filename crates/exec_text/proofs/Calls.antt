-- What an outside caller asks for.
use Rattle.std.proofs.{Common.{◌≡◌, ◌≢◌, ℕ, ◌<◌, ◌≤◌, ◌^◌, List, [], ◌∷◌, ◌++◌, codes, decimal, refl, sym, ap, ◌∙◌, arith, length, get_or, drop, append_assoc}, lemmas.List.append-nil}
use Rattle.exec_machine.specs.declared.step.{Step.{Step, TheVariants.{Work, One}}, Action.{Action, TheVariants.{Spawn, Wake, GoOn, Clock, Land, SetBusy, EndPoll, Stir}, Action as action}}
use Rattle.exec_text.{specs.{Grammar.{text_of_step, StepFits, StepNames}, Reading.{NoSpace, IsField, IsNumber, IsCall}}, proofs.{Fields.field_same, Numbers.number_one, Steps.{letter, first_of, more_of}}}

spawn_clean : NoSpace (codes "spawn")
spawn_clean = (λ e. omega arith, (λ e. omega arith, (λ e. omega arith, (λ e. omega arith, (λ e. omega arith, tt)))))

wake_clean : NoSpace (codes "wake")
wake_clean = (λ e. omega arith, (λ e. omega arith, (λ e. omega arith, (λ e. omega arith, tt))))

-- a name and a number that begin a call
abbrev pub BeginsCall : ℕ → List ℕ → List ℕ → Action → Type 0
BeginsCall count name rest (Spawn j script) = (name ≡ codes "spawn") × IsNumber rest script [] × (script < count)
BeginsCall count name rest (Wake j task) = (name ≡ codes "wake") × IsNumber rest task []
BeginsCall count name rest _ = ⊥

last_number : (rest : List ℕ) (n : ℕ) → n < 2 ^ 64 → rest ≡ 32 ∷ decimal n → IsNumber rest n []
last_number rest n small e = record { spelled = e ∙ ap (λ (t : List ℕ). 32 ∷ t) (sym (append-nil (decimal n))); small = small; cut = tt }

pub call_begun : (caller count : ℕ) (bytes behind name rest : List ℕ) (a : Action) → bytes ≡ 32 ∷ behind → IsField behind name rest → IsCall caller count bytes a → BeginsCall count name rest a
call_begun caller count bytes behind name rest (Spawn j script) space f h =
    let x = field_same behind name (codes "spawn") rest (32 ∷ decimal script) f (record { spelled = ap (drop 1) (sym space ∙ h.3); no_space = spawn_clean; cut = refl }) in
    (x.0, last_number rest script h.1 x.1, h.2)
call_begun caller count bytes behind name rest (Wake j task) space f h =
    let x = field_same behind name (codes "wake") rest (32 ∷ decimal task) f (record { spelled = ap (drop 1) (sym space ∙ h.2); no_space = wake_clean; cut = refl }) in
    (x.0, last_number rest task h.1 x.1)
call_begun caller count bytes behind name rest (GoOn j) space f h = let k : [] ≡ 32 ∷ behind = sym h.1 ∙ space in cc
call_begun caller count bytes behind name rest _ space f h = h

pub call_numbered : (count : ℕ) (name rest : List ℕ) (a : Action) → ((n : ℕ) (t : List ℕ) → IsNumber rest n t → ⊥) → BeginsCall count name rest a → ⊥
call_numbered = grind arith

pub call_ended : (count : ℕ) (name rest more : List ℕ) (n : ℕ) (a : Action) → IsNumber rest n more → 0 < length more → BeginsCall count name rest a → ⊥
call_ended count name rest more n (Spawn j script) number some h =
    let k = (number_one rest more [] n script number h.1).1 in omega (arith, ap length k)
call_ended count name rest more n (Wake j task) number some h =
    let k = (number_one rest more [] n task number h.1).1 in omega (arith, ap length k)
call_ended count name rest more n _ number some h = h

pub call_named : (count : ℕ) (name rest more : List ℕ) (n : ℕ) (a : Action) → IsNumber rest n more → name ≢ codes "wake" → (name ≡ codes "spawn" → count ≤ n) → BeginsCall count name rest a → ⊥
call_named count name rest more n (Spawn j script) number wake spawn h =
    let k = (number_one rest more [] n script number h.1).0 in
    let l : count ≤ n = spawn h.0 in
    let m : script < count = h.2 in omega arith
call_named count name rest more n (Wake j task) number wake spawn h = wake h.0
call_named count name rest more n _ number wake spawn h = h

-- the text of a call that begins
pub call_read : (bytes behind name rest more named : List ℕ) (n : ℕ) → bytes ≡ 32 ∷ behind → IsField behind name rest → IsNumber rest n more → more ≡ [] → name ≡ named → bytes ≡ 32 ∷ (named ++ 32 ∷ decimal n)
call_read bytes behind name rest more named n space f number none e =
    space ∙ ap (λ (t : List ℕ). 32 ∷ t) (f.spelled ∙ ap (λ (x : List ℕ). x ++ rest) e ∙ ap (λ (x : List ℕ). named ++ x) (number.spelled ∙ ap (λ (x : List ℕ). 32 ∷ (decimal n ++ x)) none ∙ ap (λ (x : List ℕ). 32 ∷ x) (append-nil (decimal n))))

-- THE STEP OF A CALL

pub call_spelled : (caller count : ℕ) (more : List ℕ) (a : Action) → IsCall caller count more a → codes "x" ++ 32 ∷ (decimal caller ++ more) ≡ text_of_step (One a)
call_spelled = grind (arith, append_assoc, append-nil)

-- a line of no step, where its letter is that of a call
pub no_call : (count n : ℕ) (kind more : List ℕ) (s : Step) → kind ≡ codes "x" → ((a : Action) → n < 16 → IsCall n count more a → ⊥) → StepFits s → StepNames count s → kind ≡ letter s → n ≡ first_of s → more ≢ more_of s
no_call count n kind more (One (Spawn j script)) k over h names l i e =
    let few : j < 16 = h.0 in over (Spawn j script) (omega arith) (sym i, h.1, names, e)
no_call count n kind more (One (Wake j task)) k over h names l i e =
    let few : j < 16 = h.0 in over (Wake j task) (omega arith) (sym i, h.1, e)
no_call count n kind more (One (GoOn j)) k over h names l i e =
    let few : j < 16 = h in over (GoOn j) (omega arith) (sym i, e)
no_call count n kind more (Work v m) k over h names l i e = let x : ◌≡◌ {A = ℕ} 120 119 = ap (λ (b : List ℕ). get_or b 0 0) (sym k ∙ l) in omega arith
no_call count n kind more (One (Clock d)) k over h names l i e = let x : ◌≡◌ {A = ℕ} 120 99 = ap (λ (b : List ℕ). get_or b 0 0) (sym k ∙ l) in omega arith
no_call count n kind more (One (Land r o)) k over h names l i e = let x : ◌≡◌ {A = ℕ} 120 107 = ap (λ (b : List ℕ). get_or b 0 0) (sym k ∙ l) in omega arith
no_call count n kind more (One (SetBusy v)) k over h names l i e = let x : ◌≡◌ {A = ℕ} 120 98 = ap (λ (b : List ℕ). get_or b 0 0) (sym k ∙ l) in omega arith
no_call count n kind more (One (EndPoll v)) k over h names l i e = let x : ◌≡◌ {A = ℕ} 120 109 = ap (λ (b : List ℕ). get_or b 0 0) (sym k ∙ l) in omega arith
no_call count n kind more (One (Stir v)) k over h names l i e = let x : ◌≡◌ {A = ℕ} 120 101 = ap (λ (b : List ℕ). get_or b 0 0) (sym k ∙ l) in omega arith
no_call count n kind more (One (action.Work v)) k over h names l i e = h
no_call count n kind more (One (action.Peer p)) k over h names l i e = h

-- a letter and a number
pub letter_spelled : (line kind more : List ℕ) (n : ℕ) (a : Action) → line ≡ kind ++ 32 ∷ (decimal n ++ more) → more ≡ [] → kind ++ 32 ∷ decimal n ≡ text_of_step (One a) → line ≡ text_of_step (One a)
letter_spelled line kind more n a e none h =
    e ∙ ap (λ (t : List ℕ). kind ++ 32 ∷ (decimal n ++ t)) none ∙ ap (λ (t : List ℕ). kind ++ 32 ∷ t) (append-nil (decimal n)) ∙ h
