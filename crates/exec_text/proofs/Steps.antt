-- The parts of a step line.
use Rattle.std.proofs.{Common.{◌≡◌, ◌≢◌, ℕ, ◌<◌, ◌^◌, List, [], ◌∷◌, ◌++◌, codes, decimal, refl, sym, ap, ◌∙◌, arith, length, get_or, drop, append_assoc}, lemmas.{List.append-nil, Fmt.decimal_injective}}
use Rattle.exec_outcomes.specs.{declared.outcome.OpResult.{OpResult, TheVariants.{Count, Errno}}, Text.text_of_result}
use Rattle.exec_machine.specs.declared.step.{Step.{Step, TheVariants.{Work, One}}, Action.{Action, TheVariants.{Spawn, Wake, GoOn, Clock, Land, SetBusy, EndPoll, Stir}}}
use Rattle.exec_text.{specs.{Grammar.{text_of_step, StepFits, ResultFits}, Reading.{IsCut, NoSpace, IsField, IsNumber}}, proofs.{Fields.field_same, Numbers.{decimal_starts, number_one}}}

pub errno_none : (bs code : List ℕ) → bs ≡ 45 ∷ code → ((n : ℕ) → 0 < n → n < 2 ^ 64 → code ≢ decimal n) → (o : OpResult) → ResultFits o → bs ≢ text_of_result o
errno_none bs code h over (Count n) fits e =
    let q = decimal_starts n fits in
    let k : 45 ≡ get_or (decimal n) 0 0 = ap (λ (b : List ℕ). get_or b 0 0) (sym h ∙ e) in omega arith
errno_none bs code h over (Errno n) fits e = over n fits.0 fits.1 (ap (drop 1) (sym h ∙ e))

-- a step line is a letter, a number and more
abbrev pub letter : Step → List ℕ
letter (Work worker count) = codes "w"
letter (One (Spawn caller script)) = codes "x"
letter (One (Wake caller task)) = codes "x"
letter (One (GoOn caller)) = codes "x"
letter (One (Clock by)) = codes "c"
letter (One (Land request result)) = codes "k"
letter (One (SetBusy worker)) = codes "b"
letter (One (EndPoll worker)) = codes "m"
letter (One (Stir worker)) = codes "e"
letter (One _) = []

abbrev pub first_of : Step → ℕ
first_of (Work worker count) = worker
first_of (One (Spawn caller script)) = caller
first_of (One (Wake caller task)) = caller
first_of (One (GoOn caller)) = caller
first_of (One (Clock by)) = by
first_of (One (Land request result)) = request
first_of (One (SetBusy worker)) = worker
first_of (One (EndPoll worker)) = worker
first_of (One (Stir worker)) = worker
first_of (One _) = 0

abbrev pub more_of : Step → List ℕ
more_of (Work worker count) = 32 ∷ decimal count
more_of (One (Spawn caller script)) = codes " spawn " ++ decimal script
more_of (One (Wake caller task)) = codes " wake " ++ decimal task
more_of (One (Land request result)) = 32 ∷ text_of_result result
more_of (One _) = []

step_is : (s : Step) → StepFits s → text_of_step s ≡ letter s ++ 32 ∷ (decimal (first_of s) ++ more_of s)
step_is = grind (arith, append_assoc, append-nil)

letter_clean : (s : Step) → NoSpace (letter s)
letter_clean = grind arith

first_small : (s : Step) → StepFits s → first_of s < 2 ^ 64
first_small = grind arith

more_cut : (s : Step) → IsCut (more_of s)
more_cut = grind arith

-- the line's letter, and what stands behind it
pub letter_is : (line kind rest : List ℕ) (s : Step) → IsField line kind rest → StepFits s → line ≡ text_of_step s → (kind ≡ letter s) × (rest ≡ 32 ∷ (decimal (first_of s) ++ more_of s))
letter_is line kind rest s f h e = field_same line kind (letter s) rest _ f (record { spelled = e ∙ step_is s h; no_space = letter_clean s; cut = refl })

pub first_is : (line kind rest : List ℕ) (s : Step) → IsField line kind rest → StepFits s → line ≡ text_of_step s → IsNumber rest (first_of s) (more_of s)
first_is line kind rest s f h e = record { spelled = (letter_is line kind rest s f h e).1; small = first_small s h; cut = more_cut s }

-- a line's letter, its first number and the rest
pub record IsCutAt (line kind : List ℕ) (n : ℕ) (more : List ℕ) : Type 0 where
  pub tail : List ℕ
  pub field : IsField line kind tail
  pub number : IsNumber tail n more

pub cut_is : (line kind more : List ℕ) (n : ℕ) (s : Step) → IsCutAt line kind n more → StepFits s → line ≡ text_of_step s → (kind ≡ letter s) × (n ≡ first_of s) × (more ≡ more_of s)
cut_is line kind more n s c h e =
    let i = number_one c.tail more (more_of s) n (first_of s) c.number (first_is line kind c.tail s c.field h e) in
    ((letter_is line kind c.tail s c.field h e).0, i.0, i.1)

pub cut_spelled : (line kind more : List ℕ) (n : ℕ) → IsCutAt line kind n more → line ≡ kind ++ 32 ∷ (decimal n ++ more)
cut_spelled line kind more n c = c.field.spelled ∙ ap (λ (t : List ℕ). kind ++ t) c.number.spelled

-- a step's line, cut
cut_line : (s : Step) → StepFits s → IsCutAt (text_of_step s) (letter s) (first_of s) (more_of s)
cut_line = grind (arith, step_is, letter_clean, first_small, more_cut)

-- which steps have which letter
not_w : (a : Action) → StepFits (One a) → ◌≢◌ {A = ℕ} 119 (get_or (letter (One a)) 0 0)
not_w = grind arith

pub no_work : (kind more : List ℕ) (s : Step) → kind ≡ codes "w" → ((n : ℕ) → 0 < n → n < 2 ^ 64 → more ≢ 32 ∷ decimal n) → StepFits s → kind ≡ letter s → more ≢ more_of s
no_work kind more (Work v n) k over h l e = over n h.1 h.2 e
no_work kind more (One a) k over h l e = not_w a h (ap (λ (b : List ℕ). get_or b 0 0) (sym k ∙ l))

pub no_landing : (kind more : List ℕ) (s : Step) → kind ≡ codes "k" → ((o : OpResult) → ResultFits o → more ≢ 32 ∷ text_of_result o) → StepFits s → kind ≡ letter s → more ≢ more_of s
no_landing = grind arith

-- a line of another letter ends behind the number
pub no_more : (kind more : List ℕ) (s : Step) → kind ≢ codes "w" → kind ≢ codes "k" → kind ≢ codes "x" → 0 < length more → kind ≡ letter s → more ≢ more_of s
no_more = grind arith

pub no_letter : (kind : List ℕ) (s : Step) → StepFits s → kind ≢ codes "w" → kind ≢ codes "k" → kind ≢ codes "x" → kind ≢ codes "c" → kind ≢ codes "b" → kind ≢ codes "m" → kind ≢ codes "e" → kind ≢ letter s
no_letter = grind arith

-- a line of no step
pub no_step : (line kind more : List ℕ) (n : ℕ) (s : Step) → IsCutAt line kind n more → StepFits s → (kind ≡ letter s → n ≡ first_of s → more ≢ more_of s) → line ≢ text_of_step s
no_step line kind more n s c h over e = let i = cut_is line kind more n s c h e in over i.0 i.1 i.2

result_same : (a b : OpResult) → ResultFits a → ResultFits b → text_of_result a ≡ text_of_result b → a ≡ b
result_same (Count m) (Count n) f g e = ap Count (decimal_injective m n f g e)
result_same (Count m) (Errno n) f g e =
    let q = decimal_starts m f in
    let k : ◌≡◌ {A = ℕ} (get_or (decimal m) 0 0) 45 = ap (λ (b : List ℕ). get_or b 0 0) e in absurd (omega arith)
result_same (Errno m) (Count n) f g e =
    let q = decimal_starts n g in
    let k : ◌≡◌ {A = ℕ} 45 (get_or (decimal n) 0 0) = ap (λ (b : List ℕ). get_or b 0 0) e in absurd (omega arith)
result_same (Errno m) (Errno n) f g e = ap Errno (decimal_injective m n f.1 g.1 (ap (drop 1) e))

-- A line is that of one step: the letters differ, and so do the parts of steps of one letter.
parts_same : (s t : Step) → StepFits s → StepFits t → get_or (letter s) 0 0 ≡ get_or (letter t) 0 0 → first_of s ≡ first_of t → more_of s ≡ more_of t → s ≡ t
parts_same = grind (arith, decimal_injective, not_w, result_same)

pub step_same : (s t : Step) → StepFits s → StepFits t → text_of_step s ≡ text_of_step t → s ≡ t
step_same = grind (arith, cut_is, cut_line, parts_same)
