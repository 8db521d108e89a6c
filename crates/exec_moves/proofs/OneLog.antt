-- A trace has one log by moves.
use Rattle.std.{proofs.{Common.{◌≡◌, ℕ, zero, suc, Bool, true, false, ◌==◌, if◌then◌else◌, List, [], ◌∷◌, ◌++◌, Option, Some, None, refl, sym, ◌∙◌, ap, subst, inl, inr}, lemmas.Bool.{true≢false, cases_Bool, and_parts, eqb-true, eq-eqb}}, specs.Prelude.option_and_then}
use Rattle.exec_outcomes.specs.declared.outcome.OpResult.{OpResult, TheVariants.{Count, Errno}}
use Rattle.exec_machine.specs.{declared.{config.Configuration.Configuration, event.Line.Line, step.{Action.{Action, Action as action}, Step.{Step, Step as step}}}, Same.same_result, World.own_of, Callers.is_enabled, Run.{same_action, is_refused, after_work, after_steps}, Progress.Plan, Examples.{Told, refuses, lines_of}}
use Rattle.exec_moves.specs.{State.{Things, Moved}, Move.move, Plays.{Playing, Played, first_playing, desk_of, by_move, by_action, by_step, GoesByMoves, Plays, told_with, told_of_work, told_of, log_by_moves}, Departures.{played, Departs}}

-- ACTIONS

result_is : (m n : OpResult) → same_result m n ≡ true → m ≡ n
result_is (Count m) (Count n) h = ap Count (eqb-true m n h)
result_is (Errno m) (Errno n) h = ap Errno (eqb-true m n h)
result_is m n h = absurd (true≢false (sym h))

same_of_two : {X Y : Type 0} (f : X → Y → Action) {x x' : X} {y y' : Y} → x ≡ x' → y ≡ y' → f x y ≡ f x' y'
same_of_two f one other = rw (one, other) refl

action_is : (a b : Action) → same_action a b ≡ true → a ≡ b
action_is (action.Work i) (action.Work j) h = ap action.Work (eqb-true i j h)
action_is (action.Spawn i k) (action.Spawn j n) h =
    let parts = and_parts (i == j) (k == n) h in same_of_two action.Spawn (eqb-true i j parts.0) (eqb-true k n parts.1)
action_is (action.Wake i t) (action.Wake j n) h =
    let parts = and_parts (i == j) (t == n) h in same_of_two action.Wake (eqb-true i j parts.0) (eqb-true t n parts.1)
action_is (action.GoOn i) (action.GoOn j) h = ap action.GoOn (eqb-true i j h)
action_is (action.Clock i) (action.Clock j) h = ap action.Clock (eqb-true i j h)
action_is (action.Land r m) (action.Land q n) h =
    let parts = and_parts (r == q) (same_result m n) h in same_of_two action.Land (eqb-true r q parts.0) (result_is m n parts.1)
action_is (action.SetBusy i) (action.SetBusy j) h = ap action.SetBusy (eqb-true i j h)
action_is (action.EndPoll i) (action.EndPoll j) h = ap action.EndPoll (eqb-true i j h)
action_is (action.Stir i) (action.Stir j) h = ap action.Stir (eqb-true i j h)
action_is (action.Peer i) (action.Peer j) h = ap action.Peer (eqb-true i j h)
action_is a b h = absurd (true≢false (sym h))

result_same : (n : OpResult) → same_result n n ≡ true
result_same (Count n) = eq-eqb n n refl
result_same (Errno n) = eq-eqb n n refl

action_same : (a : Action) → same_action a a ≡ true
action_same (action.Work i) = eq-eqb i i refl
action_same (action.Spawn i k) = rw (eq-eqb i i refl, eq-eqb k k refl) refl
action_same (action.Wake i t) = rw (eq-eqb i i refl, eq-eqb t t refl) refl
action_same (action.GoOn i) = eq-eqb i i refl
action_same (action.Clock i) = eq-eqb i i refl
action_same (action.Land r n) = rw (eq-eqb r r refl, result_same n) refl
action_same (action.SetBusy i) = eq-eqb i i refl
action_same (action.EndPoll i) = eq-eqb i i refl
action_same (action.Stir i) = eq-eqb i i refl
action_same (action.Peer i) = eq-eqb i i refl

tells_action : (c : Configuration) (p : Playing) (a : Action) → (by_action c p a).told.0.action ≡ a
tells_action c p (action.Work i) = refl
tells_action c p (action.Spawn i k) = refl
tells_action c p (action.Wake i t) = refl
tells_action c p (action.GoOn i) = refl
tells_action c p (action.Clock i) = refl
tells_action c p (action.Land r n) = refl
tells_action c p (action.SetBusy i) = refl
tells_action c p (action.EndPoll i) = refl
tells_action c p (action.Stir i) = refl
tells_action c p (action.Peer i) = refl

-- EACH LOG IS THE ONE THAT THE MOVES MAKE

abbrev is_all : Option (List Line) → Bool
is_all (Some []) = true
is_all _ = false

nothing_left : (told : List Told) → Some (lines_of told) ≡ Some [] → told ≡ []
nothing_left [] h = refl
nothing_left (it ∷ told) h = absurd (true≢false (sym (ap is_all h)))

both : {x y : Told} {xs ys : List Told} → x ≡ y → xs ≡ ys → x ∷ xs ≡ y ∷ ys
both one rest = rw (one, rest) refl

-- each log of these steps, from each executor on, is this
abbrev Only : Configuration → (List Line → Option (List Line)) → (Playing → List Told) → Type 0
Only c after log = (p : Playing) → (told : List Told) → after (lines_of told) ≡ Some [] → GoesByMoves c p told → told ≡ log p

abbrev after_these : List Step → ℕ → ℕ → List Line → Option (List Line)
after_these steps i n lines = option_and_then (after_steps steps) (after_work i n lines)

-- a line of work, and the log from it on
work_line : (c : Configuration) (i n : ℕ) (steps : List Step) → Only c (after_steps steps) (told_of c steps) → Only c (after_these steps i n) (told_of_work c i n (told_of c steps))
    → (b : Bool) (m : Moved Things) (p : Playing) (it : Told) (told : List Told)
    → it ≡ (if b then by_move c p i m else (record { told = refuses (action.Work i); next = p })).told
    → GoesByMoves c (if b then by_move c p i m else (record { told = refuses (action.Work i); next = p })).next told
    → option_and_then (after_steps steps) (if is_refused it.0.said then Some (lines_of told) else after_work i n (lines_of told)) ≡ Some []
    → it ∷ told ≡ (if b then told_with (told_of_work c i n (told_of c steps)) (by_move c p i m) else refuses (action.Work i) ∷ told_of c steps p)
work_line c i n steps rest more true m p it told e g h =
    both e (more (by_move c p i m).next told
    (subst (λ (x : Told). option_and_then (after_steps steps) (if is_refused x.0.said then Some (lines_of told) else after_work i n (lines_of told)) ≡ Some []) e h) g)
work_line c i n steps rest more false m p it told e g h =
    both e (rest p told
    (subst (λ (x : Told). option_and_then (after_steps steps) (if is_refused x.0.said then Some (lines_of told) else after_work i n (lines_of told)) ≡ Some []) e h) g)

work_only : (c : Configuration) (i n : ℕ) (steps : List Step) → Only c (after_steps steps) (told_of c steps) → Only c (after_these steps i n) (told_of_work c i n (told_of c steps))
work_only c i zero steps rest p told h g = rest p told h g
work_only c i (suc n) steps rest p [] h g = absurd (true≢false (sym (ap is_all h)))
work_only c i (suc n) steps rest p (it ∷ told) h g =
    elim (cases_Bool (same_action (action.Work i) it.0.action)) [
      | inl same ↦
          let a : action.Work i ≡ it.0.action = action_is (action.Work i) it.0.action same in
          work_line c i n steps rest (work_only c i n steps rest) (is_enabled p.world.common (action.Work i)) (move c i (own_of p.world i) p.world.common (desk_of c p i) p.things) p it told
          (g.0 ∙ ap (λ a. (by_step c p a).told) (sym a)) (subst (λ a. GoesByMoves c (by_step c p a).next told) (sym a) g.1)
          (subst (λ b. option_and_then (after_steps steps) (if b then (if is_refused it.0.said then Some (lines_of told) else after_work i n (lines_of told)) else None) ≡ Some []) same h)
      | inr other ↦ absurd (true≢false (sym (ap is_all
          (subst (λ b. option_and_then (after_steps steps) (if b then (if is_refused it.0.said then Some (lines_of told) else after_work i n (lines_of told)) else None) ≡ Some []) other h))))
    ]

-- the line of one step, and the log from it on
one_line : (c : Configuration) (a : Action) (steps : List Step) → Only c (after_steps steps) (told_of c steps)
    → (b : Bool) (x : Played) (p : Playing) (it : Told) (told : List Told)
    → it ≡ (if b then x else (record { told = refuses a; next = p })).told
    → GoesByMoves c (if b then x else (record { told = refuses a; next = p })).next told
    → after_steps steps (lines_of told) ≡ Some []
    → it ∷ told ≡ (if b then told_with (told_of c steps) x else refuses a ∷ told_of c steps p)
one_line c a steps rest true x p it told e g h = both e (rest x.next told h g)
one_line c a steps rest false x p it told e g h = both e (rest p told h g)

one_only : (c : Configuration) (a : Action) (steps : List Step) → Only c (after_steps steps) (told_of c steps) → Only c (after_steps (step.One a ∷ steps)) (told_of c (step.One a ∷ steps))
one_only c a steps rest p [] h g = absurd (true≢false (sym (ap is_all h)))
one_only c a steps rest p (it ∷ told) h g =
    elim (cases_Bool (same_action a it.0.action)) [
      | inl same ↦
          let e : a ≡ it.0.action = action_is a it.0.action same in
          one_line c a steps rest (is_enabled p.world.common a) (by_action c p a) p it told
          (g.0 ∙ ap (λ a. (by_step c p a).told) (sym e)) (subst (λ a. GoesByMoves c (by_step c p a).next told) (sym e) g.1)
          (subst (λ b. option_and_then (after_steps steps) (if b then Some (lines_of told) else None) ≡ Some []) same h)
      | inr other ↦ absurd (true≢false (sym (ap is_all
          (subst (λ b. option_and_then (after_steps steps) (if b then Some (lines_of told) else None) ≡ Some []) other h))))
    ]

only : (c : Configuration) (steps : List Step) → Only c (after_steps steps) (told_of c steps)
only c [] p told h g = nothing_left told h
only c (step.Work i n ∷ steps) p told h g = work_only c i n steps (only c steps) p told h g
only c (step.One a ∷ steps) p told h g = one_only c a steps (only c steps) p told h g

pub same : (p : Plan) (steps : List Step) (told other : List Told) → Plays p steps told → Plays p steps other → told ≡ other
same p steps told other one two =
    only p.config steps (first_playing p) told one.has_lines one.moves ∙ sym (only p.config steps (first_playing p) other two.has_lines two.moves)

-- WHAT THE MOVES MAKE IS A LOG

work_lines : (c : Configuration) (i n : ℕ) (steps : List Step) → ((p : Playing) → after_steps steps (lines_of (told_of c steps p)) ≡ Some [])
    → (p : Playing) → after_these steps i n (lines_of (told_of_work c i n (told_of c steps) p)) ≡ Some []
work_lines c i zero steps rest p = rest p
work_lines c i (suc n) steps rest p =
    elim (cases_Bool (is_enabled p.world.common (action.Work i))) [
      | inl on ↦ rw (on, eq-eqb i i refl) (work_lines c i n steps rest (by_action c p (action.Work i)).next)
      | inr off ↦ rw (off, eq-eqb i i refl) (rest p)
    ]

tells_same : (c : Configuration) (p : Playing) (a : Action) → same_action a (by_action c p a).told.0.action ≡ true
tells_same c p a = ap (λ b. same_action a b) (tells_action c p a) ∙ action_same a

lines_made : (c : Configuration) (steps : List Step) (p : Playing) → after_steps steps (lines_of (told_of c steps p)) ≡ Some []
lines_made c [] p = refl
lines_made c (step.Work i n ∷ steps) p = work_lines c i n steps (lines_made c steps) p
lines_made c (step.One a ∷ steps) p =
    elim (cases_Bool (is_enabled p.world.common a)) [
      | inl on ↦ rw (on, tells_same c p a) (lines_made c steps (by_action c p a).next)
      | inr off ↦ rw (off, action_same a) (lines_made c steps p)
    ]

-- the line of this step, and what follows
line_goes : (c : Configuration) (p : Playing) (a : Action) (it : Told) (told : List Told) → it ≡ (by_step c p a).told → it.0.action ≡ a → GoesByMoves c (by_step c p a).next told → GoesByMoves c p (it ∷ told)
line_goes c p a it told e of g =
    (e ∙ ap (λ a. (by_step c p a).told) (sym of), subst (λ a. GoesByMoves c (by_step c p a).next told) (sym of) g)

step_goes : (c : Configuration) (p : Playing) (a : Action) (later : Playing → List Told) → ((p : Playing) → GoesByMoves c p (later p))
    → (refused : List Told) → GoesByMoves c p refused
    → GoesByMoves c p (if is_enabled p.world.common a then told_with later (by_action c p a) else refuses a ∷ refused)
step_goes c p a later goes refused stays =
    elim (cases_Bool (is_enabled p.world.common a)) [
      | inl on ↦ rw on (line_goes c p a (by_action c p a).told (later (by_action c p a).next) (rw on refl) (tells_action c p a) (rw on (goes (by_action c p a).next)))
      | inr off ↦ rw off (line_goes c p a (refuses a) refused (rw off refl) refl (rw off stays))
    ]

work_goes : (c : Configuration) (i n : ℕ) (later : Playing → List Told) → ((p : Playing) → GoesByMoves c p (later p)) → (p : Playing) → GoesByMoves c p (told_of_work c i n later p)
work_goes c i zero later goes p = goes p
work_goes c i (suc n) later goes p = step_goes c p (action.Work i) (told_of_work c i n later) (work_goes c i n later goes) (later p) (goes p)

goes_made : (c : Configuration) (steps : List Step) (p : Playing) → GoesByMoves c p (told_of c steps p)
goes_made c [] p = tt
goes_made c (step.Work i n ∷ steps) p = work_goes c i n (told_of c steps) (goes_made c steps) p
goes_made c (step.One a ∷ steps) p = step_goes c p a (told_of c steps) (goes_made c steps) (told_of c steps p) (goes_made c steps p)

pub made : (p : Plan) (steps : List Step) → Plays p steps (log_by_moves p steps)
made p steps =
    record { has_lines = lines_made p.config steps (first_playing p); moves = goes_made p.config steps (first_playing p) }

-- WHAT IS NO LOG

leads : (c : Configuration) (p : Playing) (told : List Told) (other : Told) (later : List Told) → GoesByMoves c p (told ++ other ∷ later) → other ≡ (by_step c (played c p told) other.0.action).told
leads c p [] other later g = g.0
leads c p (it ∷ told) other later g = leads c (by_step c p it.0.action).next told other later g.1

-- two lines that a test tells apart
pub departs : (p : Plan) (steps : List Step) (tells other : Told) (test : Told → Bool)
    → (by_step p.config (played p.config (first_playing p) (log_by_moves p steps)) other.0.action).told ≡ tells
    → test other ≡ true → test tells ≡ false → Departs p steps tells other
departs p steps tells other test moves is isnt =
    record {
      moves = moves;
      refused = λ more later plays.
          true≢false (sym is ∙ (ap test (leads p.config (first_playing p) (log_by_moves p steps) other later plays.moves ∙ moves) ∙ isnt));
    }
