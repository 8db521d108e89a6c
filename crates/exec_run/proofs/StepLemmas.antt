-- How lines, steps and what was given of them go together.
use Rattle.std.proofs.Common.{◌≡◌, ℕ, Bool, List, [], ◌∷◌, ◌++◌, Option, Result, OnOk, OnErr, refl, sym, ap, subst, append_assoc, append-nil, ◌∙◌, arith, ◌≤◌, length, Some, None, IfSome, IfNone, suc, true, ◌+◌, ◌-◌, ◌<◌, ◌⊎◌, inl, inr, option_and_then, eq-eqb, add-zero, zero-add, take, drop, get_or}
use Rattle.exec_run.{proofs.Names.{flat_map-append, filter-append, Line, Told, lines_of, text_of_log, told_lines, Said, One, Action, Plan, IsBorn, IsNamed, Spot, Carries, StepNames, take-append-drop, take_more, Configuration, Event, Refused, Did, Step, Follows, same_action, after_work, after_step, after_steps, Playing, by_step, played, IsPaced, Core, IsReady, Shows, Applies, IsSteady, IsSteadyThere, KeepsOn, IsOrderly, orderly, StepFits}, specs.{Log.{Gave, GaveFront, told_text, AreTaken, IsBegun}, Steps.{told_of_line, IsStep, Goes, StandsAt, TakesLine, BreaksLine, Works, Leads, Breaks}}}
use Rattle.exec_machine.specs.declared.step.{Action.Action as action, Step.Step as step}

-- What was given of lines that were told.

-- what holds of each error
pub on_err : {T E P : Type 0} (r : Result T E) → P → OnErr r P
on_err = grind arith

-- what holds of each answer
pub on_ok : {T E P : Type 0} (r : Result T E) → P → OnOk r P
on_ok = grind arith

pub gave_none : (old : Option (List ℕ)) → Gave old old []
gave_none = grind (arith, append-nil)

pub gave_on : (old mid new : Option (List ℕ)) (xs ys : List ℕ) → Gave old mid xs → Gave mid new ys → Gave old new (xs ++ ys)
gave_on = grind (arith, append_assoc)

-- all of the bytes are a front of them
pub whole_front : (old new : Option (List ℕ)) (xs : List ℕ) → Gave old new xs → GaveFront old new xs
whole_front = grind (arith, append-nil)

-- and nothing is
pub no_front : (old : Option (List ℕ)) (xs : List ℕ) → GaveFront old old xs
no_front = grind (arith, gave_none)

pub front_on : (old mid new : Option (List ℕ)) (xs ys : List ℕ) → Gave old mid xs → GaveFront mid new ys → GaveFront old new (xs ++ ys)
front_on = grind (arith, append_assoc, gave_on)

-- what is given of lines, of which these come last
abbrev text_of_lines : Bool → List Line → List ℕ
text_of_lines quiet ls = text_of_log (told_lines quiet ls)

pub gave_untold : (quiet : Bool) (old : Option (List ℕ)) → Gave old old (told_text quiet [])
gave_untold = grind (arith, gave_none)

text_of_more : (quiet : Bool) (ls ms : List Line) → text_of_lines quiet ls ++ text_of_lines quiet ms ≡ text_of_lines quiet (ls ++ ms)
text_of_more = grind (arith, flat_map-append, filter-append)

pub lines_more : (told more : List Told) → lines_of (told ++ more) ≡ lines_of told ++ lines_of more
lines_more [] more = refl
lines_more (it ∷ told) more = ap (λ ls. it.0 ∷ ls) (lines_more told more)

pub told_of_more : (quiet : Bool) (told more : List Told) → told_text quiet told ++ told_text quiet more ≡ told_text quiet (told ++ more)
told_of_more quiet told more = text_of_more quiet (lines_of told) (lines_of more) ∙ ap (text_of_lines quiet) (sym (lines_more told more))

pub gave_more : (quiet : Bool) (told more : List Told) (old mid new : Option (List ℕ)) → Gave old mid (told_text quiet told) → Gave mid new (told_text quiet more) → Gave old new (told_text quiet (told ++ more))
gave_more quiet told more old mid new first second =
    subst (λ (xs : List ℕ). Gave old new xs) (told_of_more quiet told more) (gave_on old mid new (told_text quiet told) (told_text quiet more) first second)

pub front_more : (quiet : Bool) (told more : List Told) (old mid new : Option (List ℕ)) → Gave old mid (told_text quiet told) → GaveFront mid new (told_text quiet more) → GaveFront old new (told_text quiet (told ++ more))
front_more quiet told more old mid new first second =
    subst (λ (xs : List ℕ). GaveFront old new xs) (told_of_more quiet told more) (front_on old mid new (told_text quiet told) (told_text quiet more) first second)

-- The body that a step carries: that of the task which a caller spawns.

module _ {B L : Type 0} (left : B → L) (runs : L → Plan → Option ℕ → Type 0) (holds : L → Option Said → List ℕ) (spot : L → Option Said → Spot) where
  -- one of a script that is known
  pub carries_body : (known : Plan → Type 0) (name : L → ℕ) → IsNamed runs spot name → (p : Plan) (a : Action) (j k : ℕ) (body : Option B) → a ≡ action.Spawn j k → known p → StepNames (length p.scripts) (One a)
      → IfSome body (λ b. (q : Plan) → known q → IsBorn runs holds spot q k (left b)) → IfNone body ((q : Plan) → known q → length q.scripts ≤ k) → Carries left runs holds spot name p a body
  carries_body known name named p a j k body is knows names born none =
      subst (λ (x : Action). Carries left runs holds spot name p x body) (sym is) (by_body body born none)
    where
      by_body : (o : Option B) → IfSome o (λ b. (q : Plan) → known q → IsBorn runs holds spot q k (left b)) → IfNone o ((q : Plan) → known q → length q.scripts ≤ k) → Carries left runs holds spot name p (action.Spawn j k) o
      by_body (Some b) is_born absent = let it = is_born p knows in (b, refl, named p (left b) k (it.runs_it None tt) it.begins, it)
      by_body None is_born absent = grind arith

-- RUNS

pub goes_on : (p : Plan) (x : Playing) (told more : List Told) → Goes p x told → Goes p (played p.config x told) more → Goes p x (told ++ more)
goes_on p x [] more first second = second
goes_on p x (it ∷ told) more first second = (first.0, goes_on p (by_step p.config x it.0.action).next told more first.1 second)

played_on : (c : Configuration) (x : Playing) (told more : List Told) → played c x (told ++ more) ≡ played c (played c x told) more
played_on c x [] more = refl
played_on c x (it ∷ told) more = played_on c (by_step c x it.0.action).next told more

-- what comes behind lines, of which some were taken before
behind_more : (told more : List Told) (ls : List Line) → lines_of (told ++ more) ++ ls ≡ lines_of told ++ (lines_of more ++ ls)
behind_more told more ls = ap (λ ms. ms ++ ls) (lines_more told more) ∙ append_assoc (lines_of told) (lines_of more) ls

-- some steps of one worker's line are taken
part_taken : (i m n : ℕ) → m ≤ n → AreTaken (step.Work i m ∷ []) (step.Work i n ∷ [])
part_taken = grind arith

pub all_taken : (steps : List Step) → AreTaken steps steps
all_taken steps =
    record { whole = steps; some = []; rest = []; are = sym (append-nil steps); first = sym (append-nil steps); next = inl refl }

pub none_taken : (steps : List Step) → AreTaken [] steps
none_taken = grind arith

pub lines_done : (steps : List Step) (lines : List Line) → ((ss : List Step) (ls : List Line) → after_steps (steps ++ ss) (lines ++ ls) ≡ after_steps ss ls) → after_steps steps lines ≡ Some []
lines_done steps lines has_lines =
    ap (λ (ls : List Line). after_steps steps ls) (sym (append-nil lines))
    ∙ ap (λ (ss : List Step). after_steps ss (lines ++ [])) (sym (append-nil steps)) ∙ has_lines [] []

-- THE LINES OF A WORKER

accepted_line : (i n : ℕ) (l : Line) (e : Event) (ls : List Line) → l.action ≡ action.Work i → l.said ≡ Did e → after_work i (suc n) (l ∷ ls) ≡ after_work i n ls
accepted_line i n l e ls is did = rw (is, did, eq-eqb i i refl) refl

refused_line : (i n : ℕ) (l : Line) (ls : List Line) → l.action ≡ action.Work i → l.said ≡ Refused → after_work i (suc n) (l ∷ ls) ≡ Some ls
refused_line i n l ls is refused = rw (is, refused, eq-eqb i i refl) refl

last_line : (i : ℕ) (l : Line) (ls : List Line) → l.action ≡ action.Work i → after_work i 1 (l ∷ ls) ≡ Some ls
last_line i l ls is = grind (arith, eq-eqb)

-- what comes behind one more line
behind : (i m n : ℕ) (told : List Told) (ls : List Line) (it : Told) → ((n : ℕ) (ls : List Line) → after_work i (m + n) (lines_of told ++ ls) ≡ after_work i n ls) → after_work i (m + n) (lines_of (told ++ it ∷ []) ++ ls) ≡ after_work i n (it.0 ∷ ls)
behind = grind (arith, behind_more)

-- the lines of one step, behind which anything may come
step_done : (s : Step) (lines : List Line) → ((ls : List Line) → after_step s (lines ++ ls) ≡ Some ls) → (ss : List Step) (ls : List Line) → after_steps (s ∷ ss) (lines ++ ls) ≡ after_steps ss ls
step_done s lines closes ss ls = ap (option_and_then (after_steps ss)) (closes ls)

-- a step that fits asks for one action of its kind, which has one line
one_line : (a : Action) → StepFits (step.One a) → same_action a a ≡ true
one_line = grind arith

one_done : (a : Action) → StepFits (step.One a) → (it : Told) → it.0.action ≡ a → (ls : List Line) → after_step (step.One a) (it.0 ∷ ls) ≡ Some ls
one_done a fits it is ls = rw (is, one_line a fits) refl

pub named_in : (p : Plan) (s : Step) (a : Action) → s ≡ step.One a → StepNames (length p.scripts) s → StepNames (length p.scripts) (step.One a)
named_in p s a is names = subst (StepNames (length p.scripts)) is names

more_begun : (some line more : List Step) → (some ≡ []) ⊎ IsBegun some line → (some ≡ []) ⊎ IsBegun some (line ++ more)
more_begun = grind arith

-- what is taken of the steps behind a front is taken with the front
taken_on : (taken steps front more : List Step) → AreTaken taken steps → AreTaken (front ++ taken) (front ++ (steps ++ more))
taken_on taken steps front more are_taken =
    record {
      whole = front ++ are_taken.whole;
      some = are_taken.some;
      rest = are_taken.rest ++ more;
      are = ap (λ (x : List Step). front ++ x) are_taken.are ∙ sym (append_assoc front are_taken.whole are_taken.some);
      first = ap (λ (x : List Step). front ++ (x ++ more)) are_taken.first ∙ ap (λ (x : List Step). front ++ x) (append_assoc are_taken.whole are_taken.rest more)
          ∙ sym (append_assoc front are_taken.whole (are_taken.rest ++ more));
      next = more_begun are_taken.some are_taken.rest more are_taken.next;
    }

-- the steps up to one, that one, and those behind it
split_at_step : (steps : List Step) (i : ℕ) (d : Step) → i < length steps → take i steps ++ (get_or steps i d ∷ [] ++ drop (i + 1) steps) ≡ steps
split_at_step steps i d within =
    sym (append_assoc (take i steps) (get_or steps i d ∷ []) (drop (i + 1) steps))
    ∙ ap (λ (x : List Step). x ++ drop (i + 1) steps) (sym (take_more steps i d within))
    ∙ take-append-drop (i + 1) steps

-- nothing was taken, and nothing given
broke_before : (quiet : Bool) (p : Plan) (x : Playing) (steps : List Step) (old new : Option (List ℕ)) → new ≡ old → Breaks quiet p x steps old new
broke_before quiet p x steps old new same =
    subst (λ (given : Option (List ℕ)). Breaks quiet p x steps old given) (sym same)
    (record { taken = []; are_taken = none_taken steps; told = []; has_lines = refl; goes = tt; gave = no_front old (told_text quiet []) })

pub one_broke : (quiet : Bool) (p : Plan) (x : Playing) (s : Step) (a : Action) (old new : Option (List ℕ)) → s ≡ step.One a → StepFits s → (new ≡ old) ⊎ BreaksLine quiet p x a old new → Breaks quiet p x (s ∷ []) old new
one_broke quiet p x s a old new is fits (inl same) = broke_before quiet p x (s ∷ []) old new same
one_broke quiet p x s a old new is fits (inr breaks) =
    subst (λ (y : Step). Breaks quiet p x (y ∷ []) old new) (sym is)
    (record {
      taken = step.One a ∷ [];
      are_taken = all_taken (step.One a ∷ []);
      told = breaks.it ∷ [];
      has_lines = ap (option_and_then (after_steps [])) (one_done a (subst StepFits is fits) breaks.it breaks.action []);
      goes = (breaks.step, tt);
      gave = breaks.gave;
    })

-- A LINE, AND THE STEPS SO FAR, of an executor that showed this

module _ {B L : Type 0} (left : B → L) (runs : L → Plan → Option ℕ → Type 0) (holds : L → Option Said → List ℕ) (spot : L → Option Said → Spot) (known : Plan → Type 0) where
  -- what a step tells is as it should be
  step_is : (p : Plan) (x : Playing) (a : Action) (l : Line) (d : Core B) → Applies left runs holds spot p x a l d → a ≡ (by_step p.config x a).told.0.action
  step_is p x a l d it = sym it.step_told ∙ ap (λ (m : Line). m.action) it.tells

  is_step : (p : Plan) (x : Playing) (a : Action) (l : Line) (d : Core B) → Applies left runs holds spot p x a l d → IsReady left runs holds p d → IsStep p x (by_step p.config x a).told
  is_step p x a l d it ready =
      let c = p.config in
      let t = (by_step c x a).told in
      let of = step_is p x a l d it in
      record {
        tells = ap (λ (b : Action). (by_step c x b).told) of;
        follows = subst (λ (b : Action). Follows c x.world b t.0.said t.1) of (subst (λ (m : Line). Follows c x.world a m.said t.1) it.tells it.follows);
        orderly = subst (λ (b : Action). IsOrderly (by_step c x b).next) of (orderly left runs holds spot p d (by_step c x a).next ready.stands it.shows);
        rests = subst (λ (b : Action). IsSteady c x → IsSteadyThere c (by_step c x b).next) of it.rests;
        turns = subst (λ (b : Action). (n : ℕ) → IsSteady c x → IsPaced n c x → KeepsOn n c x b) of it.turns;
      }

  -- what the core ensures of a step that it took, and what stands before it
  pub record IsTaken (name : L → ℕ) (c d : Core B) (a : Action) (body : Option B) (l : Line) : Type 0 where
    pub applies : (p : Plan) (x : Playing) → Shows left runs holds spot p c x → Carries left runs holds spot name p a body → Applies left runs holds spot p x a l d
    pub ready : (p : Plan) → IsReady left runs holds p c → Carries left runs holds spot name p a body → IsReady left runs holds p d
    pub carries : (p : Plan) → known p → StepNames (length p.scripts) (step.One a) → Carries left runs holds spot name p a body

  pub line_taken : (name : L → ℕ) (quiet : Bool) (c d : Core B) (a : Action) (body : Option B) (l : Line) (old new : Option (List ℕ)) → IsTaken name c d a body l
      → Gave old new (told_of_line quiet l) → (p : Plan) (x : Playing) → StandsAt left runs holds spot known p c x → StepNames (length p.scripts) (step.One a) → TakesLine left runs holds spot known quiet p x a l d old new
  line_taken name quiet c d a body l old new taken gave p x stands names =
      let carries = taken.carries p stands.knows names in
      let it = taken.applies p x stands.shows carries in
      let of = step_is p x a l d it in
      grind (arith, is_step)

  pub line_broken : (name : L → ℕ) (quiet : Bool) (c d : Core B) (a : Action) (body : Option B) (l : Line) (old new : Option (List ℕ)) → IsTaken name c d a body l
      → GaveFront old new (told_of_line quiet l) → (p : Plan) (x : Playing) → StandsAt left runs holds spot known p c x → StepNames (length p.scripts) (step.One a) → BreaksLine quiet p x a old new
  line_broken name quiet c d a body l old new taken gave p x stands names =
      let carries = taken.carries p stands.knows names in
      let it = taken.applies p x stands.shows carries in
      grind (arith, step_is, is_step)

  pub works_none : (quiet : Bool) (p : Plan) (x : Playing) (i : ℕ) (d : Core B) (old : Option (List ℕ)) → StandsAt left runs holds spot known p d x → Works left runs holds spot known quiet p x i 0 d old old
  works_none quiet p x i d old stands =
      record {
        told = [];
        accepted = λ n ls. ap (λ k. after_work i k ls) (zero-add n);
        goes = tt;
        stands = stands;
        gave = gave_untold quiet old;
      }

  -- one more line, whatever it says
  stands_more : (quiet : Bool) (p : Plan) (x : Playing) (told : List Told) (a : Action) (l : Line) (d : Core B) (old new : Option (List ℕ)) (takes : TakesLine left runs holds spot known quiet p (played p.config x told) a l d old new) → StandsAt left runs holds spot known p d (played p.config x (told ++ takes.it ∷ []))
  stands_more quiet p x told a l d old new takes =
      subst (λ (y : Playing). StandsAt left runs holds spot known p d y) (sym (played_on p.config x told (takes.it ∷ []))) takes.stands

  pub works_more : (quiet : Bool) (p : Plan) (x : Playing) (i m : ℕ) (l : Line) (e : Event) (c d : Core B) (old mid new : Option (List ℕ)) → Works left runs holds spot known quiet p x i m c old mid
      → ((y : Playing) → StandsAt left runs holds spot known p c y → TakesLine left runs holds spot known quiet p y (action.Work i) l d mid new) → l.said ≡ Did e → Works left runs holds spot known quiet p x i (m + 1) d old new
  works_more quiet p x i m l e c d old mid new works takes_line did =
      let takes = takes_line (played p.config x works.told) works.stands in
      record {
        told = works.told ++ takes.it ∷ [];
        accepted = λ n ls.
            let next : m + 1 + n ≡ m + suc n = omega arith in
            ap (λ k. after_work i k (lines_of (works.told ++ takes.it ∷ []) ++ ls)) next
            ∙ behind i m (suc n) works.told ls takes.it works.accepted ∙ accepted_line i n takes.it.0 e ls takes.action (ap (λ (k : Line). k.said) takes.line ∙ did);
        goes = goes_on p x works.told (takes.it ∷ []) works.goes (takes.step, tt);
        stands = stands_more quiet p x works.told (action.Work i) l d mid new takes;
        gave = gave_more quiet works.told (takes.it ∷ []) old mid new works.gave takes.gave;
      }

  pub works_all : (quiet : Bool) (p : Plan) (x : Playing) (i m n : ℕ) (d : Core B) (old new : Option (List ℕ)) → m ≡ n → Works left runs holds spot known quiet p x i m d old new → Leads left runs holds spot known quiet p x (step.Work i n ∷ []) d old new
  works_all quiet p x i m n d old new all works =
      record {
        told = works.told;
        has_lines = step_done (step.Work i n) (lines_of works.told) (λ ls. ap (λ k. after_work i k (lines_of works.told ++ ls)) (sym all ∙ sym (add-zero m)) ∙ works.accepted 0 ls);
        goes = works.goes;
        stands = works.stands;
        gave = works.gave;
      }

  pub works_refused : (quiet : Bool) (p : Plan) (x : Playing) (i m n : ℕ) (l : Line) (c d : Core B) (old mid new : Option (List ℕ)) → Works left runs holds spot known quiet p x i m c old mid
      → ((y : Playing) → StandsAt left runs holds spot known p c y → TakesLine left runs holds spot known quiet p y (action.Work i) l d mid new) → l.said ≡ Refused → m < n → Leads left runs holds spot known quiet p x (step.Work i n ∷ []) d old new
  works_refused quiet p x i m n l c d old mid new works takes_line refused more =
      let takes = takes_line (played p.config x works.told) works.stands in
      record {
        told = works.told ++ takes.it ∷ [];
        has_lines = step_done (step.Work i n) (lines_of (works.told ++ takes.it ∷ [])) (λ ls.
            let split : n ≡ m + suc (n - (m + 1)) = omega arith in
            ap (λ k. after_work i k (lines_of (works.told ++ takes.it ∷ []) ++ ls)) split
            ∙ behind i m (suc (n - (m + 1))) works.told ls takes.it works.accepted
            ∙ refused_line i (n - (m + 1)) takes.it.0 ls takes.action (ap (λ (k : Line). k.said) takes.line ∙ refused));
        goes = goes_on p x works.told (takes.it ∷ []) works.goes (takes.step, tt);
        stands = stands_more quiet p x works.told (action.Work i) l d mid new takes;
        gave = gave_more quiet works.told (takes.it ∷ []) old mid new works.gave takes.gave;
      }

  -- where all lines of what was taken were given
  pub broke_between : (quiet : Bool) (p : Plan) (x : Playing) (taken steps : List Step) (d : Core B) (old new : Option (List ℕ)) → AreTaken taken steps → Leads left runs holds spot known quiet p x taken d old new → Breaks quiet p x steps old new
  broke_between = grind (arith, lines_done, whole_front)

  -- where the next line was not taken, or not given as a whole
  pub works_stopped : (quiet : Bool) (p : Plan) (x : Playing) (i m n : ℕ) (c : Core B) (old mid new : Option (List ℕ)) (works : Works left runs holds spot known quiet p x i m c old mid) → m < n
      → (new ≡ mid) ⊎ BreaksLine quiet p (played p.config x works.told) (action.Work i) mid new → Breaks quiet p x (step.Work i n ∷ []) old new
  works_stopped quiet p x i m n c old mid new works more (inl same) =
      subst (λ (given : Option (List ℕ)). Breaks quiet p x (step.Work i n ∷ []) old given) (sym same)
      (broke_between quiet p x (step.Work i m ∷ []) (step.Work i n ∷ []) c old mid (part_taken i m n (omega arith)) (works_all quiet p x i m m c old mid refl works))
  works_stopped quiet p x i m n c old mid new works more (inr breaks) =
      let told = works.told ++ breaks.it ∷ [] in
      record {
        taken = step.Work i (m + 1) ∷ [];
        are_taken = part_taken i (m + 1) n (omega arith);
        told = told;
        has_lines = ap (option_and_then (after_steps []))
            (ap (after_work i (m + 1)) (sym (append-nil (lines_of told))) ∙ behind i m 1 works.told [] breaks.it works.accepted ∙ last_line i breaks.it.0 [] breaks.action);
        goes = goes_on p x works.told (breaks.it ∷ []) works.goes (breaks.step, tt);
        gave = front_more quiet works.told (breaks.it ∷ []) old mid new works.gave breaks.gave;
      }

  -- STEPS OF ONE LINE

  pub one_leads : (quiet : Bool) (p : Plan) (x : Playing) (s : Step) (a : Action) (l : Line) (d : Core B) (old new : Option (List ℕ)) → s ≡ step.One a → StepFits s → TakesLine left runs holds spot known quiet p x a l d old new → Leads left runs holds spot known quiet p x (s ∷ []) d old new
  one_leads quiet p x s a l d old new is fits takes =
      subst (λ (y : Step). Leads left runs holds spot known quiet p x (y ∷ []) d old new) (sym is)
      (record {
        told = takes.it ∷ [];
        has_lines = step_done (step.One a) (takes.it.0 ∷ []) (one_done a (subst StepFits is fits) takes.it takes.action);
        goes = (takes.step, tt);
        stands = takes.stands;
        gave = takes.gave;
      })

  -- ALL STEPS

  pub leads_none : (quiet : Bool) (p : Plan) (x : Playing) (d : Core B) (old : Option (List ℕ)) → StandsAt left runs holds spot known p d x → Leads left runs holds spot known quiet p x [] d old old
  leads_none quiet p x d old stands = record { told = []; has_lines = λ ss ls. refl; goes = tt; stands = stands; gave = gave_untold quiet old }

  leads_on : (quiet : Bool) (p : Plan) (x : Playing) (ss ts : List Step) (c d : Core B) (old mid new : Option (List ℕ)) (first : Leads left runs holds spot known quiet p x ss c old mid) → Leads left runs holds spot known quiet p (played p.config x first.told) ts d mid new → Leads left runs holds spot known quiet p x (ss ++ ts) d old new
  leads_on quiet p x ss ts c d old mid new first second =
      record {
        told = first.told ++ second.told;
        has_lines = λ rs ls.
            ap (λ (xs : List Step). after_steps xs (lines_of (first.told ++ second.told) ++ ls)) (append_assoc ss ts rs)
            ∙ ap (after_steps (ss ++ (ts ++ rs))) (behind_more first.told second.told ls)
            ∙ first.has_lines (ts ++ rs) (lines_of second.told ++ ls) ∙ second.has_lines rs ls;
        goes = goes_on p x first.told second.told first.goes second.goes;
        stands = subst (λ (y : Playing). StandsAt left runs holds spot known p d y) (sym (played_on p.config x first.told second.told)) second.stands;
        gave = gave_more quiet first.told second.told old mid new first.gave second.gave;
      }

  broke_on : (quiet : Bool) (p : Plan) (x : Playing) (front ss more : List Step) (c : Core B) (old mid new : Option (List ℕ)) (leads : Leads left runs holds spot known quiet p x front c old mid) → Breaks quiet p (played p.config x leads.told) ss mid new → Breaks quiet p x (front ++ (ss ++ more)) old new
  broke_on quiet p x front ss more c old mid new leads breaks =
      record {
        taken = front ++ breaks.taken;
        are_taken = taken_on breaks.taken ss front more breaks.are_taken;
        told = leads.told ++ breaks.told;
        has_lines = ap (after_steps (front ++ breaks.taken)) (lines_more leads.told breaks.told) ∙ leads.has_lines breaks.taken (lines_of breaks.told) ∙ breaks.has_lines;
        goes = goes_on p x leads.told breaks.told leads.goes breaks.goes;
        gave = front_more quiet leads.told breaks.told old mid new leads.gave breaks.gave;
      }

  pub leads_to_next : (quiet : Bool) (p : Plan) (x : Playing) (steps : List Step) (i : ℕ) (s : Step) (c d : Core B) (old mid new : Option (List ℕ)) → i < length steps → Leads left runs holds spot known quiet p x (take i steps) c old mid
      → ((y : Playing) → StandsAt left runs holds spot known p c y → Leads left runs holds spot known quiet p y (get_or steps i s ∷ []) d mid new) → Leads left runs holds spot known quiet p x (take (i + 1) steps) d old new
  leads_to_next quiet p x steps i s c d old mid new within first second =
      subst (λ (xs : List Step). Leads left runs holds spot known quiet p x xs d old new) (sym (take_more steps i s within))
      (leads_on quiet p x (take i steps) (get_or steps i s ∷ []) c d old mid new first (second (played p.config x first.told) first.stands))

  pub broke_at : (quiet : Bool) (p : Plan) (x : Playing) (steps : List Step) (i : ℕ) (s : Step) (c : Core B) (old mid new : Option (List ℕ)) → i < length steps → Leads left runs holds spot known quiet p x (take i steps) c old mid
      → ((y : Playing) → StandsAt left runs holds spot known p c y → Breaks quiet p y (get_or steps i s ∷ []) mid new) → Breaks quiet p x steps old new
  broke_at quiet p x steps i s c old mid new within leads breaks =
      subst (λ (xs : List Step). Breaks quiet p x xs old new) (split_at_step steps i s within)
      (broke_on quiet p x (take i steps) (get_or steps i s ∷ []) (drop (i + 1) steps) c old mid new leads (breaks (played p.config x leads.told) leads.stands))
