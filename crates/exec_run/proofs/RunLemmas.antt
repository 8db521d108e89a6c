-- The log of a run, and from what the functions below a run say to what the run says.
use Rattle.std.proofs.Common.{ℕ, ◌+◌, ◌≤◌, List, drop, length, Option, Some, None, ap, sym, ◌∙◌, subst, arith, ◌≡◌, ◌⊎◌, zero, suc, [], ◌∷◌, sum_by, option_and_then, refl, inl, inr, ◌<◌, Bool, true, map, get_or, Result, IfErr, String, string_bytes, IsSome}
use lib.Seq.{drop-append_seam}
use Rattle.exec_run.{proofs.{Names.{drop-drop, sum_by-append, sum_by-cons, none-some, Line, Action, Step, Told, lines_of, after_one, after_step, after_steps, after_work, count_of, World, RunsBy, Plan, begin, no_stretch, RightlyAsleepBy, choices_of, Playing, by_step, first_playing, GoesByMoves, RestsWell, has_let_go, NobodySleepsOnWork, NoneIsForgotten, HaveLetGo, ShutsDown, IsPacedThere, IsSteadyThere, IsOrderly, MOST_STEPS, bytes_eq, Global, bytes_eq-Decides, Said, Spot, Core, Meaning, true≢false, IsTraceOf, IsFirstFault, Rose, no_fault, meaning_is_one}, CallsEnd.call_by, Stretches.{leads_there, solo_by}, TurnsEnd.turns_by, StepLemmas.{lines_done, all_taken, broke_between}}, specs.{Reading.{HasRead, CannotRun}, Refusal.{TakesWithin, IsTextIn, HasCause, IsTooLong, AskForTrace}, Log.{AreTaken, IsBegun, InEach, IsTheLogOf, KeepOwned, NoneOversleeps, Gave, GaveFront, GaveFrontOfLog, told_text, HasTrace, GaveLog}, Steps.{Goes, GaveUpTo, Leads, Breaks, Complains}, declared.{trace_error.TraceError.TraceError, complaint.Complaint.{Complaint, TheVariants.{Usage, ReadFault, TooLong, Syntax, Config}}}, Explains.{IsCauseOf, Explains, Completes}, Ranges.first_out_of_range}}
use Rattle.exec_machine.specs.declared.step.Step.TheVariants as step

-- How much was taken of a source.

-- what was read of it, and a piece behind that
pub taken_behind : (most more : ℕ) (old mid new : Option (List ℕ)) (text : List ℕ) → HasRead old mid text → length text + more ≤ most → TakesWithin more mid new → TakesWithin most old new
taken_behind most more None mid new text read few taken = tt
taken_behind most more (Some all) mid new text read few taken =
    let left : TakesWithin more (Some read.0) new = subst (λ o. TakesWithin more o new) read.1 taken in (
      length text + left.0,
      omega (arith, few, left.1),
      left.2 ∙ ap (λ xs. Some (drop left.0 xs)) (sym (ap (drop (length text)) read.2 ∙ drop-append_seam text read.0)) ∙ ap Some (drop-drop left.0 (length text) all),
    )

-- A log has no more lines than its steps ask for.

-- how many lines are left, where it is known
abbrev many : Option (List Line) → ℕ
many None = 0
many (Some ls) = length ls

after_so_many : (i n : ℕ) (ls later : List Line) → after_work i n ls ≡ Some later → length ls ≤ n + length later
after_so_many i zero ls later is = omega (arith, ap many is)
after_so_many i (suc n) [] later is = omega arith
after_so_many i (suc n) (l ∷ ls) later is = grind (arith, none-some, after_so_many i n ls later)

one_line : (a : Action) (ls later : List Line) → after_one a ls ≡ Some later → length ls ≤ 1 + length later
one_line = grind arith

lines_of_step : (y : Step) (ls later : List Line) → after_step y ls ≡ Some later → length ls ≤ count_of y + length later
lines_of_step = grind (arith, after_so_many, one_line)

-- each step has so many lines at most
pub few_lines : (steps : List Step) (ls : List Line) → after_steps steps ls ≡ Some [] → length ls ≤ sum_by count_of steps
few_lines [] ls is = omega (arith, ap many is)
few_lines (y ∷ ys) ls is = by (few_lines ys) (after_step y ls) refl is
  where
    by : ((xs : List Line) → after_steps ys xs ≡ Some [] → length xs ≤ sum_by count_of ys) → (o : Option (List Line)) → after_step y ls ≡ o → option_and_then (after_steps ys) o ≡ Some []
        → length ls ≤ sum_by count_of (y ∷ ys)
    by rest None first h = absurd (none-some [] h)
    by rest (Some later) first h = omega (arith, lines_of_step y ls later first, rest later h, sum_by-cons count_of y ys)

-- and steps of which some were taken ask for no more than all
pub few_taken : (taken steps : List Step) → AreTaken taken steps → sum_by count_of taken ≤ sum_by count_of steps
few_taken taken steps it =
    let first = ap (sum_by count_of) it.are ∙ sum_by-append count_of it.whole it.some in
    let all = ap (sum_by count_of) it.first ∙ sum_by-append count_of it.whole it.rest in
    omega (arith, first, all, few_of it.some it.rest it.next)
  where
    few_of : (some rest : List Step) → (some ≡ []) ⊎ IsBegun some rest → sum_by count_of some ≤ sum_by count_of rest
    few_of some rest (inl none) = omega (arith, ap (sum_by count_of) none)
    few_of some rest (inr begun) =
        let one = ap (sum_by count_of) begun.are_some ∙ sum_by-cons count_of (step.Work begun.worker begun.taken) [] in
        let line = ap (sum_by count_of) begun.of_line ∙ sum_by-cons count_of (step.Work begun.worker begun.count) begun.rest in
        omega (arith, one, line, begun.fewer)

pub as_many_lines : (told : List Told) → length (lines_of told) ≡ length told
as_many_lines [] = refl
as_many_lines (it ∷ told) = omega (arith, as_many_lines told)

-- Steps that are taken one by one are the log of their trace.

-- FROM STEP TO STEP

by_moves : (p : Plan) (x : Playing) (told : List Told) → Goes p x told → GoesByMoves p.config x told
by_moves p x [] goes = tt
by_moves p x (it ∷ told) goes = (goes.0.tells, by_moves p (by_step p.config x it.0.action).next told goes.1)

-- the lines are a run
runs_by : (p : Plan) (x : Playing) (told : List Told) → Goes p x told → RunsBy p.config x.world (lines_of told) (choices_of told)
runs_by p x [] goes = tt
runs_by p x (it ∷ told) goes =
    let next = (by_step p.config x it.0.action).next in (
      goes.0.follows,
      subst (λ (w : World). RunsBy p.config w (lines_of told) (choices_of told)) (leads_there p x it goes.0) (runs_by p next told goes.1),
    )

-- each of their states is orderly
orderly_by : (p : Plan) (x : Playing) (told : List Told) → IsOrderly x → Goes p x told → InEach IsOrderly p.config x told
orderly_by p x [] orderly goes = orderly
orderly_by p x (it ∷ told) orderly goes = (orderly, orderly_by p (by_step p.config x it.0.action).next told goes.0.orderly goes.1)

-- what a steady state has each of them has
each_by : (holds : Playing → Type 0) (p : Plan) → ((x : Playing) → IsSteadyThere p.config x → holds x) → (x : Playing) (told : List Told) → IsSteadyThere p.config x → Goes p x told → InEach holds p.config x told
each_by holds p has x [] there goes = has x there
each_by holds p has x (it ∷ told) there goes = (has x there, each_by holds p has (by_step p.config x it.0.action).next told (goes.0.rests there.steady) goes.1)

-- nobody sleeps on work
asleep_by : (p : Plan) (x : Playing) (told : List Told) → IsSteadyThere p.config x → Goes p x told → RightlyAsleepBy p.config x.world (lines_of told) (choices_of told)
asleep_by p x [] there goes = there.rests.asleep
asleep_by p x (it ∷ told) there goes =
    let next = (by_step p.config x it.0.action).next in (
      there.rests.asleep,
      subst (λ (w : World). RightlyAsleepBy p.config w (lines_of told) (choices_of told)) (leads_there p x it goes.0) (asleep_by p next told (goes.0.rests there.steady) goes.1),
    )

-- THE LOG

-- what an executor begins with
pub record BeginsWell (p : Plan) : Type 0 where
  pub orderly : IsOrderly (first_playing p)
  pub rests : IsSteadyThere p.config (first_playing p)
  pub paced : IsPacedThere 0 p.config (first_playing p)

pub is_the_log : (p : Plan) (steps : List Step) (told : List Told) → BeginsWell p → sum_by count_of steps ≤ MOST_STEPS → after_steps steps (lines_of told) ≡ Some [] → Goes p (first_playing p) told → IsTheLogOf p steps told
is_the_log p steps told begins few has_lines goes =
    record {
      runs = runs_by p (first_playing p) told goes;
      plays = record { has_lines = has_lines; moves = by_moves p (first_playing p) told goes };
      orderly = orderly_by p (first_playing p) told begins.orderly goes;
      owned = each_by (λ x. KeepOwned x.world) p (λ x there. there.steady.booked.let_go) (first_playing p) told begins.rests goes;
      unforgotten = each_by (NoneIsForgotten p.config) p (λ x there. there.rests.unforgotten) (first_playing p) told begins.rests goes;
      dues = each_by (λ x. NoneOversleeps x.world) p (λ x there. there.steady.booked.dues) (first_playing p) told begins.rests goes;
      parked = each_by (NobodySleepsOnWork p.config) p (λ x there. there.rests.parked) (first_playing p) told begins.rests goes;
      rests = each_by (RestsWell p.config) p (λ x there. there.rests.rests) (first_playing p) told begins.rests goes;
      shuts = each_by (λ x. ShutsDown x.world) p (λ x there. there.rests.shuts) (first_playing p) told begins.rests goes;
      ended = each_by (λ x. HaveLetGo x.world) p (λ x there. has_let_go x.world there.steady.booked) (first_playing p) told begins.rests goes;
      asleep = asleep_by p (first_playing p) told begins.rests goes;
      solo = solo_by p.config (begin p) no_stretch (lines_of told) (choices_of told) (λ nobody. omega arith)
          (turns_by p 0 (first_playing p) no_stretch told (omega (arith, few, few_lines steps (lines_of told) has_lines, as_many_lines told)) begins.rests begins.paced (inl refl) goes)
          (call_by p (first_playing p) no_stretch told (inl refl) goes);
    }

-- a slice of one word that is this text
pub one_word : (words : List (String Global)) (word : String Global) (text : List ℕ) → 1 ≤ length words → length words < 2 → word ≡ get_or words 0 word → bytes_eq (string_bytes word) text ≡ true → map string_bytes words ≡ text ∷ []
one_word (w ∷ []) word text some few is eq = grind (arith, bytes_eq-Decides)
one_word words word text some few is eq = absurd (omega arith)

-- a slice of two words that are these texts
pub two_words : (words : List (String Global)) (one two : String Global) (text more : List ℕ) → 2 ≤ length words → length words < 3 → one ≡ get_or words 0 one → two ≡ get_or words 1 two → bytes_eq (string_bytes one) text ≡ true → bytes_eq (string_bytes two) more ≡ true → map string_bytes words ≡ text ∷ more ∷ []
two_words (w ∷ v ∷ []) one two text more some few is_one is_two eq_one eq_two = grind (arith, bytes_eq-Decides)
two_words words one two text more some few is_one is_two eq_one eq_two = absurd (omega arith)

-- what a run broke off with
pub front_logged : (quiet : Bool) (m : Meaning) (steps : List Step) (old mid new : Option (List ℕ)) → BeginsWell m.plan → sum_by count_of m.steps ≤ MOST_STEPS → steps ≡ m.steps → Breaks quiet m.plan (first_playing m.plan) steps old mid → new ≡ mid → GaveFrontOfLog quiet m old new
front_logged quiet m steps old mid new begins few same_steps breaks same =
    record {
      taken = breaks.taken;
      are_taken = subst (λ (x : List Step). AreTaken breaks.taken x) same_steps breaks.are_taken;
      told = breaks.told;
      log = is_the_log m.plan breaks.taken breaks.told begins (omega (arith, few, few_taken breaks.taken m.steps (subst (λ (x : List Step). AreTaken breaks.taken x) same_steps breaks.are_taken))) breaks.has_lines breaks.goes;
      gave = subst (λ (x : Option (List ℕ)). GaveFront old x (told_text quiet breaks.told)) (sym same) breaks.gave;
    }

module _ {B L : Type 0} (left : B → L) (runs : L → Plan → Option ℕ → Type 0) (holds : L → Option Said → List ℕ) (spot : L → Option Said → Spot) (known : Plan → Type 0) where
  pub logged : (quiet : Bool) (m : Meaning) (steps : List Step) (d : Core B) (old mid new : Option (List ℕ)) → BeginsWell m.plan → sum_by count_of m.steps ≤ MOST_STEPS → steps ≡ m.steps → Leads left runs holds spot known quiet m.plan (first_playing m.plan) steps d old mid → new ≡ mid
      → (told : List Told) × IsTheLogOf m.plan m.steps told × Gave old new (told_text quiet told)
  logged quiet m steps d old mid new begins few same_steps leads same = (
    leads.told,
    subst (λ (x : List Step). IsTheLogOf m.plan x leads.told) same_steps (is_the_log m.plan steps leads.told begins (subst (λ (x : List Step). sum_by count_of x ≤ MOST_STEPS) (sym same_steps) few) (lines_done steps _ leads.has_lines) leads.goes),
    same ∙ leads.gave,
  )

  -- all was logged, and what came then failed
  pub all_logged : (quiet : Bool) (m : Meaning) (steps : List Step) (d : Core B) (old mid new : Option (List ℕ)) → BeginsWell m.plan → sum_by count_of m.steps ≤ MOST_STEPS → steps ≡ m.steps → Leads left runs holds spot known quiet m.plan (first_playing m.plan) steps d old mid → new ≡ mid → GaveFrontOfLog quiet m old new
  all_logged quiet m steps d old mid new begins few same_steps leads same =
      front_logged quiet m steps old mid new begins few same_steps (broke_between left runs holds spot known quiet m.plan (first_playing m.plan) steps steps d old mid (all_taken steps) leads) same

-- where a run broke off after its beginning
pub gave_up : {T : Type 0} (r : Result T TraceError) (quiet : Bool) (m : Meaning) (old new : Option (List ℕ)) → GaveFrontOfLog quiet m old new → IfErr r (λ e. GaveUpTo e quiet m old new)
gave_up = grind arith

-- why a text is not run is why the run ends
pub cause_of : (e : TraceError) (source : Option (List ℕ)) (text : List ℕ) (read read' written written' : ℕ) → IsTextIn source text → CannotRun e text → read' ≡ read → written' ≡ written → IsCauseOf e source read read' written written'
cause_of = grind arith

-- what a complaint that there was cause for says
pub explained : (x : Complaint) (status : ℕ) (words : List (String Global)) (source : Option (List ℕ)) (read read' : ℕ) (old mid new passed : Option (List ℕ)) (written at written' : ℕ) → HasCause x words source read read' → mid ≡ old → at ≡ written → Complains x status mid new passed at written' → Explains status words source read read' old new passed written written'
explained = grind arith

-- Where a trace may be run, what a status says leaves no answer but its log, or no memory.

-- the words ask for one of the two alone
one_quiet : (quiet other : Bool) (words : List (String Global)) → AskForTrace quiet words → AskForTrace other words → other ≡ quiet
one_quiet = grind arith

-- what is known of a source is one text
one_text : (source : Option (List ℕ)) (text other : List ℕ) → IsSome source → IsTextIn source text → IsTextIn source other → other ≡ text
one_text = grind arith

-- and that has one meaning
one_meaning : (source : Option (List ℕ)) (m : Meaning) (held : HasTrace source m) (q : Meaning) (text : List ℕ) → IsSome source → IsTextIn source text → IsTraceOf text q → q ≡ m
one_meaning source m held q text known is_text spelled =
    meaning_is_one held.text q m (subst (λ (x : List ℕ). IsTraceOf x q) (one_text source held.text text known held.read is_text) spelled) held.spelled

too_long : (source : Option (List ℕ)) (m : Meaning) (count : ℕ) → IsSome source → HasTrace source m → IsTooLong source count → ⊥
too_long None m count known held long = absurd (true≢false (sym known))
too_long (Some bytes) m count known held (inl many) =
    let same : length bytes ≡ length held.text = ap (λ (x : List ℕ). length x) held.read.whole in omega (arith, many.longer, held.read.short)
too_long (Some bytes) m count known held (inr many) =
    let same : sum_by count_of many.meaning.steps ≡ sum_by count_of m.steps = ap (λ (x : Meaning). sum_by count_of x.steps) (one_meaning (Some bytes) m held many.meaning many.text known many.read many.spelled) in
    omega (arith, many.more, many.counted, held.few)

no_cause : (x : Complaint) (quiet : Bool) (m : Meaning) (words : List (String Global)) (source : Option (List ℕ)) (read read' : ℕ) → AskForTrace quiet words → IsSome source → HasTrace source m → (Rose read read' → ⊥) → HasCause x words source read read' → ⊥
no_cause Usage quiet m words source read read' ask known held read_well cause = cause.0 (quiet, ask)
no_cause ReadFault quiet m words source read read' ask known held read_well cause = read_well cause.1
no_cause (TooLong count) quiet m words source read read' ask known held read_well cause = too_long source m count known held cause.1
no_cause (Syntax line) quiet m words source read read' ask known held read_well cause =
    no_fault held.text line (m, held.spelled) (subst (λ (x : List ℕ). IsFirstFault x line) (one_text source held.text cause.1.text known held.read cause.1.read) cause.1.fault)
no_cause (Config it) quiet m words source read read' ask known held read_well cause =
    let out = cause.1.out in
    none-some _ (sym held.in_range ∙ ap (λ (x : Meaning). first_out_of_range x.plan.config) (sym (one_meaning source m held out.meaning cause.1.text known cause.1.read out.spelled)) ∙ out.first)

gave_log : (quiet other : Bool) (m : Meaning) (words : List (String Global)) (source old new : Option (List ℕ)) → IsSome source → HasTrace source m → AskForTrace quiet words → AskForTrace other words → GaveLog other source old new → (log : GaveLog quiet source old new) × (log.meaning ≡ m)
gave_log quiet other m words source old new known held one two log =
    let same : GaveLog quiet source old new = subst (λ (x : Bool). GaveLog x source old new) (one_quiet quiet other words one two) log in
    (same, one_meaning source m held same.meaning same.held.text known same.held.read same.held.spelled)

only : (status : ℕ) (words : List (String Global)) (source : Option (List ℕ)) (read read' : ℕ) (old new passed : Option (List ℕ)) (written written' : ℕ) (quiet : Bool) (m : Meaning) → AskForTrace quiet words → IsSome source → HasTrace source m → (Rose read read' → ⊥) → (Rose written written' → ⊥)
    → Explains status words source read read' old new passed written written' → ((status ≡ 0) × (log : GaveLog quiet source old new) × (log.meaning ≡ m) × (passed ≡ new)) ⊎ (status ≡ 7)
only status words source read read' old new passed written written' quiet m ask known held read_well wrote_well (inl done) =
    let log = gave_log quiet done.1.quiet m words source old new known held ask done.1.asked done.1.gave in inl (done.0, log.0, log.1, done.1.passes)
only status words source read read' old new passed written written' quiet m ask known held read_well wrote_well (inr (inl complaint)) =
    absurd (no_cause complaint.0 quiet m words source read read' ask known held read_well complaint.2.cause)
only status words source read read' old new passed written written' quiet m ask known held read_well wrote_well (inr (inr (inl fault))) = absurd (wrote_well fault.1)
only status words source read read' old new passed written written' quiet m ask known held read_well wrote_well (inr (inr (inr memory))) = inr memory.0

-- what a status says leaves no other answer
pub completed : (status : ℕ) (words : List (String Global)) (source : Option (List ℕ)) (read read' : ℕ) (old new passed : Option (List ℕ)) (written written' : ℕ) → Explains status words source read read' old new passed written written' → Completes status words source read read' old new passed written written'
completed status words source read read' old new passed written written' explains =
    record { no_other = λ quiet m ask known held read_well wrote_well. only status words source read read' old new passed written written' quiet m ask known held read_well wrote_well explains }
