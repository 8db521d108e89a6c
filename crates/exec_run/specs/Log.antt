-- What a run wrote: the whole log, or a front of it.
use Rattle.std.specs.{Prelude.{◌≡◌, ℕ, Bool, true, false, ◌≤◌, ◌⊎◌, List, [], ◌∷◌, ◌++◌, Option, None, sum_by}, Io.KnownBytes.append_known}
use Rattle.exec_base.specs.declared.limits.TheConstants.{MOST_STEPS}
use Rattle.exec_core.specs.Turns.{IsOrderly}
use Rattle.exec_machine.specs.{declared.{config.Configuration.Configuration, step.Step.{Step, TheVariants.Work}}, Run.RunsBy, Deadlines.{is_after, next_due, rest_until}, Tests.{is_awake, is_resolved}, World.{World, request_of, seat_of}, Progress.{Plan, RightlyAsleepBy, begin, is_solo, no_stretch}, Text.{text_of_log, told_lines}, Examples.{Told, choices_of, lines_of}}
use Rattle.exec_moves.specs.Plays.{Playing, Plays, by_step, first_playing}
use Rattle.exec_rest.specs.AtRest.{RestsWell}
use Rattle.exec_run.specs.{Ranges.first_out_of_range, Refusal.IsTextIn}
use Rattle.exec_settled.specs.{Parked.{NobodySleepsOnWork, NoneIsForgotten}, Settled.HaveLetGo}
use Rattle.exec_shutdown.specs.Shutdown.{ShutsDown}
use Rattle.exec_text.specs.Grammar.{Meaning, IsTraceOf, count_of}

-- The source held a trace that says this, which is not too long and whose configuration is in its ranges.
pub record HasTrace (source : Option (List ℕ)) (m : Meaning) : Type 0 where
  pub text : List ℕ
  pub read : IsTextIn source text
  pub spelled : IsTraceOf text m
  pub few : sum_by count_of m.steps ≤ MOST_STEPS
  pub in_range : first_out_of_range m.plan.config ≡ None

-- This holds of a state, and of each to which the lines lead from there.
abbrev pub InEach : (Playing → Type 0) → Configuration → Playing → List Told → Type 0
InEach holds c x [] = holds x
InEach holds c x (it ∷ told) = holds x × InEach holds c (by_step c x it.0.action).next told

-- What a request owns is let go only once it is over: not while an operation of it is staged, under way or landed.
abbrev pub KeepOwned : World → Type 0
KeepOwned w = (k : ℕ) → (request_of w.common k).released ≡ true → is_resolved (request_of w.common k).phase ≡ true

-- Who sleeps does so until the first moment at which something is due there, which is ahead, or without end where there is
-- none.
abbrev pub NoneOversleeps : World → Type 0
NoneOversleeps w = (i : ℕ) → is_awake (seat_of w.common i).rest ≡ false → ((seat_of w.common i).rest ≡ rest_until (next_due w.common i)) × (is_after w.common.clock (next_due w.common i) ≡ true)

-- The lines, each with what it leaves open, are the log of these steps: a run of the machine; each line is what the step
-- tells by its move, so that there is no other log; in each state a task that is to be polled has one runnable, one that is
-- polled has one poller, and durable requests of an open take turns; requests keep what they own until they are over, and none
-- is forgotten; nobody sleeps past what is due; whatever others do, who sleeps has nothing to do or is woken next, and who sleeps
-- as it closes waits for a request that is held up; where all sleep nothing is left to be run, and nothing is unfinished; where
-- nobody can take a step nobody is held at the shutdown barrier, and if one is closing the kernel has an operation; who has ended
-- has let go of all its requests; and no worker and no caller turns for ever.
pub record IsTheLogOf (p : Plan) (steps : List Step) (told : List Told) : Type 0 where
  pub runs : RunsBy p.config (begin p) (lines_of told) (choices_of told)
  pub plays : Plays p steps told
  pub orderly : InEach IsOrderly p.config (first_playing p) told
  pub owned : InEach (λ x. KeepOwned x.world) p.config (first_playing p) told
  pub unforgotten : InEach (NoneIsForgotten p.config) p.config (first_playing p) told
  pub dues : InEach (λ x. NoneOversleeps x.world) p.config (first_playing p) told
  pub parked : InEach (NobodySleepsOnWork p.config) p.config (first_playing p) told
  pub rests : InEach (RestsWell p.config) p.config (first_playing p) told
  pub shuts : InEach (λ x. ShutsDown x.world) p.config (first_playing p) told
  pub ended : InEach (λ x. HaveLetGo x.world) p.config (first_playing p) told
  pub asleep : RightlyAsleepBy p.config (begin p) (lines_of told) (choices_of told)
  pub solo : is_solo p.config (begin p) no_stretch (lines_of told) (choices_of told) ≡ true

-- what is told of such lines
abbrev pub told_text : Bool → List Told → List ℕ
told_text quiet told = text_of_log (told_lines quiet (lines_of told))

-- The sink was given these bytes, where it is known what it was given.
abbrev pub Gave : Option (List ℕ) → Option (List ℕ) → List ℕ → Type 0
Gave old new bytes = new ≡ append_known old bytes

-- The sink was given a front of these bytes.
pub record GaveFront (old new : Option (List ℕ)) (bytes : List ℕ) : Type 0 where
  pub out : List ℕ
  pub rest : List ℕ
  pub begins : bytes ≡ out ++ rest
  pub gave : Gave old new out

-- The source held a trace, and the sink was given the log of all its steps: the lines of it that are told.
pub record GaveLog (quiet : Bool) (source old new : Option (List ℕ)) : Type 0 where
  pub meaning : Meaning
  pub held : HasTrace source meaning
  pub told : List Told
  pub log : IsTheLogOf meaning.plan meaning.steps told
  pub gave : Gave old new (told_text quiet told)

-- some of the steps of the line of a worker at the front
pub record IsBegun (some line : List Step) : Type 0 where
  pub worker : ℕ
  pub taken : ℕ
  pub count : ℕ
  pub rest : List Step
  pub fewer : taken ≤ count
  pub are_some : some ≡ Work worker taken ∷ []
  pub of_line : line ≡ Work worker count ∷ rest

-- The steps taken are those of the first lines, and then maybe some of the next line's.
pub record AreTaken (taken steps : List Step) : Type 0 where
  pub whole : List Step
  pub some : List Step
  pub rest : List Step
  pub are : taken ≡ whole ++ some
  pub first : steps ≡ whole ++ rest
  pub next : (some ≡ []) ⊎ IsBegun some rest

-- The steps taken so far have their log, and of its lines that are told the sink was given a front.
pub record GaveFrontOfLog (quiet : Bool) (m : Meaning) (old new : Option (List ℕ)) : Type 0 where
  pub taken : List Step
  pub are_taken : AreTaken taken m.steps
  pub told : List Told
  pub log : IsTheLogOf m.plan taken told
  pub gave : GaveFront old new (told_text quiet told)

-- The source held a trace, whose run broke off: what the sink was given is a front of its log so far.
pub record BrokeOff (quiet : Bool) (source old new : Option (List ℕ)) : Type 0 where
  pub meaning : Meaning
  pub held : HasTrace source meaning
  pub gave : GaveFrontOfLog quiet meaning old new
