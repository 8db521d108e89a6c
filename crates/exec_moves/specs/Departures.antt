-- Lines that no log by moves has, though the machine may allow them.
use Rattle.std.specs.Prelude.{◌≡◌, List, [], ◌∷◌, ◌++◌}
use Rattle.exec_machine.specs.{declared.{config.{Configuration.Configuration, ScriptWord.ScriptWord as word}, step.{Step.{Step, Step as step}, Action.Action as action}}, Progress.Plan, Examples.{Told, usual}}
use Rattle.exec_moves.specs.Plays.{Playing, first_playing, by_step, Plays, log_by_moves}

-- where the executor is after these lines
abbrev pub played : Configuration → Playing → List Told → Playing
played c p [] = p
played c p (it ∷ told) = played c (by_step c p it.0.action).next told

-- After these steps of the plan the next one tells the first line, and no log goes on by the other in place of it.
pub record Departs (p : Plan) (steps : List Step) (tells other : Told) : Type 0 where
  pub moves : (by_step p.config (played p.config (first_playing p) (log_by_moves p steps)) other.0.action).told ≡ tells
  pub refused : (more : List Step) → (later : List Told) → Plays p more (log_by_moves p steps ++ other ∷ later) → ⊥

-- a root that sends twice ten bytes, and waits for the second send first
abbrev pub two_sends : Plan
two_sends =
    record {
      config = usual;
      scripts = [];
      root = (word.Send 0 10) ∷ (word.Send 0 10) ∷ word.Await ∷ word.Await ∷ word.End ∷ [];
    }

-- the first four steps of a caller that spawns: beside nobody who waits its call is over by them
abbrev pub a_call : List Step
a_call = step.One (action.Spawn 0 0) ∷ step.One (action.GoOn 0) ∷ step.One (action.GoOn 0) ∷ step.One (action.GoOn 0) ∷ []
