-- There are as many opens as in the first state: no step makes one or takes one away.
use Rattle.std.proofs.{Common.{◌≡◌, ◌≤◌, length, arith}, lemmas.{Bool.cases_Bool, List.length-replicate}}
use Rattle.exec_machine.specs.{declared.{config.Configuration.Configuration, event.Event.Event, step.Action.Action}, Callers.common_by, Choice.Choice, Progress.Plan, World.{Common, no_open}}
use Rattle.exec_moves.specs.Plays.{Playing, by_action, by_step, first_playing}
use Rattle.exec_settled.proofs.PermittedEvents.{leaves}

pub opens_first : (p : Plan) → p.config.files ≤ 64 → length (first_playing p).world.common.opens ≤ 64
opens_first p few = omega (arith, few, length-replicate p.config.files no_open)

opens_same : (s : Common) (a : Action) (e : Event) (choice : Choice) → (common_by s a e choice).opens ≡ s.opens
opens_same = grind arith

-- EACH STEP
module _ (c : Configuration) (x : Playing) where
  abbrev s : Common
  s = x.world.common

  so_many : (a : Action) → length (by_action c x a).next.world.common.opens ≡ length s.opens
  so_many = grind (arith, leaves, opens_same)

pub opens_then : (c : Configuration) (x : Playing) → length x.world.common.opens ≤ 64 → (a : Action) → length (by_step c x a).next.world.common.opens ≤ 64
opens_then = grind (arith, cases_Bool, so_many)
