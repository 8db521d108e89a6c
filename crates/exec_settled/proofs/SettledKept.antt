-- What a worker has done before it sleeps stays done in each step.
use Rattle.std.proofs.{Common.{◌≡◌, true, refl, sym, ◌∙◌, arith}, lemmas.Bool.true≢false}
use Rattle.exec_machine.specs.{declared.{config.Configuration.Configuration, step.Action.Action}, Callers.is_enabled, Progress.Plan, Run.Follows}
use Rattle.exec_moves.specs.Plays.{Playing, by_action, by_step, first_playing}
use Rattle.exec_rest.{specs.{AtRest.{IsPlaced, stays_closing}, Places.is_to_sleep_on_ring}, proofs.First.{awake_first, not_there}}
use Rattle.exec_settled.{specs.{Given.IsGiven, Settled.{IsSettled, has_submitted, has_told, waits_on_word}}, proofs.{SettledOthers.{caller_settles, other_settles}, SettledStep.work_settles}}

pub first_settled : (p : Plan) → IsSettled p.config (first_playing p)
first_settled p =
    record {
      told = λ i h. not_there p has_told refl i h;
      submitted = λ i h. not_there p has_submitted refl i h;
      free = λ i h. not_there p waits_on_word refl i h;
      busy = λ i h. not_there p stays_closing refl i h;
      entered = λ i h. not_there p is_to_sleep_on_ring refl i h;
      entered_then = λ i asleep h. absurd (true≢false (sym asleep ∙ awake_first p i));
      landed = λ i asleep h. absurd (true≢false (sym asleep ∙ awake_first p i));
    }

module _ (c : Configuration) (x : Playing) (placed : IsPlaced c x) (given : IsGiven c x) (before : IsSettled c x) where
  by_any : (a : Action) → is_enabled x.world.common a ≡ true → (let it = (by_action c x a).told in Follows c x.world a it.0.said it.1) → IsSettled c (by_action c x a).next
  by_any = grind (arith, work_settles, caller_settles, other_settles)

pub settled_then : (c : Configuration) (x : Playing) → IsPlaced c x → IsGiven c x → (a : Action) → let it = (by_step c x a).told in
    Follows c x.world a it.0.said it.1 → IsSettled c x → IsSettled c (by_step c x a).next
settled_then = grind (arith, by_any)
