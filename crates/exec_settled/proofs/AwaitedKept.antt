-- No step leaves a task waiting for what has come.
use Rattle.std.proofs.{Common.{◌≡◌, ℕ, zero, suc, true, get_or, refl, sym, ap, ◌∙◌, arith}, lemmas.Bool.true≢false}
use Rattle.exec_machine.specs.{declared.{config.Configuration.Configuration, state.Waiting.{Waiting, Waiting as waiting}, step.Action.{Action, Action as action}}, Callers.is_enabled, Progress.Plan, Run.{Follows, first_tasks}, World.{no_task, own_of}}
use Rattle.exec_moves.specs.{Move.move, Plays.{Playing, by_action, by_step, desk_of, first_playing}, State.{Moved, Things}}
use Rattle.exec_rest.{specs.AtRest.IsPlaced, proofs.Step.heeds_at}
use Rattle.exec_settled.{specs.{Awaited.IsAwaited, Given.{IsGiven, WaitsFor}}, proofs.{AwaitedOthers.{leaves, stays_awaited}, AwaitedTasks.is_for_thing, AwaitedWork.work_awaited, TellsAt.tells_at}}

-- THE FIRST STATE: nobody waits for anything

waits_first : (n from t : ℕ) → (get_or (first_tasks n from) t no_task).waiting ≡ waiting.Nothing
waits_first zero from t = refl
waits_first (suc n) from zero = refl
waits_first (suc n) from (suc t) = waits_first n (suc from) t

nobody : {T : Type 0} (p : Plan) (t : ℕ) (what : Waiting) → is_for_thing what ≡ true → WaitsFor (first_playing p).world.common t what → T
nobody p t what thing w = absurd (true≢false (sym thing ∙ sym (ap is_for_thing w.waits) ∙ ap is_for_thing (waits_first p.config.workers 0 t)))

pub first_awaited : (p : Plan) → IsAwaited p.config (first_playing p)
first_awaited p =
    record {
      here = λ t k w. nobody p t (waiting.Request k) refl w;
      woken = λ t k w. nobody p t (waiting.Request k) refl w;
      fired = λ t z w. nobody p t (waiting.Timer z) refl w;
      answered = λ t k w. nobody p t (waiting.Request k) refl w;
      alarmed = λ t z w. nobody p t (waiting.Timer z) refl w;
    }

-- EACH STEP

module _ (c : Configuration) (x : Playing) (placed : IsPlaced c x) (given : IsGiven c x) (before : IsAwaited c x) where
  by_any : (a : Action) → is_enabled x.world.common a ≡ true → let it = (by_action c x a).told in
      Follows c x.world a it.0.said it.1 → IsGiven c (by_action c x a).next → IsAwaited c (by_action c x a).next
  by_any (action.Work i) may follows later =
      let m : Moved Things = move c i (own_of x.world i) x.world.common (desk_of c x i) x.things in
      work_awaited c x placed.laid i m may follows.1
      (heeds_at (Unit {0}) c i (own_of x.world i) x.world.common (desk_of c x i) x.things (desk_of c x i).place refl).born
      (tells_at c i (own_of x.world i) x.world.common (desk_of c x i) x.things) given later before
  by_any a may follows later = stays_awaited c x (by_action c x a).next (leaves c x a may refl) before

pub awaited_then : (c : Configuration) (x : Playing) → IsPlaced c x → IsGiven c x → (a : Action) → let it = (by_step c x a).told in
    Follows c x.world a it.0.said it.1 → IsGiven c (by_step c x a).next → IsAwaited c x → IsAwaited c (by_step c x a).next
awaited_then = grind (arith, by_any)
