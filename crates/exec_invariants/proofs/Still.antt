-- A step that is no act, for the plans that all tasks perform.
use Rattle.exec_invariants.{specs.{Acting.{Performs, StepsOf, StepsWith}, Hearing.Hears, Works.Steps}, proofs.Words.{◌≡◌, ⊎_elim, ℕ, ◌<◌, List, length, get_or, Option, None, Some, sym, subst, ◌∙◌, slice_get, false≢true, slice_get_within, slice_get-get_or, Said, Event, Plan, Shared, TaskSlot, Worker, Spot}}

module _ {B L : Type 0} (left : B → L) (runs : L → Plan → Option ℕ → Type 0) (holds : L → Option Said → List ℕ) (spot : L → Option Said → Spot) where
  pub performs_still : (p : Plan) (slot slot' : TaskSlot B) → Hears slot slot' → Performs left runs holds p slot → Performs left runs holds p slot'
  performs_still p slot slot' still fits =
      record {
        runs_it = λ b answer is hears going. subst (runs (left b) p) (sym still.home) (fits.runs_it b answer (sym still.body ∙ is) (still.told answer hears).0 (still.going going));
        holding = λ b answer is hears going. let it = still.told answer hears in fits.holding b answer (sym still.body ∙ is) it.0 (still.going going) ∙ it.1;
      }

  pub steps_of : (w w' : Worker) (s s' : Shared B) (e : Event) → Steps left spot w s e w' s' → StepsOf left runs holds spot w s e w' s'
  steps_of w w' s s' e steps = (
    (λ p vs suits fits. steps.0 p vs suits),
    steps.1,
    record {
      root = steps.2.root;
      config = steps.2.config;
      performs = λ p is fits t slot' there'.
          let within : t < length s.tasks.items = subst (λ n. t < n) steps.2.many (slice_get_within s'.tasks.items t slot' there') in
          let slot : TaskSlot B = get_or s.tasks.items t slot' in
          let there : slice_get s.tasks.items t ≡ Some slot = slice_get-get_or s.tasks.items t slot' within in
          ⊎_elim
          (λ still. performs_still p slot slot' still (fits t slot there))
          (λ over. record { runs_it = λ b answer is hears going. absurd (false≢true (sym going ∙ over)); holding = λ b answer is hears going. absurd (false≢true (sym going ∙ over)) })
          (steps.2.hears t slot slot' there there');
    },
    steps.3,
  )

  -- and it has made no worker
  pub steps_none : (born : Option Worker) (w w' : Worker) (s s' : Shared B) (e : Event) → born ≡ None → Steps left spot w s e w' s' → StepsWith left runs holds spot born w s e w' s'
  steps_none born w w' s s' e none steps = subst (λ o. StepsWith left runs holds spot o w s e w' s') (sym none) (steps_of w w' s s' e steps)

  -- nor has an act that made none
  pub steps_nobody : (born : Option Worker) (w w' : Worker) (s s' : Shared B) (e : Event) → born ≡ None → StepsOf left runs holds spot w s e w' s' → StepsWith left runs holds spot born w s e w' s'
  steps_nobody born w w' s s' e none steps = subst (λ o. StepsWith left runs holds spot o w s e w' s') (sym none) steps
