-- WHAT HOLDS OF AN EXECUTOR between two steps: each worker and each outside caller is sound with what all share, and the
-- balances of all of them hold.
use Rattle.std.specs.Prelude.{◌≡◌, ℕ, ◌≤◌, ◌^◌, false, List, [], ◌∷◌, length, slice_get, Some, None}
use Rattle.exec_parts.specs.declared.parts.{shared.Shared.Shared, worker.Worker.Worker}
use Rattle.exec_polling.specs.{declared.caller.Caller.Caller, Calling.{CallSound, with_caller}}
use Rattle.exec_invariants.specs.{Places.no_drops, Sound.Sound, Whole.{IsWhole, Profile, with_worker}}

abbrev pub nobody : Profile
nobody =
    record {
      runnables = λ t. 0;
      polls = λ t. 0;
      claims = λ j. 0;
      counts = 0;
      published = λ j. false;
      clears = λ t. 0;
      polled_by = λ j. None;
      drops_by = λ j. no_drops;
      mail = λ m. 0;
      wakes = λ j t. 0;
    }

-- what all callers have, and all workers
abbrev pub callers_have : List Caller → Profile
callers_have [] = nobody
callers_have (c ∷ cs) = with_caller (callers_have cs) c

abbrev pub all_have : List Worker → List Caller → Profile
all_have [] cs = callers_have cs
all_have (w ∷ ws) cs = with_worker (all_have ws cs) w

module _ {B : Type 0} where
  pub record StandTogether (ws : List Worker) (cs : List Caller) (s : Shared B) : Type 0 where
    pub seats : length ws ≡ length s.seats.items
    pub few : length cs ≤ 16
    pub most : length ws ≤ 2 ^ 32
    pub sound : (i : ℕ) (w : Worker) → slice_get ws i ≡ Some w → (w.index ≡ i) × Sound w s
    pub calls : (j : ℕ) (c : Caller) → slice_get cs j ≡ Some c → CallSound c s
    pub whole : IsWhole (all_have ws cs) s
