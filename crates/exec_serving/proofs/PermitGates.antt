-- Who stands at the gates, as a worker comes to where it passes a permit on, or leaves that place.
use Rattle.std.proofs.Common.{◌≡◌, ◌≢◌, ℕ, ◌==◌, List, Some, None, if◌then◌else◌, ap, ◌∙◌, arith}
use Rattle.exec_opens.specs.Opens.{OpenState}
use Rattle.exec_parts.{specs.declared.parts.{record.Record.Record, worker.Worker.Worker}}
use Rattle.exec_invariants.{specs.{Gates.{HaveGates, PassesPermit}, Places.{Drops, drops_at}, Whole.{Profile, with_worker}}, proofs.PoolKept.chosen_own}

pub gates_passing : (drops drops' : ℕ → Drops) (i : ℕ) (opens : List OpenState) (rs : List Record) → ((j : ℕ) → j ≢ i → drops' j ≡ drops j) → (drops' i).joins ≡ None
    → ((file : ℕ) → (drops' i).passes ≡ Some file → PassesPermit i file opens rs) → HaveGates drops opens rs → HaveGates drops' opens rs
gates_passing = grind arith

-- of one worker and the others
pub drops_others : (others : Profile) (w w' : Worker) → w'.index ≡ w.index → (j : ℕ) → j ≢ w.index → (with_worker others w').drops_by j ≡ (with_worker others w).drops_by j
drops_others = grind arith

pub drops_own : (others : Profile) (w w' : Worker) → w'.index ≡ w.index → (with_worker others w').drops_by w.index ≡ drops_at w'.place
drops_own others w w' same = ap (λ n. if w.index == n then drops_at w'.place else others.drops_by w.index) same ∙ chosen_own w.index (drops_at w'.place) (others.drops_by w.index)
