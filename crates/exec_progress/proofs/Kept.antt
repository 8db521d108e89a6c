-- What is carried holds of the first state, and each step keeps it; so each quiet step of a worker costs some of what it has left, of which an open
-- one never has as much as the bound.
use Rattle.std.proofs.{Common.{◌≡◌, ℕ, suc, ◌^◌, ◌≤◌, ◌<◌, true, arith, inl, inr}, lemmas.Bool.{and_parts, cases_Bool, false≢true, not-true, or_left}}
use Rattle.exec_machine.specs.{declared.{config.Configuration.Configuration, step.Action.{Action, Action as action}}, Callers.is_enabled, Progress.{Plan, is_quiet_step, quiet_bound}, Run.Follows, Tests.is_open, World.seat_of}
use Rattle.exec_moves.specs.Plays.{Playing, by_step, first_playing}
use Rattle.exec_rest.specs.{AtRest.{AreBare, IsPlaced}, Posted.IsPosted, Rested.IsRestful}
use Rattle.exec_settled.specs.{Given.IsGiven, Settled.IsSettled}
use Rattle.exec_progress.{specs.{Left.left_to, Granted.IsGranted, Paced.IsPaced}, proofs.{Aimed.{aimed_first, aimed_then}, Bounded.bounded, Narrow.{narrow_first, narrow_then}, Opens.{opens_first, opens_then}, Outputs.{outputs_first, outputs_then}, Pace.{pace_first, pace_then}, Quiet.falls_at, Seeking.{counts_first, counts_then}, Stood.down_by}}

pub first_paced : (p : Plan) → p.config.spin.budget ≤ p.config.spin.most → p.config.files ≤ 64 → IsPaced 0 p.config (first_playing p)
first_paced p spins files = record { pace = pace_first p spins; counts = counts_first p; aimed = aimed_first p; narrow = narrow_first p; outputs = outputs_first p; opens = opens_first p files }

pub paced_then : (n : ℕ) (c : Configuration) (x : Playing) → IsPlaced c x → IsGiven c x → IsGranted c x → IsRestful c x → IsPaced n c x → (a : Action)
    → Follows c x.world a (by_step c x a).told.0.said (by_step c x a).told.1 → IsPaced (suc n) c (by_step c x a).next
paced_then n c x placed given granted restful now a follows =
    grind (arith, pace_then, placed.laid, now.pace, granted.claims, counts_then, now.counts, aimed_then, placed, restful, now.aimed, narrow_then, granted, now.narrow, outputs_then, given, now.outputs, follows, opens_then, now.opens)

pub falls : (n : ℕ) → n ≤ 2 ^ 32 → (c : Configuration) (x : Playing) → IsPlaced c x → IsGiven c x → IsGranted c x → IsRestful c x → AreBare c x → IsPosted c x → IsPaced n c x → (i : ℕ)
    → is_quiet_step x.world (by_step c x (action.Work i)).told.0.said ≡ true → left_to c (by_step c x (action.Work i)).next i < left_to c x i
falls n few c x placed given granted restful bare posted paced i = elim (cases_Bool (is_enabled x.world.common (action.Work i))) [
  | inl on ↦ grind (arith, and_parts, down_by, not-true, falls_at)
  | inr off ↦ rw off (λ quiet. absurd (false≢true quiet))
]

pub bounded_there : (n : ℕ) (c : Configuration) (x : Playing) → IsGranted c x → IsSettled c x → IsPaced n c x → (i : ℕ) → is_open (seat_of x.world.common i).phase ≡ true → left_to c x i < quiet_bound c x.world
bounded_there = grind (arith, or_left, bounded)
