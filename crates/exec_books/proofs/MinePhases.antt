-- One request, as its phase changes: where it stands in the lists then.
use Rattle.std.{proofs.{Common.{◌≡◌, ℕ, ◌&&◌, ◌||◌, Bool, true, false, not, List, arith}, lemmas.Bool.false≢true}, specs.Prelude.Some}
use Rattle.exec_outcomes.specs.declared.outcome.OpResult.{OpResult}
use Rattle.exec_machine.specs.{declared.state.{Request.Request, RequestPhase.{RequestPhase, RequestPhase as phase}}, Requests.{dropped, ends_by_drop, flown, is_cancelled_by_drop, joined_if, own_after_end}, Tests.{is_gated, is_landed_with, is_queued, is_resolved}, World.Own as Books}
use Rattle.exec_books.{specs.Listed.{IsListed, is_in}, proofs.Listed.{in_last, over_listed}}

-- PHASES

pub queued_open : (p : RequestPhase) → is_queued p ≡ true → is_resolved p ≡ false
queued_open = grind arith

pub gated_open : (p : RequestPhase) → is_gated p ≡ true → is_resolved p ≡ false
gated_open = grind arith

pub landed_open : (n : OpResult) (p : RequestPhase) → is_landed_with n p ≡ true → is_resolved p ≡ false
landed_open = grind arith

pub told_staged : (a b : Bool) → (a && b && not true) ≡ true → ⊥
told_staged = grind arith

pub not_cancelled : (a b : Bool) → not a ≡ true → (true && a && not b) ≡ false
not_cancelled = grind (arith, false≢true)

pub no_more : (a : Bool) → (a && not true) ≡ true → ⊥
no_more = grind (arith, false≢true)

-- what waits in no other way stands where it stood, whose phase is open
pub put_unenrolled : (p q : RequestPhase) (a t d : Bool) → is_resolved p ≡ false → (is_resolved q || a || t || d) ≡ false → (is_resolved p || a || t || d) ≡ false
put_unenrolled = grind arith

-- ONE REQUEST

module _ (me : Books) (landed : List ℕ) (r : ℕ) (it : Request) (was : IsListed me landed r it) where
  -- its deadline is on the wheel
  pub enrolled_listed : (me' : Books) (m : ℕ) → me'.ready ≡ me.ready → me'.cancels ≡ me.cancels → me'.ended ≡ me.ended → IsListed me' landed r (record it { timer = Some m })
  enrolled_listed = grind arith

  pub cancelled_listed : (me' : Books) (y : Request) → y.phase ≡ it.phase → y.cancelled ≡ true → y.released ≡ it.released → me'.ready ≡ me.ready → is_in r me'.cancels ≡ true
      → me'.ended ≡ me.ended → IsListed me' landed r y
  cancelled_listed = grind arith

  -- the kernel has it
  pub flown_listed : (i : ℕ) → IsListed me landed r (flown i it)
  flown_listed = grind arith

  -- it is ready, with any operation of that deadline
  pub ready_listed : (me' : Books) (landed' : List ℕ) (y : Request) → is_resolved it.phase ≡ false → y.phase ≡ phase.Queued → y.cancelled ≡ it.cancelled → y.timer ≡ it.timer
      → y.operation.deadline ≡ it.operation.deadline → is_in r me'.ready ≡ true → me'.unenrolled ≡ me.unenrolled → IsListed me' landed' r y
  ready_listed = grind arith

-- somebody lets go of it
pub drop_listed : (me : Books) (landed : List ℕ) (r : ℕ) (it : Request) (ends cancelled : Bool) → ends_by_drop it ≡ ends → is_cancelled_by_drop it ≡ cancelled
    → IsListed me landed r it → IsListed (record (own_after_end ends r me) { cancels = joined_if cancelled (own_after_end ends r me).cancels r }) landed r (dropped it)
drop_listed = grind (arith, over_listed, in_last, cancelled_listed)
