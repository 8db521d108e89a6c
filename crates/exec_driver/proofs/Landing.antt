-- An operation that ends in a ring in memory keeps a driver as it should be.
use Rattle.std.{proofs.Common.{◌≡◌, ℕ, Bool, true, ◌&&◌, cond, Option, Some, Result, Ok, Err, refl, ap, inl, inr, arith}, specs.Prelude.{OnOk, OnErr}}
use Rattle.exec_driver.{proofs.{Words.{Slab, written, OpResult, asked_of, deadline_of, Request, landed, may_land, flight_of, RingState, is_flying, Waiter, Entry, Pending, WaiterId, Driving, request_at, IsHeld, cases_Bool}, Endings.{one_changed, flying_there}, Entering.landed_within, Keeping.punctual_one, Observing.held_alike, Stepping.{held_ring, permit_same}, Windows.deadline_same}, specs.Punctual.IsPunctual}
use Rattle.exec_request.specs.declared.window.{Opcode.Opcode, Window.Window}
use Rattle.exec_ring.specs.{Landings.{Moves, MovesBy}, declared.{completion.Submission.Submission, landing.Unlawful.Unlawful, store.Store.Store}}
use Rattle.exec_waiters.{specs.{Events.Lands, Ids.user_data_of}, proofs.Fits.asked_after}

-- what came of a landing: the answer, the ring, and the requests with the store
pub record Landed {S F : Type 0} (d : Driving S F) (s' : Slab (Entry S F)) (ring' : RingState) (id : WaiterId) (given : OpResult) (answer : Result (Unit {0}) Unlawful) (st st' : Store) : Type 0 where
  pub answer_is : answer ≡ cond (may_land d.ring (user_data_of id.0) given) (Ok tt) (Err (record { 0 = user_data_of id.0; 1 = given }))
  pub ring_is : ring' ≡ cond (may_land d.ring (user_data_of id.0) given) (landed d.ring (user_data_of id.0) given) d.ring
  pub moved : OnOk answer ((w : Waiter S F) → request_at d id ≡ Some w → Lands d.requests s' id.0 w (flight_of d.ring (user_data_of id.0)) given st st')
  pub same : OnErr answer (s' ≡ d.requests)

-- bytes that move leave the deadline
moved_by : (kind : Opcode) (w : Window) (n : ℕ) (r r' : Request) (st st' : Store) → MovesBy kind w n r r' st st' → deadline_of r' ≡ deadline_of r
moved_by = grind (arith, deadline_same)

deadline_after : (flight : Option Submission) (given : OpResult) (r r' : Request) (st st' : Store) → Moves flight given r r' st st' → deadline_of r' ≡ deadline_of r
deadline_after = grind (arith, moved_by)

module _ {S F : Type 0} where
  abbrev moved_to : Waiter S F → Request → Waiter S F
  moved_to w request = record w { request = request }

  -- the bytes of one in flight moved
  held_moved : (d : Driving S F) (id : WaiterId) (w : Waiter S F) (request : Request) (room most spots : ℕ) → request_at d id ≡ Some w → w.in_flight ≡ true → asked_of request ≡ asked_of w.request → deadline_of request ≡ deadline_of w.request → IsHeld d room most spots → IsHeld (record d { requests = written d.requests id.0 (Pending (moved_to w request)) }) room most spots
  held_moved d id w request room most spots at flies asked dated held =
      held_alike d _ id (Some w) (Some (moved_to w request)) room most spots (one_changed d.requests id.0 w (moved_to w request) at) (rw flies refl) (rw flies refl) (rw flies refl) refl refl (ap (λ (b : Bool). w.in_flight && b) (permit_same w request asked)) (rw dated refl) (λ t. refl) refl refl refl held

  pub held_land : (d : Driving S F) (s' : Slab (Entry S F)) (ring' : RingState) (id : WaiterId) (given : OpResult) (answer : Result (Unit {0}) Unlawful) (st st' : Store) (room most spots : ℕ) → IsHeld d room most spots → is_flying (request_at d id) ≡ true → Landed d s' ring' id given answer st st' → IsHeld (record d { requests = s'; ring = ring' }) room most spots
  held_land d s' ring' id given answer st st' room most spots held flies so =
      elim (cases_Bool (may_land d.ring (user_data_of id.0) given)) [
        | inl may ↦
            let there = flying_there (request_at d id) flies in
            let one = (rw (rw may at so.answer_is) at so.moved) there.w there.is in
            let step = held_moved d id there.w one.request room most spots there.is there.flies (asked_after (Ok tt) _ given _ _ st st' one.moved tt) (deadline_after _ given _ _ st st' one.moved) held in
            rw (one.slab, rw may at so.ring_is) (held_ring (record d { requests = written d.requests id.0 (Pending (moved_to there.w one.request)) }) (landed d.ring (user_data_of id.0) given) d.landings room most spots (landed_within d.ring (user_data_of id.0) given may) step)
        | inr bars ↦ rw (rw (rw bars at so.answer_is) at so.same, rw bars at so.ring_is) held
      ]

  -- and keeps each deadline
  pub landed_punctual : (d : Driving S F) (s' : Slab (Entry S F)) (ring' : RingState) (id : WaiterId) (given : OpResult) (answer : Result (Unit {0}) Unlawful) (st st' : Store) → is_flying (request_at d id) ≡ true → Landed d s' ring' id given answer st st' → IsPunctual d → IsPunctual (record d { requests = s'; ring = ring' })
  landed_punctual d s' ring' id given answer st st' flies so punctual =
      elim (cases_Bool (may_land d.ring (user_data_of id.0) given)) [
        | inl may ↦
            let there = flying_there (request_at d id) flies in
            let one = (rw (rw may at so.answer_is) at so.moved) there.w there.is in
            let step = punctual_one d (record d { requests = written d.requests id.0 (Pending (moved_to there.w one.request)) }) id (Some there.w) (Some (moved_to there.w one.request)) (one_changed d.requests id.0 there.w (moved_to there.w one.request) there.is) (λ t is. is) refl refl punctual in
            rw one.slab (record { ahead = step.ahead })
        | inr bars ↦ rw (rw (rw bars at so.answer_is) at so.same) (record { ahead = punctual.ahead })
      ]
