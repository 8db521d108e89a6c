-- Each call keeps a driver punctual: whose deadline stands in the wheel is due, or comes out at its tick.
use Rattle.std.{proofs.Common.{zero, suc, ◌≡◌, ◌⊎◌, ℕ, ◌<◌, Bool, cond, List, [], ◌∷◌, set, slice_get, Option, Some, None, refl, inl, inr, arith}, specs.Option.IfSome}
use Rattle.exec_driver.{proofs.{Words.{Slab, value_at, written, TaskNo, Account, asks_cancel, cancelled, changed, waiter_in, tick_in, tick_of, Observer, Waiter, Entry, Pending, WaiterId, Driving, request_at, Ended, OpenState, cases_Bool}, Endings.one_changed, Serving.{keeps_one, keeps_punctual, like_unscheduled, eases_ended}}, specs.{Admission.with_rooms, Punctual.IsPunctual, Steps.{cancelled_at, cancelling, without_observer, let_go, ended}, Turns.made_way}}
use Rattle.exec_lists.proofs.Counting.{OneChanged, one_written, one_removed}
use Rattle.exec_opens.{proofs.Lines.placed_there, specs.Opens.{open_at, open_named, with_named, placed, writing}}
use Rattle.exec_base.specs.Slab.{removed}
use Rattle.exec_waiters.specs.Events.{taken, forwarded, with_observer, with_waker}

-- WHO WAS ADMITTED MAY JOIN

got_after : (opens : List OpenState) (n file : ℕ) (o : OpenState) → slice_get opens n ≡ Some o → IfSome (slice_get opens file) (λ p. 0 < p.coming) → IfSome (slice_get (set opens n (writing o)) file) (λ p. 0 < p.coming)
got_after [] n file o is some = absurd (cc)
got_after (x ∷ opens) zero zero o is some = let same : x ≡ o = cc in rw (← same) some
got_after (x ∷ opens) zero (suc file) o is some = some
got_after (x ∷ opens) (suc n) zero o is some = some
got_after (x ∷ opens) (suc n) (suc file) o is some = got_after opens n file o is some

-- a plain write of an open leaves the places in its line
still_there : (opens : List OpenState) (n file : ℕ) → IfSome (open_at opens file) (λ p. 0 < p.coming) → IfSome (open_at (with_named opens (Some n) writing) file) (λ p. 0 < p.coming)
still_there = grind (arith, got_after)

place_stays : (opens : List OpenState) (changed gate : Option ℕ) → IfSome (open_named opens gate) (λ p. 0 < p.coming) → IfSome (open_named (with_named opens changed writing) gate) (λ p. 0 < p.coming)
place_stays = grind (arith, changed, still_there)

-- its open has a place for it, or it needs none
pub place_made : (opens opens' : List OpenState) (gate changed named : Option ℕ) → opens' ≡ with_named (with_named opens gate placed) changed writing → (named ≡ gate) ⊎ (named ≡ None) → IfSome (open_named opens' named) (λ p. 0 < p.coming)
place_made opens opens' gate changed named is (inl same) = rw (is, same) (place_stays (with_named opens gate placed) changed gate (placed_there opens gate))
place_made opens opens' gate changed named is (inr none) = rw none tt

module _ {S F : Type 0} where
  -- who has no requests, and a change of neither requests, wheel nor what is due

  pub rooms_punctual : (d d' : Driving S F) → d' ≡ with_rooms d' d → IsPunctual d → IsPunctual d'
  rooms_punctual = grind arith

  -- one request changed whose deadline stays where it is, or goes, or that had none and has none
  pub punctual_one : (d d' : Driving S F) (id : WaiterId) (was is : Option (Waiter S F)) → OneChanged d.requests d'.requests id.0 was is → ((t : ℕ) → tick_of is ≡ Some t → tick_of was ≡ Some t) → d'.wheel ≡ d.wheel → d'.lists.due ≡ d.lists.due → IsPunctual d → IsPunctual d'
  punctual_one = grind arith

  -- WHO WAITS

  seen_by_others : (d : Driving S F) (id : WaiterId) (w : Waiter S F) (observer : Observer S F) → value_at d.requests id.0 ≡ Some (Pending w) → IsPunctual d → IsPunctual (record d { requests = written d.requests id.0 (Pending (with_observer observer w)) })
  seen_by_others d id w observer at punctual =
      punctual_one d _ id (Some w) (Some (with_observer observer w)) (one_written d.requests id.0 (Pending w) (Pending (with_observer observer w)) at) (λ t is. is) refl refl punctual

  taken_away : (d : Driving S F) (id : WaiterId) (e : Entry S F) → value_at d.requests id.0 ≡ Some e → IsPunctual d → IsPunctual (record d { requests = removed d.requests id.0 })
  taken_away d id e at punctual = punctual_one d _ id (waiter_in e) None (one_removed d.requests id.0 e at) (λ t is. absurd (cc)) refl refl punctual

  pub observed_punctual : (d : Driving S F) (id : WaiterId) → IsPunctual d → IsPunctual (record d { requests = taken d.requests id.0 })
  observed_punctual = grind (arith, value_at, taken_away)

  pub waked_punctual : (d : Driving S F) (id : WaiterId) (waker : TaskNo) → IsPunctual d → IsPunctual (record d { requests = changed d.requests id.0 (with_waker waker) })
  waked_punctual = grind (arith, value_at, seen_by_others)

  choose : (b : Bool) (d : Driving S F) (s s' : Slab (Entry S F)) → IsPunctual (record d { requests = s }) → IsPunctual (record d { requests = s' }) → IsPunctual (record d { requests = cond b s s' })
  choose = grind arith

  pub forwarded_punctual : (d : Driving S F) (id : WaiterId) (sender : F) → IsPunctual d → IsPunctual (record d { requests = forwarded d.requests id.0 sender })
  forwarded_punctual = grind (arith, value_at, choose, seen_by_others, taken_away)

  pub orphaned_punctual : (d : Driving S F) (id : WaiterId) → IsPunctual d → IsPunctual (without_observer d id)
  orphaned_punctual = grind (arith, value_at, choose, seen_by_others, taken_away)

  -- CANCELS

  cancelling_punctual : (d : Driving S F) (id : WaiterId) (w : Waiter S F) → request_at d id ≡ Some w → IsPunctual d → IsPunctual (cancelling d id w)
  cancelling_punctual d id w at =
      keeps_punctual d _ (keeps_one d _ id w (Some (cancelled w)) (one_changed d.requests id.0 w (cancelled w) at) (λ t no. absurd (cc)) (inr refl) (like_unscheduled d.wheel (tick_in w.state)) refl refl)

  pub ended_punctual : (d : Driving S F) (id : WaiterId) (w : Waiter S F) (how : Ended) (account : Option Account) → request_at d id ≡ Some w → IsPunctual d → IsPunctual (ended d id w how account)
  ended_punctual d id w how account at = keeps_punctual d _ (eases_ended d id w how account at).keeps

  pub cancelled_punctual : (d : Driving S F) (id : WaiterId) → IsPunctual d → IsPunctual (cancelled_at d id)
  cancelled_punctual = grind (arith, request_at, cases_Bool, ended_punctual, asks_cancel, cancelling_punctual)

  pub let_go_punctual : (d : Driving S F) (id : WaiterId) → IsPunctual d → IsPunctual (let_go d id)
  let_go_punctual d id punctual =
      let mid = orphaned_punctual d id punctual in
      grind (arith, cases_Bool, value_at, cancelled_punctual)

  -- a full queue that is entered first
  pub way_punctual : (d d' : Driving S F) → d' ≡ record (made_way d) { landings = d'.landings } → IsPunctual d → IsPunctual d'
  way_punctual = grind arith
