-- The step of a worker, as far as tasks are woken next, or hear what was sent to them.
use Rattle.std.{proofs.{Common.{◌≡◌, ◌≢◌, ℕ, ◌<◌, Bool, true, false, not, ◌&&◌, ◌||◌, length, Some, sym, ap, ◌∙◌, subst, inl, inr, arith}, lemmas.Bool.{true≢false, cases_eq}}, specs.Prelude.◌⊎◌}
use Rattle.exec_outcomes.specs.declared.outcome.Outcome.{Outcome}
use Rattle.exec_machine.specs.{declared.{config.Configuration.Configuration, state.{Forwarding.{Forwarding, Forwarding as forwarding}, TaskPhase.TaskPhase, MailMessage.MailMessage as message, Waiting.Waiting as waiting}, event.Event.Event as event, step.Action.Action as action}, After.common_after, Allowed.Allowed, Callers.is_enabled, Progress.is_runnable, Tasks.{begun_waiting, may_stop}, Tests.{has_ended, is_done, is_ready, is_unsent, waits_for_nothing}, World.{Common, Own as Books, Seat, own_of, seat_of, task_of}}
use Rattle.exec_moves.specs.{declared.{handing.{AfterCallbacks.AfterCallbacks, Heard.Heard}, place.{InCallbacks.InCallbacks, InPoll.InPoll, Place.Place}}, Plays.{Playing, by_move, desk_of}, Poll.{after_begin, is_noted}, Seen.polls_at, State.{Desk, Moved, Things}, Told.has_number}
use Rattle.exec_rest.{specs.Rested.{IsLaidOut, place_at}, proofs.{FactsA.seated, Frames.{desk_other, desk_own}}}
use Rattle.exec_settled.{specs.{Awaited.{IsToBeWoken, IsToHear}, Given.WaitsFor}, proofs.{AwaitedRequests.{Roused, got, got_timer, there, wakes_it}, AwaitedTasks.{Tasked, is_for_thing, tasked}, Tells.Tells}}

runs_by : (p : TaskPhase) → (is_ready p || is_noted p) ≡ true → is_runnable p ≡ true
runs_by = grind arith

-- who waits here for what is over may not end its poll
pub stops_not : (f : Forwarding) (b r : Bool) → f ≡ forwarding.Unsent → r ≡ true → (not (is_unsent f) || (b && not r)) ≡ false
stops_not = grind arith

module _ (c : Configuration) (x : Playing) (laid : IsLaidOut c x) (i : ℕ) (m : Moved Things) (may : is_enabled x.world.common (action.Work i) ≡ true)
    (allows : Allowed c (own_of x.world i) x.world.common i m.event m.choice)
    (born : (t k : ℕ) → m.event ≡ event.Dedicated t k → k ≡ length x.world.common.seats)
    (tells : Tells i x.world.common (desk_of c x i) x.things m (common_after c (own_of x.world i) x.world.common i m.event m.choice)) where
  abbrev s : Common
  s = x.world.common

  abbrev me : Books
  me = own_of x.world i

  abbrev late : Common
  late = common_after c (own_of x.world i) x.world.common i m.event m.choice

  abbrev next : Playing
  next = (by_move c x i m).next

  -- DESKS

  going : has_ended (seat_of s i).phase ≡ false
  going = grind arith

  pub desk_here : desk_of c next i ≡ m.desk
  desk_here = desk_own c x i m (subst (λ n. i < n) (sym laid.desks) (seated s (λ (seat : Seat). has_ended seat.phase) false true≢false i going))

  pub desk_there : (j : ℕ) → j ≢ i → desk_of c next j ≡ desk_of c x j
  desk_there j apart = desk_other c x i m (λ t k is. born t k is ∙ sym laid.desks) j apart

  pub desk_then : (P : Desk → Type 0) (w : ℕ) → (w ≡ i → P m.desk) → (w ≢ i → P (desk_of c x w)) → P (desk_of c next w)
  desk_then = grind (arith, cases_eq, desk_here, desk_there)

  -- TASKS

  pub at_task : (t : ℕ) → Tasked s i m.event t (task_of s t) (task_of late t)
  at_task t = tasked c me s i m.event m.choice allows t

  -- who is woken is so
  pub roused : (t : ℕ) → m.event ≡ event.Wake t → is_done (task_of late t).phase ≡ false → (is_ready (task_of late t).phase || is_noted (task_of late t).phase) ≡ true
  roused t is on =
      let it : Roused (task_of late t) = subst (λ e. Allowed c me s i e m.choice → Roused (task_of (common_after c me s i e m.choice) t)) (sym is) (wakes_it c me s i t m.choice) allows in
      elim it [ inl h ↦ h | inr done ↦ absurd (true≢false (sym done ∙ on)) ]

  -- who was to be woken is so still
  pub still_woken : (w t : ℕ) → is_done (task_of late t).phase ≡ false → may_stop s i (task_of s t).waiting ≡ false → IsToBeWoken c x w t → IsToBeWoken c next w t
  still_woken w t on stays (inl runs) = elim ((at_task t).runnable runs) [
    | inl still ↦ inl still
    | inr (inl done) ↦ absurd (true≢false (sym done ∙ on))
    | inr (inr pends) ↦ absurd (true≢false (sym pends.1 ∙ stays))
  ]
  still_woken w t on stays (inr has) =
      desk_then (λ d. (is_runnable (task_of late t).phase ≡ true) ⊎ (has_number t d.wakes ≡ true)) w
      (λ here. elim (tells.wakes t (subst (λ j. has_number t (desk_of c x j).wakes ≡ true) here has)) [
        | inl still ↦ inr still
        | inr wakes ↦ inl (runs_by (task_of late t).phase (roused t wakes on))
      ])
      (λ apart. inr has)

  -- who was sent something hears it still, where worker i doesn't take it
  pub still_hears : (w t : ℕ) (of : Heard) → is_done (task_of late t).phase ≡ false → after_begin (begun_waiting (task_of s t).waiting) ≡ InPoll.Resume
      → (place_at c x i ≡ Place.Poll t InPoll.Resume → ⊥) → IsToHear c x w t of → IsToHear c next w t of
  still_hears w t of on looks takes (inl wakes) =
      desk_then (λ d. ((n : AfterCallbacks) × (d.place ≡ Place.Callbacks (InCallbacks.WakeWaiter t of) n))
      ⊎ (((is_ready (task_of late t).phase || is_noted (task_of late t).phase) ≡ true) ⊎ ((j : ℕ) × (place_at c next j ≡ Place.Poll t InPoll.Resume)))) w
      (λ here. inr (inl (roused t (tells.waking t of wakes.0 (subst (λ j. place_at c x j ≡ Place.Callbacks (InCallbacks.WakeWaiter t of) wakes.0) here wakes.1)) on)))
      (λ apart. inl wakes)
  still_hears w t of on looks takes (inr (inl noted)) = elim ((at_task t).noticed noted) [
    | inl still ↦ inr (inl still)
    | inr (inl done) ↦ absurd (true≢false (sym done ∙ on))
    | inr (inr begins) ↦ inr (inr (i, ap (λ (d : Desk). d.place) desk_here ∙ tells.begins t begins ∙ ap (λ p. Place.Poll t p) looks))
  ]
  still_hears w t of on looks takes (inr (inr at)) = grind (arith, cases_eq, desk_there)

  -- who is woken next by worker i hears it
  pub hears_next : (t : ℕ) (of : Heard) → ((n : AfterCallbacks) × (m.desk.place ≡ Place.Callbacks (InCallbacks.WakeWaiter t of) n)) → IsToHear c next i t of
  hears_next t of wakes = inl (wakes.0, ap (λ (d : Desk). d.place) desk_here ∙ wakes.1)

  -- WHO WAITS

  -- a task that waits for a request did so before, or begins to
  pub for_request : (t k : ℕ) → WaitsFor late t (waiting.Request k) → WaitsFor s t (waiting.Request k) ⊎ ((m.event ≡ event.Wait (Some k)) ⊎ ((to : ℕ) × (m.event ≡ event.Send to (message.ForwardRequest k))))
  for_request t k w = elim ((at_task t).for_request k w.going w.waits) [
    | inl was ↦ inl (record {
      going = elim ((at_task t).going w.going) [ inl on ↦ on | inr none ↦ absurd (true≢false (sym (ap is_for_thing w.waits) ∙ ap is_for_thing none)) ];
      waits = was;
    })
    | inr begins ↦ inr begins
  ]

  pub for_timer : (t z : ℕ) → WaitsFor late t (waiting.Timer z) → WaitsFor s t (waiting.Timer z) ⊎ ((until : ℕ) × (m.event ≡ event.Timer z until))
  for_timer t z w = elim ((at_task t).for_timer z w.going w.waits) [
    | inl was ↦ inl (record {
      going = elim ((at_task t).going w.going) [ inl on ↦ on | inr none ↦ absurd (true≢false (sym (ap is_for_thing w.waits) ∙ ap is_for_thing none)) ];
      waits = was;
    })
    | inr begins ↦ inr begins
  ]

  -- worker i takes nothing that is waited for then
  module _ (t : ℕ) (on : is_done (task_of s t).phase ≡ false) (polls : me.polls ≡ polls_at (place_at c x i)) (at : place_at c x i ≡ Place.Poll t InPoll.Resume) where
    its_own : me.polls ≡ Some t
    its_own = polls ∙ ap polls_at at

    pub takes_request : (k q : ℕ) (o : Outcome) → (task_of s t).waiting ≡ waiting.Request k → m.event ≡ event.Got q o → (task_of late t).waiting ≡ waiting.Request k → ⊥
    takes_request k q o waits is still =
        let taken : (task_of late t).waiting ≡ waiting.Nothing = subst (λ e. (task_of (common_after c me s i e m.choice) t).waiting ≡ waiting.Nothing) (sym is) (got c me s i t m.choice its_own (there s t on) (ap waits_for_nothing waits) q o) in
        true≢false (sym (ap is_for_thing still) ∙ ap is_for_thing taken)

    pub takes_timer : (z q : ℕ) → (task_of s t).waiting ≡ waiting.Timer z → m.event ≡ event.GotTimer q → (task_of late t).waiting ≡ waiting.Timer z → ⊥
    takes_timer z q waits is still =
        let taken : (task_of late t).waiting ≡ waiting.Nothing = subst (λ e. (task_of (common_after c me s i e m.choice) t).waiting ≡ waiting.Nothing) (sym is) (got_timer c me s i t m.choice its_own (there s t on) (ap waits_for_nothing waits) q) in
        true≢false (sym (ap is_for_thing still) ∙ ap is_for_thing taken)
