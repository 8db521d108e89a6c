-- A step of a caller, the clock, the kernel or a peer leaves no permit with who sleeps: it leaves gates, opens and the places of workers, and
-- what waits for a permit or is over; and it takes no latch out.
use Rattle.std.proofs.{Common.{◌≡◌, ℕ, zero, suc, Bool, true, false, List, [], ◌∷◌, Option, Some, None, get_or, set, refl, sym, subst, arith}, lemmas.Bool.false≢true}
use Rattle.exec_outcomes.specs.declared.outcome.OpResult.{OpResult}
use Rattle.exec_machine.specs.{declared.{config.Configuration.Configuration, event.Event.Event, state.Request.Request, step.Action.{Action, Action as action}}, Callers.{after_going_on, after_wake_by_call}, Choice.Choice, Tests.is_gated, World.{Common, no_request, request_of, task_of}}
use Rattle.exec_moves.specs.{declared.handing.CallPlace.CallPlace, Call.{CallDesk, no_call}, MoveOfCaller.{call_on, call_wake}, Plays.{Playing, by_action, caller_of}, State.{Things, word_of}}
use Rattle.exec_rest.{specs.Rested.{IsLaidOut, is_latched, place_at}, proofs.{CallMoves.{call_heeds, wake_heeds}, Others.{beside, is_other, latch_then}}}
use Rattle.exec_settled.specs.{Given.gives_up, Permits.IsPermitted}
use Rattle.exec_machine.specs.declared.state.RequestPhase.TheVariants as phase

-- ONE REQUEST

record Still (x y : Request) : Type 0 where
  pub worker : y.worker ≡ x.worker
  pub target : y.operation.target ≡ x.operation.target
  pub gated : is_gated y.phase ≡ true → is_gated x.phase ≡ true
  pub gives : gives_up y ≡ true → gives_up x ≡ true

still : {x : Request} → Still x x
still = record { worker = refl; target = refl; gated = λ h. h; gives = λ h. h }

still_set : (rs : List Request) (r : ℕ) (y : Request) → Still (get_or rs r no_request) y → (k : ℕ) → Still (get_or rs k no_request) (get_or (set rs r y) k no_request)
still_set [] r y new k = still
still_set (x ∷ rs) zero y new zero = new
still_set (x ∷ rs) zero y new (suc k) = still
still_set (x ∷ rs) (suc r) y new zero = still
still_set (x ∷ rs) (suc r) y new (suc k) = still_set rs r y new k

-- WHAT SUCH A STEP LEAVES

record LeftAlone (c : Configuration) (x y : Playing) : Type 0 where
  pub gates : y.things.gates ≡ x.things.gates
  pub places : (j : ℕ) → place_at c y j ≡ place_at c x j
  pub latches : (j : ℕ) → is_latched c x j ≡ true → is_latched c y j ≡ true
  pub opens : y.world.common.opens ≡ x.world.common.opens
  pub requests : (k : ℕ) → Still (request_of x.world.common k) (request_of y.world.common k)

module _ (c : Configuration) (x y : Playing) (alone : LeftAlone c x y) where
  permitted_still : IsPermitted c x → IsPermitted c y
  permitted_still = grind arith

-- CALLERS: what their events leave of requests and opens

record Same (s t : Common) : Type 0 where
  pub requests : t.requests ≡ s.requests
  pub opens : t.opens ≡ s.opens

wake_same : (s : Common) (t : ℕ) (e : Event) (choice : Choice) → Same s (after_wake_by_call s t e choice)
wake_same = grind arith

going_same : (s : Common) (j : ℕ) (e : Event) → Same s (after_going_on s j e)
going_same = grind arith

-- no call comes to a gate
call_gates : (s : Common) (d : CallDesk) (x : Things) (p : CallPlace) → (call_on s d x p).thing.gates ≡ x.gates
call_gates = grind arith

wake_gates : (s : Common) (d : CallDesk) (x : Things) (t : ℕ) (home : Option ℕ) → (call_wake s d x t home).thing.gates ≡ x.gates
wake_gates = grind arith

-- whoever calls
wake_latches : (c : Configuration) (s : Common) (d : CallDesk) (x : Things) (t : ℕ) (home : Option ℕ) (j : ℕ) → (word_of x j).latch ≡ true → (word_of (call_wake s d x t home).thing j).latch ≡ true
wake_latches c s d x t None j h = h
wake_latches c s d x t (Some home) j h = (wake_heeds c s no_call x refl t (Some home)).latch_kept j h

of_same : {rs rs' : List Request} → rs' ≡ rs → (k : ℕ) → Still (get_or rs k no_request) (get_or rs' k no_request)
of_same {rs} is k = subst (λ ys. Still (get_or rs k no_request) (get_or ys k no_request)) (sym is) still

-- EACH STEP

module _ (c : Configuration) (x : Playing) (laid : IsLaidOut c x) where
  abbrev s : Common
  s = x.world.common

  -- what lands was neither waiting for a permit nor over, and isn't then
  lands : (r : ℕ) (n : OpResult) (k : ℕ) → Still (request_of s k) (get_or (set s.requests r (record (request_of s r) { phase = phase.Landed n })) k no_request)
  lands r n = still_set s.requests r _ (record { worker = refl; target = refl; gated = λ h. absurd (false≢true h); gives = λ h. absurd (false≢true h) })

  by_event : (a : Action) → is_other a ≡ true → (by_action c x a).next.things.gates ≡ x.things.gates → (by_action c x a).next.world.common.opens ≡ s.opens
      → ((k : ℕ) → Still (request_of s k) (request_of (by_action c x a).next.world.common k)) → LeftAlone c x (by_action c x a).next
  by_event = grind (arith, beside, latch_then)

  -- a step that is no worker's
  abbrev pub is_aside : Action → Bool
  is_aside (action.Work i) = false
  is_aside _ = true

  alone : (a : Action) → is_aside a ≡ true → LeftAlone c x (by_action c x a).next
  alone (action.Work i) aside = absurd (false≢true aside)
  alone (action.Spawn j k) aside = grind arith
  alone (action.Wake j t) aside =
      let home = (task_of s t).home in
      let d = caller_of x j in
      let m = call_wake s d x.things t home in
      let it = wake_same s t m.event m.choice in
      record {
        gates = wake_gates s d x.things t home;
        places = λ j. refl;
        latches = wake_latches c s d x.things t home;
        opens = it.opens;
        requests = of_same it.requests;
      }
  alone (action.GoOn j) aside =
      let d = caller_of x j in
      let m = call_on s d x.things d.place in
      let it = going_same s j m.event in
      record {
        gates = call_gates s d x.things d.place;
        places = λ j. refl;
        latches = (call_heeds c s d x.things d.place refl).latch_kept;
        opens = it.opens;
        requests = of_same it.requests;
      }
  alone (action.Clock d) aside = by_event (action.Clock d) refl refl refl (λ k. still)
  alone (action.Land r n) aside = by_event (action.Land r n) refl refl refl (lands r n)
  alone (action.SetBusy i) aside = by_event (action.SetBusy i) refl refl refl (λ k. still)
  alone (action.EndPoll i) aside = by_event (action.EndPoll i) refl refl refl (λ k. still)
  alone (action.Stir i) aside = by_event (action.Stir i) refl refl refl (λ k. still)
  alone (action.Peer l) aside = by_event (action.Peer l) refl refl refl (λ k. still)

  pub permitted_aside : (a : Action) → is_aside a ≡ true → IsPermitted c x → IsPermitted c (by_action c x a).next
  permitted_aside a aside before = permitted_still c x (by_action c x a).next (alone a aside) before
