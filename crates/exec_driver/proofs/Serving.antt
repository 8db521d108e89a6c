-- What each step of a service keeps.
use Rattle.std.{proofs.Common.{◌≡◌, ◌≢◌, ◌⊎◌, ℕ, ◌+◌, ◌≤◌, Bool, true, false, List, [], ◌∷◌, ◌++◌, length, Option, Some, None, refl, sym, ap, subst, ◌∙◌, inl, inr, arith, length-append}, specs.Prelude.is_some}
use Rattle.exec_driver.{proofs.{Words.cases_Bool, Endings.{one_changed, one_finished}, Telling.{few_finished, room_left, room_within}}, specs.{Driving.{Driving, request_at}, Steps.{is_control, unscheduled, ended, noted, swept_from, taken_out, landed_at, queued_or_ended, told_by_end, Reaps}, Punctual.IsPunctual, Turns.{CanTell, GoesOn, Serves, StaysDone}, declared.driver.reaping.Reaped.Reaped}}
use Rattle.exec_lists.{proofs.{Names.same_tells, Counting.{OneChanged, pending_is}}, specs.Lists.{has_first, is_among, is_same, without}}
use Rattle.exec_base.specs.Slab.{written}
use Rattle.exec_outcomes.specs.{Accounts.Account, declared.outcome.OpResult.OpResult}
use Rattle.exec_request.specs.States.{Ended}
use Rattle.exec_ring.specs.{Kernels.reaped, declared.completion.Posted.Posted}
use Rattle.exec_time.specs.Wheel.{Wheel, removed}
use Rattle.exec_waiters.{specs.{Events.told_by_finish, States.{pending_count, tick_in, tick_of}, Told.{HasPlaces, Tells, nothing_told}, declared.{deferred.Deferred.Deferred, waiter.{Waiter.Waiter, Entry.TheVariants.Pending}, waiter_id.WaiterId.WaiterId}}, proofs.Changes.one_if}
use Rattle.exec_opens.specs.Opens.{OpenState}

-- a list without a name is empty where it was, and has every other that it had
pub none_without : (id : WaiterId) (ids : List WaiterId) → has_first ids ≡ false → has_first (without id ids) ≡ false
none_without = grind arith

pub among_others : (x id : WaiterId) (ids : List WaiterId) → x.0 ≢ id.0 → is_among x ids ≡ true → is_among x (without id ids) ≡ true
among_others x id [] apart among = among
among_others x id (y ∷ ids) apart among =
    elim (same_tells y id) [
      | inl same ↦ rw same.0 (among_others x id ids apart (elim (same_tells y x) [ inl is ↦ absurd (apart (ap (λ (n : WaiterId). n.0) (sym is.1 ∙ same.1))) | inr other ↦ rw other.0 at among ]))
      | inr other ↦ rw other.0 (elim (cases_Bool (is_same y x)) [ inl is ↦ rw is refl | inr differs ↦ rw differs (among_others x id ids apart (rw differs at among)) ])
    ]

-- a wheel with the same entries in its buckets
pub record IsLike (w w' : Wheel) : Type 0 where
  pub current : w'.current ≡ w.current
  pub bucket : w'.bucket ≡ w.bucket
  pub slots : w'.slots ≡ w.slots

pub like_unscheduled : (w : Wheel) (tick : Option ℕ) → IsLike w (unscheduled w tick)
unfolding removed
like_unscheduled = grind arith

same_long : {A : Type 0} (a b : List A) → b ≡ a ++ [] → length b ≤ length a
same_long a b is = let long = ap length is ∙ length-append a [] in omega (arith, long)

pub at_most_one : (b : Bool) → one_if b ≤ 1
at_most_one = grind arith

module _ {S F : Type 0} where
  pub goes_itself : (d : Driving S F) → GoesOn d d
  goes_itself d = record { pending = omega arith; punctual = λ p. p; size = refl; free = λ b. b }

  pub goes_both : (d e f : Driving S F) → GoesOn d e → GoesOn e f → GoesOn d f
  goes_both = grind arith

  pub serves_itself : (d : Driving S F) (told : Deferred S F) → Serves d d told told
  serves_itself d told = record { going = goes_itself d; room = λ r. r }

  pub serves_both : (d e f : Driving S F) (x y z : Deferred S F) → Serves d e x y → Serves e f y z → Serves d f x z
  serves_both d e f x y z one other = record { going = goes_both d e f one.going other.going; room = λ r. other.room (one.room r) }

  pub done_itself : (d : Driving S F) → StaysDone d d
  done_itself d = record { due = λ n. n; enrolments = λ n. n; cancels = λ n. n }

  pub done_both : (d e f : Driving S F) → StaysDone d e → StaysDone e f → StaysDone d f
  done_both = grind arith

  -- WHAT IS TOLD

  pub room_still : (d d' : Deferred S F) (n m : ℕ) → Tells d d' nothing_told → m ≤ n → HasPlaces d (n + 1) → HasPlaces d' (m + 1)
  room_still = grind (arith, same_long)

  -- WHAT A STEP CHANGES

  -- No deadline comes into the wheel, and none is forgotten.
  pub record Keeps (d d' : Driving S F) : Type 0 where
    pub pending : pending_count d'.requests ≤ pending_count d.requests
    pub ticks : (id : WaiterId) (t : ℕ) → tick_of (request_at d' id) ≡ Some t → tick_of (request_at d id) ≡ Some t
    pub due : (id : WaiterId) (t : ℕ) → tick_of (request_at d' id) ≡ Some t → is_among id d.lists.due ≡ true → is_among id d'.lists.due ≡ true
    pub wheel : IsLike d.wheel d'.wheel
    pub size : d'.ring.size ≡ d.ring.size
    pub free : d.ring.busy ≡ false → d'.ring.busy ≡ false

  pub keeps_both : (d e f : Driving S F) → Keeps d e → Keeps e f → Keeps d f
  keeps_both = grind arith

  -- a change of neither requests, wheel nor what is due
  pub keeps_still : (d d' : Driving S F) → d'.requests ≡ d.requests → d'.wheel ≡ d.wheel → d'.lists.due ≡ d.lists.due → d'.ring.size ≡ d.ring.size → (d.ring.busy ≡ false → d'.ring.busy ≡ false) → Keeps d d'
  keeps_still = grind arith

  -- one request changed, and its deadline stays where it is, or goes
  pub keeps_one : (d d' : Driving S F) (id : WaiterId) (w : Waiter S F) (is : Option (Waiter S F)) → OneChanged d.requests d'.requests id.0 (Some w) is → ((t : ℕ) → tick_of is ≡ Some t → (tick_in w.state ≡ Some t) × (d'.lists.due ≡ d.lists.due)) → (d'.lists.due ≡ d.lists.due) ⊎ (d'.lists.due ≡ without id d.lists.due) → IsLike d.wheel d'.wheel → d'.ring.size ≡ d.ring.size → d'.ring.busy ≡ d.ring.busy → Keeps d d'
  keeps_one d d' id w is one at due wheel size busy =
      record {
        pending = let n = one.numbers is_some refl in omega (arith, n, at_most_one (is_some is), pending_is d.requests, pending_is d'.requests);
        ticks = grind arith;
        due = grind (arith, same_tells, among_others);
        wheel = wheel;
        size = size;
        free = λ b. busy ∙ b;
      }

  -- so each deadline in the wheel is kept
  pub keeps_punctual : (d d' : Driving S F) → Keeps d d' → IsPunctual d → IsPunctual d'
  keeps_punctual = grind arith

  pub goes_by : (d d' : Driving S F) → Keeps d d' → GoesOn d d'
  goes_by d d' keeps = record { pending = keeps.pending; punctual = keeps_punctual d d' keeps; size = keeps.size; free = keeps.free }

  pub serves_by : (d d' : Driving S F) (x y : Deferred S F) → Keeps d d' → (CanTell d x → CanTell d' y) → Serves d d' x y
  serves_by d d' x y keeps room = record { going = goes_by d d' keeps; room = room }

  -- and what was done with is done with
  pub record Eases (d d' : Driving S F) : Type 0 where
    pub keeps : Keeps d d'
    pub done : StaysDone d d'

  pub eases_both : (d e f : Driving S F) → Eases d e → Eases e f → Eases d f
  eases_both d e f one other = record { keeps = keeps_both d e f one.keeps other.keeps; done = done_both d e f one.done other.done }

  -- a change of the ring alone
  pub eases_ring : (d d' : Driving S F) → d'.requests ≡ d.requests → d'.wheel ≡ d.wheel → d'.lists ≡ d.lists → d'.ring.size ≡ d.ring.size → (d.ring.busy ≡ false → d'.ring.busy ≡ false) → Eases d d'
  eases_ring = grind arith

  pub eases_is : (d x d' : Driving S F) → d' ≡ record x { landings = d'.landings } → Eases d x → Eases d d'
  eases_is d x d' is eases = subst (λ (e : Driving S F). Eases d e) (sym is) (eases_both d x (record x { landings = d'.landings }) eases (eases_ring x (record x { landings = d'.landings }) refl refl refl refl (λ b. b)))

  -- one request is written whose deadline stays where it is
  pub eases_written : (d d' : Driving S F) (id : WaiterId) (w w' : Waiter S F) → request_at d id ≡ Some w → w'.state ≡ w.state → d'.requests ≡ written d.requests id.0 (Pending w') → d'.wheel ≡ d.wheel → d'.lists.due ≡ d.lists.due → d'.lists.enrolments ≡ d.lists.enrolments → d'.lists.cancels ≡ d.lists.cancels → d'.ring.size ≡ d.ring.size → d'.ring.busy ≡ d.ring.busy → Eases d d'
  eases_written d d' id w w' at state requests wheel due enrolments cancels size busy =
      record {
        keeps = keeps_one d d' id w (Some w') (rw requests (one_changed d.requests id.0 w w' at)) (λ t is. (ap tick_in (sym state) ∙ is, due)) (inl due) (rw wheel (record { current = refl; bucket = refl; slots = refl })) size busy;
        done = record { due = λ n. rw due n; enrolments = λ n. rw enrolments n; cancels = λ n. rw cancels n };
      }

  pub eases_ended : (d : Driving S F) (id : WaiterId) (w : Waiter S F) (how : Ended) (account : Option Account) → request_at d id ≡ Some w → Eases d (ended d id w how account)
  eases_ended d id w how account at =
      record {
        keeps = keeps_one d (ended d id w how account) id w None (one_finished d.requests id.0 w how account at) (λ t is. absurd (cc)) (inr refl) (like_unscheduled d.wheel (tick_in w.state)) refl refl;
        done = record { due = none_without id d.lists.due; enrolments = none_without id d.lists.enrolments; cancels = none_without id d.lists.cancels };
      }

  -- one fewer is to be told of
  pub room_ended : (d : Driving S F) (id : WaiterId) (w : Waiter S F) (how : Ended) (account account' : Option Account) (x y : Deferred S F) → request_at d id ≡ Some w → Tells x y (told_by_finish id.0 w how account') → CanTell d x → CanTell (ended d id w how account) y
  room_ended d id w how account account' x y at tells room =
      let n = (one_finished d.requests id.0 w how account at).numbers is_some refl in
      room_left _ _ x y _ (omega (arith, n, pending_is d.requests, pending_is (ended d id w how account).requests)) (few_finished id.0 w how account') tells room

  -- COMPLETIONS

  pub eases_swept : (ps : List Posted) (d : Driving S F) → Eases d (swept_from ps d)
  eases_swept [] d = eases_ring d (swept_from [] d) refl refl refl refl (λ b. b)
  eases_swept (p ∷ ps) d =
      elim (cases_Bool (is_control p.completion)) [
        | inl holds ↦ rw holds (eases_both d (noted p.completion d) _ (eases_ring d (noted p.completion d) refl refl refl refl (λ b. b)) (eases_swept ps (noted p.completion d)))
        | inr fails ↦ rw fails (eases_ring d _ refl refl refl refl (λ b. b))
      ]

  pub eases_judged : (d : Driving S F) (id : WaiterId) (w : Waiter S F) (answer : Option Ended) (account : Option Account) → request_at d id ≡ Some w → Eases d (queued_or_ended d id w answer account)
  eases_judged = grind (arith, keeps_still, eases_ended)

  pub room_judged : (d : Driving S F) (id : WaiterId) (w : Waiter S F) (answer : Option Ended) (account : Option Account) (x y : Deferred S F) → request_at d id ≡ Some w → Tells x y (told_by_end id w answer account) → CanTell d x → CanTell (queued_or_ended d id w answer account) y
  room_judged d id w None account x y at tells room = room_still x y _ _ tells (omega arith) room
  room_judged d id w (Some how) account x y at tells room = room_ended d id w how account account x y at tells room

  -- what was done with is done with, and there is room to tell
  pub record Answers (d d' : Driving S F) (x y : Deferred S F) : Type 0 where
    pub eases : Eases d d'
    pub room : CanTell d x → CanTell d' y

  pub reaps_ring : (d d' : Driving S F) (opens opens' : List OpenState) (x y : Deferred S F) (id : WaiterId) (w : Waiter S F) (given : OpResult) (told : Option Reaped) → Reaps d d' opens opens' x y id w given told → d'.ring ≡ reaped d.ring
  reaps_ring = grind arith

  pub after_reap : (d d' : Driving S F) (opens opens' : List OpenState) (x y : Deferred S F) (id : WaiterId) (w : Waiter S F) (given : OpResult) (told : Option Reaped) → request_at d id ≡ Some w → Reaps d d' opens opens' x y id w given told → Answers d d' x y
  after_reap d d' opens opens' x y id w given told at r =
      let w' : Waiter S F = record w { in_flight = false; request = r.request } in
      let e = landed_at (taken_out d) id w' in
      let first = eases_written d e id w w' at refl refl refl refl refl refl refl refl in
      let there : request_at e id ≡ Some w' = (one_changed d.requests id.0 w w' at).is_at in
      let last = eases_judged e id w' r.answer _ there in
      record {
        eases = eases_is d _ d' r.driver (eases_both d e _ first last);
        room = λ room. subst (λ (f : Driving S F). CanTell f y) (sym r.driver) (room_judged e id w' r.answer _ x y there r.tells (room_within _ _ x (omega (arith, first.keeps.pending)) room));
      }
