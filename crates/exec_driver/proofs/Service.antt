-- The steps of a service, as its parts make them.
use Rattle.std.{proofs.{Common.{◌≡◌, ℕ, ◌+◌, ◌^◌, ◌<◌, Bool, true, false, not, ◌&&◌, ◌||◌, cond, List, [], Option, Some, None, refl, sym, ap, subst, ◌∙◌, inl, inr, arith}, lemmas.Bool.false≢true}, specs.{Prelude.is_none, Option.{IfSome, IfNone, SomeIff}}}
use Rattle.exec_time.specs.Turning.{advanced}
use Rattle.exec_waiters.specs.{States.file_of, Told.Tells, declared.{deferred.Deferred.Deferred, waiter.Waiter.Waiter, waiter_id.WaiterId.WaiterId}}
use Rattle.exec_driver.{specs.{Driving.{Driving, request_at, is_full, may_stage_one, has_pending}, Examples.idle, Placed.Says, Service.{permit_by, Repeats, NoStep, OneMore, Passes, reached, ExpiresOne, EnrolsOne, GrantsAt, Turn, NoTurn, StagesEntry, StagesOneEntry, Cancel, Request, WakePoll, Staged, Parks, Refused, Waited, NoGate, ServesInOrder, entered_if}, Steps.{Grants, Enrols, StagesOne, is_turn_of, expired, told_by_cancel, cancel_staged, poll_staged, with_landings}, declared.driver.{staging.Granted.Granted, timing.Enrolled.Enrolled}, Turns.{made_way, may_wait, finds_busy}}, proofs.{Stepping.no_first, Turns.{none_staged, way_may}, Words.{cases_Bool, and_parts, and_from}}}
use Rattle.exec_lists.specs.Lists.{has_first, first_of}
use Rattle.exec_opens.specs.Opens.{OpenState, account_in, holder_at}

module _ {A : Type 0} (Step : A → A → Type 0) where
  pub repeats_both : (a b c : A) → Repeats Step a b → Repeats Step b c → Repeats Step a c
  repeats_both a b c one NoStep = one
  repeats_both a b c one (OneMore x y rest step) = OneMore x y (repeats_both a b x one rest) step

pub none_added : (a : ℕ) (o : Option ℕ) → SomeIff o (a + 1 < 2 ^ 32) (a + 1) → o ≡ None → a + 1 < 2 ^ 32 → ⊥
none_added = grind arith

-- no wait where something is pending, or where the poll has no room
pub may_pending : (pending room : Bool) → pending ≡ true → (not pending && room) ≡ false
may_pending = grind arith

pub may_poll : (pending room : Bool) → room ≡ false → (not pending && room) ≡ false
may_poll = grind arith

-- a word that is left alone keeps its signal, and any other has none
pub signal_left : (signal may : Bool) → may ≡ false → signal ≡ (signal && not may)
signal_left = grind arith

pub signal_out : (old set new may calm caught waits busy : Bool) → may ≡ true → calm ≡ (not old && caught) → set ≡ old → waits ≡ (calm && not busy) → new ≡ (set && waits) → new ≡ (old && not may)
signal_out = grind arith

-- a worker waits where its word is calm and the kernel isn't busy
pub waits_by : (waits calm is busy found : Bool) → waits ≡ (calm && not busy) → calm ≡ is → busy ≡ found → waits ≡ (is && not found)
waits_by = grind arith

pub waits_so : (waits calm busy : Bool) → waits ≡ (calm && not busy) → waits ≡ true → (calm ≡ true) × (busy ≡ false)
waits_so = grind arith

-- the open whose permit is given up after a grant
abbrev pub permit_granted : ℕ → Option Granted → Option ℕ
permit_granted file None = None
permit_granted file (Some g) = permit_by file g

module _ {S F : Type 0} where
  pub grants_passed : (worker file : ℕ) (d d' : Driving S F) (opens mid opens' : List OpenState) (x y : Deferred S F) (s s' : Option (List ℕ)) (o : Option Granted) (p : Option ℕ) → Says d' → permit_granted file o ≡ p → IfSome o (λ g. Grants d d' opens mid x y worker file g) → IfNone o (is_turn_of worker d.lists (holder_at opens file) ≡ false) → IfNone o ((d' ≡ d) × (mid ≡ opens) × (y ≡ x)) → Passes p mid opens' s s' → GrantsAt worker file (reached d opens x s) (reached d' opens' y s')
  grants_passed worker file d d' opens mid opens' x y s s' None None says is some none same passes = NoTurn none (rw (same.0, same.2, passes.0, passes.1, same.1) refl)
  grants_passed worker file d d' opens mid opens' x y s s' None (Some p) says is some none same passes = absurd (cc)
  grants_passed worker file d d' opens mid opens' x y s s' (Some g) p says is some none same passes = Turn mid g says some (rw is passes)

  pub expires_one : (d d' : Driving S F) (x y : Deferred S F) (o : Option WaiterId) → Says d' → has_first d.lists.due ≡ true → o ≡ first_of d.lists.due → IfSome o (λ id. d' ≡ expired d id) → IfSome o (λ id. Tells x y (told_by_cancel id (request_at d id))) → ExpiresOne (d, x) (d', y)
  expires_one = grind (arith, no_first)

  pub enrols_one : (now : ℕ) (d d' : Driving S F) (x y : Deferred S F) (o : Option Enrolled) → Says d' → has_first d.lists.enrolments ≡ true → IfSome o (λ e. first_of d.lists.enrolments ≡ Some e.id) → IfNone o (first_of d.lists.enrolments ≡ None) → IfSome o (λ e. Enrols d d' x y e.id e.ended now) → EnrolsOne now (d, x) (d', y)
  enrols_one = grind (arith, no_first)

  -- STAGING

  pub cancel_entry : (opens : List OpenState) (d d' : Driving S F) (o : Option WaiterId) → is_full d ≡ false → is_none o ≡ false → o ≡ first_of d.lists.cancels → IfSome o (λ id. d' ≡ with_landings d' (cancel_staged d id)) → StagesEntry opens d d'
  cancel_entry opens d d' None room some first is = absurd (false≢true (sym some))
  cancel_entry opens d d' (Some id) room some first is = Cancel id room (sym first) is

  request_here : (opens : List OpenState) (d d' : Driving S F) (p : Option WaiterId) → is_full d ≡ false → first_of d.lists.cancels ≡ None → may_stage_one d ≡ true → p ≡ first_of d.lists.queued → IfSome p (λ id. (w : Waiter S F) → request_at d id ≡ Some w → StagesOne d d' id w (account_in opens (file_of w.request))) → StagesEntry opens d d'
  request_here opens d d' None room none may next staged = absurd (no_first d.lists.queued (and_parts _ _ may).0 (sym next))
  request_here opens d d' (Some id) room none may next staged = Request id room none may (sym next) staged

  pub request_entry : (opens : List OpenState) (d e d' : Driving S F) (o p : Option WaiterId) → is_full d ≡ false → is_none o ≡ true → o ≡ first_of d.lists.cancels → IfNone o (e ≡ d) → (has_first d.lists.cancels || may_stage_one d) ≡ true → p ≡ first_of e.lists.queued → IfSome p (λ id. (w : Waiter S F) → request_at e id ≡ Some w → StagesOne e d' id w (account_in opens (file_of w.request))) → StagesEntry opens d d'
  request_entry opens d e d' None p room none first is some next staged =
      let mid = none_staged d e None none first is some in
      subst (λ (x : Driving S F). StagesEntry opens x d') mid.0 (request_here opens e d' p (ap (λ (x : Driving S F). is_full x) mid.0 ∙ room) (ap (λ (x : Driving S F). first_of x.lists.cancels) mid.0 ∙ sym first) (ap (λ (x : Driving S F). may_stage_one x) mid.0 ∙ mid.1) next staged)
  request_entry opens d e d' (Some id) p room none first is some next staged = absurd (false≢true none)

  pub poll_entry : (opens : List OpenState) (first d d' : Driving S F) → Says d' → Repeats (StagesOneEntry opens) first d → has_first d.lists.cancels ≡ false → may_stage_one d ≡ false → ((d.armed || is_full d) ≡ true → d' ≡ d) → d' ≡ with_landings d' (cond d.armed d (cond (is_full d) d (poll_staged d))) → Repeats (StagesOneEntry opens) first d'
  poll_entry opens first d d' says before cancels queued same is =
      elim (cases_Bool d.armed) [
        | inl armed ↦ subst (λ (x : Driving S F). Repeats (StagesOneEntry opens) first x) (sym (same (rw armed refl))) before
        | inr calm ↦
            elim (cases_Bool (is_full d)) [
              | inl full ↦ subst (λ (x : Driving S F). Repeats (StagesOneEntry opens) first x) (sym (same (rw (calm, full) refl))) before
              | inr room ↦ OneMore d d' before (WakePoll room cancels queued calm (rw (calm, room) at is), says)
            ]
      ]

  -- PARK

  pub may_after : (d e : Driving S F) → e ≡ with_landings e (made_way d) → has_pending e ≡ false → (e.armed || not (is_full e)) ≡ true → may_wait d ≡ true
  may_after d e way calls room = way_may d e way ∙ and_from _ _ (ap not calls) room

  -- a wait finds the kernel as it is once a full queue was entered
  pub busy_found : (d e f : Driving S F) → e ≡ with_landings e (made_way d) → f ≡ with_landings f (cond e.armed e (cond (is_full e) e (poll_staged e))) → f.ring.busy ≡ finds_busy d
  busy_found d e f way polls = out (is_full e) e.armed polls ∙ ap (λ (x : Driving S F). x.ring.busy) way
    where
      out : (full armed : Bool) → f ≡ with_landings f (cond armed e (cond full e (poll_staged e))) → f.ring.busy ≡ e.ring.busy
      out = grind arith

  pub pending_refused : (calm : Bool) (d e : Driving S F) → Says d → e ≡ with_landings e (made_way d) → has_pending e ≡ true → Says e → Parks calm d e
  pending_refused calm d e first way pending says = Refused first (way_may d e way ∙ ap (λ (b : Bool). not b && (e.armed || not (is_full e))) pending) way says

  pub waited : (calm : Bool) (d e f d' : Driving S F) → Says d → e ≡ with_landings e (made_way d) → Says e → has_pending e ≡ false → (e.armed || not (is_full e)) ≡ true → f ≡ with_landings f (cond e.armed e (cond (is_full e) e (poll_staged e))) → Says f → d' ≡ with_landings d' (entered_if calm f) → Says d' → Parks calm d d'
  waited calm d e f d' first way says calls room polls polled enters last = Waited e f first (may_after d e way calls room) way says (out (is_full e) e.armed polls room) polled enters last
    where
      out : (full armed : Bool) → f ≡ with_landings f (cond armed e (cond full e (poll_staged e))) → (armed || not full) ≡ true → f ≡ with_landings f (cond armed e (poll_staged e))
      out = grind arith

says_polled : Says (poll_staged idle)
says_polled = record { permitted = grind arith; lists = grind arith; dated = grind arith; lands = tt }

-- A service of a driver without requests stages the wake poll, and makes no other step.
pub idle_served : (told : Deferred ℕ ℕ) → ServesInOrder 3 0 false false (reached idle [] told None) (reached (poll_staged idle) [] told None)
unfolding advanced
idle_served told =
    record {
      says = record { permitted = grind arith; lists = grind arith; dated = grind arith; lands = tt };
      reaped = reached idle [] told None;
      reaps = NoStep;
      quiet = refl;
      says_turned = record { permitted = grind arith; lists = grind arith; dated = grind arith; lands = tt };
      expired = (idle, told);
      expires = NoStep;
      none_due = refl;
      enrolled = (idle, told);
      enrols = NoStep;
      none_unenrolled = refl;
      granted = reached idle [] told None;
      grants = record { end = 0; below = NoGate; none = λ low. refl };
      staged = poll_staged idle;
      stages = Staged (OneMore idle _ NoStep (WakePoll refl refl refl refl refl, says_polled)) (record { cancels = refl; queued = refl; armed = refl });
      none_unstaged = λ room. record { cancels = refl; queued = refl; armed = refl };
      none_unless_busy = λ free. record { cancels = refl; queued = refl; armed = refl };
      worked = poll_staged idle;
      says_worked = says_polled;
      works = refl;
      reaps_again = NoStep;
      quiet_again = refl;
      answers = refl;
    }
