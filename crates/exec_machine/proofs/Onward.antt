-- What an event leaves of each request: one that is over stays so with its outcome, a released one stays released, and
-- none but an admission and a judged result changes what a request asks for and how far it has come.
use Rattle.std.proofs.{Common.{◌≡◌, ℕ, zero, suc, ◌+◌, Bool, true, false, ◌&&◌, ◌==◌, List, [], ◌∷◌, Option, Some, None, length, map, refl, sym, ◌∙◌, subst, inl, inr, get_or, set, unwrap_or, arith}, lemmas.{Bool.{true≢false, cases_Bool, and_parts}, List.{length-set, length-map}}}
use Rattle.exec_outcomes.specs.{declared.outcome.{OpResult.OpResult, Outcome.Outcome}, Lawful.{window_of, is_lawful}}
use Rattle.exec_machine.{specs.{declared.{config.Configuration.Configuration, step.Action.{Action, Action as action}, event.{Event.{Event, Event as event}, StepResult.TheVariants.Did}, state.{MailMessage.{MailMessage, MailMessage as message}, Forwarding.TheVariants.{Sent, Applied}, RequestPhase.RequestPhase, Request.Request}}, Choice.{Choice, Payer, Choice.{Plain, Passes, Pays, Posts}, Payer.{ByRequest, BySleeper, ByAct, ByCall, ByStop}}, World.{World, Own, Common, task_of, request_of, no_request}, Tests.{is_gated, is_queued, is_flying, is_resolved, is_in_flight}, Requests.{asked_of, cursor_of, dropped, granted, staged, flown}, Deadlines.{fires_at, enrolled, expired, outcome_at_expiry}, Tasks.{requests_after_drops, after_word, after_wait, after_payment, after_wake, after_pend}, Mail.{after_sending, after_post, after_send, after_apply, is_root_message, is_left_out}, Closing.{after_turn, after_clear, with_cleared, ends_by_clear}, Allowed.Allowed, After.{common_after, polled}, Callers.{after_spawn_by_call, after_wake_by_call, after_going_on}, Run.{Follows, after_event}, Same.same_end}, proofs.SameIs.told_only_where}
use Rattle.exec_machine.specs.declared.state.RequestPhase.TheVariants as phase

-- ONE REQUEST

-- an operation in flight has the hint only where no hint of its request was refused
abbrev pub Hints : Request → Type 0
Hints x = is_in_flight x.phase ≡ true → x.operation.hinted ≡ true → x.operation.unrefused ≡ true

-- what is over stays so
pub record Lasts (x y : Request) : Type 0 where
  pub over : (o : Outcome) → x.phase ≡ phase.Resolved o → y.phase ≡ phase.Resolved o
  pub released : x.released ≡ true → y.released ≡ true

pub record Onward (x y : Request) : Type 0 where
  pub lasts : Lasts x y
  pub asked : asked_of y.operation ≡ asked_of x.operation
  pub cursor : cursor_of y.operation ≡ cursor_of x.operation
  pub hints : Hints x → Hints y

pub Onward-refl : {x : Request} → Onward x x
Onward-refl = record { lasts = record { over = λ o h. h; released = λ h. h }; asked = refl; cursor = refl; hints = λ h. h }

Onward-trans : {x y z : Request} → Onward x y → Onward y z → Onward x z
Onward-trans = grind arith

-- other fields than these change
touched : {x y : Request} → y.phase ≡ x.phase → y.released ≡ x.released → y.operation ≡ x.operation → Onward x y
touched = grind arith

-- one that isn't over goes on to a phase in which it isn't in flight
moved : {x y : Request} → is_resolved x.phase ≡ false → is_in_flight y.phase ≡ false → y.released ≡ x.released → y.operation ≡ x.operation → Onward x y
moved = grind arith

-- one in flight stays so
flies_on : {x y : Request} → is_resolved x.phase ≡ false → is_in_flight x.phase ≡ true → y.released ≡ x.released → y.operation ≡ x.operation → Onward x y
flies_on = grind arith

-- PHASES

gated_open : (p : RequestPhase) → is_gated p ≡ true → is_resolved p ≡ false
gated_open phase.Gated h = refl
gated_open p h = absurd (true≢false (sym h))

pub queued_open : (p : RequestPhase) → is_queued p ≡ true → is_resolved p ≡ false
queued_open phase.Queued h = refl
queued_open p h = absurd (true≢false (sym h))

pub flying_open : (p : RequestPhase) → is_flying p ≡ true → is_resolved p ≡ false
flying_open phase.Flying h = refl
flying_open p h = absurd (true≢false (sym h))

flying_flies : (p : RequestPhase) → is_flying p ≡ true → is_in_flight p ≡ true
flying_flies phase.Flying h = refl
flying_flies p h = absurd (true≢false (sym h))

-- EACH CHANGE OF A REQUEST

pub dropped_onward : (x : Request) → Onward x (dropped x)
dropped_onward = grind arith

granted_onward : (outcome : Option Outcome) (x : Request) → is_gated x.phase ≡ true → Onward x (granted outcome x)
granted_onward None x gated = moved (gated_open x.phase gated) refl refl refl
granted_onward (Some o) x gated = moved (gated_open x.phase gated) refl refl refl

enrolled_onward : (moment : ℕ) (outcome : Option Outcome) (x : Request) → is_queued x.phase ≡ true → Onward x (enrolled moment outcome x)
enrolled_onward moment None x queued = touched refl refl refl
enrolled_onward moment (Some o) x queued = moved (queued_open x.phase queued) refl refl refl

expired_onward : (outcome : Option Outcome) (x : Request) → same_end outcome (outcome_at_expiry x) ≡ true → Onward x (expired outcome x)
expired_onward None x told = touched refl refl refl
expired_onward (Some o) x told = moved (queued_open x.phase (told_only_where o _ (is_queued x.phase) told)) refl refl refl

staged_onward : (s : Common) (x : Request) → is_queued x.phase ≡ true → Onward x (staged s x)
staged_onward = grind arith

flown_onward : (i : ℕ) (x : Request) → Onward x (flown i x)
flown_onward = grind arith

-- ALL REQUESTS

pub record AllOnward (xs ys : List Request) : Type 0 where
  pub same_length : length ys ≡ length xs
  pub each : (r : ℕ) → Onward (get_or xs r no_request) (get_or ys r no_request)

pub none_changed : {xs : List Request} → AllOnward xs xs
none_changed = record { same_length = refl; each = λ r. Onward-refl }

as_before : {xs ys : List Request} → ys ≡ xs → AllOnward xs ys
as_before {xs} same = subst (λ ys. AllOnward xs ys) (sym same) none_changed

AllOnward-trans : {xs ys zs : List Request} → AllOnward xs ys → AllOnward ys zs → AllOnward xs zs
AllOnward-trans a b = record { same_length = b.same_length ∙ a.same_length; each = λ r. Onward-trans (a.each r) (b.each r) }

set_each : (xs : List Request) (q : ℕ) (y : Request) (r : ℕ) → Onward (get_or xs q no_request) y → Onward (get_or xs r no_request) (get_or (set xs q y) r no_request)
set_each [] q y r h = Onward-refl
set_each (x ∷ xs) zero y zero h = h
set_each (x ∷ xs) zero y (suc r) h = Onward-refl
set_each (x ∷ xs) (suc q) y zero h = Onward-refl
set_each (x ∷ xs) (suc q) y (suc r) h = set_each xs q y r h

pub one_changed : (xs : List Request) (q : ℕ) (y : Request) → Onward (get_or xs q no_request) y → AllOnward xs (set xs q y)
one_changed xs q y h = record { same_length = length-set xs q y; each = λ r. set_each xs q y r h }

flown_each : (i : ℕ) (xs : List Request) (r : ℕ) → Onward (get_or xs r no_request) (get_or (map (flown i) xs) r no_request)
flown_each i [] r = Onward-refl
flown_each i (x ∷ xs) zero = flown_onward i x
flown_each i (x ∷ xs) (suc r) = flown_each i xs r

drops : (i : ℕ) (held : List ℕ) (xs : List Request) → AllOnward xs (requests_after_drops i held xs)
drops i [] xs = none_changed
drops i (q ∷ held) xs =
    let it : Request = get_or xs q no_request in
    elim (cases_Bool (it.worker == i)) [
      | inl own ↦ rw own (AllOnward-trans (one_changed xs q (dropped it) (dropped_onward it)) (drops i held (set xs q (dropped it))))
      | inr other ↦ rw other (drops i held xs)
    ]

-- EACH EVENT

word_keeps : (s : Common) (polls : Option ℕ) → (after_word s polls).requests ≡ s.requests
word_keeps s None = refl
word_keeps s (Some t) = refl

turn_keeps : (me : Own) (s : Common) (i : ℕ) (choice : Choice) → (after_turn me s i choice).requests ≡ s.requests
turn_keeps = grind arith

post_keeps : (s : Common) (to : ℕ) (m : MailMessage) (choice : Choice) → (after_post s to m choice).requests ≡ s.requests
post_keeps s to m choice =
    elim (cases_Bool (is_root_message m && is_left_out choice)) [ inl out ↦ rw out refl | inr in_it ↦ rw in_it refl ]

by_payment : (s : Common) (polls : Option ℕ) (payer : Payer) → AllOnward s.requests (after_payment s polls payer).requests
by_payment s polls (ByRequest r) = one_changed s.requests r (record (request_of s r) { wakes_paid = (request_of s r).wakes_paid + 1 }) (touched refl refl refl)
by_payment s polls (BySleeper z) = none_changed
by_payment s None ByAct = none_changed
by_payment s (Some t) ByAct = none_changed
by_payment s polls ByCall = none_changed
by_payment s polls ByStop = none_changed

by_wake : (me : Own) (s : Common) (t : ℕ) (choice : Choice) → AllOnward s.requests (after_wake me s t choice).requests
by_wake me s t Plain = none_changed
by_wake me s t Passes = none_changed
by_wake me s t (Pays payer) = by_payment s me.polls payer
by_wake me s t (Posts payer left_out) = none_changed

by_sending : (s : Common) (polls : Option ℕ) (m : MailMessage) → AllOnward s.requests (after_sending s polls m).requests
by_sending s None m = none_changed
by_sending s (Some t) message.Root = none_changed
by_sending s (Some t) (message.ForwardRequest r) = one_changed s.requests r (record (request_of s r) { waiter = Some t; forwarding = Sent }) (touched refl refl refl)
by_sending s (Some t) (message.ForwardTimer z) = none_changed
by_sending s (Some t) (message.CancelRequest r) = none_changed
by_sending s (Some t) (message.CancelTimer z) = none_changed

by_send : (me : Own) (s : Common) (to : ℕ) (m : MailMessage) (choice : Choice) → AllOnward s.requests (after_send me s to m choice).requests
by_send me s to m choice =
    subst (λ ys. AllOnward s.requests ys) (sym (post_keeps (after_sending s me.polls m) to m choice)) (by_sending s me.polls m)

by_apply : (me : Own) (s : Common) (i : ℕ) (m : MailMessage) → AllOnward s.requests (after_apply me s i m).requests
by_apply me s i message.Root = none_changed
by_apply me s i (message.ForwardRequest r) = one_changed s.requests r (record (request_of s r) { forwarding = Applied }) (touched refl refl refl)
by_apply me s i (message.ForwardTimer z) = none_changed
by_apply me s i (message.CancelRequest r) = one_changed s.requests r (dropped (request_of s r)) (dropped_onward (request_of s r))
by_apply me s i (message.CancelTimer z) = none_changed

by_pend : (s : Common) (i t : ℕ) → AllOnward s.requests (after_pend s i t).requests
by_pend s i t =
    elim (cases_Bool (task_of s t).cleared) [
      | inl cleared ↦ rw cleared (drops i (task_of s t).held s.requests)
      | inr goes_on ↦ rw goes_on none_changed
    ]

by_clear : (s : Common) (i t : ℕ) → AllOnward s.requests (after_clear s i t).requests
by_clear s i t =
    elim (cases_Bool (ends_by_clear (task_of s t).phase)) [
      | inl ends ↦ rw ends (drops i (task_of (with_cleared s t) t).held s.requests)
      | inr stays ↦ rw stays none_changed
    ]

by_wait : (s : Common) (t : ℕ) (what : Option ℕ) → AllOnward s.requests (after_wait s t what).requests
by_wait s t None = none_changed
by_wait s t (Some r) = one_changed s.requests r (record (request_of s r) { waiter = Some t }) (touched refl refl refl)

-- an event that makes no request and judges no result
abbrev pub is_plain : Event → Bool
is_plain (event.Admit r kind outcome) = false
is_plain (event.Reap r n outcome) = false
is_plain _ = true

pub by_event : (c : Configuration) (me : Own) (s : Common) (i : ℕ) (e : Event) (choice : Choice) → is_plain e ≡ true → Allowed c me s i e choice → AllOnward s.requests (common_after c me s i e choice).requests
by_event c me s i event.Turn choice plain a = as_before (turn_keeps me s i choice)
by_event c me s i event.Serve choice plain a = none_changed
by_event c me s i (event.Begin t) choice plain a = none_changed
by_event c me s i (event.Pend t) choice plain a = by_pend s i t
by_event c me s i (event.Done t) choice plain a = drops i (task_of s t).held s.requests
by_event c me s i (event.Fault t n) choice plain a = drops i (task_of s t).held s.requests
by_event c me s i (event.Spawn t k) choice plain a = as_before (word_keeps s me.polls)
by_event c me s i (event.Dedicated t j) choice plain a = as_before (word_keeps s me.polls)
by_event c me s i event.Closed choice plain a = as_before (word_keeps s me.polls)
by_event c me s i (event.Clear t) choice plain a = by_clear s i t
by_event c me s i (event.Admit r kind outcome) choice plain a = absurd (true≢false (sym plain))
by_event c me s i (event.Wait what) choice plain a = by_wait s (polled me) what
by_event c me s i (event.Got r outcome) choice plain a = one_changed s.requests r (record (request_of s r) { observed = false }) (touched refl refl refl)
by_event c me s i (event.Drop r) choice plain a = one_changed s.requests r (dropped (request_of s r)) (dropped_onward (request_of s r))
by_event c me s i (event.Timer z until) choice plain a = none_changed
by_event c me s i (event.GotTimer z) choice plain a = none_changed
by_event c me s i event.Pass choice plain a = none_changed
by_event c me s i (event.Wake t) choice plain a = by_wake me s t choice
by_event c me s i (event.Grant r outcome) choice plain a = one_changed s.requests r (granted outcome (request_of s r)) (granted_onward outcome (request_of s r) a.1.1.0)
by_event c me s i (event.Enrol r outcome) choice plain a =
    one_changed s.requests r (enrolled (fires_at c me (unwrap_or (request_of s r).operation.deadline 0)) outcome (request_of s r))
    (enrolled_onward (fires_at c me (unwrap_or (request_of s r).operation.deadline 0)) outcome (request_of s r) a.1.1.1.0)
by_event c me s i (event.Stage r) choice plain a = one_changed s.requests r (staged s (request_of s r)) (staged_onward s (request_of s r) a.1.1.1.0)
by_event c me s i event.Enter choice plain a = record { same_length = length-map s.requests (flown i); each = flown_each i s.requests }
by_event c me s i event.Busy choice plain a = none_changed
by_event c me s i (event.Reap r n outcome) choice plain a = absurd (true≢false (sym plain))
by_event c me s i (event.Expire r outcome) choice plain a = one_changed s.requests r (expired outcome (request_of s r)) (expired_onward outcome (request_of s r) a.1.1.0)
by_event c me s i (event.Cancel r) choice plain a = one_changed s.requests r (record (request_of s r) { cancel_staged = true }) (touched refl refl refl)
by_event c me s i (event.Orphan r outcome) choice plain a = one_changed s.requests r (dropped (request_of s r)) (dropped_onward (request_of s r))
by_event c me s i (event.Release r) choice plain a = one_changed s.requests r (record (request_of s r) { released = true }) (let_go (request_of s r))
  where
    let_go : (x : Request) → Onward x (record x { released = true })
    let_go x = record { lasts = record { over = λ o h. h; released = λ h. refl }; asked = refl; cursor = refl; hints = λ h. h }
by_event c me s i (event.Fire z) choice plain a = none_changed
by_event c me s i (event.Send to m) choice plain a = by_send me s to m choice
by_event c me s i (event.Apply m) choice plain a = by_apply me s i m
by_event c me s i (event.Rouse other) choice plain a = none_changed
by_event c me s i (event.Sleep until) choice plain a = none_changed
by_event c me s i event.Close choice plain a = none_changed
by_event c me s i event.Stop choice plain a = none_changed
by_event c me s i event.End choice plain a = none_changed
by_event c me s i e choice plain a = none_changed

-- EACH LINE

spawn_call_keeps : (s : Common) (k : ℕ) (e : Event) → (after_spawn_by_call s k e).requests ≡ s.requests
spawn_call_keeps s k (event.Spawn t script) = refl
spawn_call_keeps s k e = refl

wake_call_keeps : (s : Common) (t : ℕ) (e : Event) (choice : Choice) → (after_wake_by_call s t e choice).requests ≡ s.requests
wake_call_keeps = grind arith

going_on_keeps : (s : Common) (j : ℕ) (e : Event) → (after_going_on s j e).requests ≡ s.requests
going_on_keeps = grind arith

landed_onward : (n : OpResult) (x : Request) → is_flying x.phase ≡ true → Onward x (record x { phase = phase.Landed n })
landed_onward n x flying = flies_on (flying_open x.phase flying) (flying_flies x.phase flying) refl refl

abbrev pub is_work : Action → Bool
is_work (action.Work i) = true
is_work _ = false

pub by_other : (c : Configuration) (w : World) (a : Action) (e : Event) (choice : Choice) → is_work a ≡ false → Follows c w a (Did e) choice
    → AllOnward w.common.requests (after_event c w a e choice).common.requests
by_other c w (action.Work i) e choice other f = absurd (true≢false other)
by_other c w (action.Spawn j k) e choice other f = as_before (spawn_call_keeps w.common k e)
by_other c w (action.Wake j t) e choice other f = as_before (wake_call_keeps w.common t e choice)
by_other c w (action.GoOn j) e choice other f = as_before (going_on_keeps w.common j e)
by_other c w (action.Clock d) e choice other f = none_changed
by_other c w (action.Land r n) e choice other f =
    let it : Request = request_of w.common r in
    one_changed w.common.requests r (record it { phase = phase.Landed n })
    (landed_onward n it (and_parts (is_flying it.phase) (is_lawful (window_of (asked_of it.operation) (cursor_of it.operation)) n) f.0).0)
by_other c w (action.SetBusy i) e choice other f = none_changed
by_other c w (action.EndPoll i) e choice other f = none_changed
by_other c w (action.Stir i) e choice other f = none_changed
by_other c w (action.Peer l) e choice other f = none_changed
