-- What an event of a worker leaves of each request as to its forwarding, and what those do by which a task begins or ends to wait.
use Rattle.std.{proofs.{Common.{◌≡◌, ℕ, zero, suc, ◌+◌, ◌<◌, ◌==◌, Bool, true, false, ◌&&◌, ◌||◌, List, [], ◌∷◌, ◌++◌, length, map, get_or, set, Option, Some, None, if◌then◌else◌, unwrap_or, refl, sym, ap, ◌∙◌, subst, inl, inr, arith}, lemmas.{Bool.{true≢false, false≢true, cases_Bool, cases_lt}, List.{get_or_append_left, get_or-set_same, get_or_past, length-set, set_past}}}, specs.Prelude.◌⊎◌}
use Rattle.exec_outcomes.specs.declared.outcome.{OpResult.OpResult, Outcome.Outcome}
use Rattle.exec_machine.specs.{declared.{config.Configuration.Configuration, event.Event.{Event, Event as event}, state.{MailMessage.{MailMessage, MailMessage as message}, Request.Request, RequestPhase.RequestPhase, TaskPhase.TaskPhase, Waiting.Waiting as waiting}}, After.{common_after, polled}, Allowed.Allowed, Choice.{Choice, Payer, Choice.{Plain, Passes, Pays, Posts}, Payer.{ByRequest, BySleeper, ByAct, ByCall, ByStop}}, Closing.{after_clear, after_turn, ends_by_clear, with_cleared}, Deadlines.{enrolled, expired, fires_at}, Mail.{after_message, after_post, after_sending, is_left_out, is_root_message}, Requests.{dropped, flown, granted, reaped}, Tasks.{after_payment, after_pend, after_taking, after_wait, after_wake, after_word, requests_after_drops, without_newest, woken, woken_phase}, Tests.{is_done, is_gated, is_landed_with, is_queued, is_ready, is_resolved, waits_for_nothing}, World.{Common, Own as Books, Task, no_request, no_task, request_of, task_of}}
use Rattle.exec_moves.specs.Poll.{is_noted}
use Rattle.exec_rest.proofs.CallHeeds.{set_at}
use Rattle.exec_machine.specs.declared.state.Forwarding.TheVariants as forwarding

-- ONE REQUEST stays forwarded as it was, and over where it was

record Kept (x y : Request) : Type 0 where
  pub same : y.forwarding ≡ x.forwarding
  pub over : is_resolved x.phase ≡ true → is_resolved y.phase ≡ true

-- or it was sent that a task waits for it elsewhere, or that was applied
pub record Forwarded (e : Event) (k : ℕ) (x y : Request) : Type 0 where
  pub over : is_resolved x.phase ≡ true → is_resolved y.phase ≡ true
  pub how : (y.forwarding ≡ x.forwarding) ⊎ ((y.forwarding ≡ forwarding.Sent) ⊎ ((e ≡ event.Apply (message.ForwardRequest k)) × (y.forwarding ≡ forwarding.Applied) × (y.phase ≡ x.phase)))

as_it_was : (x : Request) → Kept x x
as_it_was x = record { same = refl; over = λ h. h }

-- a phase that is none of the end
gated_open : (p : RequestPhase) → is_gated p ≡ true → is_resolved p ≡ true → {T : Type 0} → T
gated_open = grind (arith, false≢true)

queued_open : (p : RequestPhase) → is_queued p ≡ true → is_resolved p ≡ true → {T : Type 0} → T
queued_open = grind (arith, false≢true)

landed_open : (n : OpResult) (p : RequestPhase) → is_landed_with n p ≡ true → is_resolved p ≡ true → {T : Type 0} → T
landed_open = grind (arith, false≢true)

drop_kept : (x : Request) → Kept x (dropped x)
drop_kept = grind arith

grant_kept : (outcome : Option Outcome) (x : Request) → is_gated x.phase ≡ true → Kept x (granted outcome x)
grant_kept None x gated = record { same = refl; over = λ h. gated_open x.phase gated h }
grant_kept (Some o) x gated = record { same = refl; over = λ h. refl }

enrol_kept : (moment : ℕ) (outcome : Option Outcome) (x : Request) → Kept x (enrolled moment outcome x)
enrol_kept moment None x = record { same = refl; over = λ h. h }
enrol_kept moment (Some o) x = record { same = refl; over = λ h. refl }

expiry_kept : (outcome : Option Outcome) (x : Request) → Kept x (expired outcome x)
expiry_kept None x = record { same = refl; over = λ h. h }
expiry_kept (Some o) x = record { same = refl; over = λ h. refl }

reap_kept : (n : OpResult) (outcome : Option Outcome) (x : Request) → is_landed_with n x.phase ≡ true → Kept x (reaped n outcome x)
reap_kept n None x landed = record { same = refl; over = λ h. landed_open n x.phase landed h }
reap_kept n (Some o) x landed = record { same = refl; over = λ h. refl }

flown_kept : (i : ℕ) (x : Request) → Kept x (flown i x)
flown_kept = grind arith

-- ALL REQUESTS that are there

abbrev pub AllForwarded : Event → List Request → List Request → Type 0
AllForwarded e xs ys = (k : ℕ) → k < length xs → Forwarded e k (get_or xs k no_request) (get_or ys k no_request)

abbrev AllKept : List Request → List Request → Type 0
AllKept xs ys = (k : ℕ) → Kept (get_or xs k no_request) (get_or ys k no_request)

flies : (i : ℕ) (xs : List Request) → AllKept xs (map (flown i) xs)
flies i [] k = as_it_was no_request
flies i (x ∷ xs) zero = flown_kept i x
flies i (x ∷ xs) (suc k) = flies i xs k

set_kept : (xs : List Request) (q : ℕ) (y : Request) → Kept (get_or xs q no_request) y → AllKept xs (set xs q y)
set_kept = grind (arith, set_at, as_it_was)

then_kept : (xs ys zs : List Request) → AllKept xs ys → AllKept ys zs → AllKept xs zs
then_kept xs ys zs a b k = record { same = (b k).same ∙ (a k).same; over = λ h. (b k).over ((a k).over h) }

drops : (i : ℕ) (held : List ℕ) (xs : List Request) → AllKept xs (requests_after_drops i held xs)
drops i [] xs = λ k. as_it_was (get_or xs k no_request)
drops i (q ∷ held) xs = by (λ ys. drops i held ys) ((get_or xs q no_request).worker == i)
  where
    by : ((ys : List Request) → AllKept ys (requests_after_drops i held ys)) → (b : Bool) → AllKept xs (requests_after_drops i held (if b then set xs q (dropped (get_or xs q no_request)) else xs))
    by = grind (arith, then_kept, set_kept, drop_kept)

module _ (e : Event) where
  plainly : (xs ys : List Request) → AllKept xs ys → AllForwarded e xs ys
  plainly xs ys h k within = record { over = (h k).over; how = inl (h k).same }

  none : (xs : List Request) → AllForwarded e xs xs
  none xs = plainly xs xs (λ k. as_it_was (get_or xs k no_request))

  same : (xs ys : List Request) → ys ≡ xs → AllForwarded e xs ys
  same xs ys is = subst (AllForwarded e xs) (sym is) (none xs)

  one_any : (xs : List Request) (q : ℕ) (y : Request) → Forwarded e q (get_or xs q no_request) y → AllForwarded e xs (set xs q y)
  one_any = grind (arith, set_at, none)

  one : (xs : List Request) (q : ℕ) (y : Request) → Kept (get_or xs q no_request) y → AllForwarded e xs (set xs q y)
  one xs q y h = plainly xs (set xs q y) (set_kept xs q y h)

  -- other fields than these change
  beside : (xs : List Request) (q : ℕ) (y : Request) → y.forwarding ≡ (get_or xs q no_request).forwarding → y.phase ≡ (get_or xs q no_request).phase → AllForwarded e xs (set xs q y)
  beside xs q y how stays = one xs q y (record { same = how; over = λ h. ap is_resolved stays ∙ h })

  pushed : (xs : List Request) (y : Request) → AllForwarded e xs (xs ++ y ∷ [])
  pushed xs y k within = subst (Forwarded e k (get_or xs k no_request)) (sym (get_or_append_left xs (y ∷ []) no_request k within)) (none xs k within)

  ends : (i : ℕ) (held : List ℕ) (xs : List Request) → AllForwarded e xs (requests_after_drops i held xs)
  ends i held xs = plainly xs (requests_after_drops i held xs) (drops i held xs)

module _ (s : Common) (i : ℕ) (e : Event) where
  words : (polls : Option ℕ) → (after_word s polls).requests ≡ s.requests
  words = grind arith

  turns : (me : Books) (choice : Choice) → (after_turn me s i choice).requests ≡ s.requests
  turns = grind arith

  posts : (s' : Common) (to : ℕ) (m : MailMessage) (choice : Choice) → (after_post s' to m choice).requests ≡ s'.requests
  posts s' to m choice = elim (cases_Bool (is_root_message m && is_left_out choice)) [ inl out ↦ rw out refl | inr in_it ↦ rw in_it refl ]

  pays : (polls : Option ℕ) (payer : Payer) → AllForwarded e s.requests (after_payment s polls payer).requests
  pays polls (ByRequest r) = beside e s.requests r (record (request_of s r) { wakes_paid = (request_of s r).wakes_paid + 1 }) refl refl
  pays polls (BySleeper z) = none e s.requests
  pays None ByAct = none e s.requests
  pays (Some t) ByAct = none e s.requests
  pays polls ByCall = none e s.requests
  pays polls ByStop = none e s.requests

  wakes : (me : Books) (t : ℕ) (choice : Choice) → AllForwarded e s.requests (after_wake me s t choice).requests
  wakes me t Plain = none e s.requests
  wakes me t Passes = none e s.requests
  wakes me t (Pays payer) = pays me.polls payer
  wakes me t (Posts payer left_out) = none e s.requests

  pends : (t : ℕ) → AllForwarded e s.requests (after_pend s i t).requests
  pends t = elim (cases_Bool (task_of s t).cleared) [
    | inl cleared ↦ rw cleared (ends e i (task_of s t).held s.requests)
    | inr goes_on ↦ rw goes_on (none e s.requests)
  ]

  clears : (t : ℕ) → AllForwarded e s.requests (after_clear s i t).requests
  clears t = elim (cases_Bool (ends_by_clear (task_of s t).phase)) [
    | inl over ↦ rw over (ends e i (task_of (with_cleared s t) t).held s.requests)
    | inr stays ↦ rw stays (none e s.requests)
  ]

  waits : (t : ℕ) (what : Option ℕ) → AllForwarded e s.requests (after_wait s t what).requests
  waits t None = none e s.requests
  waits t (Some r) = beside e s.requests r (record (request_of s r) { waiter = Some t }) refl refl

  sends : (polls : Option ℕ) (m : MailMessage) → AllForwarded e s.requests (after_sending s polls m).requests
  sends None m = none e s.requests
  sends (Some t) message.Root = none e s.requests
  sends (Some t) (message.ForwardRequest r) =
      one_any e s.requests r (record (request_of s r) { waiter = Some t; forwarding = forwarding.Sent }) (record { over = λ h. h; how = inr (inl refl) })
  sends (Some t) (message.ForwardTimer z) = none e s.requests
  sends (Some t) (message.CancelRequest r) = none e s.requests
  sends (Some t) (message.CancelTimer z) = none e s.requests

applies : (me : Books) (s : Common) (m : MailMessage) → AllForwarded (event.Apply m) s.requests (after_message me s m).requests
applies me s message.Root = none (event.Apply message.Root) s.requests
applies me s (message.ForwardRequest r) =
    one_any (event.Apply (message.ForwardRequest r)) s.requests r (record (request_of s r) { forwarding = forwarding.Applied })
    (record { over = λ h. h; how = inr (inr (refl, refl, refl)) })
applies me s (message.ForwardTimer z) = none (event.Apply (message.ForwardTimer z)) s.requests
applies me s (message.CancelRequest r) = one (event.Apply (message.CancelRequest r)) s.requests r (dropped (request_of s r)) (drop_kept (request_of s r))
applies me s (message.CancelTimer z) = none (event.Apply (message.CancelTimer z)) s.requests

pub forwarded : (c : Configuration) (me : Books) (s : Common) (i : ℕ) (e : Event) (choice : Choice) → Allowed c me s i e choice → AllForwarded e s.requests (common_after c me s i e choice).requests
forwarded c me s i event.Turn choice a = same event.Turn s.requests (after_turn me s i choice).requests (turns s i event.Turn me choice)
forwarded c me s i (event.Pend t) choice a = pends s i (event.Pend t) t
forwarded c me s i (event.Done t) choice a = ends (event.Done t) i (task_of s t).held s.requests
forwarded c me s i (event.Fault t n) choice a = ends (event.Fault t n) i (task_of s t).held s.requests
forwarded c me s i (event.Spawn t k) choice a = same (event.Spawn t k) s.requests (after_word s me.polls).requests (words s i (event.Spawn t k) me.polls)
forwarded c me s i (event.Dedicated t j) choice a = same (event.Dedicated t j) s.requests (after_word s me.polls).requests (words s i (event.Dedicated t j) me.polls)
forwarded c me s i event.Closed choice a = same event.Closed s.requests (after_word s me.polls).requests (words s i event.Closed me.polls)
forwarded c me s i (event.Clear t) choice a = clears s i (event.Clear t) t
forwarded c me s i (event.Admit r kind outcome) choice a = pushed (event.Admit r kind outcome) s.requests _
forwarded c me s i (event.Wait what) choice a = waits s i (event.Wait what) (polled me) what
forwarded c me s i (event.Got r outcome) choice a = beside (event.Got r outcome) s.requests r (record (request_of s r) { observed = false }) refl refl
forwarded c me s i (event.Drop r) choice a = one (event.Drop r) s.requests r (dropped (request_of s r)) (drop_kept (request_of s r))
forwarded c me s i (event.Wake t) choice a = wakes s i (event.Wake t) me t choice
forwarded c me s i (event.Grant r outcome) choice a = one (event.Grant r outcome) s.requests r (granted outcome (request_of s r)) (grant_kept outcome (request_of s r) a.1.1.0)
forwarded c me s i (event.Enrol r outcome) choice a = one (event.Enrol r outcome) s.requests r _ (enrol_kept (fires_at c me (unwrap_or (request_of s r).operation.deadline 0)) outcome (request_of s r))
forwarded c me s i (event.Stage r) choice a = one (event.Stage r) s.requests r _ (record { same = refl; over = λ h. queued_open (request_of s r).phase a.1.1.1.0 h })
forwarded c me s i event.Enter choice a = plainly event.Enter s.requests (map (flown i) s.requests) (flies i s.requests)
forwarded c me s i (event.Reap r n outcome) choice a = one (event.Reap r n outcome) s.requests r (reaped n outcome (request_of s r)) (reap_kept n outcome (request_of s r) a.1.1.1.0)
forwarded c me s i (event.Expire r outcome) choice a = one (event.Expire r outcome) s.requests r (expired outcome (request_of s r)) (expiry_kept outcome (request_of s r))
forwarded c me s i (event.Cancel r) choice a = beside (event.Cancel r) s.requests r (record (request_of s r) { cancel_staged = true }) refl refl
forwarded c me s i (event.Orphan r outcome) choice a = one (event.Orphan r outcome) s.requests r (dropped (request_of s r)) (drop_kept (request_of s r))
forwarded c me s i (event.Release r) choice a = beside (event.Release r) s.requests r (record (request_of s r) { released = true }) refl refl
forwarded c me s i (event.Send to m) choice a =
    subst (AllForwarded (event.Send to m) s.requests) (sym (posts s i (event.Send to m) (after_sending s me.polls m) to m choice)) (sends s i (event.Send to m) me.polls m)
forwarded c me s i (event.Apply m) choice a = applies me s m
forwarded c me s i e choice a = none e s.requests

-- A TASK THAT BEGINS TO WAIT

-- here: the request is as before, but for who waits
pub record Waited (x y : Request) : Type 0 where
  pub worker : y.worker ≡ x.worker
  pub phase : y.phase ≡ x.phase
  pub forwarding : y.forwarding ≡ x.forwarding

module _ (c : Configuration) (me : Books) (s : Common) (i : ℕ) (choice : Choice) (k : ℕ) where
  pub begins_here : Waited (request_of s k) (request_of (common_after c me s i (event.Wait (Some k)) choice) k)
  begins_here = grind (arith, set_at)

  -- elsewhere: that was sent
  pub begins_elsewhere : (to : ℕ) → Allowed c me s i (event.Send to (message.ForwardRequest k)) choice → k < length (common_after c me s i (event.Send to (message.ForwardRequest k)) choice).requests
      → (request_of (common_after c me s i (event.Send to (message.ForwardRequest k)) choice) k).forwarding ≡ forwarding.Sent
  begins_elsewhere = grind (arith, posts, false≢true, get_or-set_same, length-set)

-- A TASK THAT IS WOKEN, or takes what it waits for

pub there : (s : Common) (t : ℕ) → is_done (task_of s t).phase ≡ false → t < length s.tasks
there = grind (arith, cases_lt, true≢false, get_or_past)

woken_now : (p : TaskPhase) → ((is_ready (woken_phase p) || is_noted (woken_phase p)) ≡ true) ⊎ (is_done (woken_phase p) ≡ true)
woken_now = grind arith

abbrev pub Roused : Task → Type 0
Roused y = ((is_ready y.phase || is_noted y.phase) ≡ true) ⊎ (is_done y.phase ≡ true)

woken_at : (ys : List Task) (t : ℕ) → Roused (get_or (set ys t (woken (get_or ys t no_task))) t no_task)
woken_at = grind (arith, cases_lt, get_or-set_same, woken_now, set_past, get_or_past)

module _ (c : Configuration) (me : Books) (s : Common) (i : ℕ) where
  pub wakes_it : (t : ℕ) (choice : Choice) → Allowed c me s i (event.Wake t) choice → Roused (task_of (common_after c me s i (event.Wake t) choice) t)
  wakes_it = grind (arith, woken_at, false≢true)

  -- what was taken isn't waited for any more
  taken_nothing : (x : Task) → waits_for_nothing x.waiting ≡ false → (after_taking s x).waiting ≡ waiting.Nothing
  taken_nothing x h = rw h refl

  took : (t : ℕ) (x : Task) → me.polls ≡ Some t → t < length s.tasks → x.waiting ≡ waiting.Nothing → (get_or (set s.tasks (polled me) x) t no_task).waiting ≡ waiting.Nothing
  took = grind (arith, get_or-set_same)

  module _ (t : ℕ) (choice : Choice) (polls : me.polls ≡ Some t) (within : t < length s.tasks) (waits : waits_for_nothing (task_of s t).waiting ≡ false) where
    nothing : (after_taking s (task_of s (polled me))).waiting ≡ waiting.Nothing
    nothing = taken_nothing (task_of s (polled me)) (ap (λ n. waits_for_nothing (task_of s n).waiting) (ap (λ p. unwrap_or p 0) polls) ∙ waits)

    pub got : (k : ℕ) (o : Outcome) → (task_of (common_after c me s i (event.Got k o) choice) t).waiting ≡ waiting.Nothing
    got k o = took t (record (after_taking s (task_of s (polled me))) { held = without_newest (task_of s (polled me)).held }) polls within nothing

    pub got_timer : (z : ℕ) → (task_of (common_after c me s i (event.GotTimer z) choice) t).waiting ≡ waiting.Nothing
    got_timer z = took t (after_taking s (task_of s (polled me))) polls within nothing
