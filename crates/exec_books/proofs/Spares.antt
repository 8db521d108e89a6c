-- An event of a worker leaves the requests and sleepers of all others, but for who waits for them.
use Rattle.std.proofs.{Common.{◌≡◌, ℕ, zero, suc, ◌<◌, ◌≤◌, ◌+◌, ◌==◌, ◌&&◌, Bool, true, false, List, [], ◌∷◌, ◌++◌, length, map, Option, Some, None, refl, sym, ◌∙◌, subst, arith, inl, inr, get_or, set, if◌then◌else◌}, lemmas.{Bool.{cases_Bool, eqb-true}, List.{get_or_append_left, get_or_push, length-append, length-map, length-set}}}
use Rattle.exec_outcomes.specs.declared.outcome.{OpResult.OpResult, Outcome.Outcome}
use Rattle.exec_machine.specs.{declared.{config.Configuration.Configuration, event.Event.{Event, Event as event}, state.{Forwarding.{Forwarding, TheVariants.{Applied, Sent}}, MailMessage.{MailMessage, MailMessage as message}, Next.Next, Request.Request}}, After.{common_after, polled}, Choice.{Choice, Payer, Choice.{Plain, Pays, Posts}, Payer.{ByRequest, BySleeper, ByAct, ByCall, ByStop}}, Closing.{after_clear, after_next, ends_by_clear, with_cleared}, Deadlines.{enrolled, expired}, Mail.{after_post, after_sending, is_left_out, is_root_message}, Requests.{dropped, flown, granted, new_request, reaped, resolved_if}, Tasks.{after_over, after_payment, after_pend, after_word, requests_after_drops}, World.{Common, Own as Books, no_request, request_of, task_of}}
use Rattle.exec_books.proofs.Own.{IsOwn}

-- of a request this stays
pub record Spared (x y : Request) : Type 0 where
  pub worker : y.worker ≡ x.worker
  pub operation : y.operation ≡ x.operation
  pub phase : y.phase ≡ x.phase
  pub timer : y.timer ≡ x.timer
  pub cancelled : y.cancelled ≡ x.cancelled
  pub cancel_staged : y.cancel_staged ≡ x.cancel_staged
  pub released : y.released ≡ x.released

-- ONE REQUEST

-- What an event of worker i makes of a request: it stays its worker's, and where the event changes its own alone the rest
-- stays too.
record Kept (i : ℕ) (own : Type 0) (x y : Request) : Type 0 where
  pub whose : y.worker ≡ x.worker
  pub spared : own → (x.worker ≡ i → ⊥) → Spared x y

spared_same : {x : Request} → Spared x x
spared_same = record { worker = refl; operation = refl; phase = refl; timer = refl; cancelled = refl; cancel_staged = refl; released = refl }

spared_then : {x y z : Request} → Spared x y → Spared y z → Spared x z
spared_then = grind arith

-- who waits for it is no part of that
touched : (x : Request) (observed : Bool) (waiter : Option ℕ) (paid : ℕ) (forwarding : Forwarding)
    → Spared x (record x { observed = observed; waiter = waiter; wakes_paid = paid; forwarding = forwarding })
touched = grind arith

-- only who waits for it changes
but : {i : ℕ} {own : Type 0} {x y : Request} → Spared x y → Kept i own x y
but a = record { whose = a.worker; spared = λ own apart. a }

kept_then : {i : ℕ} {own : Type 0} {x y z : Request} → Kept i own x y → Kept i own y z → Kept i own x z
kept_then = grind (arith, spared_then)

-- it is of worker i
its_own : {i : ℕ} {own : Type 0} {x y : Request} → (own → x.worker ≡ i) → y.worker ≡ x.worker → Kept i own x y
its_own own same = record { whose = same; spared = λ h apart. absurd (apart (own h)) }

pub dropped_worker : (r : Request) → (dropped r).worker ≡ r.worker
dropped_worker = grind arith

pub granted_worker : (outcome : Option Outcome) (r : Request) → (granted outcome r).worker ≡ r.worker
granted_worker = grind arith

pub enrolled_worker : (moment : ℕ) (outcome : Option Outcome) (r : Request) → (enrolled moment outcome r).worker ≡ r.worker
enrolled_worker = grind arith

pub reaped_worker : (n : OpResult) (outcome : Option Outcome) (r : Request) → (reaped n outcome r).worker ≡ r.worker
reaped_worker = grind arith

pub expired_worker : (outcome : Option Outcome) (r : Request) → (expired outcome r).worker ≡ r.worker
expired_worker = grind arith

pub resolved_worker : (outcome : Option Outcome) (r : Request) → (resolved_if outcome r).worker ≡ r.worker
resolved_worker = grind arith

flown_kept : {own : Type 0} (i : ℕ) (r : Request) → Kept i own r (flown i r)
flown_kept = grind arith

-- THE LIST OF REQUESTS

-- each one stays, and none is made
record Stays (i : ℕ) (own : Type 0) (rs rs' : List Request) : Type 0 where
  pub each : (k : ℕ) → Kept i own (get_or rs k no_request) (get_or rs' k no_request)
  pub long : length rs' ≡ length rs

-- each one stays, and those that are made are of worker i
record Leaves (i : ℕ) (own : Type 0) (rs rs' : List Request) : Type 0 where
  pub each : (k : ℕ) → k < length rs → Kept i own (get_or rs k no_request) (get_or rs' k no_request)
  pub long : length rs ≤ length rs'
  pub made : (k : ℕ) → length rs ≤ k → k < length rs' → (get_or rs' k no_request).worker ≡ i

none_made : {i : ℕ} {own : Type 0} {rs rs' : List Request} → Stays i own rs rs' → Leaves i own rs rs'
none_made a = record { each = λ k within. a.each k; long = omega (arith, a.long); made = λ k past within. absurd (omega (arith, a.long, past, within)) }

stays_same : {i : ℕ} {own : Type 0} {rs : List Request} → Stays i own rs rs
stays_same = record { each = λ k. but spared_same; long = refl }

stays_then : {i : ℕ} {own : Type 0} {rs later last : List Request} → Stays i own rs later → Stays i own later last → Stays i own rs last
stays_then a b = record { each = λ k. kept_then (a.each k) (b.each k); long = b.long ∙ a.long }

same : {i : ℕ} {own : Type 0} {rs : List Request} → Leaves i own rs rs
same = none_made stays_same

set_kept : {i : ℕ} {own : Type 0} (rs : List Request) (r : ℕ) (y : Request) → Kept i own (get_or rs r no_request) y
    → (k : ℕ) → Kept i own (get_or rs k no_request) (get_or (set rs r y) k no_request)
set_kept [] r y new k = but spared_same
set_kept (x ∷ rs) zero y new zero = new
set_kept (x ∷ rs) zero y new (suc k) = but spared_same
set_kept (x ∷ rs) (suc r) y new zero = but spared_same
set_kept (x ∷ rs) (suc r) y new (suc k) = set_kept rs r y new k

set_stays : {i : ℕ} {own : Type 0} (rs : List Request) (r : ℕ) (y : Request) → Kept i own (get_or rs r no_request) y → Stays i own rs (set rs r y)
set_stays rs r y new = record { each = set_kept rs r y new; long = length-set rs r y }

one : {i : ℕ} {own : Type 0} (rs : List Request) (r : ℕ) (y : Request) → Kept i own (get_or rs r no_request) y → Leaves i own rs (set rs r y)
one rs r y new = none_made (set_stays rs r y new)

map_kept : {i : ℕ} {own : Type 0} (rs : List Request) (k : ℕ) → Kept i own (get_or rs k no_request) (get_or (map (flown i) rs) k no_request)
map_kept [] k = but spared_same
map_kept {i} (x ∷ rs) zero = flown_kept i x
map_kept (x ∷ rs) (suc k) = map_kept rs k

push_leaves : {i : ℕ} {own : Type 0} (rs : List Request) (y : Request) → y.worker ≡ i → Leaves i own rs (rs ++ y ∷ [])
push_leaves = grind (arith, get_or_append_left, but, spared_same, length-append, get_or_push)

drops_stay : {i : ℕ} {own : Type 0} (held : List ℕ) (rs : List Request) → Stays i own rs (requests_after_drops i held rs)
drops_stay [] rs = stays_same
drops_stay {i} {own} (r ∷ held) rs = by (it.worker == i) refl (drops_stay held)
  where
    it : Request
    it = get_or rs r no_request

    by : (b : Bool) → (it.worker == i) ≡ b → ((rs' : List Request) → Stays i own rs' (requests_after_drops i held rs'))
        → Stays i own rs (requests_after_drops i held (if b then set rs r (dropped it) else rs))
    by true h later = stays_then (set_stays rs r (dropped it) (its_own (λ own. eqb-true it.worker i h) (dropped_worker it))) (later (set rs r (dropped it)))
    by false h later = later rs

-- EACH EVENT

next_requests : (s : Common) (i : ℕ) (n : Next) → (after_next s i n).requests ≡ s.requests
next_requests = grind arith

pub word_requests : (s : Common) (polls : Option ℕ) → (after_word s polls).requests ≡ s.requests
word_requests = grind arith

pub post_requests : (s : Common) (to : ℕ) (m : MailMessage) (choice : Choice) → (after_post s to m choice).requests ≡ s.requests
post_requests s to m choice = elim (cases_Bool (is_root_message m && is_left_out choice)) [ inl out ↦ rw out refl | inr in_it ↦ rw in_it refl ]

over_leaves : {own : Type 0} (s : Common) (i t : ℕ) → Leaves i own s.requests (after_over s i t).requests
over_leaves s i t = none_made (drops_stay (task_of s t).held s.requests)

of_same : {i : ℕ} {own : Type 0} {rs rs' : List Request} → rs' ≡ rs → Leaves i own rs rs'
of_same {i} {own} {rs} is = subst (Leaves i own rs) (sym is) same

module _ (c : Configuration) (me : Books) (s : Common) (i : ℕ) where
  pend_leaves : {own : Type 0} (t : ℕ) → Leaves i own s.requests (after_pend s i t).requests
  pend_leaves t = elim (cases_Bool (task_of s t).cleared) [ inl over ↦ rw over (over_leaves s i t) | inr goes_on ↦ rw goes_on same ]

  clear_leaves : {own : Type 0} (t : ℕ) → Leaves i own s.requests (after_clear s i t).requests
  clear_leaves t =
      elim (cases_Bool (ends_by_clear (task_of s t).phase)) [ inl ends ↦ rw ends (over_leaves (with_cleared s t) i t) | inr goes_on ↦ rw goes_on same ]

  payment_leaves : {own : Type 0} (polls : Option ℕ) (payer : Payer) → Leaves i own s.requests (after_payment s polls payer).requests
  payment_leaves polls (ByRequest r) = let x = request_of s r in one s.requests r _ (but (touched x x.observed x.waiter (x.wakes_paid + 1) x.forwarding))
  payment_leaves polls (BySleeper z) = same
  payment_leaves None ByAct = same
  payment_leaves (Some t) ByAct = same
  payment_leaves polls ByCall = same
  payment_leaves polls ByStop = same

  sending_leaves : {own : Type 0} (polls : Option ℕ) (m : MailMessage) → Leaves i own s.requests (after_sending s polls m).requests
  sending_leaves None m = same
  sending_leaves (Some t) message.Root = same
  sending_leaves (Some t) (message.ForwardRequest r) = let x = request_of s r in one s.requests r _ (but (touched x x.observed (Some t) x.wakes_paid Sent))
  sending_leaves (Some t) (message.ForwardTimer z) = same
  sending_leaves (Some t) (message.CancelRequest r) = same
  sending_leaves (Some t) (message.CancelTimer z) = same

  leaves : (e : Event) (choice : Choice) → Leaves i (IsOwn s i e) s.requests (common_after c me s i e choice).requests
  leaves event.Turn Plain = of_same (next_requests s i me.next)
  leaves event.Turn (Pays payer) = of_same (next_requests s i me.next)
  leaves event.Turn (Posts payer left_out) = of_same (next_requests s i me.next)
  leaves (event.Pend t) choice = pend_leaves t
  leaves (event.Done t) choice = over_leaves s i t
  leaves (event.Fault t n) choice = over_leaves s i t
  leaves (event.Clear t) choice = clear_leaves t
  leaves (event.Spawn t k) choice = of_same (word_requests s me.polls)
  leaves (event.Dedicated t j) choice = of_same (word_requests s me.polls)
  leaves event.Closed choice = of_same (word_requests s me.polls)
  leaves (event.Admit r kind outcome) choice = push_leaves s.requests _ (resolved_worker outcome (new_request i _))
  leaves (event.Wait (Some r)) choice = let x = request_of s r in one s.requests r _ (but (touched x x.observed (Some (polled me)) x.wakes_paid x.forwarding))
  leaves (event.Got r outcome) choice = let x = request_of s r in one s.requests r _ (but (touched x false x.waiter x.wakes_paid x.forwarding))
  leaves (event.Drop r) choice = one s.requests r _ (its_own (λ own. own) (dropped_worker (request_of s r)))
  leaves (event.Wake t) (Pays payer) = payment_leaves me.polls payer
  leaves (event.Grant r outcome) choice = one s.requests r _ (its_own (λ own. own) (granted_worker outcome (request_of s r)))
  leaves (event.Enrol r outcome) choice = one s.requests r _ (its_own (λ own. own) (enrolled_worker _ outcome (request_of s r)))
  leaves (event.Stage r) choice = one s.requests r _ (its_own (λ own. own) refl)
  leaves event.Enter choice = none_made (record { each = map_kept s.requests; long = length-map s.requests (flown i) })
  leaves (event.Reap r n outcome) choice = one s.requests r _ (its_own (λ own. own) (reaped_worker n outcome (request_of s r)))
  leaves (event.Expire r outcome) choice = one s.requests r _ (its_own (λ own. own) (expired_worker outcome (request_of s r)))
  leaves (event.Cancel r) choice = one s.requests r _ (its_own (λ own. own) refl)
  leaves (event.Orphan r outcome) choice = one s.requests r _ (its_own (λ own. own) (dropped_worker (request_of s r)))
  leaves (event.Release r) choice = one s.requests r _ (its_own (λ own. own) refl)
  leaves (event.Send to m) choice =
      subst (Leaves i (IsOwn s i (event.Send to m)) s.requests) (sym (post_requests (after_sending s me.polls m) to m choice)) (sending_leaves me.polls m)
  leaves (event.Apply (message.ForwardRequest r)) choice = let x = request_of s r in one s.requests r _ (but (touched x x.observed x.waiter x.wakes_paid Applied))
  leaves (event.Apply (message.CancelRequest r)) choice = one s.requests r _ (its_own (λ own. own) (dropped_worker (request_of s r)))
  leaves _ choice = same

  -- a request of another worker
  pub spares : (e : Event) (choice : Choice) → IsOwn s i e → (k : ℕ) → k < length s.requests → ((request_of s k).worker ≡ i → ⊥) → Spared (request_of s k) (request_of (common_after c me s i e choice) k)
  spares e choice own k within apart = ((leaves e choice).each k within).spared own apart

  -- each request stays its worker's, and none is lost
  pub same_worker : (e : Event) (choice : Choice) (k : ℕ) → k < length s.requests → (request_of (common_after c me s i e choice) k).worker ≡ (request_of s k).worker
  same_worker e choice k within = ((leaves e choice).each k within).whose

  pub no_fewer : (e : Event) (choice : Choice) → length s.requests ≤ length (common_after c me s i e choice).requests
  no_fewer e choice = (leaves e choice).long

  -- a new one is its own
  pub new_one : (e : Event) (choice : Choice) (k : ℕ) → length s.requests ≤ k → k < length (common_after c me s i e choice).requests → (request_of (common_after c me s i e choice) k).worker ≡ i
  new_one e choice k past within = (leaves e choice).made k past within
