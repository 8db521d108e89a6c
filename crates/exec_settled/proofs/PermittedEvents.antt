-- What an event of a worker leaves of each request, seat and open, as far as permits go.
use Rattle.std.proofs.{Common.{◌≡◌, ℕ, zero, suc, ◌<◌, ◌==◌, Bool, true, false, List, [], ◌∷◌, length, map, Option, Some, refl, sym, ap, ◌∙◌, subst, inl, inr, get_or, set, if◌then◌else◌, arith}, lemmas.{Bool.{cases_Bool, false≢true}, List.{get_or_append_left, length-set}}}
use Rattle.exec_outcomes.specs.{declared.outcome.{OpResult.OpResult, Outcome.Outcome}, Outcomes.refuses_hint}
use Rattle.exec_machine.specs.{declared.{config.Configuration.Configuration, event.Event.{Event, Event as event}, state.{MailMessage.MailMessage, Next.Next, Operation.Operation, Request.Request}}, After.common_after, Choice.{Choice, Payer, Choice.{Plain, Pays, Posts}}, Closing.{after_clear, after_next, ends_by_clear, with_cleared}, Deadlines.{enrolled, expired}, Mail.{after_apply, after_message, after_post, after_sending}, Requests.{common_after_refusal, dropped, flown, granted, judged_of, opens_after_end, reaped}, Tasks.{after_over, after_payment, after_pend, after_word, pended_phase, requests_after_drops}, Tests.{is_gated, set_task}, World.{Common, Own as Books, no_request, request_of, task_of}}

-- ONE REQUEST

-- it stays its worker's and at its open, and none comes to wait for a permit
pub record Left (x y : Request) : Type 0 where
  pub worker : y.worker ≡ x.worker
  pub target : y.operation.target ≡ x.operation.target
  pub gated : is_gated y.phase ≡ true → is_gated x.phase ≡ true

as_it_was : {x : Request} → Left x x
as_it_was = record { worker = refl; target = refl; gated = λ h. h }

left_then : {x y z : Request} → Left x y → Left y z → Left x z
left_then a b = record { worker = b.worker ∙ a.worker; target = b.target ∙ a.target; gated = λ h. a.gated (b.gated h) }

-- its phase stays
phased : {x y : Request} → y.worker ≡ x.worker → y.operation.target ≡ x.operation.target → y.phase ≡ x.phase → Left x y
phased worker target phase = record { worker = worker; target = target; gated = λ h. sym (ap is_gated phase) ∙ h }

-- it waits for no permit then
ungated : {x y : Request} → y.worker ≡ x.worker → y.operation.target ≡ x.operation.target → is_gated y.phase ≡ false → Left x y
ungated worker target phase = record { worker = worker; target = target; gated = λ h. absurd (false≢true (sym phase ∙ h)) }

dropped_left : (r : Request) → Left r (dropped r)
dropped_left = grind arith

granted_left : (outcome : Option Outcome) (r : Request) → Left r (granted outcome r)
granted_left = grind (arith, ungated)

enrolled_left : (moment : ℕ) (outcome : Option Outcome) (r : Request) → Left r (enrolled moment outcome r)
enrolled_left = grind (arith, phased, ungated)

reaped_left : (n : OpResult) (outcome : Option Outcome) (r : Request) → Left r (reaped n outcome r)
reaped_left = grind (arith, ungated)

expired_left : (outcome : Option Outcome) (r : Request) → Left r (expired outcome r)
expired_left = grind (arith, phased, ungated)

flown_left : (i : ℕ) (r : Request) → Left r (flown i r)
flown_left = grind arith

-- ALL REQUESTS

abbrev AllLeft : List Request → List Request → Type 0
AllLeft rs rs' = (k : ℕ) → Left (get_or rs k no_request) (get_or rs' k no_request)

all_same : (rs : List Request) → AllLeft rs rs
all_same rs k = as_it_was

one : (rs : List Request) (r : ℕ) (y : Request) → Left (get_or rs r no_request) y → AllLeft rs (set rs r y)
one [] r y new k = as_it_was
one (x ∷ rs) zero y new zero = new
one (x ∷ rs) zero y new (suc k) = as_it_was
one (x ∷ rs) (suc r) y new zero = as_it_was
one (x ∷ rs) (suc r) y new (suc k) = one rs r y new k

all_flown : (i : ℕ) (rs : List Request) → AllLeft rs (map (flown i) rs)
all_flown i [] k = as_it_was
all_flown i (x ∷ rs) zero = flown_left i x
all_flown i (x ∷ rs) (suc k) = all_flown i rs k

drops_left : (i : ℕ) (held : List ℕ) (rs : List Request) → AllLeft rs (requests_after_drops i held rs)
drops_left i [] rs = all_same rs
drops_left i (r ∷ held) rs = by (it.worker == i) (drops_left i held)
  where
    it : Request
    it = get_or rs r no_request

    by : (b : Bool) → ((rs' : List Request) → AllLeft rs' (requests_after_drops i held rs')) → AllLeft rs (requests_after_drops i held (if b then set rs r (dropped it) else rs))
    by true later = λ k. left_then (one rs r (dropped it) (dropped_left it) k) (later (set rs r (dropped it)) k)
    by false later = later rs

-- THE COMMON PART

record Stays (s late : Common) : Type 0 where
  pub requests : AllLeft s.requests late.requests
  pub opens : length late.opens ≡ length s.opens

-- the same of those that were there before
pub record Leaves (s late : Common) : Type 0 where
  pub requests : (k : ℕ) → k < length s.requests → Left (request_of s k) (request_of late k)
  pub opens : length late.opens ≡ length s.opens

-- nothing of these changes
same : {s late : Common} → late.requests ≡ s.requests → length late.opens ≡ length s.opens → Stays s late
same {s} requests opens = record { requests = subst (AllLeft s.requests) (sym requests) (all_same s.requests); opens = opens }

stays_then : {s late later : Common} → Stays s late → Stays late later → Stays s later
stays_then a b = record { requests = λ k. left_then (a.requests k) (b.requests k); opens = b.opens ∙ a.opens }

-- some requests change
requested : {s late : Common} → AllLeft s.requests late.requests → length late.opens ≡ length s.opens → Stays s late
requested requests opens = record { requests = requests; opens = opens }

opens_end : (o : Operation) (outcome : Option Outcome) (s : Common) → length (opens_after_end o outcome s) ≡ length s.opens
opens_end = grind (arith, cases_Bool, length-set)

refusal_opens : (s : Common) (r : Request) (n : OpResult) → length (common_after_refusal s r n).opens ≡ length s.opens
refusal_opens s r n = elim (cases_Bool (refuses_hint (judged_of r n))) [ inl refused ↦ rw refused (length-set s.opens r.operation.target _) | inr other ↦ rw other refl ]

word_stays : (s : Common) (polls : Option ℕ) → Stays s (after_word s polls)
word_stays = grind (arith, same)

next_stays : (s : Common) (i : ℕ) (n : Next) → Stays s (after_next s i n)
next_stays = grind (arith, same, length-set, all_same)

payment_stays : (s : Common) (polls : Option ℕ) (payer : Payer) → Stays s (after_payment s polls payer)
payment_stays = grind (arith, requested, one, phased, same)

sending_stays : (s : Common) (polls : Option ℕ) (m : MailMessage) → Stays s (after_sending s polls m)
sending_stays = grind (arith, same, requested, one, phased)

post_stays : (s : Common) (to : ℕ) (m : MailMessage) (choice : Choice) → Stays s (after_post s to m choice)
post_stays = grind (arith, cases_Bool, same, all_same)

message_stays : (me : Books) (s : Common) (m : MailMessage) → Stays s (after_message me s m)
message_stays = grind (arith, same, requested, one, phased, dropped_left)

apply_stays : (me : Books) (s : Common) (i : ℕ) (m : MailMessage) → Stays s (after_apply me s i m)
apply_stays me s i m = let told = message_stays me s m in record { requests = told.requests; opens = told.opens }

over_stays : (s : Common) (i t : ℕ) → Stays s (after_over s i t)
over_stays s i t = requested (drops_left i (task_of s t).held s.requests) refl

pend_stays : (s : Common) (i t : ℕ) → Stays s (after_pend s i t)
pend_stays s i t = by (task_of s t).cleared
  where
    by : (b : Bool) → Stays s (if b then after_over s i t else set_task s t (record (task_of s t) { phase = pended_phase (task_of s t).phase }))
    by true = over_stays s i t
    by false = same refl refl

clear_stays : (s : Common) (i t : ℕ) → Stays s (after_clear s i t)
clear_stays s i t = elim (cases_Bool (ends_by_clear (task_of s t).phase)) [
  | inl ends ↦ rw ends (let it = over_stays (with_cleared s t) i t in record { requests = it.requests; opens = it.opens })
  | inr goes_on ↦ rw goes_on (same refl refl)
]

-- EACH EVENT

-- not one by which a request or a worker is made
abbrev makes_none : Event → Bool
makes_none (event.Admit r kind outcome) = false
makes_none (event.Dedicated t j) = false
makes_none _ = true

module _ (c : Configuration) (me : Books) (s : Common) (i : ℕ) where
  stays : (e : Event) (choice : Choice) → makes_none e ≡ true → Stays s (common_after c me s i e choice)
  stays (event.Admit r kind outcome) choice none = absurd (false≢true none)
  stays (event.Dedicated t j) choice none = absurd (false≢true none)
  stays event.Turn Plain none = next_stays s i me.next
  stays event.Turn (Pays payer) none = next_stays s i me.next
  stays event.Turn (Posts payer left_out) none = next_stays s i me.next
  stays (event.Pend t) choice none = pend_stays s i t
  stays (event.Done t) choice none = over_stays s i t
  stays (event.Fault t n) choice none = over_stays s i t
  stays (event.Spawn t k) choice none = let it = word_stays s me.polls in record { requests = it.requests; opens = it.opens }
  stays event.Closed choice none = word_stays s me.polls
  stays (event.Clear t) choice none = clear_stays s i t
  stays (event.Wait (Some r)) choice none = requested (one s.requests r _ (phased refl refl refl)) refl
  stays (event.Got r outcome) choice none = requested (one s.requests r _ (phased refl refl refl)) refl
  stays (event.Drop r) choice none = requested (one s.requests r _ (dropped_left (request_of s r))) refl
  stays (event.Wake t) (Pays payer) none = let it = payment_stays s me.polls payer in record { requests = it.requests; opens = it.opens }
  stays (event.Grant r outcome) choice none = requested (one s.requests r _ (granted_left outcome (request_of s r))) (opens_end (request_of s r).operation outcome s)
  stays (event.Enrol r outcome) choice none = requested (one s.requests r _ (enrolled_left _ outcome (request_of s r))) refl
  stays (event.Stage r) choice none = requested (one s.requests r _ (ungated refl refl refl)) refl
  stays event.Enter choice none = requested (all_flown i s.requests) refl
  stays (event.Reap r n outcome) choice none = grind (arith, one, reaped_left, opens_end, refusal_opens)
  stays (event.Expire r outcome) choice none = requested (one s.requests r _ (expired_left outcome (request_of s r))) refl
  stays (event.Cancel r) choice none = requested (one s.requests r _ (phased refl refl refl)) refl
  stays (event.Orphan r outcome) choice none = requested (one s.requests r _ (dropped_left (request_of s r))) refl
  stays (event.Release r) choice none = requested (one s.requests r _ (phased refl refl refl)) refl
  stays (event.Send to m) choice none = stays_then (sending_stays s me.polls m) (post_stays (after_sending s me.polls m) to m choice)
  stays (event.Apply m) choice none = apply_stays me s i m
  stays _ choice none = same refl refl

  of_stays : {late : Common} → Stays s late → Leaves s late
  of_stays a = record { requests = λ k within. a.requests k; opens = a.opens }

  pub leaves : (e : Event) (choice : Choice) → Leaves s (common_after c me s i e choice)
  leaves (event.Admit r what outcome) choice = grind (arith, get_or_append_left, as_it_was, cases_Bool, length-set)
  leaves (event.Dedicated t j) choice = grind (arith, word_stays, get_or_append_left)
  leaves e choice = of_stays (stays e choice refl)
