-- What each event of a worker leaves of the requests and the sleepers that were there.
use Rattle.std.proofs.{Common.{◌≡◌, ℕ, ◌==◌, ◌&&◌, Bool, true, false, List, [], ◌∷◌, Option, Some, None, refl, sym, ap, subst, inl, inr, get_or, set, if◌then◌else◌, arith}, lemmas.Bool.{true≢false, false≢true, cases_Bool, eq-eqb, not-true}}
use Rattle.exec_outcomes.specs.{declared.outcome.{OpResult.OpResult, Outcome.Outcome}, Outcomes.refuses_hint}
use Rattle.exec_machine.specs.{declared.{config.Configuration.Configuration, event.Event.{Event, Event as event}, state.{Forwarding.TheVariants.{Applied, Sent}, MailMessage.{MailMessage, MailMessage as message}, Next.Next, Request.Request, Sleeper.Sleeper, Waiting.{Waiting, Waiting as waiting}}}, After.{common_after, polled}, Allowed.Allowed, Choice.{Choice, Payer, Choice.{Plain, Passes, Pays, Posts}}, Closing.{after_clear, after_next, ends_by_clear, gone_with, with_cleared}, Deadlines.{expired, outcome_at_expiry}, Mail.{after_message, after_post, after_sending, is_left_out, is_root_message, posted}, Same.{is_none, same_end}, Requests.{after_reap, staged, common_after_refusal, dropped, flown, granted, judged_of, reaped}, Tasks.{after_over, pended_phase, after_payment, after_pend, after_wake, after_word, removed, requests_after_drops, sleepers_after_waking_up}, Tests.{is_applied, is_landed_with, is_queued, set_seat, set_task}, World.{Common, Own as Books, no_request, no_sleeper, request_of, seat_of, sleeper_of, task_of}}
use Rattle.exec_books.proofs.{CountedTurns.{IsPast, Naps, Turns, drop_turns, each_map, each_set, enrol_turns, expire_turns, fired_naps, flown_turns, goes_on, grant_turns, grants, marked, moves_flight, napped, naps_then, noted, reap_turns, removed_naps, same, turned, turns_then}, MinePhases.queued_open}

-- OPEN PHASES

unsent_applied : {T : Type 0} → Applied ≡ Sent → T
unsent_applied is = absurd (true≢false (ap is_applied is))

-- what is over by its deadline was queued
expires_queued : (x : Request) (outcome : Option Outcome) → same_end outcome (outcome_at_expiry x) ≡ true → is_none outcome ≡ false → is_queued x.phase ≡ true
expires_queued = grind (arith, false≢true)

queued_past : (x : Request) → is_queued x.phase ≡ true → IsPast x
queued_past = grind arith

pub landed_past : (n : OpResult) (x : Request) → is_landed_with n x.phase ≡ true → IsPast x
landed_past = grind arith

-- a grant without an outcome gives the permit
given : (r : ℕ) (outcome : Option Outcome) → is_none outcome ≡ true → grants r (event.Grant r outcome) ≡ true
given r None none = eq-eqb r r refl
given r (Some x) none = absurd (false≢true none)

-- COMMON PARTS

pub record Leaves (e : Event) (s late : Common) : Type 0 where
  pub requests : (k : ℕ) → Turns e k (request_of s k) (request_of late k)
  pub sleepers : (z : ℕ) → Naps e z (sleeper_of s z) (sleeper_of late z)

leaves_then : {e : Event} {s late later : Common} → Leaves e s late → Leaves e late later → Leaves e s later
leaves_then a b = record { requests = λ k. turns_then (a.requests k) (b.requests k); sleepers = λ z. naps_then (a.sleepers z) (b.sleepers z) }

leaves : {e : Event} {s : Common} → Leaves e s s
leaves = record { requests = λ k. turned; sleepers = λ z. napped }

-- nothing of it changes but tasks, opens and the like
beside : {e : Event} {s late : Common} → late.requests ≡ s.requests → late.sleepers ≡ s.sleepers → Leaves e s late
beside = grind arith

pub set_turns : (e : Event) (rs : List Request) (r : ℕ) (y : Request) → Turns e r (get_or rs r no_request) y → (k : ℕ) → Turns e k (get_or rs k no_request) (get_or (set rs r y) k no_request)
set_turns e rs r y here = each_set no_request (Turns e) rs r y (λ j apart x. turned) here (λ j. turned)

set_naps : (e : Event) (zs : List Sleeper) (q : ℕ) (y : Sleeper) → Naps e q (get_or zs q no_sleeper) y → (z : ℕ) → Naps e z (get_or zs z no_sleeper) (get_or (set zs q y) z no_sleeper)
set_naps e zs q y here = each_set no_sleeper (Naps e) zs q y (λ j apart x. napped) here (λ j. napped)

by_request : {e : Event} {s : Common} (r : ℕ) (y : Request) → Turns e r (request_of s r) y → Leaves e s (record s { requests = set s.requests r y })
by_request {e} {s} r y here = record { requests = set_turns e s.requests r y here; sleepers = λ z. napped }

by_sleeper : {e : Event} {s : Common} (q : ℕ) (y : Sleeper) → Naps e q (sleeper_of s q) y → Leaves e s (record s { sleepers = set s.sleepers q y })
by_sleeper {e} {s} q y here = record { requests = λ k. turned; sleepers = set_naps e s.sleepers q y here }

either : {e : Event} {s : Common} (b : Bool) (y z : Common) → Leaves e s y → Leaves e s z → Leaves e s (if b then y else z)
either = grind arith

-- EVENTS

module _ (e : Event) (s : Common) (i : ℕ) where
  -- what a task held
  drops : (held : List ℕ) (rs : List Request) (k : ℕ) → Turns e k (get_or rs k no_request) (get_or (requests_after_drops i held rs) k no_request)
  drops [] rs k = turned
  drops (r ∷ held) rs k = drop_one (drops held) ((get_or rs r no_request).worker == i)
    where
      drop_one : ((ss : List Request) (q : ℕ) → Turns e q (get_or ss q no_request) (get_or (requests_after_drops i held ss) q no_request)) → (b : Bool)
          → Turns e k (get_or rs k no_request) (get_or (requests_after_drops i held (if b then set rs r (dropped (get_or rs r no_request)) else rs)) k no_request)
      drop_one more true =
          let it = get_or rs r no_request in turns_then (set_turns e rs r (dropped it) (drop_turns e r it) k) (more (set rs r (dropped it)) k)
      drop_one more false = more rs k

  wakes_up : (what : Waiting) (z : ℕ) → Naps e z (sleeper_of s z) (get_or (sleepers_after_waking_up s i what) z no_sleeper)
  wakes_up (waiting.Timer q) z = remove ((sleeper_of s q).worker == i)
    where
      remove : (b : Bool) → Naps e z (sleeper_of s z) (get_or (if b then set s.sleepers q (removed (sleeper_of s q)) else s.sleepers) z no_sleeper)
      remove true = set_naps e s.sleepers q (removed (sleeper_of s q)) (removed_naps e q (sleeper_of s q)) z
      remove false = napped
  wakes_up _ z = napped

  over : (t : ℕ) → Leaves e s (after_over s i t)
  over t = record { requests = drops (task_of s t).held s.requests; sleepers = wakes_up (task_of s t).waiting }

  pends : (t : ℕ) → Leaves e s (after_pend s i t)
  pends t = either (task_of s t).cleared (after_over s i t) (set_task s t (record (task_of s t) { phase = pended_phase (task_of s t).phase })) (over t) (beside refl refl)

  by_next : (n : Next) → Leaves e s (after_next s i n)
  by_next = grind arith

  by_word : (polls : Option ℕ) → Leaves e s (after_word s polls)
  by_word = grind (arith, leaves, beside)

  pays : (polls : Option ℕ) (payer : Payer) → Leaves e s (after_payment s polls payer)
  pays = grind (arith, by_request, marked, same, by_sleeper, noted, leaves, beside)

  wakes : (me : Books) (t : ℕ) (choice : Choice) → Leaves e s (after_wake me s t choice)
  wakes me t (Pays payer) = leaves_then (pays me.polls payer) (beside refl refl)
  wakes me t Plain = leaves
  wakes me t Passes = leaves
  wakes me t (Posts payer left_out) = leaves

  applies : (m : MailMessage) (me : Books) → Leaves e s (after_message me s m)
  applies message.Root me = beside refl refl
  applies (message.ForwardRequest r) me = by_request r _ (marked (record { worker = refl; released = refl; kind = refl; target = refl; deadline = refl; sent = λ h. unsent_applied h }) refl refl)
  applies (message.ForwardTimer z) me = by_sleeper z _ (noted refl refl refl (λ h. unsent_applied h))
  applies (message.CancelRequest r) me = by_request r (dropped (request_of s r)) (drop_turns e r (request_of s r))
  applies (message.CancelTimer z) me = by_sleeper z (removed (sleeper_of s z)) (removed_naps e z (sleeper_of s z))

  by_post : (to : ℕ) (m : MailMessage) (choice : Choice) → Leaves e s (after_post s to m choice)
  by_post to m choice = either (is_root_message m && is_left_out choice) s (set_seat s to (posted m (seat_of s to))) leaves (beside refl refl)

  told_sleepers : (r : ℕ) (n : OpResult) → (common_after_refusal s (request_of s r) n).sleepers ≡ s.sleepers
  told_sleepers r n = elim (cases_Bool (refuses_hint (judged_of (request_of s r) n))) [ inl refused ↦ rw refused refl | inr other ↦ rw other refl ]

  reaps : (r : ℕ) (n : OpResult) (outcome : Option Outcome) → moves_flight e ≡ true → IsPast (request_of s r) → Leaves e s (after_reap s i r n outcome)
  reaps r n outcome moves before =
      record {
        requests = set_turns e s.requests r (reaped n outcome (request_of s r)) (reap_turns e r (request_of s r) n outcome moves before);
        sleepers = λ z. subst (λ zs. Naps e z (sleeper_of s z) (get_or zs z no_sleeper)) (sym (told_sleepers r n)) napped;
      }

  gone : (z : ℕ) (x : Sleeper) → Naps e z x (gone_with i x)
  gone = grind arith

clears : (e : Event) (s : Common) (i t : ℕ) → Leaves e s (after_clear s i t)
clears e s i t =
    either (ends_by_clear (task_of s t).phase) (after_over (with_cleared s t) i t) (with_cleared s t) (leaves_then (beside refl refl) (over e (with_cleared s t) i t)) (beside refl refl)

-- a message that says that a task waits elsewhere says so of the one that it tells
sends : (s : Common) (to : ℕ) (polls : Option ℕ) (m : MailMessage) → Leaves (event.Send to m) s (after_sending s polls m)
sends s to None m = leaves
sends s to (Some t) message.Root = beside refl refl
sends s to (Some t) (message.ForwardRequest r) =
    leaves_then (by_request r _ (record { worker = refl; released = λ calm. refl; flying = λ calm. refl; timed = λ was. was; undated = λ was. was; let_go = λ was. was; sent = λ h. inr (eq-eqb r r refl); kind = refl; target = refl; gated = λ h. h; past = λ h. inl h })) (beside refl refl)
sends s to (Some t) (message.ForwardTimer z) = by_sleeper z _ (record { worker = refl; asleep = λ j was. was; sent = λ h. inr (eq-eqb z z refl) })
sends s to (Some t) (message.CancelRequest r) = beside refl refl
sends s to (Some t) (message.CancelTimer z) = leaves

-- it makes a request, or a sleeper
abbrev pub makes : Event → Bool
makes (event.Admit r kind outcome) = true
makes (event.Timer z until) = true
makes _ = false

module _ (c : Configuration) (me : Books) (s : Common) (i : ℕ) where
  pub leaves_each : (e : Event) (choice : Choice) → Allowed c me s i e choice → makes e ≡ false → Leaves e s (common_after c me s i e choice)
  leaves_each event.Turn Plain h calm = by_next event.Turn s i me.next
  leaves_each event.Turn (Pays payer) h calm = by_next event.Turn s i me.next
  leaves_each event.Turn (Posts payer left_out) h calm = by_next event.Turn s i me.next
  leaves_each (event.Pend t) choice h calm = pends (event.Pend t) s i t
  leaves_each (event.Done t) choice h calm = over (event.Done t) s i t
  leaves_each (event.Fault t n) choice h calm = over (event.Fault t n) s i t
  leaves_each (event.Spawn t n) choice h calm = leaves_then (by_word (event.Spawn t n) s i me.polls) (beside refl refl)
  leaves_each (event.Dedicated t n) choice h calm = leaves_then (by_word (event.Dedicated t n) s i me.polls) (beside refl refl)
  leaves_each event.Closed choice h calm = by_word event.Closed s i me.polls
  leaves_each (event.Clear t) choice h calm = clears (event.Clear t) s i t
  leaves_each (event.Admit r kind outcome) choice h calm = absurd (true≢false calm)
  leaves_each (event.Timer z until) choice h calm = absurd (true≢false calm)
  leaves_each (event.Wait (Some r)) choice h calm = leaves_then (by_request r (record (request_of s r) { waiter = Some (polled me) }) (marked (same refl refl refl refl refl refl) refl refl)) (beside refl refl)
  leaves_each (event.Got r outcome) choice h calm = leaves_then (by_request r (record (request_of s r) { observed = false }) (marked (same refl refl refl refl refl refl) refl refl)) (beside refl refl)
  leaves_each (event.Drop r) choice h calm = leaves_then (by_request r (dropped (request_of s r)) (drop_turns (event.Drop r) r (request_of s r))) (beside refl refl)
  leaves_each (event.Wake t) choice h calm = wakes (event.Wake t) s i me t choice
  leaves_each (event.Grant r outcome) choice h calm =
      let x = request_of s r in
      leaves_then (by_request r (granted outcome x) (grant_turns (event.Grant r outcome) r x outcome h.1.1.0 (given r outcome))) (beside refl refl)
  leaves_each (event.Enrol r outcome) choice h calm = grind (arith, by_request, enrol_turns, not-true)
  leaves_each (event.Stage r) choice h calm =
      let x = request_of s r in by_request r (staged s x) (goes_on (same refl refl refl refl refl refl) (λ calm. absurd (true≢false calm)) (queued_open x.phase h.1.1.1.0) refl refl refl (inl (queued_past x h.1.1.1.0)))
  leaves_each event.Enter choice h calm =
      record { requests = λ k. each_map no_request (Turns event.Enter k) (flown i) (λ x. flown_turns event.Enter k x i) turned s.requests k; sleepers = λ z. napped }
  leaves_each (event.Reap r n outcome) choice h calm = reaps (event.Reap r n outcome) s i r n outcome refl (landed_past n (request_of s r) h.1.1.1.0)
  leaves_each (event.Expire r outcome) choice h calm = by_request r (expired outcome (request_of s r)) (expire_turns (event.Expire r outcome) r (request_of s r) outcome (expires_queued (request_of s r) outcome h.1.1.0))
  leaves_each (event.Cancel r) choice h calm = by_request r (record (request_of s r) { cancel_staged = true }) (marked (same refl refl refl refl refl refl) refl refl)
  leaves_each (event.Orphan r outcome) choice h calm = by_request r (dropped (request_of s r)) (drop_turns (event.Orphan r outcome) r (request_of s r))
  leaves_each (event.Release r) choice h calm = grind (arith, by_request, true≢false, gone)
  leaves_each (event.Fire z) choice h calm = by_sleeper z (record (sleeper_of s z) { fired = true }) (fired_naps (event.Fire z) z (sleeper_of s z))
  leaves_each (event.Send to m) choice h calm = leaves_then (sends s to me.polls m) (by_post (event.Send to m) (after_sending s me.polls m) i to m choice)
  leaves_each (event.Apply m) choice h calm = leaves_then (applies (event.Apply m) s i m me) (beside refl refl)
  leaves_each event.End choice h calm =
      record { requests = λ k. turned; sleepers = λ z. each_map no_sleeper (Naps event.End z) (gone_with i) (gone event.End s i z) napped s.sleepers z }
  leaves_each _ choice h calm = beside refl refl
