-- Of each event: whether a request that somebody holds is over by it, or a sleeper fires by it. Few do that.
use Rattle.std.{proofs.{Common.{◌≡◌, ℕ, zero, suc, Bool, true, false, ◌&&◌, ◌==◌, List, [], ◌∷◌, ◌++◌, map, Option, Some, refl, sym, ◌∙◌, subst, inl, inr, get_or, set, if◌then◌else◌, arith}, lemmas.Bool.{true≢false, false≢true}}, specs.Prelude.◌⊎◌}
use Rattle.exec_machine.specs.{declared.{config.Configuration.Configuration, event.Event.{Event, Event as event}, state.{MailMessage.{MailMessage, MailMessage as message}, Request.Request, Sleeper.Sleeper, Waiting.{Waiting, Waiting as waiting}}}, After.{common_after, polled}, Choice.{Choice, Payer}, Closing.{after_turn, ends_by_clear, gone_with, with_cleared}, Deadlines.new_sleeper, Mail.{after_message, after_sending, is_left_out, is_root_message, posted}, Requests.{account_of_open, asked_now, dropped, flown, judged_of, new_request, resolved_if, with_seen}, Tasks.{after_over, after_payment, after_wake, after_word, pended_phase, requests_after_drops, sleepers_after_waking_up}, Tests.{is_resolved, set_open, set_seat, set_task}, World.{Common, Own as Books, no_request, no_sleeper, open_of, request_of, seat_of, sleeper_of, task_of}}
use Rattle.exec_outcomes.specs.{declared.outcome.OpResult.OpResult, Outcomes.refuses_hint}
use Rattle.exec_books.proofs.Spares.{dropped_worker}

-- a request that somebody holds may be over by it, or a sleeper fires
abbrev pub is_ending : Event → Bool
is_ending (event.Reap r n outcome) = true
is_ending (event.Expire r outcome) = true
is_ending (event.Enrol r outcome) = true
is_ending (event.Grant r outcome) = true
is_ending (event.Fire z) = true
is_ending _ = false

abbrev pub is_firing : Event → Bool
is_firing (event.Fire z) = true
is_firing _ = false

-- it says of itself what has to be so after it
abbrev pub is_saying : Event → Bool
is_saying (event.Wait (Some k)) = true
is_saying (event.Begin t) = true
is_saying (event.Apply (message.ForwardRequest k)) = true
is_saying (event.Apply (message.ForwardTimer z)) = true
is_saying _ = false

-- LISTS

-- each element is as before, or changed so
pub all_set : {A : Type 0} (P : A → A → Type 0) (d : A) → ((x : A) → P x x) → (xs : List A) (r : ℕ) (y : A) → P (get_or xs r d) y → (k : ℕ) → P (get_or xs k d) (get_or (set xs r y) k d)
all_set P d same [] r y h k = same d
all_set P d same (x ∷ xs) zero y h zero = h
all_set P d same (x ∷ xs) zero y h (suc k) = same (get_or xs k d)
all_set P d same (x ∷ xs) (suc r) y h zero = same x
all_set P d same (x ∷ xs) (suc r) y h (suc k) = all_set P d same xs r y h k

all_pushed : {A : Type 0} (P : A → A → Type 0) (d : A) → ((x : A) → P x x) → (xs : List A) (y : A) → P d y → (k : ℕ) → P (get_or xs k d) (get_or (xs ++ y ∷ []) k d)
all_pushed P d same [] y h zero = h
all_pushed P d same [] y h (suc k) = same d
all_pushed P d same (x ∷ xs) y h zero = same x
all_pushed P d same (x ∷ xs) y h (suc k) = all_pushed P d same xs y h k

all_mapped : {A : Type 0} (P : A → A → Type 0) (d : A) → ((x : A) → P x x) → (f : A → A) → ((x : A) → P x (f x)) → (xs : List A) (k : ℕ) → P (get_or xs k d) (get_or (map f xs) k d)
all_mapped P d same f h [] k = same d
all_mapped P d same f h (x ∷ xs) zero = h x
all_mapped P d same f h (x ∷ xs) (suc k) = all_mapped P d same f h xs k

-- REQUESTS

-- where it is over then and somebody holds it, it was over before
abbrev pub Lasts : Request → Request → Type 0
Lasts x y = is_resolved y.phase ≡ true → y.observed ≡ true → is_resolved x.phase ≡ true

abbrev pub AllLast : List Request → List Request → Type 0
AllLast xs ys = (k : ℕ) → Lasts (get_or xs k no_request) (get_or ys k no_request)

pub lasts : (x : Request) → Lasts x x
lasts x over held = over

pub same_last : {xs ys : List Request} → ys ≡ xs → AllLast xs ys
same_last {xs} is = subst (AllLast xs) (sym is) (λ k. lasts (get_or xs k no_request))

pub dropped_observed : (x : Request) → (dropped x).observed ≡ false
dropped_observed = grind arith

unheld : (x y : Request) → y.observed ≡ false → Lasts x y
unheld x y gone over held = absurd (true≢false (sym held ∙ gone))

-- each is as before, or nobody holds it any more; its worker stays
pub record Drops (x y : Request) : Type 0 where
  pub either : (y ≡ x) ⊎ (y.observed ≡ false)
  pub worker : y.worker ≡ x.worker

pub undropped : (x : Request) → Drops x x
undropped x = record { either = inl refl; worker = refl }

pub is_dropped : (x : Request) → Drops x (dropped x)
is_dropped x = record { either = inr (dropped_observed x); worker = dropped_worker x }

then_dropped : (x y z : Request) → Drops x y → Drops y z → Drops x z
then_dropped = grind arith

abbrev pub AllDrop : List Request → List Request → Type 0
AllDrop xs ys = (k : ℕ) → Drops (get_or xs k no_request) (get_or ys k no_request)

-- one more of those that a task held
pub one_dropped : (i r : ℕ) (xs : List Request) → AllDrop xs (if (get_or xs r no_request).worker == i then set xs r (dropped (get_or xs r no_request)) else xs)
one_dropped i r xs k = by ((get_or xs r no_request).worker == i)
  where
    by : (own : Bool) → Drops (get_or xs k no_request) (get_or (if own then set xs r (dropped (get_or xs r no_request)) else xs) k no_request)
    by true = all_set Drops no_request undropped xs r (dropped (get_or xs r no_request)) (is_dropped (get_or xs r no_request)) k
    by false = undropped (get_or xs k no_request)

pub drops : (i : ℕ) (held : List ℕ) (xs : List Request) → AllDrop xs (requests_after_drops i held xs)
drops i [] xs k = undropped (get_or xs k no_request)
drops i (r ∷ held) xs k = then_dropped (get_or xs k no_request) _ _ (one_dropped i r xs k) (drops i held _ k)

drops_last : (xs ys : List Request) → AllDrop xs ys → AllLast xs ys
drops_last = grind arith

flown_lasts : (i : ℕ) (x : Request) → Lasts x (flown i x)
flown_lasts = grind arith

-- BY EVENT
module _ (c : Configuration) (me : Books) (s : Common) (i : ℕ) (choice : Choice) where
  abbrev all_last : Common → Type 0
  all_last late = AllLast s.requests late.requests

  one : (r : ℕ) (y : Request) → Lasts (request_of s r) y → AllLast s.requests (set s.requests r y)
  one r y h = all_set Lasts no_request lasts s.requests r y h

  drop_one : (r : ℕ) → AllLast s.requests (set s.requests r (dropped (request_of s r)))
  drop_one r = one r (dropped (request_of s r)) (unheld (request_of s r) (dropped (request_of s r)) (dropped_observed (request_of s r)))

  by_turn : (by : Choice) → all_last (after_turn me s i by)
  by_turn = grind arith

  by_pend : (t : ℕ) (cleared : Bool) → all_last (if cleared then after_over s i t else set_task s t (record (task_of s t) { phase = pended_phase (task_of s t).phase }))
  by_pend = grind (arith, drops_last, drops, same_last)

  by_clear : (t : ℕ) (ends : Bool) → all_last (if ends then after_over (with_cleared s t) i t else with_cleared s t)
  by_clear = grind (arith, drops_last, drops, same_last)

  by_word : (polls : Option ℕ) → all_last (after_word s polls)
  by_word = grind (arith, same_last)

  by_payment : (polls : Option ℕ) (payer : Payer) → all_last (after_payment s polls payer)
  by_payment = grind (arith, one, lasts, same_last)

  by_wake : (t : ℕ) (by : Choice) → all_last (after_wake me s t by)
  by_wake = grind (arith, same_last, by_payment)

  by_sending : (polls : Option ℕ) (m : MailMessage) → all_last (after_sending s polls m)
  by_sending = grind (arith, same_last, one, lasts)

  posts_last : (late : Common) (to : ℕ) (m : MailMessage) (left_out : Bool) → all_last late → all_last (if left_out then late else set_seat late to (posted m (seat_of late to)))
  posts_last = grind arith

  by_message : (m : MailMessage) → all_last (after_message me s m)
  by_message = grind (arith, same_last, one, lasts, drop_one)

  pub last_by : (e : Event) → is_ending e ≡ false → all_last (common_after c me s i e choice)
  last_by event.Turn h = by_turn choice
  last_by (event.Pend t) h = by_pend t (task_of s t).cleared
  last_by (event.Done t) h = drops_last s.requests _ (drops i (task_of s t).held s.requests)
  last_by (event.Fault t n) h = drops_last s.requests _ (drops i (task_of s t).held s.requests)
  last_by (event.Spawn t k) h = by_word me.polls
  last_by (event.Dedicated t k) h = by_word me.polls
  last_by event.Closed h = by_word me.polls
  last_by (event.Clear t) h = by_clear t (ends_by_clear (task_of s t).phase)
  last_by (event.Admit r kind outcome) h = all_pushed Lasts no_request lasts s.requests (resolved_if outcome (new_request i (with_seen (asked_now c me s) s))) (λ over held. refl)
  last_by (event.Wait (Some r)) h = one r _ (lasts (request_of s r))
  last_by (event.Got r outcome) h = one r _ (λ over held. over)
  last_by (event.Drop r) h = drop_one r
  last_by (event.Wake t) h = by_wake t choice
  last_by (event.Stage r) h = one r _ (λ over held. absurd (false≢true over))
  last_by event.Enter h = all_mapped Lasts no_request lasts (flown i) (flown_lasts i) s.requests
  last_by (event.Cancel r) h = one r _ (lasts (request_of s r))
  last_by (event.Orphan r outcome) h = drop_one r
  last_by (event.Release r) h = one r _ (lasts (request_of s r))
  last_by (event.Send to m) h = posts_last (after_sending s me.polls m) to m (is_root_message m && is_left_out choice) (by_sending me.polls m)
  last_by (event.Apply m) h = by_message m
  last_by (event.Reap r n outcome) h = absurd (true≢false h)
  last_by (event.Expire r outcome) h = absurd (true≢false h)
  last_by (event.Enrol r outcome) h = absurd (true≢false h)
  last_by (event.Grant r outcome) h = absurd (true≢false h)
  last_by (event.Fire z) h = absurd (true≢false h)
  last_by _ h = same_last refl

-- SLEEPERS

-- one that has fired then had before
abbrev pub Sleeps : Sleeper → Sleeper → Type 0
Sleeps x y = y.fired ≡ true → x.fired ≡ true

abbrev pub AllSleep : List Sleeper → List Sleeper → Type 0
AllSleep xs ys = (z : ℕ) → Sleeps (get_or xs z no_sleeper) (get_or ys z no_sleeper)

pub sleeps : (x : Sleeper) → Sleeps x x
sleeps x fired = fired

pub same_sleep : {xs ys : List Sleeper} → ys ≡ xs → AllSleep xs ys
same_sleep {xs} is = subst (AllSleep xs) (sym is) (λ z. sleeps (get_or xs z no_sleeper))

gone_sleeps : (i : ℕ) (x : Sleeper) → Sleeps x (gone_with i x)
gone_sleeps = grind arith

module _ (c : Configuration) (me : Books) (s : Common) (i : ℕ) (choice : Choice) where
  abbrev all_sleep : Common → Type 0
  all_sleep late = AllSleep s.sleepers late.sleepers

  one_more : (z : ℕ) (y : Sleeper) → Sleeps (sleeper_of s z) y → AllSleep s.sleepers (set s.sleepers z y)
  one_more z y h = all_set Sleeps no_sleeper sleeps s.sleepers z y h

  turn_sleeps : (by : Choice) → all_sleep (after_turn me s i by)
  turn_sleeps = grind arith

  over_sleeps : (w : Waiting) → AllSleep s.sleepers (sleepers_after_waking_up s i w)
  over_sleeps = grind (arith, one_more, sleeps, same_sleep)

  pend_sleeps : (t : ℕ) (cleared : Bool) → all_sleep (if cleared then after_over s i t else set_task s t (record (task_of s t) { phase = pended_phase (task_of s t).phase }))
  pend_sleeps = grind (arith, over_sleeps, same_sleep)

  -- the sleepers are those of before then too
  cleared_sleeps : (t : ℕ) (w : Waiting) → AllSleep s.sleepers (sleepers_after_waking_up (with_cleared s t) i w)
  cleared_sleeps t (waiting.Timer z) = over_sleeps (waiting.Timer z)
  cleared_sleeps t waiting.Nothing = same_sleep refl
  cleared_sleeps t (waiting.Request r) = same_sleep refl
  cleared_sleeps t waiting.Wake = same_sleep refl
  cleared_sleeps t waiting.Woken = same_sleep refl
  cleared_sleeps t waiting.Yielded = same_sleep refl

  clear_sleeps : (t : ℕ) (ends : Bool) → all_sleep (if ends then after_over (with_cleared s t) i t else with_cleared s t)
  clear_sleeps = grind (arith, cleared_sleeps, same_sleep)

  word_sleeps : (polls : Option ℕ) → all_sleep (after_word s polls)
  word_sleeps = grind (arith, same_sleep)

  payment_sleeps : (polls : Option ℕ) (payer : Payer) → all_sleep (after_payment s polls payer)
  payment_sleeps = grind (arith, same_sleep, one_more, sleeps)

  wake_sleeps : (t : ℕ) (by : Choice) → all_sleep (after_wake me s t by)
  wake_sleeps = grind (arith, same_sleep, payment_sleeps)

  sending_sleeps : (polls : Option ℕ) (m : MailMessage) → all_sleep (after_sending s polls m)
  sending_sleeps = grind (arith, same_sleep, one_more, sleeps)

  post_sleeps : (late : Common) (to : ℕ) (m : MailMessage) (left_out : Bool) → all_sleep late → all_sleep (if left_out then late else set_seat late to (posted m (seat_of late to)))
  post_sleeps = grind arith

  message_sleeps : (m : MailMessage) → all_sleep (after_message me s m)
  message_sleeps = grind (arith, same_sleep, one_more, sleeps)

  reap_sleeps : (r : ℕ) (n : OpResult) (refused : Bool) → AllSleep s.sleepers (if refused then set_open s (request_of s r).operation.target (record (open_of s (request_of s r).operation.target) { account = record (account_of_open s (request_of s r)) { hinted = false } }) else s).sleepers
  reap_sleeps = grind (arith, same_sleep)

  pub asleep_by : (e : Event) → is_firing e ≡ false → all_sleep (common_after c me s i e choice)
  asleep_by event.Turn h = turn_sleeps choice
  asleep_by (event.Pend t) h = pend_sleeps t (task_of s t).cleared
  asleep_by (event.Done t) h = over_sleeps (task_of s t).waiting
  asleep_by (event.Fault t n) h = over_sleeps (task_of s t).waiting
  asleep_by (event.Spawn t k) h = word_sleeps me.polls
  asleep_by (event.Dedicated t k) h = word_sleeps me.polls
  asleep_by event.Closed h = word_sleeps me.polls
  asleep_by (event.Clear t) h = clear_sleeps t (ends_by_clear (task_of s t).phase)
  asleep_by (event.Wait (Some r)) h = same_sleep refl
  asleep_by (event.Timer z until) h = all_pushed Sleeps no_sleeper sleeps s.sleepers (new_sleeper until i (polled me)) (λ fired. refl)
  asleep_by (event.Wake t) h = wake_sleeps t choice
  asleep_by (event.Reap r n outcome) h = reap_sleeps r n (refuses_hint (judged_of (request_of s r) n))
  asleep_by (event.Send to m) h = post_sleeps (after_sending s me.polls m) to m (is_root_message m && is_left_out choice) (sending_sleeps me.polls m)
  asleep_by (event.Apply m) h = message_sleeps m
  asleep_by event.End h = all_mapped Sleeps no_sleeper sleeps (gone_with i) (gone_sleeps i) s.sleepers
  asleep_by (event.Fire z) h = absurd (true≢false h)
  asleep_by _ h = same_sleep refl
