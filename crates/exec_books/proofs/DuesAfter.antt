-- An event of another worker leaves what is due at a worker that sleeps.
use Rattle.std.{proofs.{Common.{◌≡◌, ◌≢◌, ℕ, ◌==◌, true, false, ◌&&◌, List, [], ◌∷◌, Option, Some, refl, sym, ◌∙◌, inl, inr, set, arith}, lemmas.Bool.{cases_Bool, eqb-true, ne_eqb}}, specs.Prelude.drop}
use Rattle.exec_outcomes.specs.{declared.outcome.{OpResult.OpResult, Outcome.Outcome}, Outcomes.refuses_hint}
use Rattle.exec_machine.specs.{declared.{config.Configuration.Configuration, event.Event.{Event, Event as event}, state.{MailMessage.MailMessage, Next.Next, Request.Request, Sleeper.Sleeper, Waiting.Waiting}}, After.{common_after, polled}, Choice.{Choice, Payer, Choice.{Plain, Passes, Pays, Posts}}, Closing.{after_clear, after_next, ends_by_clear, gone_with, with_cleared}, Deadlines.{expired, first_timer, first_until, rest_until}, Mail.{after_message, after_sending}, Requests.{after_reap, staged, common_after_refusal, dropped, flown, judged_of}, Tasks.{after_over, pended_phase, after_payment, after_pend, after_wake, after_word, requests_after_drops, sleepers_after_waking_up}, Tests.{is_staged, set_task}, World.{Common, Own as Books, Seat, request_of, seat_of, sleeper_of, task_of}}
use Rattle.exec_books.proofs.{Own.IsOwn, DuesLists.{Dues, Slept, Timed, beside, by_request, by_seats, by_sleeper, dues, dues_then, either, lies, posts, rouses, seat_apart, seat_push, slept_elsewhere, timed_elsewhere, timer_map, timer_push, timer_set, until_map, until_push, until_set}, Spares.{dropped_worker, granted_worker, enrolled_worker, reaped_worker, expired_worker, resolved_worker}}

flown_timed : (k i : ℕ) (r : Request) → Timed k r (flown i r)
flown_timed k i r m = elim (cases_Bool ((r.worker == i) && is_staged r.phase)) [ inl flies ↦ rw flies refl | inr stays ↦ rw stays refl ]

-- AN EVENT OF ANOTHER WORKER

module _ (c : Configuration) (me : Books) (s : Common) (i k : ℕ) (apart : k ≢ i) where
  elsewhere : (w : ℕ) → w ≡ i → (w == k) ≡ false
  elsewhere w own = ne_eqb w k (λ is. apart (sym is ∙ own))

  own_request : (r : ℕ) (y : Request) → (request_of s r).worker ≡ i → y.worker ≡ (request_of s r).worker → Timed k (request_of s r) y
  own_request r y own same = timed_elsewhere k (request_of s r) y (elsewhere (request_of s r).worker own) same

  own_sleeper : (z : ℕ) (y : Sleeper) → (sleeper_of s z).worker ≡ i → y.worker ≡ (sleeper_of s z).worker → Slept k (sleeper_of s z) y
  own_sleeper z y own same = slept_elsewhere k (sleeper_of s z) y (elsewhere (sleeper_of s z).worker own) same

  own_seat : (y : Seat) → Dues k s (record s { seats = set s.seats i y })
  own_seat y = by_seats (set s.seats i y) (seat_apart s i y k apart)

  -- what a task held
  drops : (held : List ℕ) (rs : List Request) → first_timer k (requests_after_drops i held rs) ≡ first_timer k rs
  drops [] rs = refl
  drops (r ∷ held) rs = grind (arith, timer_set, timed_elsewhere, elsewhere, eqb-true, dropped_worker, drops held)

  wakes_up : (what : Waiting) → first_until k (sleepers_after_waking_up s i what) ≡ first_until k s.sleepers
  wakes_up = grind (arith, until_set, own_sleeper, eqb-true)

  over : (t : ℕ) → Dues k s (after_over s i t)
  over t = record { clock = refl; timers = drops (task_of s t).held s.requests; sleepers = wakes_up (task_of s t).waiting; seat = lies (seat_of s k) }

  pends : (t : ℕ) → Dues k s (after_pend s i t)
  pends t = either (task_of s t).cleared (after_over s i t) (set_task s t (record (task_of s t) { phase = pended_phase (task_of s t).phase })) (over t) (beside refl refl refl refl)

  after_next_dues : (n : Next) → Dues k s (after_next s i n)
  after_next_dues = grind (arith, dues, beside, own_seat)

  gone : (z : Sleeper) → Slept k z (gone_with i z)
  gone = grind arith

  word : (polls : Option ℕ) → Dues k s (after_word s polls)
  word = grind (arith, dues, beside)

  pays : (polls : Option ℕ) (payer : Payer) → Dues k s (after_payment s polls payer)
  pays = grind (arith, by_request, by_sleeper, dues, beside)

  wakes : (t : ℕ) (choice : Choice) → Dues k s (after_wake me s t choice)
  wakes = grind (arith, dues_then, pays, beside, dues)

  sends : (polls : Option ℕ) (m : MailMessage) → Dues k s (after_sending s polls m)
  sends = grind (arith, dues, beside, dues_then, by_request, by_sleeper)

  applies : (m : MailMessage) → IsOwn s i (event.Apply m) → Dues k s (after_message me s m)
  applies = grind (arith, beside, by_request, by_sleeper, own_request, dropped_worker, own_sleeper)

  told_clock : (r : ℕ) (n : OpResult) → (common_after_refusal s (request_of s r) n).clock ≡ s.clock
  told_clock r n = elim (cases_Bool (refuses_hint (judged_of (request_of s r) n))) [ inl refused ↦ rw refused refl | inr other ↦ rw other refl ]

  told_sleepers : (r : ℕ) (n : OpResult) → (common_after_refusal s (request_of s r) n).sleepers ≡ s.sleepers
  told_sleepers r n = elim (cases_Bool (refuses_hint (judged_of (request_of s r) n))) [ inl refused ↦ rw refused refl | inr other ↦ rw other refl ]

  reaps : (r : ℕ) (n : OpResult) (outcome : Option Outcome) → (request_of s r).worker ≡ i → Dues k s (after_reap s i r n outcome)
  reaps = grind (arith, told_clock, timer_set, own_request, reaped_worker, told_sleepers, seat_apart)

module _ (c : Configuration) (me : Books) (s : Common) (i k : ℕ) (apart : k ≢ i) where
  clears : (t : ℕ) → Dues k s (after_clear s i t)
  clears t =
      either (ends_by_clear (task_of s t).phase) (after_over (with_cleared s t) i t) (with_cleared s t)
      (dues_then (beside refl refl refl refl) (over c me (with_cleared s t) i k apart t)) (beside refl refl refl refl)

  -- An event of another worker leaves what is due at worker k, where it sleeps.
  pub event_dues : (e : Event) (choice : Choice) → IsOwn s i e → Dues k s (common_after c me s i e choice)
  event_dues event.Turn Plain own = after_next_dues c me s i k apart me.next
  event_dues event.Turn Passes own = own_seat c me s i k apart (record (seat_of s i) { left = true })
  event_dues event.Turn (Pays payer) own = after_next_dues c me s i k apart me.next
  event_dues event.Turn (Posts payer left_out) own = after_next_dues c me s i k apart me.next
  event_dues (event.Pend t) choice own = pends c me s i k apart t
  event_dues (event.Done t) choice own = over c me s i k apart t
  event_dues (event.Fault t n) choice own = over c me s i k apart t
  event_dues (event.Spawn t n) choice own = dues_then (word c me s i k apart me.polls) (beside refl refl refl refl)
  event_dues (event.Dedicated t n) choice own = grind (arith, word, seat_push)
  event_dues event.Closed choice own = word c me s i k apart me.polls
  event_dues (event.Clear t) choice own = clears t
  event_dues (event.Admit r kind outcome) choice own = grind (arith, timer_push, elsewhere, resolved_worker, lies)
  event_dues (event.Wait (Some r)) choice own = dues_then (by_request r (record (request_of s r) { waiter = Some (polled me) }) (λ m. refl)) (beside refl refl refl refl)
  event_dues (event.Got r outcome) choice own = dues_then (by_request r (record (request_of s r) { observed = false }) (λ m. refl)) (beside refl refl refl refl)
  event_dues (event.Drop r) choice own =
      let y : Request = dropped (request_of s r) in dues_then (by_request r y (own_request c me s i k apart r y own (dropped_worker (request_of s r)))) (beside refl refl refl refl)
  event_dues (event.Timer z until) choice own = grind (arith, until_push, elsewhere, lies)
  event_dues (event.Wake t) choice own = wakes c me s i k apart t choice
  event_dues (event.Grant r outcome) choice own = grind (arith, dues_then, by_request, own_request, granted_worker, beside)
  event_dues (event.Enrol r outcome) choice own = grind (arith, by_request, own_request, enrolled_worker)
  event_dues (event.Stage r) choice own = by_request r (staged s (request_of s r)) (λ m. refl)
  event_dues event.Enter choice own = record { clock = refl; timers = timer_map k (flown i) (flown_timed k i) s.requests; sleepers = refl; seat = lies (seat_of s k) }
  event_dues event.Busy choice own = own_seat c me s i k apart (record (seat_of s i) { busy = false })
  event_dues (event.Reap r n outcome) choice own = reaps c me s i k apart r n outcome own
  event_dues (event.Expire r outcome) choice own =
      let y : Request = expired outcome (request_of s r) in by_request r y (own_request c me s i k apart r y own (expired_worker outcome (request_of s r)))
  event_dues (event.Cancel r) choice own = by_request r (record (request_of s r) { cancel_staged = true }) (λ m. refl)
  event_dues (event.Orphan r outcome) choice own =
      let y : Request = dropped (request_of s r) in by_request r y (own_request c me s i k apart r y own (dropped_worker (request_of s r)))
  event_dues (event.Release r) choice own = by_request r (record (request_of s r) { released = true }) (λ m. refl)
  event_dues (event.Fire z) choice own =
      let y : Sleeper = record (sleeper_of s z) { fired = true } in by_sleeper z y (own_sleeper c me s i k apart z y own refl)
  event_dues (event.Send to m) choice own = dues_then (sends c me s i k apart me.polls m) (posts k (after_sending s me.polls m) to m choice)
  event_dues (event.Apply m) choice own =
      let told = after_message me s m in
      let y : Seat = record (seat_of s i) { inbox = drop 1 (seat_of s i).inbox } in
      dues_then (applies c me s i k apart m own) (own_seat c me told i k apart y)
  event_dues (event.Rouse other) choice own = rouses k s other
  event_dues (event.Sleep until) choice own = own_seat c me s i k apart (record (seat_of s i) { rest = rest_until until })
  event_dues event.Close choice own = grind (arith, dues_then, own_seat, beside)
  event_dues event.End choice own = grind (arith, until_map, gone, seat_apart)
  event_dues _ choice own = beside refl refl refl refl
