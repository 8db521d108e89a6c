-- The step of a worker leaves no task waiting for what has come.
use Rattle.std.{proofs.{Common.{◌≡◌, ℕ, ◌<◌, ◌==◌, Bool, true, false, ◌&&◌, ◌||◌, length, Option, Some, None, refl, sym, ap, ◌∙◌, subst, inl, inr, arith}, lemmas.Bool.{true≢false, false≢true, cases_Bool, cases_eq, eqb-true}}, specs.Prelude.{◌⊎◌, not, slice_get}}
use Rattle.exec_machine.specs.{declared.{config.Configuration.Configuration, state.{Forwarding.{Forwarding, Forwarding as forwarding}, MailMessage.{MailMessage, MailMessage as message}, Waiting.Waiting as waiting}, event.Event.Event as event, step.Action.Action as action}, After.common_after, Allowed.Allowed, Callers.is_enabled, Mail.is_first_message, Same.same_message, Tasks.{begun_waiting, may_stop}, Tests.{is_applied, is_done, is_resolved, is_unsent}, World.{Common, Own as Books, own_of, request_of, seat_of, sleeper_of, task_of}}
use Rattle.exec_moves.specs.{declared.{handing.{AfterCallbacks.AfterCallbacks, Heard.Heard}, place.{InCallbacks.InCallbacks, Place.Place}}, Plays.{Playing, by_move, desk_of}, Poll.after_begin, Slots.{is_in_slots, numbers_in}, State.{Moved, Things}, Told.has_number}
use Rattle.exec_books.{specs.Booked.{FirstIsOwn, IsOwnMessage}, proofs.{Own.{IsOwn, own_by_mail}, Spares.{same_worker, spares}}}
use Rattle.exec_rest.specs.Rested.{IsLaidOut}
use Rattle.exec_settled.{specs.{Awaited.{IsAwaited, IsToBeWoken, IsToHear}, Given.{IsGiven, IsSleptBy, IsWaitedFor, WaitsFor}}, proofs.{AwaitedRequests.{Forwarded, Waited, begins_elsewhere, begins_here, forwarded}, AwaitedSleepers.{Dozed, begins_sleep, dozed}, AwaitedStep.{desk_then, for_request, for_timer, hears_next, still_hears, still_woken, stops_not, takes_request, takes_timer}, Tells.Tells}}

-- A forward that is applied is of a request or a sleeper of its own.
abbrev IsOwnForward : Common → ℕ → MailMessage → Type 0
IsOwnForward s i (message.ForwardRequest k) = (request_of s k).worker ≡ i
IsOwnForward s i (message.ForwardTimer z) = (sleeper_of s z).worker ≡ i
IsOwnForward s i _ = Unit {0}

first_own : (s : Common) (i : ℕ) (m : MailMessage) (first : Option MailMessage) → slice_get (seat_of s i).inbox 0 ≡ first → is_first_message m (seat_of s i) ≡ true → FirstIsOwn s i → IsOwnForward s i m
first_own s i m None is h own = let none : is_first_message m (seat_of s i) ≡ false = rw is refl in absurd (false≢true (sym none ∙ h))
first_own s i m (Some first) is h own = alike m first (sym (rw is refl) ∙ h) (own first is)
  where
    alike : (m first : MailMessage) → same_message m first ≡ true → IsOwnMessage s i first → IsOwnForward s i m
    alike = grind arith

-- FORWARDING is one of three
sent_unsent : {T : Type 0} (f : Forwarding) → f ≡ forwarding.Sent → f ≡ forwarding.Unsent → T
sent_unsent f p q = absurd (false≢true (ap is_unsent (sym p ∙ q)))

sent_applied : {T : Type 0} (f : Forwarding) → f ≡ forwarding.Sent → f ≡ forwarding.Applied → T
sent_applied f p q = absurd (false≢true (ap is_applied (sym p ∙ q)))

applied_unsent : {T : Type 0} (f : Forwarding) → f ≡ forwarding.Applied → f ≡ forwarding.Unsent → T
applied_unsent f p q = absurd (false≢true (ap is_unsent (sym p ∙ q)))

module _ (c : Configuration) (x : Playing) (laid : IsLaidOut c x) (i : ℕ) (m : Moved Things) (may : is_enabled x.world.common (action.Work i) ≡ true)
    (allows : Allowed c (own_of x.world i) x.world.common i m.event m.choice)
    (born : (t k : ℕ) → m.event ≡ event.Dedicated t k → k ≡ length x.world.common.seats)
    (tells : Tells i x.world.common (desk_of c x i) x.things m (common_after c (own_of x.world i) x.world.common i m.event m.choice))
    (given : IsGiven c x) (later : IsGiven c (by_move c x i m).next) (before : IsAwaited c x) where
  abbrev s : Common
  s = x.world.common

  abbrev me : Books
  me = own_of x.world i

  abbrev late : Common
  late = common_after c (own_of x.world i) x.world.common i m.event m.choice

  abbrev next : Playing
  next = (by_move c x i m).next

  own : IsOwn s i m.event
  own = own_by_mail c me s i m.event m.choice (given.first i) allows

  -- A TASK THAT BEGINS TO WAIT

  begun : (k : ℕ) → m.event ≡ event.Wait (Some k) → (Waited (request_of s k) (request_of late k)) × ((request_of s k).worker ≡ i) × ((request_of s k).forwarding ≡ forwarding.Unsent) × (is_resolved (request_of s k).phase ≡ false)
  begun k is = (
    subst (λ e. Waited (request_of s k) (request_of (common_after c me s i e m.choice) k)) (sym is) (begins_here c me s i m.choice k),
    eqb-true (request_of s k).worker i tests.1.1.0,
    unsent (request_of s k).forwarding tests.1.1.1.0,
    unresolved (is_resolved (request_of s k).phase) tests.1.1.1.1.0,
  )
    where
      tests : Allowed c me s i (event.Wait (Some k)) m.choice
      tests = subst (λ e. Allowed c me s i e m.choice) is allows

      unsent : (f : Forwarding) → is_unsent f ≡ true → f ≡ forwarding.Unsent
      unsent forwarding.Unsent h = refl
      unsent _ h = absurd (false≢true h)

      unresolved : (b : Bool) → not b ≡ true → b ≡ false
      unresolved true h = absurd (false≢true h)
      unresolved false h = refl

  asked : (k to : ℕ) → k < length late.requests → m.event ≡ event.Send to (message.ForwardRequest k) → (request_of late k).forwarding ≡ forwarding.Sent
  asked k to within is =
      subst (λ e. Allowed c me s i e m.choice → k < length (common_after c me s i e m.choice).requests → (request_of (common_after c me s i e m.choice) k).forwarding ≡ forwarding.Sent) (sym is)
      (begins_elsewhere c me s i m.choice k to) allows within

  -- A REQUEST THAT IS WAITED FOR

  module _ (t k : ℕ) (w : WaitsFor late t (waiting.Request k)) (was : WaitsFor s t (waiting.Request k)) where
    held : IsWaitedFor s t k
    held = given.waits.requests t k was

    change : Forwarded m.event k (request_of s k) (request_of late k)
    change = forwarded c me s i m.event m.choice allows k held.there

    worker_same : (request_of late k).worker ≡ (request_of s k).worker
    worker_same = same_worker c me s i m.event m.choice k held.there

    -- one that ends is of worker i
    ended_here : is_resolved (request_of s k).phase ≡ false → is_resolved (request_of late k).phase ≡ true → (request_of s k).worker ≡ i
    ended_here unended over = elim (cases_eq (request_of s k).worker i) [
      | inl here ↦ here
      | inr apart ↦ absurd (true≢false (sym over ∙ ap is_resolved (spares c me s i m.event m.choice own k held.there apart).phase ∙ unended))
    ]

    unsent_before : (request_of late k).forwarding ≡ forwarding.Unsent → (request_of s k).forwarding ≡ forwarding.Unsent
    unsent_before unsent = elim change.how [
      | inl same ↦ sym same ∙ unsent
      | inr (inl sent) ↦ sent_unsent (request_of late k).forwarding sent unsent
      | inr (inr applied) ↦ applied_unsent (request_of late k).forwarding applied.1 unsent
    ]

    open_before : is_resolved (request_of late k).phase ≡ false → is_resolved (request_of s k).phase ≡ false
    open_before unended = elim (cases_Bool (is_resolved (request_of s k).phase)) [
      | inl over ↦ absurd (true≢false (sym (change.over over) ∙ unended))
      | inr h ↦ h
    ]

    observed_late : (request_of late k).observed ≡ true
    observed_late = (later.waits.requests t k w).observed

    in_slot : is_resolved (request_of s k).phase ≡ false → (request_of s k).worker ≡ i → has_number k (numbers_in (desk_of c x i).requests.held) ≡ true
    in_slot unended here = subst (λ j. has_number k (numbers_in (desk_of c x j).requests.held) ≡ true) here (given.slots k unended)

    here_still : (request_of late k).forwarding ≡ forwarding.Unsent → is_resolved (request_of late k).phase ≡ false → has_number k (desk_of c next (request_of late k).worker).awaited ≡ true
    here_still unsent unended =
        let stood = before.here t k was (unsent_before unsent) (open_before unended) in
        subst (λ j. has_number k (desk_of c next j).awaited ≡ true) (sym worker_same)
        (desk_then c x laid i m may allows born tells (λ d. has_number k d.awaited ≡ true) (request_of s k).worker
        (λ own_one. tells.awaited k (subst (λ j. has_number k (desk_of c x j).awaited ≡ true) own_one stood) (in_slot (open_before unended) own_one) unended unsent observed_late)
        (λ apart. stood))

    stays : (request_of s k).forwarding ≡ forwarding.Unsent → is_resolved (request_of s k).phase ≡ true → may_stop s i (task_of s t).waiting ≡ false
    stays unsent over =
        subst (λ what. may_stop s i what ≡ false) (sym was.waits) (stops_not (request_of s k).forwarding ((request_of s k).worker == i) (is_resolved (request_of s k).phase) unsent over)

    woken_still : (request_of late k).forwarding ≡ forwarding.Unsent → is_resolved (request_of late k).phase ≡ true → IsToBeWoken c next (request_of late k).worker t
    woken_still unsent over = subst (λ j. IsToBeWoken c next j t) (sym worker_same) (elim (cases_Bool (is_resolved (request_of s k).phase)) [
      | inl long ↦
          still_woken c x laid i m may allows born tells (request_of s k).worker t w.going (stays (unsent_before unsent) long)
          (before.woken t k was (unsent_before unsent) long)
      | inr unended ↦
          let mine = ended_here unended over in
          let booked = subst (λ j. has_number k (desk_of c x j).awaited ≡ true) mine (before.here t k was (unsent_before unsent) unended) in
          inr (desk_then c x laid i m may allows born tells (λ d. has_number t d.wakes ≡ true) (request_of s k).worker
          (λ own_one. tells.ends_here k t unended over held.observed observed_late (ap is_applied (unsent_before unsent)) booked held.waiter)
          (λ apart. absurd (apart mine)))
    ])

    -- what is to be told of a request
    abbrev IsTold : ℕ → Type 0
    IsTold j = (has_number k (desk_of c next j).results ≡ true) ⊎ ((has_number k m.thing.answers ≡ true) × IsToHear c next j t (Heard.Request k))

    hears_still : (request_of s k).forwarding ≡ forwarding.Applied → is_resolved (request_of s k).phase ≡ true → has_number k x.things.answers ≡ true
        → IsToHear c x (request_of s k).worker t (Heard.Request k) → IsToHear c next (request_of s k).worker t (Heard.Request k)
    hears_still applied over sent =
        still_hears c x laid i m may allows born tells (request_of s k).worker t (Heard.Request k) w.going (ap (λ what. after_begin (begun_waiting what)) was.waits)
        (λ at.
        let taken = tells.resumes t k at was.waits applied sent over in
        takes_request c x laid i m may allows born tells t was.going (given.polls i) at k k taken.0 was.waits taken.1 w.waits)

    told_still : (request_of s k).forwarding ≡ forwarding.Applied → is_resolved (request_of s k).phase ≡ true
        → (has_number k (desk_of c x (request_of s k).worker).results ≡ true) ⊎ ((has_number k x.things.answers ≡ true) × IsToHear c x (request_of s k).worker t (Heard.Request k))
        → IsTold (request_of s k).worker
    told_still applied over (inl due) =
        desk_then c x laid i m may allows born tells (λ d. (has_number k d.results ≡ true) ⊎ ((has_number k m.thing.answers ≡ true) × IsToHear c next (request_of s k).worker t (Heard.Request k))) (request_of s k).worker
        (λ own_one. elim (tells.results k (subst (λ j. has_number k (desk_of c x j).results ≡ true) own_one due)) [
          | inl still ↦ inl still
          | inr sent ↦ inr (sent.0, subst (λ j. IsToHear c next j t (Heard.Request k)) (sym own_one) (hears_next c x laid i m may allows born tells t (Heard.Request k) (sent.1 t held.waiter was.going)))
        ])
        (λ apart. inl due)
    told_still applied over (inr heard) = inr (tells.answers k heard.0, hears_still applied over heard.0 heard.1)

    -- its end is put among the results of worker i
    told_now : (request_of s k).worker ≡ i → has_number k m.desk.results ≡ true → IsTold (request_of s k).worker
    told_now mine now = inl (desk_then c x laid i m may allows born tells (λ d. has_number k d.results ≡ true) (request_of s k).worker (λ own_one. now) (λ apart. absurd (apart mine)))

    applied_still : (request_of late k).forwarding ≡ forwarding.Applied → is_resolved (request_of late k).phase ≡ true → (request_of late k).forwarding ≡ (request_of s k).forwarding → IsTold (request_of s k).worker
    applied_still applied over same = elim (cases_Bool (is_resolved (request_of s k).phase)) [
      | inl long ↦ told_still (sym same ∙ applied) long (before.answered t k was (sym same ∙ applied) long)
      | inr unended ↦ told_now (ended_here unended over) (tells.ends_elsewhere k unended over held.observed observed_late (ap is_applied (sym same ∙ applied)))
    ]

    answered_still : (request_of late k).forwarding ≡ forwarding.Applied → is_resolved (request_of late k).phase ≡ true → IsTold (request_of late k).worker
    answered_still applied over = subst IsTold (sym worker_same) (elim change.how [
      | inl same ↦ applied_still applied over same
      | inr (inl sent) ↦ sent_applied (request_of late k).forwarding sent applied
      | inr (inr it) ↦
          told_now (own_forward it.0)
          (tells.applies k it.0 (ap is_resolved (sym it.2) ∙ over))
    ])
      where
        own_forward : m.event ≡ event.Apply (message.ForwardRequest k) → (request_of s k).worker ≡ i
        own_forward is =
            let tests : Allowed c me s i (event.Apply (message.ForwardRequest k)) m.choice = subst (λ e. Allowed c me s i e m.choice) is allows in
            first_own s i (message.ForwardRequest k) (slice_get (seat_of s i).inbox 0) refl tests.1.1.0 (given.first i)

  -- A SLEEPER THAT IS WAITED FOR

  module _ (t z : ℕ) (w : WaitsFor late t (waiting.Timer z)) (was : WaitsFor s t (waiting.Timer z)) where
    slept : IsSleptBy s t z
    slept = given.waits.sleepers t z was

    dozes : Dozed m.event z (sleeper_of s z) (sleeper_of late z)
    dozes = dozed c me s i m.event m.choice z slept.there

    unsent_sleeper : (sleeper_of late z).forwarding ≡ forwarding.Unsent → (sleeper_of s z).forwarding ≡ forwarding.Unsent
    unsent_sleeper unsent = elim dozes.how [
      | inl same ↦ sym same ∙ unsent
      | inr (inl sent) ↦ sent_unsent (sleeper_of late z).forwarding sent unsent
      | inr (inr applied) ↦ applied_unsent (sleeper_of late z).forwarding applied.1 unsent
    ]

    -- one that fires is of worker i
    fires_own : (sleeper_of s z).fired ≡ false → (sleeper_of late z).fired ≡ true → (sleeper_of s z).worker ≡ i
    fires_own unended over = elim (dozes.fires over) [
      | inl long ↦ absurd (true≢false (sym long ∙ unended))
      | inr is ↦ subst (λ e. IsOwn s i e) is own
    ]

    sleeps_on : (sleeper_of s z).forwarding ≡ forwarding.Unsent → (sleeper_of s z).fired ≡ true → may_stop s i (task_of s t).waiting ≡ false
    sleeps_on unsent over = subst (λ what. may_stop s i what ≡ false) (sym was.waits) (by ((sleeper_of s z).worker == i))
      where
        by : (b : Bool) → (not (is_unsent (sleeper_of s z).forwarding) || (b && not (sleeper_of s z).fired && not (sleeper_of s z).removed)) ≡ false
        by true = rw (unsent, over) refl
        by false = rw unsent refl

    fired_still : (sleeper_of late z).forwarding ≡ forwarding.Unsent → (sleeper_of late z).fired ≡ true → IsToBeWoken c next (sleeper_of late z).worker t
    fired_still unsent over = subst (λ j. IsToBeWoken c next j t) (sym dozes.worker) (elim (cases_Bool (sleeper_of s z).fired) [
      | inl long ↦
          still_woken c x laid i m may allows born tells (sleeper_of s z).worker t w.going (sleeps_on (unsent_sleeper unsent) long)
          (before.fired t z was (unsent_sleeper unsent) long)
      | inr unended ↦
          let mine = fires_own unended over in
          inr (desk_then c x laid i m may allows born tells (λ d. has_number t d.wakes ≡ true) (sleeper_of s z).worker
          (λ own_one. subst (λ u. has_number u m.desk.wakes ≡ true) slept.task (tells.fires_here z unended over (ap is_applied (unsent_sleeper unsent))))
          (λ apart. absurd (apart mine)))
    ])

    abbrev IsRung : ℕ → Type 0
    IsRung j = (has_number z (desk_of c next j).completions ≡ true) ⊎ ((has_number z m.thing.alarms ≡ true) × IsToHear c next j t (Heard.Timer z))

    rings_still : (sleeper_of s z).forwarding ≡ forwarding.Applied → has_number z x.things.alarms ≡ true
        → IsToHear c x (sleeper_of s z).worker t (Heard.Timer z) → IsToHear c next (sleeper_of s z).worker t (Heard.Timer z)
    rings_still applied sent =
        still_hears c x laid i m may allows born tells (sleeper_of s z).worker t (Heard.Timer z) w.going (ap (λ what. after_begin (begun_waiting what)) was.waits)
        (λ at. takes_timer c x laid i m may allows born tells t was.going (given.polls i) at z z was.waits (tells.resumes_too t z at was.waits applied sent) w.waits)

    rung_still : (sleeper_of s z).forwarding ≡ forwarding.Applied
        → (has_number z (desk_of c x (sleeper_of s z).worker).completions ≡ true) ⊎ ((has_number z x.things.alarms ≡ true) × IsToHear c x (sleeper_of s z).worker t (Heard.Timer z))
        → IsRung (sleeper_of s z).worker
    rung_still applied (inl due) =
        desk_then c x laid i m may allows born tells (λ d. (has_number z d.completions ≡ true) ⊎ ((has_number z m.thing.alarms ≡ true) × IsToHear c next (sleeper_of s z).worker t (Heard.Timer z))) (sleeper_of s z).worker
        (λ own_one. elim (tells.completions z (subst (λ j. has_number z (desk_of c x j).completions ≡ true) own_one due)) [
          | inl still ↦ inl still
          | inr sent ↦ inr (
            sent.0,
            subst (λ j. IsToHear c next j t (Heard.Timer z)) (sym own_one) (hears_next c x laid i m may allows born tells t (Heard.Timer z)
                (subst (λ u. is_done (task_of s u).phase ≡ false → (n : AfterCallbacks) × (m.desk.place ≡ Place.Callbacks (InCallbacks.WakeWaiter u (Heard.Timer z)) n)) slept.task sent.1 was.going)),
          )
        ])
        (λ apart. inl due)
    rung_still applied (inr heard) = inr (tells.alarms z heard.0, rings_still applied heard.0 heard.1)

    rung_now : (sleeper_of s z).worker ≡ i → has_number z m.desk.completions ≡ true → IsRung (sleeper_of s z).worker
    rung_now mine now = inl (desk_then c x laid i m may allows born tells (λ d. has_number z d.completions ≡ true) (sleeper_of s z).worker (λ own_one. now) (λ apart. absurd (apart mine)))

    alarmed_still : (sleeper_of late z).forwarding ≡ forwarding.Applied → (sleeper_of late z).fired ≡ true → IsRung (sleeper_of late z).worker
    alarmed_still applied over = subst IsRung (sym dozes.worker) (elim dozes.how [
      | inl same ↦ elim (cases_Bool (sleeper_of s z).fired) [
        | inl long ↦ rung_still (sym same ∙ applied) (before.alarmed t z was (sym same ∙ applied) long)
        | inr unended ↦ rung_now (fires_own unended over) (tells.fires_elsewhere z unended over (ap is_applied (sym same ∙ applied)))
      ]
      | inr (inl sent) ↦ sent_applied (sleeper_of late z).forwarding sent applied
      | inr (inr it) ↦ rung_now (own_forward it.0) (tells.applies_too z it.0 (no_bed (sym it.2 ∙ over)))
    ])
      where
        own_forward : m.event ≡ event.Apply (message.ForwardTimer z) → (sleeper_of s z).worker ≡ i
        own_forward is =
            let tests : Allowed c me s i (event.Apply (message.ForwardTimer z)) m.choice = subst (λ e. Allowed c me s i e m.choice) is allows in
            first_own s i (message.ForwardTimer z) (slice_get (seat_of s i).inbox 0) refl tests.1.1.0 (given.first i)

        no_bed : (sleeper_of s z).fired ≡ true → is_in_slots z (desk_of c x i).timers ≡ false
        no_bed long = elim (cases_Bool (is_in_slots z (desk_of c x i).timers)) [
          | inl in_one ↦ absurd (true≢false (sym long ∙ given.beds i z in_one))
          | inr not_so ↦ not_so
        ]

  -- ALL

  here : (t k : ℕ) → WaitsFor late t (waiting.Request k) → (request_of late k).forwarding ≡ forwarding.Unsent → is_resolved (request_of late k).phase ≡ false → has_number k (desk_of c next (request_of late k).worker).awaited ≡ true
  here t k w unsent unended = elim (for_request c x laid i m may allows born tells t k w) [
    | inl was ↦ here_still t k w was unsent unended
    | inr (inl is) ↦
        let it = begun k is in
        let in_it : has_number k (numbers_in (desk_of c x i).requests.held) ≡ true = subst (λ j. has_number k (numbers_in (desk_of c x j).requests.held) ≡ true) it.1 (given.slots k it.3) in
        subst (λ j. has_number k (desk_of c next j).awaited ≡ true) (sym it.0.worker)
        (desk_then c x laid i m may allows born tells (λ d. has_number k d.awaited ≡ true) (request_of s k).worker (λ own_one. tells.waits k is in_it) (λ apart. absurd (apart it.1)))
    | inr (inr sends) ↦ sent_unsent (request_of late k).forwarding (asked k sends.0 (later.waits.requests t k w).there sends.1) unsent
  ]

  woken : (t k : ℕ) → WaitsFor late t (waiting.Request k) → (request_of late k).forwarding ≡ forwarding.Unsent → is_resolved (request_of late k).phase ≡ true → IsToBeWoken c next (request_of late k).worker t
  woken t k w unsent over = elim (for_request c x laid i m may allows born tells t k w) [
    | inl was ↦ woken_still t k w was unsent over
    | inr (inl is) ↦ absurd (true≢false (sym over ∙ ap is_resolved (begun k is).0.phase ∙ (begun k is).3))
    | inr (inr sends) ↦ sent_unsent (request_of late k).forwarding (asked k sends.0 (later.waits.requests t k w).there sends.1) unsent
  ]

  answered : (t k : ℕ) → WaitsFor late t (waiting.Request k) → (request_of late k).forwarding ≡ forwarding.Applied → is_resolved (request_of late k).phase ≡ true
      → (has_number k (desk_of c next (request_of late k).worker).results ≡ true) ⊎ ((has_number k m.thing.answers ≡ true) × IsToHear c next (request_of late k).worker t (Heard.Request k))
  answered t k w applied over = elim (for_request c x laid i m may allows born tells t k w) [
    | inl was ↦ answered_still t k w was applied over
    | inr (inl is) ↦ applied_unsent (request_of late k).forwarding applied ((begun k is).0.forwarding ∙ (begun k is).2)
    | inr (inr sends) ↦ sent_applied (request_of late k).forwarding (asked k sends.0 (later.waits.requests t k w).there sends.1) applied
  ]

  unfired : (z until : ℕ) → m.event ≡ event.Timer z until → (sleeper_of late z).fired ≡ false
  unfired z until is =
      subst (λ e. Allowed c me s i e m.choice → (sleeper_of (common_after c me s i e m.choice) z).fired ≡ false) (sym is) (begins_sleep c me s i z until m.choice) allows

  pub work_awaited : IsAwaited c next
  work_awaited =
      record {
        here = here;
        woken = woken;
        fired = λ t z w unsent over. elim (for_timer c x laid i m may allows born tells t z w) [
          | inl was ↦ fired_still t z w was unsent over
          | inr is ↦ absurd (true≢false (sym over ∙ unfired z is.0 is.1))
        ];
        answered = answered;
        alarmed = λ t z w applied over. elim (for_timer c x laid i m may allows born tells t z w) [
          | inl was ↦ alarmed_still t z w was applied over
          | inr is ↦ absurd (true≢false (sym over ∙ unfired z is.0 is.1))
        ];
      }
