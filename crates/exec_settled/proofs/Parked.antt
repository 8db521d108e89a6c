-- Who sleeps has nothing to do, or somebody wakes it next: by what each state has, whatever others do.
use Rattle.std.{proofs.{Common.{◌≡◌, ◌≢◌, ℕ, suc, ◌==◌, ◌&&◌, ◌||◌, Bool, true, false, not, List, [], ◌∷◌, Option, Some, None, ◌∙◌, refl, sym, ap, subst, arith, inl, inr, get_or, length, unwrap_or, if◌then◌else◌}, lemmas.{Bool.{true≢false, false≢true, and_parts, cases_Bool, cases_lt, eq-eqb, eqb-true, false_from_ne_true, not-true, or_cases}, List.get_or_past, Option.none-some}}, specs.{Prelude.{nat_lt, slice_get}, List.list_any}}
use Rattle.exec_machine.specs.{declared.{config.Configuration.Configuration, state.{Forwarding.{Forwarding, Forwarding as forwarding}, MailMessage.{MailMessage, MailMessage as message}, Request.Request, RequestPhase.{RequestPhase, RequestPhase as phase}, TaskPhase.TaskPhase, Waiting.Waiting as waiting}}, Progress.{has_to_close, is_request_unfinished, is_runnable}, Ranges.ring_size, Same.{is_none, is_number, same_message}, Tests.{has_ended, is_closing, is_done, is_empty, is_flying, is_gated, is_landed, is_open, is_queued, is_ready, is_resolved, is_settled, is_staged}, World.{Common, Open, Own as Books, Task, no_request, open_of, own_of, request_of, seat_of, sleeper_of, task_of}}
use Rattle.exec_outcomes.specs.Accounts.{is_durable}
use Rattle.exec_books.{proofs.MinePhases.gated_open, specs.{Booked.{IsBooked, IsUnderWay}, Listed.is_in}}
use Rattle.exec_moves.specs.{declared.{handing.{AfterCallbacks.AfterCallbacks, Heard.Heard}, place.{InCallbacks.InCallbacks, Place.Place}}, Plays.{Playing, desk_of, first_desk}, Poll.is_noted, Seen.next_at, State.{gate_of, inbox_of, no_queue, queue_of}, Told.has_number}
use Rattle.exec_rest.{specs.{AtRest.{AreBare, AreFresh, IsPlaced, is_idle, is_unnoted}, Places.is_abed, Posted.IsPosted, Rested.{IsRestful, has_bit, is_in_pool, is_latched, place_at, sleeps}}, proofs.Rest.{Abed, abed, none_or_some}}
use Rattle.exec_settled.{specs.{Awaited.{IsAwaited, IsToBeWoken, IsToHear}, Given.{IsGiven, WaitsFor, gives_up, in_line}, Parked.{HasNoneInHand, HasNothingToDo, IsBeingWoken, IsHeldUp, IsParked, IsUp, NobodySleepsOnWork, NoneIsForgotten, WaitsForRequest}, Permits.{IsPermitted, is_past}, Settled.{HasSubmitted, HasTold, IsSettled}}, proofs.{PermittedSteps.unresolved_if, Resting.{abed_past, cancels_told, entered, none_comes, none_fires, submitted, tests, told_asleep}, Undone.{eight, enroll_case}}}
use Rattle.exec_machine.specs.declared.state.Next.TheVariants as next

-- a task that is to be polled, or was woken in a poll
pub runs_on : (p : TaskPhase) → (is_ready p || is_noted p) ≡ true → is_runnable p ≡ true
runs_on = grind arith

over_or_fresh : (p : TaskPhase) (fresh : Bool) → is_runnable p ≡ false → (is_unnoted p ≡ true → fresh ≡ true) → (is_done p || fresh) ≡ true
over_or_fresh = grind arith

-- a number is in no empty list
pub no_number : (k : ℕ) (ns : List ℕ) → ns ≡ [] → has_number k ns ≡ true → ⊥
no_number k ns none h = false≢true (subst (λ l. has_number k l ≡ true) none h)

number_is : (k : ℕ) (o : Option ℕ) → is_number k o ≡ true → o ≡ Some k
number_is = grind (arith, false≢true, eqb-true)

no_list : (k : ℕ) (list : List ℕ) → list ≡ [] → is_in k list ≡ true → ⊥
no_list k list none h = false≢true (subst (λ l. is_in k l ≡ true) none h)

stuck : (q cancelled n : Bool) → (q ≡ true → n ≡ false) → (q && not cancelled && n) ≡ false
stuck = grind arith

-- a request that is ready may be staged only where the ring has a place
full : (me : Books) (n : ℕ) → me.ready ≢ [] → (not (is_empty me.ready) && nat_lt me.in_flight n) ≡ false → nat_lt me.in_flight n ≡ false
full = grind arith

abed_wakes_none : (p : Place) → is_abed p ≡ true → (t : ℕ) (of : Heard) (n : AfterCallbacks) → p ≡ Place.Callbacks (InCallbacks.WakeWaiter t of) n → ⊥
abed_wakes_none p is t of n here = false≢true (sym (ap is_abed here) ∙ is)

abed_settled : (p : Place) → is_abed p ≡ true → next_at p ≡ next.Free
abed_settled = grind arith

-- where a worker has a request that isn't over there is one
some_going : (i : ℕ) (rs : List Request) → list_any (λ r. (r.worker == i) && not (is_resolved r.phase)) rs ≡ true
    → (k : ℕ) × ((get_or rs k no_request).worker ≡ i) × (is_resolved (get_or rs k no_request).phase ≡ false)
some_going i [] h = absurd (false≢true h)
some_going i (r ∷ rs) h = elim (or_cases ((r.worker == i) && not (is_resolved r.phase)) (list_any (λ r. (r.worker == i) && not (is_resolved r.phase)) rs) h) [
  | inl here ↦ let both = and_parts (r.worker == i) (not (is_resolved r.phase)) here in (0, eqb-true r.worker i both.0, not-true (is_resolved r.phase) both.1)
  | inr later ↦ let it = some_going i rs later in (suc it.0, it.1, it.2)
]

-- A HOLDER OF A PERMIT isn't over: the first in line hasn't given it up, or came after one that has, and so waits for it still
abbrev pub Holds : Playing → ℕ → ℕ → Type 0
Holds x file h = let it = request_of x.world.common h in (is_resolved it.phase ≡ false) × (it.operation.target ≡ file)

pub holder_going : (c : Configuration) (x : Playing) → IsGiven c x → (file h : ℕ) → (open_of x.world.common file).holder ≡ Some h → Holds x file h
holder_going c x given file h holds = by (gate_of x.things file) refl (sym (given.holder file) ∙ holds)
  where
    s : Common
    s = x.world.common

    stands : (gate : List ℕ) (n k : ℕ) → gate_of x.things file ≡ gate → slice_get gate n ≡ Some k → slice_get (gate_of x.things file) n ≡ Some k
    stands gate n k is there = ap (λ g. slice_get g n) is ∙ there

    by_first : (k : ℕ) (later : List ℕ) → gate_of x.things file ≡ k ∷ later → (b : Bool) → gives_up (request_of s k) ≡ b → slice_get (if b then later else k ∷ later) 0 ≡ Some h → Holds x file h
    by_first k later is false stays first =
        let there = given.at_gate file 0 k (stands (k ∷ later) 0 k is refl) in
        subst (Holds x file) (ap (λ o. unwrap_or o 0) first) (unresolved_if (is_resolved (request_of s k).phase) (is_durable (request_of s k).operation.kind) stays there.1, there.2)
    by_first k later is true gives first = let next = stands (k ∷ later) 1 h is first in (gated_open (request_of s h).phase (given.behind file 0 h next), (given.at_gate file 1 h next).2)

    by : (gate : List ℕ) → gate_of x.things file ≡ gate → slice_get (in_line s (gate_of x.things file)) 0 ≡ Some h → Holds x file h
    by [] is first = absurd (none-some h (sym (ap (λ g. slice_get (in_line s g) 0) is) ∙ first))
    by (k ∷ later) is first = by_first k later is (gives_up (request_of s k)) refl (sym (ap (λ g. slice_get (in_line s g) 0) is) ∙ first)

module _ (c : Configuration) (x : Playing) (placed : IsPlaced c x) (given : IsGiven c x) (held : IsRestful c x) (booked : IsBooked x.world) (settled : IsSettled c x) (permitted : IsPermitted c x) where
  abbrev s : Common
  s = x.world.common

  -- who was signalled has its wait ended by somebody
  latch_raises : (i : ℕ) → sleeps c x i ≡ true → is_latched c x i ≡ true → IsBeingWoken c x i
  latch_raises i asleep latched = elim (held.rung i asleep latched) [ inl raised ↦ IsBeingWoken.Raised true raised | inr raised ↦ IsBeingWoken.Raised false raised ]

  module _ (i : ℕ) (it : IsParked c x i) where
    unlatched : is_latched c x i ≡ true → ⊥
    unlatched latched = it.left (latch_raises i it.asleep latched)

    lies_abed : is_abed (place_at c x i) ≡ true
    lies_abed = held.abed i it.asleep

    its_submitted : HasSubmitted c (own_of x.world i)
    its_submitted = submitted c x held booked settled i it.asleep

    its_told : HasTold (own_of x.world i) (desk_of c x i)
    its_told = told_asleep c x held booked settled i it.asleep

    -- its root isn't over, where it is open
    pub need_not_close : has_to_close x.world i (seat_of s i) ≡ false
    need_not_close = false_from_ne_true _ (λ h. let both = and_parts (is_open (seat_of s i).phase) (is_done (task_of s (own_of x.world i).root).phase) h in true≢false (sym both.1 ∙ given.roots i both.0 lies_abed))

  -- A REQUEST of such a worker

  module _ (k : ℕ) (parked : IsParked c x (request_of s k).worker) where
    abbrev it : Request
    it = request_of s k

    abbrev me : Books
    me = own_of x.world it.worker

    -- its permit was granted
    ungranted : (is_gated it.phase && is_number k (open_of s it.operation.target).holder) ≡ false
    ungranted = false_from_ne_true _ (λ h.
        let both = and_parts (is_gated it.phase) (is_number k (open_of s it.operation.target).holder) h in
        let holds = number_is k (open_of s it.operation.target).holder both.1 in
        elim (permitted.granted k both.0 holds) [
          | inl passes ↦ parked.left (IsBeingWoken.Passed k (refl, both.0, holds, passes))
          | inr told ↦ elim told [
            | inl handed ↦ parked.left (IsBeingWoken.Handed handed)
            | inr looks ↦ elim (or_cases (is_latched c x it.worker) (not (is_past it.operation.target (place_at c x it.worker))) looks) [
              | inl latched ↦ unlatched it.worker parked latched
              | inr ahead ↦ false≢true (sym (ap not (abed_past it.operation.target (place_at c x it.worker) (lies_abed it.worker parked))) ∙ ahead)
            ]
          ]
        ])

    pub request_done : is_request_unfinished c x.world k it ≡ false
    request_done =
        let clear = its_submitted it.worker parked in
        let done = entered c x held booked settled it.worker parked.asleep k refl in
        eight _ _ _ _ _ _ _ _
        ungranted
        (stuck (is_queued it.phase) it.cancelled (nat_lt me.in_flight (ring_size c)) (λ queued. full me (ring_size c) (λ none. no_list k me.ready none ((booked.listed k).queued queued)) clear.unstaged))
        done.0 done.1
        (false_from_ne_true _ (λ h. no_list k me.unenrolled clear.unenrolled ((booked.listed k).unenrolled (enroll_case (is_resolved it.phase) it.cancelled (is_none it.timer) (is_none it.operation.deadline) h))))
        (false_from_ne_true _ (λ h. no_list k me.cancels clear.cancels ((booked.listed k).cancels h)))
        (false_from_ne_true _ (λ h. no_list k me.ended (its_told it.worker parked).ended ((booked.listed k).over h)))
        (none_comes c x held booked settled it.worker parked.asleep k)

    -- it waits for a permit: another one has that, which isn't over
    gated_behind : is_gated it.phase ≡ true → IsHeldUp c x k
    gated_behind gated = elim ((booked.lined_up k).waits gated (given.gated k gated).1) [
      | inr joins ↦ absurd (false≢true (ap is_settled (sym joins ∙ given.nexts it.worker ∙ abed_settled (place_at c x it.worker) (lies_abed it.worker parked))))
      | inl stands ↦ elim (or_cases (is_number k o.holder) (is_in k o.waiting) stands) [
        | inl holds ↦ absurd (true≢false (sym (ap (λ b. b && is_number k o.holder) gated ∙ holds) ∙ ungranted))
        | inr waits ↦ by o.holder refl waits
      ]
    ]
      where
        o : Open
        o = open_of s it.operation.target

        by : (holder : Option ℕ) → o.holder ≡ holder → is_in k o.waiting ≡ true → IsHeldUp c x k
        by None none waits = absurd (no_list k o.waiting (booked.led it.operation.target none) waits)
        by (Some h) some waits =
            IsHeldUp.WaitsForPermit h gated some (λ same. true≢false (sym (rw (gated, some, eq-eqb k h (sym same)) refl) ∙ ungranted)) (holder_going c x given it.operation.target h some).0

    pub is_held_up : is_resolved it.phase ≡ false → IsHeldUp c x k
    is_held_up going = by it.phase refl
      where
        done : (is_staged it.phase ≡ false) × (is_landed it.phase ≡ false)
        done = entered c x held booked settled it.worker parked.asleep k refl

        by : (p : RequestPhase) → it.phase ≡ p → IsHeldUp c x k
        by phase.Gated is = gated_behind (ap is_gated is)
        by phase.Queued is =
            IsHeldUp.WaitsForPlace (ap is_queued is)
            (full me (ring_size c) (λ none. no_list k me.ready none ((booked.listed k).queued (ap is_queued is))) (its_submitted it.worker parked).unstaged)
        by phase.Staged is = absurd (true≢false (sym (ap is_staged is) ∙ done.0))
        by phase.Flying is = IsHeldUp.WithKernel (ap is_flying is)
        by (phase.Landed n) is = absurd (true≢false (sym (ap is_landed is) ∙ done.1))
        by (phase.Resolved outcome) is = absurd (true≢false (sym (ap is_resolved is) ∙ going))

  -- ALL THAT IT MIGHT HAVE TO DO

  module _ (bare : AreBare c x) (posted : IsPosted c x) (fresh : AreFresh x) (awaited : IsAwaited c x) where
    module _ (i : ℕ) (opened : is_open (seat_of s i).phase ≡ true) (parked : IsParked c x i) where
      its_abed : Abed (place_at c x i)
      its_abed = abed (place_at c x i) (lies_abed i parked) (placed.stays i opened)

      its_tested : ((desk_of c x i).root_ready ≡ false) × ((desk_of c x i).batch ≡ [])
      its_tested = posted.tested i (tests c x held booked settled i parked.asleep placed opened)

      no_mail : inbox_of x.things i ≡ []
      no_mail = elim (none_or_some (inbox_of x.things i)) [
        | inl none ↦ none
        | inr some ↦ elim (posted.posted i parked.asleep some) [
          | inl latched ↦ absurd (unlatched i parked latched)
          | inr signalled ↦ absurd (parked.left (IsBeingWoken.Signalled signalled))
        ]
      ]

      no_message : (seat_of s i).inbox ≡ []
      no_message = rw (placed.mail i, its_tested.1, no_mail) refl

      no_runnable : (queue_of x.things i).values ≡ []
      no_runnable = elim (cases_Bool (is_in_pool c x i)) [
        | inl pool ↦ held.dried i pool its_abed.dry
        | inr other ↦ (bare.bare i other).0
      ]

      root_rests : (t : ℕ) (it : Task) → slice_get s.tasks t ≡ Some it → it.home ≡ Some i → (is_runnable it.phase ≡ false) × ((is_done it.phase || it.fresh) ≡ true)
      root_rests t it there home =
          let idle = false_from_ne_true (is_runnable it.phase) (λ runs. true≢false (sym ((placed.roots t it i there home runs).2 (lies_abed i parked)) ∙ its_tested.0)) in
          (idle, over_or_fresh it.phase it.fresh idle (fresh t it there))

      -- who waits for what has come was told of it
      woken : (t : ℕ) → IsToBeWoken c x i t → IsUp c x t
      woken t (inl runs) = inl runs
      woken t (inr wakes) = absurd (no_number t (desk_of c x i).wakes (its_told i parked).wakes wakes)

      heard : (t : ℕ) (of : Heard) → IsToHear c x i t of → IsUp c x t
      heard t of (inl wakes) = absurd (abed_wakes_none (place_at c x i) (lies_abed i parked) t of wakes.0 wakes.1)
      heard t of (inr (inl ready)) = inl (runs_on (task_of s t).phase ready)
      heard t of (inr (inr looks)) = inr looks

      not_sent : (m : MailMessage) → (seat_of s i).mailbox_closed ≡ false → IsUnderWay m (seat_of s i) → ⊥
      not_sent m takes (inl there) = false≢true (subst (λ l. list_any (same_message m) l ≡ true) no_message there)
      not_sent m takes (inr shut) = true≢false (sym shut ∙ takes)

      up_by : (m : MailMessage) (t : ℕ) (f : Forwarding) → (seat_of s i).mailbox_closed ≡ false → (f ≡ forwarding.Unsent → IsToBeWoken c x i t) → (f ≡ forwarding.Sent → IsUnderWay m (seat_of s i)) → (f ≡ forwarding.Applied → IsUp c x t) → IsUp c x t
      up_by m t forwarding.Unsent takes wakes sent told = woken t (wakes refl)
      up_by m t forwarding.Sent takes wakes sent told = absurd (not_sent m takes (sent refl))
      up_by m t forwarding.Applied takes wakes sent told = told refl

    request_came : (t k : ℕ) → is_open (seat_of s (request_of s k).worker).phase ≡ true → IsParked c x (request_of s k).worker → WaitsFor s t (waiting.Request k) → is_resolved (request_of s k).phase ≡ true → IsUp c x t
    request_came t k opened parked waits over =
        let i = (request_of s k).worker in
        up_by i opened parked (message.ForwardRequest k) t (request_of s k).forwarding (given.waits.requests t k waits).takes_mail (λ is. awaited.woken t k waits is over) (booked.sent k)
        (λ is. elim (awaited.answered t k waits is over) [
          | inl result ↦ absurd (no_number k _ (its_told i parked).results result)
          | inr sent ↦ heard i opened parked t (Heard.Request k) sent.1
        ])

    sleeper_fired : (t z : ℕ) → is_open (seat_of s (sleeper_of s z).worker).phase ≡ true → IsParked c x (sleeper_of s z).worker → WaitsFor s t (waiting.Timer z) → (sleeper_of s z).fired ≡ true → IsUp c x t
    sleeper_fired t z opened parked waits over =
        let i = (sleeper_of s z).worker in
        up_by i opened parked (message.ForwardTimer z) t (sleeper_of s z).forwarding (given.waits.sleepers t z waits).takes_mail (λ is. awaited.fired t z waits is over) (booked.sent_too z)
        (λ is. elim (awaited.alarmed t z waits is over) [
          | inl completion ↦ absurd (no_number z _ (its_told i parked).completions completion)
          | inr sent ↦ heard i opened parked t (Heard.Timer z) sent.1
        ])

    nothing_to_do : (i : ℕ) → is_open (seat_of s i).phase ≡ true → IsParked c x i → HasNothingToDo c x i
    nothing_to_do i opened parked =
        let of = λ (j : ℕ) (own : j ≡ i). subst (IsParked c x) (sym own) parked in
        let open_of_its = λ (j : ℕ) (own : j ≡ i). subst (λ j. is_open (seat_of s j).phase ≡ true) (sym own) opened in
        record {
          unsignalled = false_from_ne_true (is_latched c x i) (unlatched i parked);
          messages = no_message i opened parked;
          queue = no_runnable i opened parked;
          root = root_rests i opened parked;
          stays = need_not_close i parked;
          requests = λ k own. request_done k (of (request_of s k).worker own);
          sleepers = none_fires c x held booked settled i parked.asleep placed opened;
          came = λ t k waits own over. request_came t k (open_of_its (request_of s k).worker own) (of (request_of s k).worker own) waits over;
          fired = λ t z waits own over. sleeper_fired t z (open_of_its (sleeper_of s z).worker own) (of (sleeper_of s z).worker own) waits over;
        }

    -- who closes waits on its ring, and so has a request that isn't over
    waits_for_request : (i : ℕ) → is_closing (seat_of s i).phase ≡ true → IsParked c x i → WaitsForRequest c x i
    waits_for_request i closing parked =
        record {
          unsignalled = false_from_ne_true (is_latched c x i) (unlatched i parked);
          requests = λ k own. request_done k (subst (IsParked c x) (sym own) parked);
          some = some_going i s.requests (settled.busy i (given.closing i closing (lies_abed i parked)));
        }

    -- a worker of the pool that sleeps without its bit is woken next
    without_bit : (i : ℕ) → is_in_pool c x i ≡ true → is_open (seat_of s i).phase ≡ true → sleeps c x i ≡ true → has_bit c x i ≡ false → IsBeingWoken c x i
    without_bit i pool opened asleep out =
        let it = abed (place_at c x i) (held.abed i asleep) (placed.stays i opened) in
        elim (held.answered i pool it.published out) [
          | inl h ↦ elim (or_cases _ (is_latched c x i) h) [
            | inl goes ↦ absurd (true≢false (sym goes ∙ it.stays))
            | inr latched ↦ latch_raises i asleep latched
          ]
          | inr signalled ↦ IsBeingWoken.Signalled signalled
        ]

    none_in_hand : (i : ℕ) → (sleeps c x i || has_ended (seat_of s i).phase) ≡ true → HasNoneInHand c x i
    none_in_hand i off = elim (cases_lt i (length x.desks)) [
      | inl there ↦ let idle : is_idle (place_at c x i) ≡ true = grind (arith, or_cases, held.abed, placed.over) in
          record { hand = (placed.hands i idle).0; loot = (placed.hands i idle).1; aside = placed.aside i idle }
      | inr past ↦
          let desk : desk_of c x i ≡ first_desk c i = get_or_past x.desks i (first_desk c i) past in
          let queue : queue_of x.things i ≡ no_queue = get_or_past x.things.queues i no_queue (omega (arith, past, placed.laid.desks, placed.laid.queues)) in
          record { hand = ap (λ d. d.hand) desk; loot = ap (λ d. d.loot) desk; aside = ap (λ q. q.held) queue }
    ]

    pub nobody_sleeps_on_work : NobodySleepsOnWork c x
    nobody_sleeps_on_work =
        record {
          parked = nothing_to_do;
          closing = waits_for_request;
          held_up = λ k going parked. is_held_up k parked going;
          entered = λ i asleep. record { requests = entered c x held booked settled i asleep; cancels = cancels_told c x held booked settled i asleep };
          hands = none_in_hand;
          calls = placed.calls;
          bare = λ i other. (bare.bare i other).0;
          pool = λ opened some. elim (held.covered some) [
            | inl owed ↦ inl owed
            | inr looks ↦ inr (
              looks.0,
              looks.1,
              elim (cases_Bool (sleeps c x looks.0)) [
                | inl asleep ↦ inr (without_bit looks.0 looks.1 (opened looks.0 looks.1) asleep (looks.2 (abed (place_at c x looks.0) (held.abed looks.0 asleep) (placed.stays looks.0 (opened looks.0 looks.1))).looked))
                | inr awake ↦ inl awake
              ],
            )
          ];
        }

pub none_is_forgotten : (c : Configuration) (x : Playing) → IsGiven c x → IsBooked x.world → IsPermitted c x → IsAwaited c x → NoneIsForgotten c x
none_is_forgotten c x given booked permitted awaited =
    record {
      listed = booked.listed;
      lined_up = booked.lined_up;
      there = λ k waits. (given.gated k waits).1;
      led = booked.led;
      permitted = permitted;
      waits = given.waits;
      sent = booked.sent;
      sent_too = booked.sent_too;
      awaited = awaited;
    }
