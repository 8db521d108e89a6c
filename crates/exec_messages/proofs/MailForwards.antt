-- A message of the batch says that a request is waited for elsewhere: what holds again of the worker's own, and what is seen of it.
use Rattle.std.proofs.{Common.{◌≡◌, ◌≢◌, ◌⊎◌, inl, inr, ℕ, ◌+◌, ◌≤◌, ◌==◌, ◌&&◌, ◌||◌, Bool, true, false, not, Contains, List, [], ◌∷◌, ◌++◌, count_by, length, map, slice_index_or, Some, None, IsSome, Result, Ok, Err, refl, sym, ap, subst, ◌∙◌, arith, slice_get, slice_set, if◌then◌else◌}, lemmas.{Bool.{false≢true, eq-eqb}, List.{append-nil, map-append, Elements.Contains-append_cases}}}
use Rattle.exec_base.specs.{Slab.{Slab, is_live, value_at}, declared.{error.Error.Error, slab.{Id.Id, Slot.{Slot, TheVariants.{Live, Vacant, Retired}}}, task_no.TaskNo.TaskNo}}
use Rattle.exec_request.specs.declared.output.RequestOutput.{RequestOutput}
use Rattle.exec_waiters.specs.{Events.{answered, with_observer}, States.{flying_count, pending_count, waiter_at}, Told.Tells, declared.{deferred.{Answer.Answer, Deferred.Deferred}, observer.Observer.TheVariants.Forwarded, waiter.{Entry.{Entry, TheVariants.Ready}, Waiter.Waiter}}}
use Rattle.exec_ring.specs.Rings.{RingState, completions}
use Rattle.exec_driver.specs.{Driving.Driving, Punctual.IsPunctual}
use Rattle.exec_machine.specs.{declared.state.{Forwarding.TheVariants.{Sent}}, Tests.{is_applied, is_resolved}}
use Rattle.exec_moves.specs.{declared.handing.Heard.Heard, State.Desk, Told.{awaits_no_more, one_result, told_of_forward, without_request}}
use Rattle.exec_parts.{specs.{declared.parts.{mail.Reply.Reply, record.Record.Record, shared.Shared.Shared, worker.Worker.Worker}, Calls.{forward_applied, IsTold}, MailTakes.{TakesForward, reply_for}, Records.number_in, Serving.{changed_at, changed_in}, View.{Visible, awaited_from, completions_in, desk_of, driver_of, landed_in, message_of, number_heard, numbers_of, own_of, results_in, slots_seen, trailing, visible, wake_poll_in}}, proofs.Facts.{not_same, same_Some}}
use Rattle.exec_invariants.{specs.{Due.{IsDue, IsWheelAt, may_be_due, wheel_moment}, Flown.HasFlown, Gates.AreLinedUp, Holding.{IsAnswerOf, thing_of}, HoldPlaces.has_wakes_at, Places.one_if as one_when, Rooted.{IsReplyFor, IsResult, IsRooted, goes_elsewhere, is_of_request, results_of}, Sound.{AreOver, served_in}, Names.{HasWidth, IsAlike, tellers}}, proofs.{Carries.carried_marked, Known.{known_marked, low_there}, LetKept.count_last, LetRooted.{TellsOne, told_one}, LetSeen.value_live, Resolving.{places_fewer, wide_ended}, ServedEnds.only_one, ServingHolds.{KeepsSpare, KeepsWith, keeps_home}, Slotted.OneSlot, Watching.{Watched, carried_watched, due_watched, flown_watched, known_watched, named_watched, over_watched}}}
use Rattle.exec_messages.proofs.MailSent.{flown_gone, here_sent, named_gone, over_gone, rooted_sent, timed_gone}

-- who waits for it is elsewhere
abbrev pub with_reply : Reply → Waiter Reply Reply → Waiter Reply Reply
with_reply reply it = with_observer (Forwarded reply) it

pub alike_forwarded : (start tick : ℕ) (it : Waiter Reply Reply) (reply : Reply) (r : Record) → r.shown.observed ≡ true → IsAlike start tick it r.shown → IsAlike start tick (with_reply reply it) (forward_applied r).shown
alike_forwarded = grind arith

-- what the desk is then
abbrev pub forward_shape : Bool → Bool → Bool → ℕ → Desk → Desk
forward_shape there over held k d =
    if not there then one_result k d
    else if over then one_result k (without_request k d)
    else if held then awaits_no_more k d
    else one_result k d

-- to be told: an answer, or nothing
told_one_answer : (id : Id) (reply : Reply) (x : Result RequestOutput Error) → TellsOne (answered id reply x)
told_one_answer id reply x = record { wakes = omega arith; outputs = omega arith; resources = refl; completions = omega arith; results = omega arith }

module _ {B : Type 0} (k : ℕ) (w v : Worker) (s s' : Shared B) (idle : served_in w.place ≡ None) (gates : AreLinedUp s.opens s.requests.items) (spare : ℕ) (keeps : KeepsSpare (spare + 1) w s) (takes : TakesForward k w v s s') (mine : takes.r.shown.worker ≡ w.index) (sent : takes.r.shown.forwarding ≡ Sent) where
  abbrev d : Driving Reply Reply
  d = driver_of w

  abbrev n : List ℕ
  n = w.names.requests.items

  abbrev rs : List Record
  rs = s.requests.items

  abbrev r : Record
  r = takes.r

  abbrev id : Id
  id = takes.r.id.0

  abbrev kk : ℕ
  kk = number_in w.names.requests.items takes.r.id.0

  abbrev reply : Reply
  reply = reply_for takes.forwards.t (Heard.Request k)

  abbrev left : Deferred Reply Reply
  left = v.home.deferred

  abbrev left0 : Deferred Reply Reply
  left0 = w.home.deferred

  abbrev w1 : Worker
  w1 = record w { home = record w.home { deferred = left } }

  abbrev the_answer : Result RequestOutput Error → Answer Reply
  the_answer x = record { id = record { 0 = takes.r.id.0 }; sender = reply; result = x }

  pub unapplied : is_applied r.shown.forwarding ≡ false
  unapplied = ap is_applied sent

  -- it stands under its number, where it stands anywhere
  pub number : IsSome (value_at d.requests id) → kk ≡ k
  number some =
      let there = keeps.named.requests id some in
      sym (gates.unique k kk r there.0 takes.request there.1 (ap (λ i. record { worker = i; id = takes.r.id }) (mine ∙ sym there.3) ∙ ap (λ x. record { worker = there.0.shown.worker; id = record { 0 = x } }) (sym there.2)))

  pub apart_at : (q : ℕ) → slice_get rs q ≡ Some r → (x : Id) → IsSome (value_at d.requests x) → number_in n x ≡ q → x ≡ id
  apart_at = grind arith

  pub unique_at : (j : ℕ) (x : Record) → slice_get rs j ≡ Some x → x.shown.worker ≡ w.index → x.id.0 ≡ id → j ≡ k
  unique_at j x at of_i same =
      gates.unique j k x r at takes.request (ap (λ i. record { worker = i; id = x.id }) (of_i ∙ sym mine) ∙ ap (λ (y : Id). record { worker = r.shown.worker; id = record { 0 = y } }) same)

  -- what its record becomes
  changed : s'.requests.items ≡ changed_at rs k forward_applied
  changed = takes.requests ∙ ap (slice_set rs k) takes.forwards.is ∙ sym (ap (changed_in rs k forward_applied) takes.request)

  pub final : (q : ℕ) → q ≡ k → (d' : Driving Reply Reply) → driver_of v ≡ d' → KeepsWith spare w1 d' w.home.timers (changed_at rs q forward_applied) s.sleepers.items s → KeepsSpare spare v s'
  final q is d' drv there = keeps_home w1 v s s' (changed_at rs q forward_applied) d' takes.forwards.worker takes.kept drv (changed ∙ ap (λ m. changed_at rs m forward_applied) (sym is)) there

  -- WHAT IS TO BE SENT
  -- nothing was
  none_before : (q : ℕ) → slice_get rs q ≡ Some r → results_of q left0 + one_when r.sent ≡ 0
  none_before q at = keeps.rooted.sent q r at mine ∙ ap (λ b. one_when (b && (is_resolved r.shown.phase || not r.shown.observed))) unapplied

  answer_on : (x : Result RequestOutput Error) → IsAnswerOf x (thing_of r) → IsAnswerOf x (thing_of (forward_applied r))
  answer_on (Ok told) h = h
  answer_on (Err error) h = h

  module _ (q : ℕ) (at : slice_get rs q ≡ Some r) (is : q ≡ k) where
    -- an end at once
    module _ (x : Result RequestOutput Error) (added : left.results.items ≡ left0.results.items ++ the_answer x ∷ []) (answer : IsAnswerOf x (thing_of r)) (elsewhere : goes_elsewhere (forward_applied r) ≡ true) where
      pub sent_now : (a : Answer Reply) → Contains left.results.items a → Contains left0.results.items a ⊎ IsResult w.index a (changed_at rs q forward_applied)
      sent_now a among =
          elim (Contains-append_cases left0.results.items (the_answer x ∷ []) a (subst (λ xs. Contains xs a) added among)) [
            | inl old ↦ inl old
            | inr new ↦ inr (subst (λ (y : Answer Reply). IsResult w.index y (changed_at rs q forward_applied)) (only_one (the_answer x) a new) (record {
              k = q;
              r = forward_applied r;
              there = here_sent rs q r at;
              worker = mine;
              reply = record { of = ap (λ m. Heard.Request m) (sym is); task = takes.forwards.waited };
              answer = answer_on x answer;
              paid = (keeps.rooted.pays k r takes.request mine).once unapplied;
            }))
          ]

      last : (j : ℕ) → results_of j left ≡ results_of j left0 + one_when (q == j)
      last j = ap (count_by (λ (y : Answer Reply). is_of_request j y.sender.of)) added ∙ count_last q left0.results.items (the_answer x) (ap (λ m. Heard.Request m) (sym is)) j

      pub sent_else : (j : ℕ) → (q ≡ j → ⊥) → results_of j left ≡ results_of j left0
      sent_else j apart = last j ∙ ap (λ b. results_of j left0 + one_when b) (not_same q j apart) ∙ omega arith

      pub sent_here : results_of q left + one_when r.sent ≡ one_when (goes_elsewhere (forward_applied r))
      sent_here =
          let one = last q ∙ ap (λ b. results_of q left0 + one_when b) (eq-eqb q q refl) in
          let none = none_before q at in
          let now = ap one_when elsewhere in
          omega (arith, one, none, now)

      pub rooted_now : (d' : Driving Reply Reply) → ((x : Id) → x ≢ id → value_at d'.requests x ≡ value_at d.requests x) → ((told : RequestOutput) → value_at d'.requests id ≡ Some (Ready told) → ⊥)
          → ((it : Waiter Reply Reply) (f : Reply) → waiter_at d'.requests id ≡ Some it → it.observer ≡ Forwarded f → ⊥) → left.notes.completions.items ≡ left0.notes.completions.items
          → IsRooted w.index w.names d' w.home.timers left (changed_at rs q forward_applied) s.sleepers.items
      rooted_now d' others none nobody completions =
          let unique : (j : ℕ) (x : Record) → slice_get rs j ≡ Some x → x.shown.worker ≡ w.index → x.id.0 ≡ id → j ≡ q = λ j x there of_i same. unique_at j x there of_i same ∙ sym is in
          let here : (it : Waiter Reply Reply) (f : Reply) → waiter_at d'.requests id ≡ Some it → it.observer ≡ Forwarded f → (kk ≡ q) × IsReplyFor q f r = λ it f there forwarded. absurd (nobody it f there forwarded) in
          rooted_sent w.index w.names d d' w.home.timers left0 left rs s.sleepers.items q r at (assumption (mine, apart_at q at, unique, others, none, here, sent_now, sent_else, sent_here, completions)) keeps.rooted

    -- none yet
    module _ (added : left.results.items ≡ left0.results.items) (still : goes_elsewhere (forward_applied r) ≡ false) where
      pub kept_as : (a : Answer Reply) → Contains left.results.items a → Contains left0.results.items a ⊎ IsResult w.index a (changed_at rs q forward_applied)
      kept_as a among = inl (subst (λ xs. Contains xs a) added among)

      pub kept_else : (j : ℕ) → (q ≡ j → ⊥) → results_of j left ≡ results_of j left0
      kept_else j apart = ap (count_by (λ (y : Answer Reply). is_of_request j y.sender.of)) added

      pub kept_here : results_of q left + one_when r.sent ≡ one_when (goes_elsewhere (forward_applied r))
      kept_here = ap (λ xs. count_by (λ (y : Answer Reply). is_of_request q y.sender.of) xs + one_when r.sent) added ∙ none_before q at ∙ sym (ap one_when still)

  -- ALL OF ITS OWN, where the driver has the request
  pub by_watched : (d' : Driving Reply Reply) → Watched w.names d d' rs (changed_at rs kk forward_applied) id r forward_applied → IsRooted w.index w.names d' w.home.timers left (changed_at rs kk forward_applied) s.sleepers.items
      → IsTold w.names.ended.items left (tellers d'.requests w.home.timers + spare) → HasWidth left (tellers d'.requests w.home.timers + 64) → left.notes.wakes.items ≡ left0.notes.wakes.items
      → pending_count d'.requests ≡ pending_count d.requests → IsPunctual d' → d'.lists.due ≡ [] → IsWheelAt s.config w.moments.start w.moments.sampled d'.wheel
      → KeepsWith spare w1 d' w.home.timers (changed_at rs kk forward_applied) s.sleepers.items s
  by_watched d' by rooted told wide wakes pending punctual due wheel =
      let i = w.index in
      let ns = w.names in
      let zs = w.home.timers in
      let ss = s.sleepers.items in
      let rs1 = changed_at rs kk forward_applied in
      let over = subst (λ m. AreOver i ns.ended.items ns.unreleased m rs1) (sym pending) (over_watched i ns d d' zs rs rs1 ss id r forward_applied by ns.ended.items ns.unreleased (pending_count d.requests) keeps.over) in
      let quiet : has_wakes_at w.place ≡ false → left.notes.wakes.items ≡ [] = λ h. wakes ∙ keeps.quiet h in
      let due_now = subst (λ x. IsDue x w.home.closing i w.moments s.config ns d' zs rs1 ss) (sym idle) (due_watched i ns d d' zs rs rs1 ss id r forward_applied by w.moments s.config punctual due wheel (subst (λ x. IsDue x w.home.closing i w.moments s.config ns d zs rs ss) idle keeps.due)) in
      assumption (
        named_watched i ns d d' zs rs rs1 ss id r forward_applied by keeps.named,
        ap (λ x. x.size) by.ring ∙ keeps.sized,
        over,
        quiet,
        due_now,
        flown_watched i ns d d' zs rs rs1 ss id r forward_applied by (served_in w.place) keeps.flown,
        carried_watched i ns d d' zs rs rs1 ss id r forward_applied by s.store keeps.carried,
        known_watched i ns d d' zs rs rs1 ss id r forward_applied by s.opens keeps.known,
        keeps.bare,
      )

  -- and where it hasn't
  pub by_record : (q : ℕ) → slice_get rs q ≡ Some r → ((x : Id) → IsSome (value_at d.requests x) → number_in n x ≡ q → ⊥) → IsRooted w.index w.names d w.home.timers left (changed_at rs q forward_applied) s.sleepers.items
      → IsTold w.names.ended.items left (tellers d.requests w.home.timers + spare) → HasWidth left (tellers d.requests w.home.timers + 64) → left.notes.wakes.items ≡ left0.notes.wakes.items
      → KeepsWith spare w1 d w.home.timers (changed_at rs q forward_applied) s.sleepers.items s
  by_record q at apart rooted told wide wakes =
      let i = w.index in
      let ns = w.names in
      let zs = w.home.timers in
      let ss = s.sleepers.items in
      let due = subst (λ x. IsDue x w.home.closing i w.moments s.config ns d zs rs ss) idle keeps.due in
      let flown = subst (λ x. HasFlown x i ns d rs) idle keeps.flown in
      let quiet : has_wakes_at w.place ≡ false → left.notes.wakes.items ≡ [] = λ h. wakes ∙ keeps.quiet h in
      let timed = timed_gone i ns d zs rs ss q r at apart due.timed in
      let due_now = subst (λ x. IsDue x w.home.closing i w.moments s.config ns d zs (changed_at rs q forward_applied) ss) (sym idle) (assumption (timed, due)) in
      let flown_now = subst (λ x. HasFlown x i ns d (changed_at rs q forward_applied)) (sym idle) (flown_gone i ns d zs rs ss q r at apart flown) in
      let carried = carried_marked n d.requests d.ring rs s.store keeps.carried q forward_applied (λ y there. refl) (λ y there. refl) (λ y there. refl) in
      let known = known_marked i n d.requests s.opens s.opens rs q forward_applied (λ y. record { id = refl; worker = refl; kind = refl; target = refl; unrefused = λ h. h }) (λ file h. h) keeps.known in
      assumption (named_gone i ns d zs rs ss q r at apart keeps.named, over_gone i ns d zs rs ss q r at apart ns.ended.items ns.unreleased (pending_count d.requests) keeps.over, quiet, due_now, flown_now, carried, known, keeps)

  -- WHAT IS SEEN OF IT
  pub record SeenForward : Type 0 where
    pub keeps_on : KeepsSpare spare v s'
    pub desk : desk_of v ≡ told_of_forward k r.shown (desk_of w)
    pub own : own_of v ≡ own_of w
    pub shows : visible v ≡ visible w

  module _ (slab : Slab (Entry Reply Reply)) (drv : driver_of v ≡ record d { requests = slab }) where
    pub own_by : flying_count slab ≡ flying_count d.requests → own_of v ≡ own_of w
    own_by flying =
        let me = own_of w in
        ap own_of takes.forwards.worker
        ∙ ap (λ (x : Driving Reply Reply). record me { ready = numbers_of n x.lists.queued; unenrolled = numbers_of n x.lists.enrolments; cancels = numbers_of n x.lists.cancels; in_flight = flying_count x.requests }) drv
        ∙ ap (λ m. record me { in_flight = m }) flying

    pub shows_by : visible v ≡ visible w
    shows_by =
        let made : RingState → Visible = λ x. record { busy = x.busy; landed = landed_in n x; wakes = wake_poll_in x; taken = map message_of w.batch.values } in
        ap visible takes.forwards.worker ∙ ap (λ (x : Driving Reply Reply). made x.ring) drv

    pub desk_by : left.notes.wakes.items ≡ left0.notes.wakes.items → left.notes.completions.items ≡ left0.notes.completions.items → left.outputs.items ≡ left0.outputs.items
        → desk_of v ≡ record (desk_of w) { results = results_in left.results.items; requests = slots_seen n slab; awaited = awaited_from 0 n slab.slots }
    desk_by wakes completed outputs =
        let d0 = desk_of w in
        ap desk_of takes.forwards.worker
        ∙ ap (λ (x : Driving Reply Reply). record d0 {
          wakes = map (λ (t : TaskNo). t.0) left.notes.wakes.items;
          completions = completions_in left.notes.completions.items;
          entries = length x.ring.staged;
          polled = x.armed;
          others = trailing 0 (completions x.ring);
          outputs = length left.outputs.items;
          results = results_in left.results.items;
          requests = slots_seen n x.requests;
          awaited = awaited_from 0 n x.requests.slots;
        }) drv
        ∙ ap (λ (ts : List TaskNo). record d0 { wakes = map (λ (t : TaskNo). t.0) ts; completions = completions_in left.notes.completions.items; outputs = length left.outputs.items; results = results_in left.results.items; requests = slots_seen n slab; awaited = awaited_from 0 n slab.slots }) wakes
        ∙ ap (λ cs. record d0 { completions = completions_in cs; outputs = length left.outputs.items; results = results_in left.results.items; requests = slots_seen n slab; awaited = awaited_from 0 n slab.slots }) completed
        ∙ ap (λ os. record d0 { outputs = length os; results = results_in left.results.items; requests = slots_seen n slab; awaited = awaited_from 0 n slab.slots }) outputs

  -- the answer is the last
  pub last_seen : (x : Result RequestOutput Error) → left.results.items ≡ left0.results.items ++ the_answer x ∷ [] → results_in left.results.items ≡ (desk_of w).results ++ k ∷ []
  last_seen x added = ap results_in added ∙ map-append (λ (a : Answer Reply). number_heard a.sender.of) left0.results.items (the_answer x ∷ [])

  -- each number stands in one slot
  pub one_slot : (e : Entry Reply Reply) → value_at d.requests id ≡ Some e → OneSlot n d.requests id
  one_slot e value =
      grind (arith, value, low_there, w.index, d.requests, s.opens, s.requests.items, keeps.known, id, by)
    where
      by : (j : ℕ) (x : Slot (Entry Reply Reply)) → slice_get d.requests.slots j ≡ Some x → is_live x ≡ true → slice_index_or n j 0 ≡ number_in n id → j ≡ id.index
      by j (Live g x) at alive same =
          let other : Id = record { index = j; generation = g } in
          let a = keeps.named.requests other (rw (value_live d.requests j g x at) refl) in
          let b = keeps.named.requests id (rw value refl) in
          let both : a.0 ≡ b.0 = same_Some a.0 b.0 (sym a.1 ∙ ap (slice_get s.requests.items) same ∙ b.1) in
          ap (λ (y : Id). y.index) (sym a.2 ∙ ap (λ (y : Record). y.id.0) both ∙ b.2)
      by j (Vacant g) at alive same = absurd (false≢true alive)
      by j Retired at alive same = absurd (false≢true alive)

  pub one_is : (e : Entry Reply Reply) (value : value_at d.requests id ≡ Some e) → (one_slot e value).e ≡ e
  unfolding one_slot
  one_is e value = refl

  -- what an answer at once leaves
  module _ (x : Result RequestOutput Error) (tells : Tells left0 left (answered id reply x)) where
    pub wakes_same : left.notes.wakes.items ≡ left0.notes.wakes.items
    wakes_same = tells.notes.wakes_added ∙ append-nil left0.notes.wakes.items

    pub completed_same : left.notes.completions.items ≡ left0.notes.completions.items
    completed_same = tells.notes.completions_added ∙ append-nil left0.notes.completions.items

    pub outputs_same : left.outputs.items ≡ left0.outputs.items
    outputs_same = tells.outputs_added ∙ append-nil left0.outputs.items

    pub told_then : (slab : Slab (Entry Reply Reply)) → tellers slab w.home.timers ≤ tellers d.requests w.home.timers → IsTold w.names.ended.items left (tellers slab w.home.timers + spare)
    told_then slab less = told_one w.names.ended.items (tellers slab w.home.timers + spare) left0 left (answered id reply x) tells (told_one_answer id reply x) (places_fewer (omega (arith, less)) keeps.told)

    pub wide_then : (slab : Slab (Entry Reply Reply)) → tellers slab w.home.timers ≤ tellers d.requests w.home.timers → HasWidth left (tellers slab w.home.timers + 64)
    wide_then slab less = wide_ended (tellers d.requests w.home.timers + 64) (tellers slab w.home.timers + 64) left0 left (answered id reply x) (omega (arith, less)) tells keeps.wide

  pub due_none : d.lists.due ≡ []
  due_none = keeps.due.told (ap may_be_due idle)

  pub wheel_at : IsWheelAt s.config w.moments.start w.moments.sampled d.wheel
  wheel_at = subst (λ x. IsWheelAt s.config w.moments.start (wheel_moment x w.moments) d.wheel) idle keeps.due.wheel
