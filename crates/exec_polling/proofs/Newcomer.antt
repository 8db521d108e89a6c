-- One more request is queued, or waits at its gate: what holds again of the requests.
use Rattle.std.{proofs.{Common.{◌≡◌, ◌≢◌, ℕ, ◌+◌, ◌^◌, ◌<◌, ◌≤◌, ◌&&◌, ◌||◌, not, Bool, true, false, List, [], ◌∷◌, ◌++◌, length, suc, zero, Option, Some, None, IsSome, refl, sym, ap, subst, ◌∙◌, arith, inl, inr, slice_get, is_some}, lemmas.{Bool.false≢true, List.length-append, Option.slice_get_within}}, specs.List.AllByRecursion}
use Rattle.exec_base.specs.{Slab.{Slab, IsPast, generation_of, next_generation, slot_at, value_at}, declared.slab.{Id.Id, Slot.Slot}}
use Rattle.exec_outcomes.specs.Accounts.{is_durable}
use Rattle.exec_time.specs.declared.timers.Sleeper.{Sleeper as Sleeping}
use Rattle.exec_request.specs.{Requests.{asked_of, cursor_of, deadline_of, gate_of, target_of}, declared.request.Request.Request as Asking}
use Rattle.exec_ring.specs.{Rings.RingState, Stores.Reserves, declared.store.Store.Store}
use Rattle.exec_waiters.{specs.{States.{waiter_at, waiter_of, tick_in}, declared.{deferred.{Answer.Answer, Deferred.Deferred}, observer.Observer.TheVariants.{Forwarded, Local}, waiter.{Entry.{Entry, TheVariants.{Pending, Ready}}, Waiter.Waiter}}}, proofs.Changes.entry_of}
use Rattle.exec_driver.specs.{Driving.{Driving, is_unenrolled}, Punctual.IsPunctual, Footprints.footprint_of}
use Rattle.exec_lists.specs.Lists.{is_among}
use Rattle.exec_opens.specs.Opens.{OpenState}
use Rattle.exec_machine.specs.{Requests.{asked_of as asked_in, first_phase}, Tests.{is_applied, is_in_flight, is_resolved, is_staged}}
use Rattle.exec_moves.specs.declared.place.InService.{InService}
use Rattle.exec_parts.{specs.{declared.parts.{mail.Reply.Reply, names.Names.Names, record.Record.Record, sleeping.SleeperRecord.SleeperRecord}, Records.number_in}, proofs.Facts.{and_parts, by_name, by_number, not_same}}
use Rattle.exec_invariants.{proofs.{Taken.{got_new, got_old, name_apart, number_new, number_old, past_still, slot_apart, some_still, value_before, value_new, value_old, was_got, enrolled_if, among_before, among_now, all_listed, known_more}, Flown.{AllFlyOn, landed_on}, Conveying.carried_ring, Gated.gate_there, Mine.stands, Orders.{Eases, comes_in, joins}}, specs.{Carried.{IsCarried, IsWhole}, Due.AreTimed, Flown.{AreLanded, HasFlown, IsPlain, IsPolled, operations}, Gates.{IsKnown, has_hint_at, may_ask_hint}, Ordered.IsOrdered, Places.one_if, Rooted.{IsReplyFor, IsRooted, Pays, Watches, goes_elsewhere, is_of_request, results_of}, Sound.AreOver, Names.{IsNamed, IsSubmitted}}}
use Rattle.exec_polling.proofs.{Admitted.{IsFew, carried_joined, room_made, stretch_made}, Coming.{OneComes, first_idle, none_of}}

module _ (i : ℕ) (n n' : Names) (d d' : Driving Reply Reply) (zs : Slab (Sleeping Reply)) (rs : List Record) (ss : List SleeperRecord) (id : Id) (it : Waiter Reply Reply) (r : Record) (one : OneComes i n n' d d' rs id it r) where
  -- THE DRIVER AND THE NUMBERS

  pub is_here : waiter_at d'.requests id ≡ Some it
  is_here = ap waiter_of (value_new d.requests d'.requests id (Pending it) one.takes)

  was_none : waiter_at d.requests id ≡ None
  was_none = ap waiter_of (value_before d.requests d'.requests id (Pending it) one.takes)

  still_at : (other : Id) → other ≢ id → waiter_at d'.requests other ≡ waiter_at d.requests other
  still_at other apart = ap waiter_of (value_old d.requests d'.requests id (Pending it) one.takes other apart)

  some_of : (other : Id) (w : Waiter Reply Reply) → waiter_at d.requests other ≡ Some w → IsSome (value_at d.requests other)
  some_of other w at = rw (entry_of (value_at d.requests other) w at) refl

  pub number_here : number_in n'.requests.items id ≡ length rs
  number_here = number_new n.requests.items n'.requests.items id (length rs) one.number_is one.others

  pub number_there : (other : Id) → IsSome (value_at d.requests other) → number_in n'.requests.items other ≡ number_in n.requests.items other
  number_there other some = number_old n.requests.items n'.requests.items id (length rs) one.number_is one.others other (slot_apart d.requests d'.requests id (Pending it) one.takes other some)

  phase_is : r.shown.phase ≡ first_phase one.o.kind
  phase_is = ap (λ x. x.phase) one.shown

  unresolved : is_resolved r.shown.phase ≡ false
  unresolved = ap is_resolved phase_is ∙ (first_idle one.o.kind).open_still

  mine_too : r.shown.worker ≡ i
  mine_too = ap (λ x. x.worker) one.shown

  -- what has a number that is known has that record still
  record_there : IsNamed i n d zs rs ss → (other : Id) (x : Record) → IsSome (value_at d.requests other) → slice_get (rs ++ r ∷ []) (number_in n'.requests.items other) ≡ Some x → slice_get rs (number_in n.requests.items other) ≡ Some x
  record_there = grind (arith, number_there, got_old)

  -- NAMED

  submitted_next : IsSubmitted i n.staged.items n.untold.items d.ring rs → IsSubmitted i n'.staged.items n'.untold.items d'.ring (rs ++ r ∷ [])
  submitted_next sub =
      subst (λ (x : RingState). IsSubmitted i n'.staged.items n'.untold.items x (rs ++ r ∷ [])) (sym one.ring)
      (rw (one.staged, one.untold) (record {
        tagged = sub.tagged;
        cancels = sub.cancels;
        known = known_more n.staged.items rs r sub.known;
        own = λ k x listed there. elim (was_got rs r x k there) [ inl old ↦ sub.own k x listed old | inr last ↦ ap (λ y. y.shown.worker) (sym last.1) ∙ mine_too ];
        all = λ k x there mine staged.
            elim (was_got rs r x k there) [ inl old ↦ sub.all k x old mine staged | inr last ↦ absurd (false≢true (sym (ap (λ y. is_staged y.shown.phase) (sym last.1) ∙ ap is_staged phase_is ∙ (first_idle one.o.kind).unstaged) ∙ staged)) ];
      }))

  pub named_next : IsNamed i n d zs rs ss → IsNamed i n' d' zs (rs ++ r ∷ []) ss
  named_next named =
      record {
        requests = grind (arith, by_name, value_old, number_there, got_old, number_here, got_new, mine_too);
        timers = λ other h. rw one.timers (named.timers other h);
        alike = λ other w x at there.
            rw one.wheel
            (by_name other id
            (λ apart.
            let old : waiter_at d.requests other ≡ Some w = sym (still_at other apart) ∙ at in
            named.alike other w x old (record_there named other x (some_of other w old) there))
            (λ same.
            let is_it : it ≡ w = cc (is_here, at, ap (waiter_at d'.requests) same) in
            let found : slice_get (rs ++ r ∷ []) (length rs) ≡ Some x = ap (slice_get (rs ++ r ∷ [])) (sym (ap (number_in n'.requests.items) same ∙ number_here)) ∙ there in
            let is_r : r ≡ x = cc (found, got_new rs r) in
            rw (← is_it, ← is_r) one.alike));
        over = λ k x there mine gone.
            elim (was_got rs r x k there) [
              | inl old ↦ named.over k x old mine (by_name x.id.0 id (λ apart. sym (still_at x.id.0 apart) ∙ gone) (λ same. ap (waiter_at d.requests) same ∙ was_none))
              | inr last ↦ absurd (let no : Some it ≡ None = sym is_here ∙ ap (waiter_at d'.requests) (sym one.name) ∙ ap (λ y. waiter_at d'.requests y.id.0) last.1 ∙ gone in cc)
            ];
        submitted = submitted_next named.submitted;
        slots = one.slots;
        beds = rw one.timers named.beds;
      }

  -- OVER, TIMED

  pub over_next : (others : ℕ) → AreOver i n.ended.items n.unreleased others rs → AreOver i n'.ended.items n'.unreleased (others + 1) (rs ++ r ∷ [])
  over_next = grind (arith, got_old)

  -- what isn't over is at the driver
  at_driver : IsNamed i n d zs rs ss → (k : ℕ) (x : Record) → slice_get rs k ≡ Some x → x.shown.worker ≡ i → is_resolved x.shown.phase ≡ false → IsSome (value_at d.requests x.id.0)
  at_driver = grind arith

  pub timed_next : IsNamed i n d zs rs ss → AreTimed i n rs → AreTimed i n' (rs ++ r ∷ [])
  timed_next named timed k x there mine =
      elim (was_got rs r x k there) [
        | inl old ↦
            let t = timed k x old mine in
            record { named = λ open_still. number_there x.id.0 (at_driver named k x old mine open_still) ∙ t.named open_still; over = t.over }
        | inr last ↦
            record {
              named = λ open_still. ap (λ y. number_in n'.requests.items y.id.0) (sym last.1) ∙ ap (number_in n'.requests.items) one.name ∙ number_here ∙ sym last.0;
              over = λ over. absurd (false≢true (sym (ap (λ y. is_resolved y.shown.phase) (sym last.1) ∙ unresolved) ∙ over));
            }
      ]

  -- DEADLINES

  pub punctual_next : tick_in it.state ≡ None → IsPunctual d → IsPunctual d'
  punctual_next = grind arith

  largest : IsNamed i n d zs rs ss → (other : Id) → IsSome (value_at d.requests other) → number_in n.requests.items other < length rs
  largest named other some = let old = named.requests other some in slice_get_within rs (number_in n.requests.items other) old.0 old.1

  eases : tick_in it.state ≡ None → Eases d.requests d'.requests
  eases = grind arith

  pub order_next : (round : Bool) → tick_in it.state ≡ None → IsNamed i n d zs rs ss → d.lists.due ≡ [] → IsOrdered round n.requests.items d.requests d.wheel d.lists.enrolments d.lists.due
      → IsOrdered round n'.requests.items d'.requests d'.wheel d'.lists.enrolments d'.lists.due
  order_next round untimed named none order =
      rw (one.wheel, one.enrolments, one.due, none) (by (deadline_of it.request))
    where
      before : IsOrdered round n.requests.items d.requests d.wheel d.lists.enrolments []
      before = subst (λ ds. IsOrdered round n.requests.items d.requests d.wheel d.lists.enrolments ds) none order

      listed : AllByRecursion (λ e. IsSome (value_at d.requests e.0)) d.lists.enrolments
      listed = all_listed d d.lists.enrolments (λ x among. stands d x is_unenrolled (waiter_at d.requests x.0) refl refl (one.lists.enrolments x among))

      numbers : (other : Id) → other.index ≢ id.index → number_in n'.requests.items other ≡ number_in n.requests.items other
      numbers = number_old n.requests.items n'.requests.items id (length rs) one.number_is one.others

      by : (o : Option ℕ) → IsOrdered round n'.requests.items d'.requests d.wheel (enrolled_if o (record { 0 = id }) d.lists.enrolments) []
      by None = comes_in round n.requests.items n'.requests.items d.requests d'.requests d.wheel d.lists.enrolments (record { 0 = id }) (length rs) one.next one.new (eases untimed) number_here numbers (largest named) listed before
      by (Some m) = joins round n.requests.items n'.requests.items d.requests d'.requests d.wheel d.lists.enrolments (record { 0 = id }) (length rs) one.next one.new (eases untimed) number_here numbers (largest named) listed before

  -- THE KERNEL

  pub carried_next : (q : Asking) (st st' : Store) → it.request ≡ q → id.index < 4294967295 → IsWhole q → IsFew q → asked_in r.shown.operation ≡ asked_of q → r.shown.operation.target ≡ target_of q → r.shown.operation.moved ≡ (cursor_of q).moved → Reserves (footprint_of q) st st'
      → IsNamed i n d zs rs ss → IsCarried n.requests.items d.requests d.ring rs st → IsCarried n'.requests.items d'.requests d'.ring (rs ++ r ∷ []) st'
  carried_next q st st' is small whole few asked target moved reserves named carried =
      subst (λ (x : RingState). IsCarried n'.requests.items d'.requests x (rs ++ r ∷ []) st') (sym one.ring)
      (carried_ring n'.requests.items d'.requests d.ring (rs ++ r ∷ []) st'
      (carried_joined n.requests.items n'.requests.items d.requests d'.requests d.ring rs st st' carried id q r (record {
        small = small;
        none = was_none;
        here = rw (value_new d.requests d'.requests id (Pending it) one.takes) refl;
        asks = λ x at. let same : it ≡ x = cc (is_here, at) in ap (λ y. y.request) (sym same) ∙ is;
        others = λ other apart. value_old d.requests d'.requests id (Pending it) one.takes other apart;
        number = number_here;
        apart = number_old n.requests.items n'.requests.items id (length rs) one.number_is one.others;
        known = largest named;
        whole = whole;
        target = target;
        idle = ap is_in_flight phase_is ∙ (first_idle one.o.kind).idle;
      }) (room_made q r st st' whole few asked target moved reserves) reserves.files.stretches (stretch_made q st st' whole reserves))
      (record d.ring { places = d'.ring.places }) (λ v h. refl) (λ v h. refl))

  -- FLOWN

  -- what has landed has its number and its record still
  pub flies_on : AllFlyOn n n' d d' rs (rs ++ r ∷ [])
  flies_on = grind (arith, some_of, still_at, name_apart, number_there, got_old)

  pub flown_next : (x : Option InService) → IsNamed i n d zs rs ss → HasFlown x i n d rs → HasFlown x i n' d' (rs ++ r ∷ [])
  flown_next x named flown =
      let size : d'.ring.size ≡ d.ring.size = ap (λ (y : RingState). y.size) one.ring in
      record {
        ending = one.room;
        staging = rw (size, one.staged) flown.staging;
        telling = rw (size, one.untold) flown.telling;
        entries = rw (one.staged, one.untold, ap (λ (y : RingState). y.staged) one.ring) flown.entries;
        gated = λ other w at needs.
            rw one.gated
            (by_name other.0 id
            (λ apart. among_before other (record { 0 = id }) (gate_of it.request) d.lists.gated (flown.gated other w (sym (still_at other.0 apart) ∙ at) needs))
            (λ same.
            let is_it : it ≡ w = cc (is_here, at, ap (waiter_at d'.requests) same) in
            let name : record { 0 = id } ≡ other = ap (λ y. record { 0 = y }) (sym same) in
            let durable = (and_parts (is_durable (asked_of w.request).kind) (not w.permit) needs).0 in
            subst (λ y. is_among y (enrolled_if (gate_of it.request) (record { 0 = id }) d.lists.gated) ≡ true) name
            (among_now (record { 0 = id }) (gate_of it.request) d.lists.gated (ap (λ y. is_some (gate_of y.request)) is_it ∙ ap is_some (gate_there w.request durable)))));
        plain = λ k y there mine. elim (was_got rs r y k there) [ inl old ↦ flown.plain k y old mine | inr last ↦ subst (λ z. IsPlain z.shown) last.1 one.plain ];
        landed = subst (λ (y : RingState). AreLanded n' d' (rs ++ r ∷ []) (operations y)) (sym one.ring) (landed_on n n' d d' rs (rs ++ r ∷ []) (operations d.ring) flown.landed flies_on);
        enrolling = λ other w at takes has.
            rw one.enrolments
            (by_name other.0 id
            (λ apart. among_before other (record { 0 = id }) (deadline_of it.request) d.lists.enrolments (flown.enrolling other w (sym (still_at other.0 apart) ∙ at) takes has))
            (λ same.
            let is_it : it ≡ w = cc (is_here, at, ap (waiter_at d'.requests) same) in
            let name : record { 0 = id } ≡ other = ap (λ y. record { 0 = y }) (sym same) in
            subst (λ y. is_among y (enrolled_if (deadline_of it.request) (record { 0 = id }) d.lists.enrolments) ≡ true) name
            (among_now (record { 0 = id }) (deadline_of it.request) d.lists.enrolments (ap (λ y. is_some (deadline_of y.request)) is_it ∙ has))));
        polled = subst (λ (y : RingState). IsPolled y d'.armed) (sym one.ring) (subst (IsPolled d.ring) (sym one.armed) flown.polled);
        owning = λ k y there open_still. elim (was_got rs r y k there) [ inl old ↦ flown.owning k y old open_still | inr last ↦ ap (λ z. z.shown.released) (sym last.1) ∙ ap (λ z. z.released) one.shown ];
        uncancelled = grind (arith, stands, record_there);
      }

  -- WHAT WAS KNOWN

  generation_at : id.generation ≡ generation_of (slot_at d.requests id.index)
  generation_at = grind arith

  no_less : (slot : Slot (Entry Reply Reply)) → generation_of slot ≤ next_generation slot
  no_less = grind arith

  -- as many times as it was taken there is a request
  few_times : ((other : Id) → IsPast d.requests other → other.generation < length rs) → id.generation < length rs + 1
  few_times counted = by id.generation refl
    where
      by : (g : ℕ) → id.generation ≡ g → g < length rs + 1
      by zero is = omega arith
      by (suc g) is =
          let past : g < next_generation (slot_at d.requests id.index) = omega (arith, is, generation_at, no_less (slot_at d.requests id.index)) in
          let few : g < length rs = counted (record { index = id.index; generation = g }) past in
          omega (arith, few)

  past_here : IsPast d'.requests id
  past_here = subst (λ o. id.generation < next_generation o) (sym one.takes.changed.here) (let it : id.generation < id.generation + 1 = omega arith in it)

  pub known_next : (opens opens' : List OpenState) → ((file : ℕ) → has_hint_at opens file ≡ false → has_hint_at opens' file ≡ false) → ((cursor_of it.request).hinted ≡ may_ask_hint r.shown.operation.kind) → length rs < 2 ^ 32
      → IsNamed i n d zs rs ss → IsKnown i n.requests.items d.requests opens rs → IsKnown i n'.requests.items d'.requests opens' (rs ++ r ∷ [])
  known_next opens opens' on hint few named known =
      let low = few_times known.counted in
      record {
        past = λ k x there mine.
            elim (was_got rs r x k there) [
              | inl old ↦ let was = known.past k x old mine in (was.0, past_still d.requests d'.requests id (Pending it) one.takes x.id.0 was.1)
              | inr last ↦
                  let name : id ≡ x.id.0 = sym one.name ∙ ap (λ (y : Record). y.id.0) last.1 in
                  subst (λ (y : Id). (y.generation < 2 ^ 64) × IsPast d'.requests y) name (omega (arith, low, few), past_here)
            ];
        counted = grind (arith, length-append, by_number);
        few = let long = length-append rs (r ∷ []) in omega (arith, long, few);
        hints = λ other w x at there asks unrefused unhinted.
            by_name other id
            (λ apart.
            let old : waiter_at d.requests other ≡ Some w = sym (still_at other apart) ∙ at in
            on x.shown.operation.target (known.hints other w x old (record_there named other x (some_of other w old) there) asks unrefused unhinted))
            (λ same.
            let is_it : it ≡ w = cc (is_here, at, ap (waiter_at d'.requests) same) in
            let found : slice_get (rs ++ r ∷ []) (length rs) ≡ Some x = ap (slice_get (rs ++ r ∷ [])) (sym (ap (number_in n'.requests.items) same ∙ number_here)) ∙ there in
            let is_r : r ≡ x = cc (found, got_new rs r) in
            absurd (false≢true (sym unhinted ∙ ap (λ (y : Waiter Reply Reply). (cursor_of y.request).hinted) (sym is_it) ∙ hint ∙ ap (λ (y : Record). may_ask_hint y.shown.operation.kind) is_r ∙ asks)));
      }

  -- WHAT IS KEPT OF THEM

  pub rooted_next : (left : Deferred Reply Reply) → IsNamed i n d zs rs ss → IsRooted i n d zs left rs ss → IsRooted i n' d' zs left (rs ++ r ∷ []) ss
  rooted_next left named rooted =
      record {
        kept = λ other told x at there.
            by_name other id
            (λ apart.
            let old : value_at d.requests other ≡ Some (Ready told) = sym (value_old d.requests d'.requests id (Pending it) one.takes other apart) ∙ at in
            rooted.kept other told x old (record_there named other x (rw old refl) there))
            (λ same. absurd (let no : Some (Pending it) ≡ Some (Ready told) = sym (value_new d.requests d'.requests id (Pending it) one.takes) ∙ ap (value_at d'.requests) (sym same) ∙ at in cc));
        ready = λ k x there mine over seen unapplied.
            elim (was_got rs r x k there) [
              | inl old ↦
                  let was = rooted.ready k x old mine over seen unapplied in
                  record { named = number_there x.id.0 was.live ∙ was.named; live = some_still d.requests d'.requests id (Pending it) one.takes x.id.0 was.live }
              | inr last ↦ absurd (false≢true (sym (ap (λ y. is_resolved y.shown.phase) (sym last.1) ∙ unresolved) ∙ over))
            ];
        replies = λ other w reply x at forwarded there.
            by_name other id
            (λ apart.
            let old : waiter_at d.requests other ≡ Some w = sym (still_at other apart) ∙ at in
            let some = some_of other w old in
            subst (λ k. IsReplyFor k reply x) (sym (number_there other some)) (rooted.replies other w reply x old forwarded (record_there named other x some there)))
            (λ same.
            let is_it : it ≡ w = cc (is_here, at, ap (waiter_at d'.requests) same) in
            absurd (let no : Local None ≡ Forwarded reply = sym one.observer ∙ ap (λ (y : Waiter Reply Reply). y.observer) is_it ∙ forwarded in cc));
        watches = λ other w z at there. subst (λ ts. Watches (number_in ts other) w.observer z) (sym one.timers) (rooted.watches other w z at (ap (λ ts. slice_get ss (number_in ts other)) (sym one.timers) ∙ there));
        pays = λ k x there mine.
            elim (was_got rs r x k there) [
              | inl old ↦ rooted.pays k x old mine
              | inr last ↦ subst Pays last.1 (record { unpaid = λ a b. ap (λ y. y.wakes_paid) one.shown; once = λ h. subst (λ m. m ≤ 1) (sym (ap (λ y. y.wakes_paid) one.shown)) (omega arith) })
            ];
        sleeper_pays = rooted.sleeper_pays;
        results = λ a among. let was = rooted.results a among in record { k = was.k; r = was.r; there = got_old rs r was.r was.k was.there; worker = was.worker; reply = was.reply; answer = was.answer; paid = was.paid };
        completions = rooted.completions;
        sent = λ k x there mine.
            elim (was_got rs r x k there) [
              | inl old ↦ rooted.sent k x old mine
              | inr last ↦
                  let none : results_of k left ≡ 0 = none_of (λ (a : Answer Reply). is_of_request k a.sender.of) left.results.items (λ a among.
                  let was = rooted.results a among in
                  let under = slice_get_within rs was.k was.r was.there in
                  ap (is_of_request k) was.reply.of ∙ not_same was.k k (λ same. absurd (omega (arith, under, same, last.0)))) in
                  let unsent : one_if x.sent ≡ 0 = ap (λ (y : Record). one_if y.sent) (sym last.1) ∙ ap one_if one.unsent in
                  let stays : one_if (goes_elsewhere x) ≡ 0 = ap (λ (y : Record). one_if (goes_elsewhere y)) (sym last.1) ∙ ap (λ y. one_if (is_applied y.forwarding && (is_resolved y.phase || not y.observed))) one.shown in
                  omega (arith, none, unsent, stays)
            ];
        sleeper_sent = rooted.sleeper_sent;
      }
