-- NOBODY HOLDS A REQUEST ANY MORE, and its worker lets go of it: all of the worker's own that holds again, wherever it is outside a
-- service.
use Rattle.exec_invariants.{proofs.{Names.{◌≡◌, ◌⊎◌, ℕ, ◌+◌, ◌≤◌, ◌==◌, ◌&&◌, ◌||◌, Bool, true, false, not, Contains, List, [], ◌∷◌, ◌++◌, count_by, Some, None, Err, refl, sym, ap, subst, ◌∙◌, inl, inr, arith, slice_get, false≢true, eq-eqb, append-nil, set-set, Contains-append_cases, sum_by-append, Slab, value_at, written, Closed, Timeout, Id, Live, Failure, asked_of, cancelled_of, told_to, with_observer, is_held_by, pending_count, tick_in, tick_of, waiter_at, Told, Tells, Answer, Deferred, Observer, DetachedSync, Forwarded, Local, Orphaned, Entry, Pending, Waiter, entry_of, one_if, Driving, IsPunctual, Forwarding, Applied, Request, RequestPhase, dropped, ends_by_drop, is_cancelled_by_drop, resolved, is_applied, is_in_flight, is_kept, is_queued, is_resolved, Heard, Reply, Record, Shared, Worker, unobserved, number_in, changed_at, and_right, by_name, not_same, or_right, same_Some, Option, IsSome, slice_set, if◌then◌else◌, removed, RequestOutput, untaken, told_by_orphan, orphaned_from, asks_cancel_by_orphan, waiter_of, Ready, request_at, both, cancelled_at, told_by_cancel, without_observer, LetsGo, drops, changed_in, driver_of, true_from_ne_false}, Changing.{changes_one, pending_still}, HeldCounts.held_written, LetRooted.{Rewaits, TellsOne, keeps_watched, told_one}, Mine.live_mine, Resolving.{places_fewer, wide_ended}, ServedEnds.only_one, ServingHolds.{KeepsWith, KeepsSpare, keeps_home}, Watching.{Watched, now_there, still_pending}, HoldThings.{Touches, has_touched, touches_record}, LetSlab.{one_held_less, other_entry, watched_gone, same_pending, same_waiters}, Untold.keeps_untold}, specs.{Due.{IsWheelAt, may_be_due, wheel_moment}, Places.{one_if as one_when}, Rooted.{IsNear, IsReplyFor, IsResult, goes_elsewhere, is_of_request, results_of}, Names.{IsAlike, held_count, tellers}, Sound.served_in, Gates.AreLinedUp, Spares.SparesRecord}}

-- WHAT BECOMES OF ONE that may be there: it goes on alone where it changes a file, and else is cancelled, or over by this

pub not_gone : (q : Request) → ends_by_drop q ≡ false → is_cancelled_by_drop q ≡ false → dropped q ≡ record q { observed = false }
not_gone q a b = rw (a, b) refl

pub cancels_now : (q : Request) → ends_by_drop q ≡ false → is_cancelled_by_drop q ≡ true → dropped q ≡ record q { observed = false; cancelled = true; timer = None }
cancels_now q a b = rw (a, b) refl

pub ends_it : (q : Request) → ends_by_drop q ≡ true → dropped q ≡ record (resolved (Failure Timeout) q) { observed = false }
ends_it q a = rw a refl

abbrev pub ends_now : Record → Record
ends_now r = record r { shown = resolved (Failure Timeout) r.shown }

-- its cancel is asked besides
abbrev pub let_cancel : Record → Record
let_cancel r = record r { shown = record r.shown { observed = false; cancelled = true; timer = None } }

abbrev pub without_waiter : Waiter Reply Reply → Waiter Reply Reply
without_waiter it = with_observer Orphaned it

pub alike_orphaned : (start tick : ℕ) (it : Waiter Reply Reply) (r : Record) → IsAlike start tick it r.shown → IsAlike start tick (without_waiter it) (unobserved r).shown
alike_orphaned = grind arith

pub alike_cancelled : (start tick : ℕ) (it : Waiter Reply Reply) (r : Record) → it.in_flight ≡ true → is_kept (asked_of it.request).kind ≡ false → IsAlike start tick it r.shown → IsAlike start tick (cancelled_of (without_waiter it)) (let_cancel r).shown
alike_cancelled = grind arith

-- the wheel has what it had
pub punctual_watched : (d d' : Driving Reply Reply) (id : Id) (it it' : Waiter Reply Reply) → waiter_at d.requests id ≡ Some it → d' ≡ record d { requests = written d.requests id (Pending it') } → it'.state ≡ it.state → IsPunctual d → IsPunctual d'
punctual_watched d d' id it it' at is state punctual =
    subst IsPunctual (sym is)
    (record {
      ahead = λ x t enrolled undue.
          let changed = changes_one d.requests id it it' at in
          let tick : tick_of (waiter_at (written d.requests id (Pending it')) x.0) ≡ tick_of (waiter_at d.requests x.0) =
          by_name x.0 id (λ apart. ap tick_of (changed.others x.0 apart)) (λ same. rw same (ap tick_of changed.is_at ∙ ap tick_in state ∙ sym (ap tick_of at))) in
          punctual.ahead x t (sym tick ∙ enrolled) undue;
    })

pub over_idle : (p : RequestPhase) → is_resolved p ≡ true → (is_queued p ≡ false) × (is_in_flight p ≡ false)
over_idle = grind arith

pub applied_so : (f : Forwarding) → is_applied f ≡ true → f ≡ Applied
applied_so = grind arith

pub asks_once : (staged cancelled : Bool) → (staged ≡ true → cancelled ≡ true) → cancelled ≡ false → staged ≡ false
asks_once true c once none = absurd (false≢true (sym none ∙ once refl))
asks_once false c once none = refl

pub written_twice : (s : Slab (Entry Reply Reply)) (id : Id) (a b : Entry Reply Reply) → written (written s id a) id b ≡ written s id b
written_twice s id a b = ap (λ slots. record s { slots = slots }) (set-set s.slots id.index (Live id.generation a) (Live id.generation b))

-- WHAT WHO WAITS ELSEWHERE IS TOLD: that there is nothing to wait for
told_to_one : (id : Id) (o : Observer Reply Reply) → TellsOne (told_to id o)
told_to_one = grind arith

pub record ToldTo (t : Told Reply Reply) : Type 0 where
  pub wakes : t.wakes ≡ []
  pub outputs : t.outputs ≡ []
  pub resources : t.resources ≡ []
  pub completions : t.completions ≡ []

pub told_to_so : (id : Id) (o : Observer Reply Reply) → ToldTo (told_to id o)
told_to_so = grind arith

-- it comes at the end of the results
pub count_last : (k : ℕ) (xs : List (Answer Reply)) (a : Answer Reply) → a.sender.of ≡ Heard.Request k → (j : ℕ) → count_by (λ (x : Answer Reply). is_of_request j x.sender.of) (xs ++ a ∷ []) ≡ count_by (λ (x : Answer Reply). is_of_request j x.sender.of) xs + one_when (k == j)
count_last = grind (arith, sum_by-append)

-- THE REQUEST IS PENDING AT ITS DRIVER, and nobody waits for it there any more
module _ {B : Type 0} (w : Worker) (s : Shared B) (d d' : Driving Reply Reply) (id : Id) (it it' : Waiter Reply Reply) (r : Record) (f : Record → Record) (left' : Deferred Reply Reply) {spare : ℕ} (keeps : KeepsWith spare w d w.home.timers s.requests.items s.sleepers.items s) where
  abbrev rs_then : List Record
  rs_then = changed_at s.requests.items (number_in w.names.requests.items id) f

  abbrev at_number : ℕ
  at_number = number_in w.names.requests.items id

  pub record LetsPending : Type 0 where
    pub idle : served_in w.place ≡ None
    pub live : waiter_at d.requests id ≡ Some it
    pub there : slice_get s.requests.items at_number ≡ Some r
    pub slab : d'.requests ≡ written d.requests id (Pending it')
    pub by : Watched w.names d d' s.requests.items rs_then id r f
    pub alone : it'.observer ≡ Orphaned
    pub held : r.shown.observed ≡ true
    pub near : IsNear it.observer r.shown.forwarding
    pub open_still : is_resolved r.shown.phase ≡ false
    pub unseen : (f r).shown.observed ≡ false
    pub still : (f r).shown.forwarding ≡ r.shown.forwarding
    pub waiter : (f r).shown.waiter ≡ r.shown.waiter
    pub tells : Tells w.home.deferred left' (told_to id it.observer)
    pub observed : is_held_by it.observer ≡ true

  module _ (lets : LetsPending) where
    here_then : slice_get rs_then at_number ≡ Some (f r)
    here_then = now_there w.index w.names d d' w.home.timers s.requests.items rs_then s.sleepers.items id r f lets.by

    rewaits_by : (o : Observer Reply Reply) → it.observer ≡ o → IsNear o r.shown.forwarding → Tells w.home.deferred left' (told_to id o) → Rewaits w.index w.names d d' w.home.timers w.home.deferred left' s.requests.items rs_then s.sleepers.items id r f lets.by keeps.named
    rewaits_by o is near tells =
        record {
          none = still_pending d.requests d'.requests id it it' lets.live lets.slab;
          unkept = λ over. lets.unseen;
          near = λ x reply at forwarded.
              let same : it' ≡ x = same_Some it' x (sym (changes_one d.requests id it it' lets.live).is_at ∙ sym (ap (λ y. waiter_at y id) lets.slab) ∙ at) in
              let no : Orphaned ≡ Forwarded reply = sym lets.alone ∙ ap (λ (y : Waiter Reply Reply). y.observer) same ∙ forwarded in
              absurd (cc);
          seen = λ h. absurd (false≢true (sym lets.unseen ∙ h));
          still = lets.still;
          waiter = λ u h. lets.waiter ∙ h;
          results = by_results o is tells.results_added;
          others = by_others o is tells.results_added;
          sent = by_sent o is near tells.results_added;
          completions = tells.notes.completions_added ∙ ap (λ xs. w.home.deferred.notes.completions.items ++ xs) (told_to_so id o).completions ∙ append-nil w.home.deferred.notes.completions.items;
        }
      where
        added_none : left'.results.items ≡ w.home.deferred.results.items ++ [] → left'.results.items ≡ w.home.deferred.results.items
        added_none h = h ∙ append-nil w.home.deferred.results.items

        reply_for : (reply : Reply) → it.observer ≡ Forwarded reply → IsReplyFor at_number reply r
        reply_for reply is = keeps.rooted.replies id it reply r lets.live is lets.there

        by_results : (o : Observer Reply Reply) → it.observer ≡ o → left'.results.items ≡ w.home.deferred.results.items ++ (told_to id o).results → (a : Answer Reply) → Contains left'.results.items a → Contains w.home.deferred.results.items a ⊎ IsResult w.index a rs_then
        by_results (Local waker) is added a among = inl (subst (λ xs. Contains xs a) (added_none added) among)
        by_results (DetachedSync reply) is added a among = inl (subst (λ xs. Contains xs a) (added_none added) among)
        by_results Orphaned is added a among = inl (subst (λ xs. Contains xs a) (added_none added) among)
        by_results (Forwarded reply) is added a among =
            elim (Contains-append_cases w.home.deferred.results.items (record { id = record { 0 = id }; sender = reply; result = Err Closed } ∷ []) a (subst (λ xs. Contains xs a) added among)) [
              | inl old ↦ inl old
              | inr new ↦ inr (subst (λ (x : Answer Reply). IsResult w.index x rs_then) (only_one (record { id = record { 0 = id }; sender = reply; result = Err Closed }) a new) (record {
                k = at_number;
                r = f r;
                there = here_then;
                worker = ap (λ (y : Record). y.shown.worker) lets.by.keeps ∙ live_mine w.index w.names d w.home.timers s.requests.items s.sleepers.items keeps.named id it r lets.live lets.there;
                reply = record { of = (reply_for reply is).of; task = lets.waiter ∙ (reply_for reply is).task };
                answer = lets.unseen;
                paid = subst (λ m. m ≤ 1) (sym (ap (λ (y : Record). y.shown.wakes_paid) lets.by.keeps ∙ (keeps.rooted.pays at_number r lets.there (live_mine w.index w.names d w.home.timers s.requests.items s.sleepers.items keeps.named id it r lets.live lets.there)).unpaid lets.open_still lets.held)) (omega arith);
              }))
            ]

        by_others : (o : Observer Reply Reply) → it.observer ≡ o → left'.results.items ≡ w.home.deferred.results.items ++ (told_to id o).results → (j : ℕ) → (number_in w.names.requests.items id ≡ j → ⊥) → results_of j left' ≡ results_of j w.home.deferred
        by_others (Local waker) is added j apart = ap (count_by (λ (x : Answer Reply). is_of_request j x.sender.of)) (added_none added)
        by_others (DetachedSync reply) is added j apart = ap (count_by (λ (x : Answer Reply). is_of_request j x.sender.of)) (added_none added)
        by_others Orphaned is added j apart = ap (count_by (λ (x : Answer Reply). is_of_request j x.sender.of)) (added_none added)
        by_others (Forwarded reply) is added j apart =
            let last = count_last at_number w.home.deferred.results.items (record { id = record { 0 = id }; sender = reply; result = Err Closed }) (reply_for reply is).of j in
            ap (count_by (λ (x : Answer Reply). is_of_request j x.sender.of)) added ∙ last ∙ ap (λ b. results_of j w.home.deferred + one_when b) (not_same at_number j apart) ∙ omega arith

        by_sent : (o : Observer Reply Reply) → it.observer ≡ o → IsNear o r.shown.forwarding → left'.results.items ≡ w.home.deferred.results.items ++ (told_to id o).results → r.shown.worker ≡ w.index → results_of at_number left' + one_when r.sent ≡ one_when (goes_elsewhere (f r))
        by_sent (Local waker) is near added mine = grind (arith, added_none added, keeps.rooted.sent at_number r lets.there mine, near, lets.still)
        by_sent (DetachedSync reply) is near added mine = absurd near
        by_sent Orphaned is near added mine = absurd (false≢true (sym (ap is_held_by is) ∙ lets.observed))
        by_sent (Forwarded reply) is near added mine =
            let last = count_last at_number w.home.deferred.results.items (record { id = record { 0 = id }; sender = reply; result = Err Closed }) (reply_for reply is).of at_number in
            let was : results_of at_number w.home.deferred + one_when r.sent ≡ 0 = keeps.rooted.sent at_number r lets.there mine
            ∙ ap (λ b. one_when (is_applied r.shown.forwarding && (b || not r.shown.observed))) lets.open_still ∙ ap (λ b. one_when (is_applied r.shown.forwarding && (false || not b))) lets.held ∙ ap one_when (and_right (is_applied r.shown.forwarding) false refl) in
            let now : one_when (goes_elsewhere (f r)) ≡ 1 =
            ap (λ b. one_when (b && (is_resolved (f r).shown.phase || not (f r).shown.observed))) (ap is_applied lets.still ∙ near) ∙ ap (λ b. one_when (true && (is_resolved (f r).shown.phase || not b))) lets.unseen ∙ ap one_when (or_right (is_resolved (f r).shown.phase) true refl) in
            omega (arith, ap (count_by (λ (x : Answer Reply). is_of_request at_number x.sender.of)) added ∙ last ∙ ap (λ b. results_of at_number w.home.deferred + one_when b) (eq-eqb at_number at_number refl), was, now)

    pub pending_let : IsPunctual d' → d'.lists.due ≡ [] → IsWheelAt s.config w.moments.start w.moments.sampled d'.wheel → KeepsWith spare (record w { home = record w.home { deferred = left' } }) d' w.home.timers rs_then s.sleepers.items s
    pending_let punctual due wheel =
        let one_less : held_count d'.requests + 1 ≡ held_count d.requests =
        omega (arith, held_written d.requests id (Pending it) (Pending it') (entry_of (value_at d.requests id) it lets.live), ap one_if lets.observed, ap (λ o. one_if (is_held_by o)) lets.alone, ap held_count lets.slab) in
        let zs = w.home.timers in
        let pending : pending_count d'.requests ≡ pending_count d.requests = ap pending_count lets.slab ∙ pending_still d.requests id it it' lets.live in
        let fewer : (tellers d'.requests zs + spare) + 1 ≤ tellers d.requests zs + spare = omega (arith, pending, one_less) in
        keeps_watched w s d d' zs s.requests.items rs_then s.sleepers.items id r f left' lets.idle lets.by keeps (rewaits_by it.observer refl lets.near lets.tells)
        (told_one w.names.ended.items (tellers d'.requests zs + spare) w.home.deferred left' (told_to id it.observer) lets.tells (told_to_one id it.observer) (places_fewer fewer keeps.told))
        (wide_ended (tellers d.requests zs + 64) (tellers d'.requests zs + 64) w.home.deferred left' (told_to id it.observer) (omega (arith, fewer)) lets.tells keeps.wide)
        (lets.tells.notes.wakes_added ∙ ap (λ xs. w.home.deferred.notes.wakes.items ++ xs) (told_to_so id it.observer).wakes ∙ append-nil w.home.deferred.notes.wakes.items)
        pending punctual due wheel

module _ {B : Type 0} (s s' : Shared B) (to : Touches s s') where
  pub keeps_touched : {spare : ℕ} (w : Worker) → KeepsSpare spare w s → KeepsSpare spare w s'
  keeps_touched {spare = spare} w keeps =
      let there : KeepsSpare spare w (record s { requests = s'.requests; sleepers = s'.sleepers }) = assumption (has_touched s s' to (served_in w.place) w (assumption keeps), keeps) in
      subst (KeepsSpare spare w) (sym to.kept) there

module _ {B : Type 0} (k : ℕ) (w v : Worker) (s s' : Shared B) (idle : served_in w.place ≡ None) (gates : AreLinedUp s.opens s.requests.items) {spare : ℕ} (keeps : KeepsSpare spare w s) (lets : LetsGo k w v s s') (mine : lets.r.shown.worker ≡ w.index) (seen : lets.r.shown.observed ≡ true) where
  abbrev pub d : Driving Reply Reply
  d = driver_of w

  abbrev pub id : Id
  id = lets.r.id.0

  abbrev pub kk : ℕ
  kk = number_in w.names.requests.items lets.r.id.0

  -- it stands under its number, where it stands anywhere
  pub number : IsSome (value_at d.requests id) → number_in w.names.requests.items lets.r.id.0 ≡ k
  number some =
      let there = keeps.named.requests id some in
      sym (gates.unique k kk lets.r there.0 lets.request there.1 (ap (λ i. record { worker = i; id = lets.r.id }) (mine ∙ sym there.3) ∙ ap (λ x. record { worker = there.0.shown.worker; id = record { 0 = x } }) (sym there.2)))

  -- by the names and the driver that it leaves
  pub final : KeepsWith spare (record w { names = record w.names { ended = v.names.ended }; home = record w.home { deferred = v.home.deferred } }) (driver_of v) w.home.timers s'.requests.items s.sleepers.items s → KeepsSpare spare v s'
  final there = keeps_home (record w { names = record w.names { ended = v.names.ended }; home = record w.home { deferred = v.home.deferred } }) v s s' s'.requests.items (driver_of v) lets.worker lets.kept refl refl there

  -- where it doesn't end by this
  pub still_on : ends_by_drop lets.r.shown ≡ false → KeepsWith spare (record w { home = record w.home { deferred = v.home.deferred } }) (driver_of v) w.home.timers s'.requests.items s.sleepers.items s → KeepsSpare spare v s'
  still_on ends there =
      final (subst (λ e. KeepsWith spare (record w { names = record w.names { ended = e }; home = record w.home { deferred = v.home.deferred } }) (driver_of v) w.home.timers s'.requests.items s.sleepers.items s) (sym (lets.still ends)) (assumption there))

  -- what the record becomes, said in another way
  pub records_are : (f : Record → Record) → number_in w.names.requests.items lets.r.id.0 ≡ k → drops lets.r ≡ f lets.r → changed_at s.requests.items (number_in w.names.requests.items lets.r.id.0) f ≡ s'.requests.items
  records_are f is same = ap (λ q. changed_at s.requests.items q f) is ∙ ap (changed_in s.requests.items k f) lets.request ∙ sym (lets.records ∙ ap (slice_set s.requests.items k) same)

  -- WHAT IT LEAVES that doesn't stand there any more, or is over there: o is what its driver has of it
  pub record IsLeft (o : Option (Entry Reply Reply)) : Type 0 where
    pub driver : driver_of v ≡ record d { requests = orphaned_from d.requests id o }
    pub tells : Tells w.home.deferred v.home.deferred (told_by_orphan id o)
    pub ends : ends_by_drop lets.r.shown ≡ false
    pub unasked : is_cancelled_by_drop lets.r.shown ≡ false

  pub is_left : (o : Option (Entry Reply Reply)) → value_at d.requests id ≡ o → asks_cancel_by_orphan o ≡ false → is_resolved lets.r.shown.phase ≡ true → IsLeft o
  is_left o is none over =
      let elsewhere = over_idle lets.r.shown.phase over in
      record {
        driver = lets.driver ∙ ap (λ o. if asks_cancel_by_orphan o then cancelled_at (without_observer d lets.r.id) lets.r.id else record d { requests = orphaned_from d.requests id o }) is ∙ ap (λ b. if b then cancelled_at (without_observer d lets.r.id) lets.r.id else record d { requests = orphaned_from d.requests id o }) none;
        tells = subst (λ b. Tells w.home.deferred v.home.deferred (if b then both (told_by_orphan id o) (told_by_cancel lets.r.id (request_at (without_observer d lets.r.id) lets.r.id)) else told_by_orphan id o)) none
            (subst (λ o. Tells w.home.deferred v.home.deferred (if asks_cancel_by_orphan o then both (told_by_orphan id o) (told_by_cancel lets.r.id (request_at (without_observer d lets.r.id) lets.r.id)) else told_by_orphan id o)) is lets.tells);
        ends = ap (λ b. b && not (is_kept lets.r.shown.operation.kind)) elsewhere.0;
        unasked = ap (λ b. b && not (is_kept lets.r.shown.operation.kind) && not lets.r.shown.cancelled) elsewhere.1;
      }

  pub left_gone : value_at d.requests id ≡ None → IsLeft None
  left_gone none = is_left None none refl (keeps.named.over k lets.r lets.request mine (ap waiter_of none))

  -- ITS END WENT ELSEWHERE
  pub gone : value_at d.requests id ≡ None → KeepsSpare spare v s'
  gone none =
      let left = left_gone none in
      let over : is_resolved lets.r.shown.phase ≡ true = keeps.named.over k lets.r lets.request mine (ap waiter_of none) in
      let same : drops lets.r ≡ unobserved lets.r = ap (λ q. record lets.r { shown = q }) (not_gone lets.r.shown left.ends left.unasked) in
      let spares : SparesRecord lets.r (unobserved lets.r) = record { kept = refl; waiter = λ u h. h; forwarding = inl refl; observed = inr (applied_so lets.r.shown.forwarding (applied none over), over, refl) } in
      let s1 : Shared B = record s { requests = s'.requests } in
      let first : KeepsSpare spare w s1 = keeps_touched s s1 (touches_record s s' k lets.r (unobserved lets.r) lets.request spares (lets.records ∙ ap (slice_set s.requests.items k) same)) w keeps in
      let again = keeps_untold w d w.home.timers s'.requests.items s.sleepers.items s1 v.home.deferred left.tells first in
      let there : KeepsWith spare (record w { home = record w.home { deferred = v.home.deferred } }) d w.home.timers s'.requests.items s.sleepers.items s = assumption again in
      still_on left.ends (subst (λ x. KeepsWith spare (record w { home = record w.home { deferred = v.home.deferred } }) x w.home.timers s'.requests.items s.sleepers.items s) (sym left.driver) there)
    where
      applied : value_at d.requests id ≡ None → is_resolved lets.r.shown.phase ≡ true → is_applied lets.r.shown.forwarding ≡ true
      applied none over = true_from_ne_false (is_applied lets.r.shown.forwarding) (λ is. false≢true (subst (λ o. IsSome o) none (keeps.rooted.ready k lets.r lets.request mine over seen is).live))

  -- ITS OUTPUT WAS KEPT
  pub output_gone : (told : RequestOutput) → value_at d.requests id ≡ Some (Ready told) → KeepsSpare spare v s'
  output_gone told ready =
      let zs = w.home.timers in
      let rs = s.requests.items in
      let s0 = d.requests in
      let is = number (rw ready refl) in
      let at_number : slice_get rs kk ≡ Some lets.r = ap (slice_get rs) is ∙ lets.request in
      let left = is_left (Some (Ready told)) ready refl (ap is_resolved (keeps.rooted.kept id told lets.r ready at_number).over) in
      let same : drops lets.r ≡ unobserved lets.r = ap (λ q. record lets.r { shown = q }) (not_gone lets.r.shown left.ends left.unasked) in
      let d' : Driving Reply Reply = record d { requests = removed s0 id } in
      let small = (keeps.known.past k lets.r lets.request mine).0 in
      let none_waits : waiter_at (removed s0 id) id ≡ None = same_waiters s0 id told ready id ∙ ap waiter_of ready in
      let none : (out : RequestOutput) → value_at (removed s0 id) id ≡ Some (Ready out) → ⊥ = λ out e. (other_entry s0 id told ready id (rw e refl)).0 refl in
      let rs1 = changed_at rs kk unobserved in
      let by : Watched w.names d d' rs rs1 id lets.r unobserved = watched_gone w.names d rs lets.r told unobserved ready at_number small refl (λ over. refl) in
      let results : v.home.deferred.results.items ≡ w.home.deferred.results.items = left.tells.results_added ∙ append-nil w.home.deferred.results.items in
      let to : Rewaits w.index w.names d d' zs w.home.deferred v.home.deferred rs rs1 s.sleepers.items id lets.r unobserved by keeps.named = grind (arith, false≢true, append-nil) in
      let pending = same_pending s0 id told ready in
      let fewer : (tellers d'.requests zs + spare) + 1 ≤ tellers d.requests zs + spare = omega (arith, pending, one_held_less s0 id told ready) in
      let again : KeepsWith spare (record w { home = record w.home { deferred = v.home.deferred } }) d' zs rs1 s.sleepers.items s =
      keeps_watched w s d d' zs rs rs1 s.sleepers.items id lets.r unobserved v.home.deferred idle by keeps to
      (told_one w.names.ended.items (tellers d'.requests zs + spare) w.home.deferred v.home.deferred (untaken id told) left.tells (record { wakes = omega arith; outputs = omega arith; resources = refl; completions = omega arith; results = omega arith }) (places_fewer fewer keeps.told))
      (wide_ended (tellers d.requests zs + 64) (tellers d'.requests zs + 64) w.home.deferred v.home.deferred (untaken id told) (omega (arith, fewer)) left.tells keeps.wide)
      (left.tells.notes.wakes_added ∙ append-nil w.home.deferred.notes.wakes.items) pending (subst IsPunctual left.driver (lets.punctual keeps.due.punctual))
      (keeps.due.told (ap may_be_due idle)) (subst (λ x. IsWheelAt s.config w.moments.start (wheel_moment x w.moments) d.wheel) idle keeps.due.wheel) in
      still_on left.ends (subst (λ xs. KeepsWith spare (record w { home = record w.home { deferred = v.home.deferred } }) (driver_of v) zs xs s.sleepers.items s) (records_are unobserved is same)
      (subst (λ x. KeepsWith spare (record w { home = record w.home { deferred = v.home.deferred } }) x zs rs1 s.sleepers.items s) (sym left.driver) again))
