-- An operation that has landed, whose request is over: a step.
use Rattle.std.{proofs.{Common.{◌≡◌, ◌≢◌, ℕ, ◌<◌, ◌==◌, ◌&&◌, Bool, true, false, not, List, [], ◌∷◌, ◌++◌, length, map, Option, Some, None, IsSome, if◌then◌else◌, refl, sym, ap, subst, ◌∙◌, ◌-◌, filter, slice_get, slice_index_or, arith}, lemmas.Bool.{eq-eqb, false≢true}}, specs.VecDeque.deque_capacity}
use Rattle.exec_base.specs.{Slab.{Slab, value_at, written}, declared.slab.Id.Id}
use Rattle.exec_outcomes.specs.{Accounts.{Account, by_failure, is_durable, outcome_told as told_of}, Outcomes.{is_unsupported, refuses_hint}, declared.outcome.Outcome.{Outcome, TheVariants.{Failure, Success}}}
use Rattle.exec_request.specs.{Hints.without_hint, Judging.judged_as, Requests.{asked_of, cursor_of, hinted_of, output_of, record_after, target_of}, declared.request.Request.Request as Asking, States.{Ended, as_outcome, asks_cancel, result_of, told_by}}
use Rattle.exec_ring.specs.{Completions.result_in, declared.completion.Completion.Completion, Rings.completions}
use Rattle.exec_waiters.{specs.{States.{file_of, flying_count}, Events.{waker_in, told_by_finish}, declared.{waiter.{Entry.{Entry, TheVariants.Pending}, Waiter.Waiter}, waiter_id.WaiterId.WaiterId}, Told.Tells}, proofs.Changes.{one_if, entry_of}}
use Rattle.exec_driver.specs.{Driving.{Driving, request_at, is_queued, is_unenrolled, is_cancelled}, Punctual.IsPunctual, Placed.ListsRequests, Steps.open_after}
use Rattle.exec_opens.specs.Opens.{OpenState, account_by, account_in, with_account}
use Rattle.exec_task.specs.declared.body.Said.{Said}
use Rattle.exec_machine.specs.{declared.event.Event.{Event, TheVariants.Reap}, Requests.{judged_of, outcome_given}, Tests.{is_gated, is_of_file, is_resolved}, World.no_open}
use Rattle.exec_moves.specs.{declared.place.{Place.Place, Reaping.Reaping, Service.Service, InService.InService}, Serve.{after_permit, back_from_reap, others_after_reap}, State.{Desk, dropped}, Thing.{set_wake_poll, with_ring}, Told.told_of_end}
use Rattle.exec_parts.{specs.{declared.parts.{mail.Reply.Reply, record.Record.Record, shared.Shared.Shared, worker.Worker.Worker}, Records.number_in, Serving.changed_at, View.{account_seen, driver_of, number_told, numbers_of_passing, open_seen, visible, own_of, desk_of, things_with, with_view, trailing}, Spots.Spot}, proofs.Facts.{and_right, by_number, false_from_ne_true, same_Some, set_elsewhere}}
use Rattle.exec_invariants.{specs.{Flown.operations, Gates.{AreLinedUp, HaveGates, IsKnown, PassesPermit, at_gate, key_for}, Holding.nap_of, Places.{drops_at, passes_at}, Sound.SoundAt, Whole.{IsWhole, Profile, with_worker}, Works.Steps}, proofs.{Accounted.{OpensJudged, open_of_file, opens_judged}, DeskEnds.desk_ended, EndsServed.{ends_thing, one_slot}, Gated.durable_of_file, Hinting.open_there, Keys.name_in, ReapKinds.durable_kept, Lined.{SameLines, gates_kept, gates_opens, gates_seen_same, lined_opens, map_changed, passing_same, was_sent}, Mine.{live_mine, stands}, Raising.poll_shows, ServedEnds.ends_told, ServedWakes.holding_over, Serving.{Balances, SparesRecords, at_large, spares_one}, ServingHolds.{serves_to, IsServed, OthersKept, keeps_home, KeepsBy, Serves}, Slotted.{OneSlot, awaited_written, slots_written}, SparedRecord.there_within, Changing.{changes_one, flying_after}, Judging.{given_is, judged_same}, Seeing.{makes, own_with, served, shows}, Ends.{flying_ended, numbers_without}, Marking.{mark_if, marked}}}
use Rattle.exec_serving.proofs.{PermitGates.{drops_others, drops_own, gates_passing}, PermitSeen.{opens_after, opens_ended}, ReapAccounts.{IsOperation, ends_unswitched, file_there, lines_counted, opens_counted, opens_uncounted, told_unhinted}, ReapViewed.{common_over, may_over, moves_over, told_place}, Returned.{one_fewer, passes_back}, Finished.{GoesOver, ended_same, follows_over, goes_over, keeps_gone, over_alike, over_outcome, over_place, served_over}}

-- OPENS, twice changed

lines_after : (a b c : List OpenState) → SameLines a b → SameLines b c → SameLines a c
lines_after a b c one two = record { lines = two.lines ∙ one.lines; kept = two.kept; hints = λ file none. two.hints file (one.hints file none) }

pub known_opens : (i : ℕ) (numbers : List ℕ) (requests : Slab (Entry Reply Reply)) (opens opens' : List OpenState) (rs : List Record) → SameLines opens opens' → IsKnown i numbers requests opens rs → IsKnown i numbers requests opens' rs
known_opens = grind arith

-- WHAT IS TOLD of its end

pub as_told : (x : Outcome) → as_outcome (result_of x) ≡ x
as_told Success = refl
as_told (Failure e) = refl

pub told_seen : (rs : List Record) (opens : List OpenState) (q : Asking) (r : Record) (how : Ended) (b : Bool) → AreLinedUp opens rs → r.shown.operation.kind ≡ (asked_of q).kind → r.shown.operation.target ≡ target_of q
    → (is_of_file r.shown.operation.kind ≡ true → r.shown.operation.target < length opens)
    → told_of r.shown.operation.kind (slice_index_or (map (open_seen rs) opens) r.shown.operation.target no_open).account (as_outcome how)
    ≡ as_outcome (told_by (asked_of q).kind how (if b then without_hint (account_in opens (file_of q)) else account_in opens (file_of q)))
told_seen rs opens q r how b lined kind target within = by (is_durable (asked_of q).kind) refl
  where
    by : (d : Bool) → is_durable (asked_of q).kind ≡ d → told_of r.shown.operation.kind (slice_index_or (map (open_seen rs) opens) r.shown.operation.target no_open).account (as_outcome how)
        ≡ as_outcome (told_by (asked_of q).kind how (if b then without_hint (account_in opens (file_of q)) else account_in opens (file_of q)))
    by false free =
        let account = (slice_index_or (map (open_seen rs) opens) r.shown.operation.target no_open).account in
        let kept = if b then without_hint (account_in opens (file_of q)) else account_in opens (file_of q) in
        ap (λ x. if x then by_failure account.failure (as_outcome how) else as_outcome how) (ap is_durable kind ∙ free) ∙ sym (ended_same how (asked_of q).kind kept free)
    by true durable =
        let k = (asked_of q).kind in
        let of : is_of_file k ≡ true = durable_of_file k durable in
        let has = open_of_file opens rs r.shown.operation.target lined (within (ap is_of_file kind ∙ of)) in
        let seen : (slice_index_or (map (open_seen rs) opens) r.shown.operation.target no_open).account ≡ has.a =
        ap (λ x. x.account) (open_there rs opens r.shown.operation.target has.o has.there) ∙ ap account_seen has.account in
        ap (λ x. told_of x (slice_index_or (map (open_seen rs) opens) r.shown.operation.target no_open).account (as_outcome how)) kind
        ∙ ap (λ a. told_of k a (as_outcome how)) seen
        ∙ sym (as_told (told_of k has.a (as_outcome how)))
        ∙ sym (ap (λ a. as_outcome (told_by k how a)) (ap (account_in opens) (file_there q of ∙ ap (λ n. Some n) (sym target)) ∙ ap account_by has.there ∙ has.account))
        ∙ sym (ap as_outcome (told_unhinted k how b (account_in opens (file_of q))))

-- ITS SLOT, once its result was taken

pub one_written : (numbers : List ℕ) (s : Slab (Entry Reply Reply)) (id : Id) (e : Entry Reply Reply) → value_at (written s id e) id ≡ Some e → OneSlot numbers s id → OneSlot numbers (written s id e) id
one_written = grind (arith, by_number, set_elsewhere)

pub one_written_is : (numbers : List ℕ) (s : Slab (Entry Reply Reply)) (id : Id) (e : Entry Reply Reply) (live : value_at (written s id e) id ≡ Some e) (one : OneSlot numbers s id) → (one_written numbers s id e live one).e ≡ e
unfolding one_written
one_written_is numbers s id e live one = refl

-- another has another number
pub apart_by : {B : Type 0} (q : Place) (w : Worker) (s : Shared B) → SoundAt q w s → (id : Id) (r : Record) → slice_get s.requests.items (number_in w.names.requests.items id) ≡ Some r → r.id.0 ≡ id
    → (x : WaiterId) → IsSome (value_at (driver_of w).requests x.0) → x.0 ≢ id → number_in w.names.requests.items x.0 ≡ number_in w.names.requests.items id → ⊥
apart_by = grind arith

module _ {B L : Type 0} (left : B → L) (spot : L → Option Said → Spot) (rp : Reaping) (v : Service) (w : Worker) (s : Shared B) (sound : SoundAt (Place.Service (InService.Reap rp) v) w s) (waits : sound.seated.seat.raised ≡ 0) (lists : ListsRequests (driver_of w)) (c : Completion) (cs : List Completion) (is : operations (driver_of w).ring ≡ c ∷ cs) (how : Ended) (account : Option Account) where
  over_name : (d' : Driving Reply Reply) (over : GoesOver w s d' c cs how account) → over.h.r.id.0 ≡ over.h.id
  over_name = grind arith

  pub own_gone : (d' : Driving Reply Reply) (over : GoesOver w s d' c cs how account) (ended : List ℕ) (q' : Place) →
      let k = number_in w.names.requests.items over.h.id in
      let me = own_with w q' ended w.names.untold.items (driver_of w) in
      own_with w q' ended w.names.untold.items d' ≡ record me { ready = filter (λ j. not (j == k)) me.ready; unenrolled = filter (λ j. not (j == k)) me.unenrolled; cancels = filter (λ j. not (j == k)) me.cancels; in_flight = me.in_flight - 1 }
  own_gone d' over ended q' =
      let n = w.names.requests.items in
      let d = driver_of w in
      let id = over.h.id in
      let name : WaiterId = record { 0 = id } in
      let s1 = written d.requests id (Pending (record over.h.it { in_flight = false; request = over.request })) in
      let it1 : Waiter Reply Reply = record over.h.it { in_flight = false; request = over.request } in
      let flying : flying_count d'.requests ≡ flying_count d.requests - 1 =
      ap flying_count over.requests ∙ flying_ended s1 id it1 how account (changes_one d.requests id over.h.it it1 over.h.live).is_at refl
      ∙ one_fewer _ _ _ _ (flying_after d.requests id over.h.it it1 over.h.live) (ap one_if over.h.flies) refl in
      let apart = apart_by (Place.Service (InService.Reap rp) v) w s sound id over.h.r over.h.there (over_name d' over) in
      let ready = numbers_without n name d.lists.queued (λ x among. apart x (stands d x is_queued (request_at d x) refl refl (lists.queued x among))) in
      let unenrolled = numbers_without n name d.lists.enrolments (λ x among. apart x (stands d x is_unenrolled (request_at d x) refl refl (lists.enrolments x among))) in
      let cancels = numbers_without n name d.lists.cancels (λ x among. apart x (stands d x is_cancelled (request_at d x) refl refl (lists.cancels x among))) in
      grind arith

  -- where it is at its end
  abbrev place_over : (d' : Driving Reply Reply) → GoesOver w s d' c cs how account → Place
  place_over d' over = over_place rp v w s sound c cs d' how account over

  abbrev told_over : (d' : Driving Reply Reply) → GoesOver w s d' c cs how account → Outcome
  told_over d' over = over_outcome rp v w s sound c cs d' how account over

  -- ITS OPERATION, as the machine had it
  unasked_by : (d' : Driving Reply Reply) (over : GoesOver w s d' c cs how account) → is_durable over.h.r.shown.operation.kind ≡ true → asks_cancel over.h.it.state ≡ false
  unasked_by d' over durable =
      let a = over_alike rp v w s sound c cs d' how account over in
      false_from_ne_true (asks_cancel over.h.it.state) (λ asks. false≢true (sym (durable_kept (asked_of over.h.it.request).kind (a.alone asks)) ∙ sym (ap (λ x. is_durable x.kind) a.asked) ∙ durable))

  pub operation_over : (d' : Driving Reply Reply) (over : GoesOver w s d' c cs how account) → IsOperation over.request over.h.r.shown.operation
  operation_over d' over =
      let a = over_alike rp v w s sound c cs d' how account over in
      let it = over.h.it in
      let j = judged_as (hinted_of it.request) it.state (result_in c.result) in
      record {
        kind = ap (λ x. x.kind) a.asked ∙ sym (ap (λ k. k.asked.kind) over.kept);
        target = sound.carried.target over.h.id it over.h.r over.h.live over.h.there ∙ sym (ap (λ k. k.target) over.kept);
        seen = λ durable. a.seen durable ∙ sym (ap (λ k. k.seen) over.kept);
        switched = λ durable.
            a.switched
            ∙ sym (ends_unswitched (asked_of it.request) (cursor_of it.request) j (as_outcome how) (unasked_by d' over durable) (sym over.judges.next))
            ∙ sym (ap (λ x. x.switched) over.judges.cursor);
      }

  -- who gives its permit up is the first of its gate still
  passes_over : (d' : Driving Reply Reply) (over : GoesOver w s d' c cs how account) (s' : Shared B) (rs' : List Record) → s'.requests.items ≡ rs' → rs' ≡ changed_at s.requests.items (number_in w.names.requests.items over.h.id) (goes_over (result_in c.result) (told_over d' over))
      → AreLinedUp s'.opens s.requests.items → over.h.r.shown.worker ≡ w.index → (file : ℕ) → passes_at (place_over d' over) ≡ Some file → PassesPermit w.index file s'.opens s'.requests.items
  passes_over d' over s' rs' records is_changed lined mine file at = by (is_durable over.h.r.shown.operation.kind) refl at
    where
      none_at : (later : List ℕ) → passes_at (Place.Service (after_permit (back_from_reap rp later)) v) ≡ Some file → ⊥
      none_at later at = let no : None ≡ Some file = sym (passes_back rp v later) ∙ at in absurd (cc)

      by : (b : Bool) → is_durable over.h.r.shown.operation.kind ≡ b
          → passes_at (Place.Service (if b then InService.PassPermit over.h.r.shown.operation.target (back_from_reap rp (map (number_told w.names.requests.items) cs)) else after_permit (back_from_reap rp (map (number_told w.names.requests.items) cs))) v) ≡ Some file
          → PassesPermit w.index file s'.opens s'.requests.items
      by false free at = absurd (none_at (map (number_told w.names.requests.items) cs) at)
      by true durable at =
          let r = over.h.r in
          let k = number_in w.names.requests.items over.h.id in
          let f = goes_over (result_in c.result) (told_over d' over) in
          let o = there_within s'.opens r.shown.operation.target (lined.there k r over.h.there (durable_of_file r.shown.operation.kind durable)) in
          let a = over_alike rp v w s sound c cs d' how account over in
          let holds = (lined.lines r.shown.operation.target o.0 o.1).held k r over.h.there durable refl (ap is_gated over.h.landed) a.open_still in
          let there = ap (λ xs. slice_get xs k) (records ∙ is_changed) ∙ marked f s.requests.items k k r over.h.there ∙ ap (λ b. Some (mark_if f b r)) (eq-eqb k k refl) in
          subst (λ m. PassesPermit w.index m s'.opens s'.requests.items) (same_Some r.shown.operation.target file at) (search (o.1, there, mine, holds))

  pub reaped_over : (w' : Worker) (s' : Shared B) (e : Event) (over : GoesOver w s (driver_of w') c cs how account) (judged_opens : List OpenState)
      → IsPunctual (driver_of w')
      → account ≡ open_after over.h.it (result_in c.result) (account_in s.opens (file_of over.h.it.request))
      → judged_opens ≡ with_account s.opens (file_of over.h.it.request) (open_after over.h.it (result_in c.result) (account_in s.opens (file_of over.h.it.request)))
      → s'.opens ≡ with_account judged_opens (file_of over.request) (record_after over.request how (account_in judged_opens (file_of over.request)))
      → e ≡ Reap (number_in w.names.requests.items over.h.id) (result_in c.result) (Some (told_over (driver_of w') over))
      → s'.requests.items ≡ changed_at s.requests.items (number_in w.names.requests.items over.h.id) (goes_over (result_in c.result) (told_over (driver_of w') over)) → s' ≡ record s { requests = s'.requests; opens = s'.opens }
      → Tells w.home.deferred w'.home.deferred (told_by_finish over.h.id (record over.h.it { in_flight = false; request = over.request }) how account)
      → w'.names.ended.items ≡ w.names.ended.items ++ number_in w.names.requests.items over.h.id ∷ [] → deque_capacity w'.names.ended ≡ deque_capacity w.names.ended
      → w' ≡ record w { place = place_over (driver_of w') over; home = record w.home { driver = w'.home.driver; deferred = w'.home.deferred }; names = record w.names { ended = w'.names.ended } } → Steps left spot w s e w' s'
  reaped_over w' s' e over judged_opens punctual account_is judged_is opens_are event records shared tells ended capacity same =
      let q : Place = Place.Service (InService.Reap rp) v in
      let n = w.names.requests.items in
      let later = map (number_told n) cs in
      let d = driver_of w in
      let d' = driver_of w' in
      let q' : Place = place_over d' over in
      let rs = s.requests.items in
      let h = over.h in
      let k = number_in n h.id in
      let r = h.r.shown in
      let given = result_in c.result in
      let outcome = told_over d' over in
      let f = goes_over given outcome in
      let w0 : Worker = record w { place = q } in
      let deferred = w'.home.deferred in
      let ring = over.ring in
      let a = over_alike rp v w s sound c cs d' how account over in
      let mine = live_mine w.index w.names d w.home.timers rs s.sleepers.items sound.named h.id h.it h.r h.live h.there in
      let rs' = changed_at rs k f in
      -- the opens
      let target = sound.carried.target h.id h.it h.r h.live h.there in
      let within : is_of_file r.operation.kind ≡ true → r.operation.target < length s.opens = λ of. sound.gates.there k h.r h.there of in
      let by_driver = opens_judged h.it given s.opens judged_opens rs r.operation.target sound.gates target (λ of. within (ap (λ x. is_of_file x.kind) a.asked ∙ of)) judged_is in
      let refuses : (hinted_of h.it.request && is_unsupported given) ≡ refuses_hint (judged_of r given) = sym (ap refuses_hint (judged_same d.wheel.start d.wheel.tick h.it r a given h.flies)) in
      let judged : OpensJudged s.opens judged_opens (refuses_hint (judged_of r given)) r.operation.target = subst (λ b. OpensJudged s.opens judged_opens b r.operation.target) refuses by_driver in
      let lined : AreLinedUp judged_opens rs = lined_opens s.opens judged_opens judged.same rs sound.gates in
      let op = operation_over d' over in
      let many : (file : ℕ) → is_of_file r.operation.kind ≡ true → r.operation.target < length judged_opens = λ file of. lined.there k h.r h.there of in
      let lines_end : SameLines judged_opens s'.opens = lines_counted over.request r.operation how judged_opens s'.opens rs lined op (many 0) opens_are in
      let lines : SameLines s.opens s'.opens = lines_after s.opens judged_opens s'.opens judged.same lines_end in
      let ungated : is_gated r.phase ≡ false = ap is_gated h.landed in
      let opens_end = opens_ended rs k h.r f h.there judged_opens s'.opens (as_outcome how) lined (map_changed key_for rs k h.r f h.there refl) a.open_still (λ durable. durable)
      (λ free. ap (λ b. record (name_in h.r) { over = b }) (free ∙ sym (and_right (is_resolved r.phase) (is_durable r.operation.kind) free)))
      (λ durable o at. (lined.lines r.operation.target o at).held k h.r h.there durable refl ungated a.open_still)
      (opens_uncounted over.request r.operation how judged_opens s'.opens rs lined op (many 0) opens_are) (opens_counted over.request r.operation how judged_opens s'.opens rs lined op (many 0) opens_are) in
      -- what holds again
      let w1 : Worker = record w { place = q'; names = record w.names { ended = w'.names.ended }; home = record w.home { deferred = deferred } } in
      let gone : KeepsBy w1 d' w.home.timers rs' s.sleepers.items s = keeps_gone rp v w s sound c cs d' how account over w'.names deferred tells ended capacity punctual in
      let s1 : Shared B = record s { opens = s'.opens } in
      let known : IsKnown w.index n d'.requests s'.opens rs' = known_opens w.index n d'.requests s.opens s'.opens rs' lines gone.known in
      let gone1 : KeepsBy w1 d' w.home.timers rs' s.sleepers.items s1 =
      record { told = gone.told; wide = gone.wide; named = gone.named; sized = gone.sized; over = gone.over; quiet = gone.quiet; due = gone.due; flown = gone.flown; carried = gone.carried; known = known; rooted = gone.rooted; bare = gone.bare } in
      let there : w'.place ≡ q' = ap (λ x. x.place) same in
      let serves : Serves q w w' s s' = serves_to q q' w w' s s' (subst (IsServed w) (sym same) refl) (subst (OthersKept s) (sym shared) refl) there (follows_over rp v later r) in
      let show = shows q w w' s s' d' serves refl (ap (λ (x : Worker). x.home.timers) same) in
      let wakes_then = dropped later (visible w).wakes in
      let seen : visible w' ≡ record (visible w) { landed = later; wakes = wakes_then } = grind (arith, show.seen, ring.busy, ring.landed, ring.poll) in
      -- the desk
      let x : Desk = others_after_reap later (visible w).wakes (desk_of w0) in
      let it1 : Waiter Reply Reply = record h.it { in_flight = false; request = over.request } in
      let slab1 = written d.requests h.id (Pending it1) in
      let was = entry_of (value_at d.requests h.id) h.it h.live in
      let live1 : value_at slab1 h.id ≡ Some (Pending it1) = entry_of (value_at slab1 h.id) it1 (changes_one d.requests h.id h.it it1 h.live).is_at in
      let one0 = one_slot w s q sound h.id h.it h.live in
      let one = one_written n d.requests h.id (Pending it1) live1 one0 in
      let ending = ends_told h.id it1 how account r.forwarding a.near in
      let base : record (desk_of w0) { place = q'; entries = length d'.ring.staged; polled = d'.armed; others = trailing 0 (completions d'.ring) } ≡ record x { place = q' } = grind (arith, ring.staged, ring.armed, ring.others) in
      let desk_end = desk_ended (record x { place = q' }) n slab1 w.home.deferred deferred h.id it1 (output_of over.request how account) (told_by_finish h.id it1 how account) r
      (record { wakes = refl; outputs = refl; completions = refl; results = refl; requests = sym (slots_written n d.requests h.id (Pending h.it) (Pending it1) was); awaited = sym (awaited_written n d.requests h.id (Pending h.it) (Pending it1) was refl) })
      one (one_written_is n d.requests h.id (Pending it1) live1 one0) ending tells a.near a.observed a.waiter (λ reply is. (sound.rooted.replies h.id h.it reply h.r h.live is h.there).of) in
      let desk : desk_of w' ≡ record (told_of_end k r x) { place = q' } = grind (arith, show.desk, there, same, base, over.requests, desk_end, told_place k r x q') in
      -- the machine
      let gives : outcome_given r given ≡ Some (as_outcome how) = given_is d.wheel.start d.wheel.tick h.it r a given h.flies over.request (Some (as_outcome how)) over.judges in
      let shown : told_of r.operation.kind (slice_index_or (map (open_seen rs) s.opens) r.operation.target no_open).account (as_outcome how) ≡ outcome =
      told_seen rs s.opens h.it.request h.r how (hinted_of h.it.request && is_unsupported given) sound.gates (ap (λ y. y.kind) a.asked) target within
      ∙ sym (ap (λ y. as_outcome (told_by (asked_of h.it.request).kind how y)) account_is) in
      let spares : SparesRecords w.index s s' = spares_one w.index s s' k h.r f lines (record { at = ap (λ b. record (at_gate h.r) { gated = b }) (sym ungated); over = λ o. refl; sent = refl; forwarded = λ y. y }) records (ap (λ (y : Shared B). y.sleepers.items) shared) h.there mine (λ y. refl) in
      let index : w'.index ≡ w.index = ap (λ (y : Worker). y.index) same in
      let passing : (file : ℕ) → passes_at q' ≡ Some file → PassesPermit w.index file s'.opens s'.requests.items = λ file at.
      passes_over d' over s' rs' records refl (lined_opens s.opens s'.opens lines rs sound.gates) mine file at in
      let gates : (others : Profile) → IsWhole (with_worker others w) s → HaveGates (with_worker others w').drops_by s'.opens s'.requests.items = λ others whole.
      let own = drops_own others w w' index in
      gates_passing (with_worker others w).drops_by (with_worker others w').drops_by w.index s'.opens s'.requests.items (drops_others others w w' index)
      (ap (λ y. y.joins) (own ∙ ap drops_at there))
      (λ file at. passing file (sym (ap (λ y. y.passes) (own ∙ ap drops_at there)) ∙ at))
      (gates_opens s.opens s'.opens lines (with_worker others w).drops_by s'.requests.items (gates_kept rs s'.requests.items spares.lines (with_worker others w).drops_by s.opens whole.gates)) in
      let ends = ends_thing w s q sound h.id h.it h.live h.r h.there f outcome mine refl in
      let balances : Balances w w' s s' = record {
        gates = gates;
        holding = holding_over q w w' s s' k h.r f outcome (waker_in h.it.observer) sound.here serves h.there records (ap (λ (y : Shared B). map nap_of y.sleepers.items) shared) ends (tells.notes.wakes_added ∙ ap (λ ws. w.home.deferred.notes.wakes.items ++ ws) ending.wakes);
      } in
      subst (λ y. Steps left spot w s y w' s') (sym event)
      (served left spot q w w' s s' (Reap k given (Some outcome)) sound serves (keeps_home w1 w' s1 s' rs' d' same shared refl records gone1) spares balances
      (λ p vs suits.
      record {
        moves =
            ap (with_ring w.index (things_with vs s)) (moves_over left spot rp v w s sound waits c cs is h p vs suits (desk_of w0) (as_outcome how) outcome gives shown)
            ∙ ap (λ y. makes (Reap k given (Some outcome)) y (set_wake_poll w.index (things_with vs s) wakes_then)) (sym desk)
            ∙ ap (makes (Reap k given (Some outcome)) (desk_of w'))
            (sym (ap (things_with (with_view vs w.index (visible w'))) shared
            ∙ ap (λ gs. record (things_with (with_view vs w.index (visible w')) s) { gates = gs; answers = numbers_of_passing was_sent 0 s'.requests.items }) (gates_seen_same rs s'.requests.items s.opens s'.opens spares.lines spares.opens)
            ∙ ap (λ ns. record (things_with (with_view vs w.index (visible w')) s) { answers = ns }) (passing_same was_sent rs s'.requests.items spares.lines.sent)
            ∙ poll_shows vs w.index s sound.seated.seat sound.seated.there waits (visible w') ∙ ap (λ y. set_wake_poll w.index (things_with vs s) y.wakes) seen));
        may = may_over left spot rp v w s sound waits c cs is h p vs suits (own_of w0) (as_outcome how) outcome (at_large q w s sound refl) gives shown;
        own = grind (arith, show.own, there, same, ended, own_gone d' over (w.names.ended.items ++ k ∷ []) q', served_over rp v later r);
        common = common_over left spot rp v w s sound waits c cs is h p vs suits s' w' wakes_then (as_outcome how) outcome shared records
            (opens_end ∙ ap (λ os. opens_after os r.operation (as_outcome how)) (judged.shown rs)) gives seen;
      }))
