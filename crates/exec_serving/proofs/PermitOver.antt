-- The first of a gate is granted its permit, and is over by that: a step.
use Rattle.std.proofs.{Common.{◌≡◌, ℕ, suc, ◌<◌, ◌==◌, true, not, List, [], ◌∷◌, ◌++◌, filter, length, map, Option, Some, is_some, refl, sym, ap, subst, ◌∙◌, arith, slice_get, slice_set}, lemmas.Bool.{eq-eqb, false≢true}}
use Rattle.exec_base.specs.Slab.{value_at, written}
use Rattle.exec_outcomes.specs.{Accounts.{Account, is_durable, outcome_at_grant, outcome_told as told_of}, declared.outcome.{Kind.Kind, Outcome.Outcome}}
use Rattle.exec_request.specs.{Requests.{asked_of, outcome_if_granted, output_of, record_after}, declared.output.RequestOutput.RequestOutput, States.{Ended, as_answer, as_outcome, told_by}}
use Rattle.exec_waiters.{specs.{Events.{finished, told_by_finish, waker_in, with_permit}, States.{file_of, flying_count, tick_in, tick_of, waiter_at}, Told.{Tells, Told as ToldOf}, declared.waiter.{Entry.TheVariants.Pending, Waiter.Waiter}}, proofs.Changes.{entry_of, one_if}}
use Rattle.exec_driver.specs.{Driving.{Driving, is_cancelled, is_queued, request_at}, Punctual.IsPunctual, Steps.{GrantsAs, granted as driver_granted, opens_after_end, told_by_end, unscheduled}, declared.driver.staging.Granted.Granted as Told}
use Rattle.exec_lists.specs.Lists.{without, without_gated, withdrawn}
use Rattle.exec_opens.specs.Opens.{account_by, account_in, with_account}
use Rattle.exec_task.specs.declared.body.Said.{Said}
use Rattle.exec_machine.specs.{declared.event.Event.{Event, TheVariants.Grant}, Requests.{account_of_open, granted, joined_if}, Same.{is_number, same_end}, Tests.{is_gated, is_of_file, is_resolved}, World.{open_of, request_of}}
use Rattle.exec_moves.specs.{declared.place.{AfterPermit.AfterPermit, InService.InService, Place.Place, Service.Service}, State.Desk, Submit.after_grant, Told.told_of_end}
use Rattle.exec_parts.{specs.{declared.parts.{mail.Reply.Reply, record.Record.Record, shared.Shared.Shared, worker.Worker.Worker}, Records.number_in, Serving.{changed_at, changed_in}, Spots.Spot, View.{common_of, desk_of, driver_of, gate_seen, visible, with_view}}, proofs.Facts.{by_name, same_Some}}
use Rattle.exec_invariants.{specs.{Due.IsWheelAt, Gates.{AreLinedUp, HaveGates, IsKnown, PassesPermit, key_for}, Holding.nap_of, Places.{Drops, drops_at, passes_at}, Rooted.outcome_told, Submits.IsGatedIn, Whole.{IsWhole, Profile, with_worker}, Works.Steps}, proofs.{Accounted.open_of_file, Expiring.{unticked_start, unticked_tick}, Changing.{changes_one, flying_after}, DeskEnds.desk_ended, Ends.{flying_ended, numbers_without}, EndsServed.{ends_thing, one_slot}, Gated.durable_of_file, Late.ends_as, Lined.{SameLines, gates_opens, gates_seen_same, lined_opens, lines_same, map_changed, was_sent}, Marking.{mark_if, marked}, Mine.stands, Orders.alike_unticked, Ousting.keeps_ended, Over.{OneEnds, leaves_all}, Recorded.shown_changed, Resolving.{slab_after, unticked_at}, Seeing.{own_with, served_by, shows}, ServedEnds.ends_told, ServedWakes.holding_over, Serving.{Balances, SparesGates, at_large}, ServingHolds.{Follows, IsServed, KeepsBy, OthersKept, Serves, keeps_home, serves_to}, Slotted.{awaited_written, slots_written}, Staging.stages_again, SparedRecord.there_within, Turning.view_found, Raising.set_twice}}
use Rattle.exec_serving.proofs.{Finished.tells_ending, Gone.{apart_by, as_told, known_opens, one_written, one_written_is}, PermitGates.{drops_others, drops_own, gates_passing}, PermitGrants.{Granted, gates_granted, keys_granted, lined_granted}, PermitQueued.{GrantAt, granted_at as at_grant, granted_of, keeps_queued, queues}, PermitSeen.{keys_gates, opens_ended}, PermitSteps.{HasGranted, answer_is, holder_is, moves_grant, request_is, spares_marked, things_granted}, ReapAccounts.{IsOperation, file_there, lines_counted, opens_counted, opens_uncounted}, ReapViewed.{same_outcome_self, told_place}}

-- WHAT ENDS AT A GRANT is told as it is

grant_told : (k : Kind) (o : Outcome) (a : Account) → Some o ≡ outcome_at_grant k a → told_of k a o ≡ o
grant_told = grind arith

-- WHERE IT LEADS
follows_given : (gate file : ℕ) (v : Service) → Follows (Place.Service (InService.Submit gate) v) (Place.Service (InService.PassPermit file (AfterPermit.Submit (suc file))) v)
follows_given gate file v = record { from = refl; to = refl; serves = refl; armed = refl; closes = refl; wakes = refl; moment = λ m. refl; searches = refl; published = refl; bare = refl; batch = λ ms h. h }

twice : (rs : List Record) (k : ℕ) (r : Record) (f g h : Record → Record) → slice_get rs k ≡ Some r → g (f r) ≡ h r → changed_at (changed_at rs k f) k g ≡ changed_at rs k h
twice rs k r f g h there same =
    ap (changed_in (changed_at rs k f) k g) (marked f rs k k r there ∙ ap (λ b. Some (mark_if f b r)) (eq-eqb k k refl)) ∙ ap (λ o. slice_set (changed_in rs k f o) k (g (f r))) there
    ∙ set_twice rs k (f r) (g (f r)) ∙ ap (slice_set rs k) same ∙ sym (ap (changed_in rs k h) there)

module _ {B L : Type 0} (left : B → L) (spot : L → Option Said → Spot) (v : Service) (file : ℕ) (w w' : Worker) (s s' : Shared B) (e : Event) (g : Told) (new : IsGatedIn v file w s) (by : HasGranted v file w w' s s' e g) (how : Ended) (ends : g.ended ≡ Some how) where
  abbrev q : Place
  q = Place.Service (InService.Submit new.gate) v

  abbrev q' : Place
  q' = Place.Service (InService.PassPermit file (AfterPermit.Submit (suc file))) v

  abbrev d : Driving Reply Reply
  d = driver_of w

  abbrev k : ℕ
  k = number_in w.names.requests.items g.id.0

  abbrev outcome : Outcome
  outcome = as_outcome how

  abbrev over : Record → Record
  over = ends_as (as_outcome how)

  who : GrantAt w s file g.id
  who = at_grant w s v file new g.id by.grants.holder by.grants.waits

  abbrev account : Option Account
  account = account_in s.opens (file_of who.it.request)

  abbrev told : RequestOutput
  told = output_of who.it.request how (account_in s.opens (file_of who.it.request))

  abbrev permitted : Waiter Reply Reply
  permitted = with_permit who.it

  gave : GrantsAs (driver_of w) (driver_of w') s.opens s'.opens w.home.deferred w'.home.deferred file g who.it
  gave = by.grants.grants who.it who.live

  abbrev d1 : Driving Reply Reply
  d1 = record (driver_of w) { requests = written (driver_of w).requests g.id.0 (Pending (with_permit who.it)); lists = without_gated g.id (driver_of w).lists }

  abbrev d2 : Driving Reply Reply
  d2 = record d1 { requests = finished d1.requests g.id.0 permitted how account; wheel = unscheduled (driver_of w).wheel (tick_in who.it.state); lists = withdrawn g.id d1.lists }

  driver : driver_of w' ≡ d2
  driver = gave.driver ∙ ap (λ o. driver_granted (driver_of w) g.id who.it o (account_in s.opens (file_of who.it.request))) ends

  abbrev told_t : ToldOf Reply Reply
  told_t = told_by_finish g.id.0 permitted how account

  tells : Tells w.home.deferred w'.home.deferred (told_by_finish g.id.0 (with_permit who.it) how (account_in s.opens (file_of who.it.request)))
  tells = subst (λ o. Tells w.home.deferred w'.home.deferred (told_by_end g.id (with_permit who.it) o (account_in s.opens (file_of who.it.request)))) ends gave.tells

  opens_are : s'.opens ≡ with_account s.opens (file_of who.it.request) (record_after who.it.request how (account_in s.opens (file_of who.it.request)))
  opens_are = gave.opens_after ∙ ap (opens_after_end s.opens (with_permit who.it)) ends

  answer : as_answer g.ended ≡ Some (as_outcome how)
  answer = ap as_answer ends

  event : e ≡ Grant (number_in w.names.requests.items g.id.0) (Some (as_outcome how))
  event = by.event ∙ ap (Grant (number_in w.names.requests.items g.id.0)) answer

  records : s'.requests.items ≡ changed_at s.requests.items (number_in w.names.requests.items g.id.0) (ends_as (as_outcome how))
  records = by.records ∙ ap (λ o. changed_at s.requests.items (number_in w.names.requests.items g.id.0) (λ r. record r { shown = granted o r.shown })) answer

  ended : w'.names.ended.items ≡ w.names.ended.items ++ number_in w.names.requests.items g.id.0 ∷ []
  ended = by.ended ∙ ap (λ o. joined_if (is_some o) w.names.ended.items (number_in w.names.requests.items g.id.0)) answer

  same : w' ≡ record w { place = Place.Service (InService.PassPermit file (AfterPermit.Submit (suc file))) v; home = record w.home { driver = w'.home.driver; deferred = w'.home.deferred }; names = record w.names { ended = w'.names.ended } }
  same = by.worker ∙ ap (λ o. record w { place = (after_grant v file o (desk_of w)).place; home = record w.home { driver = w'.home.driver; deferred = w'.home.deferred }; names = record w.names { ended = w'.names.ended } }) answer

  -- its operation, and what is kept of its open
  op : IsOperation who.it.request who.r.shown.operation
  op =
      search (ap (λ x. x.kind) who.alike.asked, new.sound.carried.target g.id.0 who.it who.r who.live who.there, who.alike)

  within : is_of_file who.r.shown.operation.kind ≡ true → who.r.shown.operation.target < length s.opens
  within of = new.sound.gates.there (number_in w.names.requests.items g.id.0) who.r who.there of

  lines : SameLines s.opens s'.opens
  lines = lines_counted who.it.request who.r.shown.operation how s.opens s'.opens s.requests.items new.sound.gates op within opens_are

  -- what its task hears is what the log tells
  told_same : as_outcome how ≡ outcome_told (output_of who.it.request how (account_in s.opens (file_of who.it.request)))
  told_same =
      let of : is_of_file (asked_of who.it.request).kind ≡ true = durable_of_file (asked_of who.it.request).kind who.durable in
      let has = open_of_file s.opens s.requests.items file new.sound.gates (subst (λ n. n < length s.opens) who.target (within (ap is_of_file (ap (λ x. x.kind) who.alike.asked) ∙ of))) in
      let kept : account_in s.opens (Some file) ≡ Some has.a = ap account_by has.there ∙ has.account in
      sym (tells_ending who.it.request how (account_in s.opens (file_of who.it.request))
      ∙ ap (λ a. as_outcome (told_by (asked_of who.it.request).kind how a)) (ap (account_in s.opens) (file_there who.it.request of ∙ ap (λ n. Some n) (sym op.target ∙ who.target)) ∙ kept)
      ∙ as_told (told_of (asked_of who.it.request).kind has.a (as_outcome how))
      ∙ grant_told (asked_of who.it.request).kind (as_outcome how) has.a (sym answer ∙ gave.answer ∙ ap (outcome_if_granted who.it.request) kept))

  -- its deadline, which it doesn't have, is where it was
  punctual1 : IsPunctual d1
  punctual1 =
      record {
        ahead = λ x t enrolled undue.
            let changed = changes_one (driver_of w).requests g.id.0 who.it (with_permit who.it) who.live in
            let tick : tick_of (waiter_at (written (driver_of w).requests g.id.0 (Pending (with_permit who.it))) x.0) ≡ tick_of (waiter_at (driver_of w).requests x.0) =
            by_name x.0 g.id.0 (λ apart. ap tick_of (changed.others x.0 apart)) (λ same. ap (λ y. tick_of (waiter_at (written (driver_of w).requests g.id.0 (Pending (with_permit who.it))) y)) same ∙ ap tick_of changed.is_at ∙ sym (ap tick_of who.live) ∙ sym (ap (λ y. tick_of (waiter_at (driver_of w).requests y)) same)) in
            new.sound.due.punctual.ahead x t (sym tick ∙ enrolled) undue;
      }

  queued : KeepsBy (record w { place = Place.Service (InService.Submit new.gate) v }) d1 w.home.timers (changed_at s.requests.items (number_in w.names.requests.items g.id.0) queues) s.sleepers.items s
  queued =
      keeps_queued (Place.Service (InService.Submit new.gate) v) (Place.Service (InService.Submit new.gate) v) w s new.sound file g.id who d1 refl refl refl refl refl refl refl refl (stages_again new.gate v) punctual1 (λ h. absurd (false≢true (sym h)))

  live1 : waiter_at d1.requests g.id.0 ≡ Some (with_permit who.it)
  live1 = (changes_one (driver_of w).requests g.id.0 who.it (with_permit who.it) who.live).is_at

  kept : KeepsBy (record w { place = Place.Service (InService.PassPermit file (AfterPermit.Submit (suc file))) v; names = record w.names { ended = w'.names.ended }; home = record w.home { deferred = w'.home.deferred } }) d2 w.home.timers
      (changed_at s.requests.items (number_in w.names.requests.items g.id.0) (ends_as (as_outcome how))) s.sleepers.items s
  kept =
      let w0 : Worker = record w { place = q } in
      let rs = s.requests.items in
      let rs1 = changed_at rs k queues in
      let start = w.moments.start in
      let now = w.moments.sampled in
      let there1 : slice_get rs1 k ≡ Some (queues who.r) = marked queues rs k k who.r who.there ∙ ap (λ b. Some (mark_if queues b who.r)) (eq-eqb k k refl) in
      let one : OneEnds w.names d1 d2.requests rs1 g.id.0 permitted (queues who.r) over outcome told = search (live1, there1, slab_after d1.requests g.id.0 permitted how account who.small live1, leaves_all (queues who.r) outcome refl refl) in
      let plain = new.sound.flown.plain k who.r who.there who.worker in
      let wheel : IsWheelAt s.config start now (driver_of w).wheel = new.sound.due.wheel in
      let punctual : IsPunctual d2 = subst IsPunctual driver by.punctual in
      let by_ended =
      keeps_ended w0 s d1 d2 w.home.timers rs1 s.sleepers.items g.id.0 permitted (queues who.r) over outcome told q' w'.names w'.home.deferred told_t one queued
      (ends_told g.id.0 permitted how account who.r.shown.forwarding who.alike.near) tells ended by.capacity who.idle (record { bounded = plain.bounded; moved = plain.moved; deadline = plain.deadline })
      (λ held. told_same) refl refl refl (unticked_start (driver_of w).wheel (tick_in who.it.state)) (unticked_tick (driver_of w).wheel (tick_in who.it.state))
      punctual (λ h. ap (without g.id) new.due) (unticked_at s.config start now (driver_of w).wheel (tick_in who.it.state) wheel) (alike_unticked (driver_of w).wheel (tick_in who.it.state)) refl refl in
      subst (λ xs. KeepsBy (record w { place = q'; names = record w.names { ended = w'.names.ended }; home = record w.home { deferred = w'.home.deferred } }) d2 w.home.timers xs s.sleepers.items s)
      (twice rs k who.r queues over over who.there refl) by_ended

  -- who gives its permit up is the first of its gate still
  passing : (f : ℕ) → passes_at (Place.Service (InService.PassPermit file (AfterPermit.Submit (suc file))) v) ≡ Some f → PassesPermit w.index f s'.opens s'.requests.items
  passing f at =
      let rs = s.requests.items in
      let rs1 = changed_at rs k queues in
      let there1 : slice_get rs1 k ≡ Some (queues who.r) = marked queues rs k k who.r who.there ∙ ap (λ b. Some (mark_if queues b who.r)) (eq-eqb k k refl) in
      let durable : is_durable who.r.shown.operation.kind ≡ true = ap is_durable op.kind ∙ who.durable in
      let lined1 : AreLinedUp s'.opens rs1 = lined_opens s.opens s'.opens lines rs1 (lined_granted k who.r queues who.o s.opens rs (granted_of w s file g.id who queues refl refl refl) new.sound.gates) in
      let o = there_within s'.opens who.r.shown.operation.target (lined1.there k (queues who.r) there1 (durable_of_file who.r.shown.operation.kind durable)) in
      let holds = (lined1.lines who.r.shown.operation.target o.0 o.1).held k (queues who.r) there1 durable refl refl refl in
      let there = ap (λ xs. slice_get xs k) records ∙ marked over rs k k who.r who.there ∙ ap (λ b. Some (mark_if over b who.r)) (eq-eqb k k refl) in
      subst (λ m. PassesPermit w.index m s'.opens s'.requests.items) (who.target ∙ same_Some file f at) (search (o.1, there, who.worker, holds))

  own_over : (ended : List ℕ) →
      let me = own_with w q' ended w.names.untold.items d in
      own_with w q' ended w.names.untold.items d2 ≡ record me { ready = filter (λ j. not (j == k)) me.ready; unenrolled = filter (λ j. not (j == k)) me.unenrolled; cancels = filter (λ j. not (j == k)) me.cancels }
  own_over ended =
      let n = w.names.requests.items in
      let before : flying_count d1.requests ≡ flying_count d.requests = omega (arith, flying_after d.requests g.id.0 who.it permitted who.live, ap one_if who.idle) in
      let flying : flying_count d2.requests ≡ flying_count d.requests = flying_ended d1.requests g.id.0 permitted how account live1 who.idle ∙ before in
      let apart = apart_by q w s new.sound g.id.0 who.r who.there who.named in
      let ready = numbers_without n g.id d.lists.queued (λ x among. apart x (stands d x is_queued (request_at d x) refl refl (new.lists.queued x among))) in
      let cancels = numbers_without n g.id d.lists.cancels (λ x among. apart x (stands d x is_cancelled (request_at d x) refl refl (new.lists.cancels x among))) in
      grind arith

  pub grant_over : Steps left spot w s e w' s'
  grant_over =
      let sound = new.sound in
      let rs = s.requests.items in
      let n = w.names.requests.items in
      let r = who.r.shown in
      let w0 : Worker = record w { place = q } in
      let deferred = w'.home.deferred in
      let rs' = changed_at rs k over in
      let w1 : Worker = record w { place = q'; names = record w.names { ended = w'.names.ended }; home = record w.home { deferred = deferred } } in
      let s1 : Shared B = record s { opens = s'.opens } in
      let known : IsKnown w.index n d2.requests s'.opens rs' = known_opens w.index n d2.requests s.opens s'.opens rs' lines kept.known in
      let kept1 : KeepsBy w1 d2 w.home.timers rs' s.sleepers.items s1 =
      record { told = kept.told; wide = kept.wide; named = kept.named; sized = kept.sized; over = kept.over; quiet = kept.quiet; due = kept.due; flown = kept.flown; carried = kept.carried; known = known; rooted = kept.rooted; bare = kept.bare } in
      let there : w'.place ≡ q' = ap (λ x. x.place) same in
      let serves : Serves q w w' s s' = serves_to q q' w w' s s' (subst (IsServed w) (sym same) refl) (subst (OthersKept s) (sym by.shared) refl) there (follows_given new.gate file v) in
      let show = shows q w w' s s' d2 serves driver (ap (λ (x : Worker). x.home.timers) same) in
      let seen : visible w' ≡ visible w = show.seen in
      let grants : Granted k who.r over who.o s.opens rs = granted_of w s file g.id who over refl refl refl in
      let keys : map key_for rs' ≡ map key_for rs = keys_granted k who.r over who.o s.opens rs grants sound.gates in
      let lined : AreLinedUp s.opens rs → AreLinedUp s'.opens s'.requests.items = λ l. lined_opens s.opens s'.opens lines s'.requests.items (subst (AreLinedUp s.opens) (sym records) (lined_granted k who.r over who.o s.opens rs grants l)) in
      let sleepers = ap (λ (y : Shared B). y.sleepers.items) by.shared in
      let spares : SparesGates w.index s s' = spares_marked w.index s s' k who.r over records sleepers who.there who.worker (λ y. refl) (λ y. refl) lined lines.hints in
      let index : w'.index ≡ w.index = ap (λ (y : Worker). y.index) same in
      let ending = ends_told g.id.0 permitted how account r.forwarding who.alike.near in
      let gates : (others : Profile) → IsWhole (with_worker others w) s → HaveGates (with_worker others w').drops_by s'.opens s'.requests.items = λ others whole.
      let mine = drops_own others w w' index in
      let before = gates_granted k who.r over who.o s.opens rs grants sound.gates (with_worker others w).drops_by whole.gates in
      gates_passing (with_worker others w).drops_by (with_worker others w').drops_by w.index s'.opens s'.requests.items (drops_others others w w' index) (ap (λ (y : Drops). y.joins) (mine ∙ ap drops_at there))
      (λ f at. passing f (sym (ap (λ (y : Drops). y.passes) (mine ∙ ap drops_at there)) ∙ at))
      (gates_opens s.opens s'.opens lines (with_worker others w).drops_by s'.requests.items (subst (HaveGates (with_worker others w).drops_by s.opens) (sym records) before)) in
      let ends_by = ends_thing w s q sound g.id.0 who.it who.live who.r who.there over outcome who.worker refl in
      let balances : Balances w w' s s' = record {
        gates = gates;
        holding = holding_over q w w' s s' k who.r over outcome (waker_in who.it.observer) sound.here serves who.there records (ap (λ (y : Shared B). map nap_of y.sleepers.items) by.shared) ends_by (tells.notes.wakes_added ∙ ap (λ ws. w.home.deferred.notes.wakes.items ++ ws) ending.wakes);
      } in
      -- the desk
      let x : Desk = record (desk_of w0) { place = q' } in
      let slab1 = d1.requests in
      let was = entry_of (value_at d.requests g.id.0) who.it who.live in
      let live_1 : value_at slab1 g.id.0 ≡ Some (Pending permitted) = entry_of (value_at slab1 g.id.0) permitted live1 in
      let one0 = one_slot w s q sound g.id.0 who.it who.live in
      let one = one_written n d.requests g.id.0 (Pending permitted) live_1 one0 in
      let desk_end = desk_ended x n slab1 w.home.deferred deferred g.id.0 permitted told told_t r
      (record { wakes = refl; outputs = refl; completions = refl; results = refl; requests = sym (slots_written n d.requests g.id.0 (Pending who.it) (Pending permitted) was); awaited = sym (awaited_written n d.requests g.id.0 (Pending who.it) (Pending permitted) was refl) })
      one (one_written_is n d.requests g.id.0 (Pending permitted) live_1 one0) ending tells who.alike.near who.alike.observed who.alike.waiter (λ reply is. (sound.rooted.replies g.id.0 who.it reply who.r who.live is who.there).of) in
      let desk : desk_of w' ≡ record (told_of_end k r (desk_of w0)) { place = q' } = grind (arith, show.desk, there, same, desk_end, told_place k r (desk_of w0) q') in
      -- the machine
      let opens_end = opens_ended rs k who.r over who.there s.opens s'.opens outcome sound.gates keys (ap is_resolved who.phase) (λ sure. sure)
      (λ free. absurd (false≢true (sym free ∙ ap is_durable op.kind ∙ who.durable)))
      (λ sure o at. let is_o : o ≡ who.o = same_Some o who.o (sym at ∙ ap (slice_get s.opens) who.target ∙ who.open_there) in ap (λ y. y.holder) is_o ∙ who.holds)
      (opens_uncounted who.it.request r.operation how s.opens s'.opens rs sound.gates op within opens_are) (opens_counted who.it.request r.operation how s.opens s'.opens rs sound.gates op within opens_are) in
      let sent : map was_sent s'.requests.items ≡ map was_sent rs = ap (map was_sent) records ∙ map_changed was_sent rs k who.r over who.there refl in
      let gate_lists : map (gate_seen s'.requests.items) s'.opens ≡ map (gate_seen rs) s.opens =
      keys_gates rs s'.requests.items (ap (map key_for) records ∙ keys) s'.opens ∙ gates_seen_same rs rs s.opens s'.opens (lines_same rs rs refl) lines in
      let by_answer : Some outcome ≡ outcome_if_granted who.it.request (account_in s.opens (Some file)) = sym answer ∙ gave.answer in
      subst (λ y. Steps left spot w s y w' s') (sym event)
      (served_by left spot q w w' s s' (Grant k (Some outcome)) sound serves (keeps_home w1 w' s1 s' rs' d2 same by.shared driver records kept1) spares balances
      (λ p vs suits.
      let all = common_of left spot p vs s in
      let request : request_of all k ≡ r = request_is left spot v file w s new g.id who p vs in
      let again : with_view vs w.index (visible w') ≡ vs = ap (with_view vs w.index) seen ∙ view_found vs w.index (visible w) suits.seen in
      let held = ap (λ x. is_number k (open_of all x.operation.target).holder) request ∙ holder_is left spot v file w s new g.id who p vs in
      let same_answer = ap (λ x. same_end (Some outcome) (outcome_at_grant x.operation.kind (account_of_open all x))) request ∙ ap (same_end (Some outcome)) (answer_is left spot v file w s new g.id who p vs (Some outcome) by_answer) ∙ same_outcome_self outcome in
      record {
        moves = grind (arith, moves_grant left spot v file w s new g.id who p vs suits (Some outcome) by_answer, desk, things_granted vs w w' s s' suits.seen seen by.shared gate_lists sent);
        may = (at_large q w s sound refl, (ap (λ x. x.worker == w.index) request ∙ ap (λ i. i == w.index) who.worker ∙ eq-eqb w.index w.index refl, (ap (λ x. is_gated x.phase) request ∙ ap is_gated who.phase, (held, (same_answer, tt)))));
        own = grind (arith, show.own, there, same, ended, own_over (w.names.ended.items ++ k ∷ []));
        common = grind (arith, again, by.shared, records, opens_end, shown_changed over rs k who.r who.there, request);
      }))
