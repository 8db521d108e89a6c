-- The first of a gate is granted its permit, and is queued: a step.
use Rattle.std.{proofs.{Common.{◌≡◌, ◌≢◌, ℕ, suc, ◌<◌, ◌==◌, ◌&&◌, Bool, true, false, List, [], ◌∷◌, ◌++◌, length, map, Option, Some, None, is_some, refl, sym, ap, subst, ◌∙◌, arith, slice_get, slice_set}, lemmas.{Bool.{eq-eqb, false≢true}, List.append-nil, Option.get_or_from_slice_get}}, specs.VecDeque.deque_capacity}
use Rattle.exec_base.specs.Slab.{value_at, written}
use Rattle.exec_outcomes.specs.{Accounts.{is_durable, outcome_at_grant}, declared.outcome.Outcome.Outcome}
use Rattle.exec_request.specs.{Requests.{asked_of, outcome_if_granted}, States.as_answer}
use Rattle.exec_waiters.{specs.{Events.with_permit, States.{file_of, flying_count}, Told.{Tells, nothing_told}, declared.{waiter.Entry.TheVariants.Pending, waiter_id.WaiterId.WaiterId}}, proofs.Changes.{entry_of, one_if}}
use Rattle.exec_driver.specs.{Driving.Driving, Punctual.IsPunctual, Steps.{Grants, granted as driver_granted, opens_after_end, told_by_end}, declared.driver.staging.Granted.Granted as Told}
use Rattle.exec_lists.specs.Lists.{with_queued, without_gated}
use Rattle.exec_opens.specs.Opens.{account_by, account_in}
use Rattle.exec_task.specs.declared.body.Said.{Said}
use Rattle.exec_machine.specs.{declared.{event.Event.{Event, TheVariants.Grant}}, Progress.Plan, Requests.{account_of_open, granted, joined_if}, Same.{is_number, same_end}, Tests.{is_gated, is_resolved, is_unsent}, World.{Common, open_of, request_of}}
use Rattle.exec_moves.specs.{declared.place.{InService.InService, Place.Place, Service.Service}, Move.{move_at, move_submit}, State.gate_of, Submit.{after_grant, granted_at}, Thing.with_gate, Told.told_if_ended}
use Rattle.exec_parts.{specs.{declared.parts.{mail.Reply.Reply, record.Record.Record, shared.Shared.Shared, worker.Worker.Worker}, Records.{number_in, outcome_in}, Serving.changed_at, Spots.Spot, View.{Views, awaited_from, common_of, desk_of, driver_of, gate_seen, number_of_key, numbers_of, open_seen, own_of, seat_seen, slots_seen, things_with, visible, with_view}}, proofs.Facts.not_same}
use Rattle.exec_invariants.{specs.{Gates.{AreLinedUp, HaveGates, has_hint_at, key_for}, Holding.{nap_of, thing_of}, Places.{Drops, drops_at}, Submits.IsGatedIn, Whole.{IsWhole, Profile, with_worker}, Works.{Steps, Suits}}, proofs.{Accounted.open_of_file, Changing.flying_after, Gated.durable_of_file, Hinting.open_there, Keys.name_in, Lined.{map_changed, mapped, passing_same, was_sent}, Marking.{mark_if, marked, was_marked}, Recorded.request_seen, Seeing.{common_changed, common_same, makes, own_with, served_by, shows, visible_with}, Serving.{Balances, SparesGates, at_large, holding_still}, ServingHolds.{IsServed, Keeps, KeepsBy, OthersKept, Serves, keeps_home, serves_to}, Slotted.{awaited_written, slots_written}, Spared.sleepers_endure, Turning.view_found, Untold.keeps_untold}}
use Rattle.exec_serving.proofs.{PermitGates.{drops_others, drops_own, gates_passing}, PermitGrants.{Granted, gates_granted, keys_granted, lined_granted}, PermitQueued.{GrantAt, granted_at as at_grant, granted_of, keeps_queued, queues}, PermitSeen.{keys_gates, number_named}, PermitTries.{due_is, follows_next, gate_again, tried_at}, Returned.numbers_push}

-- WHAT A GRANT DID

pub record HasGranted {B : Type 0} (v : Service) (file : ℕ) (w w' : Worker) (s s' : Shared B) (e : Event) (g : Told) : Type 0 where
  pub grants : Grants (driver_of w) (driver_of w') s.opens s'.opens w.home.deferred w'.home.deferred w.index file g
  pub punctual : IsPunctual (driver_of w')
  pub event : e ≡ Grant (number_in w.names.requests.items g.id.0) (as_answer g.ended)
  pub records : s'.requests.items ≡ changed_at s.requests.items (number_in w.names.requests.items g.id.0) (λ r. record r { shown = granted (as_answer g.ended) r.shown })
  pub shared : s' ≡ record s { requests = s'.requests; opens = s'.opens }
  pub ended : w'.names.ended.items ≡ joined_if (is_some (as_answer g.ended)) w.names.ended.items (number_in w.names.requests.items g.id.0)
  pub capacity : deque_capacity w'.names.ended ≡ deque_capacity w.names.ended
  pub still : as_answer g.ended ≡ None → w'.names ≡ w.names
  pub worker : w' ≡ record w { place = (after_grant v file (as_answer g.ended) (desk_of w)).place; home = record w.home { driver = w'.home.driver; deferred = w'.home.deferred }; names = record w.names { ended = w'.names.ended } }

-- WHAT OTHERS RELY ON: one record changed, of which its worker stays

pub spares_marked : {B : Type 0} (i : ℕ) (s s' : Shared B) (k : ℕ) (r : Record) (f : Record → Record) → s'.requests.items ≡ changed_at s.requests.items k f → s'.sleepers.items ≡ s.sleepers.items → slice_get s.requests.items k ≡ Some r → r.shown.worker ≡ i
    → ((y : Record) → (f y).shown.worker ≡ y.shown.worker) → ((y : Record) → (f y).shown.forwarding ≡ y.shown.forwarding) → (AreLinedUp s.opens s.requests.items → AreLinedUp s'.opens s'.requests.items) → ((file : ℕ) → has_hint_at s.opens file ≡ false → has_hint_at s'.opens file ≡ false) → SparesGates i s s'
spares_marked i s s' k r f records sleepers there mine keeps forwards lined hints =
    let rs = s.requests.items in
    let apart : (j : ℕ) (x : Record) → slice_get rs j ≡ Some x → x.shown.worker ≢ i → (k == j) ≡ false = λ j x at other.
    not_same k j (λ same. other (let is : x ≡ r = cc (at, ap (slice_get rs) same, there) in ap (λ y. y.shown.worker) is ∙ mine)) in
    record {
      records = λ j x at other. ap (λ xs. slice_get xs j) records ∙ marked f rs k j x at ∙ ap (λ b. Some (mark_if f b x)) (apart j x at other);
      records_only = λ j x at other.
          let old = was_marked f rs k j x (ap (λ xs. slice_get xs j) (sym records) ∙ at) in
          let before : old.0.shown.worker ≢ i = λ is. other (ap (λ y. y.shown.worker) old.2 ∙ worker_same (k == j) old.0 ∙ is) in
          old.1 ∙ ap (λ y. Some y) (sym (old.2 ∙ ap (λ b. mark_if f b old.0) (apart j old.0 old.1 before)));
      sleepers = λ j z at other. ap (λ zs. slice_get zs j) sleepers ∙ at;
      sleepers_only = λ j z at other. ap (λ zs. slice_get zs j) (sym sleepers) ∙ at;
      endure = λ j x at. (mark_if f (k == j) x, ap (λ xs. slice_get xs j) records ∙ marked f rs k j x at, record { worker = worker_same (k == j) x; forwarded = λ h. ap is_unsent (forward_same (k == j) x) ∙ h });
      naps = sleepers_endure s.sleepers.items s'.sleepers.items sleepers;
      lined = lined;
      hints = hints;
    }
  where
    worker_same : (b : Bool) (y : Record) → (mark_if f b y).shown.worker ≡ y.shown.worker
    worker_same true y = keeps y
    worker_same false y = refl

    forward_same : (b : Bool) (y : Record) → (mark_if f b y).shown.forwarding ≡ y.shown.forwarding
    forward_same true y = forwards y
    forward_same false y = refl

-- WHAT THE MACHINE SEES of who is granted

module _ {B L : Type 0} (left : B → L) (spot : L → Option Said → Spot) (v : Service) (file : ℕ) (w : Worker) (s : Shared B) (new : IsGatedIn v file w s) (id : WaiterId) (who : GrantAt w s file id) (p : Plan) (vs : Views) where
  abbrev all : Common
  all = common_of left spot p vs s

  abbrev k : ℕ
  k = number_in w.names.requests.items id.0

  abbrev behind : List ℕ
  behind = map (number_of_key 0 s.requests.items) who.o.waiting

  gate_first : gate_seen s.requests.items who.o ≡ k ∷ behind
  gate_first = grind (arith, who.holds, number_named s.opens s.requests.items new.sound.gates k who.r (key_for who.r) who.there refl)

  pub request_is : request_of all k ≡ who.r.shown
  request_is = request_seen s.requests.items k who.r who.there

  pub gate_there : gate_of (things_with vs s) file ≡ k ∷ behind
  gate_there = get_or_from_slice_get (map (gate_seen s.requests.items) s.opens) file (gate_seen s.requests.items who.o) [] (mapped (gate_seen s.requests.items) s.opens file who.o who.open_there) ∙ gate_first

  pub turn_is : granted_at w.index (gate_of (things_with vs s) file) all ≡ Some k
  turn_is = grind (arith, gate_there, request_is, eq-eqb)

  open_is : open_of all who.r.shown.operation.target ≡ open_seen s.requests.items who.o
  open_is = open_there s.requests.items s.opens who.r.shown.operation.target who.o (ap (slice_get s.opens) who.target ∙ who.open_there)

  pub holder_is : is_number k (open_of all who.r.shown.operation.target).holder ≡ true
  holder_is = grind (arith, gate_first, open_is, eq-eqb)

  -- how it ends by that, if it does
  pub answer_is : (o : Option Outcome) → o ≡ outcome_if_granted who.it.request (account_in s.opens (Some file)) → outcome_at_grant who.r.shown.operation.kind (account_of_open all who.r.shown) ≡ o
  answer_is o is =
      let kind : who.r.shown.operation.kind ≡ (asked_of who.it.request).kind = ap (λ x. x.kind) who.alike.asked in
      let has = open_of_file s.opens s.requests.items file new.sound.gates (subst (λ n. n < length s.opens) who.target (new.sound.gates.there k who.r who.there (durable_of_file who.r.shown.operation.kind (ap is_durable kind ∙ who.durable)))) in
      let seen : account_of_open all who.r.shown ≡ has.a = grind (arith, who.target, open_there s.requests.items s.opens file has.o has.there, has.account) in
      ap (λ x. outcome_at_grant x (account_of_open all who.r.shown)) kind ∙ ap (outcome_at_grant (asked_of who.it.request).kind) seen
      ∙ sym (is ∙ ap (outcome_if_granted who.it.request) (ap account_by has.there ∙ has.account))

  pub moves_grant : Suits p vs w s → (o : Option Outcome) → o ≡ outcome_if_granted who.it.request (account_in s.opens (Some file)) →
      let w0 : Worker = record w { place = Place.Service (InService.Submit new.gate) v } in
      move_at p.config w.index (own_of w0) all (desk_of w0) (things_with vs s) (Place.Service (InService.Submit new.gate) v)
      ≡ makes (Grant k o) (after_grant v file o (told_if_ended o k who.r.shown (desk_of w0))) (things_with vs s)
  moves_grant suits o is =
      let w0 : Worker = record w { place = Place.Service (InService.Submit new.gate) v } in
      let x = things_with vs s in
      ap (move_submit p.config w.index (own_of w0) all (desk_of w0) x new.gate v) (due_is left spot v file w s new p vs suits)
      ∙ ap (λ o. with_gate file x (tried_at v file all (desk_of w0) (gate_of x file) o)) turn_is
      ∙ ap (λ y. makes (Grant k (outcome_at_grant y.operation.kind (account_of_open all y))) (after_grant v file (outcome_at_grant y.operation.kind (account_of_open all y)) (told_if_ended (outcome_at_grant y.operation.kind (account_of_open all y)) k y (desk_of w0))) (record x { gates = slice_set x.gates file (gate_of x file) })) request_is
      ∙ ap (λ a. makes (Grant k a) (after_grant v file a (told_if_ended a k who.r.shown (desk_of w0))) (record x { gates = slice_set x.gates file (gate_of x file) })) (answer_is o is)
      ∙ ap (makes (Grant k o) (after_grant v file o (told_if_ended o k who.r.shown (desk_of w0)))) (gate_again x file)

-- what stands beside the machine, where the gates keep their keys
pub things_granted : {B : Type 0} (vs : Views) (w w' : Worker) (s s' : Shared B) → slice_get vs.workers w.index ≡ Some (visible w) → visible w' ≡ visible w → s' ≡ record s { requests = s'.requests; opens = s'.opens } → map (gate_seen s'.requests.items) s'.opens ≡ map (gate_seen s.requests.items) s.opens
    → map was_sent s'.requests.items ≡ map was_sent s.requests.items → things_with (with_view vs w.index (visible w')) s' ≡ things_with vs s
things_granted = grind (arith, view_found, was_sent, passing_same)

-- QUEUED

module _ {B L : Type 0} (left : B → L) (spot : L → Option Said → Spot) where
  pub grant_queues : (v : Service) (file : ℕ) (w w' : Worker) (s s' : Shared B) (e : Event) (g : Told) (new : IsGatedIn v file w s) → HasGranted v file w w' s s' e g → g.ended ≡ None → Steps left spot w s e w' s'
  grant_queues v file w w' s s' e g new by none =
      let q : Place = Place.Service (InService.Submit new.gate) v in
      let q' : Place = Place.Service (InService.Submit (suc file)) v in
      let sound = new.sound in
      let d = driver_of w in
      let d' = driver_of w' in
      let rs = s.requests.items in
      let n = w.names.requests.items in
      let id = g.id in
      let k = number_in n id.0 in
      let who = at_grant w s v file new id by.grants.holder by.grants.waits in
      let it = who.it in
      let it' = with_permit it in
      let w0 : Worker = record w { place = q } in
      let gave = by.grants.grants it who.live in
      let account = account_in s.opens (file_of it.request) in
      let driver : d' ≡ record d { requests = written d.requests id.0 (Pending it'); lists = with_queued id (without_gated id d.lists) } = gave.driver ∙ ap (λ o. driver_granted d id it o account) none in
      let tells : Tells w.home.deferred w'.home.deferred nothing_told = subst (λ o. Tells w.home.deferred w'.home.deferred (told_by_end id it' o account)) none gave.tells in
      let opens : s'.opens ≡ s.opens = gave.opens_after ∙ ap (opens_after_end s.opens it') none in
      let no_answer : as_answer g.ended ≡ None = ap as_answer none in
      let records : s'.requests.items ≡ changed_at rs k queues = by.records ∙ ap (λ o. changed_at rs k (λ r. record r { shown = granted o r.shown })) no_answer in
      let deferred = w'.home.deferred in
      let same : w' ≡ record w { place = q'; home = record w.home { driver = w'.home.driver; deferred = deferred } } = grind (arith, by.worker, no_answer, by.still no_answer) in
      let shared : s' ≡ record s { requests = s'.requests } = by.shared ∙ ap (λ o. record s { requests = s'.requests; opens = o }) opens in
      let follows = follows_next new.gate (suc file) v in
      let kept : KeepsBy (record w { place = q' }) d' w.home.timers (changed_at rs k queues) s.sleepers.items s =
      keeps_queued q q' w s sound file id who d' (ap (λ x. x.requests) driver) (ap (λ x. x.ring) driver) (ap (λ x. x.armed) driver) (ap (λ x. x.wheel) driver) (ap (λ x. x.lists.gated) driver) (ap (λ x. x.lists.enrolments) driver) (ap (λ x. x.lists.due) driver) (ap (λ x. x.lists.cancels) driver)
      follows by.punctual (λ h. absurd (false≢true (sym h))) in
      let w1 : Worker = record w { place = q'; home = record w.home { deferred = deferred } } in
      let untold : KeepsBy w1 d' w.home.timers (changed_at rs k queues) s.sleepers.items s = keeps_untold (record w { place = q' }) d' w.home.timers (changed_at rs k queues) s.sleepers.items s deferred tells kept in
      let keeps : Keeps w' s' = keeps_home w1 w' s s' (changed_at rs k queues) d' same shared refl records untold in
      let there : w'.place ≡ q' = ap (λ x. x.place) same in
      let serves : Serves q w w' s s' = serves_to q q' w w' s s' (subst (IsServed w) (sym same) refl) (subst (OthersKept s) (sym shared) refl) there follows in
      let show = shows q w w' s s' d' serves refl (ap (λ (x : Worker). x.home.timers) same) in
      let seen : visible w' ≡ visible w = show.seen ∙ ap (λ r. visible_with n (visible w).taken r) (ap (λ x. x.ring) driver) in
      let grants : Granted k who.r queues who.o s.opens rs = granted_of w s file id who queues refl refl refl in
      let keys : map key_for s'.requests.items ≡ map key_for rs = ap (map key_for) records ∙ keys_granted k who.r queues who.o s.opens rs grants sound.gates in
      let lined : AreLinedUp s.opens rs → AreLinedUp s'.opens s'.requests.items = λ l. subst (λ o. AreLinedUp o s'.requests.items) (sym opens) (subst (AreLinedUp s.opens) (sym records) (lined_granted k who.r queues who.o s.opens rs grants l)) in
      let spares : SparesGates w.index s s' = spares_marked w.index s s' k who.r queues records (ap (λ (y : Shared B). y.sleepers.items) shared) who.there who.worker (λ y. refl) (λ y. refl) lined (λ f h. ap (λ o. has_hint_at o f) opens ∙ h) in
      let wakes : deferred.notes.wakes.items ≡ w.home.deferred.notes.wakes.items = tells.notes.wakes_added ∙ append-nil w.home.deferred.notes.wakes.items in
      let outputs : deferred.outputs.items ≡ w.home.deferred.outputs.items = tells.outputs_added ∙ append-nil w.home.deferred.outputs.items in
      let completions_same : deferred.notes.completions.items ≡ w.home.deferred.notes.completions.items = tells.notes.completions_added ∙ append-nil w.home.deferred.notes.completions.items in
      let results_same : deferred.results.items ≡ w.home.deferred.results.items = tells.results_added ∙ append-nil w.home.deferred.results.items in
      let was = entry_of (value_at d.requests id.0) it who.live in
      let slab : d'.requests ≡ written d.requests id.0 (Pending it') = ap (λ x. x.requests) driver in
      let slots : slots_seen n d'.requests ≡ slots_seen n d.requests = ap (slots_seen n) slab ∙ slots_written n d.requests id.0 (Pending it) (Pending it') was in
      let awaited : awaited_from 0 n d'.requests.slots ≡ awaited_from 0 n d.requests.slots = ap (λ x. awaited_from 0 n x.slots) slab ∙ awaited_written n d.requests id.0 (Pending it) (Pending it') was refl in
      let desk : desk_of w' ≡ record (desk_of w0) { place = q' } = grind (arith, show.desk) in
      let counts = flying_after d.requests id.0 it it' who.live in
      let idle : one_if it.in_flight ≡ 0 = ap one_if who.idle in
      let flying : flying_count d'.requests ≡ flying_count d.requests = ap flying_count slab ∙ (let is : flying_count (written d.requests id.0 (Pending it')) ≡ flying_count d.requests = omega (arith, counts, idle) in is) in
      let own = own_queued w q' d d' id (ap (λ x. x.lists) driver) flying in
      let index : w'.index ≡ w.index = ap (λ (y : Worker). y.index) same in
      let gates : (others : Profile) → IsWhole (with_worker others w) s → HaveGates (with_worker others w').drops_by s'.opens s'.requests.items = λ others whole.
      let mine = drops_own others w w' index in
      let before = gates_granted k who.r queues who.o s.opens rs grants sound.gates (with_worker others w).drops_by whole.gates in
      let still : HaveGates (with_worker others w).drops_by s'.opens s'.requests.items = subst (λ o. HaveGates (with_worker others w).drops_by o s'.requests.items) (sym opens) (subst (HaveGates (with_worker others w).drops_by s.opens) (sym records) before) in
      gates_passing (with_worker others w).drops_by (with_worker others w').drops_by w.index s'.opens s'.requests.items (drops_others others w w' index) (ap (λ (y : Drops). y.joins) (mine ∙ ap drops_at there))
      (λ f at. absurd (let never : None ≡ Some f = sym (ap (λ (y : Drops). y.passes) (mine ∙ ap drops_at there)) ∙ at in cc)) still in
      let things : map thing_of s'.requests.items ≡ map thing_of rs = ap (map thing_of) records ∙ map_changed thing_of rs k who.r queues who.there (ap (λ x. record (thing_of who.r) { ended = outcome_in x }) (sym who.phase)) in
      let balances : Balances w w' s s' = record { gates = gates; holding = holding_still q w w' s s' serves wakes things (ap (λ (y : Shared B). map nap_of y.sleepers.items) shared) } in
      let sent : map was_sent s'.requests.items ≡ map was_sent rs = ap (map was_sent) records ∙ map_changed was_sent rs k who.r queues who.there refl in
      let gate_lists : map (gate_seen s'.requests.items) s'.opens ≡ map (gate_seen rs) s.opens = keys_gates rs s'.requests.items keys s'.opens ∙ ap (map (gate_seen rs)) opens in
      let answer : None ≡ outcome_if_granted it.request (account_in s.opens (Some file)) = sym no_answer ∙ gave.answer in
      subst (λ x. Steps left spot w s x w' s') (sym (by.event ∙ ap (Grant k) no_answer))
      (served_by left spot q w w' s s' (Grant k None) sound serves keeps spares balances
      (λ p vs suits.
      let all = common_of left spot p vs s in
      let request : request_of all k ≡ who.r.shown = request_is left spot v file w s new id who p vs in
      let held = ap (λ x. is_number k (open_of all x.operation.target).holder) request ∙ holder_is left spot v file w s new id who p vs in
      let same_answer = ap (λ x. same_end None (outcome_at_grant x.operation.kind (account_of_open all x))) request ∙ ap (same_end None) (answer_is left spot v file w s new id who p vs None answer) in
      record {
        moves = grind (arith, moves_grant left spot v file w s new id who p vs suits None answer, desk, things_granted vs w w' s s' suits.seen seen by.shared gate_lists sent);
        may = (at_large q w s sound refl, (ap (λ x. x.worker == w.index) request ∙ ap (λ i. i == w.index) who.worker ∙ eq-eqb w.index w.index refl, (ap (λ x. is_gated x.phase) request ∙ ap is_gated who.phase, (held, (same_answer, tt)))));
        own = show.own ∙ ap (λ y. own_with w y w'.names.ended.items w'.names.untold.items d') there ∙ ap (λ x. own_with w q' x.names.ended.items x.names.untold.items d') same ∙ own;
        common =
            common_changed left spot p (with_view vs w.index (visible w')) s s' k who.r queues shared records who.there (ap (λ x. record (name_in who.r) { over = is_resolved x && is_durable who.r.shown.operation.kind }) (sym who.phase))
            ∙ ap (λ (x : Common). record x { requests = slice_set (map (λ r. r.shown) rs) k (queues who.r).shown }) (common_same left spot p vs w w' s suits (λ c. ap (λ y. seat_seen y c) seen))
            ∙ ap (λ x. record all { requests = slice_set (map (λ r. r.shown) rs) k (granted None x) }) (sym request);
      }))
    where
      own_queued : (w : Worker) (q' : Place) (d d' : Driving Reply Reply) (id : WaiterId) → d'.lists ≡ with_queued id (without_gated id d.lists) → flying_count d'.requests ≡ flying_count d.requests →
          let me = own_with w q' w.names.ended.items w.names.untold.items d in
          own_with w q' w.names.ended.items w.names.untold.items d' ≡ record me { ready = me.ready ++ number_in w.names.requests.items id.0 ∷ [] }
      own_queued w q' d d' id lists flying =
          let n = w.names.requests.items in
          let me' = own_with w q' w.names.ended.items w.names.untold.items d' in
          ap (λ l. record me' { ready = numbers_of n l.queued; unenrolled = numbers_of n l.enrolments; cancels = numbers_of n l.cancels }) lists
          ∙ ap (λ ns. record me' { ready = ns; unenrolled = numbers_of n d.lists.enrolments; cancels = numbers_of n d.lists.cancels }) (numbers_push n d.lists.queued id)
          ∙ ap (λ m. record me' { ready = numbers_of n d.lists.queued ++ number_in n id.0 ∷ []; unenrolled = numbers_of n d.lists.enrolments; cancels = numbers_of n d.lists.cancels; in_flight = m }) flying
