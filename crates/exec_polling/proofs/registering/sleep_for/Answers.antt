use Rattle.std.proofs.{Common.{◌≡◌, ◌≢◌, ℕ, ◌≤◌, ◌++◌, ◌∷◌, [], ◌+◌, length, Some, refl, sym, ap, subst, ◌∙◌, arith, min, slice_get, slice_set}, lemmas.{List.set-set, Option.slice_get-get_or}}
use Rattle.exec_base.specs.{Slab.{inserted, next_id, IsPast, TakesId}, declared.{limits.TheConstants.LONGEST_TIMEOUT, task_no.TaskNo.TaskNo}}
use Rattle.exec_time.specs.declared.timers.{TimerId.TimerId, Observer.Observer}
use Rattle.exec_machine.specs.{declared.{event.Event.TheVariants.Timer, state.Waiting.Waiting}, Deadlines.new_sleeper}
use Rattle.exec_moves.specs.declared.place.{InPoll.InPoll, Place.Place}
use Rattle.exec_invariants.specs.Admitting.{one_made}
use Rattle.exec_parts.specs.{Records.numbers_held, declared.parts.{names.Names.Names, task_slot.TaskSlot.TaskSlot, worker.Worker.Worker}}
use Rattle.exec_polling.proofs.{LeafBeds.{bed_names, bed_room, bed_seat_counted, bed_seat_is, bed_seat_within, bed_within}, Growing.{refuses_by, rooms_there, rooms_within}}
use Rattle.exec_polling.proofs.registering.sleep_for.Goals as goal

pub index_mut-requires : goal.index_mut-requires
index_mut-requires g c = let within = rooms_within (c.in_default.ensures.kept c.args.task c.requires.there) in let long = (c.make_sleeper.new.shared.tasks).ok.0 in omega (arith, within, long)

pub returns-in_default-clause-refused : goal.returns-in_default-clause-refused
returns-in_default-clause-refused g c =
    let kept = c.in_default.ensures.kept c.args.task c.requires.there in
    let o = c.index_mut.result.now in
    let there = slice_get-get_or c.make_sleeper.new.shared.tasks.items c.args.task o (rooms_within kept) ∙ ap (λ y. Some y) (sym c.index_mut.ensures.value) in
    refuses_by o c.tell.new.self kept there (c.tell.ensures ∙ ap (λ said. record o { told = Some said }) c.refused.ensures) refl refl

pub name_timer-requires-clause-room : goal.name_timer-requires-clause-room
name_timer-requires-clause-room g c = let t = c.in-Ok.ensures.made c.args.task c.requires.there in bed_room _ _ _ _ _ _ _ _ t

pub name_timer-requires-clause-slot : goal.name_timer-requires-clause-slot
name_timer-requires-clause-slot g c = let t = c.in-Ok.ensures.made c.args.task c.requires.there in bed_within _ _ _ _ _ _ _ _ t c.requires.may

pub push_reserved-requires : goal.push_reserved-requires
push_reserved-requires g c = let t = c.in-Ok.ensures.made c.args.task c.requires.there in let long = (c.make_sleeper.new.shared.sleepers).ok.0 in omega (arith, long, t.has.records)

pub count_made-requires : goal.count_made-requires
count_made-requires g c =
    let t = c.in-Ok.ensures.made c.args.task c.requires.there in
    let x = c.make_sleeper.new.worker in
    let chair = c.index_mut-2.result.now in
    let there = slice_get-get_or c.make_sleeper.new.shared.seats.items x.index chair (bed_seat_within _ _ _ _ _ _ _ _ t) ∙ ap (λ v. Some v) (sym c.index_mut-2.ensures.value) in
    bed_seat_counted _ _ _ _ _ _ _ _ t chair there

pub index_mut-requires-2 : goal.index_mut-requires-2
index_mut-requires-2 g c = let t = c.in-Ok.ensures.made c.args.task c.requires.there in let within = bed_seat_within _ _ _ _ _ _ _ _ t in let long = (c.make_sleeper.new.shared.seats).ok.0 in omega (arith, within, long)

pub index_mut-requires-3 : goal.index_mut-requires-3
index_mut-requires-3 g c = let t = c.in-Ok.ensures.made c.args.task c.requires.there in let within = rooms_within t.rooms in let long = (c.make_sleeper.new.shared.tasks).ok.0 in omega (arith, within, long)

pub returns-clause-made : goal.returns-clause-made
returns-clause-made g c =
    let w = c.args.worker.now in
    let s = c.args.shared.now in
    let t = c.in-Ok.ensures.made c.args.task c.requires.there in
    let k = c.len-timer.result in
    let x = c.make_sleeper.new.worker in
    let count : k ≡ length s.sleepers.items = c.len-timer.ensures ∙ (c.make_sleeper.new.shared.sleepers).ok.0 ∙ ap length t.rooms.sleepers in
    let o = c.index_mut-3.result.now in
    let there = slice_get-get_or c.make_sleeper.new.shared.tasks.items c.args.task o (rooms_within t.rooms) ∙ ap (λ y. Some y) (sym c.index_mut-3.ensures.value) in
    let is : o ≡ t.rooms.slot' = rooms_there t.rooms o there in
    let index : x.index ≡ w.index = ap (λ (y : Worker). y.index) t.worker ∙ ap (λ (y : Worker). y.index) t.rooms.worker in
    let slot : o ≡ record t.rooms.slot { held = o.held } = is ∙ t.rooms.same ∙ ap (λ (y : TaskSlot g.row.B.Denot). record t.rooms.slot { held = y.held }) (sym is) in
    let waits : c.wait_for.new.self ≡ record t.rooms.slot { held = o.held; waiting = Waiting.Timer (length s.sleepers.items) } =
    c.wait_for.ensures ∙ ap (λ (y : TaskSlot g.row.B.Denot). record y { waiting = Waiting.Timer k }) slot ∙ ap (λ n. record t.rooms.slot { held = o.held; waiting = Waiting.Timer n }) count in
    let held : c.wait_for.new.self.held ≡ o.held = ap (λ (y : TaskSlot g.row.B.Denot). y.held) waits in
    let names : x.names ≡ t.mid.names = bed_names _ _ _ _ _ _ _ _ t in
    let until = w.moments.sampled + c.min.result in
    let till = w.moments.sampled + min c.args.time LONGEST_TIMEOUT in
    let named = sym c.new.ensures.id in
    let first = slice_get-get_or s.tasks.items c.args.task c.index.result.now c.requires.there ∙ ap (λ y. Some y) (sym c.index.ensures) in
    let found : c.index.result.now ≡ t.rooms.slot = cc (first, t.rooms.there) in
    let number : c.number-waker.result ≡ t.rooms.slot.cell.number = c.number-waker.ensures ∙ ap (λ (y : TaskSlot g.row.B.Denot). y.cell.number) found in
    let chair = c.index_mut-2.result.now in
    let found_chair = slice_get-get_or c.make_sleeper.new.shared.seats.items x.index chair (bed_seat_within _ _ _ _ _ _ _ _ t) ∙ ap (λ v. Some v) (sym c.index_mut-2.ensures.value) in
    let sits : c.count_made.new.self ≡ one_made t.rooms.mails.chair' = c.count_made.ensures ∙ ap one_made (bed_seat_is _ _ _ _ _ _ _ _ t chair found_chair) in
    record {
      mid = t.mid;
      all = c.make_sleeper.new.shared;
      rooms = t.rooms;
      has = t.has;
      driver = t.driver;
      store = t.store;
      made = c.new.result;
      unsent = c.new.ensures.sent;
      shown = c.new.ensures.shown ∙ ap (λ m. new_sleeper (w.moments.sampled + m) x.index c.args.task) c.min.ensures ∙ ap (λ i. new_sleeper till i c.args.task) index;
      unclosed = c.new.ensures.closed;
      next = subst (λ (y : TimerId). next_id t.mid.home.timers ≡ Some y.0) named t.next;
      timers = t.timers ∙ ap (λ m. record (inserted t.mid.home.timers (record { deadline = w.moments.sampled + m; observer = Observer.Local c.number-waker.result })) { room = x.home.timers.room }) c.min.ensures
          ∙ ap (λ (n : TaskNo). record (inserted t.mid.home.timers (record { deadline = till; observer = Observer.Local n })) { room = x.home.timers.room }) number;
      unnamed = subst (λ (y : TimerId). IsPast t.mid.home.timers y.0 → ⊥) named t.unnamed;
      past = subst (λ (y : TimerId). TakesId t.mid.home.timers x.home.timers y.0) named t.past;
      number_is = subst (λ (y : TimerId). slice_get c.name_timer.new.self.timers.items y.0.index ≡ Some (length s.sleepers.items)) named (c.name_timer.ensures.number ∙ ap (λ n. Some n) count);
      others = subst (λ (y : TimerId). (j : ℕ) → j ≢ y.0.index → slice_get c.name_timer.new.self.timers.items j ≡ slice_get t.mid.names.timers.items j) named
          (λ j apart. c.name_timer.ensures.others j apart ∙ ap (λ (n : Names). slice_get n.timers.items j) names);
      longer = subst (λ (n : Names). length n.timers.items ≤ length c.name_timer.new.self.timers.items) names c.name_timer.ensures.longer;
      names = c.name_timer.ensures.same ∙ ap (λ (n : Names). record n { timers = c.name_timer.new.self.timers }) names;
      worker = ap (λ (y : Worker). record y { place = Place.Poll c.args.task InPoll.Pend; names = c.name_timer.new.self }) t.worker;
      sleepers = c.push_reserved.ensures.items ∙ ap (λ xs. xs ++ c.new.result ∷ []) t.rooms.sleepers;
      slot' = c.wait_for.new.self;
      waits = waits ∙ ap (λ h. record t.rooms.slot { held = h; waiting = Waiting.Timer (length s.sleepers.items) }) (sym held);
      held = ap (λ h. numbers_held h.items) held ∙ ap (λ (y : TaskSlot g.row.B.Denot). numbers_held y.held.items) is ∙ t.rooms.held;
      having = ap (λ h. h.items) held ∙ ap (λ (y : TaskSlot g.row.B.Denot). y.held.items) is ∙ t.rooms.having;
      seats = ap (λ i. slice_set c.make_sleeper.new.shared.seats.items i c.count_made.new.self) index ∙ ap (λ xs. slice_set xs w.index c.count_made.new.self) t.rooms.mails.seats
          ∙ set-set s.seats.items w.index t.rooms.mails.chair' c.count_made.new.self ∙ ap (slice_set s.seats.items w.index) sits;
      tasks = ap (λ ts. slice_set ts c.args.task c.wait_for.new.self) t.rooms.tasks ∙ set-set s.tasks.items c.args.task t.rooms.slot' c.wait_for.new.self;
      shared = refl;
      event = ap (λ n. Timer n until) count ∙ ap (λ m. Timer (length s.sleepers.items) (w.moments.sampled + m)) c.min.ensures;
    }
