-- An act that got no memory: what is seen is as before.
use Rattle.std.proofs.{Common.{◌≡◌, ℕ, false, List, [], map, Option, Some, None, refl, sym, ap, ◌∙◌, slice_get, slice_set}, lemmas.List.{append-nil, set-set}}
use Rattle.exec_base.specs.declared.error.Error.TheVariants.{NoMemory}
use Rattle.exec_waiters.specs.{Told.{Tells, nothing_told}, declared.deferred.Deferred.Deferred}
use Rattle.exec_driver.specs.Driving.{Driving}
use Rattle.exec_words.specs.declared.inbox.Message.{Message}
use Rattle.exec_task.specs.{Sight.Sight, declared.body.{Act.Act, Said.Said}}
use Rattle.exec_machine.specs.Progress.{Plan}
use Rattle.exec_parts.{specs.{Records.numbers_held, declared.parts.{mail.{Reply.Reply, Subject.Subject}, names.Names.Names, record.Record.Record, sleeping.SleeperRecord.SleeperRecord, seat.Seat.Seat as Chair, shared.Shared.Shared, task_slot.TaskSlot.TaskSlot, worker.Worker.Worker}, Scripts.is_last, Spots.Spot, View.{Views, Visible, common_of, desk_of, driver_of, gate_seen, inbox_at, landed_in, message_of, numbers_of_passing, open_seen, own_of, polls_seen, queue_at, seats_seen, task_seen, things_with, visible, wake_poll_in, word_at}}, proofs.Facts.{same_Some, set_there}}
use Rattle.exec_invariants.{specs.{Admitting.Refuses, Acting.HasActed, Works.Same}, proofs.{Acting.actor, Performing.{same_slot, unmoved_seen}}}
use Rattle.exec_polling.proofs.{Enlists.{desk_by, own_by}, RegisterSeen.{part_placed, placed_at, polls_placed, seats_placed}}

abbrev placed : ℕ → Chair → Chair
placed n chair = placed_at chair.made n chair

abbrev visible_by : Driving Reply Reply → List ℕ → List (Message Subject Subject) → Visible
visible_by d numbers batch = record { busy = d.ring.busy; landed = landed_in numbers d.ring; wakes = wake_poll_in d.ring; taken = map message_of batch }

-- nothing more is told
desk_same : (w : Worker) (d : Driving Reply Reply) (n : Names) (left left' : Deferred Reply Reply) (batch : List (Message Subject Subject)) → Tells left left' nothing_told → desk_by w d n left' batch ≡ desk_by w d n left batch
desk_same w d n left left' batch tells =
    rw (tells.notes.wakes_added, tells.notes.completions_added, tells.outputs_added, tells.results_added, append-nil left.notes.wakes.items, append-nil left.notes.completions.items, append-nil left.outputs.items, append-nil left.results.items) refl

module _ {B L : Type 0} (left : B → L) (runs : L → Plan → Option ℕ → Type 0) (holds : L → Option Said → List ℕ) (spot : L → Option Said → Spot) (gives : L → Option Sight → Said → Act B → L → Option Sight → Type 0) where
  -- an act that got no memory changed nothing that is seen
  pub refused_by : (t : ℕ) (w w' : Worker) (s s1 s' : Shared B) (a : Act B) → HasActed left runs holds spot gives t w s s1 a → is_last a ≡ false → Refuses t w w' s1 s' → Same left spot w s w' s'
  refused_by t w w' s s1 s' a h on r =
      let m = h.made in
      let d = driver_of w in
      let no_views : Views = record { workers = []; calls = [] } in
      let acted : TaskSlot B = record m.slot { body = Some m.acts.body'; told = None } in
      let it = actor left runs holds spot gives t w s s1 a h in
      let found : slice_get s1.tasks.items t ≡ Some m.slot' = ap (λ ts. slice_get ts t) m.tasks ∙ set_there s.tasks.items t m.slot' m.slot m.there in
      let same : r.slot ≡ acted = same_Some r.slot m.slot' (sym r.there ∙ found) ∙ m.acts.slot in
      let told : TaskSlot B = record m.slot { body = Some m.acts.body'; told = Some (Said.Refused NoMemory) } in
      let is : r.slot' ≡ record told { held = r.slot'.held } = r.same ∙ ap (λ (x : TaskSlot B). record x { held = r.slot'.held; told = Some (Said.Refused NoMemory) }) same in
      let kept : numbers_held r.slot'.held.items ≡ numbers_held m.slot.held.items = r.held ∙ ap (λ (x : TaskSlot B). numbers_held x.held.items) same in
      let back = ((h.asks h.one.0 no_views h.one.2).goes_on on).refused in
      let seen : task_seen left spot r.slot' ≡ task_seen left spot m.slot = ap (task_seen left spot) is ∙ ap (λ xs. record (task_seen left spot told) { held = xs }) kept ∙ unmoved_seen left spot m.slot m.acts.body' it.polled back in
      let items : s'.tasks.items ≡ slice_set s.tasks.items t r.slot' = r.tasks ∙ ap (λ ts. slice_set ts t r.slot') m.tasks ∙ set-set s.tasks.items t m.slot' r.slot' in
      let s2 : Shared B = record s { tasks = s'.tasks } in
      let alike : Same left spot w s w s2 = same_slot left spot t w s s2 m.slot r.slot' m.there seen refl items in
      let requests : s'.requests.items ≡ s.requests.items = r.requests ∙ ap (λ (x : Shared B). x.requests.items) m.kept in
      let sleepers : s'.sleepers.items ≡ s.sleepers.items = r.sleepers ∙ ap (λ (x : Shared B). x.sleepers.items) m.kept in
      let shared : s' ≡ record s { seats = s'.seats; tasks = s'.tasks; requests = s'.requests; sleepers = s'.sleepers; store = s'.store } =
      r.shared ∙ ap (λ (x : Shared B). record x { seats = s'.seats; tasks = s'.tasks; requests = s'.requests; sleepers = s'.sleepers; store = s'.store }) m.kept in
      let mail = r.mails.mail in
      let chair = r.mails.chair in
      let seated : slice_get s.seats.items w.index ≡ Some chair = ap (λ (x : Shared B). slice_get x.seats.items w.index) (sym m.kept) ∙ r.mails.seated in
      let seats : s'.seats.items ≡ slice_set s.seats.items w.index (placed mail.places chair) = r.mails.seats ∙ ap (λ (x : Shared B). slice_set x.seats.items w.index r.mails.chair') m.kept ∙ ap (slice_set s.seats.items w.index) mail.same in
      let n = r.names in
      let batch = w.batch.values in
      let names_desk : desk_by w d w'.names w.home.deferred batch ≡ desk_of w = rw (n.requests, n.timers) refl in
      record {
        own = ap own_of r.worker ∙ ap (λ x. own_by w x w'.names) r.driver ∙ rw (n.requests, n.untold, n.ended, n.unreleased) refl;
        desk = ap desk_of r.worker ∙ ap (λ x. desk_by w x w'.names w'.home.deferred w'.batch.values) r.driver ∙ ap (desk_by w d w'.names w'.home.deferred) mail.values ∙ desk_same w d w'.names w.home.deferred w'.home.deferred batch r.untold ∙ names_desk;
        things = λ vs.
            let x = things_with vs s in
            ap (things_with vs) shared
            ∙ ap (λ qs. record (things_with vs (record s { seats = s'.seats; requests = s'.requests; sleepers = s'.sleepers })) { queues = qs }) (ap (map queue_at) seats ∙ part_placed queue_at chair.made mail.places s.seats.items w.index chair seated refl)
            ∙ ap (λ ws. record (things_with vs (record s { seats = s'.seats; requests = s'.requests; sleepers = s'.sleepers })) { queues = x.queues; words = ws }) (ap (map word_at) seats ∙ part_placed word_at chair.made mail.places s.seats.items w.index chair seated refl)
            ∙ ap (λ bs. record (things_with vs (record s { seats = s'.seats; requests = s'.requests; sleepers = s'.sleepers })) { queues = x.queues; words = x.words; inboxes = bs }) (ap (map inbox_at) seats ∙ part_placed inbox_at chair.made mail.places s.seats.items w.index chair seated refl)
            ∙ ap (λ cs. record (things_with vs (record s { requests = s'.requests; sleepers = s'.sleepers })) { wake_polls = polls_seen vs.workers cs }) seats
            ∙ ap (λ ps. record (things_with vs (record s { requests = s'.requests; sleepers = s'.sleepers })) { wake_polls = ps }) (polls_placed chair.made mail.places vs.workers s.seats.items w.index chair seated)
            ∙ by_records (λ rs zs. record x { gates = map (gate_seen rs) s.opens; answers = numbers_of_passing (λ y. y.sent) 0 rs; alarms = numbers_of_passing (λ z. z.sent) 0 zs }) requests sleepers;
        common = λ p vs.
            let c = common_of left spot p vs s2 in
            ap (common_of left spot p vs) shared
            ∙ ap (λ cs. record c { seats = seats_seen vs.workers cs; requests = map (λ x. x.shown) s'.requests.items; opens = map (open_seen s'.requests.items) s.opens; sleepers = map (λ z. z.shown) s'.sleepers.items }) seats
            ∙ ap (λ xs. record c { seats = xs; requests = map (λ x. x.shown) s'.requests.items; opens = map (open_seen s'.requests.items) s.opens; sleepers = map (λ z. z.shown) s'.sleepers.items }) (seats_placed chair.made mail.places vs.workers s.seats.items w.index chair seated)
            ∙ by_records (λ rs zs. record c { requests = map (λ x. x.shown) rs; opens = map (open_seen rs) s.opens; sleepers = map (λ z. z.shown) zs }) requests sleepers
            ∙ alike.common p vs;
        visible_same = ap visible r.worker ∙ ap (λ x. visible_by x w'.names.requests.items w'.batch.values) r.driver ∙ ap (λ numbers. visible_by d numbers w'.batch.values) n.requests ∙ ap (visible_by d w.names.requests.items) mail.values;
      }
    where
      by_records : {A : Type 0} (f : List Record → List SleeperRecord → A) {rs rs' : List Record} {zs zs' : List SleeperRecord} → rs' ≡ rs → zs' ≡ zs → f rs' zs' ≡ f rs zs
      by_records f {rs} {rs'} {zs} {zs'} one two = ap (λ xs. f xs zs') one ∙ ap (f rs) two
