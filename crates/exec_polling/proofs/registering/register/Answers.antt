use Rattle.std.proofs.{Common.{◌≡◌, ◌++◌, ◌∷◌, [], List, Bool, true, false, if◌then◌else◌, get_or, length, Some, refl, sym, ap, subst, ◌∙◌, is_some, slice_set}, lemmas.{List.set-set, Option.slice_get-get_or}}
use Rattle.exec_request.specs.Requests.{asked_of, deadline_of}
use Rattle.exec_task.specs.declared.body.Said.{Said}
use Rattle.exec_machine.specs.{declared.{event.Event.TheVariants.Admit, state.Operation.Operation}, Requests.{outcome_if_late, new_request, resolved_if}, Tests.is_of_file}
use Rattle.exec_opens.specs.Opens.{OpenState, account_in}
use Rattle.exec_moves.specs.declared.place.{InPoll.InPoll, Place.Place}
use Rattle.exec_invariants.specs.Admitting.{NamesOne, joins_gate, one_made, seeing}
use Rattle.exec_parts.specs.{Records.{file_named, numbers_held, operation_in, outcome_in}, declared.parts.{held.Held.Held, shared.Shared.Shared, task_slot.TaskSlot.TaskSlot, worker.Worker.Worker}, View.account_seen}
use Rattle.exec_polling.proofs.{Enlisting.{named_within, outcome_shown, records_same, seat_counted, seat_is, seat_within, slot_is, slot_room, slot_within}, Growing.{refuses_by, rooms_within}}
use Rattle.exec_polling.proofs.registering.register.Goals as goal

pub returns-in_default-clause-refused : goal.returns-in_default-clause-refused
returns-in_default-clause-refused g c =
    let o = c.index_mut.result.now in
    let there = slice_get-get_or c.admit.new.shared.tasks.items c.args.task o (rooms_within c.in_default.ensures.kept) ∙ ap (λ y. Some y) (sym c.index_mut.ensures.value) in
    refuses_by o c.tell.new.self c.in_default.ensures.kept there (c.tell.ensures ∙ ap (λ said. record o { told = Some said }) c.refused.ensures) refl refl

pub name_record-record-requires-clause-slot : goal.name_record-record-requires-clause-slot
name_record-record-requires-clause-slot g c = named_within c.args.task c.args.request c.in-Ok.id c.args.worker.now c.admit.new.worker c.args.shared.now c.admit.new.shared c.in-Ok.ensures.admitted c.requires.may

pub hold-requires : goal.hold-requires
hold-requires g c =
    let within = slot_within c.args.task c.args.request c.in-Ok.id c.args.worker.now c.admit.new.worker c.args.shared.now c.admit.new.shared c.in-Ok.ensures.admitted in
    let o = c.index_mut-slot.result.now in
    let there = slice_get-get_or c.admit.new.shared.tasks.items c.args.task o within ∙ ap (λ y. Some y) (sym c.index_mut-slot.ensures.value) in
    record { room = slot_room c.args.task c.args.request c.in-Ok.id c.args.worker.now c.admit.new.worker c.args.shared.now c.admit.new.shared c.in-Ok.ensures.admitted o there }

pub count_made-requires : goal.count_made-requires
count_made-requires g c =
    let x = c.admit.new.worker in
    let at : c.name_record-record.new.worker.index ≡ x.index = ap (λ (v : Worker). v.index) c.name_record-record.ensures.same in
    let within = seat_within c.args.task c.args.request c.in-Ok.id c.args.worker.now x c.args.shared.now c.admit.new.shared c.in-Ok.ensures.admitted in
    let chair = c.index_mut-2.result.now in
    let there = slice_get-get_or c.admit.new.shared.seats.items x.index chair within ∙ ap (λ v. Some v) (sym (c.index_mut-2.ensures.value ∙ ap (λ i. get_or c.admit.new.shared.seats.items i chair) at)) in
    seat_counted c.args.task c.args.request c.in-Ok.id c.args.worker.now x c.args.shared.now c.admit.new.shared c.in-Ok.ensures.admitted chair there

-- that its open has more changes by now is told in one field
seeing_deadline : (opens : List OpenState) (o : Operation) → (seeing opens o).deadline ≡ o.deadline
seeing_deadline opens o = by (is_of_file o.kind)
  where
    by : (b : Bool) → (if b then record o { seen = (account_seen (account_in opens (file_named o.target))).mutations } else o).deadline ≡ o.deadline
    by true = refl
    by false = refl

pub returns-clause-made : goal.returns-clause-made
returns-clause-made g c =
    let w = c.args.worker.now in
    let s = c.args.shared.now in
    let q = c.args.request in
    let t = c.in-Ok.ensures.admitted in
    let k = c.len-number.result in
    let x = c.admit.new.worker in
    let y = c.name_record-record.new.worker in
    let all = c.admit.new.shared in
    let within = slot_within c.args.task q c.in-Ok.id w x s all t in
    let o = c.index_mut-slot.result.now in
    let there = slice_get-get_or all.tasks.items c.args.task o within ∙ ap (λ v. Some v) (sym c.index_mut-slot.ensures.value) in
    let is : o ≡ t.rooms.slot' = slot_is c.args.task q c.in-Ok.id w x s all t o there in
    let count : k ≡ length s.requests.items = c.len-number.ensures ∙ (s.requests).ok.0 in
    let before : all.requests.items ≡ s.requests.items = records_same c.args.task q c.in-Ok.id w x s all t in
    let index : x.index ≡ w.index = ap (λ (v : Worker). v.index) t.worker ∙ ap (λ (v : Worker). v.index) t.rooms.worker in
    let at : y.index ≡ x.index = ap (λ (v : Worker). v.index) c.name_record-record.ensures.same in
    let moment : x.moments.sampled ≡ w.moments.sampled = ap (λ (v : Worker). v.moments.sampled) t.worker ∙ ap (λ (v : Worker). v.moments.sampled) t.rooms.worker in
    let operation : c.seeing.result ≡ seeing all.opens (operation_in q) = c.seeing.ensures ∙ ap (seeing all.opens) c.operation_of-operation.ensures in
    let kind : c.operation_of-operation.result.kind ≡ (asked_of q).kind = ap (λ (v : Operation). v.kind) c.operation_of-operation.ensures in
    let deadline : c.seeing.result.deadline ≡ deadline_of q = ap (λ (v : Operation). v.deadline) operation ∙ seeing_deadline all.opens (operation_in q) in
    let late : outcome_if_late x.moments.sampled c.seeing.result.deadline ≡ outcome_if_late w.moments.sampled (deadline_of q) = ap (λ n. outcome_if_late n c.seeing.result.deadline) moment ∙ ap (outcome_if_late w.moments.sampled) deadline in
    let shown : c.name_record-record.result.shown ≡ resolved_if (outcome_if_late w.moments.sampled (deadline_of q)) (new_request w.index (seeing all.opens (operation_in q))) =
    c.name_record-record.ensures.shown ∙ ap (λ l. resolved_if l (new_request x.index c.seeing.result)) late
    ∙ ap (λ n. resolved_if (outcome_if_late w.moments.sampled (deadline_of q)) (new_request n c.seeing.result)) index ∙ ap (λ v. resolved_if (outcome_if_late w.moments.sampled (deadline_of q)) (new_request w.index v)) operation in
    let told : c.tell-2.new.self ≡ record o { held = c.hold.new.self.held; told = Some (Said.Admitted k) } = c.tell-2.ensures ∙ ap (λ (v : TaskSlot g.row.B.Denot). record v { told = Some (Said.Admitted k) }) c.hold.ensures.same in
    let slot : o ≡ record t.rooms.slot { held = o.held } = is ∙ t.rooms.same ∙ ap (λ (v : TaskSlot g.row.B.Denot). record t.rooms.slot { held = v.held }) (sym is) in
    let took : c.tell-2.new.self ≡ record t.rooms.slot { held = c.hold.new.self.held; told = Some (Said.Admitted (length s.requests.items)) } =
    told ∙ ap (λ (v : TaskSlot g.row.B.Denot). record v { held = c.hold.new.self.held; told = Some (Said.Admitted k) }) slot ∙ ap (λ n. record t.rooms.slot { held = c.hold.new.self.held; told = Some (Said.Admitted n) }) count in
    let held : c.tell-2.new.self.held ≡ c.hold.new.self.held = ap (λ (v : TaskSlot g.row.B.Denot). v.held) told in
    let chair = c.index_mut-2.result.now in
    let found = slice_get-get_or all.seats.items x.index chair (seat_within c.args.task q c.in-Ok.id w x s all t) ∙ ap (λ v. Some v) (sym (c.index_mut-2.ensures.value ∙ ap (λ i. get_or all.seats.items i chair) at)) in
    let seated : chair ≡ t.rooms.mails.chair' = seat_is c.args.task q c.in-Ok.id w x s all t chair found in
    let sits : c.count_made.new.self ≡ one_made t.rooms.mails.chair' = c.count_made.ensures ∙ ap one_made seated in
    record {
      id = c.in-Ok.id;
      mid = x;
      all = all;
      takes = t;
      made = c.name_record-record.result;
      named = c.name_record-record.ensures.id;
      shown = shown;
      unsent = c.name_record-record.ensures.sent;
      names = subst (λ n. NamesOne c.in-Ok.id n (is_some (outcome_if_late w.moments.sampled (deadline_of q))) x.names y.names) count
          (subst (λ l. NamesOne c.in-Ok.id k (is_some l) x.names y.names) late c.name_record-record.ensures.names);
      worker = ap (λ (v : Worker). record v { place = Place.Poll c.args.task c.after_admission.result }) c.name_record-record.ensures.same
          ∙ ap (λ (p : InPoll). record x { place = Place.Poll c.args.task p; names = y.names }) (c.after_admission.ensures ∙ ap (joins_gate k) kind ∙ ap (λ n. joins_gate n (asked_of q).kind) count);
      seats = ap (λ i. slice_set all.seats.items i c.count_made.new.self) (at ∙ index) ∙ ap (λ xs. slice_set xs w.index c.count_made.new.self) (ap (λ (v : Shared g.row.B.Denot). v.seats.items) t.shared ∙ t.rooms.mails.seats)
          ∙ set-set s.seats.items w.index t.rooms.mails.chair' c.count_made.new.self ∙ ap (slice_set s.seats.items w.index) sits;
      requests = c.push_reserved.ensures.items ∙ ap (λ xs. xs ++ c.name_record-record.result ∷ []) before;
      slot' = c.tell-2.new.self;
      took = took ∙ ap (λ h. record t.rooms.slot { held = h; told = Some (Said.Admitted (length s.requests.items)) }) (sym held);
      held = ap (λ h. numbers_held h.items) held ∙ c.hold.ensures.held ∙ ap (λ n. numbers_held o.held.items ++ n ∷ []) count ∙ ap (λ xs. xs ++ length s.requests.items ∷ []) (ap (λ (v : TaskSlot g.row.B.Denot). numbers_held v.held.items) is ∙ t.rooms.held);
      having = ap (λ h. h.items) held ∙ c.hold.ensures.all ∙ ap (λ n. o.held.items ++ record { number = n; worker = y.index } ∷ []) count ∙ ap (λ i. o.held.items ++ record { number = length s.requests.items; worker = i } ∷ []) (at ∙ index)
          ∙ ap (λ (xs : List Held). xs ++ record { number = length s.requests.items; worker = w.index } ∷ []) (ap (λ (v : TaskSlot g.row.B.Denot). v.held.items) is ∙ t.rooms.having);
      tasks = ap (λ ts. slice_set ts c.args.task c.tell-2.new.self) (ap (λ (v : Shared g.row.B.Denot). v.tasks.items) t.shared ∙ t.rooms.tasks) ∙ set-set s.tasks.items c.args.task t.rooms.slot' c.tell-2.new.self;
      shared = refl;
      event = ap (λ n. Admit n c.operation_of-operation.result.kind c.outcome.result) count ∙ ap (λ v. Admit (length s.requests.items) v c.outcome.result) kind
          ∙ ap (λ l. Admit (length s.requests.items) (asked_of q).kind l) (c.outcome.ensures ∙ ap (λ v. outcome_in v.phase) shown ∙ outcome_shown (outcome_if_late w.moments.sampled (deadline_of q)) w.index (seeing all.opens (operation_in q)));
    }
