-- An act that makes something: there is room first, and nothing else changes.
use Rattle.std.proofs.{Common.{◌≡◌, ℕ, ◌<◌, List, length, Option, Some, refl, sym, ap, subst, ◌∙◌, arith, slice_get, slice_set, OnOk, Result, Ok, Err}, lemmas.{List.{append-nil, length-set, set-get_or, set-set}, Option.{get_or_from_slice_get, slice_get_within}}}
use Rattle.exec_base.specs.declared.error.Error.TheVariants.{NoMemory}
use Rattle.exec_waiters.specs.{Told.{HasPlaces, Tells, nothing_told}, declared.deferred.Deferred.Deferred}
use Rattle.exec_driver.specs.Admission.{with_rooms}
use Rattle.exec_words.specs.{Reserved.Reserved, declared.inbox.Message.Message}
use Rattle.exec_task.specs.declared.body.Said.{Said}
use Rattle.exec_parts.{specs.{declared.parts.{mail.{Reply.Reply, Subject.Subject}, names.Names.Names, seat.Seat.Seat as Chair, shared.Shared.Shared, task_slot.TaskSlot.TaskSlot, worker.Worker.Worker}, Calls.IsTold, Records.{MakesMail, SameNames, numbers_held}, View.driver_of}, proofs.Facts.{set_there, found_within}}
use Rattle.exec_invariants.specs.Admitting.{MailsRoom, MakesRoom, Refuses}

-- ROOM

-- more room, and nothing more is told
pub told_same : (ended : List ℕ) (left left' : Deferred Reply Reply) (n m : ℕ) → Tells left left' nothing_told → HasPlaces left' m → IsTold ended left n → IsTold ended left' m
told_same ended left left' n m tells room told =
    assumption (told.resources ∙ sym (ap length (tells.resources_added ∙ append-nil left.resources.items)), room)

pub untold_self : (left : Deferred Reply Reply) → Tells left left nothing_told
untold_self left =
    record {
      notes = record {
        wakes_added = sym (append-nil left.notes.wakes.items);
        completions_added = sym (append-nil left.notes.completions.items);
        wakes_memory = omega arith;
        completions_memory = omega arith;
      };
      outputs_added = sym (append-nil left.outputs.items);
      resources_added = sym (append-nil left.resources.items);
      results_added = sym (append-nil left.results.items);
      outputs_memory = omega arith;
      resources_memory = omega arith;
      results_memory = omega arith;
    }

pub same_names : (n : Names) → SameNames n n
same_names n = record { requests = refl; timers = refl; ended = refl; ended_room = omega arith; staged = refl; untold = refl; unreleased = refl }

-- once what may be told has room
pub reserved_worker : (w x y : Worker) (n : Names) (b : Reserved (Message Subject Subject)) → x ≡ record w { names = n; batch = b } → y ≡ record x { home = record x.home { deferred = y.home.deferred } }
    → y ≡ record w { names = y.names; batch = y.batch; home = record w.home { deferred = y.home.deferred } }
reserved_worker w x y n b is same =
    let now : y ≡ record w { names = n; batch = b; home = record w.home { deferred = y.home.deferred } } = same ∙ ap (λ (v : Worker). record v { home = record v.home { deferred = y.home.deferred } }) is in
    subst (λ (v : Worker). v ≡ record w { names = v.names; batch = v.batch; home = record w.home { deferred = v.home.deferred } }) (sym now) refl

-- its inbox and its batch are as they were
pub mail_same : (chair : Chair) (batch : Reserved (Message Subject Subject)) → MakesMail chair chair batch batch
mail_same chair batch = record { places = chair.mailbox.inbox.places; same = refl; more = omega arith; values = refl; batch_more = omega arith }

pub okay_if : {A E P Q : Type 0} (r : Result A E) → OnOk r P → (P → Q) → OnOk r Q
okay_if (Ok a) h then_so = then_so h
okay_if (Err e) h then_so = tt

-- nothing is told by two that tell nothing
pub tells_none : (a b c : Deferred Reply Reply) → Tells a b nothing_told → Tells b c nothing_told → Tells a c nothing_told
tells_none a b c x y =
    record {
      notes = record {
        wakes_added = y.notes.wakes_added ∙ append-nil b.notes.wakes.items ∙ x.notes.wakes_added;
        completions_added = y.notes.completions_added ∙ append-nil b.notes.completions.items ∙ x.notes.completions_added;
        wakes_memory = omega (arith, x.notes.wakes_memory, y.notes.wakes_memory);
        completions_memory = omega (arith, x.notes.completions_memory, y.notes.completions_memory);
      };
      outputs_added = y.outputs_added ∙ append-nil b.outputs.items ∙ x.outputs_added;
      resources_added = y.resources_added ∙ append-nil b.resources.items ∙ x.resources_added;
      results_added = y.results_added ∙ append-nil b.results.items ∙ x.results_added;
      outputs_memory = omega (arith, x.outputs_memory, y.outputs_memory);
      resources_memory = omega (arith, x.resources_memory, y.resources_memory);
      results_memory = omega (arith, x.results_memory, y.results_memory);
    }

module _ {B : Type 0} where
  pub mails_same : {w w' : Worker} {s s' : Shared B} → w.index < length s.seats.items → w'.batch ≡ w.batch → s'.seats.items ≡ s.seats.items → MailsRoom w w' s s'
  mails_same {w} {w'} {s} {s'} within batch seats =
      let it = found_within s.seats.items w.index within in
      record {
        chair = it.0;
        seated = it.1;
        chair' = it.0;
        mail = subst (λ b. MakesMail it.0 it.0 w.batch b) (sym batch) (mail_same it.0 w.batch);
        seats = seats ∙ sym (ap (slice_set s.seats.items w.index) (sym (get_or_from_slice_get s.seats.items w.index it.0 it.0 it.1)) ∙ set-get_or s.seats.items w.index it.0);
      }

  pub mails_made : {w w' : Worker} {s s' : Shared B} (chair chair' : Chair) → slice_get s.seats.items w.index ≡ Some chair → MakesMail chair chair' w.batch w'.batch → s'.seats.items ≡ slice_set s.seats.items w.index chair' → MailsRoom w w' s s'
  mails_made {w} {w'} {s} {s'} chair chair' seated mail seats = record { chair = chair; seated = seated; chair' = chair'; mail = mail; seats = seats }

  -- where the slot got room
  pub rooms_slot : {t : ℕ} {w w' : Worker} {s s' : Shared B} (slot slot' : TaskSlot B) → slice_get s.tasks.items t ≡ Some slot → slot' ≡ record slot { held = slot'.held } → slot'.held.items ≡ slot.held.items → s'.tasks.items ≡ slice_set s.tasks.items t slot'
      → w' ≡ record w { names = w'.names; batch = w'.batch; home = record w.home { deferred = w'.home.deferred } } → SameNames w.names w'.names → Tells w.home.deferred w'.home.deferred nothing_told → MailsRoom w w' s s'
      → s' ≡ record s { seats = s'.seats; tasks = s'.tasks; requests = s'.requests; sleepers = s'.sleepers } → s'.requests.items ≡ s.requests.items → s'.sleepers.items ≡ s.sleepers.items → MakesRoom t (λ slot. slot.told) w w' s s'
  rooms_slot {t} {w} {w'} {s} {s'} slot slot' there same held tasks worker names tells mails shared requests sleepers =
      record {
        worker = subst (λ (x : Worker). x ≡ record w { names = x.names; batch = x.batch; home = record w.home { driver = x.home.driver; deferred = x.home.deferred } }) (sym worker) refl;
        names = names;
        driver = subst (λ (x : Worker). driver_of x ≡ with_rooms (driver_of x) (driver_of w)) (sym worker) refl;
        untold = tells;
        shared = subst (λ (x : Shared B). x ≡ record s { seats = x.seats; tasks = x.tasks; requests = x.requests; sleepers = x.sleepers; store = x.store }) (sym shared) refl;
        mails = mails;
        requests = requests;
        sleepers = sleepers;
        slot = slot;
        there = there;
        slot' = slot';
        same = subst (λ (x : TaskSlot B). x ≡ record slot { held = x.held; told = slot.told }) (sym same) refl;
        held = ap numbers_held held;
        having = held;
        tasks = tasks;
      }

  -- where the tasks stay
  pub rooms_kept : {t : ℕ} {w w' : Worker} {s s' : Shared B} → t < length s.tasks.items → w' ≡ record w { names = w'.names; batch = w'.batch; home = record w.home { deferred = w'.home.deferred } }
      → SameNames w.names w'.names → Tells w.home.deferred w'.home.deferred nothing_told → MailsRoom w w' s s' → s' ≡ record s { seats = s'.seats; requests = s'.requests; sleepers = s'.sleepers }
      → s'.requests.items ≡ s.requests.items → s'.sleepers.items ≡ s.sleepers.items → MakesRoom t (λ slot. slot.told) w w' s s'
  rooms_kept {t} {w} {w'} {s} {s'} within worker names tells mails shared requests sleepers =
      let at_t = found_within s.tasks.items t within in
      let back : slice_set s.tasks.items t at_t.0 ≡ s.tasks.items = ap (slice_set s.tasks.items t) (sym (get_or_from_slice_get s.tasks.items t at_t.0 at_t.0 at_t.1)) ∙ set-get_or s.tasks.items t at_t.0 in
      rooms_slot at_t.0 at_t.0 at_t.1 refl refl (ap (λ (x : Shared B). x.tasks.items) shared ∙ sym back) worker names tells mails
      (subst (λ (x : Shared B). x ≡ record s { seats = x.seats; tasks = x.tasks; requests = x.requests; sleepers = x.sleepers }) (sym shared) refl) requests sleepers

  pub rooms_within : {t : ℕ} {f : TaskSlot B → Option Said} {w w' : Worker} {s s' : Shared B} → MakesRoom t f w w' s s' → t < length s'.tasks.items
  rooms_within {t} {f} {w} {w'} {s} {s'} r = rw (r.tasks, length-set) (slice_get_within s.tasks.items t r.slot r.there)

  -- its slot then
  pub rooms_there : {t : ℕ} {f : TaskSlot B → Option Said} {w w' : Worker} {s s' : Shared B} (r : MakesRoom t f w w' s s') (o : TaskSlot B) → slice_get s'.tasks.items t ≡ Some o → o ≡ r.slot'
  rooms_there {t} {f} {w} {w'} {s} {s'} r o there = cc (there, ap (λ ts. slice_get ts t) r.tasks ∙ set_there s.tasks.items t r.slot' r.slot r.there)

  -- and then it is told that there was no memory
  pub refuses_by : {t : ℕ} {w w' : Worker} {s s' s'' : Shared B} (o new : TaskSlot B) → MakesRoom t (λ slot. slot.told) w w' s s' → slice_get s'.tasks.items t ≡ Some o → new ≡ record o { told = Some (Said.Refused NoMemory) }
      → s'' ≡ record s' { tasks = s''.tasks } → s''.tasks.items ≡ slice_set s'.tasks.items t new → Refuses t w w' s s''
  refuses_by {t} {w} {w'} {s} {s'} {s''} o new r there tells shared tasks =
      let is : o ≡ r.slot' = rooms_there r o there in
      let now : new ≡ record r.slot { held = o.held; told = Some (Said.Refused NoMemory) } =
      tells ∙ ap (λ (x : TaskSlot B). record x { told = Some (Said.Refused NoMemory) }) (is ∙ r.same ∙ ap (λ (x : TaskSlot B). record r.slot { held = x.held; told = r.slot.told }) (sym is)) in
      let all : s'' ≡ record s { seats = s'.seats; tasks = s''.tasks; requests = s'.requests; sleepers = s'.sleepers; store = s'.store } = shared ∙ ap (λ (x : Shared B). record x { tasks = s''.tasks }) r.shared in
      record {
        worker = r.worker;
        names = r.names;
        driver = r.driver;
        untold = r.untold;
        shared = subst (λ (x : Shared B). x ≡ record s { seats = x.seats; tasks = s''.tasks; requests = x.requests; sleepers = x.sleepers; store = x.store }) (sym all) refl;
        mails = mails_made r.mails.chair r.mails.chair' r.mails.seated r.mails.mail (ap (λ (x : Shared B). x.seats.items) all ∙ r.mails.seats);
        requests = ap (λ (x : Shared B). x.requests.items) all ∙ r.requests;
        sleepers = ap (λ (x : Shared B). x.sleepers.items) all ∙ r.sleepers;
        slot = r.slot;
        there = r.there;
        slot' = new;
        same = subst (λ (x : TaskSlot B). x ≡ record r.slot { held = x.held; told = Some (Said.Refused NoMemory) }) (sym now) refl;
        held = ap (λ (x : TaskSlot B). numbers_held x.held.items) now ∙ ap (λ (x : TaskSlot B). numbers_held x.held.items) is ∙ r.held;
        having = ap (λ (x : TaskSlot B). x.held.items) now ∙ ap (λ (x : TaskSlot B). x.held.items) is ∙ r.having;
        tasks = tasks ∙ ap (λ ts. slice_set ts t new) r.tasks ∙ set-set s.tasks.items t r.slot' new;
      }

  -- where the driver refused
  pub rooms_refused : {t : ℕ} {w mid w' : Worker} {s all s' : Shared B} → MakesRoom t (λ slot. slot.told) w mid s all → driver_of w' ≡ with_rooms (driver_of w') (driver_of mid) → Tells mid.home.deferred w'.home.deferred nothing_told
      → w' ≡ record mid { home = record mid.home { driver = w'.home.driver; deferred = w'.home.deferred } } → s' ≡ record all { opens = s'.opens; store = s'.store } → s'.opens ≡ all.opens → MakesRoom t (λ slot. slot.told) w w' s s'
  rooms_refused {t} {w} {mid} {w'} {s} {all} {s'} r driver tells worker shared opens =
      let flat : w' ≡ record w { names = mid.names; batch = mid.batch; home = record w.home { driver = w'.home.driver; deferred = w'.home.deferred } } =
      worker ∙ ap (λ (x : Worker). record x { home = record x.home { driver = w'.home.driver; deferred = w'.home.deferred } }) r.worker in
      let names : w'.names ≡ mid.names = ap (λ (x : Worker). x.names) flat in
      let batch : w'.batch ≡ mid.batch = ap (λ (x : Worker). x.batch) flat in
      let same : s' ≡ record s { seats = all.seats; tasks = all.tasks; requests = all.requests; sleepers = all.sleepers; store = s'.store } =
      shared ∙ ap (λ os. record all { opens = os; store = s'.store }) opens ∙ ap (λ (x : Shared B). record x { store = s'.store }) r.shared in
      record {
        worker = subst (λ (x : Worker). x ≡ record w { names = x.names; batch = x.batch; home = record w.home { driver = x.home.driver; deferred = x.home.deferred } }) (sym flat) refl;
        names = subst (λ n. SameNames w.names n) (sym names) r.names;
        driver = driver ∙ ap (with_rooms (driver_of w')) r.driver;
        untold = tells_none w.home.deferred mid.home.deferred w'.home.deferred r.untold tells;
        shared = subst (λ (x : Shared B). x ≡ record s { seats = x.seats; tasks = x.tasks; requests = x.requests; sleepers = x.sleepers; store = x.store }) (sym same) refl;
        mails = mails_made r.mails.chair r.mails.chair' r.mails.seated (subst (λ b. MakesMail r.mails.chair r.mails.chair' w.batch b) (sym batch) r.mails.mail) (ap (λ (x : Shared B). x.seats.items) same ∙ r.mails.seats);
        requests = ap (λ (x : Shared B). x.requests.items) same ∙ r.requests;
        sleepers = ap (λ (x : Shared B). x.sleepers.items) same ∙ r.sleepers;
        slot = r.slot;
        there = r.there;
        slot' = r.slot';
        same = r.same;
        held = r.held;
        having = r.having;
        tasks = ap (λ (x : Shared B). x.tasks.items) same ∙ r.tasks;
      }
