-- What holds of the worker whose task made one with a worker of its own, of the newcomer, and of all together.
use Rattle.std.{proofs.{Common.{[], ◌≡◌, ◌≢◌, ℕ, suc, ◌+◌, ◌*◌, ◌<◌, ◌≤◌, ◌^◌, ◌==◌, arith, true, false, Contains, ◌∷◌, length, nat_lt, option_map, Some, None, refl, sym, ap, subst, ◌∙◌, slice_get}, lemmas.{Bool.{eq-eqb, Decides.nat_tests}, List.{length-map}, Option.{slice_get_within, slice_get-map}}}}
use Rattle.exec_base.specs.declared.slab.Id.{Id}
use Rattle.exec_waiters.specs.{States.waiter_at, declared.waiter.Waiter.{Waiter}}
use Rattle.exec_task.specs.{Phases.{runnable_of}, declared.{runnable.Runnable.Runnable}}
use Rattle.exec_request.specs.declared.request.Request.{Request as Asking}
use Rattle.exec_driver.specs.Footprints.{bytes_left}
use Rattle.exec_moves.specs.{declared.place.{InPoll.InPoll, Place.Place}}
use Rattle.exec_parts.{specs.{declared.parts.{mail.Reply.Reply, record.Record.Record, role.Role.Role, seat.Seat.Seat as Chair, shared.Shared.Shared, sleeping.SleeperRecord.SleeperRecord, task_slot.TaskSlot.TaskSlot, worker.Worker.Worker}, Dedicated.{Begins as BeginsWorker, root_slot}, Phased.{IsPhased, closes_at, closing_in, stage_of}, Records.IsFreshSeat, View.driver_of}, proofs.Facts.{not_same, same_Some}}
use Rattle.exec_invariants.{specs.{Holding.{box_of, nap_of, thing_of}, Carried.{HasRoom, HasStretchFor}, Sound.{AreHome, HasQueue, IsRole, IsSeated, Sound, SoundAt}, Whole.{HasWhole, IsWhole, Profile, with_worker}}, proofs.{Polling.on_in_poll, SlotTasks.{Tasked, sound_tasked}, Turning.homes_more}}
use Rattle.exec_polling.proofs.{Begun.{begun_sound, HasSeat, IsQuiet, left_quiet}, DedicatedJoins.{HasNewcomer, JoinsRoot, homes_grown, more_seats, resting_grown, whole_grown}, SpawnLists.{found_again, found_last}}

-- WHAT HOLDS OF THE WORKER whose task made it

module _ {B : Type 0} where
  module _ (t : ℕ) (w : Worker) (s s' : Shared B) (it : JoinsRoot s s') (sound : SoundAt (Place.Poll t InPoll.Act) w s) where
    abbrev q : Place
    q = Place.Poll t InPoll.Act

    seat_again : (k : ℕ) (c : Chair) → slice_get s.seats.items k ≡ Some c → slice_get s'.seats.items k ≡ Some c
    seat_again k c found = ap (λ xs. slice_get xs k) it.seats ∙ found_again s.seats.items (it.chair ∷ []) k c found

    own_same : (chair : Chair) → slice_get s'.seats.items w.index ≡ Some chair → sound.seated.seat ≡ chair
    own_same chair there = same_Some sound.seated.seat chair (sym (seat_again w.index sound.seated.seat sound.seated.there) ∙ there)

    -- there is one more seat
    seated_grown : SoundAt q w (record s { seats = s'.seats })
    seated_grown =
        let seat = sound.seated.seat in
        let there = sound.seated.there in
        let many : length s'.seats.items ≡ suc (length s.seats.items) = more_seats s s' it in
        let seated : IsSeated w.index false s.config.workers s'.seats.items = record { many = omega (arith, many, sound.seated.many); pool = sound.seated.pool; seat = seat; there = seat_again w.index seat there; unarmed = sound.seated.unarmed; mail = sound.seated.mail } in
        let queue : (chair : Chair) → slice_get s'.seats.items w.index ≡ Some chair → HasQueue q chair.queue = λ chair at. subst (λ (c : Chair). HasQueue q c.queue) (own_same chair at) (sound.queue seat there) in
        let batch_place : (chair : Chair) → slice_get s'.seats.items w.index ≡ Some chair → chair.mailbox.inbox.closed ≡ false → 2 * chair.made + 1 ≤ w.batch.places = grind (arith, own_same, seat) in
        let phased : (chair : Chair) → slice_get s'.seats.items w.index ≡ Some chair → IsPhased w.index (closes_at q) (closing_in q) w.home.closing w.root w.names.unreleased (stage_of chair s) s.tasks.items = λ chair at.
        subst (λ c. IsPhased w.index (closes_at q) (closing_in q) w.home.closing w.root w.names.unreleased (stage_of c s) s.tasks.items) (own_same chair at) (sound.phased seat there) in
        let homes : AreHome s.config.workers (length s'.seats.items) s.tasks.items = homes_more s.config.workers (length s.seats.items) (length s'.seats.items) s.tasks.items (omega (arith, many)) sound.homes in
        assumption (seated, queue, batch_place, phased, homes, sound)

    back : (k : ℕ) (o : TaskSlot B) → slice_get s.tasks.items k ≡ Some o → slice_get s'.tasks.items k ≡ Some o
    back k o found = ap (λ xs. slice_get xs k) it.items ∙ found_again s.tasks.items (it.new ∷ []) k o found

    root_was : (o : TaskSlot B) → slice_get s'.tasks.items w.root ≡ Some o → slice_get s.tasks.items w.root ≡ Some o
    root_was o found = sound.runnable.there ∙ ap (λ (y : TaskSlot B). Some y) (same_Some sound.runnable.root o (sym (back w.root sound.runnable.root sound.runnable.there) ∙ found))

    tasked : Tasked q w w.root_ready None (record s { seats = s'.seats }) s'.tasks.items
    tasked =
        let run = sound.runnable in
        record {
          pooled = sound.pooled;
          serves = sound.serves;
          homes = homes_grown s s' it s.config.workers sound.homes;
          runnable = record { root = run.root; there = back w.root run.root run.there; home = run.home; number = run.number; once = run.once; one = run.one };
          hand = refl;
          genuine = λ r has. absurd (nothing_in r has);
          guest = λ apart. let g = sound.guest apart in (g.0, back t g.0 g.1, g.2);
          resting = resting_grown s s' it sound.resting;
          stops = λ o found. tt;
          going = λ o found. (sound.phased sound.seated.seat sound.seated.there).root o (root_was o found);
          stands = λ o found. sound.tied.stands o (root_was o found);
        }
      where
        nothing_in : (r : Runnable) → Contains [] r → ⊥
        nothing_in r (k, few, is) = omega (arith, few)

    stretch_kept : (a : Asking) → HasStretchFor a s.store → HasStretchFor a s'.store
    stretch_kept (Asking.WriteAt y) h = λ is. it.store.files.stretches y.file y.offset (bytes_left y.write) (h is)
    stretch_kept _ h = tt

    pub sound_grown : SoundAt q w s'
    sound_grown =
        let places = s'.global.places in
        let store = s'.store in
        let mid : Shared B = record s { seats = s'.seats; tasks = s'.tasks } in
        let still : record w { place = q; root_ready = w.root_ready; hand = None } ≡ w = ap (λ o. record w { place = q; hand = o }) (sym sound.hand) ∙ ap (λ y. record w { place = y }) (sym sound.here) in
        let first : SoundAt q w mid = subst (λ v. SoundAt q v mid) still (sound_tasked t InPoll.Act q w w.root_ready None (record s { seats = s'.seats }) s' seated_grown (on_in_poll t InPoll.Act refl refl) tasked) in
        let was = first.carried in
        let room : HasRoom s.requests.items store = λ out socket. rw (it.store.sockets socket) (was.room out socket) in
        let stretch : (id : Id) (x : Waiter Reply Reply) → waiter_at (driver_of w).requests id ≡ Some x → HasStretchFor x.request store = λ id x live. stretch_kept x.request (was.stretch id x live) in
        let there : SoundAt q w (record mid { global = record s.global { places = places }; store = store }) = assumption (room, stretch, first) in
        subst (SoundAt q w) (sym it.kept) there

    -- and of the newcomer, whose root is the new task
    module _ (v : Worker) (body : B) (owner : ℕ) (begins : BeginsWorker s.config Role.Dedicated (length s.seats.items) (length s.tasks.items) (runnable_of it.new.cell) s.clock v) (is_root : it.new ≡ root_slot (record { 0 = length s.tasks.items }) owner (length s.seats.items) body it.new) (few : length s.seats.items + 1 < 2 ^ 32) (has : HasWhole w s) where
      abbrev i : ℕ
      i = length s.seats.items

      past : s.config.workers ≤ i
      past = sound.homes.many

      configured : s'.config ≡ s.config
      configured = ap (λ (z : Shared B). z.config) it.kept

      timed : s'.clock ≡ s.clock
      timed = ap (λ (z : Shared B). z.clock) it.kept

      seat : HasSeat Role.Dedicated i (length s.tasks.items) (runnable_of it.new.cell) s'
      seat =
          let far : nat_lt i s.config.workers ≡ false = grind (arith, nat_tests, past) in
          let grown = sound_grown in
          let of_role : IsRole Role.Dedicated i s'.config.workers = rw configured (record { owns = not_zero; pool = sym far; few = omega (arith, few) }) in
          let seated : slice_get s'.seats.items i ≡ Some it.chair = ap (λ xs. slice_get xs i) it.seats ∙ found_last s.seats.items it.chair in
          let fresh : IsFreshSeat (nat_lt i s'.config.workers) it.chair = rw (configured, far) it.fresh in
          let there : slice_get s'.tasks.items (length s.tasks.items) ≡ Some it.new = ap (λ xs. slice_get xs (length s.tasks.items)) it.items ∙ found_last s.tasks.items it.new in
          let nothing : (k : ℕ) (x : Record) → slice_get s'.requests.items k ≡ Some x → x.shown.worker ≢ i = λ k x found own.
          let there : slice_get s.requests.items k ≡ Some x = ap (λ (z : Shared B). slice_get z.requests.items k) (sym it.kept) ∙ found in
          let within = has.whole.holding.of_worker k (thing_of x) (slice_get-map thing_of s.requests.items k ∙ ap (option_map thing_of) there) in
          omega (arith, within, length-map s.seats.items box_of, own) in
          let nobody : (k : ℕ) (z : SleeperRecord) → slice_get s'.sleepers.items k ≡ Some z → z.shown.worker ≢ i = λ k z found own.
          let there : slice_get s.sleepers.items k ≡ Some z = ap (λ (y : Shared B). slice_get y.sleepers.items k) (sym it.kept) ∙ found in
          let within = has.whole.holding.of_worker_too k (nap_of z) (slice_get-map nap_of s.sleepers.items k ∙ ap (option_map nap_of) there) in
          omega (arith, within, length-map s.seats.items box_of, own) in
          let at_zero : i ≡ 0 → (s'.stopped ≡ false) × (s'.set.closed ≡ false) = λ zero. absurd (omega (arith, zero, past, sound.config.workers)) in
          let closed = (grown.phased (own_seat grown).0 (own_seat grown).1).closed in
          search (of_role, seated, fresh, there, is_root, nothing, nobody, at_zero, closed, grown)
        where
          own_seat : SoundAt q w s' → (chair : Chair) × (slice_get s'.seats.items w.index ≡ Some chair)
          own_seat grown = (grown.seated.seat, grown.seated.there)

          not_zero : false ≡ (i == 0)
          not_zero = sym (not_same i 0 (λ zero. omega (arith, zero, past, sound.config.workers)))

      pub newcomer_sound : Sound v s'
      newcomer_sound = begun_sound Role.Dedicated i (length s.tasks.items) (runnable_of it.new.cell) s' v (rw (configured, timed) begins) seat

      -- it has nothing that parties count
      quiet : IsQuiet v.home.deferred
      quiet = left_quiet v.home.deferred begins.untold

      newcomer : (others : Profile) → HasNewcomer i (with_worker others w) (with_worker (with_worker others v) w)
      newcomer others =
          let apart : w.index ≢ i = λ same. let within = slice_get_within s.seats.items w.index sound.seated.seat sound.seated.there in omega (arith, within, same) in
          let is : v.index ≡ i = ap (λ (x : Worker). x.index) begins.parts in
          let place : v.place ≡ Place.BeginTurn = ap (λ (x : Worker). x.place) begins.parts in
          let hand : v.hand ≡ None = ap (λ (x : Worker). x.hand) begins.parts in
          let loot : v.loot.values ≡ [] = ap (λ (x : Worker). x.loot.values) begins.parts in
          let searching : v.searching ≡ false = ap (λ (x : Worker). x.searching) begins.parts in
          let batch : v.batch.values ≡ [] = ap (λ (x : Worker). x.batch.values) begins.parts in
          let here : (i == i) ≡ true = eq-eqb i i refl in
          let not_mine : (i == w.index) ≡ false = not_same i w.index (λ same. apart (sym same)) in
          grind (arith, is, not_same, not_mine, here, place, quiet.wakes)

      pub whole_with : (others : Profile) → IsWhole (with_worker others w) s → IsWhole (with_worker (with_worker others v) w) s'
      whole_with others whole = whole_grown s s' it (with_worker others w) (with_worker (with_worker others v) w) (newcomer others) past whole
