-- What a worker leaves of others that has made a request or a sleeper for the task that it polls.
use Rattle.std.proofs.{Common.{◌≡◌, ◌≢◌, inl, inr, ℕ, ◌+◌, ◌==◌, Bool, true, false, ◌++◌, count_by, map, Some, refl, sym, ap, subst, ◌∙◌, arith, slice_get, if◌then◌else◌}}
use Rattle.exec_ring.specs.Stores.{HasStretch}
use Rattle.exec_task.specs.{declared.{task.Task.Task as TaskCell}}
use Rattle.exec_moves.specs.declared.place.{InPoll.InPoll, Place.Place}
use Rattle.exec_parts.{specs.{declared.parts.{record.Record.Record, seat.Seat.Seat as Chair, shared.Shared.Shared, sleeping.SleeperRecord.SleeperRecord, task_slot.TaskSlot.TaskSlot, worker.Worker.Worker}}}
use Rattle.exec_invariants.{specs.{Drained.{IsPool}, Carried.HasRoom, Gates.{AreLinedUp, HaveGates, JoinsGate, has_hint_at}, Holding.{mail_in, mail_of_letters}, Places.{Drops, drops_at}, Sound.SoundAt, Spares.{RecordsEndure, SleepersEndure, SparedRecords, SparedSleepers, Spares, SparesChair, SparesRecords, SparesSleepers}, Whole.{IsWhole, Profile, duties_of, with_worker}, Works.Beside}, proofs.{Aside.{SparesSeats, profile_same, queue_of_chair, queues_set, seats_own}, GateJoins.pool_drops, HoldBeside.{Handles, Holds, dealt_in, whole_handled}, PoolKept.{KeepsGates, gates_set}, Slots.spares_slot, SlotTasks.Keeps, SparedRecord.{sleeper_spared, spared_same}, TaskDeals.{GoesOn, from_act, profile_here}}}
use Rattle.exec_polling.proofs.RegisterSound.{Makes, made_at}

module _ {B : Type 0} (t : ℕ) (w v : Worker) (s s' : Shared B) (slot slot' : TaskSlot B) (sound : SoundAt (Place.Poll t InPoll.Act) w s) (m : Makes w v s (record s' { tasks = s.tasks })) (handles : Handles t s s' slot slot') where
  pub all_kept : s' ≡ dealt_in s s'
  all_kept = ap (λ (x : Shared B). record x { tasks = s'.tasks }) m.shared

  -- OTHERS rely on what is theirs
  pub spares_made : (slot.poller ≡ w.index) → ((j : ℕ) → slot.home ≡ Some j → j ≡ w.index) → ((file : ℕ) → has_hint_at s.opens file ≡ false → has_hint_at s'.opens file ≡ false) → ((file offset n : ℕ) → HasStretch s.store file offset n → HasStretch s'.store file offset n)
      → (j : ℕ) → j ≢ w.index → Spares j s s'
  spares_made poller home hints stretch j other =
      let keeps : Keeps slot slot' = record { home = handles.home; number = ap (λ (c : TaskCell B). c.number) handles.cell; owner = ap (λ (c : TaskCell B). c.owner) handles.cell } in
      let b : Spares j s (record s { tasks = s'.tasks }) = spares_slot w.index j t s s' slot slot' other handles.there handles.items keeps (λ is. other (home j is)) (λ polled mine. absurd (other (sym mine ∙ poller))) sound.homes in
      let seats : SparesSeats w.index s.seats.items s'.seats.items = seats_own w.index s.seats.items s'.seats.items m.seat.chair (made_at m.seat.places m.seat.chair) m.seat.set m.seat.there (omega arith) in
      let gates : AreLinedUp s.opens s.requests.items → AreLinedUp s'.opens s'.requests.items = λ h. m.lined in
      let chair : (c : Chair) → slice_get s.seats.items j ≡ Some c → (c' : Chair) × (slice_get s'.seats.items j ≡ Some c') × SparesChair c c' = λ c at. seats.chair j c other at in
      let records : SparesRecords j s.requests.items s'.requests.items = λ k r at mine. (r, m.records.on k r at, spared_same r) in
      let records_only : SparedRecords j s.requests.items s'.requests.items = λ k r at mine. (r, record_was k r at mine, spared_same r) in
      let sleepers : SparesSleepers j s.sleepers.items s'.sleepers.items = λ k z at mine. (z, m.sleepers.on k z at, sleeper_spared z) in
      let sleepers_only : SparedSleepers j s.sleepers.items s'.sleepers.items = λ k z at mine. (z, sleeper_was k z at mine, sleeper_spared z) in
      let endure : RecordsEndure s.requests.items s'.requests.items = λ k r at. (r, m.records.on k r at, record { worker = refl; forwarded = λ h. h }) in
      let endure_too : SleepersEndure s.sleepers.items s'.sleepers.items = λ k z at. (z, m.sleepers.on k z at, record { worker = refl; forwarded = λ h. h }) in
      let room : HasRoom s.requests.items s.store → HasRoom s'.requests.items s'.store = λ h. m.keeps.carried.room in
      let done : Spares j s (dealt_in s s') = assumption (gates, chair, records, records_only, sleepers, sleepers_only, endure, endure_too, room, hints, stretch, seats, b) in
      subst (Spares j s) (sym all_kept) done
    where
      record_was : (k : ℕ) (r : Record) → slice_get s'.requests.items k ≡ Some r → r.shown.worker ≡ j → slice_get s.requests.items k ≡ Some r
      record_was k r at mine = elim (m.records.back k r at) [ inl was ↦ was | inr own ↦ absurd (other (sym mine ∙ own)) ]

      sleeper_was : (k : ℕ) (z : SleeperRecord) → slice_get s'.sleepers.items k ≡ Some z → z.shown.worker ≡ j → slice_get s.sleepers.items k ≡ Some z
      sleeper_was k z at mine = elim (m.sleepers.back k z at) [ inl was ↦ was | inr own ↦ absurd (other (sym mine ∙ own)) ]

  -- THE BALANCES
  gates : KeepsGates s.seats.items s'.seats.items
  gates = grind (arith, gates_set, made_at)

  queues : map queue_of_chair s'.seats.items ≡ map queue_of_chair s.seats.items
  queues = ap (map queue_of_chair) m.seat.set ∙ queues_set s.seats.items w.index m.seat.chair (made_at m.seat.places m.seat.chair) m.seat.there refl

  pub whole_made : (x : Profile) → (Holds x s → Holds x s') → (HaveGates x.drops_by s.opens s.requests.items → HaveGates x.drops_by s'.opens s'.requests.items) → IsWhole x s → IsWhole x s'
  whole_made x holds lines whole =
      subst (IsWhole x) (sym all_kept) (whole_handled t w.index s s' slot slot' x handles gates queues (lines whole.gates) (subst (Holds x) all_kept (holds whole.holding)) whole)

  -- what the worker has of them is as it was
  pub profile_made : (y : InPoll) → GoesOn t y → (others : Profile) → with_worker others (record v { place = Place.Poll t y }) ≡ with_worker others w
  profile_made y on others =
      let w1 : Worker = record w { place = Place.Poll t y } in
      let wakes : v.home.deferred.notes.wakes.items ≡ w.home.deferred.notes.wakes.items = m.wakes ∙ sym (sound.quiet refl) in
      ap (λ (z : Worker). with_worker others (record z { place = Place.Poll t y })) m.worker
      ∙ ap (λ ms. record (with_worker others w1) { mail = λ x. others.mail x + mail_in x (mail_of_letters w.letters ++ ms); wakes = λ j u. if j == w.index then count_by (λ n. n.0 == u) v.home.deferred.notes.wakes.items else others.wakes j u }) m.batch
      ∙ ap (λ ws. record (with_worker others w1) { wakes = λ j u. if j == w.index then count_by (λ n. n.0 == u) ws else others.wakes j u }) wakes
      ∙ profile_same others w w1 (profile_here InPoll.Act y t w (from_act t) on sound.here)

  pub beside_made : (y : InPoll) → GoesOn t y → (slot.poller ≡ w.index) → ((j : ℕ) → slot.home ≡ Some j → j ≡ w.index) → ((file : ℕ) → has_hint_at s.opens file ≡ false → has_hint_at s'.opens file ≡ false) → ((file offset n : ℕ) → HasStretch s.store file offset n → HasStretch s'.store file offset n)
      → ((others : Profile) → Holds (with_worker others w) s → Holds (with_worker others w) s') → ((others : Profile) → HaveGates (with_worker others w).drops_by s.opens s.requests.items → HaveGates (with_worker others w).drops_by s'.opens s'.requests.items)
      → Beside w s (record v { place = Place.Poll t y }) s'
  beside_made y on poller home hints stretch holds lines =
      record {
        spares = spares_made poller home hints stretch;
        whole = λ others whole. subst (λ x. IsWhole x s') (sym (profile_made y on others)) (whole_made (with_worker others w) (holds others) (lines others) whole);
      }

-- A DURABLE ONE joins its gate next

module _ {B : Type 0} (t k : ℕ) (w : Worker) (s : Shared B) where
  abbrev acts_here : Worker
  acts_here = record w { place = Place.Poll t InPoll.Act }

  abbrev joins_here : Worker
  joins_here = record w { place = Place.Poll t (InPoll.JoinGate k) }

  whole_joins : JoinsGate w.index k s.opens s.requests.items → (others : Profile) → IsWhole (with_worker others acts_here) s → IsWhole (with_worker others joins_here) s
  whole_joins joins others whole =
      let a : Drops = drops_at (Place.Poll t InPoll.Act) in
      let b : Drops = drops_at (Place.Poll t (InPoll.JoinGate k)) in
      let d = duties_of (with_worker others acts_here) in
      let d1 = duties_of (with_worker others joins_here) in
      let pool : IsPool d1 s.tasks.items s.set s.seats.items = pool_drops d d1 s.tasks.items s.set s.seats.items refl refl (λ j. clears (j == w.index) (others.drops_by j)) (λ j. removes (j == w.index) (others.drops_by j)) whole.pool in
      let gates : HaveGates (with_worker others joins_here).drops_by s.opens s.requests.items = grind arith in
      assumption (pool, gates, whole)
    where
      clears : (b : Bool) (o : Drops) → (if b then drops_at (Place.Poll t (InPoll.JoinGate k)) else o).clears ≡ (if b then drops_at (Place.Poll t InPoll.Act) else o).clears
      clears true o = refl
      clears false o = refl

      removes : (b : Bool) (o : Drops) → (if b then drops_at (Place.Poll t (InPoll.JoinGate k)) else o).removes ≡ (if b then drops_at (Place.Poll t InPoll.Act) else o).removes
      removes true o = refl
      removes false o = refl

  pub beside_joins : (before : Worker) (s0 : Shared B) → JoinsGate w.index k s.opens s.requests.items → Beside before s0 (record w { place = Place.Poll t InPoll.Act }) s → Beside before s0 (record w { place = Place.Poll t (InPoll.JoinGate k) }) s
  beside_joins before s0 joins beside = record { spares = beside.spares; whole = λ others whole. whole_joins joins others (beside.whole others whole) }
