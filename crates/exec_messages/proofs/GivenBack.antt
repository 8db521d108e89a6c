-- Room that a request has left is given back: what others may still move has room as before.
use Rattle.std.proofs.{Common.{◌≡◌, ℕ, ◌≤◌, Bool, true, false, List, Option, Some, arith, slice_get}}
use Rattle.exec_ring.specs.{Stores.{HasStretch, SameFiles}, declared.store.Store.Store}
use Rattle.exec_task.specs.declared.body.Said.{Said}
use Rattle.exec_machine.specs.{declared.event.Event.Event, Tests.is_resolved}
use Rattle.exec_parts.specs.{Calls.releasing, Serving.changed_at, Spots.Spot, declared.parts.{record.Record.Record, shared.Shared.Shared, worker.Worker.Worker}}
use Rattle.exec_invariants.{specs.{Carried.{Carried, HasRoom, may_move}, Sound.Sound, Spares.Spares, Works.{Steps}}, proofs.{Carries.stretch_still, Carrying.sum_changed}}
use Rattle.exec_messages.specs.Rooms.{GivesBack, left_by}

left_most : (out : Bool) (socket : ℕ) (r : Record) → is_resolved r.shown.phase ≡ true → r.shown.released ≡ false → left_by out socket r.shown.operation ≤ may_move out socket r
left_most = grind arith

left_none : (out : Bool) (socket : ℕ) (r : Record) → is_resolved r.shown.phase ≡ true → may_move out socket (releasing r) ≡ 0
left_none = grind arith

module _ (rs : List Record) (n : ℕ) (r : Record) (st : Store) (there : slice_get rs n ≡ Some r) (over : is_resolved r.shown.phase ≡ true) (room : HasRoom rs st) where
  pub room_then : HasRoom (changed_at rs n releasing) st
  room_then out socket =
      let sum = sum_changed (may_move out socket) rs n r releasing there in
      omega (arith, sum, left_none out socket r over, room out socket)

  pub room_back : (st' : Store) → r.shown.released ≡ false → GivesBack r.shown.operation st st' → HasRoom (changed_at rs n releasing) st'
  room_back st' unreleased back out socket =
      let sum = sum_changed (may_move out socket) rs n r releasing there in
      omega (arith, sum, left_none out socket r over, left_most out socket r over unreleased, back.room out socket, room out socket)

-- a step after which the room is another, and the files are as they were
module _ {B L : Type 0} (left : B → L) (spot : L → Option Said → Spot) (w w' : Worker) (s s' : Shared B) (e : Event) (st : Store) (room : HasRoom s'.requests.items st) (files : SameFiles s'.store st) where
  abbrev pub given : Shared B
  given = record s' { store = st }

  carried_given : Carried w' s' → Carried w' given
  carried_given was =
      record { slots = was.slots; whole = was.whole; target = was.target; carried = was.carried; nobody = was.nobody; room = room; stretch = λ id it live. stretch_still it.request s'.store st files.stretches (was.stretch id it live) }

  sound_given : Sound w' s' → Sound w' given
  sound_given sound = let carried = carried_given sound.carried in assumption (carried, sound)

  spares_given : (j : ℕ) → Spares j s s' → Spares j s given
  spares_given j spares =
      let roomy : HasRoom s.requests.items s.store → HasRoom s'.requests.items st = λ before. room in
      let stretch : (file offset n : ℕ) → HasStretch s.store file offset n → HasStretch st file offset n = λ file offset n has. files.stretches file offset n (spares.stretch file offset n has) in
      assumption (roomy, stretch, spares)

  pub steps_given : Steps left spot w s e w' s' → Steps left spot w s e w' given
  steps_given it = (
    λ p vs suits. (let x = it.0 p vs suits in record { choice = x.choice; moves = x.moves; may = x.may; own = x.own; common = x.common }),
    sound_given it.1,
    (let h = it.2 in record { root = h.root; config = h.config; many = h.many; hears = h.hears }),
    record { spares = λ j other. spares_given j (it.3.spares j other); whole = λ others h. (let v = it.3.whole others h in assumption (v)) },
  )
