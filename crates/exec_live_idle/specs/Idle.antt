-- What a contract sees of an idle set and of a seat at it.
use Rattle.std.specs.Prelude.{◌≡◌, ◌<◌}
use Rattle.crossbeam_utils.specs.Padded.{padded_value}
use Rattle.exec_live_idle.specs.declared.{view.View.View, seat.{Idle.Idle, IdleSeat.IdleSeat}}

-- what the seat knows
abbrev pub knows : IdleSeat → View
knows seat = seat.place.me.0

-- the seat is one of this idle set
abbrev pub IsSeatOf : Idle → IdleSeat → Type 0
IsSeatOf idle seat = (seat.place.table_id ≡ (padded_value idle.words).shared.table_id) × ((knows seat).number < (knows seat).end)

-- it is at the same idle set, and has the same number
abbrev pub IsSame : IdleSeat → IdleSeat → Type 0
IsSame old new = (new.place.table_id ≡ old.place.table_id) × (new.place.id ≡ old.place.id)

-- it is the same seat, and knows this
abbrev pub Becomes : IdleSeat → IdleSeat → View → Type 0
Becomes old new v = IsSame old new × (knows new ≡ v)
