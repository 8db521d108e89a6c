-- A result lands: what its request and its kernel's store must be, and what becomes of them.
use Rattle.std.{proofs.{Common.{◌≡◌, ℕ, ◌+◌, ◌≤◌, ◌==◌, ◌&&◌, Bool, true, false, List, length, Some, None, Option, refl, sym, ap, subst, ◌∙◌, arith, slice_get, if◌then◌else◌}, lemmas.{Bool.{eq-eqb}}}, specs.{BTreeMap.get, Ordering.nat_cmp}}
use Rattle.exec_outcomes.specs.{Lawful.{is_lawful, window_of}, Outcomes.{bytes_of}, declared.outcome.{OpResult.{OpResult, TheVariants.{Count, Errno}}, Kind.Kind}}
use Rattle.exec_request.specs.{Buffers.{batch_of}, Kept.{seen_by}, Requests.{asked_of, cursor_of, deadline_of, hinted_of, target_of, window_by}, Syncing.{is_syncing}, Views.{write_window}, Ways.{asked_by}, Windows.most_of, declared.{request.Request.Request as Asking, way.Way.Way}}
use Rattle.exec_ring.specs.{Fillings.Fills, Kernels.{flight_of, may_land}, Landings.{IsReady, IsReadyFor, Moves, MovesBytes}, Rings.{RingState}, Stores.{CoversIn, HasStretch, socket_of}, declared.{completion.{Submission.Submission}, file.File.File, store.Store.Store}}
use Rattle.exec_driver.specs.Footprints.{bytes_left}
use Rattle.exec_machine.specs.{declared.state.{Operation.Operation, RequestPhase.{TheVariants.Flying}}, Requests.{asked_of as asked_in, cursor_of as cursor_in}}
use Rattle.exec_parts.{specs.{declared.parts.record.Record.Record, Serving.changed_at}}
use Rattle.exec_invariants.{specs.Carried.{HasRoom, HasStretchFor, IsWhole, IsLone, is_moved_by, may_move, moves_by, room_for, landing}, proofs.Carrying.{lone_found, part_within, sum_changed}}
use Rattle.exec_serving.proofs.LandWindows.{allowed_by, batch_few, counted, few_left, lawful_same}

-- THE ROOM FOR BYTES

sends_there : (o : Operation) (socket : ℕ) → o.kind ≡ Kind.Send → o.target ≡ socket → moves_by true socket o ≡ true
sends_there o socket k t = rw (k, t) (eq-eqb socket socket refl)

receives_by : (b : Bool) → is_moved_by false (if b then Kind.Fill else Kind.Recv) ≡ true
receives_by true = refl
receives_by false = refl

receives_there : (o : Operation) (socket : ℕ) (b : Bool) → o.kind ≡ (if b then Kind.Fill else Kind.Recv) → o.target ≡ socket → moves_by false socket o ≡ true
receives_there o socket b k t = ap (λ x. is_moved_by false x && (o.target == socket)) k ∙ ap (λ x. x && (o.target == socket)) (receives_by b) ∙ ap (λ x. x == socket) t ∙ eq-eqb socket socket refl

-- so many of them have room
room_of : (rs : List Record) (st : Store) (k : ℕ) (r : Record) (n : OpResult) (out : Bool) (socket : ℕ) → slice_get rs k ≡ Some r → r.shown.phase ≡ Flying → moves_by out socket r.shown.operation ≡ true
    → is_lawful (window_of (asked_in r.shown.operation) (cursor_in r.shown.operation)) n ≡ true → HasRoom rs st → bytes_of n ≤ room_for out (socket_of st socket)
room_of = grind (arith, part_within, few_left)

-- a part of a stretch
stretch_within : (o : Option File) (offset n m : ℕ) → m ≤ n → CoversIn o offset n → CoversIn o offset m
stretch_within None offset n m less h = omega (arith, less, h)
stretch_within (Some f) offset n m less h = λ k within. h k (omega (arith, less, within))

-- where a result of so many bytes may come, there is room for them
ready_for : (q : Asking) (r : Record) (n : OpResult) (rs : List Record) (k : ℕ) (st : Store) → IsWhole q → HasStretchFor q st → slice_get rs k ≡ Some r → r.shown.phase ≡ Flying → asked_in r.shown.operation ≡ asked_of q
    → r.shown.operation.target ≡ target_of q → is_lawful (window_of (asked_in r.shown.operation) (cursor_in r.shown.operation)) n ≡ true → is_lawful (most_of (window_by true q)) n ≡ true → HasRoom rs st → IsReadyFor (window_by true q) n q st
ready_for q r (Errno c) rs k st whole stretch there flies asked target lawful most room = tt
ready_for (Asking.Send s) r (Count n) rs k st whole stretch there flies asked target lawful most room =
    grind (arith, room_of rs st k r (Count n) true s.fd there flies (sends_there r.shown.operation s.fd (ap (λ a. a.kind) asked) target) lawful room)
ready_for (Asking.Recv x) r (Count n) rs k st whole stretch there flies asked target lawful most room =
    grind (arith, room_of rs st k r (Count n) false x.fd there flies (receives_there r.shown.operation x.fd x.exact (ap (λ a. a.kind) asked) target) lawful room)
ready_for (Asking.ReadAt x) r (Count n) rs k st whole stretch there flies asked target lawful most room =
    record { window = refl; ends = omega (arith, x.within, x.ends); room = tt }
ready_for (Asking.WriteAt w) r (Count n) rs k st whole stretch there flies asked target lawful most room = by (is_syncing w.state) refl
  where
    by : (b : Bool) → is_syncing w.state ≡ b → IsReadyFor (write_window true w) (Count n) (Asking.WriteAt w) st
    by true is = rw is (record { window = rw is refl; ends = omega arith; room = tt })
    by false is =
        let most' : is_lawful (batch_of w.write) (Count n) ≡ true = rw is at most in
        let count = counted (batch_of w.write) (Count n) most' in
        rw is (grind (arith, refl, stretch_within (get nat_cmp st.files w.file) w.offset (bytes_left w.write) n (omega (arith, batch_few w.write whole, count)) (stretch is)))
ready_for (Asking.Poll p) r (Count n) rs k st whole stretch there flies asked target lawful most room = record { window = refl; ends = omega arith; room = tt }
ready_for (Asking.Sync x) r (Count n) rs k st whole stretch there flies asked target lawful most room = record { window = refl; ends = omega arith; room = tt }
ready_for (Asking.Connect x) r (Count n) rs k st whole stretch there flies asked target lawful most room = record { window = refl; ends = omega arith; room = tt }

-- So much of it is left then, and what there was room for in files there still is.
pub record Leaves (o : Operation) (n : OpResult) (st st' : Store) : Type 0 where
  pub some : (out : Bool) (socket : ℕ) → room_for out (socket_of st socket) ≤ room_for out (socket_of st' socket) + bytes_of n
  pub all : (out : Bool) (socket : ℕ) → moves_by out socket o ≡ false → room_for out (socket_of st socket) ≤ room_for out (socket_of st' socket)
  pub stretch : (file offset m : ℕ) → HasStretch st file offset m → HasStretch st' file offset m

leaves_same : (o : Operation) (n : OpResult) (st st' : Store) → st' ≡ st → Leaves o n st st'
leaves_same o n st st' same = rw same (record { some = λ out socket. omega arith; all = λ out socket h. omega arith; stretch = λ file offset m h. h })

-- A LANDING LEAVES A REQUEST as it was, but for the bytes that came into its buffer

pub record Refilled (q q' : Asking) : Type 0 where
  pub asked : asked_of q' ≡ asked_of q
  pub cursor : cursor_of q' ≡ cursor_of q
  pub deadline : deadline_of q' ≡ deadline_of q
  pub target : target_of q' ≡ target_of q
  pub hinted : hinted_of q' ≡ hinted_of q
  pub seen : seen_by q' ≡ seen_by q
  pub window : window_by true q' ≡ window_by true q
  pub whole : IsWhole q → IsWhole q'
  pub stretch : (st : Store) → HasStretchFor q st → HasStretchFor q' st

refilled_same : (q q' : Asking) → q' ≡ q → Refilled q q'
refilled_same q q' same = rw same (record { asked = refl; cursor = refl; deadline = refl; target = refl; hinted = refl; seen = refl; window = refl; whole = λ h. h; stretch = λ st h. h })

abbrev takes_in : Kind → Bool
takes_in Kind.Recv = true
takes_in Kind.Fill = true
takes_in Kind.Read = true
takes_in Kind.Hint = true
takes_in Kind.Direct = true
takes_in _ = false

read_in : (way : Way) (n : ℕ) → takes_in (asked_by way n).kind ≡ true
read_in = grind arith

-- by a filled window: what takes bytes in still does
module _ (q q' : Asking) (bytes : List ℕ) (fills : Fills q q' bytes) (takes : takes_in (asked_of q).kind ≡ true) where
  refilled : Refilled q q'
  refilled = grind arith

pub record Lands (q q' : Asking) (o : Operation) (n : OpResult) (st st' : Store) : Type 0 where
  pub request : Refilled q q'
  pub leaves : Leaves o n st st'

lands_same : (q q' : Asking) (o : Operation) (n : OpResult) (st st' : Store) → (st' ≡ st) × (q' ≡ q) → Lands q q' o n st st'
lands_same q q' o n st st' same = record { request = refilled_same q q' same.1; leaves = leaves_same o n st st' same.0 }

-- it takes no more of the store than its result counts
moves_on : (q q' : Asking) (o : Operation) (n : OpResult) (st st' : Store) → asked_in o ≡ asked_of q → o.target ≡ target_of q → MovesBytes (window_by true q) n q q' st st' → Lands q q' o n st st'
moves_on q q' o (Errno c) st st' asked target moved = lands_same q q' o (Errno c) st st' moved
moves_on (Asking.Send s) q' o (Count n) st st' asked target moved = grind arith
moves_on (Asking.Recv x) q' o (Count n) st st' asked target moved = grind arith
moves_on (Asking.ReadAt x) q' o (Count n) st st' asked target moved =
    record { request = refilled (Asking.ReadAt x) q' _ moved.1 (read_in x.way (length x.buf.bytes)); leaves = leaves_same o (Count n) st st' moved.0 }
moves_on (Asking.WriteAt w) q' o (Count n) st st' asked target moved = grind arith
moves_on (Asking.Poll p) q' o (Count n) st st' asked target moved = lands_same (Asking.Poll p) q' o (Count n) st st' moved
moves_on (Asking.Sync x) q' o (Count n) st st' asked target moved = lands_same (Asking.Sync x) q' o (Count n) st st' moved
moves_on (Asking.Connect x) q' o (Count n) st st' asked target moved = lands_same (Asking.Connect x) q' o (Count n) st st' moved

pub room_landed : (r : Record) (n : OpResult) (rs : List Record) (k : ℕ) (st st' : Store) → slice_get rs k ≡ Some r → r.shown.phase ≡ Flying → is_lawful (window_of (asked_in r.shown.operation) (cursor_in r.shown.operation)) n ≡ true
    → Leaves r.shown.operation n st st' → HasRoom rs st → HasRoom (changed_at rs k (landing n)) st'
room_landed = grind (arith, sum_changed, few_left)

-- no more may move
pub less_moves : (r : Record) (n : OpResult) → r.shown.phase ≡ Flying → (out : Bool) (socket : ℕ) → may_move out socket (landing n r) ≤ may_move out socket r
less_moves = grind arith

-- what has room in a file has it still
pub stretch_then : (q : Asking) (o : Operation) (n : OpResult) (st st' : Store) → Leaves o n st st' → HasStretchFor q st → HasStretchFor q st'
stretch_then (Asking.WriteAt w) o n st st' leaves h = λ writes. leaves.stretch w.file w.offset (bytes_left w.write) (h writes)
stretch_then _ o n st st' leaves h = tt

-- THE FLIGHT

-- what the kernel has of a request that may land so
pub record MayFly (q : Asking) (o : Operation) (user_data : ℕ) (n : OpResult) (r : RingState) (st : Store) : Type 0 where
  pub e : Submission
  pub found : flight_of r user_data ≡ Some e
  pub window : window_by true q ≡ e.window
  pub ready : IsReady (flight_of r user_data) n q st
  pub may : may_land r user_data n ≡ true
  pub lawful : is_lawful (window_of (asked_of q) (cursor_of q)) n ≡ true
  pub shown : is_lawful (window_of (asked_in o) (cursor_in o)) n ≡ true

pub may_fly : (q : Asking) (x : Record) (user_data : ℕ) (n : OpResult) (rs : List Record) (k : ℕ) (r : RingState) (st : Store) → IsWhole q → HasStretchFor q st → slice_get rs k ≡ Some x → x.shown.phase ≡ Flying
    → asked_in x.shown.operation ≡ asked_of q → x.shown.operation.moved ≡ (cursor_of q).moved → x.shown.operation.switched ≡ (cursor_of q).switched → x.shown.operation.target ≡ target_of q
    → IsLone user_data q r.flying → is_lawful (window_of (asked_in x.shown.operation) (cursor_in x.shown.operation)) n ≡ true → HasRoom rs st → MayFly q x.shown.operation user_data n r st
may_fly = grind (arith, lawful_same, lone_found, allowed_by, ready_for)

-- what becomes of the request, and what it takes of the store
pub flown_so : (q q' : Asking) (o : Operation) (user_data : ℕ) (n : OpResult) (r : RingState) (st st' : Store) → asked_in o ≡ asked_of q → o.target ≡ target_of q → MayFly q o user_data n r st
    → Moves (flight_of r user_data) n q q' st st' → Lands q q' o n st st'
flown_so q q' o user_data n r st st' asked target may moved =
    moves_on q q' o n st st' asked target (subst (λ w. MovesBytes w n q q' st st') (sym may.window) (subst (λ f. Moves f n q q' st st') may.found moved))
