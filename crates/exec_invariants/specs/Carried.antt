-- WHAT THE KERNEL HAS: the operations in a ring are those of the requests that are Staged or fly, and what they may still
-- move has room.
use Rattle.std.specs.Prelude.{◌≡◌, ◌-◌, ◌^◌, ◌<◌, ◌≤◌, ◌==◌, ◌&&◌, ◌||◌, ◌∷◌, if◌then◌else◌}
use Rattle.exec_invariants.specs.Words.{ℕ, Bool, true, false, List, [], length, filter, sum_by, slice_get, Some, Slab, Id, is_lawful, window_of, bytes_of, OpResult, Kind, target_of, window_by, is_syncing, WriteBuffers, Single, Vectored, Asking, is_of, RingState, SocketState, HasStretch, socket_of, Submission, Store, user_data_of, index_in, waiter_at, Entry, Waiter, bytes_left, Operation, RequestPhase, Staged, Flying, Landed, Resolved, asked_in as asked_of, cursor_in as cursor_of, same_kind, Reply, Record, Shared, Worker, number_in, driver_of}

-- The bytes that are sent or written lie in one buffer, so that an operation takes all that are left. There are so few of
-- them that its admission made room for all.
abbrev pub IsOneBuffer : WriteBuffers → Type 0
IsOneBuffer (Single buf offset) = length buf < 2 ^ 32
IsOneBuffer (Vectored bufs chunk offset remaining) = ⊥

abbrev pub IsWhole : Asking → Type 0
IsWhole (Asking.Send s) = IsOneBuffer s.write
IsWhole (Asking.WriteAt w) = IsOneBuffer w.write
IsWhole _ = Unit {0}

-- What is left to be written has room in its file. A write that syncs has written all.
abbrev pub HasStretchFor : Asking → Store → Type 0
HasStretchFor (Asking.WriteAt w) store = is_syncing w.state ≡ false → HasStretch store w.file w.offset (bytes_left w.write)
HasStretchFor _ store = Unit {0}

-- the operations of this user data
abbrev pub those_of : ℕ → List Submission → List Submission
those_of user_data es = filter (is_of user_data) es

-- one of them is there, with the window of the request's next operation
pub record IsLone (user_data : ℕ) (q : Asking) (es : List Submission) : Type 0 where
  pub e : Submission
  pub lone : those_of user_data es ≡ e ∷ []
  pub window : window_by true q ≡ e.window

-- the ring has an operation of a request just where it is Staged, and the kernel where it flies
abbrev pub IsUnderWay : RequestPhase → ℕ → Asking → RingState → Type 0
IsUnderWay Staged user_data q r = (those_of user_data r.flying ≡ []) × IsLone user_data q r.staged
IsUnderWay Flying user_data q r = IsLone user_data q r.flying × (those_of user_data r.staged ≡ [])
IsUnderWay _ user_data q r = (those_of user_data r.flying ≡ []) × (those_of user_data r.staged ≡ [])

-- how many bytes may still land, and of a request that is over, how many it has left room for until that is given back
abbrev pub unlanded : RequestPhase → Bool → Operation → ℕ
unlanded (Resolved outcome) released o = if released then 0 else o.length - o.moved
unlanded (Landed given) released o = (o.length - o.moved) - bytes_of given
unlanded _ released o = o.length - o.moved

-- bytes that go out by a socket, or that come in
abbrev pub is_moved_by : Bool → Kind → Bool
is_moved_by true k = same_kind k Kind.Send
is_moved_by false k = same_kind k Kind.Recv || same_kind k Kind.Fill

abbrev pub moves_by : Bool → ℕ → Operation → Bool
moves_by out socket o = is_moved_by out o.kind && (o.target == socket)

abbrev pub may_move : Bool → ℕ → Record → ℕ
may_move out socket r = if moves_by out socket r.shown.operation then unlanded r.shown.phase r.shown.released r.shown.operation else 0

abbrev pub room_for : Bool → SocketState → ℕ
room_for true s = s.sent_room
room_for false s = s.received_room

-- What may still move by each socket has room, beside what requests that are over have left.
abbrev pub HasRoom : List Record → Store → Type 0
HasRoom records store = (out : Bool) (socket : ℕ) → sum_by (may_move out socket) records ≤ room_for out (socket_of store socket)

-- so it is with the requests of these numbers, in this ring, with these records and over this store
pub record IsCarried (numbers : List ℕ) (requests : Slab (Entry Reply Reply)) (ring : RingState) (records : List Record) (store : Store) : Type 0 where
  pub slots : (id : Id) (it : Waiter Reply Reply) → waiter_at requests id ≡ Some it → id.index < 4294967295
  pub whole : (id : Id) (it : Waiter Reply Reply) → waiter_at requests id ≡ Some it → IsWhole it.request
  pub target : (id : Id) (it : Waiter Reply Reply) (r : Record) → waiter_at requests id ≡ Some it → slice_get records (number_in numbers id) ≡ Some r → r.shown.operation.target ≡ target_of it.request
  pub carried : (id : Id) (it : Waiter Reply Reply) (r : Record) → waiter_at requests id ≡ Some it → slice_get records (number_in numbers id) ≡ Some r → IsUnderWay r.shown.phase (user_data_of id) it.request ring
  pub nobody : (user_data : ℕ) → index_in user_data < 4294967295 → ((id : Id) (it : Waiter Reply Reply) → waiter_at requests id ≡ Some it → user_data_of id ≡ user_data → ⊥) → (those_of user_data ring.flying ≡ []) × (those_of user_data ring.staged ≡ [])
  pub room : HasRoom records store
  pub stretch : (id : Id) (it : Waiter Reply Reply) → waiter_at requests id ≡ Some it → HasStretchFor it.request store

abbrev pub Carried : {B : Type 0} → Worker → Shared B → Type 0
Carried w s = IsCarried w.names.requests.items (driver_of w).requests (driver_of w).ring s.requests.items s.store

-- the kernel has the operation of this request, and may end it with this result
pub record MayLand (records : List Record) (request : ℕ) (given : OpResult) : Type 0 where
  pub it : Record
  pub there : slice_get records request ≡ Some it
  pub flies : it.shown.phase ≡ Flying
  pub lawful : is_lawful (window_of (asked_of it.shown.operation) (cursor_of it.shown.operation)) given ≡ true

-- its result has landed
abbrev pub landing : OpResult → Record → Record
landing given r = record r { shown = record r.shown { phase = Landed given } }
