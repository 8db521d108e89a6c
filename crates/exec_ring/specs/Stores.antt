-- The bytes of all sockets and files.
use Rattle.std.specs.{Prelude.{◌≡◌, ℕ, ◌+◌, ◌-◌, ◌==◌, List, Option, Some, None, IsSome, unwrap_or, if◌then◌else◌}, Ordering.nat_cmp, BTreeMap.get}
use Rattle.exec_request.specs.declared.window.{Opcode.{Opcode, TheVariants.{Send, Recv, Write}}, Window.Window}
use Rattle.exec_ring.specs.{Sockets.{SocketState, nothing_moved}, declared.{file.File.File, store.Store.Store}, Files.{byte_at, byte_over, Covers}}

-- a socket that was never named moved nothing
abbrev pub socket_of : Store → ℕ → SocketState
socket_of st s = unwrap_or (get nat_cmp st.sockets s) nothing_moved

abbrev pub HasSocket : Store → ℕ → Type 0
HasSocket st s = IsSome (get nat_cmp st.sockets s)

-- the byte of a file at an offset; a file that was never named has zeros
abbrev pub byte_of : Option File → ℕ → ℕ
byte_of None k = 0
byte_of (Some f) k = byte_at f k

abbrev pub store_byte : Store → ℕ → ℕ → ℕ
store_byte st f k = byte_of (get nat_cmp st.files f) k

abbrev pub HasFile : Store → ℕ → Type 0
HasFile st f = IsSome (get nat_cmp st.files f)

-- there is room for so many bytes of a file, from an offset on
abbrev pub CoversIn : Option File → ℕ → ℕ → Type 0
CoversIn None offset n = n ≡ 0
CoversIn (Some f) offset n = Covers f offset n

abbrev pub HasStretch : Store → ℕ → ℕ → ℕ → Type 0
HasStretch st f offset n = CoversIn (get nat_cmp st.files f) offset n

-- no byte of a file changed, and what there was room for there still is
pub record SameFiles (old new : Store) : Type 0 where
  pub bytes : (f k : ℕ) → store_byte new f k ≡ store_byte old f k
  pub stretches : (f offset n : ℕ) → HasStretch old f offset n → HasStretch new f offset n

-- nothing changed
pub record Same (old new : Store) : Type 0 where
  pub sockets : (s : ℕ) → socket_of new s ≡ socket_of old s
  pub files : SameFiles old new

-- one socket became so, and nothing else changed
pub record SocketBecomes (old new : Store) (socket : ℕ) (state : SocketState) : Type 0 where
  pub sockets : (s : ℕ) → socket_of new s ≡ (if s == socket then state else socket_of old s)
  pub files : SameFiles old new

-- the bytes of one file from an offset on are these, and nothing else changed
pub record WritesOver (old new : Store) (file offset : ℕ) (written : List ℕ) : Type 0 where
  pub sockets : (s : ℕ) → socket_of new s ≡ socket_of old s
  pub bytes : (f k : ℕ) → store_byte new f k ≡ (if f == file then byte_over offset written (store_byte old f) k else store_byte old f k)
  pub stretches : (f from n : ℕ) → HasStretch old f from n → HasStretch new f from n

-- room for the bytes of a window, and without it
abbrev pub with_room : Opcode → ℕ → SocketState → SocketState
with_room Send n s = record s { sent_room = s.sent_room + n }
with_room Recv n s = record s { received_room = s.received_room + n }
with_room _ n s = s

abbrev pub without_room : Opcode → ℕ → SocketState → SocketState
without_room Send n s = record s { sent_room = s.sent_room - n }
without_room Recv n s = record s { received_room = s.received_room - n }
without_room _ n s = s

abbrev pub MakesStretch : Opcode → Store → Window → Type 0
MakesStretch Write st w = HasStretch st w.target w.offset w.length
MakesStretch _ st w = Unit {0}

-- there is room for the bytes of one more window, and no byte moved
pub record Reserves (w : Window) (old new : Store) : Type 0 where
  pub sockets : (s : ℕ) → socket_of new s ≡ (if s == w.target then with_room w.kind w.length (socket_of old s) else socket_of old s)
  pub files : SameFiles old new
  pub stretch : MakesStretch w.kind new w

-- the room for the bytes of a window was given up
pub record Releases (w : Window) (old new : Store) : Type 0 where
  pub sockets : (s : ℕ) → socket_of new s ≡ (if s == w.target then without_room w.kind w.length (socket_of old s) else socket_of old s)
  pub files : SameFiles old new
