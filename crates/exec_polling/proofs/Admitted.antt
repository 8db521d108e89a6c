-- What the kernel has, and what requests may still move, once one was admitted.
use Rattle.std.proofs.{Common.{◌≡◌, ◌≢◌, ℕ, ◌+◌, ◌-◌, ◌^◌, ◌<◌, ◌≤◌, ◌==◌, Bool, true, false, List, [], ◌∷◌, ◌++◌, length, Some, None, IsSome, refl, sym, ap, subst, ◌∙◌, arith, slice_get, nat_lt, if◌then◌else◌}, lemmas.{Bool.{Decides.nat_tests, and_left, and_right}, List.Sums.sum_by-append, Option.slice_get_within}}
use Rattle.exec_base.{specs.{Slab.{Slab, value_at}, declared.slab.{Id.Id}}}
use Rattle.exec_outcomes.specs.declared.outcome.Kind.{Kind}
use Rattle.exec_request.specs.{Requests.{asked_of, cursor_of, target_of}, Syncing.{is_syncing, write_kind}, Views.{send_window}, Ways.asked_by, declared.{buffers.WriteBuffers.{WriteBuffers, TheVariants.{Single, Vectored}}, request.Request.Request as Asking, recv.RecvRequest.RecvRequest, send.SendRequest.SendRequest, way.Way.Way, window.{Opcode.Opcode, Window.Window}, write_at.WriteAtState.WriteAtState}}
use Rattle.exec_ring.specs.{Rings.RingState, Sockets.SocketState, Stores.{HasStretch, Reserves, socket_of, with_room}, declared.store.Store.Store}
use Rattle.exec_waiters.{specs.{Ids.{user_data_of, index_in}, States.{waiter_at, waiter_of}, declared.waiter.{Entry.Entry, Waiter.Waiter}}, proofs.Changes.entry_of}
use Rattle.exec_driver.specs.Footprints.{bytes_left, footprint_of, widened}
use Rattle.exec_machine.specs.{Requests.asked_of as asked_in, Tests.is_in_flight, declared.state.{RequestPhase.RequestPhase}}
use Rattle.exec_parts.{specs.{declared.parts.{mail.Reply.Reply, record.Record.Record}, Records.number_in}}
use Rattle.exec_invariants.{specs.Carried.{HasStretchFor, IsCarried, IsOneBuffer, IsUnderWay, IsWhole, is_moved_by, may_move, moves_by, room_for, those_of, unlanded}, proofs.{Carrying.index_told, Over.in_append}}

-- THE ROOM that an admission made

moves_most : (out : Bool) (socket : ℕ) (r : Record) → may_move out socket r ≤ r.shown.operation.length - r.shown.operation.moved
moves_most = grind arith

moves_none : (out : Bool) (socket : ℕ) (r : Record) → moves_by out socket r.shown.operation ≡ false → may_move out socket r ≡ 0
moves_none out socket r is = ap (λ b. if b then unlanded r.shown.phase r.shown.released r.shown.operation else 0) is

other_socket : (socket fd : ℕ) → (socket == fd) ≡ false → (fd == socket) ≡ false
other_socket = grind arith

-- no bytes go by a socket
module _ (q : Asking) (r : Record) (st st' : Store) (k : Opcode) (w : Window) (kind : (asked_of q).kind ≡ r.shown.operation.kind) (same : (n : ℕ) (s : SocketState) → with_room k n s ≡ s) (none : (out : Bool) → is_moved_by out (asked_of q).kind ≡ false) (is : w.kind ≡ k) (reserves : Reserves w st st') where
  none_moved : (out : Bool) (socket : ℕ) → room_for out (socket_of st socket) + may_move out socket r ≤ room_for out (socket_of st' socket)
  none_moved = grind arith

-- the window of all bytes of a send that an operation takes whole
sent : (s : SendRequest) (st st' : Store) → nat_lt (bytes_left s.write) (2 ^ 32) ≡ true → Reserves (footprint_of (Asking.Send s)) st st' → Reserves (record (send_window s) { length = bytes_left s.write }) st st'
sent s st st' few = subst (λ b. Reserves (if b then record (send_window s) { length = bytes_left s.write } else send_window s) st st') few

few_left : (b : WriteBuffers) → IsOneBuffer b → nat_lt (bytes_left b) (2 ^ 32) ≡ true
few_left (Single bytes offset) h = grind (arith, nat_tests, h)
few_left (Vectored bufs chunk offset remaining) h = absurd h

send_room : (s : SendRequest) (r : Record) (st st' : Store) → IsOneBuffer s.write → asked_in r.shown.operation ≡ asked_of (Asking.Send s) → r.shown.operation.target ≡ s.fd → r.shown.operation.moved ≡ (cursor_of (Asking.Send s)).moved
    → Reserves (footprint_of (Asking.Send s)) st st' → (out : Bool) (socket : ℕ) → room_for out (socket_of st socket) + may_move out socket r ≤ room_for out (socket_of st' socket)
send_room = grind (arith, moves_none, and_left, sent, few_left, moves_most, and_right, other_socket)

recv_room : (x : RecvRequest) (r : Record) (st st' : Store) → x.len - x.start < 2 ^ 32 → asked_in r.shown.operation ≡ asked_of (Asking.Recv x) → r.shown.operation.target ≡ x.fd → r.shown.operation.moved ≡ (cursor_of (Asking.Recv x)).moved
    → Reserves (footprint_of (Asking.Recv x)) st st' → (out : Bool) (socket : ℕ) → room_for out (socket_of st socket) + may_move out socket r ≤ room_for out (socket_of st' socket)
recv_room = grind arith

read_moves : (x : Way) (n : ℕ) (out : Bool) → is_moved_by out (asked_by x n).kind ≡ false
read_moves = grind arith

write_moves : (x : WriteAtState) (out : Bool) → is_moved_by out (write_kind x) ≡ false
write_moves = grind arith

no_moves : (k : Kind) → is_moved_by true k ≡ false → is_moved_by false k ≡ false → (out : Bool) → is_moved_by out k ≡ false
no_moves k a b true = a
no_moves k a b false = b

-- the window of all bytes of a write
widened_kind : (w : Window) (n : ℕ) → (widened w n).kind ≡ w.kind
widened_kind = grind arith

-- A request of these few bytes
abbrev pub IsFew : Asking → Type 0
IsFew (Asking.Recv r) = r.len - r.start < 2 ^ 32
IsFew (Asking.WriteAt w) = is_syncing w.state ≡ false
IsFew _ = Unit {0}

-- so many bytes more may go by its socket, and none elsewhere
pub room_made : (q : Asking) (r : Record) (st st' : Store) → IsWhole q → IsFew q → asked_in r.shown.operation ≡ asked_of q → r.shown.operation.target ≡ target_of q → r.shown.operation.moved ≡ (cursor_of q).moved
    → Reserves (footprint_of q) st st' → (out : Bool) (socket : ℕ) → room_for out (socket_of st socket) + may_move out socket r ≤ room_for out (socket_of st' socket)
room_made = grind (arith, send_room, recv_room, none_moved, read_moves, write_moves, widened_kind, no_moves)

-- and what is to be written has room in its file
pub stretch_made : (q : Asking) (st st' : Store) → IsWhole q → Reserves (footprint_of q) st st' → HasStretchFor q st'
stretch_made = grind arith

pub stretch_on : (q : Asking) (st st' : Store) → ((file offset n : ℕ) → HasStretch st file offset n → HasStretch st' file offset n) → HasStretchFor q st → HasStretchFor q st'
stretch_on (Asking.WriteAt w) st st' on it = λ going. on w.file w.offset (bytes_left w.write) (it going)
stretch_on _ st st' on it = tt

-- ONE REQUEST MORE, of which the ring has nothing yet: in its slab, by its number and its record. It may be over at once.
pub record Joins (numbers numbers' : List ℕ) (s s' : Slab (Entry Reply Reply)) (rs : List Record) (id : Id) (q : Asking) (r : Record) : Type 0 where
  pub small : id.index < 4294967295
  pub none : waiter_at s id ≡ None
  pub here : IsSome (value_at s' id)
  pub asks : (it : Waiter Reply Reply) → waiter_at s' id ≡ Some it → it.request ≡ q
  pub others : (other : Id) → other ≢ id → value_at s' other ≡ value_at s other
  pub number : number_in numbers' id ≡ length rs
  pub apart : (other : Id) → (other.index ≡ id.index → ⊥) → number_in numbers' other ≡ number_in numbers other
  pub known : (other : Id) → IsSome (value_at s other) → number_in numbers other < length rs
  pub whole : IsWhole q
  pub target : r.shown.operation.target ≡ target_of q
  pub idle : is_in_flight r.shown.phase ≡ false

idle_under : (p : RequestPhase) (u : ℕ) (q : Asking) (ring : RingState) → is_in_flight p ≡ false → (those_of u ring.flying ≡ []) × (those_of u ring.staged ≡ []) → IsUnderWay p u q ring
idle_under = grind arith

module _ (numbers numbers' : List ℕ) (s s' : Slab (Entry Reply Reply)) (ring : RingState) (rs : List Record) (st st' : Store) (carried : IsCarried numbers s ring rs st) (id : Id) (q : Asking) (r : Record) (joins : Joins numbers numbers' s s' rs id q r) where
  -- it is there, or another that was there in another slot
  data Then (other : Id) (x : Waiter Reply Reply) : Type 0 where
    This : other ≡ id → x.request ≡ q → Then other x
    Other : (other.index ≡ id.index → ⊥) → waiter_at s other ≡ Some x → Then other x

  differs : (other : Id) (x : Waiter Reply Reply) → waiter_at s other ≡ Some x → other ≢ id
  differs other x at same = let no : None ≡ Some x = sym joins.none ∙ ap (waiter_at s) (sym same) ∙ at in absurd (cc)

  there : (other : Id) (x : Waiter Reply Reply) → waiter_at s other ≡ Some x → IsSome (value_at s other)
  there other x at = rw (entry_of (value_at s other) x at) refl

  slot_apart : (other : Id) (x : Waiter Reply Reply) → waiter_at s other ≡ Some x → other.index ≡ id.index → ⊥
  slot_apart = grind arith

  then_by : (other : Id) (x : Waiter Reply Reply) → waiter_at s' other ≡ Some x → Then other x
  then_by = grind arith

  slots_then : (other : Id) (x : Waiter Reply Reply) → Then other x → other.index < 4294967295
  slots_then other x (This eq is) = subst (λ i. i.index < 4294967295) (sym eq) joins.small
  slots_then other x (Other apart at) = carried.slots other x at

  whole_then : (other : Id) (x : Waiter Reply Reply) → Then other x → IsWhole x.request
  whole_then other x (This eq is) = subst IsWhole (sym is) joins.whole
  whole_then other x (Other apart at) = carried.whole other x at

  last_record : (y : Record) → slice_get (rs ++ r ∷ []) (number_in numbers' id) ≡ Some y → y ≡ r
  last_record = grind (arith, in_append, slice_get_within)

  other_record : (other : Id) (x : Waiter Reply Reply) (y : Record) → (other.index ≡ id.index → ⊥) → waiter_at s other ≡ Some x → slice_get (rs ++ r ∷ []) (number_in numbers' other) ≡ Some y → slice_get rs (number_in numbers other) ≡ Some y
  other_record = grind (arith, in_append, there)

  target_then : (other : Id) (x : Waiter Reply Reply) (y : Record) → Then other x → slice_get (rs ++ r ∷ []) (number_in numbers' other) ≡ Some y → y.shown.operation.target ≡ target_of x.request
  target_then other x y (This eq is) found = ap (λ z. z.shown.operation.target) (last_record y (ap (λ i. slice_get (rs ++ r ∷ []) (number_in numbers' i)) (sym eq) ∙ found)) ∙ joins.target ∙ ap target_of (sym is)
  target_then other x y (Other apart at) found = carried.target other x y at (other_record other x y apart at found)

  nothing : (those_of (user_data_of id) ring.flying ≡ []) × (those_of (user_data_of id) ring.staged ≡ [])
  nothing =
      carried.nobody (user_data_of id) (rw (index_told id joins.small) joins.small)
      (λ other x at same. slot_apart other x at (sym (index_told other (carried.slots other x at)) ∙ ap index_in same ∙ index_told id joins.small))

  under_then : (other : Id) (x : Waiter Reply Reply) (y : Record) → Then other x → slice_get (rs ++ r ∷ []) (number_in numbers' other) ≡ Some y → IsUnderWay y.shown.phase (user_data_of other) x.request ring
  under_then other x y (This eq is) found =
      let last = last_record y (ap (λ i. slice_get (rs ++ r ∷ []) (number_in numbers' i)) (sym eq) ∙ found) in
      subst (λ i. IsUnderWay y.shown.phase (user_data_of i) x.request ring) (sym eq) (idle_under y.shown.phase (user_data_of id) x.request ring (ap (λ z. is_in_flight z.shown.phase) last ∙ joins.idle) nothing)
  under_then other x y (Other apart at) found = carried.carried other x y at (other_record other x y apart at found)

  stretch_now : ((file offset n : ℕ) → HasStretch st file offset n → HasStretch st' file offset n) → HasStretchFor q st' → (other : Id) (x : Waiter Reply Reply) → Then other x → HasStretchFor x.request st'
  stretch_now on stretch other x (This eq is) = subst (λ y. HasStretchFor y st') (sym is) stretch
  stretch_now on stretch other x (Other apart at) = stretch_on x.request st st' on (carried.stretch other x at)

  pub carried_joined : ((out : Bool) (socket : ℕ) → room_for out (socket_of st socket) + may_move out socket r ≤ room_for out (socket_of st' socket)) → ((file offset n : ℕ) → HasStretch st file offset n → HasStretch st' file offset n) → HasStretchFor q st' → IsCarried numbers' s' ring (rs ++ r ∷ []) st'
  carried_joined more on stretch =
      record {
        slots = λ other x at. slots_then other x (then_by other x at);
        whole = λ other x at. whole_then other x (then_by other x at);
        target = λ other x y at found. target_then other x y (then_by other x at) found;
        carried = λ other x y at found. under_then other x y (then_by other x at) found;
        nobody = λ u small free. carried.nobody u small (λ other x at named. free other x (ap waiter_of (joins.others other (differs other x at)) ∙ at) named);
        room = grind (arith, sum_by-append);
        stretch = λ other x at. stretch_now on stretch other x (then_by other x at);
      }
