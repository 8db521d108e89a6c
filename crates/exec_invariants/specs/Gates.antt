-- WHO STANDS AT THE GATES of opens: durable requests in order of coming, of which the first has the permit.
--
-- These are facts over what all workers share: the opens and the records. The one fact that rests on where a worker is stands
-- among the balances.
use Rattle.std.specs.Prelude.{◌≡◌, ◌≢◌, ◌==◌, ◌&&◌, ◌≤◌, ◌<◌, ◌++◌, ◌^◌}
use Rattle.exec_invariants.specs.{Words.{ℕ, Bool, true, false, not, List, [], count_by, length, option_to_list, Some, None, IsSome, slice_get, list_any, Slab, IsPast, Id, is_durable, Kind, kind, cursor_of, has_hint, waiter_at, Entry, Waiter, OpenState, account_in, WaiterKey, is_gated, is_of_file, is_resolved, Reply, Record, number_in}, Places.Drops}

-- the line at a gate, who has the permit first
abbrev pub line_at : OpenState → List WaiterKey
line_at o = option_to_list o.holder ++ o.waiting

-- a request's key, and what of it counts at a gate
abbrev pub key_for : Record → WaiterKey
key_for r = record { worker = r.shown.worker; id = r.id }

abbrev pub same_key : WaiterKey → WaiterKey → Bool
same_key a b = (a.worker == b.worker) && ((a.id.0.index == b.id.0.index) && (a.id.0.generation == b.id.0.generation))

abbrev pub is_in_line : WaiterKey → OpenState → Bool
is_in_line key o = list_any (same_key key) (line_at o)

pub record AtGate : Type 0 where
  pub key : WaiterKey
  pub kind : Kind
  pub target : ℕ
  pub gated : Bool

abbrev pub at_gate : Record → AtGate
at_gate r = record { key = key_for r; kind = r.shown.operation.kind; target = r.shown.operation.target; gated = is_gated r.shown.phase }

-- it waits for the permit of this open and hasn't joined the line: its worker does so next
abbrev pub is_coming : ℕ → OpenState → AtGate → Bool
is_coming file o x = x.gated && ((x.target == file) && not (is_in_line x.key o))

-- ONE GATE: each in the line is a durable request of the open, once; all but the first wait; and there is room for those
-- who come
pub record IsLinedUp (file : ℕ) (o : OpenState) (records : List Record) : Type 0 where
  pub named : (n : ℕ) (key : WaiterKey) → slice_get (line_at o) n ≡ Some key → (k : ℕ) × (r : Record) × (slice_get records k ≡ Some r) × (key_for r ≡ key)
  pub durable : (n : ℕ) (key : WaiterKey) (k : ℕ) (r : Record) → slice_get (line_at o) n ≡ Some key → slice_get records k ≡ Some r → key_for r ≡ key → (is_durable r.shown.operation.kind ≡ true) × (r.shown.operation.target ≡ file)
  pub waits : (n : ℕ) (key : WaiterKey) (k : ℕ) (r : Record) → 0 < n → slice_get (line_at o) n ≡ Some key → slice_get records k ≡ Some r → key_for r ≡ key → is_gated r.shown.phase ≡ true
  pub once : (m n : ℕ) (key : WaiterKey) → slice_get (line_at o) m ≡ Some key → slice_get (line_at o) n ≡ Some key → m ≡ n
  pub held : (k : ℕ) (r : Record) → slice_get records k ≡ Some r → is_durable r.shown.operation.kind ≡ true → r.shown.operation.target ≡ file → is_gated r.shown.phase ≡ false → is_resolved r.shown.phase ≡ false → o.holder ≡ Some (key_for r)
  pub first : o.holder ≡ None → o.waiting ≡ []
  pub kept : IsSome o.account
  pub places : count_by (λ r. is_coming file o (at_gate r)) records ≤ o.coming

-- ALL GATES: a request of a file is of an open that is there, which has a number of 32 bits; and no two requests have one key
pub record AreLinedUp (opens : List OpenState) (records : List Record) : Type 0 where
  pub lines : (file : ℕ) (o : OpenState) → slice_get opens file ≡ Some o → IsLinedUp file o records
  pub there : (k : ℕ) (r : Record) → slice_get records k ≡ Some r → is_of_file r.shown.operation.kind ≡ true → r.shown.operation.target < length opens
  pub durable : (k : ℕ) (r : Record) → slice_get records k ≡ Some r → is_gated r.shown.phase ≡ true → is_durable r.shown.operation.kind ≡ true
  pub few : length opens < 2 ^ 32
  pub unique : (k l : ℕ) (r x : Record) → slice_get records k ≡ Some r → slice_get records l ≡ Some x → key_for r ≡ key_for x → k ≡ l

-- WHERE A WORKER IS. Who passes the permit of an open on had that: its own request is over, and first in the line. Who is
-- about to join a gate has a request that waits for the permit, and isn't in the line.
pub record PassesPermit (j file : ℕ) (opens : List OpenState) (records : List Record) : Type 0 where
  pub o : OpenState
  pub open_there : slice_get opens file ≡ Some o
  pub k : ℕ
  pub r : Record
  pub there : slice_get records k ≡ Some r
  pub mine : r.shown.worker ≡ j
  pub over : is_resolved r.shown.phase ≡ true
  pub holds : o.holder ≡ Some (key_for r)

pub record JoinsGate (j k : ℕ) (opens : List OpenState) (records : List Record) : Type 0 where
  pub r : Record
  pub there : slice_get records k ≡ Some r
  pub mine : r.shown.worker ≡ j
  pub gated : is_gated r.shown.phase ≡ true
  pub apart : (o : OpenState) (n : ℕ) → slice_get opens r.shown.operation.target ≡ Some o → slice_get (line_at o) n ≢ Some (key_for r)

pub record HaveGates (drops : ℕ → Drops) (opens : List OpenState) (records : List Record) : Type 0 where
  pub passes : (j file : ℕ) → (drops j).passes ≡ Some file → PassesPermit j file opens records
  pub joins : (j k : ℕ) → (drops j).joins ≡ Some k → JoinsGate j k opens records

-- HINTS. The driver forgets that a request asks for the hint where its open doesn't have it, which never comes back. The
-- record knows of it still.

abbrev pub may_ask_hint : Kind → Bool
may_ask_hint kind.Hint = true
may_ask_hint kind.Direct = true
may_ask_hint _ = false

abbrev pub has_hint_at : List OpenState → ℕ → Bool
has_hint_at opens file = has_hint (account_in opens (Some file))

-- WHAT A WORKER'S RECORDS SAY that its driver has forgotten: a name that was given is given no more, and no slot was taken more
-- often than there are requests; and an open that a request doesn't ask for its hint any more has none
pub record IsKnown (i : ℕ) (numbers : List ℕ) (requests : Slab (Entry Reply Reply)) (opens : List OpenState) (records : List Record) : Type 0 where
  pub past : (k : ℕ) (r : Record) → slice_get records k ≡ Some r → r.shown.worker ≡ i → (r.id.0.generation < 2 ^ 64) × IsPast requests r.id.0
  pub counted : (id : Id) → IsPast requests id → id.generation < length records
  pub few : length records ≤ 2 ^ 32
  pub hints : (id : Id) (it : Waiter Reply Reply) (r : Record) → waiter_at requests id ≡ Some it → slice_get records (number_in numbers id) ≡ Some r
      → may_ask_hint r.shown.operation.kind ≡ true → r.shown.operation.unrefused ≡ true → (cursor_of it.request).hinted ≡ false
      → has_hint_at opens r.shown.operation.target ≡ false
