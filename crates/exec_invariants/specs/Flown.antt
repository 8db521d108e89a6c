-- WHAT HAS LANDED: the completions in a worker's ring, what its requests may be yet, and room for what ends.
use Rattle.std.specs.Prelude.{◌≡◌, ◌+◌, ◌%◌, ◌^◌, ◌<◌, ◌≤◌, ◌∷◌}
use Rattle.exec_invariants.specs.{Words.{ℕ, Bool, true, false, not, List, [], length, map, filter, slice_get, Option, Some, is_some, IfSome, vec_capacity, deque_capacity, Id, deadline_of, Opcode, result_in, RingState, completions, Completion, Submission, index_in, generation_in, is_lawful_for, needs_permit, waiter_at, takes_tick, Waiter, WaiterId, Driving, is_control, is_among, Request, Landed, is_resolved, InService, Reply, Names, Record, number_in, is_one_of, is_end, number_told}, Places.one_if}

-- A request whose operations count bytes within its pages, and whose deadline is near.
pub record IsPlain (r : Request) : Type 0 where
  pub bounded : r.operation.skip + r.operation.length + 4095 < 2 ^ 63
  pub moved : r.operation.moved ≤ r.operation.skip + r.operation.length + 4095
  pub deadline : IfSome r.operation.deadline (λ moment. moment < 2 ^ 63)

-- the completions of operations, in order
abbrev pub operations : RingState → List Completion
operations r = filter (λ c. not (is_control c)) (completions r)

-- A completion is of a request that flies, whose record has landed with its result.
pub record HasLanded (n : Names) (d : Driving Reply Reply) (records : List Record) (c : Completion) : Type 0 where
  pub id : Id
  pub it : Waiter Reply Reply
  pub r : Record
  pub index : id.index ≡ index_in c.user_data
  pub generation : id.generation % 4294967296 ≡ generation_in c.user_data
  pub live : waiter_at d.requests id ≡ Some it
  pub flies : it.in_flight ≡ true
  pub lawful : is_lawful_for it (result_in c.result) ≡ true
  pub there : slice_get records (number_in n.requests.items id) ≡ Some r
  pub landed : r.shown.phase ≡ Landed (result_in c.result)

-- each is so, of another request
abbrev pub AreLanded : Names → Driving Reply Reply → List Record → List Completion → Type 0
AreLanded n d records [] = Unit {0}
AreLanded n d records (c ∷ cs) =
    HasLanded n d records c
    × (is_one_of (number_told n.requests.items c) (map (number_told n.requests.items) cs) ≡ false)
    × AreLanded n d records cs

-- THE WAKE POLL is under way just where it stands in the submission queue, or the kernel has it, or a completion that has ended
-- it wasn't dropped yet: once.

abbrev pub is_poll : Opcode → Bool
is_poll Opcode.Wake = true
is_poll _ = false

abbrev pub polls_in : List Submission → ℕ
polls_in [] = 0
polls_in (e ∷ es) = one_if (is_poll e.window.kind) + polls_in es

abbrev pub ends_in : List Completion → ℕ
ends_in [] = 0
ends_in (c ∷ cs) = one_if (is_end c) + ends_in cs

abbrev pub IsPolled : RingState → Bool → Type 0
IsPolled r armed = polls_in r.staged + (one_if r.armed + ends_in (completions r)) ≡ one_if armed

-- what is not released has room to end in, and what is in the submission queue has room in the lists
pub record HasFlown (x : Option InService) (i : ℕ) (n : Names) (d : Driving Reply Reply) (records : List Record) : Type 0 where
  pub ending : n.unreleased ≤ deque_capacity n.ended
  pub staging : d.ring.size ≤ vec_capacity n.staged
  pub telling : d.ring.size ≤ vec_capacity n.untold
  pub entries : length n.staged.items + length n.untold.items ≤ length d.ring.staged
  pub gated : (id : WaiterId) (it : Waiter Reply Reply) → waiter_at d.requests id.0 ≡ Some it → needs_permit it ≡ true → is_among id d.lists.gated ≡ true
  pub plain : (k : ℕ) (r : Record) → slice_get records k ≡ Some r → r.shown.worker ≡ i → IsPlain r.shown
  pub landed : AreLanded n d records (operations d.ring)
  pub enrolling : (id : WaiterId) (it : Waiter Reply Reply) → waiter_at d.requests id.0 ≡ Some it → takes_tick it.state ≡ true → is_some (deadline_of it.request) ≡ true → is_among id d.lists.enrolments ≡ true
  pub polled : IsPolled d.ring d.armed
  pub owning : (k : ℕ) (r : Record) → slice_get records k ≡ Some r → is_resolved r.shown.phase ≡ false → r.shown.released ≡ false
  pub uncancelled : (id : WaiterId) (r : Record) → is_among id d.lists.cancels ≡ true → slice_get records (number_in n.requests.items id.0) ≡ Some r → r.shown.worker ≡ i → r.shown.cancel_staged ≡ false
