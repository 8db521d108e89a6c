-- A request comes in, with the next number.
use Rattle.std.{proofs.{Common.{◌≡◌, ◌≢◌, ℕ, ◌+◌, ◌≤◌, Bool, false, Contains, List, [], ◌∷◌, count_by, length, suc, Some, None, refl, arith, slice_get}, lemmas.List.Sums.sum_by-cons}, specs.VecDeque.deque_capacity}
use Rattle.exec_base.specs.{Slab.{IsPast, next_id}, declared.slab.Id.Id}
use Rattle.exec_outcomes.specs.declared.outcome.Kind.{Kind}
use Rattle.exec_request.specs.Requests.{deadline_of, gate_of}
use Rattle.exec_waiters.specs.declared.{observer.Observer.TheVariants.Local, waiter.{Entry.TheVariants.Pending, Waiter.Waiter}}
use Rattle.exec_driver.specs.{Driving.Driving, Placed.ListsRequests}
use Rattle.exec_machine.specs.{declared.state.{Operation.Operation, RequestPhase.RequestPhase}, Requests.{first_phase, new_request}, Tests.{is_in_flight, is_resolved, is_staged}}
use Rattle.exec_parts.specs.declared.parts.{mail.Reply.Reply, names.Names.Names, record.Record.Record}
use Rattle.exec_invariants.{proofs.Taken.{Takes, enrolled_if}, specs.{Flown.IsPlain, Names.IsAlike}}

-- A request came in under this name, queued or at its gate, with the next number.
pub record OneComes (i : ℕ) (n n' : Names) (d d' : Driving Reply Reply) (rs : List Record) (id : Id) (it : Waiter Reply Reply) (r : Record) : Type 0 where
  pub takes : Takes d.requests d'.requests id (Pending it)
  pub next : next_id d.requests ≡ Some id
  pub new : IsPast d.requests id → ⊥
  pub number_is : slice_get n'.requests.items id.index ≡ Some (length rs)
  pub others : (k : ℕ) → k ≢ id.index → slice_get n'.requests.items k ≡ slice_get n.requests.items k
  pub slots : length d'.requests.slots ≤ length n'.requests.items
  pub timers : n'.timers.items ≡ n.timers.items
  pub staged : n'.staged ≡ n.staged
  pub untold : n'.untold ≡ n.untold
  pub ended : n'.ended.items ≡ n.ended.items
  pub unreleased : n'.unreleased ≡ n.unreleased + 1
  pub room : n'.unreleased ≤ deque_capacity n'.ended
  pub name : r.id.0 ≡ id
  pub o : Operation
  pub shown : r.shown ≡ new_request i o
  pub unsent : r.sent ≡ false
  pub observer : it.observer ≡ Local None
  pub alike : IsAlike d.wheel.start d.wheel.tick it r.shown
  pub plain : IsPlain r.shown
  pub lists : ListsRequests d
  pub ring : d'.ring ≡ record d.ring { places = d'.ring.places }
  pub armed : d'.armed ≡ d.armed
  pub wheel : d'.wheel ≡ d.wheel
  pub cancels : d'.lists.cancels ≡ d.lists.cancels
  pub due : d'.lists.due ≡ d.lists.due
  pub enrolments : d'.lists.enrolments ≡ enrolled_if (deadline_of it.request) (record { 0 = id }) d.lists.enrolments
  pub gated : d'.lists.gated ≡ enrolled_if (gate_of it.request) (record { 0 = id }) d.lists.gated

-- it is neither over nor in flight
pub record IsIdle (p : RequestPhase) : Type 0 where
  pub open_still : is_resolved p ≡ false
  pub unstaged : is_staged p ≡ false
  pub idle : is_in_flight p ≡ false

pub first_idle : (k : Kind) → IsIdle (first_phase k)
first_idle = grind arith

pub none_of : {X : Type 0} (p : X → Bool) (xs : List X) → ((x : X) → Contains xs x → p x ≡ false) → count_by p xs ≡ 0
none_of p [] none = refl
none_of p (x ∷ xs) none = grind (arith, sum_by-cons, none_of p xs (λ y has. let few = has.1 in none y (suc has.0, omega (arith, few), has.2)))
