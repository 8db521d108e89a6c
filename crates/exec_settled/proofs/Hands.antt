-- What the move of a worker does as far as permits go. Each move does it; and whatever does it keeps what holds.
use Rattle.std.{proofs.Common.{◌≡◌, ℕ, ◌<◌, true, false, [], ◌∷◌, ◌++◌, length, Some}, specs.Prelude.{◌⊎◌, drop, slice_get}}
use Rattle.exec_outcomes.specs.Accounts.{is_durable}
use Rattle.exec_machine.specs.{Tests.{is_gated, is_resolved}, World.{Common, request_of}}
use Rattle.exec_moves.specs.{declared.place.{InPoll.InPoll, Place.Place}, State.{Desk, Moved, Things, gate_of, word_of}}
use Rattle.exec_settled.specs.{Given.passes_at, Permits.{hands_to, is_past}}

-- The move of worker i from d over x; late is the common part after it.
module _ (i : ℕ) (s : Common) (d : Desk) (x : Things) (m : Moved Things) (late : Common) where
  -- the gate of this open after the move: as before; without its first, whose worker passes the permit on, and signals that of the next; or with one more
  abbrev pub LeavesGate : ℕ → Type 0
  LeavesGate file =
      (passes_at d.place ≡ Some file) × (gate_of m.thing file ≡ drop 1 (gate_of x file))
      × ((k : ℕ) → slice_get (drop 1 (gate_of x file)) 0 ≡ Some k → hands_to m.desk.place ≡ Some (request_of s k).worker)

  pub record JoinsGate (file : ℕ) : Type 0 where
    pub task : ℕ
    pub request : ℕ
    pub place : d.place ≡ Place.Poll task (InPoll.JoinGate request)
    pub target : (request_of s request).operation.target ≡ file
    pub gate : gate_of m.thing file ≡ gate_of x file ++ request ∷ []

  pub record Hands : Type 0 where
    pub gates : (file : ℕ) → file < length x.gates → (gate_of m.thing file ≡ gate_of x file) ⊎ (LeavesGate file ⊎ JoinsGate file)
    -- who passes a permit on leaves the gate, and no longer passes it
    pub passing : (file : ℕ) → file < length x.gates → passes_at d.place ≡ Some file → gate_of m.thing file ≡ drop 1 (gate_of x file)
    -- the worker of the next holder is signalled
    pub handing : (j : ℕ) → hands_to d.place ≡ Some j → j < length x.words → (word_of m.thing j).latch ≡ true
    -- a latch is taken out by its own worker, before a service
    pub latch_out : (j : ℕ) → (word_of x j).latch ≡ true → (word_of m.thing j).latch ≡ false → (j ≡ i) × ((file : ℕ) → is_past file m.desk.place ≡ false)
    -- It passes no gate at which a request of its own stands first and waits for the permit.
    pub past : (file k : ℕ) → is_past file d.place ≡ false → is_past file m.desk.place ≡ true → slice_get (gate_of x file) 0 ≡ Some k → file < length s.opens
        → (request_of s k).worker ≡ i → (request_of s k).operation.target ≡ file → is_gated (request_of s k).phase ≡ true → is_gated (request_of late k).phase ≡ false
    -- a durable request that ends gives its permit up next
    pub over : (k : ℕ) → is_resolved (request_of s k).phase ≡ false → is_resolved (request_of late k).phase ≡ true → is_durable (request_of s k).operation.kind ≡ true
        → passes_at m.desk.place ≡ Some (request_of s k).operation.target
