-- What a body can see of its worker, and which of its acts take memory.
use Rattle.std.specs.Prelude.{ℕ, List, [], Bool, true, false, IsTrue, drop, slice_set, slice_index_or, Option, Result, Ok, Err, if◌then◌else◌}
use Rattle.exec_base.specs.declared.error.Error.{Error}
use Rattle.exec_outcomes.specs.Accounts.{Account, fresh_account}
use Rattle.exec_task.specs.declared.body.{Act.Act, Said.Said}

-- a listener: whether it is bound, and the sockets of the peers that wait, the longest first
pub record Listener : Type 0 where
  pub is_bound : Bool
  pub peers : List ℕ

-- the sampled moment, the records of the opens, and the listeners, each list by number; how many tasks there are or were,
-- and whether the pool is stopped
pub record Sight : Type 0 where
  pub moment : ℕ
  pub opens : List Account
  pub listeners : List Listener
  pub tasks : ℕ
  pub stopped : Bool

abbrev pub open_at : Sight → ℕ → Account
open_at s file = slice_index_or s.opens file fresh_account

-- a number that no listener has is one that nobody can bind
abbrev pub listener_at : Sight → ℕ → Listener
listener_at s number = slice_index_or s.listeners number (record { is_bound = true; peers = [] })

abbrev pub peers_at : Sight → ℕ → List ℕ
peers_at s number = (listener_at s number).peers

-- the first peer is gone
abbrev pub peer_taken : Sight → ℕ → Sight
peer_taken s number =
    record s { listeners = slice_set s.listeners number (record (listener_at s number) { peers = drop 1 (peers_at s number) }) }

abbrev pub bind_answer : Sight → ℕ → Result (Unit {0}) Error
bind_answer s number = if (listener_at s number).is_bound then Err Error.BindFailed else Ok tt

abbrev pub bound : Sight → ℕ → Sight
bound s number = record s { listeners = slice_set s.listeners number (record (listener_at s number) { is_bound = true }) }

-- the act makes a request or a task
abbrev pub grows : {B : Type 0} → Act B → Bool
grows (Act.Register _) = true
grows (Act.Spawn _) = true
grows (Act.Dedicated _) = true
grows _ = false

-- what is left to do, what is seen and what is told would give such an act
pub record WouldGrow {B L : Type 0} (gives : L → Option Sight → Said → Act B → L → Option Sight → Type 0) (left : L) (sight : Option Sight) (said : Said) : Type 0 where
  pub act : Act B
  pub left_then : L
  pub sight_then : Option Sight
  pub given : gives left sight said act left_then sight_then
  pub grown : IsTrue (grows act)
