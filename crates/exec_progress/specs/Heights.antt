-- How far it is from each part that leads to something else down to what follows it: each stands one above the next.
use Rattle.std.specs.Prelude.{ℕ, suc, Bool, true, false, ◌+◌}
use Rattle.exec_moves.specs.declared.place.{AfterPermit.{AfterPermit, AfterPermit as permit}, Reaping.{Reaping, Reaping as reaping}}

abbrev pub call_back : ℕ → ℕ
call_back below = suc below

abbrev pub end_service : ℕ → ℕ
end_service below = suc below

abbrev pub reap_last : ℕ → ℕ
reap_last below = suc (end_service below)

abbrev pub enter_last : ℕ → ℕ
enter_last below = suc (reap_last below)

abbrev pub submit : ℕ → ℕ
submit below = suc (enter_last below)

-- a full submission queue is entered first
abbrev pub flush : ℕ → ℕ
flush below = suc (submit below)

abbrev pub advance_wheel : ℕ → ℕ
advance_wheel below = suc (flush below)

abbrev pub reap_first : ℕ → ℕ
reap_first below = suc (advance_wheel below)

abbrev pub sample : ℕ → ℕ
sample below = suc (reap_first below)

abbrev pub reap : ℕ → Reaping → ℕ
reap below reaping.First = reap_first below
reap below reaping.Last = reap_last below

abbrev pub after_permit : ℕ → AfterPermit → ℕ
after_permit below (permit.Reap r) = reap below r
after_permit below (permit.Reaped reaping.First) = advance_wheel below
after_permit below (permit.Reaped reaping.Last) = end_service below
after_permit below (permit.Submit gate) = flush below

-- A SIGNAL
abbrev pub raise : ℕ → ℕ
raise below = suc below

abbrev pub set_latch : ℕ → ℕ
set_latch below = suc (raise below)

-- who has the permit then is signalled
abbrev pub pass_permit : ℕ → ℕ
pass_permit below = suc (set_latch below)

-- A KICK, AND WHAT IS APPENDED: how far it is down to what follows, by how far it is from the load of the idle set
abbrev pub load_kick_count : ℕ → ℕ
load_kick_count set = suc set

abbrev pub return_kick_count : ℕ → ℕ
return_kick_count set = suc (load_kick_count set)

abbrev pub append : ℕ → ℕ
append set = suc set

abbrev pub return_global_count : ℕ → ℕ
return_global_count set = suc set

-- of a set in which nobody is, which leads to what follows
abbrev pub load_no_set : ℕ
load_no_set = suc 0

-- By whether somebody is published, who is signalled then, and whether the idle set is as it was loaded, since else it is claimed from once more. Where
-- nobody is the count is returned.
abbrev pub claim_worker : Bool → Bool → ℕ
claim_worker true true = suc (set_latch 0)
claim_worker true false = suc (suc (set_latch 0))
claim_worker false same = suc (return_kick_count load_no_set)

-- the count of those who search, for a kick and for what is appended, before a claim that is so far from what follows
abbrev pub raise_count : ℕ → ℕ
raise_count claim = suc claim

abbrev pub load_set : Bool → ℕ
load_set true = suc (raise_count (claim_worker true true))
load_set false = load_no_set

-- above all of a kick
abbrev pub leave_search : ℕ → ℕ
leave_search below = suc (below + return_kick_count (load_set true))

-- the callbacks: a search count is returned first
abbrev pub take_batch : ℕ → ℕ
take_batch below = suc (leave_search (call_back below))

-- A PUSH into the own run queue: a kick follows, or half of the queue is appended to the global one
abbrev pub store_value : ℕ → ℕ
store_value below = suc (below + load_kick_count (load_set true))

abbrev pub store_oldest : ℕ → ℕ
store_oldest below = suc (below + append (load_set true))

abbrev pub flow_over : ℕ → ℕ
flow_over below = suc (store_oldest below)

abbrev pub load_push_head : ℕ → ℕ
load_push_head below = suc (flow_over below)

-- A SHARE of the global queue
abbrev pub share : ℕ → ℕ
share below = suc below

abbrev pub load_own_head : ℕ → ℕ
load_own_head below = suc (share below)

abbrev pub look_at_global : ℕ → ℕ
look_at_global below = suc (load_own_head below)

-- A POP of the own queue
abbrev pub store_pop : ℕ → ℕ
store_pop below = suc below

abbrev pub load_pop_head : ℕ → ℕ
load_pop_head below = suc (store_pop below)

-- by whether the head is as it was loaded, since else it is exchanged once more
abbrev pub exchange_pop : ℕ → Bool → ℕ
exchange_pop below true = suc below
exchange_pop below false = suc (suc below)

-- A QUEUE THAT A SCAN COMES TO, likewise, since else the tail is loaded once more before that
abbrev pub claim_half : ℕ → Bool → ℕ
claim_half below true = suc below
claim_half below false = suc (suc (suc below))

abbrev pub their_tail : ℕ → Bool → ℕ
their_tail below fresh = suc (claim_half below fresh)

abbrev pub their_head : ℕ → ℕ
their_head below = suc (their_tail below true)

-- WHAT WAS STOLEN is moved, and a turn begins anew
abbrev pub store_moved : ℕ
store_moved = 0

-- by whether the head is as it was loaded, since else it is released once more
abbrev pub release_half : Bool → ℕ
release_half true = suc store_moved
release_half false = suc (suc store_moved)

abbrev pub move_half : ℕ
move_half = suc (release_half false)
