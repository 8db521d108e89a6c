-- How many quiet steps an outside caller can take on end, with no step of another party between: a number that falls at each of them.
--
-- A call looks for a published worker once more than it finds the idle set as it was loaded, and once more where it returned the
-- last search count. With nobody else's steps between, the set is then as it was loaded.
use Rattle.std.specs.Prelude.{ℕ, suc, Bool, true, false}
use Rattle.exec_words.specs.Idle.{Idle}
use Rattle.exec_moves.specs.{declared.handing.{CallPlace.CallPlace, InGlobal.InGlobal, InSignal.InSignal}, Claim.same_bools, Global.has_any}

-- HEIGHTS: what a step leads to stands one below it, down to the return, which isn't quiet.

abbrev pub raise : ℕ
raise = suc 0

abbrev pub set_latch : ℕ
set_latch = suc raise

-- of a set in which nobody is, which leads to the return
abbrev pub load_no_set : ℕ
load_no_set = suc 0

-- By whether somebody is in the set, who is signalled then, and whether it is as it was loaded, since else it is claimed from once
-- more. Where nobody is the count is returned.
abbrev pub claim_worker : Bool → Bool → ℕ
claim_worker true true = suc set_latch
claim_worker true false = suc (suc set_latch)
claim_worker false same = suc (suc load_no_set)

abbrev pub add_count : Bool → Bool → ℕ
add_count some same = suc (claim_worker some same)

-- a set in which somebody is, or nobody
abbrev pub load_set : Bool → ℕ
load_set true = suc (add_count true true)
load_set false = load_no_set

abbrev pub return_count : Bool → ℕ
return_count some = suc (load_set some)

abbrev pub append : Bool → ℕ
append some = suc (load_set some)

-- WHAT A CALL HAS LEFT, at its place and with this idle set
abbrev pub call_credit : CallPlace → Idle → ℕ
call_credit (CallPlace.Global InGlobal.Append) x = append (has_any x)
call_credit (CallPlace.Global InGlobal.LoadGlobalSet) x = load_set (has_any x)
call_credit (CallPlace.Global (InGlobal.AddGlobalCount set)) x = add_count (has_any x) (same_bools set.has x.published)
call_credit (CallPlace.Global InGlobal.ReturnGlobalCount) x = return_count (has_any x)
call_credit (CallPlace.ClaimWorker set) x = claim_worker (has_any x) (same_bools set.has x.published)
call_credit (CallPlace.Signal InSignal.SetLatch j) x = set_latch
call_credit (CallPlace.Signal (InSignal.Raise ring) j) x = raise
call_credit _ x = 0

-- the most that there is: before anything is appended, where somebody is in the set
abbrev pub most_credit : ℕ
most_credit = append true
