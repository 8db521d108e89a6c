-- Moves of the look before a wait, once the own bit is in the idle set, and of the withdrawal after it.
use Rattle.std.specs.Prelude.{ℕ, Bool, true, false, not, ◌+◌, ◌==◌, ◌||◌, List, [], ◌∷◌, nat_lt, slice_set, if◌then◌else◌}
use Rattle.exec_words.specs.{declared.head.Head.Head, Head.is_stealable_at, Idle.{Idle, is_in}, Queue.{Queue, head_of, tail_of}}
use Rattle.exec_machine.specs.{declared.config.Configuration.Configuration, World.{Common, Own as Books}}
use Rattle.exec_moves.specs.{declared.{idling.{AfterWait.{AfterWait, AfterWait as next}, InLook.InLook as look, InScan.InScan as scan}, place.{Place.{Place, Place as at}, AfterService.AfterService as back}, handing.AfterLeave.AfterLeave as leave}, State.{Desk, Moved, turns}, Callback.serve, Load.leaves_for_turn, Parts.after_return, Global.{one_count_more, one_count_less}, Kick.unsearching, Wait.waits}

-- THE LOOK

-- the idle set
abbrev pub publish : ℕ → Desk → Idle → Moved Idle
publish i d x =
    turns (at.Look (if d.searching then look.ReturnLookCount else look.LookAtMirror false)) d
    (record x { published = slice_set x.published i true })

-- the search count: whether it was the last
abbrev pub return_look_count : Desk → Idle → Moved Idle
return_look_count d x = turns (at.Look (look.LookAtMirror (x.count == 1))) (unsearching d) (one_count_less x)

-- the global queue
abbrev pub look_at_mirror : Bool → Desk → List ℕ → Moved (List ℕ)
look_at_mirror last d [] = turns (at.Look look.LookAtCount) d []
look_at_mirror last d (t ∷ ts) = turns (at.Withdraw (next.MakeUp last)) d (t ∷ ts)

-- the next other worker from this one on, by number, and after the last the wait
abbrev pub past_own : ℕ → ℕ → ℕ
past_own i j = if j == i then j + 1 else j

abbrev pub looks_from : Configuration → ℕ → Common → ℕ → Desk → Place
looks_from c i s j d = if nat_lt (past_own i j) c.workers then at.Look (look.LookAtHead (past_own i j)) else waits c i s d

-- the search count: where somebody searches the worker waits
abbrev pub look_at_count : Configuration → ℕ → Common → Desk → Idle → Moved Idle
look_at_count c i s d x = turns (if x.count == 0 then looks_from c i s 0 d else waits c i s d) d x

-- the run queue of worker j
abbrev pub look_at_head : ℕ → Desk → Queue ℕ → Moved (Queue ℕ)
look_at_head j d q = turns (at.Look (look.LookAtTail j (head_of q))) d q

abbrev pub look_at_tail : Configuration → ℕ → Common → ℕ → Head → Desk → Queue ℕ → Moved (Queue ℕ)
look_at_tail c i s j h d q =
    turns (if is_stealable_at h (tail_of q) then at.Look look.ExchangeLookCount else looks_from c i s (j + 1) d) d q

-- the search count, from 0 to 1
abbrev pub exchange_look_count : Configuration → ℕ → Common → Desk → Idle → Moved Idle
exchange_look_count c i s d x =
    if x.count == 0 then turns (at.Withdraw next.Search) (record d { searching = true }) (one_count_more x)
    else turns (waits c i s d) d x

-- the search count of a claim that came besides
abbrev pub return_claimed : Desk → Idle → Moved Idle
return_claimed d x = turns (at.Scan scan.LoadScanHead) d (one_count_less x)

-- THE WITHDRAWAL

-- Whether a claim came: the bit is gone, and the worker holds the claimer's count.
abbrev pub searching_if : Bool → Desk → Desk
searching_if came d = record d { searching = d.searching || came }

-- with what the worker has then
abbrev pub after_withdrawal : Configuration → ℕ → Books → Common → Bool → AfterWait → Desk → Place
after_withdrawal c i me s came next.Begin d = at.BeginTurn
after_withdrawal c i me s came next.Serve d = serve back.Begin
after_withdrawal c i me s true (next.MakeUp last) d = leaves_for_turn c i me s d
after_withdrawal c i me s false (next.MakeUp last) d = after_return c i me s last leave.Begin d
after_withdrawal c i me s true next.Search d = at.Look look.ReturnClaimed
after_withdrawal c i me s false next.Search d = at.Scan scan.LoadScanHead

-- the idle set
abbrev pub withdraw : Configuration → ℕ → Books → Common → AfterWait → Desk → Idle → Moved Idle
withdraw c i me s n d x =
    let came = not (is_in x.published i) in
    turns (after_withdrawal c i me s came n (searching_if came d)) (searching_if came d)
    (record x { published = slice_set x.published i false })
