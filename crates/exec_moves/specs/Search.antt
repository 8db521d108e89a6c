-- Moves of a worker that has nothing to do and searches: half of the values of another run queue move into its own.
use Rattle.std.specs.Prelude.{ℕ, true, ◌+◌, ◌-◌, ◌*◌, ◌%◌, ◌==◌, [], take, nat_le, nat_lt, if◌then◌else◌}
use Rattle.exec_words.specs.{declared.head.Head.Head, Generator.stirred, Head.{claim_at, claimed_head}, Idle.Idle, Queue.{Queue, head_of, tail_of, room_of, claimed, released, published}}
use Rattle.exec_machine.specs.{declared.config.Configuration.Configuration, World.{Common, Own as Books}}
use Rattle.exec_moves.specs.{declared.{idling.{Scan.Scan, InLook.InLook as look, InScan.InScan as step, InSearch.InSearch as search}, place.Place.{Place, Place as at}}, State.{Desk, Moved, Own, turns}, Load.leaves_for_turn, Global.one_count_more, Pop.same_head}

-- SEARCH

-- half of the workers search: that is enough
abbrev pub load_search_count : Configuration → Desk → Idle → Moved Idle
load_search_count c d x =
    turns (if nat_le c.workers (2 * x.count) then at.Look look.Publish else at.Search search.AddSearchCount) d x

abbrev pub add_search_count : Desk → Idle → Moved Idle
add_search_count d x = turns (at.Scan step.LoadScanHead) (record d { searching = true }) (one_count_more x)

-- SCAN

-- the worker whose queue is next, and the scan past it
abbrev pub from_of : Configuration → Scan → ℕ
from_of c x = (x.start + x.passed) % c.workers

abbrev pub past : Scan → Scan
past x = record x { passed = x.passed + 1 }

abbrev pub past_own_queue : Configuration → ℕ → Scan → Scan
past_own_queue c i x = if from_of c x == i then past x else x

-- the queue that is next, or the look after the last
abbrev pub scanning : Configuration → Scan → Place
scanning c x = if nat_lt x.passed c.workers then at.Scan (step.LoadTheirHead x) else at.Look look.Publish

abbrev pub looks_at : Configuration → ℕ → Scan → Place
looks_at c i x = scanning c (past_own_queue c i x)

-- so much of the own queue must be free
abbrev pub half : ℕ
half = 128

abbrev pub begun_scan : Configuration → ℕ → Scan
begun_scan c n = record { start = n % c.workers; passed = 0 }

-- the own run queue
abbrev pub load_scan_head : Configuration → ℕ → Desk → Queue ℕ → Moved (Queue ℕ)
load_scan_head c i d q =
    turns (if nat_lt (room_of q) half then at.Look look.Publish else looks_at c i (begun_scan c (stirred d.rng)))
    (record d { rng = stirred d.rng }) q

-- a queue that is claimed is passed
abbrev pub judge_head : Configuration → ℕ → Scan → Head → Place
judge_head c i x h = if h.gap == 0 then at.Scan (step.LoadTheirTail x h) else looks_at c i (past x)

-- the other run queue
abbrev pub load_their_head : Configuration → ℕ → Scan → Desk → Queue ℕ → Moved (Queue ℕ)
load_their_head c i x d q = turns (judge_head c i x (head_of q)) d q

-- With more values than there can be the head is too old; with fewer than two there is nothing to steal.
abbrev pub judge_tail : Configuration → ℕ → Scan → Head → ℕ → Place
judge_tail c i x h tail =
    if nat_lt 256 (tail - h.real) then at.Scan (step.LoadTheirHead x)
    else if nat_lt (tail - h.real) 2 then looks_at c i (past x) else at.Scan (step.ClaimHalf x h tail)

abbrev pub load_their_tail : Configuration → ℕ → Scan → Head → Desk → Queue ℕ → Moved (Queue ℕ)
load_their_tail c i x h d q = turns (judge_tail c i x h (tail_of q)) d q

-- half of the values up to the tail that was loaded, the oldest ones
abbrev pub claim_half : Configuration → ℕ → Scan → Head → ℕ → Desk → Queue ℕ → Moved (Queue ℕ)
claim_half c i x h tail d q =
    if same_head h (head_of q)
    then turns (at.Scan (step.MoveHalf (from_of c x) (claimed_head h (claim_at h tail))))
    (record d { loot = take (claim_at h tail) q.values }) (claimed q (claim_at h tail))
    else turns (judge_head c i x (head_of q)) d q

abbrev pub move_half : ℕ → Head → Desk → Moved Own
move_half from h d = turns (at.Scan (step.ReleaseHalf from h)) d tt

abbrev pub release_half : ℕ → Head → Desk → Queue ℕ → Moved (Queue ℕ)
release_half from h d q =
    if same_head h (head_of q) then turns (at.Scan step.StoreMoved) d (released q)
    else turns (at.Scan (step.ReleaseHalf from (head_of q))) d q

-- the own run queue
abbrev pub store_moved : Configuration → ℕ → Books → Common → Desk → Queue ℕ → Moved (Queue ℕ)
store_moved c i me s d q = turns (leaves_for_turn c i me s d) (record d { loot = [] }) (published q d.loot)
