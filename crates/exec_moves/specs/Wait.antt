-- Moves of the two waits.
use Rattle.std.specs.Prelude.{ℕ, Bool, true, false, not, ◌-◌, ◌*◌, ◌&&◌, ◌||◌, nat_lt, nat_le, Option, Some, None, if◌then◌else◌}
use Rattle.exec_base.specs.Spinner.{after_hit, after_miss, after_wake}
use Rattle.exec_words.specs.{Word.is_idle_at, declared.word.PureWord.PureWord}
use Rattle.exec_machine.specs.{declared.{config.Configuration.Configuration, event.Event.{Event, TheVariants.{Turn, Sleep, Enter}}}, Ranges.ring_size, Tests.is_empty, World.{Common, Own as Books}, Deadlines.next_due}
use Rattle.exec_moves.specs.{declared.{place.{AfterService.AfterService as back, Place.{Place, Place as at}}, idling.{AfterWait.{AfterWait, AfterWait as next}, Stay.{Stay, Stay as stay}, InLook.InLook as look, InRingWait.InRingWait as ring, InScan.InScan as scan, InSearch.InSearch as search, InWordWait.InWordWait as word}}, State.{Desk, Moved, Own, turns, does}, Callback.{has_requests, is_of_pool, serve, ring_wait, is_full}, Load.{has_mail, has_submissions, has_come, leaves_for_turn}, Submit.with_poll, Serve.{Ring, enter}}
use Rattle.exec_words.specs.declared.word.WaitTarget.TheVariants as target

-- WHICH WAIT

-- A worker looks again and again where it has a budget for that, and no deadline is within the longest spin.
abbrev pub is_near : Configuration → Desk → Option ℕ → Bool
is_near c d None = false
is_near c d (Some moment) = nat_le (moment - d.read) (c.spin.most * 1000)

abbrev pub word_wait : Configuration → ℕ → Common → Desk → Place
word_wait c i s d =
    if nat_lt 0 d.spinner.budget && not (is_near c d (next_due s i)) then at.WordWait (word.SpinOnBatch d.spinner.budget)
    else at.WordWait word.ArmWord

-- on the ring with requests, else on the wake word
abbrev pub waits : Configuration → ℕ → Common → Desk → Place
waits c i s d = if has_requests i s then ring_wait (ring_size c) stay.Turn d else word_wait c i s d

-- THE CLOCK

-- A worker of the pool that has nothing to do searches for work, unless it is alone. A dedicated one waits.
abbrev pub first_search : Configuration → ℕ → Common → Desk → Place
first_search c i s d =
    if not (is_of_pool s i) then waits c i s d
    else if nat_le c.workers 1 then at.Look look.Publish
    else if d.searching then at.Scan scan.LoadScanHead else at.Search search.LoadSearchCount

abbrev pub read_clock : Configuration → ℕ → Books → Common → Desk → Moved Own
read_clock c i me s d =
    if has_come s.clock (next_due s i)
    then turns (leaves_for_turn c i me s d) (record d { read = s.clock }) tt
    else turns (first_search c i s (record d { read = s.clock })) (record d { read = s.clock }) tt

-- THE SLEEP

-- until the next moment at which something is due, unless that has come
abbrev pub sleep : {T : Type 0} → ℕ → Common → Desk → T → Moved T
sleep i s d x = if has_come s.clock (next_due s i) then does Turn d x else does (Sleep (next_due s i)) d x

-- ON THE RING

-- what follows a wait of a worker that has published no bit
abbrev pub goes_back : AfterWait → Place
goes_back next.Serve = serve back.Begin
goes_back _ = at.BeginTurn

abbrev pub withdraws : Common → ℕ → AfterWait → Place
withdraws s i n = if is_of_pool s i then at.Withdraw n else goes_back n

-- a closing worker has no bit to withdraw either, and serves again
abbrev pub after_wait : Common → ℕ → Stay → AfterWait → Place
after_wait s i stay.Turn n = withdraws s i n
after_wait s i stay.Closing n = serve back.Finish

-- the ring
abbrev pub enter_full_ring : Stay → Books → Desk → Ring → Moved Ring
enter_full_ring x me d r = enter me (record d { place = at.RingWait ring.TestRing x }) r

abbrev pub test_ring : Configuration → ℕ → Stay → Books → Common → Desk → Moved Own
test_ring c i x me s d =
    if has_submissions c me || (not d.polled && is_full (ring_size c) d) then turns (after_wait s i x next.Serve) d tt
    else turns (at.RingWait ring.ArmRing x) (with_poll (ring_size c) d) tt

-- the wake word
abbrev pub arm_ring : Stay → Desk → PureWord → Moved PureWord
arm_ring x d w =
    turns (at.RingWait (if is_idle_at w d.processed then ring.EnterRing else ring.DisarmRing next.Serve) x) d
    (record w { target = target.Ring })

-- a completion is there
abbrev pub has_completion : Desk → Ring → Bool
has_completion d r = not (is_empty r.landed) || nat_lt 0 d.others || r.wakes.told

-- the ring
abbrev pub enter_ring : Stay → Books → Desk → Ring → Moved Ring
enter_ring x me d r = settled (enter me d r)
  where
    after_enter : Event → Desk → Ring → Place
    after_enter Enter e q = at.RingWait (if has_completion e q then ring.DisarmRing next.Begin else ring.SleepOnRing) x
    after_enter _ e q = at.RingWait (ring.DisarmRing next.Begin) x

    settled : Moved Ring → Moved Ring
    settled m = record m { desk = record m.desk { place = after_enter m.event m.desk m.thing } }

abbrev pub sleep_on_ring : ℕ → Stay → Common → Desk → Ring → Moved Ring
sleep_on_ring i x s d r =
    let left = record d { place = at.RingWait (ring.DisarmRing next.Begin) x } in
    if has_completion d r then does Turn left r else sleep i s left r

abbrev pub disarmed : PureWord → PureWord
disarmed w = record w { target = target.None; latch = false }

abbrev pub disarm_ring : ℕ → Stay → AfterWait → Common → Desk → PureWord → Moved PureWord
disarm_ring i x n s d w = turns (after_wait s i x n) d (disarmed w)

-- ON THE WAKE WORD

-- a look that met something, or none of so many that did
abbrev pub hit : Desk → Desk
hit d = record d { spinner = after_hit d.spinner; place = at.WordWait word.TakeLatch }

abbrev pub missed : ℕ → Desk → Desk
missed left d =
    if nat_lt 1 left then (record d { place = at.WordWait (word.SpinOnBatch (left - 1)) })
    else (record d { spinner = after_miss d.spinner; place = at.WordWait word.ArmWord })

abbrev pub spin_on_batch : ℕ → Desk → PureWord → Moved PureWord
spin_on_batch left d w = does Turn (if has_mail d w then hit d else (record d { place = at.WordWait (word.SpinOnLatch left) })) w

abbrev pub spin_on_latch : ℕ → Desk → PureWord → Moved PureWord
spin_on_latch left d w = does Turn (if w.latch then hit d else missed left d) w

abbrev pub take_latch : ℕ → Common → Desk → PureWord → Moved PureWord
take_latch i s d w = turns (withdraws s i next.Begin) d (record w { latch = false })

abbrev pub arm_word : Desk → PureWord → Moved PureWord
arm_word d w =
    turns (at.WordWait (if is_idle_at w d.processed then word.SleepOnWord else word.DisarmWord)) (record d { slept = None })
    (record w { target = target.Sleeping })

-- with the moment of the sleep, where it sleeps
abbrev pub noting_sleep : ℕ → Moved PureWord → Moved PureWord
noting_sleep clock m = record m { desk = noted m.event m.desk }
  where
    noted : Event → Desk → Desk
    noted (Sleep until) e = record e { slept = Some clock }
    noted _ e = e

abbrev pub sleep_on_word : ℕ → Common → Desk → PureWord → Moved PureWord
sleep_on_word i s d w =
    let left = record d { place = at.WordWait word.DisarmWord } in
    if is_idle_at w d.processed then noting_sleep s.clock (sleep i s left w) else does Turn left w

-- a worker that slept and was signalled learns how long it slept
abbrev pub after_sleep : ℕ → Bool → Option ℕ → Desk → Desk
after_sleep clock true (Some slept) d = record d { spinner = after_wake d.spinner (clock - slept); slept = None }
after_sleep clock _ _ d = record d { slept = None }

abbrev pub disarm_word : ℕ → Common → Desk → PureWord → Moved PureWord
disarm_word i s d w = turns (withdraws s i next.Begin) (after_sleep s.clock w.latch d.slept d) (disarmed w)
