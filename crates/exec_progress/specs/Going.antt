-- A WORKER THAT GOES ON among several: what is known of it at a place, so that each of its quiet steps costs some of what it has left.
use Rattle.std.specs.Prelude.{◌≡◌, ◌≤◌, ◌<◌, ℕ, Bool, true, false, not, ◌+◌, ◌==◌, [], length, nat_lt}
use Rattle.exec_words.specs.{Idle.{is_in as is_in_set}, Queue.{Queue, tail_of}, Head.{is_spent}}
use Rattle.exec_machine.specs.{declared.config.Configuration.Configuration, Ranges.{ring_size, largest_spin}, Tests.{is_asleep, is_empty, is_open, is_ready}, Text.is_quiet, After.{own_after, common_after}, World.{Common, Own as Books, seat_of, sleeper_of, task_of}}
use Rattle.exec_moves.specs.{declared.{handing.{AfterCallbacks.AfterCallbacks, AfterCancels.AfterCancels, AfterClaim.AfterClaim, AfterKick.AfterKick, AfterLeave.AfterLeave, AfterPop.AfterPop, AfterPush.AfterPush, AfterSend.AfterSend, AfterSignal.AfterSignal, InPush.InPush, InSignal.InSignal}, idling.{AfterWait.AfterWait, InLook.InLook, InRingWait.InRingWait, InScan.InScan, Stay.Stay}, place.{AfterService.AfterService, InClosing.InClosing, InLoads.InLoads, InPick.InPick, InPoll.InPoll, InService.InService, Round.Round, Place.Place}}, Callback.is_of_pool, Counts.one_if, Move.move_at, Search.from_of, Seen.{next_at, serves_at}, Slots.is_in_slots, State.{Desk, Moved, Things, inbox_of, queue_of, word_of}}
use Rattle.exec_rest.specs.{Places.{is_dry, is_pooled, is_published, waits_on}, Posted.IsNumbered}
use Rattle.exec_settled.specs.Given.{ends_in_search}
use Rattle.exec_progress.specs.Effort.{steps_left}

-- WHERE A WORKER IS THAT CLOSES, beside the first step of that

abbrev pub closes_callbacks : AfterCallbacks → Bool
closes_callbacks AfterCallbacks.Drain = true
closes_callbacks AfterCallbacks.Finish = true
closes_callbacks _ = false

abbrev pub closes_push : AfterPush → Bool
closes_push (AfterPush.CallBack n) = closes_callbacks n
closes_push _ = false

abbrev pub closes_leave : AfterLeave → Bool
closes_leave (AfterLeave.CallBack n) = closes_callbacks n
closes_leave _ = false

abbrev pub closes_kick : AfterKick → Bool
closes_kick (AfterKick.Leave b) = closes_leave b
closes_kick (AfterKick.Push b) = closes_push b

abbrev pub closes_claim : AfterClaim → Bool
closes_claim (AfterClaim.Kick b) = closes_kick b
closes_claim (AfterClaim.Global b) = closes_push b

-- a drain goes on after the messages
abbrev pub closes_cancels : AfterCancels → Bool
closes_cancels (AfterCancels.Visit drain) = true
closes_cancels _ = false

abbrev pub closes_send : AfterSend → Bool
closes_send (AfterSend.Cancels b) = closes_cancels b
closes_send (AfterSend.Tell worker) = true
closes_send _ = false

abbrev pub closes_signal : AfterSignal → Bool
closes_signal (AfterSignal.Claim b) = closes_claim b
closes_signal (AfterSignal.Send b) = closes_send b

abbrev pub closes_service : AfterService → Bool
closes_service AfterService.Finish = true
closes_service _ = false

abbrev pub closes_pop : AfterPop → Bool
closes_pop AfterPop.Discard = true
closes_pop _ = false

abbrev pub is_of_closing : Place → Bool
is_of_closing (Place.Closing InClosing.Close) = false
is_of_closing (Place.Closing p) = true
is_of_closing (Place.Callbacks p n) = closes_callbacks n
is_of_closing (Place.Service p v) = closes_service v.back
is_of_closing (Place.RingWait p Stay.Closing) = true
is_of_closing (Place.Pop p b) = closes_pop b
is_of_closing (Place.LeaveSearch b) = closes_leave b
is_of_closing (Place.Push p b) = closes_push b
is_of_closing (Place.Global p b) = closes_push b
is_of_closing (Place.Kick p b) = closes_kick b
is_of_closing (Place.ClaimWorker set b) = closes_claim b
is_of_closing (Place.Signal p j b) = closes_signal b
is_of_closing (Place.SendCancel b) = closes_cancels b
is_of_closing _ = false

-- OTHER PLACES

-- it loads the queues of the pool
abbrev pub loads_queues : Place → Bool
loads_queues (Place.Loads InLoads.LoadOwnHead r) = true
loads_queues (Place.Loads (InLoads.LoadOwnMirror f) r) = true
loads_queues _ = false

-- the callbacks are over in this turn, and its test for work is to come
abbrev pub has_called_back : Place → Bool
has_called_back (Place.Loads p Round.Second) = true
has_called_back (Place.TestForWork f) = true
has_called_back _ = false

-- it pushes into its own run queue
abbrev pub is_pushing : Place → Bool
is_pushing (Place.Push p b) = true
is_pushing _ = false

-- its own run queue keeps something aside only in the midst of an overflow, and has nothing else then
abbrev pub KnowsAside : Place → Queue ℕ → Type 0
KnowsAside (Place.Push InPush.StoreOldest b) q = q.values ≡ []
KnowsAside (Place.Push (InPush.StoreValue length) b) q = q.held ≡ []
KnowsAside (Place.Push (InPush.FlowOver h) b) q = q.held ≡ []
KnowsAside (Place.Pop p b) q = q.held ≡ []
KnowsAside (Place.Pick (InPick.TakeShare first room held)) q = q.held ≡ []
KnowsAside (Place.Scan InScan.StoreMoved) q = q.held ≡ []
KnowsAside _ q = Unit {0}

-- it moves what it has stolen
abbrev pub is_moving : Place → Bool
is_moving (Place.Scan (InScan.MoveHalf from h)) = true
is_moving (Place.Scan (InScan.ReleaseHalf from h)) = true
is_moving (Place.Scan InScan.StoreMoved) = true
is_moving _ = false

-- it holds a search count: in a scan, and where it goes to one or returns its count
abbrev pub is_seeking : Place → Bool
is_seeking (Place.Scan p) = true
is_seeking (Place.Look InLook.ReturnLookCount) = true
is_seeking (Place.Look InLook.ReturnClaimed) = true
is_seeking (Place.Withdraw AfterWait.Search) = true
is_seeking (Place.RingWait (InRingWait.DisarmRing AfterWait.Search) y) = true
is_seeking _ = false

-- it ends the wait of worker i next, and is that worker
abbrev pub raises_itself : ℕ → Place → Bool
raises_itself i (Place.Service (InService.Raise ring j b) v) = j == i
raises_itself i (Place.Signal (InSignal.Raise ring) j b) = j == i
raises_itself i _ = false

-- of the queue that it is to steal from it has loaded the head without a claim, and then the tail
abbrev pub KnowsTail : Configuration → Things → Place → Type 0
KnowsTail c x (Place.Scan (InScan.ClaimHalf y h tail)) = (h.gap ≡ 0) × (h.real + 2 ≤ tail) × (tail ≤ tail_of (queue_of x (from_of c y)))
KnowsTail c x _ = Unit {0}

-- WHAT IS KNOWN of worker i at place p

pub record IsGoing (c : Configuration) (i : ℕ) (me : Books) (s : Common) (d : Desk) (x : Things) (p : Place) : Type 0 where
  pub workers : 0 < c.workers
  pub some_ring : nat_lt 0 (ring_size c) ≡ true
  -- it has one of each thing; the first workers are those of the pool
  pub seat_there : i < length s.seats
  pub queue_there : i < length x.queues
  pub word_there : i < length x.words
  pub poll_there : i < length x.wake_polls
  pub in_pool : is_of_pool s i ≡ true → i < c.workers
  pub is_still_open : is_open (seat_of s i).phase ≡ true
  pub open_still : is_of_closing p ≡ false
  pub sampled : me.sampled ≤ s.clock
  -- whose poll begins is to be polled
  pub ready : (t : ℕ) → p ≡ Place.Poll t InPoll.BeginPoll → is_ready (task_of s t).phase ≡ true
  -- QUEUES: only a worker of the pool searches and loads them; it goes on once its own is empty; and no other worker has one
  pub pooled : is_pooled p ≡ true → is_of_pool s i ≡ true
  pub pushes : is_pushing p ≡ true → is_of_pool s i ≡ true
  pub loads : loads_queues p ≡ true → is_of_pool s i ≡ true
  pub aside : KnowsAside p (queue_of x i)
  pub dried : is_of_pool s i ≡ true → is_dry p ≡ true → (queue_of x i).values ≡ []
  pub within : (j : ℕ) → length (queue_of x j).values + (queue_of x j).gap ≤ 256
  pub bare : (j : ℕ) → c.workers ≤ j → (queue_of x j).values ≡ []
  pub unspent : is_spent (tail_of (queue_of x i)) ≡ false
  -- SEARCH COUNTS: its own, and that of who has claimed some of its queue
  pub counted : one_if d.searching + one_if (not ((queue_of x i).gap == 0)) ≤ x.idle.count
  pub seeks : is_seeking p ≡ true → d.searching ≡ true
  pub claims : KnowsTail c x p
  pub moves : is_moving p ≡ true → is_empty d.loot ≡ false
  pub bit : is_in_set x.idle.published i ≡ true → is_published p ≡ true
  -- its mailbox and its wake word
  pub numbered : IsNumbered (word_of x i).batch d.processed (inbox_of x i)
  pub target : (word_of x i).target ≡ waits_on p
  pub unraised : raises_itself i p ≡ false
  pub back : ends_in_search p ≡ false
  -- each sleeper of its own stands in a slot
  pub beds : (z : ℕ) → is_asleep i (sleeper_of s z) ≡ true → is_in_slots z d.timers ≡ true
  pub budget : d.spinner.budget ≤ largest_spin c.spin

-- A STEP

-- what the machine has of a worker there, and its desk
abbrev pub seen : Place → Books → Books
seen p me = record me { serving = serves_at p; next = next_at p }

abbrev pub stands : Place → Desk → Desk
stands p d = record d { place = p }

abbrev pub left_after : Configuration → ℕ → Books → Common → Moved Things → ℕ
left_after c i me s m = steps_left c i (own_after c me s i m.event m.choice) (common_after c me s i m.event m.choice) m.desk m.thing

-- a quiet move costs some of what is left
abbrev pub Falls : Configuration → ℕ → Books → Common → Desk → Things → Moved Things → Type 0
Falls c i me s d x m = is_quiet m.event ≡ true → left_after c i me s m < steps_left c i me s d x

-- the move of this place
abbrev pub FallsAt : Configuration → ℕ → Books → Common → Desk → Things → Place → Type 0
FallsAt c i me s d x p =
    IsGoing c i (seen p me) s (stands p d) x p → Falls c i (seen p me) s (stands p d) x (move_at c i (seen p me) s (stands p d) x p)
