-- WHAT THE LAW TAKES FOR GRANTED of each state, beside what holds by the moves and what other laws take for granted: of whoever's parts say the same.
use Rattle.std.specs.Prelude.{◌≡◌, ◌≤◌, ◌<◌, ℕ, true, false, not, ◌+◌, ◌==◌, length, nat_lt}
use Rattle.exec_words.specs.Queue.{Queue, room_of}
use Rattle.exec_machine.specs.{declared.config.Configuration.Configuration, Progress.is_anyone_closing, Ranges.ring_size, Tests.{is_asleep, is_open, is_ready}, World.{own_of, seat_of, sleeper_of, task_of}}
use Rattle.exec_moves.specs.{declared.{handing.InPush.InPush, idling.InScan.InScan, place.{InPick.InPick, InPoll.InPoll, Place.Place}}, Counts.one_if, Plays.{Playing, desk_of}, Seen.serves_at, Slots.is_in_slots, State.queue_of}
use Rattle.exec_rest.specs.Rested.{is_in_pool, place_at}
use Rattle.exec_progress.specs.Going.{KnowsAside, KnowsTail, is_of_closing}

-- what a place has loaded of the room of its own run queue
abbrev pub KnowsRoom : Place → Queue ℕ → Type 0
KnowsRoom (Place.Pick (InPick.TakeShare first room held)) q = room ≤ room_of q
KnowsRoom (Place.Push (InPush.StoreValue length) b) q = 0 < room_of q
KnowsRoom (Place.Scan InScan.LoadScanHead) q = Unit {0}
KnowsRoom (Place.Scan p) q = 128 ≤ room_of q
KnowsRoom _ q = Unit {0}

module _ (c : Configuration) (x : Playing) where
  pub record IsGranted : Type 0 where
    pub workers : 0 < c.workers
    pub ring : nat_lt 0 (ring_size c) ≡ true
    -- the first workers are those of the pool
    pub pool : (i : ℕ) → i < length x.world.common.seats → is_in_pool c x i ≡ nat_lt i c.workers
    -- who is open isn't in a closing
    pub opened : (i : ℕ) → is_open (seat_of x.world.common i).phase ≡ true → is_of_closing (place_at c x i) ≡ false
    -- the machine has of each whether it is serving as its place says, and it sampled no later moment than the clock's
    pub serves : (i : ℕ) → (own_of x.world i).serving ≡ serves_at (place_at c x i)
    pub sampled : (i : ℕ) → (own_of x.world i).sampled ≤ x.world.common.clock
    -- while nobody closes, the task whose poll begins is to be polled
    pub ready : (i t : ℕ) → is_open (seat_of x.world.common i).phase ≡ true → is_anyone_closing x.world ≡ false → place_at c x i ≡ Place.Poll t InPoll.BeginPoll
        → is_ready (task_of x.world.common t).phase ≡ true
    -- there is a search count for who holds one, and for who has claimed some of its queue
    pub counted : (i : ℕ) → one_if (desk_of c x i).searching + one_if (not ((queue_of x.things i).gap == 0)) ≤ x.things.idle.count
    -- each sleeper of an open worker stands in a slot
    pub beds : (i z : ℕ) → is_open (seat_of x.world.common i).phase ≡ true → is_asleep i (sleeper_of x.world.common z) ≡ true → is_in_slots z (desk_of c x i).timers ≡ true
    pub room : (i : ℕ) → KnowsRoom (place_at c x i) (queue_of x.things i)
    pub aside : (i : ℕ) → KnowsAside (place_at c x i) (queue_of x.things i)
    pub claims : (i : ℕ) → KnowsTail c x.things (place_at c x i)
    pub few : (i : ℕ) → length (desk_of c x i).loot ≤ 128
    -- ends are sent elsewhere once
    pub results : (i : ℕ) → length (desk_of c x i).results ≤ length x.world.common.requests
    pub completions : (i : ℕ) → length (desk_of c x i).completions ≤ length x.world.common.sleepers
