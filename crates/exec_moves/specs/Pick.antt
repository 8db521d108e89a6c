-- Moves at the beginning of a turn: the picks from the queues, and the root flag.
use Rattle.std.specs.Prelude.{ℕ, false, ◌-◌, List, [], ◌∷◌, length, take, drop, nat_le, if◌then◌else◌}
use Rattle.exec_words.specs.{Queue.{Queue, published, room_of}, Global.share_of}
use Rattle.exec_machine.specs.{declared.{config.Configuration.Configuration, event.Event.TheVariants.Turn}, World.Common}
use Rattle.exec_moves.specs.{declared.{handing.{First.{First, First as first}, AfterCallbacks.AfterCallbacks as after, AfterPop.AfterPop as pop}, place.{Place.{Place, Place as at}, InCallbacks.InCallbacks as callback, InPick.InPick as pick}}, State.{Desk, Moved, Own, does, turns}, Callback.is_of_pool, Parts.{first_pop, polls}}

-- a turn has so many picks
abbrev pub picks_of_turn : ℕ
picks_of_turn = 64

-- a dedicated worker polls its root alone
abbrev pub first_pick : Common → ℕ → Place
first_pick s i = if is_of_pool s i then at.Pick pick.CountDown else at.TakeRootFlag

abbrev pub begin_turn : ℕ → Common → Desk → Moved Own
begin_turn i s d = turns (first_pick s i) (record d { picks = picks_of_turn }) tt

abbrev pub one_pick_less : Desk → Desk
one_pick_less d = record d { picks = d.picks - 1 }

-- The pick that brings the countdown to 0 looks at the global queue first, and sets it back.
abbrev pub count_down : Configuration → Desk → Moved Own
count_down c d =
    if nat_le d.countdown 1
    then turns (at.Pick (pick.LoadMirror first.Global)) (record (one_pick_less d) { countdown = c.interval }) tt
    else turns (first_pop c (pop.Pick first.Own)) (record (one_pick_less d) { countdown = d.countdown - 1 }) tt

abbrev pub after_empty_look : Configuration → First → Place
after_empty_look c first.Own = at.TakeRootFlag
after_empty_look c first.Global = first_pop c (pop.Pick first.Global)

-- the global queue
abbrev pub load_mirror : Configuration → First → Desk → List ℕ → Moved (List ℕ)
load_mirror c f d [] = turns (after_empty_look c f) d []
load_mirror c f d (t ∷ global) = turns (at.Pick (pick.LoadHead f)) d (t ∷ global)

-- the run queue
abbrev pub load_head : First → Desk → Queue ℕ → Moved (Queue ℕ)
load_head f d q = turns (at.Pick (pick.TakeShare f (room_of q) (length q.values))) d q

-- the global queue, with the tail of the run queue that the section stores: the rest of the share goes there
pub record Queues : Type 0 where
  pub global : List ℕ
  pub queue : Queue ℕ

abbrev pub queues_after_share : ℕ → Queues → Queues
queues_after_share share q = record { global = drop share q.global; queue = published q.queue (drop 1 (take share q.global)) }

abbrev pub take_share : Configuration → First → ℕ → ℕ → Desk → Queues → Moved Queues
take_share c f room held d q = taken q.global
  where
    taken : List ℕ → Moved Queues
    taken [] = turns (after_empty_look c f) d q
    taken (t ∷ _) = does Turn (polls t d) (queues_after_share (share_of (length q.global) c.workers room held) q)

-- the root flag is its own
abbrev pub take_root_flag : ℕ → Desk → Moved Own
take_root_flag root d =
    if d.root_ready then does Turn (polls root (record d { root_ready = false })) tt
    else turns (at.Callbacks callback.TakeBatch after.Look) d tt
