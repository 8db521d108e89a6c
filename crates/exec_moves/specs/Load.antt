-- Moves of the loads of the own words, and of the tests that follow.
use Rattle.std.specs.Prelude.{ℕ, Bool, false, not, ◌==◌, ◌&&◌, ◌||◌, List, nat_le, nat_lt, Option, Some, None, if◌then◌else◌}
use Rattle.exec_words.specs.{Queue.Queue, declared.word.PureWord.PureWord}
use Rattle.exec_machine.specs.{declared.config.Configuration.Configuration, Ranges.ring_size, Tests.is_empty, World.{Common, Own as Books}}
use Rattle.exec_moves.specs.{declared.{place.{Found.Found, Round.{Round, Round as round}, Place.{Place, Place as at}, InLoads.InLoads as load, InService.InService as service}, handing.AfterLeave.AfterLeave as leave}, State.{Desk, Moved, Own, turns}, Callback.{has_callbacks, has_requests, serve}}
use Rattle.exec_moves.specs.declared.place.AfterService.TheVariants as back

-- with one more thing that may be ready
abbrev pub found_also : Found → Bool → Found
found_also f more = record { ready = f.ready || more }

-- the run queue
abbrev pub load_own_head : Round → Desk → Queue ℕ → Moved (Queue ℕ)
load_own_head r d q = turns (at.Loads (load.LoadOwnMirror (record { ready = not (is_empty q.values) })) r) d q

-- the global queue
abbrev pub load_own_mirror : Round → Found → Desk → List ℕ → Moved (List ℕ)
load_own_mirror r f d global = turns (at.Loads (load.LoadOwnWord (found_also f (not (is_empty global)))) r) d global

-- a batch of messages was published that it hasn't taken
abbrev pub has_mail : Desk → PureWord → Bool
has_mail d w = not (w.batch == d.processed)

-- something is ready, with what the loads have found
abbrev pub is_ready : Books → Found → Desk → Bool
is_ready me f d = f.ready || d.root_ready || has_callbacks me d || not (is_empty d.batch)

abbrev pub after_loads : Books → Round → Found → Desk → Place
after_loads me round.First f d = at.Service service.Sample (record { defer = not (is_ready me f d); back = back.Mail })
after_loads me round.Second f d = at.TestForWork f

-- the wake word
abbrev pub load_own_word : Books → Round → Found → Desk → PureWord → Moved PureWord
load_own_word me r f d w = turns (after_loads me r (found_also f (has_mail d w)) d) d w

-- a request may be staged: one is Queued, and fewer are in flight than the ring has places
abbrev pub may_stage : Configuration → Books → Bool
may_stage c me = not (is_empty me.ready) && nat_lt me.in_flight (ring_size c)

-- a deadline is to be enrolled, a cancel to be staged, or a request may be
abbrev pub has_submissions : Configuration → Books → Bool
has_submissions c me = not (is_empty me.unenrolled) || not (is_empty me.cancels) || may_stage c me

-- the next turn, after what the service of this one has put off, where it has
abbrev pub next_turn : Configuration → ℕ → Books → Common → Desk → Place
next_turn c i me s d =
    if (d.put_off && has_requests i s) || (d.may_put_off && has_submissions c me) then serve back.Begin else at.BeginTurn

-- the same, once a held search count is returned
abbrev pub leaves_for_turn : Configuration → ℕ → Books → Common → Desk → Place
leaves_for_turn c i me s d = if d.searching then at.LeaveSearch leave.Begin else next_turn c i me s d

abbrev pub test_for_work : Configuration → ℕ → Books → Common → Found → Desk → Moved Own
test_for_work c i me s f d =
    if is_ready me f d || has_submissions c me then turns (leaves_for_turn c i me s d) d tt else turns at.ReadClock d tt

-- the moment has come
abbrev pub has_come : ℕ → Option ℕ → Bool
has_come clock None = false
has_come clock (Some moment) = nat_le moment clock
