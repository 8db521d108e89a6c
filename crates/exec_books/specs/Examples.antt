-- States to look at: a worker that sleeps while the kernel has its request, and the same with one thing changed; and two
-- workers that have just begun.
use Rattle.std.specs.Prelude.{List, [], ◌∷◌, None}
use Rattle.exec_outcomes.specs.declared.outcome.Kind.TheVariants.{Dsync}
use Rattle.exec_machine.specs.{declared.{state.{Request.Request, RequestPhase.TheVariants.Gated, Rest.TheVariants.Awake, Sleeper.Sleeper}, config.ScriptWord.ScriptWord as word, step.Step.Step as step}, Examples.usual, Progress.Plan, Run.first_common, Tests.{set_request, set_seat}, World.{Common, Open, Own, Seat, World, no_operation, own_of, request_of, seat_of}}
use Rattle.exec_moves.specs.{Departures.played, Plays.{Playing, first_playing, log_by_moves}}

-- a root that sends ten bytes to socket 0, which may take ten milliseconds, and waits for that
abbrev pub one_send : Plan
one_send = record { config = record usual { files = 0 }; scripts = []; root = word.Send 0 10 ∷ word.Await ∷ word.End ∷ [] }

-- Its worker has made its steps until it slept.
abbrev pub one_asleep : Playing
one_asleep = played one_send.config (first_playing one_send) (log_by_moves one_send (step.Work 0 64 ∷ []))

abbrev pub sending : World
sending = one_asleep.world

abbrev pub its_own : Own
its_own = own_of sending 0

abbrev pub its_seat : Seat
its_seat = seat_of sending.common 0

abbrev pub its_request : Request
its_request = request_of sending.common 0

-- The same with this own part and this request, or with another seat.
abbrev pub with_own : Own → Request → World
with_own me r = record { workers = me ∷ []; common = set_request sending.common 0 r }

abbrev pub with_seat : Seat → World
with_seat seat = record sending { common = set_seat sending.common 0 seat }

-- A durable write in its place, which waits for the permit of its open; and where that has this gate, while the worker is awake.
abbrev pub its_write : Request
its_write = record its_request { operation = record no_operation { kind = Dsync; length = 10 }; phase = Gated; timer = None }

abbrev pub at_gate : Own → Open → Request → World
at_gate me o r = let w = with_own me r in record w { common = record w.common { opens = o ∷ []; seats = record its_seat { rest = Awake } ∷ [] } }

-- The same beside a second worker, with sleepers.
abbrev pub beside : Own → Seat → List Sleeper → World
beside me seat zs = record { workers = its_own ∷ me ∷ []; common = record sending.common { seats = its_seat ∷ seat ∷ []; sleepers = zs } }

-- Two workers have just begun, and there are these requests.
abbrev pub begun_with : List Request → Common
begun_with rs = record (first_common (record usual { workers = 2; files = 0; sockets = 0 }) [] []) { requests = rs }
