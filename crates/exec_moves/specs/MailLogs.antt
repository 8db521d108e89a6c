-- What the examples of several workers look at: states of two workers, the second of them dedicated.
use Rattle.std.specs.Prelude.{ℕ, true, false, List, [], ◌∷◌}
use Rattle.exec_outcomes.specs.declared.outcome.{Kind.TheVariants.Dsync, Outcome.TheVariants.Success}
use Rattle.exec_machine.specs.{declared.state.{Letter.Letter, MailMessage.TheVariants.CancelRequest, Request.Request, RequestPhase.TheVariants.Resolved}, World.{Common, no_operation}, Requests.new_request, Tasks.new_seat, Progress.begin, Examples.usual, Logs.a_send}
use Rattle.exec_moves.specs.{declared.{handing.AfterCancels.TheVariants.Pick, place.{AfterPermit.{AfterPermit, TheVariants.Reaped}, AfterService.TheVariants.Mail, Reaping.TheVariants.First, Service.Service}}, Plays.first_desk, Send.{Mailbox, send_cancel}, Serve.pass_permit, State.{Moved, no_word}}

-- worker zero is of the pool, worker 1 is dedicated
abbrev pub with_dedicated : Common
with_dedicated = record (begin a_send.plan).common { seats = new_seat true ∷ new_seat false ∷ [] }

-- a write of a worker, which syncs, at the gate of open 0
abbrev pub a_write : ℕ → Request
a_write worker = new_request worker (record no_operation { kind = Dsync; length = 8 })

-- one of each worker, request 0 of worker zero
abbrev pub two_writes : Common
two_writes = record with_dedicated { requests = a_write 0 ∷ a_write 1 ∷ [] }

-- the first of them is over
abbrev pub one_written : Common
one_written =
    record with_dedicated { requests = record (a_write 0) { phase = Resolved Success } ∷ a_write 1 ∷ [] }

-- a service that puts nothing off, before the mail
abbrev pub a_service : Service
a_service = record { defer = false; back = Mail }

-- what follows a permit that was given up at the end of the first reaping
abbrev pub after_reaping : AfterPermit
after_reaping = Reaped First

-- the first of the gate, which is over, leaves it
abbrev pub leaves_gate : List ℕ → Moved (List ℕ)
leaves_gate gate = pass_permit a_service after_reaping one_written (first_desk usual 0) gate

-- worker `to` is told that nobody holds this request any more
abbrev pub a_cancel : ℕ → ℕ → Letter
a_cancel to r = record { to = to; message = CancelRequest r }

-- worker zero has two letters to send, to a worker that has no message, and sends the first
abbrev pub sends_first : Moved Mailbox
sends_first =
    send_cancel usual with_dedicated Pick (record (first_desk usual 0) { letters = a_cancel 1 1 ∷ a_cancel 1 2 ∷ [] })
    (record { messages = []; word = no_word })
