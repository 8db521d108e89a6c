-- Rings for worked examples.
use Rattle.std.specs.Prelude.{ℕ, true, [], ◌∷◌}
use Rattle.exec_outcomes.specs.declared.outcome.OpResult.{OpResult, TheVariants.{Count, Errno}}
use Rattle.exec_request.specs.Windows.{plain_window, cancel_window, wake_window}
use Rattle.exec_ring.specs.{declared.completion.{Completion.Completion, Submission.Submission, Posted.Posted}, Rings.{RingState, fresh}}
use Rattle.exec_request.specs.declared.window.Opcode.TheVariants as opcode

-- a send of ten bytes with the user data 7, its cancel, and the wake poll
abbrev pub a_send : Submission
a_send = record { window = plain_window opcode.Send 0 10 1; user_data = 7 }

abbrev pub its_cancel : Submission
its_cancel = record { window = cancel_window 7; user_data = 4294967295 }

abbrev pub the_poll : Submission
the_poll = record { window = wake_window; user_data = 18446744073709551615 }

-- all three staged in a ring of four, and then taken in; the send alone, flying; and the poll alone
abbrev pub three_staged : RingState
three_staged = record (fresh 4) { staged = a_send ∷ its_cancel ∷ the_poll ∷ []; places = 3 }

abbrev pub without_wakes : Completion → Posted
without_wakes c = record { wakes = 0; completion = c }

abbrev pub send_flying : RingState
send_flying = record (fresh 4) { flying = a_send ∷ []; places = 3 }

abbrev pub poll_armed : RingState
poll_armed = record (fresh 4) { armed = true; places = 3 }

-- results
abbrev pub bytes : ℕ → OpResult
bytes n = Count n

abbrev pub failed_with : ℕ → OpResult
failed_with c = Errno c
