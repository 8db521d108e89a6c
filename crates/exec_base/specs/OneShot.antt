-- What the calls of a one-shot answer, and how it stands after them.
use Rattle.std.specs.Prelude.{ℕ, Option, Some, None, Result, Ok, Err}
use Rattle.exec_base.specs.declared.{error.Error.{Error, Error as error}, one_shot.OneShotState.{OneShotState, TheVariants.{Open, Sent, Closed}}}

module _ {T : Type 0} where
  -- the value comes back unless the one-shot is open
  abbrev pub send_answer : OneShotState T → T → Result (Unit {0}) T
  send_answer Open value = Ok tt
  send_answer (Sent _) value = Err value
  send_answer Closed value = Err value

  -- an open one-shot holds what is sent
  abbrev pub sent : OneShotState T → T → OneShotState T
  sent Open value = Sent value
  sent (Sent first) value = Sent first
  sent Closed value = Closed

  -- nothing yet, the value, or that it is closed
  abbrev pub poll_answer : OneShotState T → Result (Option T) Error
  poll_answer Open = Ok None
  poll_answer (Sent value) = Ok (Some value)
  poll_answer Closed = Err error.Closed

  -- the value is gone once it was answered
  abbrev pub polled : OneShotState T → OneShotState T
  polled Open = Open
  polled (Sent _) = Closed
  polled Closed = Closed

  -- a close ends the wait, and keeps a value that was sent
  abbrev pub closed : OneShotState T → OneShotState T
  closed Open = Closed
  closed (Sent value) = Sent value
  closed Closed = Closed

-- an example: a one-shot for a number, to which nothing was sent yet
abbrev pub waiting : OneShotState ℕ
waiting = Open
