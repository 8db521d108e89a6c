-- Windows: those of requests that have no place in a file, and those that belong to no request.
use Rattle.std.specs.Prelude.{ℕ, Bool, true, false, ◌-◌, ◌^◌}
use Rattle.exec_request.specs.declared.window.{Window.Window, Opcode.{Opcode, TheVariants.{Send, Recv, Read, Write, Cancel, Wake}}}

-- an operation that has no place in a file, and a sync
abbrev pub plain_window : Opcode → ℕ → ℕ → ℕ → Window
plain_window kind target length chunks =
    record {
      kind = kind;
      target = target;
      offset = 0;
      length = length;
      chunks = chunks;
      hint = false;
      direct = false;
      dsync = false;
    }

-- the cancel of the operation with this user data
abbrev pub cancel_window : ℕ → Window
cancel_window user_data = record (plain_window Cancel 0 0 0) { offset = user_data }

abbrev pub wake_window : Window
wake_window = plain_window Wake 0 0 0

-- bytes go out of the request's buffers
abbrev pub moves_out : Opcode → Bool
moves_out Send = true
moves_out Write = true
moves_out _ = false

-- bytes come into the request's buffer
abbrev pub moves_in : Opcode → Bool
moves_in Recv = true
moves_in Read = true
moves_in _ = false

-- the largest count that is lawful: the bytes of the window, and what an i32 can say where it moves none
abbrev pub most_for : Opcode → ℕ → ℕ
most_for Send length = length
most_for Recv length = length
most_for Read length = length
most_for Write length = length
most_for _ length = 2 ^ 31 - 1

abbrev pub most_of : Window → ℕ
most_of window = most_for window.kind window.length
