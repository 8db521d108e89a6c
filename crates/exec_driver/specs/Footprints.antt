-- The window of all bytes that a request moves.
use Rattle.std.specs.Prelude.{ℕ, false, ◌-◌, ◌^◌, nat_lt, if◌then◌else◌}
use Rattle.exec_request.specs.{Requests.window_by, Buffers.{length_of, moved_of}, declared.{buffers.WriteBuffers.WriteBuffers, request.Request.{Request, TheVariants.{Send, WriteAt}}, window.Window.Window}}

abbrev pub widened : Window → ℕ → Window
widened w count = if nat_lt count (2 ^ 32) then (record w { length = count }) else w

abbrev pub bytes_left : WriteBuffers → ℕ
bytes_left b = length_of b - moved_of b

abbrev pub footprint_of : Request → Window
footprint_of (Send s) = widened (window_by false (Send s)) (bytes_left s.write)
footprint_of (WriteAt w) = widened (window_by false (WriteAt w)) (bytes_left w.write)
footprint_of r = window_by false r
