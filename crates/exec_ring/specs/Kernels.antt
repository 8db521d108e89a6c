-- What each call does to a ring, and what its kernel does.
use Rattle.std.specs.{Prelude.{◌≡◌, ℕ, Bool, true, false, not, ◌+◌, ◌-◌, ◌^◌, ◌==◌, ◌&&◌, List, [], ◌∷◌, ◌++◌, length, fold, min, nat_lt, Option, Some, None, if◌then◌else◌}, List.{list_any, remove, slice_get}}
use Rattle.exec_outcomes.specs.{declared.outcome.OpResult.OpResult, Lawful.is_lawful}
use Rattle.exec_request.specs.{declared.window.{Opcode.{Opcode, TheVariants.{Cancel, Wake}}, Window.Window}, Windows.most_of}
use Rattle.exec_ring.specs.{declared.{completion.{Completion.Completion, Submission.Submission, Posted.Posted}, ring.Entered.{Entered, TheVariants.{Taken, Busy}}}, Completions.{is_operation, wake_completion, acknowledged, completed}, Rings.RingState}

-- one more entry in the submission queue
abbrev pub with_entry : RingState → Window → ℕ → RingState
with_entry s window user_data = record s { staged = s.staged ++ record { window = window; user_data = user_data } ∷ [] }

-- one more completion
abbrev pub with_completion : RingState → Completion → RingState
with_completion s c = record s { posted = s.posted ++ record { wakes = s.wakes; completion = c } ∷ []; wakes = 0 }

-- A wake of a poll that the kernel has: one more completion. It ends the poll where it was to be the last. The count
-- of those that don't stands still at the end of u64.
abbrev pub woken : RingState → RingState
woken s =
    if s.last
    then with_completion (record s { armed = false; last = false }) (wake_completion false)
    else record s { wakes = min (s.wakes + 1) (2 ^ 64 - 1) }

-- a wake is raised: it is there at once where the kernel has the wake poll, and else kept until it has
abbrev pub with_wake : RingState → RingState
with_wake s = if s.armed then woken s else record s { raised = true }

-- the kernel has the wake poll, and tells a wake that was kept
abbrev pub with_poll : RingState → RingState
with_poll s = if s.raised then woken (record s { armed = true; raised = false }) else record s { armed = true }

-- The kernel takes an entry in: a cancel is acknowledged at once, whatever it cancels; the wake poll is armed; and an
-- operation flies.
abbrev pub taken_as : Opcode → RingState → Submission → RingState
taken_as Cancel s e = with_completion s (acknowledged e.user_data)
taken_as Wake s e = with_poll s
taken_as _ s e = record s { flying = s.flying ++ e ∷ [] }

abbrev pub taken_in : RingState → Submission → RingState
taken_in s e = taken_as e.window.kind s e

-- the kernel takes all entries in, in their order
abbrev pub all_taken : RingState → RingState
all_taken s = fold taken_in (record s { staged = [] }) s.staged

-- an enter takes all entries in, or nothing where the kernel was set busy
abbrev pub entered : RingState → RingState
entered s = if s.busy then record s { busy = false } else all_taken s

abbrev pub answer_of_enter : RingState → Entered
answer_of_enter s = if s.busy then Busy else Taken (length s.staged)

-- the first completion, and what is left without it
abbrev pub next_in : List Posted → ℕ → Option Completion
next_in [] wakes = if nat_lt 0 wakes then Some (wake_completion true) else None
next_in (p ∷ ps) wakes = Some (if nat_lt 0 p.wakes then wake_completion true else p.completion)

abbrev pub posted_left : List Posted → List Posted
posted_left [] = []
posted_left (p ∷ ps) = if nat_lt 0 p.wakes then record p { wakes = p.wakes - 1 } ∷ ps else ps

abbrev pub wakes_left : List Posted → ℕ → ℕ
wakes_left [] wakes = wakes - 1
wakes_left (p ∷ ps) wakes = wakes

abbrev pub next_completion : RingState → Option Completion
next_completion s = next_in s.posted s.wakes

abbrev pub reaped : RingState → RingState
reaped s = record s { posted = posted_left s.posted; wakes = wakes_left s.posted s.wakes }

-- no completion is there
abbrev pub has_none : List Posted → Bool
has_none [] = true
has_none (p ∷ ps) = false

abbrev pub is_quiet : RingState → Bool
is_quiet s = has_none s.posted && (s.wakes == 0)

-- the place of the last that passes a test, or how many there are where none does
abbrev pub last_place : {X : Type 0} → (X → Bool) → List X → ℕ
last_place p [] = 0
last_place p (x ∷ xs) = if p x && not (list_any p xs) then 0 else 1 + last_place p xs

-- the operation with this user data that the kernel has: the last that it took in, if any
abbrev pub is_of : ℕ → Submission → Bool
is_of user_data e = e.user_data == user_data

abbrev pub flight_place : RingState → ℕ → ℕ
flight_place s user_data = last_place (is_of user_data) s.flying

abbrev pub flight_of : RingState → ℕ → Option Submission
flight_of s user_data = slice_get s.flying (flight_place s user_data)

-- the kernel may end an operation with this result: it has it, and the result is one that its window allows
abbrev pub allows : Option Submission → OpResult → Bool
allows None n = false
allows (Some e) n = is_lawful (most_of e.window) n

abbrev pub may_land : RingState → ℕ → OpResult → Bool
may_land s user_data n = allows (flight_of s user_data) n

-- the window of what may end so
abbrev pub allowed_window : Option Submission → OpResult → Option Window
allowed_window None n = None
allowed_window (Some e) n = if is_lawful (most_of e.window) n then Some e.window else None

-- the ring without that operation
abbrev pub without_flight : RingState → ℕ → RingState
without_flight s user_data = record s { flying = remove s.flying (flight_place s user_data) }

-- an operation has ended with this result
abbrev pub landed : RingState → ℕ → OpResult → RingState
landed s user_data n = with_completion (without_flight s user_data) (completed user_data n)

-- what else ends within an enter, once it took its entries in: each may end, and they end in this order
pub record Landing : Type 0 where
  pub user_data : ℕ
  pub result : OpResult

abbrev pub all_landed : List Landing → RingState → RingState
all_landed [] s = s
all_landed (l ∷ ls) s = all_landed ls (landed s l.user_data l.result)

abbrev pub MayAllLand : List Landing → RingState → Type 0
MayAllLand [] s = Unit {0}
MayAllLand (l ∷ ls) s = (may_land s l.user_data l.result ≡ true) × MayAllLand ls (landed s l.user_data l.result)

abbrev pub entered_with : List Landing → RingState → RingState
entered_with ls s = if s.busy then record s { busy = false } else all_landed ls (all_taken s)

-- The wake poll has the user data of wakes, a cancel that of cancels, and an operation neither.
abbrev pub may_have : Opcode → ℕ → Bool
may_have Wake user_data = user_data == 18446744073709551615
may_have Cancel user_data = user_data == 4294967295
may_have _ user_data = is_operation user_data
