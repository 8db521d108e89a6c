-- What an enter does to a worker and to the records of its requests.
use Rattle.std.specs.{Prelude.{◌≡◌, ℕ, ◌+◌, ◌-◌, ◌*◌, ◌/◌, ◌^◌, ◌<◌, ◌≤◌, ◌==◌, ◌&&◌, ◌||◌, Bool, true, false, not, List, [], ◌∷◌, length, slice_get, slice_set, Option, Some, None, if◌then◌else◌}, List.list_any, Vec.vec_capacity}
use Rattle.exec_parts.specs.{Words.{Opcode, entered, Submission, has_pending, Event, Enter, Busy, flown, Service, InService, Reaping, Place}, declared.parts.{record.Record.Record, shared.Shared.Shared, worker.Worker.Worker}, Tests.{has_open_requests, is_anything_told}, View.driver_of}
-- how a request ends by an error
pub use Rattle.exec_outcomes.specs.Accounts.{by_kept as outcome_of_error}

-- each number is of a record
abbrev pub AreKnown : List ℕ → List Record → Type 0
AreKnown [] rs = Unit {0}
AreKnown (k ∷ ks) rs = (k < length rs) × AreKnown ks rs

-- the record of a request that flies where it was Staged
abbrev pub flies : Record → Record
flies r = record r { shown = flown r.shown.worker r.shown }

-- the records, of which that of this number becomes what a function makes of it
abbrev pub changed_in : List Record → ℕ → (Record → Record) → Option Record → List Record
changed_in rs k change None = rs
changed_in rs k change (Some r) = slice_set rs k (change r)

abbrev pub changed_at : List Record → ℕ → (Record → Record) → List Record
changed_at rs k change = changed_in rs k change (slice_get rs k)

-- the records, of which those of these numbers fly, the last first
abbrev pub flown_in : List ℕ → List Record → List Record
flown_in [] rs = rs
flown_in (k ∷ ks) rs = changed_at (flown_in ks rs) k flies

-- the number stands in the list
abbrev pub is_one_of : ℕ → List ℕ → Bool
is_one_of k ks = list_any (λ q. q == k) ks

-- the entry of a cancel
abbrev pub is_cancel : Opcode → Bool
is_cancel Opcode.Cancel = true
is_cancel _ = false

-- how many cancels stand there
abbrev pub cancels_in : List Submission → ℕ
cancels_in [] = 0
cancels_in (e ∷ es) = (if is_cancel e.window.kind then 1 else 0) + cancels_in es

-- each cancel has the user data of cancels
abbrev pub AreTagged : List Submission → Type 0
AreTagged [] = Unit {0}
AreTagged (e ∷ es) = (is_cancel e.window.kind ≡ true → e.user_data ≡ 4294967295) × AreTagged es

-- The kernel takes in all that is staged, or nothing where it is busy.
pub record EntersRing {B : Type 0} (w : Worker) (s : Shared B) (e : Event) (w' : Worker) (s' : Shared B) : Type 0 where
  pub event : e ≡ (if (driver_of w).ring.busy then Busy else Enter)
  pub driver : driver_of w' ≡ record (driver_of w) { ring = entered (driver_of w).ring; landings = (driver_of w').landings }
  pub staged : w'.names.staged.items ≡ (if (driver_of w).ring.busy then w.names.staged.items else [])
  pub untold : w'.names.untold.items ≡ (if (driver_of w).ring.busy then w.names.untold.items else [])
  pub staged_room : vec_capacity w'.names.staged ≡ vec_capacity w.names.staged
  pub untold_room : vec_capacity w'.names.untold ≡ vec_capacity w.names.untold
  pub records : s'.requests.items ≡ (if (driver_of w).ring.busy then s.requests.items else flown_in w.names.staged.items s.requests.items)
  pub worker : w' ≡ record w { home = record w.home { driver = w'.home.driver }; names = record w.names { staged = w'.names.staged; untold = w'.names.untold } }
  pub shared : s' ≡ record s { requests = s'.requests }

-- DEADLINES

-- the moment of the first tick that begins at a deadline or after it, of a wheel that began at this moment
abbrev pub first_tick : ℕ → ℕ → ℕ → ℕ
first_tick start tick deadline = start + ((deadline - start + (tick - 1)) / tick) * tick

-- a deadline that isn't before the wheel began, nor at the end of time
abbrev pub IsOnWheel : ℕ → ℕ → Option ℕ → Type 0
IsOnWheel start tick None = ⊥
IsOnWheel start tick (Some deadline) = (start ≤ deadline) × (deadline + tick < 2 ^ 64)

-- THE END OF A STAGING

-- an enter follows, unless it may be put off and nothing is to be told or staged
abbrev pub enters_after : Service → Worker → Bool
enters_after v w = has_open_requests w && (not v.defer || is_anything_told w || has_pending (driver_of w))

abbrev pub with_staging_ended : Service → Worker → Worker
with_staging_ended v w =
    record w {
      place = Place.Service (if enters_after v w then InService.EnterLast else InService.Reap Reaping.Last) v;
      put_off = record { defer = v.defer; «enter» = has_open_requests w && not (enters_after v w) };
    }
