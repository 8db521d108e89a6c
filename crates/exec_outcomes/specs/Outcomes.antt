-- What a list of results means for a request.
use Rattle.std.specs.{Prelude.{ℕ, Bool, true, false, not, ◌+◌, ◌%◌, ◌==◌, ◌||◌, ◌&&◌, ◌≡◌, List, [], ◌∷◌, Option, Some, None, is_some, if◌then◌else◌, nat_le, nat_lt, filter, find, map, sum_by}, List.{list_any, after_first}}
use Rattle.exec_base.specs.declared.error.{Error.{Error, TheVariants.{Timeout, SendFailed, RecvFailed, ReadFailed, WriteFailed, ConnectionFailed, BlobInsufficientLength, Io}}, Cause.TheVariants.Code}
use Rattle.exec_outcomes.specs.declared.outcome.{Kind.{Kind, TheVariants.{Poll, Send, Recv, Fill, Connect, Read, Hint, Direct, Write, Dsync, Many, Sync}}, OpResult.{OpResult, TheVariants.{Count, Errno}}, Judged.Judged, Outcome.{Outcome, TheVariants.{Success, Failure}}}

-- What a request asks for, as far as its results go: how many bytes it moves (a connect, a poll and a sync move
-- none, and count as 1), and how many lie before them in the aligned range of a direct read (none for all others).
pub record Asked : Type 0 where
  pub kind : Kind
  pub length : ℕ
  pub skip : ℕ

-- A request has one part or two: a direct read may end as a buffered read of its range, and a write with a
-- trailing sync ends as a sync. A part is done once so many bytes were moved.
pub record Part : Type 0 where
  pub kind : Kind
  pub length : ℕ

abbrev pub first_length : Kind → ℕ → ℕ → ℕ
first_length Direct length skip = skip + length
first_length _ length skip = length

abbrev pub first_part : Asked → Part
first_part asked = record { kind = asked.kind; length = first_length asked.kind asked.length asked.skip }

abbrev pub second_kind : Kind → Kind
second_kind Direct = Read
second_kind Many = Sync
second_kind kind = kind

abbrev pub second_part : Asked → Part
second_part asked = record { kind = second_kind asked.kind; length = asked.length }

abbrev pub is_connect : Kind → Bool
is_connect Connect = true
is_connect _ = false

-- Results that say nothing of the request, so that the same is asked for again: an interrupted call (EINTR, 4),
-- one that would have had to wait (EAGAIN, 11), and a connect that is still under way (EALREADY, 114).
abbrev pub is_transient : Kind → OpResult → Bool
is_transient kind (Count n) = false
is_transient kind (Errno c) = (is_connect kind && (c == 114)) || (c == 4) || (c == 11)

abbrev pub is_unsupported : OpResult → Bool
is_unsupported (Count n) = false
is_unsupported (Errno c) = c == 95

-- the kernel refused the hint of an operation (EOPNOTSUPP, 95)
abbrev pub refuses_hint : Judged → Bool
refuses_hint r = r.hinted && is_unsupported r.result

abbrev pub without_first : {X : Type 0} → (X → Bool) → List X → List X
without_first p [] = []
without_first p (x ∷ xs) = if p x then xs else x ∷ without_first p xs

-- the results that say something: the first refusal of a hint is no more than a word to go on without it
abbrev pub lasting : Kind → List Judged → List Judged
lasting kind results = without_first refuses_hint (filter (λ r. not (is_transient kind r.result)) results)

abbrev pub bytes_of : OpResult → ℕ
bytes_of (Count n) = n
bytes_of (Errno c) = 0

abbrev pub is_positive : OpResult → Bool
is_positive (Count n) = nat_lt 0 n
is_positive (Errno c) = false

-- the bytes that the results moved
abbrev pub moved_by : List Judged → ℕ
moved_by results = sum_by (λ r. bytes_of r.result) results

-- each result, with the bytes that were moved when it had come
abbrev pub with_totals : ℕ → List Judged → List (Judged × ℕ)
with_totals before [] = []
with_totals before (r ∷ rs) = (r, before + bytes_of r.result) ∷ with_totals (before + bytes_of r.result) rs

abbrev pub results_in : List (Judged × ℕ) → List Judged
results_in rs = map (λ r. r.0) rs

-- kinds for which any count is all that was asked for
abbrev pub takes_any : Kind → Bool
takes_any Recv = true
takes_any Connect = true
takes_any Poll = true
takes_any Sync = true
takes_any _ = false

-- kinds whose results count bytes
abbrev pub moves_bytes : Kind → Bool
moves_bytes Connect = false
moves_bytes Poll = false
moves_bytes Sync = false
moves_bytes _ = true

-- this result did the last that a part asks for
abbrev pub completes : Part → Judged × ℕ → Bool
completes part r = is_positive r.0.result && (takes_any part.kind || nat_le part.length r.1)

-- a result decides a part where it moved nothing or completes it
abbrev pub decides : Part → Judged × ℕ → Bool
decides part r = not (is_positive r.0.result) || completes part r

-- A direct read ends where its operation was cancelled (ECANCELED, 125), and goes on from aligned bytes.
abbrev pub suits_direct : OpResult → Bool
suits_direct (Count n) = nat_lt 0 n && (n % 4096 == 0)
suits_direct (Errno c) = c == 125

-- At this result the request passes on to its second part: a direct read where the result neither completes nor
-- suits it, and a write with a trailing sync where its bytes are written.
abbrev pub passes_on : Kind → Part → Judged × ℕ → Bool
passes_on Direct part r = not (completes part r || suits_direct r.0.result)
passes_on Many part r = completes part r
passes_on _ part r = false

-- at this result the first part is over
abbrev pub stops : Asked → Judged × ℕ → Bool
stops asked r = decides (first_part asked) r || passes_on asked.kind (first_part asked) r

-- an error of an operation, where cancellation of the request had been asked for, that says no more than that
abbrev pub unless_canceled : ℕ → Bool → Error → Outcome
unless_canceled c cancelled e = Failure (if (c == 125) && cancelled then Timeout else e)

-- what the deciding result of a part means
abbrev pub verdict_of_count : Kind → Bool → Outcome
verdict_of_count Connect some = if some then Failure ConnectionFailed else Success
verdict_of_count Poll some = Success
verdict_of_count Sync some = Success
verdict_of_count Send some = if some then Success else Failure SendFailed
verdict_of_count Recv some = if some then Success else Failure RecvFailed
verdict_of_count Fill some = if some then Success else Failure RecvFailed
verdict_of_count Write some = if some then Success else Failure WriteFailed
verdict_of_count Dsync some = if some then Success else Failure WriteFailed
verdict_of_count Many some = if some then Success else Failure WriteFailed
verdict_of_count Read some = if some then Success else Failure BlobInsufficientLength
verdict_of_count Hint some = if some then Success else Failure BlobInsufficientLength
verdict_of_count Direct some = if some then Success else Failure BlobInsufficientLength

-- a connect of what is connected already (EISCONN, 106) has its end
abbrev pub verdict_of_error : Kind → ℕ → Bool → Outcome
verdict_of_error Connect c cancelled = if c == 106 then Success else unless_canceled c cancelled (Io (Code c))
verdict_of_error Poll c cancelled = unless_canceled c cancelled (Io (Code c))
verdict_of_error Sync c cancelled = Failure (Io (Code c))
verdict_of_error Send c cancelled = unless_canceled c cancelled SendFailed
verdict_of_error Recv c cancelled = unless_canceled c cancelled RecvFailed
verdict_of_error Fill c cancelled = unless_canceled c cancelled RecvFailed
verdict_of_error Write c cancelled = Failure WriteFailed
verdict_of_error Dsync c cancelled = Failure (Io (Code c))
verdict_of_error Many c cancelled = Failure WriteFailed
verdict_of_error Read c cancelled = Failure ReadFailed
verdict_of_error Hint c cancelled = Failure ReadFailed
verdict_of_error Direct c cancelled = Failure ReadFailed

abbrev pub verdict_of : Kind → OpResult → Bool → Outcome
verdict_of kind (Count n) cancelled = verdict_of_count kind (nat_lt 0 n)
verdict_of kind (Errno c) cancelled = verdict_of_error kind c cancelled

abbrev pub verdict : Kind → Judged → Outcome
verdict kind r = verdict_of kind r.result r.cancelled

abbrev pub last_is_cancelled : List Judged → Bool
last_is_cancelled [] = false
last_is_cancelled (r ∷ []) = r.cancelled
last_is_cancelled (r ∷ next ∷ rs) = last_is_cancelled (next ∷ rs)

-- Where no result decides, a request whose cancellation was asked for is given up, and another needs one
-- more operation.
abbrev pub outcome_by : Kind → Bool → Option (Judged × ℕ) → Option Outcome
outcome_by kind given_up (Some r) = Some (verdict kind r.0)
outcome_by kind given_up None = if given_up then Some (Failure Timeout) else None

-- what results say of a part
abbrev pub outcome_of_part : Part → Bool → List (Judged × ℕ) → Option Outcome
outcome_of_part part given_up rs = outcome_by part.kind given_up (find (decides part) rs)

-- the outcome by the result at which the first part is over, and by those that come later
abbrev pub outcome_by_stop : Asked → Bool → Option (Judged × ℕ) → List Judged → Option Outcome
outcome_by_stop asked given_up None later = outcome_by asked.kind given_up None
outcome_by_stop asked given_up (Some r) later =
    if passes_on asked.kind (first_part asked) r
    then outcome_of_part (second_part asked) given_up (with_totals 0 later)
    else Some (verdict asked.kind r.0)

-- How far a request has come: the bytes that its present part moved, whether that is the second part, and
-- whether its operations may still have the hint.
pub record Cursor : Type 0 where
  pub moved : ℕ
  pub switched : Bool
  pub hinted : Bool

-- the outcome that results give which come after so much, or None where another operation is needed
abbrev pub outcome_from : Asked → Cursor → List Judged → Option Outcome
outcome_from asked cursor results =
    let rs = with_totals cursor.moved (lasting asked.kind results) in
    let given_up = last_is_cancelled results in
    if cursor.switched
    then outcome_of_part (second_part asked) given_up rs
    else outcome_by_stop asked given_up (find (stops asked) rs) (results_in (after_first (stops asked) rs))

abbrev pub at_the_start : Cursor
at_the_start = record { moved = 0; switched = false; hinted = true }

-- the outcome that all results of a request give, or None where another operation is needed
abbrev pub outcome_of : Asked → List Judged → Option Outcome
outcome_of asked results = outcome_from asked at_the_start results

-- the outcome that one more result gives
abbrev pub outcome_next : Asked → Cursor → Judged → Option Outcome
outcome_next asked cursor r = outcome_from asked cursor (r ∷ [])

-- one more result passes on to the second part
abbrev pub moves_on : Asked → Cursor → Judged → Bool
moves_on asked cursor r =
    not cursor.switched && list_any (passes_on asked.kind (first_part asked)) (with_totals cursor.moved (lasting asked.kind (r ∷ [])))

abbrev pub part_now : Asked → Cursor → Part
part_now asked cursor = if cursor.switched then second_part asked else first_part asked

-- the bytes that a result adds to those of its part
abbrev pub counted_for : Part → OpResult → ℕ
counted_for part n = if moves_bytes part.kind then bytes_of n else 0

-- how far the request has come by one more result
abbrev pub cursor_next : Asked → Cursor → Judged → Cursor
cursor_next asked cursor r =
    record {
      moved = if moves_on asked cursor r then 0 else cursor.moved + counted_for (part_now asked cursor) r.result;
      switched = cursor.switched || moves_on asked cursor r;
      hinted = cursor.hinted && not (refuses_hint r);
    }

-- where the first part was over, if it was
abbrev pub stop_of : Asked → List Judged → Option (Judged × ℕ)
stop_of asked results = find (stops asked) (with_totals 0 (lasting asked.kind results))

-- the results of the present part
abbrev pub present : Asked → List Judged → List Judged
present asked results =
    if is_some (stop_of asked results)
    then results_in (after_first (stops asked) (with_totals 0 (lasting asked.kind results)))
    else lasting asked.kind results

-- A request has come so far by these results: they don't decide.
pub record HasCome (asked : Asked) (cursor : Cursor) (results : List Judged) : Type 0 where
  pub undecided : outcome_of asked results ≡ None
  pub part : cursor.switched ≡ is_some (stop_of asked results)
  pub amount : cursor.moved ≡ moved_by (present asked results)
  pub unrefused : cursor.hinted ≡ true → list_any refuses_hint results ≡ false

-- a result of an operation without the hint, that came before any cancellation; one that came after it; and one
-- of an operation with the hint
abbrev pub plainly : OpResult → Judged
plainly n = record { result = n; hinted = false; cancelled = false }

abbrev pub once_cancelled : OpResult → Judged
once_cancelled n = record { result = n; hinted = false; cancelled = true }

abbrev pub with_hint : OpResult → Judged
with_hint n = record { result = n; hinted = true; cancelled = false }
