-- A closing worker lets go of a request: the desk, the move, the record.
use Rattle.std.proofs.{Common.{◌≡◌, ℕ, ◌≤◌, ◌&&◌, Bool, true, false, not, List, [], ◌∷◌, length, Option, Some, None, IsSome, refl, arith, if◌then◌else◌}, lemmas.{Bool.false≢true, List.length-append}}
use Rattle.exec_waiters.specs.{States.is_held_at, declared.waiter.Entry.{Entry, TheVariants.{Pending, Ready}}}
use Rattle.exec_machine.specs.{declared.{event.Event.TheVariants.Orphan, state.{Request.Request, RequestPhase.RequestPhase}}, Requests.{dropped, ends_by_drop, joined_if, outcome_of_drop}, Same.same_end, Tests.{is_applied, is_resolved}, World.{Common, request_of}}
use Rattle.exec_moves.specs.{Close.{after_letting_go, first_asleep, first_held, held_after, orphan}, Slots.is_in_slots, State.{Desk, does, goes}, Told.{awaits_no_more, one_output, one_result, told_of_drop, without_request, woken_where_awaited}}
use Rattle.exec_parts.specs.{declared.parts.{mail.Reply.Reply, record.Record.Record}, Awaits.drops, Records.outcome_in, View.awaits_entry}
use Rattle.exec_invariants.{specs.{Holding.thing_of, Places.one_if as one_when}, proofs.LetKept.without_waiter}

-- THE DESK: what is told besides a wake is told with it too

-- by what is known of it
abbrev told_as : Bool → Bool → Bool → Bool → ℕ → Desk → Desk
told_as a b c f k d =
    if not a then d
    else if b then one_output (without_request k d)
    else if c then one_output (without_request k (if f then one_result k d else awaits_no_more k d))
    else if f then one_result k d else awaits_no_more k d

told_wakes : (a b c f : Bool) (k : ℕ) (d : Desk) (ws : List ℕ) → told_as a b c f k (record d { wakes = ws }) ≡ record (told_as a b c f k d) { wakes = ws }
told_wakes = grind arith

pub drop_wakes : (k : ℕ) (r : Request) (d : Desk) (ws : List ℕ) → told_of_drop k r (record d { wakes = ws }) ≡ record (told_of_drop k r d) { wakes = ws }
drop_wakes k r d ws = told_wakes (r.observed && is_in_slots k d.requests) (is_resolved r.phase) (ends_by_drop r) (is_applied r.forwarding) k d ws

-- THE MOVE
pub orphan_found : (i : ℕ) (s : Common) (d : Desk) (r : ℕ) → first_held s d ≡ Some r → orphan i s d
    ≡ does (Orphan r (outcome_of_drop (request_of s r))) (goes (after_letting_go (held_after r s d) (first_asleep i s d)) (told_of_drop r (request_of s r) (woken_where_awaited r (request_of s r) d))) tt
orphan_found i s d r found = rw found refl

-- THE RECORD

pub dropped_outcome : (r : Request) → (if ends_by_drop r then outcome_in (dropped r).phase else None) ≡ outcome_of_drop r
dropped_outcome = grind arith

pub end_same : (r : Request) → same_end (outcome_of_drop r) (outcome_of_drop r) ≡ true
end_same = grind arith

pub thing_became : (r : Record) → thing_of (drops r) ≡ record (thing_of r) { observed = false; ended = (thing_of (drops r)).ended }
thing_became = grind arith

pub longer : (b : Bool) (xs : List ℕ) (k : ℕ) → length xs ≤ length (joined_if b xs k)
longer false xs k = omega arith
longer true xs k = let e = length-append xs (k ∷ []) in omega (arith, e)

pub open_outcome : (p : RequestPhase) → is_resolved p ≡ false → outcome_in p ≡ None
open_outcome = grind arith

pub some_held : (o : Option (Entry Reply Reply)) → is_held_at o ≡ true → IsSome o
some_held None h = absurd (false≢true h)
some_held (Some x) h = refl

-- the same, but nobody waits for it
abbrev pub unawaited : Entry Reply Reply → Entry Reply Reply
unawaited (Pending it) = Pending (without_waiter it)
unawaited (Ready out) = Ready out

pub unawaited_so : (y : Entry Reply Reply) → awaits_entry (unawaited y) ≡ false
unawaited_so (Pending it) = refl
unawaited_so (Ready out) = refl

pub off : (b : Bool) → one_when b ≡ 0 → b ≡ false
off true h = absurd (let no : 1 ≡ 0 = h in omega (arith, no))
off false h = refl
