-- A step that is no worker's keeps the books.
use Rattle.std.{proofs.{Common.{◌≡◌, ℕ, ◌+◌, ◌<◌, ◌==◌, Bool, true, false, ◌&&◌, List, [], ◌∷◌, ◌++◌, length, refl, sym, ap, ◌∙◌, subst, arith, get_or, set, Option, if◌then◌else◌}, lemmas.{Bool.{true≢false, false≢true, and_parts, or_left, eqb-true, eqb-false, ltb-true, ltb-false}, List.{get_or-set_same, get_or-set_other, get_or_past, length-set, length-map, Folds.list_any-append}}}, specs.{Prelude.{◌⊎◌, nat_lt}, List.list_any}}
use Rattle.exec_outcomes.specs.declared.outcome.OpResult.{OpResult}
use Rattle.exec_machine.specs.{declared.{config.Configuration.Configuration, event.Event.{Event, Event as event}, state.{MailMessage.MailMessage, Request.Request, Rest.Rest}, step.Action.{Action, TheVariants.Work, Action as action}}, Callers.{after_clock, after_going_on, after_landing, after_peer, after_spawn_by_call, after_wake_by_call, common_by, half_done, is_enabled}, Choice.Choice, Deadlines.{next_due, rest_until, roused_at, is_after}, Mail.{after_post, after_rouse, is_left_out, is_root_message, posted}, Run.after_event, Same.same_message, Tests.{is_awake, is_flying, is_landed, set_seat}, World.{Common, Seat, World, no_request, no_seat, request_of, seat_of}}
use Rattle.exec_books.{specs.{Listed.is_in, Booked.IsBooked}, proofs.{Listed.in_last, DuesLists.{Dues, HasDue, beside, by_seats, dues, dues_kept, dues_then, posts, rouses, seat_set, timer_set}, OthersLeft.{Leaves, SameRequest, SameSeat, booked_still, leaves_by_seats, flying_set, same_request, same_seat, unreleased_set}}}
use Rattle.exec_rest.proofs.Others.{map_like, set_like}
use Rattle.exec_machine.specs.declared.state.RequestPhase.TheVariants as phase
use Rattle.exec_machine.specs.declared.state.Rest.TheVariants as rest

-- WHAT IS DUE

-- a moment of a sleep that is ahead
abbrev is_ahead : ℕ → Rest → Bool
is_ahead clock (rest.Until u) = nat_lt clock u
is_ahead clock _ = true

still_ahead : (clock : ℕ) (r : Rest) (m : Option ℕ) → r ≡ rest_until m → is_ahead clock r ≡ true → is_after clock m ≡ true
still_ahead = grind arith

-- who slept until then is awake
abbrev Roused : ℕ → Seat → Seat → Type 0
Roused clock x y = is_awake y.rest ≡ false → ((y.rest ≡ x.rest) × (y.phase ≡ x.phase)) × (is_ahead clock x.rest ≡ true)

rouse_at : (clock : ℕ) (x : Seat) (r : Rest) → x.rest ≡ r → Roused clock x (roused_at clock x)
rouse_at = grind arith

clock_due : (k : ℕ) (s : Common) (d : ℕ) → HasDue s k → HasDue (after_clock s d) k
clock_due k s d held asleep =
    let clock = s.clock + d in
    let slept = map_like (Roused clock) (roused_at clock) no_seat (λ awake. absurd (true≢false awake)) (λ x. rouse_at clock x x.rest refl) s.seats k asleep in
    let was = held (ap is_awake (sym slept.0.0) ∙ asleep) in
    let same : next_due (after_clock s d) k ≡ next_due s k = rw slept.0.1 refl in
    (slept.0.0 ∙ was.0 ∙ ap rest_until (sym same), ap (is_after clock) same ∙ still_ahead clock (seat_of s k).rest (next_due s k) was.0 slept.1)

spawn_dues : (k : ℕ) (s : Common) (n : ℕ) (e : Event) → Dues k s (after_spawn_by_call s n e)
spawn_dues = grind (arith, beside, dues)

wake_dues : (k : ℕ) (s : Common) (t : ℕ) (e : Event) (choice : Choice) → Dues k s (after_wake_by_call s t e choice)
wake_dues k s t (event.Wake other) choice = beside refl refl refl refl
wake_dues k s t (event.Send to m) choice = posts k s to m choice
wake_dues k s t _ choice = dues k s

going_dues : (k : ℕ) (s : Common) (j : ℕ) (e : Event) → Dues k s (after_going_on s j e)
going_dues = grind (arith, rouses, beside, dues)

due_by_other : (k : ℕ) (s : Common) (a : Action) (e : Event) (choice : Choice) → HasDue s k → HasDue (common_by s a e choice) k
due_by_other = grind (arith, dues_kept, dues_then, spawn_dues, beside, wake_dues, going_dues, clock_due, timer_set, seat_set, true≢false, by_seats, rouses)

-- WHAT IT LEAVES

nothing : (s late : Common) → late.requests ≡ s.requests → late.sleepers ≡ s.sleepers → late.opens ≡ s.opens → late.seats ≡ s.seats → Leaves s late
nothing = grind (arith, leaves_by_seats, same_seat)

one_seat : (s late : Common) (q : ℕ) (y : Seat) → SameSeat (seat_of s q) y → late.requests ≡ s.requests → late.sleepers ≡ s.sleepers → late.opens ≡ s.opens → late.seats ≡ set s.seats q y → Leaves s late
one_seat s late q y same requests sleepers opens seats =
    leaves_by_seats s late requests sleepers opens (ap length seats ∙ length-set s.seats q y)
    (λ i. subst (λ xs. SameSeat (seat_of s i) (get_or xs i no_seat)) (sym seats) (set_like SameSeat same_seat s.seats q i y no_seat same))

spawn_leaves : (s : Common) (n j : ℕ) (e : Event) → Leaves s (half_done (after_spawn_by_call s n e) j)
spawn_leaves = grind (arith, nothing)

-- what has stood in a list stands there also before another one
longer : {X : Type 0} (test : X → Bool) (xs more : List X) → list_any test xs ≡ true → list_any test (xs ++ more) ≡ true
longer test xs more h = list_any-append test xs more ∙ or_left (list_any test xs) (list_any test more) h

posted_seat : (m : MailMessage) (x : Seat) → SameSeat x (posted m x)
posted_seat m x = record { phase = refl; mailbox_closed = refl; inbox = λ n h. longer (same_message n) x.inbox (m ∷ []) h; landed = λ k h. h }

post_leaves : (s : Common) (to : ℕ) (m : MailMessage) (choice : Choice) (j : ℕ) → Leaves s (half_done (after_post s to m choice) j)
post_leaves s to m choice j = by (is_root_message m && is_left_out choice)
  where
    by : (b : Bool) → Leaves s (half_done (if b then s else set_seat s to (posted m (seat_of s to))) j)
    by true = nothing s (half_done s j) refl refl refl refl
    by false = one_seat s (half_done (set_seat s to (posted m (seat_of s to))) j) to (posted m (seat_of s to)) (posted_seat m (seat_of s to)) refl refl refl refl

wake_leaves : (s : Common) (t j : ℕ) (e : Event) (choice : Choice) → Leaves s (half_done (after_wake_by_call s t e choice) j)
wake_leaves s t j (event.Wake other) choice = nothing s (half_done (after_wake_by_call s t (event.Wake other) choice) j) refl refl refl refl
wake_leaves s t j (event.Send to m) choice = post_leaves s to m choice j
wake_leaves s t j e choice = nothing s (half_done s j) refl refl refl refl

rouse_leaves : (s : Common) (other : ℕ) → Leaves s (after_rouse s other)
rouse_leaves s other = one_seat s (after_rouse s other) other (record (seat_of s other) { rest = rest.Awake }) (record { phase = refl; mailbox_closed = refl; inbox = λ m h. h; landed = λ k h. h }) refl refl refl refl

going_leaves : (s : Common) (j : ℕ) (e : Event) → Leaves s (after_going_on s j e)
going_leaves s j (event.Rouse other) = rouse_leaves s other
going_leaves s j event.Return = nothing s (after_going_on s j event.Return) refl refl refl refl
going_leaves s j e = nothing s s refl refl refl refl

roused_seat : (clock : ℕ) (x : Seat) → SameSeat x (roused_at clock x)
roused_seat clock x = record { phase = refl; mailbox_closed = refl; inbox = λ m h. h; landed = λ k h. h }

clock_leaves : (s : Common) (d : ℕ) → Leaves s (after_clock s d)
clock_leaves s d =
    leaves_by_seats s (after_clock s d) refl refl refl (length-map s.seats (roused_at (s.clock + d)))
    (map_like SameSeat (roused_at (s.clock + d)) no_seat (same_seat no_seat) (roused_seat (s.clock + d)) s.seats)

module _ (w : World) (held : IsBooked w) (r : ℕ) (n : OpResult) where
  abbrev s : Common
  s = w.common

  abbrev it : Request
  it = request_of s r

  abbrev y : Request
  y = record it { phase = phase.Landed n }

  abbrev seat : Seat
  seat = record (seat_of s it.worker) { landed = (seat_of s it.worker).landed ++ r ∷ []; rest = rest.Awake }

  same_but : is_flying it.phase ≡ true → SameRequest it y
  same_but = grind arith

  within : (b : Bool) → nat_lt r (length s.requests) ≡ b → is_flying it.phase ≡ true → r < length s.requests
  within = grind (arith, ltb-true, false≢true, get_or_past, ltb-false)

  lands_in : is_flying it.phase ≡ true → is_in r (seat_of (after_landing s r n) it.worker).landed ≡ true
  lands_in = grind (arith, within, get_or-set_same, in_last)

  landed_then : is_flying it.phase ≡ true → (k : ℕ) (b : Bool) → (k == r) ≡ b → is_landed (request_of (after_landing s r n) k).phase ≡ true
      → (is_landed (request_of s k).phase ≡ true) ⊎ (is_in k (seat_of (after_landing s r n) (request_of s k).worker).landed ≡ true)
  landed_then = grind (arith, eqb-true, lands_in, get_or-set_other, eqb-false)

  lands : is_flying it.phase ≡ true → Leaves s (after_landing s r n)
  lands flies =
      record {
        seats = length-set s.seats it.worker seat;
        seat = λ i. set_like SameSeat same_seat s.seats it.worker i seat no_seat (record { phase = refl; mailbox_closed = refl; inbox = λ m h. h; landed = λ k h. longer (λ q. q == k) (seat_of s it.worker).landed (r ∷ []) h });
        requests = length-set s.requests r y;
        request = λ k. set_like SameRequest same_request s.requests r k y no_request (same_but flies);
        landed = λ k. landed_then flies k (k == r) refl;
        counts = λ i. unreleased_set i s.requests r y (same_but flies);
        flights = λ i. flying_set i s.requests r y (same_but flies);
        sleepers = refl;
        opens = refl;
      }

-- THE BOOKS

leaves : (w : World) (a : Action) (e : Event) (choice : Choice) → is_enabled w.common a ≡ true → IsBooked w → Leaves w.common (common_by w.common a e choice)
leaves w (action.Work i) e choice may held = nothing w.common w.common refl refl refl refl
leaves w (action.Spawn j k) e choice may held = spawn_leaves w.common k j e
leaves w (action.Wake j t) e choice may held = wake_leaves w.common t j e choice
leaves w (action.GoOn j) e choice may held = going_leaves w.common j e
leaves w (action.Clock d) e choice may held = clock_leaves w.common d
leaves w (action.Land r n) e choice may held = lands w held r n (and_parts _ _ may).0
leaves w (action.SetBusy i) e choice may held =
    let y : Seat = record (seat_of w.common i) { busy = true } in one_seat w.common (set_seat w.common i y) i y (record { phase = refl; mailbox_closed = refl; inbox = λ m h. h; landed = λ k h. h }) refl refl refl refl
leaves w (action.EndPoll i) e choice may held = nothing w.common w.common refl refl refl refl
leaves w (action.Stir i) e choice may held = rouse_leaves w.common i
leaves w (action.Peer l) e choice may held = nothing w.common (after_peer w.common l) refl refl refl refl

-- where the step is enabled
pub booked_by_other : (c : Configuration) (w : World) (a : Action) (e : Event) (choice : Choice) → ((i : ℕ) → a ≡ Work i → ⊥) → is_enabled w.common a ≡ true → IsBooked w → IsBooked (after_event c w a e choice)
booked_by_other c w (action.Work i) e choice other may held = absurd (other i refl)
booked_by_other c w a e choice other may held = booked_still w (common_by w.common a e choice) (leaves w a e choice may held) held (λ i. due_by_other i w.common a e choice (held.dues i))
