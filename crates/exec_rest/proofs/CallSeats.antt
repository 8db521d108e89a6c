-- What the event of an outside caller leaves of seats and callers.
use Rattle.std.{proofs.{Common.{◌≡◌, ◌≢◌, ℕ, zero, suc, ◌<◌, Bool, true, false, ◌&&◌, List, [], ◌∷◌, length, set, get_or, Option, if◌then◌else◌, refl, sym, ap, ◌∙◌, arith}, lemmas.{Bool.{true≢false, false≢true}, List.{get_or-set_same, get_or-set_other}}}, specs.Prelude.not}
use Rattle.exec_machine.specs.{declared.{event.Event.{Event, Event as event}, state.{Call.{Call, Call as calls}, MailMessage.MailMessage, Rest.TheVariants.Awake}}, Callers.{after_going_on, after_spawn_by_call, after_wake_by_call, half_done, is_half_done, may_call, may_go_on}, Choice.Choice, Mail.{after_post, is_left_out, is_root_message, posted}, Tests.{is_awake, set_seat}, World.{Common, Seat, no_seat, seat_of}}
use Rattle.exec_moves.specs.{declared.handing.CallPlace.CallPlace, Call.CallDesk, MoveOfCaller.{call_on, call_wake}, Send.told_of_spawn, State.Things}
use Rattle.exec_rest.{specs.Places.is_in_call, proofs.CallHeeds.set_at}

abbrev is_rouse : Event → Bool
is_rouse (event.Rouse other) = true
is_rouse _ = false

abbrev pub is_return : Event → Bool
is_return event.Return = true
is_return _ = false

-- seats before and after an event, of which none is another's but in the inbox and in whether its worker sleeps
pub record Seated (before after : List Seat) (e : Event) : Type 0 where
  pub pool : (i : ℕ) → (get_or after i no_seat).pool ≡ (get_or before i no_seat).pool
  pub phase : (i : ℕ) → (get_or after i no_seat).phase ≡ (get_or before i no_seat).phase
  pub landed : (i : ℕ) → (get_or after i no_seat).landed ≡ (get_or before i no_seat).landed
  -- nobody falls asleep, and who is roused is awake
  pub asleep : (i : ℕ) → is_awake (get_or after i no_seat).rest ≡ false → (is_awake (get_or before i no_seat).rest ≡ false) × (e ≡ event.Rouse i → ⊥)

no_rouse : (e : Event) (i : ℕ) → is_rouse e ≡ false → e ≡ event.Rouse i → ⊥
no_rouse e i not_so is = false≢true (sym not_so ∙ ap is_rouse is)

same_seats : (seats : List Seat) (e : Event) → is_rouse e ≡ false → Seated seats seats e
same_seats seats e not_so = record { pool = λ i. refl; phase = λ i. refl; landed = λ i. refl; asleep = λ i h. (h, no_rouse e i not_so) }

-- one seat is put back
module _ (seats : List Seat) (k : ℕ) (y : Seat) where
  same_at : {T : Type 0} (f : Seat → T) → f y ≡ f (get_or seats k no_seat) → (i : ℕ) → f (get_or (set seats k y) i no_seat) ≡ f (get_or seats i no_seat)
  same_at = grind (arith, set_at)

post_seated : (s : Common) (to : ℕ) (m : MailMessage) (choice : Choice) → Seated s.seats (after_post s to m choice).seats (event.Send to m)
post_seated s to m choice = by (is_root_message m && is_left_out choice)
  where
    by : (b : Bool) → Seated s.seats (if b then s else set_seat s to (posted m (seat_of s to))).seats (event.Send to m)
    by true = same_seats s.seats (event.Send to m) refl
    by false =
        let y = posted m (seat_of s to) in
        record {
          pool = same_at s.seats to y (λ (it : Seat). it.pool) refl;
          phase = same_at s.seats to y (λ (it : Seat). it.phase) refl;
          landed = same_at s.seats to y (λ (it : Seat). it.landed) refl;
          asleep = λ i h. (sym (same_at s.seats to y (λ (it : Seat). is_awake it.rest) refl i) ∙ h, no_rouse (event.Send to m) i refl);
        }

-- a worker that isn't there is awake too
awake_set : (seats : List Seat) (k : ℕ) (y : Seat) → is_awake y.rest ≡ true → is_awake (get_or (set seats k y) k no_seat).rest ≡ true
awake_set [] k y awake = refl
awake_set (seat ∷ seats) zero y awake = awake
awake_set (seat ∷ seats) (suc k) y awake = awake_set seats k y awake

rouse_seated : (s : Common) (k : ℕ) → Seated s.seats (set s.seats k (record (seat_of s k) { rest = Awake })) (event.Rouse k)
rouse_seated = grind (arith, same_at, set_at, true≢false, awake_set)

-- THE FIRST STEP

pub record Begun (s t : Common) (e : Event) : Type 0 where
  pub seats : Seated s.seats t.seats e
  pub callers : t.callers ≡ s.callers

pub spawn_begun : (s : Common) (k : ℕ) → Begun s (after_spawn_by_call s k (told_of_spawn s k)) (told_of_spawn s k)
spawn_begun = grind arith

post_callers : (s : Common) (to : ℕ) (m : MailMessage) (choice : Choice) → (after_post s to m choice).callers ≡ s.callers
post_callers = grind arith

pub wake_begun : (s : Common) (d : CallDesk) (x : Things) (t : ℕ) (home : Option ℕ) → (let m = call_wake s d x t home in Begun s (after_wake_by_call s t m.event m.choice) m.event)
wake_begun = grind (arith, same_seats, post_seated, post_callers)

-- A STEP FURTHER

pub going_seated : (s : Common) (j : ℕ) (e : Event) → Seated s.seats (after_going_on s j e).seats e
going_seated = grind (arith, rouse_seated, same_seats)

going_others : (s : Common) (j : ℕ) (e : Event) (k : ℕ) → k ≢ j → may_go_on (after_going_on s j e) k ≡ may_go_on s k
going_others = grind (arith, get_or-set_other)

going_own : (s : Common) (j : ℕ) (e : Event) → is_return e ≡ false → may_go_on (after_going_on s j e) j ≡ may_go_on s j
going_own = grind arith

-- who returns has no call then
pub returned : (s : Common) (d : CallDesk) (x : Things) (p : CallPlace) → is_in_call (call_on s d x p).desk.place ≡ true → is_return (call_on s d x p).event ≡ false
returned = grind arith

-- CALLERS

-- who has a call half done: only caller j changes that, and has one where its move leaves it in a call
pub record Halved (s t : Common) (j : ℕ) (q : CallPlace) : Type 0 where
  pub within : j < length s.callers
  pub others : (k : ℕ) → k ≢ j → may_go_on t k ≡ may_go_on s k
  pub own : is_in_call q ≡ true → may_go_on t j ≡ true

-- who may begin a call is there, and has none; who has one is there too
may_begin : (callers : List Call) (j : ℕ) → not (is_half_done (get_or callers j calls.HalfDone)) ≡ true → (j < length callers) × (is_half_done (get_or callers j calls.Nothing) ≡ false)
may_begin [] j may = absurd (false≢true may)
may_begin (calls.Nothing ∷ callers) zero may = (omega arith, refl)
may_begin (calls.HalfDone ∷ callers) zero may = absurd (false≢true may)
may_begin (k ∷ callers) (suc j) may = let later = may_begin callers j may in (omega (arith, later.0), later.1)

half_within : (callers : List Call) (j : ℕ) → is_half_done (get_or callers j calls.Nothing) ≡ true → j < length callers
half_within [] j half = absurd (false≢true half)
half_within (k ∷ callers) zero half = omega arith
half_within (k ∷ callers) (suc j) half = let later = half_within callers j half in omega (arith, later)

pub free_now : (s : Common) (j : ℕ) → may_call s j ≡ true → may_go_on s j ≡ false
free_now s j may = (may_begin s.callers j may).1

pub begins_half : (s t : Common) (j : ℕ) (q : CallPlace) → may_call s j ≡ true → t.callers ≡ s.callers → Halved s (half_done t j) j q
begins_half s t j q may same =
    let within = (may_begin s.callers j may).0 in
    grind (arith, get_or-set_other, get_or-set_same)

pub goes_half : (s : Common) (d : CallDesk) (x : Things) (j : ℕ) (p : CallPlace) → may_go_on s j ≡ true → (let m = call_on s d x p in Halved s (after_going_on s j m.event) j m.desk.place)
goes_half = grind (arith, half_within, going_others, going_own, returned)
