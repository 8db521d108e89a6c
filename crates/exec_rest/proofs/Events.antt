-- What an event of a worker leaves of each seat and of the callers.
use Rattle.std.{proofs.{Common.{◌≡◌, ◌≢◌, ℕ, zero, suc, Bool, true, false, List, [], ◌∷◌, ◌++◌, Option, Some, None, refl, sym, ap, ◌∙◌, subst, arith, inl, inr, get_or, set, drop}, lemmas.Bool.{true≢false, false≢true, cases_Bool}}, specs.Prelude.◌⊎◌}
use Rattle.exec_machine.specs.{declared.{config.Configuration.Configuration, event.Event.{Event, Event as event}, state.{MailMessage.MailMessage, Next.Next, WorkerPhase.WorkerPhase as worker}}, After.common_after, Choice.Choice, Closing.{after_clear, after_next}, Deadlines.rest_until, Mail.{after_apply, after_message, after_post, after_sending}, Tasks.{after_pend, after_wake, after_word, new_seat}, Tests.{has_ended, is_awake}, World.{Common, Own as Books, Seat, no_seat, seat_of}}
use Rattle.exec_rest.proofs.Heeds.{landed_after}
use Rattle.exec_machine.specs.declared.state.Rest.TheVariants as rest

-- A SEAT

-- what has landed after event e of its worker
abbrev pub landed_by : Event → List ℕ → List ℕ
landed_by (event.Reap r n outcome) landed = drop 1 landed
landed_by _ landed = landed

-- event e of worker i leads from x to y at seat j
pub record Seated (i : ℕ) (e : Event) (j : ℕ) (x y : Seat) : Type 0 where
  pub pool : y.pool ≡ x.pool
  pub ended : has_ended y.phase ≡ true → (has_ended x.phase ≡ true) ⊎ ((j ≡ i) × (e ≡ event.End))
  pub landed : j ≢ i → y.landed ≡ x.landed
  pub own : j ≡ i → y.landed ≡ landed_by e x.landed
  pub asleep : is_awake y.rest ≡ false → ((is_awake x.rest ≡ false) × (e ≢ event.Rouse j)) ⊎ ((j ≡ i) × ((until : Option ℕ) × (e ≡ event.Sleep until)))

-- as far as waking goes a seat is as before
record Like (x y : Seat) : Type 0 where
  pub pool : y.pool ≡ x.pool
  pub ended : has_ended y.phase ≡ true → has_ended x.phase ≡ true
  pub landed : y.landed ≡ x.landed
  pub rest : y.rest ≡ x.rest

alike : {x y : Seat} → y.pool ≡ x.pool → y.phase ≡ x.phase → y.landed ≡ x.landed → y.rest ≡ x.rest → Like x y
alike pool phase landed rest = record { pool = pool; ended = λ h. ap has_ended (sym phase) ∙ h; landed = landed; rest = rest }

like : {x : Seat} → Like x x
like = alike refl refl refl refl

pub own_landed : (s : Common) (i : ℕ) (e : Event) → landed_by e (seat_of s i).landed ≡ landed_after s i e
own_landed s i (event.Reap r n outcome) = refl
own_landed s i _ = refl

-- not one of the four by which a seat changes as far as waking goes
abbrev is_still : Event → Bool
is_still (event.Reap r n outcome) = false
is_still (event.Rouse other) = false
is_still (event.Sleep until) = false
is_still event.End = false
is_still _ = true

-- it rouses a worker, and whom
abbrev is_rouse : Event → Bool
is_rouse (event.Rouse other) = true
is_rouse _ = false

abbrev roused : Event → ℕ
roused (event.Rouse other) = other
roused _ = 0

unroused : {e : Event} → is_rouse e ≡ false → (j : ℕ) → e ≢ event.Rouse j
unroused rouses_none j is = true≢false (sym (ap is_rouse is) ∙ rouses_none)

-- a seat that is as before
still : {i : ℕ} {e : Event} {x y : Seat} → is_rouse e ≡ false → ((l : List ℕ) → landed_by e l ≡ l) → (j : ℕ) → Like x y → Seated i e j x y
still = grind arith

-- the seat of another worker
untouched : {i : ℕ} {e : Event} {x : Seat} → is_rouse e ≡ false → (j : ℕ) → j ≢ i → Seated i e j x x
untouched rouses_none j apart =
    record { pool = refl; ended = λ h. inl h; landed = λ away. refl; own = λ at. absurd (apart at); asleep = λ h. inl (h, unroused rouses_none j) }

-- at the seat of nobody
none_seated : {i : ℕ} {e : Event} → landed_by e [] ≡ [] → (j : ℕ) → Seated i e j no_seat no_seat
none_seated none j =
    record { pool = refl; ended = λ h. inl h; landed = λ apart. refl; own = λ at. sym none; asleep = λ h. absurd (true≢false h) }

-- LISTS OF SEATS

-- one seat is another one then
each_set : (P : ℕ → Seat → Seat → Type 0) (xs : List Seat) (k : ℕ) (y : Seat) → ((j : ℕ) → j ≢ k → (x : Seat) → P j x x) → P k (get_or xs k no_seat) y → ((j : ℕ) → P j no_seat no_seat)
    → (j : ℕ) → P j (get_or xs j no_seat) (get_or (set xs k y) j no_seat)
each_set P [] k y other here past j = past j
each_set P (x ∷ xs) zero y other here past zero = here
each_set P (x ∷ xs) zero y other here past (suc j) = other (suc j) (λ is. omega (arith, is)) (get_or xs j no_seat)
each_set P (x ∷ xs) (suc k) y other here past zero = other zero (λ is. omega (arith, is)) x
each_set P (x ∷ xs) (suc k) y other here past (suc j) =
    each_set (λ n. P (suc n)) xs k y (λ n apart z. other (suc n) (λ is. apart (omega (arith, is))) z) here (λ n. past (suc n)) j

abbrev AllLike : List Seat → List Seat → Type 0
AllLike xs ys = (j : ℕ) → Like (get_or xs j no_seat) (get_or ys j no_seat)

seat_set : (s : Common) (k : ℕ) (y : Seat) → Like (seat_of s k) y → AllLike s.seats (set s.seats k y)
seat_set s k y a = each_set (λ j. Like) s.seats k y (λ j apart x. like) a (λ j. like)

-- the seat of a worker that begins was nobody's
seat_push : (xs : List Seat) → AllLike xs (xs ++ new_seat false ∷ [])
seat_push [] zero = record { pool = refl; ended = λ h. absurd (false≢true h); landed = refl; rest = refl }
seat_push [] (suc j) = like
seat_push (x ∷ xs) zero = like
seat_push (x ∷ xs) (suc j) = seat_push xs j

-- OTHER EVENTS

-- seats and callers are the same
record Same (s then : Common) : Type 0 where
  pub seats : then.seats ≡ s.seats
  pub callers : then.callers ≡ s.callers

keep : {s then : Common} → then.seats ≡ s.seats → then.callers ≡ s.callers → Same s then
keep seats callers = record { seats = seats; callers = callers }

same : {s : Common} → Same s s
same = keep refl refl

-- they are so as far as waking goes
record Stays (s then : Common) : Type 0 where
  pub seats : AllLike s.seats then.seats
  pub callers : then.callers ≡ s.callers

stays_same : {s then : Common} → Same s then → Stays s then
stays_same {s} a = record { seats = subst (AllLike s.seats) (sym a.seats) (λ j. like); callers = a.callers }

after_same : {s then later : Common} → Same s then → Stays then later → Stays s later
after_same {later = later} a b = record { seats = subst (λ xs. AllLike xs later.seats) a.seats b.seats; callers = b.callers ∙ a.callers }

word_same : (s : Common) (polls : Option ℕ) → Same s (after_word s polls)
word_same s None = same
word_same s (Some t) = keep refl refl

next_stays : (s : Common) (i : ℕ) (n : Next) → Stays s (after_next s i n)
next_stays = grind (arith, stays_same, same, like, seat_set, alike)

wake_same : (me : Books) (s : Common) (t : ℕ) (choice : Choice) → Same s (after_wake me s t choice)
wake_same = grind arith

sending_same : (s : Common) (polls : Option ℕ) (m : MailMessage) → Same s (after_sending s polls m)
sending_same = grind arith

post_stays : (s : Common) (to : ℕ) (m : MailMessage) (choice : Choice) → Stays s (after_post s to m choice)
post_stays = grind (arith, cases_Bool, stays_same, same, seat_set, alike)

message_same : (me : Books) (s : Common) (m : MailMessage) → Same s (after_message me s m)
message_same = grind arith

apply_stays : (me : Books) (s : Common) (i : ℕ) (m : MailMessage) → Stays s (after_apply me s i m)
apply_stays = grind (arith, message_same, seat_set, alike)

pend_same : (s : Common) (i t : ℕ) → Same s (after_pend s i t)
pend_same = grind arith

clear_same : (s : Common) (i t : ℕ) → Same s (after_clear s i t)
clear_same = grind arith

module _ (c : Configuration) (me : Books) (s : Common) (i : ℕ) where
  stays : (e : Event) (choice : Choice) → is_still e ≡ true → Stays s (common_after c me s i e choice)
  stays = grind (arith, next_stays, seat_set, alike, stays_same, pend_same, word_same, keep, seat_push, clear_same, like, wake_same, after_same, sending_same, post_stays, apply_stays, false≢true)

  -- EACH EVENT

  pub seats_after : (e : Event) (choice : Choice) (j : ℕ) → Seated i e j (seat_of s j) (seat_of (common_after c me s i e choice) j)
  seats_after (event.Reap r n outcome) choice =
      let reap : Event = event.Reap r n outcome in
      each_set (Seated i reap) s.seats i (record (seat_of s i) { landed = drop 1 (seat_of s i).landed }) (λ j apart x. untouched refl j apart)
      (record { pool = refl; ended = λ h. inl h; landed = λ apart. absurd (apart refl); own = λ at. refl; asleep = λ h. inl (h, unroused refl i) }) (none_seated refl)
  seats_after (event.Rouse other) choice =
      each_set (Seated i (event.Rouse other)) s.seats other (record (seat_of s other) { rest = rest.Awake }) left
      (record { pool = refl; ended = λ h. inl h; landed = λ apart. refl; own = λ at. refl; asleep = λ h. absurd (true≢false h) }) (none_seated refl)
    where
      left : (j : ℕ) → j ≢ other → (x : Seat) → Seated i (event.Rouse other) j x x
      left j apart x =
          record { pool = refl; ended = λ h. inl h; landed = λ away. refl; own = λ at. refl; asleep = λ h. inl (h, λ is. apart (sym (ap roused is))) }
  seats_after (event.Sleep until) choice =
      each_set (Seated i (event.Sleep until)) s.seats i (record (seat_of s i) { rest = rest_until until }) (λ j apart x. untouched refl j apart)
      (record { pool = refl; ended = λ h. inl h; landed = λ apart. refl; own = λ at. refl; asleep = λ h. inr (refl, (until, refl)) }) (none_seated refl)
  seats_after event.End choice =
      each_set (Seated i event.End) s.seats i (record (seat_of s i) { phase = worker.Ended; inbox = [] }) (λ j apart x. untouched refl j apart)
      (record { pool = refl; ended = λ h. inr (refl, refl); landed = λ apart. refl; own = λ at. refl; asleep = λ h. inl (h, unroused refl i) }) (none_seated refl)
  seats_after e choice = λ j. still refl (λ l. refl) j ((stays e choice refl).seats j)

  pub callers_after : (e : Event) (choice : Choice) → (common_after c me s i e choice).callers ≡ s.callers
  callers_after = grind arith
