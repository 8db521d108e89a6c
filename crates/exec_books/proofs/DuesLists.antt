-- A worker that sleeps until a moment sleeps no longer than until what is due next at it.
use Rattle.std.proofs.{Common.{◌≡◌, ◌≢◌, ℕ, zero, suc, ◌==◌, Bool, true, false, List, [], ◌∷◌, ◌++◌, map, Option, Some, refl, sym, ap, ◌∙◌, subst, get_or, set, if◌then◌else◌, arith}, lemmas.{Bool.true≢false, List.get_or-set_other}}
use Rattle.exec_machine.specs.{declared.state.{MailMessage.MailMessage, Request.Request, Sleeper.Sleeper}, Choice.Choice, Deadlines.{earlier, is_after, first_timer, first_until, next_due, rest_until}, Mail.{after_post, after_rouse}, Tasks.new_seat, Tests.{is_asleep, is_awake}, World.{Common, Seat, no_request, no_seat, no_sleeper, request_of, seat_of, sleeper_of}}
use Rattle.exec_rest.proofs.Others.{set_like}

-- worker i sleeps, where it does, until what is due next, which is ahead
abbrev pub HasDue : Common → ℕ → Type 0
HasDue s i = is_awake (seat_of s i).rest ≡ false → ((seat_of s i).rest ≡ rest_until (next_due s i)) × (is_after s.clock (next_due s i) ≡ true)

-- LISTS OF REQUESTS AND SLEEPERS

-- y counts for what is due at worker k as x does
abbrev pub Timed : ℕ → Request → Request → Type 0
Timed k x y = (m : Option ℕ) → (if y.worker == k then earlier y.timer m else m) ≡ (if x.worker == k then earlier x.timer m else m)

abbrev pub Slept : ℕ → Sleeper → Sleeper → Type 0
Slept k x y = (m : Option ℕ) → (if is_asleep k y then earlier (Some y.until) m else m) ≡ (if is_asleep k x then earlier (Some x.until) m else m)

pub timed_elsewhere : (k : ℕ) (x y : Request) → (x.worker == k) ≡ false → y.worker ≡ x.worker → Timed k x y
timed_elsewhere k x y other same m = rw (same, other) refl

pub slept_elsewhere : (k : ℕ) (x y : Sleeper) → (x.worker == k) ≡ false → y.worker ≡ x.worker → Slept k x y
slept_elsewhere k x y other same m = rw (same, other) refl

pub timer_set : (k q : ℕ) (rs : List Request) (y : Request) → Timed k (get_or rs q no_request) y → first_timer k (set rs q y) ≡ first_timer k rs
timer_set k q [] y h = refl
timer_set k zero (x ∷ xs) y h = h (first_timer k xs)
timer_set k (suc q) (x ∷ xs) y h = ap (λ m. if x.worker == k then earlier x.timer m else m) (timer_set k q xs y h)

pub timer_map : (k : ℕ) (f : Request → Request) → ((x : Request) → Timed k x (f x)) → (rs : List Request) → first_timer k (map f rs) ≡ first_timer k rs
timer_map k f each [] = refl
timer_map k f each (x ∷ xs) = each x (first_timer k (map f xs)) ∙ ap (λ m. if x.worker == k then earlier x.timer m else m) (timer_map k f each xs)

pub timer_push : (k : ℕ) (rs : List Request) (y : Request) → (y.worker == k) ≡ false → first_timer k (rs ++ y ∷ []) ≡ first_timer k rs
timer_push k [] y h = rw h refl
timer_push k (x ∷ xs) y h = ap (λ m. if x.worker == k then earlier x.timer m else m) (timer_push k xs y h)

pub until_set : (k q : ℕ) (zs : List Sleeper) (y : Sleeper) → Slept k (get_or zs q no_sleeper) y → first_until k (set zs q y) ≡ first_until k zs
until_set k q [] y h = refl
until_set k zero (x ∷ xs) y h = h (first_until k xs)
until_set k (suc q) (x ∷ xs) y h = ap (λ m. if is_asleep k x then earlier (Some x.until) m else m) (until_set k q xs y h)

pub until_map : (k : ℕ) (f : Sleeper → Sleeper) → ((x : Sleeper) → Slept k x (f x)) → (zs : List Sleeper) → first_until k (map f zs) ≡ first_until k zs
until_map k f each [] = refl
until_map k f each (x ∷ xs) = each x (first_until k (map f xs)) ∙ ap (λ m. if is_asleep k x then earlier (Some x.until) m else m) (until_map k f each xs)

pub until_push : (k : ℕ) (zs : List Sleeper) (y : Sleeper) → (y.worker == k) ≡ false → first_until k (zs ++ y ∷ []) ≡ first_until k zs
until_push k [] y h = rw h refl
until_push k (x ∷ xs) y h = ap (λ m. if is_asleep k x then earlier (Some x.until) m else m) (until_push k xs y h)

-- SEATS

-- who sleeps in y slept so in x, in the same phase
abbrev pub Lies : Seat → Seat → Type 0
Lies x y = is_awake y.rest ≡ false → (y.rest ≡ x.rest) × (y.phase ≡ x.phase)

pub lies : (x : Seat) → Lies x x
lies x asleep = (refl, refl)

pub seat_set : (s : Common) (q : ℕ) (y : Seat) (k : ℕ) → Lies (seat_of s q) y → Lies (seat_of s k) (get_or (set s.seats q y) k no_seat)
seat_set s q y k h = set_like Lies lies s.seats q k y no_seat h

pub seat_apart : (s : Common) (i : ℕ) (y : Seat) (k : ℕ) → k ≢ i → Lies (seat_of s k) (get_or (set s.seats i y) k no_seat)
seat_apart s i y k apart = subst (Lies (seat_of s k)) (sym (get_or-set_other s.seats i k y no_seat apart)) (lies (seat_of s k))

pub seat_push : (xs : List Seat) (k : ℕ) → Lies (get_or xs k no_seat) (get_or (xs ++ new_seat false ∷ []) k no_seat)
seat_push [] zero asleep = absurd (true≢false asleep)
seat_push [] (suc k) asleep = (refl, refl)
seat_push (x ∷ xs) zero asleep = (refl, refl)
seat_push (x ∷ xs) (suc k) asleep = seat_push xs k asleep

-- COMMON PARTS

-- What is due at worker k is as before, and it sleeps no longer.
pub record Dues (k : ℕ) (s late : Common) : Type 0 where
  pub clock : late.clock ≡ s.clock
  pub timers : first_timer k late.requests ≡ first_timer k s.requests
  pub sleepers : first_until k late.sleepers ≡ first_until k s.sleepers
  pub seat : Lies (seat_of s k) (seat_of late k)

pub dues_kept : (k : ℕ) (s late : Common) → Dues k s late → HasDue s k → HasDue late k
dues_kept = grind arith

pub dues : (k : ℕ) (s : Common) → Dues k s s
dues k s = record { clock = refl; timers = refl; sleepers = refl; seat = lies (seat_of s k) }

-- by what changes: the seats, the requests, the sleepers
pub by_seats : {k : ℕ} {s : Common} (seats : List Seat) → Lies (seat_of s k) (get_or seats k no_seat) → Dues k s (record s { seats = seats })
by_seats seats h = record { clock = refl; timers = refl; sleepers = refl; seat = h }

pub by_request : {k : ℕ} {s : Common} (r : ℕ) (y : Request) → Timed k (request_of s r) y → Dues k s (record s { requests = set s.requests r y })
by_request {k} {s} r y h = record { clock = refl; timers = timer_set k r s.requests y h; sleepers = refl; seat = lies (seat_of s k) }

pub by_sleeper : {k : ℕ} {s : Common} (z : ℕ) (y : Sleeper) → Slept k (sleeper_of s z) y → Dues k s (record s { sleepers = set s.sleepers z y })
by_sleeper {k} {s} z y h = record { clock = refl; timers = refl; sleepers = until_set k z s.sleepers y h; seat = lies (seat_of s k) }

-- one after another
pub dues_then : {k : ℕ} {s late later : Common} → Dues k s late → Dues k late later → Dues k s later
dues_then = grind arith

pub either : {k : ℕ} {s : Common} (b : Bool) (y z : Common) → Dues k s y → Dues k s z → Dues k s (if b then y else z)
either = grind arith

-- nothing of it changes but tasks, opens and the like
pub beside : {k : ℕ} {s late : Common} → late.clock ≡ s.clock → late.requests ≡ s.requests → late.sleepers ≡ s.sleepers → late.seats ≡ s.seats → Dues k s late
beside = grind arith

-- what is posted to a worker doesn't wake it
pub posts : (k : ℕ) (s : Common) (to : ℕ) (m : MailMessage) (choice : Choice) → Dues k s (after_post s to m choice)
posts = grind (arith, either, dues, by_seats, seat_set)

pub rouses : (k : ℕ) (s : Common) (other : ℕ) → Dues k s (after_rouse s other)
rouses = grind (arith, by_seats, seat_set, true≢false)
