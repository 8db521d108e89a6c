-- What a take of the mailbox hands over, by what is there.
use Rattle.exec_invariants.{proofs.{Names.{◌≡◌, ℕ, zero, suc, ◌+◌, ◌≤◌, List, [], ◌∷◌, map, Some, refl, ap, arith, slice_get, slice_set, if◌then◌else◌, Inbox, batch_handed, batch_taken, has_any, Reserved, next_batch, Place, Subject, Record, Chair, SleeperRecord, Worker, IsTold, Visible, driver_of, polls_seen, raised_times, seat_seen, seats_seen}, Lined.unmapped, Resolving.places_fewer, Turning.IsTurn}, specs.{Holding.{IsAbout, IsOf, Mail, nap_of, thing_of}, Places.{claims_at, drops_at, has_count_at, is_published_at}, Sound.{IsMineIn, IsMyMail}, Names.tellers}}

-- WHAT A TAKE HANDS OVER, by what is there

pub taken_none : (i : Inbox Subject Subject) (b : Reserved Mail) → i.messages ≡ [] → batch_taken i b ≡ i
taken_none i b none = ap (λ h. if h then record i { messages = []; places = b.places; taken = next_batch i.taken } else i) (ap has_any none)

pub taken_some : (i : Inbox Subject Subject) (b : Reserved Mail) (m : Mail) (ms : List Mail) → i.messages ≡ m ∷ ms → batch_taken i b ≡ record i { messages = []; places = b.places; taken = next_batch i.taken }
taken_some i b m ms some = ap (λ h. if h then record i { messages = []; places = b.places; taken = next_batch i.taken } else i) (ap has_any some)

pub handed_none : (i : Inbox Subject Subject) (b : Reserved Mail) → i.messages ≡ [] → batch_handed i b ≡ b
handed_none i b none = ap (λ h. if h then record { values = i.messages; places = i.places } else b) (ap has_any none)

pub handed_some : (i : Inbox Subject Subject) (b : Reserved Mail) (m : Mail) (ms : List Mail) → i.messages ≡ m ∷ ms → batch_handed i b ≡ record { values = i.messages; places = i.places }
handed_some i b m ms some = ap (λ h. if h then record { values = i.messages; places = i.places } else b) (ap has_any some)

pub by_list : {A P : Type 0} (xs : List A) → (xs ≡ [] → P) → ((y : A) (ys : List A) → xs ≡ y ∷ ys → P) → P
by_list [] none some = none refl
by_list (x ∷ xs) none some = some x xs refl

-- A CHAIR AND WHAT IS VISIBLE OF ITS WORKER, where both were set

pub seats_both : (vs : List Visible) (seats : List Chair) (i : ℕ) (v v' : Visible) (chair chair' : Chair) → slice_get vs i ≡ Some v → slice_get seats i ≡ Some chair → seat_seen v' chair' ≡ seat_seen v chair
    → seats_seen (slice_set vs i v') (slice_set seats i chair') ≡ seats_seen vs seats
seats_both [] seats i v v' chair chair' seen there same = absurd (cc)
seats_both (x ∷ vs) [] i v v' chair chair' seen there same = absurd (cc)
seats_both (x ∷ vs) (seat ∷ seats) zero v v' chair chair' seen there same = grind arith
seats_both (x ∷ vs) (seat ∷ seats) (suc i) v v' chair chair' seen there same = ap (λ ys. seat_seen x seat ∷ ys) (seats_both vs seats i v v' chair chair' seen there same)

pub polls_both : (vs : List Visible) (seats : List Chair) (i : ℕ) (v v' : Visible) (chair chair' : Chair) → slice_get vs i ≡ Some v → slice_get seats i ≡ Some chair → v'.wakes ≡ v.wakes → chair'.raised ≡ chair.raised
    → polls_seen (slice_set vs i v') (slice_set seats i chair') ≡ polls_seen vs seats
polls_both [] seats i v v' chair chair' seen there wakes raised = absurd (cc)
polls_both (x ∷ vs) [] i v v' chair chair' seen there wakes raised = absurd (cc)
polls_both (x ∷ vs) (seat ∷ seats) zero v v' chair chair' seen there wakes raised = grind arith
polls_both (x ∷ vs) (seat ∷ seats) (suc i) v v' chair chair' seen there wakes raised = ap (λ ys. raised_times seat.raised x.wakes ∷ ys) (polls_both vs seats i v v' chair chair' seen there wakes raised)

-- what an inbox has is about what its worker has

mine_of : (workers i : ℕ) (x : Subject) (rs : List Record) (zs : List SleeperRecord) → IsOf workers i x (map thing_of rs) (map nap_of zs) → IsMineIn workers i x rs zs
mine_of = grind (arith, unmapped)

pub my_mail : (workers i : ℕ) (m : Mail) (rs : List Record) (zs : List SleeperRecord) → IsAbout workers i m (map thing_of rs) (map nap_of zs) → IsMyMail workers i m rs zs
my_mail = grind (arith, mine_of)

-- what a place of the mail, or the callbacks after it, says as the mail does
pub record LeadsOn (n : ℕ) (q q' : Place) : Type 0 where
  pub turn : IsTurn n q q'
  pub claims : claims_at q' ≡ claims_at q
  pub counts : has_count_at q' ≡ has_count_at q
  pub published : is_published_at q' ≡ is_published_at q
  pub drops : drops_at q' ≡ drops_at q

-- as much is told there, less what was kept for messages
pub told_past : (w : Worker) (n m : ℕ) → m ≤ n → IsTold w.names.ended.items w.home.deferred (tellers (driver_of w).requests w.home.timers + n) → IsTold w.names.ended.items w.home.deferred (tellers (driver_of w).requests w.home.timers + m)
told_past w n m few told = places_fewer (omega (arith, few)) told
