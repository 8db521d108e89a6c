-- A MESSAGE OF THE BATCH IS APPLIED: what that is to the machine, whatever the message does, and where the worker goes on.
use Rattle.exec_invariants.{proofs.{Names.{◌≡◌, ℕ, zero, suc, ◌+◌, ◌-◌, ◌<◌, ◌||◌, nat_le, Bool, true, false, cond, Contains, List, [], ◌∷◌, ◌++◌, drop, length, map, Option, Some, None, refl, sym, ap, subst, ◌∙◌, arith, slice_get, slice_set, if◌then◌else◌, false≢true, nat_tests, sum_by-append, or_parts, live_count, pending_count, Said, Apply, MailMessage, Next, Plain, made_by, is_first_message, own_after_apply, Plan, ring_size, same_message, is_empty, seat_of, InMail, Place, after_message, to_callbacks, told_by_message, move_at, next_at, polls_at, serves_at, Subject, Chair, Shared, Worker, IsTold, Spot, Views, Visible, common_of, desk_of, driver_of, message_of, own_of, owed_at, polls_seen, raised_times, seat_seen, seats_seen, things_with, visible, with_view, same_Some, true_false}, Aside.SameProfile, HoldMail.mail_first, Lined.lined_kept, Resolving.places_fewer, Seats.own_seat, Serving.{SparesRecords, letter_kept, mail_kept}}, specs.{Carried.IsCarried, Due.IsDue, Flown.HasFlown, Gates.{AreLinedUp, IsKnown}, Holding.{Mail, mail_in, mail_of_letters, same_mail}, Places.{begins_at, claims_at, drops_at, has_count_at, is_published_at, no_drops, polled_in}, Rooted.IsRooted, Sound.{AreOver, HasBatch, HasLetters, IsMyMail, SoundAt}, Names.{HasWidth, IsNamed, tellers}, Whole.{Profile, with_worker}, Works.{Suits, Works}, HoldPlaces.spare_at}}

pub split_first : {A : Type 0} (xs : List A) (x : A) → slice_get xs 0 ≡ Some x → xs ≡ x ∷ drop 1 xs
split_first [] x at = absurd (let no : None ≡ Some x = at in cc)
split_first (y ∷ ys) x at = ap (λ z. z ∷ ys) (same_Some y x at)

pub rest_had : {A : Type 0} (xs : List A) (x : A) → Contains (drop 1 xs) x → Contains xs x
rest_had [] x (k, few, is) = (k, few, is)
rest_had (y ∷ ys) x (k, few, is) = (suc k, (omega (arith, few)), is)

pub same_self : (m : MailMessage) → same_message m m ≡ true
same_self = grind arith

-- what is seen of seats, once another is visible of worker i
pub seats_viewed : (vs : List Visible) (seats : List Chair) (i : ℕ) (v : Visible) (chair : Chair) → slice_get seats i ≡ Some chair → seats_seen (slice_set vs i v) seats ≡ slice_set (seats_seen vs seats) i (seat_seen v chair)
seats_viewed [] seats i v chair there = refl
seats_viewed (x ∷ vs) [] i v chair there = absurd (cc)
seats_viewed (x ∷ vs) (seat ∷ seats) zero v chair there = grind arith
seats_viewed (x ∷ vs) (seat ∷ seats) (suc i) v chair there = ap (λ ys. seat_seen x seat ∷ ys) (seats_viewed vs seats i v chair there)

-- WHERE IT LEADS

abbrev pub led_by : Bool → ℕ → Place
led_by b applied = if b then to_callbacks else Place.Mail (InMail.Apply (applied + 1) true)

abbrev pub ends_turn : ℕ → List MailMessage → Bool
ends_turn applied ms = is_empty ms || nat_le 64 (applied + 1)

abbrev pub rest_of : Worker → List Mail
rest_of w = drop 1 w.batch.values

-- the worker goes on with the rest
abbrev pub passed_on : Worker → Worker
passed_on w = record w { batch = record w.batch { values = drop 1 w.batch.values } }

some_left : (ms : List Mail) → is_empty (map message_of ms) ≡ false → 0 < length ms
some_left [] h = absurd (false≢true (sym h))
some_left (m ∷ ms) h = omega arith

not_most : (n : ℕ) → nat_le 64 n ≡ false → n < 64
not_most n h = grind (arith, nat_tests)

-- What must hold again of what the worker itself has, with room for so many messages more.
pub record AppliedKeeps {B : Type 0} (spare : ℕ) (w : Worker) (s : Shared B) : Type 0 where
  pub told : IsTold w.names.ended.items w.home.deferred (tellers (driver_of w).requests w.home.timers + spare)
  pub wide : HasWidth w.home.deferred (tellers (driver_of w).requests w.home.timers + 64)
  pub named : IsNamed w.index w.names (driver_of w) w.home.timers s.requests.items s.sleepers.items
  pub sized : (driver_of w).ring.size ≡ ring_size s.config
  pub over : AreOver w.index w.names.ended.items w.names.unreleased (pending_count (driver_of w).requests) s.requests.items
  pub due : IsDue None w.home.closing w.index w.moments s.config w.names (driver_of w) w.home.timers s.requests.items s.sleepers.items
  pub flown : HasFlown None w.index w.names (driver_of w) s.requests.items
  pub carried : IsCarried w.names.requests.items (driver_of w).requests (driver_of w).ring s.requests.items s.store
  pub known : IsKnown w.index w.names.requests.items (driver_of w).requests s.opens s.requests.items
  pub rooted : IsRooted w.index w.names (driver_of w) w.home.timers w.home.deferred s.requests.items s.sleepers.items

module _ {B : Type 0} where
  -- what the worker has already
  pub applied_keeps : (applied : ℕ) (taken : Bool) (w : Worker) (s : Shared B) → SoundAt (Place.Mail (InMail.Apply applied taken)) w s → AppliedKeeps (64 - applied) w s
  applied_keeps = grind arith

  module _ (applied : ℕ) (taken : Bool) (w v : Worker) (s t : Shared B) (sound : SoundAt (Place.Mail (InMail.Apply applied taken)) w s)
      (spares : SparesRecords w.index s (record s { requests = t.requests; sleepers = t.sleepers }))
      (keeps : AppliedKeeps (64 - (applied + 1)) (record w { home = record w.home { driver = v.home.driver; timers = v.home.timers; deferred = v.home.deferred }; names = record w.names { ended = v.names.ended } }) (record s { requests = t.requests; sleepers = t.sleepers })) where
    abbrev s1 : Shared B
    s1 = record s { requests = t.requests; sleepers = t.sleepers }

    abbrev w1 : Worker
    w1 = record w { home = record w.home { driver = v.home.driver; timers = v.home.timers; deferred = v.home.deferred }; names = record w.names { ended = v.names.ended } }

    lined : AreLinedUp s.opens t.requests.items
    lined = lined_kept s.requests.items t.requests.items spares.lines s.opens sound.gates

    mine : (m : Mail) → Contains (rest_of w) m → IsMyMail s.config.workers w.index m t.requests.items t.sleepers.items
    mine m among = mail_kept s.config.workers w.index m s s1 spares (sound.mine m (rest_had w.batch.values m among))

    letters : HasLetters false false w.index s.config.workers w.letters t.requests.items t.sleepers.items
    letters = record {
      some = sound.letters.some;
      none = sound.letters.none;
      requests = λ h among. letter_kept s.config.workers w.index (Subject.Request h.number) h.worker s s1 spares (sound.letters.requests h among);
      timer = λ h is. letter_kept s.config.workers w.index (Subject.Timer h.number) h.worker s s1 spares (sound.letters.timer h is);
    }

    -- at the next message
    sound_next : 0 < length (rest_of w) → applied + 1 < 64 → SoundAt (Place.Mail (InMail.Apply (applied + 1) true)) (record (passed_on w1) { place = Place.Mail (InMail.Apply (applied + 1) true) }) s1
    sound_next some few =
        let quiet : true ≡ false → w1.home.deferred.notes.wakes.items ≡ [] = λ h. true_false h in
        let lets_go : false ≡ true → live_count w1.home.timers ≡ 0 = λ h. absurd (false≢true h) in
        assumption (lined, few, some, mine, letters, quiet, lets_go, keeps, tt, sound)

    -- or at the callbacks
    sound_back : SoundAt to_callbacks (record (passed_on w1) { place = to_callbacks }) s1
    sound_back =
        let told : IsTold w1.names.ended.items w1.home.deferred (tellers (driver_of w1).requests w1.home.timers + spare_at to_callbacks) = places_fewer (omega arith) keeps.told in
        let batch : HasBatch to_callbacks (rest_of w) = λ h. absurd (false≢true h) in
        let quiet : true ≡ false → w1.home.deferred.notes.wakes.items ≡ [] = λ h. true_false h in
        let lets_go : false ≡ true → live_count w1.home.timers ≡ 0 = λ h. absurd (false≢true h) in
        assumption (lined, told, batch, mine, letters, quiet, lets_go, keeps, tt, sound)

    pub applied_sound : SoundAt (after_message (applied + 1) (map message_of (rest_of w))) (record (passed_on w1) { place = after_message (applied + 1) (map message_of (rest_of w)) }) s1
    applied_sound = by (ends_turn applied (map message_of (rest_of w))) refl
      where
        by : (b : Bool) → ends_turn applied (map message_of (rest_of w)) ≡ b → SoundAt (led_by b applied) (record (passed_on w1) { place = led_by b applied }) s1
        by true is = sound_back
        by false is =
            let parts = or_parts (is_empty (map message_of (rest_of w))) (nat_le 64 (applied + 1)) is in
            sound_next (some_left (rest_of w) parts.0) (not_most (applied + 1) parts.1)

-- WHAT SUCH A PLACE SAYS

pub record Leads (q : Place) : Type 0 where
  pub polls : polls_at q ≡ None
  pub free : next_at q ≡ Next.Free
  pub unserved : serves_at q ≡ false
  pub owes : (n : ℕ) → owed_at n q ≡ []
  pub begins : begins_at q ≡ None
  pub claims : claims_at q ≡ None
  pub counts : has_count_at q ≡ false
  pub published : is_published_at q ≡ false
  pub drops : drops_at q ≡ no_drops
  pub stands : (root : ℕ) → polled_in root q ≡ None

pub leads : (applied : ℕ) (ms : List MailMessage) → Leads (after_message (applied + 1) ms)
leads = grind arith

-- one message less is in hand
pub one_less : (others : Profile) (w : Worker) (mail : Mail) → slice_get w.batch.values 0 ≡ Some mail → (k : Mail) → (with_worker others w).mail k ≡ (with_worker others (passed_on w)).mail k + mail_in k (mail ∷ [])
one_less others w mail first k =
    let weigh : Mail → ℕ = λ other. cond (same_mail k other) 1 0 in
    omega (arith, sum_by-append weigh (mail_of_letters w.letters) w.batch.values, sum_by-append weigh (mail_of_letters w.letters) (rest_of w), ap (mail_in k) (split_first w.batch.values mail first), mail_first k mail (rest_of w))

-- the wake polls are seen as before
polls_viewed : (vs : List Visible) (seats : List Chair) (i : ℕ) (v mine : Visible) → slice_get vs i ≡ Some mine → v.wakes ≡ mine.wakes → polls_seen (slice_set vs i v) seats ≡ polls_seen vs seats
polls_viewed [] seats i v mine seen wakes = refl
polls_viewed (x ∷ vs) [] zero v mine seen wakes = refl
polls_viewed (x ∷ vs) [] (suc i) v mine seen wakes = refl
polls_viewed (x ∷ vs) (seat ∷ seats) zero v mine seen wakes = grind arith
polls_viewed (x ∷ vs) (seat ∷ seats) (suc i) v mine seen wakes = ap (λ ys. raised_times seat.raised x.wakes ∷ ys) (polls_viewed vs seats i v mine seen wakes)

module _ {B : Type 0} where
  pub things_viewed : (vs : Views) (i : ℕ) (mine v : Visible) (s : Shared B) → slice_get vs.workers i ≡ Some mine → v.wakes ≡ mine.wakes → things_with (with_view vs i v) s ≡ things_with vs s
  things_viewed vs i mine v s seen wakes = ap (λ ps. record (things_with vs s) { wake_polls = ps }) (polls_viewed vs.workers s.seats.items i v mine seen wakes)

-- the same of what others rely on
pub profile_there : (applied : ℕ) (taken : Bool) (w v u : Worker) → w.place ≡ Place.Mail (InMail.Apply applied taken) → u ≡ record v { place = u.place } → v.place ≡ w.place → Leads u.place → SameProfile v u
profile_there = grind arith

module _ {B L : Type 0} (left : B → L) (spot : L → Option Said → Spot) where
  -- WHAT THE MACHINE MAKES OF IT
  pub applied_works : (applied : ℕ) (taken : Bool) (mail : Mail) (w w1 : Worker) (s s1 : Shared B) → SoundAt (Place.Mail (InMail.Apply applied taken)) w s → slice_get w.batch.values 0 ≡ Some mail → (p : Plan) (vs : Views) → Suits p vs w s
      → s1.seats.items ≡ s.seats.items
      → desk_of w1 ≡ record (told_by_message (common_of left spot p vs s) w.root (message_of mail) (desk_of w)) { batch = map message_of (rest_of w); place = after_message (applied + 1) (map message_of (rest_of w)) }
      → visible w1 ≡ record (visible w) { taken = map message_of (rest_of w) }
      → things_with (with_view vs w.index (visible w1)) s1 ≡ things_with vs s
      → own_of w1 ≡ record (own_after_apply (own_of w) (common_of left spot p vs s) (message_of mail)) { serving = false }
      → common_of left spot p vs s1 ≡ made_by (own_of w) (common_of left spot p vs s) (message_of mail)
      → Works left spot p vs w s (Apply (message_of mail)) w1 s1
  applied_works applied taken mail w w1 s s1 sound first p vs suits seats desk shown things own common =
      let cs = common_of left spot p vs s in
      let d = desk_of w in
      let m = message_of mail in
      let rest = rest_of w in
      let seat = sound.seated.seat in
      let there = sound.seated.there in
      let phased = sound.phased seat there in
      let mine = own_seat left spot p vs w s seat suits there in
      let split : w.batch.values ≡ mail ∷ rest = split_first w.batch.values mail first in
      let batch : d.batch ≡ m ∷ map message_of rest = ap (map message_of) split in
      let v1 : Visible = visible w1 in
      let inbox : (seat_seen (visible w) seat).inbox ≡ m ∷ (map message_of rest ++ map message_of seat.mailbox.inbox.messages) = ap (λ ms. map message_of ms ++ map message_of seat.mailbox.inbox.messages) split in
      let seat_then : seat_seen v1 seat ≡ record (seat_of cs w.index) { inbox = drop 1 (seat_of cs w.index).inbox } = grind (arith, shown, inbox, mine) in
      record {
        choice = Plain;
        moves =
            subst (λ y. move_at p.config w.index (own_of w) cs d (things_with vs s) y ≡ record { event = Apply m; choice = Plain; desk = desk_of w1; thing = things_with (with_view vs w.index v1) s1 }) (sym sound.here)
            (rw batch refl ∙ ap (λ y. record { event = Apply m; choice = Plain; desk = y; thing = things_with vs s }) (sym desk) ∙ ap (λ x. record { event = Apply m; choice = Plain; desk = desk_of w1; thing = x }) (sym things));
        may = (rw (sound.here, sound.letters.none refl) refl, (rw mine phased.opened, (ap (is_first_message m) mine ∙ ap (λ ms. is_first_message m (record (seat_seen (visible w) seat) { inbox = ms })) inbox ∙ same_self m, tt)));
        own = own;
        common = grind (arith, seats, seats_viewed vs.workers s.seats.items w.index v1 seat there, seat_then, common);
      }
