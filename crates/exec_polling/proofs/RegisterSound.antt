-- What holds of a worker that has made a request or a sleeper for the task that it polls: that the task holds it comes after.
use Rattle.std.proofs.{Common.{◌≡◌, ◌⊎◌, inl, ℕ, ◌+◌, ◌*◌, ◌≤◌, ◌==◌, Bool, true, false, Contains, List, ◌∷◌, [], ◌++◌, length, Some, None, refl, sym, ap, subst, ◌∙◌, arith, slice_get, slice_set, if◌then◌else◌}, lemmas.{Bool.false≢true, List.length-set}}
use Rattle.exec_base.specs.Slab.{live_count}
use Rattle.exec_moves.specs.declared.{handing.AfterCallbacks.AfterCallbacks, place.{InCallbacks.InCallbacks, InPoll.InPoll, Place.Place}}
use Rattle.exec_parts.{specs.{declared.parts.{mail.Subject.Subject, record.Record.Record, seat.Seat.Seat as Chair, shared.Shared.Shared, sleeping.SleeperRecord.SleeperRecord, task_slot.TaskSlot.TaskSlot, worker.Worker.Worker}, MailPosts.IsMailbox, Phased.{IsPhased, closes_at, closing_in, stage_of}, View.driver_of}, proofs.Facts.{same_Some, set_there}}
use Rattle.exec_invariants.{proofs.{Taken.{got_old, was_got}, ServingHolds.KeepsBy}, specs.{Gates.AreLinedUp, Holding.Mail, Places.polled_in, Sound.{AreHome, HasBatch, HasGuest, HasLetters, HasQueue, IsMineIn, IsMyMail, IsSeated, IsTied, SoundAt, Stands}}}

-- LISTS that grow at their end, by one of this worker

module _ {A : Type 0} where
  pub record Grows (mine : A → Type 0) (xs ys : List A) : Type 0 where
    pub on : (k : ℕ) (x : A) → slice_get xs k ≡ Some x → slice_get ys k ≡ Some x
    pub back : (k : ℕ) (x : A) → slice_get ys k ≡ Some x → (slice_get xs k ≡ Some x) ⊎ mine x

  pub grows_same : (mine : A → Type 0) (xs ys : List A) → ys ≡ xs → Grows mine xs ys
  grows_same mine xs ys same = subst (Grows mine xs) (sym same) (record { on = λ k x at. at; back = λ k x at. inl at })

  pub grows_last : (mine : A → Type 0) (xs ys : List A) (x : A) → ys ≡ xs ++ x ∷ [] → mine x → Grows mine xs ys
  grows_last = grind (arith, got_old, was_got)

-- A SEAT where something was made

abbrev pub made_at : ℕ → Chair → Chair
made_at n chair = record chair { made = chair.made + 1; mailbox = record chair.mailbox { inbox = record chair.mailbox.inbox { places = n } } }

pub record MakesAt (i batch : ℕ) (seats seats' : List Chair) : Type 0 where
  pub chair : Chair
  pub there : slice_get seats i ≡ Some chair
  pub places : ℕ
  pub more : chair.mailbox.inbox.places ≤ places
  pub room : 2 * (chair.made + 1) + 1 ≤ places
  pub batch_room : 2 * (chair.made + 1) + 1 ≤ batch
  pub set : seats' ≡ slice_set seats i (made_at places chair)

mailbox_placed : (n : ℕ) (chair : Chair) → chair.mailbox.inbox.places ≤ n → IsMailbox chair.mailbox → IsMailbox (made_at n chair).mailbox
mailbox_placed n chair more mail = record { roots = mail.roots; empty = mail.empty; place = λ none. let some = mail.place none in omega (arith, some, more) }

-- MESSAGES are about what is there still

mine_on : (rs rs' : List Record) (zs zs' : List SleeperRecord) → ((k : ℕ) (r : Record) → slice_get rs k ≡ Some r → slice_get rs' k ≡ Some r) → ((k : ℕ) (z : SleeperRecord) → slice_get zs k ≡ Some z → slice_get zs' k ≡ Some z)
    → (workers j : ℕ) (x : Subject) → IsMineIn workers j x rs zs → IsMineIn workers j x rs' zs'
mine_on rs rs' zs zs' records sleepers workers j (Subject.Request k) is = (is.0, records k is.0 is.1, is.2, is.3)
mine_on rs rs' zs zs' records sleepers workers j (Subject.Timer k) is = (is.0, sleepers k is.0 is.1, is.2, is.3)

mail_on : (rs rs' : List Record) (zs zs' : List SleeperRecord) → ((k : ℕ) (r : Record) → slice_get rs k ≡ Some r → slice_get rs' k ≡ Some r) → ((k : ℕ) (z : SleeperRecord) → slice_get zs k ≡ Some z → slice_get zs' k ≡ Some z)
    → (workers j : ℕ) (m : Mail) → IsMyMail workers j m rs zs → IsMyMail workers j m rs' zs'
mail_on = grind arith

module _ {B : Type 0} where
  -- THE WORKER with its numbers, its driver, its sleepers and what is told; and what is shared
  pub record Makes (w v : Worker) (s s' : Shared B) : Type 0 where
    pub worker : v ≡ record w { names = v.names; batch = v.batch; home = record w.home { driver = v.home.driver; timers = v.home.timers; deferred = v.home.deferred } }
    pub shared : s' ≡ record s { seats = s'.seats; requests = s'.requests; sleepers = s'.sleepers; opens = s'.opens; store = s'.store }
    pub batch : v.batch.values ≡ w.batch.values
    pub seat : MakesAt w.index v.batch.places s.seats.items s'.seats.items
    pub records : Grows (λ (r : Record). r.shown.worker ≡ w.index) s.requests.items s'.requests.items
    pub sleepers : Grows (λ (z : SleeperRecord). z.shown.worker ≡ w.index) s.sleepers.items s'.sleepers.items
    pub lined : AreLinedUp s'.opens s'.requests.items
    pub wakes : v.home.deferred.notes.wakes.items ≡ []
    pub keeps : KeepsBy (record w { place = Place.Callbacks InCallbacks.TakeBatch AfterCallbacks.Look; names = v.names; home = record w.home { deferred = v.home.deferred } }) (driver_of v) v.home.timers s'.requests.items s'.sleepers.items s'

  pub sound_made : (t : ℕ) (w v : Worker) (s s' : Shared B) → SoundAt (Place.Poll t InPoll.Act) w s → Makes w v s s' → SoundAt (Place.Poll t InPoll.Act) v s'
  sound_made t w v s s' sound m =
      let p : Place = Place.Poll t InPoll.Act in
      let v1 : Worker = record w { names = v.names; batch = v.batch; home = record w.home { driver = v.home.driver; timers = v.home.timers; deferred = v.home.deferred } } in
      let s1 : Shared B = record s { seats = s'.seats; requests = s'.requests; sleepers = s'.sleepers; opens = s'.opens; store = s'.store } in
      let w0 : Worker = record w { place = Place.Callbacks InCallbacks.TakeBatch AfterCallbacks.Look; names = v.names; home = record w.home { deferred = v.home.deferred } } in
      let keeps : KeepsBy w0 (driver_of v) v.home.timers s'.requests.items s'.sleepers.items s1 = subst (KeepsBy w0 (driver_of v) v.home.timers s'.requests.items s'.sleepers.items) m.shared m.keeps in
      let it = m.seat in
      let now : Chair = made_at it.places it.chair in
      let many : length s'.seats.items ≡ length s.seats.items = ap length it.set ∙ length-set s.seats.items w.index now in
      let found : slice_get s'.seats.items w.index ≡ Some now = ap (λ xs. slice_get xs w.index) it.set ∙ set_there s.seats.items w.index now it.chair it.there in
      let same : (chair : Chair) → slice_get s'.seats.items w.index ≡ Some chair → now ≡ chair = λ chair at. same_Some now chair (sym found ∙ at) in
      let seat_is : sound.seated.seat ≡ it.chair = same_Some sound.seated.seat it.chair (sym sound.seated.there ∙ it.there) in
      let homes : AreHome s.config.workers (length s'.seats.items) s.tasks.items = subst (λ n. AreHome s.config.workers n s.tasks.items) (sym many) sound.homes in
      let seated : IsSeated w.index false s.config.workers s'.seats.items = record {
        many = subst (λ n. s.config.workers ≤ n) (sym many) sound.seated.many;
        seat = now;
        there = found;
        pool = ap (λ (c : Chair). c.pool) (sym seat_is) ∙ sound.seated.pool;
        unarmed = λ h. ap (λ (c : Chair). c.mailbox.waker.target) (sym seat_is) ∙ sound.seated.unarmed h;
        mail = mailbox_placed it.places it.chair it.more (subst (λ (c : Chair). IsMailbox c.mailbox) seat_is sound.seated.mail);
      } in
      let queue : (chair : Chair) → slice_get s'.seats.items w.index ≡ Some chair → HasQueue p chair.queue = λ chair at. subst (λ (c : Chair). HasQueue p c.queue) (same chair at) (sound.queue it.chair it.there) in
      let batch : HasBatch p v.batch.values = λ h. absurd (false≢true h) in
      let mine : (x : Mail) → Contains v.batch.values x → IsMyMail s.config.workers w.index x s'.requests.items s'.sleepers.items = λ x has.
      mail_on s.requests.items s'.requests.items s.sleepers.items s'.sleepers.items m.records.on m.sleepers.on s.config.workers w.index x (sound.mine x (subst (λ ms. Contains ms x) m.batch has)) in
      let batch_place : (chair : Chair) → slice_get s'.seats.items w.index ≡ Some chair → chair.mailbox.inbox.closed ≡ false → 2 * chair.made + 1 ≤ v.batch.places = grind arith in
      let letters : HasLetters false false w.index s.config.workers w.letters s'.requests.items s'.sleepers.items = record {
        some = λ h. absurd (false≢true h);
        none = sound.letters.none;
        requests = λ x has. let was = sound.letters.requests x has in (mine_on s.requests.items s'.requests.items s.sleepers.items s'.sleepers.items m.records.on m.sleepers.on s.config.workers x.worker (Subject.Request x.number) was.0, was.1);
        timer = λ x has. let was = sound.letters.timer x has in (mine_on s.requests.items s'.requests.items s.sleepers.items s'.sleepers.items m.records.on m.sleepers.on s.config.workers x.worker (Subject.Timer x.number) was.0, was.1);
      } in
      let phased : (chair : Chair) → slice_get s'.seats.items w.index ≡ Some chair → IsPhased w.index (closes_at p) (closing_in p) w.home.closing w.root v.names.unreleased (stage_of chair s1) s.tasks.items = λ chair at.
      let old = sound.phased it.chair it.there in
      subst (λ c. IsPhased w.index (closes_at p) (closing_in p) w.home.closing w.root v.names.unreleased (stage_of c s1) s.tasks.items) (same chair at)
      (record { told = old.told; opened = old.opened; ended = old.ended; root = old.root; left = old.left; shut = old.shut; by_zero = old.by_zero; by_other = old.by_other; closed = old.closed; prepared = tt }) in
      let quiet : false ≡ false → v.home.deferred.notes.wakes.items ≡ [] = λ h. m.wakes in
      let lets_go : false ≡ true → live_count v1.home.timers ≡ 0 = λ h. absurd (false≢true h) in
      let done : SoundAt p v1 s1 = assumption (homes, seated, queue, batch, mine, batch_place, letters, phased, quiet, lets_go, m.lined, keeps, tt, sound) in
      subst (SoundAt p v) (sym m.shared) (subst (λ x. SoundAt p x s1) (sym m.worker) done)

-- THE GATE: where a durable request was made it joins next

module _ {B : Type 0} where
  joins_tied : (k i : ℕ) (slot : TaskSlot B) (b : Bool) → Stands (if b then Some InPoll.Act else None) i slot → Stands (if b then Some (InPoll.JoinGate k) else None) i slot
  joins_tied k i slot true st = assumption st
  joins_tied k i slot false st = st

  pub sound_joins : (t k : ℕ) (w : Worker) (s : Shared B) → SoundAt (Place.Poll t InPoll.Act) (record w { place = Place.Poll t InPoll.Act }) s → SoundAt (Place.Poll t (InPoll.JoinGate k)) (record w { place = Place.Poll t (InPoll.JoinGate k) }) s
  sound_joins t k w s sound =
      let q : Place = Place.Poll t (InPoll.JoinGate k) in
      let here : q ≡ q = refl in
      let guest : HasGuest (Some t) (InPoll.JoinGate k) w.index w.root s.tasks.items = λ apart. let g = sound.guest apart in (g.0, g.1, assumption g.2) in
      let tied : IsTied (polled_in w.root q) w.index w.root s.tasks.items = record { stands = λ slot at. joins_tied k w.index slot (t == w.root) (sound.tied.stands slot at) } in
      assumption (here, guest, tied, sound)
