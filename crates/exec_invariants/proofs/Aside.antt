-- What a step leaves of others: where it changes seats, the idle set and the global queue alone.
use Rattle.exec_invariants.{proofs.{Names.{◌≡◌, ◌≢◌, inl, ℕ, zero, suc, ◌≤◌, ◌+◌, List, [], ◌∷◌, ◌++◌, length, map, sum_by, Option, Some, false, refl, sym, ap, subst, ◌∙◌, arith, slice_get, slice_set, length-set, sum_by-cons, Queue, tail_of, Runnable, Said, Event, Turn, Next, Plain, Plan, Place, move_at, next_at, polls_at, serves_at, Moved, Record, SleeperRecord, Chair, Shared, Worker, Spot, Views, common_of, desk_of, own_of, things_with, Goes, Makes, by_number, set_elsewhere, set_there}, PoolKept.{KeepsGates, gates_same, pool_seats}, Spared.{records_endure, sleepers_endure}, Turning.{GoesOn, Keeps, Lands, Shares, arrives, by_place, fits_here, turn_alike, turned}}, specs.{Holding.{IsHolding, box_of, holder_of, nap_of, thing_of, Mail}, Kinds.{kind_of, lowered}, Places.{claims_at, drops_at, has_count_at, is_pooled_at, is_published_at}, Spares.{Spares, SparesChair, SparesRecord, SparesSleeper}, Whole.{claimed_count, duties_of, hands_of, IsWhole, may_let_go, Profile, queued, runnables_in, stock, with_worker}, Sound.{SoundAt, has_wakes_at}, Works.{Beside, Steps, Suits}}}

-- SEATS

pub spared : (chair : Chair) → SparesChair chair chair
spared chair = record { phase = refl; pool = refl; left = refl; closed = refl; target = refl; mail = λ h. h; made = refl; queue = inl refl }

pub record_spared : (r : Record) → SparesRecord r r
record_spared r = record { kept = refl; waiter = λ t h. h; forwarding = inl refl; observed = inl refl }

pub sleeper_spared : (z : SleeperRecord) → SparesSleeper z z
sleeper_spared z = record { kept = refl; forwarding = inl refl }

-- those of others are spared, and no tail falls
pub record SparesSeats (i : ℕ) (seats seats' : List Chair) : Type 0 where
  pub many : length seats' ≡ length seats
  pub chair : (j : ℕ) (chair : Chair) → j ≢ i → slice_get seats j ≡ Some chair → (chair' : Chair) × (slice_get seats' j ≡ Some chair') × SparesChair chair chair'
  pub tails : (k : ℕ) (chair chair' : Chair) → slice_get seats k ≡ Some chair → slice_get seats' k ≡ Some chair' → tail_of chair.queue ≤ tail_of chair'.queue

pub seats_same : (i : ℕ) (seats seats' : List Chair) → seats' ≡ seats → SparesSeats i seats seats'
seats_same i seats seats' same =
    record {
      many = ap length same;
      chair = λ j chair other there. (chair, ap (λ xs. slice_get xs j) same ∙ there, spared chair);
      tails = λ k chair chair' there there'.
          let is : chair ≡ chair' = cc (sym there ∙ ap (λ xs. slice_get xs k) (sym same) ∙ there') in
          subst (λ c. tail_of chair.queue ≤ tail_of c.queue) is (omega arith);
    }

-- the tail of a chair that was set, and of any other
tails_set : (i : ℕ) (seats seats' : List Chair) (mine mine' : Chair) → seats' ≡ slice_set seats i mine' → slice_get seats i ≡ Some mine → tail_of mine.queue ≤ tail_of mine'.queue
    → (k : ℕ) (chair chair' : Chair) → slice_get seats k ≡ Some chair → slice_get seats' k ≡ Some chair' → tail_of chair.queue ≤ tail_of chair'.queue
tails_set = grind (arith, by_number, set_elsewhere, set_there)

-- the own seat was set
pub seats_own : (i : ℕ) (seats seats' : List Chair) (mine mine' : Chair) → seats' ≡ slice_set seats i mine' → slice_get seats i ≡ Some mine → tail_of mine.queue ≤ tail_of mine'.queue → SparesSeats i seats seats'
seats_own = grind (arith, length-set, set_elsewhere, spared, tails_set)

-- that of worker k was set, and spares it
pub seats_other : (i k : ℕ) (seats seats' : List Chair) (its its' : Chair) → seats' ≡ slice_set seats k its' → slice_get seats k ≡ Some its → tail_of its.queue ≤ tail_of its'.queue → SparesChair its its' → SparesSeats i seats seats'
seats_other = grind (arith, length-set, by_number, set_elsewhere, spared, set_there, tails_set)

-- QUEUES

abbrev pub queue_of_chair : Chair → Queue Runnable
queue_of_chair chair = chair.queue

pub queues_set : (seats : List Chair) (i : ℕ) (chair chair' : Chair) → slice_get seats i ≡ Some chair → chair'.queue ≡ chair.queue → map queue_of_chair (slice_set seats i chair') ≡ map queue_of_chair seats
queues_set [] i chair chair' there same = refl
queues_set (c ∷ cs) zero chair chair' there same = grind arith
queues_set (c ∷ cs) (suc i) chair chair' there same = ap (λ qs. c.queue ∷ qs) (queues_set cs i chair chair' there same)

-- of seats with the same queues the same is in them, and each has one as before
pub stock_same : (t : ℕ) (xs ys : List Chair) → map queue_of_chair ys ≡ map queue_of_chair xs → sum_by (λ chair. runnables_in t (queued chair)) ys ≡ sum_by (λ chair. runnables_in t (queued chair)) xs
stock_same t [] [] same = refl
stock_same t [] (y ∷ ys) same = absurd (cc)
stock_same t (x ∷ xs) [] same = absurd (cc)
stock_same t (x ∷ xs) (y ∷ ys) same =
    let head : y.queue ≡ x.queue = cc in
    let tail : map queue_of_chair ys ≡ map queue_of_chair xs = cc in
    let in_queue : Chair → ℕ = λ chair. runnables_in t (queued chair) in
    sum_by-cons in_queue y ys
    ∙ ap (λ n. runnables_in t (queued y) + n) (stock_same t xs ys tail)
    ∙ ap (λ (q : Queue Runnable). runnables_in t (q.values ++ q.held) + sum_by in_queue xs) head
    ∙ sym (sum_by-cons in_queue x xs)

pub queue_back : (xs ys : List Chair) (j : ℕ) (chair : Chair) → map queue_of_chair ys ≡ map queue_of_chair xs → slice_get ys j ≡ Some chair → (before : Chair) × (slice_get xs j ≡ Some before) × (chair.queue ≡ before.queue)
queue_back xs [] j chair same there = absurd (cc)
queue_back [] (y ∷ ys) j chair same there = absurd (cc)
queue_back (x ∷ xs) (y ∷ ys) zero chair same there =
    let is : y ≡ chair = cc in
    let head : y.queue ≡ x.queue = cc in
    (x, refl, sym (ap queue_of_chair is) ∙ head)
queue_back (x ∷ xs) (y ∷ ys) (suc j) chair same there =
    let tail : map queue_of_chair ys ≡ map queue_of_chair xs = cc in
    queue_back xs ys j chair tail there

pub length_same : (xs ys : List Chair) → map queue_of_chair ys ≡ map queue_of_chair xs → length ys ≡ length xs
length_same [] [] same = refl
length_same [] (y ∷ ys) same = absurd (cc)
length_same (x ∷ xs) [] same = absurd (cc)
length_same (x ∷ xs) (y ∷ ys) same =
    let tail : map queue_of_chair ys ≡ map queue_of_chair xs = cc in
    ap suc (length_same xs ys tail)

-- BALANCES

-- what it has in hand to tell is as before
pub record SameTold (w w' : Worker) : Type 0 where
  pub batch : w'.batch ≡ w.batch
  pub letters : w'.letters ≡ w.letters
  pub left : w'.home.deferred ≡ w.home.deferred

pub hands_same : (others : Profile) (w w' : Worker) → w'.index ≡ w.index → SameTold w w' → hands_of (with_worker others w') ≡ hands_of (with_worker others w)
hands_same others w w' index told = rw (index, told.batch, told.letters, told.left) refl

-- a worker has what it had
pub record SameProfile (w w' : Worker) : Type 0 where
  pub hand : w'.hand ≡ w.hand
  pub loot : w'.loot ≡ w.loot
  pub polls : polls_at w'.place ≡ polls_at w.place
  pub claims : claims_at w'.place ≡ claims_at w.place
  pub searching : w'.searching ≡ w.searching
  pub counts : has_count_at w'.place ≡ has_count_at w.place
  pub index : w'.index ≡ w.index
  pub published : is_published_at w'.place ≡ is_published_at w.place
  pub drops : drops_at w'.place ≡ drops_at w.place
  pub told : SameTold w w'

pub profile_same : (x : Profile) (w w' : Worker) → SameProfile w w' → with_worker x w' ≡ with_worker x w
profile_same = grind arith

module _ {B : Type 0} where
  pub spares_none : (j : ℕ) (s : Shared B) → Spares j s s
  spares_none j s =
      record {
        config = refl;
        clock = refl;
        gates = λ h. h;
        hints = λ file h. h;
        many = refl;
        chair = λ chair there. (chair, there, spared chair);
        tails = (seats_same j s.seats.items s.seats.items refl).tails;
        records = λ k r there mine. (r, there, record_spared r);
        records_only = λ k r there mine. (r, there, record_spared r);
        sleepers = λ k z there mine. (z, there, sleeper_spared z);
        sleepers_only = λ k z there mine. (z, there, sleeper_spared z);
        endure = records_endure s.requests.items s.requests.items refl;
        endure_too = sleepers_endure s.sleepers.items s.sleepers.items refl;
        root = λ t slot there home. there;
        polled = λ t slot there polled mine. (slot, there, record { polled = polled; number = refl; cancelled = λ h. h; kept = refl });
        room = λ h. h;
        stretch = λ file offset n h. h;
        stopped = λ h. h;
        closed = λ h. h;
        by_zero = λ h. (refl, refl);
        shards = refl;
        emptied = λ shut k none. none;
        genuine = λ r is. is;
      }

  pub spares_turn : (i j : ℕ) (s s' : Shared B) → j ≢ i → Shares s s' → SparesSeats i s.seats.items s'.seats.items → Spares j s s'
  spares_turn i j s s' other shares seats =
      let s1 : Shared B = record s { seats = s'.seats; idle = s'.idle; global = s'.global } in
      let chair : (chair : Chair) → slice_get s.seats.items j ≡ Some chair → (chair' : Chair) × (slice_get s'.seats.items j ≡ Some chair') × SparesChair chair chair' = λ chair there. seats.chair j chair other there in
      let done : Spares j s s1 = assumption (chair, seats, spares_none j s) in
      subst (λ z. Spares j s z) (sym shares) done

  -- what tasks hold, with these seats
  abbrev pub HoldsIn : Profile → Shared B → List Chair → Type 0
  HoldsIn x s seats = IsHolding (hands_of x) s.config.workers (map holder_of s.tasks.items) (map thing_of s.requests.items) (map nap_of s.sleepers.items) (map box_of seats)

  -- with the same queues, idle set and global queue, and these messages in hand
  pub whole_moved : (x : Profile) (mail : Mail → ℕ) (s s' : Shared B) → Shares s s' → KeepsGates s.seats.items s'.seats.items → map queue_of_chair s'.seats.items ≡ map queue_of_chair s.seats.items
      → HoldsIn (record x { mail = mail }) s s'.seats.items → s'.idle ≡ s.idle → s'.global ≡ s.global → IsWhole x s → IsWhole (record x { mail = mail }) s'
  whole_moved x mail s s' shares gates queues holding idle global whole =
      let tasks : s'.tasks.items ≡ s.tasks.items = ap (λ (z : Shared B). z.tasks.items) shares in
      let set : s'.set ≡ s.set = ap (λ (z : Shared B). z.set) shares in
      let stocks : (t : ℕ) → stock t s' ≡ stock t s = λ t. rw (stock_same t s.seats.items s'.seats.items queues, global) refl in
      let config : s'.config ≡ s.config = ap (λ (z : Shared B). z.config) shares in
      let count : claimed_count x s' ≡ claimed_count x s = rw (config, idle) refl in
      let gone : may_let_go s' ≡ may_let_go s = rw (ap (λ (z : Shared B). z.set) shares, global) refl in
      record {
        runnables = λ t slot there home. rw (stocks t, gone) (whole.runnables t slot (ap (λ ts. slice_get ts t) (sym tasks) ∙ there) home);
        polls = λ t slot there home. whole.polls t slot (ap (λ ts. slice_get ts t) (sym tasks) ∙ there) home;
        claims = λ j chair there.
            let was = queue_back s.seats.items s'.seats.items j chair queues there in
            rw was.2 (whole.claims j was.0 was.1);
        counts = rw (count, idle) whole.counts;
        bits = λ j h. rw config (whole.bits j (rw (← idle) h));
        set = rw idle whole.set;
        queued_here = λ j chair r there has.
            let was = queue_back s.seats.items s'.seats.items j chair queues there in
            rw tasks (whole.queued_here j was.0 r was.1 (rw (← was.2) has));
        queued_there = λ r has. rw tasks (whole.queued_there r (rw (← global) has));
        places = rw (tasks, global) whole.places;
        made = λ t more. rw (stocks t) (whole.made t (subst (λ ts. length ts ≤ t) tasks more));
        unclaimed = λ j more. whole.unclaimed j (subst (λ n. n ≤ j) (length_same s.seats.items s'.seats.items queues) more);
        in_pool = λ j chair there. let was = gates.back j chair there in rw config (was.2.pool ∙ whole.in_pool j was.0 was.1);
        pool = rw (tasks, set) (pool_seats (duties_of x) s.tasks.items s.set s.seats.items s'.seats.items gates whole.pool);
        gates = rw (ap (λ (z : Shared B). z.opens) shares, ap (λ (z : Shared B). z.requests) shares) whole.gates;
        holding = rw (config, tasks, ap (λ (z : Shared B). z.requests) shares, ap (λ (z : Shared B). z.sleepers) shares) holding;
      }

  -- and with those that were
  pub whole_boxed : (x : Profile) (s s' : Shared B) → Shares s s' → KeepsGates s.seats.items s'.seats.items → map queue_of_chair s'.seats.items ≡ map queue_of_chair s.seats.items → HoldsIn x s s'.seats.items → s'.idle ≡ s.idle → s'.global ≡ s.global → IsWhole x s → IsWhole x s'
  whole_boxed x s s' = whole_moved x x.mail s s'

  pub whole_same : (x : Profile) (s s' : Shared B) → Shares s s' → KeepsGates s.seats.items s'.seats.items → map queue_of_chair s'.seats.items ≡ map queue_of_chair s.seats.items → map box_of s'.seats.items ≡ map box_of s.seats.items → s'.idle ≡ s.idle → s'.global ≡ s.global → IsWhole x s → IsWhole x s'
  whole_same x s s' shares gates queues boxes idle global whole = whole_boxed x s s' shares gates queues (rw boxes whole.holding) idle global whole

  -- a step that leaves all balances but of messages
  pub beside_boxed : (w w' : Worker) (s s' : Shared B) → SameProfile w w' → Shares s s' → SparesSeats w.index s.seats.items s'.seats.items → KeepsGates s.seats.items s'.seats.items → map queue_of_chair s'.seats.items ≡ map queue_of_chair s.seats.items
      → ((others : Profile) → IsWhole (with_worker others w) s → HoldsIn (with_worker others w) s s'.seats.items) → s'.idle ≡ s.idle → s'.global ≡ s.global → Beside w s w' s'
  beside_boxed w w' s s' same shares seats gates queues holds idle global =
      record {
        spares = λ j other. spares_turn w.index j s s' other shares seats;
        whole = λ others whole. rw (profile_same others w w' same) (whole_boxed (with_worker others w) s s' shares gates queues (holds others whole) idle global whole);
      }

  -- a step that leaves all balances
  pub beside_calm : (w w' : Worker) (s s' : Shared B) → SameProfile w w' → Shares s s' → SparesSeats w.index s.seats.items s'.seats.items → KeepsGates s.seats.items s'.seats.items → map queue_of_chair s'.seats.items ≡ map queue_of_chair s.seats.items → map box_of s'.seats.items ≡ map box_of s.seats.items → s'.idle ≡ s.idle → s'.global ≡ s.global → Beside w s w' s'
  beside_calm w w' s s' same shares seats gates queues boxes idle global =
      record {
        spares = λ j other. spares_turn w.index j s s' other shares seats;
        whole = λ others whole. rw (profile_same others w w' same) (whole_same (with_worker others w) s s' shares gates queues boxes idle global whole);
      }

-- who goes on has the same to tell
pub told_on : (w w' : Worker) (clock : ℕ) → GoesOn w w' clock → SameTold w w'
told_on w w' clock on = record { batch = ap (λ (v : Worker). v.batch) on.same; letters = ap (λ (v : Worker). v.letters) on.same; left = ap (λ (v : Worker). v.home.deferred) on.same }

-- a place of the same kind, with the hands as they were
pub profile_alike : (q q' : Place) (w w' : Worker) → w.place ≡ q → w'.place ≡ q' → kind_of q' ≡ lowered w.role (is_pooled_at q') (kind_of q) → Keeps w w' → w'.index ≡ w.index → SameTold w w' → SameProfile w w'
profile_alike = grind arith

module _ {B L : Type 0} (left : B → L) (spot : L → Option Said → Spot) where
  -- The worker goes on to a place of the same kind, and nothing that is shared changes.
  pub went : {T : Type 0} (q : Place) (w w' : Worker) (s : Shared B) (e : Event) (m : Moved T) → SoundAt q w s → Makes m e w' → GoesOn w w' s.clock → Keeps w w' → m.event ≡ Turn → m.choice ≡ Plain
      → Lands q m.desk.place w s → next_at q ≡ Next.Free → serves_at q ≡ false → has_wakes_at q ≡ false
      → ((p : Plan) (vs : Views) → Suits p vs w s → move_at p.config w.index (own_of w) (common_of left spot p vs s) (desk_of w) (things_with vs s) q ≡ record { event = m.event; choice = m.choice; desk = m.desk; thing = things_with vs s })
      → Steps left spot w s e w' s
  went q w w' s e m sound makes on keeps event choice lands free unserved quiet moves =
      let to : Lands q w'.place w s = subst (λ x. Lands q x w s) (sym (ap (λ d. d.place) makes.desk)) lands in
      turned left spot q w w' s s e sound (makes.event ∙ event) on refl refl (λ vs. refl)
      (turn_alike w.workers w.role q w'.place to.same free unserved) (arrives q w'.place w w' s s sound to.same (λ h. sound.quiet quiet) keeps (fits_here q w'.place w s sound to))
      (beside_calm w w' s s (profile_alike q w'.place w w' sound.here refl to.same keeps (ap (λ x. x.index) on.same) (told_on w w' s.clock on)) refl (seats_same w.index s.seats.items s.seats.items refl) (gates_same s.seats.items s.seats.items refl) refl refl refl refl)
      (λ p vs suits. moves p vs suits ∙ rw (event, choice, ← makes.desk) refl)

  -- and nothing else of the worker does
  pub loaded : {T : Type 0} (q : Place) (w w' : Worker) (s : Shared B) (e : Event) (m : Moved T) → SoundAt q w s → Makes m e w' → Goes w w' → m.event ≡ Turn → m.choice ≡ Plain
      → Lands q m.desk.place w s → next_at q ≡ Next.Free → serves_at q ≡ false → has_wakes_at q ≡ false
      → ((p : Plan) (vs : Views) → Suits p vs w s → move_at p.config w.index (own_of w) (common_of left spot p vs s) (desk_of w) (things_with vs s) q ≡ record { event = m.event; choice = m.choice; desk = m.desk; thing = things_with vs s })
      → Steps left spot w s e w' s
  loaded q w w' s e m sound makes goes =
      went q w w' s e m sound makes (by_place w w' s.clock sound.time goes) (subst (Keeps w) (sym goes) (record { root_ready = refl; hand = refl; loot = refl; searching = refl }))
