-- What the steps of a search, and of a scan that reads, are to the machine.
use Rattle.std.proofs.{Common.{◌≡◌, ◌≢◌, ℕ, ◌+◌, ◌-◌, ◌*◌, ◌%◌, ◌<◌, ◌≤◌, ◌==◌, Bool, true, false, [], Option, Some, refl, sym, ap, ◌∙◌, arith, slice_get, nat_lt, nat_le, if◌then◌else◌}, lemmas.{Bool.eq-eqb, List.length-map, Nat.mod_below}}
use Rattle.exec_words.specs.{Generator.stirred, Idle.Idle, Queue.{Queue, head_of, room_of, tail_of}, declared.head.Head.Head}
use Rattle.exec_task.specs.declared.body.Said.{Said}
use Rattle.exec_machine.specs.{declared.{config.Configuration.Configuration, event.Event.{Event, TheVariants.Turn}, state.Next.Next}, Choice.Choice.Plain, Progress.Plan}
use Rattle.exec_moves.specs.{declared.{idling.{InLook.InLook, InScan.InScan, InSearch.InSearch, Scan.Scan}, place.Place.Place}, Move.move_at, Search.{add_search_count, begun_scan, from_of, half, judge_head, load_scan_head, load_search_count, load_their_head, load_their_tail, looks_at, move_half, past, past_own_queue}, Seen.{next_at, serves_at}, State.{Moved, queue_of}}
use Rattle.exec_parts.{specs.{declared.parts.{seat.Seat.Seat as Chair, shared.Shared.Shared, worker.Worker.Worker}, Spots.Spot, View.{Views, common_of, desk_of, own_of, things_of, things_with}, Things.{Goes, Makes}}, proofs.Facts.{same_number, true_false}}
use Rattle.exec_invariants.{proofs.{Showing.own_queue_seen, Dedicated.never_apart, Counting.{Stands, counts_alone, counts_same, stance_at, stance_here}, Handed.{ltb-true, ltb-false, out}, Idled.{Settles, calm_of, gone, led, settles_either}, Turning.queue_back_again}, specs.{Kinds.lowered, Places.{has_count_at, is_published_at}, Sound.{IsScanning, MayClaim, SoundAt, has_wakes_at}, Works.{Steps, Suits}}}

-- THE NEXT QUEUE isn't the one before it

next_other : (n m : ℕ) → 1 < m → (n + 1) % m ≢ n % m
next_other = grind arith

-- a scan comes to another queue than the own one
comes_other : (c : Configuration) (i : ℕ) (x : Scan) → (past_own_queue c i x).passed < c.workers → from_of c (past_own_queue c i x) ≢ i
comes_other c i x less = by (from_of c x == i) refl less
  where
    by : (b : Bool) → (from_of c x == i) ≡ b → (if b then past x else x).passed < c.workers → from_of c (if b then past x else x) ≢ i
    by true is less same =
        let was : from_of c x ≡ i = same_number (from_of c x) i is in
        let sum : x.start + (x.passed + 1) ≡ x.start + x.passed + 1 = omega arith in
        next_other (x.start + x.passed) c.workers (omega (arith, less)) (ap (λ n. n % c.workers) (sym sum) ∙ same ∙ sym was)
    by false is less same =
        let yes : (from_of c x == i) ≡ true = rw same (eq-eqb i i refl) in
        true_false (sym yes ∙ is)

still_start : (c : Configuration) (i : ℕ) (x : Scan) → (past_own_queue c i x).start ≡ x.start
still_start = grind arith

module _ {B : Type 0} where
  -- half of the own queue is free
  abbrev HasHalf : Worker → Shared B → Type 0
  HasHalf w s = (chair : Chair) → slice_get s.seats.items w.index ≡ Some chair → (chair.queue.held ≡ []) × (128 ≤ room_of chair.queue)

  -- where a scan goes on
  looks_settle : (q : Place) (x : Scan) (w : Worker) (s : Shared B) → calm_of (Place.Look InLook.Publish) ≡ lowered w.role true (calm_of q) → has_wakes_at q ≡ false → HasHalf w s → (false ≡ true → w.batch.values ≡ []) → x.start < s.config.workers → Settles q (looks_at s.config w.index x) (out w.searching) w s
  looks_settle q x w s same quiet half batch start = by (nat_lt (past_own_queue s.config w.index x).passed s.config.workers) refl
    where
      by : (b : Bool) → nat_lt (past_own_queue s.config w.index x).passed s.config.workers ≡ b → Settles q (if b then Place.Scan (InScan.LoadTheirHead (past_own_queue s.config w.index x)) else Place.Look InLook.Publish) (out w.searching) w s
      by true is =
          let less : (past_own_queue s.config w.index x).passed < s.config.workers = ltb-true (past_own_queue s.config w.index x).passed s.config.workers is in
          record { same = same; searches = tt; counts = refl; published = refl; queue = half; aims = (comes_other s.config w.index x less, (rw (still_start s.config w.index x) start, less)); batch = batch; quiet = λ h. quiet }
      by false is = record { same = same; searches = tt; counts = refl; published = refl; queue = λ chair there. (half chair there).0; aims = tt; batch = batch; quiet = λ h. quiet }

  pub judged_settle : (q : Place) (x : Scan) (h : Head) (w : Worker) (s : Shared B) → calm_of (Place.Look InLook.Publish) ≡ lowered w.role true (calm_of q) → has_wakes_at q ≡ false → HasHalf w s → (false ≡ true → w.batch.values ≡ []) → from_of s.config x ≢ w.index → IsScanning s.config x → Settles q (judge_head s.config w.index x h) (out w.searching) w s
  judged_settle q x h w s same quiet half batch other within = by (h.gap == 0) refl
    where
      by : (b : Bool) → (h.gap == 0) ≡ b → Settles q (if b then Place.Scan (InScan.LoadTheirTail x h) else looks_at s.config w.index (past x)) (out w.searching) w s
      by true is = record { same = same; searches = tt; counts = refl; published = refl; queue = half; aims = (other, within, same_number h.gap 0 is); batch = batch; quiet = λ h. quiet }
      by false is = looks_settle q (past x) w s same quiet half batch within.0

-- where a move says the place, and nothing else of the worker changes
pub placed : {T : Type 0} (w : Worker) {w' : Worker} {e : Event} (m : Moved T) → Makes m e w' → Goes w w' → w' ≡ record w { place = m.desk.place }
placed w m makes goes = goes ∙ ap (λ d. record w { place = d.place }) makes.desk

module _ {B L : Type 0} (left : B → L) (spot : L → Option Said → Spot) (w w' : Worker) (s : Shared B) (e : Event) where
  pub search_count_loaded : SoundAt (Place.Search InSearch.LoadSearchCount) w s → Makes (load_search_count s.config (desk_of w) s.idle) e w' → Goes w w' → Steps left spot w s e w' s
  search_count_loaded sound makes goes =
      let q = Place.Search InSearch.LoadSearchCount in
      let m = load_search_count s.config (desk_of w) s.idle in
      gone left spot q m.desk.place (out false) w w' s s.idle e sound makes.event (placed w m makes goes) sound.searching
      (settles_either q (nat_le s.config.workers (2 * s.idle.count)) (Place.Look InLook.Publish) (Place.Search InSearch.AddSearchCount) (out false) w s
      (record { same = refl; searches = tt; counts = refl; published = refl; queue = sound.queue; aims = tt; batch = sound.batch; quiet = λ h. refl })
      (record { same = refl; searches = refl; counts = refl; published = refl; queue = sound.queue; aims = tt; batch = sound.batch; quiet = λ h. refl }))
      refl refl (counts_alone (stance_at q w) false false w s s.idle (stance_here q w sound.here) refl (rw sound.searching refl))
      (λ p vs suits. rw (← suits.config) refl)

  pub search_count_added : (x : Idle) → SoundAt (Place.Search InSearch.AddSearchCount) w s → Makes (add_search_count (desk_of w) s.idle) e w' → w' ≡ record w { place = w'.place; searching = true } → x ≡ record s.idle { count = s.idle.count + 1 } → Steps left spot w s e w' (record s { idle = x })
  search_count_added x sound makes same is =
      let q = Place.Search InSearch.AddSearchCount in
      let more : x.count ≡ s.idle.count + 1 = ap (λ i. i.count) is in
      led left spot q (Place.Scan InScan.LoadScanHead) w.moments.read w.rng (out true) w w' s x e sound makes.event sound.time.read (same ∙ ap (λ d. record w { place = d.place; searching = true }) makes.desk) (never_apart q w s sound refl)
      (record { same = refl; searches = tt; counts = refl; published = refl; queue = sound.queue; aims = tt; batch = sound.batch; quiet = λ h. refl }) refl refl
      (counts_alone (stance_at q w) true false w s x (stance_here q w sound.here) (ap (λ i. i.published) is) (rw sound.searching (omega (arith, more))))
      (λ p vs suits. rw is refl)

  -- THE SCAN

  pub scan_head_loaded : SoundAt (Place.Scan InScan.LoadScanHead) w s → Makes (load_scan_head s.config w.index (desk_of w) (queue_of (things_of s) w.index)) e w' → w' ≡ record w { place = w'.place; rng = stirred w.rng } → Steps left spot w s e w' s
  scan_head_loaded sound makes same =
      let q = Place.Scan InScan.LoadScanHead in
      let m = load_scan_head s.config w.index (desk_of w) (queue_of (things_of s) w.index) in
      led left spot q m.desk.place w.moments.read (stirred w.rng) (out w.searching) w w' s s.idle e sound makes.event sound.time.read (same ∙ ap (λ d. record w { place = d.place; rng = stirred w.rng }) makes.desk) sound.calm
      (by (nat_lt (room_of (queue_of (things_of s) w.index)) half) refl) refl refl (counts_same (stance_at q w) w s (stance_here q w sound.here))
      (λ p vs suits. rw (← suits.config) (ap (λ x. record { event = Turn; choice = Plain; desk = m.desk; thing = x }) (queue_back_again w.index (things_with vs s))))
    where
      by : (b : Bool) → nat_lt (room_of (queue_of (things_of s) w.index)) half ≡ b → Settles (Place.Scan InScan.LoadScanHead) (if b then Place.Look InLook.Publish else looks_at s.config w.index (begun_scan s.config (stirred w.rng))) (out w.searching) w s
      by true is = record { same = refl; searches = tt; counts = refl; published = refl; queue = sound.queue; aims = tt; batch = sound.batch; quiet = λ h. refl }
      by false is =
          looks_settle (Place.Scan InScan.LoadScanHead) (begun_scan s.config (stirred w.rng)) w s refl refl
          (λ chair there.
          let seen : room_of (queue_of (things_of s) w.index) ≡ room_of chair.queue = ap room_of (own_queue_seen w.index s chair there) ∙ rw (length-map chair.queue.values (λ r. r.task.0)) refl in
          let free : 128 ≤ room_of chair.queue = ltb-false (room_of chair.queue) half (ap (λ n. nat_lt n half) (sym seen) ∙ is) in
          (sound.queue chair there, free))
          sound.batch (mod_below (stirred w.rng) s.config.workers sound.config.workers)

  -- a step that only reads
  read : {T : Type 0} (q : Place) (m : Moved T) → SoundAt q w s → Makes m e w' → Goes w w' → m.event ≡ Turn → m.choice ≡ Plain → has_count_at q ≡ false → is_published_at q ≡ false → Settles q m.desk.place (out w.searching) w s → next_at q ≡ Next.Free → serves_at q ≡ false
      → ((p : Plan) (vs : Views) → Suits p vs w s → move_at p.config w.index (own_of w) (common_of left spot p vs s) (desk_of w) (things_with vs s) q ≡ record { event = Turn; choice = Plain; desk = record (desk_of w) { place = m.desk.place }; thing = things_with vs s })
      → Steps left spot w s e w' s
  read q m sound makes goes event choice uncounted unpublished to free unserved moves =
      let here : Stands (out w.searching) w = record { searching = refl; counted = ap has_count_at sound.here ∙ uncounted; published = ap is_published_at sound.here ∙ unpublished } in
      let is : stance_at q w ≡ out w.searching = rw (uncounted, unpublished) refl in
      gone left spot q m.desk.place (out w.searching) w w' s s.idle e sound (makes.event ∙ event) (placed w m makes goes) refl to free unserved (rw is (counts_same (out w.searching) w s here)) moves

  pub their_head_loaded : (x : Scan) → SoundAt (Place.Scan (InScan.LoadTheirHead x)) w s → Makes (load_their_head s.config w.index x (desk_of w) (queue_of (things_of s) (from_of s.config x))) e w' → Goes w w' → Steps left spot w s e w' s
  their_head_loaded x sound makes goes =
      let q = Place.Scan (InScan.LoadTheirHead x) in
      let m = load_their_head s.config w.index x (desk_of w) (queue_of (things_of s) (from_of s.config x)) in
      read q m sound makes goes refl refl refl refl (judged_settle q x (head_of (queue_of (things_of s) (from_of s.config x))) w s refl refl sound.queue sound.batch sound.aims.0 sound.aims.1) refl refl
      (λ p vs suits. rw (← suits.config) (ap (λ y. record { event = Turn; choice = Plain; desk = m.desk; thing = y }) (queue_back_again (from_of s.config x) (things_with vs s))))

  pub their_tail_loaded : (x : Scan) (h : Head) → SoundAt (Place.Scan (InScan.LoadTheirTail x h)) w s → Makes (load_their_tail s.config w.index x h (desk_of w) (queue_of (things_of s) (from_of s.config x))) e w' → Goes w w' → Steps left spot w s e w' s
  their_tail_loaded x h sound makes goes =
      read q m sound makes goes refl refl refl refl (by (nat_lt 256 (tail - h.real)) refl) refl refl
      (λ p vs suits. rw (← suits.config) (ap (λ y. record { event = Turn; choice = Plain; desk = m.desk; thing = y }) (queue_back_again from (things_with vs s))))
    where
      q : Place
      q = Place.Scan (InScan.LoadTheirTail x h)

      from : ℕ
      from = from_of s.config x

      tail : ℕ
      tail = tail_of (queue_of (things_of s) from)

      m : Moved (Queue ℕ)
      m = load_their_tail s.config w.index x h (desk_of w) (queue_of (things_of s) from)

      seen : (chair : Chair) → slice_get s.seats.items from ≡ Some chair → tail ≡ tail_of chair.queue
      seen chair there = ap tail_of (own_queue_seen from s chair there) ∙ rw (length-map chair.queue.values (λ r. r.task.0)) refl

      claims : (b : Bool) → nat_lt (tail - h.real) 2 ≡ b → nat_lt 256 (tail - h.real) ≡ false → Settles q (if b then looks_at s.config w.index (past x) else Place.Scan (InScan.ClaimHalf x h tail)) (out w.searching) w s
      claims true is most = looks_settle q (past x) w s refl refl sound.queue sound.batch sound.aims.1.0
      claims false is most =
          let aims : MayClaim w.index from h tail s.seats.items = record {
            other = sound.aims.0;
            unclaimed = sound.aims.2;
            some = omega (arith, ltb-false (tail - h.real) 2 is);
            most = omega (arith, ltb-false 256 (tail - h.real) most);
            behind = λ chair there. let it = seen chair there in omega (arith, it);
          } in
          record { same = refl; searches = tt; counts = refl; published = refl; queue = sound.queue; aims = (aims, sound.aims.1); batch = sound.batch; quiet = λ h. refl }

      by : (b : Bool) → nat_lt 256 (tail - h.real) ≡ b → Settles q (if b then Place.Scan (InScan.LoadTheirHead x) else (if nat_lt (tail - h.real) 2 then looks_at s.config w.index (past x) else Place.Scan (InScan.ClaimHalf x h tail))) (out w.searching) w s
      by true is = record { same = refl; searches = tt; counts = refl; published = refl; queue = sound.queue; aims = (sound.aims.0, sound.aims.1); batch = sound.batch; quiet = λ h. refl }
      by false is = claims (nat_lt (tail - h.real) 2) refl is

  pub half_moved : (from : ℕ) (h : Head) → SoundAt (Place.Scan (InScan.MoveHalf from h)) w s → Makes (move_half from h (desk_of w)) e w' → Goes w w' → Steps left spot w s e w' s
  half_moved from h sound makes goes =
      read (Place.Scan (InScan.MoveHalf from h)) (move_half from h (desk_of w)) sound makes goes refl refl refl refl
      (record { same = refl; searches = tt; counts = refl; published = refl; queue = sound.queue; aims = sound.aims; batch = sound.batch; quiet = λ h. refl }) refl refl (λ p vs suits. refl)
