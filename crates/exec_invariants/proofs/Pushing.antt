-- What the steps of a push into the own run queue are to the machine.
use Rattle.exec_invariants.{specs.{Places.{begins_at, has_loot_at}, Sound.{HasQueue, SoundAt}, Whole.{HasWhole, IsGenuine, queued, runnables_in}, Works.{Steps, Suits}}, proofs.{Words.{◌≡◌, ℕ, ◌+◌, ◌-◌, ◌<◌, ◌≤◌, ◌==◌, ◌&&◌, ◌⊎◌, inl, inr, Bool, true, false, Contains, List, [], ◌++◌, drop, length, Option, None, Some, refl, sym, ap, subst, ◌∙◌, arith, length-drop, option_to_list, slice_get, slice_set, if◌then◌else◌, nat_le, nat_lt, option_map, append-nil, drop-map, length-append, length-map, take-map, Contains-append_cases, Contains-append_left, Contains-append_right, ltb-true, ltb-false, is_spent, Queue, fit_of, head_of, newest, overflowed, published, restored, room_of, tail_of, extended, Fit, Head, Said, Runnable, Event, Turn, Plain, Plan, AfterKick, AfterPush, InGlobal, InKick, InPush, Place, move_at, has_others, same_head, after_fit, flow_over, in_hand, load_push_head, store_oldest, store_value, Moved, queue_of, turns, with_queue, after_push_of, Chair, Shared, Worker, TurnsChair, OfChair, overflowed_if, with_overflow, Spot, Views, common_of, desk_of, own_of, queue_seen, tasks_of, things_of, things_with, Goes, Makes, same_number}, Showing.own_queue_seen, Claiming.same_heads, PushLeads.{ArrivesAt, CarriesNone, push_reaches}, Handed.{IsPushFor, PushNext, push_seen}, Aside.told_on, Queued.{hands_of, whole_queued}, Queueing.{Reaches, around_own, hands_own, if_either, poses, requeued_own}, Thieves.{in_both, in_parts, left_from, published_seen, taken_from}, Turning.{GoesOn, set_found}}}

-- THE QUEUE THAT IS SEEN

tail_seen : (q : Queue Runnable) → tail_of (queue_seen q) ≡ tail_of q
tail_seen q = ap (λ n. q.real + n) (length-map q.values (λ (r : Runnable). r.task.0))

overflowed_seen : (q : Queue Runnable) → overflowed (queue_seen q) ≡ queue_seen (overflowed q)
overflowed_seen q = ap (λ xs. record (queue_seen (overflowed q)) { held = xs }) (take-map (λ (r : Runnable). r.task.0) 128 q.values)

-- what is in the hand of who pushes is an ordinary task's
pub ordinary : {B : Type 0} (q : Place) (w : Worker) (s : Shared B) → SoundAt q w s → begins_at q ≡ None → (r : Runnable) → Contains (option_to_list w.hand) r → IsGenuine s.tasks.items r
ordinary q w s sound none r has =
    elim (sound.genuine r has) [
      | inl is ↦ absurd (cc (is, none))
      | inr genuine ↦ genuine
    ]

module _ {B L : Type 0} (left : B → L) (spot : L → Option Said → Spot) (x : InPush) (b : AfterPush) (w w' : Worker) (s s' : Shared B) (e : Event) (its : Chair) where
  -- what each step of a push knows of its seat
  pub record Pushes : Type 0 where
    pub sound : SoundAt (Place.Push x b) w s
    pub there : slice_get s.seats.items w.index ≡ Some its
    pub turn : e ≡ Turn
    pub kept : s' ≡ record s { seats = s'.seats }

  abbrev pub Moving : Moved (Queue ℕ) → Type 0
  Moving m = (p : Plan) (vs : Views) → Suits p vs w s → move_at p.config w.index (own_of w) (common_of left spot p vs s) (desk_of w) (things_with vs s) (Place.Push x b) ≡ with_queue w.index (things_with vs s) m

  -- The own run queue became this; in the hands is what is left of both.
  pub pushed : (y : Queue Runnable) (v : Worker) → Pushes → GoesOn w v s.clock → v.searching ≡ w.searching → s'.seats.items ≡ slice_set s.seats.items w.index (record its { queue = y }) → tail_of its.queue ≤ tail_of y → (y.gap == 0) ≡ (its.queue.gap == 0)
      → ((t : ℕ) → runnables_in t (hands_of v) + runnables_in t (y.values ++ y.held) ≡ runnables_in t (hands_of w) + runnables_in t (queued its)) → ((r : Runnable) → Contains (y.values ++ y.held) r → Contains (queued its) r ⊎ IsGenuine s.tasks.items r)
      → Reaches (Place.Push x b) v.place w v s s' → w' ≡ v → Moving (record { event = Turn; choice = Plain; desk = desk_of v; thing = queue_seen y }) → Steps left spot w s e w' s'
  pushed y v pushes on searching set grows gap count older to goes moves =
      let q = Place.Push x b in
      subst (λ z. Steps left spot w s e z s') (sym goes)
      (requeued_own left spot its y q w v s s' e pushes.sound pushes.turn on pushes.kept pushes.there set grows refl refl to
      (λ others before. whole_queued others w.index its y w v s s' pushes.kept pushes.there set (hands_own w.index its.queue y w v (poses q w v s pushes.sound to.same searching (ap (λ (z : Worker). z.index) on.same) (told_on w v s.clock on)) count gap) older before)
      moves)

  -- the queue is as it was
  pub held_on : (next : Place) → Pushes → s'.seats.items ≡ slice_set s.seats.items w.index its → Reaches (Place.Push x b) next w (record w { place = next }) s s' → w' ≡ record w { place = next } → Moving (turns next (desk_of w) (queue_seen its.queue)) → Steps left spot w s e w' s'
  held_on next pushes set to goes moves =
      pushed its.queue (record w { place = next }) pushes (record { same = refl; read = pushes.sound.time.read; asleep = pushes.sound.time.asleep }) refl set (omega arith) refl (λ t. refl) (λ r has. inl has) to goes moves

module _ {B L : Type 0} (left : B → L) (spot : L → Option Said → Spot) (b : AfterPush) (w w' : Worker) (s s' : Shared B) (e : Event) where
  -- THE HEAD IS LOADED, for what fits

  pub push_head_loaded : SoundAt (Place.Push InPush.LoadPushHead b) w s → Makes (load_push_head b (desk_of w) (queue_of (things_of s) w.index)) e w' → Goes w w' → OfChair w.index s (λ chair. length chair.queue.values + chair.queue.gap ≤ 256) → s' ≡ s → Steps left spot w s e w' s'
  push_head_loaded sound makes goes within same = by_spent (is_spent (tail_of q)) refl
    where
      its : Chair
      its = sound.seated.seat

      there : slice_get s.seats.items w.index ≡ Some its
      there = sound.seated.there

      q : Queue Runnable
      q = its.queue

      here : Place
      here = Place.Push InPush.LoadPushHead b

      kept : s' ≡ record s { seats = s'.seats }
      kept = subst (λ (z : Shared B). z ≡ record s { seats = z.seats }) (sym same) refl

      set : s'.seats.items ≡ slice_set s.seats.items w.index its
      set = ap (λ (z : Shared B). z.seats.items) same ∙ sym (set_found s.seats.items w.index its there)

      seen : load_push_head b (desk_of w) (queue_of (things_of s) w.index) ≡ turns (after_fit b (head_of q) (fit_of q)) (desk_of w) (queue_seen q)
      seen = grind (arith, own_queue_seen w.index s its there, tail_seen q)

      -- to this place
      to : (fit : Fit) → fit_of q ≡ fit → Reaches here (after_fit b (head_of q) fit) w (record w { place = after_fit b (head_of q) fit }) s s' → Steps left spot w s e w' s'
      to fit is reaches =
          let next : Place = after_fit b (head_of q) fit in
          let moved : load_push_head b (desk_of w) (queue_of (things_of s) w.index) ≡ turns next (desk_of w) (queue_seen q) = seen ∙ ap (λ f. turns (after_fit b (head_of q) f) (desk_of w) (queue_seen q)) is in
          held_on left spot InPush.LoadPushHead b w w' s s' e its next (record { sound = sound; there = there; turn = makes.event; kept = kept }) set reaches
          (goes ∙ ap (λ d. record w { place = d.place }) (makes.desk ∙ ap (λ m. m.desk) moved))
          (λ p vs suits. ap (with_queue w.index (things_with vs s)) moved)

      to_append : (fit : Fit) → fit_of q ≡ fit → after_fit b (head_of q) fit ≡ Place.Global InGlobal.Append b → Steps left spot w s e w' s'
      to_append fit is place =
          let next : Place = Place.Global InGlobal.Append b in
          to fit is (subst (λ z. Reaches here z w (record w { place = z }) s s') (sym place) (record {
            same = refl;
            quiet = λ h. sound.quiet h;
            around = around_own next w s s' its q there set sound.seated (sound.queue its there) tt sound.batch (sound.batch_place its there) sound.lets_go (sound.phased its there);
            carries = record { runnable = sound.runnable; hand = sound.hand; loot = record { places = sound.loot.places; few = sound.loot.few; none = λ is. absurd (cc (is)) }; genuine = sound.genuine; stolen = sound.stolen; searching = sound.searching; pooled = sound.pooled; serves = sound.serves; calm = sound.calm; left = sound.left; told = sound.told };
          }))

      to_push : (y : InPush) (fit : Fit) → fit_of q ≡ fit → after_fit b (head_of q) fit ≡ Place.Push y b → has_loot_at (Place.Push y b) ≡ false → HasQueue (Place.Push y b) q → Steps left spot w s e w' s'
      to_push y fit is place bare queue =
          to fit is (subst (λ z. Reaches here z w (record w { place = z }) s s') (sym place) (record {
            same = refl;
            quiet = λ h. sound.quiet h;
            around = around_own (Place.Push y b) w s s' its q there set sound.seated queue tt sound.batch (sound.batch_place its there) sound.lets_go (sound.phased its there);
            carries = record { runnable = sound.runnable; hand = sound.hand; loot = rw bare sound.loot; genuine = sound.genuine; stolen = sound.stolen; searching = sound.searching; pooled = sound.pooled; serves = sound.serves; calm = sound.calm; left = sound.left; told = sound.told };
          }))

      by_gap : (none : Bool) → is_spent (tail_of q) ≡ false → nat_lt ((tail_of q - q.real) + q.gap) 256 ≡ false → (q.gap == 0) ≡ none → Steps left spot w s e w' s'
      by_gap true unspent full is =
          let gap : q.gap ≡ 0 = same_number q.gap 0 is in
          let most = within its there in
          let over : 256 ≤ (tail_of q - q.real) + q.gap = ltb-false ((tail_of q - q.real) + q.gap) 256 full in
          to_push (InPush.FlowOver (head_of q)) Fit.Overflow (rw (unspent, full, is) refl) refl refl (sound.queue its there, omega (arith, over, most, gap), unspent, gap)
      by_gap false unspent full is = to_append Fit.Claimed (rw (unspent, full, is) refl) refl

      by_room : (fits : Bool) → is_spent (tail_of q) ≡ false → nat_lt ((tail_of q - q.real) + q.gap) 256 ≡ fits → Steps left spot w s e w' s'
      by_room true unspent is =
          let less : (tail_of q - q.real) + q.gap < 256 = ltb-true ((tail_of q - q.real) + q.gap) 256 is in
          let room : 0 < room_of q = rw unspent (omega (arith, less)) in
          to_push (InPush.StoreValue ((tail_of q - q.real) + 1)) (Fit.Room ((tail_of q - q.real) + 1)) (rw (unspent, is) refl) refl refl (sound.queue its there, room)
      by_room false unspent is = by_gap (q.gap == 0) unspent is refl

      by_spent : (spent : Bool) → is_spent (tail_of q) ≡ spent → Steps left spot w s e w' s'
      by_spent true is = to_append Fit.Spent (rw is refl) refl
      by_spent false is = by_room (nat_lt ((tail_of q - q.real) + q.gap) 256) is refl

  -- THE VALUE IS STORED

  pub value_stored : (len : ℕ) → SoundAt (Place.Push (InPush.StoreValue len) b) w s → PushNext left spot b w s → e ≡ Turn
      → w' ≡ record w { place = (if nat_le 2 len && nat_lt 1 s.config.workers then Place.Kick InKick.LoadKickCount (AfterKick.Push b) else after_push_of b w); hand = None }
      → TurnsChair w.index (λ chair. record chair { queue = published chair.queue (option_to_list w.hand) }) s s' → s' ≡ record s { seats = s'.seats } → Steps left spot w s e w' s'
  value_stored len sound following turn goes chair kept =
      let its : Chair = sound.seated.seat in
      let there : slice_get s.seats.items w.index ≡ Some its = sound.seated.there in
      let here : Place = Place.Push (InPush.StoreValue len) b in
      let more : List Runnable = option_to_list w.hand in
      let y : Queue Runnable = published its.queue more in
      let next : Place = if nat_le 2 len && has_others s.config then Place.Kick InKick.LoadKickCount (AfterKick.Push b) else after_push_of b w in
      let v : Worker = record w { place = next; hand = None } in
      let set : s'.seats.items ≡ slice_set s.seats.items w.index (record its { queue = y }) = chair its there in
      let m : Moved (Queue ℕ) = turns next (record (desk_of w) { hand = None }) (queue_seen y) in
      let seen : (p : Plan) (vs : Views) → Suits p vs w s → store_value p.config w.index (own_of w) (common_of left spot p vs s) len b (desk_of w) (queue_of (things_with vs s) w.index) ≡ m = λ p vs suits.
      ap (store_value p.config w.index (own_of w) (common_of left spot p vs s) len b (desk_of w)) (own_queue_seen w.index s its there)
      ∙ ap (λ (x : Place). turns (if nat_le 2 len && has_others p.config then Place.Kick InKick.LoadKickCount (AfterKick.Push b) else x) (record (desk_of w) { hand = None }) (published (queue_seen its.queue) (in_hand (desk_of w).hand))) (push_seen left spot p vs here w s sound suits.config b (following.seen p vs suits))
      ∙ ap (λ c. turns (if nat_le 2 len && has_others c then Place.Kick InKick.LoadKickCount (AfterKick.Push b) else after_push_of b w) (record (desk_of w) { hand = None }) (published (queue_seen its.queue) (in_hand (desk_of w).hand))) (sym suits.config)
      ∙ ap (λ ts. turns next (record (desk_of w) { hand = None }) (published (queue_seen its.queue) ts)) (hand_seen w.hand)
      ∙ ap (turns next (record (desk_of w) { hand = None })) (published_seen its.queue more) in
      let arrives_at : ArrivesAt w s s' =
      λ p armed queue aims batch lets_go phased. around_own p w s s' its y there set (rw armed sound.seated) (queue y (sound.queue its there).0) aims batch (sound.batch_place its there) lets_go (phased its there) in
      let count : (t : ℕ) → runnables_in t (hands_of v) + runnables_in t (y.values ++ y.held) ≡ runnables_in t (hands_of w) + runnables_in t (queued its) =
      λ t. omega (arith, in_both t more w.loot.values, in_both t (its.queue.values ++ more) its.queue.held, in_both t its.queue.values more, in_both t its.queue.values its.queue.held) in
      let older : (r : Runnable) → Contains (y.values ++ y.held) r → Contains (queued its) r ⊎ IsGenuine s.tasks.items r = λ r has.
      elim (Contains-append_cases (its.queue.values ++ more) its.queue.held r has) [
        | inl z ↦ elim (Contains-append_cases its.queue.values more r z) [ inl old ↦ inl (Contains-append_left its.queue.values its.queue.held r old) | inr new ↦ inr (ordinary here w s sound refl r new) ]
        | inr z ↦ inl (Contains-append_right its.queue.values its.queue.held r z)
      ] in
      let carries : CarriesNone w v s = grind arith in
      let is : IsPushFor b here = record { callbacks = refl; closes = refl; closing = refl; spare = refl; bare = refl; held = λ x h. h.0; batch = λ ms h. h } in
      let reaches : Reaches here next w v s s' =
      if_either (λ z. Reaches here z w v s s') (nat_le 2 len && has_others s.config) (Place.Kick InKick.LoadKickCount (AfterKick.Push b)) (after_push_of b w)
      (record {
        same = refl;
        quiet = λ h. sound.quiet h;
        around = around_own (Place.Kick InKick.LoadKickCount (AfterKick.Push b)) w s s' its y there set sound.seated (sound.queue its there).0 tt sound.batch (sound.batch_place its there) sound.lets_go (sound.phased its there);
        carries = carries (Place.Kick InKick.LoadKickCount (AfterKick.Push b)) refl refl refl refl sound.pooled sound.serves sound.left sound.told;
      })
      (push_reaches here w v s s' arrives_at carries b sound following.comes is refl refl refl refl) in
      pushed left spot (InPush.StoreValue len) b w w' s s' e its y v (record { sound = sound; there = there; turn = turn; kept = kept }) (record { same = refl; read = sound.time.read; asleep = sound.time.asleep }) refl set (omega (arith, length-append its.queue.values more)) refl count older reaches goes
      (λ p vs suits. ap (with_queue w.index (things_with vs s)) (seen p vs suits))
    where
      hand_seen : (o : Option Runnable) → in_hand (option_map (λ r. r.task.0) o) ≡ tasks_of (option_to_list o)
      hand_seen None = refl
      hand_seen (Some r) = refl

  -- IT FLOWS OVER

  pub flowed_over : (h : Head) → SoundAt (Place.Push (InPush.FlowOver h) b) w s → HasWhole w s → e ≡ Turn → OfChair w.index s (λ chair. w' ≡ with_overflow (same_head h (head_of chair.queue)) b chair.queue w)
      → TurnsChair w.index (λ chair. record chair { queue = overflowed_if (same_head h (head_of chair.queue)) chair.queue }) s s' → s' ≡ record s { seats = s'.seats } → Steps left spot w s e w' s'
  flowed_over h sound has turn worker chair kept = by (same_head h (head_of its.queue)) refl (worker its there) (chair its there)
    where
      its : Chair
      its = sound.seated.seat

      there : slice_get s.seats.items w.index ≡ Some its
      there = sound.seated.there

      here : Place
      here = Place.Push (InPush.FlowOver h) b

      x : InPush
      x = InPush.FlowOver h

      knows : HasQueue here its.queue
      knows = sound.queue its there

      pushes : Pushes left spot x b w w' s s' e its
      pushes = record { sound = sound; there = there; turn = turn; kept = kept }

      f : Moved (Queue ℕ)
      f = flow_over b h (desk_of w) (queue_of (things_of s) w.index)

      seen : f ≡ flow_over b h (desk_of w) (queue_seen its.queue)
      seen = ap (flow_over b h (desk_of w)) (own_queue_seen w.index s its there)

      by : (is : Bool) → same_head h (head_of its.queue) ≡ is → w' ≡ with_overflow is b its.queue w → s'.seats.items ≡ slice_set s.seats.items w.index (record its { queue = overflowed_if is its.queue }) → Steps left spot w s e w' s'
      by true is goes set =
          let values : List Runnable = its.queue.values in
          let y : Queue Runnable = overflowed its.queue in
          let next : Place = Place.Push InPush.StoreOldest b in
          let v : Worker = record w { place = next; loot = extended w.loot (newest its.queue) } in
          let none : w.loot.values ≡ [] = sound.loot.none refl in
          let taken : v.loot.values ≡ drop 128 values = ap (λ xs. xs ++ drop 128 values) none in
          let count : (t : ℕ) → runnables_in t (hands_of v) + runnables_in t (y.values ++ y.held) ≡ runnables_in t (hands_of w) + runnables_in t (queued its) = λ t.
          let hand = option_to_list w.hand in
          let was = ap (runnables_in t) none in
          let held = ap (runnables_in t) knows.0 in
          omega (arith, in_both t hand v.loot.values, in_both t hand w.loot.values, in_parts t 128 values, in_both t values its.queue.held, ap (runnables_in t) taken, was, held) in
          let older : (r : Runnable) → Contains (y.values ++ y.held) r → Contains (queued its) r ⊎ IsGenuine s.tasks.items r = λ r has_r. inl (Contains-append_left values its.queue.held r (taken_from 128 values r has_r)) in
          let heads : (h.real ≡ its.queue.real) × (h.gap ≡ its.queue.gap) = same_heads h (head_of its.queue) is in
          let full : length values ≡ 256 = omega (arith, knows.1, heads.0) in
          let gap : (0 == 0) ≡ (its.queue.gap == 0) = sym (ap (λ n. n == 0) (sym heads.1 ∙ knows.3)) in
          let exchanged : flow_over b h (desk_of w) (queue_seen its.queue) ≡ turns next (record (desk_of w) { loot = drop 128 (tasks_of values) }) (overflowed (queue_seen its.queue)) = rw is refl in
          let now : f ≡ record { event = Turn; choice = Plain; desk = desk_of v; thing = queue_seen y } =
          seen ∙ exchanged
          ∙ ap (λ xs. turns next (record (desk_of w) { loot = xs }) (overflowed (queue_seen its.queue))) (drop-map (λ (r : Runnable). r.task.0) 128 values)
          ∙ ap (λ xs. turns next (record (desk_of w) { loot = tasks_of xs }) (overflowed (queue_seen its.queue))) (sym taken)
          ∙ ap (turns next (desk_of v)) (overflowed_seen its.queue) in
          let few : length (drop 128 values) ≤ 128 = omega (arith, length-drop 128 values, full) in
          let reaches : Reaches here next w v s s' = record {
            same = refl;
            quiet = λ h. sound.quiet h;
            around = around_own next w s s' its y there set sound.seated refl tt sound.batch (sound.batch_place its there) sound.lets_go (sound.phased its there);
            carries = record {
              runnable = sound.runnable;
              hand = sound.hand;
              loot = record { places = sound.loot.places; few = omega (arith, ap length taken, few); none = λ no. absurd (cc (no)) };
              genuine = sound.genuine;
              stolen = λ r has_r. has.whole.queued_here w.index its r there (Contains-append_left values its.queue.held r (left_from 128 values r (subst (λ xs. Contains xs r) taken has_r)));
              searching = sound.searching;
              pooled = sound.pooled;
              serves = sound.serves;
              calm = sound.calm;
              left = sound.left;
              told = sound.told;
            };
          } in
          pushed left spot x b w w' s s' e its y v pushes (record { same = refl; read = sound.time.read; asleep = sound.time.asleep }) refl set (omega (arith, full)) gap count older reaches goes
          (λ p vs suits. ap (with_queue w.index (things_with vs s)) now)
      by false is goes set =
          let next : Place = Place.Push InPush.LoadPushHead b in
          held_on left spot x b w w' s s' e its next pushes set
          (record {
            same = refl;
            quiet = λ h. sound.quiet h;
            around = around_own next w s s' its its.queue there set sound.seated knows.0 tt sound.batch (sound.batch_place its there) sound.lets_go (sound.phased its there);
            carries = record { runnable = sound.runnable; hand = sound.hand; loot = sound.loot; genuine = sound.genuine; stolen = sound.stolen; searching = sound.searching; pooled = sound.pooled; serves = sound.serves; calm = sound.calm; left = sound.left; told = sound.told };
          })
          goes (λ p vs suits. ap (with_queue w.index (things_with vs s)) (seen ∙ rw is refl))

  -- THE OLDEST HALF IS STORED

  pub oldest_stored : SoundAt (Place.Push InPush.StoreOldest b) w s → Makes (store_oldest b (desk_of w) (queue_of (things_of s) w.index)) e w' → Goes w w'
      → TurnsChair w.index (λ chair. record chair { queue = restored chair.queue }) s s' → s' ≡ record s { seats = s'.seats } → Steps left spot w s e w' s'
  oldest_stored sound makes goes chair kept =
      let its : Chair = sound.seated.seat in
      let there = sound.seated.there in
      let next : Place = Place.Global InGlobal.Append b in
      let v : Worker = record w { place = next } in
      let y : Queue Runnable = restored its.queue in
      let none : its.queue.values ≡ [] = sound.queue its there in
      let set = chair its there in
      let now : store_oldest b (desk_of w) (queue_of (things_of s) w.index) ≡ record { event = Turn; choice = Plain; desk = desk_of v; thing = queue_seen y } = ap (store_oldest b (desk_of w)) (own_queue_seen w.index s its there) in
      let same_values : y.values ++ y.held ≡ queued its = append-nil its.queue.held ∙ ap (λ xs. xs ++ its.queue.held) (sym none) in
      pushed left spot InPush.StoreOldest b w w' s s' e its y v (record { sound = sound; there = there; turn = makes.event; kept = kept }) (record { same = refl; read = sound.time.read; asleep = sound.time.asleep }) refl set (omega (arith, ap length none)) refl
      (λ t. ap (λ xs. runnables_in t (hands_of w) + runnables_in t xs) same_values) (λ r has. inl (subst (λ xs. Contains xs r) same_values has))
      (record {
        same = refl;
        quiet = λ h. sound.quiet h;
        around = around_own next w s s' its y there set sound.seated refl tt sound.batch (sound.batch_place its there) sound.lets_go (sound.phased its there);
        carries = record { runnable = sound.runnable; hand = sound.hand; loot = sound.loot; genuine = sound.genuine; stolen = sound.stolen; searching = sound.searching; pooled = sound.pooled; serves = sound.serves; calm = sound.calm; left = sound.left; told = sound.told };
      })
      (goes ∙ ap (λ d. record w { place = d.place }) (makes.desk ∙ ap (λ z. z.desk) now))
      (λ p vs suits. ap (with_queue w.index (things_with vs s)) now)
