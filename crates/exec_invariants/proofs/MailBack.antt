-- The callbacks: the batch is taken, and items are told that concern nobody else.
use Rattle.exec_invariants.{proofs.{Names.{map, ◌≡◌, ℕ, [], ◌&&◌, ◌+◌, ◌<◌, ◌-◌, Bool, length, drop, nat_lt, arith, true, false, Option, Some, refl, sym, ap, subst, ◌∙◌, if◌then◌else◌, nat_tests, length-drop, deque_capacity, is_untold, Deferred, Said, Event, Turn, Next, common_after, Plain, ring_size, Common, Own as Books, AfterCallbacks, AfterLeave, InCallbacks, Place, ItemLetsGo as LetsGo, item_next, next_callback, Desk, move_at, move_item, next_at, polls_at, serves_at, Reply, Shared, Worker, KeepsRoom, IsTold, Spot, after_callbacks_of, is_anything_told, leave_of, next_callback_of, common_of, desk_of, driver_of, owed_at, own_of, things_with, visible, with_view, not-false, true_false}, PoolKept.gates_same, Aside.{SameProfile, beside_calm, seats_same, spares_turn, told_on}, CallsBack.{Pushed, To, callback_seen, callbacks_seen, none_left, to_after, to_call}, Counting.{SameHands, Stance, counts_same, stance_at, stance_here, whole_counted}, Hearing.unheard, Idled.{Fares, Holds, settled}, Turning.{GoesOn, IsTurn, sound_on, turned, view_found}}, specs.{HoldPlaces.spare_before, Places.{claims_at, drops_at, searches_at, searches_before}, Rooted.IsRooted, Sound.{IsSearching, SoundAt, has_wakes_at}, Names.{HasWidth, tellers}, Works.{Beside, Steps, Suits}}}

-- where the batch leads
abbrev pub from_batch : AfterCallbacks → Worker → Place
from_batch n w = if is_anything_told w then leave_of (AfterLeave.CallBack n) w else after_callbacks_of n w

by_leave : {A : Type 0} (b t : Bool) (l c a : A) → (if b && t then l else if t then c else a) ≡ (if t then (if b then l else c) else a)
by_leave = grind arith

still_searching : (n : AfterCallbacks) (w : Worker) → IsSearching (searches_before n) w.searching → IsSearching (searches_at (after_callbacks_of n w)) w.searching
still_searching = grind arith

-- nobody is served there, and no letters are owed
pub record Rests (m : ℕ) (q : Place) : Type 0 where
  pub unserved : serves_at q ≡ false
  pub owes : owed_at m q ≡ []

rests_from : (m : ℕ) (n : AfterCallbacks) (w : Worker) → Rests m (from_batch n w)
rests_from = grind arith

pub idle_before : (n : AfterCallbacks) (b : Bool) → b ≡ false → IsSearching (searches_before n) b
idle_before = grind arith

-- the machine's next item rests on no place
pub place_unread : (size i : ℕ) (me : Books) (s : Common) (n : AfterCallbacks) (d : Desk) (q : Place) → next_callback size i me s n (record d { place = q }) ≡ next_callback size i me s n d
place_unread = grind arith

own_unread : (n : AfterCallbacks) (w : Worker) (q : Place) → next_callback_of n (record w { place = q }) ≡ next_callback_of n w
own_unread = grind arith

pub positive : (n : ℕ) → 0 < n → nat_lt 0 n ≡ true
positive n h = grind (arith, nat_tests)

-- the worker, with the place where the callbacks lead
pub goes_next : (n : AfterCallbacks) (v w' : Worker) → w' ≡ record v { place = w'.place } → w'.place ≡ next_callback_of n w' → w' ≡ record v { place = next_callback_of n v }
goes_next n v w' same place = same ∙ ap (λ y. record v { place = y }) (place ∙ ap (next_callback_of n) same ∙ own_unread n v w'.place)

pub item_let_go : (me : Books) (d : Desk) → d.wakes ≡ [] → nat_lt 0 d.outputs ≡ true → item_next me d ≡ LetsGo
item_let_go me d none some = rw (none, some) refl

pub rests_next : (m : ℕ) (n : AfterCallbacks) (w : Worker) → Rests m (next_callback_of n w)
rests_next = grind arith

abbrev pub stance : Worker → Stance
stance w = record { searching = w.searching; counted = false; published = false }

module _ {B : Type 0} where
  -- what holds where the callbacks are
  pub pushed_batch : (n : AfterCallbacks) (w : Worker) (s : Shared B) → SoundAt (Place.Callbacks InCallbacks.TakeBatch n) w s → Pushed n w s
  pushed_batch n w s sound = record { told = sound.told; wide = sound.wide; bare = sound.lets_go; batch = sound.batch; held = sound.queue; phased = sound.phased; counted = sound.over.counted }

  fare_to : (n : AfterCallbacks) (q' : Place) (w : Worker) (s : Shared B) → SoundAt (Place.Callbacks InCallbacks.TakeBatch n) w s → To n q' w s → IsSearching (searches_at q') w.searching → Fares (Place.Callbacks InCallbacks.TakeBatch n) q' (stance w) w s
  fare_to = grind arith

  fare_leave : (n : AfterCallbacks) (w : Worker) (s : Shared B) → SoundAt (Place.Callbacks InCallbacks.TakeBatch n) w s → w.searching ≡ true → is_anything_told w ≡ true → Fares (Place.Callbacks InCallbacks.TakeBatch n) (Place.LeaveSearch (AfterLeave.CallBack n)) (stance w) w s
  fare_leave = grind arith

  fares_either : (n : AfterCallbacks) (b : Bool) (x y : Place) (w : Worker) (s : Shared B)
      → (b ≡ true → Fares (Place.Callbacks InCallbacks.TakeBatch n) x (stance w) w s) → (b ≡ false → Fares (Place.Callbacks InCallbacks.TakeBatch n) y (stance w) w s) → Fares (Place.Callbacks InCallbacks.TakeBatch n) (if b then x else y) (stance w) w s
  fares_either n true x y w s h k = h refl
  fares_either n false x y w s h k = k refl

  fare_batch : (n : AfterCallbacks) (w : Worker) (s : Shared B) → SoundAt (Place.Callbacks InCallbacks.TakeBatch n) w s → Fares (Place.Callbacks InCallbacks.TakeBatch n) (from_batch n w) (stance w) w s
  fare_batch n w s sound =
      let it = pushed_batch n w s sound in
      fares_either n (is_anything_told w) (leave_of (AfterLeave.CallBack n) w) (after_callbacks_of n w) w s
      (λ some. fares_either n w.searching (Place.LeaveSearch (AfterLeave.CallBack n)) (Place.Callbacks InCallbacks.CallBack n) w s
      (λ seeks. fare_leave n w s sound seeks some)
      (λ idle. fare_to n (Place.Callbacks InCallbacks.CallBack n) w s sound (to_call n w s it some) idle))
      (λ none. fare_to n (after_callbacks_of n w) w s sound (to_after n w s it (none_left w.home.deferred (not-false (is_untold w.home.deferred) none))) (still_searching n w sound.searching))

  -- one of the items is told, and the worker goes on as from the batch: v says that it told it
  pub next_fares : (n : AfterCallbacks) (v : Worker) (s : Shared B) → SoundAt (Place.Callbacks InCallbacks.TakeBatch n) v s → v.searching ≡ false → Fares (Place.Callbacks InCallbacks.TakeBatch n) (next_callback_of n v) (stance v) v s
  next_fares n v s sound idle =
      let it = pushed_batch n v s sound in
      fares_either n (is_anything_told v) (Place.Callbacks InCallbacks.CallBack n) (after_callbacks_of n v) v s
      (λ some. fare_to n (Place.Callbacks InCallbacks.CallBack n) v s sound (to_call n v s it some) idle)
      (λ none. fare_to n (after_callbacks_of n v) v s sound (to_after n v s it (none_left v.home.deferred (not-false (is_untold v.home.deferred) none))) (still_searching n v sound.searching))

  pub next_sound : (n : AfterCallbacks) (v : Worker) (s : Shared B) → SoundAt (Place.Callbacks InCallbacks.TakeBatch n) v s → v.searching ≡ false → SoundAt (next_callback_of n v) (record v { place = next_callback_of n v }) s
  next_sound n v s sound idle =
      let q : Place = Place.Callbacks InCallbacks.TakeBatch n in
      let q' : Place = next_callback_of n v in
      let w' : Worker = record v { place = q' } in
      let on : GoesOn v w' s.clock = record { same = refl; read = sound.time.read; asleep = sound.time.asleep } in
      let holds : Holds v w' = record { root_ready = refl; hand = refl; loot = refl } in
      sound_on q v w' s s sound on refl (omega arith) (settled q q' (stance v) v w' s s sound refl holds refl sound.calm (next_fares n v s sound idle))

  -- THE FIRST OUTPUT IS LET GO

  pub without_output : (n : AfterCallbacks) (w : Worker) (s : Shared B) (left : Deferred Reply Reply) → SoundAt (Place.Callbacks InCallbacks.CallBack n) w s
      → left ≡ record w.home.deferred { outputs = left.outputs } → deque_capacity left.outputs ≡ deque_capacity w.home.deferred.outputs → KeepsRoom w.home.deferred left
      → SoundAt (Place.Callbacks InCallbacks.TakeBatch n) (record w { place = Place.Callbacks InCallbacks.TakeBatch n; home = record w.home { deferred = record w.home.deferred { outputs = left.outputs } } }) s
  without_output n w s left sound same room keeps =
      let left1 : Deferred Reply Reply = record w.home.deferred { outputs = left.outputs } in
      let live = tellers (driver_of w).requests w.home.timers in
      let told : IsTold w.names.ended.items left1 (live + spare_before (Some n)) = subst (λ d. IsTold w.names.ended.items d (live + spare_before (Some n))) same (keeps w.names.ended.items (live + spare_before (Some n)) sound.told) in
      let wide : HasWidth left1 (live + 64) = record { wakes = sound.wide.wakes; completions = sound.wide.completions; outputs = rw room sound.wide.outputs; resources = sound.wide.resources; results = sound.wide.results } in
      let quiet : has_wakes_at (Place.Callbacks InCallbacks.TakeBatch n) ≡ false → w.home.deferred.notes.wakes.items ≡ [] = λ h. true_false h in
      let r = sound.rooted in
      let rooted : IsRooted w.index w.names (driver_of w) w.home.timers left1 s.requests.items s.sleepers.items =
      record { kept = r.kept; ready = r.ready; replies = r.replies; watches = r.watches; pays = r.pays; sleeper_pays = r.sleeper_pays; results = r.results; completions = r.completions; sent = r.sent; sleeper_sent = r.sleeper_sent } in
      assumption (told, wide, idle_before n w.searching sound.searching, quiet, rooted, sound)

module _ {B L : Type 0} (left : B → L) (spot : L → Option Said → Spot) where
  taken : (n : AfterCallbacks) (w : Worker) (s : Shared B) → SoundAt (Place.Callbacks InCallbacks.TakeBatch n) w s → Steps left spot w s Turn (record w { place = from_batch n w }) s
  taken n w s sound =
      let q : Place = Place.Callbacks InCallbacks.TakeBatch n in
      let q' : Place = from_batch n w in
      let w' : Worker = record w { place = q' } in
      let to = fare_batch n w s sound in
      let on : GoesOn w w' s.clock = record { same = refl; read = sound.time.read; asleep = sound.time.asleep } in
      let holds : Holds w w' = record { root_ready = refl; hand = refl; loot = refl } in
      let rests : Rests w.workers q' = rests_from w.workers n w in
      let is : IsTurn w.workers q q' = record { polls = ap (λ k. k.polls) to.same; free = refl; free_then = ap (λ k. k.next) to.same; unserved = rests.unserved; owes = rests.owes } in
      let same : SameHands w w' =
      assumption (ap (λ k. k.polls) to.same ∙ sym (ap polls_at sound.here), ap (λ k. k.claims) to.same ∙ sym (ap claims_at sound.here), ap (λ k. k.drops) to.same ∙ sym (ap drops_at sound.here), told_on w w' s.clock on) in
      turned left spot q w w' s s Turn sound refl on refl refl (λ vs. refl) is (settled q q' (stance w) w w' s s sound refl holds refl sound.calm to)
      (record {
        spares = λ j other. spares_turn w.index j s s other refl (seats_same w.index s.seats.items s.seats.items refl);
        whole = λ others whole. whole_counted others (stance_at q w) (stance w) w w' s s.idle same (stance_here q w sound.here) (record { searching = refl; counted = to.counts; published = to.published }) (counts_same (stance w) w s (stance_here q w sound.here)) whole;
      })
      (λ p vs suits.
      ap (λ y. record { event = Turn; choice = Plain; desk = record (desk_of w) { place = y }; thing = things_with vs s })
      (ap (λ b. if w.searching && b then Place.LeaveSearch (AfterLeave.CallBack n) else next_callback (ring_size p.config) w.index (own_of w) (common_of left spot p vs s) n (desk_of w)) (callbacks_seen w _ sound.told)
      ∙ ap (λ y. if w.searching && is_anything_told w then Place.LeaveSearch (AfterLeave.CallBack n) else y) (callback_seen left spot p vs q w s sound suits n)
      ∙ by_leave w.searching (is_anything_told w) (Place.LeaveSearch (AfterLeave.CallBack n)) (Place.Callbacks InCallbacks.CallBack n) (after_callbacks_of n w)))

  pub batch_taken : (n : AfterCallbacks) (w w' : Worker) (s : Shared B) (e : Event) → SoundAt (Place.Callbacks InCallbacks.TakeBatch n) w s → e ≡ Turn → w' ≡ record w { place = from_batch n w } → Steps left spot w s e w' s
  batch_taken n w w' s e sound event goes =
      subst (λ y. Steps left spot w s e y s) (sym goes) (subst (λ y. Steps left spot w s y (record w { place = from_batch n w }) s) (sym event) (taken n w s sound))

  -- a step of the callbacks that tells an item, and changes of what the machine sees no more than what is waiting
  output_let_go : (n : AfterCallbacks) (w : Worker) (s : Shared B) (left' : Deferred Reply Reply) → SoundAt (Place.Callbacks InCallbacks.CallBack n) w s
      → left' ≡ record w.home.deferred { outputs = left'.outputs } → deque_capacity left'.outputs ≡ deque_capacity w.home.deferred.outputs → KeepsRoom w.home.deferred left'
      → w.home.deferred.notes.wakes.items ≡ [] → 0 < length w.home.deferred.outputs.items → left'.outputs.items ≡ drop 1 w.home.deferred.outputs.items
      → Steps left spot w s Turn (record w { place = next_callback_of n (record w { place = Place.Callbacks InCallbacks.TakeBatch n; home = record w.home { deferred = record w.home.deferred { outputs = left'.outputs } } }); home = record w.home { deferred = record w.home.deferred { outputs = left'.outputs } } }) s
  output_let_go n w s left' sound same room keeps none some items =
      let q : Place = Place.Callbacks InCallbacks.TakeBatch n in
      let v : Worker = record w { place = q; home = record w.home { deferred = record w.home.deferred { outputs = left'.outputs } } } in
      let q' : Place = next_callback_of n v in
      let w' : Worker = record v { place = q' } in
      let there : SoundAt q v s = without_output n w s left' sound same room keeps in
      let to : Fares q q' (stance v) v s = next_fares n v s there sound.searching in
      let rests : Rests w.workers q' = rests_next w.workers n v in
      let free : next_at q' ≡ Next.Free = ap (λ k. k.next) to.same in
      let fewer : length w.home.deferred.outputs.items - 1 ≡ length left'.outputs.items = sym (ap length items ∙ length-drop 1 w.home.deferred.outputs.items) in
      let u : Worker = record w { place = q' } in
      let alike : SameProfile w u = grind arith in
      let by : Beside w s u s = beside_calm w u s s alike refl (seats_same w.index s.seats.items s.seats.items refl) (gates_same s.seats.items s.seats.items refl) refl refl refl refl in (
        (λ p vs suits.
            let cs = common_of left spot p vs s in
            let d : Desk = desk_of w in
            let d1 : Desk = record d { outputs = d.outputs - 1 } in
            let d2 : Desk = record d { outputs = length left'.outputs.items } in
            let xs = things_with vs s in
            let size = ring_size p.config in
            let suits_v : Suits p vs v s = record { config = suits.config; seen = suits.seen; workers = suits.workers } in
            let again : with_view vs w.index (visible w') ≡ vs = view_found vs w.index (visible w) suits.seen in
            let leads : next_callback size w.index (own_of w) cs n d1 ≡ q' = grind (arith, fewer, place_unread size w.index (own_of w) cs n d2 q, callback_seen left spot p vs q v s there suits_v n) in
            let still : common_after p.config (own_of w) cs w.index Turn Plain ≡ cs = rw sound.here refl in
            let moved : move_at p.config w.index (own_of w) cs d xs (Place.Callbacks InCallbacks.CallBack n) ≡ record { event = Turn; choice = Plain; desk = desk_of w'; thing = xs } =
            ap (move_item p.config w.index (own_of w) cs d xs n) (item_let_go (own_of w) d (ap (map (λ t. t.0)) none) (positive d.outputs some))
            ∙ ap (λ y. record { event = Turn; choice = Plain; desk = record d1 { place = y }; thing = xs }) leads
            ∙ ap (λ k. record { event = Turn; choice = Plain; desk = record d { outputs = k; place = q' }; thing = xs }) fewer in
            record {
              choice = Plain;
              moves =
                  subst (λ y. move_at p.config w.index (own_of w) cs d xs y ≡ record { event = Turn; choice = Plain; desk = desk_of w'; thing = things_with (with_view vs w.index (visible w')) s }) (sym sound.here)
                  (moved ∙ ap (λ z. record { event = Turn; choice = Plain; desk = desk_of w'; thing = things_with z s }) (sym again));
              may = tt;
              own = rw (ap (λ k. k.polls) to.same, free, rests.unserved, rests.owes, sound.here) refl;
              common = ap (λ z. common_of left spot p z s) again ∙ sym still;
            }),
        next_sound n v s there sound.searching,
        unheard refl refl refl,
        record { spares = by.spares; whole = by.whole },
      )

  pub output_gone : (n : AfterCallbacks) (w w' : Worker) (s : Shared B) (e : Event) → SoundAt (Place.Callbacks InCallbacks.CallBack n) w s → e ≡ Turn → w'.place ≡ next_callback_of n w'
      → w' ≡ record w { place = w'.place; home = record w.home { deferred = record w.home.deferred { outputs = w'.home.deferred.outputs } } }
      → w.home.deferred.notes.wakes.items ≡ [] → 0 < length w.home.deferred.outputs.items
      → w'.home.deferred.outputs.items ≡ drop 1 w.home.deferred.outputs.items → KeepsRoom w.home.deferred w'.home.deferred → deque_capacity w'.home.deferred.outputs ≡ deque_capacity w.home.deferred.outputs
      → Steps left spot w s e w' s
  output_gone n w w' s e sound event place same none some items keeps room =
      let v : Worker = record w { place = Place.Callbacks InCallbacks.TakeBatch n; home = record w.home { deferred = record w.home.deferred { outputs = w'.home.deferred.outputs } } } in
      let done : Steps left spot w s Turn (record v { place = next_callback_of n v }) s = output_let_go n w s w'.home.deferred sound (ap (λ x. x.home.deferred) same) room keeps none some items in
      subst (λ y. Steps left spot w s e y s) (sym (goes_next n v w' same place)) (subst (λ y. Steps left spot w s y (record v { place = next_callback_of n v }) s) (sym event) done)
