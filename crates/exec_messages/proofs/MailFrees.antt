-- The callbacks: what a request owned that is over is let go of.
use Rattle.std.{proofs.{Common.{map, ◌≡◌, ℕ, suc, [], ◌∷◌, ◌==◌, ◌+◌, ◌<◌, ◌≤◌, ◌-◌, Bool, length, drop, nat_lt, arith, true, false, not, List, Contains, Option, Some, None, refl, sym, ap, subst, ◌∙◌, slice_get, slice_set, if◌then◌else◌}, lemmas.Bool.{false≢true, eq-eqb}}, specs.VecDeque.deque_capacity}
use Rattle.exec_base.specs.Slab.{Slab}
use Rattle.exec_time.specs.declared.timers.Sleeper.{Sleeper as Sleeping}
use Rattle.exec_waiters.specs.{States.pending_count, declared.deferred.Deferred.Deferred}
use Rattle.exec_driver.specs.Driving.{Driving}
use Rattle.exec_task.specs.declared.body.Said.{Said}
use Rattle.exec_machine.specs.{declared.{event.Event.{Event, TheVariants.Release}, state.Next.Next}, Choice.Choice.Plain, Ranges.ring_size, Same.is_number, Tests.{is_applied, is_resolved}, World.{request_of, Own as Books}}
use Rattle.exec_moves.specs.{declared.{handing.AfterCallbacks.AfterCallbacks, place.{InCallbacks.InCallbacks, Place.Place}}, Callback.{Item.Releases, after_callbacks, has_callbacks, item_next, next_callback}, State.Desk, Move.move_at, Seen.{next_at, polls_at, left_before}}
use Rattle.exec_parts.{specs.{Calls.{releasing, IsTold}, Phased.{IsPhased, stage_of}, Records.number_in, Serving.{changed_at, changed_in}, Spots.Spot, Tests.{after_callbacks_of, is_anything_told, next_callback_of}, View.{common_of, desk_of, driver_of, own_of, things_with, visible, with_view}, declared.parts.{mail.{Reply.Reply, Subject.Subject}, names.Names.Names, record.Record.Record, seat.Seat.Seat as Chair, shared.Shared.Shared, sleeping.SleeperRecord.SleeperRecord, worker.Worker.Worker}}, proofs.Facts.{true_false, not_same}}
use Rattle.exec_invariants.{proofs.{Showing.map_kept, Aside.{SameProfile, profile_same}, CallsBack.{after_seen, callbacks_seen}, Carries.carried_room, Flown.flown_marked, Hearing.unheard, Idled.Fares, Known.known_marked, Lined.{SameAtGate, gates_kept, gates_seen_same, lined_kept, opens_same, passing_same}, MailBack.{Rests, goes_next, idle_before, next_fares, next_sound, rests_next, stance}, Marking.{due_marked, mark_if, mark_kept, marked, named_marked, releases, was_marked}, Phased.phased_count, Recorded.request_seen, Seeing.common_changed, Serving.{SparesRecords, letter_kept, mail_kept, spares_one, spares_service}, Turning.view_found}, specs.{Carried.{HasRoom, IsCarried}, Due.IsDue, Flown.HasFlown, Gates.{AreLinedUp, HaveGates, IsKnown}, HoldPlaces.spare_before, Holding.{Mail, IsAnswerOf, IsHolding, box_of, holder_of, nap_of, thing_of}, Places.{one_if, searches_before}, Rooted.{IsKept, IsReplyFor, IsRooted, Pays, StandsAt, goes_elsewhere, results_of}, Sound.{AreOver, HasLetters, IsMyMail, IsSearching, SoundAt, has_wakes_at}, Names.{HasWidth, IsNamed, tellers}, Whole.{IsWhole, hands_of, with_worker}, Works.{Beside, Steps, Suits}}}
use Rattle.exec_messages.{specs.Rooms.GivesBack, proofs.GivenBack.{room_back, room_then, steps_given}}

-- OF RECORDS, one of which lets go

keep : (P : Record → Type 0) → ((r : Record) → P r → P (releasing r)) → (b : Bool) (r : Record) → P r → P (mark_if releasing b r)
keep P holds true r h = holds r h
keep P holds false r h = h

same_gate : (r : Record) → SameAtGate r (releasing r)
same_gate r = record { at = refl; over = λ h. h; sent = refl; forwarded = λ h. h }

same_record : (x y : Record) → Some x ≡ Some y → x ≡ y
same_record x y h = cc

over_rest : (i n : ℕ) (rest : List ℕ) (unreleased fewer others : ℕ) (rs : List Record) → fewer + 1 ≡ unreleased → AreOver i (n ∷ rest) unreleased others rs → AreOver i rest fewer others (changed_at rs n releasing)
over_rest i n rest unreleased fewer others rs less over =
    record {
      over = λ k m there.
          let old = over.over (suc k) m there in
          let other : n ≡ m → ⊥ = λ same. let never : 0 ≡ suc k = over.once 0 (suc k) m (ap (λ q. Some q) same) there in omega (arith, never) in
          (old.0, marked releasing rs n m old.0 old.1 ∙ ap (λ b. Some (mark_if releasing b old.0)) (not_same n m other), old.2, old.3);
      once = λ k l m here there. let same : suc k ≡ suc l = over.once (suc k) (suc l) m here there in omega (arith, same);
      counted = omega (arith, less, over.counted);
    }

module _ (rs : List Record) (q : ℕ) where
  -- what stands there was there, and is the same but for what it owns
  part : {A : Type 0} (f : Record → A) → ((r : Record) → f (releasing r) ≡ f r) → (k : ℕ) (x : Record) (at : slice_get (changed_at rs q releasing) k ≡ Some x) → f (was_marked releasing rs q k x at).0 ≡ f x
  part = grind arith

  back : (P : Record → Type 0) → ((r : Record) → P r → P (releasing r)) → (k : ℕ) (x : Record) (at : slice_get (changed_at rs q releasing) k ≡ Some x) → P (was_marked releasing rs q k x at).0 → P x
  back = grind arith

  pub rooted_let_go : (i : ℕ) (n n' : Names) (d : Driving Reply Reply) (zs : Slab (Sleeping Reply)) (left left' : Deferred Reply Reply) (ss : List SleeperRecord) → IsRooted i n d zs left rs ss
      → IsRooted i (record n { ended = n'.ended; unreleased = n'.unreleased }) d zs (record left { resources = left'.resources }) (changed_at rs q releasing) ss
  rooted_let_go i n n' d zs left left' ss h =
      record {
        kept = λ id told r at there. back (IsKept told) (λ r h. record { over = h.over; observed = h.observed; unapplied = h.unapplied }) (number_in n.requests.items id) r there (h.kept id told (was_marked releasing rs q (number_in n.requests.items id) r there).0 at (was_marked releasing rs q (number_in n.requests.items id) r there).1);
        ready = λ k r there mine over held unapplied.
            let old = was_marked releasing rs q k r there in
            back (StandsAt k (record n { ended = n'.ended; unreleased = n'.unreleased }) d) (λ r h. record { named = h.named; live = h.live }) k r there
            (let it = h.ready k old.0 old.1 (part (λ y. y.shown.worker) (λ y. refl) k r there ∙ mine) (part (λ y. is_resolved y.shown.phase) (λ y. refl) k r there ∙ over) (part (λ y. y.shown.observed) (λ y. refl) k r there ∙ held) (part (λ y. is_applied y.shown.forwarding) (λ y. refl) k r there ∙ unapplied) in
            record { named = it.named; live = it.live });
        replies = λ id it reply r live is there.
            let k = number_in n.requests.items id in
            back (IsReplyFor k reply) (λ r h. record { of = h.of; task = h.task }) k r there (h.replies id it reply (was_marked releasing rs q k r there).0 live is (was_marked releasing rs q k r there).1);
        watches = h.watches;
        pays = λ k r there mine.
            let old = was_marked releasing rs q k r there in
            back Pays (λ r h. record { unpaid = h.unpaid; once = h.once }) k r there (h.pays k old.0 old.1 (part (λ y. y.shown.worker) (λ y. refl) k r there ∙ mine));
        sleeper_pays = h.sleeper_pays;
        results = λ a has.
            let x = h.results a has in
            record {
              k = x.k;
              r = mark_if releasing (q == x.k) x.r;
              there = marked releasing rs q x.k x.r x.there;
              worker = mark_kept _ (λ y. y.shown.worker) releasing (λ y. refl) (q == x.k) x.r ∙ x.worker;
              reply = keep (IsReplyFor x.k a.sender) (λ r h. record { of = h.of; task = h.task }) (q == x.k) x.r x.reply;
              answer = keep (λ y. IsAnswerOf a.result (thing_of y)) (λ r h. h) (q == x.k) x.r x.answer;
              paid = keep (λ y. y.shown.wakes_paid ≤ 1) (λ r h. h) (q == x.k) x.r x.paid;
            };
        completions = h.completions;
        sent = λ k r there mine.
            let old = was_marked releasing rs q k r there in
            back (λ y. results_of k left + one_if y.sent ≡ one_if (goes_elsewhere y)) (λ r h. h) k r there (h.sent k old.0 old.1 (part (λ y. y.shown.worker) (λ y. refl) k r there ∙ mine));
        sleeper_sent = h.sleeper_sent;
      }

-- what its things are to their tasks stays
things_still : (rs : List Record) (n : ℕ) (r : Record) → slice_get rs n ≡ Some r → map thing_of (changed_at rs n releasing) ≡ map thing_of rs
things_still rs n r there = ap (λ o. map thing_of (changed_in rs n releasing o)) there ∙ map_kept thing_of rs n (releasing r) r there refl

-- where the callbacks lead rests on nothing that is told
after_as : (c : AfterCallbacks) (w : Worker) (q : Place) (names : Names) (left : Deferred Reply Reply) → after_callbacks_of c (record w { place = q; names = names; home = record w.home { deferred = left } }) ≡ after_callbacks_of c w
after_as = grind arith

module _ {B : Type 0} where
  -- What the request of this number owned, which ended first, is let go.
  pub record HasReleased (n : ℕ) (w w' : Worker) (s s' : Shared B) : Type 0 where
    pub rest : List ℕ
    pub first : w.names.ended.items ≡ n ∷ rest
    pub ended : w'.names.ended.items ≡ rest
    pub capacity : deque_capacity w'.names.ended ≡ deque_capacity w.names.ended
    pub unreleased : w'.names.unreleased + 1 ≡ w.names.unreleased
    pub wide : deque_capacity w'.home.deferred.resources ≡ deque_capacity w.home.deferred.resources
    pub told : (live : ℕ) → IsTold w.names.ended.items w.home.deferred live → IsTold w'.names.ended.items w'.home.deferred live
    pub worker : w' ≡ record w { place = w'.place; names = record w.names { ended = w'.names.ended; unreleased = w'.names.unreleased }; home = record w.home { deferred = record w.home.deferred { resources = w'.home.deferred.resources } } }
    pub requests : s'.requests.items ≡ changed_at s.requests.items n releasing
    pub kept : s' ≡ record s { requests = s'.requests; store = s'.store }
    pub back : (r : Record) → slice_get s.requests.items n ≡ Some r → GivesBack r.shown.operation s.store s'.store

  pub spares_release : (c : AfterCallbacks) (n : ℕ) (w w' : Worker) (s s' : Shared B) → SoundAt (Place.Callbacks InCallbacks.CallBack c) w s → HasReleased n w w' s s' → SparesRecords w.index s (record s { requests = s'.requests })
  spares_release c n w w' s s' sound it =
      let found = sound.over.over 0 n (rw it.first refl) in
      spares_one w.index s (record s { requests = s'.requests }) n found.0 releasing (opens_same s.opens s.opens s.requests.items sound.gates refl) (same_gate found.0) it.requests refl found.1 found.2 (λ y. refl)

  -- the worker is as where the batch is taken
  pub with_released : (c : AfterCallbacks) (n : ℕ) (w w' : Worker) (s s' : Shared B) → SoundAt (Place.Callbacks InCallbacks.CallBack c) w s → HasReleased n w w' s s'
      → SoundAt (Place.Callbacks InCallbacks.TakeBatch c)
      (record w { place = Place.Callbacks InCallbacks.TakeBatch c; names = record w.names { ended = w'.names.ended; unreleased = w'.names.unreleased }; home = record w.home { deferred = record w.home.deferred { resources = w'.home.deferred.resources } } })
      (record s { requests = s'.requests })
  with_released c n w w' s s' sound it =
      let s1 : Shared B = record s { requests = s'.requests } in
      let rs = s.requests.items in
      let rs' = s'.requests.items in
      let ss = s.sleepers.items in
      let d = driver_of w in
      let zs = w.home.timers in
      let names : Names = record w.names { ended = w'.names.ended; unreleased = w'.names.unreleased } in
      let left1 : Deferred Reply Reply = record w.home.deferred { resources = w'.home.deferred.resources } in
      let live = tellers d.requests zs in
      let found = sound.over.over 0 n (rw it.first refl) in
      let spares = spares_release c n w w' s s' sound it in
      let told : IsTold w'.names.ended.items left1 (live + spare_before (Some c)) = subst (λ x. IsTold w'.names.ended.items x (live + spare_before (Some c))) (ap (λ v. v.home.deferred) it.worker) (it.told (live + spare_before (Some c)) sound.told) in
      let wide : HasWidth left1 (live + 64) = record { wakes = sound.wide.wakes; completions = sound.wide.completions; outputs = sound.wide.outputs; resources = rw it.wide sound.wide.resources; results = sound.wide.results } in
      let searching : IsSearching (searches_before c) w.searching = idle_before c w.searching sound.searching in
      let quiet : has_wakes_at (Place.Callbacks InCallbacks.TakeBatch c) ≡ false → w.home.deferred.notes.wakes.items ≡ [] = λ h. true_false h in
      let rooted : IsRooted w.index names d zs left1 rs' ss = subst (λ xs. IsRooted w.index names d zs left1 xs ss) (sym it.requests) (rooted_let_go rs n w.index w.names w'.names d zs w.home.deferred w'.home.deferred ss sound.rooted) in
      let gates : AreLinedUp s.opens rs' = lined_kept rs rs' spares.lines s.opens sound.gates in
      let known : IsKnown w.index w.names.requests.items d.requests s.opens rs' = subst (λ xs. IsKnown w.index w.names.requests.items d.requests s.opens xs) (sym it.requests)
      (known_marked w.index w.names.requests.items d.requests s.opens s.opens rs n releasing (λ y. record { id = refl; worker = refl; kind = refl; target = refl; unrefused = λ h. h }) (λ file h. h) sound.known) in
      let was : IsNamed w.index names d zs rs ss = record { requests = sound.named.requests; timers = sound.named.timers; alike = sound.named.alike; over = sound.named.over; submitted = sound.named.submitted; slots = sound.named.slots; beds = sound.named.beds } in
      let named : IsNamed w.index names d zs rs' ss = subst (λ xs. IsNamed w.index names d zs xs ss) (sym it.requests) (named_marked releasing rs n releases w.index names d zs ss was) in
      let mine : (m : Mail) → Contains w.batch.values m → IsMyMail s.config.workers w.index m rs' ss = λ m has. mail_kept s.config.workers w.index m s s1 spares (sound.mine m has) in
      let l = sound.letters in
      let letters : HasLetters false false w.index s.config.workers w.letters rs' ss = record {
        some = l.some;
        none = l.none;
        requests = λ h has. letter_kept s.config.workers w.index (Subject.Request h.number) h.worker s s1 spares (l.requests h has);
        timer = λ h has. letter_kept s.config.workers w.index (Subject.Timer h.number) h.worker s s1 spares (l.timer h has);
      } in
      let due : IsDue None w.home.closing w.index w.moments s.config names d zs rs' ss = subst (λ xs. IsDue None w.home.closing w.index w.moments s.config names d zs xs ss) (sym it.requests) (due_marked releasing rs n releases None w.index w.moments s.config w.names w'.names d zs ss sound.due) in
      let over : AreOver w.index w'.names.ended.items w'.names.unreleased (pending_count d.requests) rs' =
      subst (λ xs. AreOver w.index w'.names.ended.items w'.names.unreleased (pending_count d.requests) xs) (sym it.requests)
      (subst (λ ks. AreOver w.index ks w'.names.unreleased (pending_count d.requests) (changed_at rs n releasing)) (sym it.ended)
      (over_rest w.index n it.rest w.names.unreleased w'.names.unreleased (pending_count d.requests) rs it.unreleased
      (subst (λ ks. AreOver w.index ks w.names.unreleased (pending_count d.requests) rs) it.first sound.over)))
      in
      let flown : HasFlown None w.index names d rs' = subst (λ xs. HasFlown None w.index names d xs) (sym it.requests)
      (flown_marked releasing releases None w.index w.names names d rs n sound.flown refl refl refl (omega (arith, it.unreleased)) it.capacity (λ r there h. absurd (false≢true (sym h ∙ ap (λ y. is_resolved y.shown.phase) (same_record r found.0 (sym there ∙ found.1)) ∙ found.3.0)))) in
      let carried : IsCarried w.names.requests.items d.requests d.ring rs' s.store = subst (λ xs. IsCarried w.names.requests.items d.requests d.ring xs s.store) (sym it.requests)
      (carried_room w.names.requests.items d.requests d.ring rs s.store sound.carried n releasing s.store (λ r there. refl) (λ r there. refl) (room_then rs n found.0 s.store found.1 found.3.0 sound.carried.room) (λ file offset m has. has)) in
      let phased : (chair : Chair) → slice_get s.seats.items w.index ≡ Some chair → IsPhased w.index (left_before c) None w.home.closing w.root w'.names.unreleased (stage_of chair s) s.tasks.items = λ chair there. phased_count w.index (left_before c) w.home.closing w.root w.names.unreleased w'.names.unreleased (stage_of chair s) s.tasks.items (sound.phased chair there) in
      grind arith

  pub beside_release : (c : AfterCallbacks) (n : ℕ) (w w' u : Worker) (s s' : Shared B) → SoundAt (Place.Callbacks InCallbacks.CallBack c) w s → HasReleased n w w' s s' → SameProfile w u
      → HasRoom s'.requests.items s.store → Beside w s u (record s { requests = s'.requests })
  beside_release c n w w' u s s' sound it alike room =
      let s1 : Shared B = record s { requests = s'.requests } in
      let spares = spares_release c n w w' s s' sound it in
      let found = sound.over.over 0 n (rw it.first refl) in
      record {
        spares = λ j other. spares_service w.index j s s1 other refl spares room;
        whole = λ others whole.
            let before : IsWhole (with_worker others u) s = rw (profile_same others w u alike) whole in
            let x = with_worker others u in
            let gates : HaveGates x.drops_by s.opens s'.requests.items = gates_kept s.requests.items s'.requests.items spares.lines x.drops_by s.opens before.gates in
            let holding : IsHolding (hands_of x) s.config.workers (map holder_of s.tasks.items) (map thing_of s'.requests.items) (map nap_of s.sleepers.items) (map box_of s.seats.items) =
            subst (λ ts. IsHolding (hands_of x) s.config.workers (map holder_of s.tasks.items) ts (map nap_of s.sleepers.items) (map box_of s.seats.items)) (sym (ap (map thing_of) it.requests ∙ things_still s.requests.items n found.0 found.1)) before.holding
            in
            assumption (gates, holding, before);
      }

pub first_of : (xs : List ℕ) → 0 < length xs → (n : ℕ) × (slice_get xs 0 ≡ Some n) × (xs ≡ n ∷ drop 1 xs)
first_of [] some = absurd (omega (arith, some))
first_of (n ∷ xs) some = (n, refl, refl)

item_released : (me : Books) (d : Desk) (n : ℕ) (rest : List ℕ) → d.wakes ≡ [] → nat_lt 0 d.outputs ≡ false → me.ended ≡ n ∷ rest → item_next me d ≡ Releases n
item_released me d n rest none empty first = rw (none, empty, first) refl

module _ {B L : Type 0} (left : B → L) (spot : L → Option Said → Spot) where
  pub released_as : (c : AfterCallbacks) (n : ℕ) (w w' : Worker) (s s' : Shared B) (e : Event) → SoundAt (Place.Callbacks InCallbacks.CallBack c) w s → e ≡ Release n → w'.place ≡ next_callback_of c w'
      → w.home.deferred.notes.wakes.items ≡ [] → length w.home.deferred.outputs.items ≡ 0 → HasReleased n w w' s s' → Steps left spot w s e w' s'
  released_as c n w w' s s' e sound event place none empty it =
      let before : Place = Place.Callbacks InCallbacks.CallBack c in
      let q : Place = Place.Callbacks InCallbacks.TakeBatch c in
      let v : Worker = record w { place = q; names = record w.names { ended = w'.names.ended; unreleased = w'.names.unreleased }; home = record w.home { deferred = record w.home.deferred { resources = w'.home.deferred.resources } } } in
      let q' : Place = next_callback_of c v in
      let w1 : Worker = record v { place = q' } in
      let s1 : Shared B = record s { requests = s'.requests } in
      let there : SoundAt q v s1 = with_released c n w w' s s' sound it in
      let to : Fares q q' (stance v) v s1 = next_fares c v s1 there sound.searching in
      let rests : Rests w.workers q' = rests_next w.workers c v in
      let polls : polls_at q' ≡ None = ap (λ k. k.polls) to.same in
      let free : next_at q' ≡ Next.Free = ap (λ k. k.next) to.same in
      let found = sound.over.over 0 n (rw it.first refl) in
      let spares = spares_release c n w w' s s' sound it in
      let fewer : w.names.unreleased - 1 ≡ w'.names.unreleased = omega (arith, it.unreleased) in
      let u : Worker = record w { place = q' } in
      let alike : SameProfile w u = grind arith in
      let by : Beside w s u s1 = beside_release c n w w' u s s' sound it alike there.carried.room in
      let done : Steps left spot w s (Release n) w1 s1 = (
        (λ p vs suits.
            let cs = common_of left spot p vs s in
            let d : Desk = desk_of w in
            let me : Books = record (own_of w) { ended = drop 1 w.names.ended.items } in
            let size = ring_size p.config in
            let suits_v : Suits p vs v s1 = record { config = suits.config; seen = suits.seen; workers = suits.workers } in
            let again : with_view vs w.index (visible w1) ≡ vs = view_found vs w.index (visible w) suits.seen in
            let xs = things_with vs s in
            let things : things_with vs s1 ≡ xs = grind (arith, gates_seen_same, passing_same)
            in
            let request : request_of cs n ≡ found.0.shown = request_seen s.requests.items n found.0 found.1 in
            let ended : drop 1 w.names.ended.items ≡ w'.names.ended.items = ap (drop 1) it.first ∙ sym it.ended in
            let all : common_of left spot p vs s1 ≡ record cs { requests = slice_set (map (λ x. x.shown) s.requests.items) n (releasing found.0).shown } =
            common_changed left spot p vs s s1 n found.0 releasing refl it.requests found.1 refl
            in
            let told : has_callbacks me d ≡ is_anything_told v = ap (λ es. has_callbacks (record (own_of w) { ended = es }) d) ended ∙ callbacks_seen v _ there.told in
            let after : after_callbacks size w.index cs c d ≡ after_callbacks_of c v = after_seen left spot p vs before w s sound suits c ∙ sym (after_as c w q v.names v.home.deferred) in
            let leads : next_callback size w.index me cs c d ≡ q' =
            ap (λ b. if b then before else after_callbacks size w.index cs c d) told ∙ ap (λ y. if is_anything_told v then before else y) after
            in
            let moved : move_at p.config w.index (own_of w) cs d xs before ≡ record { event = Release n; choice = Plain; desk = desk_of w1; thing = xs } = grind (arith, leads, item_released)
            in
            record {
              choice = Plain;
              moves =
                  subst (λ y. move_at p.config w.index (own_of w) cs d xs y ≡ record { event = Release n; choice = Plain; desk = desk_of w1; thing = things_with (with_view vs w.index (visible w1)) s1 }) (sym sound.here)
                  (moved ∙ ap (λ z. record { event = Release n; choice = Plain; desk = desk_of w1; thing = z }) (sym things)
                  ∙ ap (λ z. record { event = Release n; choice = Plain; desk = desk_of w1; thing = things_with z s1 }) (sym again));
              may = (rw (sound.here, sound.letters.none refl) refl, (ap (λ ks. is_number n (slice_get ks 0)) it.first ∙ eq-eqb n n refl, (ap (λ y. y.worker == w.index) request ∙ ap (λ k. k == w.index) found.2 ∙ eq-eqb w.index w.index refl, (ap (λ y. is_resolved y.phase) request ∙ found.3.0, (ap (λ y. not y.released) request ∙ ap not found.3.1, tt)))));
              own = rw (polls, free, rests.unserved, rests.owes, sound.here, ended, fewer) refl;
              common = ap (λ z. common_of left spot p z s1) again ∙ all ∙ ap (λ y. record cs { requests = slice_set (map (λ x. x.shown) s.requests.items) n (record y { released = true }) }) (sym request);
            }),
        next_sound c v s1 there sound.searching,
        unheard refl refl refl,
        record { spares = by.spares; whole = by.whole },
      ) in
      let s2 : Shared B = record s1 { store = s'.store } in
      let back = it.back found.0 found.1 in
      let room : HasRoom s'.requests.items s'.store = subst (λ xs. HasRoom xs s'.store) (sym it.requests) (room_back s.requests.items n found.0 s.store found.1 found.3.0 sound.carried.room s'.store found.3.1 back) in
      let given : Steps left spot w s (Release n) w1 s2 = steps_given left spot w w1 s s1 (Release n) s'.store room back.files done in
      subst (λ y. Steps left spot w s e w' y) (sym it.kept) (subst (λ y. Steps left spot w s e y s2) (sym (goes_next c v w' it.worker place)) (subst (λ y. Steps left spot w s y w1 s2) (sym event) given))
