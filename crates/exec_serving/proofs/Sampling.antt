-- The sample of a service is a step: the clock is read, and the latch is out of the wake word.
use Rattle.std.proofs.{Common.{◌≡◌, ◌≤◌, ◌+◌, ◌*◌, true, false, [], length, map, Option, Some, None, refl, sym, ap, subst, ◌∙◌, arith, slice_get, slice_set}, lemmas.{Bool.false≢true, List.length-set}}
use Rattle.exec_words.specs.declared.word.PureWord.{PureWord}
use Rattle.exec_task.specs.declared.body.Said.{Said}
use Rattle.exec_machine.specs.{declared.event.Event.{Event, TheVariants.Serve}, Choice.Choice.Plain, Progress.Plan}
use Rattle.exec_moves.specs.{declared.place.{InService.InService, Place.Place, Reaping.Reaping, Service.Service}, Move.move_at, Serve.{sample, unlatched}, State.word_of, Thing.set_word}
use Rattle.exec_parts.{specs.{declared.parts.{seat.Seat.Seat as Chair, shared.Shared.Shared, worker.{Moments.Moments, Worker.Worker}}, Phased.{IsPhased, closes_at, stage_of}, Spots.Spot, View.{Views, visible, with_view, driver_of, own_of, desk_of, common_of, things_of, things_with}, Things.{Makes, TurnsWord}}, proofs.Facts.set_there}
use Rattle.exec_invariants.{proofs.{Showing.{map_kept, own_word_seen, seats_kept, word_shows}, Serving.at_large, Aside.{SameProfile, beside_calm, queue_of_chair, queues_set, seats_own}, Hearing.unheard, Orders.unordered, PoolKept.gates_set, Seeing.makes, Turning.view_found}, specs.{Due.IsDue, Flown.HasFlown, Holding.box_of, Places.drops_at, Sound.{AreHome, HasQueue, IsInTime, IsSeated, SoundAt}, Works.{Beside, Suits, Steps, Works}}}

module _ {B L : Type 0} (left : B → L) (spot : L → Option Said → Spot) where
  pub sampled : (v : Service) (w w' : Worker) (s s' : Shared B) (e : Event) → SoundAt (Place.Service InService.Sample v) w s
      → Makes (sample v (desk_of w) (word_of (things_of s) w.index)) e w'
      → w' ≡ record w { place = w'.place; moments = record w.moments { before = w.moments.sampled; sampled = s.clock } }
      → TurnsWord w.index s s' (unlatched (word_of (things_of s) w.index)) → Steps left spot w s e w' s'
  sampled v w w' s s' e sound makes_it same turns =
      let q : Place = Place.Service InService.Sample v in
      let q' : Place = Place.Service (InService.Reap Reaping.First) v in
      let seat = sound.seated.seat in
      let word : PureWord = unlatched (word_of (things_of s) w.index) in
      let now : Chair = record seat { mailbox = record seat.mailbox { waker = word } } in
      let items : s'.seats.items ≡ slice_set s.seats.items w.index now = turns.seats seat sound.seated.there in
      let there : slice_get s'.seats.items w.index ≡ Some now = ap (λ xs. slice_get xs w.index) items ∙ set_there s.seats.items w.index now seat sound.seated.there in
      let m : Moments = record w.moments { before = w.moments.sampled; sampled = s.clock } in
      let w1 : Worker = record w { place = q'; moments = m } in
      let s1 : Shared B = record s { seats = s'.seats } in
      let by_place : w' ≡ w1 = same ∙ ap (λ x. record w { place = x; moments = m }) (ap (λ d. d.place) makes_it.desk) in
      let time : IsInTime m w.slept s.clock = record { begun = omega (arith, sound.time.begun, sound.time.ordered); ordered = sound.time.not_after; not_after = omega arith; read = sound.time.read; asleep = sound.time.asleep; bounded = sound.time.bounded } in
      let seated : IsSeated w.index false s.config.workers s'.seats.items = record {
        many = subst (λ n. s.config.workers ≤ n) (sym (ap length items ∙ length-set s.seats.items w.index now)) sound.seated.many;
        seat = now;
        there = there;
        unarmed = λ h. ap (λ x. x.target) (own_word_seen w.index s seat sound.seated.there) ∙ sound.seated.unarmed refl;
        mail = assumption sound.seated.mail;
        pool = sound.seated.pool;
      } in
      let quiet : true ≡ false → w.home.deferred.notes.wakes.items ≡ [] = λ h. absurd (false≢true (sym h)) in
      let before = sound.due in
      let due : IsDue (Some (InService.Reap Reaping.First)) w.home.closing w.index m s.config w.names (driver_of w) w.home.timers s.requests.items s.sleepers.items =
      record { punctual = before.punctual; told = λ h. before.told refl; wheel = before.wheel; timed = before.timed; asleep = before.asleep; order = unordered (before.told refl) before.order } in
      let flies = sound.flown in
      let flown : HasFlown (Some (InService.Reap Reaping.First)) w.index w.names (driver_of w) s.requests.items =
      record { ending = flies.ending; staging = flies.staging; telling = flies.telling; entries = flies.entries; gated = flies.gated; plain = flies.plain; enrolling = flies.enrolling; polled = flies.polled; owning = flies.owning; landed = flies.landed; uncancelled = flies.uncancelled } in
      let phased : (chair : Chair) → slice_get s'.seats.items w.index ≡ Some chair → IsPhased w.index (closes_at q) None w.home.closing w.root w.names.unreleased (stage_of chair s) s.tasks.items = λ chair found.
      let is : now ≡ chair = cc (there, found) in
      subst (λ c. IsPhased w.index (closes_at q) None w.home.closing w.root w.names.unreleased (stage_of c s) s.tasks.items) is (sound.phased seat sound.seated.there) in
      let queue : (chair : Chair) → slice_get s'.seats.items w.index ≡ Some chair → HasQueue q' chair.queue = λ chair found.
      let is : now ≡ chair = cc (there, found) in
      subst (λ c. HasQueue q' c.queue) is (sound.queue seat sound.seated.there) in
      let homes : AreHome s.config.workers (length s'.seats.items) s.tasks.items = subst (λ n. AreHome s.config.workers n s.tasks.items) (sym (ap length items ∙ length-set s.seats.items w.index now)) sound.homes in
      let place : (c : Chair) → slice_get s'.seats.items w.index ≡ Some c → c.mailbox.inbox.closed ≡ false → 2 * c.made + 1 ≤ w.batch.places = λ chair found.
      let is : now ≡ chair = cc (there, found) in
      subst (λ (y : Chair). y.mailbox.inbox.closed ≡ false → 2 * y.made + 1 ≤ w.batch.places) is (sound.batch_place seat sound.seated.there) in
      let holds : SoundAt q' w1 s1 = assumption (homes, place, time, seated, quiet, due, flown, phased, queue, tt, sound) in
      let profile : SameProfile w w1 = record { hand = refl; loot = refl; polls = rw sound.here refl; claims = rw sound.here refl; searching = refl; counts = rw sound.here refl; index = refl; published = rw sound.here refl; drops = sym (ap drops_at sound.here); told = record { batch = refl; letters = refl; left = refl } } in
      let beside : Beside w s w1 s1 =
      beside_calm w w1 s s1 profile refl (seats_own w.index s.seats.items s'.seats.items seat now items sound.seated.there (omega arith))
      (gates_set w.index s.seats.items s'.seats.items seat now items sound.seated.there (record { left = refl; pool = refl; closed = refl; mail = λ h. assumption h }))
      (ap (λ xs. map queue_of_chair xs) items ∙ queues_set s.seats.items w.index seat now sound.seated.there refl)
      (ap (λ xs. map box_of xs) items ∙ map_kept box_of s.seats.items w.index now seat sound.seated.there refl) refl refl in
      let works : (p : Plan) (vs : Views) → Suits p vs w s → Works left spot p vs w s Serve w1 s1 = λ p vs suits.
      let x = things_with vs s in
      let cs = common_of left spot p vs s in
      let again : with_view vs w.index (visible w1) ≡ vs = view_found vs w.index (visible w) suits.seen in
      let things : things_with vs s1 ≡ set_word w.index x word = word_shows vs w.index s s'.seats.items seat word sound.seated.there items (things_with vs s1) refl in
      record {
        choice = Plain;
        moves =
            subst (λ y. move_at p.config w.index (own_of w) cs (desk_of w) x y ≡ makes Serve (desk_of w1) (things_with (with_view vs w.index (visible w1)) s1)) (sym sound.here)
            (ap (makes Serve (desk_of w1)) (sym things) ∙ ap (λ y. makes Serve (desk_of w1) (things_with y s1)) (sym again));
        may = rw sound.here (at_large q w s sound refl, tt);
        own = rw sound.here refl;
        common = grind (arith, again, items, seats_kept vs.workers s.seats.items w.index seat now sound.seated.there (λ y. refl));
      } in
      let done : Steps left spot w s Serve w1 s1 = (works, holds, unheard refl refl refl, beside) in
      subst (λ x. Steps left spot w s e w' x) (sym turns.kept) (subst (λ x. Steps left spot w s e x s1) (sym by_place) (subst (λ x. Steps left spot w s x w1 s1) (sym makes_it.event) done))
