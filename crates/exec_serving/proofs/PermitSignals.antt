-- Steps of a service that tell the next holder of a permit: the latch goes into its worker's wake word, whose wait is ended.
use Rattle.std.proofs.{Common.{◌≡◌, ℕ, ◌*◌, ◌+◌, ◌<◌, ◌≤◌, inl, Bool, true, false, List, [], length, map, Option, Some, None, refl, sym, ap, subst, ◌∙◌, arith, slice_get, slice_set, get_or, if◌then◌else◌}, lemmas.{Bool.false≢true, List.length-set, Option.{get_or_from_slice_get, slice_get-get_or}}}
use Rattle.exec_words.specs.{Word.asks_signal, declared.word.PureWord.PureWord}
use Rattle.exec_task.specs.declared.body.Said.{Said}
use Rattle.exec_machine.specs.{declared.{event.Event.{Event, TheVariants.{Serve, Rouse}}, state.Rest.Rest}, Choice.Choice.Plain, Progress.Plan, Tests.{is_at_large, is_awake}, World.{no_seat, seat_of}}
use Rattle.exec_moves.specs.{declared.place.{AfterPermit.AfterPermit, InService.InService, Place.Place, Service.Service}, Claim.{is_ring, latched}, Move.move_at, Seen.serves_in, Serve.{after_latch, after_permit, rousing_in_service, signal}, State.word_of, Thing.set_word}
use Rattle.exec_parts.specs.{declared.parts.{seat.Seat.Seat as Chair, shared.Shared.Shared, worker.{Moments.Moments, Worker.Worker}}, Phased.{IsPhased, TurnsChair, closes_at, closing_in, stage_of}, Pooled.{OfChair, chair_latched, chair_raised}, Spots.Spot, View.{Views, Visible, common_of, desk_of, driver_of, own_of, seat_seen, seats_seen, things_of, things_with, visible, with_view}, Things.{Goes, Makes, TurnsWord}}
use Rattle.exec_invariants.{proofs.{Showing.{map_kept, own_word_seen, seats_kept, word_shows}, Aside.{beside_calm, queue_of_chair, queues_set, seats_other}, Hearing.unheard, PoolKept.{gate_spared, gates_set}, Seats.{chair_set, seat_there as seen_there}, Rousing.{Keeps, seat_was, seated_now, stage_was, wake_shows}, Shown.makes, Thieves.seat_there, Turning.{Arrives, Shares, sound_on, view_found}}, specs.{Due.{IsWheelAt, may_be_due, wheel_moment}, Holding.box_of, Places.passes_at, Sound.{Aims, HasQueue, SoundAt, served_in}, Spares.SparesChair, Works.{Beside, Steps, Suits, Works}}}

-- FROM one step of a service to another

pub record Leads (x y : InService) (v : Service) : Type 0 where
  pub from : serves_in x ≡ true
  pub to : serves_in y ≡ true
  pub moment : (m : Moments) → wheel_moment (served_in (Place.Service y v)) m ≡ wheel_moment (served_in (Place.Service x v)) m
  pub passes : passes_at (Place.Service y v) ≡ passes_at (Place.Service x v)

module _ {B L : Type 0} (left : B → L) (spot : L → Option Said → Spot) (x y : InService) (v : Service) (u : Worker) (s s' : Shared B) (sound : SoundAt (Place.Service x v) (record u { place = Place.Service x v }) s) (leads : Leads x y v) (none : (driver_of u).lists.due ≡ [])
    (k : ℕ) (its its' : Chair) (keeps : Keeps its its') (boxed : box_of its' ≡ box_of its) (spares : SparesChair its its') (kept : s' ≡ record s { seats = s'.seats }) (there : slice_get s.seats.items k ≡ Some its) (set : s'.seats.items ≡ slice_set s.seats.items k its')
    (aims : Aims (Place.Service y v) s.config u.index s'.seats.items) where
  abbrev before : Worker
  before = record u { place = Place.Service x v }

  abbrev after : Worker
  after = record u { place = Place.Service y v }

  shares : Shares s s'
  shares = subst (λ (z : Shared B). z ≡ record s { seats = z.seats; idle = z.idle; global = z.global }) (sym kept) refl

  as_many : length s'.seats.items ≡ length s.seats.items
  as_many = ap length set ∙ length-set s.seats.items k its'

  was : (chair : Chair) → slice_get s'.seats.items u.index ≡ Some chair → (old : Chair) × (slice_get s.seats.items u.index ≡ Some old) × Keeps old chair
  was chair at_own = seat_was k its its' keeps s s' there set u.index chair at_own

  arrives : Arrives (Place.Service y v) before after s s'
  arrives =
      let next : Place = Place.Service y v in
      let seated = seated_now k its its' keeps s s' there set u.index false s.config.workers sound.seated in
      let queue : (chair : Chair) → slice_get s'.seats.items u.index ≡ Some chair → HasQueue next chair.queue = λ chair at_own. let old = was chair at_own in subst (HasQueue next) (sym old.2.queue) (sound.queue old.0 old.1) in
      let batch_place : (chair : Chair) → slice_get s'.seats.items u.index ≡ Some chair → chair.mailbox.inbox.closed ≡ false → 2 * chair.made + 1 ≤ u.batch.places = λ chair at_own opened.
      let old = was chair at_own in omega (arith, sound.batch_place old.0 old.1 (rw (← old.2.inbox) opened), old.2.made) in
      let told : may_be_due (served_in next) ≡ false → (driver_of u).lists.due ≡ [] = λ h. none in
      let wheel = subst (λ m. IsWheelAt s.config u.moments.start m (driver_of u).wheel) (sym (leads.moment u.moments)) sound.due.wheel in
      let phased : (chair : Chair) → slice_get s'.seats.items u.index ≡ Some chair → IsPhased u.index (closes_at next) (closing_in next) u.home.closing u.root u.names.unreleased (stage_of chair s) s.tasks.items = λ chair at_own.
      let old = stage_was k its its' keeps s s' there set u.index chair at_own in subst (λ stage. IsPhased u.index (closes_at next) (closing_in next) u.home.closing u.root u.names.unreleased stage s.tasks.items) old.2 (sound.phased old.0 old.1) in
      assumption (seated, queue, aims, batch_place, told, wheel, phased, sound)

  goes_sound : SoundAt (Place.Service y v) after s'
  goes_sound = sound_on (Place.Service x v) before after s s' sound (record { same = refl; read = sound.time.read; asleep = sound.time.asleep }) shares (omega (arith, as_many)) arrives

  goes_beside : Beside before s after s'
  goes_beside =
      beside_calm before after s s'
      (record { hand = refl; loot = refl; polls = refl; claims = refl; searching = refl; counts = refl; index = refl; published = refl; drops = ap (λ p. record { clears = None; removes = None; passes = p; joins = None }) leads.passes; told = record { batch = refl; letters = refl; left = refl } })
      shares (seats_other u.index k s.seats.items s'.seats.items its its' set there (rw keeps.queue (omega arith)) spares) (gates_set k s.seats.items s'.seats.items its its' set there (gate_spared its its' spares)) (ap (map queue_of_chair) set ∙ queues_set s.seats.items k its its' there keeps.queue)
      (ap (map box_of) set ∙ map_kept box_of s.seats.items k its' its there boxed) (ap (λ (z : Shared B). z.idle) kept) (ap (λ (z : Shared B). z.global) kept)

  large : is_at_large (own_of before) ≡ true
  large = rw (sound.letters.none refl) refl

  own_serves : own_of after ≡ record (own_of before) { serving = true }
  own_serves = ap (λ b. record (own_of before) { serving = b }) leads.to

  -- nothing of the seat is to be seen by the machine
  pub seat_served : ((z : Visible) → seat_seen z its' ≡ seat_seen z its)
      → ((p : Plan) (vs : Views) → Suits p vs before s → move_at p.config u.index (own_of before) (common_of left spot p vs s) (desk_of before) (things_with vs s) (Place.Service x v) ≡ makes Serve (desk_of after) (things_with vs s'))
      → Steps left spot before s Serve after s'
  seat_served shows moves = (works, goes_sound, unheard refl (ap (λ (z : Shared B). z.config) kept) (ap (λ (z : Shared B). z.tasks.items) kept), goes_beside)
    where
      works : (p : Plan) (vs : Views) → Suits p vs before s → Works left spot p vs before s Serve after s'
      works p vs suits =
          let cs = common_of left spot p vs s in
          let again : with_view vs u.index (visible after) ≡ vs = view_found vs u.index (visible before) suits.seen in
          let common = ap (λ z. common_of left spot p z s') again ∙ ap (common_of left spot p vs) kept ∙ ap (λ seats. record cs { seats = seats }) (ap (seats_seen vs.workers) set ∙ seats_kept vs.workers s.seats.items k its its' there shows) in
          let own = own_serves ∙ sym (ap (λ b. record (if b then own_of before else (record (own_of before) { sampled = s.clock; sampled_before = u.moments.sampled })) { serving = true }) leads.from) in
          search (moves p vs suits ∙ ap (λ z. makes Serve (desk_of after) (things_with z s')) (sym again), large, own, common)

  -- or that its worker was roused
  pub seat_roused : is_awake its.rest ≡ false → ((z : Visible) → seat_seen z its' ≡ record (seat_seen z its) { rest = Rest.Awake }) → k < length s.seats.items
      → ((p : Plan) (vs : Views) → Suits p vs before s → move_at p.config u.index (own_of before) (common_of left spot p vs s) (desk_of before) (things_with vs s) (Place.Service x v) ≡ makes (rousing_in_service (common_of left spot p vs s) k) (desk_of after) (things_with vs s'))
      → Steps left spot before s (Rouse k) after s'
  seat_roused asleep shows few moves = (works, goes_sound, unheard refl (ap (λ (z : Shared B). z.config) kept) (ap (λ (z : Shared B). z.tasks.items) kept), goes_beside)
    where
      works : (p : Plan) (vs : Views) → Suits p vs before s → Works left spot p vs before s (Rouse k) after s'
      works p vs suits =
          let cs = common_of left spot p vs s in
          let z : Visible = get_or vs.workers k (visible before) in
          let seen : slice_get vs.workers k ≡ Some z = slice_get-get_or vs.workers k (visible before) (omega (arith, few, suits.workers, sound.seated.many)) in
          let seat : seat_of cs k ≡ seat_seen z its = get_or_from_slice_get (seats_seen vs.workers s.seats.items) k (seat_seen z its) no_seat (seen_there vs.workers s.seats.items k z its seen there) in
          let again : with_view vs u.index (visible after) ≡ vs = view_found vs u.index (visible before) suits.seen in
          let rest : is_awake (seat_of cs k).rest ≡ false = ap (λ c. is_awake c.rest) seat ∙ asleep in
          let rouses : rousing_in_service cs k ≡ Rouse k = ap (λ b. if b then Serve else Rouse k) rest in
          record {
            choice = Plain;
            moves = moves p vs suits ∙ ap (λ e. makes e (desk_of after) (things_with vs s')) rouses ∙ ap (λ y. makes (Rouse k) (desk_of after) (things_with y s')) (sym again);
            may = rw rest (refl, (refl, tt));
            own = own_serves ∙ sym (ap (λ b. record (own_of before) { serving = b }) leads.from);
            common = grind (arith, again, kept, set, chair_set vs.workers s.seats.items k z its' seen, shows z, seat);
          }

-- WHERE A PERMIT LEADS BACK TO

pub serves_back : (b : AfterPermit) → serves_in (after_permit b) ≡ true
serves_back = grind arith

pub moment_of_back : (b : AfterPermit) (v : Service) (m : Moments) → wheel_moment (served_in (Place.Service (after_permit b) v)) m ≡ wheel_moment (Some (InService.Signal 0 b)) m
moment_of_back = grind arith

pub passes_none : (b : AfterPermit) (v : Service) → passes_at (Place.Service (after_permit b) v) ≡ None
passes_none = grind arith

pub aims_back : (b : AfterPermit) (v : Service) {B : Type 0} (s : Shared B) (i : ℕ) (seats : List Chair) → Aims (Place.Service (after_permit b) v) s.config i seats
aims_back = grind arith

awake : (rest : Rest) → is_awake rest ≡ true → rest ≡ Rest.Awake
awake Rest.Awake h = refl
awake _ h = absurd (false≢true h)

-- THE LATCH

module _ {B L : Type 0} (left : B → L) (spot : L → Option Said → Spot) where
  pub holder_latched : (j : ℕ) (b : AfterPermit) (v : Service) (w w' : Worker) (s s' : Shared B) (e : Event) → SoundAt (Place.Service (InService.Signal j b) v) w s
      → Makes (signal j v b (desk_of w) (word_of (things_of s) j)) e w' → Goes w w' → TurnsWord j s s' (latched (word_of (things_of s) j)) → Steps left spot w s e w' s'
  holder_latched j b v w w' s s' e sound makes_it goes turns =
      let q : Place = Place.Service (InService.Signal j b) v in
      let found = seat_there j q w s sound sound.aims in
      let its : Chair = found.0 in
      let there : slice_get s.seats.items j ≡ Some its = found.1 in
      let word : PureWord = its.mailbox.waker in
      let seen : word_of (things_of s) j ≡ word = own_word_seen j s its there in
      let its' : Chair = chair_latched its in
      let set : s'.seats.items ≡ slice_set s.seats.items j its' = turns.seats its there ∙ ap (λ x. slice_set s.seats.items j (record its { mailbox = record its.mailbox { waker = latched x } })) seen in
      let back : record w { place = q } ≡ w = ap (λ p. record w { place = p }) (sym sound.here) in
      let y = after_latch j b word in
      let next : Place = Place.Service y v in
      let by_place : w' ≡ record w { place = next } = goes ∙ ap (λ p. record w { place = p }) (ap (λ d. d.place) makes_it.desk ∙ ap (λ x. Place.Service (after_latch j b x) v) seen) in
      let done : Steps left spot (record w { place = q }) s Serve (record w { place = next }) s' =
      seat_served left spot (InService.Signal j b) y v w s s' (subst (λ z. SoundAt q z s) (sym back) sound) (leads_by (asks_signal word) word) (sound.due.told refl)
      j its its' (record { queue = refl; target = refl; inbox = refl; mail = λ h. assumption h; phase = refl; pool = refl; left = refl; made = refl }) refl
      (record { phase = refl; pool = refl; left = refl; closed = refl; target = refl; mail = λ h. assumption h; made = refl; queue = inl refl }) turns.kept there set
      (aims_by (asks_signal word) word (subst (λ n. j < n) (sym (ap length set ∙ length-set s.seats.items j its')) sound.aims)) (λ z. refl)
      (λ p vs suits.
      ap (λ x. makes Serve (record (desk_of (record w { place = q })) { place = Place.Service (after_latch j b x) v }) (set_word j (things_with vs s) (latched x))) seen
      ∙ ap (makes Serve (desk_of (record w { place = next }))) (sym (word_shows vs j s s'.seats.items its (latched word) there set (things_with vs s') (ap (things_with vs) turns.kept)))) in
      subst (λ z. Steps left spot z s e w' s') back
      (subst (λ z. Steps left spot (record w { place = q }) s z w' s') (sym makes_it.event)
      (subst (λ z. Steps left spot (record w { place = q }) s Serve z s') (sym by_place) done))
    where
      leads_by : (asks : Bool) (word : PureWord) → Leads (InService.Signal j b) (if asks then InService.Raise (is_ring word.target) j b else after_permit b) v
      leads_by true word = record { from = refl; to = refl; moment = λ m. refl; passes = refl }
      leads_by false word = record { from = refl; to = serves_back b; moment = moment_of_back b v; passes = passes_none b v }

      aims_by : (asks : Bool) (word : PureWord) → j < length s'.seats.items → Aims (Place.Service (if asks then InService.Raise (is_ring word.target) j b else after_permit b) v) s.config w.index s'.seats.items
      aims_by true word less = less
      aims_by false word less = aims_back b v s w.index s'.seats.items

  -- THE WAIT
  pub holder_raised : (ring : Bool) (j : ℕ) (b : AfterPermit) (v : Service) (w w' : Worker) (s s' : Shared B) (e : Event) → SoundAt (Place.Service (InService.Raise ring j b) v) w s
      → OfChair j s (λ chair. e ≡ (if is_awake chair.rest then Serve else Rouse j)) → w' ≡ record w { place = Place.Service (after_permit b) v } → TurnsChair j (chair_raised ring) s s' → s' ≡ record s { seats = s'.seats } → Steps left spot w s e w' s'
  holder_raised ring j b v w w' s s' e sound event goes turns kept =
      let q : Place = Place.Service (InService.Raise ring j b) v in
      let next : Place = Place.Service (after_permit b) v in
      let back : record w { place = q } ≡ w = ap (λ p. record w { place = p }) (sym sound.here) in
      let here : SoundAt q (record w { place = q }) s = subst (λ z. SoundAt q z s) (sym back) sound in
      let found = seat_there j q w s sound sound.aims in
      let its : Chair = found.0 in
      let there : slice_get s.seats.items j ≡ Some its = found.1 in
      let its' : Chair = chair_raised ring its in
      let set : s'.seats.items ≡ slice_set s.seats.items j its' = turns its there in
      let keeps : Keeps its its' = record { queue = refl; target = refl; inbox = refl; mail = λ h. h; phase = refl; pool = refl; left = refl; made = refl } in
      let spares : SparesChair its its' = record { phase = refl; pool = refl; left = refl; closed = refl; target = refl; mail = λ h. h; made = refl; queue = inl refl } in
      let leads : Leads (InService.Raise ring j b) (after_permit b) v = record { from = refl; to = serves_back b; moment = moment_of_back b v; passes = passes_none b v } in
      let none = sound.due.told refl in
      let aims : Aims next s.config w.index s'.seats.items = aims_back b v s w.index s'.seats.items in
      let view : (p : Plan) (vs : Views) → Suits p vs (record w { place = q }) s → slice_get vs.workers j ≡ Some (get_or vs.workers j (visible w)) = λ p vs suits. slice_get-get_or vs.workers j (visible w) (omega (arith, sound.aims, suits.workers, sound.seated.many)) in
      let moves : (p : Plan) (vs : Views) → Suits p vs (record w { place = q }) s → move_at p.config w.index (own_of (record w { place = q })) (common_of left spot p vs s) (desk_of (record w { place = q })) (things_with vs s) q
      ≡ makes (rousing_in_service (common_of left spot p vs s) j) (desk_of (record w { place = next })) (things_with vs s') = λ p vs suits.
      ap (makes (rousing_in_service (common_of left spot p vs s) j) (desk_of (record w { place = next }))) (sym (wake_shows ring vs j (get_or vs.workers j (visible w)) its s s' (view p vs suits) there kept set)) in
      let by : (up : Bool) → is_awake its.rest ≡ up → Steps left spot (record w { place = q }) s e (record w { place = next }) s' = λ up.
      elim up as (λ up. is_awake its.rest ≡ up → Steps left spot (record w { place = q }) s e (record w { place = next }) s') [
        | true ↦ λ is.
            subst (λ z. Steps left spot (record w { place = q }) s z (record w { place = next }) s') (sym (event its there ∙ ap (λ b. if b then Serve else Rouse j) is))
            (seat_served left spot (InService.Raise ring j b) (after_permit b) v w s s' here leads none j its its' keeps refl spares kept there set aims
            (λ z. ap (λ r. record (seat_seen z its) { rest = r }) (sym (awake its.rest is)))
            (λ p vs suits.
            let cs = common_of left spot p vs s in
            let z : Visible = get_or vs.workers j (visible w) in
            let seat : seat_of cs j ≡ seat_seen z its = get_or_from_slice_get (seats_seen vs.workers s.seats.items) j (seat_seen z its) no_seat (seen_there vs.workers s.seats.items j z its (view p vs suits) there) in
            moves p vs suits ∙ ap (λ x. makes (if x then Serve else Rouse j) (desk_of (record w { place = next })) (things_with vs s')) (ap (λ c. is_awake c.rest) seat ∙ is)))
        | false ↦ λ is.
            subst (λ z. Steps left spot (record w { place = q }) s z (record w { place = next }) s') (sym (event its there ∙ ap (λ b. if b then Serve else Rouse j) is))
            (seat_roused left spot (InService.Raise ring j b) (after_permit b) v w s s' here leads none j its its' keeps refl spares kept there set aims is (λ z. refl) sound.aims moves)
      ] in
      subst (λ z. Steps left spot z s e w' s') back (subst (λ z. Steps left spot (record w { place = q }) s e z s') (sym goes) (by (is_awake its.rest) refl))
