-- What the signals of an outside caller are to the machine: the latch goes into the wake word of a worker, and its wait is
-- ended.
use Rattle.std.proofs.{Common.{◌≡◌, ℕ, ◌+◌, ◌<◌, ◌≤◌, Bool, true, false, length, map, Option, None, Some, refl, sym, ap, subst, ◌∙◌, arith, inl, option_to_list, slice_get, slice_set}, lemmas.{Bool.false≢true, List.length-set, Option.get_or_from_slice_get}}
use Rattle.exec_words.specs.{Queue.tail_of, Word.asks_signal, declared.word.PureWord.PureWord}
use Rattle.exec_task.specs.declared.body.Said.{Said}
use Rattle.exec_machine.specs.{declared.{event.Event.{Event, TheVariants.{Turn, Rouse}}, state.Rest.Rest, step.Action.Action as action}, Choice.Choice.Plain, Progress.Plan, Tests.is_awake, World.{no_seat, seat_of}}
use Rattle.exec_moves.specs.{Claim.{is_ring, latched, rousing}, MoveOfCaller.call_on, declared.handing.{CallPlace.{CallPlace, CallPlace as call}, InSignal.InSignal as signals}}
use Rattle.exec_parts.specs.{declared.parts.{seat.Seat.Seat as Chair, shared.Shared.Shared}, Phased.TurnsChair, Pooled.{OfChair, chair_latched, chair_raised, event_rousing}, Spots.Spot, View.{Views, Visible, common_of, seat_seen, seats_seen, things_with}}
use Rattle.exec_invariants.{proofs.{Showing.{map_kept, own_word_seen, seats_kept, word_shows}, Aside.{queue_of_chair, queues_set, HoldsIn, seats_other, whole_boxed}, PoolKept.{gate_spared, gates_set}, Rousing.wake_shows, Seats.{chair_set, seat_there as seen_there}, SparedRecord.there_within, Turning.Shares}, specs.{Holding.box_of, Places.one_if, Sound.IsInHand, Spares.SparesChair, Whole.{IsWhole, Profile, runnables_in}}}
use Rattle.exec_polling.{specs.{declared.caller.Caller.Caller, Calling.{CallBeside, CallSound, CallSteps, CallSuits, CallWorks, call_of, desk_of_caller, hands_on_in, has_count_in, is_free, place_by_word, with_call, with_caller}}, proofs.Outsiders.{Leads, beside_shares, call_turned, leads_either, may_be_gone_on, sound_shares, still_called, to_return}}

module _ {B L : Type 0} (left : B → L) (spot : L → Option Said → Spot) (c c' : Caller) (s s' : Shared B) (e : Event) (sound : CallSound c s) (k : ℕ) where
  module _ (its its' : Chair) (spares : SparesChair its its') (same : its'.queue ≡ its.queue) (kept : s' ≡ record s { seats = s'.seats }) (there : slice_get s.seats.items k ≡ Some its) (set : s'.seats.items ≡ slice_set s.seats.items k its') (next : CallPlace)
      (uncounted : has_count_in c.place ≡ false) (empty : hands_on_in c.place ≡ false) (leads : Leads false (length s.seats.items) next) (holds : (others : Profile) → IsWhole (with_caller others c) s → HoldsIn (with_caller others c) s s'.seats.items) where
    shares : Shares s s'
    shares = subst (λ (z : Shared B). z ≡ record s { seats = z.seats; idle = z.idle; global = z.global }) (sym kept) refl

    pub still_sound : CallSound (record c { place = next }) s'
    still_sound =
        let hand : IsInHand None (hands_on_in next) c.hand = subst (λ b. IsInHand None b c.hand) (empty ∙ sym leads.empty) sound.hand in
        sound_shares c (record c { place = next }) s s' sound shares (ap length set ∙ length-set s.seats.items k its') hand sound.genuine leads.aims

    profile : (others : Profile) → with_caller others (record c { place = next }) ≡ with_caller others c
    profile others = ap (λ n. record others { runnables = λ t. others.runnables t + runnables_in t (option_to_list c.hand); counts = others.counts + n }) (ap one_if (leads.counts ∙ sym uncounted))

    pub beside : CallBeside c s (record c { place = next }) s'
    beside =
        let grows : tail_of its.queue ≤ tail_of its'.queue = rw same (omega arith) in
        beside_shares c (record c { place = next }) s s' shares (λ i. seats_other i k s.seats.items s'.seats.items its its' set there grows spares)
        (λ others whole.
        rw (profile others)
        (whole_boxed (with_caller others c) s s' shares (gates_set k s.seats.items s'.seats.items its its' set there (gate_spared its its' spares)) (ap (map queue_of_chair) set ∙ queues_set s.seats.items k its its' there same) (holds others whole) (ap (λ (z : Shared B). z.idle) kept) (ap (λ (z : Shared B). z.global) kept) whole))

    -- nothing of the seat is to be seen by the machine
    seat_turned : is_free c.place ≡ false → e ≡ Turn → c' ≡ record c { place = next } → ((v : Visible) → seat_seen v its' ≡ seat_seen v its)
        → ((p : Plan) (vs : Views) → length vs.workers ≡ length s.seats.items → call_on (common_of left spot p vs s) (desk_of_caller c) (things_with vs s) c.place ≡ record { event = Turn; choice = Plain; desk = record (desk_of_caller c) { place = next }; thing = things_with vs s' })
        → CallSteps left spot c s e c' s'
    seat_turned going event goes shows moves = subst (λ y. CallSteps left spot c s e y s') (sym goes)
        (call_turned left spot c (record c { place = next }) s s' e going leads.going event shares (ap (λ (z : Shared B). z.global.closed) kept) (λ vs. ap (seats_seen vs) set ∙ seats_kept vs s.seats.items k its its' there shows) still_sound beside moves)

    -- or that its worker was roused
    seat_roused : is_free c.place ≡ false → e ≡ Rouse k → c' ≡ record c { place = next } → is_awake its.rest ≡ false → ((v : Visible) → seat_seen v its' ≡ record (seat_seen v its) { rest = Rest.Awake }) → k < length s.seats.items
        → ((p : Plan) (vs : Views) → length vs.workers ≡ length s.seats.items → call_on (common_of left spot p vs s) (desk_of_caller c) (things_with vs s) c.place ≡ record { event = rousing (common_of left spot p vs s) k; choice = Plain; desk = record (desk_of_caller c) { place = next }; thing = things_with vs s' })
        → CallSteps left spot c s e c' s'
    seat_roused going event goes asleep shows few moves = subst (λ y. CallSteps left spot c s e y s') (sym goes) (works, still_sound, beside)
      where
        works : (p : Plan) (vs : Views) (j : ℕ) → CallSuits p vs j c s → CallWorks left spot p vs (action.GoOn j) j c s e (record c { place = next }) s'
        works p vs j suits =
            let cs = common_of left spot p vs s in
            let viewed = there_within vs.workers k (omega (arith, few, suits.workers)) in
            let v : Visible = viewed.0 in
            let seat : seat_of cs k ≡ seat_seen v its = get_or_from_slice_get (seats_seen vs.workers s.seats.items) k (seat_seen v its) no_seat (seen_there vs.workers s.seats.items k v its viewed.1 there) in
            let rest : is_awake (seat_of cs k).rest ≡ false = rw seat asleep in
            let again : with_call vs j (call_of next) ≡ vs = still_called vs j c.place next suits.seen going leads.going in
            let roused : rousing cs k ≡ e = rw (rest, event) refl in
            record {
              choice = Plain;
              moves = moves p vs suits.workers ∙ ap (λ x. record { event = x; choice = Plain; desk = record (desk_of_caller c) { place = next }; thing = things_with vs s' }) roused;
              may = rw (event, rest) (may_be_gone_on left spot p vs s j c.place suits.seen going, (refl, tt));
              common = ap (λ x. common_of left spot p x s') again ∙ ap (common_of left spot p vs) kept ∙ ap (λ seats. record cs { seats = seats }) (ap (seats_seen vs.workers) set ∙ chair_set vs.workers s.seats.items k v its' viewed.1) ∙ rw (event, seat, shows v) refl;
            }

  -- THE SIGNAL

  latch_moves : (its : Chair) → c.place ≡ call.Signal signals.SetLatch k → slice_get s.seats.items k ≡ Some its → s'.seats.items ≡ slice_set s.seats.items k (chair_latched its) → s' ≡ record s { seats = s'.seats } → (p : Plan) (vs : Views)
      → call_on (common_of left spot p vs s) (desk_of_caller c) (things_with vs s) c.place ≡ record { event = Turn; choice = Plain; desk = record (desk_of_caller c) { place = place_by_word k its.mailbox.waker }; thing = things_with vs s' }
  latch_moves its here there set kept p vs =
      rw (here, own_word_seen k s its there)
      (ap (λ x. record { event = Turn; choice = Plain; desk = record (desk_of_caller c) { place = place_by_word k its.mailbox.waker }; thing = x })
      (sym (word_shows vs k s s'.seats.items its (latched its.mailbox.waker) there set (things_with vs s') (ap (things_with vs) kept))))

  pub call_latch_set : c.place ≡ call.Signal signals.SetLatch k → e ≡ Turn → OfChair k s (λ chair. c' ≡ record c { place = place_by_word k chair.mailbox.waker }) → TurnsChair k chair_latched s s' → s' ≡ record s { seats = s'.seats } → CallSteps left spot c s e c' s'
  call_latch_set here event goes chair kept =
      seat_turned its (chair_latched its) spares refl kept there (chair its there) next (rw here refl) (rw here refl) leads (λ others whole. rw (ap (map box_of) (chair its there) ∙ map_kept box_of s.seats.items k (chair_latched its) its there refl) whole.holding) (rw here refl) event (goes its there) (λ v. refl)
      (λ p vs many. latch_moves its here there (chair its there) kept p vs)
    where
      few : k < length s.seats.items
      few = rw here at sound.aims

      found : (seat : Chair) × (slice_get s.seats.items k ≡ Some seat)
      found = there_within s.seats.items k few

      its : Chair
      its = found.0

      there : slice_get s.seats.items k ≡ Some its
      there = found.1

      word : PureWord
      word = its.mailbox.waker

      next : CallPlace
      next = place_by_word k word

      spares : SparesChair its (chair_latched its)
      spares = record { phase = refl; pool = refl; left = refl; closed = refl; target = refl; mail = λ h. assumption h; made = refl; queue = inl refl }

      leads : Leads false (length s.seats.items) next
      leads = leads_either false (length s.seats.items) (asks_signal word) (call.Signal (signals.Raise (is_ring word.target)) k) call.Return
          (λ asks. record { going = refl; empty = refl; counts = refl; aims = few }) (to_return (length s.seats.items))

  pub call_wait_ended : (ring : Bool) → c.place ≡ call.Signal (signals.Raise ring) k → OfChair k s (λ chair. e ≡ event_rousing k chair.rest) → c' ≡ record c { place = call.Return } → TurnsChair k (chair_raised ring) s s' → s' ≡ record s { seats = s'.seats } → CallSteps left spot c s e c' s'
  call_wait_ended ring here event goes chair kept = by (is_awake its.rest) refl
    where
      few : k < length s.seats.items
      few = rw here at sound.aims

      found : (seat : Chair) × (slice_get s.seats.items k ≡ Some seat)
      found = there_within s.seats.items k few

      its : Chair
      its = found.0

      its' : Chair
      its' = chair_raised ring its

      there : slice_get s.seats.items k ≡ Some its
      there = found.1

      set : s'.seats.items ≡ slice_set s.seats.items k its'
      set = chair its there

      spares : SparesChair its its'
      spares = record { phase = refl; pool = refl; left = refl; closed = refl; target = refl; mail = λ h. h; made = refl; queue = inl refl }

      leads : Leads false (length s.seats.items) call.Return
      leads = to_return (length s.seats.items)

      awake : (rest : Rest) → is_awake rest ≡ true → rest ≡ Rest.Awake
      awake Rest.Awake h = refl
      awake _ h = absurd (false≢true h)

      viewed : (vs : Views) → length vs.workers ≡ length s.seats.items → (v : Visible) × (slice_get vs.workers k ≡ Some v)
      viewed vs many = there_within vs.workers k (omega (arith, few, many))

      -- what the machine makes of it
      moves : (p : Plan) (vs : Views) → length vs.workers ≡ length s.seats.items → call_on (common_of left spot p vs s) (desk_of_caller c) (things_with vs s) c.place ≡ record { event = rousing (common_of left spot p vs s) k; choice = Plain; desk = record (desk_of_caller c) { place = call.Return }; thing = things_with vs s' }
      moves p vs many =
          let v = viewed vs many in
          rw here (ap (λ x. record { event = rousing (common_of left spot p vs s) k; choice = Plain; desk = record (desk_of_caller c) { place = call.Return }; thing = x }) (sym (wake_shows ring vs k v.0 its s s' v.1 there kept set)))

      by : (up : Bool) → is_awake its.rest ≡ up → CallSteps left spot c s e c' s'
      by true is =
          let up : its.rest ≡ Rest.Awake = awake its.rest is in
          let turn : e ≡ Turn = event its there ∙ rw is refl in
          let shows : (v : Visible) → seat_seen v its' ≡ seat_seen v its = λ v. ap (λ r. record (seat_seen v its) { rest = r }) (sym up) in
          seat_turned its its' spares refl kept there set call.Return (rw here refl) (rw here refl) leads (λ others whole. rw (ap (map box_of) set ∙ map_kept box_of s.seats.items k its' its there refl) whole.holding) (rw here refl) turn goes shows
          (λ p vs many.
          let v = viewed vs many in
          let seat : seat_of (common_of left spot p vs s) k ≡ seat_seen v.0 its = get_or_from_slice_get (seats_seen vs.workers s.seats.items) k (seat_seen v.0 its) no_seat (seen_there vs.workers s.seats.items k v.0 its v.1 there) in
          let still : rousing (common_of left spot p vs s) k ≡ Turn = rw (seat, is) refl in
          moves p vs many ∙ ap (λ x. record { event = x; choice = Plain; desk = record (desk_of_caller c) { place = call.Return }; thing = things_with vs s' }) still)
      by false is =
          seat_roused its its' spares refl kept there set call.Return (rw here refl) (rw here refl) leads (λ others whole. rw (ap (map box_of) set ∙ map_kept box_of s.seats.items k its' its there refl) whole.holding) (rw here refl) (event its there ∙ rw is refl) goes is (λ v. refl) few moves
