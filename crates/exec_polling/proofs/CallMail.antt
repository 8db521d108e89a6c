-- What the wake of a root by an outside caller is to the machine: its worker is sent a message.
use Rattle.std.proofs.{Common.{◌≡◌, ℕ, ◌<◌, ◌&&◌, Bool, true, false, not, length, nat_lt, Option, Some, refl, sym, ap, subst, ◌∙◌, arith, slice_get, slice_set, if◌then◌else◌}, lemmas.{Bool.{eq-eqb, Decides.nat_tests}, List.length-map, Option.{get_or_from_slice_get, slice_get_within}}}
use Rattle.exec_task.specs.declared.body.Said.{Said}
use Rattle.exec_machine.specs.{declared.{event.Event.Event, state.{MailMessage.TheVariants.Root, Call.Call as half}, step.Action.Action as action}, Callers.{common_by, is_half_done, may_call, may_wake_by_call}, Choice.Payer.ByCall, Mail.has_root_message, Progress.Plan, Tests.AllTrue, World.{no_seat, seat_of, task_of}}
use Rattle.exec_moves.specs.{Call.{after_posting, calls_at}, Thing.{mailbox_of, set_mailbox}, declared.handing.{CallPlace.{CallPlace, CallPlace as call}, InSignal.InSignal as signals}}
use Rattle.exec_parts.{specs.{declared.parts.{seat.Seat.Seat as Chair, shared.Shared.Shared, task_slot.TaskSlot.TaskSlot}, Pooled.{asks_if_sent, chair_sent, event_sent}, MailPosts.IsMailbox, Spots.Spot, View.{Views, Visible, common_of, seat_seen, seats_seen, task_seen, things_with}}, proofs.Facts.and_from}
use Rattle.exec_invariants.{proofs.{Showing.own_word_seen, Aside.HoldsIn, Dedicated.home_within as root_within, RootMail.holding_posted, Posting.{Arrival, IsArrival, arrival, asks_as, asks_by, chair_by, choice_by, event_as, event_by, inbox_seen, mailbox_by, posted_as, posted_shows, posted_spares, posting_as, root_message_as, seat_as, seat_by}, Seats.{chair_set, seat_there as seen_there}, Slots.task_there, SparedRecord.there_within, Turning.set_found}, specs.Whole.{IsWhole, Profile}}
use Rattle.exec_polling.{specs.{declared.caller.Caller.Caller, Calling.{CallSound, CallSuits, CallWorks, WakesByCall, with_caller, call_of, desk_of_caller, is_free, place_by_mail, with_call}}, proofs.{CallSignals.{beside, still_sound}, CallWakes.free_call, Outsiders.{Leads, leads_either, to_return}}}

same_queue : (a : Arrival) (chair : Chair) → (chair_by a chair).queue ≡ chair.queue
same_queue = grind arith

goes_by : (home : ℕ) (asks : Bool) → after_posting home asks ≡ (if asks then call.Signal signals.SetLatch home else call.Return)
goes_by home true = refl
goes_by home false = refl

-- who has the root is a worker
pub home_within : {B : Type 0} (c : Caller) (t home : ℕ) (s : Shared B) (slot : TaskSlot B) → CallSound c s → slice_get s.tasks.items t ≡ Some slot → slot.home ≡ Some home → home < length s.seats.items
home_within c t home s slot sound there rooted = root_within s.config.workers (length s.seats.items) t home s.tasks.items slot sound.homes there rooted

module _ {B L : Type 0} (left : B → L) (spot : L → Option Said → Spot) (c : Caller) (t home : ℕ) (s s' : Shared B) (slot : TaskSlot B) (chair : Chair) (sound : CallSound c s) (free : is_free c.place ≡ true) (there : slice_get s.tasks.items t ≡ Some slot) (rooted : slot.home ≡ Some home) (seated : slice_get s.seats.items home ≡ Some chair) (kept : s' ≡ record s { seats = s'.seats }) where
  here : c.place ≡ call.Nothing
  here = free_call left spot c.place free

  within : t < length s.tasks.items
  within = slice_get_within s.tasks.items t slot there

  few : home < length s.seats.items
  few = slice_get_within s.seats.items home chair seated

  abbrev next : Bool → CallPlace
  next asks = if asks then call.Signal signals.SetLatch home else call.Return

  leads : (asks : Bool) → Leads false (length s.seats.items) (next asks)
  leads asks = leads_either false (length s.seats.items) asks (call.Signal signals.SetLatch home) call.Return (λ h. record { going = refl; empty = refl; counts = refl; aims = few }) (to_return (length s.seats.items))

  halved : (asks : Bool) → call_of (next asks) ≡ half.HalfDone
  halved true = refl
  halved false = refl

  -- what the machine has of the seat and the task
  module _ (p : Plan) (vs : Views) (suits_workers : length vs.workers ≡ length s.seats.items) where
    viewed : (v : Visible) × (slice_get vs.workers home ≡ Some v)
    viewed = there_within vs.workers home (omega (arith, few, suits_workers))

    seat : seat_of (common_of left spot p vs s) home ≡ seat_seen viewed.0 chair
    seat = get_or_from_slice_get (seats_seen vs.workers s.seats.items) home (seat_seen viewed.0 chair) no_seat (seen_there vs.workers s.seats.items home viewed.0 chair viewed.1 seated)

    home_seen : (task_of (common_of left spot p vs s) t).home ≡ Some home
    home_seen = rw (task_there left spot s.tasks.items t slot there) rooted

    -- what its event has to pass
    may : (e : Event) (a : Arrival) → IsArrival a chair.mailbox → e ≡ event_by home a → AllTrue (may_wake_by_call (common_of left spot p vs s) t e (choice_by a ByCall))
    may e Arrival.Shut is event = rw (event, home_seen) (ap (λ x. x.mailbox_closed) seat ∙ is, tt)
    may e Arrival.LeftOut is event = rw (event, home_seen) (refl, (eq-eqb home home refl, (ap (λ x. not x.mailbox_closed) seat ∙ ap not is.0, (ap has_root_message seat ∙ root_message_as viewed.0 chair is, (refl, tt)))))
    may e Arrival.More is event = rw (event, home_seen) (refl, (eq-eqb home home refl, (ap (λ x. not x.mailbox_closed) seat ∙ ap not is.0, (refl, (refl, tt)))))
    may e Arrival.First is event = rw (event, home_seen) (refl, (eq-eqb home home refl, (ap (λ x. not x.mailbox_closed) seat ∙ ap not is.0, (refl, (refl, tt)))))

    -- what becomes of the seats
    seats_then : (a : Arrival) → IsArrival a chair.mailbox → s'.seats.items ≡ slice_set s.seats.items home (chair_by a chair) → seats_seen vs.workers s'.seats.items ≡ slice_set (seats_seen vs.workers s.seats.items) home (seat_by a (seat_seen viewed.0 chair))
    seats_then a is set = grind (arith, set, chair_set vs.workers s.seats.items home viewed.0 (chair_by a chair) viewed.1, seat_as a viewed.0 chair is)

    unseen : slice_set (seats_seen vs.workers s.seats.items) home (seat_seen viewed.0 chair) ≡ seats_seen vs.workers s.seats.items
    unseen = set_found (seats_seen vs.workers s.seats.items) home (seat_seen viewed.0 chair) (seen_there vs.workers s.seats.items home viewed.0 chair viewed.1 seated)

    seen : (e : Event) (j : ℕ) (a : Arrival) → IsArrival a chair.mailbox → e ≡ event_by home a → s'.seats.items ≡ slice_set s.seats.items home (chair_by a chair)
        → common_of left spot p (with_call vs j half.HalfDone) (record s { seats = s'.seats }) ≡ common_by (common_of left spot p vs s) (action.Wake j t) e (choice_by a ByCall)
    seen e j Arrival.Shut is event set = ap (λ seats. record (common_of left spot p vs s) { seats = seats; callers = slice_set vs.calls j half.HalfDone }) (seats_then Arrival.Shut is set ∙ unseen) ∙ rw event refl
    seen e j Arrival.LeftOut is event set = ap (λ seats. record (common_of left spot p vs s) { seats = seats; callers = slice_set vs.calls j half.HalfDone }) (seats_then Arrival.LeftOut is set ∙ unseen) ∙ rw event refl
    seen e j Arrival.More is event set = ap (λ seats. record (common_of left spot p vs s) { seats = seats; callers = slice_set vs.calls j half.HalfDone }) (seats_then Arrival.More is set) ∙ rw (event, seat) refl
    seen e j Arrival.First is event set = ap (λ seats. record (common_of left spot p vs s) { seats = seats; callers = slice_set vs.calls j half.HalfDone }) (seats_then Arrival.First is set) ∙ rw (event, seat) refl

  works : (e : Event) (a : Arrival) → IsArrival a chair.mailbox → e ≡ event_by home a → s'.seats.items ≡ slice_set s.seats.items home (chair_by a chair) → (asks : Bool) → asks ≡ asks_by a chair.mailbox
      → (p : Plan) (vs : Views) (j : ℕ) → CallSuits p vs j c s → CallWorks left spot p vs (action.Wake j t) j c s e (record c { place = next asks }) s'
  works e a is event set asks asked p vs j suits =
      let cs = common_of left spot p vs s in
      let v = viewed p vs suits.workers in
      let at_home : (task_of cs t).home ≡ Some home = home_seen p vs suits.workers in
      let its : seat_of cs home ≡ seat_seen v.0 chair = seat p vs suits.workers in
      let m = mailbox_of (things_with vs s) home in
      let posts = posting_as a cs home ByCall m chair v.0 is its (inbox_seen vs home s chair seated) (own_word_seen home s chair seated) in
      let free_now : may_call cs j ≡ true = ap (λ x. not (is_half_done x)) (get_or_from_slice_get vs.calls j half.Nothing half.HalfDone (suits.seen ∙ ap (λ x. Some (call_of x)) here)) in
      let many : length cs.tasks ≡ length s.tasks.items = length-map s.tasks.items (task_seen left spot) in
      let less : nat_lt t (length cs.tasks) ≡ true = rw many (grind (arith, nat_tests, within)) in
      let first : (may_call cs j && nat_lt t (length cs.tasks)) ≡ true = and_from (may_call cs j) (nat_lt t (length cs.tasks)) free_now less in
      let shown : things_with vs s' ≡ set_mailbox home (things_with vs s) (mailbox_by a m) = posted_shows a vs home s s'.seats.items chair is seated set (things_with vs s') (ap (things_with vs) kept) in
      let goes : calls_at (after_posting home (asks_by a chair.mailbox)) (desk_of_caller c) ≡ desk_of_caller (record c { place = next asks }) =
      ap (λ b. calls_at (after_posting home b) (desk_of_caller c)) (sym asked) ∙ ap (λ x. calls_at x (desk_of_caller c)) (goes_by home asks) in
      record {
        choice = choice_by a ByCall;
        moves =
            rw (at_home, posts, event)
            (ap (λ d. record { event = event_by home a; choice = choice_by a ByCall; desk = d; thing = set_mailbox home (things_with vs s) (mailbox_by a m) }) goes
            ∙ ap (λ x. record { event = event_by home a; choice = choice_by a ByCall; desk = desk_of_caller (record c { place = next asks }); thing = x }) (sym shown));
        may = (first, may p vs suits.workers e a is event);
        common = ap (λ x. common_of left spot p (with_call vs j x) s') (halved asks) ∙ ap (common_of left spot p (with_call vs j half.HalfDone)) kept ∙ seen p vs suits.workers e j a is event set;
      }

  pub root_woken : (c' : Caller) (e : Event) → IsMailbox chair.mailbox → e ≡ event_sent home Root chair.mailbox → c' ≡ record c { place = place_by_mail home chair.mailbox } → s'.seats.items ≡ slice_set s.seats.items home (chair_sent Root chair) → WakesByCall left spot t c s e c' s'
  root_woken c' e mail event goes set =
      let at = arrival chair.mailbox in
      let a = at.0 in
      let asks = asks_if_sent Root chair.mailbox in
      let set_now : s'.seats.items ≡ slice_set s.seats.items home (chair_by a chair) = set ∙ ap (slice_set s.seats.items home) (posted_as a chair at.1) in
      let holds : (others : Profile) → IsWhole (with_caller others c) s → HoldsIn (with_caller others c) s s'.seats.items = grind (arith, holding_posted, set_now) in
      subst (λ y. WakesByCall left spot t c s e y s') (sym goes) (
        works e a at.1 (event ∙ event_as home a chair.mailbox at.1) set_now asks (asks_as a chair.mailbox at.1),
        still_sound left spot c c' s s' e sound home chair (chair_by a chair) (posted_spares a chair at.1) (same_queue a chair) kept seated set_now (next asks) (rw here refl) (rw here refl) (leads asks) holds,
        beside left spot c c' s s' e sound home chair (chair_by a chair) (posted_spares a chair at.1) (same_queue a chair) kept seated set_now (next asks) (rw here refl) (rw here refl) (leads asks) holds,
      )
