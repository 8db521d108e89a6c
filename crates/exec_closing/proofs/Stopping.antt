-- The stop is told to the root of another worker, as a step of the machine.
use Rattle.std.proofs.{Common.{◌≡◌, ◌≢◌, inl, ℕ, suc, ◌+◌, ◌-◌, ◌==◌, ◌||◌, ◌<◌, Bool, true, false, not, List, [], ◌++◌, drop, length, map, Option, Some, get_or, refl, sym, ap, subst, ◌∙◌, arith, slice_get, slice_set, nat_lt, if◌then◌else◌}, lemmas.{Bool.{false≢true, eq-eqb, Decides.nat_tests}, List.{append-nil, length-set}, Option.{get_or_from_slice_get, slice_get-get_or}}}
use Rattle.exec_task.specs.declared.body.Said.{Said}
use Rattle.exec_machine.specs.{declared.{config.Configuration.Configuration, event.Event.{Event, TheVariants.Send}, state.{Letter.Letter, MailMessage.TheVariants.Root, Next.Next}}, Allowed.allowed, Choice.Payer.ByStop, Closing.letters_to_roots, Mail.after_post, Progress.Plan, Tests.AllTrue, World.{no_seat, seat_of}}
use Rattle.exec_moves.specs.{declared.{handing.{AfterPop.AfterPop, AfterSend.AfterSend, AfterSignal.AfterSignal, InPop.InPop, InSignal.InSignal}, place.{InClosing.InClosing, Place.Place}}, Move.move_at, Parts.tells_from, Seen.{next_at, serves_at}, Send.after_posting, State.Desk, Thing.{mailbox_of, set_mailbox}}
use Rattle.exec_parts.{specs.{declared.parts.{seat.Seat.Seat as Chair, shared.Shared.Shared, worker.Worker.Worker}, Phased.{IsGoing, IsPhased, closes_at, closing_in, stage_of}, Pooled.{Sends, asks_if_sent}, Roles.is_pool, Spots.Spot, View.{Views, Visible, common_of, desk_of, driver_of, letters_in, own_of, owed_at, seat_seen, seats_seen, things_with, visible, with_view}}, proofs.Facts.{false_from_ne_true, not_same, set_elsewhere}}
use Rattle.exec_invariants.{proofs.{Showing.own_word_seen, Dedicated.{as_long, chair_of_pool}, Aside.{queue_of_chair, queues_set, seats_other}, Closes.{closed_by, follows_in, follows_pop}, PoolKept.{gate_spared, gates_set}, Posting.{Arrival, IsArrival, arrival, asks_as, asks_by, chair_by, choice_by, event_as, event_by, inbox_seen, mailbox_by, posted_as, posted_shows, posted_spares, posting_as, root_message_as, seat_as, seat_by}, RootMail.holding_posted, Seats.{chair_set, seat_there as seen_there}, Shutting.{Follows, Ready, pools_calm, shown_as}, Turning.{set_found, view_found}}, specs.{Holding.{holder_of, nap_of, thing_of}, Places.{drops_at, is_pooled_at, no_drops}, Sound.{Aims, HasBatch, LetsGoAt, SoundAt, has_wakes_at}, Spares.SparesChair, Whole.{HasWhole, hands_of, with_worker}, Works.{Steps, Suits}}}
use Rattle.exec_closing.proofs.Parting.{on_seats}

follows_signal : (j : ℕ) (n : ℕ) → Follows (Place.Signal InSignal.SetLatch j (AfterSignal.Send (AfterSend.Tell n)))
follows_signal j n = record { polls = refl; served = refl; unarmed = refl; begins = refl; hands_on = refl; calls = refl; searches = refl; claims = refl; counts = refl; published = refl; passes = refl; joins = refl; spare = refl; cancels = refl; sends = refl; heard = refl; queue = λ own none. none }

-- the letters that are left once the first was sent
letters_on : (n j : ℕ) → j < n → drop 1 (letters_to_roots (n - j) j) ≡ letters_to_roots (n - (j + 1)) (j + 1)
letters_on = grind arith

none_left : (n j : ℕ) → nat_lt (j + 1) n ≡ false → j < n → drop 1 (letters_to_roots (n - j) j) ≡ []
none_left = grind arith

-- where it goes on, by whether a signal is asked for
told_to : (c : Configuration) (j : ℕ) (d : Desk) (asks : Bool) → after_posting c j (AfterSend.Tell (j + 1)) asks d ≡ (if asks then Place.Signal InSignal.SetLatch j (AfterSignal.Send (AfterSend.Tell (j + 1))) else tells_from c (j + 1))
told_to c j d true = refl
told_to c j d false = refl

module _ {B : Type 0} where
  -- the own chair is as it was, where another was set
  ready_other : (x : InClosing) (q : Place) (w : Worker) (s s' : Shared B) (j : ℕ) (its' : Chair) (sound : SoundAt (Place.Closing x) w s) → w.index ≢ j → s' ≡ record s { seats = s'.seats } → s'.seats.items ≡ slice_set s.seats.items j its' → Aims q s.config w.index s'.seats.items → (is_pooled_at q ≡ true → is_pool w.role ≡ true) → LetsGoAt q (driver_of w).requests w.home.timers → HasBatch q w.batch.values → has_wakes_at (Place.Closing x) ≡ false
      → ((chair : Chair) → slice_get s.seats.items w.index ≡ Some chair → IsPhased w.index (closes_at q) (closing_in q) w.home.closing w.root w.names.unreleased (stage_of chair s) s.tasks.items) → Ready q w.home.closing w.batch w.processed w s s'
  ready_other x q w s s' j its' sound apart kept set aims pooled lets_go batch quiet phased =
      let back : slice_get s'.seats.items w.index ≡ slice_get s.seats.items w.index = ap (λ xs. slice_get xs w.index) set ∙ set_elsewhere s.seats.items j w.index its' apart in
      record {
        kept = subst (λ (z : Shared B). z ≡ record s { seats = z.seats; set = z.set; global = z.global; barrier_open = z.barrier_open; stopped = z.stopped }) (sym kept) refl;
        seated = record { many = as_long (ap length set ∙ length-set s.seats.items j its') sound.seated.many; pool = sound.seated.pool; seat = sound.seated.seat; there = back ∙ sound.seated.there; unarmed = λ h. sound.seated.unarmed refl; mail = sound.seated.mail };
        queue = λ chair there. sound.queue chair (sym back ∙ there);
        aims = aims;
        batch = batch;
        mine = sound.mine;
        place = λ chair there. sound.batch_place chair (sym back ∙ there);
        few = sound.processed;
        many = ap length set ∙ length-set s.seats.items j its';
        pooled = pooled;
        lets_go = lets_go;
        quiet = λ h. sound.quiet quiet;
        shards = ap (λ (z : Shared B). length z.set.shards) kept;
        closing = λ h. h;
        phased = λ chair there.
            let stage : stage_of chair s' ≡ stage_of chair s = rw (ap (λ (z : Shared B). z.stopped) kept, ap (λ (z : Shared B). z.set) kept) refl in
            subst (λ st. IsPhased w.index (closes_at q) (closing_in q) w.home.closing w.root w.names.unreleased st s.tasks.items) (sym stage) (phased chair (sym back ∙ there));
      }

module _ {B L : Type 0} (left : B → L) (spot : L → Option Said → Spot) (w w' : Worker) (s s' : Shared B) (e : Event) (j : ℕ) (sound : SoundAt (Place.Closing (InClosing.TellRoot j)) w s) (going : IsGoing w.index s.seats.items) (kept : s' ≡ record s { seats = s'.seats })
    (its : Chair) (there : slice_get s.seats.items j ≡ Some its) (a : Arrival) (is_a : IsArrival a its.mailbox) (unshut : its.mailbox.inbox.closed ≡ false) (set : s'.seats.items ≡ slice_set s.seats.items j (chair_by a its)) where
  abbrev q : Place
  q = Place.Closing (InClosing.TellRoot j)

  abbrev its' : Chair
  its' = chair_by a its

  queue : its'.queue ≡ its.queue
  queue = by a
    where
      by : (b : Arrival) → (chair_by b its).queue ≡ its.queue
      by = grind arith

  spares : SparesChair its its'
  spares = posted_spares a its is_a

  abbrev view_of : Views → Visible
  view_of vs = get_or vs.workers j (visible w)

  seen : (p : Plan) (vs : Views) → Suits p vs w s → slice_get vs.workers j ≡ Some (view_of vs)
  seen p vs suits = slice_get-get_or vs.workers j (visible w) (omega (arith, sound.aims.1, suits.workers, sound.seated.many))

  seat : (p : Plan) (vs : Views) → Suits p vs w s → seat_of (common_of left spot p vs s) j ≡ seat_seen (view_of vs) its
  seat p vs suits = get_or_from_slice_get (seats_seen vs.workers s.seats.items) j (seat_seen (view_of vs) its) no_seat (seen_there vs.workers s.seats.items j (view_of vs) its (seen p vs suits) there)

  -- what becomes of the seats
  common : (p : Plan) (vs : Views) → Suits p vs w s → record (common_of left spot p vs s) { seats = seats_seen vs.workers s'.seats.items } ≡ after_post (common_of left spot p vs s) j Root (choice_by a ByStop)
  common p vs suits = grind (arith, set, chair_set vs.workers s.seats.items j (view_of vs) its' (seen p vs suits), seat_as a (view_of vs) its is_a, by a is_a)
    where
      here : slice_get (seats_seen vs.workers s.seats.items) j ≡ Some (seat_seen (view_of vs) its)
      here = seen_there vs.workers s.seats.items j (view_of vs) its (seen p vs suits) there

      by : (b : Arrival) → IsArrival b its.mailbox → record (common_of left spot p vs s) { seats = slice_set (seats_seen vs.workers s.seats.items) j (seat_by b (seat_seen (view_of vs) its)) } ≡ after_post (common_of left spot p vs s) j Root (choice_by b ByStop)
      by Arrival.Shut is = absurd (false≢true (sym unshut ∙ is))
      by Arrival.LeftOut is = ap (λ xs. record (common_of left spot p vs s) { seats = xs }) (set_found (seats_seen vs.workers s.seats.items) j (seat_seen (view_of vs) its) here)
      by Arrival.First is = rw (seat p vs suits) refl
      by Arrival.More is = rw (seat p vs suits) refl

  -- no letters are owed beside
  all_owed : letters_in w.letters ≡ [] → (xs : List Letter) → xs ++ letters_in w.letters ≡ xs
  all_owed none xs = ap (λ ys. xs ++ ys) none ∙ append-nil xs

  apart : w.index ≢ j
  apart is = omega (arith, is, sound.aims.0)

  leads : (next : Place) → e ≡ event_by j a → w' ≡ record w { place = next } → after_posting s.config j (AfterSend.Tell (j + 1)) (asks_by a its.mailbox) (desk_of w) ≡ next → Follows next → closes_at next ≡ true → (n : ℕ) → closing_in next ≡ Some (InClosing.TellRoot n) → Aims next s.config w.index s'.seats.items → next_at next ≡ Next.Free → serves_at next ≡ false
      → owed_at w.workers next ≡ drop 1 (letters_to_roots (w.workers - j) j) → drops_at next ≡ no_drops → LetsGoAt next (driver_of w).requests w.home.timers → HasBatch next w.batch.values → Steps left spot w s e w' s'
  leads next event goes is follows closes_there n closing aims free unserved owes drops lets_go batch =
      closed_by left spot (InClosing.TellRoot j) next w.home.closing w.batch w.processed w w' s s' e sound follows
      (ready_other (InClosing.TellRoot j) next w s s' j its' sound apart kept set aims (λ h. sound.pooled refl) lets_go batch refl
      (λ chair at_own.
      let it = sound.phased chair at_own in
      rw (closes_there, closing)
      (record { told = it.told; opened = it.opened; ended = λ h. absurd (false≢true (sym (going chair at_own) ∙ h)); root = it.root; left = it.left; shut = it.shut; by_zero = it.by_zero; by_other = it.by_other; closed = it.closed; prepared = tt })))
      (on_seats w.index s s' kept) (inl (ap (λ (z : Shared B). z.global) kept)) (seats_other w.index j s.seats.items s'.seats.items its its' set there (rw queue (omega arith)) spares)
      (pools_calm (InClosing.TellRoot j) next w.home.closing w.batch w.processed w s s' sound follows drops (gates_set j s.seats.items s'.seats.items its its' set there (gate_spared its its' spares)) (ap (λ (z : Shared B). z.set.shards) kept) (λ h. ap (λ (z : Shared B). z.set.closed) kept ∙ h))
      (λ others whole. holding_posted a (hands_of (with_worker others w)) s.config.workers (map holder_of s.tasks.items) (map thing_of s.requests.items) (map nap_of s.sleepers.items) s.seats.items s'.seats.items j its is_a there set whole.holding)
      (ap (λ xs. map queue_of_chair xs) set ∙ queues_set s.seats.items j its its' there queue) goes
      (λ p vs suits.
      let cs = common_of left spot p vs s in
      let again = view_found vs w.index (visible w) suits.seen in
      let some : w.workers - j ≡ suc (w.workers - (j + 1)) = omega (arith, sound.aims.1, sound.workers) in
      let other : (j == w.index) ≡ false = not_same j w.index (λ is. apart (sym is)) in
      let m = mailbox_of (things_with vs s) j in
      let posts = posting_as a cs j ByStop m its (view_of vs) is_a (seat p vs suits) (inbox_seen vs j s its there) (own_word_seen j s its there) in
      let shown : things_with vs s' ≡ set_mailbox j (things_with vs s) (mailbox_by a m) = posted_shows a vs j s s'.seats.items its is_a there set (things_with vs s') (ap (things_with vs) kept) in
      let none : letters_in w.letters ≡ [] = sound.letters.none refl in
      let then_owed : owed_at w.workers next ++ letters_in w.letters ≡ drop 1 (letters_to_roots (w.workers - j) j) = ap (λ xs. xs ++ letters_in w.letters) owes ∙ all_owed none (drop 1 (letters_to_roots (w.workers - j) j)) in
      let sends : event_by j a ≡ Send j Root = sent_by a is_a in
      record {
        choice = choice_by a ByStop;
        moves =
            subst (λ y. move_at p.config w.index (own_of w) cs (desk_of w) (things_with vs s) y ≡ record { event = e; choice = choice_by a ByStop; desk = desk_of (record w { place = next }); thing = things_with (with_view vs w.index (visible w)) s' }) (sym sound.here)
            (shown_as _ (λ v. record { event = e; choice = choice_by a ByStop; desk = desk_of (record w { place = next }); thing = things_with v s' }) vs _ again
            (rw (event, posts, ← suits.config, is)
            (ap (λ x. record { event = event_by j a; choice = choice_by a ByStop; desk = desk_of (record w { place = next }); thing = x }) (sym shown))));
        may = rw (event, sends) (may_by p vs suits some other a is_a);
        own = rw (event, sends, sound.here, follows.polls, free, unserved, then_owed, all_owed none (letters_to_roots (w.workers - j) j)) refl;
        common = rw (event, sends, sound.here) (ap (λ v. common_of left spot p v s') again ∙ ap (common_of left spot p vs) kept ∙ common p vs suits);
      })
    where
      may_by : (p : Plan) (vs : Views) → Suits p vs w s → w.workers - j ≡ suc (w.workers - (j + 1)) → (j == w.index) ≡ false → (b : Arrival) → IsArrival b its.mailbox → AllTrue (allowed p.config (own_of w) (common_of left spot p vs s) w.index (Send j Root) (choice_by b ByStop))
      may_by p vs suits some other Arrival.Shut at = absurd (false≢true (sym unshut ∙ at))
      may_by p vs suits some other Arrival.LeftOut at = rw (sound.here, all_owed (sound.letters.none refl) (letters_to_roots (w.workers - j) j), some, seat p vs suits, unshut, eq-eqb j j refl, other) (refl, (refl, (refl, (root_message_as (view_of vs) its at, tt))))
      may_by p vs suits some other Arrival.First at = rw (sound.here, all_owed (sound.letters.none refl) (letters_to_roots (w.workers - j) j), some, seat p vs suits, unshut, eq-eqb j j refl, other) (refl, (refl, (refl, (refl, tt))))
      may_by p vs suits some other Arrival.More at = rw (sound.here, all_owed (sound.letters.none refl) (letters_to_roots (w.workers - j) j), some, seat p vs suits, unshut, eq-eqb j j refl, other) (refl, (refl, (refl, (refl, tt))))

      sent_by : (b : Arrival) → IsArrival b its.mailbox → event_by j b ≡ Send j Root
      sent_by Arrival.Shut at = absurd (false≢true (sym unshut ∙ at))
      sent_by Arrival.LeftOut at = refl
      sent_by Arrival.First at = refl
      sent_by Arrival.More at = refl

  -- where it leads, by whether a signal is asked, and whether another root is to be told
  pub told_on : e ≡ event_by j a → w' ≡ record w { place = (if asks_by a its.mailbox then Place.Signal InSignal.SetLatch j (AfterSignal.Send (AfterSend.Tell (j + 1))) else tells_from s.config (j + 1)) } → Steps left spot w s e w' s'
  told_on event goes = by (asks_by a its.mailbox) refl
    where
      few : j < w.workers
      few = omega (arith, sound.aims.1, sound.workers)

      as_many : length s'.seats.items ≡ length s.seats.items
      as_many = ap length set ∙ length-set s.seats.items j its'

      next : (more : Bool) → nat_lt (j + 1) s.config.workers ≡ more → asks_by a its.mailbox ≡ false → Steps left spot w s e w' s'
      next true more is =
          let some : j + 1 < s.config.workers = grind (arith, nat_tests, more) in
          leads (Place.Closing (InClosing.TellRoot (j + 1))) event (goes ∙ rw (is, more) refl) (rw (is, more) refl) (follows_in (InClosing.TellRoot (j + 1))) refl (j + 1) refl (omega (arith, sound.aims.0), some) refl refl (sym (letters_on w.workers j few)) refl (λ no. absurd (false≢true no)) (λ no. absurd (false≢true no))
      next false more is = by_others (nat_lt 1 s.config.workers) refl
        where
          by_others : (others : Bool) → nat_lt 1 s.config.workers ≡ others → Steps left spot w s e w' s'
          by_others true which = leads (Place.Pop InPop.LoadPopHead AfterPop.Discard) event (goes ∙ rw (is, more, which) refl) (rw (is, more, which) refl) (follows_pop true) refl 0 refl tt refl refl (sym (none_left w.workers j (rw sound.workers more) few)) refl (λ no. absurd (false≢true no)) (λ no. absurd (false≢true no))
          by_others false which = leads (Place.Pop InPop.PopAlone AfterPop.Discard) event (goes ∙ rw (is, more, which) refl) (rw (is, more, which) refl) (follows_pop false) refl 0 refl tt refl refl (sym (none_left w.workers j (rw sound.workers more) few)) refl (λ no. absurd (false≢true no)) (λ no. absurd (false≢true no))

      by : (asked_now : Bool) → asks_by a its.mailbox ≡ asked_now → Steps left spot w s e w' s'
      by true is = leads (Place.Signal InSignal.SetLatch j (AfterSignal.Send (AfterSend.Tell (j + 1)))) event (goes ∙ rw is refl) (rw is refl) (follows_signal j (j + 1)) refl (j + 1) refl (omega (arith, sound.aims.1, sound.seated.many, as_many), omega (arith, sound.aims.0)) refl refl (sym (letters_on w.workers j few)) refl (λ no. absurd (false≢true no)) (λ no. absurd (false≢true no))
      by false is = next (nat_lt (j + 1) s.config.workers) refl is

module _ {B L : Type 0} (left : B → L) (spot : L → Option Said → Spot) (w w' : Worker) (s s' : Shared B) (e : Event) where
  pub root_told : (j : ℕ) → SoundAt (Place.Closing (InClosing.TellRoot j)) w s → HasWhole w s → IsGoing w.index s.seats.items → Sends j Root (AfterSend.Tell (j + 1)) w w' s s' e → Steps left spot w s e w' s'
  root_told j sound has going sends =
      let its : Chair = get_or s.seats.items j sound.seated.seat in
      let there : slice_get s.seats.items j ≡ Some its = slice_get-get_or s.seats.items j sound.seated.seat (omega (arith, sound.aims.1, sound.seated.many)) in
      let seat = sound.seated.seat in
      let of_pool : seat.pool ≡ true = chair_of_pool (Place.Closing (InClosing.TellRoot j)) w s sound seat sound.seated.there ∙ sound.pooled refl in
      let here : (seat.left || not seat.pool) ≡ false = rw ((sound.phased seat sound.seated.there).left, of_pool) refl in
      -- of the pool, as its number says
      let few : nat_lt j s.config.workers ≡ true = grind (arith, nat_tests, sound.aims.1) in
      let its_pool : its.pool ≡ true = has.whole.in_pool j its there ∙ few in
      -- no mailbox of the pool is closed before all have left, and the own worker hasn't
      let unshut : its.mailbox.inbox.closed ≡ false = false_from_ne_true its.mailbox.inbox.closed (λ is. absurd (false≢true (sym here ∙ has.whole.pool.shut j its there its_pool is w.index seat sound.seated.there))) in
      let at = arrival its.mailbox in
      told_on left spot w w' s s' e j sound going sends.kept its there at.0 at.1 unshut (sends.chair its there ∙ ap (slice_set s.seats.items j) (posted_as at.0 its at.1)) (sends.event its there ∙ event_as j at.0 its.mailbox at.1)
      (sends.worker its there ∙ ap (λ p. record w { place = p }) (told_to s.config j (desk_of w) (asks_if_sent Root its.mailbox)) ∙ ap (λ b. record w { place = (if b then Place.Signal InSignal.SetLatch j (AfterSignal.Send (AfterSend.Tell (j + 1))) else tells_from s.config (j + 1)) }) (asks_as at.0 its.mailbox at.1))
