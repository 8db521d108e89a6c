-- What holds again once an operation has landed whose request is over.
use Rattle.std.{proofs.{Common.{◌≡◌, ◌≢◌, ℕ, ◌^◌, ◌<◌, ◌≤◌, Bool, true, false, List, [], ◌∷◌, ◌++◌, map, Option, Some, IsSome, refl, sym, ap, subst, ◌∙◌, arith, if◌then◌else◌}, lemmas.List.length-set}, specs.VecDeque.deque_capacity}
use Rattle.exec_base.{specs.Slab.{value_at, written}, proofs.Slots.{Updates-write, past-write}}
use Rattle.exec_outcomes.specs.{Accounts.{Account, is_durable}, declared.outcome.{Kind.Kind, OpResult.OpResult, Outcome.Outcome}}
use Rattle.exec_request.specs.{Judging.{Judges, judged_as}, Kept.kept_of, Requests.{asked_of, cursor_of, hinted_of, output_of}, declared.{request.Request.Request as Asking, output.RequestOutput.RequestOutput}, States.{Ended, as_outcome, told_by}}
use Rattle.exec_ring.specs.{Completions.result_in, declared.completion.Completion.Completion}
use Rattle.exec_waiters.{specs.{Ids.user_data_of, States.{waiter_at, tick_in, waiter_of}, declared.{waiter.{Entry.TheVariants.Pending, Waiter.Waiter}, deferred.Deferred.Deferred}, Told.{Tells, Told}, Events.{finished, told_by_finish}}, proofs.Changes.entry_of}
use Rattle.exec_driver.specs.{Driving.Driving, Punctual.IsPunctual, Steps.unscheduled}
use Rattle.exec_lists.specs.Lists.{without, withdrawn}
use Rattle.exec_machine.specs.{declared.{state.{Request.Request, RequestPhase.RequestPhase}}, Requests.reaped}
use Rattle.exec_moves.specs.{declared.place.{AfterPermit.AfterPermit, Place.Place, Reaping.Reaping, Service.Service, InService.InService}, Seen.serves_at, Serve.{after_permit, back_from_reap}}
use Rattle.exec_parts.{specs.{declared.parts.{mail.Reply.Reply, names.Names.Names, record.Record.Record, shared.Shared.Shared, worker.Worker.Worker}, Records.number_in, Serving.{changed_at, is_one_of}, View.{driver_of, number_told}}, proofs.Facts.not_same}
use Rattle.exec_invariants.{specs.{Carried.{IsUnderWay, may_move}, Due.{IsWheelAt, wheel_moment}, Flown.{AreLanded, HasLanded, IsPlain, operations}, HoldPlaces.is_bare_at, Sound.{SoundAt, served_in}, Names.IsAlike, Rooted.outcome_told}, proofs.{Changing.{changes_one, pending_still}, HeldCounts.held_written, Flown.landed_on, Judging.moved_bytes, Marking.{mark_if, marked}, ServingHolds.{Follows, KeepsBy}, Serving.kept, ServingPlaces.calm, Swept.RingAfter, Mine.live_mine, ServedEnds.ends_told, Orders.{TurnsAlike, alike_unticked, past_written}, Ousting.keeps_over, Over.OneEnds, Resolving.{SlabAfter, slab_after, unticked_at}}}
use Rattle.exec_serving.proofs.{Requeued.{fits_shown, landed_rest, lawful_shown, number_landed}, Returned.{not_due}}

-- WHAT THE DRIVER DID

pub record GoesOver {B : Type 0} (w : Worker) (s : Shared B) (d' : Driving Reply Reply) (c : Completion) (cs : List Completion) (how : Ended) (account : Option Account) : Type 0 where
  pub h : HasLanded w.names (driver_of w) s.requests.items c
  pub rest : AreLanded w.names (driver_of w) s.requests.items cs
  pub once : is_one_of (number_told w.names.requests.items c) (map (number_told w.names.requests.items) cs) ≡ false
  pub request : Asking
  pub judges : Judges (asked_of h.it.request) (cursor_of h.it.request) (cursor_of request) (judged_as (hinted_of h.it.request) h.it.state (result_in c.result)) (Some (as_outcome how))
  pub kept : kept_of request ≡ kept_of h.it.request
  pub ring : RingAfter (number_told w.names.requests.items) (driver_of w) d' cs
  pub requests : d'.requests ≡ finished (written (driver_of w).requests h.id (Pending (record h.it { in_flight = false; request = request }))) h.id (record h.it { in_flight = false; request = request }) how account
  pub lists : d'.lists ≡ withdrawn (record { 0 = h.id }) (driver_of w).lists
  pub wheel : d'.wheel ≡ unscheduled (driver_of w).wheel (tick_in h.it.state)

-- what its task hears is what the log tells
pub ended_same : (e : Ended) (k : Kind) (account : Option Account) → is_durable k ≡ false → as_outcome (told_by k e account) ≡ as_outcome e
ended_same = grind arith

pub tells_ending : (q : Asking) (how : Ended) (account : Option Account) → outcome_told (output_of q how account) ≡ as_outcome (told_by (asked_of q).kind how account)
tells_ending = grind arith

-- WHERE IT LEADS: a durable request gives its permit up
abbrev pub over_step : Request → AfterPermit → InService
over_step it b = if is_durable it.operation.kind then InService.PassPermit it.operation.target b else after_permit b

pub follows_over : (rp : Reaping) (v : Service) (later : List ℕ) (it : Request) → Follows (Place.Service (InService.Reap rp) v) (Place.Service (over_step it (back_from_reap rp later)) v)
follows_over = grind arith

pub served_over : (rp : Reaping) (v : Service) (later : List ℕ) (it : Request) → serves_at (Place.Service (over_step it (back_from_reap rp later)) v) ≡ true
served_over = grind arith

abbrev pub goes_over : OpResult → Outcome → Record → Record
goes_over given outcome r = record r { shown = reaped given (Some outcome) r.shown }

-- it has no more room than it had
over_less : (given : OpResult) (outcome : Outcome) (r : Record) → r.shown.phase ≡ RequestPhase.Landed given → (out : Bool) (socket : ℕ) → may_move out socket (goes_over given outcome r) ≤ may_move out socket r
over_less = grind (arith, moved_bytes)

renamed : (n n' : Names) (d : Driving Reply Reply) (rs : List Record) (cs : List Completion) → n'.requests ≡ n.requests → AreLanded n d rs cs → AreLanded n' d rs cs
renamed = grind (arith, landed_on)

module _ {B : Type 0} (rp : Reaping) (v : Service) (w : Worker) (s : Shared B) (sound : SoundAt (Place.Service (InService.Reap rp) v) w s) (c : Completion) (cs : List Completion) (d' : Driving Reply Reply) (how : Ended) (account : Option Account) (over : GoesOver w s d' c cs how account) where
  abbrev pub over_waiter : Waiter Reply Reply
  over_waiter = record over.h.it { in_flight = false; request = over.request }

  abbrev pub over_told : RequestOutput
  over_told = output_of over.request how account

  -- how it ended, with what is kept of its open
  abbrev pub over_outcome : Outcome
  over_outcome = as_outcome (told_by (asked_of over.h.it.request).kind how account)

  abbrev pub over_tells : Told Reply Reply
  over_tells = told_by_finish over.h.id over_waiter how account

  abbrev pub over_place : Place
  over_place = Place.Service (over_step over.h.r.shown (back_from_reap rp (map (number_told w.names.requests.items) cs))) v

  pub over_alike : IsAlike (driver_of w).wheel.start (driver_of w).wheel.tick over.h.it over.h.r.shown
  over_alike = sound.named.alike over.h.id over.h.it over.h.r over.h.live over.h.there

  pub over_plain : IsPlain over.h.r.shown
  over_plain = sound.flown.plain (number_in w.names.requests.items over.h.id) over.h.r over.h.there (live_mine w.index w.names (driver_of w) w.home.timers s.requests.items s.sleepers.items sound.named over.h.id over.h.it over.h.r over.h.live over.h.there)

  over_small : over.h.id.generation < 2 ^ 64
  over_small = grind arith

  pub over_written : waiter_at (written (driver_of w).requests over.h.id (Pending over_waiter)) over.h.id ≡ Some over_waiter
  over_written = (changes_one (driver_of w).requests over.h.id over.h.it over_waiter over.h.live).is_at

  slab_then : SlabAfter (driver_of w).requests d'.requests over.h.id over.h.it over_told
  slab_then =
      let s0 = (driver_of w).requests in
      let id = over.h.id in
      let some : IsSome (value_at s0 id) = rw (entry_of (value_at s0 id) over.h.it over.h.live) refl in
      let after = slab_after (written s0 id (Pending over_waiter)) id over_waiter how account over_small over_written in
      let held = held_written s0 id (Pending over.h.it) (Pending over_waiter) (entry_of (value_at s0 id) over.h.it over.h.live) in
      subst (λ x. SlabAfter s0 x id over.h.it over_told) (sym over.requests) (record {
        here = after.here;
        others = λ other apart. after.others other apart ∙ (Updates-write s0 id (Pending over_waiter) some).others other apart;
        pending = after.pending ∙ pending_still s0 id over.h.it over_waiter over.h.live;
        held = omega (arith, after.held, held);
        back = λ other past. (past-write s0 id (Pending over_waiter) some other).0 (after.back other past);
        slots = rw (after.slots, length-set) refl;
        past = λ other bounded past. after.past other bounded (past_written s0 id (Pending over_waiter) some other bounded past);
      })

  one_over : OneEnds w.names (driver_of w) d'.requests s.requests.items over.h.id over.h.it over.h.r (goes_over (result_in c.result) over_outcome) over_outcome over_told
  one_over = record { at = over.h.live; there = over.h.there; slab = slab_then; ends = record { same = refl }; less = over_less (result_in c.result) over_outcome over.h.r over.h.landed }

  plain_over : IsPlain (goes_over (result_in c.result) over_outcome over.h.r).shown
  plain_over = grind (arith, over_plain, fits_shown, lawful_shown, over_alike)

  landed_over : (n' : Names) → n'.requests ≡ w.names.requests → AreLanded n' d' (changed_at s.requests.items (number_in w.names.requests.items over.h.id) (goes_over (result_in c.result) over_outcome)) (operations d'.ring)
  landed_over n' same =
      let d = driver_of w in
      let rs = s.requests.items in
      let k = number_in w.names.requests.items over.h.id in
      let f = goes_over (result_in c.result) over_outcome in
      let once : is_one_of k (map (number_told w.names.requests.items) cs) ≡ false = ap (λ j. is_one_of j (map (number_told w.names.requests.items) cs)) (sym (number_landed w.names d rs c over.h)) ∙ over.once in
      renamed w.names n' d' (changed_at rs k f) (operations d'.ring) same
      (subst (λ ops. AreLanded w.names d' (changed_at rs k f) ops) (sym over.ring.landed)
      (landed_rest w.names d d' rs (changed_at rs k f) k cs over.rest once
      (λ other x r g live flies found landed apart.
      let j = number_in w.names.requests.items other in
      let differs : other ≢ over.h.id = λ e. apart (ap (number_in w.names.requests.items) (sym e)) in
      record { it' = x; r' = r; live = ap waiter_of (slab_then.others other differs) ∙ live; flies = refl; same = refl; number = refl; there = marked f rs k j r found ∙ ap (λ b. Some (mark_if f b r)) (not_same k j apart); phase = refl })))

  pub keeps_gone : (v' : Names) (left : Deferred Reply Reply) → Tells w.home.deferred left over_tells → v'.ended.items ≡ w.names.ended.items ++ number_in w.names.requests.items over.h.id ∷ [] → deque_capacity v'.ended ≡ deque_capacity w.names.ended → IsPunctual d'
      → KeepsBy (record w { place = over_place; names = record w.names { ended = v'.ended }; home = record w.home { deferred = left } }) d' w.home.timers (changed_at s.requests.items (number_in w.names.requests.items over.h.id) (goes_over (result_in c.result) over_outcome)) s.sleepers.items s
  keeps_gone v' left tells ended capacity punctual =
      let d = driver_of w in
      let q : Place = Place.Service (InService.Reap rp) v in
      let start = w.moments.start in
      let follows = follows_over rp v (map (number_told w.names.requests.items) cs) over.h.r.shown in
      let wheel : IsWheelAt s.config start (wheel_moment (served_in q) w.moments) d.wheel = sound.due.wheel in
      let wheel' : IsWheelAt s.config start (wheel_moment (served_in q) w.moments) d'.wheel = subst (λ x. IsWheelAt s.config start (wheel_moment (served_in q) w.moments) x) (sym over.wheel) (unticked_at s.config start (wheel_moment (served_in q) w.moments) d.wheel (tick_in over.h.it.state) wheel) in
      let under = subst (λ p. IsUnderWay p (user_data_of over.h.id) over.h.it.request d.ring) over.h.landed (sound.carried.carried over.h.id over.h.it over.h.r over.h.live over.h.there) in
      keeps_over w s d d' w.home.timers s.requests.items s.sleepers.items over.h.id over.h.it over.h.r (goes_over (result_in c.result) over_outcome) over_outcome over_told over_place v' left over_tells one_over (kept q w s sound (calm q refl))
      (ends_told over.h.id over_waiter how account over.h.r.shown.forwarding over_alike.near) tells
      ended capacity plain_over (λ held. ap (λ k. as_outcome (told_by k.asked.kind how account)) (sym over.kept) ∙ sym (tells_ending over.request how account))
      over.ring.size (over.ring.flying, under.0, under.1) over.ring.staged over.ring.polled (landed_over (record w.names { ended = v'.ended }) refl) over.lists (wheel'.start ∙ sym wheel.start) (wheel'.tick ∙ sym wheel.tick)
      punctual (λ h. ap (λ l. l.due) over.lists ∙ ap (without (record { 0 = over.h.id })) (sound.due.told (not_due rp v)))
      (subst (λ m. IsWheelAt s.config start m d'.wheel) (sym (follows.moment w.moments)) wheel') (subst (TurnsAlike d.wheel) (sym over.wheel) (alike_unticked d.wheel (tick_in over.h.it.state))) follows.wakes (follows.bare ∙ sym (ap is_bare_at sound.here))
