-- WHAT A TASK'S ACT NEEDS of the newest request that it holds: one of its worker's can be taken, awaited or let go of, and another's worker
-- can be asked and told.
use Rattle.exec_invariants.{specs.{HoldPlaces.spare_at, Holding.{awaited_in, holder_of, thing_of}, Rooted.IsNear, Sound.SoundAt, Names.tellers, Whole.HasWhole}, proofs.{Words.{◌≡◌, ℕ, ◌+◌, ◌-◌, ◌<◌, ◌≤◌, true, false, cond, length, map, Option, Some, None, refl, sym, ap, subst, ◌∙◌, arith, slice_get, false≢true, length-map, slice_get_within, value_at, Id, Live, counts_pending, is_held_by, is_local, is_observed_here, pending_count, waiter_at, Observer, Pending, Waiter, entry_of, request_at, Sight, Act, Said, Forwarding, MailMessage, CancelRequest, ForwardRequest, Request, Waiting, ends_by_drop, is_applied, is_resolved, is_unsent, InPoll, Place, Reply, Subject, Record, Shared, TaskSlot, Worker, HasNewest, MayLetGo, OfNewest, newest_of, MaySend, MadeAct, number_in, numbers_held, driver_of, same_Some, set_there, true_from_ne_false}, Here.{IsHere, polled_here}, HoldMail.sum_least, HoldWaits.held_number, Resolving.places_fewer, Slotted.live_at, TaskGot.may_take_own, TaskTakes.holder_there, TaskWants.{HoldsNewest, may_cancel, may_forward, newest_is, wants_from}, TaskGets.unsent_unapplied}}

-- what ends by a drop isn't over
pub ends_open : (q : Request) → ends_by_drop q ≡ true → is_resolved q.phase ≡ false
ends_open = grind arith

local_by : (o : Observer Reply Reply) (f : Forwarding) → is_held_by o ≡ true → IsNear o f → is_applied f ≡ false → is_local o ≡ true
local_by = grind arith

-- a request of the worker that isn't over stands at its driver
pub record StillPends (k : ℕ) (r : Record) (w : Worker) : Type 0 where
  pub it : Waiter Reply Reply
  pub live : waiter_at (driver_of w).requests r.id.0 ≡ Some it
  pub number : number_in w.names.requests.items r.id.0 ≡ k

module _ {B : Type 0} where
  pub still_pends : (q : Place) (k : ℕ) (w : Worker) (s : Shared B) (r : Record) → SoundAt q w s → slice_get s.requests.items k ≡ Some r → r.shown.worker ≡ w.index → is_resolved r.shown.phase ≡ false → StillPends k r w
  still_pends q k w s r sound at_k mine going = by (waiter_at (driver_of w).requests r.id.0) refl
    where
      by : (o : Option (Waiter Reply Reply)) → waiter_at (driver_of w).requests r.id.0 ≡ o → StillPends k r w
      by None none = absurd (false≢true (sym going ∙ sound.named.over k r at_k mine none))
      by (Some it) live = record { it = it; live = live; number = (sound.due.timed k r at_k mine).named going }

  some_pending : (q : Place) (w : Worker) (s : Shared B) (id : Id) (it : Waiter Reply Reply) → SoundAt q w s → waiter_at (driver_of w).requests id ≡ Some it → 0 < pending_count (driver_of w).requests
  some_pending q w s id it sound live =
      let slot = live_at (driver_of w).requests id (Pending it) (entry_of (value_at (driver_of w).requests id) it live) in
      omega (arith, sum_least (λ o. cond (counts_pending o) 1 0) (driver_of w).requests.slots id.index (Live id.generation (Pending it)) slot)

  pub may_let : (q : Place) (k : ℕ) (w : Worker) (s s1 : Shared B) (r : Record) → SoundAt q w s → slice_get s.requests.items k ≡ Some r → r.shown.worker ≡ w.index → s1 ≡ record s { tasks = s1.tasks } → 2 ≤ tellers (driver_of w).requests w.home.timers + spare_at q → MayLetGo k w s1
  may_let q k w s s1 r sound at_k mine kept room =
      let same : s1.requests.items ≡ s.requests.items = ap (λ (x : Shared B). x.requests.items) kept in
      record {
        known = subst (λ xs. k < length xs) (sym same) (slice_get_within s.requests.items k r at_k);
        room = (places_fewer room sound.told).room;
        ending = λ x found ends.
            let is : r ≡ x = same_Some r x (sym at_k ∙ sym (ap (λ xs. slice_get xs k) same) ∙ found) in
            let pends = still_pends q k w s r sound at_k mine (ap (λ (y : Record). is_resolved y.shown.phase) is ∙ ends_open x.shown ends) in
            omega (arith, some_pending q w s r.id.0 pends.it sound pends.live, sound.over.counted, sound.flown.ending);
      }

  waits_here : (q : Place) (k : ℕ) (w : Worker) (s : Shared B) (r : Record) → SoundAt q w s → slice_get s.requests.items k ≡ Some r → r.shown.worker ≡ w.index → r.shown.observed ≡ true → is_unsent r.shown.forwarding ≡ true → is_resolved r.shown.phase ≡ false → is_observed_here (request_at (driver_of w) r.id) ≡ true
  waits_here q k w s r sound at_k mine observed unsent going =
      let pends = still_pends q k w s r sound at_k mine going in
      let a = sound.named.alike r.id.0 pends.it r pends.live (ap (slice_get s.requests.items) pends.number ∙ at_k) in
      ap is_observed_here pends.live ∙ local_by pends.it.observer r.shown.forwarding (sym a.observed ∙ observed) a.near (unsent_unapplied r.shown.forwarding unsent)

  -- what a task holds that waits for nothing was told to nobody
  pub newest_unsent : (t k : ℕ) (w : Worker) (s : Shared B) (r : Record) → HasWhole w s → (at : IsHere InPoll.Act t w s) → newest_of at.slot ≡ Some k → slice_get s.requests.items k ≡ Some r → is_unsent r.shown.forwarding ≡ true
  newest_unsent t k w s r has at newest at_k =
      let none_some : None ≡ Some (Subject.Request k) → ⊥ = λ h. absurd (cc) in
      let none_awaited : (u : Waiting) → u ≡ Waiting.Nothing → awaited_in u ≡ Some (Subject.Request k) → ⊥ = λ u is some. absurd (none_some (sym (ap awaited_in is) ∙ some)) in
      true_from_ne_false (is_unsent r.shown.forwarding) (λ sent. none_awaited at.slot.waiting at.waits ((newest_is InPoll.Act t k w s r has at newest at_k).awaited sent))

  -- it is there
  pub newest_known : (t k : ℕ) (w : Worker) (s : Shared B) (slot : TaskSlot B) → HasWhole w s → slice_get s.tasks.items t ≡ Some slot → newest_of slot ≡ Some k → k < length s.requests.items
  newest_known t k w s slot has at_slot newest =
      let one = held_number slot.held.items (length (numbers_held slot.held.items) - 1) k newest in
      let kept = has.whole.holding.holds t (holder_of slot) (length (numbers_held slot.held.items) - 1) one.0 (holder_there s.tasks.items t slot at_slot) one.1 in
      subst (λ n. k < n) (length-map s.requests.items thing_of) (slice_get_within (map thing_of s.requests.items) k kept.0 (ap (slice_get (map thing_of s.requests.items)) (sym one.2) ∙ kept.1))

pub newest_acted : {B L : Type 0} (left : B → L) (gives : L → Option Sight → Said → Act B → L → Option Sight → Type 0) (t : ℕ) (w : Worker) (s s1 : Shared B) (a : Act B) → SoundAt (Place.Poll t InPoll.Act) w s → HasWhole w s → MadeAct left gives t w.moments.sampled s s1 a → OfNewest t s1 (λ k. HasNewest t k w s1)
newest_acted {B} left gives t w s s1 a sound has m slot at_task k newest =
    let seated : (j : ℕ) (m : MailMessage) → s1 ≡ record s { tasks = s1.tasks } → MaySend j m s → MaySend j m s1 = λ j m kept may. subst (λ (x : Shared B). MaySend j m x) (sym kept) (record { there = may.there; place = may.place }) in
    let q : Place = Place.Poll t InPoll.Act in
    let at : IsHere InPoll.Act t w s = polled_here InPoll.Act t w s sound refl in
    let found : slice_get s1.tasks.items t ≡ Some m.slot' = ap (λ ts. slice_get ts t) m.tasks ∙ set_there s.tasks.items t m.slot' m.slot m.there in
    let same : slot ≡ record m.slot { body = Some m.acts.body'; told = None } = same_Some slot m.slot' (sym at_task ∙ found) ∙ m.acts.slot in
    let is : m.slot ≡ at.slot = same_Some m.slot at.slot (sym m.there ∙ at.there) in
    let newest_at : newest_of at.slot ≡ Some k = ap newest_of (sym is) ∙ ap newest_of (sym same) ∙ newest in
    let same_requests : s1.requests.items ≡ s.requests.items = ap (λ (x : Shared B). x.requests.items) m.kept in
    let within : length (numbers_held at.slot.held.items) - 1 < length (numbers_held at.slot.held.items) = slice_get_within (numbers_held at.slot.held.items) (length (numbers_held at.slot.held.items) - 1) k newest_at in
    let back : (r : Record) → slice_get s1.requests.items k ≡ Some r → slice_get s.requests.items k ≡ Some r = λ r there. ap (λ xs. slice_get xs k) (sym same_requests) ∙ there in
    let held : (r : Record) → slice_get s.requests.items k ≡ Some r → HoldsNewest t k s at.slot r = λ r there. newest_is InPoll.Act t k w s r has at newest_at there in
    let unsent : (r : Record) → slice_get s.requests.items k ≡ Some r → is_unsent r.shown.forwarding ≡ true = λ r there. newest_unsent t k w s r has at newest_at there in
    record {
      there = slice_get_within s1.tasks.items t m.slot' found;
      holds = λ o there. subst (λ (x : TaskSlot B). 0 < length (numbers_held x.held.items)) (sym (ap (λ (x : TaskSlot B). record x { body = Some m.acts.body'; told = None }) is) ∙ sym same ∙ same_Some slot o (sym at_task ∙ there)) (omega (arith, within));
      number = λ o there. ap (λ (x : TaskSlot B). x.cell.number) (sym (same_Some slot o (sym at_task ∙ there)) ∙ same) ∙ ap (λ (x : TaskSlot B). x.cell.number) is ∙ at.number;
      known = subst (λ xs. k < length xs) (sym same_requests) (newest_known t k w s at.slot has at.there newest_at);
      may = λ r there mine. may_let q k w s s1 r sound (back r there) mine m.kept (omega arith);
      ready = λ r there mine over. (may_take_own InPoll.Act t k w s r sound has at newest_at (back r there) (unsent r (back r there)) mine over).ready r (back r there);
      waits = λ r there mine going. waits_here q k w s r sound (back r there) mine (held r (back r there)).observed (unsent r (back r there)) going;
      asks = λ r there other. seated r.shown.worker (ForwardRequest k) m.kept (may_forward InPoll.Act t k w s at.slot r has (wants_from InPoll.Act t k w s r sound has at newest_at (back r there) other) (back r there) (unsent r (back r there)));
      tells = λ r there other. seated r.shown.worker (CancelRequest k) m.kept (may_cancel InPoll.Act t k w s at.slot r has (wants_from InPoll.Act t k w s r sound has at newest_at (back r there) other) (back r there));
    }
