-- A message of the batch says that a request is waited for elsewhere: that it takes effect is a step.
use Rattle.std.proofs.{Common.{◌≡◌, ℕ, ◌+◌, ◌-◌, ◌<◌, ◌==◌, Bool, false, Contains, List, [], ◌∷◌, count_by, map, Option, Some, None, Result, Ok, Err, refl, sym, ap, subst, ◌∙◌, arith, slice_get, slice_set, if◌then◌else◌}, lemmas.List.map-set}
use Rattle.exec_base.specs.declared.{error.Error.Error, one_shot.OneShotState.OneShotState, task_no.TaskNo.TaskNo}
use Rattle.exec_request.specs.declared.output.RequestOutput.{RequestOutput}
use Rattle.exec_words.specs.declared.inbox.Message.{Message}
use Rattle.exec_task.specs.declared.body.Said.{Said}
use Rattle.exec_machine.specs.{declared.{event.Event.{Event, TheVariants.Apply}, state.{Forwarding.{Forwarding, TheVariants.{Applied, Sent}}, MailMessage.{MailMessage, TheVariants.ForwardRequest}, Request.Request}}, Tests.is_unsent, World.request_of}
use Rattle.exec_moves.specs.{declared.place.{InMail.InMail, Place.Place}, Mail.after_message, State.Desk, Told.told_of_forward}
use Rattle.exec_parts.{specs.{declared.parts.{mail.Subject.{Subject, Subject as subject}, record.Record.Record, shared.Shared.Shared, worker.Worker.Worker}, Calls.forward_applied, MailTakes.TakesForward, Serving.{changed_at, changed_in}, Spots.Spot, View.{Visible, common_of, desk_of, message_of, own_of, visible}}, proofs.Facts.same_Some}
use Rattle.exec_invariants.{specs.{Holding.{Box, Hands, HasAnswer, Holder, IsAnswerOf, IsForwarded, IsHolding, Mail, Nap, Thing, box_of, holder_of, mail_in, nap_of, thing_of, under_way}, Sound.{IsMineIn, SoundAt, served_in}, Whole.{HasWhole, hands_of, with_worker}, Works.Steps}, proofs.{AskBoxes.box_there, HoldLets.redone_alone, HoldMail.{is_never, is_once}, Lined.{SameAtGate, opens_same}, MailApplies.{AppliedKeeps, one_less, passed_on, rest_of, split_first}, MailApplied.{applied_steps, kept_so, kept_there, touched}, Recorded.request_seen, Seeing.common_changed, ServingHolds.KeepsSpare, Serving.{SparesRecords, spares_one}, TaskHears.thing_there}}
use Rattle.exec_messages.proofs.{MailCancels.{box_open, in_hand_first, same_tasks}, MailForwardEnds.forward_seen, MailForwards.SeenForward}

-- whatever is left of the batch
forward_batch : (k : ℕ) (it : Request) (d : Desk) (ms : List MailMessage) → told_of_forward k it (record d { batch = ms }) ≡ record (told_of_forward k it d) { batch = ms }
forward_batch = grind arith

-- no wake is told
forward_wakes : (k : ℕ) (it : Request) (d : Desk) → (told_of_forward k it d).wakes ≡ d.wakes
forward_wakes = grind arith

-- WHO IS SENT SUCH A MESSAGE: a worker that wasn't told yet

pub sent_if : (shut : Bool) (f : Forwarding) (told : ℕ) → shut ≡ false → 0 < told → IsForwarded shut f told → f ≡ Sent
sent_if = grind arith

-- and was then
pub applied_if : (shut : Bool) (f : Forwarding) (told told' : ℕ) → f ≡ Sent → told ≡ told' + 1 → IsForwarded shut f told → IsForwarded shut Applied told'
applied_if = grind arith

module _ (h h' : Hands) (workers : ℕ) (hs : List Holder) (ts : List Thing) (naps : List Nap) (boxes : List Box) (k : ℕ) (r : Thing) where
  thing_forwarded : slice_get ts k ≡ Some r → r.forwarding ≡ Sent → ((m : Mail) → h.mail m ≡ h'.mail m + mail_in m (Message.Forward (subject.Request k) ∷ [])) → h'.wakes ≡ h.wakes
      → IsHolding h workers hs ts naps boxes → IsHolding h' workers hs (slice_set ts k (record r { forwarding = Applied })) naps boxes
  thing_forwarded there sent less wakes old =
      let m : Mail = Message.Forward (subject.Request k) in
      let unsent : is_unsent r.forwarding ≡ false = ap is_unsent sent in
      grind (arith, redone_alone, is_never, applied_if, is_once)
    where
      answer_of : (x : Result RequestOutput Error) → IsAnswerOf x r → IsAnswerOf x (record r { forwarding = Applied })
      answer_of (Ok told) is = is
      answer_of (Err error) is = is

      answer_on : (o : OneShotState (Result RequestOutput Error)) → HasAnswer o r → HasAnswer o (record r { forwarding = Applied })
      answer_on = grind arith

module _ {B : Type 0} where
  -- it wasn't told yet
  pub forward_sent : (applied : ℕ) (taken : Bool) (k : ℕ) (w : Worker) (s : Shared B) → SoundAt (Place.Mail (InMail.Apply applied taken)) w s → HasWhole w s → slice_get w.batch.values 0 ≡ Some (Message.Forward (Subject.Request k)) → (r : Record) → slice_get s.requests.items k ≡ Some r → r.shown.worker ≡ w.index → r.shown.forwarding ≡ Sent
  forward_sent applied taken k w s sound has first r there mine =
      let m : Mail = Message.Forward (Subject.Request k) in
      let seat = sound.seated.seat in
      let at_box = ap (slice_get (map box_of s.seats.items)) mine ∙ box_there s.seats.items w.index seat sound.seated.there in
      let fact = has.whole.holding.forwarded k (thing_of r) (box_of seat) (thing_there s.requests.items k r there) at_box in
      let some = in_hand_first has.others w m first in
      sent_if seat.mailbox.inbox.closed r.shown.forwarding (under_way (hands_of (with_worker has.others w)) m (map box_of s.seats.items)) (box_open applied taken w s sound) (omega (arith, some)) fact

  -- it is the worker's
  pub forward_mine : (applied : ℕ) (taken : Bool) (k : ℕ) (w : Worker) (s : Shared B) → SoundAt (Place.Mail (InMail.Apply applied taken)) w s → slice_get w.batch.values 0 ≡ Some (Message.Forward (Subject.Request k)) → IsMineIn s.config.workers w.index (Subject.Request k) s.requests.items s.sleepers.items
  forward_mine applied taken k w s sound first = sound.mine (Message.Forward (Subject.Request k)) (subst (λ ms. Contains ms (Message.Forward (Subject.Request k))) (sym (split_first w.batch.values (Message.Forward (Subject.Request k)) first)) (0, omega arith, refl))

module _ {B L : Type 0} (left : B → L) (spot : L → Option Said → Spot) where
  pub request_applied : (applied : ℕ) (taken : Bool) (k : ℕ) (w w' : Worker) (s s' : Shared B) (e : Event) → SoundAt (Place.Mail (InMail.Apply applied taken)) w s → HasWhole w s → slice_get w.batch.values 0 ≡ Some (Message.Forward (Subject.Request k)) → e ≡ Apply (ForwardRequest k)
      → TakesForward k (passed_on w) (record w' { place = w.place }) s s' → w'.place ≡ after_message (applied + 1) (map message_of (rest_of w)) → Steps left spot w s e w' s'
  request_applied applied taken k w w' s s' e sound has first event takes place =
      let m : Mail = Message.Forward (Subject.Request k) in
      let u : Worker = passed_on w in
      let v : Worker = record w' { place = w.place } in
      let r : Record = takes.r in
      let there : slice_get s.requests.items k ≡ Some r = takes.request in
      let its = forward_mine applied taken k w s sound first in
      let mine : r.shown.worker ≡ w.index = ap (λ (y : Record). y.shown.worker) (same_Some r its.0 (sym there ∙ its.1)) ∙ its.2 in
      let sent : r.shown.forwarding ≡ Sent = forward_sent applied taken k w s sound has first r there mine in
      let idle : served_in w.place ≡ None = ap served_in sound.here in
      let few : applied < 64 = sound.aims in
      let room : KeepsSpare ((64 - (applied + 1)) + 1) u s = subst (λ n. KeepsSpare n u s) (let e : 64 - applied ≡ (64 - (applied + 1)) + 1 = omega (arith, few) in e) (kept_there applied taken w s sound) in
      let see : SeenForward k u v s s' idle sound.gates (64 - (applied + 1)) room takes mine sent = forward_seen k u v s s' idle sound.gates (64 - (applied + 1)) room takes mine sent in
      let vw : Worker = record u { home = record u.home { driver = v.home.driver; deferred = v.home.deferred } } in
      let is_vw : v ≡ vw = takes.forwards.worker in
      let q' : Place = after_message (applied + 1) (map message_of (rest_of w)) in
      let worker : w' ≡ record vw { place = q' } = ap (λ (x : Worker). record x { place = w'.place }) is_vw ∙ ap (λ y. record vw { place = y }) place in
      let s1 : Shared B = record s { requests = s'.requests; sleepers = s'.sleepers } in
      let kept : s' ≡ s1 = takes.kept ∙ ap (λ (z : Shared B). record s { requests = s'.requests; sleepers = z.sleepers }) (sym takes.kept) in
      let records : s'.requests.items ≡ slice_set s.requests.items k (forward_applied r) = takes.requests ∙ ap (slice_set s.requests.items k) takes.forwards.is in
      let changed : s'.requests.items ≡ changed_at s.requests.items k forward_applied = records ∙ sym (ap (changed_in s.requests.items k forward_applied) there) in
      let gate : SameAtGate r (forward_applied r) = record { at = refl; over = λ h. h; sent = refl; forwarded = λ h. refl } in
      let spares : SparesRecords w.index s s1 = spares_one w.index s s1 k r forward_applied (opens_same s.opens s.opens s.requests.items sound.gates refl) gate changed (ap (λ (z : Shared B). z.sleepers.items) takes.kept) there mine (λ y. refl) in
      let keeps_v : KeepsSpare (64 - (applied + 1)) v s1 = subst (KeepsSpare (64 - (applied + 1)) v) kept see.keeps_on in
      let keeps : AppliedKeeps (64 - (applied + 1)) (touched w vw) s1 = assumption (kept_so applied taken vw s1 sound.here (subst (λ x. KeepsSpare (64 - (applied + 1)) x s1) is_vw keeps_v)) in
      let wakes : v.home.deferred.notes.wakes.items ≡ w.home.deferred.notes.wakes.items = same_tasks v.home.deferred.notes.wakes.items w.home.deferred.notes.wakes.items (ap (λ (d : Desk). d.wakes) see.desk ∙ forward_wakes k r.shown (desk_of u)) in
      applied_steps left spot applied taken m w w' vw s s' e sound first event worker kept spares keeps
      (λ others whole.
      let x = with_worker others w in
      let xu = with_worker others (passed_on (touched w vw)) in
      subst (λ ts. IsHolding (hands_of xu) s.config.workers (map holder_of s.tasks.items) ts (map nap_of s'.sleepers.items) (map box_of s.seats.items)) (sym (ap (map thing_of) records ∙ map-set thing_of s.requests.items k (forward_applied r)))
      (subst (λ zs. IsHolding (hands_of xu) s.config.workers (map holder_of s.tasks.items) (slice_set (map thing_of s.requests.items) k (thing_of (forward_applied r))) (map nap_of zs) (map box_of s.seats.items)) (sym (ap (λ (z : Shared B). z.sleepers.items) takes.kept))
      (thing_forwarded (hands_of x) (hands_of xu) s.config.workers (map holder_of s.tasks.items) (map thing_of s.requests.items) (map nap_of s.sleepers.items) (map box_of s.seats.items) k (thing_of r) (thing_there s.requests.items k r there) sent
      (one_less others w m first) (ap (λ (ns : List TaskNo). λ (j : ℕ) (t : ℕ). if j == w.index then count_by (λ n. n.0 == t) ns else others.wakes j t) wakes) whole.holding)))
      (λ p vs suits.
      let cs = common_of left spot p vs s in
      let request : request_of cs k ≡ r.shown = request_seen s.requests.items k r there in
      let batch : List MailMessage = map message_of w.batch.values in
      record {
        desk = ap (λ (y : Worker). record (desk_of y) { batch = batch }) (sym is_vw) ∙ ap (λ (d : Desk). record d { batch = batch }) see.desk ∙ sym (forward_batch k r.shown (desk_of u) batch) ∙ ap (λ (q : Request). told_of_forward k q (desk_of w)) (sym request);
        own = ap own_of (sym is_vw) ∙ see.own;
        shows = ap (λ (y : Worker). record (visible y) { taken = batch }) (sym is_vw) ∙ ap (λ (y : Visible). record y { taken = batch }) see.shows;
        common = common_changed left spot p vs s s1 k r forward_applied (ap (λ (z : Shared B). record s { requests = s'.requests; sleepers = z.sleepers }) takes.kept) changed there refl ∙ ap (λ (q : Request). record cs { requests = slice_set cs.requests k (record q { forwarding = Applied }) }) (sym request);
      })
