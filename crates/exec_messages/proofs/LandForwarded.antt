-- A message of the batch that a task elsewhere waits for a sleeper takes effect: the step.
use Rattle.std.proofs.{Common.{◌≡◌, ℕ, ◌+◌, ◌-◌, ◌<◌, ◌≤◌, ◌==◌, inl, Bool, true, false, Contains, List, [], ◌∷◌, count_by, map, Option, Some, refl, sym, ap, subst, ◌∙◌, arith, slice_get, slice_set, if◌then◌else◌}, lemmas.{Bool.false≢true, List.map-set}}
use Rattle.exec_words.specs.declared.inbox.Message.{Message}
use Rattle.exec_base.specs.declared.task_no.TaskNo.{TaskNo}
use Rattle.exec_task.specs.declared.body.Said.{Said}
use Rattle.exec_machine.specs.{declared.{event.Event.{Event, TheVariants.Apply}, state.{Forwarding.{Forwarding, TheVariants.Applied}, MailMessage.{MailMessage, TheVariants.ForwardTimer}, Sleeper.Sleeper}}, Tests.{is_applied, is_unsent}, World.sleeper_of}
use Rattle.exec_moves.specs.{declared.place.{InMail.InMail, Place.Place}, Mail.after_message, State.Desk, Told.told_of_timer_forward}
use Rattle.exec_parts.{specs.{declared.parts.{mail.Subject.{Subject, Subject as subject}, shared.Shared.Shared, sleeping.SleeperRecord.SleeperRecord, worker.Worker.Worker}, Calls.sleeper_applied, MailTakes.TakesForwardTimer, Spots.Spot, View.{common_of, desk_of, driver_of, message_of}}, proofs.Facts.same_Some}
use Rattle.exec_invariants.{specs.{Due.IsDue, Flown.HasFlown, Holding.{Box, Hands, Holder, IsForwarded, IsHolding, Mail, Nap, Thing, box_of, holder_of, is_sent, mail_in, nap_of, thing_of, under_way}, Sound.{IsMineIn, SoundAt, served_in}, Whole.{HasWhole, hands_of, with_worker}, Works.Steps}, proofs.{HoldMail.{is_never, is_once}, HoldSleeps.nap_redone, Lined.mapped, MailApplies.{AppliedKeeps, one_less, passed_on, rest_of, split_first}, MailApplied.{applied_steps, kept_there, touched}, Seen.sleeper_at, ServingHolds.KeepsSpare, Serving.{SparesRecords, spares_sleeper}}}
use Rattle.exec_messages.proofs.{LandForwards.{forwarded_desk, forwarded_kept, forwarded_wakes}, MailCancels.{box_open, in_hand_first}}

-- WHAT IS TOLD, whatever is left of the batch
forward_batch : (z : ℕ) (d : Desk) (ms : List MailMessage) → told_of_timer_forward z (record d { batch = ms }) ≡ record (told_of_timer_forward z d) { batch = ms }
forward_batch = grind arith

-- WHO IS SENT SUCH A MESSAGE

-- it was told that, and no message more is under way
sent_before : (shut : Bool) (f : Forwarding) (told : ℕ) → shut ≡ false → 0 < told → IsForwarded shut f told → (is_sent f ≡ true) × (told ≡ 1)
sent_before = grind arith

not_applied : (f : Forwarding) → is_sent f ≡ true → (is_applied f ≡ false) × (is_unsent f ≡ false)
not_applied Forwarding.Sent h = (refl, refl)
not_applied _ h = absurd (false≢true h)

module _ (h h' : Hands) (workers : ℕ) (hs : List Holder) (ts : List Thing) (naps : List Nap) (boxes : List Box) (n : ℕ) (it : SleeperRecord) (box : Box) where
  nap_told : slice_get naps n ≡ Some (nap_of it) → slice_get boxes it.shown.worker ≡ Some box → box.shut ≡ false → 0 < h.mail (Message.Forward (subject.Timer n)) → ((m : Mail) → h.mail m ≡ h'.mail m + mail_in m (Message.Forward (subject.Timer n) ∷ [])) → h'.wakes ≡ h.wakes
      → IsHolding h workers hs ts naps boxes → IsHolding h' workers hs ts (slice_set naps n (nap_of (sleeper_applied it))) boxes
  nap_told there at open_box some less wakes old =
      let m : Mail = Message.Forward (subject.Timer n) in
      let z : Nap = nap_of it in
      let z' : Nap = nap_of (sleeper_applied it) in
      let way : 0 < under_way h m boxes = omega (arith, some) in
      let before = sent_before box.shut z.forwarding (under_way h m boxes) open_box way (old.woken n z box there at) in
      let told = not_applied z.forwarding before.0 in
      let few = less m in
      let one = is_once m in
      nap_redone h h' workers hs ts naps boxes n z z' (record {
        nap = there;
        worker = refl;
        task = refl;
        mail = λ x past. (let fewer = less x in let none = is_never x m past.forward in omega (arith, fewer, none));
        made = λ x more. old.made x (let fewer = less x in omega (arith, fewer, more));
        sleeps = λ unfired kept. (unfired, kept);
        let_go = λ b there_box unshut is.
            (let fewer = less (Message.Cancel (subject.Timer n)) in
            let way : under_way h' (Message.Cancel (subject.Timer n)) boxes ≤ under_way h (Message.Cancel (subject.Timer n)) boxes = omega (arith, fewer) in
            omega (arith, is, way));
        woken = λ b there_box is.
            let same : box ≡ b = same_Some box b (sym at ∙ there_box) in
            subst (λ (x : Box). IsForwarded x.shut Applied (under_way h' m boxes)) same
            (subst (λ s. IsForwarded s Applied (under_way h' m boxes)) (sym open_box)
            (let all = before.1 in
            let none : under_way h' m boxes ≡ 0 = omega (arith, all, few, one) in
            none));
        asked = λ sent. old.asked_too n z there told.1;
        be = λ closed. old.let_be n z there closed;
        sent = λ sent. (refl, (old.sent_too n z there sent).1);
        here = λ t o at_t awaits home.
            let a = old.asleep t o n at_t awaits in
            let is : a.0 ≡ z = same_Some a.0 z (sym a.1 ∙ there) in
            absurd (false≢true (sym told.1 ∙ ap (λ (x : Nap). is_unsent x.forwarding) (sym is) ∙ a.2.here home));
        kept = λ t o at_t awaits going kept. kept;
        fewer = λ i u more. inl (ap (λ (f : ℕ → ℕ → ℕ). f i u) wakes);
        owes = λ i t more by. record { worker = by.worker; task = by.task; unpaid = by.unpaid; unsent = by.unsent; over = by.over };
      })
      old

module _ {B : Type 0} where
  -- it was told to the worker, and not applied
  pub timer_unapplied : (applied : ℕ) (taken : Bool) (z : ℕ) (w : Worker) (s : Shared B) → SoundAt (Place.Mail (InMail.Apply applied taken)) w s → HasWhole w s → slice_get w.batch.values 0 ≡ Some (Message.Forward (Subject.Timer z)) → (it : SleeperRecord) → slice_get s.sleepers.items z ≡ Some it → it.shown.worker ≡ w.index
      → is_applied it.shown.forwarding ≡ false
  timer_unapplied applied taken z w s sound has first it there mine =
      let m : Mail = Message.Forward (Subject.Timer z) in
      let seat = sound.seated.seat in
      let at_box = ap (slice_get (map box_of s.seats.items)) mine ∙ mapped box_of s.seats.items w.index seat sound.seated.there in
      let some = in_hand_first has.others w m first in
      let fact = has.whole.holding.woken z (nap_of it) (box_of seat) (mapped nap_of s.sleepers.items z it there) at_box in
      let way : 0 < under_way (hands_of (with_worker has.others w)) m (map box_of s.seats.items) = omega (arith, some) in
      (not_applied it.shown.forwarding (sent_before (box_of seat).shut it.shown.forwarding (under_way (hands_of (with_worker has.others w)) m (map box_of s.seats.items)) (box_open applied taken w s sound) way fact).0).0

module _ {B L : Type 0} (left : B → L) (spot : L → Option Said → Spot) where
  pub timer_forwarded : (applied : ℕ) (taken : Bool) (z : ℕ) (w w' : Worker) (s s' : Shared B) (e : Event) → SoundAt (Place.Mail (InMail.Apply applied taken)) w s → HasWhole w s → slice_get w.batch.values 0 ≡ Some (Message.Forward (Subject.Timer z)) → e ≡ Apply (ForwardTimer z)
      → TakesForwardTimer z (passed_on w) (record w' { place = w.place }) s s' → w'.place ≡ after_message (applied + 1) (map message_of (rest_of w)) → Steps left spot w s e w' s'
  timer_forwarded applied taken z w w' s s' e sound has first event r place =
      let m : Mail = Message.Forward (Subject.Timer z) in
      let u : Worker = passed_on w in
      let v : Worker = record w' { place = w.place } in
      let it : SleeperRecord = r.it in
      let now : SleeperRecord = sleeper_applied it in
      let there : slice_get s.sleepers.items z ≡ Some it = r.sleeper in
      let among : Contains w.batch.values m = subst (λ ms. Contains ms m) (sym (split_first w.batch.values m first)) (0, omega arith, refl) in
      let its : IsMineIn s.config.workers w.index (Subject.Timer z) s.requests.items s.sleepers.items = sound.mine m among in
      let mine : it.shown.worker ≡ w.index = ap (λ (y : SleeperRecord). y.shown.worker) (same_Some it its.0 (sym there ∙ its.1)) ∙ its.2 in
      let free = timer_unapplied applied taken z w s sound has first it there mine in
      let spare : 64 - applied ≡ (64 - (applied + 1)) + 1 = (let few = sound.aims in omega (arith, few)) in
      let have : KeepsSpare ((64 - (applied + 1)) + 1) u s = subst (λ k. KeepsSpare k u s) spare (kept_there applied taken w s sound) in
      let seen : KeepsSpare (64 - (applied + 1)) v s' = forwarded_kept (64 - (applied + 1)) z u v s s' have r mine free in
      let desk : desk_of v ≡ told_of_timer_forward z (desk_of u) = forwarded_desk (64 - (applied + 1)) z u v s s' have r mine free in
      let wakes : v.home.deferred.notes.wakes.items ≡ w.home.deferred.notes.wakes.items = forwarded_wakes (64 - (applied + 1)) z u v s s' have r mine free in
      let vw : Worker = record u { home = record u.home { timers = v.home.timers; deferred = record u.home.deferred { notes = v.home.deferred.notes } } } in
      let is_vw : v ≡ vw = r.forwards.worker in
      let q' : Place = after_message (applied + 1) (map message_of (rest_of w)) in
      let worker : w' ≡ record vw { place = q' } = ap (λ (x : Worker). record x { place = w'.place }) is_vw ∙ ap (λ y. record vw { place = y }) place in
      let s1 : Shared B = record s { requests = s'.requests; sleepers = s'.sleepers } in
      let kept : s' ≡ s1 = r.kept ∙ ap (λ (y : Shared B). record s { requests = y.requests; sleepers = s'.sleepers }) (sym r.kept) in
      let requests : s'.requests.items ≡ s.requests.items = ap (λ (y : Shared B). y.requests.items) r.kept in
      let sleepers : s'.sleepers.items ≡ slice_set s.sleepers.items z now = r.sleepers ∙ ap (slice_set s.sleepers.items z) r.forwards.is in
      let spares : SparesRecords w.index s s1 = spares_sleeper w.index s s1 z it now sound.gates requests sleepers refl there mine (record { worker = refl; forwarded = λ h. refl }) refl in
      let keeps_v : KeepsSpare (64 - (applied + 1)) vw s1 = subst (λ x. KeepsSpare (64 - (applied + 1)) x s1) is_vw (subst (KeepsSpare (64 - (applied + 1)) v) kept seen) in
      let due = subst (λ p. IsDue (served_in p) vw.home.closing vw.index vw.moments s1.config vw.names (driver_of vw) vw.home.timers s1.requests.items s1.sleepers.items) sound.here keeps_v.due in
      let flown = subst (λ p. HasFlown (served_in p) vw.index vw.names (driver_of vw) s1.requests.items) sound.here keeps_v.flown in
      let keeps : AppliedKeeps (64 - (applied + 1)) (touched w vw) s1 =
      record { told = keeps_v.told; wide = keeps_v.wide; named = keeps_v.named; sized = keeps_v.sized; over = keeps_v.over; due = due; flown = flown; carried = keeps_v.carried; known = keeps_v.known; rooted = keeps_v.rooted } in
      let seat = sound.seated.seat in
      let at_box = ap (slice_get (map box_of s.seats.items)) mine ∙ mapped box_of s.seats.items w.index seat sound.seated.there in
      applied_steps left spot applied taken m w w' vw s s' e sound first event worker kept spares keeps
      (λ others whole.
      let x = with_worker others w in
      let xu = with_worker others (passed_on (touched w vw)) in
      subst (λ rs. IsHolding (hands_of xu) s.config.workers (map holder_of s.tasks.items) (map thing_of rs) (map nap_of s'.sleepers.items) (map box_of s.seats.items)) (sym requests)
      (subst (λ ns. IsHolding (hands_of xu) s.config.workers (map holder_of s.tasks.items) (map thing_of s.requests.items) ns (map box_of s.seats.items)) (sym (ap (map nap_of) sleepers ∙ map-set nap_of s.sleepers.items z now))
      (nap_told (hands_of x) (hands_of xu) s.config.workers (map holder_of s.tasks.items) (map thing_of s.requests.items) (map nap_of s.sleepers.items) (map box_of s.seats.items) z it (box_of seat) (mapped nap_of s.sleepers.items z it there) at_box
      (box_open applied taken w s sound) (in_hand_first others w m first) (one_less others w m first) (ap (λ (ns : List TaskNo). λ (j : ℕ) (t : ℕ). if j == w.index then count_by (λ n. n.0 == t) ns else others.wakes j t) wakes) whole.holding)))
      (λ p vs suits.
      let cs = common_of left spot p vs s in
      let sleeper : sleeper_of cs z ≡ it.shown = sleeper_at s.sleepers.items z it there in
      let batch : List MailMessage = map message_of w.batch.values in
      record {
        desk = ap (λ (y : Worker). record (desk_of y) { batch = batch }) (sym is_vw) ∙ ap (λ (d : Desk). record d { batch = batch }) desk ∙ sym (forward_batch z (desk_of u) batch);
        own = refl;
        shows = refl;
        common =
            ap (common_of left spot p vs) (sym kept ∙ r.kept)
            ∙ ap (λ xs. record cs { sleepers = map (λ y. y.shown) xs }) sleepers
            ∙ ap (λ xs. record cs { sleepers = xs }) (map-set (λ y. y.shown) s.sleepers.items z now)
            ∙ ap (λ (q : Sleeper). record cs { sleepers = slice_set cs.sleepers z (record q { forwarding = Applied }) }) (sym sleeper);
      })
