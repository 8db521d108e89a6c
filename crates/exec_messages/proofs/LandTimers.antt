-- A message of the batch says that nobody waits for a sleeper any more.
use Rattle.std.proofs.{Common.{◌≡◌, ℕ, ◌+◌, ◌-◌, ◌<◌, ◌≤◌, ◌==◌, ◌&&◌, ◌||◌, inl, not, cond, Bool, true, false, Contains, List, [], ◌∷◌, count_by, map, sum_by, Option, Some, None, refl, sym, ap, subst, ◌∙◌, arith, slice_get, slice_set, if◌then◌else◌}, lemmas.{Bool.{false≢true, eq-eqb}, List.{append-nil, map-set, Sums.get_or-le-sum_by}, Option.{get_or_from_slice_get, slice_get_within}}}
use Rattle.exec_words.specs.declared.inbox.Message.{Message}
use Rattle.exec_base.specs.{Slab.value_at, declared.task_no.TaskNo.TaskNo}
use Rattle.exec_time.specs.declared.timers.Sleeper.{Sleeper as Sleeping}
use Rattle.exec_task.specs.declared.body.Said.{Said}
use Rattle.exec_machine.specs.{declared.{event.Event.{Event, TheVariants.Apply}, state.{MailMessage.{MailMessage, TheVariants.CancelTimer}, Sleeper.Sleeper}}, Tasks.removed, Tests.is_unsent, World.sleeper_of}
use Rattle.exec_moves.specs.{declared.place.{InMail.InMail, Place.Place}, Mail.after_message, State.Desk, Told.told_of_cancel}
use Rattle.exec_parts.{specs.{declared.parts.{mail.{Reply.Reply, Subject.{Subject, Subject as subject}}, shared.Shared.Shared, sleeping.SleeperRecord.SleeperRecord, worker.Worker.Worker}, Calls.sleeper_removed, MailTakes.RemovesSleeper, Spots.Spot, View.{common_of, desk_of, message_of}}, proofs.Facts.same_Some}
use Rattle.exec_invariants.{specs.{Holding.{Box, Hands, Holder, IsForwarded, IsHolding, Mail, Nap, Thing, box_of, holder_of, is_awaited_by, mail_in, nap_of, thing_of, under_way, waiters}, Sound.{IsMineIn, SoundAt}, Whole.{hands_of, with_worker}, Works.Steps}, proofs.{FiringRemoved.{removed_desk, removed_kept}, HoldMail.is_never, HoldSleeps.nap_redone, Lined.mapped, MailApplies.{AppliedKeeps, one_less, passed_on, rest_of, split_first}, MailApplied.{applied_steps, kept_again, kept_there, touched}, Seen.sleeper_at, ServingHolds.KeepsSpare, Serving.{SparesRecords, spares_sleeper}}}
use Rattle.exec_messages.proofs.MailCancels.{box_open, in_hand_first}

-- WHAT IS TOLD, whatever is left of the batch

cancel_batch : (z : ℕ) (it : Sleeper) (d : Desk) (ms : List MailMessage) → told_of_cancel z it (record d { batch = ms }) ≡ record (told_of_cancel z it d) { batch = ms }
cancel_batch = grind arith

-- WHO IS SENT SUCH A MESSAGE

-- who waits for it is one of those that do
waits_once : (n t : ℕ) (hs : List Holder) (it : Holder) → slice_get hs t ≡ Some it → it.awaits ≡ Some (subject.Timer n) → it.over ≡ false → 0 < waiters (subject.Timer n) hs
waits_once n t hs it at awaits going =
    let weigh : Holder → ℕ = λ x. cond (not x.over && is_awaited_by (subject.Timer n) x.awaits) 1 0 in
    let part : weigh it ≤ waiters (subject.Timer n) hs = subst (λ x. weigh x ≤ sum_by weigh hs) (get_or_from_slice_get hs t it it at) (get_or-le-sum_by weigh hs t it (slice_get_within hs t it at)) in
    let one : weigh it ≡ 1 = ap (λ b. cond (not b && is_awaited_by (subject.Timer n) it.awaits) 1 0) going ∙ ap (λ o. cond (is_awaited_by (subject.Timer n) o) 1 0) awaits ∙ ap (λ b. cond b 1 0) (eq-eqb n n refl) in
    omega (arith, part, one)

over_then : (f r c : Bool) → (f || ((r || not f) || c)) ≡ true
over_then = grind arith

closed_so : (r c : Bool) → ((r || true) || c) ≡ true
closed_so true c = refl
closed_so false c = refl

module _ (h h' : Hands) (workers : ℕ) (hs : List Holder) (ts : List Thing) (naps : List Nap) (boxes : List Box) (n : ℕ) (it : SleeperRecord) (box : Box) where
  nap_dropped : slice_get naps n ≡ Some (nap_of it) → slice_get boxes it.shown.worker ≡ Some box → box.shut ≡ false → 0 < h.mail (Message.Cancel (subject.Timer n)) → ((m : Mail) → h.mail m ≡ h'.mail m + mail_in m (Message.Cancel (subject.Timer n) ∷ [])) → h'.wakes ≡ h.wakes
      → IsHolding h workers hs ts naps boxes → IsHolding h' workers hs ts (slice_set naps n (nap_of (sleeper_removed it))) boxes
  nap_dropped there at open_box some less wakes old =
      let m : Mail = Message.Cancel (subject.Timer n) in
      let z : Nap = nap_of it in
      let z' : Nap = nap_of (sleeper_removed it) in
      let over : (z'.fired || z'.removed) ≡ true = over_then it.shown.fired it.shown.removed it.closed in
      nap_redone h h' workers hs ts naps boxes n z z' (record {
        nap = there;
        worker = refl;
        task = refl;
        mail = λ x past. (let few = less x in let none = is_never x m past.cancel in omega (arith, few, none));
        made = λ x more. old.made x (let few = less x in omega (arith, few, more));
        sleeps = λ unfired kept. absurd (false≢true (sym kept ∙ ap (λ b. (it.shown.removed || not b) || it.closed) unfired ∙ closed_so it.shown.removed it.closed));
        let_go = λ b there_box unshut few.
            (let fewer = less m in
            let way : under_way h' m boxes ≤ under_way h m boxes = omega (arith, fewer) in
            omega (arith, few, way));
        woken = λ b there_box is.
            subst (λ a. IsForwarded b.shut z.forwarding a)
            (let few = less (Message.Forward (subject.Timer n)) in let none = is_never (Message.Forward (subject.Timer n)) m (λ e. absurd (cc)) in
            let same : h.mail (Message.Forward (subject.Timer n)) ≡ h'.mail (Message.Forward (subject.Timer n)) = omega (arith, few, none) in
            ap (λ a. a + sum_by (λ x. mail_in (Message.Forward (subject.Timer n)) x.messages) boxes) same) is;
        asked = λ sent. old.asked_too n z there sent;
        be = λ closed. old.let_be n z there closed;
        sent = λ sent. ((old.sent_too n z there sent).0, over);
        here = λ t o at_t awaits home.
            let a = old.asleep t o n at_t awaits in
            let is : a.0 ≡ z = same_Some a.0 z (sym a.1 ∙ there) in
            ap (λ (x : Nap). is_unsent x.forwarding) (sym is) ∙ a.2.here home;
        kept = λ t o at_t awaits going kept.
            absurd (let one = waits_once n t hs o at_t awaits going in
            let few = old.let_go n z box there at open_box in
            let way : h.mail m ≤ under_way h m boxes = omega arith in
            omega (arith, one, few, way, some));
        fewer = λ i u more. inl (ap (λ (f : ℕ → ℕ → ℕ). f i u) wakes);
        owes = λ i t more by. record { worker = by.worker; task = by.task; unpaid = by.unpaid; unsent = by.unsent; over = over };
      })
      old

module _ {B L : Type 0} (left : B → L) (spot : L → Option Said → Spot) where
  pub cancel_timer_applied : (applied : ℕ) (taken : Bool) (z : ℕ) (w w' : Worker) (s s' : Shared B) (e : Event) → SoundAt (Place.Mail (InMail.Apply applied taken)) w s → slice_get w.batch.values 0 ≡ Some (Message.Cancel (Subject.Timer z)) → e ≡ Apply (CancelTimer z)
      → RemovesSleeper z (passed_on w) (record w' { place = w.place }) s s' → w'.place ≡ after_message (applied + 1) (map message_of (rest_of w)) → Steps left spot w s e w' s'
  cancel_timer_applied applied taken z w w' s s' e sound first event r place =
      let m : Mail = Message.Cancel (Subject.Timer z) in
      let u : Worker = passed_on w in
      let v : Worker = record w' { place = w.place } in
      let it : SleeperRecord = r.it in
      let there : slice_get s.sleepers.items z ≡ Some it = r.sleeper in
      let among : Contains w.batch.values m = subst (λ ms. Contains ms m) (sym (split_first w.batch.values m first)) (0, omega arith, refl) in
      let its : IsMineIn s.config.workers w.index (Subject.Timer z) s.requests.items s.sleepers.items = sound.mine m among in
      let mine : it.shown.worker ≡ w.index = ap (λ (y : SleeperRecord). y.shown.worker) (same_Some it its.0 (sym there ∙ its.1)) ∙ its.2 in
      let seen : KeepsSpare (64 - applied) v s' = removed_kept (64 - applied) z u v s s' (kept_there applied taken w s sound) r mine in
      let desk : desk_of v ≡ told_of_cancel z it.shown (desk_of u) = removed_desk (64 - applied) z u v s s' (kept_there applied taken w s sound) r mine in
      let vw : Worker = record u { home = record u.home { timers = v.home.timers; deferred = record u.home.deferred { notes = v.home.deferred.notes } } } in
      let is_vw : v ≡ vw = r.worker in
      let q' : Place = after_message (applied + 1) (map message_of (rest_of w)) in
      let worker : w' ≡ record vw { place = q' } = ap (λ (x : Worker). record x { place = w'.place }) is_vw ∙ ap (λ y. record vw { place = y }) place in
      let s1 : Shared B = record s { requests = s'.requests; sleepers = s'.sleepers } in
      let kept : s' ≡ s1 = r.kept ∙ ap (λ (y : Shared B). record s { requests = y.requests; sleepers = s'.sleepers }) (sym r.kept) in
      let requests : s'.requests.items ≡ s.requests.items = ap (λ (y : Shared B). y.requests.items) r.kept in
      let spares : SparesRecords w.index s s1 = spares_sleeper w.index s s1 z it (sleeper_removed it) sound.gates requests r.sleepers refl there mine (record { worker = refl; forwarded = λ h. h }) refl in
      let keeps_v : KeepsSpare (64 - applied) v s1 = subst (KeepsSpare (64 - applied) v) kept seen in
      let keeps : AppliedKeeps (64 - (applied + 1)) (touched w vw) s1 = (let k = kept_again applied taken vw s1 sound.here (subst (λ x. KeepsSpare (64 - applied) x s1) is_vw keeps_v) in
      record { told = k.told; wide = k.wide; named = k.named; sized = k.sized; over = k.over; due = k.due; flown = k.flown; carried = k.carried; known = k.known; rooted = k.rooted }) in
      let wakes : v.home.deferred.notes.wakes.items ≡ w.home.deferred.notes.wakes.items = removed_wakes u v s s' r in
      let seat = sound.seated.seat in
      let at_box = ap (slice_get (map box_of s.seats.items)) mine ∙ mapped box_of s.seats.items w.index seat sound.seated.there in
      applied_steps left spot applied taken m w w' vw s s' e sound first event worker kept spares keeps
      (λ others whole.
      let x = with_worker others w in
      let xu = with_worker others (passed_on (touched w vw)) in
      subst (λ rs. IsHolding (hands_of xu) s.config.workers (map holder_of s.tasks.items) (map thing_of rs) (map nap_of s'.sleepers.items) (map box_of s.seats.items)) (sym requests)
      (subst (λ ns. IsHolding (hands_of xu) s.config.workers (map holder_of s.tasks.items) (map thing_of s.requests.items) ns (map box_of s.seats.items)) (sym (ap (map nap_of) r.sleepers ∙ map-set nap_of s.sleepers.items z (sleeper_removed it)))
      (nap_dropped (hands_of x) (hands_of xu) s.config.workers (map holder_of s.tasks.items) (map thing_of s.requests.items) (map nap_of s.sleepers.items) (map box_of s.seats.items) z it (box_of seat) (mapped nap_of s.sleepers.items z it there) at_box
      (box_open applied taken w s sound) (in_hand_first others w m first) (one_less others w m first) (ap (λ (ns : List TaskNo). λ (j : ℕ) (t : ℕ). if j == w.index then count_by (λ n. n.0 == t) ns else others.wakes j t) wakes) whole.holding)))
      (λ p vs suits.
      let cs = common_of left spot p vs s in
      let sleeper : sleeper_of cs z ≡ it.shown = sleeper_at s.sleepers.items z it there in
      let batch : List MailMessage = map message_of w.batch.values in
      record {
        desk = ap (λ (y : Worker). record (desk_of y) { batch = batch }) (sym is_vw) ∙ ap (λ (d : Desk). record d { batch = batch }) desk ∙ sym (cancel_batch z it.shown (desk_of u) batch) ∙ ap (λ (q : Sleeper). told_of_cancel z q (desk_of w)) (sym sleeper);
        own = refl;
        shows = refl;
        common =
            ap (common_of left spot p vs) (sym kept ∙ r.kept)
            ∙ ap (λ xs. record cs { sleepers = map (λ y. y.shown) xs }) r.sleepers
            ∙ ap (λ xs. record cs { sleepers = xs }) (map-set (λ y. y.shown) s.sleepers.items z (sleeper_removed it))
            ∙ ap (λ (q : Sleeper). record cs { sleepers = slice_set cs.sleepers z (removed q) }) (sym sleeper);
      })
    where
      removed_wakes : (u v : Worker) (s s' : Shared B) → (r : RemovesSleeper z u v s s') → v.home.deferred.notes.wakes.items ≡ u.home.deferred.notes.wakes.items
      removed_wakes u v s s' r = by (value_at u.home.timers r.it.id.0) refl
        where
          by : (o : Option (Sleeping Reply)) → value_at u.home.timers r.it.id.0 ≡ o → v.home.deferred.notes.wakes.items ≡ u.home.deferred.notes.wakes.items
          by None none = (r.gone none).1.wakes_added ∙ append-nil u.home.deferred.notes.wakes.items
          by (Some b) was = (r.bed b was).1.wakes_added ∙ append-nil u.home.deferred.notes.wakes.items
