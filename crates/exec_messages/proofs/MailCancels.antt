-- A message of the batch says that nobody holds a request any more.
use Rattle.std.proofs.{Common.{◌≡◌, ℕ, ◌+◌, ◌-◌, ◌<◌, ◌==◌, Bool, true, false, Contains, List, [], ◌∷◌, count_by, map, Option, Some, None, is_some, Result, Ok, Err, refl, sym, ap, subst, ◌∙◌, arith, slice_get, slice_set, if◌then◌else◌}, lemmas.List.map-set}
use Rattle.exec_base.specs.declared.{error.Error.Error, one_shot.OneShotState.OneShotState, task_no.TaskNo.TaskNo}
use Rattle.exec_request.specs.declared.output.RequestOutput.{RequestOutput}
use Rattle.exec_words.specs.declared.inbox.Message.{Message}
use Rattle.exec_task.specs.declared.body.Said.{Said}
use Rattle.exec_machine.specs.{declared.{event.Event.{Event, TheVariants.Apply}, state.{MailMessage.{MailMessage, TheVariants.CancelRequest}, Request.Request}}, Requests.dropped, World.request_of}
use Rattle.exec_moves.specs.{declared.place.{InMail.InMail, Place.Place}, Mail.after_message, State.Desk, Told.told_of_drop}
use Rattle.exec_parts.{specs.{declared.parts.{mail.Subject.{Subject, Subject as subject}, record.Record.Record, shared.Shared.Shared, worker.Worker.Worker}, Awaits.{LetsGo, drops}, Serving.{changed_at, changed_in}, Spots.Spot, View.{Visible, common_of, desk_of, message_of, own_of, visible}}, proofs.Facts.same_Some}
use Rattle.exec_invariants.{specs.{Holding.{Box, Hands, HasAnswer, Holder, IsAnswerOf, IsHeldBy, IsHolding, Mail, Nap, Thing, box_of, holder_of, holdings, mail_in, nap_of, thing_of, under_way}, Sound.{IsMineIn, SoundAt, served_in}, Whole.{HasWhole, Profile, hands_of, with_worker}, Works.Steps}, proofs.{AskBoxes.box_there, HoldLets.redone_alone, HoldMail.{is_never, is_once}, LetShown.{SeenLet, let_seen}, Lined.opens_same, MailApplies.{AppliedKeeps, one_less, passed_on, rest_of, split_first}, MailApplied.{applied_steps, kept_again, kept_there, touched}, Recorded.request_seen, Seeing.common_changed, ServingHolds.KeepsSpare, Serving.{SparesRecords, spares_one}, TaskHears.thing_there, TaskOverFold.{dropped_at_gate, dropped_name, dropped_thing}, TaskOverHolds.LetsThing}}

-- WHAT IS TOLD, whatever is left of the batch

told_batch : (k : ℕ) (it : Request) (d : Desk) (ms : List MailMessage) → told_of_drop k it (record d { batch = ms }) ≡ record (told_of_drop k it d) { batch = ms }
told_batch = grind arith

-- no wake is
told_wakes : (k : ℕ) (it : Request) (d : Desk) → (told_of_drop k it d).wakes ≡ d.wakes
told_wakes = grind arith

pub same_tasks : (xs ys : List TaskNo) → map (λ (t : TaskNo). t.0) xs ≡ map (λ (t : TaskNo). t.0) ys → xs ≡ ys
same_tasks [] [] same = refl
same_tasks [] (y ∷ ys) same = absurd (cc)
same_tasks (x ∷ xs) [] same = absurd (cc)
same_tasks (x ∷ xs) (y ∷ ys) same =
    let first : x.0 ≡ y.0 = cc in
    let later : map (λ (t : TaskNo). t.0) xs ≡ map (λ (t : TaskNo). t.0) ys = cc in
    ap (λ n. record { 0 = n } ∷ xs) first ∙ ap (λ ts. y ∷ ts) (same_tasks xs ys later)

-- WHO IS SENT SUCH A MESSAGE

-- one that is held has nobody who says that he let it go
held_seen : (shut observed : Bool) (held told : ℕ) → shut ≡ false → 0 < told → IsHeldBy shut observed held told → (observed ≡ true) × (held ≡ 0)
held_seen = grind arith

held_gone : (shut observed : Bool) (held told told' : ℕ) → told ≡ told' + 1 → IsHeldBy shut observed held told → IsHeldBy shut false held told'
held_gone = grind arith

-- the first message of the batch is under way
pub in_hand_first : (others : Profile) (w : Worker) (mail : Mail) → slice_get w.batch.values 0 ≡ Some mail → 0 < (with_worker others w).mail mail
in_hand_first = grind (arith, one_less, is_once)

module _ (h h' : Hands) (workers : ℕ) (hs : List Holder) (ts : List Thing) (naps : List Nap) (boxes : List Box) (k : ℕ) (r r' : Thing) where
  thing_dropped : slice_get ts k ≡ Some r → LetsThing 1 r r' → ((m : Mail) → h.mail m ≡ h'.mail m + mail_in m (Message.Cancel (subject.Request k) ∷ [])) → h'.wakes ≡ h.wakes
      → IsHolding h workers hs ts naps boxes → IsHolding h' workers hs (slice_set ts k r') naps boxes
  thing_dropped there lets less wakes old =
      let m : Mail = Message.Cancel (subject.Request k) in
      let unseen : r'.observed ≡ false = lets.gone (omega arith) in
      redone_alone h h' workers hs ts naps boxes k r r' (grind (arith, is_never, is_once, held_gone)) old
    where
      answer_of : (x : Result RequestOutput Error) → IsAnswerOf x r → IsAnswerOf x r'
      answer_of (Ok told) is = lets.ended (ap (λ q. is_some q) is) ∙ is
      answer_of (Err error) is = lets.gone (omega arith)

      answer_on : (o : OneShotState (Result RequestOutput Error)) → HasAnswer o r → HasAnswer o r'
      answer_on = grind arith

module _ {B : Type 0} where
  -- no mailbox of a worker that applies is shut
  pub box_open : (applied : ℕ) (taken : Bool) (w : Worker) (s : Shared B) (sound : SoundAt (Place.Mail (InMail.Apply applied taken)) w s) → sound.seated.seat.mailbox.inbox.closed ≡ false
  box_open applied taken w s sound = (sound.phased sound.seated.seat sound.seated.there).shut

  -- somebody held it
  pub cancel_seen : (applied : ℕ) (taken : Bool) (k : ℕ) (w : Worker) (s : Shared B) → SoundAt (Place.Mail (InMail.Apply applied taken)) w s → HasWhole w s → slice_get w.batch.values 0 ≡ Some (Message.Cancel (Subject.Request k)) → (r : Record) → slice_get s.requests.items k ≡ Some r → r.shown.worker ≡ w.index → r.shown.observed ≡ true
  cancel_seen applied taken k w s sound has first r there mine =
      let m : Mail = Message.Cancel (Subject.Request k) in
      let seat = sound.seated.seat in
      let at_box = ap (slice_get (map box_of s.seats.items)) mine ∙ box_there s.seats.items w.index seat sound.seated.there in
      let fact = has.whole.holding.held k (thing_of r) (box_of seat) (thing_there s.requests.items k r there) at_box in
      let some = in_hand_first has.others w m first in
      (held_seen seat.mailbox.inbox.closed r.shown.observed (holdings k (map holder_of s.tasks.items)) (under_way (hands_of (with_worker has.others w)) m (map box_of s.seats.items)) (box_open applied taken w s sound) (omega (arith, some)) fact).0

  -- it is the worker's
  pub mine_first : (applied : ℕ) (taken : Bool) (k : ℕ) (w : Worker) (s : Shared B) → SoundAt (Place.Mail (InMail.Apply applied taken)) w s → slice_get w.batch.values 0 ≡ Some (Message.Cancel (Subject.Request k)) → IsMineIn s.config.workers w.index (Subject.Request k) s.requests.items s.sleepers.items
  mine_first applied taken k w s sound first = sound.mine (Message.Cancel (Subject.Request k)) (subst (λ ms. Contains ms (Message.Cancel (Subject.Request k))) (sym (split_first w.batch.values (Message.Cancel (Subject.Request k)) first)) (0, omega arith, refl))

module _ {B L : Type 0} (left : B → L) (spot : L → Option Said → Spot) where
  pub cancel_applied : (applied : ℕ) (taken : Bool) (k : ℕ) (w w' : Worker) (s s' : Shared B) (e : Event) → SoundAt (Place.Mail (InMail.Apply applied taken)) w s → HasWhole w s → slice_get w.batch.values 0 ≡ Some (Message.Cancel (Subject.Request k)) → e ≡ Apply (CancelRequest k)
      → LetsGo k (passed_on w) (record w' { place = w.place }) s s' → w'.place ≡ after_message (applied + 1) (map message_of (rest_of w)) → Steps left spot w s e w' s'
  cancel_applied applied taken k w w' s s' e sound has first event lets place =
      let m : Mail = Message.Cancel (Subject.Request k) in
      let u : Worker = passed_on w in
      let v : Worker = record w' { place = w.place } in
      let r : Record = lets.r in
      let there : slice_get s.requests.items k ≡ Some r = lets.request in
      let its = mine_first applied taken k w s sound first in
      let mine : r.shown.worker ≡ w.index = ap (λ (y : Record). y.shown.worker) (same_Some r its.0 (sym there ∙ its.1)) ∙ its.2 in
      let seen : r.shown.observed ≡ true = cancel_seen applied taken k w s sound has first r there mine in
      let idle : served_in w.place ≡ None = ap served_in sound.here in
      let see : SeenLet k u v s s' idle sound.gates (kept_there applied taken w s sound) lets mine seen = let_seen k u v s s' idle sound.gates (kept_there applied taken w s sound) lets mine seen in
      let vw : Worker = record u { names = record u.names { ended = v.names.ended }; home = record u.home { driver = v.home.driver; deferred = v.home.deferred } } in
      let is_vw : v ≡ vw = lets.worker in
      let q' : Place = after_message (applied + 1) (map message_of (rest_of w)) in
      let worker : w' ≡ record vw { place = q' } = ap (λ (x : Worker). record x { place = w'.place }) is_vw ∙ ap (λ y. record vw { place = y }) place in
      let s1 : Shared B = record s { requests = s'.requests; sleepers = s'.sleepers } in
      let kept : s' ≡ s1 = lets.kept ∙ ap (λ (z : Shared B). record s { requests = s'.requests; sleepers = z.sleepers }) (sym lets.kept) in
      let changed : s'.requests.items ≡ changed_at s.requests.items k drops = lets.records ∙ sym (ap (changed_in s.requests.items k drops) there) in
      let spares : SparesRecords w.index s s1 = spares_one w.index s s1 k r drops (opens_same s.opens s.opens s.requests.items sound.gates refl) (dropped_at_gate r) changed (ap (λ (z : Shared B). z.sleepers.items) lets.kept) there mine worker_kept in
      let keeps_v : KeepsSpare (64 - applied) v s1 = subst (KeepsSpare (64 - applied) v) kept see.keeps_on in
      let keeps : AppliedKeeps (64 - (applied + 1)) (touched w vw) s1 = assumption (kept_again applied taken vw s1 sound.here (subst (λ x. KeepsSpare (64 - applied) x s1) is_vw keeps_v)) in
      let wakes : v.home.deferred.notes.wakes.items ≡ w.home.deferred.notes.wakes.items = same_tasks v.home.deferred.notes.wakes.items w.home.deferred.notes.wakes.items (ap (λ (d : Desk). d.wakes) see.desk ∙ told_wakes k r.shown (desk_of u)) in
      applied_steps left spot applied taken m w w' vw s s' e sound first event worker kept spares keeps
      (λ others whole.
      let x = with_worker others w in
      let xu = with_worker others (passed_on (touched w vw)) in
      subst (λ ts. IsHolding (hands_of xu) s.config.workers (map holder_of s.tasks.items) ts (map nap_of s'.sleepers.items) (map box_of s.seats.items)) (sym (ap (map thing_of) lets.records ∙ map-set thing_of s.requests.items k (drops r)))
      (subst (λ zs. IsHolding (hands_of xu) s.config.workers (map holder_of s.tasks.items) (slice_set (map thing_of s.requests.items) k (thing_of (drops r))) (map nap_of zs) (map box_of s.seats.items)) (sym (ap (λ (z : Shared B). z.sleepers.items) lets.kept))
      (thing_dropped (hands_of x) (hands_of xu) s.config.workers (map holder_of s.tasks.items) (map thing_of s.requests.items) (map nap_of s.sleepers.items) (map box_of s.seats.items) k (thing_of r) (thing_of (drops r)) (thing_there s.requests.items k r there) (dropped_thing r)
      (one_less others w m first) (ap (λ (ns : List TaskNo). λ (j : ℕ) (t : ℕ). if j == w.index then count_by (λ n. n.0 == t) ns else others.wakes j t) wakes) whole.holding)))
      (λ p vs suits.
      let cs = common_of left spot p vs s in
      let request : request_of cs k ≡ r.shown = request_seen s.requests.items k r there in
      let batch : List MailMessage = map message_of w.batch.values in
      record {
        desk = ap (λ (y : Worker). record (desk_of y) { batch = batch }) (sym is_vw) ∙ ap (λ (d : Desk). record d { batch = batch }) see.desk ∙ sym (told_batch k r.shown (desk_of u) batch) ∙ ap (λ (q : Request). told_of_drop k q (desk_of w)) (sym request);
        own = ap own_of (sym is_vw) ∙ see.own cs request;
        shows = ap (λ (y : Worker). record (visible y) { taken = batch }) (sym is_vw) ∙ ap (λ (y : Visible). record y { taken = batch }) see.shows;
        common = common_changed left spot p vs s s1 k r drops (ap (λ (z : Shared B). record s { requests = s'.requests; sleepers = z.sleepers }) lets.kept) changed there (dropped_name r) ∙ ap (λ (q : Request). record cs { requests = slice_set cs.requests k (dropped q) }) (sym request);
      })
    where
      worker_kept : (y : Record) → (drops y).shown.worker ≡ y.shown.worker
      worker_kept = grind arith
