-- A POLLED TASK AWAITS the newest request that it holds: it takes the output of one that is over, or asks the worker that has it.
use Rattle.std.proofs.{Common.{◌≡◌, ◌≢◌, ◌⊎◌, inl, ℕ, ◌-◌, ◌==◌, Bool, true, false, List, [], length, take, Option, Some, None, IsSome, refl, sym, ap, subst, ◌∙◌, slice_get, slice_set, if◌then◌else◌, arith}, lemmas.{Bool.eq-eqb, List.set-set}}
use Rattle.exec_base.specs.declared.{error.Error.TheVariants.NoMemory, one_shot.OneShotState.TheVariants.Open}
use Rattle.exec_outcomes.specs.declared.outcome.Outcome.{Outcome}
use Rattle.exec_request.specs.declared.output.RequestOutput.{RequestOutput}
use Rattle.exec_task.specs.{Sight.Sight, declared.body.{Act.Act, Said.Said}}
use Rattle.exec_waiters.specs.Events.{taken}
use Rattle.exec_machine.specs.{declared.{config.ScriptWord.ScriptWord, event.Event.{Event, TheVariants.{Got, Send}}, state.{MailMessage.TheVariants.ForwardRequest, Request.Request, RequestPhase.TheVariants.Resolved, Waiting.Waiting}}, Progress.Plan, Requests.operation_asked, Tasks.{polls_waiting, waits_for, without_newest}, Tests.{is_resolved, is_unsent, waits_for_nothing, waits_for_request}, Words.{acts, asks_await, moved_on, newest_held, next_word}, World.{Common, Task, request_of, task_of}}
use Rattle.exec_moves.specs.{declared.{handing.AfterSend.AfterSend, place.{InPoll.InPoll, Place.Place}}, Move.move_look_at, Poll.{Sight.{Asks, HearsRequest}, act, act_asked, acts_on, await, sight_by, sight_of_newest}, State.{Desk, Moved, Things, does}, Thing.aside, Told.without_request}
use Rattle.exec_parts.{specs.{declared.parts.{mail.Subject.Subject, record.Record.Record, shared.Shared.Shared, task_slot.TaskSlot.TaskSlot, worker.Worker.Worker}, Awaits.newest_of, Calls.forwarded_for, MailPosts.AsksOutput, Pooled.{Sends, asks_if_sent}, Polls.{TookOutput, unobserved}, Records.numbers_held, Scripts.{IsAnswer, IsAnswered, held_after}, Spots.{Spot, spot_of}, View.{Views, body_in, common_of, desk_of, driver_of, task_seen, things_with}}, proofs.Facts.{not_same, or_right, same_Some, set_there}}
use Rattle.exec_invariants.{specs.{Acting.{HasActed, StepsOf}, Hearing.{CanHear, held_once_come}, Holding.awaited_in, Sound.SoundAt, Whole.HasWhole}, proofs.{Acting.{IsActor, actor, acts_so, by_word, me_at, moved_seen, word_move}, Here.{IsHere, polled_here}, Pending.in_poll, Performing.{performs_on, still_performs}, Seen.request_at, Slots.task_there, TaskAsks.led_to, TaskDeals.from_act, TaskGets.{GetsSo, SeesGot, TakesOwn, past_newest, got_works, gets_leaves, there_is}, TaskHears.numbers_without, TaskNewest.newest_unsent, TaskWants.newest_is}}
use Rattle.exec_polling.proofs.TaskForwards.{AsksFor, OutputAsked, SeesWants, WaitsElsewhere, output_asks, wants_works}

output_heard : (o : RequestOutput) → Said.Output o ≡ Said.Refused NoMemory → ⊥
output_heard o h = cc

awaits_over : (t k : ℕ) (s : Common) (d : Desk) (it : Task) (r : Request) (outcome : Outcome) → request_of s k ≡ r → r.phase ≡ Resolved outcome → await t s d it (Some k) ≡ does (Got k outcome) (acts_on t (without_request k d)) it
awaits_over t k s d it r outcome found is = rw (found, is) refl

module _ {B L : Type 0} (left : B → L) (spot : L → Option Said → Spot) where
  -- THE MOVE, by where the newest held is
  pub await_looks : (t k : ℕ) (p : Plan) (w : Worker) (s : Shared B) (vs : Views) (slot : TaskSlot B) (r : Record) → slice_get s.tasks.items t ≡ Some slot → next_word (common_of left spot p vs s) (task_seen left spot slot) ≡ ScriptWord.Await → newest_of slot ≡ Some k → slice_get s.requests.items k ≡ Some r
      → word_move left spot t p (common_of left spot p vs s) w s vs (next_word (common_of left spot p vs s) (task_of (common_of left spot p vs s) t))
      ≡ move_look_at p.config (common_of left spot p vs s) (desk_of (record w { place = Place.Poll t InPoll.Act })) (things_with vs s) t (AfterSend.Pend t)
      (aside (things_with vs s) (await t (common_of left spot p vs s) (desk_of (record w { place = Place.Poll t InPoll.Act })) (task_seen left spot slot) (Some k)))
      (sight_by (is_unsent r.shown.forwarding) (r.shown.worker == w.index) (Asks r.shown.worker (ForwardRequest k)) (HearsRequest k))
  await_looks t k p w s vs slot r there word newest at_k =
      let all = common_of left spot p vs s in
      let d = desk_of (record w { place = Place.Poll t InPoll.Act }) in
      let me = me_at t w in
      let x = things_with vs s in
      let b : AfterSend = AfterSend.Pend t in
      let y : Task = task_seen left spot slot in
      let it : task_of all t ≡ y = task_there left spot s.tasks.items t slot there in
      let request : request_of all k ≡ r.shown = request_at s.requests.items k r at_k in
      let by_task : Task → Moved Things = λ z. move_look_at p.config all d x t b (aside x (act p.config w.index t me all d z)) (sight_of_newest w.index all (newest_held z)) in
      let by_its_word : ScriptWord → Moved Things = λ z. move_look_at p.config all d x t b (aside x (act_asked w.index t me all d y z (operation_asked p.config me.sampled z))) (sight_of_newest w.index all (newest_held y)) in
      let by_held : Option ℕ → Moved Things = λ o. move_look_at p.config all d x t b (aside x (await t all d y o)) (sight_of_newest w.index all o) in
      grind arith

  -- with nothing held
  pub await_nothing : (t : ℕ) (p : Plan) (w : Worker) (s : Shared B) (vs : Views) (slot : TaskSlot B) → slice_get s.tasks.items t ≡ Some slot → next_word (common_of left spot p vs s) (task_seen left spot slot) ≡ ScriptWord.Await → newest_of slot ≡ None
      → word_move left spot t p (common_of left spot p vs s) w s vs (next_word (common_of left spot p vs s) (task_of (common_of left spot p vs s) t))
      ≡ aside (things_with vs s) (await t (common_of left spot p vs s) (desk_of (record w { place = Place.Poll t InPoll.Act })) (task_seen left spot slot) None)
  await_nothing = grind (arith, me_at, task_there, by_word)

module _ {B L : Type 0} (left : B → L) (runs : L → Plan → Option ℕ → Type 0) (holds : L → Option Said → List ℕ) (spot : L → Option Said → Spot) (gives : L → Option Sight → Said → Act B → L → Option Sight → Type 0) (answered : IsAnswered spot) where
  -- IT IS OVER
  got_seen : (all : Common) (slot slot' : TaskSlot B) (b' : B) (output : RequestOutput) → slot' ≡ record slot { body = Some b'; held = slot'.held; waiting = Waiting.Nothing; told = Some (Said.Output output) } → numbers_held slot'.held.items ≡ without_newest (numbers_held slot.held.items) → slot.waiting ≡ Waiting.Nothing
      → task_seen left spot (record slot { body = Some b'; told = Some (Said.Output output) }) ≡ moved_on all (task_seen left spot slot) → task_seen left spot slot' ≡ past_newest left spot answered all (task_seen left spot slot)
  got_seen = grind arith

  pub awaits_got : (t k : ℕ) (w w' : Worker) (s s1 s' : Shared B) (e : Event) (r : Record) → (h : HasActed left runs holds spot gives t w s s1 (Act.Await (Some k))) → HasWhole w s → newest_of h.made.slot ≡ Some k → slice_get s.requests.items k ≡ Some r → r.shown.worker ≡ w.index
      → TookOutput t k w w' s1 s' e → StepsOf left runs holds spot w s e w' s'
  awaits_got t k w w' s s1 s' e r h has newest at_r mine took1 =
      let sound = h.sound in
      let m = h.made in
      let slot = m.slot in
      let b' = m.acts.body' in
      let by_it : IsActor left runs holds spot gives t w slot = actor left runs holds spot gives t w s s1 (Act.Await (Some k)) h in
      let it : IsHere InPoll.Act t w s = polled_here InPoll.Act t w s sound refl in
      let is : slot ≡ it.slot = same_Some slot it.slot (sym m.there ∙ it.there) in
      let took : TookOutput t k w w' (record s { tasks = s1.tasks }) s' e = subst (λ y. TookOutput t k w w' y s' e) m.kept took1 in
      let found : slice_get s1.tasks.items t ≡ Some m.slot' = ap (λ ts. slice_get ts t) m.tasks ∙ set_there s.tasks.items t m.slot' slot m.there in
      let acted_is : took.slot ≡ record slot { body = Some b'; told = None } = same_Some took.slot m.slot' (sym took.there ∙ found) ∙ m.acts.slot in
      let same_r : took.r ≡ r = same_Some took.r r (sym took.request ∙ at_r) in
      let slot' = took.slot' in
      let items : s'.tasks.items ≡ slice_set s.tasks.items t slot' = took.tasks ∙ ap (λ ts. slice_set ts t slot') m.tasks ∙ set-set s.tasks.items t m.slot' slot' in
      let so : slot' ≡ record slot { body = Some b'; held = slot'.held; waiting = Waiting.Nothing; told = Some (Said.Output took.output) } = took.took ∙ ap (λ (o : TaskSlot B). record o { held = slot'.held; waiting = Waiting.Nothing; told = Some (Said.Output took.output) }) acted_is in
      let body : slot'.body ≡ Some b' = ap (λ (o : TaskSlot B). o.body) so in
      let less : slot'.held.items ≡ take (length slot.held.items - 1) slot.held.items = took.all ∙ ap (λ (o : TaskSlot B). take (length o.held.items - 1) o.held.items) acted_is in
      let fewer : numbers_held slot'.held.items ≡ without_newest (numbers_held slot.held.items) = ap numbers_held less ∙ numbers_without slot.held.items in
      let newest_at : newest_of it.slot ≡ Some k = ap newest_of (sym is) ∙ newest in
      let held = newest_is InPoll.Act t k w s r has it newest_at at_r in
      let unsent = newest_unsent t k w s r has it newest_at at_r in
      let over : r.shown.phase ≡ Resolved took.outcome = ap (λ (y : Record). y.shown.phase) (sym same_r) ∙ took.is in
      let there = there_is (Place.Poll t InPoll.Act) k w s r sound at_r mine held.observed unsent (ap is_resolved over) in
      let waits : (awaited_in slot.waiting ≡ None) ⊎ (slot.waiting ≡ Waiting.Request k) = inl (ap awaited_in by_it.waits) in
      let gets : GetsSo slot slot' took.output =
      record { took = so ∙ ap (λ o. record slot { body = o; held = slot'.held; waiting = Waiting.Nothing; told = Some (Said.Output took.output) }) (sym body); body = subst (λ o. IsSome o) (sym body) refl; held = less } in
      let driver = took.driver ∙ ap (λ (y : Record). record (driver_of w) { requests = taken (driver_of w).requests y.id.0 }) same_r in
      let requests = took.requests ∙ ap (λ y. slice_set s.requests.items k (unobserved y)) same_r in
      let by : TakesOwn InPoll.Act t k w w' s s' slot slot' r took.output took.outcome = assumption (m, newest, waits, at_r, unsent, mine, over, gets, driver, requests, items, took) in
      let leaves = gets_leaves InPoll.Act t k w w' s s' slot' r took.output took.outcome (λ i u rs ss. tt) (from_act t) sound refl it (subst (λ o. TakesOwn InPoll.Act t k w w' s s' o slot' r took.output took.outcome) is by) held.observed there in
      let place : w'.place ≡ Place.Poll t InPoll.Act = ap (λ (y : Worker). y.place) took.worker in
      let done : StepsOf left runs holds spot w s (Got k took.outcome) w' s' = (
        (λ p vs suits fits.
            let does_so = h.asks p vs (fits t slot m.there) in
            let past : spot (left b') (Some (Said.Output took.output)) ≡ spot_of (moved_on (common_of left spot p vs s) (task_seen left spot slot)) = answered (left b') (Said.Output took.output) (output_heard took.output) ∙ does_so.stands in
            got_works left spot answered InPoll.Act t k w w' s s' slot slot' r took.output took.outcome sound by there p vs suits (sees p vs slot slot' took.output took.outcome m.there by_it.waits does_so.asks.0 newest over unsent
            (got_seen (common_of left spot p vs s) slot slot' b' took.output so fewer by_it.waits (moved_seen left spot (common_of left spot p vs s) slot b' (Some (Said.Output took.output)) by_it.polled past)))),
        subst (λ q. SoundAt q w' s') (sym place) leaves.sound,
        still_performs left runs holds t w w' s s' slot slot' m.there items (ap (λ (y : Worker). y.root) took.worker) (ap (λ (z : Shared B). z.config) took.kept)
            (λ p fits. performs_on left runs holds spot gives p (task_seen left spot slot) (Act.Await (Some k)) slot' b' ((h.asks p (record { workers = []; calls = [] }) fits).goes_on refl) (ap (λ (o : TaskSlot B). o.home) so)
            (ap (λ (o : TaskSlot B). body_in o.cell.phase o.body) so ∙ in_poll slot.cell.phase (Some b') by_it.polled)
            (λ answer hears.
            let heard : answer ≡ Said.Output took.output = subst (λ (o : TaskSlot B). CanHear o.told o.waiting answer) so hears in
            let waits : slot'.waiting ≡ Waiting.Nothing = ap (λ (o : TaskSlot B). o.waiting) so in
            subst (λ y. IsAnswer {B = B} (Act.Await (Some k)) y × (held_after {B = B} (Act.Await (Some k)) y (numbers_held slot.held.items) ≡ held_once_come slot'.waiting (numbers_held slot'.held.items))) (sym heard)
            (tt, sym fewer ∙ ap (λ u. held_once_come u (numbers_held slot'.held.items)) (sym waits)))),
        leaves.beside,
      ) in
      subst (λ y. StepsOf left runs holds spot w s y w' s') (sym took.event) done
    where
      sees : (p : Plan) (vs : Views) (slot slot' : TaskSlot B) (output : RequestOutput) (outcome : Outcome) → slice_get s.tasks.items t ≡ Some slot → slot.waiting ≡ Waiting.Nothing → next_word (common_of left spot p vs s) (task_seen left spot slot) ≡ ScriptWord.Await → newest_of slot ≡ Some k
          → r.shown.phase ≡ Resolved outcome → is_unsent r.shown.forwarding ≡ true → task_seen left spot slot' ≡ past_newest left spot answered (common_of left spot p vs s) (task_seen left spot slot) → SeesGot left spot answered InPoll.Act t k outcome w s slot slot' p vs
      sees p vs slot slot' output outcome there waits word newest over unsent seen =
          let all = common_of left spot p vs s in
          let d = desk_of (record w { place = Place.Poll t InPoll.Act }) in
          let me = me_at t w in
          let x = things_with vs s in
          let b : AfterSend = AfterSend.Pend t in
          let y : Task = task_seen left spot slot in
          let it : task_of all t ≡ y = task_there left spot s.tasks.items t slot there in
          let request : request_of all k ≡ r.shown = request_at s.requests.items k r at_r in
          let finds : Bool → Bool → Moved Things = λ u n. move_look_at p.config all d x t b (aside x (await t all d y (Some k))) (sight_by u n (Asks r.shown.worker (ForwardRequest k)) (HearsRequest k)) in
          record {
            moves = grind (arith, await_looks left spot t k p w s vs slot r there word newest at_r, unsent, mine, eq-eqb w.index w.index refl, awaits_over t k all d y r.shown outcome request over);
            takes = or_right (polls_waiting me all (waits_for_request k)) (acts me all asks_await) (acts_so left spot t all w slot asks_await it waits (ap asks_await word));
            polled = refl;
            own_after_is = refl;
            after = refl;
            seen = seen;
          }

  -- ANOTHER WORKER HAS IT
  hears_output : (j : ℕ) (held : List ℕ) (answer : Said) → CanHear None (Waiting.Request j) answer → IsAnswer {B = B} (Act.Await (Some j)) answer × (held_after {B = B} (Act.Await (Some j)) answer held ≡ without_newest held)
  hears_output j held (Said.Output output) heard = (tt, refl)
  hears_output j held _ heard = absurd heard

  pub awaits_elsewhere : (t k : ℕ) (w w' : Worker) (s s1 s' : Shared B) (e : Event) (r : Record) → (h : HasActed left runs holds spot gives t w s s1 (Act.Await (Some k))) → HasWhole w s → newest_of h.made.slot ≡ Some k → slice_get s.requests.items k ≡ Some r → r.shown.worker ≢ w.index
      → AsksOutput t k w w' s1 s' e → StepsOf left runs holds spot w s e w' s'
  awaits_elsewhere t k w w' s s1 s' e r h has newest at_r other asks1 =
      let sound = h.sound in
      let m = h.made in
      let slot = m.slot in
      let b' = m.acts.body' in
      let by_it : IsActor left runs holds spot gives t w slot = actor left runs holds spot gives t w s s1 (Act.Await (Some k)) h in
      let it : IsHere InPoll.Act t w s = polled_here InPoll.Act t w s sound refl in
      let is : slot ≡ it.slot = same_Some slot it.slot (sym m.there ∙ it.there) in
      let asks : AsksOutput t k w w' (record s { tasks = s1.tasks }) s' e = subst (λ y. AsksOutput t k w w' y s' e) m.kept asks1 in
      let found : slice_get s1.tasks.items t ≡ Some m.slot' = ap (λ ts. slice_get ts t) m.tasks ∙ set_there s.tasks.items t m.slot' slot m.there in
      let acted_is : asks.slot ≡ record slot { body = Some b'; told = None } = same_Some asks.slot m.slot' (sym asks.there ∙ found) ∙ m.acts.slot in
      let same_r : asks.r ≡ r = same_Some asks.r r (sym asks.request ∙ at_r) in
      let mid = asks.middle in
      let slot' : TaskSlot B = record slot { body = Some b'; told = None; waiting = Waiting.Request k; output = Open } in
      let mid_items : mid.tasks.items ≡ slice_set s.tasks.items t slot' =
      asks.tasks ∙ ap (λ (o : TaskSlot B). slice_set s1.tasks.items t (record o { waiting = Waiting.Request k; output = Open })) acted_is ∙ ap (λ ts. slice_set ts t slot') m.tasks ∙ set-set s.tasks.items t m.slot' slot' in
      let newest_at : newest_of it.slot ≡ Some k = ap newest_of (sym is) ∙ newest in
      let unsent = newest_unsent t k w s r has it newest_at at_r in
      let waits : (awaited_in slot.waiting ≡ None) ⊎ (awaited_in slot.waiting ≡ Some (Subject.Request k)) = inl (ap awaited_in by_it.waits) in
      let requests = asks.requests ∙ ap (λ y. slice_set s.requests.items k (forwarded_for t y)) same_r in
      let sends = subst (λ (y : Record). Sends y.shown.worker (ForwardRequest k) (AfterSend.Pend t) w w' mid s' e) same_r asks.sends in
      let so : WaitsElsewhere k slot slot' = record { took = refl; body = refl } in
      let by : AsksFor InPoll.Act t k w w' s mid s' e slot slot' r = assumption (m, newest, waits, at_r, unsent, other, so, mid_items, requests, sends, asks) in
      let asked0 = output_asks InPoll.Act t k w w' s mid s' e slot' r (from_act t) sound has it (subst (λ o. AsksFor InPoll.Act t k w w' s mid s' e o slot' r) is by) in
      let asked = subst (λ o. OutputAsked InPoll.Act t k w w' s mid s' e o slot' r) (sym is) asked0 in
      let all : s' ≡ record mid { seats = s'.seats } = by.sends.kept in
      let w1 : Worker = record w { place = led_to t InPoll.Pend (AfterSend.Pend t) r.shown.worker (asks_if_sent (ForwardRequest k) asked.chair.mailbox) } in
      let done : StepsOf left runs holds spot w s (Send r.shown.worker (ForwardRequest k)) w1 s' = (
        (λ p vs suits fits.
            let does_so = h.asks p vs (fits t slot m.there) in
            wants_works left spot InPoll.Act t k w w' s mid s' e slot slot' r refl refl sound.here by asked p vs suits (sees p vs slot b' m.there by_it.waits does_so.asks.0 newest unsent
            (moved_seen left spot (common_of left spot p vs s) slot b' None by_it.polled does_so.stands))),
        asked.sound,
        still_performs left runs holds t w w1 s s' slot slot' m.there asked.items refl (ap (λ (z : Shared B). z.config) all ∙ ap (λ (z : Shared B). z.config) by.kept)
            (λ p fits. performs_on left runs holds spot gives p (task_seen left spot slot) (Act.Await (Some k)) slot' b' ((h.asks p (record { workers = []; calls = [] }) fits).goes_on refl) refl (in_poll slot.cell.phase (Some b') by_it.polled) (hears_output k (numbers_held slot.held.items))),
        asked.beside,
      ) in
      subst (λ v. StepsOf left runs holds spot w s e v s') (sym asked.worker) (subst (λ y. StepsOf left runs holds spot w s y w1 s') (sym asked.event) done)
    where
      sees : (p : Plan) (vs : Views) (slot : TaskSlot B) (b' : B) → slice_get s.tasks.items t ≡ Some slot → slot.waiting ≡ Waiting.Nothing → next_word (common_of left spot p vs s) (task_seen left spot slot) ≡ ScriptWord.Await → newest_of slot ≡ Some k → is_unsent r.shown.forwarding ≡ true
          → task_seen left spot (record slot { body = Some b'; told = None }) ≡ moved_on (common_of left spot p vs s) (task_seen left spot slot) → SeesWants left spot InPoll.Act t k w s slot (record slot { body = Some b'; told = None; waiting = Waiting.Request k; output = Open }) r p vs
      sees p vs slot b' there waits word newest unsent past =
          let all = common_of left spot p vs s in
          let d = desk_of (record w { place = Place.Poll t InPoll.Act }) in
          let me = me_at t w in
          let x = things_with vs s in
          let b : AfterSend = AfterSend.Pend t in
          let y : Task = task_seen left spot slot in
          let it : task_of all t ≡ y = task_there left spot s.tasks.items t slot there in
          let apart : (r.shown.worker == w.index) ≡ false = not_same r.shown.worker w.index other in
          let finds : Bool → Bool → Moved Things = λ u n. move_look_at p.config all d x t b (aside x (await t all d y (Some k))) (sight_by u n (Asks r.shown.worker (ForwardRequest k)) (HearsRequest k)) in
          record {
            moves = await_looks left spot t k p w s vs slot r there word newest at_r ∙ ap (λ u. finds u (r.shown.worker == w.index)) unsent ∙ ap (finds true) apart;
            takes = or_right (polls_waiting me all (waits_for_request k)) (acts me all asks_await) (acts_so left spot t all w slot asks_await it waits (ap asks_await word));
            polled = refl;
            own_then = refl;
            seen = ap (λ (z : Task). record z { waiting = Waiting.Request k }) past ∙ ap (λ u. if waits_for_nothing u then waits_for all y (Waiting.Request k) else y) (sym waits);
          }
