use Rattle.std.{proofs.{Common.{MatchBool, ◌≡◌, ℕ, ◌<◌, List, length, get_or, Some, None, refl, sym, ap, subst, ◌∙◌, slice_get, slice_set}, lemmas.{Bool.eq-eqb, List.length-set, Option.slice_get-get_or}}, specs.Vec.with_item}
use Rattle.exec_task.specs.declared.body.Said.{Said}
use Rattle.exec_machine.specs.declared.{event.Event.Event, state.MailMessage.MailMessage}
use Rattle.exec_moves.specs.declared.{handing.AfterSend.AfterSend, place.{InPoll.InPoll, Place.Place}}
use Rattle.exec_parts.{specs.{declared.parts.{shared.Shared.Shared, task_slot.TaskSlot.TaskSlot, worker.Worker.Worker}, Pooled.{Sends, WakesBy, WakesHere, WakesOrdinary, WakesTask}}, proofs.{Facts.{by_number, not_same, same_Some, set_elsewhere, set_there}, Mailboxes.root_place}}
use Rattle.exec_spawning.proofs.spawning.wake_task.Goals as goal

module _ {B : Type 0} (t u : ℕ) (w w' : Worker) (s s' : Shared B) (e : Event) (old x other : TaskSlot B) (there : slice_get s.tasks.items t ≡ Some old) (told : x ≡ record old { told = Some Said.Pass }) (found : slice_get (slice_set s.tasks.items t x) u ≡ Some other) where
  abbrev m : Shared B
  m = record s { tasks = with_item s.tasks t x }

  by_home : WakesBy other.home t u w w' m s' e → WakesTask t u w w' s s' e
  by_home wakes =
      record {
        middle = m;
        told = record { kept = refl; tasks = λ slot at. ap (slice_set s.tasks.items t) (told ∙ ap (λ (o : TaskSlot B). record o { told = Some Said.Pass }) (same_Some old slot (sym there ∙ at))) };
        wakes = λ slot at. subst (λ (o : TaskSlot B). WakesBy o.home t u w w' m s' e) (same_Some other slot (sym found ∙ at)) wakes;
      }

  there_by : (home : ℕ) → other.home ≡ Some home → (home ≡ w.index → ⊥) → Sends home MailMessage.Root (AfterSend.Act t) w w' m s' e → WakesTask t u w w' s s' e
  there_by home is apart wakes =
      by_home (subst (λ o. WakesBy o t u w w' m s' e) (sym is)
      (subst (λ b. MatchBool b (WakesHere t u w w' m s' e) (Sends home MailMessage.Root (AfterSend.Act t) w w' m s' e)) (sym (not_same home w.index apart)) wakes))

  here_by : (home : ℕ) → other.home ≡ Some home → home ≡ w.index → WakesHere t u w w' m s' e → WakesTask t u w w' s s' e
  here_by home is same wakes =
      by_home (subst (λ o. WakesBy o t u w w' m s' e) (sym is)
      (subst (λ b. MatchBool b (WakesHere t u w w' m s' e) (Sends home MailMessage.Root (AfterSend.Act t) w w' m s' e)) (sym (eq-eqb home w.index same)) wakes))

  ordinary_by : other.home ≡ None → WakesOrdinary t u w w' m s' × (e ≡ Event.Wake u) → WakesTask t u w w' s s' e
  ordinary_by is wakes = by_home (subst (λ o. WakesBy o t u w w' m s' e) (sym is) wakes)

read : {B : Type 0} (tasks : List (TaskSlot B)) (k : ℕ) (o : TaskSlot B) → k < length tasks → o ≡ get_or tasks k o → slice_get tasks k ≡ Some o
read tasks k o few is = slice_get-get_or tasks k o few ∙ ap (λ z. Some z) (sym is)

-- a slot that is told keeps its home, and others are as they were
was : {B : Type 0} (tasks : List (TaskSlot B)) (t u : ℕ) (old x other : TaskSlot B) → slice_get tasks t ≡ Some old → x.home ≡ old.home → slice_get (slice_set tasks t x) u ≡ Some other → (o : TaskSlot B) × (slice_get tasks u ≡ Some o) × (o.home ≡ other.home)
was tasks t u old x other there home found =
    by_number u t (λ apart. (other, sym (set_elsewhere tasks t u x apart) ∙ found, refl))
    (λ same. (old, ap (slice_get tasks) same ∙ there, sym home ∙ ap (λ y. y.home) (same_Some x other (sym (set_there tasks t x old there) ∙ ap (slice_get (slice_set tasks t x)) (sym same) ∙ found))))

pub send-requires : goal.send-requires
send-requires g c =
    let items = c.args.shared.now.tasks.items in
    let o = was items c.args.task c.args.other.0 c.index_mut.result.now c.tell.new.self c.index.result.now
    (read items c.args.task c.index_mut.result.now c.requires.there c.index_mut.ensures.value) (ap (λ y. y.home) c.tell.ensures)
    (read (slice_set items c.args.task c.tell.new.self) c.args.other.0 c.index.result.now (rw length-set c.requires.some) c.index.ensures) in
    record { may = record { there = c.requires.homes o.0 o.1 c.in-Some.home (o.2 ∙ sym c.home.ensures ∙ c.in-Some.is); place = λ chair there. root_place chair.mailbox (c.requires.mail c.in-Some.home chair there) } }

pub returns-in-Some : goal.returns-in-Some
returns-in-Some g c =
    let items = c.args.shared.now.tasks.items in
    record {
      wakes = there_by c.args.task c.args.other.0 c.args.worker.now c.send.new.self c.args.shared.now c.send.new.shared c.send.result c.index_mut.result.now c.tell.new.self c.index.result.now
          (read items c.args.task c.index_mut.result.now c.requires.there c.index_mut.ensures.value) c.tell.ensures
          (read (slice_set items c.args.task c.tell.new.self) c.args.other.0 c.index.result.now (rw length-set c.requires.some) c.index.ensures)
          c.in-Some.home (sym c.home.ensures ∙ c.in-Some.is) c.if-home-worker.true c.send.ensures.sends;
    }

pub returns-in-Some-2 : goal.returns-in-Some-2
returns-in-Some-2 g c =
    let items = c.args.shared.now.tasks.items in
    let own = c.wake_own_root.ensures.wakes in
    let place = Place.Poll c.args.task InPoll.Act in
    record {
      wakes = here_by c.args.task c.args.other.0 c.args.worker.now (record c.wake_own_root.new.self { place = place }) c.args.shared.now c.wake_own_root.new.shared (Event.Wake c.args.other.0) c.index_mut.result.now c.tell.new.self c.index.result.now
          (read items c.args.task c.index_mut.result.now c.requires.there c.index_mut.ensures.value) c.tell.ensures
          (read (slice_set items c.args.task c.tell.new.self) c.args.other.0 c.index.result.now (rw length-set c.requires.some) c.index.ensures)
          c.in-Some.home (sym c.home.ensures ∙ c.in-Some.is) c.if-home-worker.false
          (record { event = refl; wakes = record { flag = own.flag; worker = ap (λ (v : Worker). record v { place = c.args.worker.now.place }) own.worker; task = own.task }; place = refl });
    }

pub returns-in-None : goal.returns-in-None
returns-in-None g c =
    let items = c.args.shared.now.tasks.items in
    record {
      wakes = ordinary_by c.args.task c.args.other.0 c.args.worker.now c.wake_ordinary.new.worker c.args.shared.now c.wake_ordinary.new.shared (Event.Wake c.args.other.0) c.index_mut.result.now c.tell.new.self c.index.result.now
          (read items c.args.task c.index_mut.result.now c.requires.there c.index_mut.ensures.value) c.tell.ensures
          (read (slice_set items c.args.task c.tell.new.self) c.args.other.0 c.index.result.now (rw length-set c.requires.some) c.index.ensures)
          (sym c.home.ensures ∙ c.in-None.is) (c.wake_ordinary.ensures.wakes, refl);
    }
