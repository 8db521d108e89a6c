-- The callbacks: a task to which an end was sent is woken, which that end pays.
use Rattle.std.proofs.{Common.{◌≡◌, ℕ, ◌+◌, ◌<◌, ◌≤◌, ◌||◌, Bool, true, false, not, List, map, Option, Some, None, refl, sym, ap, subst, ◌∙◌, arith, slice_get, slice_set, if◌then◌else◌}, lemmas.{Bool.{false≢true, eq-eqb}, List.map-set}}
use Rattle.exec_waiters.specs.declared.deferred.Deferred.{Deferred}
use Rattle.exec_task.specs.{Phases.{is_idle as is_cell_idle, runnable_of}, declared.body.Said.{Said}}
use Rattle.exec_machine.specs.{Choice.{Choice.Pays, Payer, Payer.{ByRequest, BySleeper}}, declared.event.Event.{Event, TheVariants.Wake}, Progress.Plan, Ranges.ring_size, Tests.{is_applied, is_open, is_resolved}, World.{seat_of, task_of}}
use Rattle.exec_moves.specs.{Callback.{payer_heard, woken_by}, declared.{handing.{AfterCallbacks.AfterCallbacks, Heard.Heard}, place.{InCallbacks.InCallbacks, Place.Place}}, Move.move_at}
use Rattle.exec_parts.{specs.{declared.parts.{mail.Reply.Reply, record.Record.Record, shared.Shared.Shared, sleeping.SleeperRecord.SleeperRecord, task_slot.TaskSlot.TaskSlot, worker.Worker.Worker}, Calls.{paying, records_paid, sleeper_paid_in, sleeper_paying, sleepers_paid}, MailTakes.{WakesHearer, queued_after, thing_heard}, Pooled.woken_slot, Serving.changed_at, Spots.Spot, Tests.next_callback_of, View.{Views, common_of, desk_of, driver_of, own_of, things_with}}, proofs.Facts.{and_parts, same_Some}}
use Rattle.exec_invariants.{specs.{Holding.{Box, IsHolding, IsOrdinary, box_of, holder_of, nap_of, thing_of}, Places.one_if, Rooted.{HasHeard, completions_of, ends_elsewhere, goes_elsewhere, is_of_request, is_of_timer, results_of}, Sound.SoundAt, Whole.{HasWhole, hands_of, with_worker}, Works.Steps}, proofs.{Lined.{mapped, unmapped}, Marking.pays}}
use Rattle.exec_messages.proofs.{BackHolds.{nap_marked, thing_pays}, BackPaid.{by_over, fired_either, neither, over_elsewhere, shut_seen, things_paid, unpaid_elsewhere, unsent_never}, BackMarks.{SleepsAlike, count_some, remade_request, remade_sleeper}, BackOthers.{turn_request, turn_sleeper, with_left}, BackPays.{PaysBy, SleeperPaysBy, request_after, request_paid, request_things, sleeper_after, sleeper_paid, sleeper_things}, BackRooted.{rooted_paid, rooted_slept}, BackWakes.{Pays1, woken_steps}}

module _ {B : Type 0} where
  -- WHO HEARS is an ordinary task
  pub record HearsIt (t : ℕ) (s : Shared B) : Type 0 where
    pub slot : TaskSlot B
    pub there : slice_get s.tasks.items t ≡ Some slot
    pub home : slot.home ≡ None

  pub ordinary_there : (t u : ℕ) (s : Shared B) → u ≡ t → IsOrdinary u (map holder_of s.tasks.items) → HearsIt t s
  ordinary_there t u s same is =
      let f = unmapped holder_of s.tasks.items u is.it is.there in
      record { slot = f.0; there = subst (λ m. slice_get s.tasks.items m ≡ Some f.0) same f.1; home = ap (λ y. y.home) f.2 ∙ is.home }

  pub hears_there : (t : ℕ) (of : Heard) (w : Worker) (s : Shared B) → HasWhole w s → HasHeard w.index t of s.requests.items s.sleepers.items → HearsIt t s
  hears_there t (Heard.Request k) w s has (r, there, worker, waiter, goes, paid, sent) =
      let f = r.shown.forwarding in
      let applied : is_applied f ≡ true = (and_parts (is_applied f) (is_resolved r.shown.phase || not r.shown.observed) goes).0 in
      let a = has.whole.holding.asked k (thing_of r) (mapped thing_of s.requests.items k r there) (unsent_never f applied) in
      ordinary_there t a.0 s (same_Some a.0 t (sym a.1 ∙ waiter)) a.2
  hears_there t (Heard.Timer k) w s has (z, there, worker, task, ends, paid, sent) =
      let f = z.shown.forwarding in
      let applied : is_applied f ≡ true = (and_parts (is_applied f) (z.shown.fired || (z.shown.removed || z.closed)) ends).0 in
      ordinary_there t z.shown.task s task (has.whole.holding.asked_too k (nap_of z) (mapped nap_of s.sleepers.items k z there) (unsent_never f applied))

-- no result of a request that was sent is left, and no end of a sleeper
none_counted : (n g : ℕ) → n + 1 ≡ g → g ≤ 1 → n ≡ 0
none_counted n g is few = omega (arith, is, few)

one_at_most : (b : Bool) → one_if b ≤ 1
one_at_most true = omega arith
one_at_most false = omega arith

module _ {B L : Type 0} (left : B → L) (spot : L → Option Said → Spot) where
  pub heard_woken : (next : AfterCallbacks) (t : ℕ) (of : Heard) (w w' : Worker) (s s' : Shared B) (e : Event) → SoundAt (Place.Callbacks (InCallbacks.WakeWaiter t of) next) w s → HasWhole w s → WakesHearer t of next w w' s s' e → Steps left spot w s e w' s'
  heard_woken next t of w w' s s' e sound has it = by_heard of refl sound.hears
    where
      x : InCallbacks
      x = InCallbacks.WakeWaiter t of

      left' : Deferred Reply Reply
      left' = w.home.deferred

      rs : List Record
      rs = s.requests.items

      ss : List SleeperRecord
      ss = s.sleepers.items

      boxes : List Box
      boxes = map box_of s.seats.items

      hears : HearsIt t s
      hears = hears_there t of w s has sound.hears

      slot : TaskSlot B
      slot = hears.slot

      s1 : Shared B
      s1 = record s { tasks = s'.tasks; requests = it.paid.requests; sleepers = it.paid.sleepers }

      kept : s' ≡ s1
      kept = it.wakes_it.task.kept ∙ ap (λ (y : Shared B). record y { tasks = s'.tasks }) it.kept

      there_paid : slice_get it.paid.tasks.items t ≡ Some slot
      there_paid = ap (λ (y : Shared B). slice_get y.tasks.items t) it.kept ∙ hears.there

      items : s'.tasks.items ≡ slice_set s.tasks.items t (woken_slot slot)
      items = it.wakes_it.task.tasks slot there_paid ∙ ap (λ (y : Shared B). slice_set y.tasks.items t (woken_slot slot)) it.kept

      goes_on : w' ≡ (if is_cell_idle slot.cell.phase then queued_after t (runnable_of slot.cell) next (with_left w left') else record (with_left w left') { place = next_callback_of next (with_left w left') })
      goes_on = it.wakes_it.worker slot there_paid

      nobody : (j : ℕ) → slot.home ≡ Some j → (j ≡ w.index) × (t ≡ w.root)
      nobody j is = let never : None ≡ Some j = sym hears.home ∙ is in absurd (cc)

      by_heard : (o : Heard) → of ≡ o → HasHeard w.index t of rs ss → Steps left spot w s e w' s'
      by_heard o is heard = by_what o is (subst (λ y. HasHeard w.index t y rs ss) is heard)
        where
          moves : (payer : Payer) → payer_heard of ≡ Pays payer → (p : Plan) (vs : Views) → move_at p.config w.index (own_of w) (common_of left spot p vs s) (desk_of w) (things_with vs s) (Place.Callbacks x next)
              ≡ record { event = Wake t; choice = Pays payer; desk = woken_by (ring_size p.config) w.index (own_of w) (common_of left spot p vs s) next t (record (desk_of w) { wakes = map (λ m. m.0) left'.notes.wakes.items }) (task_of (common_of left spot p vs s) t); thing = things_with vs s }
          moves payer pays p vs =
              ap (λ c. record { event = Wake t; choice = c; desk = woken_by (ring_size p.config) w.index (own_of w) (common_of left spot p vs s) next t (desk_of w) (task_of (common_of left spot p vs s) t); thing = things_with vs s }) pays

          done : (payer : Payer) → Pays1 left spot payer x next t w s s1 slot left' → Steps left spot w s e w' s'
          done payer by = woken_steps left spot payer x next t w w' s s1 s' e slot left' by goes_on kept it.wakes_it.event

          by_what : (o : Heard) → of ≡ o → HasHeard w.index t o rs ss → Steps left spot w s e w' s'
          by_what (Heard.Request k) is (r, there, worker, waiter, goes, few, was_sent) =
              let f = r.shown.forwarding in
              let parts = and_parts (is_applied f) (is_resolved r.shown.phase || not r.shown.observed) goes in
              let requests : it.paid.requests.items ≡ changed_at rs k paying = it.requests ∙ ap (λ u. records_paid (thing_heard u) rs) is in
              let sleepers : it.paid.sleepers.items ≡ ss = it.sleepers ∙ ap (λ u. sleepers_paid (thing_heard u) ss) is in
              let total : results_of k left' + one_if r.sent ≡ one_if (goes_elsewhere r) = sound.rooted.sent k r there worker in
              let none : results_of k left' ≡ 0 = none_counted (results_of k left') (one_if (goes_elsewhere r)) (ap (λ b. results_of k left' + one_if b) (sym was_sent) ∙ total) (one_at_most (goes_elsewhere r)) in
              let rooted = rooted_paid w.index w.names (driver_of w) w.home.timers left' rs ss k r there
              (λ going held. by_over (is_resolved r.shown.phase) r.shown.observed parts.1 going held)
              (λ unapplied. absurd (false≢true (sym unapplied ∙ parts.0)))
              (λ a among of_it.
              let more : 0 < results_of k left' = count_some (λ y. is_of_request k y.sender.of) left'.results.items a among (ap (is_of_request k) of_it ∙ eq-eqb k k refl) in
              absurd (omega (arith, more, none))) sound.rooted in
              let pays_by : PaysBy left spot k t w s r = record {
                there = there;
                mine = worker;
                waiter = waiter;
                unpaid = unpaid_elsewhere r.shown.wakes_paid f few parts.0;
                over = λ p vs suits. over_elsewhere (is_resolved r.shown.phase) r.shown.observed (not (is_open (seat_of (common_of left spot p vs s) r.shown.worker).phase)) f parts.0 parts.1;
              } in
              done (ByRequest k)
              (record {
                sound = sound;
                idle = sound.searching;
                there = hears.there;
                home = nobody;
                items = items;
                same = refl;
                remade = remade_request x next w s s1 left' paying pays (λ y. refl) k r there sound requests sleepers sound.told sound.wide rooted;
                turn = turn_request w.index k s s1 r paying pays (λ y. refl) there worker requests sleepers;
                holding = λ others whole.
                    let h = hands_of (with_worker others w) in
                    let paid = thing_pays h h.wakes s.config.workers (map holder_of s.tasks.items) (map thing_of rs) (map nap_of ss) boxes k (thing_of r)
                    (record { thing = mapped thing_of rs k r there; fewer = λ i u some. refl; unowed = λ i u some ow. false≢true (sym ow.unsent ∙ was_sent) }) whole.holding in
                    subst (λ ts. IsHolding h s.config.workers (map holder_of s.tasks.items) ts (map nap_of it.paid.sleepers.items) boxes) (sym (ap (map thing_of) requests ∙ things_paid rs k r there))
                    (subst (λ zs. IsHolding h s.config.workers (map holder_of s.tasks.items) (slice_set (map thing_of rs) k (record (thing_of r) { paid = r.shown.wakes_paid + 1 })) (map nap_of zs) boxes) (sym sleepers) paid);
                paying = λ p vs suits.
                    record {
                      moves = moves (ByRequest k) (ap payer_heard is) p vs;
                      paid = request_paid left spot x next k t w s r sound pays_by p vs suits;
                      after = request_after left spot k t w s s1 r there requests sleepers p vs (own_of w).polls;
                      things = request_things left spot k w s s1 r (Place.Callbacks x next) sound there requests sleepers vs;
                    };
              })
          by_what (Heard.Timer k) is (z, there, worker, task, ends, few, was_sent) =
              let f = z.shown.forwarding in
              let z' : SleeperRecord = sleeper_paying z in
              let alike : SleepsAlike z z' = record { kept = refl } in
              let parts = and_parts (is_applied f) (z.shown.fired || (z.shown.removed || z.closed)) ends in
              let requests : it.paid.requests.items ≡ rs = it.requests ∙ ap (λ u. records_paid (thing_heard u) rs) is in
              let sleepers : it.paid.sleepers.items ≡ slice_set ss k z' = it.sleepers ∙ ap (λ u. sleepers_paid (thing_heard u) ss) is ∙ ap (sleeper_paid_in ss k) there in
              let total : completions_of k left' + one_if z.sent ≡ one_if (ends_elsewhere z) = sound.rooted.sleeper_sent k z there worker in
              let none : completions_of k left' ≡ 0 = none_counted (completions_of k left') (one_if (ends_elsewhere z)) (ap (λ b. completions_of k left' + one_if b) (sym was_sent) ∙ total) (one_at_most (ends_elsewhere z)) in
              let rooted = rooted_slept w.index w.names (driver_of w) w.home.timers left' rs ss k z there
              (λ unfired still. neither z.shown.fired (z.shown.removed || z.closed) unfired still parts.1)
              (λ unapplied. absurd (false≢true (sym unapplied ∙ parts.0)))
              (λ c among of_it.
              let more : 0 < completions_of k left' = count_some (λ y. is_of_timer k y.sender.of) left'.notes.completions.items c among (ap (is_of_timer k) of_it ∙ eq-eqb k k refl) in
              absurd (omega (arith, more, none))) sound.rooted in
              let pays_by : SleeperPaysBy left spot k t w s z = record {
                there = there;
                mine = worker;
                task = task;
                unpaid = unpaid_elsewhere z.shown.wakes_paid f few parts.0;
                over = λ p vs suits.
                    fired_either z.shown.fired z.shown.removed z.closed (not (is_open (seat_of (common_of left spot p vs s) z.shown.worker).phase)) parts.1
                    (λ closed. shut_seen left spot p vs (Place.Callbacks x next) w s z.shown.worker sound suits worker (sound.due.asleep.lets_go k z there worker closed));
              } in
              done (BySleeper k)
              (record {
                sound = sound;
                idle = sound.searching;
                there = hears.there;
                home = nobody;
                items = items;
                same = refl;
                remade = remade_sleeper x next w s s1 left' k z z' there alike sound requests sleepers sound.told sound.wide rooted;
                turn = turn_sleeper w.index k s s1 z z' alike there worker requests sleepers;
                holding = λ others whole.
                    let h = hands_of (with_worker others w) in
                    let old = whole.holding in
                    let paid = nap_marked h h.wakes s.config.workers (map holder_of s.tasks.items) (map thing_of rs) (map nap_of ss) boxes k (nap_of z) (nap_of z')
                    (record { nap = mapped nap_of ss k z there; is = refl; sent = λ was. old.sent_too k (nap_of z) (mapped nap_of ss k z there) was; fewer = λ i u some. refl; unowed = λ i u some ow. false≢true (sym ow.unsent ∙ was_sent) }) old in
                    subst (λ ys. IsHolding h s.config.workers (map holder_of s.tasks.items) (map thing_of ys) (map nap_of it.paid.sleepers.items) boxes) (sym requests)
                    (subst (λ zs. IsHolding h s.config.workers (map holder_of s.tasks.items) (map thing_of rs) zs boxes) (sym (ap (map nap_of) sleepers ∙ map-set nap_of ss k z')) paid);
                paying = λ p vs suits.
                    record {
                      moves = moves (BySleeper k) (ap payer_heard is) p vs;
                      paid = sleeper_paid left spot x next k t w s z sound pays_by p vs suits;
                      after = sleeper_after left spot k s s1 z there requests sleepers p vs (own_of w).polls;
                      things = sleeper_things left spot k s s1 z there requests sleepers vs;
                    };
              })
