-- The callbacks: the next of the wakes that are left is paid, and its task woken.
use Rattle.std.proofs.{Common.{◌≡◌, ⊎_elim, ℕ, ◌+◌, ◌<◌, ◌&&◌, ◌||◌, Bool, true, false, not, List, ◌∷◌, drop, map, Option, Some, refl, sym, ap, subst, ◌∙◌, arith, slice_get, slice_set, if◌then◌else◌}, lemmas.{Bool.{false≢true, eq-eqb}, List.map-set}}
use Rattle.exec_waiters.specs.declared.deferred.Deferred.{Deferred}
use Rattle.exec_task.specs.{Phases.{is_idle as is_cell_idle, runnable_of}, declared.body.Said.Said}
use Rattle.exec_machine.specs.{Choice.{Choice.Pays, Payer, Payer.{ByRequest, BySleeper}}, declared.{event.Event.{Event, TheVariants.Wake}, state.Waiting.Waiting}, Progress.Plan, Ranges.ring_size, Tests.{is_open, is_resolved, is_unsent}, World.{seat_of, task_of}}
use Rattle.exec_moves.specs.{Callback.{payer_of, woken_by}, declared.{handing.AfterCallbacks.AfterCallbacks, place.{InCallbacks.InCallbacks, Place.Place}}, Move.{move_at, move_item}, State.Desk}
use Rattle.exec_parts.{specs.{declared.parts.{mail.Reply.Reply, record.Record.Record, shared.Shared.Shared, sleeping.SleeperRecord.SleeperRecord, task_slot.TaskSlot.TaskSlot, worker.Worker.Worker}, Calls.{paying, records_paid, sleeper_paid_in, sleeper_paying, sleepers_paid, IsTold}, MailTakes.{WakesNext, queued_after}, Pooled.woken_slot, Serving.changed_at, Spots.Spot, Tests.next_callback_of, View.{Views, common_of, desk_of, driver_of, own_of, task_seen, things_with}}, proofs.Facts.same_Some}
use Rattle.exec_invariants.{specs.{HoldPlaces.spare_before, Holding.{Box, IsHolding, IsOwed, NapOwes, Owes, Thing, ThingOwes, MayHave, Nap, awaited_in, box_of, holder_of, nap_of, thing_of}, Names.{HasWidth, tellers}, Sound.SoundAt, Whole.{HasWhole, hands_of, with_worker}, Works.Steps}, proofs.{Lined.{mapped, unmapped}, Marking.pays, Slots.task_there, MailApplies.split_first}}
use Rattle.exec_messages.proofs.{BackHolds.{nap_marked, thing_pays}, BackPaid.{closing_seen, fewer_wakes, fired_either, first_of_three, item_wakes, mine_or_ordinary, neither, rooted_wakes, second_of_three, shut_seen, things_paid, wakes_then, wide_wakes}, BackMarks.{SleepsAlike, remade_request, remade_sleeper}, BackOthers.{turn_request, turn_sleeper, with_left}, BackPays.{PaysBy, SleeperPaysBy, request_after, request_paid, request_things, sleeper_after, sleeper_paid, sleeper_things, some_resolved, unpaid_once}, BackRooted.{rooted_paid, rooted_slept}, BackWakes.{Pays1, woken_steps}, MailOwes.counted_first}

module _ {B L : Type 0} (left : B → L) (spot : L → Option Said → Spot) where
  pub next_woken : (next : AfterCallbacks) (w w' : Worker) (s s' : Shared B) (e : Event) → SoundAt (Place.Callbacks InCallbacks.CallBack next) w s → HasWhole w s → WakesNext next w w' s s' e → Steps left spot w s e w' s'
  next_woken next w w' s s' e sound has it = by_waiting it.slot.waiting refl owes
    where
      t : ℕ
      t = it.n.0

      slot : TaskSlot B
      slot = it.slot

      left' : Deferred Reply Reply
      left' = it.v.home.deferred

      rs : List Record
      rs = s.requests.items

      ss : List SleeperRecord
      ss = s.sleepers.items

      boxes : List Box
      boxes = map box_of s.seats.items

      all : w.home.deferred.notes.wakes.items ≡ it.n ∷ left'.notes.wakes.items
      all = split_first w.home.deferred.notes.wakes.items it.n it.first ∙ ap (λ xs. it.n ∷ xs) (sym it.wakes)

      same : left' ≡ record w.home.deferred { notes = record w.home.deferred.notes { wakes = left'.notes.wakes } }
      same = ap (λ (x : Worker). x.home.deferred) it.worker

      at_v : it.v ≡ with_left w left'
      at_v = it.worker ∙ ap (with_left w) (sym same)

      s1 : Shared B
      s1 = record s { tasks = s'.tasks; requests = it.paid.requests; sleepers = it.paid.sleepers }

      kept : s' ≡ s1
      kept = it.wakes_it.task.kept ∙ ap (λ (y : Shared B). record y { tasks = s'.tasks }) it.kept

      there_paid : slice_get it.paid.tasks.items t ≡ Some slot
      there_paid = ap (λ (y : Shared B). slice_get y.tasks.items t) it.kept ∙ it.there

      items : s'.tasks.items ≡ slice_set s.tasks.items t (woken_slot slot)
      items = it.wakes_it.task.tasks slot there_paid ∙ ap (λ (y : Shared B). slice_set y.tasks.items t (woken_slot slot)) it.kept

      goes : w' ≡ (if is_cell_idle slot.cell.phase then queued_after t (runnable_of slot.cell) next (with_left w left') else record (with_left w left') { place = next_callback_of next (with_left w left') })
      goes = grind arith

      told : IsTold w.names.ended.items left' (tellers (driver_of w).requests w.home.timers + spare_before (Some next))
      told = it.room w.names.ended.items (tellers (driver_of w).requests w.home.timers + spare_before (Some next)) sound.told

      wide : HasWidth left' (tellers (driver_of w).requests w.home.timers + 64)
      wide = wide_wakes w.home.deferred left' (tellers (driver_of w).requests w.home.timers + 64) same it.wide sound.wide

      owed : IsOwed w.index t (map holder_of s.tasks.items) (map thing_of rs) (map nap_of ss) boxes
      owed = (has.whole.holding.owed w.index t (rw (eq-eqb w.index w.index refl) (counted_first w.home.deferred.notes.wakes.items it.n it.first))).1

      owes : Owes w.index t (awaited_in slot.waiting) (map thing_of rs) (map nap_of ss) boxes
      owes =
          let mine = unmapped holder_of s.tasks.items t owed.it owed.there in
          let is : mine.0 ≡ slot = same_Some mine.0 slot (sym mine.1 ∙ it.there) in
          let awaits : owed.it.awaits ≡ awaited_in slot.waiting = sym (ap (λ y. y.awaits) mine.2) ∙ ap (λ (y : TaskSlot B). awaited_in y.waiting) is in
          subst (λ a. Owes w.index t a (map thing_of rs) (map nap_of ss) boxes) awaits owed.owes

      -- what the machine does there
      moves : (payer : Payer) → payer_of slot.waiting ≡ Pays payer → (p : Plan) (vs : Views) → move_at p.config w.index (own_of w) (common_of left spot p vs s) (desk_of w) (things_with vs s) (Place.Callbacks InCallbacks.CallBack next)
          ≡ record { event = Wake t; choice = Pays payer; desk = woken_by (ring_size p.config) w.index (own_of w) (common_of left spot p vs s) next t (record (desk_of w) { wakes = map (λ m. m.0) left'.notes.wakes.items }) (task_of (common_of left spot p vs s) t); thing = things_with vs s }
      moves payer pays p vs =
          let cs = common_of left spot p vs s in
          let xs = things_with vs s in
          let d : Desk = desk_of w in
          let ts : List ℕ = map (λ m. m.0) left'.notes.wakes.items in
          let listed : d.wakes ≡ t ∷ ts = ap (map (λ m. m.0)) all in
          let at : task_of cs t ≡ task_seen left spot slot = task_there left spot s.tasks.items t slot it.there in
          ap (move_item p.config w.index (own_of w) cs d xs next) (item_wakes (own_of w) d t ts listed)
          ∙ ap (λ c. record { event = Wake t; choice = c; desk = woken_by (ring_size p.config) w.index (own_of w) cs next t (record d { wakes = drop 1 d.wakes }) (task_of cs t); thing = xs }) (ap (λ y. payer_of y.waiting) at ∙ pays)
          ∙ ap (λ ws. record { event = Wake t; choice = Pays payer; desk = woken_by (ring_size p.config) w.index (own_of w) cs next t (record d { wakes = ws }) (task_of cs t); thing = xs }) (ap (drop 1) listed)

      done : (payer : Payer) → Pays1 left spot payer InCallbacks.CallBack next t w s s1 slot left' → Steps left spot w s e w' s'
      done payer by = woken_steps left spot payer InCallbacks.CallBack next t w w' s s1 s' e slot left' by goes kept it.wakes_it.event

      by_waiting : (what : Waiting) → slot.waiting ≡ what → Owes w.index t (awaited_in slot.waiting) (map thing_of rs) (map nap_of ss) boxes → Steps left spot w s e w' s'
      by_waiting what wait owes = by_what what wait (subst (λ o. Owes w.index t (awaited_in o) (map thing_of rs) (map nap_of ss) boxes) wait owes)
        where
          by_request : (k : ℕ) → slot.waiting ≡ Waiting.Request k → (r : Record) → slice_get rs k ≡ Some r → ThingOwes w.index t (thing_of r) boxes → Steps left spot w s e w' s'
          by_request k wait r there o =
              let requests : it.paid.requests.items ≡ changed_at rs k paying = it.requests ∙ ap (λ u. records_paid u rs) wait in
              let sleepers : it.paid.sleepers.items ≡ ss = it.sleepers ∙ ap (λ u. sleepers_paid u ss) wait in
              let never : is_resolved r.shown.phase ≡ false → r.shown.observed ≡ true → ⊥ = λ going held.
              ⊎_elim (λ over. absurd (false≢true (sym going ∙ some_resolved r.shown.phase over))) (λ gone. absurd (false≢true (sym gone.0 ∙ held))) o.over in
              let rooted = rooted_wakes w.index w.names w w.home.deferred left' (changed_at rs k paying) ss same
              (rooted_paid w.index w.names (driver_of w) w.home.timers w.home.deferred rs ss k r there never (λ unapplied. o.unpaid) (λ a has_it of. o.unpaid) sound.rooted) in
              let a = has.whole.holding.awaiting t (holder_of slot) k (mapped holder_of s.tasks.items t slot it.there) (ap awaited_in wait) in
              let one : a.0 ≡ thing_of r = same_Some a.0 (thing_of r) (sym a.1 ∙ mapped thing_of rs k r there) in
              let its : (j : ℕ) → slot.home ≡ Some j → j ≡ w.index = λ j home.
              let near : a.0.worker ≡ j = subst (λ h. MayHave s.config.workers h a.0.worker) home a.2.near in
              sym near ∙ ap (λ (y : Thing). y.worker) one ∙ o.worker in
              let pays_by : PaysBy left spot k t w s r = record {
                there = there;
                mine = o.worker;
                waiter = o.waiter;
                unpaid = unpaid_once r.shown.wakes_paid r.shown.forwarding o.unpaid;
                over = λ p vs suits.
                    let shut : Bool = not (is_open (seat_of (common_of left spot p vs s) r.shown.worker).phase) in
                    let rest : Bool = not (is_unsent r.shown.forwarding) && not r.shown.observed in
                    ⊎_elim (λ over. first_of_three (is_resolved r.shown.phase) shut rest (some_resolved r.shown.phase over))
                    (λ gone. second_of_three (is_resolved r.shown.phase) shut rest (closing_seen left spot p vs (Place.Callbacks InCallbacks.CallBack next) w s r.shown.worker sound suits o.worker gone.1)) o.over;
              } in
              done (ByRequest k)
              (record {
                sound = sound;
                idle = sound.searching;
                there = it.there;
                home = mine_or_ordinary t w s slot (Place.Callbacks InCallbacks.CallBack next) sound it.there its;
                items = items;
                same = same;
                remade = remade_request InCallbacks.CallBack next w s s1 left' paying pays (λ y. refl) k r there sound requests sleepers told wide rooted;
                turn = turn_request w.index k s s1 r paying pays (λ y. refl) there o.worker requests sleepers;
                holding = λ others whole.
                    let h = hands_of (with_worker others w) in
                    let few = fewer_wakes it.n w left' s others all whole in
                    let paid = thing_pays h (wakes_then others w left') s.config.workers (map holder_of s.tasks.items) (map thing_of rs) (map nap_of ss) boxes k (thing_of r)
                    (record {
                      thing = mapped thing_of rs k r there;
                      fewer = few.fewer;
                      unowed = λ i u some ow.
                          let worker : i ≡ w.index = sym ow.worker ∙ o.worker in
                          let task : u ≡ t = same_Some u t (sym ow.waiter ∙ o.waiter) in
                          let more : 0 < wakes_then others w left' w.index t = subst (λ j. 0 < wakes_then others w left' j t) worker (subst (λ v. 0 < wakes_then others w left' i v) task some) in
                          let none = few.none in
                          omega (arith, more, none);
                    }) whole.holding in
                    subst (λ ts. IsHolding (hands_of (with_worker others (with_left w left'))) s.config.workers (map holder_of s.tasks.items) ts (map nap_of it.paid.sleepers.items) boxes) (sym (ap (map thing_of) requests ∙ things_paid rs k r there))
                    (subst (λ zs. IsHolding (hands_of (with_worker others (with_left w left'))) s.config.workers (map holder_of s.tasks.items) (slice_set (map thing_of rs) k (record (thing_of r) { paid = r.shown.wakes_paid + 1 })) (map nap_of zs) boxes) (sym sleepers) paid);
                paying = λ p vs suits.
                    record {
                      moves = moves (ByRequest k) (ap payer_of wait) p vs;
                      paid = request_paid left spot InCallbacks.CallBack next k t w s r sound pays_by p vs suits;
                      after = request_after left spot k t w s s1 r there requests sleepers p vs (own_of w).polls;
                      things = request_things left spot k w s s1 r (Place.Callbacks InCallbacks.CallBack next) sound there requests sleepers vs;
                    };
              })

          by_timer : (k : ℕ) → slot.waiting ≡ Waiting.Timer k → (z : SleeperRecord) → slice_get ss k ≡ Some z → NapOwes w.index t (nap_of z) → Steps left spot w s e w' s'
          by_timer k wait z there o =
              let z' : SleeperRecord = sleeper_paying z in
              let alike : SleepsAlike z z' = record { kept = refl } in
              let requests : it.paid.requests.items ≡ rs = it.requests ∙ ap (λ u. records_paid u rs) wait in
              let sleepers : it.paid.sleepers.items ≡ slice_set ss k z' = it.sleepers ∙ ap (λ u. sleepers_paid u ss) wait ∙ ap (sleeper_paid_in ss k) there in
              let never : z.shown.fired ≡ false → (z.shown.removed || z.closed) ≡ false → ⊥ = λ unfired still. neither z.shown.fired (z.shown.removed || z.closed) unfired still o.over in
              let rooted = rooted_wakes w.index w.names w w.home.deferred left' rs (slice_set ss k z') same
              (rooted_slept w.index w.names (driver_of w) w.home.timers w.home.deferred rs ss k z there never (λ unapplied. o.unpaid) (λ c has_it of. o.unpaid) sound.rooted) in
              let a = has.whole.holding.asleep t (holder_of slot) k (mapped holder_of s.tasks.items t slot it.there) (ap awaited_in wait) in
              let one : a.0 ≡ nap_of z = same_Some a.0 (nap_of z) (sym a.1 ∙ mapped nap_of ss k z there) in
              let its : (j : ℕ) → slot.home ≡ Some j → j ≡ w.index = λ j home.
              let near : a.0.worker ≡ j = subst (λ h. MayHave s.config.workers h a.0.worker) home a.2.near in
              sym near ∙ ap (λ (y : Nap). y.worker) one ∙ o.worker in
              let pays_by : SleeperPaysBy left spot k t w s z = record {
                there = there;
                mine = o.worker;
                task = o.task;
                unpaid = unpaid_once z.shown.wakes_paid z.shown.forwarding o.unpaid;
                over = λ p vs suits.
                    fired_either z.shown.fired z.shown.removed z.closed (not (is_open (seat_of (common_of left spot p vs s) z.shown.worker).phase)) o.over
                    (λ closed. shut_seen left spot p vs (Place.Callbacks InCallbacks.CallBack next) w s z.shown.worker sound suits o.worker (sound.due.asleep.lets_go k z there o.worker closed));
              } in
              done (BySleeper k)
              (record {
                sound = sound;
                idle = sound.searching;
                there = it.there;
                home = mine_or_ordinary t w s slot (Place.Callbacks InCallbacks.CallBack next) sound it.there its;
                items = items;
                same = same;
                remade = remade_sleeper InCallbacks.CallBack next w s s1 left' k z z' there alike sound requests sleepers told wide rooted;
                turn = turn_sleeper w.index k s s1 z z' alike there o.worker requests sleepers;
                holding = λ others whole.
                    let h = hands_of (with_worker others w) in
                    let few = fewer_wakes it.n w left' s others all whole in
                    let old = whole.holding in
                    let paid = nap_marked h (wakes_then others w left') s.config.workers (map holder_of s.tasks.items) (map thing_of rs) (map nap_of ss) boxes k (nap_of z) (nap_of z')
                    (record {
                      nap = mapped nap_of ss k z there;
                      is = refl;
                      sent = λ was. old.sent_too k (nap_of z) (mapped nap_of ss k z there) was;
                      fewer = few.fewer;
                      unowed = λ i u some ow.
                          let worker : i ≡ w.index = sym ow.worker ∙ o.worker in
                          let task : u ≡ t = sym ow.task ∙ o.task in
                          let more : 0 < wakes_then others w left' w.index t = subst (λ j. 0 < wakes_then others w left' j t) worker (subst (λ v. 0 < wakes_then others w left' i v) task some) in
                          let none = few.none in
                          omega (arith, more, none);
                    }) old in
                    subst (λ ys. IsHolding (hands_of (with_worker others (with_left w left'))) s.config.workers (map holder_of s.tasks.items) (map thing_of ys) (map nap_of it.paid.sleepers.items) boxes) (sym requests)
                    (subst (λ zs. IsHolding (hands_of (with_worker others (with_left w left'))) s.config.workers (map holder_of s.tasks.items) (map thing_of rs) zs boxes) (sym (ap (map nap_of) sleepers ∙ map-set nap_of ss k z')) paid);
                paying = λ p vs suits.
                    record {
                      moves = moves (BySleeper k) (ap payer_of wait) p vs;
                      paid = sleeper_paid left spot InCallbacks.CallBack next k t w s z sound pays_by p vs suits;
                      after = sleeper_after left spot k s s1 z there requests sleepers p vs (own_of w).polls;
                      things = sleeper_things left spot k s s1 z there requests sleepers vs;
                    };
              })

          by_what : (what : Waiting) → slot.waiting ≡ what → Owes w.index t (awaited_in what) (map thing_of rs) (map nap_of ss) boxes → Steps left spot w s e w' s'
          by_what (Waiting.Request k) wait owes =
              let f = unmapped thing_of rs k owes.0 owes.1 in
              by_request k wait f.0 f.1 (subst (λ y. ThingOwes w.index t y boxes) (sym f.2) owes.2)
          by_what (Waiting.Timer k) wait owes =
              let f = unmapped nap_of ss k owes.0 owes.1 in
              by_timer k wait f.0 f.1 (subst (λ y. NapOwes w.index t y) (sym f.2) owes.2)
          by_what Waiting.Nothing wait owes = absurd owes
          by_what Waiting.Wake wait owes = absurd owes
          by_what Waiting.Woken wait owes = absurd owes
          by_what Waiting.Yielded wait owes = absurd owes
