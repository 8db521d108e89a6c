-- The callbacks: the end of a sleeper is sent to its task, which waits elsewhere.
use Rattle.std.proofs.{Common.{[], ◌≡◌, ℕ, zero, ◌+◌, ◌<◌, ◌≤◌, ◌==◌, ◌||◌, true, false, Contains, List, ◌∷◌, count_by, drop, length, map, Option, Some, nat_lt, refl, sym, ap, subst, ◌∙◌, arith, slice_get, slice_set, if◌then◌else◌}, lemmas.{List.map-set, Option.slice_get_within}}
use Rattle.exec_base.specs.declared.task_no.TaskNo.{TaskNo}
use Rattle.exec_time.specs.declared.notes.ForwardedResult.{ForwardedResult}
use Rattle.exec_waiters.specs.declared.deferred.Deferred.{Deferred}
use Rattle.exec_task.specs.declared.body.Said.{Said}
use Rattle.exec_machine.specs.{Choice.Choice.Plain, declared.{event.Event.{Event, TheVariants.Turn}, state.Forwarding.Forwarding}, Ranges.ring_size, Tests.is_applied}
use Rattle.exec_moves.specs.{Callback.tells_waiter, declared.{handing.{AfterCallbacks.AfterCallbacks, Heard.Heard}, place.{InCallbacks.InCallbacks, Place.Place}}, Move.move_item, State.Desk, Thing.set_alarms, Told.in_order}
use Rattle.exec_parts.{specs.{declared.parts.{mail.Reply.Reply, record.Record.Record, shared.Shared.Shared, sleeping.SleeperRecord.SleeperRecord, task_slot.TaskSlot.TaskSlot, worker.Worker.Worker}, Calls.{sleeper_sent, IsTold}, MailTakes.{IsSentEnd, MaySendEnd, SendsEnd}, Spots.Spot, View.{common_of, completions_in, desk_of, driver_of, number_heard, numbers_of_passing, own_of, results_in, things_with}}, proofs.Facts.{and_parts, same_Some, set_there}}
use Rattle.exec_invariants.{proofs.{Showing.map_kept, Aside.{seats_same, spares_turn}, Hearing.unheard, Lined.mapped, Seen.sleeper_at, MailApplies.split_first}, specs.{HoldPlaces.spare_before, Holding.{IsHolding, box_of, holder_of, nap_of, thing_of}, Rooted.{HasHeard, IsCompletion, IsRooted, ends_elsewhere}, Names.{HasWidth, tellers}, Sound.SoundAt, Whole.{HasWhole, Profile, hands_of, with_worker}, Works.Steps}}
use Rattle.exec_messages.proofs.{BackHears.{HearsIt, ordinary_there}, BackHolds.nap_marked, BackMarks.{Remade, SleepsAlike, remade, remade_sleeper}, BackOthers.{OwnTurn, spares_turned, turn_sleeper, whole_sent, with_left}, BackPaid.{applied_is, mine_then, unsent_never, wakes_then}, BackPays.nap_was_sent, BackRooted.{rooted_completed, to_complete}, BackSends.{Sends, item_completes, numbers_set, sent_steps}}
pub use Rattle.std.proofs.lemmas.List.{nil_from_length}

pub first_there : {A : Type 0} (xs : List A) → 0 < length xs → (x : A) × (slice_get xs 0 ≡ Some x)
first_there [] some = absurd (omega (arith, some))
first_there (x ∷ xs) some = (x, refl)

pub first_in : {A : Type 0} (xs rest : List A) (x : A) → xs ≡ x ∷ rest → Contains xs x
first_in xs rest x is = subst (λ ys. Contains ys x) (sym is) (zero, omega arith, refl)

-- nobody is about to be woken
pub nobody_woken : (left' : Deferred Reply Reply) (others : Profile) (w : Worker) → left'.notes.wakes.items ≡ [] → (u : ℕ) → wakes_then others w left' w.index u ≡ 0
nobody_woken left' others w none u = mine_then others w left' u ∙ ap (count_by (λ n. n.0 == u)) none

pub same_wakes : (left' : Deferred Reply Reply) (others : Profile) (w : Worker) → left'.notes.wakes.items ≡ w.home.deferred.notes.wakes.items → (i u : ℕ) → wakes_then others w left' i u ≡ (with_worker others w).wakes i u
same_wakes left' others w same i u = ap (λ (ns : List TaskNo). if i == w.index then count_by (λ n. n.0 == u) ns else others.wakes i u) same

module _ {B : Type 0} where
  pub may_send_end : (n : AfterCallbacks) (w : Worker) (s : Shared B) → SoundAt (Place.Callbacks InCallbacks.CallBack n) w s → HasWhole w s → 0 < length w.home.deferred.notes.completions.items → MaySendEnd w s
  may_send_end n w s sound has some =
      let cs = w.home.deferred.notes.completions.items in
      let c = first_there cs some in
      let list : cs ≡ c.0 ∷ drop 1 cs = split_first cs c.0 c.1 in
      let it : IsCompletion w.index c.0 s.sleepers.items = sound.rooted.completions c.0 (first_in cs (drop 1 cs) c.0 list) in
      let of : c.0.sender.of ≡ Heard.Timer it.n = ap (λ (x : Reply). x.of) it.reply in
      let ends = (to_complete w.index it.n w.names (driver_of w) w.home.timers w.home.deferred s.requests.items s.sleepers.items c.0 (drop 1 cs) it.z it.there it.worker list of sound.rooted).1 in
      let f = it.z.shown.forwarding in
      let applied : is_applied f ≡ true = (and_parts (is_applied f) (it.z.shown.fired || (it.z.shown.removed || it.z.closed)) ends).0 in
      let hears : HearsIt it.z.shown.task s = ordinary_there it.z.shown.task it.z.shown.task s refl (has.whole.holding.asked_too it.n (nap_of it.z) (mapped nap_of s.sleepers.items it.n it.z it.there) (unsent_never f applied)) in
      record {
        z = it.n;
        sender = c.0.sender;
        first = λ d at. ap (λ (x : ForwardedResult Reply). x.sender) (same_Some d c.0 (sym at ∙ c.1));
        of = of;
        some = some;
        there = subst (λ m. m < length s.tasks.items) (sym (ap (λ (x : Reply). x.task.0) it.reply)) (slice_get_within s.tasks.items it.z.shown.task hears.slot hears.there);
        known = slice_get_within s.sleepers.items it.n it.z it.there;
      }

module _ {B L : Type 0} (left : B → L) (spot : L → Option Said → Spot) where
  pub end_sent : (next : AfterCallbacks) (w w' : Worker) (s s' : Shared B) (e : Event) → SoundAt (Place.Callbacks InCallbacks.CallBack next) w s → HasWhole w s → w.home.deferred.notes.wakes.items ≡ [] → length w.home.deferred.outputs.items ≡ 0 → length w.home.deferred.resources.items ≡ 0
      → 0 < length w.home.deferred.notes.completions.items → IsSentEnd next w w' s s' e → Steps left spot w s e w' s'
  end_sent next w w' s s' e sound has nobody no_outputs no_resources some sends =
      let cs = w.home.deferred.notes.completions.items in
      let c = first_there cs some in
      let list = split_first cs c.0 c.1 in
      let it : IsCompletion w.index c.0 s.sleepers.items = sound.rooted.completions c.0 (first_in cs (drop 1 cs) c.0 list) in
      by_one c.0 it list (subst (λ (x : Reply). SendsEnd x.task.0 (number_heard x.of) next w w' s s' e) it.reply (sends c.0 c.1))
    where
      by_one : (c : ForwardedResult Reply) (it : IsCompletion w.index c s.sleepers.items) → w.home.deferred.notes.completions.items ≡ c ∷ drop 1 w.home.deferred.notes.completions.items → SendsEnd it.z.shown.task it.n next w w' s s' e → Steps left spot w s e w' s'
      by_one c it list does = sent_steps left spot next t (Heard.Timer n) w w' s s1 s' e slot left' by (does.place slot hears.there) at_w does.kept does.event
        where
          n : ℕ
          n = it.n

          z : SleeperRecord
          z = it.z

          t : ℕ
          t = z.shown.task

          z' : SleeperRecord
          z' = sleeper_sent z

          ss : List SleeperRecord
          ss = s.sleepers.items

          rs : List Record
          rs = s.requests.items

          left' : Deferred Reply Reply
          left' = w'.home.deferred

          s1 : Shared B
          s1 = record s { sleepers = s'.sleepers }

          alike : SleepsAlike z z'
          alike = record { kept = refl }

          one : does.it ≡ z
          one = same_Some does.it z (sym does.sleeper ∙ it.there)

          items : s'.sleepers.items ≡ slice_set ss n z'
          items = does.sleepers ∙ ap (λ (y : SleeperRecord). slice_set ss n (sleeper_sent y)) one

          base : left' ≡ record w.home.deferred { notes = record w.home.deferred.notes { completions = left'.notes.completions } }
          base = ap (λ (y : Worker). y.home.deferred) does.worker

          same : left' ≡ record w.home.deferred { notes = record w.home.deferred.notes { completions = left'.notes.completions }; results = left'.results }
          same = base ∙ ap (λ rs. record w.home.deferred { notes = record w.home.deferred.notes { completions = left'.notes.completions }; results = rs }) (sym (ap (λ (y : Deferred Reply Reply). y.results) base))

          at_w : w' ≡ record w { place = w'.place; home = record w.home { deferred = left' } }
          at_w = does.worker ∙ ap (λ (y : Deferred Reply Reply). record w { place = w'.place; home = record w.home { deferred = y } }) (sym base)

          told : IsTold w.names.ended.items left' (tellers (driver_of w).requests w.home.timers + spare_before (Some next))
          told = does.room w.names.ended.items (tellers (driver_of w).requests w.home.timers + spare_before (Some next)) sound.told

          wide : HasWidth left' (tellers (driver_of w).requests w.home.timers + 64)
          wide =
              let m = tellers (driver_of w).requests w.home.timers + 64 in
              subst (λ y. HasWidth y m) (sym base) (record { wakes = sound.wide.wakes; completions = subst (λ k. m ≤ k) (sym does.wide) sound.wide.completions; outputs = sound.wide.outputs; resources = sound.wide.resources; results = sound.wide.results })

          all : w.home.deferred.notes.completions.items ≡ c ∷ left'.notes.completions.items
          all = list ∙ ap (λ xs. c ∷ xs) (sym does.completions)

          of : c.sender.of ≡ Heard.Timer n
          of = ap (λ (x : Reply). x.of) it.reply

          results : left'.results.items ≡ w.home.deferred.results.items
          results = ap (λ (y : Deferred Reply Reply). y.results.items) base

          rooted : IsRooted w.index w.names (driver_of w) w.home.timers left' rs (slice_set ss n z')
          rooted = rooted_completed w.index w.names (driver_of w) w.home.timers w.home.deferred left' rs ss n z c it.there all of results sound.rooted

          sent : (z.sent ≡ false) × (ends_elsewhere z ≡ true)
          sent = to_complete w.index n w.names (driver_of w) w.home.timers w.home.deferred rs ss c left'.notes.completions.items z it.there it.worker all of sound.rooted

          f : Forwarding
          f = z.shown.forwarding

          parts : (is_applied f ≡ true) × ((z.shown.fired || (z.shown.removed || z.closed)) ≡ true)
          parts = and_parts (is_applied f) (z.shown.fired || (z.shown.removed || z.closed)) sent.1

          hears : HearsIt t s
          hears = ordinary_there t t s refl (has.whole.holding.asked_too n (nap_of z) (mapped nap_of ss n z it.there) (unsent_never f parts.0))

          slot : TaskSlot B
          slot = hears.slot

          remade_it : Remade next w s s1 left'
          remade_it = remade_sleeper InCallbacks.CallBack next w s s1 left' n z z' it.there alike sound refl items told wide rooted

          turn : OwnTurn w.index s s1
          turn = turn_sleeper w.index n s s1 z z' alike it.there it.worker refl items

          heard : HasHeard w.index t (Heard.Timer n) s1.requests.items s1.sleepers.items
          heard = (z', ap (λ zs. slice_get zs n) items ∙ set_there ss n z' z it.there, it.worker, refl, sent.1, it.paid, refl)

          wakes : left'.notes.wakes.items ≡ w.home.deferred.notes.wakes.items
          wakes = ap (λ (y : Deferred Reply Reply). y.notes.wakes.items) base

          listed : (desk_of w).completions ≡ n ∷ completions_in left'.notes.completions.items
          listed = ap completions_in all ∙ ap (λ k. k ∷ completions_in left'.notes.completions.items) (ap number_heard of)

          ended : w.names.ended.items ≡ []
          ended = nil_from_length w.names.ended.items (sound.told.resources ∙ no_resources)

          by : Sends left spot next t (Heard.Timer n) w s s1 slot left'
          by = record {
            sound = sound;
            there = hears.there;
            same = same;
            mid = remade InCallbacks.CallBack next w s s1 left' sound sound.searching remade_it;
            heard = heard;
            beside = λ q' reads.
                record {
                  spares = λ j other. spares_turned w.index j s s1 other turn remade_it.carried.room (spares_turn w.index j s s other refl (seats_same w.index s.seats.items s.seats.items refl));
                  whole = λ others whole.
                      let h = hands_of (with_worker others w) in
                      let old = whole.holding in
                      let marked = nap_marked h (wakes_then others w left') s.config.workers (map holder_of s.tasks.items) (map thing_of rs) (map nap_of ss) (map box_of s.seats.items) n (nap_of z) (nap_of z')
                      (record {
                        nap = mapped nap_of ss n z it.there;
                        is = refl;
                        sent = λ was. (applied_is f parts.0, parts.1);
                        fewer = λ i u more. same_wakes left' others w wakes i u;
                        unowed = λ i u more ow.
                            let worker : i ≡ w.index = sym ow.worker ∙ it.worker in
                            let none : wakes_then others w left' w.index u ≡ 0 = nobody_woken left' others w (wakes ∙ nobody) u in
                            let here : 0 < wakes_then others w left' w.index u = subst (λ j. 0 < wakes_then others w left' j u) worker more in
                            omega (arith, none, here);
                      }) old in
                      whole_sent InCallbacks.CallBack next w (record w { place = q'; home = record w.home { deferred = left' } }) q' s s1 left' others sound reads refl turn.keeps
                      (subst (λ zs. IsHolding (hands_of (with_worker others (with_left w left'))) s.config.workers (map holder_of s.tasks.items) (map thing_of rs) zs (map box_of s.seats.items)) (sym (ap (map nap_of) items ∙ map-set nap_of ss n z')) marked) whole;
                };
            hears = λ q'. unheard refl refl refl;
            moves = λ p vs suits.
                let all_of = common_of left spot p vs s in
                let xs = things_with vs s in
                let d : Desk = desk_of w in
                let size = ring_size p.config in
                let me = own_of w in
                let to : ℕ → List ℕ → List ℕ → Desk = λ task cs rs. tells_waiter size w.index me all_of next (Some task) (Heard.Timer n) (record d { completions = cs; results = rs }) in
                ap (move_item p.config w.index me all_of d xs next) (item_completes me d n (completions_in left'.notes.completions.items) (ap (map (λ m. m.0)) nobody) (ap (nat_lt 0) no_outputs) ended listed)
                ∙ ap (λ k. record { event = Turn; choice = Plain; desk = to k.task (drop 1 d.completions) d.results; thing = set_alarms xs (in_order n xs.alarms) }) (sleeper_at ss n z it.there)
                ∙ ap (λ cs. record { event = Turn; choice = Plain; desk = to t cs d.results; thing = set_alarms xs (in_order n xs.alarms) }) (ap (drop 1) listed)
                ∙ ap (λ rs. record { event = Turn; choice = Plain; desk = to t (completions_in left'.notes.completions.items) rs; thing = set_alarms xs (in_order n xs.alarms) }) (sym (ap results_in results))
                ∙ ap (λ ns. record { event = Turn; choice = Plain; desk = to t (completions_in left'.notes.completions.items) (results_in left'.results.items); thing = set_alarms xs ns }) (sym (ap (numbers_of_passing nap_was_sent 0) items ∙ numbers_set nap_was_sent ss n z z' it.there sent.0 refl));
            common = λ p vs. ap (λ zs. record (common_of left spot p vs s) { sleepers = zs }) (ap (map (λ (y : SleeperRecord). y.shown)) items ∙ map_kept (λ (y : SleeperRecord). y.shown) ss n z' z it.there refl);
          }
