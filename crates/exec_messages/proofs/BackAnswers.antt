-- The callbacks: the output of a request, or that nobody holds it any more, is sent to the task that waits for it elsewhere.
use Rattle.std.proofs.{Common.{[], ◌≡◌, ℕ, ◌+◌, ◌<◌, ◌≤◌, ◌==◌, ◌&&◌, ◌||◌, true, false, not, List, ◌∷◌, drop, length, map, Option, Some, None, nat_lt, refl, sym, ap, subst, ◌∙◌, arith, slice_get, slice_set}, lemmas.{Bool.Decides.nat_tests, List.map-set, Option.slice_get_within}}
use Rattle.exec_base.specs.OneShot.{sent as sent_into}
use Rattle.exec_waiters.specs.{Told.is_untold, declared.deferred.{Answer.Answer, Deferred.Deferred}}
use Rattle.exec_task.specs.{Phases.is_polled, declared.body.Said.Said}
use Rattle.exec_machine.specs.{Choice.Choice.Plain, declared.{event.Event.{Event, TheVariants.Turn}, state.Forwarding.Forwarding}, Ranges.ring_size, Tests.{is_applied, is_resolved}}
use Rattle.exec_moves.specs.{Callback.tells_waiter, declared.{handing.{AfterCallbacks.AfterCallbacks, Heard.Heard}, place.{InCallbacks.InCallbacks, Place.Place}}, Move.move_item, State.Desk, Thing.set_answers, Told.in_order}
use Rattle.exec_parts.{specs.{declared.parts.{mail.Reply.Reply, record.Record.Record, shared.Shared.Shared, sleeping.SleeperRecord.SleeperRecord, task_slot.TaskSlot.TaskSlot, worker.Worker.Worker}, Calls.{as_sent, IsTold}, MailTakes.{IsSentOutput, MaySendOutput, SendsOutput}, Serving.{changed_at, changed_in}, Spots.Spot, View.{common_of, completions_in, desk_of, driver_of, number_heard, numbers_of_passing, open_seen, own_of, results_in, task_seen, things_with}}, proofs.Facts.{and_parts, same_Some, set_there}}
use Rattle.exec_invariants.{proofs.{Showing.map_kept, Hearing.hears_so, HoldBeside.Handles, Keys.{names_changed, same_opens}, Lined.{gates_seen_at, map_changed, mapped, opens_same, was_sent}, Marking.sends, Recorded.request_seen, Slots.spares_slot, SlotTasks.Keeps, MailApplies.split_first}, specs.{Gates.at_gate, HoldPlaces.spare_before, Holding.{IsHolding, box_of, holder_of, nap_of, thing_of}, Rooted.{HasHeard, IsResult, IsRooted}, Names.{HasWidth, tellers}, Sound.{IsResting, SoundAt}, Whole.{HasWhole, hands_of, with_worker}, Works.Steps}}
use Rattle.exec_messages.proofs.{BackEnds.{first_in, first_there, nobody_woken, nil_from_length}, BackHears.{HearsIt, ordinary_there}, BackHolds.thing_sent, BackMarks.{Remade, remade, remade_request}, BackOthers.{OwnTurn, spares_turned, turn_request, whole_answered}, BackPaid.{applied_is, unsent_never, wakes_then}, BackRooted.{ToBeSent, rooted_answered, to_be_sent}, BackSends.{Sends, item_answers, numbers_set, sent_steps}, BackTurns.{Ordinary, Retasked, other_retasked, retasked}}

-- where no other item is left, there is a result
result_left : (a b c d e : ℕ) → a ≡ 0 → b ≡ 0 → c ≡ 0 → d ≡ 0 → ((a == 0) && (b == 0) && (c == 0) && (d == 0) && (e == 0)) ≡ false → 0 < e
result_left a b c d e h i j k no_more = grind (arith, nat_tests)

pub last_left : (left : Deferred Reply Reply) → left.notes.wakes.items ≡ [] → length left.outputs.items ≡ 0 → length left.resources.items ≡ 0 → length left.notes.completions.items ≡ 0 → is_untold left ≡ false → 0 < length left.results.items
last_left left nobody no_outputs no_resources no_ends some =
    result_left (length left.notes.wakes.items) (length left.notes.completions.items) (length left.outputs.items) (length left.resources.items) (length left.results.items) (ap length nobody) no_ends no_outputs no_resources some

module _ {B : Type 0} where
  -- to whom a result is sent is an ordinary task
  result_hears : (n : AfterCallbacks) (w : Worker) (s : Shared B) (a : Answer Reply) (rest : List (Answer Reply)) → SoundAt (Place.Callbacks InCallbacks.CallBack n) w s → HasWhole w s → w.home.deferred.results.items ≡ a ∷ rest → (it : IsResult w.index a s.requests.items) → HearsIt a.sender.task.0 s
  result_hears n w s a rest sound has list it =
      let sent = to_be_sent w.index it.k w.names (driver_of w) w.home.timers w.home.deferred s.requests.items s.sleepers.items a rest it.r it.there it.worker list it.reply.of sound.rooted in
      let f = it.r.shown.forwarding in
      let applied : is_applied f ≡ true = (and_parts (is_applied f) (is_resolved it.r.shown.phase || not it.r.shown.observed) sent.goes).0 in
      let x = has.whole.holding.asked it.k (thing_of it.r) (mapped thing_of s.requests.items it.k it.r it.there) (unsent_never f applied) in
      ordinary_there a.sender.task.0 x.0 s (same_Some x.0 a.sender.task.0 (sym x.1 ∙ it.reply.task)) x.2

  pub may_send_output : (n : AfterCallbacks) (w : Worker) (s : Shared B) → SoundAt (Place.Callbacks InCallbacks.CallBack n) w s → HasWhole w s → 0 < length w.home.deferred.results.items → MaySendOutput w s
  may_send_output n w s sound has some =
      let answers = w.home.deferred.results.items in
      let a = first_there answers some in
      let list : answers ≡ a.0 ∷ drop 1 answers = split_first answers a.0 a.1 in
      let it : IsResult w.index a.0 s.requests.items = sound.rooted.results a.0 (first_in answers (drop 1 answers) a.0 list) in
      let hears : HearsIt a.0.sender.task.0 s = result_hears n w s a.0 (drop 1 answers) sound has list it in
      record {
        k = it.k;
        sender = a.0.sender;
        first = λ d at. ap (λ (x : Answer Reply). x.sender) (same_Some d a.0 (sym at ∙ a.1));
        of = it.reply.of;
        some = some;
        there = slice_get_within s.tasks.items a.0.sender.task.0 hears.slot hears.there;
        known = slice_get_within s.requests.items it.k it.r it.there;
      }

module _ {B L : Type 0} (left : B → L) (spot : L → Option Said → Spot) where
  pub output_sent : (next : AfterCallbacks) (w w' : Worker) (s s' : Shared B) (e : Event) → SoundAt (Place.Callbacks InCallbacks.CallBack next) w s → HasWhole w s → w.home.deferred.notes.wakes.items ≡ [] → length w.home.deferred.outputs.items ≡ 0 → length w.home.deferred.resources.items ≡ 0
      → length w.home.deferred.notes.completions.items ≡ 0 → 0 < length w.home.deferred.results.items → IsSentOutput next w w' s s' e → Steps left spot w s e w' s'
  output_sent next w w' s s' e sound has nobody no_outputs no_resources no_ends some does_all =
      let answers = w.home.deferred.results.items in
      let a = first_there answers some in
      let list = split_first answers a.0 a.1 in
      let it : IsResult w.index a.0 s.requests.items = sound.rooted.results a.0 (first_in answers (drop 1 answers) a.0 list) in
      by_one a.0 it a.1 list (subst (λ (x : Heard). SendsOutput a.0.sender.task.0 (number_heard x) next w w' s s' e) it.reply.of (does_all a.0 a.1))
    where
      by_one : (a : Answer Reply) (it : IsResult w.index a s.requests.items) → slice_get w.home.deferred.results.items 0 ≡ Some a → w.home.deferred.results.items ≡ a ∷ drop 1 w.home.deferred.results.items → SendsOutput a.sender.task.0 it.k next w w' s s' e → Steps left spot w s e w' s'
      by_one a it first list does = sent_steps left spot next t (Heard.Request k) w w' s s1 s' e slot left' by does.place at_w does.kept does.event
        where
          k : ℕ
          k = it.k

          r : Record
          r = it.r

          t : ℕ
          t = a.sender.task.0

          ss : List SleeperRecord
          ss = s.sleepers.items

          rs : List Record
          rs = s.requests.items

          left' : Deferred Reply Reply
          left' = w'.home.deferred

          s1 : Shared B
          s1 = record s { tasks = s'.tasks; requests = s'.requests }

          slot : TaskSlot B
          slot = does.slot

          slot' : TaskSlot B
          slot' = record slot { output = sent_into slot.output a.result }

          one : does.r ≡ r
          one = same_Some does.r r (sym does.request ∙ it.there)

          requests : s'.requests.items ≡ changed_at rs k as_sent
          requests = does.requests ∙ ap (λ y. slice_set rs k (as_sent y)) one ∙ sym (ap (changed_in rs k as_sent) it.there)

          answer : does.answer ≡ a
          answer = same_Some does.answer a (sym does.first ∙ first)

          items : s'.tasks.items ≡ slice_set s.tasks.items t slot'
          items = does.tasks ∙ ap (λ (y : Answer Reply). slice_set s.tasks.items t (record slot { output = sent_into slot.output y.result })) answer

          base : left' ≡ record w.home.deferred { results = left'.results }
          base = ap (λ (y : Worker). y.home.deferred) does.worker

          same : left' ≡ record w.home.deferred { notes = record w.home.deferred.notes { completions = left'.notes.completions }; results = left'.results }
          same = base ∙ ap (λ cs. record w.home.deferred { notes = record w.home.deferred.notes { completions = cs }; results = left'.results }) (sym (ap (λ (y : Deferred Reply Reply). y.notes.completions) base))

          at_w : w' ≡ record w { place = w'.place; home = record w.home { deferred = left' } }
          at_w = does.worker ∙ ap (λ (y : Deferred Reply Reply). record w { place = w'.place; home = record w.home { deferred = y } }) (sym base)

          told : IsTold w.names.ended.items left' (tellers (driver_of w).requests w.home.timers + spare_before (Some next))
          told = does.room w.names.ended.items (tellers (driver_of w).requests w.home.timers + spare_before (Some next)) sound.told

          wide : HasWidth left' (tellers (driver_of w).requests w.home.timers + 64)
          wide =
              let m = tellers (driver_of w).requests w.home.timers + 64 in
              subst (λ y. HasWidth y m) (sym base) (record { wakes = sound.wide.wakes; completions = sound.wide.completions; outputs = sound.wide.outputs; resources = sound.wide.resources; results = subst (λ c. m ≤ c) (sym does.wide) sound.wide.results })

          all : w.home.deferred.results.items ≡ a ∷ left'.results.items
          all = list ∙ ap (λ xs. a ∷ xs) (sym does.results)

          ends : left'.notes.completions.items ≡ w.home.deferred.notes.completions.items
          ends = ap (λ (y : Deferred Reply Reply). y.notes.completions.items) base

          wakes : left'.notes.wakes.items ≡ w.home.deferred.notes.wakes.items
          wakes = ap (λ (y : Deferred Reply Reply). y.notes.wakes.items) base

          rooted : IsRooted w.index w.names (driver_of w) w.home.timers left' (changed_at rs k as_sent) ss
          rooted = rooted_answered w.index w.names (driver_of w) w.home.timers w.home.deferred left' rs ss k r a it.there it.worker all it.reply.of ends sound.rooted

          sent : ToBeSent k w.home.deferred r
          sent = to_be_sent w.index k w.names (driver_of w) w.home.timers w.home.deferred rs ss a left'.results.items r it.there it.worker all it.reply.of sound.rooted

          f : Forwarding
          f = r.shown.forwarding

          parts : (is_applied f ≡ true) × ((is_resolved r.shown.phase || not r.shown.observed) ≡ true)
          parts = and_parts (is_applied f) (is_resolved r.shown.phase || not r.shown.observed) sent.goes

          hears : HearsIt t s
          hears = result_hears next w s a left'.results.items sound has all it

          home : slot.home ≡ None
          home = ap (λ (y : TaskSlot B). y.home) (same_Some slot hears.slot (sym does.there ∙ hears.there)) ∙ hears.home

          keeps : Keeps slot slot'
          keeps = record { home = refl; number = refl; owner = refl }

          remade_it : Remade next w s s1 left'
          remade_it = remade_request InCallbacks.CallBack next w s s1 left' as_sent sends (λ y. refl) k r it.there sound requests refl told wide rooted

          turn : OwnTurn w.index s s1
          turn = turn_request w.index k s s1 r as_sent sends (λ y. refl) it.there it.worker requests refl

          v : Worker
          v = record w { place = Place.Callbacks InCallbacks.TakeBatch next; home = record w.home { deferred = left' } }

          sa : Shared B
          sa = record s { requests = s'.requests }

          first_mid : SoundAt (Place.Callbacks InCallbacks.TakeBatch next) v sa
          first_mid = remade InCallbacks.CallBack next w s s1 left' sound sound.searching remade_it

          ord : Ordinary t v sa slot
          ord = record { there = does.there; home = home }

          rest : is_polled slot'.cell.phase ≡ false → IsResting slot'
          rest unpolled = let old = sound.resting t slot does.there home unpolled in record { uncleared = old.uncleared; told = old.told; untold = old.untold }

          mid : SoundAt (Place.Callbacks InCallbacks.TakeBatch next) v s1
          mid = retasked next v w.root_ready sa s1 first_mid (subst (λ ts. Retasked v w.root_ready sa ts) (sym items) (other_retasked next t v sa slot slot' first_mid ord keeps rest))

          heard : HasHeard w.index t (Heard.Request k) s1.requests.items s1.sleepers.items
          heard = (as_sent r, ap (λ xs. slice_get xs k) (does.requests ∙ ap (λ y. slice_set rs k (as_sent y)) one) ∙ set_there rs k (as_sent r) r it.there, it.worker, it.reply.task, sent.goes, it.paid, refl)

          handles : Handles t s s1 slot slot'
          handles = record { there = does.there; items = items; cell = refl; home = refl; cleared = refl; poller = refl }

          listed : (desk_of w).results ≡ k ∷ results_in left'.results.items
          listed = ap results_in all ∙ ap (λ m. m ∷ results_in left'.results.items) (ap number_heard it.reply.of)

          ended : w.names.ended.items ≡ []
          ended = nil_from_length w.names.ended.items (sound.told.resources ∙ no_resources)

          no_completions : (desk_of w).completions ≡ []
          no_completions = ap completions_in (nil_from_length w.home.deferred.notes.completions.items no_ends)

          at : map at_gate s1.requests.items ≡ map at_gate rs
          at = ap (map at_gate) requests ∙ map_changed at_gate rs k r as_sent it.there refl

          by : Sends left spot next t (Heard.Request k) w s s1 slot left'
          by = record {
            sound = sound;
            there = does.there;
            same = same;
            mid = mid;
            heard = heard;
            beside = λ q' reads.
                record {
                  spares = λ j other.
                      spares_turned w.index j s s1 other turn remade_it.carried.room
                      (spares_slot w.index j t s s1 slot slot' other does.there items keeps (λ is. let never : None ≡ Some j = sym home ∙ is in absurd (cc)) (λ polled mine. record { polled = polled; number = refl; cancelled = λ h. h; kept = refl }) sound.homes);
                  whole = λ others whole.
                      let h = hands_of (with_worker others w) in
                      let answered = thing_sent h s.config.workers (map holder_of s.tasks.items) (map thing_of rs) (map nap_of ss) (map box_of s.seats.items) t k (holder_of slot) (thing_of r) a.result
                      (record {
                        there = mapped holder_of s.tasks.items t slot does.there;
                        thing = mapped thing_of rs k r it.there;
                        waiter = it.reply.task;
                        applied = applied_is f parts.0;
                        unsent = sent.unsent;
                        answers = it.answer;
                        unowed = λ u more.
                            let none : wakes_then others w w.home.deferred w.index u ≡ 0 = nobody_woken w.home.deferred others w nobody u in
                            let here : 0 < h.wakes w.index u = subst (λ j. 0 < h.wakes j u) it.worker more in
                            omega (arith, none, here);
                      }) whole.holding in
                      whole_answered InCallbacks.CallBack next t w (record w { place = q'; home = record w.home { deferred = left' } }) q' s s1 slot slot' left' others sound handles reads refl turn.keeps wakes
                      (subst (λ hs. IsHolding h s.config.workers hs (map thing_of s1.requests.items) (map nap_of ss) (map box_of s.seats.items)) (sym (ap (map holder_of) items ∙ map-set holder_of s.tasks.items t slot'))
                      (subst (λ ts. IsHolding h s.config.workers (slice_set (map holder_of s.tasks.items) t (holder_of slot')) ts (map nap_of ss) (map box_of s.seats.items))
                      (sym (ap (map thing_of) requests ∙ ap (λ o. map thing_of (changed_in rs k as_sent o)) it.there ∙ map-set thing_of rs k (as_sent r))) answered)) whole;
                };
            hears = λ q'. hears_so t slot slot' refl refl does.there items (record { home = refl; body = refl; going = λ h. h; told = λ answer hears. (hears, refl) });
            moves = λ p vs suits.
                let all_of = common_of left spot p vs s in
                let xs = things_with vs s in
                let d : Desk = desk_of w in
                let size = ring_size p.config in
                let me = own_of w in
                let to : Option ℕ → List ℕ → List ℕ → Desk = λ waiter cs rs. tells_waiter size w.index me all_of next waiter (Heard.Request k) (record d { completions = cs; results = rs }) in
                let numbers : numbers_of_passing was_sent 0 s1.requests.items ≡ in_order k xs.answers =
                ap (numbers_of_passing was_sent 0) (does.requests ∙ ap (λ y. slice_set rs k (as_sent y)) one) ∙ numbers_set was_sent rs k r (as_sent r) it.there sent.unsent refl
                in
                ap (move_item p.config w.index me all_of d xs next) (item_answers me d k (results_in left'.results.items) (ap (map (λ m. m.0)) nobody) (ap (nat_lt 0) no_outputs) ended no_completions listed)
                ∙ ap (λ y. record { event = Turn; choice = Plain; desk = to y.waiter d.completions (drop 1 d.results); thing = set_answers xs (in_order k xs.answers) }) (request_seen rs k r it.there)
                ∙ ap (λ o. record { event = Turn; choice = Plain; desk = to o d.completions (drop 1 d.results); thing = set_answers xs (in_order k xs.answers) }) it.reply.task
                ∙ ap (λ ns. record { event = Turn; choice = Plain; desk = to (Some t) d.completions ns; thing = set_answers xs (in_order k xs.answers) }) (ap (drop 1) listed)
                ∙ ap (λ cs. record { event = Turn; choice = Plain; desk = to (Some t) cs (results_in left'.results.items); thing = set_answers xs (in_order k xs.answers) }) (sym (ap completions_in ends))
                ∙ ap (λ ns. record { event = Turn; choice = Plain; desk = to (Some t) (completions_in left'.notes.completions.items) (results_in left'.results.items); thing = set_answers xs ns }) (sym numbers)
                ∙ ap (λ gs. record { event = Turn; choice = Plain; desk = to (Some t) (completions_in left'.notes.completions.items) (results_in left'.results.items); thing = record xs { gates = gs; answers = numbers_of_passing was_sent 0 s1.requests.items } })
                (sym (gates_seen_at rs s1.requests.items s.opens s.opens at (opens_same s.opens s.opens rs sound.gates refl)));
            common = λ p vs.
                let cs = common_of left spot p vs s in
                let tasks : map (task_seen left spot) s1.tasks.items ≡ map (task_seen left spot) s.tasks.items = ap (map (task_seen left spot)) items ∙ map_kept (task_seen left spot) s.tasks.items t slot' slot does.there refl in
                let shown : map (λ (y : Record). y.shown) s1.requests.items ≡ map (λ (y : Record). y.shown) rs = ap (map (λ (y : Record). y.shown)) requests ∙ map_changed (λ (y : Record). y.shown) rs k r as_sent it.there refl in
                let opens : map (open_seen s1.requests.items) s.opens ≡ map (open_seen rs) s.opens = ap (λ xs. map (open_seen xs) s.opens) requests ∙ same_opens rs (changed_at rs k as_sent) (names_changed rs k r as_sent it.there refl) s.opens in
                ap (λ ts. record cs { tasks = ts; requests = map (λ (y : Record). y.shown) s1.requests.items; opens = map (open_seen s1.requests.items) s.opens }) tasks
                ∙ ap (λ ys. record cs { requests = ys; opens = map (open_seen s1.requests.items) s.opens }) shown
                ∙ ap (λ os. record cs { opens = os }) opens;
          }
