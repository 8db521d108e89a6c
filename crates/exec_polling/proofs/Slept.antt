-- The act by which a task sleeps is a step.
use Rattle.std.proofs.{Common.{◌≡◌, ℕ, zero, suc, ◌+◌, List, [], ◌∷◌, ◌++◌, length, map, min, Option, Some, None, refl, sym, ap, subst, ◌∙◌, slice_set, arith}, lemmas.{Bool.eq-eqb, List.{append-nil, length-map, map-append, map-set}}}
use Rattle.exec_base.specs.declared.limits.TheConstants.{LONGEST_TIMEOUT}
use Rattle.exec_task.specs.{Sight.Sight, declared.body.{Act.Act, Said.Said}}
use Rattle.exec_machine.specs.{Deadlines.new_sleeper, declared.{event.Event.{Event, TheVariants.Timer}, state.Waiting.Waiting}, Progress.Plan, Words.moved_on, World.{Task, task_of}}
use Rattle.exec_moves.specs.{Slots.entered, declared.place.{InPoll.InPoll, Place.Place}}
use Rattle.exec_parts.specs.{declared.parts.{record.Record.Record, shared.Shared.Shared, sleeping.SleeperRecord.SleeperRecord, worker.Worker.Worker}, Spots.Spot, View.{Views, common_of, desk_of, gate_seen, numbers_of_passing, open_seen, own_of, slots_seen, task_seen, visible, with_view}}
use Rattle.exec_invariants.{specs.{Admitting.Sleeps, Acting.{HasActed, Performs, PerformsAll, StepsOf}, Works.{Suits, Works}}, proofs.{Acting.{acts_so, moved_seen, moves_so}, Slots.task_there, Turning.view_found}}
use Rattle.exec_polling.proofs.{RegisterSeen.{SeesAlike, common_then, seats_alike, seen_with, things_then, unsent_last}, RegisterSlots.slots_entered, SleepStep.{driver_is, flat, flat_shared, goes_on, held_is, items_are, makes, next_is, one_dozes, performs_slept, polled_is, requests_are, slot_is, so, timers_are, waits_is}}

module _ {B L : Type 0} (left : B → L) (runs : L → Plan → Option ℕ → Type 0) (holds : L → Option Said → List ℕ) (spot : L → Option Said → Spot) (gives : L → Option Sight → Said → Act B → L → Option Sight → Type 0)
    (t time : ℕ) (w w' : Worker) (s s1 s' : Shared B) (e : Event) (h : HasActed left runs holds spot gives t w s s1 (Act.Sleep (suc time))) (sleeps : Sleeps t (w.moments.sampled + min (suc time) LONGEST_TIMEOUT) w w' s1 s' e) where
  abbrev until : ℕ
  until = w.moments.sampled + min (suc time) LONGEST_TIMEOUT

  abbrev timer : ℕ
  timer = length s.sleepers.items

  abbrev z : Sleeps t until w w' (record s { tasks = s1.tasks }) s' e
  z = so left runs holds spot gives t time w w' s s1 s' e h sleeps

  -- WHAT IS SEEN OF THE WORKER

  own_slept : own_of w' ≡ own_of (record w { place = Place.Poll t InPoll.Act })
  own_slept = grind arith

  timers_seen : slots_seen w'.names.timers.items w'.home.timers ≡ entered timer (slots_seen w.names.timers.items w.home.timers)
  timers_seen = grind (arith, one_dozes, timers_are, slots_entered, next_is)

  desk_slept : desk_of w' ≡ record (desk_of w) { place = Place.Poll t InPoll.Pend; timers = entered timer (slots_seen w.names.timers.items w.home.timers) }
  desk_slept = grind (arith, one_dozes, flat, driver_is, append-nil, timers_seen)

  visible_slept : visible w' ≡ visible w
  visible_slept = grind arith

  -- WHAT IS SEEN OF THE REST

  sees : (vs : Views) → SeesAlike vs s s'
  sees vs =
      let m = makes left runs holds spot gives t time w w' s s1 s' e h sleeps in
      let requests = requests_are left runs holds spot gives t time w w' s s1 s' e h sleeps in
      record {
        kept = ap (λ (x : Shared B). record x { tasks = s'.tasks }) m.shared;
        seats = seats_alike vs s.seats.items s'.seats.items w.index w'.batch.places m.seat;
        gates = ap (λ rs. map (gate_seen rs) s'.opens) requests ∙ ap (map (gate_seen s.requests.items)) (ap (λ (x : Shared B). x.opens) (flat_shared left runs holds spot gives t time w w' s s1 s' e h sleeps));
        answers = ap (numbers_of_passing (λ (r : Record). r.sent) 0) requests;
        alarms = ap (numbers_of_passing (λ (x : SleeperRecord). x.sent) 0) z.sleepers ∙ unsent_last (λ (x : SleeperRecord). x.sent) 0 s.sleepers.items z.made z.unsent;
      }

  seen_slept : (p : Plan) (vs : Views) → Performs left runs holds p h.made.slot → task_seen left spot z.slot' ≡ record (moved_on (common_of left spot p vs s) (task_seen left spot h.made.slot)) { waiting = Waiting.Timer timer }
  seen_slept p vs fits =
      let b' = h.made.acts.body' in
      ap (task_seen left spot) (slot_is left runs holds spot gives t time w w' s s1 s' e h sleeps)
      ∙ ap (λ xs. record (task_seen left spot (record h.made.slot { body = Some b'; told = None; waiting = Waiting.Timer timer })) { held = xs }) (held_is left runs holds spot gives t time w w' s s1 s' e h sleeps)
      ∙ ap (λ (y : Task). record y { waiting = Waiting.Timer timer }) (moved_seen left spot (common_of left spot p vs s) h.made.slot b' None (polled_is left runs holds spot gives t time w w' s s1 s' e h sleeps) (h.asks p vs fits).stands)

  works_slept : (p : Plan) (vs : Views) → Suits p vs w s → PerformsAll left runs holds p s → Works left spot p vs w s (Timer timer until) w' s'
  works_slept p vs suits performs =
      let slot = h.made.slot in
      let fits = performs t slot h.made.there in
      let does_so = h.asks p vs fits in
      let all = common_of left spot p vs s in
      let it : task_of all t ≡ task_seen left spot slot = task_there left spot s.tasks.items t slot h.made.there in
      let again : with_view vs w.index (visible w') ≡ vs = ap (with_view vs w.index) visible_slept ∙ view_found vs w.index (visible w) suits.seen in
      let alike = sees vs in
      let long : length all.sleepers ≡ timer = length-map s.sleepers.items (λ (x : SleeperRecord). x.shown) in
      let waits = waits_is left runs holds spot gives t time w w' s s1 s' e h sleeps in
      let requests = requests_are left runs holds spot gives t time w w' s s1 s' e h sleeps in
      let opens_same : s'.opens ≡ s.opens = ap (λ (x : Shared B). x.opens) (flat_shared left runs holds spot gives t time w w' s s1 s' e h sleeps) in
      let ts : List Task = slice_set all.tasks t (record (moved_on all (task_of all t)) { waiting = Waiting.Timer timer }) in
      let tasks : map (task_seen left spot) s'.tasks.items ≡ ts =
      ap (map (task_seen left spot)) (items_are left runs holds spot gives t time w w' s s1 s' e h sleeps) ∙ map-set (task_seen left spot) s.tasks.items t z.slot'
      ∙ ap (slice_set all.tasks t) (seen_slept p vs fits ∙ ap (λ y. record (moved_on all y) { waiting = Waiting.Timer timer }) (sym it)) in
      let records : map (λ (r : Record). r.shown) s'.requests.items ≡ all.requests = ap (map (λ (r : Record). r.shown)) requests in
      let opens : map (open_seen s'.requests.items) s'.opens ≡ all.opens = ap (λ rs. map (open_seen rs) s'.opens) requests ∙ ap (map (open_seen s.requests.items)) opens_same in
      let shown : map (λ (x : SleeperRecord). x.shown) s'.sleepers.items ≡ all.sleepers ++ new_sleeper until w.index t ∷ [] =
      ap (map (λ (x : SleeperRecord). x.shown)) z.sleepers ∙ map-append (λ (x : SleeperRecord). x.shown) s.sleepers.items (z.made ∷ []) ∙ ap (λ x. all.sleepers ++ x ∷ []) z.shown in
      grind (arith, moves_so, desk_slept, things_then, acts_so, eq-eqb, own_slept, common_then, seen_with)

  pub slept_by : StepsOf left runs holds spot w s e w' s'
  slept_by =
      let both = goes_on left runs holds spot gives t time w w' s s1 s' e h sleeps in
      subst (λ y. StepsOf left runs holds spot w s y w' s') (sym z.event) (works_slept, both.0, performs_slept left runs holds spot gives t time w w' s s1 s' e h sleeps, both.1)

module _ {B L : Type 0} (left : B → L) (runs : L → Plan → Option ℕ → Type 0) (holds : L → Option Said → List ℕ) (spot : L → Option Said → Spot) (gives : L → Option Sight → Said → Act B → L → Option Sight → Type 0) where
  -- of any time that isn't none
  pub slept_at : (t : ℕ) (w w' : Worker) (s s1 s' : Shared B) (e : Event) (time : ℕ) → (time ≡ 0 → ⊥) → HasActed left runs holds spot gives t w s s1 (Act.Sleep time)
      → Sleeps t (w.moments.sampled + min time LONGEST_TIMEOUT) w w' s1 s' e → StepsOf left runs holds spot w s e w' s'
  slept_at t w w' s s1 s' e zero some h sleeps = absurd (some refl)
  slept_at t w w' s s1 s' e (suc time) some h sleeps = slept_by left runs holds spot gives t time w w' s s1 s' e h sleeps
