-- The act by which a task makes a request is a step.
use Rattle.std.proofs.{Common.{◌≡◌, ℕ, ◌==◌, Bool, true, false, List, [], ◌∷◌, ◌++◌, length, map, Option, Some, refl, sym, ap, subst, ◌∙◌, slice_index_or, slice_set, if◌then◌else◌, arith}, lemmas.{Bool.eq-eqb, List.{length-map, map-append, map-set}}}
use Rattle.exec_outcomes.specs.{Accounts.{is_durable, changed as account_changed}, declared.outcome.{Outcome.Outcome, Kind.Kind}}
use Rattle.exec_request.specs.{Requests.{asked_of, deadline_of, target_of}, declared.request.Request.Request as Asking}
use Rattle.exec_opens.specs.Opens.{account_in}
use Rattle.exec_task.specs.{Sight.Sight, declared.body.{Act.Act, Said.Said}}
use Rattle.exec_machine.specs.{Choice.Choice.Plain, declared.{config.{Configuration.Configuration, ScriptWord.ScriptWord}, event.Event.{Event, TheVariants.Admit}, state.Operation.Operation}, Progress.Plan, Requests.{account_after_admit, asked_now, asks_kind, new_request, operation_asked, operation_or_none, outcome_if_late, own_after_admit, resolved_if, with_seen}, Same.{same_end, same_kind}, Tests.{is_of_file, is_open}, Words.{moved_on, next_word}, World.{Task, Common, no_open, open_of, task_of}}
use Rattle.exec_moves.specs.{Poll.act_asked, Slots.entered, State.{Desk, Moved, Things}, declared.place.{InPoll.InPoll, Place.Place}}
use Rattle.exec_parts.specs.{declared.parts.{record.Record.Record, shared.Shared.Shared, sleeping.SleeperRecord.SleeperRecord, worker.Worker.Worker}, Records.{file_named, numbers_held, operation_in, seen_in}, Scripts.IsAnswered, Spots.{Spot, spot_of}, View.{Views, account_seen, common_of, desk_of, driver_of, gate_seen, numbers_of_passing, open_seen, own_of, slots_seen, task_seen, things_with, visible, with_view}}
use Rattle.exec_invariants.{specs.{Admitting.{Registers, seeing}, Acting.{HasActed, Performs, PerformsAll, StepsOf}, Works.{Suits, Works}}, proofs.{Seats.own_seat, Acting.{IsPlainWord, acts_so, me_at, moved_seen, moves_so}, Slots.task_there, Turning.view_found}}
use Rattle.exec_polling.proofs.{Enlisted.has_its_open, Enlists.{desk_asked, own_asked, visible_asked}, RegisterOpens.{gates_seen_then, opens_seen_then, seen_then}, RegisterSeen.{SeesAlike, common_then, seats_alike, things_then, unsent_last}, RegisterStep.{comes, covers, goes_on, held_is, how, items_are, makes, performs_asked, polled_is, reg, registered, sleepers_are, slot_is, waits_is}, Unbegun.{same_late, wanted}}

module _ {B L : Type 0} (left : B → L) (spot : L → Option Said → Spot) where
  -- a word that asks for a request is neither about another task nor about what is held
  request_word : (c : Configuration) (moment : ℕ) (x : ScriptWord) (o : Operation) → operation_asked c moment x ≡ Some o → IsPlainWord left spot x
  request_word = grind arith

module _ {B L : Type 0} (left : B → L) (runs : L → Plan → Option ℕ → Type 0) (holds : L → Option Said → List ℕ) (spot : L → Option Said → Spot) (gives : L → Option Sight → Said → Act B → L → Option Sight → Type 0)
    (t : ℕ) (w w' : Worker) (s s1 s' : Shared B) (e : Event) (q : Asking) (h : HasActed left runs holds spot gives t w s s1 (Act.Register q)) (reg1 : Registers t q w w' s1 s' e) where
  abbrev made : Registers t q w w' (record s { tasks = s1.tasks }) s' e
  made = reg left runs holds spot gives t w w' s s1 s' e q h reg1

  -- its word asks for the request, by each plan that its body performs
  record IsAsked (p : Plan) (vs : Views) : Type 0 where
    o : Operation
    asked : operation_asked p.config w.moments.sampled (next_word (common_of left spot p vs s) (task_seen left spot h.made.slot)) ≡ Some o
    kind_is : o.kind ≡ (asked_of q).kind
    target_is : o.target ≡ target_of q
    deadline_is : o.deadline ≡ deadline_of q
    only : operation_in q ≡ record o { seen = seen_in q }
    unseen : is_of_file (asked_of q).kind ≡ false → o.seen ≡ seen_in q

  asked_so : (p : Plan) (vs : Views) → Performs left runs holds p h.made.slot → IsAsked p vs
  asked_so p vs fits =
      let asks = (h.asks p vs fits).asks in
      let is = asks.3 in
      let it = wanted p.config w.moments.sampled (next_word (common_of left spot p vs s) (task_seen left spot h.made.slot)) q asks.1 asks.2 is in
      record { o = asks.1; asked = asks.2; kind_is = sym (ap (λ a. a.kind) is.asked); target_is = sym is.target; deadline_is = sym is.deadline; only = it.only; unseen = it.unseen }

  seen_asked : IsAnswered spot → (p : Plan) (vs : Views) → Performs left runs holds p h.made.slot
      → task_seen left spot made.slot' ≡ record (moved_on (common_of left spot p vs s) (task_seen left spot h.made.slot)) { held = numbers_held h.made.slot.held.items ++ length s.requests.items ∷ [] }
  seen_asked answered p vs fits =
      let all = common_of left spot p vs s in
      let b' = h.made.acts.body' in
      let told = Said.Admitted (length s.requests.items) in
      let past : spot (left b') (Some told) ≡ spot_of (moved_on all (task_seen left spot h.made.slot)) = answered (left b') told (λ no. absurd (cc)) ∙ (h.asks p vs fits).stands in
      ap (task_seen left spot) (slot_is left runs holds spot gives t w w' s s1 s' e q h reg1)
      ∙ ap (λ xs. record (task_seen left spot (record h.made.slot { body = Some b'; told = Some told })) { held = xs }) (held_is left runs holds spot gives t w w' s s1 s' e q h reg1)
      ∙ ap (λ (y : Task). record y { held = numbers_held h.made.slot.held.items ++ length s.requests.items ∷ [] }) (moved_seen left spot all h.made.slot b' (Some told) (polled_is left runs holds spot gives t w w' s s1 s' e q h reg1) past)

  -- what its record says is what the machine's does
  record_seen : (p : Plan) (vs : Views) → (it : IsAsked p vs) → seeing s'.opens (operation_in q) ≡ with_seen it.o (common_of left spot p vs s)
  record_seen p vs it = grind (arith, it.only, by (is_of_file it.o.kind) refl)
    where
      by : (b : Bool) → is_of_file it.o.kind ≡ b → (if b then record it.o { seen = (account_seen (account_in s'.opens (file_named it.o.target))).mutations } else record it.o { seen = seen_in q })
          ≡ (if b then record it.o { seen = (account_after_admit it.o.kind (slice_index_or (map (open_seen s.requests.items) s.opens) it.o.target no_open).account).mutations } else it.o)
      by true file =
          let kind_file : is_of_file (asked_of q).kind ≡ true = ap is_of_file (sym it.kind_is) ∙ file in
          let seen = seen_then q s.opens s'.opens s.requests.items made.made h.sound.gates (has_its_open t w w' s s1 s' q e h.sound made (comes left runs holds spot gives t w w' s s1 s' e q h reg1)) (registered left runs holds spot gives t w w' s s1 s' e q h reg1) (how left runs holds spot gives t w w' s s1 s' e q h reg1) kind_file in
          ap (λ n. record it.o { seen = n }) (ap (λ f. (account_seen (account_in s'.opens (file_named f))).mutations) it.target_is ∙ seen
          ∙ ap (λ x. (account_after_admit x (slice_index_or (map (open_seen s.requests.items) s.opens) (target_of q) no_open).account).mutations) (sym it.kind_is)
          ∙ ap (λ f. (account_after_admit it.o.kind (slice_index_or (map (open_seen s.requests.items) s.opens) f no_open).account).mutations) (sym it.target_is))
      by false plain = ap (λ n. record it.o { seen = n }) (sym (it.unseen (ap is_of_file (sym it.kind_is) ∙ plain)))

  -- what it does beside its own
  sees : (vs : Views) → SeesAlike vs s s'
  sees vs =
      let m = makes left runs holds spot gives t w w' s s1 s' e q h reg1 in
      let r = registered left runs holds spot gives t w w' s s1 s' e q h reg1 in
      record {
        kept = ap (λ (x : Shared B). record x { tasks = s'.tasks }) m.shared;
        seats = seats_alike vs s.seats.items s'.seats.items w.index w'.batch.places m.seat;
        gates = ap (λ rs. map (gate_seen rs) s'.opens) made.requests ∙ gates_seen_then q s.opens s'.opens s.requests.items made.made h.sound.gates (has_its_open t w w' s s1 s' q e h.sound made (comes left runs holds spot gives t w w' s s1 s' e q h reg1)) r (how left runs holds spot gives t w w' s s1 s' e q h reg1);
        answers = ap (numbers_of_passing (λ (x : Record). x.sent) 0) made.requests ∙ unsent_last (λ (x : Record). x.sent) 0 s.requests.items made.made made.unsent;
        alarms = ap (numbers_of_passing (λ (z : SleeperRecord). z.sent) 0) (sleepers_are left runs holds spot gives t w w' s s1 s' e q h reg1);
      }

  desk_by_kind : (b : Bool) → record (desk_of w) { place = Place.Poll t (if b then InPoll.JoinGate (length s.requests.items) else InPoll.Act); requests = entered (length s.requests.items) (slots_seen w.names.requests.items (driver_of w).requests) }
      ≡ (if b then record (desk_of w) { place = Place.Poll t (InPoll.JoinGate (length s.requests.items)); requests = entered (length s.requests.items) (slots_seen w.names.requests.items (driver_of w).requests) } else record (desk_of w) { place = Place.Poll t InPoll.Act; requests = entered (length s.requests.items) (slots_seen w.names.requests.items (driver_of w).requests) })
  desk_by_kind true = refl
  desk_by_kind false = refl

  unserved : (o : Operation) (l : Option Outcome) → own_after_admit o l (length s.requests.items) (own_of (record w { place = Place.Poll t InPoll.Act })) ≡ record (own_after_admit o l (length s.requests.items) (own_of (record w { place = Place.Poll t InPoll.Act }))) { serving = false }
  unserved = grind arith

  pub works_asked : IsAnswered spot → (p : Plan) (vs : Views) → Suits p vs w s → PerformsAll left runs holds p s → Works left spot p vs w s (Admit (length s.requests.items) (asked_of q).kind (outcome_if_late w.moments.sampled (deadline_of q))) w' s'
  works_asked answered p vs suits performs =
      let fits = performs t h.made.slot h.made.there in
      let all = common_of left spot p vs s in
      let slot = h.made.slot in
      let me = own_of (record w { place = Place.Poll t InPoll.Act }) in
      let d0 = record (desk_of w) { place = Place.Poll t InPoll.Act } in
      let come = comes left runs holds spot gives t w w' s s1 s' e q h reg1 in
      let cover = covers left runs holds spot gives t w w' s s1 s' e q h reg1 in
      let asked : IsAsked p vs = asked_so p vs fits in
      let o = asked.o in
      let it : task_of all t ≡ task_seen left spot slot = task_there left spot s.tasks.items t slot h.made.there in
      let again : with_view vs w.index (visible w') ≡ vs = ap (with_view vs w.index) (visible_asked t w w' s s1 s' q e h.sound made come cover) ∙ view_found vs w.index (visible w) suits.seen in
      let word = next_word all (task_seen left spot slot) in
      let long : length all.requests ≡ length s.requests.items = length-map s.requests.items (λ (r : Record). r.shown) in
      let now : asked_now p.config me all ≡ o = ap (λ y. operation_or_none (operation_asked p.config w.moments.sampled (next_word all y))) it ∙ ap operation_or_none asked.asked in
      let alike = sees vs in
      let by_asked : Option Operation → Moved Things = λ x. let m = act_asked w.index t (me_at t w) all d0 (task_seen left spot slot) word x in record { event = m.event; choice = m.choice; desk = m.desk; thing = things_with vs s } in
      let desk_of_kind : ℕ → Bool → Desk = λ n b. if b then record (desk_of w) { place = Place.Poll t (InPoll.JoinGate n); requests = entered n (slots_seen w.names.requests.items (driver_of w).requests) } else record (desk_of w) { place = Place.Poll t InPoll.Act; requests = entered n (slots_seen w.names.requests.items (driver_of w).requests) } in
      let tells : ℕ → Kind → Bool → Option ℕ → Moved Things = λ n x b dl. record { event = Admit n x (outcome_if_late w.moments.sampled dl); choice = Plain; desk = desk_of_kind n b; thing = things_with vs s } in
      let seat = own_seat left spot p vs w s h.sound.seated.seat suits h.sound.seated.there in
      let opened = (h.sound.phased h.sound.seated.seat h.sound.seated.there).opened in
      let seen = seen_asked answered p vs fits in
      let tasks : map (task_seen left spot) s'.tasks.items ≡ slice_set all.tasks t (record (moved_on all (task_of all t)) { held = (task_of all t).held ++ length s.requests.items ∷ [] }) =
      ap (map (task_seen left spot)) (items_are left runs holds spot gives t w w' s s1 s' e q h reg1) ∙ map-set (task_seen left spot) s.tasks.items t made.slot'
      ∙ ap (slice_set all.tasks t) (seen ∙ ap (λ y. record (moved_on all y) { held = y.held ++ length s.requests.items ∷ [] }) (sym it)) in
      let shown : map (λ (r : Record). r.shown) s'.requests.items ≡ all.requests ++ resolved_if (outcome_if_late w.moments.sampled (deadline_of q)) (new_request w.index (with_seen o all)) ∷ [] =
      ap (map (λ (r : Record). r.shown)) made.requests ∙ map-append (λ (r : Record). r.shown) s.requests.items (made.made ∷ []) ∙ ap (λ x. all.requests ++ x ∷ []) (made.shown ∙ ap (λ x. resolved_if (outcome_if_late w.moments.sampled (deadline_of q)) (new_request w.index x)) (record_seen p vs asked)) in
      let opens : map (open_seen s'.requests.items) s'.opens ≡ (if same_kind o.kind Kind.Write then slice_set all.opens o.target (record (open_of all o.target) { account = account_changed (open_of all o.target).account }) else all.opens) =
      ap (λ rs. map (open_seen rs) s'.opens) made.requests
      ∙ opens_seen_then q s.opens s'.opens s.requests.items made.made h.sound.gates (has_its_open t w w' s s1 s' q e h.sound made come) (registered left runs holds spot gives t w w' s s1 s' e q h reg1) (how left runs holds spot gives t w w' s s1 s' e q h reg1)
      ∙ ap (λ f. if same_kind (asked_of q).kind Kind.Write then slice_set all.opens f (record (open_of all f) { account = account_changed (open_of all f).account }) else all.opens) (sym asked.target_is)
      ∙ ap (λ x. if same_kind x Kind.Write then slice_set all.opens o.target (record (open_of all o.target) { account = account_changed (open_of all o.target).account }) else all.opens) (sym asked.kind_is) in
      let ts = slice_set all.tasks t (record (moved_on all (task_of all t)) { held = (task_of all t).held ++ length s.requests.items ∷ [] }) in
      let sleepers : map (λ (z : SleeperRecord). z.shown) s'.sleepers.items ≡ all.sleepers = ap (map (λ (z : SleeperRecord). z.shown)) (sleepers_are left runs holds spot gives t w w' s s1 s' e q h reg1) in
      let after_by : Operation → Common = λ x. record all { tasks = ts; requests = all.requests ++ resolved_if (outcome_if_late w.moments.sampled (deadline_of q)) (new_request w.index (with_seen x all)) ∷ []; opens = if same_kind x.kind Kind.Write then slice_set all.opens x.target (record (open_of all x.target) { account = account_changed (open_of all x.target).account }) else all.opens } in
      subst (λ v. Works left spot p vs v s (Admit (length s.requests.items) (asked_of q).kind (outcome_if_late w.moments.sampled (deadline_of q))) w' s') (ap (λ y. record w { place = y }) (sym h.sound.here)) (record {
        choice = Plain;
        moves = moves_so left spot t p all w s vs slot word (request_word left spot p.config w.moments.sampled word o asked.asked) it refl ∙ ap by_asked asked.asked
            ∙ ap (λ n. tells n o.kind (is_durable o.kind) o.deadline) long ∙ ap (λ x. tells (length s.requests.items) x (is_durable x) o.deadline) asked.kind_is ∙ ap (tells (length s.requests.items) (asked_of q).kind (is_durable (asked_of q).kind)) asked.deadline_is
            ∙ ap (λ d. record { event = Admit (length s.requests.items) (asked_of q).kind (outcome_if_late w.moments.sampled (deadline_of q)); choice = Plain; desk = d; thing = things_with vs s }) (sym (desk_asked t w w' s s1 s' q e h.sound made come cover ∙ desk_by_kind (is_durable (asked_of q).kind)))
            ∙ ap (λ x. record { event = Admit (length s.requests.items) (asked_of q).kind (outcome_if_late w.moments.sampled (deadline_of q)); choice = Plain; desk = desk_of w'; thing = x }) (sym (things_then vs s s' alike) ∙ ap (λ v. things_with v s') (sym again));
        may = (
          acts_so left spot t all w slot (λ x. asks_kind (asked_of q).kind (operation_asked p.config w.moments.sampled x)) it (waits_is left runs holds spot gives t w w' s s1 s' e q h reg1) (ap (asks_kind (asked_of q).kind) asked.asked ∙ ap (λ x. same_kind x (asked_of q).kind) asked.kind_is ∙ come.made.same),
          (
            ap (λ y. is_open y.phase) seat ∙ opened,
            (
              ap (λ n. length s.requests.items == n) long ∙ eq-eqb (length s.requests.items) (length s.requests.items) refl,
              (ap (λ x. same_end (outcome_if_late w.moments.sampled (deadline_of q)) (outcome_if_late w.moments.sampled x.deadline)) now ∙ ap (λ d. same_end (outcome_if_late w.moments.sampled (deadline_of q)) (outcome_if_late w.moments.sampled d)) asked.deadline_is ∙ same_late w.moments.sampled (deadline_of q), tt),
            ),
          ),
        );
        own = own_asked t w w' s s1 s' q e h.sound made come cover o asked.kind_is asked.deadline_is ∙ unserved o (outcome_if_late w.moments.sampled (deadline_of q))
            ∙ ap (λ x. record (own_after_admit x (outcome_if_late w.moments.sampled (deadline_of q)) (length s.requests.items) me) { serving = false }) (sym now);
        common = grind (arith, again, common_then left spot p vs s s' alike, tasks, shown, opens, sleepers, now);
      })

  pub registered_by : IsAnswered spot → StepsOf left runs holds spot w s e w' s'
  registered_by answered =
      let both = goes_on left runs holds spot gives t w w' s s1 s' e q h reg1 in
      subst (λ y. StepsOf left runs holds spot w s y w' s') (sym made.event) (works_asked answered, both.0, performs_asked left runs holds spot gives t w w' s s1 s' e q h reg1, both.1)
