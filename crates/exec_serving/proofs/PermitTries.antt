-- A gate where a request of the worker waits is looked at: what the machine makes of that, and where it isn't its turn.
use Rattle.std.proofs.{Common.{◌≡◌, ◌⊎◌, inl, inr, ◌++◌, ℕ, suc, ◌<◌, ◌≤◌, ◌==◌, ◌&&◌, true, false, List, [], ◌∷◌, length, map, Option, Some, None, option_to_list, if◌then◌else◌, refl, sym, ap, subst, ◌∙◌, arith, slice_get, slice_index_or, slice_set}, lemmas.{Bool.false≢true, List.set-get_or, Option.get_or_from_slice_get}}
use Rattle.exec_outcomes.specs.Accounts.{outcome_at_grant}
use Rattle.exec_lists.specs.Lists.{is_among}
use Rattle.exec_opens.specs.{Opens.{OpenState, holder_at, holder_in}, declared.opens.WaiterKey.WaiterKey}
use Rattle.exec_driver.specs.Steps.{is_turn_of}
use Rattle.exec_task.specs.declared.body.Said.{Said}
use Rattle.exec_machine.specs.{declared.{config.Configuration.Configuration, event.Event.{Event, TheVariants.{Grant, Serve}}, state.Request.Request}, Progress.Plan, Requests.account_of_open, Tests.is_gated, World.{Common, Own, no_request, request_of}}
use Rattle.exec_moves.specs.{declared.place.{InService.InService, Place.Place, Service.Service}, State.{Desk, Moved, Things, does, gate_of}, Submit.{after_grant, due_next, first_due, granted_at, next_gate, submits, Due.AtGate}, Told.told_if_ended}
use Rattle.exec_parts.{specs.{declared.parts.{shared.Shared.Shared, worker.Worker.Worker}, Records.number_in, Spots.Spot, View.{Views, common_of, desk_of, driver_of, gate_seen, number_of_key, numbers_of, open_seen, own_of, seat_seen, things_with, visible}}, proofs.Facts.{and_parts, false_from_ne_true, same_number}}
use Rattle.exec_invariants.{specs.{Gates.line_at, Places.passes_at, Sound.served_in, Submits.IsGatedIn, Works.{Steps, Suits}}, proofs.{Gated.{StandsIn, durable_of_file, gate_next, least_stands, stands_there, ungated_open, waits_there}, Idling.none_due, Keeping.{SameButRing, keeps_ring}, Lined.{length_map, mapped}, Recorded.request_seen, Seeing.{common_same, desk_with, served, shows, things_kept}, ServingHolds.{Follows, IsServed, Keeps, KeepsBy, Serves, serves_to}, Serving.{SparesRecords, at_large, balances_still, spares_same}, SparedRecord.there_within}}
use Rattle.exec_serving.proofs.PermitSeen.{number_named}

-- THE MOVE, by who stands first there
abbrev pub tried_at : Service → ℕ → Common → Desk → List ℕ → Option ℕ → Moved (List ℕ)
tried_at v file s d gate None = does Serve (submits v (suc file) d) gate
tried_at v file s d gate (Some r) =
    does
    (Grant r (outcome_at_grant (request_of s r).operation.kind (account_of_open s (request_of s r))))
    (after_grant v file (outcome_at_grant (request_of s r).operation.kind (account_of_open s (request_of s r))) (told_if_ended (outcome_at_grant (request_of s r).operation.kind (account_of_open s (request_of s r))) r (request_of s r) d))
    gate

comes_to_gate : (c : Configuration) (i gate file : ℕ) (me : Own) (s : Common) (d : Desk) → first_due c i me s ≡ None → slice_get me.unenrolled 0 ≡ None → next_gate i gate s ≡ Some file → due_next c i gate me s d ≡ AtGate file
comes_to_gate c i gate file me s d none new next = rw (none, new, next) refl

-- the gate stays as it is
pub gate_again : (x : Things) (file : ℕ) → record x { gates = slice_set x.gates file (gate_of x file) } ≡ x
gate_again x file = ap (λ gs. record x { gates = gs }) (set-get_or x.gates file [])

-- TO THE NEXT GATE
pub follows_next : (gate next : ℕ) (v : Service) → Follows (Place.Service (InService.Submit gate) v) (Place.Service (InService.Submit next) v)
follows_next gate next v = record { from = refl; to = refl; serves = refl; armed = refl; closes = refl; wakes = refl; moment = λ m. refl; searches = refl; published = refl; bare = refl; batch = λ ms h. h }

module _ {B L : Type 0} (left : B → L) (spot : L → Option Said → Spot) (v : Service) (file : ℕ) (w : Worker) (s : Shared B) (new : IsGatedIn v file w s) where
  -- the open is there
  pub gate_open : (o : OpenState) × (slice_get s.opens file ≡ Some o)
  gate_open =
      let sound = new.sound in
      let stood = no_other (least_stands new.gate (driver_of w).requests (driver_of w).lists.gated None file new.gated) in
      let who = waits_there (served_in (Place.Service (InService.Submit new.gate) v)) w.index w.names (driver_of w) w.home.timers s.requests.items s.sleepers.items s.opens s.store sound.named sound.flown sound.carried sound.gates file stood.id (new.lists.gated stood.id stood.among) stood.gate in
      let k = number_in w.names.requests.items stood.id.0 in
      there_within s.opens file (subst (λ n. n < length s.opens) who.target (sound.gates.there k who.r who.there (durable_of_file who.r.shown.operation.kind (sound.gates.durable k who.r who.there who.gated))))
    where
      no_other : (None ≡ Some file) ⊎ StandsIn (driver_of w).requests (driver_of w).lists.gated file → StandsIn (driver_of w).requests (driver_of w).lists.gated file
      no_other (inl never) = absurd (let none : None ≡ Some file = never in cc)
      no_other (inr it) = it

  -- what the machine comes to
  pub due_is : (p : Plan) (vs : Views) → Suits p vs w s → due_next p.config w.index new.gate (own_of (record w { place = Place.Service (InService.Submit new.gate) v })) (common_of left spot p vs s) (desk_of (record w { place = Place.Service (InService.Submit new.gate) v })) ≡ AtGate file
  due_is p vs suits =
      let q : Place = Place.Service (InService.Submit new.gate) v in
      let sound = new.sound in
      let w0 : Worker = record w { place = q } in
      let d = driver_of w in
      let all = common_of left spot p vs s in
      let begun : w.moments.start ≤ w.moments.sampled = omega (arith, sound.time.begun, sound.time.ordered) in
      let none : first_due p.config w.index (own_of w0) all ≡ None =
      subst (λ x. first_due x w.index (own_of w0) all ≡ None) suits.config
      (none_due _ w.index w.moments s.config w.names d w.home.timers s.requests.items s.sleepers.items sound.due sound.named sound.config.some_tick begun (own_of w0) all refl refl new.due) in
      let next : next_gate w.index new.gate all ≡ Some file =
      gate_next (served_in q) w.index w.names d w.home.timers s.requests.items s.sleepers.items s.opens s.store sound.named sound.flown sound.carried sound.gates new.gate file all new.lists refl (length_map (open_seen s.requests.items) s.opens) new.gated in
      comes_to_gate p.config w.index new.gate file (own_of w0) all (desk_of w0) none (ap (λ ids. slice_get (numbers_of w.names.requests.items ids) 0) new.enrolments) next

  pub gate_is : (p : Plan) (vs : Views) → gate_of (things_with vs s) file ≡ gate_seen s.requests.items gate_open.0
  gate_is p vs = get_or_from_slice_get (map (gate_seen s.requests.items) s.opens) file (gate_seen s.requests.items gate_open.0) [] (mapped (gate_seen s.requests.items) s.opens file gate_open.0 gate_open.1)

  -- it isn't its turn
  not_granted : is_turn_of w.index (driver_of w).lists (holder_at s.opens file) ≡ false → (cs : Common) → cs.requests ≡ map (λ r. r.shown) s.requests.items → granted_at w.index (gate_seen s.requests.items gate_open.0) cs ≡ None
  not_granted turn cs shown = by gate_open.0.holder refl
    where
      by : (h : Option WaiterKey) → gate_open.0.holder ≡ h → granted_at w.index (gate_seen s.requests.items gate_open.0) cs ≡ None
      by None none =
          let line = new.sound.gates.lines file gate_open.0 gate_open.1 in
          ap (λ ks. granted_at w.index (map (number_of_key 0 s.requests.items) ks) cs) (ap (λ h. option_to_list h ++ gate_open.0.waiting) none ∙ line.first none)
      by (Some key) some =
          let sound = new.sound in
          let rs = s.requests.items in
          let o = gate_open.0 in
          let q : Place = Place.Service (InService.Submit new.gate) v in
          let whole : line_at o ≡ key ∷ o.waiting = ap (λ h. option_to_list h ++ o.waiting) some in
          let n = (sound.gates.lines file o gate_open.1).named 0 key (ap (λ l. slice_get l 0) whole) in
          let k = n.0 in
          let r = n.1 in
          let later = map (number_of_key 0 rs) o.waiting in
          let holder : holder_at s.opens file ≡ Some key = ap holder_in gate_open.1 ∙ some in
          let waits : ((r.shown.worker == w.index) && is_gated r.shown.phase) ≡ false =
          false_from_ne_true ((r.shown.worker == w.index) && is_gated r.shown.phase)
          (λ both.
          let parts = and_parts (r.shown.worker == w.index) (is_gated r.shown.phase) both in
          let mine : r.shown.worker ≡ w.index = same_number r.shown.worker w.index parts.0 in
          let at = stands_there (served_in q) w.index w.names (driver_of w) w.home.timers rs s.sleepers.items s.opens s.store sound.named sound.flown sound.carried sound.gates k r n.2 mine (ungated_open r.shown.phase parts.1) in
          let among : is_among r.id (driver_of w).lists.gated ≡ true = sound.flown.gated r.id at.it at.live (sym at.alike.permit ∙ parts.1) in
          let turn_is : is_turn_of w.index (driver_of w).lists (holder_at s.opens file) ≡ true =
          ap (is_turn_of w.index (driver_of w).lists) (holder ∙ ap (λ x. Some x) (sym n.3)) ∙ ap (λ b. b && is_among r.id (driver_of w).lists.gated) parts.0 ∙ among in
          absurd (false≢true (sym turn ∙ turn_is))) in
          ap (λ g. granted_at w.index g cs) (ap (map (number_of_key 0 rs)) whole ∙ ap (λ m. m ∷ later) (number_named s.opens rs sound.gates k r key n.2 n.3))
          ∙ ap (λ (q : Request). if (q.worker == w.index) && is_gated q.phase then Some k else None) (ap (λ xs. slice_index_or xs k no_request) shown ∙ request_seen rs k r n.2)
          ∙ ap (λ b. if b then Some k else None) waits

  pub gate_passed_by : (w' : Worker) (s' : Shared B) (e : Event) → is_turn_of w.index (driver_of w).lists (holder_at s.opens file) ≡ false → driver_of w' ≡ driver_of w → s' ≡ s → e ≡ Serve
      → w' ≡ record w { place = Place.Service (InService.Submit (suc file)) v; home = record w.home { driver = w'.home.driver } } → Steps left spot w s e w' s'
  gate_passed_by w' s' e turn driver shared event same =
      let q : Place = Place.Service (InService.Submit new.gate) v in
      let q' : Place = Place.Service (InService.Submit (suc file)) v in
      let sound = new.sound in
      let d = driver_of w in
      let w0 : Worker = record w { place = q } in
      let follows = follows_next new.gate (suc file) v in
      let like : SameButRing d d = record { requests = refl; lists = refl; wheel = refl; size = refl; landed = refl; polled = λ h. h; cancels = refl; tagged = λ t. t; entries = omega arith; flies = refl; stages = λ v small. refl } in
      let by : KeepsBy (record w { place = q'; put_off = w.put_off }) d w.home.timers s.requests.items s.sleepers.items s = keeps_ring q q' w.put_off w s d sound follows like (λ h. absurd (false≢true (sym h))) in
      let w2 : Worker = record w { place = q'; home = record w.home { driver = w'.home.driver } } in
      let by_driver : KeepsBy w2 (driver_of w') w.home.timers s.requests.items s.sleepers.items s = subst (λ x. KeepsBy w2 x w.home.timers s.requests.items s.sleepers.items s) (sym driver) (assumption by) in
      let keeps : Keeps w' s = subst (λ x. KeepsBy x (driver_of w') x.home.timers s.requests.items s.sleepers.items s) (sym same) by_driver in
      let there : w'.place ≡ q' = ap (λ x. x.place) same in
      let serves : Serves q w w' s s = serves_to q q' w w' s s (subst (IsServed w) (sym same) refl) refl there follows in
      let show = shows q w w' s s d serves driver (ap (λ (x : Worker). x.home.timers) same) in
      let seen : visible w' ≡ visible w = show.seen in
      let spares : SparesRecords w.index s s = spares_same w.index s s sound.gates refl refl refl in
      let desk : desk_of w' ≡ record (desk_of w0) { place = q' } =
      show.desk ∙ ap (λ y. desk_with w y w'.put_off w'.home.deferred d) there ∙ ap (λ (x : Worker). desk_with w q' x.put_off x.home.deferred d) same in
      subst (λ x. Steps left spot w s e w' x) (sym shared)
      (subst (λ x. Steps left spot w s x w' s) (sym event)
      (served left spot q w w' s s Serve sound serves keeps spares
      (balances_still q w w' s s sound.here serves spares (ap passes_at there) (ap (λ (x : Worker). x.home.deferred.notes.wakes.items) same) refl refl)
      (λ p vs suits.
      let all = common_of left spot p vs s in
      let x = things_with vs s in
      record {
        moves = grind (arith, due_is p vs suits, gate_is p vs, not_granted turn all refl, gate_again x file, desk, things_kept vs w.index (visible w) (visible w') s s suits.seen (ap (λ y. y.wakes) seen) refl spares);
        may = (at_large q w s sound refl, tt);
        own = show.own ∙ rw (there, ap (λ (x : Worker). x.names.ended.items) same, ap (λ (x : Worker). x.names.untold.items) same) refl;
        common = common_same left spot p vs w w' s suits (λ c. ap (λ y. seat_seen y c) seen);
      })))
