-- A REQUEST OR A SLEEPER is told that it is waited for, or taken, and its worker isn't asked: what that leaves of all workers.
use Rattle.exec_invariants.{proofs.{Names.{◌≡◌, ℕ, ◌^◌, ◌<◌, ◌≤◌, false, List, Contains, length, sum_by, Option, Some, None, sym, ap, subst, ◌∙◌, arith, slice_get, slice_set, length-set, IsPast, Id, user_data_of, pending_count, waiter_at, Waiter, socket_of, is_resolved, InPoll, Place, InService, polls_at, Subject, Reply, Record, Shared, SleeperRecord, TaskSlot, Worker, changed_in, driver_of, number_in, target_of}, Aside.spares_none, HoldRedo.{sum_set, set_on, set_back}, Lined.{KeepsLines, SameAtGate, lined_kept, lines_changed}, Spared.{KeepsMine, heard_apart, letter_apart, mail_apart, named_apart, over_apart, record_back, rooted_apart, stops_apart, timed_apart, asleep_apart, flown_apart}, SparedRecord.{sleepers_stay, endures_by, live_of, over_still, sleeper_endures_by, sleeper_spared, spared_same, worker_still}}, specs.{Carried.{HasRoom, IsUnderWay, may_move, room_for, IsCarried}, Due.IsDue, Holding.Mail, Gates.{IsKnown, at_gate, has_hint_at, may_ask_hint}, HoldPlaces.{cancels_at, heard_at, sends_cancel_at}, Places.step_of_poll, Sound.{HasLetters, IsMyMail, SoundAt, Stops, served_in, AreOver}, Spares.{RecordsEndure, SleepersEndure, Spares, SparesRecord, SparesSleeper}, Names.IsNamed, Flown.HasFlown, Rooted.IsRooted}}

module _ {B : Type 0} where
  pub record Touches (s s' : Shared B) : Type 0 where
    pub kept : s' ≡ record s { requests = s'.requests; sleepers = s'.sleepers }
    pub records : (k : ℕ) (r : Record) → slice_get s.requests.items k ≡ Some r → (r' : Record) × (slice_get s'.requests.items k ≡ Some r') × SparesRecord r r'
    pub records_only : (k : ℕ) (r' : Record) → slice_get s'.requests.items k ≡ Some r' → (r : Record) × (slice_get s.requests.items k ≡ Some r) × SparesRecord r r'
    pub sleepers : (k : ℕ) (z : SleeperRecord) → slice_get s.sleepers.items k ≡ Some z → (z' : SleeperRecord) × (slice_get s'.sleepers.items k ≡ Some z') × SparesSleeper z z'
    pub sleepers_only : (k : ℕ) (z' : SleeperRecord) → slice_get s'.sleepers.items k ≡ Some z' → (z : SleeperRecord) × (slice_get s.sleepers.items k ≡ Some z) × SparesSleeper z z'
    pub many : length s'.requests.items ≡ length s.requests.items
    pub lines : KeepsLines s.requests.items s'.requests.items
    pub room : HasRoom s.requests.items s.store → HasRoom s'.requests.items s.store

  pub touches_none : (s : Shared B) → Touches s s
  touches_none = grind arith

  -- one request is
  pub touches_record : (s s' : Shared B) (k : ℕ) (r r' : Record) → slice_get s.requests.items k ≡ Some r → SparesRecord r r' → s'.requests.items ≡ slice_set s.requests.items k r' → Touches s (record s { requests = s'.requests })
  touches_record s s' k r r' there spares items =
      let rs = s.requests.items in
      let at_gate_kept : SameAtGate r r' = record { at = ap at_gate spares.kept; over = λ h. over_still r r' spares ∙ h; sent = ap (λ (y : Record). y.sent) spares.kept; forwarded = (endures_by r r' spares).forwarded } in
      let lines = subst (KeepsLines rs) (sym (items ∙ sym (ap (changed_in rs k (λ x. r')) there))) (lines_changed rs k r (λ x. r') there at_gate_kept) in
      let room : HasRoom rs s.store → HasRoom s'.requests.items s.store = λ room out socket. subst (λ xs. sum_by (may_move out socket) xs ≤ room_for out (socket_of s.store socket)) (sym items)
      (let sums = sum_set (may_move out socket) rs k r r' there in
      omega (arith, sums, ap (may_move out socket) spares.kept, room out socket)) in
      let back = set_back (λ n. SparesRecord) rs s'.requests.items k r r' there items spares (λ n. spared_same) in
      assumption (set_on (λ n. SparesRecord) rs s'.requests.items k r r' there items spares (λ n. spared_same), back, ap length items ∙ length-set rs k r', lines, room, touches_none s)

  -- one sleeper is
  pub touches_sleeper : (s s' : Shared B) (k : ℕ) (z z' : SleeperRecord) → slice_get s.sleepers.items k ≡ Some z → SparesSleeper z z' → s'.sleepers.items ≡ slice_set s.sleepers.items k z' → Touches s (record s { sleepers = s'.sleepers })
  touches_sleeper s s' k z z' there spares items =
      let back = set_back (λ n. SparesSleeper) s.sleepers.items s'.sleepers.items k z z' there items spares (λ n. sleeper_spared) in
      assumption (set_on (λ n. SparesSleeper) s.sleepers.items s'.sleepers.items k z z' there items spares (λ n. sleeper_spared), back, touches_none s)

  -- what a worker has, wherever it is in its service
  pub record Has (x : Option InService) (w : Worker) (rs : List Record) (ss : List SleeperRecord) (s : Shared B) : Type 0 where
    pub named : IsNamed w.index w.names (driver_of w) w.home.timers rs ss
    pub over : AreOver w.index w.names.ended.items w.names.unreleased (pending_count (driver_of w).requests) rs
    pub flown : HasFlown x w.index w.names (driver_of w) rs
    pub rooted : IsRooted w.index w.names (driver_of w) w.home.timers w.home.deferred rs ss
    pub due : IsDue x w.home.closing w.index w.moments s.config w.names (driver_of w) w.home.timers rs ss
    pub known : IsKnown w.index w.names.requests.items (driver_of w).requests s.opens rs
    pub carried : IsCarried w.names.requests.items (driver_of w).requests (driver_of w).ring rs s.store

  module _ (s s' : Shared B) (to : Touches s s') where
    pub keeps_mine : (i : ℕ) → KeepsMine i s.requests.items s'.requests.items s.sleepers.items s'.sleepers.items
    keeps_mine i = record { records = λ k r there mine. to.records k r there; records_only = λ k r there mine. to.records_only k r there; sleepers = λ k z there mine. to.sleepers k z there; sleepers_only = λ k z there mine. to.sleepers_only k z there }

    pub endure : RecordsEndure s.requests.items s'.requests.items
    endure k r there = let now = to.records k r there in (now.0, now.1, endures_by r now.0 now.2)

    pub endure_too : SleepersEndure s.sleepers.items s'.sleepers.items
    endure_too k z there = let now = to.sleepers k z there in (now.0, now.1, sleeper_endures_by z now.0 now.2)

    pub spares_touched : (j : ℕ) → Spares j s s'
    spares_touched j =
        let s1 : Shared B = record s { requests = s'.requests; sleepers = s'.sleepers } in
        let done : Spares j s s1 = assumption (lined_kept s.requests.items s'.requests.items to.lines s.opens, keeps_mine j, endure, endure_too, to.room, spares_none j s) in
        subst (λ z. Spares j s z) (sym to.kept) done

    pub has_touched : (x : Option InService) (w : Worker) → Has x w s.requests.items s.sleepers.items s → Has x w s'.requests.items s'.sleepers.items s
    has_touched x w has =
        let rs = s.requests.items in
        let rs' = s'.requests.items in
        let ss = s.sleepers.items in
        let ss' = s'.sleepers.items in
        let mine = keeps_mine w.index in
        let d = driver_of w in
        let n = w.names in
        let zs = w.home.timers in
        let owning : (k : ℕ) (r : Record) → slice_get rs' k ≡ Some r → is_resolved r.shown.phase ≡ false → r.shown.released ≡ false = λ k r at open_still.
        let old = to.records_only k r at in
        ap (λ (y : Record). y.shown.released) old.2.kept ∙ has.flown.owning k old.0 old.1 (sym (over_still old.0 r old.2) ∙ open_still) in
        let over = over_apart w.index rs rs' ss ss' mine n.ended.items n.unreleased (pending_count d.requests) has.over in
        let rooted = rooted_apart w.index rs rs' ss ss' mine n d zs has.named w.home.deferred has.rooted in
        let asleep = asleep_apart w.index rs rs' ss ss' mine n d zs has.named has.due.asleep (sleepers_stay ss ss' endure_too) in
        let due : IsDue x w.home.closing w.index w.moments s.config n d zs rs' ss' = assumption (timed_apart w.index rs rs' ss ss' mine n d zs has.named has.due.timed, asleep, has.due) in
        let known : IsKnown w.index n.requests.items d.requests s.opens rs' = record {
          past = λ k r at its.
              let old = to.records_only k r at in
              subst (λ (i : Id). (i.generation < 2 ^ 64) × IsPast d.requests i) (sym (ap (λ (y : Record). y.id.0) old.2.kept)) (has.known.past k old.0 old.1 (sym (worker_still old.0 r old.2) ∙ its));
          counted = λ id past. subst (λ m. id.generation < m) (sym to.many) (has.known.counted id past);
          few = subst (λ m. m ≤ 2 ^ 32) (sym to.many) has.known.few;
          hints = λ id it r live at asks unrefused unhinted.
              let old = record_back w.index rs rs' ss ss' mine n d zs has.named id r (live_of d.requests id it live) at in
              subst (λ t. has_hint_at s.opens t ≡ false) (sym (ap (λ (y : Record). y.shown.operation.target) old.2.kept))
              (has.known.hints id it old.0 live old.1 (ap (λ (y : Record). may_ask_hint y.shown.operation.kind) (sym old.2.kept) ∙ asks) (ap (λ (y : Record). y.shown.operation.unrefused) (sym old.2.kept) ∙ unrefused) unhinted);
        } in
        let target : (id : Id) (it : Waiter Reply Reply) (r : Record) → waiter_at (driver_of w).requests id ≡ Some it → slice_get rs' (number_in w.names.requests.items id) ≡ Some r → r.shown.operation.target ≡ target_of it.request = λ id it r live at.
        let old = record_back w.index rs rs' ss ss' mine n d zs has.named id r (live_of d.requests id it live) at in
        ap (λ (y : Record). y.shown.operation.target) old.2.kept ∙ has.carried.target id it old.0 live old.1 in
        let carried : (id : Id) (it : Waiter Reply Reply) (r : Record) → waiter_at (driver_of w).requests id ≡ Some it → slice_get rs' (number_in w.names.requests.items id) ≡ Some r → IsUnderWay r.shown.phase (user_data_of id) it.request (driver_of w).ring = λ id it r live at.
        let old = record_back w.index rs rs' ss ss' mine n d zs has.named id r (live_of d.requests id it live) at in
        subst (λ (y : Record). IsUnderWay y.shown.phase (user_data_of id) it.request d.ring) (sym old.2.kept) (has.carried.carried id it old.0 live old.1) in
        let carried_on : IsCarried n.requests.items d.requests d.ring rs' s.store = assumption (target, carried, to.room has.carried.room, has.carried) in
        assumption (named_apart w.index rs rs' ss ss' mine n d zs has.named, over, flown_apart w.index rs rs' ss ss' mine n d zs has.named x owning has.flown, rooted, due, known, carried_on)

    pub sound_touched : (p : Place) (w : Worker) → SoundAt p w s → SoundAt p w s'
    sound_touched p w sound =
        let rs = s.requests.items in
        let rs' = s'.requests.items in
        let ss = s.sleepers.items in
        let ss' = s'.sleepers.items in
        let s1 : Shared B = record s { requests = s'.requests; sleepers = s'.sleepers } in
        let hears = heard_apart w.index rs rs' ss ss' (keeps_mine w.index) (heard_at p) sound.hears in
        let mail : (m : Mail) → Contains w.batch.values m → IsMyMail s.config.workers w.index m rs' ss' = λ m has. mail_apart rs rs' ss ss' endure endure_too s.config.workers w.index m (sound.mine m has) in
        let letters : HasLetters (sends_cancel_at p) (cancels_at p) w.index s.config.workers w.letters rs' ss' = record {
          some = sound.letters.some;
          none = sound.letters.none;
          requests = λ h has. letter_apart rs rs' ss ss' endure endure_too s.config.workers w.index (Subject.Request h.number) h.worker (sound.letters.requests h has);
          timer = λ h is. letter_apart rs rs' ss ss' endure endure_too s.config.workers w.index (Subject.Timer h.number) h.worker (sound.letters.timer h is);
        } in
        let stops : Stops (polls_at p) (step_of_poll p) w.index s.tasks.items rs' ss' = stops_touched (polls_at p) (step_of_poll p) w.index s.tasks.items sound.stops in
        let there : SoundAt p w s1 = assumption (lined_kept rs rs' to.lines s.opens sound.gates, hears, mail, letters, stops, has_touched (served_in p) w (assumption sound), sound) in
        subst (SoundAt p w) (sym to.kept) there
      where
        stops_touched : (o : Option ℕ) (x : InPoll) (i : ℕ) (tasks : List (TaskSlot B)) → Stops o x i tasks s.requests.items s.sleepers.items → Stops o x i tasks s'.requests.items s'.sleepers.items
        stops_touched None x i tasks stops = tt
        stops_touched (Some t) x i tasks stops = λ slot there. stops_apart s.requests.items s'.requests.items s.sleepers.items s'.sleepers.items endure endure_too x i (keeps_mine i) slot.waiting (stops slot there)
