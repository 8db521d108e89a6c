-- The callbacks: what a wake, or an end that is sent elsewhere, leaves of other workers, and of the balances of all.
use Rattle.std.proofs.{Common.{◌≡◌, ◌≢◌, inr, ℕ, ◌+◌, ◌==◌, Bool, true, false, List, length, map, count_by, Option, Some, None, refl, sym, ap, subst, ◌∙◌, arith, slice_get, slice_set, option_to_list, if◌then◌else◌}}
use Rattle.exec_base.specs.declared.task_no.TaskNo.{TaskNo}
use Rattle.exec_waiters.specs.declared.deferred.Deferred.{Deferred}
use Rattle.exec_task.specs.{Phases.{is_idle as is_cell_idle, runnable_of}, declared.runnable.Runnable.Runnable}
use Rattle.exec_machine.specs.Tests.{is_unsent}
use Rattle.exec_moves.specs.{declared.{handing.AfterCallbacks.AfterCallbacks, place.{InCallbacks.InCallbacks, Place.Place}}, Seen.polls_at}
use Rattle.exec_parts.{specs.{declared.parts.{mail.Reply.Reply, record.Record.Record, shared.Shared.Shared, sleeping.SleeperRecord.SleeperRecord, task_slot.TaskSlot.TaskSlot, worker.Worker.Worker}, Pooled.woken_slot, Serving.changed_at}, proofs.Facts.{not_same, same_Some, set_elsewhere, set_there}}
use Rattle.exec_invariants.{specs.{Carried.HasRoom, Gates.HaveGates, Holding.{IsHolding, box_of, holder_of, nap_of, thing_of}, Places.{claims_at, clears_at, drops_at, has_count_at, is_published_at, no_drops, one_if, removes_at}, Sound.{AreHome, SoundAt}, Spares.{RecordsEndure, SleepersEndure, Spares}, Whole.{HasOne, IsWhole, Profile, hands_of, is_number, runnables_in, with_worker}}, proofs.{Aside.{SameProfile, profile_same, spared}, Cells.{complete_woken, polled_woken}, HoldBeside.{Handles, whole_handled}, Lined.{KeepsAt, gates_at, lined_at}, Marking.{Marks, mark_if, marked, marks_if, was_marked}, PoolKept.{gates_same, unremoved}, Slots.{Balances, holders_set, spares_slot, whole_slot}, Spared.{records_endure, sleepers_endure}, SparedRecord.{sleeper_spared, spared_same}, Stirs.{keeps_woken, unwoken}}}
use Rattle.exec_messages.proofs.{BackMarks.{SleepsAlike, marked_at, slept_now}, MailRoots.at_start}

same_at : (rs rs' : List Record) → rs' ≡ rs → KeepsAt rs rs'
same_at = grind arith

-- with another list of what is to be told
abbrev pub with_left : Worker → Deferred Reply Reply → Worker
with_left w left' = record w { home = record w.home { deferred = left' } }

-- what the balances read off a place
pub record Reads (q : Place) : Type 0 where
  pub polls : polls_at q ≡ None
  pub claims : claims_at q ≡ None
  pub counts : has_count_at q ≡ false
  pub published : is_published_at q ≡ false
  pub drops : drops_at q ≡ no_drops

alike_by : (w w' : Worker) (q' : Place) (f h : Option Runnable) (left' : Deferred Reply Reply) → Reads q' → w' ≡ record w { place = q'; root_ready = f; hand = h; home = record w.home { deferred = left' } } → SameProfile (with_left (record w { place = Place.BeginTurn; root_ready = f; hand = h }) left') w'
alike_by = grind arith

-- OF OTHERS the records and sleepers stay

module _ {B : Type 0} where
  pub record OwnTurn (i : ℕ) (s s1 : Shared B) : Type 0 where
    pub records : (k : ℕ) (r : Record) → slice_get s.requests.items k ≡ Some r → r.shown.worker ≢ i → slice_get s1.requests.items k ≡ Some r
    pub records_only : (k : ℕ) (r : Record) → slice_get s1.requests.items k ≡ Some r → r.shown.worker ≢ i → slice_get s.requests.items k ≡ Some r
    pub sleepers : (k : ℕ) (z : SleeperRecord) → slice_get s.sleepers.items k ≡ Some z → z.shown.worker ≢ i → slice_get s1.sleepers.items k ≡ Some z
    pub sleepers_only : (k : ℕ) (z : SleeperRecord) → slice_get s1.sleepers.items k ≡ Some z → z.shown.worker ≢ i → slice_get s.sleepers.items k ≡ Some z
    pub keeps : KeepsAt s.requests.items s1.requests.items
    pub endure : RecordsEndure s.requests.items s1.requests.items
    pub endure_too : SleepersEndure s.sleepers.items s1.sleepers.items

  -- a request of its own was marked
  pub turn_request : (i k : ℕ) (s s1 : Shared B) (r : Record) (f : Record → Record) → Marks f → ((x : Record) → (f x).shown.released ≡ x.shown.released) → slice_get s.requests.items k ≡ Some r → r.shown.worker ≡ i
      → s1.requests.items ≡ changed_at s.requests.items k f → s1.sleepers.items ≡ s.sleepers.items → OwnTurn i s s1
  turn_request i k s s1 r f marks released there mine requests sleepers =
      let rs = s.requests.items in
      let apart : (j : ℕ) (x : Record) → slice_get rs j ≡ Some x → x.shown.worker ≢ i → (k == j) ≡ false = λ j x at other.
      not_same k j (λ same. other (let is : x ≡ r = same_Some x r (sym at ∙ ap (slice_get rs) (sym same) ∙ there) in ap (λ y. y.shown.worker) is ∙ mine)) in
      record {
        records = λ j x at other. ap (λ xs. slice_get xs j) requests ∙ marked f rs k j x at ∙ ap (λ b. Some (mark_if f b x)) (apart j x at other);
        records_only = λ j x at other.
            let old = was_marked f rs k j x (ap (λ xs. slice_get xs j) (sym requests) ∙ at) in
            let before : old.0.shown.worker ≢ i = λ is. other (ap (λ y. y.shown.worker) old.2 ∙ ap (λ y. y.shown.worker) (marks_if f marks (k == j) old.0) ∙ is) in
            let is : x ≡ old.0 = old.2 ∙ ap (λ b. mark_if f b old.0) (apart j old.0 old.1 before) in
            old.1 ∙ ap (λ y. Some y) (sym is);
        sleepers = λ j z at other. ap (λ zs. slice_get zs j) sleepers ∙ at;
        sleepers_only = λ j z at other. ap (λ zs. slice_get zs j) (sym sleepers) ∙ at;
        keeps = subst (KeepsAt rs) (sym requests) (marked_at f marks released rs k r there);
        endure = λ j x at.
            let is = marks_if f marks (k == j) x in
            (mark_if f (k == j) x, ap (λ xs. slice_get xs j) requests ∙ marked f rs k j x at, record { worker = ap (λ y. y.shown.worker) is; forwarded = λ h. ap (λ y. is_unsent y.shown.forwarding) is ∙ h });
        endure_too = sleepers_endure s.sleepers.items s1.sleepers.items sleepers;
      }

  -- a sleeper of its own was
  pub turn_sleeper : (i k : ℕ) (s s1 : Shared B) (z z' : SleeperRecord) → SleepsAlike z z' → slice_get s.sleepers.items k ≡ Some z → z.shown.worker ≡ i → s1.requests.items ≡ s.requests.items → s1.sleepers.items ≡ slice_set s.sleepers.items k z' → OwnTurn i s s1
  turn_sleeper i k s s1 z z' alike there mine requests sleepers =
      let ss = s.sleepers.items in
      let now_there : slice_get (slice_set ss k z') k ≡ Some z' = set_there ss k z' z there in
      record {
        records = λ j r at other. ap (λ rs. slice_get rs j) requests ∙ at;
        records_only = λ j r at other. ap (λ rs. slice_get rs j) (sym requests) ∙ at;
        sleepers = λ j x at other.
            let apart : j ≢ k = λ same. other (let is : x ≡ z = same_Some x z (sym at ∙ ap (slice_get ss) same ∙ there) in ap (λ (y : SleeperRecord). y.shown.worker) is ∙ mine) in
            ap (λ zs. slice_get zs j) sleepers ∙ set_elsewhere ss k j z' apart ∙ at;
        sleepers_only = λ j x at other.
            let found : slice_get (slice_set ss k z') j ≡ Some x = ap (λ zs. slice_get zs j) (sym sleepers) ∙ at in
            let apart : j ≢ k = λ same. other (let is : x ≡ z' = same_Some x z' (sym found ∙ ap (slice_get (slice_set ss k z')) same ∙ now_there) in ap (λ (y : SleeperRecord). y.shown.worker) is ∙ ap (λ (y : SleeperRecord). y.shown.worker) alike.kept ∙ mine) in
            sym (set_elsewhere ss k j z' apart) ∙ found;
        keeps = same_at s.requests.items s1.requests.items requests;
        endure = records_endure s.requests.items s1.requests.items requests;
        endure_too = λ j x at.
            let new = slept_now ss k z z' there alike j x at in
            (new.0, ap (λ zs. slice_get zs j) sleepers ∙ new.1, record { worker = ap (λ (y : SleeperRecord). y.shown.worker) new.2.kept; forwarded = λ h. ap (λ (y : SleeperRecord). is_unsent y.shown.forwarding) new.2.kept ∙ h });
      }

  -- and a task's slot
  pub spares_turned : (i j : ℕ) (s s1 : Shared B) → j ≢ i → OwnTurn i s s1 → HasRoom s1.requests.items s.store → Spares j s (record s { tasks = s1.tasks }) → Spares j s (record s { tasks = s1.tasks; requests = s1.requests; sleepers = s1.sleepers })
  spares_turned = grind (arith, lined_at, spared, same_Some, spared_same, sleeper_spared)

  -- a task that was woken, as others have it
  pub spares_woken : (i j t : ℕ) (s s1 : Shared B) (slot : TaskSlot B) → j ≢ i → slice_get s.tasks.items t ≡ Some slot → s1.tasks.items ≡ slice_set s.tasks.items t (woken_slot slot) → ((k : ℕ) → slot.home ≡ Some k → k ≡ i) → AreHome s.config.workers (length s.seats.items) s.tasks.items
      → Spares j s (record s { tasks = s1.tasks })
  spares_woken i j t s s1 slot other there items home homes =
      spares_slot i j t s s1 slot (woken_slot slot) other there items (keeps_woken slot) (λ is. other (home j is))
      (λ polled mine. record { polled = polled_woken slot.cell.phase ∙ polled; number = refl; cancelled = λ e. e; kept = refl }) homes

  -- THE BALANCES

  -- other requests and sleepers, and another list of what is to be told
  whole_told : (others : Profile) (w : Worker) (left' : Deferred Reply Reply) (s s1 : Shared B) → HaveGates (with_worker others w).drops_by s.opens s1.requests.items
      → IsHolding (hands_of (with_worker others (with_left w left'))) s.config.workers (map holder_of s.tasks.items) (map thing_of s1.requests.items) (map nap_of s1.sleepers.items) (map box_of s.seats.items)
      → IsWhole (with_worker others w) s → IsWhole (with_worker others (with_left w left')) (record s { requests = s1.requests; sleepers = s1.sleepers })
  whole_told = grind arith

  -- a task was woken: its runnable is in the hand where it was idle, and no root
  pub record Hands (t : ℕ) (slot : TaskSlot B) (h : Option Runnable) : Type 0 where
    pub apart : (u : ℕ) → u ≢ t → runnables_in u (option_to_list h) ≡ 0
    pub one : (g : Bool) → slot.home ≡ None → (n : ℕ) → HasOne g slot.cell.phase (n + 0) → HasOne g (woken_slot slot).cell.phase (n + runnables_in t (option_to_list h))

  pub hands_idle : (t : ℕ) (slot : TaskSlot B) → slot.cell.number ≡ record { 0 = t } → is_cell_idle slot.cell.phase ≡ true → Hands t slot (Some (runnable_of slot.cell))
  hands_idle = grind arith

  pub hands_busy : (t : ℕ) (slot : TaskSlot B) → is_cell_idle slot.cell.phase ≡ false → Hands t slot None
  hands_busy t slot busy = record { apart = λ u other. refl; one = λ g home n h. unwoken g slot.cell.phase (n + 0) busy h }

  pub hands_root : (t j : ℕ) (slot : TaskSlot B) → slot.home ≡ Some j → Hands t slot None
  hands_root t j slot home = record { apart = λ u other. refl; one = λ g none. let never : Some j ≡ None = sym home ∙ none in absurd (cc) }

  woken_balances : (x : InCallbacks) (n : AfterCallbacks) (t : ℕ) (w : Worker) (s : Shared B) (slot : TaskSlot B) (h : Option Runnable) → SoundAt (Place.Callbacks x n) w s → Hands t slot h → Balances t Place.BeginTurn w h slot (woken_slot slot)
  woken_balances x n t w s slot h sound hands =
      let polls : polls_at w.place ≡ None = ap polls_at sound.here in
      record {
        keeps = keeps_woken slot;
        holder = ap (λ b. record (holder_of slot) { over = b }) (complete_woken slot.cell.phase);
        apart = λ u other. hands.apart u other ∙ sym (ap (λ o. runnables_in u (option_to_list o)) sound.hand);
        one = λ g home m one. hands.one g home m (subst (λ o. HasOne g slot.cell.phase (m + runnables_in t (option_to_list o))) sound.hand one);
        polls_apart = λ u other. sym (ap (λ o. is_number o u) polls);
        polls = λ home m is. sym (ap (λ o. m + one_if (is_number o t)) polls) ∙ is ∙ ap one_if (sym (polled_woken slot.cell.phase));
        remains = λ home. record { cleared = refl; over = λ over. complete_woken slot.cell.phase ∙ over; poller = λ polled. inr (refl, sym (polled_woken slot.cell.phase) ∙ polled) };
        removes = λ u is. absurd (unremoved (removes_at Place.BeginTurn) refl u is);
      }

  pub whole_woken : (x : InCallbacks) (n : AfterCallbacks) (t : ℕ) (w w' : Worker) (q' : Place) (f h : Option Runnable) (s s1 : Shared B) (slot : TaskSlot B) (left' : Deferred Reply Reply) (others : Profile) → SoundAt (Place.Callbacks x n) w s → slice_get s.tasks.items t ≡ Some slot
      → s1.tasks.items ≡ slice_set s.tasks.items t (woken_slot slot) → Hands t slot h → Reads q' → w' ≡ record w { place = q'; root_ready = f; hand = h; home = record w.home { deferred = left' } } → KeepsAt s.requests.items s1.requests.items
      → IsHolding (hands_of (with_worker others (with_left w left'))) s.config.workers (map holder_of s.tasks.items) (map thing_of s1.requests.items) (map nap_of s1.sleepers.items) (map box_of s.seats.items)
      → IsWhole (with_worker others w) s → IsWhole (with_worker others w') (record s { tasks = s1.tasks; requests = s1.requests; sleepers = s1.sleepers })
  whole_woken x n t w w' q' f h s s1 slot left' others sound there items hands reads is keeps holding whole =
      let wq : Worker = record w { place = Place.BeginTurn; root_ready = f; hand = h } in
      let st : Shared B = record s { tasks = s1.tasks } in
      let first : IsWhole (with_worker others wq) st =
      whole_slot t Place.BeginTurn w f h s s1 slot (woken_slot slot) others (sound.loot.none refl) (ap claims_at sound.here) (ap has_count_at sound.here) (ap is_published_at sound.here) (ap clears_at sound.here)
      (λ home polls. let never : None ≡ Some t = polls in absurd (cc)) at_start there items (woken_balances x n t w s slot h sound hands) whole in
      let gates : HaveGates (with_worker others wq).drops_by s.opens s1.requests.items = gates_at s.requests.items s1.requests.items keeps (with_worker others wq).drops_by s.opens first.gates in
      let holders : map holder_of s1.tasks.items ≡ map holder_of s.tasks.items = ap (map holder_of) items ∙ holders_set s.tasks.items t slot (woken_slot slot) there (ap (λ b. record (holder_of slot) { over = b }) (complete_woken slot.cell.phase)) in
      let held : IsHolding (hands_of (with_worker others (with_left wq left'))) s.config.workers (map holder_of s1.tasks.items) (map thing_of s1.requests.items) (map nap_of s1.sleepers.items) (map box_of s.seats.items) =
      subst (λ hs. IsHolding (hands_of (with_worker others (with_left w left'))) s.config.workers hs (map thing_of s1.requests.items) (map nap_of s1.sleepers.items) (map box_of s.seats.items)) (sym holders) holding in
      let second : IsWhole (with_worker others (with_left wq left')) (record st { requests = s1.requests; sleepers = s1.sleepers }) = whole_told others wq left' st s1 gates held first in
      subst (λ y. IsWhole y (record s { tasks = s1.tasks; requests = s1.requests; sleepers = s1.sleepers })) (sym (profile_same others (with_left wq left') w' (alike_by w w' q' f h left' reads is))) second

  alike_sent : (x : InCallbacks) (n : AfterCallbacks) (w w' : Worker) (q' : Place) (s : Shared B) (left' : Deferred Reply Reply) → SoundAt (Place.Callbacks x n) w s → Reads q' → w' ≡ record w { place = q'; home = record w.home { deferred = left' } } → SameProfile (with_left w left') w'
  alike_sent = grind arith

  -- an end was sent, and no task's slot changed
  pub whole_sent : (x : InCallbacks) (n : AfterCallbacks) (w w' : Worker) (q' : Place) (s s1 : Shared B) (left' : Deferred Reply Reply) (others : Profile) → SoundAt (Place.Callbacks x n) w s → Reads q'
      → w' ≡ record w { place = q'; home = record w.home { deferred = left' } } → KeepsAt s.requests.items s1.requests.items
      → IsHolding (hands_of (with_worker others (with_left w left'))) s.config.workers (map holder_of s.tasks.items) (map thing_of s1.requests.items) (map nap_of s1.sleepers.items) (map box_of s.seats.items)
      → IsWhole (with_worker others w) s → IsWhole (with_worker others w') (record s { requests = s1.requests; sleepers = s1.sleepers })
  whole_sent x n w w' q' s s1 left' others sound reads is keeps holding whole =
      let gates : HaveGates (with_worker others w).drops_by s.opens s1.requests.items = gates_at s.requests.items s1.requests.items keeps (with_worker others w).drops_by s.opens whole.gates in
      let second : IsWhole (with_worker others (with_left w left')) (record s { requests = s1.requests; sleepers = s1.sleepers }) = whole_told others w left' s s1 gates holding whole in
      let alike = alike_sent x n w w' q' s left' sound reads is in
      subst (λ y. IsWhole y (record s { requests = s1.requests; sleepers = s1.sleepers })) (sym (profile_same others (with_left w left') w' alike)) second

  -- or that of the task to which it was sent got it
  pub whole_answered : (x : InCallbacks) (n : AfterCallbacks) (t : ℕ) (w w' : Worker) (q' : Place) (s s1 : Shared B) (slot slot' : TaskSlot B) (left' : Deferred Reply Reply) (others : Profile) → SoundAt (Place.Callbacks x n) w s → Handles t s s1 slot slot' → Reads q'
      → w' ≡ record w { place = q'; home = record w.home { deferred = left' } } → KeepsAt s.requests.items s1.requests.items → left'.notes.wakes.items ≡ w.home.deferred.notes.wakes.items
      → IsHolding (hands_of (with_worker others w)) s.config.workers (map holder_of s1.tasks.items) (map thing_of s1.requests.items) (map nap_of s.sleepers.items) (map box_of s.seats.items)
      → IsWhole (with_worker others w) s → IsWhole (with_worker others w') (record s { tasks = s1.tasks; requests = s1.requests })
  whole_answered x n t w w' q' s s1 slot slot' left' others sound handles reads is keeps wakes holding whole =
      let st : Shared B = record s { tasks = s1.tasks; requests = s1.requests } in
      let on : Handles t s st slot slot' = record { there = handles.there; items = handles.items; cell = handles.cell; home = handles.home; cleared = handles.cleared; poller = handles.poller } in
      let gates : HaveGates (with_worker others w).drops_by s.opens s1.requests.items = gates_at s.requests.items s1.requests.items keeps (with_worker others w).drops_by s.opens whole.gates in
      let first : IsWhole (with_worker others w) st = whole_handled t w.index s st slot slot' (with_worker others w) on (gates_same s.seats.items s.seats.items refl) refl gates holding whole in
      let y : Profile = with_worker others w in
      let same_wakes : (with_worker others (with_left w left')).wakes ≡ y.wakes = wakes_same others w left' wakes in
      let profile : with_worker others (with_left w left') ≡ y = ap (λ (k : ℕ → ℕ → ℕ). record y { wakes = k }) same_wakes in
      let alike = alike_sent x n w w' q' s left' sound reads is in
      subst (λ z. IsWhole z st) (sym (profile_same others (with_left w left') w' alike ∙ profile)) first
    where
      wakes_same : (others : Profile) (w : Worker) (left' : Deferred Reply Reply) → left'.notes.wakes.items ≡ w.home.deferred.notes.wakes.items → (with_worker others (with_left w left')).wakes ≡ (with_worker others w).wakes
      wakes_same others w left' wakes = ap (λ (ns : List TaskNo). λ (j t : ℕ). if j == w.index then count_by (λ n. n.0 == t) ns else others.wakes j t) wakes
