-- WHAT IS SEEN of a request that its worker has let go of: the machine's lists, what stands on the desk, and what others see.
use Rattle.exec_invariants.{proofs.{Names.{◌≡◌, ℕ, ◌+◌, ◌&&◌, true, false, not, List, [], ◌∷◌, ◌++◌, length, slice_index_or, Some, None, is_some, refl, sym, ap, ◌∙◌, arith, slice_get, if◌then◌else◌, false≢true, append-nil, length-append, map-append, is_live, value_at, written, Id, Slot, Live, Vacant, Retired, RequestOutput, told_to, untaken, waker_in, flying_count, is_held_by, waiter_of, Answer, Observer, DetachedSync, Forwarded, Local, Orphaned, Entry, Pending, Ready, Waiter, Driving, Request, ends_by_drop, is_cancelled_by_drop, joined_if, left_if, own_after_drop, is_resolved, Common, request_of, Heard, is_in_slots, is_some_slot, vacated, Desk, awaits_no_more, one_output, one_result, told_of_drop, turned_away, without_request, Reply, Record, Shared, Worker, LetsGo, number_in, awaited_from, awaits_entry, desk_of, driver_of, numbers_of, own_of, results_in, slots_seen, visible, and_right, same_Some}, LetKept.{is_left, left_gone, number}, LetSlab.same_flying, ServingHolds.KeepsSpare, Slotted.{OneSlot, awaited_over, awaited_removed, awaited_written, slot_in, slots_vacated, slots_written}, LetSlots.named_slot}, specs.{Gates.AreLinedUp, Rooted.IsNear, Sound.served_in}}
pub use Rattle.exec_invariants.proofs.FiringSlots.{slot_none as not_in, value_of_slot as value_live}

-- what the desk is then of one that stands in a slot
abbrev pub dropped_desk : ℕ → Request → Desk → Desk
dropped_desk k r d =
    if is_resolved r.phase then one_output (without_request k d)
    else if ends_by_drop r then one_output (without_request k (turned_away k r d))
    else turned_away k r d

pub desk_there : (k : ℕ) (r : Request) (d : Desk) → r.observed ≡ true → is_in_slots k d.requests ≡ true → told_of_drop k r d ≡ dropped_desk k r d
desk_there k r d seen there =
    ap (λ b. if not (b && is_in_slots k d.requests) then d else dropped_desk k r d) seen ∙ ap (λ b. if not b then d else dropped_desk k r d) there

module _ {B : Type 0} (k : ℕ) (w v : Worker) (s s' : Shared B) (idle : served_in w.place ≡ None) (gates : AreLinedUp s.opens s.requests.items) {spare : ℕ} (keeps : KeepsSpare spare w s) (lets : LetsGo k w v s s') (mine : lets.r.shown.worker ≡ w.index) (seen : lets.r.shown.observed ≡ true) where
  abbrev d : Driving Reply Reply
  d = driver_of w

  abbrev id : Id
  id = lets.r.id.0

  abbrev n : List ℕ
  n = w.names.requests.items

  abbrev kk : ℕ
  kk = number_in w.names.requests.items lets.r.id.0

  -- each number stands in one slot
  pub one_slot : (e : Entry Reply Reply) → value_at d.requests id ≡ Some e → OneSlot w.names.requests.items d.requests id
  one_slot e value = (named_slot w.index w.names d w.home.timers s.opens s.requests.items s.sleepers.items keeps.named keeps.known id e value).0

  pub one_is : (e : Entry Reply Reply) (value : value_at d.requests id ≡ Some e) → (one_slot e value).e ≡ e
  unfolding one_slot
  one_is e value = (named_slot w.index w.names d w.home.timers s.opens s.requests.items s.sleepers.items keeps.named keeps.known id e value).1

  -- WHAT OF THE WORKER IS SEEN, in its parts
  pub record IsSeen : Type 0 where
    pub ring : (driver_of v).ring ≡ d.ring
    pub armed : (driver_of v).armed ≡ d.armed
    pub ready : numbers_of n (driver_of v).lists.queued ≡ left_if (ends_by_drop lets.r.shown) (numbers_of n d.lists.queued) k
    pub unenrolled : numbers_of n (driver_of v).lists.enrolments ≡ left_if (ends_by_drop lets.r.shown) (numbers_of n d.lists.enrolments) k
    pub cancels : numbers_of n (driver_of v).lists.cancels ≡ joined_if (is_cancelled_by_drop lets.r.shown) (left_if (ends_by_drop lets.r.shown) (numbers_of n d.lists.cancels) k) k
    pub flying : flying_count (driver_of v).requests ≡ flying_count d.requests
    pub wakes : v.home.deferred.notes.wakes.items ≡ w.home.deferred.notes.wakes.items
    pub completed : v.home.deferred.notes.completions.items ≡ w.home.deferred.notes.completions.items
    pub desk : record (desk_of w) {
      outputs = length v.home.deferred.outputs.items;
      results = results_in v.home.deferred.results.items;
      requests = slots_seen n (driver_of v).requests;
      awaited = awaited_from 0 n (driver_of v).requests.slots;
    } ≡ told_of_drop k lets.r.shown (desk_of w)

  pub own_so : IsSeen → (all : Common) → request_of all k ≡ lets.r.shown → own_of v ≡ own_after_drop (own_of w) all k
  own_so = grind arith

  pub desk_so : IsSeen → desk_of v ≡ told_of_drop k lets.r.shown (desk_of w)
  desk_so = grind arith

  pub visible_so : IsSeen → visible v ≡ visible w
  visible_so = grind arith

  -- it isn't there any more
  pub seen_gone : value_at d.requests id ≡ None → IsSeen
  seen_gone none =
      let left = left_gone k w v s s' idle gates keeps lets mine seen none in
      let over : is_resolved lets.r.shown.phase ≡ true = keeps.named.over k lets.r lets.request mine (ap waiter_of none) in
      let absent : is_in_slots k (slots_seen n d.requests) ≡ false = ap is_some_slot (not_in k 0 n d.requests.slots (λ j x at alive same. no_slot none j x at alive (ap (λ m. slice_index_or n m 0) (let e : j ≡ 0 + j = omega arith in e) ∙ same))) in
      let outputs : v.home.deferred.outputs.items ≡ w.home.deferred.outputs.items = left.tells.outputs_added ∙ append-nil w.home.deferred.outputs.items in
      let results : v.home.deferred.results.items ≡ w.home.deferred.results.items = left.tells.results_added ∙ append-nil w.home.deferred.results.items in
      grind (arith, append-nil, and_right)
    where
      no_slot : value_at d.requests id ≡ None → (j : ℕ) (x : Slot (Entry Reply Reply)) → slice_get d.requests.slots j ≡ Some x → is_live x ≡ true → slice_index_or n j 0 ≡ k → ⊥
      no_slot none j (Live g e) at alive same =
          let other : Id = record { index = j; generation = g } in
          let value = value_live d.requests j g e at in
          let a = keeps.named.requests other (rw value refl) in
          let no : Some e ≡ None = sym value ∙ ap (value_at d.requests) (sym a.2 ∙ ap (λ (y : Record). y.id.0) (same_Some a.0 lets.r (sym a.1 ∙ ap (slice_get s.requests.items) same ∙ lets.request))) ∙ none in
          absurd (cc)
      no_slot none j (Vacant g) at alive same = false≢true alive
      no_slot none j Retired at alive same = false≢true alive

  -- its output was kept
  pub seen_over : (told : RequestOutput) → value_at d.requests id ≡ Some (Ready told) → IsSeen
  seen_over told ready =
      let s0 = d.requests in
      let d0 = desk_of w in
      let is = number k w v s s' idle gates keeps lets mine seen (rw ready refl) in
      let kept = keeps.rooted.kept id told lets.r ready (ap (slice_get s.requests.items) is ∙ lets.request) in
      let left = is_left k w v s s' idle gates keeps lets mine seen (Some (Ready told)) ready refl (ap is_resolved kept.over) in
      let one = one_slot (Ready told) ready in
      let outputs : length v.home.deferred.outputs.items ≡ d0.outputs + 1 = ap length left.tells.outputs_added ∙ length-append w.home.deferred.outputs.items (untaken {S = Reply} {F = Reply} id told).outputs in
      let requests : slots_seen n (driver_of v).requests ≡ vacated kk d0.requests = ap (λ x. slots_seen n x.requests) left.driver ∙ slots_vacated n s0 id one in
      let awaited : awaited_from 0 n (driver_of v).requests.slots ≡ d0.awaited = ap (λ x. awaited_from 0 n x.requests.slots) left.driver ∙ awaited_removed n s0 id one (ap awaits_entry (one_is (Ready told) ready)) in
      let then_is : told_of_drop kk lets.r.shown d0 ≡ record d0 { outputs = d0.outputs + 1; requests = vacated kk d0.requests } =
      desk_there kk lets.r.shown d0 seen (slot_in n s0 id one) ∙ ap (λ b. if b then one_output (without_request kk d0) else if ends_by_drop lets.r.shown then one_output (without_request kk (turned_away kk lets.r.shown d0)) else turned_away kk lets.r.shown d0) (ap is_resolved kept.over) in
      record {
        ring = ap (λ x. x.ring) left.driver;
        armed = ap (λ x. x.armed) left.driver;
        ready = ap (λ x. numbers_of n x.lists.queued) left.driver ∙ ap (λ b. left_if b (numbers_of n d.lists.queued) k) (sym left.ends);
        unenrolled = ap (λ x. numbers_of n x.lists.enrolments) left.driver ∙ ap (λ b. left_if b (numbers_of n d.lists.enrolments) k) (sym left.ends);
        cancels = ap (λ x. numbers_of n x.lists.cancels) left.driver ∙ ap (λ b. left_if b (numbers_of n d.lists.cancels) k) (sym left.ends) ∙ ap (λ b. joined_if b (left_if (ends_by_drop lets.r.shown) (numbers_of n d.lists.cancels) k) k) (sym left.unasked);
        flying = ap (λ x. flying_count x.requests) left.driver ∙ same_flying s0 id told ready;
        wakes = left.tells.notes.wakes_added ∙ append-nil w.home.deferred.notes.wakes.items;
        completed = left.tells.notes.completions_added ∙ append-nil w.home.deferred.notes.completions.items;
        desk = grind (arith, outputs, left.tells.results_added ∙ append-nil w.home.deferred.results.items, requests, awaited, then_is, is);
      }

  -- NOBODY WAITS FOR IT at its driver any more: on the desk
  pub turned_so : (it it' : Waiter Reply Reply) (results : List (Answer Reply)) (value : value_at d.requests id ≡ Some (Pending it)) → it'.observer ≡ Orphaned → IsNear it.observer lets.r.shown.forwarding → is_held_by it.observer ≡ true → ((reply : Reply) → it.observer ≡ Forwarded reply → reply.of ≡ Heard.Request kk)
      → results ≡ w.home.deferred.results.items ++ (told_to id it.observer).results
      → record (desk_of w) { results = results_in results; requests = slots_seen n (written d.requests id (Pending it')); awaited = awaited_from 0 n (written d.requests id (Pending it')).slots } ≡ turned_away kk lets.r.shown (desk_of w)
  turned_so it it' results value alone near held replies added = by it.observer refl near added
    where
      slots_same : slots_seen n (written d.requests id (Pending it')) ≡ (desk_of w).requests
      slots_same = slots_written n d.requests id (Pending it) (Pending it') value

      none_awaits : awaits_entry (Pending it') ≡ false
      none_awaits = ap (λ o. is_some (waker_in o)) alone

      start : record (desk_of w) { results = results_in results; requests = slots_seen n (written d.requests id (Pending it')); awaited = awaited_from 0 n (written d.requests id (Pending it')).slots }
          ≡ record (desk_of w) { results = results_in results; awaited = awaited_from 0 n (written d.requests id (Pending it')).slots }
      start = ap (λ x. record (desk_of w) { results = results_in results; requests = x; awaited = awaited_from 0 n (written d.requests id (Pending it')).slots }) slots_same

      by : (o : Observer Reply Reply) → it.observer ≡ o → IsNear o lets.r.shown.forwarding → results ≡ w.home.deferred.results.items ++ (told_to id o).results
          → record (desk_of w) { results = results_in results; requests = slots_seen n (written d.requests id (Pending it')); awaited = awaited_from 0 n (written d.requests id (Pending it')).slots } ≡ turned_away kk lets.r.shown (desk_of w)
      by (Local waker) is near added =
          start
          ∙ ap (λ x. record (desk_of w) { results = results_in x; awaited = awaited_from 0 n (written d.requests id (Pending it')).slots }) (added ∙ append-nil w.home.deferred.results.items)
          ∙ ap (λ x. record (desk_of w) { awaited = x }) (awaited_over n d.requests id (one_slot (Pending it) value) (Pending it') none_awaits).0
          ∙ sym (ap (λ b. if b then one_result kk (desk_of w) else awaits_no_more kk (desk_of w)) near)
      by (Forwarded reply) is near added =
          let last : results_in results ≡ (desk_of w).results ++ kk ∷ [] = grind (arith, added, map-append, replies) in
          start
          ∙ ap (λ x. record (desk_of w) { results = x; awaited = awaited_from 0 n (written d.requests id (Pending it')).slots }) last
          ∙ ap (λ x. record (desk_of w) { results = (desk_of w).results ++ kk ∷ []; awaited = x }) (awaited_written n d.requests id (Pending it) (Pending it') value (ap (λ o. is_some (waker_in o)) is ∙ sym none_awaits))
          ∙ sym (ap (λ b. if b then one_result kk (desk_of w) else awaits_no_more kk (desk_of w)) near)
      by (DetachedSync reply) is near added = absurd near
      by Orphaned is near added = absurd (false≢true (sym (ap is_held_by is) ∙ held))
