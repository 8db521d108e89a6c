-- WHAT THE MACHINE HAS, where a task is over and its worker has let go of what it has of that.
use Rattle.exec_invariants.{specs.Works.Suits, proofs.{Words.{◌≡◌, ℕ, List, [], ◌++◌, Option, Some, refl, sym, ap, subst, ◌∙◌, slice_get, slice_set, map-set, arith, Said, Letter, TaskPhase, Plan, after_over, own_after_drops, own_after_waking_up, Common, Task, task_of, Place, lets_go_all, Letters, Shared, TaskSlot, Worker, Spot, Views, common_of, desk_of, letters_in, own_of, task_seen, things_with, visible, with_view}, Keys.same_opens, Seeing.things_kept, Seen.request_at, Serving.SparesRecords, Slots.task_there, TaskOverFold.SeesAll, TaskOverGone.AllGone, TaskOverPolls.{over_shared, over_worker}, Turning.view_found}}

module _ {B L : Type 0} (left : B → L) (spot : L → Option Said → Spot) (p : Plan) (vs : Views) (t : ℕ) (q : Place) (l : Letters) (w v : Worker) (s now s' : Shared B) (slot slot' : TaskSlot B)
    (suits : Suits p vs w s) (there : slice_get s.tasks.items t ≡ Some slot) (items : s'.tasks.items ≡ slice_set s.tasks.items t slot') (gone : AllGone w.index slot.held.items slot.waiting l w v s now) where
  abbrev c : Common
  c = common_of left spot p vs s

  its : task_of c t ≡ task_seen left spot slot
  its = task_there left spot s.tasks.items t slot there

  sees : SeesAll c slot.held.items s.requests.items
  sees = λ j x r at_j at_k. request_at s.requests.items x.number r at_k

  pub visible_then : visible (over_worker q l v w) ≡ visible w
  visible_then = sym (ap visible gone.worker) ∙ gone.shows

  pub things_then : things_with (with_view vs w.index (visible (over_worker q l v w))) (over_shared s'.tasks.items s' now s) ≡ things_with vs s
  things_then =
      let spares : SparesRecords w.index s (record s { requests = now.requests; sleepers = now.sleepers }) = subst (SparesRecords w.index s) gone.kept gone.spares in
      things_kept vs w.index (visible w) (visible (over_worker q l v w)) s (record s { requests = now.requests; sleepers = now.sleepers }) suits.seen (ap (λ x. x.wakes) visible_then) refl spares

  pub own_then : (owed : List Letter) → own_after_waking_up c w.index (task_of c t).waiting (own_after_drops c w.index (task_of c t).held (record (own_of w) { owed = owed })) ≡ record (own_of v) { owed = owed ++ letters_in l }
  own_then owed = ap (λ (y : Task). own_after_waking_up c w.index y.waiting (own_after_drops c w.index y.held (record (own_of w) { owed = owed }))) its ∙ gone.own c sees refl owed

  pub desk_then : letters_in w.letters ≡ [] → lets_go_all w.index c (task_seen left spot slot) (desk_of w) ≡ desk_of (record v { letters = l })
  desk_then none = gone.desk c sees refl (letters_in w.letters) ∙ ap (λ ls. record (desk_of v) { letters = ls ++ letters_in l }) none

  pub common_then : task_seen left spot slot' ≡ record (task_seen left spot slot) { phase = TaskPhase.Done; held = [] } → common_of left spot p (with_view vs w.index (visible (over_worker q l v w))) (over_shared s'.tasks.items s' now s) ≡ after_over c w.index t
  common_then = grind (arith, over_shared, ap (with_view vs w.index) visible_then ∙ view_found vs w.index (visible w) suits.seen, map-set, same_opens, its)
