-- What a task held that is over is let go, one after another.
use Rattle.std.proofs.{Common.{◌≡◌, ℕ, Option, Some, ◌+◌, ◌<◌, List, [], ◌∷◌, length, drop, get_or, slice_get, slice_set, sym, ap, subst, ◌∙◌, arith, drop-cons}, lemmas.{Bool.cases_eq, Option.slice_get_within}}
use Rattle.exec_parts.{specs.{Words.Waiting, Ending.{LetsGoAll, LetsGoOf, LetsGoOne, LetsGoOne.{here, elsewhere}, LetsWaiting, MayLetGoAll}, declared.parts.{held.Held.Held, shared.Shared.Shared, worker.Worker.Worker}}, proofs.Facts.set_there}

module _ {B : Type 0} (hs : List Held) (w0 : Worker) (s0 : Shared B) where
  -- so far: what is left may be let go, and once it is, all is
  pub record HeldSoFar (at : ℕ) (w : Worker) (s : Shared B) : Type 0 where
    pub may : MayLetGoAll (drop at hs) w s
    pub all : (w' : Worker) (s' : Shared B) → LetsGoAll (drop at hs) w w' s s' → LetsGoAll hs w0 w' s0 s'

module _ {B : Type 0} {hs : List Held} {w0 : Worker} {s0 : Shared B} {at : ℕ} {w : Worker} {s : Shared B} (so : HeldSoFar hs w0 s0 at w s) (more : at < length hs) (h : Held) where
  first_left : drop at hs ≡ get_or hs at h ∷ drop (at + 1) hs
  first_left = grind (arith, drop-cons hs at h more)

  -- one more was passed, whoever had it
  pub passed : (v : Worker) (now : Shared B) → LetsGoOne (get_or hs at h) w v s now → HeldSoFar hs w0 s0 (at + 1) v now
  passed v now one =
      let may : MayLetGoAll (get_or hs at h ∷ drop (at + 1) hs) w s = subst (λ left. MayLetGoAll left w s) first_left so.may in
      record {
        may = may.1 v now one;
        all = λ w' s' lets. so.all w' s' (subst (λ left. LetsGoAll left w w' s s') (sym first_left) (v, now, one, lets));
      }

-- ITS SLOT then: it holds nothing, and else is as it was

module _ {B : Type 0} where
  tasks_all : (hs : List Held) (w w' : Worker) (s s' : Shared B) → LetsGoAll hs w w' s s' → s'.tasks ≡ s.tasks
  tasks_all [] w w' s s' lets = ap (λ (x : Shared B). x.tasks) lets.1
  tasks_all (h ∷ hs) w w' s s' (v, now, here mine lets, later) = tasks_all hs v w' now s' later ∙ ap (λ (x : Shared B). x.tasks) lets.kept
  tasks_all (h ∷ hs) w w' s s' (v, now, elsewhere other same still, later) = tasks_all hs v w' now s' later ∙ ap (λ (x : Shared B). x.tasks) still

  tasks_waited : (what : Waiting) (left : Option Held) (w w' : Worker) (s s' : Shared B) → LetsWaiting what left w w' s s' → s'.tasks ≡ s.tasks
  tasks_waited (Waiting.Timer z) left w w' s s' lets = grind (arith, lets, cases_eq lets.it.shown.worker w.index)
  tasks_waited _ left w w' s s' lets = ap (λ (x : Shared B). x.tasks) lets.1

  module _ (t : ℕ) (w w' : Worker) (s s' : Shared B) (lets : LetsGoOf t w w' s s') where
    tasks_gone : s'.tasks.items ≡ slice_set s.tasks.items t lets.slot'
    tasks_gone = ap (λ v. v.items) (tasks_waited lets.slot.waiting w'.letters.timer lets.v lets.u lets.now s' lets.sleeps ∙ tasks_all lets.slot.held.items w lets.v lets.first lets.now lets.lets) ∙ lets.tasks

    pub slot_gone : slice_get s'.tasks.items t ≡ Some lets.slot'
    slot_gone = ap (λ xs. slice_get xs t) tasks_gone ∙ set_there s.tasks.items t lets.slot' lets.slot lets.there

    pub within_gone : t < length s'.tasks.items
    within_gone = slice_get_within s'.tasks.items t lets.slot' slot_gone
