-- Where no act was made: a root can be told what it could.
use Rattle.exec_invariants.{proofs.Names.{◌≡◌, ℕ, true, List, Option, Some, None, refl, slice_get, slice_set, length-set, arith, Said, Waiting, begun_waiting, numbers_held, Shared, TaskSlot, Worker, is_complete, by_number, set_elsewhere, set_there}, specs.Hearing.{CanHear, Hears, StillHears, held_once_come}}

-- what is waited for as a poll begins can be heard as before
pub hears_begun : (told : Option Said) (u : Waiting) (held : List ℕ) (answer : Said) → CanHear told (begun_waiting u) answer → CanHear told u answer × (held_once_come u held ≡ held_once_come (begun_waiting u) held)
hears_begun = grind arith

module _ {B : Type 0} where
  hears_self : (slot : TaskSlot B) → Hears slot slot
  hears_self slot = record { home = refl; body = refl; going = λ h. h; told = λ answer hears. (hears, refl) }

  -- with the same tasks
  pub unheard : {w w' : Worker} {s s' : Shared B} → w'.root ≡ w.root → s'.config ≡ s.config → s'.tasks.items ≡ s.tasks.items → StillHears w s w' s'
  unheard = grind arith

  -- where the slot of task t became this
  pub hears_so : {w w' : Worker} {s s' : Shared B} (t : ℕ) (slot slot' : TaskSlot B) → w'.root ≡ w.root → s'.config ≡ s.config → slice_get s.tasks.items t ≡ Some slot → s'.tasks.items ≡ slice_set s.tasks.items t slot' → Hears slot slot' → StillHears w s w' s'
  hears_so = grind (arith, length-set, by_number, set_elsewhere, hears_self, set_there)

  -- or is over
  pub hears_over : {w w' : Worker} {s s' : Shared B} (t : ℕ) (slot slot' : TaskSlot B) → w'.root ≡ w.root → s'.config ≡ s.config → slice_get s.tasks.items t ≡ Some slot → s'.tasks.items ≡ slice_set s.tasks.items t slot' → is_complete slot'.cell.phase ≡ true → StillHears w s w' s'
  hears_over = grind (arith, length-set, by_number, set_elsewhere, hears_self, set_there)

  -- what it waited for has come
  pub hears_come : (slot slot' : TaskSlot B) (u : Waiting) (x : Said) → slot.told ≡ None → slot.waiting ≡ u → CanHear None u x → held_once_come u (numbers_held slot.held.items) ≡ (numbers_held slot'.held.items)
      → slot' ≡ record slot { held = slot'.held; waiting = Waiting.Nothing; told = Some x } → Hears slot slot'
  hears_come = grind arith
