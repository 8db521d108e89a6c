-- What holds of each request, or of each but one: how it goes on holding as the slab of requests changes. And what holds
-- of each driver, after a call on one.
use Rattle.std.proofs.Common.{◌≡◌, ◌≢◌, ℕ, zero, suc, Bool, true, false, List, [], ◌∷◌, ◌++◌, length, set, Option, Some, None, refl, sym, ap, subst, ◌∙◌, inl, inr, arith, length-append, length-set}
use Rattle.exec_driver_laws.{proofs.Words.{Says, cases_lt, get_or-set_at, get_or_past, get_or_push, get_or_append_left, get_or-set_other, value_in, removed, freed, filled, generation_of, slot_at, next_id, Slot, Live, some_of_if, RequestOutput, finished_for, taken_from, forwarded_from, orphaned_from, changed_from, with_observer, with_waker, is_same, TaskNo, Slab, value_at, written, Id, waiter_at, waiter_in, waiter_of, Waiter, Entry, Pending, WaiterId, Driving, Observer, eqb_tells}, specs.Sharing.{Gates, CallsOne, IsRun}}

module _ {S F : Type 0} where
  abbrev pub Holds : (WaiterId → Option (Waiter S F) → Bool) → Slab (Entry S F) → Type 0
  Holds p s = (j : WaiterId) → p j (waiter_at s j.0) ≡ true

  abbrev pub Others : (WaiterId → Option (Waiter S F) → Bool) → WaiterId → Slab (Entry S F) → Type 0
  Others p id s = (j : WaiterId) → is_same id j ≡ false → p j (waiter_at s j.0) ≡ true

  -- what is so of the driver that was called, and was so of all, is so of all
  pub each : {drivers drivers' : ℕ → Driving S F} {g g' : Gates} (P : Driving S F → Type 0) (calls : CallsOne drivers drivers' g g') → P (drivers' calls.worker) → ((i : ℕ) → P (drivers i)) → (i : ℕ) → P (drivers' i)
  each {drivers} {drivers'} P calls here all i =
      elim (eqb_tells i calls.worker) [
        | inr apart ↦ subst P (sym (calls.others i apart.1)) (all i)
        | inl same ↦ subst (λ (n : ℕ). P (drivers' n)) (sym same.1) here
      ]

  pub says_always : (drivers : ℕ → ℕ → Driving S F) (g : ℕ → Gates) → IsRun drivers g → (n i : ℕ) → Says (drivers n i)
  says_always drivers g run zero i = run.first.says i
  says_always drivers g run (suc n) i = each Says (run.next n) (run.next n).says (says_always drivers g run n) i

  -- one slot became another, or one more came: it holds of what is in it, and held of what is in the others
  set_holds : (q : Option (Waiter S F) → Bool) (s s' : Slab (Entry S F)) (i : ℕ) (slot : Slot (Entry S F)) (j : Id) → s'.slots ≡ set s.slots i slot → s'.first ≡ s.first
      → q None ≡ true → (j.index ≡ i → q (waiter_of (value_in slot j.generation)) ≡ true) → (j.index ≢ i → q (waiter_at s j) ≡ true) → q (waiter_at s' j) ≡ true
  set_holds = grind (arith, eqb_tells, cases_lt, get_or-set_other, get_or-set_at, length-set, get_or_past)

  push_holds : (q : Option (Waiter S F) → Bool) (s s' : Slab (Entry S F)) (slot : Slot (Entry S F)) (j : Id) → s'.slots ≡ s.slots ++ slot ∷ [] → s'.first ≡ s.first
      → q None ≡ true → (j.index ≡ length s.slots → q (waiter_of (value_in slot j.generation)) ≡ true) → (j.index ≢ length s.slots → q (waiter_at s j) ≡ true) → q (waiter_at s' j) ≡ true
  push_holds = grind (arith, cases_lt, get_or_append_left, eqb_tells, get_or_push, length-append, get_or_past)

-- It holds where no request is, so that one may go without a look at it.
module _ {S F : Type 0} (p : WaiterId → Option (Waiter S F) → Bool) (none : (j : WaiterId) → p j None ≡ true) where
  pub written_all : (id : WaiterId) (s : Slab (Entry S F)) (e : Entry S F) → p id (waiter_in e) ≡ true → Others p id s → Holds p (written s id.0 e)
  written_all id s e here rest j = set_holds (p j) s (written s id.0 e) id.0.index (Live id.0.generation e) j.0 refl refl (none j) (grind (arith, eqb_tells)) (grind (arith, rest j))

  pub written_but : (id : WaiterId) (s : Slab (Entry S F)) (e : Entry S F) → Others p id s → Others p id (written s id.0 e)
  written_but id s e rest j other = set_holds (p j) s (written s id.0 e) id.0.index (Live id.0.generation e) j.0 refl refl (none j) (grind (arith, eqb_tells)) (grind (arith, rest j))

  pub removed_all : (id : WaiterId) (s : Slab (Entry S F)) → Others p id s → Holds p (removed s id.0)
  removed_all id s rest j = set_holds (p j) s (removed s id.0) id.0.index (freed id.0.generation) j.0 refl refl (none j) (grind arith) (grind (arith, rest j))

  pub filled_but : (id : WaiterId) (s : Slab (Entry S F)) (vacant : List ℕ) (e : Entry S F) → next_id (record s { vacant = vacant }) ≡ Some id.0 → Holds p s → Others p id (filled s vacant e)
  filled_but id s [] e next all j other = push_holds (p j) s (filled s [] e) (Live s.first e) j.0 refl refl (none j) (grind (arith, eqb_tells, some_of_if, get_or_past)) (λ away. all j)
  filled_but id s (i ∷ rest) e next all j other = set_holds (p j) s (filled s (i ∷ rest) e) i (Live (generation_of (slot_at s i)) e) j.0 refl refl (none j) (grind (arith, eqb_tells, some_of_if)) (λ away. all j)

  pub filled_all : (id : WaiterId) (s : Slab (Entry S F)) (vacant : List ℕ) (e : Entry S F) → next_id (record s { vacant = vacant }) ≡ Some id.0 → p id (waiter_in e) ≡ true → Holds p s → Holds p (filled s vacant e)
  filled_all id s [] e next here all j = push_holds (p j) s (filled s [] e) (Live s.first e) j.0 refl refl (none j) (grind (arith, eqb_tells, some_of_if, get_or_past)) (λ away. all j)
  filled_all id s (i ∷ rest) e next here all j = set_holds (p j) s (filled s (i ∷ rest) e) i (Live (generation_of (slot_at s i)) e) j.0 refl refl (none j) (grind (arith, eqb_tells, some_of_if)) (λ away. all j)

  pub finished_all : (id : WaiterId) (s : Slab (Entry S F)) (told : RequestOutput) (observer : Observer S F) → Others p id s → Holds p (finished_for s id.0 told observer)
  finished_all = grind (arith, written_all, removed_all)

  -- a request changed
  pub became : (id : WaiterId) (s : Slab (Entry S F)) (w w' : Waiter S F) → waiter_at s id.0 ≡ Some w → (p id (Some w) ≡ true → p id (Some w') ≡ true) → Holds p s → Holds p (written s id.0 (Pending w'))
  became id s w w' at keeps all = written_all id s (Pending w') (keeps (ap (p id) (sym at) ∙ all id)) (λ j other. all j)

  -- WHO WAITS changes, and an output goes: it holds on where it doesn't look at who waits
  module _ (unseen : (j : WaiterId) (w : Waiter S F) (observer : Observer S F) → p j (Some (with_observer observer w)) ≡ p j (Some w)) where
    pub taken_all : (id : WaiterId) (s : Slab (Entry S F)) (o : Option (Entry S F)) → value_at s id.0 ≡ o → Holds p s → Holds p (taken_from s id.0 o)
    taken_all = grind (arith, removed_all)

    pub waked_all : (id : WaiterId) (task : TaskNo) (s : Slab (Entry S F)) (o : Option (Entry S F)) → value_at s id.0 ≡ o → Holds p s → Holds p (changed_from s id.0 (with_waker task) o)
    waked_all = grind (arith, became, unseen)

    pub forwarded_all : (id : WaiterId) (sender : F) (s : Slab (Entry S F)) (o : Option (Entry S F)) → value_at s id.0 ≡ o → Holds p s → Holds p (forwarded_from s id.0 sender o)
    forwarded_all = grind (arith, became, removed_all, unseen)

    pub orphaned_all : (id : WaiterId) (s : Slab (Entry S F)) (o : Option (Entry S F)) → value_at s id.0 ≡ o → Holds p s → Holds p (orphaned_from s id.0 o)
    orphaned_all = grind (arith, became, removed_all, unseen)
