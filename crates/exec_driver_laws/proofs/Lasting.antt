-- What calls keep: no write or sync was cancelled, and each is there until a grant or a reap says that it ended; and an
-- output that is kept stays kept until somebody looks, forwards it or lets it go.
use Rattle.std.proofs.Common.{◌≡◌, ◌≢◌, ◌⊎◌, ℕ, suc, Bool, true, false, List, Option, Some, None, refl, sym, ap, subst, ◌∙◌, inl, inr, arith, length-append, IsSome, zero, not, ◌&&◌}
use Rattle.exec_driver_laws.{proofs.{Words.{Says, IsSomeAnd, cases_lt, false≢true, get_or_past, get_or_push, get_or_append_left, get_or-set_other, removed, next_id, IsPast, filled, some_of_if, goes_on_alone, RequestOutput, finished, finished_for, WaiterKey, OneChanged, one_removed, same_tells, taken_in, newcomer, placed_at, Request, Ready, Ended, Account, Slab, value_at, written, Id, waiter_at, waiter_in, Waiter, Entry, Pending, WaiterId, Driving, request_at, Observer, deadline_of, eqb_tells, placed_is, one_changed, one_finished, freed, Updates, Changed-set, Updates-free, Updates-write, output_of, at_by, others, entry_of, waiter_of, not-true, asks_cancel}, Passing.{Becomes, Passes, each_call}, Everywhere.{says_always, Holds, each, became, filled_all, finished_all, removed_all}, Standing.{none_past, reads}}, specs.Sharing.{Call, Gates, key_of, end_by, lets_out, IsRun, AreFresh}}

module _ {S F : Type 0} where
  -- it is no write or sync that was cancelled
  abbrev is_whole : WaiterId → Option (Waiter S F) → Bool
  is_whole j None = true
  is_whole j (Some w) = not (goes_on_alone w.request && asks_cancel w.state)

  abbrev NoneBroken : Slab (Entry S F) → Type 0
  NoneBroken s = Holds is_whole s

  still_whole : (old : Driving S F) (w w' : Waiter S F) → Says old → Becomes old w w' → not (goes_on_alone w.request && asks_cancel w.state) ≡ true → not (goes_on_alone w'.request && asks_cancel w'.state) ≡ true
  still_whole = grind arith

  passes_whole : (old : Driving S F) → Says old → (worker : ℕ) (told : Option (WaiterKey × Ended)) (out : Option WaiterId) → Passes old (Becomes old) worker told out NoneBroken
  passes_whole old says worker told out =
      record {
        becomes = λ s id w w' at becomes. became is_whole (λ j. refl) id s w w' at (still_whole old w w' says becomes);
        ends = λ s id w how account at idle brief none. finished_all is_whole (λ j. refl) id s (output_of w.request how account) w.observer (λ j other. none j);
        leaves = λ s id output at lets none. removed_all is_whole (λ j. refl) id s (λ j other. none j);
        room = λ s room none. none;
      }

  placed_whole : (d : Driving S F) (id : WaiterId) (w : Waiter S F) (now : ℕ) → NoneBroken d.requests → NoneBroken (placed_at d id w now).requests
  placed_whole d id w now none = grind (arith, placed_is, deadline_of, finished_all is_whole (λ j. refl) id d.requests, none)

  comes_whole : (d : Driving S F) (id : WaiterId) (r : Request) (observer : Observer S F) (now : ℕ) → next_id d.requests ≡ Some id.0 → NoneBroken d.requests → NoneBroken (placed_at (taken_in d r observer) id (newcomer r observer) now).requests
  comes_whole d id r observer now next none = placed_whole (taken_in d r observer) id (newcomer r observer) now (filled_all is_whole (λ j. refl) id d.requests d.requests.vacant (Pending (newcomer r observer)) next (grind arith) none)

  none_at_first : (drivers : ℕ → Driving S F) (g : Gates) → AreFresh drivers g → (i : ℕ) → NoneBroken (drivers i).requests
  none_at_first = grind (arith, none_past, reads)

  none_broken : (drivers : ℕ → ℕ → Driving S F) (g : ℕ → Gates) → IsRun drivers g → (n i : ℕ) → NoneBroken (drivers n i).requests
  none_broken drivers g run zero i = none_at_first (drivers 0) (g 0) run.first i
  none_broken drivers g run (suc n) i =
      let calls = run.next n in
      let old = drivers n calls.worker in
      each (λ d. NoneBroken d.requests) calls
      (each_call calls.worker old _ _ _ calls.call NoneBroken (passes_whole old (says_always drivers g run n calls.worker) calls.worker (end_by calls.call) (lets_out calls.call)) (λ id r observer now next never. comes_whole old id r observer now next) (none_broken drivers g run n calls.worker))
      (none_broken drivers g run n) i

  pub never_cancelled : (drivers : ℕ → ℕ → Driving S F) (g : ℕ → Gates) → IsRun drivers g → (n i : ℕ) (id : WaiterId) (w : Waiter S F) → request_at (drivers n i) id ≡ Some w → goes_on_alone w.request ≡ true → asks_cancel w.state ≡ false
  never_cancelled drivers g run n i id w at alone = not-true _ (rw (at, alone) at (none_broken drivers g run n i id))

module _ {S F : Type 0} where
  abbrev Keeps : Slab (Entry S F) → Slab (Entry S F) → Type 0
  Keeps s s' = (j : Id) (output : RequestOutput) → value_at s j ≡ Some (Ready output) → value_at s' j ≡ Some (Ready output)

  differs : (s : Slab (Entry S F)) (i j : Id) (w : Waiter S F) (output : RequestOutput) → waiter_at s i ≡ Some w → value_at s j ≡ Some (Ready output) → j ≢ i
  differs s i j w output at ready same = let both : None ≡ Some w = sym (ap waiter_of ready) ∙ ap (λ (k : Id). waiter_at s k) same ∙ at in cc

  there : (s : Slab (Entry S F)) (i : Id) (w : Waiter S F) → waiter_at s i ≡ Some w → IsSome (value_at s i)
  there s i w at = rw (entry_of _ w at) refl

  written_stays : (s : Slab (Entry S F)) (i : Id) (w : Waiter S F) (e : Entry S F) → waiter_at s i ≡ Some w → Keeps s (written s i e)
  written_stays s i w e at j output ready = (Updates-write s i e (there s i w at)).others j (differs s i j w output at ready) ∙ ready

  finished_stays : (s : Slab (Entry S F)) (i : Id) (w : Waiter S F) (told : RequestOutput) (observer : Observer S F) → waiter_at s i ≡ Some w → Keeps s (finished_for s i told observer)
  finished_stays s i w told observer at j output ready = others s i j w told observer at (differs s i j w output at ready) ∙ ready

  goes_at : (s : Slab (Entry S F)) (i : Id) (e : Entry S F) → value_at s i ≡ Some e → Updates s (removed s i) i None
  goes_at s i e at =
      let there = at_by s i e at in
      Updates-free s (removed s i) i e (Changed-set s (removed s i) i.index (freed i.generation) refl refl there.within) there.slot

  removed_but : (s : Slab (Entry S F)) (i j : Id) (e e' : Entry S F) → value_at s i ≡ Some e' → j ≢ i → value_at s j ≡ Some e → value_at (removed s i) j ≡ Some e
  removed_but s i j e e' at other ready = (goes_at s i e' at).others j other ∙ ready

  -- who comes in takes no slot of an output
  apart : (s : Slab (Entry S F)) (id j : Id) (e : Entry S F) → next_id s ≡ Some id → (IsPast s id → ⊥) → value_at s j ≡ Some e → j.index ≢ id.index
  apart = grind (arith, some_of_if)

  pub filled_apart : (s : Slab (Entry S F)) (vacant : List ℕ) (id j : Id) (e : Entry S F) → next_id (record s { vacant = vacant }) ≡ Some id → j.index ≢ id.index → value_at (filled s vacant e) j ≡ value_at s j
  filled_apart = grind (arith, some_of_if, cases_lt, eqb_tells, get_or_append_left, get_or_push, get_or_past, length-append, get_or-set_other)

  finished_apart : (s : Slab (Entry S F)) (id j : Id) (told : RequestOutput) (observer : Observer S F) → j.index ≢ id.index → value_at (finished_for s id told observer) j ≡ value_at s j
  finished_apart = grind (arith, get_or-set_other)

  pub placed_apart : (d : Driving S F) (id : WaiterId) (j : Id) (w : Waiter S F) (now : ℕ) → j.index ≢ id.0.index → value_at (placed_at d id w now).requests j ≡ value_at d.requests j
  placed_apart = grind (arith, placed_is, deadline_of, finished_apart)

  -- EACH CALL

  passes_output : (old : Driving S F) (worker : ℕ) (told : Option (WaiterKey × Ended)) (out : Option WaiterId) (j : WaiterId) (output : RequestOutput) → out ≢ Some j → Passes old (Becomes old) worker told out (λ s. value_at s j.0 ≡ Some (Ready output))
  passes_output old worker told out j output other =
      record {
        becomes = λ s id w w' at becomes. written_stays s id.0 w (Pending w') at j.0 output;
        ends = λ s id w how account at idle over. finished_stays s id.0 w (output_of w.request how account) w.observer at j.0 output;
        leaves = λ s id told at lets. removed_but s id.0 j.0 (Ready output) (Ready told) at (λ same. other (lets ∙ ap (λ (i : Id). let k : WaiterId = record { 0 = i } in Some k) (sym same)));
        room = λ s room ready. ready;
      }

  comes_in : (d : Driving S F) (id : WaiterId) (j : Id) (r : Request) (observer : Observer S F) (now : ℕ) (output : RequestOutput) → next_id d.requests ≡ Some id.0 → (IsPast d.requests id.0 → ⊥) → value_at d.requests j ≡ Some (Ready output)
      → value_at (placed_at (taken_in d r observer) id (newcomer r observer) now).requests j ≡ Some (Ready output)
  comes_in d id j r observer now output next never ready =
      let away = apart d.requests id.0 j (Ready output) next never ready in
      placed_apart (taken_in d r observer) id j (newcomer r observer) now away ∙ filled_apart d.requests d.requests.vacant id.0 j (Pending (newcomer r observer)) next away ∙ ready

  pub stays : (worker : ℕ) (old new : Driving S F) (g g' : Gates) (call : Call worker old new g g') (j : WaiterId) (output : RequestOutput) → lets_out call ≢ Some j → value_at old.requests j.0 ≡ Some (Ready output) → value_at new.requests j.0 ≡ Some (Ready output)
  stays worker old new g g' call j output other =
      each_call worker old new g g' call (λ s. value_at s j.0 ≡ Some (Ready output)) (passes_output old worker (end_by call) (lets_out call) j output other) (λ id r observer now. comes_in old id j.0 r observer now output)

module _ {S F : Type 0} where
  -- a write or a sync
  abbrev lasts : Option (Waiter S F) → Bool
  lasts None = false
  lasts (Some w) = goes_on_alone w.request

  abbrev Last : Slab (Entry S F) → Slab (Entry S F) → Type 0
  Last s s' = (j : Id) → lasts (waiter_at s j) ≡ true → lasts (waiter_at s' j) ≡ true

  one_lasts : (s s' : Slab (Entry S F)) (id : Id) (was is : Option (Waiter S F)) → OneChanged s s' id was is → (lasts was ≡ true → lasts is ≡ true) → Last s s'
  one_lasts s s' id was is one kept j at =
      elim (same_tells (record { 0 = j }) (record { 0 = id })) [
        | inl same ↦
            let here = ap (λ (n : WaiterId). n.0) same.1 in
            ap (λ (n : Id). lasts (waiter_at s' n)) here ∙ ap lasts one.is_at ∙ kept (ap lasts (sym one.was_at) ∙ ap (λ (n : Id). lasts (waiter_at s n)) (sym here) ∙ at)
        | inr other ↦ ap lasts (one.others j other.1) ∙ at
      ]

  removed_lasts : (s : Slab (Entry S F)) (id : Id) (was : Entry S F) → value_at s id ≡ Some was → lasts (waiter_in was) ≡ false → Last s (removed s id)
  removed_lasts s id was at none = one_lasts s _ id _ _ (one_removed s id was at) (λ has. absurd (false≢true (sym none ∙ has)))

  finished_lasts : (s : Slab (Entry S F)) (id : Id) (w : Waiter S F) (how : Ended) (account : Option Account) → waiter_at s id ≡ Some w → goes_on_alone w.request ≡ false → Last s (finished s id w how account)
  finished_lasts s id w how account at none = one_lasts s _ id _ _ (one_finished s id w how account at) (λ has. absurd (false≢true (sym none ∙ has)))

  became_lasts : (s : Slab (Entry S F)) (id : Id) (w w' : Waiter S F) → waiter_at s id ≡ Some w → goes_on_alone w'.request ≡ goes_on_alone w.request → Last s (written s id (Pending w'))
  became_lasts s id w w' at same = one_lasts s _ id _ _ (one_changed s id w w' at) (λ has. same ∙ has)

  -- AN ADMISSION

  apart_lasting : (s : Slab (Entry S F)) (id j : Id) → next_id s ≡ Some id → (IsPast s id → ⊥) → lasts (waiter_at s j) ≡ true → j.index ≢ id.index
  apart_lasting = grind (arith, some_of_if)

  -- EACH CALL

  -- it is there still, or this end was told
  abbrev Spared : Slab (Entry S F) → WaiterKey → Option (WaiterKey × Ended) → Type 0
  Spared s key told = (lasts (waiter_at s key.id.0) ≡ true) ⊎ IsSomeAnd told (λ e. e.0 ≡ key)

  still : (s s' : Slab (Entry S F)) (key : WaiterKey) (told : Option (WaiterKey × Ended)) → Last s s' → Spared s key told → Spared s' key told
  still s s' key told last (inl has) = inl (last key.id.0 has)
  still s s' key told last (inr tells) = inr tells

  over : (s : Slab (Entry S F)) (worker : ℕ) (j id : WaiterId) (w : Waiter S F) (how : Ended) (account : Option Account) (told : Option (WaiterKey × Ended)) → waiter_at s id.0 ≡ Some w
      → (goes_on_alone w.request ≡ false) ⊎ IsSomeAnd told (λ e. e.0 ≡ key_of worker id) → Spared s (key_of worker j) told → Spared (finished s id.0 w how account) (key_of worker j) told
  over s worker j id w how account told at (inl brief) spared = still s (finished s id.0 w how account) (key_of worker j) told (finished_lasts s id.0 w how account at brief) spared
  over s worker j id w how account told at (inr tells) (inr is) = inr is
  over s worker j id w how account told at (inr tells) (inl has) =
      elim (same_tells j id) [
        | inl same ↦ inr (subst (λ (i : WaiterId). IsSomeAnd told (λ e. e.0 ≡ key_of worker i)) (sym same.1) tells)
        | inr other ↦ inl (ap lasts ((one_finished s id.0 w how account at).others j.0 other.1) ∙ has)
      ]

  passes : (old : Driving S F) → Says old → (worker : ℕ) (told : Option (WaiterKey × Ended)) (out : Option WaiterId) (j : WaiterId) → Passes old (Becomes old) worker told out (λ s. Spared s (key_of worker j) told)
  passes old says worker told out j =
      record {
        becomes = λ s id w w' at becomes. still s (written s id.0 (Pending w')) (key_of worker j) told (became_lasts s id.0 w w' at becomes.alone);
        ends = λ s id w how account at idle ended. over s worker j id w how account told at (ended says);
        leaves = λ s id output at lets. still s (removed s id.0) (key_of worker j) told (removed_lasts s id.0 (Ready output) at refl);
        room = λ s room spared. spared;
      }

  comes : (d : Driving S F) (worker : ℕ) (id j : WaiterId) (r : Request) (observer : Observer S F) (now : ℕ) (told : Option (WaiterKey × Ended)) → next_id d.requests ≡ Some id.0 → (IsPast d.requests id.0 → ⊥) → Spared d.requests (key_of worker j) told
      → Spared (placed_at (taken_in d r observer) id (newcomer r observer) now).requests (key_of worker j) told
  comes d worker id j r observer now told next never (inr tells) = inr tells
  comes d worker id j r observer now told next never (inl at) =
      let away = apart_lasting d.requests id.0 j.0 next never at in
      inl (ap (λ (e : Option (Entry S F)). lasts (waiter_of e)) (placed_apart (taken_in d r observer) id j.0 (newcomer r observer) now away ∙ filled_apart d.requests d.requests.vacant id.0 j.0 (Pending (newcomer r observer)) next away) ∙ at)

  call_lasts : (worker : ℕ) (old new : Driving S F) (g g' : Gates) (call : Call worker old new g g') → Says old → (j : WaiterId) → lasts (request_at old j) ≡ true → Spared new.requests (key_of worker j) (end_by call)
  call_lasts worker old new g g' call says j at =
      let told = end_by call in
      each_call worker old new g g' call (λ s. Spared s (key_of worker j) told) (passes old says worker told (lets_out call) j) (λ id r observer now. comes old worker id j r observer now told) (inl at)

  pub ends_told : (drivers : ℕ → ℕ → Driving S F) (g : ℕ → Gates) (run : IsRun drivers g) (n : ℕ) (key : WaiterKey) (w : Waiter S F) → request_at (drivers n key.worker) key.id ≡ Some w → goes_on_alone w.request ≡ true
      → request_at (drivers (suc n) key.worker) key.id ≡ None → IsSomeAnd (end_by (run.next n).call) (λ e. e.0 ≡ key)
  ends_told drivers g run n key w at alone gone =
      let calls = run.next n in
      let there = ap lasts at ∙ alone in
      elim (eqb_tells key.worker calls.worker) [
        | inr apart ↦ absurd (cc (sym at ∙ ap (λ (d : Driving S F). request_at d key.id) (sym (calls.others key.worker apart.1)) ∙ gone))
        | inl same ↦
            elim (call_lasts calls.worker _ _ _ _ calls.call (says_always drivers g run n calls.worker) key.id (ap (λ (i : ℕ). lasts (request_at (drivers n i) key.id)) (sym same.1) ∙ there)) [
              | inl still ↦ absurd (false≢true (sym (ap lasts gone) ∙ ap (λ (i : ℕ). lasts (request_at (drivers (suc n) i) key.id)) same.1 ∙ still))
              | inr told ↦ subst (λ (i : ℕ). IsSomeAnd (end_by calls.call) (λ e. e.0 ≡ key_of i key.id)) (sym same.1) told
            ]
      ]
