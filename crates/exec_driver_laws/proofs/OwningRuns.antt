-- Whose the operations of rings are at each moment of a run.
use Rattle.std.proofs.Common.{◌≡◌, ℕ, zero, suc, ◌≤◌, ◌<◌, true, false, cond, [], ◌∷◌, Option, Some, None, refl, sym, ap, subst, ◌∙◌, inl, inr, arith}
use Rattle.exec_driver_laws.{proofs.{Words.{IsSomeAnd, same_Some, is_operation, user_data_of, named, WaiterKey, Says, completed_in, Completion, Id, Waiter, WaiterId, Driving, request_at, result_in, waiter_at, is_flying, is_some, eqb_tells}, OwningCalls.{Turns, Stays, Begins, Over, turns, call_keeps, kept_owned, flying_some, named_there, named_back, gone_told}, Everywhere.{each, says_always}, Promises.completed_named, Standing.{none_past, reads}}, specs.{Owning.{operations_in, HasOwner, IsOwned}, OwningExamples.{polling, its_entry}, Sharing.{Gates, CallsOne, AreFresh, IsRun, key_of, end_by_reap}}}

-- the user data of a request is that of an operation
pub names_operation : (id : Id) → id.index < 4294967295 → is_operation (user_data_of id) ≡ true
names_operation = grind (arith, eqb_tells)

module _ {S F : Type 0} where
  pub kept : (drivers drivers' : ℕ → Driving S F) (g g' : Gates) → CallsOne drivers drivers' g g' → ((i : ℕ) → Says (drivers i)) → ((i : ℕ) → IsOwned (drivers i)) → (i : ℕ) → IsOwned (drivers' i)
  kept drivers drivers' g g' calls says owned = each IsOwned calls (kept_owned calls.worker _ _ g g' calls.call (says calls.worker) (owned calls.worker)) owned

  none_named : (drivers : ℕ → Driving S F) (g : Gates) → AreFresh drivers g → (i : ℕ) (id : WaiterId) (w : Waiter S F) → request_at (drivers i) id ≡ Some w → id.0.index < 4294967295
  none_named = grind (arith, none_past, reads)

  pub always : (drivers : ℕ → ℕ → Driving S F) (g : ℕ → Gates) → IsRun drivers g → (n i : ℕ) → IsOwned (drivers n i)
  always drivers g run zero i =
      record { names = none_named (drivers 0) (g 0) run.first i; owned = λ user_data is. let none = run.first.rings i user_data is in omega (arith, none) }
  always drivers g run (suc n) i = kept (drivers n) (drivers (suc n)) (g n) (g (suc n)) (run.next n) (says_always drivers g run n) (always drivers g run n) i

  pub names : (drivers : ℕ → ℕ → Driving S F) (g : ℕ → Gates) → IsRun drivers g → (n i : ℕ) (id : WaiterId) (w : Waiter S F) → request_at (drivers n i) id ≡ Some w → is_operation (user_data_of id.0) ≡ true
  names drivers g run n i id w at = names_operation id.0 ((always drivers g run n i).names id w at)

  owner_by : (d : Driving S F) (user_data : ℕ) (o : Option Id) → named d.requests user_data ≡ o → operations_in d.ring user_data ≤ cond (is_some o) 1 0 → 0 < operations_in d.ring user_data → HasOwner d user_data
  owner_by d user_data None at few some = absurd (omega (arith, few, some))
  owner_by d user_data (Some id) at few some =
      let there = named_there d.requests user_data id at in
      let w = flying_some (waiter_at d.requests id) there.1 in
      record { id = record { 0 = id }; w = w.0; at = w.1; flies = w.2; user_data_is = there.2; one = omega (arith, few, some) }

  pub owner : (drivers : ℕ → ℕ → Driving S F) (g : ℕ → Gates) → IsRun drivers g → (n i user_data : ℕ) → is_operation user_data ≡ true → 0 < operations_in (drivers n i).ring user_data → HasOwner (drivers n i) user_data
  owner drivers g run n i user_data is some = owner_by (drivers n i) user_data (named (drivers n i).requests user_data) refl ((always drivers g run n i).owned user_data is) some

  names_owner : (d : Driving S F) (user_data : ℕ) → IsOwned d → (a : HasOwner d user_data) → named d.requests user_data ≡ Some a.id.0
  names_owner d user_data owned a =
      let within = owned.names a.id a.w a.at in
      ap (named d.requests) (sym a.user_data_is) ∙ named_back d.requests a.id.0 (omega (arith, within)) (ap is_flying a.at ∙ a.flies)

  stays_by : (old new : Driving S F) (user_data : ℕ) → Turns old new user_data → IsOwned old → IsOwned new → (a : HasOwner old user_data) (b : HasOwner new user_data) → b.id ≡ a.id
  stays_by old new user_data (Stays less on) was is a b =
      ap (λ (x : Id). let n : WaiterId = record { 0 = x } in n) (same_Some _ _ (sym (names_owner new user_data is b) ∙ on a.id.0 (names_owner old user_data was a)))
  stays_by old new user_data (Begins less none some) was is a b = let there = names_owner old user_data was a in absurd (cc)
  stays_by old new user_data (Over less) was is a b = let before = a.one in let after = b.one in absurd (omega (arith, less, before, after))

  pub stays_owned : (drivers : ℕ → ℕ → Driving S F) (g : ℕ → Gates) → IsRun drivers g → (n i user_data : ℕ) → is_operation user_data ≡ true → (a : HasOwner (drivers n i) user_data) (b : HasOwner (drivers (suc n) i) user_data) → b.id ≡ a.id
  stays_owned drivers g run n i user_data is a b =
      let calls = run.next n in
      let was = always drivers g run n i in
      let now = always drivers g run (suc n) i in
      elim (eqb_tells i calls.worker) [
        | inr apart ↦ stays_by (drivers n i) (drivers (suc n) i) user_data (subst (λ (d : Driving S F). Turns (drivers n i) d user_data) (sym (calls.others i apart.1)) (Stays (omega arith) (λ id at. at))) was now a b
        | inl same ↦
            let turned = turns calls.worker _ _ _ (call_keeps calls.worker _ _ _ _ calls.call (says_always drivers g run n calls.worker)) (always drivers g run n calls.worker) user_data is in
            stays_by (drivers n i) (drivers (suc n) i) user_data (subst (λ (k : ℕ). Turns (drivers n k) (drivers (suc n) k) user_data) (sym same.1) turned) was now a b
      ]

  pub taken : (drivers : ℕ → ℕ → Driving S F) (g : ℕ → Gates) → IsRun drivers g → (n i : ℕ) (c : Completion) (id : Id) (a : HasOwner (drivers n i) c.user_data) → completed_in (drivers n i) c ≡ Some id → id ≡ a.id.0
  taken drivers g run n i c id a completed =
      let d = drivers n i in
      same_Some id a.id.0 (sym (completed_named d.requests (result_in c.result) (named d.requests c.user_data) id completed) ∙ names_owner d c.user_data (always drivers g run n i) a)

  pub gone : (drivers : ℕ → ℕ → Driving S F) (g : ℕ → Gates) (run : IsRun drivers g) (n : ℕ) (key : WaiterKey) (w : Waiter S F) → request_at (drivers n key.worker) key.id ≡ Some w → w.in_flight ≡ true
      → request_at (drivers (suc n) key.worker) key.id ≡ None → IsSomeAnd (end_by_reap (run.next n).call) (λ e. e.0 ≡ key)
  gone drivers g run n key w at flies over =
      let calls = run.next n in
      elim (eqb_tells key.worker calls.worker) [
        | inr apart ↦ absurd (cc (sym at ∙ ap (λ (d : Driving S F). request_at d key.id) (sym (calls.others key.worker apart.1)) ∙ over))
        | inl same ↦
            let there = ap (λ (i : ℕ). is_flying (request_at (drivers n i) key.id)) (sym same.1) ∙ ap is_flying at ∙ flies in
            let none = ap (λ (i : ℕ). request_at (drivers (suc n) i) key.id) (sym same.1) ∙ over in
            subst (λ (i : ℕ). IsSomeAnd (end_by_reap calls.call) (λ e. e.0 ≡ key_of i key.id)) (sym same.1)
            (gone_told calls.worker _ _ _ (call_keeps calls.worker _ _ _ _ calls.call (says_always drivers g run n calls.worker)) key.id there none)
      ]

-- THE WORKED EXAMPLES

pub unowned : IsOwned (polling false (its_entry ∷ [])) → ⊥
unowned owned = let one : 1 ≤ 0 = owned.owned 0 refl in omega (arith, one)

pub two : IsOwned (polling true (its_entry ∷ its_entry ∷ [])) → ⊥
two owned = let two : 2 ≤ 1 = owned.owned 0 refl in omega (arith, two)
