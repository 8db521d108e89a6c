-- A name that was given stays given, and who is gone stays gone: so over a run each request ends once.
use Rattle.std.proofs.Common.{◌≡◌, ℕ, zero, suc, ◌<◌, ◌≤◌, ◌^◌, false, List, Option, Some, None, refl, sym, ap, subst, ◌∙◌, inl, inr, arith, ◌+◌, ltb, Bool, cond, [], ◌∷◌, length}
use Rattle.exec_driver_laws.{proofs.{Words.{option_map, IsSomeAnd, cases_lt, next_generation, IsPast, Slot, at_by, over, OpenState, WaiterKey, queued_or_ended, landed_at, permitted, told_as, Reaped, one_changed, Account, Deferred, Driving, Ended, Entry, Id, Pending, Slab, Waiter, WaiterId, entry_of, eqb_tells, request_at, taken_out, waiter_at, with_permit, taken_in, newcomer, Request, get_or_past, filled, freed, generation_of, next_id, removed, slot_at, value_in, Live, Vacant, Retired, some_of_if, output_of, RequestOutput, finished_for, placed_at, placed_is, Observer, Ready, deadline_of, waiter_of, written}, Passing.{ReapsThere, reap_tells, Becomes, Passes, each_call}, Standing.{OneSlot, push_one, set_one, filled_last, IsLast, asking_last, past_filled, past_freed, there_last}}, specs.Sharing.{Call, Grant, Reap, CallsOne, Gates, IsRun, end_by, end_told, key_of, lets_out}}

module _ {S F : Type 0} where
  -- from some requests to later ones: a name that was given was given then too, and is of no request that it wasn't of
  pub record Onward (s s' : Slab (Entry S F)) : Type 0 where
    pub past : (id : Id) → id.generation < 2 ^ 64 → IsPast s id → IsPast s' id
    pub gone : (id : Id) → id.generation < 2 ^ 64 → IsPast s id → waiter_at s id ≡ None → waiter_at s' id ≡ None

  pub unmoved : (s s' : Slab (Entry S F)) → s' ≡ s → Onward s s'
  unmoved s s' same = subst (Onward s) (sym same) (record { past = λ id fits past. past; gone = λ id fits past none. none })

  pub then_on : (a b c : Slab (Entry S F)) → Onward a b → Onward b c → Onward a c
  then_on a b c one other =
      record {
        past = λ id fits past. other.past id fits (one.past id fits past);
        gone = λ id fits past none. other.gone id fits (one.past id fits past) (one.gone id fits past none);
      }

  -- ONE SLOT

  abbrev None_in : Slot (Entry S F) → ℕ → Type 0
  None_in slot n = waiter_of (value_in slot n) ≡ None

  one_on : (s s' : Slab (Entry S F)) (i : ℕ) (slot : Slot (Entry S F)) → OneSlot s s' i slot → ((n : ℕ) → n < 2 ^ 64 → n < next_generation (slot_at s i) → n < next_generation slot)
      → ((n : ℕ) → n < next_generation (slot_at s i) → None_in (slot_at s i) n → None_in slot n) → Onward s s'
  one_on s s' i slot one grows stays =
      record {
        past = λ id fits past.
            elim (one id.index) [
              | inl same ↦ subst (λ (o : Slot (Entry S F)). id.generation < next_generation o) (sym same) past
              | inr here ↦ subst (λ (o : Slot (Entry S F)). id.generation < next_generation o) (sym here.1) (grows id.generation fits (subst (λ (k : ℕ). id.generation < next_generation (slot_at s k)) here.0 past))
            ];
        gone = λ id fits past none.
            elim (one id.index) [
              | inl same ↦ subst (λ (o : Slot (Entry S F)). None_in o id.generation) (sym same) none
              | inr here ↦
                  subst (λ (o : Slot (Entry S F)). None_in o id.generation) (sym here.1)
                  (stays id.generation (subst (λ (k : ℕ). id.generation < next_generation (slot_at s k)) here.0 past) (subst (λ (k : ℕ). None_in (slot_at s k) id.generation) here.0 none))
            ];
      }

  -- who was gone is so in the slot of a request that became another
  live_stays : (g n : ℕ) (w : Waiter S F) (e : Entry S F) → None_in (Live g (Pending w)) n → None_in (Live g e) n
  live_stays = grind arith

  ready_none : (g n : ℕ) (told : RequestOutput) → None_in (Live g (Ready told)) n
  ready_none = grind arith

  freed_none : (b : Bool) (h n : ℕ) → None_in (cond b (Vacant h) Retired) n
  freed_none = grind arith

  -- a name that no slot had before
  fresh_none : (slot : Slot (Entry S F)) (n : ℕ) (e : Entry S F) → (generation_of slot < next_generation slot → ⊥) → n < next_generation slot → None_in (Live (generation_of slot) e) n
  fresh_none = grind (arith, eqb_tells)

  became_on : (s : Slab (Entry S F)) (id : Id) (w w' : Waiter S F) → waiter_at s id ≡ Some w → Onward s (written s id (Pending w'))
  became_on s id w w' at =
      let slot = (at_by s id (Pending w) (entry_of _ w at)).slot in
      one_on s (written s id (Pending w')) id.index (Live id.generation (Pending w')) (set_one s _ id.index (Live id.generation (Pending w')) refl)
      (λ n within past. asking_last s id w at n past)
      (λ n past none. live_stays id.generation n w (Pending w') (subst (λ (o : Slot (Entry S F)). None_in o n) slot none))

  ready_on : (s : Slab (Entry S F)) (id : Id) (told : RequestOutput) → IsLast s id → Onward s (written s id (Ready told))
  ready_on s id told last =
      one_on s (written s id (Ready told)) id.index (Live id.generation (Ready told)) (set_one s _ id.index (Live id.generation (Ready told)) refl) (λ n within past. last n past) (λ n past none. ready_none id.generation n told)

  removed_on : (s : Slab (Entry S F)) (id : Id) → IsLast s id → Onward s (removed s id)
  removed_on s id last =
      one_on s (removed s id) id.index (freed id.generation) (set_one s _ id.index (freed id.generation) refl) (λ n within past. past_freed (Entry S F) (ltb (id.generation + 1) (2 ^ 64)) id.generation n refl within (last n past)) (λ n past none. freed_none (ltb (id.generation + 1) (2 ^ 64)) (id.generation + 1) n)

  filled_on : (s : Slab (Entry S F)) (vacant : List ℕ) (id : Id) (e : Entry S F) → next_id (record s { vacant = vacant }) ≡ Some id → (IsPast s id → ⊥) → Onward s (filled s vacant e)
  filled_on s [] id e next never =
      let slot = get_or_past s.slots (length s.slots) (Vacant s.first) (omega arith) in
      one_on s (filled s [] e) (length s.slots) (Live s.first e) (push_one s (Live s.first e))
      (λ n within past. let before = subst (λ (o : Slot (Entry S F)). n < next_generation o) slot past in omega (arith, before))
      (λ n past none. let before = subst (λ (o : Slot (Entry S F)). n < next_generation o) slot past in new_none n before)
    where
      new_none : (n : ℕ) → n < s.first → None_in (Live s.first e) n
      new_none = grind (arith, eqb_tells)
  filled_on s (i ∷ rest) id e next never =
      let name = some_of_if _ _ _ next in
      let unused : generation_of (slot_at s i) < next_generation (slot_at s i) → ⊥ = λ past. never (subst (IsPast s) name past) in
      one_on s (filled s (i ∷ rest) e) i (Live (generation_of (slot_at s i)) e) (set_one s _ i (Live (generation_of (slot_at s i)) e) refl) (λ n within past. past_filled (slot_at s i) n past) (λ n past none. fresh_none (slot_at s i) n e unused past)

  room_on : (s : Slab (Entry S F)) (room : ℕ) → Onward s (record s { room = room })
  room_on s room = record { past = λ id fits past. past; gone = λ id fits past none. none }

  finished_on : (s : Slab (Entry S F)) (id : Id) (told : RequestOutput) (observer : Observer S F) → IsLast s id → Onward s (finished_for s id told observer)
  finished_on = grind (arith, ready_on, removed_on)

  placed_on : (d : Driving S F) (id : WaiterId) (w : Waiter S F) (now : ℕ) → IsLast d.requests id.0 → Onward d.requests (placed_at d id w now).requests
  placed_on = grind (arith, placed_is, deadline_of, finished_on, unmoved)

  comes : (d : Driving S F) (id : WaiterId) (r : Request) (observer : Observer S F) (now : ℕ) → next_id d.requests ≡ Some id.0 → (IsPast d.requests id.0 → ⊥) → Onward d.requests (placed_at (taken_in d r observer) id (newcomer r observer) now).requests
  comes d id r observer now next never =
      let w = newcomer r observer in
      then_on d.requests (taken_in d r observer).requests _ (filled_on d.requests d.requests.vacant id.0 (Pending w) next never) (placed_on (taken_in d r observer) id w now (filled_last d.requests d.requests.vacant id w next))

  passes : (old : Driving S F) (worker : ℕ) (told : Option (WaiterKey × Ended)) (out : Option WaiterId) (s0 : Slab (Entry S F)) → Passes old (Becomes old) worker told out (Onward s0)
  passes old worker told out s0 =
      record {
        becomes = λ s id w w' at becomes on. then_on s0 s _ on (became_on s id.0 w w' at);
        ends = λ s id w how account at idle over on. then_on s0 s _ on (finished_on s id.0 (output_of w.request how account) w.observer (asking_last s id.0 w at));
        leaves = λ s id output at lets on. then_on s0 s _ on (removed_on s id.0 (there_last s id.0 (Ready output) at));
        room = λ s room on. then_on s0 s _ on (room_on s room);
      }

  pub call_on : (worker : ℕ) (old new : Driving S F) (g g' : Gates) → Call worker old new g g' → Onward old.requests new.requests
  call_on worker old new g g' call =
      each_call worker old new g g' call (Onward old.requests) (passes old worker (end_by call) (lets_out call) old.requests) (λ id r observer now next never on. comes old id r observer now next never) (unmoved old.requests old.requests refl)

-- an end that is told, and of whom
pub told_end : (key k : WaiterKey) (how : Option Ended) → IsSomeAnd (option_map {U = WaiterKey × Ended} (λ how. (k, how)) how) (λ e. e.0 ≡ key) → (ended : Ended) × (how ≡ Some ended) × (k ≡ key)
told_end = grind arith

module _ {S F : Type 0} where
  -- OVER A RUN

  calls_on : (drivers drivers' : ℕ → Driving S F) (g g' : Gates) → CallsOne drivers drivers' g g' → (i : ℕ) → Onward (drivers i).requests (drivers' i).requests
  calls_on drivers drivers' g g' calls i =
      elim (eqb_tells i calls.worker) [
        | inl same ↦ subst (λ (k : ℕ). Onward (drivers k).requests (drivers' k).requests) (sym same.1) (call_on calls.worker _ _ g g' calls.call)
        | inr apart ↦ unmoved _ _ (ap (λ (d : Driving S F). d.requests) (calls.others i apart.1))
      ]

  runs_on : (drivers : ℕ → ℕ → Driving S F) (g : ℕ → Gates) → IsRun drivers g → (n m i : ℕ) → n ≤ m → Onward (drivers n i).requests (drivers m i).requests
  runs_on drivers g run n zero i since = unmoved _ _ (ap (λ (k : ℕ). (drivers k i).requests) (let none : 0 ≡ n = omega (arith, since) in none))
  runs_on drivers g run n (suc k) i since =
      elim (cases_lt k n) [
        | inl before ↦ unmoved _ _ (ap (λ (k : ℕ). (drivers k i).requests) (let same : suc k ≡ n = omega (arith, since, before) in same))
        | inr sooner ↦ then_on _ (drivers k i).requests _ (runs_on drivers g run n k i sooner) (calls_on (drivers k) (drivers (suc k)) (g k) (g (suc k)) (run.next k) i)
      ]

  there_past : (s : Slab (Entry S F)) (id : Id) (w : Waiter S F) → waiter_at s id ≡ Some w → IsPast s id
  there_past s id w at = subst (λ (o : Slot (Entry S F)). id.generation < next_generation o) (sym (at_by s id (Pending w) (entry_of _ w at)).slot) (omega arith)

  pub stays_gone : (drivers : ℕ → ℕ → Driving S F) (g : ℕ → Gates) → IsRun drivers g → (n k m : ℕ) → n ≤ k → k ≤ m → (key : WaiterKey) (w : Waiter S F) → key.id.0.generation < 2 ^ 64 → request_at (drivers n key.worker) key.id ≡ Some w
      → request_at (drivers k key.worker) key.id ≡ None → request_at (drivers m key.worker) key.id ≡ None
  stays_gone drivers g run n k m since later key w fits at gone =
      let past = (runs_on drivers g run n k key.worker since).past key.id.0 fits (there_past (drivers n key.worker).requests key.id.0 w at) in
      (runs_on drivers g run k m key.worker later).gone key.id.0 fits past gone

  -- ENDS

  -- a request of the worker was there and is over
  pub record EndsHere (worker : ℕ) (old new : Driving S F) (key : WaiterKey) : Type 0 where
    pub own : key.worker ≡ worker
    pub w : Waiter S F
    pub at : request_at old key.id ≡ Some w
    pub over : request_at new key.id ≡ None

  told_answer : (w : Waiter S F) (answer : Option Ended) (account : Option Account) (ended : Ended) → told_as w answer account ≡ Some ended → (how : Ended) × (answer ≡ Some how)
  told_answer = grind arith

  ended_over : (d : Driving S F) (id : WaiterId) (w : Waiter S F) (how : Option Ended) (ended : Ended) (account : Option Account) → how ≡ Some ended → request_at d id ≡ Some w → request_at (queued_or_ended d id w how account) id ≡ None
  ended_over = grind (arith, over)

  reap_ends : (worker : ℕ) (old new : Driving S F) (opens opens' : List OpenState) (before after : Deferred S F) (told : Option Reaped) → ReapsThere old new opens opens' before after told → (key : WaiterKey)
      → IsSomeAnd (end_told worker told) (λ e. e.0 ≡ key) → EndsHere worker old new key
  reap_ends worker old new opens opens' before after told there key named =
      let id = there.id in
      let reaps = there.reaps in
      let w' : Waiter S F = record there.w { in_flight = false; request = reaps.request } in
      let d = landed_at (taken_out there.first) id w' in
      let now = (one_changed there.first.requests id.0 there.w w' there.at).is_at in
      let end = told_end key (key_of worker id) _ (subst (λ (o : Option Reaped). IsSomeAnd (end_told worker o) (λ e. e.0 ≡ key)) reaps.told_is named) in
      let how = told_answer there.w reaps.answer _ end.0 end.1 in
      let gone = ap (λ (s : Slab (Entry S F)). waiter_at s id.0) (there.end ∙ ap (λ (m : Driving S F). m.requests) reaps.driver) ∙ ended_over d id w' reaps.answer how.0 _ how.1 now in
      subst (EndsHere worker old new) end.2 (record { own = refl; w = there.w; at = ap (λ (s : Slab (Entry S F)). waiter_at s id.0) (sym there.start) ∙ there.at; over = gone })

  pub ends_here : (worker : ℕ) (old new : Driving S F) (g g' : Gates) (call : Call worker old new g g') (key : WaiterKey) → IsSomeAnd (end_by call) (λ e. e.0 ≡ key) → EndsHere worker old new key
  ends_here worker old new g g' (Grant before after file granted w at grants leaving) key named =
      let id = granted.id in
      let end = told_end key (key_of worker id) granted.ended named in
      let d = permitted old id w in
      let now = (one_changed old.requests id.0 w (with_permit w) at).is_at in
      let gone = ap (λ (m : Driving S F). request_at m id) (grants.grants w at).driver ∙ ended_over d id (with_permit w) granted.ended end.0 _ end.1 now in
      subst (EndsHere worker old new) end.2 (record { own = refl; w = w; at = at; over = gone })
  ends_here worker old new g g' (Reap before after told reap leaving) key named =
      elim (reap_tells old new g.opens g'.opens before after told reap) [
        | inl none ↦ absurd (subst (λ (o : Option Reaped). IsSomeAnd (end_told worker o) (λ e. e.0 ≡ key)) none.told_none named)
        | inr there ↦ reap_ends worker old new g.opens g'.opens before after told there key named
      ]
  ends_here worker old new g g' other key named = absurd named

  ends_at : (drivers : ℕ → ℕ → Driving S F) (g : ℕ → Gates) (run : IsRun drivers g) (n : ℕ) (key : WaiterKey) → IsSomeAnd (end_by (run.next n).call) (λ e. e.0 ≡ key) → EndsHere key.worker (drivers n key.worker) (drivers (suc n) key.worker) key
  ends_at drivers g run n key named =
      let ends = ends_here (run.next n).worker _ _ (g n) (g (suc n)) (run.next n).call key named in
      subst (λ (i : ℕ). EndsHere i (drivers n i) (drivers (suc n) i) key) (sym ends.own) ends

  never_again : (drivers : ℕ → ℕ → Driving S F) (g : ℕ → Gates) (run : IsRun drivers g) (n m : ℕ) (key : WaiterKey) → key.id.0.generation < 2 ^ 64 → IsSomeAnd (end_by (run.next n).call) (λ e. e.0 ≡ key) → IsSomeAnd (end_by (run.next m).call) (λ e. e.0 ≡ key) → n < m → ⊥
  never_again drivers g run n m key fits one other before =
      let first = ends_at drivers g run n key one in
      cc (sym (stays_gone drivers g run n (suc n) m (omega arith) (omega (arith, before)) key first.w fits first.at first.over) ∙ (ends_at drivers g run m key other).at)

  pub ends_once : (drivers : ℕ → ℕ → Driving S F) (g : ℕ → Gates) (run : IsRun drivers g) (n m : ℕ) (key : WaiterKey) → key.id.0.generation < 2 ^ 64 → IsSomeAnd (end_by (run.next n).call) (λ e. e.0 ≡ key)
      → IsSomeAnd (end_by (run.next m).call) (λ e. e.0 ≡ key) → n ≡ m
  ends_once drivers g run n m key fits one other =
      elim (cases_lt n m) [
        | inl before ↦ absurd (never_again drivers g run n m key fits one other before)
        | inr since ↦ elim (cases_lt m n) [ inl after ↦ absurd (never_again drivers g run m n key fits other one after) | inr same ↦ omega (arith, since, same) ]
      ]
