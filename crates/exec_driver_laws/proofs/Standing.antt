-- Where a request stands: its gate, the line of an open, and one slot that changed.
use Rattle.std.proofs.Common.{◌≡◌, ◌≢◌, ◌⊎◌, ℕ, zero, suc, ◌+◌, ◌-◌, ◌<◌, ◌^◌, ltb, Bool, true, false, cond, List, [], ◌∷◌, ◌++◌, length, set, get_or, slice_get, drop, Option, Some, refl, sym, ap, subst, ◌∙◌, inl, inr, arith, length-append, length-set}
use Rattle.exec_driver_laws.{proofs.Words.{Contains, is_none, cases_lt, get_or-set_at, get_or_past, get_or_push, get_or_append_left, get_or-set_other, Contains-push_cases, slot_at, value_at, value_in, removed, freed, filled, next_id, generation_of, next_generation, Slot, Live, Vacant, Retired, same_id, some_of_if, kept_of, gate_of, RequestOutput, Moves, Store, at_by, entry_of, finished_for, holder_in, holder_at, open_at, with_open, with_named, joined, WaiterKey, eqb_tells, Slab, written, Id, Request, OpResult, Submission, waiter_at, waiter_in, waiter_of, Waiter, Entry, Pending, WaiterId, OpenState, Observer, set_there}, specs.Sharing.{Gates, IsGiven, StandsIn, StandsAt, key_of, with_lines}}

-- THE GATE OF A REQUEST: what its operations leave as it is tells it

pub gate_kept : (r r' : Request) → kept_of r' ≡ kept_of r → gate_of r' ≡ gate_of r
gate_kept = grind arith

pub gate_moved : (flight : Option Submission) (given : OpResult) (r r' : Request) (st st' : Store) → Moves flight given r r' st st' → gate_of r' ≡ gate_of r
gate_moved = grind arith

-- THE LINES

set_elsewhere : (opens : List OpenState) (file other : ℕ) (o : OpenState) → other ≢ file → slice_get (set opens file o) other ≡ slice_get opens other
set_elsewhere [] file other o apart = refl
set_elsewhere (x ∷ opens) zero zero o apart = absurd (apart refl)
set_elsewhere (x ∷ opens) zero (suc other) o apart = refl
set_elsewhere (x ∷ opens) (suc file) zero o apart = refl
set_elsewhere (x ∷ opens) (suc file) (suc other) o apart = set_elsewhere opens file other o (λ e. apart (ap suc e))

-- another open stays, or this one changed
pub open_tells : (opens : List OpenState) (file : ℕ) (change : OpenState → OpenState) (other : ℕ) → (open_at (with_open opens file change) other ≡ open_at opens other) ⊎ ((o : OpenState) × (other ≡ file) × (open_at opens file ≡ Some o) × (open_at (with_open opens file change) other ≡ Some (change o)))
open_tells = grind (arith, eqb_tells, set_there, set_elsewhere)

-- the same hold gates, stand in lines and are to leave
pub record SameLines (g g' : Gates) : Type 0 where
  pub holder : (file : ℕ) → holder_at g'.opens file ≡ holder_at g.opens file
  pub stands : (file : ℕ) (key : WaiterKey) → StandsAt g'.opens file key → StandsAt g.opens file key
  pub stood : (file : ℕ) (key : WaiterKey) → StandsAt g.opens file key → StandsAt g'.opens file key
  pub leaving : (file : ℕ) → g'.leaving file ≡ g.leaving file

pub named_lines : (g : Gates) (file : Option ℕ) (change : OpenState → OpenState) → ((o : OpenState) → ((change o).holder ≡ o.holder) × ((change o).waiting ≡ o.waiting)) → SameLines g (with_lines g (with_named g.opens file change))
named_lines = grind (arith, open_tells)

pub unmoved : (g g' : Gates) → g' ≡ g → SameLines g g'
unmoved = grind arith

pub then_lines : (a b c : Gates) → SameLines a b → SameLines b c → SameLines a c
then_lines a b c one other =
    record {
      holder = λ file. other.holder file ∙ one.holder file;
      stands = λ file key stands. one.stands file key (other.stands file key stands);
      stood = λ file key stood. other.stood file key (one.stood file key stood);
      leaving = λ file. other.leaving file ∙ one.leaving file;
    }

-- who joins stands behind all others, or holds a gate that nobody held
pub joined_holds : (key : WaiterKey) (o : OpenState) (k : WaiterKey) → o.holder ≡ Some k → (joined key o).holder ≡ Some k
joined_holds key o k is = rw is refl

pub joined_stands : (key : WaiterKey) (o : OpenState) (k : WaiterKey) → StandsIn k (Some (joined key o)) → StandsIn k (Some o) ⊎ (key ≡ k)
joined_stands key o k stands = by (is_none o.holder) stands
  where
    by : (b : Bool) → StandsIn k (Some (cond b (record o { coming = o.coming - 1; holder = Some key }) (record o { coming = o.coming - 1; waiting = o.waiting ++ key ∷ [] }))) → StandsIn k (Some o) ⊎ (key ≡ k)
    by true (inl holds) = inr (cc)
    by true (inr waits) = inl (inr waits)
    by false (inl holds) = inl (inl holds)
    by false (inr waits) = elim (Contains-push_cases o.waiting key k waits) [ inl before ↦ inl (inr before) | inr same ↦ inr same ]

-- who stands in a line after its holder left stood there before
pub left_stands : (waiting : List WaiterKey) (k : WaiterKey) → (slice_get waiting 0 ≡ Some k) ⊎ Contains (drop 1 waiting) k → Contains waiting k
left_stands [] k (inl holds) = absurd (cc)
left_stands [] k (inr waits) = waits
left_stands (x ∷ waiting) k (inl holds) = (0, omega arith, let same : x ≡ k = cc in same)
left_stands (x ∷ waiting) k (inr waits) = let within = waits.1 in (suc waits.0, omega (arith, within), waits.2)

pub holder_stands : (o : Option OpenState) (key : WaiterKey) → holder_in o ≡ Some key → StandsIn key o
holder_stands = grind arith

none_freed : {S F : Type 0} (b : Bool) (h n : ℕ) (w : Waiter S F) → waiter_of (value_in (cond b (Vacant h) Retired) n) ≡ Some w → ⊥
none_freed = grind arith

-- a slot that a removal left has given as many ids
pub past_freed : (T : Type 0) (b : Bool) (g n : ℕ) → ltb (g + 1) (2 ^ 64) ≡ b → n < 2 ^ 64 → n < g + 1 → let slot : Slot T = cond b (Vacant (g + 1)) Retired in n < next_generation slot
past_freed = grind arith

pub past_filled : {T : Type 0} (slot : Slot T) (n : ℕ) → n < next_generation slot → n < generation_of slot + 1
past_filled = grind arith

module _ {S F : Type 0} where
  -- Who was granted a permit has it, it stands in the line of its own open alone, and isn't to leave it yet.
  pub record Fits (g : Gates) (key : WaiterKey) (w : Waiter S F) : Type 0 where
    pub holds : (file : ℕ) → w.permit ≡ true → gate_of w.request ≡ Some file → holder_at g.opens file ≡ Some key
    pub lines : (file : ℕ) → StandsAt g.opens file key → gate_of w.request ≡ Some file
    pub stays : (file : ℕ) → g.leaving file ≡ Some key → ⊥

  pub record AllFit (g : Gates) (worker : ℕ) (s : Slab (Entry S F)) : Type 0 where
    pub fits : (id : WaiterId) (w : Waiter S F) → waiter_at s id.0 ≡ Some w → Fits g (key_of worker id) w
    pub given : (id : WaiterId) (file : ℕ) → StandsAt g.opens file (key_of worker id) → IsGiven s id

  -- whoever has the permit afterwards had it before, with the same gate
  alike : (g : Gates) (key : WaiterKey) (w w' : Waiter S F) → gate_of w'.request ≡ gate_of w.request → (w'.permit ≡ true → w.permit ≡ true) → Fits g key w → Fits g key w'
  alike = grind arith

  pub all_over : (g g' : Gates) (worker : ℕ) (s : Slab (Entry S F)) → SameLines g g' → AllFit g worker s → AllFit g' worker s
  all_over g g' worker s same all =
      record {
        fits = λ id w at.
            let fits = all.fits id w at in
            record {
              holds = λ file has is. same.holder file ∙ fits.holds file has is;
              lines = λ file stands. fits.lines file (same.stands file (key_of worker id) stands);
              stays = λ file leaves. fits.stays file (sym (same.leaving file) ∙ leaves);
            };
        given = λ id file stands. all.given id file (same.stands file (key_of worker id) stands);
      }

  -- its slot has given no later id
  abbrev pub IsLast : Slab (Entry S F) → Id → Type 0
  IsLast s id = (n : ℕ) → n < next_generation (slot_at s id.index) → n < id.generation + 1

  pub there_last : (s : Slab (Entry S F)) (id : Id) (e : Entry S F) → value_at s id ≡ Some e → IsLast s id
  there_last s id e at n past = subst (λ (o : Slot (Entry S F)). n < next_generation o) (at_by s id e at).slot past

  pub asking_last : (s : Slab (Entry S F)) (id : Id) (w : Waiter S F) → waiter_at s id ≡ Some w → IsLast s id
  asking_last s id w at = there_last s id (Pending w) (entry_of _ w at)

  -- ONE SLOT

  pub reads : (o o' : Slot (Entry S F)) (g : ℕ) (w : Waiter S F) → o ≡ o' → waiter_of (value_in o g) ≡ Some w → waiter_of (value_in o' g) ≡ Some w
  reads o o' g w same at = ap (λ (x : Slot (Entry S F)). waiter_of (value_in x g)) (sym same) ∙ at

  pub none_past : (h g : ℕ) (w : Waiter S F) → waiter_of (value_in (Vacant h) g) ≡ Some w → ⊥
  none_past h g w is = cc

  pub live_tells : (g : ℕ) (e : Entry S F) (n : ℕ) (w : Waiter S F) → waiter_of (value_in (Live g e) n) ≡ Some w → (g ≡ n) × (waiter_in e ≡ Some w)
  live_tells = grind arith

  past_reads : (o o' : Slot (Entry S F)) (n : ℕ) → o ≡ o' → n < next_generation o → n < next_generation o'
  past_reads o o' n same past = subst (λ (x : Slot (Entry S F)). n < next_generation x) same past

  -- one slot is this one afterwards, where there is such a slot
  abbrev pub OneSlot : Slab (Entry S F) → Slab (Entry S F) → ℕ → Slot (Entry S F) → Type 0
  OneSlot s s' i slot = (j : ℕ) → (slot_at s' j ≡ slot_at s j) ⊎ ((j ≡ i) × (slot_at s' j ≡ slot))

  pub set_one : (s : Slab (Entry S F)) (slots : List (Slot (Entry S F))) (i : ℕ) (slot : Slot (Entry S F)) → slots ≡ set s.slots i slot → (j : ℕ)
      → (get_or slots j (Vacant s.first) ≡ get_or s.slots j (Vacant s.first)) ⊎ ((j ≡ i) × (get_or slots j (Vacant s.first) ≡ slot))
  set_one = grind (arith, eqb_tells, cases_lt, get_or-set_other, get_or-set_at, length-set, get_or_past)

  pub push_one : (s : Slab (Entry S F)) (slot : Slot (Entry S F)) (j : ℕ)
      → (get_or (s.slots ++ slot ∷ []) j (Vacant s.first) ≡ get_or s.slots j (Vacant s.first)) ⊎ ((j ≡ length s.slots) × (get_or (s.slots ++ slot ∷ []) j (Vacant s.first) ≡ slot))
  push_one = grind (arith, cases_lt, get_or_append_left, eqb_tells, get_or_push, length-append, get_or_past)

  slot_fits : (g : Gates) (worker : ℕ) (s s' : Slab (Entry S F)) (i : ℕ) (slot : Slot (Entry S F)) → OneSlot s s' i slot → ((id : WaiterId) (w : Waiter S F) → id.0.index ≡ i → waiter_of (value_in slot id.0.generation) ≡ Some w → Fits g (key_of worker id) w) → ((n : ℕ) → n < 2 ^ 64 → n < next_generation (slot_at s i) → n < next_generation slot) → AllFit g worker s → AllFit g worker s'
  slot_fits g worker s s' i slot one new grows all =
      record {
        fits = λ id w at.
            elim (one id.0.index) [
              | inl same ↦ all.fits id w (reads _ _ id.0.generation w same at)
              | inr here ↦ new id w here.0 (reads _ _ id.0.generation w here.1 at)
            ];
        given = λ id file stands.
            let was = all.given id file stands in
            elim (one id.0.index) [
              | inl same ↦ record { fits = was.fits; past = past_reads _ _ id.0.generation (sym same) was.past }
              | inr here ↦ record { fits = was.fits; past = past_reads _ _ id.0.generation (sym here.1) (grows id.0.generation was.fits (subst (λ (k : ℕ). id.0.generation < next_generation (slot_at s k)) here.0 was.past)) }
            ];
      }

  -- the slot of a request
  live_fits : (g : Gates) (worker : ℕ) (id : WaiterId) (i n : ℕ) (e : Entry S F) → record { index = i; generation = n } ≡ id.0 → ((w : Waiter S F) → waiter_in e ≡ Some w → Fits g (key_of worker id) w) → (other : WaiterId) (w : Waiter S F) → other.0.index ≡ i → waiter_of (value_in (Live n e) other.0.generation) ≡ Some w → Fits g (key_of worker other) w
  live_fits g worker id i n e is fits other w index at =
      let live = live_tells n e other.0.generation w at in
      let same : id.0 ≡ other.0 = sym is ∙ same_id (record { index = i; generation = n }) other.0 (sym index) live.0 in
      subst (λ (m : Id). Fits g (key_of worker (record { 0 = m })) w) same (fits w live.1)

  pub written_fits : (g : Gates) (worker : ℕ) (s : Slab (Entry S F)) (id : WaiterId) (e : Entry S F) → IsLast s id.0 → ((w : Waiter S F) → waiter_in e ≡ Some w → Fits g (key_of worker id) w) → AllFit g worker s → AllFit g worker (written s id.0 e)
  written_fits g worker s id e last fits all =
      slot_fits g worker s (written s id.0 e) id.0.index (Live id.0.generation e) (set_one s _ id.0.index (Live id.0.generation e) refl) (live_fits g worker id id.0.index id.0.generation e refl fits) (λ n within past. last n past) all

  pub removed_fits : (g : Gates) (worker : ℕ) (s : Slab (Entry S F)) (id : WaiterId) → IsLast s id.0 → AllFit g worker s → AllFit g worker (removed s id.0)
  removed_fits g worker s id last all =
      slot_fits g worker s (removed s id.0) id.0.index (freed id.0.generation) (set_one s _ id.0.index (freed id.0.generation) refl)
      (λ other w index at. absurd (none_freed (ltb (id.0.generation + 1) (2 ^ 64)) (id.0.generation + 1) other.0.generation w at))
      (λ n within past. past_freed (Entry S F) (ltb (id.0.generation + 1) (2 ^ 64)) id.0.generation n refl within (last n past)) all

  first_given : (s : Slab (Entry S F)) → generation_of (slot_at s (length s.slots)) ≡ s.first
  first_given s = ap generation_of (get_or_past s.slots (length s.slots) (Vacant s.first) (omega arith))

  pushed_id : (s : Slab (Entry S F)) (id : WaiterId) → next_id (record s { vacant = [] }) ≡ Some id.0 → record { index = length s.slots; generation = s.first } ≡ id.0
  pushed_id s id next = ap (λ (g : ℕ). let n : Id = record { index = length s.slots; generation = g } in n) (sym (first_given s)) ∙ some_of_if _ _ _ next

  pub filled_fits : (g : Gates) (worker : ℕ) (s : Slab (Entry S F)) (vacant : List ℕ) (id : WaiterId) (w : Waiter S F) → next_id (record s { vacant = vacant }) ≡ Some id.0 → Fits g (key_of worker id) w → AllFit g worker s → AllFit g worker (filled s vacant (Pending w))
  filled_fits g worker s [] id w next fits all =
      let before = λ (n : ℕ). past_reads (slot_at s (length s.slots)) (Vacant s.first) n (get_or_past s.slots (length s.slots) (Vacant s.first) (omega arith)) in
      slot_fits g worker s _ (length s.slots) (Live s.first (Pending w)) (push_one s (Live s.first (Pending w))) (live_fits g worker id (length s.slots) s.first (Pending w) (pushed_id s id next) (λ v same. subst (Fits g (key_of worker id)) (cc) fits)) (λ n within past. let was = before n past in omega (arith, was)) all
  filled_fits g worker s (i ∷ rest) id w next fits all =
      slot_fits g worker s _ i (Live (generation_of (slot_at s i)) (Pending w)) (set_one s _ i (Live (generation_of (slot_at s i)) (Pending w)) refl) (live_fits g worker id i (generation_of (slot_at s i)) (Pending w) (some_of_if _ _ _ next) (λ v same. subst (Fits g (key_of worker id)) (cc) fits)) (λ n within past. past_filled (slot_at s i) n past) all

  filled_slot : (s : Slab (Entry S F)) (i n : ℕ) (w : Waiter S F) → n < next_generation (get_or (set s.slots i (Live (generation_of (slot_at s i)) (Pending w))) i (Vacant s.first)) → n < generation_of (slot_at s i) + 1
  filled_slot = grind (arith, cases_lt, past_reads, get_or-set_at, length-set, past_filled, get_or_past)

  pub filled_last : (s : Slab (Entry S F)) (vacant : List ℕ) (id : WaiterId) (w : Waiter S F) → next_id (record s { vacant = vacant }) ≡ Some id.0 → IsLast (filled s vacant (Pending w)) id.0
  filled_last = grind (arith, pushed_id, past_reads, get_or_push, some_of_if, filled_slot)

  -- a request became another with the same gate, and with no permit that it hadn't
  pub becomes : (g : Gates) (worker : ℕ) (s : Slab (Entry S F)) (id : WaiterId) (w w' : Waiter S F) → waiter_at s id.0 ≡ Some w → gate_of w'.request ≡ gate_of w.request → (w'.permit ≡ true → w.permit ≡ true) → AllFit g worker s → AllFit g worker (written s id.0 (Pending w'))
  becomes g worker s id w w' at gate permit all =
      written_fits g worker s id (Pending w') (asking_last s id.0 w at) (λ v same. subst (Fits g (key_of worker id)) (cc) (alike g (key_of worker id) w w' gate permit (all.fits id w at))) all

  pub finished_fits : (g : Gates) (worker : ℕ) (s : Slab (Entry S F)) (id : WaiterId) (told : RequestOutput) (observer : Observer S F) → IsLast s id.0 → AllFit g worker s → AllFit g worker (finished_for s id.0 told observer)
  finished_fits = grind (arith, written_fits, removed_fits)
