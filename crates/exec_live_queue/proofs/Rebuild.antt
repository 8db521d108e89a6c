-- The rule after a step of the owner: one lemma for all of them.
use Rattle.exec_live_queue.{proofs.{Labels.at_within, Words.{◌≡◌, ◌≢◌, ℕ, zero, suc, ◌+◌, ◌-◌, ◌<◌, ◌≤◌, List, [], ◌∷◌, length, set, sym, ap, ◌∙◌, subst, ⊎_elim, arith, some, some-injective, some-ne-none, get_elem?, Option, None, slice_index, sum_by, sum_by-cons, State, Act, Valid, carried_after, homes_after, Allows, either, eqb, at_set, set_here, set_else, Own, Theft, View, Stage, Owns, Claimed, head_word, filled, Outside, BesideClaim, InOrder, words_of, labels, Homes, HomeAt, FullAt, weight_of, Knows, AsLogged, Kept, LiveQueue, Sat, Place}}, specs.Seats.IsAt}
use Rattle.std.proofs.Common.{arith}
use Rattle.atomic_table.specs.declared.shared.Shared.{Shared}

-- one item of a sum is another
pub sum_set : {X : Type 0} (f : X → ℕ) (xs : List X) (i : ℕ) (x y : X) → get_elem? xs i ≡ some x → sum_by f (set xs i y) + f x ≡ sum_by f xs + f y
sum_set f [] i x y e = absurd (some-ne-none x (sym e))
sum_set f (z ∷ xs) zero x y e = let is : f z ≡ f x = ap f (some-injective z x e) in let a = sum_by-cons f y xs in let b = sum_by-cons f z xs in omega (arith, a, b, is)
sum_set f (z ∷ xs) (suc i) x y e = let h = sum_set f xs i x y e in let a = sum_by-cons f z (set xs i y) in let b = sum_by-cons f z xs in omega (arith, a, b, h)

module _ {T : Type 0} where
  -- a seat whose view is the owner's is the first
  pub as_owner : (start : ℕ) (s : State (Option T) (View T)) (id : ℕ) (v : View T) → LiveQueue start s → get_elem? s.views id ≡ some v → v.stage ≡ Owns → (id ≡ 0) × Kept start v s
  as_owner start s id v q at own = grind arith

  -- what a thief knows still holds where the owner popped or pushed
  knows_on : (tail real gap tail' real' gap' claimed holder j : ℕ) (t : Theft T) (st : Stage) → tail ≤ tail' → real ≤ real' → (0 < gap → (0 < gap') × (real' + gap ≡ real + gap'))
      → Knows tail real gap claimed holder j t st → Knows tail' real' gap' claimed holder j t st
  knows_on tail real gap tail' real' gap' claimed holder j t st a b c k = grind arith

  -- a longer log of the same start says the same of what was taken
  logged_on : (d d' : Own T) (t : Theft T) → d'.start ≡ d.start → ((l : ℕ) (x : T) → get_elem? d.log l ≡ some x → get_elem? d'.log l ≡ some x) → AsLogged d t → AsLogged d' t
  logged_on d d' t starts longer old = grind arith

  -- the owner's view becomes v', and what the owner must show of its own numbers, slots and labels
  pub rebuilt : (start : ℕ) (s : State (Option T) (View T)) (v v' : View T) (k : Kept start v s) (ws : List ℕ) (homes : Homes T) (real gap : ℕ)
      → get_elem? s.views 0 ≡ some v → v.stage ≡ Owns → v'.stage ≡ Owns → v'.own.start ≡ start → length homes ≡ 256 → ws ≡ words_of (head_word real gap) v'.own.tail
      → InOrder v'.own real gap k.claimed → v'.own.start + length v'.own.log ≡ filled v'.own
      → v.own.tail ≤ v'.own.tail → k.real ≤ real → (0 < k.gap → (0 < gap) × (real + k.gap ≡ k.real + gap)) → (0 < gap → 0 < k.gap)
      → ((l : ℕ) → real ≤ l → l < filled v'.own → FullAt v'.own homes l)
      → ((l : ℕ) → filled v'.own ≤ l → l < real + 256 → BesideClaim real gap k.claimed l → Outside v'.own.out_at v'.own.out_len l → HomeAt homes l None)
      → v'.theft ≡ v.theft → ((l : ℕ) (x : T) → get_elem? v.own.log l ≡ some x → get_elem? v'.own.log l ≡ some x)
      → ((w : ℕ → ℕ) → weight_of w v' + sum_by w (labels start (k.real - start)) ≡ weight_of w v + sum_by w (labels start (real - start)))
      → LiveQueue start record { words = ws; homes = homes; views = set s.views 0 v' }
  rebuilt start s v v' k ws homes real gap at was own from slots words order long on_tail on_real on_gap back full free theft longer told =
      let near : 0 < length s.views = at_within s.views 0 v at in let starts : v'.own.start ≡ v.own.start = from ∙ sym k.from in record {
        view = v';
        seated = set_here s.views 0 v' near;
        owns = own;
        kept = record {
          real = real;
          gap = gap;
          claimed = k.claimed;
          holder = k.holder;
          from = from;
          slots = slots;
          words = words;
          order = order;
          long = long;
          full = full;
          free = free;
          each_seat = λ j u e. ⊎_elim
              (λ (is : (j ≡ 0) × (v' ≡ u)). subst (λ (x : View T). Knows v'.own.tail real gap k.claimed k.holder j x.theft x.stage) is.1
              (subst (λ (st : Stage). Knows v'.own.tail real gap k.claimed k.holder j v'.theft st) (sym own) is.0))
              (λ (other : (j ≢ 0) × (get_elem? s.views j ≡ some u)). knows_on v.own.tail k.real k.gap v'.own.tail real gap k.claimed k.holder j u.theft u.stage on_tail on_real on_gap (k.each_seat j u other.1))
              (at_set s.views 0 j v' u e);
          each_lot = λ j u e. ⊎_elim
              (λ (is : (j ≡ 0) × (v' ≡ u)). subst (λ (x : View T). AsLogged v'.own x.theft) is.1 (subst (AsLogged v'.own) (sym theft) (logged_on v.own v'.own v.theft starts longer (k.each_lot 0 v at))))
              (λ (other : (j ≢ 0) × (get_elem? s.views j ≡ some u)). logged_on v.own v'.own u.theft starts longer (k.each_lot j u other.1))
              (at_set s.views 0 j v' u e);
          held = λ pos. let h = k.held (back pos) in
              let ne : k.holder ≢ 0 = λ e. let same : v ≡ h.0 = some-injective v h.0 (sym at ∙ subst (λ (i : ℕ). get_elem? s.views i ≡ some h.0) e h.1) in
              let clash : Owns ≡ Claimed = sym was ∙ ap (λ (u : View T). u.stage) same ∙ h.2 in cc in
              (h.0, set_else s.views 0 k.holder v' ne ∙ h.1, h.2);
          told = λ w. let a = sum_set (weight_of w) s.views 0 v v' at in let b = k.told w in let c = told w in omega (arith, a, b, c);
        };
      }

  -- what a step must give that writes x, where the words are these, the seat carries these slots and has this number
  abbrev pub Puts : ℕ → State (Option T) (View T) → ℕ → ℕ → (Sat T → Type 0) → List ℕ → List (ℕ × Option T) → ℕ → Type 0
  Puts start s i x then ws c id = (w : View T) × (a : Act (Option T)) × Valid s.homes c a
      × LiveQueue start record { words = set ws i x; homes = homes_after s.homes c a; views = set s.views id w } × then (w, carried_after c a)

  abbrev pub Gives : ℕ → State (Option T) (View T) → ℕ → (ℕ → ℕ) → (ℕ → Sat T → Type 0) → List ℕ → List (ℕ × Option T) → ℕ → Type 0
  Gives start s i f then ws c id = Puts start s i (f (slice_index ws i)) (then (slice_index ws i)) ws c id

  -- an exchange that hits or misses
  pub exchanges : (start : ℕ) (s : State (Option T) (View T)) (ws : List ℕ) (c : List (ℕ × Option T)) (id found old new : ℕ) (hit miss : Sat T → Type 0)
      → (found ≡ old → Puts start s 11 new hit ws c id) → (found ≢ old → Puts start s 11 found miss ws c id)
      → Puts start s 11 (either (eqb found old) new found) (λ m. (found ≡ old → hit m) × (found ≢ old → miss m)) ws c id
  exchanges = grind arith

  -- what a step of the owner must show
  pub owner_steps : (start id i : ℕ) (me : Sat T) (c : List (ℕ × Option T)) (f : ℕ → ℕ) (then : ℕ → Sat T → Type 0) → me.0.stage ≡ Owns → me.1 ≡ c
      → ((s : State (Option T) (View T)) (k : Kept start me.0 s) → get_elem? s.views 0 ≡ some me.0 → Gives start s i f then (words_of (head_word k.real k.gap) me.0.own.tail) c 0)
      → Allows (LiveQueue start) 256 id me i f then
  owner_steps start id i me c f then owns carries step s q wide at lt =
      let own = as_owner start s id me.0 q at owns in let k = own.1 in let ws : List ℕ = words_of (head_word k.real k.gap) me.0.own.tail in
      let at0 : get_elem? s.views 0 ≡ some me.0 = subst (λ (j : ℕ). get_elem? s.views j ≡ some me.0) own.0 at in
      subst (λ (l : List ℕ). Gives start s i f then l me.1 id) (sym k.words) (subst (λ (c' : List (ℕ × Option T)). Gives start s i f then ws c' id) (sym carries) (subst (Gives start s i f then ws c) (sym own.0) (step s k at0)))

  -- what a step of a thief must show
  pub thief_steps : (start id i : ℕ) (me : Sat T) (c : List (ℕ × Option T)) (f : ℕ → ℕ) (then : ℕ → Sat T → Type 0) → me.1 ≡ c
      → ((s : State (Option T) (View T)) (q : LiveQueue start s) → get_elem? s.views id ≡ some me.0 → Gives start s i f then (words_of (head_word q.kept.real q.kept.gap) q.view.own.tail) c id)
      → Allows (LiveQueue start) 256 id me i f then
  thief_steps start id i me c f then carries step s q wide at lt =
      subst (λ (l : List ℕ). Gives start s i f then l me.1 id) (sym q.kept.words) (subst (λ (c' : List (ℕ × Option T)). Gives start s i f then (words_of (head_word q.kept.real q.kept.gap) q.view.own.tail) c' id) (sym carries) (step s q at))

module _ {T P : Type 0} where
  -- a step that the rule allows may be made at a word of the table, by a seat there
  pub stepped : (words : Shared (Option T) (View T) ℕ P) (seat : Place T) (i : ℕ) (f : ℕ → ℕ) (then : ℕ → ℕ → Sat T → Type 0) → IsAt words seat → i < 24 → Allows (LiveQueue words.key) 256 seat.id seat.me i f (then 256)
      → (seat.table_id ≡ words.table_id) × (i < words.table_id.words) × Allows (LiveQueue words.key) words.table_id.slots seat.id seat.me i f (then words.table_id.slots)
  stepped words seat i f then at lt may = (at.0, subst (λ (n : ℕ). i < n) (sym at.1) lt, subst (λ (n : ℕ). Allows (LiveQueue words.key) n seat.id seat.me i f (then n)) (sym at.2) may)
