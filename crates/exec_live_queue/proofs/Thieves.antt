-- The loads of a thief keep the rule, and one lemma for all steps of a thief that leave the head as it is.
use Rattle.exec_live_queue.proofs.{Words.{◌≡◌, ◌≢◌, ℕ, ◌+◌, ◌-◌, ◌/◌, ◌^◌, ◌<◌, ◌≤◌, List, [], ◌∷◌, length, set, sym, refl, ap, ◌∙◌, subst, ⊎_elim, le_refl, arith, none, some, some-injective, some-ne-none, get_elem?, Option, None, sum_by, ◌++◌, sum_by-append, State, keeps, step, Allows, Splits, at_set, at_snoc, at_longer, set_else, set_again, Theft, View, Stage, Owns, SawHead, SawTail, Claimed, head_word, filled, Outside, BesideClaim, InOrder, words_of, labels, Homes, HomeAt, FullAt, weight_of, Knows, AsLogged, LiveQueue, Sat, at_head, saw_head, saw_tail, newcomer}, Looks.count_of_word, Rebuild.{Gives, sum_set, thief_steps}}

-- what a seat without a claim knows still holds where the front moves on and a claim comes or goes
pub others_know : {T : Type 0} (tail real gap claimed holder real' gap' claimed' holder' j : ℕ) (t : Theft T) (st : Stage)
    → real ≤ real' → (0 < gap → j ≢ holder) → Knows tail real gap claimed holder j t st → Knows tail real' gap' claimed' holder' j t st
others_know tail real gap claimed holder real' gap' claimed' holder' j t st le ne n = grind arith

module _ {T : Type 0} where
  -- the view of a thief becomes v', and what its step must show of the numbers, slots and labels
  pub moved : (start : ℕ) (s : State (Option T) (View T)) (q : LiveQueue start s) (id : ℕ) (v v' : View T) (ws : List ℕ) (homes : Homes T) (real gap claimed holder : ℕ) → get_elem? s.views id ≡ some v → v.stage ≢ Owns
      → length homes ≡ 256 → ws ≡ words_of (head_word real gap) q.view.own.tail → InOrder q.view.own real gap claimed
      → ((l : ℕ) → real ≤ l → l < filled q.view.own → FullAt q.view.own homes l)
      → ((l : ℕ) → filled q.view.own ≤ l → l < real + 256 → BesideClaim real gap claimed l → Outside q.view.own.out_at q.view.own.out_len l → HomeAt homes l None)
      → ((j : ℕ) (u : View T) → j ≢ id → get_elem? s.views j ≡ some u → Knows q.view.own.tail real gap claimed holder j u.theft u.stage)
      → Knows q.view.own.tail real gap claimed holder id v'.theft v'.stage → AsLogged q.view.own v'.theft
      → (0 < gap → (u : View T) × (get_elem? (set s.views id v') holder ≡ some u) × (u.stage ≡ Claimed))
      → ((w : ℕ → ℕ) → weight_of w v' + sum_by w (labels start (q.kept.real - start)) ≡ weight_of w v + sum_by w (labels start (real - start)))
      → LiveQueue start record { words = ws; homes = homes; views = set s.views id v' }
  moved start s q id v v' ws homes real gap claimed holder at thief slots words order full free others mine lot held told =
      let k = q.kept in let o : View T = q.view in
      let apart : 0 ≢ id = λ e. let same : o ≡ v = some-injective o v (sym q.seated ∙ subst (λ (i : ℕ). get_elem? s.views i ≡ some v) (sym e) at) in thief (sym (ap (λ (u : View T). u.stage) same) ∙ q.owns) in
      record {
        view = o;
        seated = set_else s.views id 0 v' apart ∙ q.seated;
        owns = q.owns;
        kept = record {
          real = real;
          gap = gap;
          claimed = claimed;
          holder = holder;
          from = k.from;
          slots = slots;
          words = words;
          order = order;
          long = k.long;
          full = full;
          free = free;
          each_seat = λ j u e. let either = at_set s.views id j v' u e in grind arith;
          each_lot = λ j u e. ⊎_elim
              (λ (is : (j ≡ id) × (v' ≡ u)). subst (λ (x : View T). AsLogged o.own x.theft) is.1 lot)
              (λ (other : (j ≢ id) × (get_elem? s.views j ≡ some u)). k.each_lot j u other.1)
              (at_set s.views id j v' u e);
          held = held;
          told = λ w. let a = sum_set (weight_of w) s.views id v v' at in let b = k.told w in let c = told w in omega (arith, a, b, c);
        };
      }

  -- a thief without a claim gets another view, and no more happens
  pub stands : (start : ℕ) (s : State (Option T) (View T)) (q : LiveQueue start s) (id : ℕ) (v v' : View T) → get_elem? s.views id ≡ some v → v.stage ≢ Owns → v.stage ≢ Claimed
      → ((w : ℕ → ℕ) → weight_of w v' ≡ weight_of w v) → AsLogged q.view.own v'.theft → Knows q.view.own.tail q.kept.real q.kept.gap q.kept.claimed q.kept.holder id v'.theft v'.stage
      → LiveQueue start record { words = words_of (head_word q.kept.real q.kept.gap) q.view.own.tail; homes = s.homes; views = set s.views id v' }
  stands start s q id v v' at thief free weight lot mine = let k = q.kept in
      moved start s q id v v' (words_of (head_word k.real k.gap) q.view.own.tail) s.homes k.real k.gap k.claimed k.holder at thief k.slots refl k.order k.full k.free (λ j u ne e. k.each_seat j u e) mine lot
      (λ pos. let h = k.held pos in
      let ne : k.holder ≢ id = λ e. let same : v ≡ h.0 = some-injective v h.0 (sym at ∙ subst (λ (i : ℕ). get_elem? s.views i ≡ some h.0) e h.1) in free (ap (λ (u : View T). u.stage) same ∙ h.2) in
      (h.0, set_else s.views id k.holder v' ne ∙ h.1, h.2))
      (λ w. let c = weight w in omega (arith, c))

  -- a thief without a claim loads the head
  pub sees_here : (start id : ℕ) (me : Sat T) (c : List (ℕ × Option T)) → me.0.stage ≢ Owns → me.0.stage ≢ Claimed → me.1 ≡ c
      → (s : State (Option T) (View T)) (q : LiveQueue start s) → get_elem? s.views id ≡ some me.0
      → Gives start s 11 (λ n. n) (saw_head (step 256 11 0 0 none) me) (words_of (head_word q.kept.real q.kept.gap) q.view.own.tail) c id
  sees_here start id me c thief free carries s q at =
      let k = q.kept in let real : ℕ = k.real in let gap : ℕ = k.gap in let hw : ℕ = head_word real gap in let small : gap < 512 = grind arith in
      let w : View T = at_head me.0 hw in let seen : hw / 512 ≤ real = subst (λ (c : ℕ). c ≤ real) (sym (count_of_word real gap small)) (le_refl real) in
      let stays = stands start s q id me.0 w at thief free (λ _. refl) (k.each_lot id me.0 at) seen in (w, keeps, tt, stays, ap (λ (h : List (ℕ × Option T)). (w, h)) (sym carries))

  pub sees_head : (start : ℕ) (id : ℕ) (me : Sat T) → me.0.stage ≢ Owns → me.0.stage ≢ Claimed → Allows (LiveQueue start) 256 id me 11 (λ n. n) (saw_head (step 256 11 0 0 none) me)
  sees_head start id me thief free = thief_steps start id 11 me me.1 (λ n. n) (saw_head (step 256 11 0 0 none) me) refl (λ s q at. sees_here start id me me.1 thief free refl s q at)

  -- a thief that has seen the head loads the tail
  pub sees_tail : (start : ℕ) (id : ℕ) (me : Sat T) → me.0.stage ≡ SawHead → Allows (LiveQueue start) 256 id me 12 (λ n. n) (saw_tail (step 256 12 0 0 none) me)
  sees_tail start id me st = thief_steps start id 12 me me.1 (λ n. n) (saw_tail (step 256 12 0 0 none) me) refl (λ s q at.
      let k = q.kept in let tail : ℕ = q.view.own.tail in
      let w : View T = record me.0 { stage = SawTail; theft = record me.0.theft { upto = tail } } in
      let knew : me.0.theft.at ≤ k.real = subst (λ (x : Stage). Knows tail k.real k.gap k.claimed k.holder id me.0.theft x) st (k.each_seat id me.0 at) in
      let thief : me.0.stage ≢ Owns = grind arith in let free : me.0.stage ≢ Claimed = grind arith in
      let stays = stands start s q id me.0 w at thief free (λ _. refl) (k.each_lot id me.0 at) (knew, le_refl tail) in
      (w, keeps, tt, stays, ((let top : tail + q.view.own.aside + 256 ≤ 2 ^ 55 = k.order.counted in omega arith), refl)))

  -- any seat may be split: the new one is a thief's
  pub splits : (start id : ℕ) (v : View T) → Splits (LiveQueue start) id v v newcomer
  splits start id v s q at = let k = q.kept in let more : List (View T) = s.views ++ newcomer ∷ [] in
      subst (λ (vs : List (View T)). LiveQueue start record { words = s.words; homes = s.homes; views = vs ++ newcomer ∷ [] }) (sym (set_again s.views id v at)) record {
        view = q.view;
        seated = at_longer s.views (newcomer ∷ []) 0 q.view q.seated;
        owns = q.owns;
        kept = record {
          real = k.real;
          gap = k.gap;
          claimed = k.claimed;
          holder = k.holder;
          from = k.from;
          slots = k.slots;
          words = k.words;
          order = k.order;
          long = k.long;
          full = k.full;
          free = k.free;
          each_seat = λ j u e. let either = at_snoc s.views newcomer u j e in grind arith;
          each_lot = λ j u e. ⊎_elim (λ (old : get_elem? s.views j ≡ some u). k.each_lot j u old)
              (λ (new : newcomer ≡ u). subst (λ (x : View T). AsLogged q.view.own x.theft) new (refl, λ i l none_there. absurd (some-ne-none l (sym none_there)))) (at_snoc s.views newcomer u j e);
          held = λ pos. let h = k.held pos in (h.0, at_longer s.views (newcomer ∷ []) k.holder h.0 h.1, h.2);
          told = λ w. sum_by-append (weight_of w) s.views (newcomer ∷ []) ∙ (let b = k.told w in omega (arith, b));
        };
      }
