-- The owner's pops keep the rule: by an exchange, and of a lone value by a store.
use Rattle.exec_live_queue.{proofs.{Words.{◌≡◌, ℕ, ◌+◌, ◌-◌, ◌/◌, ◌%◌, ◌<◌, ◌≤◌, ◌⊎◌, eqb, List, [], ◌∷◌, ◌++◌, sym, refl, ap, ◌∙◌, subst, le_refl, arith, none, some, get_elem?, either, Option, Some, sum_by, sum_by_push, State, step, homes_after, Allows, add-mod_right, popped, View, Owns, head_word, Outside, words_of, queue_at, labels, Kept, LiveQueue, Sat, after_pop, popped_view, Popped, pops, pops_last, missed}, Hands.{take_behind, take_length}, Labels.{weigh_runs, weigh_one, window}, Rebuild.{Puts, exchanges, rebuilt, owner_steps}, Looks.{count_of_word, gap_of_word, lays_here}}, specs.Plays.take_all}

-- one more label below the front
popped_weight : (w : ℕ → ℕ) (start real : ℕ) (ls : List ℕ) → start ≤ real → sum_by w (ls ++ real ∷ []) + sum_by w (labels start (real - start)) ≡ sum_by w ls + sum_by w (labels start (real + 1 - start))
popped_weight w start real ls le = let e : real + 1 - start ≡ real - start + 1 = omega arith in let h : start + (real - start) ≡ real = omega arith in
    let b = weigh_runs w start (real - start) 1 in let c = weigh_one w (start + (real - start)) in rw (e, sum_by_push w ls real, b, c, h) (omega arith)

module _ {T : Type 0} where
  -- the queue after it is the one whose front value was popped
  popped_pure : (v : View T) (real gap : ℕ) → v.own.start ≤ real → real < v.own.tail
      → queue_at (popped_view v real (after_pop real gap).gap).own (real + 1) (after_pop real gap).gap ≡ popped (queue_at v.own real gap)
  popped_pure v real gap begun any = grind (arith, window)

  -- what a pop gives at the head that the owner saw, where it writes the head after it
  pops_here : (start : ℕ) (me : Sat T) (new R G : ℕ) (s : State (Option T) (View T)) (k : Kept start me.0 s)
      → get_elem? s.views 0 ≡ some me.0 → me.0.stage ≡ Owns → me.0.own.aside ≡ 0 → me.0.own.out_len ≡ 0
      → k.real ≡ R → k.gap ≡ G → R < me.0.own.tail → new ≡ head_word (R + 1) (after_pop R G).gap
      → Puts start s 11 new (Popped me.0 R G) (words_of (head_word k.real k.gap) me.0.own.tail) [] 0
  pops_here start me new R G s k at owns aside none_out r g few writes =
      let v : View T = me.0 in let t : ℕ = v.own.tail in let real : ℕ = k.real in let gap : ℕ = k.gap in let o = k.order in
      let ws : List ℕ = words_of (head_word real gap) t in let any : real < t = omega (arith, r, few) in
      let f = k.full real (le_refl real) (grind arith) in let xs : List (Option T) = Some f.0 ∷ [] in
      let gap' : ℕ = (after_pop real gap).gap in let w : View T = popped_view v real gap' in
      let wide : ((gap ≡ 0) × (gap' ≡ 0)) ⊎ ((0 < gap) × (gap' ≡ gap + 1)) = grind arith in
      subst (λ (x : ℕ). Puts start s 11 x (Popped v R G) ws [] 0) (sym writes)
      (subst (λ (y : ℕ). Puts start s 11 (head_word (y + 1) (after_pop y G).gap) (Popped v y G) ws [] 0) r
      (subst (λ (z : ℕ). Puts start s 11 (head_word (real + 1) (after_pop real z).gap) (Popped v real z) ws [] 0) g (
        w,
        take_all real xs,
        (tt, f.2),
        rebuilt start s v w k (words_of (head_word (real + 1) gap') t) (homes_after s.homes [] (take_all real xs)) (real + 1) gap' at owns owns k.from
            (take_length xs s.homes [] real ∙ k.slots) refl (grind arith)
            k.long (le_refl t) (grind arith) (λ pos. grind arith) (λ pos. grind arith)
            (λ l le lt. let g = k.full l (grind arith) lt in (g.0, g.1, take_behind xs s.homes [] real l (grind arith) (grind arith) ∙ g.2))
            (λ l (le : t + v.own.aside ≤ l) lt beside (outside : Outside (real + 256) 1 l). let near : l < real + 256 = grind arith in
            take_behind xs s.homes [] real l (grind arith) near ∙ k.free l le near (grind arith) (grind arith))
            refl (λ l y e. e) (λ weigh. let p = popped_weight weigh start real v.own.popped (grind arith) in grind arith),
        (popped_pure v real gap o.begun any, f.0, f.1, ap (λ (n : ℕ). (w, (n, Some f.0) ∷ [])) (sym (add-mod_right real 256))),
      )))

  pub pops_rule : (start id : ℕ) (me : Sat T) (old new : ℕ) → me.0.stage ≡ Owns → me.0.own.aside ≡ 0 → me.0.own.out_len ≡ 0 → me.1 ≡ []
      → old / 512 ≡ me.0.own.saw_real → old % 512 ≡ me.0.own.saw_gap → me.0.own.saw_real < me.0.own.tail → new ≡ head_word (me.0.own.saw_real + 1) (after_pop me.0.own.saw_real me.0.own.saw_gap).gap
      → Allows (LiveQueue start) 256 id me 11 (λ n. either (eqb n old) new n) (pops (step 256 11 old new none) me)
  pops_rule start id me old new owns aside none_out empty sees_real sees_gap any writes = owner_steps start id 11 me [] (λ n. either (eqb n old) new n) (pops (step 256 11 old new none) me) owns empty (λ s k at0.
      let hw : ℕ = head_word k.real k.gap in let ws : List ℕ = words_of hw me.0.own.tail in let small : k.gap < 512 = grind arith in
      exchanges start s ws [] 0 hw old new (Popped me.0 me.0.own.saw_real me.0.own.saw_gap) (missed (step 256 11 old new none) me hw)
      (λ e. let r : k.real ≡ me.0.own.saw_real = sym (count_of_word k.real k.gap small) ∙ ap (λ (n : ℕ). n / 512) e ∙ sees_real in
      let g : k.gap ≡ me.0.own.saw_gap = sym (gap_of_word k.real k.gap small) ∙ ap (λ (n : ℕ). n % 512) e ∙ sees_gap in
      pops_here start me new me.0.own.saw_real me.0.own.saw_gap s k at0 owns aside none_out r g any writes)
      (λ ne. lays_here start me (λ room. 0) (λ r. omega arith) owns aside none_out s k at0))

  -- no thief can take a lone value, so the owner's store finds the head that it saw
  pub pops_last_rule : (start id : ℕ) (me : Sat T) (new : ℕ) → me.0.stage ≡ Owns → me.0.own.aside ≡ 0 → me.0.own.out_len ≡ 0 → me.1 ≡ []
      → me.0.own.saw_gap ≡ 0 → me.0.own.saw_real + 1 ≡ me.0.own.tail → new ≡ head_word (me.0.own.saw_real + 1) 0
      → Allows (LiveQueue start) 256 id me 11 (λ _. new) (λ _. pops_last (step 256 11 new 0 none) me new)
  pops_last_rule start id me new owns aside none_out empty unclaimed lone writes = owner_steps start id 11 me [] (λ _. new) (λ _. pops_last (step 256 11 new 0 none) me new) owns empty (λ s k at0.
      let is = k.order.saw_lone unclaimed (omega arith) in
      pops_here start me new me.0.own.saw_real 0 s k at0 owns aside none_out is.0 is.1 (omega (arith, lone)) writes)
