-- A full queue flows over, and shows again what it kept: both keep the rule.
use Rattle.exec_live_queue.{proofs.{Words.{◌≡◌, ℕ, ◌+◌, ◌-◌, ◌/◌, ◌%◌, ◌^◌, ◌<◌, ◌≤◌, eqb, List, [], ◌++◌, map, length, take, sym, refl, ap, ◌∙◌, subst, le_refl, length-append, length-drop, arith, add-mod_right, none, some, some-injective, get_elem?, length-map, either, Option, Some, sum_by, sum_by-append, keeps, step, homes_after, Allows, at_longer, overflowed, Own, View, Owns, head_word, Outside, words_of, queue_at, labels, HomeAt, LiveQueue, Sat, hand, whole, overflowed_view, Overflowed, flows_over, missed, restored_view, restores}, Hands.{AllHome, take_before, take_valid, take_carried, take_length, hand_turn, all_full}, Labels.{weigh_runs, at_drop, at_take, at_within, at_appended, window_of_end, window_length}, Rebuild.{Puts, exchanges, rebuilt, owner_steps}, Looks.{count_of_word, gap_of_word, lays_here}}, specs.Plays.take_all}
use Rattle.std.proofs.{Common.{drop, append-nil}, lemmas.List.length-take-le}

-- what left and what was relabelled are the 256 labels below the new front
overflowed_weight : (w : ℕ → ℕ) (start real tail : ℕ) (handed kept : List ℕ) → start ≤ real → real + 256 ≡ tail
    → sum_by w (handed ++ labels (real + 128) 128) + sum_by w (kept ++ labels real 128) + sum_by w (labels start (real - start)) ≡ sum_by w handed + sum_by w kept + sum_by w (labels start (tail - start))
overflowed_weight w start real tail handed kept le full =
    let n : ℕ = real - start in let e : tail - start ≡ n + 256 = omega arith in let h : start + n ≡ real = omega arith in
    let a = sum_by-append w handed (labels (real + 128) 128) in let b = sum_by-append w kept (labels real 128) in let c = weigh_runs w start n 256 in
    let d : sum_by w (labels (start + n) 256) ≡ sum_by w (labels real 128) + sum_by w (labels (real + 128) 128) = ap (λ (x : ℕ). sum_by w (labels x 256)) h ∙ weigh_runs w real 128 128 in rw e (omega (arith, a, b, c, d))

module _ {T : Type 0} where
  -- the values of a full queue: what the log has at its labels
  at_whole : (d : Own T) (j : ℕ) → d.saw_real + 256 ≡ d.tail → j < 256 → get_elem? (whole d) j ≡ get_elem? d.log (d.saw_real - d.start + j)
  at_whole d j full lt = grind (arith, at_take, at_drop)

  pub whole_length : (d : Own T) → d.start ≤ d.saw_real → d.start + length d.log ≡ d.tail → d.saw_real + 256 ≡ d.tail → length (whole d) ≡ 256
  whole_length d begun long full = grind (arith, window_length)

  -- the queue after the exchange
  overflowed_pure : (v : View T) → v.own.start ≤ v.own.saw_real → v.own.start + length v.own.log ≡ v.own.tail → v.own.saw_real + 256 ≡ v.own.tail
      → queue_at (overflowed_view v).own v.own.tail 0 ≡ overflowed (queue_at v.own v.own.saw_real 0)
  overflowed_pure v begun long full = let d = v.own in let wide = whole_length d begun long full in let kept : List T = take 128 (whole d) in
      let half : 128 ≡ length kept = sym (length-take-le 128 (whole d) (omega arith)) in let gone : d.tail - d.tail ≡ 0 = omega arith in
      let held = window_of_end d.log kept (d.tail - d.start) 128 (omega arith) half in rw (gone, held, ← full) refl

  pub flows_over_rule : (start id : ℕ) (me : Sat T) (old new : ℕ) → me.0.stage ≡ Owns → me.0.own.aside ≡ 0 → me.0.own.out_len ≡ 0 → me.1 ≡ []
      → old / 512 ≡ me.0.own.saw_real → old % 512 ≡ 0 → me.0.own.saw_real + 256 ≡ me.0.own.tail → me.0.own.tail + 128 + 256 ≤ 2 ^ 55 → new ≡ head_word me.0.own.tail 0
      → Allows (LiveQueue start) 256 id me 11 (λ n. either (eqb n old) new n) (flows_over (step 256 11 old new none) me)
  flows_over_rule start id me old new owns aside none_out empty sees_real unclaimed full room writes =
      let v : View T = me.0 in let t : ℕ = v.own.tail in let real : ℕ = v.own.saw_real in let W : List T = whole v.own in let w : View T = overflowed_view v in
      let out : List (Option T) = map Some (drop 128 W) in let kept : List T = take 128 W in
      owner_steps start id 11 me [] (λ n. either (eqb n old) new n) (flows_over (step 256 11 old new none) me) owns empty (λ s k at0.
      let hw : ℕ = head_word k.real k.gap in let ws : List ℕ = words_of hw t in let small : k.gap < 512 = grind arith in let o = k.order in let long = k.long in
      exchanges start s ws [] 0 hw old new (Overflowed v) (missed (step 256 11 old new none) me hw)
      (λ e. let r : k.real ≡ real = sym (count_of_word k.real k.gap small) ∙ ap (λ (n : ℕ). n / 512) e ∙ sees_real in
      let g : k.gap ≡ 0 = sym (gap_of_word k.real k.gap small) ∙ ap (λ (n : ℕ). n % 512) e ∙ unclaimed in
      let wide : length W ≡ 256 = whole_length v.own (grind arith) (grind arith) full in let half : length kept ≡ 128 = length-take-le 128 W (omega arith) in
      let many : length out ≡ 128 = length-map (drop 128 W) Some ∙ (let h = length-drop 128 W in omega (arith, h, wide)) in
      let home : AllHome s.homes (real + 128) out = all_full (drop 128 W) s.homes (real + 128) (λ j x at_j.
      let at : get_elem? W (128 + j) ≡ some x = sym (at_drop W 128 j) ∙ at_j in let near : 128 + j < length W = at_within W (128 + j) x at in
      let l : ℕ = real + 128 + j in let h = k.full l (grind arith) (grind arith) in let index : real - v.own.start + (128 + j) ≡ l - v.own.start = grind arith in
      let same : h.0 ≡ x = some-injective h.0 x (sym h.1 ∙ ap (get_elem? v.own.log) (sym index) ∙ sym (at_whole v.own (128 + j) full (omega arith)) ∙ at) in
      subst (λ (y : T). HomeAt s.homes l (Some y)) same h.2) in
      let further : real + 128 + 256 ≡ t + 128 = omega arith in
      let carried : hand (real + 128) out ++ [] ≡ hand (t + 128) out
      = append-nil (hand (real + 128) out) ∙ sym (hand_turn (real + 128) out) ∙ ap (λ (n : ℕ). hand n out) further in
      subst (λ (x : ℕ). Puts start s 11 x (Overflowed v) ws [] 0) (sym writes) (
        w,
        take_all (real + 128) out,
        take_valid out s.homes [] (real + 128) (omega arith) home,
        rebuilt start s v w k (words_of (head_word t 0) t) (homes_after s.homes [] (take_all (real + 128) out)) t 0 at0 owns owns k.from
            (take_length out s.homes [] (real + 128) ∙ k.slots) refl (grind arith)
            (let a = length-append v.own.log kept in grind arith) (le_refl t) o.behind (λ pos. absurd (grind arith)) (λ pos. absurd (omega arith))
            (λ l le (lt : l < t + 128). let j : ℕ = l - t in let old : ℕ = real + j in let g = k.full old (grind arith) (grind arith) in
            let index : real - v.own.start + j ≡ old - v.own.start = grind arith in let place : length v.own.log + j ≡ l - v.own.start = grind arith in
            let here : get_elem? kept j ≡ some g.0 = at_take W 128 j (omega arith) ∙ at_whole v.own j full (omega arith) ∙ ap (get_elem? v.own.log) index ∙ g.1 in
            let back : l ≡ old + 256 = grind arith in let turn : l % 256 ≡ old % 256 = ap (λ (n : ℕ). n % 256) back ∙ add-mod_right old 256 in (
              g.0,
              subst (λ (i : ℕ). get_elem? (v.own.log ++ kept) i ≡ some g.0) place (at_appended v.own.log kept j g.0 here),
              ap (get_elem? (homes_after s.homes [] (take_all (real + 128) out))) turn
                  ∙ take_before out s.homes [] (real + 128) old (omega arith) (omega (arith, many)) ∙ g.2,
            ))
            (λ l (le : t + 128 ≤ l) (lt : l < t + 256) beside (outside : Outside (t + 128) 128 l). absurd (grind arith))
            refl (λ l x e. at_longer v.own.log kept l x e)
            (λ weigh. let p = overflowed_weight weigh start real t v.own.exported v.own.relabelled (grind arith) full in
            let q : sum_by weigh (labels start (k.real - start)) ≡ sum_by weigh (labels start (real - start)) = ap (λ (n : ℕ). sum_by weigh (labels start (n - start))) r in
            grind arith),
        (overflowed_pure v (grind arith) (grind arith) full, ap (λ (c : List (ℕ × Option T)). (w, c)) (take_carried out [] (real + 128) ∙ carried)),
      ))
      (λ ne. lays_here start me (λ room. 0) (λ r. omega arith) owns aside none_out s k at0))

  pub restore_rule : (start id : ℕ) (me : Sat T) (new : ℕ) → me.0.stage ≡ Owns → me.0.own.aside ≡ 128 → new ≡ me.0.own.tail + me.0.own.aside
      → Allows (LiveQueue start) 256 id me 12 (λ _. new) (λ _. restores (step 256 12 new 0 none) me new)
  restore_rule start id me new owns half writes =
      let then : ℕ → Sat T → Type 0 = λ _. restores (step 256 12 new 0 none) me new in owner_steps start id 12 me me.1 (λ _. new) then owns refl (λ s k at.
      let v : View T = me.0 in let d = v.own in let t : ℕ = d.tail in let w : View T = restored_view v in let o = k.order in let long = k.long in
      let ws : List ℕ = words_of (head_word k.real k.gap) t in let e : t + d.aside - t ≡ d.aside = omega arith in
      subst (λ (x : ℕ). Puts start s 12 x (then 0) ws me.1 0) (sym writes) (
        w,
        keeps,
        tt,
        rebuilt start s v w k (words_of (head_word k.real k.gap) (t + d.aside)) s.homes k.real k.gap at owns owns k.from k.slots refl (grind arith)
            (grind arith) (omega arith) (le_refl k.real) (λ q. (q, refl)) (λ q. q)
            (λ l le lt. k.full l le (grind arith)) (λ l le lt beside outside. k.free l (grind arith) lt beside outside) refl (λ l x h. h) (λ weight. refl),
        ((λ gap. ap (λ (n : ℕ). record { real = t; gap = gap; values = take n (drop (t - d.start) d.log); held = [] }) e), refl),
      ))
