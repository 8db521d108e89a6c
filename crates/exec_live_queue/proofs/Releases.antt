-- A thief's release keeps the rule.
use Rattle.exec_live_queue.proofs.{Words.{◌≡◌, ◌≢◌, ℕ, ◌+◌, ◌%◌, ◌<◌, ◌≤◌, eqb, List, [], length, set, replicate, sym, refl, ap, ◌∙◌, subst, le_refl, lt_of_not-le, arith, length-replicate, none, some, dite, dec_le, get_elem?, either, Option, None, keeps, step, homes_after, Allows, set_here, Own, Theft, View, Stage, Idle, Claimed, head_word, words_of, released, queue_at, Homes, Knows, LiveQueue, Sat, half, hand, give_all, Widened, releases}, Hands.{give_before, give_behind, give_here, give_valid, give_carried, give_length, free_at, hand_turn}, Labels.at_within, Rebuild.{Puts, exchanges, thief_steps}, Looks.gap_of_word, Thieves.{moved, others_know}}

module _ {T : Type 0} where
  pub releases_rule : (start id : ℕ) (me : Sat T) (old new : ℕ) → me.0.stage ≡ Claimed → me.1 ≡ hand me.0.theft.at (replicate (half me.0.theft) None)
      → old ≡ head_word (me.0.theft.at + me.0.theft.gap) me.0.theft.gap → new ≡ head_word (me.0.theft.at + me.0.theft.gap) 0
      → Allows (LiveQueue start) 256 id me 11 (λ n. either (eqb n old) new n) (releases (step 256 11 old new none) me)
  releases_rule start id me old new st carries sees writes = let k : ℕ = half me.0.theft in let es : List (Option T) = replicate k None in let c : List (ℕ × Option T) = hand me.0.theft.at es in
      thief_steps start id 11 me c (λ n. either (eqb n old) new n) (releases (step 256 11 old new none) me) carries (λ s q at.
      let n = q.kept in let real : ℕ = n.real in let gap : ℕ = n.gap in let d : Own T = q.view.own in let v : View T = me.0 in let t = v.theft in let o = n.order in
      let hw : ℕ = head_word real gap in let ws : List ℕ = words_of hw d.tail in let small : gap < 512 = grind arith in
      let Knew : Theft T → Stage → Type 0 = λ u x. Knows d.tail real gap n.claimed n.holder id u x in
      let knew : (id ≡ n.holder) × (0 < gap) × (t.at + gap ≡ real) × (half t ≡ n.claimed) × (t.gap ≤ gap) = subst (Knew t) st (n.each_seat id v at) in
      let Out : Sat T → Type 0 = λ m'. ((x : Own T) → released (queue_at x (t.at + t.gap) t.gap) ≡ queue_at x (t.at + t.gap) 0) × (m' ≡ (record v { stage = Idle }, [])) in
      exchanges start s ws c id hw old new Out (Widened v hw me)
      (λ e. let g : gap ≡ t.gap = sym (gap_of_word real gap small) ∙ ap (λ (x : ℕ). x % 512) (e ∙ sees) ∙ gap_of_word (t.at + t.gap) t.gap (grind arith) in
      let r : t.at + t.gap ≡ real = ap (λ (x : ℕ). t.at + x) (sym g) ∙ knew.2 in
      let a : ℕ = t.at + 256 in let w : View T = record v { stage = Idle } in let len : length es ≡ k = length-replicate k None in
      let few : n.claimed ≤ gap = grind arith in let z : d.aside ≡ 0 = grind arith in let count : k ≡ n.claimed = grind arith in
      let homes' : Homes T = homes_after s.homes (hand a es) (give_all es) in
      let here = give_here es s.homes a (grind arith) n.slots in
      subst (λ (x : ℕ). Puts start s 11 x Out ws c id) (sym (writes ∙ ap (λ (R : ℕ). head_word R 0) r)) (
        w,
        give_all es,
        give_valid es s.homes c,
        rw (← hand_turn t.at es)
            (moved start s q id v w (words_of (head_word real 0) d.tail) homes' real 0 0 n.holder at (grind arith) (give_length es s.homes a ∙ n.slots) refl
            (grind arith)
            (λ l le lt. let f = n.full l le lt in (f.0, f.1, give_before es s.homes a l (grind arith) (grind arith) ∙ f.2))
            (λ l (le : d.tail + d.aside ≤ l) lt beside outside. dite (dec_le a l)
            (λ (ge : a ≤ l). dite (dec_le (a + k) l)
            (λ (far : a + k ≤ l). give_behind es s.homes a l (grind arith) (grind arith) ∙ n.free l le lt (grind arith) outside)
            (λ ne. free_at k homes' a l here ge (lt_of_not-le ne)))
            (λ ne. give_before es s.homes a l (grind arith) (grind arith) ∙ n.free l le lt (grind arith) outside))
            (λ j u ne h. others_know d.tail real gap n.claimed n.holder real 0 0 n.holder j u.theft u.stage (le_refl real) (λ _ x. ne (x ∙ sym knew.0)) (n.each_seat j u h))
            tt (n.each_lot id v at) (λ p. absurd (omega arith)) (λ weigh. refl)),
        ((λ x. refl), ap (λ (h : List (ℕ × Option T)). (w, h)) (give_carried es t.at)),
      ))
      (λ ne. let G : ℕ = hw % 512 in let is : G ≡ gap = gap_of_word real gap small in let w : View T = record v { theft = record t { gap = G } } in
      let wide : hw ≡ head_word (t.at + G) G = omega arith in let differs : t.gap ≢ gap = λ e. ne (grind arith) in
      let stays = moved start s q id v w ws s.homes real gap n.claimed n.holder at (grind arith) n.slots refl o n.full n.free (λ j u ne e. n.each_seat j u e)
      (subst (Knew w.theft) (sym st) (knew.0, knew.1, knew.2, knew.3, (let e : G ≤ gap = omega arith in e))) (n.each_lot id v at)
      (λ _. subst (λ (j : ℕ). (u : View T) × (get_elem? (set s.views id w) j ≡ some u) × (u.stage ≡ Claimed)) knew.0
      (w, set_here s.views id w (at_within s.views id v at), st)) (λ weigh. refl) in
      (w, keeps, tt, stays, (ap (λ (h : List (ℕ × Option T)). (w, h)) (sym carries), wide, grind arith, grind arith))))
