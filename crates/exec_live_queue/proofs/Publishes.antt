-- The owner's store of the tail, which shows what it wrote, keeps the rule.
use Rattle.exec_live_queue.proofs.{Words.{◌≡◌, ℕ, ◌+◌, ◌-◌, ◌^◌, ◌<◌, ◌≤◌, List, [], ◌++◌, map, length, set, sym, refl, ap, ◌∙◌, subst, le_refl, length-append, arith, none, some, dite, dec_le, get_elem?, length-map, Option, Some, None, Act, carried_after, step, homes_after, Allows, length-replicate, replicate, at_longer, Own, View, Owns, head_word, words_of, Homes, LiveQueue, published, queue_at, Sat, hand, give_all, values_of, published_view, publishes}, Hands.{AllHome, give_before, give_behind, give_here, give_length, give_valid, give_carried, give_first, give_left, some_at, free_at, values_behind}, Labels.{at_appended, window_grows}, Rebuild.{Puts, rebuilt, owner_steps}}
use Rattle.atomic_table.specs.Table.{chain}

module _ {T : Type 0} where
  -- the queue after it has the values behind its own
  published_pure : (d : Own T) (v : View T) (xs : List T) (real gap : ℕ) → v.own.aside ≡ 0 → v.own.start + length v.own.log ≡ v.own.tail → v.own.start ≤ real → real ≤ v.own.tail
      → queue_at (published_view v xs).own real gap ≡ published (queue_at v.own real gap) xs
  published_pure d v xs real gap whole long begun behind = let o = v.own in let e : o.tail + length xs - real ≡ o.tail - real + length xs = omega arith in
      let values = window_grows o.log xs (real - o.start) (o.tail - real) (length xs) (omega arith) refl in rw (e, values, whole) refl

  pub publish_rule : (start id : ℕ) (me : Sat T) (xs : List T) (r new : ℕ) → me.0.stage ≡ Owns → me.0.own.aside ≡ 0 → me.0.own.out_at ≡ me.0.own.tail → me.0.own.out_len ≡ length xs + r
      → me.1 ≡ hand (me.0.own.tail + length xs) (replicate r None) ++ hand me.0.own.tail (map Some xs) → me.0.own.tail + length xs + 256 ≤ 2 ^ 55 → new ≡ me.0.own.tail + length xs
      → Allows (LiveQueue start) 256 id me 12 (λ _. new) (λ _. publishes (step 256 12 new 0 none) me new)
  publish_rule start id me xs r new owns whole place many carries room writes =
      let v : View T = me.0 in let t : ℕ = v.own.tail in let n : ℕ = length xs in let w : View T = published_view v xs in
      let es : List (Option T) = replicate r None in let ys : List (Option T) = map Some xs in
      let spare : length es ≡ r = length-replicate r None in let len : length ys ≡ n = length-map xs Some in
      let c : List (ℕ × Option T) = hand (t + n) es ++ hand t ys in
      let act : Act (Option T) = chain (give_all es) (give_all ys) in
      let is : xs ≡ values_of me.1 = sym (ap values_of carries ∙ values_behind xs r (t + n) t) in
      let left : carried_after c (give_all es) ≡ hand t ys = give_left es (t + n) (hand t ys) in
      let Tells : List T → Sat T → Type 0 = λ zs m'. ((real gap : ℕ) → v.own.start ≤ real → real ≤ t
      → queue_at (published_view v zs).own real gap ≡ published (queue_at v.own real gap) zs) × (m' ≡ (published_view v zs, [])) in
      owner_steps start id 12 me c (λ _. new) (λ _. publishes (step 256 12 new 0 none) me new) owns carries (λ s k at.
      let real : ℕ = k.real in let gap : ℕ = k.gap in let o = k.order in let long = k.long in let fits : t + (n + r) + gap ≤ real + 256 = grind arith in
      let hs : Homes T = homes_after s.homes (hand (t + n) es) (give_all es) in
      let homes' : Homes T = homes_after hs (hand t ys) (give_all ys) in
      let wide : length hs ≡ 256 = give_length es s.homes (t + n) ∙ k.slots in
      let empty : AllHome hs (t + n) es = give_here es s.homes (t + n) (grind arith) k.slots in
      let here : AllHome homes' t ys = give_here ys hs t (grind arith) wide in
      let both : homes_after s.homes c act ≡ homes' = λ i. homes_after (give_first es s.homes (t + n) (hand t ys) i)
      (left i) (give_all ys) in
      let ws : List ℕ = words_of (head_word real gap) (t + n) in
      subst (λ (x : ℕ). Puts start s 12 x (publishes (step 256 12 new 0 none) me new) (words_of (head_word real gap) t) c 0) (sym writes)
      (subst (λ (zs : List T). Puts start s 12 (t + n) (Tells zs) (words_of (head_word real gap) t) c 0) is (
        w,
        act,
        (give_valid es s.homes c, give_valid ys (homes_after s.homes c (give_all es)) (carried_after c (give_all es))),
        subst (λ (h : Homes T). LiveQueue start record { words = ws; homes = h; views = set s.views 0 w }) (sym both)
            (rebuilt start s v w k ws homes' real gap at owns owns k.from (give_length ys hs t ∙ wide) refl (grind arith)
            (grind (arith, length-append)) (omega arith) (le_refl real) (λ q. (q, refl)) (λ q. q)
            (λ l le (lt : l < t + n + v.own.aside). dite (dec_le t l)
            (λ (ge : t ≤ l). let f = some_at xs homes' t l here ge (grind arith) in
            let index : length v.own.log + (l - t) ≡ l - v.own.start = grind arith in
            (f.0, subst (λ (i : ℕ). get_elem? (v.own.log ++ xs) i ≡ some f.0) index (at_appended v.own.log xs (l - t) f.0 f.1), f.2))
            (λ ne. let f = k.full l le (grind arith) in (
              f.0,
              at_longer v.own.log xs (l - v.own.start) f.0 f.1,
              give_before ys hs t l (grind arith) (grind arith)
                  ∙ give_before es s.homes (t + n) l (grind arith) (grind arith) ∙ f.2,
            )))
            (λ l (le : t + n + v.own.aside ≤ l) lt beside outside. give_behind ys hs t l (grind arith) (grind arith) ∙ dite (dec_le (t + (n + r)) l)
            (λ (far : t + (n + r) ≤ l). give_behind es s.homes (t + n) l (grind arith) (grind arith) ∙ k.free l (grind arith) lt beside (grind arith))
            (λ ne. free_at r hs (t + n) l empty (grind arith) (grind arith)))
            refl (λ l x e. at_longer v.own.log xs l x e) (λ weight. refl)),
        (
          λ R G begun behind'. published_pure v.own v xs R G whole (grind arith) begun behind',
          ap (λ (z : List (ℕ × Option T)). (w, carried_after z (give_all ys))) left
              ∙ ap (λ (h : List (ℕ × Option T)). (w, h)) (give_carried ys t),
        ),
      )))
