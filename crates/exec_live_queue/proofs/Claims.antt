-- A thief's claim keeps the rule.
use Rattle.exec_live_queue.{proofs.{Words.{◌≡◌, ◌≢◌, ℕ, ◌+◌, ◌-◌, ◌/◌, ◌%◌, ◌<◌, ◌≤◌, eqb, List, [], ◌++◌, map, length, take, sym, refl, ap, ◌∙◌, subst, ⊎_elim, length-append, arith, none, some, some-injective, get_elem?, length-map, either, Option, Some, sum_by, sum_by-append, step, homes_after, Allows, set_here, at_longer, claimed, Own, Theft, View, Stage, Owns, SawTail, Claimed, head_word, words_of, queue_at, labels, HomeAt, Knows, AsLogged, LiveQueue, Sat, half, hand, at_head, claimed_view, Claims, claims, le_refl}, Hands.{AllHome, take_behind, take_valid, take_carried, take_length, all_full}, Labels.{weigh_runs, labels_at, labels_length, at_drop, at_take, at_within, at_appended, at_either, window, window_length}, Rebuild.{Puts, exchanges, thief_steps}, Looks.{count_of_word, gap_of_word}, Thieves.{moved, others_know, sees_here}}, specs.Plays.take_all}
use Rattle.std.proofs.Common.{drop, length-take-le, append-nil}

-- k more labels below the front
claimed_weight : (w : ℕ → ℕ) (start real k : ℕ) (ls : List ℕ) → start ≤ real → sum_by w (ls ++ labels real k) + sum_by w (labels start (real - start)) ≡ sum_by w ls + sum_by w (labels start (real + k - start))
claimed_weight w start real k ls le = let e : real + k - start ≡ real - start + k = omega arith in let h : start + (real - start) ≡ real = omega arith in
    let b = weigh_runs w start (real - start) k in rw (e, sum_by-append w ls (labels real k), b, h) (omega arith)

module _ {T : Type 0} where
  -- the oldest k values that the owner has queued at this front
  abbrev Oldest : Own T → ℕ → ℕ → List T
  Oldest d real k = take k (take (d.tail - real) (drop (real - d.start) d.log))

  at_oldest : (d : Own T) (real k j : ℕ) → j < k → real + k ≤ d.tail → get_elem? (Oldest d real k) j ≡ get_elem? d.log (real - d.start + j)
  at_oldest d real k j lt few = grind (arith, at_take, at_drop)

  oldest_length : (d : Own T) (real k : ℕ) → d.start ≤ real → d.start + length d.log ≡ d.tail → real + k ≤ d.tail → length (Oldest d real k) ≡ k
  oldest_length d real k begun long few = grind (arith, window_length, length-take-le)

  -- what a thief has taken, with the values of k more labels
  logged_more : (d : Own T) (t t' : Theft T) (real k : ℕ) (xs : List T) → AsLogged d t → t'.claims ≡ t.claims ++ labels real k → t'.lot ≡ t.lot ++ xs → length xs ≡ k
      → ((j : ℕ) → j < k → (x : T) × (get_elem? xs j ≡ some x) × (get_elem? d.log (real + j - d.start) ≡ some x)) → AsLogged d t'
  logged_more d t t' real k xs old cs lot len each = (
    ap length lot ∙ (let a = length-append t.lot xs in let b = length-append t.claims (labels real k) in let c = labels_length real k in let e = old.0 in omega (arith, a, b, c, e, len)) ∙ sym (ap length cs),
    λ i l e. ⊎_elim
        (λ (before : get_elem? t.claims i ≡ some l). let o = old.1 i l before in (o.0, subst (λ (zs : List T). get_elem? zs i ≡ some o.0) (sym lot) (at_longer t.lot xs i o.0 o.1), o.2))
        (λ (behind : (length t.claims ≤ i) × (get_elem? (labels real k) (i - length t.claims) ≡ some l)).
        let j : ℕ = i - length t.claims in let run = labels_at real k j l behind.1 in let is : l ≡ real + j = run.1 in let g = each j run.0 in let same : length t.lot ≡ length t.claims = old.0 in
        let place : length t.lot + j ≡ i = omega (arith, behind.0) in let there = at_appended t.lot xs j g.0 g.1 in (g.0, cc, cc g.2))
        (at_either t.claims (labels real k) i l (subst (λ (ls : List ℕ). get_elem? ls i ≡ some l) cs e)),
  )

  claimed_pure : (d : Own T) (real k : ℕ) → d.start ≤ real → real + k ≤ d.tail → claimed (queue_at d real 0) k ≡ queue_at d (real + k) k
  claimed_pure d real k begun few = let m : ℕ = d.tail - (real + k) in let h : d.tail - real ≡ k + m = omega arith in
      let e : real + k - d.start ≡ real - d.start + k = omega arith in rw (h, e, window d.log (real - d.start) k m) refl

  pub claims_rule : (start id : ℕ) (me : Sat T) (old new : ℕ) → me.0.stage ≡ SawTail → me.1 ≡ [] → old / 512 ≡ me.0.theft.at → old % 512 ≡ 0 → me.0.theft.at + 2 ≤ me.0.theft.upto → new ≡ head_word (me.0.theft.at + half me.0.theft) (half me.0.theft)
      → Allows (LiveQueue start) 256 id me 11 (λ n. either (eqb n old) new n) (claims (step 256 11 old new none) me)
  claims_rule start id me old new st empty sees_at unclaimed two writes =
      let v : View T = me.0 in let k : ℕ = half v.theft in let front : ℕ = v.theft.at in
      let thief : v.stage ≢ Owns = grind arith in let free : v.stage ≢ Claimed = grind arith in
      thief_steps start id 11 me [] (λ n. either (eqb n old) new n) (claims (step 256 11 old new none) me) empty (λ s q at.
      let n = q.kept in let real : ℕ = n.real in let d : Own T = q.view.own in let o = n.order in let long = n.long in
      let hw : ℕ = head_word real n.gap in let ws : List ℕ = words_of hw d.tail in let small : n.gap < 512 = grind arith in
      let knew : (v.theft.at ≤ real) × (v.theft.upto ≤ d.tail)
      = subst (λ (x : Stage). Knows d.tail real n.gap n.claimed n.holder id v.theft x) st (n.each_seat id v at) in
      exchanges start s ws [] id hw old new (Claims v) (λ m'. m' ≡ (at_head v hw, me.1))
      (λ e. let r : real ≡ front = sym (count_of_word real n.gap small) ∙ ap (λ (x : ℕ). x / 512) e ∙ sees_at in
      let g : n.gap ≡ 0 = sym (gap_of_word real n.gap small) ∙ ap (λ (x : ℕ). x % 512) e ∙ unclaimed in
      let z : d.aside ≡ 0 = grind arith in let begun : d.start ≤ front = omega (arith, o.begun) in
      let few : front + k + k ≤ d.tail = omega arith in let pos : 0 < k = omega arith in let most : k ≤ 128 = grind arith in
      let xs : List T = Oldest d front k in let len : length xs ≡ k = oldest_length d front k begun (grind arith) (omega arith) in
      let ys : List (Option T) = map Some xs in let many : length ys ≡ k = length-map xs Some ∙ len in let w : View T = claimed_view v xs in
      let home : AllHome s.homes front ys = all_full xs s.homes front (λ j x at_j. let lt : j < length xs = at_within xs j x at_j in
      let f = n.full (front + j) (omega arith) (grind arith) in let index : front - d.start + j ≡ front + j - d.start = grind arith in
      let same : f.0 ≡ x = some-injective f.0 x (sym f.1 ∙ ap (get_elem? d.log) (sym index) ∙ sym (at_oldest d front k j (omega arith) (omega arith)) ∙ at_j) in
      subst (λ (y : T). HomeAt s.homes (front + j) (Some y)) same f.2) in
      subst (λ (x : ℕ). Puts start s 11 x (Claims v) ws [] id) (sym writes) (
        w,
        take_all front ys,
        take_valid ys s.homes [] front (omega arith) home,
        moved start s q id v w (words_of (head_word (front + k) k) d.tail) (homes_after s.homes [] (take_all front ys)) (front + k) k k id at thief
            (take_length ys s.homes [] front ∙ n.slots) refl (grind arith)
            (λ l le lt. let f = n.full l (grind arith) lt in (f.0, f.1, take_behind ys s.homes [] front l (grind arith) (grind arith) ∙ f.2))
            (λ l (le : d.tail + d.aside ≤ l) lt beside outside.
            take_behind ys s.homes [] front l (grind arith) (grind arith) ∙ n.free l le (grind arith) (grind arith) outside)
            (λ j u ne e. others_know d.tail real n.gap n.claimed n.holder (front + k) k k id j u.theft u.stage (omega arith) (omega arith) (n.each_seat j u e))
            (refl, pos, refl, refl, le_refl k)
            (logged_more d v.theft w.theft front k xs (n.each_lot id v at) refl refl len
            (λ j lt. let f = n.full (front + j) (grind arith) (grind arith) in let index : front - d.start + j ≡ front + j - d.start = grind arith in
            (f.0, at_oldest d front k j lt (omega arith) ∙ ap (get_elem? d.log) index ∙ f.1, f.1)))
            (λ _. (w, set_here s.views id w (at_within s.views id v at), refl))
            (λ weigh. let p = claimed_weight weigh start front k v.theft.claims (grind arith) in grind arith),
        (d, claimed_pure d front k begun (omega arith), xs, refl, len, most, ap (λ (c : List (ℕ × Option T)). (w, c)) (take_carried ys [] front ∙ append-nil (hand front ys))),
      ))
      (λ ne. let p = sees_here start id me [] thief free empty s q at in p))
