-- The owner's load of the head at which it gives its empty slots back keeps the rule.
use Rattle.exec_live_queue.proofs.{Words.{◌≡◌, ℕ, ◌+◌, ◌<◌, ◌≤◌, List, [], length, set, replicate, sym, refl, ◌∙◌, subst, le_refl, lt_of_not-le, arith, length-replicate, none, dite, dec_le, Option, None, step, homes_after, Allows, View, Owns, head_word, Homes, LiveQueue, Sat, hand, give_all, saw, out, returned}, Hands.{give_before, give_behind, give_here, give_valid, give_carried, give_length, free_at}, Rebuild.{rebuilt, owner_steps}, Looks.{count_of_word, gap_of_word}}

module _ {T : Type 0} where
  pub returns : (start id : ℕ) (me : Sat T) (n : ℕ) → me.0.stage ≡ Owns → me.0.own.out_len ≡ n → 0 < n → me.1 ≡ hand me.0.own.out_at (replicate n None)
      → Allows (LiveQueue start) 256 id me 11 (λ x. x) (returned (step 256 11 0 0 none) me)
  returns start id me n owns is pos carries =
      let a : ℕ = me.0.own.out_at in let es : List (Option T) = replicate n None in let back : List (ℕ × Option T) = hand a es in let len : length es ≡ n = length-replicate n None in
      owner_steps start id 11 me back (λ x. x) (returned (step 256 11 0 0 none) me) owns carries (λ s k at0.
      let v : View T = me.0 in let real : ℕ = k.real in let gap : ℕ = k.gap in let o = k.order in let w : View T = out (saw v real gap) v.own.tail 0 in
      let small : gap < 512 = grind arith in let lies : (v.own.tail + v.own.aside ≤ a) × (a + n ≤ real + 256) = grind arith in
      let homes' : Homes T = homes_after s.homes back (give_all es) in let here = give_here es s.homes a (grind arith) k.slots in
      let got : returned (step 256 11 0 0 none) me (head_word real gap) (w, [])
      = rw (count_of_word real gap small, gap_of_word real gap small) ((k.claimed, o), refl) in (
        w,
        give_all es,
        give_valid es s.homes back,
        subst (λ (ws : List ℕ). LiveQueue start record { words = ws; homes = homes'; views = set s.views 0 w }) k.words
            (rebuilt start s v w k s.words homes' real gap at0 owns owns k.from (give_length es s.homes a ∙ k.slots) k.words
            (grind arith) k.long (le_refl v.own.tail) (le_refl real) (λ q. (q, refl)) (λ q. q)
            (λ l le lt. let f = k.full l le lt in (f.0, f.1, give_before es s.homes a l (grind arith) (grind arith) ∙ f.2))
            (λ l le lt beside outside. dite (dec_le a l)
            (λ (ge : a ≤ l). dite (dec_le (a + n) l)
            (λ (far : a + n ≤ l). give_behind es s.homes a l (grind arith) (grind arith) ∙ k.free l le lt beside (grind arith))
            (λ ne. free_at n homes' a l here ge (lt_of_not-le ne)))
            (λ ne. give_before es s.homes a l (grind arith) (grind arith) ∙ k.free l le lt beside (grind arith)))
            refl (λ l x e. e) (λ weight. refl)),
        subst (λ (c : List (ℕ × Option T)). returned (step 256 11 0 0 none) me (head_word real gap) (w, c))
            (sym (give_carried es a)) got,
      ))
