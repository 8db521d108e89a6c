-- A new queue meets the rule.
use Rattle.exec_live_queue.proofs.Words.{◌≡◌, ℕ, zero, suc, ◌+◌, ◌-◌, ◌%◌, ◌^◌, ◌<◌, ◌≤◌, List, [], ◌∷◌, map, length, replicate, sym, refl, ap, ◌∙◌, subst, mod-lt, arith, length-replicate, some, some-ne-none, get_elem?, length-map, Option, None, sum_by, opening, View, head_word, words_of, labels, Knows, AsLogged, LiveQueue, opened}
use Rattle.std.proofs.Common.{arith}

module _ {T : Type 0} where
  home_among : (n k : ℕ) → k < n → get_elem? (map {A = Option T} some (replicate n None)) k ≡ some (some None)
  home_among zero k lt = absurd (omega arith)
  home_among (suc n) zero lt = refl
  home_among (suc n) (suc k) lt = home_among n k (omega arith)

  one : (v : View T) (j : ℕ) (u : View T) → get_elem? (v ∷ []) j ≡ some u → (j ≡ 0) × (v ≡ u)
  one = grind arith

  pub opens : (start n : ℕ) (ws : List ℕ) (xs : List (Option T)) → start + 512 ≤ 2 ^ 55 → n ≡ 256 → xs ≡ replicate n None → ws ≡ words_of (head_word start 0) start → LiveQueue start (opening ws xs (opened start))
  unfolding labels
  opens start n ws xs small wide free words =
      let v : View T = opened start in let len : length (map some xs) ≡ n = length-map xs some ∙ ap length free ∙ length-replicate n None in let level : start - start ≡ 0 = omega arith in
      let only : (j : ℕ) (u : View T) → get_elem? (v ∷ []) j ≡ some u → (j ≡ 0) × (v ≡ u) = one v in record {
        view = v;
        seated = refl;
        owns = refl;
        kept = record {
          real = start;
          gap = 0;
          claimed = 0;
          holder = 0;
          from = refl;
          slots = len ∙ wide;
          words = words;
          order = grind arith;
          long = refl;
          full = λ l le lt. absurd (omega arith);
          free = λ l le lt beside outside. ap (λ (ys : List (Option T)). get_elem? (map some ys) (l % 256)) free ∙ home_among n (l % 256) (let m : l % 256 < 256 = mod-lt l (omega arith) in omega (arith, wide, m));
          each_seat = λ j u e. let is = only j u e in subst (λ (x : View T). Knows start start 0 0 0 j x.theft x.stage) is.1 is.0;
          each_lot = λ j u e. let is = only j u e in subst (λ (x : View T). AsLogged v.own x.theft) is.1 (refl, λ i l nowhere. absurd (some-ne-none l (sym nowhere)));
          held = λ pos. absurd (omega arith);
          told = λ w. ap (λ (n : ℕ). sum_by w (labels start n)) (sym level);
        };
      }
