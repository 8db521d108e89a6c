-- The owner's loads of the head keep the rule.
use Rattle.exec_live_queue.{proofs.{Words.{◌≡◌, ℕ, ◌+◌, ◌/◌, ◌%◌, ◌<◌, ◌≤◌, List, [], length, replicate, refl, ap, ◌∙◌, le_refl, arith, none, some, get_elem?, length-replicate, Option, None, State, step, homes_after, Allows, View, Owns, head_word, words_of, Kept, LiveQueue, Sat, room, hand, saw, out, laid, Outside, Homes}, Hands.{take_before, take_behind, take_valid, take_carried, take_length, all_free}, Rebuild.{Gives, rebuilt, owner_steps}}, specs.Plays.take_all}
use Rattle.std.proofs.lemmas.{Nat.{div-mul-add, mod-mul-add}, List.append-nil}
pub use Rattle.std.proofs.lemmas.List.{nil_from_length}

-- the head that was found is taken apart again
pub count_of_word : (real gap : ℕ) → gap < 512 → head_word real gap / 512 ≡ real
count_of_word real gap small = div-mul-add real 512 gap small

pub gap_of_word : (real gap : ℕ) → gap < 512 → head_word real gap % 512 ≡ gap
gap_of_word real gap small = mod-mul-add real 512 gap small

module _ {T : Type 0} where
  -- `f` says how many slots to take of those that are free
  pub lays_here : (start : ℕ) (me : Sat T) (f : ℕ → ℕ) → ((r : ℕ) → f r ≤ r) → me.0.stage ≡ Owns → me.0.own.aside ≡ 0 → me.0.own.out_len ≡ 0
      → (s : State (Option T) (View T)) (k : Kept start me.0 s) → get_elem? s.views 0 ≡ some me.0
      → Gives start s 11 (λ n. n) (laid f (step 256 11 0 0 none) me) (words_of (head_word k.real k.gap) me.0.own.tail) [] 0
  lays_here start me f most owns aside none_out s k at0 =
      let v : View T = me.0 in let t : ℕ = v.own.tail in let real : ℕ = k.real in let gap : ℕ = k.gap in let o = k.order in
      let n : ℕ = f (room t real gap) in let few : n ≤ room t real gap = most (room t real gap) in let w : View T = out (saw v real gap) t n in
      let small : gap < 512 = grind arith in let es : List (Option T) = replicate n None in let len : length es ≡ n = length-replicate n None in
      let homes' : Homes T = homes_after s.homes [] (take_all t es) in
      let got : laid f (step 256 11 0 0 none) me (head_word real gap) (w, hand t es) = rw (count_of_word real gap small, gap_of_word real gap small) ((k.claimed, o), refl) in
      let valid = take_valid es s.homes [] t (grind arith) (all_free n s.homes t (λ l le lt. k.free l (grind arith) (grind arith) (grind arith) (grind arith))) in
      let stays = rebuilt start s v w k (words_of (head_word real gap) t) homes' real gap at0 owns owns k.from (take_length es s.homes [] t ∙ k.slots) refl
      (grind arith) k.long (le_refl t) (le_refl real) (λ pos. (pos, refl)) (λ pos. pos)
      (λ l le lt. let f = k.full l le lt in (f.0, f.1, take_before es s.homes [] t l (grind arith) (grind arith) ∙ f.2))
      (λ l (le : t + v.own.aside ≤ l) lt beside (outside : Outside t n l).
      take_behind es s.homes [] t l (grind arith) (grind arith) ∙ k.free l le lt beside (grind arith))
      refl (λ l x e. e) (λ weight. refl) in
      (w, take_all t es, valid, stays, (got.0, ap (λ (c : List (ℕ × Option T)). (w, c)) (take_carried es [] t ∙ append-nil (hand t es)) ∙ got.1))

  pub lays : (start : ℕ) (id : ℕ) (me : Sat T) (f : ℕ → ℕ) → ((r : ℕ) → f r ≤ r) → me.0.stage ≡ Owns → me.0.own.aside ≡ 0 → me.0.own.out_len ≡ 0 → me.1 ≡ []
      → Allows (LiveQueue start) 256 id me 11 (λ n. n) (laid f (step 256 11 0 0 none) me)
  lays start id me f most owns aside none_out empty = owner_steps start id 11 me [] (λ n. n) (laid f (step 256 11 0 0 none) me) owns empty (λ s k at0. lays_here start me f most owns aside none_out s k at0)
