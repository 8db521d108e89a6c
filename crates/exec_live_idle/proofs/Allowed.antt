-- Each step may be made: the rule of the idle set holds after it.
use Rattle.std.{proofs.{Common.{◌≡◌, ◌≢◌, ℕ, ◌+◌, ◌-◌, ◌%◌, ◌^◌, ◌<◌, ◌≤◌, eqb, Bool, true, false, List, [], ◌∷◌, set, slice_index, bit_or, bit_and, sym, refl, ap, ◌∙◌, subst, eq-eqb, ne_eqb, arith}, lemmas.Nat.Bits.{bit_at-trailing_zeros}}, specs.{Prelude.{Option, Some, None}, Int.{bit_not, trailing_zeros}}}
use mathlib.Core.{Logic.{dite}, Option.{none, some}}
use native.Mathlib.Decide.{ℕ_discrete}
use prog.Atomic.{either}
use lib.ListN.{get_elem?}
use mir.Syntax.{w64}
use Rattle.atomic_table.specs.Table.{Me, step, opening, Allows, Splits, Joins, keeps}
use Rattle.exec_words.specs.Idle.{is_in}
use Rattle.exec_live_idle.{specs.{declared.view.View.View, Words.set_of, Live.{Kept, LiveIdle, next_number, own_number, with_counts, joined, first_view}, Plays.{published, looked, withdrawn, claimed, counted, taken, begun, returned, looks, publishes, withdraws, claims, reads, adds, subtracts, begins}}, proofs.{Sets.{bit_of, in_changed_here, set_with, set_without, lowest_in, in_lowest, none_in}, Keeps.{bounded, counts, held_within, publishes_kept, claims_kept, withdraws_kept, splits, joins, begins as begins_}}}

module _ {S : Type 0} (workers slots id : ℕ) (me : Me S View) where
  -- a step that makes of the set a and the count b the set c and the count d, and tells this
  on_word : (i : ℕ) (f : ℕ → ℕ) (told : ℕ → Me S View → Type 0)
      → ((a b : ℕ) (views : List View) → Kept workers (set_of a) b views → get_elem? views id ≡ some me.0
      → (w : View) × (c : ℕ) × (d : ℕ) × (set (a ∷ b ∷ []) i (f (slice_index (a ∷ b ∷ []) i)) ≡ c ∷ d ∷ [])
      × Kept workers (set_of c) d (set views id w) × told (slice_index (a ∷ b ∷ []) i) (w, me.1))
      → Allows (LiveIdle workers) slots id me i f told
  on_word i f told made s q len at small = let got = made q.set q.count s.views q.kept at in
      let words = ap (λ (ws : List ℕ). set ws i (f (slice_index ws i))) q.words ∙ got.3 in
      let tells = subst (λ (ws : List ℕ). told (slice_index ws i) (got.0, me.1)) (sym q.words) got.5 in
      (got.0, keeps, tt, record { set = got.1; count = got.2; words = words; kept = got.4 }, tells)

  -- the rule where this seat alone changes its notes
  noted : (set_ : List Bool) (count : ℕ) (views : List View) (saw : ℕ) (last before : Option ℕ) → me.0.number < me.0.end
      → Kept workers set_ count views → get_elem? views id ≡ some me.0
      → Kept workers set_ count (set views id record me.0 { saw = saw; last = last; before = before })
  noted set_ count views saw last before live k at = let few = (k.each_seat id me.0 at).held in
      counts workers set_ count views k id me.0 at count me.0.held saw me.0.took last before live few refl

  pub look : me.0.number < me.0.end → Allows (LiveIdle workers) slots id me 0 (λ n. n) (looks (step slots 0 0 0 none) me)
  look live = on_word 0 (λ n. n) (looks (step slots 0 0 0 none) me) (λ a b views k at.
      let kept = noted (set_of a) b views me.0.saw (Some a) me.0.before live k at in
      (looked me.0 a, a, b, refl, kept, (refl, refl)))

  -- the or of the bit i
  abbrev MayPublish : ℕ → Type 0
  MayPublish i = Allows (LiveIdle workers) slots id me 0 (λ n. bit_or n (bit_of i))
      (publishes (step slots 0 (bit_of i) 0 none) me)

  pub publish_ : (i : ℕ) → i ≡ me.0.number → me.0.number < me.0.end → me.0.workers ≤ 64 → me.0.number < me.0.workers
      → me.0.published ≡ false → MayPublish i
  publish_ i is live most pool down = let n : ℕ = me.0.number in let low : n < 64 = omega arith in
      subst MayPublish (sym is) (on_word 0 (λ a. bit_or a (bit_of n)) (publishes (step slots 0 (bit_of n) 0 none) me)
      (λ a b views k at. let e = set_with a n low in let here = in_changed_here a n true low in
      let in_pool : me.0.workers ≡ workers = (k.each_seat id me.0 at).pool live in
      let kept = publishes_kept workers (set_of a) b views k id me.0 at live (omega (arith, pool, in_pool)) down here in
      (published me.0, bit_or a (bit_of n), b, refl, rw e kept, ((λ other. rw e refl), refl))))

  -- the and of all bits but i
  abbrev MayWithdraw : ℕ → Type 0
  MayWithdraw i = Allows (LiveIdle workers) slots id me 0 (λ n. bit_and n (bit_not w64 (bit_of i)))
      (withdraws (step slots 0 (bit_not w64 (bit_of i)) 0 none) me)

  pub withdraw_ : (i : ℕ) → i ≡ me.0.number → me.0.number < me.0.end → me.0.workers ≤ 64 → me.0.number < me.0.workers
      → me.0.published ≡ true → me.0.held < 2 → MayWithdraw i
  withdraw_ i is live most pool up few = let n : ℕ = me.0.number in let low : n < 64 = omega arith in
      let mask : ℕ = bit_not w64 (bit_of n) in
      subst MayWithdraw (sym is) (on_word 0 (λ a. bit_and a mask) (withdraws (step slots 0 mask 0 none) me)
      (λ a b views k at. let e = set_without a n low in let gone = in_changed_here a n false low in
      let kept = withdraws_kept workers (set_of a) b views k id me.0 at live up few gone in
      (withdrawn me.0 (is_in (set_of a) n), bit_and a mask, b, refl, rw e kept, ((λ other. rw e refl), refl))))

  -- a claim goes from a set that was seen, which isn't empty
  pub claim_ : (seen : ℕ) → me.0.number < me.0.end → 0 < seen → seen < 2 ^ 64 → 0 < me.0.held
      → let left : ℕ = bit_and seen (bit_not w64 (bit_of (trailing_zeros w64 seen))) in
      Allows (LiveIdle workers) slots id me 0 (λ n. either (eqb n seen) left n) (claims (step slots 0 seen left none) me)
  claim_ seen live some_bit small holds =
      let i : ℕ = trailing_zeros w64 seen in let left : ℕ = bit_and seen (bit_not w64 (bit_of i)) in
      let told : ℕ → Me S View → Type 0 = claims (step slots 0 seen left none) me in
      let low : i < 64 = (bit_at-trailing_zeros w64 seen some_bit small).0 in let up = in_lowest seen some_bit small in
      let lowest = lowest_in seen some_bit small in let out = set_without seen i low in
      on_word 0 (λ n. either (eqb n seen) left n) told (λ a b views k at. dite (ℕ_discrete a seen)
      (λ (e : a ≡ seen). let q = subst (λ (n : ℕ). Kept workers (set_of n) b views) e k in
      let pool = (q.each_seat id me.0 at).pool live in let gone = in_changed_here seen i false low in
      let mine : i < me.0.workers = omega (arith, (q.each_bit i up).0, pool) in
      let kept = claims_kept workers (set_of seen) b views q id me.0 at i live holds up gone in
      let tells = subst (λ (n : ℕ). told n (claimed me.0 i, me.1)) (sym e)
      ((λ _. (i, lowest, mine, (λ other. rw out refl), refl)), λ ne. absurd (ne refl)) in
      (claimed me.0 i, left, b, rw (eq-eqb a seen e) refl, rw out kept, tells))
      (λ (ne : a ≢ seen). let kept = noted (set_of a) b views me.0.saw (Some a) me.0.before live k at in
      (looked me.0 a, a, b, rw (ne_eqb a seen ne) refl, kept, ((λ e. absurd (ne e)), λ _. refl))))

  pub read_ : me.0.number < me.0.end → Allows (LiveIdle workers) slots id me 1 (λ n. n) (reads (step slots 1 0 0 none) me)
  read_ live = on_word 1 (λ n. n) (reads (step slots 1 0 0 none) me) (λ a b views k at.
      let kept = noted (set_of a) b views b None None live k at in (counted me.0 b, a, b, refl, kept, (refl, refl)))

  pub add_ : me.0.number < me.0.end → me.0.held < 2
      → Allows (LiveIdle workers) slots id me 1 (λ n. (n + 1) % 2 ^ 64) (adds (step slots 1 1 0 none) me)
  add_ live few = on_word 1 (λ n. (n + 1) % 2 ^ 64) (adds (step slots 1 1 0 none) me) (λ a b views k at.
      let room = bounded workers (set_of a) b views k id me.0 at in
      let whole : (b + 1) % 2 ^ 64 ≡ b + 1 = omega (arith, room) in
      let kept = counts workers (set_of a) b views k id me.0 at (b + 1) (me.0.held + 1) me.0.saw (Some b) None None live
      (omega (arith, few)) (omega arith) in
      (taken me.0 (Some b), a, b + 1, rw whole refl, kept, (room, (λ other. rw whole refl), refl)))

  pub subtract_ : me.0.number < me.0.end → 0 < me.0.held
      → Allows (LiveIdle workers) slots id me 1 (λ n. (n + (2 ^ 64 - 1)) % 2 ^ 64) (subtracts (step slots 1 1 0 none) me)
  subtract_ live holds = on_word 1 (λ n. (n + (2 ^ 64 - 1)) % 2 ^ 64) (subtracts (step slots 1 1 0 none) me)
      (λ a b views k at. let room = bounded workers (set_of a) b views k id me.0 at in
      let enough = held_within workers (set_of a) b views k id me.0 at in
      let most = (k.each_seat id me.0 at).held in
      let whole : (b + (2 ^ 64 - 1)) % 2 ^ 64 ≡ b - 1 = omega (arith, enough, holds, room) in
      let kept = counts workers (set_of a) b views k id me.0 at (b - 1) (me.0.held - 1) (b - 1) me.0.took None
      me.0.last live (omega (arith, most)) (omega (arith, enough, holds)) in
      let some_count : 0 < b = omega (arith, enough, holds) in
      (returned me.0 (b - 1), a, b - 1, rw whole refl, kept, (some_count, (λ other. rw whole refl), refl)))

  pub begin_ : me.0.number < me.0.end → me.0.held < 2
      → Allows (LiveIdle workers) slots id me 1 (λ n. either (eqb n 0) 1 n) (begins (step slots 1 0 1 none) me)
  begin_ live few = let told : ℕ → Me S View → Type 0 = begins (step slots 1 0 1 none) me in
      on_word 1 (λ n. either (eqb n 0) 1 n) told (λ a b views k at. dite (ℕ_discrete b 0)
      (λ (e : b ≡ 0). let hit = eq-eqb b 0 e in
      let kept = counts workers (set_of a) b views k id me.0 at 1 (me.0.held + 1) b (Some 0) None None live
      (omega (arith, few)) (omega (arith, e)) in
      (begun me.0 b true, a, 1, rw hit refl, kept, ((λ _ other. rw e refl), rw hit refl)))
      (λ (ne : b ≢ 0). let miss = ne_eqb b 0 ne in
      let kept = counts workers (set_of a) b views k id me.0 at b (me.0.held + 0) b me.0.took None None live
      (omega (arith, few)) (omega arith) in
      (begun me.0 b false, a, b, rw miss refl, kept, ((λ e. absurd (ne e)), rw miss refl))))

module _ {S : Type 0} (workers id : ℕ) (v : View) where
  pub make_ : v.published ≡ false → v.number + 1 < v.end → Splits {S = S} (LiveIdle workers) id v (next_number v) (own_number v)
  make_ down room s q at = record { set = q.set; count = q.count; words = q.words; kept = splits workers (set_of q.set) q.count s.views q.kept id v at down room }

  pub join_ : (other : ℕ) (w : View) → v.number < v.end → w.published ≡ false → v.held + w.held ≤ 2 → Joins {S = S} (LiveIdle workers) id v other w (with_counts v w) joined
  join_ other w live down few s q at apart there =
      record { set = q.set; count = q.count; words = q.words; kept = joins workers (set_of q.set) q.count s.views q.kept id v at other w apart there live down few }

pub opens : {S : Type 0} (workers : ℕ) → LiveIdle {S = S} workers (opening (0 ∷ 0 ∷ []) [] (first_view workers))
opens workers = record { set = 0; count = 0; words = refl; kept = begins_ workers (set_of 0) none_in }
