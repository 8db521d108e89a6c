-- What any calls on a run queue keep.
use Rattle.std.proofs.{Common.{◌≡◌, ℕ, ◌+◌, ◌/◌, ◌≤◌, ◌&&◌, Bool, true, false, cond, List, [], ◌∷◌, ◌++◌, length, take, drop, refl, inl, inr, sym, ap, subst, ◌∙◌, arith, append_assoc, length-append, count_by}, lemmas.List.{take-append-drop, append-nil, length-take, length-drop, Sums.sum_by-append}}
use Rattle.exec_words.specs.{QueueRuns.{IsWithin, Change, Push, Pop, Claim, Release, Overflow, Restore, History, begun, is_empty, after, after_all}, Queue.{published, overflowed, newest, restored}}

first : (a b : Bool) → a && b ≡ true → a ≡ true
first true b is = refl
first false b is = absurd (cc)

module _ {T : Type 0} where
  -- lists with some values left out
  nothing_within : (ys : List T) → IsWithin [] ys
  nothing_within [] = tt
  nothing_within (y ∷ ys) = tt

  within_itself : (xs : List T) → IsWithin xs xs
  within_itself [] = tt
  within_itself (x ∷ xs) = inl (refl, within_itself xs)

  -- one more value may be left out
  within_more : (xs ys : List T) (y : T) → IsWithin xs ys → IsWithin xs (y ∷ ys)
  within_more [] ys y p = tt
  within_more (x ∷ xs) ys y p = inr p

  within_append : (xs ys us vs : List T) → IsWithin xs ys → IsWithin us vs → IsWithin (xs ++ us) (ys ++ vs)
  within_append [] [] us vs p q = q
  within_append (x ∷ xs) [] us vs p q = absurd p
  within_append [] (y ∷ ys) us vs p q = within_more us (ys ++ vs) y (within_append [] ys us vs (nothing_within ys) q)
  within_append (x ∷ xs) (y ∷ ys) us vs p q =
      elim p [
        | inl first ↦ inl (first.0, within_append xs ys us vs first.1 q)
        | inr later ↦ inr (within_append (x ∷ xs) ys us vs later q)
      ]

  -- each value of the first list is in one of the others, and in its order
  pub record IsSplit (all kept out : List T) : Type 0 where
    pub once : (p : T → Bool) → count_by p all ≡ count_by p kept + count_by p out
    pub kept_in_order : IsWithin kept all
    pub out_in_order : IsWithin out all

  -- What stands between all that was put, all that left at the front or is left, what was handed out, and how many are
  -- left: what was put up to the last overflow is split between the two; what was put since is left at the end, and
  -- before it there is half of a full queue at most.
  record Keeps (put all out : List T) (waiting : ℕ) : Type 0 where
    early : List T
    late : List T
    kept : List T
    is_put : early ++ late ≡ put
    is_all : kept ++ late ≡ all
    apart : IsSplit early kept out
    few : waiting ≤ 128 + length late

  pub count_append : (p : T → Bool) (xs ys : List T) → count_by p (xs ++ ys) ≡ count_by p xs + count_by p ys
  count_append p xs ys = sum_by-append (λ x. cond (p x) 1 0) xs ys

  -- a split list with more behind, some of which is kept and the rest of which is out
  split_more : (all kept out more held : List T) → IsSplit all kept out → IsSplit (all ++ (more ++ held)) (kept ++ more) (out ++ held)
  split_more all kept out more held s =
      record {
        once = λ p.
            omega (arith, s.once p, count_append p all (more ++ held), count_append p more held, count_append p kept more, count_append p out held);
        kept_in_order =
            within_append kept all more (more ++ held) s.kept_in_order
            (subst (λ xs. IsWithin xs (more ++ held)) (append-nil more) (within_append more more [] held (within_itself more) (nothing_within held)));
        out_in_order =
            within_append out all held (more ++ held) s.out_in_order
            (within_append [] more held held (nothing_within more) (within_itself held));
      }

  moved :
      (put all then out : List T) (waiting left : ℕ) → all ≡ then → left ≤ waiting → Keeps put all out waiting → Keeps put then out left
  moved put all then out waiting left same less k =
      record {
        early = k.early;
        late = k.late;
        kept = k.kept;
        is_put = k.is_put;
        is_all = k.is_all ∙ same;
        apart = k.apart;
        few = omega (arith, k.few);
      }

  -- the end of a list is that of its end, where it isn't longer
  end_of : (kept late front end : List T) → kept ++ late ≡ front ++ end → length end ≤ length late
      → (middle : List T) × (middle ++ end ≡ late) × (kept ++ middle ≡ front)
  end_of [] late front end same short = (front, sym same, refl)
  end_of (x ∷ xs) late [] end same short = absurd (omega (arith, ap length same, length-append xs late))
  end_of (x ∷ xs) late (y ∷ ys) end same short =
      let rest = end_of xs late ys end (ap (drop 1) same) short in
      (rest.0, rest.1, cc)

  abbrev KeepsIn : History T → Type 0
  KeepsIn h = Keeps h.put (h.front ++ (h.queue.values ++ h.queue.held)) h.handed_out (length (h.queue.values ++ h.queue.held))

  -- so many values leave at the front
  left :
      (put front out values held : List T) (n : ℕ) → Keeps put (front ++ (values ++ held)) out (length (values ++ held))
      → Keeps put ((front ++ take n values) ++ (drop n values ++ held)) out (length (drop n values ++ held))
  left put front out values held n k =
      moved put _ _ out _ _ (grind (arith, append_assoc, take-append-drop n values)) (grind (arith, length-append, length-drop)) k

  pushed : (h : History T) (v : T) → h.queue.held ≡ [] → KeepsIn h → KeepsIn (record h { queue = published h.queue (v ∷ []); put = h.put ++ v ∷ [] })
  pushed h v none k =
      let values = h.queue.values in
      let last = v ∷ [] in
      record {
        early = k.early;
        late = k.late ++ last;
        kept = k.kept;
        is_put = grind (arith, append_assoc, k.is_put);
        is_all = grind (arith, append_assoc, append-nil, k.is_all);
        apart = k.apart;
        few = grind (arith, k.few, length-append);
      }

  -- the newest of what is left are handed out
  overflowed_keeps : (h : History T) → h.queue.held ≡ [] → KeepsIn h → KeepsIn (record h { queue = overflowed h.queue; handed_out = h.handed_out ++ newest h.queue })
  overflowed_keeps h none k =
      let values = h.queue.values in
      let front = h.front ++ take 128 values in
      let end = drop 128 values in
      let same : h.front ++ (values ++ h.queue.held) ≡ front ++ end = grind (arith, append_assoc, append-nil, take-append-drop 128 values) in
      let m = end_of k.kept k.late front end (k.is_all ∙ same) (omega (arith, k.few, length-drop 128 values, length-append values h.queue.held)) in
      record {
        early = h.put;
        late = [];
        kept = front;
        is_put = append-nil h.put;
        is_all = append-nil front;
        apart =
            subst (λ xs. IsSplit h.put xs (h.handed_out ++ end)) m.2
            (subst (λ xs. IsSplit xs (k.kept ++ m.0) (h.handed_out ++ end)) (ap (λ xs. k.early ++ xs) m.1 ∙ k.is_put)
            (split_more k.early k.kept h.handed_out m.0 end k.apart));
        few = omega (arith, length-take 128 values);
      }

  restored_keeps : (h : History T) → h.queue.values ≡ [] → KeepsIn h → KeepsIn (record h { queue = restored h.queue })
  restored_keeps h none k =
      moved h.put _ _ h.handed_out _ _ (grind (arith, append-nil)) (grind (arith, append-nil)) k

  -- what stands before and after a choice
  either : (b : Bool) (g h : History T) → (b ≡ true → KeepsIn g) → KeepsIn h → KeepsIn (cond b g h)
  either true g h kg kh = kg refl
  either false g h kg kh = kh

  none : (xs : List T) → is_empty xs ≡ true → xs ≡ []
  none [] is = refl
  none (x ∷ xs) is = absurd (cc)

  after_keeps : (h : History T) (change : Change T) → KeepsIn h → KeepsIn (after h change)
  after_keeps h (Push value) k = either _ _ h (λ is. pushed h value (none h.queue.held (first _ _ is)) k) k
  after_keeps h Pop k = either _ h _ (λ _. k) (left h.put h.front h.handed_out h.queue.values h.queue.held 1 k)
  after_keeps h (Claim seen) k = either _ _ h (λ _. left h.put h.front h.handed_out h.queue.values h.queue.held (seen / 2) k) k
  after_keeps h Release k = k
  after_keeps h Overflow k = either _ _ h (λ is. overflowed_keeps h (none h.queue.held (first _ _ is)) k) k
  after_keeps h Restore k = either _ _ h (λ is. restored_keeps h (none h.queue.values is) k) k

  all_keep : (h : History T) (changes : List (Change T)) → KeepsIn h → KeepsIn (after_all h changes)
  all_keep h [] k = k
  all_keep h (change ∷ rest) k = all_keep (after h change) rest (after_keeps h change k)

  -- what was put is split between what left or is left, and what was handed out
  pub runs_split :
      (real : ℕ) (changes : List (Change T))
      → let h = after_all (begun real) changes in
      IsSplit h.put (h.front ++ (h.queue.values ++ h.queue.held)) h.handed_out
  runs_split real changes =
      let nothing : IsSplit [] [] [] = record { once = λ p. refl; kept_in_order = tt; out_in_order = tt } in
      let k =
      all_keep (begun real) changes
      (record { early = []; late = []; kept = []; is_put = refl; is_all = refl; apart = nothing; few = omega arith }) in
      let apart = split_more k.early k.kept (after_all (begun real) changes).handed_out k.late [] k.apart in
      rw (append-nil k.late, append-nil (after_all (begun real) changes).handed_out, k.is_put, k.is_all) at apart
