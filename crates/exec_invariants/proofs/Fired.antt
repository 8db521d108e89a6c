-- A sleeper of a worker fires: its record, and those who sleep still.
use Rattle.exec_invariants.{proofs.{Names.{◌≡◌, ◌≢◌, ℕ, suc, ◌<◌, ◌==◌, ◌&&◌, Bool, true, false, not, List, [], ◌∷◌, Some, None, IsSome, refl, sym, ap, subst, ◌∙◌, arith, slice_get, slice_set, if◌then◌else◌, false≢true, eq-eqb, length-set, list_all, IsPast, Slab, value_at, Id, Sleeping, is_asleep, Reply, Names, SleeperRecord, number_in, by_number, same_number}, Flying.get_set, FiringNames.naps_set}, specs.Due.AreAsleep}
pub use Rattle.std.proofs.lemmas.Bool.{le-leb}

abbrev pub fires : SleeperRecord → SleeperRecord
fires z = record z { shown = record z.shown { fired = true } }

-- TESTS

pub all_by : {X : Type 0} (test : X → Bool) (xs : List X) → ((k : ℕ) (x : X) → slice_get xs k ≡ Some x → test x ≡ true) → list_all test xs ≡ true
all_by test [] h = refl
all_by test (x ∷ xs) h = rw (h 0 x refl) (all_by test xs (λ k y there. h (suc k) y there))

-- THE RECORDS

pub fired_there : (ss : List SleeperRecord) (k : ℕ) (z : SleeperRecord) → slice_get ss k ≡ Some z → slice_get (slice_set ss k (fires z)) k ≡ Some (fires z)
fired_there ss k z there = get_set ss k k (fires z) z there ∙ ap (λ b. if b then Some (fires z) else slice_get ss k) (eq-eqb k k refl)

pub other_there : (ss : List SleeperRecord) (k j : ℕ) (z : SleeperRecord) → slice_get ss k ≡ Some z → (k ≡ j → ⊥) → slice_get (slice_set ss k (fires z)) j ≡ slice_get ss j
other_there = grind (arith, get_set, same_number)

-- THOSE WHO SLEEP STILL

pub asleep_still : {closing : Bool} (i : ℕ) (n : Names) (zs zs' : Slab (Sleeping Reply)) (ss : List SleeperRecord) (id : Id) (z : SleeperRecord) → AreAsleep closing i n zs ss
    → slice_get ss (number_in n.timers.items id) ≡ Some z → z.id.0 ≡ id → ((other : Id) → other ≢ id → value_at zs' other ≡ value_at zs other) → value_at zs' id ≡ None
    → ((other : Id) → IsSome (value_at zs other) → other ≢ id → number_in n.timers.items id ≡ number_in n.timers.items other → ⊥)
    → ((other : Id) → IsPast zs' other → IsPast zs other) → ((other : Id) → IsPast zs other → IsPast zs' other) → AreAsleep closing i n zs' (slice_set ss (number_in n.timers.items id) (fires z))
asleep_still i n zs zs' ss id z asleep there named others gone apart back on =
    let k = number_in n.timers.items id in
    let awake : (b : Bool) → is_asleep i (fires z).shown ≡ false = λ b. fired_awake (z.shown.worker == i) z.shown.removed in
    let before : (j : ℕ) (r : SleeperRecord) → slice_get (slice_set ss k (fires z)) j ≡ Some r → is_asleep i r.shown ≡ true → (k ≡ j → ⊥) × (slice_get ss j ≡ Some r) = λ j r found is.
    let no : k ≡ j → ⊥ = λ same.
    let eq : r ≡ fires z = cc (found, same, fired_there ss k z there) in
    false≢true (sym (awake true) ∙ ap (λ x. is_asleep i x.shown) (sym eq) ∙ is) in
    (no, sym (other_there ss k j z there no) ∙ found) in
    record {
      alike = λ other it r at found.
          let differs : other ≢ id = λ e. let no : Some it ≡ None = sym at ∙ ap (value_at zs') e ∙ gone in absurd (cc) in
          let old : value_at zs other ≡ Some it = sym (others other differs) ∙ at in
          asleep.alike other it r old (sym (other_there ss k (number_in n.timers.items other) z there (apart other (rw old refl) differs)) ∙ found);
      there = λ j r found is unclosed.
          let old = before j r found is in
          let differs : r.id.0 ≢ id = λ e. old.0 (sym (ap (number_in n.timers.items) e) ∙ asleep.named j r old.1 is unclosed) in
          rw (others r.id.0 differs) (asleep.there j r old.1 is unclosed);
      named = λ j r found is unclosed. asleep.named j r (before j r found is).1 is unclosed;
      lets_go = λ j r found mine closed.
          by_number j k
          (λ apart. asleep.lets_go j r (sym (other_there ss k j z there (λ same. apart (sym same))) ∙ found) mine closed)
          (λ same.
          let is : r ≡ fires z = cc (found, same, fired_there ss k z there) in
          asleep.lets_go k z there (ap (λ (x : SleeperRecord). x.shown.worker) (sym is) ∙ mine) (ap (λ (x : SleeperRecord). x.closed) (sym is) ∙ closed));
      counted = λ other past. subst (λ m. other.generation < m) (sym (length-set ss k (fires z))) (asleep.counted other (back other past));
      names = naps_set i zs zs' ss k z (fires z) there refl refl on asleep.names;
    }
  where
    fired_awake : (a b : Bool) → (a && false && not b) ≡ false
    fired_awake true b = refl
    fired_awake false b = refl
