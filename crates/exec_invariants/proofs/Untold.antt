-- Where nothing is told, what is left to be told stays, and there is room for it.
use Rattle.exec_invariants.{specs.{Names.HasWidth, Rooted.IsRooted}, proofs.{Words.{◌≡◌, ℕ, ◌==◌, ◌&&◌, ◌||◌, Bool, not, ◌∷◌, map, nat_lt, List, [], length, refl, sym, arith, nat_tests, append-nil, Slab, Sleeping, Tells, is_untold, nothing_told, Deferred, Driving, is_empty, Books, has_callbacks, Desk, IsTold, Reply, Names, Record, Shared, SleeperRecord, Worker, completions_in, results_in, zero_false}, ServingHolds.KeepsWith}}

pub told_still : (ended : List ℕ) (n : ℕ) (left left' : Deferred Reply Reply) → Tells left left' nothing_told → IsTold ended left n → IsTold ended left' n
told_still = grind (arith, append-nil)

pub wide_still : (n : ℕ) (left left' : Deferred Reply Reply) → Tells left left' nothing_told → HasWidth left n → HasWidth left' n
wide_still = grind arith

-- what is to be sent elsewhere is as before
pub rooted_told : (i : ℕ) (n : Names) (d : Driving Reply Reply) (zs : Slab (Sleeping Reply)) (left left' : Deferred Reply Reply) (rs : List Record) (ss : List SleeperRecord)
    → left'.notes.completions.items ≡ left.notes.completions.items → left'.results.items ≡ left.results.items → IsRooted i n d zs left rs ss → IsRooted i n d zs left' rs ss
rooted_told = grind arith

pub keeps_untold : {B : Type 0} {spare : ℕ} (w : Worker) (d : Driving Reply Reply) (zs : Slab (Sleeping Reply)) (rs : List Record) (ss : List SleeperRecord) (s : Shared B) (left : Deferred Reply Reply) → Tells w.home.deferred left nothing_told → KeepsWith spare w d zs rs ss s
    → KeepsWith spare (record w { home = record w.home { deferred = left } }) d zs rs ss s
keeps_untold = grind (arith, append-nil, told_still, wide_still, rooted_told)

-- WHETHER ANYTHING IS TO BE TOLD

pub positive_there : (n : ℕ) → nat_lt 0 n ≡ not (n == 0)
positive_there n = grind (arith, nat_tests)

pub empty_map : {A C : Type 0} (f : A → C) (xs : List A) → is_empty (map f xs) ≡ (length xs == 0)
empty_map f [] = refl
empty_map f (x ∷ xs) = sym (zero_false (length xs))

empty_there : (xs : List ℕ) → is_empty xs ≡ (length xs == 0)
empty_there [] = refl
empty_there (x ∷ xs) = sym (zero_false (length xs))

pub none_of : (a b c e f : Bool) → (not a || not b || not c || not e || not f) ≡ not (a && e && b && c && f)
none_of = grind arith

-- what is on the desk
pub record ToldOnDesk (d : Desk) (left : Deferred Reply Reply) : Type 0 where
  pub wakes : d.wakes ≡ map (λ t. t.0) left.notes.wakes.items
  pub outputs : d.outputs ≡ length left.outputs.items
  pub completions : d.completions ≡ completions_in left.notes.completions.items
  pub results : d.results ≡ results_in left.results.items

pub told_there : (me : Books) (d : Desk) (left : Deferred Reply Reply) (live : ℕ) → IsTold me.ended left live → ToldOnDesk d left → has_callbacks me d ≡ not (is_untold left)
told_there = grind (arith, empty_map, positive_there, empty_there, none_of)
