-- What an enter changes of the signs.
use Rattle.std.{proofs.{Common.{◌≡◌, ℕ, suc, ◌==◌, ◌&&◌, Bool, true, false, List, [], ◌∷◌, map, if◌then◌else◌, refl, ap}, lemmas.Bool.{false≢true, and_parts}}, specs.{Prelude.nat_le, List.list_any}}
use Rattle.exec_machine.specs.{declared.state.{Request.Request, RequestPhase.RequestPhase}, Deadlines.is_due, Requests.flown, Tests.{is_gated, is_staged}, World.{Common, Open}}
use Rattle.exec_moves.specs.{Counts.{count_numbered, gates_from}, Submit.waits_at}
use Rattle.exec_machine.specs.declared.state.RequestPhase.TheVariants as phase

any_map : {X : Type 0} (test : X → Bool) (f : X → X) → ((x : X) → test (f x) ≡ test x) → (xs : List X) → list_any test (map f xs) ≡ list_any test xs
any_map test f same [] = refl
any_map test f same (x ∷ xs) = rw (same x, any_map test f same xs) refl

counted : {X : Type 0} (test other : ℕ → X → Bool) → ((n : ℕ) (x : X) → test n x ≡ other n x) → (n : ℕ) (xs : List X) → count_numbered test n xs ≡ count_numbered other n xs
counted test other same n [] = refl
counted test other same n (x ∷ xs) = rw (same n x, counted test other same (suc n) xs) refl

due_flown : (i moment j : ℕ) (r : Request) → is_due i moment (flown j r) ≡ is_due i moment r
due_flown i moment j r = by ((r.worker == j) && is_staged r.phase)
  where
    by : (b : Bool) → is_due i moment (if b then record r { phase = phase.Flying } else r) ≡ is_due i moment r
    by true = refl
    by false = refl

ungated : (p : RequestPhase) → is_staged p ≡ true → is_gated p ≡ false
ungated phase.Gated staged = absurd (false≢true staged)
ungated p staged = refl

waits_flown : (i file j : ℕ) (r : Request) → waits_at i file (flown j r) ≡ waits_at i file r
waits_flown i file j r = by ((r.worker == j) && is_staged r.phase) refl
  where
    by : (b : Bool) → ((r.worker == j) && is_staged r.phase) ≡ b → waits_at i file (if b then record r { phase = phase.Flying } else r) ≡ waits_at i file r
    by true staged = rw (ungated r.phase (and_parts (r.worker == j) (is_staged r.phase) staged).1) refl
    by false other = refl

abbrev entered : ℕ → Common → Common
entered i s = record s { requests = map (flown i) s.requests }

pub due_same : (i moment j : ℕ) (rs : List Request) → list_any (is_due i moment) (map (flown j) rs) ≡ list_any (is_due i moment) rs
due_same i moment j rs = any_map (is_due i moment) (flown j) (due_flown i moment j) rs

pub gates_same : (i from j : ℕ) (s : Common) → gates_from i from (entered j s) ≡ gates_from i from s
gates_same i from j s =
    counted (λ file (o : Open). nat_le from file && list_any (waits_at i file) (map (flown j) s.requests)) (λ file (o : Open). nat_le from file && list_any (waits_at i file) s.requests)
    (λ file o. ap (λ b. nat_le from file && b) (any_map (waits_at i file) (flown j) (waits_flown i file j) s.requests)) 0 s.opens
