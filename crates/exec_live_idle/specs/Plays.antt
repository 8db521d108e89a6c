-- What each step of an idle set tells the seat that makes it: which transition it was, of the word that it found, and
-- what the seat knows then.
use Rattle.std.specs.Prelude.{◌≡◌, ◌≢◌, ℕ, ◌+◌, ◌-◌, ◌%◌, ◌^◌, ◌<◌, ◌==◌, if◌then◌else◌, Bool, true, false, [], ◌∷◌, ◌++◌, Option, Some, None, bit_or, bit_and}
use Rattle.atomic_table.specs.Table.{Me, Step}
use Rattle.exec_words.specs.Idle.{is_in, lowest_of}
use Rattle.exec_live_idle.specs.{declared.view.View.View, Words.{set_of, MovesSet, MovesCount, publish, withdraw, add, subtract}}

-- the views after the steps
abbrev pub published : View → View
published v = record v { published = true; last = None }

abbrev pub looked : View → ℕ → View
looked v word = record v { last = Some word }

-- a withdrawal takes over the count of whoever claimed the worker
abbrev pub withdrawn : View → Bool → View
withdrawn v found = record v { published = false; held = v.held + (if found then 0 else 1); last = None }

-- a claim hands a count over
abbrev pub claimed : View → ℕ → View
claimed v worker = record v { held = v.held - 1; claims = v.claims ++ worker ∷ []; last = None }

abbrev pub counted : View → ℕ → View
counted v saw = record v { saw = saw; last = None; before = None }

-- a count is taken, where so many were found
abbrev pub taken : View → Option ℕ → View
taken v found = record v { held = v.held + 1; took = found; last = None; before = None }

-- or is taken only where there was none
abbrev pub begun : View → ℕ → Bool → View
begun v saw first =
    record (counted v saw) { held = v.held + (if first then 1 else 0); took = if first then Some 0 else v.took }

abbrev pub returned : View → ℕ → View
returned v saw = record v { held = v.held - 1; saw = saw; last = None; before = v.last }

module _ {S : Type 0} where
  -- a load of the set
  abbrev pub looks : Step S → Me S View → ℕ → Me S View → Type 0
  looks st m n m' = (st.word ≡ 0) × (m' ≡ (looked m.0 n, m.1))

  -- the or of the worker's bit
  abbrev pub publishes : Step S → Me S View → ℕ → Me S View → Type 0
  publishes st m n m' = MovesSet (publish m.0.number) n (bit_or n st.first) × (m' ≡ (published m.0, m.1))

  -- the and of all bits but the worker's
  abbrev pub withdraws : Step S → Me S View → ℕ → Me S View → Type 0
  withdraws st m n m' = MovesSet (withdraw m.0.number) n (bit_and n st.first) × (m' ≡ (withdrawn m.0 (is_in (set_of n) m.0.number), m.1))

  -- the exchange of the set for one without its lowest bit; or the set was another
  abbrev pub claims : Step S → Me S View → ℕ → Me S View → Type 0
  claims st m n m' = (n ≡ st.first → (worker : ℕ) × (lowest_of (set_of n) ≡ Some worker) × (worker < m.0.workers) × MovesSet (withdraw worker) n st.second × (m' ≡ (claimed m.0 worker, m.1)))
      × (n ≢ st.first → m' ≡ (looked m.0 n, m.1))

  -- a load of the count
  abbrev pub reads : Step S → Me S View → ℕ → Me S View → Type 0
  reads st m n m' = (st.word ≡ 1) × (m' ≡ (counted m.0 n, m.1))

  abbrev pub adds : Step S → Me S View → ℕ → Me S View → Type 0
  adds st m n m' = (n + 1 < 2 ^ 64) × MovesCount add n ((n + st.first) % 2 ^ 64) × (m' ≡ (taken m.0 (Some n), m.1))

  abbrev pub subtracts : Step S → Me S View → ℕ → Me S View → Type 0
  subtracts st m n m' = (0 < n) × MovesCount subtract n ((n + (2 ^ 64 - st.first)) % 2 ^ 64) × (m' ≡ (returned m.0 (n - 1), m.1))

  -- the exchange of the count 0 to 1; or the count was another
  abbrev pub begins : Step S → Me S View → ℕ → Me S View → Type 0
  begins st m n m' = (n ≡ 0 → MovesCount add n st.second) × (m' ≡ (begun m.0 n (n == 0), m.1))
