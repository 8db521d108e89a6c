-- The callbacks have nothing left, and lead on.
use Rattle.std.{proofs.{Common.{◌≡◌, ℕ, ◌<◌, Bool, true, false, if◌then◌else◌, refl, arith}, lemmas.Bool.true≢false}, specs.Prelude.nat_lt}
use Rattle.exec_machine.specs.{declared.config.Configuration.Configuration, Ranges.ring_size, World.{Common, Own as Books}}
use Rattle.exec_moves.specs.{declared.{handing.AfterCallbacks.AfterCallbacks, place.{InCallbacks.InCallbacks, InLoads.InLoads, Place.Place, Round.Round}}, Callback.{after_callbacks, has_callbacks, is_of_pool}, Counts.one_if, State.{Desk, Things, word_of}}
use Rattle.exec_progress.{specs.{Going.closes_callbacks, Owed.{has_wakes, quiet_items, sampling, signals_itself}}, proofs.{Hopping.{Gets, Kept, later}, Tools.{before, goes_down, keeps_turns, left, or_more}}}

no_more : (me : Books) (d : Desk) → has_callbacks me d ≡ false → (one_if (has_wakes me d) ≡ 0) × (quiet_items d ≡ 0)
no_more = grind arith

module _ (c : Configuration) (i : ℕ) (me : Books) (s : Common) (d : Desk) (x : Things) where
  -- nothing is changed
  abbrev pub same : Gets c i me s d x
  same = record { hand = d.hand; loot = d.loot; searching = d.searching; things = x }

  pub kept_same : (p : Place) → Kept c i me s d x p same
  kept_same p = record { queue_kept = omega arith; global_kept = omega arith; wants = λ h. h; poll = refl; mail = refl; latch = λ n. or_more (nat_lt n sampling) (signals_itself i p) (word_of x i).latch }

  abbrev calling : AfterCallbacks → Place
  calling n = Place.Callbacks InCallbacks.CallBack n

  abbrev DropsTo : AfterCallbacks → Place → Type 0
  DropsTo n q = left c i (later c i me s d x q same) < left c i (before me s d x (calling n))

  looks : (v : Bool) → is_of_pool s i ≡ v → DropsTo AfterCallbacks.Look (if v then Place.Loads InLoads.LoadOwnHead Round.First else Place.Loads (InLoads.LoadOwnWord (record { ready = false })) Round.First)
  looks true pool = grind arith
  looks false pool = grind arith

  tests : (v : Bool) → is_of_pool s i ≡ v → has_callbacks me d ≡ false
      → DropsTo AfterCallbacks.Test (if v then Place.Loads InLoads.LoadOwnHead Round.Second else Place.Loads (InLoads.LoadOwnWord (record { ready = false })) Round.Second)
  tests true pool none =
      let it = no_more me d none in
      let a = before me s d x (calling AfterCallbacks.Test) in
      let b = later c i me s d x (Place.Loads InLoads.LoadOwnHead Round.Second) same in
      goes_down c i a b (record {
        long_before = refl;
        long_after = refl;
        less = omega arith;
        gates_kept = omega arith;
        owes = keeps_turns c i a b (grind (arith, it.0));
      })
  tests false pool none =
      let it = no_more me d none in
      let a = before me s d x (calling AfterCallbacks.Test) in
      let b = later c i me s d x (Place.Loads (InLoads.LoadOwnWord (record { ready = false })) Round.Second) same in
      goes_down c i a b (record {
        long_before = refl;
        long_after = refl;
        less = omega arith;
        gates_kept = omega arith;
        owes = keeps_turns c i a b (grind (arith, it.0));
      })

  pub drops : (n : AfterCallbacks) → closes_callbacks n ≡ false → has_callbacks me d ≡ false → (e : Desk) → DropsTo n (after_callbacks (ring_size c) i s n e)
  drops AfterCallbacks.Look still none e = looks (is_of_pool s i) refl
  drops AfterCallbacks.Test still none e = tests (is_of_pool s i) refl none
  drops AfterCallbacks.Begin still none e = grind arith
  drops AfterCallbacks.Drain still none e = absurd (true≢false still)
  drops AfterCallbacks.Finish still none e = absurd (true≢false still)
