-- The callbacks: a quiet one uses up what is left in them.
use Rattle.std.{proofs.{Common.{◌≡◌, ℕ, ◌+◌, ◌-◌, ◌≤◌, ◌<◌, Bool, true, false, not, ◌&&◌, ◌||◌, if◌then◌else◌, List, [], ◌∷◌, drop, Option, Some, None, refl, sym, ap, ◌∙◌, arith}, lemmas.Bool.{true≢false, false≢true, ltb-true}}, specs.Prelude.nat_lt}
use Rattle.exec_machine.specs.{declared.{config.Configuration.Configuration, event.Event.TheVariants.Turn}, Choice.Choice.Plain, After.{own_after, common_after}, Ranges.ring_size, Tests.{is_done, is_empty}, World.{Common, Own as Books, request_of, sleeper_of, task_of}}
use Rattle.exec_moves.specs.{declared.{handing.{AfterCallbacks.AfterCallbacks, AfterLeave.AfterLeave, Heard.Heard}, place.{InCallbacks.InCallbacks, InLoads.InLoads, Round.Round, Place.Place}}, Callback.{Item, Item.{Answers, Completes, LetsGo, Nothing, Releases, Wakes}, after_callbacks, first_of, has_callbacks, is_of_pool, next_callback, tells_waiter}, Counts.one_if, Move.{move_at, move_item}, State.{Desk, Things}, Told.in_order}
use Rattle.exec_progress.{specs.{Going.{Falls, FallsAt, closes_callbacks, seen, stands}, Owed.{calling_back, has_wakes, quiet_items, stage_of_callbacks}, Ranks.{below_callbacks, in_callbacks}}, proofs.Tools.{Now, before, goes_down, keeps_turns, left}}

-- WHAT IS LEFT IN THE CALLBACKS

none_of : (a b e f g : Bool) → (a || b || e || f || g) ≡ false → ((a || e) ≡ false) × ((b ≡ false) × ((f ≡ false) × (g ≡ false)))
none_of = grind arith

parts : (me : Books) (d : Desk) → has_callbacks me d ≡ false
    → (has_wakes me d ≡ false) × ((nat_lt 0 d.outputs ≡ false) × ((not (is_empty d.completions) ≡ false) × (not (is_empty d.results) ≡ false)))
parts me d h = none_of (not (is_empty d.wakes)) (nat_lt 0 d.outputs) (not (is_empty me.ended)) (not (is_empty d.completions)) (not (is_empty d.results)) h

nothing_left : (me : Books) (d : Desk) → has_callbacks me d ≡ false → quiet_items d ≡ 0
nothing_left = grind arith

one_completion : (d : Desk) (z : ℕ) (zs : List ℕ) → d.completions ≡ z ∷ zs → quiet_items (record d { completions = drop 1 d.completions }) + 1 ≡ quiet_items d
one_completion d z zs h =
    omega (arith, ap (λ l. quiet_items (record d { completions = drop 1 l })) h, ap (λ l. quiet_items (record d { completions = l })) h)

one_result : (d : Desk) (r : ℕ) (rs : List ℕ) → d.results ≡ r ∷ rs → quiet_items (record d { results = drop 1 d.results }) + 1 ≡ quiet_items d
one_result d r rs h =
    omega (arith, ap (λ l. quiet_items (record d { results = drop 1 l })) h, ap (λ l. quiet_items (record d { results = l })) h)

-- those that don't close
open_stage : (n : AfterCallbacks) → closes_callbacks n ≡ false → nat_lt (stage_of_callbacks n) calling_back ≡ false
open_stage = grind arith

low : (w : ℕ) (n : AfterCallbacks) (p : InCallbacks) → below_callbacks w n < in_callbacks w n p
low = grind arith

module _ (c : Configuration) (i : ℕ) (me : Books) (s : Common) (d : Desk) (x : Things) where
  -- a turn that leads to place q, with what is left then
  abbrev leaves : ℕ → List ℕ → List ℕ → Desk
  leaves k zs rs = record d { outputs = k; completions = zs; results = rs }

  abbrev later : Place → ℕ → List ℕ → List ℕ → Things → Place → Now
  later p k zs rs y q =
      record { me = own_after c (seen p me) s i Turn Plain; s = common_after c (seen p me) s i Turn Plain; d = record (stands p d) { outputs = k; completions = zs; results = rs; place = q }; x = y }

  abbrev told : List ℕ → List ℕ → Things
  told answers alarms = record x { answers = answers; alarms = alarms }

  abbrev Leads : InCallbacks → AfterCallbacks → ℕ → List ℕ → List ℕ → List ℕ → List ℕ → Place → Type 0
  Leads p n k zs rs answers alarms q = left c i (later (Place.Callbacks p n) k zs rs (told answers alarms) q) < left c i (before me s d x (Place.Callbacks p n))

  -- it goes on with less
  again : (p q : InCallbacks) (n : AfterCallbacks) → closes_callbacks n ≡ false → (k : ℕ) (zs rs answers alarms : List ℕ)
      → in_callbacks c.workers n q + quiet_items (leaves k zs rs) < in_callbacks c.workers n p + quiet_items d → Leads p n k zs rs answers alarms (Place.Callbacks q n)
  again = grind (arith, before, open_stage, goes_down, keeps_turns)

  -- nothing is left in them
  to_first : (p : InCallbacks) (k : ℕ) (zs rs answers alarms : List ℕ) → has_callbacks me (leaves k zs rs) ≡ false → (v : Bool)
      → Leads p AfterCallbacks.Look k zs rs answers alarms (if v then Place.Loads InLoads.LoadOwnHead Round.First else Place.Loads (InLoads.LoadOwnWord (record { ready = false })) Round.First)
  to_first p k zs rs answers alarms off true =
      let a = before me s d x (Place.Callbacks p AfterCallbacks.Look) in
      let b = later (Place.Callbacks p AfterCallbacks.Look) k zs rs (told answers alarms) (Place.Loads InLoads.LoadOwnHead Round.First) in
      let none = nothing_left me (leaves k zs rs) off in
      grind arith
  to_first p k zs rs answers alarms off false =
      let a = before me s d x (Place.Callbacks p AfterCallbacks.Look) in
      let b = later (Place.Callbacks p AfterCallbacks.Look) k zs rs (told answers alarms) (Place.Loads (InLoads.LoadOwnWord (record { ready = false })) Round.First) in
      let none = nothing_left me (leaves k zs rs) off in
      grind arith

  to_second : (p : InCallbacks) (k : ℕ) (zs rs answers alarms : List ℕ) → has_callbacks me (leaves k zs rs) ≡ false → (v : Bool)
      → Leads p AfterCallbacks.Test k zs rs answers alarms (if v then Place.Loads InLoads.LoadOwnHead Round.Second else Place.Loads (InLoads.LoadOwnWord (record { ready = false })) Round.Second)
  to_second p k zs rs answers alarms off true =
      let a = before me s d x (Place.Callbacks p AfterCallbacks.Test) in
      let b = later (Place.Callbacks p AfterCallbacks.Test) k zs rs (told answers alarms) (Place.Loads InLoads.LoadOwnHead Round.Second) in
      let none = nothing_left me (leaves k zs rs) off in
      let no_wakes = ap one_if (parts me (leaves k zs rs) off).0 in
      let no_items = ap (λ n. one_if (nat_lt 0 n)) none in
      goes_down c i a b (record {
        long_before = refl;
        long_after = refl;
        less = omega (arith, low c.workers AfterCallbacks.Test p, none);
        gates_kept = omega arith;
        owes = keeps_turns c i a b (record { kept = λ k. omega (arith, k, no_wakes); wanted_kept = λ l k. omega (arith, k); others_kept = λ l. omega (arith, no_items); spun_kept = λ l. omega arith });
      })
  to_second p k zs rs answers alarms off false =
      let a = before me s d x (Place.Callbacks p AfterCallbacks.Test) in
      let b = later (Place.Callbacks p AfterCallbacks.Test) k zs rs (told answers alarms) (Place.Loads (InLoads.LoadOwnWord (record { ready = false })) Round.Second) in
      let none = nothing_left me (leaves k zs rs) off in
      let no_wakes = ap one_if (parts me (leaves k zs rs) off).0 in
      let no_items = ap (λ n. one_if (nat_lt 0 n)) none in
      goes_down c i a b (record {
        long_before = refl;
        long_after = refl;
        less = omega (arith, low c.workers AfterCallbacks.Test p, none);
        gates_kept = omega arith;
        owes = keeps_turns c i a b (record { kept = λ k. omega (arith, k, no_wakes); wanted_kept = λ l k. omega (arith, k); others_kept = λ l. omega (arith, no_items); spun_kept = λ l. omega arith });
      })

  ends_at : (p : InCallbacks) (n : AfterCallbacks) → closes_callbacks n ≡ false → (k : ℕ) (zs rs answers alarms : List ℕ) → has_callbacks me (leaves k zs rs) ≡ false → (e : Desk)
      → Leads p n k zs rs answers alarms (after_callbacks (ring_size c) i s n e)
  ends_at p AfterCallbacks.Look h k zs rs answers alarms off e = to_first p k zs rs answers alarms off (is_of_pool s i)
  ends_at p AfterCallbacks.Test h k zs rs answers alarms off e = to_second p k zs rs answers alarms off (is_of_pool s i)
  ends_at p AfterCallbacks.Begin h k zs rs answers alarms off e =
      let a = before me s d x (Place.Callbacks p AfterCallbacks.Begin) in
      let b = later (Place.Callbacks p AfterCallbacks.Begin) k zs rs (told answers alarms) Place.BeginTurn in
      goes_down c i a b (grind (arith, low c.workers AfterCallbacks.Begin p, nothing_left me (leaves k zs rs) off))
  ends_at p AfterCallbacks.Drain h k zs rs answers alarms off e = absurd (true≢false h)
  ends_at p AfterCallbacks.Finish h k zs rs answers alarms off e = absurd (true≢false h)

  -- with what is left
  goes_next : (p : InCallbacks) (n : AfterCallbacks) → closes_callbacks n ≡ false → (k : ℕ) (zs rs answers alarms : List ℕ) (e : Desk)
      → (has_callbacks me (leaves k zs rs) ≡ true → in_callbacks c.workers n InCallbacks.CallBack + quiet_items (leaves k zs rs) < in_callbacks c.workers n p + quiet_items d)
      → Leads p n k zs rs answers alarms (if has_callbacks me (leaves k zs rs) then Place.Callbacks InCallbacks.CallBack n else after_callbacks (ring_size c) i s n e)
  goes_next p n h k zs rs answers alarms e less = by (has_callbacks me (leaves k zs rs)) refl
    where
      by : (v : Bool) → has_callbacks me (leaves k zs rs) ≡ v → Leads p n k zs rs answers alarms (if v then Place.Callbacks InCallbacks.CallBack n else after_callbacks (ring_size c) i s n e)
      by true on = again p InCallbacks.CallBack n h k zs rs answers alarms (less on)
      by false off = ends_at p n h k zs rs answers alarms off e

  abbrev taking : AfterCallbacks → Place
  taking n = Place.Callbacks InCallbacks.TakeBatch n

  abbrev calling : AfterCallbacks → Place
  calling n = Place.Callbacks InCallbacks.CallBack n

  -- the desk there, with what is left
  abbrev at_item : AfterCallbacks → ℕ → List ℕ → List ℕ → Desk
  at_item n k zs rs = record (stands (calling n) d) { outputs = k; completions = zs; results = rs }

  -- the first step
  takes_batch : (n : AfterCallbacks) → closes_callbacks n ≡ false → Falls c i (seen (taking n) me) s (stands (taking n) d) x (move_at c i (seen (taking n) me) s (stands (taking n) d) x (taking n))
  takes_batch n h quiet = by (d.searching && has_callbacks me d)
    where
      by : (v : Bool) → left c i (later (taking n) d.outputs d.completions d.results x (if v then Place.LeaveSearch (AfterLeave.CallBack n) else next_callback (ring_size c) i me s n (stands (taking n) d)))
          < left c i (before me s d x (taking n))
      by true = grind arith
      by false = goes_next InCallbacks.TakeBatch n h d.outputs d.completions d.results x.answers x.alarms (stands (taking n) d) (λ on. omega arith)

  -- the end of an item was sent to who waits for it
  tells : (n : AfterCallbacks) → closes_callbacks n ≡ false → (k : ℕ) (zs rs answers alarms : List ℕ) → quiet_items (leaves k zs rs) + 1 ≤ quiet_items d → (w : Option ℕ) (of : Heard)
      → left c i (record (later (calling n) k zs rs (told answers alarms) (calling n)) { d = tells_waiter (ring_size c) i (seen (calling n) me) s n w of (at_item n k zs rs) }) < left c i (before me s d x (calling n))
  tells n h k zs rs answers alarms fewer None of = goes_next InCallbacks.CallBack n h k zs rs answers alarms (at_item n k zs rs) (λ on. omega (arith, fewer))
  tells n h k zs rs answers alarms fewer (Some t) of = by (is_done (task_of s t).phase)
    where
      by : (v : Bool) → left c i (record (later (calling n) k zs rs (told answers alarms) (calling n)) {
        d = if v then record (at_item n k zs rs) { place = next_callback (ring_size c) i (seen (calling n) me) s n (at_item n k zs rs) }
            else record (at_item n k zs rs) { place = Place.Callbacks (InCallbacks.WakeWaiter t of) n };
      }) < left c i (before me s d x (calling n))
      by true = goes_next InCallbacks.CallBack n h k zs rs answers alarms (at_item n k zs rs) (λ on. omega (arith, fewer))
      by false = again InCallbacks.CallBack (InCallbacks.WakeWaiter t of) n h k zs rs answers alarms (omega (arith, fewer))

  -- each in its order
  abbrev ItemFalls : AfterCallbacks → Item → Type 0
  ItemFalls n it = Falls c i (seen (calling n) me) s (stands (calling n) d) x (move_item c i (seen (calling n) me) s (stands (calling n) d) x n it)

  calls_item : (n : AfterCallbacks) → closes_callbacks n ≡ false
      → Falls c i (seen (calling n) me) s (stands (calling n) d) x (move_at c i (seen (calling n) me) s (stands (calling n) d) x (calling n))
  calls_item n h = by_wakes d.wakes refl
    where
      by_results : d.wakes ≡ [] → nat_lt 0 d.outputs ≡ false → me.ended ≡ [] → d.completions ≡ [] → (rs : List ℕ) → d.results ≡ rs → ItemFalls n (first_of rs Answers Nothing)
      by_results no_wakes no_outputs none_ended no_completions [] empty quiet =
          let off : has_callbacks me d ≡ false = rw (no_wakes, no_outputs, none_ended, no_completions, empty) refl in
          goes_next InCallbacks.CallBack n h d.outputs d.completions d.results x.answers x.alarms (stands (calling n) d) (λ on. absurd (true≢false (sym on ∙ off)))
      by_results no_wakes no_outputs none_ended no_completions (r ∷ rs) is quiet =
          tells n h d.outputs d.completions (drop 1 d.results) (in_order r x.answers) x.alarms (omega (arith, one_result d r rs is)) (request_of s r).waiter (Heard.Request r)

      by_completions : d.wakes ≡ [] → nat_lt 0 d.outputs ≡ false → me.ended ≡ [] → (zs : List ℕ) → d.completions ≡ zs → ItemFalls n (first_of zs Completes (first_of d.results Answers Nothing))
      by_completions no_wakes no_outputs none_ended [] empty = by_results no_wakes no_outputs none_ended empty d.results refl
      by_completions no_wakes no_outputs none_ended (z ∷ zs) is = λ quiet.
          tells n h d.outputs (drop 1 d.completions) d.results x.answers (in_order z x.alarms) (omega (arith, one_completion d z zs is)) (Some (sleeper_of s z).task) (Heard.Timer z)

      by_ended : d.wakes ≡ [] → nat_lt 0 d.outputs ≡ false → (es : List ℕ) → me.ended ≡ es → ItemFalls n (first_of es Releases (first_of d.completions Completes (first_of d.results Answers Nothing)))
      by_ended no_wakes no_outputs [] empty = by_completions no_wakes no_outputs empty d.completions refl
      by_ended no_wakes no_outputs (r ∷ es) is = λ quiet. absurd (false≢true quiet)

      by_outputs : d.wakes ≡ [] → (v : Bool) → nat_lt 0 d.outputs ≡ v
          → ItemFalls n (if v then LetsGo else first_of me.ended Releases (first_of d.completions Completes (first_of d.results Answers Nothing)))
      by_outputs no_wakes true some = λ quiet.
          goes_next InCallbacks.CallBack n h (d.outputs - 1) d.completions d.results x.answers x.alarms (at_item n (d.outputs - 1) d.completions d.results)
          (λ on. omega (arith, ltb-true 0 d.outputs some))
      by_outputs no_wakes false none = by_ended no_wakes none me.ended refl

      by_wakes : (ws : List ℕ) → d.wakes ≡ ws
          → ItemFalls n (first_of ws Wakes (if nat_lt 0 d.outputs then LetsGo else first_of me.ended Releases (first_of d.completions Completes (first_of d.results Answers Nothing))))
      by_wakes [] empty = by_outputs empty (nat_lt 0 d.outputs) refl
      by_wakes (t ∷ ws) is = λ quiet. absurd (false≢true quiet)

  pub calls_back : (p : InCallbacks) (n : AfterCallbacks) → FallsAt c i me s d x (Place.Callbacks p n)
  calls_back InCallbacks.TakeBatch n it = takes_batch n it.open_still
  calls_back InCallbacks.CallBack n it = calls_item n it.open_still
  calls_back (InCallbacks.WakeWaiter t of) n it = λ quiet. absurd (false≢true quiet)
