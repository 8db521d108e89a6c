-- The beginning of a turn, its picks, and the root flag.
use Rattle.std.{proofs.Common.{◌≡◌, ℕ, ◌-◌, Bool, true, false, List, [], ◌∷◌, if◌then◌else◌, refl, arith}, specs.Prelude.nat_le}
use Rattle.exec_machine.specs.{declared.{config.Configuration.Configuration, event.Event.Event as event}, World.{Common, Own as Books}}
use Rattle.exec_moves.specs.{declared.{handing.{AfterCallbacks.AfterCallbacks, AfterPop.AfterPop, First.First, InPop.InPop}, place.{InCallbacks.InCallbacks, InPick.InPick, Place.Place}}, Callback.is_of_pool, Parts.{first_pop, has_others, polls}, Pick.{after_empty_look, one_pick_less, picks_of_turn}, State.{Desk, Own, Things, turns as turning, does}, Thing.aside}
use Rattle.exec_progress.{specs.Going.{Falls, FallsAt, seen, stands}, proofs.{Steps.{Leads, leads, pop_either, same_queue, sinks}, Tools.{afterwards, before, comes_to_poll, either}, RingWaits.never}}

module _ (c : Configuration) (i : ℕ) (me : Books) (s : Common) (d : Desk) (x : Things) where
  begin_to : (q : Place) → (q ≡ Place.Pick InPick.CountDown) → Falls c i (seen Place.BeginTurn me) s (stands Place.BeginTurn d) x (aside x (turning {T = Own} q (record (stands Place.BeginTurn d) { picks = picks_of_turn }) tt))
  begin_to q is quiet = rw is (
      let m = aside x (turning {T = Own} (Place.Pick InPick.CountDown) (record (stands Place.BeginTurn d) { picks = picks_of_turn }) tt) in
      let a = before me s d x Place.BeginTurn in
      let b = afterwards c i me s Place.BeginTurn m in
      grind arith)

  -- a dedicated worker has no queue
  begin_alone : is_of_pool s i ≡ false → Falls c i (seen Place.BeginTurn me) s (stands Place.BeginTurn d) x (aside x (turning {T = Own} Place.TakeRootFlag (record (stands Place.BeginTurn d) { picks = picks_of_turn }) tt))
  begin_alone = grind arith

  pub begins : FallsAt c i me s d x Place.BeginTurn
  begins it = by (is_of_pool s i) refl
    where
      by : (v : Bool) → is_of_pool s i ≡ v → Falls c i (seen Place.BeginTurn me) s (stands Place.BeginTurn d) x
          (aside x (turning {T = Own} (if v then Place.Pick InPick.CountDown else Place.TakeRootFlag) (record (stands Place.BeginTurn d) { picks = picks_of_turn }) tt))
      by true h = begin_to (Place.Pick InPick.CountDown) refl
      by false h = begin_alone h

  pub takes_flag : FallsAt c i me s d x Place.TakeRootFlag
  takes_flag it =
      either c i (seen Place.TakeRootFlag me) s (stands Place.TakeRootFlag d) x (aside x) d.root_ready
      (does {T = Own} event.Turn (polls me.root (record (stands Place.TakeRootFlag d) { root_ready = false })) tt) (turning {T = Own} (Place.Callbacks InCallbacks.TakeBatch AfterCallbacks.Look) (stands Place.TakeRootFlag d) tt)
      (λ h quiet. comes_to_poll c i (before me s d x Place.TakeRootFlag) (afterwards c i me s Place.TakeRootFlag (aside x (does {T = Own} event.Turn (polls me.root (record (stands Place.TakeRootFlag d) { root_ready = false })) tt)))
      me.root (record (stands Place.TakeRootFlag d) { root_ready = false }) refl (omega arith))
      (λ h quiet.
      let m = aside x (turning {T = Own} (Place.Callbacks InCallbacks.TakeBatch AfterCallbacks.Look) (stands Place.TakeRootFlag d) tt) in
      let a = before me s d x Place.TakeRootFlag in
      let b = afterwards c i me s Place.TakeRootFlag m in
      grind arith)

  -- THE PICKS

  counts_down : FallsAt c i me s d x (Place.Pick InPick.CountDown)
  counts_down it =
      let p = Place.Pick InPick.CountDown in
      let a = before me s d x p in
      let far = record (one_pick_less (stands p d)) { countdown = c.interval } in
      let near = record (one_pick_less (stands p d)) { countdown = d.countdown - 1 } in
      let To = λ (e : Desk) (q : Place). Falls c i (seen p me) s (stands p d) x (aside x (turning {T = Own} q e tt)) in
      let at = λ (e : Desk) (q : Place). afterwards c i me s p (aside x (turning {T = Own} q e tt)) in
      let pop = λ (q : InPop). at near (Place.Pop q (AfterPop.Pick First.Own)) in
      either c i (seen p me) s (stands p d) x (aside x) (nat_le d.countdown 1)
      (turning {T = Own} (Place.Pick (InPick.LoadMirror First.Global)) far tt) (turning {T = Own} (first_pop c (AfterPop.Pick First.Own)) near tt)
      (λ h quiet. sinks c i a (at far (Place.Pick (InPick.LoadMirror First.Global))) refl refl (omega arith) (omega arith)
      (record { kept = λ k. omega (arith, k); wanted_kept = λ k l. omega (arith, l); others_kept = λ k. omega arith; spun_kept = λ k. omega arith }))
      (λ h. pop_either (To near) (AfterPop.Pick First.Own) (has_others c)
      (λ quiet. sinks c i a (pop InPop.LoadPopHead) refl refl (omega arith) (omega arith)
      (record { kept = λ k. omega (arith, k); wanted_kept = λ k l. omega (arith, l); others_kept = λ k. omega arith; spun_kept = λ k. omega arith }))
      (λ quiet. sinks c i a (pop InPop.PopAlone) refl refl (omega arith) (omega arith)
      (record { kept = λ k. omega (arith, k); wanted_kept = λ k l. omega (arith, l); others_kept = λ k. omega arith; spun_kept = λ k. omega arith })))

  -- with these tasks in the global queue
  abbrev bare : Things
  bare = record x { global = [] }

  abbrev full : ℕ → List ℕ → Things
  full t global = record x { global = t ∷ global }

  -- nothing is in the global queue
  bare_mirror : (f : First) → Leads c i me s d bare (Place.Pick (InPick.LoadMirror f)) (after_empty_look c f) bare
  bare_mirror First.Own = grind (arith, leads, never)
  bare_mirror First.Global =
      pop_either (λ q. Leads c i me s d bare (Place.Pick (InPick.LoadMirror First.Global)) q bare) (AfterPop.Pick First.Global) (has_others c)
      (leads c i me s d bare (Place.Pick (InPick.LoadMirror First.Global)) (Place.Pop InPop.LoadPopHead (AfterPop.Pick First.Global)) bare refl refl (omega arith) (omega arith)
      (record { kept = λ k. omega (arith, k, never (is_of_pool s i)); wanted_kept = λ k l. omega (arith, l); others_kept = λ k. omega arith; spun_kept = λ k. omega arith }))
      (leads c i me s d bare (Place.Pick (InPick.LoadMirror First.Global)) (Place.Pop InPop.PopAlone (AfterPop.Pick First.Global)) bare refl refl (omega arith) (omega arith)
      (record { kept = λ k. omega (arith, k, never (is_of_pool s i)); wanted_kept = λ k l. omega (arith, l); others_kept = λ k. omega arith; spun_kept = λ k. omega arith }))

  bare_share : (f : First) (room held : ℕ) → Leads c i me s d bare (Place.Pick (InPick.TakeShare f room held)) (after_empty_look c f) bare
  bare_share First.Own room held = grind (arith, leads, never)
  bare_share First.Global room held =
      pop_either (λ q. Leads c i me s d bare (Place.Pick (InPick.TakeShare First.Global room held)) q bare) (AfterPop.Pick First.Global) (has_others c)
      (leads c i me s d bare (Place.Pick (InPick.TakeShare First.Global room held)) (Place.Pop InPop.LoadPopHead (AfterPop.Pick First.Global)) bare refl refl (omega arith) (omega arith)
      (record { kept = λ k. omega (arith, k, never (is_of_pool s i)); wanted_kept = λ k l. omega (arith, l); others_kept = λ k. omega arith; spun_kept = λ k. omega arith }))
      (leads c i me s d bare (Place.Pick (InPick.TakeShare First.Global room held)) (Place.Pop InPop.PopAlone (AfterPop.Pick First.Global)) bare refl refl (omega arith) (omega arith)
      (record { kept = λ k. omega (arith, k, never (is_of_pool s i)); wanted_kept = λ k l. omega (arith, l); others_kept = λ k. omega arith; spun_kept = λ k. omega arith }))

  full_mirror : (f : First) (t : ℕ) (global : List ℕ) → Leads c i me s d (full t global) (Place.Pick (InPick.LoadMirror f)) (Place.Pick (InPick.LoadHead f)) (full t global)
  full_mirror = grind arith

  loads_mirror : (f : First) (global : List ℕ) → FallsAt c i me s d (record x { global = global }) (Place.Pick (InPick.LoadMirror f))
  loads_mirror f [] it = bare_mirror f
  loads_mirror f (t ∷ global) it = full_mirror f t global

  head_loaded : (f : First) (room held : ℕ) → Leads c i me s d x (Place.Pick (InPick.LoadHead f)) (Place.Pick (InPick.TakeShare f room held)) x
  head_loaded = grind arith

  loads_head : (f : First) → FallsAt c i me s d x (Place.Pick (InPick.LoadHead f))
  loads_head = grind (arith, same_queue, head_loaded)

  shares : (f : First) (room held : ℕ) (global : List ℕ) → FallsAt c i me s d (record x { global = global }) (Place.Pick (InPick.TakeShare f room held))
  shares f room held [] it = grind (arith, same_queue, bare_share)
  shares f room held (t ∷ global) it = grind arith

  pub picks : (p : InPick) → FallsAt c i me s d x (Place.Pick p)
  picks InPick.CountDown = counts_down
  picks (InPick.LoadMirror f) = loads_mirror f x.global
  picks (InPick.LoadHead f) = loads_head f
  picks (InPick.TakeShare f room held) = shares f room held x.global
