-- What the steps of a pick are to the machine.
use Rattle.std.proofs.{Common.{◌≡◌, ℕ, Bool, List, [], ◌∷◌, Option, refl, sym, ap, subst, ◌∙◌, true, false, ◌-◌, arith, if◌then◌else◌, nat_le}, lemmas.List.length-map}
use Rattle.exec_task.specs.declared.body.Said.{Said}
use Rattle.exec_machine.specs.{declared.{config.Configuration.Configuration, event.Event.{Event, TheVariants.Turn}}, Choice.Choice.Plain}
use Rattle.exec_moves.specs.{declared.{handing.{AfterPop.AfterPop, First.First, InPop.InPop}, place.{Place.Place, InPick.InPick}}, Parts.{first_pop, has_others}, Pick.{after_empty_look, count_down, load_head, load_mirror, one_pick_less}, State.{Moved, Own, queue_of, turns}, Thing.with_global}
use Rattle.exec_parts.specs.{Tests.first_pick_of, Roles.is_pool, declared.parts.{shared.Shared.Shared, worker.Worker.Worker}, Spots.Spot, View.{desk_of, things_of, things_with}, Things.{Makes, Goes}}
use Rattle.exec_invariants.{proofs.{Showing.own_queue_seen, DedicatedSeen.pool_seen, Aside.{loaded, went}, Turning.{GoesOn, Keeps, Lands, by_hand, lands_either, queue_back_again}}, specs.{Kinds.Kind, Sound.SoundAt, Works.Steps}}

module _ {B : Type 0} where
  -- the first step of a pop is of the kind of a pick
  pub lands_pop : (q : Place) (c : Configuration) (f : First) (w : Worker) (s : Shared B) → Lands q (Place.Pick InPick.CountDown) w s → Lands q (first_pop c (AfterPop.Pick f)) w s
  lands_pop q c f w s h =
      lands_either q (has_others c) (Place.Pop InPop.LoadPopHead (AfterPop.Pick f)) (Place.Pop InPop.PopAlone (AfterPop.Pick f)) w s
      (record { same = h.same; queue = h.queue; aims = tt; batch = h.batch }) (record { same = h.same; queue = h.queue; aims = tt; batch = h.batch })

  -- what follows where the global queue was empty
  pub lands_look : (q : Place) (c : Configuration) (f : First) (w : Worker) (s : Shared B) → Lands q (Place.Pick InPick.CountDown) w s → Lands q (after_empty_look c f) w s
  lands_look q c First.Own w s h = record { same = ap (λ (k : Kind). record k { pooled = false }) h.same; queue = h.queue; aims = tt; batch = h.batch }
  lands_look q c First.Global w s h = lands_pop q c First.Global w s h

  plain : (q : Place) (w : Worker) (s : Shared B) → Lands q (Place.Pick InPick.CountDown) w s → (f : First) → Lands q (Place.Pick (InPick.LoadHead f)) w s
  plain q w s h f = record { same = h.same; queue = h.queue; aims = tt; batch = h.batch }

module _ {B L : Type 0} (left : B → L) (spot : L → Option Said → Spot) (w w' : Worker) (s : Shared B) (e : Event) where
  pub turn_begun : SoundAt Place.BeginTurn w s → e ≡ Turn → w' ≡ record w { place = first_pick_of w; picks = 64 } → Steps left spot w s e w' s
  turn_begun sound turn goes = by (is_pool w.role) refl
    where
      m : Place → Moved Own
      m p = turns p (record (desk_of w) { picks = 64 }) tt

      to : (p : Place) → first_pick_of w ≡ p → Lands Place.BeginTurn p w s → Steps left spot w s e w' s
      to p is lands =
          let gone : w' ≡ record w { place = p; picks = 64 } = goes ∙ ap (λ x. record w { place = x; picks = 64 }) is in
          went left spot Place.BeginTurn w w' s e (m p) sound (record { event = turn; desk = ap desk_of gone })
          (by_hand w w' s.clock sound.time (subst (λ v. v ≡ record w { place = v.place; countdown = v.countdown; picks = v.picks; searching = v.searching; rng = v.rng; root_ready = v.root_ready; hand = v.hand; loot = v.loot }) (sym gone) refl))
          (subst (Keeps w) (sym gone) (record { root_ready = refl; hand = refl; loot = refl; searching = refl })) refl refl
          lands refl refl refl
          (λ p0 vs suits. ap (λ x. record { event = Turn; choice = Plain; desk = record (desk_of w) { place = x; picks = 64 }; thing = things_with vs s })
          (ap (λ b. if b then Place.Pick InPick.CountDown else Place.TakeRootFlag) (pool_seen left spot p0 vs Place.BeginTurn w s sound suits) ∙ is))

      by : (b : Bool) → is_pool w.role ≡ b → Steps left spot w s e w' s
      by true pool = to (Place.Pick InPick.CountDown) (rw pool refl) (record { same = rw pool refl; queue = sound.queue; aims = tt; batch = sound.batch })
      by false apart = to Place.TakeRootFlag (rw apart refl) (record { same = refl; queue = sound.queue; aims = tt; batch = sound.batch })

  pub mirror_loaded : (f : First) → SoundAt (Place.Pick (InPick.LoadMirror f)) w s → Makes (load_mirror s.config f (desk_of w) (things_of s).global) e w' → Goes w w' → Steps left spot w s e w' s
  mirror_loaded f sound makes goes = by (things_of s).global refl
    where
      begins : Lands (Place.Pick (InPick.LoadMirror f)) (Place.Pick InPick.CountDown) w s
      begins = record { same = refl; queue = sound.queue; aims = tt; batch = sound.batch }

      by : (global : List ℕ) → (things_of s).global ≡ global → Steps left spot w s e w' s
      by [] is =
          let m = load_mirror s.config f (desk_of w) [] in
          loaded left spot (Place.Pick (InPick.LoadMirror f)) w w' s e m sound (subst (λ g. Makes (load_mirror s.config f (desk_of w) g) e w') is makes) goes refl refl (lands_look (Place.Pick (InPick.LoadMirror f)) s.config f w s begins) refl refl refl
          (λ p vs suits.
          rw (← suits.config)
          (ap (λ g. with_global (things_with vs s) (load_mirror s.config f (desk_of w) g)) is
          ∙ ap (λ g. record { event = m.event; choice = m.choice; desk = m.desk; thing = record (things_with vs s) { global = g } }) (sym is)))
      by (t ∷ ts) is =
          let m = load_mirror s.config f (desk_of w) (t ∷ ts) in
          loaded left spot (Place.Pick (InPick.LoadMirror f)) w w' s e m sound (subst (λ g. Makes (load_mirror s.config f (desk_of w) g) e w') is makes) goes refl refl (plain (Place.Pick (InPick.LoadMirror f)) w s begins f) refl refl refl
          (λ p vs suits.
          rw (← suits.config)
          (ap (λ g. with_global (things_with vs s) (load_mirror s.config f (desk_of w) g)) is
          ∙ ap (λ g. record { event = m.event; choice = m.choice; desk = m.desk; thing = record (things_with vs s) { global = g } }) (sym is)))

  pub counted_down : SoundAt (Place.Pick InPick.CountDown) w s → Makes (count_down s.config (desk_of w)) e w' → w' ≡ record w { place = w'.place; countdown = w'.countdown; picks = w.picks - 1 } → Steps left spot w s e w' s
  counted_down sound makes same = by (nat_le w.countdown 1) refl
    where
      on : GoesOn w w' s.clock
      on = by_hand w w' s.clock sound.time (subst (λ v. v ≡ record w { place = v.place; countdown = v.countdown; picks = v.picks; searching = v.searching; rng = v.rng; root_ready = v.root_ready; hand = v.hand; loot = v.loot }) (sym same) refl)

      keeps : Keeps w w'
      keeps = subst (Keeps w) (sym same) (record { root_ready = refl; hand = refl; loot = refl; searching = refl })

      begins : Lands (Place.Pick InPick.CountDown) (Place.Pick InPick.CountDown) w s
      begins = record { same = refl; queue = sound.queue; aims = tt; batch = sound.batch }

      looks : Moved Own
      looks = turns (Place.Pick (InPick.LoadMirror First.Global)) (record (one_pick_less (desk_of w)) { countdown = s.config.interval }) tt

      picks : Moved Own
      picks = turns (first_pop s.config (AfterPop.Pick First.Own)) (record (one_pick_less (desk_of w)) { countdown = w.countdown - 1 }) tt

      by : (b : Bool) → nat_le w.countdown 1 ≡ b → Steps left spot w s e w' s
      by true is =
          went left spot (Place.Pick InPick.CountDown) w w' s e looks sound (subst (λ b. Makes (if b then looks else picks) e w') is makes) on keeps refl refl
          (record { same = refl; queue = sound.queue; aims = tt; batch = sound.batch }) refl refl refl (λ p vs suits. rw (← suits.config, is) refl)
      by false is =
          went left spot (Place.Pick InPick.CountDown) w w' s e picks sound (subst (λ b. Makes (if b then looks else picks) e w') is makes) on keeps refl refl
          (lands_pop (Place.Pick InPick.CountDown) s.config First.Own w s begins) refl refl refl (λ p vs suits. rw (← suits.config, is) refl)

  pub head_loaded : (f : First) → SoundAt (Place.Pick (InPick.LoadHead f)) w s → Makes (load_head f (desk_of w) (queue_of (things_of s) w.index)) e w' → Goes w w' → Steps left spot w s e w' s
  head_loaded f sound makes goes =
      let m = load_head f (desk_of w) (queue_of (things_of s) w.index) in
      loaded left spot (Place.Pick (InPick.LoadHead f)) w w' s e m sound makes goes refl refl
      (record { same = refl; queue = λ chair there. (sound.queue chair there, rw (own_queue_seen w.index s chair there, length-map) (omega arith)); aims = tt; batch = sound.batch }) refl refl refl
      (λ p vs suits. ap (λ x. record { event = Turn; choice = Plain; desk = m.desk; thing = x }) (queue_back_again w.index (things_with vs s)))
