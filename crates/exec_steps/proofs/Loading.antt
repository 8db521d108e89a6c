-- What the steps of the loads are to the machine.
use Rattle.std.proofs.Common.{Option, refl, ap}
use Rattle.exec_task.specs.declared.body.Said.{Said}
use Rattle.exec_machine.specs.{declared.event.Event.{Event, TheVariants.Turn}, Choice.Choice.Plain}
use Rattle.exec_moves.specs.{declared.place.{Found.Found, Round.Round, InLoads.InLoads, Place.Place}, Load.{load_own_head, load_own_mirror, load_own_word}, State.{queue_of, word_of}}
use Rattle.exec_parts.specs.{declared.parts.{shared.Shared.Shared, worker.Worker.Worker}, Spots.Spot, View.{own_of, desk_of, things_of, things_with}, Things.{Makes, Goes}}
use Rattle.exec_invariants.{specs.{Sound.SoundAt, Works.Steps}, proofs.{Aside.loaded, Turning.{queue_back_again, word_back_again}}}

module _ {B L : Type 0} (left : B → L) (spot : L → Option Said → Spot) (w w' : Worker) (s : Shared B) (e : Event) where
  pub own_head_loaded : (r : Round) → SoundAt (Place.Loads InLoads.LoadOwnHead r) w s → Makes (load_own_head r (desk_of w) (queue_of (things_of s) w.index)) e w' → Goes w w' → Steps left spot w s e w' s
  own_head_loaded r sound makes goes =
      let m = load_own_head r (desk_of w) (queue_of (things_of s) w.index) in
      loaded left spot (Place.Loads InLoads.LoadOwnHead r) w w' s e m sound makes goes refl refl (record { same = refl; queue = sound.queue; aims = tt; batch = sound.batch }) refl refl refl
      (λ p vs suits. ap (λ x. record { event = Turn; choice = Plain; desk = m.desk; thing = x }) (queue_back_again w.index (things_with vs s)))

  pub own_mirror_loaded : (r : Round) (f : Found) → SoundAt (Place.Loads (InLoads.LoadOwnMirror f) r) w s → Makes (load_own_mirror r f (desk_of w) (things_of s).global) e w' → Goes w w' → Steps left spot w s e w' s
  own_mirror_loaded r f sound makes goes =
      loaded left spot (Place.Loads (InLoads.LoadOwnMirror f) r) w w' s e (load_own_mirror r f (desk_of w) (things_of s).global) sound makes goes refl refl (record { same = refl; queue = sound.queue; aims = tt; batch = sound.batch }) refl refl refl (λ p vs suits. refl)

  pub own_word_loaded : (r : Round) (f : Found) → SoundAt (Place.Loads (InLoads.LoadOwnWord f) r) w s → Makes (load_own_word (own_of w) r f (desk_of w) (word_of (things_of s) w.index)) e w' → Goes w w' → Steps left spot w s e w' s
  own_word_loaded Round.First f sound makes goes =
      let m = load_own_word (own_of w) Round.First f (desk_of w) (word_of (things_of s) w.index) in
      loaded left spot (Place.Loads (InLoads.LoadOwnWord f) Round.First) w w' s e m sound makes goes refl refl (record { same = refl; queue = sound.queue; aims = tt; batch = sound.batch }) refl refl refl
      (λ p vs suits. ap (λ x. record { event = Turn; choice = Plain; desk = m.desk; thing = x }) (word_back_again w.index (things_with vs s)))
  own_word_loaded Round.Second f sound makes goes =
      let m = load_own_word (own_of w) Round.Second f (desk_of w) (word_of (things_of s) w.index) in
      loaded left spot (Place.Loads (InLoads.LoadOwnWord f) Round.Second) w w' s e m sound makes goes refl refl (record { same = refl; queue = sound.queue; aims = tt; batch = sound.batch }) refl refl refl
      (λ p vs suits. ap (λ x. record { event = Turn; choice = Plain; desk = m.desk; thing = x }) (word_back_again w.index (things_with vs s)))
