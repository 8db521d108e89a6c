-- Where a closing worker goes on once it has let go of a request, as the machine's worker finds it by its slots.
use Rattle.std.proofs.{Common.{◌≡◌, ◌≢◌, ℕ, ◌+◌, ◌==◌, ◌&&◌, Bool, true, false, not, Option, Some, None, IsSome, refl, sym, ap, ◌∙◌, arith}, lemmas.Bool.{eq-eqb, false≢true}, Math.Bool.and-false}
use Rattle.exec_base.specs.{Slab.value_at, declared.slab.Id.Id}
use Rattle.exec_waiters.specs.{Events.IsFirstHeld, States.{is_held, is_held_at}, declared.waiter.Entry.Entry}
use Rattle.exec_driver.specs.Driving.{Driving}
use Rattle.exec_task.specs.declared.body.Said.{Said}
use Rattle.exec_machine.specs.{Progress.Plan, World.request_of}
use Rattle.exec_moves.specs.{declared.place.Place.Place, Close.{after_letting_go, first_asleep, held_after}}
use Rattle.exec_parts.{specs.{declared.parts.{mail.Reply.Reply, shared.Shared.Shared, worker.Worker.Worker}, Ending.ClosesOn, Records.number_in, Spots.Spot, View.{Views, common_of, desk_of, driver_of}}, proofs.Facts.{by_name, not_same}}
use Rattle.exec_invariants.{specs.Sound.SoundAt, proofs.{LetsNext.{first_found, first_none, live_value, named_at, none_asleep, number_at, observed_in, some_asleep}, Slotted.live_at}}

module _ {B L : Type 0} (left : B → L) (spot : L → Option Said → Spot) (p : Plan) (vs : Views) (q : Place) (w : Worker) (s : Shared B) (sound : SoundAt q w s) (id : Id) (there : IsSome (value_at (driver_of w).requests id)) (d' : Driving Reply Reply) where
  -- of its requests one is free, or held by nobody, and the others stay
  pub record LetsOne : Type 0 where
    pub others : (other : Id) → other ≢ id → value_at d'.requests other ≡ value_at (driver_of w).requests other
    pub this : is_held_at (value_at d'.requests id) ≡ false

  abbrev k : ℕ
  k = number_in w.names.requests.items id

  abbrev observed : ℕ → Bool
  observed r = (request_of (common_of left spot p vs s) r).observed

  abbrev test : ℕ → Bool
  test r = not (r == k) && observed r

  -- no two slots have one number
  apart : (other : Id) (e : Entry Reply Reply) → value_at (driver_of w).requests other ≡ Some e → other ≢ id → number_in w.names.requests.items other ≢ k
  apart = grind arith

  -- one that nobody holds then doesn't pass
  unheld : LetsOne → (other : Id) (e : Entry Reply Reply) → value_at (driver_of w).requests other ≡ Some e → is_held_at (value_at d'.requests other) ≡ false → test (number_in w.names.requests.items other) ≡ false
  unheld lets other e at none =
      by_name other id
      (λ differs.
      let is : is_held e ≡ false = sym (ap is_held_at (lets.others other differs ∙ at)) ∙ none in
      ap (λ b. not (number_in w.names.requests.items other == k) && b) (observed_in left spot p vs q w s sound other e at ∙ is) ∙ and-false (not (number_in w.names.requests.items other == k)))
      (λ same. ap (λ b. not b && observed (number_in w.names.requests.items other)) (ap (λ x. number_in w.names.requests.items x == k) same ∙ eq-eqb k k refl))

  held_passes : LetsOne → (other : Id) (e : Entry Reply Reply) → value_at (driver_of w).requests other ≡ Some e → other ≢ id → is_held e ≡ true → test (number_in w.names.requests.items other) ≡ true
  held_passes lets other e at differs held = grind (arith, not_same (number_in w.names.requests.items other) k (apart other e at differs), observed_in left spot p vs q w s sound other e at, held)

  zero_on : (j : ℕ) (b : Bool) → test (number_at w.names.requests.items j) ≡ b → test (number_at w.names.requests.items (0 + j)) ≡ b
  zero_on j b is = ap (λ n. test (number_at w.names.requests.items n)) (let e : 0 + j ≡ j = omega arith in e) ∙ is

  next_none : LetsOne → ((other : Id) → is_held_at (value_at d'.requests other) ≡ false) → held_after k (common_of left spot p vs s) (desk_of w) ≡ None
  next_none lets none =
      first_none test w.names.requests.items 0 (driver_of w).requests.slots
      (λ j g e at. zero_on j false (unheld lets (named_at j g) e (live_value (driver_of w).requests j g e at) (none (named_at j g))))

  next_found : LetsOne → (other : Id) → IsFirstHeld d'.requests other → held_after k (common_of left spot p vs s) (desk_of w) ≡ Some (number_in w.names.requests.items other)
  next_found lets other first = by (value_at (driver_of w).requests other) refl
    where
      differs : other ≢ id
      differs same = false≢true (sym lets.this ∙ ap (λ x. is_held_at (value_at d'.requests x)) (sym same) ∙ first.held)

      by : (o : Option (Entry Reply Reply)) → value_at (driver_of w).requests other ≡ o → held_after k (common_of left spot p vs s) (desk_of w) ≡ Some (number_in w.names.requests.items other)
      by None at = absurd (false≢true (sym (ap is_held_at (lets.others other differs ∙ at)) ∙ first.held))
      by (Some e) at =
          let held : is_held e ≡ true = sym (ap is_held_at (lets.others other differs ∙ at)) ∙ first.held in
          first_found test w.names.requests.items 0 (driver_of w).requests.slots other.index other.generation e (live_at (driver_of w).requests other e at) (zero_on other.index true (held_passes lets other e at differs held))
          (λ j g x less at_j. zero_on j false (unheld lets (named_at j g) x (live_value (driver_of w).requests j g x at_j) (first.none_before (named_at j g) less)))
          ∙ ap (λ n. Some (number_at w.names.requests.items n)) (let e : 0 + other.index ≡ other.index = omega arith in e)

  pub orphan_goes : LetsOne → (next : Place) → ClosesOn d' w.home.timers next → after_letting_go (held_after k (common_of left spot p vs s) (desk_of w)) (first_asleep w.index (common_of left spot p vs s) (desk_of w)) ≡ next
  orphan_goes lets next (ClosesOn.holds other first is) =
      ap (λ o. after_letting_go o (first_asleep w.index (common_of left spot p vs s) (desk_of w))) (next_found lets other first) ∙ sym is
  orphan_goes lets next (ClosesOn.sleeps none some is) = grind (arith, next_none lets none, (some_asleep left spot p vs q w s sound some).1, is)
  orphan_goes lets next (ClosesOn.nothing none gone is) = grind (arith, next_none lets none, none_asleep left spot p vs q w s sound gone, is)
