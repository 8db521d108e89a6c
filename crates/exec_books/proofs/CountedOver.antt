-- A worker that has ended has nothing after an event of a worker that hadn't.
use Rattle.std.proofs.{Common.{◌≡◌, ◌≢◌, ℕ, ◌<◌, ◌&&◌, Bool, true, false, not, length, refl, sym, ap, ◌∙◌, subst, inl, inr, arith}, lemmas.Bool.{true≢false, eqb-true, ne_eqb}}
use Rattle.exec_machine.specs.{declared.{config.Configuration.Configuration, event.Event.{Event, Event as event}, state.Sleeper.Sleeper}, After.after, Allowed.Allowed, Choice.Choice, Closing.gone_with, Tests.{has_ended, is_asleep}, World.{Own as Books, World, no_sleeper, own_of, seat_of, sleeper_of}}
use Rattle.exec_rest.proofs.Events.{seats_after}
use Rattle.exec_books.{specs.Booked.IsBooked, proofs.{CountedFresh.each_sleeper, CountedOwn.{other_own, own_own}, CountedTurns.each_map}}

not_for : (a f r : Bool) → a ≡ false → (a && not f && not r) ≡ false
not_for a f r is = rw is refl

nobody : (i : ℕ) → is_asleep i no_sleeper ≡ false
nobody = grind arith

-- who ends takes its sleepers with it
gone_awake : (i : ℕ) (x : Sleeper) → is_asleep i (gone_with i x) ≡ false
gone_awake = grind arith

module _ (c : Configuration) (w : World) (i : ℕ) (choice : Choice) (owns : length w.workers ≡ length w.common.seats) (here : i < length w.common.seats) (held : IsBooked w) where
  abbrev HasNone : World → ℕ → Type 0
  HasNone v j = ((own_of v j).unreleased ≡ 0) × ((z : ℕ) → is_asleep j (sleeper_of v.common z) ≡ false)

  by_end : Allowed c (own_of w i) w.common i event.End choice → HasNone (after c w i event.End choice) i
  by_end may = (
    ap (λ (x : Books). x.unreleased) (own_own c w i event.End choice (omega (arith, owns, here))) ∙ eqb-true (own_of w i).unreleased 0 may.1.1.1.0,
    λ z. each_map no_sleeper (λ x y. is_asleep i y ≡ false) (gone_with i) (gone_awake i) (nobody i) w.common.sleepers z,
  )

  by_another : (e : Event) → Allowed c (own_of w i) w.common i e choice → (j : ℕ) → j ≢ i → HasNone w j → HasNone (after c w i e choice) j
  by_another = grind (arith, other_own, each_sleeper, not_for, ne_eqb)

  -- It has to be told that the worker itself hasn't ended: no test of an event says so.
  pub over_live : (e : Event) → Allowed c (own_of w i) w.common i e choice → has_ended (seat_of w.common i).phase ≡ false
      → (j : ℕ) → has_ended (seat_of (after c w i e choice).common j).phase ≡ true → HasNone (after c w i e choice) j
  over_live e may live j over = elim ((seats_after c (own_of w i) w.common i e choice j).ended over) [
    | inl before ↦ by_another e may j (λ is. true≢false (sym before ∙ ap (λ n. has_ended (seat_of w.common n).phase) is ∙ live)) (held.over j before)
    | inr is ↦ subst (λ n. HasNone (after c w i e choice) n) (sym is.0)
        (subst (λ x. HasNone (after c w i x choice) i) (sym is.1) (by_end (subst (λ x. Allowed c (own_of w i) w.common i x choice) is.1 may)))
  ]
