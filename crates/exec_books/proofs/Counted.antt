-- What holds of each request, and what a worker counts, after an event of a worker.
use Rattle.std.proofs.{Common.{◌≡◌, ℕ, ◌<◌, ◌==◌, Bool, true, false, length, None, refl, sym, ap, ◌∙◌, subst, inl, inr, arith}, lemmas.Bool.{true≢false, eqb-true, eqb-false}}
use Rattle.exec_machine.specs.{declared.{config.Configuration.Configuration, event.Event.Event}, After.{after, own_after}, Allowed.Allowed, Choice.Choice, Tests.{has_ended, is_asleep, is_of_file, is_resolved}, World.{Own as Books, World, own_of, request_of, seat_of, sleeper_of}}
use Rattle.exec_books.{specs.{Listed.is_in, Booked.{IsBooked, flying_of, unreleased_of}}, proofs.{CountedFlight.{flying_elsewhere, flying_here}, CountedFresh.{each_request, each_sleeper}, CountedMany.{counted_elsewhere, counted_here}, CountedOver.over_live, CountedOwn.{other_own, own_own}, CountedSeats.no_fewer_seats, CountedWithin.{sleeps_within, untold_here, whose_within}, Own.IsOwn, Spares.{no_fewer, same_worker}}}

module _ (c : Configuration) (w : World) (i : ℕ) (e : Event) (choice : Choice) (owns : length w.workers ≡ length w.common.seats) (here : i < length w.common.seats)
    (may : Allowed c (own_of w i) w.common i e choice) (own : IsOwn w.common i e) (held : IsBooked w) where
  abbrev late : World
  late = after c w i e choice

  pub timed_then : (k : ℕ) → is_resolved (request_of late.common k).phase ≡ true → (request_of late.common k).timer ≡ None
  timed_then k over = elim (each_request c (own_of w i) w.common i e choice may k) [ inl it ↦ it.timed (held.timed k) over | inr new ↦ new.timer ]

  pub undated_then : (k : ℕ) → is_of_file (request_of late.common k).operation.kind ≡ true → ((request_of late.common k).operation.deadline ≡ None) × ((request_of late.common k).timer ≡ None)
  undated_then k file = elim (each_request c (own_of w i) w.common i e choice may k) [ inl it ↦ it.undated (held.undated k) file | inr new ↦ (new.undated file, new.timer) ]

  pub let_go_then : (k : ℕ) → (request_of late.common k).released ≡ true → is_resolved (request_of late.common k).phase ≡ true
  let_go_then = grind (arith, each_request, true≢false)

  pub counted_then : (j : ℕ) → (own_of late j).unreleased ≡ unreleased_of j late.common.requests
  counted_then j = by (j == i) refl
    where
      by : (b : Bool) → (j == i) ≡ b → (own_of late j).unreleased ≡ unreleased_of j late.common.requests
      by true is = grind (arith, eqb-true, own_own, counted_here)
      by false is =
          let apart = eqb-false j i is in (other_own c w i e choice j apart).unreleased ∙ held.counted j ∙ sym (counted_elsewhere c (own_of w i) w.common i e choice may own j apart)

  pub flying_then : (j : ℕ) → (own_of late j).in_flight ≡ flying_of j late.common.requests
  flying_then j = by (j == i) refl
    where
      by : (b : Bool) → (j == i) ≡ b → (own_of late j).in_flight ≡ flying_of j late.common.requests
      by true is = grind (arith, eqb-true, own_own, flying_here)
      by false is =
          let apart = eqb-false j i is in (other_own c w i e choice j apart).in_flight ∙ held.flying j ∙ sym (flying_elsewhere c (own_of w i) w.common i e choice may own j apart)

  pub untold_then : (j k : ℕ) → is_in k (own_of late j).untold ≡ true → (k < length late.common.requests) × ((request_of late.common k).worker ≡ j)
  untold_then j k untold = by (j == i) refl
    where
      there : (k < length w.common.requests) × ((request_of w.common k).worker ≡ j) → (k < length late.common.requests) × ((request_of late.common k).worker ≡ j)
      there was =
          let more = no_fewer c (own_of w i) w.common i e choice in (omega (arith, more, was.0), same_worker c (own_of w i) w.common i e choice k was.0 ∙ was.1)

      by : (b : Bool) → (j == i) ≡ b → (k < length late.common.requests) × ((request_of late.common k).worker ≡ j)
      by true is =
          let same = eqb-true j i is in
          let mine : is_in k (own_after c (own_of w i) w.common i e choice).untold ≡ true =
          sym (ap (λ (x : Books). is_in k x.untold) (own_own c w i e choice (omega (arith, owns, here)))) ∙ subst (λ n. is_in k (own_of late n).untold ≡ true) same untold in
          there (subst (λ n. (k < length w.common.requests) × ((request_of w.common k).worker ≡ n)) (sym same) (untold_here c (own_of w i) w.common i e choice may own (held.untold i) k mine))
      by false is =
          let apart = eqb-false j i is in there (held.untold j k (sym (ap (is_in k) (other_own c w i e choice j apart).untold) ∙ untold))

  pub over_then : has_ended (seat_of w.common i).phase ≡ false → (j : ℕ) → has_ended (seat_of late.common j).phase ≡ true → ((own_of late j).unreleased ≡ 0) × ((z : ℕ) → is_asleep j (sleeper_of late.common z) ≡ false)
  over_then live j over = over_live c w i choice owns here held e may live j over

  pub requests_then : (k : ℕ) → k < length late.common.requests → (request_of late.common k).worker < length late.common.seats
  requests_then k within =
      let more = no_fewer_seats c (own_of w i) w.common i e choice may in
      elim (each_request c (own_of w i) w.common i e choice may k) [
        | inl it ↦ let was = whose_within w.common i here held.requests k in omega (arith, more, was, it.worker)
        | inr new ↦ omega (arith, more, here, new.worker)
      ]

  pub sleepers_then : (z : ℕ) → z < length late.common.sleepers → (sleeper_of late.common z).worker < length late.common.seats
  sleepers_then z within =
      let more = no_fewer_seats c (own_of w i) w.common i e choice may in
      elim (each_sleeper c (own_of w i) w.common i e choice may z) [
        | inl it ↦ let was = sleeps_within w.common i here held.sleepers z in omega (arith, more, was, it.worker)
        | inr new ↦ omega (arith, more, here, new.worker)
      ]
