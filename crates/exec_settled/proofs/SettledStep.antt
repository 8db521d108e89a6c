-- A step of a worker keeps what each has done before it sleeps.
use Rattle.std.{proofs.{Common.{◌≡◌, ℕ, ◌<◌, Bool, true, false, ◌||◌, length, Option, refl, sym, ap, ◌∙◌, subst, arith, inl, inr}, lemmas.{Bool.{false≢true, true≢false, cases_eq}, List.{get_or_append_left, get_or-set_same, length-set}}}, specs.Prelude.not}
use Rattle.exec_machine.specs.{declared.{config.Configuration.Configuration, event.Event.{Event, TheVariants.{Dedicated, Enter, Sleep}}, step.Action.Action as action}, After.{common_after, own_after}, Allowed.Allowed, Callers.is_enabled, Choice.Choice, Tests.{has_ended, is_awake}, World.{Common, Own as Books, own_of, seat_of}}
use Rattle.exec_moves.specs.{Callback.has_requests, Move.move, Plays.{Playing, by_move, desk_of}, State.{Desk, Moved, Things}}
use Rattle.exec_rest.{specs.AtRest.{IsPlaced, stays_closing}, proofs.{FactsA.seated, Frames.{asleep_after, desk_other, desk_own, landed_own, landed_same}, Heeds.{Heeds, landed_after}, Step.heeds_at}}
use Rattle.exec_books.proofs.Own.{own_by_mail}
use Rattle.exec_settled.{specs.{Given.IsGiven, Settled.{HasEntered, IsSettled, waits_on_word}}, proofs.{SettledLike.{none_staged, other_alike, plain_alike, requests_then}, SettledMoves.{Settles, Was}, SettledOf.{SettledAt, SettledOf, all_of, each, left_settled, others_own}, SettledPlaces.{not-true, is_plain, kept, listed}, SettledWaits.move_settles}}

-- ITS OWN, which is awake before
module _ (c : Configuration) (i : ℕ) (me : Books) (s : Common) (p : Desk) (e : Event) (choice : Choice) (q : Desk) where
  abbrev mine : Books
  mine = own_after c me s i e choice

  abbrev late : Common
  late = common_after c me s i e choice

  -- by an enter, and by a sleep
  by_enter : e ≡ Enter → HasEntered i mine late
  by_enter is = subst (λ e. HasEntered i (own_after c me s i e choice) (common_after c me s i e choice)) (sym is) (record { untold = refl; staged = none_staged i s.requests })

  by_sleep : (until : Option ℕ) → e ≡ Sleep until → HasEntered i me s → HasEntered i mine late
  by_sleep = grind arith

  pub own_settled : is_awake (seat_of s i).rest ≡ true → Settles c i me s p.place e choice q → SettledOf c i me p s → SettledOf c i mine q late
  own_settled awake now before =
      record {
        told = now.told;
        submitted = now.submitted;
        free = λ h. requests (now.plain (ap (λ b. b || stays_closing q.place) h)) ∙ now.free h;
        busy = λ h. requests (now.plain (either (waits_on_word q.place) (stays_closing q.place) h)) ∙ now.busy h;
        entered = λ h. by_enter (now.entered h);
        entered_then = λ asleep h. let it = slept asleep in by_sleep it.0 it.1 (before.entered (now.slept it.0 it.1 h).0);
        landed = λ asleep h. let it = slept asleep in landed_own c me s i e choice ∙ ap (landed_after s i) it.1 ∙ (now.slept it.0 it.1 h).1;
      }
    where
      requests : is_plain e ≡ true → has_requests i late ≡ has_requests i s
      requests plain = requests_then i s late (plain_alike c me s i e choice plain i)

      either : (a b : Bool) → b ≡ true → (a || b) ≡ true
      either true b h = refl
      either false b h = h

      -- it sleeps by this event
      slept : not (is_awake (seat_of late i).rest) ≡ true → (until : Option ℕ) × (e ≡ Sleep until)
      slept = grind (arith, asleep_after, not-true, true≢false)

-- ANY
module _ (c : Configuration) (x : Playing) (placed : IsPlaced c x) (given : IsGiven c x) (i : ℕ) (may : is_enabled x.world.common (action.Work i) ≡ true) where
  abbrev s : Common
  s = x.world.common

  abbrev me : Books
  me = own_of x.world i

  abbrev m : Moved Things
  m = move c i me s (desk_of c x i) x.things

  abbrev next : Playing
  next = (by_move c x i m).next

  working : (is_awake (seat_of s i).rest ≡ true) × (not (has_ended (seat_of s i).phase) ≡ true)
  working = grind arith

  within : i < length s.seats
  within = seated s (λ seat. not (has_ended seat.phase)) true false≢true i working.1

  its_own : own_of next.world i ≡ own_after c me s i m.event m.choice
  its_own = grind (arith, within, get_or_append_left, length-set, get_or-set_same)

  its_desk : desk_of c next i ≡ m.desk
  its_desk = desk_own c x i m (omega (arith, within, placed.laid.desks))

  own_then : SettledAt c x i → SettledAt c next i
  own_then before =
      let d = desk_of c x i in
      let was : Was c i me s d.place d = record { told = before.told; submitted = before.submitted; free = before.free; busy = before.busy } in
      let there = own_settled c i me s d m.event m.choice m.desk working.0 (move_settles c i me s d x.things d.place refl was) before in
      subst (λ e. SettledOf c i (own_of next.world i) e next.world.common) (sym its_desk) (subst (λ b. SettledOf c i b m.desk next.world.common) (sym its_own) there)

  born : (t k : ℕ) → m.event ≡ Dedicated t k → k ≡ length x.desks
  born t k is =
      let heeds : Heeds (Unit {0}) i s (desk_of c x i) x.things m = heeds_at (Unit {0}) c i me s (desk_of c x i) x.things (desk_of c x i).place refl in
      heeds.born t k is ∙ sym placed.laid.desks

  other_then : Allowed c me s i m.event m.choice → (k : ℕ) → (k ≡ i → ⊥) → SettledAt c x k → SettledAt c next k
  other_then allowed k apart before =
      let desk = desk_other c x i m born k apart in
      let own = own_by_mail c me s i m.event m.choice (given.first i) allowed in
      let y = own_after c me s i m.event m.choice in
      left_settled c k (own_of x.world k) (own_of next.world k) (desk_of c x k) (desk_of c next k) s next.world.common
      (record {
        place = ap (λ (d : Desk). d.place) desk;
        desk = ap kept desk;
        own = others_own listed (λ clock root. refl) x.world.workers s m.event i y k apart;
        untold = others_own (λ (b : Books). b.untold) (λ clock root. refl) x.world.workers s m.event i y k apart;
        requests = other_alike c me s i m.event m.choice own k apart;
        rests = λ h. (was_asleep h, landed_same c me s i m.event m.choice k apart);
      })
      before
    where
      was_asleep : not (is_awake (seat_of next.world.common k).rest) ≡ true → not (is_awake (seat_of s k).rest) ≡ true
      was_asleep = grind (arith, asleep_after, not-true)

  pub work_settles : Allowed c me s i m.event m.choice → IsSettled c x → IsSettled c next
  work_settles allowed before = all_of c next (λ k. elim (cases_eq k i) [
    | inl own ↦ subst (SettledAt c next) (sym own) (own_then (each c x before i))
    | inr apart ↦ other_then allowed k apart (each c x before k)
  ])
