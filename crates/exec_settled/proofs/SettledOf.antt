-- What a worker has done before it sleeps, of one worker; and what leaves that so.
use Rattle.std.{proofs.Common.{◌≡◌, ℕ, zero, suc, true, false, List, [], ◌∷◌, ◌++◌, get_or, set, refl, sym, ap, ◌∙◌, arith}, specs.Prelude.not}
use Rattle.exec_machine.specs.{declared.{config.Configuration.Configuration, event.Event.Event}, After.made_by, Tasks.new_own, Tests.is_awake, World.{Common, Own as Books, Seat, no_own, own_of, seat_of}}
use Rattle.exec_moves.specs.{Callback.has_requests, Plays.{Playing, desk_of}, State.Desk}
use Rattle.exec_rest.specs.{AtRest.stays_closing, Places.is_to_sleep_on_ring}
use Rattle.exec_settled.{specs.Settled.{HasEntered, HasSubmitted, HasTold, IsSettled, ends_ring_wait, has_submitted, has_told, waits_on_word}, proofs.{SettledLike.{AreAlike, entered_then, requests_then}, SettledPlaces.{OfBooks, kept, listed, submitted_with, told_with}}}

pub record SettledOf (c : Configuration) (i : ℕ) (me : Books) (d : Desk) (s : Common) : Type 0 where
  pub told : has_told d.place ≡ true → HasTold me d
  pub submitted : has_submitted d.place ≡ true → HasSubmitted c me
  pub free : waits_on_word d.place ≡ true → has_requests i s ≡ false
  pub busy : stays_closing d.place ≡ true → has_requests i s ≡ true
  pub entered : is_to_sleep_on_ring d.place ≡ true → HasEntered i me s
  pub entered_then : not (is_awake (seat_of s i).rest) ≡ true → ends_ring_wait d.place ≡ true → HasEntered i me s
  pub landed : not (is_awake (seat_of s i).rest) ≡ true → ends_ring_wait d.place ≡ true → (seat_of s i).landed ≡ []

abbrev pub SettledAt : Configuration → Playing → ℕ → Type 0
SettledAt c x i = SettledOf c i (own_of x.world i) (desk_of c x i) x.world.common

module _ (c : Configuration) (x : Playing) where
  pub each : IsSettled c x → (i : ℕ) → SettledAt c x i
  each all i = record { told = all.told i; submitted = all.submitted i; free = all.free i; busy = all.busy i; entered = all.entered i; entered_then = all.entered_then i; landed = all.landed i }

  pub all_of : ((i : ℕ) → SettledAt c x i) → IsSettled c x
  all_of = grind arith

-- who sleeps then slept before, and nothing has landed there since
abbrev pub Rests : Seat → Seat → Type 0
Rests a b = not (is_awake b.rest) ≡ true → (not (is_awake a.rest) ≡ true) × (b.landed ≡ a.landed)

-- A step that moves the worker nowhere, and leaves what it has to tell and to submit, its requests and its rest
pub record IsLeft (c : Configuration) (i : ℕ) (me mine : Books) (d e : Desk) (s t : Common) : Type 0 where
  pub place : e.place ≡ d.place
  pub desk : kept e ≡ kept d
  pub own : listed mine ≡ listed me
  pub untold : mine.untold ≡ me.untold
  pub requests : AreAlike i s.requests t.requests
  pub rests : Rests (seat_of s i) (seat_of t i)

pub left_settled : (c : Configuration) (i : ℕ) (me mine : Books) (d e : Desk) (s t : Common) → IsLeft c i me mine d e s t → SettledOf c i me d s → SettledOf c i mine e t
left_settled c i me mine d e s t left before =
    record {
      told = λ h. told_with me mine d e left.desk (ap (λ (k : OfBooks). k.ended) left.own) (before.told (sym (ap has_told left.place) ∙ h));
      submitted = λ h. submitted_with c me mine left.own (before.submitted (sym (ap has_submitted left.place) ∙ h));
      free = λ h. requests_then i s t left.requests ∙ before.free (sym (ap waits_on_word left.place) ∙ h);
      busy = λ h. requests_then i s t left.requests ∙ before.busy (sym (ap stays_closing left.place) ∙ h);
      entered = λ h. entered_then i s t left.requests me mine left.untold (before.entered (sym (ap is_to_sleep_on_ring left.place) ∙ h));
      entered_then = λ asleep h. entered_then i s t left.requests me mine left.untold (before.entered_then (left.rests asleep).0 (sym (ap ends_ring_wait left.place) ∙ h));
      landed = λ asleep h. (left.rests asleep).1 ∙ before.landed (left.rests asleep).0 (sym (ap ends_ring_wait left.place) ∙ h);
    }

-- OWN PARTS of the others after a step: that of a worker that is made has nothing in it, as if it stood past the end
module _ {T : Type 0} (f : Books → T) (blank : (clock root : ℕ) → f (new_own clock root) ≡ f no_own) where
  made_blank : (s : Common) (e : Event) (j : ℕ) → f (get_or (made_by s e) j no_own) ≡ f no_own
  made_blank = grind arith

  made_same : (xs made : List Books) → ((j : ℕ) → f (get_or made j no_own) ≡ f no_own) → (j : ℕ) → f (get_or (xs ++ made) j no_own) ≡ f (get_or xs j no_own)
  made_same [] made none j = none j
  made_same (x ∷ xs) made none zero = refl
  made_same (x ∷ xs) made none (suc j) = made_same xs made none j

  set_apart : (xs made : List Books) (i : ℕ) (y : Books) → ((j : ℕ) → f (get_or made j no_own) ≡ f no_own)
      → (j : ℕ) → (j ≡ i → ⊥) → f (get_or (set xs i y ++ made) j no_own) ≡ f (get_or xs j no_own)
  set_apart [] made i y none j apart = none j
  set_apart (x ∷ xs) made zero y none zero apart = absurd (apart refl)
  set_apart (x ∷ xs) made zero y none (suc j) apart = made_same xs made none j
  set_apart (x ∷ xs) made (suc i) y none zero apart = refl
  set_apart (x ∷ xs) made (suc i) y none (suc j) apart = set_apart xs made i y none j (λ is. apart (ap suc is))

  pub others_own : (xs : List Books) (s : Common) (e : Event) (i : ℕ) (y : Books) (j : ℕ) → (j ≡ i → ⊥) → f (get_or (set xs i y ++ made_by s e) j no_own) ≡ f (get_or xs j no_own)
  others_own xs s e i y = set_apart xs (made_by s e) i y (made_blank s e)
