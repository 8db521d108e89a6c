-- All moves of a service.
use Rattle.std.{proofs.{Common.{◌≡◌, ℕ, suc, arith, Bool, true, false, Option, Some, None, refl, sym, ap, subst}, lemmas.{Bool.{false≢true, lt-leb}, List.get_or-set_same}}, specs.Prelude.slice_get}
use Rattle.exec_words.specs.Word.{asks_signal}
use Rattle.exec_machine.specs.{declared.config.Configuration.Configuration, World.{Common, Own as Books, seat_of}}
use Rattle.exec_moves.specs.{declared.place.{AfterPermit.AfterPermit, InService.{InService, InService as step}, Place.Place, Service.Service, Reaping.Reaping as reaping}, Claim.latched, Move.{move_service, move_submit}, Serve.{after_latch, first_to_fire, unlatched}, State.{Desk, Things, gate_of, no_word, word_of}, Submit.{Due, Due.{AtGate, Cancels, Ends, Enrols, Expires, Flushes, Stages}, first_due, granted_at, next_gate, or_else, stage_next, staging_due}, Thing.{ring_of, with_ring}}
use Rattle.exec_settled.proofs.{HandsGate.{stays_early, unpast}, HandsPlain.{HandsBy, Plain, kept_word, own_out, plain, plain_hands, plain_signals}, HandsServe.{AreOfGate, AreUndated, HandsFor, ends, enrols, enters, expires, moves_on, passes_on, past_in_if, past_permit, raises_one, reaps, tries}}
use Rattle.exec_moves.specs.declared.place.Place.TheVariants as at

-- what is to be staged, or that there is nothing
abbrev is_staging : Due → Bool
is_staging (Expires r) = false
is_staging (Enrols r) = false
is_staging (AtGate file) = false
is_staging _ = true

is_to_stage : (c : Configuration) (me : Books) (d : Desk) → is_staging (staging_due c me d) ≡ true
is_to_stage = grind arith

module _ (c : Configuration) (i : ℕ) (me : Books) (s : Common) (d : Desk) (x : Things) (v : Service) where
  abbrev inside : InService → Place
  inside p = at.Service p v

  abbrev on : InService → Desk
  on p = record d { place = inside p }

  -- THE MIDDLE
  module _ (gate : ℕ) (none : next_gate i gate s ≡ None) where
    abbrev here : Desk
    here = on (step.Submit gate)

    flushes : (busy : Bool) → HandsBy c i me s d x here (with_ring i x (stage_next c i v gate me s here (record (ring_of s x i) { busy = busy }) Flushes))
    flushes true = moves_on c i me s d x v gate _ _ none refl refl (λ j h. h) refl
    flushes false = moves_on c i me s d x v gate (step.Submit gate) _ none refl refl (λ j h. h) refl

    stages : (due : Due) → is_staging due ≡ true → HandsBy c i me s d x here (move_submit c i me s here x gate v due)
    stages (Expires r) h = absurd (false≢true h)
    stages (Enrols r) h = absurd (false≢true h)
    stages (AtGate file) h = absurd (false≢true h)
    stages Flushes h = flushes (seat_of s i).busy
    stages (Cancels r) h = moves_on c i me s d x v gate (step.Submit gate) _ none refl refl (λ j h. h) refl
    stages (Stages r) h = moves_on c i me s d x v gate (step.Submit gate) _ none refl refl (λ j h. h) refl
    stages Ends h = moves_on c i me s d x v gate _ _ none refl refl (λ j h. h) refl

  module _ (undated : AreUndated s) (targets : AreOfGate s x) where
    submits_due : (gate : ℕ) (first : Option ℕ) → first_due c i me s ≡ first → (new next : Option ℕ) → next_gate i gate s ≡ next → (later : Due) → is_staging later ≡ true
        → HandsFor c i me s d x v gate (or_else first Expires (or_else new Enrols (or_else next AtGate later)))
    submits_due gate (Some r) some new next at later h = expires c i me s d x v gate undated r some
    submits_due gate None none (Some r) next at later h = enrols c i me s d x v gate undated r
    submits_due gate None none None (Some f) at later h = tries c i me s d x v gate targets f at (granted_at i (gate_of x f) s) refl
    submits_due gate None none None None at later h = stages gate at later h

    -- ALL STEPS

    samples : Plain i (inside step.Sample) x (move_service c i me s (on step.Sample) x step.Sample v)
    samples =
        record {
          gates = refl;
          latch_out = own_out i x (unlatched (word_of x i)) (inside (step.Reap reaping.First)) (λ f. unpast f v (step.Reap reaping.First) refl);
          past = λ f h. unpast f v (step.Reap reaping.First) refl;
          mild = refl;
        }

    signals : (j : ℕ) (b : AfterPermit) → HandsBy c i me s d x (on (step.Signal j b)) (move_service c i me s (on (step.Signal j b)) x (step.Signal j b) v)
    signals j b =
        plain_signals c i me s (on (step.Signal j b)) x (inside (step.Signal j b)) _ refl refl
        (λ k h within. let e : k ≡ j = signalled j k h in rw e (ap (λ w. w.latch) (get_or-set_same x.words j (latched (word_of x j)) no_word (rw (← e) within))))
        (plain i _ x _ refl (kept_word j x (latched (word_of x j)) (λ h. refl))
        (λ file h. stays_early file v (step.Signal j b) (after_latch j b (word_of x j)) (λ h. past_in_if file (asks_signal (word_of x j)) _ _ h (past_permit file b h)) h) refl)
      where
        signalled : (j k : ℕ) → Some j ≡ Some k → k ≡ j
        signalled j k h = cc

    in_service : (p : InService) → HandsBy c i me s d x (on p) (move_service c i me s (on p) x p v)
    in_service step.Sample = plain_hands c i me s (on step.Sample) x (inside step.Sample) _ refl refl refl samples
    in_service (step.Reap r) = reaps c i me s d x v r (seat_of s i).landed
    in_service (step.PassPermit file b) = passes_on c i me s d x v file b
    in_service (step.Signal j b) = signals j b
    in_service (step.Raise ring j b) = plain_hands c i me s (on (step.Raise ring j b)) x (inside (step.Raise ring j b)) _ refl refl refl (raises_one c i me s d x v ring j b)
    in_service step.AdvanceWheel =
        plain_hands c i me s (on step.AdvanceWheel) x (inside step.AdvanceWheel) _ refl refl refl (plain i _ x _ refl (λ j h. h) (λ file h. unpast file v (step.Submit 0) (lt-leb (suc file) 0 (omega arith))) refl)
    in_service (step.Submit gate) = submits_due gate _ refl (slice_get me.unenrolled 0) _ refl (staging_due c me (on (step.Submit gate))) (is_to_stage c me (on (step.Submit gate)))
    in_service step.EnterLast = plain_hands c i me s (on step.EnterLast) x (inside step.EnterLast) _ refl refl refl (enters c i me s d x v (seat_of s i).busy)
    in_service step.EndService = plain_hands c i me s (on step.EndService) x (inside step.EndService) _ refl refl refl (ends c i me s d x v (first_to_fire i me s (on step.EndService)) refl)

    pub service : (p : InService) → d.place ≡ at.Service p v → HandsBy c i me s d x d (move_service c i me s d x p v)
    service p is = subst (λ (k : Place). let e = record d { place = k } in HandsBy c i me s d x e (move_service c i me s e x p v)) (sym is) (in_service p)
