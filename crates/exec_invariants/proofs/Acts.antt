-- What a polled body that acts needs.
use Rattle.exec_invariants.{proofs.{Names.{◌≡◌, ℕ, ◌<◌, ◌≤◌, ◌^◌, arith, true, false, List, [], ◌∷◌, length, map, Option, Some, IsSome, Result, Ok, Err, refl, sym, ap, subst, ◌∙◌, slice_get, IfOk, OnErr, length-map, length-set, slice_get_within, OpenState, is_polled, Sight, Act, Said, Waiting, Plan, Place, InPoll, numbers_held, Shared, TaskSlot, Worker, Record, is_complete, MadeAct, OfSlot, sight_of, Plays, Spot, body_in, common_of, spot_by, task_seen, account_seen, open_seen, TurnsSlot, same_Some}, Here.{IsHere, going_on, polled_here}, Pending.in_poll, Performing.unacted}, specs.{Acting.{HasActed, PerformsOne}, Hearing.{CanHear, held_once_come}, Sound.{SoundAt, is_told}, Works.Same}}
pub use Rattle.std.proofs.lemmas.Result.{on_err_weaker}

pub kept_any : {A E P : Type 0} (r : Result A E) → P → OnErr r P
kept_any (Ok a) h = tt
kept_any (Err e) h = h

pub ok_so : {A E : Type 0} {P Q : A → Type 0} (r : Result A E) → ((a : A) → P a → Q a) → IfOk r P → IfOk r Q
ok_so (Ok a) f h = f a h
ok_so (Err e) f h = tt

module _ {B L : Type 0} (left : B → L) (spot : L → Option Said → Spot) (gives : L → Option Sight → Said → Act B → L → Option Sight → Type 0) where
  pub acted_within : (t moment : ℕ) (s s1 : Shared B) (a : Act B) → MadeAct left gives t moment s s1 a → t < length s1.tasks.items
  acted_within t moment s s1 a m = rw (m.tasks, length-set) (slice_get_within s.tasks.items t m.slot m.there)

  pub unmade : (t : ℕ) (w : Worker) (s s1 : Shared B) → SoundAt (Place.Poll t InPoll.Act) w s → TurnsSlot t s s1 (λ o. o) → Same left spot w s w s1
  unmade t w s s1 sound turns =
      let it : IsHere InPoll.Act t w s = polled_here InPoll.Act t w s sound refl in
      unacted left spot t w s s1 it.slot it.there turns

  -- what the next act needs
  pub record MayAct (t : ℕ) (s : Shared B) : Type 0 where
    pub there : t < length s.tasks.items
    pub told : OfSlot t s (λ slot. IsSome slot.told)
    pub body : OfSlot t s (λ slot. IsSome slot.body)

  pub may_act : (t : ℕ) (w : Worker) (s : Shared B) → SoundAt (Place.Poll t InPoll.Act) w s → MayAct t s
  may_act t w s sound =
      let it : IsHere InPoll.Act t w s = polled_here InPoll.Act t w s sound refl in
      let is : (slot : TaskSlot B) → slice_get s.tasks.items t ≡ Some slot → it.slot ≡ slot = λ slot found. same_Some it.slot slot (sym it.there ∙ found) in
      record {
        there = slice_get_within s.tasks.items t it.slot it.there;
        told = λ slot found. subst (λ (o : TaskSlot B). IsSome o.told) (is slot found) (it.told (ap (λ u. is_told u false) it.waits));
        body = λ slot found. subst (λ (o : TaskSlot B). IsSome o.body) (is slot found) it.body;
      }

-- WHAT ITS ACT IS

-- the accounts of the opens, as the machine has them and as a body sees them
accounts_seen : (rs : List Record) (opens : List OpenState) → map (λ o. o.account) (map (open_seen rs) opens) ≡ map (λ o. account_seen o.account) opens
accounts_seen rs [] = refl
accounts_seen rs (o ∷ opens) = ap (λ xs. account_seen o.account ∷ xs) (accounts_seen rs opens)

module _ {B L : Type 0} (left : B → L) (runs : L → Plan → Option ℕ → Type 0) (holds : L → Option Said → List ℕ) (spot : L → Option Said → Spot) (gives : L → Option Sight → Said → Act B → L → Option Sight → Type 0) where
  pub has_acted : Plays left runs holds spot gives → (t : ℕ) (w : Worker) (s s1 : Shared B) (a : Act B) → SoundAt (Place.Poll t InPoll.Act) w s → MadeAct left gives t w.moments.sampled s s1 a → PerformsOne left runs holds s → HasActed left runs holds spot gives t w s s1 a
  has_acted plays t w s s1 a sound m one =
      let here : IsHere InPoll.Act t w s = polled_here InPoll.Act t w s sound refl in
      let is : here.slot ≡ m.slot = same_Some here.slot m.slot (sym here.there ∙ m.there) in
      let polled : is_polled m.slot.cell.phase ≡ true = ap (λ (o : TaskSlot B). is_polled o.cell.phase) (sym is) ∙ here.polled in
      let waits : m.slot.waiting ≡ Waiting.Nothing = ap (λ (o : TaskSlot B). o.waiting) (sym is) ∙ here.waits in
      let body : body_in m.slot.cell.phase m.slot.body ≡ Some m.acts.body = in_poll m.slot.cell.phase m.slot.body polled ∙ m.acts.was in
      let going : is_complete m.slot.cell.phase ≡ false = going_on m.slot.cell.phase polled in
      let hears : CanHear m.slot.told m.slot.waiting m.acts.said = subst (λ o. CanHear o m.slot.waiting m.acts.said) (sym m.acts.told) refl in
      let early : w.moments.sampled ≤ 2 ^ 62 = omega (arith, sound.time.not_after, sound.time.bounded) in
      record {
        sound = sound;
        made = m;
        asks = λ p vs fits.
            let held : holds (left m.acts.body) (Some m.acts.said) ≡ (numbers_held m.slot.held.items) = fits.holding m.acts.body m.acts.said body hears going ∙ ap (λ u. held_once_come u (numbers_held m.slot.held.items)) waits in
            let it = plays p (common_of left spot p vs s) (task_seen left spot m.slot) (sight_of w.moments.sampled (length s.tasks.items) s.stopped s.opens) m.sight (left m.acts.body) (left m.acts.body') m.acts.said a
            (fits.runs_it m.acts.body m.acts.said body hears going) refl refl
            (assumption (early, sym (length-map s.tasks.items (task_seen left spot)), subst (λ n. n ≤ 2 ^ 32) (sym (length-map s.tasks.items (task_seen left spot))) sound.homes.few, sym (accounts_seen s.requests.items s.opens)))
            m.acts.given (sym (ap (λ o. spot_by left spot o m.slot.told) body ∙ ap (spot (left m.acts.body)) m.acts.told)) held in
            record { asks = it.asks; makes = it.makes; stands = it.stands; covers = it.covers; code = it.code; goes_on = it.goes_on };
        one = (one.0, one.1, one.2 t m.slot m.there);
      }

  -- by what act it was
  pub acted_at : Plays left runs holds spot gives → (t : ℕ) (w : Worker) (s s1 : Shared B) (a b : Act B) → a ≡ b → SoundAt (Place.Poll t InPoll.Act) w s → MadeAct left gives t w.moments.sampled s s1 a → PerformsOne left runs holds s
      → HasActed left runs holds spot gives t w s s1 b
  acted_at plays t w s s1 a b is sound made one = has_acted plays t w s s1 b sound (subst (MadeAct left gives t w.moments.sampled s s1) is made) one
