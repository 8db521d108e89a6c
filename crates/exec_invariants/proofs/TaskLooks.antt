-- WHAT A LOOK NEEDS: that who has what the task waits for can be asked, or that its end lies with the task; and the whole look at one
-- that was forwarded.
use Rattle.exec_invariants.{specs.{Holding.{HasAnswer as HasAnswerIn, awaited_in, box_of, holder_of, holdings, nap_of, outcome_told, thing_of}, Sound.SoundAt, Whole.{HasWhole, hands_of, with_worker}, Works.Steps}, proofs.{Words.{◌≡◌, ◌≢◌, inr, ℕ, ◌-◌, ◌<◌, ◌||◌, Bool, true, false, length, map, Option, Some, Result, Ok, Err, refl, sym, ap, subst, ◌∙◌, arith, slice_get, false≢true, slice_get_within, Error, OneShotState, Shut, Open, Full, Outcome, RequestOutput, Said, Event, ForwardRequest, ForwardTimer, RequestPhase, Resolved, Waiting, is_unsent, InPoll, Place, Record, Shared, SleeperRecord, TaskSlot, Worker, HasAnswer, HearsEnd, HearsOutput, MayAskEnd, MayAskOutput, MayHearOutput, MaySend, numbers_held, outcome_in, IsAnswered, Spot, same_Some}, AskBoxes.{asks_place, box_there}, AsksEnds.asks_whom, Here.{IsHere, going_on}, HoldSteps.{held_there, hold_once}, HoldWaits.held_number, SparedRecord.there_within, TaskHears.{looked_in_vain, output_heard, thing_there}, TaskTakes.{holder_there, nap_there, sleep_taken}, TaskWants.{may_forward, wants_from, held_so}}}

resolved_as : (p : RequestPhase) (o : Outcome) → outcome_in p ≡ Some o → p ≡ Resolved o
resolved_as = grind arith

fired_so : (fired removed : Bool) → (fired || removed) ≡ true → removed ≡ false → fired ≡ true
fired_so true removed h kept = refl
fired_so false removed h kept = absurd (false≢true (sym kept ∙ h))

module _ {B : Type 0} where
  -- ANOTHER WORKER'S is asked for
  pub may_ask_end : (t z : ℕ) (w : Worker) (s : Shared B) (it : SleeperRecord) → (sound : SoundAt (Place.Poll t InPoll.Resume) w s) → (has : HasWhole w s) → (at : IsHere InPoll.Resume t w s) → at.slot.waiting ≡ Waiting.Timer z → slice_get s.sleepers.items z ≡ Some it → is_unsent it.shown.forwarding ≡ true → it.shown.worker ≢ w.index
      → MayAskEnd z s
  may_ask_end t z w s it sound has at waits at_z unsent other =
      let whom = asks_whom t z w s it sound has at waits at_z unsent other in
      let at_box = box_there s.seats.items it.shown.worker whom.chair whom.there in
      let room = asks_place (hands_of (with_worker has.others w)) s.config.workers (map holder_of s.tasks.items) (map thing_of s.requests.items) (map nap_of s.sleepers.items) (map box_of s.seats.items) z (nap_of it) (nap_there s.sleepers.items z it at_z) unsent whom.few (box_of whom.chair) at_box whom.open_box has.whole.holding in
      record {
        known = slice_get_within s.sleepers.items z it at_z;
        may = λ o found. subst (λ (y : SleeperRecord). MaySend y.shown.worker (ForwardTimer z) s) (same_Some it o (sym at_z ∙ found)) (grind arith);
      }

  -- the newest that it holds is what it waits for
  pub newest_awaited : (x : InPoll) (t k : ℕ) (w : Worker) (s : Shared B) → (has : HasWhole w s) → (at : IsHere x t w s) → at.slot.waiting ≡ Waiting.Request k → slice_get (numbers_held at.slot.held.items) (length (numbers_held at.slot.held.items) - 1) ≡ Some k
  newest_awaited x t k w s has at waits =
      (has.whole.holding.awaiting t (holder_of at.slot) k (holder_there s.tasks.items t at.slot at.there) (ap awaited_in waits)).2.newest (going_on at.slot.cell.phase at.polled)

  pub may_ask_output : (x : InPoll) (t k : ℕ) (w : Worker) (s : Shared B) (r : Record) → (sound : SoundAt (Place.Poll t x) w s) → (has : HasWhole w s) → (at : IsHere x t w s) → slice_get (numbers_held at.slot.held.items) (length (numbers_held at.slot.held.items) - 1) ≡ Some k → slice_get s.requests.items k ≡ Some r
      → is_unsent r.shown.forwarding ≡ true → r.shown.worker ≢ w.index → MayAskOutput t k s
  may_ask_output x t k w s r sound has at newest at_k unsent other =
      let may = may_forward x t k w s at.slot r has (wants_from x t k w s r sound has at newest at_k other) at_k unsent in
      let may_so : (r : Record) → slice_get s.requests.items k ≡ Some r → MaySend r.shown.worker (ForwardRequest k) s = λ o found. subst (λ (y : Record). MaySend y.shown.worker (ForwardRequest k) s) (same_Some r o (sym at_k ∙ found)) may in
      assumption (slice_get_within s.tasks.items t at.slot at.there, slice_get_within s.requests.items k r at_k, may_so)

  -- AN END THAT WAS SENT lies with the task
  pub may_hear_output : (t k : ℕ) (w : Worker) (s : Shared B) (r : Record) → (has : HasWhole w s) → (at : IsHere InPoll.Resume t w s) → at.slot.waiting ≡ Waiting.Request k → slice_get s.requests.items k ≡ Some r → is_unsent r.shown.forwarding ≡ false → MayHearOutput t k s
  may_hear_output t k w s r has at waits at_k forwarded =
      let slot = at.slot in
      let hs = map holder_of s.tasks.items in
      let at_t = holder_there s.tasks.items t slot at.there in
      let at_r = thing_there s.requests.items k r at_k in
      let awaiting = has.whole.holding.awaiting t (holder_of slot) k at_t (ap awaited_in waits) in
      let is : awaiting.0 ≡ thing_of r = same_Some awaiting.0 (thing_of r) (sym awaiting.1 ∙ at_r) in
      let place = length (numbers_held slot.held.items) - 1 in
      let one = held_number slot.held.items place k (newest_awaited InPoll.Resume t k w s has at waits) in
      let some = held_there k slot.held.items place one.0 one.1 one.2 in
      let held : 0 < holdings k hs = omega (arith, some, hold_once k hs t (holder_of slot) at_t) in
      let box = there_within (map box_of s.seats.items) r.shown.worker (has.whole.holding.of_worker k (thing_of r) at_r) in
      let observed = held_so box.0.shut r.shown.observed (holdings k hs) _ held (has.whole.holding.held k (thing_of r) box.0 at_r box.1) in
      let answer : HasAnswerIn slot.output (thing_of r) = subst (λ x. HasAnswerIn slot.output x) is (awaiting.2.answer (ap (λ x. is_unsent x.forwarding) is ∙ forwarded)) in
      let answer_so : (r : Record) → slice_get s.requests.items k ≡ Some r → r.sent ≡ true → HasAnswer t r s = λ o found sent.
      let same : r ≡ o = same_Some r o (sym at_k ∙ found) in
      subst (λ y. HasAnswer t y s) same (by slot.output refl answer observed (ap (λ (y : Record). y.sent) same ∙ sent) (slice_get_within slot.held.items place one.0 one.1)) in
      assumption (slice_get_within s.tasks.items t slot at.there, slice_get_within s.requests.items k r at_k, answer_so)
    where
      by : (o : OneShotState (Result RequestOutput Error)) → at.slot.output ≡ o → HasAnswerIn o (thing_of r) → r.shown.observed ≡ true → r.sent ≡ true → (length (numbers_held at.slot.held.items) - 1) < length at.slot.held.items → HasAnswer t r s
      by Open is answer observed sent within = absurd (false≢true (sym answer ∙ sent))
      by Shut is answer observed sent within = absurd answer
      by (Full (Err error)) is answer observed sent within = absurd (false≢true (sym answer.1 ∙ observed))
      by (Full (Ok told)) is answer observed sent within =
          record {
            outcome = outcome_told told;
            over = resolved_as r.shown.phase (outcome_told told) answer.1;
            output = told;
            lies = λ slot there. ap (λ (y : TaskSlot B). y.output) (same_Some slot at.slot (sym there ∙ at.there)) ∙ is;
            holds = λ slot there. subst (λ (y : TaskSlot B). 0 < length y.held.items) (same_Some at.slot slot (sym at.there ∙ there)) (omega (arith, within));
          }

module _ {B L : Type 0} (left : B → L) (spot : L → Option Said → Spot) (answered : IsAnswered spot) where
  -- WHAT WAS FORWARDED is looked for where its end is sent
  pub end_looked : (t k : ℕ) (w w' : Worker) (s s' : Shared B) (e : Event) (z : SleeperRecord) → (sound : SoundAt (Place.Poll t InPoll.Resume) w s) → HasWhole w s → (it : IsHere InPoll.Resume t w s) → it.slot.waiting ≡ Waiting.Timer k → slice_get s.sleepers.items k ≡ Some z → is_unsent z.shown.forwarding ≡ false
      → HearsEnd t k w w' s s' e → Steps left spot w s e w' s'
  end_looked t k w w' s s' e z sound has it waits at_z forwarded hears =
      by hears.it.sent refl (same_Some hears.it z (sym hears.sleeper ∙ at_z))
    where
      by : (b : Bool) → hears.it.sent ≡ b → hears.it ≡ z → Steps left spot w s e w' s'
      by true sent is =
          let takes = hears.heard sent in
          let sent_z : z.sent ≡ true = ap (λ (y : SleeperRecord). y.sent) (sym is) ∙ sent in
          let at_n = nap_there s.sleepers.items k z at_z in
          let over = has.whole.holding.sent_too k (nap_of z) at_n sent_z in
          let asleep = has.whole.holding.asleep t (holder_of it.slot) k (holder_there s.tasks.items t it.slot it.there) (ap awaited_in waits) in
          let same : asleep.0 ≡ nap_of z = same_Some asleep.0 (nap_of z) (sym asleep.1 ∙ at_n) in
          let kept : (z.shown.removed || z.closed) ≡ false = sym (ap (λ x. x.removed) same) ∙ asleep.2.kept (going_on it.slot.cell.phase it.polled) in
          sleep_taken left spot answered t k w w' s s' e z sound it waits at_z (fired_so z.shown.fired (z.shown.removed || z.closed) over.1 kept) (inr (sent_z, over.0)) takes.event takes.worker takes.task
      by false unsent is =
          let none = hears.unheard unsent in
          subst (λ y. Steps left spot w s e w' y) (sym none.same)
          (looked_in_vain left spot t w w' s e sound it (Waiting.Timer k) waits (z, at_z, forwarded, ap (λ (y : SleeperRecord). y.sent) (sym is) ∙ unsent) none.event none.worker)

  pub output_looked : (t k : ℕ) (w w' : Worker) (s s' : Shared B) (e : Event) (r : Record) → (sound : SoundAt (Place.Poll t InPoll.Resume) w s) → HasWhole w s → (it : IsHere InPoll.Resume t w s) → it.slot.waiting ≡ Waiting.Request k → slice_get s.requests.items k ≡ Some r → is_unsent r.shown.forwarding ≡ false
      → HearsOutput t k w w' s s' e → Steps left spot w s e w' s'
  output_looked t k w w' s s' e r sound has it waits at_k forwarded hears =
      by hears.r.sent refl (same_Some hears.r r (sym hears.request ∙ at_k))
    where
      by : (b : Bool) → hears.r.sent ≡ b → hears.r ≡ r → Steps left spot w s e w' s'
      by true sent is =
          output_heard left spot answered t k w w' s s' e hears.r sound has it waits (at_k ∙ ap (λ y. Some y) (sym is)) sent (hears.heard sent)
      by false unsent is =
          let none = hears.unheard unsent in
          subst (λ y. Steps left spot w s e w' y) (sym none.same)
          (looked_in_vain left spot t w w' s e sound it (Waiting.Request k) waits (r, at_k, forwarded, ap (λ (y : Record). y.sent) (sym is) ∙ unsent) none.event none.worker)
