-- What a worker heeds that pushes into the global queue, claims a worker, or signals one.
use Rattle.std.{proofs.{Common.{◌≡◌, ℕ, ◌<◌, ◌==◌, Bool, true, false, List, ◌++◌, length, slice_set, Option, Some, None, refl, sym, ap, ◌∙◌, inl, inr, if◌then◌else◌, arith}, lemmas.{Bool.{true≢false, false≢true}, List.{get_or-set_same, length-set}}}, specs.Prelude.◌⊎◌}
use Rattle.exec_words.specs.{Idle.{Idle, is_in, lowest_of}, Word.asks_signal, declared.idle.WorkerSet.WorkerSet}
use Rattle.exec_machine.specs.{declared.{config.Configuration.Configuration, event.Event.{Event, TheVariants.{Rouse, Sleep, Turn}}}, Tests.is_awake, World.{Common, Own as Books, seat_of}}
use Rattle.exec_moves.specs.{declared.{handing.{AfterClaim.{AfterClaim, AfterClaim as claim}, AfterPush.AfterPush, AfterSignal.{AfterSignal, AfterSignal as signal}, InGlobal.InGlobal, InSignal.{InSignal, InSignal as signals}}, place.Place.{Place, Place as at}}, Callback.is_of_pool, Claim.{after_claim, after_nobody, claim_worker, claimed_if, idle_after, is_ring, raised_if, same_bools, set_of}, Global.{appended_if, empty_handed, has_any, one_count_less}, Move.{move_global, move_signal}, Parts.{after_push, after_signal}, Push.in_hand, State.{Desk, Things, does, goes, turns, word_of, wake_poll_of, queue_of}, Thing.{set_global, set_idle, with_global, with_idle, with_wake_poll}}
use Rattle.exec_rest.{specs.Places.{raises, signals as signals_next}, proofs.{Heeds.Heeds, Sides.{OfIdleSet, at_place, awake, is_tame, is_unreaped, itself, no_idles, no_words, of_all, put_cases, same_bits, still_rings}, Claims.{latched_words, lowest_there, none_there, raised_rings}, Continuing.{Nearly, near_after_push, near_after_signal, near_calm, near_if}}}
use Rattle.exec_moves.specs.declared.handing.InGlobal.TheVariants as global

module _ (R : Type 0) (c : Configuration) (i : ℕ) (me : Books) (s : Common) (d : Desk) (x : Things) where
  abbrev pool : Bool
  pool = is_of_pool s i

  abbrev on : Place → Desk
  on p = record d { place = p }

  -- a turn that may change the idle set or the global queue, and leads to such a place
  turned : (p q : Place) (e : Desk) (y : Things) → signals_next p ≡ None → raises p ≡ None → Nearly s i q
      → ((j : ℕ) → word_of y j ≡ word_of x j) → ((j : ℕ) → wake_poll_of y j ≡ wake_poll_of x j) → ((j : ℕ) → queue_of y j ≡ queue_of x j)
      → OfIdleSet R i s (record d { place = p }) x (turns q e y) → Heeds R i s (record d { place = p }) x (turns q e y)
  turned = grind arith

  -- GLOBAL

  appends : (b : AfterPush) (closed : Bool) (e : Desk) (more : List ℕ) → Heeds R i s (record d { place = at.Global global.Append b }) x (with_global x (turns (if closed then after_push c i me s b (on (at.Global global.Append b)) else at.Global global.LoadGlobalSet b) e (appended_if closed x.global more)))
  appends b true e more =
      turned (at.Global global.Append b) (after_push c i me s b (on (at.Global global.Append b))) e (set_global x x.global) refl refl (near_after_push s i c me b (on (at.Global global.Append b))) (λ j. refl) (λ j. refl) (λ j. refl)
      (no_idles R i s _ x _ (near_calm s i _ refl) (near_after_push s i c me b (on (at.Global global.Append b))) refl refl (λ h. h))
  appends b false e more = grind arith

  nobody : (y : Idle) → has_any y ≡ false → (j : ℕ) → is_in y.published j ≡ false
  nobody = grind (arith, none_there, true≢false)

  loads_set : (b : AfterPush) (any : Bool) → has_any x.idle ≡ any → Heeds R i s (record d { place = at.Global global.LoadGlobalSet b }) x (with_idle x (turns (if any then at.Global (global.AddGlobalCount (set_of x.idle)) b else after_push c i me s b (on (at.Global global.LoadGlobalSet b))) d x.idle))
  loads_set b true is = grind arith
  loads_set b false is =
      turned (at.Global global.LoadGlobalSet b) (after_push c i me s b (on (at.Global global.LoadGlobalSet b))) d (set_idle x x.idle) refl refl (near_after_push s i c me b (on (at.Global global.LoadGlobalSet b))) (λ j. refl) (λ j. refl) (λ j. refl)
      (same_bits R i s _ x _ (near_calm s i _ refl) (near_after_push s i c me b (on (at.Global global.LoadGlobalSet b))) refl (λ some. inl some) (λ h. inr (nobody x.idle is)))

  on_global : (p : InGlobal) (b : AfterPush) → Heeds R i s (record d { place = at.Global p b }) x (move_global c i me s (record d { place = at.Global p b }) x p b)
  on_global global.Append b = appends b s.queue_closed (empty_handed d) (d.loot ++ in_hand d.hand)
  on_global global.LoadGlobalSet b = loads_set b (has_any x.idle) refl
  on_global (global.AddGlobalCount set) b = grind arith
  on_global global.ReturnGlobalCount b =
      let to = near_if s i (x.idle.count == 1) _ _ (near_calm s i (at.Global global.LoadGlobalSet b) refl) (near_after_push s i c me b (on (at.Global global.ReturnGlobalCount b))) in
      turned (at.Global global.ReturnGlobalCount b) (if x.idle.count == 1 then at.Global global.LoadGlobalSet b else after_push c i me s b (on (at.Global global.ReturnGlobalCount b))) d (set_idle x (one_count_less x.idle)) refl refl to (λ j. refl) (λ j. refl) (λ j. refl)
      (no_idles R i s _ x _ (near_calm s i _ refl) to refl refl (λ h. h))

  -- CLAIM

  near_nobody : (b : AfterClaim) → Nearly s i (after_nobody b)
  near_nobody (claim.Kick b) = near_calm s i _ refl
  near_nobody (claim.Global b) = near_calm s i _ refl

  claims_by : (set : WorkerSet) (b : AfterClaim) (same : Bool) (o : Option ℕ) → lowest_of x.idle.published ≡ o
      → (let m = claimed_if same (set_of x.idle) o in Heeds R i s (record d { place = at.ClaimWorker set b }) x (with_idle x (turns (after_claim b m) d (idle_after m x.idle))))
  claims_by set b same None none = grind (arith, turned, near_nobody, same_bits, near_calm, none_there)
  claims_by set b false (Some k) is = grind arith
  claims_by set b true (Some k) is =
      turned (at.ClaimWorker set b) (at.Signal signals.SetLatch k (signal.Claim b)) d (set_idle x (record x.idle { published = slice_set bits k false })) refl refl (near_calm s i _ refl) (λ j. refl) (λ j. refl) (λ j. refl)
      (record {
        bit_in = λ j h. elim (put_cases bits k j false false) [ inl e ↦ inl (sym e ∙ h) | inr e ↦ absurd (false≢true (sym e.2 ∙ h)) ];
        bit_out = λ j h gone. elim (put_cases bits k j false false) [ inl e ↦ absurd (true≢false (sym h ∙ sym e ∙ gone)) | inr e ↦ inr (ap Some (sym e.0)) ];
        unpublished = λ pool h. absurd (false≢true h);
        published = λ pool within h. absurd (false≢true h);
        bits = length-set bits k false;
        looked = λ pool h. absurd (false≢true h);
        global = λ some. inl some;
        owing = λ h. inr (inr (k, first.1, get_or-set_same bits k false false first.0));
      })
    where
      bits : List Bool
      bits = x.idle.published

      first : (k < length bits) × (is_in bits k ≡ true)
      first = lowest_there bits k is

  -- SIGNAL

  signalled_at : (j k : ℕ) → Some j ≡ Some k → k ≡ j
  signalled_at j k h = cc

  sets_latch : (j : ℕ) (b : AfterSignal) → Heeds R i s (record d { place = at.Signal signals.SetLatch j b }) x (move_signal c i me s (record d { place = at.Signal signals.SetLatch j b }) x signals.SetLatch j b)
  sets_latch j b =
      let here = record d { place = at.Signal signals.SetLatch j b } in
      let m = move_signal c i me s here x signals.SetLatch j b in
      let w = word_of x j in
      let to = near_if s i (asks_signal w) _ _ (near_calm s i (at.Signal (signals.Raise (is_ring w.target)) j b) refl) (near_after_signal s i c me b here) in
      of_all R i s here x m
      (no_idles R i s here x m (near_calm s i _ refl) to refl refl (λ h. h))
      (latched_words R i s here x m j (λ k. refl) to.waits (λ asks. rw asks refl) (signalled_at j))
      (still_rings R i s here x m to refl (λ k. refl) refl (awake Turn refl))
      (itself R i s here x m (λ k. refl) to refl)

  raises_by : (ring : Bool) (j : ℕ) (b : AfterSignal) (e : Event) → (is_awake (seat_of s j).rest ≡ true) ⊎ (e ≡ Rouse j) → is_unreaped e ≡ true → is_tame e ≡ true → ((until : Option ℕ) → e ≡ Sleep until → ⊥)
      → (let here = on (at.Signal (signals.Raise ring) j b) in Heeds R i s here x (with_wake_poll j x (does e (goes (after_signal c i me s b here) here) (raised_if ring (wake_poll_of x j)))))
  raises_by ring j b e roused reaps_not tame wakes =
      let here = on (at.Signal (signals.Raise ring) j b) in
      let m = with_wake_poll j x (does e (goes (after_signal c i me s b here) here) (raised_if ring (wake_poll_of x j))) in
      let to = near_after_signal s i c me b here in
      of_all R i s here x m
      (no_idles R i s here x m (near_calm s i _ refl) to refl refl (λ h. h))
      (no_words R i s here x m to.waits refl (λ k. refl))
      (raised_rings R i s here x m j ring (λ k. refl) (λ k. refl) to refl roused reaps_not wakes)
      (itself R i s here x m (λ k. refl) to tame)

  raises_one : (ring : Bool) (j : ℕ) (b : AfterSignal) (awake : Bool) → is_awake (seat_of s j).rest ≡ awake
      → (let here = on (at.Signal (signals.Raise ring) j b) in Heeds R i s here x (with_wake_poll j x (does (if awake then Turn else Rouse j) (goes (after_signal c i me s b here) here) (raised_if ring (wake_poll_of x j)))))
  raises_one ring j b true is = raises_by ring j b Turn (inl is) refl refl (awake Turn refl)
  raises_one ring j b false is = raises_by ring j b (Rouse j) (inr refl) refl refl (awake (Rouse j) refl)

  on_signal : (p : InSignal) (j : ℕ) (b : AfterSignal) → Heeds R i s (on (at.Signal p j b)) x (move_signal c i me s (on (at.Signal p j b)) x p j b)
  on_signal signals.SetLatch j b = sets_latch j b
  on_signal (signals.Raise ring) j b = raises_one ring j b (is_awake (seat_of s j).rest) refl

module _ (R : Type 0) (c : Configuration) (i : ℕ) (me : Books) (s : Common) (d : Desk) (x : Things) where
  pub globals : (p : InGlobal) (b : AfterPush) → d.place ≡ at.Global p b → Heeds R i s d x (move_global c i me s d x p b)
  globals p b is = at_place R i s d x (λ e. move_global c i me s e x p b) (at.Global p b) is (on_global R c i me s d x p b)

  pub claims : (set : WorkerSet) (b : AfterClaim) → d.place ≡ at.ClaimWorker set b → Heeds R i s d x (with_idle x (claim_worker set b d x.idle))
  claims set b is = at_place R i s d x (λ e. with_idle x (claim_worker set b e x.idle)) (at.ClaimWorker set b) is (claims_by R c i me s d x set b (same_bools set.has x.idle.published) (lowest_of x.idle.published) refl)

  pub signalled : (p : InSignal) (j : ℕ) (b : AfterSignal) → d.place ≡ at.Signal p j b → Heeds R i s d x (move_signal c i me s d x p j b)
  signalled p j b is = at_place R i s d x (λ e. move_signal c i me s e x p j b) (at.Signal p j b) is (on_signal R c i me s d x p j b)
