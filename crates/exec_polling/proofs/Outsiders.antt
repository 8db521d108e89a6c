-- The steps of an outside caller: what each leaves of others, and what those on the idle set are to the machine.
use Rattle.std.proofs.{Common.{◌≡◌, ◌≢◌, ℕ, ◌+◌, ◌-◌, ◌^◌, ◌<◌, ◌≤◌, ◌==◌, ◌&&◌, Bool, true, false, not, Contains, List, length, Option, Some, None, IsSome, refl, sym, ap, subst, ◌∙◌, arith, option_to_list, slice_get, slice_set, if◌then◌else◌}, lemmas.{Bool.false≢true, List.{length-set, Quantifiers.position-Some}, Option.get_or_from_slice_get}}
use Rattle.exec_words.specs.{Idle.{Idle, is_in, lowest_of}, declared.idle.WorkerSet.WorkerSet}
use Rattle.exec_task.specs.declared.{body.Said.Said, runnable.Runnable.Runnable}
use Rattle.exec_machine.specs.{declared.{event.Event.{Event, TheVariants.{Turn, Return}}, state.Call.Call as half, step.Action.Action as action}, Callers.{common_by, is_half_done, may_go_on}, Choice.Choice.Plain, Progress.Plan}
use Rattle.exec_moves.specs.{Call.after_claim, Claim.{Claimed, claimed, idle_after, same_bools, set_of}, Global.has_any, MoveOfCaller.call_on, declared.handing.{CallPlace.{CallPlace, CallPlace as call}, InGlobal.InGlobal as global, InSignal.InSignal as signals}}
use Rattle.exec_parts.{specs.{declared.parts.{shared.Shared.Shared, task_slot.TaskSlot.TaskSlot}, Spots.Spot, View.{Views, Visible, common_of, seats_seen, things_with}}, proofs.Facts.by_number}
use Rattle.exec_polling.specs.{declared.caller.Caller.Caller, Calling.{CallAims, CallBeside, CallSound, CallSteps, HasCallWhole, HoldsForAll, call_of, desk_of_caller, hands_on_in, has_count_in, is_free, place_by_count, place_by_set, with_call, with_caller}}
use Rattle.exec_invariants.{specs.{Hearing.Hears, Places.one_if, Sound.{AreHome, IsInHand}, Spares.Spares, Whole.{HasOne, IsGenuine, IsWhole, Profile, claimed_count, may_let_go, stock}}, proofs.{Aside.{SparesSeats, seats_same, spares_turn}, Counting.{at_most, set_at, set_beside, sum_few, sum_one}, Handed.someone, Kicking.{again_some, lowest_claimed}, Turning.{Shares, set_found}}}

pub no_other : (j : ℕ) → j ≢ j + 1
no_other j is = omega (arith, is)

module _ {B : Type 0} where
  -- WHAT A STEP LEAVES OF OTHERS, where only seats, the idle set and the global queue change, or nothing does
  pub spares_self : (j : ℕ) (s : Shared B) → Spares j s s
  spares_self j s = spares_turn (j + 1) j s s (no_other j) refl (seats_same (j + 1) s.seats.items s.seats.items refl)

  pub hears_same : (slot slot' : TaskSlot B) → slot ≡ slot' → Hears slot slot'
  hears_same slot slot' is = subst (Hears slot) is (record { home = refl; body = refl; going = λ h. h; told = λ answer can. (can, refl) })

  pub beside_shares : (c c' : Caller) (s s' : Shared B) → Shares s s' → ((i : ℕ) → SparesSeats i s.seats.items s'.seats.items) → ((others : Profile) → IsWhole (with_caller others c) s → IsWhole (with_caller others c') s') → CallBeside c s c' s'
  beside_shares c c' s s' shares seats whole =
      let tasks : s'.tasks.items ≡ s.tasks.items = ap (λ (z : Shared B). z.tasks.items) shares in
      record {
        spares = λ j. spares_turn (j + 1) j s s' (no_other j) shares (seats (j + 1));
        for_all = λ all. subst HoldsForAll (sym shares) (record { homes = subst (λ n. AreHome s.config.workers n s.tasks.items) (sym (seats 0).many) all.homes; resting = all.resting; owning = all.owning; closed = all.closed; few = all.few });
        whole = whole;
        hears = grind (arith, tasks, hears_same);
      }

  pub sound_shares : (c c' : Caller) (s s' : Shared B) → CallSound c s → Shares s s' → length s'.seats.items ≡ length s.seats.items → IsInHand None (hands_on_in c'.place) c'.hand
      → ((r : Runnable) → Contains (option_to_list c'.hand) r → IsGenuine s.tasks.items r) → CallAims c'.place (length s.seats.items) → CallSound c' s'
  sound_shares c c' s s' sound shares many hand genuine aims =
      subst (CallSound c') (sym shares) (record { config = sound.config; homes = subst (λ n. AreHome s.config.workers n s.tasks.items) (sym many) sound.homes; many = omega (arith, many, sound.many); shards = sound.shards; hand = hand; genuine = genuine; aims = subst (CallAims c'.place) (sym many) aims })

  -- THE BALANCES

  -- the search count changes with what the caller holds of it
  pub whole_idled : (c c' : Caller) (s : Shared B) (x : Idle) → c'.hand ≡ c.hand → x.published ≡ s.idle.published → x.count + one_if (has_count_in c.place) ≡ s.idle.count + one_if (has_count_in c'.place)
      → (others : Profile) → IsWhole (with_caller others c) s → IsWhole (with_caller others c') (record s { idle = x })
  whole_idled = grind arith

  -- a claim hands the count over to the worker whose bit it takes
  pub whole_claimed : (c c' : Caller) (s : Shared B) (k : ℕ) (x : Idle) → c'.hand ≡ c.hand → has_count_in c.place ≡ true → has_count_in c'.place ≡ false → lowest_of s.idle.published ≡ Some k → x ≡ record s.idle { published = slice_set s.idle.published k false }
      → (others : Profile) → IsWhole (with_caller others c) s → IsWhole (with_caller others c') (record s { idle = x })
  whole_claimed c c' s k x hand counted uncounted lowest is others whole = subst (λ y. IsWhole (with_caller others c') (record s { idle = y })) (sym is) done
    where
      set : List Bool
      set = s.idle.published

      set' : List Bool
      set' = slice_set s.idle.published k false

      x1 : Idle
      x1 = record s.idle { published = slice_set s.idle.published k false }

      n : ℕ
      n = s.config.workers

      found : (k < length s.idle.published) × (is_in s.idle.published k ≡ true)
      found = let it = position-Some (λ b. b) s.idle.published k false lowest in (it.0, it.1)

      shown : (others.published k ≡ true) × (k < s.config.workers)
      shown = whole.bits k found.1

      balance : claimed_count others (record s { idle = x1 }) ≡ claimed_count others s + 1
      balance =
          let f : ℕ → ℕ = λ j. one_if (others.published j && not (is_in set j)) in
          let g : ℕ → ℕ = λ j. one_if (others.published j && not (is_in set' j)) in
          let same : (j : ℕ) → j ≢ k → g j ≡ f j = λ j other. rw (set_beside set k j false other) refl in
          let at_f : f k ≡ 0 = rw (shown.0, found.1) refl in
          let at_g : g k ≡ 1 = rw (shown.0, set_at set k false found.0) refl in
          omega (arith, sum_one f g k 0 n (omega arith) (omega (arith, shown.1)) same, at_f, at_g)

      counts : (others.counts + one_if (has_count_in c'.place)) + claimed_count others (record s { idle = x1 }) ≡ s.idle.count
      counts =
          let was : (others.counts + one_if (has_count_in c.place)) + claimed_count others s ≡ s.idle.count = whole.counts in
          let own : one_if (has_count_in c.place) ≡ 1 = rw counted refl in
          let own' : one_if (has_count_in c'.place) ≡ 0 = rw uncounted refl in
          omega (arith, was, own, own', balance)

      done : IsWhole (with_caller others c') (record s { idle = x1 })
      done =
          let runnables : (t : ℕ) (slot : TaskSlot B) → slice_get s.tasks.items t ≡ Some slot → slot.home ≡ None → HasOne (may_let_go s) slot.cell.phase ((with_caller others c').runnables t + stock t s) = λ t slot there home. rw hand (whole.runnables t slot there home) in
          let bits : (j : ℕ) → is_in set' j ≡ true → (others.published j ≡ true) × (j < s.config.workers) = grind (arith, by_number, set_beside, set_at, found) in
          let many : length set' ≡ 64 = length-set set k false ∙ whole.set in
          let made : (t : ℕ) → length s.tasks.items ≤ t → ((with_caller others c').runnables t + stock t s ≡ 0) × (others.polls t ≡ 0) = λ t more. rw hand (whole.made t more) in
          assumption (runnables, counts, bits, many, made, whole)

  -- one more count fits, and who holds one can return it
  pub call_count_fits : (c : Caller) (s : Shared B) → CallSound c s → HasCallWhole c s → s.idle.count + 1 < 2 ^ 64
  call_count_fits = grind (arith, sum_few, at_most)

  pub call_has_count : (c : Caller) (s : Shared B) → has_count_in c.place ≡ true → HasCallWhole c s → 0 < s.idle.count
  call_has_count = grind arith

  -- who can be claimed is a worker
  call_claims : (c : Caller) (s : Shared B) (k : ℕ) → CallSound c s → HasCallWhole c s → lowest_of s.idle.published ≡ Some k → k < length s.seats.items
  call_claims c s k sound has lowest =
      let found = position-Some (λ b. b) s.idle.published k false lowest in
      omega (arith, (has.whole.bits k found.1).1, sound.many)

-- WHERE A STEP LEADS, with a search count or without, and with nothing to be queued
pub record Leads (counted : Bool) (workers : ℕ) (next : CallPlace) : Type 0 where
  pub going : is_free next ≡ false
  pub empty : hands_on_in next ≡ false
  pub counts : has_count_in next ≡ counted
  pub aims : CallAims next workers

pub leads_either : (counted : Bool) (workers : ℕ) (b : Bool) (x y : CallPlace) → (b ≡ true → Leads counted workers x) → Leads counted workers y → Leads counted workers (if b then x else y)
leads_either counted workers true x y f g = f refl
leads_either counted workers false x y f g = g

pub to_return : (workers : ℕ) → Leads false workers call.Return
to_return workers = record { going = refl; empty = refl; counts = refl; aims = tt }

to_load : (workers : ℕ) → Leads false workers (call.Global global.LoadGlobalSet)
to_load workers = record { going = refl; empty = refl; counts = refl; aims = tt }

-- THE CALL, of which the machine knows whether it is half done

going_call : (p : CallPlace) → is_free p ≡ false → call_of p ≡ half.HalfDone
going_call call.Nothing h = absurd (false≢true (sym h))
going_call _ h = refl

pub still_called : (vs : Views) (j : ℕ) (p q : CallPlace) → slice_get vs.calls j ≡ Some (call_of p) → is_free p ≡ false → is_free q ≡ false → with_call vs j (call_of q) ≡ vs
still_called vs j p q seen going still = ap (λ xs. record vs { calls = xs }) (ap (slice_set vs.calls j) (going_call q still ∙ sym (going_call p going)) ∙ set_found vs.calls j (call_of p) seen)

module _ {B L : Type 0} (left : B → L) (spot : L → Option Said → Spot) where
  pub may_be_gone_on : (p : Plan) (vs : Views) (s : Shared B) (j : ℕ) (at : CallPlace) → slice_get vs.calls j ≡ Some (call_of at) → is_free at ≡ false → may_go_on (common_of left spot p vs s) j ≡ true
  may_be_gone_on p vs s j at seen going = ap is_half_done (get_or_from_slice_get vs.calls j half.HalfDone half.Nothing (seen ∙ ap (λ x. Some x) (going_call at going)))

  -- A turn of a call: of what the machine sees nothing changes.
  pub call_turned : (c c' : Caller) (s s' : Shared B) (e : Event) → is_free c.place ≡ false → is_free c'.place ≡ false → e ≡ Turn → Shares s s' → s'.global.closed ≡ s.global.closed → ((vs : List Visible) → seats_seen vs s'.seats.items ≡ seats_seen vs s.seats.items)
      → CallSound c' s' → CallBeside c s c' s'
      → ((p : Plan) (vs : Views) → length vs.workers ≡ length s.seats.items → call_on (common_of left spot p vs s) (desk_of_caller c) (things_with vs s) c.place ≡ record { event = Turn; choice = Plain; desk = desk_of_caller c'; thing = things_with vs s' })
      → CallSteps left spot c s e c' s'
  call_turned c c' s s' e going still event shares closed seats sound beside moves = (
    (λ p vs j suits.
        let cs = common_of left spot p vs s in
        let again : with_call vs j (call_of c'.place) ≡ vs = still_called vs j c.place c'.place suits.seen going still in
        let kept : common_by cs (action.GoOn j) e Plain ≡ cs = rw event refl in
        record {
          choice = Plain;
          moves = moves p vs suits.workers ∙ ap (λ x. record { event = x; choice = Plain; desk = desk_of_caller c'; thing = things_with vs s' }) (sym event);
          may = rw event (may_be_gone_on p vs s j c.place suits.seen going, tt);
          common = grind (arith, again, shares, seats vs.workers, closed, kept);
        }),
    sound,
    beside,
  )

  -- A step on the idle set.
  module _ (c c' : Caller) (s : Shared B) (e : Event) (sound : CallSound c s) where
    pub call_idled : (counted : Bool) (x : Idle) (next : CallPlace) → is_free c.place ≡ false → hands_on_in c.place ≡ false → Leads counted (length s.seats.items) next → e ≡ Turn → c' ≡ record c { place = next }
        → ((others : Profile) → IsWhole (with_caller others c) s → IsWhole (with_caller others (record c { place = next })) (record s { idle = x }))
        → ((p : Plan) (vs : Views) → call_on (common_of left spot p vs s) (desk_of_caller c) (things_with vs s) c.place ≡ record { event = Turn; choice = Plain; desk = record (desk_of_caller c) { place = next }; thing = record (things_with vs s) { idle = x } })
        → CallSteps left spot c s e c' (record s { idle = x })
    call_idled counted x next going empty leads event goes whole moves =
        let c1 : Caller = record c { place = next } in
        let s1 : Shared B = record s { idle = x } in
        let hand : IsInHand None (hands_on_in next) c.hand = subst (λ b. IsInHand None b c.hand) (empty ∙ sym leads.empty) sound.hand in
        subst (λ y. CallSteps left spot c s e y s1) (sym goes)
        (call_turned c c1 s s1 e going leads.going event refl refl (λ vs. refl)
        (sound_shares c c1 s s1 sound refl refl hand sound.genuine leads.aims)
        (beside_shares c c1 s s1 refl (λ i. seats_same i s.seats.items s.seats.items refl) whole)
        (λ p vs many. moves p vs))

    -- the balance, by what the caller held and holds then
    recounted : (before after : Bool) (x : Idle) (next : CallPlace) → has_count_in c.place ≡ before → Leads after (length s.seats.items) next → x.published ≡ s.idle.published → x.count + one_if before ≡ s.idle.count + one_if after
        → (others : Profile) → IsWhole (with_caller others c) s → IsWhole (with_caller others (record c { place = next })) (record s { idle = x })
    recounted before after x next here leads set moved =
        let a : one_if (has_count_in c.place) ≡ one_if before = ap one_if here in
        let b : one_if (has_count_in next) ≡ one_if after = ap one_if leads.counts in
        whole_idled c (record c { place = next }) s x refl set (omega (arith, moved, a, b))

    pub call_set_loaded : c.place ≡ call.Global global.LoadGlobalSet → e ≡ Turn → c' ≡ record c { place = place_by_set s.idle } → CallSteps left spot c s e c' s
    call_set_loaded here event goes =
        let leads : Leads false (length s.seats.items) (place_by_set s.idle) =
        leads_either false (length s.seats.items) (has_any s.idle) (call.Global (global.AddGlobalCount (set_of s.idle))) call.Return
        (λ any. record { going = refl; empty = refl; counts = refl; aims = someone s.idle any }) (to_return (length s.seats.items)) in
        call_idled false s.idle (place_by_set s.idle) (rw here refl) (rw here refl) leads event goes
        (recounted false false s.idle (place_by_set s.idle) (rw here refl) leads refl refl)
        (λ p vs. rw here refl)

    pub call_count_added : (set : WorkerSet) (x : Idle) → c.place ≡ call.Global (global.AddGlobalCount set) → e ≡ Turn → c' ≡ record c { place = call.ClaimWorker set } → x ≡ record s.idle { count = s.idle.count + 1 } → CallSteps left spot c s e c' (record s { idle = x })
    call_count_added set x here event goes is =
        let aims : IsSome (lowest_of set.has) = rw here at sound.aims in
        let leads : Leads true (length s.seats.items) (call.ClaimWorker set) = record { going = refl; empty = refl; counts = refl; aims = aims } in
        let more : x.count ≡ s.idle.count + 1 = ap (λ i. i.count) is in
        call_idled true x (call.ClaimWorker set) (rw here refl) (rw here refl) leads event goes
        (recounted false true x (call.ClaimWorker set) (rw here refl) leads (ap (λ i. i.published) is) (omega (arith, more)))
        (λ p vs. rw (here, is) refl)

    pub call_count_returned : (x : Idle) → c.place ≡ call.Global global.ReturnGlobalCount → 0 < s.idle.count → e ≡ Turn → c' ≡ record c { place = place_by_count s.idle } → x ≡ record s.idle { count = s.idle.count - 1 } → CallSteps left spot c s e c' (record s { idle = x })
    call_count_returned x here some event goes is =
        let leads : Leads false (length s.seats.items) (place_by_count s.idle) =
        leads_either false (length s.seats.items) (s.idle.count == 1) (call.Global global.LoadGlobalSet) call.Return (λ last. to_load (length s.seats.items)) (to_return (length s.seats.items)) in
        let less : x.count ≡ s.idle.count - 1 = ap (λ i. i.count) is in
        call_idled false x (place_by_count s.idle) (rw here refl) (rw here refl) leads event goes
        (recounted true false x (place_by_count s.idle) (rw here refl) leads (ap (λ i. i.published) is) (omega (arith, less, some)))
        (λ p vs. rw (here, is) refl)

    pub call_worker_claimed : (set : WorkerSet) (x : Idle) → c.place ≡ call.ClaimWorker set → HasCallWhole c s → e ≡ Turn → c' ≡ record c { place = after_claim (claimed set s.idle) } → x ≡ idle_after (claimed set s.idle) s.idle → CallSteps left spot c s e c' (record s { idle = x })
    call_worker_claimed set x here has event goes is = by (claimed set s.idle) refl goes is
      where
        by : (found : Claimed) → claimed set s.idle ≡ found → c' ≡ record c { place = after_claim found } → x ≡ idle_after found s.idle → CallSteps left spot c s e c' (record s { idle = x })
        by (Claimed.Worker k) found goes is =
            let lowest : lowest_of s.idle.published ≡ Some k = lowest_claimed (same_bools set.has s.idle.published) (set_of s.idle) (lowest_of s.idle.published) k found in
            let leads : Leads false (length s.seats.items) (call.Signal signals.SetLatch k) = record { going = refl; empty = refl; counts = refl; aims = call_claims c s k sound has lowest } in
            call_idled false x (call.Signal signals.SetLatch k) (rw here refl) (rw here refl) leads event goes
            (whole_claimed c (record c { place = call.Signal signals.SetLatch k }) s k x refl (rw here refl) refl lowest is)
            (λ p vs. rw (here, found, is) refl)
        by (Claimed.Again other) found goes is =
            let again = again_some (same_bools set.has s.idle.published) (set_of s.idle) (lowest_of s.idle.published) other found in
            let some : IsSome (lowest_of other.has) = rw again.0 again.1 in
            let leads : Leads true (length s.seats.items) (call.ClaimWorker other) = record { going = refl; empty = refl; counts = refl; aims = some } in
            call_idled true x (call.ClaimWorker other) (rw here refl) (rw here refl) leads event goes
            (recounted true true x (call.ClaimWorker other) (rw here refl) leads (ap (λ i. i.published) is) (ap (λ i. i.count + 1) is))
            (λ p vs. rw (here, found, is) refl)
        by Claimed.Nobody found goes is =
            let leads : Leads true (length s.seats.items) (call.Global global.ReturnGlobalCount) = record { going = refl; empty = refl; counts = refl; aims = tt } in
            call_idled true x (call.Global global.ReturnGlobalCount) (rw here refl) (rw here refl) leads event goes
            (recounted true true x (call.Global global.ReturnGlobalCount) (rw here refl) leads (ap (λ i. i.published) is) (ap (λ i. i.count + 1) is))
            (λ p vs. rw (here, found, is) refl)

    -- The call is over.
    pub call_returned : c.place ≡ call.Return → e ≡ Return → c' ≡ record c { place = call.Nothing } → CallSteps left spot c s e c' s
    call_returned here event goes = subst (λ y. CallSteps left spot c s e y s) (sym goes) (
      (λ p vs j suits.
          let going : is_free c.place ≡ false = rw here refl in
          record {
            choice = Plain;
            moves = rw (here, event) refl;
            may = rw event (may_be_gone_on p vs s j c.place suits.seen going, tt);
            common = rw event refl;
          }),
      sound_shares c (record c { place = call.Nothing }) s s sound refl refl (rw here at sound.hand) sound.genuine tt,
      beside_shares c (record c { place = call.Nothing }) s s refl (λ i. seats_same i s.seats.items s.seats.items refl)
          (whole_idled c (record c { place = call.Nothing }) s s.idle refl refl (rw here refl)),
    )
