-- What the append of a caller's runnable to the global queue is to the machine, and why there is a place for it.
use Rattle.std.proofs.{Common.{◌≡◌, ℕ, ◌+◌, ◌<◌, ◌≤◌, inl, inr, Bool, true, false, Contains, List, [], ◌∷◌, ◌++◌, length, Option, None, Some, IsSome, refl, sym, ap, subst, ◌∙◌, arith, option_map, option_to_list, slice_get, if◌then◌else◌}, lemmas.{List.{map-append, Elements.{Contains-append_cases, Contains-push_cases}}, Option.slice_get_within}}
use Rattle.exec_words.specs.Global.{Global, spare_places}
use Rattle.exec_task.specs.declared.{body.Said.Said, runnable.Runnable.Runnable}
use Rattle.exec_machine.specs.{declared.event.Event.{Event, TheVariants.Turn}, Choice.Choice.Plain, Progress.Plan}
use Rattle.exec_moves.specs.{Global.appended_if, MoveOfCaller.call_on, Push.in_hand, Thing.set_global, declared.handing.CallPlace.CallPlace as call}
use Rattle.exec_parts.{specs.{declared.parts.{shared.Shared.Shared, task_slot.TaskSlot.TaskSlot}, Spots.Spot, View.{Views, common_of, tasks_of, things_with}}, proofs.Facts.some_of}
use Rattle.exec_polling.{specs.{declared.caller.Caller.Caller, Calling.{CallSound, CallSteps, HasCallWhole, desk_of_caller, hands_on_in, has_count_in, is_free, place_after_append, with_caller}}, proofs.Outsiders.{beside_shares, call_turned, sound_shares}}
use Rattle.exec_invariants.{specs.{Places.one_if, Whole.{HasOne, IsGenuine, IsWhole, Profile, claimed_count, may_let_go, runnables_in, stock}}, proofs.{Appending.{few_enough, hand_seen, not_among}, Aside.seats_same, Onces.has_at_most, Thieves.in_both}}
use Rattle.exec_moves.specs.declared.handing.InGlobal.TheVariants as global

module _ {B : Type 0} where
  -- of runnables that parties have or share there is one of each task
  once_each : (x : Profile) (s : Shared B) (rs : List Runnable) → IsWhole x s → ((r : Runnable) → Contains rs r → IsGenuine s.tasks.items r) → ((t : ℕ) → runnables_in t rs ≤ x.runnables t + stock t s) → (t : ℕ) → runnables_in t rs ≤ 1
  once_each x s rs whole genuine fewer t = by (slice_get s.tasks.items t) refl
    where
      none : ((slot : TaskSlot B) → slice_get s.tasks.items t ≡ Some slot → slot.home ≡ None → ⊥) → runnables_in t rs ≤ 1
      none other =
          let no : runnables_in t rs ≡ 0 =
          not_among t rs (λ r among same.
          let it = genuine r among in
          other it.slot (subst (λ n. slice_get s.tasks.items n ≡ Some it.slot) same it.there) it.ordinary) in
          omega (arith, no)

      by_home : (slot : TaskSlot B) → slice_get s.tasks.items t ≡ Some slot → (o : Option ℕ) → slot.home ≡ o → runnables_in t rs ≤ 1
      by_home slot there None home =
          let most : x.runnables t + stock t s ≤ 1 = has_at_most (may_let_go s) slot.cell.phase (x.runnables t + stock t s) (whole.runnables t slot there home) in
          omega (arith, most, fewer t)
      by_home slot there (Some i) home =
          none (λ o found ordinary.
          let is : o ≡ slot = cc (found, there) in
          let no : None ≡ Some i = sym ordinary ∙ ap (λ (y : TaskSlot B). y.home) is ∙ home in
          cc (no))

      by : (o : Option (TaskSlot B)) → slice_get s.tasks.items t ≡ o → runnables_in t rs ≤ 1
      by None nothing = none (λ o found ordinary. cc (found, nothing))
      by (Some slot) there = by_home slot there slot.home refl

  module _ (c : Caller) (s : Shared B) (sound : CallSound c s) (here : c.place ≡ call.Global global.Append) where
    in_its_hand : IsSome c.hand
    in_its_hand = rw here at sound.hand

    pub call_holds : (r : Runnable) × (c.hand ≡ Some r)
    call_holds = some_of c.hand in_its_hand

    its_genuine : IsGenuine s.tasks.items call_holds.0
    its_genuine = sound.genuine call_holds.0 (subst (λ o. Contains (option_to_list o) call_holds.0) (sym call_holds.1) (0, omega arith, refl))

    all_genuine : HasCallWhole c s → (x : Runnable) → Contains (call_holds.0 ∷ s.global.values) x → IsGenuine s.tasks.items x
    all_genuine has x among =
        elim (Contains-append_cases (call_holds.0 ∷ []) s.global.values x among) [
          | inl mine ↦ elim (Contains-push_cases [] call_holds.0 x mine) [ inl nothing ↦ absurd (omega (arith, nothing.1)) | inr same ↦ subst (IsGenuine s.tasks.items) same its_genuine ]
          | inr there ↦ has.whole.queued_there x there
        ]

    -- there is a place for it
    pub call_fits : HasCallWhole c s → s.global.closed ≡ false → 0 < spare_places s.global
    call_fits has opened =
        let all : List Runnable = call_holds.0 ∷ s.global.values in
        let held : (t : ℕ) → runnables_in t (option_to_list c.hand) ≡ runnables_in t (call_holds.0 ∷ []) = λ t. ap (λ o. runnables_in t (option_to_list o)) call_holds.1 in
        let fewer : (t : ℕ) → runnables_in t all ≤ (with_caller has.others c).runnables t + stock t s = λ t. omega (arith, in_both t (call_holds.0 ∷ []) s.global.values, held t) in
        let most : length all ≤ length s.tasks.items =
        few_enough all (length s.tasks.items)
        (λ r among. let it = all_genuine has r among in slice_get_within s.tasks.items r.task.0 it.slot it.there)
        (λ t less. once_each (with_caller has.others c) s all has.whole (all_genuine has) fewer t) in
        omega (arith, most, has.whole.places opened)

module _ {B L : Type 0} (left : B → L) (spot : L → Option Said → Spot) (c c' : Caller) (s s' : Shared B) (e : Event) (sound : CallSound c s) (here : c.place ≡ call.Global global.Append) where
  abbrev queue_by : Bool → Global Runnable
  queue_by gone = record s.global { values = (if gone then s.global.values else s.global.values ++ option_to_list c.hand) }

  abbrev caller_by : Bool → Caller
  caller_by gone = record c { place = place_after_append gone; hand = None }

  -- THE BALANCES

  counts_still : (gone : Bool) (others : Profile) → IsWhole (with_caller others c) s → (others.counts + one_if (has_count_in (place_after_append gone))) + claimed_count others s ≡ s.idle.count
  counts_still = grind arith

  whole_gone : s.global.closed ≡ true → (others : Profile) → IsWhole (with_caller others c) s → IsWhole (with_caller others (caller_by true)) (record s { global = queue_by true })
  whole_gone = grind arith

  whole_put : (others : Profile) → IsWhole (with_caller others c) s → IsWhole (with_caller others (caller_by false)) (record s { global = queue_by false })
  whole_put others whole =
      let moved : (t : ℕ) → (others.runnables t + runnables_in t (option_to_list c.hand)) + stock t s ≡ (others.runnables t + 0) + stock t (record s { global = queue_by false }) = λ t. omega (arith, in_both t s.global.values (option_to_list c.hand)) in
      let s1 : Shared B = record s { global = queue_by false } in
      let runnables : (t : ℕ) (slot : TaskSlot B) → slice_get s.tasks.items t ≡ Some slot → slot.home ≡ None → HasOne (may_let_go s) slot.cell.phase ((others.runnables t + 0) + stock t s1) = λ t slot there home. subst (HasOne (may_let_go s) slot.cell.phase) (moved t) (whole.runnables t slot there home) in
      let counts = counts_still false others whole in
      let queued_there : (r : Runnable) → Contains (queue_by false).values r → IsGenuine s.tasks.items r = λ r among. elim (Contains-append_cases s.global.values (option_to_list c.hand) r among) [ inl there ↦ whole.queued_there r there | inr mine ↦ sound.genuine r mine ] in
      let made : (t : ℕ) → length s.tasks.items ≤ t → ((others.runnables t + 0) + stock t s1 ≡ 0) × (others.polls t ≡ 0) = λ t more. let none = whole.made t more in (sym (moved t) ∙ none.0, none.1) in
      assumption (runnables, counts, queued_there, made, whole)

  -- what stands in the queue then, as it is seen
  shows : (gone : Bool) → appended_if gone (tasks_of s.global.values) (in_hand (option_map (λ r. r.task.0) c.hand)) ≡ tasks_of (queue_by gone).values
  shows = grind (arith, hand_seen, map-append)

  done : (gone : Bool) → s.global.closed ≡ gone → is_free (place_after_append gone) ≡ false → hands_on_in (place_after_append gone) ≡ false → e ≡ Turn
      → ((others : Profile) → IsWhole (with_caller others c) s → IsWhole (with_caller others (caller_by gone)) (record s { global = queue_by gone }))
      → ((p : Plan) (vs : Views) → call_on (common_of left spot p vs s) (desk_of_caller c) (things_with vs s) c.place ≡ record { event = Turn; choice = Plain; desk = desk_of_caller (caller_by gone); thing = set_global (things_with vs s) (appended_if gone (tasks_of s.global.values) (in_hand (option_map (λ r. r.task.0) c.hand))) })
      → CallSound (caller_by gone) (record s { global = queue_by gone }) → CallSteps left spot c s e (caller_by gone) (record s { global = queue_by gone })
  done gone is going empty event whole moves still =
      let s1 : Shared B = record s { global = queue_by gone } in
      call_turned left spot c (caller_by gone) s s1 e (rw here refl) going event refl refl (λ vs. refl) still
      (beside_shares c (caller_by gone) s s1 refl (λ i. seats_same i s.seats.items s.seats.items refl) whole)
      (λ p vs many. moves p vs ∙ ap (λ ts. record { event = Turn; choice = Plain; desk = desk_of_caller (caller_by gone); thing = set_global (things_with vs s) ts }) (shows gone))

  none_held : (r : Runnable) → Contains [] r → IsGenuine s.tasks.items r
  none_held r nothing = absurd (omega (arith, nothing.1))

  pub call_appended : e ≡ Turn → c' ≡ record c { place = place_after_append s.global.closed; hand = None }
      → s' ≡ record s { global = record s.global { values = (if s.global.closed then s.global.values else s.global.values ++ option_to_list c.hand) } } → CallSteps left spot c s e c' s'
  call_appended event goes puts = by s.global.closed refl goes puts
    where
      by : (gone : Bool) → s.global.closed ≡ gone → c' ≡ caller_by gone → s' ≡ record s { global = queue_by gone } → CallSteps left spot c s e c' s'
      by true is goes puts =
          subst (λ z. CallSteps left spot c s e c' z) (sym puts)
          (subst (λ y. CallSteps left spot c s e y (record s { global = queue_by true })) (sym goes)
          (done true is refl refl event (whole_gone is) (λ p vs. rw (here, is) refl) (sound_shares c (caller_by true) s (record s { global = queue_by true }) sound refl refl refl none_held tt)))
      by false is goes puts =
          subst (λ z. CallSteps left spot c s e c' z) (sym puts)
          (subst (λ y. CallSteps left spot c s e y (record s { global = queue_by false })) (sym goes)
          (done false is refl refl event whole_put (λ p vs. rw (here, is) refl) (sound_shares c (caller_by false) s (record s { global = queue_by false }) sound refl refl refl none_held tt)))
