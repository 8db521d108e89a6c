-- Deadlines that are kept: one that is enrolled, when a wheel is settled, and what comes next of one: the deadline of a
-- request.
use Rattle.std.{proofs.{Common.{suc, ◌≡◌, ℕ, ◌+◌, ◌<◌, ◌≤◌, eqb, Bool, true, false, not, ◌&&◌, ◌||◌, List, [], ◌∷◌, length, get_or, Option, Some, None, Ok, Err, Result, refl, sym, ap, subst, ◌∙◌, inl, inr, arith, ◌-◌}, lemmas.{Bool.{false≢true, cases_lt, Decides.{eqb_tells, nat_tests}}, List.{Sums.sum_by-cons, Elements.{Contains-append_left, Contains-append_right}}}}, specs.{Prelude.{count_by, is_some, Contains, find, nat_lt}, Option.{IfSome, IfNone}, List.range_with_len}}
use Rattle.exec_driver.{proofs.{Words.cases_Bool, Endings.{one_changed, ticked}, Expiring.{IsTaken, tick_tells, unset_there}, Serving.{eases_ended, keeps_still, keeps_both, serves_by, room_ended, room_still}, Stepping.{first_tells, no_first}, Advancing.tick_there}, specs.{Driving.{Driving, request_at}, Punctual.{IsPunctual, IsFirstTick, TellsDeadlines}, Sound.{IsSound, is_tick, is_at_tick}, Steps.{tick_for, enrolled, told_by_enrolment, ended, Enrols}, Turns.Serves, declared.driver.timing.Enrolled.Enrolled}}
use Rattle.exec_lists.{proofs.{Names.{same_tells, fewer_without}, Counting.pending_is}, specs.{Lists.{has_first, first_of, is_among, after_enrolment}, Listed.{counts, count_of}}}
use Rattle.exec_base.specs.{Slab.{Slab, written}, declared.{error.Error.Error, slab.{Id.Id, Slot.{Slot, TheVariants.{Live, Vacant, Retired}}}}}
use Rattle.exec_request.specs.Requests.{deadline_of}
use Rattle.exec_time.{specs.{Wheel.{Wheel, IsSettled, IsWithinReach, slot_of, scheduled, least_active}, WheelView.wheel_of, declared.wheel.TimeoutWheel.TimeoutWheel}, proofs.{Ranges.slots_apart, Passes.least_before}}
use Rattle.exec_waiters.{specs.{Events.with_tick, States.{waiter_at, tick_in, tick_of}, Told.Tells, declared.{deferred.Deferred.Deferred, waiter.{Waiter.Waiter, Entry.{Entry, TheVariants.{Pending, Ready}}}, waiter_id.WaiterId.WaiterId}}, proofs.Changes.one_if}

-- WHEELS

pub reach_of : (w : TimeoutWheel) → IsWithinReach (wheel_of w)
unfolding wheel_of
reach_of w = record { span = w.in_span }

pub turns_of : (w : TimeoutWheel) → 0 < (wheel_of w).tick
unfolding wheel_of
turns_of w = w.turns

pub some_slots_of : (w : TimeoutWheel) → 0 < (wheel_of w).slots
unfolding wheel_of
some_slots_of w = w.has_slots

-- the entries of a bucket stay where another is scheduled
bucket_kept : (w : Wheel) (id other : Id) (tick t : ℕ) → 0 < w.slots → w.current < t → t < w.current + w.slots → w.current < tick → tick < w.current + w.slots → 0 < w.active t → Contains (w.bucket (slot_of w t)) other → Contains ((scheduled w id tick).bucket (slot_of w t)) other
unfolding scheduled
bucket_kept w id other tick t some after within after' within' active there =
    elim (eqb_tells (slot_of w t) (slot_of w tick)) [
      | inr apart ↦ rw apart.0 there
      | inl same ↦
          let is : t ≡ tick = one_slot t tick after within after' within' same.1 in
          let busy : eqb (w.active tick) 0 ≡ false = positive (w.active tick) (rw (← is) active) in
          rw (same.0, busy) (Contains-append_left _ _ _ there)
    ]
  where
    positive : (n : ℕ) → 0 < n → eqb n 0 ≡ false
    positive n some = elim (eqb_tells n 0) [ inl none ↦ absurd (omega (arith, some, none.1)) | inr other ↦ other.0 ]

    one_slot : (a b : ℕ) → w.current < a → a < w.current + w.slots → w.current < b → b < w.current + w.slots → slot_of w a ≡ slot_of w b → a ≡ b
    one_slot = grind (arith, cases_lt, slots_apart)

bucket_own : (w : Wheel) (id : Id) (tick : ℕ) → Contains ((scheduled w id tick).bucket (slot_of w tick)) id
unfolding scheduled
bucket_own w id tick = elim (eqb_tells (slot_of w tick) (slot_of w tick)) [ inl same ↦ rw same.0 (Contains-append_right _ (id ∷ []) id (0, omega arith, refl)) | inr other ↦ absurd (other.1 refl) ]

like_scheduled : (w : Wheel) (id : Id) (tick : ℕ) → ((scheduled w id tick).current ≡ w.current) × ((scheduled w id tick).slots ≡ w.slots)
unfolding scheduled
like_scheduled w id tick = (refl, refl)

none_among : (ids : List WaiterId) (id : WaiterId) → has_first ids ≡ false → is_among id ids ≡ false
none_among = grind arith

tick_is : (t : ℕ) (tick : Option ℕ) → is_tick t tick ≡ true → tick ≡ Some t
tick_is = grind (arith, eqb_tells)

module _ {S F : Type 0} where
  -- where some are counted, there is one
  pub counted : (p : Slot (Entry S F) → Bool) (d : Slot (Entry S F)) (xs : List (Slot (Entry S F))) → 0 < count_by p xs → (i : ℕ) × (p (get_or xs i d) ≡ true)
  counted p d [] some = absurd (omega (arith, some))
  counted p d (x ∷ xs) some =
      elim (cases_Bool (p x)) [
        | inl there ↦ (0, there)
        | inr other ↦
            let none : one_if (p x) ≡ 0 = rw other refl in
            let rest = counted p d xs (omega (arith, some, none, sum_by-cons (λ o. one_if (p o)) x xs)) in
            (suc rest.0, rest.1)
      ]

  pub named_there : (s : Slab (Entry S F)) (t i : ℕ) (o : Slot (Entry S F)) → get_or s.slots i (Vacant s.first) ≡ o → counts (is_at_tick t) o ≡ true → (id : WaiterId) × (tick_of (waiter_at s id.0) ≡ Some t)
  named_there s t i (Live g (Pending w)) at is =
      let self : eqb g g ≡ true = elim (eqb_tells g g) [ inl same ↦ same.0 | inr other ↦ absurd (other.1 refl) ] in
      (record { 0 = record { index = i; generation = g } }, rw (at, self) (tick_is t (tick_in w.state) is))
  named_there s t i (Live g (Ready told)) at is = absurd (false≢true is)
  named_there s t i (Vacant g) at is = absurd (false≢true is)
  named_there s t i Retired at is = absurd (false≢true is)

  -- A wheel is settled once all that is due was told.
  pub settled : (d : Driving S F) → ((t : ℕ) → d.wheel.active t ≡ count_of (is_at_tick t) d.requests) → IsPunctual d → has_first d.lists.due ≡ false → IsSettled d.wheel
  settled d ticks punctual none =
      record {
        ahead = λ t some.
            let place = counted (counts (is_at_tick t)) (Vacant d.requests.first) d.requests.slots (omega (arith, some, ticks t)) in
            let there = named_there d.requests t place.0 _ refl place.1 in
            (punctual.ahead there.0 t there.1 (none_among d.lists.due there.0 none)).0;
      }

  active_of : (d : Driving S F) (id : WaiterId) (t : ℕ) (o : Option (Waiter S F)) → request_at d id ≡ o → tick_of o ≡ Some t → IsSound d → 0 < d.wheel.active t
  active_of d id t None at is sound = absurd (cc)
  active_of d id t (Some w) at is sound = let active = ticked d id w at sound in rw is at active

  -- one more deadline is kept
  pub enrolled_punctual : (d d' : Driving S F) (id : WaiterId) (w : Waiter S F) (tick : ℕ) → 0 < d.wheel.slots → IsWithinReach d.wheel → IsSound d → IsTaken d.wheel tick → request_at d id ≡ Some w → d'.requests ≡ written d.requests id.0 (Pending (with_tick tick w)) → d'.wheel ≡ scheduled d.wheel id.0 tick → d'.lists.due ≡ d.lists.due → IsPunctual d → IsPunctual d'
  enrolled_punctual d d' id w tick slots reach sound taken at requests wheel due punctual =
      let one = one_changed d.requests id.0 w (with_tick tick w) at in
      let like = like_scheduled d.wheel id.0 tick in
      record {
        ahead = λ other t is out.
            elim (same_tells other id) [
              | inl same ↦
                  let now : Some tick ≡ Some t = ap tick_of (sym one.is_at) ∙ rw (same.1, requests) at is in
                  let e : tick ≡ t = cc in
                  rw (wheel, like.0, like.1, same.1, ← e) (taken.ahead, bucket_own d.wheel id.0 tick)
              | inr apart ↦
                  let before : tick_of (request_at d other) ≡ Some t = ap tick_of (sym (one.others other.0 apart.1)) ∙ rw requests at is in
                  let was = punctual.ahead other t before (rw due at out) in
                  let active = active_of d other t _ refl before sound in
                  rw (wheel, like.0, like.1) (was.0, bucket_kept d.wheel id.0 other.0 tick t slots was.0 (reach.span t active) taken.ahead taken.span active was.1)
            ];
      }

  -- what an enrolment leaves
  pub record EnrolsOne (d d' : Driving S F) (x y : Deferred S F) : Type 0 where
    pub serves : Serves d d' x y
    pub due : has_first d.lists.due ≡ false → has_first d'.lists.due ≡ false
    pub fewer : length d'.lists.enrolments < length d.lists.enrolments

  enrol_by : (d d' : Driving S F) (id : WaiterId) (w : Waiter S F) (x y : Deferred S F) (deadline now : ℕ) (r : Result ℕ Error) → 0 < d.wheel.slots → IsWithinReach d.wheel → IsSound d → tick_for d.wheel deadline now ≡ r → request_at d id ≡ Some w → first_of d.lists.enrolments ≡ Some id → d' ≡ enrolled d id w deadline now → Tells x y (told_by_enrolment id w (tick_for d.wheel deadline now)) → EnrolsOne d d' x y
  enrol_by d d' id w x y deadline now (Ok tick) slots reach sound tick_at at first is tells =
      let list = ap length (first_tells d.lists.enrolments id first) in
      let left : Driving S F = record d { lists = after_enrolment d.lists } in
      let e : Driving S F = record left { requests = written left.requests id.0 (Pending (with_tick tick w)); wheel = scheduled left.wheel id.0 tick } in
      let same : d' ≡ e = is ∙ rw tick_at refl in
      let one = one_changed d.requests id.0 w (with_tick tick w) at in
      let n = one.numbers is_some refl in
      let told = rw tick_at at tells in
      subst (λ (f : Driving S F). EnrolsOne d f x y) (sym same) (record {
        serves = record {
          going = grind (arith, pending_is, enrolled_punctual, tick_tells);
          room = room_still x y _ _ told (omega (arith, n, pending_is d.requests, pending_is e.requests));
        };
        due = λ none. none;
        fewer = omega (arith, list);
      })
  enrol_by d d' id w x y deadline now (Err error) slots reach sound tick_at at first is tells =
      let list = ap length (first_tells d.lists.enrolments id first) in
      let left : Driving S F = record d { lists = after_enrolment d.lists } in
      let e = ended left id w (Err error) None in
      let same : d' ≡ e = is ∙ rw tick_at refl in
      let over = eases_ended left id w (Err error) None at in
      let told = rw tick_at at tells in
      let less = fewer_without id left.lists.enrolments in
      subst (λ (f : Driving S F). EnrolsOne d f x y) (sym same) (record {
        serves = serves_by d e x y (keeps_both d left e (keeps_still d left refl refl refl refl (λ b. b)) over.keeps) (room_ended left id w (Err error) None None x y at told);
        due = over.done.due;
        fewer = omega (arith, list, less);
      })

  pub enrol_serves : (d d' : Driving S F) (o : Option Enrolled) (x y : Deferred S F) (now : ℕ) → 0 < d.wheel.slots → IsWithinReach d.wheel → IsSound d → has_first d.lists.enrolments ≡ true → IfSome o (λ e. first_of d.lists.enrolments ≡ Some e.id) → IfNone o (first_of d.lists.enrolments ≡ None) → IfSome o (λ e. Enrols d d' x y e.id e.ended now) → EnrolsOne d d' x y
  enrol_serves d d' None x y now slots reach sound some first none enrols = absurd (no_first d.lists.enrolments some none)
  enrol_serves d d' (Some e) x y now slots reach sound some first none enrols =
      let there = unset_there d.requests d.lists.enrolments e.id first sound.enrolments in
      let set = set_there (deadline_of there.w.request) there.unset.deadline in
      let how = enrols there.w set.0 there.at set.1 in
      enrol_by d d' e.id there.w x y set.0 now _ slots reach sound refl there.at first how.driver how.tells
    where
      set_there : (o : Option ℕ) → is_some o ≡ true → (t : ℕ) × (o ≡ Some t)
      set_there None is = absurd (false≢true is)
      set_there (Some t) is = (t, refl)

-- who puts the kernel off
pub put_off : (n m : ℕ) (defer a b : Bool) → m ≤ n → eqb m 0 ≡ false → (not (eqb n 0) && (not defer || a || b)) ≡ false → defer ≡ true
put_off = grind arith

found_passes : (p : ℕ → Bool) (xs : List ℕ) (x : ℕ) → find p xs ≡ Some x → p x ≡ true
found_passes p [] x is = absurd (cc)
found_passes p (y ∷ ys) x is = grind (arith, found_passes p ys x)

least_is_active : (w : Wheel) (t : ℕ) → least_active w ≡ Some t → 0 < w.active t
unfolding least_active
least_is_active w t is = let passes = found_passes (λ tick. nat_lt 0 (w.active tick)) (range_with_len (w.current + 1) (w.slots - 1)) t is in grind (arith, nat_tests, passes)

module _ {S F : Type 0} where
  first_tick : (d : Driving S F) → IsSound d → IsWithinReach d.wheel → IsSettled d.wheel → IsFirstTick d (least_active d.wheel)
  first_tick d sound reach settled = by (least_active d.wheel) refl
    where
      before : (id : WaiterId) (t : ℕ) → tick_of (request_at d id) ≡ Some t → (m : ℕ) × (least_active d.wheel ≡ Some m) × (m ≤ t)
      before id t at =
          let active = tick_there d.requests d.wheel.active id.0 (request_at d id) t refl at sound.ticks in
          least_before d.wheel t (settled.ahead t active) (reach.span t active) active

      by : (o : Option ℕ) → least_active d.wheel ≡ o → IsFirstTick d o
      by None none = λ id t at. let m = before id t at in let no : None ≡ Some m.0 = sym none ∙ m.1 in absurd (cc)
      by (Some first) is =
          let active = least_is_active d.wheel first is in
          let place = counted (counts (is_at_tick first)) (Vacant d.requests.first) d.requests.slots (omega (arith, active, sound.ticks first)) in
          (named_there d.requests first place.0 _ refl place.1, λ id t at. let m = before id t at in let same : Some first ≡ Some m.0 = sym is ∙ m.1 in let it : first ≡ m.0 = cc in omega (arith, it, m.2))

  pub tells_deadlines : (d : Driving S F) → IsSound d → IsWithinReach d.wheel → TellsDeadlines d
  tells_deadlines d sound reach = record { settled = settled d sound.ticks; first = first_tick d sound reach }
