-- A wheel that goes on keeps a driver as it should be: what comes out of it falls due one after the other, at its tick and
-- never before; until then it stays in its bucket.
use Rattle.std.{proofs.{Common.{◌≡◌, ◌≤◌, ltb, leb, ℕ, true, List, [], ◌∷◌, Option, Some, None, refl, sym, ap, ◌∙◌, inl, inr, arith, ◌⊎◌, ◌<◌, zero, suc, false, length}, lemmas.List.Folds.list_any-append}, specs.List.{Contains, slice_index_or}}
use Rattle.exec_driver.{proofs.{Words.{is_some, Slab, Id, Wheel, tick_at, least_active, turned, waiter_at, tick_in, Waiter, Entry, WaiterId, Driving, is_enrolled, Lists, is_among, with_due, IsListed, IsHeld, fallen_due, all_due, advanced_to, cases_Bool, or_left, or_right, false≢true, ltb-true, ltb-false, moment_of, tick_of, request_at, is_same, count_of, is_at_tick}, Expiring.held_due, Endings.ticked_in}, specs.Punctual.IsPunctual}
use Rattle.exec_lists.proofs.{Shifts.listed_push, Names.same_tells}
use Rattle.exec_time.{specs.{Turning.advanced, Wheel.{IsSettled, IsWithinReach, slot_of}}, proofs.Passes.{never_early, then_out, tick_ahead}}

-- what of a wheel says nothing of where it stands, nor of what is in it, stays as it goes on
turn_kept : {A : Type 0} (f : Wheel → A) → ((v : Wheel) (tick : ℕ) (bucket : ℕ → List Id) (ready : List Id) → f (record v { current = tick; bucket = bucket; ready = ready }) ≡ f v) → (w : Wheel) (tick : ℕ) (o : Option ℕ) → f (turned w tick o).wheel ≡ f w
turn_kept = grind (arith, cases_Bool)

pub kept_by_turn : {A : Type 0} (f : Wheel → A) → ((v : Wheel) (tick : ℕ) (bucket : ℕ → List Id) (ready : List Id) → f (record v { current = tick; bucket = bucket; ready = ready }) ≡ f v) → (w : Wheel) (now : ℕ) → f (advanced w now).wheel ≡ f w
unfolding advanced
kept_by_turn f kept w now =
    elim (cases_Bool (leb (tick_at w now) w.current)) [ inl still ↦ rw still refl | inr on ↦ rw on (turn_kept f kept w (tick_at w now) (least_active w)) ]

-- one that is due changes its list alone
due_alone : (id : WaiterId) (l : Lists) → with_due id l ≡ record l { due = (with_due id l).due }
due_alone id l = elim (cases_Bool (is_among id l.due)) [ inl there ↦ rw there refl | inr out ↦ rw out refl ]

module _ {S F : Type 0} where
  -- an id that comes out changes no other list, and joins the list of what is due where it has its deadline
  pub fallen_alone : (id : WaiterId) (o : Option (Waiter S F)) (l : Lists) → fallen_due id o l ≡ record l { due = (fallen_due id o l).due }
  fallen_alone = grind (arith, due_alone, cases_Bool)

  due_listed : (s : Slab (Entry S F)) (id : WaiterId) (l : Lists) → is_enrolled (waiter_at s id.0) ≡ true → IsListed is_enrolled s l.due → IsListed is_enrolled s (with_due id l).due
  due_listed s id l there listed = elim (cases_Bool (is_among id l.due)) [ inl in_it ↦ rw in_it listed | inr out ↦ rw out (listed_push is_enrolled s id l.due listed out there) ]

  fallen_listed : (s : Slab (Entry S F)) (id : WaiterId) (o : Option (Waiter S F)) (l : Lists) → waiter_at s id.0 ≡ o → IsListed is_enrolled s l.due → IsListed is_enrolled s (fallen_due id o l).due
  fallen_listed s id None l at listed = listed
  fallen_listed s id (Some w) l at listed =
      elim (cases_Bool (is_some (tick_in w.state))) [
        | inl there ↦ rw there (due_listed s id l (ap is_enrolled at ∙ there) listed)
        | inr out ↦ rw out listed
      ]

  pub all_alone : (s : Slab (Entry S F)) (ids : List Id) (l : Lists) → all_due s ids l ≡ record l { due = (all_due s ids l).due }
  all_alone s [] l = refl
  all_alone s (id ∷ ids) l =
      let first = fallen_due (record { 0 = id }) (waiter_at s id) l in
      all_alone s ids first ∙ ap (λ (m : Lists). record m { due = (all_due s ids first).due }) (fallen_alone (record { 0 = id }) (waiter_at s id) l)

  -- While what came out of the wheel falls due: the wheel is the one that turned but for what is still to come, which
  -- makes of the lists what all of it makes of them as they were.
  pub record AreFalling (s : Slab (Entry S F)) (turned : Wheel) (l : Lists) (w : Wheel) (lists : Lists) : Type 0 where
    pub wheel : record w { ready = [] } ≡ record turned { ready = [] }
    pub rest : all_due s w.ready lists ≡ all_due s turned.ready l
    pub room : lists.room ≡ l.room
    pub listed : IsListed is_enrolled s lists.due

  pub falling_next : (s : Slab (Entry S F)) (turned : Wheel) (l : Lists) (w w' : Wheel) (lists lists' : Lists) (id : Id) → w ≡ record w' { ready = id ∷ w'.ready } → lists' ≡ fallen_due (record { 0 = id }) (waiter_at s id) lists → AreFalling s turned l w lists → AreFalling s turned l w' lists'
  falling_next s turned l w w' lists lists' id out falls so =
      rw falls (record {
        wheel = ap (λ (v : Wheel). record v { ready = [] }) (sym out) ∙ so.wheel;
        rest = ap (λ (v : Wheel). all_due s v.ready lists) (sym out) ∙ so.rest;
        room = ap (λ (m : Lists). m.room) (fallen_alone (record { 0 = id }) (waiter_at s id) lists) ∙ so.room;
        listed = fallen_listed s (record { 0 = id }) (waiter_at s id) lists refl so.listed;
      })

  pub held_on : (d : Driving S F) (now : ℕ) (room room' most spots : ℕ) → room ≤ room' → IsListed is_enrolled d.requests (advanced_to d now).lists.due → IsHeld d room most spots → IsHeld (advanced_to d now) room' most spots
  held_on d now room room' most spots more listed held =
      let turned = (advanced d.wheel now).wheel in
      rw (all_alone d.requests turned.ready d.lists) (held_due d (record turned { ready = [] }) _ room room' most spots (λ t. kept_by_turn (λ (v : Wheel). v.active t) (λ v tick bucket ready. refl) d.wheel now) refl listed more held)

pub is_itself : (id : WaiterId) → is_same id id ≡ true
is_itself id = elim (same_tells id id) [ inl same ↦ same.0 | inr other ↦ absurd (other.1 refl) ]

-- who was due stays so, and who joins is
due_there : (x id : WaiterId) (l : Lists) → (is_among x l.due ≡ true) ⊎ (x ≡ id) → is_among x (with_due id l).due ≡ true
due_there = grind (arith, cases_Bool, is_among, list_any-append, is_same, or_left, or_right, is_itself)

-- a wheel that goes on to a tick before this one stands before it
turned_before : (w : Wheel) (tick t : ℕ) (o : Option ℕ) → tick < t → (turned w tick o).wheel.current < t
turned_before = grind (arith, cases_Bool)

stands_before : (w : Wheel) (now t : ℕ) → w.current < t → tick_at w now < t → (advanced w now).wheel.current < t
unfolding advanced
stands_before w now t was before =
    elim (cases_Bool (leb (tick_at w now) w.current)) [ inl still ↦ rw still was | inr on ↦ rw on (turned_before w (tick_at w now) t (least_active w) before) ]

module _ {S F : Type 0} where
  fallen_there : (x id : WaiterId) (o : Option (Waiter S F)) (l : Lists) → is_among x l.due ≡ true → is_among x (fallen_due id o l).due ≡ true
  fallen_there = grind (arith, due_there, cases_Bool)

  falls : (id : WaiterId) (o : Option (Waiter S F)) (l : Lists) (t : ℕ) → tick_of o ≡ Some t → is_among id (fallen_due id o l).due ≡ true
  falls = grind (arith, due_there)

  all_there : (s : Slab (Entry S F)) (ids : List Id) (x : WaiterId) (l : Lists) → is_among x l.due ≡ true → is_among x (all_due s ids l).due ≡ true
  all_there s [] x l there = there
  all_there s (id ∷ ids) x l there = all_there s ids x _ (fallen_there x (record { 0 = id }) (waiter_at s id) l there)

  all_fall : (s : Slab (Entry S F)) (ids : List Id) (k : ℕ) (id : WaiterId) (l : Lists) (t : ℕ) → tick_of (waiter_at s id.0) ≡ Some t → k < length ids → slice_index_or ids k id.0 ≡ id.0 → is_among id (all_due s ids l).due ≡ true
  all_fall s [] k id l t at within is = absurd (omega arith)
  all_fall s (x ∷ ids) zero id l t at within is = rw is (all_there s ids id _ (falls id (waiter_at s id.0) l t at))
  all_fall s (x ∷ ids) (suc k) id l t at within is = all_fall s ids k id _ t at (omega arith) is

  pub tick_there : (s : Slab (Entry S F)) (active : ℕ → ℕ) (id : Id) (o : Option (Waiter S F)) (t : ℕ) → waiter_at s id ≡ o → tick_of o ≡ Some t → ((n : ℕ) → active n ≡ count_of (is_at_tick n) s) → 0 < active t
  tick_there s active id None t at is counts = absurd (cc)
  tick_there s active id (Some w) t at is counts = rw is at (ticked_in s active id w at counts)

  -- who is not due by now stays in its bucket, at a tick ahead
  pub advanced_punctual : (d : Driving S F) (now : ℕ) → 0 < d.wheel.tick → IsSettled d.wheel → IsWithinReach d.wheel → ((t : ℕ) → d.wheel.active t ≡ count_of (is_at_tick t) d.requests) → IsPunctual d → IsPunctual (advanced_to d now)
  advanced_punctual d now turns settled reach counts punctual = record { ahead = λ id t at out. by id t at out (cases_Bool (is_among id d.lists.due)) (cases_Bool (ltb now (moment_of d.wheel t))) }
    where
      still : (id : WaiterId) (t : ℕ) → tick_of (request_at d id) ≡ Some t → (d.wheel.current < t) × Contains (d.wheel.bucket (slot_of d.wheel t)) id.0 → now < moment_of d.wheel t → ((advanced d.wheel now).wheel.current < t) × Contains ((advanced d.wheel now).wheel.bucket (slot_of (advanced d.wheel now).wheel t)) id.0
      still id t at had early =
          let active = tick_there d.requests d.wheel.active id.0 (request_at d id) t refl at counts in
          let slots = kept_by_turn (λ (w : Wheel). slot_of w t) (λ v tick bucket ready. refl) d.wheel now in
          let some : 0 < t = omega (arith, had.0) in
          (stands_before d.wheel now t had.0 (tick_ahead d.wheel.start d.wheel.tick now t turns some early), rw (slots, never_early d.wheel now t settled reach turns active early) had.1)

      by : (id : WaiterId) (t : ℕ) → tick_of (request_at d id) ≡ Some t → is_among id (all_due d.requests (advanced d.wheel now).wheel.ready d.lists).due ≡ false → (is_among id d.lists.due ≡ true) ⊎ (is_among id d.lists.due ≡ false) → (ltb now (moment_of d.wheel t) ≡ true) ⊎ (ltb now (moment_of d.wheel t) ≡ false) → ((advanced d.wheel now).wheel.current < t) × Contains ((advanced d.wheel now).wheel.bucket (slot_of (advanced d.wheel now).wheel t)) id.0
      by id t at out (inl was) when = absurd (false≢true (sym out ∙ all_there d.requests (advanced d.wheel now).wheel.ready id d.lists was))
      by id t at out (inr not_yet) (inl early) = still id t at (punctual.ahead id t at not_yet) (ltb-true now (moment_of d.wheel t) early)
      by id t at out (inr not_yet) (inr due) =
          let active = tick_there d.requests d.wheel.active id.0 (request_at d id) t refl at counts in
          let comes = then_out d.wheel now t id.0 settled reach turns active (ltb-false now (moment_of d.wheel t) due) (punctual.ahead id t at not_yet).1 in
          absurd (false≢true (sym out ∙ all_fall d.requests (advanced d.wheel now).wheel.ready comes.0 id d.lists t at comes.1 comes.2))
