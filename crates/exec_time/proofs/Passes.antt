-- Which buckets an advance passes.
use Rattle.std.{proofs.{Common.{◌≡◌, ℕ, ◌+◌, ◌-◌, ◌*◌, ◌/◌, ◌%◌, ◌<◌, ◌≤◌, ◌==◌, true, false, nat_lt, List, [], ◌∷◌, map, Contains, Option, None, Some, refl, sym, ◌∙◌, arith, inl, inr}, lemmas.{Grind.common_steps, Bool.{cases_lt, cases_eq, lt-ltb, le-leb, lt-leb}, List.{Concat.flat_map-cons, Elements.{Contains-append_left, Contains-append_right}}}, Math.Nat.{le-div_iff_mul-le, div-lt_iff_lt-mul, mod-lt, mod-eq_of_lt, mul-le-mul_right}}, specs.List.{flat_map, range_with_len, list_any}}
use Rattle.exec_base.specs.declared.slab.Id.{Id}
use Rattle.exec_time.{specs.{Wheel.{Wheel, IsSettled, IsWithinReach, fresh, scheduled, removed, slot_of, tick_at, moment_of, least_active}, Turning.{advanced, turned, turned_out, slots_passed}}, proofs.{Ranges.{find_before, slot_of_later, slot_of_passed}, Turns.{advanced_stays, advanced_moves, turned_early, turned_due}}}

-- the reach of a wheel goes on
pub reach_fresh : (horizon tick start slots : ℕ) → IsWithinReach (fresh horizon tick start slots)
reach_fresh horizon tick start slots = record { span = λ t active. absurd (omega arith) }

pub reach_scheduled : (w : Wheel) (id : Id) (tick : ℕ) → IsWithinReach w → tick < w.current + w.slots → IsWithinReach (scheduled w id tick)
unfolding scheduled
reach_scheduled w id tick r near = record {
  span = λ t active. elim (cases_eq t tick) [
    | inl same ↦ rw same near
    | inr other ↦ r.span t (grind (arith, common_steps, active, other))
  ];
}

pub reach_removed : (w : Wheel) (tick : ℕ) → IsWithinReach w → IsWithinReach (removed w tick)
unfolding removed
reach_removed w tick r = record {
  span = λ t active. elim (cases_eq t tick) [
    | inl same ↦ r.span t (grind (arith, common_steps, active, same))
    | inr other ↦ r.span t (grind (arith, common_steps, active, other))
  ];
}

pub reach_turned : (w : Wheel) (tick : ℕ) (least : Option ℕ) → w.current < tick → IsWithinReach w → IsWithinReach (turned w tick least).wheel
reach_turned w tick None moves r = record { span = λ t active. omega (arith, r.span t active) }
reach_turned w tick (Some least) moves r =
    elim (cases_lt tick least) [
      | inl early ↦ rw (← turned_early w tick least early) (record { span = λ t active. omega (arith, r.span t active) })
      | inr due ↦ rw (← turned_due w tick least due) (record { span = λ t active. omega (arith, r.span t active) })
    ]

pub reach_advanced : (w : Wheel) (now : ℕ) → IsWithinReach w → IsWithinReach (advanced w now).wheel
reach_advanced w now r =
    elim (cases_lt w.current (tick_at w now)) [
      | inl moves ↦ rw (← advanced_moves w now (tick_at w now) (least_active w) refl moves refl) (reach_turned w (tick_at w now) (least_active w) moves r)
      | inr stays ↦ rw (← advanced_stays w now (tick_at w now) refl stays) r
    ]

-- a tick and its moment
pub tick_due : (start len now tick : ℕ) → 0 < len → 0 < tick → start + tick * len ≤ now → tick ≤ (now - start) / len
tick_due start len now tick some after due = (le-div_iff_mul-le some).1 (omega arith)

pub tick_ahead : (start len now tick : ℕ) → 0 < len → 0 < tick → now < start + tick * len → ((now - start) / len) < tick
tick_ahead start len now tick some after ahead =
    let long : (1 * len) ≤ tick * len = mul-le-mul_right len after in
    (div-lt_iff_lt-mul some).1 (omega arith)

-- where a tick is active, the least one is no later
pub least_before : (w : Wheel) (tick : ℕ) → w.current < tick → tick < w.current + w.slots → 0 < w.active tick → (m : ℕ) × (least_active w ≡ Some m) × (m ≤ tick)
unfolding least_active
least_before w tick after near active =
    find_before (λ t. nat_lt 0 (w.active t)) (w.current + 1) (w.slots - 1) tick (omega arith) (omega arith) (lt-ltb _ _ active)

-- the slot of a tick within reach is passed just where the tick is
pub passed : (w : Wheel) (to tick : ℕ) → w.current < tick → tick < w.current + w.slots → tick ≤ to → list_any (λ s. s == slot_of w tick) (slots_passed w to) ≡ true
unfolding slots_passed
passed w to tick after near there =
    elim (cases_lt (to - w.current) w.slots) [
      | inl part ↦ rw (lt-leb _ _ part) (slot_of_passed w.slots (w.current + 1) (to - w.current) tick (omega arith) (omega arith))
      | inr full ↦
          let some : 0 < w.slots = omega arith in
          let inside : (tick % w.slots) < w.slots = mod-lt tick some in
          let all : list_any (λ s. s == ((tick % w.slots) % w.slots)) (map (λ t. t % w.slots) (range_with_len 0 w.slots)) ≡ true = slot_of_passed w.slots 0 w.slots (tick % w.slots) (omega arith) (omega (arith, inside)) in
          rw (le-leb _ _ full) (rw (mod-eq_of_lt inside) at all)
    ]

pub not_passed : (w : Wheel) (to tick : ℕ) → w.current < to → to < tick → tick < w.current + w.slots → list_any (λ s. s == slot_of w tick) (slots_passed w to) ≡ false
unfolding slots_passed
not_passed w to tick moves before near =
    let part : to - w.current < w.slots = omega arith in
    rw (lt-leb _ _ part) (slot_of_later w.slots (w.current + 1) (to - w.current) tick (omega arith) (omega arith) (omega arith))

-- what is in a bucket that is passed
pub in_passed : (bucket : ℕ → List Id) (slot : ℕ) (slots : List ℕ) (id : Id) → list_any (λ s. s == slot) slots ≡ true → Contains (bucket slot) id → Contains (flat_map bucket slots) id
in_passed bucket slot [] id any has = absurd (cc)
in_passed bucket slot (s ∷ slots) id any has =
    rw (flat_map-cons bucket s slots) (elim (cases_eq s slot) [
      | inl same ↦ Contains-append_left (bucket s) (flat_map bucket slots) id (rw same has)
      | inr other ↦ Contains-append_right (bucket s) (flat_map bucket slots) id (in_passed bucket slot slots id (grind (arith, common_steps, any, other)) has)
    ])

-- the bucket of an active entry at an advance to an earlier moment
pub never_early : (w : Wheel) (now tick : ℕ) → IsSettled w → IsWithinReach w → 0 < w.tick → 0 < w.active tick → now < moment_of w tick → (advanced w now).wheel.bucket (slot_of w tick) ≡ w.bucket (slot_of w tick)
never_early w now tick s r some active before =
    let after : w.current < tick = s.ahead tick active in
    let near : tick < w.current + w.slots = r.span tick active in
    let ahead : tick_at w now < tick = tick_ahead w.start w.tick now tick some (omega arith) before in
    let least = least_before w tick after near active in
    elim (cases_lt w.current (tick_at w now)) [
      | inl moves ↦ rw (← advanced_moves w now (tick_at w now) (Some least.0) refl moves (sym least.1)) (turned_keeps w (tick_at w now) tick least.0 moves ahead near)
      | inr stays ↦ rw (← advanced_stays w now (tick_at w now) refl stays) refl
    ]
  where
    turned_keeps : (w : Wheel) (to tick least : ℕ) → w.current < to → to < tick → tick < w.current + w.slots → (turned w to (Some least)).wheel.bucket (slot_of w tick) ≡ w.bucket (slot_of w tick)
    turned_keeps w to tick least moves before near =
        elim (cases_lt to least) [
          | inl early ↦ rw (← turned_early w to least early) refl
          | inr due ↦ rw (← turned_due w to least due, not_passed w to tick moves before near) refl
        ]

-- an advance to its moment or a later one passes it
pub turns_out : (w : Wheel) (now tick : ℕ) → IsSettled w → IsWithinReach w → 0 < w.tick → 0 < w.active tick → moment_of w tick ≤ now → (turned_out w (tick_at w now) ≡ advanced w now) × (list_any (λ s. s == slot_of w tick) (slots_passed w (tick_at w now)) ≡ true)
turns_out w now tick s r some active there =
    let after : w.current < tick = s.ahead tick active in
    let near : tick < w.current + w.slots = r.span tick active in
    let reached : tick ≤ tick_at w now = tick_due w.start w.tick now tick some (omega arith) there in
    let least = least_before w tick after near active in
    (turned_due w (tick_at w now) least.0 (omega (arith, least.2)) ∙ advanced_moves w now (tick_at w now) (Some least.0) refl (omega arith) (sym least.1), passed w (tick_at w now) tick after near reached)

pub then_empty : (w : Wheel) (now tick : ℕ) → IsSettled w → IsWithinReach w → 0 < w.tick → 0 < w.active tick → moment_of w tick ≤ now → (advanced w now).wheel.bucket (slot_of w tick) ≡ []
then_empty w now tick s r some active there =
    let out = turns_out w now tick s r some active there in
    rw (← out.0, out.1) refl

pub then_out : (w : Wheel) (now tick : ℕ) (id : Id) → IsSettled w → IsWithinReach w → 0 < w.tick → 0 < w.active tick → moment_of w tick ≤ now → Contains (w.bucket (slot_of w tick)) id → Contains (advanced w now).wheel.ready id
then_out w now tick id s r some active there has =
    let out = turns_out w now tick s r some active there in
    rw (← out.0) (Contains-append_right w.ready (flat_map w.bucket (slots_passed w (tick_at w now))) id (in_passed w.bucket (slot_of w tick) (slots_passed w (tick_at w now)) id out.1 has))
