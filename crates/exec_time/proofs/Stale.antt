-- Where the ids of a wheel come from.
use Rattle.std.{proofs.{Common.{◌≡◌, ℕ, ◌+◌, ◌-◌, ◌<◌, ◌==◌, ◌⊎◌, Bool, true, false, if◌then◌else◌, List, [], ◌∷◌, ◌++◌, drop, Contains, Option, None, Some, refl, sym, ap, subst, arith, inl, inr}, lemmas.{Grind.common_steps, Bool.{cases_lt, cases_eq}, List.{Concat.flat_map-cons, Elements.{Contains-append_cases, Contains-append_right}}}}, specs.List.{flat_map, list_any}}
use Rattle.exec_base.specs.declared.slab.Id.{Id}
use Rattle.exec_time.{specs.{Wheel.{Wheel, fresh, scheduled, removed, slot_of, tick_at, least_active}, Turning.{advanced, turned, slots_passed, emptied}, WheelRuns.{Call, Schedule, Remove, Advance, HandOut, after, after_all, IsAmong, WasScheduled}}, proofs.Turns.{advanced_stays, advanced_moves, turned_early, turned_due}}

-- no list of one is without it
none_in : (id : Id) → Contains [] id → ⊥
none_in id (k, within, is) = omega arith

lone : (x id : Id) → Contains (x ∷ []) id → x ≡ id
lone x id (k, within, is) = let first : k ≡ 0 = omega arith in rw first at is

-- what comes out of some buckets was in one of them
from_bucket : (bucket : ℕ → List Id) (slots : List ℕ) (id : Id) → Contains (flat_map bucket slots) id → (slot : ℕ) × Contains (bucket slot) id
from_bucket bucket [] id has = absurd (none_in id has)
from_bucket bucket (s ∷ slots) id has =
    elim (Contains-append_cases (bucket s) (flat_map bucket slots) id (rw (flat_map-cons bucket s slots) at has)) [
      | inl here ↦ (s, here)
      | inr later ↦ from_bucket bucket slots id later
    ]

-- what holds of each id in a wheel
record Each (P : Id → Type 0) (w : Wheel) : Type 0 where
  in_bucket : (slot : ℕ) (id : Id) → Contains (w.bucket slot) id → P id
  in_ready : (id : Id) → Contains w.ready id → P id

each_scheduled : (P : Id → Type 0) (w : Wheel) (id : Id) (tick : ℕ) → P id → Each P w → Each P (scheduled w id tick)
unfolding scheduled
each_scheduled P w id tick holds each = record {
  in_bucket = λ slot other. by_slot slot other (slot == slot_of w tick) (w.active tick == 0);
  in_ready = each.in_ready;
}
  where
    by_slot : (slot : ℕ) (other : Id) (here empty : Bool) → Contains (if here then (if empty then [] else w.bucket slot) ++ id ∷ [] else w.bucket slot) other → P other
    by_slot slot other false empty has = each.in_bucket slot other has
    by_slot slot other true true has = subst P (lone id other has) holds
    by_slot slot other true false has =
        elim (Contains-append_cases (w.bucket slot) (id ∷ []) other has) [ inl before ↦ each.in_bucket slot other before | inr new ↦ subst P (lone id other new) holds ]

each_removed : (P : Id → Type 0) (w : Wheel) (tick : ℕ) → Each P w → Each P (removed w tick)
unfolding removed
each_removed P w tick each = record { in_bucket = each.in_bucket; in_ready = each.in_ready }

each_emptied : (P : Id → Type 0) (w : Wheel) (slots : List ℕ) (tick : ℕ) → Each P w → Each P (record (emptied w slots) { current = tick })
each_emptied P w slots tick each = record {
  in_bucket = λ slot other. by_slot slot other (list_any (λ s. s == slot) slots);
  in_ready = λ other has.
      elim (Contains-append_cases w.ready (flat_map w.bucket slots) other has) [
        | inl before ↦ each.in_ready other before
        | inr out ↦ let from = from_bucket w.bucket slots other out in each.in_bucket from.0 other from.1
      ];
}
  where
    by_slot : (slot : ℕ) (other : Id) (passed : Bool) → Contains (if passed then [] else w.bucket slot) other → P other
    by_slot slot other true has = absurd (none_in other has)
    by_slot slot other false has = each.in_bucket slot other has

each_turned : (P : Id → Type 0) (w : Wheel) (tick : ℕ) (least : Option ℕ) → Each P w → Each P (turned w tick least).wheel
each_turned P w tick None each = record { in_bucket = λ slot other has. absurd (none_in other has); in_ready = each.in_ready }
each_turned P w tick (Some least) each =
    elim (cases_lt tick least) [
      | inl early ↦ rw (← turned_early w tick least early) (record { in_bucket = each.in_bucket; in_ready = each.in_ready })
      | inr due ↦ rw (← turned_due w tick least due) (each_emptied P w (slots_passed w tick) tick each)
    ]

each_advanced : (P : Id → Type 0) (w : Wheel) (now : ℕ) → Each P w → Each P (advanced w now).wheel
each_advanced P w now each =
    elim (cases_lt w.current (tick_at w now)) [
      | inl moves ↦ rw (← advanced_moves w now (tick_at w now) (least_active w) refl moves refl) (each_turned P w (tick_at w now) (least_active w) each)
      | inr stays ↦ rw (← advanced_stays w now (tick_at w now) refl stays) each
    ]

later_in : (ids : List Id) (id : Id) → Contains (drop 1 ids) id → Contains ids id
later_in [] id has = has
later_in (first ∷ ids) id has = Contains-append_right (first ∷ []) ids id has

each_after : (P : Id → Type 0) (w : Wheel) (call : Call) → ((id : Id) (tick : ℕ) → call ≡ Schedule id tick → P id) → Each P w → Each P (after w call)
each_after P w (Schedule id tick) holds each = each_scheduled P w id tick (holds id tick refl) each
each_after P w (Remove tick) holds each = each_removed P w tick each
each_after P w (Advance now) holds each = each_advanced P w now each
each_after P w HandOut holds each = record { in_bucket = each.in_bucket; in_ready = λ id has. each.in_ready id (later_in w.ready id has) }

-- some call scheduled the id
abbrev IsMade : List Call → Id → Type 0
IsMade calls id = (tick : ℕ) × IsAmong (Schedule id tick) calls

each_made : (horizon tick start slots : ℕ) (calls : List Call) → Each (IsMade calls) (after_all (fresh horizon tick start slots) calls)
each_made horizon tick start slots [] = record { in_bucket = λ slot id has. absurd (none_in id has); in_ready = λ id has. absurd (none_in id has) }
each_made horizon tick start slots (call ∷ before) =
    let each = each_made horizon tick start slots before in
    each_after (IsMade (call ∷ before)) (after_all (fresh horizon tick start slots) before) call (λ id at is. (at, inl is)) (record {
      in_bucket = λ slot id has. let made = each.in_bucket slot id has in (made.0, inr made.1);
      in_ready = λ id has. let made = each.in_ready id has in (made.0, inr made.1);
    })

-- an advance leaves the active entries
active_turned : (w : Wheel) (tick t : ℕ) (least : Option ℕ) → (turned w tick least).wheel.active t ≡ w.active t
active_turned w tick t None = refl
active_turned w tick t (Some least) =
    elim (cases_lt tick least) [ inl early ↦ rw (← turned_early w tick least early) refl | inr due ↦ rw (← turned_due w tick least due) refl ]

active_advanced : (w : Wheel) (now t : ℕ) → (advanced w now).wheel.active t ≡ w.active t
active_advanced w now t =
    elim (cases_lt w.current (tick_at w now)) [
      | inl moves ↦ rw (← advanced_moves w now (tick_at w now) (least_active w) refl moves refl) (active_turned w (tick_at w now) t (least_active w))
      | inr stays ↦ rw (← advanced_stays w now (tick_at w now) refl stays) refl
    ]

active_scheduled : (w : Wheel) (id : Id) (tick t : ℕ) → (scheduled w id tick).active t ≡ (if t == tick then w.active t + 1 else w.active t)
unfolding scheduled
active_scheduled w id tick t = refl

active_removed : (w : Wheel) (tick t : ℕ) → (removed w tick).active t ≡ (if t == tick then w.active t - 1 else w.active t)
unfolding removed
active_removed w tick t = refl

abbrev tick_of : Call → ℕ
tick_of (Schedule id tick) = tick
tick_of (Remove tick) = tick
tick_of (Advance now) = 0
tick_of HandOut = 0

-- what was scheduled at a tick is active there, or was removed
active_or_removed : (w : Wheel) (calls : List Call) (id : Id) (t : ℕ) → IsAmong (Schedule id t) calls → (0 < (after_all w calls).active t) ⊎ IsAmong (Remove t) calls
active_or_removed w [] id t among = absurd among
active_or_removed w (Schedule i s ∷ before) id t among =
    elim among [
      | inl is ↦
          let same : s ≡ t = ap tick_of is in
          inl (grind (arith, common_steps, active_scheduled (after_all w before) i s t, same))
      | inr earlier ↦ elim (active_or_removed w before id t earlier) [
        | inl active ↦ inl (grind (arith, common_steps, active_scheduled (after_all w before) i s t, active))
        | inr gone ↦ inr (inr gone)
      ]
    ]
active_or_removed w (Remove s ∷ before) id t among =
    elim among [
      | inl is ↦ absurd (cc)
      | inr earlier ↦ elim (active_or_removed w before id t earlier) [
        | inl active ↦ elim (cases_eq t s) [
          | inl same ↦ inr (inl (ap Remove (sym same)))
          | inr other ↦ inl (grind (arith, common_steps, active_removed (after_all w before) s t, active, other))
        ]
        | inr gone ↦ inr (inr gone)
      ]
    ]
active_or_removed w (Advance now ∷ before) id t among =
    elim among [
      | inl is ↦ absurd (cc)
      | inr earlier ↦ elim (active_or_removed w before id t earlier) [
        | inl active ↦ inl (omega (arith, active_advanced (after_all w before) now t, active))
        | inr gone ↦ inr (inr gone)
      ]
    ]
active_or_removed w (HandOut ∷ before) id t among =
    elim among [
      | inl is ↦ absurd (cc)
      | inr earlier ↦ elim (active_or_removed w before id t earlier) [ inl active ↦ inl active | inr gone ↦ inr (inr gone) ]
    ]

pub was_scheduled : (horizon tick start slots : ℕ) (calls : List Call) (id : Id) → Contains (after_all (fresh horizon tick start slots) calls).ready id → WasScheduled (after_all (fresh horizon tick start slots) calls) calls id
was_scheduled horizon tick start slots calls id has =
    let made = (each_made horizon tick start slots calls).in_ready id has in
    record {
      tick = made.0;
      made = made.1;
      unless_active = λ none.
          elim (active_or_removed (fresh horizon tick start slots) calls id made.0 made.1) [ inl active ↦ absurd (omega (arith, none, active)) | inr gone ↦ gone ];
    }
