-- How a wheel goes on, case by case.
use Rattle.std.proofs.{Common.{◌≡◌, ℕ, ◌<◌, ◌≤◌, [], Option, None, Some, refl, sym, ◌∙◌, arith}, lemmas.Bool.{lt-ltb, le-ltb, le-leb, lt-leb}}
use Rattle.exec_time.{specs.{Entries.{bucket_in, active_in}, Wheel.{Wheel, fresh, tick_at, least_active}, Turning.{Turn, advanced, turned, turned_out}}, proofs.{Views.{shown, same_but}, Ranges.active_nowhere}}

-- it doesn't move
pub advanced_stays : (w : Wheel) (now tick : ℕ) → tick ≡ tick_at w now → tick ≤ w.current → (let t : Turn = record { wheel = w; answer = None } in t) ≡ advanced w now
unfolding advanced
advanced_stays w now tick at stays = let less : tick_at w now ≤ w.current = omega arith in rw (le-leb _ _ less) refl

-- it moves
pub advanced_moves : (w : Wheel) (now tick : ℕ) (least : Option ℕ) → tick ≡ tick_at w now → w.current < tick → least ≡ least_active w → turned w tick least ≡ advanced w now
unfolding advanced
advanced_moves w now tick least at moves is =
    let more : w.current < tick_at w now = omega arith in
    (λ i. turned w (at i) (is i)) ∙ sym (rw (lt-leb (tick_at w now) w.current more) refl)

-- nothing is due at its tick, or something is
pub turned_early : (w : Wheel) (tick least : ℕ) → tick < least → (let t : Turn = record { wheel = record w { current = tick }; answer = None } in t) ≡ turned w tick (Some least)
turned_early w tick least early = rw (lt-ltb _ _ early) refl

pub turned_due : (w : Wheel) (tick least : ℕ) → least ≤ tick → turned_out w tick ≡ turned w tick (Some least)
turned_due w tick least due = rw (le-ltb _ _ due) refl

-- no entry is in any bucket
pub bucket_in_none : (slots slot : ℕ) → bucket_in [] slots slot ≡ []
unfolding bucket_in
bucket_in_none slots slot = refl

-- nothing is active
pub turned_idle : (w : Wheel) (tick slots : ℕ) → (let v : Wheel = record w { current = tick; bucket = bucket_in [] slots } in v) ≡ (turned w tick None).wheel
turned_idle w tick slots = λ i. record w { current = tick; bucket = λ s. bucket_in_none slots s i }

-- a new wheel
pub fresh_is : (horizon tick start slots : ℕ) → shown start tick horizon slots 0 [] [] [] ≡ fresh horizon tick start slots
fresh_is horizon tick start slots = same_but (fresh horizon tick start slots) (bucket_in [] slots) (λ _. []) (active_in []) (λ _. 0) [] [] (λ s. bucket_in_none slots s) (λ t. active_nowhere t) refl
