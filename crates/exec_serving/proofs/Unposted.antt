-- What a step leaves of the balances that takes a dedicated worker out of a wait, or into one: it has no bit in the idle set,
-- whatever its place says.
use Rattle.std.proofs.Common.{◌≡◌, ◌≤◌, map, ◌⊎◌, inl, inr, refl, ap}
use Rattle.exec_moves.specs.Seen.{polls_at}
use Rattle.exec_parts.specs.declared.parts.{shared.Shared.Shared, worker.Worker.Worker}
use Rattle.exec_invariants.{specs.{Holding.box_of, Places.{claims_at, drops_at, has_count_at, is_published_at}, Works.Beside}, proofs.{Aside.{SameTold, SparesSeats, beside_calm, queue_of_chair}, Counting.{SameHands, Stance, Stands, counts_apart, stance_at, stance_here, whole_counted}, PoolKept.KeepsGates, Turning.Shares}}

-- a worker has what it had, but for whether its place says that it published its bit
pub record SameButShown (w w' : Worker) : Type 0 where
  pub hand : w'.hand ≡ w.hand
  pub loot : w'.loot ≡ w.loot
  pub polls : polls_at w'.place ≡ polls_at w.place
  pub claims : claims_at w'.place ≡ claims_at w.place
  pub searching : w'.searching ≡ w.searching
  pub counts : has_count_at w'.place ≡ has_count_at w.place
  pub index : w'.index ≡ w.index
  pub drops : drops_at w'.place ≡ drops_at w.place
  pub told : SameTold w w'

module _ {B : Type 0} where
  pub beside_unposted : (w w' : Worker) (s s' : Shared B) → SameButShown w w' → (is_published_at w'.place ≡ is_published_at w.place) ⊎ (s.config.workers ≤ w.index) → Shares s s' → SparesSeats w.index s.seats.items s'.seats.items → KeepsGates s.seats.items s'.seats.items → map queue_of_chair s'.seats.items ≡ map queue_of_chair s.seats.items → map box_of s'.seats.items ≡ map box_of s.seats.items → s'.idle ≡ s.idle → s'.global ≡ s.global → Beside w s w' s'
  beside_unposted w w' s s' same by shares seats gates queues boxes idle global =
      elim by [
        | inl shown ↦ beside_calm w w' s s'
            (record { hand = same.hand; loot = same.loot; polls = same.polls; claims = same.claims; searching = same.searching; counts = same.counts; index = same.index; published = shown; drops = same.drops; told = same.told })
            shares seats gates queues boxes idle global
        | inr past ↦
            let w1 : Worker = record w' { place = w.place } in
            let z : Stance = stance_at w.place w1 in
            let first : Beside w s w1 s' = beside_calm w w1 s s'
            (record { hand = same.hand; loot = same.loot; polls = refl; claims = refl; searching = same.searching; counts = refl; index = same.index; published = refl; drops = refl; told = record { batch = same.told.batch; letters = same.told.letters; left = same.told.left } })
            shares seats gates queues boxes idle global in
            let behind : s'.config.workers ≤ w1.index = rw (ap (λ (t : Shared B). t.config.workers) shares, same.index) past in
            let hands : SameHands w1 w' = record { hand = refl; loot = refl; polls = same.polls; claims = same.claims; index = refl; drops = same.drops; told = record { batch = refl; letters = refl; left = refl } } in
            let there : Stands (record z { published = is_published_at w'.place }) w' = record { searching = refl; counted = same.counts; published = refl } in
            record {
              spares = first.spares;
              whole = λ others whole. whole_counted others z (record z { published = is_published_at w'.place }) w1 w' s' s'.idle hands (stance_here w.place w1 refl) there (counts_apart z (is_published_at w'.place) w1 s' behind) (first.whole others whole);
            }
      ]
