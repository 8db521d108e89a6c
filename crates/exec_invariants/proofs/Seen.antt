-- What the machine sees of one request and of one sleeper.
use Rattle.exec_invariants.proofs.Words.{◌≡◌, ℕ, List, map, Some, ap, ◌∙◌, slice_get, slice_index_or, get_or_from_slice_get, slice_get-map, option_map, no_request, no_sleeper, Record, SleeperRecord}

pub request_at : (rs : List Record) (n : ℕ) (r : Record) → slice_get rs n ≡ Some r → slice_index_or (map (λ x. x.shown) rs) n no_request ≡ r.shown
request_at rs n r there = get_or_from_slice_get (map (λ x. x.shown) rs) n r.shown no_request (slice_get-map (λ x. x.shown) rs n ∙ ap (option_map (λ x. x.shown)) there)

pub sleeper_at : (zs : List SleeperRecord) (n : ℕ) (z : SleeperRecord) → slice_get zs n ≡ Some z → slice_index_or (map (λ y. y.shown) zs) n no_sleeper ≡ z.shown
sleeper_at zs n z there = get_or_from_slice_get (map (λ y. y.shown) zs) n z.shown no_sleeper (slice_get-map (λ y. y.shown) zs n ∙ ap (option_map (λ y. y.shown)) there)
