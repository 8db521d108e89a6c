-- What the machine has of records.
use Rattle.exec_invariants.proofs.Words.{◌≡◌, ℕ, List, Some, ap, ◌∙◌, map, slice_get, slice_set, slice_index_or, map-set, get_or_from_slice_get, slice_get-map, option_map, no_request, Record, changed_at, changed_in}

pub request_seen : (rs : List Record) (n : ℕ) (r : Record) → slice_get rs n ≡ Some r → slice_index_or (map (λ x. x.shown) rs) n no_request ≡ r.shown
request_seen rs n r there = get_or_from_slice_get (map (λ x. x.shown) rs) n r.shown no_request (slice_get-map (λ x. x.shown) rs n ∙ ap (option_map (λ x. x.shown)) there)

pub shown_changed : (f : Record → Record) (rs : List Record) (n : ℕ) (r : Record) → slice_get rs n ≡ Some r → map (λ x. x.shown) (changed_at rs n f) ≡ slice_set (map (λ x. x.shown) rs) n (f r).shown
shown_changed f rs n r there = ap (λ o. map (λ x. x.shown) (changed_in rs n f o)) there ∙ map-set (λ x. x.shown) rs n (f r)
