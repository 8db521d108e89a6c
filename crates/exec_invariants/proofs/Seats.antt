-- What the machine sees of seats.
use Rattle.exec_invariants.{specs.Works.Suits, proofs.Words.{◌≡◌, ℕ, zero, suc, Bool, true, List, [], ◌∷◌, Some, Option, refl, ap, slice_get, slice_set, get_or_from_slice_get, list_all, arith, Said, Plan, Seat, seat_of, no_seat, Chair, Shared, Worker, Spot, Views, Visible, visible, common_of, seats_seen, seat_seen}}

-- what is seen of one chair
pub seat_there : (vs : List Visible) (seats : List Chair) (i : ℕ) (v : Visible) (chair : Chair) → slice_get vs i ≡ Some v → slice_get seats i ≡ Some chair
    → slice_get (seats_seen vs seats) i ≡ Some (seat_seen v chair)
seat_there [] seats i v chair seen there = absurd (cc)
seat_there (x ∷ vs) [] i v chair seen there = absurd (cc)
seat_there (x ∷ vs) (seat ∷ seats) zero v chair seen there = grind arith
seat_there (x ∷ vs) (seat ∷ seats) (suc i) v chair seen there = seat_there vs seats i v chair seen there

-- The machine sees the chair that was changed.
pub chair_set : (vs : List Visible) (seats : List Chair) (i : ℕ) (v : Visible) (chair : Chair) → slice_get vs i ≡ Some v
    → seats_seen vs (slice_set seats i chair) ≡ slice_set (seats_seen vs seats) i (seat_seen v chair)
chair_set [] seats i v chair seen = absurd (cc)
chair_set (x ∷ vs) [] i v chair seen = refl
chair_set (x ∷ vs) (seat ∷ seats) zero v chair seen = grind arith
chair_set (x ∷ vs) (seat ∷ seats) (suc i) v chair seen = ap (λ xs. seat_seen x seat ∷ xs) (chair_set vs seats i v chair seen)

-- what each chair passes is passed by what is seen of it
pub seats_all : (f : Seat → Bool) (vs : List Visible) (seats : List Chair) → ((k : ℕ) (v : Visible) (chair : Chair) → slice_get seats k ≡ Some chair → f (seat_seen v chair) ≡ true) → list_all f (seats_seen vs seats) ≡ true
seats_all f [] seats h = refl
seats_all f (v ∷ vs) [] h = refl
seats_all f (v ∷ vs) (seat ∷ seats) h = rw (h 0 v seat refl) (seats_all f vs seats (λ k x chair there. h (suc k) x chair there))

pub own_seat : {B L : Type 0} (left : B → L) (spot : L → Option Said → Spot) (p : Plan) (vs : Views) (w : Worker) (s : Shared B) (chair : Chair) → Suits p vs w s → slice_get s.seats.items w.index ≡ Some chair
    → seat_of (common_of left spot p vs s) w.index ≡ seat_seen (visible w) chair
own_seat left spot p vs w s chair suits there =
    get_or_from_slice_get (seats_seen vs.workers s.seats.items) w.index (seat_seen (visible w) chair) no_seat (seat_there vs.workers s.seats.items w.index (visible w) chair suits.seen there)
