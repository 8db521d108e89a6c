-- What the machine sees of whether a worker is of the pool.
use Rattle.exec_invariants.{proofs.{Names.{◌≡◌, Option, ap, ◌∙◌, Said, Plan, Seat, Place, is_of_pool, Shared, Worker, is_pool, Spot, Views, common_of}, Dedicated.chair_of_pool, Seats.own_seat}, specs.{Sound.SoundAt, Works.Suits}}

module _ {B L : Type 0} (left : B → L) (spot : L → Option Said → Spot) where
  pub pool_seen : (p : Plan) (vs : Views) (q : Place) (w : Worker) (s : Shared B) → SoundAt q w s → Suits p vs w s → is_of_pool (common_of left spot p vs s) w.index ≡ is_pool w.role
  pool_seen p vs q w s sound suits =
      let seat = sound.seated.seat in
      ap (λ (x : Seat). x.pool) (own_seat left spot p vs w s seat suits sound.seated.there) ∙ chair_of_pool q w s sound seat sound.seated.there
