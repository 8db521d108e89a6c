-- What single steps leave: seats that the clock reaches, raises that were taken in, a clock that was read.
use Rattle.exec_invariants.{proofs.Names.{◌≡◌, ℕ, Bool, true, false, set, Option, Some, ap, ◌∙◌, slice_get, slice_set, Chair, Shared, Worker, with_raises, IsNextIn, driver_of, Moments}, specs.Raises.TakesRaises}

abbrev pub with_read : ℕ → Moments → Moments
with_read r m = record m { read = r }

-- what is due next doesn't depend on what was read off the clock
pub not_read : (closing : Bool) (r : ℕ) (w : Worker) (o : Option ℕ) → IsNextIn closing (record w { moments = with_read r w.moments }) o → IsNextIn closing w o
not_read true r w o h = h
not_read false r w o h = h

module _ {B : Type 0} where
  -- by what the code did
  pub takes_by : (w w1 : Worker) (s s1 : Shared B) (seat seat' : Chair) → ((chair : Chair) → slice_get s.seats.items w.index ≡ Some chair → seat ≡ chair) → driver_of w1 ≡ with_raises seat.raised (driver_of w) → seat' ≡ record seat { raised = 0 }
      → w1 ≡ record w { home = record w.home { driver = w1.home.driver } } → s1 ≡ record s { seats = s1.seats } → s1.seats.items ≡ slice_set s.seats.items w.index seat' → TakesRaises w s w1 s1
  takes_by w w1 s s1 seat seat' is driver taken worker shared set =
      record {
        driver = λ chair there. driver ∙ ap (λ (c : Chair). with_raises c.raised (driver_of w)) (is chair there);
        seats = λ chair there. set ∙ ap (slice_set s.seats.items w.index) (taken ∙ ap (λ (c : Chair). record c { raised = 0 }) (is chair there));
        worker = worker;
        shared = shared;
      }
