-- What is seen of all once a worker has made a request or a sleeper: its seat's places show nothing.
use Rattle.std.proofs.{Common.{◌≡◌, ℕ, suc, zero, Bool, false, List, [], ◌∷◌, ◌++◌, map, Option, Some, refl, sym, ap, ◌∙◌, slice_get, slice_set, if◌then◌else◌, arith}, Math.Seq.map-set_same, lemmas.Option.get_or_from_slice_get}
use Rattle.exec_task.specs.declared.body.Said.{Said}
use Rattle.exec_machine.specs.{Progress.Plan, World.{Common, Open, Task}, declared.state.{Request.Request, Sleeper.Sleeper}}
use Rattle.exec_parts.{specs.{declared.parts.{record.Record.Record, seat.Seat.Seat as Chair, shared.Shared.Shared, sleeping.SleeperRecord.SleeperRecord}, Spots.Spot, View.{Views, Visible, common_of, gate_seen, inbox_at, numbers_of_passing, open_seen, polls_seen, queue_at, seat_seen, seats_seen, task_seen, things_with, word_at}}, proofs.Facts.same_Some}
use Rattle.exec_polling.proofs.RegisterSound.{MakesAt}

-- A SEAT whose inbox got places shows what it did

abbrev pub placed_at : ℕ → ℕ → Chair → Chair
placed_at m n chair = record chair { made = m; mailbox = record chair.mailbox { inbox = record chair.mailbox.inbox { places = n } } }

pub seats_placed : (m n : ℕ) (vs : List Visible) (seats : List Chair) (i : ℕ) (chair : Chair) → slice_get seats i ≡ Some chair → seats_seen vs (slice_set seats i (placed_at m n chair)) ≡ seats_seen vs seats
seats_placed m n [] seats i chair there = refl
seats_placed m n (v ∷ vs) [] i chair there = refl
seats_placed m n (v ∷ vs) (c ∷ cs) zero chair there = ap (λ x. seat_seen v x ∷ seats_seen vs cs) (sym (same_Some c chair there))
seats_placed m n (v ∷ vs) (c ∷ cs) (suc i) chair there = ap (λ xs. seat_seen v c ∷ xs) (seats_placed m n vs cs i chair there)

pub polls_placed : (m n : ℕ) (vs : List Visible) (seats : List Chair) (i : ℕ) (chair : Chair) → slice_get seats i ≡ Some chair → polls_seen vs (slice_set seats i (placed_at m n chair)) ≡ polls_seen vs seats
polls_placed m n [] seats i chair there = refl
polls_placed m n (v ∷ vs) [] i chair there = refl
polls_placed m n (v ∷ vs) (c ∷ cs) zero chair there = ap (λ (x : Chair). polls_seen (v ∷ vs) (x ∷ cs)) (sym (same_Some c chair there))
polls_placed m n (v ∷ vs) (c ∷ cs) (suc i) chair there = ap (λ xs. polls_seen (v ∷ []) (c ∷ []) ++ xs) (polls_placed m n vs cs i chair there)

pub part_placed : {A : Type 0} (f : Chair → A) (m n : ℕ) (seats : List Chair) (i : ℕ) (chair : Chair) → slice_get seats i ≡ Some chair → f (placed_at m n chair) ≡ f chair → map f (slice_set seats i (placed_at m n chair)) ≡ map f seats
part_placed f m n seats i chair there same = map-set_same f seats i (placed_at m n chair) chair (same ∙ ap f (sym (get_or_from_slice_get seats i chair chair there)))

-- so all that stands at seats is seen as before
pub record SameSeats (vs : Views) (before after : List Chair) : Type 0 where
  pub seats : seats_seen vs.workers after ≡ seats_seen vs.workers before
  pub polls : polls_seen vs.workers after ≡ polls_seen vs.workers before
  pub queues : map queue_at after ≡ map queue_at before
  pub words : map word_at after ≡ map word_at before
  pub inboxes : map inbox_at after ≡ map inbox_at before

pub seats_alike : (vs : Views) (seats seats' : List Chair) (i batch : ℕ) → MakesAt i batch seats seats' → SameSeats vs seats seats'
seats_alike = grind (arith, seats_placed, polls_placed, part_placed)

-- what was not sent adds nothing to what was
pub unsent_last : {A : Type 0} (test : A → Bool) (n : ℕ) (xs : List A) (x : A) → test x ≡ false → numbers_of_passing test n (xs ++ x ∷ []) ≡ numbers_of_passing test n xs
unsent_last test n [] x is = ap (λ b. if b then n ∷ [] else []) is
unsent_last test n (y ∷ ys) x is = ap (λ ns. if test y then n ∷ ns else ns) (unsent_last test (suc n) ys x is)

-- WHAT IS SHARED then, beside the tasks, the requests, the opens and the sleepers

module _ {B : Type 0} where
  pub record SeesAlike (vs : Views) (s s' : Shared B) : Type 0 where
    pub kept : s' ≡ record s { tasks = s'.tasks; seats = s'.seats; requests = s'.requests; sleepers = s'.sleepers; opens = s'.opens; store = s'.store }
    pub seats : SameSeats vs s.seats.items s'.seats.items
    pub gates : map (gate_seen s'.requests.items) s'.opens ≡ map (gate_seen s.requests.items) s.opens
    pub answers : numbers_of_passing (λ (r : Record). r.sent) 0 s'.requests.items ≡ numbers_of_passing (λ (r : Record). r.sent) 0 s.requests.items
    pub alarms : numbers_of_passing (λ (z : SleeperRecord). z.sent) 0 s'.sleepers.items ≡ numbers_of_passing (λ (z : SleeperRecord). z.sent) 0 s.sleepers.items

  pub things_then : (vs : Views) (s s' : Shared B) → SeesAlike vs s s' → things_with vs s' ≡ things_with vs s
  things_then = grind arith

module _ {B L : Type 0} (left : B → L) (spot : L → Option Said → Spot) where
  -- by lists of what is seen
  abbrev pub seen_with : Common → List Task → List Request → List Open → List Sleeper → Common
  seen_with c ts rs os zs = record c { tasks = ts; requests = rs; opens = os; sleepers = zs }

  pub common_then : (p : Plan) (vs : Views) (s s' : Shared B) → SeesAlike vs s s'
      → common_of left spot p vs s' ≡ seen_with (common_of left spot p vs s) (map (task_seen left spot) s'.tasks.items) (map (λ (r : Record). r.shown) s'.requests.items) (map (open_seen s'.requests.items) s'.opens) (map (λ (z : SleeperRecord). z.shown) s'.sleepers.items)
  common_then = grind arith
