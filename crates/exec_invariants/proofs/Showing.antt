-- What seats show once one of them was set.
use Rattle.exec_invariants.proofs.Words.{◌≡◌, ℕ, zero, suc, List, [], ◌∷◌, map, Some, refl, ap, ◌∙◌, slice_get, slice_set, option_map, get_or_from_slice_get, slice_get-map, Queue, PureWord, Runnable, Things, no_queue, no_word, queue_of, word_of, set_queue, set_word, Chair, Shared, Views, Visible, inbox_at, polls_seen, queue_at, queue_seen, raised_times, seat_seen, seats_seen, things_of, things_with, word_at, arith}

pub map_set : {A C : Type 0} (f : A → C) (xs : List A) (i : ℕ) (x : A) → map f (slice_set xs i x) ≡ slice_set (map f xs) i (f x)
map_set f [] i x = refl
map_set f (y ∷ ys) zero x = refl
map_set f (y ∷ ys) (suc i) x = ap (λ zs. f y ∷ zs) (map_set f ys i x)

-- an element that shows the same
pub map_kept : {A C : Type 0} (f : A → C) (xs : List A) (i : ℕ) (x y : A) → slice_get xs i ≡ Some y → f x ≡ f y → map f (slice_set xs i x) ≡ map f xs
map_kept f [] i x y there same = refl
map_kept f (z ∷ zs) zero x y there same =
    ap (λ u. u ∷ map f zs) (same ∙ ap f cc)
map_kept f (z ∷ zs) (suc i) x y there same = ap (λ us. f z ∷ us) (map_kept f zs i x y there same)

pub polls_kept : (vs : List Visible) (seats : List Chair) (i : ℕ) (chair chair' : Chair) → slice_get seats i ≡ Some chair → chair'.raised ≡ chair.raised → polls_seen vs (slice_set seats i chair') ≡ polls_seen vs seats
polls_kept [] seats i chair chair' there same = refl
polls_kept (v ∷ vs) [] i chair chair' there same = refl
polls_kept (v ∷ vs) (seat ∷ seats) zero chair chair' there same =
    let is : chair ≡ seat = cc in
    ap (λ n. raised_times n v.wakes ∷ polls_seen vs seats) (same ∙ ap (λ c. c.raised) is)
polls_kept (v ∷ vs) (seat ∷ seats) (suc i) chair chair' there same = ap (λ ps. raised_times seat.raised v.wakes ∷ ps) (polls_kept vs seats i chair chair' there same)

-- to the machine
pub seats_kept : (vs : List Visible) (seats : List Chair) (i : ℕ) (chair chair' : Chair) → slice_get seats i ≡ Some chair → ((v : Visible) → seat_seen v chair' ≡ seat_seen v chair) → seats_seen vs (slice_set seats i chair') ≡ seats_seen vs seats
seats_kept [] seats i chair chair' there same = refl
seats_kept (v ∷ vs) [] i chair chair' there same = refl
seats_kept (v ∷ vs) (seat ∷ seats) zero chair chair' there same =
    let is : chair ≡ seat = cc in
    ap (λ x. x ∷ seats_seen vs seats) (same v ∙ ap (seat_seen v) is)
seats_kept (v ∷ vs) (seat ∷ seats) (suc i) chair chair' there same = ap (λ xs. seat_seen v seat ∷ xs) (seats_kept vs seats i chair chair' there same)

module _ {B : Type 0} where
  -- what things show of a run queue
  pub own_queue_seen : (j : ℕ) (s : Shared B) (chair : Chair) → slice_get s.seats.items j ≡ Some chair → queue_of (things_of s) j ≡ queue_seen chair.queue
  own_queue_seen j s chair there = get_or_from_slice_get (map queue_at s.seats.items) j (queue_at chair) no_queue (slice_get-map queue_at s.seats.items j ∙ ap (option_map queue_at) there)

  pub own_word_seen : (j : ℕ) (s : Shared B) (chair : Chair) → slice_get s.seats.items j ≡ Some chair → word_of (things_of s) j ≡ chair.mailbox.waker
  own_word_seen j s chair there = get_or_from_slice_get (map word_at s.seats.items) j (word_at chair) no_word (slice_get-map word_at s.seats.items j ∙ ap (option_map word_at) there)

  -- the run queue of worker j became this
  pub queue_shows : (vs : Views) (j : ℕ) (s : Shared B) (seats : List Chair) (chair : Chair) (q : Queue Runnable) → slice_get s.seats.items j ≡ Some chair → seats ≡ slice_set s.seats.items j (record chair { queue = q })
      → (x : Things) → x ≡ record (things_with vs s) { queues = map queue_at seats; words = map word_at seats; inboxes = map inbox_at seats; wake_polls = polls_seen vs.workers seats } → x ≡ set_queue j (things_with vs s) (queue_seen q)
  queue_shows = grind (arith, map_set, map_kept, polls_kept)

  -- its wake word
  pub word_shows : (vs : Views) (j : ℕ) (s : Shared B) (seats : List Chair) (chair : Chair) (word : PureWord) → slice_get s.seats.items j ≡ Some chair → seats ≡ slice_set s.seats.items j (record chair { mailbox = record chair.mailbox { waker = word } })
      → (x : Things) → x ≡ record (things_with vs s) { queues = map queue_at seats; words = map word_at seats; inboxes = map inbox_at seats; wake_polls = polls_seen vs.workers seats } → x ≡ set_word j (things_with vs s) word
  word_shows = grind (arith, map_set, map_kept, polls_kept)
