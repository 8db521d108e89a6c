-- What a thief finds of another run queue and its seat, and leaves of them.
use Rattle.exec_invariants.{specs.{Places.{claims_at, drops_at, has_count_at, is_published_at, one_if}, Sound.{IsSeated, SoundAt}, Whole.{HasWhole, runnables_in, with_worker}}, proofs.{Words.{◌≡◌, ◌≢◌, ℕ, ◌+◌, ◌/◌, ◌<◌, ◌≤◌, ◌==◌, Bool, not, Contains, List, ◌++◌, length, take, drop, Some, refl, sym, ap, subst, ◌∙◌, arith, cond, slice_get, slice_set, take-append-drop, length-set, map-append, Contains-append_left, Contains-append_right, sum_by-append, slice_get-get_or, Queue, published, Runnable, Place, polls_at, Chair, Shared, Worker, stage_of, queue_seen, tasks_of, set_elsewhere}, Aside.SameTold, Dedicated.as_long, Queued.Hands}}

-- HEADS AND HALVES

-- half of so many, of two at least and 256 at most
pub half_of : (n : ℕ) → 2 ≤ n → n ≤ 256 → (0 < n / 2) × (n / 2 < n) × (n / 2 ≤ 128)
half_of = grind arith

-- LISTS

pub in_both : (t : ℕ) (xs ys : List Runnable) → runnables_in t (xs ++ ys) ≡ runnables_in t xs + runnables_in t ys
in_both t xs ys = sum_by-append (λ (r : Runnable). cond (r.task.0 == t) 1 0) xs ys

pub in_parts : (t n : ℕ) (xs : List Runnable) → runnables_in t (take n xs) + runnables_in t (drop n xs) ≡ runnables_in t xs
in_parts t n xs = sym (in_both t (take n xs) (drop n xs)) ∙ ap (runnables_in t) (take-append-drop n xs)

pub taken_from : (n : ℕ) (xs : List Runnable) (r : Runnable) → Contains (take n xs) r → Contains xs r
taken_from n xs r has = subst (λ ys. Contains ys r) (take-append-drop n xs) (Contains-append_left (take n xs) (drop n xs) r has)

pub left_from : (n : ℕ) (xs : List Runnable) (r : Runnable) → Contains (drop n xs) r → Contains xs r
left_from n xs r has = subst (λ ys. Contains ys r) (take-append-drop n xs) (Contains-append_right (take n xs) (drop n xs) r has)

pub published_seen : (q : Queue Runnable) (more : List Runnable) → published (queue_seen q) (tasks_of more) ≡ queue_seen (published q more)
published_seen q more = ap (λ xs. record (queue_seen q) { values = xs }) (sym (map-append (λ (r : Runnable). r.task.0) q.values more))

-- a step that leaves all queues is one of the hands
pub same_hands : (k : ℕ) (q : Queue Runnable) (w w' : Worker) → w'.hand ≡ w.hand → w'.loot ≡ w.loot → polls_at w'.place ≡ polls_at w.place → w'.searching ≡ w.searching → has_count_at w'.place ≡ has_count_at w.place → w'.index ≡ w.index → is_published_at w'.place ≡ is_published_at w.place → claims_at w'.place ≡ claims_at w.place → drops_at w'.place ≡ drops_at w.place → SameTold w w' → Hands k q q w w'
same_hands k q w w' hand loot polls searching counts index shown claims drops told =
    record { runnables = λ t. rw (hand, loot) refl; polls = polls; searching = searching; counts = counts; index = index; published = shown; drops = drops; told = told; claims_beside = λ j other. rw claims refl; claims = rw claims refl }

module _ {B : Type 0} where
  -- the seat of a worker
  pub seat_there : (k : ℕ) (p : Place) (w : Worker) (s : Shared B) → SoundAt p w s → k < length s.seats.items → (chair : Chair) × (slice_get s.seats.items k ≡ Some chair)
  seat_there k p w s sound within = (_, slice_get-get_or s.seats.items k sound.seated.seat within)

  -- ANOTHER SEAT: the own one is as it was

  pub own_still : (k : ℕ) (chair' : Chair) (w : Worker) (s s' : Shared B) → k ≢ w.index → s'.seats.items ≡ slice_set s.seats.items k chair' → slice_get s'.seats.items w.index ≡ slice_get s.seats.items w.index
  own_still k chair' w s s' other set = ap (λ xs. slice_get xs w.index) set ∙ set_elsewhere s.seats.items k w.index chair' (λ is. other (sym is))

  pub seated_still : (k : ℕ) (chair' : Chair) (armed : Bool) (w : Worker) (s s' : Shared B) → k ≢ w.index → s'.seats.items ≡ slice_set s.seats.items k chair' → IsSeated w.index armed s.config.workers s.seats.items → IsSeated w.index armed s.config.workers s'.seats.items
  seated_still = grind (arith, as_long, length-set, own_still)

  pub stage_still : (k : ℕ) (chair' : Chair) (w : Worker) (s s' : Shared B) → k ≢ w.index → s'.seats.items ≡ slice_set s.seats.items k chair' → (chair : Chair) → slice_get s'.seats.items w.index ≡ Some chair → (was : Chair) × (slice_get s.seats.items w.index ≡ Some was) × (stage_of was s ≡ stage_of chair s)
  stage_still k chair' w s s' other set chair there = (chair, sym (own_still k chair' w s s' other set) ∙ there, refl)

  -- it has a claim of that queue
  pub has_claim : (k : ℕ) (its : Chair) (w : Worker) (s : Shared B) → HasWhole w s → slice_get s.seats.items k ≡ Some its → claims_at w.place ≡ Some k → 0 < its.queue.gap
  has_claim k its w s has there claims = by (its.queue.gap == 0) refl (has.whole.claims k its there)
    where
      by : (b : Bool) → (its.queue.gap == 0) ≡ b → (with_worker has.others w).claims k ≡ one_if (not b) → 0 < its.queue.gap
      by = grind arith
