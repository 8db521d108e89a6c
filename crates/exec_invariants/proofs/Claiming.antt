-- What comes of the exchange of another run queue's head for a claim, as the step says it.
use Rattle.exec_invariants.proofs.{Names.{◌≡◌, ℕ, ◌+◌, ◌<◌, Bool, true, false, List, length, take, Some, refl, sym, ap, subst, ◌∙◌, slice_get, slice_index_or, eq-eqb, drop-map, take-map, get_or_from_slice_get, slice_get-get_or, ◌&&◌, ◌==◌, claim_at, claimed_head, claimed, head_of, Reserved, Head, Runnable, Turn, InScan, Scan, Place, same_head, claim_half, from_of, queue_of, turns, same_number, true_false, Chair, Shared, Worker, desk_of, queue_seen, tasks_of, things_of, Makes, false_from_ne_true}, Showing.own_queue_seen}

-- what was borrowed is what stands there
pub chair_is : (seats : List Chair) (i k : ℕ) (m chair : Chair) → m ≡ slice_index_or seats i m → i ≡ k → slice_get seats k ≡ Some chair → m ≡ chair
chair_is seats i k m chair value same there = value ∙ ap (λ n. slice_index_or seats n m) same ∙ get_or_from_slice_get seats k chair m there

pub chair_there : (seats : List Chair) (i k : ℕ) (m : Chair) → m ≡ slice_index_or seats i m → i ≡ k → k < length seats → slice_get seats k ≡ Some m
chair_there seats i k m value same within = slice_get-get_or seats k m within ∙ ap (λ x. Some x) (sym (value ∙ ap (λ n. slice_index_or seats n m) same))

pub same_heads : (h k : Head) → same_head h k ≡ true → (h.real ≡ k.real) × (h.gap ≡ k.gap)
same_heads h k is = by (h.real == k.real) (h.gap == k.gap) refl refl is
  where
    by : (a b : Bool) → (h.real == k.real) ≡ a → (h.gap == k.gap) ≡ b → (a && b) ≡ true → (h.real ≡ k.real) × (h.gap ≡ k.gap)
    by true true real gap is = (same_number h.real k.real real, same_number h.gap k.gap gap)
    by true false real gap is = true_false (sym is)
    by false b real gap is = true_false (sym is)

-- the test of two heads
pub heads_same : (h g : Head) → g ≡ h → same_head h g ≡ true
heads_same h g is = rw (is, eq-eqb h.real h.real refl, eq-eqb h.gap h.gap refl) refl

pub heads_other : (h g : Head) → (g ≡ h → ⊥) → same_head h g ≡ false
heads_other h g other =
    false_from_ne_true (same_head h g) (λ is. let two = same_heads h g is in other (ap (λ r. record g { real = r }) (sym two.0) ∙ ap (λ n. record h { gap = n }) (sym two.1)))

-- the step is the move
pub claim_makes : {B : Type 0} (s : Shared B) (w : Worker) (x : Scan) (h : Head) (tail i count : ℕ) (m : Chair) (hand : Reserved Runnable) → slice_get s.seats.items (from_of s.config x) ≡ Some m → i ≡ from_of s.config x → count ≡ claim_at h tail
    → hand.values ≡ take (claim_at h tail) m.queue.values → head_of m.queue ≡ h
    → Makes (claim_half s.config w.index x h tail (desk_of w) (queue_of (things_of s) (from_of s.config x))) Turn (record w { place = Place.Scan (InScan.MoveHalf i (record { real = h.real + count; gap = count })); loot = hand })
claim_makes s w x h tail i count m hand there number half taken same =
    let from = from_of s.config x in
    let n = claim_at h tail in
    let values = m.queue.values in
    let f : Runnable → ℕ = λ r. r.task.0 in
    let d = desk_of w in
    let w1 : Worker = record w { place = Place.Scan (InScan.MoveHalf i (record { real = h.real + count; gap = count })); loot = hand } in
    let it : claim_half s.config w.index x h tail d (queue_of (things_of s) from) ≡ turns (Place.Scan (InScan.MoveHalf from (claimed_head h n))) (record d { loot = tasks_of (take n values) }) (queue_seen (claimed m.queue n)) =
    rw (own_queue_seen from s m there, heads_same h (head_of m.queue) same, take-map f n values, drop-map f n values) refl in
    let desk : desk_of w1 ≡ record d { place = Place.Scan (InScan.MoveHalf from (claimed_head h n)); loot = tasks_of (take n values) } =
    ap (λ k. record d { place = Place.Scan (InScan.MoveHalf k (record { real = h.real + count; gap = count })); loot = tasks_of hand.values }) number
    ∙ ap (λ z. record d { place = Place.Scan (InScan.MoveHalf from (record { real = h.real + z; gap = z })); loot = tasks_of hand.values }) half
    ∙ ap (λ xs. record d { place = Place.Scan (InScan.MoveHalf from (claimed_head h n)); loot = tasks_of xs }) taken in
    subst (λ y. Makes y Turn w1) (sym it) (record { event = refl; desk = desk })
