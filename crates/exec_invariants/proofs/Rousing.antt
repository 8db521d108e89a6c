-- What a seat keeps whose wake word was signalled or whose wait was ended, and what is seen of that.
use Rattle.exec_invariants.{specs.Sound.IsSeated, proofs.{Words.{◌≡◌, ℕ, zero, suc, ◌+◌, ◌-◌, ◌^◌, ◌≤◌, ◌⊎◌, inl, inr, Bool, true, false, List, [], ◌∷◌, min, Some, refl, sym, ap, ◌∙◌, arith, slice_get, slice_set, lit≤, if◌then◌else◌, length-set, get_or_from_slice_get, raised_if, WakePoll, no_wake_poll, raised, wake_poll_of, set_wake_poll, Chair, Shared, stage_of, chair_raised, IsMailbox, Views, Visible, polls_seen, raised_times, things_with, by_number, set_elsewhere, set_there}, Showing.map_kept, Dedicated.as_long}}

-- A SEAT THAT KEEPS what its worker goes by
pub record Keeps (was chair : Chair) : Type 0 where
  pub queue : chair.queue ≡ was.queue
  pub target : chair.mailbox.waker.target ≡ was.mailbox.waker.target
  pub inbox : chair.mailbox.inbox ≡ was.mailbox.inbox
  pub mail : IsMailbox was.mailbox → IsMailbox chair.mailbox
  pub phase : chair.phase ≡ was.phase
  pub pool : chair.pool ≡ was.pool
  pub left : chair.left ≡ was.left
  pub made : chair.made ≡ was.made

same_seat : (chair : Chair) → Keeps chair chair
same_seat chair = record { queue = refl; target = refl; inbox = refl; mail = λ h. h; phase = refl; pool = refl; left = refl; made = refl }

same_stage : {B : Type 0} (was chair : Chair) → Keeps was chair → (s : Shared B) → stage_of was s ≡ stage_of chair s
same_stage was chair keeps s = rw (keeps.phase, keeps.pool, keeps.left, keeps.inbox, keeps.made) refl

module _ {B : Type 0} (k : ℕ) (its its' : Chair) (keeps : Keeps its its') (s s' : Shared B) (there : slice_get s.seats.items k ≡ Some its) (set : s'.seats.items ≡ slice_set s.seats.items k its') where
  now : slice_get s'.seats.items k ≡ Some its'
  now = ap (λ xs. slice_get xs k) set ∙ set_there s.seats.items k its' its there

  -- what a seat was
  pub seat_was : (i : ℕ) (chair : Chair) → slice_get s'.seats.items i ≡ Some chair → (was : Chair) × (slice_get s.seats.items i ≡ Some was) × Keeps was chair
  seat_was = grind (arith, by_number, set_elsewhere, same_seat, now)

  pub seated_now : (i : ℕ) (armed : Bool) (workers : ℕ) → IsSeated i armed workers s.seats.items → IsSeated i armed workers s'.seats.items
  seated_now = grind (arith, as_long, length-set, by_number, set_elsewhere, now)

  pub stage_was : (i : ℕ) (chair : Chair) → slice_get s'.seats.items i ≡ Some chair → (was : Chair) × (slice_get s.seats.items i ≡ Some was) × (stage_of was s ≡ stage_of chair s)
  stage_was = grind (arith, seat_was, same_stage)

-- THE WAKE POLL, once a wake is raised

-- one more wake
raised_more : (n : ℕ) (p : WakePoll) → raised_times (suc n) p ≡ raised (raised_times n p)
raised_more zero p = refl
raised_more (suc n) p = raised_more n (raised p)

-- a third wake changes nothing
raised_enough : (p : WakePoll) → raised (raised (raised p)) ≡ raised (raised p)
raised_enough = grind arith

raised_many : (n : ℕ) (p : WakePoll) → raised_times (suc (suc n)) p ≡ raised (raised p)
raised_many zero p = refl
raised_many (suc n) p = raised_many n (raised p) ∙ raised_enough p

-- so a count that is at its type's end says the same
raised_to : (n m : ℕ) (p : WakePoll) → (m ≡ suc n) ⊎ ((2 ≤ m) × (2 ≤ n)) → raised_times m p ≡ raised (raised_times n p)
raised_to n m p (inl is) = ap (λ k. raised_times k p) is ∙ raised_more n p
raised_to n m p (inr some) =
    at m some.0 ∙ sym (ap raised (at n some.1) ∙ raised_enough p)
  where
    at : (k : ℕ) → 2 ≤ k → raised_times k p ≡ raised (raised p)
    at zero less = absurd (omega (arith, less))
    at (suc zero) less = absurd (omega (arith, less))
    at (suc (suc k)) less = raised_many k p

capped : (n limit : ℕ) → 3 ≤ limit → (min (n + 1) limit ≡ suc n) ⊎ ((2 ≤ min (n + 1) limit) × (2 ≤ n))
capped = grind arith

-- what is seen of one wake poll, and of all once a seat was set
pub poll_there : (vs : List Visible) (seats : List Chair) (i : ℕ) (v : Visible) (chair : Chair) → slice_get vs i ≡ Some v → slice_get seats i ≡ Some chair → slice_get (polls_seen vs seats) i ≡ Some (raised_times chair.raised v.wakes)
poll_there [] seats i v chair seen there = absurd (cc)
poll_there (x ∷ vs) [] i v chair seen there = absurd (cc)
poll_there (x ∷ vs) (seat ∷ seats) zero v chair seen there = grind arith
poll_there (x ∷ vs) (seat ∷ seats) (suc i) v chair seen there = poll_there vs seats i v chair seen there

poll_set : (vs : List Visible) (seats : List Chair) (i : ℕ) (v : Visible) (chair : Chair) → slice_get vs i ≡ Some v → polls_seen vs (slice_set seats i chair) ≡ slice_set (polls_seen vs seats) i (raised_times chair.raised v.wakes)
poll_set [] seats i v chair seen = absurd (cc)
poll_set (x ∷ vs) [] i v chair seen = refl
poll_set (x ∷ vs) (seat ∷ seats) zero v chair seen = grind arith
poll_set (x ∷ vs) (seat ∷ seats) (suc i) v chair seen = ap (λ ps. raised_times seat.raised x.wakes ∷ ps) (poll_set vs seats i v chair seen)

raised_by : (ring : Bool) (n : ℕ) (p : WakePoll) → raised_times (if ring then min (n + 1) (2 ^ 64 - 1) else n) p ≡ raised_if ring (raised_times n p)
raised_by true n p = raised_to n (min (n + 1) (2 ^ 64 - 1)) p (capped n (2 ^ 64 - 1) (lit≤ tt))
raised_by false n p = refl

-- a wake is raised for the ring of worker k, and its seat shows that it doesn't rest
pub wake_shows : {B : Type 0} (ring : Bool) (vs : Views) (k : ℕ) (v : Visible) (its : Chair) (s s' : Shared B) → slice_get vs.workers k ≡ Some v → slice_get s.seats.items k ≡ Some its → s' ≡ record s { seats = s'.seats } → s'.seats.items ≡ slice_set s.seats.items k (chair_raised ring its)
    → things_with vs s' ≡ set_wake_poll k (things_with vs s) (raised_if ring (wake_poll_of (things_with vs s) k))
wake_shows ring vs k v its s s' seen there kept set =
    let its' : Chair = chair_raised ring its in
    let seats = s.seats.items in
    let polls : polls_seen vs.workers (slice_set seats k its') ≡ slice_set (polls_seen vs.workers seats) k (raised_if ring (wake_poll_of (things_with vs s) k)) =
    poll_set vs.workers seats k v its' seen ∙ ap (slice_set (polls_seen vs.workers seats) k) (raised_by ring its.raised v.wakes ∙ ap (raised_if ring) (sym (get_or_from_slice_get (polls_seen vs.workers seats) k (raised_times its.raised v.wakes) no_wake_poll (poll_there vs.workers seats k v its seen there)))) in
    grind (arith, map_kept)
