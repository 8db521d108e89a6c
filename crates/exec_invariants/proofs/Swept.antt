-- The ring of a driver after a reaping, and after wakes were raised.
use Rattle.exec_invariants.{specs.{Flown.{polls_in, ends_in, IsPolled}, Places.one_if}, proofs.{Words.{◌≡◌, ℕ, zero, suc, ◌+◌, ◌≤◌, ◌==◌, ◌&&◌, ◌||◌, Bool, true, false, not, List, [], ◌∷◌, ◌++◌, map, filter, Option, Some, None, refl, sym, ap, ◌∙◌, arith, nat_lt, replicate, if◌then◌else◌, false≢true, nat_tests, append_assoc, flat_map, or-true, wake_completion, has_none, is_quiet, reaped, with_wake, RingState, completions, spelled, Completion, Posted, Driving, swept, with_landings, is_empty, dropped_from as dropped, is_dropped, others_left, told_left, Reply, with_raises, trailing, trails_wake, behind_end, wake_poll_in, raised_times}, Behind.{is_op, after_controls, armed_through, armed_through_is, dropped_first, ended_after, ends_after, first_is, none_left, ops_after, reaped_armed, reaped_ended, reaped_ends, reaped_others, reaped_told}, WokenEntered.{Raises, one_most, raise_polled, raise_same, raise_shown, raises_both, raises_none, ended_some}, WokenSwept.{first_there, sweeps}}}

-- what is dropped with the end of the wake poll is all that stood of that
balanced : (drop : Bool) (e : Option ℕ) (cs : List Completion) (k : ℕ) (b a : Bool) → behind_end cs ≡ e → (drop ≡ true → (n : ℕ) × (e ≡ Some n)) → k + (one_if b + ends_in cs) ≡ one_if a
    → k + (one_if b + (if drop then 0 else ends_in cs)) ≡ one_if (a && not drop)
balanced = grind (arith, ended_some)

some_end : (xs : List ℕ) (e : Option ℕ) → is_dropped xs e ≡ true → (n : ℕ) × (e ≡ Some n)
some_end xs None h = absurd (false≢true h)
some_end xs (Some n) h = (n, refl)

pub few_ends : (r : RingState) (a : Bool) → IsPolled r a → ends_in (completions r) ≤ 1
few_ends r a polled = let most = one_most a in omega (arith, polled, most)

module _ {S F : Type 0} where
  -- operations are left in the ring, or none: the others behind the last are dropped with it, and a completion of the wake poll
  -- that stood before them
  pub record RingAfter (f : Completion → ℕ) (d d' : Driving S F) (cs : List Completion) : Type 0 where
    pub size : d'.ring.size ≡ d.ring.size
    pub staged : d'.ring.staged ≡ d.ring.staged
    pub flying : d'.ring.flying ≡ d.ring.flying
    pub busy : d'.ring.busy ≡ d.ring.busy
    pub landed : filter is_op (completions d'.ring) ≡ cs
    pub others : trailing 0 (completions d'.ring) ≡ others_left (map f cs) (trailing 0 (completions d.ring))
    pub poll : wake_poll_in d'.ring ≡ dropped (map f cs) (wake_poll_in d.ring)
    pub armed : d'.armed ≡ (d.armed && not (is_dropped (map f cs) (behind_end (completions d.ring))))
    pub polled : IsPolled d'.ring d'.armed

  -- by the list of completions that is left, of a ring that is alike else
  ring_by : (f : Completion → ℕ) (d d' : Driving S F) (cs ys : List Completion) → d'.ring ≡ record d.ring { posted = d'.ring.posted; wakes = d'.ring.wakes } → completions d'.ring ≡ ys
      → filter is_op ys ≡ cs → trailing 0 ys ≡ others_left (map f cs) (trailing 0 (completions d.ring)) → trails_wake false ys ≡ told_left (map f cs) (trails_wake false (completions d.ring))
      → behind_end ys ≡ (if is_dropped (map f cs) (behind_end (completions d.ring)) then None else behind_end (completions d.ring))
      → ends_in ys ≡ (if is_dropped (map f cs) (behind_end (completions d.ring)) then 0 else ends_in (completions d.ring))
      → d'.armed ≡ (d.armed && not (is_dropped (map f cs) (behind_end (completions d.ring)))) → IsPolled d.ring d.armed → RingAfter f d d' cs
  ring_by f d d' cs ys shape left landed others told ended ends armed polled =
      let xs = completions d.ring in
      let poll : wake_poll_in d'.ring ≡ dropped (map f cs) (wake_poll_in d.ring) = grind (arith, shape, left, told, ended) in
      let polled_so : IsPolled d'.ring d'.armed =
      ap (λ r. polls_in r.staged + (one_if r.armed + ends_in (completions d'.ring))) shape
      ∙ ap (λ n. polls_in d.ring.staged + (one_if d.ring.armed + n)) (ap ends_in left ∙ ends)
      ∙ balanced (is_dropped (map f cs) (behind_end xs)) (behind_end xs) xs (polls_in d.ring.staged) d.ring.armed d.armed refl (some_end (map f cs) (behind_end xs)) polled
      ∙ sym (ap one_if armed) in
      assumption (ap (λ r. r.size) shape, ap (λ r. r.staged) shape, ap (λ r. r.flying) shape, ap (λ r. r.busy) shape, ap (filter is_op) left ∙ landed, ap (trailing 0) left ∙ others, poll, armed, polled_so)

  -- where none has landed all is dropped
  pub ring_none : (f : Completion → ℕ) (d d' : Driving S F) → d' ≡ with_landings d' (swept d) → IsPolled d.ring d.armed → filter is_op (completions d.ring) ≡ [] → RingAfter f d d' []
  ring_none f d d' like polled is =
      let xs = completions d.ring in
      let to = sweeps d in
      let none = none_left xs is in
      let few = few_ends d.ring d.armed polled in
      let drop = dropped_first f xs in
      let drop_none : is_dropped [] (behind_end xs) ≡ is_dropped (map f (filter is_op xs)) (behind_end xs) = ap (λ ys. is_dropped (map f ys) (behind_end xs)) (sym is) in
      let armed : d'.armed ≡ (d.armed && not (is_dropped [] (behind_end xs))) =
      ap (λ x. x.armed) like ∙ to.armed ∙ armed_through_is xs d.armed ∙ ap (λ b. d.armed && not b) (sym drop ∙ sym drop_none) in
      ring_by f d d' [] (after_controls xs)
      (ap (λ x. x.ring) like ∙ ap (λ x. x.ring) to.shape ∙ ap (λ (r : RingState). record d.ring { posted = r.posted; wakes = r.wakes }) (sym (ap (λ x. x.ring) like)))
      (ap (λ x. completions x.ring) like ∙ to.left)
      (ap (filter is_op) none) (ap (trailing 0) none) (ap (trails_wake false) none)
      (ended_after f xs few ∙ ap (λ b. if b then None else behind_end xs) (sym drop ∙ sym drop_none))
      (ends_after f xs few ∙ ap (λ b. if b then 0 else ends_in xs) (sym drop ∙ sym drop_none))
      armed polled

  -- the first was taken out between two sweeps
  pub ring_after : (f : Completion → ℕ) (d first second d' : Driving S F) (c : Completion) (cs : List Completion) → first ≡ with_landings first (swept d) → second.ring ≡ reaped first.ring → second.armed ≡ first.armed → d' ≡ with_landings d' (swept second)
      → IsPolled d.ring d.armed → filter is_op (completions d.ring) ≡ c ∷ cs → RingAfter f d d' cs
  ring_after f d first second d' c cs like1 ring armed like2 polled is =
      let xs = completions d.ring in
      let it = first_is xs c cs is in
      let few = few_ends d.ring d.armed polled in
      let to1 = sweeps d in
      let to2 = sweeps second in
      let r1 = (swept d).ring in
      let ring2 : second.ring ≡ reaped r1 = ring ∙ ap (λ x. reaped x.ring) like1 in
      let left2 : completions second.ring ≡ it.rest = ap completions ring2 ∙ (first_there r1.posted r1 c it.rest refl (to1.left ∙ it.first) it.operates).left in
      let again : d'.ring ≡ (swept second).ring = ap (λ x. x.ring) like2 in
      let shape : d'.ring ≡ record d.ring { posted = d'.ring.posted; wakes = d'.ring.wakes } = grind (arith, again, to2.shape, ring2, to1.shape) in
      ring_by f d d' cs (after_controls it.rest) shape
      (ap completions again ∙ to2.left ∙ ap after_controls left2)
      (ops_after it.rest ∙ it.later)
      (reaped_others f xs c cs is few it) (reaped_told f xs c cs is few it) (reaped_ended f xs c cs is few it) (reaped_ends f xs c cs is few it)
      (ap (λ x. x.armed) like2 ∙ to2.armed ∙ ap (λ ys. armed_through ys second.armed) left2 ∙ ap (armed_through it.rest) (armed ∙ ap (λ x. x.armed) like1 ∙ to1.armed) ∙ reaped_armed f xs c cs is few it d.armed)
      polled

-- WAKES ARE RAISED

pub record RaisesTo (n : ℕ) (d d' : Driving Reply Reply) : Type 0 where
  pub shape : d' ≡ record d { ring = d'.ring }
  pub raises : Raises d.ring d'.ring
  pub poll : wake_poll_in d'.ring ≡ raised_times n (wake_poll_in d.ring)
  pub polled : IsPolled d'.ring d.armed

pub raises_to : (n : ℕ) (d : Driving Reply Reply) → IsPolled d.ring d.armed → RaisesTo n d (with_raises n d)
raises_to zero d polled = record { shape = refl; raises = raises_none d.ring; poll = refl; polled = polled }
raises_to (suc n) d polled =
    let d1 : Driving Reply Reply = record d { ring = with_wake d.ring } in
    let rest = raises_to n d1 (raise_polled d.ring d.armed polled) in
    record {
      shape = rest.shape;
      raises = raises_both d.ring d1.ring (with_raises n d1).ring (raise_same d.ring) rest.raises;
      poll = rest.poll ∙ ap (raised_times n) (raise_shown d.ring d.armed polled);
      polled = rest.polled;
    }

-- WHAT IS IN THE RING

is_positive : (n : ℕ) → nat_lt 0 (suc n) ≡ true
is_positive n = grind (arith, nat_tests)

-- what completions there are, some are of operations, or stand behind the last of those
some_there : (f : Completion → ℕ) (n : ℕ) (told : Bool) (cs : List Completion)
    → (not (is_empty (map f (filter is_op cs))) || (nat_lt 0 (trailing n cs) || trails_wake told cs)) ≡ (nat_lt 0 n || (told || not (is_empty cs)))
some_there f n told [] = grind arith
some_there f n told (c ∷ cs) = grind (arith, is_positive, false≢true, or-true, is_op, some_there f n true cs, some_there f (suc n) told cs)

some_spelled : (n : ℕ) (w c : Completion) (rest : List Completion) → is_empty ((replicate n w ++ c ∷ []) ++ rest) ≡ false
some_spelled zero w c rest = refl
some_spelled (suc n) w c rest = refl

none_spelled : (ps : List Posted) (n : ℕ) → is_empty (flat_map spelled ps ++ replicate n (wake_completion true)) ≡ (has_none ps && (n == 0))
none_spelled = grind (arith, nat_tests, append_assoc, some_spelled)

-- a completion is there just where one of an operation is, or some stand behind the last of those
pub some_in_ring : (f : Completion → ℕ) (r : RingState) → (not (is_empty (map f (filter is_op (completions r)))) || (nat_lt 0 (trailing 0 (completions r)) || trails_wake false (completions r))) ≡ not (is_quiet r)
some_in_ring f r = some_there f 0 false (completions r) ∙ ap not (none_spelled r.posted r.wakes)

-- the same, as the moves ask it
or_groups : (a b c : Bool) → ((a || b) || c) ≡ (a || (b || c))
or_groups true b c = refl
or_groups false b c = refl

pub some_grouped : (f : Completion → ℕ) (r : RingState) → ((not (is_empty (map f (filter is_op (completions r)))) || nat_lt 0 (trailing 0 (completions r))) || trails_wake false (completions r)) ≡ not (is_quiet r)
some_grouped f r = or_groups (not (is_empty (map f (filter is_op (completions r))))) (nat_lt 0 (trailing 0 (completions r))) (trails_wake false (completions r)) ∙ some_in_ring f r
