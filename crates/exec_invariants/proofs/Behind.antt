-- What stands behind in a list of completions, and what is left of it once all of no operation before the first of an operation
-- was dropped.
use Rattle.exec_invariants.{proofs.Names.{◌≡◌, ℕ, suc, ◌+◌, ◌≤◌, ◌==◌, ◌&&◌, ◌||◌, Bool, true, false, not, List, [], ◌∷◌, map, filter, Option, Some, None, refl, sym, ap, ◌∙◌, arith, if◌then◌else◌, nat_tests, length-map, is_wake, Completion, is_control, armed_after, is_dropped, others_left, told_left, trailing, trails_wake, operations_in, is_end, behind_end}, specs.Flown.ends_in}

abbrev pub is_op : Completion → Bool
is_op c = not (is_control c)

-- without what is of no operation before the first of an operation
abbrev pub after_controls : List Completion → List Completion
after_controls [] = []
after_controls (c ∷ cs) = if is_control c then after_controls cs else (c ∷ cs)

-- among that is the end of the wake poll
abbrev pub ends_first : List Completion → Bool
ends_first [] = false
ends_first (c ∷ cs) = is_control c && (is_end c || ends_first cs)

-- and so the driver knows then
abbrev pub armed_through : List Completion → Bool → Bool
armed_through [] a = a
armed_through (c ∷ cs) a = if is_control c then armed_through cs (armed_after c a) else a

pub end_controls : (c : Completion) → is_end c ≡ true → is_control c ≡ true
end_controls = grind arith

pub op_ends : (c : Completion) → is_control c ≡ false → is_end c ≡ false
op_ends = grind arith

pub op_wakes : (c : Completion) → is_control c ≡ false → is_wake c ≡ false
op_wakes = grind arith

pub op_acks : (c : Completion) → is_control c ≡ false → (c.user_data == 4294967295) ≡ false
op_acks = grind arith

armed_control : (c : Completion) (a : Bool) → is_control c ≡ true → armed_after c a ≡ (a && not (is_end c))
armed_control = grind arith

pub armed_through_is : (cs : List Completion) (a : Bool) → armed_through cs a ≡ (a && not (ends_first cs))
armed_through_is [] true = refl
armed_through_is [] false = refl
armed_through_is (c ∷ cs) a = grind (arith, armed_control, armed_through_is cs (armed_after c a))

-- one by one
pub passes : (c : Completion) (cs : List Completion) → is_control c ≡ true → after_controls (c ∷ cs) ≡ after_controls cs
passes c cs control = ap (λ b. if b then after_controls cs else (c ∷ cs)) control

pub stays : (c : Completion) (cs : List Completion) → is_control c ≡ false → after_controls (c ∷ cs) ≡ c ∷ cs
stays c cs control = ap (λ b. if b then after_controls cs else (c ∷ cs)) control

-- ENDS

pub no_end : (cs : List Completion) → ends_in cs ≡ 0 → behind_end cs ≡ None
no_end [] none = refl
no_end (c ∷ cs) none = by (is_end c) refl (λ h. no_end cs h)
  where
    by : (b : Bool) → is_end c ≡ b → (ends_in cs ≡ 0 → behind_end cs ≡ None) → behind_end (c ∷ cs) ≡ None
    by true is rest = absurd (let none_more : 1 + ends_in cs ≡ 0 = rw is at none in omega arith)
    by false is rest = rw is (rest (let none_more : 0 + ends_in cs ≡ 0 = rw is at none in omega arith))

ends_after_le : (cs : List Completion) → ends_in (after_controls cs) ≤ ends_in cs
ends_after_le [] = omega arith
ends_after_le (c ∷ cs) = grind (arith, passes, stays, ends_after_le cs)

-- not so many operations stand behind
behind_most : (cs : List Completion) (n : ℕ) → behind_end cs ≡ Some n → n ≤ operations_in cs
behind_most [] n h = absurd (cc)
behind_most (c ∷ cs) n h = by (is_end c) refl (is_control c) refl (λ some. behind_most cs n some)
  where
    by : (b : Bool) → is_end c ≡ b → (x : Bool) → is_control c ≡ x → (behind_end cs ≡ Some n → n ≤ operations_in cs) → n ≤ operations_in (c ∷ cs)
    by = grind arith

module _ (f : Completion → ℕ) where
  -- whether the end stands before the first operation, by how many have landed behind it
  pub dropped_first : (cs : List Completion) → is_dropped (map f (filter is_op cs)) (behind_end cs) ≡ ends_first cs
  dropped_first [] = refl
  dropped_first (c ∷ cs) = grind (arith, length-map, nat_tests, behind_most, end_controls, dropped_first cs)

  pub ended_after : (cs : List Completion) → ends_in cs ≤ 1 → behind_end (after_controls cs) ≡ (if ends_first cs then None else behind_end cs)
  ended_after [] few = refl
  ended_after (c ∷ cs) few = by (is_control c) refl (is_end c) refl (λ h. ended_after cs h)
    where
      by : (x : Bool) → is_control c ≡ x → (b : Bool) → is_end c ≡ b → (ends_in cs ≤ 1 → behind_end (after_controls cs) ≡ (if ends_first cs then None else behind_end cs)) → behind_end (after_controls (c ∷ cs)) ≡ (if ends_first (c ∷ cs) then None else behind_end (c ∷ cs))
      by = grind (arith, no_end, ends_after_le, op_ends)

  pub ends_after : (cs : List Completion) → ends_in cs ≤ 1 → ends_in (after_controls cs) ≡ (if ends_first cs then 0 else ends_in cs)
  ends_after [] few = refl
  ends_after (c ∷ cs) few = by (is_control c) refl (is_end c) refl (λ h. ends_after cs h)
    where
      by : (x : Bool) → is_control c ≡ x → (b : Bool) → is_end c ≡ b → (ends_in cs ≤ 1 → ends_in (after_controls cs) ≡ (if ends_first cs then 0 else ends_in cs)) → ends_in (after_controls (c ∷ cs)) ≡ (if ends_first (c ∷ cs) then 0 else ends_in (c ∷ cs))
      by = grind arith

-- WHAT STANDS BEHIND THE LAST

pub wake_any : (a b : Bool) (cs : List Completion) (x : Completion) (xs : List Completion) → filter is_op cs ≡ x ∷ xs → trails_wake a cs ≡ trails_wake b cs
wake_any a b [] x xs h = absurd (cc)
wake_any a b (c ∷ cs) x xs h = by (is_control c) refl (λ some. wake_any (is_wake c || (is_control c && a)) (is_wake c || (is_control c && b)) cs x xs some)
  where
    by : (k : Bool) → is_control c ≡ k → (filter is_op cs ≡ x ∷ xs → trails_wake a (c ∷ cs) ≡ trails_wake b (c ∷ cs)) → trails_wake a (c ∷ cs) ≡ trails_wake b (c ∷ cs)
    by true control rest = rest (rw control at h)
    by false control rest = rw (op_wakes c control, op_acks c control) refl

pub wake_after : (b : Bool) (cs : List Completion) (x : Completion) (xs : List Completion) → filter is_op cs ≡ x ∷ xs → trails_wake false (after_controls cs) ≡ trails_wake b cs
wake_after b [] x xs h = absurd (cc)
wake_after b (c ∷ cs) x xs h = by (is_control c) refl (λ some. wake_after (is_wake c || (is_control c && b)) cs x xs some)
  where
    by : (k : Bool) → is_control c ≡ k → (filter is_op cs ≡ x ∷ xs → trails_wake false (after_controls cs) ≡ trails_wake b (c ∷ cs)) → trails_wake false (after_controls (c ∷ cs)) ≡ trails_wake b (c ∷ cs)
    by true control rest = ap (trails_wake false) (passes c cs control) ∙ rest (rw control at h)
    by false control rest = ap (trails_wake false) (stays c cs control) ∙ wake_any false b (c ∷ cs) x xs h

pub trail_any : (m n : ℕ) (cs : List Completion) (x : Completion) (xs : List Completion) → filter is_op cs ≡ x ∷ xs → trailing m cs ≡ trailing n cs
trail_any m n [] x xs h = absurd (cc)
trail_any m n (c ∷ cs) x xs h = by (is_control c) refl (λ some. trail_any (if is_wake c then m else if is_control c then suc m else 0) (if is_wake c then n else if is_control c then suc n else 0) cs x xs some)
  where
    by : (k : Bool) → is_control c ≡ k → (filter is_op cs ≡ x ∷ xs → trailing m (c ∷ cs) ≡ trailing n (c ∷ cs)) → trailing m (c ∷ cs) ≡ trailing n (c ∷ cs)
    by true control rest = rest (rw control at h)
    by false control rest = rw (op_wakes c control, op_acks c control) refl

pub trail_after : (n : ℕ) (cs : List Completion) (x : Completion) (xs : List Completion) → filter is_op cs ≡ x ∷ xs → trailing 0 (after_controls cs) ≡ trailing n cs
trail_after n [] x xs h = absurd (cc)
trail_after n (c ∷ cs) x xs h = by (is_control c) refl (λ some. trail_after (if is_wake c then n else if is_control c then suc n else 0) cs x xs some)
  where
    by : (k : Bool) → is_control c ≡ k → (filter is_op cs ≡ x ∷ xs → trailing 0 (after_controls cs) ≡ trailing n (c ∷ cs)) → trailing 0 (after_controls (c ∷ cs)) ≡ trailing n (c ∷ cs)
    by true control rest = ap (trailing 0) (passes c cs control) ∙ rest (rw control at h)
    by false control rest = ap (trailing 0) (stays c cs control) ∙ trail_any 0 n (c ∷ cs) x xs h

-- THE FIRST OPERATION

pub record FirstIs (xs : List Completion) (c : Completion) (cs : List Completion) : Type 0 where
  pub rest : List Completion
  pub first : after_controls xs ≡ c ∷ rest
  pub operates : is_control c ≡ false
  pub later : filter is_op rest ≡ cs

pub first_is : (xs : List Completion) (c : Completion) (cs : List Completion) → filter is_op xs ≡ c ∷ cs → FirstIs xs c cs
first_is [] c cs h = absurd (cc)
first_is (x ∷ xs) c cs h = by (is_control x) refl (λ some. first_is xs c cs some)
  where
    by : (k : Bool) → is_control x ≡ k → (filter is_op xs ≡ c ∷ cs → FirstIs xs c cs) → FirstIs (x ∷ xs) c cs
    by = grind arith

pub ops_after : (xs : List Completion) → filter is_op (after_controls xs) ≡ filter is_op xs
ops_after [] = refl
ops_after (x ∷ xs) = grind (arith, passes, stays, ops_after xs)

pub none_left : (xs : List Completion) → filter is_op xs ≡ [] → after_controls xs ≡ []
none_left [] h = refl
none_left (x ∷ xs) h = by (is_control x) refl (λ none. none_left xs none)
  where
    by : (k : Bool) → is_control x ≡ k → (filter is_op xs ≡ [] → after_controls xs ≡ []) → after_controls (x ∷ xs) ≡ []
    by true control later = passes x xs control ∙ later (rw control at h)
    by false control later = absurd (let no : x ∷ filter is_op xs ≡ [] = rw control at h in cc)

-- WHAT A REAPING LEAVES, of a list of completions of which one at most has ended the wake poll: all before the first operation
-- is dropped, that is taken out, and so is all before the next.
module _ (f : Completion → ℕ) (xs : List Completion) (c : Completion) (cs : List Completion) (is : filter is_op xs ≡ c ∷ cs) (few : ends_in xs ≤ 1) (it : FirstIs xs c cs) where
  rest_ended : behind_end it.rest ≡ (if is_dropped (map f (c ∷ cs)) (behind_end xs) then None else behind_end xs)
  rest_ended =
      let at_first : behind_end (c ∷ it.rest) ≡ behind_end it.rest = rw (op_ends c it.operates) refl in
      sym at_first ∙ ap behind_end (sym it.first) ∙ ended_after f xs few
      ∙ ap (λ b. if b then None else behind_end xs) (sym (dropped_first f xs) ∙ ap (λ ys. is_dropped (map f ys) (behind_end xs)) is)

  rest_ends : ends_in it.rest ≡ (if is_dropped (map f (c ∷ cs)) (behind_end xs) then 0 else ends_in xs)
  rest_ends =
      let at_first : ends_in (c ∷ it.rest) ≡ ends_in it.rest = rw (op_ends c it.operates) (omega arith) in
      sym at_first ∙ ap ends_in (sym it.first) ∙ ends_after f xs few
      ∙ ap (λ b. if b then 0 else ends_in xs) (sym (dropped_first f xs) ∙ ap (λ ys. is_dropped (map f ys) (behind_end xs)) is)

  rest_few : ends_in it.rest ≤ 1
  rest_few = grind (arith, rest_ends)

  -- dropped before the first is dropped before the next
  later_dropped : (e : Option ℕ) → is_dropped (map f (c ∷ cs)) e ≡ true → is_dropped (map f cs) e ≡ true
  later_dropped = grind arith

  rest_dropped : ends_first it.rest ≡ is_dropped (map f cs) (if is_dropped (map f (c ∷ cs)) (behind_end xs) then None else behind_end xs)
  rest_dropped = sym (dropped_first f it.rest) ∙ ap (λ ys. is_dropped (map f ys) (behind_end it.rest)) it.later ∙ ap (is_dropped (map f cs)) rest_ended

  pub reaped_ended : behind_end (after_controls it.rest) ≡ (if is_dropped (map f cs) (behind_end xs) then None else behind_end xs)
  reaped_ended = grind (arith, ended_after, rest_few, rest_dropped, rest_ended, later_dropped)

  pub reaped_ends : ends_in (after_controls it.rest) ≡ (if is_dropped (map f cs) (behind_end xs) then 0 else ends_in xs)
  reaped_ends = grind (arith, ends_after, rest_few, rest_dropped, rest_ends, later_dropped)

  pub reaped_armed : (a : Bool) → armed_through it.rest (armed_through xs a) ≡ (a && not (is_dropped (map f cs) (behind_end xs)))
  reaped_armed a =
      let by : (b : Bool) → is_dropped (map f (c ∷ cs)) (behind_end xs) ≡ b → (a : Bool) → ((a && not b) && not (is_dropped (map f cs) (if b then None else behind_end xs))) ≡ (a && not (is_dropped (map f cs) (behind_end xs))) =
      grind arith in
      armed_through_is it.rest (armed_through xs a)
      ∙ ap (λ b. b && not (ends_first it.rest)) (armed_through_is xs a)
      ∙ ap (λ b. (a && not b) && not (ends_first it.rest)) (sym (dropped_first f xs) ∙ ap (λ ys. is_dropped (map f ys) (behind_end xs)) is)
      ∙ ap (λ b. (a && not (is_dropped (map f (c ∷ cs)) (behind_end xs))) && not b) rest_dropped
      ∙ by (is_dropped (map f (c ∷ cs)) (behind_end xs)) refl a

  pub reaped_told : trails_wake false (after_controls it.rest) ≡ told_left (map f cs) (trails_wake false xs)
  reaped_told = by cs it.later
    where
      by : (ks : List Completion) → filter is_op it.rest ≡ ks → trails_wake false (after_controls it.rest) ≡ told_left (map f ks) (trails_wake false xs)
      by [] none = ap (trails_wake false) (none_left it.rest none)
      by (k ∷ ks) some =
          let behind : trails_wake false (c ∷ it.rest) ≡ trails_wake false it.rest = rw (op_wakes c it.operates, op_acks c it.operates) refl in
          wake_after false it.rest k ks some ∙ sym behind ∙ ap (trails_wake false) (sym it.first) ∙ wake_after false xs c cs is

  pub reaped_others : trailing 0 (after_controls it.rest) ≡ others_left (map f cs) (trailing 0 xs)
  reaped_others = by cs it.later
    where
      by : (ks : List Completion) → filter is_op it.rest ≡ ks → trailing 0 (after_controls it.rest) ≡ others_left (map f ks) (trailing 0 xs)
      by [] none = ap (trailing 0) (none_left it.rest none)
      by (k ∷ ks) some =
          let behind : trailing 0 (c ∷ it.rest) ≡ trailing 0 it.rest = rw (op_wakes c it.operates, op_acks c it.operates) refl in
          trail_after 0 it.rest k ks some ∙ sym behind ∙ ap (trailing 0) (sym it.first) ∙ trail_after 0 xs c cs is
