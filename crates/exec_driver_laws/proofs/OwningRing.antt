-- What the calls of a ring do to its operations, and to what they may end with.
use Rattle.std.proofs.Common.{◌≡◌, ℕ, zero, suc, ◌+◌, ◌-◌, eqb, Bool, true, false, not, ◌&&◌, cond, List, [], ◌∷◌, slice_get, Option, Some, None, refl, sym, ap, subst, arith, nat_le, ◌||◌}
use Rattle.exec_driver_laws.{proofs.Words.{count_by, fold, remove, false≢true, eqb-true, eqb_tells, sum_by-cons, sum_by_push, Opcode, OpResult, is_operation, completed, wake_completion, Landing, MayAllLand, all_taken, all_landed, entered_with, taken_as, with_entry, with_completion, with_wake, woken, landed, may_land, without_flight, flight_of, allows, last_place, is_of, next_completion, reaped, next_in, posted_left, RingState, Completion, Posted, Submission, WaiterId, Driving, is_control, noted, swept_from, cancel_staged, cancel_entry, poll_staged, wake_entry, entered, advanced_to, all_alone, Lists, advanced, list_all, list_all-append, is_lawful, number_of, result_in}, specs.{Waiting.KeepsPlaces, Owning.{is_posted_of, is_staged_of, is_wake_poll, operations_in, KeepsOperations}, Lawful.{asks_within, ends_within, is_within, EndsLawfully}}}
use Rattle.exec_ring.specs.Kernels.{taken_in}

-- an operation is no wake, and no cancel
pub no_control : (user_data : ℕ) → is_operation user_data ≡ true → (eqb 18446744073709551615 user_data ≡ false) × (eqb 4294967295 user_data ≡ false)
no_control = grind (arith, eqb_tells)

control_apart : (p : Posted) (user_data : ℕ) → is_operation user_data ≡ true → is_control p.completion ≡ true → is_posted_of user_data p ≡ false
control_apart = grind (arith, eqb_tells)

pub keeps_same : (a b : RingState) → b ≡ a → KeepsOperations a b
keeps_same a b same = subst (KeepsOperations a) (sym same) (λ user_data is. refl)

posted_one : (s : RingState) (c : Completion) (user_data : ℕ) → operations_in (with_completion s c) user_data ≡ operations_in s user_data + cond (eqb c.user_data user_data) 1 0
posted_one s c user_data = omega (arith, sum_by_push (λ (p : Posted). cond (is_posted_of user_data p) 1 0) s.posted (record { wakes = s.wakes; completion = c }))

pub entry_one : (s : RingState) (e : Submission) (user_data : ℕ) → operations_in (with_entry s e.window e.user_data) user_data ≡ operations_in s user_data + cond (is_staged_of user_data e) 1 0
entry_one s e user_data = omega (arith, sum_by_push (λ (x : Submission). cond (is_staged_of user_data x) 1 0) s.staged e)

woken_keeps : (s : RingState) → KeepsOperations s (woken s)
woken_keeps s user_data is = grind (arith, posted_one (record s { armed = false; last = false }) (wake_completion false) user_data, no_control user_data is)

pub wake_keeps : (s : RingState) → KeepsOperations s (with_wake s)
wake_keeps s user_data is = grind (arith, woken_keeps)

taken_keeps : (kind : Opcode) (s : RingState) (e : Submission) (user_data : ℕ) → is_operation user_data ≡ true → operations_in (taken_as kind s e) user_data ≡ operations_in s user_data + cond (is_of user_data e && not (is_wake_poll kind)) 1 0
taken_keeps kind s e user_data is = grind (arith, posted_one, woken_keeps, sum_by_push)

all_keeps : (es : List Submission) (s : RingState) (user_data : ℕ) → is_operation user_data ≡ true → operations_in (fold taken_in s es) user_data ≡ operations_in s user_data + count_by (is_staged_of user_data) es
all_keeps [] s user_data is = omega arith
all_keeps (e ∷ es) s user_data is = omega (arith, all_keeps es (taken_in s e) user_data is, taken_keeps e.window.kind s e user_data is, sum_by-cons (λ (x : Submission). cond (is_staged_of user_data x) 1 0) e es)

pub all_taken_keeps : (s : RingState) → KeepsOperations s (all_taken s)
all_taken_keeps s user_data is = omega (arith, all_keeps s.staged (record s { staged = [] }) user_data is)

-- the last that passes, where one does
pub last_passes : {X : Type 0} (p : X → Bool) (xs : List X) (x : X) → slice_get xs (last_place p xs) ≡ Some x → p x ≡ true
last_passes p [] x is = absurd (cc)
last_passes p (y ∷ ys) x is = grind (arith, last_passes p ys x)

without : {X : Type 0} (q : X → Bool) (xs : List X) (i : ℕ) (x : X) → slice_get xs i ≡ Some x → count_by q (remove xs i) + cond (q x) 1 0 ≡ count_by q xs
without q [] i x is = absurd (cc)
without q (y ∷ ys) zero x is = let same : y ≡ x = cc in grind (arith, sum_by-cons (λ z. cond (q z) 1 0) y ys)
without q (y ∷ ys) (suc i) x is = omega (arith, without q ys i x is, sum_by-cons (λ z. cond (q z) 1 0) y (remove ys i), sum_by-cons (λ z. cond (q z) 1 0) y ys)

pub flight_there : (s : RingState) (user_data : ℕ) (e : Submission) (n : OpResult) (other : ℕ) → flight_of s user_data ≡ Some e → operations_in (landed s user_data n) other ≡ operations_in s other
flight_there s user_data e n other is =
    let mine = last_passes (is_of user_data) s.flying e is in
    let fewer = without (is_of other) s.flying (last_place (is_of user_data) s.flying) e is in
    let same : e.user_data ≡ user_data = eqb-true e.user_data user_data mine in
    let more = posted_one (without_flight s user_data) (completed user_data n) other in
    omega (arith, more, rw same at fewer)

landed_keeps : (s : RingState) (user_data : ℕ) (n : OpResult) → may_land s user_data n ≡ true → KeepsOperations s (landed s user_data n)
landed_keeps s user_data n may other is = by (flight_of s user_data) refl may
  where
    by : (o : Option Submission) → flight_of s user_data ≡ o → allows o n ≡ true → operations_in (landed s user_data n) other ≡ operations_in s other
    by None at none = absurd (false≢true none)
    by (Some e) at some = omega (arith, flight_there s user_data e n other at)

all_landed_keeps : (ls : List Landing) (s : RingState) → MayAllLand ls s → KeepsOperations s (all_landed ls s)
all_landed_keeps [] s may user_data is = omega arith
all_landed_keeps (l ∷ ls) s may user_data is =
    omega (arith, landed_keeps s l.user_data l.result may.0 user_data is, all_landed_keeps ls (landed s l.user_data l.result) may.1 user_data is)

pub entered_keeps : (ls : List Landing) (s : RingState) → MayAllLand ls (all_taken s) → KeepsOperations s (entered_with ls s)
entered_keeps = grind (arith, all_taken_keeps, all_landed_keeps)

-- the completion that is taken out is gone
reaped_count : (ps : List Posted) (wakes : ℕ) (c : Completion) (user_data : ℕ) → is_operation user_data ≡ true → next_in ps wakes ≡ Some c → count_by (is_posted_of user_data) (posted_left ps) + cond (eqb c.user_data user_data) 1 0 ≡ count_by (is_posted_of user_data) ps
reaped_count [] wakes c user_data is next = grind (arith, no_control)
reaped_count (p ∷ ps) wakes c user_data is next =
    let cons = λ (q : Posted). sum_by-cons (λ (r : Posted). cond (is_posted_of user_data r) 1 0) q ps in
    grind (arith, no_control user_data is, cons p, cons (record p { wakes = p.wakes - 1 }), eqb_tells)

pub reaped_one : (s : RingState) (c : Completion) (user_data : ℕ) → is_operation user_data ≡ true → next_completion s ≡ Some c → operations_in (reaped s) user_data + cond (eqb c.user_data user_data) 1 0 ≡ operations_in s user_data
reaped_one s c user_data is next = omega (arith, reaped_count s.posted s.wakes c user_data is next)

module _ {S F : Type 0} where
  pub cancel_keeps : (d : Driving S F) (id : WaiterId) → KeepsOperations d.ring (cancel_staged d id).ring
  cancel_keeps d id user_data is = let more = entry_one d.ring (cancel_entry id) user_data in omega (arith, rw (no_control user_data is).1 at more)

  pub poll_keeps : (d : Driving S F) → KeepsOperations d.ring (poll_staged d).ring
  poll_keeps d user_data is = let more = entry_one d.ring wake_entry user_data in omega (arith, rw (no_control user_data is).0 at more)

  pub enter_keeps : (d : Driving S F) → MayAllLand d.landings (all_taken d.ring) → KeepsOperations d.ring (entered d).ring
  enter_keeps d may = entered_keeps d.landings d.ring may

  pub advance_keeps : (d : Driving S F) (now : ℕ) → KeepsOperations d.ring (advanced_to d now).ring
  advance_keeps d now = keeps_same d.ring _ refl

  -- what comes out of the wheel is due, and no other list changes
  pub advance_places : (d : Driving S F) (now : ℕ) → KeepsPlaces d.lists (advanced_to d now).lists
  advance_places d now =
      let alone = all_alone d.requests (advanced d.wheel now).wheel.ready d.lists in
      record { queued = ap (λ (l : Lists). l.queued) alone; gated = ap (λ (l : Lists). l.gated) alone; enrolments = ap (λ (l : Lists). l.enrolments) alone }

  -- what is swept out is of no operation
  pub swept_same : (ps : List Posted) (d : Driving S F) (user_data : ℕ) → is_operation user_data ≡ true → operations_in (swept_from ps d).ring user_data ≡ operations_in (record d.ring { posted = ps }) user_data
  swept_same [] d user_data is = refl
  swept_same (p ∷ ps) d user_data is =
      let cons = λ (q : Posted). sum_by-cons (λ (r : Posted). cond (is_posted_of user_data r) 1 0) q ps in
      grind (arith, swept_same ps (noted p.completion d) user_data is, control_apart p user_data is, cons p, cons (record p { wakes = 0 }))

still : {X : Type 0} (p : X → Bool) (xs : List X) (i : ℕ) → list_all p xs ≡ true → list_all p (remove xs i) ≡ true
still p [] zero all = all
still p [] (suc i) all = all
still p (x ∷ xs) zero all = grind arith
still p (x ∷ xs) (suc i) all = grind (arith, still p xs i)

so_of : {X : Type 0} (p : X → Bool) (xs : List X) (i : ℕ) (x : X) → slice_get xs i ≡ Some x → list_all p xs ≡ true → p x ≡ true
so_of p [] i x is all = absurd (cc)
so_of p (y ∷ ys) zero x is all = grind arith
so_of p (y ∷ ys) (suc i) x is all = grind (arith, so_of p ys i x is)

-- a larger window allows what a smaller one does
more_allows : (n : OpResult) (less most : ℕ) → is_lawful less n ≡ true → nat_le less most ≡ true → is_lawful most n ≡ true
more_allows = grind arith

said_back : (n : OpResult) (most : ℕ) → is_lawful most n ≡ true → result_in (number_of n) ≡ n
said_back = grind arith

posted_within : (s : RingState) (c : Completion) (user_data most : ℕ) → (eqb c.user_data user_data ≡ true → is_lawful most (result_in c.result) ≡ true) → is_within s user_data most ≡ true → is_within (with_completion s c) user_data most ≡ true
posted_within = grind (arith, list_all-append)

pub entry_within : (s : RingState) (e : Submission) (user_data most : ℕ) → (is_staged_of user_data e ≡ true → asks_within most e ≡ true) → is_within s user_data most ≡ true → is_within (with_entry s e.window e.user_data) user_data most ≡ true
entry_within = grind (arith, list_all-append)

woken_within : (s : RingState) → EndsLawfully s (woken s)
woken_within s user_data most is was = grind (arith, posted_within, no_control)

pub wake_within : (s : RingState) → EndsLawfully s (with_wake s)
wake_within s user_data most is was = grind (arith, woken_within)

taken_within : (kind : Opcode) (s : RingState) (e : Submission) (user_data most : ℕ) → is_operation user_data ≡ true → ((is_of user_data e && not (is_wake_poll kind)) ≡ true → asks_within most e ≡ true) → is_within s user_data most ≡ true → is_within (taken_as kind s e) user_data most ≡ true
taken_within kind s e user_data most is asks was = grind (arith, posted_within, woken_within, list_all-append)

all_within : (es : List Submission) (s : RingState) (user_data most : ℕ) → is_operation user_data ≡ true → list_all (λ e. not (is_staged_of user_data e) || asks_within most e) es ≡ true → is_within s user_data most ≡ true → is_within (fold taken_in s es) user_data most ≡ true
all_within [] s user_data most is asks was = was
all_within (e ∷ es) s user_data most is asks was = grind (arith, all_within es (taken_in s e) user_data most is, taken_within e.window.kind s e user_data most is)

all_taken_within : (s : RingState) → EndsLawfully s (all_taken s)
all_taken_within s user_data most is was = grind (arith, all_within s.staged (record s { staged = [] }) user_data most is)

pub landed_within : (s : RingState) (user_data : ℕ) (n : OpResult) → may_land s user_data n ≡ true → EndsLawfully s (landed s user_data n)
landed_within s user_data n may other most is was = by (flight_of s user_data) refl may
  where
    by : (o : Option Submission) → flight_of s user_data ≡ o → allows o n ≡ true → is_within (landed s user_data n) other most ≡ true
    by None at none = absurd (false≢true none)
    by (Some e) at some =
        let mine = last_passes (is_of user_data) s.flying e at in
        grind (arith, posted_within (without_flight s user_data) (completed user_data n) other most, still, so_of (λ x. not (is_of other x) || asks_within most x) s.flying _ e at, more_allows, said_back, eqb_tells)

all_landed_within : (ls : List Landing) (s : RingState) → MayAllLand ls s → EndsLawfully s (all_landed ls s)
all_landed_within [] s may user_data most is was = was
all_landed_within (l ∷ ls) s may user_data most is was = all_landed_within ls (landed s l.user_data l.result) may.1 user_data most is (landed_within s l.user_data l.result may.0 user_data most is was)

entered_within : (ls : List Landing) (s : RingState) → MayAllLand ls (all_taken s) → EndsLawfully s (entered_with ls s)
entered_within ls s may user_data most is was = grind (arith, all_landed_within ls (all_taken s) may user_data most is, all_taken_within s user_data most is was)

-- what is left of the completions, and what the first is
left_within : (ps : List Posted) (user_data most : ℕ) → list_all (λ p. not (is_posted_of user_data p) || ends_within most p) ps ≡ true → list_all (λ p. not (is_posted_of user_data p) || ends_within most p) (posted_left ps) ≡ true
left_within = grind arith

pub reaped_within : (s : RingState) → EndsLawfully s (reaped s)
reaped_within s user_data most is was = grind (arith, left_within)

pub next_within : (s : RingState) (c : Completion) (most : ℕ) → is_operation c.user_data ≡ true → next_completion s ≡ Some c → is_within s c.user_data most ≡ true → is_lawful most (result_in c.result) ≡ true
next_within = grind (arith, no_control, eqb_tells)

module _ {S F : Type 0} where
  pub cancel_within : (d : Driving S F) (id : WaiterId) → EndsLawfully d.ring (cancel_staged d id).ring
  cancel_within d id user_data most is was = entry_within d.ring (cancel_entry id) user_data most (grind (arith, no_control)) was

  pub poll_within : (d : Driving S F) → EndsLawfully d.ring (poll_staged d).ring
  poll_within d user_data most is was = entry_within d.ring wake_entry user_data most (grind (arith, no_control)) was

  pub enter_within : (d : Driving S F) → MayAllLand d.landings (all_taken d.ring) → EndsLawfully d.ring (entered d).ring
  enter_within d may = entered_within d.landings d.ring may

  -- what is swept out leaves the rest as it was
  pub swept_within : (ps : List Posted) (d : Driving S F) → EndsLawfully (record d.ring { posted = ps }) (swept_from ps d).ring
  swept_within [] d user_data most is was = was
  swept_within (p ∷ ps) d user_data most is was = grind (arith, swept_within ps (noted p.completion d) user_data most is)
