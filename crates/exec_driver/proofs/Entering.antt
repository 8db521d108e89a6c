-- How many entries a ring has once it was entered, or a completion was taken out, and what an enter leaves of its
-- submission queue.
use Rattle.std.{proofs.{Common.{◌≡◌, ℕ, ◌+◌, ◌≤◌, true, false, List, [], ◌∷◌, ◌++◌, length, Some, refl, sym, ◌∙◌, arith, length-append}, lemmas.{List.Edits.length-remove, Option.slice_get_within}}, specs.Prelude.fold}
use Rattle.exec_driver.proofs.Words.{cond_both, false≢true, OpResult, wake_completion, Landing, landed, may_land, reaped, next_completion, flight_of, RingState, taken_places, Completion, Submission, is_control}
use Rattle.exec_request.specs.declared.window.Opcode.{Opcode}
use Rattle.exec_ring.specs.{Kernels.{woken, with_poll, taken_as, taken_in, all_taken, all_landed, MayAllLand, entered_with, answer_of_enter}, declared.ring.Entered.TheVariants.{Taken, Busy}}

-- a ring has at most so many entries more, and is the same ring
pub record Within (s s' : RingState) (more : ℕ) : Type 0 where
  pub taken : taken_places s' ≤ taken_places s + more
  pub places : s'.places ≡ s.places
  pub size : s'.size ≡ s.size

after_both : (s t u : RingState) (m n : ℕ) → Within s t m → Within t u n → Within s u (m + n)
after_both s t u m n first second = record { taken = omega (arith, first.taken, second.taken); places = second.places ∙ first.places; size = second.size ∙ first.size }

woken_within : (s : RingState) → s.armed ≡ true → Within s (woken s) 0
woken_within = grind (arith, cond_both, length-append, wake_completion)

poll_within : (s : RingState) → Within s (with_poll s) 1
poll_within s =
    cond_both s.raised _ _ (λ (t : RingState). Within s t 1)
    (λ raised. let w = woken_within (record s { armed = true; raised = false }) refl in record { taken = omega (arith, w.taken); places = w.places; size = w.size })
    (λ quiet. record { taken = omega arith; places = refl; size = refl })

flies : (s : RingState) (e : Submission) → Within s (record s { flying = s.flying ++ e ∷ [] }) 1
flies s e = record { taken = omega (arith, length-append s.flying (e ∷ [])); places = refl; size = refl }

by_kind : (k : Opcode) (s : RingState) (e : Submission) → Within s (taken_as k s e) 1
by_kind = grind (arith, flies, length-append, poll_within)

fold_within : (es : List Submission) (s : RingState) → Within s (fold taken_in s es) (length es)
fold_within [] s = record { taken = omega arith; places = refl; size = refl }
fold_within (e ∷ es) s = grind (arith, by_kind, fold_within es (taken_in s e))

all_within : (s : RingState) → Within s (all_taken s) 0
all_within s =
    let w = fold_within s.staged (record s { staged = [] }) in
    record { taken = omega (arith, w.taken); places = w.places; size = w.size }

pub landed_within : (s : RingState) (user_data : ℕ) (n : OpResult) → may_land s user_data n ≡ true → Within s (landed s user_data n) 0
landed_within = grind (arith, flight_of, slice_get_within, length-remove, length-append, false≢true)

lands_within : (ls : List Landing) (s : RingState) → MayAllLand ls s → Within s (all_landed ls s) 0
lands_within [] s may = record { taken = omega arith; places = refl; size = refl }
lands_within (l ∷ ls) s may = after_both s _ _ 0 0 (landed_within s l.user_data l.result may.0) (lands_within ls (landed s l.user_data l.result) may.1)

pub enter_within : (ls : List Landing) (s : RingState) → MayAllLand ls (all_taken s) → Within s (entered_with ls s) 0
enter_within = grind (arith, cond_both, after_both, all_within, lands_within)

-- one completion fewer, unless it was a wake that leaves the wake poll where it is
pub less_reaped : (s : RingState) (c : Completion) → next_completion s ≡ Some c → (c ≡ wake_completion true → ⊥) → taken_places (reaped s) + 1 ≡ taken_places s
less_reaped = grind arith

pub no_wake : (c : Completion) → is_control c ≡ false → c ≡ wake_completion true → ⊥
no_wake c operation same = false≢true (sym operation ∙ rw same refl)

-- the kernel is as busy as it was, and its queue is as it was
record IsFixed (s s' : RingState) : Type 0 where
  pub busy : s'.busy ≡ s.busy
  pub staged : s'.staged ≡ s.staged
  pub size : s'.size ≡ s.size

fixed : (s : RingState) → IsFixed s s
fixed s = record { busy = refl; staged = refl; size = refl }

fixed_both : (s t u : RingState) → IsFixed s t → IsFixed t u → IsFixed s u
fixed_both s t u one other = record { busy = other.busy ∙ one.busy; staged = other.staged ∙ one.staged; size = other.size ∙ one.size }

fixed_as : (k : Opcode) (s : RingState) (e : Submission) → IsFixed s (taken_as k s e)
fixed_as = grind arith

fixed_fold : (es : List Submission) (s : RingState) → IsFixed s (fold taken_in s es)
fixed_fold [] s = fixed s
fixed_fold (e ∷ es) s = fixed_both s _ _ (fixed_as e.window.kind s e) (fixed_fold es (taken_in s e))

fixed_landed : (ls : List Landing) (s : RingState) → IsFixed s (all_landed ls s)
fixed_landed [] s = fixed s
fixed_landed (l ∷ ls) s = grind (arith, fixed_landed ls (landed s l.user_data l.result))

-- An enter takes all entries, or none where the kernel was busy; it isn't busy after.
pub record IsEntered (s s' : RingState) : Type 0 where
  pub size : s'.size ≡ s.size
  pub free : s'.busy ≡ false
  pub taken : s.busy ≡ false → s'.staged ≡ []
  pub left : s.busy ≡ true → s'.staged ≡ s.staged

pub enters : (ls : List Landing) (s : RingState) → IsEntered s (entered_with ls s)
enters = grind (arith, fixed_both, fixed_fold, fixed_landed, cond_both, false≢true)

-- what an enter answers
pub taken_answer : (s : RingState) (n : ℕ) → answer_of_enter s ≡ Taken n → s.busy ≡ false
taken_answer = grind arith

pub busy_answer : (s : RingState) → answer_of_enter s ≡ Busy → s.busy ≡ true
busy_answer = grind arith
