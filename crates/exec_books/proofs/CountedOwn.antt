-- What an event of a worker leaves of what each worker counts and hasn't told the kernel.
use Rattle.std.{proofs.{Common.{◌≡◌, ◌≢◌, ℕ, zero, suc, ◌<◌, ◌==◌, ◌+◌, Bool, true, false, List, [], ◌∷◌, ◌++◌, length, Option, refl, sym, ◌∙◌, inl, inr, arith, get_or, if◌then◌else◌}, lemmas.{Bool.{true≢false, false≢true, eqb-true, or_cases, or_left, or_right}, List.{get_or_append_left, get_or-set_other, get_or-set_same, length-set}}}, specs.Prelude.◌⊎◌}
use Rattle.exec_outcomes.specs.declared.outcome.Outcome.{Outcome}
use Rattle.exec_machine.specs.{declared.{config.Configuration.Configuration, event.Event.{Event, Event as event}, state.{MailMessage.MailMessage, Operation.Operation, Waiting.Waiting}}, After.{after, made_by, own_after, own_by}, Choice.Choice, Closing.{ends_by_clear, own_after_clear, own_after_turn}, Deadlines.sampled_now, Mail.{own_after_apply, own_after_letter}, Requests.own_after_admit, Same.is_none, Tasks.{own_after_drops, own_after_over, own_after_pend, own_after_waking_up}, World.{Common, Own as Books, World, no_own, own_of, task_of}}
use Rattle.exec_books.{specs.Listed.is_in, proofs.CountedTurns.moves_flight}

abbrev pub counts : Event → Bool
counts (event.Admit r kind outcome) = true
counts (event.Release r) = true
counts _ = false

abbrev pub informs : Event → Bool
informs event.Enter = true
informs (event.Cancel r) = true
informs _ = false

-- ONE OWN PART

pub record Kept (x y : Books) : Type 0 where
  pub unreleased : y.unreleased ≡ x.unreleased
  pub in_flight : y.in_flight ≡ x.in_flight
  pub untold : y.untold ≡ x.untold

kept : {x : Books} → Kept x x
kept = record { unreleased = refl; in_flight = refl; untold = refl }

keep : {x y : Books} → y.unreleased ≡ x.unreleased → y.in_flight ≡ x.in_flight → y.untold ≡ x.untold → Kept x y
keep unreleased in_flight untold = record { unreleased = unreleased; in_flight = in_flight; untold = untold }

kept_then : {x y z : Books} → Kept x y → Kept y z → Kept x z
kept_then a b = keep (b.unreleased ∙ a.unreleased) (b.in_flight ∙ a.in_flight) (b.untold ∙ a.untold)

either : {x : Books} (b : Bool) (y z : Books) → Kept x y → Kept x z → Kept x (if b then y else z)
either = grind arith

module _ (s : Common) (i : ℕ) where
  drops : (held : List ℕ) (me : Books) → Kept me (own_after_drops s i held me)
  drops [] me = kept
  drops (r ∷ held) me = grind (arith, kept_then, keep, drops held)

  wakes_up : (what : Waiting) (me : Books) → Kept me (own_after_waking_up s i what me)
  wakes_up = grind arith

  over : (me : Books) (t : ℕ) → Kept me (own_after_over me s i t)
  over me t = kept_then (drops (task_of s t).held me) (wakes_up (task_of s t).waiting (own_after_drops s i (task_of s t).held me))

  pends : (me : Books) (t : ℕ) → Kept me (own_after_pend me s i t)
  pends me t = kept_then (either (task_of s t).cleared (own_after_over me s i t) me (over me t) kept) (keep refl refl refl)

  clears : (me : Books) (t : ℕ) → Kept me (own_after_clear me s i t)
  clears me t = either (ends_by_clear (task_of s t).phase) (own_after_over me s i t) me (over me t) kept

applies : (me : Books) (s : Common) (m : MailMessage) → Kept me (own_after_apply me s m)
applies = grind arith

turns : (me : Books) (choice : Choice) → Kept me (own_after_turn me choice)
turns = grind arith

letter : (me : Books) → Kept me (own_after_letter me)
letter me = either (is_none me.polls) (record me { owed = _ }) me (keep refl refl refl) kept

samples : (s : Common) (me : Books) → Kept me (sampled_now s me)
samples s me = either me.serving me (record me { sampled = s.clock; sampled_before = me.sampled }) kept (keep refl refl refl)

-- a request that is made is counted
pub admit_counts : (o : Operation) (outcome : Option Outcome) (r : ℕ) (me : Books) → ((own_after_admit o outcome r me).unreleased ≡ me.unreleased + 1) × ((own_after_admit o outcome r me).in_flight ≡ me.in_flight) × ((own_after_admit o outcome r me).untold ≡ me.untold)
admit_counts = grind arith

-- AN EVENT

module _ (c : Configuration) (me : Books) (s : Common) (i : ℕ) where
  kept_by : (e : Event) (choice : Choice) → counts e ≡ false → moves_flight e ≡ false → informs e ≡ false → Kept me (own_by c me s i e choice)
  kept_by = grind (arith, turns, samples, pends, kept_then, over, keep, clears, true≢false, letter, applies)

  pub unreleased_kept : (e : Event) (choice : Choice) → counts e ≡ false → (own_after c me s i e choice).unreleased ≡ me.unreleased
  unreleased_kept = grind (arith, true≢false, kept_by)

  pub in_flight_kept : (e : Event) (choice : Choice) → moves_flight e ≡ false → (own_after c me s i e choice).in_flight ≡ me.in_flight
  in_flight_kept = grind (arith, true≢false, admit_counts, kept_by)

  pub untold_kept : (e : Event) (choice : Choice) → informs e ≡ false → (own_after c me s i e choice).untold ≡ me.untold
  untold_kept = grind (arith, true≢false, admit_counts, kept_by)

-- which of a list with one more at its end it is
pub in_more : (k r : ℕ) (list : List ℕ) → is_in k (list ++ r ∷ []) ≡ true → (is_in k list ≡ true) ⊎ (k ≡ r)
in_more k r [] h = elim (or_cases (r == k) false h) [ inl this ↦ inr (sym (eqb-true r k this)) | inr none ↦ absurd (false≢true none) ]
in_more k r (q ∷ list) h = elim (or_cases (q == k) (is_in k (list ++ r ∷ [])) h) [
  | inl this ↦ inl (or_left (q == k) (is_in k list) this)
  | inr later ↦ elim (in_more k r list later) [ inl rest ↦ inl (or_right (q == k) (is_in k list) rest) | inr is ↦ inr is ]
]

-- EACH WORKER

made_kept : (s : Common) (e : Event) (n : ℕ) → Kept no_own (get_or (made_by s e) n no_own)
made_kept = grind arith

more_kept : (xs more : List Books) → ((n : ℕ) → Kept no_own (get_or more n no_own)) → (j : ℕ) → Kept (get_or xs j no_own) (get_or (xs ++ more) j no_own)
more_kept [] more each j = each j
more_kept (x ∷ xs) more each zero = kept
more_kept (x ∷ xs) more each (suc j) = more_kept xs more each j

module _ (c : Configuration) (w : World) (i : ℕ) (e : Event) (choice : Choice) where
  abbrev mine : Books
  mine = own_after c (own_of w i) w.common i e choice

  pub other_own : (j : ℕ) → j ≢ i → Kept (own_of w j) (own_of (after c w i e choice) j)
  other_own = grind (arith, get_or-set_other, more_kept, made_kept)

  pub own_own : i < length w.workers → own_of (after c w i e choice) i ≡ mine
  own_own = grind (arith, get_or_append_left, length-set, get_or-set_same)
