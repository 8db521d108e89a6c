-- The outputs that are left beside the slots of requests: what is told makes no more of both together.
use Rattle.std.proofs.{Common.{◌≡◌, ℕ, zero, suc, ◌+◌, ◌≤◌, ◌==◌, ◌&&◌, Bool, true, false, not, if◌then◌else◌, List, [], ◌∷◌, ◌++◌, length, set, Option, Some, None, refl, sym, ◌∙◌, arith, le_refl, le_trans}, lemmas.Bool.{true≢false, false≢true, eq-eqb, eqb-true, or_cases}}
use Rattle.exec_machine.specs.{declared.state.{MailMessage.MailMessage, Request.Request, Sleeper.Sleeper, Waiting.{Waiting, Waiting as waiting}}, Tests.{is_applied, is_resolved}, World.{Common, Task, request_of, sleeper_of}}
use Rattle.exec_moves.specs.{Mail.told_by_message, Slots.{Slots, entered, is_in_slots, is_some_slot, numbers_in, slot_of, vacated}, State.Desk, Told.{awaits_no_more, has_number, lets_go_all, lets_go_request, lets_go_requests, lets_go_sleep, told_if_ended, told_of_cancel, told_of_drop, told_of_fire, told_of_forward, turned_away, one_output, one_result, without_request, woken_where_awaited}}

-- SLOTS

abbrev pub used : List (Option ℕ) → ℕ
used held = length (numbers_in held)

-- a slot that has a number is freed
abbrev Frees : ℕ → ℕ → List (Option ℕ) → Type 0
Frees k at held = (j : ℕ) × (at ≡ k + j) × (used (set held j None) + 1 ≡ used held)

freed : (n k : ℕ) (held : List (Option ℕ)) (at : ℕ) → slot_of n k held ≡ Some at → Frees k at held
freed n k [] at h = let no : None ≡ Some at = h in absurd (cc)
freed n k (None ∷ later) at h = let it = freed n (suc k) later at h in (suc it.0, omega (arith, it.1), it.2)
freed n k (Some m ∷ later) at h = by (n == m) refl (freed n (suc k) later at)
  where
    by : (b : Bool) → (n == m) ≡ b → (slot_of n (suc k) later ≡ Some at → Frees (suc k) at later) → Frees k at (Some m ∷ later)
    by true is rest = let same : Some k ≡ Some at = sym (rw is refl) ∙ h in let here : at ≡ k = cc in (0, omega (arith, here), omega arith)
    by false is rest = let it = rest (sym (rw is refl) ∙ h) in (suc it.0, omega (arith, it.1), omega (arith, it.2))

vacates : (n : ℕ) (x : Slots) → is_in_slots n x ≡ true → used (vacated n x).held + 1 ≡ used x.held
vacates = grind (arith, false≢true, freed)

-- a number stands in a slot of its own
in_slot : (n k : ℕ) (held : List (Option ℕ)) → has_number n (numbers_in held) ≡ true → is_some_slot (slot_of n k held) ≡ true
in_slot n k [] h = absurd (false≢true h)
in_slot n k (None ∷ later) h = in_slot n (suc k) later h
in_slot n k (Some m ∷ later) h = grind (arith, or_cases, true≢false, eq-eqb, eqb-true, in_slot n (suc k) later)

pub vacates_no_more : (n : ℕ) (x : Slots) → used (vacated n x).held ≤ used x.held
vacates_no_more = grind (arith, vacates)

-- one that comes takes one slot more
takes_last : (n : ℕ) (held : List (Option ℕ)) → used (held ++ Some n ∷ []) ≡ used held + 1
takes_last n [] = refl
takes_last n (None ∷ later) = takes_last n later
takes_last n (Some m ∷ later) = omega (arith, takes_last n later)

takes : (n k : ℕ) (held : List (Option ℕ)) → used (set held k (Some n)) ≤ used held + 1
takes n k [] = omega arith
takes n zero (None ∷ later) = omega arith
takes n zero (Some m ∷ later) = omega arith
takes n (suc k) (None ∷ later) = takes n k later
takes n (suc k) (Some m ∷ later) = omega (arith, takes n k later)

pub enters : (n : ℕ) (x : Slots) → used (entered n x).held ≤ used x.held + 1
enters = grind (arith, takes_last, takes)

-- WHAT IS TOLD

abbrev pub fill : Desk → ℕ
fill d = d.outputs + used d.requests.held

abbrev pub NoMore : Desk → Desk → Type 0
NoMore d e = fill e ≤ fill d

pub kept_if : {n : ℕ} (b : Bool) (d e : Desk) → fill d ≤ n → fill e ≤ n → fill (if b then d else e) ≤ n
kept_if true d e one other = one
kept_if false d e one other = other

kept_unless : {n : ℕ} (held there : Bool) (d e : Desk) → fill d ≤ n → (there ≡ true → fill e ≤ n) → fill (if not (held && there) then d else e) ≤ n
kept_unless = grind arith

module _ (r : ℕ) (it : Request) (d : Desk) where
  without : d.outputs + used (vacated r d.requests).held ≤ fill d
  without = omega (arith, vacates_no_more r d.requests)

  -- an output more, and a slot less
  instead : is_in_slots r d.requests ≡ true → d.outputs + 1 + used (vacated r d.requests).held ≤ fill d
  instead there = omega (arith, vacates r d.requests there)

  pub woken : NoMore d (woken_where_awaited r it d)
  woken = kept_if (has_number r d.awaited) _ _ (le_refl _) (le_refl _)

  turned : NoMore d (turned_away r it d)
  turned = kept_if (is_applied it.forwarding) _ _ (le_refl _) (le_refl _)

  -- one that ends stands in a slot
  pub ended : {X : Type 0} (how : Option X) → ((o : X) → how ≡ Some o → has_number r (numbers_in d.requests.held) ≡ true) → NoMore d (told_if_ended how r it d)
  ended = grind (arith, kept_if, instead, in_slot, without, woken)

  -- the output of one that is over by the drop
  over : (applied : Bool) → is_in_slots r d.requests ≡ true → NoMore d (one_output (without_request r (if applied then one_result r d else awaits_no_more r d)))
  over true there = instead there
  over false there = instead there

  pub dropped : NoMore d (told_of_drop r it d)
  dropped = grind (arith, kept_unless, kept_if, instead, over, turned)

  forwarded : NoMore d (told_of_forward r it d)
  forwarded = kept_if (not (is_in_slots r d.requests)) _ _ (le_refl _) (kept_if (is_resolved it.phase) _ _ without (kept_if it.observed _ _ (le_refl _) (le_refl _)))

pub fired : (z : ℕ) (it : Sleeper) (d : Desk) → NoMore d (told_of_fire z it d)
fired z it d = kept_if (is_applied it.forwarding) _ _ (le_refl _) (le_refl _)

cancelled : (z : ℕ) (it : Sleeper) (d : Desk) → NoMore d (told_of_cancel z it d)
cancelled z it d = kept_if (not (is_in_slots z d.timers)) _ _ (le_refl _) (kept_if (is_applied it.forwarding) _ _ (le_refl _) (le_refl _))

requests_let_go : (i : ℕ) (s : Common) (rs : List ℕ) (d : Desk) → NoMore d (lets_go_requests i s rs d)
requests_let_go i s [] d = le_refl _
requests_let_go i s (r ∷ rs) d =
    let it = request_of s r in
    le_trans (requests_let_go i s rs (lets_go_request i r it d)) (kept_if (it.worker == i) _ _ (dropped r it d) (le_refl _))

sleep_let_go : (i : ℕ) (s : Common) (w : Waiting) (d : Desk) → NoMore d (lets_go_sleep i s w d)
sleep_let_go i s (waiting.Timer z) d = kept_if ((sleeper_of s z).worker == i) _ _ (cancelled z (sleeper_of s z) d) (le_refl _)
sleep_let_go i s _ d = le_refl _

pub all_let_go : (i : ℕ) (s : Common) (it : Task) (d : Desk) → NoMore d (lets_go_all i s it d)
all_let_go i s it d = le_trans (sleep_let_go i s it.waiting (lets_go_requests i s it.held d)) (requests_let_go i s it.held d)

pub told_by : (s : Common) (root : ℕ) (m : MailMessage) (d : Desk) → NoMore d (told_by_message s root m d)
told_by = grind (arith, forwarded, kept_if, dropped, cancelled)
