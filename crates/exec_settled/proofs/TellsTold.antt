-- What each telling leaves of the lists of what is to be told: what stands in them stays, but for the awaited one that is told of.
use Rattle.std.proofs.{Common.{◌≡◌, ℕ, zero, suc, ◌==◌, ◌||◌, ◌&&◌, Bool, true, false, not, List, [], ◌∷◌, ◌++◌, filter, set, get_or, Some, refl, sym, ap, ◌∙◌, subst, inl, inr, if◌then◌else◌, arith}, lemmas.Bool.{true≢false, false≢true, or_cases, or_left, or_right, eq-eqb, eqb-true}}
use Rattle.exec_machine.specs.{declared.state.{MailMessage.TheVariants.{CancelRequest, CancelTimer}, Request.Request, Sleeper.Sleeper, Waiting.Waiting}, Requests.{dropped, ends_by_drop}, Tasks.requests_after_drops, Tests.{is_applied, is_resolved}, World.{Common, Task, no_request, request_of, sleeper_of}}
use Rattle.exec_moves.specs.{Slots.{is_in_slots, numbers_in}, State.Desk, Told.{awaits, awaits_no_more, has_number, lets_go_all, lets_go_request, lets_go_requests, lets_go_sleep, one_output, one_result, owes, told_of_cancel, told_of_drop, told_of_end, told_of_fire, told_of_forward, told_of_timer_forward, waker_of, without_request, woken_where_awaited}}
use Rattle.exec_settled.proofs.TellsEvents.{drops, dropped_observed, one_dropped}

-- LISTS

pub has_front : (k : ℕ) (list more : List ℕ) → has_number k list ≡ true → has_number k (list ++ more) ≡ true
has_front k [] more h = absurd (false≢true h)
has_front k (q ∷ list) more h = elim (or_cases (q == k) (has_number k list) h) [
  | inl this ↦ or_left (q == k) (has_number k (list ++ more)) this
  | inr rest ↦ or_right (q == k) (has_number k (list ++ more)) (has_front k list more rest)
]

pub has_last : (k : ℕ) (list : List ℕ) → has_number k (list ++ k ∷ []) ≡ true
has_last k [] = or_left (k == k) false (eq-eqb k k refl)
has_last k (q ∷ list) = or_right (q == k) (has_number k (list ++ k ∷ [])) (has_last k list)

pub has_passing : (test : ℕ → Bool) (k : ℕ) (list : List ℕ) → test k ≡ true → has_number k list ≡ true → has_number k (filter test list) ≡ true
has_passing test k [] passes h = absurd (false≢true h)
has_passing test k (q ∷ list) passes h = grind (arith, or_cases, or_left, or_right, true≢false, eqb-true, has_passing test k list passes)

has_left : (k r : ℕ) (list : List ℕ) → (k == r) ≡ false → has_number k list ≡ true → has_number k (filter (λ q. not (q == r)) list) ≡ true
has_left k r list other h = has_passing (λ q. not (q == r)) k list (ap not other) h

-- WHAT STAYS

-- who is to be woken, and what is to be sent
pub record Adds (d e : Desk) : Type 0 where
  pub wakes : (t : ℕ) → has_number t d.wakes ≡ true → has_number t e.wakes ≡ true
  pub results : (k : ℕ) → has_number k d.results ≡ true → has_number k e.results ≡ true
  pub completions : (z : ℕ) → has_number z d.completions ≡ true → has_number z e.completions ≡ true

-- the same, and what is awaited but for r
pub record Told (r : ℕ) (d e : Desk) : Type 0 where
  pub adds : Adds d e
  pub awaited : (k : ℕ) → (k == r) ≡ false → has_number k d.awaited ≡ true → has_number k e.awaited ≡ true

-- by computation
pub adds : (d e : Desk) → e.wakes ≡ d.wakes → e.results ≡ d.results → e.completions ≡ d.completions → Adds d e
adds = grind arith

pub adds_then : (d e f : Desk) → Adds d e → Adds e f → Adds d f
adds_then = grind arith

more_results : (d : Desk) (r : ℕ) (e : Desk) → e.wakes ≡ d.wakes → e.results ≡ d.results ++ r ∷ [] → e.completions ≡ d.completions → Adds d e
more_results = grind (arith, has_front)

more_wakes : (d : Desk) (ts : List ℕ) (e : Desk) → e.wakes ≡ d.wakes ++ ts → e.results ≡ d.results → e.completions ≡ d.completions → Adds d e
more_wakes = grind (arith, has_front)

more_completions : (d : Desk) (z : ℕ) (e : Desk) → e.wakes ≡ d.wakes → e.results ≡ d.results → e.completions ≡ d.completions ++ z ∷ [] → Adds d e
more_completions = grind (arith, has_front)

-- OF A REQUEST

module _ (r : ℕ) (it : Request) (d : Desk) where
  stays_told : (e : Desk) → Adds d e → e.awaited ≡ d.awaited → Told r d e
  stays_told e more same = record { adds = more; awaited = λ k other h. subst (λ l. has_number k l ≡ true) (sym same) h }

  leaves_told : (e : Desk) → Adds d e → e.awaited ≡ filter (λ q. not (q == r)) d.awaited → Told r d e
  leaves_told e more less = record { adds = more; awaited = λ k other h. subst (λ l. has_number k l ≡ true) (sym less) (has_left k r d.awaited other h) }

  pub no_told : Told r d d
  no_told = stays_told d (adds d d refl refl refl) refl

  pub end_told : Told r d (told_of_end r it d)
  end_told = by it.observed (is_applied it.forwarding) (has_number r d.awaited)
    where
      by : (held applied here : Bool) → Told r d (if not held then one_output (without_request r d) else if applied then one_result r (without_request r d)
          else awaits_no_more r (if here then record d { wakes = d.wakes ++ waker_of it.waiter } else d))
      by false applied here = stays_told _ (adds d _ refl refl refl) refl
      by true true here = stays_told _ (more_results d r _ refl refl refl) refl
      by true false true = leaves_told _ (more_wakes d (waker_of it.waiter) _ refl refl refl) refl
      by true false false = leaves_told _ (adds d _ refl refl refl) refl

  pub sent_at_end : it.observed ≡ true → is_applied it.forwarding ≡ true → has_number r (told_of_end r it d).results ≡ true
  sent_at_end = grind (arith, has_last, false≢true)

  pub woken_at_end : (t : ℕ) → it.observed ≡ true → is_applied it.forwarding ≡ false → has_number r d.awaited ≡ true → it.waiter ≡ Some t → has_number t (told_of_end r it d).wakes ≡ true
  woken_at_end = grind (arith, has_last, false≢true, true≢false)

  pub drop_told : Told r d (told_of_drop r it d)
  drop_told = by (not (it.observed && is_in_slots r d.requests)) (is_resolved it.phase) (ends_by_drop it) (is_applied it.forwarding)
    where
      by : (gone over ends applied : Bool) → Told r d (if gone then d else if over then one_output (without_request r d)
          else if ends then one_output (without_request r (if applied then one_result r d else awaits_no_more r d)) else if applied then one_result r d else awaits_no_more r d)
      by true over ends applied = no_told
      by false true ends applied = stays_told _ (adds d _ refl refl refl) refl
      by false false true true = stays_told _ (more_results d r _ refl refl refl) refl
      by false false true false = leaves_told _ (adds d _ refl refl refl) refl
      by false false false true = stays_told _ (more_results d r _ refl refl refl) refl
      by false false false false = leaves_told _ (adds d _ refl refl refl) refl

  pub woken_told : Told r d (woken_where_awaited r it d)
  woken_told = grind (arith, stays_told, more_wakes, no_told)

  pub forward_told : Told r d (told_of_forward r it d)
  forward_told = by (not (is_in_slots r d.requests)) (is_resolved it.phase) it.observed
    where
      by : (gone over held : Bool) → Told r d (if gone then one_result r d else if over then one_result r (without_request r d) else if held then awaits_no_more r d else one_result r d)
      by true over held = stays_told _ (more_results d r _ refl refl refl) refl
      by false true held = stays_told _ (more_results d r _ refl refl refl) refl
      by false false true = leaves_told _ (adds d _ refl refl refl) refl
      by false false false = stays_told _ (more_results d r _ refl refl refl) refl

  pub sent_at_forward : is_resolved it.phase ≡ true → has_number r (told_of_forward r it d).results ≡ true
  sent_at_forward = grind (arith, has_last, false≢true)

pub told_then : (r : ℕ) (d e f : Desk) → Told r d e → Told r e f → Told r d f
told_then r d e f a b = record { adds = adds_then d e f a.adds b.adds; awaited = λ k other h. b.awaited k other (a.awaited k other h) }

-- it is awaited from now on, and so is what was
pub awaits_more : (r k : ℕ) (d : Desk) → has_number k d.awaited ≡ true → has_number k (numbers_in d.requests.held) ≡ true → has_number k (awaits r d).awaited ≡ true
awaits_more r k d there held = has_passing (λ q. (q == r) || has_number q d.awaited) k (numbers_in d.requests.held) (or_right (k == r) (has_number k d.awaited) there) held

pub awaits_it : (r : ℕ) (d : Desk) → has_number r (numbers_in d.requests.held) ≡ true → has_number r (awaits r d).awaited ≡ true
awaits_it r d held = has_passing (λ q. (q == r) || has_number q d.awaited) r (numbers_in d.requests.held) (or_left (r == r) (has_number r d.awaited) (eq-eqb r r refl)) held

-- OF A SLEEPER

module _ (z : ℕ) (it : Sleeper) (d : Desk) where
  -- what is awaited stays
  pub record Tolds (e : Desk) : Type 0 where
    pub adds : Adds d e
    pub awaited : e.awaited ≡ d.awaited

  told : (e : Desk) → Adds d e → e.awaited ≡ d.awaited → Tolds e
  told e more same = record { adds = more; awaited = same }

  pub fire_told : Tolds (told_of_fire z it d)
  fire_told = grind (arith, told, more_completions, more_wakes)

  pub sent_at_fire : is_applied it.forwarding ≡ true → has_number z (told_of_fire z it d).completions ≡ true
  sent_at_fire = grind (arith, has_last, false≢true)

  pub woken_at_fire : is_applied it.forwarding ≡ false → has_number it.task (told_of_fire z it d).wakes ≡ true
  woken_at_fire = grind (arith, true≢false, has_last)

  pub cancel_told : Tolds (told_of_cancel z it d)
  cancel_told = grind (arith, told, adds, more_completions)

  pub timer_forward_told : Tolds (told_of_timer_forward z d)
  timer_forward_told = grind (arith, told, adds, more_completions)

  pub sent_at_timer_forward : is_in_slots z d.timers ≡ false → has_number z (told_of_timer_forward z d).completions ≡ true
  sent_at_timer_forward = grind (arith, true≢false, has_last)

-- WHAT A TASK HELD THAT IS OVER

gone_at : (xs : List Request) (r : ℕ) (y : Request) → y.observed ≡ false → (get_or (set xs r y) r no_request).observed ≡ false
gone_at [] r y h = refl
gone_at (x ∷ xs) zero y h = h
gone_at (x ∷ xs) (suc r) y h = gone_at xs r y h

module _ (i : ℕ) (s : Common) where
  one_lets_go : (r : ℕ) (d : Desk) (own : Bool) → Adds d (if own then told_of_drop r (request_of s r) d else owes (request_of s r).worker (CancelRequest r) d)
  one_lets_go = grind (arith, drop_told, adds)

  go_adds : (held : List ℕ) (d : Desk) → Adds d (lets_go_requests i s held d)
  go_adds [] d = adds d d refl refl refl
  go_adds (r ∷ held) d = adds_then d (lets_go_request i r (request_of s r) d) _ (one_lets_go r d ((request_of s r).worker == i)) (go_adds held (lets_go_request i r (request_of s r) d))

  -- what nobody dropped is awaited still
  go_awaited : (held : List ℕ) (d : Desk) (xs : List Request) → ((k : ℕ) → (get_or xs k no_request).worker ≡ (request_of s k).worker)
      → (k : ℕ) → has_number k d.awaited ≡ true → (get_or (requests_after_drops i held xs) k no_request).observed ≡ true → has_number k (lets_go_requests i s held d).awaited ≡ true
  go_awaited [] d xs same k there held = there
  go_awaited (r ∷ held) d xs same k there observed =
      go_awaited held (lets_go_request i r (request_of s r) d) (dropped_if ((get_or xs r no_request).worker == i)) (λ j. (one_dropped i r xs j).worker ∙ same j) k
      (by ((request_of s r).worker == i) (ap (λ w. w == i) (same r)) (k == r) refl) observed
    where
      dropped_if : Bool → List Request
      dropped_if own = if own then set xs r (dropped (get_or xs r no_request)) else xs

      -- it was dropped by this, and so nobody holds it then
      gone : ((get_or xs r no_request).worker == i) ≡ true → k ≡ r → ⊥
      gone = grind (arith, gone_at, dropped_observed, drops, true≢false)

      by : (own : Bool) → ((get_or xs r no_request).worker == i) ≡ own → (this : Bool) → (k == r) ≡ this
          → has_number k (if own then told_of_drop r (request_of s r) d else owes (request_of s r).worker (CancelRequest r) d).awaited ≡ true
      by false was this is = there
      by true was false is = (drop_told r (request_of s r) d).awaited k is there
      by true was true is = absurd (gone was (eqb-true k r is))

  timer_goes : (z : ℕ) (d : Desk) (own : Bool) → Tolds z (sleeper_of s z) d (if own then told_of_cancel z (sleeper_of s z) d else owes (sleeper_of s z).worker (CancelTimer z) d)
  timer_goes = grind (arith, cancel_told, adds)

  sleep_adds : (w : Waiting) (d : Desk) → Adds d (lets_go_sleep i s w d)
  sleep_adds = grind (arith, timer_goes, adds)

  sleep_awaited : (w : Waiting) (d : Desk) → (lets_go_sleep i s w d).awaited ≡ d.awaited
  sleep_awaited = grind arith

  pub all_adds : (it : Task) (d : Desk) → Adds d (lets_go_all i s it d)
  all_adds it d = adds_then d (lets_go_requests i s it.held d) _ (go_adds it.held d) (sleep_adds it.waiting (lets_go_requests i s it.held d))

  pub all_awaited : (it : Task) (d : Desk) (k : ℕ) → has_number k d.awaited ≡ true → (get_or (requests_after_drops i it.held s.requests) k no_request).observed ≡ true
      → has_number k (lets_go_all i s it d).awaited ≡ true
  all_awaited = grind (arith, sleep_awaited, go_awaited)
