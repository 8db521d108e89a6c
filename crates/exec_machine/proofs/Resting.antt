-- That no worker sleeps on work can be computed.
use Rattle.std.{proofs.{Common.{◌≡◌, ℕ, zero, suc, ◌+◌, Bool, true, false, not, ◌&&◌, ◌||◌, List, [], ◌∷◌, refl, sym, subst, arith, get_or}, lemmas.Bool.{true≢false, and_parts, not-true, not_from_false}}, specs.List.list_all}
use Rattle.exec_machine.{specs.{declared.{config.Configuration.Configuration, event.Line.Line, state.MailMessage.MailMessage}, Choice.Choice, World.{World, no_own, no_seat, no_task, no_request, no_sleeper}, Tests.{all_numbered, is_empty}, Run.after_line, Progress.{all_asleep, is_task_unfinished, is_request_unfinished, is_sleeper_unfinished, is_cancel_untold, has_to_close, sleeps_for_nothing, NothingUnfinished, IsRightlyAsleep, is_nothing_unfinished, is_rightly_asleep, RightlyAsleepBy, is_always_rightly_asleep}}, proofs.Computing.both_true}

-- LISTS

module _ {X : Type 0} where
  all_at : (test : X → Bool) (d : X) (xs : List X) → test d ≡ true → list_all test xs ≡ true → (n : ℕ) → test (get_or xs n d) ≡ true
  all_at test d [] last h n = last
  all_at test d (x ∷ xs) last h zero = (and_parts (test x) (list_all test xs) h).0
  all_at test d (x ∷ xs) last h (suc n) = all_at test d xs last (and_parts (test x) (list_all test xs) h).1 n

  at_all : (test : X → Bool) (d : X) (xs : List X) → ((n : ℕ) → test (get_or xs n d) ≡ true) → list_all test xs ≡ true
  at_all test d [] h = refl
  at_all test d (x ∷ xs) h = both_true (h zero) (at_all test d xs (λ n. h (suc n)))

  numbered_at : (test : ℕ → X → Bool) (d : X) (xs : List X) → ((n : ℕ) → test n d ≡ true) → (k : ℕ) → all_numbered test k xs ≡ true → (n : ℕ) → test (k + n) (get_or xs n d) ≡ true
  numbered_at test d [] last k h n = last (k + n)
  numbered_at test d (x ∷ xs) last k h zero =
      let at : k ≡ k + 0 = omega arith in subst (λ m. test m x ≡ true) at (and_parts (test k x) (all_numbered test (suc k) xs) h).0
  numbered_at test d (x ∷ xs) last k h (suc n) =
      let at : suc k + n ≡ k + suc n = omega arith in
      subst (λ m. test m (get_or xs n d) ≡ true) at (numbered_at test d xs last (suc k) (and_parts (test k x) (all_numbered test (suc k) xs) h).1 n)

  at_numbered : (test : ℕ → X → Bool) (d : X) (xs : List X) (k : ℕ) → ((n : ℕ) → test (k + n) (get_or xs n d) ≡ true) → all_numbered test k xs ≡ true
  at_numbered test d [] k h = refl
  at_numbered test d (x ∷ xs) k h =
      let here : k + 0 ≡ k = omega arith in
      both_true (subst (λ m. test m x ≡ true) here (h zero))
      (at_numbered test d xs (suc k) (λ n. let at : k + suc n ≡ suc k + n = omega arith in subst (λ m. test m (get_or xs n d) ≡ true) at (h (suc n))))

  from_zero : (test : ℕ → X → Bool) (d : X) (xs : List X) → ((n : ℕ) → test n d ≡ true) → all_numbered test 0 xs ≡ true → (n : ℕ) → test n (get_or xs n d) ≡ true
  from_zero test d xs last h n = let at : 0 + n ≡ n = omega arith in subst (λ m. test m (get_or xs n d) ≡ true) at (numbered_at test d xs last 0 h n)

  to_zero : (test : ℕ → X → Bool) (d : X) (xs : List X) → ((n : ℕ) → test n (get_or xs n d) ≡ true) → all_numbered test 0 xs ≡ true
  to_zero test d xs h = at_numbered test d xs 0 (λ n. let at : n ≡ 0 + n = omega arith in subst (λ m. test m (get_or xs n d) ≡ true) at (h n))

nothing_in : (xs : List MailMessage) → is_empty xs ≡ true → xs ≡ []
nothing_in [] h = refl
nothing_in (x ∷ xs) h = absurd (true≢false (sym h))

record SixTrue (a b c d e f : Bool) : Type 0 where
  pub first : a ≡ true
  pub second : b ≡ true
  pub third : c ≡ true
  pub fourth : d ≡ true
  pub fifth : e ≡ true
  pub sixth : f ≡ true

six_parts : (a b c d e f : Bool) → (a && b && c && d && e && f) ≡ true → SixTrue a b c d e f
six_parts = grind arith

six_true : (a b c d e f : Bool) → SixTrue a b c d e f → (a && b && c && d && e && f) ≡ true
six_true a b c d e f h = rw (h.first, h.second, h.third, h.fourth, h.fifth, h.sixth) refl

-- STATES

abbrev pub tasks_finished : World → Bool
tasks_finished w = list_all (λ t. not (is_task_unfinished w.common t)) w.common.tasks

abbrev pub mail_finished : World → Bool
mail_finished w = list_all (λ seat. is_empty seat.inbox) w.common.seats

abbrev pub requests_finished : Configuration → World → Bool
requests_finished c w = all_numbered (λ r it. not (is_request_unfinished c w r it)) 0 w.common.requests

abbrev pub sleepers_finished : World → Bool
sleepers_finished w = list_all (λ z. not (is_sleeper_unfinished w.common z)) w.common.sleepers

abbrev pub cancels_finished : World → Bool
cancels_finished w = list_all (λ me. not (is_cancel_untold w.common me)) w.workers

abbrev pub workers_finished : World → Bool
workers_finished w = all_numbered (λ i seat. not (has_to_close w i seat)) 0 w.common.seats

nothing_unfinished : (c : Configuration) (w : World) → is_nothing_unfinished c w ≡ true → NothingUnfinished c w
nothing_unfinished = grind (arith, six_parts, not-true, all_at, nothing_in, from_zero)

all_finished : (c : Configuration) (w : World) → NothingUnfinished c w → is_nothing_unfinished c w ≡ true
all_finished c w h =
    six_true (tasks_finished w) (mail_finished w) (requests_finished c w) (sleepers_finished w) (cancels_finished w) (workers_finished w)
    (record {
      first = at_all (λ t. not (is_task_unfinished w.common t)) no_task w.common.tasks (λ t. not_from_false _ (h.tasks t));
      second = at_all (λ seat. is_empty seat.inbox) no_seat w.common.seats (λ i. rw (h.messages i) refl);
      third = to_zero (λ r it. not (is_request_unfinished c w r it)) no_request w.common.requests (λ r. not_from_false _ (h.requests r));
      fourth = at_all (λ z. not (is_sleeper_unfinished w.common z)) no_sleeper w.common.sleepers (λ z. not_from_false _ (h.sleepers z));
      fifth = at_all (λ me. not (is_cancel_untold w.common me)) no_own w.workers (λ i. not_from_false _ (h.cancels i));
      sixth = to_zero (λ i seat. not (has_to_close w i seat)) no_seat w.common.seats (λ i. not_from_false _ (h.workers i));
    })

implied : (a b : Bool) → (not a || b) ≡ true → a ≡ true → b ≡ true
implied true b h yes_a = h
implied false b h yes_a = absurd (true≢false (sym yes_a))

implies : (a b : Bool) → (a ≡ true → b ≡ true) → (not a || b) ≡ true
implies true b h = h refl
implies false b h = refl

pub sound : (c : Configuration) (w : World) → is_rightly_asleep c w ≡ true → IsRightlyAsleep c w
sound = grind (arith, and_parts, nothing_unfinished, implied, not-true, from_zero)

pub complete : (c : Configuration) (w : World) → IsRightlyAsleep c w → is_rightly_asleep c w ≡ true
complete c w h =
    both_true (implies (all_asleep w) (is_nothing_unfinished c w) (λ all. all_finished c w (h.asleep all)))
    (to_zero (λ i seat. not (sleeps_for_nothing w.common i seat)) no_seat w.common.seats (λ i. not_from_false _ (h.closing i)))

pub always : (c : Configuration) (w : World) (lines : List Line) (choices : List Choice) → is_always_rightly_asleep c w lines choices ≡ true → RightlyAsleepBy c w lines choices
always c w [] choices h = sound c w h
always c w (l ∷ ls) [] h = sound c w h
always c w (l ∷ ls) (choice ∷ choices) h =
    let next = after_line c w l.action l.said choice in
    let parts = and_parts (is_rightly_asleep c w) (is_always_rightly_asleep c next ls choices) h in
    (sound c w parts.0, always c next ls choices parts.1)
