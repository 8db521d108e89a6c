-- What an event of a worker leaves of each sleeper.
use Rattle.std.{proofs.{Common.{◌≡◌, ℕ, zero, suc, ◌+◌, ◌<◌, true, false, ◌&&◌, List, [], ◌∷◌, ◌++◌, length, map, get_or, set, Option, Some, None, refl, sym, ◌∙◌, subst, inl, inr, arith}, lemmas.{Bool.{cases_Bool, eqb-true}, List.get_or_append_left}}, specs.Prelude.◌⊎◌}
use Rattle.exec_machine.specs.{declared.{config.Configuration.Configuration, event.Event.{Event, Event as event}, state.{MailMessage.{MailMessage, MailMessage as message}, Sleeper.Sleeper, Waiting.{Waiting, Waiting as waiting}}}, After.{common_after, polled}, Allowed.Allowed, Choice.{Choice, Payer, Payer.{ByRequest, BySleeper, ByAct, ByCall, ByStop}}, Closing.{after_clear, after_turn, ends_by_clear, gone_with, with_cleared}, Deadlines.new_sleeper, Mail.{after_message, after_post, after_sending, is_left_out, is_root_message}, Tasks.{after_payment, after_pend, after_wait, after_wake, after_word, removed, sleepers_after_waking_up}, World.{Common, Own as Books, no_sleeper, sleeper_of, task_of}}
use Rattle.exec_rest.proofs.CallHeeds.{set_at}
use Rattle.exec_machine.specs.declared.state.Forwarding.TheVariants as forwarding

-- ONE SLEEPER

pub record Dozed (e : Event) (z : ℕ) (x y : Sleeper) : Type 0 where
  pub worker : y.worker ≡ x.worker
  pub fired : x.fired ≡ true → y.fired ≡ true
  pub fires : y.fired ≡ true → (x.fired ≡ true) ⊎ (e ≡ event.Fire z)
  pub how : (y.forwarding ≡ x.forwarding) ⊎ ((y.forwarding ≡ forwarding.Sent) ⊎ ((e ≡ event.Apply (message.ForwardTimer z)) × (y.forwarding ≡ forwarding.Applied) × (y.fired ≡ x.fired)))

module _ (e : Event) (z : ℕ) where
  kept : (x y : Sleeper) → y.worker ≡ x.worker → y.fired ≡ x.fired → y.forwarding ≡ x.forwarding → Dozed e z x y
  kept x y worker fired how = record { worker = worker; fired = λ h. fired ∙ h; fires = λ h. inl (sym fired ∙ h); how = inl how }

  itself : (x : Sleeper) → Dozed e z x x
  itself x = kept x x refl refl refl

-- ALL SLEEPERS that are there

abbrev pub AllDozed : Event → List Sleeper → List Sleeper → Type 0
AllDozed e xs ys = (z : ℕ) → z < length xs → Dozed e z (get_or xs z no_sleeper) (get_or ys z no_sleeper)

module _ (e : Event) where
  none : (xs : List Sleeper) → AllDozed e xs xs
  none xs z within = itself e z (get_or xs z no_sleeper)

  same : (xs ys : List Sleeper) → ys ≡ xs → AllDozed e xs ys
  same xs ys is = subst (AllDozed e xs) (sym is) (none xs)

  one : (xs : List Sleeper) (q : ℕ) (y : Sleeper) → Dozed e q (get_or xs q no_sleeper) y → AllDozed e xs (set xs q y)
  one = grind (arith, set_at, itself)

  removes : (xs : List Sleeper) (q : ℕ) → AllDozed e xs (set xs q (removed (get_or xs q no_sleeper)))
  removes xs q = one xs q (removed (get_or xs q no_sleeper)) (kept e q (get_or xs q no_sleeper) (removed (get_or xs q no_sleeper)) refl refl refl)

  gone : (i z : ℕ) (x : Sleeper) → Dozed e z x (gone_with i x)
  gone = grind arith

  all_gone : (i z : ℕ) (xs : List Sleeper) (n : ℕ) → Dozed e z (get_or xs n no_sleeper) (get_or (map (gone_with i) xs) n no_sleeper)
  all_gone i z [] n = itself e z no_sleeper
  all_gone i z (x ∷ xs) zero = gone i z x
  all_gone i z (x ∷ xs) (suc n) = all_gone i z xs n

  pushed : (xs : List Sleeper) (y : Sleeper) → AllDozed e xs (xs ++ y ∷ [])
  pushed xs y z within = subst (Dozed e z (get_or xs z no_sleeper)) (sym (get_or_append_left xs (y ∷ []) no_sleeper z within)) (itself e z (get_or xs z no_sleeper))

  wakes_up : (s : Common) (i : ℕ) (w : Waiting) → AllDozed e s.sleepers (sleepers_after_waking_up s i w)
  wakes_up s i (waiting.Timer q) = grind (arith, removes, none)
  wakes_up s i waiting.Nothing = none s.sleepers
  wakes_up s i (waiting.Request k) = none s.sleepers
  wakes_up s i waiting.Wake = none s.sleepers
  wakes_up s i waiting.Woken = none s.sleepers
  wakes_up s i waiting.Yielded = none s.sleepers

module _ (s : Common) (i : ℕ) (e : Event) where
  words : (polls : Option ℕ) → (after_word s polls).sleepers ≡ s.sleepers
  words = grind arith

  turns : (me : Books) (choice : Choice) → (after_turn me s i choice).sleepers ≡ s.sleepers
  turns = grind arith

  posts : (s' : Common) (to : ℕ) (m : MailMessage) (choice : Choice) → (after_post s' to m choice).sleepers ≡ s'.sleepers
  posts s' to m choice = elim (cases_Bool (is_root_message m && is_left_out choice)) [ inl out ↦ rw out refl | inr in_it ↦ rw in_it refl ]

  waits : (t : ℕ) (what : Option ℕ) → (after_wait s t what).sleepers ≡ s.sleepers
  waits = grind arith

  pays : (polls : Option ℕ) (payer : Payer) → AllDozed e s.sleepers (after_payment s polls payer).sleepers
  pays polls (ByRequest r) = none e s.sleepers
  pays polls (BySleeper q) = one e s.sleepers q (record (sleeper_of s q) { wakes_paid = (sleeper_of s q).wakes_paid + 1 }) (kept e q (sleeper_of s q) _ refl refl refl)
  pays None ByAct = none e s.sleepers
  pays (Some t) ByAct = none e s.sleepers
  pays polls ByCall = none e s.sleepers
  pays polls ByStop = none e s.sleepers

  wakes : (me : Books) (t : ℕ) (choice : Choice) → AllDozed e s.sleepers (after_wake me s t choice).sleepers
  wakes = grind (arith, none, pays)

  pends : (t : ℕ) → AllDozed e s.sleepers (after_pend s i t).sleepers
  pends t = elim (cases_Bool (task_of s t).cleared) [
    | inl cleared ↦ rw cleared (wakes_up e s i (task_of s t).waiting)
    | inr goes_on ↦ rw goes_on (none e s.sleepers)
  ]

  clears : (t : ℕ) → AllDozed e s.sleepers (after_clear s i t).sleepers
  clears t = elim (cases_Bool (ends_by_clear (task_of s t).phase)) [
    | inl over ↦ rw over (wakes_up e (with_cleared s t) i (task_of (with_cleared s t) t).waiting)
    | inr stays ↦ rw stays (none e s.sleepers)
  ]

  sends : (polls : Option ℕ) (m : MailMessage) → AllDozed e s.sleepers (after_sending s polls m).sleepers
  sends None m = none e s.sleepers
  sends (Some t) message.Root = none e s.sleepers
  sends (Some t) (message.ForwardRequest r) = none e s.sleepers
  sends (Some t) (message.ForwardTimer q) =
      one e s.sleepers q (record (sleeper_of s q) { forwarding = forwarding.Sent }) (record { worker = refl; fired = λ h. h; fires = λ h. inl h; how = inr (inl refl) })
  sends (Some t) (message.CancelRequest r) = none e s.sleepers
  sends (Some t) (message.CancelTimer q) = none e s.sleepers

applies : (me : Books) (s : Common) (m : MailMessage) → AllDozed (event.Apply m) s.sleepers (after_message me s m).sleepers
applies me s message.Root = none (event.Apply message.Root) s.sleepers
applies me s (message.ForwardRequest r) = none (event.Apply (message.ForwardRequest r)) s.sleepers
applies me s (message.ForwardTimer q) =
    one (event.Apply (message.ForwardTimer q)) s.sleepers q (record (sleeper_of s q) { forwarding = forwarding.Applied })
    (record { worker = refl; fired = λ h. h; fires = λ h. inl h; how = inr (inr (refl, refl, refl)) })
applies me s (message.CancelRequest r) = none (event.Apply (message.CancelRequest r)) s.sleepers
applies me s (message.CancelTimer q) = removes (event.Apply (message.CancelTimer q)) s.sleepers q

pub dozed : (c : Configuration) (me : Books) (s : Common) (i : ℕ) (e : Event) (choice : Choice) → AllDozed e s.sleepers (common_after c me s i e choice).sleepers
dozed c me s i event.Turn choice = same event.Turn s.sleepers (after_turn me s i choice).sleepers (turns s i event.Turn me choice)
dozed c me s i (event.Pend t) choice = pends s i (event.Pend t) t
dozed c me s i (event.Done t) choice = wakes_up (event.Done t) s i (task_of s t).waiting
dozed c me s i (event.Fault t n) choice = wakes_up (event.Fault t n) s i (task_of s t).waiting
dozed c me s i (event.Spawn t k) choice = same (event.Spawn t k) s.sleepers (after_word s me.polls).sleepers (words s i (event.Spawn t k) me.polls)
dozed c me s i (event.Dedicated t j) choice = same (event.Dedicated t j) s.sleepers (after_word s me.polls).sleepers (words s i (event.Dedicated t j) me.polls)
dozed c me s i event.Closed choice = same event.Closed s.sleepers (after_word s me.polls).sleepers (words s i event.Closed me.polls)
dozed c me s i (event.Clear t) choice = clears s i (event.Clear t) t
dozed c me s i (event.Wait what) choice = same (event.Wait what) s.sleepers (after_wait s (polled me) what).sleepers (waits s i (event.Wait what) (polled me) what)
dozed c me s i (event.Timer z until) choice = pushed (event.Timer z until) s.sleepers (new_sleeper until i (polled me))
dozed c me s i (event.Wake t) choice = wakes s i (event.Wake t) me t choice
dozed c me s i (event.Reap r n outcome) choice = grind arith
dozed c me s i (event.Fire z) choice =
    one (event.Fire z) s.sleepers z (record (sleeper_of s z) { fired = true }) (record { worker = refl; fired = λ h. refl; fires = λ h. inr refl; how = inl refl })
dozed c me s i (event.Send to m) choice =
    subst (AllDozed (event.Send to m) s.sleepers) (sym (posts s i (event.Send to m) (after_sending s me.polls m) to m choice)) (sends s i (event.Send to m) me.polls m)
dozed c me s i (event.Apply m) choice = applies me s m
dozed c me s i event.End choice = λ z within. all_gone event.End i z s.sleepers z
dozed c me s i e choice = none e s.sleepers

-- A SLEEPER THAT IS MADE

made : (xs : List Sleeper) (y : Sleeper) → get_or (xs ++ y ∷ []) (length xs) no_sleeper ≡ y
made [] y = refl
made (x ∷ xs) y = made xs y

pub begins_sleep : (c : Configuration) (me : Books) (s : Common) (i z until : ℕ) (choice : Choice) → Allowed c me s i (event.Timer z until) choice
    → (sleeper_of (common_after c me s i (event.Timer z until) choice) z).fired ≡ false
begins_sleep = grind (arith, eqb-true, made)
