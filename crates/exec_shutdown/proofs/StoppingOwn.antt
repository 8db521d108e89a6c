-- What an event leaves of the own part of each worker, as far as stopping goes: its root, the task that it polls, what its next
-- line has to do, and the messages that it has to send.
use Rattle.std.{proofs.{Common.{◌≡◌, ◌≢◌, ℕ, zero, suc, ◌<◌, ◌≤◌, ◌+◌, ◌-◌, ◌==◌, Bool, true, false, ◌&&◌, ◌||◌, List, [], ◌∷◌, ◌++◌, Option, Some, None, refl, sym, ap, ◌∙◌, inl, inr, arith, if◌then◌else◌}, lemmas.{Bool.{true≢false, false≢true, cases_Bool, eqb-false, not-true, or_left, or_right}, List.Folds.list_any-append}}, specs.{Prelude.drop, List.list_any}}
use Rattle.exec_outcomes.specs.declared.outcome.Outcome.{Outcome}
use Rattle.exec_machine.specs.{declared.{config.Configuration.Configuration, event.Event.{Event, Event as event}, state.{Letter.Letter, MailMessage.{MailMessage, TheVariants.Root}, Operation.Operation, Waiting.{Waiting, Waiting as waiting}}}, After.{own_after, own_by}, Allowed.Allowed, Choice.Choice, Closing.{ends_by_clear, letters_to_roots, own_after_clear, own_after_turn}, Deadlines.sampled_now, Mail.{own_after_apply, own_after_letter}, Requests.{own_after_admit, own_after_drop}, Same.{is_letter, is_none, is_number}, Tasks.{own_after_drops, own_after_over, own_after_waking_up, owes}, Tests.is_open, World.{Common, Own as Books, request_of, seat_of, sleeper_of, task_of}}
use Rattle.exec_shutdown.{specs.Stopping.owes_root, proofs.StoppingSeats.goes_to_rest}
use Rattle.exec_machine.specs.declared.state.MailMessage.TheVariants as message

-- LETTERS

-- it tells the root of worker q
abbrev pub is_to : ℕ → Letter → Bool
is_to q letter = is_letter q Root (Some letter)

-- those to the roots of so many from one on have one to each of these
letter_there : (more from q : ℕ) → from ≤ q → q < from + more → list_any (is_to q) (letters_to_roots more from) ≡ true
letter_there zero from q least most = absurd (omega (arith, least, most))
letter_there (suc more) from q least most =
    by (from == q) refl (λ is. let apart = eqb-false from q is in letter_there more (suc from) q (omega (arith, least, apart)) (omega (arith, most)))
  where
    by : (b : Bool) → (from == q) ≡ b → ((from == q) ≡ false → list_any (is_to q) (letters_to_roots more (suc from)) ≡ true)
        → ((from == q) && true || list_any (is_to q) (letters_to_roots more (suc from))) ≡ true
    by true is later = or_left ((from == q) && true) (list_any (is_to q) (letters_to_roots more (suc from))) (rw is refl)
    by false is later = or_right ((from == q) && true) (list_any (is_to q) (letters_to_roots more (suc from))) (later is)

pub letters_there : (c : Configuration) (me : Books) (q : ℕ) → q ≢ 0 → q < c.workers → owes_root q (record me { owed = letters_to_roots (c.workers - 1) 1 }) ≡ true
letters_there c me q some within = letter_there (c.workers - 1) 1 q (omega (arith, some)) (omega (arith, some, within))

-- THE OWN PART OF WHO ACTS

-- a letter is owed still
pub record Owing (x y : Books) : Type 0 where
  pub owing : (q : ℕ) → owes_root q x ≡ true → owes_root q y ≡ true
  pub root : y.root ≡ x.root
  pub polls : y.polls ≡ x.polls
  pub next : y.next ≡ x.next

owing : {x y : Books} → y.owed ≡ x.owed → y.root ≡ x.root → y.polls ≡ x.polls → y.next ≡ x.next → Owing x y
owing owed root polls following = record { owing = λ q h. ap (list_any (is_to q)) owed ∙ h; root = root; polls = polls; next = following }

same : {x : Books} → Owing x x
same = owing refl refl refl refl

owing_then : {x y z : Books} → Owing x y → Owing y z → Owing x z
owing_then a b = record { owing = λ q h. b.owing q (a.owing q h); root = b.root ∙ a.root; polls = b.polls ∙ a.polls; next = b.next ∙ a.next }

either : {x : Books} (b : Bool) (y z : Books) → Owing x y → Owing x z → Owing x (if b then y else z)
either true y z a b = a
either false y z a b = b

-- one letter more
more : (x : Books) (letter : Letter) → Owing x (record x { owed = x.owed ++ letter ∷ [] })
more x letter =
    record {
      owing = λ q h. list_any-append (is_to q) x.owed (letter ∷ []) ∙ or_left (list_any (is_to q) x.owed) (list_any (is_to q) (letter ∷ [])) h;
      root = refl;
      polls = refl;
      next = refl;
    }

module _ (s : Common) (i : ℕ) where
  drops : (held : List ℕ) (me : Books) → Owing me (own_after_drops s i held me)
  drops [] me = same
  drops (r ∷ held) me =
      let home = (request_of s r).worker in
      let letter : Letter = record { to = home; message = message.CancelRequest r } in
      owing_then (either (home == i) (own_after_drop me s r) (owes me home letter) (owing refl refl refl refl) (more me letter)) (drops held (if home == i then own_after_drop me s r else owes me home letter))

  wakes_up : (what : Waiting) (me : Books) → Owing me (own_after_waking_up s i what me)
  wakes_up (waiting.Timer z) me =
      let home = (sleeper_of s z).worker in
      let letter : Letter = record { to = home; message = message.CancelTimer z } in
      either (home == i) me (owes me home letter) same (more me letter)
  wakes_up _ me = same

  pub over : (me : Books) (t : ℕ) → Owing me (own_after_over me s i t)
  over me t = owing_then (drops (task_of s t).held me) (wakes_up (task_of s t).waiting (own_after_drops s i (task_of s t).held me))

  pub clears : (me : Books) (t : ℕ) → Owing me (own_after_clear me s i t)
  clears me t = either (ends_by_clear (task_of s t).phase) (own_after_over me s i t) me (over me t) same

  pub pends : (me : Books) (t : ℕ) → Owing me (if (task_of s t).cleared then own_after_over me s i t else me)
  pends me t = either (task_of s t).cleared (own_after_over me s i t) me (over me t) same

-- what it owes, its root and the task that it polls are the same
abbrev pub Alike : Books → Books → Type 0
Alike x y = (y.owed ≡ x.owed) × (y.root ≡ x.root) × (y.polls ≡ x.polls)

applies : (me : Books) (s : Common) (m : MailMessage) → Alike me (own_after_apply me s m)
applies = grind arith

turns : (me : Books) (choice : Choice) → Alike me (own_after_turn me choice)
turns = grind arith

samples : (s : Common) (me : Books) → Alike me (sampled_now s me)
samples s me = elim (cases_Bool me.serving) [ inl on ↦ rw on (refl, refl, refl) | inr off ↦ rw off (refl, refl, refl) ]

admits : (o : Operation) (outcome : Option Outcome) (r : ℕ) (me : Books) → Alike me (own_after_admit o outcome r me)
admits = grind arith

-- by which a worker begins or ends a poll, or owes more or less
abbrev pub is_of_poll : Event → Bool
is_of_poll (event.Begin t) = true
is_of_poll (event.Pend t) = true
is_of_poll (event.Done t) = true
is_of_poll (event.Fault t n) = true
is_of_poll (event.Clear t) = true
is_of_poll (event.Send to m) = true
is_of_poll event.Stop = true
is_of_poll _ = false

abbrev pub begins : Event → Bool
begins (event.Begin t) = true
begins _ = false

module _ (c : Configuration) (me : Books) (s : Common) (i : ℕ) where
  pub alike : (e : Event) (choice : Choice) → is_of_poll e ≡ false → Alike me (own_by c me s i e choice)
  alike = grind (arith, turns, samples, admits, applies, true≢false)

  over_root : (t : ℕ) → (own_after_over me s i t).root ≡ me.root
  over_root t = (over s i me t).root

  letter_root : (own_after_letter me).root ≡ me.root
  letter_root = elim (cases_Bool (is_none me.polls)) [ inl out ↦ rw out refl | inr in_it ↦ rw in_it refl ]

  letter_polls : (own_after_letter me).polls ≡ me.polls
  letter_polls = elim (cases_Bool (is_none me.polls)) [ inl out ↦ rw out refl | inr in_it ↦ rw in_it refl ]

  -- ITS ROOT stays
  pub root_stays : (e : Event) (choice : Choice) → (own_after c me s i e choice).root ≡ me.root
  root_stays (event.Begin t) choice = refl
  root_stays (event.Pend t) choice = (pends s i me t).root
  root_stays (event.Done t) choice = over_root t
  root_stays (event.Fault t n) choice = over_root t
  root_stays (event.Clear t) choice = (clears s i me t).root
  root_stays (event.Send to m) choice = letter_root
  root_stays event.Stop choice = refl
  root_stays e choice = (alike e choice refl).1

  -- WHO POLLS NOTHING begins a poll, or polls nothing
  pub polls_none : (e : Event) (choice : Choice) → begins e ≡ false → me.polls ≡ None → (own_after c me s i e choice).polls ≡ None
  polls_none (event.Begin t) choice other none = absurd (true≢false other)
  polls_none (event.Pend t) choice other none = refl
  polls_none (event.Done t) choice other none = refl
  polls_none (event.Fault t n) choice other none = refl
  polls_none (event.Clear t) choice other none = (clears s i me t).polls ∙ none
  polls_none (event.Send to m) choice other none = letter_polls ∙ none
  polls_none event.Stop choice other none = none
  polls_none e choice other none = (alike e choice refl).2 ∙ none

  pub begins_open : (e : Event) (choice : Choice) → Allowed c me s i e choice → begins e ≡ true → is_open (seat_of s i).phase ≡ true
  begins_open (event.Begin t) choice h is = h.1.0
  begins_open e choice h is = absurd (false≢true is)

  -- WHAT IT OWES
  pub rests_owing : (e : Event) (choice : Choice) → goes_to_rest e ≡ true → (own_after c me s i e choice).owed ≡ me.owed
  rests_owing event.Turn choice rests = (turns me choice).0
  rests_owing (event.Sleep until) choice rests = refl
  rests_owing event.End choice rests = refl
  rests_owing e choice rests = absurd (false≢true rests)

  not_polled : (t : ℕ) (polls : Option ℕ) → polls ≡ None → is_number t polls ≡ true → ⊥
  not_polled = grind (arith, false≢true)

  sent_none : (xs : List Letter) → xs ≡ [] → drop 1 xs ≡ []
  sent_none = grind arith

  letter_owed : me.owed ≡ [] → (own_after_letter me).owed ≡ []
  letter_owed none = elim (cases_Bool (is_none me.polls)) [ inl out ↦ rw out (sent_none me.owed none) | inr in_it ↦ rw in_it none ]

  -- who has passed the barrier as one of the pool, polls nothing and owes nothing comes to owe nothing
  pub owes_nothing : (e : Event) (choice : Choice) → Allowed c me s i e choice → me.polls ≡ None → me.owed ≡ [] → s.stopped ≡ true → (seat_of s i).left ≡ true → (own_after c me s i e choice).owed ≡ []
  owes_nothing (event.Begin t) choice h idle none st left = none
  owes_nothing (event.Pend t) choice h idle none st left = absurd (not_polled t me.polls idle h.0)
  owes_nothing (event.Done t) choice h idle none st left = absurd (not_polled t me.polls idle h.0)
  owes_nothing (event.Fault t n) choice h idle none st left = absurd (not_polled t me.polls idle h.0)
  owes_nothing (event.Clear t) choice h idle none st left = absurd (true≢false (sym left ∙ not-true (seat_of s i).left h.1.1.1.0))
  owes_nothing (event.Send to m) choice h idle none st left = letter_owed none
  owes_nothing event.Stop choice h idle none st left = absurd (true≢false (sym st ∙ not-true s.stopped h.1.1.1.0))
  owes_nothing e choice h idle none st left = (alike e choice refl).0 ∙ none
