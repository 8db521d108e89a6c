-- What an event of a worker leaves of each request and each sleeper, also of those that it makes.
use Rattle.std.{proofs.{Common.{◌≡◌, ℕ, Bool, true, false, Option, None, refl, inl, arith}, lemmas.Bool.true≢false}, specs.Prelude.◌⊎◌}
use Rattle.exec_outcomes.specs.declared.outcome.Outcome.{Outcome}
use Rattle.exec_machine.specs.{declared.{config.{Configuration.Configuration, ScriptWord.ScriptWord}, event.Event.{Event, Event as event}, state.{Forwarding.TheVariants.Unsent, Operation.Operation, Request.Request, Sleeper.Sleeper}}, After.common_after, Allowed.Allowed, Choice.Choice, Requests.{asked_now, new_request, operation_asked, operation_or_none, resolved_if, with_seen}, Tests.{is_in_flight, is_of_file}, Words.{next_word, polled_task}, World.{Common, Own as Books, request_of, sleeper_of}}
use Rattle.exec_books.proofs.{CountedLeaves.leaves_each, CountedTurns.{Naps, Turns, each_push, napped, turned}}

-- WHAT A WORD ASKS FOR: an operation of a file has no deadline

asked_undated : (c : Configuration) (sampled : ℕ) (w : ScriptWord) → is_of_file (operation_or_none (operation_asked c sampled w)).kind ≡ true → (operation_or_none (operation_asked c sampled w)).deadline ≡ None
asked_undated = grind arith

seen_undated : (o : Operation) (s : Common) → (is_of_file o.kind ≡ true → o.deadline ≡ None) → is_of_file (with_seen o s).kind ≡ true → (with_seen o s).deadline ≡ None
seen_undated = grind arith

-- A NEW REQUEST OR SLEEPER

pub record Fresh (i : ℕ) (y : Request) : Type 0 where
  pub worker : y.worker ≡ i
  pub timer : y.timer ≡ None
  pub undated : is_of_file y.operation.kind ≡ true → y.operation.deadline ≡ None
  pub released : y.released ≡ false
  pub aground : is_in_flight y.phase ≡ false
  pub forwarding : y.forwarding ≡ Unsent

made_fresh : (i : ℕ) (o : Operation) (outcome : Option Outcome) → (is_of_file o.kind ≡ true → o.deadline ≡ None) → Fresh i (resolved_if outcome (new_request i o))
made_fresh = grind arith

pub record Bedded (i : ℕ) (y : Sleeper) : Type 0 where
  pub worker : y.worker ≡ i
  pub forwarding : y.forwarding ≡ Unsent

abbrev pub admits : Event → Bool
admits (event.Admit r kind outcome) = true
admits _ = false

module _ (c : Configuration) (me : Books) (s : Common) (i : ℕ) where
  abbrev pub made : Option Outcome → Request
  made outcome = resolved_if outcome (new_request i (with_seen (asked_now c me s) s))

  pub made_is : (outcome : Option Outcome) → Fresh i (made outcome)
  made_is outcome = made_fresh i (with_seen (asked_now c me s) s) outcome (seen_undated (asked_now c me s) s (asked_undated c me.sampled (next_word s (polled_task me s))))

  -- each request is as the event leaves it, where none is made
  pub no_made : (e : Event) (choice : Choice) → Allowed c me s i e choice → admits e ≡ false → (k : ℕ) → Turns e k (request_of s k) (request_of (common_after c me s i e choice) k)
  no_made (event.Admit r kind outcome) choice h calm k = absurd (true≢false calm)
  no_made (event.Timer z until) choice h calm k = turned
  no_made e choice h calm k = (leaves_each c me s i e choice h refl).requests k

  pub each_request : (e : Event) (choice : Choice) → Allowed c me s i e choice → (k : ℕ)
      → (Turns e k (request_of s k) (request_of (common_after c me s i e choice) k)) ⊎ (Fresh i (request_of (common_after c me s i e choice) k))
  each_request = grind (arith, each_push, turned, made_is, no_made)

  pub each_sleeper : (e : Event) (choice : Choice) → Allowed c me s i e choice → (z : ℕ)
      → (Naps e z (sleeper_of s z) (sleeper_of (common_after c me s i e choice) z)) ⊎ (Bedded i (sleeper_of (common_after c me s i e choice) z))
  each_sleeper (event.Timer q until) choice h z = grind (arith, each_push, napped)
  each_sleeper (event.Admit r kind outcome) choice h z = inl napped
  each_sleeper e choice h z = inl ((leaves_each c me s i e choice h refl).sleepers z)
