-- Of which worker a request or a sleeper is, and which the kernel isn't told of.
use Rattle.std.proofs.{Common.{◌≡◌, ℕ, ◌<◌, true, length, arith}, lemmas.{Bool.{false≢true, ltb-true, ltb-false}, List.get_or_past}}
use Rattle.exec_machine.specs.{declared.{config.Configuration.Configuration, event.Event.Event}, After.own_after, Allowed.Allowed, Choice.Choice, Tests.is_in_flight, World.{Common, Own as Books, request_of, sleeper_of}}
use Rattle.exec_books.{specs.Listed.is_in, proofs.{CountedOwn.{in_more, untold_kept}, Own.IsOwn}}

-- past the end it is of worker zero, which there is
module _ (s : Common) (i : ℕ) (here : i < length s.seats) where
  pub whose_within : ((k : ℕ) → k < length s.requests → (request_of s k).worker < length s.seats) → (k : ℕ) → (request_of s k).worker < length s.seats
  whose_within = grind (arith, ltb-true, get_or_past, ltb-false)

  pub sleeps_within : ((z : ℕ) → z < length s.sleepers → (sleeper_of s z).worker < length s.seats) → (z : ℕ) → (sleeper_of s z).worker < length s.seats
  sleeps_within = grind (arith, ltb-true, get_or_past, ltb-false)

-- what is in flight is there
pub flies_within : (s : Common) (r : ℕ) → is_in_flight (request_of s r).phase ≡ true → r < length s.requests
flies_within = grind (arith, ltb-true, false≢true, get_or_past, ltb-false)

module _ (c : Configuration) (me : Books) (s : Common) (i : ℕ) where
  abbrev pub IsTold : ℕ → Type 0
  IsTold k = (k < length s.requests) × ((request_of s k).worker ≡ i)

  pub untold_here : (e : Event) (choice : Choice) → Allowed c me s i e choice → IsOwn s i e → ((k : ℕ) → is_in k me.untold ≡ true → IsTold k)
      → (k : ℕ) → is_in k (own_after c me s i e choice).untold ≡ true → IsTold k
  untold_here = grind (arith, false≢true, in_more, flies_within, untold_kept)
