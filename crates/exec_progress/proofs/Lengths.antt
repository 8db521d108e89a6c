-- A quiet line of a worker leaves the bound: there are as many requests and sleepers.
use Rattle.std.proofs.{Common.{◌≡◌, ℕ, true, length, refl, arith}, lemmas.{Bool.true≢false, List.length-map}}
use Rattle.exec_machine.specs.{declared.{config.Configuration.Configuration, event.Event.Event}, After.{after, common_after}, Choice.Choice, Progress.quiet_bound, Closing.after_turn, Text.is_quiet, World.{Common, Own as Books, World}}

record AsMany (s later : Common) : Type 0 where
  pub requests : length later.requests ≡ length s.requests
  pub sleepers : length later.sleepers ≡ length s.sleepers

as_many : {s : Common} → AsMany s s
as_many = record { requests = refl; sleepers = refl }

turn_keeps : (me : Books) (s : Common) (i : ℕ) (choice : Choice) → AsMany s (after_turn me s i choice)
turn_keeps = grind arith

quiet_keeps : (c : Configuration) (me : Books) (s : Common) (i : ℕ) (e : Event) (choice : Choice) → is_quiet e ≡ true → AsMany s (common_after c me s i e choice)
quiet_keeps = grind (arith, turn_keeps, as_many, length-map, true≢false)

pub bound_keeps : (c : Configuration) (w : World) (i : ℕ) (e : Event) (choice : Choice) → is_quiet e ≡ true → quiet_bound c (after c w i e choice) ≡ quiet_bound c w
bound_keeps = grind (arith, quiet_keeps)
