-- No worker turns for ever: each quiet line of one costs some of what it has left.
use Rattle.std.proofs.Common.{◌≡◌, ◌⊎◌, ℕ, suc, ◌+◌, ◌^◌, ◌<◌, ◌≤◌, Bool, true, false, not, List, [], ◌∷◌, length, if◌then◌else◌, refl, sym, ap, subst, ◌∙◌, inl, inr, arith}
use Rattle.exec_run.{proofs.{Names.{nat_lt, and_from, and_parts, eqb-true, false≢true, lt-ltb, not-true, Configuration, Did, Action, is_enabled, Told, choices_of, lines_of, is_open, quiet_bound, Party, Caller, Nobody, Worker, Plan, Stretch, is_anyone_closing, is_quiet_step, no_stretch, one_more, same_party, is_quiet, World, own_of, seat_of, move, Playing, by_action, by_move, by_step, desk_of, Moved, Things, left_to, bound_keeps, still_open, IsPacedThere, IsSteadyThere, KeepsOn}, Stretches.{leads_there, ends, is_worker, longer_of}}, specs.Steps.Goes}
use Rattle.exec_machine.specs.declared.step.Action.TheVariants as action

-- So many quiet lines of one worker were made, and with what it has left they are fewer than the bound.
abbrev Spent : Configuration → Playing → Stretch → Type 0
Spent c x s = (s.count ≡ 0) ⊎ ((i : ℕ) × (s.party ≡ Worker i) × (s.count + left_to c x i < quiet_bound c x.world))

-- what the test of a line asks, and what holds after it
record Ends (c : Configuration) (x y : Playing) (s : Stretch) : Type 0 where
  pub short : s.count < quiet_bound c x.world
  pub spent : Spent c y s

module _ (n : ℕ) (few : n ≤ 2 ^ 32) (c : Configuration) (x : Playing) (there : IsPacedThere n c x) (s : Stretch) (spent : Spent c x s) where
  some : 0 < quiet_bound c x.world
  some = omega arith

  so_far : s.count < quiet_bound c x.world
  so_far = grind arith

  ended : (y : Playing) → Ends c x y no_stretch
  ended y = record { short = some; spent = inl refl }

  -- A quiet line of a worker makes its own stretch longer, or begins one.
  goes_on : (y : Playing) (i : ℕ) → is_open (seat_of x.world.common i).phase ≡ true → quiet_bound c y.world ≡ quiet_bound c x.world → left_to c y i < left_to c x i → Ends c x y (one_more (Worker i) s)
  goes_on y i going same falls = by s.party refl (same_party (Worker i) s.party) refl
    where
      counted : (j : ℕ) → s.party ≡ Worker j → i ≡ j → Spent c x s → s.count + left_to c x i < quiet_bound c x.world
      counted = grind arith

      by : (who : Party) → s.party ≡ who → (b : Bool) → same_party (Worker i) s.party ≡ b → Ends c x y (if b then record s { count = s.count + 1 } else record { party = Worker i; count = 1 })
      by who is false other =
          let bound = there.bounded i going in
          record { short = omega (arith, bound, falls); spent = inr (i, refl, omega (arith, bound, falls, same)) }
      by (Worker j) is true mine =
          let own : i ≡ j = eqb-true i j (sym (ap (same_party (Worker i)) is) ∙ mine) in
          let so = counted j is own spent in
          record { short = omega (arith, so, falls); spent = inr (i, is ∙ ap Worker (sym own), omega (arith, so, falls, same)) }
      by Nobody is true mine = absurd (false≢true (sym (ap (same_party (Worker i)) is) ∙ mine))
      by (Caller j) is true mine = absurd (false≢true (sym (ap (same_party (Worker i)) is) ∙ mine))

  by_work : (i : ℕ) → is_enabled x.world.common (action.Work i) ≡ true → let m = move c i (own_of x.world i) x.world.common (desk_of c x i) x.things in
      (is_quiet_step x.world (Did m.event) ≡ true → left_to c (by_move c x i m).next i < left_to c x i)
      → Ends c x (by_move c x i m).next (if is_quiet_step x.world (Did m.event) then one_more (Worker i) s else no_stretch)
  by_work i on falls = by (is_quiet_step x.world (Did m.event)) refl
    where
      m : Moved Things
      m = move c i (own_of x.world i) x.world.common (desk_of c x i) x.things

      by : (b : Bool) → is_quiet_step x.world (Did m.event) ≡ b → Ends c x (by_move c x i m).next (if b then one_more (Worker i) s else no_stretch)
      by true quiet =
          let parts = and_parts (is_quiet m.event) (not (is_anyone_closing x.world)) quiet in
          goes_on (by_move c x i m).next i (still_open x.world i (not-true (is_anyone_closing x.world) parts.1) on) (bound_keeps c x.world i m.event m.choice parts.0) (falls quiet)
      by false loud = ended (by_move c x i m).next

  acted : (a : Action) → is_enabled x.world.common a ≡ true → ((i : ℕ) → a ≡ action.Work i → is_quiet_step x.world (by_action c x a).told.0.said ≡ true → left_to c (by_action c x a).next i < left_to c x i)
      → Ends c x (by_action c x a).next (longer_of is_worker x.world a (by_action c x a).told.0.said s)
  acted (action.Work i) on falls = by_work i on (falls i refl)
  acted a on falls = ended (by_action c x a).next

  stepped_on : (a : Action) → KeepsOn n c x a → Ends c x (by_step c x a).next (longer_of is_worker x.world a (by_step c x a).told.0.said s)
  stepped_on a keeps = by (is_enabled x.world.common a) refl (keeps.falls few)
    where
      by : (b : Bool) → is_enabled x.world.common a ≡ b
          → ((i : ℕ) → a ≡ action.Work i → is_quiet_step x.world (by_step c x a).told.0.said ≡ true → left_to c (by_step c x a).next i < left_to c x i)
          → Ends c x (by_step c x a).next (longer_of is_worker x.world a (by_step c x a).told.0.said s)
      by true on = rw on (acted a on)
      by false off = rw off (λ falls. record { short = so_far; spent = spent })

pub turns_by : (p : Plan) (n : ℕ) (x : Playing) (s : Stretch) (told : List Told) → n + length told ≤ 2 ^ 32 → IsSteadyThere p.config x → IsPacedThere n p.config x → Spent p.config x s → Goes p x told
    → ends is_worker p.config x.world s (lines_of told) (choices_of told) ≡ true
turns_by p n x s [] few steady there spent goes = refl
turns_by p n x s (it ∷ told) few steady there spent goes =
    let c = p.config in
    let next = (by_step c x it.0.action).next in
    let longer = longer_of is_worker x.world it.0.action it.0.said s in
    let keeps = goes.0.turns n steady.steady there.paced in
    let now : Ends c x next longer = subst (λ (t : Told). Ends c x next (longer_of is_worker x.world it.0.action t.0.said s)) (sym goes.0.tells) (stepped_on n (omega (arith, few)) c x there s spent it.0.action keeps) in
    and_from (nat_lt longer.count (quiet_bound c x.world)) _ (lt-ltb longer.count (quiet_bound c x.world) now.short)
    (subst (λ (w : World). ends is_worker c w longer (lines_of told) (choices_of told) ≡ true) (leads_there p x it goes.0)
    (turns_by p (suc n) next longer told (omega (arith, few)) (goes.0.rests steady.steady) keeps.there now.spent goes.1))
