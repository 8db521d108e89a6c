-- No caller turns for ever: each quiet line of one costs credit.
use Rattle.std.proofs.Common.{◌≡◌, ◌⊎◌, ℕ, ◌+◌, ◌<◌, ◌≤◌, Bool, true, false, not, List, [], ◌∷◌, if◌then◌else◌, refl, sym, subst, inl, inr, arith}
use Rattle.exec_run.{proofs.{Names.{nat_lt, and_from, and_parts, cases_Bool, cases_lt, eqb-true, false≢true, lt-ltb, get_or-set_same, get_or_past, set_past, Configuration, Event, Did, Action, Told, choices_of, lines_of, Party, Caller, Plan, Stretch, is_anyone_closing, is_quiet_step, no_stretch, one_more, quiet_bound, same_party, is_quiet, World, Called, move_of_caller, Playing, by_action, by_call, by_step, caller_of, Things, call_credit, at_most, falls, spawns, wakes}, Stretches.{leads_there, ends, is_caller, longer_of}}, specs.Steps.Goes}
use Rattle.exec_machine.specs.declared.step.Action.TheVariants as action

-- what caller j has left
abbrev left_to : Playing → ℕ → ℕ
left_to x j = call_credit (caller_of x j).place x.things.idle

-- So many quiet lines of one caller were made, and with what it has left there are six at most.
abbrev Spent : Playing → Stretch → Type 0
Spent x s = (s.count ≡ 0) ⊎ ((j : ℕ) × (s.party ≡ Caller j) × (s.count + left_to x j ≤ 6))

few : (x : Playing) (s : Stretch) → Spent x s → s.count ≤ 6
few x s (inl none) = omega (arith, none)
few x s (inr (j, who, left)) = omega (arith, left)

-- A quiet line of a caller makes its own longer, or begins one.
one_more_spent : (x y : Playing) (s : Stretch) (j : ℕ) → Spent x s → left_to y j < left_to x j → Spent y (one_more (Caller j) s)
one_more_spent x y s j spent falls = by s.party refl (same_party (Caller j) s.party) refl
  where
    most : left_to x j ≤ 6
    most = at_most (caller_of x j).place x.things.idle

    goes_on : (i : ℕ) → s.party ≡ Caller i → j ≡ i → Spent x s → s.count + 1 + left_to y j ≤ 6
    goes_on = grind arith

    by : (who : Party) → s.party ≡ who → (b : Bool) → same_party (Caller j) s.party ≡ b → Spent y (if b then record s { count = s.count + 1 } else record { party = Caller j; count = 1 })
    by = grind (arith, falls, eqb-true, goes_on, false≢true)

-- A LINE of a caller, by its move

module _ (c : Configuration) (x : Playing) (s : Stretch) (spent : Spent x s) where
  -- it isn't quiet
  told : (j : ℕ) (y : Playing) (e : Event) → is_quiet e ≡ false → Spent y (if is_quiet_step x.world (Did e) then one_more (Caller j) s else no_stretch)
  told j y e loud = rw loud (inl refl)

  -- what caller j has left is what its move leaves, or nothing, where there is no such caller
  left_by : (a : Action) (j : ℕ) (m : Called Things) → call_credit m.desk.place m.thing.idle < left_to x j → left_to (by_call c x a j m).next j < left_to x j
  left_by = grind (arith, cases_lt, get_or-set_same, set_past, get_or_past)

  goes_on : (j : ℕ) → let m = move_of_caller c x.world.common (caller_of x j) x.things (action.GoOn j) in
      Spent (by_call c x (action.GoOn j) j m).next (if is_quiet_step x.world (Did m.event) then one_more (Caller j) s else no_stretch)
  goes_on j = by (is_quiet_step x.world (Did m.event)) refl
    where
      m : Called Things
      m = move_of_caller c x.world.common (caller_of x j) x.things (action.GoOn j)

      by : (b : Bool) → is_quiet_step x.world (Did m.event) ≡ b → Spent (by_call c x (action.GoOn j) j m).next (if b then one_more (Caller j) s else no_stretch)
      by true quiet =
          one_more_spent x (by_call c x (action.GoOn j) j m).next s j spent
          (left_by (action.GoOn j) j m (falls c x.world.common (caller_of x j) x.things j (and_parts (is_quiet m.event) (not (is_anyone_closing x.world)) quiet).0))
      by false loud = inl refl

  acted : (a : Action) → Spent (by_action c x a).next (longer_of is_caller x.world a (by_action c x a).told.0.said s)
  acted = grind (arith, told, spawns, wakes, goes_on)

  stepped_on : (a : Action) → Spent (by_step c x a).next (longer_of is_caller x.world a (by_step c x a).told.0.said s)
  stepped_on = grind (arith, cases_Bool, acted)

pub call_by : (p : Plan) (x : Playing) (s : Stretch) (told : List Told) → Spent x s → Goes p x told → ends is_caller p.config x.world s (lines_of told) (choices_of told) ≡ true
call_by p x s [] spent goes = refl
call_by p x s (it ∷ told) spent goes =
    let c = p.config in
    let next = (by_step c x it.0.action).next in
    let longer = longer_of is_caller x.world it.0.action it.0.said s in
    let now : Spent next longer = subst (λ (t : Told). Spent next (longer_of is_caller x.world it.0.action t.0.said s)) (sym goes.0.tells) (stepped_on c x s spent it.0.action) in
    let six = few next longer now in
    and_from (nat_lt longer.count (quiet_bound c x.world)) _ (lt-ltb longer.count (quiet_bound c x.world) (omega (arith, six)))
    (subst (λ (w : World). ends is_caller c w longer (lines_of told) (choices_of told) ≡ true) (leads_there p x it goes.0) (call_by p next longer told now goes.1))
