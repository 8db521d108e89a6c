-- How a step is shown to cost some of what a worker has left.
use Rattle.std.{proofs.Common.{◌≡◌, ℕ, zero, suc, ◌+◌, ◌*◌, ◌≤◌, ◌<◌, Bool, true, false, ◌&&◌, ◌||◌, if◌then◌else◌, refl, ap, arith, ◌⊎◌, inl, inr}, specs.Prelude.nat_lt}
use Rattle.exec_machine.specs.{declared.config.Configuration.Configuration, After.{own_after, common_after}, World.{Common, Own as Books}}
use Rattle.exec_moves.specs.{declared.place.Place.Place, Counts.{gates_from, one_if}, Parts.polls, State.{Desk, Moved, Things}}
use Rattle.exec_progress.specs.{Effort.{is_short, steps_left, turn_left, whole_spin, whole_turn}, Going.{Falls, seen, stands}, Owed.{ahead, all_others, others, spins_of_signs, spins_owed, turns_owed, wanted}, Heights.leave_search, Ranks.rank}

-- with one more reason for it
pub or_more : (g a b : Bool) → one_if (g && b) ≤ one_if (g && (a || b))
or_more = grind arith

-- a state of worker i, as far as it counts
pub record Now : Type 0 where
  pub me : Books
  pub s : Common
  pub d : Desk
  pub x : Things

module _ (c : Configuration) (i : ℕ) where
  abbrev pub left : Now → ℕ
  left a = steps_left c i a.me a.s a.d a.x

  abbrev pub rest : Now → ℕ
  rest a = turn_left c i a.s a.d a.x

  abbrev pub ahead_at : Now → ℕ
  ahead_at a = ahead c i a.me a.s a.d a.x

  abbrev pub wanted_at : Now → ℕ
  wanted_at a = wanted c i a.me a.s a.d a.x

  abbrev pub others_at : Now → ℕ
  others_at a = all_others (others c i a.me a.s a.d a.x)

  abbrev pub turns : Now → ℕ
  turns a = turns_owed c i a.me a.s a.d a.x

  abbrev pub spins : Now → ℕ
  spins a = spins_owed c i a.me a.s a.d a.x

  abbrev pub spun : Now → ℕ
  spun a = spins_of_signs c i a.me a.s a.d a.x

  abbrev pub gates : Now → ℕ
  gates a = gates_from i 0 a.s

  -- no more turns are owed, and no more spins; or one turn less
  pub record OwesNoMore (a b : Now) : Type 0 where
    pub turns_kept : turns b ≤ turns a
    pub spins_kept : spins b ≤ spins a

  pub record OwesLess (a b : Now) : Type 0 where
    pub turn_paid : turns b + 1 ≤ turns a
    pub spins_kept : spins b ≤ spins a

  -- THE FOUR WAYS

  -- the place goes down in the turn
  pub record GoesDown (a b : Now) : Type 0 where
    pub long_before : is_short a.d.place ≡ false
    pub long_after : is_short b.d.place ≡ false
    pub less : rest b < rest a
    pub gates_kept : gates b ≤ gates a
    pub owes : OwesNoMore a b

  -- a turn begins anew, and one that was owed is paid
  pub record GoesUp (a b : Now) : Type 0 where
    pub long_before : is_short a.d.place ≡ false
    pub long_after : is_short b.d.place ≡ false
    pub less : rest b < rest a + whole_turn c i a.s
    pub gates_kept : gates b ≤ gates a
    pub owes : OwesLess a b

  -- a spin begins
  pub record Spins (a b : Now) : Type 0 where
    pub long_before : is_short a.d.place ≡ false
    pub long_after : is_short b.d.place ≡ false
    pub less : rest b < rest a + whole_spin c
    pub gates_kept : gates b ≤ gates a
    pub turns_kept : turns b ≤ turns a
    pub spin_paid : spins b + 1 ≤ spins a

  -- it comes to a poll, or goes on in one
  pub record ToPoll (a b : Now) : Type 0 where
    pub short_after : is_short b.d.place ≡ true
    pub less : rank c i b.d b.x b.d.place < rank c i a.d a.x a.d.place

  mul_le : (w v m n : ℕ) → v ≤ w → m ≤ n → v * m ≤ w * n
  mul_le w v m n h k = grind (arith, h, k)

  mul_suc : (w m : ℕ) → w * m + w ≡ w * (m + 1)
  mul_suc w m = grind arith

  long_left : (a : Now) → is_short a.d.place ≡ false → left a ≡ rest a + whole_turn c i a.s * turns a + whole_spin c * spins a
  long_left a long = ap (λ b. if b then rank c i a.d a.x a.d.place else rest a + whole_turn c i a.s * turns a + whole_spin c * spins a) long

  whole_kept : (a b : Now) → gates b ≤ gates a → whole_turn c i b.s ≤ whole_turn c i a.s
  whole_kept a b h = omega (arith, h)

  pub goes_down : (a b : Now) → GoesDown a b → left b < left a
  goes_down a b it =
      let wt = mul_le (whole_turn c i a.s) (whole_turn c i b.s) (turns b) (turns a) (whole_kept a b it.gates_kept) it.owes.turns_kept in
      let ws = mul_le (whole_spin c) (whole_spin c) (spins b) (spins a) (omega arith) it.owes.spins_kept in
      rw (long_left a it.long_before, long_left b it.long_after) (omega (arith, it.less, wt, ws))

  pub goes_up : (a b : Now) → GoesUp a b → left b < left a
  goes_up a b it =
      let wt = mul_le (whole_turn c i a.s) (whole_turn c i b.s) (turns b) (turns b) (whole_kept a b it.gates_kept) (omega arith) in
      let more = mul_le (whole_turn c i a.s) (whole_turn c i a.s) (turns b + 1) (turns a) (omega arith) it.owes.turn_paid in
      let ws = mul_le (whole_spin c) (whole_spin c) (spins b) (spins a) (omega arith) it.owes.spins_kept in
      rw (long_left a it.long_before, long_left b it.long_after) (omega (arith, it.less, wt, more, mul_suc (whole_turn c i a.s) (turns b), ws))

  pub into_spin : (a b : Now) → Spins a b → left b < left a
  into_spin a b it =
      let wt = mul_le (whole_turn c i a.s) (whole_turn c i b.s) (turns b) (turns a) (whole_kept a b it.gates_kept) it.turns_kept in
      let ws = mul_le (whole_spin c) (whole_spin c) (spins b + 1) (spins a) (omega arith) it.spin_paid in
      rw (long_left a it.long_before, long_left b it.long_after) (omega (arith, it.less, wt, mul_suc (whole_spin c) (spins b), ws))

  pub to_poll : (a b : Now) → ToPoll a b → left b < left a
  to_poll = grind arith

  -- a task is to be polled next, which a search count is returned before
  pub comes_to_poll : (a b : Now) (t : ℕ) (e : Desk) → b.d ≡ polls t e → leave_search 0 < rank c i a.d a.x a.d.place → left b < left a
  comes_to_poll = grind (arith, to_poll)

  -- WHAT IS OWED

  none_when : (m n : ℕ) → 1 ≤ n → (if nat_lt 0 n then 0 else m) ≡ 0
  none_when m n h = grind (arith, h)

  all_when : (m n : ℕ) → n ≡ 0 → (if nat_lt 0 n then 0 else m) ≡ m
  all_when m n h = ap (λ k. if nat_lt 0 k then 0 else m) h

  one_more : (n : ℕ) → 1 ≤ n → one_if (nat_lt 0 n) ≡ 1
  one_more n h = grind (arith, h)

  one_at_most : (v : Bool) → one_if v ≤ 1
  one_at_most true = omega arith
  one_at_most false = omega arith

  wants_kept : (m n : ℕ) → (1 ≤ n → 1 ≤ m) → one_if (nat_lt 0 n) ≤ one_if (nat_lt 0 m)
  wants_kept m zero h = omega arith
  wants_kept m (suc n) h = omega (arith, one_more m (h (omega arith)), one_at_most (nat_lt 0 (suc n)))

  -- a sign that is ahead stays so, or else nothing new is on
  pub record KeepsTurns (a b : Now) : Type 0 where
    pub kept : 1 ≤ ahead_at a → 1 ≤ ahead_at b
    pub wanted_kept : ahead_at a ≡ 0 → 1 ≤ wanted_at b → 1 ≤ wanted_at a
    pub others_kept : ahead_at a ≡ 0 → others_at b ≤ others_at a
    pub spun_kept : ahead_at a ≡ 0 → spun b ≤ spun a

  by_ahead : (n : ℕ) → (n ≡ 0) ⊎ (1 ≤ n)
  by_ahead zero = inl refl
  by_ahead (suc n) = inr (omega arith)

  none_owed : (b : Now) → 1 ≤ ahead_at b → (turns b ≡ 0) × (spins b ≡ 0)
  none_owed b some = (none_when (one_if (nat_lt 0 (wanted_at b)) + others_at b) (ahead_at b) some, none_when (spun b) (ahead_at b) some)

  all_owed : (a : Now) → ahead_at a ≡ 0 → (turns a ≡ one_if (nat_lt 0 (wanted_at a)) + others_at a) × (spins a ≡ spun a)
  all_owed a none = (all_when (one_if (nat_lt 0 (wanted_at a)) + others_at a) (ahead_at a) none, all_when (spun a) (ahead_at a) none)

  -- whatever is on: no more turns are owed than that
  pub at_most : (b : Now) (m n : ℕ) → (ahead_at b ≡ 0 → one_if (nat_lt 0 (wanted_at b)) + others_at b ≤ m) → (ahead_at b ≡ 0 → spun b ≤ n) → (turns b ≤ m) × (spins b ≤ n)
  at_most b m n h k = elim (by_ahead (ahead_at b)) [
    | inl none ↦ (omega (arith, (all_owed b none).0, h none), omega (arith, (all_owed b none).1, k none))
    | inr some ↦ (omega (arith, (none_owed b some).0), omega (arith, (none_owed b some).1))
  ]

  pub keeps_turns : (a b : Now) → KeepsTurns a b → OwesNoMore a b
  keeps_turns a b it = elim (by_ahead (ahead_at a)) [
    | inr some ↦ (let none = none_owed b (it.kept some) in record { turns_kept = omega (arith, none.0); spins_kept = omega (arith, none.1) })
    | inl none ↦ (let owed = all_owed a none in
        let most = at_most b (turns a) (spins a) (λ h. omega (arith, owed.0, wants_kept (wanted_at a) (wanted_at b) (it.wanted_kept none), it.others_kept none)) (λ h. omega (arith, owed.1, it.spun_kept none)) in
        record { turns_kept = most.0; spins_kept = most.1 })
  ]

  -- the same where a sign that is no sure one is gone, by which something may be wanted
  pub record PaysWant (a b : Now) : Type 0 where
    pub kept : 1 ≤ ahead_at a → 1 ≤ ahead_at b
    pub others_paid : ahead_at a ≡ 0 → others_at b + 1 ≤ others_at a
    pub spun_kept : ahead_at a ≡ 0 → spun b ≤ spun a

  pub pays_want : (a b : Now) → PaysWant a b → OwesNoMore a b
  pays_want a b it = elim (by_ahead (ahead_at a)) [
    | inr some ↦ (let none = none_owed b (it.kept some) in record { turns_kept = omega (arith, none.0); spins_kept = omega (arith, none.1) })
    | inl none ↦ (let owed = all_owed a none in
        let most = at_most b (turns a) (spins a) (λ h. omega (arith, owed.0, one_at_most (nat_lt 0 (wanted_at b)), it.others_paid none)) (λ h. omega (arith, owed.1, it.spun_kept none)) in
        record { turns_kept = most.0; spins_kept = most.1 })
  ]

  -- A TURN THAT BEGINS ANEW, where nothing is ahead: for a sure sign, which is ahead then
  pub taken_up : (a b : Now) → ahead_at a ≡ 0 → 1 ≤ wanted_at a → 1 ≤ ahead_at b → OwesLess a b
  taken_up a b none some on =
      let owed = all_owed a none in
      let no_more = none_owed b on in
      record { turn_paid = omega (arith, owed.0, one_more (wanted_at a) some, no_more.0); spins_kept = omega (arith, no_more.1) }

  -- or for another sign, which is gone
  pub gone : (a b : Now) → ahead_at a ≡ 0 → (ahead_at b ≡ 0 → 1 ≤ wanted_at b → 1 ≤ wanted_at a) → (ahead_at b ≡ 0 → others_at b + 1 ≤ others_at a)
      → 1 ≤ wanted_at a + others_at a → (ahead_at b ≡ 0 → spun b ≤ spun a) → OwesLess a b
  gone a b none wants less some fewer = elim (by_ahead (ahead_at b)) [
    | inr on ↦ taken_by (by_ahead (wanted_at a)) on
    | inl off ↦ grind (arith, all_owed, wants_kept)
  ]
    where
      taken_by : (wanted_at a ≡ 0) ⊎ (1 ≤ wanted_at a) → 1 ≤ ahead_at b → OwesLess a b
      taken_by (inr wanted_too) on = taken_up a b none wanted_too on
      taken_by (inl unwanted) on =
          let owed = all_owed a none in
          let no_more = none_owed b on in
          record { turn_paid = omega (arith, owed.0, no_more.0, some, unwanted); spins_kept = omega (arith, no_more.1) }

-- OF A MOVE

-- worker i before a move at this place, and after it
abbrev pub before : Books → Common → Desk → Things → Place → Now
before me s d x p = record { me = seen p me; s = s; d = stands p d; x = x }

abbrev pub afterwards : Configuration → ℕ → Books → Common → Place → Moved Things → Now
afterwards c i me s p m =
    record { me = own_after c (seen p me) s i m.event m.choice; s = common_after c (seen p me) s i m.event m.choice; d = m.desk; x = m.thing }

-- what is chosen by a test
pub either : {X : Type 0} (c : Configuration) (i : ℕ) (me : Books) (s : Common) (d : Desk) (x : Things) (f : X → Moved Things) (b : Bool) (m n : X)
    → (b ≡ true → Falls c i me s d x (f m)) → (b ≡ false → Falls c i me s d x (f n)) → Falls c i me s d x (f (if b then m else n))
either c i me s d x f true m n h k = h refl
either c i me s d x f false m n h k = k refl
