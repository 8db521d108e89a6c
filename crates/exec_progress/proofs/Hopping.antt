-- A step from one place to another of the same stage, by which nothing that is ahead goes, and nothing comes that wasn't wanted.
use Rattle.std.{proofs.Common.{◌≡◌, ℕ, ◌+◌, ◌*◌, ◌==◌, ◌≤◌, ◌<◌, Bool, true, false, not, ◌&&◌, ◌||◌, List, Option, is_some, sym, ap, ◌∙◌, arith}, specs.Prelude.{nat_lt, nat_le}}
use Rattle.exec_machine.specs.{declared.{config.Configuration.Configuration, state.Next.Next}, Tests.is_empty, World.{Common, Own as Books}}
use Rattle.exec_moves.specs.{declared.place.Place.Place, Callback.is_of_pool, Counts.{gates_from, one_if}, State.{Desk, Things, queue_of, word_of, wake_poll_of}}
use Rattle.exec_progress.{specs.{Effort.{begun_gates, is_short, scans_again, second_scan, stagings}, Owed.{Signs, can_steal, finds, is_before_spin, pops_own, sampling, signals_itself, signs, signs_ahead, stage, takes_share}, Ranks.rank}, proofs.Tools.{Now, ahead_at, before, goes_down, keeps_turns, left, others_at, spun, to_poll, wanted_at}}

mul_up : (m n v : ℕ) → m ≤ n → m * v ≤ n * v
mul_up m n v h = grind (arith, h)

-- a sign that stays on stays ahead, and so do two of which as many stay on
stays_ahead : (u o w v z : Bool) → o ≡ false → one_if v ≤ one_if z → one_if ((u || o) && v) ≤ one_if ((u || w) && z)
stays_ahead = grind arith

both_ahead : (u o w a b v z : Bool) → o ≡ false → one_if a + one_if b ≤ one_if v + one_if z → one_if ((u || o) && a) + one_if ((u || o) && b) ≤ one_if ((u || w) && v) + one_if ((u || w) && z)
both_ahead = grind arith

-- what the signs are afterwards: only those of the queues differ
abbrev with_queues : Signs → Bool → Bool → Bool → Signs
with_queues y queue aside global = record y { queue = queue; aside = aside; global = global }

pub ahead_kept : (n : ℕ) (p q : Place) (y : Signs) (queue aside global : Bool) → pops_own p ≡ false → takes_share p ≡ false → one_if y.queue + one_if y.aside ≤ one_if queue + one_if aside
    → one_if y.global ≤ one_if global → signs_ahead n p y ≤ signs_ahead n q (with_queues y queue aside global)
ahead_kept n p q y queue aside global pops shares h k =
    omega (arith, both_ahead (nat_le 10 n) (pops_own p) (pops_own q) y.queue y.aside queue aside pops h, stays_ahead (nat_le 10 n) (takes_share p) (takes_share q) y.global global shares k)

module _ (c : Configuration) (i : ℕ) (me : Books) (s : Common) (d : Desk) (x : Things) where
  -- what of its desk a step on the way changes beside the place, and the things afterwards
  pub record Gets : Type 0 where
    pub hand : Option ℕ
    pub loot : List ℕ
    pub searching : Bool
    pub things : Things

  abbrev pub desk_at : Place → Gets → Desk
  desk_at q u = record d { place = q; hand = u.hand; loot = u.loot; searching = u.searching }

  -- the worker after a turn that leads there
  abbrev pub later : Place → Gets → Now
  later q u = record { me = record me { serving = false; next = Next.Free }; s = s; d = desk_at q u; x = u.things }

  -- the signs of the queues among these things
  abbrev pub of_queue : Things → ℕ
  of_queue y = one_if (is_of_pool s i && not (is_empty (queue_of y i).values))

  abbrev pub of_aside : Things → ℕ
  of_aside y = one_if (is_of_pool s i && not (is_empty (queue_of y i).held))

  abbrev pub of_global : Things → ℕ
  of_global y = one_if (is_of_pool s i && not (is_empty y.global))

  -- no sign is gone that may be ahead, and none is new where nothing was wanted; its own signal may have become a latch
  pub record Kept (p : Place) (u : Gets) : Type 0 where
    pub queue_kept : of_queue x + of_aside x ≤ of_queue u.things + of_aside u.things
    pub global_kept : of_global x ≤ of_global u.things
    pub wants : 1 ≤ of_queue u.things + of_aside u.things + of_global u.things + one_if (can_steal u.things) + one_if (is_some u.hand) + one_if (not (is_empty u.loot))
        → 1 ≤ of_queue x + of_aside x + of_global x + one_if (can_steal x) + one_if (is_some d.hand) + one_if (not (is_empty d.loot))
    pub poll : wake_poll_of u.things i ≡ wake_poll_of x i
    pub mail : (word_of u.things i).batch ≡ (word_of x i).batch
    pub latch : (n : ℕ) → one_if (nat_lt n sampling && (word_of u.things i).latch) ≤ one_if (nat_lt n sampling && (signals_itself i p || (word_of x i).latch))

  -- what a place is as one that is left
  pub record Leaves (p : Place) (short : Bool) (n k r : ℕ) : Type 0 where
    pub short_there : is_short p ≡ short
    pub stage_there : stage d.picks p ≡ n
    pub stagings_there : k ≤ stagings p
    pub above : r < rank c i d x p
    pub no_pop : pops_own p ≡ false
    pub no_share : takes_share p ≡ false
    pub before_spin : is_before_spin p ≡ true

  -- and as one that is come to
  pub record Comes (q : Place) (u : Gets) (short : Bool) (n k r : ℕ) : Type 0 where
    pub short_here : is_short q ≡ short
    pub stage_here : stage d.picks q ≡ n
    pub stagings_here : stagings q ≤ k
    pub below : rank c i (desk_at q u) u.things q ≤ r
    pub no_gate : begun_gates i s q ≡ 0
    pub no_scan : scans_again c (desk_at q u) u.things q ≡ false
    pub nothing_found : finds q ≡ false
    pub not_itself : signals_itself i q ≡ false

  one_at_most : (v : Bool) → one_if v ≤ 1
  one_at_most true = omega arith
  one_at_most false = omega arith

  -- the signs of this state
  abbrev signs_of : Now → Signs
  signs_of a = signs c i a.me a.s a.d a.x

  stays : (p q : Place) (u : Gets) → stage d.picks q ≡ stage d.picks p → pops_own p ≡ false → takes_share p ≡ false → Kept p u
      → ahead_at c i (before me s d x p) ≤ ahead_at c i (later q u)
  stays p q u same pops shares it =
      let y = signs_of (before me s d x p) in
      let z = signs_of (later q u) in
      omega (
        arith,
        ap (λ m. signs_ahead m q z) same,
        ahead_kept (stage d.picks p) p q y z.queue z.aside z.global pops shares it.queue_kept it.global_kept,
        ap (λ k. signs_ahead (stage d.picks p) q (record z { mail = not (k == d.processed) })) it.mail,
      )

  wanted_less : (p q : Place) (u : Gets) → Kept p u → 1 ≤ wanted_at c i (later q u) → 1 ≤ wanted_at c i (before me s d x p)
  wanted_less = grind arith

  latch_kept : (p q : Place) (u : Gets) → stage d.picks q ≡ stage d.picks p → signals_itself i q ≡ false → Kept p u
      → one_if (nat_lt (stage d.picks q) sampling && (signals_itself i q || (word_of u.things i).latch)) ≤ one_if (nat_lt (stage d.picks p) sampling && (signals_itself i p || (word_of x i).latch))
  latch_kept = grind arith

  others_fewer : (p q : Place) (u : Gets) → stage d.picks q ≡ stage d.picks p → finds q ≡ false → signals_itself i q ≡ false → Kept p u → others_at c i (later q u) ≤ others_at c i (before me s d x p)
  others_fewer = grind arith

  spun_less : (p q : Place) (u : Gets) → stage d.picks q ≡ stage d.picks p → signals_itself i q ≡ false → is_before_spin p ≡ true → Kept p u → spun c i (later q u) ≤ spun c i (before me s d x p)
  spun_less p q u same other first it = omega (arith, latch_kept p q u same other it, ap one_if first, one_at_most (is_before_spin q))

  pub hops : (p q : Place) (u : Gets) (short : Bool) (n k r : ℕ) → Leaves p short n k r → Comes q u short n k r → Kept p u → left c i (later q u) < left c i (before me s d x p)
  hops p q u true n k r from to it = to_poll c i (before me s d x p) (later q u) (record { short_after = to.short_here; less = omega (arith, from.above, to.below) })
  hops p q u false n k r from to it =
      let a = before me s d x p in
      let b = later q u in
      let same : stage d.picks q ≡ stage d.picks p = to.stage_here ∙ sym from.stage_there in
      goes_down c i a b (record {
        long_before = from.short_there;
        long_after = to.short_here;
        less = omega (arith, from.above, to.below, to.no_gate, ap (second_scan c) to.no_scan, mul_up (stagings q) (stagings p) (gates_from i 0 s) (omega (arith, from.stagings_there, to.stagings_here)));
        gates_kept = omega arith;
        owes = keeps_turns c i a b (grind (arith, stays p q u same from.no_pop from.no_share it, wanted_less, it, others_fewer, same, to.nothing_found, to.not_itself, spun_less, from.before_spin));
      })
