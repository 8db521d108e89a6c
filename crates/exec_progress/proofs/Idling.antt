-- A step from one place of the search, the scan or the look to another: no sign comes or goes but by what is stolen, and no stage of the turn is ahead.
use Rattle.std.proofs.{Common.{◌≡◌, ℕ, ◌+◌, ◌≤◌, ◌<◌, Bool, true, false, List, if◌then◌else◌, refl, sym, subst, arith}, lemmas.List.set-get_or}
use Rattle.exec_words.specs.{Idle.Idle, Queue.Queue}
use Rattle.exec_machine.specs.{declared.{config.Configuration.Configuration, event.Event.TheVariants.Turn, state.Next.Next}, World.{Common, Own as Books}, Closing.after_next}
use Rattle.exec_moves.specs.{declared.{idling.{InLook.InLook, InScan.InScan, InSearch.InSearch}, place.Place.Place}, Seen.next_at, State.{Desk, Things, does, no_queue, queue_of}, Thing.set_queue}
use Rattle.exec_progress.{specs.{Effort.{gates_left, is_short, scans_again, second_scan, steps_left}, Going.{Falls, stands, seen}, Owed.{finds, is_before_spin, pops_own, signals_itself, stage, takes_share, wanted}, Ranks.rank}, proofs.Tools.{Now, before, goes_down, keeps_turns}}

-- what all these places have in common
pub record IsIdling (i : ℕ) (s : Common) (p : Place) : Type 0 where
  pub long : is_short p ≡ false
  pub none_ahead : (n : ℕ) → stage n p ≡ 0
  pub pops : pops_own p ≡ false
  pub shares : takes_share p ≡ false
  pub found : finds p ≡ false
  pub itself : signals_itself i p ≡ false
  pub spins_yet : is_before_spin p ≡ true
  pub gates : gates_left i s p ≡ 0
  pub next_free : next_at p ≡ Next.Free

pub in_search : (i : ℕ) (s : Common) (p : InSearch) → IsIdling i s (Place.Search p)
in_search i s p = record { long = refl; none_ahead = λ n. refl; pops = refl; shares = refl; found = refl; itself = refl; spins_yet = refl; gates = omega arith; next_free = refl }

pub in_scan : (i : ℕ) (s : Common) (p : InScan) → IsIdling i s (Place.Scan p)
in_scan i s p = record { long = refl; none_ahead = λ n. refl; pops = refl; shares = refl; found = refl; itself = refl; spins_yet = refl; gates = omega arith; next_free = refl }

pub in_look : (i : ℕ) (s : Common) (p : InLook) → IsIdling i s (Place.Look p)
in_look i s p = record { long = refl; none_ahead = λ n. refl; pops = refl; shares = refl; found = refl; itself = refl; spins_yet = refl; gates = omega arith; next_free = refl }

module _ (c : Configuration) (i : ℕ) (me : Books) (s : Common) (d : Desk) (x : Things) where
  -- the desk and the things after such a step
  abbrev pub desk_to : Place → ℕ → List ℕ → Bool → Desk
  desk_to q r l v = record d { place = q; rng = r; loot = l; searching = v }

  abbrev pub with_these : List (Queue ℕ) → Idle → Things
  with_these qs z = record x { queues = qs; idle = z }

  abbrev pub height : Desk → Things → Place → ℕ
  height e y p = rank c i e y p + second_scan c (scans_again c e y p)

  pub idles : (p q : Place) (r : ℕ) (l : List ℕ) (v : Bool) (qs : List (Queue ℕ)) (z : Idle) → IsIdling i s p → IsIdling i s q
      → height (desk_to q r l v) (with_these qs z) q < height (stands p d) x p
      → (1 ≤ wanted c i (seen p me) s (desk_to q r l v) (with_these qs z) → 1 ≤ wanted c i (seen p me) s (stands p d) x)
      → Falls c i (seen p me) s (stands p d) x (does Turn (desk_to q r l v) (with_these qs z))
  idles p q r l v qs z from to less wants quiet =
      let a = before me s d x p in
      let b : Now = record { me = record me { next = Next.Free; serving = false }; s = s; d = desk_to q r l v; x = with_these qs z } in
      subst (λ n. steps_left c i b.me (after_next s i n) b.d b.x < steps_left c i a.me a.s a.d a.x) (sym from.next_free) (
      goes_down c i a b (record {
        long_before = from.long;
        long_after = to.long;
        less = omega (arith, less, from.gates, to.gates);
        gates_kept = omega arith;
        owes = keeps_turns c i a b (grind (arith, wants));
      }))

  abbrev pub FallsTo : Place → ℕ → List ℕ → Bool → Things → Place → Type 0
  FallsTo p r l v y q = Falls c i (seen p me) s (stands p d) x (does Turn (desk_to q r l v) y)

  -- with nothing taken, and a queue that was but loaded
  pub loads : (j : ℕ) (p q : Place) (r : ℕ) → IsIdling i s p → IsIdling i s q → height (desk_to q r d.loot d.searching) x q < height (stands p d) x p
      → FallsTo p r d.loot d.searching (set_queue j x (queue_of x j)) q
  loads j p q r from to less =
      subst (λ qs. FallsTo p r d.loot d.searching (record x { queues = qs }) q) (sym (set-get_or x.queues j no_queue))
      (idles p q r d.loot d.searching x.queues x.idle from to less (λ k. k))

  -- or another number of searchers
  pub counts : (p q : Place) (v : Bool) (z : Idle) → IsIdling i s p → IsIdling i s q → height (desk_to q d.rng d.loot v) (record x { idle = z }) q < height (stands p d) x p
      → FallsTo p d.rng d.loot v (record x { idle = z }) q
  counts p q v z from to less = idles p q d.rng d.loot v x.queues z from to less (λ k. k)

-- what is chosen by a test
pub chosen : {X : Type 0} (P : X → Type 0) (b : Bool) (m n : X) → (b ≡ true → P m) → (b ≡ false → P n) → P (if b then m else n)
chosen P true m n h k = h refl
chosen P false m n h k = k refl
