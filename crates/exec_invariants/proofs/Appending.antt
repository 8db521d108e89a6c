-- What the append of all in the hands to the global queue is to the machine, and why there is a place for each of them.
use Rattle.exec_invariants.{proofs.{Names.{◌≡◌, ℕ, zero, suc, ◌+◌, ◌<◌, ◌≤◌, inl, inr, Bool, true, false, Contains, List, [], ◌∷◌, ◌++◌, length, Option, None, Some, refl, sym, ap, subst, ◌∙◌, arith, option_to_list, slice_get, option_map, if◌then◌else◌, eq-eqb, length-append, map-append, Contains-append_cases, Contains-append_left, Contains-append_right, slice_get_within, Global, spare_places, Said, Runnable, Event, Turn, Plain, Plan, AfterPush, InGlobal, Place, appended_if, after_push, in_hand, Moved, Things, set_global, Shared, TaskSlot, Worker, Spot, after_push_of, Views, common_of, desk_of, own_of, tasks_of, things_with, by_number, not_same, or_right}, PushLeads.{ArrivesAt, CarriesNone, push_reaches}, Handed.{IsPushFor, PushNext, push_seen}, Flagging.none_of, Onces.{has_at_most, has_fewer}, Pushing.ordinary, Queued.hands_of, Queueing.{Reaches, as_many, poses, rehanded, whole_handed}, Thieves.in_both}, specs.{Sound.SoundAt, Whole.{HasOne, HasWhole, IsGenuine, IsWhole, Profile, may_let_go, runnables_in, stock, with_worker}, Works.{Steps, Suits}}}

-- WHERE EACH OF THESE IS BELOW A NUMBER, and none is there twice, they are so few

abbrev total : (ℕ → ℕ) → ℕ → ℕ
total f zero = 0
total f (suc n) = total f n + f n

total_few : (f : ℕ → ℕ) (n : ℕ) → ((t : ℕ) → t < n → f t ≤ 1) → total f n ≤ n
total_few f zero few = omega arith
total_few f (suc n) few = omega (arith, few n (omega arith), total_few f n (λ t less. few t (omega (arith, less))))

total_sum : (f g h : ℕ → ℕ) (n : ℕ) → ((t : ℕ) → h t ≡ f t + g t) → total h n ≡ total f n + total g n
total_sum f g h zero sum = refl
total_sum f g h (suc n) sum = omega (arith, total_sum f g h n sum, sum n)

total_none : (f : ℕ → ℕ) (n : ℕ) → ((t : ℕ) → t < n → f t ≡ 0) → total f n ≡ 0
total_none f zero none = refl
total_none f (suc n) none = omega (arith, none n (omega arith), total_none f n (λ t less. none t (omega (arith, less))))

-- of one runnable there is one
total_one : (r : Runnable) (n : ℕ) → r.task.0 < n → total (λ t. runnables_in t (r ∷ [])) n ≡ 1
total_one r zero less = absurd (omega (arith, less))
total_one r (suc n) less =
    by_number r.task.0 n
    (λ other.
    let here : runnables_in n (r ∷ []) ≡ 0 = none_of n r (not_same r.task.0 n other) in
    omega (arith, here, total_one r n (omega (arith, less, other))))
    (λ same.
    let here : runnables_in n (r ∷ []) ≡ 1 = rw (eq-eqb r.task.0 n same) refl in
    omega (arith, here, total_none (λ t. runnables_in t (r ∷ [])) n (λ t under. none_of t r (not_same r.task.0 t (λ is. absurd (omega (arith, under, same, is)))))))

total_all : (rs : List Runnable) (n : ℕ) → ((r : Runnable) → Contains rs r → r.task.0 < n) → total (λ t. runnables_in t rs) n ≡ length rs
total_all [] n below = total_none (λ t. runnables_in t []) n (λ t less. refl)
total_all (r ∷ rs) n below =
    omega (
      arith,
      total_sum (λ t. runnables_in t (r ∷ [])) (λ t. runnables_in t rs) (λ t. runnables_in t (r ∷ rs)) n (λ t. in_both t (r ∷ []) rs),
      total_one r n (below r (0, omega arith, refl)),
      total_all rs n (λ x has. below x (Contains-append_right (r ∷ []) rs x has)),
    )

pub few_enough : (rs : List Runnable) (n : ℕ) → ((r : Runnable) → Contains rs r → r.task.0 < n) → ((t : ℕ) → t < n → runnables_in t rs ≤ 1) → length rs ≤ n
few_enough rs n below once = omega (arith, total_all rs n below, total_few (λ t. runnables_in t rs) n once)

-- none of that task is among these
pub not_among : (t : ℕ) (rs : List Runnable) → ((r : Runnable) → Contains rs r → r.task.0 ≡ t → ⊥) → runnables_in t rs ≡ 0
not_among t [] none = refl
not_among t (r ∷ rs) none =
    omega (arith, in_both t (r ∷ []) rs, none_of t r (not_same r.task.0 t (none r (0, omega arith, refl))), not_among t rs (λ x has. none x (Contains-append_right (r ∷ []) rs x has)))

module _ {B : Type 0} where
  -- all that would be in the global queue then
  abbrev pub all_there : Worker → Shared B → List Runnable
  all_there w s = (w.loot.values ++ option_to_list w.hand) ++ s.global.values

  pub are_genuine : (b : AfterPush) (w : Worker) (s : Shared B) → SoundAt (Place.Global InGlobal.Append b) w s → HasWhole w s → (r : Runnable) → Contains (all_there w s) r → IsGenuine s.tasks.items r
  are_genuine b w s sound has r among =
      elim (Contains-append_cases (w.loot.values ++ option_to_list w.hand) s.global.values r among) [
        | inl held ↦ elim (Contains-append_cases w.loot.values (option_to_list w.hand) r held) [ inl loot ↦ sound.stolen r loot | inr hand ↦ ordinary (Place.Global InGlobal.Append b) w s sound refl r hand ]
        | inr there ↦ has.whole.queued_there r there
      ]

  -- each of them once
  each_once : (b : AfterPush) (w : Worker) (s : Shared B) → SoundAt (Place.Global InGlobal.Append b) w s → HasWhole w s → (t : ℕ) → runnables_in t (all_there w s) ≤ 1
  each_once b w s sound has t = by (slice_get s.tasks.items t) refl
    where
      genuine : (r : Runnable) → Contains (all_there w s) r → IsGenuine s.tasks.items r
      genuine = are_genuine b w s sound has

      by_home : (slot : TaskSlot B) → slice_get s.tasks.items t ≡ Some slot → (o : Option ℕ) → slot.home ≡ o → runnables_in t (all_there w s) ≤ 1
      by_home slot there None home =
          let total_of : (has.others.runnables t + runnables_in t (hands_of w)) + stock t s ≤ 1 = has_at_most (may_let_go s) slot.cell.phase ((has.others.runnables t + runnables_in t (hands_of w)) + stock t s) (has.whole.runnables t slot there home) in
          omega (arith, total_of, in_both t (w.loot.values ++ option_to_list w.hand) s.global.values, in_both t w.loot.values (option_to_list w.hand), in_both t (option_to_list w.hand) w.loot.values)
      by_home slot there (Some i) home =
          let none : runnables_in t (all_there w s) ≡ 0 =
          not_among t (all_there w s) (λ r among same.
          let it = genuine r among in
          let is : it.slot ≡ slot = cc (subst (λ n. slice_get s.tasks.items n ≡ Some it.slot) same it.there, there) in
          cc (sym it.ordinary ∙ ap (λ (x : TaskSlot B). x.home) is ∙ home)) in
          omega (arith, none)

      by : (o : Option (TaskSlot B)) → slice_get s.tasks.items t ≡ o → runnables_in t (all_there w s) ≤ 1
      by None nothing =
          let none : runnables_in t (all_there w s) ≡ 0 =
          not_among t (all_there w s) (λ r among same.
          let it = genuine r among in
          cc (subst (λ n. slice_get s.tasks.items n ≡ Some it.slot) same it.there, nothing)) in
          omega (arith, none)
      by (Some slot) there = by_home slot there slot.home refl

  -- so each has a place
  pub all_fit : (b : AfterPush) (w : Worker) (s : Shared B) → SoundAt (Place.Global InGlobal.Append b) w s → HasWhole w s → s.global.closed ≡ false → length w.loot.values + length (option_to_list w.hand) ≤ spare_places s.global
  all_fit b w s sound has opened =
      let most : length (all_there w s) ≤ length s.tasks.items =
      few_enough (all_there w s) (length s.tasks.items)
      (λ r among. let it = are_genuine b w s sound has r among in slice_get_within s.tasks.items r.task.0 it.slot it.there)
      (λ t less. each_once b w s sound has t) in
      omega (arith, most, has.whole.places opened, length-append (w.loot.values ++ option_to_list w.hand) s.global.values, length-append w.loot.values (option_to_list w.hand))

pub hand_seen : (o : Option Runnable) → in_hand (option_map (λ r. r.task.0) o) ≡ tasks_of (option_to_list o)
hand_seen None = refl
hand_seen (Some r) = refl

module _ {B L : Type 0} (left : B → L) (spot : L → Option Said → Spot) (b : AfterPush) (w w' : Worker) (s s' : Shared B) (e : Event) where
  pub appended : SoundAt (Place.Global InGlobal.Append b) w s → HasWhole w s → PushNext left spot b w s → e ≡ Turn → w' ≡ record w { place = (if s.global.closed then after_push_of b w else Place.Global InGlobal.LoadGlobalSet b); hand = None; loot = record w.loot { values = [] } }
      → s' ≡ record s { global = record s.global { values = (if s.global.closed then s.global.values else s.global.values ++ (w.loot.values ++ option_to_list w.hand)) } } → Steps left spot w s e w' s'
  appended sound has following turn goes global = by s.global.closed refl goes global
    where
      q : Place
      q = Place.Global InGlobal.Append b

      all : List Runnable
      all = w.loot.values ++ option_to_list w.hand

      next : Bool → Place
      next gone = if gone then after_push_of b w else Place.Global InGlobal.LoadGlobalSet b

      v : Bool → Worker
      v gone = record w { place = next gone; hand = None; loot = record w.loot { values = [] } }

      g : Bool → Global Runnable
      g gone = record s.global { values = (if gone then s.global.values else s.global.values ++ all) }

      carries : (gone : Bool) → CarriesNone w (v gone) s
      carries = grind arith

      to : (gone : Bool) → Reaches q (next gone) w (v gone) s s
      to true =
          let arrives_at : ArrivesAt w s s = λ p armed queue aims batch lets_go phased.
          record { seated = rw armed sound.seated; queue = λ chair there. queue chair.queue (sound.queue chair there); aims = aims; batch = batch; batch_place = sound.batch_place; lets_go = lets_go; phased = phased } in
          let is : IsPushFor b q = record { callbacks = refl; closes = refl; closing = refl; spare = refl; bare = refl; held = λ x h. h; batch = λ ms h. h } in
          push_reaches q w (v true) s s arrives_at (carries true) b sound following.comes is refl refl refl refl
      to false =
          record {
            same = refl;
            quiet = λ h. sound.quiet h;
            around = record { seated = sound.seated; queue = sound.queue; aims = tt; batch = sound.batch; batch_place = sound.batch_place; lets_go = sound.lets_go; phased = sound.phased };
            carries = carries false (Place.Global InGlobal.LoadGlobalSet b) refl refl refl refl sound.pooled sound.serves sound.left sound.told;
          }

      -- what it leads to there
      seen : (gone : Bool) (p : Plan) (vs : Views) → Suits p vs w s → ◌≡◌ {A = Moved Things} (record { event = Turn; choice = Plain; desk = record (desk_of w) { place = (if gone then after_push p.config w.index (own_of w) (common_of left spot p vs s) b (desk_of w) else Place.Global InGlobal.LoadGlobalSet b); hand = None; loot = [] }; thing = set_global (things_with vs s) (appended_if gone (tasks_of s.global.values) (tasks_of w.loot.values ++ in_hand (option_map (λ r. r.task.0) w.hand))) })
          (record { event = Turn; choice = Plain; desk = desk_of (v gone); thing = set_global (things_with vs s) (tasks_of (g gone).values) })
      seen gone p vs suits =
          -- what stands in the queue then, as it is seen
          let shows : appended_if gone (tasks_of s.global.values) (tasks_of w.loot.values ++ in_hand (option_map (λ r. r.task.0) w.hand)) ≡ tasks_of (g gone).values = grind (arith, hand_seen, map-append) in
          rw (push_seen left spot p vs q w s sound suits.config b (following.seen p vs suits)) (ap (λ ts. record { event = Turn; choice = Plain; desk = desk_of (v gone); thing = set_global (things_with vs s) ts }) shows)

      done : (gone : Bool) → s.global.closed ≡ gone → ((others : Profile) → IsWhole (with_worker others w) s → IsWhole (with_worker others (v gone)) (record s { global = g gone })) → Steps left spot w s e (v gone) (record s { global = g gone })
      done gone is whole =
          rehanded left spot q w (v gone) s (g gone) e sound turn (record { same = refl; read = sound.time.read; asleep = sound.time.asleep }) refl refl refl (to gone) whole
          (λ p vs suits. rw is (seen gone p vs suits))

      by : (gone : Bool) → s.global.closed ≡ gone → w' ≡ v gone → s' ≡ record s { global = g gone } → Steps left spot w s e w' s'
      by true is goes global =
          let fewer : (t others : ℕ) → (others + runnables_in t (hands_of (v true))) + stock t s ≤ (others + runnables_in t (hands_of w)) + stock t s = λ t others. omega arith in
          subst (λ z. Steps left spot w s e w' z) (sym global)
          (subst (λ z. Steps left spot w s e z (record s { global = g true })) (sym goes)
          (done true is (λ others before.
          whole_handed others w (v true) s (g true) refl refl (poses q w (v true) s sound (to true).same refl refl (record { batch = refl; letters = refl; left = refl }))
          (λ t slot found home one. has_fewer (may_let_go s) slot.cell.phase ((others.runnables t + runnables_in t (hands_of w)) + stock t s) ((others.runnables t + runnables_in t (hands_of (v true))) + stock t s) (or_right s.set.closed s.global.closed is) (fewer t (others.runnables t)) one)
          (λ t more. fewer t (others.runnables t)) before.queued_there before)))
      by false is goes global =
          let moved : (t others : ℕ) → (others + runnables_in t (hands_of w)) + stock t s ≡ (others + runnables_in t (hands_of (v false))) + stock t (record s { global = g false }) = λ t others.
          omega (arith, in_both t s.global.values all, in_both t w.loot.values (option_to_list w.hand), in_both t (option_to_list w.hand) w.loot.values) in
          let genuine : (r : Runnable) → Contains (s.global.values ++ all) r → IsGenuine s.tasks.items r = λ r among.
          elim (Contains-append_cases s.global.values all r among) as (λ x. IsGenuine s.tasks.items r) [
            | inl there ↦ are_genuine b w s sound has r (Contains-append_right all s.global.values r there)
            | inr mine ↦ are_genuine b w s sound has r (Contains-append_left all s.global.values r mine)
          ] in
          subst (λ z. Steps left spot w s e w' z) (sym global)
          (subst (λ z. Steps left spot w s e z (record s { global = g false })) (sym goes)
          (done false is (λ others before.
          whole_handed others w (v false) s (g false) refl refl (poses q w (v false) s sound (to false).same refl refl (record { batch = refl; letters = refl; left = refl }))
          (λ t slot found home one. subst (HasOne (may_let_go s) slot.cell.phase) (moved t (others.runnables t)) one)
          (λ t more. as_many _ _ (moved t (others.runnables t))) genuine before)))
