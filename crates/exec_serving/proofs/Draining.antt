-- What comes out of the wheel as it goes on is due in order.
use Rattle.std.{proofs.{Common.{◌≡◌, ◌⊎◌, ℕ, zero, suc, ◌+◌, ◌-◌, ◌%◌, ◌<◌, ◌≤◌, ◌==◌, Bool, true, false, List, [], ◌∷◌, ◌++◌, map, Option, Some, None, refl, sym, ap, subst, ◌∙◌, arith, inl, inr, nat_le, nat_lt, if◌then◌else◌}, lemmas.{Bool.{cases_lt, Decides.nat_tests}, List.{append_assoc, append-nil}}, Math.Nat.mod-eq_of_lt}, specs.List.{AllByRecursion, list_any, range_with_len}}
use Rattle.exec_base.specs.{Slab.Slab, declared.slab.Id.Id}
use Rattle.exec_time.{specs.{Wheel.{Wheel, least_active, tick_at as tick_now}, Turning.{advanced, ids_in, is_full_turn, slots_passed, turned, turned_out}}, proofs.Ranges.slots_apart}
use Rattle.exec_waiters.specs.{States.{waiter_at}, declared.{waiter.{Entry.Entry, Waiter.Waiter}, waiter_id.WaiterId.WaiterId}}
use Rattle.exec_driver.specs.{Driving.Driving, Punctual.IsPunctual, Steps.{all_due, fallen_due}}
use Rattle.exec_lists.specs.Lists.{Lists, is_among}
use Rattle.exec_machine.specs.{declared.config.Configuration.Configuration}
use Rattle.exec_parts.specs.declared.parts.{mail.Reply.Reply, worker.Moments.Moments}
use Rattle.exec_invariants.{specs.{Due.IsWheelAt, Ordered.{HasCome, IsOrdered, IsToldBefore, Pairwise, StandsBefore, StandsIn, tick_at, turn_of, went_round}}, proofs.Orders.{IsPartOf, all_append, all_part, pairs_append, pairs_part, pairs_where, part_self}}

-- THE LIST of what is due is a part of what came out

abbrev pub wrap : Id → WaiterId
wrap id = record { 0 = id }

pub part_beside : {X : Type 0} (xs zs ys : List X) (y : X) → IsPartOf zs (xs ++ ys) → IsPartOf zs (xs ++ y ∷ ys)
part_beside [] zs ys y part = inl part
part_beside (x ∷ xs) zs ys y (inl part) = inl (part_beside xs zs ys y part)
part_beside (x ∷ xs) zs ys y (inr part) = inr (part.0, part.1, part_beside xs part.0 ys y part.2)

falls : (id : WaiterId) (o : Option (Waiter Reply Reply)) (l : Lists) → ((fallen_due id o l).due ≡ l.due) ⊎ ((fallen_due id o l).due ≡ l.due ++ id ∷ [])
falls = grind arith

pub due_part : (s : Slab (Entry Reply Reply)) (ids : List Id) (l : Lists) → IsPartOf (all_due s ids l).due (l.due ++ map wrap ids)
due_part s [] l = subst (IsPartOf l.due) (sym (append-nil l.due)) (part_self l.due)
due_part s (id ∷ ids) l =
    let rest = due_part s ids (fallen_due (wrap id) (waiter_at s id) l) in
    grind (arith, falls, part_beside, append_assoc)

all_wrapped : (P : Id → Type 0) (ids : List Id) → AllByRecursion P ids → AllByRecursion (λ id. P id.0) (map wrap ids)
all_wrapped P [] all = tt
all_wrapped P (id ∷ ids) all = (all.0, all_wrapped P ids all.1)

pairs_wrapped : (R : Id → Id → Type 0) (ids : List Id) → Pairwise R ids → Pairwise (λ a b. R a.0 b.0) (map wrap ids)
pairs_wrapped R [] all = tt
pairs_wrapped R (id ∷ ids) all = (all_wrapped (R id) ids all.0, pairs_wrapped R ids all.1)

-- THE BUCKETS that come out, one after the other, where the turn of what stands in each is known

-- from this turn on, and by now; and in order
pub record ComeOut (numbers : List ℕ) (s : Slab (Entry Reply Reply)) (round : Bool) (slots now p : ℕ) (ids : List Id) : Type 0 where
  pub turns : AllByRecursion (λ id. (t : ℕ) → tick_at s id ≡ Some t → (p ≤ turn_of round slots t) × (t ≤ now)) ids
  pub order : Pairwise (IsToldBefore round slots numbers s) ids

module _ (numbers : List ℕ) (s : Slab (Entry Reply Reply)) (w : Wheel) (round : Bool) (now low high : ℕ)
    (stands : (slot : ℕ) → AllByRecursion (StandsIn s w.slots slot) (w.bucket slot)) (buckets : (slot : ℕ) → Pairwise (StandsBefore numbers s) (w.bucket slot))
    (turn_is : (p : ℕ) → low ≤ p → p < high → (id : Id) (t : ℕ) → tick_at s id ≡ Some t → t % w.slots ≡ p % w.slots → (turn_of round w.slots t ≡ p) × (t ≤ now)) where
  pub come_out : (n p : ℕ) → low ≤ p → p + n ≤ high → ComeOut numbers s round w.slots now p (ids_in w (map (λ t. t % w.slots) (range_with_len p n)))
  come_out zero p from to = record { turns = tt; order = tt }
  come_out (suc n) p from to =
      let ids = w.bucket (p % w.slots) in
      let rest = come_out n (p + 1) (omega (arith, from)) (omega (arith, to)) in
      let here : AllByRecursion (λ id. (t : ℕ) → tick_at s id ≡ Some t → (turn_of round w.slots t ≡ p) × (t ≤ now)) ids =
      all_part (λ id h t at. turn_is p from (omega (arith, to)) id t at (h.slot_is t at)) ids ids (part_self ids) (stands (p % w.slots)) in
      record {
        turns = all_append (λ id. (t : ℕ) → tick_at s id ≡ Some t → (p ≤ turn_of round w.slots t) × (t ≤ now)) ids (ids_in w (map (λ t. t % w.slots) (range_with_len (p + 1) n)))
            (all_part (λ id h t at. let it = h t at in (omega (arith, it.0), it.1)) ids ids (part_self ids) here)
            (all_part (λ id h t at. let it = h t at in (omega (arith, it.0), it.1)) _ _ (part_self _) rest.turns);
        order = pairs_append (IsToldBefore round w.slots numbers s) ids (ids_in w (map (λ t. t % w.slots) (range_with_len (p + 1) n)))
            (pairs_where (λ a b x y h t u at bt. inr ((x t at).0 ∙ sym (y u bt).0, h t u at bt)) ids here (buckets (p % w.slots)))
            rest.order
            (all_part (λ a x. all_part (λ b y t u at bt. inl (before (turn_of round w.slots t) (turn_of round w.slots u) (x t at).0 (y u bt).0)) _ _ (part_self _) rest.turns) ids ids (part_self ids) here);
      }
    where
      before : (a b : ℕ) → a ≡ p → p + 1 ≤ b → a < b
      before a b is more = omega (arith, is, more)

-- THE WHEEL goes on

-- a bucket stays, or is empty then
pub record WentOn (w w' : Wheel) : Type 0 where
  pub current : w.current ≤ w'.current
  pub slots : w'.slots ≡ w.slots
  pub bucket : (slot : ℕ) → (w'.bucket slot ≡ w.bucket slot) ⊎ (w'.bucket slot ≡ [])

module _ (round : Bool) (numbers : List ℕ) (s : Slab (Entry Reply Reply)) (w : Wheel) (es : List WaiterId) (o : IsOrdered round numbers s w es []) where
  pub goes_on : (w' : Wheel) (ds : List WaiterId) → WentOn w w' → w'.ready ≡ [] → AllByRecursion (λ id. HasCome s w'.current id.0) ds → Pairwise (λ a b. IsToldBefore round w.slots numbers s a.0 b.0) ds → IsOrdered round numbers s w' es ds
  goes_on w' ds on drained come told =
      record {
        drained = drained;
        reach = λ id t at. let was = o.reach id t at in rw on.slots (omega (arith, was, on.current));
        rise = o.rise;
        newer = o.newer;
        stands = λ slot. rw on.slots (elim (on.bucket slot) [ inl same ↦ rw same (o.stands slot) | inr none ↦ rw none tt ]);
        buckets = λ slot. elim (on.bucket slot) [ inl same ↦ rw same (o.buckets slot) | inr none ↦ rw none tt ];
        come = come;
        told = subst (λ n. Pairwise (λ a b. IsToldBefore round n numbers s a.0 b.0) ds) (sym on.slots) told;
      }

  -- so does it to this tick, after which this is ready
  record Turns (v : Wheel) : Type 0 where
    on : WentOn w v
    come : AllByRecursion (HasCome s v.current) v.ready
    told : Pairwise (IsToldBefore round w.slots numbers s) v.ready

  out_ordered : (v : Wheel) (l : Lists) → l.due ≡ [] → Turns v → IsOrdered round numbers s (record v { ready = [] }) es (all_due s v.ready l).due
  out_ordered v l none turns =
      let ds = (all_due s v.ready l).due in
      let part : IsPartOf ds (map wrap v.ready) = subst (λ xs. IsPartOf ds (xs ++ map wrap v.ready)) none (due_part s v.ready l) in
      goes_on (record v { ready = [] }) ds (record { current = turns.on.current; slots = turns.on.slots; bucket = turns.on.bucket }) refl
      (all_part (λ id h. h) (map wrap v.ready) ds part (all_wrapped (HasCome s v.current) v.ready turns.come))
      (pairs_part (λ a b h. h) (map wrap v.ready) ds part (pairs_wrapped (IsToldBefore round w.slots numbers s) v.ready turns.told))

  -- where nothing comes out
  turns_none : (v : Wheel) → WentOn w v → v.ready ≡ w.ready → Turns v
  turns_none = grind arith

  turns_still : Turns w
  turns_still = turns_none w (record { current = omega arith; slots = refl; bucket = λ slot. inl refl }) refl

  module _ (tick : ℕ) (later : w.current < tick) (ahead : (id : Id) (t : ℕ) → tick_at s id ≡ Some t → w.current < t) where
    one_slot : (t p : ℕ) → w.current < t → t < w.current + w.slots → w.current < p → p < w.current + w.slots → t % w.slots ≡ p % w.slots → t ≡ p
    one_slot t p after within after' within' same =
        let some : 0 < w.slots = omega (arith, after, within) in
        elim (cases_lt t p) [
          | inl less ↦ absurd (slots_apart w.slots t p some less (omega (arith, within', after)) same)
          | inr more ↦
              elim (cases_lt p t) [
                | inl less ↦ absurd (slots_apart w.slots p t some less (omega (arith, within, after')) (sym same))
                | inr more' ↦ omega (arith, more, more')
              ]
        ]

    whole : nat_le w.slots (tick - w.current) ≡ true → (p : ℕ) → 0 ≤ p → p < w.slots → (id : Id) (t : ℕ) → tick_at s id ≡ Some t → t % w.slots ≡ p % w.slots → (turn_of true w.slots t ≡ p) × (t ≤ tick)
    whole is p from less id t at same =
        let more : w.slots ≤ tick - w.current = grind (arith, nat_tests) in
        (same ∙ mod-eq_of_lt less, omega (arith, o.reach id t at, more, later))

    part : nat_le w.slots (tick - w.current) ≡ false → (p : ℕ) → w.current + 1 ≤ p → p < w.current + 1 + (tick - w.current) → (id : Id) (t : ℕ) → tick_at s id ≡ Some t → t % w.slots ≡ p % w.slots → (turn_of false w.slots t ≡ p) × (t ≤ tick)
    part is p from less id t at same =
        let fewer : tick - w.current < w.slots = grind (arith, nat_tests) in
        let it : t ≡ p = one_slot t p (ahead id t at) (o.reach id t at) (omega (arith, from)) (omega (arith, less, fewer, later)) same in
        (it, omega (arith, it, less, later))

    comes_out : (b : Bool) → is_full_turn w tick ≡ b → ComeOut numbers s b w.slots tick 0 (ids_in w (slots_passed w tick))
    unfolding slots_passed
    comes_out true is = rw is (come_out numbers s w true tick 0 w.slots o.stands o.buckets (whole is) w.slots 0 (omega arith) (omega arith))
    comes_out false is =
        let out = come_out numbers s w false tick (w.current + 1) (w.current + 1 + (tick - w.current)) o.stands o.buckets (part is) (tick - w.current) (w.current + 1) (omega arith) (omega arith) in
        rw is (record { turns = all_part (λ id h t at. (omega arith, (h t at).1)) _ _ (part_self _) out.turns; order = out.order })

    turns_out : (b : Bool) (least : ℕ) → round ≡ is_full_turn w tick → Turns (if b then (record { wheel = record w { current = tick }; answer = None }) else turned_out w tick).wheel
    turns_out true least same = turns_none (record w { current = tick }) (record { current = omega (arith, later); slots = refl; bucket = λ slot. inl refl }) refl
    turns_out false least same =
        let out = comes_out (is_full_turn w tick) refl in
        let ids = ids_in w (slots_passed w tick) in
        record {
          on = record {
            current = omega (arith, later);
            slots = refl;
            bucket = λ slot. elim (list_any (λ x. x == slot) (slots_passed w tick)) as (λ b. ((if b then [] else w.bucket slot) ≡ w.bucket slot) ⊎ ((if b then [] else w.bucket slot) ≡ [])) [ true ↦ inr refl | false ↦ inl refl ];
          };
          come = subst (λ xs. AllByRecursion (HasCome s tick) (xs ++ ids)) (sym o.drained) (all_part (λ id h t at. (h t at).1) ids ids (part_self ids) out.turns);
          told = subst (λ b. Pairwise (IsToldBefore b w.slots numbers s) (w.ready ++ ids)) (sym same) (subst (λ xs. Pairwise (IsToldBefore (is_full_turn w tick) w.slots numbers s) (xs ++ ids)) (sym o.drained) out.order);
        }

    turns_by : (least : Option ℕ) → round ≡ is_full_turn w tick → Turns (turned w tick least).wheel
    turns_by None same = turns_none (record w { current = tick; bucket = λ _. [] }) (record { current = omega (arith, later); slots = refl; bucket = λ slot. inr refl }) refl
    turns_by (Some least) same = turns_out (nat_lt tick least) least same

  pub advance_ordered : (now : ℕ) (l : Lists) → l.due ≡ [] → ((id : Id) (t : ℕ) → tick_at s id ≡ Some t → w.current < t) → (w.current < tick_now w now → round ≡ is_full_turn w (tick_now w now))
      → IsOrdered round numbers s (record (advanced w now).wheel { ready = [] }) es (all_due s (advanced w now).wheel.ready l).due
  unfolding advanced
  advance_ordered now l none ahead same = out_ordered (advanced w now).wheel l none (by (nat_le (tick_now w now) w.current) refl)
    where
      by : (b : Bool) → nat_le (tick_now w now) w.current ≡ b → Turns (advanced w now).wheel
      by true is = rw is turns_still
      by false is = let later : w.current < tick_now w now = grind (arith, nat_tests) in rw is (turns_by (tick_now w now) later ahead (least_active w) (same later))

-- The machine's wheel goes round where this one does.
pub round_so : (c : Configuration) (m : Moments) (w : Wheel) → IsWheelAt c m.start m.before w → w.current < tick_now w m.sampled → went_round c m ≡ is_full_turn w (tick_now w m.sampled)
round_so = grind arith

pub ahead_of : (d : Driving Reply Reply) → IsPunctual d → d.lists.due ≡ [] → (id : Id) (t : ℕ) → tick_at d.requests id ≡ Some t → d.wheel.current < t
ahead_of d punctual none id t at = (punctual.ahead (wrap id) t at (ap (is_among (wrap id)) none)).0
