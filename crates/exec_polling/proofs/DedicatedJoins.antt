-- A task and a worker join whose root it is: what holds of all tasks and seats then, and of the balances.
use Rattle.std.{proofs.{Common.{◌≡◌, ◌≢◌, ◌⊎◌, inl, inr, ℕ, zero, suc, ◌+◌, ◌<◌, ◌≤◌, ◌^◌, ◌&&◌, sum_by, arith, true, false, not, Contains, [], ◌∷◌, ◌++◌, length, map, Some, None, refl, sym, ap, subst, ◌∙◌, slice_get}, lemmas.{Bool.{false≢true, Decides.nat_tests}, List.{length-append, map-append, Sums.{sum_by-append, sum_by-cons}, length-map}, Option.slice_get_within}}, specs.List.range_with_len}
use Rattle.exec_words.specs.{Idle.is_in, Queue.tail_of}
use Rattle.exec_ring.specs.Stores.{Same}
use Rattle.exec_task.specs.{Phases.{is_polled}, declared.runnable.Runnable.Runnable}
use Rattle.exec_machine.specs.declared.{state.Waiting.Waiting}
use Rattle.exec_parts.{specs.{declared.parts.{seat.Seat.Seat as Chair, shared.Shared.Shared, task_slot.TaskSlot.TaskSlot}, MailPosts.IsMailbox, Phased.is_complete, Records.IsFreshSeat}, proofs.Facts.{by_number, same_Some}}
use Rattle.exec_invariants.{specs.{Carried.HasRoom, Drained.{HaveLeft, IsBefore, IsHeldOnce, IsOver, IsPool, has_gone, in_set}, Holding.{IsHolding, Mail, awaited_in, box_of, holder_of, nap_of, thing_of}, Places.{Drops, no_drops, one_if}, Sound.{AreHome, AreResting}, Spares.{SparesChair, SparesMore, SparesPolled}, Whole.{IsGenuine, IsWhole, Profile, claimed_count, duties_of, hands_of, queued, runnables_in, stock}}, proofs.{Aside.{spared}, Dedicated.home_within}}
use Rattle.exec_polling.proofs.{BoxJoined.holding_boxed, HoldJoined.holding_joined, Outsiders.spares_self, SpawnLists.{found_again, found_which}}

-- THE PROFILE: the newcomer has nothing
pub record HasNewcomer (i : ℕ) (x y : Profile) : Type 0 where
  pub runnables : (t : ℕ) → y.runnables t ≡ x.runnables t
  pub polls : (t : ℕ) → y.polls t ≡ x.polls t
  pub claims : (j : ℕ) → y.claims j ≡ x.claims j
  pub counts : y.counts ≡ x.counts
  pub published : (j : ℕ) → j ≢ i → y.published j ≡ x.published j
  pub clears : (t : ℕ) → y.clears t ≡ x.clears t
  pub polled_by : (j : ℕ) → j ≢ i → y.polled_by j ≡ x.polled_by j
  pub drops_by : (j : ℕ) → j ≢ i → y.drops_by j ≡ x.drops_by j
  pub no_drops_by : y.drops_by i ≡ no_drops
  pub mail : (m : Mail) → y.mail m ≡ x.mail m
  pub wakes : (j t : ℕ) → j ≢ i → y.wakes j t ≡ x.wakes j t
  pub no_wakes : (t : ℕ) → y.wakes i t ≡ 0

same_sum : (f g : ℕ → ℕ) (a n : ℕ) → ((j : ℕ) → j < a + n → g j ≡ f j) → sum_by g (range_with_len a n) ≡ sum_by f (range_with_len a n)
same_sum f g a zero same = refl
same_sum f g a (suc n) same = grind (arith, sum_by-cons, same_sum f g (a + 1) n (λ j within. same j (omega (arith, within))))

module _ {B : Type 0} where
  pub record JoinsRoot (s s' : Shared B) : Type 0 where
    pub new : TaskSlot B
    pub items : s'.tasks.items ≡ s.tasks.items ++ new ∷ []
    pub home : new.home ≡ Some (length s.seats.items)
    pub number : new.cell.number ≡ record { 0 = length s.tasks.items }
    pub going : is_complete new.cell.phase ≡ false
    pub held : new.held.items ≡ []
    pub waits : new.waiting ≡ Waiting.Nothing
    pub chair : Chair
    pub fresh : IsFreshSeat false chair
    pub seats : s'.seats.items ≡ s.seats.items ++ chair ∷ []
    pub places : length s'.tasks.items ≤ s'.global.places
    pub few : length s'.tasks.items ≤ 2 ^ 32
    pub store : Same s.store s'.store
    pub kept : s' ≡ record s { seats = s'.seats; tasks = s'.tasks; global = record s.global { places = s'.global.places }; store = s'.store }

  module _ (s s' : Shared B) (it : JoinsRoot s s') where
    abbrev pub last : ℕ
    last = length s.seats.items

    again : (k : ℕ) (o : TaskSlot B) → slice_get s.tasks.items k ≡ Some o → slice_get s'.tasks.items k ≡ Some o
    again k o found = ap (λ xs. slice_get xs k) it.items ∙ found_again s.tasks.items (it.new ∷ []) k o found

    which : (k : ℕ) (o : TaskSlot B) → slice_get s'.tasks.items k ≡ Some o → (slice_get s.tasks.items k ≡ Some o) ⊎ ((k ≡ length s.tasks.items) × (it.new ≡ o))
    which k o found = found_which s.tasks.items it.new o k (ap (λ xs. slice_get xs k) (sym it.items) ∙ found)

    seat_again : (k : ℕ) (c : Chair) → slice_get s.seats.items k ≡ Some c → slice_get s'.seats.items k ≡ Some c
    seat_again k c found = ap (λ xs. slice_get xs k) it.seats ∙ found_again s.seats.items (it.chair ∷ []) k c found

    which_seat : (k : ℕ) (c : Chair) → slice_get s'.seats.items k ≡ Some c → (slice_get s.seats.items k ≡ Some c) ⊎ ((k ≡ last) × (it.chair ≡ c))
    which_seat k c found = found_which s.seats.items it.chair c k (ap (λ xs. slice_get xs k) (sym it.seats) ∙ found)

    more : length s'.tasks.items ≡ length s.tasks.items + 1
    more = ap length it.items ∙ length-append s.tasks.items (it.new ∷ [])

    pub more_seats : length s'.seats.items ≡ suc last
    more_seats = ap length it.seats ∙ length-append s.seats.items (it.chair ∷ []) ∙ omega arith

    -- the root of a worker that was there is of another
    old_home : (n k j : ℕ) (o : TaskSlot B) → AreHome n last s.tasks.items → slice_get s.tasks.items k ≡ Some o → o.home ≡ Some j → j ≢ last
    old_home n k j o homes found rooted is = let within = home_within n last k j s.tasks.items o homes found rooted in omega (arith, within, is)

    new_home : (o : TaskSlot B) (j : ℕ) → it.new ≡ o → o.home ≡ Some j → j ≡ last
    new_home o j is rooted = let same : Some last ≡ Some j = sym it.home ∙ ap (λ (y : TaskSlot B). y.home) is ∙ rooted in cc

    pub homes_grown : (n : ℕ) → AreHome n last s.tasks.items → AreHome n (length s'.seats.items) s'.tasks.items
    homes_grown n homes =
        record {
          many = omega (arith, homes.many, more_seats);
          roots = omega (arith, homes.roots, more);
          few = it.few;
          home = λ k o found within. elim (which k o found) [ inl old ↦ homes.home k o old within | inr new ↦ absurd (omega (arith, homes.roots, new.0, within)) ];
          dedicated = λ k j o found past rooted.
              elim (which k o found) [
                | inl old ↦ let was = homes.dedicated k j o old past rooted in (was.0, omega (arith, was.1, more_seats))
                | inr new ↦ let is : j ≡ last = new_home o j new.1 rooted in (omega (arith, homes.many, is), omega (arith, is, more_seats))
              ];
          once = λ k l j o other found found' rooted rooted'.
              elim (which k o found) [
                | inl old ↦ elim (which l other found') [ inl old' ↦ homes.once k l j o other old old' rooted rooted' | inr new ↦ absurd (old_home n k j o homes old rooted (new_home other j new.1 rooted')) ]
                | inr new ↦ elim (which l other found') [ inl old' ↦ absurd (old_home n l j other homes old' rooted' (new_home o j new.1 rooted)) | inr new' ↦ new.0 ∙ sym new'.0 ]
              ];
          number = λ k o found. elim (which k o found) [ inl old ↦ homes.number k o old | inr new ↦ sym (ap (λ (y : TaskSlot B). y.cell.number) new.1) ∙ it.number ∙ ap (λ m. record { 0 = m }) (sym new.0) ];
        }

    nobodys : (o : TaskSlot B) → it.new ≡ o → o.home ≡ None → ⊥
    nobodys o is ordinary = let no : Some last ≡ None = sym it.home ∙ ap (λ (y : TaskSlot B). y.home) is ∙ ordinary in cc (no)

    pub resting_grown : AreResting s.tasks.items → AreResting s'.tasks.items
    resting_grown old k o found ordinary free = elim (which k o found) [ inl was ↦ old k o was ordinary free | inr new ↦ absurd (nobodys o new.1 ordinary) ]

    pub genuine_grown : (x : Runnable) → IsGenuine s.tasks.items x → IsGenuine s'.tasks.items x
    genuine_grown x g = record { slot = g.slot; there = again x.task.0 g.slot g.there; ordinary = g.ordinary; of_it = g.of_it }

    pub spares_grown : (j : ℕ) → SparesMore j s s'
    spares_grown j =
        let s1 : Shared B = record s { seats = s'.seats; tasks = s'.tasks; global = record s.global { places = s'.global.places }; store = s'.store } in
        let many : length s.seats.items ≤ length s'.seats.items = omega (arith, more_seats) in
        let chair : (c : Chair) → slice_get s.seats.items j ≡ Some c → (c' : Chair) × (slice_get s'.seats.items j ≡ Some c') × SparesChair c c' = λ c found. (c, seat_again j c found, spared c) in
        let tails : (k : ℕ) (c c' : Chair) → slice_get s.seats.items k ≡ Some c → slice_get s'.seats.items k ≡ Some c' → tail_of c.queue ≤ tail_of c'.queue = grind (arith, same_Some, seat_again) in
        let root : (t : ℕ) (o : TaskSlot B) → slice_get s.tasks.items t ≡ Some o → o.home ≡ Some j → slice_get s'.tasks.items t ≡ Some o = λ t o found rooted. again t o found in
        let polled : (t : ℕ) (o : TaskSlot B) → slice_get s.tasks.items t ≡ Some o → is_polled o.cell.phase ≡ true → o.poller ≡ j → (o' : TaskSlot B) × (slice_get s'.tasks.items t ≡ Some o') × SparesPolled o o' = λ t o found polled mine.
        (o, again t o found, record { polled = polled; number = refl; cancelled = λ e. e; kept = refl }) in
        let room : HasRoom s.requests.items s.store → HasRoom s.requests.items s'.store = λ h out socket. rw (it.store.sockets socket) (h out socket) in
        let done : SparesMore j s s1 = assumption (many, chair, tails, root, polled, room, genuine_grown, it.store, spares_self j s) in
        subst (λ z. SparesMore j s z) (sym it.kept) done

    -- THE BALANCES

    before_grown : (j : ℕ) → IsBefore j s.seats.items → IsBefore j s'.seats.items
    before_grown j b = record { chair = b.chair; there = seat_again j b.chair b.there; going = b.going }

    before_last : (j : ℕ) → IsBefore j s.seats.items → j ≢ last
    before_last j b is = let within = slice_get_within s.seats.items j b.chair b.there in omega (arith, within, is)

    fresh_mailbox : IsMailbox it.chair.mailbox
    fresh_mailbox = rw it.fresh.inbox (record { roots = omega arith; empty = λ no. absurd (false≢true no); place = λ none. omega arith })

    left_grown : HaveLeft s.seats.items → HaveLeft s'.seats.items
    left_grown all j c at = elim (which_seat j c at) [ inl old ↦ all j c old | inr new ↦ subst (λ x. has_gone x ≡ true) new.1 (rw (it.fresh.left, it.fresh.pool_is) refl) ]

    over_grown : (t : ℕ) → IsOver t s.tasks.items → IsOver t s'.tasks.items
    over_grown t o = record { slot = o.slot; there = again t o.slot o.there; ordinary = o.ordinary; over = o.over }

    module _ (x y : Profile) (has : HasNewcomer last x y) where
      removes_old : (j t : ℕ) → (y.drops_by j).removes ≡ Some t → (x.drops_by j).removes ≡ Some t
      removes_old j t is =
          by_number j last
          (λ apart. ap (λ (d : Drops). d.removes) (sym (has.drops_by j apart)) ∙ is)
          (λ same. let no : None ≡ Some t = sym (ap (λ k. (y.drops_by k).removes) same ∙ ap (λ (d : Drops). d.removes) has.no_drops_by) ∙ is in absurd (cc))

      pool_grown : IsPool (duties_of x) s.tasks.items s.set s.seats.items → IsPool (duties_of y) s'.tasks.items s.set s'.seats.items
      pool_grown pool =
          record {
            live = λ t o found ordinary. elim (which t o found) [ inl old ↦ subst (λ n. IsHeldOnce o (n + in_set t s.set)) (sym (has.clears t)) (pool.live t o old ordinary) | inr new ↦ absurd (nobodys o new.1 ordinary) ];
            home = pool.home;
            only = λ t some. let old = pool.only t (subst (λ n. 0 < n + in_set t s.set) (has.clears t) some) in (old.0, again t old.0 old.1, old.2);
            who_polls = λ t o found ordinary polled.
                elim (which t o found) [
                  | inl old ↦ let it_polls = pool.who_polls t o old ordinary polled in (before_grown o.poller it_polls.0, has.polled_by o.poller (before_last o.poller it_polls.0) ∙ it_polls.1)
                  | inr new ↦ absurd (nobodys o new.1 ordinary)
                ];
            who_clears = λ t some.
                let it_clears = pool.who_clears t (subst (λ n. 0 < n) (has.clears t) some) in
                (it_clears.0, before_grown it_clears.0 it_clears.1, ap (λ (d : Drops). d.clears) (has.drops_by it_clears.0 (before_last it_clears.0 it_clears.1)) ∙ it_clears.2, it_clears.3);
            clear_shut = λ t o found ordinary cleared. elim (which t o found) [ inl old ↦ pool.clear_shut t o old ordinary cleared | inr new ↦ absurd (nobodys o new.1 ordinary) ];
            removes = λ j t is. let old = pool.removes j t (removes_old j t is) in (over_grown t old.0, old.1);
            alone = λ i j t a b. pool.alone i j t (removes_old i t a) (removes_old j t b);
            drained = λ j c at gone. elim (which_seat j c at) [ inl old ↦ pool.drained j c old gone | inr new ↦ absurd (false≢true (sym (ap (λ (z : Chair). z.left) (sym new.1) ∙ it.fresh.left) ∙ gone)) ];
            mail = λ j c at. elim (which_seat j c at) [ inl old ↦ pool.mail j c old | inr new ↦ subst (λ (z : Chair). IsMailbox z.mailbox) new.1 fresh_mailbox ];
            shut = λ j c at of_pool shut. elim (which_seat j c at) [ inl old ↦ left_grown (pool.shut j c old of_pool shut) | inr new ↦ absurd (false≢true (sym (ap (λ (z : Chair). z.pool) (sym new.1) ∙ it.fresh.pool_is) ∙ of_pool)) ];
          }

      -- the new run queue is empty
      stock_grown : (t : ℕ) → stock t s' ≡ stock t s
      stock_grown t =
          let f : Chair → ℕ = λ c. runnables_in t (queued c) in
          let none : f it.chair ≡ 0 = rw it.fresh.queue refl in
          let sums : sum_by f s'.seats.items ≡ sum_by f s.seats.items = ap (sum_by f) it.seats ∙ sum_by-append f s.seats.items (it.chair ∷ []) ∙ omega (arith, none) in
          let global : runnables_in t s'.global.values ≡ runnables_in t s.global.values = ap (λ (z : Shared B). runnables_in t z.global.values) it.kept in
          omega (arith, sums, global)

      holds_grown : IsHolding (hands_of x) s.config.workers (map holder_of s.tasks.items) (map thing_of s.requests.items) (map nap_of s.sleepers.items) (map box_of s.seats.items)
          → IsHolding (hands_of y) s.config.workers (map holder_of s'.tasks.items) (map thing_of s.requests.items) (map nap_of s.sleepers.items) (map box_of s'.seats.items)
      holds_grown holding =
          let boxes = map box_of s.seats.items in
          let many : length boxes ≡ last = length-map s.seats.items box_of in
          let first = holding_joined (hands_of x) s.config.workers (map holder_of s.tasks.items) (map thing_of s.requests.items) (map nap_of s.sleepers.items) boxes (holder_of it.new) it.held (ap awaited_in it.waits) it.going holding in
          let more_boxes = holding_boxed (hands_of x) (hands_of y) s.config.workers (map holder_of s.tasks.items ++ holder_of it.new ∷ []) (map thing_of s.requests.items) (map nap_of s.sleepers.items) boxes (box_of it.chair)
          (rw it.fresh.inbox refl) it.fresh.made (rw it.fresh.inbox (omega arith)) has.mail (λ i t apart. has.wakes i t (λ is. apart (is ∙ sym many))) (λ t. ap (λ k. y.wakes k t) many ∙ has.no_wakes t) first in
          rw (ap (map holder_of) it.items ∙ map-append holder_of s.tasks.items (it.new ∷ []), ap (map box_of) it.seats ∙ map-append box_of s.seats.items (it.chair ∷ [])) more_boxes

      pub whole_grown : s.config.workers ≤ last → IsWhole x s → IsWhole y s'
      whole_grown past whole =
          let s1 : Shared B = record s { seats = s'.seats; tasks = s'.tasks; global = record s.global { places = s'.global.places }; store = s'.store } in
          let stocks : (t : ℕ) → stock t s1 ≡ stock t s = λ t. ap (stock t) (sym it.kept) ∙ stock_grown t in
          let not_last : (j : ℕ) → j < s.config.workers → j ≢ last = λ j few is. omega (arith, few, is, past) in
          let claimed : claimed_count y s1 ≡ claimed_count x s =
          same_sum (λ j. one_if (x.published j && not (is_in s.idle.published j))) (λ j. one_if (y.published j && not (is_in s.idle.published j))) 0 s.config.workers
          (λ j few. ap (λ b. one_if (b && not (is_in s.idle.published j))) (has.published j (not_last j (omega (arith, few))))) in
          let done : IsWhole y s1 = record {
            runnables = grind (arith, which, stocks, nobodys);
            polls = λ t o found ordinary. elim (which t o found) [ inl old ↦ has.polls t ∙ whole.polls t o old ordinary | inr new ↦ absurd (nobodys o new.1 ordinary) ];
            claims = grind (arith, which_seat);
            counts = rw (has.counts, claimed) whole.counts;
            bits = λ j is. let old = whole.bits j is in (has.published j (not_last j old.1) ∙ old.0, old.1);
            set = whole.set;
            queued_here = λ j c r at among.
                elim (which_seat j c at) [
                  | inl old ↦ genuine_grown r (whole.queued_here j c r old among)
                  | inr new ↦ let none : queued it.chair ≡ [] = rw it.fresh.queue refl in absurd (nothing_in r (subst (λ vs. Contains vs r) (ap queued (sym new.1) ∙ none) among))
                ];
            queued_there = λ r among. genuine_grown r (whole.queued_there r among);
            places = λ h. it.places;
            made = grind (arith, more, stocks);
            unclaimed = λ j beyond. has.claims j ∙ whole.unclaimed j (omega (arith, beyond, more_seats));
            in_pool = grind (arith, which_seat, nat_tests);
            pool = pool_grown whole.pool;
            gates = record { passes = grind (arith, by_number); joins = grind (arith, by_number) };
            holding = holds_grown whole.holding;
          } in
          subst (IsWhole y) (sym it.kept) done
        where
          nothing_in : (r : Runnable) → Contains [] r → ⊥
          nothing_in r (k, few, is) = omega (arith, few)
