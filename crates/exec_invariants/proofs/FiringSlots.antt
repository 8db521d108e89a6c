-- The slots of sleepers as they are seen, where one leaves its slot; and which stands first that passes a test.
use Rattle.exec_invariants.{proofs.{Names.{◌≡◌, ◌≢◌, ℕ, zero, suc, ◌+◌, ◌^◌, ◌<◌, Bool, true, false, List, [], ◌∷◌, nat_lt, set, slice_get, slice_index_or, slice_set, Some, None, if◌then◌else◌, refl, sym, ap, ◌∙◌, arith, eq-eqb, nat_tests, get_or_from_slice_get, Slab, freed, is_live, removed, value_at, value_in, Id, Slot, Live, Vacant, Retired, IsLiveAt-from_value, live_within, first_in, is_in_slots, slot_of, vacated, number_in, slots_from, slots_seen, not_same, same_Some, ◌≤◌, Contains, ◌++◌, count_by, length, IsSome, subst, inl, inr, false≢true, length-set, Contains-append_cases, IsPast, ForwardedResult, Sleeping, Deferred, Answer, Driving, is_asleep, Heard, Reply, Names, Record, SleeperRecord, by_number, set_elsewhere, set_there}, SparedRecord.there_within, FiringNames.naps_set, ServedEnds.count_both}, specs.{Due.AreAsleep, Places.one_if, Rooted.{IsCompletion, IsRooted, SleeperPays, completions_of as sent_of, ends_elsewhere, goes_elsewhere, is_of_timer, results_of, Watches, IsResult}, Names.IsNamed}}

pub number_there : (numbers : List ℕ) (id : Id) → slice_index_or numbers (0 + id.index) 0 ≡ number_in numbers id
number_there numbers id = ap (λ m. slice_index_or numbers m 0) (let e : 0 + id.index ≡ id.index = omega arith in e)

pub at_zero : (numbers : List ℕ) (j n : ℕ) → slice_index_or numbers (0 + j) 0 ≡ n → slice_index_or numbers j 0 ≡ n
at_zero numbers j n is = ap (λ m. slice_index_or numbers m 0) (let e : j ≡ 0 + j = omega arith in e) ∙ is

module _ {T : Type 0} where
  -- what is there stands in its slot
  pub alive_at : (s : Slab T) (id : Id) (e : T) → value_at s id ≡ Some e → slice_get s.slots id.index ≡ Some (Live id.generation e)
  alive_at s id e at =
      let live = IsLiveAt-from_value s.slots id.index id.generation s.first (rw at refl) in
      let it = there_within s.slots id.index (live_within s.slots id.index id.generation live.value live.is) in
      let found : slice_get s.slots id.index ≡ Some (Live id.generation live.value) = it.1 ∙ ap (λ x. Some x) (sym (get_or_from_slice_get s.slots id.index it.0 Retired it.1) ∙ live.is) in
      let value : value_at s id ≡ Some live.value =
      ap (λ x. value_in x id.generation) (get_or_from_slice_get s.slots id.index (Live id.generation live.value) (Vacant s.first) found) ∙ ap (λ b. if b then Some live.value else None) (eq-eqb id.generation id.generation refl) in
      found ∙ ap (λ v. Some (Live id.generation v)) (same_Some live.value e (sym value ∙ at))

  -- and what stands in a slot is there
  pub value_of_slot : (s : Slab T) (j g : ℕ) (e : T) → slice_get s.slots j ≡ Some (Live g e) → value_at s (record { index = j; generation = g }) ≡ Some e
  value_of_slot s j g e at =
      ap (λ x. value_in x g) (get_or_from_slice_get s.slots j (Live g e) (Vacant s.first) at) ∙ ap (λ b. if b then Some e else None) (eq-eqb g g refl)

  -- FREE AGAIN

  freed_dead : (s : Slot T) (g : ℕ) → is_live {T = T} (freed g) ≡ false
  freed_dead = grind arith

  slots_freed : (k : ℕ) (numbers : List ℕ) (slots : List (Slot T)) (i g : ℕ) → slots_from k numbers (set slots i (freed g)) ≡ slice_set (slots_from k numbers slots) i None
  slots_freed k numbers [] i g = refl
  slots_freed k numbers (x ∷ slots) zero g = ap (λ b. (if b then Some (slice_index_or numbers k 0) else None) ∷ slots_from (suc k) numbers slots) (freed_dead x g)
  slots_freed k numbers (x ∷ slots) (suc i) g = ap (λ xs. (if is_live x then Some (slice_index_or numbers k 0) else None) ∷ xs) (slots_freed (suc k) numbers slots i g)

  -- no slot before it has this number
  abbrev IsFirst : ℕ → ℕ → List ℕ → List (Slot T) → ℕ → Type 0
  IsFirst n k numbers slots i = (j : ℕ) (x : Slot T) → j < i → slice_get slots j ≡ Some x → is_live x ≡ true → slice_index_or numbers (k + j) 0 ≢ n

  -- the first has another number, and so has each
  slot_other : (n k : ℕ) (numbers : List ℕ) (x : Slot T) (slots : List (Slot T)) → (is_live x ≡ true → slice_index_or numbers (k + 0) 0 ≢ n) → slot_of n k (slots_from k numbers (x ∷ slots)) ≡ slot_of n (suc k) (slots_from (suc k) numbers slots)
  slot_other = grind (arith, not_same)

  pub slot_none : (n k : ℕ) (numbers : List ℕ) (slots : List (Slot T)) → ((j : ℕ) (x : Slot T) → slice_get slots j ≡ Some x → is_live x ≡ true → slice_index_or numbers (k + j) 0 ≢ n) → slot_of n k (slots_from k numbers slots) ≡ None
  slot_none n k numbers [] others = refl
  slot_none n k numbers (x ∷ slots) others =
      slot_other n k numbers x slots (λ alive. others 0 x refl alive)
      ∙ slot_none n (suc k) numbers slots (λ j y at alive same. others (suc j) y at alive (ap (λ m. slice_index_or numbers m 0) (let e : k + suc j ≡ suc k + j = omega arith in e) ∙ same))

  slot_found : (n k : ℕ) (numbers : List ℕ) (slots : List (Slot T)) (i : ℕ) (o : Slot T) → slice_get slots i ≡ Some o → is_live o ≡ true → slice_index_or numbers (k + i) 0 ≡ n → IsFirst n k numbers slots i
      → slot_of n k (slots_from k numbers slots) ≡ Some (k + i)
  slot_found n k numbers [] i o there live is first = absurd (let no : None ≡ Some o = there in cc)
  slot_found n k numbers (x ∷ slots) zero o there live is first = grind (arith, same_Some, eq-eqb)
  slot_found n k numbers (x ∷ slots) (suc i) o there live is first =
      let later : IsFirst n (suc k) numbers slots i = λ j y less at alive same. first (suc j) y (omega (arith, less)) at alive (ap (λ m. slice_index_or numbers m 0) (let e : k + suc j ≡ suc k + j = omega arith in e) ∙ same) in
      slot_other n k numbers x slots (λ alive. first 0 x (omega arith) refl alive)
      ∙ slot_found n (suc k) numbers slots i o there live (ap (λ m. slice_index_or numbers m 0) (let e : suc k + i ≡ k + suc i = omega arith in e) ∙ is) later
      ∙ ap (λ m. Some m) (let e : suc k + i ≡ k + suc i = omega arith in e)

  -- each number stands in one slot
  pub record OneBed (numbers : List ℕ) (s : Slab T) (id : Id) : Type 0 where
    pub e : T
    pub live : value_at s id ≡ Some e
    pub low : id.generation + 1 < 2 ^ 64
    pub alone : (j : ℕ) (x : Slot T) → slice_get s.slots j ≡ Some x → is_live x ≡ true → slice_index_or numbers j 0 ≡ number_in numbers id → j ≡ id.index

  module _ (numbers : List ℕ) (s : Slab T) (id : Id) (one : OneBed numbers s id) where
    slot_is : slot_of (number_in numbers id) 0 (slots_from 0 numbers s.slots) ≡ Some id.index
    slot_is =
        slot_found (number_in numbers id) 0 numbers s.slots id.index (Live id.generation one.e) (alive_at s id one.e one.live) refl (number_there numbers id)
        (λ j x less at alive same. let is : j ≡ id.index = one.alone j x at alive (at_zero numbers j (number_in numbers id) same) in omega (arith, less, is))
        ∙ ap (λ m. Some m) (let e : 0 + id.index ≡ id.index = omega arith in e)

    -- it is there, and leaves its slot
    pub bed_in : is_in_slots (number_in numbers id) (slots_seen numbers s) ≡ true
    bed_in = rw slot_is refl

    pub bed_vacated : slots_seen numbers (removed s id) ≡ vacated (number_in numbers id) (slots_seen numbers s)
    bed_vacated =
        let small : nat_lt (id.generation + 1) (2 ^ 64) ≡ true = let low = one.low in grind (arith, nat_tests) in
        ap (λ b. record { held = slots_from 0 numbers (set s.slots id.index (freed id.generation)); vacant = if b then id.index ∷ s.vacant else s.vacant }) small
        ∙ ap (λ xs. record { held = xs; vacant = id.index ∷ s.vacant }) (slots_freed 0 numbers s.slots id.index id.generation)
        ∙ rw slot_is refl

  -- THE FIRST THAT PASSES A TEST

  first_from : (test : ℕ → Bool) (k : ℕ) (numbers : List ℕ) (slots : List (Slot T)) (i : ℕ) (o : Slot T) → slice_get slots i ≡ Some o → is_live o ≡ true → test (slice_index_or numbers (k + i) 0) ≡ true
      → ((j : ℕ) (x : Slot T) → j < i → slice_get slots j ≡ Some x → is_live x ≡ true → test (slice_index_or numbers (k + j) 0) ≡ false) → first_in test (slots_from k numbers slots) ≡ Some (slice_index_or numbers (k + i) 0)
  first_from test k numbers [] i o there live is before = absurd (let no : None ≡ Some o = there in cc)
  first_from test k numbers (x ∷ slots) zero o there live is before = grind (arith, same_Some)
  first_from test k numbers (x ∷ slots) (suc i) o there live is before =
      let next : suc k + i ≡ k + suc i = omega arith in
      by (is_live x) refl
      ∙ first_from test (suc k) numbers slots i o there live (ap (λ m. test (slice_index_or numbers m 0)) next ∙ is)
      (λ j y less at alive. ap (λ m. test (slice_index_or numbers m 0)) (let e : suc k + j ≡ k + suc j = omega arith in e) ∙ before (suc j) y (omega (arith, less)) at alive)
      ∙ ap (λ m. Some (slice_index_or numbers m 0)) next
    where
      by : (b : Bool) → is_live x ≡ b → first_in test (slots_from k numbers (x ∷ slots)) ≡ first_in test (slots_from (suc k) numbers slots)
      by true alive =
          let none : test (slice_index_or numbers k 0) ≡ false = ap (λ m. test (slice_index_or numbers m 0)) (let e : k ≡ k + 0 = omega arith in e) ∙ before 0 x (omega arith) refl alive in
          ap (λ b. first_in test ((if b then Some (slice_index_or numbers k 0) else None) ∷ slots_from (suc k) numbers slots)) alive
          ∙ ap (λ b. if b then Some (slice_index_or numbers k 0) else first_in test (slots_from (suc k) numbers slots)) none
      by false dead = ap (λ b. first_in test ((if b then Some (slice_index_or numbers k 0) else None) ∷ slots_from (suc k) numbers slots)) dead

  pub first_is : (test : ℕ → Bool) (numbers : List ℕ) (s : Slab T) (id : Id) (e : T) → value_at s id ≡ Some e → test (number_in numbers id) ≡ true
      → ((j : ℕ) (x : Slot T) → j < id.index → slice_get s.slots j ≡ Some x → is_live x ≡ true → test (slice_index_or numbers j 0) ≡ false) → first_in test (slots_seen numbers s).held ≡ Some (number_in numbers id)
  first_is = grind (arith, first_from, alive_at, number_there)

-- it doesn't sleep then
pub record IsOverAs (i : ℕ) (z z' : SleeperRecord) : Type 0 where
  pub id : z'.id ≡ z.id
  pub worker : z'.shown.worker ≡ z.shown.worker
  pub task : z'.shown.task ≡ z.shown.task
  pub closed : z'.closed ≡ z.closed
  pub paid : z'.shown.wakes_paid ≡ z.shown.wakes_paid
  pub awake : is_asleep i z'.shown ≡ false
  pub pays : SleeperPays z → SleeperPays z'

-- THE SLAB: what had a slot, but for that one, has it still
pub record Leaves (n : Names) (k : ℕ) (zs zs' : Slab (Sleeping Reply)) : Type 0 where
  pub others : (other : Id) → IsSome (value_at zs' other) → (value_at zs' other ≡ value_at zs other) × (k ≡ number_in n.timers.items other → ⊥)
  pub stays : (other : Id) → IsSome (value_at zs other) → (k ≡ number_in n.timers.items other → ⊥) → value_at zs' other ≡ value_at zs other
  pub many : length zs'.slots ≡ length zs.slots
  pub back : (other : Id) → IsPast zs' other → IsPast zs other
  pub on : (other : Id) → IsPast zs other → IsPast zs' other

module _ (i : ℕ) (n : Names) (d : Driving Reply Reply) (zs zs' : Slab (Sleeping Reply)) (rs : List Record) (ss : List SleeperRecord) (k : ℕ) (z z' : SleeperRecord) (there : slice_get ss k ≡ Some z) (over : IsOverAs i z z') (leaves : Leaves n k zs zs') where
  now_there : slice_get (slice_set ss k z') k ≡ Some z'
  now_there = set_there ss k z' z there

  -- what stands there then is it, or stood there
  by_sleeper : {C : Type 0} (j : ℕ) (x : SleeperRecord) → slice_get (slice_set ss k z') j ≡ Some x → (j ≡ k → z' ≡ x → C) → ((k ≡ j → ⊥) → slice_get ss j ≡ Some x → C) → C
  by_sleeper = grind (arith, by_number, set_elsewhere, same_Some, now_there)

  before : (other : Id) → IsSome (value_at zs' other) → IsSome (value_at zs other)
  before other live = subst IsSome (leaves.others other live).0 live

  elsewhere : (other : Id) → IsSome (value_at zs' other) → slice_get (slice_set ss k z') (number_in n.timers.items other) ≡ slice_get ss (number_in n.timers.items other)
  elsewhere other live = set_elsewhere ss k (number_in n.timers.items other) z' (λ e. (leaves.others other live).1 (sym e))

  pub named_over : IsNamed i n d zs rs ss → IsNamed i n d zs' rs (slice_set ss k z')
  named_over = grind (arith, before, elsewhere)

  pub asleep_over : {closing : Bool} → AreAsleep closing i n zs ss → AreAsleep closing i n zs' (slice_set ss k z')
  asleep_over asleep =
      record {
        alike = λ other x r at found.
            let live : IsSome (value_at zs' other) = rw at refl in
            asleep.alike other x r (sym (leaves.others other live).0 ∙ at) (sym (elsewhere other live) ∙ found);
        there = λ j r found sleeps unclosed.
            by_sleeper j r found
            (λ e is. absurd (false≢true (sym over.awake ∙ ap (λ (y : SleeperRecord). is_asleep i y.shown) is ∙ sleeps)))
            (λ unlike old.
            let live = asleep.there j r old sleeps unclosed in
            subst IsSome (sym (leaves.stays r.id.0 live (λ e. unlike (e ∙ asleep.named j r old sleeps unclosed)))) live);
        named = λ j r found sleeps unclosed.
            by_sleeper j r found
            (λ e is. absurd (false≢true (sym over.awake ∙ ap (λ (y : SleeperRecord). is_asleep i y.shown) is ∙ sleeps)))
            (λ unlike old. asleep.named j r old sleeps unclosed);
        lets_go = λ j r found mine closed.
            by_sleeper j r found
            (λ e is. asleep.lets_go k z there (sym over.worker ∙ ap (λ (y : SleeperRecord). y.shown.worker) is ∙ mine) (sym over.closed ∙ ap (λ (y : SleeperRecord). y.closed) is ∙ closed))
            (λ unlike old. asleep.lets_go j r old mine closed);
        counted = λ other past. subst (λ m. other.generation < m) (sym (length-set ss k z')) (asleep.counted other (leaves.back other past));
        names = naps_set i zs zs' ss k z z' there (ap (λ t. t.0) over.id) over.worker leaves.on asleep.names;
      }

  -- WHAT IS SENT: these more
  module _ (left left' : Deferred Reply Reply) (cs : List (ForwardedResult Reply)) (rooted : IsRooted i n d zs left rs ss) (same : left' ≡ record left { notes = left'.notes }) (completions : left'.notes.completions.items ≡ left.notes.completions.items ++ cs) (mine : z.shown.worker ≡ i)
      (few : (c : ForwardedResult Reply) → Contains cs c → (c.sender ≡ record { task = record { 0 = z.shown.task }; of = Heard.Timer k }) × (z.shown.wakes_paid ≤ 1)) (none : (j : ℕ) → (k ≡ j → ⊥) → count_by (λ (c : ForwardedResult Reply). is_of_timer j c.sender.of) cs ≡ 0)
      (here : (sent_of k left + count_by (λ (c : ForwardedResult Reply). is_of_timer k c.sender.of) cs) + one_if z'.sent ≡ one_if (ends_elsewhere z')) where
    counted : (j : ℕ) → sent_of j left' ≡ sent_of j left + count_by (λ (c : ForwardedResult Reply). is_of_timer j c.sender.of) cs
    counted j = ap (count_by (λ (c : ForwardedResult Reply). is_of_timer j c.sender.of)) completions ∙ count_both (λ (c : ForwardedResult Reply). is_of_timer j c.sender.of) left.notes.completions.items cs

    end_old : (c : ForwardedResult Reply) → IsCompletion i c ss → IsCompletion i c (slice_set ss k z')
    end_old c old =
        by_number old.n k
        (λ differs. record { n = old.n; z = old.z; there = set_elsewhere ss k old.n z' differs ∙ old.there; worker = old.worker; reply = old.reply; paid = old.paid })
        (λ e.
        let is : old.z ≡ z = same_Some old.z z (sym old.there ∙ ap (slice_get ss) e ∙ there) in
        record {
          n = old.n;
          z = z';
          there = ap (slice_get (slice_set ss k z')) e ∙ now_there;
          worker = over.worker ∙ mine;
          reply = old.reply ∙ ap (λ (y : SleeperRecord). record { task = record { 0 = y.shown.task }; of = Heard.Timer old.n }) is ∙ ap (λ t. record { task = record { 0 = t }; of = Heard.Timer old.n }) (sym over.task);
          paid = subst (λ m. m ≤ 1) (ap (λ (y : SleeperRecord). y.shown.wakes_paid) is ∙ sym over.paid) old.paid;
        })

    end_new : (c : ForwardedResult Reply) → Contains cs c → IsCompletion i c (slice_set ss k z')
    end_new c among =
        let new = few c among in
        record { n = k; z = z'; there = now_there; worker = over.worker ∙ mine; reply = new.0 ∙ ap (λ t. record { task = record { 0 = t }; of = Heard.Timer k }) (sym over.task); paid = subst (λ m. m ≤ 1) (sym over.paid) new.1 }

    sent_then : (j : ℕ) (x : SleeperRecord) → slice_get (slice_set ss k z') j ≡ Some x → x.shown.worker ≡ i → sent_of j left' + one_if x.sent ≡ one_if (ends_elsewhere x)
    sent_then j x at of_i =
        by_sleeper j x at
        (λ e is.
        ap (λ m. sent_of m left' + one_if x.sent) e ∙ ap (λ (y : SleeperRecord). sent_of k left' + one_if y.sent) (sym is) ∙ ap (λ m. m + one_if z'.sent) (counted k) ∙ here ∙ ap (λ (y : SleeperRecord). one_if (ends_elsewhere y)) is)
        (λ differs found.
        omega (arith, counted j, none j differs, rooted.sleeper_sent j x found of_i))

    pub rooted_over : IsRooted i n d zs' left' rs (slice_set ss k z')
    rooted_over =
        let watches : (id : Id) (it : Sleeping Reply) (z : SleeperRecord) → value_at zs' id ≡ Some it → slice_get (slice_set ss k z') (number_in n.timers.items id) ≡ Some z → Watches (number_in n.timers.items id) it.observer z = λ other x y at found.
        let live : IsSome (value_at zs' other) = rw at refl in
        rooted.watches other x y (sym (leaves.others other live).0 ∙ at) (sym (elsewhere other live) ∙ found) in
        let sleeper_pays : (k0 : ℕ) (z : SleeperRecord) → slice_get (slice_set ss k z') k0 ≡ Some z → z.shown.worker ≡ i → SleeperPays z = λ j x at of_i.
        by_sleeper j x at
        (λ e is. subst SleeperPays is (over.pays (rooted.sleeper_pays k z there mine)))
        (λ differs found. rooted.sleeper_pays j x found of_i) in
        let results_so : (a : Answer Reply) → Contains left'.results.items a → IsResult i a rs = λ a among. rooted.results a (subst (λ xs. Contains xs a) (ap (λ v. v.items) (ap (λ (x : Deferred Reply Reply). x.results) same)) among) in
        let completions_so : (c : ForwardedResult Reply) → Contains left'.notes.completions.items c → IsCompletion i c (slice_set ss k z') = λ c among.
        elim (Contains-append_cases left.notes.completions.items cs c (subst (λ xs. Contains xs c) completions among)) [
          | inl old ↦ end_old c (rooted.completions c old)
          | inr new ↦ end_new c new
        ] in
        let sent : (k0 : ℕ) (r : Record) → slice_get rs k0 ≡ Some r → r.shown.worker ≡ i → results_of k0 left' + one_if r.sent ≡ one_if (goes_elsewhere r) =
        λ j r at of_i. subst (λ (x : Deferred Reply Reply). results_of j x + one_if r.sent ≡ one_if (goes_elsewhere r)) (sym same) (rooted.sent j r at of_i) in
        assumption (watches, sleeper_pays, results_so, completions_so, sent, sent_then, rooted)
