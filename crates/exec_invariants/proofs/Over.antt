-- What holds again once a request is over, which the kernel doesn't have.
use Rattle.exec_invariants.{specs.{Carried.may_move, Due.AreTimed, Sound.AreOver, Names.{IsNamed, IsAlike, IsSubmitted}}, proofs.{Words.{◌≡◌, ◌≢◌, ◌⊎◌, ℕ, zero, suc, ◌+◌, ◌≤◌, ◌==◌, Bool, true, false, List, [], ◌∷◌, ◌++◌, length, Some, None, IsSome, refl, sym, ap, subst, ◌∙◌, arith, inl, inr, slice_get, false≢true, eq-eqb, length-append, true_from_ne_false, Slab, value_at, Id, Outcome, Sleeping, RequestOutput, waiter_at, waiter_of, Entry, Waiter, entry_of, Driving, Resolved, resolved, is_landed, is_resolved, Reply, Names, Record, SleeperRecord, number_in, changed_at, by_name, same_number}, Marking.{mark_if, marked, was_marked}, Resolving.SlabAfter}}

-- what stands in a list with one more at its end
pub in_append : {A : Type 0} (e : List A) (k : A) (j : ℕ) (m : A) → slice_get (e ++ k ∷ []) j ≡ Some m → (slice_get e j ≡ Some m) ⊎ ((j ≡ length e) × (m ≡ k))
in_append [] k zero m h = inr (refl, cc)
in_append [] k (suc j) m h = absurd (cc)
in_append (x ∷ e) k zero m h = inl h
in_append (x ∷ e) k (suc j) m h = grind (arith, in_append e k j m h)

-- what a record says of its deadline, once it is another
pub record TimedBy (n : Names) (j : ℕ) (x x' : Record) : Type 0 where
  pub named : is_resolved x'.shown.phase ≡ false → number_in n.requests.items x.id.0 ≡ j
  pub over : is_resolved x'.shown.phase ≡ true → x'.shown.timer ≡ None

-- A record that ends so.
pub record Resolves (r r' : Record) (outcome : Outcome) : Type 0 where
  pub same : r' ≡ record r { shown = record r.shown { operation = r'.shown.operation; phase = Resolved outcome; timer = None } }

-- The request of this name is over, by what becomes of the slab and of its record.
pub record OneEnds (n : Names) (d : Driving Reply Reply) (s' : Slab (Entry Reply Reply)) (rs : List Record) (id : Id) (it : Waiter Reply Reply) (r : Record) (f : Record → Record) (outcome : Outcome) (told : RequestOutput) : Type 0 where
  pub at : waiter_at d.requests id ≡ Some it
  pub there : slice_get rs (number_in n.requests.items id) ≡ Some r
  pub slab : SlabAfter d.requests s' id it told
  pub ends : Resolves r (f r) outcome
  pub less : (out : Bool) (socket : ℕ) → may_move out socket (f r) ≤ may_move out socket r

-- who ends without one more result leaves what it had
pub leaves_all : (r : Record) (o : Outcome) → is_landed r.shown.phase ≡ false → is_resolved r.shown.phase ≡ false → (out : Bool) (socket : ℕ) → may_move out socket (record r { shown = resolved o r.shown }) ≤ may_move out socket r
leaves_all = grind arith

module _ (i : ℕ) (n : Names) (d d' : Driving Reply Reply) (zs : Slab (Sleeping Reply)) (rs : List Record) (ss : List SleeperRecord) (id : Id) (it : Waiter Reply Reply) (r : Record) (f : Record → Record) (outcome : Outcome) (told : RequestOutput)
    (one : OneEnds n d d'.requests rs id it r f outcome told) (named : IsNamed i n d zs rs ss) (timed : AreTimed i n rs) where
  ends_here : (j : ℕ) (b : Bool) (x : Record) → (number_in n.requests.items id == j) ≡ b → slice_get rs j ≡ Some x → b ≡ true → Resolves x (mark_if f b x) outcome
  ends_here = grind arith

  -- what stays of each record
  pub kept_id : (j : ℕ) (b : Bool) (x : Record) → (number_in n.requests.items id == j) ≡ b → slice_get rs j ≡ Some x → (mark_if f b x).id ≡ x.id
  kept_id j true x is at = ap (λ y. y.id) (ends_here j true x is at refl).same
  kept_id j false x is at = refl

  pub kept_worker : (j : ℕ) (b : Bool) (x : Record) → (number_in n.requests.items id == j) ≡ b → slice_get rs j ≡ Some x → (mark_if f b x).shown.worker ≡ x.shown.worker
  kept_worker j true x is at = ap (λ y. y.shown.worker) (ends_here j true x is at refl).same
  kept_worker j false x is at = refl

  pub unresolved_before : is_resolved r.shown.phase ≡ false
  unresolved_before = (named.alike id it r one.at one.there).open_still

  pub is_over : is_resolved (f r).shown.phase ≡ true
  is_over = ap (λ y. is_resolved y.shown.phase) one.ends.same

  -- nobody waits under its name any more
  pub gone_here : waiter_at d'.requests id ≡ None
  gone_here = grind arith

  some_before : (other : Id) → IsSome (value_at d'.requests other) → IsSome (value_at d.requests other)
  some_before = grind arith

  apart_there : (other : Id) (w : Waiter Reply Reply) → waiter_at d'.requests other ≡ Some w → other ≢ id
  apart_there other w at e = let no : Some w ≡ None = sym at ∙ ap (waiter_at d'.requests) e ∙ gone_here in absurd (cc)

  pub apart_number : (other : Id) → IsSome (value_at d.requests other) → other ≢ id → number_in n.requests.items id ≡ number_in n.requests.items other → ⊥
  apart_number = grind arith

  not_same : (j : ℕ) → (number_in n.requests.items id ≡ j → ⊥) → (b : Bool) → (number_in n.requests.items id == j) ≡ b → b ≡ false
  not_same j apart true is = absurd (apart (same_number (number_in n.requests.items id) j is))
  not_same j apart false is = refl

  pub other_record : (j : ℕ) (x : Record) → (number_in n.requests.items id ≡ j → ⊥) → slice_get (changed_at rs (number_in n.requests.items id) f) j ≡ Some x → slice_get rs j ≡ Some x
  other_record = grind (arith, was_marked, mark_if, not_same)

  pub named_ended : (n' : Names) → n'.requests ≡ n.requests → n'.timers ≡ n.timers → d'.wheel.start ≡ d.wheel.start → d'.wheel.tick ≡ d.wheel.tick
      → IsSubmitted i n'.staged.items n'.untold.items d'.ring (changed_at rs (number_in n.requests.items id) f) → IsNamed i n' d' zs (changed_at rs (number_in n.requests.items id) f) ss
  named_ended n' requests timers start tick submitted =
      record {
        requests = λ other h.
            let old = named.requests other (some_before other h) in
            let j = number_in n.requests.items other in
            let b = number_in n.requests.items id == j in
            rw requests (mark_if f b old.0, marked f rs (number_in n.requests.items id) j old.0 old.1, ap (λ y. y.0) (kept_id j b old.0 refl old.1) ∙ old.2, kept_worker j b old.0 refl old.1 ∙ old.3);
        timers = λ other h. rw timers (named.timers other h);
        alike = λ other w x at found.
            let apart = apart_there other w at in
            let before : waiter_at d.requests other ≡ Some w = sym (ap waiter_of (one.slab.others other apart)) ∙ at in
            let some : IsSome (value_at d.requests other) = rw (entry_of (value_at d.requests other) w before) refl in
            let here = subst (λ v. slice_get (changed_at rs (number_in n.requests.items id) f) (number_in v.items other) ≡ Some x) requests found in
            subst (λ t. IsAlike t d'.wheel.tick w x.shown) (sym start) (subst (λ t. IsAlike d.wheel.start t w x.shown) (sym tick)
            (named.alike other w x before (other_record (number_in n.requests.items other) x (apart_number other some apart) here)));
        over = λ j x found mine gone.
            let old = was_marked f rs (number_in n.requests.items id) j x found in
            let b = number_in n.requests.items id == j in
            let of_i : old.0.shown.worker ≡ i = sym (kept_worker j b old.0 refl old.1) ∙ sym (ap (λ y. y.shown.worker) old.2) ∙ mine in
            let name : x.id ≡ old.0.id = ap (λ y. y.id) old.2 ∙ kept_id j b old.0 refl old.1 in
            ap (λ y. is_resolved y.shown.phase) old.2 ∙ over_by j b old.0 refl old.1 of_i (subst (λ y. waiter_at d'.requests y.0 ≡ None) name gone);
        submitted = submitted;
        slots = rw (requests, one.slab.slots) named.slots;
        beds = rw timers named.beds;
      }
    where
      over_by : (j : ℕ) (b : Bool) (x : Record) → (number_in n.requests.items id == j) ≡ b → slice_get rs j ≡ Some x → x.shown.worker ≡ i → waiter_at d'.requests x.id.0 ≡ None → is_resolved (mark_if f b x).shown.phase ≡ true
      over_by j true x is at mine gone = ap (λ y. is_resolved y.shown.phase) (ends_here j true x is at refl).same
      over_by j false x is at mine gone =
          let differs : x.id.0 ≢ id → is_resolved x.shown.phase ≡ true = λ apart.
          named.over j x at mine (sym (ap waiter_of (one.slab.others x.id.0 apart)) ∙ gone) in
          let known : x.id.0 ≡ id → is_resolved x.shown.phase ≡ true = λ same.
          true_from_ne_false (is_resolved x.shown.phase) (λ open_still.
          let here : number_in n.requests.items id ≡ j = ap (number_in n.requests.items) (sym same) ∙ (timed j x at mine).named open_still in
          false≢true (sym is ∙ ap (λ q. number_in n.requests.items id == q) (sym here) ∙ eq-eqb (number_in n.requests.items id) (number_in n.requests.items id) refl)) in
          by_name x.id.0 id differs (λ same. known same)

  pub timed_ended : (n' : Names) → n'.requests ≡ n.requests → AreTimed i n' (changed_at rs (number_in n.requests.items id) f)
  timed_ended n' requests j x found mine =
      let old = was_marked f rs (number_in n.requests.items id) j x found in
      let b = number_in n.requests.items id == j in
      let t = timed_by j b old.0 refl old.1 (sym (kept_worker j b old.0 refl old.1) ∙ sym (ap (λ y. y.shown.worker) old.2) ∙ mine) in
      grind (arith, kept_id)
    where
      timed_by : (j : ℕ) (b : Bool) (x : Record) → (number_in n.requests.items id == j) ≡ b → slice_get rs j ≡ Some x → x.shown.worker ≡ i → TimedBy n j x (mark_if f b x)
      timed_by j true x is at mine =
          let e = ends_here j true x is at refl in
          record { named = λ h. absurd (false≢true (sym h ∙ ap (λ y. is_resolved y.shown.phase) e.same)); over = λ h. ap (λ y. y.shown.timer) e.same }
      timed_by j false x is at mine = let t = timed j x at mine in record { named = t.named; over = t.over }

  pub over_ended : (e e' : List ℕ) (unreleased others others' : ℕ) → e' ≡ e ++ number_in n.requests.items id ∷ [] → others' + 1 ≡ others → r.shown.worker ≡ i → r.shown.released ≡ false → AreOver i e unreleased others rs → AreOver i e' unreleased others' (changed_at rs (number_in n.requests.items id) f)
  over_ended e e' unreleased others others' is fewer mine owning over =
      subst (λ ks. AreOver i ks unreleased others' (changed_at rs (number_in n.requests.items id) f)) (sym is)
      (record {
        over = λ j m found. over_at j m (in_append e (number_in n.requests.items id) j m found);
        once = λ j l m a b. once_in j l m (in_append e (number_in n.requests.items id) j m a) (in_append e (number_in n.requests.items id) l m b);
        counted = omega (arith, length-append e (number_in n.requests.items id ∷ []), fewer, over.counted);
      })
    where
      apart_over : (j m : ℕ) → slice_get e j ≡ Some m → number_in n.requests.items id ≡ m → ⊥
      apart_over = grind (arith, false≢true, unresolved_before)

      over_at : (j m : ℕ) → (slice_get e j ≡ Some m) ⊎ ((j ≡ length e) × (m ≡ number_in n.requests.items id)) → (x : Record) × (slice_get (changed_at rs (number_in n.requests.items id) f) m ≡ Some x) × (x.shown.worker ≡ i) × ((is_resolved x.shown.phase ≡ true) × (x.shown.released ≡ false))
      over_at j m (inl old) =
          let x = over.over j m old in
          (x.0, marked f rs (number_in n.requests.items id) m x.0 x.1 ∙ ap (λ b. Some (mark_if f b x.0)) (not_same m (apart_over j m old) (number_in n.requests.items id == m) refl), x.2, x.3)
      over_at j m (inr last) =
          let now : slice_get (changed_at rs (number_in n.requests.items id) f) (number_in n.requests.items id) ≡ Some (f r) =
          marked f rs (number_in n.requests.items id) (number_in n.requests.items id) r one.there ∙ ap (λ b. Some (mark_if f b r)) (eq-eqb (number_in n.requests.items id) (number_in n.requests.items id) refl) in
          (f r, ap (slice_get (changed_at rs (number_in n.requests.items id) f)) last.1 ∙ now, ap (λ y. y.shown.worker) one.ends.same ∙ mine, (is_over, ap (λ y. y.shown.released) one.ends.same ∙ owning))

      once_in : (j l m : ℕ) → (slice_get e j ≡ Some m) ⊎ ((j ≡ length e) × (m ≡ number_in n.requests.items id)) → (slice_get e l ≡ Some m) ⊎ ((l ≡ length e) × (m ≡ number_in n.requests.items id)) → j ≡ l
      once_in j l m (inl a) (inl b) = over.once j l m a b
      once_in j l m (inl a) (inr b) = absurd (apart_over j m a (sym b.1))
      once_in j l m (inr a) (inl b) = absurd (apart_over l m b (sym a.1))
      once_in j l m (inr a) (inr b) = a.0 ∙ sym b.0
