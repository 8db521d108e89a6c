-- A record that is marked, as released or as one that has paid: what is named by it stays.
use Rattle.exec_invariants.{proofs.{Names.{◌≡◌, ℕ, ◌==◌, Bool, true, false, List, [], ◌∷◌, length, Option, Some, None, refl, sym, ap, subst, ◌∙◌, slice_get, if◌then◌else◌, length-set, option_map, IsSome, arith, Slab, value_at, Id, Sleeping, RingState, waiter_at, Waiter, Driving, Configuration, is_resolved, is_staged, InService, Reply, Names, Record, SleeperRecord, Moments, as_sent, paying, releasing, number_in, AreKnown, changed_in, changed_at, is_one_of, RequestPhase}, Flying.get_changed}, specs.{Flown.IsPlain, Names.{IsNamed, IsAlike, IsSubmitted}, Due.{IsDue, IsTimed, AreTimed}}}

-- A mark changes only what was paid and released, and that its end was sent elsewhere.
abbrev pub Marks : (Record → Record) → Type 0
Marks f = (r : Record) → f r ≡ record r { shown = record r.shown { wakes_paid = (f r).shown.wakes_paid; released = (f r).shown.released }; sent = (f r).sent }

pub pays : Marks paying
pays r = refl

pub releases : Marks releasing
releases r = refl

pub sends : Marks as_sent
sends r = refl

-- where a test says so
abbrev pub mark_if : (Record → Record) → Bool → Record → Record
mark_if f true r = f r
mark_if f false r = r

-- what f keeps of each record it keeps where a test says so
pub mark_kept : (A : Type 0) (part : Record → A) (f : Record → Record) → ((r : Record) → part (f r) ≡ part r) → (b : Bool) (r : Record) → part (mark_if f b r) ≡ part r
mark_kept A part f keeps true r = keeps r
mark_kept A part f keeps false r = refl

pub marks_if : (f : Record → Record) → Marks f → (b : Bool) → Marks (mark_if f b)
marks_if f marks true r = marks r
marks_if f marks false r = refl

module _ (f : Record → Record) (rs : List Record) (q : ℕ) where
  marked_by : (b : Bool) (o : Option Record) → (if b then option_map f o else o) ≡ option_map (mark_if f b) o
  marked_by = grind arith

  pub get_marked : (k : ℕ) → slice_get (changed_at rs q f) k ≡ option_map (mark_if f (q == k)) (slice_get rs k)
  get_marked k = get_changed rs q k f ∙ marked_by (q == k) (slice_get rs k)

  pub marked : (k : ℕ) (r : Record) → slice_get rs k ≡ Some r → slice_get (changed_at rs q f) k ≡ Some (mark_if f (q == k) r)
  marked k r there = get_marked k ∙ ap (option_map (mark_if f (q == k))) there

  pub was_marked : (k : ℕ) (x : Record) → slice_get (changed_at rs q f) k ≡ Some x → (r : Record) × (slice_get rs k ≡ Some r) × (x ≡ mark_if f (q == k) r)
  was_marked = grind (arith, get_marked)

  pub marked_length : length (changed_at rs q f) ≡ length rs
  marked_length =
      elim (slice_get rs q) as (λ o. length (changed_in rs q f o) ≡ length rs) [ None ↦ refl | Some r ↦ length-set rs q (f r) ]

  pub known_then : (ks : List ℕ) → AreKnown ks rs → AreKnown ks (changed_at rs q f)
  known_then [] known = tt
  known_then (k ∷ ks) known = (rw marked_length known.0, known_then ks known.1)

  -- what is plain stays so
  pub plain_kept : ((r : Record) → IsPlain r.shown → IsPlain (f r).shown) → (i : ℕ) → ((r : Record) → (f r).shown.worker ≡ r.shown.worker)
      → ((k : ℕ) (r : Record) → slice_get rs k ≡ Some r → r.shown.worker ≡ i → IsPlain r.shown)
      → (k : ℕ) (x : Record) → slice_get (changed_at rs q f) k ≡ Some x → x.shown.worker ≡ i → IsPlain x.shown
  plain_kept keeps i same plain k x there mine =
      let old = was_marked k x there in
      subst (λ y. IsPlain y.shown) (sym old.2) (by (q == k) old.0 (plain k old.0 old.1 (sym (mark_kept ℕ (λ y. y.shown.worker) f same (q == k) old.0) ∙ sym (ap (λ y. y.shown.worker) old.2) ∙ mine)))
    where
      by : (b : Bool) (r : Record) → IsPlain r.shown → IsPlain (mark_if f b r).shown
      by true r p = keeps r p
      by false r p = p

  -- what is submitted is so still, where the worker and the phase stay
  pub submitted_kept : ((r : Record) → (f r).shown.worker ≡ r.shown.worker) → ((r : Record) → (f r).shown.phase ≡ r.shown.phase) → (i : ℕ) (staged untold : List ℕ) (ring : RingState) → IsSubmitted i staged untold ring rs → IsSubmitted i staged untold ring (changed_at rs q f)
  submitted_kept workers phases i staged untold ring sub =
      let own : (k : ℕ) (x : Record) → is_one_of k staged ≡ true → slice_get (changed_at rs q f) k ≡ Some x → x.shown.worker ≡ i = λ k x h there.
      let old = was_marked k x there in
      ap (λ y. y.shown.worker) old.2 ∙ mark_kept ℕ (λ y. y.shown.worker) f workers (q == k) old.0 ∙ sub.own k old.0 h old.1 in
      let all : (k : ℕ) (x : Record) → slice_get (changed_at rs q f) k ≡ Some x → x.shown.worker ≡ i → is_staged x.shown.phase ≡ true → is_one_of k staged ≡ true = λ k x there mine is.
      let old = was_marked k x there in
      sub.all k old.0 old.1 (sym (mark_kept ℕ (λ y. y.shown.worker) f workers (q == k) old.0) ∙ sym (ap (λ y. y.shown.worker) old.2) ∙ mine)
      (sym (ap is_staged (mark_kept RequestPhase (λ y. y.shown.phase) f phases (q == k) old.0)) ∙ sym (ap (λ y. is_staged y.shown.phase) old.2) ∙ is) in
      assumption (known_then staged sub.known, own, all, sub)

  module _ (marks : Marks f) where
    -- what stood there, and how it is marked
    pub before : (k : ℕ) (x : Record) → slice_get (changed_at rs q f) k ≡ Some x
        → (r : Record) × (slice_get rs k ≡ Some r) × (x ≡ record r { shown = record r.shown { wakes_paid = x.shown.wakes_paid; released = x.shown.released }; sent = x.sent })
    before k x there =
        let old = was_marked k x there in
        (old.0, old.1, subst (λ y. y ≡ record old.0 { shown = record old.0.shown { wakes_paid = y.shown.wakes_paid; released = y.shown.released }; sent = y.sent }) (sym old.2) (marks_if f marks (q == k) old.0))

    pub submitted_marked : (i : ℕ) (staged untold : List ℕ) (ring : RingState) → IsSubmitted i staged untold ring rs → IsSubmitted i staged untold ring (changed_at rs q f)
    submitted_marked = submitted_kept (λ r. ap (λ y. y.shown.worker) (marks r)) (λ r. ap (λ y. y.shown.phase) (marks r))

    -- all is named as before
    pub named_marked : (i : ℕ) (n : Names) (d : Driving Reply Reply) (zs : Slab (Sleeping Reply)) (sleepers : List SleeperRecord) → IsNamed i n d zs rs sleepers → IsNamed i n d zs (changed_at rs q f) sleepers
    named_marked i n d zs sleepers named =
        let requests : (id : Id) → IsSome (value_at d.requests id) → (r : Record) × (slice_get (changed_at rs q f) (number_in n.requests.items id) ≡ Some r) × (r.id.0 ≡ id) × (r.shown.worker ≡ i) = λ id there.
        let old = named.requests id there in
        let k = number_in n.requests.items id in
        let is = marks_if f marks (q == k) old.0 in
        (mark_if f (q == k) old.0, marked k old.0 old.1, ap (λ y. y.id.0) is ∙ old.2, ap (λ y. y.shown.worker) is ∙ old.3) in
        let alike : (id : Id) (it : Waiter Reply Reply) (r : Record) → waiter_at d.requests id ≡ Some it → slice_get (changed_at rs q f) (number_in n.requests.items id) ≡ Some r → IsAlike d.wheel.start d.wheel.tick it r.shown = λ id it x at_driver there.
        let old = before (number_in n.requests.items id) x there in
        subst (λ y. IsAlike d.wheel.start d.wheel.tick it y.shown) (sym old.2) (assumption (named.alike id it old.0 at_driver old.1)) in
        let over : (k : ℕ) (r : Record) → slice_get (changed_at rs q f) k ≡ Some r → r.shown.worker ≡ i → waiter_at d.requests r.id.0 ≡ None → is_resolved r.shown.phase ≡ true = λ k x there mine gone.
        let old = before k x there in
        ap (λ y. is_resolved y.shown.phase) old.2
        ∙ named.over k old.0 old.1 (sym (ap (λ y. y.shown.worker) old.2) ∙ mine) (subst (λ y. waiter_at d.requests y.0 ≡ None) (ap (λ y. y.id) old.2) gone) in
        assumption (requests, alike, over, submitted_marked i n.staged.items n.untold.items d.ring named.submitted, named)

    -- what is due is so still, whatever has ended
    pub due_marked : {closing : Bool} (x : Option InService) (i : ℕ) (m : Moments) (c : Configuration) (n m' : Names) (d : Driving Reply Reply) (zs : Slab (Sleeping Reply)) (sleepers : List SleeperRecord)
        → IsDue x closing i m c n d zs rs sleepers → IsDue x closing i m c (record n { ended = m'.ended; unreleased = m'.unreleased }) d zs (changed_at rs q f) sleepers
    due_marked x i m c n m' d zs sleepers due =
        let timed : AreTimed i (record n { ended = m'.ended; unreleased = m'.unreleased }) (changed_at rs q f) = λ k x there mine.
        let old = before k x there in
        subst (IsTimed (record n { ended = m'.ended; unreleased = m'.unreleased }) k) (sym old.2) (assumption (due.timed k old.0 old.1 (sym (ap (λ y. y.shown.worker) old.2) ∙ mine))) in
        assumption (timed, due)
