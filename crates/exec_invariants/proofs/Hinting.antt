-- What a request keeps as its operations are staged: its buffer, its room, and its wish for the hint.
use Rattle.exec_invariants.{proofs.{Names.{get, nat_cmp, ◌≡◌, ℕ, ◌+◌, ◌-◌, ◌/◌, ◌<◌, ◌&&◌, ◌||◌, Bool, true, false, ◌^◌, List, length, map, nat_lt, slice_get, slice_index_or, IsSome, Option, Some, None, if◌then◌else◌, refl, sym, ap, subst, ◌∙◌, arith, false≢true, nat_tests, get_or_from_slice_get, or_parts, Account, counted_for, cursor_next, moves_on, part_now, Judged, Kind, length_of, moved_of, AsksOn, has_hint, kept_of, asked_of, cursor_of, target_of, window_by, is_syncing, write_kind, Asking, WriteAtRequest, WriteAtState, HasPage, CoversIn, HasStretch, File, Store, file_of, OpenState, account_by, account_in, bytes_left, Operation, asks_hint, with_hint, same_kind, is_of_file, Open, no_open, Record, file_named, is_cancel, account_seen, open_seen}, Lined.mapped, SparedRecord.there_within}, specs.{Submitting.takes_hint, Carried.HasStretchFor, Flown.is_poll, Gates.{AreLinedUp, has_hint_at, may_ask_hint}}}

-- ITS OPERATIONS are neither cancels nor the wake poll

pub operates : (h : Bool) (q : Asking) → is_cancel (window_by h q).kind ≡ false
operates = grind arith

pub unpolled : (h : Bool) (q : Asking) → is_poll (window_by h q).kind ≡ false
unpolled = grind arith

-- THE ROOM in its file

moved_there : (w : WriteAtRequest) → is_syncing w.state ≡ false → (cursor_of (Asking.WriteAt w)).moved ≡ moved_of w.write
moved_there w writes = rw writes refl

writes_kind : (x : WriteAtState) → write_kind x ≡ Kind.Send → ⊥
writes_kind = grind arith

pub stretch_kept : (q q' : Asking) (h : Bool) (st : Store) → kept_of q' ≡ kept_of q → window_by true q' ≡ window_by h q → (cursor_of q').moved ≡ (cursor_of q).moved → (cursor_of q').switched ≡ (cursor_of q).switched → HasStretchFor q st → HasStretchFor q' st
stretch_kept = grind arith

-- a stretch within that stretch
covers_part : (o : Option File) (from to n m : ℕ) → ((k : ℕ) → k < m → (j : ℕ) × (to + k ≡ from + j) × (j < n)) → (n ≡ 0 → m ≡ 0) → CoversIn o from n → CoversIn o to m
covers_part None from to n m part none h = none h
covers_part (Some f) from to n m part none h = λ k less. let it = part k less in subst (λ a. HasPage f (a / 4096)) (sym it.1) (h it.0 it.2)

-- where it goes on after a result there is room for the rest
pub stretch_judged : (q q' : Asking) (j : Judged) (st : Store) → kept_of q' ≡ kept_of q → cursor_of q' ≡ cursor_next (asked_of q) (cursor_of q) j → HasStretchFor q st → HasStretchFor q' st
stretch_judged (Asking.WriteAt x) (Asking.WriteAt w) j st kept cursor has = λ writes.
    let asked = asked_of (Asking.WriteAt x) in
    let was = cursor_of (Asking.WriteAt x) in
    let both = or_parts (is_syncing x.state) (moves_on asked was j) (sym (ap (λ c. c.switched) cursor) ∙ writes) in
    let before : was.moved ≡ moved_of x.write = moved_there x both.0 in
    let more : moved_of w.write ≡ was.moved + counted_for (part_now asked was) j.result =
    sym (moved_there w writes) ∙ ap (λ c. c.moved) cursor ∙ ap (λ b. if b then 0 else was.moved + counted_for (part_now asked was) j.result) both.1 in
    let length : length_of w.write ≡ length_of x.write = ap (λ k. k.asked.length) kept in
    let place : w.offset + (length_of w.write - moved_of w.write) ≡ x.offset + (length_of x.write - moved_of x.write) = ap (λ k. k.place) kept in
    subst (λ f. HasStretch st f w.offset (bytes_left w.write)) (sym (ap (λ k. k.target) kept))
    (covers_part (get nat_cmp st.files x.file) x.offset w.offset (bytes_left x.write) (bytes_left w.write)
    (λ k less. (moved_of w.write - moved_of x.write + k, omega (arith, less, before, more, length, place), omega (arith, less, before, more, length)))
    (λ none. omega (arith, none, before, more, length))
    (has both.0))
stretch_judged (Asking.Send s) (Asking.WriteAt w) j st kept cursor has = absurd (writes_kind w.state (ap (λ k. k.asked.kind) kept))
stretch_judged _ (Asking.WriteAt w) j st kept cursor has = absurd (cc (ap (λ k. k.owned) kept))
stretch_judged q _ j st kept cursor has = tt

-- THE HINT: a record asks for it just where its next operation has it

no_hint : (k : Kind) (switched : Bool) → may_ask_hint k ≡ false → (same_kind k Kind.Hint || (same_kind k Kind.Direct && switched)) ≡ false
no_hint = grind arith

pub no_record_hint : (o : Operation) (k : Kind) (stands : Bool) → o.kind ≡ k → may_ask_hint k ≡ false → (asks_hint o && o.unrefused && stands) ≡ false
no_record_hint o k stands is none =
    ap (λ b. b && o.unrefused && stands) (no_hint o.kind o.switched (ap may_ask_hint is ∙ none))

-- what a record and its driver say of its wish
pub record WishAlike (q : Asking) (o : Operation) (stands : Bool) : Type 0 where
  pub kind : o.kind ≡ (asked_of q).kind
  pub switched : o.switched ≡ (cursor_of q).switched
  pub asks : (cursor_of q).hinted ≡ true → (may_ask_hint o.kind ≡ true) × (o.unrefused ≡ true)
  pub none : may_ask_hint o.kind ≡ true → o.unrefused ≡ true → (cursor_of q).hinted ≡ false → stands ≡ false

-- its next operation has the hint where its record says so
pub hint_alike : (q : Asking) (o : Operation) (stands : Bool) → WishAlike q o stands → (asks_hint o && o.unrefused && stands) ≡ (window_by stands q).hint
hint_alike = grind arith

-- after it is staged it asks as before, or its open has no hint
pub asks_after : (before after stands : Bool) → AsksOn before after stands → after ≡ true → before ≡ true
asks_after = grind arith

-- THE OPEN

-- what an open shows is there
pub open_there : (rs : List Record) (opens : List OpenState) (file : ℕ) (o : OpenState) → slice_get opens file ≡ Some o → slice_index_or (map (open_seen rs) opens) file no_open ≡ open_seen rs o
open_there rs opens file o there = get_or_from_slice_get (map (open_seen rs) opens) file (open_seen rs o) no_open (mapped (open_seen rs) opens file o there)

named_there : (file : ℕ) → file < 2 ^ 32 → file_named file ≡ Some file
named_there file small = let is : nat_lt file (2 ^ 32) ≡ true = grind (arith, nat_tests) in ap (λ b. if b then Some file else None) is

pub takes_named : (opens : List OpenState) (file : ℕ) → file < 2 ^ 32 → takes_hint opens file ≡ has_hint_at opens file
takes_named opens file small = ap (λ f. has_hint (account_in opens f)) (named_there file small)

pub takes_none : (opens : List OpenState) (file : ℕ) → has_hint_at opens file ≡ false → takes_hint opens file ≡ false
takes_none = grind arith

-- the window has the hint by the open that its request names
pub hint_of_open : (q : Asking) (opens : List OpenState) (target : ℕ) → target ≡ target_of q → (is_of_file (asked_of q).kind ≡ true → target < 2 ^ 32) → (window_by (takes_hint opens target) q).hint ≡ (window_by (has_hint (account_in opens (file_of q))) q).hint
hint_of_open = grind arith

may_of_file : (k : Kind) → may_ask_hint k ≡ true → is_of_file k ≡ true
may_of_file = grind arith

some_there : (a : Option Account) → IsSome a → (x : Account) × (a ≡ Some x)
some_there None h = absurd (false≢true h)
some_there (Some x) h = (x, refl)

-- and the machine sees the same of its open
pub hint_seen : (rs : List Record) (opens : List OpenState) (o : Operation) → AreLinedUp opens rs → (is_of_file o.kind ≡ true → o.target < length opens)
    → with_hint (takes_hint opens o.target) o ≡ with_hint (slice_index_or (map (open_seen rs) opens) o.target no_open).account.hinted o
hint_seen rs opens o lined within = by (may_ask_hint o.kind) refl
  where
    by : (b : Bool) → may_ask_hint o.kind ≡ b → with_hint (takes_hint opens o.target) o ≡ with_hint (slice_index_or (map (open_seen rs) opens) o.target no_open).account.hinted o
    by false none =
        ap (λ b. record o { hinted = b })
        (no_record_hint o o.kind (takes_hint opens o.target) refl none ∙ sym (no_record_hint o o.kind (slice_index_or (map (open_seen rs) opens) o.target no_open).account.hinted refl none))
    by true may =
        let inside = within (may_of_file o.kind may) in
        let it = there_within opens o.target inside in
        let kept = some_there it.0.account (lined.lines o.target it.0 it.1).kept in
        let named : takes_hint opens o.target ≡ has_hint_at opens o.target = takes_named opens o.target (omega (arith, inside, lined.few)) in
        ap (λ b. with_hint b o)
        (named ∙ ap has_hint (ap account_by it.1 ∙ kept.1) ∙ sym (ap (λ (x : Open). x.account.hinted) (open_there rs opens o.target it.0 it.1) ∙ ap (λ a. (account_seen a).hinted) kept.1))
