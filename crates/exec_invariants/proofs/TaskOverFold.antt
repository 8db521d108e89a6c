-- A TASK THAT IS OVER lets go of all requests that it held, one after another: what its worker has then, and what is seen of it.
use Rattle.exec_invariants.{specs.{Gates.AreLinedUp, Holding.thing_of, Sound.served_in}, proofs.{Words.{◌≡◌, ◌≢◌, ℕ, zero, suc, ◌+◌, ◌<◌, ◌≤◌, ◌==◌, Bool, true, false, not, cond, filter, List, [], ◌∷◌, ◌++◌, count_by, map, Some, None, refl, sym, ap, subst, ◌∙◌, arith, append_assoc, slice_get, slice_index_or, slice_set, if◌then◌else◌, false≢true, eq-eqb, append-nil, sum_by-cons, get_or_from_slice_get, is_durable, Letter, Request, RequestPhase, Resolved, dropped, ends_by_drop, own_after_drop, own_after_drops, owes_letter, requests_after_drops, is_phase_queued as is_queued, is_resolved, Common, Own, no_request, request_of, Desk, lets_go_request, lets_go_requests, told_of_drop, Held, Record, Shared, Worker, LetsGo, drops, LetsGoAll, here, elsewhere, others_of, numbers_held, changed_at, changed_in, desk_of, letter_of_request, own_of, visible, by_number, not_same, same_Some, set_elsewhere, set_there}, Showing.map_set, HoldRedo.count_set, HoldSteps.held_in, Keys.{name_in, names_changed}, Lined.{KeepsLines, SameAtGate, lined_kept, lines_changed, lines_on, lines_same, mapped}, ServingHolds.Keeps, TaskOverHolds.{LetsThing, things_then, thing_same}}}

-- ONE REQUEST that nobody holds any more

pub queued_unresolved : (p : RequestPhase) → is_queued p ≡ true → is_resolved p ≡ false
queued_unresolved (Resolved outcome) h = absurd (false≢true h)
queued_unresolved _ h = refl

-- it is queued, and no durable one
pub ends_plain : (r : Record) → ends_by_drop r.shown ≡ true → (is_queued r.shown.phase ≡ true) × (is_durable r.shown.operation.kind ≡ false)
ends_plain = grind arith

pub dropped_thing : (r : Record) → LetsThing 1 (thing_of r) (thing_of (drops r))
dropped_thing = grind arith

pub dropped_name : (r : Record) → name_in (drops r) ≡ name_in r
dropped_name = grind arith

pub dropped_at_gate : (r : Record) → SameAtGate r (drops r)
dropped_at_gate = grind arith

pub dropped_worker : (r : Record) → (drops r).shown.worker ≡ r.shown.worker
dropped_worker = grind arith

told_letters : (k : ℕ) (it : Request) (d : Desk) (ls : List Letter) → told_of_drop k it (record d { letters = ls }) ≡ record (told_of_drop k it d) { letters = ls }
told_letters = grind arith

-- WHAT A LIST HOLDS of worker i

abbrev pub mine_of : ℕ → List Held → List Held
mine_of i hs = filter (λ h. h.worker == i) hs

pub own_in : ℕ → List Held → ℕ → ℕ
own_in i hs k = held_in k (mine_of i hs)

abbrev pub letters_for : ℕ → List Held → List Letter
letters_for i hs = map letter_of_request (others_of i hs)

pub held_first : (k : ℕ) (h : Held) (hs : List Held) → held_in k (h ∷ hs) ≡ cond (h.number == k) 1 0 + held_in k hs
held_first k h hs = sum_by-cons (λ (x : Held). cond (x.number == k) 1 0) h hs

none_held : (i k : ℕ) → own_in i [] k ≡ 0
unfolding own_in
none_held i k = refl

own_first : (i k : ℕ) (h : Held) (hs : List Held) → h.worker ≡ i → own_in i (h ∷ hs) k ≡ cond (h.number == k) 1 0 + own_in i hs k
unfolding own_in
own_first i k h hs is = ap (λ b. held_in k (if b then h ∷ mine_of i hs else mine_of i hs)) (eq-eqb h.worker i is) ∙ held_first k h (mine_of i hs)

own_later : (i k : ℕ) (h : Held) (hs : List Held) → h.worker ≢ i → own_in i (h ∷ hs) k ≡ own_in i hs k
unfolding own_in
own_later i k h hs other = ap (λ b. held_in k (if b then h ∷ mine_of i hs else mine_of i hs)) (not_same h.worker i other)

-- all that is held is the worker's, or another's
pub all_held : (i k : ℕ) (hs : List Held) → held_in k hs ≡ own_in i hs k + held_in k (others_of i hs)
unfolding own_in
all_held i k [] = refl
all_held i k (h ∷ hs) = by (h.worker == i) (all_held i k hs)
  where
    by : (b : Bool) → held_in k hs ≡ held_in k (mine_of i hs) + held_in k (others_of i hs)
        → held_in k (h ∷ hs) ≡ held_in k (if b then h ∷ mine_of i hs else mine_of i hs) + held_in k (if not b then h ∷ others_of i hs else others_of i hs)
    by true rest = let a = held_first k h hs in let b = held_first k h (mine_of i hs) in omega (arith, rest, a, b)
    by false rest = let a = held_first k h hs in let b = held_first k h (others_of i hs) in omega (arith, rest, a, b)

letters_here : (i : ℕ) (h : Held) (hs : List Held) → h.worker ≡ i → letters_for i (h ∷ hs) ≡ letters_for i hs
letters_here i h hs is = ap (λ b. map letter_of_request (if not b then h ∷ others_of i hs else others_of i hs)) (eq-eqb h.worker i is)

letters_more : (i : ℕ) (h : Held) (hs : List Held) → h.worker ≢ i → letters_for i (h ∷ hs) ≡ letter_of_request h ∷ letters_for i hs
letters_more i h hs other = ap (λ b. map letter_of_request (if not b then h ∷ others_of i hs else others_of i hs)) (not_same h.worker i other)

-- what is held is there, and held once
pub record HoldsAll (hs : List Held) (rs : List Record) : Type 0 where
  pub there : (j : ℕ) (x : Held) → slice_get hs j ≡ Some x → (r : Record) × (slice_get rs x.number ≡ Some r) × (r.shown.worker ≡ x.worker) × (r.shown.observed ≡ true)
  pub once : (k : ℕ) → held_in k hs ≤ 1

-- the machine sees these
abbrev pub SeesAll : Common → List Held → List Record → Type 0
SeesAll all hs rs = (j : ℕ) (x : Held) (r : Record) → slice_get hs j ≡ Some x → slice_get rs x.number ≡ Some r → request_of all x.number ≡ r.shown

-- another than the first
later_apart : (h : Held) (hs : List Held) → ((k : ℕ) → held_in k (h ∷ hs) ≤ 1) → (j : ℕ) (x : Held) → slice_get hs j ≡ Some x → x.number ≢ h.number
later_apart h hs once j x at same =
    let unit : ℕ = 1 in
    let one : cond (h.number == h.number) 1 0 ≡ unit = ap (λ b. cond b 1 0) (eq-eqb h.number h.number refl) in
    omega (arith, once h.number, held_first h.number h hs, one, counted hs j at)
  where
    counted : (ys : List Held) (n : ℕ) → slice_get ys n ≡ Some x → 0 < held_in h.number ys
    counted [] n at = absurd (cc)
    counted (y ∷ ys) zero at =
        let is : y ≡ x = cc in
        let unit : ℕ = 1 in
        let one : cond (y.number == h.number) 1 0 ≡ unit = ap (λ (z : Held). cond (z.number == h.number) 1 0) is ∙ ap (λ b. cond b 1 0) (eq-eqb x.number h.number same) in
        omega (arith, held_first h.number y ys, one)
    counted (y ∷ ys) (suc n) at = let sums = held_first h.number y ys in let rest = counted ys n at in omega (arith, sums, rest)

pub later_once : (h : Held) (hs : List Held) → ((k : ℕ) → held_in k (h ∷ hs) ≤ 1) → (k : ℕ) → held_in k hs ≤ 1
later_once h hs once k = let first = held_first k h hs in omega (arith, once k, first)

module _ {B : Type 0} where
  -- ONE OF THE WORKER'S IS LET GO OF: what holds, and what is seen of it
  pub record SeenLet (k : ℕ) (r : Record) (w v : Worker) (s s' : Shared B) : Type 0 where
    pub keeps : Keeps v s'
    pub own : (all : Common) → request_of all k ≡ r.shown → own_of v ≡ own_after_drop (own_of w) all k
    pub desk : desk_of v ≡ told_of_drop k r.shown (desk_of w)
    pub shows : visible v ≡ visible w

abbrev pub LetsSeen : (B : Type 0) → Type 0
LetsSeen B = (k : ℕ) (w v : Worker) (s s' : Shared B) → served_in w.place ≡ None → AreLinedUp s.opens s.requests.items → Keeps w s → (lets : LetsGo k w v s s') → lets.r.shown.worker ≡ w.index → lets.r.shown.observed ≡ true → SeenLet k lets.r w v s s'

module _ {B : Type 0} where
  -- ALL ARE
  pub record AllLet (i : ℕ) (hs : List Held) (w v : Worker) (s now : Shared B) : Type 0 where
    pub keeps : Keeps v now
    pub worker : v ≡ record w { names = record w.names { ended = v.names.ended }; home = record w.home { driver = v.home.driver; deferred = v.home.deferred } }
    pub kept : now ≡ record s { requests = now.requests }
    pub shows : visible v ≡ visible w
    pub lines : KeepsLines s.requests.items now.requests.items
    pub names : map name_in now.requests.items ≡ map name_in s.requests.items
    pub shown : map (λ (r : Record). r.shown) now.requests.items ≡ requests_after_drops i (numbers_held hs) (map (λ (r : Record). r.shown) s.requests.items)
    pub own : (all : Common) → SeesAll all hs s.requests.items → (owed : List Letter) → own_after_drops all i (numbers_held hs) (record (own_of w) { owed = owed }) ≡ record (own_of v) { owed = owed ++ letters_for i hs }
    pub desk : (all : Common) → SeesAll all hs s.requests.items → (ls : List Letter) → lets_go_requests i all (numbers_held hs) (record (desk_of w) { letters = ls }) ≡ record (desk_of v) { letters = ls ++ letters_for i hs }
    pub on : (k : ℕ) (r : Record) → slice_get s.requests.items k ≡ Some r → (r' : Record) × (slice_get now.requests.items k ≡ Some r') × LetsThing (own_in i hs k) (thing_of r) (thing_of r')
    pub back : (k : ℕ) (r' : Record) → slice_get now.requests.items k ≡ Some r' → (r : Record) × (slice_get s.requests.items k ≡ Some r) × LetsThing (own_in i hs k) (thing_of r) (thing_of r')
    pub of : (j : ℕ) → count_by (λ t. t.worker == j) (map thing_of now.requests.items) ≡ count_by (λ t. t.worker == j) (map thing_of s.requests.items)
    pub others : (k : ℕ) (r : Record) → slice_get s.requests.items k ≡ Some r → r.shown.worker ≢ i → slice_get now.requests.items k ≡ Some r
    pub others_only : (k : ℕ) (r : Record) → slice_get now.requests.items k ≡ Some r → r.shown.worker ≢ i → slice_get s.requests.items k ≡ Some r

  none_let : (i : ℕ) (w : Worker) (s : Shared B) → Keeps w s → AllLet i [] w w s s
  none_let = grind (arith, lines_same, append-nil, none_held, thing_same)

  -- another worker's is left
  left_out : (i : ℕ) (h : Held) (hs : List Held) (w v : Worker) (s now : Shared B) → h.worker ≢ i → HoldsAll (h ∷ hs) s.requests.items → AllLet i hs w v s now → AllLet i (h ∷ hs) w v s now
  left_out i h hs w v s now other holds ih =
      let k = h.number in
      let it = holds.there 0 h refl in
      let never : (it.0.shown.worker == i) ≡ false = not_same it.0.shown.worker i (λ is. other (sym it.2 ∙ is)) in
      let shown : List Request = map (λ (r : Record). r.shown) s.requests.items in
      let q_is : slice_index_or shown k no_request ≡ it.0.shown = get_or_from_slice_get shown k it.0.shown no_request (mapped (λ (r : Record). r.shown) s.requests.items k it.0 it.1) in
      let later : (all : Common) → SeesAll all (h ∷ hs) s.requests.items → SeesAll all hs s.requests.items = λ all sees j. sees (suc j) in
      let first : (all : Common) → SeesAll all (h ∷ hs) s.requests.items → request_of all k ≡ it.0.shown = λ all sees. sees 0 h it.0 refl it.1 in
      let shown_so : map (λ (r : Record). r.shown) now.requests.items ≡ requests_after_drops i (numbers_held (h ∷ hs)) (map (λ (r : Record). r.shown) s.requests.items) = grind (arith, ih.shown, q_is, never) in
      let own : (all : Common) → SeesAll all (h ∷ hs) s.requests.items → (owed : List Letter) → own_after_drops all i (numbers_held (h ∷ hs)) (record (own_of w) { owed = owed }) ≡ record (own_of v) { owed = owed ++ letters_for i (h ∷ hs) } = λ all sees owed.
      let me = record (own_of w) { owed = owed } in
      ap (λ (q : Request). own_after_drops all i (numbers_held hs) (if q.worker == i then own_after_drop me all k else owes_letter me q.worker (letter_of_request (record { number = k; worker = q.worker })))) (first all sees)
      ∙ ap (λ b. own_after_drops all i (numbers_held hs) (if b then own_after_drop me all k else owes_letter me it.0.shown.worker (letter_of_request (record { number = k; worker = it.0.shown.worker })))) never
      ∙ ap (λ j. own_after_drops all i (numbers_held hs) (owes_letter me j (letter_of_request (record { number = k; worker = j })))) it.2
      ∙ ih.own all (later all sees) (owed ++ letter_of_request h ∷ [])
      ∙ ap (λ ls. record (own_of v) { owed = ls }) (append_assoc owed (letter_of_request h ∷ []) (letters_for i hs) ∙ ap (λ ls. owed ++ ls) (sym (letters_more i h hs other))) in
      let desk : (all : Common) → SeesAll all (h ∷ hs) s.requests.items → (ls : List Letter) → lets_go_requests i all (numbers_held (h ∷ hs)) (record (desk_of w) { letters = ls }) ≡ record (desk_of v) { letters = ls ++ letters_for i (h ∷ hs) } = λ all sees ls.
      let d = record (desk_of w) { letters = ls } in
      ap (λ (q : Request). lets_go_requests i all (numbers_held hs) (lets_go_request i k q d)) (first all sees)
      ∙ ap (λ b. lets_go_requests i all (numbers_held hs) (if b then told_of_drop k it.0.shown d else record d { letters = ls ++ letter_of_request (record { number = k; worker = it.0.shown.worker }) ∷ [] })) never
      ∙ ap (λ j. lets_go_requests i all (numbers_held hs) (record d { letters = ls ++ letter_of_request (record { number = k; worker = j }) ∷ [] })) it.2
      ∙ ih.desk all (later all sees) (ls ++ letter_of_request h ∷ [])
      ∙ ap (λ xs. record (desk_of v) { letters = xs }) (append_assoc ls (letter_of_request h ∷ []) (letters_for i hs) ∙ ap (λ xs. ls ++ xs) (sym (letters_more i h hs other))) in
      let on : (k : ℕ) (r : Record) → slice_get s.requests.items k ≡ Some r → (r' : Record) × (slice_get now.requests.items k ≡ Some r') × LetsThing (own_in i (h ∷ hs) k) (thing_of r) (thing_of r') =
      λ j r there. let n = ih.on j r there in (n.0, n.1, subst (λ m. LetsThing m (thing_of r) (thing_of n.0)) (sym (own_later i j h hs other)) n.2) in
      let back : (k : ℕ) (r' : Record) → slice_get now.requests.items k ≡ Some r' → (r : Record) × (slice_get s.requests.items k ≡ Some r) × LetsThing (own_in i (h ∷ hs) k) (thing_of r) (thing_of r') =
      λ j r there. let n = ih.back j r there in (n.0, n.1, subst (λ m. LetsThing m (thing_of n.0) (thing_of r)) (sym (own_later i j h hs other)) n.2) in
      assumption (shown_so, own, desk, on, back, ih)

  -- one of its own is let go of, and then the rest
  let_go_too : (i : ℕ) (h : Held) (hs : List Held) (w u v : Worker) (s mid now : Shared B) → w.index ≡ i → h.worker ≡ i → (lets : LetsGo h.number w u s mid) → HoldsAll (h ∷ hs) s.requests.items → SeenLet h.number lets.r w u s mid → AllLet i hs u v mid now → AllLet i (h ∷ hs) w v s now
  let_go_too i h hs w u v s mid now index mine lets holds seen ih =
      let no_more : (n : ℕ) → 0 + n ≡ n = λ n. omega arith in
      let k = h.number in
      let r = lets.r in
      let rs = s.requests.items in
      let it = holds.there 0 h refl in
      let its : r.shown.worker ≡ i = ap (λ (x : Record). x.shown.worker) (same_Some r it.0 (sym lets.request ∙ it.1)) ∙ it.2 ∙ mine in
      let always : (r.shown.worker == i) ≡ true = eq-eqb r.shown.worker i its in
      let changed : mid.requests.items ≡ changed_at rs k drops = lets.records ∙ sym (ap (changed_in rs k drops) lets.request) in
      let shown : List Request = map (λ (x : Record). x.shown) rs in
      let q_is : slice_index_or shown k no_request ≡ r.shown = get_or_from_slice_get shown k r.shown no_request (mapped (λ (x : Record). x.shown) rs k r lets.request) in
      let shown_mid : map (λ (x : Record). x.shown) mid.requests.items ≡ slice_set shown k (dropped r.shown) = ap (map (λ (x : Record). x.shown)) lets.records ∙ map_set (λ (x : Record). x.shown) rs k (drops r) in
      let first : (all : Common) → SeesAll all (h ∷ hs) rs → request_of all k ≡ r.shown = λ all sees. sees 0 h r refl lets.request in
      let later : (all : Common) → SeesAll all (h ∷ hs) rs → SeesAll all hs mid.requests.items = λ all sees j x y at_j at_k.
      sees (suc j) x y at_j (sym (set_elsewhere rs k x.number (drops r) (later_apart h hs holds.once j x at_j)) ∙ ap (λ ys. slice_get ys x.number) (sym lets.records) ∙ at_k) in
      let own_more : (n : ℕ) → own_in i (h ∷ hs) n ≡ cond (k == n) 1 0 + own_in i hs n = λ n. own_first i n h hs mine in
      let here : own_in i (h ∷ hs) k ≡ 1 + own_in i hs k = own_more k ∙ ap (λ b. cond b 1 0 + own_in i hs k) (eq-eqb k k refl) in
      let beside : (n : ℕ) → n ≢ k → own_in i (h ∷ hs) n ≡ own_in i hs n = λ n apart. own_more n ∙ ap (λ b. cond b 1 0 + own_in i hs n) (not_same k n (λ e. apart (sym e))) ∙ no_more (own_in i hs n) in
      let now_k : slice_get mid.requests.items k ≡ Some (drops r) = ap (λ ys. slice_get ys k) lets.records ∙ set_there rs k (drops r) r lets.request in
      let elsewhere_k : (n : ℕ) → n ≢ k → slice_get mid.requests.items n ≡ slice_get rs n = λ n apart. ap (λ ys. slice_get ys n) lets.records ∙ set_elsewhere rs k n (drops r) apart in
      let worker_so = ih.worker ∙ ap (λ (x : Worker). record x { names = record x.names { ended = v.names.ended }; home = record x.home { driver = v.home.driver; deferred = v.home.deferred } }) lets.worker in
      let kept = ih.kept ∙ ap (λ (x : Shared B). record x { requests = now.requests }) lets.kept in
      let lines = lines_on rs mid.requests.items now.requests.items (subst (KeepsLines rs) (sym changed) (lines_changed rs k r drops lets.request (dropped_at_gate r))) ih.lines in
      let names_so = ih.names ∙ ap (map name_in) changed ∙ names_changed rs k r drops lets.request (dropped_name r) in
      let shown_so : map (λ (r : Record). r.shown) now.requests.items ≡ requests_after_drops i (numbers_held (h ∷ hs)) (map (λ (r : Record). r.shown) s.requests.items) = ih.shown ∙ ap (requests_after_drops i (numbers_held hs)) shown_mid
      ∙ sym (ap (λ (q : Request). requests_after_drops i (numbers_held hs) (if q.worker == i then slice_set shown k (dropped q) else shown)) q_is
      ∙ ap (λ b. requests_after_drops i (numbers_held hs) (if b then slice_set shown k (dropped r.shown) else shown)) always) in
      let own : (all : Common) → SeesAll all (h ∷ hs) s.requests.items → (owed : List Letter) → own_after_drops all i (numbers_held (h ∷ hs)) (record (own_of w) { owed = owed }) ≡ record (own_of v) { owed = owed ++ letters_for i (h ∷ hs) } = λ all sees owed.
      let me = record (own_of w) { owed = owed } in
      ap (λ (q : Request). own_after_drops all i (numbers_held hs) (if q.worker == i then own_after_drop me all k else owes_letter me q.worker (letter_of_request (record { number = k; worker = q.worker })))) (first all sees)
      ∙ ap (λ b. own_after_drops all i (numbers_held hs) (if b then own_after_drop me all k else owes_letter me r.shown.worker (letter_of_request (record { number = k; worker = r.shown.worker })))) always
      ∙ ap (λ (x : Own). own_after_drops all i (numbers_held hs) (record x { owed = owed })) (sym (seen.own all (first all sees)))
      ∙ ih.own all (later all sees) owed
      ∙ ap (λ ls. record (own_of v) { owed = owed ++ ls }) (sym (letters_here i h hs mine)) in
      let desk : (all : Common) → SeesAll all (h ∷ hs) s.requests.items → (ls : List Letter) → lets_go_requests i all (numbers_held (h ∷ hs)) (record (desk_of w) { letters = ls }) ≡ record (desk_of v) { letters = ls ++ letters_for i (h ∷ hs) } = λ all sees ls.
      let d = record (desk_of w) { letters = ls } in
      ap (λ (q : Request). lets_go_requests i all (numbers_held hs) (lets_go_request i k q d)) (first all sees)
      ∙ ap (λ b. lets_go_requests i all (numbers_held hs) (if b then told_of_drop k r.shown d else record d { letters = ls ++ letter_of_request (record { number = k; worker = r.shown.worker }) ∷ [] })) always
      ∙ ap (lets_go_requests i all (numbers_held hs)) (told_letters k r.shown (desk_of w) ls ∙ ap (λ (x : Desk). record x { letters = ls }) (sym seen.desk))
      ∙ ih.desk all (later all sees) ls
      ∙ ap (λ xs. record (desk_of v) { letters = ls ++ xs }) (sym (letters_here i h hs mine)) in
      let on : (k : ℕ) (r : Record) → slice_get s.requests.items k ≡ Some r → (r' : Record) × (slice_get now.requests.items k ≡ Some r') × LetsThing (own_in i (h ∷ hs) k) (thing_of r) (thing_of r') = λ n y there.
      by_number n k
      (λ apart. let z = ih.on n y (elsewhere_k n apart ∙ there) in (z.0, z.1, subst (λ m. LetsThing m (thing_of y) (thing_of z.0)) (sym (beside n apart)) z.2))
      (λ same.
      let is : r ≡ y = same_Some r y (sym lets.request ∙ ap (slice_get rs) (sym same) ∙ there) in
      let z = ih.on n (drops r) (ap (slice_get mid.requests.items) same ∙ now_k) in (
        z.0,
        z.1,
        subst (λ x. LetsThing (own_in i (h ∷ hs) n) (thing_of x) (thing_of z.0)) is
            (subst (λ m. LetsThing m (thing_of r) (thing_of z.0)) (ap (λ m. 1 + own_in i hs m) same ∙ sym here ∙ ap (own_in i (h ∷ hs)) (sym same)) (things_then 1 (own_in i hs n) (thing_of r) (thing_of (drops r)) (thing_of z.0) (dropped_thing r) z.2)),
      )) in
      let back : (k : ℕ) (r' : Record) → slice_get now.requests.items k ≡ Some r' → (r : Record) × (slice_get s.requests.items k ≡ Some r) × LetsThing (own_in i (h ∷ hs) k) (thing_of r) (thing_of r') = λ n y there.
      let z = ih.back n y there in
      by_number n k
      (λ apart. (z.0, sym (elsewhere_k n apart) ∙ z.1, subst (λ m. LetsThing m (thing_of z.0) (thing_of y)) (sym (beside n apart)) z.2))
      (λ same.
      let is : drops r ≡ z.0 = same_Some (drops r) z.0 (sym now_k ∙ ap (slice_get mid.requests.items) (sym same) ∙ z.1) in (
        r,
        ap (slice_get rs) same ∙ lets.request,
        subst (λ m. LetsThing m (thing_of r) (thing_of y)) (ap (λ m. 1 + own_in i hs m) same ∙ sym here ∙ ap (own_in i (h ∷ hs)) (sym same))
            (things_then 1 (own_in i hs n) (thing_of r) (thing_of (drops r)) (thing_of y) (dropped_thing r) (subst (λ x. LetsThing (own_in i hs n) (thing_of x) (thing_of y)) (sym is) z.2)),
      )) in
      let of : (j : ℕ) → count_by (λ t. t.worker == j) (map thing_of now.requests.items) ≡ count_by (λ t. t.worker == j) (map thing_of s.requests.items) = λ j.
      ih.of j ∙ ap (λ ys. count_by (λ t. t.worker == j) (map thing_of ys)) lets.records ∙ ap (count_by (λ t. t.worker == j)) (map_set thing_of rs k (drops r))
      ∙ count_set (λ t. t.worker == j) (map thing_of rs) k (thing_of r) (thing_of (drops r)) (mapped thing_of rs k r lets.request) (ap (λ n. n == j) (dropped_worker r)) in
      let others : (k : ℕ) (r : Record) → slice_get s.requests.items k ≡ Some r → r.shown.worker ≢ i → slice_get now.requests.items k ≡ Some r = λ n y there theirs.
      let apart : n ≢ k = λ same. theirs (ap (λ (x : Record). x.shown.worker) (same_Some y r (sym there ∙ ap (slice_get rs) same ∙ lets.request)) ∙ its) in
      ih.others n y (elsewhere_k n apart ∙ there) theirs in
      let others_only : (k : ℕ) (r : Record) → slice_get now.requests.items k ≡ Some r → r.shown.worker ≢ i → slice_get s.requests.items k ≡ Some r = λ n y there theirs.
      let before = ih.others_only n y there theirs in
      let apart : n ≢ k = λ same. theirs (ap (λ (x : Record). x.shown.worker) (same_Some y (drops r) (sym before ∙ ap (slice_get mid.requests.items) same ∙ now_k)) ∙ dropped_worker r ∙ its) in
      sym (elsewhere_k n apart) ∙ before in
      assumption (worker_so, kept, ih.shows ∙ seen.shows, lines, names_so, shown_so, own, desk, on, back, of, others, others_only, ih)

  -- the rest is there still
  pub holds_later : (h : Held) (hs : List Held) (w u : Worker) (s mid : Shared B) → (lets : LetsGo h.number w u s mid) → HoldsAll (h ∷ hs) s.requests.items → HoldsAll hs mid.requests.items
  holds_later h hs w u s mid lets holds =
      record {
        there = λ j x at.
            let it = holds.there (suc j) x at in
            (it.0, ap (λ ys. slice_get ys x.number) lets.records ∙ set_elsewhere s.requests.items h.number x.number (drops lets.r) (later_apart h hs holds.once j x at) ∙ it.1, it.2, it.3);
        once = later_once h hs holds.once;
      }

  -- and so are gates
  pub gates_later : (k : ℕ) (w u : Worker) (s mid : Shared B) → LetsGo k w u s mid → AreLinedUp s.opens s.requests.items → AreLinedUp mid.opens mid.requests.items
  gates_later k w u s mid lets gates =
      let changed : mid.requests.items ≡ changed_at s.requests.items k drops = lets.records ∙ sym (ap (changed_in s.requests.items k drops) lets.request) in
      let lines : KeepsLines s.requests.items mid.requests.items = subst (KeepsLines s.requests.items) (sym changed) (lines_changed s.requests.items k lets.r drops lets.request (dropped_at_gate lets.r)) in
      subst (λ o. AreLinedUp o mid.requests.items) (sym (ap (λ (x : Shared B). x.opens) lets.kept)) (lined_kept s.requests.items mid.requests.items lines s.opens gates)

  pub let_all : (i : ℕ) (hs : List Held) (w v : Worker) (s now : Shared B) → LetsSeen B → w.index ≡ i → served_in w.place ≡ None → AreLinedUp s.opens s.requests.items → Keeps w s → HoldsAll hs s.requests.items → LetsGoAll hs w v s now → AllLet i hs w v s now
  let_all i [] w v s now seen index idle gates keeps holds lets = subst (λ y. AllLet i [] w v s y) (sym lets.1) (subst (λ x. AllLet i [] w x s s) (sym lets.0) (none_let i w s keeps))
  let_all i (h ∷ hs) w v s now seen index idle gates keeps holds (u, mid, one, rest) =
      elim one [
        | here mine lets ↦
            let it = holds.there 0 h refl in
            let same : lets.r ≡ it.0 = same_Some lets.r it.0 (sym lets.request ∙ it.1) in
            let of_w : lets.r.shown.worker ≡ w.index = ap (λ (x : Record). x.shown.worker) same ∙ it.2 ∙ mine in
            let step = seen h.number w u s mid idle gates keeps lets of_w (ap (λ (x : Record). x.shown.observed) same ∙ it.3) in
            let_go_too i h hs w u v s mid now index (mine ∙ index) lets holds step
            (let_all i hs u v mid now seen (ap (λ (x : Worker). x.index) lets.worker ∙ index) (ap (λ (x : Worker). served_in x.place) lets.worker ∙ idle) (gates_later h.number w u s mid lets gates) step.keeps (holds_later h hs w u s mid lets holds) rest)
        | elsewhere other worker shared ↦
            let holds_too : HoldsAll hs s.requests.items = record { there = λ j. holds.there (suc j); once = later_once h hs holds.once } in
            left_out i h hs w v s now (λ is. other (is ∙ sym index)) holds
            (let_all i hs w v s now seen index idle gates keeps holds_too (subst (λ y. LetsGoAll hs w v y now) shared (subst (λ x. LetsGoAll hs x v mid now) worker rest)))
      ]
