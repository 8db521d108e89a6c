-- At which gate a request of a worker waits first: its driver says it as the machine does.
use Rattle.exec_invariants.{proofs.{Names.{◌≡◌, ◌⊎◌, ℕ, zero, suc, ◌+◌, ◌<◌, ◌≤◌, ◌&&◌, ◌||◌, Bool, true, false, not, List, [], ◌∷◌, length, map, nat_le, Option, Some, None, refl, sym, ap, subst, ◌∙◌, arith, inl, inr, slice_get, false≢true, nat_tests, eq-eqb, list_any, any_passes_from_place, Slab, value_at, Id, is_durable, Kind, Sleeping, asked_of, gate_of, target_of, asks_cancel, Asking, gate_in, needs_permit, waiter_at, Entry, Waiter, WaiterId, entry_of, Driving, request_at, waits_gated, ListsRequests, lower, lowest_gate, gate_from, is_among, same_tells, OpenState, WaiterKey, Store, Request, RequestPhase, is_gated, is_of_file, is_resolved, Common, InService, first_numbered, next_gate, waits_at, Reply, Names, Record, SleeperRecord, number_in, and_right, and_parts, and_from, false_from_ne_true, same_Some}, Idling.{first_none, none_any, shown_at}, Lined.mapped, SparedRecord.there_within}, specs.{Carried.IsCarried, Flown.HasFlown, Gates.AreLinedUp, Names.{IsAlike, IsNamed}}}

-- ITS GATE

pub gate_there : (q : Asking) → is_durable (asked_of q).kind ≡ true → gate_of q ≡ Some (target_of q)
gate_there = grind arith

-- THE LEAST

-- what stands among these
pub record StandsIn (s : Slab (Entry Reply Reply)) (ids : List WaiterId) (file : ℕ) : Type 0 where
  pub id : WaiterId
  pub among : is_among id ids ≡ true
  pub gate : gate_in (waiter_at s id.0) ≡ Some file

later : (s : Slab (Entry Reply Reply)) (x : WaiterId) (ids : List WaiterId) (file : ℕ) → StandsIn s ids file → StandsIn s (x ∷ ids) file
later = grind arith

pub first_in : (id : WaiterId) (ids : List WaiterId) → is_among id (id ∷ ids) ≡ true
first_in id ids = rw (eq-eqb id.0.index id.0.index refl, eq-eqb id.0.generation id.0.generation refl) refl

-- whichever is the least stands there, or was known before
pub least_stands : (from : ℕ) (s : Slab (Entry Reply Reply)) (ids : List WaiterId) (least : Option ℕ) (file : ℕ) → lowest_gate from s ids least ≡ Some file → (least ≡ Some file) ⊎ StandsIn s ids file
least_stands from s [] least file is = inl is
least_stands from s (id ∷ ids) least file is = grind (arith, first_in, nat_tests, later, least_stands from s ids (lower from least (gate_in (waiter_at s id.0))) file is)

-- no gate from this number on is below it
abbrev pub IsBelow : Option ℕ → ℕ → Type 0
IsBelow None g = ⊥
IsBelow (Some file) g = file ≤ g

below_lowered : (from g m : ℕ) (o : Option ℕ) → IsBelow o m → IsBelow (lower from o (Some g)) m
below_lowered = grind arith

below_step : (from m : ℕ) (least o : Option ℕ) → IsBelow least m → IsBelow (lower from least o) m
below_step from m least None h = h
below_step from m least (Some g) h = below_lowered from g m least h

below_rest : (from m : ℕ) (s : Slab (Entry Reply Reply)) (ids : List WaiterId) (least : Option ℕ) → IsBelow least m → IsBelow (lowest_gate from s ids least) m
below_rest from m s [] least h = h
below_rest from m s (id ∷ ids) least h = below_rest from m s ids (lower from least (gate_in (waiter_at s id.0))) (below_step from m least (gate_in (waiter_at s id.0)) h)

below_here : (from g : ℕ) (o : Option ℕ) → from ≤ g → IsBelow (lower from o (Some g)) g
below_here = grind arith

pub least_below : (from : ℕ) (s : Slab (Entry Reply Reply)) (ids : List WaiterId) (least : Option ℕ) (id : WaiterId) (g : ℕ) → is_among id ids ≡ true → gate_in (waiter_at s id.0) ≡ Some g → from ≤ g → IsBelow (lowest_gate from s ids least) g
least_below from s [] least id g among at from_le = absurd (false≢true among)
least_below from s (x ∷ ids) least id g among at from_le =
    elim (same_tells x id) [
      | inl is ↦ grind (arith, below_rest, below_here)
      | inr other ↦ least_below from s ids (lower from least (gate_in (waiter_at s x.0))) id g (sym (ap (λ b. b || is_among id ids) other.0) ∙ among) at from_le
    ]

pub durable_of_file : (k : Kind) → is_durable k ≡ true → is_of_file k ≡ true
durable_of_file = grind arith

abbrev key_with : ℕ → WaiterId → WaiterKey
key_with worker id = record { worker = worker; id = id }

same_keys : (a b : ℕ) (x y : WaiterId) → a ≡ b → x ≡ y → key_with a x ≡ key_with b y
same_keys a b x y same is = ap (λ n. key_with n x) same ∙ ap (key_with b) is

-- WHAT IS SEEN

first_some : {X : Type 0} (test : ℕ → X → Bool) (n : ℕ) (xs : List X) (k : ℕ) (x : X) → slice_get xs k ≡ Some x → ((m : ℕ) → m ≡ n + k → test m x ≡ true)
    → ((j m : ℕ) (y : X) → j < k → slice_get xs j ≡ Some y → m ≡ n + j → test m y ≡ false) → (f : ℕ) → f ≡ n + k → first_numbered test n xs ≡ Some f
first_some test n [] k x there is before f so = absurd (let no : None ≡ Some x = there in cc)
first_some test n (y ∷ xs) zero x there is before f so = grind (arith, same_Some)
first_some test n (y ∷ xs) (suc k) x there is before f so =
    rw (before zero n y (omega arith) refl (omega arith))
    (first_some test (suc n) xs k x there (λ m at. is m (omega (arith, at)))
    (λ j m z less at so. before (suc j) m z (omega (arith, less)) at (omega (arith, so))) f (omega (arith, so)))

waiting_by : (i file : ℕ) (r : Request) → waits_at i file r ≡ true → (r.worker ≡ i) × (is_gated r.phase ≡ true) × (r.operation.target ≡ file)
waiting_by = grind arith

waiting_is : (i file : ℕ) (r : Request) → r.worker ≡ i → is_gated r.phase ≡ true → r.operation.target ≡ file → waits_at i file r ≡ true
waiting_is i file r mine gated target = rw (mine, gated, target, eq-eqb i i refl, eq-eqb file file refl) refl

below_none : (file : ℕ) (o : Option ℕ) → o ≡ None → IsBelow o file → ⊥
below_none file o none h = subst (λ y. IsBelow y file) none h

below_some : (file f : ℕ) (o : Option ℕ) → o ≡ Some f → IsBelow o file → f ≤ file
below_some file f o is h = subst (λ y. IsBelow y file) is h

pub ungated_open : (p : RequestPhase) → is_gated p ≡ true → is_resolved p ≡ false
ungated_open RequestPhase.Gated h = refl
ungated_open _ h = absurd (false≢true h)

module _ (x : Option InService) (i : ℕ) (n : Names) (d : Driving Reply Reply) (zs : Slab (Sleeping Reply)) (rs : List Record) (ss : List SleeperRecord) (opens : List OpenState) (st : Store)
    (named : IsNamed i n d zs rs ss) (flown : HasFlown x i n d rs) (carried : IsCarried n.requests.items d.requests d.ring rs st) (lined : AreLinedUp opens rs) where
  -- a record of the worker that isn't over stands at its driver, by its name
  pub record StandsAtDriver (k : ℕ) (r : Record) : Type 0 where
    pub it : Waiter Reply Reply
    pub live : waiter_at d.requests r.id.0 ≡ Some it
    pub number : number_in n.requests.items r.id.0 ≡ k
    pub alike : IsAlike d.wheel.start d.wheel.tick it r.shown

  pub stands_there : (k : ℕ) (r : Record) → slice_get rs k ≡ Some r → r.shown.worker ≡ i → is_resolved r.shown.phase ≡ false → StandsAtDriver k r
  stands_there k r there mine open_still = by (waiter_at d.requests r.id.0) refl
    where
      by : (o : Option (Waiter Reply Reply)) → waiter_at d.requests r.id.0 ≡ o → StandsAtDriver k r
      by None gone = absurd (false≢true (sym open_still ∙ named.over k r there mine gone))
      by (Some it) live =
          let old = named.requests r.id.0 (rw (entry_of (value_at d.requests r.id.0) it live) refl) in
          let number = lined.unique (number_in n.requests.items r.id.0) k old.0 r old.1 there (same_keys old.0.shown.worker r.shown.worker old.0.id r.id (old.3 ∙ sym mine) (ap (λ (y : Id). record { 0 = y }) old.2)) in
          record { it = it; live = live; number = number; alike = named.alike r.id.0 it r live (ap (slice_get rs) number ∙ there) }

  gate_listed : (k : ℕ) (r : Record) → slice_get rs k ≡ Some r → r.shown.worker ≡ i → is_gated r.shown.phase ≡ true → StandsIn d.requests d.lists.gated r.shown.operation.target
  gate_listed k r there mine gated =
      let it = stands_there k r there mine (ungated_open r.shown.phase gated) in
      let needs : needs_permit it.it ≡ true = sym it.alike.permit ∙ gated in
      let durable = (and_parts (is_durable (asked_of it.it.request).kind) (not it.it.permit) needs).0 in
      record {
        id = r.id;
        among = flown.gated r.id it.it it.live needs;
        gate = ap gate_in it.live ∙ gate_there it.it.request durable ∙ ap (λ m. Some m) (sym (carried.target r.id.0 it.it r it.live (ap (slice_get rs) it.number ∙ there)));
      }

  -- who stands in the driver's list waits there
  pub record WaitsThere (file : ℕ) (id : WaiterId) : Type 0 where
    pub it : Waiter Reply Reply
    pub r : Record
    pub live : waiter_at d.requests id.0 ≡ Some it
    pub there : slice_get rs (number_in n.requests.items id.0) ≡ Some r
    pub name : r.id.0 ≡ id.0
    pub mine : r.shown.worker ≡ i
    pub gated : is_gated r.shown.phase ≡ true
    pub target : r.shown.operation.target ≡ file
    pub alike : IsAlike d.wheel.start d.wheel.tick it r.shown

  pub waits_there : (file : ℕ) (id : WaiterId) → waits_gated (request_at d id) ≡ true → gate_in (waiter_at d.requests id.0) ≡ Some file → WaitsThere file id
  waits_there file id waits gate = by (request_at d id) refl
    where
      by : (o : Option (Waiter Reply Reply)) → request_at d id ≡ o → WaitsThere file id
      by None gone = absurd (false≢true (ap waits_gated (sym gone) ∙ waits))
      by (Some it) live =
          let old = named.requests id.0 (rw (entry_of (value_at d.requests id.0) it live) refl) in
          let a = named.alike id.0 it old.0 live old.1 in
          let parts = and_parts (not it.in_flight && needs_permit it) (not (asks_cancel it.state)) (ap waits_gated (sym live) ∙ waits) in
          let needs = (and_parts (not it.in_flight) (needs_permit it) parts.0).1 in
          let durable = (and_parts (is_durable (asked_of it.request).kind) (not it.permit) needs).0 in
          let here : Some (target_of it.request) ≡ Some file = sym (gate_there it.request durable) ∙ ap gate_in (sym live) ∙ gate in
          grind (arith, it, old.0, live, old.1, old.2, old.3, a.permit, needs, carried.target, id.0, same_Some, target_of, it.request, file, here)

  -- none waits below what the driver says
  none_waits_at : (gate j : ℕ) → gate ≤ j → (IsBelow (lowest_gate gate d.requests d.lists.gated None) j → ⊥) → list_any (waits_at i j) (map (λ r. r.shown) rs) ≡ false
  none_waits_at gate j from_le apart =
      none_any (waits_at i j) (map (λ r. r.shown) rs)
      (λ k y at.
      let f = shown_at rs k y at in
      false_from_ne_true (waits_at i j y)
      (λ waits.
      let w = waiting_by i j f.0.shown (ap (waits_at i j) (sym f.2) ∙ waits) in
      let listed = gate_listed k f.0 f.1 w.0 w.1 in
      apart (least_below gate d.requests d.lists.gated None listed.id j listed.among (listed.gate ∙ ap (λ m. Some m) w.2) from_le)))

  pub none_gated : (gate : ℕ) (s : Common) → s.requests ≡ map (λ r. r.shown) rs → lowest_gate gate d.requests d.lists.gated None ≡ None → next_gate i gate s ≡ None
  none_gated gate s shown none =
      first_none (λ file o. nat_le gate file && list_any (waits_at i file) s.requests) 0 s.opens
      (λ k j o there is. by j (nat_le gate j) refl)
    where
      by : (j : ℕ) (b : Bool) → nat_le gate j ≡ b → (nat_le gate j && list_any (waits_at i j) s.requests) ≡ false
      by j false is = ap (λ b. b && list_any (waits_at i j) s.requests) is
      by j true is =
          let le : gate ≤ j = grind (arith, nat_tests) in
          and_right (nat_le gate j) (list_any (waits_at i j) s.requests) (ap (list_any (waits_at i j)) shown ∙ none_waits_at gate j le (below_none j (lowest_gate gate d.requests d.lists.gated None) none))

  pub gate_next : (gate file : ℕ) (s : Common) → ListsRequests d → s.requests ≡ map (λ r. r.shown) rs → length s.opens ≡ length opens → lowest_gate gate d.requests d.lists.gated None ≡ Some file
      → next_gate i gate s ≡ Some file
  gate_next gate file s lists shown many is =
      let stood = no_other (least_stands gate d.requests d.lists.gated None file is) in
      let w = waits_there file stood.id (lists.gated stood.id stood.among) stood.gate in
      let k = number_in n.requests.items stood.id.0 in
      let of_file = durable_of_file w.r.shown.operation.kind (lined.durable k w.r w.there w.gated) in
      let o = there_within s.opens file (subst (λ m. m < length s.opens) w.target (subst (λ m. w.r.shown.operation.target < m) (sym many) (lined.there k w.r w.there of_file))) in
      let le : gate ≤ file = gate_from gate d.requests d.lists.gated None (λ f never. absurd (let none : None ≡ Some f = never in cc)) file is in
      first_some (λ f o. nat_le gate f && list_any (waits_at i f) s.requests) 0 s.opens file o.0 o.1
      (λ m so.
      let same : m ≡ file = omega (arith, so) in
      let waits : list_any (waits_at i file) s.requests ≡ true = ap (list_any (waits_at i file)) shown ∙ any_passes_from_place (waits_at i file) (map (λ r. r.shown) rs) k w.r.shown (mapped (λ r. r.shown) rs k w.r w.there) (waiting_is i file w.r.shown w.mine w.gated w.target) in
      let from_le : nat_le gate file ≡ true = grind (arith, nat_tests) in
      ap (λ f. nat_le gate f && list_any (waits_at i f) s.requests) same ∙ and_from (nat_le gate file) (list_any (waits_at i file) s.requests) from_le waits)
      (λ j m y less at so.
      let same : m ≡ j = omega (arith, so) in
      ap (λ f. nat_le gate f && list_any (waits_at i f) s.requests) same ∙ before j less (nat_le gate j) refl)
      file (omega arith)
    where
      no_other : (None ≡ Some file) ⊎ StandsIn d.requests d.lists.gated file → StandsIn d.requests d.lists.gated file
      no_other (inl never) = absurd (let none : None ≡ Some file = never in cc)
      no_other (inr it) = it

      before : (j : ℕ) → j < file → (b : Bool) → nat_le gate j ≡ b → (nat_le gate j && list_any (waits_at i j) s.requests) ≡ false
      before j less false is_no = ap (λ b. b && list_any (waits_at i j) s.requests) is_no
      before j less true is_yes =
          let le : gate ≤ j = grind (arith, nat_tests) in
          and_right (nat_le gate j) (list_any (waits_at i j) s.requests)
          (ap (list_any (waits_at i j)) shown ∙ none_waits_at gate j le (λ below. let more : file ≤ j = below_some j file (lowest_gate gate d.requests d.lists.gated None) is below in omega (arith, more, less)))
