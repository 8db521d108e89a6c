-- What keeps what the kernel has, where other steps change the requests.
use Rattle.exec_invariants.{proofs.{Names.{◌≡◌, ◌≢◌, ℕ, ◌<◌, ◌≤◌, ◌==◌, Bool, true, false, List, [], Some, None, refl, sym, ap, subst, ◌∙◌, arith, slice_get, false≢true, eq-eqb, Slab, written, Id, Outcome, target_of, Asking, RingState, HasStretch, Store, user_data_of, index_in, waiter_at, Entry, Pending, Waiter, RequestPhase, Reply, Record, number_in, changed_at, same_number, not_same}, Carrying.sum_changed, Marking.{mark_if, was_marked}, Changing.{part_before, live_after}}, specs.Carried.{HasRoom, HasStretchFor, IsCarried, IsUnderWay, IsWhole, may_move, those_of}}

-- ONE REQUEST GOES ON, with its operation as it was: of its waiter and its record anything else may change

mark_field : {T : Type 0} (field : Record → T) (f : Record → Record) (b : Bool) (r : Record) → (b ≡ true → field (f r) ≡ field r) → field (mark_if f b r) ≡ field r
mark_field field f true r same = same refl
mark_field field f false r same = refl

pub stretch_still : (q : Asking) (st st' : Store) → ((file offset n : ℕ) → HasStretch st file offset n → HasStretch st' file offset n) → HasStretchFor q st → HasStretchFor q st'
stretch_still = grind arith

module _ (numbers : List ℕ) (s : Slab (Entry Reply Reply)) (ring : RingState) (rs : List Record) (st : Store) (carried : IsCarried numbers s ring rs st) where
  -- a record whose operation and phase stay, and another room by sockets
  pub carried_room : (k : ℕ) (f : Record → Record) (st' : Store) → ((r : Record) → slice_get rs k ≡ Some r → (f r).shown.operation ≡ r.shown.operation) → ((r : Record) → slice_get rs k ≡ Some r → (f r).shown.phase ≡ r.shown.phase)
      → HasRoom (changed_at rs k f) st' → ((file offset n : ℕ) → HasStretch st file offset n → HasStretch st' file offset n) → IsCarried numbers s ring (changed_at rs k f) st'
  carried_room = grind (arith, was_marked, mark_field (λ x. x.shown.operation), mark_field (λ x. x.shown.phase), same_number, stretch_still)

  -- a record whose operation and phase stay, and whether it was let go
  pub carried_marked : (k : ℕ) (f : Record → Record) → ((r : Record) → slice_get rs k ≡ Some r → (f r).shown.operation ≡ r.shown.operation) → ((r : Record) → slice_get rs k ≡ Some r → (f r).shown.phase ≡ r.shown.phase) → ((r : Record) → slice_get rs k ≡ Some r → (f r).shown.released ≡ r.shown.released)
      → IsCarried numbers s ring (changed_at rs k f) st
  carried_marked = grind (arith, was_marked, mark_field (λ x. x.shown.operation), mark_field (λ x. x.shown.phase), mark_field (λ x. x.shown.released), same_number, sum_changed)

  -- what waits there keeps its request
  pub carried_waiter : (id : Id) (it it' : Waiter Reply Reply) → waiter_at s id ≡ Some it → it'.request ≡ it.request → IsCarried numbers (written s id (Pending it')) ring rs st
  carried_waiter id it it' live same =
      let was : (other : Id) (x : Waiter Reply Reply) → waiter_at (written s id (Pending it')) other ≡ Some x → (y : Waiter Reply Reply) × (waiter_at s other ≡ Some y) × (x.request ≡ y.request) = part_before s id it it' live (λ y. y.request) same in
      record {
        slots = λ other x at. carried.slots other (was other x at).0 (was other x at).1;
        whole = λ other x at. subst IsWhole (sym (was other x at).2) (carried.whole other (was other x at).0 (was other x at).1);
        target = λ other x r at there. carried.target other (was other x at).0 r (was other x at).1 there ∙ ap target_of (sym (was other x at).2);
        carried = λ other x r at there. subst (λ q. IsUnderWay r.shown.phase (user_data_of other) q ring) (sym (was other x at).2) (carried.carried other (was other x at).0 r (was other x at).1 there);
        nobody = λ u small free. carried.nobody u small (λ other x at named. (let now = live_after s id it it' live other x at in free other now.0 now.1 named));
        room = carried.room;
        stretch = λ other x at. subst (λ q. HasStretchFor q st) (sym (was other x at).2) (carried.stretch other (was other x at).0 (was other x at).1);
      }

  -- the same requests in another slab
  pub carried_slab : (s' : Slab (Entry Reply Reply)) → ((id : Id) → waiter_at s' id ≡ waiter_at s id) → IsCarried numbers s' ring rs st
  carried_slab = grind arith

  -- A request of which the ring has nothing is over, and has no more room than it had.
  module _ (s' : Slab (Entry Reply Reply)) (id : Id) (it : Waiter Reply Reply) (r : Record) (f : Record → Record) (outcome : Outcome) (live : waiter_at s id ≡ Some it) (there : slice_get rs (number_in numbers id) ≡ Some r)
      (none : (those_of (user_data_of id) ring.flying ≡ []) × (those_of (user_data_of id) ring.staged ≡ [])) (gone : waiter_at s' id ≡ None) (others : (other : Id) → other ≢ id → waiter_at s' other ≡ waiter_at s other) (over : (f r).shown.phase ≡ RequestPhase.Resolved outcome) (less : (out : Bool) (socket : ℕ) → may_move out socket (f r) ≤ may_move out socket r)
      (apart : (other : Id) (x : Waiter Reply Reply) → waiter_at s other ≡ Some x → other ≢ id → number_in numbers id ≡ number_in numbers other → ⊥) where
    another : (other : Id) (x : Waiter Reply Reply) → waiter_at s' other ≡ Some x → other ≢ id
    another other x at same = let no : None ≡ Some x = sym gone ∙ ap (waiter_at s') (sym same) ∙ at in absurd (cc)

    before : (other : Id) (x : Waiter Reply Reply) → waiter_at s' other ≡ Some x → waiter_at s other ≡ Some x
    before other x at = sym (others other (another other x at)) ∙ at

    stood : (other : Id) (x : Waiter Reply Reply) (y : Record) → waiter_at s' other ≡ Some x → slice_get (changed_at rs (number_in numbers id) f) (number_in numbers other) ≡ Some y → slice_get rs (number_in numbers other) ≡ Some y
    stood other x y at found =
        let old = was_marked f rs (number_in numbers id) (number_in numbers other) y found in
        old.1 ∙ ap (λ z. Some z) (sym (old.2 ∙ ap (λ b. mark_if f b old.0) (not_same (number_in numbers id) (number_in numbers other) (apart other x (before other x at) (another other x at)))))

    nobody_by : (v : ℕ) (b : Bool) → (user_data_of id == v) ≡ b → index_in v < 4294967295 → ((other : Id) (x : Waiter Reply Reply) → waiter_at s' other ≡ Some x → user_data_of other ≡ v → ⊥) → (those_of v ring.flying ≡ []) × (those_of v ring.staged ≡ [])
    nobody_by v true is small free = subst (λ u. (those_of u ring.flying ≡ []) × (those_of u ring.staged ≡ [])) (same_number (user_data_of id) v is) none
    nobody_by v false is small free =
        carried.nobody v small
        (λ other x at named.
        free other x
        (others other (λ same. false≢true (sym is ∙ eq-eqb (user_data_of id) v (ap user_data_of (sym same) ∙ named))) ∙ at) named)

    pub carried_over : IsCarried numbers s' ring (changed_at rs (number_in numbers id) f) st
    carried_over =
        record {
          slots = λ other x at. carried.slots other x (before other x at);
          whole = λ other x at. carried.whole other x (before other x at);
          target = λ other x y at found. carried.target other x y (before other x at) (stood other x y at found);
          carried = λ other x y at found. carried.carried other x y (before other x at) (stood other x y at found);
          nobody = λ v small free. nobody_by v (user_data_of id == v) refl small free;
          room = λ out socket.
              omega (arith, sum_changed (may_move out socket) rs (number_in numbers id) r f there, less out socket, carried.room out socket);
          stretch = λ other x at. carried.stretch other x (before other x at);
        }

-- a waiter that keeps its request, and a record whose operation and phase stay
pub carried_still : (numbers : List ℕ) (s : Slab (Entry Reply Reply)) (ring : RingState) (rs : List Record) (st : Store) → IsCarried numbers s ring rs st → (id : Id) (it it' : Waiter Reply Reply) → waiter_at s id ≡ Some it → it'.request ≡ it.request → (k : ℕ) (f : Record → Record)
    → ((r : Record) → slice_get rs k ≡ Some r → (f r).shown.operation ≡ r.shown.operation) → ((r : Record) → slice_get rs k ≡ Some r → (f r).shown.phase ≡ r.shown.phase) → ((r : Record) → slice_get rs k ≡ Some r → (f r).shown.released ≡ r.shown.released) → IsCarried numbers (written s id (Pending it')) ring (changed_at rs k f) st
carried_still numbers s ring rs st carried id it it' live same k f operation phase released = carried_marked numbers (written s id (Pending it')) ring rs st (carried_waiter numbers s ring rs st carried id it it' live same) k f operation phase released
