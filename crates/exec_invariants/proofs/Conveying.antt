-- What keeps what the kernel has, where a request goes on and where an entry goes into the submission queue.
use Rattle.exec_invariants.{proofs.{Names.{◌≡◌, ◌≢◌, ℕ, ◌+◌, ◌<◌, ◌≤◌, Bool, true, cond, List, [], ◌∷◌, ◌++◌, filter, Some, refl, sym, ap, subst, ◌∙◌, arith, slice_get, slice_index_or, eq-eqb, append-nil, filter-append, Slab, written, Id, bytes_of, OpResult, target_of, window_by, Asking, Window, is_of, with_entry, RingState, Submission, Store, user_data_of, index_in, waiter_at, Entry, Pending, Waiter, RequestPhase, Reply, Record, number_in, changed_at, by_name, same_number, not_same}, Carrying.{index_told, sum_changed}, Changing.{changes_one, live_after}, Judging.is_of_bytes, Marking.{mark_if, marked, was_marked}}, specs.Carried.{HasStretchFor, IsCarried, IsUnderWay, IsWhole, may_move, those_of}}

-- one more entry in the submission queue is none of another request
other_entry : (w : Window) (u v : ℕ) (r : RingState) → (u ≡ v → ⊥) → those_of v (with_entry r w u).staged ≡ those_of v r.staged
other_entry = grind (arith, filter-append, append-nil, same_number)

under_same : (p : RequestPhase) (v : ℕ) (q : Asking) (r r' : RingState) → those_of v r'.flying ≡ those_of v r.flying → those_of v r'.staged ≡ those_of v r.staged → IsUnderWay p v q r → IsUnderWay p v q r'
under_same = grind arith

-- nor is an entry of no request that of one
pub control_entry : (e : Submission) (v : ℕ) (r : RingState) → (index_in e.user_data < 4294967295 → ⊥) → index_in v < 4294967295 → those_of v (with_entry r e.window e.user_data).staged ≡ those_of v r.staged
control_entry e v r control small = other_entry e.window e.user_data v r (λ same. control (subst (λ x. index_in x < 4294967295) (sym same) small))

-- what a result has taken of the room is taken
judged_room : (out : Bool) (socket : ℕ) (r r' : Record) (given : OpResult) → r.shown.phase ≡ RequestPhase.Landed given → r'.shown.phase ≡ RequestPhase.Queued → r'.shown.operation ≡ record r.shown.operation { moved = r'.shown.operation.moved; switched = r'.shown.operation.switched; unrefused = r'.shown.operation.unrefused }
    → (is_of_bytes r.shown.operation.kind ≡ true → r'.shown.operation.moved ≡ r.shown.operation.moved + bytes_of given) → may_move out socket r' ≤ may_move out socket r
judged_room = grind arith

module _ (numbers : List ℕ) (s : Slab (Entry Reply Reply)) (ring : RingState) (rs : List Record) (st : Store) (carried : IsCarried numbers s ring rs st) where
  -- another ring, in which each request has what it had
  pub carried_ring : (ring' : RingState) → ((v : ℕ) → index_in v < 4294967295 → those_of v ring'.flying ≡ those_of v ring.flying) → ((v : ℕ) → index_in v < 4294967295 → those_of v ring'.staged ≡ those_of v ring.staged) → IsCarried numbers s ring' rs st
  carried_ring = grind (arith, index_told, under_same)

  -- an entry of no request goes into the submission queue
  pub carried_beside : (w : Window) (u : ℕ) → (index_in u < 4294967295 → ⊥) → IsCarried numbers s (with_entry ring w u) rs st
  carried_beside w u control =
      carried_ring (with_entry ring w u) (λ v small. refl) (λ v small. control_entry (record { window = w; user_data = u }) v ring control small)

  -- One request goes on: of its own operations the ring has then what its phase says, and of the others what it had.
  module _ (id : Id) (it it' : Waiter Reply Reply) (r : Record) (f : Record → Record) (ring' : RingState) (live : waiter_at s id ≡ Some it) (there : slice_get rs (number_in numbers id) ≡ Some r)
      (flying : (v : ℕ) → (user_data_of id ≡ v → ⊥) → those_of v ring'.flying ≡ those_of v ring.flying) (staged : (v : ℕ) → (user_data_of id ≡ v → ⊥) → those_of v ring'.staged ≡ those_of v ring.staged)
      (under : IsUnderWay (f r).shown.phase (user_data_of id) it'.request ring') (whole : IsWhole it'.request) (target : (f r).shown.operation.target ≡ target_of it'.request) (room : (out : Bool) (socket : ℕ) → may_move out socket (f r) ≤ may_move out socket r) (stretch : HasStretchFor it'.request st)
      (apart : (other : Id) (x : Waiter Reply Reply) → waiter_at s other ≡ Some x → other ≢ id → number_in numbers id ≡ number_in numbers other → ⊥) where
    -- what waits there then: another, as before, or this one
    data Then (other : Id) (x : Waiter Reply Reply) : Type 0 where
      Other : other ≢ id → waiter_at s other ≡ Some x → Then other x
      This : other ≡ id → x ≡ it' → Then other x

    then_by : (other : Id) (x : Waiter Reply Reply) → waiter_at (written s id (Pending it')) other ≡ Some x → Then other x
    then_by other x at =
        let changed = changes_one s id it it' live in
        by_name other id (λ differs. Other differs (sym (changed.others other differs) ∙ at)) (λ eq. This eq (let is : x ≡ it' = cc (at, eq, changed.is_at) in is))

    other_record : (j : ℕ) (y : Record) → (number_in numbers id ≡ j → ⊥) → slice_get (changed_at rs (number_in numbers id) f) j ≡ Some y → slice_get rs j ≡ Some y
    other_record j y differs found =
        let old = was_marked f rs (number_in numbers id) j y found in
        old.1 ∙ ap (λ z. Some z) (sym (old.2 ∙ ap (λ b. mark_if f b old.0) (not_same (number_in numbers id) j differs)))

    this_record : (y : Record) → slice_get (changed_at rs (number_in numbers id) f) (number_in numbers id) ≡ Some y → y ≡ f r
    this_record y found =
        cc (found, marked f rs (number_in numbers id) (number_in numbers id) r there ∙ ap (λ b. Some (mark_if f b r)) (eq-eqb (number_in numbers id) (number_in numbers id) refl))

    data_apart : (other : Id) (x : Waiter Reply Reply) → waiter_at s other ≡ Some x → other ≢ id → user_data_of id ≡ user_data_of other → ⊥
    data_apart other x at differs same =
        apart other x at differs (ap (λ j. slice_index_or numbers j 0) (sym (index_told id (carried.slots id it live)) ∙ ap index_in same ∙ index_told other (carried.slots other x at)))

    slots_then : (other : Id) (x : Waiter Reply Reply) → Then other x → other.index < 4294967295
    slots_then other x (Other differs at) = carried.slots other x at
    slots_then other x (This eq is) = subst (λ i. i.index < 4294967295) (sym eq) (carried.slots id it live)

    whole_then : (other : Id) (x : Waiter Reply Reply) → Then other x → IsWhole x.request
    whole_then other x (Other differs at) = carried.whole other x at
    whole_then other x (This eq is) = subst (λ y. IsWhole y.request) (sym is) whole

    target_then : (other : Id) (x : Waiter Reply Reply) (y : Record) → Then other x → slice_get (changed_at rs (number_in numbers id) f) (number_in numbers other) ≡ Some y → y.shown.operation.target ≡ target_of x.request
    target_then other x y (Other differs at) found = carried.target other x y at (other_record (number_in numbers other) y (apart other x at differs) found)
    target_then other x y (This eq is) found =
        ap (λ z. z.shown.operation.target) (this_record y (ap (λ i. slice_get (changed_at rs (number_in numbers id) f) (number_in numbers i)) (sym eq) ∙ found)) ∙ target ∙ ap (λ z. target_of z.request) (sym is)

    stretch_then : (other : Id) (x : Waiter Reply Reply) → Then other x → HasStretchFor x.request st
    stretch_then other x (Other differs at) = carried.stretch other x at
    stretch_then other x (This eq is) = subst (λ y. HasStretchFor y.request st) (sym is) stretch

    under_then : (other : Id) (x : Waiter Reply Reply) (y : Record) → Then other x → slice_get (changed_at rs (number_in numbers id) f) (number_in numbers other) ≡ Some y → IsUnderWay y.shown.phase (user_data_of other) x.request ring'
    under_then other x y (Other differs at) found =
        under_same y.shown.phase (user_data_of other) x.request ring ring' (flying (user_data_of other) (data_apart other x at differs)) (staged (user_data_of other) (data_apart other x at differs))
        (carried.carried other x y at (other_record (number_in numbers other) y (apart other x at differs) found))
    under_then other x y (This eq is) found =
        subst (λ i. IsUnderWay y.shown.phase (user_data_of i) x.request ring') (sym eq)
        (subst (λ q. IsUnderWay y.shown.phase (user_data_of id) q.request ring') (sym is)
        (subst (λ p. IsUnderWay p (user_data_of id) it'.request ring') (sym (ap (λ z. z.shown.phase) (this_record y (ap (λ i. slice_get (changed_at rs (number_in numbers id) f) (number_in numbers i)) (sym eq) ∙ found)))) under))

    pub carried_one : IsCarried numbers (written s id (Pending it')) ring' (changed_at rs (number_in numbers id) f) st
    carried_one =
        record {
          slots = λ other x at. slots_then other x (then_by other x at);
          whole = λ other x at. whole_then other x (then_by other x at);
          target = λ other x y at found. target_then other x y (then_by other x at) found;
          carried = λ other x y at found. under_then other x y (then_by other x at) found;
          nobody = λ v small free.
              let none = carried.nobody v small (λ other x at named. (let now = live_after s id it it' live other x at in free other now.0 now.1 named)) in
              let now = live_after s id it it' live id it live in
              let differs = free id now.0 now.1 in
              (flying v differs ∙ none.0, staged v differs ∙ none.1);
          room = λ out socket.
              omega (arith, sum_changed (may_move out socket) rs (number_in numbers id) r f there, room out socket, carried.room out socket);
          stretch = λ other x at. stretch_then other x (then_by other x at);
        }

  -- the operation of a request that was queued goes in
  pub carried_staged : (id : Id) (it it' : Waiter Reply Reply) (r : Record) (f : Record → Record) (w : Window) → waiter_at s id ≡ Some it → slice_get rs (number_in numbers id) ≡ Some r → r.shown.phase ≡ RequestPhase.Queued → (f r).shown.phase ≡ RequestPhase.Staged
      → (f r).shown.operation ≡ record r.shown.operation { hinted = (f r).shown.operation.hinted } → IsWhole it'.request → HasStretchFor it'.request st → target_of it'.request ≡ target_of it.request → window_by true it'.request ≡ w
      → ((other : Id) (x : Waiter Reply Reply) → waiter_at s other ≡ Some x → other ≢ id → number_in numbers id ≡ number_in numbers other → ⊥)
      → IsCarried numbers (written s id (Pending it')) (with_entry ring w (user_data_of id)) (changed_at rs (number_in numbers id) f) st
  carried_staged id it it' r f w live there queued staged operation whole stretch target window apart =
      let u = user_data_of id in
      let none : (those_of u ring.flying ≡ []) × (those_of u ring.staged ≡ []) = subst (λ p. IsUnderWay p u it.request ring) queued (carried.carried id it r live there) in
      let e : Submission = record { window = w; user_data = u } in
      let lone : those_of u (with_entry ring w u).staged ≡ e ∷ [] =
      filter-append (is_of u) ring.staged (e ∷ []) ∙ ap (λ xs. xs ++ filter (is_of u) (e ∷ [])) none.1 ∙ ap (λ b. cond b (e ∷ []) []) (eq-eqb u u refl) in
      let so : IsUnderWay RequestPhase.Staged u it'.request (with_entry ring w u) = (none.0, record { e = e; lone = lone; window = window }) in
      carried_one id it it' r f (with_entry ring w u) live there (λ v differs. refl) (λ v differs. other_entry w u v ring differs) (subst (λ p. IsUnderWay p u it'.request (with_entry ring w u)) (sym staged) so) whole
      (ap (λ o. o.target) operation ∙ carried.target id it r live there ∙ sym target)
      (λ out socket.
      let same : may_move out socket (f r) ≡ may_move out socket r = grind (arith, staged, operation, queued) in
      omega (arith, same))
      stretch apart

  -- a result of it was judged, and it goes on
  pub carried_judged : (id : Id) (it it' : Waiter Reply Reply) (r : Record) (f : Record → Record) (given : OpResult) → waiter_at s id ≡ Some it → slice_get rs (number_in numbers id) ≡ Some r → r.shown.phase ≡ RequestPhase.Landed given → (f r).shown.phase ≡ RequestPhase.Queued
      → (f r).shown.operation ≡ record r.shown.operation { moved = (f r).shown.operation.moved; switched = (f r).shown.operation.switched; unrefused = (f r).shown.operation.unrefused } → (is_of_bytes r.shown.operation.kind ≡ true → (f r).shown.operation.moved ≡ r.shown.operation.moved + bytes_of given)
      → IsWhole it'.request → HasStretchFor it'.request st → target_of it'.request ≡ target_of it.request
      → ((other : Id) (x : Waiter Reply Reply) → waiter_at s other ≡ Some x → other ≢ id → number_in numbers id ≡ number_in numbers other → ⊥)
      → IsCarried numbers (written s id (Pending it')) ring (changed_at rs (number_in numbers id) f) st
  carried_judged id it it' r f given live there landed queued operation moved whole stretch target apart =
      let u = user_data_of id in
      let none : (those_of u ring.flying ≡ []) × (those_of u ring.staged ≡ []) = subst (λ p. IsUnderWay p u it.request ring) landed (carried.carried id it r live there) in
      carried_one id it it' r f ring live there (λ v differs. refl) (λ v differs. refl) (subst (λ p. IsUnderWay p u it'.request ring) (sym queued) none) whole
      (ap (λ o. o.target) operation ∙ carried.target id it r live there ∙ sym target)
      (λ out socket. judged_room out socket r (f r) given landed queued operation moved)
      stretch apart
