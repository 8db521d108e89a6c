-- What keeps what the kernel has, where entries go into the submission queue and the kernel takes them in.
use Rattle.std.{proofs.{Common.{◌≡◌, ℕ, ◌==◌, ◌&&◌, Bool, true, false, cond, List, [], ◌∷◌, ◌++◌, filter, Some, refl, sym, ap, subst, ◌∙◌, arith, slice_get, sum_by, if◌then◌else◌}, lemmas.{Bool.false≢true, List.{append-nil, append_assoc, Elements.filter-append}}}, specs.List.fold}
use Rattle.exec_base.specs.{Slab.Slab, declared.slab.Id.Id}
use Rattle.exec_request.specs.declared.{request.Request.Request as Asking, window.Opcode.Opcode}
use Rattle.exec_ring.specs.{Kernels.{taken_as, taken_in, all_taken}, Rings.RingState, declared.{completion.Submission.Submission, store.Store.Store}}
use Rattle.exec_waiters.specs.{Ids.user_data_of, States.waiter_at, declared.waiter.{Entry.Entry, Waiter.Waiter}}
use Rattle.exec_machine.specs.{declared.state.{Request.Request, RequestPhase.RequestPhase}, Tests.is_staged}
use Rattle.exec_parts.specs.{declared.parts.{mail.Reply.Reply, record.Record.Record}, Records.number_in, Serving.{flies, flown_in, is_one_of}}
use Rattle.exec_invariants.{proofs.{Flying.{flies_if, get_flown}, Carrying.sum_changed}, specs.Carried.{IsCarried, IsUnderWay, IsWhole, may_move, those_of}}

-- WHAT THE KERNEL TAKES IN

abbrev operates : Opcode → Bool
operates Opcode.Cancel = false
operates Opcode.Wake = false
operates _ = true

poll_taken : (s : RingState) (e : Submission) (raised last : Bool) → s.raised ≡ raised → s.last ≡ last → (taken_as Opcode.Wake s e).flying ≡ s.flying
poll_taken = grind arith

one_flies : (k : Opcode) (s : RingState) (e : Submission) → (taken_as k s e).flying ≡ s.flying ++ (if operates k then e ∷ [] else [])
one_flies = grind (arith, append-nil, poll_taken)

first_flies : (b : Bool) (e : Submission) (es : List Submission) → (if b then e ∷ [] else []) ++ es ≡ cond b (e ∷ es) es
first_flies true e es = refl
first_flies false e es = refl

all_fly : (es : List Submission) (s : RingState) → (fold taken_in s es).flying ≡ s.flying ++ filter (λ e. operates e.window.kind) es
all_fly [] s = sym (append-nil s.flying)
all_fly (e ∷ es) s = grind (arith, one_flies, append_assoc, first_flies, all_fly es (taken_in s e))

both_tests : {A : Type 0} (p q : A → Bool) (xs : List A) → filter p (filter q xs) ≡ filter q (filter p xs)
both_tests p q [] = refl
both_tests p q (x ∷ xs) = grind (arith, both_tests p q xs)

those_taken : (u : ℕ) (r : RingState) → those_of u (all_taken r).flying ≡ those_of u r.flying ++ filter (λ e. operates e.window.kind) (those_of u r.staged)
those_taken = grind (arith, all_fly, filter-append, both_tests)

-- THE REQUESTS

abbrev entered_phase : RequestPhase → RequestPhase
entered_phase RequestPhase.Staged = RequestPhase.Flying
entered_phase p = p

flown_phase : (r : Request) (p : RequestPhase) → r.phase ≡ p → (if (r.worker == r.worker) && is_staged r.phase then (record r { phase = RequestPhase.Flying }) else r).phase ≡ entered_phase p
flown_phase = grind arith

still_phase : (p : RequestPhase) → (is_staged p ≡ true → ⊥) → p ≡ entered_phase p
still_phase = grind arith

phase_then : (b : Bool) (r : Record) → (is_staged r.shown.phase ≡ true → b ≡ true) → (flies_if b r).shown.phase ≡ entered_phase r.shown.phase
phase_then true r h = flown_phase r.shown r.shown.phase refl
phase_then false r h = still_phase r.shown.phase (λ staged. false≢true (h staged))

pub operation_by : (b : Bool) (r : Request) → (if b then (record r { phase = RequestPhase.Flying }) else r).operation ≡ r.operation
operation_by true r = refl
operation_by false r = refl

pub operation_then : (b : Bool) (r : Record) → (flies_if b r).shown.operation ≡ r.shown.operation
operation_then true r = operation_by ((r.shown.worker == r.shown.worker) && is_staged r.shown.phase) r.shown
operation_then false r = refl

under_entered : (p : RequestPhase) (u : ℕ) (q : Asking) (r r' : RingState) → IsWhole q → those_of u r'.flying ≡ those_of u r.flying ++ filter (λ e. operates e.window.kind) (those_of u r.staged) → r'.staged ≡ [] → IsUnderWay p u q r → IsUnderWay (entered_phase p) u q r'
under_entered = grind arith

sends_on : (out : Bool) (socket : ℕ) (r : Record) → may_move out socket (flies r) ≡ may_move out socket r
sends_on = grind arith

sum_flown : (out : Bool) (socket : ℕ) (ks : List ℕ) (rs : List Record) → sum_by (may_move out socket) (flown_in ks rs) ≡ sum_by (may_move out socket) rs
sum_flown out socket [] rs = refl
sum_flown out socket (k ∷ ks) rs = grind (arith, sum_changed, sends_on, sum_flown out socket ks rs)

module _ (numbers : List ℕ) (s : Slab (Entry Reply Reply)) (ring : RingState) (rs : List Record) (st : Store) (carried : IsCarried numbers s ring rs st) where
  flown_was : (ks : List ℕ) (k : ℕ) (x : Record) → slice_get (flown_in ks rs) k ≡ Some x → (r : Record) × (slice_get rs k ≡ Some r) × (x ≡ flies_if (is_one_of k ks) r)
  flown_was = grind (arith, flies_if, get_flown)

  -- the kernel takes in all that is staged
  pub carried_entered : (ks : List ℕ) → ((id : Id) (it : Waiter Reply Reply) (x : Record) → waiter_at s id ≡ Some it → slice_get rs (number_in numbers id) ≡ Some x → is_staged x.shown.phase ≡ true → is_one_of (number_in numbers id) ks ≡ true) → (all_taken ring).staged ≡ [] → IsCarried numbers s (all_taken ring) (flown_in ks rs) st
  carried_entered ks all staged =
      record {
        slots = carried.slots;
        whole = carried.whole;
        target = λ id it r live there.
            let old = flown_was ks (number_in numbers id) r there in
            ap (λ z. z.shown.operation.target) old.2 ∙ ap (λ o. o.target) (operation_then (is_one_of (number_in numbers id) ks) old.0) ∙ carried.target id it old.0 live old.1;
        carried = λ id it r live there.
            let k = number_in numbers id in
            let old = flown_was ks k r there in
            let now : r.shown.phase ≡ entered_phase old.0.shown.phase = ap (λ z. z.shown.phase) old.2 ∙ phase_then (is_one_of k ks) old.0 (all id it old.0 live old.1) in
            subst (λ p. IsUnderWay p (user_data_of id) it.request (all_taken ring)) (sym now)
            (under_entered old.0.shown.phase (user_data_of id) it.request ring (all_taken ring) (carried.whole id it live) (those_taken (user_data_of id) ring) staged (carried.carried id it old.0 live old.1));
        nobody = λ u small free.
            let none = carried.nobody u small free in
            (those_taken u ring ∙ rw (none.0, none.1) refl, ap (those_of u) staged);
        room = λ out socket. rw (sum_flown out socket ks rs) (carried.room out socket);
        stretch = carried.stretch;
      }
