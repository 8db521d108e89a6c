-- A queue whose runnables are popped one after another.
use Rattle.std.{proofs.Common.{◌≡◌, ℕ, ◌+◌, ◌<◌, List, [], ◌∷◌, ◌++◌, length, refl, ap, sym, ◌∙◌, append-nil, append_assoc, le_refl, arith}, specs.Prelude.{Some, None, slice_get, drop}}
use Rattle.exec_words.specs.Queue.{Queue, tail_of}
use Rattle.exec_live_queue.specs.{declared.{view.Own.Own, owner.Owner.{Owner, Owner as owner}}, Alone.TakesFront, Calls.{looked, HasPopped}, Kinds.{Does, IsDrained, Looks, count}}
use Rattle.exec_ready.specs.Discards.{HasDiscarded, IsEmptied}

module _ {T : Type 0} where
  -- the values of an exclusive queue that are left
  abbrev pub IsLeft : Queue T → Queue T → Type 0
  IsLeft q q' = (q'.held ≡ q.held) × (tail_of q' ≡ tail_of q)

  pub begins : (o : Owner T) → Does HasDiscarded IsLeft o o
  begins (owner.Shared o) = (refl, ([], le_refl o.own.saw_real, ap (λ (l : List ℕ). record o.own { popped = l }) (sym (append-nil o.own.popped))))
  begins (owner.Exclusive o) = (refl, refl)

  one_off : (xs : List T) (x : T) (real : ℕ) → slice_get xs 0 ≡ Some x → (real + 1 + length (drop 1 xs) ≡ real + length xs) × (length (drop 1 xs) < length xs)
  one_off [] x real e = absurd (let h : None ≡ Some x = e in cc)
  one_off (y ∷ xs) x real e = (omega arith, omega arith)

  pub goes_on : (a b c : Owner T) (x : T) → Does HasDiscarded IsLeft a b → Does (λ d d'. HasPopped d x d') (λ q q'. TakesFront q x q') b c → Does HasDiscarded IsLeft a c × (count c < count b)
  goes_on (owner.Shared a) (owner.Shared b) (owner.Shared c) x h k =
      let p = h.1 in let q = k.1 in let tail : c.own.tail ≡ b.own.tail = ap (λ (y : Own T). y.tail) q.5 in (
        (
          k.0 ∙ h.0,
          (
            p.0 ++ q.0 ∷ [],
            omega (arith, p.1, q.2, q.3),
            q.5 ∙ ap (λ (y : Own T). record (looked y c.own) { popped = y.popped ++ q.0 ∷ [] }) p.2 ∙ ap (λ (l : List ℕ). record (looked a.own c.own) { popped = l }) (append_assoc a.own.popped p.0 (q.0 ∷ [])),
          ),
        ),
        omega (arith, tail, q.2, q.3, q.4),
      )
  goes_on (owner.Exclusive a) (owner.Exclusive b) (owner.Exclusive c) x h k = let one = one_off b.queue.values x b.queue.real k.0 in (
    (ap (λ (q : Queue T). q.held) k.1 ∙ h.0, ap tail_of k.1 ∙ one.0 ∙ h.1),
    (let n : length c.queue.values ≡ length (drop 1 b.queue.values) = ap (λ (q : Queue T). length q.values) k.1 in omega (arith, n, one.1)),
  )
  goes_on (owner.Shared a) (owner.Exclusive b) c x h k = absurd h
  goes_on (owner.Exclusive a) (owner.Shared b) c x h k = absurd h
  goes_on (owner.Shared a) (owner.Shared b) (owner.Exclusive c) x h k = absurd k
  goes_on (owner.Exclusive a) (owner.Exclusive b) (owner.Shared c) x h k = absurd k

  pub ends : (a b c : Owner T) → Does HasDiscarded IsLeft a b → Looks b c → IsDrained c → Does HasDiscarded IsEmptied a c
  ends (owner.Shared a) (owner.Shared b) (owner.Shared c) h k dry = (k.0 ∙ h.0, (h.1.0, omega (arith, h.1.1, k.1.1), k.1.0 ∙ ap (λ (y : Own T). looked y c.own) h.1.2))
  ends (owner.Exclusive a) (owner.Exclusive b) (owner.Exclusive c) h k dry =
      let n : length c.queue.values ≡ 0 = ap length dry in let t : c.queue.real + length c.queue.values ≡ tail_of a.queue = ap tail_of k ∙ h.1 in
      (dry, ap (λ (q : Queue T). q.held) k ∙ h.0, (let z : c.queue.real ≡ c.queue.real + length c.queue.values = omega arith in z ∙ t))
  ends (owner.Shared a) (owner.Exclusive b) c h k dry = absurd h
  ends (owner.Exclusive a) (owner.Shared b) c h k dry = absurd h
  ends (owner.Shared a) (owner.Shared b) (owner.Exclusive c) h k dry = absurd k
  ends (owner.Exclusive a) (owner.Exclusive b) (owner.Shared c) h k dry = absurd k
