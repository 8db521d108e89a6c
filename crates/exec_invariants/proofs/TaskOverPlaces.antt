-- Where a task may be over by its own act, and where its worker goes on.
use Rattle.exec_invariants.proofs.{Words.{◌≡◌, ℕ, zero, suc, ◌<◌, arith, Bool, true, false, not, List, [], ◌∷◌, Option, Some, refl, sym, ap, subst, ◌∙◌, slice_get, if◌then◌else◌, false≢true, eq-eqb, ScriptWord, Code, Next, asks_await, next_word, Common, Task, AfterCancels, InClosing, InPoll, Place, next_at, serves_at, Held, others_of, IsCodeOf, owed_at}, TaskOverSound.{IsAside, IsOwing}, TaskOverWhole.IsPast}
pub use Rattle.std.proofs.lemmas.Bool.{ltb-true}

-- PLACES

pub closes_past : IsPast (Place.Closing InClosing.Close)
closes_past = record { polls = refl; claims = refl; counts = refl; published = refl; clears = refl; passes = refl; joins = refl }

pub closes_aside : IsAside (Place.Closing InClosing.Close)
closes_aside = record { spare = refl; wakes = refl; served = refl; bare = refl; polls = refl; calls = refl; heard = refl; lets = λ requests zs is. absurd (false≢true is) }

pub removes_past : (t : ℕ) → IsPast (Place.Poll t InPoll.RemoveTask)
removes_past t = record { polls = refl; claims = refl; counts = refl; published = refl; clears = refl; passes = refl; joins = refl }

pub removes_aside : (t : ℕ) → IsAside (Place.Poll t InPoll.RemoveTask)
removes_aside t = record { spare = refl; wakes = refl; served = refl; bare = refl; polls = refl; calls = refl; heard = refl; lets = λ requests zs is. absurd (false≢true is) }

pub tells_past : (b : AfterCancels) → IsPast (Place.SendCancel b)
tells_past b = record { polls = refl; claims = refl; counts = refl; published = refl; clears = refl; passes = refl; joins = refl }

pub tells_removing : (t : ℕ) → IsAside (Place.SendCancel (AfterCancels.Remove t))
tells_removing t = record { spare = refl; wakes = refl; served = refl; bare = refl; polls = refl; calls = refl; heard = refl; lets = λ requests zs is. absurd (false≢true is) }

pub owes_removing : (t : ℕ) → IsOwing (Place.Poll t InPoll.RemoveTask) (AfterCancels.Remove t)
owes_removing t = record { aside = removes_aside t; after = tells_removing t; begins = refl; hands = refl; loot = refl; unarmed = refl; queue = λ x h. h; closes = refl; closing = refl }

-- and the machine has nothing to do there
pub record IsQuiet (q : Place) : Type 0 where
  pub unserved : serves_at q ≡ false
  pub free : next_at q ≡ Next.Free
  pub unowed : (n : ℕ) → owed_at n q ≡ []

-- a root has what its worker has
pub others_none : (i : ℕ) (hs : List Held) → ((j : ℕ) (x : Held) → slice_get hs j ≡ Some x → x.worker ≡ i) → others_of i hs ≡ []
others_none i [] each = refl
others_none i (h ∷ hs) each = ap (λ b. if not b then h ∷ others_of i hs else others_of i hs) (eq-eqb h.worker i (each 0 h refl)) ∙ others_none i hs (λ j. each (suc j))

-- WHO MAY END

pub waits_word : (c : Common) (t : Task) → t.code ≡ Code.Waits → next_word c t ≡ (if c.stopped then ScriptWord.End else ScriptWord.Await)
waits_word = grind arith

pub stopped_so : (b : Bool) (x : ScriptWord) → asks_await x ≡ false → (if b then ScriptWord.End else ScriptWord.Await) ≡ x → b ≡ true
stopped_so true x other is = refl
stopped_so false x other is = absurd (false≢true (sym other ∙ ap asks_await (sym is)))

pub waits_there : (workers i : ℕ) (home : Option ℕ) (code : Code) → home ≡ Some i → 0 < i → i < workers → IsCodeOf workers home code → code ≡ Code.Waits
waits_there workers zero home code is some few h = absurd (omega (arith, some))
waits_there workers (suc i) home code is some few h = (subst (λ o. IsCodeOf workers o code) is h).0 few
