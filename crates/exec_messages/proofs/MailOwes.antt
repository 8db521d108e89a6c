-- The callbacks: a task that is woken next waits for what has ended, which has paid no wake yet.
use Rattle.std.proofs.{Common.{◌≡◌, ℕ, ◌==◌, ◌+◌, ◌<◌, Bool, true, false, not, List, [], ◌∷◌, count_by, length, map, Some, None, refl, sym, ap, subst, ◌∙◌, arith, slice_get}, lemmas.{Bool.{false≢true, eq-eqb, Decides.nat_tests}, Option.slice_get_within}}
use Rattle.exec_base.specs.declared.task_no.TaskNo.{TaskNo}
use Rattle.exec_machine.specs.declared.state.Waiting.{Waiting}
use Rattle.exec_parts.{specs.{Calls.IsUnpaid, MailTakes.MayWakeNext, declared.parts.{record.Record.Record, shared.Shared.Shared, sleeping.SleeperRecord.SleeperRecord, task_slot.TaskSlot.TaskSlot, worker.Worker.Worker}}, proofs.Facts.{same_Some, zero_false}}
use Rattle.exec_invariants.{specs.{Holding.{Box, box_of, IsOwed, Owes, awaited_in, holder_of, nap_of, thing_of}, Whole.HasWhole}, proofs.{Lined.unmapped, ServedEnds.{count_both, count_one}}}

-- a vector that isn't empty, and one that is
pub some_by : (n : ℕ) (b : Bool) → b ≡ (n == 0) → not b ≡ true → 0 < n
some_by n true is h = absurd (cc)
some_by n false is h = grind (arith, nat_tests)

pub none_by : {A : Type 0} (xs : List A) (b : Bool) → b ≡ (length xs == 0) → not b ≡ false → xs ≡ []
none_by [] b is h = refl
none_by (x ∷ xs) false is h = absurd (cc)
none_by (x ∷ xs) true is h = absurd (false≢true (sym (is ∙ zero_false (length xs))))

-- what its task waits for pays
unpaid_by : (i t : ℕ) (waiting : Waiting) (rs : List Record) (zs : List SleeperRecord) (boxes : List Box) → Owes i t (awaited_in waiting) (map thing_of rs) (map nap_of zs) boxes → IsUnpaid waiting rs zs
unpaid_by = grind (arith, unmapped)

-- it is among those that are to be woken
pub counted_first : (xs : List TaskNo) (n : TaskNo) → slice_get xs 0 ≡ Some n → 0 < count_by (λ m. m.0 == n.0) xs
counted_first [] n at = absurd (let no : None ≡ Some n = at in cc)
counted_first (x ∷ xs) n at =
    let p : TaskNo → Bool = λ m. m.0 == n.0 in
    let is : x ≡ n = cc in
    let one : count_by p (x ∷ []) ≡ 1 = count_one p x true (eq-eqb x.0 n.0 (ap (λ (m : TaskNo). m.0) is)) in
    let both : count_by p (x ∷ xs) ≡ count_by p (x ∷ []) + count_by p xs = count_both p (x ∷ []) xs in
    let more : count_by p (x ∷ xs) ≡ 1 + count_by p xs = both ∙ ap (λ k. k + count_by p xs) one in
    subst (λ k. 0 < k) (sym more) (omega arith)

module _ {B : Type 0} where
  pub may_wake_next : (w : Worker) (s : Shared B) → HasWhole w s → 0 < length w.home.deferred.notes.wakes.items → MayWakeNext w s
  may_wake_next w s has some =
      let owed : (n : TaskNo) → slice_get w.home.deferred.notes.wakes.items 0 ≡ Some n → IsOwed w.index n.0 (map holder_of s.tasks.items) (map thing_of s.requests.items) (map nap_of s.sleepers.items) (map box_of s.seats.items) = λ n at.
      (has.whole.holding.owed w.index n.0 (rw (eq-eqb w.index w.index refl) (counted_first w.home.deferred.notes.wakes.items n at))).1 in
      record {
        some = some;
        there = λ n at.
            let o = owed n at in
            let slot = unmapped holder_of s.tasks.items n.0 o.it o.there in
            slice_get_within s.tasks.items n.0 slot.0 slot.1;
        unpaid = λ n at slot found.
            let o = owed n at in
            let mine = unmapped holder_of s.tasks.items n.0 o.it o.there in
            let is : mine.0 ≡ slot = same_Some mine.0 slot (sym mine.1 ∙ found) in
            let awaits : o.it.awaits ≡ awaited_in slot.waiting = sym (ap (λ y. y.awaits) mine.2) ∙ ap (λ (y : TaskSlot B). awaited_in y.waiting) is in
            unpaid_by w.index n.0 slot.waiting s.requests.items s.sleepers.items (map box_of s.seats.items)
            (subst (λ a. Owes w.index n.0 a (map thing_of s.requests.items) (map nap_of s.sleepers.items) (map box_of s.seats.items)) awaits o.owes);
      }
