use Rattle.std.proofs.{Common.{◌<◌, ◌≤◌, ◌%◌, ℕ, length, get_or, arith}, lemmas.List.Sorted.IsNonDecreasingBy-insert}
use Rattle.exec_time.{specs.declared.entries.Entry.Entry, proofs.Buckets.bucket_in_put}
use Rattle.exec_time.proofs.entries.put.Goals as goal

pub returns-clause-buckets : goal.returns-clause-buckets
returns-clause-buckets c =
    let past : (k : ℕ) (d : Entry) → c.end_of-place.result ≤ k → k < length c.args.entries.now.items → (c.args.entry.tick % c.args.slots) < ((get_or c.args.entries.now.items k d).tick % c.args.slots) = rw (← c.deref.ensures.value) c.end_of-place.ensures.past in
    λ s. rw (c.insert.ensures.items, c.insert.ensures.succeeds c.requires.room) (bucket_in_put c.args.entries.now.items c.args.slots c.end_of-place.result c.args.entry past s)

pub returns-clause-by_slot : goal.returns-clause-by_slot
returns-clause-by_slot c =
    let xs = c.args.entries.now.items in
    let within : c.end_of-place.result ≤ length xs = rw (← c.deref.ensures.value) c.end_of-place.ensures.within in
    let before : (k : ℕ) (d : Entry) → k < c.end_of-place.result → (get_or xs k d).tick % c.args.slots ≤ c.args.entry.tick % c.args.slots = rw (← c.deref.ensures.value) c.end_of-place.ensures.before in
    let past : (k : ℕ) (d : Entry) → c.end_of-place.result ≤ k → k < length xs → (c.args.entry.tick % c.args.slots) < ((get_or xs k d).tick % c.args.slots) = rw (← c.deref.ensures.value) c.end_of-place.ensures.past in
    rw (c.insert.ensures.items, c.insert.ensures.succeeds c.requires.room) (IsNonDecreasingBy-insert (λ (e : Entry). e.tick % c.args.slots) xs c.end_of-place.result c.args.entry c.requires.by_slot within before (λ k d low inside. omega (arith, past k d low inside)))
