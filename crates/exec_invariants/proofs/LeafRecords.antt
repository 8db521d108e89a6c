-- A record that was set as a function gives it.
use Rattle.exec_invariants.proofs.Names.{◌≡◌, ℕ, List, Some, sym, ap, ◌∙◌, slice_get, slice_set, get_or, get_or_from_slice_get, Record, changed_at, changed_in}

same_record : (x y : Record) → x.id ≡ y.id → x.shown ≡ y.shown → x.sent ≡ y.sent → x ≡ y
same_record x y id shown sent = ap (λ i. record x { id = i }) id ∙ ap (λ r. record y { shown = r; sent = x.sent }) shown ∙ ap (λ b. record y { sent = b }) sent

-- a record that was set as the function gives it
pub set_changes : (rs : List Record) (k j : ℕ) (r old x : Record) (f : Record → Record) → j ≡ k → slice_get rs k ≡ Some r → old ≡ get_or rs j old → x.id ≡ old.id → x.shown ≡ (f old).shown → x.sent ≡ old.sent → (f r).id ≡ r.id → (f r).sent ≡ r.sent → slice_set rs j x ≡ changed_at rs k f
set_changes rs k j r old x f number there found id shown sent name as_sent =
    let was : old ≡ r = found ∙ ap (λ n. get_or rs n old) number ∙ get_or_from_slice_get rs k r old there in
    let is : x ≡ f r = same_record x (f r) (id ∙ ap (λ y. y.id) was ∙ sym name) (shown ∙ ap (λ y. (f y).shown) was) (sent ∙ ap (λ y. y.sent) was ∙ sym as_sent) in
    ap (λ n. slice_set rs n x) number ∙ ap (λ y. slice_set rs k y) is ∙ ap (changed_in rs k f) (sym there)

pub found_is : (rs : List Record) (k j : ℕ) (r old : Record) → j ≡ k → slice_get rs k ≡ Some r → old ≡ get_or rs j old → old ≡ r
found_is rs k j r old number there found = found ∙ ap (λ n. get_or rs n old) number ∙ get_or_from_slice_get rs k r old there
