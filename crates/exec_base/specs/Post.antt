-- What a post has taken.
use Rattle.std.specs.Prelude.{◌≡◌, ◌⊎◌, List, [], ◌∷◌, ◌++◌, Contains, Option, Some, None}

module _ {M : Type 0} where
  -- a post that had taken these messages took one more: it stands at their end, or was dropped, since the same message
  -- is among them. Where it isn't known what a post took, it isn't known after either
  abbrev pub Takes : Option (List M) → M → Option (List M) → Type 0
  Takes None message after = after ≡ None
  Takes (Some messages) message after =
      (after ≡ Some (messages ++ message ∷ [])) ⊎ (Contains messages message × (after ≡ Some messages))
