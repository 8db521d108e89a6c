-- The hint that a request asks for, and that its open may have.
use Rattle.std.specs.Prelude.{◌≡◌, ◌⊎◌, ◌&&◌, Bool, true, false, Option, Some, None, if◌then◌else◌}
use Rattle.exec_outcomes.specs.Accounts.{Account}
use Rattle.exec_request.specs.declared.cache.Cache.{Cache, TheVariants.{Enabled, Disabled}}

abbrev pub asks_hint : Cache → Bool
asks_hint Enabled = false
asks_hint Disabled = true

-- operations of this open may have the hint
abbrev pub has_hint : Option Account → Bool
has_hint None = false
has_hint (Some account) = account.hinted

-- what is left of a request's wish
abbrev pub cache_for : Bool → Cache → Cache
cache_for hinted cache = if hinted then cache else Enabled

-- the kernel doesn't know the hint
abbrev pub without_hint : Option Account → Option Account
without_hint None = None
without_hint (Some account) = Some (record account { hinted = false })

-- after its next operation is built it asks for the hint as before, or no more where its open has none
abbrev pub AsksOn : Bool → Bool → Bool → Type 0
AsksOn before after stands = (after ≡ before) ⊎ (after ≡ (before && stands))
