-- What a body sees of the opens.
use Rattle.std.proofs.Common.{arith, ◌≡◌, ℕ, List, [], ◌∷◌, map, Some, refl, slice_index_or}
use Rattle.exec_opens.specs.Opens.{OpenState, account_in}
use Rattle.exec_parts.specs.{Words.fresh_account, View.account_seen}

-- a file that has no open shows the record of a fresh one
pub account_there : (opens : List OpenState) (file : ℕ) → slice_index_or (map (λ o. account_seen o.account) opens) file fresh_account ≡ account_seen (account_in opens (Some file))
account_there [] file = refl
account_there (o ∷ os) file = grind (arith, account_there os)
