-- The opens that workers share, by number: for each the line at its gate, and what is kept of it.
use Rattle.std.specs.{Prelude.{ℕ, ◌+◌, ◌-◌, ◌++◌, List, [], ◌∷◌, drop, Option, Some, None, is_none, slice_get, slice_set, if◌then◌else◌}, Option.option_map}
use Rattle.exec_outcomes.specs.Accounts.{Account, changed, fresh_account}
use Rattle.exec_opens.specs.declared.opens.WaiterKey.{WaiterKey}

-- who has the permit, who waits for it in order of coming, how many have a place in the line that haven't joined it, and
-- what is kept of the open
pub record OpenState : Type 0 where
  pub holder : Option WaiterKey
  pub waiting : List WaiterKey
  pub coming : ℕ
  pub account : Option Account

-- an open of which nothing is known
abbrev pub fresh_open : OpenState
fresh_open = record { holder = None; waiting = []; coming = 0; account = Some fresh_account }

-- one more has a place in the line, one fewer, one joins, and the holder leaves
abbrev pub placed : OpenState → OpenState
placed o = record o { coming = o.coming + 1 }

abbrev pub displaced : OpenState → OpenState
displaced o = record o { coming = o.coming - 1 }

abbrev pub joined : WaiterKey → OpenState → OpenState
joined key o =
    if is_none o.holder then (record o { coming = o.coming - 1; holder = Some key })
    else (record o { coming = o.coming - 1; waiting = o.waiting ++ key ∷ [] })

abbrev pub passed : OpenState → OpenState
passed o = record o { holder = slice_get o.waiting 0; waiting = drop 1 o.waiting }

-- this is kept of it
abbrev pub keeping : Option Account → OpenState → OpenState
keeping account o = record o { account = account }

-- the open of this number, and the open that is named, if one is
abbrev pub open_at : List OpenState → ℕ → Option OpenState
open_at opens file = slice_get opens file

abbrev pub open_named : List OpenState → Option ℕ → Option OpenState
open_named opens None = None
open_named opens (Some file) = open_at opens file

-- the opens, of which one becomes what a function makes of it
abbrev pub with_open_in : List OpenState → ℕ → (OpenState → OpenState) → Option OpenState → List OpenState
with_open_in opens file change None = opens
with_open_in opens file change (Some o) = slice_set opens file (change o)

abbrev pub with_open : List OpenState → ℕ → (OpenState → OpenState) → List OpenState
with_open opens file change = with_open_in opens file change (open_at opens file)

abbrev pub with_named : List OpenState → Option ℕ → (OpenState → OpenState) → List OpenState
with_named opens None change = opens
with_named opens (Some file) change = with_open opens file change

-- what is kept of the open that is named
abbrev pub account_by : Option OpenState → Option Account
account_by None = None
account_by (Some o) = o.account

abbrev pub account_in : List OpenState → Option ℕ → Option Account
account_in opens file = account_by (open_named opens file)

abbrev pub with_account : List OpenState → Option ℕ → Option Account → List OpenState
with_account opens file account = with_named opens file (keeping account)

-- a plain write of the open that is named was admitted
abbrev pub writing : OpenState → OpenState
writing o = record o { account = option_map changed o.account }

-- who has the permit, and who comes next
abbrev pub holder_in : Option OpenState → Option WaiterKey
holder_in None = None
holder_in (Some o) = o.holder

abbrev pub holder_at : List OpenState → ℕ → Option WaiterKey
holder_at opens file = holder_in (open_at opens file)

abbrev pub next_in : Option OpenState → Option WaiterKey
next_in None = None
next_in (Some o) = slice_get o.waiting 0

abbrev pub next_at : List OpenState → ℕ → Option WaiterKey
next_at opens file = next_in (open_at opens file)
