-- Where the body of a task stands in its script, and what it asks for there.
use Rattle.std.specs.Prelude.{◌≡◌, ℕ, Bool, true, false, List, [], Option, None}
use Rattle.exec_parts.specs.{Words.{Kind, Hint, Direct, asked_of, cursor_of, deadline_of, target_of, Request, Code, Operation, Task, Adapter, AdapterCall, asked_in}, Records.offset_in}

-- which script, the number of the next word, and what it keeps between words
pub record Spot : Type 0 where
  pub code : Code
  pub place : ℕ
  pub adapters : List Adapter
  pub call : Option AdapterCall

-- where no body is
abbrev pub no_spot : Spot
no_spot = record { code = Code.Waits; place = 0; adapters = []; call = None }

-- the task with its body there
abbrev pub standing_at : Spot → Task → Task
standing_at at t = record t { code = at.code; place = at.place; adapters = at.adapters; call = at.call }

abbrev pub spot_of : Task → Spot
spot_of t = record { code = t.code; place = t.place; adapters = t.adapters; call = t.call }

-- requests of these kinds ask for the hint, in their first part or in their second
abbrev pub wants_hint : Kind → Bool
wants_hint Hint = true
wants_hint Direct = true
wants_hint _ = false

-- the request is what a word asks for, and was not begun
pub record IsAskedFor (o : Operation) (r : Request) : Type 0 where
  pub asked : asked_of r ≡ asked_in o
  pub target : target_of r ≡ o.target
  pub offset : offset_in r ≡ o.offset
  pub deadline : deadline_of r ≡ o.deadline
  pub unmoved : (cursor_of r).moved ≡ 0
  pub unswitched : (cursor_of r).switched ≡ false
  pub hint : (cursor_of r).hinted ≡ wants_hint o.kind
