-- The request that a completion is of.
use Rattle.std.proofs.Common.{◌≡◌, List, Some, None, ap, ◌∙◌, if◌then◌else◌, arith}
use Rattle.exec_ring.specs.{Completions.result_in, declared.completion.Completion.Completion}
use Rattle.exec_waiters.specs.States.{named}
use Rattle.exec_driver.specs.{Driving.Driving, Steps.{completed_in, if_lawful, lawful_of}}
use Rattle.exec_parts.specs.declared.parts.{mail.Reply.Reply, names.Names.Names, record.Record.Record}
use Rattle.exec_invariants.specs.Flown.{HasLanded}

module _ (n : Names) (d : Driving Reply Reply) (rs : List Record) (c : Completion) (h : HasLanded n d rs c) where
  -- its user data names it
  pub named_is : named d.requests c.user_data ≡ Some h.id
  named_is = grind arith

  pub completed_is : completed_in d c ≡ Some h.id
  completed_is =
      ap (lawful_of d.requests (result_in c.result)) named_is ∙ ap (λ o. if_lawful h.id o (result_in c.result)) h.live ∙ ap (λ b. if b then Some h.id else None) h.lawful
