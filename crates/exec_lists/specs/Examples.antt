-- Names of the worked examples, and the places with two of them.
use Rattle.exec_waiters.specs.{Examples.named, declared.waiter_id.WaiterId.WaiterId}
use Rattle.exec_lists.specs.Lists.{Lists, no_lists, with_queued, with_due}

-- the requests of two slots, and the next one of the first slot
abbrev pub first : WaiterId
first = record { 0 = named 0 0 }

abbrev pub second : WaiterId
second = record { 0 = named 1 0 }

abbrev pub later : WaiterId
later = record { 0 = named 0 1 }

-- both are queued, or due
abbrev pub both_queued : Lists
both_queued = with_queued second (with_queued first no_lists)

abbrev pub both_due : Lists
both_due = with_due second (with_due first no_lists)
