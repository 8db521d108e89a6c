-- The places of a driver: for each the requests in it, in order of coming.
use Rattle.std.specs.{Prelude.{◌≡◌, ℕ, Bool, true, false, not, ◌+◌, ◌<◌, ◌==◌, ◌&&◌, nat_lt, List, [], ◌∷◌, ◌++◌, filter, length, slice_index, Option, Some, None, if◌then◌else◌}, List.list_any}
use Rattle.exec_waiters.specs.declared.waiter_id.WaiterId.{WaiterId}

pub record Lists : Type 0 where
  -- what is to be staged; what waits at a gate; whose deadline is to be enrolled; whose has come; whose cancel is to be
  -- staged
  pub queued : List WaiterId
  pub gated : List WaiterId
  pub enrolments : List WaiterId
  pub due : List WaiterId
  pub cancels : List WaiterId
  -- for how many requests there is memory in each
  pub room : ℕ

abbrev pub no_lists : Lists
no_lists = record { queued = []; gated = []; enrolments = []; due = []; cancels = []; room = 0 }

-- a name is that one
abbrev pub is_same : WaiterId → WaiterId → Bool
is_same a b = (a.0.index == b.0.index) && (a.0.generation == b.0.generation)

-- a list without a name, and whether it has one
abbrev pub without : WaiterId → List WaiterId → List WaiterId
without id ids = filter (λ other. not (is_same other id)) ids

abbrev pub is_among : WaiterId → List WaiterId → Bool
is_among id ids = list_any (λ other. is_same other id) ids

-- whether there is a first, which, and what comes after it
abbrev pub has_first : List WaiterId → Bool
has_first [] = false
has_first (id ∷ ids) = true

abbrev pub first_of : List WaiterId → Option WaiterId
first_of [] = None
first_of (id ∷ ids) = Some id

abbrev pub rest_of : List WaiterId → List WaiterId
rest_of [] = []
rest_of (id ∷ ids) = ids

-- one leaves every place
abbrev pub withdrawn : WaiterId → Lists → Lists
withdrawn id l =
    record l {
      queued = without id l.queued;
      gated = without id l.gated;
      enrolments = without id l.enrolments;
      due = without id l.due;
      cancels = without id l.cancels;
    }

-- one comes into a place, at its end
abbrev pub with_queued : WaiterId → Lists → Lists
with_queued id l = record l { queued = l.queued ++ id ∷ [] }

abbrev pub with_gated : WaiterId → Lists → Lists
with_gated id l = record l { gated = l.gated ++ id ∷ [] }

abbrev pub with_enrolment : WaiterId → Lists → Lists
with_enrolment id l = record l { enrolments = l.enrolments ++ id ∷ [] }

abbrev pub with_due : WaiterId → Lists → Lists
with_due id l = if is_among id l.due then l else record l { due = l.due ++ id ∷ [] }

-- one whose deadline was in the wheel is cancelled
abbrev pub with_cancel : WaiterId → Lists → Lists
with_cancel id l = record l { due = without id l.due; cancels = l.cancels ++ id ∷ [] }

-- one that waited at a gate has its permit
abbrev pub without_gated : WaiterId → Lists → Lists
without_gated id l = record l { gated = without id l.gated }

-- the first of a place leaves it
abbrev pub after_queued : Lists → Lists
after_queued l = record l { queued = rest_of l.queued }

abbrev pub after_enrolment : Lists → Lists
after_enrolment l = record l { enrolments = rest_of l.enrolments }

abbrev pub after_due : Lists → Lists
after_due l = record l { due = rest_of l.due }

abbrev pub after_cancel : Lists → Lists
after_cancel l = record l { cancels = rest_of l.cancels }

-- how many of the names of a list have a slot
abbrev pub in_slot : ℕ → List WaiterId → ℕ
in_slot slot [] = 0
in_slot slot (id ∷ ids) = if id.0.index == slot then 1 + in_slot slot ids else in_slot slot ids

-- each count is that of its slot
abbrev pub AreCounted : List WaiterId → List ℕ → Type 0
AreCounted ids counts = (slot : ℕ) → slot < length counts → slice_index counts slot ≡ in_slot slot ids

-- each name has one of the first slots
abbrev pub are_within : ℕ → List WaiterId → Bool
are_within slots [] = true
are_within slots (id ∷ ids) = nat_lt id.0.index slots && are_within slots ids
