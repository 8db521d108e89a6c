-- Where nobody has the permit of an open nobody waits for it, also after an event of a worker.
use Rattle.std.proofs.Common.{ℕ, Bool, true, false, List, Option, Some, None, refl, sym, subst, arith, get_or, set, if◌then◌else◌}
use Rattle.exec_outcomes.specs.{declared.outcome.{Kind.Kind, OpResult.OpResult, Outcome.Outcome}, Outcomes.refuses_hint}
use Rattle.exec_machine.specs.{declared.{config.Configuration.Configuration, event.Event.{Event, Event as event}, state.{Next.{Next, Next as next}, Operation.Operation, Request.Request}}, After.common_after, Allowed.Allowed, Choice.{Choice, Choice.Passes}, Closing.after_next, Requests.{common_after_refusal, judged_of, open_after_end, open_joined_by, opens_after_end, outcome_given, passed_on}, Tests.is_of_file, World.{Common, Open, Own as Books, no_open, open_of, request_of}}
use Rattle.exec_rest.proofs.Others.{set_like}
use Rattle.exec_books.{specs.Booked.IsLed, proofs.Reach.opens_left}

-- ONE OPEN

joined_led : (r : ℕ) (x : Open) → IsLed x → IsLed (open_joined_by r x)
joined_led = grind arith

passed_led : (x : Open) → IsLed (passed_on x)
passed_led = grind arith

ended_led : (file : ℕ) (o : Operation) (outcome : Outcome) (x : Open) → IsLed x → IsLed (open_after_end file o outcome x)
ended_led = grind (arith, passed_led)

-- ALL OPENS

abbrev Leads : List Open → List Open → Type 0
Leads os os' = (f : ℕ) → IsLed (get_or os f no_open) → IsLed (get_or os' f no_open)

set_leads : (os : List Open) (q : ℕ) (y : Open) → (IsLed (get_or os q no_open) → IsLed y) → Leads os (set os q y)
set_leads os q y here f = set_like (λ x z. IsLed x → IsLed z) (λ x h. h) os q f y no_open here

leads_then : (os later last : List Open) → Leads os later → Leads later last → Leads os last
leads_then os later last one other f h = other f (one f h)

end_leads : (o : Operation) (outcome : Option Outcome) (s : Common) → Leads s.opens (opens_after_end o outcome s)
end_leads o None s = λ f h. h
end_leads o (Some outcome) s = by (is_of_file o.kind)
  where
    by : (b : Bool) → Leads s.opens (if b then set s.opens o.target (open_after_end o.target o outcome (open_of s o.target)) else s.opens)
    by true = set_leads s.opens o.target _ (ended_led o.target o outcome (open_of s o.target))
    by false = λ f h. h

-- a refused hint is of the account alone
refusal_leads : (s : Common) (x : Request) (m : OpResult) → Leads s.opens (common_after_refusal s x m).opens
refusal_leads s x m = by (refuses_hint (judged_of x m))
  where
    unhinted : Open
    unhinted = let o = open_of s x.operation.target in record o { account = record o.account { hinted = false } }

    by : (b : Bool) → Leads s.opens (if b then record s { opens = set s.opens x.operation.target unhinted } else s).opens
    by true = set_leads s.opens x.operation.target unhinted (λ h. h)
    by false = λ f h. h

module _ (c : Configuration) (me : Books) (s : Common) (i : ℕ) where
  turn_leads : (n : Next) → Leads s.opens (after_next s i n).opens
  turn_leads (next.Joins r) = let q = (request_of s r).operation.target in set_leads s.opens q _ (joined_led r (open_of s q))
  turn_leads _ = λ f h. h

  admit_leads : (r : ℕ) (kind : Kind) (outcome : Option Outcome) (choice : Choice) → Leads s.opens (common_after c me s i (event.Admit r kind outcome) choice).opens
  admit_leads r kind outcome choice = grind (arith, set_leads)

  pub opens_led : (e : Event) (choice : Choice) → Allowed c me s i e choice → Leads s.opens (common_after c me s i e choice).opens
  opens_led event.Turn Passes h = λ f led. led
  opens_led event.Turn choice h = turn_leads me.next
  opens_led (event.Admit r kind outcome) choice h = admit_leads r kind outcome choice
  opens_led (event.Grant r outcome) choice h = end_leads (request_of s r).operation outcome s
  opens_led (event.Reap r n outcome) choice h =
      let it = request_of s r in
      let told = common_after_refusal s it n in
      leads_then s.opens told.opens (opens_after_end it.operation (outcome_given it n) told) (refusal_leads s it n) (end_leads it.operation (outcome_given it n) told)
  opens_led e choice h = λ f led. subst IsLed (sym (opens_left c me s i me.polls e choice h f refl)) led
