-- A durable request that isn't over stays so by each event but its reaping, its grant, and what its deadline brings.
use Rattle.std.proofs.{Common.{◌≡◌, ℕ, zero, suc, Bool, true, false, ◌==◌, List, [], ◌∷◌, ◌++◌, Option, map, sym, ◌∙◌, ap, subst, inl, inr, get_or, set, arith}, lemmas.Bool.{false≢true, cases_Bool}}
use Rattle.exec_outcomes.specs.{declared.outcome.Kind.Kind, Accounts.is_durable}
use Rattle.exec_machine.specs.{declared.{config.Configuration.Configuration, event.Event.{Event, Event as event}, state.{MailMessage.MailMessage, Operation.Operation, Request.Request}}, Choice.{Choice, Payer}, World.{Own, Common, request_of, no_request}, Tests.{is_of_file, is_resolved}, Requests.{dropped, flown}, Tasks.{requests_after_drops, after_wait, after_payment, after_wake, after_pend}, Mail.{after_sending, after_apply}, Closing.{after_turn, after_clear}, After.common_after}
use Rattle.exec_books.proofs.Spares.{word_requests, post_requests}

-- what is durable is of a file, and goes on where nobody holds it

pub durable_of_file : (k : Kind) → is_durable k ≡ true → is_of_file k ≡ true
durable_of_file = grind arith

-- ONE REQUEST

pub record Lasts (x y : Request) : Type 0 where
  pub stays : is_durable x.operation.kind ≡ true → is_resolved x.phase ≡ false → (is_durable y.operation.kind ≡ true) × (is_resolved y.phase ≡ false)

lasts : {x : Request} → Lasts x x
lasts = record { stays = λ durable going. (durable, going) }

-- other fields than these change
touched : {x y : Request} → y.phase ≡ x.phase → y.operation ≡ x.operation → Lasts x y
touched {x} {y} same alike = record { stays = λ durable going. (subst (λ (o : Operation). is_durable o.kind ≡ true) (sym alike) durable, ap is_resolved same ∙ going) }

lasts_on : {x y z : Request} → Lasts x y → Lasts y z → Lasts x z
lasts_on a b = record { stays = λ durable going. let it = a.stays durable going in b.stays it.0 it.1 }

pub dropped_lasts : (x : Request) → Lasts x (dropped x)
dropped_lasts = grind arith

flown_lasts : (i : ℕ) (x : Request) → Lasts x (flown i x)
flown_lasts = grind arith

-- ALL REQUESTS

abbrev AllLast : List Request → List Request → Type 0
AllLast xs ys = (r : ℕ) → Lasts (get_or xs r no_request) (get_or ys r no_request)

none_changed : (xs : List Request) → AllLast xs xs
none_changed xs r = lasts

as_before : {xs ys : List Request} → ys ≡ xs → AllLast xs ys
as_before {xs} same = subst (λ ys. AllLast xs ys) (sym same) (none_changed xs)

set_each : (xs : List Request) (q : ℕ) (y : Request) → Lasts (get_or xs q no_request) y → AllLast xs (set xs q y)
set_each [] q y h r = lasts
set_each (x ∷ xs) zero y h zero = h
set_each (x ∷ xs) zero y h (suc r) = lasts
set_each (x ∷ xs) (suc q) y h zero = lasts
set_each (x ∷ xs) (suc q) y h (suc r) = set_each xs q y h r

-- what comes last was over as what isn't there is
one_more : (xs : List Request) (y : Request) → AllLast xs (xs ++ y ∷ [])
one_more [] y r = record { stays = λ durable. absurd (false≢true durable) }
one_more (x ∷ xs) y zero = lasts
one_more (x ∷ xs) y (suc r) = one_more xs y r

flown_each : (i : ℕ) (xs : List Request) → AllLast xs (map (flown i) xs)
flown_each i [] r = lasts
flown_each i (x ∷ xs) zero = flown_lasts i x
flown_each i (x ∷ xs) (suc r) = flown_each i xs r

drops : (i : ℕ) (held : List ℕ) (xs : List Request) → AllLast xs (requests_after_drops i held xs)
drops i [] xs = none_changed xs
drops i (q ∷ held) xs =
    let it : Request = get_or xs q no_request in
    elim (cases_Bool (it.worker == i)) [
      | inl own ↦ rw own (λ r. lasts_on (set_each xs q (dropped it) (dropped_lasts it) r) (drops i held (set xs q (dropped it)) r))
      | inr other ↦ rw other (drops i held xs)
    ]

-- EACH EVENT

turn_keeps : (me : Own) (s : Common) (i : ℕ) (choice : Choice) → (after_turn me s i choice).requests ≡ s.requests
turn_keeps = grind arith

by_payment : (s : Common) (polls : Option ℕ) (payer : Payer) → AllLast s.requests (after_payment s polls payer).requests
by_payment = grind (arith, set_each, touched, none_changed)

by_wake : (me : Own) (s : Common) (t : ℕ) (choice : Choice) → AllLast s.requests (after_wake me s t choice).requests
by_wake = grind (arith, none_changed, by_payment)

by_sending : (s : Common) (polls : Option ℕ) (m : MailMessage) → AllLast s.requests (after_sending s polls m).requests
by_sending = grind (arith, none_changed, set_each, touched)

by_apply : (me : Own) (s : Common) (i : ℕ) (m : MailMessage) → AllLast s.requests (after_apply me s i m).requests
by_apply = grind (arith, none_changed, set_each, touched, dropped_lasts)

by_pend : (s : Common) (i t : ℕ) → AllLast s.requests (after_pend s i t).requests
by_pend = grind (arith, cases_Bool, drops, lasts)

by_clear : (s : Common) (i t : ℕ) → AllLast s.requests (after_clear s i t).requests
by_clear = grind (arith, cases_Bool, drops, lasts)

by_wait : (s : Common) (t : ℕ) (what : Option ℕ) → AllLast s.requests (after_wait s t what).requests
by_wait = grind (arith, none_changed, set_each, touched)

-- none by which a durable request may be over
abbrev pub is_mild : Event → Bool
is_mild (event.Reap r n outcome) = false
is_mild (event.Grant r outcome) = false
is_mild (event.Enrol r outcome) = false
is_mild (event.Expire r outcome) = false
is_mild _ = true

pub by_mild : (c : Configuration) (me : Own) (s : Common) (i : ℕ) (e : Event) (choice : Choice) → is_mild e ≡ true → (k : ℕ) → Lasts (request_of s k) (request_of (common_after c me s i e choice) k)
by_mild = grind (arith, as_before, turn_keeps, by_pend, drops, word_requests, by_clear, one_more, by_wait, set_each, touched, dropped_lasts, by_wake, false≢true, flown_each, post_requests, by_sending, by_apply, none_changed)
