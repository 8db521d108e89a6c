-- How far a request has come stands for all results that the run shows of it: each line keeps that.
use Rattle.std.proofs.{Common.{◌≡◌, ℕ, ◌<◌, ◌≤◌, Bool, true, false, ◌==◌, if◌then◌else◌, List, [], ◌∷◌, ◌++◌, Option, Some, None, length, refl, sym, ◌∙◌, ap, subst, arith, inl, inr, get_or, set}, lemmas.{Bool.{true≢false, cases_eq, cases_lt, eq-eqb, ne_eqb}, Grind.get_or-set_at, List.{append-nil, append_assoc, length-set, length_push, get_or-set_other, get_or_append_left, get_or_past, get_or_push}}}
use Rattle.exec_outcomes.{specs.{declared.outcome.{Judged.Judged, Kind.Kind, OpResult.OpResult, Outcome.Outcome}, Accounts.Account, Outcomes.{HasCome, outcome_next, outcome_of}}, proofs.Runs.{next, goes_on}}
use Rattle.exec_machine.{specs.{declared.{config.{Configuration.Configuration, ScriptWord.ScriptWord}, step.Action.{Action, Action as action}, event.{Event.{Event, Event as event}, StepResult.{StepResult, TheVariants.{Refused, Did}}, Line.Line}, state.{RequestPhase.{RequestPhase, RequestPhase as phase}, Operation.Operation, Request.Request}}, Choice.Choice, World.{World, Own, Common, own_of, request_of, no_request}, Tests.{is_resolved, is_in_flight, is_landed_with}, Words.{next_word, polled_task}, Requests.{asked_of, cursor_of, judged_of, operation_asked, operation_or_none, asked_now, with_seen, new_request, resolved_if, reaped, outcome_given, outcome_shown, account_of_open}, Allowed.Allowed, Run.{Follows, RunsBy, after_event, after_line, world_after}, Progress.{Plan, begin}, Results.{result_in, results_of, reaps}}, proofs.{SameIs.same_end_is, Onward.{Hints, AllOnward, by_event, by_other}, Lasting.landed_open}}

abbrev pub IsOpen : List Request → ℕ → Type 0
IsOpen requests r = is_resolved (get_or requests r no_request).phase ≡ false

-- Request r stands by these results.
pub record Stands (requests : List Request) (r : ℕ) (results : List Judged) : Type 0 where
  -- one that is not there yet has none
  pub none_yet : length requests ≤ r → results ≡ []
  pub hints : Hints (get_or requests r no_request)
  pub come : IsOpen requests r → HasCome (asked_of (get_or requests r no_request).operation) (cursor_of (get_or requests r no_request).operation) results

-- ONWARD

onward : {before later : List Request} {r : ℕ} {results : List Judged} → AllOnward before later → Stands before r results → Stands later r results
onward = grind arith

no_more : {requests : List Request} {r : ℕ} {results : List Judged} → Stands requests r results → Stands requests r (results ++ [])
no_more {requests} {r} {results} s = subst (λ results. Stands requests r results) (sym (append-nil results)) s

-- ADMIT

-- an operation of which nothing has come
record IsNew (o : Operation) : Type 0 where
  pub begins : o.moved ≡ 0
  pub first : o.switched ≡ false
  pub unhinted : o.hinted ≡ false

asked_is_new : (c : Configuration) (sampled : ℕ) (w : ScriptWord) → IsNew (operation_or_none (operation_asked c sampled w))
asked_is_new = grind arith

seen_is_new : (o : Operation) (s : Common) → IsNew o → IsNew (with_seen o s)
seen_is_new = grind arith

resolved_if_same : (outcome : Option Outcome) (x : Request) → (resolved_if outcome x).operation ≡ x.operation
resolved_if_same None x = refl
resolved_if_same (Some o) x = refl

hints_of_new : (x : Request) → IsNew x.operation → Hints x
hints_of_new x nothing _ hinted = absurd (true≢false (sym hinted ∙ nothing.unhinted))

come_of_new : (x : Request) → IsNew x.operation → HasCome (asked_of x.operation) (cursor_of x.operation) []
come_of_new x nothing = record { undecided = refl; part = nothing.first; amount = nothing.begins; unrefused = λ _. refl }

admitted : {requests : List Request} {r : ℕ} {results : List Judged} (x : Request) → IsNew x.operation → Stands requests r results → Stands (requests ++ x ∷ []) r results
admitted {requests} {r} {results} x nothing s =
    elim (cases_lt r (length requests)) [
      | inl there ↦
          record {
            none_yet = λ past. s.none_yet (omega (arith, past, length_push requests x));
            hints = rw (get_or_append_left requests (x ∷ []) no_request r there) s.hints;
            come = rw (get_or_append_left requests (x ∷ []) no_request r there) s.come;
          }
      | inr past ↦ elim (cases_lt (length requests) r) [
        | inl beyond ↦
            record {
              none_yet = λ _. s.none_yet past;
              hints = rw (get_or_past (requests ++ x ∷ []) r no_request (omega (arith, length_push requests x, beyond))) (λ flying. absurd (true≢false (sym flying)));
              come = rw (get_or_past (requests ++ x ∷ []) r no_request (omega (arith, length_push requests x, beyond))) (λ unresolved. absurd (true≢false unresolved));
            }
        | inr not_beyond ↦
            record {
              none_yet = λ _. s.none_yet past;
              hints = rw (get_or_push requests x no_request r (omega (arith, past, not_beyond))) (hints_of_new x nothing);
              come = rw (get_or_push requests x no_request r (omega (arith, past, not_beyond)), s.none_yet past) (λ _. come_of_new x nothing);
            }
      ]
    ]

-- REAP

-- what an allowed reap says of its result
record IsJudged (s : Common) (q : ℕ) (n : OpResult) (outcome : Option Outcome) : Type 0 where
  pub landed : is_landed_with n (request_of s q).phase ≡ true
  pub told : outcome ≡ outcome_shown (account_of_open s (request_of s q)) (request_of s q).operation.kind (outcome_given (request_of s q) n)

reap_allowed : (c : Configuration) (me : Own) (s : Common) (i q : ℕ) (n : OpResult) (outcome : Option Outcome) (choice : Choice) → Allowed c me s i (event.Reap q n outcome) choice → IsJudged s q n outcome
reap_allowed c me s i q n outcome choice a =
    record {
      landed = a.1.1.1.0;
      told = same_end_is outcome (outcome_shown (account_of_open s (request_of s q)) (request_of s q).operation.kind (outcome_given (request_of s q) n)) a.1.1.1.1.0;
    }

landed_flies : (n : OpResult) (p : RequestPhase) → is_landed_with n p ≡ true → is_in_flight p ≡ true
landed_flies n (phase.Landed m) h = refl
landed_flies n p h = absurd (true≢false (sym h))

is_nothing : Option Outcome → Bool
is_nothing None = true
is_nothing (Some o) = false

-- nothing is told only where nothing was given
none_given : (account : Account) (kind : Kind) (given : Option Outcome) → None ≡ outcome_shown account kind given → given ≡ None
unfolding is_nothing
none_given account kind None told = refl
none_given account kind (Some o) told = absurd (true≢false (ap is_nothing told))

open_there : (requests : List Request) (r : ℕ) → IsOpen requests r → r < length requests
open_there = grind (arith, cases_lt, true≢false, get_or_past)

-- the request itself changes
at_once : (requests : List Request) (r : ℕ) (y : Request) (results : List Judged) → r < length requests → Hints y
    → (is_resolved y.phase ≡ false → HasCome (asked_of y.operation) (cursor_of y.operation) results) → Stands (set requests r y) r results
at_once requests r y results there hints come =
    grind (arith, length-set, get_or-set_at, come)

-- another request changes
elsewhere : {requests : List Request} {r : ℕ} {results : List Judged} (q : ℕ) (y : Request) → (q ≡ r → ⊥) → Stands requests r results → Stands (set requests q y) r results
elsewhere {requests} {r} {results} q y apart s =
    record {
      none_yet = λ past. s.none_yet (omega (arith, past, length-set requests q y));
      hints = rw (get_or-set_other requests q r y no_request (λ e. apart (sym e))) s.hints;
      come = rw (get_or-set_other requests q r y no_request (λ e. apart (sym e))) s.come;
    }

reap_same : (s : Common) (q : ℕ) (n : OpResult) (outcome : Option Outcome) (results : List Judged) → IsJudged s q n outcome → Stands s.requests q results
    → Stands (set s.requests q (reaped n outcome (request_of s q))) q (results ++ judged_of (request_of s q) n ∷ [])
reap_same s q n None results judged stands =
    let x : Request = request_of s q in
    let unresolved : IsOpen s.requests q = landed_open n x.phase judged.landed in
    let hint : (judged_of x n).hinted ≡ true → (cursor_of x.operation).hinted ≡ true = stands.hints (landed_flies n x.phase judged.landed) in
    let none : outcome_next (asked_of x.operation) (cursor_of x.operation) (judged_of x n) ≡ None =
    none_given (account_of_open s x) x.operation.kind (outcome_given x n) judged.told in
    at_once s.requests q (reaped n None x) (results ++ judged_of x n ∷ []) (open_there s.requests q unresolved) (λ flying. absurd (true≢false (sym flying)))
    (λ _. goes_on (asked_of x.operation) (cursor_of x.operation) results (judged_of x n) (stands.come unresolved) hint none)
reap_same s q n (Some o) results judged stands =
    let x : Request = request_of s q in
    at_once s.requests q (reaped n (Some o) x) (results ++ judged_of x n ∷ []) (open_there s.requests q (landed_open n x.phase judged.landed))
    (λ flying. absurd (true≢false (sym flying))) (λ unresolved. absurd (true≢false unresolved))

abbrev pub result_if : Bool → Judged → List Judged
result_if b one = if b then one ∷ [] else []

reap : (s : Common) (q r : ℕ) (n : OpResult) (outcome : Option Outcome) (results : List Judged) → IsJudged s q n outcome → Stands s.requests r results
    → Stands (set s.requests q (reaped n outcome (request_of s q))) r (results ++ result_if (q == r) (judged_of (request_of s r) n))
reap s q r n outcome results judged stands =
    let y : Request = reaped n outcome (request_of s q) in
    elim (cases_eq q r) [
      | inl same ↦
          subst (λ r. Stands (set s.requests q y) r (results ++ result_if (q == r) (judged_of (request_of s r) n))) same
          (rw (eq-eqb q q refl) (reap_same s q n outcome results judged (subst (λ r. Stands s.requests r results) (sym same) stands)))
      | inr apart ↦ rw (ne_eqb q r apart) (elsewhere q y apart (no_more stands))
    ]

-- LINES

by_action : (c : Configuration) (w : World) (a : Action) (e : Event) (choice : Choice) (r : ℕ) (results : List Judged) → Follows c w a (Did e) choice → Stands w.common.requests r results
    → Stands (after_event c w a e choice).common.requests r (results ++ result_in w r (Did e))
by_action c w (action.Work i) (event.Admit q kind outcome) choice r results f s =
    let o : Operation = asked_now c (own_of w i) w.common in
    let x : Request = resolved_if outcome (new_request i (with_seen o w.common)) in
    let nothing : IsNew x.operation =
    subst (λ (o : Operation). IsNew o) (sym (resolved_if_same outcome (new_request i (with_seen o w.common))))
    (seen_is_new o w.common (asked_is_new c (own_of w i).sampled (next_word w.common (polled_task (own_of w i) w.common)))) in
    no_more (admitted x nothing s)
by_action c w (action.Work i) (event.Reap q n outcome) choice r results f s =
    reap w.common q r n outcome results (reap_allowed c (own_of w i) w.common i q n outcome choice f.1) s
by_action c w (action.Work i) e choice r results f s = no_more (onward (by_event c (own_of w i) w.common i e choice refl f.1) s)
by_action c w (action.Spawn j k) (event.Reap q n outcome) choice r results f s = absurd (true≢false (sym f.1.0))
by_action c w (action.Wake j t) (event.Reap q n outcome) choice r results f s = absurd (true≢false (sym f.1.0))
by_action c w (action.GoOn j) (event.Reap q n outcome) choice r results f s = absurd (true≢false (sym f.1.0))
by_action c w a (event.Reap q n outcome) choice r results f s = absurd (true≢false (sym f.1.0))
by_action c w a e choice r results f s = no_more (onward (by_other c w a e choice refl f) s)

by_line : (c : Configuration) (w : World) (a : Action) (said : StepResult) (choice : Choice) (r : ℕ) (results : List Judged) → Follows c w a said choice → Stands w.common.requests r results
    → Stands (after_line c w a said choice).common.requests r (results ++ result_in w r said)
by_line c w a Refused choice r results f s = no_more s
by_line c w a (Did e) choice r results f s = by_action c w a e choice r results f s

by_lines : (c : Configuration) (w : World) (lines : List Line) (choices : List Choice) (r : ℕ) (results : List Judged) → RunsBy c w lines choices → Stands w.common.requests r results
    → Stands (world_after c w lines choices).common.requests r (results ++ results_of c w r lines choices)
by_lines c w [] [] r results f s = no_more s
by_lines c w [] (choice ∷ choices) r results f s = absurd f
by_lines c w (l ∷ ls) [] r results f s = absurd f
by_lines c w (l ∷ ls) (choice ∷ choices) r results f s =
    let next : World = after_line c w l.action l.said choice in
    subst (λ results. Stands (world_after c next ls choices).common.requests r results) (append_assoc results (result_in w r l.said) (results_of c next r ls choices))
    (by_lines c next ls choices r (results ++ result_in w r l.said) f.1 (by_line c w l.action l.said choice r results f.0 s))

first_stands : (p : Plan) (r : ℕ) → Stands (begin p).common.requests r []
first_stands p r =
    record { none_yet = λ _. refl; hints = λ flying. absurd (true≢false (sym flying)); come = λ unresolved. absurd (true≢false unresolved) }

pub come : (p : Plan) (lines : List Line) (choices : List Choice) (r : ℕ) → RunsBy p.config (begin p) lines choices
    → is_resolved (request_of (world_after p.config (begin p) lines choices).common r).phase ≡ false
    → HasCome (asked_of (request_of (world_after p.config (begin p) lines choices).common r).operation) (cursor_of (request_of (world_after p.config (begin p) lines choices).common r).operation) (results_of p.config (begin p) r lines choices)
come p lines choices r runs unresolved = (by_lines p.config (begin p) lines choices r [] runs (first_stands p r)).come unresolved

-- from any state: the result that is judged joins those before it
judged_from : (c : Configuration) (w : World) (lines later : List Line) (choices : List Choice) (i r : ℕ) (n : OpResult) (outcome : Option Outcome) (results : List Judged)
    → RunsBy c w (lines ++ reaps i r n outcome ∷ later) choices
    → Stands w.common.requests r results
    → outcome ≡ outcome_shown (account_of_open (world_after c w lines choices).common (request_of (world_after c w lines choices).common r)) (request_of (world_after c w lines choices).common r).operation.kind (outcome_of (asked_of (request_of (world_after c w lines choices).common r).operation) ((results ++ results_of c w r lines choices) ++ judged_of (request_of (world_after c w lines choices).common r) n ∷ []))
judged_from c w [] later [] i r n outcome results f s = absurd f
judged_from c w [] later (choice ∷ choices) i r n outcome results f s =
    let x : Request = request_of w.common r in
    let here : Stands w.common.requests r (results ++ []) = no_more s in
    let said = reap_allowed c (own_of w i) w.common i r n outcome choice f.0.1 in
    let all : outcome_of (asked_of x.operation) ((results ++ []) ++ judged_of x n ∷ []) ≡ outcome_given x n =
    next (asked_of x.operation) (cursor_of x.operation) (results ++ []) (judged_of x n) (here.come (landed_open n x.phase said.landed)) (here.hints (landed_flies n x.phase said.landed)) in
    said.told ∙ ap (λ given. outcome_shown (account_of_open w.common x) x.operation.kind given) (sym all)
judged_from c w (l ∷ ls) later [] i r n outcome results f s = absurd f
judged_from c w (l ∷ ls) later (choice ∷ choices) i r n outcome results f s =
    let next : World = after_line c w l.action l.said choice in
    let x : Request = request_of (world_after c next ls choices).common r in
    subst (λ (results : List Judged). outcome ≡ outcome_shown (account_of_open (world_after c next ls choices).common x) x.operation.kind (outcome_of (asked_of x.operation) (results ++ judged_of x n ∷ [])))
    (append_assoc results (result_in w r l.said) (results_of c next r ls choices))
    (judged_from c next ls later choices i r n outcome (results ++ result_in w r l.said) f.1 (by_line c w l.action l.said choice r results f.0 s))

pub judged : (p : Plan) (lines later : List Line) (choices : List Choice) (i r : ℕ) (n : OpResult) (outcome : Option Outcome)
    → RunsBy p.config (begin p) (lines ++ reaps i r n outcome ∷ later) choices
    → outcome ≡ outcome_shown (account_of_open (world_after p.config (begin p) lines choices).common (request_of (world_after p.config (begin p) lines choices).common r)) (request_of (world_after p.config (begin p) lines choices).common r).operation.kind (outcome_of (asked_of (request_of (world_after p.config (begin p) lines choices).common r).operation) (results_of p.config (begin p) r lines choices ++ judged_of (request_of (world_after p.config (begin p) lines choices).common r) n ∷ []))
judged p lines later choices i r n outcome runs = judged_from p.config (begin p) lines later choices i r n outcome [] runs (first_stands p r)
