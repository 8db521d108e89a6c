-- What the moves of a service do with gates and permits.
use Rattle.std.{proofs.{Common.{◌≡◌, ℕ, suc, unwrap_or, Bool, true, false, List, [], ◌∷◌, get_or, set, Option, Some, None, refl, sym, ap, subst, ◌∙◌, inl, if◌then◌else◌, arith}, lemmas.{Bool.{true≢false, false≢true, cases_Bool, eqb-true, eq-eqb}, Grind.get_or-set_at, List.{get_or-set_other, get_or-set_same}}}, specs.Prelude.{nat_lt, slice_get}}
use Rattle.exec_outcomes.specs.{declared.outcome.{OpResult.OpResult, Outcome.Outcome}, Accounts.{Account, is_durable}}
use Rattle.exec_machine.specs.{declared.{config.Configuration.Configuration, event.Event.{Event, TheVariants.{Serve, Grant}}, state.{Request.Request, Sleeper.Sleeper}}, After.common_after, Requests.{granted, outcome_shown, reaped}, Tests.{is_gated, is_of_file, is_resolved}, World.{Common, Own as Books, no_request, request_of}, Choice.Choice.Plain as Open, Deadlines.{enrolled, expired, fires_at, outcome_at_enrol, outcome_at_expiry}}
use Rattle.exec_moves.specs.{declared.place.{AfterPermit.{AfterPermit, AfterPermit as permit}, InService.{InService, InService as step}, Place.{Place, Place as at}, Reaping.Reaping, Service.Service}, Move.{move_service, move_submit}, Serve.{after_passing, after_permit, after_reap, after_service, back_from_reap, end_service, enter_last, first_to_fire, reap}, State.{Desk, Moved, Things, gate_of, word_of, does}, Thing.{aside, ring_of, with_ring, set_gate}, Told.told_of_fire, Submit.{Due, Due.{AtGate, Enrols, Expires}, after_grant, first_due, granted_at, next_gate, submits}}
use Rattle.exec_rest.proofs.Asides.{put_same}
use Rattle.exec_settled.{specs.{Given.passes_at, Permits.{is_past, is_past_in, is_past_permit, is_past_reaping}}, proofs.{HandsEvents.{durable_of_file, is_mild}, HandsGate.{first_is_due, gated_there, granted_first, granted_is_first, opened, over_one, some_gate, stays_early, this_gate, undue}, HandsMovesA.mild_if, HandsPlain.{HandsBy, Kept, Plain, kept_out, mild_over, plain, plain_hands, same_gates, some_none}}}

-- a request of a file has no deadline
abbrev pub AreUndated : Common → Type 0
AreUndated s = (k : ℕ) → is_of_file (request_of s k).operation.kind ≡ true → ((request_of s k).operation.deadline ≡ None) × ((request_of s k).timer ≡ None)

-- who stands first at a gate is of its open
abbrev pub AreOfGate : Common → Things → Type 0
AreOfGate s x = (file k : ℕ) → slice_get (gate_of x file) 0 ≡ Some k → (request_of s k).operation.target ≡ file

-- where the parts of a service lead
pub past_permit : (file : ℕ) (b : AfterPermit) → is_past_permit file b ≡ false → is_past_in file (after_permit b) ≡ false
past_permit = grind arith

past_back : (file : ℕ) (r : Reaping) (later : List ℕ) → is_past_reaping r ≡ false → is_past_permit file (back_from_reap r later) ≡ false
past_back = grind arith

pub past_in_if : (file : ℕ) (b : Bool) (p q : InService) → is_past_in file p ≡ false → is_past_in file q ≡ false → is_past_in file (if b then p else q) ≡ false
past_in_if = grind arith

past_after_reap : (file : ℕ) (it : Request) (given : Option Outcome) (b : AfterPermit) → is_past_permit file b ≡ false → is_past_in file (after_reap it given b) ≡ false
past_after_reap = grind (arith, past_permit, past_in_if)

past_passing : (file : ℕ) (worker : Option ℕ) (b : AfterPermit) → is_past_permit file b ≡ false → is_past_in file (after_passing worker b) ≡ false
past_passing = grind (arith, past_permit)

-- a durable request that was reaped to its end passes its permit on
passes_reaped : (v : Service) (n : OpResult) (account : Account) (it : Request) (given : Option Outcome) (b : AfterPermit) → is_durable it.operation.kind ≡ true
    → is_resolved (reaped n (outcome_shown account it.operation.kind given) it).phase ≡ true → passes_at (at.Service (after_reap it given b) v) ≡ Some it.operation.target
passes_reaped = grind (arith, false≢true)

pub fired_place : (z : ℕ) (it : Sleeper) (e : Desk) → (told_of_fire z it e).place ≡ e.place
fired_place = grind arith

module _ (c : Configuration) (i : ℕ) (me : Books) (s : Common) (d : Desk) (x : Things) (v : Service) where
  abbrev inside : InService → Place
  inside p = at.Service p v

  abbrev on : InService → Desk
  on p = record d { place = inside p }

  -- from one step of the service to another one
  leads : (p q : InService) (m : Moved Things) → m.desk.place ≡ inside q → m.thing.gates ≡ x.gates → ((j : ℕ) → (word_of x j).latch ≡ true → (word_of m.thing j).latch ≡ true)
      → ((file : ℕ) → is_past_in file p ≡ false → is_past_in file q ≡ false) → m.event ≡ Serve → Plain i (inside p) x m
  leads p q m to gates kept on event = plain i (inside p) x m gates kept (λ file h. rw to (stays_early file v p q (on file) h)) (rw event refl)

  -- what has landed first is judged
  judges : (r : Reaping) (q : ℕ) (later : List ℕ) → HandsBy c i me s d x (on (step.Reap r)) (with_ring i x (reap i v r s (on (step.Reap r)) (record (ring_of s x i) { landed = q ∷ later })))
  judges = grind (arith, some_none, true≢false, stays_early, past_after_reap, past_back, over_one, passes_reaped)

  pub reaps : (r : Reaping) (l : List ℕ) → HandsBy c i me s d x (on (step.Reap r)) (with_ring i x (reap i v r s (on (step.Reap r)) (record (ring_of s x i) { landed = l })))
  reaps r [] = plain_hands c i me s (on (step.Reap r)) x (inside (step.Reap r)) _ refl refl refl (leads (step.Reap r) _ _ refl refl (λ j h. h) (λ file h. past_permit file (permit.Reaped r) h) refl)
  reaps r (q ∷ later) = judges r q later

  -- who stands first at the gate leaves it, and the worker of the next is signalled
  pub passes_on : (file : ℕ) (b : AfterPermit) → HandsBy c i me s d x (on (step.PassPermit file b)) (move_service c i me s (on (step.PassPermit file b)) x (step.PassPermit file b) v)
  passes_on = grind (arith, cases_Bool, eqb-true, get_or-set_other, true≢false, eq-eqb, some_none, stays_early, past_passing, mild_over, get_or-set_same)

  pub raises_one : (ring : Bool) (j : ℕ) (b : AfterPermit) → Plain i (inside (step.Raise ring j b)) x (move_service c i me s (on (step.Raise ring j b)) x (step.Raise ring j b) v)
  raises_one = grind (arith, plain, stays_early, past_permit, mild_if)

  pub enters : (busy : Bool) → Plain i (inside step.EnterLast) x (with_ring i x (enter_last v me (on step.EnterLast) (record (ring_of s x i) { busy = busy })))
  enters = grind (arith, plain, stays_early)

  -- after the service of a turn it goes on to its mailbox
  ended : (file : ℕ) (e : Desk) → is_past file (inside step.EndService) ≡ false → is_past file (after_service v.back e) ≡ false
  ended = grind arith

  pub ends : (o : Option ℕ) → first_to_fire i me s (on step.EndService) ≡ o → Plain i (inside step.EndService) x (aside x (end_service i v me s (on step.EndService)))
  ends = grind (arith, plain, ended, fired_place)

  -- THE MIDDLE
  module _ (gate : ℕ) where
    abbrev pub m_of : Due → Moved Things
    m_of due = move_submit c i me s (on (step.Submit gate)) x gate v due

    abbrev pub HandsFor : Due → Type 0
    HandsFor due = HandsBy c i me s d x (on (step.Submit gate)) (m_of due)

    -- to another step of the service, or to this one, where no gate is next
    pub moves_on : (q : InService) (m : Moved Things) → next_gate i gate s ≡ None → m.desk.place ≡ inside q → m.thing.gates ≡ x.gates → Kept x m.thing → is_mild m.event ≡ true
        → HandsBy c i me s d x (on (step.Submit gate)) m
    moves_on q m none to gates kept mild =
        record {
          gates = λ file within. inl (same_gates c i me s d x m.thing gates file);
          passing = λ file within h. absurd (some_none h refl);
          handing = λ j h within. absurd (some_none h refl);
          latch_out = kept_out i x m.thing m.desk.place kept;
          past = λ file k before after first within own target waits.
              let it = opened file v (step.Submit gate) q before (ap (is_past file) (sym to) ∙ after) in
              absurd (some_gate i gate s file k it.0 within own target waits none);
          over = mild_over c i me s (on (step.Submit gate)) x m mild;
        }

    -- of a request whose deadline has come, or is to be enrolled: at this gate again
    stays_at : (r : ℕ) (e : Event) (f : Desk) (y : Request) → f.place ≡ inside (step.Submit gate) → (common_after c me s i e Open).requests ≡ set s.requests r y
        → (is_durable (request_of s r).operation.kind ≡ true → is_resolved (request_of s r).phase ≡ false → is_resolved y.phase ≡ false) → HandsBy c i me s d x (on (step.Submit gate)) (does e f x)
    stays_at r e f y to changed stays =
        record {
          gates = λ file within. inl refl;
          passing = λ file within h. absurd (some_none h refl);
          handing = λ j h within. absurd (some_none h refl);
          latch_out = λ j h gone. absurd (true≢false (sym h ∙ gone));
          past = λ file k before after. absurd (true≢false (sym after ∙ ap (is_past file) to ∙ before));
          over = λ k going over durable.
              let one = over_one s.requests r k y going (subst (λ (rs : List Request). is_resolved (get_or rs k no_request).phase ≡ true) changed over) in
              absurd (true≢false (sym one.1 ∙ stays (subst (λ (o : ℕ). is_durable (request_of s o).operation.kind ≡ true) one.0 durable) (subst (λ (o : ℕ). is_resolved (request_of s o).phase ≡ false) one.0 going)));
        }

    -- what is due has a timer, and what is durable has none
    pub expires : AreUndated s → (r : ℕ) → first_due c i me s ≡ Some r → HandsFor (Expires r)
    expires undated r some =
        stays_at r _ _ (expired (outcome_at_expiry (request_of s r)) (request_of s r)) refl refl
        (λ durable going. absurd (undue i me.sampled (request_of s r) (undated r (durable_of_file _ durable)).1 (first_is_due c i me s r some)))

    pub enrols : AreUndated s → (r : ℕ) → HandsFor (Enrols r)
    enrols undated r =
        stays_at r _ _ (enrolled (fires_at c me (unwrap_or (request_of s r).operation.deadline 0)) (outcome_at_enrol c me (request_of s r).operation.deadline) (request_of s r)) refl refl
        (λ durable going. rw ((undated r (durable_of_file _ durable)).0) going)

    -- at a gate
    passes_gate : (file f : ℕ) (o : Option Outcome) (e : Desk) → is_past file (inside (step.Submit gate)) ≡ false → is_past file (after_grant v f o e).place ≡ true → (nat_lt file gate ≡ false) × (nat_lt file (suc f) ≡ true)
    passes_gate file f None e before after = opened file v (step.Submit gate) (step.Submit (suc f)) before after
    passes_gate file f (Some outcome) e before after = opened file v (step.Submit gate) (step.PassPermit f (permit.Submit (suc f))) before after

    same_gate : (f file : ℕ) → gate_of (set_gate f x (gate_of x f)) file ≡ gate_of x file
    same_gate f file = put_same (λ (g : List ℕ). g) x.gates f file (gate_of x f) [] refl

    granted_over : (f : ℕ) (o : Option Outcome) (it : Request) (e : Desk) → is_resolved it.phase ≡ false → is_resolved (granted o it).phase ≡ true → passes_at (after_grant v f o e).place ≡ Some f
    granted_over f None it e going over = absurd (false≢true over)
    granted_over f (Some outcome) it e going over = refl

    ungated : (o : Option Outcome) (it : Request) → is_gated (granted o it).phase ≡ false
    ungated None it = refl
    ungated (Some outcome) it = refl

    grants : (f r : ℕ) (o : Option Outcome) (e : Desk) → next_gate i gate s ≡ Some f → granted_at i (gate_of x f) s ≡ Some r → (request_of s r).operation.target ≡ f
        → HandsBy c i me s d x (on (step.Submit gate)) (does (Grant r o) (after_grant v f o e) (set_gate f x (gate_of x f)))
    grants f r o e next some at_gate =
        record {
          gates = λ file within. inl (same_gate f file);
          passing = λ file within h. absurd (some_none h refl);
          handing = λ j h within. absurd (some_none h refl);
          latch_out = λ j h gone. absurd (true≢false (sym h ∙ gone));
          past = λ file k before after first within own target waits.
              let it = passes_gate file f o e before after in
              let same : file ≡ f = this_gate i gate s file k it.0 within own target waits f next it.1 in
              let this : Some r ≡ Some k = sym some ∙ granted_first i k (gate_of x f) s (ap (λ g. slice_get (gate_of x g) 0) (sym same) ∙ first) own waits in
              let k_is : k ≡ r = cc in
              ap (λ (y : Request). is_gated y.phase) (get_or-set_at s.requests r k (granted o (request_of s r)) no_request k_is (rw (← k_is) (gated_there s.requests k waits))) ∙ ungated o (request_of s r);
          over = λ k going over durable.
              let one = over_one s.requests r k (granted o (request_of s r)) going over in
              granted_over f o (request_of s r) e (subst (λ (n : ℕ). is_resolved (request_of s n).phase ≡ false) one.0 going) one.1 ∙ ap Some (sym at_gate ∙ ap (λ n. (request_of s n).operation.target) (sym one.0));
        }

    refuses : (f : ℕ) → next_gate i gate s ≡ Some f → granted_at i (gate_of x f) s ≡ None → HandsBy c i me s d x (on (step.Submit gate)) (does Serve (submits v (suc f) (on (step.Submit gate))) (set_gate f x (gate_of x f)))
    refuses f next none =
        record {
          gates = λ file within. inl (same_gate f file);
          passing = λ file within h. absurd (some_none h refl);
          handing = λ j h within. absurd (some_none h refl);
          latch_out = λ j h gone. absurd (true≢false (sym h ∙ gone));
          past = λ file k before after first within own target waits.
              let it = opened file v (step.Submit gate) (step.Submit (suc f)) before after in
              let same : file ≡ f = this_gate i gate s file k it.0 within own target waits f next it.1 in
              absurd (some_none (granted_first i k (gate_of x f) s (ap (λ g. slice_get (gate_of x g) 0) (sym same) ∙ first) own waits) none);
          over = mild_over c i me s (on (step.Submit gate)) x (does Serve (submits v (suc f) (on (step.Submit gate))) (set_gate f x (gate_of x f))) refl;
        }

    pub tries : AreOfGate s x → (f : ℕ) → next_gate i gate s ≡ Some f
        → (o : Option ℕ) → granted_at i (gate_of x f) s ≡ o → HandsFor (AtGate f)
    tries targets f next None none = rw none (refuses f next none)
    tries targets f next (Some r) some = rw some (grants f r _ _ next some (targets f r (granted_is_first i r (gate_of x f) s some)))
