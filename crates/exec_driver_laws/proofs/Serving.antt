-- A whole service is calls of its worker, and a whole wait, and so drivers that share gates go on sharing them.
use Rattle.std.proofs.Common.{◌≡◌, ◌≢◌, inl, inr, eqb, ℕ, Bool, true, false, cond, List, Option, Some, None, refl, sym, subst, ◌∙◌, arith}
use Rattle.exec_driver.specs.Service.{Cancel, Request}
use Rattle.exec_driver_laws.{proofs.{Words.{is_full, is_gated, is_queued, is_unenrolled, Says, ReapsNext, Grants, advanced_to, cancel_staged, poll_staged, entered, with_landings, must_enter, Reaped, entered_if, Repeats, NoStep, OneMore, Passes, permit_of, permit_by, Reached, ReapsOne, ExpiresOne, EnrolsOne, GrantsAt, Turn, NoTurn, StagesEntry, WakePoll, Enter, GrantsBelow, NoGate, NextGate, StagesAll, Staged, Busy, Parks, Refused, Waited, ServesInOrder, eqb_tells, Deferred, Waiter, WaiterId, Driving, request_at, OpenState, deadline_of, account_in, file_of, WaiterKey}, OwningRing.{cancel_within, poll_within, enter_within, cancel_keeps, poll_keeps, enter_keeps, advance_keeps, advance_places, keeps_same}, Passing.first_among, Sharing.line_up_kept}, specs.{Sharing.{Gates, LineUp, Call, Expire, Enrol, Grant, Stage, Reap, Leave, Other, key_of, with_leaving, leaving_by, passed_on}, Serving.{Calls, NoCall, NextCall, IsCalls}, Lawful.EndsLawfully, Owning.KeepsOperations, Waiting.KeepsPlaces}}

left_by : (permit : Option ℕ) (key : WaiterKey) (leaving : ℕ → Option WaiterKey) (file : ℕ) → permit ≡ Some file → with_leaving permit key leaving file ≡ Some key
left_by = grind arith

-- what each step keeps is kept by all
along : {A : Type 0} {Step : A → A → Type 0} {first last : A} (Q : A → Type 0) → ((a b : A) → Step a b → Q a → Q b) → Repeats Step first last → Q first → Q last
along Q keeps NoStep start = start
along Q keeps (OneMore a b before step) start = keeps a b step (along Q keeps before start)

module _ {S F : Type 0} where
  gated_is : (o : Option (Waiter S F)) → is_gated o ≡ true → (w : Waiter S F) × (o ≡ Some w)
  gated_is = grind arith

  queued_is : (o : Option (Waiter S F)) → is_queued o ≡ true → (w : Waiter S F) × (o ≡ Some w)
  queued_is = grind arith

  timed_is : (o : Option (Waiter S F)) → is_unenrolled o ≡ true → (w : Waiter S F) × (o ≡ Some w) × (deadline : ℕ) × (deadline_of w.request ≡ Some deadline)
  timed_is = grind arith

  -- such calls lead to a driver that says what each says
  abbrev Leads : (worker : ℕ) (old d : Driving S F) (g : Gates) (opens : List OpenState) → Type 0
  Leads worker old d g opens = Says d × IsCalls worker old d g opens

  plain : (worker : ℕ) (old d d' : Driving S F) (g : Gates) (opens : List OpenState) → ((h : Gates) → Call worker d d' h h) → Says d' → Leads worker old d g opens → Leads worker old d' g opens
  plain worker old d d' g opens call says before = (says, record { gates = before.1.gates; opens_after = before.1.opens_after; calls = NextCall d d' before.1.gates before.1.gates before.1.calls (call before.1.gates) says })

  -- the requests stay, and the operations and the lists as for any other call
  abbrev Same : Driving S F → Driving S F → Type 0
  Same d d' = (d'.requests ≡ d.requests) × KeepsOperations d.ring d'.ring × EndsLawfully d.ring d'.ring × KeepsPlaces d.lists d'.lists

  entered_same : (enters : Bool) (d : Driving S F) → Says d → Same d (entered_if enters d)
  entered_same true d says = (refl, enter_keeps d says.lands, enter_within d says.lands, record { queued = refl; gated = refl; enrolments = refl })
  entered_same false d says = (refl, keeps_same d.ring d.ring refl, λ user_data most is was. was, record { queued = refl; gated = refl; enrolments = refl })

  polled_same : (armed : Bool) (d : Driving S F) → Same d (cond armed d (poll_staged d))
  polled_same true d = (refl, keeps_same d.ring d.ring refl, λ user_data most is was. was, record { queued = refl; gated = refl; enrolments = refl })
  polled_same false d = (refl, poll_keeps d, poll_within d, record { queued = refl; gated = refl; enrolments = refl })

  -- one such call more
  other_one : (worker : ℕ) (old a d b : Driving S F) (g : Gates) (opens : List OpenState) → Same a d → b ≡ with_landings b d → Says b → Leads worker old a g opens → Leads worker old b g opens
  other_one worker old a d b g opens same is =
      plain worker old a b g opens (λ h. Other (grind arith) (subst (λ (m : Driving S F). KeepsOperations a.ring m.ring) (sym is) same.1) (subst (λ (m : Driving S F). EndsLawfully a.ring m.ring) (sym is) same.2) (subst (λ (m : Driving S F). KeepsPlaces a.lists m.lists) (sym is) same.3) refl)

  -- the holder of the gate that is named leaves it
  passes_on : (worker : ℕ) (old d : Driving S F) (g h : Gates) (permit : Option ℕ) (id : WaiterId) (opens : List OpenState) (before after : Option (List ℕ)) → ((file : ℕ) → permit ≡ Some file → h.leaving file ≡ Some (key_of worker id))
      → Passes permit h.opens opens before after → Says d → Calls worker old g d h → IsCalls worker old d g opens
  passes_on worker old d g h None id opens before after leaves passes says calls = record { gates = h; opens_after = sym passes.0; calls = calls }
  passes_on worker old d g h (Some file) id opens before after leaves passes says calls =
      record { gates = passed_on h file; opens_after = sym passes.0; calls = NextCall d d h (passed_on h file) calls (Leave id file (leaves file refl) refl refl) says }

  reaps_one : (worker : ℕ) (old : Driving S F) (g : Gates) (a b : Reached S F) → ReapsOne a b → Leads worker old a.driver g a.opens → Leads worker old b.driver g b.opens
  reaps_one worker old g a b step leads = (step.says, by step.answer step.reaps step.passes)
    where
      before : IsCalls worker old a.driver g a.opens
      before = leads.1

      after : Option Reaped → Gates
      after told = record { opens = step.opens; leaving = leaving_by worker told before.gates.leaving }

      taken : (told : Option Reaped) → ReapsNext a.driver b.driver a.opens step.opens a.told b.told told → Calls worker old g b.driver (after told)
      taken told reaps =
          NextCall a.driver b.driver before.gates (after told) before.calls (Reap a.told b.told told (subst (λ (o : List OpenState). ReapsNext a.driver b.driver o step.opens a.told b.told told) (sym before.opens_after) reaps) refl) step.says

      by : (told : Option Reaped) → ReapsNext a.driver b.driver a.opens step.opens a.told b.told told → Passes (permit_of told) step.opens b.opens a.signalled b.signalled → IsCalls worker old b.driver g b.opens
      by None reaps passes = record { gates = after None; opens_after = sym passes.0; calls = taken None reaps }
      by (Some r) reaps passes =
          passes_on worker old b.driver g (after (Some r)) r.permit r.id b.opens a.signalled b.signalled (left_by r.permit (key_of worker r.id) before.gates.leaving) passes step.says (taken (Some r) reaps)

  grants_one : (worker file : ℕ) (old : Driving S F) (g : Gates) (a b : Reached S F) → GrantsAt worker file a b → Leads worker old a.driver g a.opens → Leads worker old b.driver g b.opens
  grants_one worker file old g a b (NoTurn none same) leads = subst (λ (r : Reached S F). Leads worker old r.driver g r.opens) (sym same) leads
  grants_one worker file old g a b (Turn opens granted says grants passes) leads =
      let before = leads.1 in
      let there = gated_is (request_at a.driver granted.id) (leads.0.lists.gated granted.id grants.waits) in
      let after : Gates = record { opens = opens; leaving = with_leaving (permit_by file granted) (key_of worker granted.id) before.gates.leaving } in
      let own = subst (λ (o : List OpenState). Grants a.driver b.driver o opens a.told b.told worker file granted) (sym before.opens_after) grants in
      let calls = NextCall a.driver b.driver before.gates after before.calls (Grant a.told b.told file granted there.0 there.1 own refl) says in
      (says, passes_on worker old b.driver g after (permit_by file granted) granted.id b.opens a.signalled b.signalled (left_by (permit_by file granted) (key_of worker granted.id) before.gates.leaving) passes says calls)

  expires_one : (worker : ℕ) (old : Driving S F) (g : Gates) (opens : List OpenState) (a b : Driving S F × Deferred S F) → ExpiresOne a b → Leads worker old a.0 g opens → Leads worker old b.0 g opens
  expires_one worker old g opens a b step = plain worker old a.0 b.0 g opens (λ h. Expire step.id step.first step.driver refl) step.says

  enrols_one : (worker now : ℕ) (old : Driving S F) (g : Gates) (opens : List OpenState) (a b : Driving S F × Deferred S F) → EnrolsOne now a b → Leads worker old a.0 g opens → Leads worker old b.0 g opens
  enrols_one worker now old g opens a b step leads =
      let id = step.answer.id in
      let there = timed_is (request_at a.0 id) (leads.0.lists.enrolments id (first_among id a.0.lists.enrolments step.first)) in
      plain worker old a.0 b.0 g opens (λ h. Enrol a.1 b.1 id there.0 there.2 now step.answer.ended step.first there.1 there.3 (step.enrols there.0 there.2 there.1 there.3) refl) step.says leads

  stages_one : (worker : ℕ) (old : Driving S F) (g : Gates) (opens : List OpenState) (a b : Driving S F) → StagesEntry opens a b → Says b → Leads worker old a g opens → Leads worker old b g opens
  stages_one worker old g opens a b (Request id room none may first stages) says leads =
      let there = queued_is (request_at a id) (leads.0.lists.queued id (first_among id a.lists.queued first)) in
      plain worker old a b g opens (λ h. Stage id there.0 (account_in opens (file_of there.0.request)) first there.1 (stages there.0 there.1) refl) says leads
  stages_one worker old g opens a b (Cancel id room first is) says leads = other_one worker old a (cancel_staged a id) b g opens (refl, cancel_keeps a id, cancel_within a id, record { queued = refl; gated = refl; enrolments = refl }) is says leads
  stages_one worker old g opens a b (WakePoll room none may unarmed is) says leads = other_one worker old a (poll_staged a) b g opens (polled_same false a) is says leads
  stages_one worker old g opens a b (Enter full unstaged calm is) says leads = other_one worker old a (entered a) b g opens (entered_same true a leads.0) is says leads

  -- ALL STEPS

  staged_all : (worker : ℕ) (old : Driving S F) (g : Gates) (opens : List OpenState) (a b : Driving S F) → StagesAll opens a b → Leads worker old a g opens → Leads worker old b g opens
  staged_all worker old g opens a b (Staged steps done) before = along (λ d. Leads worker old d g opens) (λ d d' step. stages_one worker old g opens d d' step.0 step.1) steps before
  staged_all worker old g opens a b (Busy full says steps is unstaged busy enters) before =
      let way = along (λ d. Leads worker old d g opens) (λ d d' step. stages_one worker old g opens d d' step.0 step.1) steps before in
      other_one worker old full (entered full) b g opens (entered_same true full way.0) enters says way

  grants_all : (worker : ℕ) (old : Driving S F) (g : Gates) (first : Reached S F) (end : ℕ) (last : Reached S F) → GrantsBelow worker first end last → Leads worker old first.driver g first.opens → Leads worker old last.driver g last.opens
  grants_all worker old g first end last NoGate before = before
  grants_all worker old g first end last (NextGate from file a b steps lowest grants) before = grants_one worker file old g a b grants (grants_all worker old g first from a steps before)

  pub park_calls : (worker : ℕ) (calm : Bool) (old new : Driving S F) (g : Gates) → Parks calm old new → IsCalls worker old new g g.opens
  park_calls worker calm old new g (Refused says may way last) =
      (other_one worker old old (entered_if (is_full old) old) new g g.opens (entered_same (is_full old) old says) way last (says, record { gates = g; opens_after = refl; calls = NoCall })).1
  park_calls worker calm old new g (Waited d e says may way says_way polls polled enters last) =
      let start : Leads worker old old g g.opens = (says, record { gates = g; opens_after = refl; calls = NoCall }) in
      let ready = other_one worker old old (entered_if (is_full old) old) d g g.opens (entered_same (is_full old) old says) way says_way start in
      let out = other_one worker old d (cond d.armed d (poll_staged d)) e g g.opens (polled_same d.armed d) polls polled ready in
      (other_one worker old e (entered_if calm e) new g g.opens (entered_same calm e polled) enters last out).1

  pub service_calls : (worker now : ℕ) (defer answer : Bool) (old new : Reached S F) (g : Gates) → ServesInOrder worker now defer answer old new → g.opens ≡ old.opens → IsCalls worker old.driver new.driver g new.opens
  service_calls worker now defer answer old new g s opens =
      let start : Leads worker old.driver old.driver g old.opens = (s.says, record { gates = g; opens_after = opens; calls = NoCall }) in
      let reaped = along (λ r. Leads worker old.driver r.driver g r.opens) (reaps_one worker old.driver g) s.reaps start in
      let moved = advanced_to s.reaped.driver now in
      let turned = other_one worker old.driver s.reaped.driver moved moved g s.reaped.opens (refl, advance_keeps s.reaped.driver now, λ user_data most is was. was, advance_places s.reaped.driver now) refl s.says_turned reaped in
      let told = along (λ x. Leads worker old.driver x.0 g s.reaped.opens) (expires_one worker old.driver g s.reaped.opens) s.expires turned in
      let enrolled = along (λ x. Leads worker old.driver x.0 g s.reaped.opens) (enrols_one worker now old.driver g s.reaped.opens) s.enrols told in
      let granted = grants_all worker old.driver g _ s.grants.end s.granted s.grants.below enrolled in
      let staged = staged_all worker old.driver g s.granted.opens s.granted.driver s.staged s.stages granted in
      let enters = must_enter s.staged defer s.granted.told in
      let worked = other_one worker old.driver s.staged (entered_if enters s.staged) s.worked g s.granted.opens (entered_same enters s.staged staged.0) s.works s.says_worked staged in
      (along (λ r. Leads worker old.driver r.driver g r.opens) (reaps_one worker old.driver g) s.reaps_again worked).1

  same_drivers : (worker : ℕ) (drivers drivers' : ℕ → Driving S F) → drivers worker ≡ drivers' worker → ((other : ℕ) → other ≢ worker → drivers' other ≡ drivers other) → (n : ℕ) → drivers n ≡ drivers' n
  same_drivers worker drivers drivers' same alike n =
      elim (eqb_tells n worker) [
        | inl mine ↦ subst (λ (k : ℕ). drivers k ≡ drivers' k) (sym mine.1) same
        | inr apart ↦ sym (alike n apart.1)
      ]

  calls_keep : (worker : ℕ) (old : Driving S F) (g : Gates) (new : Driving S F) (h : Gates) → Calls worker old g new h → (drivers drivers' : ℕ → Driving S F) → drivers worker ≡ old → drivers' worker ≡ new
      → ((other : ℕ) → other ≢ worker → drivers' other ≡ drivers other) → LineUp drivers g → LineUp drivers' h
  calls_keep worker old g new h NoCall drivers drivers' was is alike up = subst (λ (ds : ℕ → Driving S F). LineUp ds g) (λ i n. same_drivers worker drivers drivers' (was ∙ sym is) alike n i) up
  calls_keep worker old g new h (NextCall d d' f f' before call says) drivers drivers' was is alike up =
      let mid : ℕ → Driving S F = λ n. cond (eqb n worker) d (drivers n) in
      let here : mid worker ≡ d = grind arith in
      let apart : (other : ℕ) → other ≢ worker → mid other ≡ drivers other = grind (arith, eqb_tells) in
      line_up_kept mid drivers' f f' (record {
        worker = worker;
        call = subst (λ (m : Driving S F). Call worker m (drivers' worker) f f') (sym here) (subst (λ (m : Driving S F). Call worker d m f f') (sym is) call);
        says = subst Says (sym is) says;
        others = λ other differs. alike other differs ∙ sym (apart other differs);
      }) (calls_keep worker old g d f before drivers mid was here apart up)

  pub service_shares : (worker : ℕ) (drivers drivers' : ℕ → Driving S F) (g h : Gates) → Calls worker (drivers worker) g (drivers' worker) h → ((other : ℕ) → other ≢ worker → drivers' other ≡ drivers other) → LineUp drivers g
      → LineUp drivers' h
  service_shares worker drivers drivers' g h calls = calls_keep worker _ g _ h calls drivers drivers' refl refl
