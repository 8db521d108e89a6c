-- What is sent elsewhere, and what tasks hold, once a request is over within a service.
use Rattle.exec_invariants.{specs.{Due.AreTimed, Holding.{IsAnswerOf, thing_of}, Places.one_if, Rooted.{IsKept, IsNear, IsReplyFor, IsResult, IsRooted, Pays, StandsAt, Watches, goes_elsewhere, is_of_request, is_of_timer, outcome_told, results_of}, Names.{IsAlike, IsNamed}}, proofs.{Words.{◌≡◌, ◌≢◌, ℕ, zero, suc, ◌+◌, ◌≤◌, ◌&&◌, ◌||◌, not, cond, Bool, true, false, Contains, List, [], ◌∷◌, ◌++◌, count_by, length, Option, Some, None, IsSome, Result, Ok, Err, refl, sym, ap, subst, ◌∙◌, arith, inl, inr, slice_get, false≢true, eq-eqb, append-nil, Contains-append_cases, Slab, value_at, Error, Id, Account, Outcome, ForwardedResult, Sleeping, output_of, Ended, RequestOutput, told_by_finish, waker_in, is_held_by, waiter_at, waiter_of, Tells, Told, tasks_told as tasks_of, Answer, Deferred, Observer, DetachedSync, Forwarded, Local, Orphaned, Entry, Ready, Waiter, entry_of, Driving, Forwarding, RequestPhase, Resolved, is_applied, is_resolved, Reply, Names, Record, SleeperRecord, number_in, outcome_in, changed_at, by_name, by_number, not_same, same_Some}, Marking.{mark_if, marked}, Over.{OneEnds, apart_number, gone_here, is_over, other_record, unresolved_before}, Resolving.{EntryAfter, ToldOnce}, Lined.{tallied, tally}}}

-- WHAT IS TOLD of its end, by who waits for it

abbrev pub answers_by : Id → RequestOutput → Observer Reply Reply → List (Answer Reply)
answers_by id told (Forwarded reply) = record { id = record { 0 = id }; sender = reply; result = Ok told } ∷ []
answers_by id told _ = []

-- one output is let go, where nobody waits for it
abbrev pub let_go_by : Observer Reply Reply → ℕ
let_go_by Orphaned = 1
let_go_by _ = 0

pub record TellsEnd (id : Id) (told : RequestOutput) (o : Observer Reply Reply) (t : Told Reply Reply) : Type 0 where
  pub once : ToldOnce t
  pub wakes : t.wakes ≡ tasks_of (waker_in o)
  pub results : t.results ≡ answers_by id told o
  pub completions : t.completions ≡ []
  pub outputs : length t.outputs ≡ let_go_by o

-- so does each end
pub ends_told : (id : Id) (it : Waiter Reply Reply) (how : Ended) (account : Option Account) (f : Forwarding) → IsNear it.observer f → TellsEnd id (output_of it.request how account) it.observer (told_by_finish id it how account)
ends_told = grind arith

-- LISTS

tally_both : {X : Type 0} (p : X → Bool) (xs ys : List X) → tally p (xs ++ ys) ≡ tally p xs + tally p ys
unfolding tally
tally_both p [] ys = let none : tally p [] ≡ 0 = refl in omega (arith, none)
tally_both p (x ∷ xs) ys = grind (arith, tally, tally_both p xs ys)

pub count_both : {X : Type 0} (p : X → Bool) (xs ys : List X) → count_by p (xs ++ ys) ≡ count_by p xs + count_by p ys
count_both p xs ys = sym (tallied p (xs ++ ys)) ∙ tally_both p xs ys ∙ ap (λ n. n + tally p ys) (tallied p xs) ∙ ap (λ n. count_by p xs + n) (tallied p ys)

pub count_none : {X : Type 0} (p : X → Bool) → count_by p [] ≡ 0
unfolding tally
count_none p = sym (tallied p [])

pub count_one : {X : Type 0} (p : X → Bool) (x : X) (b : Bool) → p x ≡ b → count_by p (x ∷ []) ≡ cond b 1 0
unfolding tally
count_one = grind arith

pub only_one : {X : Type 0} (x y : X) → Contains (x ∷ []) y → x ≡ y
only_one x y (zero, within, is) = is
only_one x y (suc n, within, is) = absurd (omega (arith, within))

pub none_in : {X : Type 0} (y : X) → Contains [] y → ⊥
none_in y (n, within, is) = omega (arith, within)

module _ (i : ℕ) (n n' : Names) (d d' : Driving Reply Reply) (zs : Slab (Sleeping Reply)) (left left' : Deferred Reply Reply) (rs : List Record) (ss : List SleeperRecord) (id : Id) (it : Waiter Reply Reply) (r : Record) (f : Record → Record) (outcome : Outcome) (told : RequestOutput) (t : Told Reply Reply)
    (one : OneEnds n d d'.requests rs id it r f outcome told) (named : IsNamed i n d zs rs ss) (timed : AreTimed i n rs) (tells : TellsEnd id told it.observer t) (adds : Tells left left' t) (fits : is_held_by it.observer ≡ true → outcome ≡ outcome_told told) (mine : r.shown.worker ≡ i)
    (requests : n'.requests ≡ n.requests) (timers : n'.timers ≡ n.timers) (rooted : IsRooted i n d zs left rs ss) where
  abbrev pub k : ℕ
  k = number_in n.requests.items id

  abbrev pub rs_then : List Record
  rs_then = changed_at rs k f

  alike : IsAlike d.wheel.start d.wheel.tick it r.shown
  alike = named.alike id it r one.at one.there

  unresolved : is_resolved r.shown.phase ≡ false
  unresolved = unresolved_before i n d d' zs rs ss id it r f outcome told one named timed

  -- it, and another
  pub now_there : slice_get rs_then k ≡ Some (f r)
  now_there = marked f rs k k r one.there ∙ ap (λ b. Some (mark_if f b r)) (eq-eqb k k refl)

  pub by_record : {P : Type 0} (j : ℕ) (x : Record) → slice_get rs_then j ≡ Some x → (k ≡ j → slice_get rs j ≡ Some r → f r ≡ x → P) → ((k ≡ j → ⊥) → slice_get rs j ≡ Some x → P) → P
  by_record j x there same other =
      by_number j k
      (λ apart. other (λ is. apart (sym is)) (other_record i n d d' zs rs ss id it r f outcome told one named timed j x (λ is. apart (sym is)) there))
      (λ is. same (sym is) (ap (slice_get rs) is ∙ one.there) (same_Some (f r) x (sym now_there ∙ ap (slice_get rs_then) (sym is) ∙ there)))

  held_is : is_held_by it.observer ≡ r.shown.observed
  held_is = sym alike.observed

  -- WHAT IS SENT

  results_then : left'.results.items ≡ left.results.items ++ answers_by id told it.observer
  results_then = adds.results_added ∙ ap (λ xs. left.results.items ++ xs) tells.results

  completions_then : left'.notes.completions.items ≡ left.notes.completions.items
  completions_then = adds.notes.completions_added ∙ ap (λ xs. left.notes.completions.items ++ xs) tells.completions ∙ append-nil left.notes.completions.items

  outcome_open : (p : RequestPhase) → is_resolved p ≡ false → outcome_in p ≡ None
  outcome_open (Resolved x) h = absurd (false≢true (sym h))
  outcome_open _ h = refl

  goes_now : (a o : Bool) → is_applied r.shown.forwarding ≡ a → r.shown.observed ≡ o → goes_elsewhere r ≡ (a && (false || not o))
  goes_now a o ha ho =
      ap (λ b. b && (is_resolved r.shown.phase || not r.shown.observed)) ha ∙ ap (λ b. a && (b || not r.shown.observed)) unresolved ∙ ap (λ b. a && (false || not b)) ho

  -- so many of its ends are new
  sent_here : (o : Observer Reply Reply) → it.observer ≡ o → count_by (λ (a : Answer Reply). is_of_request k a.sender.of) (answers_by id told o) + one_if (goes_elsewhere r) ≡ one_if (is_applied r.shown.forwarding)
  sent_here = grind (arith, alike, goes_now, count_none, held_is, count_one, eq-eqb)

  -- another has as many
  sent_other : (j : ℕ) (o : Observer Reply Reply) → it.observer ≡ o → (k ≡ j → ⊥) → count_by (λ (a : Answer Reply). is_of_request j a.sender.of) (answers_by id told o) ≡ 0
  sent_other = grind arith

  results_at : (j : ℕ) → results_of j left' ≡ results_of j left + count_by (λ (a : Answer Reply). is_of_request j a.sender.of) (answers_by id told it.observer)
  results_at j = ap (count_by (λ (a : Answer Reply). is_of_request j a.sender.of)) results_then ∙ count_both (λ (a : Answer Reply). is_of_request j a.sender.of) left.results.items (answers_by id told it.observer)

  sent_then : (j : ℕ) (x : Record) → slice_get rs_then j ≡ Some x → x.shown.worker ≡ i → results_of j left' + one_if x.sent ≡ one_if (goes_elsewhere x)
  sent_then j x there of_i =
      by_record j x there
      (λ is at same.
      let was = rooted.sent j r at mine in
      let now = results_at k in
      let all : results_of k left' + one_if r.sent ≡ one_if (is_applied r.shown.forwarding) =
      omega (arith, now, ap (λ m. results_of m left + one_if r.sent) is ∙ was, sent_here it.observer refl) in
      ap (λ (y : Record). results_of j left' + one_if y.sent) (sym same) ∙ ap (λ (y : Record). results_of j left' + one_if y.sent) one.ends.same
      ∙ ap (λ m. results_of m left' + one_if r.sent) (sym is) ∙ all ∙ ap one_if (sym (grind arith)) ∙ ap (λ (y : Record). one_if (goes_elsewhere y)) same)
      (λ apart at.
      omega (arith, results_at j, sent_other j it.observer refl apart, rooted.sent j x at of_i))

  -- each answer is of a request of the worker
  answer_old : (a : Answer Reply) → IsResult i a rs → IsResult i a rs_then
  answer_old a it_is =
      by_number it_is.k k
      (λ apart. record {
        k = it_is.k;
        r = it_is.r;
        there = marked f rs k it_is.k it_is.r it_is.there ∙ ap (λ b. Some (mark_if f b it_is.r)) (not_same k it_is.k (λ is. apart (sym is)));
        worker = it_is.worker;
        reply = it_is.reply;
        answer = it_is.answer;
        paid = it_is.paid;
      })
      (λ same.
      let is : it_is.r ≡ r = same_Some it_is.r r (sym it_is.there ∙ ap (slice_get rs) same ∙ one.there) in
      record {
        k = it_is.k;
        r = f r;
        there = ap (slice_get rs_then) same ∙ now_there;
        worker = ap (λ (y : Record). y.shown.worker) one.ends.same ∙ mine;
        reply = record { of = it_is.reply.of; task = ap (λ (y : Record). y.shown.waiter) one.ends.same ∙ ap (λ (y : Record). y.shown.waiter) (sym is) ∙ it_is.reply.task };
        answer = still_answers a.result (subst (λ (y : Record). IsAnswerOf a.result (thing_of y)) is it_is.answer);
        paid = subst (λ m. m ≤ 1) (sym (ap (λ (y : Record). y.shown.wakes_paid) one.ends.same ∙ ap (λ (y : Record). y.shown.wakes_paid) (sym is))) it_is.paid;
      })
    where
      still_answers : (x : Result RequestOutput Error) → IsAnswerOf x (thing_of r) → IsAnswerOf x (thing_of (f r))
      still_answers (Ok out) h = absurd (let no : None ≡ Some (outcome_told out) = sym (outcome_open r.shown.phase unresolved) ∙ h in cc)
      still_answers (Err error) h = ap (λ (y : Record). y.shown.observed) one.ends.same ∙ h

  answer_new : (o : Observer Reply Reply) → it.observer ≡ o → (a : Answer Reply) → Contains (answers_by id told o) a → IsResult i a rs_then
  answer_new (Local waker) is a among = absurd (none_in a among)
  answer_new (DetachedSync reply) is a among = absurd (none_in a among)
  answer_new Orphaned is a among = absurd (none_in a among)
  answer_new (Forwarded reply) is a among =
      let made : Answer Reply = record { id = record { 0 = id }; sender = reply; result = Ok told } in
      let for = rooted.replies id it reply r one.at is one.there in
      let held : is_held_by it.observer ≡ true = ap is_held_by is in
      let unpaid = (rooted.pays k r one.there mine).unpaid unresolved (sym held_is ∙ held) in
      subst (λ (x : Answer Reply). IsResult i x rs_then) (only_one made a among) (record {
        k = k;
        r = f r;
        there = now_there;
        worker = ap (λ (y : Record). y.shown.worker) one.ends.same ∙ mine;
        reply = record { of = for.of; task = ap (λ (y : Record). y.shown.waiter) one.ends.same ∙ for.task };
        answer = ap (λ (y : Record). outcome_in y.shown.phase) one.ends.same ∙ ap (λ x. Some x) (fits held);
        paid = subst (λ m. m ≤ 1) (sym (ap (λ (y : Record). y.shown.wakes_paid) one.ends.same ∙ unpaid)) (omega arith);
      })

  -- WHAT IS KEPT

  ready_here : (o : Observer Reply Reply) (e : Option (Entry Reply Reply)) (out : RequestOutput) → it.observer ≡ o → EntryAfter o told e → e ≡ Some (Ready out) → IsKept out (f r)
  ready_here = grind (arith, held_is, alike)

  -- who holds it finds its output
  held_after : (o : Observer Reply Reply) (e : Option (Entry Reply Reply)) → it.observer ≡ o → r.shown.observed ≡ true → is_applied r.shown.forwarding ≡ false → EntryAfter o told e → IsSome e
  held_after = grind (arith, false≢true, alike, held_is)

  ready_then : (j : ℕ) (x : Record) → slice_get rs_then j ≡ Some x → x.shown.worker ≡ i → is_resolved x.shown.phase ≡ true → x.shown.observed ≡ true → is_applied x.shown.forwarding ≡ false → StandsAt j n' d' x
  ready_then j x there of_i over seen unapplied =
      by_record j x there
      (λ is at same.
      grind (arith, held_after))
      (λ apart at.
      grind arith)

  some_there : (other : Id) (e : Entry Reply Reply) → value_at d.requests other ≡ Some e → IsSome (value_at d.requests other)
  some_there other e at = rw at refl

  elsewhere_there : (other : Id) (x : Record) → IsSome (value_at d.requests other) → other ≢ id → slice_get rs_then (number_in n'.requests.items other) ≡ Some x → slice_get rs (number_in n.requests.items other) ≡ Some x
  elsewhere_there other x some apart there =
      other_record i n d d' zs rs ss id it r f outcome told one named timed (number_in n.requests.items other) x (apart_number i n d d' zs rs ss id it r f outcome told one named timed other some apart)
      (ap (λ v. slice_get rs_then (number_in v.items other)) (sym requests) ∙ there)

  pub rooted_ended : IsRooted i n' d' zs left' rs_then ss
  rooted_ended =
      record {
        kept = λ other out x at there.
            by_name other id
            (λ apart.
            let was : value_at d.requests other ≡ Some (Ready out) = sym (one.slab.others other apart) ∙ at in
            rooted.kept other out x was (elsewhere_there other x (some_there other (Ready out) was) apart there))
            (λ same.
            let here : slice_get rs_then k ≡ Some x = ap (λ y. slice_get rs_then (number_in n.requests.items y)) (sym same) ∙ ap (λ v. slice_get rs_then (number_in v.items other)) (sym requests) ∙ there in
            let is : f r ≡ x = same_Some (f r) x (sym now_there ∙ here) in
            subst (IsKept out) is (ready_here it.observer (value_at d'.requests id) out refl one.slab.here (ap (value_at d'.requests) (sym same) ∙ at)));
        ready = ready_then;
        replies = λ other x reply y at forwarded there.
            let apart : other ≢ id = λ same. let no : Some x ≡ None = sym at ∙ ap (waiter_at d'.requests) same ∙ gone_here i n d d' zs rs ss id it r f outcome told one named timed in absurd (cc) in
            let was : waiter_at d.requests other ≡ Some x = sym (ap waiter_of (one.slab.others other apart)) ∙ at in
            let there_was = elsewhere_there other y (rw (entry_of (value_at d.requests other) x was) refl) apart there in
            subst (λ v. IsReplyFor (number_in v.items other) reply y) (sym requests) (rooted.replies other x reply y was forwarded there_was);
        watches = λ other x z at there. subst (λ v. Watches (number_in v.items other) x.observer z) (sym timers) (rooted.watches other x z at (ap (λ v. slice_get ss (number_in v.items other)) (sym timers) ∙ there));
        pays = λ j x there of_i.
            by_record j x there
            (λ is at same.
            let was = rooted.pays j r at mine in
            subst Pays same (record {
              unpaid = λ going seen. absurd (false≢true (sym going ∙ is_over i n d d' zs rs ss id it r f outcome told one named timed));
              once = λ unapplied. subst (λ m. m ≤ 1) (sym (ap (λ (y : Record). y.shown.wakes_paid) one.ends.same)) (was.once (sym (ap (λ (y : Record). is_applied y.shown.forwarding) one.ends.same) ∙ unapplied));
            }))
            (λ apart at. rooted.pays j x at of_i);
        sleeper_pays = rooted.sleeper_pays;
        results = λ a among.
            elim (Contains-append_cases left.results.items (answers_by id told it.observer) a (subst (λ xs. Contains xs a) results_then among)) [
              | inl old ↦ answer_old a (rooted.results a old)
              | inr new ↦ answer_new it.observer refl a new
            ];
        completions = λ c among. rooted.completions c (subst (λ xs. Contains xs c) completions_then among);
        sent = sent_then;
        sleeper_sent = λ j z there of_i. ap (λ xs. count_by (λ (c : ForwardedResult Reply). is_of_timer j c.sender.of) xs + one_if z.sent) completions_then ∙ rooted.sleeper_sent j z there of_i;
      }
