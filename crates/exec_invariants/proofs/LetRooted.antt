-- WHO HOLDS OR AWAITS ONE REQUEST CHANGES: what its worker keeps for others then, and all else that holds again of the worker's own.
use Rattle.exec_invariants.{proofs.{Names.{◌≡◌, ◌≢◌, ◌⊎◌, ⊎_elim, ℕ, ◌+◌, ◌≤◌, true, false, Contains, List, [], count_by, length, Some, None, IsSome, Result, Ok, Err, refl, sym, ap, subst, ◌∙◌, arith, slice_get, length-append, false≢true, append-nil, Slab, value_at, Error, Id, ForwardedResult, Sleeping, RequestOutput, pending_count, waiter_at, waiter_of, Told, Tells, Answer, Deferred, Forwarded, Ready, Waiter, entry_of, Driving, IsPunctual, is_applied, is_resolved, Heard, Reply, Names, Record, Shared, SleeperRecord, Worker, number_in, outcome_in, IsTold, by_name, by_number, false_from_ne_true, same_Some}, ServingHolds.KeepsWith, Watching.{Watched, apart_number, carried_watched, due_watched, flown_watched, known_watched, named_watched, now_there, other_still, other_there, over_watched}}, specs.{Due.{IsDue, IsWheelAt}, Holding.{IsAnswerOf, thing_of}, Places.one_if, Rooted.{IsResult, IsRooted, Pays, goes_elsewhere, is_of_timer, results_of}, Sound.{AreOver, served_in}, Names.{HasWidth, IsNamed, tellers}, HoldPlaces.has_wakes_at}}

-- WHAT IS TOLD: of each list one at most, and nothing that a request owned
pub record TellsOne (t : Told Reply Reply) : Type 0 where
  pub wakes : length t.wakes ≤ 1
  pub outputs : length t.outputs ≤ 1
  pub resources : t.resources ≡ []
  pub completions : length t.completions ≤ 1
  pub results : length t.results ≤ 1

pub told_one : (ended : List ℕ) (n : ℕ) (left left' : Deferred Reply Reply) (t : Told Reply Reply) → Tells left left' t → TellsOne t → IsTold ended left (n + 1) → IsTold ended left' n
told_one = grind (arith, length-append, append-nil)

-- WHAT IS KEPT FOR OTHERS
module _ (i : ℕ) (n : Names) (d d' : Driving Reply Reply) (zs : Slab (Sleeping Reply)) (left left' : Deferred Reply Reply) (rs rs' : List Record) (ss : List SleeperRecord) (id : Id) (r : Record) (f : Record → Record)
    (by : Watched n d d' rs rs' id r f) (named : IsNamed i n d zs rs ss) where
  abbrev k : ℕ
  k = number_in n.requests.items id

  -- no output is kept of it then, nobody elsewhere waits at its driver, and who holds or awaits it did so, or is told that it isn't there
  pub record Rewaits : Type 0 where
    pub none : (told : RequestOutput) → value_at d'.requests id ≡ Some (Ready told) → ⊥
    pub unkept : is_resolved r.shown.phase ≡ true → (f r).shown.observed ≡ false
    pub near : (it : Waiter Reply Reply) (reply : Reply) → waiter_at d'.requests id ≡ Some it → it.observer ≡ Forwarded reply → ⊥
    pub seen : (f r).shown.observed ≡ true → r.shown.observed ≡ true
    pub still : (f r).shown.forwarding ≡ r.shown.forwarding
    pub waiter : (u : ℕ) → r.shown.waiter ≡ Some u → (f r).shown.waiter ≡ Some u
    pub results : (a : Answer Reply) → Contains left'.results.items a → Contains left.results.items a ⊎ IsResult i a rs'
    pub others : (j : ℕ) → (number_in n.requests.items id ≡ j → ⊥) → results_of j left' ≡ results_of j left
    pub sent : r.shown.worker ≡ i → results_of (number_in n.requests.items id) left' + one_if r.sent ≡ one_if (goes_elsewhere (f r))
    pub completions : left'.notes.completions.items ≡ left.notes.completions.items

  pub rooted_watched : Rewaits → IsRooted i n d zs left rs ss → IsRooted i n d' zs left' rs' ss
  rooted_watched to rooted =
      let there_was : (j : ℕ) (x : Record) → (number_in n.requests.items id ≡ j → ⊥) → slice_get rs' j ≡ Some x → slice_get rs j ≡ Some x = λ j x differs found. other_there i n d d' zs rs rs' ss id r f by j x differs found in
      let here : slice_get rs' k ≡ Some (f r) = now_there i n d d' zs rs rs' ss id r f by in
      let it_is : (j : ℕ) (x : Record) → j ≡ number_in n.requests.items id → slice_get rs' j ≡ Some x → f r ≡ x = λ j x same found. same_Some (f r) x (sym here ∙ ap (slice_get rs') (sym same) ∙ found) in
      let of_i : (x : Record) → f r ≡ x → x.shown.worker ≡ i → r.shown.worker ≡ i = λ x is mine. sym (ap (λ (y : Record). y.shown.worker) by.keeps) ∙ ap (λ (y : Record). y.shown.worker) is ∙ mine in
      let result_on : (a : Answer Reply) → IsResult i a rs → IsResult i a rs' = λ a it.
      by_number it.k k
      (λ differs. record { k = it.k; r = it.r; there = other_still i n d d' zs rs rs' ss id r f by it.k it.r (λ e. differs (sym e)) it.there; worker = it.worker; reply = it.reply; answer = it.answer; paid = it.paid })
      (λ same.
      let is : r ≡ it.r = same_Some r it.r (sym by.there ∙ ap (slice_get rs) (sym same) ∙ it.there) in
      record {
        k = k;
        r = f r;
        there = here;
        worker = ap (λ (y : Record). y.shown.worker) by.keeps ∙ ap (λ (y : Record). y.shown.worker) is ∙ it.worker;
        reply = record { of = it.reply.of ∙ ap (λ m. Heard.Request m) same; task = to.waiter a.sender.task.0 (ap (λ (y : Record). y.shown.waiter) is ∙ it.reply.task) };
        answer = still_answers to a.result (subst (λ (y : Record). IsAnswerOf a.result (thing_of y)) (sym is) it.answer);
        paid = subst (λ m. m ≤ 1) (sym (ap (λ (y : Record). y.shown.wakes_paid) by.keeps ∙ ap (λ (y : Record). y.shown.wakes_paid) is)) it.paid;
      }) in
      record {
        kept = λ x told o at found.
            let apart : x ≢ id = λ same. to.none told (ap (value_at d'.requests) (sym same) ∙ at) in
            let was : value_at d.requests x ≡ Some (Ready told) = sym (by.others x apart) ∙ at in
            rooted.kept x told o was (there_was (number_in n.requests.items x) o (apart_number i n d d' zs rs rs' ss id r f by named x (rw was refl) apart) found);
        ready = λ j x found mine over seen unapplied.
            by_number j k
            (λ differs.
            let was = rooted.ready j x (there_was j x (λ e. differs (sym e)) found) mine over seen unapplied in
            record { named = was.named; live = subst IsSome (sym (by.others x.id.0 (λ e. differs (sym was.named ∙ ap (number_in n.requests.items) e)))) was.live })
            (λ same.
            let is = it_is j x same found in
            absurd (false≢true (sym (to.unkept (sym (ap (λ (y : Record). is_resolved y.shown.phase) by.keeps) ∙ ap (λ (y : Record). is_resolved y.shown.phase) is ∙ over)) ∙ ap (λ (y : Record). y.shown.observed) is ∙ seen)));
        replies = λ x it reply o at forwarded found.
            by_name x id
            (λ apart.
            let was : waiter_at d.requests x ≡ Some it = ap waiter_of (sym (by.others x apart)) ∙ at in
            rooted.replies x it reply o was forwarded (there_was (number_in n.requests.items x) o (apart_number i n d d' zs rs rs' ss id r f by named x (rw (entry_of (value_at d.requests x) it was) refl) apart) found))
            (λ same. absurd (to.near it reply (ap (waiter_at d'.requests) (sym same) ∙ at) forwarded));
        watches = rooted.watches;
        pays = λ j x found mine.
            by_number j k
            (λ differs. rooted.pays j x (there_was j x (λ e. differs (sym e)) found) mine)
            (λ same.
            let is = it_is j x same found in
            let was = rooted.pays k r by.there (of_i x is mine) in
            let paid : (f r).shown.wakes_paid ≡ r.shown.wakes_paid = ap (λ (y : Record). y.shown.wakes_paid) by.keeps in
            subst Pays is (record {
              unpaid = λ going seen. paid ∙ was.unpaid (sym (ap (λ (y : Record). is_resolved y.shown.phase) by.keeps) ∙ going) (to.seen seen);
              once = λ unapplied. subst (λ m. m ≤ 1) (sym paid) (was.once (ap is_applied (sym to.still) ∙ unapplied));
            }));
        sleeper_pays = rooted.sleeper_pays;
        results = λ a among. ⊎_elim (λ old. result_on a (rooted.results a old)) (λ new. new) (to.results a among);
        completions = λ c among. rooted.completions c (subst (λ xs. Contains xs c) to.completions among);
        sent = λ j x found mine.
            by_number j k
            (λ differs. ap (λ m. m + one_if x.sent) (to.others j (λ e. differs (sym e))) ∙ rooted.sent j x (there_was j x (λ e. differs (sym e)) found) mine)
            (λ same.
            let is = it_is j x same found in
            ap (λ m. results_of m left' + one_if x.sent) same ∙ ap (λ (y : Record). results_of k left' + one_if y.sent) (sym is) ∙ ap (λ (y : Record). results_of k left' + one_if y.sent) by.keeps
            ∙ to.sent (of_i x is mine) ∙ ap (λ (y : Record). one_if (goes_elsewhere y)) is);
        sleeper_sent = λ j z found mine. ap (λ xs. count_by (λ (c : ForwardedResult Reply). is_of_timer j c.sender.of) xs + one_if z.sent) to.completions ∙ rooted.sleeper_sent j z found mine;
      }
    where
      still_answers : Rewaits → (x : Result RequestOutput Error) → IsAnswerOf x (thing_of r) → IsAnswerOf x (thing_of (f r))
      still_answers to (Ok out) h = ap (λ (y : Record). outcome_in y.shown.phase) by.keeps ∙ h
      still_answers to (Err error) h = false_from_ne_true (f r).shown.observed (λ seen. false≢true (sym h ∙ to.seen seen))

-- ALL THAT HOLDS AGAIN of the worker's own, where it is in no service
module _ {B : Type 0} (w : Worker) (s : Shared B) (d d' : Driving Reply Reply) (zs : Slab (Sleeping Reply)) (rs rs' : List Record) (ss : List SleeperRecord) (id : Id) (r : Record) (f : Record → Record) (left' : Deferred Reply Reply) where
  pub keeps_watched : {spare : ℕ} → served_in w.place ≡ None → (by : Watched w.names d d' rs rs' id r f) → (keeps : KeepsWith spare w d zs rs ss s) → Rewaits w.index w.names d d' zs w.home.deferred left' rs rs' ss id r f by keeps.named
      → IsTold w.names.ended.items left' (tellers d'.requests zs + spare) → HasWidth left' (tellers d'.requests zs + 64) → left'.notes.wakes.items ≡ w.home.deferred.notes.wakes.items
      → pending_count d'.requests ≡ pending_count d.requests → IsPunctual d' → d'.lists.due ≡ [] → IsWheelAt s.config w.moments.start w.moments.sampled d'.wheel
      → KeepsWith spare (record w { home = record w.home { deferred = left' } }) d' zs rs' ss s
  keeps_watched idle by keeps to told wide wakes pending punctual due wheel =
      let i = w.index in
      let n = w.names in
      let over = subst (λ m. AreOver i n.ended.items n.unreleased m rs') (sym pending) (over_watched i n d d' zs rs rs' ss id r f by n.ended.items n.unreleased (pending_count d.requests) keeps.over) in
      let quiet : has_wakes_at w.place ≡ false → left'.notes.wakes.items ≡ [] = λ h. wakes ∙ keeps.quiet h in
      let due_so =
      subst (λ x. IsDue x w.home.closing i w.moments s.config n d' zs rs' ss) (sym idle) (due_watched i n d d' zs rs rs' ss id r f by w.moments s.config punctual due wheel (subst (λ x. IsDue x w.home.closing i w.moments s.config n d zs rs ss) idle keeps.due)) in
      let flown = flown_watched i n d d' zs rs rs' ss id r f by (served_in w.place) keeps.flown in
      let carried = carried_watched i n d d' zs rs rs' ss id r f by s.store keeps.carried in
      let known = known_watched i n d d' zs rs rs' ss id r f by s.opens keeps.known in
      let rooted = rooted_watched i n d d' zs w.home.deferred left' rs rs' ss id r f by keeps.named to keeps.rooted in
      assumption (told, wide, named_watched i n d d' zs rs rs' ss id r f by keeps.named, ap (λ x. x.size) by.ring ∙ keeps.sized, over, quiet, due_so, flown, carried, known, rooted, keeps)
