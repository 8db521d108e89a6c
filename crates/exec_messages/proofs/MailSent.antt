-- A REQUEST'S END GOES ELSEWHERE from now on: what its worker keeps for others then; and all of its own that holds again where it
-- has nothing of the request any more.
use Rattle.std.proofs.{Common.{◌≡◌, ◌≢◌, ◌⊎◌, ⊎_elim, ℕ, ◌+◌, ◌≤◌, ◌==◌, Bool, true, false, Contains, List, count_by, Some, None, IsSome, Result, Ok, Err, refl, sym, ap, subst, ◌∙◌, slice_get, arith}, lemmas.Bool.{false≢true, eq-eqb}}
use Rattle.exec_base.specs.{Slab.{Slab, value_at}, declared.{error.Error.Error, slab.Id.Id}}
use Rattle.exec_time.specs.declared.{notes.ForwardedResult.ForwardedResult, timers.Sleeper.Sleeper as Sleeping}
use Rattle.exec_request.specs.declared.output.RequestOutput.{RequestOutput}
use Rattle.exec_waiters.{specs.{States.{waiter_at, waiter_of}, declared.{deferred.{Answer.Answer, Deferred.Deferred}, observer.Observer.TheVariants.Forwarded, waiter.{Entry.TheVariants.Ready, Waiter.Waiter}, waiter_id.WaiterId.WaiterId}}, proofs.Changes.entry_of}
use Rattle.exec_driver.specs.Driving.{Driving}
use Rattle.exec_lists.specs.Lists.{is_among}
use Rattle.exec_machine.specs.Tests.{is_applied, is_resolved, is_staged}
use Rattle.exec_moves.specs.declared.handing.Heard.{Heard}
use Rattle.exec_parts.{specs.{declared.parts.{mail.Reply.Reply, names.Names.Names, record.Record.Record, sleeping.SleeperRecord.SleeperRecord}, Calls.forward_applied, Records.number_in, Serving.changed_at}, proofs.Facts.{by_name, by_number, not_same, same_Some}}
use Rattle.exec_invariants.{specs.{Due.AreTimed, Flown.{AreLanded, HasFlown, IsPlain, operations}, Holding.{IsAnswerOf, thing_of}, Places.one_if, Rooted.{IsReplyFor, IsResult, IsRooted, Pays, goes_elsewhere, is_of_timer, results_of}, Sound.AreOver, Names.{IsAlike, IsNamed, IsSubmitted}}, proofs.{Flown.landed_on, Marking.{known_then, mark_if, marked, was_marked}}}

-- THE RECORDS

module _ (rs : List Record) (k : ℕ) (r : Record) (there : slice_get rs k ≡ Some r) where
  abbrev pub rs_sent : List Record
  rs_sent = changed_at rs k forward_applied

  pub here_sent : slice_get rs_sent k ≡ Some (forward_applied r)
  here_sent = marked forward_applied rs k k r there ∙ ap (λ b. Some (mark_if forward_applied b r)) (eq-eqb k k refl)

  pub else_sent : (j : ℕ) (x : Record) → (k ≡ j → ⊥) → slice_get rs j ≡ Some x → slice_get rs_sent j ≡ Some x
  else_sent j x apart at = marked forward_applied rs k j x at ∙ ap (λ b. Some (mark_if forward_applied b x)) (not_same k j apart)

  pub was_else : (j : ℕ) (x : Record) → (k ≡ j → ⊥) → slice_get rs_sent j ≡ Some x → slice_get rs j ≡ Some x
  was_else = grind (arith, was_marked, mark_if, not_same)

  -- any other, and this
  pub by_sent : {P : Type 0} (j : ℕ) (x : Record) → slice_get rs_sent j ≡ Some x → (k ≡ j → forward_applied r ≡ x → P) → ((k ≡ j → ⊥) → slice_get rs j ≡ Some x → P) → P
  by_sent = grind (arith, by_number, was_else, same_Some, here_sent)

-- what a record was
pub record WasSent (rs : List Record) (j : ℕ) (x : Record) : Type 0 where
  pub o : Record
  pub at : slice_get rs j ≡ Some o
  pub is : x ≡ record o { shown = record o.shown { forwarding = x.shown.forwarding } }

pub was_sent_so : (rs : List Record) (k j : ℕ) (x : Record) → slice_get (changed_at rs k forward_applied) j ≡ Some x → WasSent rs j x
was_sent_so = grind (arith, was_marked, mark_if)

-- WHAT IS KEPT FOR OTHERS

module _ (i : ℕ) (n : Names) (d d' : Driving Reply Reply) (zs : Slab (Sleeping Reply)) (left left' : Deferred Reply Reply) (rs : List Record) (ss : List SleeperRecord) (k : ℕ) (r : Record) (there : slice_get rs k ≡ Some r) where
  abbrev rs' : List Record
  rs' = changed_at rs k forward_applied

  pub record SendsOn : Type 0 where
    pub mine : r.shown.worker ≡ i
    pub apart : (x : Id) → IsSome (value_at d.requests x) → number_in n.requests.items x ≡ k → x ≡ r.id.0
    pub unique : (j : ℕ) (x : Record) → slice_get rs j ≡ Some x → x.shown.worker ≡ i → x.id.0 ≡ r.id.0 → j ≡ k
    pub others : (x : Id) → x ≢ r.id.0 → value_at d'.requests x ≡ value_at d.requests x
    pub none : (told : RequestOutput) → value_at d'.requests r.id.0 ≡ Some (Ready told) → ⊥
    pub here : (it : Waiter Reply Reply) (reply : Reply) → waiter_at d'.requests r.id.0 ≡ Some it → it.observer ≡ Forwarded reply → (number_in n.requests.items r.id.0 ≡ k) × IsReplyFor k reply r
    pub results : (a : Answer Reply) → Contains left'.results.items a → Contains left.results.items a ⊎ IsResult i a rs'
    pub results_else : (j : ℕ) → (k ≡ j → ⊥) → results_of j left' ≡ results_of j left
    pub sent : results_of k left' + one_if r.sent ≡ one_if (goes_elsewhere (forward_applied r))
    pub completions : left'.notes.completions.items ≡ left.notes.completions.items

  pub rooted_sent : SendsOn → IsRooted i n d zs left rs ss → IsRooted i n d' zs left' rs' ss
  rooted_sent to rooted =
      record {
        kept = λ x told o at found.
            let differs : x ≢ r.id.0 = λ same. to.none told (ap (value_at d'.requests) (sym same) ∙ at) in
            let was : value_at d.requests x ≡ Some (Ready told) = sym (to.others x differs) ∙ at in
            rooted.kept x told o was (was_else rs k r there (number_in n.requests.items x) o (λ e. differs (to.apart x (rw was refl) (sym e))) found);
        ready = λ j x found mine over seen unapplied.
            by_sent rs k r there j x found
            (λ same is. absurd (false≢true (sym unapplied ∙ ap (λ (y : Record). is_applied y.shown.forwarding) (sym is))))
            (λ other at.
            let was = rooted.ready j x at mine over seen unapplied in
            let differs : x.id.0 ≢ r.id.0 = λ e. other (sym (to.unique j x at mine e)) in
            record { named = was.named; live = subst IsSome (sym (to.others x.id.0 differs)) was.live });
        replies = λ x it reply o at forwarded found.
            by_name x r.id.0
            (λ differs.
            let was : waiter_at d.requests x ≡ Some it = ap waiter_of (sym (to.others x differs)) ∙ at in
            rooted.replies x it reply o was forwarded
            (was_else rs k r there (number_in n.requests.items x) o (λ e. differs (to.apart x (rw (entry_of (value_at d.requests x) it was) refl) (sym e))) found))
            (λ same.
            let it_is = to.here it reply (ap (waiter_at d'.requests) (sym same) ∙ at) forwarded in
            let number : number_in n.requests.items x ≡ k = ap (number_in n.requests.items) same ∙ it_is.0 in
            let is : forward_applied r ≡ o = same_Some (forward_applied r) o (sym (here_sent rs k r there) ∙ ap (slice_get rs') (sym number) ∙ found) in
            record { of = it_is.1.of ∙ ap (λ m. Heard.Request m) (sym number); task = ap (λ (y : Record). y.shown.waiter) (sym is) ∙ it_is.1.task });
        watches = rooted.watches;
        pays = λ j x found mine.
            by_sent rs k r there j x found
            (λ same is.
            let was = rooted.pays k r there to.mine in
            subst Pays is (record { unpaid = λ going seen. was.unpaid going seen; once = λ unapplied. absurd (false≢true (sym unapplied)) }))
            (λ other at. rooted.pays j x at mine);
        sleeper_pays = rooted.sleeper_pays;
        results = λ a among. ⊎_elim (λ old. result_on a (rooted.results a old)) (λ new. new) (to.results a among);
        completions = λ c among. rooted.completions c (subst (λ xs. Contains xs c) to.completions among);
        sent = λ j x found mine.
            by_sent rs k r there j x found
            (λ same is.
            ap (λ m. results_of m left' + one_if x.sent) (sym same) ∙ ap (λ (y : Record). results_of k left' + one_if y.sent) (sym is) ∙ to.sent ∙ ap (λ (y : Record). one_if (goes_elsewhere y)) is)
            (λ other at. ap (λ m. m + one_if x.sent) (to.results_else j other) ∙ rooted.sent j x at mine);
        sleeper_sent = λ j z found mine. ap (λ xs. count_by (λ (c : ForwardedResult Reply). is_of_timer j c.sender.of) xs + one_if z.sent) to.completions ∙ rooted.sleeper_sent j z found mine;
      }
    where
      answers : (x : Result RequestOutput Error) → IsAnswerOf x (thing_of r) → IsAnswerOf x (thing_of (forward_applied r))
      answers (Ok out) h = h
      answers (Err error) h = h

      result_on : (a : Answer Reply) → IsResult i a rs → IsResult i a rs'
      result_on a it =
          by_number it.k k
          (λ other. record { k = it.k; r = it.r; there = else_sent rs k r there it.k it.r (λ e. other (sym e)) it.there; worker = it.worker; reply = it.reply; answer = it.answer; paid = it.paid })
          (λ same.
          let is : it.r ≡ r = same_Some it.r r (sym it.there ∙ ap (slice_get rs) same ∙ there) in
          record {
            k = k;
            r = forward_applied r;
            there = here_sent rs k r there;
            worker = ap (λ (y : Record). y.shown.worker) (sym is) ∙ it.worker;
            reply = record { of = it.reply.of ∙ ap (λ m. Heard.Request m) same; task = ap (λ (y : Record). y.shown.waiter) (sym is) ∙ it.reply.task };
            answer = answers a.result (subst (λ (y : Record). IsAnswerOf a.result (thing_of y)) is it.answer);
            paid = subst (λ (y : Record). y.shown.wakes_paid ≤ 1) is it.paid;
          })

-- NOTHING OF IT IS AT THE DRIVER: all else is as it was

module _ (i : ℕ) (n : Names) (d : Driving Reply Reply) (zs : Slab (Sleeping Reply)) (rs : List Record) (ss : List SleeperRecord) (k : ℕ) (r : Record) (there : slice_get rs k ≡ Some r) (apart : (x : Id) → IsSome (value_at d.requests x) → number_in n.requests.items x ≡ k → ⊥) where
  abbrev rs_gone : List Record
  rs_gone = changed_at rs k forward_applied

  after_gone : (j : ℕ) (o : Record) → slice_get rs j ≡ Some o → (x : Record) × (slice_get rs_gone j ≡ Some x) × (x ≡ record o { shown = record o.shown { forwarding = x.shown.forwarding } })
  after_gone j o at = (mark_if forward_applied (k == j) o, marked forward_applied rs k j o at, by (k == j))
    where
      by : (b : Bool) → mark_if forward_applied b o ≡ record o { shown = record o.shown { forwarding = (mark_if forward_applied b o).shown.forwarding } }
      by true = refl
      by false = refl

  submitted_gone : IsSubmitted i n.staged.items n.untold.items d.ring rs → IsSubmitted i n.staged.items n.untold.items d.ring rs_gone
  submitted_gone sub =
      record {
        tagged = sub.tagged;
        cancels = sub.cancels;
        known = known_then forward_applied rs k n.staged.items sub.known;
        own = λ j x h found. let old = was_sent_so rs k j x found in ap (λ (y : Record). y.shown.worker) old.is ∙ sub.own j old.o h old.at;
        all = λ j x found mine staged.
            let old = was_sent_so rs k j x found in
            sub.all j old.o old.at (sym (ap (λ (y : Record). y.shown.worker) old.is) ∙ mine) (sym (ap (λ (y : Record). is_staged y.shown.phase) old.is) ∙ staged);
      }

  pub named_gone : IsNamed i n d zs rs ss → IsNamed i n d zs rs_gone ss
  named_gone named =
      let requests : (x : Id) → IsSome (value_at d.requests x) → (y : Record) × (slice_get rs_gone (number_in n.requests.items x) ≡ Some y) × (y.id.0 ≡ x) × (y.shown.worker ≡ i) = λ x some.
      let old = named.requests x some in
      let new = after_gone (number_in n.requests.items x) old.0 old.1 in
      (new.0, new.1, ap (λ (y : Record). y.id.0) new.2 ∙ old.2, ap (λ (y : Record). y.shown.worker) new.2 ∙ old.3) in
      let alike : (x : Id) (it : Waiter Reply Reply) (y : Record) → waiter_at d.requests x ≡ Some it → slice_get rs_gone (number_in n.requests.items x) ≡ Some y → IsAlike d.wheel.start d.wheel.tick it y.shown = λ x it y live found.
      named.alike x it y live (was_else rs k r there (number_in n.requests.items x) y (λ e. apart x (rw (entry_of (value_at d.requests x) it live) refl) (sym e)) found) in
      let over : (j : ℕ) (y : Record) → slice_get rs_gone j ≡ Some y → y.shown.worker ≡ i → waiter_at d.requests y.id.0 ≡ None → is_resolved y.shown.phase ≡ true = λ j y found mine none.
      let old = was_sent_so rs k j y found in
      ap (λ (z : Record). is_resolved z.shown.phase) old.is
      ∙ named.over j old.o old.at (sym (ap (λ (z : Record). z.shown.worker) old.is) ∙ mine) (subst (λ z. waiter_at d.requests z ≡ None) (ap (λ (z : Record). z.id.0) old.is) none) in
      assumption (requests, alike, over, submitted_gone named.submitted, named)

  pub over_gone : (ended : List ℕ) (unreleased others : ℕ) → AreOver i ended unreleased others rs → AreOver i ended unreleased others rs_gone
  over_gone = grind (arith, after_gone)

  pub timed_gone : AreTimed i n rs → AreTimed i n rs_gone
  timed_gone timed j y found mine =
      let old = was_sent_so rs k j y found in
      let t = timed j old.o old.at (sym (ap (λ (z : Record). z.shown.worker) old.is) ∙ mine) in
      grind arith

  pub flown_gone : HasFlown None i n d rs → HasFlown None i n d rs_gone
  flown_gone flown =
      let plain : (j : ℕ) (y : Record) → slice_get rs_gone j ≡ Some y → y.shown.worker ≡ i → IsPlain y.shown = λ j y found mine.
      let old = was_sent_so rs k j y found in
      subst (λ (z : Record). IsPlain z.shown) (sym old.is) (assumption (flown.plain j old.o old.at (sym (ap (λ (z : Record). z.shown.worker) old.is) ∙ mine))) in
      let landed : AreLanded n d rs_gone (operations d.ring) = landed_on n n d d rs rs_gone (operations d.ring) flown.landed
      (λ x it y given live flies at landed.
      let new = after_gone (number_in n.requests.items x) y at in
      record { it' = it; r' = new.0; live = live; flies = refl; same = refl; number = refl; there = new.1; phase = ap (λ (z : Record). z.shown.phase) new.2 }) in
      let owning : (j : ℕ) (y : Record) → slice_get rs_gone j ≡ Some y → is_resolved y.shown.phase ≡ false → y.shown.released ≡ false = λ j y found going.
      let old = was_sent_so rs k j y found in
      ap (λ (z : Record). z.shown.released) old.is ∙ flown.owning j old.o old.at (sym (ap (λ (z : Record). is_resolved z.shown.phase) old.is) ∙ going) in
      let uncancelled : (x : WaiterId) (y : Record) → is_among x d.lists.cancels ≡ true → slice_get rs_gone (number_in n.requests.items x.0) ≡ Some y → y.shown.worker ≡ i → y.shown.cancel_staged ≡ false = λ x y among found mine.
      let old = was_sent_so rs k (number_in n.requests.items x.0) y found in
      ap (λ (z : Record). z.shown.cancel_staged) old.is ∙ flown.uncancelled x old.o among old.at (sym (ap (λ (z : Record). z.shown.worker) old.is) ∙ mine) in
      assumption (plain, landed, owning, uncancelled, flown)
