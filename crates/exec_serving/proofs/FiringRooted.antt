-- A sleeper fires: what its worker keeps of sleepers, what is sent elsewhere, and the room for that.
use Rattle.std.proofs.{Common.{◌≡◌, ◌≢◌, ℕ, ◌+◌, ◌≤◌, ◌||◌, false, Contains, List, ◌++◌, count_by, length, Some, None, IsSome, Ok, refl, sym, ap, subst, ◌∙◌, arith, inl, inr, slice_get, slice_set}, lemmas.{Bool.{false≢true, eq-eqb}, List.{length-append, Elements.Contains-append_cases}}}
use Rattle.exec_base.specs.{Slab.{Slab, value_at}, declared.slab.Id.Id}
use Rattle.exec_time.specs.{Notes.Adds, Sleepers.{completions_of, wakes_of}, declared.{notes.ForwardedResult.ForwardedResult, timers.{Observer.{Observer as Watching, Observer as sleep}, Sleeper.Sleeper as Sleeping}}}
use Rattle.exec_waiters.specs.declared.deferred.Deferred.{Deferred}
use Rattle.exec_driver.specs.Driving.{Driving}
use Rattle.exec_machine.specs.Tests.{is_applied}
use Rattle.exec_parts.{specs.{declared.parts.{mail.Reply.Reply, names.Names.Names, record.Record.Record, sleeping.SleeperRecord.SleeperRecord}, Records.number_in, Calls.IsTold}, proofs.Facts.{by_number, not_same, same_Some, set_elsewhere}}
use Rattle.exec_invariants.{specs.{Places.one_if, Rooted.{IsCompletion, IsRooted, SleeperPays, Watches, completions_of as sent_of, ends_elsewhere, goes_elsewhere, is_of_timer, results_of}, Names.HasWidth}, proofs.{Fired.{fired_there, fires}, ServedEnds.{count_both, count_none, count_one, none_in, only_one}}}

-- one wake is told at most, and one end sent
pub few_wakes : (o : Watching Reply) → length (wakes_of o) ≤ 1
few_wakes (sleep.Local t) = omega arith
few_wakes (sleep.Forwarded reply) = omega arith

pub few_ends : (o : Watching Reply) → length (completions_of (Ok tt) o) ≤ 1
few_ends (sleep.Local t) = omega arith
few_ends (sleep.Forwarded reply) = omega arith

-- THE ROOM
pub told_less : (ended : List ℕ) (left left' : Deferred Reply Reply) (n : ℕ) (o : Watching Reply) → left' ≡ record left { notes = left'.notes } → Adds left.notes left'.notes (wakes_of o) (completions_of (Ok tt) o) → IsTold ended left (n + 1) → IsTold ended left' n
told_less = grind (arith, length-append, few_wakes, few_ends)

pub wide_less : (left left' : Deferred Reply Reply) (n : ℕ) (o : Watching Reply) → left' ≡ record left { notes = left'.notes } → Adds left.notes left'.notes (wakes_of o) (completions_of (Ok tt) o) → HasWidth left (n + 1) → HasWidth left' n
wide_less = grind arith

-- WHAT IS KEPT

module _ (i : ℕ) (n : Names) (d : Driving Reply Reply) (zs zs' : Slab (Sleeping Reply)) (left left' : Deferred Reply Reply) (rs : List Record) (ss : List SleeperRecord) (id : Id) (it : Sleeping Reply) (z : SleeperRecord) (rooted : IsRooted i n d zs left rs ss)
    (was : value_at zs id ≡ Some it) (others : (other : Id) → other ≢ id → value_at zs' other ≡ value_at zs other) (gone : value_at zs' id ≡ None) (there : slice_get ss (number_in n.timers.items id) ≡ Some z) (mine : z.shown.worker ≡ i)
    (unfired : z.shown.fired ≡ false) (unremoved : z.shown.removed ≡ false) (unclosed : z.closed ≡ false) (apart : (other : Id) → IsSome (value_at zs other) → other ≢ id → number_in n.timers.items id ≡ number_in n.timers.items other → ⊥)
    (same : left' ≡ record left { notes = left'.notes }) (adds : Adds left.notes left'.notes (wakes_of it.observer) (completions_of (Ok tt) it.observer)) where
  abbrev pub k : ℕ
  k = number_in n.timers.items id

  pub watched : Watches (number_in n.timers.items id) it.observer z
  watched = rooted.watches id it z was there

  now_there : slice_get (slice_set ss (number_in n.timers.items id) (fires z)) (number_in n.timers.items id) ≡ Some (fires z)
  now_there = fired_there ss (number_in n.timers.items id) z there

  -- what stands there then is it, or stood there
  by_sleeper : {C : Type 0} (j : ℕ) (x : SleeperRecord) → slice_get (slice_set ss (number_in n.timers.items id) (fires z)) j ≡ Some x → (j ≡ number_in n.timers.items id → fires z ≡ x → C) → ((number_in n.timers.items id ≡ j → ⊥) → slice_get ss j ≡ Some x → C) → C
  by_sleeper = grind (arith, by_number, set_elsewhere, fires, same_Some, now_there)

  -- it has paid none
  pub unpaid : z.shown.wakes_paid ≡ 0
  unpaid = (rooted.sleeper_pays k z there mine).unpaid unfired (ap (λ b. b || z.closed) unremoved ∙ unclosed)

  -- and its end wasn't sent
  ends_none : ends_elsewhere z ≡ false
  ends_none = grind arith

  none_sent : sent_of k left + one_if z.sent ≡ 0
  none_sent = rooted.sleeper_sent k z there mine ∙ ap one_if ends_none

  pub unsent : z.sent ≡ false
  unsent = grind (arith, none_sent)

  completions_then : left'.notes.completions.items ≡ left.notes.completions.items ++ completions_of (Ok tt) it.observer
  completions_then = adds.completions_added

  counted : (j : ℕ) → sent_of j left' ≡ sent_of j left + count_by (λ (c : ForwardedResult Reply). is_of_timer j c.sender.of) (completions_of (Ok tt) it.observer)
  counted j = ap (count_by (λ (c : ForwardedResult Reply). is_of_timer j c.sender.of)) completions_then ∙ count_both (λ (c : ForwardedResult Reply). is_of_timer j c.sender.of) left.notes.completions.items (completions_of (Ok tt) it.observer)

  sent_other : (j : ℕ) → (k ≡ j → ⊥) → (o : Watching Reply) → it.observer ≡ o → count_by (λ (c : ForwardedResult Reply). is_of_timer j c.sender.of) (completions_of (Ok tt) o) ≡ 0
  sent_other = grind (arith, count_none, watched, count_one, not_same)

  sent_here : (o : Watching Reply) → it.observer ≡ o → count_by (λ (c : ForwardedResult Reply). is_of_timer k c.sender.of) (completions_of (Ok tt) o) ≡ one_if (is_applied z.shown.forwarding)
  sent_here = grind (arith, watched, count_none, count_one, eq-eqb)

  ends_now : ends_elsewhere (fires z) ≡ is_applied z.shown.forwarding
  ends_now = grind arith

  sent_then : (j : ℕ) (x : SleeperRecord) → slice_get (slice_set ss (number_in n.timers.items id) (fires z)) j ≡ Some x → x.shown.worker ≡ i → sent_of j left' + one_if x.sent ≡ one_if (ends_elsewhere x)
  sent_then j x at of_i =
      by_sleeper j x at
      (λ e is.
      let sum = counted j in
      let more : count_by (λ (c : ForwardedResult Reply). is_of_timer j c.sender.of) (completions_of (Ok tt) it.observer) ≡ one_if (is_applied z.shown.forwarding) = ap (λ m. count_by (λ (c : ForwardedResult Reply). is_of_timer m c.sender.of) (completions_of (Ok tt) it.observer)) e ∙ sent_here it.observer refl in
      let none : sent_of j left + one_if z.sent ≡ 0 = ap (λ m. sent_of m left + one_if z.sent) e ∙ none_sent in
      let now : one_if (ends_elsewhere x) ≡ one_if (is_applied z.shown.forwarding) = ap (λ (y : SleeperRecord). one_if (ends_elsewhere y)) (sym is) ∙ ap one_if ends_now in
      omega (arith, sum, more, none, now, ap (λ (y : SleeperRecord). one_if y.sent) (sym is)))
      (λ differs found.
      omega (arith, counted j, sent_other j differs it.observer refl, rooted.sleeper_sent j x found of_i))

  end_old : (c : ForwardedResult Reply) → IsCompletion i c ss → IsCompletion i c (slice_set ss (number_in n.timers.items id) (fires z))
  end_old = grind (arith, by_number, set_elsewhere, fires, same_Some, now_there)

  end_new : (o : Watching Reply) → it.observer ≡ o → (c : ForwardedResult Reply) → Contains (completions_of (Ok tt) o) c → IsCompletion i c (slice_set ss (number_in n.timers.items id) (fires z))
  end_new = grind (arith, none_in, watched, unpaid, fires, only_one, now_there)

  pub rooted_fired : IsRooted i n d zs' left' rs (slice_set ss (number_in n.timers.items id) (fires z))
  rooted_fired =
      record {
        kept = rooted.kept;
        ready = rooted.ready;
        replies = rooted.replies;
        watches = λ other x y at found.
            let differs : other ≢ id = λ e. let no : Some x ≡ None = sym at ∙ ap (value_at zs') e ∙ gone in absurd (cc) in
            let before : value_at zs other ≡ Some x = sym (others other differs) ∙ at in
            by_sleeper (number_in n.timers.items other) y found
            (λ e is. absurd (apart other (rw before refl) differs (sym e)))
            (λ unlike old. rooted.watches other x y before old);
        pays = rooted.pays;
        sleeper_pays = λ j x at of_i.
            by_sleeper j x at
            (λ e is. subst SleeperPays is (record { unpaid = λ no. absurd (false≢true (sym no)); once = (rooted.sleeper_pays k z there mine).once }))
            (λ differs found. rooted.sleeper_pays j x found of_i);
        results = λ a among. rooted.results a (subst (λ xs. Contains xs a) (ap (λ v. v.items) (ap (λ (x : Deferred Reply Reply). x.results) same)) among);
        completions = λ c among.
            elim (Contains-append_cases left.notes.completions.items (completions_of (Ok tt) it.observer) c (subst (λ xs. Contains xs c) completions_then among)) [
              | inl old ↦ end_old c (rooted.completions c old)
              | inr new ↦ end_new it.observer refl c new
            ];
        sent = λ j r at of_i. subst (λ (x : Deferred Reply Reply). results_of j x + one_if r.sent ≡ one_if (goes_elsewhere r)) (sym same) (rooted.sent j r at of_i);
        sleeper_sent = sent_then;
      }
