-- A task that sleeps from now on: what holds again of its worker's sleepers.
use Rattle.std.{proofs.{Common.{◌≡◌, ◌≢◌, ℕ, ◌≤◌, ◌&&◌, ◌||◌, Bool, true, false, List, [], ◌∷◌, ◌++◌, length, Option, Some, IsSome, refl, sym, ap, subst, ◌∙◌, arith, inl, inr, slice_get}, lemmas.{Bool.{false≢true, eq-eqb}, Option.slice_get_within}}, specs.VecDeque.deque_capacity}
use Rattle.exec_base.specs.{Slab.{TakesId, Slab, value_at}, declared.slab.Id.Id}
use Rattle.exec_time.specs.declared.{notes.ForwardedResult.ForwardedResult, timers.{Sleeper.Sleeper as Sleeping, Observer.Observer}}
use Rattle.exec_waiters.specs.declared.deferred.Deferred.{Deferred}
use Rattle.exec_ring.specs.declared.store.Store.{Store}
use Rattle.exec_driver.specs.Driving.{Driving}
use Rattle.exec_machine.specs.{Deadlines.new_sleeper, Tests.{is_applied, is_asleep}}
use Rattle.exec_moves.specs.declared.place.InService.{InService}
use Rattle.exec_parts.{specs.{declared.parts.{mail.Reply.Reply, names.Names.Names, record.Record.Record, sleeping.SleeperRecord.SleeperRecord}, Records.number_in}, proofs.Facts.{by_name, not_same}}
use Rattle.exec_invariants.{proofs.{Taken.{Takes, got_new, got_old, name_apart, number_new, number_old, slot_apart, value_new, value_old, was_got}, FiringNames.{counted_joined, naps_joined}, Flown.landed_on}, specs.{Carried.IsCarried, Due.{AreAsleep, AreTimed}, Ordered.IsOrdered, Flown.HasFlown, Places.one_if, Rooted.{IsReplyFor, IsRooted, SleeperPays, completions_of, ends_elsewhere, is_of_timer}, Sound.AreOver, Names.IsNamed}}
use Rattle.exec_polling.proofs.Coming.{none_of}
pub use Rattle.exec_polling.proofs.LeafBeds.{bed_names, bed_room, bed_within}

-- A sleeper came in under this name, with the next number; of the other numbers there may be more room.
pub record OneDozes (i t until : ℕ) (n n' : Names) (zs zs' : Slab (Sleeping Reply)) (ss : List SleeperRecord) (z : SleeperRecord) : Type 0 where
  pub takes : Takes zs zs' z.id.0 (record { deadline = until; observer = Observer.Local (record { 0 = t }) })
  pub number_is : slice_get n'.timers.items z.id.0.index ≡ Some (length ss)
  pub others : (k : ℕ) → k ≢ z.id.0.index → slice_get n'.timers.items k ≡ slice_get n.timers.items k
  pub beds : length zs'.slots ≤ length n'.timers.items
  pub shown : z.shown ≡ new_sleeper until i t
  pub unclosed : z.closed ≡ false
  pub past : TakesId zs zs' z.id.0
  pub requests : n'.requests.items ≡ n.requests.items
  pub staged : n'.staged ≡ n.staged
  pub untold : n'.untold ≡ n.untold
  pub ended : n'.ended.items ≡ n.ended.items
  pub room : deque_capacity n.ended ≤ deque_capacity n'.ended
  pub unreleased : n'.unreleased ≡ n.unreleased
  pub unsent : z.sent ≡ false

asleep_there : (i : ℕ) (z : SleeperRecord) (until t : ℕ) → z.shown ≡ new_sleeper until i t → is_asleep i z.shown ≡ true
asleep_there i z until t is = ap (is_asleep i) is ∙ rw (eq-eqb i i refl) refl

module _ (i t until : ℕ) (n n' : Names) (d : Driving Reply Reply) (zs zs' : Slab (Sleeping Reply)) (rs : List Record) (ss : List SleeperRecord) (z : SleeperRecord) (one : OneDozes i t until n n' zs zs' ss z) where
  abbrev asleep_now : Sleeping Reply
  asleep_now = record { deadline = until; observer = Observer.Local (record { 0 = t }) }

  number_here : number_in n'.timers.items z.id.0 ≡ length ss
  number_here = number_new n.timers.items n'.timers.items z.id.0 (length ss) one.number_is one.others

  number_there : (other : Id) → IsSome (value_at zs other) → number_in n'.timers.items other ≡ number_in n.timers.items other
  number_there other some = number_old n.timers.items n'.timers.items z.id.0 (length ss) one.number_is one.others other (slot_apart zs zs' z.id.0 asleep_now one.takes other some)

  some_before : (other : Id) → other ≢ z.id.0 → IsSome (value_at zs' other) → IsSome (value_at zs other)
  some_before other apart h = rw (← value_old zs zs' z.id.0 asleep_now one.takes other apart) h

  pub named_dozes : IsNamed i n d zs rs ss → IsNamed i n' d zs' rs (ss ++ z ∷ [])
  named_dozes named =
      record {
        requests = λ id h. rw one.requests (named.requests id h);
        timers = grind (arith, by_name, some_before, number_there, got_old, number_here, got_new);
        alike = λ id it r at there. named.alike id it r at (rw (← one.requests) there);
        over = named.over;
        submitted = rw (one.staged, one.untold) named.submitted;
        slots = rw one.requests named.slots;
        beds = one.beds;
      }

  pub over_dozes : (others : ℕ) → AreOver i n.ended.items n.unreleased others rs → AreOver i n'.ended.items n'.unreleased others rs
  over_dozes others over = rw (one.ended, one.unreleased) over

  pub timed_dozes : AreTimed i n rs → AreTimed i n' rs
  timed_dozes timed k r there mine = let old = timed k r there mine in record { named = λ h. rw one.requests (old.named h); over = old.over }

  pub asleep_dozes : {closing : Bool} → IsNamed i n d zs rs ss → AreAsleep closing i n zs ss → AreAsleep closing i n' zs' (ss ++ z ∷ [])
  asleep_dozes named asleep =
      record {
        alike = grind (arith, by_name, value_old, number_there, got_old, value_new, number_here, got_new, asleep_there);
        there = grind (arith, was_got, value_old, name_apart, value_new);
        named = grind (arith, was_got, number_there, number_here);
        lets_go = λ k r there mine closed. elim (was_got ss z r k there) [ inl old ↦ asleep.lets_go k r old mine closed | inr last ↦ absurd (false≢true (sym one.unclosed ∙ ap (λ y. y.closed) last.1 ∙ closed)) ];
        counted = counted_joined i zs zs' ss z one.past one.takes.unused asleep.counted;
        names = naps_joined i zs zs' ss z one.past one.takes.unused asleep.names;
      }

  pub order_dozes : (round : Bool) → IsOrdered round n.requests.items d.requests d.wheel d.lists.enrolments d.lists.due → IsOrdered round n'.requests.items d.requests d.wheel d.lists.enrolments d.lists.due
  order_dozes round order = rw one.requests order

  pub carried_dozes : (st : Store) → IsCarried n.requests.items d.requests d.ring rs st → IsCarried n'.requests.items d.requests d.ring rs st
  carried_dozes st carried = rw one.requests carried

  pub flown_dozes : (x : Option InService) → HasFlown x i n d rs → HasFlown x i n' d rs
  flown_dozes = grind (arith, landed_on)

  -- WHAT IS KEPT OF THEM

  pub rooted_dozes : (left : Deferred Reply Reply) → IsNamed i n d zs rs ss → IsRooted i n d zs left rs ss → IsRooted i n' d zs' left rs (ss ++ z ∷ [])
  rooted_dozes left named rooted =
      record {
        kept = λ id told r at there. rooted.kept id told r at (rw (← one.requests) there);
        ready = λ k r there mine over seen unapplied. let was = rooted.ready k r there mine over seen unapplied in record { named = ap (λ ns. number_in ns r.id.0) one.requests ∙ was.named; live = was.live };
        replies = λ id it reply r at forwarded there. subst (λ ns. IsReplyFor (number_in ns id) reply r) (sym one.requests) (rooted.replies id it reply r at forwarded (rw (← one.requests) there));
        watches = grind (arith, by_name, value_old, number_there, got_old, value_new, number_here, got_new);
        pays = rooted.pays;
        sleeper_pays = λ k y there mine.
            elim (was_got ss z y k there) [
              | inl old ↦ rooted.sleeper_pays k y old mine
              | inr last ↦ subst SleeperPays last.1 (record { unpaid = λ a b. ap (λ v. v.wakes_paid) one.shown; once = λ h. subst (λ m. m ≤ 1) (sym (ap (λ v. v.wakes_paid) one.shown)) (omega arith) })
            ];
        results = rooted.results;
        completions = λ c among. let was = rooted.completions c among in record { n = was.n; z = was.z; there = got_old ss z was.z was.n was.there; worker = was.worker; reply = was.reply; paid = was.paid };
        sent = rooted.sent;
        sleeper_sent = λ k y there mine.
            elim (was_got ss z y k there) [
              | inl old ↦ rooted.sleeper_sent k y old mine
              | inr last ↦
                  let none : completions_of k left ≡ 0 = none_of (λ (c : ForwardedResult Reply). is_of_timer k c.sender.of) left.notes.completions.items (λ c among.
                  let was = rooted.completions c among in
                  let under = slice_get_within ss was.n was.z was.there in
                  ap (λ (x : Reply). is_of_timer k x.of) was.reply ∙ not_same was.n k (λ same. absurd (omega (arith, under, same, last.0)))) in
                  let unsent : one_if y.sent ≡ 0 = ap (λ (v : SleeperRecord). one_if v.sent) (sym last.1) ∙ ap one_if one.unsent in
                  let stays : one_if (ends_elsewhere y) ≡ 0 = ap (λ (v : SleeperRecord). one_if (ends_elsewhere v)) (sym last.1) ∙ ap (λ v. one_if (is_applied v.forwarding && (v.fired || (v.removed || z.closed)))) one.shown in
                  omega (arith, none, unsent, stays)
            ];
      }
