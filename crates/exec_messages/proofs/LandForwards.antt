-- A message of the batch says that a task elsewhere waits for a sleeper: what the worker keeps of it, and what is told.
use Rattle.std.proofs.{Common.{◌≡◌, ℕ, zero, suc, ◌+◌, ◌^◌, ◌≤◌, ◌<◌, ◌==◌, ◌&&◌, ◌||◌, not, Bool, true, false, Contains, List, [], ◌∷◌, count_by, length, map, set, Option, Some, None, IsSome, Ok, inl, inr, refl, sym, ap, subst, ◌∙◌, arith, slice_get, slice_index_or, slice_set, if◌then◌else◌}, lemmas.{Bool.{false≢true, eq-eqb}, List.{append-nil, length-set, map-append, Elements.Contains-append_cases}}}
use Rattle.exec_base.{specs.{Slab.{IsPast, Slab, is_live, live_count, value_at, written}, declared.{slab.{Id.Id, Slot.{Slot, TheVariants.Live}}, task_no.TaskNo.TaskNo}}, proofs.Slots.{IsLiveAt-from_value, Updates-write, count-set, live_within, past-write}}
use Rattle.exec_time.specs.{Notes.Adds, Sleepers.completions_of, declared.{notes.ForwardedResult.ForwardedResult, timers.{Sleeper.Sleeper as Sleeping, Observer.Observer as sleep}}}
use Rattle.exec_machine.specs.Tests.{is_applied, is_asleep}
use Rattle.exec_moves.specs.{Slots.{is_in_slots, slot_of}, Told.{one_completion, told_of_timer_forward}, declared.handing.Heard.Heard}
use Rattle.exec_parts.{specs.{declared.parts.{mail.Reply.Reply, names.Names.Names, shared.Shared.Shared, sleeping.SleeperRecord.SleeperRecord, worker.Worker.Worker}, Calls.{sleeper_applied, IsTold}, MailTakes.{TakesForwardTimer, reply_for}, Records.number_in, View.{completions_in, desk_of, driver_of, number_heard, slots_from, slots_seen}}, proofs.Facts.{by_name, by_number, not_same, same_Some, set_elsewhere, set_there}}
use Rattle.exec_invariants.{specs.{Due.{AreAsleep, IsDue}, HoldPlaces.{has_wakes_at, is_bare_at}, Places.one_if, Rooted.{IsCompletion, IsRooted, SleeperPays, Watches, completions_of as sent_of, ends_elsewhere, is_of_timer}, Sound.served_in, Names.{HasWidth, IsNamed, tellers}}, proofs.{FiringNames.{naps_set, stands}, FiringRemoved.{slot_none, told_adds, wide_adds}, FiringSeen.{bed_named, one_bed}, FiringSlots.{alive_at, bed_in}, ServedEnds.{count_both, count_none, count_one, none_in, only_one}, ServingHolds.{KeepsSpare, KeepsWith}}}

-- its slot is written again
slots_kept : (k : ℕ) (numbers : List ℕ) (slots : List (Slot (Sleeping Reply))) (i g : ℕ) (o : Slot (Sleeping Reply)) (e : Sleeping Reply) → slice_get slots i ≡ Some o → is_live o ≡ true → slots_from k numbers (set slots i (Live g e)) ≡ slots_from k numbers slots
slots_kept k numbers [] i g o e there live = refl
slots_kept k numbers (x ∷ slots) zero g o e there live =
    ap (λ b. (if b then Some (slice_index_or numbers k 0) else None) ∷ slots_from (suc k) numbers slots) (sym (ap is_live (same_Some x o there) ∙ live))
slots_kept k numbers (x ∷ slots) (suc i) g o e there live = ap (λ xs. (if is_live x then Some (slice_index_or numbers k 0) else None) ∷ xs) (slots_kept (suc k) numbers slots i g o e there live)

live_kept : (zs : Slab (Sleeping Reply)) (id : Id) (it it' : Sleeping Reply) → value_at zs id ≡ Some it → live_count (written zs id it') ≡ live_count zs
live_kept zs id it it' at =
    let live = IsLiveAt-from_value zs.slots id.index id.generation zs.first (rw at refl) in
    let moved = count-set zs.slots id.index (Live id.generation it') (live_within zs.slots id.index id.generation live.value live.is) in
    omega (arith, rw live.is at moved)

-- THE SLAB: the same sleep there, and if that one does, it tells a task elsewhere
pub record Rewatches (i : ℕ) (n : Names) (k : ℕ) (z : SleeperRecord) (zs zs' : Slab (Sleeping Reply)) : Type 0 where
  pub was : (other : Id) (x' : Sleeping Reply) → value_at zs' other ≡ Some x' → (x : Sleeping Reply) × (value_at zs other ≡ Some x) × (x'.deadline ≡ x.deadline) × (k ≡ number_in n.timers.items other → x'.observer ≡ sleep.Forwarded (reply_for z.shown.task (Heard.Timer k))) × ((k ≡ number_in n.timers.items other → ⊥) → x'.observer ≡ x.observer)
  pub on : (other : Id) → IsSome (value_at zs other) → IsSome (value_at zs' other)
  pub live : live_count zs' ≡ live_count zs
  pub many : length zs'.slots ≡ length zs.slots
  pub slots : slots_seen n.timers.items zs' ≡ slots_seen n.timers.items zs
  pub past : (other : Id) → (IsPast zs' other → IsPast zs other) × (IsPast zs other → IsPast zs' other)

module _ {B : Type 0} (spare z : ℕ) (w v : Worker) (s s' : Shared B) (keeps : KeepsSpare (spare + 1) w s) (r : TakesForwardTimer z w v s s') (mine : r.it.shown.worker ≡ w.index) (unapplied : is_applied r.it.shown.forwarding ≡ false) where
  abbrev zs : Slab (Sleeping Reply)
  zs = w.home.timers

  abbrev ss : List SleeperRecord
  ss = s.sleepers.items

  abbrev it : SleeperRecord
  it = r.it

  abbrev now : SleeperRecord
  now = sleeper_applied r.it

  abbrev reply : Reply
  reply = reply_for r.it.shown.task (Heard.Timer z)

  deferred : v.home.deferred ≡ record w.home.deferred { notes = v.home.deferred.notes }
  deferred = ap (λ (x : Worker). x.home.deferred) r.forwards.worker

  short : length s.sleepers.items < 2 ^ 64
  short = omega (arith, s.sleepers.small, s.sleepers.ok.0)

  now_there : slice_get (slice_set s.sleepers.items z (sleeper_applied r.it)) z ≡ Some (sleeper_applied r.it)
  now_there = set_there ss z now it r.sleeper

  by_sleeper : {C : Type 0} (j : ℕ) (x : SleeperRecord) → slice_get (slice_set s.sleepers.items z (sleeper_applied r.it)) j ≡ Some x → (j ≡ z → sleeper_applied r.it ≡ x → C) → ((z ≡ j → ⊥) → slice_get s.sleepers.items j ≡ Some x → C) → C
  by_sleeper = grind (arith, by_number, set_elsewhere, same_Some, now_there)

  -- it was told to nobody elsewhere
  none_sent : sent_of z w.home.deferred + one_if r.it.sent ≡ 0
  none_sent = keeps.rooted.sleeper_sent z it r.sleeper mine ∙ ap (λ b. one_if (b && (r.it.shown.fired || (r.it.shown.removed || r.it.closed)))) unapplied

  paid : r.it.shown.wakes_paid ≤ 1
  paid = (keeps.rooted.sleeper_pays z it r.sleeper mine).once unapplied

  -- another's record has another number
  apart : (other : Id) → IsSome (value_at w.home.timers other) → z ≡ number_in w.names.timers.items other → r.it.id.0 ≡ other
  apart = grind arith

  -- what holds again, by the slab and by what is sent
  keeps_by : (cs : List (ForwardedResult Reply)) → Adds w.home.deferred.notes v.home.deferred.notes [] cs → Rewatches w.index w.names z r.it w.home.timers v.home.timers → length cs ≤ 1 → ((c : ForwardedResult Reply) → Contains cs c → c.sender ≡ reply_for r.it.shown.task (Heard.Timer z))
      → ((j : ℕ) → (z ≡ j → ⊥) → count_by (λ (c : ForwardedResult Reply). is_of_timer j c.sender.of) cs ≡ 0) → count_by (λ (c : ForwardedResult Reply). is_of_timer z c.sender.of) cs ≡ one_if (r.it.shown.fired || (r.it.shown.removed || r.it.closed)) → KeepsSpare spare v s'
  keeps_by cs adds slab few sends none here =
      let i = w.index in
      let n = w.names in
      let d = driver_of w in
      let rs = s.requests.items in
      let zs_then = v.home.timers in
      let ss' = slice_set ss z now in
      let left = w.home.deferred in
      let left' = v.home.deferred in
      let k = keeps in
      let wakes : v.home.deferred.notes.wakes.items ≡ w.home.deferred.notes.wakes.items = adds.wakes_added ∙ append-nil w.home.deferred.notes.wakes.items in
      let live = slab.live in
      let named : IsNamed i n d zs_then rs ss' = (
      let timers : (other : Id) → IsSome (value_at zs_then other) → (y : SleeperRecord) × (slice_get ss' (number_in n.timers.items other) ≡ Some y) × (y.id.0 ≡ other) × (y.shown.worker ≡ i) = λ other at.
      let old = k.named.timers other (before slab other at) in
      by_number (number_in n.timers.items other) z
      (λ differs. (old.0, set_elsewhere ss z (number_in n.timers.items other) now differs ∙ old.1, old.2, old.3))
      (λ e.
      let is : old.0 ≡ it = same_Some old.0 it (sym old.1 ∙ ap (slice_get ss) e ∙ r.sleeper) in
      (now, ap (slice_get ss') e ∙ now_there, ap (λ (y : SleeperRecord). y.id.0) (sym is) ∙ old.2, mine)) in
      assumption (timers, subst (λ m. m ≤ length n.timers.items) (sym slab.many) k.named.beds, k.named)) in
      let asleep : AreAsleep w.home.closing i n zs_then ss' = record {
        alike = λ other x y at found.
            let old = slab.was other x at in
            by_sleeper (number_in n.timers.items other) y found
            (λ e is.
            let a = k.due.asleep.alike other old.0 it old.1 (ap (slice_get ss) e ∙ r.sleeper) in
            record { until = ap (λ (u : SleeperRecord). u.shown.until) (sym is) ∙ a.until ∙ sym old.2; asleep = ap (λ (u : SleeperRecord). is_asleep i u.shown) (sym is) ∙ a.asleep; unclosed = ap (λ (u : SleeperRecord). u.closed) (sym is) ∙ a.unclosed })
            (λ unlike at_old.
            let a = k.due.asleep.alike other old.0 y old.1 at_old in
            record { until = a.until ∙ sym old.2; asleep = a.asleep; unclosed = a.unclosed });
        there = λ j y found sleeps unclosed.
            by_sleeper j y found
            (λ e is. subst (λ (u : SleeperRecord). IsSome (value_at zs_then u.id.0)) is
            (slab.on it.id.0 (k.due.asleep.there z it r.sleeper (ap (λ (u : SleeperRecord). is_asleep i u.shown) is ∙ sleeps) (ap (λ (u : SleeperRecord). u.closed) is ∙ unclosed))))
            (λ unlike old. slab.on y.id.0 (k.due.asleep.there j y old sleeps unclosed));
        named = λ j y found sleeps unclosed.
            by_sleeper j y found
            (λ e is. ap (λ (u : SleeperRecord). number_in n.timers.items u.id.0) (sym is) ∙ k.due.asleep.named z it r.sleeper (ap (λ (u : SleeperRecord). is_asleep i u.shown) is ∙ sleeps) (ap (λ (u : SleeperRecord). u.closed) is ∙ unclosed) ∙ sym e)
            (λ unlike old. k.due.asleep.named j y old sleeps unclosed);
        lets_go = λ j y found its closed.
            by_sleeper j y found
            (λ e is. k.due.asleep.lets_go z it r.sleeper mine (ap (λ (u : SleeperRecord). u.closed) is ∙ closed))
            (λ unlike old. k.due.asleep.lets_go j y old its closed);
        counted = λ other past. subst (λ m. other.generation < m) (sym (length-set ss z now)) (k.due.asleep.counted other ((slab.past other).0 past));
        names = naps_set i zs zs_then ss z it now r.sleeper refl refl (λ other. (slab.past other).1) k.due.asleep.names;
      } in
      let w1 : Worker = record w { home = record w.home { timers = v.home.timers; deferred = record w.home.deferred { notes = v.home.deferred.notes } } } in
      let due : IsDue (served_in w.place) w.home.closing i w.moments s.config n d zs_then rs ss' = assumption (asleep, k.due) in
      let watches : (other : Id) (x : Sleeping Reply) (y : SleeperRecord) → value_at zs_then other ≡ Some x → slice_get ss' (number_in n.timers.items other) ≡ Some y → Watches (number_in n.timers.items other) x.observer y = λ other x y at found.
      let old = slab.was other x at in
      by_sleeper (number_in n.timers.items other) y found
      (λ e is. subst (λ u. Watches (number_in n.timers.items other) x.observer u) is
      (subst (λ o. Watches (number_in n.timers.items other) o now) (sym (old.3 (sym e))) (ap (λ m. reply_for r.it.shown.task (Heard.Timer m)) (sym e), refl)))
      (λ unlike at_old. subst (λ o. Watches (number_in n.timers.items other) o y) (sym (old.4 unlike)) (k.rooted.watches other old.0 y old.1 at_old)) in
      let sleeper_pays : (j : ℕ) (y : SleeperRecord) → slice_get ss' j ≡ Some y → y.shown.worker ≡ i → SleeperPays y = λ j y at its.
      by_sleeper j y at
      (λ e is. subst SleeperPays is (record { unpaid = (k.rooted.sleeper_pays z it r.sleeper mine).unpaid; once = λ free. absurd (false≢true (sym free)) }))
      (λ unlike old. k.rooted.sleeper_pays j y old its) in
      let completions : (c : ForwardedResult Reply) → Contains left'.notes.completions.items c → IsCompletion i c ss' = λ c among.
      elim (Contains-append_cases left.notes.completions.items cs c (subst (λ xs. Contains xs c) adds.completions_added among)) [
        | inl old ↦ end_old c (k.rooted.completions c old)
        | inr new ↦ record { n = z; z = now; there = now_there; worker = mine; reply = sends c new; paid = paid }
      ] in
      let sleeper_sent : (j : ℕ) (y : SleeperRecord) → slice_get ss' j ≡ Some y → y.shown.worker ≡ i → sent_of j left' + one_if y.sent ≡ one_if (ends_elsewhere y) = λ j y at its.
      by_sleeper j y at
      (λ e is.
      let sum = counted j in
      let more : count_by (λ (c : ForwardedResult Reply). is_of_timer j c.sender.of) cs ≡ one_if (r.it.shown.fired || (r.it.shown.removed || r.it.closed)) = ap (λ m. count_by (λ (c : ForwardedResult Reply). is_of_timer m c.sender.of) cs) e ∙ here in
      let was : sent_of j w.home.deferred + one_if r.it.sent ≡ 0 = ap (λ m. sent_of m w.home.deferred + one_if r.it.sent) e ∙ none_sent in
      let still : one_if y.sent ≡ one_if r.it.sent = ap (λ (u : SleeperRecord). one_if u.sent) (sym is) in
      let ends : one_if (ends_elsewhere y) ≡ one_if (r.it.shown.fired || (r.it.shown.removed || r.it.closed)) = ap (λ (u : SleeperRecord). one_if (ends_elsewhere u)) (sym is) in
      omega (arith, sum, more, was, still, ends))
      (λ unlike old.
      let sum = counted j in
      let zero_of = none j unlike in
      let was = k.rooted.sleeper_sent j y old its in
      omega (arith, sum, zero_of, was)) in
      let rooted : IsRooted i n d zs_then w1.home.deferred rs ss' = assumption (watches, sleeper_pays, completions, sleeper_sent, k.rooted) in
      let quiet : has_wakes_at w.place ≡ false → left'.notes.wakes.items ≡ [] = λ h. wakes ∙ k.quiet h in
      let bare : is_bare_at w.place ≡ true → live_count zs_then ≡ 0 = λ h. live ∙ k.bare h in
      let by : KeepsWith spare w1 d zs_then rs ss' s =
      assumption (
        subst (λ x. IsTold n.ended.items x (tellers d.requests zs_then + spare)) deferred
            (told_adds n.ended.items left left' (tellers d.requests zs + (spare + 1)) (tellers d.requests zs_then + spare) [] cs deferred adds (omega (arith, live)) (omega (arith, live, few)) k.told),
        subst (λ x. HasWidth x (tellers d.requests zs_then + 64)) deferred (wide_adds left left' (tellers d.requests zs + 64) (tellers d.requests zs_then + 64) [] cs deferred adds (omega (arith, live)) k.wide),
        named,
        quiet,
        rooted,
        bare,
        due,
        k,
      ) in
      let by_worker : KeepsWith spare v (driver_of v) v.home.timers rs s'.sleepers.items s =
      subst (λ x. KeepsWith spare x (driver_of x) x.home.timers rs s'.sleepers.items s) (sym r.forwards.worker)
      (subst (λ xs. KeepsWith spare w1 d zs_then rs xs s) (sym (r.sleepers ∙ ap (slice_set ss z) r.forwards.is)) by) in
      subst (λ y. KeepsWith spare v (driver_of v) v.home.timers y.requests.items y.sleepers.items y) (sym r.kept) (assumption by_worker)
    where
      before : Rewatches w.index w.names z r.it w.home.timers v.home.timers → (other : Id) → IsSome (value_at v.home.timers other) → IsSome (value_at w.home.timers other)
      before slab other live = by (value_at v.home.timers other) refl live
        where
          by : (o : Option (Sleeping Reply)) → value_at v.home.timers other ≡ o → IsSome o → IsSome (value_at w.home.timers other)
          by None at some = absurd (false≢true some)
          by (Some x) at some = rw (slab.was other x at).1 refl

      counted : (j : ℕ) → sent_of j v.home.deferred ≡ sent_of j w.home.deferred + count_by (λ (c : ForwardedResult Reply). is_of_timer j c.sender.of) cs
      counted j = ap (count_by (λ (c : ForwardedResult Reply). is_of_timer j c.sender.of)) adds.completions_added ∙ count_both (λ (c : ForwardedResult Reply). is_of_timer j c.sender.of) w.home.deferred.notes.completions.items cs

      end_old : (c : ForwardedResult Reply) → IsCompletion w.index c ss → IsCompletion w.index c (slice_set ss z now)
      end_old c old =
          by_number old.n z
          (λ differs. record { n = old.n; z = old.z; there = set_elsewhere ss z old.n now differs ∙ old.there; worker = old.worker; reply = old.reply; paid = old.paid })
          (λ e.
          let is : old.z ≡ it = same_Some old.z it (sym old.there ∙ ap (slice_get ss) e ∙ r.sleeper) in
          record { n = old.n; z = now; there = ap (slice_get (slice_set ss z now)) e ∙ now_there; worker = mine; reply = old.reply ∙ ap (λ (y : SleeperRecord). record { task = record { 0 = y.shown.task }; of = Heard.Timer old.n }) is; paid = paid })

  -- WHERE IT HAS A BED

  module _ (bed : Sleeping Reply) (was : value_at w.home.timers r.it.id.0 ≡ Some bed) where
    abbrev id : Id
    id = r.it.id.0

    abbrev told_bed : Sleeping Reply
    told_bed = record bed { observer = sleep.Forwarded (reply_for r.it.shown.task (Heard.Timer z)) }

    some : IsSome (value_at w.home.timers r.it.id.0)
    some = rw was refl

    tells : (v.home.timers ≡ written w.home.timers r.it.id.0 (record bed { observer = sleep.Forwarded (reply_for r.it.shown.task (Heard.Timer z)) })) × Adds w.home.deferred.notes v.home.deferred.notes [] []
    tells = r.forwards.asleep bed was

    number : number_in w.names.timers.items r.it.id.0 ≡ z
    number = stands w.index w.names (driver_of w) w.home.timers s.requests.items s.sleepers.items keeps.named keeps.due.asleep.names z r.it r.sleeper mine some

    sleeps_on : (r.it.shown.fired || (r.it.shown.removed || r.it.closed)) ≡ false
    sleeps_on =
        let a = keeps.due.asleep.alike r.it.id.0 bed r.it was (ap (slice_get s.sleepers.items) number ∙ r.sleeper) in
        by (r.it.shown.worker == w.index) r.it.shown.fired r.it.shown.removed r.it.closed a.asleep a.unclosed
      where
        by : (a f r c : Bool) → ((a && not f) && not r) ≡ true → c ≡ false → (f || (r || c)) ≡ false
        by true true r c h u = absurd (false≢true h)
        by true false true c h u = absurd (false≢true h)
        by true false false c h u = u
        by false f r c h u = absurd (false≢true h)

    slab : Rewatches w.index w.names z r.it w.home.timers v.home.timers
    slab =
        let map = Updates-write zs id told_bed some in
        subst (λ x. Rewatches w.index w.names z r.it zs x) (sym tells.0) (record {
          was = λ other x at.
              by_name other id
              (λ differs. let old : value_at zs other ≡ Some x = sym (map.others other differs) ∙ at in (x, old, refl, λ e. absurd (differs (sym (apart other (rw old refl) e))), λ unlike. refl))
              (λ e.
              let is : told_bed ≡ x = same_Some told_bed x (sym map.changed ∙ ap (value_at (written zs id told_bed)) (sym e) ∙ at) in
              (bed, ap (value_at zs) e ∙ was, ap (λ (y : Sleeping Reply). y.deadline) (sym is), λ n. ap (λ (y : Sleeping Reply). y.observer) (sym is), λ unlike. absurd (unlike (sym number ∙ ap (number_in w.names.timers.items) (sym e)))));
          on = λ other live. by_name other id (λ differs. subst IsSome (sym (map.others other differs)) live) (λ e. rw (ap (value_at (written zs id told_bed)) e ∙ map.changed) refl);
          live = live_kept zs id bed told_bed was;
          many = length-set zs.slots id.index (Live id.generation told_bed);
          slots = ap (λ xs. record { held = xs; vacant = zs.vacant }) (slots_kept 0 w.names.timers.items zs.slots id.index id.generation (Live id.generation bed) told_bed (alive_at zs id bed was) refl);
          past = λ other. (let both = past-write zs id told_bed some other in (both.0, both.1));
        })

    keeps_bed : KeepsSpare spare v s'
    keeps_bed =
        keeps_by [] tells.1 slab (omega arith) (λ c among. absurd (none_in c among)) (λ j unlike. count_none (λ (c : ForwardedResult Reply). is_of_timer j c.sender.of))
        (count_none (λ (c : ForwardedResult Reply). is_of_timer z c.sender.of) ∙ sym (ap one_if sleeps_on))

    desk_bed : desk_of v ≡ told_of_timer_forward z (desk_of w)
    desk_bed =
        let d0 = desk_of w in
        let bed_of = one_bed w.index w.names (driver_of w) zs s.requests.items ss keeps.named w.home.closing keeps.due.asleep short id bed was in
        let among : is_in_slots z d0.timers ≡ true = ap (λ m. is_in_slots m d0.timers) (sym number) ∙ bed_in w.names.timers.items zs id bed_of in
        ap desk_of r.forwards.worker
        ∙ ap (λ ts. record d0 { wakes = map (λ t. t.0) v.home.deferred.notes.wakes.items; completions = completions_in v.home.deferred.notes.completions.items; timers = ts }) slab.slots
        ∙ ap (λ ws. record d0 { wakes = map (λ (t : TaskNo). t.0) ws; completions = completions_in v.home.deferred.notes.completions.items }) (tells.1.wakes_added ∙ append-nil w.home.deferred.notes.wakes.items)
        ∙ ap (λ cs. record d0 { completions = completions_in cs }) (tells.1.completions_added ∙ append-nil w.home.deferred.notes.completions.items)
        ∙ sym (ap (λ b. if b then d0 else one_completion z d0) among)

  -- WHERE IT HAS NONE

  module _ (none : value_at w.home.timers r.it.id.0 ≡ None) where
    tells_now : (v.home.timers ≡ w.home.timers) × Adds w.home.deferred.notes v.home.deferred.notes [] (completions_of (Ok tt) (sleep.Forwarded (reply_for r.it.shown.task (Heard.Timer z))))
    tells_now = r.forwards.gone none

    nobody : IsSome (value_at w.home.timers r.it.id.0) → ⊥
    nobody live = false≢true (sym (ap is_some_in none) ∙ live)
      where
        is_some_in : Option (Sleeping Reply) → Bool
        is_some_in None = false
        is_some_in (Some x) = true

    -- it is over
    ends_now : (r.it.shown.fired || (r.it.shown.removed || r.it.closed)) ≡ true
    ends_now = by r.it.shown.fired r.it.shown.removed r.it.closed refl refl refl
      where
        by : (f r' c : Bool) → r.it.shown.fired ≡ f → r.it.shown.removed ≡ r' → r.it.closed ≡ c → (f || (r' || c)) ≡ true
        by true r' c fired removed closed = refl
        by false true c fired removed closed = refl
        by false false true fired removed closed = refl
        by false false false fired removed closed =
            let here : is_asleep w.index r.it.shown ≡ true =
            ap (λ b. (b && not r.it.shown.fired) && not r.it.shown.removed) (eq-eqb r.it.shown.worker w.index mine) ∙ ap (λ b. (true && not b) && not r.it.shown.removed) fired ∙ ap (λ b. (true && not false) && not b) removed in
            absurd (nobody (keeps.due.asleep.there z r.it r.sleeper here closed))

    slab_none : Rewatches w.index w.names z r.it w.home.timers v.home.timers
    slab_none =
        subst (λ x. Rewatches w.index w.names z r.it zs x) (sym tells_now.0) (record {
          was = λ other x at. (x, at, refl, λ e. absurd (nobody (subst (λ i. IsSome (value_at zs i)) (sym (apart other (rw at refl) e)) (rw at refl))), λ unlike. refl);
          on = λ other live. live;
          live = refl;
          many = refl;
          slots = refl;
          past = λ other. (λ past. past, λ past. past);
        })

    keeps_none : KeepsSpare spare v s'
    keeps_none =
        let made : ForwardedResult Reply = record { sender = reply; result = Ok tt } in
        keeps_by (made ∷ []) tells_now.1 slab_none (omega arith) (λ c among. ap (λ (x : ForwardedResult Reply). x.sender) (sym (only_one made c among)))
        (λ j unlike. count_one (λ (c : ForwardedResult Reply). is_of_timer j c.sender.of) made false (not_same z j unlike))
        (count_one (λ (c : ForwardedResult Reply). is_of_timer z c.sender.of) made true (eq-eqb z z refl) ∙ sym (ap one_if ends_now))

    desk_none : desk_of v ≡ told_of_timer_forward z (desk_of w)
    desk_none =
        let d0 = desk_of w in
        let numbers = w.names.timers.items in
        let slot : slot_of z 0 (slots_from 0 numbers w.home.timers.slots) ≡ None =
        slot_none z 0 numbers w.home.timers.slots
        (λ j x at alive same.
        let a = bed_named w.index w.names (driver_of w) zs s.requests.items ss keeps.named j x at alive in
        let number : number_in numbers a.0 ≡ z = ap (λ m. slice_index_or numbers m 0) (let e : a.0.index ≡ 0 + j = (let is = a.3 in omega (arith, is)) in e) ∙ same in
        nobody (subst (λ i. IsSome (value_at zs i)) (sym (apart a.0 (rw a.2 refl) (sym number))) (rw a.2 refl))) in
        let among : is_in_slots z d0.timers ≡ false = rw slot refl in
        let made : ForwardedResult Reply = record { sender = reply; result = Ok tt } in
        ap desk_of r.forwards.worker
        ∙ ap (λ ts. record d0 { wakes = map (λ t. t.0) v.home.deferred.notes.wakes.items; completions = completions_in v.home.deferred.notes.completions.items; timers = ts }) (ap (slots_seen numbers) tells_now.0)
        ∙ ap (λ ws. record d0 { wakes = map (λ (t : TaskNo). t.0) ws; completions = completions_in v.home.deferred.notes.completions.items }) (tells_now.1.wakes_added ∙ append-nil w.home.deferred.notes.wakes.items)
        ∙ ap (λ cs. record d0 { completions = cs }) (ap completions_in tells_now.1.completions_added ∙ map-append (λ (c : ForwardedResult Reply). number_heard c.sender.of) w.home.deferred.notes.completions.items (made ∷ []))
        ∙ sym (ap (λ b. if b then d0 else one_completion z d0) among)

  -- BOTH

  by_bed : {P : Type 0} → (value_at w.home.timers r.it.id.0 ≡ None → P) → ((bed : Sleeping Reply) → value_at w.home.timers r.it.id.0 ≡ Some bed → P) → P
  by_bed = grind arith

  pub forwarded_kept : KeepsSpare spare v s'
  forwarded_kept = by_bed keeps_none keeps_bed

  pub forwarded_desk : desk_of v ≡ told_of_timer_forward z (desk_of w)
  forwarded_desk = by_bed desk_none desk_bed

  pub forwarded_wakes : v.home.deferred.notes.wakes.items ≡ w.home.deferred.notes.wakes.items
  forwarded_wakes =
      let same = append-nil w.home.deferred.notes.wakes.items in
      by_bed (λ none. (r.forwards.gone none).1.wakes_added ∙ same) (λ bed was. (r.forwards.asleep bed was).1.wakes_added ∙ same)
