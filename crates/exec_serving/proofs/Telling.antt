-- A sleeper that is told at the end of a service is the one that the machine tells.
use Rattle.std.proofs.{Common.{◌≡◌, ◌≢◌, ◌⊎◌, ⊎_elim, ℕ, ◌+◌, ◌^◌, ◌<◌, ◌≤◌, Bool, true, false, not, List, length, Option, Some, None, IsSome, is_some, Ok, refl, sym, ap, subst, ◌∙◌, arith, slice_get, slice_set, nat_le, nat_lt, if◌then◌else◌}, lemmas.{Bool.false≢true, List.{map-set, length-set}}}
use Rattle.exec_base.{specs.{Slab.{IsPast, Slab, value_at, live_count, removed, freed, is_live}, declared.{slab.{Slot.TheVariants.{Vacant, Retired}, Id.Id}, task_no.TaskNo.TaskNo}}, proofs.Slots.{IsLiveAt-from_value, count-set, live_within}}
use Rattle.exec_time.specs.{declared.timers.{Sleeper.Sleeper as Sleeping, Observer.Observer as sleep}, Sleepers.{Ends, IsFirst}}
use Rattle.exec_task.specs.declared.body.Said.{Said}
use Rattle.exec_machine.specs.{declared.{event.Event.{Event, TheVariants.Fire}, state.Sleeper.Sleeper}, Deadlines.is_none_earlier, Tests.{is_asleep, is_open}, World.{seat_of, sleeper_of}}
use Rattle.exec_moves.specs.{Serve.{first_to_fire, is_to_fire}, Slots.first_in, Told.told_of_fire, declared.place.{AfterService.AfterService, Service.Service, Place.Place, InService.InService}}
use Rattle.exec_parts.specs.{declared.parts.{mail.Reply.Reply, names.Names.Names, shared.Shared.Shared, sleeping.SleeperRecord.SleeperRecord, worker.Worker.Worker}, Phased.closes_at, Records.number_in, Calls.IsTold, Spots.Spot, View.{common_of, desk_of, driver_of, own_of, things_with, visible}}
use Rattle.exec_invariants.{specs.{Due.IsDue, HoldPlaces.{has_wakes_at, is_bare_at}, Places.passes_at, Rooted.{IsRooted, Watches}, Names.{HasWidth, IsNamed, tellers}, Sound.{SoundAt, served_in}, Works.Steps}, proofs.{Fired.{asleep_still, fires, le-leb, other_there}, FiringNames.removed_past, FiringSeen.{desk_fired, earliest, is_first, not_before, one_bed, until}, FiringSlots.{OneBed, first_is}, Seats.own_seat, Seen.sleeper_at, Seeing.{makes, served, things_kept}, ServingHolds.{IsServed, Keeps, KeepsBy, OthersKept, Serves, serves_to}, Serving.{SparesRecords, at_large, kept, spares_sleeper}, ServingPlaces.calm, Turning.view_found}}
use Rattle.exec_serving.proofs.{FiringHolds.balances_fired, FiringRooted.{rooted_fired, told_less, unpaid, unsent, wide_less}}

-- A SLEEPER IS TOLD

-- of a fired sleeper's worker and record
pub record HasFired {B : Type 0} (w w' : Worker) (s s' : Shared B) (id : Id) : Type 0 where
  pub deadline : ℕ
  pub due : deadline ≤ w.moments.sampled
  pub first : IsFirst w.home.timers deadline id
  pub ends : Ends w.home.timers w'.home.timers w'.home.deferred.notes w.home.deferred.notes id (Ok tt)
  pub worker : w' ≡ record w { home = record w.home { timers = w'.home.timers; deferred = record w.home.deferred { notes = w'.home.deferred.notes } } }
  pub sleepers : (z : SleeperRecord) → slice_get s.sleepers.items (number_in w.names.timers.items id) ≡ Some z → s'.sleepers.items ≡ slice_set s.sleepers.items (number_in w.names.timers.items id) (fires z)
  pub shared : s' ≡ record s { sleepers = s'.sleepers }
  pub few : length s.sleepers.items < 2 ^ 64

one_less : (zs zs' : Slab (Sleeping Reply)) (id : Id) (it : Sleeping Reply) → value_at zs id ≡ Some it → zs' ≡ removed zs id → live_count zs' + 1 ≡ live_count zs
one_less zs zs' id it at is =
    let live = IsLiveAt-from_value zs.slots id.index id.generation zs.first (rw at refl) in
    let moved = count-set zs.slots id.index (freed id.generation) (live_within zs.slots id.index id.generation live.value live.is) in
    let counted : live_count (removed zs id) + 1 ≡ live_count zs = omega (arith, rw (live.is, dead id.generation) at moved) in
    ap (λ x. live_count x + 1) is ∙ counted
  where
    dead : (g : ℕ) → is_live {T = Sleeping Reply} (freed g) ≡ false
    dead g = elim (nat_lt (g + 1) (2 ^ 64)) as (λ b. is_live {T = Sleeping Reply} (if b then Vacant (g + 1) else Retired) ≡ false) [ true ↦ refl | false ↦ refl ]

-- who sleeps hasn't fired and isn't removed
awake_not : (i : ℕ) (z : Sleeper) → is_asleep i z ≡ true → (z.fired ≡ false) × (z.removed ≡ false)
awake_not = grind arith

apart_timer : (n : Names) (ss : List SleeperRecord) (k : ℕ) (id other : Id) (z y : SleeperRecord) → slice_get ss k ≡ Some z → slice_get ss (number_in n.timers.items other) ≡ Some y → z.id.0 ≡ id → y.id.0 ≡ other → other ≢ id → k ≡ number_in n.timers.items other → ⊥
apart_timer = grind arith

-- a service of a worker that doesn't close, or of one where nobody sleeps
opens_by : (x : AfterService) (d : Bool) → (is_bare_at (Place.Service InService.EndService (record { defer = d; back = x })) ≡ true) ⊎ (closes_at (Place.Service InService.EndService (record { defer = d; back = x })) ≡ false)
opens_by = grind arith

opens_so : (x : AfterService) (d : Bool) → (is_bare_at (Place.Service InService.EndService (record { defer = d; back = x })) ≡ true → ⊥) → closes_at (Place.Service InService.EndService (record { defer = d; back = x })) ≡ false
opens_so x d unbare = ⊎_elim (λ bare. absurd (unbare bare)) (λ opens. opens) (opens_by x d)

module _ {B L : Type 0} (left : B → L) (spot : L → Option Said → Spot) where
  pub sleeper_fired : (v : Service) (w w' : Worker) (s s' : Shared B) (e : Event) (id : Id) → SoundAt (Place.Service InService.EndService v) w s → e ≡ Fire (number_in w.names.timers.items id) → HasFired w w' s s' id → Steps left spot w s e w' s'
  sleeper_fired v w w' s s' e id sound event it =
      let q : Place = Place.Service InService.EndService v in
      let i = w.index in
      let d = driver_of w in
      let n = w.names in
      let k = number_in w.names.timers.items id in
      let zs = w.home.timers in
      let zs' = w'.home.timers in
      let rs = s.requests.items in
      let ss = s.sleepers.items in
      let ends = it.ends in
      let o = ends.sleeper.observer in
      let live : IsSome (value_at zs id) = rw ends.was refl in
      let found = sound.named.timers id live in
      let z = found.0 in
      let asleep = sound.due.asleep.alike id ends.sleeper z ends.was found.1 in
      let awake = awake_not i z.shown asleep.asleep in
      let ss' = slice_set ss k (fires z) in
      let items : s'.sleepers.items ≡ ss' = it.sleepers z found.1 in
      let deferred : w'.home.deferred ≡ record w.home.deferred { notes = w'.home.deferred.notes } = ap (λ (x : Worker). x.home.deferred) it.worker in
      let fewer : live_count zs' + 1 ≡ live_count zs = one_less zs zs' id ends.sleeper ends.was ends.is in
      let total : tellers d.requests zs + 64 ≡ (tellers d.requests zs' + 64) + 1 = omega (arith, fewer) in
      let apart : (other : Id) → IsSome (value_at zs other) → other ≢ id → k ≡ number_in n.timers.items other → ⊥ = λ other h differs.
      let old = sound.named.timers other h in
      apart_timer n ss k id other z old.0 found.1 old.1 found.2 old.2 differs in
      let timers : (other : Id) → IsSome (value_at zs' other) → (y : SleeperRecord) × (slice_get ss' (number_in n.timers.items other) ≡ Some y) × (y.id.0 ≡ other) × (y.shown.worker ≡ i) = λ other h.
      let differs : other ≢ id = λ same. false≢true (ap is_some (sym (ap (value_at zs') same ∙ ends.gone.changed)) ∙ h) in
      let before : IsSome (value_at zs other) = rw (← ends.gone.others other differs) h in
      let old = sound.named.timers other before in
      (old.0, other_there ss k (number_in n.timers.items other) z found.1 (apart other before differs) ∙ old.1, old.2, old.3) in
      let named : IsNamed i n d zs' rs ss' =
      record { requests = sound.named.requests; timers = timers; alike = sound.named.alike; over = sound.named.over; submitted = sound.named.submitted; slots = sound.named.slots; beds = rw (ends.is, length-set) sound.named.beds } in
      let bed : OneBed n.timers.items zs id = one_bed i n d zs rs ss sound.named w.home.closing sound.due.asleep it.few id ends.sleeper ends.was in
      let small : id.generation < 2 ^ 64 = omega (arith, bed.low) in
      let back = λ (other : Id). subst (λ x. IsPast x other → IsPast zs other) (sym ends.is) (removed_past zs id live small other).0 in
      let on = λ (other : Id). subst (λ x. IsPast zs other → IsPast x other) (sym ends.is) (removed_past zs id live small other).1 in
      let due = sound.due in
      let ks = kept q w s sound (calm q refl) in
      let free = unpaid i n d zs zs' w.home.deferred w'.home.deferred rs ss id ends.sleeper z sound.rooted ends.was ends.gone.others ends.gone.changed found.1 found.3 awake.0 awake.1 asleep.unclosed apart deferred ends.notes in
      let still = unsent i n d zs zs' w.home.deferred w'.home.deferred rs ss id ends.sleeper z sound.rooted ends.was ends.gone.others ends.gone.changed found.1 found.3 awake.0 awake.1 asleep.unclosed apart deferred ends.notes in
      let watching : Watches k o z = sound.rooted.watches id ends.sleeper z ends.was found.1 in
      let w1 : Worker = record w { home = record w.home { timers = zs'; deferred = record w.home.deferred { notes = w'.home.deferred.notes } } } in
      let by : KeepsBy w1 d zs' rs ss' s = record {
        told = subst (λ x. IsTold n.ended.items x (tellers d.requests zs' + 64)) deferred
            (told_less n.ended.items w.home.deferred w'.home.deferred (tellers d.requests zs' + 64) o deferred ends.notes (subst (IsTold n.ended.items w.home.deferred) total ks.told));
        wide = subst (λ x. HasWidth x (tellers d.requests zs' + 64)) deferred (wide_less w.home.deferred w'.home.deferred (tellers d.requests zs' + 64) o deferred ends.notes (subst (HasWidth w.home.deferred) total ks.wide));
        named = named;
        sized = ks.sized;
        over = ks.over;
        quiet = λ h. absurd (false≢true (sym (ap has_wakes_at (sym sound.here) ∙ h)));
        due = subst (λ p. IsDue (served_in p) w.home.closing i w.moments s.config n d zs' rs ss') (sym sound.here)
            (record { punctual = due.punctual; told = due.told; wheel = due.wheel; timed = due.timed; asleep = asleep_still i n zs zs' ss id z due.asleep found.1 found.2 ends.gone.others ends.gone.changed apart back on; order = due.order });
        flown = ks.flown;
        carried = ks.carried;
        known = ks.known;
        rooted = subst (λ x. IsRooted i n d zs' x rs ss') deferred
            (rooted_fired i n d zs zs' w.home.deferred w'.home.deferred rs ss id ends.sleeper z sound.rooted ends.was ends.gone.others ends.gone.changed found.1 found.3 awake.0 awake.1 asleep.unclosed apart deferred ends.notes);
        bare = λ h. (let none = ks.bare h in omega (arith, none, fewer));
      } in
      let by_worker : KeepsBy w' (driver_of w') w'.home.timers rs s'.sleepers.items s =
      subst (λ x. KeepsBy x (driver_of x) x.home.timers rs s'.sleepers.items s) (sym it.worker)
      (subst (λ xs. KeepsBy w1 d zs' rs xs s) (sym items) by) in
      let keeps : Keeps w' s' = subst (λ y. KeepsBy w' (driver_of w') w'.home.timers y.requests.items y.sleepers.items y) (sym it.shared) (assumption by_worker) in
      let there : w'.place ≡ q = ap (λ x. x.place) it.worker ∙ sound.here in
      let serves : Serves q w w' s s' = serves_to q q w w' s s' (subst (IsServed w) (sym it.worker) refl) (subst (OthersKept s) (sym it.shared) refl) there (record { from = refl; to = refl; serves = refl; armed = refl; closes = refl; wakes = refl; moment = λ m. refl; searches = refl; published = refl; bare = refl; batch = λ ms h. h }) in
      let seen : visible w' ≡ visible w = ap visible it.worker in
      let requests : s'.requests.items ≡ rs = ap (λ (y : Shared B). y.requests.items) it.shared in
      let spares : SparesRecords i s s' = spares_sleeper i s s' k z (fires z) sound.gates requests items (ap (λ (y : Shared B). y.opens) it.shared) found.1 found.3 (record { worker = refl; forwarded = λ h. h }) refl in
      let task : (t : TaskNo) → o ≡ sleep.Local t → t ≡ record { 0 = z.shown.task } = λ t is. (subst (λ x. Watches k x z) is watching).0 in
      let balances = balances_fired q w w' s s' k z o sound.here serves spares (ap passes_at there) found.1 found.3 awake.0 awake.1 asleep.unclosed free still requests items task ends.notes.wakes_added in
      let w0 : Worker = record w { place = q } in
      let phased = sound.phased sound.seated.seat sound.seated.there in
      let going : w.home.closing ≡ false = phased.told ∙ opens_so v.back v.defer (λ bare. (let none = ks.bare (ap is_bare_at sound.here ∙ bare) in omega (arith, none, fewer))) in
      subst (λ x. Steps left spot w s x w' s') (sym event)
      (served left spot q w w' s s' (Fire k) sound serves keeps spares balances
      (λ p vs suits.
      let all = common_of left spot p vs s in
      let me = own_of w0 in
      let d0 = desk_of w0 in
      let sleeper : sleeper_of all k ≡ z.shown = sleeper_at ss k z found.1 in
      let seat = own_seat left spot p vs w s sound.seated.seat suits sound.seated.there in
      let opened : is_open (seat_of all i).phase ≡ true = ap (λ x. is_open x.phase) seat ∙ phased.opened ∙ ap not (sym phased.told ∙ going) in
      let when = until i w.home.closing going n d zs rs ss sound.named sound.due.asleep it.deadline id it.first ends.sleeper ends.was z found.1 in
      let until_then : z.shown.until ≤ w.moments.sampled = (let before = it.due in omega (arith, when, before)) in
      let least = earliest i w.home.closing going n d zs rs ss sound.named sound.due.asleep it.deadline id it.first ends.sleeper ends.was z found.1 in
      let first : first_to_fire i me all d0 ≡ Some k =
      ap (λ b. if b then first_in (is_to_fire i me all) d0.timers.held else None) opened
      ∙ first_is (is_to_fire i me all) n.timers.items zs id ends.sleeper ends.was
      (is_first i w.home.closing going n d zs rs ss sound.named sound.due.asleep it.deadline id it.first ends.sleeper ends.was z found.1 me all refl it.due)
      (not_before i w.home.closing going n d zs rs ss sound.named sound.due.asleep it.deadline id it.first ends.sleeper ends.was z found.1 me all refl) in
      let desk : desk_of w' ≡ told_of_fire k z.shown d0 = grind (arith, it.worker, sound.here, ends.is, desk_fired d0 n.timers.items zs w.home.deferred w'.home.deferred id z bed refl refl refl o watching ends.notes) in
      record {
        moves =
            rw (first, sleeper)
            (ap (λ x. makes (Fire k) x (things_with vs s)) (sym desk)
            ∙ ap (makes (Fire k) (desk_of w')) (sym (things_kept vs i (visible w) (visible w') s s' suits.seen (ap (λ y. y.wakes) seen) serves.shared spares)));
        may =
            (at_large q w s sound refl, (opened, (ap (is_asleep i) sleeper ∙ asleep.asleep, (ap (λ y. nat_le y.until me.sampled) sleeper ∙ le-leb z.shown.until w.moments.sampled until_then, (ap (λ y. is_none_earlier i y.until all.sleepers) sleeper ∙ least, tt)))));
        own = ap own_of it.worker ∙ ap own_of (ap (λ x. record w { place = x }) sound.here);
        common = grind (arith, seen, it.shared, items, sleeper, view_found, map-set);
      }))
