-- The sleepers of a worker that has ended: each that it let go as it closed counts as removed already, so what tasks hold, and
-- what others rely on, says the same of each.
use Rattle.std.proofs.{Common.{◌≡◌, ◌≢◌, ℕ, suc, ◌+◌, ◌<◌, ◌≤◌, ◌&&◌, ◌||◌, true, false, Contains, List, [], ◌∷◌, length, map, option_map, Some, None, IsSome, refl, sym, ap, subst, ◌∙◌, arith, slice_get, if◌then◌else◌}, lemmas.{Bool.false≢true, List.length-map, Option.slice_get-map}}
use Rattle.exec_base.specs.{Slab.value_at, declared.slab.Id.Id}
use Rattle.exec_time.specs.declared.timers.Sleeper.{Sleeper as Sleeping}
use Rattle.exec_machine.specs.{Closing.gone_with, Tests.{is_applied, is_asleep, is_unsent}}
use Rattle.exec_moves.specs.declared.{handing.Heard.Heard, place.{InClosing.InClosing, Place.Place}}
use Rattle.exec_parts.{specs.{declared.parts.{mail.Reply.Reply, shared.Shared.Shared, sleeping.SleeperRecord.SleeperRecord, worker.Worker.Worker}, Calls.{sleeper_gone_with, sleeper_removed}, Records.number_in, View.{driver_of, numbers_of_passing}}, proofs.Facts.not_same}
use Rattle.exec_invariants.{specs.{Due.{AreAsleep, IsDue}, Holding.{IsHolding, Mail, Nap, box_of, holder_of, nap_of, thing_of}, Places.one_if, Rooted.{IsRooted, SleeperPays, completions_of, ends_elsewhere}, Sound.{HasLetters, IsMyMail, SoundAt}, Names.IsNamed, Spares.{SleepersEndure, SparedSleepers, Spares, SparesSleepers}, Whole.{IsWhole, Profile, hands_of}}, proofs.{FiringNames.naps_on, Lined.unmapped}}
use Rattle.exec_closing.proofs.NoneAsleep.{none_live}

no_mail : (m : Mail) → Contains [] m → ⊥
no_mail m (k, few, is) = omega (arith, few)

-- ONE SLEEPER

-- it was let go, where it slept there still
abbrev pub IsLetGo : ℕ → SleeperRecord → Type 0
IsLetGo i z = is_asleep i z.shown ≡ true → z.closed ≡ true

pub nap_gone : (i : ℕ) (z : SleeperRecord) → IsLetGo i z → nap_of (sleeper_gone_with i z) ≡ nap_of z
nap_gone = grind arith

closed_gone : (i : ℕ) (z : SleeperRecord) → (sleeper_gone_with i z).closed ≡ z.closed
closed_gone = grind arith

id_gone : (i : ℕ) (z : SleeperRecord) → (sleeper_gone_with i z).id.0 ≡ z.id.0
id_gone = grind arith

-- one of another worker stays as it is
other_stays : (i : ℕ) (z : SleeperRecord) → z.shown.worker ≢ i → sleeper_gone_with i z ≡ z
other_stays i z other = ap (λ b. if b then sleeper_removed z else z) (not_same z.shown.worker i other)

-- and an own one doesn't sleep
never_asleep : (i : ℕ) (z : SleeperRecord) → is_asleep i (sleeper_gone_with i z).shown ≡ false
never_asleep = grind arith

pub ends_gone : (i : ℕ) (z : SleeperRecord) → IsLetGo i z → ends_elsewhere (sleeper_gone_with i z) ≡ ends_elsewhere z
ends_gone i z let_go = ap (λ (n : Nap). is_applied n.forwarding && (n.fired || n.removed)) (nap_gone i z let_go)

-- ALL OF THEM

naps_gone : (i : ℕ) (zs : List SleeperRecord) → ((k : ℕ) (z : SleeperRecord) → slice_get zs k ≡ Some z → IsLetGo i z) → map nap_of (map (sleeper_gone_with i) zs) ≡ map nap_of zs
naps_gone i [] all = refl
naps_gone i (z ∷ zs) all = ap (λ n. n ∷ map nap_of (map (sleeper_gone_with i) zs)) (nap_gone i z (all 0 z refl)) ∙ ap (λ ns. nap_of z ∷ ns) (naps_gone i zs (λ k y at. all (suc k) y at))

-- what the machine makes of them
pub shown_gone : (i : ℕ) (zs : List SleeperRecord) → map (λ (z : SleeperRecord). z.shown) (map (sleeper_gone_with i) zs) ≡ map (gone_with i) (map (λ (z : SleeperRecord). z.shown) zs)
shown_gone i [] = refl
shown_gone i (z ∷ zs) = grind (arith, shown_gone i zs)

-- their ends were sent as before
pub alarms_gone : (i k : ℕ) (zs : List SleeperRecord) → numbers_of_passing (λ (z : SleeperRecord). z.sent) k (map (sleeper_gone_with i) zs) ≡ numbers_of_passing (λ (z : SleeperRecord). z.sent) k zs
alarms_gone i k [] = refl
alarms_gone i k (z ∷ zs) = grind (arith, alarms_gone i (suc k) zs)

mapped : (i : ℕ) (zs : List SleeperRecord) (k : ℕ) (z : SleeperRecord) → slice_get zs k ≡ Some z → slice_get (map (sleeper_gone_with i) zs) k ≡ Some (sleeper_gone_with i z)
mapped i zs k z at = slice_get-map (sleeper_gone_with i) zs k ∙ ap (option_map (sleeper_gone_with i)) at

-- WHAT STANDS OF A WORKER THAT HAS ENDED

module _ {B : Type 0} (i : ℕ) (s s' : Shared B) where
  pub record AreGone : Type 0 where
    pub kept : s' ≡ record s { sleepers = s'.sleepers }
    pub items : s'.sleepers.items ≡ map (sleeper_gone_with i) s.sleepers.items
    pub all : (k : ℕ) (z : SleeperRecord) → slice_get s.sleepers.items k ≡ Some z → IsLetGo i z

  module _ (gone : AreGone) where
    -- each that is there was there
    record Was (k : ℕ) (y : SleeperRecord) : Type 0 where
      z : SleeperRecord
      at : slice_get s.sleepers.items k ≡ Some z
      is : sleeper_gone_with i z ≡ y

    was : (k : ℕ) (y : SleeperRecord) → slice_get s'.sleepers.items k ≡ Some y → Was k y
    was k y at = let it = unmapped (sleeper_gone_with i) s.sleepers.items k y (ap (λ xs. slice_get xs k) (sym gone.items) ∙ at) in record { z = it.0; at = it.1; is = it.2 }

    now : (k : ℕ) (z : SleeperRecord) → slice_get s.sleepers.items k ≡ Some z → slice_get s'.sleepers.items k ≡ Some (sleeper_gone_with i z)
    now k z at = ap (λ xs. slice_get xs k) gone.items ∙ mapped i s.sleepers.items k z at

    same : (k : ℕ) (z : SleeperRecord) → slice_get s.sleepers.items k ≡ Some z → nap_of (sleeper_gone_with i z) ≡ nap_of z
    same k z at = nap_gone i z (gone.all k z at)

    pub naps_same : map nap_of s'.sleepers.items ≡ map nap_of s.sleepers.items
    naps_same = ap (map nap_of) gone.items ∙ naps_gone i s.sleepers.items gone.all

    -- OTHERS

    pub spares_gone : (j : ℕ) (before : Shared B) → j ≢ i → Spares j before s → Spares j before s'
    spares_gone j before other spares =
        let sleepers : SparesSleepers j before.sleepers.items s'.sleepers.items = λ k z at mine.
        let x = spares.sleepers k z at mine in
        let its : x.0.shown.worker ≡ j = ap (λ (y : SleeperRecord). y.shown.worker) x.2.kept ∙ mine in
        (x.0, now k x.0 x.1 ∙ ap (λ y. Some y) (other_stays i x.0 (λ is. other (sym its ∙ is))), x.2) in
        let sleepers_only : SparedSleepers j before.sleepers.items s'.sleepers.items = λ k y at mine.
        let x = was k y at in
        let its : x.z.shown.worker ≡ j = sym (ap (λ n. n.worker) (same k x.z x.at)) ∙ ap (λ (v : SleeperRecord). v.shown.worker) x.is ∙ mine in
        spares.sleepers_only k y (x.at ∙ ap (λ v. Some v) (sym (other_stays i x.z (λ is. other (sym its ∙ is))) ∙ x.is)) mine in
        let endure_too : SleepersEndure before.sleepers.items s'.sleepers.items = λ k z at.
        let x = spares.endure_too k z at in
        let it = same k x.0 x.1 in
        (sleeper_gone_with i x.0, now k x.0 x.1, record { worker = ap (λ n. n.worker) it ∙ x.2.worker; forwarded = λ sent. ap (λ (n : Nap). is_unsent n.forwarding) it ∙ x.2.forwarded sent }) in
        let there : Spares j before (record s { sleepers = s'.sleepers }) = assumption (sleepers, sleepers_only, endure_too, spares) in
        subst (λ y. Spares j before y) (sym gone.kept) there

    pub whole_gone : (x : Profile) → IsWhole x s → IsWhole x s'
    whole_gone x whole =
        let holding : IsHolding (hands_of x) s.config.workers (map holder_of s.tasks.items) (map thing_of s.requests.items) (map nap_of s'.sleepers.items) (map box_of s.seats.items) =
        subst (λ ns. IsHolding (hands_of x) s.config.workers (map holder_of s.tasks.items) (map thing_of s.requests.items) ns (map box_of s.seats.items)) (sym naps_same) whole.holding in
        let there : IsWhole x (record s { sleepers = s'.sleepers }) = assumption (holding, whole) in
        subst (IsWhole x) (sym gone.kept) there

    -- ITSELF

    pub sound_gone : (w : Worker) → w.index ≡ i → SoundAt (Place.Closing InClosing.End) w s → SoundAt (Place.Closing InClosing.End) w s'
    sound_gone w own sound =
        let ss' = s'.sleepers.items in
        let zs = w.home.timers in
        let nobody : (id : Id) → IsSome (value_at zs id) → ⊥ = λ id some. none_live zs id (sound.lets_go refl) some in
        let never : (id : Id) (it : Sleeping Reply) → value_at zs id ≡ Some it → ⊥ = λ id it at. nobody id (subst IsSome (sym at) refl) in
        let timers : (id : Id) → IsSome (value_at zs id) → (z : SleeperRecord) × (slice_get ss' (number_in w.names.timers.items id) ≡ Some z) × (z.id.0 ≡ id) × (z.shown.worker ≡ w.index) = λ id some. absurd (nobody id some) in
        let named : IsNamed w.index w.names (driver_of w) zs s.requests.items ss' = assumption (timers, sound.named) in
        let mine : (m : Mail) → Contains w.batch.values m → IsMyMail s.config.workers w.index m s.requests.items ss' = λ m has. absurd (no_mail m (subst (λ ms. Contains ms m) (sound.batch refl) has)) in
        let asleep : AreAsleep w.home.closing w.index w.names zs ss' = record {
          alike = λ id it r at found. absurd (never id it at);
          there = λ k r at is unclosed. let x = was k r at in absurd (false≢true (sym (never_asleep i x.z) ∙ ap (λ (y : SleeperRecord). is_asleep i y.shown) x.is ∙ subst (λ j. is_asleep j r.shown ≡ true) own is));
          named = λ k r at is unclosed. let x = was k r at in absurd (false≢true (sym (never_asleep i x.z) ∙ ap (λ (y : SleeperRecord). is_asleep i y.shown) x.is ∙ subst (λ j. is_asleep j r.shown ≡ true) own is));
          lets_go = λ k r at its closed.
              let x = was k r at in
              let its_z : x.z.shown.worker ≡ w.index = sym (ap (λ n. n.worker) (same k x.z x.at)) ∙ ap (λ (y : SleeperRecord). y.shown.worker) x.is ∙ its in
              sound.due.asleep.lets_go k x.z x.at its_z (sym (closed_gone i x.z) ∙ ap (λ (y : SleeperRecord). y.closed) x.is ∙ closed);
          counted = λ id past. subst (λ m. id.generation < m) (sym (ap length gone.items ∙ length-map s.sleepers.items (sleeper_gone_with i))) (sound.due.asleep.counted id past);
          names =
              naps_on w.index zs zs s.sleepers.items ss'
              (λ k r at its.
              let x = was k r at in
              search (x.z, x.at, sym (ap (λ n. n.worker) (same k x.z x.at)) ∙ ap (λ (y : SleeperRecord). y.shown.worker) x.is ∙ its, sym (id_gone i x.z) ∙ ap (λ (y : SleeperRecord). y.id.0) x.is))
              (λ id past. past) sound.due.asleep.names;
        } in
        let due : IsDue None w.home.closing w.index w.moments s.config w.names (driver_of w) zs s.requests.items ss' =
        record { punctual = sound.due.punctual; told = sound.due.told; wheel = sound.due.wheel; timed = sound.due.timed; asleep = asleep; order = sound.due.order } in
        let rooted : IsRooted w.index w.names (driver_of w) zs w.home.deferred s.requests.items ss' = record {
          kept = sound.rooted.kept;
          ready = λ k r at its over held unapplied. let x = sound.rooted.ready k r at its over held unapplied in record { named = x.named; live = x.live };
          replies = sound.rooted.replies;
          watches = λ id it z at found. absurd (never id it at);
          pays = sound.rooted.pays;
          sleeper_pays = λ k r at its. let x = was k r at in subst SleeperPays x.is (pays_gone x.z (same k x.z x.at) (sound.rooted.sleeper_pays k x.z x.at (its_before k r x its)));
          results = sound.rooted.results;
          completions = λ c has.
              let x = sound.rooted.completions c has in
              let it = same x.n x.z x.there in
              let reply = x.reply ∙ ap (λ t. record { task = record { 0 = t }; of = Heard.Timer x.n }) (sym (ap (λ n. n.task) it)) in
              search (sleeper_gone_with i x.z, now x.n x.z x.there, ap (λ n. n.worker) it ∙ x.worker, reply, subst (λ m. m ≤ 1) (sym (ap (λ n. n.paid) it)) x.paid, x);
          sent = sound.rooted.sent;
          sleeper_sent = λ k r at its.
              let x = was k r at in
              subst (λ (y : SleeperRecord). completions_of k w.home.deferred + one_if y.sent ≡ one_if (ends_elsewhere y)) x.is
              (ap (λ (n : Nap). completions_of k w.home.deferred + one_if n.sent) (same k x.z x.at) ∙ sound.rooted.sleeper_sent k x.z x.at (its_before k r x its) ∙ sym (ap one_if (ends_gone i x.z (gone.all k x.z x.at))));
        } in
        let letters : HasLetters false false w.index s.config.workers w.letters s.requests.items ss' = record {
          some = sound.letters.some;
          none = sound.letters.none;
          requests = sound.letters.requests;
          timer = λ h is.
              let x = sound.letters.timer h is in
              ((sleeper_gone_with i x.0.0, now h.number x.0.0 x.0.1, ap (λ n. n.worker) (same h.number x.0.0 x.0.1) ∙ x.0.2, x.0.3), x.1);
        } in
        let there : SoundAt (Place.Closing InClosing.End) w (record s { sleepers = s'.sleepers }) = assumption (named, mine, due, rooted, letters, sound) in
        subst (λ y. SoundAt (Place.Closing InClosing.End) w y) (sym gone.kept) there
      where
        its_before : (k : ℕ) (r : SleeperRecord) (x : Was k r) → r.shown.worker ≡ w.index → x.z.shown.worker ≡ w.index
        its_before k r x its = sym (ap (λ n. n.worker) (same k x.z x.at)) ∙ ap (λ (y : SleeperRecord). y.shown.worker) x.is ∙ its

        pays_gone : (z : SleeperRecord) → nap_of (sleeper_gone_with i z) ≡ nap_of z → SleeperPays z → SleeperPays (sleeper_gone_with i z)
        pays_gone z it pays =
            record {
              unpaid = λ unfired kept. ap (λ (n : Nap). n.paid) it ∙ pays.unpaid (sym (ap (λ (n : Nap). n.fired) it) ∙ unfired) (sym (ap (λ (n : Nap). n.removed) it) ∙ kept);
              once = λ unapplied. subst (λ m. m ≤ 1) (sym (ap (λ (n : Nap). n.paid) it)) (pays.once (sym (ap (λ (n : Nap). is_applied n.forwarding) it) ∙ unapplied));
            }
