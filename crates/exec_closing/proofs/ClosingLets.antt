-- A closing worker lets go of a request that somebody holds, or of a sleeper: where it goes on, what holds of it there, and what
-- others rely on. By what holds again of its own requests and sleepers, and of what tasks hold.
use Rattle.std.proofs.{Common.{◌≡◌, ◌+◌, true, false, Contains, [], map, option_to_list, Some, None, refl, sym, ap, subst, ◌∙◌, slice_get}, lemmas.Bool.false≢true}
use Rattle.exec_task.specs.declared.runnable.Runnable.{Runnable}
use Rattle.exec_moves.specs.{declared.place.{InClosing.InClosing, Place.Place}, Seen.polls_at}
use Rattle.exec_parts.specs.{declared.parts.{mail.Subject.Subject, seat.Seat.Seat as Chair, shared.Shared.Shared, worker.Worker.Worker}, Ending.ClosesOn, Phased.{IsGoing, IsPhased, closes_at, closing_in, stage_of}, Roles.is_pool, Calls.IsTold, View.driver_of}
use Rattle.exec_invariants.{specs.{Carried.{HasRoom}, Due.IsDue, Flown.HasFlown, Gates.{AreLinedUp, HaveGates}, Holding.{IsHolding, Mail, box_of, holder_of, nap_of, thing_of}, HoldPlaces.{cancels_at, heard_at, sends_cancel_at, spare_at}, Places.{begins_at, calls_back_at, claims_at, drops_at, hands_on_at, has_count_at, has_loot_at, in_poll_of, is_armed_at, is_pooled_at, is_published_at, no_drops, polled_in, searches_at, step_of_poll, task_at}, Rooted.HearsNext, Sound.{HasGuest, HasLetters, HasQueue, HasRunnable, IsHeld, IsInHand, IsLeft, IsLoot, IsMyMail, IsSearching, IsSeated, IsTied, Serves, SoundAt, Stops, has_wakes_at, root_in_hand, served_in}, Names.tellers, Whole.{IsWhole, Profile, hands_of, with_worker}, Works.Beside}, proofs.{Aside.{SameProfile, profile_same}, Lined.{gates_kept, lined_kept}, ServingHolds.Keeps, Serving.{SparesRecords, letter_kept, mail_kept, spares_service}, Shutting.none_in}}
use Rattle.exec_closing.proofs.ClosesMail.{GoesTo, goes_to}

-- WHERE IT IS
pub data LetsAt : InClosing → Type 0 where
  orphan : LetsAt InClosing.Orphan
  sleeper : LetsAt InClosing.CloseSleeper

drops_there : (x : InClosing) → LetsAt x → drops_at (Place.Closing x) ≡ no_drops
drops_there _ LetsAt.orphan = refl
drops_there _ LetsAt.sleeper = refl

-- the worker then: of it its driver, its sleepers, what is left to be told and what of its requests is over may have changed
abbrev pub lets_to : Worker → Worker → Place → Worker
lets_to w v q = record w { place = q; names = record w.names { ended = v.names.ended }; home = record w.home { driver = v.home.driver; timers = v.home.timers; deferred = v.home.deferred } }

-- and of what is shared its records
abbrev pub records_of : {B : Type 0} → Shared B → Shared B → Shared B
records_of s t = record s { requests = t.requests; sleepers = t.sleepers }

module _ {B : Type 0} where
  none_taken : (x : InClosing) → LetsAt x → (w : Worker) (s : Shared B) → SoundAt (Place.Closing x) w s → w.batch.values ≡ []
  none_taken _ LetsAt.orphan w s sound = sound.batch
  none_taken _ LetsAt.sleeper w s sound = sound.batch

  -- its mailbox is shut, and all before that is behind it
  phased_past : (x : InClosing) → LetsAt x → (w : Worker) (s : Shared B) (chair : Chair) → IsGoing w.index s.seats.items → SoundAt (Place.Closing x) w s → slice_get s.seats.items w.index ≡ Some chair
      → IsPhased w.index true (Some InClosing.CloseMailbox) w.home.closing w.root w.names.unreleased (record (stage_of chair s) { shut = false }) s.tasks.items × (chair.mailbox.inbox.closed ≡ true)
  phased_past _ LetsAt.orphan w s chair going sound there =
      let p = sound.phased chair there in
      (record { told = p.told; opened = p.opened; ended = λ h. absurd (false≢true (sym (going chair there) ∙ h)); root = p.root; left = p.left; shut = refl; by_zero = p.by_zero; by_other = p.by_other; closed = p.closed; prepared = tt }, p.shut)
  phased_past _ LetsAt.sleeper w s chair going sound there =
      let p = sound.phased chair there in
      (record { told = p.told; opened = p.opened; ended = λ h. absurd (false≢true (sym (going chair there) ∙ h)); root = p.root; left = p.left; shut = refl; by_zero = p.by_zero; by_other = p.by_other; closed = p.closed; prepared = tt }, p.shut)

  module _ (x : InClosing) (at : LetsAt x) (q : Place) (w v : Worker) (s t : Shared B) (sound : SoundAt (Place.Closing x) w s) (going : IsGoing w.index s.seats.items) (closes : ClosesOn (driver_of v) v.home.timers q) (spares : SparesRecords w.index s (records_of s t)) (keeps : Keeps (lets_to w v w.place) (records_of s t)) where
    pub to : GoesTo q (lets_to w v q) (records_of s t)
    to = goes_to q (lets_to w v q) (records_of s t) closes

    pub sound_lets : SoundAt q (lets_to w v q) (records_of s t)
    sound_lets =
        let w1 : Worker = lets_to w v q in
        let s1 : Shared B = records_of s t in
        let f = to.follows in
        let none : w.batch.values ≡ [] = none_taken x at w s sound in
        let gates : AreLinedUp s.opens t.requests.items = lined_kept s.requests.items t.requests.items spares.lines s.opens sound.gates in
        let unpolled : polled_in w.root q ≡ None = ap (λ o. in_poll_of w.root o (step_of_poll q)) f.polls in
        let runnable : HasRunnable w.index w.root w.root_ready (root_in_hand (begins_at q) w.root w.hand) s.tasks.items = subst (λ o. HasRunnable w.index w.root w.root_ready (root_in_hand o w.root w.hand) s.tasks.items) (sym f.begins) sound.runnable in
        let seated : IsSeated w.index (is_armed_at q) s.config.workers s.seats.items = subst (λ a. IsSeated w.index a s.config.workers s.seats.items) (sym f.unarmed) sound.seated in
        let queue : (chair : Chair) → slice_get s.seats.items w.index ≡ Some chair → HasQueue q chair.queue = λ chair there. f.queue chair.queue (sound.queue chair there) in
        let hand : IsInHand (begins_at q) (hands_on_at q) w.hand = subst (λ o. IsInHand o (hands_on_at q) w.hand) (sym f.begins) (subst (λ b. IsInHand None b w.hand) (sym f.hands_on) sound.hand) in
        let loot : IsLoot (has_loot_at q) w.loot = record { places = sound.loot.places; few = sound.loot.few; none = λ is. (sound.loot.none refl) } in
        let empty : w.hand ≡ None = sound.hand in
        let genuine : (r : Runnable) → Contains (option_to_list w.hand) r → IsHeld (begins_at q) w.root s.tasks.items r = λ r has. absurd (none_in r (subst (λ o. Contains (option_to_list o) r) empty has)) in
        let searching : IsSearching (searches_at q) w.searching = subst (λ o. IsSearching o w.searching) (sym f.searches) sound.searching in
        let guest : HasGuest (polls_at q) (step_of_poll q) w.index w.root s.tasks.items = subst (λ o. HasGuest o (step_of_poll q) w.index w.root s.tasks.items) (sym f.polls) tt in
        let left : IsLeft (calls_back_at q) v.home.deferred = subst (λ o. IsLeft o v.home.deferred) (sym f.calls) tt in
        let tied : IsTied (polled_in w.root q) w.index w.root s.tasks.items = subst (λ y. IsTied y w.index w.root s.tasks.items) (sym unpolled) sound.tied in
        let serves : Serves (task_at q) w.root w.role = rw (f.begins, f.polls) tt in
        let stops : Stops (polls_at q) (step_of_poll q) w.index s.tasks.items t.requests.items t.sleepers.items = subst (λ o. Stops o (step_of_poll q) w.index s.tasks.items t.requests.items t.sleepers.items) (sym f.polls) tt in
        let hears : HearsNext (heard_at q) w.index t.requests.items t.sleepers.items = subst (λ o. HearsNext o w.index t.requests.items t.sleepers.items) (sym f.heard) tt in
        let mine : (m : Mail) → Contains w.batch.values m → IsMyMail s.config.workers w.index m t.requests.items t.sleepers.items = λ m has. mail_kept s.config.workers w.index m s s1 spares (sound.mine m has) in
        let letters : HasLetters (sends_cancel_at q) (cancels_at q) w.index s.config.workers w.letters t.requests.items t.sleepers.items = record {
          some = λ h. absurd (false≢true (sym f.sends ∙ h));
          none = λ h. sound.letters.none refl;
          requests = λ h among. letter_kept s.config.workers w.index (Subject.Request h.number) h.worker s s1 spares (sound.letters.requests h among);
          timer = λ h is. letter_kept s.config.workers w.index (Subject.Timer h.number) h.worker s s1 spares (sound.letters.timer h is);
        } in
        let pooled : is_pooled_at q ≡ true → is_pool w.role ≡ true = λ h. absurd (false≢true (sym to.unpooled ∙ h)) in
        let told : IsTold v.names.ended.items v.home.deferred (tellers (driver_of v).requests v.home.timers + spare_at q) = subst (λ n. IsTold v.names.ended.items v.home.deferred (tellers (driver_of v).requests v.home.timers + n)) (sym f.spare) keeps.told in
        let quiet : has_wakes_at q ≡ false → v.home.deferred.notes.wakes.items ≡ [] = λ h. absurd (false≢true (sym h ∙ to.wakes)) in
        let due0 : IsDue None w.home.closing w.index w.moments s.config w1.names (driver_of v) v.home.timers t.requests.items t.sleepers.items = subst (λ p. IsDue (served_in p) w.home.closing w.index w.moments s.config w1.names (driver_of v) v.home.timers t.requests.items t.sleepers.items) sound.here keeps.due in
        let due : IsDue (served_in q) w.home.closing w.index w.moments s.config w1.names (driver_of v) v.home.timers t.requests.items t.sleepers.items = subst (λ y. IsDue y w.home.closing w.index w.moments s.config w1.names (driver_of v) v.home.timers t.requests.items t.sleepers.items) (sym f.served) due0 in
        let flown0 : HasFlown None w.index w1.names (driver_of v) t.requests.items = subst (λ p. HasFlown (served_in p) w.index w1.names (driver_of v) t.requests.items) sound.here keeps.flown in
        let flown : HasFlown (served_in q) w.index w1.names (driver_of v) t.requests.items = subst (λ y. HasFlown y w.index w1.names (driver_of v) t.requests.items) (sym f.served) flown0 in
        let phased : (chair : Chair) → slice_get s.seats.items w.index ≡ Some chair → IsPhased w.index (closes_at q) (closing_in q) w.home.closing w.root w.names.unreleased (stage_of chair s) s.tasks.items = λ chair there.
        let past = phased_past x at w s chair going sound there in
        subst (λ b. IsPhased w.index (closes_at q) (closing_in q) w.home.closing w.root w.names.unreleased (record (stage_of chair s) { shut = b }) s.tasks.items) (sym past.1) (to.past (record (stage_of chair s) { shut = false }) (going chair there) past.0) in
        assumption (gates, pooled, serves, told, runnable, seated, queue, hand, loot, genuine, searching, to.aims w.index s.seats.items, guest, left, to.batch w.batch.values none, mine, letters, quiet, due, flown, stops, hears, to.lets_go, phased, tied, keeps, sound)

    -- BESIDE IT

    -- the worker there, with what it had
    abbrev there : Worker
    there = record w { place = q }

    alike : SameProfile w there
    alike =
        let published = to.follows.published ∙ sym (ap is_published_at sound.here) in
        search (to.follows.polls ∙ sym (ap polls_at sound.here), to.follows.claims ∙ sym (ap claims_at sound.here), to.follows.counts ∙ sym (ap has_count_at sound.here), published, to.drops ∙ sym (ap drops_at sound.here ∙ drops_there x at))

    pub beside_lets : ((others : Profile) → IsWhole (with_worker others w) s → IsHolding (hands_of (with_worker others (lets_to w v q))) s.config.workers (map holder_of s.tasks.items) (map thing_of t.requests.items) (map nap_of t.sleepers.items) (map box_of s.seats.items))
        → HasRoom t.requests.items s.store → Beside w s (lets_to w v q) (records_of s t)
    beside_lets holds room =
        record {
          spares = λ j other. spares_service w.index j s (records_of s t) other refl spares room;
          whole = λ others whole.
              let before : IsWhole (with_worker others there) s = rw (profile_same others w there alike) whole in
              let y = with_worker others (lets_to w v q) in
              let gates : HaveGates y.drops_by s.opens t.requests.items = gates_kept s.requests.items t.requests.items spares.lines y.drops_by s.opens before.gates in
              assumption (gates, holds others whole, before);
        }
