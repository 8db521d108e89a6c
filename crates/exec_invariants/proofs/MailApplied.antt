-- A message of the batch is applied: all together.
use Rattle.exec_invariants.{proofs.{Names.{◌≡◌, ℕ, ◌+◌, ◌-◌, Bool, false, map, Option, Some, refl, sym, ap, subst, ◌∙◌, arith, slice_get, Said, Event, Apply, made_by, own_after_apply, Plan, Own as Books, InMail, Place, after_message, told_by_message, Desk, Shared, Worker, Spot, Views, Visible, common_of, desk_of, message_of, own_of, visible}, Aside.profile_same, Hearing.unheard, Lined.{KeepsLines, gates_kept}, Seeing.things_kept, ServingHolds.{KeepsSpare, OthersKept}, Serving.{SparesRecords, spares_service}, MailApplies.{applied_sound, rest_of, passed_on, AppliedKeeps, Leads, leads, profile_there, applied_works}}, specs.{Holding.{IsHolding, Mail, box_of, holder_of, nap_of, thing_of}, Sound.SoundAt, Whole.{IsWhole, Profile, hands_of, with_worker}, Works.{Steps, Suits}}}

-- ALL TOGETHER

module _ {B : Type 0} where
  -- what the worker has already, and what holds of it again
  pub kept_there : (applied : ℕ) (taken : Bool) (w : Worker) (s : Shared B) → SoundAt (Place.Mail (InMail.Apply applied taken)) w s → KeepsSpare (64 - applied) (passed_on w) s
  kept_there = grind arith

  -- with the room of one message less
  pub kept_again : (applied : ℕ) (taken : Bool) (v : Worker) (s : Shared B) → v.place ≡ Place.Mail (InMail.Apply applied taken) → KeepsSpare (64 - applied) v s → AppliedKeeps (64 - (applied + 1)) v s
  kept_again = grind arith

  -- with that room already
  pub kept_so : (applied : ℕ) (taken : Bool) (v : Worker) (s : Shared B) → v.place ≡ Place.Mail (InMail.Apply applied taken) → KeepsSpare (64 - (applied + 1)) v s → AppliedKeeps (64 - (applied + 1)) v s
  kept_so = grind arith

  -- the balances of all but of messages, wakes and what tasks hold
  whole_applied : (x : Profile) (mail : Mail → ℕ) (wakes : ℕ → ℕ → ℕ) (s t : Shared B) → KeepsLines s.requests.items t.requests.items
      → IsHolding (record { mail = mail; wakes = wakes }) s.config.workers (map holder_of s.tasks.items) (map thing_of t.requests.items) (map nap_of t.sleepers.items) (map box_of s.seats.items)
      → IsWhole x s → IsWhole (record x { mail = mail; wakes = wakes }) (record s { requests = t.requests; sleepers = t.sleepers })
  whole_applied = grind (arith, gates_kept)

-- what a message that takes effect leaves of its worker, but for the batch and the place
abbrev pub touched : Worker → Worker → Worker
touched w v = record w { home = record w.home { driver = v.home.driver; timers = v.home.timers; deferred = v.home.deferred }; names = record w.names { ended = v.names.ended } }

-- the machine reads the same off the place, but that it serves no more
own_led : (applied : ℕ) (taken : Bool) (v : Worker) (q : Place) → v.place ≡ Place.Mail (InMail.Apply applied taken) → Leads q → own_of (record v { place = q }) ≡ record (own_of v) { serving = false }
own_led applied taken v q here to =
    subst (λ x. own_of (record v { place = q }) ≡ record (own_of (record v { place = x })) { serving = false }) (sym here) (rw (to.polls, to.free, to.unserved, to.owes v.workers) refl)

module _ {B L : Type 0} (left : B → L) (spot : L → Option Said → Spot) where
  -- what the machine sees of it
  pub record SeesApplied (mail : Mail) (w v : Worker) (s t : Shared B) (p : Plan) (vs : Views) : Type 0 where
    pub desk : desk_of v ≡ told_by_message (common_of left spot p vs s) w.root (message_of mail) (desk_of w)
    pub own : own_of v ≡ own_after_apply (own_of w) (common_of left spot p vs s) (message_of mail)
    pub shows : visible v ≡ visible w
    pub common : common_of left spot p vs t ≡ made_by (own_of w) (common_of left spot p vs s) (message_of mail)

  pub applied_steps : (applied : ℕ) (taken : Bool) (mail : Mail) (w w' v : Worker) (s s' : Shared B) (e : Event) → (sound : SoundAt (Place.Mail (InMail.Apply applied taken)) w s) → slice_get w.batch.values 0 ≡ Some mail → e ≡ Apply (message_of mail)
      → w' ≡ record (passed_on (touched w v)) { place = after_message (applied + 1) (map message_of (rest_of w)) } → s' ≡ record s { requests = s'.requests; sleepers = s'.sleepers }
      → SparesRecords w.index s (record s { requests = s'.requests; sleepers = s'.sleepers })
      → AppliedKeeps (64 - (applied + 1)) (touched w v) (record s { requests = s'.requests; sleepers = s'.sleepers })
      → ((others : Profile) → IsWhole (with_worker others w) s → IsHolding (hands_of (with_worker others (passed_on (touched w v)))) s.config.workers (map holder_of s.tasks.items) (map thing_of s'.requests.items) (map nap_of s'.sleepers.items) (map box_of s.seats.items))
      → ((p : Plan) (vs : Views) → Suits p vs w s → SeesApplied mail w (touched w v) s (record s { requests = s'.requests; sleepers = s'.sleepers }) p vs)
      → Steps left spot w s e w' s'
  applied_steps applied taken mail w w' v s s' e sound first event worker kept spares keeps holds sees =
      let rest = rest_of w in
      let q' : Place = after_message (applied + 1) (map message_of rest) in
      let to : Leads q' = leads applied (map message_of rest) in
      let w0 : Worker = touched w v in
      let w1 : Worker = record (passed_on w0) { place = q' } in
      let s1 : Shared B = record s { requests = s'.requests; sleepers = s'.sleepers } in
      let shared : OthersKept s s1 = refl in
      let done : Steps left spot w s (Apply (message_of mail)) w1 s1 = (
        (λ p vs suits.
            let see = sees p vs suits in
            applied_works left spot applied taken mail w w1 s s1 sound first p vs suits refl
            (ap (λ (d : Desk). record d { batch = map message_of rest; place = q' }) see.desk)
            (ap (λ (x : Visible). record x { taken = map message_of rest }) see.shows)
            (things_kept vs w.index (visible w) (visible w1) s s1 suits.seen (ap (λ (x : Visible). x.wakes) see.shows) shared spares)
            (own_led applied taken w0 q' sound.here to ∙ ap (λ (o : Books). record o { serving = false }) see.own)
            see.common),
        applied_sound applied taken w v s s' sound spares keeps,
        unheard refl refl refl,
        record {
          spares = λ j other. spares_service w.index j s s1 other shared spares keeps.carried.room;
          whole = λ others whole.
              let u : Worker = passed_on w0 in
              let xu = with_worker others u in
              rw (profile_same others u w1 (profile_there applied taken w u w1 sound.here refl refl to))
              (whole_applied (with_worker others w) xu.mail xu.wakes s s' spares.lines (holds others whole) whole);
        },
      ) in
      subst (λ y. Steps left spot w s y w' s') (sym event) (subst (λ y. Steps left spot w s (Apply (message_of mail)) y s') (sym worker) (subst (λ z. Steps left spot w s (Apply (message_of mail)) w1 z) (sym kept) done))
