-- What the steps by which search counts go from one party to another are to the machine: the leave of a search, a kick, a
-- claim.
use Rattle.exec_invariants.{proofs.{Names.{◌≡◌, ℕ, ◌+◌, ◌-◌, ◌<◌, ◌==◌, length, Bool, true, false, IsSome, Option, Some, refl, sym, ap, subst, ◌∙◌, arith, if◌then◌else◌, Idle, lowest_of, WorkerSet, Said, Event, Turn, Plan, AfterClaim, AfterKick, AfterLeave, AfterSignal, InKick, InSignal, Place, Claimed, after_claim, after_nobody, claim_worker, claim_made as claimed, claimed_if, idle_after, same_bools, set_of, has_some as has_any, one_count_more, move_at, after_kick, turns, with_idle, Shared, Worker, Spot, after_kick_of, after_return_of, Views, common_of, desk_of, own_of, things_with, Goes, Makes, same_number}, Counting.{Counts, Stance, Stands, claimed_there, counts_alone, counts_claimed, has_count, stance_at, stance_here}, Handed.{Between, KickNext, kick_comes, kick_seen, out, return_seen, return_settles, same_kick, settles_at, someone, to_kick}, Idled.{Comes, Settles, comes, comes_either, gone, gone_by, led}}, specs.{Sound.{Aims, SoundAt}, Places.has_count_at, Whole.HasWhole, Works.Steps}}

module _ {B : Type 0} where
  -- what a place of a kick says of its worker
  at_kick : (x : InKick) (b : AfterKick) (w : Worker) (s : Shared B) → SoundAt (Place.Kick x b) w s → Between (Place.Kick x b) (Place.Kick InKick.LoadKickCount b) w s
  at_kick x b w s sound = record { same = same_kick w.role (Place.Kick x b) (Place.Kick InKick.LoadKickCount b) refl; held = sound.queue; batch = sound.batch; quiet = refl }

  pub at_leave : (b : AfterLeave) (w : Worker) (s : Shared B) → SoundAt (Place.LeaveSearch b) w s → Between (Place.LeaveSearch b) (Place.LeaveSearch b) w s
  at_leave b w s sound = record { same = refl; held = sound.queue; batch = sound.batch; quiet = refl }

  -- who leaves a search holds a count
  pub leaves_some : (b : AfterLeave) (w : Worker) (s : Shared B) → SoundAt (Place.LeaveSearch b) w s → HasWhole w s → 0 < s.idle.count
  leaves_some b w s sound has =
      has_count (stance_at (Place.LeaveSearch b) w) w s (stance_here (Place.LeaveSearch b) w sound.here) has (rw sound.searching (omega arith))

  pub kicks_some : (b : AfterKick) (w : Worker) (s : Shared B) → SoundAt (Place.Kick InKick.ReturnKickCount b) w s → HasWhole w s → 0 < s.idle.count
  kicks_some b w s sound has =
      has_count (stance_at (Place.Kick InKick.ReturnKickCount b) w) w s (stance_here (Place.Kick InKick.ReturnKickCount b) w sound.here) has (rw sound.searching (omega arith))

-- WHAT A CLAIM FINDS

pub lowest_claimed : (same : Bool) (found : WorkerSet) (o : Option ℕ) (k : ℕ) → claimed_if same found o ≡ Claimed.Worker k → o ≡ Some k
lowest_claimed = grind arith

pub again_some : (same : Bool) (found : WorkerSet) (o : Option ℕ) (set : WorkerSet) → claimed_if same found o ≡ Claimed.Again set → (set ≡ found) × IsSome o
again_some = grind arith

module _ {B L : Type 0} (left : B → L) (spot : L → Option Said → Spot) (w w' : Worker) (s : Shared B) (e : Event) where
  pub search_left : (b : AfterLeave) (x : Idle) → SoundAt (Place.LeaveSearch b) w s → 0 < s.idle.count → e ≡ Turn → w' ≡ record w { place = after_return_of (s.idle.count == 1) b w; searching = false } → x ≡ record s.idle { count = s.idle.count - 1 }
      → Steps left spot w s e w' (record s { idle = x })
  search_left b x sound some turn goes is =
      let q = Place.LeaveSearch b in
      let less : x.count ≡ s.idle.count - 1 = ap (λ i. i.count) is in
      led left spot q (after_return_of (s.idle.count == 1) b w) w.moments.read w.rng (out false) w w' s x e sound turn sound.time.read goes (λ apart. refl)
      (return_settles (s.idle.count == 1) b q w s (at_leave b w s sound)) refl refl
      (counts_alone (stance_at q w) false false w s x (stance_here q w sound.here) (ap (λ i. i.published) is) (rw sound.searching (omega (arith, some, less))))
      (λ p vs suits. rw (is, return_seen left spot p vs q w s sound suits.config (s.idle.count == 1) b) refl)

  -- the count and the set stay
  still : (x : InKick) (b : AfterKick) → has_count_at (Place.Kick x b) ≡ false → SoundAt (Place.Kick x b) w s → Counts (stance_at (Place.Kick x b) w) (out false) w s s.idle
  still x b none sound = counts_alone (stance_at (Place.Kick x b) w) false false w s s.idle (stance_here (Place.Kick x b) w sound.here) refl (rw (sound.searching, none) refl)

  -- to a place that holds nothing, by what a kick loads
  looked : (x : InKick) (b : AfterKick) (test : Bool) (y : InKick) → has_count_at (Place.Kick x b) ≡ false → has_count_at (Place.Kick y b) ≡ false → (test ≡ true → Aims (Place.Kick y b) s.config w.index s.seats.items) → SoundAt (Place.Kick x b) w s → KickNext left spot b w s → e ≡ Turn → w' ≡ record w { place = (if test then Place.Kick y b else after_kick_of b w) }
      → ((p : Plan) (vs : Views) → move_at p.config w.index (own_of w) (common_of left spot p vs s) (desk_of w) (things_with vs s) (Place.Kick x b) ≡ with_idle (things_with vs s) (turns (if test then Place.Kick y b else after_kick p.config w.index (own_of w) (common_of left spot p vs s) b (desk_of w)) (desk_of w) s.idle))
      → Steps left spot w s e w' s
  looked x b test y none none' aims sound next turn goes moves =
      let q = Place.Kick x b in
      gone_by left spot q (if test then Place.Kick y b else after_kick_of b w) (out false) w w' s s.idle e sound turn goes sound.searching
      (by test aims) refl refl (still x b none sound)
      (λ p vs suits. moves p vs ∙ rw (kick_seen left spot p vs q w s sound suits.config b (next.seen p vs suits)) refl)
    where
      by : (t : Bool) → (t ≡ true → Aims (Place.Kick y b) s.config w.index s.seats.items) → Comes (Place.Kick x b) (if t then Place.Kick y b else after_kick_of b w) (out false) w s
      by true given = comes (Place.Kick x b) (Place.Kick y b) (out false) w s sound (to_kick y b (Place.Kick x b) w s none' (given refl) (at_kick x b w s sound))
      by false given = kick_comes b (Place.Kick x b) w s sound next.comes (at_kick x b w s sound)

  pub kick_count_loaded : (b : AfterKick) → SoundAt (Place.Kick InKick.LoadKickCount b) w s → KickNext left spot b w s → e ≡ Turn → w' ≡ record w { place = (if s.idle.count == 0 then Place.Kick InKick.LoadKickSet b else after_kick_of b w) } → Steps left spot w s e w' s
  kick_count_loaded b sound next turn goes = looked InKick.LoadKickCount b (s.idle.count == 0) InKick.LoadKickSet refl refl (λ h. tt) sound next turn goes (λ p vs. refl)

  pub kick_set_loaded : (b : AfterKick) → SoundAt (Place.Kick InKick.LoadKickSet b) w s → KickNext left spot b w s → e ≡ Turn
      → w' ≡ record w { place = (if has_any s.idle then Place.Kick (InKick.ExchangeKickCount (record { has = s.idle.published })) b else after_kick_of b w) } → Steps left spot w s e w' s
  kick_set_loaded b sound next turn goes = looked InKick.LoadKickSet b (has_any s.idle) (InKick.ExchangeKickCount (record { has = s.idle.published })) refl refl (someone s.idle) sound next turn goes (λ p vs. refl)

  pub kick_count_exchanged : (set : WorkerSet) (b : AfterKick) (x : Idle) → SoundAt (Place.Kick (InKick.ExchangeKickCount set) b) w s → KickNext left spot b w s → e ≡ Turn
      → w' ≡ record w { place = (if s.idle.count == 0 then Place.ClaimWorker set (AfterClaim.Kick b) else after_kick_of b w) } → x ≡ (if s.idle.count == 0 then record s.idle { count = 1 } else s.idle)
      → Steps left spot w s e w' (record s { idle = x })
  kick_count_exchanged set b x sound next turn goes is = by (s.idle.count == 0) refl goes is
    where
      q : Place
      q = Place.Kick (InKick.ExchangeKickCount set) b

      by : (none : Bool) → (s.idle.count == 0) ≡ none → w' ≡ record w { place = (if none then Place.ClaimWorker set (AfterClaim.Kick b) else after_kick_of b w) } → x ≡ (if none then record s.idle { count = 1 } else s.idle) → Steps left spot w s e w' (record s { idle = x })
      by true none goes is =
          let more : x ≡ one_count_more s.idle = is ∙ ap (λ n. record s.idle { count = n + 1 }) (sym (same_number s.idle.count 0 none)) in
          let count : x.count ≡ s.idle.count + 1 = ap (λ i. i.count) more in
          gone left spot q (Place.ClaimWorker set (AfterClaim.Kick b)) (record { searching = false; counted = true; published = false }) w w' s x e sound turn goes sound.searching
          (record { same = same_kick w.role q (Place.ClaimWorker set (AfterClaim.Kick b)) refl; searches = refl; counts = refl; published = refl; queue = sound.queue; aims = sound.aims; batch = sound.batch; quiet = λ h. h }) refl refl
          (counts_alone (stance_at q w) false true w s x (stance_here q w sound.here) (ap (λ i. i.published) is) (rw sound.searching (omega (arith, count))))
          (λ p vs suits. rw (more, none) refl)
      by false some goes is =
          subst (λ y. Steps left spot w s e w' (record s { idle = y })) (sym is)
          (gone_by left spot q (after_kick_of b w) (out false) w w' s s.idle e sound turn goes sound.searching
          (kick_comes b q w s sound next.comes (at_kick (InKick.ExchangeKickCount set) b w s sound)) refl refl (still (InKick.ExchangeKickCount set) b refl sound)
          (λ p vs suits. rw (some, kick_seen left spot p vs q w s sound suits.config b (next.seen p vs suits)) refl))

  pub kick_count_returned : (b : AfterKick) (x : Idle) → SoundAt (Place.Kick InKick.ReturnKickCount b) w s → KickNext left spot b w s → 0 < s.idle.count → e ≡ Turn → w' ≡ record w { place = (if s.idle.count == 1 then Place.Kick InKick.LoadKickCount b else after_kick_of b w) }
      → x ≡ record s.idle { count = s.idle.count - 1 } → Steps left spot w s e w' (record s { idle = x })
  kick_count_returned b x sound next some turn goes is =
      let q = Place.Kick InKick.ReturnKickCount b in
      let less : x.count ≡ s.idle.count - 1 = ap (λ i. i.count) is in
      gone_by left spot q (if s.idle.count == 1 then Place.Kick InKick.LoadKickCount b else after_kick_of b w) (out false) w w' s x e sound turn goes sound.searching
      (comes_either q (s.idle.count == 1) (Place.Kick InKick.LoadKickCount b) (after_kick_of b w) (out false) w s (comes q (Place.Kick InKick.LoadKickCount b) (out false) w s sound (to_kick InKick.LoadKickCount b q w s refl tt (at_kick InKick.ReturnKickCount b w s sound))) (kick_comes b q w s sound next.comes (at_kick InKick.ReturnKickCount b w s sound))) refl refl
      (counts_alone (stance_at q w) false false w s x (stance_here q w sound.here) (ap (λ i. i.published) is) (rw sound.searching (omega (arith, some, less))))
      (λ p vs suits. rw (is, kick_seen left spot p vs q w s sound suits.config b (next.seen p vs suits)) refl)

  pub worker_claimed : (set : WorkerSet) (b : AfterClaim) (x : Idle) → SoundAt (Place.ClaimWorker set b) w s → HasWhole w s → Makes (claim_worker set b (desk_of w) s.idle) e w' → Goes w w' → x ≡ idle_after (claimed set s.idle) s.idle → Steps left spot w s e w' (record s { idle = x })
  worker_claimed set b x sound has makes goes is =
      by (claimed set s.idle) refl (goes ∙ ap (λ d. record w { place = d.place }) makes.desk) is
    where
      q : Place
      q = Place.ClaimWorker set b

      here : Stands (stance_at q w) w
      here = stance_here q w sound.here

      -- the count stays
      holding : Stance
      holding = record { searching = false; counted = true; published = false }

      nothing : Counts (stance_at q w) holding w s s.idle
      nothing = counts_alone (stance_at q w) false true w s s.idle here refl (rw sound.searching refl)

      -- nobody is there
      none_settles : (a : AfterClaim) → Between q (Place.ClaimWorker set a) w s → Settles q (after_nobody a) holding w s
      none_settles (AfterClaim.Kick a) h = settles_at q (Place.ClaimWorker set (AfterClaim.Kick a)) (after_nobody (AfterClaim.Kick a)) holding w s h (same_kick w.role (Place.ClaimWorker set (AfterClaim.Kick a)) (after_nobody (AfterClaim.Kick a)) refl) refl refl refl h.held tt h.batch (λ is. is)
      none_settles (AfterClaim.Global a) h = settles_at q (Place.ClaimWorker set (AfterClaim.Global a)) (after_nobody (AfterClaim.Global a)) holding w s h (same_kick w.role (Place.ClaimWorker set (AfterClaim.Global a)) (after_nobody (AfterClaim.Global a)) refl) refl refl refl h.held tt h.batch (λ is. is)

      by : (c : Claimed) → claimed set s.idle ≡ c → w' ≡ record w { place = after_claim b c } → x ≡ idle_after c s.idle → Steps left spot w s e w' (record s { idle = x })
      by (Claimed.Worker k) found goes is =
          let lowest : lowest_of s.idle.published ≡ Some k = lowest_claimed (same_bools set.has s.idle.published) (set_of s.idle) (lowest_of s.idle.published) k found in
          let there : k < length s.seats.items = omega (arith, claimed_there (stance_at q w) w s here has k lowest, sound.seated.many) in
          let counts : Counts (stance_at q w) (out false) w s x = subst (λ c. Counts (stance_at q w) (record { searching = c; counted = false; published = false }) w s x) sound.searching (counts_claimed (stance_at q w) k w s x here refl lowest is) in
          gone left spot q (Place.Signal InSignal.SetLatch k (AfterSignal.Claim b)) (out false) w w' s x e sound makes.event goes sound.searching
          (record { same = same_kick w.role q (Place.Signal InSignal.SetLatch k (AfterSignal.Claim b)) refl; searches = refl; counts = refl; published = refl; queue = sound.queue; aims = (there, tt); batch = sound.batch; quiet = λ h. h }) refl refl counts
          (λ p vs suits. rw (found, is) refl)
      by (Claimed.Again other) found goes is =
          let again = again_some (same_bools set.has s.idle.published) (set_of s.idle) (lowest_of s.idle.published) other found in
          subst (λ y. Steps left spot w s e w' (record s { idle = y })) (sym is)
          (gone left spot q (Place.ClaimWorker other b) holding w w' s s.idle e sound makes.event goes sound.searching
          (record { same = same_kick w.role q (Place.ClaimWorker other b) refl; searches = refl; counts = refl; published = refl; queue = sound.queue; aims = rw again.0 again.1; batch = sound.batch; quiet = λ h. h }) refl refl nothing
          (λ p vs suits. rw found refl))
      by Claimed.Nobody found goes is =
          subst (λ y. Steps left spot w s e w' (record s { idle = y })) (sym is)
          (gone left spot q (after_nobody b) holding w w' s s.idle e sound makes.event goes sound.searching
          (none_settles b (record { same = same_kick w.role q q refl; held = sound.queue; batch = sound.batch; quiet = refl })) refl refl nothing
          (λ p vs suits. rw found refl))
