-- What the taking of a share of the global queue is to the machine: its oldest value is polled, the others go into the own
-- run queue.
use Rattle.std.proofs.{Common.{◌≡◌, ℕ, zero, suc, ◌+◌, ◌-◌, ◌<◌, ◌≤◌, ◌/◌, ◌⊎◌, inl, inr, false, Contains, List, [], ◌∷◌, ◌++◌, drop, length, min, take, Option, None, Some, refl, sym, ap, subst, ◌∙◌, arith, option_to_list, slice_get, slice_set}, lemmas.List.{append-nil, drop-map, length-append, length-map, take-map, Elements.{Contains-append_cases, Contains-append_left, Contains-append_right}}}
use Rattle.exec_words.specs.{Global.{Global, share_of, share_queued, share_taken}, Queue.{Queue, published, tail_of}}
use Rattle.exec_task.specs.declared.{body.Said.Said, runnable.Runnable.Runnable}
use Rattle.exec_machine.specs.{declared.{config.Configuration.Configuration, event.Event.{Event, TheVariants.Turn}}, Choice.Choice.Plain, Progress.Plan}
use Rattle.exec_moves.specs.{declared.{handing.{AfterPop.AfterPop, First.First, InPop.InPop}, place.{InPick.InPick, InPoll.InPoll, Place.Place}}, Move.move_at, Parts.{has_others, polls}, Pick.{Queues, after_empty_look, take_share}, State.{Desk, Moved, does, queue_of, turns}, Thing.{set_global, set_queue, with_queues}}
use Rattle.exec_parts.specs.{declared.parts.{seat.Seat.Seat as Chair, shared.Shared.Shared, worker.Worker.Worker}, Phased.{TurnsChair, closes_at, closing_in}, Pooled.{polling, with_share}, Spots.Spot, View.{Views, common_of, desk_of, own_of, queue_seen, tasks_of, things_of, things_with}}
use Rattle.exec_invariants.{proofs.{Showing.own_queue_seen, Dedicated.all_serve, PopLeads.{begins_poll, no_root}, Queued.{hands_of, whole_queued}, Queueing.{Around, Carries, Poses, Reaches, around_own, as_many, hands_own, if_either, poses, requeued_both, whole_handed}, Thieves.{in_both, in_parts, left_from, published_seen, taken_from}}, specs.{HoldPlaces.{is_bare_at, spare_at}, Places.{begins_at, calls_back_at, hands_on_at, has_loot_at, is_armed_at, searches_at, task_at}, Sound.{Aims, HasBatch, HasQueue, SoundAt}, Whole.{HasOne, HasWhole, IsGenuine, IsWhole, Profile, may_let_go, queued, runnables_in, stock, with_worker}, Works.{Steps, Suits}}}

-- A SHARE, of the first of which something is polled

abbrev nobody : List Runnable
nobody = []

take_none : (n : ℕ) → take n nobody ≡ nobody
take_none zero = refl
take_none (suc n) = refl

drop_none : (n : ℕ) → drop n nobody ≡ nobody
drop_none zero = refl
drop_none (suc n) = refl

least : (a len b : ℕ) → 0 < len → 0 < min (min (a + 1) len) (b + 1)
least a len b some = omega (arith, some)

one_less : (n : ℕ) → 0 < n → n ≡ suc (n - 1)
one_less n some = omega (arith, some)

-- of a queue that has some it has one at least
some_share : (len workers room held : ℕ) → 0 < len → (m : ℕ) × (share_of len workers room held ≡ suc m)
some_share len workers room held some =
    (share_of len workers room held - 1, one_less (share_of len workers room held) (least (len / workers) len (min room (128 - held)) some))

-- the two queues
abbrev two : List ℕ → Queue ℕ → Queues
two global queue = record { global = global; queue = queue }

abbrev rest : Configuration → ℕ → ℕ → Global Runnable → List Runnable
rest c room held g = share_queued g c.workers room held

-- the move, of what is seen of the queues
queues_seen : (c : Configuration) (room held : ℕ) (g : Global Runnable) (q : Queue Runnable) → two (drop (share_of (length (tasks_of g.values)) c.workers room held) (tasks_of g.values)) (published (queue_seen q) (drop 1 (take (share_of (length (tasks_of g.values)) c.workers room held) (tasks_of g.values)))) ≡ two (tasks_of (share_taken g c.workers room held).values) (queue_seen (published q (rest c room held g)))
queues_seen = grind (arith, length-map, drop-map, take-map, published_seen)

share_some : (c : Configuration) (f : First) (room held : ℕ) (d : Desk) (g : Global Runnable) (q : Queue Runnable) (r : Runnable) (rs : List Runnable) → g.values ≡ r ∷ rs
    → take_share c f room held d (two (tasks_of g.values) (queue_seen q)) ≡ does Turn (polls r.task.0 d) (two (tasks_of (share_taken g c.workers room held).values) (queue_seen (published q (rest c room held g))))
share_some = grind (arith, queues_seen)

share_none : (c : Configuration) (f : First) (room held : ℕ) (d : Desk) (g : Global Runnable) (q : Queue Runnable) → g.values ≡ [] → take_share c f room held d (two (tasks_of g.values) (queue_seen q)) ≡ turns (after_empty_look c f) d (two (tasks_of g.values) (queue_seen q))
share_none c f room held d g q is = rw is refl

module _ {B L : Type 0} (left : B → L) (spot : L → Option Said → Spot) (f : First) (room held : ℕ) (w w' : Worker) (s s' : Shared B) (e : Event) where
  pub share_came : SoundAt (Place.Pick (InPick.TakeShare f room held)) w s → HasWhole w s → e ≡ Turn → w' ≡ with_share s.config f (slice_get s.global.values 0) w
      → s' ≡ record s { seats = s'.seats; global = share_taken s.global s.config.workers room held } → TurnsChair w.index (λ chair. record chair { queue = published chair.queue (share_queued s.global s.config.workers room held) }) s s' → Steps left spot w s e w' s'
  share_came sound has turn goes kept chair = by s.global.values refl
    where
      q : Place
      q = Place.Pick (InPick.TakeShare f room held)

      its : Chair
      its = sound.seated.seat

      there : slice_get s.seats.items w.index ≡ Some its
      there = sound.seated.there

      whole_queue : its.queue.held ≡ []
      whole_queue = (sound.queue its there).0

      g : Global Runnable
      g = share_taken s.global s.config.workers room held

      more : List Runnable
      more = share_queued s.global s.config.workers room held

      n : ℕ
      n = share_of (length s.global.values) s.config.workers room held

      both : s' ≡ record s { seats = s'.seats; global = s'.global }
      both = subst (λ (z : Shared B). z ≡ record s { seats = z.seats; global = z.global }) (sym kept) refl

      global : s'.global ≡ g
      global = ap (λ (z : Shared B). z.global) kept

      -- what the move names
      seen : (c : Configuration) (d : Desk) → take_share c f room held d (two (tasks_of s.global.values) (queue_of (things_of s) w.index)) ≡ take_share c f room held d (two (tasks_of s.global.values) (queue_seen its.queue))
      seen c d = ap (λ y. take_share c f room held d (two (tasks_of s.global.values) (y))) (own_queue_seen w.index s its there)

      moves : (m : Moved Queues) → take_share s.config f room held (desk_of w) (two (tasks_of s.global.values) (queue_of (things_of s) w.index)) ≡ m → (p : Plan) (vs : Views) → Suits p vs w s → move_at p.config w.index (own_of w) (common_of left spot p vs s) (desk_of w) (things_with vs s) q ≡ with_queues w.index (things_with vs s) m
      moves m is p vs suits = subst (λ c. with_queues w.index (things_with vs s) (take_share c f room held (desk_of w) (two (tasks_of s.global.values) (queue_of (things_of s) w.index))) ≡ with_queues w.index (things_with vs s) m) suits.config (ap (with_queues w.index (things_with vs s)) is)

      -- NOTHING WAS Tthere
      by_none : s.global.values ≡ [] → w' ≡ record w { place = after_empty_look s.config f } → Steps left spot w s e w' s'
      by_none none goes =
          let next : Place = after_empty_look s.config f in
          let w1 : Worker = record w { place = next } in
          let empty : more ≡ [] = ap (λ (xs : List Runnable). drop 1 (take n xs)) none ∙ ap (drop 1) (take_none n) in
          let as_before : published its.queue more ≡ its.queue = ap (published its.queue) empty ∙ ap (λ xs. record its.queue { values = xs }) (append-nil its.queue.values) in
          let set : s'.seats.items ≡ slice_set s.seats.items w.index (record its { queue = its.queue }) = chair its there ∙ ap (λ y. slice_set s.seats.items w.index (record its { queue = y })) as_before in
          let left_over : g ≡ s.global = ap (λ xs. record s.global { values = xs }) (ap (drop n) none ∙ drop_none n ∙ sym none) in
          let m : Moved Queues = turns next (desk_of w) (two (tasks_of s.global.values) (queue_seen its.queue)) in
          let carries : (p : Place) → begins_at p ≡ None → hands_on_at p ≡ false → has_loot_at p ≡ false → searches_at p ≡ None → calls_back_at p ≡ None → spare_at p ≡ 64 → Carries p w w1 s =
          λ p begins hands loot searches calls spare. record { runnable = rw begins sound.runnable; hand = rw (begins, hands) sound.hand; loot = rw loot sound.loot; genuine = rw begins sound.genuine; stolen = sound.stolen; searching = rw searches tt; pooled = λ is. sound.pooled refl; serves = all_serve (task_at p) w.root w.role (sound.pooled refl); calm = sound.calm; left = rw calls sound.left; told = rw spare sound.told } in
          let around : (p : Place) → is_armed_at p ≡ false → HasQueue p its.queue → Aims p s.config w.index s'.seats.items → HasBatch p w.batch.values → closes_at p ≡ false → closing_in p ≡ None → is_bare_at p ≡ false → Around p w s s' =
          λ p armed queue aims batch closes closing bare. around_own p w s s' its its.queue there set (rw armed sound.seated) queue aims batch (sound.batch_place its there) (rw (closing, bare) sound.lets_go) (rw (closes, closing) (sound.phased its there)) in
          let to : (y : First) → Reaches q (after_empty_look s.config y) w w1 s s' = reaches w1 around carries in
          subst (λ v. Steps left spot w s e v s') (sym goes)
          (requeued_both left spot its its.queue q w w1 s s' e sound turn (record { same = refl; read = sound.time.read; asleep = sound.time.asleep }) both (ap (λ (y : Global Runnable). y.closed) global) there set (omega arith) refl refl (to f)
          (λ others before.
          whole_queued others w.index its its.queue w w1 s s' (kept ∙ ap (λ y. record s { seats = s'.seats; global = y }) left_over) there set (hands_own w.index its.queue its.queue w w1 (poses q w w1 s sound (to f).same refl refl (record { batch = refl; letters = refl; left = refl })) (λ t. refl) refl) (λ r has_r. inl has_r) before)
          (λ p vs suits. moves m (seen s.config (desk_of w) ∙ share_none s.config f room held (desk_of w) s.global its.queue none) p vs suits ∙ ap (λ (y : Global Runnable). record { event = Turn; choice = Plain; desk = desk_of w1; thing = set_global (set_queue w.index (things_with vs s) (queue_seen its.queue)) (tasks_of y.values) }) (sym (global ∙ left_over))))
        where
          reaches : (v : Worker) → ((p : Place) → is_armed_at p ≡ false → HasQueue p its.queue → Aims p s.config w.index s'.seats.items → HasBatch p w.batch.values → closes_at p ≡ false → closing_in p ≡ None → is_bare_at p ≡ false → Around p w s s')
              → ((p : Place) → begins_at p ≡ None → hands_on_at p ≡ false → has_loot_at p ≡ false → searches_at p ≡ None → calls_back_at p ≡ None → spare_at p ≡ 64 → Carries p w v s) → (y : First) → Reaches q (after_empty_look s.config y) w v s s'
          reaches v around carries First.Own =
              record { same = refl; quiet = λ h. sound.quiet refl; around = around Place.TakeRootFlag refl whole_queue tt sound.batch refl refl refl; carries = carries Place.TakeRootFlag refl refl refl refl refl refl }
          reaches v around carries First.Global =
              let b = AfterPop.Pick First.Global in
              if_either (λ z. Reaches q z w v s s') (has_others s.config) (Place.Pop InPop.LoadPopHead b) (Place.Pop InPop.PopAlone b)
              (record { same = refl; quiet = λ h. sound.quiet refl; around = around (Place.Pop InPop.LoadPopHead b) refl whole_queue tt sound.batch refl refl refl; carries = carries (Place.Pop InPop.LoadPopHead b) refl refl refl refl refl refl })
              (record { same = refl; quiet = λ h. sound.quiet refl; around = around (Place.Pop InPop.PopAlone b) refl whole_queue tt sound.batch refl refl refl; carries = carries (Place.Pop InPop.PopAlone b) refl refl refl refl refl refl })

      -- SOMETHING CAME
      by_some : (r : Runnable) (rs : List Runnable) → s.global.values ≡ r ∷ rs → w' ≡ polling r w → Steps left spot w s e w' s'
      by_some r rs some goes =
          subst (λ v. Steps left spot w s e v s') (sym goes)
          (requeued_both left spot its y q w w1 s s' e sound turn (record { same = refl; read = sound.time.read; asleep = sound.time.asleep }) both (ap (λ (z : Global Runnable). z.closed) global) there set grows refl refl to whole
          (λ p vs suits. moves m (seen s.config (desk_of w) ∙ share_some s.config f room held (desk_of w) s.global its.queue r rs some) p vs suits ∙ ap (λ (z : Global Runnable). record { event = Turn; choice = Plain; desk = desk_of w1; thing = set_global (set_queue w.index (things_with vs s) (queue_seen y)) (tasks_of z.values) }) (sym global)))
        where
          w1 : Worker
          w1 = polling r w

          y : Queue Runnable
          y = published its.queue more

          m : Moved Queues
          m = does Turn (polls r.task.0 (desk_of w)) (two (tasks_of g.values) (queue_seen y))

          set : s'.seats.items ≡ slice_set s.seats.items w.index (record its { queue = y })
          set = chair its there

          grows : tail_of its.queue ≤ tail_of y
          grows = omega (arith, length-append its.queue.values more)

          -- the share is the oldest value and the others
          shared : take n s.global.values ≡ r ∷ more
          shared =
              let len : length s.global.values ≡ suc (length rs) = ap length some in
              let at_least = some_share (length s.global.values) s.config.workers room held (omega (arith, len)) in
              let it : take n s.global.values ≡ r ∷ take at_least.0 rs = ap (take n) some ∙ ap (λ k. take k (r ∷ rs)) at_least.1 in
              it ∙ ap (λ xs. r ∷ xs) (sym (ap (drop 1) it))

          among : (x : Runnable) → Contains (r ∷ more) x → IsGenuine s.tasks.items x
          among x has_x = has.whole.queued_there x (taken_from n s.global.values x (subst (λ xs. Contains xs x) (sym shared) has_x))

          genuine : IsGenuine s.tasks.items r
          genuine = among r (0, omega arith, refl)

          around : Around (Place.Poll r.task.0 InPoll.BeginPoll) w s s'
          around = around_own (Place.Poll r.task.0 InPoll.BeginPoll) w s s' its y there set sound.seated whole_queue tt sound.batch (sound.batch_place its there) sound.lets_go (sound.phased its there)

          to : Reaches q w1.place w w1 s s'
          to = begins_poll q r w w1 s s' sound refl refl refl refl refl refl (no_root q w s r sound genuine sound.runnable) (inr genuine) (λ other. sound.pooled refl) sound.told around

          -- THE BALANCE: first all of the share is in the hands, and then the others in the run queue
          w2 : Worker
          w2 = record w1 { loot = record w.loot { values = more } }

          s1 : Shared B
          s1 = record s { global = g }

          none : w.loot.values ≡ []
          none = sound.loot.none refl

          pose : Poses w w1
          pose = poses q w w1 s sound to.same refl refl (record { batch = refl; letters = refl; left = refl })

          moved : (t others : ℕ) → (others + runnables_in t (hands_of w)) + stock t s ≡ (others + runnables_in t (hands_of w2)) + stock t s1
          moved t others =
              let had : runnables_in t (hands_of w) ≡ 0 = ap (λ o. runnables_in t (option_to_list o ++ w.loot.values)) sound.hand ∙ ap (runnables_in t) none in
              let has_now : runnables_in t (hands_of w2) ≡ runnables_in t (take n s.global.values) = ap (runnables_in t) (sym shared) in
              omega (arith, had, has_now, in_parts t n s.global.values)

          count : (t : ℕ) → runnables_in t (hands_of w1) + runnables_in t (y.values ++ y.held) ≡ runnables_in t (hands_of w2) + runnables_in t (queued its)
          count t =
              let mine : runnables_in t (hands_of w1) ≡ runnables_in t (r ∷ []) + 0 = in_both t (r ∷ []) w.loot.values ∙ ap (λ xs. runnables_in t (r ∷ []) + runnables_in t xs) none in
              let with_others : runnables_in t (hands_of w2) ≡ runnables_in t (r ∷ []) + runnables_in t more = in_both t (r ∷ []) more in
              omega (arith, mine, with_others, in_both t (its.queue.values ++ more) its.queue.held, in_both t its.queue.values more, in_both t its.queue.values its.queue.held)

          older : (x : Runnable) → Contains (y.values ++ y.held) x → Contains (queued its) x ⊎ IsGenuine s.tasks.items x
          older x has_x =
              elim (Contains-append_cases (its.queue.values ++ more) its.queue.held x has_x) [
                | inl z ↦ elim (Contains-append_cases its.queue.values more x z) [ inl old ↦ inl (Contains-append_left its.queue.values its.queue.held x old) | inr new ↦ inr (among x (Contains-append_right (r ∷ []) more x new)) ]
                | inr z ↦ inl (Contains-append_right its.queue.values its.queue.held x z)
              ]

          whole : (others : Profile) → IsWhole (with_worker others w) s → IsWhole (with_worker others w1) s'
          whole others before =
              let held : IsWhole (with_worker others w2) s1 =
              whole_handed others w w2 s g refl refl (record { polls = pose.polls; claims = pose.claims; searching = refl; counts = pose.counts; index = refl; published = pose.published; drops = pose.drops; told = (record { batch = refl; letters = refl; left = refl }) })
              (λ t slot found home one. subst (HasOne (may_let_go s) slot.cell.phase) (moved t (others.runnables t)) one)
              (λ t more. as_many _ _ (moved t (others.runnables t)))
              (λ x has_x. before.queued_there x (left_from n s.global.values x has_x)) before in
              whole_queued others w.index its y w2 w1 s1 s' kept there set
              (hands_own w.index its.queue y w2 w1 (record { polls = refl; claims = refl; searching = refl; counts = refl; index = refl; published = refl; drops = refl; told = (record { batch = refl; letters = refl; left = refl }) }) count refl) older held

      by : (xs : List Runnable) → s.global.values ≡ xs → Steps left spot w s e w' s'
      by [] is = by_none is (goes ∙ ap (λ (xs : List Runnable). with_share s.config f (slice_get xs 0) w) is)
      by (r ∷ rs) is = by_some r rs is (goes ∙ ap (λ (xs : List Runnable). with_share s.config f (slice_get xs 0) w) is)
