-- The callbacks: a task is woken, which something pays. The whole step, whatever pays.
use Rattle.std.proofs.{Common.{[], ◌≡◌, ℕ, ◌==◌, ◌||◌, Bool, true, false, List, map, Option, Some, None, is_some, refl, sym, ap, subst, ◌∙◌, slice_get, slice_set, if◌then◌else◌, arith}, lemmas.{Bool.eq-eqb, List.map-set}}
use Rattle.exec_waiters.specs.declared.deferred.Deferred.{Deferred}
use Rattle.exec_task.specs.{Phases.{is_idle as is_cell_idle, runnable_of}, declared.{body.Said.Said, runnable.Runnable.Runnable}}
use Rattle.exec_machine.specs.{Choice.{Choice.Pays, Payer}, declared.{event.Event.{Event, TheVariants.Wake}, state.Next.Next}, Progress.Plan, Ranges.ring_size, Tasks.{after_payment, is_paid, is_woken_here, wake, woken}, Tests.is_idle, World.{Common, Own as Books, Task, task_of}}
use Rattle.exec_moves.specs.{Callback.{after_callbacks, has_callbacks, next_callback, to_queue, woken_by}, declared.{handing.{AfterCallbacks.AfterCallbacks, AfterPush.AfterPush, InGlobal.InGlobal, InPush.InPush}, place.{InCallbacks.InCallbacks, Place.Place}}, Move.move_at, Seen.{next_at, polls_at, serves_at}, State.Desk}
use Rattle.exec_parts.{specs.{declared.parts.{mail.Reply.Reply, shared.Shared.Shared, task_slot.TaskSlot.TaskSlot, worker.Worker.Worker}, MailTakes.queued_after, Pooled.woken_slot, Spots.Spot, Tests.{after_callbacks_of, first_push_of, is_anything_told, next_callback_of}, View.{Views, common_of, desk_of, own_of, owed_at, task_seen, things_with, visible, with_view}}, proofs.Facts.not_same}
use Rattle.exec_invariants.{specs.{Holding.{IsHolding, box_of, holder_of, nap_of, thing_of}, Sound.SoundAt, Whole.{IsGenuine, IsWhole, Profile, hands_of, with_worker}, Works.{Steps, Suits}}, proofs.{CallsBack.{after_seen, callbacks_seen}, Cells.{body_woken, complete_woken, idle_seen, woken_seen}, DedicatedSeen.pool_seen, Flagged.{flag_set, flag_then}, Hearing.hears_so, MailBack.{next_fares, next_sound, rests_next}, Slots.task_there, Turning.view_found}}
use Rattle.exec_messages.proofs.{BackMarks.{Remade, remade}, BackOthers.{Hands, OwnTurn, Reads, hands_busy, hands_idle, hands_root, spares_turned, spares_woken, whole_woken, with_left}, BackTurns.{Ordinary, Retasked, apart_of, genuine_woken, ordinary_woken, pushes_on, retasked, root_woken}}

-- WHERE THE CALLBACKS LEAD rests on neither place, flag nor hand, nor on what is to be told

next_flagged : (n : AfterCallbacks) (u : Worker) (q : Place) (f h : Option Runnable) → next_callback_of n (record u { place = q; root_ready = f; hand = h }) ≡ next_callback_of n u
next_flagged = grind arith

pub after_left : (n : AfterCallbacks) (w : Worker) (left' : Deferred Reply Reply) → after_callbacks_of n (with_left w left') ≡ after_callbacks_of n w
after_left = grind arith

after_unread : (size i : ℕ) (s : Common) (n : AfterCallbacks) (d : Desk) (ws : List ℕ) (b : Bool) → after_callbacks size i s n (record d { wakes = ws; root_ready = b }) ≡ after_callbacks size i s n d
after_unread = grind arith

-- what a wake makes of a task's worker, for an ordinary task and for a root
wakes_other : (size i : ℕ) (me : Books) (s : Common) (n : AfterCallbacks) (t : ℕ) (d : Desk) (it : Task) → it.home ≡ None
    → woken_by size i me s n t d it ≡ (if is_idle it.phase then record d { hand = Some t; place = to_queue s i (AfterPush.CallBack n) } else record d { place = next_callback size i me s n d })
wakes_other size i me s n t d it home = ap (λ (h : Option ℕ). woken_by size i me s n t d (record it { home = h })) home

wakes_root : (size i j : ℕ) (me : Books) (s : Common) (n : AfterCallbacks) (t : ℕ) (d : Desk) (it : Task) → it.home ≡ Some j
    → woken_by size i me s n t d it ≡ record d { root_ready = d.root_ready || is_idle it.phase; place = next_callback size i me s n (record d { root_ready = d.root_ready || is_idle it.phase }) }
wakes_root size i j me s n t d it home = ap (λ (h : Option ℕ). woken_by size i me s n t d (record it { home = h })) home

-- the machine reads these off a place
pub record Goes (q : Place) : Type 0 where
  pub polls : polls_at q ≡ None
  pub free : next_at q ≡ Next.Free
  pub unserved : serves_at q ≡ false
  pub owes : (m : ℕ) → owed_at m q ≡ []

push_reads : (n : AfterCallbacks) (w : Worker) → Reads (first_push_of (AfterPush.CallBack n) w)
push_reads = grind arith

push_goes : (n : AfterCallbacks) (w : Worker) → Goes (first_push_of (AfterPush.CallBack n) w)
push_goes = grind arith

module _ {B : Type 0} where
  pub next_reads : (n : AfterCallbacks) (v : Worker) (s : Shared B) → SoundAt (Place.Callbacks InCallbacks.TakeBatch n) v s → v.searching ≡ false → Reads (next_callback_of n v)
  next_reads n v s sound idle =
      let to = next_fares n v s sound idle in
      record { polls = ap (λ k. k.polls) to.same; claims = ap (λ k. k.claims) to.same; counts = to.counts; published = to.published; drops = ap (λ k. k.drops) to.same }

  pub next_goes : (n : AfterCallbacks) (v : Worker) (s : Shared B) → SoundAt (Place.Callbacks InCallbacks.TakeBatch n) v s → v.searching ≡ false → Goes (next_callback_of n v)
  next_goes n v s sound idle =
      let to = next_fares n v s sound idle in
      record { polls = ap (λ k. k.polls) to.same; free = ap (λ k. k.next) to.same; unserved = (rests_next 0 n v).unserved; owes = λ m. (rests_next m n v).owes }

module _ {B L : Type 0} (left : B → L) (spot : L → Option Said → Spot) where
  -- WHERE THE MACHINE HAS THE CALLBACKS LEAD, whatever of the flag and of wakes there is
  pub leads : (x : InCallbacks) (n : AfterCallbacks) (w : Worker) (s sa : Shared B) (ws : List ℕ) (b : Bool) (left' : Deferred Reply Reply) → left' ≡ record w.home.deferred { notes = record w.home.deferred.notes { wakes = left'.notes.wakes } }
      → ws ≡ map (λ t. t.0) left'.notes.wakes.items → (sound : SoundAt (Place.Callbacks x n) w s) → SoundAt (Place.Callbacks InCallbacks.TakeBatch n) (record w { place = Place.Callbacks InCallbacks.TakeBatch n; home = record w.home { deferred = left' } }) sa
      → (p : Plan) (vs : Views) → Suits p vs w s → next_callback (ring_size p.config) w.index (own_of w) (common_of left spot p vs s) n (record (desk_of w) { wakes = ws; root_ready = b }) ≡ next_callback_of n (with_left w left')
  leads x n w s sa ws b left' same wakes sound there p vs suits =
      let size = ring_size p.config in
      let cs = common_of left spot p vs s in
      let d : Desk = record (desk_of w) { wakes = ws; root_ready = b } in
      let v : Worker = record w { place = Place.Callbacks InCallbacks.TakeBatch n; home = record w.home { deferred = left' } } in
      let call : Place = Place.Callbacks InCallbacks.CallBack n in
      let shape : record (desk_of w) { wakes = ws; root_ready = b } ≡ record (desk_of v) { root_ready = b; place = w.place } = grind (arith, wakes, same) in
      let told : has_callbacks (own_of w) d ≡ is_anything_told v = ap (has_callbacks (own_of w)) shape ∙ callbacks_seen v _ there.told in
      let after : after_callbacks size w.index cs n d ≡ after_callbacks_of n (with_left w left') = after_unread size w.index cs n (desk_of w) ws b ∙ after_seen left spot p vs (Place.Callbacks x n) w s sound suits n ∙ sym (after_left n w left') in
      ap (λ c. if c then call else after_callbacks size w.index cs n d) told ∙ ap (λ y. if is_anything_told v then call else y) after

  -- WHAT PAYS, as the machine has it
  pub record IsPaying (payer : Payer) (x : InCallbacks) (n : AfterCallbacks) (t : ℕ) (w : Worker) (s s1 : Shared B) (left' : Deferred Reply Reply) (p : Plan) (vs : Views) : Type 0 where
    pub moves : move_at p.config w.index (own_of w) (common_of left spot p vs s) (desk_of w) (things_with vs s) (Place.Callbacks x n)
        ≡ record { event = Wake t; choice = Pays payer; desk = woken_by (ring_size p.config) w.index (own_of w) (common_of left spot p vs s) n t (record (desk_of w) { wakes = map (λ m. m.0) left'.notes.wakes.items }) (task_of (common_of left spot p vs s) t); thing = things_with vs s }
    pub paid : is_paid (own_of w) (common_of left spot p vs s) w.index t payer ≡ true
    pub after : after_payment (common_of left spot p vs s) (own_of w).polls payer ≡ common_of left spot p vs (record s { requests = s1.requests; sleepers = s1.sleepers })
    pub things : things_with vs (record s { requests = s1.requests; sleepers = s1.sleepers }) ≡ things_with vs s

  -- THE STEP, as it is whatever the task is
  record To (payer : Payer) (x : InCallbacks) (n : AfterCallbacks) (t : ℕ) (w : Worker) (q' : Place) (f h : Option Runnable) (s s1 : Shared B) (slot : TaskSlot B) (left' : Deferred Reply Reply) : Type 0 where
    sound : SoundAt q' (record w { place = q'; root_ready = f; hand = h; home = record w.home { deferred = left' } }) (record s { tasks = s1.tasks; requests = s1.requests; sleepers = s1.sleepers })
    reads : Reads q'
    goes : Goes q'
    hands : Hands t slot h
    here : is_woken_here w.index slot.home ≡ true
    home : (j : ℕ) → slot.home ≡ Some j → j ≡ w.index
    desk : (p : Plan) (vs : Views) → Suits p vs w s → woken_by (ring_size p.config) w.index (own_of w) (common_of left spot p vs s) n t (record (desk_of w) { wakes = map (λ m. m.0) left'.notes.wakes.items }) (task_seen left spot slot)
        ≡ desk_of (record w { place = q'; root_ready = f; hand = h; home = record w.home { deferred = left' } })

  -- what is the same whatever is paid
  pub record Pays1 (payer : Payer) (x : InCallbacks) (n : AfterCallbacks) (t : ℕ) (w : Worker) (s s1 : Shared B) (slot : TaskSlot B) (left' : Deferred Reply Reply) : Type 0 where
    pub sound : SoundAt (Place.Callbacks x n) w s
    pub idle : w.searching ≡ false
    pub there : slice_get s.tasks.items t ≡ Some slot
    pub home : (j : ℕ) → slot.home ≡ Some j → (j ≡ w.index) × (t ≡ w.root)
    pub items : s1.tasks.items ≡ slice_set s.tasks.items t (woken_slot slot)
    pub same : left' ≡ record w.home.deferred { notes = record w.home.deferred.notes { wakes = left'.notes.wakes } }
    pub remade : Remade n w s s1 left'
    pub turn : OwnTurn w.index s s1
    pub holding : (others : Profile) → IsWhole (with_worker others w) s
        → IsHolding (hands_of (with_worker others (with_left w left'))) s.config.workers (map holder_of s.tasks.items) (map thing_of s1.requests.items) (map nap_of s1.sleepers.items) (map box_of s.seats.items)
    pub paying : (p : Plan) (vs : Views) → Suits p vs w s → IsPaying payer x n t w s s1 left' p vs

  woken_to : (payer : Payer) (x : InCallbacks) (n : AfterCallbacks) (t : ℕ) (w : Worker) (q' : Place) (f h : Option Runnable) (s s1 : Shared B) (slot : TaskSlot B) (left' : Deferred Reply Reply) → Pays1 payer x n t w s s1 slot left' → To payer x n t w q' f h s s1 slot left'
      → Steps left spot w s (Wake t) (record w { place = q'; root_ready = f; hand = h; home = record w.home { deferred = left' } }) (record s { tasks = s1.tasks; requests = s1.requests; sleepers = s1.sleepers })
  woken_to payer x n t w q' f h s s1 slot left' by to =
      let before : Place = Place.Callbacks x n in
      let w1 : Worker = record w { place = q'; root_ready = f; hand = h; home = record w.home { deferred = left' } } in
      let s2 : Shared B = record s { tasks = s1.tasks; requests = s1.requests; sleepers = s1.sleepers } in
      let sa : Shared B = record s { requests = s1.requests; sleepers = s1.sleepers } in (
        (λ p vs suits.
            let cs = common_of left spot p vs s in
            let ca = common_of left spot p vs sa in
            let seen = task_seen left spot in
            let paying = by.paying p vs suits in
            let again : with_view vs w.index (visible w) ≡ vs = view_found vs w.index (visible w) suits.seen in
            let it : task_of cs t ≡ seen slot = task_there left spot s.tasks.items t slot by.there in
            let tasks : map seen s1.tasks.items ≡ slice_set ca.tasks t (woken (task_of ca t)) =
            ap (map seen) by.items ∙ map-set seen s.tasks.items t (woken_slot slot) ∙ ap (slice_set (map seen s.tasks.items) t) (woken_seen left spot slot ∙ ap woken (sym it))
            in
            let leads_on : woken_by (ring_size p.config) w.index (own_of w) cs n t (record (desk_of w) { wakes = map (λ m. m.0) left'.notes.wakes.items }) (task_of cs t) ≡ desk_of w1 =
            ap (woken_by (ring_size p.config) w.index (own_of w) cs n t (record (desk_of w) { wakes = map (λ m. m.0) left'.notes.wakes.items })) it ∙ to.desk p vs suits
            in
            record {
              choice = Pays payer;
              moves =
                  subst (λ y. move_at p.config w.index (own_of w) cs (desk_of w) (things_with vs s) y ≡ record { event = Wake t; choice = Pays payer; desk = desk_of w1; thing = things_with (with_view vs w.index (visible w1)) s2 }) (sym by.sound.here)
                  (paying.moves
                  ∙ ap (λ k. record { event = Wake t; choice = Pays payer; desk = k; thing = things_with vs s }) leads_on
                  ∙ ap (λ k. record { event = Wake t; choice = Pays payer; desk = desk_of w1; thing = k }) (sym paying.things)
                  ∙ ap (λ k. record { event = Wake t; choice = Pays payer; desk = desk_of w1; thing = things_with k s2 }) (sym again));
              may = (paying.paid, (ap (λ y. is_woken_here w.index y.home) it ∙ to.here, tt));
              own = rw (to.goes.polls, to.goes.free, to.goes.unserved, to.goes.owes w.workers, by.sound.here) refl;
              common = ap (λ z. common_of left spot p z s2) again ∙ ap (λ ts. record ca { tasks = ts }) tasks ∙ ap (λ c. wake c t) (sym paying.after);
            }),
        to.sound,
        hears_so t slot (woken_slot slot) refl refl by.there by.items (record { home = refl; body = body_woken slot.cell.phase slot.body; going = λ h. sym (complete_woken slot.cell.phase) ∙ h; told = λ answer hears. (hears, refl) }),
        record {
          spares = λ j other. spares_turned w.index j s s1 other by.turn by.remade.carried.room (spares_woken w.index j t s s1 slot other by.there by.items to.home by.sound.homes);
          whole = λ others whole. whole_woken x n t w w1 q' f h s s1 slot left' others by.sound by.there by.items to.hands to.reads refl by.turn.keeps (by.holding others whole) whole;
        },
      )

  -- BY WHAT THE TASK IS

  pub woken_steps : (payer : Payer) (x : InCallbacks) (n : AfterCallbacks) (t : ℕ) (w w' : Worker) (s s1 s' : Shared B) (e : Event) (slot : TaskSlot B) (left' : Deferred Reply Reply) → Pays1 payer x n t w s s1 slot left'
      → w' ≡ (if is_cell_idle slot.cell.phase then queued_after t (runnable_of slot.cell) n (with_left w left') else record (with_left w left') { place = next_callback_of n (with_left w left') })
      → s' ≡ record s { tasks = s1.tasks; requests = s1.requests; sleepers = s1.sleepers } → e ≡ Wake t → Steps left spot w s e w' s'
  woken_steps payer x n t w w' s s1 s' e slot left' by goes kept event = by_home slot.home refl
    where
      q : Place
      q = Place.Callbacks InCallbacks.TakeBatch n

      u : Worker
      u = with_left w left'

      v : Worker
      v = record w { place = q; home = record w.home { deferred = left' } }

      sa : Shared B
      sa = record s { requests = s1.requests; sleepers = s1.sleepers }

      s2 : Shared B
      s2 = record s { tasks = s1.tasks; requests = s1.requests; sleepers = s1.sleepers }

      mid : SoundAt q v sa
      mid = remade x n w s s1 left' by.sound by.idle by.remade

      d : Desk
      d = record (desk_of w) { wakes = map (λ m. m.0) left'.notes.wakes.items }

      shape : desk_of u ≡ d
      shape = ap (λ (y : Deferred Reply Reply). desk_of (with_left w y)) by.same

      next : (b : Bool) (p : Plan) (vs : Views) → Suits p vs w s → next_callback (ring_size p.config) w.index (own_of w) (common_of left spot p vs s) n (record d { root_ready = b }) ≡ next_callback_of n u
      next b = leads x n w s sa (map (λ m. m.0) left'.notes.wakes.items) b left' by.same refl by.sound mid

      done : (q' : Place) (f h : Option Runnable) → To payer x n t w q' f h s s1 slot left' → w' ≡ record w { place = q'; root_ready = f; hand = h; home = record w.home { deferred = left' } } → Steps left spot w s e w' s'
      done q' f h to at =
          subst (λ y. Steps left spot w s e w' y) (sym kept) (subst (λ y. Steps left spot w s e y s2) (sym at)
          (subst (λ y. Steps left spot w s y (record w { place = q'; root_ready = f; hand = h; home = record w.home { deferred = left' } }) s2) (sym event) (woken_to payer x n t w q' f h s s1 slot left' by to)))

      -- it goes on with the next item
      on : (f : Option Runnable) → SoundAt q (record v { root_ready = f }) s2 → SoundAt (next_callback_of n u) (record w { place = next_callback_of n u; root_ready = f; hand = w.hand; home = record w.home { deferred = left' } }) s2
      on f sound =
          subst (λ y. SoundAt y (record w { place = y; root_ready = f; hand = w.hand; home = record w.home { deferred = left' } }) s2) (next_flagged n u q f w.hand)
          (next_sound n (record v { root_ready = f }) s2 sound by.idle)

      reads : (f : Option Runnable) → SoundAt q (record v { root_ready = f }) s2 → Reads (next_callback_of n u)
      reads f sound = subst Reads (next_flagged n u q f w.hand) (next_reads n (record v { root_ready = f }) s2 sound by.idle)

      onward : (f : Option Runnable) → SoundAt q (record v { root_ready = f }) s2 → Goes (next_callback_of n u)
      onward f sound = subst Goes (next_flagged n u q f w.hand) (next_goes n (record v { root_ready = f }) s2 sound by.idle)

      by_home : (o : Option ℕ) → slot.home ≡ o → Steps left spot w s e w' s'
      by_home (Some j) home =
          let its = by.home j home in
          let f : Option Runnable = flag_then w.root_ready slot in
          let at_root : slice_get s.tasks.items w.root ≡ Some slot = ap (slice_get s.tasks.items) (sym its.1) ∙ by.there in
          let items : s1.tasks.items ≡ slice_set s.tasks.items w.root (woken_slot slot) = by.items ∙ ap (λ k. slice_set s.tasks.items k (woken_slot slot)) its.1 in
          let sound : SoundAt q (record v { root_ready = f }) s2 = retasked n v f sa s1 mid (subst (λ ts. Retasked v f sa ts) (sym items) (root_woken n v sa slot mid at_root)) in
          let same : (t == w.root) ≡ true = eq-eqb t w.root its.1 in
          done (next_callback_of n u) f w.hand
          (record {
            sound = on f sound;
            reads = reads f sound;
            goes = onward f sound;
            hands = subst (Hands t slot) (sym by.sound.hand) (hands_root t j slot home);
            here = ap (is_woken_here w.index) home ∙ eq-eqb j w.index its.0;
            home = λ k is. (by.home k is).0;
            desk = λ p vs suits.
                let b : Bool = is_some w.root_ready || is_idle (task_seen left spot slot).phase in
                wakes_root (ring_size p.config) w.index j (own_of w) (common_of left spot p vs s) n t d (task_seen left spot slot) home
                ∙ ap (λ y. record d { root_ready = b; place = y }) (next b p vs suits)
                ∙ ap (λ c. record d { root_ready = is_some w.root_ready || c; place = next_callback_of n u }) (idle_seen slot.cell.phase slot.poller)
                ∙ ap (λ c. record d { root_ready = c; place = next_callback_of n u }) (sym (flag_set (is_cell_idle slot.cell.phase) (runnable_of slot.cell) w.root_ready))
                ∙ ap (λ (y : Desk). record y { root_ready = is_some f; place = next_callback_of n u }) (sym shape);
          })
          (goes ∙ ap (λ c. if is_cell_idle slot.cell.phase then (if c then record u { root_ready = Some (runnable_of slot.cell); place = next_callback_of n u } else record u { hand = Some (runnable_of slot.cell); place = first_push_of (AfterPush.CallBack n) u }) else record u { place = next_callback_of n u }) same
          ∙ flagged (is_cell_idle slot.cell.phase))
        where
          flagged : (c : Bool) → (if c then record u { root_ready = Some (runnable_of slot.cell); place = next_callback_of n u } else record u { place = next_callback_of n u })
              ≡ record w { place = next_callback_of n u; root_ready = (if c then Some (runnable_of slot.cell) else w.root_ready); hand = w.hand; home = record w.home { deferred = left' } }
          flagged true = refl
          flagged false = refl
      by_home None home = by_idle (is_cell_idle slot.cell.phase) refl
        where
          ord : Ordinary t v sa slot
          ord = record { there = by.there; home = home }

          sound : SoundAt q v s2
          sound = retasked n v w.root_ready sa s1 mid (subst (λ ts. Retasked v w.root_ready sa ts) (sym by.items) (ordinary_woken n t v sa slot mid ord))

          here : is_woken_here w.index slot.home ≡ true
          here = ap (is_woken_here w.index) home

          nobody : (j : ℕ) → slot.home ≡ Some j → j ≡ w.index
          nobody j is = let never : None ≡ Some j = sym home ∙ is in absurd (cc)

          apart : (t == w.root) ≡ false
          apart = not_same t w.root (apart_of n t v sa slot mid ord)

          by_idle : (c : Bool) → is_cell_idle slot.cell.phase ≡ c → Steps left spot w s e w' s'
          by_idle true is =
              let r : Runnable = runnable_of slot.cell in
              let q' : Place = first_push_of (AfterPush.CallBack n) w in
              let number : slot.cell.number ≡ record { 0 = t } = mid.homes.number t slot by.there in
              let genuine = subst (λ ts. IsGenuine ts r) (sym by.items) (genuine_woken t v sa slot mid.homes ord) in
              done q' w.root_ready (Some r)
              (record {
                sound = pushes_on n v s2 r sound by.idle genuine;
                reads = push_reads n w;
                goes = push_goes n w;
                hands = hands_idle t slot number is;
                here = here;
                home = nobody;
                desk = λ p vs suits.
                    let cs = common_of left spot p vs s in
                    wakes_other (ring_size p.config) w.index (own_of w) cs n t d (task_seen left spot slot) home
                    ∙ ap (λ c. if c then record d { hand = Some t; place = to_queue cs w.index (AfterPush.CallBack n) } else record d { place = next_callback (ring_size p.config) w.index (own_of w) cs n d }) (idle_seen slot.cell.phase slot.poller ∙ is)
                    ∙ ap (λ c. record d { hand = Some t; place = (if c then Place.Push InPush.LoadPushHead (AfterPush.CallBack n) else Place.Global InGlobal.Append (AfterPush.CallBack n)) }) (pool_seen left spot p vs (Place.Callbacks x n) w s by.sound suits)
                    ∙ ap (λ m. record d { hand = Some m; place = q' }) (sym (ap (λ k. k.0) number))
                    ∙ ap (λ (y : Desk). record y { hand = Some r.task.0; place = q' }) (sym shape);
              })
              (goes ∙ ap (λ c. if c then queued_after t r n u else record u { place = next_callback_of n u }) is
              ∙ ap (λ c. if c then record u { root_ready = Some r; place = next_callback_of n u } else record u { hand = Some r; place = first_push_of (AfterPush.CallBack n) u }) apart)
          by_idle false is =
              done (next_callback_of n u) w.root_ready w.hand
              (record {
                sound = on w.root_ready sound;
                reads = reads w.root_ready sound;
                goes = onward w.root_ready sound;
                hands = subst (Hands t slot) (sym by.sound.hand) (hands_busy t slot is);
                here = here;
                home = nobody;
                desk = λ p vs suits.
                    let cs = common_of left spot p vs s in
                    wakes_other (ring_size p.config) w.index (own_of w) cs n t d (task_seen left spot slot) home
                    ∙ ap (λ c. if c then record d { hand = Some t; place = to_queue cs w.index (AfterPush.CallBack n) } else record d { place = next_callback (ring_size p.config) w.index (own_of w) cs n d }) (idle_seen slot.cell.phase slot.poller ∙ is)
                    ∙ ap (λ y. record d { place = y }) (next (is_some w.root_ready) p vs suits)
                    ∙ ap (λ (y : Desk). record y { place = next_callback_of n u }) (sym shape);
              })
              (goes ∙ ap (λ c. if c then queued_after t (runnable_of slot.cell) n u else record u { place = next_callback_of n u }) is)
