-- The callbacks: the end of a thing is sent to a task that waits for it elsewhere. The whole step, whatever it is the end of.
use Rattle.std.proofs.{Common.{[], ◌≡◌, ℕ, zero, suc, ◌+◌, ◌<◌, Bool, true, false, not, List, ◌∷◌, Option, Some, None, nat_lt, refl, sym, ap, subst, ◌∙◌, arith, slice_get, slice_set, if◌then◌else◌}, lemmas.Bool.lt-ltb}
use Rattle.exec_waiters.specs.declared.deferred.Deferred.{Deferred}
use Rattle.exec_task.specs.declared.body.Said.{Said}
use Rattle.exec_machine.specs.{After.common_after, Choice.Choice.Plain, declared.event.Event.{Event, TheVariants.Turn}, Progress.Plan, Ranges.ring_size, Tests.is_done, World.{Common, Own as Books, task_of}}
use Rattle.exec_moves.specs.{Callback.{Item.{Answers, Completes}, after_callbacks, has_callbacks, item_next, next_callback, tells_waiter}, declared.{handing.{AfterCallbacks.AfterCallbacks, Heard.Heard}, place.{InCallbacks.InCallbacks, Place.Place}}, Move.move_at, State.Desk, Told.in_order}
use Rattle.exec_parts.{specs.{declared.parts.{mail.Reply.Reply, shared.Shared.Shared, task_slot.TaskSlot.TaskSlot, worker.Worker.Worker}, MailTakes.after_sending_of, Phased.is_complete, Spots.Spot, Tests.{after_callbacks_of, is_anything_told, next_callback_of}, View.{Views, common_of, completions_in, desk_of, numbers_of_passing, own_of, results_in, things_with, visible, with_view}}, proofs.MailLets.callback_anywhere}
use Rattle.exec_invariants.{specs.{Hearing.StillHears, Rooted.HasHeard, Sound.SoundAt, Works.{Beside, Steps, Suits}}, proofs.{CallsBack.{after_seen, callbacks_seen}, Closes.now_done, MailBack.next_sound, Slots.task_there, Turning.view_found}}
use Rattle.exec_messages.proofs.{BackOthers.{Reads, with_left}, BackTurns.waits_on, BackWakes.{Goes, after_left, next_goes, next_reads}}

-- A NUMBER COMES INTO ITS PLACE among those that pass a test

module _ {T : Type 0} (test : T → Bool) where
  first_in_order : (n c : ℕ) (xs : List T) → n < c → in_order n (numbers_of_passing test c xs) ≡ n ∷ numbers_of_passing test c xs
  first_in_order n c [] less = refl
  first_in_order n c (x ∷ xs) less = grind (arith, lt-ltb, first_in_order n (suc c) xs (omega (arith, less)))

  later_in_order : (n c : ℕ) (ns : List ℕ) → c < n → in_order n (c ∷ ns) ≡ c ∷ in_order n ns
  later_in_order = grind arith

  numbers_from : (c : ℕ) (xs : List T) (i n : ℕ) (x y : T) → slice_get xs i ≡ Some x → test x ≡ false → test y ≡ true → n ≡ c + i → numbers_of_passing test c (slice_set xs i y) ≡ in_order n (numbers_of_passing test c xs)
  numbers_from c [] i n x y at failed so is = absurd (let never : None ≡ Some x = at in cc)
  numbers_from c (z ∷ zs) zero n x y at failed so is = grind (arith, first_in_order)
  numbers_from c (z ∷ zs) (suc i) n x y at failed so is = grind (arith, later_in_order, numbers_from (suc c) zs i n x y at failed so (omega (arith, is)))

  -- of one that didn't pass
  pub numbers_set : (xs : List T) (i : ℕ) (x y : T) → slice_get xs i ≡ Some x → test x ≡ false → test y ≡ true → numbers_of_passing test 0 (slice_set xs i y) ≡ in_order i (numbers_of_passing test 0 xs)
  numbers_set xs i x y at failed so = numbers_from 0 xs i i x y at failed so (omega arith)

-- WHAT COMES NEXT

pub item_completes : (me : Books) (d : Desk) (z : ℕ) (zs : List ℕ) → d.wakes ≡ [] → nat_lt 0 d.outputs ≡ false → me.ended ≡ [] → d.completions ≡ z ∷ zs → item_next me d ≡ Completes z
item_completes me d z zs wakes outputs ended is = rw (wakes, outputs, ended, is) refl

pub item_answers : (me : Books) (d : Desk) (r : ℕ) (rs : List ℕ) → d.wakes ≡ [] → nat_lt 0 d.outputs ≡ false → me.ended ≡ [] → d.completions ≡ [] → d.results ≡ r ∷ rs → item_next me d ≡ Answers r
item_answers me d r rs wakes outputs ended completions is = rw (wakes, outputs, ended, completions, is) refl

-- the machine's next item rests on no more than how many entries stand there
after_entries : (size i : ℕ) (s : Common) (n : AfterCallbacks) (d e : Desk) → d.entries ≡ e.entries → after_callbacks size i s n d ≡ after_callbacks size i s n e
after_entries = grind arith

module _ {B L : Type 0} (left : B → L) (spot : L → Option Said → Spot) where
  -- THE STEP
  pub record Sends (n : AfterCallbacks) (t : ℕ) (of : Heard) (w : Worker) (s s1 : Shared B) (slot : TaskSlot B) (left' : Deferred Reply Reply) : Type 0 where
    pub sound : SoundAt (Place.Callbacks InCallbacks.CallBack n) w s
    pub there : slice_get s.tasks.items t ≡ Some slot
    pub same : left' ≡ record w.home.deferred { notes = record w.home.deferred.notes { completions = left'.notes.completions }; results = left'.results }
    pub mid : SoundAt (Place.Callbacks InCallbacks.TakeBatch n) (record w { place = Place.Callbacks InCallbacks.TakeBatch n; home = record w.home { deferred = left' } }) s1
    pub heard : HasHeard w.index t of s1.requests.items s1.sleepers.items
    pub beside : (q' : Place) → Reads q' → Beside w s (record w { place = q'; home = record w.home { deferred = left' } }) s1
    pub hears : (q' : Place) → StillHears w s (record w { place = q'; home = record w.home { deferred = left' } }) s1
    pub moves : (p : Plan) (vs : Views) → Suits p vs w s → move_at p.config w.index (own_of w) (common_of left spot p vs s) (desk_of w) (things_with vs s) (Place.Callbacks InCallbacks.CallBack n)
        ≡ record { event = Turn; choice = Plain; desk = tells_waiter (ring_size p.config) w.index (own_of w) (common_of left spot p vs s) n (Some t) of (record (desk_of w) { completions = completions_in left'.notes.completions.items; results = results_in left'.results.items }); thing = things_with vs s1 }
    pub common : (p : Plan) (vs : Views) → common_of left spot p vs s1 ≡ common_of left spot p vs s

  sent_to : (n : AfterCallbacks) (t : ℕ) (of : Heard) (w : Worker) (q' : Place) (s s1 : Shared B) (slot : TaskSlot B) (left' : Deferred Reply Reply) → Sends n t of w s s1 slot left' → SoundAt q' (record w { place = q'; home = record w.home { deferred = left' } }) s1 → Reads q' → Goes q'
      → ((p : Plan) (vs : Views) → Suits p vs w s → tells_waiter (ring_size p.config) w.index (own_of w) (common_of left spot p vs s) n (Some t) of (record (desk_of w) { completions = completions_in left'.notes.completions.items; results = results_in left'.results.items }) ≡ desk_of (record w { place = q'; home = record w.home { deferred = left' } }))
      → Steps left spot w s Turn (record w { place = q'; home = record w.home { deferred = left' } }) s1
  sent_to n t of w q' s s1 slot left' by sound reads goes desk =
      let w1 : Worker = record w { place = q'; home = record w.home { deferred = left' } } in (
        (λ p vs suits.
            let cs = common_of left spot p vs s in
            let again : with_view vs w.index (visible w) ≡ vs = view_found vs w.index (visible w) suits.seen in
            let still : common_after p.config (own_of w) cs w.index Turn Plain ≡ cs = rw by.sound.here refl in
            record {
              choice = Plain;
              moves =
                  subst (λ y. move_at p.config w.index (own_of w) cs (desk_of w) (things_with vs s) y ≡ record { event = Turn; choice = Plain; desk = desk_of w1; thing = things_with (with_view vs w.index (visible w1)) s1 }) (sym by.sound.here)
                  (by.moves p vs suits
                  ∙ ap (λ k. record { event = Turn; choice = Plain; desk = k; thing = things_with vs s1 }) (desk p vs suits)
                  ∙ ap (λ k. record { event = Turn; choice = Plain; desk = desk_of w1; thing = things_with k s1 }) (sym again));
              may = tt;
              own = rw (goes.polls, goes.free, goes.unserved, goes.owes w.workers, by.sound.here) refl;
              common = ap (λ z. common_of left spot p z s1) again ∙ by.common p vs ∙ sym still;
            }),
        sound,
        by.hears q',
        by.beside q' reads,
      )

  pub sent_steps : (n : AfterCallbacks) (t : ℕ) (of : Heard) (w w' : Worker) (s s1 s' : Shared B) (e : Event) (slot : TaskSlot B) (left' : Deferred Reply Reply) → Sends n t of w s s1 slot left' → w'.place ≡ after_sending_of (not (is_complete slot.cell.phase)) t of n w'
      → w' ≡ record w { place = w'.place; home = record w.home { deferred = left' } } → s' ≡ s1 → e ≡ Turn → Steps left spot w s e w' s'
  sent_steps n t of w w' s s1 s' e slot left' by place at kept event = by_over (is_complete slot.cell.phase) refl
    where
      u : Worker
      u = with_left w left'

      v : Worker
      v = record w { place = Place.Callbacks InCallbacks.TakeBatch n; home = record w.home { deferred = left' } }

      d : Desk
      d = record (desk_of w) { completions = completions_in left'.notes.completions.items; results = results_in left'.results.items }

      shape : desk_of u ≡ d
      shape = ap (λ (y : Deferred Reply Reply). desk_of (with_left w y)) by.same

      done : (q' : Place) → w'.place ≡ q' → SoundAt q' (record w { place = q'; home = record w.home { deferred = left' } }) s1 → Reads q' → Goes q'
          → ((p : Plan) (vs : Views) → Suits p vs w s → tells_waiter (ring_size p.config) w.index (own_of w) (common_of left spot p vs s) n (Some t) of d ≡ desk_of (record w { place = q'; home = record w.home { deferred = left' } })) → Steps left spot w s e w' s'
      done q' leads_to sound reads goes desk =
          subst (λ y. Steps left spot w s e w' y) (sym kept) (subst (λ y. Steps left spot w s e y s1) (sym (at ∙ ap (λ y. record w { place = y; home = record w.home { deferred = left' } }) leads_to))
          (subst (λ y. Steps left spot w s y (record w { place = q'; home = record w.home { deferred = left' } }) s1) (sym event) (sent_to n t of w q' s s1 slot left' by sound reads goes desk)))

      over_seen : (p : Plan) (vs : Views) → is_done (task_of (common_of left spot p vs s) t).phase ≡ is_complete slot.cell.phase
      over_seen p vs = ap (λ y. is_done y.phase) (task_there left spot s.tasks.items t slot by.there) ∙ now_done slot.cell.phase slot.poller

      by_over : (b : Bool) → is_complete slot.cell.phase ≡ b → Steps left spot w s e w' s'
      by_over true over =
          let q' : Place = next_callback_of n u in
          let leads_to : w'.place ≡ q' = place ∙ ap (λ b. after_sending_of (not b) t of n w') over ∙ ap (next_callback_of n) at ∙ callback_anywhere n u w'.place in
          let same_next : next_callback_of n v ≡ q' = callback_anywhere n u (Place.Callbacks InCallbacks.TakeBatch n) in
          done q' leads_to
          (subst (λ y. SoundAt y (record w { place = y; home = record w.home { deferred = left' } }) s1) same_next (next_sound n v s1 by.mid by.sound.searching))
          (subst Reads same_next (next_reads n v s1 by.mid by.sound.searching))
          (subst Goes same_next (next_goes n v s1 by.mid by.sound.searching))
          (λ p vs suits.
          let cs = common_of left spot p vs s in
          let size = ring_size p.config in
          let before : Place = Place.Callbacks InCallbacks.CallBack n in
          let told : has_callbacks (own_of w) d ≡ is_anything_told v = ap (has_callbacks (own_of w)) (sym shape) ∙ callbacks_seen v _ by.mid.told in
          let after : after_callbacks size w.index cs n d ≡ after_callbacks_of n u = after_entries size w.index cs n d (desk_of w) refl ∙ after_seen left spot p vs before w s by.sound suits n ∙ sym (after_left n w left') in
          let next : next_callback size w.index (own_of w) cs n d ≡ q' = ap (λ c. if c then before else after_callbacks size w.index cs n d) told ∙ ap (λ y. if is_anything_told v then before else y) after in
          ap (λ b. if b then record d { place = next_callback size w.index (own_of w) cs n d } else record d { place = Place.Callbacks (InCallbacks.WakeWaiter t of) n }) (over_seen p vs ∙ over)
          ∙ ap (λ y. record d { place = y }) next
          ∙ ap (λ (y : Desk). record y { place = q' }) (sym shape))
      by_over false going =
          let q' : Place = Place.Callbacks (InCallbacks.WakeWaiter t of) n in
          done q' (place ∙ ap (λ b. after_sending_of (not b) t of n w') going)
          (waits_on n t of v s1 by.mid by.sound.searching by.heard)
          (record { polls = refl; claims = refl; counts = refl; published = refl; drops = refl })
          (record { polls = refl; free = refl; unserved = refl; owes = λ m. refl })
          (λ p vs suits.
          let cs = common_of left spot p vs s in
          ap (λ b. if b then record d { place = next_callback (ring_size p.config) w.index (own_of w) cs n d } else record d { place = q' }) (over_seen p vs ∙ going)
          ∙ ap (λ (y : Desk). record y { place = q' }) (sym shape))
