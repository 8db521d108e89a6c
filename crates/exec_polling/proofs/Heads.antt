-- A new task is in the hand: the look whether the own run queue takes it.
use Rattle.std.proofs.{Common.{◌≡◌, ⊎_elim, ℕ, ◌==◌, Bool, true, false, Contains, option_to_list, slice_get, Option, Some, None, refl, sym, ap, subst, ◌∙◌, if◌then◌else◌, arith}, lemmas.Bool.false≢true}
use Rattle.exec_words.specs.Queue.{tail_of}
use Rattle.exec_task.specs.declared.{body.Said.Said, runnable.Runnable.Runnable}
use Rattle.exec_machine.specs.{declared.event.Event.{Event, TheVariants.Turn}, Choice.Choice.Plain}
use Rattle.exec_moves.specs.{declared.{handing.{AfterPush.AfterPush, InGlobal.InGlobal, InPush.InPush}, place.{InPoll.InPoll, Place.Place}}, Poll.load_spawn_head, Seen.polls_at, State.queue_of}
use Rattle.exec_parts.specs.{declared.parts.{shared.Shared.Shared, task_slot.TaskSlot.TaskSlot, worker.Worker.Worker}, Phased.is_complete, Roles.is_pool, Spots.Spot, View.{desk_of, things_of, things_with}, Things.{Goes, Makes}}
use Rattle.exec_invariants.{specs.{Places.{claims_at, drops_at, hands_on_at, has_count_at, is_pooled_at, is_published_at, in_poll_of, no_drops, polled_in, step_of_poll}, Sound.{HasGuest, IsInHand, Serves, SoundAt, Stands, Stops}, Whole.IsGenuine, Works.Steps}, proofs.{Aside.{SameProfile, beside_calm, seats_same}, PoolKept.gates_same, SlotTasks.{IsAfter, Tasked, sound_tasked}, Turning.{Arrives, IsTurn, by_place, queue_back_again, turned}}}

-- where a runnable in the hand is queued, for an act of task t
record IsHandingOn (t : ℕ) (q : Place) : Type 0 where
  after : IsAfter q
  polls : polls_at q ≡ Some t
  step : step_of_poll q ≡ InPoll.Act
  hands : hands_on_at q ≡ true
  unpooled : is_pooled_at q ≡ false
  turn : (n : ℕ) → IsTurn n (Place.Poll t InPoll.LoadSpawnHead) q
  drops : drops_at q ≡ no_drops

to_queue : (t : ℕ) → IsHandingOn t (Place.Push InPush.LoadPushHead (AfterPush.Act t))
to_queue = grind arith

to_global : (t : ℕ) → IsHandingOn t (Place.Global InGlobal.Append (AfterPush.Act t))
to_global = grind arith

module _ {B : Type 0} where
  acts_there : (i : ℕ) (slot : TaskSlot B) (b : Bool) → Stands (if b then Some InPoll.LoadSpawnHead else None) i slot → Stands (if b then Some InPoll.Act else None) i slot
  acts_there i slot true h = record { polled = h.polled; body = h.body; poller = h.poller; kept = h.kept; uncleared = h.uncleared; told = h.told; untold = h.untold; waits = h.waits }
  acts_there i slot false h = h

  tasked_on : (t : ℕ) (q : Place) (w : Worker) (s : Shared B) → SoundAt (Place.Poll t InPoll.LoadSpawnHead) w s → IsHandingOn t q → Tasked q w w.root_ready w.hand s s.tasks.items
  tasked_on t q w s sound to =
      let own : polled_in w.root q ≡ (if t == w.root then Some InPoll.Act else None) = ap (λ o. in_poll_of w.root o (step_of_poll q)) to.polls ∙ ap (λ x. if t == w.root then Some x else None) to.step in
      let guest : HasGuest (Some t) InPoll.Act w.index w.root s.tasks.items = λ apart. let it = sound.guest apart in (it.0, it.1, assumption it.2) in
      let pooled : is_pooled_at q ≡ true → is_pool w.role ≡ true = λ is. absurd (false≢true (sym to.unpooled ∙ is)) in
      let serves = subst (λ o. Serves o w.root w.role) (sym to.polls) sound.serves in
      let hand = subst (λ b. IsInHand None b w.hand) (sym to.hands) sound.hand in
      let genuine : (r : Runnable) → Contains (option_to_list w.hand) r → IsGenuine s.tasks.items r = λ r has. ⊎_elim (λ never. let no : None ≡ Some w.root = never in absurd (cc)) (λ h. h) (sound.genuine r has) in
      let guest = subst (λ o. HasGuest o (step_of_poll q) w.index w.root s.tasks.items) (sym to.polls) (subst (λ x. HasGuest (Some t) x w.index w.root s.tasks.items) (sym to.step) guest) in
      let stops = subst (λ x. Stops (polls_at q) x w.index s.tasks.items s.requests.items s.sleepers.items) (sym to.step) (subst (λ o. Stops o InPoll.Act w.index s.tasks.items s.requests.items s.sleepers.items) (sym to.polls) (λ slot there. tt)) in
      let going : (slot : TaskSlot B) → slice_get s.tasks.items w.root ≡ Some slot → is_complete slot.cell.phase ≡ false = λ slot there. (sound.phased sound.seated.seat sound.seated.there).root slot there in
      let stands : (slot : TaskSlot B) → slice_get s.tasks.items w.root ≡ Some slot → Stands (polled_in w.root q) w.index slot = λ slot there. subst (λ x. Stands x w.index slot) (sym own) (acts_there w.index slot (t == w.root) (sound.tied.stands slot there)) in
      assumption (pooled, serves, hand, genuine, guest, stops, going, stands, sound)

module _ {B L : Type 0} (left : B → L) (spot : L → Option Said → Spot) where
  goes_to : (t : ℕ) (q : Place) (w w' : Worker) (s : Shared B) (e : Event) → SoundAt (Place.Poll t InPoll.LoadSpawnHead) w s → IsHandingOn t q → Goes w w' → w'.place ≡ q → Makes (load_spawn_head t (desk_of w) (queue_of (things_of s) w.index)) e w' → Steps left spot w s e w' s
  goes_to t q w w' s e sound to goes place makes =
      let here : Place = Place.Poll t InPoll.LoadSpawnHead in
      let there : SoundAt q (record w { place = q }) s = sound_tasked t InPoll.LoadSpawnHead q w w.root_ready w.hand s s sound to.after (tasked_on t q w s sound to) in
      let arrives : Arrives q w (record w { place = q }) s s = assumption there in
      let m = load_spawn_head t (desk_of w) (queue_of (things_of s) w.index) in
      turned left spot here w w' s s e sound makes.event (by_place w w' s.clock sound.time goes) refl refl (λ vs. refl)
      (subst (λ x. IsTurn w.workers here x) (sym place) (to.turn w.workers))
      (subst (λ v. Arrives v.place w v s s) (sym (goes ∙ ap (λ x. record w { place = x }) place)) arrives)
      (beside_calm w w' s s
      (subst (SameProfile w) (sym (goes ∙ ap (λ x. record w { place = x }) place))
      (record { hand = refl; loot = refl; polls = to.polls ∙ sym (ap polls_at sound.here); claims = to.after.claims ∙ sym (ap claims_at sound.here); searching = refl; counts = to.after.counts ∙ sym (ap has_count_at sound.here); index = refl; published = to.after.published ∙ sym (ap is_published_at sound.here); drops = to.drops ∙ sym (ap drops_at sound.here); told = record { batch = refl; letters = refl; left = refl } }))
      refl (seats_same w.index s.seats.items s.seats.items refl) (gates_same s.seats.items s.seats.items refl) refl refl refl refl)
      (λ p vs suits.
      ap (λ x. record { event = Turn; choice = Plain; desk = m.desk; thing = x }) (queue_back_again w.index (things_with vs s))
      ∙ ap (λ d. record { event = Turn; choice = Plain; desk = d; thing = things_with vs s }) (sym makes.desk))

  pub spawn_head_loaded : (t : ℕ) (w w' : Worker) (s : Shared B) (e : Event) → SoundAt (Place.Poll t InPoll.LoadSpawnHead) w s → Makes (load_spawn_head t (desk_of w) (queue_of (things_of s) w.index)) e w' → Goes w w' → Steps left spot w s e w' s
  spawn_head_loaded t w w' s e sound makes goes =
      let q = queue_of (things_of s) w.index in
      by (tail_of q == q.real) (ap (λ d. d.place) makes.desk)
    where
      by : (b : Bool) → w'.place ≡ (if b then Place.Push InPush.LoadPushHead (AfterPush.Act t) else Place.Global InGlobal.Append (AfterPush.Act t)) → Steps left spot w s e w' s
      by true place = goes_to t (Place.Push InPush.LoadPushHead (AfterPush.Act t)) w w' s e sound (to_queue t) goes place makes
      by false place = goes_to t (Place.Global InGlobal.Append (AfterPush.Act t)) w w' s e sound (to_global t) goes place makes
