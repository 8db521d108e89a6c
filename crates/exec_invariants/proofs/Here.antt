-- The task that a worker polls, be it the root or an ordinary one.
use Rattle.exec_invariants.{proofs.{Names.{◌≡◌, ◌≢◌, ℕ, true, false, Some, None, IsSome, refl, sym, ap, subst, ◌∙◌, slice_get, arith, is_polled, Phase, InPoll, Place, polls_in, Shared, TaskSlot, Worker, is_complete, by_number}, Polling.in_own_poll}, specs.Sound.{HasGuest, IsGuest, SoundAt, Stands, WaitsAt, acts_next, is_told}}

module _ {B : Type 0} where
  pub record IsHere (x : InPoll) (t : ℕ) (w : Worker) (s : Shared B) : Type 0 where
    pub slot : TaskSlot B
    pub there : slice_get s.tasks.items t ≡ Some slot
    pub number : slot.cell.number ≡ record { 0 = t }
    pub polled : is_polled slot.cell.phase ≡ true
    pub body : IsSome slot.body
    pub poller : slot.poller ≡ w.index
    pub cancelled : slot.cell.cancelled ≡ slot.cleared
    pub waits : WaitsAt (Some x) slot.waiting
    pub told : is_told slot.waiting false ≡ true → IsSome slot.told
    pub untold : acts_next slot.waiting ≡ false → slot.told ≡ None
    pub root : t ≡ w.root → Stands (Some x) w.index slot × (slot.home ≡ Some w.index)
    pub ordinary : t ≢ w.root → IsGuest x w.index slot × (slot.home ≡ None)

  pub going_on : (p : Phase B) → is_polled p ≡ true → is_complete p ≡ false
  going_on = grind arith

  pub polled_here : (x : InPoll) (t : ℕ) (w : Worker) (s : Shared B) → SoundAt (Place.Poll t x) w s → polls_in t x ≡ Some t → IsHere x t w s
  polled_here x t w s sound polls = by_number t w.root other root
    where
      root : t ≡ w.root → IsHere x t w s
      root same =
          let slot = sound.runnable.root in
          let there : slice_get s.tasks.items t ≡ Some slot = ap (slice_get s.tasks.items) same ∙ sound.runnable.there in
          let it : Stands (Some x) w.index slot = subst (λ y. Stands y w.index slot) (in_own_poll w.root (polls_in t x) x (polls ∙ ap (λ n. Some n) same)) (sound.tied.stands slot sound.runnable.there) in
          record {
            slot = slot;
            there = there;
            number = sound.homes.number t slot there;
            polled = it.polled;
            body = it.body refl;
            poller = it.poller refl;
            cancelled = it.kept ∙ sym it.uncleared;
            waits = it.waits;
            told = λ h. it.told (ap (is_told slot.waiting) (going_on slot.cell.phase it.polled) ∙ h);
            untold = it.untold;
            root = λ is. (it, sound.runnable.home);
            ordinary = λ apart. absurd (apart same);
          }

      other : t ≢ w.root → IsHere x t w s
      other apart =
          let it = subst (λ o. HasGuest o x w.index w.root s.tasks.items) polls sound.guest apart in
          let guest = it.2 in
          record {
            slot = it.0;
            there = it.1;
            number = sound.homes.number t it.0 it.1;
            polled = guest.polled;
            body = guest.body;
            poller = guest.poller;
            cancelled = guest.cancelled;
            waits = guest.there;
            told = guest.told;
            untold = guest.untold;
            root = λ is. absurd (apart is);
            ordinary = λ no. (guest, guest.ordinary);
          }
