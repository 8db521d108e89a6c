-- A POLL GOES ON, by a slot of the same cell: the task took, or waits for, or let go of something, and nobody else is concerned.
use Rattle.exec_invariants.{specs.{Hearing.Hears, Places.{begins_at, hands_on_at, is_pooled_at, drops_at}, Sound.{HasGuest, IsGuest, IsInHand, SoundAt, Stops, StopsIn, WaitsAt, acts_next, is_told}, Whole.{Profile, with_worker}, Works.{Beside, Steps, Suits, Works}}, proofs.{Words.{◌≡◌, ◌≢◌, ◌⊎◌, inl, inr, ℕ, true, false, List, Option, Some, None, IsSome, refl, sym, ap, subst, ◌∙◌, slice_get, slice_set, false≢true, arith, is_polled, Said, TaskCell, Event, Plan, InPoll, Place, polls_in, Record, Shared, SleeperRecord, TaskSlot, Worker, Spot, Views, by_number, same_Some, set_there}, Aside.{SameProfile, seats_same}, Hearing.hears_so, Here.IsHere, HoldBeside.{Holds, beside_dealt}, HoldThings.{Touches, sound_touched}, Polling.{home_mine, on_in_poll}, SlotTasks.{IsAfter, Tasked, guest_tasked, none_in, root_tasked, sound_tasked}}}

-- where it goes on: it acts next, or its poll ends
pub record GoesOn (t : ℕ) (y : InPoll) : Type 0 where
  pub polls : polls_in t y ≡ Some t
  pub pooled : is_pooled_at (Place.Poll t y) ≡ false
  pub hands : hands_on_at (Place.Poll t y) ≡ false
  pub after : IsAfter (Place.Poll t y)
  pub drops : drops_at (Place.Poll t y) ≡ drops_at (Place.Poll t InPoll.Act)

pub acts : (t : ℕ) → GoesOn t InPoll.Act
acts t = record { polls = refl; pooled = refl; hands = refl; after = on_in_poll t InPoll.Act refl refl; drops = refl }

pub ends : (t : ℕ) → GoesOn t InPoll.Pend
ends t = record { polls = refl; pooled = refl; hands = refl; after = on_in_poll t InPoll.Pend refl refl; drops = refl }

-- where it comes from: an act, or a look
pub record ComesFrom (t : ℕ) (x : InPoll) : Type 0 where
  pub polls : polls_in t x ≡ Some t
  pub begins : begins_at (Place.Poll t x) ≡ None
  pub hands : hands_on_at (Place.Poll t x) ≡ false
  pub drops : drops_at (Place.Poll t x) ≡ drops_at (Place.Poll t InPoll.Act)

pub from_act : (t : ℕ) → ComesFrom t InPoll.Act
from_act t = record { polls = refl; begins = refl; hands = refl; drops = refl }

pub from_look : (t : ℕ) → ComesFrom t InPoll.Resume
from_look t = record { polls = refl; begins = refl; hands = refl; drops = refl }

pub profile_here : (x y : InPoll) (t : ℕ) (w : Worker) → ComesFrom t x → GoesOn t y → w.place ≡ Place.Poll t x → SameProfile w (record w { place = Place.Poll t y })
profile_here = grind arith

module _ {B : Type 0} where
  -- the slot then, where the worker goes on at y
  pub record Dealt (y : InPoll) (i : ℕ) (slot slot' : TaskSlot B) (rs : List Record) (ss : List SleeperRecord) : Type 0 where
    pub cell : slot'.cell ≡ slot.cell
    pub home : slot'.home ≡ slot.home
    pub cleared : slot'.cleared ≡ slot.cleared
    pub poller : slot'.poller ≡ slot.poller
    pub body : IsSome slot'.body
    pub told : is_told slot'.waiting false ≡ true → IsSome slot'.told
    pub untold : acts_next slot'.waiting ≡ false → slot'.told ≡ None
    pub waits : WaitsAt (Some y) slot'.waiting
    pub stops : StopsIn y i slot'.waiting rs ss

  pub dealt_tasked : (x y : InPoll) (t : ℕ) (w : Worker) (s : Shared B) (slot' : TaskSlot B) → (sound : SoundAt (Place.Poll t x) w s) → (it : IsHere x t w s) → Dealt y w.index it.slot slot' s.requests.items s.sleepers.items → GoesOn t y
      → Tasked (Place.Poll t y) w w.root_ready None s (slice_set s.tasks.items t slot')
  dealt_tasked x y t w s slot' sound it to on =
      let q : Place = Place.Poll t y in
      let number : slot'.cell.number ≡ it.slot.cell.number = ap (λ (c : TaskCell B). c.number) to.cell in
      let polled : is_polled slot'.cell.phase ≡ true = ap (λ (c : TaskCell B). is_polled c.phase) to.cell ∙ it.polled in
      let root : t ≡ w.root → Tasked q w w.root_ready None s (slice_set s.tasks.items t slot') = λ same.
      let slot = it.slot in
      let there : slice_get s.tasks.items w.root ≡ Some slot = subst (λ n. slice_get s.tasks.items n ≡ Some slot) same it.there in
      let old = (it.root same).0 in
      subst (λ n. Tasked q w w.root_ready None s (slice_set s.tasks.items n slot')) (sym same) (root_tasked t x q w w.root_ready s slot slot' sound (grind arith)) in
      let other : t ≢ w.root → Tasked q w w.root_ready None s (slice_set s.tasks.items t slot') = λ apart.
      let old = (it.ordinary apart).0 in
      let found = set_there s.tasks.items t slot' it.slot it.there in
      let cancelled = ap (λ (c : TaskCell B). c.cancelled) to.cell ∙ old.cancelled ∙ sym to.cleared in
      let guest : IsGuest y w.index slot' = assumption (to.home ∙ old.ordinary, polled, to.poller ∙ old.poller, cancelled, to.waits, to) in
      guest_tasked t x q w None s it.slot slot' sound (record {
        apart = apart;
        there = it.there;
        keeps = record { home = to.home; number = number; owner = ap (λ (c : TaskCell B). c.owner) to.cell };
        hand = subst (λ b. IsInHand None b None) (sym (on.hands)) refl;
        genuine = λ r has. absurd (none_in r has);
        polls = λ n is same. apart (same_Some t n (sym (on.polls) ∙ is) ∙ same);
        guest = subst (λ o. HasGuest o y w.index w.root (slice_set s.tasks.items t slot')) (sym (on.polls)) (λ no. (slot', found, guest));
        stops = subst (λ o. Stops o y w.index (slice_set s.tasks.items t slot') s.requests.items s.sleepers.items) (sym (on.polls)) (λ o at.
            subst (λ (z : TaskSlot B). StopsIn y w.index z.waiting s.requests.items s.sleepers.items) (same_Some slot' o (sym found ∙ at)) to.stops);
        rests = λ unpolled. absurd (false≢true (sym unpolled ∙ polled));
      }) in
      by_number t w.root other root

  pub empty_hand : (x : InPoll) (t : ℕ) (w : Worker) (s : Shared B) → ComesFrom t x → SoundAt (Place.Poll t x) w s → w.hand ≡ None
  empty_hand x t w s from sound = subst (λ b. IsInHand None b w.hand) from.hands (subst (λ o. IsInHand o (hands_on_at (Place.Poll t x)) w.hand) from.begins sound.hand)

  -- WHAT HOLDS THEN
  pub sound_dealt : (x y : InPoll) (t : ℕ) (w : Worker) (s s' : Shared B) (slot' : TaskSlot B) → ComesFrom t x → GoesOn t y → (sound : SoundAt (Place.Poll t x) w s) → (it : IsHere x t w s) → s' ≡ record s { tasks = s'.tasks; requests = s'.requests; sleepers = s'.sleepers } → s'.tasks.items ≡ slice_set s.tasks.items t slot'
      → Touches s (record s { requests = s'.requests; sleepers = s'.sleepers }) → Dealt y w.index it.slot slot' s'.requests.items s'.sleepers.items → SoundAt (Place.Poll t y) (record w { place = Place.Poll t y }) s'
  sound_dealt x y t w s s' slot' from on sound it kept items touches to =
      let s1 : Shared B = record s { requests = s'.requests; sleepers = s'.sleepers } in
      let sound1 : SoundAt (Place.Poll t x) w s1 = sound_touched s s1 touches (Place.Poll t x) w sound in
      let it1 : IsHere x t w s1 = record { slot = it.slot; there = it.there; number = it.number; polled = it.polled; body = it.body; poller = it.poller; cancelled = it.cancelled; waits = it.waits; told = it.told; untold = it.untold; root = it.root; ordinary = it.ordinary } in
      let tasked : Tasked (Place.Poll t y) w w.root_ready None s1 (slice_set s.tasks.items t slot') = dealt_tasked x y t w s1 slot' sound1 it1 to on in
      let done : SoundAt (Place.Poll t y) (record w { place = Place.Poll t y; root_ready = w.root_ready; hand = None }) (record s1 { tasks = s'.tasks }) = sound_tasked t x (Place.Poll t y) w w.root_ready None s1 s' sound1 on.after (subst (Tasked (Place.Poll t y) w w.root_ready None s1) (sym items) tasked) in
      subst (SoundAt (Place.Poll t y) (record w { place = Place.Poll t y })) (sym kept) (subst (λ o. SoundAt (Place.Poll t y) (record w { place = Place.Poll t y; hand = o }) (record s1 { tasks = s'.tasks })) (sym (empty_hand x t w s from sound)) done)

  pub here_or_none : (x : InPoll) (t : ℕ) (w : Worker) (s : Shared B) → (it : IsHere x t w s) → (it.slot.home ≡ Some w.index) ⊎ (it.slot.home ≡ None)
  here_or_none x t w s it = by_number t w.root (λ apart. inr (it.ordinary apart).1) (λ own. inl (it.root own).1)

  -- what that leaves of the worker, and of others
  pub dealt_leaves : (x y : InPoll) (t : ℕ) (w : Worker) (s s' : Shared B) (slot' : TaskSlot B) → ComesFrom t x → GoesOn t y → (sound : SoundAt (Place.Poll t x) w s) → (it : IsHere x t w s)
      → s' ≡ record s { tasks = s'.tasks; requests = s'.requests; sleepers = s'.sleepers } → s'.tasks.items ≡ slice_set s.tasks.items t slot'
      → Touches s (record s { requests = s'.requests; sleepers = s'.sleepers }) → Dealt y w.index it.slot slot' s'.requests.items s'.sleepers.items
      → ((others : Profile) → Holds (with_worker others w) s → Holds (with_worker others w) s') → SoundAt (Place.Poll t y) (record w { place = Place.Poll t y }) s' × Beside w s (record w { place = Place.Poll t y }) s'
  dealt_leaves x y t w s s' slot' from on sound it kept items touches to holds =
      let w1 : Worker = record w { place = Place.Poll t y } in
      let seats : s'.seats ≡ s.seats = ap (λ (z : Shared B). z.seats) kept in
      let mine : (j : ℕ) → it.slot.home ≡ Some j → j ≡ w.index = home_mine w.index it.slot.home (here_or_none x t w s it) in (
        sound_dealt x y t w s s' slot' from on sound it kept items touches to,
        beside_dealt t w w1 s s' it.slot slot' (grind arith) it.poller mine sound.homes touches (seats_same w.index s.seats.items s'.seats.items (ap (λ z. z.items) seats)) holds,
      )

-- THE WHOLE STEP, where no message is sent
pub dealt : {B L : Type 0} (left : B → L) (spot : L → Option Said → Spot) (x y : InPoll) (t : ℕ) (w w' : Worker) (s s' : Shared B) (e : Event) (slot' : TaskSlot B) → ComesFrom t x → GoesOn t y → (sound : SoundAt (Place.Poll t x) w s) → (it : IsHere x t w s) → w' ≡ record w { place = Place.Poll t y }
    → s' ≡ record s { tasks = s'.tasks; requests = s'.requests; sleepers = s'.sleepers } → s'.tasks.items ≡ slice_set s.tasks.items t slot'
    → Touches s (record s { requests = s'.requests; sleepers = s'.sleepers }) → Dealt y w.index it.slot slot' s'.requests.items s'.sleepers.items → Hears it.slot slot'
    → ((others : Profile) → Holds (with_worker others w) s → Holds (with_worker others w) s') → ((p : Plan) (vs : Views) → Suits p vs w s → Works left spot p vs w s e (record w { place = Place.Poll t y }) s') → Steps left spot w s e w' s'
dealt {B} left spot x y t w w' s s' e slot' from on sound it same kept items touches to hears holds works =
    let leaves = dealt_leaves x y t w s s' slot' from on sound it kept items touches to holds in
    let done : Steps left spot w s e (record w { place = Place.Poll t y }) s' = (
      works,
      leaves.0,
      hears_so t it.slot slot' refl (ap (λ (z : Shared B). z.config) kept) it.there items hears,
      leaves.1,
    ) in
    subst (λ v. Steps left spot w s e v s') (sym same) done
