-- A POLLED TASK, ANOTHER WORKER'S REQUEST: the newest that it holds is another worker's. That may be told that the task waits for it
-- elsewhere, or holds it no more: its mailbox is open, and has a place for that.
use Rattle.exec_invariants.{specs.{Holding.{Box, Hands, Holder, IsAbout, IsHeldBy, IsHolding, Mail, MayHave, Nap, Thing, awaited_in, box_of, holder_of, holdings, mail_in, nap_of, thing_of, under_way}, Sound.SoundAt, Whole.{HasWhole, hands_of, with_worker}}, proofs.{Words.{◌≡◌, ◌≢◌, ℕ, ◌+◌, ◌-◌, ◌<◌, ◌≤◌, Bool, true, false, List, count_by, length, map, Option, Some, None, refl, sym, ap, subst, ◌∙◌, arith, slice_get, false≢true, slice_get_within, is_wake_root, Message, Unsent, CancelRequest, ForwardRequest, is_unsent, InPoll, Place, Subject, Record, Chair, Shared, TaskSlot, Worker, newest_of, MaySend, numbers_held, false_from_ne_true, same_Some}, AskBoxes.{box_there, none_sent, pool_open}, Here.IsHere, HoldMail.sum_least, HoldPosts.{has_place, with_mail}, HoldSteps.{held_there, hold_once}, HoldWaits.{held_number, holds_alone}, Polling.home_mine, SparedRecord.there_within, TaskHears.thing_there, TaskTakes.holder_there, TaskDeals.here_or_none}}

none_told : (shut observed : Bool) (held told : ℕ) → shut ≡ false → 0 < held → IsHeldBy shut observed held told → told ≡ 0
none_told = grind arith

pub held_so : (shut observed : Bool) (held told : ℕ) → 0 < held → IsHeldBy shut observed held told → observed ≡ true
held_so = grind arith

-- WHO IS ASKED OR TOLD has a place for that
module _ (h : Hands) (workers : ℕ) (hs : List Holder) (ts : List Thing) (naps : List Nap) (boxes : List Box) (k : ℕ) (r : Thing) (there : slice_get ts k ≡ Some r) (few : r.worker < workers)
    (box : Box) (at : slice_get boxes r.worker ≡ Some box) (open_box : box.shut ≡ false) (old : IsHolding h workers hs ts naps boxes) where
  pub forward_place : is_unsent r.forwarding ≡ true → length box.messages + 2 ≤ count_by is_wake_root box.messages + box.places
  forward_place unsent =
      let m : Mail = Message.Forward (Subject.Request k) in
      let none = none_sent box.shut r.forwarding (under_way h m boxes) open_box unsent (old.forwarded k r box there at) in
      let least = sum_least (λ (b : Box). mail_in m b.messages) boxes r.worker box at in
      has_place h workers hs ts naps boxes r.worker m box at (r, there, refl, few) old open_box (omega (arith, none, least)) refl

  pub cancel_place : 0 < holdings k hs → length box.messages + 2 ≤ count_by is_wake_root box.messages + box.places
  cancel_place some =
      let m : Mail = Message.Cancel (Subject.Request k) in
      let none = none_told box.shut r.observed (holdings k hs) (under_way h m boxes) open_box some (old.held k r box there at) in
      let least = sum_least (λ (b : Box). mail_in m b.messages) boxes r.worker box at in
      has_place h workers hs ts naps boxes r.worker m box at (r, there, refl, few) old open_box (omega (arith, none, least)) refl

-- with one more in hand each message is still about something
pub made_with : (h : Hands) (workers : ℕ) (ts : List Thing) (naps : List Nap) (m : Mail) (j : ℕ) → IsAbout workers j m ts naps → ((x : Mail) → 0 < h.mail x → (i : ℕ) × IsAbout workers i x ts naps) → (x : Mail) → 0 < (with_mail m h).mail x → (i : ℕ) × IsAbout workers i x ts naps
made_with = grind arith

module _ {B : Type 0} where
  -- the newest that a task holds is held, by that task alone
  pub record HoldsNewest (t k : ℕ) (s : Shared B) (slot : TaskSlot B) (r : Record) : Type 0 where
    pub observed : r.shown.observed ≡ true
    pub waiter : (u : ℕ) → r.shown.waiter ≡ Some u → u ≡ t
    pub awaited : is_unsent r.shown.forwarding ≡ false → awaited_in slot.waiting ≡ Some (Subject.Request k)
    pub within : length (numbers_held slot.held.items) - 1 < length slot.held.items
    pub near : MayHave s.config.workers slot.home r.shown.worker
    pub held : 0 < holdings k (map holder_of s.tasks.items)
    pub there : slice_get slot.held.items (length (numbers_held slot.held.items) - 1) ≡ Some (record { number = k; worker = r.shown.worker })

  pub newest_is : (x : InPoll) (t k : ℕ) (w : Worker) (s : Shared B) (r : Record) → HasWhole w s → (at : IsHere x t w s) → newest_of at.slot ≡ Some k → slice_get s.requests.items k ≡ Some r → HoldsNewest t k s at.slot r
  newest_is x t k w s r has at newest at_k =
      let slot = at.slot in
      let h = hands_of (with_worker has.others w) in
      let workers = s.config.workers in
      let hs = map holder_of s.tasks.items in
      let ts = map thing_of s.requests.items in
      let boxes = map box_of s.seats.items in
      let at_t = holder_there s.tasks.items t slot at.there in
      let at_r = thing_there s.requests.items k r at_k in
      let box = there_within boxes r.shown.worker (has.whole.holding.of_worker k (thing_of r) at_r) in
      let place = length (numbers_held slot.held.items) - 1 in
      let mine = holds_alone h h workers hs ts (map nap_of s.sleepers.items) boxes t k (holder_of slot) (holder_of slot) (thing_of r) Unsent at_t at_r place newest box.0 box.1 has.whole.holding in
      let one = held_number slot.held.items place k newest in
      let some = held_there k slot.held.items place one.0 one.1 one.2 in
      let held : 0 < holdings k hs = omega (arith, some, hold_once k hs t (holder_of slot) at_t) in
      let kept = has.whole.holding.holds t (holder_of slot) place one.0 at_t one.1 in
      let is : kept.0 ≡ thing_of r = same_Some kept.0 (thing_of r) (sym kept.1 ∙ ap (slice_get ts) one.2 ∙ at_r) in
      let observed = held_so box.0.shut r.shown.observed (holdings k hs) (under_way h (Message.Cancel (Subject.Request k)) boxes) held (has.whole.holding.held k (thing_of r) box.0 at_r box.1) in
      let awaited : is_unsent r.shown.forwarding ≡ false → awaited_in at.slot.waiting ≡ Some (Subject.Request k) = λ sent. mine.holds.awaited sent ∙ ap (λ n. Some (Subject.Request n)) mine.number in
      let there = one.1 ∙ ap (λ n. Some (record { number = n; worker = one.0.worker })) one.2 ∙ ap (λ n. Some (record { number = k; worker = n })) (sym kept.2.worker ∙ ap (λ (x : Thing). x.worker) is) in
      assumption (observed, awaited, slice_get_within slot.held.items place one.0 one.1, held, there, mine.holds)

  pub record WantsFrom (t k : ℕ) (w : Worker) (s : Shared B) (slot : TaskSlot B) (r : Record) : Type 0 where
    pub ordinary : slot.home ≡ None
    pub few : r.shown.worker < s.config.workers
    pub waiter : (u : ℕ) → r.shown.waiter ≡ Some u → u ≡ t
    pub awaited : is_unsent r.shown.forwarding ≡ false → awaited_in slot.waiting ≡ Some (Subject.Request k)
    pub silent : is_unsent r.shown.forwarding ≡ true → r.sent ≡ false
    pub held : 0 < holdings k (map holder_of s.tasks.items)
    pub chair : Chair
    pub there : slice_get s.seats.items r.shown.worker ≡ Some chair
    pub open_box : chair.mailbox.inbox.closed ≡ false

  pub wants_from : (x : InPoll) (t k : ℕ) (w : Worker) (s : Shared B) (r : Record) → (sound : SoundAt (Place.Poll t x) w s) → HasWhole w s → (at : IsHere x t w s) → newest_of at.slot ≡ Some k → slice_get s.requests.items k ≡ Some r → r.shown.worker ≢ w.index
      → WantsFrom t k w s at.slot r
  wants_from x t k w s r sound has at newest at_k other =
      let mine = newest_is x t k w s r has at newest at_k in
      let ordinary : at.slot.home ≡ None = none_of at.slot.home mine.near (λ j home. home_mine w.index at.slot.home (here_or_none x t w s at) j home) in
      let few : r.shown.worker < s.config.workers = subst (λ o. MayHave s.config.workers o r.shown.worker) ordinary mine.near in
      let chair = there_within s.seats.items r.shown.worker (omega (arith, few, sound.seated.many)) in
      record {
        ordinary = ordinary;
        few = few;
        waiter = mine.waiter;
        awaited = mine.awaited;
        silent = λ unsent. false_from_ne_true r.sent (λ sent. false≢true (sym (ap is_unsent (has.whole.holding.sent k (thing_of r) (thing_there s.requests.items k r at_k) sent)) ∙ unsent));
        held = mine.held;
        chair = chair.0;
        there = chair.1;
        open_box = pool_open t x w s at.slot sound has at.there ordinary r.shown.worker chair.0 chair.1 few;
      }
    where
      none_of : (home : Option ℕ) → MayHave s.config.workers home r.shown.worker → ((k : ℕ) → home ≡ Some k → k ≡ w.index) → home ≡ None
      none_of None near mine = refl
      none_of (Some k) near mine = absurd (other (near ∙ mine k refl))

  -- and so it can be sent that
  pub may_forward : (x : InPoll) (t k : ℕ) (w : Worker) (s : Shared B) (slot : TaskSlot B) (r : Record) → (has : HasWhole w s) → WantsFrom t k w s slot r → slice_get s.requests.items k ≡ Some r → is_unsent r.shown.forwarding ≡ true → MaySend r.shown.worker (ForwardRequest k) s
  may_forward x t k w s slot r has wants at_k unsent =
      let at_box = box_there s.seats.items r.shown.worker wants.chair wants.there in
      let room = forward_place (hands_of (with_worker has.others w)) s.config.workers (map holder_of s.tasks.items) (map thing_of s.requests.items) (map nap_of s.sleepers.items) (map box_of s.seats.items) k (thing_of r) (thing_there s.requests.items k r at_k) wants.few (box_of wants.chair) at_box wants.open_box has.whole.holding unsent in
      grind (arith, slice_get_within, same_Some)

  pub may_cancel : (x : InPoll) (t k : ℕ) (w : Worker) (s : Shared B) (slot : TaskSlot B) (r : Record) → (has : HasWhole w s) → WantsFrom t k w s slot r → slice_get s.requests.items k ≡ Some r → MaySend r.shown.worker (CancelRequest k) s
  may_cancel x t k w s slot r has wants at_k =
      let at_box = box_there s.seats.items r.shown.worker wants.chair wants.there in
      let room = cancel_place (hands_of (with_worker has.others w)) s.config.workers (map holder_of s.tasks.items) (map thing_of s.requests.items) (map nap_of s.sleepers.items) (map box_of s.seats.items) k (thing_of r) (thing_there s.requests.items k r at_k) wants.few (box_of wants.chair) at_box wants.open_box has.whole.holding wants.held in
      grind (arith, slice_get_within, same_Some)
