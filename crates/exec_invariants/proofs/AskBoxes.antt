-- A TASK IS ABOUT TO ASK another worker for an end: that worker's inbox is open, has a place, and what tasks hold once it is asked.
use Rattle.exec_invariants.{proofs.{Names.{◌≡◌, ◌≢◌, inl, ℕ, ◌+◌, ◌<◌, ◌≤◌, Bool, true, false, cond, List, [], ◌∷◌, count_by, length, map, Some, None, IsSome, refl, sym, ap, subst, ◌∙◌, arith, slice_get, slice_set, option_map, false≢true, slice_get-map, lt-ltb, is_wake_root, Message, Forwarding, ForwardSent as Forwarded, is_unsent, InPoll, Place, Subject, Chair, Shared, TaskSlot, Worker, false_from_ne_true}, HoldMail.{mail_is, is_never, is_once, sum_least}, HoldPosts.{has_place, with_mail}, HoldSleeps.nap_redone, Slots.before_for}, specs.{Holding.{Box, Hands, Holder, IsAbout, IsForwarded, IsHolding, IsOrdinary, Mail, Nap, Thing, box_of, mail_in, same_mail, under_way}, Sound.SoundAt, Whole.HasWhole}}

-- what isn't asked for is in no inbox
pub none_sent : (shut : Bool) (f : Forwarding) (n : ℕ) → shut ≡ false → is_unsent f ≡ true → IsForwarded shut f n → n ≡ 0
none_sent = grind arith

pub one_sent : (shut : Bool) (f : Forwarding) (n m : ℕ) → is_unsent f ≡ true → m ≡ n + 1 → IsForwarded shut f n → IsForwarded shut Forwarded m
one_sent = grind arith

-- one more is under way
pub one_more_way : (h : Hands) (m : Mail) (boxes : List Box) → under_way (with_mail m h) m boxes ≡ under_way h m boxes + 1
one_more_way h m boxes = let one = is_once m in omega (arith, one)

pub same_else : (h : Hands) (m x : Mail) → x ≢ m → (with_mail m h).mail x ≡ h.mail x
same_else h m x apart = let none = is_never x m apart in omega (arith, none)

pub box_there : (seats : List Chair) (j : ℕ) (chair : Chair) → slice_get seats j ≡ Some chair → slice_get (map box_of seats) j ≡ Some (box_of chair)
box_there seats j chair there = slice_get-map box_of seats j ∙ ap (option_map box_of) there

module _ {B : Type 0} where
  -- while a task is polled that other workers may have things of, no worker of the pool has closed its mailbox
  pub pool_open : (t : ℕ) (x : InPoll) (w : Worker) (s : Shared B) (slot : TaskSlot B) → SoundAt (Place.Poll t x) w s → HasWhole w s → slice_get s.tasks.items t ≡ Some slot → slot.home ≡ None → (j : ℕ) (chair : Chair) → slice_get s.seats.items j ≡ Some chair → j < s.config.workers → chair.mailbox.inbox.closed ≡ false
  pool_open t x w s slot sound has there ordinary j chair at_j few =
      false_from_ne_true chair.mailbox.inbox.closed (λ closed.
      let before = before_for t x w s slot sound there ordinary in
      false≢true (sym before.going ∙ has.whole.pool.shut j chair at_j (has.whole.in_pool j chair at_j ∙ lt-ltb j s.config.workers few) closed w.index before.chair before.there))

-- A SLEEPER IS ASKED FOR
module _ (h : Hands) (workers : ℕ) (hs : List Holder) (ts : List Thing) (naps : List Nap) (boxes : List Box) (n : ℕ) (z : Nap) where
  pub nap_asked : slice_get naps n ≡ Some z → is_unsent z.forwarding ≡ true → z.sent ≡ false → z.worker < workers → IsOrdinary z.task hs → ((t : ℕ) (it : Holder) → slice_get hs t ≡ Some it → it.awaits ≡ Some (Subject.Timer n) → it.home ≡ None)
      → IsHolding h workers hs ts naps boxes → IsHolding (with_mail (Message.Forward (Subject.Timer n)) h) workers hs ts (slice_set naps n (record z { forwarding = Forwarded })) boxes
  nap_asked there unsent silent few ordinary homes old =
      let m : Mail = Message.Forward (Subject.Timer n) in
      let z' : Nap = record z { forwarding = Forwarded } in
      nap_redone h (with_mail m h) workers hs ts naps boxes n z z' (record {
        nap = there;
        worker = refl;
        task = refl;
        mail = λ x past. same_else h m x past.forward;
        made = λ x some. made_by x some;
        sleeps = λ unfired kept. (unfired, kept);
        let_go = λ box at open_box fact. let same = same_else h m (Message.Cancel (Subject.Timer n)) (λ is. absurd (cc)) in omega (arith, same, fact);
        woken = λ box at fact. one_sent box.shut z.forwarding (under_way h m boxes) (under_way (with_mail m h) m boxes) unsent (one_more_way h m boxes) fact;
        asked = λ is. ordinary;
        be = λ closed. ordinary;
        sent = λ is. absurd (false≢true (sym silent ∙ is));
        here = λ t it at awaits some. absurd (false≢true (subst (λ q. IsSome q) (homes t it at awaits) some));
        kept = λ t it at awaits open_still kept. kept;
        fewer = λ i t some. inl refl;
        owes = λ i t some o. record { worker = o.worker; task = o.task; unpaid = o.unpaid; unsent = o.unsent; over = o.over };
      }) old
    where
      made_by : (x : Mail) → 0 < (with_mail (Message.Forward (Subject.Timer n)) h).mail x → (j : ℕ) × IsAbout workers j x ts naps
      made_by x some = by (same_mail x (Message.Forward (Subject.Timer n))) refl
        where
          by : (b : Bool) → same_mail x (Message.Forward (Subject.Timer n)) ≡ b → (j : ℕ) × IsAbout workers j x ts naps
          by true is = (z.worker, subst (λ y. IsAbout workers z.worker y ts naps) (sym (mail_is x (Message.Forward (Subject.Timer n)) is)) (z, there, refl, few))
          by false is = let none : mail_in x (Message.Forward (Subject.Timer n) ∷ []) ≡ 0 = ap (λ c. 0 + cond c 1 0) is in old.made x (omega (arith, none, some))

  -- and its inbox has a place for that
  pub asks_place : slice_get naps n ≡ Some z → is_unsent z.forwarding ≡ true → z.worker < workers → (box : Box) → slice_get boxes z.worker ≡ Some box → box.shut ≡ false → IsHolding h workers hs ts naps boxes → length box.messages + 2 ≤ count_by is_wake_root box.messages + box.places
  asks_place there unsent few box at open_box old =
      let m : Mail = Message.Forward (Subject.Timer n) in
      let none = none_sent box.shut z.forwarding (under_way h m boxes) open_box unsent (old.woken n z box there at) in
      has_place h workers hs ts naps boxes z.worker m box at (z, there, refl, few) old open_box (omega (arith, none, sum_least (λ (b : Box). mail_in m b.messages) boxes z.worker box at)) refl
