-- The mailbox of a closing worker is closed: what stood in it, and what was taken and not applied, is let go.
use Rattle.std.proofs.{Common.{◌≡◌, inl, ℕ, zero, suc, ◌+◌, ◌^◌, ◌<◌, ◌==◌, ◌&&◌, Bool, true, false, cond, Contains, List, [], ◌∷◌, ◌++◌, count_by, length, map, sum_by, Option, None, Some, refl, sym, ap, subst, ◌∙◌, arith, slice_get, slice_set, nat_lt}, lemmas.{Bool.{false≢true, Decides.nat_tests}, List.Sums.{sum_by-append, sum_by-cons}, Nat.mod_below, Option.slice_get_within}}
use Rattle.exec_words.specs.{Inbox.{Inbox, batch_handed, batch_taken, is_wake_root, shut}, declared.inbox.Message.Message, Reserved.Reserved}
use Rattle.exec_task.specs.declared.body.Said.{Said}
use Rattle.exec_machine.specs.{declared.{event.Event.{Event, TheVariants.Turn}, state.Next.Next}, Choice.Choice.Plain, Tests.has_ended}
use Rattle.exec_moves.specs.{declared.place.{InClosing.InClosing, Place.Place}, Close.{after_letting_go, batches_closed, close_mailbox, first_asleep, first_held}, Move.move_at, Seen.{next_at, serves_at}, Thing.{set_inbox, with_inbox}}
use Rattle.exec_parts.{specs.{declared.parts.{held.Held.Held, mail.Subject.Subject, seat.Seat.Seat as Chair, shared.Shared.Shared, task_slot.TaskSlot.TaskSlot, worker.Worker.Worker}, Ending.ClosesOn, Phased.{IsGoing, IsPhased, Stage, TurnsChair, closes_at, closing_in, is_complete, stage_of}, Pooled.OfChair, MailPosts.IsMailbox, Spots.Spot, View.{Visible, common_of, desk_of, driver_of, inbox_at, message_of, own_of, owed_at, seat_seen, seats_seen, things_with, visible, with_view}}, proofs.Facts.{same_number, same_Some}}
use Rattle.exec_invariants.{proofs.{Showing.map_set, Aside.{queue_of_chair, queues_set, seats_own}, Closes.closed_by, Dedicated.own_root, LetsNext.lets_next, Mailing.{inbox_shows, own_inbox_seen}, PoolKept.all_over, Seats.own_seat, Shutting.{Follows, Holds, mail_there}, Lined.{mapped, unmapped}, HandedOver.{by_list, taken_none, taken_some}}, specs.{Drained.IsLetOn, Holding.{Hands, Holder, IsAbout, IsOf, Mail, MayHave, Thing, box_of, holder_of, holdings, mail_in, mail_of_letters, nap_of, same_mail, thing_of}, Places.{drops_at, is_pooled_at, no_drops}, Sound.{Aims, HasBatch, IsMineIn, IsMyMail, LetsGoAt, SoundAt, has_wakes_at}, Whole.{IsWhole, Profile, duties_of, hands_of, with_worker}, Works.Steps}}
use Rattle.exec_closing.proofs.{Parting.{on_seats, ready_own}, ShutHeld.shut_holding, Unmailed.pools_unmailed}

no_mail : (m : Mail) → Contains [] m → ⊥
no_mail m (k, few, is) = omega (arith, few)

-- SUMS of nothing

sum_none : {A : Type 0} (f : A → ℕ) (xs : List A) → ((j : ℕ) (x : A) → slice_get xs j ≡ Some x → f x ≡ 0) → sum_by f xs ≡ 0
sum_none f [] none = refl
sum_none f (x ∷ xs) none =
    omega (arith, none 0 x refl, sum_none f xs (λ j y at. none (suc j) y at), sum_by-cons f x xs)

count_none : {A : Type 0} (p : A → Bool) (xs : List A) → ((j : ℕ) (x : A) → slice_get xs j ≡ Some x → p x ≡ false) → count_by p xs ≡ 0
count_none p xs none = sum_none (λ x. cond (p x) 1 0) xs (λ j x at. ap (λ b. cond b 1 0) (none j x at))

-- WHAT THE INBOX LEAVES

taken_empty : (i : Inbox Subject Subject) (b : Reserved Mail) → (batch_taken i b).messages ≡ []
taken_empty i b = by_list i.messages (λ none. ap (λ (x : Inbox Subject Subject). x.messages) (taken_none i b none) ∙ none) (λ m ms some. ap (λ (x : Inbox Subject Subject). x.messages) (taken_some i b m ms some))

taken_places : (i : Inbox Subject Subject) (b : Reserved Mail) → (i.messages ≡ [] → 0 < i.places) → 0 < b.places → 0 < (batch_taken i b).places
taken_places = grind arith

few_batches : (ms : List Mail) (n : ℕ) → n < 2 ^ 29 → batches_closed (map message_of ms) n < 2 ^ 29
few_batches [] n few = few
few_batches (m ∷ ms) n few = mod_below (n + 1) (2 ^ 29) (omega arith)

-- SEATS of which one was set, with what is seen of its worker
seats_twice : (vs : List Visible) (seats : List Chair) (i : ℕ) (v : Visible) (chair : Chair) → seats_seen (slice_set vs i v) (slice_set seats i chair) ≡ slice_set (seats_seen vs seats) i (seat_seen v chair)
seats_twice [] seats i v chair = refl
seats_twice (x ∷ vs) [] zero v chair = refl
seats_twice (x ∷ vs) [] (suc i) v chair = refl
seats_twice (x ∷ vs) (c ∷ seats) zero v chair = refl
seats_twice (x ∷ vs) (c ∷ seats) (suc i) v chair = ap (λ ys. seat_seen x c ∷ ys) (seats_twice vs seats i v chair)

-- WHERE IT GOES ON: to what it lets go, or to the callbacks

module _ {B : Type 0} where
  -- all of the closing is behind it, but what is let go; of the stage this became
  abbrev PastMail : Place → Bool → ℕ → ℕ → ℕ → Stage → List (TaskSlot B) → Type 0
  PastMail q told i t n st tasks = has_ended st.phase ≡ false → IsPhased i true (Some InClosing.CloseMailbox) told t n st tasks → IsPhased i (closes_at q) (closing_in q) told t n (record st { shut = true }) tasks

  pub record GoesTo (q : Place) (w : Worker) (s : Shared B) : Type 0 where
    pub follows : Follows q
    pub lets_go : LetsGoAt q (driver_of w).requests w.home.timers
    pub drops : drops_at q ≡ no_drops
    pub unpooled : is_pooled_at q ≡ false
    pub wakes : has_wakes_at q ≡ true
    pub free : next_at q ≡ Next.Free
    pub unserved : serves_at q ≡ false
    pub owes : (n : ℕ) → owed_at n q ≡ []
    pub aims : (i : ℕ) (seats : List Chair) → Aims q s.config i seats
    pub batch : (ms : List Mail) → ms ≡ [] → HasBatch q ms
    pub past : (st : Stage) → PastMail q w.home.closing w.index w.root w.names.unreleased st s.tasks.items

  pub goes_to : (q : Place) (w : Worker) (s : Shared B) → ClosesOn (driver_of w) w.home.timers q → GoesTo q w s
  goes_to = grind arith

  -- NOBODY HOLDS ANYTHING OF IT: who could, was polled by the pool, which has passed the barrier, or is its root; and is over

  held_by_none : (others : Profile) (w : Worker) (s : Shared B) → SoundAt (Place.Closing InClosing.CloseMailbox) w s → IsLetOn w.index s.seats.items → IsWhole (with_worker others w) s
      → (k : ℕ) (r : Thing) → slice_get (map thing_of s.requests.items) k ≡ Some r → r.worker ≡ w.index → holdings k (map holder_of s.tasks.items) ≡ 0
  held_by_none others w s sound let_on whole k r at mine =
      sum_none (λ (it : Holder). count_by (λ (h : Held). h.number == k) it.held) (map holder_of s.tasks.items)
      (λ t it there. count_none (λ (h : Held). h.number == k) it.held (λ j x at_j. by t it there j x at_j (x.number == k) refl))
    where
      seat : Chair
      seat = sound.seated.seat

      -- a task that is over holds nothing
      emptied : (t : ℕ) (it : Holder) (j : ℕ) (x : Held) → slice_get (map holder_of s.tasks.items) t ≡ Some it → slice_get it.held j ≡ Some x → it.over ≡ true → ⊥
      emptied t it j x there at_j over =
          absurd (omega (arith, (whole.holding.over t it there over).0, slice_get_within it.held j x at_j))

      -- each ordinary task is over once all have passed the barrier
      ordinary_over : (t : ℕ) (slot : TaskSlot B) → slice_get s.tasks.items t ≡ Some slot → slot.home ≡ None → w.index < s.config.workers → is_complete slot.cell.phase ≡ true
      ordinary_over t slot found home few =
          let left : seat.left ≡ true = (sound.phased seat sound.seated.there).left ∙ ap (λ b. b && true) (sound.seated.pool ∙ less_is w.index s.config.workers few) in
          all_over (duties_of (with_worker others w)) s.tasks.items s.set s.seats.items w.index seat sound.seated.there left (let_on seat sound.seated.there left)
          (λ u other at_u ordinary unpolled going_on. ((sound.resting u other at_u ordinary unpolled).uncleared going_on).1) whole.pool t slot found home
        where
          less_is : (a b : ℕ) → a < b → nat_lt a b ≡ true
          less_is a b h = grind (arith, nat_tests, h)

      root_over_now : (t : ℕ) (slot : TaskSlot B) → slice_get s.tasks.items t ≡ Some slot → slot.home ≡ Some w.index → is_complete slot.cell.phase ≡ true
      root_over_now t slot found home =
          let is : t ≡ w.root = own_root (Place.Closing InClosing.CloseMailbox) w s sound t slot found home in
          (sound.phased seat sound.seated.there).root slot (subst (λ n. slice_get s.tasks.items n ≡ Some slot) is found)

      by : (t : ℕ) (it : Holder) → slice_get (map holder_of s.tasks.items) t ≡ Some it → (j : ℕ) (x : Held) → slice_get it.held j ≡ Some x → (b : Bool) → (x.number == k) ≡ b → (x.number == k) ≡ false
      by t it there j x at_j false is = is
      by t it there j x at_j true is =
          let held = whole.holding.holds t it j x there at_j in
          let same : held.0 ≡ r = same_Some held.0 r (sym held.1 ∙ ap (slice_get (map thing_of s.requests.items)) (same_number x.number k is) ∙ at) in
          let near : MayHave s.config.workers it.home w.index = subst (MayHave s.config.workers it.home) (ap (λ (y : Thing). y.worker) same ∙ mine) held.2.near in
          let slot = unmapped holder_of s.tasks.items t it there in
          absurd (emptied t it j x there at_j (by_home slot.0 slot.1 slot.2 it.home refl near))
        where
          by_home : (slot : TaskSlot B) → slice_get s.tasks.items t ≡ Some slot → holder_of slot ≡ it → (home : Option ℕ) → it.home ≡ home → MayHave s.config.workers it.home w.index → it.over ≡ true
          by_home slot found shown None home near =
              sym (ap (λ (y : Holder). y.over) shown) ∙ ordinary_over t slot found (ap (λ (y : Holder). y.home) shown ∙ home) (subst (λ o. MayHave s.config.workers o w.index) home near)
          by_home slot found shown (Some i) home near =
              let own : w.index ≡ i = subst (λ o. MayHave s.config.workers o w.index) home near in
              sym (ap (λ (y : Holder). y.over) shown) ∙ root_over_now t slot found (ap (λ (y : Holder). y.home) shown ∙ home ∙ ap (λ n. Some n) (sym own))

  -- what it had taken is about its own
  about_own : (w : Worker) (s : Shared B) (m : Mail) → IsMyMail s.config.workers w.index m s.requests.items s.sleepers.items → IsAbout s.config.workers w.index m (map thing_of s.requests.items) (map nap_of s.sleepers.items)
  about_own w s m mine = by m mine
    where
      of : (x : Subject) → IsMineIn s.config.workers w.index x s.requests.items s.sleepers.items → IsOf s.config.workers w.index x (map thing_of s.requests.items) (map nap_of s.sleepers.items)
      of (Subject.Request k) it = (thing_of it.0, mapped thing_of s.requests.items k it.0 it.1, it.2, it.3)
      of (Subject.Timer n) it = (nap_of it.0, mapped nap_of s.sleepers.items n it.0 it.1, it.2, it.3)

      by : (m : Mail) → IsMyMail s.config.workers w.index m s.requests.items s.sleepers.items → IsAbout s.config.workers w.index m (map thing_of s.requests.items) (map nap_of s.sleepers.items)
      by Message.WakeRoot it = tt
      by (Message.Forward x) it = of x it
      by (Message.Cancel x) it = of x it

module _ {B L : Type 0} (left : B → L) (spot : L → Option Said → Spot) (w w' : Worker) (s s' : Shared B) (e : Event) where
  pub mailbox_closed : SoundAt (Place.Closing InClosing.CloseMailbox) w s → IsGoing w.index s.seats.items → IsLetOn w.index s.seats.items → e ≡ Turn
      → OfChair w.index s (λ chair. w' ≡ record w { place = w'.place; batch = w'.batch; processed = batches_closed (map message_of chair.mailbox.inbox.messages) w.processed })
      → ClosesOn (driver_of w') w'.home.timers w'.place
      → OfChair w.index s (λ chair. w'.batch ≡ record (batch_handed chair.mailbox.inbox (record w.batch { values = [] })) { values = [] })
      → TurnsChair w.index (λ chair. record chair { mailbox = record chair.mailbox { inbox = shut (batch_taken chair.mailbox.inbox (record w.batch { values = [] })) } }) s s' → s' ≡ record s { seats = s'.seats } → Steps left spot w s e w' s'
  mailbox_closed sound going let_on event goes closes handed turns kept =
      closed_by left spot InClosing.CloseMailbox q w.home.closing w'.batch n w w' s s' e sound to.follows
      (ready_own InClosing.CloseMailbox q w'.batch n w s s' chair sound kept items is_mailbox refl refl (to.aims w.index s'.seats.items) refl (to.batch w'.batch.values none) (λ m has. absurd (no_mail m (subst (λ ms. Contains ms m) none has))) (λ no. absurd (false≢true (sym no))) (few_batches seat.mailbox.inbox.messages w.processed sound.processed) (λ pooled. absurd (false≢true (sym to.unpooled ∙ pooled))) to.lets_go (λ no. absurd (false≢true (sym no ∙ to.wakes)))
      (to.past (stage_of seat s) (going seat there) (sound.phased seat there)))
      (on_seats w.index s s' kept) (inl (ap (λ (z : Shared B). z.global) kept)) (seats_own w.index s.seats.items s'.seats.items seat chair items there (omega arith))
      (pools_unmailed left spot w w' s s' e q w'.batch n seat chair sound let_on there items (ap (λ (z : Shared B). z.set) kept) refl refl is_mailbox to.follows.polls to.drops)
      holds
      (ap (λ xs. map queue_of_chair xs) items ∙ queues_set s.seats.items w.index seat chair there refl) (goes seat there)
      (λ p vs suits.
      let cs = common_of left spot p vs s in
      let x = things_with vs s in
      let vs' = with_view vs w.index (visible w1) in
      let next : after_letting_go (first_held cs (desk_of w)) (first_asleep w.index cs (desk_of w)) ≡ q = lets_next left spot p vs (Place.Closing InClosing.CloseMailbox) w s sound q same_closes in
      let shown : inbox_at chair ≡ [] = ap (λ ms. map message_of ms) emptied in
      let inbox_none : map message_of w'.batch.values ++ map message_of chair.mailbox.inbox.messages ≡ [] = ap (λ ms. map message_of ms ++ map message_of chair.mailbox.inbox.messages) none ∙ shown in
      let shows : things_with vs' s' ≡ set_inbox w.index x [] = inbox_shows vs w.index (visible w1) s s' seat chair (visible w) suits.seen there kept items refl refl refl refl ∙ ap (set_inbox w.index x) shown in
      record {
        choice = Plain;
        moves =
            subst (λ y. move_at p.config w.index (own_of w) cs (desk_of w) x y ≡ record { event = e; choice = Plain; desk = desk_of w1; thing = things_with vs' s' }) (sym sound.here)
            (ap (λ ms. with_inbox w.index x (close_mailbox w.index cs (desk_of w) ms)) (own_inbox_seen w.index s seat there)
            ∙ ap (λ y. record { event = Turn; choice = Plain; desk = record (desk_of w) { place = y; batch = []; processed = n }; thing = set_inbox w.index x [] }) next
            ∙ ap (λ y. record { event = Turn; choice = Plain; desk = record (desk_of w) { place = q; batch = []; processed = n }; thing = y }) (sym shows)
            ∙ ap (λ ms. record { event = Turn; choice = Plain; desk = record (desk_of w) { place = q; batch = map message_of ms; processed = n }; thing = things_with vs' s' }) (sym none)
            ∙ ap (λ y. record { event = y; choice = Plain; desk = desk_of w1; thing = things_with vs' s' }) (sym event));
        may = rw event tt;
        own = rw (event, sound.here, to.follows.polls, to.free, to.unserved, to.owes w.workers) refl;
        common = grind (arith, kept, items, seats_twice vs.workers s.seats.items w.index (visible w1) chair, inbox_none, own_seat left spot p vs w s seat suits there, sound.here, event);
      })
    where
      q : Place
      q = w'.place

      seat : Chair
      seat = sound.seated.seat

      there : slice_get s.seats.items w.index ≡ Some seat
      there = sound.seated.there

      empty_batch : Reserved Mail
      empty_batch = record w.batch { values = [] }

      chair : Chair
      chair = record seat { mailbox = record seat.mailbox { inbox = shut (batch_taken seat.mailbox.inbox empty_batch) } }

      items : s'.seats.items ≡ slice_set s.seats.items w.index chair
      items = turns seat there

      n : ℕ
      n = batches_closed (map message_of seat.mailbox.inbox.messages) w.processed

      w1 : Worker
      w1 = record w { place = q; batch = w'.batch; processed = n }

      same_closes : ClosesOn (driver_of w) w.home.timers q
      same_closes = subst (λ (v : Worker). ClosesOn (driver_of v) v.home.timers q) (goes seat there) closes

      to : GoesTo q w s
      to = goes_to q w s same_closes

      none : w'.batch.values ≡ []
      none = ap (λ (b : Reserved Mail). b.values) (handed seat there)

      emptied : chair.mailbox.inbox.messages ≡ []
      emptied = taken_empty seat.mailbox.inbox empty_batch

      open_still : seat.mailbox.inbox.closed ≡ false
      open_still = (sound.phased seat there).shut

      is_mailbox : IsMailbox chair.mailbox
      is_mailbox =
          let mail = sound.seated.mail in
          let batch_some = sound.batch_place seat there open_still in
          let places : 0 < chair.mailbox.inbox.places = taken_places seat.mailbox.inbox empty_batch (λ is. let some = mail.place (ap (count_by is_wake_root) is) in omega (arith, some)) (omega (arith, batch_some)) in
          record { roots = omega (arith, ap (count_by is_wake_root) emptied); empty = λ is. emptied; place = λ h. omega (arith, ap length emptied, places) }

      holds : Holds q w.home.closing w'.batch n w s s'
      holds others whole =
          let h : Hands = hands_of (with_worker others w) in
          let h' : Hands = record { mail = mail_there others w'.batch w; wakes = (with_worker others w).wakes } in
          shut_holding h h' s.config.workers w.index (map holder_of s.tasks.items) (map thing_of s.requests.items) (map nap_of s.sleepers.items) (map box_of s.seats.items) (map box_of s'.seats.items) (box_of seat) (box_of chair)
          (record {
            there = mapped box_of s.seats.items w.index seat there;
            set = ap (map box_of) items ∙ map_set box_of s.seats.items w.index chair;
            shut = refl;
            none = emptied;
            closing = refl;
            more = refl;
            wakes = refl;
            batch = w.batch.values;
            hands = λ m.
                let weigh : Mail → ℕ = λ other. cond (same_mail m other) 1 0 in
                omega (arith, sum_by-append weigh (mail_of_letters w.letters) w.batch.values, sum_by-append weigh (mail_of_letters w.letters) w'.batch.values, ap (mail_in m) none);
            own = λ m has. about_own w s m (sound.mine m has);
            nobody = λ k r at mine. held_by_none others w s sound let_on whole k r at mine;
          })
          whole.holding
