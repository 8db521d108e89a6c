-- What a step that is no worker's leaves, and that this is enough for the books.
use Rattle.std.{proofs.Common.{◌≡◌, ℕ, zero, suc, ◌+◌, ◌<◌, ◌==◌, Bool, true, not, ◌&&◌, List, [], ◌∷◌, length, refl, sym, ap, ◌∙◌, subst, get_or, set, fold, cond, arith}, specs.{Prelude.◌⊎◌, List.list_any}}
use Rattle.exec_machine.specs.{declared.state.{MailMessage.{MailMessage, MailMessage as message}, Operation.Operation, Request.Request}, Same.same_message, Tests.{has_ended, is_asleep, is_gated, is_in_flight, is_landed, is_of_file, is_queued, is_resolved}, World.{Common, Seat, World, no_open, no_request, no_sleeper, request_of, seat_of}}
use Rattle.exec_books.{specs.{Listed.{is_in, AreListed}, Booked.{AreLinedUp, IsBooked, IsLed, IsLinedUp, IsUnderWay, flying_of, unreleased_of}}, proofs.DuesLists.HasDue}

-- of a request: all but whether it flies or has landed
pub record SameRequest (x y : Request) : Type 0 where
  pub worker : y.worker ≡ x.worker
  pub operation : y.operation ≡ x.operation
  pub timer : y.timer ≡ x.timer
  pub cancelled : y.cancelled ≡ x.cancelled
  pub cancel_staged : y.cancel_staged ≡ x.cancel_staged
  pub released : y.released ≡ x.released
  pub forwarding : y.forwarding ≡ x.forwarding
  pub queued : is_queued y.phase ≡ is_queued x.phase
  pub in_flight : is_in_flight y.phase ≡ is_in_flight x.phase
  pub resolved : is_resolved y.phase ≡ is_resolved x.phase
  pub gated : is_gated y.phase ≡ is_gated x.phase

pub same_request : (x : Request) → SameRequest x x
same_request = grind arith

-- of a seat: what stands in its lists stands there still
pub record SameSeat (x y : Seat) : Type 0 where
  pub phase : y.phase ≡ x.phase
  pub mailbox_closed : y.mailbox_closed ≡ x.mailbox_closed
  pub inbox : (m : MailMessage) → list_any (same_message m) x.inbox ≡ true → list_any (same_message m) y.inbox ≡ true
  pub landed : (k : ℕ) → is_in k x.landed ≡ true → is_in k y.landed ≡ true

pub same_seat : (x : Seat) → SameSeat x x
same_seat x = record { phase = refl; mailbox_closed = refl; inbox = λ m h. h; landed = λ k h. h }

-- what such a step leaves; what lands is among what has landed
pub record Leaves (s late : Common) : Type 0 where
  pub seats : length late.seats ≡ length s.seats
  pub seat : (i : ℕ) → SameSeat (seat_of s i) (seat_of late i)
  pub requests : length late.requests ≡ length s.requests
  pub request : (k : ℕ) → SameRequest (request_of s k) (request_of late k)
  pub landed : (k : ℕ) → is_landed (request_of late k).phase ≡ true → (is_landed (request_of s k).phase ≡ true) ⊎ (is_in k (seat_of late (request_of s k).worker).landed ≡ true)
  pub counts : (i : ℕ) → unreleased_of i late.requests ≡ unreleased_of i s.requests
  pub flights : (i : ℕ) → flying_of i late.requests ≡ flying_of i s.requests
  pub sleepers : late.sleepers ≡ s.sleepers
  pub opens : late.opens ≡ s.opens

-- neither a request nor a sleeper changes
pub leaves_by_seats : (s late : Common) → late.requests ≡ s.requests → late.sleepers ≡ s.sleepers → late.opens ≡ s.opens → length late.seats ≡ length s.seats → ((i : ℕ) → SameSeat (seat_of s i) (seat_of late i)) → Leaves s late
leaves_by_seats = grind arith

-- an element that counts as the one before it
count_set : (test : Request → Bool) (n : ℕ) (rs : List Request) (r : ℕ) (y : Request) → test y ≡ test (get_or rs r no_request) → fold (λ a x. a + cond (test x) 1 0) n (set rs r y) ≡ fold (λ a x. a + cond (test x) 1 0) n rs
count_set test n [] r y same = refl
count_set test n (x ∷ rs) zero y same = ap (λ b. fold (λ a z. a + cond (test z) 1 0) (n + cond b 1 0) rs) same
count_set test n (x ∷ rs) (suc r) y same = count_set test (n + cond (test x) 1 0) rs r y same

pub unreleased_set : (i : ℕ) (rs : List Request) (r : ℕ) (y : Request) → SameRequest (get_or rs r no_request) y → unreleased_of i (set rs r y) ≡ unreleased_of i rs
unreleased_set i rs r y same = count_set (λ x. (x.worker == i) && not x.released) 0 rs r y (rw (same.worker, same.released) refl)

pub flying_set : (i : ℕ) (rs : List Request) (r : ℕ) (y : Request) → SameRequest (get_or rs r no_request) y → flying_of i (set rs r y) ≡ flying_of i rs
flying_set i rs r y same = count_set (λ x. (x.worker == i) && is_in_flight x.phase) 0 rs r y (rw (same.worker, same.in_flight) refl)

module _ (w : World) (late : Common) (left : Leaves w.common late) (held : IsBooked w) where
  abbrev s : Common
  s = w.common

  listed_still : AreListed (record w { common = late })
  listed_still = grind arith

  lined_still : AreLinedUp (record w { common = late })
  lined_still k = lined k (held.lined_up k) (left.request k)
    where
      lined : (k : ℕ) → IsLinedUp w k (request_of s k) → SameRequest (request_of s k) (request_of late k) → IsLinedUp (record w { common = late }) k (request_of late k)
      lined = grind arith

  under_way : (m : MailMessage) (i j : ℕ) → j ≡ i → IsUnderWay m (seat_of s i) → IsUnderWay m (seat_of late j)
  under_way = grind arith

  pub booked_still : ((i : ℕ) → HasDue late i) → IsBooked (record w { common = late })
  booked_still dues =
      record {
        listed = listed_still;
        lined_up = lined_still;
        led = λ file. subst (λ os. IsLed (get_or os file no_open)) (sym left.opens) (held.led file);
        timed = λ k h. (left.request k).timer ∙ held.timed k (sym (left.request k).resolved ∙ h);
        undated = λ k h. let same = left.request k in let was = held.undated k (ap (λ (o : Operation). is_of_file o.kind) (sym same.operation) ∙ h) in (ap (λ (o : Operation). o.deadline) same.operation ∙ was.0, same.timer ∙ was.1);
        let_go = λ k h. (left.request k).resolved ∙ held.let_go k (sym (left.request k).released ∙ h);
        counted = λ i. held.counted i ∙ sym (left.counts i);
        flying = λ i. held.flying i ∙ sym (left.flights i);
        untold = λ i k h. let was = held.untold i k h in (subst (λ n. k < n) (sym left.requests) was.0, (left.request k).worker ∙ was.1);
        over = λ i h. let was = held.over i (ap has_ended (sym (left.seat i).phase) ∙ h) in (was.0, λ z. ap (λ zs. is_asleep i (get_or zs z no_sleeper)) left.sleepers ∙ was.1 z);
        requests = λ k h. rw ((left.request k).worker, left.seats) (held.requests k (subst (λ n. k < n) left.requests h));
        sleepers = λ z h. rw (left.sleepers, left.seats) (held.sleepers z (subst (λ zs. z < length zs) left.sleepers h));
        sent = λ k h. let same = left.request k in under_way (message.ForwardRequest k) (request_of s k).worker (request_of late k).worker same.worker (held.sent k (sym same.forwarding ∙ h));
        sent_too = grind arith;
        dues = dues;
      }
