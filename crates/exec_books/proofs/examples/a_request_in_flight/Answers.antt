use Rattle.std.proofs.{Common.{◌≡◌, ℕ, zero, suc, ◌<◌, ◌==◌, ◌+◌, ◌&&◌, cond, Bool, true, false, not, [], length, None, refl, sym, ap, ◌∙◌, arith}, lemmas.Bool.{true≢false, false≢true, ne_eqb}}
use Rattle.exec_machine.specs.{declared.state.{Forwarding.TheVariants.Unsent, Request.Request, Rest.Rest as rest}, Deadlines.{is_after, next_due, rest_until}, Tests.{has_ended, is_asleep, is_awake, is_of_file, is_resolved}, World.{no_request, own_of, request_of, seat_of, sleeper_of}}
use Rattle.exec_books.{specs.{Booked.{AreLinedUp, flying_of, unreleased_of}, Examples.{its_own, its_request, its_seat, sending}, Listed.{AreListed, is_in}}, proofs.Listed.no_listed}
use Rattle.exec_books.proofs.examples.a_request_in_flight.Goals as goal

-- what is so of the one there is, and of all numbers past it; and the same of requests
each : (P : ℕ → Type 0) → P 0 → ((i : ℕ) → P (suc i)) → (i : ℕ) → P i
each P here past zero = here
each P here past (suc i) = past i

each_request : (P : Request → Type 0) → P its_request → P no_request → (k : ℕ) → P (request_of sending.common k)
each_request P here past = each (λ k. P (request_of sending.common k)) here (λ k. past)

listed : AreListed sending
listed zero =
    record { queued = λ h. absurd (false≢true h); landed_in = λ h. absurd (false≢true h); unenrolled = λ h. absurd (true≢false h); cancels = λ h. absurd (false≢true h); over = λ h. absurd (false≢true h) }
listed (suc k) = no_listed its_own [] (suc k)

lined_up : AreLinedUp sending
lined_up zero = record { durable = λ h. absurd (false≢true h); waits = λ h there. absurd (false≢true h); has = λ h gated over there. absurd (false≢true h) }
lined_up (suc k) = record { durable = λ h. absurd (false≢true h); waits = λ h there. absurd (false≢true h); has = λ h gated over there. absurd (false≢true h) }

-- two that aren't computed yet would be compared step by step
counted : its_own.unreleased ≡ unreleased_of 0 sending.common.requests
counted = let one : its_own.unreleased ≡ 1 = refl in let there : unreleased_of 0 sending.common.requests ≡ 1 = refl in one ∙ sym there

flying : its_own.in_flight ≡ flying_of 0 sending.common.requests
flying = let one : its_own.in_flight ≡ 1 = refl in let there : flying_of 0 sending.common.requests ≡ 1 = refl in one ∙ sym there

due : its_seat.rest ≡ rest_until (next_due sending.common 0)
due = let until : its_seat.rest ≡ rest.Until 10000000 = refl in let next : rest_until (next_due sending.common 0) ≡ rest.Until 10000000 = refl in until ∙ sym next

not_asleep : (b : Bool) → (b && not true && not true) ≡ false
not_asleep = grind arith

pub returns-clause-booked : goal.returns-clause-booked
returns-clause-booked c =
    let s = sending.common in
    let one : length s.seats ≡ 1 = refl in
    let none : length s.sleepers ≡ 0 = refl in
    record {
      listed = listed;
      lined_up = lined_up;
      led = λ file none. refl;
      timed = each_request (λ r. is_resolved r.phase ≡ true → r.timer ≡ None) (λ h. absurd (false≢true h)) (λ h. refl);
      undated = each_request (λ r. is_of_file r.operation.kind ≡ true → (r.operation.deadline ≡ None) × (r.timer ≡ None)) (λ h. absurd (false≢true h)) (λ h. absurd (false≢true h));
      let_go = each_request (λ r. r.released ≡ true → is_resolved r.phase ≡ true) (λ h. absurd (false≢true h)) (λ h. refl);
      counted = each (λ i. (own_of sending i).unreleased ≡ unreleased_of i s.requests) counted (λ i. sym (ap (λ b. 0 + cond (b && true) 1 0) (ne_eqb 0 (suc i) (λ same. omega (arith, same)))));
      flying = each (λ i. (own_of sending i).in_flight ≡ flying_of i s.requests) flying (λ i. sym (ap (λ b. 0 + cond (b && true) 1 0) (ne_eqb 0 (suc i) (λ same. omega (arith, same)))));
      untold = λ i k h. absurd (false≢true (sym (each (λ i. is_in k (own_of sending i).untold ≡ false) refl (λ i. refl) i) ∙ h));
      over = each (λ i. has_ended (seat_of s i).phase ≡ true → ((own_of sending i).unreleased ≡ 0) × ((z : ℕ) → is_asleep i (sleeper_of s z) ≡ false)) (λ h. absurd (false≢true h)) (λ i h. (refl, λ z. not_asleep (0 == suc i)));
      requests = λ k within. each_request (λ r. r.worker < length s.seats) (omega (arith, one)) (omega (arith, one)) k;
      sleepers = λ z within. absurd (omega (arith, within, none));
      sent = λ k h. absurd (let un = each_request (λ r. r.forwarding ≡ Unsent) refl refl k in cc);
      sent_too = λ z h. absurd (let un : (sleeper_of s z).forwarding ≡ Unsent = refl in cc);
      dues = each (λ i. is_awake (seat_of s i).rest ≡ false → ((seat_of s i).rest ≡ rest_until (next_due s i)) × (is_after s.clock (next_due s i) ≡ true)) (λ h. (due, refl)) (λ i h. absurd (true≢false h));
    }
