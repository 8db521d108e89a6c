-- One more result of a request of the first kinds: the driver and the machine judge it the same.
use Rattle.exec_invariants.{proofs.Names.{◌≡◌, ℕ, ◌+◌, ◌-◌, ◌^◌, ◌<◌, ◌≤◌, ◌&&◌, Bool, true, false, not, Option, None, sym, ap, ◌∙◌, arith, nat_le, ◌⊎◌, nat_tests, and_parts, and-true, is_lawful, window_in, window_of, Asked, Cursor, Part, bytes_of, counted_for, cursor_next, outcome_next, part_now, refuses_hint, Judged, Kind, OpResult, Count, Errno, Outcome, Judges, judged_as, asked_of, cursor_of, hinted_of, Asking, Waiter, Request, outcome_given, went_on, judged_of, Reply}, specs.Names.IsAlike}

-- WHAT A RESULT MEANS doesn't hang on whether the operations may still have the hint

or_refused : (hinted refused unrefused after : Bool) → (hinted && not refused) ≡ false → after ≡ (unrefused && not refused) → (hinted ≡ false) ⊎ (after ≡ false)
or_refused = grind arith

module _ (start tick : ℕ) (it : Waiter Reply Reply) (r : Request) (a : IsAlike start tick it r) (given : OpResult) (flies : it.in_flight ≡ true) where
  pub judged_same : judged_of r given ≡ judged_as (hinted_of it.request) it.state given
  judged_same = ap (λ h. record { result = given; hinted = h; cancelled = r.cancelled }) (a.hinted flies) ∙ ap (λ x. record { result = given; hinted = hinted_of it.request; cancelled = x }) a.cancelled

  -- the outcome for the machine
  pub given_is : (q : Asking) (answer : Option Outcome) → Judges (asked_of it.request) (cursor_of it.request) (cursor_of q) (judged_as (hinted_of it.request) it.state given) answer → outcome_given r given ≡ answer
  given_is = grind arith

  -- and how far it has come
  pub moved_is : (q : Asking) (answer : Option Outcome) → Judges (asked_of it.request) (cursor_of it.request) (cursor_of q) (judged_as (hinted_of it.request) it.state given) answer → (went_on r given).moved ≡ (cursor_of q).moved
  moved_is = grind arith

  pub switched_is : (q : Asking) (answer : Option Outcome) → Judges (asked_of it.request) (cursor_of it.request) (cursor_of q) (judged_as (hinted_of it.request) it.state given) answer → (went_on r given).switched ≡ (cursor_of q).switched
  switched_is = grind arith

  -- whether it may still have a hint
  pub asks_after : (q : Asking) (answer : Option Outcome) → Judges (asked_of it.request) (cursor_of it.request) (cursor_of q) (judged_as (hinted_of it.request) it.state given) answer
      → (cursor_of q).hinted ≡ true → ((cursor_of it.request).hinted ≡ true) × ((went_on r given).unrefused ≡ r.operation.unrefused)
  asks_after = grind (arith, and_parts, judged_same, and-true)

  pub forgets_after : (q : Asking) (answer : Option Outcome) → Judges (asked_of it.request) (cursor_of it.request) (cursor_of q) (judged_as (hinted_of it.request) it.state given) answer
      → (cursor_of q).hinted ≡ false → ((cursor_of it.request).hinted ≡ false) ⊎ ((went_on r given).unrefused ≡ false)
  forgets_after q answer judges none =
      or_refused (cursor_of it.request).hinted (refuses_hint (judged_as (hinted_of it.request) it.state given)) r.operation.unrefused (went_on r given).unrefused (sym (ap (λ x. x.hinted) judges.cursor) ∙ none) (ap (λ j. r.operation.unrefused && not (refuses_hint j)) judged_same)

-- WHAT ONE MORE RESULT SAYS, of a request of any kind

pub cancel_decides : (asked : Asked) (c : Cursor) (j : Judged) → j.cancelled ≡ true → outcome_next asked c j ≡ None → ⊥
cancel_decides = grind arith

part_fits : (asked : Asked) (c : Cursor) → (part_now asked c).length ≤ asked.skip + asked.length
part_fits = grind arith

counted_fits : (part : Part) (moved : ℕ) (given : OpResult) → is_lawful (window_in part.kind part.length moved) given ≡ true → counted_for part given ≤ (part.length + 4095) - moved
counted_fits = grind arith

-- so many bytes its present part has moved at most
pub moved_fits : (asked : Asked) (c : Cursor) (j : Judged) → c.moved ≤ asked.skip + asked.length + 4095 → is_lawful (window_of asked c) j.result ≡ true → (cursor_next asked c j).moved ≤ asked.skip + asked.length + 4095
moved_fits = grind (arith, counted_fits, part_fits)

least_of : (n w m : ℕ) → (nat_le n w && nat_le n m) ≡ true → n ≤ m
least_of n w m h = grind (arith, nat_tests)

few : (w : ℕ) (given : OpResult) → is_lawful w given ≡ true → bytes_of given ≤ 2 ^ 31 - 1
few w (Count n) h = least_of n w (2 ^ 31 - 1) h
few w (Errno n) h = omega arith

-- nor do they come to more than a word can say
pub total_fits : (w moved most : ℕ) (given : OpResult) → moved ≤ most → most < 2 ^ 63 → is_lawful w given ≡ true → bytes_of given + moved < 2 ^ 64
total_fits w moved most given within small lawful = omega (arith, few w given lawful, within, small)

-- REQUESTS OF SOCKETS that move bytes have one part

abbrev pub is_of_bytes : Kind → Bool
is_of_bytes Kind.Send = true
is_of_bytes Kind.Recv = true
is_of_bytes Kind.Fill = true
is_of_bytes _ = false

pub moved_bytes : (asked : Asked) (c : Cursor) (j : Judged) → is_of_bytes asked.kind ≡ true → (cursor_next asked c j).moved ≡ c.moved + bytes_of j.result
moved_bytes = grind arith
