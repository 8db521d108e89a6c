-- The results that the machine allows for a request are those that its kernel may give.
use Rattle.std.{proofs.{Common.{◌≡◌, ℕ, ◌-◌, ◌^◌, ◌≤◌, ◌==◌, Bool, true, min, refl, arith, nat_le}, lemmas.{Bool.{and_parts, Decides.nat_tests}}}}
use Rattle.exec_outcomes.specs.{Lawful.{is_lawful, window_of}, Outcomes.{bytes_of}, declared.outcome.{OpResult.{OpResult, TheVariants.{Count, Errno}}, Kind.Kind}}
use Rattle.exec_request.specs.{Buffers.{batch_of, length_of, moved_of}, Requests.{asked_of, cursor_of, window_by}, Windows.most_of, declared.{buffers.WriteBuffers.{WriteBuffers, TheVariants.{Single, Vectored}}, request.Request.Request as Asking}}
use Rattle.exec_machine.specs.{declared.state.{Operation.Operation}, Requests.{asked_of as asked_in, cursor_of as cursor_in}}
use Rattle.exec_invariants.specs.Carried.{IsOneBuffer, IsWhole, is_moved_by, moves_by}

-- WINDOWS

pub batch_whole : (b : WriteBuffers) → IsOneBuffer b → batch_of b ≡ min (length_of b - moved_of b) (2 ^ 32 - 1)
batch_whole (Single buf offset) one = refl
batch_whole (Vectored bufs chunk offset remaining) one = absurd one

pub batch_few : (b : WriteBuffers) → IsOneBuffer b → batch_of b ≤ length_of b - moved_of b
batch_few b one = let e = batch_whole b one in rw e (omega arith)

-- what the machine allows is what the kernel does
pub lawful_same : (q : Asking) (o : Operation) (n : OpResult) → asked_in o ≡ asked_of q → o.moved ≡ (cursor_of q).moved → o.switched ≡ (cursor_of q).switched
    → is_lawful (window_of (asked_in o) (cursor_in o)) n ≡ true → is_lawful (window_of (asked_of q) (cursor_of q)) n ≡ true
lawful_same = grind arith

pub allowed_by : (q : Asking) (n : OpResult) → IsWhole q → is_lawful (window_of (asked_of q) (cursor_of q)) n ≡ true → is_lawful (most_of (window_by true q)) n ≡ true
allowed_by = grind arith

pub counted : (m : ℕ) (n : OpResult) → is_lawful m n ≡ true → bytes_of n ≤ m
counted m (Count k) h = let a = (and_parts (nat_le k m) (nat_le k (2 ^ 31 - 1)) h).0 in grind (arith, nat_tests)
counted m (Errno c) h = omega arith

-- a socket's result counts no more bytes than are left
few_by : (k : Kind) (b out : Bool) (length skip moved : ℕ) (hint : Bool) (n : OpResult) → is_moved_by out k ≡ true
    → is_lawful (window_of (record { kind = k; length = length; skip = skip }) (record { moved = moved; switched = b; hinted = hint })) n ≡ true → bytes_of n ≤ length - moved
few_by = grind arith

pub few_left : (o : Operation) (n : OpResult) (out : Bool) (socket : ℕ) → moves_by out socket o ≡ true → is_lawful (window_of (asked_in o) (cursor_in o)) n ≡ true → bytes_of n ≤ o.length - o.moved
few_left o n out socket moves h = few_by o.kind o.switched out o.length o.skip o.moved o.unrefused n (and_parts (is_moved_by out o.kind) (o.target == socket) moves).0 h
