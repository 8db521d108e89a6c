-- What an output is of, and what bytes that move leave of a request.
use Rattle.std.proofs.Common.{◌≡◌, ℕ, Bool, true, false, cond, Option, Some, None, Result, Ok, Err, refl, sym, ap, arith, length}
use Rattle.std.specs.Result.{OnOk, OnErr}
use Rattle.exec_outcomes.specs.{Accounts.Account, declared.outcome.{Kind.Kind as kind, OpResult.{OpResult, TheVariants.{Count, Errno}}}}
use Rattle.exec_request.specs.{Kept.Kept, Requests.{asked_of, output_of}, States.Ended, Syncing.write_kind, Ways.asked_by, declared.{way.Way.Way, request.Request.{Request, TheVariants.{Send, Recv, ReadAt, WriteAt, Sync, Connect, Poll}}, window.{Opcode.{Opcode, Opcode as opcode}, Window.Window}, write_at.WriteAtState.WriteAtState}}
use Rattle.exec_ring.specs.{Landings.{MovesBy, MovesBytes, Moves}, declared.{completion.Submission.Submission, landing.Unlawful.Unlawful, store.Store.Store}}
use Rattle.exec_waiters.specs.{States.{is_sync, suits}, Events.{is_of_sync, fits}, declared.observer.Observer.Observer}

no_receive : (exact : Bool) → is_sync (cond exact kind.Fill kind.Recv) ≡ false
no_receive = grind arith

no_read : (way : Way) (n : ℕ) → is_sync (asked_by way n).kind ≡ false
no_read = grind arith

no_write : (state : WriteAtState) → is_sync (write_kind state) ≡ false
no_write = grind arith

-- the output of a sync is one of a sync, and no other is
same_sync : (r : Request) (ended : Ended) (account : Option Account) → is_of_sync (output_of r ended account) ≡ is_sync (asked_of r).kind
same_sync (Send s) ended account = refl
same_sync (Recv r) ended account = sym (no_receive r.exact)
same_sync (ReadAt r) ended account = sym (no_read r.way (length r.buf.bytes))
same_sync (WriteAt w) ended account = sym (no_write w.state)
same_sync (Sync s) ended account = refl
same_sync (Connect c) ended account = refl
same_sync (Poll p) ended account = refl

pub fits_by : {S F : Type 0} (r : Request) (observer : Observer S F) (ended : Ended) (account : Option Account) → suits r observer ≡ true → fits (output_of r ended account) observer ≡ true
fits_by r observer ended account suited = rw (same_sync r ended account) suited

-- bytes that move leave what was asked for
moved_by : (kind : Opcode) (w : Window) (n : ℕ) (r r' : Request) (st st' : Store) → MovesBy kind w n r r' st st' → asked_of r' ≡ asked_of r
moved_by opcode.Send w n r r' st st' moved = ap asked_of moved.1
moved_by opcode.Recv w n r r' st st' moved = ap (λ (k : Kept). k.asked) moved.1.kept
moved_by opcode.Read w n r r' st st' moved = ap (λ (k : Kept). k.asked) moved.1.kept
moved_by opcode.Write w n r r' st st' moved = ap asked_of moved.1
moved_by _ w n r r' st st' moved = ap asked_of moved.1

moved_bytes : (w : Window) (given : OpResult) (r r' : Request) (st st' : Store) → MovesBytes w given r r' st st' → asked_of r' ≡ asked_of r
moved_bytes w (Count n) r r' st st' moved = moved_by w.kind w n r r' st st' moved
moved_bytes w (Errno c) r r' st st' moved = ap asked_of moved.1

moved_all : (flight : Option Submission) (given : OpResult) (r r' : Request) (st st' : Store) → Moves flight given r r' st st' → asked_of r' ≡ asked_of r
moved_all None given r r' st st' moved = absurd moved
moved_all (Some e) given r r' st st' moved = moved_bytes e.window given r r' st st' moved

pub asked_after : (answer : Result (Unit {0}) Unlawful) (flight : Option Submission) (given : OpResult) (r r' : Request) (st st' : Store) → OnOk answer (Moves flight given r r' st st') → OnErr answer (r' ≡ r) → asked_of r' ≡ asked_of r
asked_after (Ok done) flight given r r' st st' moved same = moved_all flight given r r' st st' moved
asked_after (Err refused) flight given r r' st st' moved same = ap asked_of same
