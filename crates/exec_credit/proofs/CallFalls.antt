-- Each quiet step of a caller costs credit.
use Rattle.std.proofs.{Common.{◌≡◌, ℕ, ◌<◌, ◌≤◌, ◌==◌, Bool, true, false, List, [], ◌∷◌, Option, Some, None, if◌then◌else◌, refl, arith}, lemmas.Bool.false≢true}
use Rattle.exec_words.specs.{Idle.{Idle, lowest_of}, Word.asks_signal, declared.idle.WorkerSet.WorkerSet}
use Rattle.exec_machine.specs.{declared.{config.Configuration.Configuration, event.Event.Event, step.Action.Action as action}, Text.is_quiet, World.{Common, seat_of, task_of}}
use Rattle.exec_moves.specs.{Call.{CallDesk, Called}, Claim.same_bools, Global.has_any, MoveOfCaller.{call_global, call_on, call_wake, move_of_caller}, Send.Posting, State.{Things, word_of}, declared.handing.{CallPlace.{CallPlace, CallPlace as call}, InGlobal.InGlobal as global, InSignal.InSignal as signals}}
use Rattle.exec_credit.specs.CallCredit.{call_credit, claim_worker, load_set, most_credit}

pub same_self : (xs : List Bool) → same_bools xs xs ≡ true
same_self [] = refl
same_self (true ∷ xs) = same_self xs
same_self (false ∷ xs) = same_self xs

load_most : (some : Bool) → load_set some ≤ load_set true
load_most true = omega arith
load_most false = omega arith

claim_most : (some same : Bool) → claim_worker some same ≤ claim_worker true false
claim_most true true = omega arith
claim_most true false = omega arith
claim_most false same = omega arith

pub at_most : (p : CallPlace) (x : Idle) → call_credit p x ≤ most_credit
at_most call.Nothing x = omega arith
at_most (call.Global global.Append) x = let it = load_most (has_any x) in omega (arith, it)
at_most (call.Global global.LoadGlobalSet) x = let it = load_most (has_any x) in omega (arith, it)
at_most (call.Global (global.AddGlobalCount set)) x = let it = claim_most (has_any x) (same_bools set.has x.published) in omega (arith, it)
at_most (call.Global global.ReturnGlobalCount) x = let it = load_most (has_any x) in omega (arith, it)
at_most (call.ClaimWorker set) x = let it = claim_most (has_any x) (same_bools set.has x.published) in omega (arith, it)
at_most (call.Signal signals.SetLatch j) x = omega arith
at_most (call.Signal (signals.Raise ring) j) x = omega arith
at_most call.Return x = omega arith

-- THE FIRST STEP

told_if : (b : Bool) (e f : Event) → is_quiet e ≡ false → is_quiet f ≡ false → is_quiet (if b then e else f) ≡ false
told_if true e f one other = one
told_if false e f one other = other

pub spawns : (c : Configuration) (s : Common) (d : CallDesk) (x : Things) (j k : ℕ) → is_quiet (move_of_caller c s d x (action.Spawn j k)).event ≡ false
spawns c s d x j k = told_if s.set_closed _ _ refl refl

pub wakes : (c : Configuration) (s : Common) (d : CallDesk) (x : Things) (j t : ℕ) → is_quiet (move_of_caller c s d x (action.Wake j t)).event ≡ false
wakes c s d x j t = by (task_of s t).home
  where
    posted : (b : Bool) (p q : Posting) → is_quiet p.event ≡ false → is_quiet q.event ≡ false → is_quiet (if b then p else q).event ≡ false
    posted true p q one other = one
    posted false p q one other = other

    by : (home : Option ℕ) → is_quiet (call_wake s d x t home).event ≡ false
    by None = refl
    by (Some home) = posted (seat_of s home).mailbox_closed _ _ refl refl

-- EACH STEP AFTER IT

abbrev Falls : CallDesk → Things → Called Things → Type 0
Falls d x m = is_quiet m.event ≡ true → call_credit m.desk.place m.thing.idle < call_credit d.place x.idle

module _ (s : Common) (d : CallDesk) (x : Things) where
  appended : (b : Bool) → s.queue_closed ≡ b → d.place ≡ call.Global global.Append → Falls d x (call_global s d x global.Append)
  appended true shut is quiet = rw (shut, is) (omega arith)
  appended false still is quiet = rw (still, is) (omega arith)

  loaded : (b : Bool) → has_any x.idle ≡ b → d.place ≡ call.Global global.LoadGlobalSet → Falls d x (call_global s d x global.LoadGlobalSet)
  loaded true some is quiet = rw (some, is, some, same_self x.idle.published) (omega arith)
  loaded false none is quiet = rw (none, is, none) (omega arith)

  returned : (b : Bool) → (x.idle.count == 1) ≡ b → d.place ≡ call.Global global.ReturnGlobalCount → Falls d x (call_global s d x global.ReturnGlobalCount)
  returned true last is quiet = rw (last, is) (omega arith)
  returned false others is quiet = rw (others, is) (omega arith)

  claims : (set : WorkerSet) (o : Option ℕ) → lowest_of x.idle.published ≡ o → (same : Bool) → same_bools set.has x.idle.published ≡ same → d.place ≡ call.ClaimWorker set → Falls d x (call_on s d x (call.ClaimWorker set))
  claims set None none same is at quiet = rw (none, at, none) (omega arith)
  claims set (Some j) some true same at quiet = rw (some, same, at, some, same) (omega arith)
  claims set (Some j) some false other at quiet = rw (some, other, at, some, other, same_self x.idle.published) (omega arith)

  latches : (j : ℕ) (b : Bool) → asks_signal (word_of x j) ≡ b → d.place ≡ call.Signal signals.SetLatch j → Falls d x (call_on s d x (call.Signal signals.SetLatch j))
  latches j true asks is quiet = rw (asks, is) (omega arith)
  latches j false none is quiet = rw (none, is) (omega arith)

  at_place : (p : CallPlace) → d.place ≡ p → Falls d x (call_on s d x p)
  at_place call.Nothing is = λ quiet. absurd (false≢true quiet)
  at_place (call.Global global.Append) is = appended s.queue_closed refl is
  at_place (call.Global global.LoadGlobalSet) is = loaded (has_any x.idle) refl is
  at_place (call.Global (global.AddGlobalCount set)) is = λ quiet. rw is (omega arith)
  at_place (call.Global global.ReturnGlobalCount) is = returned (x.idle.count == 1) refl is
  at_place (call.ClaimWorker set) is = claims set (lowest_of x.idle.published) refl (same_bools set.has x.idle.published) refl is
  at_place (call.Signal signals.SetLatch j) is = latches j (asks_signal (word_of x j)) refl is
  at_place (call.Signal (signals.Raise ring) j) is = λ quiet. rw is (omega arith)
  at_place call.Return is = λ quiet. absurd (false≢true quiet)

pub falls : (c : Configuration) (s : Common) (d : CallDesk) (x : Things) (j : ℕ) → let m = move_of_caller c s d x (action.GoOn j) in
    is_quiet m.event ≡ true → call_credit m.desk.place m.thing.idle < call_credit d.place x.idle
falls c s d x j = at_place s d x d.place refl
