-- What a worker tells in a service: of each request that is over by it, and of each sleeper that fires.
use Rattle.std.proofs.{Common.{◌≡◌, ℕ, Bool, true, false, List, [], ◌∷◌, unwrap_or, Option, Some, None, refl, arith}, lemmas.Bool.false≢true}
use Rattle.exec_outcomes.specs.{declared.outcome.{Kind.Kind, OpResult.OpResult, Outcome.Outcome}, Accounts.{Account, outcome_at_grant}}
use Rattle.exec_machine.specs.{declared.{config.Configuration.Configuration, event.Event.TheVariants.{Rouse, Serve}, state.Request.Request}, Deadlines.{enrolled, expired, fires_at, outcome_at_enrol, outcome_at_expiry}, Requests.{account_of_open, granted, outcome_given, outcome_shown, reaped as reaped_by}, Tests.is_awake, World.{Common, Own as Books, request_of, seat_of, sleeper_of}}
use Rattle.exec_moves.specs.{declared.place.{InService.{InService, InService as step}, Reaping.Reaping, Service.Service, Place.Place as at}, Move.{move_service, move_submit}, Serve.{end_service, enter_last, first_to_fire, others_after_reap, reap, result_in}, State.{Desk, Moved, Things, gate_of}, Submit.{Due, Due.{AtGate, Cancels, Ends, Enrols, Expires, Flushes, Stages}, after_grant, due_next, granted_at, stage_next, try_gate}, Thing.{aside, ring_of, with_gate, with_ring}, Told.told_if_ended}
use Rattle.exec_settled.proofs.{TellsMild.{Matches, mild_end, mild_fire}, TellsPlain.{Mild, TellsAll, lists_of, is_mute, mild, mute_if, quiet, told_apart}, TellsQuiet.polled_lists}

module _ (c : Configuration) (i : ℕ) (me : Books) (s : Common) (d : Desk) (x : Things) (v : Service) where
  abbrev Mildly : Moved Things → Type 0
  Mildly m = Mild c i me s d x m

  calm : (m : Moved Things) → lists_of m.desk m.thing ≡ lists_of d x → is_mute m.event ≡ true → Mildly m
  calm m lists mute = mild c i me s d x m (quiet c i me s d x m lists mute)

  -- COMPLETIONS: as one more result gives an end or none
  matches_reap : (account : Account) (kind : Kind) (n : OpResult) (it : Request) (given : Option Outcome) → Matches c i me s d x given (reaped_by n (outcome_shown account kind given) it) it
  matches_reap = grind (arith, false≢true)

  reaps : (r : Reaping) (l : List ℕ) → Mildly (with_ring i x (reap i v r s d (record (ring_of s x i) { landed = l })))
  reaps r [] = calm _ refl refl
  reaps r (q ∷ later) =
      let it = request_of s q in
      let n = result_in it.phase in
      mild_end c i me s d x _ q (reaped_by n (outcome_shown (account_of_open s it) it.operation.kind (outcome_given it n)) it) (outcome_given it n) (others_after_reap later (ring_of s x i).wakes d) refl refl
      (matches_reap (account_of_open s it) it.operation.kind n it (outcome_given it n)) refl refl refl

  -- DEADLINES AND GATES
  matches_expire : (it : Request) (how : Option Outcome) → Matches c i me s d x how (expired how it) it
  matches_expire = grind arith

  matches_enrol : (moment : ℕ) (it : Request) (how : Option Outcome) → Matches c i me s d x how (enrolled moment how it) it
  matches_enrol = grind arith

  matches_grant : (it : Request) (how : Option Outcome) → Matches c i me s d x how (granted how it) it
  matches_grant = grind (arith, false≢true)

  granted_lists : (file : ℕ) (o : Option Outcome) (e : Desk) (y : Things) → lists_of (after_grant v file o e) y ≡ lists_of e y
  granted_lists = grind arith

  tries : (file : ℕ) (o : Option ℕ) → granted_at i (gate_of x file) s ≡ o → Mildly (with_gate file x (try_gate i v file s d (gate_of x file)))
  tries file None none = rw none (calm _ refl refl)
  tries file (Some r) some =
      let it = request_of s r in
      let how = outcome_at_grant it.operation.kind (account_of_open s it) in
      rw some (mild_end c i me s d x _ r (granted how it) how d refl refl (matches_grant it how) refl refl (granted_lists file how (told_if_ended how r it d) x))

  flushes : (gate : ℕ) (busy : Bool) → Mildly (with_ring i x (stage_next c i v gate me s d (record (ring_of s x i) { busy = busy }) Flushes))
  flushes gate true = calm _ refl refl
  flushes gate false = calm _ refl refl

  submits_due : (gate : ℕ) (due : Due) → Mildly (move_submit c i me s d x gate v due)
  submits_due gate (Expires r) =
      let it = request_of s r in mild_end c i me s d x _ r (expired (outcome_at_expiry it) it) (outcome_at_expiry it) d refl refl (matches_expire it (outcome_at_expiry it)) refl refl refl
  submits_due gate (Enrols r) =
      let it = request_of s r in
      let how = outcome_at_enrol c me it.operation.deadline in
      let moment = fires_at c me (unwrap_or it.operation.deadline 0) in
      mild_end c i me s d x _ r (enrolled moment how it) how d refl refl (matches_enrol moment it how) refl refl refl
  submits_due gate (AtGate file) = tries file (granted_at i (gate_of x file) s) refl
  submits_due gate Flushes = flushes gate (seat_of s i).busy
  submits_due gate (Cancels r) = calm _ refl refl
  submits_due gate (Stages r) = calm _ refl refl
  submits_due gate Ends = calm _ (polled_lists c i me s d x d) refl

  -- THE END
  enters : (busy : Bool) → Mildly (with_ring i x (enter_last v me d (record (ring_of s x i) { busy = busy })))
  enters true = calm _ refl refl
  enters false = calm _ refl refl

  ends : (o : Option ℕ) → first_to_fire i me s d ≡ o → Mildly (aside x (end_service i v me s d))
  ends None none = rw none (calm _ refl refl)
  ends (Some z) some = rw some (mild_fire c i me s d x _ z (record (sleeper_of s z) { fired = true }) refl refl refl refl refl)

  serves : (p : InService) → Mildly (move_service c i me s d x p v)
  serves step.Sample = calm _ refl refl
  serves (step.Reap r) = reaps r (seat_of s i).landed
  serves (step.PassPermit file b) = calm _ refl refl
  serves (step.Signal j b) = calm _ refl refl
  serves (step.Raise ring j b) = calm _ refl (mute_if (is_awake (seat_of s j).rest) Serve (Rouse j) refl refl)
  serves step.AdvanceWheel = calm _ refl refl
  serves (step.Submit gate) = submits_due gate (due_next c i gate me s d)
  serves step.EnterLast = enters (seat_of s i).busy
  serves step.EndService = ends (first_to_fire i me s d) refl

  pub service : (p : InService) → d.place ≡ at.Service p v → TellsAll c i me s d x (move_service c i me s d x p v)
  service p is = told_apart c i me s d x _ (at.Service p v) is refl (serves p)
