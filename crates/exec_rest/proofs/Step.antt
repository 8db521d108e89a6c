-- One step of any party keeps what holds, and so it holds along every log by moves.
use Rattle.std.proofs.{Common.{◌≡◌, ℕ, true, refl, sym, ◌∙◌, inl, inr, arith}, lemmas.Bool.cases_Bool}
use Rattle.exec_machine.specs.{declared.{config.Configuration.Configuration, step.Action.{Action, Action as action}}, Callers.is_enabled, World.{Common, Own as Books, own_of}}
use Rattle.exec_moves.specs.{declared.place.Place.{Place, Place as at}, Move.{move, move_at}, Plays.{Playing, by_action, by_move, by_step, desk_of}, State.{Desk, Moved, Things}}
use Rattle.exec_rest.{specs.{Posted.IsPosted, Rested.{IsLaidOut, IsRaised, IsRestful}}, proofs.{Heeds.Heeds, MovesA.{begins, picks, takes_flag, pops_one, pushes, leaves, kicks, mails}, MovesB.{sends_cancel, closings, calls}, MovesC.polls, MovesLook.{loads, tests, reads, look, withdraws}, MovesScan.{scan, search as searches}, MovesGlobal.{claims, globals, signalled}, MovesWait.word_wait, MovesRing.ring_wait, MovesServe.service, FactsA.{answered_then, bits_then, calls_then, covered_then, dried_then, over_then, pooled_then, withdrawn}, Tested.tested_then, MailHeeds.MailHeeds, Mailing.{early_then, mail_heeds, numbered_then, posted_then}, CallMail.posted_by_caller, OtherMail.posted_by_other, FactsB.{abed_then, armed_then, asked_then, ended_then, entering_then, kept_then, polled_then, rung_then, sleeping_then}, Calls.by_caller, Others.by_other}}

-- each move minds what others rely on
pub heeds_at : (R : Type 0) (c : Configuration) (i : ℕ) (me : Books) (s : Common) (d : Desk) (x : Things) (p : Place) → d.place ≡ p → Heeds R i s d x (move_at c i me s d x p)
heeds_at R c i me s d x at.BeginTurn h = begins R c i me s d x h
heeds_at R c i me s d x (at.Pick p) h = picks R c i me s d x p h
heeds_at R c i me s d x at.TakeRootFlag h = takes_flag R c i me s d x h
heeds_at R c i me s d x (at.Poll t p) h = polls R c i me s d x t p h
heeds_at R c i me s d x (at.Callbacks p n) h = calls R c i me s d x p n h
heeds_at R c i me s d x (at.Loads p r) h = loads R c i me s d x p r h
heeds_at R c i me s d x (at.Service p v) h = service R c i me s d x p v h
heeds_at R c i me s d x (at.Mail p) h = mails R c i me s d x p h
heeds_at R c i me s d x (at.TestForWork f) h = tests R c i me s d x f h
heeds_at R c i me s d x at.ReadClock h = reads R c i me s d x h
heeds_at R c i me s d x (at.Search p) h = searches R c i me s d x p h
heeds_at R c i me s d x (at.Scan p) h = scan R c i me s d x p h
heeds_at R c i me s d x (at.Look p) h = look R c i me s d x p h
heeds_at R c i me s d x (at.RingWait p y) h = ring_wait R c i me s d x p y h
heeds_at R c i me s d x (at.WordWait p) h = word_wait R c i me s d x p h
heeds_at R c i me s d x (at.Withdraw n) h = withdraws R c i me s d x n h
heeds_at R c i me s d x (at.Closing p) h = closings R c i me s d x p h
heeds_at R c i me s d x (at.Pop p b) h = pops_one R c i me s d x p b h
heeds_at R c i me s d x (at.LeaveSearch b) h = leaves R c i me s d x b h
heeds_at R c i me s d x (at.Push p b) h = pushes R c i me s d x p b h
heeds_at R c i me s d x (at.Global p b) h = globals R c i me s d x p b h
heeds_at R c i me s d x (at.Kick p b) h = kicks R c i me s d x p b h
heeds_at R c i me s d x (at.ClaimWorker set b) h = claims R c i me s d x set b h
heeds_at R c i me s d x (at.Signal p j b) h = signalled R c i me s d x p j b h
heeds_at R c i me s d x (at.SendCancel b) h = sends_cancel R c i me s d x b h

module _ (c : Configuration) (x : Playing) (laid : IsLaidOut c x) (held : IsRestful c x) where
  by_work : (i : ℕ) → is_enabled x.world.common (action.Work i) ≡ true → IsRestful c (by_action c x (action.Work i)).next
  by_work i may =
      let s = x.world.common in
      let d = desk_of c x i in
      let me = own_of x.world i in
      let m : Moved Things = move c i me s d x.things in
      let R = IsRaised c (by_move c x i m).next i true in
      let heeds : Heeds R i s d x.things m = heeds_at R c i me s d x.things d.place refl in
      record {
        abed = abed_then c x laid held i may m heeds;
        armed = armed_then c x laid held i may m heeds;
        rung = rung_then c x laid held i may m heeds;
        entering = entering_then c x laid held i may m heeds;
        sleeping = sleeping_then c x laid held i may m heeds;
        asked = asked_then c x laid held i may m heeds;
        polled = polled_then c x laid held i may m heeds;
        kept = kept_then c x laid held i may m heeds;
        ended = ended_then c x laid held i may m heeds;
        pooled = pooled_then c x laid held i may m R heeds;
        bits = bits_then c x laid held i may m R heeds;
        answered = answered_then c x laid held i may m R heeds (withdrawn c i me s d x.things);
        covered = covered_then c x laid held i may m R heeds;
        dried = dried_then c x laid held i may m R heeds;
        over = over_then c x laid held i may m R heeds;
        calls = calls_then c x laid held i may m R heeds;
      }

  pub by_any : (a : Action) → is_enabled x.world.common a ≡ true → IsRestful c (by_action c x a).next
  by_any = grind (arith, by_work, by_caller, by_other)

  -- a step that is not enabled changes nothing
  pub goes_on : (a : Action) → IsRestful c (by_step c x a).next
  goes_on = grind (arith, cases_Bool, by_any)

  -- MESSAGES

  module _ (before : IsPosted c x) where
    posted_by_work : (i : ℕ) → is_enabled x.world.common (action.Work i) ≡ true → IsPosted c (by_action c x (action.Work i)).next
    posted_by_work i may =
        let s = x.world.common in
        let d = desk_of c x i in
        let me = own_of x.world i in
        let m : Moved Things = move c i me s d x.things in
        let R = IsRaised c (by_move c x i m).next i true in
        let heeds : Heeds R i s d x.things m = heeds_at R c i me s d x.things d.place refl in
        let mails : MailHeeds i d x.things m = mail_heeds c i me s d x.things R heeds in
        let match = laid.boxes ∙ sym laid.words in
        record {
          numbered = numbered_then c x laid held i may m R heeds mails match before;
          posted = posted_then c x laid held i may m R heeds mails match before;
          early = early_then c x laid held i may m R heeds mails match before;
          tested = tested_then c x laid i may heeds.born before.tested;
        }

    posted_by_any : (a : Action) → is_enabled x.world.common a ≡ true → IsPosted c (by_action c x a).next
    posted_by_any (action.Work i) may = posted_by_work i may
    posted_by_any (action.Spawn j k) may = posted_by_caller c x laid laid.boxes held before (action.Spawn j k) refl may
    posted_by_any (action.Wake j t) may = posted_by_caller c x laid laid.boxes held before (action.Wake j t) refl may
    posted_by_any (action.GoOn j) may = posted_by_caller c x laid laid.boxes held before (action.GoOn j) refl may
    posted_by_any (action.Clock d) may = posted_by_other c x laid held before (action.Clock d) refl may
    posted_by_any (action.Land r n) may = posted_by_other c x laid held before (action.Land r n) refl may
    posted_by_any (action.SetBusy i) may = posted_by_other c x laid held before (action.SetBusy i) refl may
    posted_by_any (action.EndPoll i) may = posted_by_other c x laid held before (action.EndPoll i) refl may
    posted_by_any (action.Stir i) may = posted_by_other c x laid held before (action.Stir i) refl may
    posted_by_any (action.Peer l) may = posted_by_other c x laid held before (action.Peer l) refl may

    pub posted_goes_on : (a : Action) → IsPosted c (by_step c x a).next
    posted_goes_on a =
        elim (cases_Bool (is_enabled x.world.common a)) [
          | inl may ↦ rw may (posted_by_any a may)
          | inr off ↦ rw off before
        ]
