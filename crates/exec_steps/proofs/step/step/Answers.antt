use Rattle.std.proofs.{Common.{◌≡◌, refl, subst, arith}, lemmas.Grind.common_steps}
use Rattle.exec_moves.specs.declared.place.Place.{Place}
use Rattle.exec_invariants.{proofs.{Dedicated.few_here, Flagging.root_flag_taken, Still.steps_none, Kicking.{leaves_some, search_left, worker_claimed}, NextDue.told_due}, specs.Sound.SoundAt}
use Rattle.exec_parts.specs.declared.parts.{shared.Shared.Shared, worker.Worker.Worker}
use Rattle.exec_steps.proofs.{Picks.turn_begun, Looking.{clock_read, tested, withdrew}, LettersMay.letter_may, SendLetters.letter_sent}
use Rattle.exec_steps.proofs.step.step.Goals as goal

-- what is sound is so at its place
sound_at : {B : Type 0} (q : Place) (w : Worker) (s : Shared B) → w.place ≡ q → SoundAt w.place w s → SoundAt q w s
sound_at q w s is sound = subst (λ x. SoundAt x w s) is sound

pub pick-requires : goal.pick-requires
pick-requires g c = record { sound = sound_at (Place.Pick c.in-Pick.at) c.args.worker.now c.args.shared.now c.in-Pick.is c.requires.sound; whole = c.requires.whole }

pub poll-requires : goal.poll-requires
poll-requires g c = record { sound = sound_at (Place.Poll c.in-Poll.task c.in-Poll.at) c.args.worker.now c.args.shared.now c.in-Poll.is c.requires.sound; performs = c.requires.performs; whole = c.requires.whole; none_yet = c.requires.none_yet }

pub callbacks-requires : goal.callbacks-requires
callbacks-requires g c = record { sound = sound_at (Place.Callbacks c.in-Callbacks.at c.in-Callbacks.then) c.args.worker.now c.args.shared.now c.in-Callbacks.is c.requires.sound; whole = c.requires.whole }

pub load-requires : goal.load-requires
load-requires g c = record { sound = sound_at (Place.Loads c.in-Loads.at c.in-Loads.round) c.args.worker.now c.args.shared.now c.in-Loads.is c.requires.sound }

pub service-requires : goal.service-requires
service-requires g c = record { sound = sound_at (Place.Service c.in-Service.at c.in-Service.turn) c.args.worker.now c.args.shared.now c.in-Service.is c.requires.sound; whole = c.requires.whole }

pub mail-requires : goal.mail-requires
mail-requires g c = record { sound = sound_at (Place.Mail c.in-Mail.at) c.args.worker.now c.args.shared.now c.in-Mail.is c.requires.sound; whole = c.requires.whole }

pub wait_on_ring-requires : goal.wait_on_ring-requires
wait_on_ring-requires g c = record { sound = sound_at (Place.RingWait c.in-RingWait.at c.in-RingWait.stay) c.args.worker.now c.args.shared.now c.in-RingWait.is c.requires.sound }

pub wait_on_word-requires : goal.wait_on_word-requires
wait_on_word-requires g c = record { sound = sound_at (Place.WordWait c.in-WordWait.at) c.args.worker.now c.args.shared.now c.in-WordWait.is c.requires.sound }

pub close_down-requires : goal.close_down-requires
close_down-requires g c = record { sound = sound_at (Place.Closing c.in-Closing.at) c.args.worker.now c.args.shared.now c.in-Closing.is c.requires.sound; whole = c.requires.whole; going = c.requires.going; let_on = c.requires.let_on }

pub returns-in-BeginTurn-clause-steps : goal.returns-in-BeginTurn-clause-steps
returns-in-BeginTurn-clause-steps g c = steps_none _ _ _ _ _ _ _ _ _ _ c.requires.none_yet (turn_begun _ _ _ _ _ _ (sound_at Place.BeginTurn _ _ c.in-BeginTurn.is c.requires.sound) c.begin_turn.ensures.event c.begin_turn.ensures.goes)

pub returns-in-Pick-clause-steps : goal.returns-in-Pick-clause-steps
returns-in-Pick-clause-steps g c = steps_none _ _ _ _ _ _ _ _ _ _ c.requires.none_yet c.pick.ensures.steps

pub returns-in-TakeRootFlag-clause-steps : goal.returns-in-TakeRootFlag-clause-steps
returns-in-TakeRootFlag-clause-steps g c =
    steps_none _ _ _ _ _ _ _ _ _ _ c.requires.none_yet (root_flag_taken _ _ _ _ _ _ (sound_at _ _ _ c.in-TakeRootFlag.is c.requires.sound) c.take_root_flag.ensures.event c.take_root_flag.ensures.worker)

pub returns-in-Poll-clause-steps : goal.returns-in-Poll-clause-steps
returns-in-Poll-clause-steps g c = c.poll.ensures.steps

pub returns-in-Poll-clause-same : goal.returns-in-Poll-clause-same
returns-in-Poll-clause-same g c = c.poll.ensures.same

pub returns-in-Callbacks-clause-steps : goal.returns-in-Callbacks-clause-steps
returns-in-Callbacks-clause-steps g c = steps_none _ _ _ _ _ _ _ _ _ _ c.requires.none_yet c.callbacks.ensures.steps

pub returns-in-Loads-clause-steps : goal.returns-in-Loads-clause-steps
returns-in-Loads-clause-steps g c = grind arith

pub returns-in-Service-clause-steps : goal.returns-in-Service-clause-steps
returns-in-Service-clause-steps g c = steps_none _ _ _ _ _ _ _ _ _ _ c.requires.none_yet c.service.ensures.steps

pub returns-in-Mail-clause-steps : goal.returns-in-Mail-clause-steps
returns-in-Mail-clause-steps g c = steps_none _ _ _ _ _ _ _ _ _ _ c.requires.none_yet c.mail.ensures.steps

pub returns-in-RingWait-clause-steps : goal.returns-in-RingWait-clause-steps
returns-in-RingWait-clause-steps g c = steps_none _ _ _ _ _ _ _ _ _ _ c.requires.none_yet c.wait_on_ring.ensures.steps

pub returns-in-WordWait-clause-steps : goal.returns-in-WordWait-clause-steps
returns-in-WordWait-clause-steps g c = steps_none _ _ _ _ _ _ _ _ _ _ c.requires.none_yet c.wait_on_word.ensures.steps

pub returns-in-Closing-clause-steps : goal.returns-in-Closing-clause-steps
returns-in-Closing-clause-steps g c = steps_none _ _ _ _ _ _ _ _ _ _ c.requires.none_yet c.close_down.ensures.steps

pub test_for_work-requires : goal.test_for_work-requires
test_for_work-requires g c = record { told = (_, c.requires.sound.told) }

pub read_clock-requires : goal.read_clock-requires
read_clock-requires g c = record { told = told_due Place.ReadClock c.args.worker.now c.args.shared.now (sound_at (Place.ReadClock) c.args.worker.now c.args.shared.now c.in-ReadClock.is c.requires.sound) refl; workers = c.requires.sound.config.workers }

pub withdraw-requires : goal.withdraw-requires
withdraw-requires g c = record { few = few_here (Place.Withdraw c.in-Withdraw.then) c.args.worker.now c.args.shared.now (sound_at (Place.Withdraw c.in-Withdraw.then) c.args.worker.now c.args.shared.now c.in-Withdraw.is c.requires.sound) refl }

pub leave_search-requires : goal.leave_search-requires
leave_search-requires g c = record { holds = leaves_some c.in-LeaveSearch.back c.args.worker.now c.args.shared.now (sound_at (Place.LeaveSearch c.in-LeaveSearch.back) c.args.worker.now c.args.shared.now c.in-LeaveSearch.is c.requires.sound) c.requires.whole }

pub claim_worker-requires : goal.claim_worker-requires
claim_worker-requires g c = let sound = sound_at (Place.ClaimWorker c.in-ClaimWorker.set c.in-ClaimWorker.back) c.args.worker.now c.args.shared.now c.in-ClaimWorker.is c.requires.sound in record { some = sound.aims }

pub search-requires : goal.search-requires
search-requires g c = record { sound = sound_at (Place.Search c.in-Search.at) c.args.worker.now c.args.shared.now c.in-Search.is c.requires.sound; whole = c.requires.whole }

pub scan-requires : goal.scan-requires
scan-requires g c = record { sound = sound_at (Place.Scan c.in-Scan.at) c.args.worker.now c.args.shared.now c.in-Scan.is c.requires.sound; whole = c.requires.whole }

pub look-requires : goal.look-requires
look-requires g c = record { sound = sound_at (Place.Look c.in-Look.at) c.args.worker.now c.args.shared.now c.in-Look.is c.requires.sound; whole = c.requires.whole }

pub push_global-requires : goal.push_global-requires
push_global-requires g c = record { sound = sound_at (Place.Global c.in-Global.at c.in-Global.back) c.args.worker.now c.args.shared.now c.in-Global.is c.requires.sound; whole = c.requires.whole }

pub pop-requires : goal.pop-requires
pop-requires g c = record { sound = sound_at (Place.Pop c.in-Pop.at c.in-Pop.back) c.args.worker.now c.args.shared.now c.in-Pop.is c.requires.sound; whole = c.requires.whole }

pub push-requires : goal.push-requires
push-requires g c = record { sound = sound_at (Place.Push c.in-Push.at c.in-Push.back) c.args.worker.now c.args.shared.now c.in-Push.is c.requires.sound; whole = c.requires.whole }

pub kick-requires : goal.kick-requires
kick-requires g c = record { sound = sound_at (Place.Kick c.in-Kick.at c.in-Kick.back) c.args.worker.now c.args.shared.now c.in-Kick.is c.requires.sound; whole = c.requires.whole }

pub signal-requires : goal.signal-requires
signal-requires g c = record { sound = sound_at (Place.Signal c.in-Signal.at c.in-Signal.other c.in-Signal.back) c.args.worker.now c.args.shared.now c.in-Signal.is c.requires.sound }

pub returns-in-Search-clause-steps : goal.returns-in-Search-clause-steps
returns-in-Search-clause-steps g c = steps_none _ _ _ _ _ _ _ _ _ _ c.requires.none_yet c.search.ensures.steps

pub returns-in-Scan-clause-steps : goal.returns-in-Scan-clause-steps
returns-in-Scan-clause-steps g c = steps_none _ _ _ _ _ _ _ _ _ _ c.requires.none_yet c.scan.ensures.steps

pub returns-in-Look-clause-steps : goal.returns-in-Look-clause-steps
returns-in-Look-clause-steps g c = steps_none _ _ _ _ _ _ _ _ _ _ c.requires.none_yet c.look.ensures.steps

pub returns-in-Global-clause-steps : goal.returns-in-Global-clause-steps
returns-in-Global-clause-steps g c = steps_none _ _ _ _ _ _ _ _ _ _ c.requires.none_yet c.push_global.ensures.steps

pub returns-in-Kick-clause-steps : goal.returns-in-Kick-clause-steps
returns-in-Kick-clause-steps g c = steps_none _ _ _ _ _ _ _ _ _ _ c.requires.none_yet c.kick.ensures.steps

pub returns-in-Signal-clause-steps : goal.returns-in-Signal-clause-steps
returns-in-Signal-clause-steps g c = steps_none _ _ _ _ _ _ _ _ _ _ c.requires.none_yet c.signal.ensures.steps

pub returns-in-TestForWork-clause-steps : goal.returns-in-TestForWork-clause-steps
returns-in-TestForWork-clause-steps g c = steps_none _ _ _ _ _ _ _ _ _ _ c.requires.none_yet (tested _ _ _ _ _ _ _ (sound_at _ _ _ c.in-TestForWork.is c.requires.sound) c.test_for_work.ensures.event c.test_for_work.ensures.goes)

pub returns-in-ReadClock-clause-steps : goal.returns-in-ReadClock-clause-steps
returns-in-ReadClock-clause-steps g c =
    let found = c.read_clock.ensures.due in
    steps_none _ _ _ _ _ _ _ _ _ _ c.requires.none_yet (clock_read _ _ _ _ _ _ found.0 (sound_at _ _ _ c.in-ReadClock.is c.requires.sound) found.1 c.read_clock.ensures.event c.read_clock.ensures.goes found.2 found.3)

pub returns-in-Withdraw-clause-steps : goal.returns-in-Withdraw-clause-steps
returns-in-Withdraw-clause-steps g c = steps_none _ _ _ _ _ _ _ _ _ _ c.requires.none_yet (withdrew _ _ _ _ _ _ _ _ (sound_at _ _ _ c.in-Withdraw.is c.requires.sound) c.withdraw.ensures.event c.withdraw.ensures.goes c.withdraw.ensures.idle)

pub returns-in-LeaveSearch-clause-steps : goal.returns-in-LeaveSearch-clause-steps
returns-in-LeaveSearch-clause-steps g c =
    let sound = sound_at _ _ _ c.in-LeaveSearch.is c.requires.sound in
    steps_none _ _ _ _ _ _ _ _ _ _ c.requires.none_yet (search_left _ _ _ _ _ _ _ _ sound (leaves_some _ _ _ sound c.requires.whole) c.leave_search.ensures.event c.leave_search.ensures.goes c.leave_search.ensures.idle)

pub returns-in-ClaimWorker-clause-steps : goal.returns-in-ClaimWorker-clause-steps
returns-in-ClaimWorker-clause-steps g c =
    steps_none _ _ _ _ _ _ _ _ _ _ c.requires.none_yet (worker_claimed _ _ _ _ _ _ _ _ _ (sound_at _ _ _ c.in-ClaimWorker.is c.requires.sound) c.requires.whole c.claim_worker.ensures.makes c.claim_worker.ensures.goes c.claim_worker.ensures.idle)

pub returns-in-Pop-clause-steps : goal.returns-in-Pop-clause-steps
returns-in-Pop-clause-steps g c = steps_none _ _ _ _ _ _ _ _ _ _ c.requires.none_yet c.pop.ensures.steps

pub returns-in-Push-clause-steps : goal.returns-in-Push-clause-steps
returns-in-Push-clause-steps g c = steps_none _ _ _ _ _ _ _ _ _ _ c.requires.none_yet c.push.ensures.steps

pub returns-in-Poll-clause-room : goal.returns-in-Poll-clause-room
returns-in-Poll-clause-room g c = c.poll.ensures.room

pub returns-in-Poll-clause-nobody : goal.returns-in-Poll-clause-nobody
returns-in-Poll-clause-nobody g c = c.poll.ensures.nobody

pub send_cancel-requires-clause-may : goal.send_cancel-requires-clause-may
send_cancel-requires-clause-may g c = letter_may _ _ c.requires.whole c.in-SendCancel.back (sound_at (Place.SendCancel c.in-SendCancel.back) _ _ c.in-SendCancel.is c.requires.sound)

pub returns-in-SendCancel-clause-steps : goal.returns-in-SendCancel-clause-steps
returns-in-SendCancel-clause-steps g c = steps_none _ _ _ _ _ _ _ _ _ _ c.requires.none_yet (letter_sent _ _ _ _ _ _ _ _ (sound_at _ _ _ c.in-SendCancel.is c.requires.sound) c.requires.whole c.send_cancel.ensures.sends)

pub send_cancel-requires-clause-some : goal.send_cancel-requires-clause-some
send_cancel-requires-clause-some g c = grind (arith, common_steps)
