-- The other moves that lead neither to a wait on the ring of a worker that closes nor to its end.
use Rattle.std.proofs.Common.{◌≡◌, ℕ, ◌-◌, Bool, false, List, Option, arith}
use Rattle.exec_words.specs.Queue.{Queue, head_of, tail_of}
use Rattle.exec_machine.specs.{declared.config.Configuration.Configuration, World.{Common, Own as Books}}
use Rattle.exec_moves.specs.{declared.{handing.{AfterPop.AfterPop, InPop.InPop}, place.{InClosing.InClosing, InLoads.InLoads, InMail.InMail, InPick.InPick, InService.InService, Reaping.Reaping, Round.Round, Service.Service, Place.Place as at}}, Move.{move_closing, move_loads, move_mail, move_pick, move_pop, move_service, move_submit}, Pop.{load_pop_head, pops}, Serve.{end_service, first_to_fire, reap}, State.{Desk, Things, WakePoll}, Submit.Due}
use Rattle.exec_settled.proofs.{SettledParts.{is_shut, off_desk_if, off_after_service, off_light}, SettledPolls.{IsOff, off_moved_if}}
use Rattle.exec_rest.proofs.Continuing.{light_after_pop, light_after_empty_pop, light_judge_pop}

-- EACH MOVE from another place that isn't the test, of a group by its place
module _ (c : Configuration) (i : ℕ) (me : Books) (s : Common) (d : Desk) (x : Things) (here : is_shut d.place ≡ false) where
  -- PICKS, POPS AND PUSHES

  pub picks : (p : InPick) → IsOff (move_pick c i d x p)
  picks = grind arith

  popped : (b : AfterPop) (q : Queue ℕ) (vs : List ℕ) → q.values ≡ vs → IsOff (pops c i b d q)
  popped = grind (arith, off_light, light_after_empty_pop, light_after_pop)

  pop_loaded : (b : AfterPop) (q : Queue ℕ) → IsOff (load_pop_head c i b d q)
  pop_loaded b q = off_light _ (light_judge_pop c i b (head_of q) (tail_of q - q.real))

  pub pops_one : (p : InPop) (b : AfterPop) → IsOff (move_pop c i d x p b)
  pops_one = grind (arith, popped, pop_loaded, off_moved_if)

  -- A SERVICE
  reaps : (v : Service) (r : Reaping) (busy : Bool) (landed : List ℕ) (wakes : WakePoll) → IsOff (reap i v r s d (record { busy = busy; landed = landed; wakes = wakes }))
  reaps = grind arith

  submits_one : (from : ℕ) (v : Service) (due : Due) → IsOff (move_submit c i me s d x from v due)
  submits_one = grind arith

  ends_service : (v : Service) (first : Option ℕ) → first_to_fire i me s d ≡ first → IsOff (end_service i v me s d)
  ends_service = grind (arith, off_after_service, off_desk_if)

  pub serves : (p : InService) (v : Service) → IsOff (move_service c i me s d x p v)
  serves = grind (arith, reaps, submits_one, ends_service)

  -- THE LOADS AND THE MAILBOX
  pub loads : (p : InLoads) (r : Round) → IsOff (move_loads i me d x p r)
  loads = grind arith

  pub mails : (p : InMail) → IsOff (move_mail i me s d x p)
  mails = grind arith

  pub closes : (p : InClosing) → is_shut (at.Closing p) ≡ false → IsOff (move_closing c i s d x p)
  closes = grind arith
