-- Polls, claims, withdrawals and messages lead neither to a wait on the ring of a worker that closes nor to its end.
use Rattle.std.proofs.Common.{◌≡◌, ℕ, Bool, false, Option, if◌then◌else◌, arith}
use Rattle.exec_machine.specs.{declared.{config.{Configuration.Configuration, ScriptWord.ScriptWord}, state.{MailMessage.MailMessage, Operation.Operation, RequestPhase.RequestPhase, Waiting.{Waiting, Waiting as waiting}}}, Choice.Choice.Plain, Requests.operation_asked, World.{Common, Task, request_of, Own as Books}, Words.next_word}
use Rattle.exec_moves.specs.{declared.{handing.{AfterClaim.AfterClaim, AfterSend.AfterSend}, place.InPoll.InPoll, idling.AfterWait.AfterWait as later}, Claim.{Claimed, after_claim}, Look.after_withdrawal, Move.{move_act, move_look_at, move_poll, move_wake}, Poll.{Sight, act, act_asked, act_by, after_pend, requeued_if, resume}, Send.{Mailbox, payer_of_send, posting, posting_of, send_message, send_root}, State.{Desk, Moved, Things}}
use Rattle.exec_settled.proofs.SettledParts.{is_shut, off_if, off_desk_if, off_after_return, off_after_spawn, off_to_queue, off_light}
use Rattle.exec_rest.proofs.Continuing.{light_next_pick, light_after_poll, light_leaves_for_turn, light_cancels_left, light_after_posting}

abbrev pub IsOff : {T : Type 0} → Moved T → Type 0
IsOff m = is_shut m.desk.place ≡ false

pub off_moved_if : {T : Type 0} (b : Bool) (m m' : Moved T) → IsOff m → IsOff m' → IsOff (if b then m else m')
off_moved_if = grind arith

module _ (c : Configuration) (i : ℕ) (me : Books) (s : Common) where
  pub off_claim : (b : AfterClaim) (it : Claimed) → is_shut (after_claim b it) ≡ false
  off_claim = grind arith

  pub off_made_up : (came last : Bool) (d : Desk) → is_shut (after_withdrawal c i me s came (later.MakeUp last) d) ≡ false
  off_made_up = grind (arith, off_light, light_leaves_for_turn, off_after_return)

  -- a message, and one to a root
  pub posts : (j : ℕ) (message : MailMessage) (b : AfterSend) (d : Desk) (m : Mailbox) → IsOff (send_message c s j message b d m)
  posts j message b d m = off_light _ (light_after_posting c j b (posting_of s j message Plain m).signals d)

  pub posts_root : (j : ℕ) (b : AfterSend) (d : Desk) (m : Mailbox) → IsOff (send_root c s j b d m)
  posts_root j b d m = off_light _ (light_after_posting c j b (posting s j (payer_of_send b) m).signals d)

-- EACH MOVE from such a place, of a group by its place
module _ (c : Configuration) (i : ℕ) (me : Books) (s : Common) (d : Desk) (x : Things) (here : is_shut d.place ≡ false) where
  -- A POLL
  requeued : (b : Bool) (t : ℕ) → is_shut (requeued_if b t d).place ≡ false
  requeued = grind (arith, off_light, light_next_pick)

  pended : (t : ℕ) (it : Task) (home : Option ℕ) → is_shut (after_pend i t s d it home).place ≡ false
  pended = grind (arith, off_desk_if, off_light, light_cancels_left, requeued)

  resumed_by : (t : ℕ) (it : Task) (r : ℕ) (p : RequestPhase) → it.waiting ≡ waiting.Request r → (request_of s r).phase ≡ p → IsOff (resume i t s d it)
  resumed_by = grind arith

  resumed : (t : ℕ) (it : Task) (w : Waiting) → it.waiting ≡ w → IsOff (resume i t s d it)
  resumed = grind (arith, resumed_by, off_moved_if, pended)

  looked : (t : ℕ) (b : AfterSend) (m : Moved Things) → IsOff m → (y : Sight) → IsOff (move_look_at c s d x t b m y)
  looked = grind arith

  acts_by : (t : ℕ) (it : Task) (w : ScriptWord) → IsOff (act_by i t me s d it w)
  acts_by = grind arith

  acts_asked : (t : ℕ) (it : Task) (w : ScriptWord) (asked : Option Operation) → IsOff (act_asked i t me s d it w asked)
  acts_asked = grind (arith, acts_by, off_desk_if)

  acts : (t : ℕ) (it : Task) → IsOff (act c i t me s d it)
  acts t it = acts_asked t it (next_word s it) (operation_asked c me.sampled (next_word s it))

  wakes : (t u : ℕ) (home : Option ℕ) → IsOff (move_wake c i s d x t u home)
  wakes = grind (arith, off_desk_if, off_to_queue, off_moved_if, posts_root)

  acts_as : (t : ℕ) (w : ScriptWord) → IsOff (move_act c i me s d x t w)
  acts_as = grind (arith, off_desk_if, off_after_spawn, wakes, looked, acts)

  pub polls : (t : ℕ) (p : InPoll) → IsOff (move_poll c i me s d x t p)
  polls = grind (arith, off_light, off_moved_if, light_after_poll, looked, resumed, acts_as, off_if, pended, light_next_pick)
