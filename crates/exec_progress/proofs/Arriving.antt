-- What each destination is that the parts lead to.
use Rattle.std.proofs.{Common.{◌≡◌, ℕ, suc, ◌==◌, ◌<◌, Bool, true, false, ◌&&◌, ◌||◌, if◌then◌else◌, List, [], ◌∷◌, refl, arith}, lemmas.Bool.true≢false}
use Rattle.exec_machine.specs.{declared.{config.Configuration.Configuration, state.{Letter.Letter, Next.Next}}, Ranges.ring_size, World.{Common, Own as Books}}
use Rattle.exec_moves.specs.{declared.{handing.{AfterCallbacks.AfterCallbacks, AfterCancels.AfterCancels, AfterClaim.AfterClaim, AfterKick.AfterKick, AfterLeave.AfterLeave, AfterPush.AfterPush, AfterSend.AfterSend, AfterSignal.AfterSignal}, place.{AfterService.AfterService, InCallbacks.InCallbacks, InPick.InPick, InPoll.InPoll, Place.Place}}, Callback.{after_callbacks, has_callbacks, has_requests, serve}, Load.has_submissions, Parts.{after_kick, after_leave, after_push, after_send, after_signal, cancels_left}, State.{Desk, Things}}
use Rattle.exec_progress.{specs.{Heights.call_back, Effort.{is_short_kick, is_short_leave, is_short_push, is_short_send, is_short_signal, stagings_of_callbacks, stagings_of_kick, stagings_of_leave, stagings_of_push, stagings_of_signal}, Going.{closes_callbacks, closes_cancels, closes_kick, closes_push, closes_send, closes_signal, seen, stands}, Owed.{beginning, stage_of_callbacks, stage_of_kick, stage_of_leave, stage_of_pick, stage_of_push, stage_of_send, stage_of_signal}, Ranks.{below_callbacks, below_kick, below_leave, below_push, below_send, below_signal, count_down, next_turn}}, proofs.{Dropping.drops, Hopping.{Gets, Kept, Leaves, desk_at, hops, later}, Tools.{before, left}}}

both : (m n k : ℕ) → m < n → n < k → m < k
both m n k h l = omega (arith, h, l)

module _ (c : Configuration) (i : ℕ) (me : Books) (s : Common) (d : Desk) (x : Things) where
  -- it costs some of what is left to go there
  abbrev pub Reaches : Place → Gets c i me s d x → Place → Type 0
  Reaches p u q = left c i (later c i me s d x q u) < left c i (before me s d x p)

  -- a place of one stage, which is short or not
  to_calls : (p : Place) (u : Gets c i me s d x) (n : AfterCallbacks) → Leaves c i me s d x p false (stage_of_callbacks n) (stagings_of_callbacks n) (call_back (below_callbacks c.workers n))
      → Kept c i me s d x p u → Reaches p u (Place.Callbacks InCallbacks.CallBack n)
  to_calls p u n from it = hops c i me s d x p (Place.Callbacks InCallbacks.CallBack n) u false (stage_of_callbacks n) (stagings_of_callbacks n) (call_back (below_callbacks c.workers n)) from
      (record { short_here = refl; stage_here = refl; stagings_here = omega arith; below = omega arith; no_gate = refl; no_scan = refl; nothing_found = refl; not_itself = refl }) it

  to_callbacks : (p : Place) (u : Gets c i me s d x) (n : AfterCallbacks) → closes_callbacks n ≡ false
      → Leaves c i me s d x p false (stage_of_callbacks n) (stagings_of_callbacks n) (call_back (below_callbacks c.workers n)) → Kept c i me s d x p u
      → (v : Bool) → has_callbacks me d ≡ v → Reaches p u (if v then Place.Callbacks InCallbacks.CallBack n else after_callbacks (ring_size c) i s n (stands p d))
  to_callbacks p u n still from it true is = to_calls p u n from it
  to_callbacks p u n still from it false is =
      let calling = Place.Callbacks InCallbacks.CallBack n in
      let down = drops c i (record me { serving = false; next = Next.Free }) s (desk_at c i me s d x calling u) u.things n still is (stands p d) in
      both (left c i (later c i me s d x (after_callbacks (ring_size c) i s n (stands p d)) u)) (left c i (later c i me s d x calling u)) (left c i (before me s d x p)) down (to_calls p u n from it)

  to_pick : (p : Place) (u : Gets c i me s d x) → Leaves c i me s d x p false (stage_of_pick d.picks) 1 (count_down c.workers) → Kept c i me s d x p u
      → (v : Bool) → (d.picks == 0) ≡ v → Reaches p u (if v then Place.TakeRootFlag else Place.Pick InPick.CountDown)
  to_pick p u from it true is = hops c i me s d x p (Place.TakeRootFlag) u false (stage_of_pick d.picks) 1 (count_down c.workers) from (grind (arith, is)) it
  to_pick p u from it false is = hops c i me s d x p (Place.Pick InPick.CountDown) u false (stage_of_pick d.picks) 1 (count_down c.workers) from (grind (arith, is)) it

  pub push_to : (p : Place) (u : Gets c i me s d x) (b : AfterPush) → closes_push b ≡ false
      → Leaves c i me s d x p (is_short_push b) (stage_of_push d.picks b) (stagings_of_push b) (below_push c.workers b) → Kept c i me s d x p u
      → Reaches p u (after_push c i (seen p me) s b (stands p d))
  push_to p u (AfterPush.Act t) still from it = grind arith
  push_to p u AfterPush.Pick still from it = to_pick p u from it (d.picks == 0) refl
  push_to p u (AfterPush.CallBack n) still from it = to_callbacks p u n still from it (has_callbacks me d) refl

  pub leave_to : (p : Place) (u : Gets c i me s d x) (b : AfterLeave) → Leaves c i me s d x p (is_short_leave b) (stage_of_leave b) (stagings_of_leave b) (below_leave c.workers b) → Kept c i me s d x p u
      → Reaches p u (after_leave c i (seen p me) s b (stands p d))
  leave_to p u (AfterLeave.Poll t) from it = grind arith
  leave_to p u (AfterLeave.CallBack n) from it = to_calls p u n from it
  leave_to p u AfterLeave.Begin from it = by ((d.put_off && has_requests i s) || (d.may_put_off && has_submissions c me)) refl
    where
      by : (v : Bool) → ((d.put_off && has_requests i s) || (d.may_put_off && has_submissions c me)) ≡ v → Reaches p u (if v then serve AfterService.Begin else Place.BeginTurn)
      by true is =
          hops c i me s d x p (serve AfterService.Begin) u false beginning 2 (next_turn c.workers) from
          (record { short_here = refl; stage_here = refl; stagings_here = omega arith; below = omega arith; no_gate = refl; no_scan = refl; nothing_found = refl; not_itself = refl }) it
      by false is =
          hops c i me s d x p (Place.BeginTurn) u false beginning 2 (next_turn c.workers) from
          (record { short_here = refl; stage_here = refl; stagings_here = omega arith; below = omega arith; no_gate = refl; no_scan = refl; nothing_found = refl; not_itself = refl }) it

  pub kick_to : (p : Place) (u : Gets c i me s d x) (b : AfterKick) → closes_kick b ≡ false
      → Leaves c i me s d x p (is_short_kick b) (stage_of_kick d.picks b) (stagings_of_kick b) (below_kick c.workers b) → Kept c i me s d x p u
      → Reaches p u (after_kick c i (seen p me) s b (stands p d))
  kick_to p u (AfterKick.Leave b) still from it = leave_to p u b from it
  kick_to p u (AfterKick.Push b) still from it = push_to p u b still from it

  to_letters : (p : Place) (u : Gets c i me s d x) (b : AfterCancels) → closes_cancels b ≡ false → Leaves c i me s d x p false (stage_of_pick d.picks) 1 (suc (count_down c.workers)) → Kept c i me s d x p u
      → (letters : List Letter) → Reaches p u (cancels_left b (stands p d) letters)
  to_letters p u b still from it (letter ∷ letters) =
      hops c i me s d x p (Place.SendCancel b) u false (stage_of_pick d.picks) 1 (suc (count_down c.workers)) from
      (record { short_here = refl; stage_here = refl; stagings_here = omega arith; below = omega arith; no_gate = refl; no_scan = refl; nothing_found = refl; not_itself = refl }) it
  to_letters p u (AfterCancels.Remove t) still from it [] =
      hops c i me s d x p (Place.Poll t InPoll.RemoveTask) u false (stage_of_pick d.picks) 1 (suc (count_down c.workers)) from
      (record { short_here = refl; stage_here = refl; stagings_here = omega arith; below = omega arith; no_gate = refl; no_scan = refl; nothing_found = refl; not_itself = refl }) it
  to_letters p u AfterCancels.Pick still from it [] = to_pick p u (grind (arith, from)) it (d.picks == 0) refl
  to_letters p u (AfterCancels.Visit drain) still from it [] = absurd (true≢false still)

  send_to : (p : Place) (u : Gets c i me s d x) (b : AfterSend) → closes_send b ≡ false → Leaves c i me s d x p (is_short_send b) (stage_of_send d.picks b) 1 (below_send c.workers b)
      → Kept c i me s d x p u
      → Reaches p u (after_send c b (stands p d))
  send_to = grind (arith, hops, to_letters, true≢false)

  pub signal_to : (p : Place) (u : Gets c i me s d x) (b : AfterSignal) → closes_signal b ≡ false
      → Leaves c i me s d x p (is_short_signal b) (stage_of_signal d.picks b) (stagings_of_signal b) (below_signal c.workers b) → Kept c i me s d x p u
      → Reaches p u (after_signal c i (seen p me) s b (stands p d))
  signal_to p u (AfterSignal.Claim (AfterClaim.Kick b)) still from it = kick_to p u b still from it
  signal_to p u (AfterSignal.Claim (AfterClaim.Global b)) still from it = push_to p u b still from it
  signal_to p u (AfterSignal.Send b) still from it = send_to p u b still from it
