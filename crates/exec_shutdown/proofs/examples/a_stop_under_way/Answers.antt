use Rattle.std.proofs.{Common.{◌≡◌, ◌≢◌, ℕ, zero, suc, ◌<◌, Bool, true, false, not, ◌&&◌, ◌||◌, [], None, refl, sym, ap, ◌∙◌, arith}, lemmas.Bool.{true≢false, false≢true}}
use Rattle.exec_machine.specs.{declared.state.{Code.Code, Next.Next as next}, Callers.is_held, Closing.own_after_stop, Mail.has_root_message, Same.is_none, Tasks.{new_own, new_seat}, Tests.{has_ended, is_awake, is_done, is_empty, is_open, is_settled}, World.{World, own_of, seat_of, task_of}}
use Rattle.exec_shutdown.specs.{Examples.{stopped_with, two, waiting_root}, Stopping.{StopsAll, WaitsForStop, is_waiting, owes_root}}
use Rattle.exec_shutdown.proofs.examples.a_stop_under_way.Goals as goal

-- what is so of the two there are, and of all numbers past them
each : (P : ℕ → Type 0) → P 0 → P 1 → ((i : ℕ) → P (suc (suc i))) → (i : ℕ) → P i
each P first second past zero = first
each P first second past (suc zero) = second
each P first second past (suc (suc i)) = past i

abbrev is_waits : Code → Bool
is_waits Code.Waits = true
is_waits _ = false

abbrev w : World
w = stopped_with (own_after_stop two (new_own 0 0)) (new_own 0 1) (new_seat true) waiting_root

owed : StopsAll two w
owed =
    record {
      pool = each (λ i. (seat_of w.common i).pool ≡ true → i < 2) (λ pool. omega arith) (λ pool. omega arith) (λ i pool. absurd (false≢true pool));
      zero = λ st. refl;
      left = each (λ i. (seat_of w.common i).pool ≡ true → (seat_of w.common i).left ≡ true → (w.common.stopped ≡ true) × (is_open (seat_of w.common i).phase ≡ false))
          (λ pool left. absurd (false≢true left)) (λ pool left. absurd (false≢true left)) (λ i pool. absurd (false≢true pool));
      held = λ i waits. absurd (false≢true (sym (each (λ i. is_held w.common (seat_of w.common i) ≡ false) refl refl (λ i. refl) i) ∙ waits));
      shuts = each (λ i. (seat_of w.common i).pool ≡ true → (own_of w i).next ≡ next.ClosesMailbox → (seat_of w.common i).left ≡ true)
          (λ pool shuts. absurd (true≢false (ap is_settled shuts))) (λ pool shuts. absurd (true≢false (ap is_settled shuts))) (λ i pool. absurd (false≢true pool));
      shut = each (λ i. (seat_of w.common i).pool ≡ true → (seat_of w.common i).mailbox_closed ≡ true → (seat_of w.common i).left ≡ true)
          (λ pool shut. absurd (false≢true shut)) (λ pool shut. absurd (false≢true shut)) (λ i pool. absurd (false≢true pool));
      over = each (λ i. (seat_of w.common i).pool ≡ true → has_ended (seat_of w.common i).phase ≡ true → (seat_of w.common i).left ≡ true)
          (λ pool over. absurd (false≢true over)) (λ pool over. absurd (false≢true over)) (λ i pool. absurd (false≢true pool));
      sent = each (λ i. (not (is_awake (seat_of w.common i).rest) || has_ended (seat_of w.common i).phase || ((seat_of w.common i).pool && (seat_of w.common i).left)) ≡ true → (own_of w i).owed ≡ [])
          (λ through. absurd (false≢true through)) (λ through. refl) (λ i through. refl);
      idle = each (λ i. is_open (seat_of w.common i).phase ≡ false → (own_of w i).polls ≡ None) (λ shut. refl) (λ shut. refl) (λ i shut. refl);
      roots = each (λ i. (seat_of w.common i).pool ≡ true → i ≢ 0 → WaitsForStop i (task_of w.common (own_of w i).root))
          (λ pool some. absurd (some refl)) (λ pool some. record { home = refl; code = refl; held = refl; waits = refl }) (λ i pool. absurd (false≢true pool));
      closed = each (λ i. (seat_of w.common i).pool ≡ true → i ≢ 0 → is_open (seat_of w.common i).phase ≡ false → is_done (task_of w.common (own_of w i).root).phase ≡ true)
          (λ pool some. absurd (some refl)) (λ pool some shut. absurd (true≢false shut)) (λ i pool. absurd (false≢true pool));
      told = each (λ i. (seat_of w.common i).pool ≡ true → i ≢ 0 → w.common.stopped ≡ true → is_waiting (task_of w.common (own_of w i).root) ≡ true → (has_root_message (seat_of w.common i) || owes_root i (own_of w 0)) ≡ true)
          (λ pool some. absurd (some refl)) (λ pool some st waits. refl) (λ i pool. absurd (false≢true pool));
    }

pub returns : goal.returns
returns c =
    record {
      owed = owed;
      untold = λ it. false≢true (it.told 1 refl (λ is. omega (arith, is)) refl refl);
      pool = λ it. absurd (omega (arith, it.pool 1 refl));
      passed = λ it. true≢false (it.left 1 refl refl).1;
      waits = λ it. true≢false (ap is_settled (it.held 1 refl));
      shuts = λ it. false≢true (it.shuts 1 refl refl);
      shut = λ it. false≢true (it.shut 1 refl refl);
      over = λ it. false≢true (it.over 1 refl refl);
      sent = λ it. false≢true (ap is_empty (it.sent 1 refl));
      idle = λ it. false≢true (ap is_none (it.idle 1 refl));
      closed = λ it. false≢true (it.closed 1 refl (λ is. omega (arith, is)) refl);
      roots = λ it. false≢true (ap is_waits (it.roots 1 refl (λ is. omega (arith, is))).code);
    }
