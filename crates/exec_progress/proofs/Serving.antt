-- A service, but for its permits and its staging.
use Rattle.std.{proofs.{Common.{◌≡◌, ℕ, ◌+◌, ◌≤◌, ◌<◌, Bool, true, false, not, ◌&&◌, List, [], ◌∷◌, if◌then◌else◌, Option, Some, None, refl, ap, arith}, lemmas.{Bool.{false≢true, true≢false, and_from, and_parts, leb-true, le-leb}, List.get_or-set_same}}, specs.{Prelude.{nat_le, is_some}, List.list_any}}
use Rattle.exec_words.specs.declared.word.PureWord.{PureWord}
use Rattle.exec_machine.specs.{declared.{config.Configuration.Configuration, event.Event.TheVariants.Fire, state.Request.Request}, Deadlines.is_due, Ranges.ring_size, Tests.{is_asleep, is_empty, is_open}, World.{Common, Own as Books, seat_of, sleeper_of}}
use Rattle.exec_moves.specs.{declared.place.{AfterService.AfterService, InMail.InMail, InService.InService, Place.Place, Reaping.Reaping, Service.Service}, Callback.is_full, Counts.one_if, Load.{has_mail, has_submissions}, Serve.{advance_wheel, after_service, enter_last, first_to_fire, reap, sample, unlatched}, Told.told_of_fire, State.{Desk, Moved, Own, Things, WakePoll, does, serves, dropped, is_dropped, no_wake_poll, no_word, wake_poll_of, word_of}, Thing.{aside, set_wake_poll, set_word, with_ring, with_word}}
use Rattle.exec_progress.{specs.{Heights.advance_wheel as advance_wheel_height, Effort.is_short, Going.{Falls, FallsAt, is_of_closing, seen, stands}, Owed.{is_any_due, is_any_to_fire}, Ranks.submits}, proofs.{Entering.{busy_pays, enter_gates, enter_keeps, at_most_one}, Tools.{KeepsTurns, OwesNoMore, afterwards, before, either, gates, goes_down, keeps_turns, pays_want, rest}}}
use Rattle.exec_credit.proofs.First.{sleepers}

-- where all is dropped the wake poll has no end any more, and may have no place: that is paid by its end
drops_end : (e : Option ℕ) → one_if (is_some (if is_dropped [] e then None else e)) ≡ 0
drops_end None = refl
drops_end (Some behind) = rw (le-leb 0 behind (omega arith)) refl

drops : (full polled work : Bool) (e : Option ℕ) → one_if (full && (not (polled && not (is_dropped [] e)) && not work)) + one_if (is_some (if is_dropped [] e then None else e)) ≤ one_if (full && (not polled && not work)) + one_if (is_some e)
drops = grind arith

-- WHAT IS DUE by a moment is so by a later one

pub any_more : {X : Type 0} (f g : X → Bool) → ((z : X) → f z ≡ true → g z ≡ true) → (zs : List X) → one_if (list_any f zs) ≤ one_if (list_any g zs)
any_more f g more [] = omega arith
any_more f g more (z ∷ zs) = grind (arith, at_most_one, any_more f g more zs)

module _ (i m k : ℕ) (le : m ≤ k) where
  later : (until : ℕ) → nat_le until m ≡ true → nat_le until k ≡ true
  later until h = le-leb until k (omega (arith, le, leb-true until m h))

  due_later : (r : Request) (t : Option ℕ) → is_due i m (record r { timer = t }) ≡ true → is_due i k (record r { timer = t }) ≡ true
  due_later = grind arith

  pub due_by : (s : Common) → one_if (is_any_due i m s) ≤ one_if (is_any_due i k s)
  due_by s = any_more (is_due i m) (is_due i k) (λ r. due_later r r.timer) s.requests

  pub fires_by : (s : Common) → one_if (is_any_to_fire i m s) ≤ one_if (is_any_to_fire i k s)
  fires_by s = any_more (λ z. is_asleep i z && nat_le z.until m) (λ z. is_asleep i z && nat_le z.until k)
      (λ z h. let parts = and_parts (is_asleep i z) (nat_le z.until m) h in and_from (is_asleep i z) (nat_le z.until k) parts.0 (later z.until parts.1)) s.sleepers

module _ (c : Configuration) (i : ℕ) (me : Books) (s : Common) (d : Desk) (x : Things) where
  -- a step of a service of a turn, and of one that makes up what was put off
  abbrev Step : InService → Service → AfterService → Type 0
  Step p v b = FallsAt c i me s d x (Place.Service p (record v { back = b }))

  -- a step that goes down in the turn, with no more turns owed
  goes : (p : Place) (m : Moved Things) → is_short p ≡ false → is_short m.desk.place ≡ false → (let a = before me s d x p in let b = afterwards c i me s p m in rest c i b < rest c i a)
      → gates c i (afterwards c i me s p m) ≤ gates c i (before me s d x p) → OwesNoMore c i (before me s d x p) (afterwards c i me s p m) → Falls c i (seen p me) s (stands p d) x m
  goes p m long long_too less gates_kept owes quiet =
      goes_down c i (before me s d x p) (afterwards c i me s p m) (record { long_before = long; long_after = long_too; less = less; gates_kept = gates_kept; owes = owes })

  keeps : (p : Place) (m : Moved Things) → KeepsTurns c i (before me s d x p) (afterwards c i me s p m) → OwesNoMore c i (before me s d x p) (afterwards c i me s p m)
  keeps p m it = keeps_turns c i (before me s d x p) (afterwards c i me s p m) it

  -- SAMPLING: what is due by the clock is so by the moment that was sampled; and the latch is gone

  samples_by : (v : Service) (b : AfterService) → Step InService.Sample v b
  samples_by v b it = by b it.open_still
    where
      word : word_of (set_word i x (unlatched (word_of x i))) i ≡ unlatched (word_of x i)
      word = get_or-set_same x.words i (unlatched (word_of x i)) no_word it.word_there

      latch : one_if (word_of (set_word i x (unlatched (word_of x i))) i).latch ≡ 0
      latch = ap (λ (w : PureWord). one_if w.latch) word

      mail : one_if (has_mail d (word_of (set_word i x (unlatched (word_of x i))) i)) ≡ one_if (has_mail d (word_of x i))
      mail = ap (λ (w : PureWord). one_if (has_mail d w)) word

      due : one_if (is_any_due i me.sampled s) ≤ one_if (is_any_due i s.clock s)
      due = due_by i me.sampled s.clock it.sampled s

      fires : one_if (is_any_to_fire i me.sampled s) ≤ one_if (is_any_to_fire i s.clock s)
      fires = fires_by i me.sampled s.clock it.sampled s

      at : AfterService → Place
      at b = Place.Service InService.Sample (record v { back = b })

      moved : AfterService → Moved Things
      moved b = with_word i x (sample (record v { back = b }) (stands (at b) d) (word_of x i))

      by : (b : AfterService) → is_of_closing (at b) ≡ false → Falls c i (seen (at b) me) s (stands (at b) d) x (moved b)
      by AfterService.Finish h = absurd (true≢false h)
      by AfterService.Mail h =
          goes (at AfterService.Mail) (moved AfterService.Mail) refl refl (omega arith) (omega arith) (keeps (at AfterService.Mail) (moved AfterService.Mail) (grind (arith, latch, mail, due, fires)))
      by AfterService.Begin h =
          goes (at AfterService.Begin) (moved AfterService.Begin) refl refl (omega arith) (omega arith) (keeps (at AfterService.Begin) (moved AfterService.Begin) (grind (arith, latch, mail, due, fires)))

  pub samples : (v : Service) → FallsAt c i me s d x (Place.Service InService.Sample v)
  samples v = samples_by v v.back

  -- ADVANCING

  advances_by : (v : Service) (b : AfterService) → Step InService.AdvanceWheel v b
  advances_by v b it = by b it.open_still
    where
      at : AfterService → Place
      at b = Place.Service InService.AdvanceWheel (record v { back = b })

      moved : AfterService → Moved Things
      moved b = aside x (advance_wheel (record v { back = b }) (stands (at b) d))

      lower : (full : Bool) (below : ℕ) → submits below full < advance_wheel_height below
      lower true below = omega arith
      lower false below = omega arith

      by : (b : AfterService) → is_of_closing (at b) ≡ false → Falls c i (seen (at b) me) s (stands (at b) d) x (moved b)
      by AfterService.Finish h = absurd (true≢false h)
      by AfterService.Mail h = grind arith
      by AfterService.Begin h = grind arith

  pub advances : (v : Service) → FallsAt c i me s d x (Place.Service InService.AdvanceWheel v)
  advances v = advances_by v v.back

  -- REAPING where nothing has landed: strays are dropped, with the end of the wake poll

  reaps_by : (r : Reaping) (v : Service) (b : AfterService) → Step (InService.Reap r) v b
  reaps_by r v b it = by (seat_of s i).landed refl r b it.open_still
    where
      at : Reaping → AfterService → Place
      at r b = Place.Service (InService.Reap r) (record v { back = b })

      moved : List ℕ → Reaping → AfterService → Moved Things
      moved landed r b = with_ring i x (reap i (record v { back = b }) r s (stands (at r b) d) (record { busy = (seat_of s i).busy; landed = landed; wakes = wake_poll_of x i }))

      poll : wake_poll_of (set_wake_poll i x (dropped [] (wake_poll_of x i))) i ≡ dropped [] (wake_poll_of x i)
      poll = get_or-set_same x.wake_polls i (dropped [] (wake_poll_of x i)) no_wake_poll it.poll_there

      told : one_if (wake_poll_of (set_wake_poll i x (dropped [] (wake_poll_of x i))) i).told ≡ 0
      told = ap (λ (w : WakePoll). one_if w.told) poll

      kept : one_if (wake_poll_of (set_wake_poll i x (dropped [] (wake_poll_of x i))) i).kept ≡ one_if (wake_poll_of x i).kept
      kept = ap (λ (w : WakePoll). one_if w.kept) poll

      ended : one_if (is_some (wake_poll_of (set_wake_poll i x (dropped [] (wake_poll_of x i))) i).ended) ≡ one_if (is_some (dropped [] (wake_poll_of x i)).ended)
      ended = ap (λ (w : WakePoll). one_if (is_some w.ended)) poll

      unpolled : one_if (is_full (ring_size c) d && (not (d.polled && not (is_dropped [] (wake_poll_of x i).ended)) && not (has_submissions c me))) + one_if (is_some (dropped [] (wake_poll_of x i)).ended)
          ≤ one_if (is_full (ring_size c) d && (not d.polled && not (has_submissions c me))) + one_if (is_some (wake_poll_of x i).ended)
      unpolled = drops (is_full (ring_size c) d) d.polled (has_submissions c me) (wake_poll_of x i).ended

      none_ended : one_if (is_some (dropped [] (wake_poll_of x i)).ended) ≡ 0
      none_ended = drops_end (wake_poll_of x i).ended

      by : (landed : List ℕ) → (seat_of s i).landed ≡ landed → (r : Reaping) (b : AfterService) → is_of_closing (at r b) ≡ false → Falls c i (seen (at r b) me) s (stands (at r b) d) x (moved landed r b)
      by (q ∷ more) some r b h quiet = absurd (false≢true quiet)
      by [] none r AfterService.Finish h quiet = absurd (true≢false h)
      by [] none Reaping.First AfterService.Mail h quiet =
          goes (at Reaping.First AfterService.Mail) (moved [] Reaping.First AfterService.Mail) refl refl (omega arith) (omega arith) (keeps (at Reaping.First AfterService.Mail) (moved [] Reaping.First AfterService.Mail) (record {
            kept = λ k. omega (arith, k);
            wanted_kept = λ k l. omega (arith, l);
            others_kept = λ k. omega (arith, told, kept, ended, none_ended);
            spun_kept = λ k. omega arith;
          })) quiet
      by [] none Reaping.First AfterService.Begin h quiet =
          goes (at Reaping.First AfterService.Begin) (moved [] Reaping.First AfterService.Begin) refl refl (omega arith) (omega arith) (keeps (at Reaping.First AfterService.Begin) (moved [] Reaping.First AfterService.Begin) (record {
            kept = λ k. omega (arith, k);
            wanted_kept = λ k l. omega (arith, l);
            others_kept = λ k. omega (arith, told, kept, ended, none_ended);
            spun_kept = λ k. omega arith;
          })) quiet
      by [] none Reaping.Last AfterService.Mail h quiet =
          goes (at Reaping.Last AfterService.Mail) (moved [] Reaping.Last AfterService.Mail) refl refl (omega arith) (omega arith) (keeps (at Reaping.Last AfterService.Mail) (moved [] Reaping.Last AfterService.Mail) (record {
            kept = λ k. omega (arith, k, ap (λ ys. one_if (not (is_empty ys))) none);
            wanted_kept = λ k l. omega (arith, l);
            others_kept = λ k. omega (arith, told, kept, ended, unpolled);
            spun_kept = λ k. omega arith;
          })) quiet
      by [] none Reaping.Last AfterService.Begin h quiet =
          goes (at Reaping.Last AfterService.Begin) (moved [] Reaping.Last AfterService.Begin) refl refl (omega arith) (omega arith) (keeps (at Reaping.Last AfterService.Begin) (moved [] Reaping.Last AfterService.Begin) (record {
            kept = λ k. omega (arith, k);
            wanted_kept = λ k l. omega (arith, l);
            others_kept = λ k. omega (arith, told, kept, ended, none_ended);
            spun_kept = λ k. omega arith;
          })) quiet

  pub reaps : (r : Reaping) (v : Service) → FallsAt c i me s d x (Place.Service (InService.Reap r) v)
  reaps r v = reaps_by r v v.back

  -- THE LAST ENTER

  enters_by : (v : Service) (b : AfterService) → Step InService.EnterLast v b
  enters_by v b it = by (seat_of s i).busy refl b it.open_still
    where
      at : AfterService → Place
      at b = Place.Service InService.EnterLast (record v { back = b })

      to : AfterService → Place
      to b = Place.Service (InService.Reap Reaping.Last) (record v { back = b })

      moved : Bool → AfterService → Moved Things
      moved busy b = with_ring i x (enter_last (record v { back = b }) (seen (at b) me) (stands (at b) d) (record { busy = busy; landed = (seat_of s i).landed; wakes = wake_poll_of x i }))

      by : (busy : Bool) → (seat_of s i).busy ≡ busy → (b : AfterService) → is_of_closing (at b) ≡ false → Falls c i (seen (at b) me) s (stands (at b) d) x (moved busy b)
      by busy is AfterService.Finish h = absurd (true≢false h)
      by true is AfterService.Mail h =
          goes (at AfterService.Mail) (moved true AfterService.Mail) refl refl (omega arith) (omega arith) (pays_want c i (before me s d x (at AfterService.Mail)) (afterwards c i me s (at AfterService.Mail) (moved true AfterService.Mail))
          (busy_pays c i (seen (at AfterService.Mail) me) s (stands (at AfterService.Mail) d) x (to AfterService.Mail) it.seat_there is (omega arith) refl refl (omega arith) (omega arith)))
      by true is AfterService.Begin h =
          goes (at AfterService.Begin) (moved true AfterService.Begin) refl refl (omega arith) (omega arith) (pays_want c i (before me s d x (at AfterService.Begin)) (afterwards c i me s (at AfterService.Begin) (moved true AfterService.Begin))
          (busy_pays c i (seen (at AfterService.Begin) me) s (stands (at AfterService.Begin) d) x (to AfterService.Begin) it.seat_there is (omega arith) refl refl (omega arith) (omega arith)))
      by false is AfterService.Mail h =
          goes (at AfterService.Mail) (moved false AfterService.Mail) refl refl (omega arith) (omega (arith, enter_gates c i (seen (at AfterService.Mail) me) s (stands (at AfterService.Mail) d) x (to AfterService.Mail) 0)) (keeps (at AfterService.Mail) (moved false AfterService.Mail)
          (enter_keeps c i (seen (at AfterService.Mail) me) s (stands (at AfterService.Mail) d) x (to AfterService.Mail) it.some_ring it.poll_there (omega arith) refl refl (omega arith) (omega arith)))
      by false is AfterService.Begin h =
          goes (at AfterService.Begin) (moved false AfterService.Begin) refl refl (omega (arith, enter_gates c i (seen (at AfterService.Begin) me) s (stands (at AfterService.Begin) d) x (to AfterService.Begin) 0))
          (omega (arith, enter_gates c i (seen (at AfterService.Begin) me) s (stands (at AfterService.Begin) d) x (to AfterService.Begin) 0)) (keeps (at AfterService.Begin) (moved false AfterService.Begin)
          (enter_keeps c i (seen (at AfterService.Begin) me) s (stands (at AfterService.Begin) d) x (to AfterService.Begin) it.some_ring it.poll_there (omega arith) refl refl (omega arith) (omega arith)))

  pub enters_last : (v : Service) → FallsAt c i me s d x (Place.Service InService.EnterLast v)
  enters_last v = enters_by v v.back

  -- THE END: no sleeper is to fire, so none is due by the moment that was sampled. Only of a worker whose phase is open.

  ends_by : is_open (seat_of s i).phase ≡ true → (v : Service) (b : AfterService) → Step InService.EndService v b
  ends_by opened v b it = by (first_to_fire i me s d) refl b it.open_still it
    where
      at : AfterService → Place
      at b = Place.Service InService.EndService (record v { back = b })

      fired : AfterService → Option ℕ → Moved Own
      fired b None = serves (after_service b (stands (at b) d)) (stands (at b) d) tt
      fired b (Some z) = does (Fire z) (told_of_fire z (sleeper_of s z) (stands (at b) d)) tt

      none_due : first_to_fire i me s d ≡ None → one_if (is_any_to_fire i me.sampled s) ≡ 0
      none_due none = ap one_if (sleepers i me s d it.beds opened none)

      to : AfterService → Place → Moved Things
      to b q = aside x (serves {T = Own} q (stands (at b) d) tt)

      by : (o : Option ℕ) → first_to_fire i me s d ≡ o → (b : AfterService) → is_of_closing (at b) ≡ false → FallsAt c i me s d x (at b)
      by o is AfterService.Finish h = λ g quiet. absurd (true≢false h)
      by (Some z) some b h = λ g. rw some (λ quiet. absurd (false≢true quiet))
      by None none AfterService.Mail h = λ g. rw none (
          either c i (seen (at AfterService.Mail) me) s (stands (at AfterService.Mail) d) x (to AfterService.Mail) (is_empty d.batch) (Place.Mail InMail.LoadMailWord) (Place.Mail (InMail.Apply 0 false))
          (λ e. goes (at AfterService.Mail) (to AfterService.Mail (Place.Mail InMail.LoadMailWord)) refl refl (omega arith) (omega arith) (keeps (at AfterService.Mail) (to AfterService.Mail (Place.Mail InMail.LoadMailWord)) (record {
            kept = λ k. omega (arith, k, none_due none, ap (λ v. one_if (not v)) e);
            wanted_kept = λ k l. omega (arith, l);
            others_kept = λ k. omega arith;
            spun_kept = λ k. omega arith;
          })))
          (λ e. goes (at AfterService.Mail) (to AfterService.Mail (Place.Mail (InMail.Apply 0 false))) refl refl (omega arith) (omega arith) (keeps (at AfterService.Mail) (to AfterService.Mail (Place.Mail (InMail.Apply 0 false))) (record {
            kept = λ k. omega (arith, ap (λ v. one_if (not v)) e);
            wanted_kept = λ k l. omega (arith, l);
            others_kept = λ k. omega arith;
            spun_kept = λ k. omega arith;
          }))))
      by None none AfterService.Begin h = λ g. rw none (
          grind arith)

  pub ends_service : (v : Service) → FallsAt c i me s d x (Place.Service InService.EndService v)
  ends_service v it = ends_by it.is_still_open v v.back it
