-- What the waits share: how they lead down, up, and out.
use Rattle.std.proofs.{Common.{◌≡◌, ℕ, ◌+◌, ◌≤◌, ◌<◌, ◌==◌, Bool, true, false, not, ◌&&◌, length, refl, ap, ◌⊎◌, inl, inr}, lemmas.List.get_or-set_same}
use Rattle.exec_words.specs.{Word.is_idle_at, declared.word.PureWord.PureWord}
use Rattle.exec_machine.specs.declared.config.Configuration.{Configuration}
use Rattle.exec_moves.specs.{Load.has_mail, State.{Desk, Things, WakePoll, no_wake_poll, no_word, wake_poll_of, word_of}, Thing.{set_wake_poll, set_word}}
use Rattle.exec_progress.{specs.Effort.{is_short, whole_turn}, proofs.Tools.{Now, OwesLess, ahead_at, gates, goes_down, goes_up, keeps_turns, left, others_at, rest, spun, wanted_at}}

-- THE THINGS AFTERWARDS

pub word_is : (i : ℕ) (x : Things) (w : PureWord) → i < length x.words → word_of (set_word i x w) i ≡ w
word_is i x w there = get_or-set_same x.words i w no_word there

pub poll_is : (i : ℕ) (x : Things) (w : WakePoll) → i < length x.wake_polls → wake_poll_of (set_wake_poll i x w) i ≡ w
poll_is i x w there = get_or-set_same x.wake_polls i w no_wake_poll there

-- A WORD AT WHICH A WAIT MAY NOT BEGIN has a latch or mail

not_idle : (latch same : Bool) → (not latch && same) ≡ false → (latch ≡ true) ⊎ (not same ≡ true)
not_idle true same h = inl refl
not_idle false same h = inr (ap not h)

pub stirred : (d : Desk) (w : PureWord) → is_idle_at w d.processed ≡ false → (w.latch ≡ true) ⊎ (has_mail d w ≡ true)
stirred d w h = not_idle w.latch (w.batch == d.processed) h

module _ (c : Configuration) (i : ℕ) (a b : Now) where
  pub sinks : is_short a.d.place ≡ false → is_short b.d.place ≡ false → rest c i b < rest c i a → gates c i b ≤ gates c i a
      → (1 ≤ ahead_at c i a → 1 ≤ ahead_at c i b) → (ahead_at c i a ≡ 0 → 1 ≤ wanted_at c i b → 1 ≤ wanted_at c i a) → (ahead_at c i a ≡ 0 → others_at c i b ≤ others_at c i a)
      → (ahead_at c i a ≡ 0 → spun c i b ≤ spun c i a) → left c i b < left c i a
  sinks long_before long_after less gates_kept kept wants fewer few =
      goes_down c i a b (record {
        long_before = long_before;
        long_after = long_after;
        less = less;
        gates_kept = gates_kept;
        owes = keeps_turns c i a b (record { kept = kept; wanted_kept = wants; others_kept = fewer; spun_kept = few });
      })

  pub rises : is_short a.d.place ≡ false → is_short b.d.place ≡ false → rest c i b < rest c i a + whole_turn c i a.s → gates c i b ≤ gates c i a → OwesLess c i a b → left c i b < left c i a
  rises long_before long_after less gates_kept owes =
      goes_up c i a b (record { long_before = long_before; long_after = long_after; less = less; gates_kept = gates_kept; owes = owes })
