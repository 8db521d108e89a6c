use Rattle.std.{proofs.{Common.{◌≡◌, ℕ, suc, ◌+◌, ◌==◌, ◌&&◌, ◌<◌, Bool, true, false, not, length, refl, sym, ap, ◌∙◌, arith}, lemmas.Bool.false≢true}, specs.Prelude.nat_lt}
use Rattle.exec_words.specs.declared.word.WaitTarget.{WaitTarget}
use Rattle.exec_machine.specs.{Tests.is_asleep, World.{no_sleeper, own_of}}
use Rattle.exec_moves.specs.{declared.place.{InPoll.InPoll, Place.Place}, Counts.one_if, Plays.desk_of, Seen.serves_at, Slots.numbers_in, State.{queue_of, word_of}}
use Rattle.exec_credit.specs.Spins.{IsShort}
use Rattle.exec_rest.specs.{Examples.{rested, two_waiting}, Places.waits_on, Rested.{is_in_pool, place_at}}
use Rattle.exec_settled.proofs.TwoAsleep.{each, is_at, not_at}
use Rattle.exec_progress.specs.{Going.{KnowsAside, KnowsTail, has_called_back, is_moving, is_of_closing, is_seeking, loads_queues, raises_itself}, Granted.{IsGranted, KnowsRoom}, Paced.IsPaced}
use Rattle.exec_progress.proofs.examples.two_at_rest.Goals as goal

abbrev is_begin : Place → Bool
is_begin (Place.Poll t InPoll.BeginPoll) = true
is_begin _ = false

-- what stands past the end of a list sleeps nowhere
awake : (i : ℕ) → is_asleep i no_sleeper ≡ false
awake i = by (no_sleeper.worker == i)
  where
    by : (b : Bool) → (b && not no_sleeper.fired && not no_sleeper.removed) ≡ false
    by true = refl
    by false = refl

granted : IsGranted two_waiting.config rested
granted =
    let seats : length rested.world.common.seats ≡ 2 = refl in
    let first : is_in_pool two_waiting.config rested 0 ≡ true = refl in let one : nat_lt 0 two_waiting.config.workers ≡ true = refl in
    let second : is_in_pool two_waiting.config rested 1 ≡ true = refl in let two : nat_lt 1 two_waiting.config.workers ≡ true = refl in
    let sampled : (i : ℕ) → (own_of rested.world i).sampled ≡ 0 = each (λ i. (own_of rested.world i).sampled ≡ 0) refl refl (λ i. refl) in
    let serving : (i : ℕ) → (own_of rested.world i).serving ≡ false = each (λ i. (own_of rested.world i).serving ≡ false) refl refl (λ i. refl) in
    let counts : (i : ℕ) → one_if (desk_of two_waiting.config rested i).searching + one_if (not ((queue_of rested.things i).gap == 0)) ≡ 0 =
    each (λ i. one_if (desk_of two_waiting.config rested i).searching + one_if (not ((queue_of rested.things i).gap == 0)) ≡ 0) refl refl (λ i. refl) in
    let loot : (i : ℕ) → length (desk_of two_waiting.config rested i).loot ≡ 0 = each (λ i. length (desk_of two_waiting.config rested i).loot ≡ 0) refl refl (λ i. refl) in
    let results : (i : ℕ) → length (desk_of two_waiting.config rested i).results ≡ 0 = each (λ i. length (desk_of two_waiting.config rested i).results ≡ 0) refl refl (λ i. refl) in
    let completions : (i : ℕ) → length (desk_of two_waiting.config rested i).completions ≡ 0 = each (λ i. length (desk_of two_waiting.config rested i).completions ≡ 0) refl refl (λ i. refl) in
    record {
      workers = omega arith;
      ring = refl;
      pool = each (λ i. i < length rested.world.common.seats → is_in_pool two_waiting.config rested i ≡ nat_lt i two_waiting.config.workers) (λ h. first ∙ sym one) (λ h. second ∙ sym two) (λ i h. absurd (omega (arith, h, seats)));
      opened = λ i h. is_at is_of_closing false refl refl i;
      serves = λ i. serving i ∙ sym (is_at serves_at false refl refl i);
      sampled = λ i. omega (arith, sampled i);
      ready = λ i t h nobody is. absurd (false≢true (sym (is_at is_begin false refl refl i) ∙ ap is_begin is));
      counted = λ i. omega (arith, counts i);
      beds = λ i z h asleep. absurd (false≢true (sym (awake i) ∙ asleep));
      room = each (λ i. KnowsRoom (place_at two_waiting.config rested i) (queue_of rested.things i)) tt tt (λ i. tt);
      aside = each (λ i. KnowsAside (place_at two_waiting.config rested i) (queue_of rested.things i)) tt tt (λ i. tt);
      claims = each (λ i. KnowsTail two_waiting.config rested.things (place_at two_waiting.config rested i)) tt tt (λ i. tt);
      few = λ i. omega (arith, loot i);
      results = λ i. omega (arith, results i);
      completions = λ i. omega (arith, completions i);
    }

paced : IsPaced 0 two_waiting.config rested
paced =
    let first : (word_of rested.things 0).target ≡ WaitTarget.Sleeping = refl in let one : waits_on (place_at two_waiting.config rested 0) ≡ WaitTarget.Sleeping = refl in
    let second : (word_of rested.things 1).target ≡ WaitTarget.Sleeping = refl in let two : waits_on (place_at two_waiting.config rested 1) ≡ WaitTarget.Sleeping = refl in
    let past : (i : ℕ) → (word_of rested.things (suc (suc i))).target ≡ WaitTarget.None = λ i. refl in let none : (i : ℕ) → waits_on (place_at two_waiting.config rested (suc (suc i))) ≡ WaitTarget.None = λ i. refl in
    let spins : (i : ℕ) → (desk_of two_waiting.config rested i).spinner.budget ≡ 0 = each (λ i. (desk_of two_waiting.config rested i).spinner.budget ≡ 0) refl refl (λ i. refl) in
    let floors : (i : ℕ) → (desk_of two_waiting.config rested i).spinner.floor ≡ 0 = each (λ i. (desk_of two_waiting.config rested i).spinner.floor ≡ 0) refl refl (λ i. refl) in
    let leasts : (i : ℕ) → (desk_of two_waiting.config rested i).spinner.min_budget ≡ 0 = each (λ i. (desk_of two_waiting.config rested i).spinner.min_budget ≡ 0) refl refl (λ i. refl) in
    let mosts : (i : ℕ) → (desk_of two_waiting.config rested i).spinner.max_budget ≡ 0 = each (λ i. (desk_of two_waiting.config rested i).spinner.max_budget ≡ 0) refl refl (λ i. refl) in
    let filled : (j : ℕ) → length (queue_of rested.things j).values + length (queue_of rested.things j).held + (queue_of rested.things j).gap ≡ 0 =
    each (λ j. length (queue_of rested.things j).values + length (queue_of rested.things j).held + (queue_of rested.things j).gap ≡ 0) refl refl (λ j. refl) in
    let given : (j : ℕ) → (queue_of rested.things j).real ≡ 0 = each (λ j. (queue_of rested.things j).real ≡ 0) refl refl (λ j. refl) in
    let outputs : (i : ℕ) → (desk_of two_waiting.config rested i).outputs + length (numbers_in (desk_of two_waiting.config rested i).requests.held) ≡ 0 =
    each (λ i. (desk_of two_waiting.config rested i).outputs + length (numbers_in (desk_of two_waiting.config rested i).requests.held) ≡ 0) refl refl (λ i. refl) in
    record {
      pace = λ i. record {
        loads = not_at loads_queues refl refl i;
        moves = not_at is_moving refl refl i;
        called_back = not_at has_called_back refl refl i;
        budget = record { budget = omega (arith, spins i); floor = omega (arith, floors i); least = omega (arith, leasts i); most = omega (arith, mosts i); none = λ h. spins i };
        short = each (λ i. IsShort two_waiting.config.spin (place_at two_waiting.config rested i)) tt tt (λ i. tt) i;
      };
      counts = λ i. not_at is_seeking refl refl i;
      aimed = record {
        target = each (λ i. (word_of rested.things i).target ≡ waits_on (place_at two_waiting.config rested i)) (first ∙ sym one) (second ∙ sym two) (λ i. past i ∙ sym (none i));
        unraised = each (λ i. raises_itself i (place_at two_waiting.config rested i) ≡ false) refl refl (λ i. refl);
      };
      narrow = record { narrow = λ j. omega (arith, filled j); low = λ j. omega (arith, given j) };
      outputs = λ i. omega (arith, outputs i);
      opens = omega arith;
    }

pub returns : goal.returns
returns c = record { granted = granted; paced = paced; left = refl; bound = refl }
