-- Of the two workers of the worked examples: where they are, by their numbers, and that nobody has to do anything for others.
use Rattle.std.{proofs.{Common.{◌≡◌, ℕ, zero, suc, Bool, true, false, ◌||◌, List, [], ◌∷◌, ◌++◌, length, Option, Some, None, refl, sym, ap, ◌∙◌, inl, inr, subst, arith}, lemmas.{Bool.{true≢false, false≢true}, Option.none-some}}, specs.Prelude.{◌⊎◌, ◌&&◌, ◌||◌, ◌<◌, is_some, slice_get}}
use Rattle.exec_machine.specs.{declared.{config.Configuration.Configuration, state.Next.Next}, Progress.is_runnable, Tests.{has_ended, is_done}, World.{Task, own_of, seat_of}}
use Rattle.exec_moves.specs.{declared.{handing.CallPlace.CallPlace, idling.InWordWait.InWordWait, place.Place.Place}, Call.no_call, Plays.{Playing, caller_of, desk_of}, State.{inbox_of, no_wake_poll, queue_of, word_of}}
use Rattle.exec_rest.{specs.{AtRest.{AreBare, AreFresh, IsAtRest, IsPlaced, IsShut, is_end, is_fed, is_given, is_idle, stays_closing}, Posted.{IsPosted, has_tested}, Examples.{rested, two_waiting, with_a_latch, with_a_message, with_a_runnable}, Places.{asked_for_poll, has_looked, is_abed, is_in_call, is_pooled, is_published, is_to_enter, is_to_sleep_on_ring, is_withdrawing, owes_nothing, waits_on}, Rested.{IsLaidOut, IsOwed, IsRaised, IsRestful, IsSignalled, NothingWaits, Someone, has_bit, is_in_pool, is_latched, place_at, poll_at, sleeps}}, proofs.First.of_equal}

abbrev two : Configuration
two = two_waiting.config

-- WORKER BY WORKER

-- who there is sleeps on its wake word, and what stands past them begins a turn
abbrev seen : ℕ → Place
seen zero = Place.WordWait InWordWait.DisarmWord
seen (suc zero) = Place.WordWait InWordWait.DisarmWord
seen (suc (suc i)) = Place.BeginTurn

by_place : (P : Place → Type 0) → P (Place.WordWait InWordWait.DisarmWord) → P Place.BeginTurn → (i : ℕ) → P (seen i)
by_place = grind arith

pub place : (i : ℕ) → place_at two rested i ≡ seen i
place zero = refl
place (suc zero) = refl
place (suc (suc i)) = refl

-- what is so of both, and of what stands past them; and what isn't
is_at : (test : Place → Bool) (b : Bool) → test (Place.WordWait InWordWait.DisarmWord) ≡ b → test Place.BeginTurn ≡ b → (i : ℕ) → test (place_at two rested i) ≡ b
is_at test b here past i = ap test (place i) ∙ by_place (λ p. test p ≡ b) here past i

not_at : {T : Type 0} (test : Place → Bool) → test (Place.WordWait InWordWait.DisarmWord) ≡ false → test Place.BeginTurn ≡ false → (i : ℕ) →
    test (place_at two rested i) ≡ true → T
not_at test here past i h = absurd (false≢true (sym (is_at test false here past i) ∙ h))

call : (j : ℕ) → (caller_of rested j).place ≡ CallPlace.Nothing
call j = of_equal (λ d. d.place ≡ CallPlace.Nothing) 16 j no_call no_call refl refl

target : (i : ℕ) → (word_of rested.things i).target ≡ waits_on (seen i)
target zero = refl
target (suc zero) = refl
target (suc (suc i)) = refl

unlatched : (i : ℕ) → is_latched two rested i ≡ false
unlatched zero = refl
unlatched (suc zero) = refl
unlatched (suc (suc i)) = refl

pub queue : (i : ℕ) → (queue_of rested.things i).values ≡ []
queue zero = refl
queue (suc zero) = refl
queue (suc (suc i)) = refl

poll : (i : ℕ) → poll_at two rested i ≡ no_wake_poll
poll zero = refl
poll (suc zero) = refl
poll (suc (suc i)) = refl

no_bit : (i : ℕ) → has_bit two rested (suc (suc i)) ≡ false
no_bit i = of_equal (λ b. b ≡ false) 62 i false false refl refl

-- ALL THAT HOLDS OF THEM

pub nothing_waits : NothingWaits two rested
nothing_waits = record { global = refl; queues = λ i pool. queue i; latches = λ i h. unlatched i }

abed : (i : ℕ) → sleeps two rested i ≡ true → is_abed (place_at two rested i) ≡ true
abed zero h = refl
abed (suc zero) h = refl
abed (suc (suc i)) h = absurd (false≢true h)

bits : (i : ℕ) → has_bit two rested i ≡ true → (is_published (place_at two rested i) ≡ true) × (is_in_pool two rested i ≡ true)
bits zero h = (refl, refl)
bits (suc zero) h = (refl, refl)
bits (suc (suc i)) h = absurd (false≢true (sym (no_bit i) ∙ h))

answered : (i : ℕ) → is_in_pool two rested i ≡ true → is_published (place_at two rested i) ≡ true → has_bit two rested i ≡ false →
    (is_withdrawing (place_at two rested i) || is_latched two rested i) ≡ true ⊎ IsSignalled two rested i
answered zero pool at out = absurd (true≢false out)
answered (suc zero) pool at out = absurd (true≢false out)
answered (suc (suc i)) pool at out = absurd (false≢true pool)

pub restful : IsRestful two rested
restful =
    record {
      abed = abed;
      armed = λ i waits. target i ∙ sym (ap waits_on (place i));
      rung = λ i h latched. absurd (false≢true (sym (unlatched i) ∙ latched));
      entering = λ i h latched. not_at is_to_enter refl refl i h;
      sleeping = λ i h latched. not_at is_to_sleep_on_ring refl refl i h;
      asked = λ i h. not_at asked_for_poll refl refl i h;
      polled = λ i h. not_at is_to_sleep_on_ring refl refl i h;
      kept = λ i. ap (λ w. w.armed && w.kept) (poll i);
      ended = λ i h. absurd (false≢true (sym (ap (λ w. is_some w.ended) (poll i)) ∙ h));
      pooled = λ i h. not_at is_pooled refl refl i h;
      bits = bits;
      answered = answered;
      covered = λ some. absurd (some refl);
      dried = λ i pool dry. queue i;
      over = λ i h. is_at owes_nothing true refl refl i;
      calls = λ j h. absurd (false≢true (sym (ap is_in_call (call j)) ∙ h));
    }

pub going : (i : ℕ) → is_in_pool two rested i ≡ true → has_ended (seat_of rested.world.common i).phase ≡ false
going zero pool = refl
going (suc zero) pool = refl
going (suc (suc i)) pool = absurd (false≢true pool)

-- EACH IS WHERE IT MAY BE

first_ones : (i : ℕ) → is_in_pool two rested i ≡ true → i < 64
first_ones zero pool = omega (arith)
first_ones (suc zero) pool = omega (arith)
first_ones (suc (suc i)) pool = absurd (false≢true pool)

-- how many there are: each list is computed on its own, since two that aren't yet are compared step by step
record AreTwo : Type 0 where
  pub seats : length rested.world.common.seats ≡ 2
  pub desks : length rested.desks ≡ 2
  pub queues : length rested.things.queues ≡ 2
  pub words : length rested.things.words ≡ 2
  pub polls : length rested.things.wake_polls ≡ 2
  pub boxes : length rested.things.inboxes ≡ 2
  pub callers : length rested.callers ≡ 16
  pub calls : length rested.world.common.callers ≡ 16

two_of_each : AreTwo
two_of_each = record { seats = refl; desks = refl; queues = refl; words = refl; polls = refl; boxes = refl; callers = refl; calls = refl }

laid : IsLaidOut two rested
laid = grind (arith, two_of_each, bits, first_ones)

-- who has ended would stand past the list
over : (i : ℕ) → i < length rested.desks → has_ended (seat_of rested.world.common i).phase ≡ true → is_end (place_at two rested i) ≡ true
over zero lt ended = absurd (false≢true ended)
over (suc zero) lt ended = absurd (false≢true ended)
over (suc (suc i)) lt ended = grind arith

hands : (i : ℕ) → is_idle (place_at two rested i) ≡ true → ((desk_of two rested i).hand ≡ None) × ((desk_of two rested i).loot ≡ [])
hands zero h = (refl, refl)
hands (suc zero) h = (refl, refl)
hands (suc (suc i)) h = (refl, refl)

aside : (i : ℕ) → is_idle (place_at two rested i) ≡ true → (queue_of rested.things i).held ≡ []
aside zero h = refl
aside (suc zero) h = refl
aside (suc (suc i)) h = refl

no_batch : (i : ℕ) → (desk_of two rested i).batch ≡ []
no_batch zero = refl
no_batch (suc zero) = refl
no_batch (suc (suc i)) = refl

no_inbox : (i : ℕ) → inbox_of rested.things i ≡ []
no_inbox zero = refl
no_inbox (suc zero) = refl
no_inbox (suc (suc i)) = refl

no_mail : (i : ℕ) → (seat_of rested.world.common i).inbox ≡ []
no_mail zero = refl
no_mail (suc zero) = refl
no_mail (suc (suc i)) = refl

-- both roots wait, and there is no other task
abbrev is_run : Option Task → Bool
is_run None = false
is_run (Some it) = is_runnable it.phase

no_run : (t : ℕ) → is_run (slice_get rested.world.common.tasks t) ≡ false
no_run zero = refl
no_run (suc zero) = refl
no_run (suc (suc t)) = refl

waiting : (t : ℕ) (it : Task) → slice_get rested.world.common.tasks t ≡ Some it → is_runnable it.phase ≡ false
waiting t it there = sym (ap is_run there) ∙ no_run t

-- and began to, since they were woken
abbrev began_last : Option Task → Bool
began_last None = true
began_last (Some it) = is_done it.phase || it.fresh

all_began : (t : ℕ) → began_last (slice_get rested.world.common.tasks t) ≡ true
all_began zero = refl
all_began (suc zero) = refl
all_began (suc (suc t)) = refl

woken : (t : ℕ) (it : Task) → slice_get rested.world.common.tasks t ≡ Some it → (is_done it.phase || it.fresh) ≡ true
woken t it there = sym (ap began_last there) ∙ all_began t

pub placed : IsPlaced two rested
placed =
    record {
      laid = laid;
      feeds = λ i h. not_at is_fed refl refl i h;
      stays = λ i running. is_at stays_closing false refl refl i;
      over = over;
      hands = hands;
      aside = aside;
      calls = λ j h. of_equal (λ d. d.hand ≡ None) 16 j no_call no_call refl refl;
      mail = λ i. no_mail i ∙ sym (no_inbox i) ∙ sym (ap (λ batch. batch ++ inbox_of rested.things i) (no_batch i));
      mute = λ i h. (no_batch i, no_inbox i);
      roots = λ t it j there home run. absurd (false≢true (sym (waiting t it there) ∙ run));
      zero = λ running. refl;
      done = λ i pool ended t it there home. waiting t it there;
    }

pub at_rest : IsAtRest two rested
at_rest = record { tasks = waiting; woken = woken; messages = no_mail; queues = λ running. nothing_waits }

published : (i : ℕ) → (word_of rested.things i).batch ≡ 0
published zero = refl
published (suc zero) = refl
published (suc (suc i)) = refl

taken : (i : ℕ) → (desk_of two rested i).processed ≡ 0
taken zero = refl
taken (suc zero) = refl
taken (suc (suc i)) = refl

unready : (i : ℕ) → has_tested (place_at two rested i) ≡ true → (desk_of two rested i).root_ready ≡ false
unready zero h = refl
unready (suc zero) h = refl
unready (suc (suc i)) h = absurd (false≢true h)

pub posted : IsPosted two rested
posted =
    record {
      numbered = λ i. inl (published i ∙ sym (taken i), no_inbox i);
      posted = λ i h some. absurd (some (no_inbox i));
      early = λ i h some. absurd (some (no_inbox i));
      tested = λ i h. (unready i h, no_batch i);
    }

-- A WAKE THAT IS LOST

-- where they are there, with another thing that they share, nobody does it: no worker, and no caller
pub nobody : {W : Place → Type 0} {C : CallPlace → Type 0} (x : Playing) →
    ((i : ℕ) → place_at two x i ≡ seen i) → ((j : ℕ) → (caller_of x j).place ≡ CallPlace.Nothing) →
    (W (Place.WordWait InWordWait.DisarmWord) → ⊥) → (W Place.BeginTurn → ⊥) → (C CallPlace.Nothing → ⊥) → Someone two x W C → ⊥
nobody {W} {C} x places calls here past call_not (Someone.Worker j w) = by_place (λ p. W p → ⊥) here past j (subst W (places j) w)
nobody {W} {C} x places calls here past call_not (Someone.Caller j w) = call_not (subst C (calls j) w)

-- Each has looked at the global queue with its bit in.
all_looked : (i : ℕ) → is_in_pool two with_a_runnable i ≡ true → (has_looked (place_at two with_a_runnable i) ≡ true → has_bit two with_a_runnable i ≡ false) → ⊥
all_looked zero pool out = true≢false (out refl)
all_looked (suc zero) pool out = true≢false (out refl)
all_looked (suc (suc i)) pool out = false≢true pool

abbrev is_cons : {T : Type 0} → List T → Bool
is_cons [] = false
is_cons (t ∷ ts) = true

pub uncovered : IsRestful two with_a_runnable → ⊥
uncovered it = left (it.covered (λ none. true≢false (ap is_cons none)))
  where
    there : (i : ℕ) → place_at two with_a_runnable i ≡ seen i
    there zero = refl
    there (suc zero) = refl
    there (suc (suc i)) = refl

    calls : (j : ℕ) → (caller_of with_a_runnable j).place ≡ CallPlace.Nothing
    calls j = of_equal (λ d. d.place ≡ CallPlace.Nothing) 16 j no_call no_call refl refl

    left : IsOwed two with_a_runnable ⊎ ((i : ℕ) × (is_in_pool two with_a_runnable i ≡ true) × (has_looked (place_at two with_a_runnable i) ≡ true → has_bit two with_a_runnable i ≡ false)) → ⊥
    left (inl owed) = nobody with_a_runnable there calls false≢true false≢true false≢true owed
    left (inr (i, pool, out)) = all_looked i pool out

pub unrung : IsRestful two with_a_latch → ⊥
unrung it = left (it.rung 1 refl refl)
  where
    there : (i : ℕ) → place_at two with_a_latch i ≡ seen i
    there zero = refl
    there (suc zero) = refl
    there (suc (suc i)) = refl

    calls : (j : ℕ) → (caller_of with_a_latch j).place ≡ CallPlace.Nothing
    calls j = of_equal (λ d. d.place ≡ CallPlace.Nothing) 16 j no_call no_call refl refl

    unraised : (ring : Bool) → IsRaised two with_a_latch 1 ring → ⊥
    unraised ring = nobody with_a_latch there calls (none-some _) (none-some _) (none-some _)

    left : IsRaised two with_a_latch 1 true ⊎ IsRaised two with_a_latch 1 false → ⊥
    left (inl h) = unraised true h
    left (inr h) = unraised false h

-- NO REST

still_going : (i : ℕ) → is_in_pool two with_a_runnable i ≡ true → has_ended (seat_of with_a_runnable.world.common i).phase ≡ false
still_going zero pool = refl
still_going (suc zero) pool = refl
still_going (suc (suc i)) pool = absurd (false≢true pool)

pub no_task : IsAtRest two with_a_runnable → ⊥
no_task it = true≢false (ap is_cons (it.queues still_going).global)

pub no_message : IsAtRest two with_a_message → ⊥
no_message it = true≢false (ap is_cons (it.messages 1))

-- what else is carried
abbrev fresh_of : Option Task → Bool
fresh_of None = true
fresh_of (Some it) = it.fresh

all_fresh : (t : ℕ) → fresh_of (slice_get rested.world.common.tasks t) ≡ true
all_fresh zero = refl
all_fresh (suc zero) = refl
all_fresh (suc (suc t)) = refl

pub fresh : AreFresh rested
fresh t it there unnoted = sym (ap fresh_of there) ∙ all_fresh t

abbrev closes_queue : Next → Bool
closes_queue Next.ClosesQueue = true
closes_queue _ = false

closes_none : (i : ℕ) → closes_queue (own_of rested.world i).next ≡ false
closes_none zero = refl
closes_none (suc zero) = refl
closes_none (suc (suc i)) = refl

pub shut : IsShut rested
shut = record { queue = λ h. h; next = λ i h. absurd (false≢true (sym (closes_none i) ∙ ap closes_queue h)) }

none_held : (i : ℕ) → (queue_of rested.things i).held ≡ []
none_held zero = refl
none_held (suc zero) = refl
none_held (suc (suc i)) = refl

pub bare : AreBare two rested
bare = record { given = λ i h. not_at is_given refl refl i h; bare = λ i h. (queue i, none_held i) }
