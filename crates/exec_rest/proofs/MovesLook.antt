-- What the moves do as far as waking goes, of a worker that looks whether it may wait: the loads, the tests, the look with its
-- bit in the idle set, and the withdrawal of that.
use Rattle.std.{proofs.{Common.{◌≡◌, ℕ, ◌+◌, ◌==◌, Bool, true, false, ◌&&◌, ◌||◌, List, [], ◌∷◌, refl, sym, ap, ◌∙◌, slice_set, if◌then◌else◌, nat_lt, arith}, lemmas.{Bool.{true≢false, false≢true, and_parts}, List.{get_or-set_same, length-set}}}, specs.Prelude.{not, nat_le}}
use Rattle.exec_words.specs.{Head.is_stealable_at, Idle.{Idle, is_in}, Queue.tail_of}
use Rattle.exec_machine.specs.{declared.config.Configuration.Configuration, Tests.is_empty, World.{Common, Own as Books}, Deadlines.next_due}
use Rattle.exec_moves.specs.{declared.{handing.AfterLeave.AfterLeave as leave, idling.{AfterWait.{AfterWait as next, AfterWait}, InLook.{InLook as looking, InLook}, InScan.InScan as scanning, InRingWait.InRingWait as ring, InWordWait.InWordWait as word, Stay.Stay as stay}, place.{AfterService.AfterService as back, InLoads.{InLoads as load, InLoads}, Place.{Place as at, Place}, Round.{Round as round, Round}, Found.Found}}, Callback.{has_callbacks, serve, is_of_pool}, Global.one_count_more, Load.{has_come, has_mail, has_submissions, is_ready, leaves_for_turn, test_for_work}, Look.{after_withdrawal, past_own, look_at_mirror, looks_from, searching_if, withdraw}, Move.{move_loads, move_look}, State.{Desk, Own, Things, queue_of, word_of, turns}, Thing.{aside, set_idle, with_global, with_idle}, Wait.{first_search, read_clock, waits}}
use Rattle.exec_rest.{specs.Places.{has_looked, is_published}, proofs.{Asides.{idle_put, same, word_put}, Continuing.{calm_after_return, light_leaves_for_turn, calm_light}, Heeds.Heeds, Plain.{calm, is_calm}, Waiting.{Knows, calm_loose, calms, either, goes_on, is_loose, is_out, may_go, nothing_known, not-true, onward, put_in, put_in_own, queue_put, steady, still_empty, taken_out, taken_out_own}}}
use Rattle.exec_moves.specs.declared.idling.InSearch.TheVariants as searching

-- A QUEUE THAT IS EMPTY, by what was found

none_there : {X : Type 0} (xs : List X) → not (not (is_empty xs)) ≡ true → xs ≡ []
none_there [] h = refl
none_there (x ∷ xs) h = absurd (false≢true h)

not_before : (ready more : Bool) → not (ready || more) ≡ true → not ready ≡ true
not_before true more h = h
not_before false more h = refl

unready : (f flag calls batch work : Bool) → ((f || flag || calls || batch) || work) ≡ false → f ≡ false
unready true flag calls batch work h = absurd (true≢false h)
unready false flag calls batch work h = refl

-- WHERE IT LEAVES FOR

-- a place at which its bit isn't in, nor a wait prepared
abbrev is_unseen : Place → Bool
is_unseen q = is_loose q && not (is_published q) && not (has_looked q)

-- one at which its bit was put in just now
abbrev is_seen : Place → Bool
is_seen q = is_loose q && is_published q && not (has_looked q)

module _ (c : Configuration) (i : ℕ) (me : Books) (s : Common) (d : Desk) where
  made_up_calm : (came last : Bool) → is_calm (after_withdrawal c i me s came (next.MakeUp last) d) ≡ true
  made_up_calm true last = calm_light _ (light_leaves_for_turn c i me s d)
  made_up_calm false last = calm_after_return c i me s last leave.Begin d

  -- a test that the first places of all waits pass
  pub waits_at : (test : Place → Bool) → test (at.RingWait ring.EnterFullRing stay.Turn) ≡ true → test (at.RingWait ring.TestRing stay.Turn) ≡ true
      → ((n : ℕ) → test (at.WordWait (word.SpinOnBatch n)) ≡ true) → test (at.WordWait word.ArmWord) ≡ true → test (waits c i s d) ≡ true
  waits_at = grind arith

module _ (R : Type 0) (c : Configuration) (i : ℕ) (me : Books) (s : Common) (d : Desk) (x : Things) where
  abbrev with_bit : Bool → Idle
  with_bit b = record x.idle { published = slice_set x.idle.published i b }

  -- THE LOADS

  pub loads : (p : InLoads) (r : Round) → d.place ≡ at.Loads p r → Heeds R i s d x (move_loads i me d x p r)
  loads load.LoadOwnHead round.First is = calms R i s d x _ (at.Loads load.LoadOwnHead round.First) is refl refl refl (queue_put i x i (queue_of x i) (λ h. h)) refl
  loads load.LoadOwnHead round.Second is = grind (arith, onward, queue_put, still_empty, none_there)
  loads (load.LoadOwnMirror f) round.First is = calms R i s d x _ (at.Loads (load.LoadOwnMirror f) round.First) is refl refl refl (same i x) refl
  loads (load.LoadOwnMirror f) round.Second is = grind arith
  loads (load.LoadOwnWord f) round.First is = calms R i s d x _ (at.Loads (load.LoadOwnWord f) round.First) is refl refl refl (word_put i i x (word_of x i) refl refl) refl
  loads (load.LoadOwnWord f) round.Second is =
      onward R i s d x _ (at.Loads (load.LoadOwnWord f) round.Second) is refl refl (word_put i i x (word_of x i) refl refl) refl
      (λ pool before h. before (not_before f.ready (has_mail d (word_of x i)) h))

  -- THE TESTS

  pub tests : (f : Found) → d.place ≡ at.TestForWork f → Heeds R i s d x (aside x (test_for_work c i me s f d))
  tests f is = by (is_ready me f d || has_submissions c me) (unready f.ready d.root_ready (has_callbacks me d) (not (is_empty d.batch)) (has_submissions c me))
    where
      by : (b : Bool) → (b ≡ false → f.ready ≡ false) → Heeds R i s d x (aside x (if b then turns {T = Own} (leaves_for_turn c i me s d) d tt else turns {T = Own} at.ReadClock d tt))
      by true none = calms R i s d x _ (at.TestForWork f) is refl refl (calm_light _ (light_leaves_for_turn c i me s d)) (same i x) refl
      by false none = onward R i s d x _ (at.TestForWork f) is refl refl (same i x) refl (λ pool before h. before (ap not (none refl)))

  -- THE CLOCK

  -- any other one waits
  waits_alone : (e : Desk) → d.place ≡ at.ReadClock → is_of_pool s i ≡ false → Heeds R i s d x (aside x (turns {T = Own} (waits c i s e) e tt))
  waits_alone = grind arith

  pub reads : d.place ≡ at.ReadClock → Heeds R i s d x (aside x (read_clock c i me s d))
  reads is = by (has_come s.clock (next_due s i))
    where
      e : Desk
      e = record d { read = s.clock }

      by_count : Place
      by_count = if d.searching then at.Scan scanning.LoadScanHead else at.Search searching.LoadSearchCount

      in_search : Place
      in_search = if nat_le c.workers 1 then at.Look looking.Publish else by_count

      first : (pool : Bool) → is_of_pool s i ≡ pool → Heeds R i s d x (aside x (turns {T = Own} (if not pool then waits c i s e else in_search) e tt))
      first true pool = grind arith
      first false apart = waits_alone e is apart

      by : (come : Bool) → Heeds R i s d x (aside x (if come then turns {T = Own} (leaves_for_turn c i me s d) e tt else turns {T = Own} (first_search c i s e) e tt))
      by true = calms R i s d x _ at.ReadClock is refl refl (calm_light _ (light_leaves_for_turn c i me s d)) (same i x) refl
      by false = first (is_of_pool s i) refl

  -- THE LOOK

  -- its own bit goes in
  publishes : (q : Place) → d.place ≡ at.Look looking.Publish → is_seen q ≡ true → Heeds R i s d x (with_idle x (turns q d (with_bit true)))
  publishes = grind (arith, and_parts, is_loose, not-true, steady, same, put_in_own, true≢false, put_in, get_or-set_same, length-set, false≢true)

  -- the global queue is found empty, or not
  finds : (last : Bool) (g : List ℕ) → x.global ≡ g → d.place ≡ at.Look (looking.LookAtMirror last) → Heeds R i s d x (with_global x (look_at_mirror last d g))
  finds = grind arith

  -- once it found that empty: to the next worker, or to the wait
  abbrev looks_on : Place → Bool
  looks_on q = may_go (at.Look looking.LookAtCount) q

  waits_on_it : looks_on (waits c i s d) ≡ true
  waits_on_it = waits_at c i me s d looks_on refl refl (λ n. refl) refl

  on_to : (j : ℕ) → looks_on (looks_from c i s j d) ≡ true
  on_to j = either looks_on (nat_lt (past_own i j) c.workers) (at.Look (looking.LookAtHead (past_own i j))) (waits c i s d) refl waits_on_it

  pub look : (p : InLook) → d.place ≡ at.Look p → Heeds R i s d x (move_look c i s d x p)
  look looking.Publish is = by d.searching
    where
      by : (b : Bool) → Heeds R i s d x (with_idle x (turns (at.Look (if b then looking.ReturnLookCount else looking.LookAtMirror false)) d (with_bit true)))
      by true = publishes (at.Look looking.ReturnLookCount) is refl
      by false = publishes (at.Look (looking.LookAtMirror false)) is refl
  look looking.ReturnLookCount is = goes_on R i s d x _ (at.Look looking.ReturnLookCount) is refl refl refl (idle_put i x _ refl) refl (λ h. h)
  look (looking.LookAtMirror last) is = finds last x.global refl is
  look looking.LookAtCount is =
      goes_on R i s d x _ (at.Look looking.LookAtCount) is refl
      (either looks_on (x.idle.count == 0) (looks_from c i s 0 d) (waits c i s d) (on_to 0) waits_on_it) refl (idle_put i x _ refl) refl (λ h. h)
  look (looking.LookAtHead j) is = goes_on R i s d x _ (at.Look (looking.LookAtHead j)) is refl refl refl (queue_put i x j (queue_of x j) (λ h. h)) refl (still_empty i x j (queue_of x j) (λ h. h) i)
  look (looking.LookAtTail j h) is =
      goes_on R i s d x _ (at.Look (looking.LookAtTail j h)) is refl
      (either looks_on (is_stealable_at h (tail_of (queue_of x j))) (at.Look looking.ExchangeLookCount) (looks_from c i s (j + 1) d) refl (on_to (j + 1))) refl
      (queue_put i x j (queue_of x j) (λ h. h)) refl (still_empty i x j (queue_of x j) (λ h. h) i)
  look looking.ExchangeLookCount is = by (x.idle.count == 0)
    where
      by : (b : Bool) → Heeds R i s d x (with_idle x (if b then turns (at.Withdraw next.Search) (record d { searching = true }) (one_count_more x.idle) else turns (waits c i s d) d x.idle))
      by true = goes_on R i s d x _ (at.Look looking.ExchangeLookCount) is refl refl refl (idle_put i x _ refl) refl (λ h. h)
      by false = goes_on R i s d x _ (at.Look looking.ExchangeLookCount) is refl waits_on_it refl (idle_put i x _ refl) refl (λ h. h)
  look looking.ReturnClaimed is = goes_on R i s d x _ (at.Look looking.ReturnClaimed) is refl refl refl (idle_put i x _ refl) refl (λ h. h)

  -- THE WITHDRAWAL: its own bit goes out

  takes_out : (n : AfterWait) → d.place ≡ at.Withdraw n → (q : Place) (e : Desk) → is_loose q ≡ true → is_published q ≡ false
      → Knows i s x (at.Withdraw n) q (set_idle x (with_bit false))
      → Heeds R i s d x (with_idle x (turns q e (with_bit false)))
  takes_out = grind (arith, steady, same, taken_out, taken_out_own, false≢true, is_out, length-set)

  leaves_off : (n : AfterWait) → d.place ≡ at.Withdraw n → (q : Place) (e : Desk) → is_calm q ≡ true → Heeds R i s d x (with_idle x (turns q e (with_bit false)))
  leaves_off n is q e h = takes_out n is q e (calm_loose q h) (calm q h).published (nothing_known i s x (at.Withdraw n) q _ (calm q h))

  -- it goes on to search, where that is what it withdrew for
  searches_on : (q : Place) (e : Desk) → d.place ≡ at.Withdraw next.Search → is_unseen q ≡ true → Heeds R i s d x (with_idle x (turns q e (with_bit false)))
  searches_on q e is to =
      let two = and_parts (is_loose q && not (is_published q)) (not (has_looked q)) to in
      let one = and_parts (is_loose q) (not (is_published q)) two.0 in
      takes_out next.Search is q e one.0 (not-true (is_published q) one.1)
      (record { looked = λ pool h. absurd (false≢true (sym (not-true (has_looked q) two.1) ∙ h)); dry = λ pool before h. before refl; pooled = λ before h. before refl })

  pub withdraws : (n : AfterWait) → d.place ≡ at.Withdraw n → Heeds R i s d x (with_idle x (withdraw c i me s n d x.idle))
  withdraws next.Begin is = leaves_off next.Begin is at.BeginTurn (searching_if (not (is_in x.idle.published i)) d) refl
  withdraws next.Serve is = leaves_off next.Serve is (serve back.Begin) (searching_if (not (is_in x.idle.published i)) d) refl
  withdraws (next.MakeUp last) is =
      let came = not (is_in x.idle.published i) in
      leaves_off (next.MakeUp last) is (after_withdrawal c i me s came (next.MakeUp last) (searching_if came d)) (searching_if came d)
      (made_up_calm c i me s (searching_if came d) came last)
  withdraws next.Search is = by (not (is_in x.idle.published i))
    where
      by : (came : Bool) → Heeds R i s d x (with_idle x (turns (after_withdrawal c i me s came next.Search (searching_if came d)) (searching_if came d) (with_bit false)))
      by true = searches_on (at.Look looking.ReturnClaimed) (searching_if true d) is refl
      by false = searches_on (at.Scan scanning.LoadScanHead) (searching_if false d) is refl
