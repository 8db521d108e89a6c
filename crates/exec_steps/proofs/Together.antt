-- A step of one party keeps what holds of an executor: what the party leaves of others is enough for each of them.
use Rattle.std.proofs.{Common.{◌≡◌, ◌≢◌, ◌⊎◌, ℕ, zero, suc, ◌+◌, ◌*◌, ◌<◌, ◌≤◌, ◌==◌, List, [], ◌∷◌, ◌++◌, length, Some, refl, sym, ap, subst, ◌∙◌, arith, inl, inr, option_to_list, slice_get, slice_set, if◌then◌else◌}, lemmas.{List.{length-append, length-set}, Option.slice_get_within}, Math.Numerals.add-one}
use Rattle.exec_machine.specs.declared.{config.Configuration.Configuration, event.Event.Event}
use Rattle.exec_moves.specs.{Seen.polls_at, declared.handing.CallPlace.CallPlace}
use Rattle.exec_parts.{specs.{declared.parts.{seat.Seat.Seat as Chair, shared.Shared.Shared, worker.Worker.Worker}, MailPosts.{HaveMailboxes, IsMailbox}}, proofs.Facts.{by_number, same_Some, set_elsewhere, set_there}}
use Rattle.exec_polling.{specs.{declared.caller.Caller.Caller, Calling.{CallAims, CallBeside, CallSound, HasCallWhole, HoldsForAll, has_count_in, with_caller}}, proofs.Outsiders.no_other}
use Rattle.exec_invariants.{specs.{Places.{claims_at, clears_at, drops_at, has_count_at, is_published_at, one_if}, Sound.{AreHome, Sound}, Spares.{Spares, SparesMore}, Holding.mail_in, Whole.{HasWhole, IsWhole, Profile, is_number, mail_with, runnables_in, wakes_with, with_worker}, Works.{Beside, BesideNewcomer}}, proofs.{Counting.at_most, SparedRecord.there_within}}
use Rattle.exec_steps.{specs.Together.{StandTogether, all_have, callers_have}, proofs.Apart.{apart, holds_for_all, with_more}}

-- NUMBERS

zero_other : (i : ℕ) → zero ≢ suc i
zero_other i same = omega (arith, same)

suc_other : (k i : ℕ) → k ≢ i → suc k ≢ suc i
suc_other k i other same = other (omega (arith, same))

-- THE PROFILES may be taken in any order

shuffled : (a b c : ℕ) → (a + b) + c ≡ (a + c) + b
shuffled a b c = omega arith

shuffled_two : (a b b' c c' : ℕ) → (a + (b + b')) + (c + c') ≡ (a + (c + c')) + (b + b')
shuffled_two a b b' c c' = omega arith

swap_shown : {A : Type 0} (o : ℕ → A) (i k j : ℕ) (p q : A) → i ≢ k → (if j == k then q else (if j == i then p else o j)) ≡ (if j == i then p else (if j == k then q else o j))
swap_shown = grind arith

-- two workers
swap_workers : (o : Profile) (a b : Worker) → a.index ≢ b.index → with_worker (with_worker o a) b ≡ with_worker (with_worker o b) a
swap_workers o a b apart = λ i.
    record {
      runnables = λ t. shuffled (o.runnables t) (runnables_in t (option_to_list a.hand ++ a.loot.values)) (runnables_in t (option_to_list b.hand ++ b.loot.values)) i;
      polls = λ t. shuffled (o.polls t) (one_if (is_number (polls_at a.place) t)) (one_if (is_number (polls_at b.place) t)) i;
      claims = λ j. shuffled (o.claims j) (one_if (is_number (claims_at a.place) j)) (one_if (is_number (claims_at b.place) j)) i;
      counts = shuffled_two o.counts (one_if a.searching) (one_if (has_count_at a.place)) (one_if b.searching) (one_if (has_count_at b.place)) i;
      published = λ j. swap_shown o.published a.index b.index j (is_published_at a.place) (is_published_at b.place) apart i;
      clears = λ t. shuffled (o.clears t) (one_if (is_number (clears_at a.place) t)) (one_if (is_number (clears_at b.place) t)) i;
      polled_by = λ j. swap_shown o.polled_by a.index b.index j (polls_at a.place) (polls_at b.place) apart i;
      drops_by = λ j. swap_shown o.drops_by a.index b.index j (drops_at a.place) (drops_at b.place) apart i;
      mail = λ m. shuffled (o.mail m) (mail_in m (mail_with a)) (mail_in m (mail_with b)) i;
      wakes = λ j t. swap_shown (λ k. o.wakes k t) a.index b.index j (wakes_with t a) (wakes_with t b) apart i;
    }

-- a worker and a caller
swap_caller : (o : Profile) (c : Caller) (w : Worker) → with_worker (with_caller o c) w ≡ with_caller (with_worker o w) c
swap_caller = grind arith

-- two callers
swap_callers : (o : Profile) (a b : Caller) → with_caller (with_caller o a) b ≡ with_caller (with_caller o b) a
swap_callers = grind arith

-- THE OTHERS of one party, whose counts are few

calls_few : (cs : List Caller) → (callers_have cs).counts ≤ length cs
calls_few [] = omega arith
calls_few (c ∷ cs) = omega (arith, calls_few cs, at_most (has_count_in c.place))

all_few : (ws : List Worker) (cs : List Caller) → (all_have ws cs).counts ≤ 2 * length ws + length cs
all_few [] cs = omega (arith, calls_few cs)
all_few (w ∷ ws) cs = omega (arith, all_few ws cs, at_most w.searching, at_most (has_count_at w.place))

pub record OthersOf (ws : List Worker) (cs : List Caller) (i : ℕ) (w : Worker) : Type 0 where
  pub others : Profile
  pub all : (v : Worker) → v.index ≡ w.index → all_have (slice_set ws i v) cs ≡ with_worker others v
  pub now : all_have ws cs ≡ with_worker others w
  pub few : others.counts ≤ 2 * length ws + length cs

others_first : (x : Worker) (ws : List Worker) (cs : List Caller) (w : Worker) → x ≡ w → OthersOf (x ∷ ws) cs zero w
others_first x ws cs w is =
    record { others = all_have ws cs; all = λ v same. refl; now = ap (with_worker (all_have ws cs)) is; few = omega (arith, all_few ws cs) }

others_next : (x : Worker) (ws : List Worker) (cs : List Caller) (i : ℕ) (w : Worker) → w.index ≢ x.index → OthersOf ws cs i w → OthersOf (x ∷ ws) cs (suc i) w
others_next x ws cs i w beside rest =
    record {
      others = with_worker rest.others x;
      all = λ v same. ap (λ o. with_worker o x) (rest.all v same) ∙ swap_workers rest.others v x (λ e. beside (sym same ∙ e));
      now = ap (λ o. with_worker o x) rest.now ∙ swap_workers rest.others w x beside;
      few = omega (arith, rest.few, at_most x.searching, at_most (has_count_at x.place));
    }

pub others_of : (ws : List Worker) (cs : List Caller) (i : ℕ) (w : Worker) → slice_get ws i ≡ Some w → ((k : ℕ) (x : Worker) → slice_get ws k ≡ Some x → k ≢ i → x.index ≢ w.index) → OthersOf ws cs i w
others_of [] cs i w there distinct = absurd (cc)
others_of (x ∷ ws) cs zero w there distinct = others_first x ws cs w (same_Some x w there)
others_of (x ∷ ws) cs (suc i) w there distinct =
    others_next x ws cs i w (λ same. distinct zero x refl (zero_other i) (sym same))
    (others_of ws cs i w there (λ k y at other. distinct (suc k) y at (suc_other k i other)))

-- who stands last may be taken off first
all_with_last : (ws : List Worker) (cs : List Caller) (v : Worker) → ((k : ℕ) (x : Worker) → slice_get ws k ≡ Some x → x.index ≢ v.index) → all_have (ws ++ v ∷ []) cs ≡ with_worker (all_have ws cs) v
all_with_last [] cs v distinct = refl
all_with_last (w ∷ ws) cs v distinct =
    ap (λ o. with_worker o w) (all_with_last ws cs v (λ k x there. distinct (suc k) x there)) ∙ swap_workers (all_have ws cs) v w (λ same. distinct zero w refl (sym same))

pub last_or_before : {A : Type 0} (xs : List A) (k : ℕ) (y x : A) → slice_get (xs ++ y ∷ []) k ≡ Some x → (slice_get xs k ≡ Some x) ⊎ ((k ≡ length xs) × (y ≡ x))
last_or_before [] zero y x there = inr (refl, same_Some y x there)
last_or_before [] (suc k) y x there = absurd (cc)
last_or_before (z ∷ xs) zero y x there = inl there
last_or_before (z ∷ xs) (suc k) y x there = grind (arith, last_or_before xs k y x there)

pub record OthersOfCaller (ws : List Worker) (cs : List Caller) (j : ℕ) (c : Caller) : Type 0 where
  pub others : Profile
  pub all : (d : Caller) → all_have ws (slice_set cs j d) ≡ with_caller others d
  pub now : all_have ws cs ≡ with_caller others c
  pub few : others.counts ≤ 2 * length ws + length cs

beside_callers : (cs : List Caller) (j : ℕ) (c : Caller) → slice_get cs j ≡ Some c → OthersOfCaller [] cs j c
beside_callers [] j c there = absurd (cc)
beside_callers (x ∷ cs) zero c there =
    let is : x ≡ c = cc in
    record { others = callers_have cs; all = λ d. refl; now = ap (with_caller (callers_have cs)) is; few = omega (arith, calls_few cs) }
beside_callers (x ∷ cs) (suc j) c there =
    let rest = beside_callers cs j c there in
    record {
      others = with_caller rest.others x;
      all = λ d. ap (λ o. with_caller o x) (rest.all d) ∙ swap_callers rest.others d x;
      now = ap (λ o. with_caller o x) rest.now ∙ swap_callers rest.others c x;
      few = omega (arith, rest.few, at_most (has_count_in x.place));
    }

pub others_of_caller : (ws : List Worker) (cs : List Caller) (j : ℕ) (c : Caller) → slice_get cs j ≡ Some c → OthersOfCaller ws cs j c
others_of_caller [] cs j c there = beside_callers cs j c there
others_of_caller (w ∷ ws) cs j c there =
    let rest = others_of_caller ws cs j c there in
    record {
      others = with_worker rest.others w;
      all = λ d. ap (λ o. with_worker o w) (rest.all d) ∙ swap_caller rest.others d w;
      now = ap (λ o. with_worker o w) rest.now ∙ swap_caller rest.others c w;
      few = omega (arith, rest.few, at_most w.searching, at_most (has_count_at w.place));
    }

call_aims_apart : (p : CallPlace) (n m : ℕ) → n ≤ m → CallAims p n → CallAims p m
call_aims_apart = grind arith

module _ {B : Type 0} where
  -- a step of another party leaves a caller sound
  call_apart : (c : Caller) (j : ℕ) (s s' : Shared B) → CallSound c s → SparesMore j s s' → AreHome s'.config.workers (length s'.seats.items) s'.tasks.items → CallSound c s'
  call_apart c j s s' sound spares homes =
      record {
        config = rw spares.config sound.config;
        homes = homes;
        many = omega (arith, spares.many, sound.many, ap (λ (c : Configuration). c.workers) spares.config);
        shards = rw spares.config (spares.shards ∙ sound.shards);
        hand = sound.hand;
        genuine = λ r has. spares.genuine r (sound.genuine r has);
        aims = call_aims_apart c.place (length s.seats.items) (length s'.seats.items) spares.many sound.aims;
      }

  module _ (ws : List Worker) (cs : List Caller) (s : Shared B) (stands : StandTogether ws cs s) where
    apart_of : (i : ℕ) (w : Worker) → slice_get ws i ≡ Some w → (k : ℕ) (x : Worker) → slice_get ws k ≡ Some x → k ≢ i → x.index ≢ w.index
    apart_of i w there k x at other same = other (sym (stands.sound k x at).0 ∙ same ∙ (stands.sound i w there).0)

    -- each party has its part of the balances
    pub has_whole : (i : ℕ) (w : Worker) → slice_get ws i ≡ Some w → HasWhole w s
    has_whole i w there =
        let rest = others_of ws cs i w there (apart_of i w there) in
        record { others = rest.others; whole = subst (λ x. IsWhole x s) rest.now stands.whole; few = omega (arith, rest.few, stands.most, stands.few) }

    pub has_call_whole : (i : ℕ) (w : Worker) → slice_get ws i ≡ Some w → (j : ℕ) (c : Caller) → slice_get cs j ≡ Some c → HasCallWhole c s
    has_call_whole i w at j c there =
        let rest = others_of_caller ws cs j c there in
        record { others = rest.others; whole = subst (λ x. IsWhole x s) rest.now stands.whole; few = omega (arith, rest.few, stands.most, stands.few) }

    -- each seat is a worker's, so there is a place for the one message of each inbox
    pub have_mailboxes : HaveMailboxes s
    have_mailboxes j chair at =
        let inside : j < length s.seats.items = slice_get_within s.seats.items j chair at in
        let within : j < length ws = omega (arith, inside, stands.seats) in
        let w = there_within ws j within in
        let its = stands.sound j w.0 w.1 in
        let seated = its.1.seated in
        let same : seated.seat ≡ chair = same_Some seated.seat chair (sym seated.there ∙ ap (slice_get s.seats.items) its.0 ∙ at) in
        subst (λ (y : Chair). IsMailbox y.mailbox) same seated.mail

    -- A STEP OF WORKER i

    module _ (i : ℕ) (w w' : Worker) (s' : Shared B) (there : slice_get ws i ≡ Some w) (index : w'.index ≡ w.index) (sound : Sound w' s') (beside : Beside w s w' s') where
      mine : w.index ≡ i
      mine = (stands.sound i w there).0

      all : HoldsForAll s'
      all = holds_for_all w'.place w' s' sound

      spared_too : Spares (w.index + 1) s s'
      spared_too = beside.spares (w.index + 1) (λ e. no_other w.index (sym e))

      -- another worker, and itself
      another_sound : (k : ℕ) (x : Worker) → k ≢ i → slice_get ws k ≡ Some x → (x.index ≡ k) × Sound x s'
      another_sound k x other at =
          let its = stands.sound k x at in
          (its.0, apart x.place x s s' its.1 (with_more x.index s s' (beside.spares x.index (λ e. other (sym its.0 ∙ e ∙ mine)))) all)

      itself_sound : (k : ℕ) (x : Worker) → k ≡ i → slice_get (slice_set ws i w') k ≡ Some x → (x.index ≡ k) × Sound x s'
      itself_sound k x same at =
          let is : w' ≡ x = same_Some w' x (sym (set_there ws i w' w there) ∙ subst (λ n. slice_get (slice_set ws i w') n ≡ Some x) same at) in
          (sym (ap (λ (y : Worker). y.index) is) ∙ index ∙ mine ∙ sym same, subst (λ y. Sound y s') is sound)

      workers_sound : (k : ℕ) (x : Worker) → slice_get (slice_set ws i w') k ≡ Some x → (x.index ≡ k) × Sound x s'
      workers_sound k x at =
          by_number k i (λ other. another_sound k x other (sym (set_elsewhere ws i k w' other) ∙ at)) (λ same. itself_sound k x same at)

      whole_then : IsWhole (all_have (slice_set ws i w') cs) s'
      whole_then =
          let rest = others_of ws cs i w there (apart_of i w there) in
          subst (λ x. IsWhole x s') (sym (rest.all w' index)) (beside.whole rest.others (subst (λ x. IsWhole x s) rest.now stands.whole))

      pub worker_stepped : StandTogether (slice_set ws i w') cs s'
      worker_stepped =
          record {
            seats = length-set ws i w' ∙ stands.seats ∙ sym spared_too.many;
            few = stands.few;
            most = rw length-set stands.most;
            sound = workers_sound;
            calls = λ j c at. call_apart c (w.index + 1) s s' (stands.calls j c at) (with_more (w.index + 1) s s' spared_too) all.homes;
            whole = whole_then;
          }

    -- A STEP OF WORKER i THAT MADE WORKER v

    module _ (i : ℕ) (w w' v : Worker) (s' : Shared B) (e : Event) (there : slice_get ws i ≡ Some w) (index : w'.index ≡ w.index) (sound : Sound w' s') (beside : BesideNewcomer v w s e w' s') where
      held_for_all : HoldsForAll s'
      held_for_all = holds_for_all w'.place w' s' sound

      numbered : w.index ≡ i
      numbered = (stands.sound i w there).0

      its_number : v.index ≡ length ws
      its_number = beside.last ∙ sym stands.seats

      -- who was there before
      before_sound : (k : ℕ) (x : Worker) → slice_get (slice_set ws i w') k ≡ Some x → (x.index ≡ k) × Sound x s'
      before_sound k x at =
          by_number k i
          (λ other.
          let its = stands.sound k x (sym (set_elsewhere ws i k w' other) ∙ at) in
          (its.0, apart x.place x s s' its.1 (beside.spares x.index (λ e. other (sym its.0 ∙ e ∙ numbered))) held_for_all))
          (λ same.
          let is : w' ≡ x = same_Some w' x (sym (set_there ws i w' w there) ∙ subst (λ n. slice_get (slice_set ws i w') n ≡ Some x) same at) in
          (sym (ap (λ (y : Worker). y.index) is) ∙ index ∙ numbered ∙ sym same, subst (λ y. Sound y s') is sound))

      with_newcomer_sound : (k : ℕ) (x : Worker) → slice_get (slice_set ws i w' ++ v ∷ []) k ≡ Some x → (x.index ≡ k) × Sound x s'
      with_newcomer_sound k x at =
          elim (last_or_before (slice_set ws i w') k v x at) [
            | inl before ↦ before_sound k x before
            | inr last ↦ (
              sym (ap (λ (y : Worker). y.index) last.1) ∙ its_number ∙ sym (last.0 ∙ length-set ws i w'),
              subst (λ y. Sound y s') last.1 beside.sound,
            )
          ]

      distinct_from : (k : ℕ) (x : Worker) → slice_get (slice_set ws i w') k ≡ Some x → x.index ≢ v.index
      distinct_from k x at same =
          let within = slice_get_within (slice_set ws i w') k x at in
          let is = (before_sound k x at).0 in
          let many = length-set ws i w' in
          omega (arith, within, is, many, same, its_number)

      whole_with : IsWhole (all_have (slice_set ws i w' ++ v ∷ []) cs) s'
      whole_with =
          let rest = others_of ws cs i w there (apart_of i w there) in
          let among : w'.index ≢ v.index = λ same. (let within = slice_get_within ws i w there in omega (arith, within, index, numbered, its_number, same)) in
          let all : all_have (slice_set ws i w' ++ v ∷ []) cs ≡ with_worker (with_worker rest.others v) w' =
          all_with_last (slice_set ws i w') cs v distinct_from ∙ ap (λ o. with_worker o v) (rest.all w' index) ∙ swap_workers rest.others w' v among in
          subst (λ x. IsWhole x s') (sym all) (beside.whole rest.others (subst (λ x. IsWhole x s) rest.now stands.whole))

      pub worker_born : StandTogether (slice_set ws i w' ++ v ∷ []) cs s'
      worker_born =
          let many : length (slice_set ws i w' ++ v ∷ []) ≡ length s'.seats.items =
          length-append (slice_set ws i w') (v ∷ []) ∙ ap (λ n. n + 1) (length-set ws i w' ∙ stands.seats) ∙ add-one (length s.seats.items) ∙ sym beside.many in
          let apart_from : SparesMore (w.index + 1) s s' = beside.spares (w.index + 1) (λ e. no_other w.index (sym e)) in
          record {
            seats = many;
            few = stands.few;
            most = omega (arith, many, beside.few);
            sound = with_newcomer_sound;
            calls = λ j c at. call_apart c (w.index + 1) s s' (stands.calls j c at) apart_from held_for_all.homes;
            whole = whole_with;
          }

    -- A STEP OF CALLER j

    pub caller_stepped : (j : ℕ) (c c' : Caller) (s' : Shared B) → slice_get cs j ≡ Some c → CallSound c' s' → CallBeside c s c' s' → StandTogether ws (slice_set cs j c') s'
    caller_stepped j c c' s' there sound beside =
        let rest = others_of_caller ws cs j c there in
        record {
          seats = stands.seats ∙ sym (beside.spares 0).many;
          few = rw length-set stands.few;
          most = stands.most;
          sound = λ k x at.
              let its = stands.sound k x at in
              (its.0, apart x.place x s s' its.1 (with_more x.index s s' (beside.spares x.index)) (beside.for_all (holds_for_all x.place x s its.1)));
          calls = λ k d at.
              by_number k j
              (λ other. call_apart d 0 s s' (stands.calls k d (sym (set_elsewhere cs j k c' other) ∙ at)) (with_more 0 s s' (beside.spares 0)) sound.homes)
              (λ same.
              let is : c' ≡ d = cc (set_there cs j c' c there, subst (λ n. slice_get (slice_set cs j c') n ≡ Some d) same at) in
              subst (λ y. CallSound y s') is sound);
          whole = subst (λ x. IsWhole x s') (sym (rest.all c')) (beside.whole rest.others (subst (λ x. IsWhole x s) rest.now stands.whole));
        }
