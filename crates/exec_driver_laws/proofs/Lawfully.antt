-- What operations may end with at each moment of a run, and that the ring has that of each request with one under way.
use Rattle.std.proofs.Common.{◌≡◌, ℕ, zero, suc, ◌≤◌, ◌<◌, nat_le, Bool, true, false, not, ◌||◌, cond, List, [], ◌∷◌, Option, Some, None, refl, sym, ap, subst, ◌∙◌, inl, inr, arith}
use Rattle.exec_driver_laws.{proofs.{Words.{WaiterKey, false≢true, sum_by-cons, list_all, count_by, next_id, window_of, cursor_of, output_of, is_operation, is_of, with_entry, Moves, RingState, Store, user_data_of, named, Says, Reaped, StagesOne, completed_in, swept, permitted, landed_at, taken_in, newcomer, timed_out, queued_or_ended, placed_at, ended, Ended, Account, Slab, Id, OpResult, waiter_at, Waiter, Entry, Pending, WaiterId, Driving, request_at, is_flying, is_some, Observer, asked_of, Request, Submission, with_permit, taken_out, open_after, account_in, file_of, Deferred, OpenState, eqb_tells, same_Some}, Everywhere.{says_always, Holds, Others, each, became, written_all, filled_all, filled_but, finished_all, removed_all}, Passing.{ReapsThere, reap_tells, Passes, Rests, first_among, mild}, OwningRing.{entry_within, landed_within, next_within, swept_within}, OwningCalls.{flying_some, named_there, named_back, named_idle, idle_queued, kept_owned, granted_ring, placed_ring, Keeps, Quiet, Loses, Arrives, Comes, Goes, call_keeps, flew_before, same_ids}, OwningRuns.{always, names_operation}, Standing.{none_past, reads}}, specs.{Lawful.{asks_within, ends_within, is_within, AreWithin, CompletesLawfully, EndsLawfully}, Owning.{is_posted_of, is_staged_of, operations_in, IsOwned}, Sharing.{Gates, Call, Admit, Grant, Stage, Land, Reap, Other, CallsOne, AreFresh, IsRun, lets_out, end_by_reap}, Waiting.AreUnderWay}}

asks_alike : (flight : Option Submission) (given : OpResult) (r r' : Request) (st st' : Store) → Moves flight given r r' st st' → (asked_of r' ≡ asked_of r) × (cursor_of r' ≡ cursor_of r)
asks_alike = grind arith

-- nothing is within every window
none_of : {X : Type 0} (p q : X → Bool) (xs : List X) → count_by p xs ≡ 0 → list_all (λ x. not (p x) || q x) xs ≡ true
none_of p q [] none = refl
none_of p q (x ∷ xs) none = grind (arith, none_of p q xs, sum_by-cons (λ y. cond (p y) 1 0) x xs)

none_within : (ring : RingState) (user_data most : ℕ) → operations_in ring user_data ≡ 0 → is_within ring user_data most ≡ true
none_within ring user_data most none =
    let staged = none_of (is_staged_of user_data) (asks_within most) ring.staged (omega (arith, none)) in
    let flying = none_of (is_of user_data) (asks_within most) ring.flying (omega (arith, none)) in
    let posted = none_of (is_posted_of user_data) (ends_within most) ring.posted (omega (arith, none)) in
    grind (arith, staged, flying, posted)

no_more : (n m : ℕ) → n ≤ m → nat_le n m ≡ true
no_more = grind arith

while_so : (b x y : Bool) → (b ≡ true → x ≡ true → y ≡ true) → (not b || x) ≡ true → (not b || y) ≡ true
while_so = grind arith

module _ {S F : Type 0} (ring : RingState) where
  abbrev stands : WaiterId → Option (Waiter S F) → Bool
  stands id None = true
  stands id (Some w) = not w.in_flight || is_within ring (user_data_of id.0) (window_of (asked_of w.request) (cursor_of w.request))

  abbrev So : Driving S F → Type 0
  So d = Holds stands d.requests

  ended_so : (d : Driving S F) (id : WaiterId) (w : Waiter S F) (how : Ended) (account : Option Account) → Others stands id d.requests → So (ended d id w how account)
  ended_so d id w how account rest = finished_all stands (λ j. refl) id d.requests (output_of w.request how account) w.observer rest

  passes : (old : Driving S F) (worker : ℕ) (told : Option (WaiterKey × Ended)) (out : Option WaiterId) → Passes old (Rests old) worker told out (Holds stands)
  passes old worker told out =
      record {
        becomes = λ s id w w' at rests. became stands (λ j. refl) id s w w' at (λ so. rw (rests.flight, rests.request) so);
        ends = λ s id w how account at idle over all. finished_all stands (λ j. refl) id s (output_of w.request how account) w.observer (λ j other. all j);
        leaves = λ s id output at lets all. removed_all stands (λ j. refl) id s (λ j other. all j);
        room = λ s room all. all;
      }

  over_so : (d : Driving S F) (id : WaiterId) (w : Waiter S F) (how : Option Ended) (account : Option Account) → So d → So (queued_or_ended d id w how account)
  over_so = grind (arith, ended_so)

  placed_so : (old : Driving S F) (id : WaiterId) (r : Request) (observer : Observer S F) (now : ℕ) → next_id old.requests ≡ Some id.0 → So old → So (placed_at (taken_in old r observer) id (newcomer r observer) now)
  placed_so old id r observer now next all =
      let ends = ended_so (taken_in old r observer) id (newcomer r observer) timed_out None (filled_but stands (λ j. refl) id old.requests old.requests.vacant (Pending (newcomer r observer)) next all) in
      let comes = filled_all stands (λ j. refl) id old.requests old.requests.vacant (Pending (newcomer r observer)) next refl all in
      grind (arith, ends, comes)

  -- a completion was taken in
  reaped_so : (old new : Driving S F) (opens opens' : List OpenState) (before after : Deferred S F) (told : Option Reaped) (there : ReapsThere old new opens opens' before after told) → So there.first → So there.second
  reaped_so old new opens opens' before after told there all =
      let id = there.id in
      let w = there.w in
      let w' : Waiter S F = record w { in_flight = false; request = there.reaps.request } in
      let idle = became stands (λ j. refl) id there.first.requests w w' there.at (λ so. refl) all in
      subst So (sym there.reaps.driver) (over_so (landed_at (taken_out there.first) id w') id w' there.reaps.answer (open_after w there.given (account_in opens (file_of w.request))) idle)

module _ {S F : Type 0} where
  abbrev Within : Driving S F → Type 0
  Within d = Holds (stands d.ring) d.requests

  -- A call lets all operations go on or end lawfully, and no request asks for less; or one comes within what its request asks for.
  data Turns (old new : Driving S F) : Type 0 where
    Onward : EndsLawfully old.ring new.ring → Holds (stands old.ring) new.requests → Turns old new
    Enters : Within new → Turns old new

  turned : (old new : Driving S F) → IsOwned new → Turns old new → Within new
  turned old new owned (Enters within) j = within j
  turned old new owned (Onward lawful all) j = by (request_at new j) refl
    where
      by : (o : Option (Waiter S F)) → request_at new j ≡ o → stands new.ring j (request_at new j) ≡ true
      by None at = ap (stands new.ring j) at
      by (Some w) at = grind (arith, all j, lawful (user_data_of j.0) (window_of (asked_of w.request) (cursor_of w.request)) (names_operation j.0 (owned.names j w at)))

  only : (old new d : Driving S F) → new ≡ d → d.ring ≡ old.ring → Holds (stands old.ring) d.requests → Turns old new
  only old new d is ring all =
      subst (Turns old) (sym is) (Onward (λ user_data most operation was. subst (λ (r : RingState). is_within r user_data most ≡ true) (sym ring) was) all)

  -- an entry comes
  entry_so : (old : RingState) (e : Submission) (j : WaiterId) (o : Option (Waiter S F)) → ((v : Waiter S F) → o ≡ Some v → v.in_flight ≡ true → is_staged_of (user_data_of j.0) e ≡ false) → stands old j o ≡ true → stands (with_entry old e.window e.user_data) j o ≡ true
  entry_so old e j None apart so = refl
  entry_so old e j (Some v) apart so =
      while_so v.in_flight _ _ (λ flies. entry_within old e (user_data_of j.0) (window_of (asked_of v.request) (cursor_of v.request)) (λ own. absurd (false≢true (sym (apart v refl flies) ∙ own)))) so

  staged : (old new : Driving S F) (id : WaiterId) (w : Waiter S F) (account : Option Account) → request_at old id ≡ Some w → w.in_flight ≡ false → StagesOne old new id w account → IsOwned old → Within old → Within new
  staged old new id w account at idle stages owned all =
      let within : (j : WaiterId) (v : Waiter S F) → request_at old j ≡ Some v → j.0.index < 4294967296 = λ j v there. let few = owned.names j v there in omega (arith, few) in
      let none = named_idle old.requests id.0 w (within id w at) at idle in
      let few = rw none at (owned.owned (user_data_of id.0) (names_operation id.0 (owned.names id w at))) in
      let here = entry_within old.ring stages.entry (user_data_of id.0) (window_of (asked_of stages.request) (cursor_of stages.request)) (λ own. no_more _ _ stages.fits) (none_within old.ring (user_data_of id.0) _ (omega (arith, few))) in
      let apart : (j : WaiterId) (v : Waiter S F) → request_at old j ≡ Some v → v.in_flight ≡ true → is_staged_of (user_data_of j.0) stages.entry ≡ false = λ j v there flies.
      let own = named_back old.requests j.0 (within j v there) (ap is_flying there ∙ flies) in
      grind (arith, stages.user_data, none, own, eqb_tells) in
      subst Within (sym stages.driver)
      (written_all (stands (with_entry old.ring stages.entry.window stages.entry.user_data)) (λ j. refl) id old.requests (Pending (record w { in_flight = true; request = stages.request })) here (λ j other. entry_so old.ring stages.entry j (request_at old j) (apart j) (all j)))

  call_turns : (worker : ℕ) (old new : Driving S F) (g g' : Gates) → Call worker old new g g' → Says old → IsOwned old → Within old → Turns old new
  call_turns worker old new g g' (Admit id r observer now next within never admits leaving) says owned all =
      let w = newcomer r observer in
      let lawful = subst (λ (m : RingState). EndsLawfully old.ring (record m { places = new.ring.places })) (sym (placed_ring (taken_in old r observer) id w now)) (λ user_data most is was. was) in
      Onward (subst (EndsLawfully old.ring) (sym (ap (λ (m : Driving S F). m.ring) admits.driver)) lawful) (λ j. ap (λ (m : Driving S F). stands old.ring j (request_at m j)) admits.driver ∙ placed_so old.ring old id r observer now next all j)
  call_turns worker old new g g' (Grant before after file granted w at grants leaving) says owned all =
      let id = granted.id in
      let account = account_in g.opens (file_of w.request) in
      let holds = became (stands old.ring) (λ j. refl) id old.requests w (with_permit w) at (λ so. so) all in
      only old new _ (grants.grants w at).driver (granted_ring old id w granted.ended account) (over_so old.ring (permitted old id w) id (with_permit w) granted.ended account holds)
  call_turns worker old new g g' (Stage id w account first at stages same) says owned all =
      Enters (staged old new id w account at (idle_queued (request_at old id) w at (says.lists.queued id (first_among id old.lists.queued first))) stages owned all)
  call_turns worker old new g g' (Land id w given store store' at may lands same) says owned all =
      let alike = asks_alike _ given w.request lands.lands.request store store' lands.lands.moved in
      let so = became (stands old.ring) (λ j. refl) id old.requests w (record w { request = lands.lands.request }) at (grind (arith, alike)) all in
      Onward (subst (λ (d : Driving S F). EndsLawfully old.ring d.ring) (sym lands.driver) (landed_within old.ring (user_data_of id.0) given may)) (subst (Holds (stands old.ring)) (sym lands.lands.slab) so)
  call_turns worker old new g g' (Reap before after told reap leaving) says owned all =
      elim (reap_tells old new g.opens g'.opens before after told reap) [
        | inl none ↦ Onward none.lawful (subst (Holds (stands old.ring)) (sym none.requests) all)
        | inr there ↦ Onward there.lawful (subst (Holds (stands old.ring)) (sym there.end) (reaped_so old.ring old new g.opens g'.opens before after told there (subst (Holds (stands old.ring)) (sym there.start) all)))
      ]
  call_turns worker old new g g' (Other is keeps lawful places same) says owned all = Onward lawful (λ j. ap (λ (s : Slab (Entry S F)). stands old.ring j (waiter_at s j.0)) is ∙ all j)
  call_turns worker old new g g' other says owned all =
      let kept = mild old (λ w w' rests. rests) worker None (lets_out other) (Holds (stands old.ring)) (passes old.ring old worker None (lets_out other)) new g g' other refl refl all in
      Onward (subst (EndsLawfully old.ring) (sym kept.0) (λ user_data most operation was. was)) kept.1

  within_all : (d : Driving S F) → AreWithin d → Within d
  within_all = grind arith

  all_within : (d : Driving S F) → Within d → AreWithin d
  all_within d all id w at flies = grind (arith, all id, at, flies)

  pub kept : (drivers drivers' : ℕ → Driving S F) (g g' : Gates) → CallsOne drivers drivers' g g' → ((i : ℕ) → Says (drivers i)) → ((i : ℕ) → IsOwned (drivers i)) → ((i : ℕ) → AreWithin (drivers i)) → (i : ℕ) → AreWithin (drivers' i)
  kept drivers drivers' g g' calls says owned within =
      let old = drivers calls.worker in
      let new = drivers' calls.worker in
      let turns = call_turns calls.worker old new g g' calls.call (says calls.worker) (owned calls.worker) (within_all old (within calls.worker)) in
      each AreWithin calls (all_within new (turned old new (kept_owned calls.worker old new g g' calls.call (says calls.worker) (owned calls.worker)) turns)) within

  none_at_first : (drivers : ℕ → Driving S F) (g : Gates) → AreFresh drivers g → (i : ℕ) → AreWithin (drivers i)
  none_at_first = grind (arith, none_past, reads)

  pub within_always : (drivers : ℕ → ℕ → Driving S F) (gates : ℕ → Gates) → IsRun drivers gates → (n i : ℕ) → AreWithin (drivers n i)
  within_always drivers gates run zero i = none_at_first (drivers 0) (gates 0) run.first i
  within_always drivers gates run (suc n) i = kept (drivers n) (drivers (suc n)) (gates n) (gates (suc n)) (run.next n) (says_always drivers gates run n) (always drivers gates run n) (within_always drivers gates run n) i

  -- a completion of an operation under way is taken in
  completes : (d : Driving S F) → IsOwned d → AreWithin d → CompletesLawfully d
  completes d owned within c next named_so = by (named d.requests c.user_data) refl named_so
    where
      by : (o : Option Id) → named d.requests c.user_data ≡ o → is_some o ≡ true → is_some (completed_in d c) ≡ true
      by None none some = absurd (false≢true some)
      by (Some id) at some =
          let there = named_there d.requests c.user_data id at in
          let w = flying_some (waiter_at d.requests id) there.1 in
          let who : WaiterId = record { 0 = id } in
          let is = subst (λ (n : ℕ). is_operation n ≡ true) there.2 (names_operation id (owned.names who w.0 w.1)) in
          let most = window_of (asked_of w.0.request) (cursor_of w.0.request) in
          let was = subst (λ (n : ℕ). is_within d.ring n most ≡ true) there.2 (within who w.0 w.1 w.2) in
          let so = next_within (swept d).ring c most is next (swept_within d.ring.posted d c.user_data most is was) in
          grind (arith, at, w, so)

  pub lawfully : (drivers : ℕ → ℕ → Driving S F) (gates : ℕ → Gates) → IsRun drivers gates → (n i : ℕ) → CompletesLawfully (drivers n i)
  lawfully drivers gates run n i = completes (drivers n i) (always drivers gates run n i) (within_always drivers gates run n i)

module _ {S F : Type 0} where
  abbrev Flown : Driving S F → Type 0
  Flown d = (id : WaiterId) → is_flying (request_at d id) ≡ true → 1 ≤ operations_in d.ring (user_data_of id.0)

  own : (d : Driving S F) → IsOwned d → (id : WaiterId) → is_flying (request_at d id) ≡ true → (is_operation (user_data_of id.0) ≡ true) × (named d.requests (user_data_of id.0) ≡ Some id.0)
  own d owned id flies =
      let w = flying_some (request_at d id) flies in
      let within = owned.names id w.0 w.1 in
      (names_operation id.0 within, named_back d.requests id.0 (omega (arith, within)) flies)

  call_flown : (worker : ℕ) (old new : Driving S F) (told : Option (WaiterKey × Ended)) → Keeps worker old new told → IsOwned old → CompletesLawfully old → Flown old → Flown new
  call_flown worker old new told (Quiet keeps on) owned lawful flown id flies =
      let was = flew_before (request_at old id) (request_at new id) (on id.0) flies in
      let same = keeps (user_data_of id.0) (own old owned id was).0 in
      omega (arith, flown id was, same)
  call_flown worker old new told (Loses drops on) owned lawful flown id flies =
      let was = flew_before (request_at old id) (request_at new id) (on id.0) flies in
      let here = own old owned id was in
      let fewer = drops.ring (user_data_of id.0) here.0 in
      elim (eqb_tells drops.c.user_data (user_data_of id.0)) [
        | inl mine ↦ absurd (false≢true (ap is_some (sym drops.none) ∙ lawful drops.c drops.next (ap (λ (n : ℕ). is_some (named old.requests n)) mine.1 ∙ ap is_some here.1)))
        | inr other ↦ omega (arith, flown id was, rw other.0 at fewer)
      ]
  call_flown worker old new told (Arrives who within keeps free others idle) owned lawful flown id flies =
      elim (eqb_tells id.0.index who.0.index) [
        | inl same ↦ absurd (false≢true (sym (idle id.0 same.1) ∙ flies))
        | inr other ↦
            let was = ap is_flying (sym (others id.0 other.1)) ∙ flies in
            let same = keeps (user_data_of id.0) (own old owned id was).0 in
            omega (arith, flown id was, same)
      ]
  call_flown worker old new told (Comes who w there idle flying others count) owned lawful flown id flies =
      let more = count (user_data_of id.0) in
      elim (eqb_tells (user_data_of who.0) (user_data_of id.0)) [
        | inl mine ↦ omega (arith, rw mine.0 at more)
        | inr apart ↦ omega (arith, rw apart.0 at more, flown id (ap is_flying (sym (others id.0 (λ same. apart.1 (ap user_data_of (sym same))))) ∙ flies))
      ]
  call_flown worker old new told (Goes who flying idle others ends count) owned lawful flown id flies =
      elim (same_ids id.0 who.0) [
        | inl same ↦ absurd (false≢true (sym idle ∙ ap (λ (n : Id). is_flying (waiter_at new.requests n)) (sym same) ∙ flies))
        | inr other ↦
            let was = ap is_flying (sym (others id.0 other)) ∙ flies in
            let here = own old owned id was in
            let less = count (user_data_of id.0) here.0 in
            elim (eqb_tells (user_data_of who.0) (user_data_of id.0)) [
              | inl mine ↦ absurd (other (same_Some id.0 who.0 (sym here.1 ∙ ap (named old.requests) (sym mine.1) ∙ (own old owned who flying).1)))
              | inr apart ↦ omega (arith, rw apart.0 at less, flown id was)
            ]
      ]

  none_flies : (drivers : ℕ → Driving S F) (g : Gates) → AreFresh drivers g → (i : ℕ) (id : WaiterId) → is_flying (request_at (drivers i) id) ≡ false
  none_flies = grind (arith, none_past, reads)

  flown_always : (drivers : ℕ → ℕ → Driving S F) (g : ℕ → Gates) → IsRun drivers g → ((n i : ℕ) → CompletesLawfully (drivers n i)) → (n i : ℕ) → Flown (drivers n i)
  flown_always drivers g run lawful zero i = λ id flies. absurd (false≢true (sym (none_flies (drivers 0) (g 0) run.first i id) ∙ flies))
  flown_always drivers g run lawful (suc n) i =
      let calls = run.next n in
      let before = flown_always drivers g run lawful n in
      let keeps = call_keeps calls.worker _ _ _ _ calls.call (says_always drivers g run n calls.worker) in
      each Flown calls (call_flown calls.worker _ _ (end_by_reap calls.call) keeps (always drivers g run n calls.worker) (lawful n calls.worker) (before calls.worker)) before i

  pub under_way : (drivers : ℕ → ℕ → Driving S F) (g : ℕ → Gates) → IsRun drivers g → (n i : ℕ) → AreUnderWay (drivers n i)
  under_way drivers g run n i id w at flies =
      let there = ap is_flying at ∙ flies in
      let owned = always drivers g run n i in
      let here = own (drivers n i) owned id there in
      let few = owned.owned (user_data_of id.0) here.0 in
      omega (arith, flown_always drivers g run (lawfully drivers g run) n i id there, rw here.1 at few)
