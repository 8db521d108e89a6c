-- Requests that are alike for one worker: those of its own are over as before, and none more is staged. What events leave so.
use Rattle.std.{proofs.{Common.{◌≡◌, ℕ, suc, ◌<◌, ◌≤◌, ◌==◌, Bool, true, false, ◌&&◌, ◌||◌, List, [], ◌∷◌, length, map, get_or, set, Option, Some, None, refl, sym, ap, ◌∙◌, subst, arith}, lemmas.{Bool.{false≢true, and_parts, eqb-true, ltb-true, ltb-false, ne_eqb}, List.get_or_past}}, specs.{Prelude.{nat_lt, not}, List.list_any}}
use Rattle.exec_machine.specs.{declared.{config.Configuration.Configuration, event.Event.{Event, Event as event}, state.{Next.Next, Request.Request, RequestPhase.RequestPhase}}, After.common_after, Choice.{Choice, Payer, Choice.{Passes, Pays, Plain, Posts}, Payer.{ByAct, ByCall, ByRequest, BySleeper, ByStop}}, Closing.after_next, Requests.flown, Tasks.after_payment, Tests.{is_flying, is_resolved, is_staged}, World.{Common, Own as Books, no_request, request_of}}
use Rattle.exec_moves.specs.Callback.{has_requests}
use Rattle.exec_books.proofs.{Own.IsOwn, Spares.{new_one, same_worker, spares}}
use Rattle.exec_settled.{specs.Settled.HasEntered, proofs.SettledPlaces.is_plain}
use Rattle.exec_rest.proofs.Others.{map_like, set_like}

-- whether some element passes a test, where each passes it as before, and none past the end does
any_same : {X : Type 0} (test : X → Bool) (d : X) → test d ≡ false → (xs ys : List X) → ((n : ℕ) → test (get_or ys n d) ≡ test (get_or xs n d)) → list_any test ys ≡ list_any test xs
any_same test d none [] [] each = refl
any_same test d none [] (y ∷ ys) each = rw (each 0 ∙ none) (any_same test d none [] ys (λ n. each (suc n)))
any_same test d none (x ∷ xs) [] each = rw (sym (each 0) ∙ none) (any_same test d none xs [] (λ n. each (suc n)))
any_same test d none (x ∷ xs) (y ∷ ys) each = rw (each 0) (ap (λ b. test x || b) (any_same test d none xs ys (λ n. each (suc n))))

-- a request of worker i that isn't over, or is staged
abbrev pub is_live : ℕ → Request → Bool
is_live i r = (r.worker == i) && not (is_resolved r.phase)

abbrev pub is_standing : ℕ → Request → Bool
is_standing i r = (r.worker == i) && is_staged r.phase

pub record Alike (i : ℕ) (x y : Request) : Type 0 where
  pub live : is_live i y ≡ is_live i x
  pub standing : is_standing i y ≡ true → is_standing i x ≡ true

pub itself : (i : ℕ) (x : Request) → Alike i x x
itself i x = record { live = refl; standing = λ h. h }

abbrev pub AreAlike : ℕ → List Request → List Request → Type 0
AreAlike i rs qs = (n : ℕ) → Alike i (get_or rs n no_request) (get_or qs n no_request)

-- so it is where all requests are the same
pub all_same : (i : ℕ) (rs qs : List Request) → qs ≡ rs → AreAlike i rs qs
all_same i rs qs is n = subst (λ q. Alike i (get_or rs n no_request) (get_or q n no_request)) (sym is) (itself i (get_or rs n no_request))

-- none that isn't there is live
no_live : (i : ℕ) → is_live i no_request ≡ false
no_live = grind arith

module _ (i : ℕ) (s t : Common) (alike : AreAlike i s.requests t.requests) where
  pub requests_then : has_requests i t ≡ has_requests i s
  requests_then = any_same (is_live i) no_request (no_live i) s.requests t.requests (λ n. (alike n).live)

  pub entered_then : (me mine : Books) → mine.untold ≡ me.untold → HasEntered i me s → HasEntered i mine t
  entered_then = grind arith

pub flying_live : (p : RequestPhase) → is_flying p ≡ true → is_resolved p ≡ false
flying_live = grind arith

-- one that isn't over has another phase in which it is neither over nor staged
pub moves_on : (j : ℕ) (x : Request) (p : RequestPhase) → is_resolved x.phase ≡ false → is_resolved p ≡ false → is_staged p ≡ false → Alike j x (record x { phase = p })
moves_on = grind arith

flew : (i j : ℕ) (x : Request) → Alike j x (flown i x)
flew = grind arith

-- after an enter none of its own is staged
pub none_staged : (i : ℕ) (rs : List Request) (n : ℕ) → (get_or (map (flown i) rs) n no_request).worker ≡ i → is_staged (get_or (map (flown i) rs) n no_request).phase ≡ false
none_staged i rs n = map_like (λ (x y : Request). y.worker ≡ i → is_staged y.phase ≡ false) (flown i) no_request (λ own. refl) each rs n
  where
    each : (x : Request) → (flown i x).worker ≡ i → is_staged (flown i x).phase ≡ false
    each = grind arith

module _ (c : Configuration) (me : Books) (s : Common) (i : ℕ) where
  turned : (j : ℕ) (next : Next) → AreAlike j s.requests (after_next s i next).requests
  turned = grind arith

  -- put back with as much
  put_back : (j r : ℕ) (y : Request) → Alike j (request_of s r) y → AreAlike j s.requests (set s.requests r y)
  put_back j r y like n = set_like (Alike j) (itself j) s.requests r n y no_request like

  paid : (j : ℕ) (polls : Option ℕ) (payer : Payer) → AreAlike j s.requests (after_payment s polls payer).requests
  paid j polls (ByRequest r) = put_back j r _ (record { live = refl; standing = λ h. h })
  paid j polls (BySleeper z) = all_same j s.requests _ refl
  paid j None ByAct = all_same j s.requests _ refl
  paid j (Some t) ByAct = all_same j s.requests _ refl
  paid j polls ByCall = all_same j s.requests _ refl
  paid j polls ByStop = all_same j s.requests _ refl

  pub plain_alike : (e : Event) (choice : Choice) → is_plain e ≡ true → (j : ℕ) → AreAlike j s.requests (common_after c me s i e choice).requests
  plain_alike event.Turn Passes plain j = all_same j s.requests _ refl
  plain_alike event.Turn Plain plain j = turned j me.next
  plain_alike event.Turn (Pays payer) plain j = turned j me.next
  plain_alike event.Turn (Posts payer left) plain j = turned j me.next
  plain_alike event.Enter choice plain j = map_like (Alike j) (flown i) no_request (itself j no_request) (flew i j) s.requests
  plain_alike event.Busy choice plain j = all_same j s.requests _ refl
  plain_alike (event.Wake t) (Pays payer) plain j = paid j me.polls payer
  plain_alike (event.Wake t) Plain plain j = all_same j s.requests _ refl
  plain_alike (event.Wake t) Passes plain j = all_same j s.requests _ refl
  plain_alike (event.Wake t) (Posts payer left) plain j = all_same j s.requests _ refl
  plain_alike (event.Release r) choice plain j = put_back j r _ (record { live = refl; standing = λ h. h })
  plain_alike (event.Rouse other) choice plain j = all_same j s.requests _ refl
  plain_alike (event.Sleep until) choice plain j = all_same j s.requests _ refl
  plain_alike _ choice plain j = absurd (false≢true plain)

  -- AN EVENT OF WORKER I, for another one
  module _ (e : Event) (choice : Choice) (own : IsOwn s i e) (k : ℕ) (apart : k ≡ i → ⊥) where
    abbrev late : Common
    late = common_after c me s i e choice

    -- two that are of other workers
    foreign : (x y : Request) → (x.worker == k) ≡ false → (y.worker == k) ≡ false → Alike k x y
    foreign x y one other = record { live = rw (one, other) refl; standing = λ h. absurd (false≢true (sym other ∙ (and_parts (y.worker == k) (is_staged y.phase) h).0)) }

    both : (x y : Request) → y.worker ≡ x.worker → y.phase ≡ x.phase → Alike k x y
    both x y worker phase = record { live = rw (worker, phase) refl; standing = λ h. rw (← worker, ← phase) h }

    within : (n : ℕ) → n < length s.requests → (b : Bool) → ((request_of s n).worker == k) ≡ b → Alike k (request_of s n) (request_of late n)
    within n less true is =
        let worker = same_worker c me s i e choice n less in
        both (request_of s n) (request_of late n) worker (spares c me s i e choice own n less (λ h. apart (sym (eqb-true (request_of s n).worker k is) ∙ h))).phase
    within n less false is = foreign (request_of s n) (request_of late n) is (ap (λ w. w == k) (same_worker c me s i e choice n less) ∙ is)

    -- past those of before: one that the worker made, or none
    past : (n : ℕ) → length s.requests ≤ n → (b : Bool) → nat_lt n (length late.requests) ≡ b → Alike k (request_of s n) (request_of late n)
    past n long b is = subst (λ x. Alike k x (request_of late n)) (sym (get_or_past s.requests n no_request long)) (new (request_of late n) (made b is))
      where
        new : (y : Request) → (is_live k y ≡ false) × (is_standing k y ≡ false) → Alike k no_request y
        new y calm = record { live = calm.0 ∙ sym (no_live k); standing = λ h. absurd (false≢true (sym calm.1 ∙ h)) }

        made : (b : Bool) → nat_lt n (length late.requests) ≡ b → (is_live k (request_of late n) ≡ false) × (is_standing k (request_of late n) ≡ false)
        made true less =
            let worker = new_one c me s i e choice n long (ltb-true n (length late.requests) less) in
            let other : ((request_of late n).worker == k) ≡ false = ne_eqb (request_of late n).worker k (λ h. apart (sym h ∙ worker)) in
            (rw other refl, rw other refl)
        made false more =
            let gone = get_or_past late.requests n no_request (omega (arith, ltb-false n (length late.requests) more)) in
            (ap (is_live k) gone ∙ no_live k, ap (is_standing k) gone ∙ no_live k)

    pub other_alike : AreAlike k s.requests late.requests
    other_alike n = by (nat_lt n (length s.requests)) refl
      where
        by : (b : Bool) → nat_lt n (length s.requests) ≡ b → Alike k (request_of s n) (request_of late n)
        by true less = within n (ltb-true n (length s.requests) less) ((request_of s n).worker == k) refl
        by false long = past n (omega (arith, ltb-false n (length s.requests) long)) (nat_lt n (length late.requests)) refl
