-- What a sweep passes of the completions in front, and the first that is of an operation.
use Rattle.exec_invariants.proofs.{Words.{[], ◌≡◌, ℕ, zero, suc, ◌&&◌, Bool, true, false, List, ◌∷◌, ◌++◌, Some, None, refl, sym, ap, ◌∙◌, replicate, false≢true, append_assoc, append-nil, flat_map, arith, wake_completion, next_completion, reaped, is_quiet, RingState, completions, spelled, Completion, Posted, Driving, is_control, noted, swept, swept_from}, Behind.{after_controls, armed_through}}

-- A SWEEP

skip_wakes : (n : ℕ) (cs : List Completion) → after_controls (replicate n (wake_completion true) ++ cs) ≡ after_controls cs
skip_wakes zero cs = refl
skip_wakes (suc n) cs = skip_wakes n cs

armed_past : (n : ℕ) (cs : List Completion) (a : Bool) → armed_through (replicate n (wake_completion true) ++ cs) a ≡ armed_through cs a
armed_past zero cs a = refl
armed_past (suc n) cs a = grind (arith, armed_through, armed_past n cs (a && true))

-- of these entries and so many wakes
abbrev spelled_all : List Posted → ℕ → List Completion
spelled_all ps n = flat_map spelled ps ++ replicate n (wake_completion true)

one_spelled : (p : Posted) (ps : List Posted) (n : ℕ) → spelled_all (p ∷ ps) n ≡ replicate p.wakes (wake_completion true) ++ (p.completion ∷ spelled_all ps n)
one_spelled = grind (arith, append_assoc)

module _ {S F : Type 0} where
  pub record SweepsTo (d d' : Driving S F) : Type 0 where
    pub shape : d' ≡ record d { ring = record d.ring { posted = d'.ring.posted; wakes = d'.ring.wakes }; cancels_under_way = d'.cancels_under_way; armed = d'.armed }
    pub left : completions d'.ring ≡ after_controls (completions d.ring)
    pub armed : d'.armed ≡ armed_through (completions d.ring) d.armed

  record SweepsFrom (ps : List Posted) (d d' : Driving S F) : Type 0 where
    pub shape : d' ≡ record d { ring = record d.ring { posted = d'.ring.posted; wakes = d'.ring.wakes }; cancels_under_way = d'.cancels_under_way; armed = d'.armed }
    pub left : completions d'.ring ≡ after_controls (spelled_all ps d.ring.wakes)
    pub armed : d'.armed ≡ armed_through (spelled_all ps d.ring.wakes) d.armed

  sweeps_from : (ps : List Posted) (d : Driving S F) → SweepsFrom ps d (swept_from ps d)
  sweeps_from [] d =
      assumption (sym (ap after_controls (sym (append-nil (replicate d.ring.wakes (wake_completion true)))) ∙ skip_wakes d.ring.wakes []), sym (ap (λ cs. armed_through cs d.armed) (sym (append-nil (replicate d.ring.wakes (wake_completion true)))) ∙ armed_past d.ring.wakes [] d.armed))
  sweeps_from (p ∷ ps) d = grind (arith, after_controls, one_spelled, skip_wakes, armed_through, armed_past, sweeps_from ps (noted p.completion d))

  pub sweeps : (d : Driving S F) → SweepsTo d (swept d)
  sweeps d = let it = sweeps_from d.ring.posted d in record { shape = it.shape; left = it.left; armed = it.armed }

-- THE FIRST COMPLETION, where that is of an operation

pub record FirstThere (r : RingState) (c : Completion) (rest : List Completion) : Type 0 where
  pub next : next_completion r ≡ Some c
  pub left : completions (reaped r) ≡ rest

pub first_there : (ps : List Posted) (r : RingState) (c : Completion) (rest : List Completion) → r.posted ≡ ps → completions r ≡ c ∷ rest → is_control c ≡ false → FirstThere r c rest
first_there [] r c rest is all operates = by r.wakes (ap (λ xs. spelled_all xs r.wakes) (sym is) ∙ all)
  where
    by : (n : ℕ) → replicate n (wake_completion true) ≡ c ∷ rest → FirstThere r c rest
    by zero h = absurd (cc)
    by (suc n) h =
        let woke : wake_completion true ≡ c = cc in
        absurd (false≢true (sym (ap is_control woke ∙ operates)))
first_there (p ∷ ps) r c rest is all operates = by p.wakes refl (sym (one_spelled p ps r.wakes) ∙ ap (λ xs. spelled_all xs r.wakes) (sym is) ∙ all)
  where
    by : (n : ℕ) → p.wakes ≡ n → replicate n (wake_completion true) ++ (p.completion ∷ spelled_all ps r.wakes) ≡ c ∷ rest → FirstThere r c rest
    by zero none h =
        record { next = rw (is, none) (ap (λ x. Some x) cc); left = rw (is, none) cc }
    by (suc n) some h =
        let woke : wake_completion true ≡ c = cc in
        absurd (false≢true (sym (ap is_control woke ∙ operates)))

pub none_there : (ps : List Posted) (r : RingState) → r.posted ≡ ps → completions r ≡ [] → (next_completion r ≡ None) × (is_quiet r ≡ true)
none_there [] r is all = by r.wakes refl (ap (λ xs. spelled_all xs r.wakes) (sym is) ∙ all)
  where
    by : (n : ℕ) → r.wakes ≡ n → replicate n (wake_completion true) ≡ [] → (next_completion r ≡ None) × (is_quiet r ≡ true)
    by zero none h = (rw (is, none) refl, rw (is, none) refl)
    by (suc n) some h = absurd (cc)
none_there (p ∷ ps) r is all = by p.wakes (sym (one_spelled p ps r.wakes) ∙ ap (λ xs. spelled_all xs r.wakes) (sym is) ∙ all)
  where
    by : (n : ℕ) → replicate n (wake_completion true) ++ (p.completion ∷ spelled_all ps r.wakes) ≡ [] → (next_completion r ≡ None) × (is_quiet r ≡ true)
    by zero h = absurd (cc)
    by (suc n) h = absurd (cc)
