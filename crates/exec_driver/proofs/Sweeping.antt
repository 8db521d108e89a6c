-- Completions of no operation are swept away one after the other.
use Rattle.std.proofs.{Common.{◌≡◌, ℕ, ltb, ◌-◌, Bool, true, false, cond, List, [], ◌∷◌, Option, Some, None, refl, sym, ap, ◌∙◌, arith}, Math.Bool.and-true}
use Rattle.exec_driver.{proofs.Words.{false≢true, ltb-false, Landing, next_in, next_completion, wake_completion, Completion, Posted, Driving, is_control, noted, taken_out, cases_Bool}, specs.Steps.{is_next_control, swept_from, swept, after_next_control}}

pub none_left : (w : ℕ) → ltb 0 w ≡ false → w ≡ 0
none_left w is = let no = ltb-false 0 w is in omega (arith, no)

module _ {S F : Type 0} where
  -- the driver with these completions
  abbrev having : Driving S F → List Posted → ℕ → Driving S F
  having d ps w = record d { ring = record d.ring { posted = ps; wakes = w } }

  either_way : (b : Bool) (x x' y y' : Driving S F) (fs : List Landing) → record x { landings = fs } ≡ record x' { landings = fs } → record y { landings = fs } ≡ record y' { landings = fs } → record (cond b x y) { landings = fs } ≡ record (cond b x' y') { landings = fs }
  either_way = grind arith

  -- what was posted before, and what else ends, decides nothing
  alike : (ps : List Posted) (d : Driving S F) (q : List Posted) (ls fs : List Landing) → record (swept_from ps (record d { ring = record d.ring { posted = q }; landings = ls })) { landings = fs } ≡ record (swept_from ps d) { landings = fs }
  alike [] d q ls fs = refl
  alike (p ∷ ps) d q ls fs = either_way (is_control p.completion) _ _ _ _ fs (alike ps (noted p.completion d) q ls fs) refl

  swept_by : (b : Bool) (k : ℕ) (p : Posted) (ps : List Posted) (w : ℕ) (d : Driving S F) (ls fs : List Landing) → is_control (cond b (wake_completion true) p.completion) ≡ true → record (swept (record (cond (is_control (cond b (wake_completion true) p.completion)) (noted (cond b (wake_completion true) p.completion) (having d (cond b (record p { wakes = k } ∷ ps) ps) w)) (having d (p ∷ ps) w)) { landings = ls })) { landings = fs } ≡ record (swept (having d (p ∷ ps) w)) { landings = fs }
  swept_by false k p ps w d ls fs is = rw is (alike ps (noted p.completion (having d (p ∷ ps) w)) ps ls fs)
  swept_by true k p ps w d ls fs is =
      ap (λ (b : Bool). record (swept (record (having d (record p { wakes = k } ∷ ps) w) { armed = b; landings = ls })) { landings = fs }) (and-true d.armed)
      ∙ either_way (is_control p.completion) _ _ _ _ fs (alike ps (noted p.completion (having d (p ∷ ps) w)) (record p { wakes = k } ∷ ps) ls fs) refl

  swept_wakes : (b : Bool) (w : ℕ) (d : Driving S F) (ls fs : List Landing) → is_next_control (cond b (Some (wake_completion true)) None) ≡ true → record (swept (record (after_next_control (having d [] w) (cond b (Some (wake_completion true)) None)) { landings = ls })) { landings = fs } ≡ record (swept (having d [] w)) { landings = fs }
  swept_wakes true w d ls fs is = ap (λ (b : Bool). record (having d [] 0) { armed = b; landings = fs }) (and-true d.armed)
  swept_wakes false w d ls fs is = absurd (false≢true is)

  step_by : (ps : List Posted) (w : ℕ) (d : Driving S F) (ls fs : List Landing) → is_next_control (next_in ps w) ≡ true → record (swept (record (after_next_control (having d ps w) (next_in ps w)) { landings = ls })) { landings = fs } ≡ record (swept (having d ps w)) { landings = fs }
  step_by [] w d ls fs is = swept_wakes (ltb 0 w) w d ls fs is
  step_by (p ∷ ps) w d ls fs is = swept_by (ltb 0 p.wakes) (p.wakes - 1) p ps w d ls fs is

  still_by : (b : Bool) (p : Posted) (ps : List Posted) (w : ℕ) (d : Driving S F) → ltb 0 p.wakes ≡ b → is_control (cond b (wake_completion true) p.completion) ≡ false → swept (having d (p ∷ ps) w) ≡ having d (p ∷ ps) w
  still_by = grind (arith, none_left)

  still_wakes : (b : Bool) (w : ℕ) (d : Driving S F) → ltb 0 w ≡ b → is_next_control (cond b (Some (wake_completion true)) None) ≡ false → swept (having d [] w) ≡ having d [] w
  still_wakes = grind (arith, none_left)

  still : (ps : List Posted) (w : ℕ) (d : Driving S F) → is_next_control (next_in ps w) ≡ false → swept (having d ps w) ≡ having d ps w
  still [] w d is = still_wakes (ltb 0 w) w d refl is
  still (p ∷ ps) w d is = still_by (ltb 0 p.wakes) p ps w d refl is

  after_other : (d : Driving S F) (o : Option Completion) → is_next_control o ≡ false → after_next_control d o ≡ d
  after_other = grind arith

  -- the sweep of one makes of it what that of the other does, but for what else ends
  pub record SweepsAlike (d first : Driving S F) : Type 0 where
    pub swept_alike : (fs : List Landing) → record (swept d) { landings = fs } ≡ record (swept first) { landings = fs }

  pub sweeps_on : (d d' first : Driving S F) → is_next_control (next_completion d.ring) ≡ true → d' ≡ record (after_next_control d (next_completion d.ring)) { landings = d'.landings } → SweepsAlike d first → SweepsAlike d' first
  sweeps_on d d' first is taken so =
      record {
        swept_alike = λ fs. ap (λ (e : Driving S F). record (swept e) { landings = fs }) taken ∙ step_by d.ring.posted d.ring.wakes d d'.landings fs is ∙ so.swept_alike fs;
      }

  pub all_swept : (d d' first : Driving S F) → is_next_control (next_completion d.ring) ≡ false → d' ≡ record (after_next_control d (next_completion d.ring)) { landings = d'.landings } → SweepsAlike d first → d' ≡ record (swept first) { landings = d'.landings }
  all_swept d d' first is taken so = grind (arith, taken, after_other d (next_completion d.ring) is, still d.ring.posted d.ring.wakes d is, so.swept_alike d'.landings)

  -- what is swept has no completion of no operation before the first of one
  after_sweep : (ps : List Posted) (d : Driving S F) → is_next_control (next_completion (swept_from ps d).ring) ≡ false
  after_sweep [] d = refl
  after_sweep (p ∷ ps) d = grind (arith, cases_Bool, is_control, noted, after_sweep ps (noted p.completion d))

  pub operation_next : (first d : Driving S F) (c : Completion) → first ≡ record (swept d) { landings = first.landings } → next_completion first.ring ≡ Some c → is_control c ≡ false
  operation_next first d c is next = ap is_next_control (sym next) ∙ ap (λ (e : Driving S F). is_next_control (next_completion e.ring)) is ∙ after_sweep d.ring.posted d

  pub stale_swept : (first second new : Driving S F) → second ≡ record (taken_out first) { landings = second.landings } → new ≡ record (swept second) { landings = new.landings } → new ≡ record (swept (taken_out first)) { landings = new.landings }
  stale_swept = grind (arith, alike, taken_out)
