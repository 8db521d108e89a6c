-- Quiet lines one after another, those of workers and those of callers apart: where neither are as many as the bound, no party makes so many.
use Rattle.std.proofs.Common.{◌≡◌, arith, ℕ, ◌<◌, ◌≤◌, Bool, true, false, ◌&&◌, if◌then◌else◌, List, [], ◌∷◌, refl, subst}
use Rattle.exec_run.{proofs.Names.{Told, Plan, after_line, Playing, by_step, nat_lt, and_from, and_parts, lt-ltb, ltb-true, Configuration, Line, StepResult, Did, Refused, Action, Choice, Party, Caller, Nobody, Worker, Stretch, is_quiet_step, is_solo, longer, no_stretch, one_more, party_of, quiet_bound, World}, specs.Steps.IsStep}

-- Where a line of a log leads.

pub leads_there : (p : Plan) (x : Playing) (it : Told) → IsStep p x it → (by_step p.config x it.0.action).next.world ≡ after_line p.config x.world it.0.action it.0.said it.1
leads_there = grind arith

abbrev pub is_caller : Party → Bool
is_caller (Caller j) = true
is_caller _ = false

abbrev pub is_worker : Party → Bool
is_worker (Worker i) = true
is_worker _ = false

-- the stretch of parties of one kind after one more line: one of any other ends it
abbrev pub longer_of : (Party → Bool) → World → Action → StepResult → Stretch → Stretch
longer_of mine w a Refused s = s
longer_of mine w a (Did e) s = if mine (party_of a) && is_quiet_step w (Did e) then one_more (party_of a) s else no_stretch

-- no stretch of one of them is as long as the bound
abbrev pub ends : (Party → Bool) → Configuration → World → Stretch → List Line → List Choice → Bool
ends mine c w s [] choices = true
ends mine c w s (l ∷ ls) [] = true
ends mine c w s (l ∷ ls) (choice ∷ choices) =
    nat_lt (longer_of mine w l.action l.said s).count (quiet_bound c w)
    && ends mine c (after_line c w l.action l.said choice) (longer_of mine w l.action l.said s) ls choices

-- TOGETHER

-- a stretch, if it is one of theirs
abbrev theirs : (Party → Bool) → Stretch → Stretch
theirs mine s = if mine s.party then s else no_stretch

module _ (mine : Party → Bool) where
  either_none : (b : Bool) → (if b then no_stretch else no_stretch) ≡ no_stretch
  either_none = grind arith

  never : (b : Bool) (s : Stretch) → (if b && false then s else no_stretch) ≡ no_stretch
  never = grind arith

  -- one more quiet line
  more : (p : Party) (s : Stretch) → (if mine p && true then one_more p (theirs mine s) else no_stretch) ≡ theirs mine (one_more p s)
  more = grind arith

  tracks : (w : World) (a : Action) (r : StepResult) (s : Stretch) → longer_of mine w a r (theirs mine s) ≡ theirs mine (longer w a r s)
  tracks = grind (arith, more, never, either_none)

-- who is nobody makes one line on end at most
abbrev Low : Stretch → Type 0
Low s = s.party ≡ Nobody → s.count ≤ 1

low_then : (w : World) (a : Action) (r : StepResult) (s : Stretch) → Low s → Low (longer w a r s)
low_then = grind arith

-- each stretch is a worker's, a caller's or nobody's
short : (s : Stretch) (n : ℕ) → 2 ≤ n → Low s → (theirs is_worker s).count < n → (theirs is_caller s).count < n → s.count < n
short = grind arith

pub solo_by : (c : Configuration) (w : World) (s : Stretch) (ls : List Line) (choices : List Choice) → Low s
    → ends is_worker c w (theirs is_worker s) ls choices ≡ true → ends is_caller c w (theirs is_caller s) ls choices ≡ true → is_solo c w s ls choices ≡ true
solo_by c w s [] choices low workers callers = refl
solo_by c w s (l ∷ ls) [] low workers callers = refl
solo_by c w s (l ∷ ls) (choice ∷ choices) low workers callers =
    let later = longer w l.action l.said s in
    let next = after_line c w l.action l.said choice in
    let bound = quiet_bound c w in
    let still : Low later = low_then w l.action l.said s low in
    let mine = and_parts _ _ (subst (λ (z : Stretch). (nat_lt z.count bound && ends is_worker c next z ls choices) ≡ true) (tracks is_worker w l.action l.said s) workers) in
    let others = and_parts _ _ (subst (λ (z : Stretch). (nat_lt z.count bound && ends is_caller c next z ls choices) ≡ true) (tracks is_caller w l.action l.said s) callers) in
    and_from (nat_lt later.count bound) _
    (lt-ltb later.count bound (short later bound (omega arith) still (ltb-true (theirs is_worker later).count bound mine.0) (ltb-true (theirs is_caller later).count bound others.0)))
    (solo_by c next later ls choices still mine.1 others.1)
