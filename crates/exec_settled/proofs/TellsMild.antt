-- Moves that tell of one request or of one sleeper, or of all that a task held.
use Rattle.std.proofs.{Common.{◌≡◌, ℕ, zero, suc, true, false, List, [], ◌∷◌, set, get_or, Option, Some, None, refl, sym, ◌∙◌, subst, arith}, lemmas.{Bool.{true≢false, eqb-true, eqb-false}, List.get_or-set_other}}
use Rattle.exec_outcomes.specs.declared.outcome.Outcome.{Outcome}
use Rattle.exec_machine.specs.{declared.{config.Configuration.Configuration, event.Event.TheVariants.Fire, state.{Forwarding.TheVariants.Unsent, Request.Request, Sleeper.Sleeper}}, Tests.{is_applied, is_resolved}, World.{Common, Own as Books, no_request, request_of, sleeper_of}}
use Rattle.exec_moves.specs.{Slots.numbers_in, State.{Desk, Moved, Things}, Told.{has_number, told_if_ended, told_of_end, told_of_fire}}
use Rattle.exec_settled.proofs.{TellsEvents.{AllSleep, all_set, asleep_by, is_firing, is_saying, lasts, same_last, Lasts}, TellsPlain.{Ends, Lists, Mild, ends_none, late, lists_of, no_says, same_lists}, TellsTold.{Adds, Told, Tolds, end_told, fire_told, sent_at_end, sent_at_fire, woken_at_end, woken_at_fire}}

-- it is waited for no more by who waits here: it is over, waited for elsewhere, or held by nobody
abbrev pub Rests : Request → Type 0
Rests y = is_resolved y.phase ≡ false → y.forwarding ≡ Unsent → y.observed ≡ true → ⊥

pub over_rests : (y : Request) → is_resolved y.phase ≡ true → Rests y
over_rests y over going unsent held = true≢false (sym over ∙ going)

pub gone_rests : (y : Request) → y.observed ≡ false → Rests y
gone_rests y gone going unsent held = true≢false (sym held ∙ gone)

-- what is put there, where there is something
put_at : {A : Type 0} (P : A → Type 0) (d : A) (xs : List A) (r : ℕ) (y : A) → P d → P y → P (get_or (set xs r y) r d)
put_at P d [] r y none h = none
put_at P d (x ∷ xs) zero y none h = h
put_at P d (x ∷ xs) (suc r) y none h = put_at P d xs r y none h

pub rests_at : (xs : List Request) (r : ℕ) (y : Request) → Rests y → Rests (get_or (set xs r y) r no_request)
rests_at xs r y h = put_at Rests no_request xs r y (over_rests no_request refl) h

module _ (c : Configuration) (i : ℕ) (me : Books) (s : Common) (d : Desk) (x : Things) where
  pub adds_lists : (m : Moved Things) (e : Desk) → lists_of m.desk m.thing ≡ lists_of e x → Adds d e
      → ((k : ℕ) → has_number k d.awaited ≡ true → has_number k (numbers_in d.requests.held) ≡ true → is_resolved (request_of (late c i me s d x m) k).phase ≡ false
      → (request_of (late c i me s d x m) k).forwarding ≡ Unsent → (request_of (late c i me s d x m) k).observed ≡ true → has_number k e.awaited ≡ true)
      → Lists c i me s d x m
  adds_lists = grind arith

  pub same_awaited : (m : Moved Things) (e : Desk) → lists_of m.desk m.thing ≡ lists_of e x → Adds d e → e.awaited ≡ d.awaited → Lists c i me s d x m
  same_awaited m e is more same = adds_lists m e is more (λ k there held going unsent observed. subst (λ l. has_number k l ≡ true) (sym same) there)

  -- it was told of request r, which rests then
  pub told_lists : (m : Moved Things) (r : ℕ) (e : Desk) → lists_of m.desk m.thing ≡ lists_of e x → Told r d e → Rests (request_of (late c i me s d x m) r) → Lists c i me s d x m
  told_lists = grind arith

  -- A REQUEST THAT MAY END: y is what it is then
  abbrev pub Matches : Option Outcome → Request → Request → Type 0
  Matches None y it = is_resolved y.phase ≡ true → is_resolved it.phase ≡ true
  Matches (Some how) y it = is_resolved y.phase ≡ true

  like_told : (r : ℕ) (e f : Desk) → lists_of e x ≡ lists_of d x → Told r e f → Told r d f
  like_told = grind arith

  one_ends : (m : Moved Things) (r : ℕ) (y : Request) (e : Desk) → lists_of e x ≡ lists_of d x → (late c i me s d x m).requests ≡ set s.requests r y → AllSleep s.sleepers (late c i me s d x m).sleepers
      → lists_of m.desk m.thing ≡ lists_of (told_of_end r (request_of s r) e) x → Ends c i me s d x m
  one_ends = grind (arith, sent_at_end, woken_at_end, true≢false, late, eqb-true, get_or-set_other, eqb-false)

  pub mild_end : (m : Moved Things) (r : ℕ) (y : Request) (how : Option Outcome) (e : Desk) → lists_of e x ≡ lists_of d x → (late c i me s d x m).requests ≡ set s.requests r y
      → Matches how y (request_of s r) → is_firing m.event ≡ false → is_saying m.event ≡ false → lists_of m.desk m.thing ≡ lists_of (told_if_ended how r (request_of s r) e) x → Mild c i me s d x m
  mild_end m r y None e same changed matches fires says is =
      record {
        lists = same_lists c i me s d x m (is ∙ same);
        ends = ends_none c i me s d x m (subst (λ rs. (k : ℕ) → Lasts (get_or s.requests k no_request) (get_or rs k no_request)) (sym changed) (all_set Lasts no_request lasts s.requests r y (λ over held. matches over)))
            (asleep_by c me s i m.choice m.event fires);
        says = no_says c i me s d x m says;
      }
  mild_end m r y (Some how) e same changed matches fires says is =
      record {
        lists = told_lists m r _ is (like_told r e _ same (end_told r (request_of s r) e)) (subst (λ rs. Rests (get_or rs r no_request)) (sym changed) (rests_at s.requests r y (over_rests y matches)));
        ends = one_ends m r y e same changed (asleep_by c me s i m.choice m.event fires) is;
        says = no_says c i me s d x m says;
      }

  -- A SLEEPER FIRES
  pub mild_fire : (m : Moved Things) (z : ℕ) (y : Sleeper) → m.event ≡ Fire z → (late c i me s d x m).requests ≡ s.requests → (late c i me s d x m).sleepers ≡ set s.sleepers z y
      → is_saying m.event ≡ false → lists_of m.desk m.thing ≡ lists_of (told_of_fire z (sleeper_of s z) d) x → Mild c i me s d x m
  mild_fire m z y event requests changed says is =
      record {
        lists = same_awaited m (told_of_fire z (sleeper_of s z) d) is told.adds told.awaited;
        ends = record {
          ends_elsewhere = λ k going over held held_then applied. absurd (ended k going over held_then);
          ends_here = λ k t going over held held_then unsent there waits. absurd (ended k going over held_then);
          fires_elsewhere = λ n sleeping fired applied.
              let at = here n sleeping fired in
              subst (λ j. has_number j m.desk.completions ≡ true) (sym at)
              (subst (λ l. has_number z l.completions ≡ true) (sym is) (sent_at_fire z (sleeper_of s z) d (subst (λ j. is_applied (sleeper_of s j).forwarding ≡ true) at applied)));
          fires_here = λ n sleeping fired unsent.
              let at = here n sleeping fired in
              subst (λ j. has_number (sleeper_of s j).task m.desk.wakes ≡ true) (sym at)
              (subst (λ l. has_number (sleeper_of s z).task l.wakes ≡ true) (sym is) (woken_at_fire z (sleeper_of s z) d (subst (λ j. is_applied (sleeper_of s j).forwarding ≡ false) at unsent)));
        };
        says = no_says c i me s d x m says;
      }
    where
      told : Tolds z (sleeper_of s z) d (told_of_fire z (sleeper_of s z) d)
      told = fire_told z (sleeper_of s z) d

      ended : (k : ℕ) → is_resolved (request_of s k).phase ≡ false → is_resolved (request_of (late c i me s d x m) k).phase ≡ true → (request_of (late c i me s d x m) k).observed ≡ true → ⊥
      ended k going over held = true≢false (sym (same_last requests k over held) ∙ going)

      -- no other one fires
      here : (n : ℕ) → (sleeper_of s n).fired ≡ false → (sleeper_of (late c i me s d x m) n).fired ≡ true → n ≡ z
      here = grind (arith, eqb-true, true≢false, get_or-set_other, eqb-false)
