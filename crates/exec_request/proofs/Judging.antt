-- What a request promises that judges one result by its cursor.
use Rattle.std.proofs.Common.{◌≡◌, ℕ, ◌+◌, Bool, true, false, not, ◌&&◌, Option, sym, ◌∙◌, if◌then◌else◌, arith}
use Rattle.exec_outcomes.{specs.{declared.outcome.{Judged.Judged, Outcome.Outcome}, Outcomes.{Asked, Cursor, outcome_next, cursor_next, passes_on, first_part, part_now, counted_for, refuses_hint}}, proofs.Runs.{next, goes_on}}
use Rattle.exec_request.specs.{Judging.Judges, Hints.asks_hint, declared.cache.Cache.{Cache, TheVariants.Enabled}}

pub judges : (asked : Asked) (before after : Cursor) (r : Judged) (answer : Option Outcome) → answer ≡ outcome_next asked before r → after ≡ cursor_next asked before r → (r.hinted ≡ true → before.hinted ≡ true) → Judges asked before after r answer
judges asked before after r answer by moves allowed =
    record {
      judged = λ results come. by ∙ sym (next asked before results r come allowed);
      goes_on = λ results come none. rw moves (goes_on asked before results r come allowed (sym by ∙ none));
      next = by;
      cursor = moves;
    }

-- a request of one part stays in it
pub cursor_next-plain : (asked : Asked) (moved : ℕ) (switched hinted : Bool) (r : Judged) → ((x : Judged × ℕ) → passes_on asked.kind (first_part asked) x ≡ false)
    → let before : Cursor = record { moved = moved; switched = switched; hinted = hinted } in
    cursor_next asked before r ≡ record { moved = moved + counted_for (part_now asked before) r.result; switched = switched; hinted = hinted && not (refuses_hint r) }
cursor_next-plain = grind arith

-- a hint that was refused is given up
abbrev pub given_up : Bool → Cache → Cache
given_up refused cache = if refused then Enabled else cache

-- what is left of it
pub hint_left : (cache : Cache) (may refused : Bool) → asks_hint (given_up ((may && asks_hint cache) && refused) cache) ≡ (asks_hint cache && not ((may && asks_hint cache) && refused))
hint_left = grind arith
