-- What is kept of an open once a request of it is over: its driver and the machine make the same of it.
use Rattle.std.proofs.Common.{◌≡◌, ℕ, ◌<◌, Bool, true, false, List, length, Option, Some, None, if◌then◌else◌, refl, sym, ap, subst, ◌∙◌, slice_set, arith}
use Rattle.exec_outcomes.specs.{Accounts.{Account, account_after, is_durable}, Outcomes.{Asked, Cursor, cursor_next, outcome_next}, declared.outcome.{Judged.Judged, Kind.Kind, Outcome.Outcome}}
use Rattle.exec_request.specs.{Hints.{has_hint, without_hint}, Requests.{asked_of, cursor_of, record_after, target_of}, Kept.seen_by, States.{Ended, as_outcome, told_by}, declared.request.Request.Request as Asking}
use Rattle.exec_waiters.specs.States.{file_of}
use Rattle.exec_opens.specs.Opens.{OpenState, account_by, account_in, with_account}
use Rattle.exec_machine.specs.{declared.state.Operation.Operation, Tests.is_of_file}
use Rattle.exec_parts.specs.declared.parts.record.Record.{Record}
use Rattle.exec_invariants.{specs.Gates.{AreLinedUp, has_hint_at}, proofs.{Accounted.{HasOpen, account_set, lines_account, open_of_file, with_its}, Lined.{SameLines, opens_same}}}

-- A RESULT THAT ENDS a request, whose cancellation nobody asked for, doesn't pass on to its second part

module _ (asked : Asked) (c : Cursor) (j : Judged) (o : Outcome) (unasked : j.cancelled ≡ false) where
  pub ends_unswitched : outcome_next asked c j ≡ Some o → (cursor_next asked c j).switched ≡ c.switched
  ends_unswitched = grind arith

-- WHAT IS TOLD doesn't hang on a hint

pub told_unhinted : (k : Kind) (how : Ended) (b : Bool) (account : Option Account) → told_by k how (if b then without_hint account else account) ≡ told_by k how account
told_unhinted = grind arith

-- ONE ACCOUNT

-- the operation of a request, as the machine has it
pub record IsOperation (q : Asking) (o : Operation) : Type 0 where
  pub kind : o.kind ≡ (asked_of q).kind
  pub target : o.target ≡ target_of q
  pub seen : is_durable o.kind ≡ true → o.seen ≡ seen_by q
  pub switched : is_durable o.kind ≡ true → o.switched ≡ (cursor_of q).switched

abbrev pub account_told : Operation → Outcome → Account → Account
account_told o outcome a = account_after o.target o.switched o.seen o.kind outcome a

pub account_ends : (q : Asking) (o : Operation) (how : Ended) (a : Account) → IsOperation q o → is_of_file o.kind ≡ true
    → (record_after q how (Some a) ≡ Some (account_told o (as_outcome how) a)) × (file_of q ≡ Some o.target)
account_ends = grind arith

hint_told : (file seen : ℕ) (syncing : Bool) (k : Kind) (outcome : Outcome) (a : Account) → (account_after file syncing seen k outcome a).hinted ≡ a.hinted
hint_told = grind arith

-- THE OPENS, once it has ended so

pub record IsCounted (opens opens' : List OpenState) (o : Operation) (outcome : Outcome) : Type 0 where
  pub has : HasOpen opens o.target
  pub set : opens' ≡ slice_set opens o.target (with_its (account_told o outcome has.a) has.o)

pub file_none : (q : Asking) → is_of_file (asked_of q).kind ≡ false → file_of q ≡ None
file_none = grind arith

pub file_there : (q : Asking) → is_of_file (asked_of q).kind ≡ true → file_of q ≡ Some (target_of q)
file_there = grind arith

module _ (q : Asking) (o : Operation) (how : Ended) (opens opens' : List OpenState) (rs : List Record) (lined : AreLinedUp opens rs) (is : IsOperation q o) (within : is_of_file o.kind ≡ true → o.target < length opens)
    (made : opens' ≡ with_account opens (file_of q) (record_after q how (account_in opens (file_of q)))) where
  -- of no file: as they were
  pub opens_uncounted : is_of_file o.kind ≡ false → opens' ≡ opens
  opens_uncounted none = made ∙ ap (λ f. with_account opens f (record_after q how (account_in opens (file_of q)))) (file_none q (sym (ap is_of_file is.kind) ∙ none))

  pub opens_counted : is_of_file o.kind ≡ true → IsCounted opens opens' o (as_outcome how)
  opens_counted of =
      let has = open_of_file opens rs o.target lined (within of) in
      let ends = account_ends q o how has.a is of in
      let kept : account_in opens (file_of q) ≡ Some has.a = ap (account_in opens) ends.1 ∙ ap account_by has.there ∙ has.account in
      record {
        has = has;
        set = grind (arith, made, ends.1, kept, ends.0, account_set opens o.target has.o (account_told o (as_outcome how) has.a) has.there);
      }

  -- lines stay
  pub lines_counted : SameLines opens opens'
  lines_counted = by (is_of_file o.kind) refl
    where
      by : (b : Bool) → is_of_file o.kind ≡ b → SameLines opens opens'
      by false none = opens_same opens opens' rs lined (opens_uncounted none)
      by true of =
          let it = opens_counted of in
          let a2 = account_told o (as_outcome how) it.has.a in
          let hint : has_hint_at opens o.target ≡ it.has.a.hinted = ap (λ x. has_hint (account_by x)) it.has.there ∙ ap has_hint it.has.account in
          subst (SameLines opens) (sym it.set)
          (lines_account opens rs o.target it.has.o a2 lined it.has.there (λ none. hint_told o.target o.seen o.switched o.kind (as_outcome how) it.has.a ∙ sym hint ∙ none))
