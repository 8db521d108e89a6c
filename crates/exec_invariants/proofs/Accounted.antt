-- What is kept of opens, as operations on them are judged and requests of them end: their lines stay, and the machine keeps the
-- same of them.
use Rattle.exec_invariants.{proofs.{Names.{◌≡◌, ℕ, ◌<◌, ◌&&◌, Bool, true, false, List, length, map, Option, Some, None, IsSome, is_some, if◌then◌else◌, refl, sym, ap, subst, ◌∙◌, slice_get, slice_index_or, slice_set, false≢true, arith, Account, is_unsupported, OpResult, without_hint, asked_of, hinted_of, target_of, Asking, file_of, Waiter, OpenState, account_in, keeping, with_account, with_open_in, open_after, is_of_file, Open, no_open, Reply, Record, account_seen, open_seen, and_parts, by_number, same_Some, set_elsewhere, set_there}, Showing.{map_kept, map_set}, Hinting.open_there, Lined.{SameLines, accounts_kept, only_line, opens_same}, SparedRecord.there_within, Turning.set_found}, specs.Gates.{AreLinedUp, has_hint_at}}

-- ONE ACCOUNT

abbrev pub with_its : Account → OpenState → OpenState
with_its a o = record o { account = Some a }

pub account_set : (opens : List OpenState) (file : ℕ) (o : OpenState) (a : Account) → slice_get opens file ≡ Some o → with_account opens (Some file) (Some a) ≡ slice_set opens file (with_its a o)
account_set opens file o a there = ap (with_open_in opens file (keeping (Some a))) there

-- lines stay, and a hint that was refused stays so
pub lines_account : (opens : List OpenState) (rs : List Record) (file : ℕ) (o : OpenState) (a : Account) → AreLinedUp opens rs → slice_get opens file ≡ Some o → (has_hint_at opens file ≡ false → a.hinted ≡ false) → SameLines opens (slice_set opens file (with_its a o))
lines_account = grind (arith, map_kept, only_line, by_number, accounts_kept, set_elsewhere, same_Some, set_there)

-- and it is seen
pub account_shown : (rs : List Record) (opens : List OpenState) (file : ℕ) (o : OpenState) (a : Account) → map (open_seen rs) (slice_set opens file (with_its a o)) ≡ slice_set (map (open_seen rs) opens) file (record (open_seen rs o) { account = a })
account_shown rs opens file o a = map_set (open_seen rs) opens file (with_its a o)

-- what is kept as it is
pub account_still : (opens : List OpenState) (file : Option ℕ) → with_account opens file (account_in opens file) ≡ opens
account_still = grind (arith, set_found)

-- the open of a request of a file, which is there
pub record HasOpen (opens : List OpenState) (file : ℕ) : Type 0 where
  pub o : OpenState
  pub there : slice_get opens file ≡ Some o
  pub a : Account
  pub account : o.account ≡ Some a

pub open_of_file : (opens : List OpenState) (rs : List Record) (file : ℕ) → AreLinedUp opens rs → file < length opens → HasOpen opens file
open_of_file opens rs file lined within =
    let it = there_within opens file within in
    by it.0 it.1 it.0.account refl (accounts_kept opens rs lined file it.0 it.1)
  where
    by : (o : OpenState) → slice_get opens file ≡ Some o → (a : Option Account) → o.account ≡ a → IsSome o.account → HasOpen opens file
    by o there None none some = absurd (false≢true (ap is_some (sym none) ∙ some))
    by o there (Some a) is some = record { o = o; there = there; a = a; account = is }

-- A REFUSED HINT is the last of its open

abbrev pub refused : Account → Account
refused a = record a { hinted = false }

-- what the driver keeps of it then
pub refusal : (q : Asking) (opens : List OpenState) (file : ℕ) (has : HasOpen opens file) → file_of q ≡ Some file → with_account opens (file_of q) (without_hint (account_in opens (file_of q))) ≡ slice_set opens file (with_its (refused has.a) has.o)
refusal = grind arith

-- and the machine of what it sees
pub refusal_shown : (rs : List Record) (opens : List OpenState) (file : ℕ) (has : HasOpen opens file)
    → map (open_seen rs) (slice_set opens file (with_its (refused has.a) has.o))
    ≡ slice_set (map (open_seen rs) opens) file (record (slice_index_or (map (open_seen rs) opens) file no_open) { account = record (slice_index_or (map (open_seen rs) opens) file no_open).account { hinted = false } })
refusal_shown rs opens file has =
    let seen : slice_index_or (map (open_seen rs) opens) file no_open ≡ open_seen rs has.o = open_there rs opens file has.o has.there in
    let account : (open_seen rs has.o).account ≡ has.a = ap account_seen has.account in
    grind (arith, account_shown)

-- WHAT A JUDGEMENT DOES to what is kept of opens, where its request goes on

hinted_file : (q : Asking) → hinted_of q ≡ true → (file_of q ≡ Some (target_of q)) × (is_of_file (asked_of q).kind ≡ true)
hinted_file = grind arith

-- the machine's opens, by whether a hint is refused
abbrev pub opens_refused : Bool → List Open → ℕ → List Open
opens_refused b os file =
    if b then slice_set os file (record (slice_index_or os file no_open) { account = record (slice_index_or os file no_open).account { hinted = false } }) else os

pub record OpensJudged (opens opens' : List OpenState) (refuses : Bool) (target : ℕ) : Type 0 where
  pub same : SameLines opens opens'
  pub shown : (rs : List Record) → map (open_seen rs) opens' ≡ opens_refused refuses (map (open_seen rs) opens) target

pub opens_judged : (it : Waiter Reply Reply) (given : OpResult) (opens opens' : List OpenState) (rs : List Record) (target : ℕ) → AreLinedUp opens rs → target ≡ target_of it.request → (is_of_file (asked_of it.request).kind ≡ true → target < length opens)
    → opens' ≡ with_account opens (file_of it.request) (open_after it given (account_in opens (file_of it.request))) → OpensJudged opens opens' (hinted_of it.request && is_unsupported given) target
opens_judged it given opens opens' rs target lined is within made = by (hinted_of it.request && is_unsupported given) refl
  where
    account : Option Account
    account = account_in opens (file_of it.request)

    by : (b : Bool) → (hinted_of it.request && is_unsupported given) ≡ b → OpensJudged opens opens' (hinted_of it.request && is_unsupported given) target
    by false kept =
        let same : opens' ≡ opens = made ∙ ap (λ c. with_account opens (file_of it.request) (if c then without_hint account else account)) kept ∙ account_still opens (file_of it.request) in
        record {
          same = opens_same opens opens' rs lined same;
          shown = λ rs. ap (map (open_seen rs)) same ∙ sym (ap (λ c. opens_refused c (map (open_seen rs) opens) target) kept);
        }
    by true refuses =
        let of = hinted_file it.request (and_parts (hinted_of it.request) (is_unsupported given) refuses).0 in
        let has = open_of_file opens rs target lined (within of.1) in
        let set : opens' ≡ slice_set opens target (with_its (refused has.a) has.o) =
        made ∙ ap (λ c. with_account opens (file_of it.request) (if c then without_hint account else account)) refuses ∙ refusal it.request opens target has (of.0 ∙ ap (λ f. Some f) (sym is)) in
        record {
          same = subst (SameLines opens) (sym set) (lines_account opens rs target has.o (refused has.a) lined has.there (λ none. refl));
          shown = λ rs. ap (map (open_seen rs)) set ∙ refusal_shown rs opens target has ∙ sym (ap (λ c. opens_refused c (map (open_seen rs) opens) target) refuses);
        }
