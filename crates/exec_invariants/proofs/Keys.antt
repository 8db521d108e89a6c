-- The opens and their gates show the same while the names of all requests stay, and no durable one ends.
use Rattle.exec_invariants.proofs.Names.{◌≡◌, ℕ, suc, ◌==◌, ◌&&◌, ◌++◌, Bool, false, List, [], ◌∷◌, map, Option, Some, None, option_to_list, refl, sym, ap, ◌∙◌, slice_get, if◌then◌else◌, map-set_same, get_or_from_slice_get, slice_get-map, arith, Id, OpenState, WaiterKey, Record, changed_in, changed_at, flies, flown_in, gate_seen, gives_up, has_given_up, line_of, number_of_key, open_seen}

-- whose a request is, its name in its driver, and whether it has given a permit up
pub record Named : Type 0 where
  pub worker : ℕ
  pub id : Id
  pub over : Bool

abbrev pub name_in : Record → Named
name_in r = record { worker = r.shown.worker; id = r.id.0; over = gives_up r }

first_key : ℕ → List Named → WaiterKey → ℕ
first_key n [] key = n
first_key n (r ∷ rs) key =
    if (r.worker == key.worker) && ((r.id.index == key.id.0.index) && (r.id.generation == key.id.0.generation))
    then n else first_key (suc n) rs key

number_by_names : (n : ℕ) (rs : List Record) (key : WaiterKey) → number_of_key n rs key ≡ first_key n (map name_in rs) key
unfolding first_key
number_by_names n [] key = refl
number_by_names n (r ∷ rs) key =
    ap (λ m. if (r.shown.worker == key.worker) && ((r.id.0.index == key.id.0.index) && (r.id.0.generation == key.id.0.generation)) then n else m) (number_by_names (suc n) rs key)

over_named : Option Named → Bool
over_named None = false
over_named (Some r) = r.over

given_by_names : (rs : List Record) (n : ℕ) → has_given_up (slice_get rs n) ≡ over_named (slice_get (map name_in rs) n)
unfolding over_named
given_by_names = grind (arith, slice_get-map, over_named)

module _ (rs rs' : List Record) (same : map name_in rs' ≡ map name_in rs) where
  same_number : (key : WaiterKey) → number_of_key 0 rs' key ≡ number_of_key 0 rs key
  same_number key = number_by_names 0 rs' key ∙ ap (λ names. first_key 0 names key) same ∙ sym (number_by_names 0 rs key)

  same_numbers : (keys : List WaiterKey) → map (number_of_key 0 rs') keys ≡ map (number_of_key 0 rs) keys
  same_numbers [] = refl
  same_numbers (key ∷ keys) = rw (same_number key, same_numbers keys) refl

  pub same_gate : (o : OpenState) → gate_seen rs' o ≡ gate_seen rs o
  same_gate o = same_numbers (option_to_list o.holder ++ o.waiting)

  same_given : (n : ℕ) → has_given_up (slice_get rs' n) ≡ has_given_up (slice_get rs n)
  same_given n = given_by_names rs' n ∙ ap (λ names. over_named (slice_get names n)) same ∙ sym (given_by_names rs n)

  same_line : (ns : List ℕ) → line_of rs' ns ≡ line_of rs ns
  same_line [] = refl
  same_line (n ∷ later) = ap (λ b. if b then later else n ∷ later) (same_given n)

  pub same_open : (o : OpenState) → open_seen rs' o ≡ open_seen rs o
  same_open = grind (arith, same_gate, same_line)

  pub same_opens : (opens : List OpenState) → map (open_seen rs') opens ≡ map (open_seen rs) opens
  same_opens [] = refl
  same_opens (o ∷ opens) = rw (same_open o, same_opens opens) refl

  pub same_gates : (opens : List OpenState) → map (gate_seen rs') opens ≡ map (gate_seen rs) opens
  same_gates [] = refl
  same_gates (o ∷ opens) = rw (same_gate o, same_gates opens) refl

-- a change that leaves the name
pub names_kept : (rs : List Record) (k : ℕ) (f : Record → Record) → ((r : Record) → name_in (f r) ≡ name_in r) → map name_in (changed_at rs k f) ≡ map name_in rs
names_kept rs k f keeps =
    elim (slice_get rs k) as (λ o. slice_get rs k ≡ o → map name_in (changed_in rs k f o) ≡ map name_in rs) [
      | None ↦ λ none. refl
      | Some r ↦ λ there. map-set_same name_in rs k (f r) r (keeps r ∙ ap name_in (sym (get_or_from_slice_get rs k r r there)))
    ] refl

-- the same at that record alone
pub names_changed : (rs : List Record) (k : ℕ) (r : Record) (f : Record → Record) → slice_get rs k ≡ Some r → name_in (f r) ≡ name_in r → map name_in (changed_at rs k f) ≡ map name_in rs
names_changed rs k r f there same = ap (λ o. map name_in (changed_in rs k f o)) there ∙ map-set_same name_in rs k (f r) r (same ∙ ap name_in (sym (get_or_from_slice_get rs k r r there)))

flies_named : (r : Record) → name_in (flies r) ≡ name_in r
flies_named = grind arith

pub flown_names : (ks : List ℕ) (rs : List Record) → map name_in (flown_in ks rs) ≡ map name_in rs
flown_names [] rs = refl
flown_names (k ∷ ks) rs = names_kept (flown_in ks rs) k flies flies_named ∙ flown_names ks rs
