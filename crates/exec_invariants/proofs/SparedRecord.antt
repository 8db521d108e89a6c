-- One record of a request or a sleeper that a step of another spares.
use Rattle.exec_invariants.{specs.{Due.IsTimed, Flown.IsPlain, Holding.{IsAnswerOf, thing_of}, Rooted.{IsKept, IsReplyFor, Pays, SleeperPays, StandsAt, Watches, ends_elsewhere, goes_elsewhere}, Names.IsAlike, Spares.{Endures, SleeperEndures, SleepersEndure, SparesRecord, SparesSleeper}}, proofs.Words.{◌≡◌, ◌⊎◌, ⊎_elim, ℕ, ◌≤◌, ◌<◌, true, false, List, length, Some, Result, IsSome, refl, sym, ap, subst, arith, inl, cases_lt, slice_get_within, Slab, value_at, Error, Id, Watching, RequestOutput, waiter_at, Entry, Waiter, entry_of, Driving, Forwarding, Unsent, Sent, Sleeper, is_applied, is_asleep, is_resolved, is_unsent, Reply, Names, Record, SleeperRecord}}
pub use Rattle.exec_parts.proofs.Facts.{found_within as there_within}

-- what stands within a list
pub live_of : (requests : Slab (Entry Reply Reply)) (id : Id) (it : Waiter Reply Reply) → waiter_at requests id ≡ Some it → IsSome (value_at requests id)
live_of requests id it live = rw (entry_of (value_at requests id) it live) refl

-- who sleeps on worker i is one of its sleepers
pub mine_asleep : (i : ℕ) (z : Sleeper) → is_asleep i z ≡ true → z.worker ≡ i
mine_asleep = grind arith

-- ONE RECORD THAT IS SPARED

pub spared_same : (r : Record) → SparesRecord r r
spared_same r = record { kept = refl; waiter = λ t h. h; forwarding = inl refl; observed = inl refl }

pub sleeper_spared : (z : SleeperRecord) → SparesSleeper z z
sleeper_spared z = record { kept = refl; forwarding = inl refl }

applied_by : (f f' : Forwarding) → (f' ≡ f) ⊎ ((f ≡ Unsent) × (f' ≡ Sent)) → is_applied f' ≡ is_applied f
applied_by = grind arith

unsent_by : (f f' : Forwarding) → (f' ≡ f) ⊎ ((f ≡ Unsent) × (f' ≡ Sent)) → is_unsent f ≡ false → is_unsent f' ≡ false
unsent_by = grind arith

-- one that isn't over, or whose end doesn't go elsewhere, is held as before; and what goes elsewhere goes there as before
module _ (r r' : Record) (sp : SparesRecord r r') where
  pub applied_still : is_applied r'.shown.forwarding ≡ is_applied r.shown.forwarding
  applied_still = applied_by r.shown.forwarding r'.shown.forwarding sp.forwarding

  pub worker_still : r'.shown.worker ≡ r.shown.worker
  worker_still = ap (λ (x : Record). x.shown.worker) sp.kept

  pub over_still : is_resolved r'.shown.phase ≡ is_resolved r.shown.phase
  over_still = ap (λ (x : Record). is_resolved x.shown.phase) sp.kept

  pub was_held : r'.shown.observed ≡ true → r.shown.observed ≡ true
  was_held = grind arith

  pub goes_still : goes_elsewhere r' ≡ goes_elsewhere r
  goes_still = grind arith

  pub answer_by : (a : Result RequestOutput Error) → IsAnswerOf a (thing_of r) → IsAnswerOf a (thing_of r')
  answer_by = grind arith

  pub alike_by : (start tick : ℕ) (it : Waiter Reply Reply) → IsAlike start tick it r.shown → IsAlike start tick it r'.shown
  alike_by = grind arith

  pub timed_by : (n : Names) (k : ℕ) → IsTimed n k r → IsTimed n k r'
  timed_by n k t = subst (IsTimed n k) (sym sp.kept) (assumption t)

  pub plain_by : IsPlain r.shown → IsPlain r'.shown
  plain_by p = subst (λ (x : Record). IsPlain x.shown) (sym sp.kept) (assumption p)

  pub kept_by : (told : RequestOutput) → IsKept told r → IsKept told r'
  kept_by = grind arith

  pub reply_by : (k : ℕ) (reply : Reply) → IsReplyFor k reply r → IsReplyFor k reply r'
  reply_by k reply h = record { of = h.of; task = sp.waiter reply.task.0 h.task }

  pub stands_by : (k : ℕ) (n : Names) (d : Driving Reply Reply) → StandsAt k n d r → StandsAt k n d r'
  stands_by k n d h = subst (StandsAt k n d) (sym sp.kept) (assumption h)

  pub paid_still : r'.shown.wakes_paid ≡ r.shown.wakes_paid
  paid_still = ap (λ (x : Record). x.shown.wakes_paid) sp.kept

  pub pays_by : Pays r → Pays r'
  pays_by = grind arith

  pub endures_by : Endures r r'
  endures_by = record { worker = worker_still; forwarded = unsent_by r.shown.forwarding r'.shown.forwarding sp.forwarding }

-- none of the sleepers is gone
pub sleepers_stay : (ss ss' : List SleeperRecord) → SleepersEndure ss ss' → length ss ≤ length ss'
sleepers_stay ss ss' endure =
    ⊎_elim
    (λ (less : length ss' < length ss).
    let x = there_within ss (length ss') less in
    let now = endure (length ss') x.0 x.1 in
    absurd (omega (arith, slice_get_within ss' (length ss') now.0 now.1)))
    (λ (most : length ss ≤ length ss'). most)
    (cases_lt (length ss') (length ss))

module _ (z z' : SleeperRecord) (sp : SparesSleeper z z') where
  pub sleeper_worker_still : z'.shown.worker ≡ z.shown.worker
  sleeper_worker_still = ap (λ (x : SleeperRecord). x.shown.worker) sp.kept

  pub ends_still : ends_elsewhere z' ≡ ends_elsewhere z
  ends_still = grind arith

  pub watches_by : (n : ℕ) (o : Watching Reply) → Watches n o z → Watches n o z'
  watches_by = grind arith

  pub sleeper_pays_by : SleeperPays z → SleeperPays z'
  sleeper_pays_by = grind arith

  pub sleeper_endures_by : SleeperEndures z z'
  sleeper_endures_by = record { worker = sleeper_worker_still; forwarded = unsent_by z.shown.forwarding z'.shown.forwarding sp.forwarding }
