-- Steps of a service: the places between which they go.
use Rattle.exec_invariants.{specs.{Sound.{Aims, HasQueue, LetsGoAt}, HoldPlaces.{cancels_at, heard_at, is_bare_at, sends_cancel_at, spare_at}, Places.{begins_at, calls_back_at, claims_at, clears_at, hands_on_at, has_count_at, has_loot_at, is_pooled_at, joins_at, polled_in, removes_at}}, proofs.Words.{◌≡◌, ℕ, zero, Bool, true, false, List, [], None, arith, Slab, live_count, Queue, Sleeping, Entry, Runnable, Configuration, Next, AfterCallbacks, AfterWait, InRingWait, InService, Place, InCallbacks, InMail, polls_at, next_at, Reply, Chair, closing_in, owed_at}}

-- PLACES

-- a service that tells no other worker of a permit, what follows it, and a wait on the ring
abbrev pub is_calm : Place → Bool
is_calm (Place.Service (InService.Signal worker b) v) = false
is_calm (Place.Service (InService.Raise ring worker b) v) = false
is_calm (Place.Service x v) = true
is_calm (Place.Mail InMail.LoadMailWord) = true
is_calm (Place.Mail (InMail.Apply zero taken)) = true
is_calm (Place.Callbacks InCallbacks.TakeBatch AfterCallbacks.Begin) = true
is_calm (Place.Callbacks InCallbacks.TakeBatch AfterCallbacks.Finish) = true
is_calm (Place.RingWait (InRingWait.DisarmRing AfterWait.Begin) y) = true
is_calm (Place.RingWait (InRingWait.DisarmRing AfterWait.Serve) y) = true
is_calm (Place.RingWait (InRingWait.DisarmRing next) y) = false
is_calm (Place.RingWait x y) = true
is_calm _ = false

-- nothing is polled, owed, handed on, claimed or counted there, and it names no other worker
pub record IsCalm (q : Place) : Type 0 where
  pub polls : polls_at q ≡ None
  pub free : next_at q ≡ Next.Free
  pub owes : (n : ℕ) → owed_at n q ≡ []
  pub begins : begins_at q ≡ None
  pub hands : hands_on_at q ≡ false
  pub loot : has_loot_at q ≡ false
  pub calls : calls_back_at q ≡ None
  pub claims : claims_at q ≡ None
  pub counts : has_count_at q ≡ false
  pub clears : clears_at q ≡ None
  pub removes : removes_at q ≡ None
  pub joins : joins_at q ≡ None
  pub stands : (root : ℕ) → polled_in root q ≡ None
  pub closing : closing_in q ≡ None
  pub unpooled : is_pooled_at q ≡ false
  pub spare : spare_at q ≡ 64
  pub heard : heard_at q ≡ None
  pub cancels : cancels_at q ≡ false
  pub sends : sends_cancel_at q ≡ false
  pub queue_in : (x : Queue Runnable) → HasQueue q x → x.held ≡ []
  pub queue_out : (x : Queue Runnable) → x.held ≡ [] → HasQueue q x
  pub aims : (c : Configuration) (i : ℕ) (seats : List Chair) → Aims q c i seats
  pub lets_in : (requests : Slab (Entry Reply Reply)) (zs : Slab (Sleeping Reply)) → LetsGoAt q requests zs → is_bare_at q ≡ true → live_count zs ≡ 0
  pub lets_out : (requests : Slab (Entry Reply Reply)) (zs : Slab (Sleeping Reply)) → (is_bare_at q ≡ true → live_count zs ≡ 0) → LetsGoAt q requests zs

pub calm : (q : Place) → is_calm q ≡ true → IsCalm q
calm = grind arith
