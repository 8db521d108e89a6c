-- What of a place most of its worker's facts rest on. A step between two places of one kind keeps those.
use Rattle.std.specs.Prelude.{◌&&◌, ◌||◌}
use Rattle.exec_invariants.specs.{Words.{ℕ, Bool, List, Option, Letter, Next, AfterCallbacks, InClosing, InPoll, InService, Place, next_at, polls_at, serves_at, Role, closes_at, closing_in, is_pool, owed_at}, Places.{Drops, begins_at, calls_back_at, claims_at, drops_at, hands_on_at, has_count_at, has_loot_at, is_armed_at, is_pooled_at, is_published_at, searches_at, step_of_poll}, Sound.served_in, HoldPlaces.{Hearing, cancels_at, heard_at, is_bare_at, sends_cancel_at, spare_at}}

pub record Kind : Type 0 where
  -- what the machine reads off it
  pub polls : Option ℕ
  pub next : Next
  pub serves : Bool
  pub owes : ℕ → List Letter
  -- where it is in a poll, a service and a closing
  pub step : InPoll
  pub served : Option InService
  pub closes : Bool
  pub closing : Option InClosing
  -- what is in the hands, and whether a callback is about to be made
  pub begins : Option ℕ
  pub hands_on : Bool
  pub loot : Bool
  pub calls : Option AfterCallbacks
  -- what others rely on
  pub armed : Bool
  pub claims : Option ℕ
  pub searches : Option Bool
  pub counts : Bool
  pub published : Bool
  pub drops : Drops
  -- only a worker of the pool is there
  pub pooled : Bool
  -- what is told, and to whom
  pub spare : ℕ
  pub cancels : Bool
  pub sends_cancel : Bool
  pub heard : Option Hearing
  pub bare : Bool

-- the kind of a place to which a worker of this role comes from one of this kind: only one of the pool comes to a place that is
-- the pool's
abbrev pub lowered : Role → Bool → Kind → Kind
lowered role pooled k = record k { pooled = pooled && (k.pooled || is_pool role) }

abbrev pub kind_of : Place → Kind
kind_of p =
    record {
      polls = polls_at p;
      next = next_at p;
      serves = serves_at p;
      owes = λ n. owed_at n p;
      step = step_of_poll p;
      served = served_in p;
      closes = closes_at p;
      closing = closing_in p;
      begins = begins_at p;
      hands_on = hands_on_at p;
      loot = has_loot_at p;
      calls = calls_back_at p;
      armed = is_armed_at p;
      claims = claims_at p;
      searches = searches_at p;
      counts = has_count_at p;
      published = is_published_at p;
      drops = drops_at p;
      pooled = is_pooled_at p;
      spare = spare_at p;
      cancels = cancels_at p;
      sends_cancel = sends_cancel_at p;
      heard = heard_at p;
      bare = is_bare_at p;
    }
