-- The rule of a live run queue: what holds between any two atomic steps.
--
-- Each value has a label, the count at its place when it was published. The value with the label l lies in the slot
-- l % 256, so the 256 labels from `real` on have a slot each, and none shares it.
--
--     start ........ steal ........ real ........ tail ........ steal + 256 ... real + 256
--     gone already   claimed, then  queued        free          claimed, then popped past
--                    popped past it                             the claim: the same slots
--
-- The head is `real` and the gap, `real - steal`. The tail is one past the last value. Who may do what:
--
-- - The owner alone stores the tail. It fills free slots first: they are out with it, and no thief sees them before the
--   store. So `tail` is a number that it keeps.
-- - The owner pops by an exchange of the head, which takes the slot of the front value out with it. Beside a claim the gap
--   grows. A lone value without a claim it takes by a plain store: a claim takes half, rounded down, of the values
--   that its thief saw, and the thief saw no more than there are.
-- - A thief claims by an exchange of the head from a gap of 0. It takes the slots of all its labels at once. While the
--   claim is held the gap isn't 0, so no other thief claims, and the gap keeps the owner from writing over these slots.
--   The release gives the slots back, empty, and makes the gap 0.
-- - A full queue without a claim flows over: the exchange moves `real` to the tail, so that no thief finds a value. The
--   newest half goes out with the owner. The oldest half stays in its slots: it is kept aside under new labels, 256
--   further on, until the next store of the tail shows it again. No count comes twice, so no thief's exchange with an
--   older head succeeds.
--
-- Why no value is lost or handed out twice. Which value has which label is a list that only grows, the owner's log. Each
-- label from `real` on that has a value is at home with the log's value (`full`), and each other of the 256 is home and
-- empty, or in the claim, or out with the owner (`free`). A label below `real` was popped, exported or relabelled by the
-- owner, or is in some thief's claim, just once: weighed by any weights, these labels weigh what all labels below `real`
-- weigh (`told`). The values that a thief took are the log's at the labels of its claims (`each_lot`). A step changes
-- its own seat's view alone, and these lists only grow. So each label leaves once, with the value that the owner put
-- there.
use Rattle.std.specs.{Prelude.{◌≡◌, ℕ, zero, suc, ◌+◌, ◌-◌, ◌%◌, ◌<◌, ◌≤◌, List, [], ◌∷◌, length, Option, Some, None}, List.sum_by}
use mathlib.Core.Option.{some}
use mathlib.Core.Option as maybe
use lib.ListN.{get_elem?}
use Rattle.atomic_table.specs.Table.{State}
use Rattle.exec_live_queue.specs.{declared.view.{Own.Own, Theft.Theft, View.View, Stage.{Stage, TheVariants.{Owns, Idle, SawHead, SawTail, Claimed}}}, Numbers.{head_word, filled, half, Outside, BesideClaim, InOrder, words_of}}

-- the n labels from a on, and what they weigh
unfoldable pub labels : ℕ → ℕ → List ℕ
labels a zero = []
labels a (suc n) = a ∷ labels (suc a) n

abbrev pub Homes : Type 0 → Type 0
Homes T = List (maybe.Option (Option T))

module _ {T : Type 0} where
  -- the slot of the label l is home with this in it
  abbrev pub HomeAt : Homes T → ℕ → Option T → Type 0
  HomeAt homes l x = get_elem? homes (l % 256) ≡ some (some x)

  -- the slot of the label l is home with the log's value
  abbrev pub FullAt : Own T → Homes T → ℕ → Type 0
  FullAt d homes l = (x : T) × (get_elem? d.log (l - d.start) ≡ some x) × HomeAt homes l (Some x)

  -- the labels that a seat took from the queue
  abbrev pub weight_of : (ℕ → ℕ) → View T → ℕ
  weight_of w v = sum_by w v.own.popped + sum_by w v.own.exported + sum_by w v.own.relabelled + sum_by w v.theft.claims

  -- what a thief knows, by its stage
  abbrev pub Knows : ℕ → ℕ → ℕ → ℕ → ℕ → ℕ → Theft T → Stage → Type 0
  Knows tail real gap claimed holder j t Owns = j ≡ 0
  Knows tail real gap claimed holder j t Idle = Unit {0}
  Knows tail real gap claimed holder j t SawHead = t.at ≤ real
  Knows tail real gap claimed holder j t SawTail = (t.at ≤ real) × (t.upto ≤ tail)
  Knows tail real gap claimed holder j t Claimed = (j ≡ holder) × (0 < gap) × (t.at + gap ≡ real) × (half t ≡ claimed) × (t.gap ≤ gap)

  -- the values that a seat took from the queue are those that the owner put there
  abbrev pub AsLogged : Own T → Theft T → Type 0
  AsLogged d t = (length t.lot ≡ length t.claims) × ((i l : ℕ) → get_elem? t.claims i ≡ some l → (x : T) × (get_elem? t.lot i ≡ some x) × (get_elem? d.log (l - d.start) ≡ some x))

  abbrev pub unread : Theft T
  unread = record { was = 0; at = 0; gap = 0; upto = 0; claims = []; lot = [] }

  -- the owner's view is v
  pub record Kept (start : ℕ) (v : View T) (s : State (Option T) (View T)) : Type 0 where
    pub real : ℕ
    pub gap : ℕ
    -- how many values the one claim took, and the seat that holds it
    pub claimed : ℕ
    pub holder : ℕ
    pub from : v.own.start ≡ start
    pub slots : length s.homes ≡ 256
    pub words : s.words ≡ words_of (head_word real gap) v.own.tail
    pub order : InOrder v.own real gap claimed
    pub long : v.own.start + length v.own.log ≡ filled v.own
    pub full : (l : ℕ) → real ≤ l → l < filled v.own → FullAt v.own s.homes l
    pub free : (l : ℕ) → filled v.own ≤ l → l < real + 256 → BesideClaim real gap claimed l → Outside v.own.out_at v.own.out_len l → HomeAt s.homes l None
    pub each_seat : (j : ℕ) (u : View T) → get_elem? s.views j ≡ some u → Knows v.own.tail real gap claimed holder j u.theft u.stage
    pub each_lot : (j : ℕ) (u : View T) → get_elem? s.views j ≡ some u → AsLogged v.own u.theft
    -- a claim has a seat that holds it
    pub held : 0 < gap → (u : View T) × (get_elem? s.views holder ≡ some u) × (u.stage ≡ Claimed)
    -- each label below `real` left once
    pub told : (w : ℕ → ℕ) → sum_by (weight_of w) s.views ≡ sum_by w (labels start (real - start))

  -- the first seat is the owner's
  pub record LiveQueue (start : ℕ) (s : State (Option T) (View T)) : Type 0 where
    pub view : View T
    pub seated : get_elem? s.views 0 ≡ some view
    pub owns : view.stage ≡ Owns
    pub kept : Kept start view s

  -- the owner's view of an empty queue whose first value gets the label `start`
  abbrev pub opened : ℕ → View T
  opened start = record {
    stage = Owns;
    own = record { start = start; tail = start; aside = 0; log = []; out_at = start; out_len = 0; saw_real = start; saw_gap = 0; popped = []; exported = []; relabelled = [] };
    theft = unread;
  }
