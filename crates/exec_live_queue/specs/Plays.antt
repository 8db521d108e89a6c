-- What each step of a run queue tells the seat that makes it.
use Rattle.std.specs.Prelude.{◌≡◌, ◌≢◌, ℕ, suc, ◌+◌, ◌-◌, ◌/◌, ◌%◌, ◌^◌, ◌<◌, ◌≤◌, List, [], ◌∷◌, ◌++◌, length, map, take, drop, replicate, Option, Some, None}
use Rattle.atomic_table.specs.Table.{Me, Step, Act, keeps, takes, gives, chain}
use Rattle.exec_live_queue.specs.{declared.view.{Own.Own, View.View, Stage.TheVariants.{Idle, SawHead, SawTail, Claimed}}, Numbers.{head_word, half, InOrder}, Live.labels}
use mathlib.Core.Option.{some}
use lib.ListN.{get_elem?}
use Rattle.exec_words.specs.{declared.head.Head.Head, Head.popped_head, Queue.{Queue, popped, claimed, released, published, overflowed, newest, restored}}

abbrev pub Sat : Type 0 → Type 0
Sat T = Me (Option T) (View T)

abbrev pub Told : Type 0 → Type 1
Told T = Step (Option T) → Sat T → ℕ → Sat T → Type 0

-- how many places are free beside a claim and what was popped past it
abbrev pub room : ℕ → ℕ → ℕ → ℕ
room tail real gap = real + 256 - (tail + gap)

-- the head after a pop: beside a claim the gap grows
abbrev pub after_pop : ℕ → ℕ → Head
after_pop real gap = popped_head record { real = real; gap = gap }

module _ {T : Type 0} where
  -- the queue as its owner knows it at this head: the plain queue of `exec_words`, whose transitions the steps make
  abbrev pub queue_at : Own T → ℕ → ℕ → Queue T
  queue_at d real gap = record { real = real; gap = gap; values = take (d.tail - real) (drop (real - d.start) d.log); held = take d.aside (drop (d.tail - d.start) d.log) }

  -- the slots of the labels from a on, with these in them
  abbrev pub hand : ℕ → List (Option T) → List (ℕ × Option T)
  hand a [] = []
  hand a (x ∷ xs) = (a % 256, x) ∷ hand (suc a) xs

  -- takes all of them, so that the seat carries the first label first
  abbrev pub take_all : ℕ → List (Option T) → Act (Option T)
  take_all a [] = keeps
  take_all a (x ∷ xs) = chain (take_all (suc a) xs) (takes (a % 256) x)

  -- gives back the slots that the seat carries, which have these in them
  abbrev pub give_all : List (Option T) → Act (Option T)
  give_all [] = keeps
  give_all (x ∷ xs) = chain gives (give_all xs)

  -- the owner saw this head last
  abbrev pub saw : View T → ℕ → ℕ → View T
  saw v real gap = record v { own = record v.own { saw_real = real; saw_gap = gap } }

  -- these slots are out with the owner
  abbrev pub out : View T → ℕ → ℕ → View T
  out v at len = record v { own = record v.own { out_at = at; out_len = len } }

  -- the head that was found stood like this to what the owner knows
  abbrev pub Found : Own T → ℕ → Type 0
  Found d n = (claimed : ℕ) × InOrder d (n / 512) (n % 512) claimed

  -- the owner saw the head, and some of the free slots behind the tail are out with it
  abbrev pub laid : (ℕ → ℕ) → Told T
  laid f st m n m' = Found m.0.own n
      × (m' ≡ (
        out (saw m.0 (n / 512) (n % 512)) m.0.own.tail (f (room m.0.own.tail (n / 512) (n % 512))),
        hand m.0.own.tail (replicate (f (room m.0.own.tail (n / 512) (n % 512))) None),
      ))

  -- the owner saw the head, and gave all its slots back, which are empty
  abbrev pub returned : Told T
  returned st m n m' = Found m.0.own n × (m' ≡ (out (saw m.0 (n / 512) (n % 512)) m.0.own.tail 0, []))

  -- an exchange that found another head than the one that was seen is a load
  abbrev pub missed : Told T
  missed = laid (λ room. 0)

  -- the owner popped the label `real`, whose slot is out with it, and wrote this gap
  abbrev pub popped_view : View T → ℕ → ℕ → View T
  popped_view v real gap = record v { own = record v.own { out_at = real + 256; out_len = 1; saw_real = real + 1; saw_gap = gap; popped = v.own.popped ++ real ∷ [] } }

  -- what it carries then: the value that its log has at that label
  abbrev pub Popped : View T → ℕ → ℕ → Sat T → Type 0
  Popped v real gap m' =
      (queue_at (popped_view v real (after_pop real gap).gap).own (real + 1) (after_pop real gap).gap ≡ popped (queue_at v.own real gap))
      × (x : T) × (get_elem? v.own.log (real - v.own.start) ≡ some x) × (m' ≡ (popped_view v real (after_pop real gap).gap, hand (real + 256) (Some x ∷ [])))

  -- the owner's pop by an exchange
  abbrev pub pops : Told T
  pops st m n m' = (n ≡ st.first → Popped m.0 m.0.own.saw_real m.0.own.saw_gap m') × (n ≢ st.first → missed st m n m')

  -- the owner's pop of a lone value by a store
  abbrev pub pops_last : Told T
  pops_last st m n m' = Popped m.0 m.0.own.saw_real 0 m'

  -- the values of a full queue, the oldest first
  abbrev pub whole : Own T → List T
  whole d = (queue_at d d.saw_real 0).values

  -- a full queue flowed over: the oldest half is kept aside under new labels, and the newest half is out with the owner
  abbrev pub overflowed_view : View T → View T
  overflowed_view v = record v {
    own = record v.own {
      aside = 128;
      log = v.own.log ++ take 128 (whole v.own);
      out_at = v.own.tail + 128;
      out_len = 128;
      saw_real = v.own.tail;
      saw_gap = 0;
      exported = v.own.exported ++ labels (v.own.saw_real + 128) 128;
      relabelled = v.own.relabelled ++ labels v.own.saw_real 128;
    };
  }

  -- what the owner carries then: the newest half
  abbrev pub Overflowed : View T → Sat T → Type 0
  Overflowed v m' =
      (queue_at (overflowed_view v).own v.own.tail 0 ≡ overflowed (queue_at v.own v.own.saw_real 0))
      × (m' ≡ (overflowed_view v, hand (v.own.tail + 128) (map Some (newest (queue_at v.own v.own.saw_real 0)))))

  -- the beginning of an overflow by an exchange
  abbrev pub flows_over : Told T
  flows_over st m n m' = (n ≡ st.first → Overflowed m.0 m') × (n ≢ st.first → missed st m n m')

  -- the values in the slots that a seat carries
  abbrev pub values_of : List (ℕ × Option T) → List T
  values_of [] = []
  values_of ((k, Some x) ∷ c) = x ∷ values_of c
  values_of ((k, None) ∷ c) = values_of c

  -- the owner showed these values, behind the others
  abbrev pub published_view : View T → List T → View T
  published_view v xs = record v { own = record v.own { tail = v.own.tail + length xs; log = v.own.log ++ xs; out_len = 0 } }

  -- the values that it carries; slots that are empty it gave back with the others
  abbrev pub publishes : Told T
  publishes st m n m' =
      ((real gap : ℕ) → m.0.own.start ≤ real → real ≤ m.0.own.tail → queue_at (published_view m.0 (values_of m.1)).own real gap ≡ published (queue_at m.0.own real gap) (values_of m.1))
      × (m' ≡ (published_view m.0 (values_of m.1), []))

  -- the end of an overflow: the half that was kept aside is in sight again
  abbrev pub restored_view : View T → View T
  restored_view v = record v { own = record v.own { tail = v.own.tail + v.own.aside; aside = 0 } }

  abbrev pub restores : Told T
  restores st m n m' = ((gap : ℕ) → queue_at (restored_view m.0).own m.0.own.tail gap ≡ restored (queue_at m.0.own m.0.own.tail gap)) × (m' ≡ (restored_view m.0, m.1))

  -- a thief saw the head, and then the tail
  abbrev pub at_head : View T → ℕ → View T
  at_head v n = record v { stage = SawHead; theft = record v.theft { was = v.theft.at; at = n / 512; gap = n % 512 } }

  abbrev pub saw_head : Told T
  saw_head st m n m' = m' ≡ (at_head m.0 n, m.1)

  abbrev pub saw_tail : Told T
  saw_tail st m n m' = (n + 256 ≤ 2 ^ 55) × (m' ≡ (record m.0 { stage = SawTail; theft = record m.0.theft { upto = n } }, m.1))

  -- a thief claimed the first half of the values that it saw, and carries them
  abbrev pub claimed_view : View T → List T → View T
  claimed_view v xs = record v {
    stage = Claimed;
    theft = record v.theft { gap = half v.theft; claims = v.theft.claims ++ labels v.theft.at (half v.theft); lot = v.theft.lot ++ xs };
  }

  -- the owner's own view at that step says which values these are
  abbrev pub Claims : View T → Sat T → Type 0
  Claims v m' = (d : Own T) × (claimed (queue_at d v.theft.at 0) (half v.theft) ≡ queue_at d (v.theft.at + half v.theft) (half v.theft))
      × (xs : List T) × (xs ≡ take (half v.theft) (queue_at d v.theft.at 0).values) × (length xs ≡ half v.theft) × (half v.theft ≤ 128)
      × (m' ≡ (claimed_view v xs, hand v.theft.at (map Some xs)))

  abbrev pub claims : Told T
  claims st m n m' = (n ≡ st.first → Claims m.0 m') × (n ≢ st.first → m' ≡ (at_head m.0 n, m.1))

  -- the release found a wider gap, since the owner popped past the claim
  abbrev pub Widened : View T → ℕ → Sat T → Sat T → Type 0
  Widened v n m m' = (m' ≡ (record v { theft = record v.theft { gap = n % 512 } }, m.1)) × (n ≡ head_word (v.theft.at + n % 512) (n % 512)) × (v.theft.gap < n % 512) × (n % 512 ≤ 256)

  -- a thief released its claim; or the owner popped past it since, and the gap is wider
  abbrev pub releases : Told T
  releases st m n m' = (n ≡ st.first → ((d : Own T) → released (queue_at d (m.0.theft.at + m.0.theft.gap) m.0.theft.gap) ≡ queue_at d (m.0.theft.at + m.0.theft.gap) 0) × (m' ≡ (record m.0 { stage = Idle }, [])))
      × (n ≢ st.first → Widened m.0 n m m')

  -- a seat that is split off is a thief's, which has seen nothing
  abbrev pub newcomer : View T
  newcomer = record {
    stage = Idle;
    own = record { start = 0; tail = 0; aside = 0; log = []; out_at = 0; out_len = 0; saw_real = 0; saw_gap = 0; popped = []; exported = []; relabelled = [] };
    theft = record { was = 0; at = 0; gap = 0; upto = 0; claims = []; lot = [] };
  }
