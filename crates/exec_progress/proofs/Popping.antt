-- A pop of the own run queue.
use Rattle.std.proofs.{Common.{◌≡◌, ℕ, ◌+◌, ◌-◌, ◌<◌, ◌==◌, Bool, true, false, not, ◌&&◌, List, [], ◌∷◌, length, if◌then◌else◌, refl, sym, ap, subst, arith}, lemmas.Bool.{true≢false, eq-eqb, eqb-true}}
use Rattle.exec_words.specs.{declared.head.Head.Head, Queue.{Queue, head_of, popped, tail_of}}
use Rattle.exec_machine.specs.{declared.{config.Configuration.Configuration, event.Event.Event as event}, Tests.is_empty, World.{Common, Own as Books}}
use Rattle.exec_moves.specs.{declared.{handing.{AfterPop.AfterPop, First.First, InPop.InPop}, place.Place.Place}, Callback.is_of_pool, Counts.one_if, Move.move_pop, Pop.{after_empty_pop, after_pop, judge_pop, load_pop_head, pops as pops_queue, same_head}, State.{Desk, Things, does, queue_of, turns}, Thing.with_queue}
use Rattle.exec_progress.{specs.{Going.{Falls, FallsAt, seen, stands}, Heights.{exchange_pop, leave_search}, Ranks.{is_fresh, rank}}, proofs.{Steps.{Leads, polls_next, same_queue, leads}, Tools.either}}

-- a head that was loaded is the queue's
pub same_again : (h : Head) → same_head h h ≡ true
same_again h = rw (eq-eqb h.real h.real refl, eq-eqb h.gap h.gap refl) refl

-- an exchange stands above what follows the pop, whether its head is the queue's or not
exchange_high : (below : ℕ) (v : Bool) → below < exchange_pop below v
exchange_high below true = omega arith
exchange_high below false = omega arith

-- no value is between head and tail
empty_by : (real : ℕ) (vs : List ℕ) → real + length vs - real ≡ 0 → vs ≡ []
empty_by real [] h = refl
empty_by real (v ∷ vs) h = let no : ⊥ = omega (arith, h) in absurd no

-- what a pop does, by the values
pops_none : (c : Configuration) (i : ℕ) (b : AfterPop) (d : Desk) (q : Queue ℕ) → q.values ≡ [] → pops_queue c i b d q ≡ turns (after_empty_pop c i b) d q
pops_none c i b d q h = rw h refl

pops_some : (c : Configuration) (i : ℕ) (b : AfterPop) (d : Desk) (q : Queue ℕ) (t : ℕ) (ts : List ℕ) → q.values ≡ t ∷ ts → pops_queue c i b d q ≡ does event.Turn (after_pop c b t d) (popped q)
pops_some c i b d q t ts h = rw h refl

module _ (c : Configuration) (i : ℕ) (me : Books) (s : Common) (d : Desk) (x : Things) where
  -- one step above, where the head was loaded just now
  fresh_low : (below : ℕ) (y : Things) → exchange_pop below (is_fresh y i (head_of (queue_of y i))) ≡ exchange_pop below true
  fresh_low below y = ap (exchange_pop below) (same_again (head_of (queue_of y i)))

  -- nothing is kept aside here
  abbrev NoneAside : Type 0
  NoneAside = (queue_of x i).held ≡ []

  -- so where the queue is empty, both its signs are off
  no_queue : (queue_of x i).values ≡ [] → NoneAside → one_if (is_of_pool s i && not (is_empty (queue_of x i).values)) + one_if (is_of_pool s i && not (is_empty (queue_of x i).held)) ≡ 0
  no_queue = grind arith

  -- it is empty: the pick goes on
  empties : (p : InPop) (f : First) → (queue_of x i).values ≡ [] → NoneAside → Leads c i me s d x (Place.Pop p (AfterPop.Pick f)) (after_empty_pop c i (AfterPop.Pick f)) x
  empties InPop.PopAlone First.Own h a = grind (arith, leads, no_queue)
  empties InPop.PopAlone First.Global h a = grind (arith, leads, no_queue)
  empties InPop.LoadPopHead First.Own h a = grind (arith, leads, no_queue)
  empties InPop.LoadPopHead First.Global h a = grind (arith, leads, no_queue)
  empties InPop.StorePop First.Own h a = grind (arith, leads, no_queue)
  empties InPop.StorePop First.Global h a = grind (arith, leads, no_queue)
  empties (InPop.ExchangePop g) First.Own h a = grind (arith, leads, exchange_high, no_queue)
  empties (InPop.ExchangePop g) First.Global h a = grind (arith, leads, exchange_high, no_queue)

  -- it has something: that is loaded, and taken
  abbrev StoresOrExchanges : InPop → First → Type 0
  StoresOrExchanges p f =
      Leads c i me s d x (Place.Pop p (AfterPop.Pick f)) (Place.Pop InPop.StorePop (AfterPop.Pick f)) x
      × Leads c i me s d x (Place.Pop p (AfterPop.Pick f)) (Place.Pop (InPop.ExchangePop (head_of (queue_of x i))) (AfterPop.Pick f)) x

  loaded : (f : First) → StoresOrExchanges InPop.LoadPopHead f
  loaded = grind (arith, leads, fresh_low)

  lost : (g : Head) → is_fresh x i g ≡ false → (f : First) → StoresOrExchanges (InPop.ExchangePop g) f
  lost = grind (arith, leads, fresh_low)

  -- by what was loaded
  judged : (p : InPop) (f : First) → NoneAside → StoresOrExchanges p f → Falls c i (seen (Place.Pop p (AfterPop.Pick f)) me) s (stands (Place.Pop p (AfterPop.Pick f)) d) x
      (with_queue i x (load_pop_head c i (AfterPop.Pick f) (stands (Place.Pop p (AfterPop.Pick f)) d) (queue_of x i)))
  judged p f a goes =
      let q = queue_of x i in
      subst (Leads c i me s d x (Place.Pop p (AfterPop.Pick f)) (judge_pop c i (AfterPop.Pick f) (head_of q) (tail_of q - q.real))) (sym (same_queue i x))
      (by_length (tail_of q - q.real == 0) refl)
    where
      by_head : (v : Bool) → Leads c i me s d x (Place.Pop p (AfterPop.Pick f)) (if v then Place.Pop InPop.StorePop (AfterPop.Pick f) else Place.Pop (InPop.ExchangePop (head_of (queue_of x i))) (AfterPop.Pick f)) x
      by_head true = goes.0
      by_head false = goes.1

      by_length : (v : Bool) → (tail_of (queue_of x i) - (queue_of x i).real == 0) ≡ v → Leads c i me s d x (Place.Pop p (AfterPop.Pick f))
          (if v then after_empty_pop c i (AfterPop.Pick f)
          else if (tail_of (queue_of x i) - (queue_of x i).real == 1) && ((queue_of x i).gap == 0) then Place.Pop InPop.StorePop (AfterPop.Pick f) else Place.Pop (InPop.ExchangePop (head_of (queue_of x i))) (AfterPop.Pick f)) x
      by_length true h = empties p f (empty_by (queue_of x i).real (queue_of x i).values (eqb-true (tail_of (queue_of x i) - (queue_of x i).real) 0 h)) a
      by_length false h = by_head ((tail_of (queue_of x i) - (queue_of x i).real == 1) && ((queue_of x i).gap == 0))

  -- above all of a poll's beginning
  high : (p : InPop) (f : First) → leave_search 0 < rank c i (stands (Place.Pop p (AfterPop.Pick f)) d) x (Place.Pop p (AfterPop.Pick f))
  high = grind arith

  -- the oldest leaves it
  takes : (p : InPop) (f : First) → NoneAside → Falls c i (seen (Place.Pop p (AfterPop.Pick f)) me) s (stands (Place.Pop p (AfterPop.Pick f)) d) x
      (with_queue i x (pops_queue c i (AfterPop.Pick f) (stands (Place.Pop p (AfterPop.Pick f)) d) (queue_of x i)))
  takes p f a = by (queue_of x i).values refl
    where
      by : (vs : List ℕ) → (queue_of x i).values ≡ vs → Falls c i (seen (Place.Pop p (AfterPop.Pick f)) me) s (stands (Place.Pop p (AfterPop.Pick f)) d) x
          (with_queue i x (pops_queue c i (AfterPop.Pick f) (stands (Place.Pop p (AfterPop.Pick f)) d) (queue_of x i)))
      by [] h = grind (arith, pops_none, same_queue, empties)
      by (t ∷ ts) h = grind (arith, pops_some, polls_next, high)

  exchanges : (g : Head) (f : First) → NoneAside → Falls c i (seen (Place.Pop (InPop.ExchangePop g) (AfterPop.Pick f)) me) s (stands (Place.Pop (InPop.ExchangePop g) (AfterPop.Pick f)) d) x
      (move_pop c i (stands (Place.Pop (InPop.ExchangePop g) (AfterPop.Pick f)) d) x (InPop.ExchangePop g) (AfterPop.Pick f))
  exchanges g f a =
      let p = Place.Pop (InPop.ExchangePop g) (AfterPop.Pick f) in
      either c i (seen p me) s (stands p d) x (with_queue i x) (same_head g (head_of (queue_of x i)))
      (pops_queue c i (AfterPop.Pick f) (stands p d) (queue_of x i)) (load_pop_head c i (AfterPop.Pick f) (stands p d) (queue_of x i))
      (λ h. takes (InPop.ExchangePop g) f a) (λ h. judged (InPop.ExchangePop g) f a (lost g h f))

  pub pops : (p : InPop) (b : AfterPop) → FallsAt c i me s d x (Place.Pop p b)
  pops p AfterPop.Discard it = absurd (true≢false it.open_still)
  pops InPop.PopAlone (AfterPop.Pick f) it = takes InPop.PopAlone f it.aside
  pops InPop.LoadPopHead (AfterPop.Pick f) it = judged InPop.LoadPopHead f it.aside (loaded f)
  pops (InPop.ExchangePop g) (AfterPop.Pick f) it = exchanges g f it.aside
  pops InPop.StorePop (AfterPop.Pick f) it = takes InPop.StorePop f it.aside
