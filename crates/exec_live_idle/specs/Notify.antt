-- What a wake by the idle set makes of the seat that wakes, v to w, and of what it wakes by, r to s.
use Rattle.std.specs.Prelude.{◌≡◌, ℕ, ◌-◌, ◌<◌, ◌⊎◌, Some, [], ◌∷◌, ◌++◌}
use Rattle.exec_live_idle.specs.declared.view.View.{View}

-- the seat is as before, but for what it found
abbrev pub Saw : View → View → Type 0
Saw v w = w ≡ record v { saw = w.saw; took = w.took; last = w.last; before = w.before }

-- and claimed
abbrev pub HoldsStill : View → View → Type 0
HoldsStill v w = w ≡ record v { saw = w.saw; took = w.took; last = w.last; before = w.before; claims = w.claims }

-- it holds one count fewer, and took none
abbrev pub HoldsLess : View → View → Type 0
HoldsLess v w = HoldsStill (record v { held = v.held - 1 }) w × (w.took ≡ v.took)

-- its last step found no worker
abbrev pub FoundNone : View → Type 0
FoundNone w = w.last ≡ Some 0

-- it found no worker, and then returned its count besides others
abbrev pub ReturnedOne : View → Type 0
ReturnedOne w = (w.before ≡ Some 0) × (0 < w.saw)

-- it claimed and woke nobody
abbrev pub WokeNobody : {R : Type 0} → View → R → View → R → Type 0
WokeNobody v r w s = (w.claims ≡ v.claims) × (s ≡ r)

module _ {R : Type 0} (wakes : R → ℕ → R → Type 0) where
  -- it claimed a worker, and woke it
  abbrev pub Woke : View → R → View → R → Type 0
  Woke v r w s = (worker : ℕ) × (w.claims ≡ v.claims ++ worker ∷ []) × wakes r worker s

  -- A wake for a backlog in a run queue: it wakes where its exchange found no search count, and took one, and nobody
  -- where a count was there besides, or it found no worker
  abbrev pub Kicked : View → R → View → R → Type 0
  Kicked v r w s = HoldsStill v w
      × (((w.saw ≡ 0) × (w.took ≡ Some 0) × Woke v r w s) ⊎ (WokeNobody v r w s × ((0 < w.saw) ⊎ FoundNone w)))

  -- A wake for the global queue: it wakes nobody only where it found no worker. That a count is there is no reason
  abbrev pub Notified : View → R → View → R → Type 0
  Notified v r w s = HoldsStill v w × (Woke v r w s ⊎ (WokeNobody v r w s × (FoundNone w ⊎ ReturnedOne w)))

  -- the seat holds one count fewer: a worker has it that was woken; or it was returned besides others
  abbrev pub HandedOver : View → R → View → R → Type 0
  HandedOver v r w s = HoldsLess v w × (((w.saw ≡ v.saw) × Woke v r w s) ⊎ (WokeNobody v r w s × ReturnedOne w))
