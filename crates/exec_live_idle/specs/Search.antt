-- What the calls of a searcher make of its seat's view v and of the backlog b that it reaches: w and d.
use Rattle.std.specs.Prelude.{◌≡◌, ◌≢◌, ℕ, ◌*◌, ◌%◌, ◌<◌, ◌≤◌, ◌⊎◌, Bool, true, false, if◌then◌else◌, Some, None}
use Rattle.exec_words.specs.{declared.idle.Park.{Park, TheVariants.{Wait, Run, Search}}, Generator.stirred}
use Rattle.exec_live_idle.specs.{declared.view.View.View, Plays.{published, withdrawn, counted, returned}, Notify.HoldsStill}

-- how many search counts a searcher holds
abbrev pub counts_of : Bool → ℕ
counts_of searching = if searching then 1 else 0

-- it holds a count to search with: it had one, or fewer than half of the workers searched, and it took one
abbrev pub MaySearch : View → View → Type 0
MaySearch v w = ((v.held ≡ 1) × (w ≡ v))
    ⊎ ((v.held ≡ 0) × (w ≡ record (counted v w.saw) { held = 1; took = w.took }) × (2 * w.saw < v.workers))

-- it doesn't search: it is alone, or half of the workers do already
abbrev pub MayNot : View → View → Type 0
MayNot v w = ((v.workers ≡ 1) × (w ≡ v)) ⊎ ((v.held ≡ 0) × (w ≡ counted v w.saw) × (v.workers ≤ 2 * w.saw))

-- its bit is in, and it holds no count: one that it held is returned after that
abbrev pub Shows : View → View → Type 0
Shows v w = ((v.held ≡ 0) × (w ≡ published v)) ⊎ ((v.held ≡ 1) × (w ≡ returned (published v) w.saw))

-- its bit is out, which it found, or which a claim had taken
abbrev pub Withdraws : View → View → Type 0
Withdraws v w = (w ≡ withdrawn v true) ⊎ (w ≡ withdrawn v false)

-- the seat is as before, but for its counts, and what it saw and claimed
abbrev pub StaysUp : View → View → Type 0
StaysUp v w = HoldsStill (record v { held = w.held }) w

module _ {B : Type 0} where
  -- a search that goes over the queues, from the worker on that the generator picks
  abbrev pub Scans : (B → ℕ → Bool → B → Type 0) → View → B → ℕ → Bool → View → B → ℕ → Type 0
  Scans steals v b seed moved w d next = MaySearch v w × (v.workers ≢ 1) × (next ≡ stirred seed) × steals b (next % v.workers) moved d

  -- a search that doesn't begin
  abbrev pub Skips : View → B → ℕ → View → B → ℕ → Type 0
  Skips v b seed w d next = MayNot v w × (d ≡ b) × (next ≡ seed)

  -- A count is returned, if there is one, and nobody is claimed. The last is handed on by a kick, from what is known then
  abbrev pub Leaves : (View → B → View → B → Type 0) → View → B → View → B → Type 0
  Leaves kicks v b w d = HoldsStill (record v { held = 0 }) w
      × (((v.held ≡ 0) × (w ≡ v) × (d ≡ b))
      ⊎ (((v.held ≡ 1) × (w ≡ returned v w.saw) × (0 < w.saw) × (d ≡ b)) ⊎ ((v.held ≡ 1) × kicks (returned v 0) b w d)))

  module _ (looks peers : B → Bool → B → Type 0) (kicks : View → B → View → B → Type 0) where
    -- The last look, after the bit is in and a held count is returned. b is what the look at the global queue left.
    -- Wait: a search count was there, at the load or at the exchange; or no other queue could be stolen from
    abbrev pub Waits : View → B → View → B → Type 0
    Waits v b w d = (w ≡ counted (record v { published = true; held = 0 }) w.saw)
        × (((0 < w.saw) × (d ≡ b)) ⊎ (((w.saw ≡ 0) × peers b false d) ⊎ ((0 < w.saw) × peers b true d)))

    -- Run: the bit is out again. A claim's count is kept; where none came and the last was returned, it is handed on
    abbrev pub Reruns : View → B → View → B → Type 0
    Reruns v b w d = StaysUp v w × (((v.held ≡ 0) × Withdraws (published v) w × (d ≡ b))
        ⊎ (((v.held ≡ 1) × Withdraws (returned (published v) w.saw) w × ((w.held ≡ 1) ⊎ (0 < w.saw)) × (d ≡ b))
        ⊎ ((v.held ≡ 1) × (w.held ≡ 0) × kicks (withdrawn (returned (published v) 0) true) b w d)))

    -- Search: the bit is out again, and a count was taken where the exchange found none
    abbrev pub Finds : View → B → View → B → Type 0
    Finds v b w d = (w ≡ record v { held = 1; saw = w.saw; took = Some 0; last = None; before = None })
        × peers b true d

    abbrev pub Parks : View → B → Park → View → B → Type 0
    Parks v b Wait w d = (seen : B) × looks b false seen × Waits v seen w d
    Parks v b Run w d = (seen : B) × looks b true seen × Reruns v seen w d
    Parks v b Search w d = (seen : B) × looks b false seen × Finds v seen w d

  -- Looks that ask for a search, each with a search that moves nothing: from v, b and the seed to w, d and the next seed
  module _ (looks peers : B → Bool → B → Type 0) (steals : B → ℕ → Bool → B → Type 0) (kicks : View → B → View → B → Type 0) (v : View) (b : B) (seed : ℕ) where
    pub data Rounds : View → B → ℕ → Type 0 where
      NoRound : Rounds v b seed
      OneMore : (u x w : View) (c y d : B) (at next : ℕ) → Rounds u c at → Parks looks peers kicks u c Search x y → (Skips x y at w d next ⊎ Scans steals x y at false w d next) → Rounds w d next

    -- the rounds end with a look that asks for none, or with a search that moves values
    abbrev pub LooksTo : Park → View → B → ℕ → Type 0
    LooksTo park w d next = (u : View) × (c : B) × Rounds u c next × Parks looks peers kicks u c park w d

    abbrev pub SearchesTo : View → B → ℕ → Type 0
    SearchesTo w d next = (u : View) × (x : View) × (c : B) × (y : B) × (at : ℕ) × Rounds u c at × Parks looks peers kicks u c Search x y × Scans steals x y at true w d next
