-- The requests of one worker stand in its lists: what one changed request, one new one, or other books leave of that.
use Rattle.std.{proofs.{Common.{◌≡◌, ℕ, ◌≤◌, ◌==◌, Bool, true, false, List, [], ◌∷◌, ◌++◌, length, set, get_or, refl, sym, subst, arith}, lemmas.{Bool.{eqb-true, eqb-false, ltb-true, ltb-false}, Grind.get_or-set_at, List.{get_or-set_other, get_or_past, length-set, length-append}}, Math.{ListN.get_or-append, Seq.get_or-append_seam}}, specs.Prelude.nat_lt}
use Rattle.exec_machine.specs.{declared.state.Request.Request, World.{Own as Books, no_request}}
use Rattle.exec_books.{specs.Listed.IsListed, proofs.Listed.{KeepsIn, listed_by, no_listed}}

-- THE SAME LISTS

pub record SameLists (me me' : Books) : Type 0 where
  pub ready : me'.ready ≡ me.ready
  pub unenrolled : me'.unenrolled ≡ me.unenrolled
  pub cancels : me'.cancels ≡ me.cancels
  pub ended : me'.ended ≡ me.ended

pub same_lists : {me me' : Books} → me'.ready ≡ me.ready → me'.unenrolled ≡ me.unenrolled → me'.cancels ≡ me.cancels → me'.ended ≡ me.ended → SameLists me me'
same_lists ready unenrolled cancels ended = record { ready = ready; unenrolled = unenrolled; cancels = cancels; ended = ended }

pub keeps_same : {me me' : Books} (landed : List ℕ) → SameLists me me' → (k : ℕ) → KeepsIn k me me' landed landed
keeps_same = grind arith

pub books : (me me' : Books) (landed : List ℕ) (k : ℕ) (y : Request) → SameLists me me' → IsListed me landed k y → IsListed me' landed k y
books me me' landed k y same it = listed_by k me me' landed landed y (keeps_same landed same k) it

-- what the lists don't tell of a request
pub marked : (me : Books) (landed : List ℕ) (k : ℕ) (it y : Request) → y.phase ≡ it.phase → y.cancelled ≡ it.cancelled → y.cancel_staged ≡ it.cancel_staged → y.timer ≡ it.timer
    → y.operation.deadline ≡ it.operation.deadline → y.released ≡ it.released → IsListed me landed k it → IsListed me landed k y
marked = grind arith

module _ (i : ℕ) where
  -- those of worker i stand there
  abbrev pub AllMine : Books → List ℕ → List Request → Type 0
  AllMine me landed rs = (k : ℕ) → (get_or rs k no_request).worker ≡ i → IsListed me landed k (get_or rs k no_request)

  -- the requests are the same, and so are the lists
  pub still : {me me' : Books} {landed : List ℕ} {rs rs' : List Request} → SameLists me me' → rs' ≡ rs → AllMine me landed rs → AllMine me' landed rs'
  still = grind (arith, books)

  module _ (me me' : Books) (landed landed' : List ℕ) (rs : List Request) where
    -- one request has changed
    pub one_mine : (r : ℕ) (y : Request) → AllMine me landed rs → ((k : ℕ) → (k == r) ≡ false → KeepsIn k me me' landed landed') → (y.worker ≡ i → IsListed me' landed' r y) → AllMine me' landed' (set rs r y)
    one_mine r y mine keeps new k = by (k == r) refl (nat_lt r (length rs)) refl
      where
        by : (b : Bool) → (k == r) ≡ b → (within : Bool) → nat_lt r (length rs) ≡ within → (get_or (set rs r y) k no_request).worker ≡ i → IsListed me' landed' k (get_or (set rs r y) k no_request)
        by false other within h =
            subst (λ (it : Request). it.worker ≡ i → IsListed me' landed' k it) (sym (get_or-set_other rs r k y no_request (eqb-false k r other)))
            (λ whose. listed_by k me me' landed landed' (get_or rs k no_request) (keeps k other) (mine k whose))
        by true same true h =
            let is = eqb-true k r same in
            subst (λ (it : Request). it.worker ≡ i → IsListed me' landed' k it) (sym (get_or-set_at rs r k y no_request is (ltb-true r (length rs) h)))
            (λ whose. subst (λ j. IsListed me' landed' j y) (sym is) (new whose))
        by true same false h =
            let past : length (set rs r y) ≤ k = omega (arith, ltb-false r (length rs) h, eqb-true k r same, length-set rs r y) in
            subst (λ (it : Request). it.worker ≡ i → IsListed me' landed' k it) (sym (get_or_past (set rs r y) k no_request past)) (λ whose. no_listed me' landed' k)

    -- one request is new
    pub new_mine : (y : Request) → AllMine me landed rs → ((k : ℕ) → (k == length rs) ≡ false → KeepsIn k me me' landed landed') → IsListed me' landed' (length rs) y → AllMine me' landed' (rs ++ y ∷ [])
    new_mine y mine keeps new k = by (k == length rs) refl (nat_lt k (length rs)) refl
      where
        by : (b : Bool) → (k == length rs) ≡ b → (within : Bool) → nat_lt k (length rs) ≡ within → (get_or (rs ++ y ∷ []) k no_request).worker ≡ i → IsListed me' landed' k (get_or (rs ++ y ∷ []) k no_request)
        by true last within h =
            let is = eqb-true k (length rs) last in
            subst (λ j. (get_or (rs ++ y ∷ []) j no_request).worker ≡ i → IsListed me' landed' j (get_or (rs ++ y ∷ []) j no_request)) (sym is)
            (subst (λ (it : Request). it.worker ≡ i → IsListed me' landed' (length rs) it) (sym (get_or-append_seam rs y [] no_request)) (λ whose. new))
        by false other true h =
            subst (λ (it : Request). it.worker ≡ i → IsListed me' landed' k it) (sym (get_or-append rs (y ∷ []) no_request k (ltb-true k (length rs) h)))
            (λ whose. listed_by k me me' landed landed' (get_or rs k no_request) (keeps k other) (mine k whose))
        by false other false h =
            let past : length (rs ++ y ∷ []) ≤ k = omega (arith, ltb-false k (length rs) h, eqb-false k (length rs) other, length-append rs (y ∷ [])) in
            subst (λ (it : Request). it.worker ≡ i → IsListed me' landed' k it) (sym (get_or_past (rs ++ y ∷ []) k no_request past)) (λ whose. no_listed me' landed' k)

  -- one request has changed, of which the lists don't tell that
  pub mark_mine : {me me' : Books} {landed : List ℕ} (rs : List Request) (r : ℕ) (y : Request) → SameLists me me' → AllMine me landed rs → (y.worker ≡ i → IsListed me landed r y) → AllMine me' landed (set rs r y)
  mark_mine {me} {me'} {landed} rs r y same mine new =
      one_mine me me' landed landed rs r y mine (λ k other. keeps_same landed same k) (λ whose. books me me' landed r y same (new whose))
