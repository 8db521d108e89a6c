-- The requests of a worker stand in its lists after it let go of some, or of all that a task held that is over. For those
-- of others it owes a letter.
use Rattle.std.proofs.{Common.{◌≡◌, ◌⊎◌, ℕ, ◌==◌, Bool, true, false, List, [], ◌∷◌, set, get_or, if◌then◌else◌, ◌∙◌, refl, sym, ap, subst, arith, inl, inr}, lemmas.{Bool.{true≢false, false≢true, eqb-true, eqb-false, ltb-true, ltb-false}, Grind.get_or-set_at, List.{get_or-set_other, set_past}}}
use Rattle.exec_machine.specs.{declared.state.{Request.Request, MailMessage.TheVariants.CancelRequest, Waiting.Waiting}, Requests.{dropped, ends_by_drop, is_cancelled_by_drop, own_after_drop, joined_if, own_after_end}, World.{Own as Books, Common, no_request, request_of, task_of}, Tasks.{after_over, own_after_drops, own_after_over, own_after_waking_up, owes, requests_after_drops}}
use Rattle.exec_books.{specs.Listed.IsListed, proofs.{Listed.{KeepsIn, in_last, kept_joined, kept_left, over_listed}, MinePhases.drop_listed, MineLists.{AllMine, SameLists, one_mine, same_lists, still}}}

-- ONE

-- what stood in the lists of others than r stands there still
pub keeps_drop : (me : Books) (s : Common) (landed : List ℕ) (r k : ℕ) → (k == r) ≡ false → KeepsIn k me (own_after_drop me s r) landed landed
keeps_drop = grind (arith, kept_left, kept_joined)

again_listed : (me : Books) (landed : List ℕ) (r : ℕ) (it : Request) (ends : Bool) → ends_by_drop it ≡ ends → IsListed me landed r (dropped it)
    → IsListed (record (own_after_end ends r me) { cancels = joined_if (is_cancelled_by_drop it) (own_after_end ends r me).cancels r }) landed r (dropped it)
again_listed = grind (arith, over_listed, in_last, kept_joined)

-- SEVERAL

module _ (i : ℕ) (s : Common) (landed : List ℕ) where
  -- each request is as it was, or was let go
  abbrev IsLeft : List Request → Type 0
  IsLeft rs = (k : ℕ) → (get_or rs k no_request ≡ request_of s k) ⊎ (get_or rs k no_request ≡ dropped (request_of s k))

  worker_left : (rs : List Request) → IsLeft rs → (k : ℕ) → (get_or rs k no_request).worker ≡ (request_of s k).worker
  worker_left = grind arith

  dropped_left : (rs : List Request) → IsLeft rs → (r : ℕ) → dropped (get_or rs r no_request) ≡ dropped (request_of s r)
  dropped_left = grind arith

  left_then : (rs : List Request) → IsLeft rs → (r : ℕ) → IsLeft (set rs r (dropped (get_or rs r no_request)))
  left_then = grind (arith, get_or-set_other, eqb-false, eqb-true, get_or-set_at, ltb-true, dropped_left, set_past, ltb-false)

  one_dropped : (me : Books) (rs : List Request) → IsLeft rs → AllMine i me landed rs → (r : ℕ) → (request_of s r).worker ≡ i → AllMine i (own_after_drop me s r) landed (set rs r (dropped (get_or rs r no_request)))
  one_dropped me rs left mine r own =
      one_mine i me (own_after_drop me s r) landed landed rs r (dropped (get_or rs r no_request)) mine (keeps_drop me s landed r)
      (λ whose. subst (λ y. IsListed (own_after_drop me s r) landed r y) (sym (dropped_left rs left r)) (by (left r)))
    where
      was : IsListed me landed r (get_or rs r no_request)
      was = mine r (worker_left rs left r ∙ own)

      by : (get_or rs r no_request ≡ request_of s r) ⊎ (get_or rs r no_request ≡ dropped (request_of s r)) → IsListed (own_after_drop me s r) landed r (dropped (request_of s r))
      by (inl is) = drop_listed me landed r (request_of s r) (ends_by_drop (request_of s r)) (is_cancelled_by_drop (request_of s r)) refl refl (subst (λ y. IsListed me landed r y) is was)
      by (inr is) = again_listed me landed r (request_of s r) (ends_by_drop (request_of s r)) refl (subst (λ y. IsListed me landed r y) is was)

  all_dropped : (held : List ℕ) (me : Books) (rs : List Request) → IsLeft rs → AllMine i me landed rs → AllMine i (own_after_drops s i held me) landed (requests_after_drops i held rs)
  all_dropped [] me rs left mine = mine
  all_dropped (r ∷ held) me rs left mine = by ((request_of s r).worker == i) ((get_or rs r no_request).worker == i) refl (ap (λ n. n == i) (worker_left rs left r)) (all_dropped held)
    where
      by : (a b : Bool) → ((request_of s r).worker == i) ≡ a → b ≡ a
          → ((me : Books) (rs : List Request) → IsLeft rs → AllMine i me landed rs → AllMine i (own_after_drops s i held me) landed (requests_after_drops i held rs))
          → AllMine i (own_after_drops s i held (if a then own_after_drop me s r else owes me (request_of s r).worker (record { to = (request_of s r).worker; message = CancelRequest r }))) landed
          (requests_after_drops i held (if b then set rs r (dropped (get_or rs r no_request)) else rs))
      by true true own same later = later (own_after_drop me s r) (set rs r (dropped (get_or rs r no_request))) (left_then rs left r) (one_dropped me rs left mine r (eqb-true (request_of s r).worker i own))
      by false false own same later =
          later (owes me (request_of s r).worker (record { to = (request_of s r).worker; message = CancelRequest r })) rs left (still i (same_lists refl refl refl refl) refl mine)
      by true false own same later = absurd (false≢true same)
      by false true own same later = absurd (true≢false same)

  -- a task is over
  pub over_mine : (me : Books) → AllMine i me landed s.requests → (t : ℕ) → AllMine i (own_after_over me s i t) landed (after_over s i t).requests
  over_mine me mine t = still i (wakes_up (task_of s t).waiting) refl (all_dropped (task_of s t).held me s.requests (λ k. inl refl) mine)
    where
      left : Books
      left = own_after_drops s i (task_of s t).held me

      wakes_up : (w : Waiting) → SameLists left (own_after_waking_up s i w left)
      wakes_up = grind arith
