-- What two calls tell, one after the other, and the room that they need.
use Rattle.std.proofs.{Common.{◌≡◌, ℕ, ◌+◌, ◌<◌, ◌≤◌, List, [], ◌∷◌, ◌++◌, length, Option, ap, ◌∙◌, arith, length-append}, lemmas.List.append_assoc}
use Rattle.exec_base.specs.declared.slab.Id.{Id}
use Rattle.exec_outcomes.specs.Accounts.{Account}
use Rattle.exec_request.specs.{States.Ended, declared.output.RequestOutput.RequestOutput}
use Rattle.exec_waiters.specs.{Events.{told_by_orphan, told_by_close, told_by_finish, output_told}, Told.{Told, HasPlaces, Tells}, declared.{deferred.{Deferred.Deferred, Retired.Retired}, waiter.{Waiter.Waiter, Entry.Entry}, observer.Observer.Observer}}
use Rattle.exec_driver.specs.Steps.{both}

added : {A : Type 0} (a b c x y : List A) → b ≡ a ++ x → c ≡ b ++ y → c ≡ a ++ (x ++ y)
added {A = A} a b c x y one other = other ∙ ap (λ (z : List A). z ++ y) one ∙ append_assoc a x y

longer : {A : Type 0} (a b x : List A) → b ≡ a ++ x → length x ≤ 1 → length b ≤ length a + 1
longer a b x is few = let long = ap length is ∙ length-append a x in omega (arith, long, few)

module _ {S F : Type 0} where
  pub tells_both : (a b c : Deferred S F) (x y : Told S F) → Tells a b x → Tells b c y → Tells a c (both x y)
  tells_both = grind (arith, added)

  -- at most one of each
  pub record IsFew (t : Told S F) : Type 0 where
    pub wakes : length t.wakes ≤ 1
    pub outputs : length t.outputs ≤ 1
    pub resources : length t.resources ≤ 1
    pub completions : length t.completions ≤ 1
    pub results : length t.results ≤ 1

  pub few_orphaned : (id : Id) (o : Option (Entry S F)) → IsFew (told_by_orphan id o)
  few_orphaned = grind arith

  pub few_closed : (id : Id) (o : Option (Entry S F)) → IsFew (told_by_close id o)
  few_closed = grind arith

  pub room_left : (m n : ℕ) (d d' : Deferred S F) (t : Told S F) → n < m → IsFew t → Tells d d' t → HasPlaces d m → HasPlaces d' n
  room_left = grind (arith, longer)

  -- who has room for so many has it for fewer
  pub room_within : (m n : ℕ) (d : Deferred S F) → n ≤ m → HasPlaces d m → HasPlaces d n
  room_within = grind arith

  few_output : (id : Id) (told : RequestOutput) (o : Observer S F) (r : Retired) → IsFew (record (output_told id told o) { resources = r ∷ [] })
  few_output = grind arith

  pub few_finished : (id : Id) (w : Waiter S F) (how : Ended) (account : Option Account) → IsFew (told_by_finish id w how account)
  few_finished id w how account = few_output id _ w.observer _
