-- What stands on the desk once a request is over.
use Rattle.exec_invariants.{proofs.{Names.{◌≡◌, ℕ, ◌+◌, ◌==◌, not, Bool, false, List, [], ◌∷◌, ◌++◌, filter, length, map, Some, is_some, if◌then◌else◌, sym, ap, ◌∙◌, arith, append-nil, length-append, map-append, Slab, removed, Id, TaskNo, RequestOutput, finished_for, waker_in, is_held_by, Tells, Told, tasks_told as tasks_of, Deferred, Forwarded, Entry, Pending, Waiter, Request, is_applied, Heard, Slots, vacated, Desk, has_number, told_of_end, waker_of, Reply, number_in, awaited_from, awaits_entry, completions_in, results_in, slots_seen}, ServedEnds.{TellsEnd, answers_by, let_go_by}, Slotted.{OneSlot, awaited_over, awaited_removed, slots_vacated, slots_written}}, specs.Rooted.IsNear}

-- what stands there that a step of this kind changes
pub record OnDesk (d : Desk) (numbers : List ℕ) (s : Slab (Entry Reply Reply)) (left : Deferred Reply Reply) : Type 0 where
  pub wakes : d.wakes ≡ map (λ t. t.0) left.notes.wakes.items
  pub outputs : d.outputs ≡ length left.outputs.items
  pub completions : d.completions ≡ completions_in left.notes.completions.items
  pub results : d.results ≡ results_in left.results.items
  pub requests : d.requests ≡ slots_seen numbers s
  pub awaited : d.awaited ≡ awaited_from 0 numbers s.slots

module _ (d : Desk) where
  abbrev pub made : List ℕ → ℕ → List ℕ → List ℕ → Slots → List ℕ → Desk
  made wakes outputs completions results requests awaited =
      record d { wakes = wakes; outputs = outputs; completions = completions; results = results; requests = requests; awaited = awaited }

  made_same : {a a' : List ℕ} {b b' : ℕ} {c c' : List ℕ} {e e' : List ℕ} {f f' : Slots} {g g' : List ℕ} → a ≡ a' → b ≡ b' → c ≡ c' → e ≡ e' → f ≡ f' → g ≡ g' → made a b c e f g ≡ made a' b' c' e' f' g'
  made_same {a' = a'} {b = b} {b' = b'} {c = c} {c' = c'} {e = e} {e' = e'} {f = f} {f' = f'} {g = g} ha hb hc he hf hg =
      ap (λ x. made x b c e f g) ha ∙ ap (λ x. made a' x c e f g) hb ∙ ap (λ x. made a' b' x e f g) hc ∙ ap (λ x. made a' b' c' x f g) he ∙ ap (λ x. made a' b' c' e' x g) hf ∙ ap (λ x. made a' b' c' e' f' x) hg

  -- what the machine makes of it, by who holds it and whether its end goes elsewhere
  told_by : (k : ℕ) (r : Request) (held applied : Bool) → r.observed ≡ held → is_applied r.forwarding ≡ applied
      → told_of_end k r d
      ≡ (if not held then made d.wakes (d.outputs + 1) d.completions d.results (vacated k d.requests) d.awaited
      else if applied then made d.wakes d.outputs d.completions (d.results ++ k ∷ []) (vacated k d.requests) d.awaited
      else made (if has_number k d.awaited then d.wakes ++ waker_of r.waiter else d.wakes) d.outputs d.completions d.results d.requests (filter (λ q. not (q == k)) d.awaited))
  told_by = grind arith

module _ (d : Desk) (numbers : List ℕ) (s : Slab (Entry Reply Reply)) (left left' : Deferred Reply Reply) (id : Id) (it : Waiter Reply Reply) (told : RequestOutput) (t : Told Reply Reply) (r : Request)
    (on : OnDesk d numbers s left) (one : OneSlot numbers s id) (is_it : one.e ≡ Pending it) (tells : TellsEnd id told it.observer t) (adds : Tells left left' t) (near : IsNear it.observer r.forwarding) (held : r.observed ≡ is_held_by it.observer)
    (waits : (u : TaskNo) → waker_in it.observer ≡ Some u → r.waiter ≡ Some u.0) (replies : (reply : Reply) → it.observer ≡ Forwarded reply → reply.of ≡ Heard.Request (number_in numbers id)) where
  abbrev pub k : ℕ
  k = number_in numbers id

  abbrev pub desk_then : Slab (Entry Reply Reply) → Desk
  desk_then s' = made d (map (λ t. t.0) left'.notes.wakes.items) (length left'.outputs.items) (completions_in left'.notes.completions.items) (results_in left'.results.items) (slots_seen numbers s') (awaited_from 0 numbers s'.slots)

  wakes_then : map (λ (t : TaskNo). t.0) left'.notes.wakes.items ≡ d.wakes ++ map (λ (t : TaskNo). t.0) (tasks_of (waker_in it.observer))
  wakes_then = grind (arith, map-append)

  outputs_then : length left'.outputs.items ≡ d.outputs + let_go_by it.observer
  outputs_then =
      ap length adds.outputs_added ∙ length-append left.outputs.items t.outputs ∙ ap (λ n. length left.outputs.items + n) tells.outputs ∙ ap (λ n. n + let_go_by it.observer) (sym on.outputs)

  completions_then : completions_in left'.notes.completions.items ≡ d.completions
  completions_then = ap completions_in (adds.notes.completions_added ∙ ap (λ cs. left.notes.completions.items ++ cs) tells.completions ∙ append-nil left.notes.completions.items) ∙ sym on.completions

  results_then : results_in left'.results.items ≡ d.results ++ results_in (answers_by id told it.observer)
  results_then = grind (arith, map-append, answers_by)

  waker_is : awaits_entry one.e ≡ is_some (waker_in it.observer)
  waker_is = ap awaits_entry is_it

  vacated_then : slots_seen numbers (removed s id) ≡ vacated k d.requests
  vacated_then = slots_vacated numbers s id one ∙ ap (vacated k) (sym on.requests)

  removed_then : is_some (waker_in it.observer) ≡ false → awaited_from 0 numbers (removed s id).slots ≡ d.awaited
  removed_then none = awaited_removed numbers s id one (waker_is ∙ none) ∙ sym on.awaited

  pub desk_ended : desk_then (finished_for s id told it.observer) ≡ told_of_end k r d
  desk_ended = grind (arith, made_same, wakes_then, append-nil, outputs_then, let_go_by, completions_then, results_then, answers_by, vacated_then, removed_then, told_by, awaited_over, waker_is, slots_written)
