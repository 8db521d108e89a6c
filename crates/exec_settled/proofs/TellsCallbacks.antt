-- What a worker tells in its callbacks: who is to be woken is woken, and an end is sent to who waits elsewhere, which is woken next.
use Rattle.std.{proofs.{Common.{◌≡◌, ℕ, ◌==◌, Bool, true, false, List, [], ◌∷◌, drop, Option, Some, refl, sym, ap, ◌∙◌, subst, inl, inr, arith}, lemmas.Bool.{false≢true, eq-eqb, eqb-true, or_cases, or_left, or_right}}, specs.Prelude.◌⊎◌}
use Rattle.exec_machine.specs.{declared.{config.Configuration.Configuration, event.Event.TheVariants.Wake}, Ranges.ring_size, Tests.is_done, World.{Common, Task, Own as Books, request_of, sleeper_of, task_of}}
use Rattle.exec_moves.specs.{declared.{handing.{AfterCallbacks.AfterCallbacks, Heard.{Heard, Heard as heard}}, place.{InCallbacks.{InCallbacks, InCallbacks as callback}, Place.{Place, Place as at}}}, Callback.{Item, Item.{Answers, Completes, LetsGo, Nothing, Releases, Wakes}, first_of, item_next, tells_waiter, woken_by}, Move.{move_callbacks, move_item}, State.{Desk, Moved, Things}, Told.{has_number, in_order}}
use Rattle.exec_settled.proofs.{Tells.WakesNext, TellsPlain.{Mild, TellsAll, all_told, is_mute, late, lists_if, lists_of, mild, mildly, quiet, told_apart}}

-- WHAT WAS SENT

pub in_order_has : (n : ℕ) (ns : List ℕ) → has_number n (in_order n ns) ≡ true
in_order_has n [] = or_left (n == n) false (eq-eqb n n refl)
in_order_has n (m ∷ ms) = grind (arith, or_left, eq-eqb, eqb-true, or_right, in_order_has n ms)

pub in_order_keeps : (k n : ℕ) (ns : List ℕ) → has_number k ns ≡ true → has_number k (in_order n ns) ≡ true
in_order_keeps k n [] h = absurd (false≢true h)
in_order_keeps k n (m ∷ ms) h = grind (arith, or_cases, or_right, or_left, in_order_keeps k n ms)

-- WHAT IS NEXT is the first of its list

first_or : (k n : ℕ) (later : List ℕ) → has_number k (n ∷ later) ≡ true → (k ≡ n) ⊎ (has_number k later ≡ true)
first_or k n later h = elim (or_cases (n == k) (has_number k later) h) [ inl this ↦ inl (sym (eqb-true n k this)) | inr rest ↦ inr rest ]

abbrev item_number : Item → ℕ
item_number (Wakes t) = t
item_number LetsGo = 0
item_number (Releases r) = r
item_number (Completes z) = z
item_number (Answers r) = r
item_number Nothing = 0

-- what stands in the list is the first of it, or behind that
taken : (ns : List ℕ) (item : ℕ → Item) (later it : Item) → ((n : ℕ) → item_number (item n) ≡ n) → first_of ns item later ≡ it → (k : ℕ) → has_number k ns ≡ true → (k ≡ item_number it) ⊎ (has_number k (drop 1 ns) ≡ true)
taken = grind (arith, false≢true, first_or)

module _ (me : Books) (d : Desk) where
  wake_taken : (t : ℕ) → item_next me d ≡ Wakes t → (u : ℕ) → has_number u d.wakes ≡ true → (u ≡ t) ⊎ (has_number u (drop 1 d.wakes) ≡ true)
  wake_taken t is u h = taken d.wakes Wakes _ (Wakes t) (λ n. refl) is u h

  completion_taken : (z : ℕ) → item_next me d ≡ Completes z → (u : ℕ) → has_number u d.completions ≡ true → (u ≡ z) ⊎ (has_number u (drop 1 d.completions) ≡ true)
  completion_taken = grind arith

  answer_taken : (r : ℕ) → item_next me d ≡ Answers r → (u : ℕ) → has_number u d.results ≡ true → (u ≡ r) ⊎ (has_number u (drop 1 d.results) ≡ true)
  answer_taken = grind arith

module _ (c : Configuration) (i : ℕ) (me : Books) (s : Common) (d : Desk) (x : Things) (n : AfterCallbacks) where
  abbrev Mildly : Moved Things → Type 0
  Mildly m = Mild c i me s d x m

  calm : (m : Moved Things) → lists_of m.desk m.thing ≡ lists_of d x → is_mute m.event ≡ true → Mildly m
  calm m lists mute = mild c i me s d x m (quiet c i me s d x m lists mute)

  woken_lists : (t : ℕ) (e : Desk) (it : Task) (home : Option ℕ) → it.home ≡ home → lists_of (woken_by (ring_size c) i me s n t e it) x ≡ lists_of e x
  woken_lists = grind (arith, lists_if)

  teller_lists : (waiter : Option ℕ) (of : Heard) (e : Desk) (y : Things) → lists_of (tells_waiter (ring_size c) i me s n waiter of e) y ≡ lists_of e y
  teller_lists = grind (arith, lists_if)

  -- who waits for it is woken next
  teller_place : (waiter : Option ℕ) (of : Heard) (e : Desk) (t : ℕ) → waiter ≡ Some t → is_done (task_of s t).phase ≡ false
      → (k : AfterCallbacks) × ((tells_waiter (ring_size c) i me s n waiter of e).place ≡ Place.Callbacks (InCallbacks.WakeWaiter t of) k)
  teller_place waiter of e t waits going = (n, rw (waits, going) refl)

  wakes_item : (t : ℕ) → item_next me d ≡ Wakes t → Mildly (move_item c i me s d x n (Wakes t))
  wakes_item t is =
      let m = move_item c i me s d x n (Wakes t) in
      let same : lists_of m.desk x ≡ lists_of (record d { wakes = drop 1 d.wakes }) x = woken_lists t (record d { wakes = drop 1 d.wakes }) (task_of s t) _ refl in
      mildly c i me s d x m
      (record {
        awaited = λ k there held going unsent observed. subst (λ l. has_number k l.awaited ≡ true) (sym same) there;
        wakes = λ u there. elim (wake_taken me d t is u there) [ inl this ↦ inr (ap (λ q. Wake q) (sym this)) | inr rest ↦ inl (subst (λ l. has_number u l.wakes ≡ true) (sym same) rest) ];
        results = λ k there. inl (subst (λ l. has_number k l.results ≡ true) (sym same) there);
        completions = λ z there. inl (subst (λ l. has_number z l.completions ≡ true) (sym same) there);
        answers = λ k there. there;
        alarms = λ z there. there;
      })
      refl

  completes : (z : ℕ) → item_next me d ≡ Completes z → Mildly (move_item c i me s d x n (Completes z))
  completes z is =
      let m = move_item c i me s d x n (Completes z) in
      let e = record d { completions = drop 1 d.completions } in
      let same : lists_of m.desk x ≡ lists_of e x = teller_lists (Some (sleeper_of s z).task) (heard.Timer z) e x in
      mildly c i me s d x m
      (record {
        awaited = λ k there held going unsent observed. subst (λ l. has_number k l.awaited ≡ true) (sym same) there;
        wakes = λ u there. inl (subst (λ l. has_number u l.wakes ≡ true) (sym same) there);
        results = λ k there. inl (subst (λ l. has_number k l.results ≡ true) (sym same) there);
        completions = λ y there. elim (completion_taken me d z is y there) [
          | inl this ↦ inr (subst (λ q. (has_number q (in_order z x.alarms) ≡ true) × (is_done (task_of s (sleeper_of s q).task).phase ≡ false → WakesNext i s d x m (late c i me s d x m) (sleeper_of s q).task (Heard.Timer q)))
              (sym this) (in_order_has z x.alarms, λ going. teller_place (Some (sleeper_of s z).task) (heard.Timer z) e (sleeper_of s z).task refl going))
          | inr rest ↦ inl (subst (λ l. has_number y l.completions ≡ true) (sym same) rest)
        ];
        answers = λ k there. there;
        alarms = λ y there. in_order_keeps y z x.alarms there;
      })
      refl

  sends : (r : ℕ) → item_next me d ≡ Answers r → Mildly (move_item c i me s d x n (Answers r))
  sends r is =
      let m = move_item c i me s d x n (Answers r) in
      let e = record d { results = drop 1 d.results } in
      let same : lists_of m.desk x ≡ lists_of e x = teller_lists (request_of s r).waiter (heard.Request r) e x in
      mildly c i me s d x m
      (record {
        awaited = λ k there held going unsent observed. subst (λ l. has_number k l.awaited ≡ true) (sym same) there;
        wakes = λ u there. inl (subst (λ l. has_number u l.wakes ≡ true) (sym same) there);
        results = λ k there. elim (answer_taken me d r is k there) [
          | inl this ↦ grind (arith, late, in_order_has, teller_place)
          | inr rest ↦ inl (subst (λ l. has_number k l.results ≡ true) (sym same) rest)
        ];
        completions = λ z there. inl (subst (λ l. has_number z l.completions ≡ true) (sym same) there);
        answers = λ k there. in_order_keeps k r x.answers there;
        alarms = λ z there. there;
      })
      refl

  called_item : (it : Item) → item_next me d ≡ it → Mildly (move_item c i me s d x n it)
  called_item (Wakes t) is = wakes_item t is
  called_item LetsGo is = calm _ refl refl
  called_item (Releases r) is = calm _ refl refl
  called_item (Completes z) is = completes z is
  called_item (Answers r) is = sends r is
  called_item Nothing is = calm _ refl refl

  abbrev woken_task : Place → ℕ
  woken_task (at.Callbacks (callback.WakeWaiter t of) k) = t
  woken_task _ = 0

  abbrev polls_here : Place → Bool
  polls_here (at.Poll t p) = true
  polls_here _ = false

  -- what was sent is followed by the wake
  wakes_waiter : (t : ℕ) (of : Heard) → d.place ≡ at.Callbacks (callback.WakeWaiter t of) n → TellsAll c i me s d x (move_callbacks c i me s d x (callback.WakeWaiter t of) n)
  wakes_waiter t of is =
      let m = move_callbacks c i me s d x (callback.WakeWaiter t of) n in
      let it : Mildly m = calm m (woken_lists t d (task_of s t) _ refl) refl in
      all_told c i me s d x m it.lists it.ends it.says
      (record {
        waking = λ u other k h. ap (λ p. Wake (woken_task p)) (sym is ∙ h);
        resumes = λ u k h waits applied sent over. absurd (false≢true (ap polls_here (sym is ∙ h)));
        resumes_too = λ u z h waits applied sent. absurd (false≢true (ap polls_here (sym is ∙ h)));
      })

  pub calls : (p : InCallbacks) → d.place ≡ at.Callbacks p n → TellsAll c i me s d x (move_callbacks c i me s d x p n)
  calls callback.TakeBatch is = told_apart c i me s d x _ (at.Callbacks callback.TakeBatch n) is refl (calm _ refl refl)
  calls callback.CallBack is = told_apart c i me s d x _ (at.Callbacks callback.CallBack n) is refl (called_item (item_next me d) refl)
  calls (callback.WakeWaiter t of) is = wakes_waiter t of is
