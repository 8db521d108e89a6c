-- THE LETTERS OF A TASK THAT IS OVER: about which things they are, and what tasks hold then.
use Rattle.exec_invariants.{specs.{Holding.{Hands, IsAbout, IsHolding, Mail, MayHave, awaited_in, box_of, cancel_held, cancel_sleep, holder_of, is_awaited_by, mail_in, mail_of_letters, nap_of, same_mail, thing_of}, Places.one_if, Sound.IsLetter, Whole.{Profile, hands_of, wakes_with, with_worker}}, proofs.{Words.{◌≡◌, ◌≢◌, ℕ, zero, suc, ◌+◌, ◌<◌, ◌≤◌, ◌==◌, Bool, true, false, not, cond, Contains, List, [], ◌∷◌, ◌++◌, count_by, map, option_map, option_to_list, Option, Some, None, IsSome, refl, sym, ap, subst, ◌∙◌, arith, slice_get, slice_set, if◌then◌else◌, eq-eqb, sum_by-append, sum_by-cons, TaskNo, Message, Waiting, Held, Letters, Subject, Record, Shared, SleeperRecord, TaskSlot, Worker, others_of, letter_of_request, letter_of_timer, letters_in, by_number, not_same, same_Some, subject}, HoldSteps.held_in, Lined.{mapped, unmapped}, TaskOverFold.{all_held, held_first, own_in}, TaskOverGone.AllGone, TaskOverHolds.{LetsNap, LetsThing, task_over}, TaskOverMay.{HasAll, some_held}, TaskTakes.{holder_there, holders_one}}}

-- MESSAGES OF LETTERS

pub mail_both : (m : Mail) (xs ys : List Mail) → mail_in m (xs ++ ys) ≡ mail_in m xs + mail_in m ys
mail_both m xs ys = sum_by-append (λ (x : Mail). cond (same_mail m x) 1 0) xs ys

mail_cons : (m x : Mail) (xs : List Mail) → mail_in m (x ∷ xs) ≡ cond (same_mail m x) 1 0 + mail_in m xs
mail_cons m x xs = sum_by-cons (λ (y : Mail). cond (same_mail m y) 1 0) x xs

abbrev weight : Bool → ℕ
weight b = cond b 1 0

turned : (a b : ℕ) → weight (a == b) ≡ weight (b == a)
turned a b = by_number a b (λ apart. ap weight (not_same a b apart ∙ sym (not_same b a (λ e. apart (sym e))))) (λ same. ap weight (eq-eqb a b same ∙ sym (eq-eqb b a (sym same))))

cancels_held : (k : ℕ) (hs : List Held) → mail_in (Message.Cancel (subject.Request k)) (map cancel_held hs) ≡ held_in k hs
cancels_held k [] = refl
cancels_held k (h ∷ hs) =
    omega (arith, mail_cons (Message.Cancel (subject.Request k)) (cancel_held h) (map cancel_held hs), held_first k h hs, cancels_held k hs, turned k h.number)

-- no other
never_held : (m : Mail) → ((h : Held) → same_mail m (cancel_held h) ≡ false) → (hs : List Held) → mail_in m (map cancel_held hs) ≡ 0
never_held m never [] = refl
never_held m never (h ∷ hs) = grind (arith, mail_cons, never_held m never hs)

never_sleep : (m : Mail) → ((h : Held) → same_mail m (cancel_sleep h) ≡ false) → (o : Option Held) → mail_in m (map cancel_sleep (option_to_list o)) ≡ 0
never_sleep m never None = refl
never_sleep m never (Some h) = ap (λ c. 0 + cond c 1 0) (never h)

pub cancels_in : (k : ℕ) (l : Letters) → mail_in (Message.Cancel (subject.Request k)) (mail_of_letters l) ≡ held_in k l.requests.items
cancels_in k l =
    let c = never_sleep (Message.Cancel (subject.Request k)) (λ h. refl) l.timer in
    omega (arith, mail_both (Message.Cancel (subject.Request k)) (map cancel_held l.requests.items) (map cancel_sleep (option_to_list l.timer)), cancels_held k l.requests.items, c)

pub forwards_in : (s : Subject) (l : Letters) → mail_in (Message.Forward s) (mail_of_letters l) ≡ 0
forwards_in s l =
    let b = never_held (Message.Forward s) (λ h. refl) l.requests.items in
    let c = never_sleep (Message.Forward s) (λ h. refl) l.timer in
    omega (arith, mail_both (Message.Forward s) (map cancel_held l.requests.items) (map cancel_sleep (option_to_list l.timer)), b, c)

pub removes_in : (n : ℕ) (l : Letters) → mail_in (Message.Cancel (subject.Timer n)) (mail_of_letters l) ≡ mail_in (Message.Cancel (subject.Timer n)) (map cancel_sleep (option_to_list l.timer))
removes_in n l =
    let b = never_held (Message.Cancel (subject.Timer n)) (λ h. refl) l.requests.items in
    omega (arith, mail_both (Message.Cancel (subject.Timer n)) (map cancel_held l.requests.items) (map cancel_sleep (option_to_list l.timer)), b)

-- at most one of a sleeper, just of what is slept for
sleeps_once : (n : ℕ) (u : Waiting) (o : Option Held) → ((h : Held) → o ≡ Some h → u ≡ Waiting.Timer h.number) → mail_in (Message.Cancel (subject.Timer n)) (map cancel_sleep (option_to_list o)) ≤ one_if (is_awaited_by (subject.Timer n) (awaited_in u))
sleeps_once = grind arith

-- none
map_none : {A X : Type 0} (f : A → X) (xs : List A) (ys : List X) → map f xs ++ ys ≡ [] → (xs ≡ []) × (ys ≡ [])
map_none f [] ys h = (refl, h)
map_none f (x ∷ xs) ys h = absurd (let no : f x ∷ (map f xs ++ ys) ≡ [] = h in cc)

no_timer : (o : Option Held) → option_to_list (option_map letter_of_timer o) ≡ [] → o ≡ None
no_timer None h = refl
no_timer (Some x) h = absurd (let no : letter_of_timer x ∷ [] ≡ [] = h in cc)

pub no_letters : (l : Letters) → letters_in l ≡ [] → (l.requests.items ≡ []) × (l.timer ≡ None)
no_letters l h = let it = map_none letter_of_request l.requests.items (option_to_list (option_map letter_of_timer l.timer)) h in (it.0, no_timer l.timer it.1)

no_mail : (l : Letters) → letters_in l ≡ [] → mail_of_letters l ≡ []
no_mail l h = let it = no_letters l h in ap (λ xs. map cancel_held xs ++ map cancel_sleep (option_to_list l.timer)) it.0 ∙ ap (λ o. map cancel_sleep (option_to_list o)) it.1

-- WHAT OTHERS HAVE is held, and another's
pub others_in : (P : Held → Type 0) (i : ℕ) (hs : List Held) → ((j : ℕ) (x : Held) → slice_get hs j ≡ Some x → x.worker ≢ i → P x) → (x : Held) → Contains (others_of i hs) x → P x
others_in P i [] each x (k, few, is) = absurd (omega (arith, few))
others_in P i (h ∷ hs) each x has =
    let if_not : Bool → List Held = λ b. if not b then h ∷ others_of i hs else others_of i hs in
    let rest : Contains (others_of i hs) x → P x = others_in P i hs (λ j. each (suc j)) x in
    by_number h.worker i
    (λ other. first rest (each 0 h refl other) (subst (λ ys. Contains ys x) (ap (λ b. if_not b) (not_same h.worker i other)) has))
    (λ mine. rest (subst (λ ys. Contains ys x) (ap (λ b. if_not b) (eq-eqb h.worker i mine)) has))
  where
    first : (Contains (others_of i hs) x → P x) → P h → Contains (h ∷ others_of i hs) x → P x
    first rest here (zero, few, is) = subst P is here
    first rest here (suc k, few, is) = rest (k, omega (arith, few), is)

others_at : (i : ℕ) (hs : List Held) (j : ℕ) (x : Held) → slice_get (others_of i hs) j ≡ Some x → (n : ℕ) × (slice_get hs n ≡ Some x) × (x.worker ≢ i)
others_at i [] j x at = absurd (let no : None ≡ Some x = at in cc)
others_at i (h ∷ hs) j x at =
    let if_not : Bool → List Held = λ b. if not b then h ∷ others_of i hs else others_of i hs in
    let rest : (n : ℕ) → slice_get (others_of i hs) n ≡ Some x → (m : ℕ) × (slice_get hs m ≡ Some x) × (x.worker ≢ i) = λ n found. others_at i hs n x found in
    by_number h.worker i
    (λ other. first rest other j (subst (λ ys. slice_get ys j ≡ Some x) (ap (λ b. if_not b) (not_same h.worker i other)) at))
    (λ mine. let it = rest j (subst (λ ys. slice_get ys j ≡ Some x) (ap (λ b. if_not b) (eq-eqb h.worker i mine)) at) in (suc it.0, it.1, it.2))
  where
    first : ((n : ℕ) → slice_get (others_of i hs) n ≡ Some x → (m : ℕ) × (slice_get hs m ≡ Some x) × (x.worker ≢ i)) → h.worker ≢ i → (n : ℕ) → slice_get (h ∷ others_of i hs) n ≡ Some x → (m : ℕ) × (slice_get (h ∷ hs) m ≡ Some x) × (x.worker ≢ i)
    first rest other zero at = (0, at, subst (λ (y : Held). y.worker ≢ i) (same_Some h x at) other)
    first rest other (suc n) at = let it = rest n at in (suc it.0, it.1, it.2)

-- ABOUT WHAT LETTERS ARE: what other workers of the pool have
pub record AreLetters (workers i : ℕ) (l : Letters) (records : List Record) (sleepers : List SleeperRecord) : Type 0 where
  pub requests : (h : Held) → Contains l.requests.items h → IsLetter workers i (Subject.Request h.number) h.worker records sleepers
  pub at : (j : ℕ) (h : Held) → slice_get l.requests.items j ≡ Some h → IsLetter workers i (Subject.Request h.number) h.worker records sleepers
  pub timer : (h : Held) → l.timer ≡ Some h → IsLetter workers i (Subject.Timer h.number) h.worker records sleepers

module _ {B : Type 0} where
  pub letters_fit : (i t : ℕ) (slot : TaskSlot B) (l : Letters) (w v : Worker) (s s1 now : Shared B) → slot.home ≡ None → HasAll t slot s → AllGone i slot.held.items slot.waiting l w v s1 now → s1.sleepers.items ≡ s.sleepers.items
      → ((n : ℕ) → slot.waiting ≡ Waiting.Timer n → (z : SleeperRecord) × (slice_get s.sleepers.items n ≡ Some z) × (z.shown.worker < s.config.workers)) → AreLetters s.config.workers i l s.requests.items s.sleepers.items
  letters_fit i t slot l w v s s1 now ordinary has gone sleepers known =
      record {
        requests = λ h among. others_in (λ x. IsLetter s.config.workers i (Subject.Request x.number) x.worker s.requests.items s.sleepers.items) i slot.held.items each h (subst (λ ys. Contains ys h) gone.requests among);
        at = λ j h is. let it = others_at i slot.held.items j h (subst (λ ys. slice_get ys j ≡ Some h) gone.requests is) in each it.0 h it.1 it.2;
        timer = λ h is.
            let it = gone.timer h is in
            let z = known h.number it.0 in
            let of_h : z.0.shown.worker ≡ h.worker = it.2 z.0 (ap (λ zs. slice_get zs h.number) sleepers ∙ z.1) in
            ((z.0, z.1, of_h, subst (λ n. n < s.config.workers) of_h z.2), it.1);
      }
    where
      each : (j : ℕ) (x : Held) → slice_get slot.held.items j ≡ Some x → x.worker ≢ i → IsLetter s.config.workers i (Subject.Request x.number) x.worker s.requests.items s.sleepers.items
      each j x at other = let it = has.all.there j x at in ((it.0, it.1, it.2, subst (λ o. MayHave s.config.workers o x.worker) ordinary (has.near j x at)), other)

  -- a root leaves none
  pub none_left : (i t : ℕ) (slot : TaskSlot B) (l : Letters) (w v : Worker) (s s1 now : Shared B) → slot.home ≡ Some i → slot.waiting ≡ Waiting.Nothing → HasAll t slot s → AllGone i slot.held.items slot.waiting l w v s1 now → AreLetters s.config.workers i l s.requests.items s.sleepers.items
  none_left i t slot l w v s s1 now root nothing has gone =
      let never : (j : ℕ) (x : Held) → slice_get slot.held.items j ≡ Some x → x.worker ≢ i → ⊥ = λ j x at other. other (subst (λ o. MayHave s.config.workers o x.worker) root (has.near j x at)) in
      record {
        requests = λ h among. others_in (λ x. IsLetter s.config.workers i (Subject.Request x.number) x.worker s.requests.items s.sleepers.items) i slot.held.items (λ j x at other. absurd (never j x at other)) h (subst (λ ys. Contains ys h) gone.requests among);
        at = λ j h is. let it = others_at i slot.held.items j h (subst (λ ys. slice_get ys j ≡ Some h) gone.requests is) in absurd (never it.0 h it.1 it.2);
        timer = λ h is. let it = (gone.timer h is).0 in absurd (let no : Waiting.Nothing ≡ Waiting.Timer h.number = sym nothing ∙ it in cc);
      }

  -- WHAT TASKS HOLD THEN
  pub gone_holding : (i t : ℕ) (slot slot' : TaskSlot B) (w v w' : Worker) (s s1 now s' : Shared B) (others : Profile) → slice_get s.tasks.items t ≡ Some slot → s'.tasks.items ≡ slice_set s.tasks.items t slot' → holder_of slot' ≡ record (holder_of slot) { held = []; over = true } → (holder_of slot).over ≡ false
      → (IsSome slot.home → awaited_in slot.waiting ≡ None) → letters_in w.letters ≡ [] → w.home.deferred.notes.wakes.items ≡ [] → w'.home.deferred.notes.wakes.items ≡ [] → w'.index ≡ w.index → w'.batch ≡ w.batch
      → AllGone i slot.held.items slot.waiting w'.letters w v s1 now → s1.requests.items ≡ s.requests.items → s1.sleepers.items ≡ s.sleepers.items → AreLetters s.config.workers i w'.letters s.requests.items s.sleepers.items
      → IsHolding (hands_of (with_worker others w)) s.config.workers (map holder_of s.tasks.items) (map thing_of s.requests.items) (map nap_of s.sleepers.items) (map box_of s.seats.items)
      → IsHolding (hands_of (with_worker others w')) s.config.workers (map holder_of s'.tasks.items) (map thing_of now.requests.items) (map nap_of now.sleepers.items) (map box_of s.seats.items)
  gone_holding i t slot slot' w v w' s s1 now s' others there items over going idle none quiet quiet' index batch gone requests sleepers letters old =
      let h : Hands = hands_of (with_worker others w) in
      let h' : Hands = hands_of (with_worker others w') in
      let l = w'.letters in
      subst (λ hs. IsHolding h' s.config.workers hs (map thing_of now.requests.items) (map nap_of now.sleepers.items) (map box_of s.seats.items)) (sym (ap (map holder_of) items ∙ holders_one s.tasks.items t slot'))
      (task_over h h' s.config.workers (map holder_of s.tasks.items) (map thing_of s.requests.items) (map thing_of now.requests.items) (map nap_of s.sleepers.items) (map nap_of now.sleepers.items) (map box_of s.seats.items) t (holder_of slot) (holder_of slot')
      (own_in i slot.held.items) (λ k. held_in k (others_of i slot.held.items)) (λ n. mail_in (Message.Cancel (subject.Timer n)) (map cancel_sleep (option_to_list l.timer)))
      (record {
        there = holder_there s.tasks.items t slot there;
        ends = over;
        going = going;
        idle = idle;
        all = λ k. all_held i k slot.held.items;
        things = λ k r at.
            let x = unmapped thing_of s.requests.items k r at in
            let y = gone.on k x.0 (ap (λ rs. slice_get rs k) requests ∙ x.1) in
            (thing_of y.0, mapped thing_of now.requests.items k y.0 y.1, subst (λ z. LetsThing (own_in i slot.held.items k) z (thing_of y.0)) x.2 y.2);
        things_back = λ k r at.
            let x = unmapped thing_of now.requests.items k r at in
            let y = gone.back k x.0 x.1 in
            (thing_of y.0, mapped thing_of s.requests.items k y.0 (ap (λ rs. slice_get rs k) (sym requests) ∙ y.1), subst (λ z. LetsThing (own_in i slot.held.items k) (thing_of y.0) z) x.2 y.2);
        things_of = λ j. gone.of j ∙ ap (λ rs. count_by (λ y. y.worker == j) (map thing_of rs)) requests;
        naps_on = λ n z at.
            let x = unmapped nap_of s.sleepers.items n z at in
            let y = gone.naps_on n x.0 (ap (λ zs. slice_get zs n) sleepers ∙ x.1) in
            (nap_of y.0, mapped nap_of now.sleepers.items n y.0 y.1, subst (λ u. LetsNap (awaited_in slot.waiting ≡ Some (subject.Timer n)) u (nap_of y.0)) x.2 y.2);
        naps_back = λ n z at.
            let x = unmapped nap_of now.sleepers.items n z at in
            let y = gone.naps_back n x.0 x.1 in
            (nap_of y.0, mapped nap_of s.sleepers.items n y.0 (ap (λ zs. slice_get zs n) (sym sleepers) ∙ y.1), subst (λ u. LetsNap (awaited_in slot.waiting ≡ Some (subject.Timer n)) (nap_of y.0) u) x.2 y.2);
        naps_of = λ j. gone.naps_of j ∙ ap (λ zs. count_by (λ y. y.worker == j) (map nap_of zs)) sleepers;
        wakes = ap (λ (k : ℕ). λ (j u : ℕ). if j == k then wakes_with u w' else others.wakes j u) index ∙ ap (λ (ws : List TaskNo). λ (j u : ℕ). if j == w.index then count_by (λ n. n.0 == u) ws else others.wakes j u) (quiet' ∙ sym quiet);
        forwards = λ s. let a = mails (Message.Forward s) in let b = forwards_in s l in omega (arith, a, b);
        cancels = λ k. let a = mails (Message.Cancel (subject.Request k)) in let b = cancels_in k l in let c = ap (held_in k) gone.requests in omega (arith, a, b, c);
        removes = λ n. let a = mails (Message.Cancel (subject.Timer n)) in let b = removes_in n l in omega (arith, a, b);
        awaited = λ n. sleeps_once n slot.waiting l.timer (λ x is. (gone.timer x is).0);
        made = made;
      }) old)
    where
      mails : (m : Mail) → (hands_of (with_worker others w')).mail m ≡ (hands_of (with_worker others w)).mail m + mail_in m (mail_of_letters w'.letters)
      mails m =
          let c : mail_in m (mail_of_letters w.letters ++ w.batch.values) ≡ mail_in m w.batch.values = ap (λ xs. mail_in m (xs ++ w.batch.values)) (no_mail w.letters none) in
          omega (arith, mail_both m (mail_of_letters w'.letters) w'.batch.values, ap (λ x. mail_in m x.values) batch, c)

      before : (m : Mail) → mail_in m (mail_of_letters w'.letters) ≡ 0 → 0 < (hands_of (with_worker others w')).mail m → (j : ℕ) × IsAbout s.config.workers j m (map thing_of s.requests.items) (map nap_of s.sleepers.items)
      before m is some = old.made m (let a = mails m in omega (arith, a, is, some))

      made : (m : Mail) → 0 < (hands_of (with_worker others w')).mail m → (j : ℕ) × IsAbout s.config.workers j m (map thing_of s.requests.items) (map nap_of s.sleepers.items)
      made Message.WakeRoot some = (0, tt)
      made (Message.Forward s1) some = before (Message.Forward s1) (forwards_in s1 w'.letters) some
      made (Message.Cancel (subject.Request k)) some = by (held_in k w'.letters.requests.items) refl
        where
          by : (n : ℕ) → held_in k w'.letters.requests.items ≡ n → (j : ℕ) × IsAbout s.config.workers j (Message.Cancel (subject.Request k)) (map thing_of s.requests.items) (map nap_of s.sleepers.items)
          by zero is = before (Message.Cancel (subject.Request k)) (cancels_in k w'.letters ∙ is) some
          by (suc n) is =
              let one = some_held k w'.letters.requests.items (omega (arith, is)) in
              let it = (letters.at one.0 one.1 one.2).0 in
              (one.1.worker, (thing_of it.0, mapped thing_of s.requests.items k it.0 (ap (slice_get s.requests.items) (sym one.3) ∙ it.1), it.2, it.3))
      made (Message.Cancel (subject.Timer n)) some = by w'.letters.timer refl
        where
          by : (o : Option Held) → w'.letters.timer ≡ o → (j : ℕ) × IsAbout s.config.workers j (Message.Cancel (subject.Timer n)) (map thing_of s.requests.items) (map nap_of s.sleepers.items)
          by None is = before (Message.Cancel (subject.Timer n)) (removes_in n w'.letters ∙ ap (λ o. mail_in (Message.Cancel (subject.Timer n)) (map cancel_sleep (option_to_list o))) is) some
          by (Some h) is =
              by_number n h.number
              (λ apart. before (Message.Cancel (subject.Timer n)) (removes_in n w'.letters ∙ ap (λ o. mail_in (Message.Cancel (subject.Timer n)) (map cancel_sleep (option_to_list o))) is ∙ ap (λ c. 0 + cond c 1 0) (not_same n h.number apart)) some)
              (λ same.
              let it = (letters.timer h is).0 in
              (h.worker, (nap_of it.0, mapped nap_of s.sleepers.items n it.0 (ap (slice_get s.sleepers.items) same ∙ it.1), it.2, it.3)))
