-- What tasks hold once one made a request, which it holds, or a sleeper, for which it waits. Its worker's inbox got places first.
use Rattle.std.proofs.{Common.{◌≡◌, ◌⊎◌, ℕ, suc, zero, not, ◌&&◌, ◌+◌, ◌<◌, ◌≤◌, ◌==◌, Bool, true, false, cond, List, [], ◌∷◌, ◌++◌, count_by, length, sum_by, Option, Some, None, refl, sym, ap, subst, ◌∙◌, arith, inl, inr, slice_get, slice_set}, lemmas.{Bool.{false≢true, eq-eqb}, List.Sums.sum_by-append, Option.slice_get_within}}
use Rattle.exec_machine.specs.declared.state.Forwarding.TheVariants.{Unsent}
use Rattle.exec_words.specs.declared.inbox.Message.{Message}
use Rattle.exec_outcomes.specs.declared.outcome.Outcome.{Outcome}
use Rattle.exec_parts.{specs.declared.parts.{held.Held.Held, mail.Subject.{Subject, Subject as subject}}, proofs.Facts.{by_number, not_same, same_Some, set_elsewhere, set_there}}
use Rattle.exec_invariants.{proofs.{Taken.{got_new, got_old, was_got}, HoldMail.mail_is, HoldRedo.{count_set, sum_set}}, specs.Holding.{Awaits, AwaitsNap, Box, Hands, HasPlace, Holder, HoldsRequest, IsAbout, IsHeldBy, IsHolding, IsOf, IsOrdinary, IsOwed, Mail, MayHave, Nap, Owes, Thing, holdings, is_awaited_by, mail_in, same_mail, under_way, waiters}}
use Rattle.exec_polling.proofs.MadePlaces.{none_counted, none_summed, weigh, counted_there, by_zero}

-- THE HOLDER that made it

-- task t isn't over and waits for nothing, and may have what worker i has, whose inbox is open, and where more was made than counted
pub record MayHold (workers i t : ℕ) (hs : List Holder) (ts : List Thing) (naps : List Nap) (boxes : List Box) : Type 0 where
  pub it : Holder
  pub there : slice_get hs t ≡ Some it
  pub going : it.over ≡ false
  pub waits : it.awaits ≡ None
  pub near : MayHave workers it.home i
  pub box : Box
  pub at : slice_get boxes i ≡ Some box
  pub open_box : box.shut ≡ false
  pub fewer : count_by (λ (r : Thing). r.worker == i) ts + count_by (λ (z : Nap). z.worker == i) naps + 1 ≤ box.made

module _ (h : Hands) (workers i t : ℕ) (hs : List Holder) (ts : List Thing) (naps : List Nap) (boxes : List Box) (may : MayHold workers i t hs ts naps boxes) (old : IsHolding h workers hs ts naps boxes) where
  -- nothing is under way about what isn't there
  not_about : (m : Mail) → ((j : ℕ) → IsAbout workers j m ts naps → ⊥) → under_way h m boxes ≡ 0
  not_about m never =
      let hands : h.mail m ≡ 0 = by_zero (h.mail m) (λ none. none) (λ some. let it = old.made m (positive (h.mail m) some) in absurd (never it.0 it.1)) in
      let inboxes : sum_by (λ (box : Box). mail_in m box.messages) boxes ≡ 0 = grind (arith, none_summed, by_zero, in_box) in
      omega (arith, hands, inboxes)
    where
      positive : (n : ℕ) → (n ≡ 0 → ⊥) → 0 < n
      positive zero some = absurd (some refl)
      positive (suc n) some = omega arith

      in_box : (j : ℕ) (box : Box) → slice_get boxes j ≡ Some box → (mail_in m box.messages ≡ 0 → ⊥) → ⊥
      in_box j box at some =
          let it = counted_there (λ other. same_mail m other) box.messages some in
          never j (subst (λ x. IsAbout workers j x ts naps) (sym (mail_is m it.0 it.2)) (old.about j box it.0 at it.1))

  never_request : (j : ℕ) → IsOf workers j (subject.Request (length ts)) ts naps → ⊥
  never_request j is = let within = slice_get_within ts (length ts) is.0 is.1 in omega (arith, within)

  never_timer : (j : ℕ) → IsOf workers j (subject.Timer (length naps)) ts naps → ⊥
  never_timer j is = let within = slice_get_within naps (length naps) is.0 is.1 in omega (arith, within)

  -- nor held, nor waited for
  unheld : holdings (length ts) hs ≡ 0
  unheld = grind (arith, none_summed, none_counted, slice_get_within, not_same)

  unawaited : waiters (subject.Timer (length naps)) hs ≡ 0
  unawaited = none_counted (λ (o : Holder). not o.over && is_awaited_by (subject.Timer (length naps)) o.awaits) hs (λ u o at. by u o at o.awaits refl)
    where
      and_no : (a b : Bool) → b ≡ false → (a && b) ≡ false
      and_no true b is = is
      and_no false b is = refl

      by : (u : ℕ) (o : Holder) → slice_get hs u ≡ Some o → (a : Option Subject) → o.awaits ≡ a → (not o.over && is_awaited_by (subject.Timer (length naps)) a) ≡ false
      by u o at None is = and_no (not o.over) false refl
      by u o at (Some (subject.Request k)) is = and_no (not o.over) false refl
      by u o at (Some (subject.Timer k)) is =
          let nap = old.asleep u o k at is in
          let within = slice_get_within naps k nap.0 nap.1 in
          and_no (not o.over) (length naps == k) (not_same (length naps) k (λ same. omega (arith, within, same)))

  about_on : (ts' : List Thing) (naps' : List Nap) → ((k : ℕ) (r : Thing) → slice_get ts k ≡ Some r → slice_get ts' k ≡ Some r) → ((k : ℕ) (z : Nap) → slice_get naps k ≡ Some z → slice_get naps' k ≡ Some z) → (j : ℕ) (m : Mail) → IsAbout workers j m ts naps → IsAbout workers j m ts' naps'
  about_on = grind arith

  owes_still : (ts' : List Thing) (naps' : List Nap) → ((k : ℕ) (r : Thing) → slice_get ts k ≡ Some r → slice_get ts' k ≡ Some r) → ((k : ℕ) (z : Nap) → slice_get naps k ≡ Some z → slice_get naps' k ≡ Some z) → (j u : ℕ) (a : Option Subject) → Owes j u a ts naps boxes → Owes j u a ts' naps' boxes
  owes_still = grind arith

  -- another task, or this one
  by_holder : {P : Type 0} (it' : Holder) (u : ℕ) (o : Holder) → slice_get (slice_set hs t it') u ≡ Some o → (u ≡ t → it' ≡ o → P) → ((u ≡ t → ⊥) → slice_get hs u ≡ Some o → P) → P
  by_holder = grind (arith, by_number, set_elsewhere, same_Some, set_there)

  -- who waits for something is another
  awaits_on : (it' : Holder) (s : Subject) (u : ℕ) → Awaits s u hs → Awaits s u (slice_set hs t it')
  awaits_on = grind (arith, by_number, set_elsewhere, same_Some)

  ordinary_on : (it' : Holder) → it'.home ≡ may.it.home → (u : ℕ) → IsOrdinary u hs → IsOrdinary u (slice_set hs t it')
  ordinary_on = grind (arith, by_number, set_elsewhere, same_Some, set_there)

  owed_on : (it' : Holder) (ts' : List Thing) (naps' : List Nap) → ((k : ℕ) (r : Thing) → slice_get ts k ≡ Some r → slice_get ts' k ≡ Some r) → ((k : ℕ) (z : Nap) → slice_get naps k ≡ Some z → slice_get naps' k ≡ Some z) → (j u : ℕ) → IsOwed j u hs ts naps boxes → IsOwed j u (slice_set hs t it') ts' naps' boxes
  owed_on = grind (arith, by_number, set_elsewhere, owes_still, same_Some)

  in_last : {A : Type 0} (xs : List A) (y x : A) (k : ℕ) → slice_get (xs ++ y ∷ []) k ≡ Some x → (slice_get xs k ≡ Some x) ⊎ ((k ≡ length xs) × (y ≡ x))
  in_last xs y x k at = was_got xs y x k at

  at_most : (b : Bool) → weigh b ≤ 1
  at_most = grind arith

  -- one more of this worker has a place
  room_on : (ts' : List Thing) (naps' : List Nap) → ((j : ℕ) → count_by (λ (r : Thing). r.worker == j) ts' + count_by (λ (z : Nap). z.worker == j) naps' ≡ count_by (λ (r : Thing). r.worker == j) ts + count_by (λ (z : Nap). z.worker == j) naps + weigh (i == j))
      → (j : ℕ) (box : Box) → slice_get boxes j ≡ Some box → HasPlace j ts' naps' box
  room_on ts' naps' more j box at_box =
      let place = old.room j box at_box in
      let made : count_by (λ (r : Thing). r.worker == j) ts' + count_by (λ (z : Nap). z.worker == j) naps' ≤ box.made =
      by_number j i
      (λ other. let none : weigh (i == j) ≡ 0 = ap weigh (not_same i j (λ same. other (sym same))) in omega (arith, place.made, more j, none))
      (λ same.
      let one : weigh (i == j) ≤ 1 = at_most (i == j) in
      let box_is : may.box ≡ box = same_Some may.box box (sym may.at ∙ ap (slice_get boxes) (sym same) ∙ at_box) in
      let room_there : count_by (λ (r : Thing). r.worker == j) ts + count_by (λ (z : Nap). z.worker == j) naps + 1 ≤ box.made = subst (λ n. count_by (λ (r : Thing). r.worker == n) ts + count_by (λ (z : Nap). z.worker == n) naps + 1 ≤ box.made) (sym same) (subst (λ (b : Box). count_by (λ (r : Thing). r.worker == i) ts + count_by (λ (z : Nap). z.worker == i) naps + 1 ≤ b.made) box_is may.fewer) in
      omega (arith, room_there, more j, one)) in
      assumption (made, place)

  -- A REQUEST, which it holds

  abbrev pub holds_it : Holder
  holds_it = record may.it { held = may.it.held ++ record { number = length ts; worker = i } ∷ [] }

  abbrev pub new_thing : Option Outcome → Thing
  new_thing o = record { worker = i; observed = true; waiter = None; forwarding = Unsent; ended = o; paid = 0; sent = false }

  pub holding_registered : (o : Option Outcome) → IsHolding h workers (slice_set hs t holds_it) (ts ++ new_thing o ∷ []) naps boxes
  holding_registered o =
      let k : ℕ = length ts in
      let new : Thing = new_thing o in
      let ts' : List Thing = ts ++ new ∷ [] in
      let hs' : List Holder = slice_set hs t holds_it in
      let on : (n : ℕ) (r : Thing) → slice_get ts n ≡ Some r → slice_get ts' n ≡ Some r = λ n r at. got_old ts new r n at in
      let stays : (n : ℕ) (z : Nap) → slice_get naps n ≡ Some z → slice_get naps n ≡ Some z = λ n z at. at in
      let more : (n : ℕ) → holdings n hs' ≡ holdings n hs + weigh (length ts == n) = grind (arith, sum_set, sum_by-append) in
      let apart : (n : ℕ) → n < k → holdings n hs' ≡ holdings n hs = grind (arith, weigh, not_same, more) in
      let here : holdings k hs' ≡ 1 =
      let one : weigh (length ts == length ts) ≡ 1 = ap weigh (eq-eqb (length ts) (length ts) refl) in
      omega (arith, more k, one, unheld) in
      record {
        held = grind (arith, in_last, slice_get_within, apart, same_Some, not_about, never_request, here);
        forwarded = grind (arith, in_last, same_Some, not_about, never_request);
        asked = grind (arith, in_last, ordinary_on, old);
        waited = λ n r u at waiter due.
            elim (in_last ts new r n at) [ inl was ↦ awaits_on holds_it (subject.Request n) u (old.waited n r u was waiter due) | inr last ↦ absurd (let no : None ≡ Some u = ap (λ (x : Thing). x.waiter) last.1 ∙ waiter in cc) ];
        holds = λ u y j x at_u at_j.
            by_holder holds_it u y at_u
            (λ is same.
            let found : slice_get holds_it.held j ≡ Some x = ap (λ (z : Holder). slice_get z.held j) same ∙ at_j in
            elim (in_last may.it.held (record { number = length ts; worker = i }) x j found) [
              | inl was ↦
                  let held = old.holds t may.it j x may.there was in
                  (held.0, on x.number held.0 held.1, subst (λ n. HoldsRequest workers n y x held.0) (sym is) (subst (λ (z : Holder). HoldsRequest workers t z x held.0) same (record { worker = held.2.worker; near = held.2.near; here = held.2.here; waiter = held.2.waiter; awaited = held.2.awaited })))
              | inr last ↦ (
                new,
                ap (λ (z : Held). slice_get ts' z.number) (sym last.1) ∙ got_new ts new,
                subst (λ n. HoldsRequest workers n y x new) (sym is) (subst (λ (z : Holder). HoldsRequest workers t z x new) same (subst (λ (z : Held). HoldsRequest workers t holds_it z new) last.1
                    (record { worker = refl; near = may.near; here = λ some. refl; waiter = λ v never. absurd (let no : None ≡ Some v = never in cc); awaited = λ sent. absurd (false≢true (sym sent)) }))),
              )
            ])
            (λ apart was. let held = old.holds u y j x was at_j in (held.0, on x.number held.0 held.1, held.2));
        awaiting = λ u y n at_u awaits.
            by_holder holds_it u y at_u
            (λ is same. absurd (let no : None ≡ Some (subject.Request n) = sym may.waits ∙ ap (λ (z : Holder). z.awaits) same ∙ awaits in cc))
            (λ apart was. let it = old.awaiting u y n was awaits in (it.0, on n it.0 it.1, it.2));
        asleep = grind (arith, by_number, set_elsewhere, same_Some, set_there);
        over = λ u y at_u over.
            by_holder holds_it u y at_u
            (λ is same. absurd (false≢true (sym may.going ∙ ap (λ (z : Holder). z.over) same ∙ over)))
            (λ apart was. old.over u y was over);
        sleeps = λ n z at unfired kept. awaits_on holds_it (subject.Timer n) z.task (old.sleeps n z at unfired kept);
        let_go = λ n z box at at_box open_box.
            subst (λ a. a + under_way h (Message.Cancel (subject.Timer n)) boxes ≤ 1) (sym (count_set (λ (y : Holder). not y.over && is_awaited_by (subject.Timer n) y.awaits) hs t may.it holds_it may.there refl)) (old.let_go n z box at at_box open_box);
        asked_too = λ n z at sent. ordinary_on holds_it refl z.task (old.asked_too n z at sent);
        let_be = λ n z at closed. ordinary_on holds_it refl z.task (old.let_be n z at closed);
        woken = old.woken;
        owed = λ j u some. let was = old.owed j u some in (was.0, owed_on holds_it ts' naps on stays j u was.1);
        about = λ j box m at_box has. about_on ts' naps on stays j m (old.about j box m at_box has);
        room = λ j box at_box. room_on ts' naps (λ m. let last = sum_by-append (λ (x : Thing). cond (x.worker == m) 1 0) ts (new ∷ []) in omega (arith, last)) j box at_box;
        sent = grind (arith, in_last, old);
        sent_too = old.sent_too;
        made = λ m some. let it = old.made m some in (it.0, about_on ts' naps on stays it.0 m it.1);
        of_worker = grind (arith, in_last, slice_get_within, old);
        of_worker_too = old.of_worker_too;
      }

  -- A SLEEPER, for which it waits

  abbrev pub waits_for_it : Holder
  waits_for_it = record may.it { awaits = Some (subject.Timer (length naps)) }

  abbrev pub new_nap : Nap
  new_nap = record { worker = i; task = t; fired = false; removed = false; closed = false; forwarding = Unsent; paid = 0; sent = false }

  pub holding_slept : IsHolding h workers (slice_set hs t waits_for_it) ts (naps ++ new_nap ∷ []) boxes
  holding_slept =
      let k : ℕ = length naps in
      let new : Nap = new_nap in
      let naps' : List Nap = naps ++ new ∷ [] in
      let hs' : List Holder = slice_set hs t waits_for_it in
      let stays : (n : ℕ) (r : Thing) → slice_get ts n ≡ Some r → slice_get ts n ≡ Some r = λ n r at. at in
      let on : (n : ℕ) (z : Nap) → slice_get naps n ≡ Some z → slice_get naps' n ≡ Some z = λ n z at. got_old naps new z n at in
      let same_held : (n : ℕ) → holdings n hs' ≡ holdings n hs = λ n. let sums = sum_set (λ (y : Holder). count_by (λ (x : Held). x.number == n) y.held) hs t may.it waits_for_it may.there in omega (arith, sums) in
      let waits_now : (n : ℕ) → waiters (subject.Timer n) hs' ≡ waiters (subject.Timer n) hs + weigh (n == length naps) = grind (arith, sum_set, weigh, never_and) in
      record {
        held = λ n r box at at_box. subst (λ a. IsHeldBy box.shut r.observed a (under_way h (Message.Cancel (subject.Request n)) boxes)) (sym (same_held n)) (old.held n r box at at_box);
        forwarded = old.forwarded;
        asked = λ n r at sent. let a = old.asked n r at sent in (a.0, a.1, ordinary_on waits_for_it refl a.0 a.2);
        waited = λ n r u at waiter due. awaits_on waits_for_it (subject.Request n) u (old.waited n r u at waiter due);
        holds = grind (arith, by_number, set_elsewhere, same_Some, set_there);
        awaiting = grind (arith, by_number, set_elsewhere, same_Some, set_there);
        asleep = λ u y n at_u awaits.
            by_holder waits_for_it u y at_u
            (λ is same.
            let which : k ≡ n = let both : Some (subject.Timer k) ≡ Some (subject.Timer n) = ap (λ (z : Holder). z.awaits) same ∙ awaits in cc in (
              new,
              ap (slice_get naps') (sym which) ∙ got_new naps new,
              subst (λ m. AwaitsNap workers m y new) (sym is) (subst (λ (z : Holder). AwaitsNap workers t z new) same (record { task = refl; near = may.near; here = λ some. refl; kept = λ going. refl })),
            ))
            (λ apart was. let it = old.asleep u y n was awaits in (it.0, on n it.0 it.1, it.2));
        over = λ u y at_u over.
            by_holder waits_for_it u y at_u
            (λ is same. absurd (false≢true (sym may.going ∙ ap (λ (z : Holder). z.over) same ∙ over)))
            (λ apart was. old.over u y was over);
        sleeps = λ n z at unfired kept.
            elim (in_last naps new z n at) [
              | inl was ↦ awaits_on waits_for_it (subject.Timer n) z.task (old.sleeps n z was unfired kept)
              | inr last ↦
                  let task : t ≡ z.task = ap (λ (x : Nap). x.task) last.1 in
                  record { it = waits_for_it; there = ap (slice_get hs') (sym task) ∙ set_there hs t waits_for_it may.it may.there; awaits = ap (λ m. Some (subject.Timer m)) (sym last.0) }
            ];
        let_go = λ n z box at at_box open_box.
            elim (in_last naps new z n at) [
              | inl was ↦
                  let few = slice_get_within naps n z was in
                  let none : weigh (n == length naps) ≡ 0 = ap weigh (not_same n (length naps) (λ same. omega (arith, few, same))) in
                  let before = old.let_go n z box was at_box open_box in
                  omega (arith, waits_now n, none, before)
              | inr last ↦
                  let nothing : under_way h (Message.Cancel (subject.Timer n)) boxes ≡ 0 = ap (λ m. under_way h (Message.Cancel (subject.Timer m)) boxes) last.0 ∙ not_about (Message.Cancel (subject.Timer k)) never_timer in
                  let nobody : waiters (subject.Timer n) hs ≡ 0 = ap (λ m. waiters (subject.Timer m) hs) last.0 ∙ unawaited in
                  let one = at_most (n == length naps) in
                  omega (arith, waits_now n, nothing, nobody, one)
            ];
        asked_too = grind (arith, in_last, ordinary_on, old);
        let_be = grind (arith, in_last, ordinary_on, old);
        woken = grind (arith, in_last, same_Some, not_about, never_timer);
        owed = λ j u some. let was = old.owed j u some in (was.0, owed_on waits_for_it ts naps' stays on j u was.1);
        about = λ j box m at_box has. about_on ts naps' stays on j m (old.about j box m at_box has);
        room = λ j box at_box. room_on ts naps' (λ m. let last = sum_by-append (λ (x : Nap). cond (x.worker == m) 1 0) naps (new ∷ []) in omega (arith, last)) j box at_box;
        sent = old.sent;
        sent_too = λ n z at is.
            elim (in_last naps new z n at) [ inl was ↦ old.sent_too n z was is | inr last ↦ absurd (false≢true (ap (λ (x : Nap). x.sent) last.1 ∙ is)) ];
        made = λ m some. let it = old.made m some in (it.0, about_on ts naps' stays on it.0 m it.1);
        of_worker = old.of_worker;
        of_worker_too = grind (arith, in_last, slice_get_within, old);
      }
    where
      never_and : (b : Bool) → (b && false) ≡ false
      never_and true = refl
      never_and false = refl
