-- The callbacks: what the worker keeps to be told, once a request or a sleeper has paid a wake, or its end was sent elsewhere.
use Rattle.std.proofs.{Common.{◌≡◌, ℕ, suc, ◌+◌, ◌≤◌, ◌==◌, ◌||◌, Bool, true, false, Contains, List, [], ◌∷◌, cond, count_by, Some, Result, Ok, Err, refl, sym, ap, subst, ◌∙◌, arith, slice_get, slice_set}, lemmas.Bool.eq-eqb}
use Rattle.exec_base.specs.{Slab.{Slab, value_at}, declared.{error.Error.Error, slab.Id.Id}}
use Rattle.exec_request.specs.declared.output.RequestOutput.{RequestOutput}
use Rattle.exec_time.specs.declared.{notes.ForwardedResult.ForwardedResult, timers.{Sleeper.Sleeper as Sleeping}}
use Rattle.exec_waiters.specs.declared.{deferred.{Answer.Answer, Deferred.Deferred}}
use Rattle.exec_driver.specs.Driving.{Driving}
use Rattle.exec_machine.specs.Tests.{is_applied, is_resolved}
use Rattle.exec_moves.specs.declared.handing.Heard.{Heard}
use Rattle.exec_parts.{specs.{declared.parts.{mail.Reply.Reply, names.Names.Names, record.Record.Record, sleeping.SleeperRecord.SleeperRecord}, Calls.{as_sent, paying, sleeper_paying, sleeper_sent}, Records.number_in, Serving.changed_at}, proofs.Facts.{by_number, not_same, same_Some, set_elsewhere, set_there}}
use Rattle.exec_invariants.{specs.{Holding.{IsAnswerOf, thing_of}, Places.one_if, Rooted.{IsCompletion, IsKept, IsReplyFor, IsResult, IsRooted, Pays, SleeperPays, StandsAt, Watches, completions_of, ends_elsewhere, goes_elsewhere, is_of_request, is_of_timer, results_of}}, proofs.{Marking.{mark_if, mark_kept, marked, was_marked}, ServedEnds.{count_both, count_one}}}

-- OF RECORDS, one of which is marked

module _ (f : Record → Record) (rs : List Record) (q : ℕ) where
  -- what f keeps of each
  part : {A : Type 0} (p : Record → A) → ((r : Record) → p (f r) ≡ p r) → (k : ℕ) (x : Record) (at : slice_get (changed_at rs q f) k ≡ Some x) → p (was_marked f rs q k x at).0 ≡ p x
  part = grind arith

  keep : (P : Record → Type 0) → ((r : Record) → P r → P (f r)) → (b : Bool) (r : Record) → P r → P (mark_if f b r)
  keep P holds true r h = holds r h
  keep P holds false r h = h

  back : (P : Record → Type 0) → ((r : Record) → P r → P (f r)) → (k : ℕ) (x : Record) (at : slice_get (changed_at rs q f) k ≡ Some x) → P (was_marked f rs q k x at).0 → P x
  back = grind arith

  -- by whether it is the one
  by_mark : (P : ℕ → Record → Type 0) (r : Record) → slice_get rs q ≡ Some r → (P q r → P q (f r)) → (k : ℕ) (o : Record) → slice_get rs k ≡ Some o → P k o → P k (mark_if f (q == k) o)
  by_mark = grind arith

  back_one : (P : ℕ → Record → Type 0) (r : Record) → slice_get rs q ≡ Some r → (P q r → P q (f r)) → (k : ℕ) (x : Record) (at : slice_get (changed_at rs q f) k ≡ Some x) → P k (was_marked f rs q k x at).0 → P k x
  back_one = grind arith

-- A REQUEST HAS PAID: it is over, or nobody holds it, and its end isn't to be sent unless it had paid none
pub rooted_paid : (i : ℕ) (n : Names) (d : Driving Reply Reply) (zs : Slab (Sleeping Reply)) (left : Deferred Reply Reply) (rs : List Record) (ss : List SleeperRecord) (q : ℕ) (r : Record) → slice_get rs q ≡ Some r
    → (is_resolved r.shown.phase ≡ false → r.shown.observed ≡ true → ⊥) → (is_applied r.shown.forwarding ≡ false → r.shown.wakes_paid ≡ 0) → ((a : Answer Reply) → Contains left.results.items a → a.sender.of ≡ Heard.Request q → r.shown.wakes_paid ≡ 0)
    → IsRooted i n d zs left rs ss → IsRooted i n d zs left (changed_at rs q paying) ss
rooted_paid i n d zs left rs ss q r there over once unpaid h =
    record {
      kept = λ id told x at found.
          let k = number_in n.requests.items id in
          back paying rs q (IsKept told) (λ y it. record { over = it.over; observed = it.observed; unapplied = it.unapplied }) k x found (h.kept id told (was_marked paying rs q k x found).0 at (was_marked paying rs q k x found).1);
      ready = λ k x found mine done held unapplied.
          let old = was_marked paying rs q k x found in
          back paying rs q (StandsAt k n d) (λ y it. record { named = it.named; live = it.live }) k x found
          (h.ready k old.0 old.1 (part paying rs q (λ y. y.shown.worker) (λ y. refl) k x found ∙ mine) (part paying rs q (λ y. is_resolved y.shown.phase) (λ y. refl) k x found ∙ done) (part paying rs q (λ y. y.shown.observed) (λ y. refl) k x found ∙ held)
          (part paying rs q (λ y. is_applied y.shown.forwarding) (λ y. refl) k x found ∙ unapplied));
      replies = λ id it reply x live is found.
          let k = number_in n.requests.items id in
          back paying rs q (IsReplyFor k reply) (λ y it. record { of = it.of; task = it.task }) k x found (h.replies id it reply (was_marked paying rs q k x found).0 live is (was_marked paying rs q k x found).1);
      watches = h.watches;
      pays = λ k x found mine.
          let old = was_marked paying rs q k x found in
          back_one paying rs q (λ m y. Pays y) r there pays_once k x found (h.pays k old.0 old.1 (part paying rs q (λ y. y.shown.worker) (λ y. refl) k x found ∙ mine));
      sleeper_pays = h.sleeper_pays;
      results = λ a has.
          let x = h.results a has in
          record {
            k = x.k;
            r = mark_if paying (q == x.k) x.r;
            there = marked paying rs q x.k x.r x.there;
            worker = mark_kept _ (λ y. y.shown.worker) paying (λ y. refl) (q == x.k) x.r ∙ x.worker;
            reply = keep paying rs q (IsReplyFor x.k a.sender) (λ y it. record { of = it.of; task = it.task }) (q == x.k) x.r x.reply;
            answer = keep paying rs q (λ y. IsAnswerOf a.result (thing_of y)) (λ y it. answer_paid a.result y it) (q == x.k) x.r x.answer;
            paid = by_mark paying rs q (λ m y. a.sender.of ≡ Heard.Request m → y.shown.wakes_paid ≤ 1) r there
                (λ was of. let none = unpaid a has of in omega (arith, none)) x.k x.r x.there (λ of. x.paid) x.reply.of;
          };
      completions = h.completions;
      sent = λ k x found mine.
          let old = was_marked paying rs q k x found in
          back paying rs q (λ y. results_of k left + one_if y.sent ≡ one_if (goes_elsewhere y)) (λ y it. it) k x found (h.sent k old.0 old.1 (part paying rs q (λ y. y.shown.worker) (λ y. refl) k x found ∙ mine));
      sleeper_sent = h.sleeper_sent;
    }
  where
    pays_once : Pays r → Pays (paying r)
    pays_once was = record { unpaid = λ going held. absurd (over going held); once = λ unapplied. let none = once unapplied in omega (arith, none) }

    answer_paid : (o : Result RequestOutput Error) (y : Record) → IsAnswerOf o (thing_of y) → IsAnswerOf o (thing_of (paying y))
    answer_paid (Ok told) y it = it
    answer_paid (Err e) y it = it

-- ITS END WAS SENT: the first of those that were to be sent

first_counts : (k q : ℕ) (a : Answer Reply) (rest xs : List (Answer Reply)) → xs ≡ a ∷ rest → a.sender.of ≡ Heard.Request q → count_by (λ x. is_of_request k x.sender.of) xs ≡ cond (q == k) 1 0 + count_by (λ x. is_of_request k x.sender.of) rest
first_counts k q a rest xs is of =
    let p : Answer Reply → Bool = λ x. is_of_request k x.sender.of in
    ap (count_by p) is ∙ count_both p (a ∷ []) rest ∙ ap (λ m. m + count_by p rest) (count_one p a (q == k) (ap (is_of_request k) of))

first_completes : (k q : ℕ) (c : ForwardedResult Reply) (rest xs : List (ForwardedResult Reply)) → xs ≡ c ∷ rest → c.sender.of ≡ Heard.Timer q → count_by (λ x. is_of_timer k x.sender.of) xs ≡ cond (q == k) 1 0 + count_by (λ x. is_of_timer k x.sender.of) rest
first_completes k q c rest xs is of =
    let p : ForwardedResult Reply → Bool = λ x. is_of_timer k x.sender.of in
    ap (count_by p) is ∙ count_both p (c ∷ []) rest ∙ ap (λ m. m + count_by p rest) (count_one p c (q == k) (ap (is_of_timer k) of))

pub later : {A : Type 0} (x : A) (xs : List A) (y : A) → Contains xs y → Contains (x ∷ xs) y
later x xs y (k, few, is) = (suc k, omega (arith, few), is)

counts_self : (q : ℕ) → ◌≡◌ {A = ℕ} (cond (q == q) 1 0) 1
counts_self q = ap (λ b. cond b 1 0) (eq-eqb q q refl)

counts_other : (q k : ℕ) → (q == k) ≡ false → ◌≡◌ {A = ℕ} (cond (q == k) 1 0) 0
counts_other q k is = ap (λ b. cond b 1 0) is

-- the one that was to be sent wasn't, and is once it was
unsent_by : (n : ℕ) (s g : Bool) → (1 + n) + one_if s ≡ one_if g → (s ≡ false) × (g ≡ true) × (n ≡ 0)
unsent_by = grind arith

pub record ToBeSent (q : ℕ) (left : Deferred Reply Reply) (r : Record) : Type 0 where
  pub unsent : r.sent ≡ false
  pub goes : goes_elsewhere r ≡ true

pub to_be_sent : (i q : ℕ) (n : Names) (d : Driving Reply Reply) (zs : Slab (Sleeping Reply)) (left : Deferred Reply Reply) (rs : List Record) (ss : List SleeperRecord) (a : Answer Reply) (rest : List (Answer Reply)) (r : Record) → slice_get rs q ≡ Some r → r.shown.worker ≡ i
    → left.results.items ≡ a ∷ rest → a.sender.of ≡ Heard.Request q → IsRooted i n d zs left rs ss → ToBeSent q left r
to_be_sent i q n d zs left rs ss a rest r there mine is of h =
    let counted : results_of q left ≡ cond (q == q) 1 0 + count_by (λ (x : Answer Reply). is_of_request q x.sender.of) rest = first_counts q q a rest left.results.items is of in
    let one : cond (q == q) 1 0 ≡ 1 = ap (λ b. cond b 1 0) (eq-eqb q q refl) in
    let total : results_of q left + one_if r.sent ≡ one_if (goes_elsewhere r) = h.sent q r there mine in
    let by = unsent_by (count_by (λ (x : Answer Reply). is_of_request q x.sender.of) rest) r.sent (goes_elsewhere r) (ap (λ m. m + one_if r.sent) (sym (counted ∙ ap (λ m. m + count_by (λ (x : Answer Reply). is_of_request q x.sender.of) rest) one)) ∙ total) in
    record { unsent = by.0; goes = by.1 }

pub rooted_answered : (i : ℕ) (n : Names) (d : Driving Reply Reply) (zs : Slab (Sleeping Reply)) (left left' : Deferred Reply Reply) (rs : List Record) (ss : List SleeperRecord) (q : ℕ) (r : Record) (a : Answer Reply) → slice_get rs q ≡ Some r → r.shown.worker ≡ i
    → left.results.items ≡ a ∷ left'.results.items → a.sender.of ≡ Heard.Request q → left'.notes.completions.items ≡ left.notes.completions.items
    → IsRooted i n d zs left rs ss → IsRooted i n d zs left' (changed_at rs q as_sent) ss
rooted_answered i n d zs left left' rs ss q r a there mine is of notes h =
    record {
      kept = λ id told x at found.
          let k = number_in n.requests.items id in
          back as_sent rs q (IsKept told) (λ y it. record { over = it.over; observed = it.observed; unapplied = it.unapplied }) k x found (h.kept id told (was_marked as_sent rs q k x found).0 at (was_marked as_sent rs q k x found).1);
      ready = λ k x found own done held unapplied.
          let old = was_marked as_sent rs q k x found in
          back as_sent rs q (StandsAt k n d) (λ y it. record { named = it.named; live = it.live }) k x found
          (h.ready k old.0 old.1 (part as_sent rs q (λ y. y.shown.worker) (λ y. refl) k x found ∙ own) (part as_sent rs q (λ y. is_resolved y.shown.phase) (λ y. refl) k x found ∙ done) (part as_sent rs q (λ y. y.shown.observed) (λ y. refl) k x found ∙ held)
          (part as_sent rs q (λ y. is_applied y.shown.forwarding) (λ y. refl) k x found ∙ unapplied));
      replies = λ id it reply x live is found.
          let k = number_in n.requests.items id in
          back as_sent rs q (IsReplyFor k reply) (λ y it. record { of = it.of; task = it.task }) k x found (h.replies id it reply (was_marked as_sent rs q k x found).0 live is (was_marked as_sent rs q k x found).1);
      watches = h.watches;
      pays = λ k x found own.
          let old = was_marked as_sent rs q k x found in
          back as_sent rs q Pays (λ y it. record { unpaid = it.unpaid; once = it.once }) k x found (h.pays k old.0 old.1 (part as_sent rs q (λ y. y.shown.worker) (λ y. refl) k x found ∙ own));
      sleeper_pays = h.sleeper_pays;
      results = λ b has.
          let x = h.results b (subst (λ xs. Contains xs b) (sym is) (later a left'.results.items b has)) in
          record {
            k = x.k;
            r = mark_if as_sent (q == x.k) x.r;
            there = marked as_sent rs q x.k x.r x.there;
            worker = mark_kept _ (λ y. y.shown.worker) as_sent (λ y. refl) (q == x.k) x.r ∙ x.worker;
            reply = keep as_sent rs q (IsReplyFor x.k b.sender) (λ y it. record { of = it.of; task = it.task }) (q == x.k) x.r x.reply;
            answer = keep as_sent rs q (λ y. IsAnswerOf b.result (thing_of y)) (λ y it. answer_sent b.result y it) (q == x.k) x.r x.answer;
            paid = keep as_sent rs q (λ y. y.shown.wakes_paid ≤ 1) (λ y it. it) (q == x.k) x.r x.paid;
          };
      completions = λ c has. h.completions c (subst (λ cs. Contains cs c) notes has);
      sent = λ k x found own.
          let old = was_marked as_sent rs q k x found in
          let total : results_of k left + one_if old.0.sent ≡ one_if (goes_elsewhere old.0) = h.sent k old.0 old.1 (part as_sent rs q (λ y. y.shown.worker) (λ y. refl) k x found ∙ own) in
          let fewer : results_of k left ≡ cond (q == k) 1 0 + results_of k left' = first_counts k q a left'.results.items left.results.items is of in
          subst (λ y. results_of k left' + one_if y.sent ≡ one_if (goes_elsewhere y)) (sym old.2) (sent_by k (q == k) old.0 (results_of k left') (ap (λ m. m + one_if old.0.sent) (sym fewer) ∙ total));
      sleeper_sent = λ k z found own. ap (λ (cs : List (ForwardedResult Reply)). count_by (λ c. is_of_timer k c.sender.of) cs + one_if z.sent) notes ∙ h.sleeper_sent k z found own;
    }
  where
    answer_sent : (o : Result RequestOutput Error) (y : Record) → IsAnswerOf o (thing_of y) → IsAnswerOf o (thing_of (as_sent y))
    answer_sent (Ok told) y it = it
    answer_sent (Err e) y it = it

    sent_by : (k : ℕ) (b : Bool) (y : Record) (m : ℕ) → (cond b 1 0 + m) + one_if y.sent ≡ one_if (goes_elsewhere y) → m + one_if (mark_if as_sent b y).sent ≡ one_if (goes_elsewhere (mark_if as_sent b y))
    sent_by = grind arith

-- OF SLEEPERS, one of which became this

module _ (ss : List SleeperRecord) (q : ℕ) (z z' : SleeperRecord) (there : slice_get ss q ≡ Some z) where
  -- a fact of each that is kept where it changed
  each : (P : ℕ → SleeperRecord → Type 0) → (P q z → P q z') → ((k : ℕ) (v : SleeperRecord) → slice_get ss k ≡ Some v → P k v) → (k : ℕ) (y : SleeperRecord) → slice_get (slice_set ss q z') k ≡ Some y → P k y
  each = grind (arith, by_number, set_elsewhere, same_Some, set_there)

  each_at : (k : ℕ) (P : SleeperRecord → Type 0) → (P z → P z') → ((v : SleeperRecord) → slice_get ss k ≡ Some v → P v) → (y : SleeperRecord) → slice_get (slice_set ss q z') k ≡ Some y → P y
  each_at = grind (arith, by_number, set_elsewhere, same_Some, set_there)

  -- one that stood there
  now_slept : (P : ℕ → SleeperRecord → Type 0) → (P q z → P q z') → (k : ℕ) (v : SleeperRecord) → slice_get ss k ≡ Some v → P k v → (y : SleeperRecord) × (slice_get (slice_set ss q z') k ≡ Some y) × P k y
  now_slept P one k v at h =
      by_number k q
      (λ apart. (v, set_elsewhere ss q k z' apart ∙ at, h))
      (λ same.
      let is : z ≡ v = same_Some z v (sym there ∙ subst (λ m. slice_get ss m ≡ Some v) same at) in
      (z', subst (λ m. slice_get (slice_set ss q z') m ≡ Some z') (sym same) (set_there ss q z' z there), subst (λ m. P m z') (sym same) (one (subst (P q) (sym is) (subst (λ m. P m v) same h)))))

-- what is to be sent to who waits elsewhere for sleeper m
pub record Completes (i : ℕ) (c : ForwardedResult Reply) (m : ℕ) (z : SleeperRecord) : Type 0 where
  pub worker : z.shown.worker ≡ i
  pub reply : c.sender ≡ record { task = record { 0 = z.shown.task }; of = Heard.Timer m }
  pub paid : z.shown.wakes_paid ≤ 1

-- A SLEEPER HAS PAID
pub rooted_slept : (i : ℕ) (n : Names) (d : Driving Reply Reply) (zs : Slab (Sleeping Reply)) (left : Deferred Reply Reply) (rs : List Record) (ss : List SleeperRecord) (q : ℕ) (z : SleeperRecord) → slice_get ss q ≡ Some z
    → (z.shown.fired ≡ false → (z.shown.removed || z.closed) ≡ false → ⊥) → (is_applied z.shown.forwarding ≡ false → z.shown.wakes_paid ≡ 0) → ((c : ForwardedResult Reply) → Contains left.notes.completions.items c → c.sender.of ≡ Heard.Timer q → z.shown.wakes_paid ≡ 0)
    → IsRooted i n d zs left rs ss → IsRooted i n d zs left rs (slice_set ss q (sleeper_paying z))
rooted_slept i n d zs left rs ss q z there over once unpaid h =
    let z' : SleeperRecord = sleeper_paying z in
    let watches : (id : Id) (it : Sleeping Reply) (y : SleeperRecord) → value_at zs id ≡ Some it → slice_get (slice_set ss q z') (number_in n.timers.items id) ≡ Some y → Watches (number_in n.timers.items id) it.observer y = λ id it y live found.
    each_at ss q z z' there (number_in n.timers.items id) (λ v. Watches (number_in n.timers.items id) it.observer v) (watches_paid (number_in n.timers.items id) it) (λ v at. h.watches id it v live at) y found in
    let completions : (c : ForwardedResult Reply) → Contains left.notes.completions.items c → IsCompletion i c (slice_set ss q z') = λ c has.
    let x = h.completions c has in
    let new = now_slept ss q z z' there (Completes i c) (λ was. record { worker = was.worker; reply = was.reply; paid = let none = unpaid c has (ap (λ (s : Reply). s.of) was.reply) in omega (arith, none) }) x.n x.z x.there (record { worker = x.worker; reply = x.reply; paid = x.paid }) in
    record { n = x.n; z = new.0; there = new.1; worker = new.2.worker; reply = new.2.reply; paid = new.2.paid } in
    assumption (
      watches,
      each ss q z z' there (λ m v. v.shown.worker ≡ i → SleeperPays v) (λ was mine. pays_once) h.sleeper_pays,
      completions,
      each ss q z z' there (λ m v. v.shown.worker ≡ i → completions_of m left + one_if v.sent ≡ one_if (ends_elsewhere v)) (λ was. was) h.sleeper_sent,
      h,
    )
  where
    pays_once : SleeperPays (sleeper_paying z)
    pays_once = record { unpaid = λ unfired kept. absurd (over unfired kept); once = λ unapplied. let none = once unapplied in omega (arith, none) }

    watches_paid : (k : ℕ) (it : Sleeping Reply) → Watches k it.observer z → Watches k it.observer (sleeper_paying z)
    watches_paid = grind arith

-- ITS END WAS SENT
pub rooted_completed : (i : ℕ) (n : Names) (d : Driving Reply Reply) (zs : Slab (Sleeping Reply)) (left left' : Deferred Reply Reply) (rs : List Record) (ss : List SleeperRecord) (q : ℕ) (z : SleeperRecord) (c : ForwardedResult Reply) → slice_get ss q ≡ Some z
    → left.notes.completions.items ≡ c ∷ left'.notes.completions.items → c.sender.of ≡ Heard.Timer q → left'.results.items ≡ left.results.items
    → IsRooted i n d zs left rs ss → IsRooted i n d zs left' rs (slice_set ss q (sleeper_sent z))
rooted_completed i n d zs left left' rs ss q z c there is of results h =
    let z' : SleeperRecord = sleeper_sent z in
    let watches : (id : Id) (it : Sleeping Reply) (y : SleeperRecord) → value_at zs id ≡ Some it → slice_get (slice_set ss q z') (number_in n.timers.items id) ≡ Some y → Watches (number_in n.timers.items id) it.observer y = λ id it y live found.
    each_at ss q z z' there (number_in n.timers.items id) (λ v. Watches (number_in n.timers.items id) it.observer v) (watches_sent (number_in n.timers.items id) it) (λ v at. h.watches id it v live at) y found in
    let answers : (a : Answer Reply) → Contains left'.results.items a → IsResult i a rs = λ a has. h.results a (subst (λ answers. Contains answers a) results has) in
    let completions : (b : ForwardedResult Reply) → Contains left'.notes.completions.items b → IsCompletion i b (slice_set ss q z') = λ b has.
    let x = h.completions b (subst (λ xs. Contains xs b) (sym is) (later c left'.notes.completions.items b has)) in
    let new = now_slept ss q z z' there (Completes i b) (λ was. record { worker = was.worker; reply = was.reply; paid = was.paid }) x.n x.z x.there (record { worker = x.worker; reply = x.reply; paid = x.paid }) in
    record { n = x.n; z = new.0; there = new.1; worker = new.2.worker; reply = new.2.reply; paid = new.2.paid } in
    let sent : (k : ℕ) (r : Record) → slice_get rs k ≡ Some r → r.shown.worker ≡ i → results_of k left' + one_if r.sent ≡ one_if (goes_elsewhere r) = λ k r found own.
    ap (λ (answers : List (Answer Reply)). count_by (λ (a : Answer Reply). is_of_request k a.sender.of) answers + one_if r.sent) results ∙ h.sent k r found own in
    let sleeper_sent : (k : ℕ) (y : SleeperRecord) → slice_get (slice_set ss q z') k ≡ Some y → y.shown.worker ≡ i → completions_of k left' + one_if y.sent ≡ one_if (ends_elsewhere y) = λ k y found own.
    sent_each k y found own (λ m v at mine.
    let fewer : completions_of m left ≡ cond (q == m) 1 0 + completions_of m left' = first_completes m q c left'.notes.completions.items left.notes.completions.items is of in
    ap (λ a. a + one_if v.sent) (sym fewer) ∙ h.sleeper_sent m v at mine) in
    assumption (watches, answers, each ss q z z' there (λ m v. v.shown.worker ≡ i → SleeperPays v) (λ was mine. let it = was mine in record { unpaid = it.unpaid; once = it.once }) h.sleeper_pays, completions, sent, sleeper_sent, h)
  where
    watches_sent : (k : ℕ) (it : Sleeping Reply) → Watches k it.observer z → Watches k it.observer (sleeper_sent z)
    watches_sent = grind arith

    sent_each : (k : ℕ) (y : SleeperRecord) → slice_get (slice_set ss q (sleeper_sent z)) k ≡ Some y → y.shown.worker ≡ i → ((m : ℕ) (v : SleeperRecord) → slice_get ss m ≡ Some v → v.shown.worker ≡ i → (cond (q == m) 1 0 + completions_of m left') + one_if v.sent ≡ one_if (ends_elsewhere v))
        → completions_of k left' + one_if y.sent ≡ one_if (ends_elsewhere y)
    sent_each k y at own old =
        by_number k q
        (λ apart.
        let total = old k y (sym (set_elsewhere ss q k (sleeper_sent z) apart) ∙ at) own in
        let none = counts_other q k (not_same q k (λ e. apart (sym e))) in
        omega (arith, total, none))
        (λ same.
        let is : sleeper_sent z ≡ y = same_Some (sleeper_sent z) y (sym (set_there ss q (sleeper_sent z) z there) ∙ subst (λ m. slice_get (slice_set ss q (sleeper_sent z)) m ≡ Some y) same at) in
        let mine : z.shown.worker ≡ i = ap (λ (v : SleeperRecord). v.shown.worker) is ∙ own in
        let total : (cond (q == q) 1 0 + completions_of q left') + one_if z.sent ≡ one_if (ends_elsewhere z) = old q z there mine in
        let one = counts_self q in
        let by = unsent_by (completions_of q left') z.sent (ends_elsewhere z) (ap (λ a. (a + completions_of q left') + one_if z.sent) (sym one) ∙ total) in
        let none = by.2 in
        let goes = ap one_if by.1 in
        subst (λ m. completions_of m left' + one_if y.sent ≡ one_if (ends_elsewhere y)) (sym same)
        (subst (λ (v : SleeperRecord). completions_of q left' + one_if v.sent ≡ one_if (ends_elsewhere v)) is (omega (arith, none, goes))))

pub to_complete : (i q : ℕ) (n : Names) (d : Driving Reply Reply) (zs : Slab (Sleeping Reply)) (left : Deferred Reply Reply) (rs : List Record) (ss : List SleeperRecord) (c : ForwardedResult Reply) (rest : List (ForwardedResult Reply)) (z : SleeperRecord) → slice_get ss q ≡ Some z → z.shown.worker ≡ i
    → left.notes.completions.items ≡ c ∷ rest → c.sender.of ≡ Heard.Timer q → IsRooted i n d zs left rs ss → (z.sent ≡ false) × (ends_elsewhere z ≡ true)
to_complete i q n d zs left rs ss c rest z there mine is of h =
    let m : ℕ = count_by (λ (x : ForwardedResult Reply). is_of_timer q x.sender.of) rest in
    let counted : completions_of q left ≡ cond (q == q) 1 0 + m = first_completes q q c rest left.notes.completions.items is of in
    let one = counts_self q in
    let total : completions_of q left + one_if z.sent ≡ one_if (ends_elsewhere z) = h.sleeper_sent q z there mine in
    let by = unsent_by m z.sent (ends_elsewhere z) (ap (λ a. a + one_if z.sent) (sym (counted ∙ ap (λ a. a + m) one)) ∙ total) in
    (by.0, by.1)
