-- A TASK IS OVER: its worker lets go of what it has of what that held and slept for, and has letters of the rest. What it has then,
-- and what is seen of it.
use Rattle.exec_invariants.{specs.{Gates.AreLinedUp, Holding.{awaited_in, nap_of, thing_of}, Sound.served_in, Spares.SleeperEndures}, proofs.{Words.{◌≡◌, ◌≢◌, inr, ℕ, ◌==◌, ◌||◌, Bool, true, false, not, List, [], ◌∷◌, ◌++◌, count_by, map, option_map, option_to_list, Option, Some, None, refl, sym, ap, subst, ◌∙◌, slice_get, slice_index_or, slice_set, if◌then◌else◌, eq-eqb, append-nil, append_assoc, get_or_from_slice_get, arith, Letter, CancelTimer, Sleeper, Waiting, own_after_drops, own_after_waking_up, owes_letter, removed_sleeper, requests_after_drops, sleepers_after_waking_up, Common, Own, no_sleeper, sleeper_of, Desk, lets_go_requests, lets_go_sleep, lets_go_timer, told_of_cancel, Held, Letters, Record, Shared, SleeperRecord, Worker, sleeper_removed, LetsGoAll, LetsWaiting, others_of, RemovesSleeper, numbers_held, desk_of, letter_of_request, letter_of_timer, letters_in, own_of, visible, by_number, not_same, same_Some, set_elsewhere, set_there, subject}, Showing.{map_kept, map_set}, HoldRedo.{count_set, set_on, set_back}, Keys.name_in, Lined.{KeepsLines, mapped, opens_same, now}, ServingHolds.Keeps, Serving.SparesRecords, Spared.sleepers_endure, TaskOverFold.{AllLet, HoldsAll, LetsSeen, SeesAll, let_all, letters_for, own_in}, TaskOverHolds.{LetsNap, LetsThing, nap_same}}}

-- the letters are those of requests, and of a sleeper where there is one
letters_are : (i : ℕ) (hs : List Held) (l : Letters) (o : Option Held) → l.requests.items ≡ others_of i hs → l.timer ≡ o → letters_in l ≡ letters_for i hs ++ option_to_list (option_map letter_of_timer o)
letters_are i hs l o requests timer = ap (λ xs. map letter_of_request xs ++ option_to_list (option_map letter_of_timer l.timer)) requests ∙ ap (λ t. letters_for i hs ++ option_to_list (option_map letter_of_timer t)) timer

module _ {B : Type 0} where
  pub record AllGone (i : ℕ) (hs : List Held) (u : Waiting) (l : Letters) (w v : Worker) (s now : Shared B) : Type 0 where
    pub keeps : Keeps v now
    pub worker : v ≡ record w { names = record w.names { ended = v.names.ended }; home = record w.home { driver = v.home.driver; timers = v.home.timers; deferred = v.home.deferred } }
    pub kept : now ≡ record s { requests = now.requests; sleepers = now.sleepers }
    pub shows : visible v ≡ visible w
    pub names : map name_in now.requests.items ≡ map name_in s.requests.items
    pub shown : map (λ (r : Record). r.shown) now.requests.items ≡ requests_after_drops i (numbers_held hs) (map (λ (r : Record). r.shown) s.requests.items)
    pub slept : (all : Common) → all.sleepers ≡ map (λ (z : SleeperRecord). z.shown) s.sleepers.items → map (λ (z : SleeperRecord). z.shown) now.sleepers.items ≡ sleepers_after_waking_up all i u
    pub own : (all : Common) → SeesAll all hs s.requests.items → all.sleepers ≡ map (λ (z : SleeperRecord). z.shown) s.sleepers.items → (owed : List Letter)
        → own_after_waking_up all i u (own_after_drops all i (numbers_held hs) (record (own_of w) { owed = owed })) ≡ record (own_of v) { owed = owed ++ letters_in l }
    pub desk : (all : Common) → SeesAll all hs s.requests.items → all.sleepers ≡ map (λ (z : SleeperRecord). z.shown) s.sleepers.items → (ls : List Letter)
        → lets_go_sleep i all u (lets_go_requests i all (numbers_held hs) (record (desk_of w) { letters = ls })) ≡ record (desk_of v) { letters = ls ++ letters_in l }
    pub on : (k : ℕ) (r : Record) → slice_get s.requests.items k ≡ Some r → (r' : Record) × (slice_get now.requests.items k ≡ Some r') × LetsThing (own_in i hs k) (thing_of r) (thing_of r')
    pub back : (k : ℕ) (r' : Record) → slice_get now.requests.items k ≡ Some r' → (r : Record) × (slice_get s.requests.items k ≡ Some r) × LetsThing (own_in i hs k) (thing_of r) (thing_of r')
    pub of : (j : ℕ) → count_by (λ t. t.worker == j) (map thing_of now.requests.items) ≡ count_by (λ t. t.worker == j) (map thing_of s.requests.items)
    pub naps_on : (n : ℕ) (z : SleeperRecord) → slice_get s.sleepers.items n ≡ Some z → (z' : SleeperRecord) × (slice_get now.sleepers.items n ≡ Some z') × LetsNap (awaited_in u ≡ Some (subject.Timer n)) (nap_of z) (nap_of z')
    pub naps_back : (n : ℕ) (z' : SleeperRecord) → slice_get now.sleepers.items n ≡ Some z' → (z : SleeperRecord) × (slice_get s.sleepers.items n ≡ Some z) × LetsNap (awaited_in u ≡ Some (subject.Timer n)) (nap_of z) (nap_of z')
    pub naps_of : (j : ℕ) → count_by (λ z. z.worker == j) (map nap_of now.sleepers.items) ≡ count_by (λ z. z.worker == j) (map nap_of s.sleepers.items)
    pub spares : SparesRecords i s now
    pub requests : l.requests.items ≡ others_of i hs
    pub timer : (h : Held) → l.timer ≡ Some h → (u ≡ Waiting.Timer h.number) × (h.worker ≢ i) × ((z : SleeperRecord) → slice_get s.sleepers.items h.number ≡ Some z → z.shown.worker ≡ h.worker)

  -- WHERE IT SLEPT for nothing that the worker has

  spares_let : (i : ℕ) (hs : List Held) (w v : Worker) (s now : Shared B) → AreLinedUp s.opens s.requests.items → AllLet i hs w v s now → SparesRecords i s now
  spares_let i hs w v s now lined a =
      let sleepers : now.sleepers.items ≡ s.sleepers.items = ap (λ (x : Shared B). x.sleepers.items) a.kept in
      let sleepers_so : (k : ℕ) (z : SleeperRecord) → slice_get s.sleepers.items k ≡ Some z → z.shown.worker ≢ i → slice_get now.sleepers.items k ≡ Some z = λ k z there other. ap (λ zs. slice_get zs k) sleepers ∙ there in
      let sleepers_only : (k : ℕ) (z : SleeperRecord) → slice_get now.sleepers.items k ≡ Some z → z.shown.worker ≢ i → slice_get s.sleepers.items k ≡ Some z = λ k z there other. ap (λ zs. slice_get zs k) (sym sleepers) ∙ there in
      let opens = opens_same s.opens now.opens s.requests.items lined (ap (λ (x : Shared B). x.opens) a.kept) in
      assumption (a.others, a.others_only, sleepers_so, sleepers_only, sleepers_endure s.sleepers.items now.sleepers.items sleepers, opens, ap (map (λ (z : SleeperRecord). z.sent)) sleepers, a)

  gone_requests : (i : ℕ) (hs : List Held) (u : Waiting) (l : Letters) (w v : Worker) (s now : Shared B) (more : List Letter) → AreLinedUp s.opens s.requests.items → AllLet i hs w v s now → l.requests.items ≡ others_of i hs
      → ((h : Held) → l.timer ≡ Some h → (u ≡ Waiting.Timer h.number) × (h.worker ≢ i) × ((z : SleeperRecord) → slice_get s.sleepers.items h.number ≡ Some z → z.shown.worker ≡ h.worker)) → letters_in l ≡ letters_for i hs ++ more
      → ((all : Common) → all.sleepers ≡ map (λ (z : SleeperRecord). z.shown) s.sleepers.items → sleepers_after_waking_up all i u ≡ all.sleepers)
      → ((all : Common) → all.sleepers ≡ map (λ (z : SleeperRecord). z.shown) s.sleepers.items → (me : Own) → own_after_waking_up all i u me ≡ record me { owed = me.owed ++ more })
      → ((all : Common) → all.sleepers ≡ map (λ (z : SleeperRecord). z.shown) s.sleepers.items → (d : Desk) → lets_go_sleep i all u d ≡ record d { letters = d.letters ++ more })
      → AllGone i hs u l w v s now
  gone_requests i hs u l w v s now more lined a requests timer letters sleeps owns desks =
      let same : now.sleepers.items ≡ s.sleepers.items = ap (λ (x : Shared B). x.sleepers.items) a.kept in
      let joined : (xs : List Letter) → (xs ++ letters_for i hs) ++ more ≡ xs ++ letters_in l = λ xs. append_assoc xs (letters_for i hs) more ∙ ap (λ ys. xs ++ ys) (sym letters) in
      let worker =
      a.worker ∙ ap (λ (zs : _). record w { names = record w.names { ended = v.names.ended }; home = record w.home { driver = v.home.driver; timers = zs; deferred = v.home.deferred } }) (sym (ap (λ (x : Worker). x.home.timers) a.worker)) in
      let kept = a.kept ∙ ap (λ (zs : _). record s { requests = now.requests; sleepers = zs }) (sym (ap (λ (x : Shared B). x.sleepers) a.kept)) in
      let slept : (all : Common) → all.sleepers ≡ map (λ (z : SleeperRecord). z.shown) s.sleepers.items → map (λ (z : SleeperRecord). z.shown) now.sleepers.items ≡ sleepers_after_waking_up all i u =
      λ all is. ap (map (λ (z : SleeperRecord). z.shown)) same ∙ sym is ∙ sym (sleeps all is) in
      let own : (all : Common) → SeesAll all hs s.requests.items → all.sleepers ≡ map (λ (z : SleeperRecord). z.shown) s.sleepers.items → (owed : List Letter) → own_after_waking_up all i u (own_after_drops all i (numbers_held hs) (record (own_of w) { owed = owed })) ≡ record (own_of v) { owed = owed ++ letters_in l } =
      λ all sees is owed. ap (own_after_waking_up all i u) (a.own all sees owed) ∙ owns all is (record (own_of v) { owed = owed ++ letters_for i hs }) ∙ ap (λ xs. record (own_of v) { owed = xs }) (joined owed) in
      let desk : (all : Common) → SeesAll all hs s.requests.items → all.sleepers ≡ map (λ (z : SleeperRecord). z.shown) s.sleepers.items → (ls : List Letter) → lets_go_sleep i all u (lets_go_requests i all (numbers_held hs) (record (desk_of w) { letters = ls })) ≡ record (desk_of v) { letters = ls ++ letters_in l } =
      λ all sees is ls. ap (lets_go_sleep i all u) (a.desk all sees ls) ∙ desks all is (record (desk_of v) { letters = ls ++ letters_for i hs }) ∙ ap (λ xs. record (desk_of v) { letters = xs }) (joined ls) in
      let naps_on : (n : ℕ) (z : SleeperRecord) → slice_get s.sleepers.items n ≡ Some z → (z' : SleeperRecord) × (slice_get now.sleepers.items n ≡ Some z') × LetsNap (awaited_in u ≡ Some (subject.Timer n)) (nap_of z) (nap_of z') =
      λ n z there. (z, ap (λ zs. slice_get zs n) same ∙ there, nap_same (awaited_in u ≡ Some (subject.Timer n)) (nap_of z)) in
      let naps_back : (n : ℕ) (z' : SleeperRecord) → slice_get now.sleepers.items n ≡ Some z' → (z : SleeperRecord) × (slice_get s.sleepers.items n ≡ Some z) × LetsNap (awaited_in u ≡ Some (subject.Timer n)) (nap_of z) (nap_of z') =
      λ n z there. (z, ap (λ zs. slice_get zs n) (sym same) ∙ there, nap_same (awaited_in u ≡ Some (subject.Timer n)) (nap_of z)) in
      let naps_of : (j : ℕ) → count_by (λ z. z.worker == j) (map nap_of now.sleepers.items) ≡ count_by (λ z. z.worker == j) (map nap_of s.sleepers.items) = λ j. ap (λ zs. count_by (λ z. z.worker == j) (map nap_of zs)) same in
      assumption (worker, kept, slept, own, desk, naps_on, naps_back, naps_of, spares_let i hs w v s now lined a, requests, timer, a)

  -- no sleeper
  pub gone_awake : (i : ℕ) (hs : List Held) (u : Waiting) (l : Letters) (w v : Worker) (s now : Shared B) → AreLinedUp s.opens s.requests.items → AllLet i hs w v s now → l.requests.items ≡ others_of i hs → l.timer ≡ None
      → ((all : Common) → sleepers_after_waking_up all i u ≡ all.sleepers) → ((all : Common) (me : Own) → own_after_waking_up all i u me ≡ me) → ((all : Common) (d : Desk) → lets_go_sleep i all u d ≡ d) → AllGone i hs u l w v s now
  gone_awake i hs u l w v s now lined a requests none sleeps owns desks =
      gone_requests i hs u l w v s now [] lined a requests (λ h is. absurd (let no : None ≡ Some h = sym none ∙ is in cc)) (letters_are i hs l None requests none) (λ all is. sleeps all)
      (λ all is me. owns all me ∙ ap (λ ls. record me { owed = ls }) (sym (append-nil me.owed))) (λ all is d. desks all d ∙ ap (λ ls. record d { letters = ls }) (sym (append-nil d.letters)))

  -- another worker has the sleeper
  gone_asleep : (i z : ℕ) (hs : List Held) (l : Letters) (it : SleeperRecord) (w v : Worker) (s now : Shared B) → AreLinedUp s.opens s.requests.items → AllLet i hs w v s now → l.requests.items ≡ others_of i hs → slice_get s.sleepers.items z ≡ Some it → it.shown.worker ≢ i
      → l.timer ≡ Some (record { number = z; worker = it.shown.worker }) → AllGone i hs (Waiting.Timer z) l w v s now
  gone_asleep i z hs l it w v s now lined a requests there other timer =
      let j = it.shown.worker in
      let more : List Letter = record { to = j; message = CancelTimer z } ∷ [] in
      let never : (j == i) ≡ false = not_same j i other in
      let seen : (all : Common) → all.sleepers ≡ map (λ (y : SleeperRecord). y.shown) s.sleepers.items → sleeper_of all z ≡ it.shown = λ all is.
      ap (λ zs. slice_index_or zs z no_sleeper) is ∙ get_or_from_slice_get (map (λ (y : SleeperRecord). y.shown) s.sleepers.items) z it.shown no_sleeper (mapped (λ (y : SleeperRecord). y.shown) s.sleepers.items z it there) in
      gone_requests i hs (Waiting.Timer z) l w v s now more lined a requests
      (λ h is.
      let h_is : record { number = z; worker = j } ≡ h = same_Some (record { number = z; worker = j }) h (sym timer ∙ is) in
      let number : z ≡ h.number = ap (λ (x : Held). x.number) h_is in
      let worker : j ≡ h.worker = ap (λ (x : Held). x.worker) h_is in
      (ap (λ n. Waiting.Timer n) number, λ mine. other (worker ∙ mine), λ y at. ap (λ (x : SleeperRecord). x.shown.worker) (same_Some y it (sym at ∙ ap (slice_get s.sleepers.items) (sym number) ∙ there)) ∙ worker))
      (letters_are i hs l (Some (record { number = z; worker = j })) requests timer)
      (λ all is. ap (λ (y : Sleeper). if y.worker == i then slice_set all.sleepers z (removed_sleeper y) else all.sleepers) (seen all is) ∙ ap (λ b. if b then slice_set all.sleepers z (removed_sleeper it.shown) else all.sleepers) never)
      (λ all is me. ap (λ (y : Sleeper). if y.worker == i then me else owes_letter me y.worker (record { to = y.worker; message = CancelTimer z })) (seen all is) ∙ ap (λ b. if b then me else owes_letter me j (record { to = j; message = CancelTimer z })) never)
      (λ all is d. ap (λ (y : Sleeper). lets_go_timer i z y d) (seen all is) ∙ ap (λ b. if b then told_of_cancel z it.shown d else record d { letters = d.letters ++ more }) never)

-- THE WORKER HAS THE SLEEPER

either_one : (a b c : Bool) → (a || c) ≡ true → ((a || b) || c) ≡ true
either_one = grind arith

pub nap_removed : (a : Type 0) (z : SleeperRecord) → a → LetsNap a (nap_of z) (nap_of (sleeper_removed z))
nap_removed a z its = record { worker = refl; task = refl; fired = refl; forwarding = refl; paid = refl; sent = refl; removed = λ h. either_one z.shown.removed (not z.shown.fired) z.closed h; closed = refl; only = inr its }

cancel_letters : (z : ℕ) (it : Sleeper) (d : Desk) (ls : List Letter) → told_of_cancel z it (record d { letters = ls }) ≡ record (told_of_cancel z it d) { letters = ls }
cancel_letters = grind arith

module _ {B : Type 0} where
  -- what holds, and what is told, where a sleeper of its own is removed
  pub record SeenRemoved (z : ℕ) (it : SleeperRecord) (w v : Worker) (s s' : Shared B) : Type 0 where
    pub keeps : Keeps v s'
    pub desk : desk_of v ≡ told_of_cancel z it.shown (desk_of w)

abbrev pub RemovesSeen : (B : Type 0) → Type 0
RemovesSeen B = (z : ℕ) (w v : Worker) (s s' : Shared B) → served_in w.place ≡ None → Keeps w s → (r : RemovesSleeper z w v s s') → r.it.shown.worker ≡ w.index → SeenRemoved z r.it w v s s'

module _ {B : Type 0} where
  gone_removed : (i z : ℕ) (hs : List Held) (l : Letters) (w v u : Worker) (s now after : Shared B) → AreLinedUp s.opens s.requests.items → AllLet i hs w v s now → l.requests.items ≡ others_of i hs → l.timer ≡ None
      → (r : RemovesSleeper z v u now after) → r.it.shown.worker ≡ i → SeenRemoved z r.it v u now after → AllGone i hs (Waiting.Timer z) l w u s after
  gone_removed i z hs l w v u s now after lined a requests none r mine seen =
      let it = r.it in
      let it' : SleeperRecord = sleeper_removed it in
      let ss = s.sleepers.items in
      let always : (it.shown.worker == i) ≡ true = eq-eqb it.shown.worker i mine in
      let same : now.sleepers.items ≡ ss = ap (λ (x : Shared B). x.sleepers.items) a.kept in
      let there : slice_get ss z ≡ Some it = ap (λ zs. slice_get zs z) (sym same) ∙ r.sleeper in
      let sleepers : after.sleepers.items ≡ slice_set ss z it' = r.sleepers ∙ ap (λ zs. slice_set zs z it') same in
      let records : after.requests ≡ now.requests = ap (λ (x : Shared B). x.requests) r.kept in
      let items : after.requests.items ≡ now.requests.items = ap (λ x. x.items) records in
      let now_there : slice_get after.sleepers.items z ≡ Some it' = ap (λ zs. slice_get zs z) sleepers ∙ set_there ss z it' it there in
      let beside : (n : ℕ) → n ≢ z → slice_get after.sleepers.items n ≡ slice_get ss n = λ n apart. ap (λ zs. slice_get zs n) sleepers ∙ set_elsewhere ss z n it' apart in
      let looks : (all : Common) → all.sleepers ≡ map (λ (y : SleeperRecord). y.shown) ss → sleeper_of all z ≡ it.shown = λ all is.
      ap (λ zs. slice_index_or zs z no_sleeper) is ∙ get_or_from_slice_get (map (λ (y : SleeperRecord). y.shown) ss) z it.shown no_sleeper (mapped (λ (y : SleeperRecord). y.shown) ss z it there) in
      let letters : letters_in l ≡ letters_for i hs = letters_are i hs l None requests none ∙ append-nil (letters_for i hs) in
      record {
        keeps = seen.keeps;
        worker = grind (arith, r.worker, a.worker);
        kept = r.kept ∙ ap (λ (x : Shared B). record x { sleepers = after.sleepers }) a.kept ∙ ap (λ (e : _). record s { requests = e; sleepers = after.sleepers }) (sym records);
        shows = ap visible r.worker ∙ a.shows;
        names = ap (map name_in) items ∙ a.names;
        shown = ap (map (λ (x : Record). x.shown)) items ∙ a.shown;
        slept = λ all is.
            ap (map (λ (y : SleeperRecord). y.shown)) sleepers ∙ map_set (λ (y : SleeperRecord). y.shown) ss z it' ∙ ap (λ zs. slice_set zs z (removed_sleeper it.shown)) (sym is)
            ∙ sym (ap (λ (y : Sleeper). if y.worker == i then slice_set all.sleepers z (removed_sleeper y) else all.sleepers) (looks all is) ∙ ap (λ b. if b then slice_set all.sleepers z (removed_sleeper it.shown) else all.sleepers) always);
        own = λ all sees is owed.
            let me : Own = record (own_of v) { owed = owed ++ letters_for i hs } in
            ap (own_after_waking_up all i (Waiting.Timer z)) (a.own all sees owed)
            ∙ ap (λ (y : Sleeper). if y.worker == i then me else owes_letter me y.worker (record { to = y.worker; message = CancelTimer z })) (looks all is) ∙ ap (λ b. if b then me else owes_letter me it.shown.worker (record { to = it.shown.worker; message = CancelTimer z })) always
            ∙ ap (λ (x : Own). record x { owed = owed ++ letters_for i hs }) (sym (ap own_of r.worker)) ∙ ap (λ xs. record (own_of u) { owed = owed ++ xs }) (sym letters);
        desk = λ all sees is ls.
            let d : Desk = record (desk_of v) { letters = ls ++ letters_for i hs } in
            ap (lets_go_sleep i all (Waiting.Timer z)) (a.desk all sees ls)
            ∙ ap (λ (y : Sleeper). lets_go_timer i z y d) (looks all is) ∙ ap (λ b. if b then told_of_cancel z it.shown d else record d { letters = d.letters ++ record { to = it.shown.worker; message = CancelTimer z } ∷ [] }) always
            ∙ cancel_letters z it.shown (desk_of v) (ls ++ letters_for i hs) ∙ ap (λ (x : Desk). record x { letters = ls ++ letters_for i hs }) (sym seen.desk) ∙ ap (λ xs. record (desk_of u) { letters = ls ++ xs }) (sym letters);
        on = λ k x at. let y = a.on k x at in (y.0, ap (λ rs. slice_get rs k) items ∙ y.1, y.2);
        back = λ k x at. a.back k x (ap (λ rs. slice_get rs k) (sym items) ∙ at);
        of = λ j. ap (λ rs. count_by (λ t. t.worker == j) (map thing_of rs)) items ∙ a.of j;
        naps_on = set_on (λ n x y. LetsNap (awaited_in (Waiting.Timer z) ≡ Some (subject.Timer n)) (nap_of x) (nap_of y)) ss after.sleepers.items z it it' there sleepers (nap_removed (awaited_in (Waiting.Timer z) ≡ Some (subject.Timer z)) it refl)
            (λ n x. nap_same (awaited_in (Waiting.Timer z) ≡ Some (subject.Timer n)) (nap_of x));
        naps_back = set_back (λ n x y. LetsNap (awaited_in (Waiting.Timer z) ≡ Some (subject.Timer n)) (nap_of x) (nap_of y)) ss after.sleepers.items z it it' there sleepers (nap_removed (awaited_in (Waiting.Timer z) ≡ Some (subject.Timer z)) it refl)
            (λ n x. nap_same (awaited_in (Waiting.Timer z) ≡ Some (subject.Timer n)) (nap_of x));
        naps_of = λ j. ap (λ zs. count_by (λ y. y.worker == j) (map nap_of zs)) sleepers ∙ ap (count_by (λ y. y.worker == j)) (map_set nap_of ss z it') ∙ count_set (λ y. y.worker == j) (map nap_of ss) z (nap_of it) (nap_of it') (mapped nap_of ss z it there) refl;
        spares = record {
          records = λ k x at other. ap (λ rs. slice_get rs k) items ∙ a.others k x at other;
          records_only = λ k x at other. a.others_only k x (ap (λ rs. slice_get rs k) (sym items) ∙ at) other;
          sleepers = λ k x at other.
              let apart : k ≢ z = λ is. other (ap (λ (y : SleeperRecord). y.shown.worker) (same_Some x it (sym at ∙ ap (slice_get ss) is ∙ there)) ∙ mine) in
              beside k apart ∙ at;
          sleepers_only = λ k x at other.
              sym (beside k (λ is. other (ap (λ (y : SleeperRecord). y.shown.worker) (same_Some x it' (sym at ∙ ap (slice_get after.sleepers.items) is ∙ now_there)) ∙ mine))) ∙ at;
          lines = subst (KeepsLines s.requests.items) (sym items) a.lines;
          naps = set_on (λ n. SleeperEndures) ss after.sleepers.items z it it' there sleepers (record { worker = refl; forwarded = λ h. h }) (λ n x. record { worker = refl; forwarded = λ h. h });
          opens = opens_same s.opens after.opens s.requests.items lined (ap (λ (x : Shared B). x.opens) r.kept ∙ ap (λ (x : Shared B). x.opens) a.kept);
          sent = ap (map (λ (y : SleeperRecord). y.sent)) sleepers ∙ map_kept (λ (y : SleeperRecord). y.sent) ss z it' it there refl;
        };
        requests = requests;
        timer = λ h is. absurd (let no : None ≡ Some h = sym none ∙ is in cc);
      }

  -- ALL THAT A TASK HELD, AND WHAT IT SLEPT FOR
  pub all_gone : (i : ℕ) (hs : List Held) (u : Waiting) (l : Letters) (w v x : Worker) (s now after : Shared B) → LetsSeen B → RemovesSeen B → w.index ≡ i → served_in w.place ≡ None → AreLinedUp s.opens s.requests.items → Keeps w s → HoldsAll hs s.requests.items
      → LetsGoAll hs w v s now → LetsWaiting u l.timer v x now after → l.requests.items ≡ others_of i hs → AllGone i hs u l w x s after
  all_gone i hs u l w v x s now after seen removes index idle lined keeps holds lets waits requests = by u waits
    where
      a : AllLet i hs w v s now
      a = let_all i hs w v s now seen index idle lined keeps holds lets

      index_then : v.index ≡ i
      index_then = ap (λ (y : Worker). y.index) a.worker ∙ index

      -- neither has changed by that
      still : (u : Waiting) → x ≡ v → after ≡ now → AllGone i hs u l w v s now → AllGone i hs u l w x s after
      still u worker shared it = subst (λ y. AllGone i hs u l w x s y) (sym shared) (subst (λ y. AllGone i hs u l w y s now) (sym worker) it)

      by : (u : Waiting) → LetsWaiting u l.timer v x now after → AllGone i hs u l w x s after
      by Waiting.Nothing e = still Waiting.Nothing e.0 e.1 (gone_awake i hs Waiting.Nothing l w v s now lined a requests e.2 (λ all. refl) (λ all me. refl) (λ all d. refl))
      by Waiting.Wake e = still Waiting.Wake e.0 e.1 (gone_awake i hs Waiting.Wake l w v s now lined a requests e.2 (λ all. refl) (λ all me. refl) (λ all d. refl))
      by Waiting.Woken e = still Waiting.Woken e.0 e.1 (gone_awake i hs Waiting.Woken l w v s now lined a requests e.2 (λ all. refl) (λ all me. refl) (λ all d. refl))
      by Waiting.Yielded e = still Waiting.Yielded e.0 e.1 (gone_awake i hs Waiting.Yielded l w v s now lined a requests e.2 (λ all. refl) (λ all me. refl) (λ all d. refl))
      by (Waiting.Request k) e = still (Waiting.Request k) e.0 e.1 (gone_awake i hs (Waiting.Request k) l w v s now lined a requests e.2 (λ all. refl) (λ all me. refl) (λ all d. refl))
      by (Waiting.Timer z) sleeps =
          by_number sleeps.it.shown.worker i
          (λ other.
          let it = sleeps.elsewhere (λ is. other (is ∙ index_then)) in
          let there : slice_get s.sleepers.items z ≡ Some sleeps.it = ap (λ zs. slice_get zs z) (sym (ap (λ (y : Shared B). y.sleepers.items) a.kept)) ∙ sleeps.sleeper in
          still (Waiting.Timer z) it.0 it.1 (gone_asleep i z hs l sleeps.it w v s now lined a requests there other it.2))
          (λ mine.
          let it = sleeps.here (mine ∙ sym index_then) in
          let of_i : it.0.it.shown.worker ≡ i = ap (λ (y : SleeperRecord). y.shown.worker) (same_Some it.0.it sleeps.it (sym it.0.sleeper ∙ sleeps.sleeper)) ∙ mine in
          gone_removed i z hs l w v x s now after lined a requests it.1 it.0 of_i (removes z v x now after (ap (λ (y : Worker). served_in y.place) a.worker ∙ idle) a.keeps it.0 (of_i ∙ sym index_then)))
