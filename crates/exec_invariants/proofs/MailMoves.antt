-- MESSAGES MOVE between what a worker has in hand and inboxes: the balances of all but of what tasks hold stay.
use Rattle.exec_invariants.{proofs.{Names.{◌≡◌, ℕ, zero, suc, ◌+◌, ◌<◌, Bool, true, false, cond, Contains, List, [], ◌∷◌, map, Some, refl, sym, ap, subst, ◌∙◌, arith, slice_get, slice_set, length-set, Reserved, Message, Letters, Shared, Worker, by_number, same_Some, set_elsewhere, set_there}, Aside.{HoldsIn, SameProfile, SparesSeats, profile_same, queue_of_chair, spares_turn}, HoldMail.{mail_first, mail_is}, HoldPosts.{SameBox, moved}, HoldRedo.sum_set, PoolKept.KeepsGates, Turning.Shares}, specs.{Holding.{Box, Hands, Holder, IsAbout, IsHolding, Mail, Nap, Thing, mail_in, same_mail, under_way}, Whole.{IsWhole, Profile, with_worker}, Works.Beside}}
pub use Rattle.exec_invariants.proofs.Aside.{whole_moved}

-- A WORKER TAKES ALL that is in its inbox into its hands

-- what is counted among these is there
pub mail_some : (x : Mail) (ms : List Mail) → 0 < mail_in x ms → Contains ms x
mail_some x [] some = absurd (omega (arith, some))
mail_some x (m ∷ ms) some = by (mail_in x (m ∷ [])) refl (λ h. mail_some x ms h)
  where
    here : (n : ℕ) (b : Bool) → same_mail x m ≡ b → mail_in x (m ∷ []) ≡ suc n → Contains (m ∷ ms) x
    here n true same is = (0, omega arith, sym (mail_is x m same))
    here n false other is = absurd (let none : mail_in x (m ∷ []) ≡ 0 = ap (λ c. 0 + cond c 1 0) other in omega (arith, none, is))

    by : (n : ℕ) → mail_in x (m ∷ []) ≡ n → (0 < mail_in x ms → Contains ms x) → Contains (m ∷ ms) x
    by zero is later =
        let it = later (omega (arith, mail_first x m ms, some, is)) in
        (suc it.0, (let within = it.1 in omega (arith, within)), it.2)
    by (suc n) is later = here n (same_mail x m) refl is

module _ (h h' : Hands) (workers : ℕ) (hs : List Holder) (ts : List Thing) (naps : List Nap) (boxes : List Box) (i : ℕ) (box box' : Box) where
  pub record TakesAll : Type 0 where
    pub there : slice_get boxes i ≡ Some box
    pub none : box'.messages ≡ []
    pub same : SameBox box box'
    pub wakes : h'.wakes ≡ h.wakes
    pub mail : (m : Mail) → h'.mail m ≡ h.mail m + mail_in m box.messages

  pub all_taken : TakesAll → IsHolding h workers hs ts naps boxes → IsHolding h' workers hs ts naps (slice_set boxes i box')
  all_taken by old =
      let way : (x : Mail) → under_way h' x (slice_set boxes i box') ≡ under_way h x boxes = grind (arith, sum_set) in
      moved h h' workers hs ts naps boxes (slice_set boxes i box') (record {
        many = length-set boxes i box';
        back = λ j b at.
            by_number j i
            (λ other. (b, sym (set_elsewhere boxes i j box' other) ∙ at, record { shut = refl; closing = refl; places = λ h. h; made = refl }))
            (λ same. (box, ap (slice_get boxes) same ∙ by.there, subst (SameBox box) (its j b same at) by.same));
        wakes = by.wakes;
        way = λ s j b its_own at open_box. (way (Message.Cancel s), way (Message.Forward s));
        about = λ j b m at has.
            by_number j i
            (λ other. old.about j b m (sym (set_elsewhere boxes i j box' other) ∙ at) has)
            (λ same. absurd (nothing m (subst (λ ms. Contains ms m) by.none (subst (λ (x : Box). Contains x.messages m) (sym (its j b same at)) has))));
        made = λ m some. by_hand m (h.mail m) refl some;
      }) old
    where
      its : (j : ℕ) (b : Box) → j ≡ i → slice_get (slice_set boxes i box') j ≡ Some b → box' ≡ b
      its j b same at = same_Some box' b (sym (set_there boxes i box' box by.there) ∙ subst (λ n. slice_get (slice_set boxes i box') n ≡ Some b) same at)

      nothing : (m : Mail) → Contains [] m → ⊥
      nothing m (k, few, is) = omega (arith, few)

      by_hand : (m : Mail) (n : ℕ) → h.mail m ≡ n → 0 < h'.mail m → (j : ℕ) × IsAbout workers j m ts naps
      by_hand m (suc n) is some = old.made m (omega (arith, is))
      by_hand m zero is some =
          (i, old.about i box m by.there (mail_some m box.messages (omega (arith, is, some, by.mail m))))

module _ {B : Type 0} where
  -- a step that leaves all balances but of messages, of which it has this in hand then
  pub beside_moved : (batch : Reserved Mail) (letters : Letters) (w w' : Worker) (s s' : Shared B) → SameProfile (record w { batch = batch; letters = letters }) w' → Shares s s' → SparesSeats w.index s.seats.items s'.seats.items → KeepsGates s.seats.items s'.seats.items
      → map queue_of_chair s'.seats.items ≡ map queue_of_chair s.seats.items
      → ((others : Profile) → IsWhole (with_worker others w) s → HoldsIn (with_worker others (record w { batch = batch; letters = letters })) s s'.seats.items) → s'.idle ≡ s.idle → s'.global ≡ s.global → Beside w s w' s'
  beside_moved batch letters w w' s s' same shares seats gates queues holds idle global =
      let wm : Worker = record w { batch = batch; letters = letters } in
      record {
        spares = λ j other. spares_turn w.index j s s' other shares seats;
        whole = λ others whole.
            rw (profile_same others wm w' same)
            (whole_moved (with_worker others w) (with_worker others wm).mail s s' shares gates queues (holds others whole) idle global whole);
      }
