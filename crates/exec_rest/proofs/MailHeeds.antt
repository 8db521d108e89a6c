-- What the move of a worker does to mailboxes: by a send, by taking the own inbox, and by all others.
use Rattle.std.{proofs.{Common.{◌≡◌, ◌≢◌, ℕ, zero, suc, Bool, true, false, List, [], ◌∷◌, ◌++◌, length, Option, Some, refl, sym, ap, ◌∙◌, inl, inr, arith, slice_set, slice_index_or, if◌then◌else◌}, lemmas.{Bool.{false≢true, cases_eq}, List.{get_or-set_other, length-set}}}, specs.Prelude.◌⊎◌}
use Rattle.exec_words.specs.declared.word.{PureWord.PureWord, WaitTarget.WaitTarget as target}
use Rattle.exec_machine.specs.{declared.{config.Configuration.Configuration, event.Event.TheVariants.{Closed, Send, Sleep}, state.MailMessage.MailMessage}, Choice.{Choice, Choice.Plain}, Tests.is_empty, World.{Common, seat_of}}
use Rattle.exec_moves.specs.{declared.{handing.AfterSend.AfterSend, place.Place.Place}, Close.batches_closed, Send.{Mailbox, after_posting, asks, posted, posting_of, sent, with_newcomer}, State.{Desk, Moved, Things, inbox_of, no_word, word_of}, Thing.{mailbox_of, set_mailbox, set_word, with_inbox, with_mailbox}}
use Rattle.exec_rest.{specs.{Places.signals, Posted.{IsNumbered, is_early}}, proofs.Asides.{none_more, put_same}}

-- each wake word has an inbox
abbrev pub IsMatched : Things → Type 0
IsMatched x = length x.inboxes ≡ length x.words

-- The move of worker i from d over x.
module _ (i : ℕ) (d : Desk) (x : Things) (m : Moved Things) where
  abbrev y : Things
  y = m.thing

  -- it sleeps, or comes to where it does so on its ring, with no message, or comes from there itself
  abbrev pub Rests : Type 0
  Rests =
      (is_early m.desk.place ≡ true) ⊎ ((until : Option ℕ) × (m.event ≡ Sleep until)) → IsNumbered (word_of x i).batch d.processed (inbox_of x i)
      → (inbox_of y i ≡ []) ⊎ ((is_early d.place ≡ true) × ((word_of y i).latch ≡ (word_of x i).latch) × (inbox_of y i ≡ inbox_of x i))

  pub record MailHeeds : Type 0 where
    pub matched : IsMatched x → IsMatched y
    -- batches are published as they are counted, and its own are taken so
    pub others : IsMatched x → (j : ℕ) → j ≢ i → (n : ℕ) → IsNumbered (word_of x j).batch n (inbox_of x j) → IsNumbered (word_of y j).batch n (inbox_of y j)
    pub own : IsMatched x → IsNumbered (word_of x i).batch d.processed (inbox_of x i) → IsNumbered (word_of y i).batch m.desk.processed (inbox_of y i)
    -- who gets a first message is signalled next, or was signalled, or doesn't wait
    pub told : (j : ℕ) → (inbox_of y j ≡ [] → ⊥) → (inbox_of x j ≡ [] → ⊥) ⊎ ((signals m.desk.place ≡ Some j) ⊎ (((word_of x j).latch ≡ true) ⊎ ((word_of x j).target ≡ target.None)))
    pub rests : Rests

-- BATCHES

some_message : {m : MailMessage} {ms : List MailMessage} → m ∷ ms ≡ [] → ⊥
some_message h = false≢true (ap is_empty h)

none_or_some : (ms : List MailMessage) → (ms ≡ []) ⊎ (ms ≡ [] → ⊥)
none_or_some [] = inl refl
none_or_some (m ∷ ms) = inr some_message

-- MOVES THAT DON'T TAKE, from x to y, and to the place q
pub record Mails (x y : Things) (q : Place) : Type 0 where
  pub matched : IsMatched x → IsMatched y
  pub numbers : IsMatched x → (j n : ℕ) → IsNumbered (word_of x j).batch n (inbox_of x j) → IsNumbered (word_of y j).batch n (inbox_of y j)
  pub told : (j : ℕ) → (inbox_of y j ≡ [] → ⊥) → (inbox_of x j ≡ [] → ⊥) ⊎ ((signals q ≡ Some j) ⊎ (((word_of x j).latch ≡ true) ⊎ ((word_of x j).target ≡ target.None)))

still : (x y : Things) (q : Place) → (IsMatched x → IsMatched y) → ((j : ℕ) → (word_of y j).batch ≡ (word_of x j).batch) → ((j : ℕ) → inbox_of y j ≡ inbox_of x j) → Mails x y q
still x y q matched batches inboxes =
    record { matched = matched; numbers = λ match j n h. rw (batches j, inboxes j) h; told = λ j some. inl (λ none. some (inboxes j ∙ none)) }

-- nothing of mailboxes changes
pub calm : {x y : Things} {q : Place} → y.words ≡ x.words → y.inboxes ≡ x.inboxes → Mails x y q
calm = grind arith

-- another wake word, of the same batch
pub word_put : (k : ℕ) (x : Things) (w : PureWord) {q : Place} → w.batch ≡ (word_of x k).batch → Mails x (set_word k x w) q
word_put k x w {q} same =
    still x (set_word k x w) q (λ h. h ∙ sym (length-set x.words k w)) (λ j. put_same (λ (v : PureWord). v.batch) x.words k j w no_word same) (λ j. refl)

one_longer : {A : Type 0} (xs : List A) (a : A) → length (xs ++ a ∷ []) ≡ suc (length xs)
one_longer [] a = refl
one_longer (x ∷ xs) a = ap suc (one_longer xs a)

pub newcomer : (x : Things) (q : Place) → Mails x (with_newcomer x) q
newcomer = grind (arith, still, one_longer, none_more)

-- A MESSAGE

-- what holds of a wake word and its inbox holds of those that are put there
both_put : (P : PureWord → List MailMessage → Type 0) (ws : List PureWord) (bs : List (List MailMessage)) (k j : ℕ) (w : PureWord) (b : List MailMessage) → length bs ≡ length ws
    → (P (slice_index_or ws k no_word) (slice_index_or bs k []) → P w b) → P (slice_index_or ws j no_word) (slice_index_or bs j []) → P (slice_index_or (slice_set ws k w) j no_word) (slice_index_or (slice_set bs k b) j [])
both_put P [] [] k j w b match keeps h = h
both_put P [] (c ∷ bs) k j w b match keeps h = absurd (omega (arith, match))
both_put P (v ∷ ws) [] k j w b match keeps h = absurd (omega (arith, match))
both_put P (v ∷ ws) (c ∷ bs) zero zero w b match keeps h = keeps h
both_put P (v ∷ ws) (c ∷ bs) zero (suc j) w b match keeps h = h
both_put P (v ∷ ws) (c ∷ bs) (suc k) zero w b match keeps h = h
both_put P (v ∷ ws) (c ∷ bs) (suc k) (suc j) w b match keeps h = both_put P ws bs k j w b (omega (arith, match)) keeps h

numbered_posted : (message : MailMessage) (m : Mailbox) (n : ℕ) → IsNumbered m.word.batch n m.messages → IsNumbered (posted message m).word.batch n (posted message m).messages
numbered_posted = grind arith

-- to worker j
pub posts : (c : Configuration) (s : Common) (x : Things) (j : ℕ) (message : MailMessage) (choice : Choice) (b : AfterSend) (d : Desk)
    → (let m = with_mailbox j x (sent c j b d (posting_of s j message choice (mailbox_of x j))) in Mails x m.thing m.desk.place)
posts c s x j message choice b d = by (seat_of s j).mailbox_closed
  where
    m : Mailbox
    m = mailbox_of x j

    matched : (m' : Mailbox) → IsMatched x → IsMatched (set_mailbox j x m')
    matched m' h = length-set x.inboxes j m'.messages ∙ h ∙ sym (length-set x.words j m'.word)

    first : inbox_of x j ≡ [] → (signals (after_posting c j b (asks m) d) ≡ Some j) ⊎ (((word_of x j).latch ≡ true) ⊎ ((word_of x j).target ≡ target.None))
    first = grind arith

    told : (k : ℕ) → (inbox_of (set_mailbox j x (posted message m)) k ≡ [] → ⊥)
        → (inbox_of x k ≡ [] → ⊥) ⊎ ((signals (after_posting c j b (asks m) d) ≡ Some k) ⊎ (((word_of x k).latch ≡ true) ⊎ ((word_of x k).target ≡ target.None)))
    told = grind (arith, cases_eq, get_or-set_other, none_or_some)

    by : (closed : Bool) → (let it = with_mailbox j x (sent c j b d (if closed then record { event = Closed; choice = Plain; signals = false; mailbox = m } else record { event = Send j message; choice = choice; signals = asks m; mailbox = posted message m })) in Mails x it.thing it.desk.place)
    by true = still x (set_mailbox j x m) _ (matched m) (λ k. put_same (λ (w : PureWord). w.batch) x.words j k m.word no_word refl) (λ k. put_same (λ ms. ms) x.inboxes j k m.messages [] refl)
    by false =
        record {
          matched = matched (posted message m);
          numbers = λ match k n h. both_put (λ w ms. IsNumbered w.batch n ms) x.words x.inboxes j k (posted message m).word (posted message m).messages match (numbered_posted message m n) h;
          told = told;
        }

-- THE OWN INBOX IS TAKEN

emptied : (bs : List (List MailMessage)) (i : ℕ) → slice_index_or (slice_set bs i []) i [] ≡ []
emptied [] i = refl
emptied (b ∷ bs) zero = refl
emptied (b ∷ bs) (suc i) = emptied bs i

numbered_taken : (batch n : ℕ) (ms : List MailMessage) → IsNumbered batch n ms → batch ≡ batches_closed ms n
numbered_taken = grind arith

module _ (i : ℕ) (d : Desk) (x : Things) where
  -- a move that doesn't take it
  pub untaken : (m : Moved Things) → Mails x m.thing m.desk.place → m.desk.processed ≡ d.processed → Rests i d x m → MailHeeds i d x m
  untaken = grind arith

  -- and one that does
  pub taken : (m : Moved (List MailMessage)) → m.thing ≡ [] → m.desk.processed ≡ batches_closed (inbox_of x i) d.processed → Rests i d x (with_inbox i x m) → MailHeeds i d x (with_inbox i x m)
  taken = grind (arith, length-set, get_or-set_other, numbered_taken, cases_eq, emptied)
