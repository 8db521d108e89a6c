-- What a contract sees of an inbox, and what its calls do to it and to the wake word of its worker.
use Rattle.std.specs.{Prelude.{◌≡◌, ℕ, ◌-◌, ◌^◌, ◌<◌, Bool, true, false, not, ◌&&◌, List, [], ◌∷◌, ◌++◌, length, if◌then◌else◌}, List.list_any}
use Rattle.exec_words.specs.{declared.{inbox.Message.Message, word.PureWord.PureWord}, Reserved.Reserved, Word.{asks_signal, next_batch}}

-- the messages that aren't taken, the oldest first; for how many there are places; whether it takes no more; and how
-- many batches were published and taken, modulo 2^29
pub record Inbox (F C : Type 0) : Type 0 where
  pub messages : List (Message F C)
  pub places : ℕ
  pub closed : Bool
  pub published : ℕ
  pub taken : ℕ

module _ {F C : Type 0} where
  -- an open inbox without messages, with so many places
  abbrev pub without_mail : ℕ → Inbox F C
  without_mail places = record { messages = []; places = places; closed = false; published = 0; taken = 0 }

  abbrev pub has_any : List (Message F C) → Bool
  has_any [] = false
  has_any _ = true

  abbrev pub has_mail : Inbox F C → Bool
  has_mail i = has_any i.messages

  -- how many more messages have a place
  abbrev pub spare_places : Inbox F C → ℕ
  spare_places i = i.places - length i.messages

  -- one batch more was published than taken where an open inbox holds a message, and else as many; a closed one
  -- holds none
  pub record IsCounted (i : Inbox F C) : Type 0 where
    pub batches : i.published ≡ (if has_mail i then next_batch i.taken else i.taken)
    pub empty : i.closed ≡ true → has_mail i ≡ false

  abbrev pub is_wake_root : Message F C → Bool
  is_wake_root Message.WakeRoot = true
  is_wake_root _ = false

  -- a second wake of the root, beside one that isn't taken
  abbrev pub is_dropped : Inbox F C → Message F C → Bool
  is_dropped i m = is_wake_root m && list_any is_wake_root i.messages

  -- the message is the first one of a batch
  abbrev pub opens_batch : Inbox F C → Message F C → Bool
  opens_batch i m = not (has_mail i)

  -- an open inbox once a message was sent
  abbrev pub sent : Inbox F C → Message F C → Inbox F C
  sent i m =
      if is_dropped i m then i
      else record i { messages = i.messages ++ m ∷ []; published = if opens_batch i m then next_batch i.published else i.published }

  -- the wake word then: the first message of a batch publishes it
  abbrev pub word_after : Inbox F C → Message F C → PureWord → PureWord
  word_after i m w = if opens_batch i m then record w { batch = next_batch w.batch } else w

  -- and once it is signalled, where a wait is armed and nobody has signalled it
  abbrev pub word_signalled : Inbox F C → Message F C → PureWord → PureWord
  word_signalled i m w =
      if opens_batch i m && asks_signal w then record (word_after i m w) { latch = true } else word_after i m w

  -- the inbox once its worker took what was there, and left the places of its last batch
  abbrev pub batch_taken : Inbox F C → Reserved (Message F C) → Inbox F C
  batch_taken i batch =
      if has_mail i then record i { messages = []; places = batch.places; taken = next_batch i.taken } else i

  -- what the worker then has
  abbrev pub batch_handed : Inbox F C → Reserved (Message F C) → Reserved (Message F C)
  batch_handed i batch = if has_mail i then record { values = i.messages; places = i.places } else batch

  abbrev pub shut : Inbox F C → Inbox F C
  shut i = record i { closed = true }

-- What the fields of an inbox keep, which no public clause cites: whether a wake of the root is there, and the two counts
pub record IsLaidOut {F C : Type 0} (messages : List (Message F C)) (has_root closed : Bool) (published taken : ℕ) : Type 0 where
  pub root_known : has_root ≡ list_any is_wake_root messages
  pub counted : published ≡ (if has_any messages then next_batch taken else taken)
  pub empty : closed ≡ true → has_any messages ≡ false
  pub published_in_range : published < 2 ^ 29
  pub taken_in_range : taken < 2 ^ 29
