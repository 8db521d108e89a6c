-- What parties share stays as it was, as far as waking goes, where a worker puts one thing back.
use Rattle.std.proofs.{Common.{◌≡◌, ℕ, zero, suc, Bool, List, [], ◌∷◌, ◌++◌, refl, slice_set, slice_index_or, arith}, lemmas.List.get_or-set_other}
use Rattle.exec_words.specs.{Idle.Idle, Queue.Queue, declared.word.PureWord.PureWord}
use Rattle.exec_machine.specs.declared.state.MailMessage.{MailMessage}
use Rattle.exec_moves.specs.{State.{Things, no_word, word_of}, Pick.Queues, Send.{Mailbox, with_newcomer}, Thing.{set_queue, set_queues, set_word, set_inbox, set_mailbox, set_global, set_idle, set_barrier, set_shard, set_gate, set_answers, set_alarms}}
use Rattle.exec_rest.proofs.Plain.{Aside}

-- one of a list is another one, of which f is the same: so it is of all
pub put_same : {A B : Type 0} (f : A → B) (xs : List A) (i j : ℕ) (a d : A) → f a ≡ f (slice_index_or xs i d) → f (slice_index_or (slice_set xs i a) j d) ≡ f (slice_index_or xs j d)
put_same f [] i j a d h = refl
put_same f (x ∷ xs) zero zero a d h = h
put_same f (x ∷ xs) zero (suc j) a d h = refl
put_same f (x ∷ xs) (suc i) zero a d h = refl
put_same f (x ∷ xs) (suc i) (suc j) a d h = put_same f xs i j a d h

-- a list that has one more, which is as one that isn't there
pub none_more : {A : Type 0} (xs : List A) (j : ℕ) (d : A) → slice_index_or (xs ++ d ∷ []) j d ≡ slice_index_or xs j d
none_more [] zero d = refl
none_more [] (suc j) d = refl
none_more (x ∷ xs) zero d = refl
none_more (x ∷ xs) (suc j) d = none_more xs j d

pub same : (i : ℕ) (x : Things) → Aside i x x
same = grind arith

pub own_queue : (i : ℕ) (x : Things) (q : Queue ℕ) → Aside i x (set_queue i x q)
own_queue = grind (arith, get_or-set_other)

pub share_put : (i : ℕ) (x : Things) (q : Queues) → ((q.global ≡ [] → ⊥) → x.global ≡ [] → ⊥) → Aside i x (set_queues i x q)
share_put = grind (arith, get_or-set_other)

pub global_less : (i : ℕ) (x : Things) (g : List ℕ) → ((g ≡ [] → ⊥) → x.global ≡ [] → ⊥) → Aside i x (set_global x g)
global_less = grind arith

pub inbox_put : (i j : ℕ) (x : Things) (ms : List MailMessage) → Aside i x (set_inbox j x ms)
inbox_put = grind arith

-- a wake word with another batch, or the same one
pub word_put : (i j : ℕ) (x : Things) (w : PureWord) → w.target ≡ (word_of x j).target → w.latch ≡ (word_of x j).latch → Aside i x (set_word j x w)
word_put i j x w target latch =
    record {
      bits = refl;
      global = λ h. h;
      targets = λ k. put_same (λ (v : PureWord). v.target) x.words j k w no_word target;
      latches = λ k. put_same (λ (v : PureWord). v.latch) x.words j k w no_word latch;
      polls = λ k. refl;
      queues = λ k apart h. h;
    }

pub mailbox_put : (i j : ℕ) (x : Things) (m : Mailbox) → m.word.target ≡ (word_of x j).target → m.word.latch ≡ (word_of x j).latch → Aside i x (set_mailbox j x m)
mailbox_put i j x m target latch =
    record {
      bits = refl;
      global = λ h. h;
      targets = λ k. put_same (λ (w : PureWord). w.target) x.words j k m.word no_word target;
      latches = λ k. put_same (λ (w : PureWord). w.latch) x.words j k m.word no_word latch;
      polls = λ k. refl;
      queues = λ k apart h. h;
    }

pub shard_put : (i n : ℕ) (x : Things) (l : List ℕ) → Aside i x (set_shard n x l)
shard_put = grind arith

pub gate_put : (i file : ℕ) (x : Things) (l : List ℕ) → Aside i x (set_gate file x l)
gate_put = grind arith

pub answers_put : (i : ℕ) (x : Things) (l : List ℕ) → Aside i x (set_answers x l)
answers_put = grind arith

pub alarms_put : (i : ℕ) (x : Things) (l : List ℕ) → Aside i x (set_alarms x l)
alarms_put = grind arith

pub barrier_put : (i : ℕ) (x : Things) (b : Bool) → Aside i x (set_barrier x b)
barrier_put = grind arith

-- another search count, with the same bits
pub idle_put : (i : ℕ) (x : Things) (v : Idle) → v.published ≡ x.idle.published → Aside i x (set_idle x v)
idle_put = grind arith

-- a new worker has nothing yet, as one that isn't there
pub newcomer : (i : ℕ) (x : Things) → Aside i x (with_newcomer x)
newcomer = grind (arith, none_more)
