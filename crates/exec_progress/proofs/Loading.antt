-- The loads of the own words, before a service and before the tests.
use Rattle.std.proofs.{Common.{◌≡◌, ℕ, ◌<◌, true, not, List, slice_set, refl, sym, subst, arith}, lemmas.List.set-get_or}
use Rattle.exec_words.specs.{Queue.Queue, declared.word.PureWord.PureWord}
use Rattle.exec_machine.specs.{declared.{config.Configuration.Configuration, event.Event.TheVariants.Turn}, Choice.Choice.Plain, After.{own_after, common_after}, Tests.is_empty, World.{Common, Own as Books}}
use Rattle.exec_moves.specs.{declared.place.{Found.Found, InLoads.InLoads, Round.Round, Place.Place}, Callback.is_of_pool, Load.{after_loads, found_also, has_mail}, State.{Desk, Things, no_queue, no_word, queue_of, word_of}}
use Rattle.exec_progress.{specs.Going.{FallsAt, seen, stands}, proofs.Tools.{Now, before, left}}

module _ (c : Configuration) (i : ℕ) (me : Books) (s : Common) (d : Desk) (x : Things) where
  -- a turn that leads to place q
  abbrev later : Place → Things → Place → Now
  later p y q = record { me = own_after c (seen p me) s i Turn Plain; s = common_after c (seen p me) s i Turn Plain; d = record (stands p d) { place = q }; x = y }

  abbrev Leads : Place → Things → Place → Type 0
  Leads p y q = left c i (later p y q) < left c i (before me s d x p)

  -- where the queue, or the word, is as it was
  with_same_queue : (p q : Place) → Leads p x q → Leads p (record x { queues = slice_set x.queues i (queue_of x i) }) q
  with_same_queue p q = subst (λ (l : List (Queue ℕ)). Leads p (record x { queues = l }) q) (sym (set-get_or x.queues i no_queue))

  with_same_word : (p q : Place) → Leads p x q → Leads p (record x { words = slice_set x.words i (word_of x i) }) q
  with_same_word p q = subst (λ (l : List PureWord). Leads p (record x { words = l }) q) (sym (set-get_or x.words i no_word))

  -- THE PLACES, with what each finds
  abbrev head : Round → Place
  head r = Place.Loads InLoads.LoadOwnHead r

  abbrev mirror : Round → Found → Place
  mirror r f = Place.Loads (InLoads.LoadOwnMirror f) r

  abbrev word : Round → Found → Place
  word r f = Place.Loads (InLoads.LoadOwnWord f) r

  abbrev queued : Found
  queued = record { ready = not (is_empty (queue_of x i).values) }

  abbrev queued_also : Found → Found
  queued_also f = found_also f (not (is_empty x.global))

  abbrev mail_also : Found → Found
  mail_also f = found_also f (has_mail d (word_of x i))

  -- BEFORE A SERVICE: what is found is no sign
  first_head : Leads (head Round.First) x (mirror Round.First queued)
  first_head = grind arith

  first_mirror : (f : Found) → Leads (mirror Round.First f) x (word Round.First (queued_also f))
  first_mirror = grind arith

  first_word : (f : Found) → Leads (word Round.First f) x (after_loads me Round.First (mail_also f) d)
  first_word = grind arith

  -- BEFORE THE TESTS: what is found is there
  second_head : is_of_pool s i ≡ true → Leads (head Round.Second) x (mirror Round.Second queued)
  second_head = grind arith

  second_mirror : is_of_pool s i ≡ true → (f : Found) → Leads (mirror Round.Second f) x (word Round.Second (queued_also f))
  second_mirror = grind arith

  second_word : (f : Found) → Leads (word Round.Second f) x (Place.TestForWork (mail_also f))
  second_word = grind arith

  pub loads : (p : InLoads) (r : Round) → FallsAt c i me s d x (Place.Loads p r)
  loads InLoads.LoadOwnHead Round.First it = λ quiet. with_same_queue (head Round.First) (mirror Round.First queued) first_head
  loads (InLoads.LoadOwnMirror f) Round.First it = λ quiet. first_mirror f
  loads (InLoads.LoadOwnWord f) Round.First it = λ quiet. with_same_word (word Round.First f) (after_loads me Round.First (mail_also f) d) (first_word f)
  loads InLoads.LoadOwnHead Round.Second it = λ quiet. with_same_queue (head Round.Second) (mirror Round.Second queued) (second_head (it.loads refl))
  loads (InLoads.LoadOwnMirror f) Round.Second it = λ quiet. second_mirror (it.loads refl) f
  loads (InLoads.LoadOwnWord f) Round.Second it = λ quiet. with_same_word (word Round.Second f) (Place.TestForWork (mail_also f)) (second_word f)
