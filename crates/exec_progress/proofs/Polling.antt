-- The steps of a poll.
use Rattle.std.proofs.{Common.{◌≡◌, ℕ, ◌-◌, ◌<◌, Bool, true, false, List, [], ◌∷◌, length, get_or, Option, Some, None, slice_get, if◌then◌else◌, refl, sym, subst, ◌∙◌, arith}, lemmas.{Bool.true≢false, Option.slice_get-get_or}}
use Rattle.exec_machine.specs.{declared.{config.{Configuration.Configuration, ScriptWord.{ScriptWord, ScriptWord as word}}, event.Event.{Event, Event as event}, state.{MailMessage.MailMessage, RequestPhase.{RequestPhase, RequestPhase as phase}}}, Choice.{Choice, Choice.Plain}, Requests.operation_asked, Tests.is_empty, Text.is_quiet, Words.{idle_words, is_idle_word, newest_held, next_word, sleep_asked, words_left}, World.{Common, Own as Books, Task, request_of, task_of}}
use Rattle.exec_moves.specs.{declared.{handing.AfterSend.AfterSend, place.{InPoll.InPoll, Place.Place}}, Move.{move_act, move_look_at, move_wake}, Poll.{Sight, Sight.{Here, Asks, HearsRequest, HearsTimer}, act, act_asked, acts_on, begin_poll, drop_newest, hear_timer, heard_by, pend, sleep_for, stops}, Send.{Mailbox, next_task, posting_of}, State.{Desk, Moved, Things, does}, Thing.{aside, mailbox_of, with_alarms, with_answers}, Told.has_number}
use Rattle.exec_progress.{specs.{Going.{Falls, FallsAt, seen, stands}, Ranks.rank}, proofs.Steps.{Leads, loud}}

-- LOUD STEPS, whatever they are about

-- the next word is none that is passed over
next_acts : (s : Common) (t : Task) (ws : List ScriptWord) → is_idle_word s t (get_or ws (idle_words s t ws) word.End) ≡ false
next_acts s t [] = refl
next_acts s t (w ∷ ws) = grind (arith, next_acts s t ws)

newest : (held : List ℕ) → is_empty held ≡ false → slice_get held (length held - 1) ≡ None → ⊥
newest [] some none = true≢false some
newest (r ∷ held) some none =
    let there = slice_get-get_or (r ∷ held) (length (r ∷ held) - 1) 0 (omega arith) in
    let no : Some (get_or (r ∷ held) (length (r ∷ held) - 1) 0) ≡ None = sym there ∙ none in absurd (cc)

-- a message is sent, or its receiver is closed
pub posts : (s : Common) (j : ℕ) (message : MailMessage) (choice : Choice) (m : Mailbox) → is_quiet (posting_of s j message choice m).event ≡ false
posts = grind arith

makes : (v : Bool) (e : Event) → is_quiet e ≡ false → is_quiet (if v then event.Closed else e) ≡ false
makes true e h = refl
makes false e h = h

module _ (c : Configuration) (i : ℕ) (me : Books) (s : Common) (d : Desk) (x : Things) (t : ℕ) where
  abbrev it : Task
  it = task_of s t

  sleeps : (o : Option ℕ) → is_quiet (sleep_for t s d it o).event ≡ false
  sleeps None = refl
  sleeps (Some until) = refl

  drops : (o : Option ℕ) → newest_held it ≡ o → is_empty it.held ≡ false → is_quiet (drop_newest t s d it o).event ≡ false
  drops None none some = absurd (newest it.held some none)
  drops (Some r) is some = refl

  wakes : (u : ℕ) (home : Option ℕ) → is_quiet (move_wake c i s d x t u home).event ≡ false
  wakes = grind arith

-- STEPS WITHIN A POLL

module _ (c : Configuration) (i : ℕ) (me : Books) (s : Common) (d : Desk) (x : Things) (t : ℕ) where
  -- from this step of the poll
  abbrev FallsFrom : InPoll → Moved Things → Type 0
  FallsFrom p m = Falls c i (seen (Place.Poll t p) me) s (stands (Place.Poll t p) d) x m

  loudly : (p : InPoll) (m : Moved Things) → is_quiet m.event ≡ false → FallsFrom p m
  loudly p m is = loud c i (seen (Place.Poll t p) me) s (stands (Place.Poll t p) d) x m is

  pends : (p : InPoll) (y : Things) → 0 < rank c i (stands (Place.Poll t p) d) x (Place.Poll t p) → Leads c i me s d x (Place.Poll t p) (Place.Poll t InPoll.Pend) y
  pends = grind arith

  -- what was sent is there, or the poll ends by the next step
  hears : (p : InPoll) (r : ℕ) → 0 < rank c i (stands (Place.Poll t p) d) x (Place.Poll t p) → (v : Bool) (ph : RequestPhase)
      → FallsFrom p (with_answers x (heard_by t r (stands (Place.Poll t p) d) x.answers v ph))
  hears p r high true (phase.Resolved outcome) = loudly p (with_answers x (heard_by t r (stands (Place.Poll t p) d) x.answers true (phase.Resolved outcome))) refl
  hears p r high v ph = pends p x high

  hears_timer : (p : InPoll) (z : ℕ) → 0 < rank c i (stands (Place.Poll t p) d) x (Place.Poll t p) → FallsFrom p (with_alarms x (hear_timer t z (stands (Place.Poll t p) d) x.alarms))
  hears_timer p z high = by (has_number z x.alarms)
    where
      by : (v : Bool) → FallsFrom p (with_alarms x (if v then does (event.GotTimer z) (acts_on t (stands (Place.Poll t p) d)) x.alarms else does event.Turn (stops t (stands (Place.Poll t p) d)) x.alarms))
      by true = loudly p (with_alarms x (does (event.GotTimer z) (acts_on t (stands (Place.Poll t p) d)) x.alarms)) refl
      by false = pends p x high

  -- where the task looks
  looks : (p : InPoll) (b : AfterSend) (here : Moved Things) → 0 < rank c i (stands (Place.Poll t p) d) x (Place.Poll t p) → is_quiet here.event ≡ false
      → (sight : Sight) → FallsFrom p (move_look_at c s (stands (Place.Poll t p) d) x t b here sight)
  looks p b here high is Here = loudly p here is
  looks p b here high is (Asks j message) = loudly p (move_look_at c s (stands (Place.Poll t p) d) x t b here (Asks j message)) (posts s j message Plain (mailbox_of x j))
  looks p b here high is (HearsRequest r) = hears p r high (has_number r x.answers) (request_of s r).phase
  looks p b here high is (HearsTimer z) = hears_timer p z high

  -- an act, by its word
  abbrev now : Desk
  now = stands (Place.Poll t InPoll.Act) d

  abbrev IsLoud : ScriptWord → Type 0
  IsLoud w = is_quiet (act_asked i t (seen (Place.Poll t InPoll.Act) me) s now (task_of s t) w (operation_asked c me.sampled w)).event ≡ false

  abbrev IsLoudAct : Type 0
  IsLoudAct = is_quiet (act c i t (seen (Place.Poll t InPoll.Act) me) s now (task_of s t)).event ≡ false

  acts_so : (w : ScriptWord) → next_word s (task_of s t) ≡ w → IsLoud w → IsLoudAct
  acts_so w is loudly_so = subst IsLoud (sym is) loudly_so

  acts_aloud : (w : ScriptWord) → is_quiet (move_act c i (seen (Place.Poll t InPoll.Act) me) s now x t w).event ≡ false → FallsFrom InPoll.Act (move_act c i (seen (Place.Poll t InPoll.Act) me) s now x t w)
  acts_aloud w is = loudly InPoll.Act (move_act c i (seen (Place.Poll t InPoll.Act) me) s now x t w) is

  acts : (w : ScriptWord) → next_word s (task_of s t) ≡ w → is_idle_word s (task_of s t) w ≡ false → FallsFrom InPoll.Act (move_act c i (seen (Place.Poll t InPoll.Act) me) s now x t w)
  acts (word.Poll l) is idle = acts_aloud (word.Poll l) (acts_so (word.Poll l) is refl)
  acts (word.Send socket n) is idle = acts_aloud (word.Send socket n) (acts_so (word.Send socket n) is refl)
  acts (word.Recv socket n) is idle = acts_aloud (word.Recv socket n) (acts_so (word.Recv socket n) is refl)
  acts (word.Fill socket n) is idle = acts_aloud (word.Fill socket n) (acts_so (word.Fill socket n) is refl)
  acts (word.Connect socket) is idle = acts_aloud (word.Connect socket) (acts_so (word.Connect socket) is refl)
  acts (word.Read file offset n) is idle = acts_aloud (word.Read file offset n) (acts_so (word.Read file offset n) is refl)
  acts (word.Hint file offset n) is idle = acts_aloud (word.Hint file offset n) (acts_so (word.Hint file offset n) is refl)
  acts (word.Direct file offset n) is idle = acts_aloud (word.Direct file offset n) (acts_so (word.Direct file offset n) is refl)
  acts (word.Write file offset n) is idle = acts_aloud (word.Write file offset n) (acts_so (word.Write file offset n) is refl)
  acts (word.Dsync file offset n) is idle = acts_aloud (word.Dsync file offset n) (acts_so (word.Dsync file offset n) is refl)
  acts (word.Many file offset n) is idle = acts_aloud (word.Many file offset n) (acts_so (word.Many file offset n) is refl)
  acts (word.Sync file) is idle = acts_aloud (word.Sync file) (acts_so (word.Sync file) is refl)
  acts word.Await is idle = grind arith
  acts word.Drop is idle = grind (arith, looks, acts_so, drops)
  acts (word.Sleep time) is idle = acts_aloud (word.Sleep time) (acts_so (word.Sleep time) is (sleeps c i me s now x t (sleep_asked me.sampled (word.Sleep time))))
  acts (word.Spawn k) is idle = acts_aloud (word.Spawn k) (makes s.set_closed (event.Spawn (next_task s) k) refl)
  acts (word.Dedicated k) is idle = acts_aloud (word.Dedicated k) (makes s.set_closed (event.Dedicated (next_task s) (length s.seats)) refl)
  acts (word.Wake u) is idle = acts_aloud (word.Wake u) (wakes c i me s now x t u (task_of s u).home)
  acts word.Yield is idle = acts_aloud word.Yield (acts_so word.Yield is refl)
  acts word.End is idle = acts_aloud word.End (acts_so word.End is refl)
  acts (word.Fault code) is idle = acts_aloud (word.Fault code) (acts_so (word.Fault code) is refl)

  -- BESIDE THE ACTS

  joins : (r : ℕ) → FallsAt c i me s d x (Place.Poll t (InPoll.JoinGate r))
  joins = grind arith

  -- a task that it made goes into its own run queue, or into the global one
  spawned : FallsAt c i me s d x (Place.Poll t InPoll.LoadSpawnHead)
  spawned = grind arith

  removes : FallsAt c i me s d x (Place.Poll t InPoll.RemoveTask)
  removes = grind arith

  pub polls_task : (p : InPoll) → FallsAt c i me s d x (Place.Poll t p)
  polls_task InPoll.BeginPoll going = loudly InPoll.BeginPoll (aside x (begin_poll t (stands (Place.Poll t InPoll.BeginPoll) d) (task_of s t))) (rw (going.ready t refl) refl)
  polls_task InPoll.Resume going = grind arith
  polls_task InPoll.Act going = acts (next_word s (task_of s t)) refl (next_acts s (task_of s t) (words_left s (task_of s t)))
  polls_task (InPoll.JoinGate r) going = joins r going
  polls_task InPoll.LoadSpawnHead going = spawned going
  polls_task InPoll.Pend going = loudly InPoll.Pend (aside x (pend i t s (stands (Place.Poll t InPoll.Pend) d) (task_of s t))) refl
  polls_task InPoll.RemoveTask going = removes going
