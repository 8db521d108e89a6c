-- The requests of a worker stand in its lists after an event of its own.
use Rattle.std.proofs.{Common.{◌≡◌, ℕ, ◌<◌, Bool, true, false, length, set, Option, Some, None, if◌then◌else◌, ◌∙◌, refl, sym, ap, arith}, lemmas.{Bool.{ltb-true, ltb-false}, Grind.get_or-set_at, List.set_past}}
use Rattle.exec_machine.specs.{declared.{config.Configuration.Configuration, event.Event.{Event, Event as event}, state.{MailMessage.{MailMessage, MailMessage as message}, Request.Request}}, After.{common_after, own_after}, Allowed.Allowed, Choice.{Choice, Choice.{Plain, Passes, Pays, Posts}}, Closing.{ends_by_clear, with_cleared}, Mail.{after_sending, own_after_letter}, Tasks.{after_over, own_after_over, requests_after_drops}, World.{Common, Own as Books, request_of, seat_of, task_of}}
use Rattle.exec_books.{specs.Listed.IsListed, proofs.{Own.IsOwn, MineLists.{AllMine, SameLists, mark_mine, marked, same_lists, still}, MineDrops.over_mine, MineEvents.{admits, cancels_one, enrols, enters, expires, grants, lets_go, reaps, releases, stages}, Spares.{word_requests, post_requests}}}
use Rattle.exec_rest.proofs.Events.{landed_by, seats_after}

-- WHAT STAYS

-- a task that is cleared holds what it held
cleared_held : (s : Common) (t : ℕ) → (task_of (with_cleared s t) t).held ≡ (task_of s t).held
cleared_held = grind (arith, get_or-set_at, ltb-true, set_past, ltb-false)

module _ (c : Configuration) (me : Books) (s : Common) (i : ℕ) (here : i < length s.seats) where
  abbrev pub AreMine : Type 0
  AreMine = (k : ℕ) → (request_of s k).worker ≡ i → IsListed me (seat_of s i).landed k (request_of s k)

  abbrev After : Event → Choice → Type 0
  After e choice = AllMine i (own_after c me s i e choice) (landed_by e (seat_of s i).landed) (common_after c me s i e choice).requests

  -- one request has changed, of which the lists don't tell that
  touches : (me' : Books) → AreMine → SameLists me me' → (r : ℕ) (y : Request) → (y.worker ≡ (request_of s r).worker) → (IsListed me (seat_of s i).landed r (request_of s r) → IsListed me (seat_of s i).landed r y)
      → AllMine i me' (seat_of s i).landed (set s.requests r y)
  touches me' mine same r y worker new = mark_mine i s.requests r y same mine (λ whose. new (mine r (sym worker ∙ whose)))

  -- ENDS OF TASKS

  over : AreMine → (me' : Books) (t : ℕ) → SameLists (own_after_over me s i t) me' → AllMine i me' (seat_of s i).landed (after_over s i t).requests
  over mine me' t same = still i same refl (over_mine i s (seat_of s i).landed me mine t)

  pends : AreMine → (t : ℕ) (choice : Choice) → After (event.Pend t) choice
  pends = grind (arith, over, same_lists, still)

  clears : AreMine → (t : ℕ) (choice : Choice) → After (event.Clear t) choice
  clears mine t choice = by (ends_by_clear (task_of s t).phase)
    where
      by : (b : Bool) → AllMine i (record (if b then own_after_over me s i t else me) { serving = false }) (seat_of s i).landed (if b then after_over (with_cleared s t) i t else with_cleared s t).requests
      by true = still i (same_lists refl refl refl refl) (ap (λ held. requests_after_drops i held s.requests) (cleared_held s t)) (over_mine i s (seat_of s i).landed me mine t)
      by false = still i (same_lists refl refl refl refl) refl mine

  -- LETTERS

  letter_lists : SameLists me (record (own_after_letter me) { serving = false })
  letter_lists = grind arith

  sends : AreMine → (to : ℕ) (m : MailMessage) (choice : Choice) → After (event.Send to m) choice
  sends mine to m choice = still i letter_lists (post_requests (after_sending s me.polls m) to m choice) (sending me.polls m)
    where
      sending : (polls : Option ℕ) (m : MailMessage) → AllMine i me (seat_of s i).landed (after_sending s polls m).requests
      sending None m = mine
      sending (Some t) message.Root = mine
      sending (Some t) (message.ForwardRequest r) = grind (arith, touches, same_lists, marked)
      sending (Some t) (message.ForwardTimer z) = mine
      sending (Some t) (message.CancelRequest r) = mine
      sending (Some t) (message.CancelTimer z) = mine

  applies : AreMine → (m : MailMessage) (choice : Choice) → IsOwn s i (event.Apply m) → After (event.Apply m) choice
  applies mine message.Root choice own = still i (same_lists refl refl refl refl) refl mine
  applies mine (message.ForwardRequest r) choice own = grind (arith, touches, same_lists, marked)
  applies mine (message.ForwardTimer z) choice own = still i (same_lists refl refl refl refl) refl mine
  applies mine (message.CancelRequest r) choice own = still i (same_lists refl refl refl refl) refl (lets_go c me s i mine r own)
  applies mine (message.CancelTimer z) choice own = still i (same_lists refl refl refl refl) refl mine

  -- WAKES AND TURNS

  pays : AreMine → (t : ℕ) (choice : Choice) → After (event.Wake t) choice
  pays mine t Plain = still i (same_lists refl refl refl refl) refl mine
  pays mine t Passes = still i (same_lists refl refl refl refl) refl mine
  pays mine t (Posts payer left_out) = still i (same_lists refl refl refl refl) refl mine
  pays mine t (Pays payer) = grind (arith, touches, same_lists, marked, still)

  turns : AreMine → (choice : Choice) → After event.Turn choice
  turns = grind arith

  serve_lists : SameLists me (own_after c me s i event.Serve Plain)
  serve_lists = grind arith

  -- EACH EVENT

  stood : AreMine → (e : Event) (choice : Choice) → Allowed c me s i e choice → IsOwn s i e → After e choice
  stood mine event.Turn choice may own = turns mine choice
  stood mine event.Serve choice may own = still i serve_lists refl mine
  stood mine (event.Pend t) choice may own = pends mine t choice
  stood mine (event.Done t) choice may own = over mine (own_after c me s i (event.Done t) choice) t (same_lists refl refl refl refl)
  stood mine (event.Fault t n) choice may own = over mine (own_after c me s i (event.Fault t n) choice) t (same_lists refl refl refl refl)
  stood mine (event.Spawn t k) choice may own = still i (same_lists refl refl refl refl) (word_requests s me.polls) mine
  stood mine (event.Dedicated t j) choice may own = still i (same_lists refl refl refl refl) (word_requests s me.polls) mine
  stood mine event.Closed choice may own = still i (same_lists refl refl refl refl) (word_requests s me.polls) mine
  stood mine (event.Clear t) choice may own = clears mine t choice
  stood mine (event.Admit r kind o) choice may own = admits c me s i mine r kind o choice may
  stood mine (event.Wait (Some r)) choice may own = grind (arith, touches, same_lists, marked)
  stood mine (event.Got r o) choice may own =
      let y = record (request_of s r) { observed = false } in
      touches (own_after c me s i (event.Got r o) choice) mine (same_lists refl refl refl refl) r y refl (marked me (seat_of s i).landed r (request_of s r) y refl refl refl refl refl refl)
  stood mine (event.Drop r) choice may own = still i (same_lists refl refl refl refl) refl (lets_go c me s i mine r own)
  stood mine (event.Wake t) choice may own = pays mine t choice
  stood mine (event.Grant r o) choice may own = grants c me s i mine r o choice own may
  stood mine (event.Enrol r o) choice may own = enrols c me s i mine r o choice own may
  stood mine (event.Stage r) choice may own = stages c me s i mine r choice own may
  stood mine event.Enter choice may own = enters c me s i mine choice
  stood mine (event.Reap r n o) choice may own = reaps c me s i mine r n o choice own may
  stood mine (event.Expire r o) choice may own = expires c me s i mine r o choice own
  stood mine (event.Cancel r) choice may own = cancels_one c me s i mine r choice own may
  stood mine (event.Orphan r o) choice may own = still i (same_lists refl refl refl refl) refl (lets_go c me s i mine r own)
  stood mine (event.Release r) choice may own = releases c me s i mine r choice own may
  stood mine (event.Send to m) choice may own = sends mine to m choice
  stood mine (event.Apply m) choice may own = applies mine m choice own
  stood mine _ choice may own = still i (same_lists refl refl refl refl) refl mine

  pub mine_then : AreMine → (e : Event) (choice : Choice) → Allowed c me s i e choice → IsOwn s i e
      → (k : ℕ) → (request_of (common_after c me s i e choice) k).worker ≡ i → IsListed (own_after c me s i e choice) (seat_of (common_after c me s i e choice) i).landed k (request_of (common_after c me s i e choice) k)
  mine_then = grind (arith, seats_after, stood)
