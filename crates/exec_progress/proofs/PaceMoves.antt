-- Each move but the wild ones leads to a calm place, and leaves the spinner as it is.
use Rattle.std.{proofs.{Common.{◌≡◌, ℕ, Bool, true, false, ◌+◌, ◌-◌, ◌*◌, ◌==◌, ◌&&◌, ◌||◌, List, [], ◌∷◌, length, Option, Some, None, refl, arith}, lemmas.Bool.true≢false}, specs.Prelude.{drop, nat_le, nat_lt, not, slice_get, slice_index_or}}
use Rattle.exec_words.specs.{Generator.stirred, Head.is_stealable_at, Idle.is_in, Queue.{head_of, room_of, tail_of}}
use Rattle.exec_task.specs.declared.drain.Drain.{Drain}
use Rattle.exec_machine.specs.{declared.config.Configuration.Configuration, Deadlines.next_due, Ranges.ring_size, Tests.is_applied, World.{Common, Own as Books, Task, request_of, sleeper_of, task_of}, Closing.ends_by_clear}
use Rattle.exec_moves.specs.{declared.{idling.{InLook.{InLook, InLook as look}, InRingWait.{InRingWait, InRingWait as ring}, InScan.{InScan, InScan as scan}, InSearch.{InSearch, InSearch as search}, InWordWait.{InWordWait, InWordWait as word}, Stay.Stay}, place.{InClosing.{InClosing, InClosing as closing}, InLoads.InLoads, InMail.InMail, InService.{InService, InService as step}, Place.{Place, Place as at}, Reaping.Reaping, Round.Round, Service.Service, AfterPermit.AfterPermit as permit}, handing.{AfterCancels.AfterCancels as cancels, AfterSend.AfterSend as send}}, Callback.{is_full, is_of_pool}, Claim.claimed, Close.{close_sleeper, first_asleep, first_held, orphan, visit, told_of_clear}, Load.{has_come, has_submissions, is_ready as has_ready}, Look.{look_at_mirror, searching_if}, Move.{move_at, move_closing, move_loads, move_look, move_mail, move_ring_wait, move_scan, move_search, move_service, move_submit, move_word_wait}, Pop.shard_count, Search.{begun_scan, from_of, half}, Send.first_letter, Serve.{Ring, end_service, first_to_fire, reap, others_after_reap, back_from_reap}, State.{Desk, Moved, Things, queue_of}, Submit.{Due, due_next}, Thing.ring_of}
use Rattle.exec_progress.{specs.{Going.{has_called_back, loads_queues}, Owed.quiet_items}, proofs.{PaceParts.{is_wild, Calm, claiming, fair_if, headed, looking, passed_on, permitted, reaped, returned, scanned, searching, served, tailed, waited, waiting_on, withdrawing, withdrawn, calm_there}, PaceSpins.{all_same, ended_same, enter_at, enter_same, fire_same, poll_same, same_if}, PacePolls.{Fine, desk_if, in_callbacks, in_global, in_kick, in_pick, in_poll, in_pop, in_push, in_signal, move_if, picking_one}}}
use Rattle.exec_rest.proofs.Continuing.{light_leaves_for_turn, light_tells_from, light_cancels_left, light_after_posting, light_after_close, light_after_letting_go}
use Rattle.exec_moves.specs.declared.idling.AfterWait.TheVariants as later

module _ (c : Configuration) (i : ℕ) (me : Books) (s : Common) (d : Desk) (x : Things) where
  abbrev n : ℕ
  n = d.spinner.budget

  abbrev pool : Bool
  pool = is_of_pool s i

  abbrev Leads : {T : Type 0} → Moved T → Type 0
  Leads m = Fine c i me s d x m.desk

  no : (d.spinner ≡ d.spinner) × Unit {0}
  no = (refl, tt)

  -- A SERVICE

  in_loads : (p : InLoads) (r : Round) → (loads_queues (at.Loads p r) ≡ true → pool ≡ true) → (has_called_back (at.Loads p r) ≡ true → quiet_items d ≡ 0)
      → Leads (move_loads i me d x p r)
  in_loads = grind arith

  reaped_all : (r : Reaping) (v : Service) (y : Ring) (l : List ℕ) → y.landed ≡ l → Leads (reap i v r s d y)
  reaped_all r v y [] h = rw h (refl, permitted c i me s n true (permit.Reaped r) v)
  reaped_all r v y (q ∷ later) h =
      rw h (ended_same _ q (request_of s q) (others_after_reap later y.wakes d), reaped c i me s n true (request_of s q) _ (back_from_reap r later) v)

  in_submit : (gate : ℕ) (v : Service) (due : Due) → Leads (move_submit c i me s d x gate v due)
  in_submit = grind arith

  fired : (v : Service) (o : Option ℕ) → first_to_fire i me s d ≡ o → ((quiet : Bool) → Calm pool n quiet d.place) → Leads (end_service i v me s d)
  fired v None h before = rw h (refl, served c i me s n _ v.back d)
  fired v (Some z) h before = rw h (desk_if c i me s d x (is_applied (sleeper_of s z).forwarding) _ _ (refl, before _) (refl, before _))

  in_service : (p : InService) (v : Service) → d.place ≡ at.Service p v → is_wild (at.Service p v) ≡ false → Leads (move_service c i me s d x p v)
  in_service step.Sample v here tame = no
  in_service (step.Reap r) v here tame = reaped_all r v (ring_of s x i) _ refl
  in_service (step.PassPermit file b) v here tame = (refl, passed_on c i me s n true _ b v)
  in_service (step.Signal j b) v here tame = absurd (true≢false tame)
  in_service (step.Raise is_ring j b) v here tame = (refl, permitted c i me s n true b v)
  in_service step.AdvanceWheel v here tame = no
  in_service (step.Submit gate) v here tame = in_submit gate v (due_next c i gate me s d)
  in_service step.EnterLast v here tame = (enter_same me d (ring_of s x i), tt)
  in_service step.EndService v here tame = fired v _ refl (λ quiet. rw here tt)

  -- THE MAILBOX AND A CLOSING

  in_mail : (p : InMail) → Leads (move_mail i me s d x p)
  in_mail = grind arith

  visited : (drain : Drain) (shard : List ℕ) (newest : Option ℕ) → slice_get shard (length shard - 1) ≡ newest → Leads (visit (shard_count c) drain d shard)
  visited drain shard None h = rw h no
  visited drain shard (Some t) h = rw h no

  orphaned : (held : Option ℕ) → first_held s d ≡ held → Leads (orphan i s d)
  orphaned = grind arith

  sleeper_closed : (asleep : Option ℕ) → first_asleep i s d ≡ asleep → Leads (close_sleeper i s d)
  sleeper_closed None h = rw h no
  sleeper_closed (Some z) h = rw h (fire_same z (sleeper_of s z) d, calm_there _ _ _ _ (light_after_letting_go None _))

  cleared : (it : Task) → (told_of_clear i s d it).spinner ≡ d.spinner
  cleared it = same_if d (ends_by_clear it.phase) _ _ (all_same i s it d) refl

  in_closing : (p : InClosing) → Leads (move_closing c i s d x p)
  in_closing closing.Close = (refl, calm_there _ _ _ _ (light_after_close c i s))
  in_closing closing.Stop = (refl, calm_there _ _ _ _ (light_tells_from c 1))
  in_closing (closing.TellRoot j) = (refl, calm_there _ _ _ _ (light_after_posting c j (send.Tell (j + 1)) _ d))
  in_closing (closing.Visit drain) = visited drain (slice_index_or x.shards drain.at []) _ refl
  in_closing (closing.Clear t drain) = (cleared (task_of s t), calm_there _ _ _ _ (light_cancels_left (cancels.Visit drain) (told_of_clear i s d (task_of s t)) _))
  in_closing closing.CloseMailbox = (refl, calm_there _ _ _ _ (light_after_letting_go _ _))
  in_closing closing.Orphan = orphaned _ refl
  in_closing closing.CloseSleeper = sleeper_closed _ refl
  in_closing _ = no

  -- A SEARCH AND THE WAITS

  in_search : (p : InSearch) → Leads (move_search c d x p)
  in_search search.LoadSearchCount = (refl, fair_if c i me s n _ (nat_le c.workers (2 * x.idle.count)) _ _ tt tt)
  in_search search.AddSearchCount = no

  in_scan : (p : InScan) → is_wild (at.Scan p) ≡ false → Leads (move_scan c i me s d x p)
  in_scan scan.LoadScanHead tame = (refl, fair_if c i me s n _ (nat_lt (room_of (queue_of x i)) half) _ _ tt (scanned c i me s n _ (begun_scan c (stirred d.rng))))
  in_scan (scan.LoadTheirHead y) tame = (refl, headed c i me s n _ y (head_of (queue_of x (from_of c y))))
  in_scan (scan.LoadTheirTail y h) tame = (refl, tailed c i me s n _ y h (tail_of (queue_of x (from_of c y))))
  in_scan scan.StoreMoved tame = (refl, calm_there _ _ _ _ (light_leaves_for_turn c i me s d))
  in_scan _ tame = absurd (true≢false tame)

  mirrored : (last : Bool) (g : List ℕ) → Leads (look_at_mirror last d g)
  mirrored last [] = no
  mirrored last (t ∷ ts) = no

  in_look : (p : InLook) → is_wild (at.Look p) ≡ false → Leads (move_look c i s d x p)
  in_look look.Publish tame = absurd (true≢false tame)
  in_look (look.LookAtMirror last) tame = mirrored last x.global
  in_look look.LookAtCount tame = (refl, fair_if c i me s n _ (x.idle.count == 0) _ _ (looking c i me s n _ 0 d refl) (waiting_on c i me s n _ d refl))
  in_look (look.LookAtTail j h) tame = (refl, fair_if c i me s n _ (is_stealable_at h (tail_of (queue_of x j))) _ _ tt (looking c i me s n _ (j + 1) d refl))
  in_look look.ExchangeLookCount tame = move_if c i me s d x (x.idle.count == 0) _ _ no (refl, waiting_on c i me s n _ d refl)
  in_look _ tame = no

  in_ring_wait : (p : InRingWait) (y : Stay) → is_wild (at.RingWait p y) ≡ false → Leads (move_ring_wait c i me s d x p y)
  in_ring_wait ring.EnterFullRing y tame = (enter_same me _ (ring_of s x i), rw (enter_at me (record d { place = at.RingWait ring.TestRing y }) (ring_of s x i)) tt)
  in_ring_wait ring.TestRing y tame =
      move_if c i me s d x (has_submissions c me || (not d.polled && is_full (ring_size c) d)) _ _ (refl, waited c i me s n _ y later.Serve) (poll_same (ring_size c) d, tt)
  in_ring_wait (ring.DisarmRing a) y tame = (refl, waited c i me s n _ y a)
  in_ring_wait _ y tame = absurd (true≢false tame)

  in_word_wait : (p : InWordWait) → is_wild (at.WordWait p) ≡ false → Leads (move_word_wait i s d x p)
  in_word_wait word.TakeLatch tame = (refl, withdrawing c i me s n _ later.Begin)
  in_word_wait _ tame = absurd (true≢false tame)

  -- EACH PLACE

  pub in_place : (p : Place) → d.place ≡ p → (loads_queues p ≡ true → pool ≡ true) → (has_called_back p ≡ true → quiet_items d ≡ 0) → is_wild p ≡ false
      → Leads (move_at c i me s d x p)
  in_place at.BeginTurn here pooled called tame = (refl, fair_if c i me s n _ (is_of_pool s i) _ _ tt tt)
  in_place (at.Pick p) here pooled called tame = in_pick c i me s d x p
  in_place at.TakeRootFlag here pooled called tame = move_if c i me s d x d.root_ready _ _ (picking_one c i me s d x me.root (record d { root_ready = false }) refl) no
  in_place (at.Poll t p) here pooled called tame = in_poll c i me s d x (rw here tt) t p
  in_place (at.Callbacks p a) here pooled called tame = in_callbacks c i me s d x p a
  in_place (at.Loads p r) here pooled called tame = in_loads p r pooled called
  in_place (at.Service p v) here pooled called tame = in_service p v here tame
  in_place (at.Mail p) here pooled called tame = in_mail p
  in_place (at.TestForWork f) here pooled called tame = move_if c i me s d x (has_ready me f d || has_submissions c me) _ _ (refl, calm_there _ _ _ _ (light_leaves_for_turn c i me s d)) no
  in_place at.ReadClock here pooled called tame =
      move_if c i me s d x (has_come s.clock (next_due s i)) _ _ (refl, calm_there _ _ _ _ (light_leaves_for_turn c i me s d)) (refl, searching c i me s n _ (record d { read = s.clock }) refl)
  in_place (at.Search p) here pooled called tame = in_search p
  in_place (at.Scan p) here pooled called tame = in_scan p tame
  in_place (at.Look p) here pooled called tame = in_look p tame
  in_place (at.RingWait p y) here pooled called tame = in_ring_wait p y tame
  in_place (at.WordWait p) here pooled called tame = in_word_wait p tame
  in_place (at.Withdraw a) here pooled called tame = let came = not (is_in x.idle.published i) in (refl, withdrawn c i me s n _ came a (searching_if came d))
  in_place (at.Closing p) here pooled called tame = in_closing p
  in_place (at.Pop p b) here pooled called tame = in_pop c i me s d x p b
  in_place (at.LeaveSearch b) here pooled called tame = (refl, returned c i me s n _ (x.idle.count == 1) b d)
  in_place (at.Push p b) here pooled called tame = in_push c i me s d x p b
  in_place (at.Global p b) here pooled called tame = in_global c i me s d x p b
  in_place (at.Kick p b) here pooled called tame = in_kick c i me s d x p b
  in_place (at.ClaimWorker set b) here pooled called tame = (refl, claiming c i me s n _ b (claimed set x.idle))
  in_place (at.Signal p j b) here pooled called tame = in_signal c i me s d x p j b tame
  in_place (at.SendCancel b) here pooled called tame = (refl, calm_there _ _ _ _ (light_after_posting c (first_letter d).to (send.Cancels b) _ (record d { letters = drop 1 d.letters })))
