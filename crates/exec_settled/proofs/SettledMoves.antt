-- What each move of a worker does as far as what it has done before it sleeps goes.
use Rattle.std.{proofs.{Common.{◌≡◌, ℕ, ◌-◌, ◌==◌, Bool, true, false, ◌&&◌, ◌||◌, [], Option, Some, None, refl, sym, ap, ◌∙◌, if◌then◌else◌}, lemmas.Bool.{false≢true, or_left, or_parts}}, specs.Prelude.{drop, nat_le, not}}
use Rattle.exec_words.specs.{Queue.head_of, Word.asks_signal}
use Rattle.exec_machine.specs.{declared.{config.Configuration.Configuration, event.Event.{Event, TheVariants.{Enter, Release, Rouse, Sleep, Turn, Wake}}}, After.own_after, Choice.{Choice, Choice.Plain}, Ranges.ring_size, Tests.{is_awake, is_done, is_empty, is_idle}, World.{Common, Task, request_of, seat_of, sleeper_of, task_of, Own as Books}}
use Rattle.exec_moves.specs.{declared.{handing.{AfterCallbacks.{AfterCallbacks, AfterCallbacks as after}, AfterKick.{AfterKick, AfterKick as kicks}, AfterPush.{AfterPush, AfterPush as pushes}, AfterSignal.{AfterSignal, AfterSignal as signal}, Heard.{Heard, Heard as heard}, InGlobal.{InGlobal, InGlobal as global}, InKick.{InKick, InKick as kick}, InPush.{InPush, InPush as push}, InSignal.{InSignal, InSignal as signals}, AfterClaim.AfterClaim as claim}, idling.{InRingWait.InRingWait, Stay.Stay as stay}, place.{Found.Found, InCallbacks.{InCallbacks, InCallbacks as callback}, Place.{Place, Place as at}, InClosing.InClosing as closing}}, Callback.{Item, Item.{Answers, Completes, LetsGo, Nothing, Releases, Wakes}, after_callbacks, flagged_by, has_callbacks, has_requests, is_full, is_of_pool, item_next, next_callback, payer_heard, payer_of, ring_wait, tells_waiter, woken_by}, Global.{empty_handed, has_any}, Load.{has_submissions, is_ready, leaves_for_turn, test_for_work}, Move.{move_callbacks, move_global, move_item, move_kick, move_push, move_signal}, Parts.{after_kick, after_push, after_signal, has_others}, Pop.same_head, State.{Desk, Moved, Own, Things, queue_of, turns, word_of}}
use Rattle.exec_rest.{specs.{AtRest.{is_end, stays_closing}, Places.is_to_sleep_on_ring, Posted.has_tested}, proofs.{Away.calm_untested, Continuing.{calm_light, calm_after_fit, calm_after_leave, light_after_send, light_leaves_for_turn, light_next_pick, calm_to_queue}}}
use Rattle.exec_settled.{specs.Settled.{HasSubmitted, HasTold, ends_ring_wait, has_submitted, has_tested_ring, has_told, waits_on_word}, proofs.{SettledParts.{is_shut, off_after_fit, off_after_leave, off_to_queue, off_light}, SettledPlaces.{OfBooks, closing_shut, deep_off, deep_untested, is_plain, is_sleep, kept, ring_off, sleep_deep, submitted_by, submitted_with, told_by, told_with, untold_off, word_tested}, SettledTest.Stays}}
use Rattle.exec_moves.specs.declared.idling.InRingWait.TheVariants as ring

module _ (c : Configuration) (i : ℕ) (me : Books) (s : Common) where
  -- what holds of the worker at its place
  pub record Was (p : Place) (d : Desk) : Type 0 where
    pub told : has_told p ≡ true → HasTold me d
    pub submitted : has_submitted p ≡ true → HasSubmitted c me
    pub free : waits_on_word p ≡ true → has_requests i s ≡ false
    pub busy : stays_closing p ≡ true → has_requests i s ≡ true

  -- and after an event, with which it comes to desk q from place p
  pub record Settles (p : Place) (e : Event) (choice : Choice) (q : Desk) : Type 0 where
    pub told : has_told q.place ≡ true → HasTold (own_after c me s i e choice) q
    pub submitted : has_submitted q.place ≡ true → HasSubmitted c (own_after c me s i e choice)
    pub free : waits_on_word q.place ≡ true → has_requests i s ≡ false
    pub busy : stays_closing q.place ≡ true → has_requests i s ≡ true
    -- it makes no request, and ends none
    pub plain : (waits_on_word q.place || stays_closing q.place) ≡ true → is_plain e ≡ true
    -- it sleeps on its ring after an enter; and as it does nothing has landed there
    pub entered : is_to_sleep_on_ring q.place ≡ true → e ≡ Enter
    pub slept : (until : Option ℕ) → e ≡ Sleep until → ends_ring_wait q.place ≡ true → (is_to_sleep_on_ring p ≡ true) × ((seat_of s i).landed ≡ [])

  -- TO ANY OTHER PLACE
  module _ (p : Place) where
    pub away : (e : Event) (choice : Choice) (q : Desk) → has_tested q.place ≡ false → is_shut q.place ≡ false → Settles p e choice q
    away e choice q out off =
        let word = word_tested q.place out in
        let wait = closing_shut q.place off in
        let deep = sleep_deep q.place (deep_off q.place out off) in
        record {
          told = λ h. absurd (false≢true (sym (untold_off q.place out off) ∙ h));
          submitted = λ h. absurd (false≢true (sym (ap (λ b. b || has_tested_ring q.place) out ∙ ring_off q.place out off) ∙ h));
          free = λ h. absurd (false≢true (sym word ∙ h));
          busy = λ h. absurd (false≢true (sym wait ∙ h));
          plain = λ h. absurd (false≢true (sym (ap (λ b. b || stays_closing q.place) word ∙ wait) ∙ h));
          entered = λ h. absurd (false≢true (sym deep.0 ∙ h));
          slept = λ until is h. absurd (false≢true (sym deep.1 ∙ h));
        }

    abbrev pub Comes : {T : Type 0} → Moved T → Type 0
    Comes m = Settles p m.event m.choice m.desk

    comes_if : {T : Type 0} (b : Bool) (m n : Moved T) → Comes m → Comes n → Comes (if b then m else n)
    comes_if true m n one other = one
    comes_if false m n one other = other

    settles_desk_if : (e : Event) (choice : Choice) (b : Bool) (q r : Desk) → Settles p e choice q → Settles p e choice r → Settles p e choice (if b then q else r)
    settles_desk_if e choice true q r one other = one
    settles_desk_if e choice false q r one other = other

    -- FROM THE CALLBACKS, by an event after which the own part has the ends that `mine` has, and at a desk that has what f has
    module _ (e : Event) (choice : Choice) (plain : is_plain e ≡ true) (calm : is_sleep e ≡ false) (q : Desk) where
      abbrev Leads : Place → Type 0
      Leads place = Settles p e choice (record q { place = place })

      leads_if : (b : Bool) (r t : Place) → Leads r → Leads t → Leads (if b then r else t)
      leads_if true r t one other = one
      leads_if false r t one other = other

      module _ (mine : Books) (f : Desk) (ends : (own_after c me s i e choice).ended ≡ mine.ended) (same : kept q ≡ kept f) where
        -- who closes has no more to tell, and waits for its requests on its ring, or ends
        finished : (b : Bool) → has_requests i s ≡ b → has_callbacks mine f ≡ false → Leads (if b then ring_wait (ring_size c) stay.Closing f else at.Closing closing.End)
        finished true some none = leads_if (is_full (ring_size c) f) _ _ (waits ring.EnterFullRing refl) (waits ring.TestRing refl)
          where
            waits : (r : InRingWait) → has_tested_ring (at.RingWait r stay.Closing) ≡ false → Leads (at.RingWait r stay.Closing)
            waits r before =
                let deep = sleep_deep (at.RingWait r stay.Closing) (deep_untested (at.RingWait r stay.Closing) before) in
                record {
                  told = λ h. told_with mine (own_after c me s i e choice) f (record q { place = at.RingWait r stay.Closing }) same ends (told_by mine f none);
                  submitted = λ h. absurd (false≢true (sym before ∙ h));
                  free = λ h. absurd (false≢true h);
                  busy = λ h. some;
                  plain = λ h. plain;
                  entered = λ h. absurd (false≢true (sym deep.0 ∙ h));
                  slept = λ until is h. absurd (false≢true (sym deep.1 ∙ h));
                }
        finished false done none =
            record {
              told = λ h. told_with mine (own_after c me s i e choice) f (record q { place = at.Closing closing.End }) same ends (told_by mine f none);
              submitted = λ h. absurd (false≢true h);
              free = λ h. absurd (false≢true h);
              busy = λ h. absurd (false≢true h);
              plain = λ h. absurd (false≢true h);
              entered = λ h. absurd (false≢true h);
              slept = λ until is h. absurd (false≢true h);
            }

        called_back : (n : AfterCallbacks) → has_callbacks mine f ≡ false → Leads (after_callbacks (ring_size c) i s n f)
        called_back after.Look none = leads_if (is_of_pool s i) _ _ (away e choice _ refl refl) (away e choice _ refl refl)
        called_back after.Test none = leads_if (is_of_pool s i) _ _ (away e choice _ refl refl) (away e choice _ refl refl)
        called_back after.Begin none = away e choice _ refl refl
        called_back after.Drain none = away e choice _ refl refl
        called_back after.Finish none = finished (has_requests i s) refl none

        pub calls_on : (n : AfterCallbacks) → Leads (next_callback (ring_size c) i mine s n f)
        calls_on n = by (has_callbacks mine f) refl
          where
            by : (b : Bool) → has_callbacks mine f ≡ b → Leads (if b then at.Callbacks callback.CallBack n else after_callbacks (ring_size c) i s n f)
            by true some = away e choice _ refl refl
            by false none = called_back n none

      -- after a push, a kick or a signal at the desk of before
      module _ (d : Desk) (ends : (own_after c me s i e choice).ended ≡ me.ended) (same : kept q ≡ kept d) where
        pub pushed : (b : AfterPush) → Leads (after_push c i me s b d)
        pushed (pushes.Act t) = away e choice _ refl refl
        pushed pushes.Pick = away e choice _ (calm_untested _ (calm_light _ (light_next_pick d))) (off_light _ (light_next_pick d))
        pushed (pushes.CallBack n) = calls_on me d ends same n

        pub kicked : (b : AfterKick) → Leads (after_kick c i me s b d)
        kicked (kicks.Leave b) = away e choice _ (calm_untested _ (calm_after_leave c i me s b d)) (off_after_leave c i me s b d)
        kicked (kicks.Push b) = pushed b

        pub signalled : (b : AfterSignal) → Leads (after_signal c i me s b d)
        signalled (signal.Claim (claim.Kick b)) = kicked b
        signalled (signal.Claim (claim.Global b)) = pushed b
        signalled (signal.Send b) = away e choice _ (calm_untested _ (calm_light _ (light_after_send c b d))) (off_light _ (light_after_send c b d))

    -- EACH MOVE of these groups, by its place
    module _ (d : Desk) (x : Things) where
      -- by a turn
      turn_if : (b : Bool) (q : Desk) (r t : Place) → Settles p Turn Plain (record q { place = r }) → Settles p Turn Plain (record q { place = t })
          → Settles p Turn Plain (record q { place = if b then r else t })
      turn_if true q r t one other = one
      turn_if false q r t one other = other

      off : (q : Desk) → has_tested q.place ≡ false → is_shut q.place ≡ false → Settles p Turn Plain q
      off q = away Turn Plain q

      pushes_then : (q : Desk) → kept q ≡ kept d → (b : AfterPush) → Settles p Turn Plain (record q { place = after_push c i me s b d })
      pushes_then q same b = pushed Turn Plain refl refl q d refl same b

      kicks_then : (b : AfterKick) → Settles p Turn Plain (record d { place = after_kick c i me s b d })
      kicks_then b = kicked Turn Plain refl refl d d refl refl b

      pub pushes_one : (r : InPush) (b : AfterPush) → Comes (move_push c i me s d x r b)
      pushes_one push.LoadPushHead b = off _ (calm_untested _ (calm_after_fit b _ _)) (off_after_fit b _ _)
      pushes_one (push.StoreValue len) b = turn_if (nat_le 2 len && has_others c) (record d { hand = None }) _ _ (off _ refl refl) (pushes_then (record d { hand = None }) refl b)
      pushes_one (push.FlowOver h) b = comes_if (same_head h (head_of (queue_of x i))) _ _ (off _ refl refl) (off _ refl refl)
      pushes_one push.StoreOldest b = off _ refl refl

      pub globals : (r : InGlobal) (b : AfterPush) → Comes (move_global c i me s d x r b)
      globals global.Append b = turn_if s.queue_closed (empty_handed d) _ _ (pushes_then (empty_handed d) refl b) (off _ refl refl)
      globals global.LoadGlobalSet b = turn_if (has_any x.idle) d _ _ (off _ refl refl) (pushes_then d refl b)
      globals (global.AddGlobalCount set) b = off _ refl refl
      globals global.ReturnGlobalCount b = turn_if (x.idle.count == 1) d _ _ (off _ refl refl) (pushes_then d refl b)

      pub kicks_one : (r : InKick) (b : AfterKick) → Comes (move_kick c i me s d x r b)
      kicks_one kick.LoadKickCount b = turn_if (x.idle.count == 0) d _ _ (off _ refl refl) (kicks_then b)
      kicks_one kick.LoadKickSet b = turn_if (has_any x.idle) d _ _ (off _ refl refl) (kicks_then b)
      kicks_one (kick.ExchangeKickCount set) b = comes_if (x.idle.count == 0) _ _ (off _ refl refl) (kicks_then b)
      kicks_one kick.ReturnKickCount b = turn_if (x.idle.count == 1) d _ _ (off _ refl refl) (kicks_then b)

      pub signals_one : (r : InSignal) (j : ℕ) (b : AfterSignal) → Comes (move_signal c i me s d x r j b)
      signals_one signals.SetLatch j b = turn_if (asks_signal (word_of x j)) d _ _ (off _ refl refl) (signalled Turn Plain refl refl d d refl refl b)
      signals_one (signals.Raise ring) j b = raises (is_awake (seat_of s j).rest)
        where
          raises : (awake : Bool) → Settles p (if awake then Turn else Rouse j) Plain (record d { place = after_signal c i me s b d })
          raises true = signalled Turn Plain refl refl d d refl refl b
          raises false = signalled (Rouse j) Plain refl refl d d refl refl b

      -- THE CALLBACKS
      woken : (choice : Choice) (n : AfterCallbacks) (t : ℕ) (f : Desk) (it : Task) (home : Option ℕ) → it.home ≡ home → Settles p (Wake t) choice (woken_by (ring_size c) i me s n t f it)
      woken choice n t f it None h =
          rw h (settles_desk_if (Wake t) choice (is_idle it.phase) _ _ (away (Wake t) choice _ (calm_untested _ (calm_to_queue s i (pushes.CallBack n))) (off_to_queue s i (pushes.CallBack n)))
          (calls_on (Wake t) choice refl refl f me f refl refl n))
      woken choice n t f it (Some home) h = rw h (calls_on (Wake t) choice refl refl (flagged_by it f) me (flagged_by it f) refl refl n)

      turns_back : (f : Desk) (n : AfterCallbacks) → Settles p Turn Plain (record f { place = next_callback (ring_size c) i me s n f })
      turns_back f n = calls_on Turn Plain refl refl f me f refl refl n

      told_of : (n : AfterCallbacks) (waiter : Option ℕ) (of : Heard) (f : Desk) → Settles p Turn Plain (tells_waiter (ring_size c) i me s n waiter of f)
      told_of n None of f = turns_back f n
      told_of n (Some t) of f = settles_desk_if Turn Plain (is_done (task_of s t).phase) _ _ (turns_back f n) (off _ refl refl)

      items : (n : AfterCallbacks) (it : Item) → Comes (move_item c i me s d x n it)
      items n (Wakes t) = woken (payer_of (task_of s t).waiting) n t (record d { wakes = drop 1 d.wakes }) (task_of s t) _ refl
      items n LetsGo = turns_back (record d { outputs = d.outputs - 1 }) n
      items n (Releases r) = calls_on (Release r) Plain refl refl d (record me { ended = drop 1 me.ended }) d refl refl n
      items n (Completes z) = told_of n (Some (sleeper_of s z).task) (heard.Timer z) (record d { completions = drop 1 d.completions })
      items n (Answers r) = told_of n (request_of s r).waiter (heard.Request r) (record d { results = drop 1 d.results })
      items n Nothing = turns_back d n

      pub calls : (r : InCallbacks) (n : AfterCallbacks) → Comes (move_callbacks c i me s d x r n)
      calls callback.TakeBatch n = turn_if (d.searching && has_callbacks me d) d _ _ (off _ refl refl) (turns_back d n)
      calls callback.CallBack n = items n (item_next me d)
      calls (callback.WakeWaiter t of) n = woken (payer_heard of) n t d (task_of s t) _ refl

      -- THE TEST
      pub tests : (f : Found) → Comes (test_for_work c i me s f d)
      tests f = by (is_ready me f d || has_submissions c me) refl
        where
          by : (b : Bool) → (is_ready me f d || has_submissions c me) ≡ b → Comes (if b then turns {T = Own} (leaves_for_turn c i me s d) d tt else turns {T = Own} at.ReadClock d tt)
          by true some = off _ (calm_untested _ (calm_light _ (light_leaves_for_turn c i me s d))) (off_light _ (light_leaves_for_turn c i me s d))
          by false none =
              let parts = or_parts (is_ready me f d) (has_submissions c me) none in
              let ready = or_parts (f.ready || d.root_ready || has_callbacks me d) (not (is_empty d.batch)) parts.0 in
              let told = told_by me d (or_parts (f.ready || d.root_ready) (has_callbacks me d) ready.0).1 in
              let submitted = submitted_by c me parts.1 in
              record {
                told = λ h. told_with me (own_after c me s i Turn Plain) d (record d { place = at.ReadClock }) refl refl told;
                submitted = λ h. submitted_with c me (own_after c me s i Turn Plain) refl submitted;
                free = λ h. absurd (false≢true h);
                busy = λ h. absurd (false≢true h);
                plain = λ h. absurd (false≢true h);
                entered = λ h. absurd (false≢true h);
                slept = λ until is h. absurd (false≢true h);
              }

      -- FROM A PLACE TO WHICH THE TEST LEADS
      pub settled : (e : Event) (choice : Choice) (q : Desk) → Was p d → has_tested p ≡ true → Stays c i me s d e choice q → Settles p e choice q
      settled e choice q was within stays =
          let wait = closing_shut q.place stays.place.off in
          let deep = sleep_deep q.place (deep_untested q.place stays.place.early) in
          record {
            told = λ h. told_with me (own_after c me s i e choice) d q stays.desk (ap (λ (k : OfBooks). k.ended) stays.own) (was.told (or_left (has_tested p || is_end p) (stays_closing p) (or_left (has_tested p) (is_end p) within)));
            submitted = λ h. submitted_with c me (own_after c me s i e choice) stays.own (was.submitted (or_left (has_tested p) (has_tested_ring p) within));
            free = stays.place.free;
            busy = λ h. absurd (false≢true (sym wait ∙ h));
            plain = λ h. stays.plain;
            entered = λ h. absurd (false≢true (sym deep.0 ∙ h));
            slept = λ until is h. absurd (false≢true (sym deep.1 ∙ h));
          }
