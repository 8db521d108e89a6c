-- The act by which a task makes one with a worker of its own: what it is to the machine.
use Rattle.std.{proofs.{Common.{[], ◌≡◌, ℕ, suc, arith, true, false, not, List, ◌∷◌, ◌++◌, length, map, Option, Some, refl, sym, ap, subst, ◌∙◌, slice_get, slice_set}, lemmas.{Bool.{eq-eqb}, List.{length-map, map-append, map-set}}}}
use Rattle.exec_base.specs.declared.{task_no.TaskNo.TaskNo}
use Rattle.exec_task.specs.{declared.{body.{Said.Said}}}
use Rattle.exec_machine.specs.{Choice.Choice.Plain, declared.{config.{Configuration.Configuration, ScriptWord.ScriptWord}, event.Event.Event, state.{Code.TheVariants.Script, Waiting.Waiting}}, Progress.Plan, Tasks.{after_dedicated, new_seat, new_task}, Words.{asks_dedicated, moved_on, next_word, script_asked}, World.{Common, Own, task_of}}
use Rattle.exec_moves.specs.{Move.move_act, Send.{next_task, with_newcomer}, State.{Desk, Things, no_queue, no_wake_poll, no_word}, declared.place.{InPoll.InPoll, Place.Place}}
use Rattle.exec_parts.specs.{declared.parts.{seat.Seat.Seat as Chair, shared.Shared.Shared, task_slot.TaskSlot.TaskSlot, worker.Worker.Worker}, Dedicated.root_slot, Scripts.Begins, Spots.{Spot}, View.{Views, Visible, common_of, desk_of, polls_seen, queue_at, seat_seen, seats_seen, task_seen, things_with, visible, with_view, word_at, inbox_at}}
use Rattle.exec_invariants.{specs.Works.{Suits, WorksWith, with_born}, proofs.{Acting.{acts_so, by_word, me_at}, Slots.task_there, Turning.view_found}}
use Rattle.exec_polling.proofs.{Begun.fresh_visible, DedicatedJoins.JoinsRoot}

-- LISTS THAT ARE SEEN

seats_more : (vs : List Visible) (seats : List Chair) (v : Visible) (chair : Chair) → length vs ≡ length seats → seats_seen (vs ++ v ∷ []) (seats ++ chair ∷ []) ≡ seats_seen vs seats ++ seat_seen v chair ∷ []
seats_more [] [] v chair many = refl
seats_more [] (seat ∷ seats) v chair many = absurd (omega (arith, many))
seats_more (x ∷ vs) [] v chair many = absurd (omega (arith, many))
seats_more (x ∷ vs) (seat ∷ seats) v chair many = ap (λ xs. seat_seen x seat ∷ xs) (seats_more vs seats v chair (omega (arith, many)))

polls_more : (vs : List Visible) (seats : List Chair) (v : Visible) (chair : Chair) → length vs ≡ length seats → polls_seen (vs ++ v ∷ []) (seats ++ chair ∷ []) ≡ polls_seen vs seats ++ polls_seen (v ∷ []) (chair ∷ [])
polls_more [] [] v chair many = refl
polls_more [] (seat ∷ seats) v chair many = absurd (omega (arith, many))
polls_more (x ∷ vs) [] v chair many = absurd (omega (arith, many))
polls_more (x ∷ vs) (seat ∷ seats) v chair many = ap (λ xs. polls_seen (x ∷ []) (seat ∷ []) ++ xs) (polls_more vs seats v chair (omega (arith, many)))

seats_many : (vs : List Visible) (seats : List Chair) → length vs ≡ length seats → length (seats_seen vs seats) ≡ length seats
seats_many [] [] many = refl
seats_many [] (seat ∷ seats) many = absurd (omega (arith, many))
seats_many (x ∷ vs) [] many = absurd (omega (arith, many))
seats_many (x ∷ vs) (seat ∷ seats) many = ap suc (seats_many vs seats (omega (arith, many)))

-- WHAT IT IS TO THE MACHINE

open_move : (c : Configuration) (i : ℕ) (me : Own) (s : Common) (d : Desk) (x : Things) (t k : ℕ) → s.set_closed ≡ false
    → move_act c i me s d x t (ScriptWord.Dedicated k) ≡ record { event = Event.Dedicated (next_task s) (length s.seats); choice = Plain; desk = record d { place = Place.Poll t InPoll.Act }; thing = with_newcomer x }
open_move c i me s d x t k is = rw is refl

pub closed_move : (c : Configuration) (i : ℕ) (me : Own) (s : Common) (d : Desk) (x : Things) (t k : ℕ) → s.set_closed ≡ true
    → move_act c i me s d x t (ScriptWord.Dedicated k) ≡ record { event = Event.Closed; choice = Plain; desk = record d { place = Place.Poll t InPoll.Act }; thing = x }
closed_move c i me s d x t k is = rw is refl

module _ {B L : Type 0} (left : B → L) (spot : L → Option Said → Spot) where
  -- what is seen of the new task
  pub root_seen : (body : B) (number : TaskNo) (owner i k : ℕ) (new : TaskSlot B) → new ≡ root_slot number owner i body new → new.held.items ≡ [] → Begins (spot (left body)) k → task_seen left spot new ≡ new_task (Script k) (Some i)
  root_seen = grind arith

  module _ (t : ℕ) (w v : Worker) (s m s' : Shared B) (slot mid : TaskSlot B) (it : JoinsRoot m s') (there : slice_get s.tasks.items t ≡ Some slot) (waits : slot.waiting ≡ Waiting.Nothing) (items : m.tasks.items ≡ slice_set s.tasks.items t mid) (kept : m ≡ record s { tasks = m.tasks }) (visible_is : visible v ≡ fresh_visible) where
    same_seats : m.seats.items ≡ s.seats.items
    same_seats = ap (λ (z : Shared B). z.seats.items) kept

    all_kept : s' ≡ record s { seats = s'.seats; tasks = s'.tasks; global = record s.global { places = s'.global.places }; store = s'.store }
    all_kept = it.kept ∙ ap (λ (z : Shared B). record z { seats = s'.seats; tasks = s'.tasks; global = record z.global { places = s'.global.places }; store = s'.store }) kept

    grown : s'.seats.items ≡ s.seats.items ++ it.chair ∷ []
    grown = it.seats ∙ ap (λ xs. xs ++ it.chair ∷ []) same_seats

    -- what stands for it in what others touch
    queue_new : queue_at it.chair ≡ no_queue
    queue_new = rw it.fresh.queue refl

    word_new : word_at it.chair ≡ no_word
    word_new = it.fresh.waker

    inbox_new : inbox_at it.chair ≡ []
    inbox_new = rw it.fresh.inbox refl

    poll_new : polls_seen (fresh_visible ∷ []) (it.chair ∷ []) ≡ no_wake_poll ∷ []
    poll_new = rw it.fresh.raised refl

    seat_new : seat_seen fresh_visible it.chair ≡ new_seat false
    seat_new = rw (it.fresh.phase, it.fresh.pool_is, it.fresh.left, it.fresh.rest, it.fresh.inbox) refl

    shown : (vs : Views) → length vs.workers ≡ length s.seats.items → things_with (with_born (Some v) vs) s' ≡ with_newcomer (things_with vs s)
    shown vs many = grind (arith, visible_is, all_kept, grown, poll_new, queue_new, word_new, inbox_new, polls_more, map-append)

    abbrev made : ℕ
    made = length s.tasks.items

    abbrev last : ℕ
    last = length s.seats.items

    common_then : (k : ℕ) (p : Plan) (vs : Views) → length vs.workers ≡ last → task_seen left spot it.new ≡ new_task (Script k) (Some last) → moved_on (common_of left spot p vs s) (task_seen left spot slot) ≡ task_seen left spot mid → script_asked (next_word (common_of left spot p vs s) (task_seen left spot slot)) ≡ k
        → common_of left spot p (with_born (Some v) vs) s' ≡ after_dedicated (me_at t w) (common_of left spot p vs s) last
    common_then k p vs many new moved asked =
        let all = common_of left spot p vs s in
        let seen = task_seen left spot in
        let at_t : task_of all t ≡ seen slot = task_there left spot s.tasks.items t slot there in
        let old : map seen m.tasks.items ≡ slice_set all.tasks t (moved_on all (task_of all t)) =
        ap (map seen) items ∙ map-set seen s.tasks.items t mid ∙ ap (slice_set all.tasks t) (sym moved) ∙ ap (λ y. slice_set all.tasks t (moved_on all y)) (sym at_t) in
        let tasks : map seen s'.tasks.items ≡ slice_set all.tasks t (moved_on all (task_of all t)) ++ new_task (Script (script_asked (next_word all (task_of all t)))) (Some last) ∷ [] =
        ap (map seen) it.items ∙ map-append seen m.tasks.items (it.new ∷ []) ∙ ap (λ ts. ts ++ seen it.new ∷ []) old
        ∙ ap (λ y. slice_set all.tasks t (moved_on all (task_of all t)) ++ y ∷ []) (new ∙ ap (λ n. new_task (Script n) (Some last)) (sym asked ∙ ap (λ y. script_asked (next_word all y)) (sym at_t))) in
        let seats : seats_seen (vs.workers ++ visible v ∷ []) s'.seats.items ≡ all.seats ++ new_seat false ∷ [] =
        ap (λ x. seats_seen (vs.workers ++ x ∷ []) s'.seats.items) visible_is ∙ ap (seats_seen (vs.workers ++ fresh_visible ∷ [])) grown ∙ seats_more vs.workers s.seats.items fresh_visible it.chair many ∙ ap (λ y. all.seats ++ y ∷ []) seat_new in
        ap (common_of left spot p (with_born (Some v) vs)) all_kept
        ∙ ap (λ ts. record all { seats = seats_seen (vs.workers ++ visible v ∷ []) s'.seats.items; tasks = ts }) tasks
        ∙ ap (λ ss. record all { seats = ss; tasks = slice_set all.tasks t (moved_on all (task_of all t)) ++ new_task (Script (script_asked (next_word all (task_of all t)))) (Some last) ∷ [] }) seats

    pub dedicated_works : w.place ≡ Place.Poll t InPoll.Act → s.set.closed ≡ false → (k : ℕ) (p : Plan) (vs : Views) → Suits p vs w s → next_word (common_of left spot p vs s) (task_seen left spot slot) ≡ ScriptWord.Dedicated k → task_seen left spot it.new ≡ new_task (Script k) (Some last)
        → moved_on (common_of left spot p vs s) (task_seen left spot slot) ≡ task_seen left spot mid
        → WorksWith left spot (Some v) p vs w s (Event.Dedicated made last) w s'
    dedicated_works here unclosed k p vs suits word new moved =
        let all = common_of left spot p vs s in
        let x = things_with vs s in
        let w1 : Worker = record w { place = Place.Poll t InPoll.Act } in
        let d = desk_of w1 in
        let at_t : task_of all t ≡ task_seen left spot slot = task_there left spot s.tasks.items t slot there in
        let again : with_view vs w.index (visible w) ≡ vs = view_found vs w.index (visible w) suits.seen in
        let count : next_task all ≡ made = length-map s.tasks.items (task_seen left spot) in
        let seats : length all.seats ≡ last = seats_many vs.workers s.seats.items suits.workers in
        subst (λ y. WorksWith left spot (Some v) p vs y s (Event.Dedicated made last) y s') (ap (λ y. record w { place = y }) (sym here)) (record {
          choice = Plain;
          moves = grind (arith, by_word left spot t p all w s vs slot (ScriptWord.Dedicated k) at_t word, open_move p.config w.index (me_at t w) all d x t k unclosed, count, seats, shown vs suits.workers, again);
          may = (
            acts_so left spot t all w slot asks_dedicated at_t waits (ap asks_dedicated word),
            (eq-eqb made (length all.tasks) (sym count), (eq-eqb last (length all.seats) (sym seats), (ap not unclosed, tt))),
          );
          own = refl;
          common = ap (λ y. common_of left spot p (with_born (Some v) y) s') again ∙ common_then k p vs suits.workers new moved (ap script_asked word);
        })
