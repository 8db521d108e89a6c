-- What the steps of the clock and of peers keep: they change how workers rest, and nothing else that a worker rests on.
use Rattle.std.proofs.{Common.{◌≡◌, ℕ, zero, suc, ◌*◌, ◌<◌, ◌≤◌, ◌^◌, false, List, [], ◌∷◌, ◌+◌, length, map, get_or, Option, None, Some, refl, sym, ap, subst, ◌∙◌, arith, slice_get, slice_set, option_map, IfSome}, lemmas.{List.{length-map, length-set}, Option.{slice_get-map, slice_get-get_or, slice_get_within}}}
use Rattle.exec_base.specs.declared.limits.TheConstants.{LAST_MOMENT}
use Rattle.exec_machine.specs.declared.{config.Configuration.Configuration, state.Rest.Rest}
use Rattle.exec_moves.specs.declared.place.Place.{Place}
use Rattle.exec_parts.{specs.{declared.parts.{seat.Seat.Seat as Chair, shared.Shared.Shared, worker.Worker.Worker}, Phased.{IsPhased, TurnsChair, stage_of, closes_at, closing_in}, Records.{rest_at, reached, roused}}, proofs.Facts.same_Some}
use Rattle.exec_invariants.{proofs.{Showing.map_kept, Dedicated.as_long, Aside.{queue_of_chair, queues_set, whole_same}, PoolKept.KeepsGates, SparedRecord.there_within}, specs.{Holding.box_of, Places.is_armed_at, Sound.{Aims, AreHome, HasQueue, IsInTime, IsSeated, Sound, SoundAt}, Whole.{IsWhole, Profile}}}

abbrev pub rested : Rest → Chair → Chair
rested x chair = record chair { rest = x }

-- each chair is as it was, but for how its worker rests
pub record AreRested (seats seats' : List Chair) : Type 0 where
  pub many : length seats' ≡ length seats
  pub each : (k : ℕ) (chair : Chair) → slice_get seats k ≡ Some chair → (x : Rest) × (slice_get seats' k ≡ Some (rested x chair))

pub none_rested : (seats : List Chair) → AreRested seats seats
none_rested seats = record { many = refl; each = λ k chair there. (chair.rest, there) }

all_rested : (clock : ℕ) (seats seats' : List Chair) → seats' ≡ map (reached clock) seats → AreRested seats seats'
all_rested clock seats seats' is =
    record {
      many = ap length is ∙ length-map seats (reached clock);
      each = λ k chair there. (rest_at clock chair.rest, ap (λ xs. slice_get xs k) is ∙ slice_get-map (reached clock) seats k ∙ ap (option_map (reached clock)) there);
    }

set_rested : (x : Rest) (seats : List Chair) (i k : ℕ) (c chair : Chair) → slice_get seats i ≡ Some c → slice_get seats k ≡ Some chair → (y : Rest) × (slice_get (slice_set seats i (rested x c)) k ≡ Some (rested y chair))
set_rested x [] i k c chair there found = absurd (cc)
set_rested x (seat ∷ seats) zero zero c chair there found =
    let same : c ≡ chair = cc in
    (x, ap (λ z. Some (rested x z)) same)
set_rested x (seat ∷ seats) zero (suc k) c chair there found = (chair.rest, found)
set_rested x (seat ∷ seats) (suc i) zero c chair there found = (chair.rest, found)
set_rested x (seat ∷ seats) (suc i) (suc k) c chair there found = set_rested x seats i k c chair there found

one_rested : (x : Rest) (i : ℕ) (seats seats' : List Chair) (c : Chair) → slice_get seats i ≡ Some c → seats' ≡ slice_set seats i (rested x c) → AreRested seats seats'
one_rested x i seats seats' c there is =
    record {
      many = ap length is ∙ length-set seats i (rested x c);
      each = λ k chair found.
          let it = set_rested x seats i k c chair there found in
          (it.0, ap (λ xs. slice_get xs k) is ∙ it.1);
    }

-- what stood there before it
rested_of : (seats seats' : List Chair) (k : ℕ) (chair : Chair) → AreRested seats seats' → slice_get seats' k ≡ Some chair → (before : Chair) × (slice_get seats k ≡ Some before) × (x : Rest) × (chair ≡ rested x before)
rested_of seats seats' k chair rests found =
    let before = get_or seats k chair in
    let there = slice_get-get_or seats k chair (subst (λ n. k < n) rests.many (slice_get_within seats' k chair found)) in
    let now = rests.each k before there in
    (before, there, now.0, same_Some chair (rested now.0 before) (sym found ∙ now.1))

-- who claims half of another's queue looks at its queue
aims_rested : (p : Place) (c : Configuration) (i : ℕ) (seats seats' : List Chair) → AreRested seats seats' → Aims p c i seats → Aims p c i seats'
aims_rested = grind (arith, rested_of)

-- no gate of a seat changes, nor a queue
gates_rested : (seats seats' : List Chair) → AreRested seats seats' → KeepsGates seats seats'
gates_rested = grind (arith, rested_of)

queues_reached : (clock : ℕ) (seats : List Chair) → map queue_of_chair (map (reached clock) seats) ≡ map queue_of_chair seats
queues_reached clock [] = refl
queues_reached clock (chair ∷ chairs) = ap (λ qs. chair.queue ∷ qs) (queues_reached clock chairs)

boxes_reached : (clock : ℕ) (seats : List Chair) → map box_of (map (reached clock) seats) ≡ map box_of seats
boxes_reached clock [] = refl
boxes_reached clock (chair ∷ chairs) = ap (λ bs. box_of chair ∷ bs) (boxes_reached clock chairs)

module _ {B : Type 0} where
  rested_at : (q : Place) (w : Worker) (s t : Shared B) → SoundAt q w s → s.clock ≤ t.clock → t.clock ≤ 2 ^ 62 → AreRested s.seats.items t.seats.items
      → SoundAt q w (record s { clock = t.clock; seats = t.seats; listeners = t.listeners })
  rested_at q w s t sound later bounded rests =
      let seat = sound.seated.seat in
      let mine = rests.each w.index seat sound.seated.there in
      let is : (chair : Chair) → slice_get t.seats.items w.index ≡ Some chair → rested mine.0 seat ≡ chair = λ chair there. same_Some (rested mine.0 seat) chair (sym mine.1 ∙ there) in
      let slept : (o : Option ℕ) → IfSome o (λ moment. moment ≤ s.clock) → IfSome o (λ moment. moment ≤ t.clock) = λ o.
      elim o as (λ x. IfSome x (λ moment. moment ≤ s.clock) → IfSome x (λ moment. moment ≤ t.clock)) [ None ↦ λ h. h | Some moment ↦ λ h. omega (arith, h, later) ] in
      let time : IsInTime w.moments w.slept t.clock = grind (arith, slept w.slept sound.time.asleep, bounded, sound.time) in
      let seated : IsSeated w.index (is_armed_at q) s.config.workers t.seats.items = search (as_long rests.many sound.seated.many, mine.1, sound.seated) in
      let queue : (chair : Chair) → slice_get t.seats.items w.index ≡ Some chair → HasQueue q chair.queue = λ chair there. subst (λ c. HasQueue q c.queue) (is chair there) (sound.queue seat sound.seated.there) in
      let phased : (chair : Chair) → slice_get t.seats.items w.index ≡ Some chair → IsPhased w.index (closes_at q) (closing_in q) w.home.closing w.root w.names.unreleased (stage_of chair s) s.tasks.items = λ chair there.
      subst (λ c. IsPhased w.index (closes_at q) (closing_in q) w.home.closing w.root w.names.unreleased (stage_of c s) s.tasks.items) (is chair there) (sound.phased seat sound.seated.there) in
      let homes : AreHome s.config.workers (length t.seats.items) s.tasks.items = subst (λ n. AreHome s.config.workers n s.tasks.items) (sym rests.many) sound.homes in
      let batch_place : (chair : Chair) → slice_get t.seats.items w.index ≡ Some chair → chair.mailbox.inbox.closed ≡ false → 2 * chair.made + 1 ≤ w.batch.places = λ chair there.
      subst (λ c. c.mailbox.inbox.closed ≡ false → 2 * c.made + 1 ≤ w.batch.places) (is chair there) (sound.batch_place seat sound.seated.there) in
      assumption (time, seated, queue, aims_rested q s.config w.index s.seats.items t.seats.items rests sound.aims, phased, homes, batch_place, sound)

  pub clock_kept : (w : Worker) (s s' : Shared B) (by : ℕ) → s.clock + by ≤ LAST_MOMENT → s'.seats.items ≡ map (reached (s.clock + by)) s.seats.items
      → s' ≡ record s { clock = s.clock + by; seats = s'.seats } → Sound w s → Sound w s'
  clock_kept w s s' by shown seats kept sound =
      subst (λ x. Sound w x) (sym kept) (rested_at w.place w s (record s { clock = s.clock + by; seats = s'.seats }) sound (omega arith) (omega (arith, shown)) (all_rested (s.clock + by) s.seats.items s'.seats.items seats))

  pub stir_kept : (w : Worker) (s s' : Shared B) (i : ℕ) → i < length s.seats.items → TurnsChair i roused s s' → s' ≡ record s { seats = s'.seats } → Sound w s → Sound w s'
  stir_kept w s s' i within turns kept sound =
      subst (λ x. Sound w x) (sym kept) (rested_at w.place w s (record s { seats = s'.seats }) sound (omega arith) sound.time.bounded
      (let c = get_or s.seats.items i sound.seated.seat in
      let there = slice_get-get_or s.seats.items i sound.seated.seat within in
      one_rested Rest.Awake i s.seats.items s'.seats.items c there (turns c there)))

  pub peer_kept : (w : Worker) (s s' : Shared B) → s' ≡ record s { listeners = s'.listeners } → Sound w s → Sound w s'
  peer_kept w s s' kept sound =
      subst (λ x. Sound w x) (sym kept) (rested_at w.place w s (record s { listeners = s'.listeners }) sound (omega arith) sound.time.bounded (none_rested s.seats.items))

  -- WHAT HOLDS OF ALL TOGETHER stays so

  -- where but seats change nothing that it speaks of does
  whole_kept : (x : Profile) (s s' : Shared B) → IsWhole x (record s { seats = s'.seats }) → s' ≡ record s { clock = s'.clock; seats = s'.seats; listeners = s'.listeners } → IsWhole x s'
  whole_kept x s s' whole kept =
      subst (IsWhole x) (sym kept) (assumption whole)

  pub clock_whole : (x : Profile) (s s' : Shared B) (by : ℕ) → s'.seats.items ≡ map (reached (s.clock + by)) s.seats.items → s' ≡ record s { clock = s.clock + by; seats = s'.seats } → IsWhole x s → IsWhole x s'
  clock_whole x s s' by seats kept whole =
      let s1 : Shared B = record s { seats = s'.seats } in
      whole_kept x s s'
      (whole_same x s s1 refl (gates_rested s.seats.items s'.seats.items (all_rested (s.clock + by) s.seats.items s'.seats.items seats)) (ap (map queue_of_chair) seats ∙ queues_reached (s.clock + by) s.seats.items) (ap (map box_of) seats ∙ boxes_reached (s.clock + by) s.seats.items) refl refl whole)
      (kept ∙ ap (λ (z : Shared B). record s { clock = z.clock; seats = s'.seats; listeners = z.listeners }) (sym kept))

  pub stir_whole : (x : Profile) (s s' : Shared B) (i : ℕ) → i < length s.seats.items → TurnsChair i roused s s' → s' ≡ record s { seats = s'.seats } → IsWhole x s → IsWhole x s'
  stir_whole x s s' i within turns kept whole =
      let s1 : Shared B = record s { seats = s'.seats } in
      let it = there_within s.seats.items i within in
      let seats : s'.seats.items ≡ slice_set s.seats.items i (rested Rest.Awake it.0) = turns it.0 it.1 in
      whole_kept x s s'
      (whole_same x s s1 refl (gates_rested s.seats.items s'.seats.items (one_rested Rest.Awake i s.seats.items s'.seats.items it.0 it.1 seats))
      (ap (map queue_of_chair) seats ∙ queues_set s.seats.items i it.0 (rested Rest.Awake it.0) it.1 refl) (ap (map box_of) seats ∙ map_kept box_of s.seats.items i (rested Rest.Awake it.0) it.0 it.1 refl) refl refl whole)
      (kept ∙ ap (λ (z : Shared B). record s { clock = z.clock; seats = s'.seats; listeners = z.listeners }) (sym kept))

  pub peer_whole : (x : Profile) (s s' : Shared B) → s' ≡ record s { listeners = s'.listeners } → IsWhole x s → IsWhole x s'
  peer_whole x s s' kept whole =
      subst (λ t. IsWhole x t) (sym kept) (assumption whole)
