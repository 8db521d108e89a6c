use Rattle.std.{proofs.{Common.{◌≡◌, Bool, true, false, [], ℕ, length, refl, sym, ap, ◌∙◌, if◌then◌else◌}, lemmas.Option.get_or_from_slice_get}, specs.Vec.{vec_capacity, with_item}}
use Rattle.exec_ring.specs.{Kernels.{answer_of_enter, entered as entered_ring, entered_with}, Rings.RingState, declared.ring.Entered.TheVariants.{Busy as BusyRing, Taken}}
use Rattle.exec_driver.specs.{Driving.{Driving, seen}, Steps.{entered, with_landings}}
use Rattle.exec_machine.specs.declared.event.Event.{TheVariants.{Busy, Enter}}
use Rattle.exec_parts.specs.{declared.parts.{mail.Reply.Reply, names.Names.Names, worker.Worker.Worker}, Serving.flown_in, View.driver_of}
use Rattle.exec_invariants.proofs.Leaves.{takes_by}
use Rattle.exec_serving.proofs.service.enter.Goals as goal

-- the driver, where nothing lands within its enter
driver_then : (d d' : Driving Reply Reply) → d.landings ≡ [] → d' ≡ with_landings d' (entered d) → d' ≡ record d { ring = entered_ring d.ring; landings = d'.landings }
driver_then d d' nothing is = is ∙ ap (λ l. record d { ring = entered_with l d.ring; landings = d'.landings }) nothing

was_busy : (r : RingState) → BusyRing ≡ answer_of_enter r → r.busy ≡ true
was_busy r h = by r.busy refl
  where
    by : (b : Bool) → r.busy ≡ b → r.busy ≡ true
    by true is = is
    by false is = absurd (let no : BusyRing ≡ Taken (length r.staged) = h ∙ ap (λ b. if b then BusyRing else Taken (length r.staged)) is in cc)

was_free : (r : RingState) (n : ℕ) → Taken n ≡ answer_of_enter r → r.busy ≡ false
was_free r n h = by r.busy refl
  where
    by : (b : Bool) → r.busy ≡ b → r.busy ≡ false
    by true is = absurd (let no : Taken n ≡ BusyRing = h ∙ ap (λ b. if b then BusyRing else Taken (length r.staged)) is in cc)
    by false is = is

pub returns-in-Busy : goal.returns-in-Busy
returns-in-Busy g c =
    let w : Worker = c.args.worker.now in
    let s = c.args.shared.now in
    let w1 : Worker = c.take_raises.new.self in
    let s1 = record s { seats = with_item s.seats w.index c.take_raises.new.seat } in
    let busy : (driver_of w1).ring.busy ≡ true = was_busy (driver_of w1).ring (sym c.in-Busy.is ∙ c.enter.ensures.answer) in
    record {
      enters = record {
        mid = w1;
        rested = s1;
        takes = takes_by w w1 s s1 c.index_mut.result.now c.take_raises.new.seat (λ chair there. c.index_mut.ensures.value ∙ get_or_from_slice_get s.seats.items w.index chair c.index_mut.result.now there) c.take_raises.ensures.driver c.take_raises.ensures.seat c.take_raises.ensures.same refl refl;
        enters = record {
          event = sym (ap (λ b. if b then Busy else Enter) busy);
          driver = driver_then (driver_of w1) (seen c.enter.new.self) c.lands_nothing.ensures c.enter.ensures.entered;
          staged = sym (ap (λ b. if b then w1.names.staged.items else []) busy);
          untold = sym (ap (λ b. if b then w1.names.untold.items else []) busy);
          staged_room = refl;
          untold_room = refl;
          records = sym (ap (λ b. if b then s.requests.items else flown_in w1.names.staged.items s.requests.items) busy);
          worker = refl;
          shared = refl;
        };
      };
    }

pub returns-in-Taken : goal.returns-in-Taken
returns-in-Taken g c =
    let w : Worker = c.args.worker.now in
    let s = c.args.shared.now in
    let w1 : Worker = c.take_raises.new.self in
    let s1 = record s { seats = with_item s.seats w.index c.take_raises.new.seat } in
    let free : (driver_of w1).ring.busy ≡ false = was_free (driver_of w1).ring _ (sym c.in-Taken.is ∙ c.enter.ensures.answer) in
    let told : Names = c.tell_cancels.new.self in
    let flew : Names = c.fly_staged.new.names in
    let untold : flew.untold ≡ told.untold = ap (λ (n : Names). n.untold) c.fly_staged.ensures.names in
    let staged : told.staged ≡ w1.names.staged = ap (λ (n : Names). n.staged) c.tell_cancels.ensures.same in
    let names : flew ≡ record w1.names { staged = flew.staged; untold = flew.untold } =
    c.fly_staged.ensures.names ∙ ap (λ (n : Names). record n { staged = flew.staged }) c.tell_cancels.ensures.same ∙ ap (λ u. record w1.names { staged = flew.staged; untold = u }) (sym untold) in
    record {
      enters = record {
        mid = w1;
        rested = s1;
        takes = takes_by w w1 s s1 c.index_mut.result.now c.take_raises.new.seat (λ chair there. c.index_mut.ensures.value ∙ get_or_from_slice_get s.seats.items w.index chair c.index_mut.result.now there) c.take_raises.ensures.driver c.take_raises.ensures.seat c.take_raises.ensures.same refl refl;
        enters = record {
          event = sym (ap (λ b. if b then Busy else Enter) free);
          driver = driver_then (driver_of w1) (seen c.enter.new.self) c.lands_nothing.ensures c.enter.ensures.entered;
          staged = c.fly_staged.ensures.staged ∙ sym (ap (λ b. if b then w1.names.staged.items else []) free);
          untold = ap (λ u. u.items) untold ∙ c.tell_cancels.ensures.untold ∙ sym (ap (λ b. if b then w1.names.untold.items else []) free);
          staged_room = c.fly_staged.ensures.capacity ∙ ap vec_capacity staged;
          untold_room = ap vec_capacity untold ∙ c.tell_cancels.ensures.capacity;
          records = c.fly_staged.ensures.flown ∙ ap (λ (n : Names). flown_in n.staged.items s.requests.items) c.tell_cancels.ensures.same ∙ sym (ap (λ b. if b then s.requests.items else flown_in w1.names.staged.items s.requests.items) free);
          worker = ap (λ n. record w1 { home = record w1.home { driver = c.enter.new.self }; names = n }) names;
          shared = refl;
        };
      };
    }
