use Rattle.std.{proofs.{Common.{◌≡◌, ◌^◌, ◌<◌, length, arith, Some, refl, sym, ap, subst, ◌∙◌, slice_get, slice_set}, lemmas.{Bool.Decides.nat_tests, Option.slice_get-get_or}}, specs.Vec.vec_capacity}
use Rattle.exec_parts.{specs.{Records.{HasMailRoom, HasRequestRoom, MakesMail, SameNames}, declared.parts.{seat.Seat.Seat as Chair, worker.Worker.Worker}}, proofs.Facts.{same_Some, set_there}}
use Rattle.exec_polling.proofs.Growing.{mails_made, mails_same, okay_if, reserved_worker, rooms_kept, rooms_slot, same_names, untold_self}
use Rattle.exec_polling.proofs.registering.make_room.Goals as goal

pub returns-then-len-clause-kept : goal.returns-then-len-clause-kept
returns-then-len-clause-kept g c = rooms_kept c.requires.there refl (same_names c.args.worker.now.names) (untold_self c.args.worker.now.home.deferred) (mails_same c.requires.seat refl refl) refl refl refl

pub returns-in_err-reserve-clause-kept : goal.returns-in_err-reserve-clause-kept
returns-in_err-reserve-clause-kept g c = rooms_kept c.requires.there refl (same_names c.args.worker.now.names) (untold_self c.args.worker.now.home.deferred) (mails_same c.requires.seat refl refl) refl c.reserve.ensures.items refl

pub returns-in_err-reserve-2-clause-kept : goal.returns-in_err-reserve-2-clause-kept
returns-in_err-reserve-2-clause-kept g c =
    let s = c.args.shared.now in
    let o = c.index_mut.result.now in
    let there = slice_get-get_or s.tasks.items c.args.task o c.requires.there ∙ ap (λ y. Some y) (sym c.index_mut.ensures.value) in
    rooms_slot o c.reserve-2.new.self there c.reserve-2.ensures.same c.reserve-2.ensures.items refl refl (same_names c.args.worker.now.names) (untold_self c.args.worker.now.home.deferred) (mails_same c.requires.seat refl refl) refl c.reserve.ensures.items refl

pub returns-in_err-reserve_request-clause-kept : goal.returns-in_err-reserve_request-clause-kept
returns-in_err-reserve_request-clause-kept g c =
    let s = c.args.shared.now in
    let o = c.index_mut.result.now in
    let there = slice_get-get_or s.tasks.items c.args.task o c.requires.there ∙ ap (λ y. Some y) (sym c.index_mut.ensures.value) in
    rooms_slot o c.reserve-2.new.self there c.reserve-2.ensures.same c.reserve-2.ensures.items refl refl c.reserve_request.ensures.kept (untold_self c.args.worker.now.home.deferred) (mails_same c.requires.seat refl refl) refl c.reserve.ensures.items refl

pub returns-in_err-reserve_mail-clause-kept : goal.returns-in_err-reserve_mail-clause-kept
returns-in_err-reserve_mail-clause-kept g c =
    let w = c.args.worker.now in
    let s = c.args.shared.now in
    let o = c.index_mut.result.now in
    let there = slice_get-get_or s.tasks.items c.args.task o c.requires.there ∙ ap (λ y. Some y) (sym c.index_mut.ensures.value) in
    let chair = c.index_mut-2.result.now in
    let seated = slice_get-get_or s.seats.items w.index chair c.requires.seat ∙ ap (λ y. Some y) (sym c.index_mut-2.ensures.value) in
    rooms_slot o c.reserve-2.new.self there c.reserve-2.ensures.same c.reserve-2.ensures.items refl refl c.reserve_request.ensures.kept (untold_self w.home.deferred) (mails_made chair c.reserve_mail.new.self seated c.reserve_mail.ensures.kept refl) refl c.reserve.ensures.items refl

pub returns-clause-kept : goal.returns-clause-kept
returns-clause-kept g c =
    let w = c.args.worker.now in
    let s = c.args.shared.now in
    let o = c.index_mut.result.now in
    let there = slice_get-get_or s.tasks.items c.args.task o c.requires.there ∙ ap (λ y. Some y) (sym c.index_mut.ensures.value) in
    let chair = c.index_mut-2.result.now in
    let seated = slice_get-get_or s.seats.items w.index chair c.requires.seat ∙ ap (λ y. Some y) (sym c.index_mut-2.ensures.value) in
    let x : Worker = record w { names = c.reserve_request.new.self; batch = c.reserve_mail.new.batch } in
    let same = c.reserve_told.ensures.same in
    let batch = ap (λ (y : Worker). y.batch) same in
    rooms_slot o c.reserve-2.new.self there c.reserve-2.ensures.same c.reserve-2.ensures.items refl (reserved_worker w x c.reserve_told.new.worker c.reserve_request.new.self c.reserve_mail.new.batch refl same)
    (subst (λ (y : Worker). SameNames w.names y.names) (sym same) c.reserve_request.ensures.kept) c.reserve_told.ensures.untold
    (mails_made chair c.reserve_mail.new.self seated (subst (λ b. MakesMail chair c.reserve_mail.new.self w.batch b) (sym batch) c.reserve_mail.ensures.kept) refl) refl c.reserve.ensures.items refl

pub returns-clause-room : goal.returns-clause-room
returns-clause-room g c =
    let w = c.args.worker.now in
    let s = c.args.shared.now in
    let o = c.index_mut.result.now in
    let at_o = slice_get-get_or s.tasks.items c.args.task o c.requires.there ∙ ap (λ y. Some y) (sym c.index_mut.ensures.value) in
    let chair = c.index_mut-2.result.now in
    let seated = slice_get-get_or s.seats.items w.index chair c.requires.seat ∙ ap (λ y. Some y) (sym c.index_mut-2.ensures.value) in
    let same = c.reserve_told.ensures.same in
    let at : c.reserve_told.new.worker.index ≡ w.index = ap (λ (y : Worker). y.index) same in
    let batch : c.reserve_told.new.worker.batch ≡ c.reserve_mail.new.batch = ap (λ (y : Worker). y.batch) same in
    let made = c.reserve_mail.new.self in
    okay_if c.reserve_told.result c.reserve_told.ensures.room (λ told. record {
      records = let long = (c.reserve.new.self).ok.0 in omega (arith, c.in_ok-reserve.ensures.ok, long);
      few = let old : length s.requests.items < 2 ^ 32 = grind (arith, nat_tests, c.if-len.false, c.len.ensures, (s.requests).ok.0) in subst (λ xs. length xs < 2 ^ 32) (sym c.reserve.ensures.items) old;
      names = subst (λ (x : Worker). HasRequestRoom x.names) (sym same) c.in_ok-reserve_request.ensures.room;
      told = told;
      mail = λ found_chair found.
          let there = subst (λ i. slice_get (slice_set s.seats.items w.index made) i ≡ Some found_chair) at found in
          let is : made ≡ found_chair = same_Some made found_chair (sym (set_there s.seats.items w.index made chair seated) ∙ there) in
          subst (λ (x : Chair). HasMailRoom x c.reserve_told.new.worker.batch) is (subst (λ b. HasMailRoom made b) (sym batch) c.in_ok-reserve_mail.ensures.room);
      held = λ slot found. let is : c.reserve-2.new.self ≡ slot = cc (found, set_there s.tasks.items c.args.task c.reserve-2.new.self o at_o) in subst (λ x. length x.held.items < vec_capacity x.held) is c.in_ok-reserve-2.ensures.room;
    })
