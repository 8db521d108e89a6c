use Rattle.std.proofs.{Common.{◌≡◌, true, false, sym, ◌∙◌, rules, inl, inr}, lemmas.Option.slice_get_within}
use Rattle.exec_parts.specs.{View.driver_of}
use Rattle.exec_serving.proofs.{Ceasing.{flush_entered, staging_ended}, Started.request_stages}
use Rattle.exec_invariants.proofs.Staging.{cancel_stages, cancels_named, first_may, first_there, has_places, has_room, queued_named}
use Rattle.exec_serving.proofs.submitting.stage_next.Goals as goal
use Rattle.exec_driver.proofs.Stepping.{none_first}

pub flush-requires : goal.flush-requires
flush-requires g c =
    let sound = c.requires.idle.sound in
    record { known = sound.named.submitted.known; there = slice_get_within c.args.shared.now.seats.items c.args.worker.now.index sound.seated.seat sound.seated.there }

pub returns-then-must_flush : goal.returns-then-must_flush
returns-then-must_flush g c =
    let is : c.must_flush.result ≡ true = search rules in
    let enters = c.flush.ensures.enters in
    record { steps = flush_entered g.B.Body.left g.B.Scripted.spot c.args.service c.args.worker.now c.flush.new.worker enters.0 c.args.shared.now c.flush.new.shared c.flush.result c.requires.idle (sym c.must_flush.ensures ∙ is) enters.1 enters.2 }

pub returns-then-has_cancels : goal.returns-then-has_cancels
returns-then-has_cancels g c =
    let unflushed : c.must_flush.result ≡ false = search rules in
    let is : c.has_cancels.result ≡ true = search rules in
    let first = first_there (driver_of c.args.worker.now).lists.cancels (sym c.has_cancels.ensures ∙ is) in
    record { steps = cancel_stages g.B.Body.left g.B.Scripted.spot c.args.service c.args.worker.now c.stage_cancel.new.worker c.args.shared.now c.stage_cancel.new.shared c.stage_cancel.result first.0 c.requires.idle first.1 (sym c.must_flush.ensures ∙ unflushed) (c.stage_cancel.ensures.punctual c.requires.idle.sound.due.punctual) c.stage_cancel.ensures.capacity (c.stage_cancel.ensures.stages first.0 first.1) }

pub returns-then-may_stage : goal.returns-then-may_stage
returns-then-may_stage g c =
    let unflushed : c.must_flush.result ≡ false = search rules in
    let none : c.has_cancels.result ≡ false = search rules in
    let is : c.may_stage.result ≡ true = search rules in
    let may = sym c.may_stage.ensures ∙ is in
    let first = first_may (driver_of c.args.worker.now) may in
    record { steps = request_stages g.B.Body.left g.B.Scripted.spot c.args.service c.args.worker.now c.stage.new.worker c.args.shared.now c.stage.new.shared c.stage.result first.0 c.requires.idle first.1 (sym c.must_flush.ensures ∙ unflushed) (none_first (driver_of c.args.worker.now).lists.cancels (sym c.has_cancels.ensures ∙ none)) may (c.stage.ensures.punctual c.requires.idle.sound.due.punctual) c.stage.ensures.capacity (c.stage.ensures.stages first.0 first.1) }

pub returns : goal.returns
returns g c =
    let unflushed : c.must_flush.result ≡ false = search rules in
    let none : c.has_cancels.result ≡ false = search rules in
    let few : c.may_stage.result ≡ false = search rules in
    let ends = c.stage_poll.ensures.ends in
    record { steps = staging_ended g.B.Body.left g.B.Scripted.spot c.args.service c.args.worker.now c.stage_poll.new.worker ends.0 c.args.shared.now c.stage_poll.result c.requires.idle (sym c.must_flush.ensures ∙ unflushed) (none_first (driver_of c.args.worker.now).lists.cancels (sym c.has_cancels.ensures ∙ none)) (sym c.may_stage.ensures ∙ few) c.stage_poll.ensures.event ends.1 ends.2 }

pub stage_cancel-requires : goal.stage_cancel-requires
stage_cancel-requires g c =
    let unflushed : c.must_flush.result ≡ false = search rules in
    let is : c.has_cancels.result ≡ true = search rules in
    let no = sym c.must_flush.ensures ∙ unflushed in
    let some = sym c.has_cancels.ensures ∙ is in
    let place = (has_places c.args.service c.args.worker.now c.args.shared.now c.requires.idle no (inl some)).1 in
    search (some, has_room c.args.service c.args.worker.now c.args.shared.now c.requires.idle no (inl some), cancels_named c.args.service c.args.worker.now c.args.shared.now c.requires.idle no, place)

pub stage-requires : goal.stage-requires
stage-requires g c =
    let unflushed : c.must_flush.result ≡ false = search rules in
    let is : c.may_stage.result ≡ true = search rules in
    let no = sym c.must_flush.ensures ∙ unflushed in
    let some = sym c.may_stage.ensures ∙ is in
    let place = (has_places c.args.service c.args.worker.now c.args.shared.now c.requires.idle no (inr some)).0 in
    search (some, has_room c.args.service c.args.worker.now c.args.shared.now c.requires.idle no (inr some), queued_named c.args.service c.args.worker.now c.args.shared.now c.requires.idle no, place)
