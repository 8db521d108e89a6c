use Rattle.std.proofs.{Common.{ap, sym, ◌∙◌, arith}, lemmas.Grind.elements}
use Rattle.exec_words.specs.Word.{is_idle_at}
use Rattle.exec_moves.specs.{declared.idling.{InWordWait.InWordWait}, declared.place.{Place.Place}}
use Rattle.exec_parts.specs.{declared.parts.worker.Worker.Worker, Tests.slept_after}
use Rattle.exec_serving.proofs.{Slumber.{word_slept, word_unslept}, Waiting.word_read}
use Rattle.exec_serving.proofs.word_wait.sleep_on_word.Goals as goal

pub returns-then-not-still_idle : goal.returns-then-not-still_idle
returns-then-not-still_idle g c =
    let w = c.args.worker.now in
    let read = word_read (Place.WordWait InWordWait.SleepOnWord) w c.args.shared.now c.index.result.now c.requires.sound c.index.ensures in
    record { steps = word_unslept g.B.Body.left g.B.Scripted.spot w c.args.shared.now c.requires.sound (ap (λ x. is_idle_at x w.processed) (sym read) ∙ sym c.still_idle.ensures ∙ c.if-not-still_idle.true) }

pub returns : goal.returns
returns g c =
    let w = c.args.worker.now in
    let e = c.sleep-event.result in
    let read = word_read (Place.WordWait InWordWait.SleepOnWord) w c.args.shared.now c.index.result.now c.requires.sound c.index.ensures in
    record {
      steps = word_slept g.B.Body.left g.B.Scripted.spot w c.note_sleep.new.worker c.args.shared.now c.sleep-event.new.shared e c.requires.sound
          (ap (λ x. is_idle_at x w.processed) (sym read) ∙ sym c.still_idle.ensures ∙ c.if-not-still_idle.false) c.sleep-event.ensures.sleeps
          (c.note_sleep.ensures ∙ ap (λ (v : Worker). record v { slept = slept_after e c.sleep-event.new.shared.clock v.slept }) c.sleep-event.ensures.same);
    }

pub index-requires : goal.index-requires
index-requires g c = grind (arith, elements)

pub sleep-event-requires-clause-there : goal.sleep-event-requires-clause-there
sleep-event-requires-clause-there g c = grind (arith, elements)
