use Rattle.std.proofs.{Common.{refl, sym, ◌∙◌, length, arith}, lemmas.Option.slice_get_read}
use Rattle.exec_polling.proofs.{CallMail.{home_within, root_woken}, CallWakes.ordinary_woken}
use Rattle.exec_parts.proofs.Mailboxes.{root_place}
use Rattle.exec_invariants.proofs.SparedRecord.{there_within}
use Rattle.exec_polling.proofs.caller.Caller.wake.Goals as goal

pub wake_root-requires : goal.wake_root-requires
wake_root-requires g c = grind (arith, slice_get_read, home_within, root_place)

pub returns-in-Some : goal.returns-in-Some
returns-in-Some g c =
    let s = c.args.shared.now in
    let slot = c.index.result.now in
    let there = slice_get_read s.tasks.items (length s.tasks.items) c.args.task slot refl c.requires.there c.index.ensures in
    let rooted = sym c.home.ensures ∙ c.in-Some.is in
    let chair = there_within s.seats.items c.in-Some.home (home_within c.args.self.now c.args.task c.in-Some.home s slot c.requires.sound there rooted) in
    let done = c.wake_root.ensures in
    record {
      wakes = root_woken g.B.Body.left g.B.Scripted.spot c.args.self.now c.args.task c.in-Some.home s c.wake_root.new.shared slot chair.0 c.requires.sound c.requires.free there rooted chair.1 done.kept c.wake_root.new.self c.wake_root.result
          (c.requires.mail c.in-Some.home chair.0 chair.1) (done.event chair.0 chair.1) (done.goes chair.0 chair.1) (done.chair chair.0 chair.1);
    }

pub returns-in-None : goal.returns-in-None
returns-in-None g c =
    let s = c.args.shared.now in
    let slot = c.index.result.now in
    let there = slice_get_read s.tasks.items (length s.tasks.items) c.args.task slot refl c.requires.there c.index.ensures in
    let done = c.wake_ordinary.ensures in
    record {
      wakes = ordinary_woken g.B.Body.left g.B.Scripted.spot c.args.self.now c.args.task s c.wake_ordinary.new.shared c.wake_ordinary.result slot c.requires.sound c.requires.free there (sym c.home.ensures ∙ c.in-None.is) done.event done.task c.wake_ordinary.new.self (done.goes slot there);
    }
