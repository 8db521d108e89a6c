use Rattle.std.{proofs.Common.{refl, ap, subst, slice_set}, specs.Vec.with_item}
use Rattle.exec_machine.specs.declared.state.MailMessage.TheVariants.{ForwardTimer}
use Rattle.exec_moves.specs.declared.handing.AfterSend.{AfterSend}
use Rattle.exec_parts.{specs.{Pooled.Sends, declared.parts.sleeping.SleeperRecord.SleeperRecord}, proofs.MailLets.found_at}
use Rattle.exec_polling.proofs.sending.ask_end.Goals as goal

pub returns : goal.returns
returns g c =
    let w = c.args.worker.now in
    let s = c.args.shared.now in
    let z = c.args.timer in
    let it = c.index_mut-record.result.now in
    let worker = ap (λ (x : SleeperRecord). x.shown.worker) c.forward.ensures in
    record {
      asks = record {
        it = it;
        sleeper = found_at s.sleepers.items z it c.requires.may.known c.index_mut-record.ensures.value;
        middle = record s { sleepers = with_item s.sleepers z c.forward.new.self };
        kept = refl;
        sleepers = ap (slice_set s.sleepers.items z) c.forward.ensures;
        sends = subst (λ j. Sends {B = g.row.B.Denot} j (ForwardTimer z) (AfterSend.Pend c.args.task) w c.send.new.self (record s { sleepers = with_item s.sleepers z c.forward.new.self }) c.send.new.shared c.send.result) worker c.send.ensures.sends;
      };
    }
