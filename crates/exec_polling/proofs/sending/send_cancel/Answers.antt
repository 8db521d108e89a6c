use Rattle.std.proofs.Common.{sym, ◌∙◌}
use Rattle.exec_polling.proofs.sending.send_cancel.Goals as goal

pub returns : goal.returns
returns g c =
    record {
      sends = record {
        letter = c.in-Some.letter;
        first = sym c.next.ensures.first ∙ c.in-Some.is;
        left = c.next.new.self;
        later = c.next.ensures.left;
        sends = c.send.ensures.sends;
      };
    }
