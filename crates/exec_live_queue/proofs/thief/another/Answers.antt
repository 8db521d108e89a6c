use Rattle.exec_live_queue.proofs.{Words.arith, Thieves.splits}
use Rattle.exec_live_queue.proofs.thief.another.Goals as goal

pub split_seat-requires : goal.split_seat-requires
split_seat-requires g c = (c.requires.0, omega arith, splits c.args.words.now.key c.args.seat.now.id c.args.seat.now.me.0)
