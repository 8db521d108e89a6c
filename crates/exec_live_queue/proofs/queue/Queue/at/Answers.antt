use Rattle.exec_live_queue.proofs.{Words.{ℕ, refl, ap, replicate, None, words_of}, Opened.opens}
use Rattle.exec_live_queue.proofs.queue.Queue.at.Goals as goal

pub vacant-requires : goal.vacant-requires
vacant-requires g c = opens c.args.start 256 (words_of c.head_of.result c.args.start) (replicate 256 None) c.requires refl refl (ap (λ (n : ℕ). words_of n c.args.start) c.head_of.ensures)
