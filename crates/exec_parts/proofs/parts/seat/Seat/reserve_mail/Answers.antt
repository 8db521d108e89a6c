use Rattle.std.proofs.Common.{◌≡◌, ℕ, Result, OnOk, OnErr, max, refl, arith}
use Rattle.exec_words.specs.{Reserved.Reserved, declared.{inbox.Message.Message}}
use Rattle.exec_parts.specs.{Records.MakesMail, declared.parts.{mail.Subject.Subject, seat.Seat.Seat}}
use Rattle.exec_parts.proofs.parts.seat.Seat.reserve_mail.Goals as goal

made_mail : (A E : Type 0) (seat seat' : Seat) (n : ℕ) (batch batch' : Reserved (Message Subject Subject)) (r : Result A E)
    → seat' ≡ record seat { mailbox = seat'.mailbox } → seat'.mailbox.inbox ≡ record seat.mailbox.inbox { places = max seat.mailbox.inbox.places n } → seat'.mailbox.waker ≡ seat.mailbox.waker
    → OnOk r (batch' ≡ record batch { places = max batch.places n }) → OnErr r (batch' ≡ batch) → MakesMail seat seat' batch batch'
made_mail A E seat seat' n batch batch' r kept inbox waker ok err =
    record { places = max seat.mailbox.inbox.places n; same = grind arith; more = omega arith; values = grind arith; batch_more = grind arith }

pub returns-clause-kept : goal.returns-clause-kept
returns-clause-kept c =
    made_mail _ _ c.args.self.now (record c.args.self.now { mailbox = c.reserve.new.self }) c.in_ok-all.all c.args.batch.now c.reserve-2.new.self c.reserve-2.result refl c.in_ok-reserve.ensures.places c.reserve.ensures.waker c.reserve-2.ensures.places c.reserve-2.ensures.kept
