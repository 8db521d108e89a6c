use Rattle.std.proofs.{Common.arith, lemmas.Grind.elements}
use Rattle.exec_messages.proofs.{MailApplied.message_applied, MailMay.may_take}
use Rattle.exec_invariants.proofs.Mailing.{word_loaded, mail_taken}
use Rattle.exec_messages.proofs.mail.mail.Goals as goal

pub returns-in-LoadMailWord : goal.returns-in-LoadMailWord
returns-in-LoadMailWord g c = record { steps = word_loaded _ _ _ _ _ _ (rw c.in-LoadMailWord.is at c.requires.sound) c.load_mail_word.ensures.makes c.load_mail_word.ensures.goes }

pub returns-in-TakeMail : goal.returns-in-TakeMail
returns-in-TakeMail g c =
    record { steps = mail_taken g.B.Body.left g.B.Scripted.spot c.args.worker.now c.take_mail.new.worker c.args.shared.now c.take_mail.new.shared c.take_mail.result (rw c.in-TakeMail.is at c.requires.sound) c.requires.whole c.take_mail.ensures.makes c.take_mail.ensures.same c.take_mail.ensures.batch c.take_mail.ensures.chair c.take_mail.ensures.kept }

pub returns-in-Apply : goal.returns-in-Apply
returns-in-Apply g c = record { steps = message_applied _ _ c.in-Apply.applied c.in-Apply.taken _ _ _ _ _ (rw c.in-Apply.is at c.requires.sound) c.requires.whole c.apply.ensures.applies }

pub apply-requires-clause-few : goal.apply-requires-clause-few
apply-requires-clause-few g c = (rw c.in-Apply.is at c.requires.sound).aims

pub apply-requires-clause-may : goal.apply-requires-clause-may
apply-requires-clause-may g c = may_take c.in-Apply.applied c.in-Apply.taken c.args.worker.now c.args.shared.now (rw c.in-Apply.is at c.requires.sound) c.requires.whole

pub load_mail_word-requires-clause-there : goal.load_mail_word-requires-clause-there
load_mail_word-requires-clause-there g c = grind (arith, elements)

pub take_mail-requires-clause-there : goal.take_mail-requires-clause-there
take_mail-requires-clause-there g c = grind (arith, elements)
