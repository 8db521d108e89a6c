use Rattle.std.proofs.Common.{sym, ◌∙◌}
use Rattle.exec_parts.{specs.View.message_of, proofs.MailLets.take_so}
use Rattle.exec_messages.proofs.mail.apply.Goals as goal

pub take_effect-message-requires : goal.take_effect-message-requires
take_effect-message-requires g c = record { may = take_so (message_of c.in-Some.mail) c.args.worker.now c.pop.new.self c.args.shared.now (c.requires.may c.in-Some.mail (sym c.pop.ensures.value ∙ c.in-Some.is)) }
