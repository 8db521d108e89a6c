use Rattle.exec_text.proofs.Meanings.{meaning_is_one}
use Rattle.exec_text.proofs.read.one_meaning.Goals as goal

pub returns : goal.returns
returns c = meaning_is_one
