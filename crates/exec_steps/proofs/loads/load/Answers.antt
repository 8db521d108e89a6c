use Rattle.std.proofs.{Common.arith, lemmas.Grind.elements}
use Rattle.exec_steps.proofs.Loading.{own_head_loaded, own_mirror_loaded, own_word_loaded}
use Rattle.exec_steps.proofs.loads.load.Goals as goal

pub returns-in-LoadOwnHead : goal.returns-in-LoadOwnHead
returns-in-LoadOwnHead g c = record { steps = own_head_loaded _ _ _ _ _ _ c.args.round (rw c.in-LoadOwnHead.is at c.requires.sound) c.load_own_head.ensures.makes c.load_own_head.ensures.goes }

pub returns-in-LoadOwnMirror : goal.returns-in-LoadOwnMirror
returns-in-LoadOwnMirror g c = record { steps = own_mirror_loaded _ _ _ _ _ _ c.args.round c.in-LoadOwnMirror.found (rw c.in-LoadOwnMirror.is at c.requires.sound) c.load_own_mirror.ensures.makes c.load_own_mirror.ensures.goes }

pub returns-in-LoadOwnWord : goal.returns-in-LoadOwnWord
returns-in-LoadOwnWord g c = record { steps = own_word_loaded _ _ _ _ _ _ c.args.round c.in-LoadOwnWord.found (rw c.in-LoadOwnWord.is at c.requires.sound) c.load_own_word.ensures.makes c.load_own_word.ensures.goes }

pub load_own_head-requires : goal.load_own_head-requires
load_own_head-requires g c = grind (arith, elements)

pub load_own_word-requires-clause-there : goal.load_own_word-requires-clause-there
load_own_word-requires-clause-there g c = grind (arith, elements)
