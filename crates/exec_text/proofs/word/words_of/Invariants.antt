use Rattle.std.proofs.Common.{◌≡◌, ◌++◌, List, length}
use Rattle.exec_machine.specs.declared.config.ScriptWord.{ScriptWord}
use Rattle.exec_text.{specs.{Grammar.text_of_words, Kept.Keeps, Reading.AllRight}, proofs.Words.HasWords}
use Rattle.exec_text.proofs.word.words_of.Given as goal

abbrev pub invariant-loop-rest : goal.invariant-loop-rest
invariant-loop-rest l = record {
  so_far : (words : List ScriptWord) × (l.fn.bytes ≡ text_of_words words ++ l.rest) × AllRight l.fn.config l.fn.scripts words × Keeps l.words words;
  tails : HasWords l.fn.config l.fn.scripts l.fn.bytes → HasWords l.fn.config l.fn.scripts l.rest;
}

abbrev pub decreases-loop-rest : goal.decreases-loop-rest
decreases-loop-rest l = length l.rest
