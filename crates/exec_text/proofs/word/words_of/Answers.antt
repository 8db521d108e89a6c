use Rattle.std.proofs.{Common.{◌∷◌, [], ◌++◌, refl, sym, ◌∙◌, arith}, lemmas.List.append-nil}
use Rattle.exec_text.proofs.{Fields.{told_some, told_none}, Words.{words_past, words_more, no_words, not_named, push_right, none_right}}
use Rattle.exec_text.proofs.word.words_of.Goals as goal

pub loop-rest-init : goal.loop-rest-init
loop-rest-init c = record { so_far = ([], refl, none_right c.args.config.now c.args.scripts, c.requires.none); tails = λ h. h }

pub returns-in_err-word-clause-none : goal.returns-in_err-word-clause-none
returns-in_err-word-clause-none c =
    rw c.from_residual.ensures (λ words fit e. no_words c.args.config.now c.args.scripts c.loop-rest.rest.now (told_some c.loop-rest.rest.now c.is_empty.result c.is_empty.ensures c.loop-rest-test.true) c.in_err-word.ensures.none
    (c.loop-rest.invariant.tails (words, fit, e)))

pub returns-then-not-names_within-clause-none : goal.returns-then-not-names_within-clause-none
returns-then-not-names_within-clause-none c = λ words fit e.
    let w = c.in_ok-word in
    not_named c.args.config.now c.args.scripts c.loop-rest.rest.now w.after.now w.word c.requires.fits w.ensures.found (sym c.names_within.ensures ∙ c.if-not-names_within.true) (c.loop-rest.invariant.tails (words, fit, e))

pub loop-rest-preserved : goal.loop-rest-preserved
loop-rest-preserved c =
    let i = c.loop-rest.invariant in
    let s = i.so_far in
    let w = c.in_ok-word in
    record {
      so_far = (
        s.0 ++ w.word ∷ [],
        words_more c.args.config.now c.args.bytes.now c.loop-rest.rest.now w.after.now s.0 w.word s.1 w.ensures.found,
        push_right c.args.config.now c.args.scripts s.0 w.word s.2 w.ensures.found.fits (sym c.names_within.ensures ∙ c.if-not-names_within.false),
        c.with-words.ensures s.0 s.3,
      );
      tails = λ h. words_past c.args.config.now c.args.scripts c.loop-rest.rest.now w.after.now w.word c.requires.fits w.ensures.found (i.tails h);
    }

pub returns-clause-found : goal.returns-clause-found
returns-clause-found c = grind (arith, told_none, append-nil)
