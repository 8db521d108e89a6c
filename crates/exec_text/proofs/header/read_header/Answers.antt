use Rattle.std.proofs.{Common.{◌≡◌, [], ◌∷◌, ap, ◌∙◌, refl, arith}, lemmas.Result.err_from_is_err_and}
use Rattle.exec_text.{specs.Reading.{said_before, header}, proofs.{Said.said_first, Headers.{spin_fits, pushed}, Faults.header_stuck}}
use Rattle.exec_text.proofs.header.read_header.Goals as goal

pub returns-in_err-read_value-clause-fault : goal.returns-in_err-read_value-clause-fault
unfolding header
returns-in_err-read_value-clause-fault c =
    let t = c.args.lines.now.text.now in
    let s0 : said_before t c.args.lines.now.number ≡ [] = ap (said_before t) c.requires ∙ said_first t in
    let p = err_from_is_err_and c.from_residual.result c.from_residual.ensures.1 in
    rw (p.1, p.2) (header_stuck _ _ _ 0 [] _ _ refl tt (omega arith) s0 (λ l w d f. w d.workers f.workers) c.in_err-read_value.ensures.fault)

pub returns-in_err-read_value-2-clause-fault : goal.returns-in_err-read_value-2-clause-fault
unfolding header
returns-in_err-read_value-2-clause-fault c =
    let t = c.args.lines.now.text.now in
    let s0 : said_before t c.args.lines.now.number ≡ [] = ap (said_before t) c.requires ∙ said_first t in
    let s1 = pushed _ _ _ _ c.in_ok-read_value.ensures.ok s0 in
    let p = err_from_is_err_and c.from_residual-in_err-read_value-2.result c.from_residual-in_err-read_value-2.ensures.1 in
    rw (p.1, p.2) (header_stuck _ _ _ 1 (c.in_ok-read_value.field-0 ∷ []) _ _ c.in_ok-read_value.ensures.text (omega arith, tt) (omega arith) s1 (λ l w d f. w d.interval f.interval) c.in_err-read_value-2.ensures.fault)

pub returns-in_err-read_value-3-clause-fault : goal.returns-in_err-read_value-3-clause-fault
unfolding header
returns-in_err-read_value-3-clause-fault c =
    let t = c.args.lines.now.text.now in
    let s0 : said_before t c.args.lines.now.number ≡ [] = ap (said_before t) c.requires ∙ said_first t in
    let s1 = pushed _ _ _ _ c.in_ok-read_value.ensures.ok s0 in
    let s2 = pushed _ _ _ _ c.in_ok-read_value-2.ensures.ok s1 in
    let p = err_from_is_err_and c.from_residual-in_err-read_value-3.result c.from_residual-in_err-read_value-3.ensures.1 in
    rw (p.1, p.2) (header_stuck _ _ _ 2 (c.in_ok-read_value.field-0 ∷ c.in_ok-read_value-2.field-0 ∷ []) _ _ (c.in_ok-read_value-2.ensures.text ∙ c.in_ok-read_value.ensures.text) (omega arith, (omega arith, tt)) (omega arith) s2 (λ l w d f. w d.ring f.ring) c.in_err-read_value-3.ensures.fault)

pub returns-in_err-read_value-4-clause-fault : goal.returns-in_err-read_value-4-clause-fault
unfolding header
returns-in_err-read_value-4-clause-fault c =
    let t = c.args.lines.now.text.now in
    let s0 : said_before t c.args.lines.now.number ≡ [] = ap (said_before t) c.requires ∙ said_first t in
    let s1 = pushed _ _ _ _ c.in_ok-read_value.ensures.ok s0 in
    let s2 = pushed _ _ _ _ c.in_ok-read_value-2.ensures.ok s1 in
    let s3 = pushed _ _ _ _ c.in_ok-read_value-3.ensures.ok s2 in
    let p = err_from_is_err_and c.from_residual-in_err-read_value-4.result c.from_residual-in_err-read_value-4.ensures.1 in
    rw (p.1, p.2) (header_stuck _ _ _ 3 (c.in_ok-read_value.field-0 ∷ c.in_ok-read_value-2.field-0 ∷ c.in_ok-read_value-3.field-0 ∷ []) _ _ (c.in_ok-read_value-3.ensures.text ∙ c.in_ok-read_value-2.ensures.text ∙ c.in_ok-read_value.ensures.text) (omega arith, (omega arith, (omega arith, tt))) (omega arith) s3 (λ l w d f. w d.tick f.tick) c.in_err-read_value-4.ensures.fault)

pub returns-in_err-read_value-5-clause-fault : goal.returns-in_err-read_value-5-clause-fault
unfolding header
returns-in_err-read_value-5-clause-fault c =
    let t = c.args.lines.now.text.now in
    let s0 : said_before t c.args.lines.now.number ≡ [] = ap (said_before t) c.requires ∙ said_first t in
    let s1 = pushed _ _ _ _ c.in_ok-read_value.ensures.ok s0 in
    let s2 = pushed _ _ _ _ c.in_ok-read_value-2.ensures.ok s1 in
    let s3 = pushed _ _ _ _ c.in_ok-read_value-3.ensures.ok s2 in
    let s4 = pushed _ _ _ _ c.in_ok-read_value-4.ensures.ok s3 in
    let p = err_from_is_err_and c.from_residual-in_err-read_value-5.result c.from_residual-in_err-read_value-5.ensures.1 in
    rw (p.1, p.2) (header_stuck _ _ _ 4 (c.in_ok-read_value.field-0 ∷ c.in_ok-read_value-2.field-0 ∷ c.in_ok-read_value-3.field-0 ∷ c.in_ok-read_value-4.field-0 ∷ []) _ _ (c.in_ok-read_value-4.ensures.text ∙ c.in_ok-read_value-3.ensures.text ∙ c.in_ok-read_value-2.ensures.text ∙ c.in_ok-read_value.ensures.text) (omega arith, (omega arith, (omega arith, (omega arith, tt)))) (omega arith) s4 (λ l w d f. w d.connect f.connect) c.in_err-read_value-5.ensures.fault)

pub returns-in_err-read_value-6-clause-fault : goal.returns-in_err-read_value-6-clause-fault
unfolding header
returns-in_err-read_value-6-clause-fault c =
    let t = c.args.lines.now.text.now in
    let s0 : said_before t c.args.lines.now.number ≡ [] = ap (said_before t) c.requires ∙ said_first t in
    let s1 = pushed _ _ _ _ c.in_ok-read_value.ensures.ok s0 in
    let s2 = pushed _ _ _ _ c.in_ok-read_value-2.ensures.ok s1 in
    let s3 = pushed _ _ _ _ c.in_ok-read_value-3.ensures.ok s2 in
    let s4 = pushed _ _ _ _ c.in_ok-read_value-4.ensures.ok s3 in
    let s5 = pushed _ _ _ _ c.in_ok-read_value-5.ensures.ok s4 in
    let p = err_from_is_err_and c.from_residual-in_err-read_value-6.result c.from_residual-in_err-read_value-6.ensures.1 in
    rw (p.1, p.2) (header_stuck _ _ _ 5 (c.in_ok-read_value.field-0 ∷ c.in_ok-read_value-2.field-0 ∷ c.in_ok-read_value-3.field-0 ∷ c.in_ok-read_value-4.field-0 ∷ c.in_ok-read_value-5.field-0 ∷ []) _ _ (c.in_ok-read_value-5.ensures.text ∙ c.in_ok-read_value-4.ensures.text ∙ c.in_ok-read_value-3.ensures.text ∙ c.in_ok-read_value-2.ensures.text ∙ c.in_ok-read_value.ensures.text) (omega arith, (omega arith, (omega arith, (omega arith, (omega arith, tt))))) (omega arith) s5 (λ l w d f. w d.rw f.rw) c.in_err-read_value-6.ensures.fault)

pub returns-in_err-read_spin-clause-fault : goal.returns-in_err-read_spin-clause-fault
unfolding header
returns-in_err-read_spin-clause-fault c =
    let t = c.args.lines.now.text.now in
    let s0 : said_before t c.args.lines.now.number ≡ [] = ap (said_before t) c.requires ∙ said_first t in
    let s1 = pushed _ _ _ _ c.in_ok-read_value.ensures.ok s0 in
    let s2 = pushed _ _ _ _ c.in_ok-read_value-2.ensures.ok s1 in
    let s3 = pushed _ _ _ _ c.in_ok-read_value-3.ensures.ok s2 in
    let s4 = pushed _ _ _ _ c.in_ok-read_value-4.ensures.ok s3 in
    let s5 = pushed _ _ _ _ c.in_ok-read_value-5.ensures.ok s4 in
    let s6 = pushed _ _ _ _ c.in_ok-read_value-6.ensures.ok s5 in
    let p = err_from_is_err_and c.from_residual-in_err-read_spin.result c.from_residual-in_err-read_spin.ensures.1 in
    rw (p.1, p.2) (header_stuck _ _ _ 6 (c.in_ok-read_value.field-0 ∷ c.in_ok-read_value-2.field-0 ∷ c.in_ok-read_value-3.field-0 ∷ c.in_ok-read_value-4.field-0 ∷ c.in_ok-read_value-5.field-0 ∷ c.in_ok-read_value-6.field-0 ∷ []) _ _ (c.in_ok-read_value-6.ensures.text ∙ c.in_ok-read_value-5.ensures.text ∙ c.in_ok-read_value-4.ensures.text ∙ c.in_ok-read_value-3.ensures.text ∙ c.in_ok-read_value-2.ensures.text ∙ c.in_ok-read_value.ensures.text) (omega arith, (omega arith, (omega arith, (omega arith, (omega arith, (omega arith, tt)))))) (omega arith) s6 (λ l w d f. w d.spin (spin_fits d f)) c.in_err-read_spin.ensures.fault)

pub returns-in_err-read_value-7-clause-fault : goal.returns-in_err-read_value-7-clause-fault
unfolding header
returns-in_err-read_value-7-clause-fault c =
    let t = c.args.lines.now.text.now in
    let s0 : said_before t c.args.lines.now.number ≡ [] = ap (said_before t) c.requires ∙ said_first t in
    let s1 = pushed _ _ _ _ c.in_ok-read_value.ensures.ok s0 in
    let s2 = pushed _ _ _ _ c.in_ok-read_value-2.ensures.ok s1 in
    let s3 = pushed _ _ _ _ c.in_ok-read_value-3.ensures.ok s2 in
    let s4 = pushed _ _ _ _ c.in_ok-read_value-4.ensures.ok s3 in
    let s5 = pushed _ _ _ _ c.in_ok-read_value-5.ensures.ok s4 in
    let s6 = pushed _ _ _ _ c.in_ok-read_value-6.ensures.ok s5 in
    let s7 = pushed _ _ _ _ c.in_ok-read_spin.ensures.ok s6 in
    let p = err_from_is_err_and c.from_residual-in_err-read_value-7.result c.from_residual-in_err-read_value-7.ensures.1 in
    rw (p.1, p.2) (header_stuck _ _ _ 7 (c.in_ok-read_value.field-0 ∷ c.in_ok-read_value-2.field-0 ∷ c.in_ok-read_value-3.field-0 ∷ c.in_ok-read_value-4.field-0 ∷ c.in_ok-read_value-5.field-0 ∷ c.in_ok-read_value-6.field-0 ∷ c.in_ok-read_spin.field-0.budget ∷ c.in_ok-read_spin.field-0.most ∷ c.in_ok-read_spin.field-0.quick ∷ c.in_ok-read_spin.field-0.iterations ∷ []) _ _ (c.in_ok-read_spin.ensures.text ∙ c.in_ok-read_value-6.ensures.text ∙ c.in_ok-read_value-5.ensures.text ∙ c.in_ok-read_value-4.ensures.text ∙ c.in_ok-read_value-3.ensures.text ∙ c.in_ok-read_value-2.ensures.text ∙ c.in_ok-read_value.ensures.text) (omega arith, (omega arith, (omega arith, (omega arith, (omega arith, (omega arith, (c.in_ok-read_spin.ensures.fits.budget, (c.in_ok-read_spin.ensures.fits.most, (c.in_ok-read_spin.ensures.fits.quick, (c.in_ok-read_spin.ensures.fits.iterations, tt)))))))))) (omega arith) s7 (λ l w d f. w d.files f.files) c.in_err-read_value-7.ensures.fault)

pub returns-in_err-read_value-8-clause-fault : goal.returns-in_err-read_value-8-clause-fault
unfolding header
returns-in_err-read_value-8-clause-fault c =
    let t = c.args.lines.now.text.now in
    let s0 : said_before t c.args.lines.now.number ≡ [] = ap (said_before t) c.requires ∙ said_first t in
    let s1 = pushed _ _ _ _ c.in_ok-read_value.ensures.ok s0 in
    let s2 = pushed _ _ _ _ c.in_ok-read_value-2.ensures.ok s1 in
    let s3 = pushed _ _ _ _ c.in_ok-read_value-3.ensures.ok s2 in
    let s4 = pushed _ _ _ _ c.in_ok-read_value-4.ensures.ok s3 in
    let s5 = pushed _ _ _ _ c.in_ok-read_value-5.ensures.ok s4 in
    let s6 = pushed _ _ _ _ c.in_ok-read_value-6.ensures.ok s5 in
    let s7 = pushed _ _ _ _ c.in_ok-read_spin.ensures.ok s6 in
    let s8 = pushed _ _ _ _ c.in_ok-read_value-7.ensures.ok s7 in
    let p = err_from_is_err_and c.from_residual-in_err-read_value-8.result c.from_residual-in_err-read_value-8.ensures.1 in
    rw (p.1, p.2) (header_stuck _ _ _ 8 (c.in_ok-read_value.field-0 ∷ c.in_ok-read_value-2.field-0 ∷ c.in_ok-read_value-3.field-0 ∷ c.in_ok-read_value-4.field-0 ∷ c.in_ok-read_value-5.field-0 ∷ c.in_ok-read_value-6.field-0 ∷ c.in_ok-read_spin.field-0.budget ∷ c.in_ok-read_spin.field-0.most ∷ c.in_ok-read_spin.field-0.quick ∷ c.in_ok-read_spin.field-0.iterations ∷ c.in_ok-read_value-7.field-0 ∷ []) _ _ (c.in_ok-read_value-7.ensures.text ∙ c.in_ok-read_spin.ensures.text ∙ c.in_ok-read_value-6.ensures.text ∙ c.in_ok-read_value-5.ensures.text ∙ c.in_ok-read_value-4.ensures.text ∙ c.in_ok-read_value-3.ensures.text ∙ c.in_ok-read_value-2.ensures.text ∙ c.in_ok-read_value.ensures.text) (omega arith, (omega arith, (omega arith, (omega arith, (omega arith, (omega arith, (c.in_ok-read_spin.ensures.fits.budget, (c.in_ok-read_spin.ensures.fits.most, (c.in_ok-read_spin.ensures.fits.quick, (c.in_ok-read_spin.ensures.fits.iterations, (omega arith, tt))))))))))) (omega arith) s8 (λ l w d f. w d.sockets f.sockets) c.in_err-read_value-8.ensures.fault)

pub returns-clause-ok : goal.returns-clause-ok
unfolding header
returns-clause-ok c = grind (arith, said_first, pushed)
