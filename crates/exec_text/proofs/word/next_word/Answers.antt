use Rattle.std.proofs.Common.{[], ◌∷◌, arith}
use Rattle.exec_text.proofs.Spelling.{IsFront, front_named, front_more, front_read, front_longer, front_ended, front_whole}
use Rattle.exec_text.proofs.word.next_word.Goals as goal

pub returns-in-Some-socket_word-clause-found : goal.returns-in-Some-socket_word-clause-found
returns-in-Some-socket_word-clause-found c =
    let a = c.args in
    let p = c.in_ok-name in
    let s = p.ensures.found in
    let f0 = front_named a.bytes.now s.0 p.name.now p.rest.now s.1 s.2 in
    let n1 = c.in_ok-first in
    let f1 : IsFront a.bytes.now p.name.now (n1.first ∷ []) n1.rest.now = front_more a.bytes.now p.name.now [] p.rest.now n1.rest.now n1.first f0 n1.ensures.found in
    let n2 = c.in_ok-second in
    let f2 : IsFront a.bytes.now p.name.now (n1.first ∷ n2.second ∷ []) n2.rest.now = front_more a.bytes.now p.name.now (n1.first ∷ []) n1.rest.now n2.rest.now n2.second f1 n2.ensures.found in
    front_read a.config.now a.bytes.now p.name.now (n1.first ∷ n2.second ∷ []) n2.rest.now c.in-Some-socket_word.word f2 c.in-Some-socket_word.ensures.found c.in-Some-socket_word.ensures.fits

pub returns-clause-found : goal.returns-clause-found
returns-clause-found c =
    let a = c.args in
    let p = c.in_ok-name in
    let s = p.ensures.found in
    let f0 = front_named a.bytes.now s.0 p.name.now p.rest.now s.1 s.2 in
    let n1 = c.in_ok-first in
    let f1 : IsFront a.bytes.now p.name.now (n1.first ∷ []) n1.rest.now = front_more a.bytes.now p.name.now [] p.rest.now n1.rest.now n1.first f0 n1.ensures.found in
    let n2 = c.in_ok-second in
    let f2 : IsFront a.bytes.now p.name.now (n1.first ∷ n2.second ∷ []) n2.rest.now = front_more a.bytes.now p.name.now (n1.first ∷ []) n1.rest.now n2.rest.now n2.second f1 n2.ensures.found in
    let n3 = c.in_ok-third in
    let f3 : IsFront a.bytes.now p.name.now (n1.first ∷ n2.second ∷ n3.third ∷ []) n3.rest.now = front_more a.bytes.now p.name.now (n1.first ∷ n2.second ∷ []) n2.rest.now n3.rest.now n3.third f2 n3.ensures.found in
    front_read a.config.now a.bytes.now p.name.now (n1.first ∷ n2.second ∷ n3.third ∷ []) n3.rest.now c.in_ok-word.word f3 c.in_ok-word.ensures.found c.in_ok-word.ensures.fits

pub returns-in_err-first-clause-none : goal.returns-in_err-first-clause-none
returns-in_err-first-clause-none c =
    let a = c.args in
    let p = c.in_ok-name in
    let s = p.ensures.found in
    let f0 = front_named a.bytes.now s.0 p.name.now p.rest.now s.1 s.2 in
    rw c.from_residual-in_err-first.ensures (λ w r h.
    let l0 = front_longer a.config.now a.bytes.now p.name.now [] p.rest.now r w c.requires f0 (c.in_default.ensures.none a.config.now) h (omega arith) in
    front_ended a.config.now a.bytes.now p.name.now [] p.rest.now r w c.requires f0 c.in_err-first.ensures.none h l0)

pub returns-in_err-second-clause-none : goal.returns-in_err-second-clause-none
returns-in_err-second-clause-none c =
    let a = c.args in
    let p = c.in_ok-name in
    let s = p.ensures.found in
    let f0 = front_named a.bytes.now s.0 p.name.now p.rest.now s.1 s.2 in
    let n1 = c.in_ok-first in
    let f1 : IsFront a.bytes.now p.name.now (n1.first ∷ []) n1.rest.now = front_more a.bytes.now p.name.now [] p.rest.now n1.rest.now n1.first f0 n1.ensures.found in
    rw c.from_residual-in_err-second.ensures (λ w r h.
    let l0 = front_longer a.config.now a.bytes.now p.name.now [] p.rest.now r w c.requires f0 (c.in_default.ensures.none a.config.now) h (omega arith) in
    let l1 = front_longer a.config.now a.bytes.now p.name.now (n1.first ∷ []) n1.rest.now r w c.requires f1 c.in_default-numbered_word.ensures.none h (omega (arith, l0)) in
    front_ended a.config.now a.bytes.now p.name.now (n1.first ∷ []) n1.rest.now r w c.requires f1 c.in_err-second.ensures.none h l1)

pub returns-in_err-third-clause-none : goal.returns-in_err-third-clause-none
returns-in_err-third-clause-none c =
    let a = c.args in
    let p = c.in_ok-name in
    let s = p.ensures.found in
    let f0 = front_named a.bytes.now s.0 p.name.now p.rest.now s.1 s.2 in
    let n1 = c.in_ok-first in
    let f1 : IsFront a.bytes.now p.name.now (n1.first ∷ []) n1.rest.now = front_more a.bytes.now p.name.now [] p.rest.now n1.rest.now n1.first f0 n1.ensures.found in
    let n2 = c.in_ok-second in
    let f2 : IsFront a.bytes.now p.name.now (n1.first ∷ n2.second ∷ []) n2.rest.now = front_more a.bytes.now p.name.now (n1.first ∷ []) n1.rest.now n2.rest.now n2.second f1 n2.ensures.found in
    rw c.from_residual-in_err-third.ensures (λ w r h.
    let l0 = front_longer a.config.now a.bytes.now p.name.now [] p.rest.now r w c.requires f0 (c.in_default.ensures.none a.config.now) h (omega arith) in
    let l1 = front_longer a.config.now a.bytes.now p.name.now (n1.first ∷ []) n1.rest.now r w c.requires f1 c.in_default-numbered_word.ensures.none h (omega (arith, l0)) in
    let l2 = front_longer a.config.now a.bytes.now p.name.now (n1.first ∷ n2.second ∷ []) n2.rest.now r w c.requires f2 c.in_default-socket_word.ensures.none h (omega (arith, l1)) in
    front_ended a.config.now a.bytes.now p.name.now (n1.first ∷ n2.second ∷ []) n2.rest.now r w c.requires f2 c.in_err-third.ensures.none h l2)

pub returns-in_err-word-clause-none : goal.returns-in_err-word-clause-none
returns-in_err-word-clause-none c =
    let a = c.args in
    let p = c.in_ok-name in
    let s = p.ensures.found in
    let f0 = front_named a.bytes.now s.0 p.name.now p.rest.now s.1 s.2 in
    let n1 = c.in_ok-first in
    let f1 : IsFront a.bytes.now p.name.now (n1.first ∷ []) n1.rest.now = front_more a.bytes.now p.name.now [] p.rest.now n1.rest.now n1.first f0 n1.ensures.found in
    let n2 = c.in_ok-second in
    let f2 : IsFront a.bytes.now p.name.now (n1.first ∷ n2.second ∷ []) n2.rest.now = front_more a.bytes.now p.name.now (n1.first ∷ []) n1.rest.now n2.rest.now n2.second f1 n2.ensures.found in
    let n3 = c.in_ok-third in
    let f3 : IsFront a.bytes.now p.name.now (n1.first ∷ n2.second ∷ n3.third ∷ []) n3.rest.now = front_more a.bytes.now p.name.now (n1.first ∷ n2.second ∷ []) n2.rest.now n3.rest.now n3.third f2 n3.ensures.found in
    rw c.from_residual-in_err-word.ensures (λ w r h.
    let l0 = front_longer a.config.now a.bytes.now p.name.now [] p.rest.now r w c.requires f0 (c.in_default.ensures.none a.config.now) h (omega arith) in
    let l1 = front_longer a.config.now a.bytes.now p.name.now (n1.first ∷ []) n1.rest.now r w c.requires f1 c.in_default-numbered_word.ensures.none h (omega (arith, l0)) in
    let l2 = front_longer a.config.now a.bytes.now p.name.now (n1.first ∷ n2.second ∷ []) n2.rest.now r w c.requires f2 c.in_default-socket_word.ensures.none h (omega (arith, l1)) in
    let l3 = front_longer a.config.now a.bytes.now p.name.now (n1.first ∷ n2.second ∷ n3.third ∷ []) n3.rest.now r w c.requires f3 c.in_err-word.ensures.none h (omega (arith, l2)) in
    front_whole w (omega (arith, l3)))
