use Rattle.std.proofs.{Common.{◌++◌, refl, sym, ap, ◌∙◌, arith, slice_set, take}, lemmas.{Grind.{common_steps, elements}, Bool.false≢true, List.append-nil}}
use Rattle.exec_words.specs.{Head.claim_at, Queue.{claimed, head_of}, Reserved.extended}
use Rattle.exec_moves.specs.Search.{from_of}
use Rattle.exec_parts.specs.declared.parts.seat.Seat.{Seat as Chair}
use Rattle.exec_invariants.proofs.Claiming.{chair_is, chair_there, claim_makes, heads_other, heads_same}
use Rattle.exec_steps.proofs.search.claim_half.Goals as goal

pub returns-in-Ok-clause-makes : goal.returns-in-Ok-clause-makes
returns-in-Ok-clause-makes g c =
    let s = c.args.shared.now in
    let n = claim_at c.args.head c.args.tail in
    let m = c.index_mut.result.now in
    let number = c.from_of-from.ensures.number s.config refl in
    let there = chair_there s.seats.items c.from_of-from.result (from_of s.config c.args.scan) m c.index_mut.ensures.value number (omega (arith, number, c.from_of-from.ensures.within, c.requires.seats)) in
    claim_makes s c.args.worker.now c.args.scan c.args.head c.args.tail c.from_of-from.result c.in-Ok.count m c.claim_exchange-claimed.new.hand there number c.in-Ok.ensures.half
    (ap (λ l. l.values) c.in-Ok.ensures.moved ∙ ap (λ xs. xs ++ take n m.queue.values) c.requires.empty) (c.in-Ok.ensures.same.0 refl)

pub returns-in-Ok-clause-loot : goal.returns-in-Ok-clause-loot
returns-in-Ok-clause-loot g c = λ chair there.
    let s = c.args.shared.now in
    let n = claim_at c.args.head c.args.tail in
    let is = chair_is s.seats.items c.from_of-from.result (from_of s.config c.args.scan) c.index_mut.result.now chair c.index_mut.ensures.value (c.from_of-from.ensures.number s.config refl) there in
    let same = sym (ap (λ (x : Chair). head_of x.queue) is) ∙ c.in-Ok.ensures.same.0 refl in
    rw (heads_same c.args.head (head_of chair.queue) same) (c.in-Ok.ensures.moved ∙ ap (λ (x : Chair). extended c.args.worker.now.loot (take n x.queue.values)) is)

pub returns-in-Ok-clause-chair : goal.returns-in-Ok-clause-chair
returns-in-Ok-clause-chair g c = λ chair there.
    let s = c.args.shared.now in
    let n = claim_at c.args.head c.args.tail in
    let from = from_of s.config c.args.scan in
    let m = c.index_mut.result.now in
    let number = c.from_of-from.ensures.number s.config refl in
    let is = chair_is s.seats.items c.from_of-from.result from m chair c.index_mut.ensures.value number there in
    let same = sym (ap (λ (x : Chair). head_of x.queue) is) ∙ c.in-Ok.ensures.same.0 refl in
    rw (heads_same c.args.head (head_of chair.queue) same)
    (ap (λ k. slice_set s.seats.items k (record m { queue = c.claim_exchange-claimed.new.self })) number
    ∙ ap (λ q. slice_set s.seats.items from (record m { queue = q })) c.in-Ok.ensures.claimed
    ∙ ap (λ (x : Chair). slice_set s.seats.items from (record x { queue = claimed x.queue n })) is)

pub returns-in-Err-clause-loot : goal.returns-in-Err-clause-loot
returns-in-Err-clause-loot g c = λ chair there.
    let s = c.args.shared.now in
    let is = chair_is s.seats.items c.from_of-from.result (from_of s.config c.args.scan) c.index_mut.result.now chair c.index_mut.ensures.value (c.from_of-from.ensures.number s.config refl) there in
    rw (heads_other c.args.head (head_of chair.queue) (λ h. false≢true (c.in-Err.ensures.same.1 (ap (λ (x : Chair). head_of x.queue) is ∙ h))))
    (c.in-Err.ensures.hand_kept ∙ ap (λ xs. record c.args.worker.now.loot { values = xs }) (sym (append-nil c.args.worker.now.loot.values)))

pub returns-in-Err-clause-chair : goal.returns-in-Err-clause-chair
returns-in-Err-clause-chair g c = λ chair there.
    let s = c.args.shared.now in
    let from = from_of s.config c.args.scan in
    let m = c.index_mut.result.now in
    let number = c.from_of-from.ensures.number s.config refl in
    let is = chair_is s.seats.items c.from_of-from.result from m chair c.index_mut.ensures.value number there in
    rw (heads_other c.args.head (head_of chair.queue) (λ h. false≢true (c.in-Err.ensures.same.1 (ap (λ (x : Chair). head_of x.queue) is ∙ h))))
    (ap (λ k. slice_set s.seats.items k (record m { queue = c.claim_exchange-claimed.new.self })) number
    ∙ ap (λ q. slice_set s.seats.items from (record m { queue = q })) c.in-Err.ensures.kept
    ∙ ap (λ (x : Chair). slice_set s.seats.items from x) is)

pub claim_exchange-claimed-requires-clause-past : goal.claim_exchange-claimed-requires-clause-past
claim_exchange-claimed-requires-clause-past g c = grind (arith, elements)

pub returns-in-Err-clause-makes : goal.returns-in-Err-clause-makes
returns-in-Err-clause-makes g c = grind (arith, common_steps)
