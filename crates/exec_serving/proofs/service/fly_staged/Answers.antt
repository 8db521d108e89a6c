use Rattle.std.proofs.{Common.{◌≡◌, sym, ap, subst, ◌∙◌, arith, slice_set}}
use Rattle.exec_parts.specs.{declared.parts.{names.Names.Names, record.Record.Record}, Serving.{AreKnown, flown_in}}
use Rattle.exec_invariants.proofs.Flying.{known_last, one_flown}
use Rattle.exec_serving.proofs.service.fly_staged.Goals as goal

pub index_mut-requires : goal.index_mut-requires
index_mut-requires c =
    let rs = c.loop-request.requests in
    let known = known_last c.unstage.new.self.staged.items c.loop-request.names.staged.items c.in-Some.request rs.items c.in-Some.ensures.staged c.loop-request.invariant.2 in
    omega (arith, rs.ok.0, known)

pub loop-request-preserved : goal.loop-request-preserved
loop-request-preserved c =
    let i = c.loop-request.invariant in
    let ks = c.unstage.new.self.staged.items in
    let rs = c.loop-request.requests.items in
    let k = c.in-Some.request in
    let one = one_flown ks c.loop-request.names.staged.items k rs c.index_mut.result.now c.in-Some.ensures.staged c.index_mut.ensures.value i.2 in (
      c.in-Some.ensures.same ∙ ap (λ (n : Names). record n { staged = c.unstage.new.self.staged }) i.0,
      subst (λ (y : Record). flown_in ks (slice_set rs k y) ≡ flown_in c.args.names.now.staged.items c.args.requests.now.items) (sym c.fly.ensures.flown) (one.0 ∙ i.1),
      subst (λ (y : Record). AreKnown ks (slice_set rs k y)) (sym c.fly.ensures.flown) one.1,
      c.in-Some.ensures.capacity ∙ i.3,
    )
