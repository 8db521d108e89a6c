-- What a reaping finds: no operation that has landed, or the first of those that have.
use Rattle.std.proofs.Common.{◌≡◌, true, false, List, [], ◌∷◌, Option, Some, None, refl, ap, subst, ◌∙◌, arith}
use Rattle.exec_ring.specs.{Completions.result_in, Kernels.{is_quiet, next_completion}, Rings.completions, declared.completion.Completion.Completion}
use Rattle.exec_waiters.specs.{States.{file_of, waiter_at}, declared.deferred.Deferred.Deferred}
use Rattle.exec_driver.specs.{Driving.Driving, Steps.{ReapsFrom, ReapsNext, completed_in, permit_after, swept, told_as, with_landings}, declared.driver.reaping.Reaped.Reaped}
use Rattle.exec_opens.specs.Opens.{OpenState, account_in}
use Rattle.exec_parts.specs.declared.parts.{mail.Reply.Reply, names.Names.Names, record.Record.Record}
use Rattle.exec_invariants.{specs.Flown.{AreLanded, HasLanded, operations}, proofs.{Behind.{first_is, none_left}, WokenSwept.{first_there, none_there, sweeps}}}
use Rattle.exec_serving.proofs.Finding.{completed_is}

-- THE FIRST THAT HAS LANDED

pub record HasReaped (n : Names) (d d' : Driving Reply Reply) (rs : List Record) (opens opens' : List OpenState) (before after : Deferred Reply Reply) (told : Option Reaped) (c : Completion) (cs : List Completion) : Type 0 where
  pub has : HasLanded n d rs c
  pub first : Driving Reply Reply
  pub swept_first : first ≡ with_landings first (swept d)
  pub from : ReapsFrom first d' opens opens' before after (record { 0 = has.id }) has.it (result_in c.result) told

module _ (n : Names) (d d' : Driving Reply Reply) (rs : List Record) (opens opens' : List OpenState) (before after : Deferred Reply Reply) (told : Option Reaped) (reaps : ReapsNext d d' opens opens' before after told) where
  pub reaps_one : (c : Completion) (cs : List Completion) → operations d.ring ≡ c ∷ cs → HasLanded n d rs c → HasReaped n d d' rs opens opens' before after told c cs
  reaps_one c cs is has =
      let to = sweeps d in
      let first = reaps.first in
      let like : first ≡ with_landings first (swept d) = reaps.swept_first in
      let head = first_is (completions d.ring) c cs is in
      let next = first_there (swept d).ring.posted (swept d).ring c head.rest refl (to.left ∙ head.first) head.operates in
      let requests : first.requests ≡ d.requests = ap (λ x. x.requests) like ∙ ap (λ x. x.requests) to.shape in
      let named : completed_in first c ≡ Some has.id = ap (λ x. completed_in (record d { requests = x }) c) requests ∙ completed_is n d rs c has in
      let live : waiter_at first.requests has.id ≡ Some has.it = ap (λ x. waiter_at x has.id) requests ∙ has.live in
      record { has = has; first = first; swept_first = like; from = reaps.some c has.id has.it (ap (λ x. next_completion x.ring) like ∙ next.next) named live }

  -- where none has landed nothing is told
  pub reaps_none : operations d.ring ≡ [] → (d' ≡ with_landings d' (swept d)) × (told ≡ None) × (opens' ≡ opens) × (after ≡ before)
  reaps_none = grind (arith, sweeps, none_there, none_left)

  pub reaps_quiet : operations d.ring ≡ [] → is_quiet d'.ring ≡ true
  reaps_quiet = grind (arith, sweeps, reaps_none, none_there, none_left)

some_same : {x y : Reaped} → Some x ≡ Some y → x ≡ y
some_same h = cc

-- what was told is so of the first
pub record TellsOf (n : Names) (d d' : Driving Reply Reply) (rs : List Record) (opens opens' : List OpenState) (before after : Deferred Reply Reply) (done : Reaped) : Type 0 where
  pub c : Completion
  pub cs : List Completion
  pub operations_are : operations d.ring ≡ c ∷ cs
  pub landed : AreLanded n d rs (c ∷ cs)
  pub reaped : HasReaped n d d' rs opens opens' before after (Some done) c cs
  pub id : done.id ≡ record { 0 = reaped.has.id }
  pub given : done.given ≡ result_in c.result
  pub ended : done.ended ≡ told_as reaped.has.it reaped.from.reaps.answer (account_in opens (file_of reaped.has.it.request))
  pub permit : done.permit ≡ permit_after (record reaped.has.it { in_flight = false; request = reaped.from.reaps.request }) reaped.from.reaps.answer

module _ (n : Names) (d d' : Driving Reply Reply) (rs : List Record) (opens opens' : List OpenState) (before after : Deferred Reply Reply) (landed : AreLanded n d rs (operations d.ring)) where
  pub tells_of : (done : Reaped) → ReapsNext d d' opens opens' before after (Some done) → TellsOf n d d' rs opens opens' before after done
  tells_of done reaps = by (operations d.ring) refl
    where
      by : (ops : List Completion) → operations d.ring ≡ ops → TellsOf n d d' rs opens opens' before after done
      by [] is = absurd (let no : Some done ≡ None = (reaps_none n d d' rs opens opens' before after (Some done) reaps is).1 in cc)
      by (c ∷ cs) is =
          let all = subst (λ ops. AreLanded n d rs ops) is landed in
          let one = reaps_one n d d' rs opens opens' before after (Some done) reaps c cs is all.0 in
          let same = some_same one.from.reaps.told_is in
          record { c = c; cs = cs; operations_are = is; landed = all; reaped = one; id = ap (λ x. x.id) same; given = ap (λ x. x.given) same; ended = ap (λ x. x.ended) same; permit = ap (λ x. x.permit) same }

  pub tells_none : ReapsNext d d' opens opens' before after None → operations d.ring ≡ []
  tells_none reaps = by (operations d.ring) refl
    where
      by : (ops : List Completion) → operations d.ring ≡ ops → ops ≡ []
      by [] is = refl
      by (c ∷ cs) is =
          let told = (reaps_one n d d' rs opens opens' before after None reaps c cs is (subst (λ ops. AreLanded n d rs ops) is landed).0).from.reaps.told_is in
          absurd (cc)
