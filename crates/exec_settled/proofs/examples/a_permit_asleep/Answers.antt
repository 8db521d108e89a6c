use Rattle.std.proofs.{Common.{◌≡◌, ◌||◌, true, false, not, None, refl, sym, ◌∙◌, inl, inr}, lemmas.{Bool.false≢true, Option.none-some}}
use Rattle.exec_machine.specs.{Tests.is_gated, World.request_of}
use Rattle.exec_rest.specs.{Examples.two_waiting, Rested.{is_latched, place_at}}
use Rattle.exec_settled.{specs.{Examples.{with_permit, with_permit_told}, Given.{gives_up, passes_at}, Permits.{IsPermitted, hands_to, is_past}}, proofs.TwoAsleep.{each, is_at}}
use Rattle.exec_settled.proofs.examples.a_permit_asleep.Goals as goal

left : IsPermitted two_waiting.config with_permit → ⊥
left it = elim (it.granted 0 refl refl) [
  | inl passing ↦ none-some 0 (sym (is_at passes_at None refl refl passing.0) ∙ passing.1)
  | inr (inl handed) ↦ none-some 1 (sym (is_at hands_to None refl refl handed.0) ∙ handed.1)
  | inr (inr ahead) ↦ false≢true ahead
]

pub returns : goal.returns
returns c =
    let x = with_permit_told in
    let told = each (λ k. let it = request_of x.world.common k in is_gated it.phase ≡ true → (is_latched two_waiting.config x it.worker || not (is_past it.operation.target (place_at two_waiting.config x it.worker))) ≡ true)
    (λ gated. refl) (λ gated. absurd (false≢true gated)) (λ k gated. absurd (false≢true gated)) in
    let keeps = each (λ k. gives_up (request_of x.world.common k) ≡ false) refl refl (λ k. refl) in
    record { left = left; told = record { passed = λ file k first gives. absurd (false≢true (sym (keeps k) ∙ gives)); granted = λ k gated holds. inr (inr (told k gated)) } }
