use Rattle.std.proofs.Common.{All, length, refl, sym, subst, arith}
use Rattle.exec_run.{proofs.{Names.{orderly, first_playing, StepFits, StepNames, meaning_of}, StepLemmas.on_ok, RunLemmas.{BeginsWell, logged, front_logged, all_logged, gave_up}, Plans.{known_of, plan_of}}, specs.{Asking.limits_of, Script.{IsProgram, Runs, held_told, itself, spot_told, words_of_all}, Steps.StandsAt}}
use Rattle.exec_run.proofs.stepping.log_trace.Goals as goal

pub new-requires-clause-plan : goal.new-requires-clause-plan
new-requires-clause-plan g c = grind (arith, plan_of)

pub take_steps-taken-requires : goal.take_steps-taken-requires
take_steps-taken-requires g c =
    let t = c.args.trace in
    let m = meaning_of t in
    let is = plan_of t c.as_slice-scripts.result.now c.as_slice.result.now c.in_ok-roots.roots.items _ c.requires.fits c.requires.in_range c.requires.few c.as_slice-scripts.ensures.value c.as_slice.ensures.value c.config_of-config.ensures.told c.in_ok-roots.ensures in
    let stands : StandsAt itself Runs held_told spot_told (λ p. IsProgram (words_of_all c.as_slice-scripts.result.now) (limits_of t.config) p) m.plan c.in_ok-core.core (first_playing m.plan) = record {
      ready = c.in_ok-core.ensures.ready m.plan is;
      shows = c.in_ok-core.ensures.begins m.plan is;
      knows = known_of t c.as_slice-scripts.result.now c.requires.fits c.requires.in_range c.requires.few c.as_slice-scripts.ensures.value;
    } in
    let names = subst (All (StepNames (length m.plan.scripts))) (sym c.as_slice-steps.ensures.value) c.requires.fits.named.steps in
    record { stands = (m.plan, first_playing m.plan, stands, names); fit = subst (All StepFits) (sym c.as_slice-steps.ensures.value) c.requires.fits.formed.steps }

pub returns-in_err-taken-clause-front : goal.returns-in_err-taken-clause-front
returns-in_err-taken-clause-front g c =
    let t = c.args.trace in
    let m = meaning_of t in
    let is = plan_of t c.as_slice-scripts.result.now c.as_slice.result.now c.in_ok-roots.roots.items _ c.requires.fits c.requires.in_range c.requires.few c.as_slice-scripts.ensures.value c.as_slice.ensures.value c.config_of-config.ensures.told c.in_ok-roots.ensures in
    let stands : StandsAt itself Runs held_told spot_told (λ p. IsProgram (words_of_all c.as_slice-scripts.result.now) (limits_of t.config) p) m.plan c.in_ok-core.core (first_playing m.plan) = record {
      ready = c.in_ok-core.ensures.ready m.plan is;
      shows = c.in_ok-core.ensures.begins m.plan is;
      knows = known_of t c.as_slice-scripts.result.now c.requires.fits c.requires.in_range c.requires.few c.as_slice-scripts.ensures.value;
    } in
    let names = subst (All (StepNames (length m.plan.scripts))) (sym c.as_slice-steps.ensures.value) c.requires.fits.named.steps in
    let begins : BeginsWell m.plan = assumption (orderly itself Runs held_told spot_told m.plan c.in_ok-core.core (first_playing m.plan) stands.ready.stands stands.shows, c.in_ok-core.ensures.rests m.plan is, c.in_ok-core.ensures.paced m.plan is) in
    gave_up c.from_residual-in_err-taken.result c.args.quiet m _ _
    (front_logged c.args.quiet m c.as_slice-steps.result.now _ _ _ begins c.requires.steps c.as_slice-steps.ensures.value
    (c.in_err-taken.ensures.breaks m.plan (first_playing m.plan) stands names) refl)

pub returns-clause-ok : goal.returns-clause-ok
returns-clause-ok g c =
    let t = c.args.trace in
    let m = meaning_of t in
    let is = plan_of t c.as_slice-scripts.result.now c.as_slice.result.now c.in_ok-roots.roots.items _ c.requires.fits c.requires.in_range c.requires.few c.as_slice-scripts.ensures.value c.as_slice.ensures.value c.config_of-config.ensures.told c.in_ok-roots.ensures in
    let stands : StandsAt itself Runs held_told spot_told (λ p. IsProgram (words_of_all c.as_slice-scripts.result.now) (limits_of t.config) p) m.plan c.in_ok-core.core (first_playing m.plan) = record {
      ready = c.in_ok-core.ensures.ready m.plan is;
      shows = c.in_ok-core.ensures.begins m.plan is;
      knows = known_of t c.as_slice-scripts.result.now c.requires.fits c.requires.in_range c.requires.few c.as_slice-scripts.ensures.value;
    } in
    let names = subst (All (StepNames (length m.plan.scripts))) (sym c.as_slice-steps.ensures.value) c.requires.fits.named.steps in
    let begins : BeginsWell m.plan = assumption (orderly itself Runs held_told spot_told m.plan c.in_ok-core.core (first_playing m.plan) stands.ready.stands stands.shows, c.in_ok-core.ensures.rests m.plan is, c.in_ok-core.ensures.paced m.plan is) in
    on_ok c.flush_all.result
    (logged _ _ _ _ _ c.args.quiet m c.as_slice-steps.result.now c.take_steps-taken.new.core _ _ _ begins c.requires.steps c.as_slice-steps.ensures.value
    (c.in_ok-taken.ensures.leads m.plan (first_playing m.plan) stands names) c.flush_all.ensures.same)

pub returns-clause-front : goal.returns-clause-front
returns-clause-front g c =
    let t = c.args.trace in
    let m = meaning_of t in
    let is = plan_of t c.as_slice-scripts.result.now c.as_slice.result.now c.in_ok-roots.roots.items _ c.requires.fits c.requires.in_range c.requires.few c.as_slice-scripts.ensures.value c.as_slice.ensures.value c.config_of-config.ensures.told c.in_ok-roots.ensures in
    let stands : StandsAt itself Runs held_told spot_told (λ p. IsProgram (words_of_all c.as_slice-scripts.result.now) (limits_of t.config) p) m.plan c.in_ok-core.core (first_playing m.plan) = record {
      ready = c.in_ok-core.ensures.ready m.plan is;
      shows = c.in_ok-core.ensures.begins m.plan is;
      knows = known_of t c.as_slice-scripts.result.now c.requires.fits c.requires.in_range c.requires.few c.as_slice-scripts.ensures.value;
    } in
    let names = subst (All (StepNames (length m.plan.scripts))) (sym c.as_slice-steps.ensures.value) c.requires.fits.named.steps in
    let begins : BeginsWell m.plan = assumption (orderly itself Runs held_told spot_told m.plan c.in_ok-core.core (first_playing m.plan) stands.ready.stands stands.shows, c.in_ok-core.ensures.rests m.plan is, c.in_ok-core.ensures.paced m.plan is) in
    gave_up c.flush_all.result c.args.quiet m _ _
    (all_logged _ _ _ _ _ c.args.quiet m c.as_slice-steps.result.now c.take_steps-taken.new.core _ _ _ begins c.requires.steps c.as_slice-steps.ensures.value
    (c.in_ok-taken.ensures.leads m.plan (first_playing m.plan) stands names) c.flush_all.ensures.same)
