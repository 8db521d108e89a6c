use Rattle.std.proofs.Common.{◌≡◌, ◌≤◌, replicate, false, refl, sym, ap, subst, ◌∙◌, arith}
use Rattle.exec_core.{specs.{Configs.configuration_of, Firsts.{AllBegin, IsFirst}}, proofs.{Beginning.{free_caller, with_store, in_range}, Steady.{first_turns, first_rests}, Started.{first_ready, first_shown}, Taking.asked}}
use Rattle.exec_core.proofs.executor.Core.new.Goals as goal

pub returns-clause-begins : goal.returns-clause-begins
returns-clause-begins g c = λ p plan.
    let k = configuration_of c.args.config.now c.args.iters_per_us c.args.files c.args.sockets in
    let is = c.configuration_of-configuration.ensures in
    let first = with_store k c.args.roots.items c.in_ok-shared.shared c.in_ok-shared.runnables.items c.first_workers.new.store (subst (λ x. IsFirst x c.args.roots.items c.in_ok-shared.shared c.in_ok-shared.runnables.items) is c.in_ok-shared.ensures.first) in
    let begin = subst (λ x. AllBegin x c.in_ok-shared.runnables.items c.in_ok-workers.workers.items) is c.in_ok-workers.ensures.begin in
    let sixteen : c.loop.counter ≡ 16 = omega (arith, c.loop.auto.counter-end, c.loop-test.false) in
    first_shown g.B.Body.left g.B.Scripted.runs g.B.Scripted.holds g.B.Scripted.spot k c.args.roots.items (record { workers = c.in_ok-workers.workers; shared = record c.in_ok-shared.shared { store = c.first_workers.new.store }; callers = c.loop.callers; spent = false }) c.in_ok-shared.runnables.items p
    (in_range k c.requires.config) first begin (c.loop.invariant.callers ∙ ap (λ n. replicate n free_caller) sixteen) plan

pub returns-clause-ready : goal.returns-clause-ready
returns-clause-ready g c = λ p plan.
    let k = configuration_of c.args.config.now c.args.iters_per_us c.args.files c.args.sockets in
    let is = c.configuration_of-configuration.ensures in
    let first = with_store k c.args.roots.items c.in_ok-shared.shared c.in_ok-shared.runnables.items c.first_workers.new.store (subst (λ x. IsFirst x c.args.roots.items c.in_ok-shared.shared c.in_ok-shared.runnables.items) is c.in_ok-shared.ensures.first) in
    let begin = subst (λ x. AllBegin x c.in_ok-shared.runnables.items c.in_ok-workers.workers.items) is c.in_ok-workers.ensures.begin in
    let sixteen : c.loop.counter ≡ 16 = omega (arith, c.loop.auto.counter-end, c.loop-test.false) in
    first_ready g.B.Body.left g.B.Scripted.runs g.B.Scripted.holds g.B.Scripted.spot k c.args.roots.items (record { workers = c.in_ok-workers.workers; shared = record c.in_ok-shared.shared { store = c.first_workers.new.store }; callers = c.loop.callers; spent = false }) c.in_ok-shared.runnables.items p
    (in_range k c.requires.config) first begin (c.loop.invariant.callers ∙ ap (λ n. replicate n free_caller) sixteen) plan refl

pub returns-clause-asked : goal.returns-clause-asked
returns-clause-asked g c = asked _ (returns-clause-ready g c c.requires.plan.0 c.requires.plan.1).stands

pub returns-clause-rests : goal.returns-clause-rests
returns-clause-rests g c = λ p plan.
    first_rests g.B.Body.left g.B.Scripted.runs g.B.Scripted.holds g.B.Scripted.spot p _ (returns-clause-ready g c p plan).stands (returns-clause-begins g c p plan)

pub returns-clause-paced : goal.returns-clause-paced
returns-clause-paced g c = λ p plan.
    let range = in_range (configuration_of c.args.config.now c.args.iters_per_us c.args.files c.args.sockets) c.requires.config in
    first_turns g.B.Body.left g.B.Scripted.runs g.B.Scripted.holds g.B.Scripted.spot p _ (subst (λ x. x.spin.budget ≤ x.spin.most) (sym plan.config) range.spins) (subst (λ x. x.files ≤ 64) (sym plan.config) range.files) (returns-clause-ready g c p plan).stands (returns-clause-begins g c p plan)
