use Rattle.std.proofs.Common.{◌≡◌, ◌<◌, length, sym, ap, subst, ◌∙◌, arith}
use Rattle.exec_run.{proofs.Acts.{IsNext, makes, made_here, some_wanted, state_is, wanted, would_grow}, specs.Script.{Played, held_by, place_by, newest}}
use Rattle.exec_run.proofs.script.ScriptBody.step.Goals as goal

pub returns-in_default-clause-grows : goal.returns-in_default-clause-grows
returns-in_default-clause-grows g c =
    let s = c.args.self.now in
    let sees = g.A.Around.sees c.args.around.now in
    let in_held : c.self.inside.held.items ≡ s.held = ap (λ (x : Played). x.held) c.self.view_is in
    let in_asked : c.self.inside.asked ≡ s.asked = ap (λ (x : Played). x.asked) c.self.view_is in
    let in_words : c.self.inside.words.now ≡ s.words = ap (λ (x : Played). x.words) c.self.view_is in
    let in_limits : c.self.inside.program.limits ≡ s.limits = ap (λ (x : Played). x.limits) c.self.view_is in
    let same_newest : c.newest_told-newest.result ≡ newest (held_by s.asked s.held c.args.said) =
    c.newest_told-newest.ensures ∙ ap (λ xs. newest (held_by c.self.inside.asked xs c.args.said)) (c.as_slice.ensures.value ∙ in_held) ∙ ap (λ q. newest (held_by q s.held c.args.said)) in_asked in
    let next : IsNext s c.args.said sees c.next_place-place.result c.is_some.result c.word-word.result = grind arith in
    would_grow s c.args.said sees c.next_place-place.result c.is_some.result c.word-word.result next
    (some_wanted sees s.limits c.word-word.result c.in_default.ensures.err)

pub returns-in_default-make_room-clause-grows : goal.returns-in_default-make_room-clause-grows
returns-in_default-make_room-clause-grows g c =
    let s = c.args.self.now in
    let sees = g.A.Around.sees c.args.around.now in
    let in_held : c.self.inside.held.items ≡ s.held = ap (λ (x : Played). x.held) c.self.view_is in
    let in_asked : c.self.inside.asked ≡ s.asked = ap (λ (x : Played). x.asked) c.self.view_is in
    let in_words : c.self.inside.words.now ≡ s.words = ap (λ (x : Played). x.words) c.self.view_is in
    let in_limits : c.self.inside.program.limits ≡ s.limits = ap (λ (x : Played). x.limits) c.self.view_is in
    let same_newest : c.newest_told-newest.result ≡ newest (held_by s.asked s.held c.args.said) =
    c.newest_told-newest.ensures ∙ ap (λ xs. newest (held_by c.self.inside.asked xs c.args.said)) (c.as_slice.ensures.value ∙ in_held) ∙ ap (λ q. newest (held_by q s.held c.args.said)) in_asked in
    let next : IsNext s c.args.said sees c.next_place-place.result c.is_some.result c.word-word.result = grind arith in
    would_grow s c.args.said sees c.next_place-place.result c.is_some.result c.word-word.result next
    (wanted sees c.self.inside.program.limits s.limits c.word-word.result c.in-Ok.request c.is_some-2.result in_limits c.in-Ok.ensures.some c.is_some-2.ensures c.in_default-make_room.ensures.err)

pub returns-clause-act : goal.returns-clause-act
returns-clause-act g c =
    let s = c.args.self.now in
    let sees = g.A.Around.sees c.args.around.now in
    let in_held : c.self.inside.held.items ≡ s.held = ap (λ (x : Played). x.held) c.self.view_is in
    let in_asked : c.self.inside.asked ≡ s.asked = ap (λ (x : Played). x.asked) c.self.view_is in
    let in_words : c.self.inside.words.now ≡ s.words = ap (λ (x : Played). x.words) c.self.view_is in
    let in_limits : c.self.inside.program.limits ≡ s.limits = ap (λ (x : Played). x.limits) c.self.view_is in
    let same_newest : c.newest_told-newest.result ≡ newest (held_by s.asked s.held c.args.said) =
    c.newest_told-newest.ensures ∙ ap (λ xs. newest (held_by c.self.inside.asked xs c.args.said)) (c.as_slice.ensures.value ∙ in_held) ∙ ap (λ q. newest (held_by q s.held c.args.said)) in_asked in
    let next : IsNext s c.args.said sees c.next_place-place.result c.is_some.result c.word-word.result = grind arith in
    let in_code = ap (λ (x : Played). x.code) c.self.view_is in
    let in_scripts = ap (λ (x : Played). x.scripts) c.self.view_is in
    let act = c.act_of-act.result in
    let made = made_here s _ sees c.self.inside.program.limits c.word-word.result c.newest_told-newest.result (newest (held_by s.asked s.held c.args.said)) c.in-Ok.request act in_scripts in_limits same_newest
    (record {
      some = c.in-Ok.ensures.some;
      none = c.in-Ok.ensures.none;
      is = c.act_of-act.ensures.some;
      plain = c.act_of-act.ensures.none _;
    }) in
    let told_held = c.hear.ensures.held ∙ ap (λ xs. held_by c.self.inside.asked xs c.args.said) (c.make_room.ensures.items ∙ in_held) ∙ ap (λ q. held_by q s.held c.args.said) in_asked in
    let told_place = c.place_told-self-inside.ensures ∙ ap (λ (x : Played). place_by x c.args.said) c.self.view_is in
    makes s _ c.args.said sees c.next_place-place.result c.place_past-self-inside.result c.is_some.result c.word-word.result c.in-Ok.request act next made
    (λ l. c.place_past-self-inside.ensures.past (subst (λ xs. c.next_place-place.result < length xs) (sym in_words) l))
    (state_is s c.args.said act _ _ _ _ _ _ _ _ in_code in_words in_scripts in_limits told_place told_held c.asked_by-self-inside.ensures)
