use Rattle.std.proofs.Common.{◌≡◌, arith, refl, false, None, [], inl, inr, ap, ◌∙◌, subst, ℕ, ⊎_elim, ◌⊎◌}
use Rattle.exec_words.specs.declared.idle.Park.{Park, TheVariants.Search}
use Rattle.exec_live_idle.specs.{declared.view.View.View, Idle.knows, Search.{MaySearch, MayNot, Scans, Skips, Parks, StaysUp, NoRound, OneMore}}
use Rattle.exec_live_idle.proofs.searcher.Searcher.publish_and_look.Goals as goal

-- a view without what a search, and a look that asks for one, change
abbrev core : View → View
core v = record v { held = 0; saw = 0; took = None; last = None; before = None; claims = [] }

up_by : (u w : View) → core w ≡ core u → StaysUp u w
up_by u w e = λ i. record w { workers = (e i).workers; number = (e i).number; end = (e i).end; published = (e i).published }

searched : (v w : View) → MaySearch v w ⊎ MayNot v w → core w ≡ core v
searched v w s = grind arith

pub loop-init : goal.loop-init
loop-init g c = record { idle = refl; seat = (refl, refl); view = refl; pool = refl; rounds = NoRound }

pub loop-preserved : goal.loop-preserved
loop-preserved g c =
    let b = g.B.Backlog in let before = c.loop in let looked = c.prepare_park.new in let after = c.search.new in
    let v : View = knows before.self.seat in let x : View = knows looked.self.seat in let w : View = knows after.self.seat in
    let parks : Parks b.looks b.peers b.kicks v before.backlog Search x looked.backlog
    = subst (λ (p : Park). Parks b.looks b.peers b.kicks v before.backlog p x looked.backlog) c.in-Search.is c.prepare_park.ensures.parks in
    let dry = c.search.ensures.dry c.if-search.false in
    let moved : Skips x looked.backlog looked.self.rng w after.backlog after.self.rng ⊎ Scans b.steals x looked.backlog looked.self.rng false w after.backlog after.self.rng = ⊎_elim (λ skip. inl skip) (λ scan. inr scan.0) dry in
    let kept : core w ≡ core x = searched x w (⊎_elim (λ skip. inr skip.0) (λ scan. inl scan.0) moved) in
    record {
      idle = c.search.ensures.idle ∙ c.prepare_park.ensures.idle ∙ before.invariant.idle;
      seat = (c.search.ensures.seat.0 ∙ c.prepare_park.ensures.seat.0 ∙ before.invariant.seat.0, c.search.ensures.seat.1 ∙ c.prepare_park.ensures.seat.1 ∙ before.invariant.seat.1);
      view = up_by (knows c.args.self.now.seat) w (kept ∙ ap core parks.2.0 ∙ ap core before.invariant.view);
      pool = c.search.ensures.pool ∙ c.prepare_park.ensures.pool ∙ before.invariant.pool;
      rounds = OneMore v x w before.backlog looked.backlog after.backlog before.self.rng after.self.rng before.invariant.rounds parks
          (subst (λ (at : ℕ). Skips x looked.backlog at w after.backlog after.self.rng ⊎ Scans b.steals x looked.backlog at false w after.backlog after.self.rng) c.prepare_park.ensures.rng moved);
    }
