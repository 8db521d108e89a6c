-- The search: where not enough search yet a count is added, and else the worker looks.
use Rattle.std.{proofs.{Common.{◌≡◌, ℕ, ◌*◌, ◌≤◌, Bool, true, false, ◌&&◌, refl, ap, arith}, lemmas.Bool.{and_from, and_parts, eqb-true, leb-true}}, specs.Prelude.nat_le}
use Rattle.exec_machine.specs.{declared.config.Configuration.Configuration, World.{Common, Own as Books}}
use Rattle.exec_moves.specs.{declared.{idling.{InLook.InLook, InScan.InScan, InSearch.InSearch}, place.Place.Place}, Counts.one_if, Global.one_count_more, State.{Desk, Things}}
use Rattle.exec_progress.{specs.{Effort.searches_alone, Going.FallsAt, Owed.can_steal}, proofs.{Idling.{FallsTo, chosen, counts, in_look, in_scan, in_search}, Passing.second_le}}

module _ (c : Configuration) (i : ℕ) (me : Books) (s : Common) (d : Desk) (x : Things) where
  pub searches : (p : InSearch) → FallsAt c i me s d x (Place.Search p)
  searches InSearch.LoadSearchCount it =
      let here = Place.Search InSearch.LoadSearchCount in
      chosen (FallsTo c i me s d x here d.rng d.loot d.searching x) (nat_le c.workers (2 * x.idle.count)) (Place.Look InLook.Publish) (Place.Search InSearch.AddSearchCount)
      (λ h. counts c i me s d x here (Place.Look InLook.Publish) d.searching x.idle (in_search i s InSearch.LoadSearchCount) (in_look i s InLook.Publish)
      (omega (
        arith,
        second_le c (searches_alone d x && can_steal x) (d.searching && can_steal x)
            (λ k. and_from d.searching (can_steal x) (counted d.searching refl (leb-true c.workers (2 * x.idle.count) h) (eqb-true x.idle.count (one_if d.searching) (and_parts _ _ k).0)) (and_parts _ _ k).1),
      )))
      (λ h. counts c i me s d x here (Place.Search InSearch.AddSearchCount) d.searching x.idle (in_search i s InSearch.LoadSearchCount) (in_search i s InSearch.AddSearchCount) (omega arith))
    where
      -- where half of the workers search and no other, it does
      counted : (b : Bool) → d.searching ≡ b → c.workers ≤ 2 * x.idle.count → x.idle.count ≡ one_if d.searching → b ≡ true
      counted true is many alone = refl
      counted false is many alone = absurd (omega (arith, it.workers, many, alone, ap one_if is))
  searches InSearch.AddSearchCount it =
      counts c i me s d x (Place.Search InSearch.AddSearchCount) (Place.Scan InScan.LoadScanHead) true (one_count_more x.idle) (in_search i s InSearch.AddSearchCount) (in_scan i s InScan.LoadScanHead) (omega arith)
