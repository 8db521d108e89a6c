use Rattle.std.proofs.Common.{arith}
use Rattle.exec_invariants.proofs.Dedicated.{own_there}
use Rattle.exec_steps.proofs.{Searching.{half_moved, scan_head_loaded, their_head_loaded, their_tail_loaded}, Releasing.{half_released, moved_stored}, Stealing.half_claimed}
use Rattle.exec_steps.proofs.search.scan.Goals as goal

pub load_scan_head-requires : goal.load_scan_head-requires
load_scan_head-requires g c = record { there = own_there _ _ _ c.requires.sound; workers = c.requires.sound.config.workers }

pub returns-in-LoadScanHead : goal.returns-in-LoadScanHead
returns-in-LoadScanHead g c = record { steps = scan_head_loaded _ _ _ _ _ _ (rw c.in-LoadScanHead.is at c.requires.sound) c.load_scan_head.ensures.makes c.load_scan_head.ensures.same }

pub load_their_head-requires : goal.load_their_head-requires
load_their_head-requires g c = grind arith

pub returns-in-LoadTheirHead : goal.returns-in-LoadTheirHead
returns-in-LoadTheirHead g c = record { steps = their_head_loaded _ _ _ _ _ _ c.in-LoadTheirHead.scan (rw c.in-LoadTheirHead.is at c.requires.sound) c.load_their_head.ensures.makes c.load_their_head.ensures.goes }

pub load_their_tail-requires : goal.load_their_tail-requires
load_their_tail-requires g c = grind arith

pub returns-in-LoadTheirTail : goal.returns-in-LoadTheirTail
returns-in-LoadTheirTail g c = record { steps = their_tail_loaded _ _ _ _ _ _ c.in-LoadTheirTail.scan c.in-LoadTheirTail.head (rw c.in-LoadTheirTail.is at c.requires.sound) c.load_their_tail.ensures.makes c.load_their_tail.ensures.goes }

pub claim_half-requires : goal.claim_half-requires
claim_half-requires g c = grind arith

pub returns-in-ClaimHalf : goal.returns-in-ClaimHalf
returns-in-ClaimHalf g c =
    record { steps = half_claimed g.B.Body.left g.B.Scripted.spot c.args.worker.now c.claim_half.new.worker c.args.shared.now c.claim_half.new.shared c.claim_half.result c.in-ClaimHalf.scan c.in-ClaimHalf.head c.in-ClaimHalf.tail (rw c.in-ClaimHalf.is at c.requires.sound) c.requires.whole c.claim_half.ensures.makes c.claim_half.ensures.loot c.claim_half.ensures.same c.claim_half.ensures.chair c.claim_half.ensures.kept }

pub returns-in-MoveHalf : goal.returns-in-MoveHalf
returns-in-MoveHalf g c = record { steps = half_moved _ _ _ _ _ _ c.in-MoveHalf.from c.in-MoveHalf.head (rw c.in-MoveHalf.is at c.requires.sound) c.move_half.ensures.makes c.move_half.ensures.goes }

pub release_half-requires : goal.release_half-requires
release_half-requires g c = let sound = rw c.in-ReleaseHalf.is at c.requires.sound in record { there = omega (arith, sound.aims.1, sound.seated.many) }

pub returns-in-ReleaseHalf : goal.returns-in-ReleaseHalf
returns-in-ReleaseHalf g c =
    record { steps = half_released g.B.Body.left g.B.Scripted.spot c.args.worker.now c.release_half.new.worker c.args.shared.now c.release_half.new.shared c.release_half.result c.in-ReleaseHalf.from c.in-ReleaseHalf.head (rw c.in-ReleaseHalf.is at c.requires.sound) c.requires.whole c.release_half.ensures.makes c.release_half.ensures.goes c.release_half.ensures.chair c.release_half.ensures.kept }

pub store_moved-requires : goal.store_moved-requires
store_moved-requires g c =
    let sound = rw c.in-StoreMoved.is at c.requires.sound in
    record {
      there = own_there _ _ _ sound;
      room = λ chair there. omega (arith, sound.loot.few, (sound.queue chair there).1);
      whole = λ chair there. (sound.queue chair there).0;
    }

pub returns-in-StoreMoved : goal.returns-in-StoreMoved
returns-in-StoreMoved g c = record { steps = moved_stored _ _ _ _ _ _ _ (rw c.in-StoreMoved.is at c.requires.sound) c.store_moved.ensures.event c.store_moved.ensures.goes c.store_moved.ensures.chair c.store_moved.ensures.kept }
