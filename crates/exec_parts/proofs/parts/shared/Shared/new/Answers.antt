use Rattle.std.proofs.Common.{arith}
use Rattle.exec_parts.proofs.parts.shared.Shared.new.Goals as goal

pub returns : goal.returns
returns g c = record {
  fresh = record {
    parts = grind (arith, c.in_ok-new.ensures, c.new-4.ensures, c.new-5.ensures, c.in_ok-new-2.ensures);
    shards = c.in_ok-new.ensures.shards;
    seats = c.new.ensures.items;
    tasks = c.new-2.ensures.items;
    requests = c.new-6.ensures.items;
    sleepers = c.new-7.ensures.items;
    listeners = c.in_ok-listeners.ensures.items_if_clones_equal (λ y is. is);
    unmoved = c.new-9.ensures.sockets;
    unwritten = c.new-9.ensures.files;
  };
}
