use Rattle.std.proofs.Common.{◌≤◌, None}
use Rattle.ecat_link.specs.Exchanges.{Runs}
use Rattle.ecat_link.specs.RoseBy.{RoseBy}
use Rattle.ecat_link.specs.Tries.{tries}
use Rattle.ecat_link.proofs.tries.try_frame.Given as goal

abbrev pub invariant-loop-try : goal.invariant-loop-try
invariant-loop-try g l = record {
  tried : Runs g.L.Link.step (g.L.Link.state l.fn.link) (tries l.wait_ns l.sent l._try None) (g.L.Link.state l.link);
  later : g.L.Link.lost l.fn.link ≤ g.L.Link.lost l.link;
  rose : RoseBy l._try (g.L.Link.lost l.fn.link) (g.L.Link.lost l.link);
}
