use Rattle.std.proofs.Common.{◌≡◌, ◌≤◌, []}
use Rattle.ecat_link.specs.RoseBy.{RoseBy}
use Rattle.ecat_link.specs.Serves.{Serves}
use Rattle.ecat_link.proofs.Repeating.{HasSent, repeated}
use Rattle.ecat_link.proofs.tests.repeat.repeat.Given as goal

abbrev pub invariant-loop-sent : goal.invariant-loop-sent
invariant-loop-sent g l = record {
  serves : Serves g.L.Link.step (repeated l.wait_ns l.frame l.times) (λ before. before ≡ []) (g.L.Link.state l.fn.link) (g.L.Link.state l.link) (HasSent l._sent l.lost);
  few : l.lost ≤ l._sent;
  cause : RoseBy l.lost (g.L.Link.lost l.fn.link) (g.L.Link.lost l.link);
}
