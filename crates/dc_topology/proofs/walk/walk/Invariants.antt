use Rattle.std.proofs.Common.{◌≡◌, ◌+◌, ◌*◌, ◌≤◌, length}
use Rattle.std.specs.Prelude.{reverse}
use Rattle.dc_topology.proofs.Steps.{IsPass}
use Rattle.dc_topology.proofs.walk.walk.Given as goal

abbrev pub invariant-loop-position : goal.invariant-loop-position
invariant-loop-position l = record {
  pass : IsPass l.statuses l.position (reverse l.free.items) l.out-inside.places.items;
  placed : length l.out-inside.places.items ≡ l.position;
  few : length l.free.items ≤ 2 * l.position + 1;
}
