use Rattle.std.specs.Prelude.{◌≤◌}
use Rattle.std.proofs.Common.{sym, ap, arith}
use Rattle.local_clock.specs.Reading.{ticks_to}
use Rattle.sync_units.specs.ClockCopy.{copy_of}
use Rattle.sync_units.specs.Quiet.{spare_of}
use Rattle.sync_units.specs.KeptEdges.{put_all}
use Rattle.sync_units.proofs.Spare.{unit_spared, edges_spared}
use Rattle.sync_units.proofs.sync_unit.SyncUnit.edges_until.Goals as goal

pub returns-else-ticks_to-spare-clause-unit : goal.returns-else-ticks_to-spare-clause-unit
returns-else-ticks_to-spare-clause-unit g c =
    let w = g.W.ClockWord.WIDTH in
    let offset = g.W.ClockWord.number c.args.offset in
    let ticks = c.ticks_to.ensures.number in
    let spare = c.spare.ensures in
    let few : ticks_to c.args.clock.now c.args.t ≤ spare_of w (copy_of w c.args.clock.now offset) c.args.self.now = omega (arith, ticks, spare) in
    sym (unit_spared w offset c.args.t c.args.clock.now c.args.self.now few)

pub returns-else-ticks_to-spare-clause-list : goal.returns-else-ticks_to-spare-clause-list
returns-else-ticks_to-spare-clause-list g c =
    let w = g.W.ClockWord.WIDTH in
    let offset = g.W.ClockWord.number c.args.offset in
    let ticks = c.ticks_to.ensures.number in
    let spare = c.spare.ensures in
    let few : ticks_to c.args.clock.now c.args.t ≤ spare_of w (copy_of w c.args.clock.now offset) c.args.self.now = omega (arith, ticks, spare) in
    ap (λ es. put_all es c.args.list.now) (sym (edges_spared w offset c.args.t c.args.clock.now c.args.self.now few))
