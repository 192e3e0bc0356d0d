use Rattle.std.specs.Prelude.{◌≡◌, ◌-◌, ◌≤◌}
use Rattle.std.proofs.Common.{arith, sym, ap, ◌∙◌}
use Rattle.local_clock.specs.Reading.{advanced, ticks_to}
use Rattle.sync_units.specs.ClockCopy.{copy_of}
use Rattle.sync_units.specs.Quiet.{spare_of}
use Rattle.wire_sim.proofs.Spared.{left_over}
use Rattle.wire_sim.proofs.dc_unit.DcUnit.pass.Goals as goal

pub invariant_of-self : goal.invariant_of-self
invariant_of-self g c =
    let w = g.W.ClockWord.WIDTH in
    let is : c.args.ticks ≡ ticks_to c.self.inside.clock c.args.t = c.requires.number ∙ ap (λ m. ticks_to m.clock c.args.t) (sym c.self.view_is) in
    let most : c.self.inside.spare ≤ spare_of w (copy_of w c.self.inside.clock (g.W.ClockWord.number c.self.inside.spare_offset)) c.self.inside.sync = c.self.invariant.0 in
    let left = left_over w (g.W.ClockWord.number c.self.inside.spare_offset) c.args.t c.args.ticks c.self.inside.spare c.self.inside.clock c.self.inside.sync most is in
    let less : c.saturating_sub-self-inside.result ≡ c.self.inside.spare - c.args.ticks = c.saturating_sub-self-inside.ensures in
    (rw (c.advance_by.ensures.is, less) left, c.self.invariant.1)
