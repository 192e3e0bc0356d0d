use Rattle.std.specs.Prelude.{◌≡◌}
use Rattle.std.proofs.Common.{subst, ◌∙◌}
use Rattle.local_clock.specs.Reading.{advanced}
use Rattle.frame_pass.specs.SlaveState.{Timing}
use Rattle.frame_pass.specs.Advancing.{timing_at}
use Rattle.wire_sim.proofs.Spared.{passed}
use Rattle.wire_sim.proofs.dc_unit.DcUnit.count.Goals as goal

pub returns-then-value : goal.returns-then-value
returns-then-value g c =
    let w = g.W.ClockWord.WIDTH in
    let offset = g.W.ClockWord.number c.args.offset in
    let kept = g.W.ClockWord.number c.self.inside.spare_offset in
    let m : Timing = record { clock = c.self.inside.clock; unit = c.self.inside.sync; edges = c.self.inside.edges; event = c.self.inside.input } in
    let same : kept ≡ offset = let a = c.value.ensures.number in let b = c.value-then-ticks-self.ensures.number in let e = c.if-value.true in cc (a, b, e) in
    let end = passed w offset kept c.args.t c.ticks_to-ticks.result c.self.inside.spare m same c.ticks_to-ticks.ensures.number c.if-ticks-self.true c.self.invariant.0 in
    c.pass.ensures
    ∙ subst (λ (x : Timing). record x { clock = advanced w c.args.t x.clock } ≡ record (timing_at w offset c.args.t x) { event = x.event }) c.self.view_is end
