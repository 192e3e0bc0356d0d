use Rattle.std.proofs.Common.{◌<◌, length, map, ap, sym, ◌∙◌, List, ℕ, arith}
use Rattle.dc_bounds.specs.Weight.{flag}
use Rattle.master_frames.proofs.Left.{left_no, length_yes}
use Rattle.master_frames.proofs.learned.Learned.clocks.Goals as goal
use Rattle.master_frames.proofs.learned.Learned.clocks.Goals.{then-is_clock, else-is_clock}
use Rattle.master_script.specs.Slaves.{is_clock}

pub loop-position-preserved : goal.loop-position-preserved
loop-position-preserved c =
    let l = c.loop-position in
    let flags = flag (map is_clock c.args.self.now.slaves.items) in
    let n = length c.args.self.now.slaves.items in
    let less : l.position < n = omega (arith, c.loop-position-test.true) in
    elim c.if-is_clock.branch [
      | then-is_clock w ↦
          let e = length_yes flags n l.position less (sym c.is_clock.ensures ∙ w.if-is_clock.true) in
          rw w.count-is (record { count = omega (arith, e, l.invariant.count); few = omega (arith, l.invariant.few) })
      | else-is_clock w ↦
          let e = ap (λ (xs : List ℕ). length xs) (left_no flags n l.position less (sym c.is_clock.ensures ∙ w.if-is_clock.false)) in
          rw w.count-is (record { count = omega (arith, e, l.invariant.count); few = omega (arith, l.invariant.few) })
    ]
