use Rattle.std.proofs.Common.{arith}
use Rattle.segment_bounds.proofs.BoundLemmas.{small_copy_bound}
use Rattle.segment_bounds.proofs.bounds.copy_bound.Goals as goal

pub copy_bound-requires-clause-bound : goal.copy_bound-requires-clause-bound
copy_bound-requires-clause-bound c =
    omega (arith, small_copy_bound c.args.segment.now c.args.row c.ppm.ensures.legal c.requires, c.delay_bound.ensures, c.ppm.ensures.legal.head.frame_ns.1)

pub returns-clause-small : goal.returns-clause-small
returns-clause-small c =
    rw (c.copy_bound.ensures, c.ppm.ensures.is, c.frame_ns.ensures.is, c.loss_run.ensures.is, c.delay_bound.ensures, c.true_delay.ensures)
    (omega (arith, small_copy_bound c.args.segment.now c.args.row c.ppm.ensures.legal c.requires, c.ppm.ensures.legal.head.frame_ns.1))
