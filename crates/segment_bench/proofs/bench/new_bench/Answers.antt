use Rattle.std.proofs.Common.{◌∙◌, None, [], ap, sym, subst}
use Rattle.master_steps.specs.ConfigRange.{IsConfig}
use Rattle.master_script.specs.Kept.{kept_after}
use Rattle.segment_bench.proofs.Begun.{unsent}
use Rattle.segment_bench.proofs.Configured.{config_legal}
use Rattle.segment_bench.proofs.bench.new_bench.Goals as goal

pub new-requires : goal.new-requires
new-requires c = subst IsConfig (sym c.in_ok-config.ensures.is) (config_legal c.args.segment.now c.config.ensures.legal)

pub new-requires-2-clause-wire : goal.new-requires-2-clause-wire
new-requires-2-clause-wire c = unsent c.args.segment.now c.in_ok-wire.wire c.in_ok-wire.ensures

pub returns-clause-new : goal.returns-clause-new
returns-clause-new c = rw c.new-2.ensures (record {
  legal = c.config.ensures.legal;
  wire = c.in_ok-wire.ensures;
  master = c.in_ok-master.ensures.fresh ∙ ap (λ cfg. kept_after cfg None []) (c.in_ok-master.ensures.config ∙ c.in_ok-config.ensures.is);
})
