use Rattle.frame_cases.specs.Slaves.{AreSlaves}
use Rattle.frame_cases.proofs.masters.configs.slaves.Given as goal

abbrev pub invariant-loop-slave : goal.invariant-loop-slave
invariant-loop-slave l = AreSlaves l.cycle_ns l.kinds.items l.plans.items
