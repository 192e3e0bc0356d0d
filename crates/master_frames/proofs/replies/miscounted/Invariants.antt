use Rattle.std.proofs.Common.{◌≡◌, drop}
use Rattle.master_frames.proofs.replies.miscounted.Given as goal
use Rattle.master_script.specs.Judged.{counters, miscounted}

abbrev pub invariant-loop-k : goal.invariant-loop-k
invariant-loop-k l = miscounted l.step l.expected (counters l.reply) ≡ miscounted l.step (drop l.k l.expected) (drop l.k (counters l.reply))
