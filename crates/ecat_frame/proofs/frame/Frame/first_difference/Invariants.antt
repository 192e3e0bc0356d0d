use Rattle.std.proofs.Common.{length, ◌≡◌, min}
use Rattle.ecat_frame.proofs.Alike.{Alike}
use Rattle.ecat_frame.proofs.frame.Frame.first_difference.Given as goal

abbrev pub invariant-loop-k : goal.invariant-loop-k
invariant-loop-k l = record {
  alike : Alike l.self l.reply l.k l.start;
  end : l.k-end ≡ min (length l.self.datagrams) (length l.reply.datagrams);
}
