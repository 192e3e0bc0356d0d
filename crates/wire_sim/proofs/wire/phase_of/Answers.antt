use Rattle.wire_sim.proofs.Step.{some_datagram}
use Rattle.wire_sim.proofs.wire.phase_of.Goals as goal

pub datagram-requires : goal.datagram-requires
datagram-requires c = some_datagram c.args.frame.now.datagrams c.in_grammar.ensures.least
