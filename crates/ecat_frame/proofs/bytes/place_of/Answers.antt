use Rattle.std.proofs.Common.{arith}
use Rattle.ecat_frame.proofs.Places.{walked, walked_all}
use Rattle.ecat_frame.proofs.bytes.place_of.Goals as goal

pub loop-i-preserved : goal.loop-i-preserved
loop-i-preserved c =
    walked c.args.k c.loop-i._i c.loop-i.at _ c.data_length.result c.args.bytes.now (omega arith) c.data_length.ensures c.loop-i.invariant

pub returns : goal.returns
returns c =
    walked_all c.args.k c.loop-i._i c.loop-i.at _ c.args.bytes.now (omega arith) c.loop-i.invariant
