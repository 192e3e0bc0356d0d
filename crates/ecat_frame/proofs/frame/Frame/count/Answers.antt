use Rattle.std.proofs.Common.{◌<◌, length, arith}
use Rattle.ecat_frame.proofs.Datagrams.{length-all_spelled-ge, some_datagram}
use Rattle.ecat_frame.proofs.Kept.{keeps_value}
use Rattle.ecat_frame.proofs.frame.Frame.count.Goals as goal

pub returns-clause-count : goal.returns-clause-count
returns-clause-count c = (keeps_value c.self.inside c.args.self.now c.self.invariant c.self.view_is).count

pub returns-clause-some : goal.returns-clause-some
returns-clause-some c =
    let w = keeps_value c.self.inside c.args.self.now c.self.invariant c.self.view_is in
    let some : 0 < length c.args.self.now.datagrams = some_datagram c.args.self.now.datagrams (omega (arith, w.valid.least)) in
    omega (arith, w.count)

pub returns-clause-few : goal.returns-clause-few
returns-clause-few c =
    let w = keeps_value c.self.inside c.args.self.now c.self.invariant c.self.view_is in
    omega (arith, w.count, w.valid.most, length-all_spelled-ge c.args.self.now.datagrams)
