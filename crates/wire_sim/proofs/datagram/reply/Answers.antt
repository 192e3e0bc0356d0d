use Rattle.std.proofs.Common.{refl, false}
use Rattle.ecat_frame.specs.FrameGrammar.{DatagramValue}
use Rattle.ecat_frame.proofs.Exported.{changed_twice}
use Rattle.wire_sim.specs.Seen.{replied}
use Rattle.wire_sim.proofs.InOrder.{found}
use Rattle.wire_sim.proofs.datagram.reply.Goals as goal

pub returns-else-read : goal.returns-else-read
returns-else-read c =
    let d = found c.args.frame.now.datagrams c.args.k c.requires.within in
    let address : DatagramValue → DatagramValue = λ d. record d { head = record d.head { adp = c.args.adp } } in
    let count : DatagramValue → DatagramValue = λ d. record d { wkc = c.args.wkc } in
    rw c.if-read.false
    (changed_twice c.args.k address count (replied false c.args.adp c.args.payload.now c.args.wkc) c.args.frame.now c.set_adp.new.self c.set_wkc.new.self d.0 d.1
    c.set_adp.ensures.changed c.set_wkc.ensures.changed refl)
