use Rattle.std.proofs.Common.{◌≡◌, sym, ap, ◌∙◌}
use Rattle.ecat_frame.specs.FrameGrammar.{DatagramValue}
use Rattle.ecat_frame.proofs.Exported.{changed_none}
use Rattle.wire_sim.proofs.InOrder.{found, at_found}
use Rattle.wire_sim.proofs.datagram.leave_adp.Goals as goal

pub returns-else-adp-before-clause-changed : goal.returns-else-adp-before-clause-changed
returns-else-adp-before-clause-changed c =
    let d = found c.args.frame.now.datagrams c.args.k c.requires.within in
    let put : DatagramValue → DatagramValue = λ e. record e { head = record e.head { adp = c.args.adp } } in
    let same : c.args.before ≡ d.0.head.adp = at_found c.args.frame.now.datagrams c.args.k (λ e. c.args.before ≡ e.head.adp) d.0 d.1 c.requires.before in
    sym (changed_none c.args.k put c.args.frame.now d.0 d.1 (ap (λ a. record d.0 { head = record d.0.head { adp = a } }) (c.if-adp-before.false ∙ same)))
