use Rattle.std.proofs.Common.{◌≡◌, sym, ap, ◌∙◌}
use Rattle.ecat_frame.specs.FrameGrammar.{DatagramValue}
use Rattle.ecat_frame.proofs.Exported.{changed_none}
use Rattle.wire_sim.proofs.InOrder.{found, at_found}
use Rattle.wire_sim.proofs.datagram.leave_wkc.Goals as goal

pub returns-else-wkc-before : goal.returns-else-wkc-before
returns-else-wkc-before c =
    let d = found c.args.frame.now.datagrams c.args.k c.requires.within in
    let put : DatagramValue → DatagramValue = λ e. record e { wkc = c.args.wkc } in
    let same : c.args.before ≡ d.0.wkc = at_found c.args.frame.now.datagrams c.args.k (λ e. c.args.before ≡ e.wkc) d.0 d.1 c.requires.before in
    sym (changed_none c.args.k put c.args.frame.now d.0 d.1 (ap (λ a. record d.0 { wkc = a }) (c.if-wkc-before.false ∙ same)))
