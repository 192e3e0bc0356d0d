use Rattle.std.proofs.Common.{◌≡◌, ◌+◌, ◌%◌, ◌^◌, Some, refl, sym, ap, ◌∙◌}
use Rattle.std.specs.Prelude.{slice_get}
use Rattle.ecat_frame.specs.FrameGrammar.{DatagramValue, FrameValue}
use Rattle.ecat_frame.specs.Reading.{seen}
use Rattle.ecat_frame.proofs.Exported.{slice_get-modify_same}
use Rattle.wire_sim.specs.Seen.{doing_seen}
use Rattle.wire_sim.proofs.Answering.{left_is}
use Rattle.wire_sim.proofs.datagram.answer.Goals as goal

pub leave_wkc-requires-clause-before : goal.leave_wkc-requires-clause-before
leave_wkc-requires-clause-before c =
    let d = seen c.datagram-datagram.result in
    let put : DatagramValue → DatagramValue = λ e. record e { head = record e.head { adp = c.adp_after.result } } in
    let there : slice_get c.leave_adp.new.frame.datagrams c.args.k ≡ Some (put d) =
    ap (λ (f : FrameValue). slice_get f.datagrams c.args.k) c.leave_adp.ensures.changed ∙ slice_get-modify_same c.args.k put c.args.frame.now.datagrams d c.datagram-datagram.ensures.is in
    rw there refl

pub returns-clause-frame : goal.returns-clause-frame
returns-clause-frame c =
    left_is c.args.slave.now _ c.args.k c.args.frame.now c.leave_adp.new.frame c.leave_wkc.new.frame (doing_seen c.request-request.result) (doing_seen c.done_by-doing.result)
    c.is_some.result c.adp_after.result _ c.datagram-datagram.ensures.is c.request-request.ensures (sym c.reads.ensures ∙ c.if-reads.false)
    (c.is_some.ensures ∙ c.act-written.ensures.writes) c.done_by-doing.ensures c.adp_after.ensures
    (ap (λ n. (c.datagram-datagram.result.wkc + n) % 2 ^ 16) c.gain.ensures) c.leave_adp.ensures.changed c.leave_wkc.ensures
