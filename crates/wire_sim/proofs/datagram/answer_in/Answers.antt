use Rattle.std.proofs.Common.{◌+◌, ◌%◌, ◌^◌, ap, ◌∙◌}
use Rattle.wire_sim.specs.Seen.{doing_seen}
use Rattle.wire_sim.proofs.Answering.{answered_is}
use Rattle.wire_sim.proofs.datagram.answer_in.Goals as goal

pub returns-clause-frame : goal.returns-clause-frame
returns-clause-frame c =
    let d = c.datagram-datagram.ensures.is in
    c.reply.ensures
    ∙ answered_is c.args.slave.now _ c.args.k c.args.frame.now (doing_seen c.request-request.result) (doing_seen c.done_by-doing.result)
    c.gather-read.result c.is_some.result c.adp_after-adp.result _ c.gather-read.new.room d c.request-request.ensures c.gather-read.ensures.reads (c.is_some.ensures ∙ c.act-written.ensures.writes)
    c.done_by-doing.ensures c.adp_after-adp.ensures c.gather-read.ensures.is (ap (λ n. (c.datagram-datagram.result.wkc + n) % 2 ^ 16) c.gain.ensures)
