use Rattle.std.proofs.Common.{sym, ◌∙◌, arith}
use Rattle.ecat_frame.specs.Reading.{seen}
use Rattle.master_frames.proofs.Miscounts.{next_same, next_apart, at_end, wkc_here}
use Rattle.master_frames.proofs.replies.miscounted.Goals as goal
use Rattle.master_script.specs.Judged.{counters}

pub returns-then-wkc-expected : goal.returns-then-wkc-expected
returns-then-wkc-expected c =
    let es = c.args.expected.now in
    let l = c.loop-k in
    let k = wkc_here c.args.reply.now l.k (seen c.datagram-wkc.result) c.datagram-wkc.ensures.is in
    let less = c.loop-k-test.true in
    let end = c.min-k-end.ensures in
    sym (l.invariant ∙ next_apart c.args.step es (counters c.args.reply.now) l.k c.datagram-wkc.result.wkc (omega (arith, less, end)) k.0 k.1 c.if-wkc-expected.true)

pub loop-k-preserved : goal.loop-k-preserved
loop-k-preserved c =
    let es = c.args.expected.now in
    let l = c.loop-k in
    let k = wkc_here c.args.reply.now l.k (seen c.datagram-wkc.result) c.datagram-wkc.ensures.is in
    let less = c.loop-k-test.true in
    let end = c.min-k-end.ensures in
    l.invariant ∙ next_same c.args.step es (counters c.args.reply.now) l.k c.datagram-wkc.result.wkc (omega (arith, less, end)) k.0 k.1 c.if-wkc-expected.false

pub returns : goal.returns
returns c =
    let l = c.loop-k in
    let end = c.min-k-end.ensures in
    let count = c.count.ensures.count in
    let test = c.loop-k-test.false in
    sym (l.invariant ∙ at_end c.args.step c.args.expected.now c.args.reply.now l.k (omega (arith, end, count, test)))
