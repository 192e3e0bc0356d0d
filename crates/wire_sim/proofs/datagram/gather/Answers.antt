use Rattle.std.proofs.Common.{sym, ap, ◌∙◌}
use Rattle.ecat_frame.specs.Reading.{seen}
use Rattle.frame_pass.specs.DatagramTable.{reads}
use Rattle.wire_sim.proofs.Answering.{doing_refused, doing_taken, no_reads, read_refused, read_taken, payload_merged}
use Rattle.wire_sim.proofs.datagram.gather.Goals as goal

pub returns-then-not-reads-clause-reads : goal.returns-then-not-reads-clause-reads
returns-then-not-reads-clause-reads c =
    let s = c.args.slave.now in
    let d = seen c.args.datagram.now in
    sym (no_reads s d _ c.requires.request (sym c.if-not-reads.ensures))

pub returns-in-Refused-clause-reads : goal.returns-in-Refused-clause-reads
returns-in-Refused-clause-reads c =
    let s = c.args.slave.now in
    let d = seen c.args.datagram.now in
    let e = read_refused s d _ _ c.requires.size c.read.ensures.refused c.in-Refused.is in
    sym (ap reads (doing_refused s d e))

pub returns-in-Done-clause-is : goal.returns-in-Done-clause-is
returns-in-Done-clause-is c =
    λ _.
    let s = c.args.slave.now in
    let d = seen c.args.datagram.now in
    let e = read_taken s d _ _ c.requires.size c.read.ensures.refused c.in-Done.is in
    payload_merged s d _ _ c.merges.result c.read.new.out c.merge_if.new.room c.requires.size c.requires.request e (sym c.if-not-reads.ensures) (c.read.ensures.some c.in-Done.is)
    c.merges.ensures c.merge_if.ensures

pub returns-in-Done-clause-reads : goal.returns-in-Done-clause-reads
returns-in-Done-clause-reads c =
    let s = c.args.slave.now in
    let d = seen c.args.datagram.now in
    let e = read_taken s d _ _ c.requires.size c.read.ensures.refused c.in-Done.is in
    c.if-not-reads.ensures ∙ sym (ap reads (doing_taken s d _ c.requires.request e))
