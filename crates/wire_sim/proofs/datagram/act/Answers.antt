use Rattle.std.proofs.Common.{sym, ap, ◌∙◌}
use Rattle.ecat_frame.specs.Reading.{seen}
use Rattle.esc_regs.specs.declared.answers.Written.{Written}
use Rattle.frame_pass.specs.DatagramTable.{writes}
use Rattle.wire_sim.proofs.Answering.{doing_refused, doing_taken, no_writes, slave_stays, slave_writes, latches_not, latches_told, write_refused, write_taken, refused_write}
use Rattle.wire_sim.proofs.datagram.act.Goals as goal

pub returns-then-not-writes-clause-is : goal.returns-then-not-writes-clause-is
returns-then-not-writes-clause-is c =
    let s = c.args.slave.now in
    let d = seen c.args.datagram.now in
    sym (slave_stays s d (no_writes s d _ c.requires.request (sym c.if-not-writes.ensures)))

pub returns-then-not-writes-clause-writes : goal.returns-then-not-writes-clause-writes
returns-then-not-writes-clause-writes c =
    let s = c.args.slave.now in
    let d = seen c.args.datagram.now in
    sym (no_writes s d _ c.requires.request (sym c.if-not-writes.ensures))

pub returns-then-not-writes-clause-latches : goal.returns-then-not-writes-clause-latches
returns-then-not-writes-clause-latches c =
    let s = c.args.slave.now in
    let d = seen c.args.datagram.now in
    sym (latches_not s d (no_writes s d _ c.requires.request (sym c.if-not-writes.ensures)))

pub returns-in-Done-clause-is : goal.returns-in-Done-clause-is
returns-in-Done-clause-is c =
    let s = c.args.slave.now in
    let d = seen c.args.datagram.now in
    let e = write_taken s d (ap (λ (w : Written). w.access) (sym c.write-told.ensures.tells) ∙ c.in-Done.is) in
    c.write-told.ensures.is ∙ sym (slave_writes s d (ap writes (doing_taken s d _ c.requires.request e) ∙ sym c.if-not-writes.ensures))

pub returns-in-Done-clause-writes : goal.returns-in-Done-clause-writes
returns-in-Done-clause-writes c =
    let s = c.args.slave.now in
    let d = seen c.args.datagram.now in
    let e = write_taken s d (ap (λ (w : Written). w.access) (sym c.write-told.ensures.tells) ∙ c.in-Done.is) in
    c.if-not-writes.ensures ∙ sym (ap writes (doing_taken s d _ c.requires.request e))

pub returns-in-Done-clause-latches : goal.returns-in-Done-clause-latches
returns-in-Done-clause-latches c =
    let s = c.args.slave.now in
    let d = seen c.args.datagram.now in
    let e = write_taken s d (ap (λ (w : Written). w.access) (sym c.write-told.ensures.tells) ∙ c.in-Done.is) in
    ap (λ (w : Written). w.latched) c.write-told.ensures.tells
    ∙ sym (latches_told s d (ap writes (doing_taken s d _ c.requires.request e) ∙ sym c.if-not-writes.ensures))

pub returns-in-Refused-clause-is : goal.returns-in-Refused-clause-is
returns-in-Refused-clause-is c =
    let s = c.args.slave.now in
    let d = seen c.args.datagram.now in
    let e = write_refused s d (ap (λ (w : Written). w.access) (sym c.write-told.ensures.tells) ∙ c.in-Refused.is) in
    c.write-told.ensures.is ∙ refused_write s d.head.ado d.payload e ∙ sym (slave_stays s d (ap writes (doing_refused s d e)))

pub returns-in-Refused-clause-writes : goal.returns-in-Refused-clause-writes
returns-in-Refused-clause-writes c =
    let s = c.args.slave.now in
    let d = seen c.args.datagram.now in
    let e = write_refused s d (ap (λ (w : Written). w.access) (sym c.write-told.ensures.tells) ∙ c.in-Refused.is) in
    sym (ap writes (doing_refused s d e))

pub returns-in-Refused-clause-latches : goal.returns-in-Refused-clause-latches
returns-in-Refused-clause-latches c =
    let s = c.args.slave.now in
    let d = seen c.args.datagram.now in
    let e = write_refused s d (ap (λ (w : Written). w.access) (sym c.write-told.ensures.tells) ∙ c.in-Refused.is) in
    sym (latches_not s d (ap writes (doing_refused s d e)))
