use Rattle.std.proofs.Common.{◌≡◌, Err, ap, refl, rules, arith}
use Rattle.ecat_frame.specs.Faults.{IsFault}
use Rattle.ecat_frame.specs.FrameGrammar.{AreBytes}
use Rattle.ecat_frame.specs.InsideScan.{part_of}
use Rattle.ecat_frame.proofs.FaultFacts.{bytes_below, fault_from_stop, grammar_from_end, short_from_inside}
use Rattle.ecat_frame.proofs.Scanned.{was_padding}
use Rattle.ecat_frame.proofs.scan.check.Goals as goal

pub returns-in_err-scan-clause-fault : goal.returns-in_err-scan-clause-fault
returns-in_err-scan-clause-fault c =
    let e = c.in_err-scan.field-0.0 in
    let are : AreBytes c.args.bytes.now = bytes_below c.args.bytes.now (λ i. omega (arith, c.type_inv.bytes i)) in
    let f : IsFault c.args.bytes.now e = fault_from_stop c.args.bytes.now e are c.in_err-scan.ensures.stops in
    let h : c.from_residual.result ≡ Err e = search rules in
    rw h f

pub returns-in-Padding-clause-ok : goal.returns-in-Padding-clause-ok
returns-in-Padding-clause-ok c =
    let are : AreBytes c.args.bytes.now = bytes_below c.args.bytes.now (λ i. omega (arith, c.type_inv.bytes i)) in
    grammar_from_end c.args.bytes.now (part_of c.in_ok-scan.field-0) c.in-Padding.room are (ap part_of c.in-Padding.is) c.in_ok-scan.ensures.leads

pub returns-in_default : goal.returns-in_default
returns-in_default c =
    let are : AreBytes c.args.bytes.now = bytes_below c.args.bytes.now (λ i. omega (arith, c.type_inv.bytes i)) in
    record {
      ok = tt;
      fault = short_from_inside c.args.bytes.now (part_of c.in_ok-scan.field-0) _ refl are c.in_ok-scan.ensures.leads (λ room e. c.in_default.not-Padding room (was_padding c.in_ok-scan.field-0 room e));
    }
