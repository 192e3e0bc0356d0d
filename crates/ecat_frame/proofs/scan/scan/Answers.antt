use Rattle.std.proofs.Common.{◌≡◌, Err, rules, arith}
use Rattle.ecat_frame.specs.InsideScan.{StopsAt, part_of}
use Rattle.ecat_frame.proofs.Scanned.{leads_more, stops_at}
use Rattle.ecat_frame.proofs.scan.scan.Goals as goal

pub returns-in_err-place-clause-stops : goal.returns-in_err-place-clause-stops
returns-in_err-place-clause-stops c =
    let e = c.in_err-place.field-0.0 in
    let f : StopsAt c.args.bytes.now e = stops_at c.args.bytes.now c.loop-at.at (part_of c.loop-at.place) e (omega arith) c.loop-at.invariant c.in_err-place.ensures.step in
    let h : c.from_residual.result ≡ Err e = search rules in
    rw h f

pub loop-at-preserved : goal.loop-at-preserved
loop-at-preserved c =
    leads_more c.args.bytes.now c.loop-at.at (part_of c.loop-at.place) (part_of c.in_ok-place.place) (omega arith) c.loop-at.invariant c.in_ok-place.ensures.step c.in_ok-place.ensures.live
