use Rattle.std.proofs.Common.{◌≡◌, Ok, Err, rules, sym, ap, ◌∙◌}
use Rattle.ecat_frame.proofs.FaultFacts.{fault_no_frame, fault_unique}
use Rattle.ecat_frame.proofs.Injective.{spelling-injective}
use Rattle.ecat_frame.proofs.frame.Frame.from_bytes.Goals as goal

pub returns-in_err-check-clause-only : goal.returns-in_err-check-clause-only
returns-in_err-check-clause-only c g =
    absurd (fault_no_frame c.args.bytes.now c.in_err-check.field-0.0 c.in_err-check.ensures.fault g)

pub returns-in_err-check-clause-reads_back : goal.returns-in_err-check-clause-reads_back
returns-in_err-check-clause-reads_back c f w is =
    absurd (fault_no_frame c.args.bytes.now c.in_err-check.field-0.0 c.in_err-check.ensures.fault (f, (w, sym is)))

pub returns-in_err-check-clause-exactly : goal.returns-in_err-check-clause-exactly
returns-in_err-check-clause-exactly c e h =
    let is : c.from_residual.result ≡ Err c.in_err-check.field-0.0 = search rules in
    is ∙ ap Err (fault_unique c.args.bytes.now c.in_err-check.field-0.0 e c.in_err-check.ensures.fault h)

pub returns-clause-reads_back : goal.returns-clause-reads_back
returns-clause-reads_back c f w is =
    ap Ok (spelling-injective c.keep.result f c.keep.ensures.valid w (c.keep.ensures.spelling ∙ sym is))

pub returns-clause-exactly : goal.returns-clause-exactly
returns-clause-exactly c e h =
    absurd (fault_no_frame c.args.bytes.now e h c.in_ok-check.ensures.ok)
