use Rattle.std.proofs.Common.{ap, ◌∙◌, take, arith}
use Rattle.ecat_frame.specs.FrameGrammar.{spelling}
use Rattle.ecat_frame.specs.InsideFrame.{value_of}
use Rattle.ecat_frame.proofs.Kept.{take-kept_bytes, length-spelling-le}
use Rattle.ecat_frame.proofs.frame.Frame.bytes.Goals as goal

pub shared_ref_as_front-result : goal.shared_ref_as_front-result
shared_ref_as_front-result c =
    let w = c.self.invariant in
    omega (arith, w.len, length-spelling-le (value_of c.self.inside) w.valid)

pub returns-clause-bytes : goal.returns-clause-bytes
returns-clause-bytes c =
    let w = c.self.invariant in
    ap (take c.self.inside.len) w.bytes ∙ take-kept_bytes _ c.self.inside.len w.len ∙ ap spelling c.self.view_is

pub returns-clause-valid : goal.returns-clause-valid
returns-clause-valid c = rw c.self.view_is at c.self.invariant.valid

pub returns-clause-grammar : goal.returns-clause-grammar
returns-clause-grammar c =
    let w = c.self.invariant in
    (value_of c.self.inside, (w.valid, ap (take c.self.inside.len) w.bytes ∙ take-kept_bytes _ c.self.inside.len w.len))
