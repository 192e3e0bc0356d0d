use Rattle.std.proofs.Common.{ℕ, List, subst}
use Rattle.dc_top.specs.Written.{Wrote}
use Rattle.dc_top.proofs.Serving.{refused, wrote}
use Rattle.dc_top.proofs.top.serve.Goals as goal

pub returns-in-Ok-clause-served : goal.returns-in-Ok-clause-served
returns-in-Ok-clause-served g c = wrote c.args.command c.args.bytes.now c.in-Ok.text.items c.write.result _ _ c.command_text.new.bench c.in-Ok.ensures.written
    (subst (λ (t : List ℕ). Wrote t c.write.result (g.O.Sink.taken c.args.output.now) (g.O.Sink.taken c.write.new.output)) c.deref.ensures.value c.write.ensures.written)

pub returns-in-Err-clause-served : goal.returns-in-Err-clause-served
returns-in-Err-clause-served g c = refused c.args.command c.args.bytes.now c.in-Err.outcome _ c.command_text.new.bench c.in-Err.ensures.refused
