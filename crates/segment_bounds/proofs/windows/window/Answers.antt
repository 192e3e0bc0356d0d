use Rattle.std.proofs.Common.{rules, ◌≡◌, ◌∙◌, map}
use Rattle.segment_bounds.specs.Bounded.{bounded}
use Rattle.segment_bounds.specs.Window.{signals_from}
use Rattle.segment_bounds.proofs.SignalLemmas.{greatest_of_segment}
use Rattle.segment_bounds.proofs.windows.window.Goals as goal

pub returns : goal.returns
returns c =
    let signals : c.deref.result.now ≡ map (bounded c.args.segment.now) (signals_from 0 c.args.segment.now.rows) = search rules in
    c.greatest.ensures ∙ rw (c.ppm.ensures.is, signals) (greatest_of_segment c.args.segment.now)
