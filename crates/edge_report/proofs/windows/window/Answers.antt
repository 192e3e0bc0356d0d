use Rattle.std.proofs.Common.{◌≡◌, ◌∙◌, map, rules}
use Rattle.edge_report.specs.InsideWindow.{bounded}
use Rattle.edge_report.proofs.Firsts.{firsts, windows_of_firsts}
use Rattle.edge_report.proofs.windows.window.Goals as goal

pub returns : goal.returns
returns c =
    let s = c.args.segment.now in
    let signals : c.deref.result.now ≡ map (bounded s) (firsts c.args.edges.now) = search rules in
    c.greatest.ensures ∙ rw (c.ppm.ensures.is, signals) (windows_of_firsts s c.args.edges.now c.requires)
