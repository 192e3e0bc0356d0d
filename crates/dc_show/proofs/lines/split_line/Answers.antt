use Rattle.std.proofs.Common.{◌∙◌, sym, ap, ◌+◌, ◌-◌, ◌∷◌, ◌++◌, take}
use Rattle.std.proofs.lemmas.List.{take_rest}
use Rattle.dc_show.proofs.OneLine.{cut_line}
use Rattle.dc_show.proofs.lines.split_line.Goals as goal

pub returns : goal.returns
returns c =
    let cut = cut_line c.args.bytes.now c.in_ok-end.end (sym c.line_end.ensures ∙ c.in_ok-end.was) in
    record { one = cut.one; parts = cut.parts ∙ ap (λ rest. take c.in_ok-end.end c.args.bytes.now ++ 10 ∷ rest) (sym (take_rest c.args.bytes.now (c.in_ok-end.end + 1))) }
