use Rattle.std.proofs.Common.{◌++◌, ap, ◌∙◌, length, drop, replicate}
use Rattle.std.proofs.lemmas.List.{drop-replicate}
use Rattle.osc_clock.specs.InsideOsc.{no_rate}
use Rattle.osc_clock.proofs.rate_row.in_array.Goals as goal

pub returns : goal.returns
returns c =
    ap (λ rows. rows ++ drop (length c.args.rates.now) (replicate 64 no_rate)) c.copy_from_slice.ensures.after
    ∙ ap (λ rows. c.args.rates.now ++ rows) (drop-replicate (length c.args.rates.now) 64 no_rate)
