use Rattle.std.proofs.Common.{◌≡◌, true, rules, sym, arith}
use Rattle.dc_words.specs.CommandOfWords.{is_numeral}
use Rattle.dc_words.proofs.Numerals.{too_large}
use Rattle.dc_words.proofs.numeral.number_in.Goals as goal

pub returns-in_default : goal.returns-in_default
returns-in_default c =
    let n : is_numeral c.args.text.now ≡ true = search rules in
    sym (too_large 16 c.args.text.now c.in_default.field-0 c.args.low c.args.high n c.in_default.ensures.value.0 (let f = c.ranges.high.fits in omega arith))
