use Rattle.std.proofs.Common.{◌≡◌, ◌-◌, ◌^◌, true, rules, sym, arith}
use Rattle.dc_words.specs.CommandOfWords.{is_numeral}
use Rattle.dc_words.proofs.Numerals.{too_large}
use Rattle.dc_words.proofs.numeral.whole_number.Goals as goal

pub returns-in_default : goal.returns-in_default
returns-in_default c =
    let n : is_numeral c.args.text.now ≡ true = search rules in
    sym (too_large 64 c.args.text.now c.in_default.field-0 0 (2 ^ 64 - 1) n c.in_default.ensures.value.0 (omega arith))
