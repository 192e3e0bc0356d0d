use Rattle.std.proofs.Common.{unwrap_or}
use Rattle.dc_show.proofs.Digits.{hex_fault}
use Rattle.dc_show.proofs.lines.bad_digit.Goals as goal

pub returns : goal.returns
returns c = hex_fault c.args.line.now c.first_other.result c.unwrap_or.result c.first_other.ensures c.unwrap_or.ensures c.requires
