use Rattle.std.proofs.Common.{◌%◌, ap, sym, ◌∙◌}
use Rattle.std.proofs.lemmas.List.{drop-drop}
use Rattle.std.proofs.lemmas.Nat.{and_mask}
use Rattle.byteorder.specs.Endian.{little_number}
use Rattle.ecat_frame.proofs.bytes.data_length.Goals as goal

pub returns : goal.returns
returns c =
    c.from.ensures ∙ and_mask _ 11 ∙ ap (λ n. n % 2048) (c.read_word.ensures ∙ ap (little_number 2) (sym (drop-drop 6 c.args.at c.args.bytes.now)))
