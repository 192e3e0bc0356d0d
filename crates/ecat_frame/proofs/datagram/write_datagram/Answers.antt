use Rattle.std.proofs.Common.{◌≡◌, ◌+◌, bit_or, length, refl, ◌∙◌, arith}
use Rattle.std.proofs.lemmas.Nat.{or_shifted}
use Rattle.ecat_frame.specs.FrameGrammar.{spelled}
use Rattle.ecat_frame.proofs.Puts.{written}
use Rattle.ecat_frame.proofs.Writes.{bytes_known}
use Rattle.ecat_frame.proofs.datagram.write_datagram.Goals as goal

pub returns-clause-bytes : goal.returns-clause-bytes
unfolding spelled
returns-clause-bytes c =
    let n = length c.args.payload.now in
    let head = c.args.head in
    let more_bit : bit_or 32768 n ≡ n + 0 + 32768 = or_shifted 1 15 n (omega (arith, c.requires.short)) ∙ omega arith in
    let all = written c.code.result head.index head.adp head.ado _ n c.args.payload.now c.args.bytes.now _ _ _ _ _ _ c.write_word-5.new.bytes refl c.requires.size c.write_part.ensures c.write_word.ensures c.write_word-2.ensures c.write_word-3.ensures c.write_word-4.ensures c.write_part-2.ensures c.write_word-5.ensures in
    rw (c.code.ensures, more_bit) at all

pub returns-clause-valid : goal.returns-clause-valid
returns-clause-valid c = record { index = omega arith; adp = omega arith; ado = omega arith; flags = omega arith; size = c.requires.short; irq = omega arith; payload = bytes_known c.args.payload.now c.type_inv.payload; wkc = omega arith }
