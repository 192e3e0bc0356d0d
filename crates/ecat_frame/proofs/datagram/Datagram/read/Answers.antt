use Rattle.std.proofs.Common.{◌≡◌, ℕ, ◌+◌, ◌-◌, ◌/◌, ◌%◌, take, drop, sym, refl, ap, ◌∙◌, arith}
use Rattle.std.proofs.lemmas.Option.{get_or_from_slice_get}
use Rattle.byteorder.specs.Endian.{little_number}
use Rattle.ecat_frame.specs.Commands.{commands}
use Rattle.ecat_frame.specs.Reading.{data_length, first_datagram}
use Rattle.ecat_frame.specs.declared.command.Command.TheVariants.{Nop}
use Rattle.ecat_frame.proofs.Spelled.{datagram_path}
use Rattle.ecat_frame.proofs.datagram.Datagram.read.Goals as goal

pub returns-clause-is : goal.returns-clause-is
unfolding first_datagram
returns-clause-is c =
    let bytes = c.args.bytes.now in
    let size : c.data_length-end.result ≡ data_length bytes = c.data_length-end.ensures in
    let part : 10 + c.data_length-end.result - 10 ≡ data_length bytes = omega arith in
    datagram_path _ _ _ _ _ _ _ _ _ _ _ _ _ _ _ _
    (sym (get_or_from_slice_get commands _ c.in-Some.command Nop (sym c.in-Some.ensures)))
    refl
    c.read_word.ensures
    c.read_word-2.ensures
    (ap (λ n. n / 2048 % 16) c.read_word-3.ensures)
    c.read_word-4.ensures
    (ap (λ n. take n (drop 10 bytes)) part)
    (c.read_word-5.ensures ∙ ap (λ (n : ℕ). little_number 2 (drop (10 + n) bytes)) size)
