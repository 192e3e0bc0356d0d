-- How two frames are compared.
use Rattle.std.specs.Prelude.{ℕ, ◌+◌, ◌*◌, ◌/◌, ◌%◌, List, ◌∷◌, ◌++◌}
use Rattle.ecat_frame.specs.Commands.{code_of}
use Rattle.ecat_frame.specs.FrameGrammar.{word}
use Rattle.ecat_frame.specs.declared.datagram.Datagram.{Datagram}

-- a length word without its bit 14
abbrev pub without_circulating : ℕ → ℕ
without_circulating w = w % 16384 + 32768 * (w / 32768)

-- the first eight bytes of a datagram, up to its IRQ, without ADP and circulating bit
unfoldable pub heading : Datagram → List ℕ
heading d = code_of d.head.command ∷ d.head.index ∷ 0 ∷ 0 ∷ word d.head.ado ++ word (without_circulating d.length_word)
