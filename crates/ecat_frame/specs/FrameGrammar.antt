-- EtherCAT frames and the bytes that they are (ETG.1000.4, sections 5.3 and 5.4). That padding may be missing
-- is this project's rule.
use Rattle.std.specs.Prelude.{◌≡◌, ℕ, ◌+◌, ◌-◌, ◌*◌, ◌^◌, ◌<◌, ◌≤◌, List, [], ◌∷◌, ◌++◌, length}
use Rattle.std.specs.List.{All}
use Rattle.byteorder.specs.Endian.{little_bytes}
use Rattle.ecat_frame.specs.Commands.{code_of}
use Rattle.ecat_frame.specs.declared.datagram.Head.{Head}

-- A datagram. The flags are bits 11 to 14 of its length word, three reserved ones and the
-- circulating bit; the length and the more bit follow from where it stands.
pub record DatagramValue : Type 0 where
  pub head : Head
  pub flags : ℕ
  pub irq : ℕ
  pub payload : List ℕ
  pub wkc : ℕ

-- A frame: two addresses, the reserved bit 11 of the header word, the datagrams in their order, and
-- the bytes behind them.
pub record FrameValue : Type 0 where
  pub destination : List ℕ
  pub source : List ℕ
  pub reserved : ℕ
  pub datagrams : List DatagramValue
  pub padding : List ℕ

-- a word of two bytes, the low one first
abbrev pub word : ℕ → List ℕ
word n = little_bytes 2 n

-- the more bit in front of these datagrams: 1 where there is one
abbrev pub more : List DatagramValue → ℕ
more [] = 0
more (d ∷ ds) = 1

-- the length word: the data's length, the flags, and the more bit on top
abbrev pub length_word_of : ℕ → DatagramValue → ℕ
length_word_of more_bit d = length d.payload + 2048 * d.flags + 32768 * more_bit

-- the bytes of a datagram, given its more bit
unfoldable pub spelled : ℕ → DatagramValue → List ℕ
spelled more_bit d =
    code_of d.head.command ∷ d.head.index ∷ word d.head.adp ++ word d.head.ado
    ++ word (length_word_of more_bit d) ++ word d.irq ++ d.payload ++ word d.wkc

-- the bytes of the datagrams of a frame
unfoldable pub all_spelled : List DatagramValue → List ℕ
all_spelled [] = []
all_spelled (d ∷ ds) = spelled (more ds) d ++ all_spelled ds

-- the header word: the length of the datagrams, the reserved bit, and the type 1
abbrev pub header_word : FrameValue → ℕ
header_word f = length (all_spelled f.datagrams) + 2048 * f.reserved + 4096

-- the bytes of a frame; the EtherType stands behind the addresses, its high byte first
unfoldable pub spelling : FrameValue → List ℕ
spelling f =
    f.destination ++ f.source ++ (0x88 ∷ 0xA4 ∷ []) ++ word (header_word f)
    ++ all_spelled f.datagrams ++ f.padding

-- each is a byte
abbrev pub AreBytes : List ℕ → Type 0
AreBytes bytes = All (λ b. b < 256) bytes

-- an Ethernet address
abbrev pub IsAddress : List ℕ → Type 0
IsAddress address = (length address ≡ 6) × AreBytes address

-- a datagram whose parts fit their fields
pub record IsDatagram (d : DatagramValue) : Type 0 where
  pub index : d.head.index < 256
  pub adp : d.head.adp < 2 ^ 16
  pub ado : d.head.ado < 2 ^ 16
  pub flags : d.flags < 16
  pub size : length d.payload < 2048
  pub irq : d.irq < 2 ^ 16
  pub payload : AreBytes d.payload
  pub wkc : d.wkc < 2 ^ 16

-- A frame of the grammar: its datagrams have 12 to 1498 bytes, and it is padded to at most the 60
-- bytes that Ethernet asks for.
pub record IsFrame (f : FrameValue) : Type 0 where
  pub destination : IsAddress f.destination
  pub source : IsAddress f.source
  pub reserved : f.reserved < 2
  pub datagrams : All IsDatagram f.datagrams
  pub least : 12 ≤ length (all_spelled f.datagrams)
  pub most : length (all_spelled f.datagrams) ≤ 1498
  pub padding : AreBytes f.padding
  pub padded : length f.padding ≤ 60 - (16 + length (all_spelled f.datagrams))

-- the bytes of some frame
abbrev pub InGrammar : List ℕ → Type 0
InGrammar bytes = (f : FrameValue) × (IsFrame f × (bytes ≡ spelling f))

-- some bytes behind these make them the bytes of a frame
abbrev pub IsViable : List ℕ → Type 0
IsViable front = (rest : List ℕ) × InGrammar (front ++ rest)
