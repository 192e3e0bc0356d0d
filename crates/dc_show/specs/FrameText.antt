-- Frames in words.
use Rattle.std.specs.Prelude.{ℕ, ◌+◌, ◌/◌, ◌%◌, nat_lt, List, [], ◌∷◌, ◌++◌, length, codes, decimal, if◌then◌else◌}
use Rattle.std.specs.List.{flat_map}
use Rattle.ecat_frame.specs.FrameGrammar.{DatagramValue, FrameValue, spelling}
use Rattle.ecat_frame.specs.declared.command.Command.{Command}
use Rattle.ecat_frame.specs.declared.command.Command.TheVariants.{Nop, Aprd, Apwr, Aprw, Fprd, Fpwr, Fprw, Brd, Bwr, Brw, Lrd, Lwr, Lrw, Armw, Frmw}

unfoldable pub name_of : Command → List ℕ
name_of Nop = codes "NOP"
name_of Aprd = codes "APRD"
name_of Apwr = codes "APWR"
name_of Aprw = codes "APRW"
name_of Fprd = codes "FPRD"
name_of Fpwr = codes "FPWR"
name_of Fprw = codes "FPRW"
name_of Brd = codes "BRD"
name_of Bwr = codes "BWR"
name_of Brw = codes "BRW"
name_of Lrd = codes "LRD"
name_of Lwr = codes "LWR"
name_of Lrw = codes "LRW"
name_of Armw = codes "ARMW"
name_of Frmw = codes "FRMW"

-- a hexadecimal digit of lower case
abbrev pub digit_of : ℕ → ℕ
digit_of n = if nat_lt n 10 then 48 + n else 87 + n

-- the two digits of a byte
abbrev pub hex_byte : ℕ → List ℕ
hex_byte b = digit_of (b / 16) ∷ digit_of (b % 16) ∷ []

-- the four digits of a word of two bytes
abbrev pub hex_word : ℕ → List ℕ
hex_word w = hex_byte (w / 256) ++ hex_byte (w % 256)

-- the bytes of the data, or a dash where there are none
abbrev pub data_text : List ℕ → List ℕ
data_text [] = codes "-"
data_text (b ∷ bs) = flat_map hex_byte (b ∷ bs)

-- a field, and the blank behind it
abbrev pub field : List ℕ → List ℕ
field text = text ++ codes " "

-- name, index, ADP and ADO of a datagram
unfoldable pub head_text : DatagramValue → List ℕ
head_text d = field (name_of d.head.command) ++ field (decimal d.head.index) ++ field (hex_word d.head.adp) ++ field (hex_word d.head.ado)

-- its length, IRQ, working counter and data
unfoldable pub body_text : DatagramValue → List ℕ
body_text d = field (decimal (length d.payload)) ++ field (hex_word d.irq) ++ field (decimal d.wkc) ++ data_text d.payload ++ 10 ∷ []

abbrev pub datagram_text : DatagramValue → List ℕ
datagram_text d = head_text d ++ body_text d

-- the line of a frame, with the number of its line in the input
unfoldable pub frame_line : ℕ → FrameValue → List ℕ
frame_line line f =
    codes "frame " ++ field (decimal line) ++ codes "bytes " ++ field (decimal (length (spelling f))) ++ codes "datagrams "
    ++ decimal (length f.datagrams) ++ 10 ∷ []

-- and those of its datagrams
unfoldable pub frame_text : ℕ → FrameValue → List ℕ
frame_text line f = frame_line line f ++ flat_map datagram_text f.datagrams
