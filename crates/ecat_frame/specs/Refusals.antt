-- A frame read byte by byte: where its next byte stands, and for which reason it is refused there.
use Rattle.std.specs.Prelude.{◌≡◌, ℕ, ◌+◌, ◌-◌, ◌*◌, ◌/◌, ◌%◌, ◌&&◌, ◌||◌, ◌==◌, not, nat_lt, nat_le, if◌then◌else◌, List, [], ◌∷◌, Result, Ok, Err}
use Rattle.ecat_frame.specs.FramePart.{Part, Front, HeaderLow, HeaderHigh, Head, LengthLow, LengthHigh, Body, Padding}
use Rattle.ecat_frame.specs.declared.error.FrameError.{FrameError}
use Rattle.ecat_frame.specs.declared.error.FrameError.TheVariants as fault

-- why no frame goes on with a byte
pub data Reason : Type 0 where
  EtherType : Reason
  FrameType : Reason
  Length : Reason
  Command : Reason
  More : Reason
  TooLong : Reason

-- the error that names the reason, and the offset of the byte
abbrev pub refusal : Reason → ℕ → FrameError
refusal EtherType n = fault.EtherType n
refusal FrameType n = fault.FrameType n
refusal Length n = fault.Length n
refusal Command n = fault.Command n
refusal More n = fault.More n
refusal TooLong n = fault.TooLong n

-- the padding that may follow datagrams of this length
abbrev pub room_for : ℕ → ℕ
room_for size = 60 - (16 + size)

-- The header word, at its second byte: FrameType where the type is not 1, Length where the length is
-- not from 12 to 1498.
abbrev pub after_header : ℕ → Result Part Reason
after_header word =
    if not (word / 4096 == 1) then Err FrameType
    else if nat_lt (word % 2048) 12 || nat_lt 1498 (word % 2048) then Err Length
    else Ok (Head (room_for (word % 2048)) (word % 2048) 0)

-- The first byte of a length word: Length where 12 and its value are more than what is left, More
-- where they leave 1 to 11 bytes, which no datagram fills.
abbrev pub after_length_low : ℕ → ℕ → ℕ → Result Part Reason
after_length_low room left low =
    if nat_lt left (12 + low) then Err Length
    else if nat_lt (12 + low) left && nat_lt left (24 + low) then Err More
    else Ok (LengthHigh room left low)

-- The length word, at its second byte: Length where the datagram is longer than what is left, More
-- where the more bit is 0 and bytes are left behind it, or is 1 and fewer than 12 are left.
abbrev pub after_length : ℕ → ℕ → ℕ → Result Part Reason
after_length room left word =
    if nat_lt left (12 + word % 2048) then Err Length
    else if not (nat_le 32768 word) && nat_lt (12 + word % 2048) left then Err More
    else if nat_le 32768 word && nat_lt left (24 + word % 2048) then Err More
    else Ok (Body room (left - (12 + word % 2048)) (word % 2048 + 4))

-- behind a datagram: the next one, or the padding
abbrev pub behind : ℕ → ℕ → Part
behind room left = if left == 0 then Padding room else Head room left 0

-- The place behind the byte at a place, or why it is refused: EtherType at offsets 12 and 13, Command
-- above 14, TooLong behind the greatest padding, and as above.
abbrev pub step : Part → ℕ → Result Part Reason
step (Front n) byte =
    if nat_lt n 12 then Ok (Front (n + 1))
    else if n == 12 then (if byte == 0x88 then Ok (Front 13) else Err EtherType)
    else if byte == 0xA4 then Ok HeaderLow else Err EtherType
step HeaderLow byte = Ok (HeaderHigh byte)
step (HeaderHigh low) byte = after_header (low + 256 * byte)
step (Head room left at) byte =
    if at == 0 && nat_lt 14 byte then Err Command
    else if at == 5 then Ok (LengthLow room left) else Ok (Head room left (at + 1))
step (LengthLow room left) byte = after_length_low room left byte
step (LengthHigh room left low) byte = after_length room left (low + 256 * byte)
step (Body room left body) byte =
    if nat_lt 1 body then Ok (Body room left (body - 1)) else Ok (behind room left)
step (Padding room) byte = if room == 0 then Err TooLong else Ok (Padding (room - 1))

-- the bytes lead from one place to the other
abbrev pub Reaches : Part → List ℕ → Part → Type 0
Reaches p [] q = p ≡ q
Reaches p (b ∷ bs) q = (m : Part) × ((step p b ≡ Ok m) × Reaches m bs q)
