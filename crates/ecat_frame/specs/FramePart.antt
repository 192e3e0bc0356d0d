-- Where the next byte of a frame that is read byte by byte stands.
use Rattle.std.specs.Prelude.{ℕ}

-- `room` is how much padding may follow the datagrams, and `left` what is left of the header's length
-- from the datagram's first byte on.
pub data Part : Type 0 where
  -- behind so many of the 14 bytes before the header word
  Front : (at : ℕ) → Part
  -- the first byte of the header word, and its second, behind the first
  HeaderLow : Part
  HeaderHigh : (low : ℕ) → Part
  -- behind so many of the six bytes before a datagram's length word
  Head : (room left at : ℕ) → Part
  -- the first byte of the length word, and its second, behind the first
  LengthLow : (room left : ℕ) → Part
  LengthHigh : (room left low : ℕ) → Part
  -- in the last `body` bytes of a datagram, with `left` behind it
  Body : (room left body : ℕ) → Part
  -- behind the datagrams
  Padding : (room : ℕ) → Part
