-- How a frame is kept.
use Rattle.std.specs.Prelude.{◌≡◌, ℕ, ◌+◌, ◌-◌, ◌/◌, ◌%◌, ◌≤◌, List, ◌++◌, length, take, drop, replicate, Some, slice_get}
use Rattle.std.proofs.Common.{sym}
use Rattle.byteorder.specs.Endian.{little_number}
use Rattle.ecat_frame.specs.FrameGrammar.{DatagramValue, FrameValue, IsDatagram, IsFrame, more, spelled, spelling}
use Rattle.ecat_frame.specs.Reading.{place_in, read_datagrams}
use Rattle.ecat_frame.specs.declared.frame.Frame.TheInside.{Inside}

-- the header word in the bytes of a frame
abbrev pub header_in : List ℕ → ℕ
header_in bytes = little_number 2 (drop 14 bytes)

-- the parts that stand in the bytes
unfoldable pub value_of : Inside → FrameValue
value_of a = record {
  destination = take 6 a.bytes;
  source = take 6 (drop 6 a.bytes);
  reserved = header_in a.bytes / 2048 % 2;
  datagrams = read_datagrams a.count (drop 16 a.bytes);
  padding = take (a.len - (16 + header_in a.bytes % 2048)) (drop (16 + header_in a.bytes % 2048) a.bytes);
}

-- the bytes that keep a value, with zeros behind
unfoldable pub kept_bytes : FrameValue → List ℕ
kept_bytes f = spelling f ++ replicate (1514 - length (spelling f)) 0

unfoldable pub inside_of : FrameValue → Inside
inside_of f = record { bytes = kept_bytes f; len = length (spelling f); count = length f.datagrams }

-- a frame's bytes and zeros behind, how many bytes it has, and how many datagrams
pub record IsKept (a : Inside) : Type 0 where
  pub valid : IsFrame (value_of a)
  pub bytes : a.bytes ≡ kept_bytes (value_of a)
  pub len : a.len ≡ length (spelling (value_of a))
  pub count : a.count ≡ length (value_of a).datagrams

inside_path : (bytes bytes' : List ℕ) (len len' count count' : ℕ) → bytes ≡ bytes' → len ≡ len' → count ≡ count'
    → ◌≡◌ {A = Inside} (record { bytes = bytes; len = len; count = count }) (record { bytes = bytes'; len = len'; count = count' })
inside_path bytes bytes' len len' count count' p q r = cc

-- what is kept is determined by its value
pub inside_of-value_of : (a : Inside) → IsKept a → inside_of (value_of a) ≡ a
unfolding inside_of
inside_of-value_of a k =
    inside_path _ a.bytes _ a.len _ a.count (sym k.bytes) (sym k.len) (sym k.count)

-- where datagram k of a frame begins: there its bytes stand, and others behind them
pub record BeginsAt (f : FrameValue) (k at : ℕ) : Type 0 where
  pub datagram : DatagramValue
  pub behind : List ℕ
  pub is : slice_get f.datagrams k ≡ Some datagram
  pub valid : IsDatagram datagram
  pub place : at ≡ 16 + place_in k (drop 16 (kept_bytes f))
  pub there : drop at (kept_bytes f) ≡ spelled (more (drop (k + 1) f.datagrams)) datagram ++ behind
  pub within : at + 12 + length datagram.payload ≤ 1514
