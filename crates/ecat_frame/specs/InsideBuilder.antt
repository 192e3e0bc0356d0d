-- How a builder keeps its datagrams.
use Rattle.std.specs.Prelude.{◌≡◌, ℕ, ◌+◌, ◌-◌, ◌≤◌, List, [], ◌∷◌, ◌++◌, length, drop, replicate}
use Rattle.std.specs.List.{All}
use Rattle.ecat_frame.specs.FrameGrammar.{DatagramValue, IsDatagram, spelled}
use Rattle.ecat_frame.specs.Reading.{read_datagrams}
use Rattle.ecat_frame.specs.declared.builder.Builder.TheInside.{Inside}

-- the bytes of datagrams, each with its more bit set
unfoldable pub chained : List DatagramValue → List ℕ
chained [] = []
chained (d ∷ ds) = spelled 1 d ++ chained ds

-- the datagrams that stand in the bytes
unfoldable pub datagrams_of : Inside → List DatagramValue
datagrams_of a = read_datagrams a.count (drop 16 a.bytes)

-- the bytes of a frame's front, still zeros, then the datagrams, and zeros behind
pub record IsFilled (a : Inside) : Type 0 where
  pub datagrams : All IsDatagram (datagrams_of a)
  pub bytes : a.bytes ≡ replicate 16 0 ++ (chained (datagrams_of a) ++ replicate (1514 - a.len) 0)
  pub len : a.len ≡ 16 + length (chained (datagrams_of a))
  pub count : a.count ≡ length (datagrams_of a)
  pub room : a.len ≤ 1514
