-- The shape of a frame.
use Rattle.std.specs.Prelude.{ℕ, List, length, map}
use Rattle.ecat_frame.specs.FrameGrammar.{DatagramValue, FrameValue}

-- how many bytes of data each datagram of a frame has
abbrev pub sizes : FrameValue → List ℕ
sizes f = map (λ (d : DatagramValue). length d.payload) f.datagrams
