-- Frames that write nothing at a place of any slave.
use Rattle.std.specs.Prelude.{ℕ, List}
use Rattle.ecat_frame.specs.FrameGrammar.{DatagramValue}
use Rattle.frame_pass.specs.Aside.{AreAside}

-- no datagram writes one of the n bytes at a place, of a slave of any station address
abbrev pub AreFar : ℕ → ℕ → List DatagramValue → Type 0
AreFar at n ds = (own : ℕ) → AreAside at n own ds
