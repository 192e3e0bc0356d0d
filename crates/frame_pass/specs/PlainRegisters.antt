-- Registers that nothing but writes of frames changes. It is the held numbers that are meant: a read of 0x0910 or 0x0990
-- may show another.
use Rattle.std.specs.Prelude.{◌≡◌, ℕ, true, ⊤, List, [], ◌∷◌, length}
use Rattle.ecat_frame.specs.FrameGrammar.{DatagramValue}
use Rattle.esc_regs.specs.RegisterBytes.{AreApart}
use Rattle.frame_pass.specs.SlaveState.{Slave}
use Rattle.frame_pass.specs.DatagramTable.{writes}
use Rattle.frame_pass.specs.DatagramAtSlave.{doing, slave_after}

-- the n bytes at a place are none of those that a slave sets itself: the receive times, the difference, and the
-- status and the time of the latch input
pub record IsPlain (at n : ℕ) : Type 0 where
  pub ports : AreApart 0x0900 16 at n
  pub unit : AreApart 0x0918 8 at n
  pub difference : AreApart 0x092C 4 at n
  pub status : AreApart 0x09AE 1 at n
  pub stamp : AreApart 0x09B0 8 at n

-- none of these datagrams, one after another, makes the slave write one of the n bytes
unfoldable pub AreLeft : ℕ → ℕ → Slave → List DatagramValue → Type 0
AreLeft at n s [] = ⊤
AreLeft at n s (d ∷ ds) =
    (writes (doing s d) ≡ true → AreApart d.head.ado (length d.payload) at n) × AreLeft at n (slave_after s d) ds
