-- Slaves that a datagram of a frame does not address by its station address.
use Rattle.std.specs.Prelude.{◌≡◌, ◌≢◌, ℕ, ◌+◌, ◌<◌, ◌≤◌, ◌==◌, false, List, length, Some, slice_get}
use Rattle.ecat_frame.specs.FrameGrammar.{DatagramValue}
use Rattle.frame_pass.specs.SlaveState.{Slave, station, holds}
use Rattle.frame_pass.specs.DatagramTable.{Writes, raised_by}
use Rattle.frame_pass.specs.DatagramAtSlave.{doing}
use Rattle.esc_regs.specs.RegisterBytes.{number_at, AreApart}
use Rattle.frame_pass.specs.FramePass.{at_arrival, datagrams_behind}
use Rattle.frame_pass.specs.Counters.{slave_before}

-- the slave at a position as datagram k of a frame finds it
abbrev pub slave_found : ℕ → ℕ → ℕ → List Slave → List DatagramValue → Slave → Slave
slave_found k i sent ss ds s = slave_before k (at_arrival sent s) (datagrams_behind i sent ss ds)

-- of the first h slaves, as datagram k finds them, each but the one at position q has another station address than this one
abbrev pub IsAlone : ℕ → ℕ → ℕ → ℕ → ℕ → List Slave → List DatagramValue → Type 0
IsAlone adp k q h sent ss ds =
    (i : ℕ) (s : Slave) → i < h → slice_get ss i ≡ Some s → i ≢ q → (adp == station (slave_found k i sent ss ds s).registers) ≡ false

-- What a read of a slave by its station address brings back: the counter raised by 1, and the numbers that the slave holds,
-- those of 0x0910 and 0x0990 apart.
pub record BringsBack (d : DatagramValue) (v : Slave) (e : DatagramValue) : Type 0 where
  pub counter : e.wkc ≡ raised_by 1 d.wkc
  pub size : length e.payload ≡ length d.payload
  pub numbers : (j n : ℕ) → j + n ≤ length d.payload → AreApart 0x0910 8 (d.head.ado + j) n → AreApart 0x0990 8 (d.head.ado + j) n
      → number_at n j e.payload ≡ holds n (d.head.ado + j) v.registers

-- A write by station address comes to its slave as it was sent, is stored there, and counts 1.
pub record IsReceived (d : DatagramValue) (v : Slave) (g e : DatagramValue) : Type 0 where
  pub counter : e.wkc ≡ raised_by 1 d.wkc
  pub writes : doing v g ≡ Writes
  pub ado : g.head.ado ≡ d.head.ado
  pub payload : g.payload ≡ d.payload
