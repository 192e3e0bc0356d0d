-- The datagram by which a slave tells its system time, and every other compares its own with it.
use Rattle.std.specs.Prelude.{◌≡◌, ◌≢◌, ℕ, zero, suc, ◌<◌, ◌==◌, false, List, [], ◌∷◌, length, Some, slice_get}
use Rattle.ecat_frame.specs.FrameGrammar.{DatagramValue}
use Rattle.ecat_frame.specs.declared.command.Command.TheVariants.{Frmw}
use Rattle.esc_regs.specs.RegisterBytes.{number_at}
use Rattle.frame_pass.specs.SlaveState.{Slave, station}
use Rattle.frame_pass.specs.DatagramAtSlave.{datagram_after}
use Rattle.frame_pass.specs.FramePass.{at_arrival}

-- FRMW of the four low bytes of the system time
pub record IsDrift (d : DatagramValue) : Type 0 where
  pub command : d.head.command ≡ Frmw
  pub ado : d.head.ado ≡ 0x0910
  pub size : length d.payload ≡ 4

-- the time that such a datagram brings
abbrev pub time_in : DatagramValue → ℕ
time_in d = number_at 4 0 d.payload

-- the first datagram of a frame behind the first h slaves
unfoldable pub first_behind : ℕ → ℕ → List Slave → DatagramValue → DatagramValue
first_behind zero sent ss d = d
first_behind (suc h) sent [] d = d
first_behind (suc h) sent (s ∷ ss) d = first_behind h sent ss (datagram_after (at_arrival sent s) d)

-- what became of such a datagram is one again, at the same address, and brings this time
pub record Brings (x : ℕ) (d e : DatagramValue) : Type 0 where
  pub drift : IsDrift e
  pub adp : e.head.adp ≡ d.head.adp
  pub time : time_in e ≡ x

-- a slave with 4096 bytes of registers whose station address is another
pub record IsOther (adp : ℕ) (s : Slave) : Type 0 where
  pub size : length s.registers.bytes ≡ 4096
  pub station : (adp == station s.registers) ≡ false

-- of the first h slaves, so is each but the one at position q
abbrev pub AreOthersThan : ℕ → ℕ → ℕ → List Slave → Type 0
AreOthersThan q adp h ss = (i : ℕ) (s : Slave) → i < h → slice_get ss i ≡ Some s → i ≢ q → IsOther adp s
