-- The arming of a slave's SYNC unit by a datagram.
use Rattle.std.specs.Prelude.{◌≡◌, ℕ, true, Some}
use Rattle.sync_units.specs.SyncRule.{Armed, armed_by}
use Rattle.ecat_frame.specs.FrameGrammar.{DatagramValue}
use Rattle.esc_regs.specs.RegisterFile.{Registers}
use Rattle.esc_regs.specs.RegisterWrite.{told}
use Rattle.frame_pass.specs.SlaveState.{Slave, width, start_time, cycle_time}
use Rattle.frame_pass.specs.WriteEffects.{sync1_by}
use Rattle.frame_pass.specs.DatagramTable.{writes}
use Rattle.frame_pass.specs.DatagramAtSlave.{doing}

-- the unit that an activation byte arms by the registers as they stand
abbrev pub armed_from : ℕ → Registers → Armed
armed_from byte r = armed_by (width r.kind) (start_time r) (cycle_time r) (sync1_by byte r)

-- the datagram makes the slave write this activation byte
pub record Activates (byte : ℕ) (s : Slave) (d : DatagramValue) : Type 0 where
  pub writes : writes (doing s d) ≡ true
  pub brings : (told s.registers.kind d.head.ado d.payload).activation ≡ Some byte
