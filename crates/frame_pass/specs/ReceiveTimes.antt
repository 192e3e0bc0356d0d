-- The receive times of a slave (ESC data sheet, 0x0900 to 0x090F and 0x0918) behind a frame that makes it latch.
use Rattle.std.specs.Prelude.{◌≡◌, ℕ, ◌+◌, ◌%◌, ◌^◌, ◌≤◌, ◌⊎◌, length, Option, Some, None, IfSome, if◌then◌else◌}
use Rattle.esc_regs.specs.RegisterFile.{Registers}
use Rattle.frame_pass.specs.SlaveState.{Visits, Slave, holds}
use Rattle.frame_pass.specs.FramePass.{comes_by}

-- the n bytes at a place are among those of the receive times
abbrev pub IsReceiveTime : ℕ → ℕ → Type 0
IsReceiveTime at n = ((0x0900 ≤ at) × (at + n ≤ 0x0910)) ⊎ ((0x0918 ≤ at) × (at + n ≤ 0x0920))

-- the later of two visits of which the second may not be
abbrev pub until : ℕ → Option ℕ → ℕ
until before None = before
until before (Some at) = at

-- a frame comes back into the ports after its arrival, one after another: into port 3, 1 and 2
pub record AreInTurn (v : Visits) : Type 0 where
  pub port3 : IfSome v.back3 (λ at. v.arrive ≤ at)
  pub port1 : IfSome v.back1 (λ at. until v.arrive v.back3 ≤ at)
  pub port2 : IfSome v.back2 (λ at. until (until v.arrive v.back3) v.back1 ≤ at)

-- A slave before a frame that is sent at a time: 4096 bytes of registers, a present time not past the arrival, and ports
-- visited in turn.
pub record IsBefore (sent : ℕ) (s : Slave) : Type 0 where
  pub size : length s.registers.bytes ≡ 4096
  pub time : IfSome s.timing (λ m. m.clock.instant ≤ sent + s.visits.arrive)
  pub visits : AreInTurn s.visits

-- what the register of a port holds: where the frame comes back into it, the low half of what the clock shows then, and
-- else what it held before
abbrev pub port_time : (ℕ → ℕ) → ℕ → Option ℕ → Option ℕ → ℕ → ℕ
port_time reading sent end None before = before
port_time reading sent end (Some at) before = if comes_by end at then reading (sent + at) % 2 ^ 32 else before

-- The registers behind a frame that makes the slave latch, where the clock shows such readings at the instants of the
-- visits.
pub record AreReceiveTimes (reading : ℕ → ℕ) (sent : ℕ) (end : Option ℕ) (v : Visits) (before after : Registers) : Type 0 where
  pub port0 : holds 4 0x0900 after ≡ reading (sent + v.arrive) % 2 ^ 32
  pub port1 : holds 4 0x0904 after ≡ port_time reading sent end v.back1 (holds 4 0x0904 before)
  pub port2 : holds 4 0x0908 after ≡ port_time reading sent end v.back2 (holds 4 0x0908 before)
  pub port3 : holds 4 0x090C after ≡ port_time reading sent end v.back3 (holds 4 0x090C before)
  pub unit : holds 8 0x0918 after ≡ reading (sent + v.arrive)
