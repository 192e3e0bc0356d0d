-- Slaves by position: what each of them is, and the station address that it has or may be given.
use Rattle.std.specs.Prelude.{◌≡◌, ◌⊎◌, ℕ, nat_lt, Bool, true, false, List, length, Some, slice_get}
use Rattle.esc_regs.specs.declared.clock_kind.ClockKind.{ClockKind}
use Rattle.esc_regs.specs.RegisterTable.{features}
use Rattle.frame_pass.specs.SlaveState.{Slave, holds, station}
use Rattle.master_script.specs.Frames.{station as own_station}

-- a slave of this kind, which shows the features of its kind and this DL status
pub record IsSlave (kind : ClockKind) (status : ℕ) (s : Slave) : Type 0 where
  pub size : length s.registers.bytes ≡ 4096
  pub kind_is : s.registers.kind ≡ kind
  pub features_are : holds 2 0x0008 s.registers ≡ features kind
  pub status_is : holds 2 0x0110 s.registers ≡ status

-- the station address that a master gives the slave at a position
abbrev pub own_address : ℕ → ℕ
own_address q = own_station q

-- a slave that was given its station address, and one that may have none yet
abbrev pub HasAddress : Bool → ℕ → ℕ → Type 0
HasAddress true q address = address ≡ own_address q
HasAddress false q address = (address ≡ 0) ⊎ (address ≡ own_address q)

-- the slave at a position, which was given its station address or not
pub record Stands (kind : ClockKind) (status : ℕ) (named : Bool) (q : ℕ) (s : Slave) : Type 0 where
  pub slave : IsSlave kind status s
  pub address : HasAddress named q (station s.registers)

-- each slave at its position, of these kinds and statuses; the first so many were given their station addresses
abbrev pub AreStanding : (ℕ → ClockKind) → (ℕ → ℕ) → ℕ → List Slave → Type 0
AreStanding kinds statuses named ss =
    (q : ℕ) (s : Slave) → slice_get ss q ≡ Some s → Stands (kinds q) (statuses q) (nat_lt q named) q s
