-- What a register file holds.
use Rattle.std.specs.Prelude.{◌≡◌, ℕ, false, List, length, slice_index}
use Rattle.std.specs.List.{AllByRecursion}
use Rattle.esc_regs.specs.declared.clock_kind.ClockKind.{ClockKind}
use Rattle.esc_regs.specs.RegisterBytes.{number_at, AreBytes}
use Rattle.esc_regs.specs.RegisterTable.{registers, is_defined}

-- the kind of the slave's clock, and the bytes 0x0000 to 0x0FFF
pub record Registers : Type 0 where
  pub kind : ClockKind
  pub bytes : List ℕ

-- the bytes that belong to no register are 0
pub record HasZeros (kind : ClockKind) (bytes : List ℕ) : Type 0 where
  pub zero_at : (a : ℕ) → is_defined kind a ≡ false → slice_index bytes a ≡ 0

-- 4096 bytes, each below 256, and those that belong to no register are 0
pub record IsWhole (file : Registers) : Type 0 where
  pub size : length file.bytes ≡ 4096
  pub zeros : HasZeros file.kind file.bytes
  pub are_bytes : AreBytes file.bytes

-- each register of the table has its number at the start
abbrev pub StartsBy : ClockKind → List ℕ → Type 0
StartsBy kind bytes = AllByRecursion (λ r. number_at r.bytes r.addr bytes ≡ r.start kind) registers
