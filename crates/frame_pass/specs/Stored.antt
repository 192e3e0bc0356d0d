-- The registers that writes store.
use Rattle.std.specs.Prelude.{ℕ, ◌&&◌, ◌==◌, Bool, false}
use Rattle.std.specs.List.{list_any}
use Rattle.esc_regs.specs.RegisterTable.{Register, registers}
use Rattle.esc_regs.specs.RegisterAccess.{stores}

-- a register of n bytes stands at the address, and a write stores it whatever it brings
abbrev pub is_stored_at : ℕ → ℕ → Register → Bool
is_stored_at addr n r = (r.addr == addr) && ((r.bytes == n) && stores false r.writes)

abbrev pub is_stored : ℕ → ℕ → Bool
is_stored addr n = list_any (is_stored_at addr n) registers
