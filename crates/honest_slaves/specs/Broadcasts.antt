-- Datagrams that every slave answers which does not refuse them.
use Rattle.std.specs.Prelude.{ℕ, Bool, true, false, if◌then◌else◌}
use Rattle.ecat_frame.specs.declared.command.Command.{Command}
use Rattle.ecat_frame.specs.declared.command.Command.TheVariants.{Brd, Bwr, Frmw}
use Rattle.esc_regs.specs.RegisterAccess.{is_refused}
use Rattle.frame_pass.specs.SlaveState.{Slave}

-- broadcasts that read or write, and FRMW, which one slave reads and the others write
unfoldable pub asks_all : Command → Bool
asks_all Brd = true
asks_all Bwr = true
asks_all Frmw = true
asks_all _ = false

-- 1 for a slave that does not refuse an access to these n bytes
abbrev pub accepting : ℕ → ℕ → Slave → ℕ
accepting addr n s = if is_refused s.registers.kind addr n then 0 else 1
