-- Frames that write none of the bytes at a place of a slave, as they are sent.
use Rattle.std.specs.Prelude.{◌≡◌, ◌⊎◌, ℕ, ◌==◌, Bool, true, false, List, length}
use Rattle.std.specs.List.{AllByRecursion}
use Rattle.ecat_frame.specs.FrameGrammar.{DatagramValue}
use Rattle.ecat_frame.specs.declared.command.Command.{Command}
use Rattle.ecat_frame.specs.declared.command.Command.TheVariants.{Nop, Aprd, Fprd, Fpwr, Brd, Lrd, Lwr, Lrw}
use Rattle.esc_regs.specs.RegisterBytes.{AreApart}
use Rattle.frame_pass.specs.SlaveState.{Slave}

-- the commands by which no slave writes; those of logical addresses are passed on
unfoldable pub never_writes : Command → Bool
never_writes Nop = true
never_writes Aprd = true
never_writes Fprd = true
never_writes Brd = true
never_writes Lrd = true
never_writes Lwr = true
never_writes Lrw = true
never_writes _ = false

-- a slave of this station address writes none of the n bytes at a place for the datagram: its command never writes, or it
-- is written at another station address, or elsewhere
abbrev pub IsAside : ℕ → ℕ → ℕ → DatagramValue → Type 0
IsAside at n own d =
    (never_writes d.head.command ≡ true)
    ⊎ (((d.head.command ≡ Fpwr) × ((d.head.adp == own) ≡ false)) ⊎ AreApart d.head.ado (length d.payload) at n)

abbrev pub AreAside : ℕ → ℕ → ℕ → List DatagramValue → Type 0
AreAside at n own ds = AllByRecursion (IsAside at n own) ds

-- each slave has 4096 bytes of registers
abbrev pub HaveSize : List Slave → Type 0
HaveSize ss = AllByRecursion (λ s. length s.registers.bytes ≡ 4096) ss
