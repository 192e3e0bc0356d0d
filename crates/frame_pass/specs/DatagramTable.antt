-- What a slave does for a datagram, by its command: the table of the commands (ETG.1000.4, section 5.4).
-- That the reading slave of ARMW and FRMW counts 1, and each that writes too, is this project's rule.
use Rattle.std.specs.Prelude.{ℕ, ◌+◌, ◌%◌, ◌^◌, Bool, true, false, if◌then◌else◌}
use Rattle.ecat_frame.specs.declared.command.Command.{Command}
use Rattle.ecat_frame.specs.declared.command.Command.TheVariants.{Nop, Aprd, Apwr, Aprw, Fprd, Fpwr, Fprw, Brd, Bwr, Brw, Lrd, Lwr, Lrw, Armw, Frmw}

-- a slave passes the datagram on, reads for it, writes what it brings, or reads and then writes
pub data Doing : Type 0 where
  Passes : Doing
  Reads : Doing
  Writes : Doing
  ReadsWrites : Doing

abbrev pub when : Bool → Doing → Doing
when addressed doing = if addressed then doing else Passes

-- by the command, whether the ADP received is 0, and whether it is the slave's station address
unfoldable pub doing_by : Command → Bool → Bool → Doing
doing_by Nop is_zero is_own = Passes
doing_by Aprd is_zero is_own = when is_zero Reads
doing_by Apwr is_zero is_own = when is_zero Writes
doing_by Aprw is_zero is_own = when is_zero ReadsWrites
doing_by Fprd is_zero is_own = when is_own Reads
doing_by Fpwr is_zero is_own = when is_own Writes
doing_by Fprw is_zero is_own = when is_own ReadsWrites
doing_by Brd is_zero is_own = Reads
doing_by Bwr is_zero is_own = Writes
doing_by Brw is_zero is_own = ReadsWrites
doing_by Lrd is_zero is_own = Passes
doing_by Lwr is_zero is_own = Passes
doing_by Lrw is_zero is_own = Passes
doing_by Armw is_zero is_own = if is_zero then Reads else Writes
doing_by Frmw is_zero is_own = if is_own then Reads else Writes

-- every slave raises the ADP: where slaves are addressed by position, and at a broadcast
unfoldable pub raises_adp : Command → Bool
raises_adp Aprd = true
raises_adp Apwr = true
raises_adp Aprw = true
raises_adp Brd = true
raises_adp Bwr = true
raises_adp Brw = true
raises_adp Armw = true
raises_adp _ = false

-- what is read at a broadcast is ORed into the data; otherwise it takes their place
unfoldable pub merges : Command → Bool
merges Brd = true
merges Brw = true
merges _ = false

abbrev pub reads : Doing → Bool
reads Passes = false
reads Reads = true
reads Writes = false
reads ReadsWrites = true

abbrev pub writes : Doing → Bool
writes Passes = false
writes Reads = false
writes Writes = true
writes ReadsWrites = true

-- what the working counter gains
abbrev pub gain : Doing → ℕ
gain Passes = 0
gain Reads = 1
gain Writes = 1
gain ReadsWrites = 3

-- k more, in 16 bits
abbrev pub raised_by : ℕ → ℕ → ℕ
raised_by k n = (n + k) % 2 ^ 16
