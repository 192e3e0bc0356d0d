-- The numbers of the commands (ETG.1000.4, section 5.4).
use Rattle.std.specs.Prelude.{ℕ, List, [], ◌∷◌}
use Rattle.ecat_frame.specs.declared.command.Command.{Command}
use Rattle.ecat_frame.specs.declared.command.Command.TheVariants.{Nop, Aprd, Apwr, Aprw, Fprd, Fpwr, Fprw, Brd, Bwr, Brw, Lrd, Lwr, Lrw, Armw, Frmw}

-- the commands in the order of their numbers
abbrev pub commands : List Command
commands = Nop ∷ Aprd ∷ Apwr ∷ Aprw ∷ Fprd ∷ Fpwr ∷ Fprw ∷ Brd ∷ Bwr ∷ Brw ∷ Lrd ∷ Lwr ∷ Lrw ∷ Armw ∷ Frmw ∷ []

-- the number of a command
abbrev pub code_of : Command → ℕ
code_of Nop = 0
code_of Aprd = 1
code_of Apwr = 2
code_of Aprw = 3
code_of Fprd = 4
code_of Fpwr = 5
code_of Fprw = 6
code_of Brd = 7
code_of Bwr = 8
code_of Brw = 9
code_of Lrd = 10
code_of Lwr = 11
code_of Lrw = 12
code_of Armw = 13
code_of Frmw = 14
