-- The texts of the faults of a line.
use Rattle.std.specs.Prelude.{ℕ, List, ◌++◌, codes, decimal}
use Rattle.ecat_frame.specs.ErrorText.{line_of_error}
use Rattle.dc_show.specs.declared.error.FrameFault.{FrameFault}
use Rattle.dc_show.specs.declared.error.FrameFault.TheVariants.{Hex, Frame}

abbrev pub fault_text : FrameFault → List ℕ
fault_text (Hex n) = codes "hex at " ++ decimal n
fault_text (Frame e) = line_of_error e
