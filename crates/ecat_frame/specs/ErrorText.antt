-- The texts of the errors.
use Rattle.std.specs.Prelude.{ℕ, List, ◌++◌, codes, decimal}
use Rattle.ecat_frame.specs.declared.error.FrameError.{FrameError}
use Rattle.ecat_frame.specs.declared.error.FrameError.TheVariants.{Short, EtherType, FrameType, Length, Command, More, TooLong}

-- the reason, and the number in decimal
abbrev pub line_of_error : FrameError → List ℕ
line_of_error (Short n) = codes "short at " ++ decimal n
line_of_error (EtherType n) = codes "ethertype at " ++ decimal n
line_of_error (FrameType n) = codes "type at " ++ decimal n
line_of_error (Length n) = codes "length at " ++ decimal n
line_of_error (Command n) = codes "command at " ++ decimal n
line_of_error (More n) = codes "more at " ++ decimal n
line_of_error (TooLong n) = codes "too long at " ++ decimal n
