-- The exit status and the text of each outcome.
use Rattle.std.specs.Prelude.{ℕ, List, [], ◌++◌, codes, decimal}
use Rattle.dc_show.specs.FaultText.{fault_text}
use Rattle.dc_top.specs.SegFaults.{segment_text}
use Rattle.dc_top.specs.Steps.{step_text}
use Rattle.dc_top.specs.declared.outcome.Outcome.{Outcome}
use Rattle.dc_top.specs.declared.outcome.Outcome.TheVariants.{Done, Usage, BadText, BadSegment, BadFrame, Lost, ReadFault, WriteFault, NoMemory, TooLong, NotYet}

abbrev pub status_of : Outcome → ℕ
status_of Done = 0
status_of Usage = 2
status_of BadText = 3
status_of (BadSegment fault) = 4
status_of (BadFrame line fault) = 5
status_of (Lost step) = 6
status_of ReadFault = 7
status_of WriteFault = 8
status_of NoMemory = 9
status_of TooLong = 10
status_of NotYet = 11

abbrev pub line_of_outcome : Outcome → List ℕ
line_of_outcome Done = []
line_of_outcome Usage = codes "dc: usage"
line_of_outcome BadText = codes "dc: not JSON"
line_of_outcome (BadSegment fault) = codes "dc: segment: " ++ segment_text fault
line_of_outcome (BadFrame line fault) = codes "dc: frame: line " ++ decimal line ++ codes " " ++ fault_text fault
line_of_outcome (Lost step) = codes "dc: lost " ++ step_text step
line_of_outcome ReadFault = codes "dc: read fault"
line_of_outcome WriteFault = codes "dc: write fault"
line_of_outcome NoMemory = codes "dc: no memory"
line_of_outcome TooLong = codes "dc: input too long"
line_of_outcome NotYet = codes "dc: not yet"
