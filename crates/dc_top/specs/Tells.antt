-- Which outcome tells an error of the calls below.
use Rattle.std.specs.Prelude.{◌≡◌}
use Rattle.dc_show.specs.declared.error.ShowError.{ShowError}
use Rattle.dc_show.specs.declared.error.ShowError.TheVariants as show
use Rattle.segment_file.specs.declared.seg_error.SegError.{SegError}
use Rattle.segment_file.specs.declared.seg_error.SegError.TheVariants as error
use Rattle.dc_top.specs.SegFaults.{error_of}
use Rattle.dc_top.specs.declared.outcome.Outcome.{Outcome}
use Rattle.dc_top.specs.declared.outcome.Outcome.TheVariants.{BadText, BadSegment, BadFrame, NoMemory}

-- of a segment file
abbrev pub TellsFile : Outcome → SegError → Type 0
TellsFile BadText e = e ≡ error.BadText
TellsFile (BadSegment fault) e = e ≡ error_of fault
TellsFile NoMemory e = e ≡ error.NoMemory
TellsFile o e = ⊥

-- of lines of digits
abbrev pub TellsLines : Outcome → ShowError → Type 0
TellsLines (BadFrame line fault) e = e ≡ show.BadFrame line fault
TellsLines NoMemory e = e ≡ show.NoMemory
TellsLines o e = ⊥
