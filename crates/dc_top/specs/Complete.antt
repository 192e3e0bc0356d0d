-- Inputs that nothing stands against: over them a command is done.
use Rattle.std.specs.Prelude.{◌≡◌, ℕ, ◌≤◌, List, [], length, Option, Some, None, ⊤}
use Rattle.dc_show.specs.Shown.{Shows}
use Rattle.lost_step.specs.LostStep.{lost_step_of}
use Rattle.segment_file.specs.Segment.{SegmentValue}
use Rattle.segment_file.specs.Told.{IsSegmentText}
use Rattle.dc_top.specs.Answers.{input_limit, reading}
use Rattle.dc_top.specs.Runs.{goes_on}
use Rattle.dc_top.specs.declared.reading.InputUse.{InputUse}
use Rattle.dc_top.specs.declared.reading.InputUse.TheVariants.{WholeInput, NoInput}
use Rattle.dc_top.specs.declared.report.Report.{Report}
use Rattle.dc_top.specs.declared.report.Report.TheVariants as report
use Rattle.dc_words.specs.declared.command.Command.{Command}
use Rattle.dc_words.specs.declared.command.Command.TheVariants.{Run, Delays, Check, Show, Gen, Drill, Migrate}

-- a legal file
abbrev pub IsLegalFile : List ℕ → Type 0
IsLegalFile bytes = (s : SegmentValue) × IsSegmentText bytes s

-- a legal file of which no exchange that the run reaches has its three tries listed as lost
abbrev pub RunsThrough : Report → List ℕ → Type 0
RunsThrough report bytes = (s : SegmentValue) × (IsSegmentText bytes s × (lost_step_of s (goes_on report) ≡ None))

-- Nothing in the input stands against the command: of `show`, every line that is not empty is a frame. `gen` and `drill` have none,
-- and other commands are not built.
abbrev pub IsGood : Command → List ℕ → Type 0
IsGood (Run edges) bytes = RunsThrough (report.Run edges) bytes
IsGood Delays bytes = RunsThrough report.Delays bytes
IsGood Check bytes = IsLegalFile bytes
IsGood Show bytes = (text : List ℕ) × Shows 1 bytes text
IsGood (Gen slaves seed) bytes = ⊤
IsGood (Drill slaves seed) bytes = ⊤
IsGood Migrate bytes = IsLegalFile bytes
IsGood command bytes = ⊥

-- what the source tells is good, and short enough to be read
abbrev pub HasGoodBytes : Command → Option (List ℕ) → Type 0
HasGoodBytes command None = ⊥
HasGoodBytes command (Some bytes) = (length bytes ≤ input_limit) × IsGood command bytes

abbrev pub IsServedBy : InputUse → Command → Option (List ℕ) → Type 0
IsServedBy WholeInput command left = HasGoodBytes command left
IsServedBy NoInput command left = IsGood command []

-- a command that is built, with a good input or none
abbrev pub IsServable : Option Command → Option (List ℕ) → Type 0
IsServable None left = ⊥
IsServable (Some command) left = IsServedBy (reading command) command left
