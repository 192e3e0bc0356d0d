-- What each answer of the top call says of the words, of the bytes that were read, of those that were written, and of the bench.
use Rattle.std.specs.Prelude.{◌≡◌, ◌⊎◌, ◌≤◌, ℕ, List, [], length, Option, Some, None, ⊤}
use Rattle.std.specs.Io.KnownBytes.{Appends, Keeps}
use Rattle.dc_base.specs.Told.{Drained, HasMore}
use Rattle.dc_bench.specs.BenchState.{BenchState}
use Rattle.dc_show.specs.Shown.{Shows, Refuses}
use Rattle.segment_draw.specs.Generated.{generated}
use Rattle.segment_file.specs.Segment.{SegmentValue}
use Rattle.segment_file.specs.Told.{IsSegmentText, IsTold}
use Rattle.segment_file.specs.Written.{segment_text}
use Rattle.segment_file.specs.declared.seg_error.SegError.TheVariants as error
use Rattle.segment_text.specs.Migrated.{migrated}
use Rattle.dc_top.specs.CheckText.{check_text}
use Rattle.dc_top.specs.Runs.{IsLost, IsReport}
use Rattle.dc_top.specs.SegFaults.{error_of}
use Rattle.dc_top.specs.Written.{IsCut}
use Rattle.dc_top.specs.declared.reading.InputUse.{InputUse}
use Rattle.dc_top.specs.declared.reading.InputUse.TheVariants.{WholeInput, NoInput}
use Rattle.dc_top.specs.declared.report.Report.{Report}
use Rattle.dc_top.specs.declared.report.Report.TheVariants as report
use Rattle.dc_words.specs.declared.command.Command.{Command}
use Rattle.dc_words.specs.declared.command.Command.TheVariants.{Run, Delays, Check, Show, Gen, Drill, Migrate}
use Rattle.dc_top.specs.declared.outcome.Outcome.{Outcome}
use Rattle.dc_top.specs.declared.outcome.Outcome.TheVariants.{Done, Usage, BadText, BadSegment, BadFrame, Lost, ReadFault, WriteFault, NoMemory, TooLong, NotYet}

-- the greatest length of an input
abbrev pub input_limit : ℕ
input_limit = 16777216

-- the bytes are a legal file, and P holds of its segment
pub record OfFile (bytes : List ℕ) (P : SegmentValue → Type 0) : Type 0 where
  pub segment : SegmentValue
  pub legal : IsSegmentText bytes segment
  pub holds : P segment

-- a command that drives no wire leaves no bench
abbrev pub Idle : Type 0 → Option BenchState → Type 0
Idle P bench = P × (bench ≡ None)

-- Command by command what is written of the input, and what is left in the bench; `gen` and `drill` have no input.
abbrev pub Writes : Command → List ℕ → List ℕ → Option BenchState → Type 0
Writes (Run edges) bytes text bench = OfFile bytes (λ s. IsReport (report.Run edges) s text bench)
Writes Delays bytes text bench = OfFile bytes (λ s. IsReport report.Delays s text bench)
Writes Check bytes text bench = Idle (OfFile bytes (λ s. text ≡ check_text s)) bench
Writes Show bytes text bench = Idle (Shows 1 bytes text) bench
Writes (Gen slaves seed) bytes text bench = Idle (text ≡ segment_text (generated slaves seed)) bench
Writes (Drill slaves seed) bytes text bench = IsReport report.Drill (generated slaves seed) text bench
Writes Migrate bytes text bench = Idle (OfFile bytes (λ s. text ≡ segment_text (migrated s))) bench
Writes command bytes text bench = ⊥

-- why a file is refused; want of memory says nothing of it
abbrev pub RefusesFile : List ℕ → Outcome → Type 0
RefusesFile bytes BadText = IsTold bytes error.BadText
RefusesFile bytes (BadSegment fault) = IsTold bytes (error_of fault)
RefusesFile bytes NoMemory = ⊤
RefusesFile bytes o = ⊥

-- how a run ends that is not whole
abbrev pub RefusesRun : Report → SegmentValue → Outcome → Option BenchState → Type 0
RefusesRun r s (Lost step) bench = IsLost r s step bench
RefusesRun r s NoMemory bench = ⊤
RefusesRun r s o bench = ⊥

-- a file that is driven is refused, or the run of its segment is not whole
abbrev pub RefusesDriven : Report → List ℕ → Outcome → Option BenchState → Type 0
RefusesDriven r bytes o bench = Idle (RefusesFile bytes o) bench ⊎ OfFile bytes (λ s. RefusesRun r s o bench)

-- why lines of digits are refused
abbrev pub RefusesLines : List ℕ → Outcome → Type 0
RefusesLines bytes (BadFrame line fault) = Refuses 1 bytes line fault
RefusesLines bytes NoMemory = ⊤
RefusesLines bytes o = ⊥

-- Command by command why nothing is written. A segment that is drawn loses no frame, so its run is whole; other commands are not built.
abbrev pub RefusesBy : Command → List ℕ → Outcome → Option BenchState → Type 0
RefusesBy (Run edges) bytes o bench = RefusesDriven (report.Run edges) bytes o bench
RefusesBy Delays bytes o bench = RefusesDriven report.Delays bytes o bench
RefusesBy Check bytes o bench = Idle (RefusesFile bytes o) bench
RefusesBy Show bytes o bench = Idle (RefusesLines bytes o) bench
RefusesBy (Gen slaves seed) bytes o bench = Idle (o ≡ NoMemory) bench
RefusesBy (Drill slaves seed) bytes o bench = o ≡ NoMemory
RefusesBy Migrate bytes o bench = Idle (RefusesFile bytes o) bench
RefusesBy command bytes o bench = Idle ((o ≡ NotYet) ⊎ (o ≡ NoMemory)) bench

-- What an answer over the whole input says: Done appends the whole text, WriteFault a front of a text that is not empty, and every other
-- answer keeps what was taken. No fault of the source is answered, nor that the input is too long.
abbrev pub ServedBy : Command → List ℕ → Outcome → Option (List ℕ) → Option (List ℕ) → Option BenchState → Type 0
ServedBy command bytes Done taken taken' bench = (text : List ℕ) × (Writes command bytes text bench × Appends taken taken' text)
ServedBy command bytes WriteFault taken taken' bench = (text : List ℕ) × (Writes command bytes text bench × IsCut text taken taken')
ServedBy command bytes ReadFault taken taken' bench = ⊥
ServedBy command bytes TooLong taken taken' bench = ⊥
ServedBy command bytes o taken taken' bench = RefusesBy command bytes o bench × Keeps taken taken'

-- the bytes are the whole input
abbrev pub IsInput : Option (List ℕ) → Option (List ℕ) → List ℕ → Type 0
IsInput left left' bytes = Drained left left' bytes × (length bytes ≤ input_limit)

-- what an answer says of an input that could not be read to its end
abbrev pub Unread : Outcome → Option (List ℕ) → Type 0
Unread ReadFault left = ⊤
Unread NoMemory left = ⊤
Unread TooLong left = HasMore left input_limit
Unread o left = ⊥

-- the answers to a command with an input, which is read to its end, or could not be
abbrev pub AnsweredOver : Command → Outcome → Option (List ℕ) → Option (List ℕ) → Option (List ℕ) → Option (List ℕ) → Option BenchState
    → Type 0
AnsweredOver command ReadFault left left' taken taken' bench = Keeps taken taken' × (bench ≡ None)
AnsweredOver command NoMemory left left' taken taken' bench = Keeps taken taken'
AnsweredOver command TooLong left left' taken taken' bench = HasMore left input_limit × Keeps taken taken' × (bench ≡ None)
AnsweredOver command o left left' taken taken' bench =
    (bytes : List ℕ) × (IsInput left left' bytes × ServedBy command bytes o taken taken' bench)

-- the answers to a command without an input, of which nothing is read
abbrev pub AnsweredAlone : Command → Outcome → Option (List ℕ) → Option (List ℕ) → Option (List ℕ) → Option (List ℕ) → Option BenchState
    → Type 0
AnsweredAlone command o left left' taken taken' bench = Keeps left left' × ServedBy command [] o taken taken' bench

-- what a command does with the input
abbrev pub reading : Command → InputUse
reading (Run edges) = WholeInput
reading Delays = WholeInput
reading Check = WholeInput
reading Show = WholeInput
reading Migrate = WholeInput
reading command = NoInput

abbrev pub AnsweredIn : InputUse → Command → Outcome → Option (List ℕ) → Option (List ℕ) → Option (List ℕ) → Option (List ℕ)
    → Option BenchState → Type 0
AnsweredIn WholeInput command o left left' taken taken' bench = AnsweredOver command o left left' taken taken' bench
AnsweredIn NoInput command o left left' taken taken' bench = AnsweredAlone command o left left' taken taken' bench

-- the answers to words: Usage to those that are no command, where nothing is read or written
abbrev pub Answered : Option Command → Outcome → Option (List ℕ) → Option (List ℕ) → Option (List ℕ) → Option (List ℕ) → Option BenchState
    → Type 0
Answered None o left left' taken taken' bench = ((o ≡ Usage) ⊎ (o ≡ NoMemory)) × Keeps left left' × Keeps taken taken' × (bench ≡ None)
Answered (Some command) o left left' taken taken' bench = AnsweredIn (reading command) command o left left' taken taken' bench

-- the commands that read an input
abbrev pub HasInput : Option Command → Type 0
HasInput None = ⊥
HasInput (Some command) = reading command ≡ WholeInput

-- the commands that drive a wire
abbrev pub DrivesWire : Option Command → Type 0
DrivesWire (Some (Run edges)) = ⊤
DrivesWire (Some Delays) = ⊤
DrivesWire (Some (Drill slaves seed)) = ⊤
DrivesWire command = ⊥
