-- What a call leaves behind a run.
use Rattle.std.specs.Prelude.{◌≡◌, ℕ, Bool, List, Option, Some, Ok}
use Rattle.dc_bench.specs.BenchState.{BenchState}
use Rattle.dc_top.specs.declared.outcome.Outcome.{Outcome}
use Rattle.dc_top.specs.declared.outcome.Outcome.TheVariants.{Done}
use Rattle.dc_words.specs.CommandOfWords.{command_of}
use Rattle.dc_words.specs.declared.command.Command.TheVariants.{Run}
use Rattle.segment_bench.specs.BenchRun.{HasRun}
use Rattle.segment_file.specs.Segment.{SegmentValue}
use Rattle.segment_file.specs.Told.{IsSegmentText}

-- where the words ask for a run of a legal file, the bench stands at the end of that run
abbrev pub StandsAtEnd : List (List ℕ) → List ℕ → BenchState → Type 0
StandsAtEnd words bytes b =
    (edges : Bool) (s : SegmentValue) → command_of words ≡ Some (Run edges) → IsSegmentText bytes s → HasRun s b (Ok tt)

-- so it does behind Done, where there is one
abbrev pub HoldsRun : List (List ℕ) → List ℕ → Outcome → Option BenchState → Type 0
HoldsRun words bytes o bench = (b : BenchState) → o ≡ Done → bench ≡ Some b → StandsAtEnd words bytes b
