-- What the answer of the top call says of the bench behind a run.
use Rattle.std.proofs.Common.{◌≡◌, ℕ, Bool, List, Option, Some, Ok, sym, subst}
use Rattle.dc_bench.specs.BenchState.{BenchState}
use Rattle.dc_top.specs.Answers.{Answered}
use Rattle.dc_top.specs.declared.outcome.Outcome.{Outcome}
use Rattle.dc_top.specs.declared.outcome.Outcome.TheVariants.{Done}
use Rattle.dc_words.specs.CommandOfWords.{command_of}
use Rattle.dc_words.specs.declared.command.Command.{Command}
use Rattle.dc_words.specs.declared.command.Command.TheVariants.{Run}
use Rattle.segment_bench.specs.BenchRun.{HasRun}
use Rattle.segment_file.specs.Segment.{SegmentValue}
use Rattle.segment_file.specs.Told.{IsSegmentText}
use Rattle.segment_file.proofs.Exported.{one_segment}
use Rattle.acceptance.specs.Runs.{HoldsRun}

-- the bytes are the text of one segment
of_run : (edges : Bool) (bytes : List ℕ) (left' taken taken' : Option (List ℕ)) (b : BenchState) (s : SegmentValue)
    → Answered (Some (Run edges)) Done (Some bytes) left' taken taken' (Some b) → IsSegmentText bytes s → HasRun s b (Ok tt)
of_run edges bytes left' taken taken' b s h is =
    let file = h.1.1.1.0 in
    let same : bytes ≡ h.0 = h.1.0.0.0 in
    let one : file.segment ≡ s = one_segment bytes file.segment s (subst (λ x. IsSegmentText x file.segment) (sym same) file.legal) is in
    subst (λ t. HasRun t b (Ok tt)) one file.holds.run

pub holds_run : (words : List (List ℕ)) (bytes : List ℕ) (o : Outcome) (left' taken taken' : Option (List ℕ)) (bench : Option BenchState)
    → Answered (command_of words) o (Some bytes) left' taken taken' bench → HoldsRun words bytes o bench
holds_run words bytes o left' taken taken' bench h b done left edges s command is =
    let asked = subst (λ (c : Option Command). Answered c o (Some bytes) left' taken taken' bench) command h in
    let whole = subst (λ (x : Outcome). Answered (Some (Run edges)) x (Some bytes) left' taken taken' bench) done asked in
    of_run edges bytes left' taken taken' b s (subst (λ (x : Option BenchState). Answered (Some (Run edges)) Done (Some bytes) left' taken taken' x) left whole) is
