-- What the answer to a command says of what was written and refused.
use Rattle.std.proofs.Common.{◌≡◌, ◌∙◌, ℕ, List, Option, Some, None, Ok, Err, Result, ap, inl, inr, refl, sym, subst}
use Rattle.std.specs.Prelude.{◌⊎◌, IfErr, true, ⊤}
use Rattle.std.specs.Result.{IsErrAnd}
use Rattle.std.proofs.lemmas.Result.{IfErr-weaker, err_from_is_err_and}
use Rattle.std.specs.Io.KnownBytes.{Keeps}
use Rattle.dc_bench.specs.BenchState.{BenchState}
use Rattle.dc_show.specs.Shown.{IsShowError}
use Rattle.dc_show.specs.declared.error.ShowError.{ShowError}
use Rattle.lost_step.specs.LostStep.{lost_step_of}
use Rattle.run_counts.proofs.Exported.{lossless}
use Rattle.segment_draw.specs.Generated.{generated}
use Rattle.segment_file.specs.Segment.{SegmentValue}
use Rattle.segment_file.specs.Told.{IsTold}
use Rattle.segment_file.specs.declared.seg_error.SegError.{SegError}
use Rattle.dc_words.specs.declared.command.Command.{Command}
use Rattle.dc_words.specs.declared.command.Command.TheVariants.{Run, Delays, Check, Show, Gen, Drill, Migrate}
use Rattle.dc_top.specs.Answers.{Idle, RefusesBy, RefusesDriven, RefusesFile, RefusesLines, RefusesRun, ServedBy, Writes}
use Rattle.dc_top.specs.Tells.{TellsFile, TellsLines}
use Rattle.dc_top.specs.Written.{Wrote}
use Rattle.dc_top.specs.declared.outcome.Outcome.{Outcome}
use Rattle.dc_top.specs.declared.outcome.Outcome.TheVariants.{Done, Usage, BadText, BadSegment, BadFrame, Lost, ReadFault, WriteFault, NoMemory, TooLong, NotYet}
use Rattle.dc_top.specs.declared.report.Report.{Report}
use Rattle.dc_top.specs.declared.report.Report.TheVariants as report

-- what was taken and is left as it was
pub keeps : (taken : Option (List ℕ)) → Keeps taken taken
keeps None = tt
keeps (Some bytes) = refl

-- ---- what an error of the calls below says

pub told_file : (bytes : List ℕ) (o : Outcome) (e : SegError) → IsTold bytes e → TellsFile o e → RefusesFile bytes o
told_file bytes BadText e told is = subst (IsTold bytes) is told
told_file bytes (BadSegment fault) e told is = subst (IsTold bytes) is told
told_file bytes NoMemory e told is = tt
told_file bytes o e told is = is

pub told_lines : (bytes : List ℕ) (o : Outcome) (e : ShowError) → IsShowError bytes e → TellsLines o e → RefusesLines bytes o
told_lines bytes (BadFrame line fault) e told is = subst (IsShowError bytes) is told
told_lines bytes NoMemory e told is = tt
told_lines bytes o e told is = is

-- so what the exit of a `?` hands on
pub file_handed : {X : Type 0} (bytes : List ℕ) (r : Result X Outcome) (e : SegError) → IsTold bytes e → IsErrAnd r (λ o. TellsFile o e) → IfErr r (RefusesFile bytes)
file_handed bytes r e told h = let p = err_from_is_err_and r h in rw p.1 (told_file bytes p.0 e told p.2)

pub lines_handed : {X : Type 0} (bytes : List ℕ) (r : Result X Outcome) (e : ShowError) → IsShowError bytes e → IsErrAnd r (λ o. TellsLines o e) → IfErr r (RefusesLines bytes)
lines_handed bytes r e told h = let p = err_from_is_err_and r h in rw p.1 (told_lines bytes p.0 e told p.2)

-- a command that drives no wire has left no bench
pub idle_refused : {X : Type 0} (r : Result X Outcome) (P : Outcome → Type 0) → IfErr r P → IfErr r (λ o. Idle (P o) None)
idle_refused r P h = IfErr-weaker r P (λ o. Idle (P o) None) (λ o p. (p, refl)) h

-- a segment that is drawn loses no step
pub drawn_whole : (n seed : ℕ) (o : Outcome) (bench : Option BenchState) → RefusesRun report.Drill (generated n seed) o bench → o ≡ NoMemory
drawn_whole n seed (Lost step) None h = absurd h
drawn_whole n seed (Lost step) (Some b) h =
    let none : lost_step_of (generated n seed) true ≡ None = lossless (generated n seed) true refl in
    let both : Some step ≡ None = sym h.losses ∙ none in
    absurd (let x = both in cc)
drawn_whole n seed NoMemory bench h = refl
drawn_whole n seed o bench h = absurd h

-- ---- the answer behind a text, and behind a refusal

pub wrote : (command : Command) (bytes text : List ℕ) (o : Outcome) (taken taken' : Option (List ℕ)) (bench : Option BenchState)
    → Writes command bytes text bench → Wrote text o taken taken' → ServedBy command bytes o taken taken' bench
wrote command bytes text Done taken taken' bench h w = (text, (h, w))
wrote command bytes text WriteFault taken taken' bench h w = (text, (h, w))
wrote command bytes text o taken taken' bench h w = absurd w

-- the answers by which a command can be refused
abbrev IsRefusal : Outcome → Type 0
IsRefusal Done = ⊥
IsRefusal WriteFault = ⊥
IsRefusal ReadFault = ⊥
IsRefusal TooLong = ⊥
IsRefusal o = ⊤

of_file : (bytes : List ℕ) (o : Outcome) → RefusesFile bytes o → IsRefusal o
of_file bytes BadText h = tt
of_file bytes (BadSegment fault) h = tt
of_file bytes NoMemory h = tt
of_file bytes o h = absurd h

of_lines : (bytes : List ℕ) (o : Outcome) → RefusesLines bytes o → IsRefusal o
of_lines bytes (BadFrame line fault) h = tt
of_lines bytes NoMemory h = tt
of_lines bytes o h = absurd h

of_run : (r : Report) (s : SegmentValue) (o : Outcome) (bench : Option BenchState) → RefusesRun r s o bench → IsRefusal o
of_run r s (Lost step) bench h = tt
of_run r s NoMemory bench h = tt
of_run r s o bench h = absurd h

of_driven : (r : Report) (bytes : List ℕ) (o : Outcome) (bench : Option BenchState) → RefusesDriven r bytes o bench → IsRefusal o
of_driven r bytes o bench (inl h) = of_file bytes o h.0
of_driven r bytes o bench (inr h) = of_run r h.segment o bench h.holds

of_memory : (o : Outcome) → o ≡ NoMemory → IsRefusal o
of_memory o e = subst IsRefusal (sym e) tt

of_other : (o : Outcome) → (o ≡ NotYet) ⊎ (o ≡ NoMemory) → IsRefusal o
of_other o (inl e) = subst IsRefusal (sym e) tt
of_other o (inr e) = of_memory o e

refusal : (command : Command) (bytes : List ℕ) (o : Outcome) (bench : Option BenchState) → RefusesBy command bytes o bench → IsRefusal o
refusal (Run edges) bytes o bench h = of_driven (report.Run edges) bytes o bench h
refusal Delays bytes o bench h = of_driven report.Delays bytes o bench h
refusal Check bytes o bench h = of_file bytes o h.0
refusal Show bytes o bench h = of_lines bytes o h.0
refusal (Gen slaves seed) bytes o bench h = of_memory o h.0
refusal (Drill slaves seed) bytes o bench h = of_memory o h
refusal Migrate bytes o bench h = of_file bytes o h.0
refusal command bytes o bench h = of_other o h.0

pub refused : (command : Command) (bytes : List ℕ) (o : Outcome) (taken : Option (List ℕ)) (bench : Option BenchState) → RefusesBy command bytes o bench → ServedBy command bytes o taken taken bench
refused command bytes Done taken bench h = absurd (refusal command bytes Done bench h)
refused command bytes WriteFault taken bench h = absurd (refusal command bytes WriteFault bench h)
refused command bytes ReadFault taken bench h = absurd (refusal command bytes ReadFault bench h)
refused command bytes TooLong taken bench h = absurd (refusal command bytes TooLong bench h)
refused command bytes o taken bench h = (h, keeps taken)
