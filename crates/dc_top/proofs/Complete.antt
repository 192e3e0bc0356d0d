-- A command is done over an input that nothing stands against, but for want of memory and faults.
use Rattle.std.proofs.Common.{◌≡◌, ◌∙◌, ℕ, List, [], Option, Some, None, ap, arith, inl, inr, refl, sym, subst}
use Rattle.std.specs.Prelude.{◌⊎◌}
use Rattle.dc_bench.specs.BenchState.{BenchState}
use Rattle.dc_show.specs.Shown.{Shows}
use Rattle.dc_show.proofs.Exported.{text_or_refusal}
use Rattle.lost_step.specs.LostStep.{lost_step_of}
use Rattle.segment_file.specs.Segment.{SegmentValue}
use Rattle.segment_file.specs.Told.{IsSegmentText}
use Rattle.segment_file.proofs.Exported.{one_segment}
use Rattle.dc_base.specs.Causes.{Rose}
use Rattle.dc_top.specs.Answers.{Answered, AnsweredAlone, AnsweredIn, AnsweredOver, RefusesBy, RefusesDriven, RefusesLines, RefusesRun, reading}
use Rattle.dc_top.specs.Complete.{HasGoodBytes, IsGood, IsServable, IsServedBy, RunsThrough}
use Rattle.dc_top.specs.Runs.{goes_on}
use Rattle.dc_top.specs.declared.outcome.Outcome.{Outcome}
use Rattle.dc_top.specs.declared.outcome.Outcome.TheVariants.{Done, BadFrame, Lost, ReadFault, WriteFault, NoMemory, TooLong}
use Rattle.dc_top.specs.declared.reading.InputUse.{InputUse}
use Rattle.dc_top.specs.declared.reading.InputUse.TheVariants.{WholeInput, NoInput}
use Rattle.dc_top.specs.declared.report.Report.{Report}
use Rattle.dc_top.specs.declared.report.Report.TheVariants as report
use Rattle.dc_words.specs.declared.command.Command.{Command}
use Rattle.dc_words.specs.declared.command.Command.TheVariants.{Run, Delays, Check, Show, Gen, Drill, Migrate}
use Rattle.dc_top.proofs.Exported.{only_memory}

-- ---- a good input is refused by no command, but for want of memory

run_through : (r : Report) (s : SegmentValue) (o : Outcome) (bench : Option BenchState) → lost_step_of s (goes_on r) ≡ None → RefusesRun r s o bench → o ≡ NoMemory
run_through r s (Lost step) None whole h = absurd h
run_through r s (Lost step) (Some b) whole h = absurd (let both = sym h.losses ∙ whole in cc)
run_through r s NoMemory bench whole h = refl
run_through r s o bench whole h = absurd h

driven : (r : Report) (bytes : List ℕ) (o : Outcome) (bench : Option BenchState) → RunsThrough r bytes → RefusesDriven r bytes o bench → o ≡ NoMemory
driven r bytes o bench (s, (is, whole)) (inl h) = only_memory bytes s is o h.0
driven r bytes o bench (s, (is, whole)) (inr h) =
    run_through r h.segment o bench (ap (λ t. lost_step_of t (goes_on r)) (one_segment bytes h.segment s h.legal is) ∙ whole) h.holds

lines : (bytes text : List ℕ) (o : Outcome) → Shows 1 bytes text → RefusesLines bytes o → o ≡ NoMemory
lines bytes text (BadFrame line fault) shows h = absurd (text_or_refusal 1 bytes text line fault shows h)
lines bytes text NoMemory shows h = refl
lines bytes text o shows h = absurd h

memory : (command : Command) (bytes : List ℕ) (o : Outcome) (bench : Option BenchState) → IsGood command bytes → RefusesBy command bytes o bench → o ≡ NoMemory
memory (Run edges) bytes o bench good h = driven (report.Run edges) bytes o bench good h
memory Delays bytes o bench good h = driven report.Delays bytes o bench good h
memory Check bytes o bench good h = only_memory bytes good.0 good.1 o h.0
memory Show bytes o bench good h = lines bytes good.0 o good.1 h.0
memory (Gen slaves seed) bytes o bench good h = h.0
memory (Drill slaves seed) bytes o bench good h = h
memory Migrate bytes o bench good h = only_memory bytes good.0 good.1 o h.0
memory command bytes o bench good h = absurd good

-- ---- so it is done

-- no fault, and so no answer but these two
abbrev IsWhole : Outcome → Type 0
IsWhole o = (o ≡ Done) ⊎ (o ≡ NoMemory)

module _ (left' taken taken' : Option (List ℕ)) (bench : Option BenchState) where
  over : (command : Command) (given : Option (List ℕ)) (o : Outcome) → HasGoodBytes command given → AnsweredOver command o given left' taken taken' bench
      → (o ≡ ReadFault → ⊥) → (o ≡ WriteFault → ⊥) → IsWhole o
  over command None o good answered unread unwritten = absurd good
  over command (Some bytes) Done good answered unread unwritten = inl refl
  over command (Some bytes) NoMemory good answered unread unwritten = inr refl
  over command (Some bytes) ReadFault good answered unread unwritten = absurd (unread refl)
  over command (Some bytes) WriteFault good answered unread unwritten = absurd (unwritten refl)
  over command (Some bytes) TooLong (short, good) answered unread unwritten = absurd (omega (arith, short, answered.0))
  over command (Some bytes) o (short, good) (read, ((drained, limit), served)) unread unwritten =
      inr (memory command bytes o bench good (subst (λ b. RefusesBy command b o bench) (sym drained.0) served.0))

  alone : (command : Command) (given : Option (List ℕ)) (o : Outcome) → IsGood command [] → AnsweredAlone command o given left' taken taken' bench → (o ≡ WriteFault → ⊥) → IsWhole o
  alone command given Done good answered unwritten = inl refl
  alone command given WriteFault good answered unwritten = absurd (unwritten refl)
  alone command given ReadFault good answered unwritten = absurd answered.1
  alone command given TooLong good answered unwritten = absurd answered.1
  alone command given o good (kept, served) unwritten = inr (memory command [] o bench good served.0)

  by_use : (use_of : InputUse) (command : Command) (given : Option (List ℕ)) (o : Outcome) → IsServedBy use_of command given
      → AnsweredIn use_of command o given left' taken taken' bench → (o ≡ ReadFault → ⊥) → (o ≡ WriteFault → ⊥) → IsWhole o
  by_use WholeInput command given o good answered unread unwritten = over command given o good answered unread unwritten
  by_use NoInput command given o good answered unread unwritten = alone command given o good answered unwritten

-- whichever the words, with the faults told by their counts
pub complete : (c : Option Command) (given left' taken taken' : Option (List ℕ)) (bench : Option BenchState) (o : Outcome) (read read' written written' : ℕ)
    → Answered c o given left' taken taken' bench → (o ≡ ReadFault → Rose read read') → (o ≡ WriteFault → Rose written written')
    → IsServable c given → ¬ Rose read read' → ¬ Rose written written' → IsWhole o
complete None given left' taken taken' bench o read read' written written' answered unread unwritten servable quiet still = absurd servable
complete (Some command) given left' taken taken' bench o read read' written written' answered unread unwritten servable quiet still =
    by_use left' taken taken' bench (reading command) command given o servable answered (λ e. quiet (unread e)) (λ e. still (unwritten e))
