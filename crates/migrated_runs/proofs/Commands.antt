-- What the program answers over a segment's file, and over the file of the migrated segment.
use Rattle.std.specs.Prelude.{◌≡◌, ◌↔◌, ◌≤◌, ℕ, Bool, List, Option, Some, None, length, Ok, Err}
use Rattle.std.proofs.Common.{◌∙◌, ap, inl, inr, sym, subst, refl}
use Rattle.dc_bench.specs.BenchState.{BenchState}
use Rattle.frame_pass.specs.SegmentState.{SegmentState}
use Rattle.master_script.specs.Kept.{Kept, kept_after}
use Rattle.master_script.specs.Script.{Answer}
use Rattle.master_script.specs.declared.step.MasterError.TheVariants.{Refused}
use Rattle.master_script.specs.declared.step.Refusal.TheVariants.{Lost}
use Rattle.run_of_file.specs.AtEnd.{IsAtEnd}
use Rattle.run_of_file.specs.MasterOfFile.{master_of}
use Rattle.run_of_file.specs.RunOfFile.{RunEnd, commissioned, frames_given, run_of}
use Rattle.segment_bench.specs.BenchRun.{HasRun}
use Rattle.segment_file.specs.Legal.{IsLegal}
use Rattle.segment_file.specs.Segment.{SegmentValue}
use Rattle.segment_file.specs.Told.{IsSegmentText}
use Rattle.segment_file.specs.Written.{segment_text}
use Rattle.segment_file.proofs.Exported.{one_segment, text_legal, written_text}
use Rattle.segment_text.specs.Migrated.{migrated}
use Rattle.segment_text.proofs.Exported.{text_short, migrated_legal}
use Rattle.dc_words.specs.declared.command.Command.{Command}
use Rattle.dc_words.specs.declared.command.Command.TheVariants.{Run, Delays, Check, Migrate}
use Rattle.dc_top.specs.Answers.{OfFile, RefusesBy, RefusesDriven, RefusesFile, RefusesRun, ServedBy, Writes, input_limit}
use Rattle.dc_top.specs.CheckText.{check_text}
use Rattle.dc_top.specs.Runs.{HasMade, IsReport, IsReportOf, text_of_report}
use Rattle.dc_top.specs.declared.outcome.Outcome.{Outcome}
use Rattle.dc_top.specs.declared.outcome.Outcome.TheVariants.{Done, ReadFault, WriteFault, NoMemory, TooLong}
use Rattle.dc_top.specs.declared.outcome.Outcome.TheVariants as outcome
use Rattle.dc_top.specs.declared.report.Report.{Report}
use Rattle.dc_top.specs.declared.report.Report.TheVariants as report
use Rattle.dc_top.proofs.Exported.{only_memory, reported, told_lost}
use Rattle.migrated_runs.proofs.Runs.{same_master, same_commissioned, same_run}
use Rattle.migrated_runs.proofs.Reports.{same_window, same_table, same_report, same_drill}

pub same_check : (s : SegmentValue) → check_text (migrated s) ≡ check_text s
same_check s = rw (same_window s) refl

same_text : (r : Report) (s : SegmentValue) (b : BenchState) → text_of_report r (migrated s) b ≡ text_of_report r s b
same_text report.Delays s b = same_table s b
same_text (report.Run edges) s b = same_report s b edges
same_text report.Drill s b = same_drill s b

-- two segments with the same runs and the same texts
record AreAlike (s t : SegmentValue) : Type 0 where
  pub master : master_of s ≡ master_of t
  pub commissioned : commissioned s ≡ commissioned t
  pub run : run_of s ≡ run_of t
  pub frames : frames_given s ≡ frames_given t
  pub text : (r : Report) (b : BenchState) → text_of_report r s b ≡ text_of_report r t b
  pub check : check_text s ≡ check_text t

migrated_alike : (s : SegmentValue) → AreAlike (migrated s) s
migrated_alike s = record {
  master = same_master s;
  commissioned = same_commissioned s;
  run = same_run s;
  frames = refl;
  text = λ r b. same_text r s b;
  check = same_check s;
}

alike_back : (s t : SegmentValue) → AreAlike s t → AreAlike t s
alike_back s t h = record {
  master = sym h.master;
  commissioned = sym h.commissioned;
  run = sym h.run;
  frames = sym h.frames;
  text = λ r b. sym (h.text r b);
  check = sym h.check;
}

-- ---- an answer says no more where its parts say no more

served : (c c' : Command) (from to : List ℕ) → ((text : List ℕ) (bench : Option BenchState) → Writes c from text bench → Writes c' to text bench)
    → ((o : Outcome) (bench : Option BenchState) → RefusesBy c from o bench → RefusesBy c' to o bench) → (o : Outcome) (taken taken' : Option (List ℕ)) (bench : Option BenchState)
    → ServedBy c from o taken taken' bench → ServedBy c' to o taken taken' bench
served c c' from to w r Done taken taken' bench h = (h.0, (w h.0 bench h.1.0, h.1.1))
served c c' from to w r WriteFault taken taken' bench h = (h.0, (w h.0 bench h.1.0, h.1.1))
served c c' from to w r ReadFault taken taken' bench h = h
served c c' from to w r TooLong taken taken' bench h = h
served c c' from to w r o taken taken' bench h = (r o bench h.0, h.1)

-- ---- over the text of one segment, and over that of one alike

module _ (s t : SegmentValue) (alike : AreAlike s t) where
  at_end : (frames : Option ℕ) (run run' : Option RunEnd) → run ≡ run' → (w : SegmentState) (m : Kept) (answer : Answer) → IsAtEnd s frames run w m answer → IsAtEnd t frames run' w m answer
  at_end frames run run' same w m answer h = record {
    end = h.end;
    run_is = sym same ∙ h.run_is;
    segment_is = h.segment_is;
    master_is = h.master_is ∙ ap (λ c. kept_after c frames h.end.exchanges) alike.master;
    answer_is = h.answer_is;
  }

  whole : (b : BenchState) (answer : Answer) → HasRun s b answer → HasRun t b answer
  whole b (Ok tt) h =
      (subst (λ n. IsAtEnd t (Some n) (run_of t) b.wire b.master (Ok tt)) alike.frames (at_end (Some (frames_given s)) (run_of s) (run_of t) alike.run b.wire b.master (Ok tt) h.0), h.1)
  whole b (Err e) h = (h.0, at_end h.0 (run_of s) (run_of t) alike.run b.wire b.master (Err e) h.1)

  made : (r : Report) (b : BenchState) (answer : Answer) → HasMade r s b answer → HasMade r t b answer
  made report.Delays b answer h = at_end None (commissioned s) (commissioned t) alike.commissioned b.wire b.master answer h
  made (report.Run edges) b answer h = whole b answer h
  made report.Drill b answer h = whole b answer h

  written_alike : (legal : IsLegal t) (r : Report) (text : List ℕ) (bench : Option BenchState) → IsReport r s text bench → IsReport r t text bench
  written_alike legal r text None h = h
  written_alike legal r text (Some b) h = subst (λ (bs : List ℕ). IsReportOf r t bs b) (sym (h.written ∙ alike.text r b)) (reported r t b legal (made r b (Ok tt) h.run))

  ended_alike : (legal : IsLegal t) (r : Report) (o : Outcome) (bench : Option BenchState) → RefusesRun r s o bench → RefusesRun r t o bench
  ended_alike legal r (outcome.Lost step) None h = h
  ended_alike legal r (outcome.Lost step) (Some b) h = told_lost r t b step legal (made r b (Err (Refused (Lost step))) h.run)
  ended_alike legal r o bench h = h

module _ (s t : SegmentValue) (alike : AreAlike s t) (from to : List ℕ) (is : IsSegmentText from s) (is' : IsSegmentText to t) where
  driven_written : (r : Report) (text : List ℕ) (bench : Option BenchState) → OfFile from (λ u. IsReport r u text bench) → OfFile to (λ u. IsReport r u text bench)
  driven_written r text bench h = record {
    segment = t;
    legal = is';
    holds = written_alike s t alike (text_legal to t is') r text bench (subst (λ u. IsReport r u text bench) (one_segment from h.segment s h.legal is) h.holds);
  }

  -- a legal file is refused for want of memory alone, which says nothing of it
  file_refused : (o : Outcome) → RefusesFile from o → RefusesFile to o
  file_refused o h = subst (RefusesFile to) (sym (only_memory from s is o h)) tt

  driven_refused : (r : Report) (o : Outcome) (bench : Option BenchState) → RefusesDriven r from o bench → RefusesDriven r to o bench
  driven_refused r o bench (inl h) = inl (file_refused o h.0, h.1)
  driven_refused r o bench (inr h) = inr (record {
    segment = t;
    legal = is';
    holds = ended_alike s t alike (text_legal to t is') r o bench (subst (λ u. RefusesRun r u o bench) (one_segment from h.segment s h.legal is) h.holds);
  })

  check_written : (text : List ℕ) (bench : Option BenchState) → Writes Check from text bench → Writes Check to text bench
  check_written text bench h =
      (record { segment = t; legal = is'; holds = h.0.holds ∙ ap check_text (one_segment from h.0.segment s h.0.legal is) ∙ alike.check }, h.1)

  run_over : (edges : Bool) (o : Outcome) (taken taken' : Option (List ℕ)) (bench : Option BenchState) → ServedBy (Run edges) from o taken taken' bench → ServedBy (Run edges) to o taken taken' bench
  run_over edges = served (Run edges) (Run edges) from to (driven_written (report.Run edges)) (driven_refused (report.Run edges))

  delays_over : (o : Outcome) (taken taken' : Option (List ℕ)) (bench : Option BenchState) → ServedBy Delays from o taken taken' bench → ServedBy Delays to o taken taken' bench
  delays_over = served Delays Delays from to (driven_written report.Delays) (driven_refused report.Delays)

  check_over : (o : Outcome) (taken taken' : Option (List ℕ)) (bench : Option BenchState) → ServedBy Check from o taken taken' bench → ServedBy Check to o taken taken' bench
  check_over = served Check Check from to check_written (λ o bench h. (file_refused o h.0, h.1))

-- ---- over a file and what `migrate` has written of it

module _ (bytes file : List ℕ) (m : Writes Migrate bytes file None) where
  legal_migrated : IsLegal (migrated m.0.segment)
  legal_migrated = migrated_legal m.0.segment (text_legal bytes m.0.segment m.0.legal)

  file_says : IsSegmentText file (migrated m.0.segment)
  file_says = subst (λ text. IsSegmentText text (migrated m.0.segment)) (sym m.0.holds) (written_text (migrated m.0.segment) legal_migrated)

  pub run_alike : (edges : Bool) (o : Outcome) (taken taken' : Option (List ℕ)) (bench : Option BenchState) → ServedBy (Run edges) file o taken taken' bench ↔ ServedBy (Run edges) bytes o taken taken' bench
  run_alike edges o taken taken' bench =
      let s = m.0.segment in
      let there = migrated_alike s in (
        run_over (migrated s) s there file bytes file_says m.0.legal edges o taken taken' bench,
        run_over s (migrated s) (alike_back (migrated s) s there) bytes file m.0.legal file_says edges o taken taken' bench,
      )

  pub delays_alike : (o : Outcome) (taken taken' : Option (List ℕ)) (bench : Option BenchState) → ServedBy Delays file o taken taken' bench ↔ ServedBy Delays bytes o taken taken' bench
  delays_alike o taken taken' bench =
      let s = m.0.segment in
      let there = migrated_alike s in (
        delays_over (migrated s) s there file bytes file_says m.0.legal o taken taken' bench,
        delays_over s (migrated s) (alike_back (migrated s) s there) bytes file m.0.legal file_says o taken taken' bench,
      )

  pub check_alike : (o : Outcome) (taken taken' : Option (List ℕ)) (bench : Option BenchState) → ServedBy Check file o taken taken' bench ↔ ServedBy Check bytes o taken taken' bench
  check_alike o taken taken' bench =
      let s = m.0.segment in
      let there = migrated_alike s in (
        check_over (migrated s) s there file bytes file_says m.0.legal o taken taken' bench,
        check_over s (migrated s) (alike_back (migrated s) s there) bytes file m.0.legal file_says o taken taken' bench,
      )

  pub file_short : length file ≤ input_limit
  file_short = subst (λ text. length text ≤ input_limit) (sym m.0.holds) (text_short (migrated m.0.segment) legal_migrated)

  pub file_accepted : (o : Outcome) (bench : Option BenchState) → RefusesBy Migrate file o bench → o ≡ NoMemory
  file_accepted o bench h = only_memory file (migrated m.0.segment) file_says o h.0

  pub file_again : (text : List ℕ) (bench : Option BenchState) → Writes Migrate file text bench ↔ ((text ≡ file) × (bench ≡ None))
  file_again text bench =
      let s = m.0.segment in (
        λ h. (h.0.holds ∙ ap (λ t. segment_text (migrated t)) (one_segment file h.0.segment (migrated s) h.0.legal file_says) ∙ sym m.0.holds, h.1),
        λ h. (record { segment = migrated s; legal = file_says; holds = h.0 ∙ m.0.holds }, h.1),
      )
