-- The run of a migrated segment, phase by phase. None of these definitions looks at the version.
use Rattle.std.specs.Prelude.{◌≡◌, [], Option, Some, None, option_map, Ok, Err}
use Rattle.std.proofs.Common.{◌∙◌, ap, ap₂, refl}
use Rattle.ecat_link.specs.Drive.{drive}
use Rattle.frame_pass.specs.SegmentState.{SegmentState, segment_step}
use Rattle.master_script.specs.Config.{ConfigValue}
use Rattle.master_script.specs.Script.{Answer, Call, Commission, Settle, Arm, Run, script}
use Rattle.segment_file.specs.Segment.{SegmentValue}
use Rattle.segment_start.specs.Start.{slave_of, started_segment}
use Rattle.segment_text.specs.Migrated.{migrated}
use Rattle.run_of_file.specs.MasterOfFile.{master_of}
use Rattle.run_of_file.specs.RunOfFile.{RunEnd, turns, next_call, followed_by, frames_given, commissioned, settled, armed, ran, rounded_off, run_of}

pub same_master : (s : SegmentValue) → master_of (migrated s) ≡ master_of s
unfolding master_of
same_master s = refl

pub same_start : (s : SegmentValue) → started_segment (migrated s) ≡ started_segment s
unfolding started_segment slave_of
same_start s = refl

pub same_commissioned : (s : SegmentValue) → commissioned (migrated s) ≡ commissioned s
unfolding commissioned
same_commissioned s =
    ap₂ (λ (m : ConfigValue) (state : SegmentState). drive segment_step (script m Commission) turns [] state) (same_master s) (same_start s)

-- a call goes on alike from wherever a run has come
same_next : (s : SegmentValue) (call : Call) (run : RunEnd) (answer : Answer) → next_call (migrated s) call run answer ≡ next_call s call run answer
same_next s call run (Ok tt) = ap (λ m. drive segment_step (script m call) turns run.exchanges run.state) (same_master s)
same_next s call run (Err e) = refl

same_followed : (s : SegmentValue) (call : Call) (before : Option RunEnd) → followed_by call (migrated s) before ≡ followed_by call s before
same_followed s call None = refl
same_followed s call (Some run) = same_next s call run run.answer

pub same_settled : (s : SegmentValue) → settled (migrated s) ≡ settled s
unfolding settled
same_settled s = same_followed s Settle (commissioned (migrated s)) ∙ ap (followed_by Settle s) (same_commissioned s)

pub same_armed : (s : SegmentValue) → armed (migrated s) ≡ armed s
unfolding armed
same_armed s = same_followed s Arm (settled (migrated s)) ∙ ap (followed_by Arm s) (same_settled s)

pub same_ran : (s : SegmentValue) → ran (migrated s) ≡ ran s
unfolding ran
same_ran s = same_followed s (Run (frames_given s)) (armed (migrated s)) ∙ ap (followed_by (Run (frames_given s)) s) (same_armed s)

pub same_run : (s : SegmentValue) → run_of (migrated s) ≡ run_of s
unfolding run_of
same_run s = ap (option_map (λ run. rounded_off s run run.answer)) (same_ran s)
