-- How a run ends behind each phase.
use Rattle.std.proofs.Common.{ℕ, Option, Some, None, ap, ◌∙◌}
use Rattle.std.specs.Prelude.{Ok, Err, option_map}
use Rattle.master_script.specs.Kept.{Kept}
use Rattle.master_script.specs.Script.{Call, Settle, Arm, Run}
use Rattle.master_script.specs.declared.step.MasterError.{MasterError}
use Rattle.frame_pass.specs.SegmentState.{SegmentState, finished}
use Rattle.segment_file.specs.Segment.{SegmentValue}
use Rattle.run_of_file.specs.RunOfFile.{RunEnd, next_call, followed_by, rounded_off, with_end, commissioned_from, settled_from, armed_from, ran_from, run_from, commissioned, settled, armed, ran, run_of, end_of_run, frames_given}
use Rattle.run_of_file.specs.AtEnd.{IsAtEnd}

-- no call follows a refusal
stays : (s : SegmentValue) (call : Call) (frames : Option ℕ) (run : Option RunEnd) (state : SegmentState) (m : Kept) (e : MasterError)
    → IsAtEnd s frames run state m (Err e) → IsAtEnd s frames (followed_by call s run) state m (Err e)
stays s call frames run state m e at = record {
  end = at.end;
  run_is = ap (followed_by call s) at.run_is ∙ ap (next_call s call at.end) at.answer_is;
  segment_is = at.segment_is;
  master_is = at.master_is;
  answer_is = at.answer_is;
}

-- nor does any clock go on behind one
unrounded : (s : SegmentValue) (frames : Option ℕ) (run : Option RunEnd) (state : SegmentState) (m : Kept) (e : MasterError)
    → IsAtEnd s frames run state m (Err e) → IsAtEnd s frames (with_end s run) state m (Err e)
unrounded s frames run state m e at = record {
  end = at.end;
  run_is = ap (with_end s) at.run_is ∙ ap (λ answer. Some (rounded_off s at.end answer)) at.answer_is;
  segment_is = at.segment_is;
  master_is = at.master_is;
  answer_is = at.answer_is;
}

-- behind Ok every clock goes on to the end of the run
rounded : (s : SegmentValue) (frames : Option ℕ) (run : Option RunEnd) (state : SegmentState) (m : Kept) → IsAtEnd s frames run state m (Ok tt)
    → IsAtEnd s frames (with_end s run) (finished (end_of_run s state) state) m (Ok tt)
rounded s frames run state m at = record {
  end = record at.end { state = finished (end_of_run s at.end.state) at.end.state };
  run_is = ap (with_end s) at.run_is ∙ ap (λ answer. Some (rounded_off s at.end answer)) at.answer_is;
  segment_is = ap (λ (w : SegmentState). finished (end_of_run s w) w) at.segment_is;
  master_is = at.master_is;
  answer_is = at.answer_is;
}

-- from any state of the segment on
module _ (s : SegmentValue) (start state : SegmentState) (m : Kept) where
  pub whole_from_ends_so : (frames : Option ℕ) → IsAtEnd s frames (ran_from s start) state m (Ok tt)
      → IsAtEnd s frames (run_from s start) (finished (end_of_run s state) state) m (Ok tt)
  whole_from_ends_so frames at = rounded s frames (ran_from s start) state m at

  pub ran_from_ends : (frames : Option ℕ) (e : MasterError) → IsAtEnd s frames (ran_from s start) state m (Err e) → IsAtEnd s frames (run_from s start) state m (Err e)
  ran_from_ends frames e at = unrounded s frames (ran_from s start) state m e at

  pub armed_from_ends : (e : MasterError) → IsAtEnd s None (armed_from s start) state m (Err e) → IsAtEnd s None (run_from s start) state m (Err e)
  armed_from_ends e at = ran_from_ends None e (stays s (Run (frames_given s)) None (armed_from s start) state m e at)

  pub settled_from_ends : (e : MasterError) → IsAtEnd s None (settled_from s start) state m (Err e) → IsAtEnd s None (run_from s start) state m (Err e)
  settled_from_ends e at = armed_from_ends e (stays s Arm None (settled_from s start) state m e at)

  pub commissioned_from_ends : (e : MasterError) → IsAtEnd s None (commissioned_from s start) state m (Err e) → IsAtEnd s None (run_from s start) state m (Err e)
  commissioned_from_ends e at = settled_from_ends e (stays s Settle None (commissioned_from s start) state m e at)

pub ran_ends : (s : SegmentValue) (frames : Option ℕ) (state : SegmentState) (m : Kept) (e : MasterError) → IsAtEnd s frames (ran s) state m (Err e)
    → IsAtEnd s frames (run_of s) state m (Err e)
unfolding run_of
ran_ends s frames state m e at = unrounded s frames (ran s) state m e at

armed_stays : (s : SegmentValue) (state : SegmentState) (m : Kept) (e : MasterError) → IsAtEnd s None (armed s) state m (Err e) → IsAtEnd s None (ran s) state m (Err e)
unfolding ran
armed_stays s state m e at = stays s (Run (frames_given s)) None (armed s) state m e at

pub armed_ends : (s : SegmentValue) (state : SegmentState) (m : Kept) (e : MasterError) → IsAtEnd s None (armed s) state m (Err e) → IsAtEnd s None (run_of s) state m (Err e)
armed_ends s state m e at = ran_ends s None state m e (armed_stays s state m e at)

settled_stays : (s : SegmentValue) (state : SegmentState) (m : Kept) (e : MasterError) → IsAtEnd s None (settled s) state m (Err e) → IsAtEnd s None (armed s) state m (Err e)
unfolding armed
settled_stays s state m e at = stays s Arm None (settled s) state m e at

pub settled_ends : (s : SegmentValue) (state : SegmentState) (m : Kept) (e : MasterError) → IsAtEnd s None (settled s) state m (Err e) → IsAtEnd s None (run_of s) state m (Err e)
settled_ends s state m e at = armed_ends s state m e (settled_stays s state m e at)

commissioned_stays : (s : SegmentValue) (state : SegmentState) (m : Kept) (e : MasterError) → IsAtEnd s None (commissioned s) state m (Err e) → IsAtEnd s None (settled s) state m (Err e)
unfolding settled
commissioned_stays s state m e at = stays s Settle None (commissioned s) state m e at

pub commissioned_ends : (s : SegmentValue) (state : SegmentState) (m : Kept) (e : MasterError) → IsAtEnd s None (commissioned s) state m (Err e)
    → IsAtEnd s None (run_of s) state m (Err e)
commissioned_ends s state m e at = settled_ends s state m e (commissioned_stays s state m e at)

-- behind a whole run every clock goes on to its end
pub whole_ends_so : (s : SegmentValue) (frames : Option ℕ) (state : SegmentState) (m : Kept) → IsAtEnd s frames (ran s) state m (Ok tt)
    → IsAtEnd s frames (run_of s) (finished (end_of_run s state) state) m (Ok tt)
unfolding run_of
whole_ends_so s frames state m at = rounded s frames (ran s) state m at
