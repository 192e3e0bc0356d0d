-- The run of a file: commissioning, settling, arming and running over its segment.
use Rattle.std.specs.Prelude.{ℕ, ◌+◌, ◌*◌, List, [], Option, Some, None, option_map, Ok, Err}
use Rattle.ecat_link.specs.Drive.{Ending, drive}
use Rattle.ecat_link.specs.Exchanges.{Exchange}
use Rattle.dc_bounds.specs.LockNumbers.{period_fs}
use Rattle.master_script.specs.Kept.{Kept, kept_after}
use Rattle.master_script.specs.Script.{Call, Commission, Settle, Arm, Run, Answer, script}
use Rattle.frame_pass.specs.SegmentState.{SegmentState, segment_step, finished}
use Rattle.segment_file.specs.Faults.{frames_of_run}
use Rattle.segment_file.specs.Segment.{SegmentValue, counts_of}
use Rattle.segment_start.specs.Start.{started_segment}
use Rattle.run_of_file.specs.MasterOfFile.{master_of}

-- all exchanges so far, the state in which they leave the segment, and the answer of the last call
abbrev pub RunEnd : Type 0
RunEnd = Ending SegmentState Answer

-- turns that suffice for every call, since a run has at most 203,097 exchanges
unfoldable pub turns : ℕ
turns = 300000

-- a call of the master after these exchanges, over the segment in this state
abbrev pub call_run : SegmentValue → Call → List Exchange → SegmentState → Option RunEnd
call_run s call before state = drive segment_step (script (master_of s) call) turns before state

-- a call follows one that ended with Ok; after a refusal none does
abbrev pub next_call : SegmentValue → Call → RunEnd → Answer → Option RunEnd
next_call s call run (Ok tt) = call_run s call run.exchanges run.state
next_call s call run (Err e) = Some run

abbrev pub followed_by : Call → SegmentValue → Option RunEnd → Option RunEnd
followed_by call s None = None
followed_by call s (Some run) = next_call s call run run.answer

-- the drift frames of the run phase
abbrev pub frames_given : SegmentValue → ℕ
frames_given s = frames_of_run s.head (counts_of s.rows)

-- the run up to the end of each phase, from this state of the segment on
abbrev pub commissioned_from : SegmentValue → SegmentState → Option RunEnd
commissioned_from s start = call_run s Commission [] start

abbrev pub settled_from : SegmentValue → SegmentState → Option RunEnd
settled_from s start = followed_by Settle s (commissioned_from s start)

abbrev pub armed_from : SegmentValue → SegmentState → Option RunEnd
armed_from s start = followed_by Arm s (settled_from s start)

abbrev pub ran_from : SegmentValue → SegmentState → Option RunEnd
ran_from s start = followed_by (Run (frames_given s)) s (armed_from s start)

-- the same from the start that the file gives; the run of `delays` is the first
unfoldable pub commissioned : SegmentValue → Option RunEnd
commissioned s = commissioned_from s (started_segment s)

unfoldable pub settled : SegmentValue → Option RunEnd
settled s = followed_by Settle s (commissioned s)

unfoldable pub armed : SegmentValue → Option RunEnd
armed s = followed_by Arm s (settled s)

unfoldable pub ran : SegmentValue → Option RunEnd
ran s = followed_by (Run (frames_given s)) s (armed s)

-- after T sendings that ended with Ok every clock goes on to (T + 1)·F; after a refusal none does
abbrev pub end_of_run : SegmentValue → SegmentState → ℕ
end_of_run s state = (state.sent + 1) * period_fs s.head.frame_ns

abbrev pub rounded_off : SegmentValue → RunEnd → Answer → RunEnd
rounded_off s run (Ok tt) = record run { state = finished (end_of_run s run.state) run.state }
rounded_off s run (Err e) = run

-- a run with its end, where every clock has gone on
abbrev pub with_end : SegmentValue → Option RunEnd → Option RunEnd
with_end s run = option_map (λ (r : RunEnd). rounded_off s r r.answer) run

-- the whole run from this state of the segment on
abbrev pub run_from : SegmentValue → SegmentState → Option RunEnd
run_from s start = with_end s (ran_from s start)

-- the whole run of a file
unfoldable pub run_of : SegmentValue → Option RunEnd
run_of s = with_end s (ran s)

-- what the master of a file keeps after these exchanges, where `run` was given this number of frames, once it was called
abbrev pub master_after : SegmentValue → Option ℕ → List Exchange → Kept
master_after s frames es = kept_after (master_of s) frames es
