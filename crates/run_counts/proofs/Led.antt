-- A call behind those before it.
use Rattle.std.proofs.Common.{◌≡◌, List, ◌++◌, Option, Some, None, Ok, Err, refl, sym, subst}
use Rattle.ecat_link.specs.Exchanges.{Exchange, Runs}
use Rattle.ecat_link.specs.Serves.{Sends}
use Rattle.ecat_link.proofs.Exported.{driven, runs_then}
use Rattle.master_script.specs.Script.{Answer, Call, script}
use Rattle.master_script.specs.Scripted.{AreScripted, IsLimited}
use Rattle.master_script.specs.declared.step.MasterError.{MasterError}
use Rattle.master_script.proofs.Exported.{calls_scripted}
use Rattle.frame_pass.specs.SegmentState.{segment_step}
use Rattle.segment_file.specs.Segment.{SegmentValue}
use Rattle.segment_start.specs.Start.{started_segment}
use Rattle.run_of_file.specs.MasterOfFile.{master_of}
use Rattle.run_of_file.specs.RunOfFile.{RunEnd, turns, frames_given, call_run, next_call, followed_by}
use Rattle.run_counts.proofs.Ends.{ended}

-- The exchanges of a run are scripted, and led the segment where it stands.
pub record IsLed (s : SegmentValue) (run : RunEnd) : Type 0 where
  pub scripted : AreScripted (master_of s) (frames_given s) run.exchanges
  pub runs : Runs segment_step (Some (started_segment s)) run.exchanges (Some run.state)

-- a call went on from where a run stood
pub record HasGone (s : SegmentValue) (call : Call) (before run : RunEnd) : Type 0 where
  pub more : List Exchange
  pub all : run.exchanges ≡ before.exchanges ++ more
  pub sends : Sends (script (master_of s) call) before.exchanges more
  pub runs : Runs segment_step (Some before.state) more (Some run.state)
  pub end : script (master_of s) call run.exchanges ≡ ended run.answer

pub call_gone : (s : SegmentValue) (call : Call) (before run : RunEnd) → call_run s call before.exchanges before.state ≡ Some run → HasGone s call before run
call_gone s call before run is =
    let d = driven segment_step (script (master_of s) call) turns before.exchanges before.state run is in
    record { more = d.more; all = d.all; sends = d.script; runs = d.runs; end = d.end }

pub led_on : (s : SegmentValue) (call : Call) (before run : RunEnd) → IsLimited (frames_given s) call → IsLed s before → HasGone s call before run → IsLed s run
led_on s call before run limited led gone = record {
  scripted = subst (AreScripted (master_of s) (frames_given s)) (sym gone.all) (calls_scripted (master_of s) (frames_given s) call before.exchanges gone.more limited led.scripted gone.sends);
  runs = subst (λ (es : List Exchange). Runs segment_step (Some (started_segment s)) es (Some run.state)) (sym gone.all)
      (runs_then segment_step before.exchanges gone.more (Some (started_segment s)) (Some before.state) (Some run.state) led.runs gone.runs);
}

some_same : {X : Type 0} {x y : X} → Some x ≡ Some y → x ≡ y
some_same e = cc

-- what a later phase has come to: the call went on behind Ok, or the run was refused before
pub data Followed (s : SegmentValue) (call : Call) (first run : RunEnd) : Type 0 where
  on : first.answer ≡ Ok tt → HasGone s call first run → Followed s call first run
  off : (e : MasterError) → first.answer ≡ Err e → first ≡ run → Followed s call first run

by_answer : (s : SegmentValue) (call : Call) (first run : RunEnd) (answer : Answer) → first.answer ≡ answer → next_call s call first answer ≡ Some run → Followed s call first run
by_answer s call first run (Ok tt) is h = on is (call_gone s call first run h)
by_answer s call first run (Err e) is h = off e is (some_same h)

pub followed : (s : SegmentValue) (call : Call) (o : Option RunEnd) (run : RunEnd) → followed_by call s o ≡ Some run → (first : RunEnd) × (o ≡ Some first) × Followed s call first run
followed s call None run h = absurd (let x = h in cc)
followed s call (Some first) run h = (first, refl, by_answer s call first run first.answer refl h)
