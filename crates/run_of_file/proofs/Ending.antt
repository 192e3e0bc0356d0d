-- Every phase of a run ends, follows the script, and lets time go on.
use Rattle.std.proofs.Common.{◌≡◌, ℕ, ◌+◌, ◌*◌, ◌<◌, ◌≤◌, List, [], ◌∷◌, length, Option, Some, None, refl, sym, subst, arith}
use Rattle.std.specs.Prelude.{IsSome, Ok, Err, option_map}
use Rattle.ecat_link.specs.Exchanges.{Exchange, Runs}
use Rattle.ecat_link.proofs.Exported.{driven}
use Rattle.master_script.specs.Script.{Call, Commission, Settle, Arm, Run, Answer, script}
use Rattle.master_script.specs.Scripted.{AreScripted, IsLimited, none}
use Rattle.master_script.proofs.Exported.{call_ends, calls_scripted}
use Rattle.frame_pass.specs.SegmentState.{SegmentState, segment_step}
use Rattle.frame_pass.specs.Invariants.{IsSoundSegment}
use Rattle.frame_pass.proofs.Exported.{timely_step}
use Rattle.segment_file.specs.Segment.{SegmentValue}
use Rattle.segment_file.specs.Legal.{IsLegal}
use Rattle.segment_start.specs.Start.{started_segment}
use Rattle.segment_start.proofs.Exported.{starts_timely}
use Rattle.run_of_file.specs.MasterOfFile.{master_of}
use Rattle.run_of_file.specs.RunOfFile.{RunEnd, turns, call_run, next_call, followed_by, frames_given, commissioned_from, settled_from, armed_from, ran_from, run_from, commissioned, settled, armed, ran, run_of}
use Rattle.run_of_file.proofs.InRange.{as_many_kinds, some_rows, few_rows, lock_in_few, loss_run_few, frames_few}

-- what holds of a run between two calls
pub record IsOn (s : SegmentValue) (run : RunEnd) : Type 0 where
  pub scripted : AreScripted (master_of s) (frames_given s) run.exchanges
  pub timely : IsSoundSegment run.state

-- a phase of a run ends, and stays on
pub record HasEnd (s : SegmentValue) (run : Option RunEnd) : Type 0 where
  pub some : IsSome run
  pub on : (r : RunEnd) → run ≡ Some r → IsOn s r

timely_runs : (es : List Exchange) (s t : SegmentState) → Runs segment_step (Some s) es (Some t) → IsSoundSegment s → IsSoundSegment t
timely_runs [] s t r h = let same : s ≡ t = cc in subst IsSoundSegment same h
timely_runs (e ∷ es) s t r h = timely_runs es (segment_step s e.wait_ns e.sent).0 t r.1 (timely_step s e.wait_ns e.sent h)

enough : (kinds few limit frames before : ℕ) → 0 < kinds → kinds ≤ 256 → few ≤ 100000 → limit ≤ 15 → frames ≤ 100000 → (t : ℕ) → t ≡ 300000
    → 9 + 12 * kinds + (few + limit + 1) + frames < before + t
enough kinds few limit frames before some most lock loss run t e = omega (arith, most, lock, loss, run, e)

pub turns_are : turns ≡ 300000
unfolding turns
turns_are = refl

call_on : (s : SegmentValue) → IsLegal s → (call : Call) → IsLimited (frames_given s) call → (before : List Exchange) (state : SegmentState)
    → AreScripted (master_of s) (frames_given s) before → IsSoundSegment state → HasEnd s (call_run s call before state)
call_on s legal call limited before state scripted timely = record {
  some = call_ends segment_step (master_of s) (frames_given s) call turns before state
      (let some = some_rows s legal in let many = as_many_kinds s legal in omega (arith, some, many)) limited scripted
      (enough (length (master_of s).kinds) (master_of s).lock_in (master_of s).loss_run (frames_given s) (length before)
      (let some = some_rows s legal in let many = as_many_kinds s legal in omega (arith, some, many))
      (let few = few_rows s legal in let many = as_many_kinds s legal in omega (arith, few, many))
      (lock_in_few s legal) (loss_run_few s legal) (frames_few s legal) turns turns_are);
  on = λ run is.
      let d = driven segment_step (script (master_of s) call) turns before state run is in
      record {
        scripted = subst (AreScripted (master_of s) (frames_given s)) (sym d.all)
            (calls_scripted (master_of s) (frames_given s) call before d.more limited scripted d.script);
        timely = timely_runs d.more state run.state d.runs timely;
      };
}

next_on : (s : SegmentValue) → IsLegal s → (call : Call) → IsLimited (frames_given s) call → (run : RunEnd) → IsOn s run → (answer : Answer)
    → HasEnd s (next_call s call run answer)
next_on s legal call limited run on (Ok tt) = call_on s legal call limited run.exchanges run.state on.scripted on.timely
next_on s legal call limited run on (Err e) = record { some = refl; on = λ r is. let same : run ≡ r = cc in subst (IsOn s) same on }

followed_on : (s : SegmentValue) → IsLegal s → (call : Call) → IsLimited (frames_given s) call → (run : Option RunEnd) → HasEnd s run → HasEnd s (followed_by call s run)
followed_on s legal call limited None h = absurd (let some = h.some in cc)
followed_on s legal call limited (Some run) h = next_on s legal call limited run (h.on run refl) run.answer

-- from any state of the segment on
module _ (s : SegmentValue) (legal : IsLegal s) (start : SegmentState) (timely : IsSoundSegment start) where
  pub commissioned_from_on : HasEnd s (commissioned_from s start)
  commissioned_from_on = call_on s legal Commission tt [] start none timely

  pub settled_from_on : HasEnd s (settled_from s start)
  settled_from_on = followed_on s legal Settle tt (commissioned_from s start) commissioned_from_on

  pub armed_from_on : HasEnd s (armed_from s start)
  armed_from_on = followed_on s legal Arm tt (settled_from s start) settled_from_on

  pub ran_from_on : HasEnd s (ran_from s start)
  ran_from_on = followed_on s legal (Run (frames_given s)) (omega arith) (armed_from s start) armed_from_on

pub commissioned_on : (s : SegmentValue) → IsLegal s → HasEnd s (commissioned s)
unfolding commissioned
commissioned_on s legal = commissioned_from_on s legal (started_segment s) (starts_timely s legal)

pub settled_on : (s : SegmentValue) → IsLegal s → HasEnd s (settled s)
unfolding settled
settled_on s legal = followed_on s legal Settle tt (commissioned s) (commissioned_on s legal)

pub armed_on : (s : SegmentValue) → IsLegal s → HasEnd s (armed s)
unfolding armed
armed_on s legal = followed_on s legal Arm tt (settled s) (settled_on s legal)

pub ran_on : (s : SegmentValue) → IsLegal s → HasEnd s (ran s)
unfolding ran
ran_on s legal = followed_on s legal (Run (frames_given s)) (omega arith) (armed s) (armed_on s legal)

some_mapped : {X Y : Type 0} (f : X → Y) (o : Option X) → IsSome o → IsSome (option_map f o)
some_mapped f (Some x) h = refl
some_mapped f None h = absurd (let x = h in cc)

pub whole_ends : (s : SegmentValue) → IsLegal s → IsSome (run_of s)
unfolding run_of
whole_ends s legal = some_mapped _ (ran s) (ran_on s legal).some

pub from_ends : (s : SegmentValue) → IsLegal s → (start : SegmentState) → IsSoundSegment start → IsSome (run_from s start)
from_ends s legal start timely = some_mapped _ (ran_from s start) (ran_from_on s legal start timely).some
