-- A run keeps the slaves of its segment, and their edges numbered.
use Rattle.std.proofs.Common.{◌≡◌, ℕ, map, Option, Some, None, refl, sym, subst, ◌∙◌}
use Rattle.std.specs.Prelude.{Ok, Err, option_map}
use Rattle.dc_bench.specs.BenchState.{BenchState}
use Rattle.segment_start.specs.Numbered.{AreNumberedSlaves}
use Rattle.segment_start.proofs.Exported.{numbers_begin, numbers_step, numbers_finished}
use Rattle.frame_pass.specs.SegmentState.{SegmentState, finished}
use Rattle.frame_pass.specs.SlaveState.{fixed_part}
use Rattle.frame_pass.proofs.Exported.{same_step, same_finished}
use Rattle.master_script.specs.Script.{Answer}
use Rattle.run_of_file.specs.RunOfFile.{RunEnd, ran, run_of, rounded_off, end_of_run}
use Rattle.run_of_file.proofs.Exported.{kept_by_runs, ran_exchanges}
use Rattle.segment_file.specs.Legal.{IsLegal}
use Rattle.segment_file.specs.Segment.{SegmentValue}
use Rattle.segment_start.specs.Start.{started_segment}
use Rattle.segment_bench.specs.BenchRun.{HasRun}

-- the slaves of the wire are those of the file, and the edges that each has kept are numbered
pub record IsWireOf (s : SegmentValue) (w : SegmentState) : Type 0 where
  pub slaves : map fixed_part w.slaves ≡ map fixed_part (started_segment s).slaves
  pub numbered : AreNumberedSlaves w.slaves

pub ran_keeps : (s : SegmentValue) → IsLegal s → (run : RunEnd) → ran s ≡ Some run → IsWireOf s run.state
ran_keeps s legal run is = record {
  slaves = kept_by_runs (λ (w : SegmentState). map fixed_part w.slaves ≡ map fixed_part (started_segment s).slaves) (λ w wait_ns f h. (same_step w wait_ns f).slaves ∙ h)
      run.exchanges (started_segment s) run.state (ran_exchanges s run is) refl;
  numbered = kept_by_runs (λ (w : SegmentState). AreNumberedSlaves w.slaves) numbers_step run.exchanges (started_segment s) run.state (ran_exchanges s run is) (numbers_begin s legal);
}

pub finish_keeps : (s : SegmentValue) (t : ℕ) (w : SegmentState) → IsWireOf s w → IsWireOf s (finished t w)
finish_keeps s t w is = record { slaves = (same_finished t w).slaves ∙ is.slaves; numbered = numbers_finished t w is.numbered }

rounded_keeps : (s : SegmentValue) (r : RunEnd) (answer : Answer) → IsWireOf s r.state → IsWireOf s (rounded_off s r answer).state
rounded_keeps s r (Ok tt) is = finish_keeps s (end_of_run s r.state) r.state is
rounded_keeps s r (Err e) is = is

whole_of : (s : SegmentValue) (o : Option RunEnd) → ((r : RunEnd) → o ≡ Some r → IsWireOf s r.state) → (end : RunEnd) → option_map (λ r. rounded_off s r r.answer) o ≡ Some end
    → IsWireOf s end.state
whole_of s None each end is = absurd (let x = is in cc)
whole_of s (Some r) each end is =
    let same : rounded_off s r r.answer ≡ end = cc in
    subst (λ (e : RunEnd). IsWireOf s e.state) same (rounded_keeps s r r.answer (each r refl))

whole_keeps : (s : SegmentValue) → IsLegal s → (end : RunEnd) → run_of s ≡ Some end → IsWireOf s end.state
unfolding run_of
whole_keeps s legal end is = whole_of s (ran s) (ran_keeps s legal) end is

-- the wire of a bench that has made the whole run
pub run_keeps : (s : SegmentValue) (b : BenchState) → IsLegal s → HasRun s b (Ok tt) → IsWireOf s b.wire
run_keeps s b legal run = subst (IsWireOf s) (sym run.0.segment_is) (whole_keeps s legal run.0.end run.0.run_is)
