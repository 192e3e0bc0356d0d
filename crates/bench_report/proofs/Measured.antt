-- The delays that the master of a bench has measured.
use Rattle.std.proofs.Common.{◌∙◌, map, None, is_some, ap}
use Rattle.std.specs.Prelude.{Ok}
use Rattle.dc_bench.specs.BenchState.{BenchState}
use Rattle.edge_report.specs.Delays.{AreDelays}
use Rattle.honest_slaves.proofs.Exported.{delays_whole}
use Rattle.master_script.specs.Kept.{Kept}
use Rattle.run_counts.proofs.Exported.{whole_delays}
use Rattle.run_of_file.specs.AtEnd.{IsAtEnd}
use Rattle.run_of_file.specs.RunOfFile.{commissioned}
use Rattle.segment_bench.specs.BenchRun.{HasRun}
use Rattle.segment_file.specs.Legal.{IsLegal}
use Rattle.segment_file.specs.Segment.{SegmentValue}

-- behind commissioning
pub commissioned_delays : (s : SegmentValue) (b : BenchState) → IsLegal s → IsAtEnd s None (commissioned s) b.wire b.master (Ok tt) → AreDelays s b.master.delays
commissioned_delays s b legal at = ap (λ (m : Kept). map is_some m.delays) at.master_is ∙ delays_whole s legal at.end at.run_is at.answer_is

-- and behind a whole run
pub run_delays : (s : SegmentValue) (b : BenchState) → IsLegal s → HasRun s b (Ok tt) → AreDelays s b.master.delays
run_delays s b legal run = ap (λ (m : Kept). map is_some m.delays) run.0.master_is ∙ whole_delays s run.0.end legal run.0.run_is run.0.answer_is
