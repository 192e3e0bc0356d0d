-- The edges of every run that is not refused lie within the window.
use Rattle.std.proofs.Common.{◌≡◌, Some, Ok}
use Rattle.copy_law.proofs.Exported.{commissioned_first}
use Rattle.edge_law.specs.InWindow.{AreEdgesWithin}
use Rattle.edge_law.proofs.Apart.{edges_in_window}
use Rattle.edge_law.proofs.ArmedRuns.{armed_parts, ran_parts, whole_parts}
use Rattle.edge_law.proofs.EndOfRun.{edge_of_run, timing_there}
use Rattle.run_of_file.specs.Commissioned.{IsCommissioned}
use Rattle.run_of_file.specs.RunOfFile.{RunEnd, run_of, settled}
use Rattle.segment_file.specs.Legal.{IsLegal}
use Rattle.segment_file.specs.Segment.{SegmentValue}
use Rattle.sync_units.specs.Edges.{edge_of}

-- the phases of a whole run that was not refused
record HasPhases (s : SegmentValue) : Type 0 where
  first : RunEnd
  before : RunEnd
  it : IsCommissioned s first
  settled_is : settled s ≡ Some before

phases : (s : SegmentValue) (legal : IsLegal s) (run : RunEnd) → run_of s ≡ Some run → run.answer ≡ Ok tt → HasPhases s
phases s legal run is ok =
    let l = whole_parts s run is ok in
    let r = ran_parts s l.0 l.1 l.2 in
    let a = armed_parts s r.0 r.1 r.2 in
    let first = commissioned_first s a.0 legal a.1 a.2 in
    record { first = first.0; before = a.0; it = first.1; settled_is = a.1 }

pub within_window : (s : SegmentValue) → IsLegal s → (run : RunEnd) → run_of s ≡ Some run → run.answer ≡ Ok tt → AreEdgesWithin s run.state.slaves
within_window s legal run is ok =
    let h = phases s legal run is ok in
    record {
      every = λ p k v signal there clock signals early.
          let m = timing_there s h.first run h.it is ok p clock v there in
          let e = edge_of_run s h.first h.before run h.it h.settled_is is ok p clock v there m.0 m.1 signal signals k early in
          (edge_of signal k e.instant, record { slave = v; there = there; clock = clock; signals = signals; timing = m.0; has = m.1; kept = e.raised.is_kept });
      window = λ p q k signal other e f early a b.
          edges_in_window s h.first h.before run h.it h.settled_is is ok p a.clock a.slave a.there a.timing a.has signal a.signals q b.clock b.slave b.there b.timing b.has other b.signals k early e f a.kept b.kept;
    }
