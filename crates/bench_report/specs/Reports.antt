-- What is written of a bench.
use Rattle.std.specs.Prelude.{ℕ, Bool, true, false, List, [], ◌++◌, unwrap_or, if◌then◌else◌}
use Rattle.dc_bench.specs.BenchState.{BenchState}
use Rattle.edge_report.specs.EdgeRows.{edge_rows}
use Rattle.edge_report.specs.Reports.{delay_table_text, run_summary_text}
use Rattle.segment_file.specs.Segment.{SegmentValue}
use Rattle.bench_report.specs.Edges.{edges_told}

-- `delays`: the table of the delays that the master measured
unfoldable pub table_text : SegmentValue → BenchState → List ℕ
table_text s b = delay_table_text s b.master.delays b.master.sent b.master.lost

-- the summary of the run, by what the master keeps and by the edges that the wire has kept; with the lines of the slaves, or without
unfoldable pub summary_text : SegmentValue → BenchState → Bool → List ℕ
summary_text s b slave_lines =
    run_summary_text s b.master.delays (unwrap_or b.master.start 0) b.master.sent b.master.lost (edges_told s b.wire) slave_lines

-- the rows of the edges, where they are asked for
unfoldable pub rows_text : SegmentValue → BenchState → Bool → List ℕ
rows_text s b asked = if asked then edge_rows s (edges_told s b.wire) else []

-- `run`: the summary with the lines of the slaves, and behind it the rows of the edges, where they are asked for
abbrev pub report_text : SegmentValue → BenchState → Bool → List ℕ
report_text s b asked = summary_text s b true ++ rows_text s b asked

-- `drill`: the summary without the lines of the slaves
abbrev pub drill_text : SegmentValue → BenchState → List ℕ
drill_text s b = summary_text s b false
