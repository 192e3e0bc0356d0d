-- The texts of a report, but for the rows of the edges.
use Rattle.std.specs.Prelude.{ℕ, Bool, List, [], ◌++◌, length, Option, if◌then◌else◌}
use Rattle.segment_file.specs.Segment.{SegmentValue}
use Rattle.edge_report.specs.EdgesLine.{edges_line}
use Rattle.edge_report.specs.FirstLine.{first_line}
use Rattle.edge_report.specs.FramesLine.{frames_line}
use Rattle.edge_report.specs.LockInLine.{lock_in_line}
use Rattle.edge_report.specs.SlaveLine.{slave_lines}
use Rattle.edge_report.specs.Spread.{allowed_of, spread_of}
use Rattle.edge_report.specs.StartLine.{start_line}
use Rattle.edge_report.specs.declared.slave_edge.SlaveEdge.{SlaveEdge}

-- the table of delays: the first line, a line for each slave, and the frames line
abbrev pub delay_table_text : SegmentValue → List (Option ℕ) → ℕ → ℕ → List ℕ
delay_table_text s delays sent lost = first_line s ++ slave_lines s delays ++ frames_line sent lost

-- the lines of the slaves, where they are asked for
abbrev pub slaves_part : SegmentValue → List (Option ℕ) → Bool → List ℕ
slaves_part s delays asked = if asked then slave_lines s delays else []

-- how many edges there are, their spread and the greatest window
abbrev pub edges_part : SegmentValue → List SlaveEdge → List ℕ
edges_part s edges = edges_line (length edges) (spread_of s edges) (allowed_of s edges)

-- the summary of a run: the first line, the slaves, the lock-in line, the start line, the frames line and the edges line
abbrev pub run_summary_text : SegmentValue → List (Option ℕ) → ℕ → ℕ → ℕ → List SlaveEdge → Bool → List ℕ
run_summary_text s delays start sent lost edges asked =
    first_line s ++ slaves_part s delays asked ++ lock_in_line s ++ start_line start ++ frames_line sent lost ++ edges_part s edges
