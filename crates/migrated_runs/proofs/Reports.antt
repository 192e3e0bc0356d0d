-- What is written of a migrated segment, number by number. None of these definitions looks at the version.
use Rattle.std.specs.Prelude.{◌≡◌, ℕ, ◌++◌, Bool, true, false, List, Option}
use Rattle.std.proofs.Common.{ap₂, refl}
use Rattle.dc_bench.specs.BenchState.{BenchState}
use Rattle.edge_report.specs.EdgeRows.{edge_row, edges_in_order}
use Rattle.edge_report.specs.SlaveLine.{measured_text, slave_line, slave_lines}
use Rattle.edge_report.specs.Slaves.{reference_position, slave_at}
use Rattle.edge_report.specs.Spread.{allowed_of, spread_of}
use Rattle.segment_bounds.specs.Bounds.{copy_bound_at, wire_delay_at, delay_bound_at}
use Rattle.segment_bounds.specs.Window.{window_of}
use Rattle.segment_file.specs.Segment.{SegmentValue}
use Rattle.segment_text.specs.Migrated.{migrated}
use Rattle.bench_report.specs.Edges.{edges_told}
use Rattle.bench_report.specs.Reports.{drill_text, report_text, rows_text, summary_text, table_text}

same_reference : (s : SegmentValue) → reference_position (migrated s) ≡ reference_position s
unfolding reference_position
same_reference s = refl

-- with the bounds that stand beside its delay
same_lines : (s : SegmentValue) (delays : List (Option ℕ)) → slave_lines (migrated s) delays ≡ slave_lines s delays
unfolding slave_line measured_text slave_at reference_position wire_delay_at delay_bound_at
same_lines s delays = refl

same_spread : (s : SegmentValue) → spread_of (migrated s) ≡ spread_of s
unfolding spread_of slave_at
same_spread s = refl

same_allowed : (s : SegmentValue) → allowed_of (migrated s) ≡ allowed_of s
unfolding allowed_of slave_at copy_bound_at wire_delay_at delay_bound_at
same_allowed s = refl

same_row : (s : SegmentValue) → edge_row (migrated s) ≡ edge_row s
unfolding edge_row slave_at
same_row s = refl

same_order : (s : SegmentValue) → edges_in_order (migrated s) ≡ edges_in_order s
unfolding edges_in_order
same_order s = refl

same_told : (s : SegmentValue) → edges_told (migrated s) ≡ edges_told s
unfolding edges_told
same_told s = refl

pub same_window : (s : SegmentValue) → window_of (migrated s) ≡ window_of s
unfolding window_of copy_bound_at wire_delay_at delay_bound_at
same_window s = refl

pub same_table : (s : SegmentValue) (b : BenchState) → table_text (migrated s) b ≡ table_text s b
unfolding table_text
same_table s b = rw (same_reference s, same_lines s b.master.delays) refl

same_summary : (s : SegmentValue) (b : BenchState) (asked : Bool) → summary_text (migrated s) b asked ≡ summary_text s b asked
unfolding summary_text
same_summary s b true = rw (same_reference s, same_lines s b.master.delays, same_told s, same_spread s, same_allowed s) refl
same_summary s b false = rw (same_reference s, same_told s, same_spread s, same_allowed s) refl

same_rows : (s : SegmentValue) (b : BenchState) (asked : Bool) → rows_text (migrated s) b asked ≡ rows_text s b asked
unfolding rows_text
same_rows s b asked = rw (same_told s, same_order s, same_row s) refl

pub same_report : (s : SegmentValue) (b : BenchState) (asked : Bool) → report_text (migrated s) b asked ≡ report_text s b asked
same_report s b asked = ap₂ (λ (xs ys : List ℕ). xs ++ ys) (same_summary s b true) (same_rows s b asked)

pub same_drill : (s : SegmentValue) (b : BenchState) → drill_text (migrated s) b ≡ drill_text s b
same_drill s b = same_summary s b false
