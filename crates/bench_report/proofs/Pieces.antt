-- The edges that are told, made slave by slave, and a report, made part by part.
use Rattle.std.proofs.Common.{◌≡◌, ℕ, zero, suc, ◌+◌, ◌<◌, Bool, true, false, List, [], ◌∷◌, ◌++◌, length, sym, ap, ◌∙◌, arith}
use Rattle.std.specs.Prelude.{IfSome, slice_get}
use Rattle.std.specs.List.{flat_map, range_with_len}
use Rattle.std.specs.Option.{option_map_or}
use Rattle.std.proofs.lemmas.List.{append-nil}
use Rattle.dc_bench.specs.BenchState.{BenchState}
use Rattle.edge_report.specs.EdgeRows.{edge_rows}
use Rattle.edge_report.specs.declared.slave_edge.SlaveEdge.{SlaveEdge}
use Rattle.frame_pass.specs.SegmentState.{SegmentState}
use Rattle.frame_pass.specs.SlaveState.{Slave}
use Rattle.segment_file.specs.Segment.{SegmentValue}
use Rattle.sync_units.specs.declared.edge.Edge.{Edge}
use Rattle.wire_sim.specs.Seen.{edges_kept}
use Rattle.bench_report.specs.Edges.{edges_told, kept_at, own_edges}
use Rattle.bench_report.specs.Reports.{report_text, rows_text, summary_text}
use Rattle.bench_report.proofs.Lists.{flat_more}

kept_by : (ss : List Slave) (p : ℕ) (es : List Edge) → p < length ss → IfSome (slice_get ss p) (λ s. es ≡ edges_kept s) → es ≡ option_map_or edges_kept (slice_get ss p) []
kept_by [] p es low h = absurd (omega (arith, low))
kept_by (s ∷ ss) zero es low h = h
kept_by (s ∷ ss) (suc p) es low h = kept_by ss p es (omega (arith, low)) h

-- those of one more slave
pub slave_more : (w v : SegmentState) (p : ℕ) (es : List Edge) (before after : List SlaveEdge) → v ≡ w → p < length v.slaves
    → IfSome (slice_get v.slaves p) (λ x. es ≡ edges_kept x) → before ≡ flat_map (λ q. own_edges q (kept_at w q)) (range_with_len 0 p) → after ≡ before ++ own_edges p es
    → after ≡ flat_map (λ q. own_edges q (kept_at w q)) (range_with_len 0 (p + 1))
slave_more w v p es before after same low kept inv push =
    let f : ℕ → List SlaveEdge = λ q. own_edges q (kept_at w q) in
    let up : p + 1 ≡ suc p = omega arith in
    let all : es ≡ kept_at w p = kept_by v.slaves p es low kept ∙ ap (λ u. kept_at u p) same in
    push ∙ ap (λ xs. xs ++ own_edges p es) inv ∙ ap (λ es. flat_map f (range_with_len 0 p) ++ own_edges p es) all ∙ sym (flat_more f p) ∙ ap (λ k. flat_map f (range_with_len 0 k)) (sym up)

pub all_told : (s : SegmentValue) (w : SegmentState) (n : ℕ) → n ≡ length s.rows → flat_map (λ q. own_edges q (kept_at w q)) (range_with_len 0 n) ≡ edges_told s w
unfolding edges_told
all_told s w n is = ap (λ k. flat_map (λ q. own_edges q (kept_at w q)) (range_with_len 0 k)) is

-- the rows stand behind the summary where they are asked for
pub with_rows : (s : SegmentValue) (b : BenchState) (asked : Bool) (edges : List SlaveEdge) (text after : List ℕ) → asked ≡ true → edges ≡ edges_told s b.wire
    → text ≡ summary_text s b true → after ≡ text ++ edge_rows s edges → after ≡ report_text s b asked
unfolding rows_text
with_rows s b asked edges text after on are before is =
    rw on (is ∙ ap (λ xs. xs ++ edge_rows s edges) before ∙ ap (λ es. summary_text s b true ++ edge_rows s es) are)

pub without_rows : (s : SegmentValue) (b : BenchState) (asked : Bool) (text : List ℕ) → asked ≡ false → text ≡ summary_text s b true → text ≡ report_text s b asked
unfolding rows_text
without_rows s b asked text off is = rw off (is ∙ sym (append-nil (summary_text s b true)))
