use Rattle.std.proofs.Common.{◌≡◌, ◌++◌, ◌+◌, ◌<◌, get_or, take, length, Some, List, ℕ, arith, sym, ap, ◌∙◌, subst, append-nil, append_assoc}
use Rattle.std.specs.List.{flat_map}
use Rattle.std.proofs.lemmas.List.{take_more, flat_map_more}
use Rattle.segment_file.specs.Segment.{SegmentValue}
use Rattle.edge_report.specs.EdgeRows.{edge_row, header_row}
use Rattle.edge_report.specs.InsideRows.{Wrote}
use Rattle.edge_report.specs.declared.slave_edge.SlaveEdge.{SlaveEdge}
use Rattle.edge_report.proofs.edge_rows.rows_behind.Goals as goal

more_rows : (s : SegmentValue) (text : List ℕ) (edges : List SlaveEdge) (i : ℕ) (d : SlaveEdge) → i < length edges
    → text ++ (header_row ++ flat_map (edge_row s) (take i edges)) ++ edge_row s (get_or edges i d) ≡ text ++ (header_row ++ flat_map (edge_row s) (take (i + 1) edges))
more_rows s text edges i d h =
    append_assoc text (header_row ++ flat_map (edge_row s) (take i edges)) (edge_row s (get_or edges i d))
    ∙ ap (λ t. text ++ t) (flat_map_more (edge_row s) header_row (take i edges) (get_or edges i d) ∙ ap (λ t. header_row ++ flat_map (edge_row s) t) (sym (take_more edges i d h)))

pub loop-edge-init : goal.loop-edge-init
loop-edge-init c =
    let f = c.from_writer-writer.ensures in
    let start : Wrote (λ v. Some v.items) c.from_writer-writer.result c.args.text.items = record {
      setup = f.cfg ∙ c.new.ensures;
      fields = f.fields;
      clean = f.wrote;
      text = rw (f.wtr, f.empty) (ap (λ (t : List ℕ). Some t) (append-nil c.args.text.items));
    } in
    rw append-nil (c.in_ok-put_header.ensures c.args.text.items start)

pub loop-edge-preserved : goal.loop-edge-preserved
loop-edge-preserved c =
    let text : List ℕ = c.args.text.items in
    let h = c.in_ok-put_edge.ensures (text ++ (header_row ++ flat_map (edge_row c.args.segment.now) (take c.loop-edge.edge-index c.args.edges.now))) c.loop-edge.invariant in
    subst (λ t. Wrote (λ v. Some v.items) c.put_edge.new.writer t) (more_rows c.args.segment.now text c.args.edges.now c.loop-edge.edge-index _ (omega arith)) h
