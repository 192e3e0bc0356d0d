use Rattle.std.proofs.Common.{◌≡◌, ◌∙◌, ap, arith, refl, take_all}
use Rattle.std.proofs.lemmas.List.{get_or_default}
use Rattle.std.specs.Prelude.{slice_index_or}
use Rattle.sync_units.specs.declared.edge.Signal.TheVariants.{Sync0}
use Rattle.segment_bounds.specs.Window.{greatest}
use Rattle.edge_report.specs.InsideSpread.{no_edge}
use Rattle.edge_report.specs.Spread.{spread_between, spread_of}
use Rattle.edge_report.specs.declared.slave_edge.SlaveEdge.{SlaveEdge}
use Rattle.edge_report.proofs.Ordering.{index}
use Rattle.edge_report.proofs.Spreading.{at_start, index_within, spread_step, told_step}
use Rattle.edge_report.proofs.spread.spread.Goals as goal

abbrev zero_edge : SlaveEdge
zero_edge = record { position = 0; edge = record { signal = Sync0; index = 0; time_fs = 0 } }

pub index_mut-meeting-requires : goal.index_mut-meeting-requires
index_mut-meeting-requires c =
    let low = index_within c.args.segment.now c.args.edges.now c.loop-edge.edge-index zero_edge c.requires c.loop-edge-test.true in
    omega (arith, low, c.loop-edge.invariant.told.all)

pub loop-edge-init : goal.loop-edge-init
unfolding greatest
loop-edge-init c = record {
  spread = refl;
  told = at_start c.args.segment.now c.args.edges.now c.cycles.result c.in_ok-meetings.meetings.items c.in_ok-meetings.ensures c.cycles.ensures.is;
}

pub loop-edge-preserved : goal.loop-edge-preserved
loop-edge-preserved c =
    let s = c.args.segment.now in
    let edges = c.args.edges.now in
    let at : c.index_mut-meeting.result.now ≡ slice_index_or c.loop-edge.meetings.items (index (slice_index_or edges c.loop-edge.edge-index zero_edge)) no_edge =
    c.index_mut-meeting.ensures.value ∙ get_or_default c.loop-edge.meetings.items (index (slice_index_or edges c.loop-edge.edge-index zero_edge)) _ no_edge
    (omega (arith, index_within s edges c.loop-edge.edge-index zero_edge c.requires c.loop-edge-test.true, c.loop-edge.invariant.told.all)) in
    record {
      spread = spread_step s edges c.loop-edge.edge-index zero_edge c.loop-edge.meetings.items c.index_mut-meeting.result.now c.moved-instant.result c.loop-edge.spread c.meet.result
          c.max-spread.result c.cycles.ensures.legal c.requires c.loop-edge-test.true c.loop-edge.invariant.told c.loop-edge.invariant.spread c.moved-instant.ensures c.moved-instant.type_inv at
          c.meet.ensures.reach c.max-spread.ensures;
      told = told_step s edges c.loop-edge.edge-index zero_edge c.loop-edge.meetings.items c.index_mut-meeting.result.now c.meet.new.self c.moved-instant.result c.requires
          c.loop-edge-test.true c.loop-edge.invariant.told c.moved-instant.ensures at c.meet.ensures.met;
    }

pub returns : goal.returns
unfolding spread_of
returns c = c.loop-edge.invariant.spread ∙ ap (greatest (spread_between c.args.segment.now)) (take_all c.loop-edge.edge-index c.args.edges.now c.loop-edge-test.false)
