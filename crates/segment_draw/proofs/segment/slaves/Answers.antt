use Rattle.std.proofs.Common.{◌∙◌, ap, map, arith, rules}
use Rattle.segment_file.specs.Seen.{row_seen}
use Rattle.segment_draw.specs.Generated.{row_of}
use Rattle.segment_draw.specs.Seen.{draws_seen}
use Rattle.segment_draw.proofs.StepLemmas.{row_more, rows_end}
use Rattle.segment_draw.proofs.segment.slaves.Goals as goal

pub loop-preserved : goal.loop-preserved
loop-preserved c =
    let rows = c.loop.rows.items in
    let made = c.row_of-row.ensures ∙ ap (λ rs. row_of (map row_seen rs) (draws_seen c.draw_slave-draws.result)) c.deref.ensures.value in
    record {
      rows = row_more rows c.push.new.self.items c.row_of-row.result (draws_seen c.draw_slave-draws.result) _ c.args.n c.loop.counter c.loop.state c.draw_slave-draws.new.state
          (omega arith) c.loop.invariant.rows c.draw_slave-draws.ensures.is c.draw_slave-draws.ensures.state made c.in_ok-push.ensures.items;
      low = c.draw_slave-draws.ensures.low;
      count = search rules;
    }

pub returns : goal.returns
returns c = rows_end (map row_seen c.loop.rows.items) _ c.args.n c.loop.counter c.loop.state (omega arith) c.loop.invariant.rows
