use Rattle.std.proofs.Common.{map, arith}
use Rattle.std.proofs.lemmas.List.{length-map}
use Rattle.segment_file.specs.Seen.{row_seen}
use Rattle.segment_file.proofs.CountLemmas.{counted}
use Rattle.segment_file.proofs.counts.counts_of.Goals as goal

pub returns-clause-counted : goal.returns-clause-counted
returns-clause-counted c =
    let whole = counted (map row_seen c.args.rows.now) (omega (arith, length-map c.args.rows.now row_seen)) in
    record {
      slaves = omega (arith, c.requires);
      measuring = omega (arith, whole.measuring, c.measuring.ensures);
      clocks = omega (arith, whole.clocks, c.measuring.ensures, c.clocks-clocks.ensures);
      signals = omega (arith, whole.signals, c.clocks-clocks.ensures, c.sync1_signals.ensures);
    }
