use Rattle.segment_shape.specs.Seen.{shape_seen}
use Rattle.segment_shape.proofs.Exported.{file_ranges}
use Rattle.segment_file.proofs.FaultLemmas.{told_at_error}
use Rattle.segment_file.proofs.segment.read_segment.Goals as goal

pub segment_of-requires-clause-said : goal.segment_of-requires-clause-said
segment_of-requires-clause-said c = let read = c.in_ok-shape.ensures.read in (read.0, read.2)

pub segment_of-requires-clause-file : goal.segment_of-requires-clause-file
segment_of-requires-clause-file c = let read = c.in_ok-shape.ensures.read in file_ranges read.0 (shape_seen c.in_ok-shape.shape) read.2

pub returns-clause-refused : goal.returns-clause-refused
returns-clause-refused c = told_at_error c.args.bytes.now (shape_seen c.in_ok-shape.shape) c.segment_of.result c.in_ok-shape.ensures.read c.segment_of.ensures.err
