use Rattle.std.proofs.Common.{map}
use Rattle.segment_shape.specs.Seen.{head_seen}
use Rattle.segment_file.specs.Seen.{row_seen}
use Rattle.segment_draw.proofs.LegalLemmas.{parts_legal}
use Rattle.segment_draw.proofs.segment.drawn_segment.Goals as goal

pub from_rows-requires : goal.from_rows-requires
from_rows-requires c =
    parts_legal c.args.n c.args.seed (head_seen c.head.result) (map row_seen c.in_ok-rows.rows.items) c.in_ok-losses.losses c.requires.0 c.requires.1
    c.head.ensures c.in_ok-rows.ensures c.in_ok-losses.ensures
