use Rattle.std.proofs.Common.{◌∙◌, map}
use Rattle.segment_shape.specs.Seen.{head_seen}
use Rattle.segment_file.specs.Seen.{row_seen}
use Rattle.segment_text.proofs.MigratedLemmas.{parts_legal}
use Rattle.segment_text.proofs.migrate.migrate.Goals as goal

pub from_rows-requires : goal.from_rows-requires
from_rows-requires c =
    parts_legal c.args.segment.now (head_seen c.newest_head.result) (map row_seen c.in_ok-rows.rows.items) c.in_ok-losses.losses
    c.newest_head.ensures (c.in_ok-rows.ensures ∙ c.rows.ensures.is) (c.in_ok-losses.ensures ∙ c.losses.ensures.is) c.rows.ensures.legal
