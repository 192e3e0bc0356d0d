-- The text of a file's head, on both sides of its losses and slaves.
use Rattle.std.specs.Prelude.{ℕ, List, ◌++◌, codes}
use Rattle.segment_shape.specs.Head.{HeadValue}
use Rattle.segment_shape.specs.Written.{at_key, whole}
use Rattle.segment_text.specs.Text.{entry_text, opened}

unfoldable pub front_text : HeadValue → List ℕ
front_text h =
    opened (codes "cycle_ns") (whole h.cycle_ns)
    ++ (entry_text (at_key (codes "cycles") (whole h.cycles))
    ++ (entry_text (at_key (codes "epoch_ns") (whole h.epoch_ns))
    ++ (entry_text (at_key (codes "frame_ns") (whole h.frame_ns))
    ++ entry_text (at_key (codes "loss_run") (whole h.loss_run)))))

unfoldable pub back_text : HeadValue → List ℕ
back_text h = entry_text (at_key (codes "speed") (whole h.speed)) ++ entry_text (at_key (codes "version") (whole h.version))
