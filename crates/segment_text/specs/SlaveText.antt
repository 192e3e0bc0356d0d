-- The text of a slave row, in three parts.
use Rattle.std.specs.Prelude.{ℕ, List, ◌++◌, Option, codes}
use Rattle.serde_json.specs.Data.{string, array}
use Rattle.segment_shape.specs.Slaves.{ParentValue, changes}
use Rattle.esc_regs.specs.Kinds.{has_clock, measures}
use Rattle.segment_shape.specs.Written.{at_key, at_key_if, at_key_of, whole, items_for, kind_name, rate_data}
use Rattle.segment_file.specs.Segment.{RowValue}
use Rattle.segment_text.specs.Text.{entry_text, opened}

-- from the cable to the parent
unfoldable pub place_text : RowValue → Option ParentValue → List ℕ
place_text s parent =
    opened (codes "cable_ps") (whole s.cable_ps)
    ++ (entry_text (at_key (codes "clock") (string (kind_name s.kind)))
    ++ (entry_text (at_key (codes "id") (string s.id))
    ++ entry_text (at_key_of (λ p. string p.id) (codes "parent") parent)))

-- from the period to its changes
unfoldable pub oscillator_text : ℕ → RowValue → Option ParentValue → List ℕ
oscillator_text version s parent =
    entry_text (at_key_if (measures s.kind) (codes "period_fs") (whole s.period_fs))
    ++ (entry_text (at_key_if (measures s.kind) (codes "phase_fs") (whole s.phase_fs))
    ++ (entry_text (at_key_of (λ p. whole p.port) (codes "port") parent)
    ++ entry_text (at_key_if (changes version s.kind) (codes "rates") (array (items_for rate_data s.rates)))))

-- from the shift to the forwarding times
unfoldable pub signal_text : RowValue → List ℕ
signal_text s =
    entry_text (at_key_if (has_clock s.kind) (codes "shift_ns") (whole s.shift_ns))
    ++ (entry_text (at_key_if (measures s.kind) (codes "start") (whole s.start))
    ++ (entry_text (at_key_of whole (codes "sync1_ns") s.sync1_ns)
    ++ (entry_text (at_key (codes "tf_ns") (whole s.tf_ns))
    ++ entry_text (at_key (codes "tp_ns") (whole s.tp_ns)))))
