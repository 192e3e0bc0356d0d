-- The text of objects and arrays, member by member and element by element.
use Rattle.std.proofs.Common.{◌≡◌, ◌∙◌, ap, refl, ℕ, suc, ◌+◌, ◌<◌, Bool, true, List, [], ◌∷◌, ◌++◌, length, drop, get_or, Option, Some, None, append_assoc, arith}
use Rattle.std.proofs.Math.Seq.{drop-cons}
use Rattle.json.specs.Print.{quoted}
use Rattle.std.specs.Prelude.{codes, option_map}
use Rattle.serde_json.specs.Data.{Data, array, object, string}
use Rattle.serde_json.specs.Written.{comma_if, compact_text, items_text, members_text}
use Rattle.osc_clock.specs.Ticks.{Rate}
use Rattle.segment_shape.specs.Written.{Entry, held, members_of, items_for, file_data, line_feed, at_key, at_key_if, at_key_of, whole, kind_name, loss_data, phase_name, rate_data, slave_data}
use Rattle.segment_shape.specs.Slaves.{changes}
use Rattle.esc_regs.specs.Kinds.{has_clock, measures}
use Rattle.segment_file.specs.Segment.{RowValue, SegmentValue}
use Rattle.segment_file.specs.Written.{parent_of, segment_text, written, written_row}
use Rattle.loss_list.specs.declared.loss_row.LossRow.{LossRow}
use Rattle.segment_text.specs.HeadText.{back_text, front_text}
use Rattle.segment_text.specs.SlaveText.{oscillator_text, place_text, signal_text}
use Rattle.segment_text.specs.Text.{opened, value_text, entry_text, entries_text}

-- behind another member
later_entries : (es : List Entry) → members_text true (members_of es) ≡ entries_text es ++ 125 ∷ []
unfolding entry_text
later_entries [] = refl
later_entries (e ∷ es) = by_value e.value (later_entries es)
  where
    by_value : (v : Option Data) → members_text true (members_of es) ≡ entries_text es ++ 125 ∷ []
        → members_text true (held e.key v (members_of es)) ≡ (value_text e.key v ++ entries_text es) ++ 125 ∷ []
    by_value None rest = rest
    by_value (Some d) rest =
        ap (λ t. 44 ∷ (quoted e.key ++ 58 ∷ (compact_text d ++ t))) rest ∙ simp append_assoc

-- an object whose first key is always there
pub object_text : (key : List ℕ) (d : Data) (es : List Entry) → compact_text (object (members_of (at_key key d ∷ es))) ≡ opened key d ++ (entries_text es ++ 125 ∷ [])
unfolding opened
object_text key d es = ap (λ t. 123 ∷ (quoted key ++ 58 ∷ (compact_text d ++ t))) (later_entries es) ∙ simp append_assoc

-- one element more of an array: what is left to write
pub items_step : {A : Type 0} (says : A → Data) (xs : List A) (k : ℕ) (d : A) (later : Bool) (whole before comma one : List ℕ) → k < length xs
    → whole ≡ before ++ items_text later (items_for says (drop k xs)) → comma ≡ before ++ comma_if later → one ≡ comma ++ compact_text (says (get_or xs k d))
    → whole ≡ one ++ items_text true (items_for says (drop (k + 1) xs))
items_step says xs k d later whole before comma one low is c o =
    let next : suc k ≡ k + 1 = omega arith in
    is ∙ ap (λ (ys : List _). before ++ items_text later (items_for says ys)) (drop-cons xs k d low ∙ ap (λ (j : ℕ). get_or xs k d ∷ drop j xs) next)
    ∙ rw (o, c) (simp append_assoc)

-- the text of a loss, piece by piece
pub loss_text : (r : LossRow) → compact_text (loss_data r)
    ≡ opened (codes "after") (whole r.after) ++ (entry_text (at_key (codes "number") (whole r.number)) ++ (entry_text (at_key (codes "phase") (string (phase_name r.phase))) ++ 125 ∷ []))
unfolding loss_data
loss_text r =
    object_text (codes "after") (whole r.after) (at_key (codes "number") (whole r.number) ∷ at_key (codes "phase") (string (phase_name r.phase)) ∷ [])
    ∙ simp append_assoc

-- the text of a change of a period
pub rate_text : (r : Rate) → compact_text (rate_data r) ≡ opened (codes "period_fs") (whole r.period) ++ (entry_text (at_key (codes "tick") (whole r.tick)) ++ 125 ∷ [])
rate_text r = object_text (codes "period_fs") (whole r.period) (at_key (codes "tick") (whole r.tick) ∷ []) ∙ simp append_assoc

-- the text of a slave, part by part
pub slave_text : (version : ℕ) (rows : List RowValue) (r : RowValue) → compact_text (slave_data version (written_row rows r))
    ≡ place_text r (option_map (parent_of rows) r.above) ++ (oscillator_text version r (option_map (parent_of rows) r.above) ++ (signal_text r ++ 125 ∷ []))
unfolding slave_data place_text oscillator_text signal_text
slave_text version rows r =
    let s = written_row rows r in
    object_text (codes "cable_ps") (whole s.cable_ps)
    (at_key (codes "clock") (string (kind_name s.kind))
    ∷ at_key (codes "id") (string s.id)
    ∷ at_key_of (λ p. string p.id) (codes "parent") s.parent
    ∷ at_key_if (measures s.kind) (codes "period_fs") (whole s.period_fs)
    ∷ at_key_if (measures s.kind) (codes "phase_fs") (whole s.phase_fs)
    ∷ at_key_of (λ p. whole p.port) (codes "port") s.parent
    ∷ at_key_if (changes version s.kind) (codes "rates") (array (items_for rate_data s.rates))
    ∷ at_key_if (has_clock s.kind) (codes "shift_ns") (whole s.shift_ns)
    ∷ at_key_if (measures s.kind) (codes "start") (whole s.start)
    ∷ at_key_of whole (codes "sync1_ns") s.sync1_ns
    ∷ at_key (codes "tf_ns") (whole s.tf_ns)
    ∷ at_key (codes "tp_ns") (whole s.tp_ns)
    ∷ [])
    ∙ simp append_assoc

-- the text of a file, part by part
pub whole_text : (s : SegmentValue) → segment_text s
    ≡ front_text s.head
    ++ (entry_text (at_key (codes "losses") (array (items_for loss_data s.losses)))
    ++ (entry_text (at_key (codes "ppm") (whole s.head.ppm))
    ++ (entry_text (at_key (codes "slaves") (array (items_for (slave_data s.head.version) (written s).slaves)))
    ++ (back_text s.head ++ 125 ∷ 10 ∷ []))))
unfolding file_data front_text back_text
whole_text s =
    let h = s.head in
    ap (λ t. t ++ line_feed)
    (object_text (codes "cycle_ns") (whole h.cycle_ns)
    (at_key (codes "cycles") (whole h.cycles)
    ∷ at_key (codes "epoch_ns") (whole h.epoch_ns)
    ∷ at_key (codes "frame_ns") (whole h.frame_ns)
    ∷ at_key (codes "loss_run") (whole h.loss_run)
    ∷ at_key (codes "losses") (array (items_for loss_data s.losses))
    ∷ at_key (codes "ppm") (whole h.ppm)
    ∷ at_key (codes "slaves") (array (items_for (slave_data h.version) (written s).slaves))
    ∷ at_key (codes "speed") (whole h.speed)
    ∷ at_key (codes "version") (whole h.version)
    ∷ []))
    ∙ simp append_assoc
