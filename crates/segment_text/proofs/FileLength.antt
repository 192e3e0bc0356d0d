-- How long the text of a file can be: of its changes of periods, its slaves, its losses and the whole.
use Rattle.std.specs.Prelude.{◌≡◌, ℕ, ◌^◌, ◌<◌, ◌≤◌, true, List, length, Option, IfSome, codes}
use Rattle.std.proofs.Common.{arith, refl, get_or}
use Rattle.std.specs.List.{All}
use Rattle.std.proofs.lemmas.Option.{IfSome_then}
use Rattle.std.proofs.lemmas.List.{length-append}
use Rattle.esc_regs.specs.declared.clock_kind.ClockKind.{ClockKind}
use Rattle.esc_regs.specs.declared.clock_kind.ClockKind.TheVariants as kind
use Rattle.osc_clock.specs.Ticks.{Rate}
use Rattle.serde_json.specs.Data.{array, string}
use Rattle.serde_json.specs.Written.{compact_text}
use Rattle.segment_shape.specs.Ranges.{IsRate, IsParent, IsSlave, IsLoss, IsFile}
use Rattle.segment_shape.specs.ShapeOf.{ShapeValue}
use Rattle.segment_shape.specs.Slaves.{ParentValue, SlaveValue, changes}
use Rattle.esc_regs.specs.Kinds.{greatest_start, has_clock, measures}
use Rattle.segment_shape.specs.Values.{is_id}
use Rattle.segment_shape.specs.Written.{whole, items_for, kind_name, phase_name, rate_data, rate_entries, slave_data, slave_entries, loss_data, loss_entries, file_data, file_entries, file_text, line_feed}
use Rattle.loss_list.specs.declared.loss_row.LossRow.{LossRow}
use Rattle.loss_list.specs.declared.loss_row.Phase.{Phase}
use Rattle.loss_list.specs.declared.loss_row.Phase.TheVariants.{Commission, Drift}
use Rattle.segment_file.specs.Legal.{IsLegal}
use Rattle.segment_file.specs.Segment.{SegmentValue}
use Rattle.segment_file.specs.Written.{segment_text, written}
use Rattle.segment_file.proofs.Exported.{written_file}
use Rattle.segment_text.proofs.LengthLemmas.{number_short, number_at_short, number_if_short, id_text_short, id_at_short, entry_short, entry_short_if, entry_short_of, object_short, array_short}

kind_is_id : (k : ClockKind) → is_id (kind_name k) ≡ true
kind_is_id kind.None = refl
kind_is_id kind.R32 = refl
kind_is_id kind.C32 = refl
kind_is_id kind.C64 = refl

phase_is_id : (p : Phase) → is_id (phase_name p) ≡ true
phase_is_id Commission = refl
phase_is_id Drift = refl

start_fits : (k : ClockKind) → greatest_start k < 2 ^ 64
start_fits kind.None = omega arith
start_fits kind.R32 = omega arith
start_fits kind.C32 = omega arith
start_fits kind.C64 = omega arith

rate_short : (r : Rate) → IsRate r → length (compact_text (rate_data r)) ≤ 82
rate_short r is =
    let period = number_at_short (codes "period_fs") r.period refl (omega (arith, is.period)) in
    let tick = number_at_short (codes "tick") r.tick refl (omega (arith, is.tick)) in
    object_short (rate_entries r) 80 (simp length-append (omega (arith, period, tick)))

rates_short : (rates : List Rate) → length rates ≤ 64 → All IsRate rates → length (compact_text (array (items_for rate_data rates))) ≤ 5314
rates_short rates few all =
    omega (arith, few, array_short rate_data 82 rates (λ k r low. rate_short (get_or rates k r) (all k r low)))

parent_short : (o : Option ParentValue) → IfSome o IsParent → IfSome o (λ p. length (compact_text (string p.id)) ≤ 20)
parent_short o h = IfSome_then o h (λ p is. id_text_short p.id is.id)

port_short : (o : Option ParentValue) → IfSome o IsParent → IfSome o (λ p. length (compact_text (whole p.port)) ≤ 20)
port_short o h = IfSome_then o h (λ p is. number_short p.port (omega (arith, is.port.1)))

sync1_short : (o : Option ℕ) (cycle_ns : ℕ) → cycle_ns ≤ 500000000 → IfSome o (λ ns. (1 ≤ ns) × (ns < cycle_ns)) → IfSome o (λ ns. length (compact_text (whole ns)) ≤ 20)
sync1_short o cycle_ns most h = IfSome_then o h (λ ns is. number_short ns (omega (arith, is.1, most)))

slave_short : (version cycle_ns : ℕ) (s : SlaveValue) → cycle_ns ≤ 500000000 → IsSlave version cycle_ns s → length (compact_text (slave_data version s)) ≤ 5816
unfolding slave_data
slave_short version cycle_ns s most is =
    let cable = number_at_short (codes "cable_ps") s.cable_ps refl (omega (arith, is.cable_ps)) in
    let clock = id_at_short (codes "clock") (kind_name s.kind) refl (kind_is_id s.kind) in
    let id = id_at_short (codes "id") s.id refl is.id in
    let parent = entry_short_of (λ p. string p.id) (codes "parent") s.parent 20 refl (parent_short s.parent is.parent) in
    let period = number_if_short (measures s.kind) (codes "period_fs") s.period_fs refl (omega (arith, is.period_fs)) in
    let phase = number_if_short (measures s.kind) (codes "phase_fs") s.phase_fs refl (omega (arith, is.phase_fs)) in
    let port = entry_short_of (λ p. whole p.port) (codes "port") s.parent 20 refl (port_short s.parent is.parent) in
    let rates = entry_short_if (changes version s.kind) (codes "rates") (array (items_for rate_data s.rates)) 5314 refl (rates_short s.rates is.few is.rates) in
    let shift = number_if_short (has_clock s.kind) (codes "shift_ns") s.shift_ns refl (omega (arith, is.shift_ns, most)) in
    let start = number_if_short (measures s.kind) (codes "start") s.start refl (omega (arith, is.start, start_fits s.kind)) in
    let sync1 = entry_short_of whole (codes "sync1_ns") s.sync1_ns 20 refl (sync1_short s.sync1_ns cycle_ns most is.sync1_ns) in
    let tf = number_at_short (codes "tf_ns") s.tf_ns refl (omega (arith, is.tf_ns.1)) in
    let tp = number_at_short (codes "tp_ns") s.tp_ns refl (omega (arith, is.tp_ns.1)) in
    object_short (slave_entries (changes version s.kind) s) 5814 (simp length-append (omega (arith, cable, clock, id, parent, period, phase, port, rates, shift, start, sync1, tf, tp)))

slaves_short : (version cycle_ns : ℕ) (slaves : List SlaveValue) → cycle_ns ≤ 500000000 → length slaves ≤ 256 → All (IsSlave version cycle_ns) slaves
    → length (compact_text (array (items_for (slave_data version) slaves))) ≤ 1489154
slaves_short version cycle_ns slaves most few all =
    omega (arith, few, array_short (slave_data version) 5816 slaves (λ k s low. slave_short version cycle_ns (get_or slaves k s) most (all k s low)))

loss_short : (slaves : ℕ) (r : LossRow) → slaves ≤ 256 → IsLoss slaves r → length (compact_text (loss_data r)) ≤ 122
unfolding loss_data
loss_short slaves r few is =
    let after = number_at_short (codes "after") r.after refl (omega (arith, is.after, few)) in
    let number = number_at_short (codes "number") r.number refl (omega (arith, is.number.1)) in
    let phase = id_at_short (codes "phase") (phase_name r.phase) refl (phase_is_id r.phase) in
    object_short (loss_entries r) 120 (simp length-append (omega (arith, after, number, phase)))

losses_short : (slaves : ℕ) (losses : List LossRow) → slaves ≤ 256 → length losses ≤ 10000 → All (IsLoss slaves) losses → length (compact_text (array (items_for loss_data losses))) ≤ 1230002
losses_short slaves losses low few all =
    omega (arith, few, array_short loss_data 122 losses (λ k r h. loss_short slaves (get_or losses k r) low (all k r h)))

file_short : (s : ShapeValue) → IsFile s → length (file_text s) ≤ 2719519
unfolding file_data
file_short s is =
    let h = s.head in
    let cycle = number_at_short (codes "cycle_ns") h.cycle_ns refl (omega (arith, is.head.cycle_ns.1)) in
    let cycles = number_at_short (codes "cycles") h.cycles refl (omega (arith, is.head.cycles.1)) in
    let epoch = number_at_short (codes "epoch_ns") h.epoch_ns refl (omega (arith, is.head.epoch_ns)) in
    let frame = number_at_short (codes "frame_ns") h.frame_ns refl (omega (arith, is.head.frame_ns.1)) in
    let loss_run = number_at_short (codes "loss_run") h.loss_run refl (omega (arith, is.head.loss_run)) in
    let losses = entry_short (codes "losses") (array (items_for loss_data s.losses)) 1230002 refl (losses_short (length s.slaves) s.losses is.few_slaves is.few_losses is.losses) in
    let ppm = number_at_short (codes "ppm") h.ppm refl (omega (arith, is.head.ppm)) in
    let slaves = entry_short (codes "slaves") (array (items_for (slave_data h.version) s.slaves)) 1489154 refl (slaves_short h.version h.cycle_ns s.slaves is.head.cycle_ns.1 is.few_slaves is.slaves) in
    let speed = number_at_short (codes "speed") h.speed refl (omega (arith, is.head.speed.1)) in
    let version = number_at_short (codes "version") h.version refl (omega (arith, is.head.version.1)) in
    let value = object_short (file_entries s) 2719516 (simp length-append (omega (arith, cycle, cycles, epoch, frame, loss_run, losses, ppm, slaves, speed, version))) in
    omega (arith, value, length-append (compact_text (file_data s)) line_feed)

-- so 16 MiB hold the text of any legal segment
pub text_short : (s : SegmentValue) → IsLegal s → length (segment_text s) ≤ 16777216
text_short s legal = omega (arith, file_short (written s) (written_file s legal))
