-- The text of a written file is read as the value that says it.
use Rattle.std.proofs.Common.{◌≡◌, subst, ℕ, ◌<◌, ◌≤◌, ◌^◌, Bool, true, false, ◌&&◌, List, [], ◌∷◌, length, Option, Some, None, refl, arith}
use Rattle.std.specs.Prelude.{codes, IfSome, nat_le, nat_lt}
use Rattle.std.specs.List.{list_all}
use Rattle.std.proofs.lemmas.Bool.Decides.{nat_tests}
use Rattle.std.proofs.lemmas.List.Elements.{All-weaker}
use Rattle.json.proofs.Printed.Utf8.{are_ascii, IsUtf8-are_ascii}
use Rattle.serde_json.specs.Data.{Data, string, array, object}
use Rattle.osc_clock.specs.Ticks.{Rate}
use Rattle.esc_regs.specs.declared.clock_kind.ClockKind.{ClockKind}
use Rattle.esc_regs.specs.declared.clock_kind.ClockKind.TheVariants as kind
use Rattle.segment_shape.specs.Values.{is_id, is_id_byte}
use Rattle.segment_shape.specs.Slaves.{ParentValue, SlaveValue, changes}
use Rattle.esc_regs.specs.Kinds.{measures, has_clock, greatest_start}
use Rattle.segment_shape.specs.ShapeOf.{ShapeValue}
use Rattle.segment_shape.specs.Ranges.{IsRate, IsParent, IsSlave, IsLoss, IsFile}
use Rattle.segment_shape.specs.Told.{IsText}
use Rattle.segment_shape.specs.Written.{members_of, items_for, whole, at_key, at_key_if, at_key_of, kind_name, phase_name, rate_entries, rate_data, slave_entries, slave_data, loss_entries, loss_data, file_entries, file_data, file_text}
use Rattle.loss_list.specs.declared.loss_row.LossRow.{LossRow}
use Rattle.loss_list.specs.declared.loss_row.Phase.{Phase}
use Rattle.loss_list.specs.declared.loss_row.Phase.TheVariants.{Commission, Drift}
use Rattle.segment_shape.proofs.TextLemmas.{IsPlain, IsPlainEntry, rise, plain_read, plain_utf8, plainer, whole_plain, string_plain, items_plain, array_plain, object_plain}

-- ---- entries

some_same : (d e : Data) → Some d ≡ Some e → d ≡ e
some_same d e h = cc h

here : (most : ℕ) (key : List ℕ) (d : Data) → are_ascii key ≡ true → IsPlain most d → IsPlainEntry most (at_key key d)
here most key d ascii plain = record { key = IsUtf8-are_ascii key ascii; value = λ e same. subst (IsPlain most) (some_same d e same) plain }

where_it_belongs : (most : ℕ) (b : Bool) (key : List ℕ) (d : Data) → are_ascii key ≡ true → IsPlain most d → IsPlainEntry most (at_key_if b key d)
where_it_belongs most true key d ascii plain = here most key d ascii plain
where_it_belongs most false key d ascii plain = record { key = IsUtf8-are_ascii key ascii; value = λ e same. absurd (cc same) }

if_any : {A : Type 0} (most : ℕ) (says : A → Data) (key : List ℕ) (o : Option A) → are_ascii key ≡ true → IfSome o (λ x. IsPlain most (says x)) → IsPlainEntry most (at_key_of says key o)
if_any most says key None ascii plain = record { key = IsUtf8-are_ascii key ascii; value = λ e same. absurd (cc same) }
if_any most says key (Some x) ascii plain = here most key (says x) ascii plain

number_here : (most n : ℕ) → n < 2 ^ 64 → IsPlain most (whole n)
number_here most n low = plainer 0 most (whole n) (omega arith) (whole_plain n low)

-- ---- texts

id_byte_low : (b : ℕ) → is_id_byte b ≡ true → b < 128
id_byte_low b h = grind (arith, nat_tests, h)

two : (a b : Bool) → (a && b) ≡ true → (a ≡ true) × (b ≡ true)
two true b e = (refl, e)
two false b e = absurd (cc e)

ids_ascii : (text : List ℕ) → list_all is_id_byte text ≡ true → are_ascii text ≡ true
ids_ascii [] h = refl
ids_ascii (b ∷ text) h =
    let both = two (is_id_byte b) (list_all is_id_byte text) h in
    let low : nat_lt b 128 ≡ true = grind (arith, nat_tests, id_byte_low b both.0) in
    rw low (ids_ascii text both.1)

id_text : (most : ℕ) (id : List ℕ) → is_id id ≡ true → IsPlain most (string id)
id_text most id is =
    let bytes = (two (nat_le 1 (length id) && nat_le (length id) 16) (list_all is_id_byte id) is).1 in
    plainer 0 most (string id) (omega arith) (string_plain id (IsUtf8-are_ascii id (ids_ascii id bytes)))

kind_ascii : (k : ClockKind) → are_ascii (kind_name k) ≡ true
kind_ascii kind.None = refl
kind_ascii kind.R32 = refl
kind_ascii kind.C32 = refl
kind_ascii kind.C64 = refl

phase_ascii : (p : Phase) → are_ascii (phase_name p) ≡ true
phase_ascii Commission = refl
phase_ascii Drift = refl

start_low : (k : ClockKind) (n : ℕ) → n ≤ greatest_start k → n < 2 ^ 64
start_low kind.None n h = omega (arith, h)
start_low kind.R32 n h = omega (arith, h)
start_low kind.C32 n h = omega (arith, h)
start_low kind.C64 n h = omega (arith, h)

-- ---- rows

rate_plain : (r : Rate) → IsRate r → IsPlain 1 (rate_data r)
rate_plain r is =
    object_plain 0 (rate_entries r)
    (here 0 (codes "period_fs") (whole r.period) refl (number_here 0 r.period (omega (arith, is.period))), (here 0 (codes "tick") (whole r.tick) refl (number_here 0 r.tick (omega (arith, is.tick))), tt))
    refl

loss_plain : (slaves : ℕ) (r : LossRow) → slaves ≤ 256 → IsLoss slaves r → IsPlain 1 (loss_data r)
unfolding loss_data
loss_plain slaves r few is =
    object_plain 0 (loss_entries r) (here 0 (codes "after") (whole r.after) refl (number_here 0 r.after (omega (arith, is.after, few))), (here 0 (codes "number") (whole r.number) refl (number_here 0 r.number (omega (arith, is.number))), (here 0 (codes "phase") (string (phase_name r.phase)) refl (string_plain (phase_name r.phase) (IsUtf8-are_ascii (phase_name r.phase) (phase_ascii r.phase))), tt)))
    refl

parent_id_plain : (p : Option ParentValue) → IfSome p IsParent → IfSome p (λ q. IsPlain 2 (string q.id))
parent_id_plain None is = tt
parent_id_plain (Some p) is = id_text 2 p.id is.id

parent_port_plain : (p : Option ParentValue) → IfSome p IsParent → IfSome p (λ q. IsPlain 2 (whole q.port))
parent_port_plain None is = tt
parent_port_plain (Some p) is = number_here 2 p.port (omega (arith, is.port))

sync1_plain : (cycle_ns : ℕ) (o : Option ℕ) → cycle_ns ≤ 500000000 → IfSome o (λ ns. (1 ≤ ns) × (ns < cycle_ns)) → IfSome o (λ n. IsPlain 2 (whole n))
sync1_plain cycle_ns None few is = tt
sync1_plain cycle_ns (Some n) few is = number_here 2 n (omega (arith, few, is.1))

slave_rise : (b : Bool) (s : SlaveValue) → rise [] (slave_entries b s) ≡ true
slave_rise b s = refl

slave_plain : (version cycle_ns : ℕ) (s : SlaveValue) → cycle_ns ≤ 500000000 → IsSlave version cycle_ns s → IsPlain 3 (slave_data version s)
unfolding slave_data
slave_plain version cycle_ns s few is =
    let rates : IsPlain 2 (array (items_for rate_data s.rates)) =
    array_plain 1 (items_for rate_data s.rates) (items_plain rate_data 1 s.rates (All-weaker IsRate (λ r. IsPlain 1 (rate_data r)) rate_plain s.rates is.rates)) in
    object_plain 2 (slave_entries (changes version s.kind) s) (here 2 (codes "cable_ps") (whole s.cable_ps) refl (number_here 2 s.cable_ps (omega (arith, is.cable_ps))), (here 2 (codes "clock") (string (kind_name s.kind)) refl (plainer 0 2 (string (kind_name s.kind)) (omega arith) (string_plain (kind_name s.kind) (IsUtf8-are_ascii (kind_name s.kind) (kind_ascii s.kind)))), (here 2 (codes "id") (string s.id) refl (id_text 2 s.id is.id), (if_any 2 (λ p. string p.id) (codes "parent") s.parent refl (parent_id_plain s.parent is.parent), (where_it_belongs 2 (measures s.kind) (codes "period_fs") (whole s.period_fs) refl (number_here 2 s.period_fs (omega (arith, is.period_fs))), (where_it_belongs 2 (measures s.kind) (codes "phase_fs") (whole s.phase_fs) refl (number_here 2 s.phase_fs (omega (arith, is.phase_fs))), (if_any 2 (λ p. whole p.port) (codes "port") s.parent refl (parent_port_plain s.parent is.parent), (where_it_belongs 2 (changes version s.kind) (codes "rates") (array (items_for rate_data s.rates)) refl rates, (where_it_belongs 2 (has_clock s.kind) (codes "shift_ns") (whole s.shift_ns) refl (number_here 2 s.shift_ns (omega (arith, is.shift_ns, few))), (where_it_belongs 2 (measures s.kind) (codes "start") (whole s.start) refl (number_here 2 s.start (start_low s.kind s.start is.start)), (if_any 2 whole (codes "sync1_ns") s.sync1_ns refl (sync1_plain cycle_ns s.sync1_ns few is.sync1_ns), (here 2 (codes "tf_ns") (whole s.tf_ns) refl (number_here 2 s.tf_ns (omega (arith, is.tf_ns))), (here 2 (codes "tp_ns") (whole s.tp_ns) refl (number_here 2 s.tp_ns (omega (arith, is.tp_ns))), tt)))))))))))))
    (slave_rise (changes version s.kind) s)

-- ---- a file

file_plain : (s : ShapeValue) → IsFile s → IsPlain 127 (file_data s)
unfolding file_data
file_plain s is =
    let h = s.head in
    let losses : IsPlain 4 (array (items_for loss_data s.losses)) =
    plainer 2 4 (array (items_for loss_data s.losses)) (omega arith) (array_plain 1 (items_for loss_data s.losses)
    (items_plain loss_data 1 s.losses (All-weaker (IsLoss (length s.slaves)) (λ r. IsPlain 1 (loss_data r)) (λ r one. loss_plain (length s.slaves) r is.few_slaves one) s.losses is.losses))) in
    let slaves : IsPlain 4 (array (items_for (slave_data s.head.version) s.slaves)) =
    array_plain 3 (items_for (slave_data s.head.version) s.slaves)
    (items_plain (slave_data s.head.version) 3 s.slaves
    (All-weaker (IsSlave s.head.version s.head.cycle_ns) (λ r. IsPlain 3 (slave_data s.head.version r)) (λ r one. slave_plain s.head.version s.head.cycle_ns r is.head.cycle_ns.1 one) s.slaves is.slaves)) in
    let whole_file : IsPlain 5 (object (members_of (file_entries s))) =
    object_plain 4 (file_entries s) (here 4 (codes "cycle_ns") (whole h.cycle_ns) refl (number_here 4 h.cycle_ns (omega (arith, is.head.cycle_ns))), (here 4 (codes "cycles") (whole h.cycles) refl (number_here 4 h.cycles (omega (arith, is.head.cycles))), (here 4 (codes "epoch_ns") (whole h.epoch_ns) refl (number_here 4 h.epoch_ns (omega (arith, is.head.epoch_ns))), (here 4 (codes "frame_ns") (whole h.frame_ns) refl (number_here 4 h.frame_ns (omega (arith, is.head.frame_ns))), (here 4 (codes "loss_run") (whole h.loss_run) refl (number_here 4 h.loss_run (omega (arith, is.head.loss_run))), (here 4 (codes "losses") (array (items_for loss_data s.losses)) refl losses, (here 4 (codes "ppm") (whole h.ppm) refl (number_here 4 h.ppm (omega (arith, is.head.ppm))), (here 4 (codes "slaves") (array (items_for (slave_data h.version) s.slaves)) refl slaves, (here 4 (codes "speed") (whole h.speed) refl (number_here 4 h.speed (omega (arith, is.head.speed))), (here 4 (codes "version") (whole h.version) refl (number_here 4 h.version (omega (arith, is.head.version))), tt))))))))))
    refl in
    plainer 5 127 (object (members_of (file_entries s))) (omega arith) whole_file

-- the text of a written file is a text of its value
pub file_text_read : (s : ShapeValue) → IsFile s → IsText (file_text s) (file_data s)
file_text_read s is = let plain = file_plain s is in (plain_utf8 (file_data s) plain, plain_read (file_data s) plain)
