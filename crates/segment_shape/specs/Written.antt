-- The JSON value that says a file, as files are written: the keys of an object stand in byte order. And its text.
use Rattle.std.specs.Prelude.{ℕ, Bool, List, [], ◌∷◌, ◌++◌, codes, Option, Some, None, option_map, if◌then◌else◌}
use Rattle.serde_json.specs.Data.{unsigned, Data, number, string, array, object, Items, no_items, item, Members, no_members, member}
use Rattle.serde_json.specs.Written.{compact_text}
use Rattle.osc_clock.specs.Ticks.{Rate}
use Rattle.esc_regs.specs.declared.clock_kind.ClockKind.{ClockKind}
use Rattle.esc_regs.specs.declared.clock_kind.ClockKind.TheVariants as kind
use Rattle.segment_shape.specs.Slaves.{SlaveValue, changes}
use Rattle.esc_regs.specs.Kinds.{measures, has_clock}
use Rattle.segment_shape.specs.ShapeOf.{ShapeValue}
use Rattle.loss_list.specs.declared.loss_row.Phase.{Phase}
use Rattle.loss_list.specs.declared.loss_row.Phase.TheVariants.{Commission, Drift}
use Rattle.loss_list.specs.declared.loss_row.LossRow.{LossRow}

-- a key, and what stands at it; None where the key is absent
pub record Entry : Type 0 where
  pub key : List ℕ
  pub value : Option Data

-- one member more, where there is a value for it
abbrev pub held : List ℕ → Option Data → Members → Members
held key None ms = ms
held key (Some d) ms = member key d ms

-- the members that these entries are
abbrev pub members_of : List Entry → Members
members_of [] = no_members
members_of (e ∷ es) = held e.key e.value (members_of es)

-- an element for each of these
abbrev pub items_for : {A : Type 0} → (A → Data) → List A → Items
items_for says [] = no_items
items_for says (x ∷ xs) = item (says x) (items_for says xs)

abbrev pub whole : ℕ → Data
whole n = number (unsigned n)

abbrev pub at_key : List ℕ → Data → Entry
at_key key d = record { key = key; value = Some d }

abbrev pub at_key_if : Bool → List ℕ → Data → Entry
at_key_if belongs key d = record { key = key; value = if belongs then Some d else None }

abbrev pub at_key_of : {A : Type 0} → (A → Data) → List ℕ → Option A → Entry
at_key_of says key o = record { key = key; value = option_map says o }

abbrev pub kind_name : ClockKind → List ℕ
kind_name kind.None = codes "none"
kind_name kind.R32 = codes "r32"
kind_name kind.C32 = codes "c32"
kind_name kind.C64 = codes "c64"

abbrev pub phase_name : Phase → List ℕ
phase_name Commission = codes "commission"
phase_name Drift = codes "drift"

abbrev pub rate_entries : Rate → List Entry
rate_entries r = at_key (codes "period_fs") (whole r.period) ∷ at_key (codes "tick") (whole r.tick) ∷ []

abbrev pub rate_data : Rate → Data
rate_data r = object (members_of (rate_entries r))

-- the keys of a slave row, `rates` among them where its period may change
abbrev pub slave_entries : Bool → SlaveValue → List Entry
slave_entries changing s =
    at_key (codes "cable_ps") (whole s.cable_ps)
    ∷ at_key (codes "clock") (string (kind_name s.kind))
    ∷ at_key (codes "id") (string s.id)
    ∷ at_key_of (λ p. string p.id) (codes "parent") s.parent
    ∷ at_key_if (measures s.kind) (codes "period_fs") (whole s.period_fs)
    ∷ at_key_if (measures s.kind) (codes "phase_fs") (whole s.phase_fs)
    ∷ at_key_of (λ p. whole p.port) (codes "port") s.parent
    ∷ at_key_if changing (codes "rates") (array (items_for rate_data s.rates))
    ∷ at_key_if (has_clock s.kind) (codes "shift_ns") (whole s.shift_ns)
    ∷ at_key_if (measures s.kind) (codes "start") (whole s.start)
    ∷ at_key_of whole (codes "sync1_ns") s.sync1_ns
    ∷ at_key (codes "tf_ns") (whole s.tf_ns)
    ∷ at_key (codes "tp_ns") (whole s.tp_ns)
    ∷ []

unfoldable pub slave_data : ℕ → SlaveValue → Data
slave_data version s = object (members_of (slave_entries (changes version s.kind) s))

abbrev pub loss_entries : LossRow → List Entry
loss_entries r =
    at_key (codes "after") (whole r.after) ∷ at_key (codes "number") (whole r.number) ∷ at_key (codes "phase") (string (phase_name r.phase))
    ∷ []

unfoldable pub loss_data : LossRow → Data
loss_data r = object (members_of (loss_entries r))

abbrev pub file_entries : ShapeValue → List Entry
file_entries s =
    at_key (codes "cycle_ns") (whole s.head.cycle_ns)
    ∷ at_key (codes "cycles") (whole s.head.cycles)
    ∷ at_key (codes "epoch_ns") (whole s.head.epoch_ns)
    ∷ at_key (codes "frame_ns") (whole s.head.frame_ns)
    ∷ at_key (codes "loss_run") (whole s.head.loss_run)
    ∷ at_key (codes "losses") (array (items_for loss_data s.losses))
    ∷ at_key (codes "ppm") (whole s.head.ppm)
    ∷ at_key (codes "slaves") (array (items_for (slave_data s.head.version) s.slaves))
    ∷ at_key (codes "speed") (whole s.head.speed)
    ∷ at_key (codes "version") (whole s.head.version)
    ∷ []

-- the value that says a file
unfoldable pub file_data : ShapeValue → Data
file_data s = object (members_of (file_entries s))

-- a line feed, with which each line ends
abbrev pub line_feed : List ℕ
line_feed = 10 ∷ []

-- the text of a written file: the compact text of its value, and a line feed
abbrev pub file_text : ShapeValue → List ℕ
file_text s = compact_text (file_data s) ++ line_feed
