-- A slave row.
use Rattle.std.specs.Prelude.{ℕ, ◌-◌, ◌&&◌, ◌==◌, Bool, true, false, List, [], codes, Option, Some, None, Ok, option_and_then, if◌then◌else◌, unwrap_or}
use Rattle.std.specs.Str.{bytes_eq}
use Rattle.serde_json.specs.Data.{Data}
use Rattle.serde_json.specs.Find.{get, as_str}
use Rattle.osc_clock.specs.Ticks.{Rate}
use Rattle.esc_regs.specs.declared.clock_kind.ClockKind.{ClockKind}
use Rattle.esc_regs.specs.declared.clock_kind.ClockKind.TheVariants as kind
use Rattle.esc_regs.specs.Kinds.{measures, has_clock, greatest_start}
use Rattle.segment_shape.specs.Paths.{Reading, ◌>>=◌}
use Rattle.segment_shape.specs.Values.{or_fault, number_at, number_where, option_where, id_of, id_at, lacking, members_at}
use Rattle.segment_shape.specs.Keys.{only, slave_keys}
use Rattle.segment_shape.specs.Rates.{rates_of}

-- where a slave's cable ends
pub record ParentValue : Type 0 where
  pub id : List ℕ
  pub port : ℕ

pub record SlaveValue : Type 0 where
  pub id : List ℕ
  pub kind : ClockKind
  pub tp_ns : ℕ
  pub tf_ns : ℕ
  pub cable_ps : ℕ
  pub parent : Option ParentValue
  pub start : ℕ
  pub phase_fs : ℕ
  pub period_fs : ℕ
  pub rates : List Rate
  pub shift_ns : ℕ
  pub sync1_ns : Option ℕ

-- the names of the kinds
unfoldable pub kind_named : List ℕ → Option ClockKind
kind_named text =
    if bytes_eq text (codes "none") then Some kind.None
    else (if bytes_eq text (codes "r32") then Some kind.R32
    else (if bytes_eq text (codes "c32") then Some kind.C32
    else (if bytes_eq text (codes "c64") then Some kind.C64 else None)))

abbrev pub kind_of : Data → Option ClockKind
kind_of d = option_and_then kind_named (option_and_then as_str (get (codes "clock") d))

abbrev pub kind_at : Data → Reading ClockKind
kind_at d = or_fault (codes "clock") (kind_of d)

abbrev pub port_of : Option Data → Data → Reading (Option ParentValue)
port_of None d = lacking (codes "port") None d
port_of (Some parent) d = do
  id ← or_fault (codes "parent") (id_of parent)
  port ← number_at (codes "port") 1 3 d
  Ok (Some (record { id = id; port = port }))

-- the parent and its port: both there, or at the root neither
unfoldable pub parent_of : Data → Reading (Option ParentValue)
parent_of d = port_of (get (codes "parent") d) d

-- what a row says of every slave
pub record PlaceValue : Type 0 where
  pub id : List ℕ
  pub kind : ClockKind
  pub tp_ns : ℕ
  pub tf_ns : ℕ
  pub cable_ps : ℕ
  pub parent : Option ParentValue

unfoldable pub place_of : Data → Reading PlaceValue
place_of d = do
  id ← id_at (codes "id") d
  kind ← kind_at d
  tp ← number_at (codes "tp_ns") 1 10000 d
  tf ← number_at (codes "tf_ns") 1 10000 d
  cable ← number_at (codes "cable_ps") 0 100000000 d
  parent ← parent_of d
  Ok (record { id = id; kind = kind; tp_ns = tp; tf_ns = tf; cable_ps = cable; parent = parent })

-- what a row says of its slave's clock
pub record TimesValue : Type 0 where
  pub start : ℕ
  pub phase_fs : ℕ
  pub period_fs : ℕ
  pub rates : List Rate
  pub shift_ns : ℕ
  pub sync1_ns : Option ℕ

-- the period may change: from version 2 on, where the slave measures
abbrev pub changes : ℕ → ClockKind → Bool
changes version kind = version == 2 && measures kind

abbrev pub rates_where : Bool → Data → Reading (List Rate)
rates_where true d = rates_of d
rates_where false d = Ok []

unfoldable pub times_of : ℕ → ℕ → ClockKind → Data → Reading TimesValue
times_of version cycle_ns kind d = do
  start ← number_where (measures kind) (codes "start") 0 (greatest_start kind) d
  phase ← number_where (measures kind) (codes "phase_fs") 1 20000000 d
  period ← number_where (measures kind) (codes "period_fs") 1 20000000 d
  rates ← rates_where (changes version kind) d
  shift ← option_where (has_clock kind) (codes "shift_ns") 0 (cycle_ns - 1) d
  sync1 ← option_where (has_clock kind) (codes "sync1_ns") 1 (cycle_ns - 1) d
  Ok (record { start = start; phase_fs = phase; period_fs = period; rates = rates; shift_ns = unwrap_or shift 0; sync1_ns = sync1 })

abbrev pub slave : PlaceValue → TimesValue → SlaveValue
slave p t = record {
  id = p.id;
  kind = p.kind;
  tp_ns = p.tp_ns;
  tf_ns = p.tf_ns;
  cable_ps = p.cable_ps;
  parent = p.parent;
  start = t.start;
  phase_fs = t.phase_fs;
  period_fs = t.period_fs;
  rates = t.rates;
  shift_ns = t.shift_ns;
  sync1_ns = t.sync1_ns;
}

-- a slave row, in a file of this version and cycle time
unfoldable pub slave_of : ℕ → ℕ → Data → Reading SlaveValue
slave_of version cycle_ns d = do
  ms ← members_at [] d
  place ← place_of d
  times ← times_of version cycle_ns place.kind d
  only [] (slave_keys (changes version place.kind)) ms (slave place times)

-- the rows before it allow every row
abbrev pub slave_in : ℕ → ℕ → List SlaveValue → Data → Reading SlaveValue
slave_in version cycle_ns rows d = slave_of version cycle_ns d
