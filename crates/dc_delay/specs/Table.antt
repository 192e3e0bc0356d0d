-- The table that the walk reads: every slave with its connected ports.
use Rattle.std.specs.Prelude.{◌≡◌, ℕ, ◌<◌, ◌≤◌, Bool, false, Option, None, List, length, map, slice_index_or}
use Rattle.std.specs.List.{list_any}
use Rattle.std.specs.Option.{is_some}
use Rattle.cable_tree.specs.declared.port.Port.{Port}
use Rattle.cable_tree.specs.declared.port.Port.TheVariants.{P1, P2, P3}
use Rattle.cable_tree.specs.Row.{Row}
use Rattle.cable_tree.specs.FrameOrder.{is_at}
use Rattle.dc_topology.specs.Listed.{Place}
use Rattle.dc_bounds.specs.Weight.{is_connected}
use Rattle.dc_delay.specs.declared.kind.Kind.{Kind}
use Rattle.dc_delay.specs.declared.latch.Latch.{Latch}
use Rattle.dc_delay.specs.declared.slave.Connected.{Connected}
use Rattle.dc_delay.specs.declared.slave.Slave.{Slave}
use Rattle.dc_delay.specs.ShapeRows.{row_of, rows_of}
use Rattle.dc_delay.specs.Latched.{lap_of, laps, measures}

-- what stands at a position past the end
abbrev pub no_slave : Slave
no_slave = record {
  above = None;
  kind = record { tp_ns = 0; tf_ns = 0 };
  latch = None;
  connected = record { p1 = false; p2 = false; p3 = false };
}

abbrev pub slave_at : List Slave → ℕ → Slave
slave_at slaves r = slice_index_or slaves r no_slave

abbrev pub row_of_slave : Slave → Row
row_of_slave slave = row_of slave.above slave.kind

abbrev pub table_rows : List Slave → List Row
table_rows slaves = map row_of_slave slaves

abbrev pub table_measures : List Slave → ℕ → Bool
table_measures slaves r = is_some (slave_at slaves r).latch

abbrev pub table_laps : List Slave → ℕ → Port → ℕ
table_laps slaves r p = lap_of (slave_at slaves r).latch p

abbrev pub connected_at : Connected → Port → Bool
connected_at connected P1 = connected.p1
connected_at connected P2 = connected.p2
connected_at connected P3 = connected.p3

-- it has the connected ports of every slave
pub record IsTable (slaves : List Slave) : Type 0 where
  pub few : length slaves ≤ 256
  pub each : (r : ℕ) (p : Port) → r < length slaves → connected_at (slave_at slaves r).connected p ≡ is_connected (table_rows slaves) r p

-- what a shape, the kinds of its slaves and their latches say of the slave at a position
abbrev pub told : List Place → List Kind → List (Option Latch) → ℕ → Slave
told places kinds latches r = record {
  above = slice_index_or places r None;
  kind = slice_index_or kinds r (record { tp_ns = 0; tf_ns = 0 });
  latch = slice_index_or latches r None;
  connected = record {
    p1 = list_any (is_at r P1) places;
    p2 = list_any (is_at r P2) places;
    p3 = list_any (is_at r P3) places;
  };
}

-- the table has the tree and the latches
pub record IsOf (places : List Place) (kinds : List Kind) (latches : List (Option Latch)) (slaves : List Slave) : Type 0 where
  pub rows : table_rows slaves ≡ rows_of places kinds
  pub measures : table_measures slaves ≡ measures latches
  pub laps : table_laps slaves ≡ laps latches
