-- A unit and its clock over an interval of time.
use Rattle.std.specs.Prelude.{ℕ, List, Option}
use Rattle.local_clock.specs.Reading.{Clock, ticks_to}
use Rattle.local_clock.specs.FirstReaching.{tick_after}
use Rattle.sync_units.specs.declared.edge.Edge.{Edge}
use Rattle.sync_units.specs.ClockCopy.{copy_after}
use Rattle.sync_units.specs.SyncRule.{Armed, unit_after, unit_edges}

-- the unit after the ticks of a clock with this offset up to t
abbrev pub unit_at : ℕ → Clock → ℕ → ℕ → Option Armed → Option Armed
unit_at w c offset t unit = unit_after w (copy_after w c offset) (ticks_to c t) unit

-- the edges of these ticks
abbrev pub edges_to : ℕ → Clock → ℕ → ℕ → Option Armed → List Edge
edges_to w c offset t unit = unit_edges w (copy_after w c offset) (tick_after c) (ticks_to c t) unit
