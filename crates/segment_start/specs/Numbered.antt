-- Edges that are numbered.
use Rattle.std.specs.Prelude.{◌≡◌, ℕ, ◌-◌, ◌^◌, ◌≤◌, List, map, IfSome}
use Rattle.std.specs.List.{AllByRecursion, range_with_len}
use Rattle.sync_units.specs.declared.edge.Signal.{Signal}
use Rattle.sync_units.specs.declared.edge.Signal.TheVariants.{Sync0, Sync1}
use Rattle.sync_units.specs.Edges.{edges_of}
use Rattle.sync_units.specs.KeptEdges.{Kept, room}
use Rattle.sync_units.specs.SyncRule.{Due, Armed}
use Rattle.frame_pass.specs.SlaveState.{Slave, Timing}

-- the indices of the edges of a signal that a list keeps
abbrev pub indices : Signal → Kept → List ℕ
indices signal l = map (λ e. e.index) (edges_of signal l.edges)

-- they are 0, 1, 2 and so on, one for each place that is taken
pub record IsNumberedSignal (signal : Signal) (l : Kept) : Type 0 where
  pub indices_are : indices signal l ≡ range_with_len 0 (l.keep - room signal l)
  pub room_is : room signal l ≤ l.keep

pub record AreNumbered (l : Kept) : Type 0 where
  pub sync0 : IsNumberedSignal Sync0 l
  pub sync1 : IsNumberedSignal Sync1 l
  pub few : l.keep ≤ 2 ^ 32

-- the next index of a signal tells the room that is left
pub record IsDueBy (signal : Signal) (l : Kept) (d : Due) : Type 0 where
  pub room_is : room signal l ≡ l.keep - d.index
  pub small : d.index ≤ 2 ^ 32

pub record IsArmedBy (l : Kept) (a : Armed) : Type 0 where
  pub sync0 : IsDueBy Sync0 l a.sync0
  pub sync1 : IfSome a.sync1 (IsDueBy Sync1 l)

-- a unit and its edges
pub record HasNumbers (t : Timing) : Type 0 where
  pub edges : AreNumbered t.edges
  pub unit : IfSome t.unit (IsArmedBy t.edges)

-- the edges that a slave keeps are numbered
abbrev pub IsNumberedSlave : Slave → Type 0
IsNumberedSlave s = IfSome s.timing HasNumbers

-- every slave's edges are
abbrev pub AreNumberedSlaves : List Slave → Type 0
AreNumberedSlaves ss = AllByRecursion IsNumberedSlave ss
