-- The SYNC signals that a slave has by its file, and units and edges of no others.
use Rattle.std.specs.Prelude.{◌≡◌, ℕ, ◌&&◌, Bool, true, List, Some, IfSome, is_some, slice_get}
use Rattle.std.specs.List.{AllByRecursion}
use Rattle.sync_units.specs.declared.edge.Edge.{Edge}
use Rattle.sync_units.specs.declared.edge.Signal.{Signal}
use Rattle.sync_units.specs.declared.edge.Signal.TheVariants.{Sync0, Sync1}
use Rattle.sync_units.specs.SyncRule.{Armed}
use Rattle.frame_pass.specs.SlaveState.{Slave, Timing}
use Rattle.segment_file.specs.Segment.{RowValue, SegmentValue, is_clock, row_at, row_of}

-- a clock has SYNC0, and SYNC1 where the file gives its time
abbrev pub has_signal : RowValue → Signal → Bool
has_signal row Sync0 = is_clock row
has_signal row Sync1 = is_clock row && is_some row.sync1_ns

-- the signals of the slave at a position
abbrev pub signals_at : SegmentValue → ℕ → Signal → Bool
signals_at s p = has_signal (row_of s (row_at s p))

-- edges of these signals alone
abbrev pub AreOf : (Signal → Bool) → List Edge → Type 0
AreOf own es = AllByRecursion (λ (e : Edge). own e.signal ≡ true) es

-- a unit that is armed with these signals alone
pub record IsArmedOf (own : Signal → Bool) (a : Armed) : Type 0 where
  pub sync0 : own Sync0 ≡ true
  pub sync1 : IfSome a.sync1 (λ d. own Sync1 ≡ true)

-- a slave whose unit and kept edges are so
pub record KeepsTo (own : Signal → Bool) (t : Timing) : Type 0 where
  pub unit : IfSome t.unit (IsArmedOf own)
  pub edges : AreOf own t.edges.edges

abbrev pub SlaveKeepsTo : (Signal → Bool) → Slave → Type 0
SlaveKeepsTo own v = IfSome v.timing (KeepsTo own)

-- each slave keeps to the signals that its position has
abbrev pub AllKeepTo : (ℕ → Signal → Bool) → List Slave → Type 0
AllKeepTo own ss = (p : ℕ) (v : Slave) → slice_get ss p ≡ Some v → SlaveKeepsTo (own p) v
