-- What a clock counts from the arrival of the Latch that came back.
use Rattle.std.specs.Prelude.{◌≡◌, ℕ, ◌+◌, ◌-◌, ◌*◌, ◌≤◌, true, Some, slice_get}
use Rattle.cable_tree.specs.PathSums.{arrive}
use Rattle.osc_clock.specs.Ticks.{ticks}
use Rattle.frame_pass.specs.SlaveState.{Slave, Timing}
use Rattle.segment_file.specs.Segment.{SegmentValue, clock_at, oscillator, row_at, tree_rows}
use Rattle.master_script.specs.Words.{Words}
use Rattle.delay_law.specs.Resting.{row_there}
use Rattle.run_of_file.specs.Commissioned.{words_after}
use Rattle.run_of_file.specs.RunOfFile.{RunEnd}
use Rattle.delay_law.specs.ToldTimes.{latch_sent}

-- when that Latch arrived at the slave at a position, in fs
abbrev pub latch_arrival : SegmentValue → Words → ℕ → ℕ
latch_arrival s w p = latch_sent s w + arrive (tree_rows s.rows) (row_at s p)

-- what the clock there, correcting nothing, counts from then to t, in ns: 10 for each tick
abbrev pub counted_ns : SegmentValue → Words → ℕ → ℕ → ℕ
counted_ns s w p t = 10 * (ticks (oscillator (row_there s p)) t - ticks (oscillator (row_there s p)) (latch_arrival s w p))

-- the clock m of the slave at a position, as a run leaves it, and a time t from then and from that arrival on
pub record IsSinceLatch (s : SegmentValue) (run : RunEnd) (p : ℕ) (v : Slave) (m : Timing) (t : ℕ) : Type 0 where
  pub there : slice_get run.state.slaves p ≡ Some v
  pub clock : clock_at s.rows (row_at s p) ≡ true
  pub has : v.timing ≡ Some m
  pub early : m.clock.instant ≤ t
  pub late : latch_arrival s (words_after s run) p ≤ t
