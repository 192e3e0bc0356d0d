-- What a master has learned, and what follows from it for the clocks.
use Rattle.std.specs.Prelude.{ℕ, ◌*◌, Bool, List, [], length, map, Option, Some, None, Result, Ok, Err, slice_index_or, unwrap_or}
use Rattle.dc_topology.specs.Listed.{Place}
use Rattle.dc_topology.specs.declared.error.TopologyError.{TopologyError}
use Rattle.dc_bounds.specs.Weight.{flag}
use Rattle.dc_delay.specs.declared.kind.Kind.{Kind}
use Rattle.dc_delay.specs.declared.latch.Latch.{Latch}
use Rattle.dc_delay.specs.Latched.{laps, measures}
use Rattle.dc_delay.specs.MeasuredDelay.{delay_list}
use Rattle.dc_delay.specs.ShapeRows.{positions, rows_of}
use Rattle.master_script.specs.Config.{ConfigValue, start_of}
use Rattle.master_script.specs.Frames.{width}
use Rattle.master_script.specs.Offset.{offset}
use Rattle.master_script.specs.Slaves.{SlaveWords, is_clock, is_wide, clocks, tree_told}

-- What Identify told of each slave so far, in frame order; the reference, once the slaves are judged; by position what Times
-- told; the number of the sending of Latch that came back, 0 before; and the time of the reference in the last settle frame
-- that came back, extended to 64 bits.
pub record Words : Type 0 where
  pub slaves : List SlaveWords
  pub reference : Option ℕ
  pub latches : List (Option Latch)
  pub latched : ℕ
  pub time : Option ℕ

-- whether the times of the slave at a position have 64 bits
abbrev pub wide_at : Words → ℕ → Bool
wide_at w p = is_wide (slice_index_or w.slaves p (record { features = 0; status = 0; fourth = 0 }))

-- the position of the reference; it is known by the time that it is used, and so are the numbers below
abbrev pub reference_of : Words → ℕ
reference_of w = unwrap_or w.reference 0

-- the tree, once the slaves are judged
abbrev pub hung_or_none : Result (List Place) TopologyError → List Place
hung_or_none (Ok hung) = hung
hung_or_none (Err e) = []

-- where each slave hangs
abbrev pub hung_of : Words → List Place
hung_of w = hung_or_none (tree_told w.slaves)

-- the measured delays, by position, once all Times came back: by how long each slave keeps a frame, and the words
unfoldable pub delays_by : List Kind → Words → List (Option ℕ)
delays_by kinds w =
    delay_list (rows_of (hung_of w) kinds) (measures w.latches) (flag (map is_clock w.slaves)) (laps w.latches)
    (positions (length (hung_of w)))

-- the measured delay at a position
abbrev pub delay_by : List Kind → Words → ℕ → ℕ
delay_by kinds w p = unwrap_or (slice_index_or (delays_by kinds w) p None) 0

-- the same by a configuration, of which they read the kinds alone
unfoldable pub delays_of : ConfigValue → Words → List (Option ℕ)
unfolding delays_by
delays_of cfg w = delays_by cfg.kinds w

abbrev pub delay_at : ConfigValue → Words → ℕ → ℕ
delay_at cfg w p = unwrap_or (slice_index_or (delays_of cfg w) p None) 0

-- the receive time at the processing unit
abbrev pub unit_of : Option Latch → ℕ
unit_of None = 0
unit_of (Some latch) = latch.unit

-- the offset at a position
abbrev pub offset_at : ConfigValue → Words → ℕ → ℕ
offset_at cfg w p = offset (8 * width (wide_at w p)) cfg.epoch_ns (delay_at cfg w p) (unit_of (slice_index_or w.latches p None))

-- the start time of the SYNC units
abbrev pub start_at : ConfigValue → Words → ℕ
start_at cfg w = start_of cfg (length (clocks w.slaves)) (unwrap_or w.time 0)
