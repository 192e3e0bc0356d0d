-- What a master is given, with lists in place of vectors. The lists are in frame order; all times are in ns.
use Rattle.std.specs.Prelude.{ℕ, ◌+◌, ◌%◌, ◌^◌, None, List, length, slice_index_or}
use Rattle.dc_bounds.specs.RunNumbers.{lead_ns, start_ns}
use Rattle.dc_delay.specs.declared.kind.Kind.{Kind}
use Rattle.master_script.specs.declared.plan.SyncPlan.{SyncPlan}

-- tP and tF of each slave, what its SYNC signals are to do, the frame period F, the start of the speed counter, how many
-- drift frames may be lost in a row (m), the epoch, the lock-in count K, and the SYNC0 cycle
pub record ConfigValue : Type 0 where
  pub kinds : List Kind
  pub plans : List SyncPlan
  pub frame_ns : ℕ
  pub speed : ℕ
  pub loss_run : ℕ
  pub epoch_ns : ℕ
  pub lock_in : ℕ
  pub cycle_ns : ℕ

-- n, the number of slaves
abbrev pub slaves : ConfigValue → ℕ
slaves cfg = length cfg.kinds

-- K + m + 1, the drift frames of the settle phase
abbrev pub settle_frames : ConfigValue → ℕ
settle_frames cfg = cfg.lock_in + cfg.loss_run + 1

-- what the SYNC signals of the slave at a position are to do
abbrev pub plan_at : ConfigValue → ℕ → SyncPlan
plan_at cfg position = slice_index_or cfg.plans position (record { shift_ns = 0; sync1_ns = None })

-- The start time of the SYNC units: with so many clocks, the first whole number of cycles behind the lead from r on, where
-- r is the time of the reference in the last settle frame that came back.
unfoldable pub start_of : ConfigValue → ℕ → ℕ → ℕ
start_of cfg clocks r = start_ns r (lead_ns clocks cfg.loss_run cfg.frame_ns) cfg.cycle_ns % 2 ^ 64
