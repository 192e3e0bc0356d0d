-- The configuration of the master of a file: what it is told of its slaves, by position in frame order.
use Rattle.std.specs.Prelude.{map}
use Rattle.cable_tree.specs.FrameOrder.{order}
use Rattle.dc_delay.specs.declared.kind.Kind.{Kind}
use Rattle.master_script.specs.Config.{ConfigValue}
use Rattle.master_script.specs.declared.plan.SyncPlan.{SyncPlan}
use Rattle.segment_file.specs.Faults.{lock_in}
use Rattle.segment_file.specs.Segment.{RowValue, SegmentValue, counts_of, row_of, tree_rows}

-- how long a slave keeps a frame
abbrev pub kind_of : RowValue → Kind
kind_of row = record { tp_ns = row.tp_ns; tf_ns = row.tf_ns }

-- what its SYNC signals are to do
abbrev pub plan_of : RowValue → SyncPlan
plan_of row = record { shift_ns = row.shift_ns; sync1_ns = row.sync1_ns }

-- the master is told no cable, no clock and no start value, nor which frames are lost
unfoldable pub master_of : SegmentValue → ConfigValue
master_of s = record {
  kinds = map (λ r. kind_of (row_of s r)) (order (tree_rows s.rows));
  plans = map (λ r. plan_of (row_of s r)) (order (tree_rows s.rows));
  frame_ns = s.head.frame_ns;
  speed = s.head.speed;
  loss_run = s.head.loss_run;
  epoch_ns = s.head.epoch_ns;
  lock_in = lock_in s.head (counts_of s.rows);
  cycle_ns = s.head.cycle_ns;
}
