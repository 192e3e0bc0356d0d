-- What a master is given, and the ranges of it.
use Rattle.std.specs.Prelude.{◌≡◌, ℕ, ◌<◌, ◌≤◌, ⊤, Option, Some, None, length}
use Rattle.std.specs.List.{All}
use Rattle.dc_delay.specs.declared.kind.Kind.{Kind}
use Rattle.master_steps.specs.declared.config.Config.{Config}
use Rattle.master_script.specs.Config.{ConfigValue, slaves}
use Rattle.master_script.specs.declared.plan.SyncPlan.{SyncPlan}

-- a configuration with lists in place of vectors
abbrev pub value_of : Config → ConfigValue
value_of c = record {
  kinds = c.kinds.items;
  plans = c.plans.items;
  frame_ns = c.frame_ns;
  speed = c.speed;
  loss_run = c.loss_run;
  epoch_ns = c.epoch_ns;
  lock_in = c.lock_in;
  cycle_ns = c.cycle_ns;
}

-- tP and tF are 1 to 10,000 ns
pub record IsKind (k : Kind) : Type 0 where
  pub tp_ns : (1 ≤ k.tp_ns) × (k.tp_ns ≤ 10000)
  pub tf_ns : (1 ≤ k.tf_ns) × (k.tf_ns ≤ 10000)

-- SYNC0 comes within its cycle, and SYNC1 between two SYNC0
abbrev pub IsSync1 : ℕ → Option ℕ → Type 0
IsSync1 cycle_ns None = ⊤
IsSync1 cycle_ns (Some ns) = (1 ≤ ns) × (ns < cycle_ns)

pub record IsPlan (cycle_ns : ℕ) (p : SyncPlan) : Type 0 where
  pub shift : p.shift_ns < cycle_ns
  pub sync1 : IsSync1 cycle_ns p.sync1_ns

-- the numbers lie in the ranges of a segment file
pub record IsConfig (c : ConfigValue) : Type 0 where
  pub some : 1 ≤ slaves c
  pub few : slaves c ≤ 256
  pub plans : length c.plans ≡ slaves c
  pub kind : All IsKind c.kinds
  pub plan : All (IsPlan c.cycle_ns) c.plans
  pub frame : (50000 ≤ c.frame_ns) × (c.frame_ns ≤ 10000000)
  pub speed : (128 ≤ c.speed) × (c.speed ≤ 16383)
  pub losses : c.loss_run ≤ 15
  pub epoch : c.epoch_ns ≤ 4000000000000000000
  pub lock_in : c.lock_in ≤ 100000
  pub cycle : (50000 ≤ c.cycle_ns) × (c.cycle_ns ≤ 500000000)
