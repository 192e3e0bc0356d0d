-- Slaves of a table.
use Rattle.std.specs.Prelude.{◌≡◌, ℕ, ◌≤◌, List, length}
use Rattle.std.specs.List.{All}
use Rattle.dc_delay.specs.declared.kind.Kind.{Kind}
use Rattle.master_steps.specs.ConfigRange.{IsKind, IsPlan}
use Rattle.master_script.specs.declared.plan.SyncPlan.{SyncPlan}

-- at most 256, each with tP and tF and a plan within their ranges
pub record AreSlaves (cycle_ns : ℕ) (kinds : List Kind) (plans : List SyncPlan) : Type 0 where
  pub few : length kinds ≤ 256
  pub alike : length plans ≡ length kinds
  pub kind : All IsKind kinds
  pub plan : All (IsPlan cycle_ns) plans
