-- One slave more.
use Rattle.std.proofs.Common.{ℕ, ◌<◌, List, [], ◌∷◌, ◌++◌, length, arith}
use Rattle.std.proofs.lemmas.List.{length_push}
use Rattle.std.proofs.lemmas.List.Elements.{All-push}
use Rattle.dc_delay.specs.declared.kind.Kind.{Kind}
use Rattle.master_steps.specs.ConfigRange.{IsKind, IsPlan}
use Rattle.frame_cases.specs.Slaves.{AreSlaves}
use Rattle.master_script.specs.declared.plan.SyncPlan.{SyncPlan}

pub slaves_more : (cycle_ns : ℕ) (kinds : List Kind) (plans : List SyncPlan) (k : Kind) (p : SyncPlan) → AreSlaves cycle_ns kinds plans → length kinds < 256 → IsKind k → IsPlan cycle_ns p
    → AreSlaves cycle_ns (kinds ++ k ∷ []) (plans ++ p ∷ [])
slaves_more cycle_ns kinds plans k p s few i j =
    let a = length_push kinds k in
    let b = length_push plans p in
    let c = s.alike in
    record {
      few = omega (arith, a, few);
      alike = omega (arith, a, b, c);
      kind = All-push IsKind kinds k s.kind i;
      plan = All-push (IsPlan cycle_ns) plans p s.plan j;
    }
