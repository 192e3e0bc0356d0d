-- Ticks of which a unit can spare so many that none of them raises an edge.
use Rattle.std.specs.Prelude.{◌≡◌, ℕ, ◌+◌, ◌-◌, ◌≤◌, List, Option}
use Rattle.std.proofs.Common.{arith, sym, ap, ap₂, ◌∙◌}
use Rattle.local_clock.specs.Reading.{Clock, advanced, ticks_to}
use Rattle.sync_units.specs.ClockCopy.{copy_of}
use Rattle.sync_units.specs.KeptEdges.{put_all}
use Rattle.sync_units.specs.Quiet.{spare_of}
use Rattle.sync_units.specs.SyncRule.{Armed}
use Rattle.sync_units.specs.declared.edge.Edge.{Edge}
use Rattle.sync_units.proofs.Exported.{unit_spared, edges_spared, left_spare}
use Rattle.frame_pass.specs.SlaveState.{Timing}
use Rattle.frame_pass.specs.Advancing.{timing_at}

-- they change the clock alone
pub passed : (w offset kept t n spare : ℕ) (m : Timing) → kept ≡ offset → n ≡ ticks_to m.clock t → n ≤ spare → spare ≤ spare_of w (copy_of w m.clock kept) m.unit
    → record m { clock = advanced w t m.clock } ≡ record (timing_at w offset t m) { event = m.event }
passed w offset kept t n spare m same is few most =
    let all : spare ≤ spare_of w (copy_of w m.clock offset) m.unit = rw same at most in
    let enough : ticks_to m.clock t ≤ spare_of w (copy_of w m.clock offset) m.unit = omega (arith, is, few, all) in
    ap₂ (λ (u : Option Armed) (es : List Edge). record m { clock = advanced w t m.clock; unit = u; edges = put_all es m.edges })
    (sym (unit_spared w offset t m.clock m.unit enough)) (sym (edges_spared w offset t m.clock m.unit enough))

-- and what is left of them can be spared afterwards
pub left_over : (w offset t n spare : ℕ) (c : Clock) (unit : Option Armed) → spare ≤ spare_of w (copy_of w c offset) unit → n ≡ ticks_to c t
    → spare - n ≤ spare_of w (copy_of w (advanced w t c) offset) unit
left_over w offset t n spare c unit most is = let left = left_spare w offset t c unit in omega (arith, left, most, is)
