-- A master that has run has a start.
use Rattle.std.proofs.Common.{◌≡◌, ℕ, ◌<◌, List, Option, sym, ap, subst, ◌∙◌, arith}
use Rattle.std.specs.Prelude.{IsSome}
use Rattle.ecat_link.specs.Exchanges.{Exchange}
use Rattle.master_script.specs.Kept.{Kept, kept_after}
use Rattle.master_script.specs.Stages.{HasDrifts}
use Rattle.master_script.specs.declared.step.Stage.TheVariants.{Ended}
use Rattle.master_script.proofs.Exported.{drifts_told, start_told}
use Rattle.run_of_file.specs.MasterOfFile.{master_of}
use Rattle.run_of_file.specs.RunOfFile.{master_after}
use Rattle.run_of_file.proofs.Exported.{as_many_kinds, some_rows}
use Rattle.segment_file.specs.Legal.{IsLegal}
use Rattle.segment_file.specs.Segment.{SegmentValue}

pub started : (s : SegmentValue) → IsLegal s → (frames : Option ℕ) (es : List Exchange) (m : Kept) → m ≡ master_after s frames es → m.stage ≡ Ended → IsSome m.start
started s legal frames es m is ended =
    let cfg = master_of s in
    let many = as_many_kinds s legal in
    let some = some_rows s legal in
    let stage : (kept_after cfg frames es).stage ≡ Ended = sym (ap (λ (k : Kept). k.stage) is) ∙ ended in
    let has : HasDrifts cfg (kept_after cfg frames es).drifts (kept_after cfg frames es).stage = drifts_told cfg frames es (omega (arith, many, some)) in
    let there = (start_told cfg frames es).1 (subst (HasDrifts cfg (kept_after cfg frames es).drifts) stage has) in
    subst (λ (k : Kept). IsSome k.start) (sym is) there
