-- The losses of a legal segment.
use Rattle.std.specs.Prelude.{◌≡◌, ℕ, ◌+◌, ◌≤◌, Bool, true, false, ◌&&◌, nat_le, List, None, length}
use Rattle.std.specs.List.{All}
use Rattle.std.proofs.Common.{arith, refl}
use Rattle.std.proofs.lemmas.Bool.Decides.{nat_tests}
use Rattle.std.proofs.lemmas.List.Elements.{All-weaker}
use Rattle.loss_list.specs.Losses.{loss_at}
use Rattle.loss_list.specs.LossTable.{IsNumber, last_number}
use Rattle.segment_shape.specs.Ranges.{IsLoss}
use Rattle.segment_shape.specs.Head.{HeadValue}
use Rattle.loss_list.specs.declared.loss_row.Phase.{Phase}
use Rattle.loss_list.specs.declared.loss_row.Phase.TheVariants.{Drift}
use Rattle.loss_list.specs.declared.loss_row.LossRow.{LossRow}
use Rattle.loss_list.proofs.Exported.{lost_nowhere, unlisted_outside}
use Rattle.segment_file.specs.Runs.{is_lost, is_run, first_run, greatest_number}
use Rattle.segment_file.specs.Segment.{SegmentValue, CountsValue, counts_of}
use Rattle.segment_file.specs.Faults.{frame_fault, loss_run}
use Rattle.segment_file.specs.Legal.{IsLegal}
use Rattle.segment_file.proofs.RunLemmas.{greatest_number_is, found_nowhere, one_fails}
use Rattle.segment_file.proofs.LegalLemmas.{neither, mapped_none, faultless}

numbered : (s : SegmentValue) → IsLegal s → All (λ r. IsNumber r.number) s.losses
numbered s legal = All-weaker (IsLoss (length s.rows)) (λ r. IsNumber r.number) (λ r is. is.number) s.losses legal.losses

-- a frame of another number than 1 to 100,000 is never lost
pub comes_outside : (s : SegmentValue) → IsLegal s → (phase : Phase) (number : ℕ) → (IsNumber number → ⊥) → loss_at s.losses phase number ≡ None
comes_outside s legal phase number out = lost_nowhere s.losses phase number (numbered s legal) out

no_run : (h : HeadValue) (c : CountsValue) (losses : List LossRow) → frame_fault h c losses ≡ None → first_run losses (h.loss_run + 1) ≡ None
unfolding frame_fault
no_run h c losses e = mapped_none loss_run (first_run losses (h.loss_run + 1)) (neither _ _ e).0

-- of m + 1 drift numbers in a row one is not listed
pub one_comes : (s : SegmentValue) → IsLegal s → (first : ℕ) → (number : ℕ) × (first ≤ number) × (number ≤ first + s.head.loss_run) × (is_lost s.losses number ≡ false)
one_comes s legal first = by_test (nat_le 1 first && nat_le first last_number) refl
  where
    by_test : (b : Bool) → (nat_le 1 first && nat_le first last_number) ≡ b
        → (number : ℕ) × (first ≤ number) × (number ≤ first + s.head.loss_run) × (is_lost s.losses number ≡ false)
    by_test true is =
        let low : 1 ≤ first = grind (arith, nat_tests, is) in
        let high : first ≤ 100000 = grind (arith, nat_tests, is) in
        let none = no_run s.head (counts_of s.rows) s.losses (faultless s legal.faultless).2 in
        let broken = found_nowhere (is_run s.losses (s.head.loss_run + 1)) 1 greatest_number first none low (omega (arith, high, greatest_number_is)) in
        let one = one_fails (is_lost s.losses) first (s.head.loss_run + 1) broken in
        (one.0, one.1, omega (arith, one.2), one.3)
    by_test false is =
        let out : IsNumber first → ⊥ = λ within. grind (arith, nat_tests, is, within) in
        (first, omega arith, omega arith, unlisted_outside s.losses Drift first (numbered s legal) out)
