-- The reference of a file is the clock that its commissioning finds.
use Rattle.std.proofs.Common.{◌≡◌, ℕ, Option, Some, Ok, sym, ap, ◌∙◌}
use Rattle.std.specs.Prelude.{slice_get, unwrap_or}
use Rattle.cable_tree.specs.Positions.{position_of}
use Rattle.dc_bounds.specs.TickFacts.{IsWithin}
use Rattle.frame_pass.specs.SlaveState.{Slave, Timing}
use Rattle.honest_slaves.specs.FileSlaves.{kind_at}
use Rattle.master_script.specs.Words.{delay_at}
use Rattle.osc_clock.specs.Ticks.{IsRunning}
use Rattle.run_of_file.specs.Commissioned.{words_after}
use Rattle.run_of_file.specs.MasterOfFile.{master_of}
use Rattle.run_of_file.specs.RunOfFile.{RunEnd, commissioned}
use Rattle.segment_bounds.specs.Bounds.{reference_row_of}
use Rattle.segment_file.specs.Legal.{IsLegal}
use Rattle.segment_file.specs.Segment.{SegmentValue, oscillator, tree_rows}
use Rattle.segment_file.proofs.Exported.{legal_reference}
use Rattle.delay_law.specs.Resting.{row_there}
use Rattle.delay_law.proofs.Exported.{first_clock, has_there, keeps_there, late, way_of}
use Rattle.copy_law.specs.Receipts.{IsReference}
use Rattle.copy_law.proofs.First.{reference_clock, reference_low}
use Rattle.copy_law.proofs.Readings.{clock_measures, reference_delay}

some_same : {X : Type 0} {x y : X} → Some x ≡ Some y → x ≡ y
some_same e = cc

module _ (s : SegmentValue) (legal : IsLegal s) (r : ℕ) (reference : IsReference s r) where
  pub is_first_clock : first_clock s legal ≡ r
  is_first_clock = ap (position_of (tree_rows s.rows)) (some_same (sym (legal_reference s legal).1 ∙ reference.found)) ∙ sym reference.position

  pub in_bounds : position_of (tree_rows s.rows) (reference_row_of s) ≡ r
  in_bounds = ap (λ (o : Option ℕ). position_of (tree_rows s.rows) (unwrap_or o 0)) reference.found ∙ sym reference.position

  pub keeps_time : IsRunning (oscillator (row_there s r)) × IsWithin s.head.ppm (oscillator (row_there s r))
  keeps_time = keeps_there s legal r (reference_low s legal r reference) (clock_measures (kind_at s r) (reference_clock s legal r reference))

  module _ (run : RunEnd) (is : commissioned s ≡ Some run) where
    pub counts : (v : Slave) → slice_get run.state.slaves r ≡ Some v → (m : Timing) × (v.timing ≡ Some m)
    counts v there =
        let h = has_there s legal r v ((way_of s legal run is).fixed r v there) (clock_measures (kind_at s r) (reference_clock s legal r reference)) in
        (h.timing, h.is)

    module _ (ok : run.answer ≡ Ok tt) where
      pub is_told : (words_after s run).reference ≡ Some r
      is_told = (late s legal run is ok).knows.reference ∙ ap (λ (q : ℕ). Some q) is_first_clock

      pub has_no_delay : delay_at (master_of s) (words_after s run) r ≡ 0
      has_no_delay = reference_delay s run legal is ok r is_told
