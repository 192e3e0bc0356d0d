-- Segments that are legal.
use Rattle.std.specs.Prelude.{◌≡◌, ℕ, ◌<◌, ◌≤◌, true, false, [], length, map, None, IfSome}
use Rattle.std.specs.List.{All}
use Rattle.osc_clock.specs.Ticks.{AreRising, IsRunning}
use Rattle.cable_tree.specs.Segment.{IsSegment}
use Rattle.dc_bounds.specs.TickFacts.{IsWithin}
use Rattle.esc_regs.specs.Kinds.{measures, has_clock, greatest_start}
use Rattle.segment_shape.specs.Ranges.{IsHead, IsRate, IsLoss, AreOnce}
use Rattle.segment_shape.specs.Values.{is_id}
use Rattle.segment_shape.specs.Twice.{first_again}
use Rattle.segment_file.specs.Segment.{RowValue, SegmentValue, is_measuring, oscillator, tree_rows}
use Rattle.segment_file.specs.Faults.{fault_of}

-- the numbers of a slave's clock, in a segment of this cycle time
pub record IsClock (cycle_ns : ℕ) (r : RowValue) : Type 0 where
  pub start : r.start ≤ greatest_start r.kind
  pub phase_fs : r.phase_fs ≤ 20000000
  pub period_fs : r.period_fs ≤ 20000000
  pub measuring : measures r.kind ≡ true → (1 ≤ r.phase_fs) × (1 ≤ r.period_fs)
  pub few : length r.rates ≤ 64
  pub rates : All IsRate r.rates
  pub rising : AreRising 0 r.rates
  pub shift_ns : r.shift_ns < cycle_ns
  pub sync1_ns : IfSome r.sync1_ns (λ ns. (1 ≤ ns) × (ns < cycle_ns))
  -- a slave that does not measure has no oscillator
  pub silent : measures r.kind ≡ false → (r.start ≡ 0) × (r.phase_fs ≡ 0) × (r.period_fs ≡ 0) × (r.rates ≡ [])
  -- a slave that is no clock has no signals
  pub signalless : has_clock r.kind ≡ false → (r.shift_ns ≡ 0) × (r.sync1_ns ≡ None)

-- where the slave measures, its oscillator runs, and keeps within ppm of 10 ns
abbrev pub KeepsTime : ℕ → RowValue → Type 0
KeepsTime ppm r = is_measuring r ≡ true → IsRunning (oscillator r) × IsWithin ppm (oscillator r)

-- A legal segment, by its facts alone: its numbers lie in their ranges, a slave has what belongs to its kind,
-- no two slaves have one id, no frame is listed twice, the slaves are a tree of at most 256, and no fault is
-- found. It is legal exactly where some file says it (the law `legal_by_facts`).
pub record IsLegal (s : SegmentValue) : Type 0 where
  pub head : IsHead s.head
  pub ids : All (λ r. is_id r.id ≡ true) s.rows
  pub clocks : All (IsClock s.head.cycle_ns) s.rows
  -- in version 1 no period changes
  pub steady : All (λ r. s.head.version ≡ 1 → r.rates ≡ []) s.rows
  pub few_losses : length s.losses ≤ 10000
  pub losses : All (IsLoss (length s.rows)) s.losses
  pub once : AreOnce s.losses
  pub distinct : first_again [] (map (λ r. r.id) s.rows) ≡ None
  pub tree : IsSegment (tree_rows s.rows)
  pub faultless : fault_of s ≡ None
