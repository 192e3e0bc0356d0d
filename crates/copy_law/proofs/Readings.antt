-- What the offset of a clock is by what the clock showed, and that the reference has no delay.
use Rattle.std.proofs.Common.{◌≡◌, ℕ, ◌+◌, ◌-◌, ◌*◌, ◌/◌, ◌<◌, Bool, true, false, List, length, map, Option, Some, None, Result, Ok, Err, refl, sym, ap, ap₂, ◌∙◌, arith, inl, inr}
use Rattle.std.specs.Prelude.{if◌then◌else◌, slice_index_or, unwrap_or}
use Rattle.std.specs.List.{find}
use Rattle.std.proofs.lemmas.Bool.{cases_lt}
use Rattle.std.proofs.lemmas.List.{get_or_past}
use Rattle.std.proofs.lemmas.List.FromFn.{get_or-map-range_with_len, length-map-range_with_len}
use Rattle.cable_tree.specs.declared.port.Port.{Port}
use Rattle.cable_tree.specs.Row.{Row}
use Rattle.dc_bounds.specs.Weight.{flag}
use Rattle.dc_delay.specs.Latched.{laps, measures as has_latch}
use Rattle.dc_delay.specs.MeasuredDelay.{ahead, back, delay_from, delays_from}
use Rattle.dc_delay.specs.Refusals.{first_timed, first_unmeasurable}
use Rattle.dc_delay.specs.ShapeRows.{positions, rows_of}
use Rattle.dc_topology.specs.Listed.{Place}
use Rattle.dc_topology.specs.declared.error.TopologyError.{TopologyError}
use Rattle.esc_regs.specs.RegisterTable.{is_wide}
use Rattle.esc_regs.specs.declared.clock_kind.ClockKind.{ClockKind}
use Rattle.esc_regs.specs.declared.clock_kind.ClockKind.TheVariants as kind
use Rattle.frame_pass.specs.SlaveState.{width}
use Rattle.master_script.specs.Config.{ConfigValue}
use Rattle.master_script.specs.Frames.{width as bytes_by}
use Rattle.master_script.specs.Offset.{offset}
use Rattle.master_script.specs.Progress.{progress}
use Rattle.master_script.specs.Slaves.{SlaveWords, is_clock, is_measuring, judged_clocks, judged_tree, judgement, tree_told}
use Rattle.master_script.specs.Words.{Words, delay_at, delays_of, hung_of, hung_or_none, offset_at, unit_of, wide_at}
use Rattle.segment_file.specs.Legal.{IsLegal}
use Rattle.segment_file.specs.Segment.{SegmentValue, clock_at, measures_at, row_at}
use Rattle.esc_regs.specs.Kinds.{has_clock, measures}
use Rattle.honest_slaves.specs.FileSlaves.{kind_at, status_at}
use Rattle.honest_slaves.proofs.Exported.{judged_ok, row_has}
use Rattle.run_of_file.specs.MasterOfFile.{master_of}
use Rattle.run_of_file.specs.RunOfFile.{RunEnd, commissioned}
use Rattle.delay_law.specs.Resting.{row_there, shown_at}
use Rattle.delay_law.proofs.Exported.{late, told, first_clock, wide_told}
use Rattle.copy_law.specs.SinceLatch.{latch_arrival}

-- a clock measures
pub clock_measures : (k : ClockKind) → has_clock k ≡ true → measures k ≡ true
clock_measures kind.None e = absurd (let z = e in cc)
clock_measures kind.R32 e = refl
clock_measures kind.C32 e = refl
clock_measures kind.C64 e = refl

bits_of : (k : ClockKind) → 8 * bytes_by (is_wide k) ≡ width k
unfolding width
bits_of kind.None = refl
bits_of kind.R32 = refl
bits_of kind.C32 = refl
bits_of kind.C64 = refl

epoch_of : (s : SegmentValue) → (master_of s).epoch_ns ≡ s.head.epoch_ns
unfolding master_of
epoch_of s = refl

-- of a list by positions, what stands at each is 0 where it is so of each entry
zero_at : (f : ℕ → Option ℕ) (n p : ℕ) → unwrap_or (f p) 0 ≡ 0 → unwrap_or (slice_index_or (map f (positions n)) p None) 0 ≡ 0
zero_at f n p zero =
    elim (cases_lt p n) [
      | inl low ↦ ap (λ o. unwrap_or o 0) (get_or-map-range_with_len f 0 n p p None low (omega arith)) ∙ zero
      | inr past ↦ let many = length-map-range_with_len f 0 n in ap (λ o. unwrap_or o 0) (get_or_past (map f (positions n)) p None (omega (arith, past, many)))
    ]

nothing_left : (a b : ℕ) → ((a + b) - (b + a)) / 2 ≡ 0
nothing_left a b = let same : (a + b) - (b + a) ≡ 0 = omega arith in ap (λ x. x / 2) same

if_zero : (b : Bool) (d : ℕ) → d ≡ 0 → unwrap_or (if b then Some d else None) 0 ≡ 0
if_zero true d zero = zero
if_zero false d zero = refl

-- the delay of the first timed slave
first_zero : (rows : List Row) (has : ℕ → Bool) (timed : ℕ → Bool) (taken : ℕ → Port → ℕ) (n r : ℕ) (o : Option ℕ) → o ≡ Some r
    → unwrap_or (slice_index_or (delays_from rows has timed taken o (positions n)) r None) 0 ≡ 0
first_zero rows has timed taken n r o is =
    ap (λ q. unwrap_or (slice_index_or (delays_from rows has timed taken q (positions n)) r None) 0) is
    ∙ zero_at (λ q. if timed q then Some (delay_from rows has taken (Some r) q) else None) n r
    (if_zero (timed r) (delay_from rows has taken (Some r) r) (nothing_left (ahead rows has taken r) (back rows has taken r)))

-- the one that the judgement finds
clocks_first : (o u : Option ℕ) (r : ℕ) → judged_clocks o u ≡ Ok r → o ≡ Some r
clocks_first None u r e = absurd (let z = e in cc)
clocks_first (Some x) (Some y) r e = absurd (let z = e in cc)
clocks_first (Some x) None r e = let same : x ≡ r = (let z = e in cc) in ap (λ y. Some y) same

tree_first : (ss : List SlaveWords) (tree : Result (List Place) TopologyError) (r : ℕ) → judged_tree ss tree ≡ Ok r → find (flag (map is_clock ss)) (positions (length (hung_or_none tree))) ≡ Some r
tree_first ss (Err x) r e = absurd (let z = e in cc)
tree_first ss (Ok hung) r e = clocks_first (first_timed hung (flag (map is_clock ss))) (first_unmeasurable hung (flag (map is_measuring ss))) r e

judged_first : (ss : List SlaveWords) (r : ℕ) → judgement ss ≡ Ok r → find (flag (map is_clock ss)) (positions (length (hung_or_none (tree_told ss)))) ≡ Some r
unfolding judgement
judged_first ss r e = tree_first ss (tree_told ss) r e

pub reference_zero : (cfg : ConfigValue) (w : Words) (r : ℕ) → judgement w.slaves ≡ Ok r → delay_at cfg w r ≡ 0
unfolding delays_of
reference_zero cfg w r judged =
    first_zero (rows_of (hung_of w) cfg.kinds) (has_latch w.latches) (flag (map is_clock w.slaves)) (laps w.latches) (length (hung_of w)) r
    (find (flag (map is_clock w.slaves)) (positions (length (hung_of w)))) (judged_first w.slaves r judged)

some_same : {X : Type 0} {x y : X} → Some x ≡ Some y → x ≡ y
some_same e = cc

module _ (s : SegmentValue) (run : RunEnd) (legal : IsLegal s) (is : commissioned s ≡ Some run) (ok : run.answer ≡ Ok tt) where
  abbrev words : Words
  words = (progress (master_of s) run.exchanges).words

  clock_there : (p : ℕ) → p < length s.rows → clock_at s.rows (row_at s p) ≡ true → measures_at s.rows (row_at s p) ≡ true
  clock_there p low clock = sym (row_has measures s legal p low) ∙ clock_measures (kind_at s p) (row_has has_clock s legal p low ∙ clock)

  bits_there : (p : ℕ) → p < length s.rows → 8 * bytes_by (wide_at words p) ≡ width (row_there s p).kind
  bits_there p low = ap (λ b. 8 * bytes_by b) (wide_told (kind_at s) (status_at s) (length s.rows) words p (late s legal run is ok).knows.slaves low) ∙ bits_of (kind_at s p)

  pub offset_by_reading : (p : ℕ) → p < length s.rows → clock_at s.rows (row_at s p) ≡ true
      → offset_at (master_of s) words p
      ≡ offset (width (row_there s p).kind) s.head.epoch_ns (delay_at (master_of s) words p) (shown_at (row_there s p) (latch_arrival s words p))
  offset_by_reading p low clock =
      let latch = (told s legal run is ok).measuring p low (clock_there p low clock) in
      let d = delay_at (master_of s) words p in
      ap (λ o. offset (8 * bytes_by (wide_at words p)) (master_of s).epoch_ns d (unit_of o)) latch.1
      ∙ ap₂ (λ bits epoch. offset bits epoch d latch.0.unit) (bits_there p low) (epoch_of s) ∙ ap (offset (width (row_there s p).kind) s.head.epoch_ns d) latch.2.unit

  pub reference_delay : (r : ℕ) → words.reference ≡ Some r → delay_at (master_of s) words r ≡ 0
  reference_delay r there =
      let h = (late s legal run is ok).knows in
      let same : first_clock s legal ≡ r = some_same (sym h.reference ∙ there) in
      reference_zero (master_of s) words r (ap judgement h.slaves ∙ judged_ok s legal ∙ ap (λ x. Ok x) same)
