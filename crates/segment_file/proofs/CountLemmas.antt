-- The counts of a segment's rows.
use Rattle.std.specs.Prelude.{◌≡◌, ◌+◌, ◌≤◌, Bool, if◌then◌else◌, List, [], ◌∷◌, length, count_by, is_some}
use Rattle.std.proofs.Common.{arith}
use Rattle.std.proofs.lemmas.List.Sums.{count_by-le-length, sum_by-cons}
use Rattle.esc_regs.specs.declared.clock_kind.ClockKind.{ClockKind}
use Rattle.esc_regs.specs.declared.clock_kind.ClockKind.TheVariants as kind
use Rattle.esc_regs.specs.Kinds.{measures, has_clock}
use Rattle.segment_file.specs.Segment.{RowValue, is_measuring, is_clock, measuring, clocks, counts_of}
use Rattle.segment_file.specs.Counted.{IsCounted}

pub count_by-cons : {X : Type 0} (p : X → Bool) (x : X) (xs : List X) → count_by p (x ∷ xs) ≡ (if p x then 1 else 0) + count_by p xs
count_by-cons p x xs = sum_by-cons (λ y. if p y then 1 else 0) x xs

clock_measures : (k : ClockKind) → (if has_clock k then 1 else 0) ≤ (if measures k then 1 else 0)
clock_measures kind.None = omega arith
clock_measures kind.C32 = omega arith
clock_measures kind.C64 = omega arith
clock_measures kind.R32 = omega arith

-- every clock measures
pub clocks_measure : (rows : List RowValue) → clocks rows ≤ measuring rows
clocks_measure [] = omega arith
clocks_measure (r ∷ rows) = omega (arith, clock_measures r.kind, clocks_measure rows, count_by-cons is_clock r rows, count_by-cons is_measuring r rows)

pub counted : (rows : List RowValue) → length rows ≤ 256 → IsCounted (counts_of rows)
counted rows few = record {
  slaves = few;
  measuring = omega (arith, few, count_by-le-length is_measuring rows);
  clocks = clocks_measure rows;
  signals = omega (arith, few, count_by-le-length is_clock rows, count_by-le-length (λ r. is_some r.sync1_ns) rows);
}
