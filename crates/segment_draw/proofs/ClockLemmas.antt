-- The numbers of a drawn slave lie in their ranges.
use Rattle.std.proofs.Common.{◌≡◌, ap, refl, ℕ, ◌+◌, ◌%◌, ◌<◌, ◌≤◌, Bool, true, false, ◌&&◌, ◌==◌, not, rules, List, [], length, Some, None, arith, nat_le, if◌then◌else◌}
use Rattle.std.specs.Prelude.{IfSome}
use Rattle.std.proofs.lemmas.Bool.{eqb-true}
use Rattle.std.proofs.lemmas.Bool.Decides.{nat_tests}
use Rattle.std.proofs.lemmas.List.Elements.{All-nil}
use Rattle.esc_regs.specs.declared.clock_kind.ClockKind.{ClockKind}
use Rattle.esc_regs.specs.declared.clock_kind.ClockKind.TheVariants as kind
use Rattle.cable_tree.specs.Row.{IsRow}
use Rattle.segment_shape.specs.Ranges.{IsRate}
use Rattle.esc_regs.specs.Kinds.{measures}
use Rattle.segment_file.specs.Segment.{RowValue, tree_row}
use Rattle.segment_file.specs.Faults.{is_off, is_within}
use Rattle.segment_file.specs.Legal.{IsClock}
use Rattle.segment_draw.specs.Draws.{Draws, AreLow}
use Rattle.segment_draw.specs.Generated.{kind_of, start_of, sync1_of, of_clock, row_of}

by_kind : (P : ClockKind → Type 0) (a b : Bool) → P kind.None → P kind.C32 → P kind.C64 → P (if a then kind.None else (if b then kind.C32 else kind.C64))
by_kind P true b n c d = n
by_kind P false true n c d = c
by_kind P false false n c d = d

pub of_kinds : (P : ClockKind → Type 0) (row : ℕ) (d : Draws) → P kind.None → P kind.C32 → P kind.C64 → P (kind_of row d)
unfolding kind_of
of_kinds P row d n c e = by_kind P (not (row == 0) && d.clockless % 4 == 0) (d.narrow % 2 == 1) n c e

-- the first row is a clock
pub first_clock : (row : ℕ) (d : Draws) → row ≡ 0 → measures (kind_of row d) ≡ true
unfolding kind_of
first_clock row d first = rw first (by_width (d.narrow % 2 == 1))
  where
    by_width : (b : Bool) → measures (if b then kind.C32 else kind.C64) ≡ true
    by_width true = refl
    by_width false = refl

sync1_ok : (s : ℕ) → s < 1000000 → IfSome (sync1_of s) (λ ns. (1 ≤ ns) × (ns < 1000000))
sync1_ok s low = by_test (s % 2 == 1) refl
  where
    by_test : (b : Bool) → (s % 2 == 1) ≡ b → IfSome (if b then Some s else None) (λ ns. (1 ≤ ns) × (ns < 1000000))
    by_test true is = let odd = eqb-true (s % 2) 1 is in (omega arith, low)
    by_test false is = tt

pub row_ok : (rows : List RowValue) (d : Draws) → IsRow (tree_row (row_of rows d))
row_ok rows d = record { tp_some = omega arith; tp_most = omega arith; tf_some = omega arith; tf_most = omega arith; cable_most = omega arith }

-- a row with this kind and these draws
abbrev with_kind : RowValue → Draws → ClockKind → RowValue
with_kind r d k = record {
  id = r.id;
  kind = k;
  tp_ns = r.tp_ns;
  tf_ns = r.tf_ns;
  cable_ps = r.cable_ps;
  above = r.above;
  start = start_of k d;
  phase_fs = of_clock k (1 + d.phase % 9999500);
  period_fs = of_clock k (9999500 + d.period % 1001);
  rates = [];
  shift_ns = of_clock k (d.shift % 1000000);
  sync1_ns = if measures k then sync1_of (d.sync1 % 1000000) else None;
}

none_ok : (r : RowValue) (d : Draws) → IsClock 1000000 (with_kind r d kind.None)
unfolding start_of
none_ok r d = record {
  start = omega arith;
  phase_fs = omega arith;
  period_fs = omega arith;
  measuring = λ e. absurd (cc e);
  few = omega arith;
  rates = All-nil IsRate;
  rising = search rules;
  shift_ns = omega arith;
  sync1_ns = tt;
  silent = λ e. (refl, refl, refl, refl);
  signalless = λ e. (refl, refl);
}

c32_ok : (r : RowValue) (d : Draws) → AreLow d → IsClock 1000000 (with_kind r d kind.C32)
unfolding start_of
c32_ok r d low = record {
  start = omega (arith, low.start_high);
  phase_fs = omega arith;
  period_fs = omega arith;
  measuring = λ e. (omega arith, omega arith);
  few = omega arith;
  rates = All-nil IsRate;
  rising = search rules;
  shift_ns = omega arith;
  sync1_ns = sync1_ok (d.sync1 % 1000000) (omega arith);
  silent = λ e. absurd (cc e);
  signalless = λ e. absurd (cc e);
}

c64_ok : (r : RowValue) (d : Draws) → AreLow d → IsClock 1000000 (with_kind r d kind.C64)
unfolding start_of
c64_ok r d low = record {
  start = omega (arith, low.start_high, low.start_low);
  phase_fs = omega arith;
  period_fs = omega arith;
  measuring = λ e. (omega arith, omega arith);
  few = omega arith;
  rates = All-nil IsRate;
  rising = search rules;
  shift_ns = omega arith;
  sync1_ns = sync1_ok (d.sync1 % 1000000) (omega arith);
  silent = λ e. absurd (cc e);
  signalless = λ e. absurd (cc e);
}

pub clock_ok : (rows : List RowValue) (d : Draws) → AreLow d → IsClock 1000000 (row_of rows d)
clock_ok rows d low = let r = row_of rows d in of_kinds (λ k. IsClock 1000000 (with_kind r d k)) (length rows) d (none_ok r d) (c32_ok r d low) (c64_ok r d low)

in_time : (phase period : ℕ) → 9999500 ≤ period → period ≤ 10000500 → phase ≤ 9999500 → (nat_le phase period && is_within 50 period && true) ≡ true
in_time phase period low high soon =
    let a : nat_le phase period ≡ true = grind (arith, nat_tests) in
    let b : nat_le 9999500 period ≡ true = grind (arith, nat_tests) in
    let c : nat_le period 10000500 ≡ true = grind (arith, nat_tests) in
    rw (a, b, c) refl

-- and its clock is on
pub clock_on : (rows : List RowValue) (d : Draws) → is_off 50 (row_of rows d) ≡ false
clock_on rows d =
    let r = row_of rows d in
    let on = ap not (in_time (1 + d.phase % 9999500) (9999500 + d.period % 1001) (omega arith) (omega arith) (omega arith)) in
    of_kinds (λ k. is_off 50 (with_kind r d k) ≡ false) (length rows) d refl on on
