-- The sizes of the differences of a legal segment.
use Rattle.std.proofs.Common.{◌≡◌, ℕ, ◌+◌, ◌-◌, ◌*◌, ◌%◌, ◌^◌, ◌≤◌, Bool, true, false, Option, Some, None, refl, ap, ap₂, ◌∙◌, arith}
use Rattle.std.specs.Prelude.{ℤ, pos, negsuc, ◌+ℤ◌, ◌-ℤ◌, ◌≤ℤ◌, int_lt, unsigned_abs}
use Rattle.std.proofs.Math.Nat.{add-mul}
use Rattle.std.proofs.lemmas.Int.{ints}
use Rattle.std.proofs.lemmas.List.{length-map}
use Rattle.copy_law.specs.Together.{reach_of_segment}
use Rattle.dc_bounds.specs.LockNumbers.{lock_step, silence_fs}
use Rattle.dc_bounds.specs.TickBounds.{jump}
use Rattle.dc_bounds.proofs.Exported.{reach_few, silence_within}
use Rattle.esc_regs.specs.declared.clock_kind.ClockKind.{ClockKind}
use Rattle.esc_regs.specs.declared.clock_kind.ClockKind.TheVariants as kind
use Rattle.frame_pass.specs.SlaveState.{width}
use Rattle.segment_file.specs.Faults.{Fault, fault_if, first_of, no_lock, step_of, time_fault}
use Rattle.segment_file.specs.Legal.{IsLegal}
use Rattle.segment_file.specs.Segment.{SegmentValue, clocks, counts_of, measuring, tree_row, tree_rows}
use Rattle.segment_file.proofs.Exported.{counted, faultless}
use Rattle.wrap_time.specs.WordDifference.{word_difference}
use Rattle.wrap_time.proofs.Exported.{cut_of_cut, word_difference_near}

-- The clocks are drawn together.
neither : (f g : Option Fault) → first_of f g ≡ None → (f ≡ None) × (g ≡ None)
neither None g e = (refl, e)
neither (Some fault) g e = absurd (let x = e in cc)

unfound : (fault : Fault) (b : Bool) → fault_if fault b ≡ None → b ≡ false
unfound fault true e = absurd (let x = e in cc)
unfound fault false e = refl

not_below : (z : ℤ) → int_lt z (pos 1) ≡ false → pos 1 ≤ℤ z
not_below z e = grind (arith, ints)

some_step : (s : SegmentValue) → time_fault s.head (counts_of s.rows) (tree_rows s.rows) ≡ None → pos 1 ≤ℤ step_of s.head
unfolding time_fault
some_step s e = not_below (step_of s.head) (unfound no_lock (int_lt (step_of s.head) (pos 1)) (neither _ _ (neither _ _ e).1).0)

module _ (s : SegmentValue) (legal : IsLegal s) where
  pub draws : pos 1 ≤ℤ lock_step s.head.ppm s.head.frame_ns s.head.speed s.head.loss_run
  draws = some_step s (faultless s legal.faultless).1

  pub silence_less : jump s.head.ppm (silence_fs s.head.loss_run s.head.frame_ns) ≤ jump s.head.ppm (reach_of_segment s)
  silence_less = silence_within s.head.ppm (measuring s.rows) (clocks s.rows) s.head.loss_run s.head.frame_ns legal.head.ppm

  pub reach_small : jump s.head.ppm (reach_of_segment s) ≤ 3104400
  reach_small =
      let rows = legal.tree.few in
      let many = length-map s.rows tree_row in
      let c = counted s.rows (omega (arith, rows, many)) in
      let measure = c.measuring in
      let count = c.clocks in
      reach_few s.head.ppm (measuring s.rows) (clocks s.rows) s.head.loss_run s.head.frame_ns legal.head.ppm measure (omega (arith, measure, count)) legal.head.loss_run legal.head.frame_ns.1

-- between two numbers of frames
pub periods_between : (a b period : ℕ) → a ≤ b → b * period ≡ a * period + (b - a) * period
periods_between a b period le =
    let parts = add-mul a (b - a) period in
    let same : (a + (b - a)) * period ≡ b * period = ap (λ (n : ℕ). n * period) (let e : a + (b - a) ≡ b = omega (arith, le) in e) in
    omega (arith, parts, same)

-- The size of a signed difference, and its word.
over_size : (z : ℤ) → (z ≤ℤ pos (unsigned_abs z)) × (pos 0 ≤ℤ (z +ℤ pos (unsigned_abs z)))
over_size (pos n) = (omega (arith, ints), omega (arith, ints))
over_size (negsuc n) = (omega (arith, ints), omega (arith, ints))

pub near_by_size : (a b n : ℕ) → unsigned_abs (pos a -ℤ pos b) ≤ n → (a ≤ b + n) × (b ≤ a + n)
near_by_size a b n few =
    let z = over_size (pos a -ℤ pos b) in
    let up = z.0 in
    let down = z.1 in
    (omega (arith, ints, up, few), omega (arith, ints, down, few))

-- both clocks have at least 32 bits, of which a receipt compares the low ones
pub difference_whole : (u w a b : ℕ) → 32 ≤ u → 32 ≤ w → unsigned_abs (pos a -ℤ pos b) ≤ 6208800
    → word_difference 32 (a % 2 ^ u % 2 ^ 32) (b % 2 ^ w % 2 ^ 32) ≡ pos a -ℤ pos b
difference_whole u w a b wide wider few =
    let near = near_by_size a b 6208800 few in
    let up = near.0 in
    let down = near.1 in
    ap₂ (word_difference 32) (cut_of_cut 32 u a wide) (cut_of_cut 32 w b wider)
    ∙ word_difference_near 32 a b (omega arith) (record { above = omega (arith, up); below = omega (arith, down) })

pub wide : (k : ClockKind) → 32 ≤ width k
unfolding width
wide kind.None = omega arith
wide kind.R32 = omega arith
wide kind.C32 = omega arith
wide kind.C64 = omega arith

-- What a clock's whole time has become since a receipt: the reference's time then, 10 ns for each of its ticks since, and what is left.
pub whole_since : (epoch latched then_latched then now there n : ℕ) (d left : ℤ) → latched ≡ then_latched → then_latched ≤ then → latched ≤ now
    → pos now +ℤ d ≡ pos (then + 10 * n) +ℤ left → pos (epoch + (then - then_latched)) ≡ pos there +ℤ d
    → pos (epoch + (now - latched)) ≡ pos (there + 10 * n) +ℤ left
whole_since epoch latched then_latched then now there n d left same early late time whole = omega (arith, ints, same, early, late, time, whole)
