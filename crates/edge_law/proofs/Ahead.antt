-- Where the copy of a clock is when its unit is armed, and at the end of the run: behind what is due, and not too far; and past the last edge.
use Rattle.std.proofs.Common.{◌≡◌, ℕ, ◌+◌, ◌-◌, ◌*◌, ◌<◌, ◌≤◌, Bool, true, false, length, Option, Some, None, Ok, refl, ap, arith, inl, inr}
use Rattle.std.specs.Prelude.{if◌then◌else◌, nat_eq, nat_le}
use Rattle.std.proofs.Math.Nat.{add-mul, mul-le-mul_right}
use Rattle.std.proofs.lemmas.Bool.{cases_lt}
use Rattle.std.proofs.lemmas.Bool.Decides.{nat_tests}
use Rattle.std.proofs.lemmas.List.{length-map}
use Rattle.cable_tree.specs.PathSums.{arrive, round_trip}
use Rattle.cable_tree.proofs.Exported.{inside}
use Rattle.copy_law.specs.Drawn.{arrives_at}
use Rattle.copy_law.specs.History.{history_from}
use Rattle.copy_law.specs.Receipts.{IsReference}
use Rattle.copy_law.specs.SinceLatch.{latch_arrival}
use Rattle.copy_law.specs.WholeTimes.{reference_time, whole_copy}
use Rattle.copy_law.proofs.Exported.{latched_within, periods_between, reference_clock, reference_low, ticks_over, whole_copies_near, wire_delay_is}
use Rattle.dc_bounds.specs.CopyBound.{copy_bound}
use Rattle.dc_bounds.specs.LockNumbers.{period_fs}
use Rattle.dc_bounds.specs.RunNumbers.{lead_ns, run_frames, run_time_ns}
use Rattle.dc_bounds.specs.TickBounds.{tick_gap}
use Rattle.dc_bounds.specs.TickFacts.{IsNear, IsWithin}
use Rattle.dc_bounds.proofs.Exported.{ahead, long_enough, quarter, weight_few}
use Rattle.delay_law.specs.Resting.{row_there}
use Rattle.delay_law.proofs.Exported.{keeps_there}
use Rattle.edge_law.proofs.SettledAt.{settle_frames_are}
use Rattle.esc_regs.specs.Kinds.{has_clock, measures}
use Rattle.esc_regs.specs.declared.clock_kind.ClockKind.{ClockKind}
use Rattle.esc_regs.specs.declared.clock_kind.ClockKind.TheVariants as kind
use Rattle.honest_slaves.specs.FileSlaves.{kind_at}
use Rattle.master_script.specs.Words.{Words}
use Rattle.osc_clock.specs.Ticks.{IsRunning, Oscillator, ticks}
use Rattle.osc_clock.proofs.Exported.{ticks_rise}
use Rattle.run_counts.specs.Transmissions.{settling_sends}
use Rattle.run_counts.proofs.Exported.{honest_replies, settled_sends}
use Rattle.run_of_file.specs.Commissioned.{IsCommissioned, words_after}
use Rattle.run_of_file.specs.MasterOfFile.{master_of}
use Rattle.run_of_file.specs.RunOfFile.{RunEnd, frames_given, ran, settled}
use Rattle.segment_bounds.specs.Bounds.{copy_bound_at, delay_bound_at, reference_row_of, weight_at, wire_delay_at}
use Rattle.segment_file.specs.Faults.{Fault, ahead_ns, fault_if, first_of, lead as lead_fault, time_fault}
use Rattle.segment_file.specs.Legal.{IsLegal}
use Rattle.segment_file.specs.Segment.{SegmentValue, clock_at, clocks, counts_of, measures_at, oscillator, row_at, tree_row, tree_rows}
use Rattle.segment_file.proofs.Exported.{counted, faultless, legal_round_trip, row_within}
use Rattle.segment_start.specs.Start.{started_segment}

pub clock_measures : (k : ClockKind) → has_clock k ≡ true → measures k ≡ true
clock_measures kind.None is = absurd (let x = is in cc)
clock_measures kind.R32 is = absurd (let x = is in cc)
clock_measures kind.C32 is = refl
clock_measures kind.C64 is = refl

-- a start is not too far ahead of a 32-bit clock
neither : (f g : Option Fault) → first_of f g ≡ None → (f ≡ None) × (g ≡ None)
neither None g e = (refl, e)
neither (Some fault) g e = absurd (let x = e in cc)

unfound : (fault : Fault) (b : Bool) → fault_if fault b ≡ None → b ≡ false
unfound fault true e = absurd (let x = e in cc)
unfound fault false e = refl

less_then : (limit n : ℕ) → nat_le limit n ≡ false → n < limit
less_then limit n e = grind (arith, nat_tests, e)

soon_by : (s : SegmentValue) → time_fault s.head (counts_of s.rows) (tree_rows s.rows) ≡ None → ahead_ns s.head (counts_of s.rows) < 2000000000
unfolding time_fault
soon_by s e = less_then 2000000000 (ahead_ns s.head (counts_of s.rows)) (unfound lead_fault (nat_le 2000000000 (ahead_ns s.head (counts_of s.rows))) (neither _ _ (neither _ _ e).1).1)

pub starts_soon : (s : SegmentValue) → IsLegal s → lead_ns (clocks s.rows) s.head.loss_run s.head.frame_ns + 2 * s.head.frame_ns + 3 * s.head.cycle_ns < 2000000000
starts_soon s legal =
    let soon = soon_by s (faultless s legal.faultless).1 in
    let parts = add-mul (3 * clocks s.rows + s.head.loss_run + 2) 2 s.head.frame_ns in
    let same : 3 * clocks s.rows + s.head.loss_run + 2 + 2 ≡ 3 * clocks s.rows + s.head.loss_run + 4 = omega arith in
    let whole = ap (λ (n : ℕ). n * s.head.frame_ns) same in
    omega (arith, soon, parts, whole)

module _ (s : SegmentValue) (legal : IsLegal s) (p : ℕ) (low : p < length s.rows) where
  pub arrives_inside : arrive (tree_rows s.rows) (row_at s p) ≤ round_trip (tree_rows s.rows)
  arrives_inside =
      let row = row_within s legal p low in
      let rows = length-map s.rows tree_row in
      let least = inside (tree_rows s.rows) legal.tree.tree legal.tree.slaves (row_at s p) (omega (arith, row, rows)) in
      omega (arith, least)

  wire_inside : wire_delay_at s (row_at s p) ≤ round_trip (tree_rows s.rows)
  unfolding wire_delay_at
  wire_inside = let inner = arrives_inside in omega (arith, inner)

  -- X and the drift of the longest arming are at most a quarter of a period
  abbrev clock_bound : ℕ
  clock_bound = copy_bound s.head.ppm s.head.frame_ns s.head.loss_run (delay_bound_at s (row_at s p)) (wire_delay_at s (row_at s p))

  quarter_all : (l : ℕ) → l ≤ 784 * period_fs s.head.frame_ns → 4 * (tick_gap s.head.ppm l + clock_bound) ≤ period_fs s.head.frame_ns
  unfolding delay_bound_at
  quarter_all l short =
      let row = row_within s legal p low in
      let rows = length-map s.rows tree_row in
      quarter s.head.ppm s.head.frame_ns s.head.loss_run (weight_at s (row_at s p)) (round_trip (tree_rows s.rows)) (wire_delay_at s (row_at s p)) l legal.head.ppm legal.head.frame_ns.0 legal.head.loss_run
      (weight_few (tree_rows s.rows) (measures_at s.rows) (clock_at s.rows) (row_at s p) legal.tree (omega (arith, row, rows))) (legal_round_trip s legal) wire_inside short

  pub quarter_there : (l : ℕ) → l ≤ 784 * period_fs s.head.frame_ns → 4 * (tick_gap s.head.ppm l + copy_bound_at s (row_at s p)) ≤ period_fs s.head.frame_ns
  unfolding copy_bound_at
  quarter_there l short = by (nat_eq (row_at s p) (reference_row_of s))
    where
      by : (b : Bool) → 4 * (tick_gap s.head.ppm l + (if b then 0 else clock_bound)) ≤ period_fs s.head.frame_ns
      by true = let all = quarter_all l short in omega (arith, all)
      by false = quarter_all l short

-- What is between the arrivals of two frames, one at the reference and a later one at a clock.
module _ (s : SegmentValue) (first before last : RunEnd) (it : IsCommissioned s first) (settled_is : settled s ≡ Some before) (before_ok : before.answer ≡ Ok tt) (last_is : ran s ≡ Some last) (r : ℕ)
    (reference : IsReference s r) (p : ℕ) (low : p < length s.rows) (is : has_clock (kind_at s p) ≡ true) (known frame : ℕ) (recent : settling_sends s ≤ known + s.head.loss_run) (within : known ≤ settling_sends s)
    (behind : settling_sends s < frame) (soon : frame ≤ settling_sends s + 3 * clocks s.rows) (enough : length before.exchanges + 1 + frames_given s ≤ length last.exchanges)
    (ends : arrives_at s first frame p ≤ (length last.exchanges + 1) * period_fs s.head.frame_ns) where
  abbrev period : ℕ
  period = period_fs s.head.frame_ns

  abbrev words : Words
  words = words_after s first

  abbrev copy : ℕ → ℕ
  copy t = whole_copy s words p (history_from (started_segment s) last.exchanges p) t

  abbrev ta : ℕ
  ta = arrives_at s first frame p

  abbrev end : ℕ
  end = (length last.exchanges + 1) * period_fs s.head.frame_ns

  abbrev first_r : ℕ
  first_r = arrives_at s first known r

  abbrev told : ℕ
  told = reference_time s words r first_r

  abbrev bound : ℕ
  bound = copy_bound_at s (row_at s p)

  abbrev o : Oscillator
  o = oscillator (row_there s r)

  keeps : IsRunning o × IsWithin s.head.ppm o
  keeps = keeps_there s it.legal r (reference_low s it.legal r reference) (clock_measures (kind_at s r) (reference_clock s it.legal r reference))

  sent : length before.exchanges ≡ length first.exchanges + settling_sends s
  sent =
      let many = settled_sends s it.legal (honest_replies s it.legal) first before it.is settled_is before_ok in
      let same = settle_frames_are s in
      omega (arith, many, same)

  -- the way of the frame from the reference to the clock
  record IsOnWay : Type 0 where
    delay : ℕ
    far : arrive (tree_rows s.rows) (row_at s r) + delay ≡ arrive (tree_rows s.rows) (row_at s p)
    short : delay < period

  on_way : IsOnWay
  on_way =
      let trip = legal_round_trip s it.legal in
      let inner = arrives_inside s it.legal p low in
      elim (cases_lt p r) [
        | inl less ↦ by (λ same. omega (arith, same, less)) trip inner
        | inr more ↦
            elim (cases_lt r p) [
              | inl less ↦ by (λ same. omega (arith, same, less)) trip inner
              | inr equal ↦
                  let same : p ≡ r = omega (arith, more, equal) in
                  let short = it.legal.head.frame_ns.0 in
                  record { delay = 0; far = let rows = ap (λ (q : ℕ). arrive (tree_rows s.rows) (row_at s q)) same in omega (arith, rows); short = omega (arith, short) }
            ]
      ]
    where
      by : (p ≡ r → ⊥) → round_trip (tree_rows s.rows) < period → arrive (tree_rows s.rows) (row_at s p) ≤ round_trip (tree_rows s.rows) → IsOnWay
      by other trip inner =
          let far = wire_delay_is s it.legal r reference p low is other in
          record { delay = wire_delay_at s (row_at s p); far = far; short = omega (arith, far, trip, inner) }

  apart : ta ≡ first_r + ((frame - known) * period + on_way.delay)
  apart =
      let way = on_way.far in
      let far = periods_between (length first.exchanges + known) (length first.exchanges + frame) period (omega (arith, within, behind)) in
      let gap : length first.exchanges + frame - (length first.exchanges + known) ≡ frame - known = omega arith in
      let same = ap (λ (n : ℕ). n * period) gap in
      omega (arith, way, far, same)

  long : (frame - known) * period ≤ (3 * clocks s.rows + s.head.loss_run) * period
  long = mul-le-mul_right period (let le : frame - known ≤ 3 * clocks s.rows + s.head.loss_run = omega (arith, soon, recent) in le)

  latch_past : latch_arrival s words r ≤ first_r
  latch_past =
      let early = latched_within (master_of s) first.exchanges in
      let more = mul-le-mul_right period (let le : words.latched ≤ length first.exchanges + known = omega (arith, early) in le) in
      omega (arith, more)

  -- the reference goes on by 10 ns a tick
  reference_on : (t : ℕ) → first_r ≤ t → reference_time s words r t ≡ told + 10 * (ticks o t - ticks o first_r)
  reference_on t late =
      let past = latch_past in
      let up = ticks_rise o first_r t keeps.0 late in
      let before_up = ticks_rise o (latch_arrival s words r) first_r keeps.0 past in
      omega (arith, up, before_up)

  near_at : (t : ℕ) → ta ≤ t → t ≤ end → IsNear (1000000 * copy t) (1000000 * reference_time s words r t) bound
  near_at t late until =
      let trip = legal_round_trip s it.legal in
      let many = sent in
      let more = mul-le-mul_right period (let le : length before.exchanges + 1 ≤ length first.exchanges + frame = omega (arith, many, behind) in le) in
      let parts = add-mul (length before.exchanges) 1 period in
      whole_copies_near s first before last it settled_is before_ok last_is r reference p low is t (omega (arith, trip, more, parts, late)) until

  -- few periods lie between
  few : (frame - known) * period + on_way.delay ≤ 784 * period
  few =
      let rows = it.legal.tree.few in
      let many_rows = length-map s.rows tree_row in
      let counted_rows = counted s.rows (omega (arith, rows, many_rows)) in
      let measure = counted_rows.measuring in
      let clocks_few = counted_rows.clocks in
      let runs_few = it.legal.head.loss_run in
      let gap = long in
      let short = on_way.short in
      let most = mul-le-mul_right period (let le : 3 * clocks s.rows + s.head.loss_run + 1 ≤ 784 = omega (arith, measure, clocks_few, runs_few) in le) in
      let parts = add-mul (3 * clocks s.rows + s.head.loss_run) 1 period in
      omega (arith, gap, short, most, parts)

  past : first_r ≤ ta
  past = let far = apart in omega (arith, far)

  told_near : IsNear (1000000 * copy ta) (1000000 * reference_time s words r ta) bound
  told_near = near_at ta (omega arith) ends

  -- the copy where the unit is armed is behind the lead
  pub armed_ahead : 1000000 * copy ta < 1000000 * (told + lead_ns (clocks s.rows) s.head.loss_run s.head.frame_ns)
  armed_ahead =
      let far = apart in
      let n = ticks o ta - ticks o first_r in
      let many = ticks_over o s.head.ppm first_r ta ((frame - known) * period + on_way.delay) keeps.0 it.legal.head.ppm keeps.1 far in
      let quarter = quarter_there s it.legal p low ((frame - known) * period + on_way.delay) few in
      let gap = long in
      let less = ahead s.head.ppm (clocks s.rows) s.head.loss_run s.head.frame_ns ((frame - known) * period + on_way.delay) on_way.delay n bound many.0 (omega (arith, gap)) on_way.short quarter in
      let on = reference_on ta past in
      let above = told_near.above in
      omega (arith, less, on, above)

  -- and it has passed what the master was told
  pub armed_late : 1000000 * told ≤ 1000000 * copy ta + bound
  armed_late =
      let on = reference_on ta past in
      let below = told_near.below in
      omega (arith, on, below)

  -- at the end it has passed all that is due
  pub ended : told + run_time_ns (clocks s.rows) s.head.loss_run s.head.frame_ns s.head.cycle_ns s.head.cycles ≤ copy end
  ended =
      let frames = run_frames (clocks s.rows) s.head.loss_run s.head.frame_ns s.head.cycle_ns s.head.cycles in
      let trip = legal_round_trip s it.legal in
      let inner = arrives_inside s it.legal r (reference_low s it.legal r reference) in
      let many = sent in
      let least = enough in
      let parts = add-mul (length first.exchanges + known + 1) (frames + 1) period in
      let one = add-mul (length first.exchanges + known) 1 period in
      let same : length first.exchanges + known + 1 + (frames + 1) ≡ length first.exchanges + known + (frames + 2) = omega arith in
      let whole = ap (λ (n : ℕ). n * period) same in
      let more = mul-le-mul_right period (let le : length first.exchanges + known + (frames + 2) ≤ length last.exchanges + 1 = omega (arith, many, least, within) in le) in
      let t = first_r + (frames + 1) * period in
      let early : t ≤ end = omega (arith, trip, inner, parts, one, whole, more) in
      let n = ticks o t - ticks o first_r in
      let over = ticks_over o s.head.ppm first_r t ((frames + 1) * period) keeps.0 it.legal.head.ppm keeps.1 refl in
      let short = quarter_there s it.legal p low 0 (omega arith) in
      let long = long_enough s.head.ppm (clocks s.rows) s.head.loss_run s.head.frame_ns s.head.cycle_ns s.head.cycles n bound it.legal.head.ppm it.legal.head.frame_ns.0 over.0 (omega (arith, short)) in
      let rise = ticks_rise o t end keeps.0 early in
      let up = over.1 in
      let on = reference_on end (omega (arith, early)) in
      let below = (near_at end ends (omega arith)).below in
      omega (arith, long, rise, up, on, below)
