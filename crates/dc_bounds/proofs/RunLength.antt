-- That the start lies ahead of every arming, and that a run lasts until the last edge.
use Rattle.std.specs.Prelude.{◌≡◌, ℕ, ◌+◌, ◌*◌, ◌/◌, ◌^◌, ◌<◌, ◌≤◌}
use Rattle.std.proofs.Common.{arith}
use Rattle.std.proofs.Math.Nat.{div-mul-le_self, mul-le-mul_right, mul-le-mul, div-lt_iff_lt-mul}
use Rattle.dc_bounds.specs.TickBounds.{tick_fs, tick_gap}
use Rattle.dc_bounds.specs.TickFacts.{AreTicksOf}
use Rattle.dc_bounds.specs.LockNumbers.{period_fs}
use Rattle.dc_bounds.specs.RunNumbers.{lead_ns, start_ns, run_time_ns, run_frames}
use Rattle.dc_bounds.proofs.Growth.{tick_gap_near}

-- the next multiple is above
above_quotient : (x c : ℕ) → 1 ≤ c → x < (x / c + 1) * c
above_quotient x c some = (div-lt_iff_lt-mul {x = x} {y = x / c + 1} some).0 (omega arith)

pub start_after : (r lead cycle : ℕ) → 1 ≤ cycle → r + lead < start_ns r lead cycle
start_after r lead cycle some = above_quotient (r + lead) cycle some

pub start_soon : (r lead cycle : ℕ) → start_ns r lead cycle ≤ r + lead + cycle
start_soon r lead cycle = let low = div-mul-le_self (r + lead) cycle in omega (arith, low)

pub lead_periods : (clocks m frame_ns : ℕ) → 1000000 * lead_ns clocks m frame_ns ≡ (3 * clocks + m) * period_fs frame_ns + 2 * period_fs frame_ns
lead_periods clocks m frame_ns = omega arith

pub ahead : (ppm clocks m frame_ns l d k x : ℕ) → AreTicksOf ppm l k → l ≤ (3 * clocks + m) * period_fs frame_ns + d → d < period_fs frame_ns
    → 4 * (tick_gap ppm l + x) ≤ period_fs frame_ns → tick_fs * k + x < 1000000 * lead_ns clocks m frame_ns
ahead ppm clocks m frame_ns l d k x ticks long short quarter =
    sum (1000000 * lead_ns clocks m frame_ns) ((3 * clocks + m) * period_fs frame_ns) (period_fs frame_ns) (tick_fs * k) l d (tick_gap ppm l) x
    (lead_periods clocks m frame_ns) ticks.gap.above long short quarter
  where
    sum : (lead tm f t l d g x : ℕ) → lead ≡ tm + 2 * f → t ≤ l + g → l ≤ tm + d → d < f → 4 * (g + x) ≤ f → t + x < lead
    sum lead tm f t l d g x a b c e q = omega (arith, a, b, c, e, q)

-- the frames of a run cover U, its thousandth and two periods
pub frames_cover : (clocks m frame_ns cycle cycles : ℕ) → 1 ≤ frame_ns
    → run_time_ns clocks m frame_ns cycle cycles + run_time_ns clocks m frame_ns cycle cycles / 1000 + 1 + 2 * frame_ns ≤ run_frames clocks m frame_ns cycle cycles * frame_ns
frames_cover clocks m frame_ns cycle cycles some =
    let u = run_time_ns clocks m frame_ns cycle cycles in
    let top = above_quotient (u + u / 1000) frame_ns some in
    whole (u + u / 1000) ((u + u / 1000) / frame_ns) frame_ns top
  where
    whole : (y q f : ℕ) → y < (q + 1) * f → y + 1 + 2 * f ≤ (q + 3) * f
    whole y q f top = omega (arith, top)

pub long_enough : (ppm clocks m frame_ns cycle cycles k x : ℕ) → ppm ≤ 100 → 50000 ≤ frame_ns
    → AreTicksOf ppm ((run_frames clocks m frame_ns cycle cycles + 1) * period_fs frame_ns) k → 4 * x ≤ period_fs frame_ns
    → 1000000 * run_time_ns clocks m frame_ns cycle cycles + x ≤ tick_fs * k
long_enough ppm clocks m frame_ns cycle cycles k x small long ticks quarter =
    let u = run_time_ns clocks m frame_ns cycle cycles in
    let frames = run_frames clocks m frame_ns cycle cycles in
    let length = (frames + 1) * period_fs frame_ns in
    enough u (u / 1000) (frames * frame_ns) frame_ns length k (tick_gap ppm length) x long (above_quotient u 1000 (omega arith))
    (frames_cover clocks m frame_ns cycle cycles (omega (arith, long))) (omega arith) ticks.gap.below (tick_gap_near ppm length small) quarter
  where
    enough : (u u1 covered fns taur k gg x : ℕ) → 50000 ≤ fns → u < (u1 + 1) * 1000 → u + u1 + 1 + 2 * fns ≤ covered → taur ≡ 1000000 * covered + 1000000 * fns
        → taur ≤ tick_fs * k + gg → 9999 * gg ≤ taur + 9999 * 10002000 → 4 * x ≤ 1000000 * fns → 1000000 * u + x ≤ tick_fs * k
    enough u u1 covered fns taur k gg x a b c d e f g = omega (arith, a, b, c, d, e, f, g)

-- the last edge, with its shift
pub last_edge : (r clocks m frame_ns cycle cycles shift k : ℕ) → shift + 2 ≤ 2 * cycle → k < cycles
    → start_ns r (lead_ns clocks m frame_ns) cycle + shift + k * cycle + 2 ≤ r + run_time_ns clocks m frame_ns cycle cycles
last_edge r clocks m frame_ns cycle cycles shift k short early =
    let soon = start_soon r (lead_ns clocks m frame_ns) cycle in
    let edges : (k + 1) * cycle ≤ cycles * cycle = mul-le-mul_right cycle (omega (arith, early)) in
    sum (start_ns r (lead_ns clocks m frame_ns) cycle) r (lead_ns clocks m frame_ns) cycle shift k cycles soon edges short
  where
    sum : (start r lead cycle shift k cycles : ℕ) → start ≤ r + lead + cycle → (k + 1) * cycle ≤ cycles * cycle → shift + 2 ≤ 2 * cycle
        → start + shift + k * cycle + 2 ≤ r + (lead + (cycles + 2) * cycle)
    sum start r lead cycle shift k cycles a b c = omega (arith, a, b, c)

-- the start is no number past 63 bits, where the reference's time was that of the epoch at most 100,000 periods before
pub start_fits : (ppm clocks m frame_ns cycle epoch l k : ℕ) → ppm ≤ 100 → clocks ≤ 256 → m ≤ 15 → frame_ns ≤ 10000000 → cycle ≤ 500000000
    → epoch ≤ 4000000000000000000 → AreTicksOf ppm l k → l ≤ 100000 * period_fs frame_ns
    → start_ns (epoch + 10 * k) (lead_ns clocks m frame_ns) cycle < 2 ^ 63
start_fits ppm clocks m frame_ns cycle epoch l k small few_clocks few_losses short cycle_short old ticks early =
    let many : 3 * clocks + m + 2 ≤ 785 = omega (arith, few_clocks, few_losses) in
    let lead : (3 * clocks + m + 2) * frame_ns ≤ 785 * 10000000 = mul-le-mul many short in
    sum (start_ns (epoch + 10 * k) (lead_ns clocks m frame_ns) cycle) epoch k (lead_ns clocks m frame_ns) cycle l (tick_gap ppm l)
    (start_soon (epoch + 10 * k) (lead_ns clocks m frame_ns) cycle) old cycle_short ticks.gap.above (tick_gap_near ppm l small) (omega (arith, early, short)) lead
  where
    sum : (start epoch k lead cycle l g : ℕ) → start ≤ epoch + 10 * k + lead + cycle → epoch ≤ 4000000000000000000 → cycle ≤ 500000000 → tick_fs * k ≤ l + g
        → 9999 * g ≤ l + 9999 * 10002000 → l ≤ 1000000000000000000 → lead ≤ 785 * 10000000 → start < 2 ^ 63
    sum start epoch k lead cycle l g a b c d e f h = omega (arith, a, b, c, d, e, f, h)

-- the first due value is near
pub not_far : (r clocks m frame_ns cycle shift copy x : ℕ) → shift + 2 ≤ 2 * cycle → 1000000 * r ≤ 1000000 * copy + x → 4 * x ≤ period_fs frame_ns
    → lead_ns clocks m frame_ns + 2 * frame_ns + 3 * cycle < 2000000000 → start_ns r (lead_ns clocks m frame_ns) cycle + shift < copy + 2000000000
not_far r clocks m frame_ns cycle shift copy x short reached quarter early =
    let soon = start_soon r (lead_ns clocks m frame_ns) cycle in
    sum (start_ns r (lead_ns clocks m frame_ns) cycle) r (lead_ns clocks m frame_ns) frame_ns cycle shift copy x soon short reached quarter early
  where
    sum : (start r lead frame cycle shift copy x : ℕ) → start ≤ r + lead + cycle → shift + 2 ≤ 2 * cycle → 1000000 * r ≤ 1000000 * copy + x → 4 * x ≤ 1000000 * frame
        → lead + 2 * frame + 3 * cycle < 2000000000 → start + shift < copy + 2000000000
    sum start r lead frame cycle shift copy x a b c d e = omega (arith, a, b, c, d, e)
