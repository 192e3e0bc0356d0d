-- How fast the clocks are drawn to the reference by the frames that carry its time.
use Rattle.std.specs.Prelude.{ℕ, suc, zero, ◌+◌, ◌-◌, ◌*◌, ◌/◌, ℤ, pos, ◌-ℤ◌, unsigned_abs}
use Rattle.std.specs.Int.{div_ceil, int_min}
use Rattle.dc_bounds.specs.TickBounds.{jump, least_ticks}

-- a frame period in fs
abbrev pub period_fs : ℕ → ℕ
period_fs frame_ns = 1000000 * frame_ns

-- the ticks to a correction, by the speed counter's start
abbrev pub ticks_to_correction : ℕ → ℕ
ticks_to_correction speed = speed / 64

-- the corrections that are sure in k frame periods, less what the clocks drift apart in them
abbrev pub gain : ℕ → ℕ → ℕ → ℕ → ℤ
gain ppm frame_ns speed k =
    pos (least_ticks ppm (k * period_fs frame_ns) / ticks_to_correction speed) -ℤ pos (jump ppm (k * period_fs frame_ns))

-- the least of f 1 to f (n + 1)
abbrev pub least_of : (ℕ → ℤ) → ℕ → ℤ
least_of f zero = f 1
least_of f (suc n) = int_min (least_of f n) (f (n + 2))

-- μ: the least gain between two frames that come, with at most loss_run lost between them, in ns
abbrev pub lock_step : ℕ → ℕ → ℕ → ℕ → ℤ
lock_step ppm frame_ns speed loss_run = least_of (gain ppm frame_ns speed) loss_run

-- Z: the time from the latch frame to the first frame that draws a clock, at most
abbrev pub reach_fs : ℕ → ℕ → ℕ → ℕ → ℕ
reach_fs measuring clocks loss_run frame_ns = (3 * measuring + 3 * clocks + loss_run + 1) * period_fs frame_ns

-- the longest time between two frames that come
abbrev pub silence_fs : ℕ → ℕ → ℕ
silence_fs loss_run frame_ns = (loss_run + 1) * period_fs frame_ns

-- μ as a natural number, where it is above 0: by so many ns at least a difference falls from one frame that comes to the next,
-- or else to no more than the drift of loss_run + 1 periods
abbrev pub sure_fall : ℕ → ℕ → ℕ → ℕ → ℕ
sure_fall ppm frame_ns speed loss_run = unsigned_abs (lock_step ppm frame_ns speed loss_run)

-- N: so many falls by μ bring the drift of this time down to that of loss_run + 1 periods
abbrev pub lock_falls : ℕ → ℕ → ℕ → ℕ → ℕ → ℕ
lock_falls ppm frame_ns speed loss_run reach =
    div_ceil (jump ppm reach - jump ppm (silence_fs loss_run frame_ns)) (sure_fall ppm frame_ns speed loss_run)

-- K: the frames after which no difference is above the drift of loss_run + 1 periods, where the first of them comes
-- within reach of the latch frame and μ is above 0
abbrev pub lock_count : ℕ → ℕ → ℕ → ℕ → ℕ → ℕ
lock_count ppm frame_ns speed loss_run reach = (loss_run + 1) * lock_falls ppm frame_ns speed loss_run reach
