-- How near the local copies of the clocks are to each other, and the edges that they raise.
use Rattle.std.specs.Prelude.{ℕ, ◌+◌, ◌*◌, ◌/◌}
use Rattle.dc_bounds.specs.TickBounds.{tick_fs, tick_gap, count_gap, jump}
use Rattle.dc_bounds.specs.LockNumbers.{period_fs}

-- X, in fs: the copy of a clock with these bound of its delay and true delay, less that of the reference, in size
abbrev pub copy_bound : ℕ → ℕ → ℕ → ℕ → ℕ → ℕ
copy_bound ppm frame_ns loss_run bound delay =
    1000000 * jump ppm ((loss_run + 1) * period_fs frame_ns) + bound + 2 * tick_gap ppm ((loss_run + 1) * period_fs frame_ns + delay)

-- W, in fs: two edges of one index at clocks with the copy bounds x and y, whose shifts differ by so many ns, are
-- apart by that shift, and by no more than this beside
abbrev pub window : ℕ → ℕ → ℕ → ℕ → ℕ
window ppm shift_ns x y =
    tick_fs + x + y + count_gap ppm ((1000000 * shift_ns + tick_fs + x + y) / tick_fs)
