-- How far a number of ticks can be from the time that they take, in fs, where each gap between ticks is within ppm
-- of 10 ns.
use Rattle.std.specs.Prelude.{ℕ, ◌+◌, ◌-◌, ◌*◌, ◌/◌}

-- the fs that a tick stands for
abbrev pub tick_fs : ℕ
tick_fs = 10000000

-- the fs by which a gap may differ from it, called e
abbrev pub tolerance : ℕ → ℕ
tolerance ppm = 10 * ppm

-- G: the time of the ticks in an interval of this length, less that length, in size
abbrev pub tick_gap : ℕ → ℕ → ℕ
tick_gap ppm length = tick_fs + tolerance ppm * (length / (tick_fs - tolerance ppm) + 2)

-- H: the same by the number of ticks
abbrev pub count_gap : ℕ → ℕ → ℕ
count_gap ppm ticks = tick_fs + (ticks + 1) * tolerance ppm

-- nmin: the least number of ticks in an interval of this length
abbrev pub least_ticks : ℕ → ℕ → ℕ
least_ticks ppm length = length / (tick_fs + tolerance ppm)

-- Q: how far two clocks can drift apart in an interval of this length, in ns
abbrev pub jump : ℕ → ℕ → ℕ
jump ppm length = 2 * tick_gap ppm length / 1000000
