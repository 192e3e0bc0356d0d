-- How long a run is, in ns and in frames.
use Rattle.std.specs.Prelude.{ℕ, ◌+◌, ◌*◌, ◌/◌}

-- the time that arming may take, from the last time of the reference that came back, and two periods more
abbrev pub lead_ns : ℕ → ℕ → ℕ → ℕ
lead_ns clocks loss_run frame_ns = (3 * clocks + loss_run + 2) * frame_ns

-- U: a time, from there on, that reaches past the last edge of every signal
abbrev pub run_time_ns : ℕ → ℕ → ℕ → ℕ → ℕ → ℕ
run_time_ns clocks loss_run frame_ns cycle_ns cycles = lead_ns clocks loss_run frame_ns + (cycles + 2) * cycle_ns

-- the frames that a run sends: those of U and of a thousandth of it, and three more
abbrev pub run_frames : ℕ → ℕ → ℕ → ℕ → ℕ → ℕ
run_frames clocks loss_run frame_ns cycle_ns cycles =
    let u = run_time_ns clocks loss_run frame_ns cycle_ns cycles in
    (u + u / 1000) / frame_ns + 3

-- the start of the units, before it is cut to 64 bits: the first whole number of cycles behind r and the lead, where r
-- is the last time of the reference that came back
abbrev pub start_ns : ℕ → ℕ → ℕ → ℕ
start_ns r lead cycle_ns = ((r + lead) / cycle_ns + 1) * cycle_ns
