-- How near a measured delay is to the true one.
use Rattle.std.specs.Prelude.{ℕ, ◌+◌, ◌*◌, ◌/◌, nat_eq, if◌then◌else◌}
use Rattle.dc_bounds.specs.TickBounds.{tick_gap}

-- B, in fs, of a clock of this weight; that of the reference, whose weight is 0, is 0
abbrev pub delay_bound : ℕ → ℕ → ℕ → ℕ
delay_bound ppm weight round_trip =
    if nat_eq weight 0 then 0 else (weight * tick_gap ppm round_trip + 1000000) / 2
