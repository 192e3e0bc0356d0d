-- The offset of a clock.
use Rattle.std.specs.Prelude.{ℕ, ◌+◌}
use Rattle.wrap_time.specs.WordLess.{word_less}

-- the epoch and the delay, less the receive time at the processing unit, as a word of so many bits
abbrev pub offset : ℕ → ℕ → ℕ → ℕ → ℕ
offset bits epoch_ns delay_ns unit = word_less bits (epoch_ns + delay_ns) unit
