-- What holds of a wire's numbers, so that all its times are ones of 64 bits.
use Rattle.std.specs.Prelude.{ℕ, ◌+◌, ◌*◌, ◌≤◌}

-- At most 1,000,000 frames are sent. The way and the wait of each are at most 10 ms, and nothing above
-- 8,000,000,000,000,000,000 fs is given to finish.
pub record IsInTime (round_trip commission drift sent last free : ℕ) : Type 0 where
  pub sendings : sent ≤ 1000000
  pub numbers : commission + drift ≤ sent
  pub way : round_trip ≤ 10000000000000
  pub latest : last ≤ 8000000000000000000 + 10000000000000 * sent
  pub next : free ≤ 8000000000000000000 + 10000000000000 * (sent + 1)
