-- A clock that is drawn to the reference by the differences that it receives, of numbers alone.
use Rattle.std.specs.Prelude.{ℕ, ◌+◌, ◌*◌, ◌≤◌, ◌⊎◌}
use Rattle.dc_bounds.specs.TickBounds.{jump}
use Rattle.dc_bounds.specs.LockNumbers.{silence_fs, sure_fall}

-- A clock has received so many differences before, and now one of this size with the drift frame of this number. The number is at most
-- loss_run + 1 for each of them; the size is at most the drift of loss_run + 1 periods, or that of the reach less μ for each one before.
pub record IsDrawn (ppm frame_ns speed loss_run reach before frame size : ℕ) : Type 0 where
  pub often : frame ≤ (before + 1) * (loss_run + 1)
  pub fallen : (size ≤ jump ppm (silence_fs loss_run frame_ns)) ⊎ (size + before * sure_fall ppm frame_ns speed loss_run ≤ jump ppm reach)
