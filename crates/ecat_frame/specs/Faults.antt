-- Which error says what of bytes that are no frame.
use Rattle.std.specs.Prelude.{◌≡◌, ℕ, ◌+◌, ◌<◌, List, length, take, slice_index, Err}
use Rattle.ecat_frame.specs.FrameGrammar.{InGrammar, IsViable}
use Rattle.ecat_frame.specs.FramePart.{Part, Front}
use Rattle.ecat_frame.specs.Refusals.{Reason, Reaches, step}
use Rattle.ecat_frame.specs.Refusals as reason
use Rattle.ecat_frame.specs.declared.error.FrameError.{FrameError}
use Rattle.ecat_frame.specs.declared.error.FrameError.TheVariants as fault

-- they are n bytes, and the front of a frame but no frame
pub record IsShort (n : ℕ) (bytes : List ℕ) : Type 0 where
  pub number : n ≡ length bytes
  pub viable : IsViable bytes
  pub unfinished : InGrammar bytes → ⊥

-- The first n of them are the front of a frame, and with the next one they are not; the first n lead
-- to a place that refuses that one for this reason.
pub record IsRefused (why : Reason) (n : ℕ) (bytes : List ℕ) : Type 0 where
  pub inside : n < length bytes
  pub viable : IsViable (take n bytes)
  pub ends : IsViable (take (n + 1) bytes) → ⊥
  pub at : Part
  pub reached : Reaches (Front 0) (take n bytes) at
  pub refused : step at (slice_index bytes n) ≡ Err why

-- what an error says of the bytes
abbrev pub IsFault : List ℕ → FrameError → Type 0
IsFault bytes (fault.Short n) = IsShort n bytes
IsFault bytes (fault.EtherType n) = IsRefused reason.EtherType n bytes
IsFault bytes (fault.FrameType n) = IsRefused reason.FrameType n bytes
IsFault bytes (fault.Length n) = IsRefused reason.Length n bytes
IsFault bytes (fault.Command n) = IsRefused reason.Command n bytes
IsFault bytes (fault.More n) = IsRefused reason.More n bytes
IsFault bytes (fault.TooLong n) = IsRefused reason.TooLong n bytes
