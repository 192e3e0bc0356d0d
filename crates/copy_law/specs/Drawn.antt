-- How a clock other than the reference is drawn to it: its time is the reference's at the last receipt, 10 ns for each of its own ticks
-- since, and what is left of the difference that it then received.
use Rattle.std.specs.Prelude.{◌≡◌, ◌⊎◌, ℕ, ◌+◌, ◌<◌, ◌≤◌, unsigned_abs, ℤ, pos, ◌+ℤ◌, false, List, [], ◌∷◌, ◌++◌}
use Rattle.cable_tree.specs.PathSums.{arrive}
use Rattle.copy_law.specs.History.{clock_of}
use Rattle.copy_law.specs.DriftFrames.{sent_at}
use Rattle.copy_law.specs.Receipts.{receives}
use Rattle.copy_law.specs.Together.{reach_of_segment}
use Rattle.copy_law.specs.WholeTimes.{reference_time, whole_time}
use Rattle.dc_bounds.specs.Drawing.{IsDrawn}
use Rattle.dc_bounds.specs.LockNumbers.{ticks_to_correction}
use Rattle.delay_law.specs.Resting.{row_there}
use Rattle.frame_pass.specs.Rest.{AreResets}
use Rattle.local_clock.specs.LocalTime.{whole_clock_at}
use Rattle.local_clock.specs.Reading.{AreUntil, Happening}
use Rattle.local_clock.specs.Since.{receipt}
use Rattle.run_of_file.specs.Commissioned.{words_after}
use Rattle.run_of_file.specs.RunOfFile.{RunEnd}
use Rattle.segment_file.specs.Segment.{SegmentValue, row_at, tree_rows}

-- when drift frame k arrives at a position
abbrev pub arrives_at : SegmentValue → RunEnd → ℕ → ℕ → ℕ
arrives_at s first k p = sent_at s first k + arrive (tree_rows s.rows) (row_at s p)

-- the clock receives from none of the drift frames after number j, up to number k
abbrev pub AreMissed : SegmentValue → ℕ → ℕ → ℕ → ℕ → Type 0
AreMissed s r p j k = (i : ℕ) → j < i → i ≤ k → receives s r i p ≡ false

-- After k drift frames, and these events since the start of the file, it has received nothing yet.
pub record IsUndrawn (s : SegmentValue) (k r p : ℕ) (events : List Happening) : Type 0 where
  pub missed : AreMissed s r p 0 k
  pub rests : AreResets events

-- The last drift frame that came to it brought this difference: its whole time then, by what it had gone through before, is the
-- reference's at the frame's arrival there and the difference. It corrects by the file's speed.
pub record IsDrawnBy (s : SegmentValue) (first : RunEnd) (k r p : ℕ) (events : List Happening) : Type 0 where
  pub frame : ℕ
  pub difference : ℤ
  pub before : ℕ
  pub earlier : List Happening
  pub are : events ≡ earlier ++ receipt (arrives_at s first frame p) difference ∷ []
  pub until : AreUntil (arrives_at s first frame p) earlier
  pub some : 0 < frame
  pub within : frame ≤ k
  pub missed : AreMissed s r p frame k
  pub whole : pos (whole_time s (words_after s first) p earlier (arrives_at s first frame p))
      ≡ pos (reference_time s (words_after s first) r (arrives_at s first frame r)) +ℤ difference
  pub speed : (whole_clock_at (clock_of (row_there s p)) earlier (arrives_at s first frame p)).g ≡ ticks_to_correction s.head.speed
  pub drawn : IsDrawn s.head.ppm s.head.frame_ns s.head.speed s.head.loss_run (reach_of_segment s) before frame (unsigned_abs difference)

abbrev pub IsDrawing : SegmentValue → RunEnd → ℕ → ℕ → ℕ → List Happening → Type 0
IsDrawing s first k r p events = IsUndrawn s k r p events ⊎ IsDrawnBy s first k r p events
