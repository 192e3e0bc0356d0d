-- How a frame is read.
use Rattle.std.specs.Prelude.{◌≡◌, ℕ, ◌+◌, ◌<◌, ◌≤◌, ◌⊎◌, List, length, take, slice_index, Result, Ok, Err}
use Rattle.ecat_frame.specs.FramePart.{Part}
use Rattle.ecat_frame.specs.Refusals.{Reason, Reaches, refusal, step}
use Rattle.ecat_frame.specs.FramePart as part
use Rattle.ecat_frame.specs.declared.error.FrameError.{FrameError}
use Rattle.ecat_frame.specs.declared.part.Part.{Part as Kept}
use Rattle.ecat_frame.specs.declared.part.Part.TheVariants as kept

-- a place that is kept, as the place that it is
abbrev pub part_of : Kept → Part
part_of (kept.Front n) = part.Front n
part_of kept.HeaderLow = part.HeaderLow
part_of (kept.HeaderHigh low) = part.HeaderHigh low
part_of (kept.Head room left at) = part.Head room left at
part_of (kept.LengthLow room left) = part.LengthLow room left
part_of (kept.LengthHigh room left low) = part.LengthHigh room left low
part_of (kept.Body room left body) = part.Body room left body
part_of (kept.Padding room) = part.Padding room

abbrev pub answer_of : Result Kept FrameError → Result Part FrameError
answer_of (Ok p) = Ok (part_of p)
answer_of (Err e) = Err e

-- a step at byte n
abbrev pub told : ℕ → Result Part Reason → Result Part FrameError
told n (Ok p) = Ok p
told n (Err r) = Err (refusal r n)

-- a place that the reading reaches: some bytes complete the frame from there
abbrev pub IsLive : Part → Type 0
IsLive (part.Front n) = n < 14
IsLive part.HeaderLow = Unit {0}
IsLive (part.HeaderHigh low) = low < 256
IsLive (part.Head room left at) = (12 ≤ left) × (left ≤ 1498) × (at < 6)
IsLive (part.LengthLow room left) = (12 ≤ left) × (left ≤ 1498)
IsLive (part.LengthHigh room left low) = (left ≤ 1498) × ((12 + low ≡ left) ⊎ (24 + low ≤ left)) × (low < 256)
IsLive (part.Body room left body) = (0 < body) × (left ≤ 1498) × ((left ≡ 0) ⊎ (12 ≤ left))
IsLive (part.Padding room) = Unit {0}

-- the bytes are read to the end, and lead there
pub record LeadsTo (bytes : List ℕ) (p : Part) : Type 0 where
  pub live : IsLive p
  pub reached : Reaches (part.Front 0) bytes p

-- the first n bytes lead to a place that refuses the next one
pub record StopsAt (bytes : List ℕ) (e : FrameError) : Type 0 where
  pub n : ℕ
  pub why : Reason
  pub is : e ≡ refusal why n
  pub inside : n < length bytes
  pub at : Part
  pub live : IsLive at
  pub reached : Reaches (part.Front 0) (take n bytes) at
  pub refused : step at (slice_index bytes n) ≡ Err why
