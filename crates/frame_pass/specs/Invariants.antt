-- What holds of a segment all the time.
use Rattle.std.specs.Prelude.{◌≡◌, ℕ, ◌+◌, ◌*◌, ◌≤◌, List, [], ◌∷◌, length, map, Option, IfSome}
use Rattle.std.specs.List.{AllByRecursion}
use Rattle.ecat_frame.specs.FrameGrammar.{FrameValue}
use Rattle.frame_pass.specs.SlaveState.{Visits, Timing, Slave, fixed_part}
use Rattle.frame_pass.specs.SegmentState.{SegmentState, segment_step}

-- the slave's present time, where it has one, is not past a time
abbrev pub StandsBy : ℕ → Option Timing → Type 0
StandsBy limit timing = IfSome timing (λ m. m.clock.instant ≤ limit)

-- a frame visits the slave within the round trip
pub record IsWithin (round_trip : ℕ) (v : Visits) : Type 0 where
  pub arrive : v.arrive ≤ round_trip
  pub back3 : IfSome v.back3 (λ at. at ≤ round_trip)
  pub back1 : IfSome v.back1 (λ at. at ≤ round_trip)
  pub back2 : IfSome v.back2 (λ at. at ≤ round_trip)

-- The slave has 4096 bytes of registers, and its present time is not past a time.
pub record IsSound (round_trip limit : ℕ) (s : Slave) : Type 0 where
  pub size : length s.registers.bytes ≡ 4096
  pub time : StandsBy limit s.timing
  pub visits : IsWithin round_trip s.visits

-- Every slave is sound: 4096 bytes of registers, visits within the round trip, and a present time that is not past the time
-- before which no frame leaves.
abbrev pub IsSoundSegment : SegmentState → Type 0
IsSoundSegment s = AllByRecursion (IsSound s.round_trip s.free) s.slaves

-- what never changes of a segment
pub record IsSameSegment (s t : SegmentState) : Type 0 where
  pub slaves : map fixed_part t.slaves ≡ map fixed_part s.slaves
  pub round_trip : t.round_trip ≡ s.round_trip
  pub losses : t.losses ≡ s.losses

-- the segment after these frames, each sent after the same wait
unfoldable pub after_frames : ℕ → List FrameValue → SegmentState → SegmentState
after_frames wait_ns [] s = s
after_frames wait_ns (f ∷ fs) s = after_frames wait_ns fs (segment_step s wait_ns f).0

-- the last sending was at its number times a period, and the next may leave a period later
pub record IsOnTime (period_fs : ℕ) (s : SegmentState) : Type 0 where
  pub last : s.last ≡ s.sent * period_fs
  pub free : s.free ≤ s.last + period_fs

-- each sending was numbered as a commission or as a drift frame
abbrev pub IsNumbered : SegmentState → Type 0
IsNumbered s = s.commission + s.drift ≡ s.sent

-- nothing was sent, and nothing given to finish
pub record IsUnsent (s : SegmentState) : Type 0 where
  pub sent : s.sent ≡ 0
  pub last : s.last ≡ 0
  pub free : s.free ≡ 0
