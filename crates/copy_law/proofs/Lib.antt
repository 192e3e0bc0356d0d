mod Untouching
mod Unwritten
mod Corrections
mod Slaves
mod Held
pub mod OnTheWay
pub mod AtSlaves
pub mod Behind
pub mod States
mod Drifting
pub mod First
pub mod Bringing
pub mod Registers
pub mod Writing
pub mod Frames
pub mod Setting
pub mod Delays
pub mod Runs
pub mod BehindLatch
mod Standing
mod History
mod Latched
mod Whole
mod Histories
mod Copies
mod SystemTimes
mod LockSizes
mod Receiving
mod Drawing
mod Locked
mod Passing
mod CopiesNear
mod Replies
pub mod Readings
pub mod Times
pub mod References
pub mod FewBehind
pub mod RateFrames
pub mod Rated
pub mod Exported
