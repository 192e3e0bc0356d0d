mod Rest
mod Resting
mod Far
mod Passing
mod LatchFrames
mod Stepping
mod Places
mod Frames
mod Widths
mod Told
mod Measuring
mod Runs
mod Ended
mod Readings
mod Near
mod Staying
pub mod Exported
