mod Sizes
mod IntervalFacts
mod Growth
mod Climbing
mod Upwards
mod ByPosition
mod WeightSize
mod Leading
mod Locking
mod Drawing
mod RunLength
mod Weightless
mod FirstClock
mod Staying
pub mod Exported
