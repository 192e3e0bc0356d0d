mod AtOnce
mod Elapsed
mod Within
mod Reaching
mod ManyTicks
mod WorkedOff
mod History
mod LocalTime
mod Since
mod Steady
mod Behind
mod Rounds
mod Share
pub mod Exported
