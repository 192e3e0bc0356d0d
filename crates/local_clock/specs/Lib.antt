pub mod StepRule
pub mod Reading
pub mod LocalTime
pub mod FirstReaching
pub mod AtOnce
pub mod WorkedOff
pub mod Since
pub mod InsideClock
