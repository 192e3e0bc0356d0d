pub mod ShapeRows
pub mod Latched
pub mod MeasuredDelay
pub mod Refusals
pub mod Table
pub mod LatchLaw
pub mod InsideTable
