mod InRange
mod Ending
mod Calls
mod FromStart
mod Refused
mod AtStart
pub mod Exported
