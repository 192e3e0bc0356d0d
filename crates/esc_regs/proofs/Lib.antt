mod Numbers
mod TableFacts
mod Zeros
mod Bytes
mod Whole
mod Starting
mod RowWrites
mod Storing
mod Showing
mod OwnTimes
pub mod Exported
