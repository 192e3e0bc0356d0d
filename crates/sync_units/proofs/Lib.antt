mod Ticks
mod Kept
mod NextEdges
mod Exact
mod Calls
mod KeptOfSignal
mod Spare
mod Rising
pub mod Exported
