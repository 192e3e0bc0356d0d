mod Rows
mod Configured
mod Begun
mod Wires
mod Started
mod Phases
pub mod Exported
