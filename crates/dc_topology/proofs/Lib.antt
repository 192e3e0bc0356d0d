mod Walking
mod Steps
mod Outcomes
mod Bits
mod Hanging
pub mod Exported
