mod Children
mod Levels
mod Rising
mod Members
mod Checked
mod Walking
mod Bounds
mod Tables
mod Refused
mod Laps
mod Inside
mod Standing
mod Pieces
mod Renumbered
pub mod Exported
