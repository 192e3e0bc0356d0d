mod Registers
mod Starts
mod Times
mod Visits
mod Numbering
mod AtSlaves
mod AtSegments
pub mod Exported
