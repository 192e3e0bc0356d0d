mod ToldTimes
mod SettledAt
mod ToldStart
mod StartStays
mod ArmingDatagrams
mod ArmingVisit
mod ArmingStep
mod ArmingProgress
mod ArmingWalk
mod ArmedRuns
mod Ahead
mod Raised
mod Edges
mod EndOfRun
mod Apart
mod InWindow
pub mod Exported
