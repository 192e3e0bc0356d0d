pub mod LostStep
pub mod Rounds
