pub mod AtRest
pub mod Resting
pub mod HeldTimes
pub mod OfFile
pub mod Far
pub mod ToldTimes
pub mod NearDelays
