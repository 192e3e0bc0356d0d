mod Climbing
mod Finding
mod Hung
mod Tables
mod Recursions
mod TrueHops
mod HopErrors
mod Alike
mod NearDelays
mod Order
mod Readings
mod AddedUp
mod Listing
mod Gathered
mod ByPosition
pub mod Exported
