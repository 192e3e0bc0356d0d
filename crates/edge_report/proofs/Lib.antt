mod Places
mod Texts
mod Sorting
mod Ordering
mod Pairs
mod Reaching
mod Firsts
mod Spreading
mod GreatestPair
pub mod Exported
