mod Gaps
mod Pieces
mod Walks
mod TickLaws
mod ByShare
mod Steady
mod Kept
pub mod Exported
