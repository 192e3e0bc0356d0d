mod Measured
mod Lists
mod Own
mod KeptEdges
mod EdgesOfRun
mod Pieces
pub mod Exported
