mod Trying
mod Shapes
mod Received
mod Causes
mod Counting
pub mod Exported
